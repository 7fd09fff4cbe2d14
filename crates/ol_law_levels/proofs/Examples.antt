-- One small net with a stuck pair is levelled; in another a path crosses the pair.
-- For `stuck_examples`.
use Rattle.std.proofs.Common.{◌≡◌, ℕ, zero, suc, ◌<◌, Bool, true, false, not, inl, inr, refl, sym, subst, arith}
use Rattle.ol_context.specs.Contexts.{Context}
use Rattle.ol_context.specs.Paths.{inward, outward, Path, ends, goes}
use Rattle.ol_law_edges.specs.Edges.{IsIn}
use Rattle.ol_net.specs.Nets.{NamedPort, free, slot, HasNode, Linked}
use Rattle.ol_net.specs.Pairs.{IsStuck}
use Rattle.ol_net.specs.Parts.{arity}
use Rattle.ol_net.specs.declared.parts.Kind.{Kind}
use Rattle.ol_net.specs.declared.parts.Kind.TheVariants as kind
use Rattle.ol_invariance.specs.Tables.{two_facing}
use Rattle.ol_law_levels.specs.Levels.{CanStand, depth_beside, out_beside, IsLevelled}
use Rattle.ol_law_levels.specs.Examples.{stuck_net, LevelsAllowStuckPairs, UnlevelledPairsAreCrossed}
use Rattle.ol_law_levels.proofs.Copies.{opposite}
use Rattle.ol_law_levels.proofs.Stuck.{stuck_of_sharing}

-- depths of a net of two nodes
unfoldable pub depth : NamedPort ℕ → ℕ
depth (free zero) = 0
depth (free (suc f)) = 1
depth (slot zero zero) = 1
depth (slot zero (suc s)) = 0
depth (slot (suc x) s) = 1

is_out : NamedPort ℕ → Bool
is_out (free zero) = false
is_out (free (suc f)) = true
is_out (slot zero zero) = false
is_out (slot zero (suc s)) = true
is_out (slot (suc x) zero) = true
is_out (slot (suc x) (suc s)) = false

Agree : NamedPort ℕ → NamedPort ℕ → Type 0
Agree p q = (depth p ≡ depth q) × (is_out p ≡ not (is_out q))

-- what holds of a pair holds of its two parts
pub of_pair : (P : NamedPort ℕ → NamedPort ℕ → Type 0) (p q : NamedPort ℕ)
    (l : NamedPort ℕ × NamedPort ℕ) → (p, q) ≡ l → P l.0 l.1 → P p q
of_pair P p q l e h = subst (λ (l : NamedPort ℕ × NamedPort ℕ). P l.0 l.1) (sym e) h

agree : (p q : NamedPort ℕ) → IsIn (p, q) stuck_net.links → Agree p q
unfolding Agree depth is_out
agree p q (inl e) = of_pair Agree p q (slot 0 0, slot 1 0) e (refl, refl)
agree p q (inr (inl e)) = of_pair Agree p q (free 0, slot 0 1) e (refl, refl)
agree p q (inr (inr (inl e))) = of_pair Agree p q (free 1, slot 1 1) e (refl, refl)
agree p q (inr (inr (inr (inl e)))) = of_pair Agree p q (free 2, slot 1 2) e (refl, refl)
agree p q (inr (inr (inr (inr h)))) = absurd h

linked : (p q : NamedPort ℕ) → Linked stuck_net p q → Agree p q
unfolding Agree
linked p q (inl h) = agree p q h
linked p q (inr h) =
    let r = agree q p h in
    (sym r.0, opposite (is_out q) (is_out p) r.1)

-- what holds of the two nodes holds of each
by_node : (P : ℕ → Kind → ℕ → Type 0) → P 0 kind.Croissant 0 → P 1 kind.Fan 0 →
    (x : ℕ) (k : Kind) (i : ℕ) → HasNode stuck_net x k i → P x k i
by_node P a b x k i (inl e) = subst (λ (n : ℕ × Kind × ℕ). P n.0 n.1 n.2) (sym e) a
by_node P a b x k i (inr (inl e)) = subst (λ (n : ℕ × Kind × ℕ). P n.0 n.1 n.2) (sym e) b
by_node P a b x k i (inr (inr h)) = absurd h

abbrev Beside : ℕ → Kind → Type 0
Beside x k = (s : ℕ) → s < arity k →
    (depth (slot x (suc s)) ≡ depth_beside k s (depth (slot x 0)))
    × (is_out (slot x (suc s)) ≡ out_beside k s (is_out (slot x 0)))

croissant_beside : Beside 0 kind.Croissant
unfolding depth is_out
croissant_beside s b = (refl, refl)

fan_beside : Beside 1 kind.Fan
unfolding depth is_out
fan_beside s b = (refl, refl)

pub croissant_stands : (out : Bool) → CanStand kind.Croissant 0 (depth (slot 0 0)) out
unfolding depth
croissant_stands out = omega arith

pub fan_stands : (out : Bool) → CanStand kind.Fan 0 (depth (slot 1 0)) out
unfolding depth
fan_stands out = omega arith

levelled : IsLevelled stuck_net
unfolding Agree depth is_out
levelled = record {
  depth = depth;
  is_out = is_out;
  links = linked;
  stands = by_node (λ x k i. CanStand k i (depth (slot x 0)) (is_out (slot x 0)))
      (croissant_stands (is_out (slot 0 0))) (fan_stands (is_out (slot 1 0)));
  beside = λ x k i s h b.
      by_node (λ x k i. Beside x k) croissant_beside fan_beside x k i h s b;
  root = (refl, refl);
  names = λ f. (refl, refl);
}

pub levels_allow_stuck_pairs : LevelsAllowStuckPairs
levels_allow_stuck_pairs = (
  levelled,
  record {
    k = kind.Croissant;
    i = 0;
    l = kind.Fan;
    j = 0;
    faces = record { first = inl refl; second = inr (inl refl); linked = inl (inl refl) };
    first = refl;
    second = refl;
  },
)

lam_fan_stuck : IsStuck (two_facing kind.Lam kind.Fan) 0 1
lam_fan_stuck = record {
  k = kind.Lam;
  i = 0;
  l = kind.Fan;
  j = 0;
  faces = record { first = inl refl; second = inr (inl refl); linked = inl (inl refl) };
  first = refl;
  second = refl;
}

crossed : (c : Context) → Path (two_facing kind.Lam kind.Fan) (free 0) c 2 c
crossed c = goes (inl (inr (inl refl))) (inl refl) (inward {s = 0} (omega arith) refl)
    (goes (inl (inl refl)) (inr (inl refl)) (outward {s = 0} (omega arith) refl)
    (ends (inr (inr (inr (inr (inl refl)))))))

pub unlevelled_pairs_are_crossed : UnlevelledPairsAreCrossed
unfolding lam_fan_stuck
unlevelled_pairs_are_crossed = (
  lam_fan_stuck,
  crossed,
  λ L. (stuck_of_sharing (two_facing kind.Lam kind.Fan) L 0 1
      lam_fan_stuck).0,
)
