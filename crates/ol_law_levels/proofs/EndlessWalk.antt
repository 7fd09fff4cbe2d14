-- A levelled net without an active pair, in which a walk goes round for ever.
-- For `cut_example`.
use Rattle.std.proofs.Common.{◌≡◌, ℕ, zero, suc, ◌*◌, ◌<◌, [], ◌∷◌, Bool, true, false, not, inl}
use Rattle.std.proofs.Common.{inr, refl, sym, ap, subst, arith}
use Rattle.ol_context.specs.Paths.{inward}
use Rattle.ol_context.specs.Short.{live}
use Rattle.ol_context.specs.Ways.{start, on, WalkStands}
use Rattle.ol_law_edges.specs.Edges.{IsIn}
use Rattle.ol_net.specs.Nets.{NamedPort, free, slot, HasNode, Linked}
use Rattle.ol_net.specs.Pairs.{IsComplete}
use Rattle.ol_net.specs.Parts.{arity}
use Rattle.ol_net.specs.declared.parts.Kind.{Kind}
use Rattle.ol_net.specs.declared.parts.Kind.TheVariants as kind
use Rattle.ol_readback.specs.Frames.{asked}
use Rattle.ol_readback.specs.Heads.{spends}
use Rattle.ol_readback.specs.ReadTrees.{IsTree, spent, end}
use Rattle.ol_readback.specs.declared.answers.ReadNode.TheVariants as node
use Rattle.ol_law_levels.specs.Levels.{CanStand, depth_beside, out_beside, IsLevelled}
use Rattle.ol_law_levels.specs.EndlessWalk.{ring_net, RingIsCut}
use Rattle.ol_law_levels.proofs.Copies.{opposite}
use Rattle.ol_law_levels.proofs.Examples.{depth, of_pair, croissant_stands, fan_stands}

is_out : NamedPort ℕ → Bool
is_out (free zero) = false
is_out (free (suc f)) = true
is_out (slot x zero) = false
is_out (slot x (suc s)) = true

Agree : NamedPort ℕ → NamedPort ℕ → Type 0
Agree p q = (depth p ≡ depth q) × (is_out p ≡ not (is_out q))

agree : (p q : NamedPort ℕ) → IsIn (p, q) ring_net.links → Agree p q
unfolding Agree depth is_out
agree p q (inl e) = of_pair Agree p q (free 0, slot 0 1) e (refl, refl)
agree p q (inr (inl e)) = of_pair Agree p q (slot 0 0, slot 1 2) e (refl, refl)
agree p q (inr (inr (inl e))) = of_pair Agree p q (slot 1 0, slot 1 1) e (refl, refl)
agree p q (inr (inr (inr h))) = absurd h

linked : (p q : NamedPort ℕ) → Linked ring_net p q → Agree p q
unfolding Agree
linked p q (inl h) = agree p q h
linked p q (inr h) =
    let r = agree q p h in
    (sym r.0, opposite (is_out q) (is_out p) r.1)

by_node : (P : ℕ → Kind → ℕ → Type 0) → P 0 kind.Croissant 0 → P 1 kind.Fan 0 →
    (x : ℕ) (k : Kind) (i : ℕ) → HasNode ring_net x k i → P x k i
by_node P a b x k i (inl e) = subst (λ (n : ℕ × Kind × ℕ). P n.0 n.1 n.2) (sym e) a
by_node P a b x k i (inr (inl e)) = subst (λ (n : ℕ × Kind × ℕ). P n.0 n.1 n.2) (sym e) b
by_node P a b x k i (inr (inr h)) = absurd h

abbrev Beside : ℕ → Kind → Type 0
Beside x k = (s : ℕ) → s < arity k →
    (depth (slot x (suc s)) ≡ depth_beside k s (depth (slot x 0)))
    × (is_out (slot x (suc s)) ≡ out_beside k s (is_out (slot x 0)))

croissant_beside : Beside 0 kind.Croissant
unfolding depth is_out
croissant_beside s b = (refl, refl)

fan_beside : Beside 1 kind.Fan
unfolding depth is_out
fan_beside s b = (refl, refl)

levelled : IsLevelled ring_net
unfolding Agree depth is_out
levelled = record {
  depth = depth;
  is_out = is_out;
  links = linked;
  stands = by_node (λ x k i. CanStand k i (depth (slot x 0)) (is_out (slot x 0)))
      (croissant_stands (is_out (slot 0 0))) (fan_stands (is_out (slot 1 0)));
  beside = λ x k i s h b. by_node (λ x k i. Beside x k) croissant_beside fan_beside x k i h s b;
  root = (refl, refl);
  names = λ f. (refl, refl);
}

-- no link joins two principal ports
apart : (f g : ℕ) → IsIn (slot f 0, slot g 0) ring_net.links → ⊥
apart f g (inl e) =
    let r : slot f 0 ≡ free 0 = ap (λ (l : NamedPort ℕ × NamedPort ℕ). l.0) e in absurd (cc)
apart f g (inr (inl e)) =
    let r : slot g 0 ≡ slot 1 2 = ap (λ (l : NamedPort ℕ × NamedPort ℕ). l.1) e in absurd (cc)
apart f g (inr (inr (inl e))) =
    let r : slot g 0 ≡ slot 1 1 = ap (λ (l : NamedPort ℕ × NamedPort ℕ). l.1) e in absurd (cc)
apart f g (inr (inr (inr h))) = absurd h

none_facing : (f g : ℕ) → Linked ring_net (slot f 0) (slot g 0) → ⊥
none_facing f g (inl h) = apart f g h
none_facing f g (inr h) = apart g f h

complete : IsComplete ring_net
complete f g r a = none_facing f g a.faces.linked

-- up through the croissant, the fan, and the fan twice more
stands : WalkStands ring_net (free 0) (asked [] 0) 4
stands = record {
  port = slot 1 0;
  context = _;
  way = on (on (on (on start
      (inl (inl refl)) (inl refl) (inward {s = 0} (omega arith) refl))
      (inl (inr (inl refl))) (inr (inl refl)) (inward {s = 1} (omega arith) refl))
      (inl (inr (inr (inl refl)))) (inr (inl refl)) (inward {s = 0} (omega arith) refl))
      (inl (inr (inr (inl refl)))) (inr (inl refl)) (inward {s = 0} (omega arith) refl);
  node = 1;
  at = 1;
  linked = inl (inr (inr (inl refl)));
}

tree : IsTree ring_net 1 (2 * live ring_net) (node.Cut ∷ [])
tree = spent (omega arith) (spends {n = 0} (omega arith) (λ m b. absurd (omega arith)) stands) end

pub ring_is_cut : RingIsCut
ring_is_cut = (levelled, complete, tree)
