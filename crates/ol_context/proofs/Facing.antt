-- Where no pair is active and none stuck, no two principal ports are linked.
use Rattle.std.proofs.Common.{◌≡◌, ℕ, List, [], ◌∷◌, length, Option, Some, None, inl, inr, refl, arith}
use Rattle.ol_net.specs.declared.parts.Kind.{Kind}
use Rattle.ol_net.specs.declared.parts.Rule.{Rule}
use Rattle.ol_net.specs.Nets.{NamedNet, slot, Linked, Faces}
use Rattle.ol_net.specs.Pairs.{IsActive, HasPair, HasStuck}
use Rattle.ol_net.specs.Rules.{rule_of}
use Rattle.ol_context.specs.Facing.{NoPairsAreLeft}

module _ {A : Type 0} (N : NamedNet A) (complete : (f g : A) (r : Rule) → IsActive N f g r → ⊥)
    (stuck : HasStuck N 0) where
  none_listed : (x y : A) → HasPair stuck.pairs x y → ⊥
  none_listed x y h = go stuck.pairs stuck.count h
    where
      go : (ps : List (A × A)) → length ps ≡ 0 → HasPair ps x y → ⊥
      go [] e (inl k) = k
      go [] e (inr k) = k
      go (p ∷ ps) e k = absurd (omega arith)

  flip : (x y : A) → Linked N (slot x 0) (slot y 0) → Linked N (slot y 0) (slot x 0)
  flip x y (inl h) = inr h
  flip x y (inr h) = inl h

  not_facing : (x y : A) (k : Kind) (i : ℕ) (l : Kind) (j : ℕ) → Faces N x y k i l j → ⊥
  not_facing x y k i l j f = go (rule_of k i l j) (rule_of l j k i) refl refl
    where
      back : Faces N y x l j k i
      back = record { first = f.second; second = f.first; linked = flip x y f.linked }

      go : (r s : Option Rule) → rule_of k i l j ≡ r → rule_of l j k i ≡ s → ⊥
      go (Some r) s e e' = complete x y r (record { k = k; i = i; l = l; j = j; faces = f; fits = e })
      go None (Some s) e e' = complete y x s (record { k = l; i = j; l = k; j = i; faces = back; fits = e' })
      go None None e e' = none_listed x y ((stuck.all x y).1
          (record { k = k; i = i; l = l; j = j; faces = f; first = e; second = e' }))

module _ {A : Type 0} where
  pub no_pairs_are_left : NoPairsAreLeft A
  no_pairs_are_left N is_net complete stuck x y l =
      let o = is_net.of_ports (slot x 0) (slot y 0) l in
      not_facing N complete stuck x y o.0.0 o.0.1 o.1.0 o.1.1 (record { first = o.0.2; second = o.1.2; linked = l })
