-- A step makes at most one row of each.
use Rattle.std.proofs.Common.{◌≡◌, ◌≢◌, ℕ, ◌+◌, ◌⊎◌, inl, inr, List, [], ◌∷◌, refl, sym, ap, ◌∙◌, subst}
use Rattle.ol_rules.specs.Rewriting.{Action, meeting, crossing}
use Rattle.ol_law_optimality.specs.Routes.{Crossing, rise, fall, node_of, Route, Residue, ends}
use Rattle.ol_law_optimality.specs.Routes.{ends_at_copy, passes, meets_up, meets_down, crosses_up}
use Rattle.ol_law_optimality.specs.Routes.{crosses_down, IsResidue, from_other, from_copy, IsLinkOf}

module _ {A : Type 0} (born : ℕ → A) (f g : A) (n : ℕ) (a : Action) (apart : f ≢ g) where
  abbrev Rest : List (Crossing A) → A → List (Crossing A) → A → Type 0
  Rest w y v z = Residue born f g n a w y v z

  abbrev Pair : Type 0
  Pair = List (Crossing A) × A

  -- what a row leaves, by its first crossings
  pub data Shape (w : List (Crossing A)) (y : A) (v : List (Crossing A)) (z : A) : Type 0 where
    empty : w ≡ [] → y ≢ f → y ≢ g → v ≡ [] → z ≡ y → Shape w y v z
    copied : (p j : ℕ) → a ≡ crossing j → w ≡ rise f p ∷ [] → y ≡ g → v ≡ [] → z ≡ born (n + p) →
        Shape w y v z
    passed : (c : Crossing A) (w' v' : List (Crossing A)) → w ≡ c ∷ w' → node_of c ≢ f →
        node_of c ≢ g → v ≡ c ∷ v' → Rest w' y v' z → Shape w y v z
    met_up : (s : ℕ) (w' : List (Crossing A)) → a ≡ meeting → w ≡ rise f s ∷ fall g s ∷ w' →
        Rest w' y v z → Shape w y v z
    met_down : (s : ℕ) (w' : List (Crossing A)) → a ≡ meeting → w ≡ rise g s ∷ fall f s ∷ w' →
        Rest w' y v z → Shape w y v z
    crossed_up : (p q j : ℕ) (w' v' : List (Crossing A)) → a ≡ crossing j →
        w ≡ rise f p ∷ fall g q ∷ w' → v ≡ fall (born (n + p)) q ∷ rise (born q) p ∷ v' →
        Rest w' y v' z → Shape w y v z
    crossed_down : (p q j : ℕ) (w' v' : List (Crossing A)) → a ≡ crossing j →
        w ≡ rise g q ∷ fall f p ∷ w' → v ≡ fall (born q) p ∷ rise (born (n + p)) q ∷ v' →
        Rest w' y v' z → Shape w y v z

  pub shape : {w v : List (Crossing A)} {y z : A} → Rest w y v z → Shape w y v z
  shape (ends d d') = empty refl d d' refl refl
  shape (ends_at_copy {p = p} {j = j} e) = copied p j e refl refl refl refl
  shape (passes {c = c} {w = w} {v = v} d d' r) = passed c w v refl d d' refl r
  shape (meets_up {s = s} {w = w} e r) = met_up s w e refl r
  shape (meets_down {s = s} {w = w} e r) = met_down s w e refl r
  shape (crosses_up {p = p} {q = q} {j = j} {w = w} {v = v} e r) =
      crossed_up p q j w v e refl refl r
  shape (crosses_down {p = p} {q = q} {j = j} {w = w} {v = v} e r) =
      crossed_down p q j w v e refl refl r

  -- the parts of rows
  pub first_is : (c d : Crossing A) (w v : List (Crossing A)) → c ∷ w ≡ d ∷ v → c ≡ d
  first_is c d w v e = cc

  pub rest_is : (c d : Crossing A) (w v : List (Crossing A)) → c ∷ w ≡ d ∷ v → w ≡ v
  rest_is c d w v e = cc

  pub node_is : (c d : Crossing A) (w v : List (Crossing A)) → c ∷ w ≡ d ∷ v → node_of c ≡ node_of d
  node_is c d w v e = ap node_of (first_is c d w v e)

  pub rise_slot : (x y : A) (s p : ℕ) → rise x s ≡ rise y p → s ≡ p
  rise_slot x y s p e = cc

  pub fall_slot : (x y : A) (s p : ℕ) → fall x s ≡ fall y p → s ≡ p
  fall_slot x y s p e = cc

  pub not_both : (j : ℕ) → a ≡ meeting → a ≡ crossing j → ⊥
  not_both j e e' = let d : meeting ≡ crossing j = sym e ∙ e' in absurd (cc)

  Same : List (Crossing A) → A → List (Crossing A) → A → Type 0
  Same v z v' z' = (v ≡ v') × (z ≡ z')

  one : {w v : List (Crossing A)} {y z : A} → Rest w y v z → (v' : List (Crossing A)) (z' : A) →
      Shape w y v' z' → Same v z v' z'
  unfolding Same
  one (ends d d') v' z' (empty e x x' ev ez) = (sym ev, sym ez)
  one (ends d d') v' z' (copied p j c e ey ev ez) = absurd (cc)
  one (ends d d') v' z' (passed c w2 v2 e x x' ev r) = absurd (cc)
  one (ends d d') v' z' (met_up s w2 c e r) = absurd (cc)
  one (ends d d') v' z' (met_down s w2 c e r) = absurd (cc)
  one (ends d d') v' z' (crossed_up p q j w2 v2 c e ev r) = absurd (cc)
  one (ends d d') v' z' (crossed_down p q j w2 v2 c e ev r) = absurd (cc)
  one (ends_at_copy c) v' z' (empty e x x' ev ez) = absurd (cc)
  one (ends_at_copy {p = p} c) v' z' (copied p' j' c' e ey ev ez) =
      let s : p ≡ p' = rise_slot f f p p' (first_is (rise f p) (rise f p') [] [] e) in
      (sym ev, ap (λ p. born (n + p)) s ∙ sym ez)
  one (ends_at_copy {p = p} c) v' z' (passed c' w2 v2 e x x' ev r) =
      absurd (x (sym (node_is (rise f p) c' [] w2 e)))
  one (ends_at_copy {p = p} c) v' z' (met_up s w2 c' e r) = absurd (cc)
  one (ends_at_copy {p = p} c) v' z' (met_down s w2 c' e r) = absurd (cc)
  one (ends_at_copy {p = p} c) v' z' (crossed_up p' q j w2 v2 c' e ev r) = absurd (cc)
  one (ends_at_copy {p = p} c) v' z' (crossed_down p' q j w2 v2 c' e ev r) = absurd (cc)
  one (passes d d' r) v' z' (empty e x x' ev ez) = absurd (cc)
  one (passes {c = c} {w = w} d d' r) v' z' (copied p j c' e ey ev ez) =
      absurd (d (node_is c (rise f p) w [] e))
  one (passes {c = c} {w = w} {v = v} {y = y} d d' r) v' z' (passed c' w2 v2 e x x' ev r') =
      let t = one r v2 z' (shape (subst (λ w. Rest w y v2 z') (sym (rest_is c c' w w2 e)) r')) in
      (ap (λ v. c ∷ v) t.0 ∙ ap (λ c. c ∷ v2) (first_is c c' w w2 e) ∙ sym ev, t.1)
  one (passes {c = c} {w = w} d d' r) v' z' (met_up s w2 c' e r') =
      absurd (d (node_is c (rise f s) w (fall g s ∷ w2) e))
  one (passes {c = c} {w = w} d d' r) v' z' (met_down s w2 c' e r') =
      absurd (d' (node_is c (rise g s) w (fall f s ∷ w2) e))
  one (passes {c = c} {w = w} d d' r) v' z' (crossed_up p q j w2 v2 c' e ev r') =
      absurd (d (node_is c (rise f p) w (fall g q ∷ w2) e))
  one (passes {c = c} {w = w} d d' r) v' z' (crossed_down p q j w2 v2 c' e ev r') =
      absurd (d' (node_is c (rise g q) w (fall f p ∷ w2) e))
  one (meets_up c r) v' z' (empty e x x' ev ez) = absurd (cc)
  one (meets_up c r) v' z' (copied p j c' e ey ev ez) = absurd (cc)
  one (meets_up {s = s} {w = w} c r) v' z' (passed c' w2 v2 e x x' ev r') =
      absurd (x (sym (node_is (rise f s) c' (fall g s ∷ w) w2 e)))
  one (meets_up {s = s} {w = w} {y = y} c r) v' z' (met_up s2 w2 c' e r') =
      let o : w ≡ w2 = rest_is (fall g s) (fall g s2) w w2
      (rest_is (rise f s) (rise f s2) (fall g s ∷ w) (fall g s2 ∷ w2) e) in
      one r v' z' (shape (subst (λ w. Rest w y v' z') (sym o) r'))
  one (meets_up {s = s} {w = w} c r) v' z' (met_down s2 w2 c' e r') =
      absurd (apart (node_is (rise f s) (rise g s2) (fall g s ∷ w) (fall f s2 ∷ w2) e))
  one (meets_up c r) v' z' (crossed_up p q j w2 v2 c' e ev r') = absurd (not_both j c c')
  one (meets_up c r) v' z' (crossed_down p q j w2 v2 c' e ev r') = absurd (not_both j c c')
  one (meets_down c r) v' z' (empty e x x' ev ez) = absurd (cc)
  one (meets_down c r) v' z' (copied p j c' e ey ev ez) = absurd (cc)
  one (meets_down {s = s} {w = w} c r) v' z' (passed c' w2 v2 e x x' ev r') =
      absurd (x' (sym (node_is (rise g s) c' (fall f s ∷ w) w2 e)))
  one (meets_down {s = s} {w = w} {y = y} c r) v' z' (met_down s2 w2 c' e r') =
      let o : w ≡ w2 = rest_is (fall f s) (fall f s2) w w2
      (rest_is (rise g s) (rise g s2) (fall f s ∷ w) (fall f s2 ∷ w2) e) in
      one r v' z' (shape (subst (λ w. Rest w y v' z') (sym o) r'))
  one (meets_down {s = s} {w = w} c r) v' z' (met_up s2 w2 c' e r') =
      absurd (apart (sym (node_is (rise g s) (rise f s2) (fall f s ∷ w) (fall g s2 ∷ w2) e)))
  one (meets_down c r) v' z' (crossed_up p q j w2 v2 c' e ev r') = absurd (not_both j c c')
  one (meets_down c r) v' z' (crossed_down p q j w2 v2 c' e ev r') = absurd (not_both j c c')
  one (crosses_up c r) v' z' (empty e x x' ev ez) = absurd (cc)
  one (crosses_up c r) v' z' (copied p j c' e ey ev ez) = absurd (cc)
  one (crosses_up {p = p} {q = q} {w = w} c r) v' z' (passed c' w2 v2 e x x' ev r') =
      absurd (x (sym (node_is (rise f p) c' (fall g q ∷ w) w2 e)))
  one (crosses_up {j = j} c r) v' z' (met_up s w2 c' e r') = absurd (not_both j c' c)
  one (crosses_up {j = j} c r) v' z' (met_down s w2 c' e r') = absurd (not_both j c' c)
  one (crosses_up {p = p} {q = q} {w = w} {v = v} {y = y} c r) v' z'
      (crossed_up p2 q2 j w2 v2 c' e ev r') =
      let o = rest_is (rise f p) (rise f p2) (fall g q ∷ w) (fall g q2 ∷ w2) e in
      let op : p ≡ p2 = rise_slot f f p p2
      (first_is (rise f p) (rise f p2) (fall g q ∷ w) (fall g q2 ∷ w2) e) in
      let oq : q ≡ q2 = fall_slot g g q q2 (first_is (fall g q) (fall g q2) w w2 o) in
      let t = one r v2 z' (shape (subst (λ w. Rest w y v2 z')
      (sym (rest_is (fall g q) (fall g q2) w w2 o)) r')) in (
        ap (λ v. fall (born (n + p)) q ∷ rise (born q) p ∷ v) t.0
            ∙ ap (λ p. fall (born (n + p)) q ∷ rise (born q) p ∷ v2) op
            ∙ ap (λ q. fall (born (n + p2)) q ∷ rise (born q) p2 ∷ v2) oq ∙ sym ev,
        t.1,
      )
  one (crosses_up {p = p} {q = q} {w = w} c r) v' z' (crossed_down p2 q2 j w2 v2 c' e ev r') =
      absurd (apart (node_is (rise f p) (rise g q2) (fall g q ∷ w) (fall f p2 ∷ w2) e))
  one (crosses_down c r) v' z' (empty e x x' ev ez) = absurd (cc)
  one (crosses_down c r) v' z' (copied p j c' e ey ev ez) = absurd (cc)
  one (crosses_down {p = p} {q = q} {w = w} c r) v' z' (passed c' w2 v2 e x x' ev r') =
      absurd (x' (sym (node_is (rise g q) c' (fall f p ∷ w) w2 e)))
  one (crosses_down {j = j} c r) v' z' (met_up s w2 c' e r') = absurd (not_both j c' c)
  one (crosses_down {j = j} c r) v' z' (met_down s w2 c' e r') = absurd (not_both j c' c)
  one (crosses_down {p = p} {q = q} {w = w} c r) v' z' (crossed_up p2 q2 j w2 v2 c' e ev r') =
      absurd (apart (sym (node_is (rise g q) (rise f p2) (fall f p ∷ w) (fall g q2 ∷ w2) e)))
  one (crosses_down {p = p} {q = q} {w = w} {v = v} {y = y} c r) v' z'
      (crossed_down p2 q2 j w2 v2 c' e ev r') =
      let o = rest_is (rise g q) (rise g q2) (fall f p ∷ w) (fall f p2 ∷ w2) e in
      let oq : q ≡ q2 = rise_slot g g q q2
      (first_is (rise g q) (rise g q2) (fall f p ∷ w) (fall f p2 ∷ w2) e) in
      let op : p ≡ p2 = fall_slot f f p p2 (first_is (fall f p) (fall f p2) w w2 o) in
      let t = one r v2 z' (shape (subst (λ w. Rest w y v2 z')
      (sym (rest_is (fall f p) (fall f p2) w w2 o)) r')) in (
        ap (λ v. fall (born q) p ∷ rise (born (n + p)) q ∷ v) t.0
            ∙ ap (λ p. fall (born q) p ∷ rise (born (n + p)) q ∷ v2) op
            ∙ ap (λ q. fall (born q) p2 ∷ rise (born (n + p2)) q ∷ v2) oq ∙ sym ev,
        t.1,
      )

  pub route_is : (x x' z z' : A) (v v' : List (Crossing A)) → x ≡ x' → v ≡ v' → z ≡ z' →
      ◌≡◌ {A = Route A} (record { from = x; row = v; to = z })
      (record { from = x'; row = v'; to = z' })
  route_is x x' z z' v v' a b c = λ i. record { from = a i; row = b i; to = c i }

  -- what a route leaves, by where it begins
  pub data Begins (s u : Route A) : Type 0 where
    elsewhere : s.from ≢ f → s.from ≢ g → u.from ≡ s.from → Rest s.row s.to u.row u.to → Begins s u
    at_g : (p j : ℕ) (w : List (Crossing A)) → a ≡ crossing j → s.from ≡ g → s.row ≡ fall f p ∷ w →
        u.from ≡ born (n + p) → Rest w s.to u.row u.to → Begins s u

  pub begins : {s u : Route A} → IsResidue born f g n a s u → Begins s u
  begins (from_other d d' r) = elsewhere d d' refl r
  begins (from_copy {p = p} {j = j} {w = w} e r) = at_g p j w e refl refl refl r

  pub one_residue : (s u u' : Route A) → IsResidue born f g n a s u → IsResidue born f g n a s u' →
      u ≡ u'
  unfolding Same
  one_residue s u u' r r' = go (begins r) (begins r')
    where
      all : u.from ≡ u'.from → (u.row ≡ u'.row) × (u.to ≡ u'.to) → u ≡ u'
      all e t = route_is u.from u'.from u.to u'.to u.row u'.row e t.0 t.1

      go : Begins s u → Begins s u' → u ≡ u'
      go (elsewhere d d' e r) (elsewhere x x' e' r') = all (e
          ∙ sym e') (one r u'.row u'.to (shape r'))
      go (elsewhere d d' e r) (at_g p j w c x y e' r') = absurd (d' x)
      go (at_g p j w c x y e r) (elsewhere d d' e' r') = absurd (d' x)
      go (at_g p j w c x y e r) (at_g p2 j2 w2 c2 x2 y2 e2 r2) =
          let o : fall f p ∷ w ≡ fall f p2 ∷ w2 = sym y ∙ y2 in
          let op : p ≡ p2 = fall_slot f f p p2 (first_is (fall f p) (fall f p2) w w2 o) in
          all (e ∙ ap (λ p. born (n + p)) op ∙ sym e2)
          (one r u'.row u'.to (shape (subst (λ w. Rest w s.to u'.row u'.to)
          (sym (rest_is (fall f p) (fall f p2) w w2 o)) r2)))

  -- and none of the link of f and g
  pub no_residue : (s u : Route A) → IsLinkOf f g s → IsResidue born f g n a s u → ⊥
  no_residue s u h r = go (begins r) h.1
    where
      go : Begins s u → ((s.from ≡ f) × (s.to ≡ g)) ⊎ ((s.from ≡ g) × (s.to ≡ f)) → ⊥
      go (elsewhere d d' e r) (inl x) = d x.0
      go (elsewhere d d' e r) (inr x) = d' x.0
      go (at_g p j w c x y e r) b = let o : [] ≡ fall f p ∷ w = sym h.0 ∙ y in absurd (cc)
