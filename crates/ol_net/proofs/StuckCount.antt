-- A net has one number of stuck pairs.
use Rattle.std.proofs.Common.{◌≡◌, ℕ, suc, ◌≤◌, length, List, [], ◌∷◌, ◌⊎◌, inl, inr, refl, sym, ap, ◌∙◌, subst, arith}
use Rattle.ol_law_edges.specs.Edges.{IsIn}
use Rattle.ol_net.specs.Nets.{NamedNet}
use Rattle.ol_net.specs.Pairs.{HasPair, AreDifferent, HasStuck}

module _ {A : Type 0} where
  -- the list without one of its pairs
  record Without (p : A × A) (qs : List (A × A)) : Type 0 where
    rest : List (A × A)
    shorter : length qs ≡ suc (length rest)
    others : (r : A × A) → IsIn r qs → (r ≡ p) ⊎ IsIn r rest

  without : (p : A × A) (qs : List (A × A)) → IsIn p qs → Without p qs
  without p [] h = absurd h
  without p (q ∷ qs) (inl e) = record {
    rest = qs;
    shorter = refl;
    others = λ r h. elim h [ inl e' ↦ inl (e' ∙ sym e) | inr k ↦ inr k ];
  }
  without p (q ∷ qs) (inr h) =
      let w = without p qs h in
      record {
        rest = q ∷ w.rest;
        shorter = ap suc w.shorter;
        others = λ r k. elim k [
          | inl e ↦ inr (inl e)
          | inr k ↦ elim
              (w.others r k) [ inl e ↦ inl e | inr t ↦ inr (inr t) ]
        ];
      }

  abbrev turned : A × A → A × A
  turned p = (p.1, p.0)

  -- the pairs behind p stand in what is left of a list from which p was taken, either way round
  below : (p q : A × A) (ps qs : List (A × A)) (w : Without q qs) →
      ((f g : A) → (◌≡◌ {A = A × A} (f, g) q) → (◌≡◌ {A = A × A} (f, g) p) ⊎ (◌≡◌ {A = A × A} (f, g) (turned p)))
      → (HasPair ps p.0 p.1 → ⊥) → ((f g : A) → HasPair (p ∷ ps) f g → HasPair qs f g) → (f g : A) →
      HasPair ps f g → HasPair w.rest f g
  below p q ps qs w same apart h f g k = elim (h f g (behind k)) [
    | inl i ↦ elim (w.others (f, g) i) [ inl e ↦ absurd (not_it f g k e) | inr t ↦ inl t ]
    | inr i ↦ elim (w.others (g, f) i) [ inl e ↦ absurd (not_it g f (turn f g k) e) | inr t ↦ inr t ]
  ]
    where
      turn : (f g : A) → HasPair ps f g → HasPair ps g f
      turn f g (inl i) = inr i
      turn f g (inr i) = inl i

      -- a pair of ps is not the pair taken out, either way round
      not_it : (f g : A) → HasPair ps f g → (◌≡◌ {A = A × A} (f, g) q) → ⊥
      not_it f g k e = elim (same f g e) [
        | inl t ↦ apart (subst (λ (x : A × A). HasPair ps x.0 x.1) t k)
        | inr t ↦ apart (turn p.1 p.0 (subst (λ (x : A × A). HasPair ps x.0 x.1) t k))
      ]

      behind : HasPair ps f g → HasPair (p ∷ ps) f g
      behind (inl i) = inl (inr i)
      behind (inr i) = inr (inr i)

  -- different pairs that all stand in a list are no more than its own
  no_more : (ps qs : List (A × A)) → AreDifferent ps →
      ((f g : A) → HasPair ps f g → HasPair qs f g) → length ps ≤ length qs
  no_more [] qs d h = omega arith
  no_more (p ∷ ps) qs d h = elim (h p.0 p.1 (inl (inl refl))) [
    | inl i ↦ (let w = without p qs i in
        let n = no_more ps w.rest d.1 (below p p ps qs w (λ f g k. inl k) d.0 h) in omega (arith, w.shorter, n))
    | inr i ↦ (let w = without (turned p) qs i in
        let n = no_more ps w.rest d.1 (below p (turned p) ps qs w (λ f g k. inr k) d.0 h) in
        omega (arith, w.shorter, n))
  ]

  pub one_stuck_count : (N : NamedNet A) (m n : ℕ) → HasStuck N m → HasStuck N n → m ≡ n
  one_stuck_count N m n a b =
      let to : length a.pairs ≤ length b.pairs = no_more a.pairs b.pairs a.different
      (λ f g h. (b.all f g).1 ((a.all f g).0 h)) in
      let back : length b.pairs ≤ length a.pairs = no_more b.pairs a.pairs b.different
      (λ f g h. (a.all f g).1 ((b.all f g).0 h)) in
      omega (arith, to, back, a.count, b.count)
