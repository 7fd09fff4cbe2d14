-- Joins of a table's places contract edges
use Rattle.std.proofs.Common.{◌≡◌, ◌≢◌, ℕ, ◌+◌, ◌≤◌, ◌==◌, false, List, [], ◌∷◌, length, refl, sym}
use Rattle.std.proofs.Common.{ap, ◌∙◌, inl, inr, ◌⊎◌, ◌↔◌, arith, subst}
use Rattle.std.proofs.lemmas.Bool.{cases_eq}
use Rattle.std.proofs.lemmas.Bool.Decides.{nat_tests}
use Rattle.ol_law_edges.specs.Edges.{Joined, here, on, IsIn, Contracted}
use Rattle.ol_law_edges.proofs.Joining.{joined_trans, joined_sym}
use Rattle.ol_law_edges.proofs.Composing.{joined_keeps, contracted_map, contracted_twice}
use Rattle.ol_net.specs.Pairing.{IsPaired, other}
use Rattle.ol_net.specs.Rewired.{joined, joined_all, Within, AllTwo}
use Rattle.ol_net.proofs.Joining.{JoinStep, alone-joined, IsPaired-joined, JoinStep-joined, length-joined}
use Rattle.ol_net.proofs.Fitting.{bit, vertices, count}

-- the edges of a pairing
abbrev pub PairOf : (ℕ → ℕ) → ℕ → ℕ → Type 0
PairOf T u v = (T u ≡ v) × (u ≢ v)

-- u or its partner
abbrev UOrPartner : (ℕ → ℕ) → ℕ → ℕ → Type 0
UOrPartner T u w = (w ≡ u) ⊎ (w ≡ T u)

partner_over : (T : ℕ → ℕ) → IsPaired T → (u v w : ℕ) → T v ≡ w → UOrPartner T u v → UOrPartner T u w
partner_over T p u v w e (inl h) = inr (sym e ∙ ap T h)
partner_over T p u v w e (inr h) = inl (sym e ∙ ap T h ∙ p u)

-- One join, of a and b
module _ (T S : ℕ → ℕ) (a b : ℕ) (j : JoinStep T S a b) where
  abbrev pub Added : ℕ → ℕ → Type 0
  Added u v = PairOf T u v ⊎ ((u ≡ a) × (v ≡ b))

  abbrev IsEnd : ℕ → Type 0
  IsEnd w = (w ≡ a) ⊎ (w ≡ b)

  -- an end that had a partner
  abbrev pub Gone : ℕ → Type 0
  Gone w = ((w ≡ a) ⊎ (w ≡ b)) × (T w ≢ w)

  gone_alone : (w : ℕ) → IsEnd w → T w ≢ w → S w ≡ w
  gone_alone w (inl e) n = let t = alone-joined T S a b w j in grind (arith, nat_tests)
  gone_alone w (inr e) n = let t = alone-joined T S a b w j in let two = j.two in grind (arith, nat_tests)

  near : (k : ℕ) → Joined Added k (T k)
  near k = elim (cases_eq k (T k)) [ inl e ↦ subst (λ z. Joined Added k z) e here | inr n ↦ on here (inl (refl, n)) ]

  straight : (u v : ℕ) → T u ≡ v → Joined Added u v
  straight u v e = subst (λ z. Joined Added u z) e (near u)

  across : Joined Added (T a) (T b)
  across = joined_trans (joined_sym (near a)) (joined_trans (on here (inr (refl, refl))) (near b))

  reach : (u v : ℕ) → S u ≡ v → u ≢ v → Joined Added u v
  reach u v e n =
      let s = j.step u in
      elim (cases_eq (T a) b) [
        | inl cl ↦ straight u v (grind (arith, nat_tests))
        | inr ch ↦ elim (cases_eq (T b) u) [
          | inl y ↦ let q : T a ≡ v = grind (arith, nat_tests) in
              subst (λ z. Joined Added z v) y (subst (λ z. Joined Added (T b) z) q (joined_sym across))
          | inr y ↦ elim (cases_eq (T a) u) [
            | inl x ↦ let q : T b ≡ v = grind (arith, nat_tests) in
                subst (λ z. Joined Added z v) x (subst (λ z. Joined Added (T a) z) q across)
            | inr x ↦ straight u v (grind (arith, nat_tests))
          ]
        ]
      ]

  to_added : (u v : ℕ) → PairOf S u v → Contracted Added Gone u v
  to_added u v p =
      let vu : S v ≡ u = sym (ap S p.0) ∙ IsPaired-joined T S a b j u in
      record {
        first = λ g. p.1 (sym (gone_alone u g.0 g.1) ∙ p.0);
        second = λ g. p.1 (sym vu ∙ gone_alone v g.0 g.1);
        apart = p.1;
        joined = reach u v p.0 p.1;
      }

  -- an end, or the partner of one
  abbrev OfEnd : ℕ → Type 0
  OfEnd w = IsEnd w ⊎ IsEnd (T w)

  is_end : (w : ℕ) → IsEnd w ⊎ (IsEnd w → ⊥)
  is_end w = elim (cases_eq w a) [
    | inl e ↦ inl (inl e)
    | inr n ↦ elim (cases_eq w b) [ inl e ↦ inl (inr e) | inr m ↦ inr (λ h. elim h [ inl e ↦ n e | inr e ↦ m e ]) ]
  ]

  of_end : (w : ℕ) → OfEnd w ⊎ (OfEnd w → ⊥)
  of_end w = elim (is_end w) [
    | inl e ↦ inl (inl e)
    | inr n ↦ elim (is_end (T w)) [ inl e ↦ inl (inr e) | inr m ↦ inr (λ h. elim h [ inl e ↦ n e | inr e ↦ m e ]) ]
  ]

  other_way : (v w : ℕ) → T v ≡ w → T w ≡ v
  other_way v w e = sym (ap T e) ∙ j.paired v

  end_over : (v w : ℕ) → T v ≡ w → OfEnd v → OfEnd w
  end_over v w e (inl h) = inr (subst (λ z. IsEnd z) (sym (other_way v w e)) h)
  end_over v w e (inr h) = inl (subst (λ z. IsEnd z) e h)

  end_forth : (v w : ℕ) → Added v w → OfEnd v → OfEnd w
  end_forth v w (inl p) h = end_over v w p.0 h
  end_forth v w (inr p) h = inl (inr p.1)

  end_back : (v w : ℕ) → Added v w → OfEnd w → OfEnd v
  end_back v w (inl p) h = end_over w v (other_way v w p.0) h
  end_back v w (inr p) h = inl (inl p.0)

  -- an end that stays was alone
  partner_is_end : (u : ℕ) → (Gone u → ⊥) → OfEnd u → IsEnd (T u)
  partner_is_end u n (inr h) = h
  partner_is_end u n (inl h) = elim (cases_eq (T u) u) [
    | inl e ↦ subst (λ z. IsEnd z) (sym e) h
    | inr m ↦ absurd (n (h, m))
  ]

  both_ends : (u v : ℕ) → (Gone u → ⊥) → u ≢ v → IsEnd (T u) → IsEnd (T v) → S u ≡ v
  both_ends u v n m (inl p) (inl q) = absurd (m (sym (j.paired u) ∙ ap T (p ∙ sym q) ∙ j.paired v))
  both_ends u v n m (inr p) (inr q) = absurd (m (sym (j.paired u) ∙ ap T (p ∙ sym q) ∙ j.paired v))
  both_ends u v n m (inl p) (inr q) =
      let x = other_way u a p in
      let y = other_way v b q in
      let s = j.step u in
      elim (cases_eq (T a) b) [
        | inl cl ↦ absurd (n (inr (sym x ∙ cl), λ e. j.two (sym p ∙ e ∙ sym x ∙ cl)))
        | inr ch ↦ grind (arith, nat_tests)
      ]
  both_ends u v n m (inr p) (inl q) =
      let x = other_way v a q in
      let y = other_way u b p in
      let s = j.step u in
      elim (cases_eq (T a) b) [
        | inl cl ↦ let ua : u ≡ a = sym y ∙ other_way a b cl in absurd (n (inl ua, λ e. j.two (sym ua ∙ sym e ∙ p)))
        | inr ch ↦ grind (arith, nat_tests)
      ]

  -- what is joined to a vertex that is no end and no partner of one
  not_end : (u v : ℕ) → (OfEnd u → ⊥) → UOrPartner T u v → IsEnd v → ⊥
  not_end u v n (inl h) i = n (inl (subst (λ z. IsEnd z) h i))
  not_end u v n (inr h) i = n (inr (subst (λ z. IsEnd z) h i))

  pair_forth : (u : ℕ) → (OfEnd u → ⊥) → (v w : ℕ) → Added v w → UOrPartner T u v → UOrPartner T u w
  pair_forth u n v w (inl p) h = partner_over T j.paired u v w p.0 h
  pair_forth u n v w (inr p) h = absurd (not_end u v n h (inl p.0))

  pair_back : (u : ℕ) → (OfEnd u → ⊥) → (v w : ℕ) → Added v w → UOrPartner T u w → UOrPartner T u v
  pair_back u n v w (inl p) h = partner_over T j.paired u w v (other_way v w p.0) h
  pair_back u n v w (inr p) h = absurd (not_end u w n h (inr p.1))

  partner_stays : (u : ℕ) → (OfEnd u → ⊥) → S u ≡ T u
  partner_stays u n =
      let s = j.step u in
      let ua : u ≢ a = λ e. n (inl (inl e)) in
      let ub : u ≢ b = λ e. n (inl (inr e)) in
      let x : T a ≢ u = λ e. n (inr (inl (other_way a u e))) in
      let y : T b ≢ u = λ e. n (inr (inr (other_way b u e))) in
      grind (arith, nat_tests)

  from_added : (u v : ℕ) → Contracted Added Gone u v → PairOf S u v
  from_added u v c = (go (of_end u), c.apart)
    where
      paired_with : (OfEnd u → ⊥) → UOrPartner T u v → S u ≡ v
      paired_with n (inl e) = absurd (c.apart (sym e))
      paired_with n (inr e) = partner_stays u n ∙ sym e

      go : OfEnd u ⊎ (OfEnd u → ⊥) → S u ≡ v
      go (inl h) = both_ends u v c.first c.apart (partner_is_end u c.first h)
          (partner_is_end v c.second (joined_keeps OfEnd end_forth end_back c.joined h))
      go (inr n) = paired_with n (joined_keeps (UOrPartner T u) (pair_forth u n) (pair_back u n) c.joined (inl refl))

  -- the edges after a join are what the edges before and the join's own become where its ends that had partners go
  pub one_join : (u v : ℕ) → PairOf S u v ↔ Contracted Added Gone u v
  one_join u v = (to_added u v, from_added u v)

-- Several joins

-- the joins as edges
abbrev pub JoinAt : List (ℕ × ℕ) → ℕ → ℕ → Type 0
JoinAt es u v = IsIn {X = ℕ × ℕ} (u, v) es

-- an end of one of them that has a partner
abbrev pub GoneOf : (ℕ → ℕ) → List (ℕ × ℕ) → ℕ → Type 0
GoneOf T es w = (1 ≤ count w (vertices es)) × (T w ≢ w)

abbrev pub With : (ℕ → ℕ) → List (ℕ × ℕ) → ℕ → ℕ → Type 0
With T es u v = PairOf T u v ⊎ JoinAt es u v

pub count_in : (es : List (ℕ × ℕ)) (u v : ℕ) → JoinAt es u v → (1 ≤ count u (vertices es)) × (1 ≤ count v (vertices es))
count_in [] u v h = absurd h
count_in (e ∷ es) u v (inl q) =
    let a : u ≡ e.0 = ap (λ (d : ℕ × ℕ). d.0) q in
    let b : v ≡ e.1 = ap (λ (d : ℕ × ℕ). d.1) q in
    (grind (arith, nat_tests), grind (arith, nat_tests))
count_in (e ∷ es) u v (inr h) = let c = count_in es u v h in (omega (arith, c.0), omega (arith, c.1))

no_joins : (T : ℕ → ℕ) → IsPaired T → (u v : ℕ) → PairOf T u v ↔ Contracted (With T []) (GoneOf T []) u v
no_joins T p u v = (
  λ h. record {
    first = λ g. absurd (omega (arith, g.0));
    second = λ g. absurd (omega (arith, g.0));
    apart = h.1;
    joined = on here (inl h);
  },
  λ c. (partner c.apart (joined_keeps (UOrPartner T u) over over_back c.joined (inl refl)), c.apart),
)
  where
    partner : u ≢ v → UOrPartner T u v → T u ≡ v
    partner n (inl e) = absurd (n (sym e))
    partner n (inr e) = sym e

    over : (v w : ℕ) → With T [] v w → UOrPartner T u v → UOrPartner T u w
    over v w (inl e) h = partner_over T p u v w e.0 h
    over v w (inr e) h = absurd e

    over_back : (v w : ℕ) → With T [] v w → UOrPartner T u w → UOrPartner T u v
    over_back v w (inl e) h = partner_over T p u w v (sym (ap T e.0) ∙ p v) h
    over_back v w (inr e) h = absurd e

-- One join and then others, each place an end of one at most
module _ (T S : ℕ → ℕ) (a b : ℕ) (es : List (ℕ × ℕ)) (j : JoinStep T S a b)
    (once : (k : ℕ) → bit (a == k) + (bit (b == k) + count k (vertices es)) ≤ 1) where
  end_once : (w : ℕ) → (w ≡ a) ⊎ (w ≡ b) → count w (vertices es) ≡ 0
  end_once w (inl e) = let c = once w in grind (arith, nat_tests)
  end_once w (inr e) = let c = once w in grind (arith, nat_tests)

  first_out : (u v : ℕ) → JoinAt es u v → Gone T S a b j u → ⊥
  first_out u v h g = let c = count_in es u v h in let z = end_once u g.0 in omega (arith, c.0, z)

  second_out : (u v : ℕ) → JoinAt es u v → Gone T S a b j v → ⊥
  second_out u v h g = let c = count_in es u v h in let z = end_once v g.0 in omega (arith, c.1, z)

  -- where w is no end of the first join, it has a partner after it just where it has one before
  same_alone : (w : ℕ) → 1 ≤ count w (vertices es) → (S w == w) ≡ (T w == w)
  same_alone w c =
      let t = alone-joined T S a b w j in
      let o = once w in
      let na : (a == w) ≡ false = grind (arith, nat_tests) in
      let nb : (b == w) ≡ false = grind (arith, nat_tests) in
      t ∙ rw (na, nb) refl

  gone_to : (w : ℕ) → Gone T S a b j w ⊎ GoneOf S es w → GoneOf T ((a, b) ∷ es) w
  gone_to w (inl (inl e, n)) = (grind (arith, nat_tests), n)
  gone_to w (inl (inr e, n)) = (grind (arith, nat_tests), n)
  gone_to w (inr (c, n)) = let t = same_alone w c in (omega (arith, c), λ e. n (grind (arith, nat_tests)))

  gone_from : (w : ℕ) → GoneOf T ((a, b) ∷ es) w → Gone T S a b j w ⊎ GoneOf S es w
  gone_from w (c, n) = elim (cases_eq w a) [
    | inl e ↦ inl (inl e, n)
    | inr na ↦ elim (cases_eq w b) [
      | inl e ↦ inl (inr e, n)
      | inr nb ↦
          let c' : 1 ≤ count w (vertices es) = grind (arith, nat_tests) in
          let t = same_alone w c' in
          inr (c', λ e. n (grind (arith, nat_tests)))
    ]
  ]

  edge_to : (u v : ℕ) → Added T S a b j u v ⊎ JoinAt es u v → With T ((a, b) ∷ es) u v
  edge_to u v (inl (inl p)) = inl p
  edge_to u v (inl (inr p)) = inr (inl (rw (p.0, p.1) refl))
  edge_to u v (inr h) = inr (inr h)

  edge_from : (u v : ℕ) → With T ((a, b) ∷ es) u v → Added T S a b j u v ⊎ JoinAt es u v
  edge_from u v (inl p) = inl (inl p)
  edge_from u v (inr (inl q)) = inl (inr (ap (λ (d : ℕ × ℕ). d.0) q, ap (λ (d : ℕ × ℕ). d.1) q))
  edge_from u v (inr (inr h)) = inr h

  first_to : (u v : ℕ) → With S es u v → Contracted (Added T S a b j) (Gone T S a b j) u v ⊎ JoinAt es u v
  first_to u v (inl p) = inl ((one_join T S a b j u v).0 p)
  first_to u v (inr h) = inr h

  first_from : (u v : ℕ) → Contracted (Added T S a b j) (Gone T S a b j) u v ⊎ JoinAt es u v → With S es u v
  first_from u v (inl c) = inl ((one_join T S a b j u v).1 c)
  first_from u v (inr h) = inr h

  pub join_and_more : (u v : ℕ) → Contracted (With S es) (GoneOf S es) u v ↔ Contracted
      (With T ((a, b) ∷ es)) (GoneOf T ((a, b) ∷ es)) u v
  join_and_more u v =
      let t = contracted_twice cases_eq (Added T S a b j) (JoinAt es) (Gone T S a b j)
      (GoneOf S es) first_out second_out u v in (
        λ c. contracted_map edge_to (λ w _ g. gone_from w g) u v (t.0 (contracted_map first_to (λ w _ g. g) u v c)),
        λ c. contracted_map first_from (λ w _ g. g) u v (t.1 (contracted_map edge_from (λ w _ g. gone_to w g) u v c)),
      )

-- the edges after joins are what the edges before and the joins become where the ends that had partners go
pub several_joins : (xs : List ℕ) (es : List (ℕ × ℕ)) → IsPaired (other xs) →
    Within (length xs) es → AllTwo es → ((k : ℕ) → count k (vertices es) ≤ 1) → (u v : ℕ) →
    PairOf (other (joined_all xs es)) u v ↔ Contracted (With (other xs) es) (GoneOf (other xs) es) u v
several_joins xs [] p w t once u v = no_joins (other xs) p u v
several_joins xs (e ∷ es) p w t once u v =
    let ys = joined xs e.0 e.1 in
    let j = JoinStep-joined xs e.0 e.1 p w.0 w.1 t.0 in
    let rest = several_joins ys es (IsPaired-joined (other xs) (other ys) e.0 e.1 j)
    (rw (length-joined xs e.0 e.1) w.2) t.1 (λ k. let c = once k in omega (arith, c)) u v in
    let one = join_and_more (other xs) (other ys) e.0 e.1 es j once u v in
    (λ h. one.0 (rest.0 h), λ c. rest.1 (one.1 c))
