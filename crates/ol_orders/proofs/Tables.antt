-- The tables that tell which nodes have met, and what they answer of two nodes and of two ports.
use Rattle.std.proofs.Common.{◌≡◌, ◌≢◌, ℕ, suc, ◌+◌, ◌<◌, ◌≤◌, ◌==◌, Bool, true, false, cond, ◌⊎◌, inl, inr, refl, sym}
use Rattle.std.proofs.Common.{ap, ◌∙◌, subst, List, [], ◌∷◌, ◌++◌, length, set, Option, None, Some, arith}
use Rattle.std.specs.Prelude.{count_by, is_some}
use Rattle.std.proofs.lemmas.Bool.{cases_eq}
use Rattle.std.proofs.lemmas.Bool.Decides.{nat_tests}
use Rattle.std.proofs.lemmas.List.{get_or-set_same, get_or-set_other, length_push}
use Rattle.std.proofs.lemmas.List.Sums.{sum_by-set, count_by-le-length}
use Rattle.std.proofs.lemmas.Option.{none-some}
use Rattle.ol_law_edges.specs.Edges.{IsIn}
use Rattle.ol_law_edges.proofs.Lists.{in_left, in_right, in_cases}
use Rattle.ol_net.specs.declared.parts.NodeId.{NodeId}
use Rattle.ol_net.specs.declared.parts.Port.{Port}
use Rattle.ol_net.specs.declared.parts.Port.TheVariants.{Of}
use Rattle.ol_net.specs.Graph.{Graph, IsTabled, kind_at, partner_of}
use Rattle.ol_net.proofs.Places.{kind_at-within}
use Rattle.ol_net.proofs.Numbered.{partner_of-parts, partner_of-back}
use Rattle.ol_orders.specs.Same.{AreNew, Meets, AreAlike}
use Rattle.ol_orders.specs.Meetings.{met_by, TellPairs, Answers}

-- no more pairs than nodes
pub few_pairs : (pairs : List (ℕ × ℕ)) (there back : List (Option ℕ)) → TellPairs pairs there back →
    length pairs ≤ length there
few_pairs pairs there back t = let l = count_by-le-length is_some there in omega (arith, t.count, l)

-- two nodes meet
told_by : (table : List (Option ℕ)) (x y u v : ℕ) → x < length table → (u ≡ x) ⊎ (u ≢ x) →
    met_by (set table x (Some y)) u ≡ Some v → ((u ≡ x) × (v ≡ y)) ⊎ (met_by table u ≡ Some v)
told_by table x y u v l (inl e) h =
    let s : met_by (set table x (Some y)) u ≡ Some y =
    ap (met_by (set table x (Some y))) e ∙ get_or-set_same table x (Some y) None l in
    let q : Some y ≡ Some v = sym s ∙ h in
    inl (e, cc)
told_by table x y u v l (inr d) h = inr (sym (get_or-set_other table x u (Some y) None d) ∙ h)

tells_on : (table : List (Option ℕ)) (x y : ℕ) → x < length table → met_by table x ≡ None →
    met_by (set table x (Some y)) x ≡ Some y
tells_on table x y l n = get_or-set_same table x (Some y) None l

still_tells : (table : List (Option ℕ)) (x y u v : ℕ) → met_by table x ≡ None → met_by table u ≡ Some v →
    met_by (set table x (Some y)) u ≡ Some v
still_tells table x y u v n h =
    get_or-set_other table x u (Some y) None (λ e. none-some v (sym n ∙ ap (met_by table) (sym e) ∙ h)) ∙ h

abbrev bit_of : Option ℕ → ℕ
bit_of o = cond (is_some o) 1 0

one_more : (table : List (Option ℕ)) (x y : ℕ) → x < length table → met_by table x ≡ None →
    count_by is_some (set table x (Some y)) ≡ count_by is_some table + 1
one_more table x y l n =
    let e = sum_by-set bit_of table x (Some y) None l in
    let z : bit_of (met_by table x) ≡ bit_of None = ap bit_of n in
    omega (arith, e, z)

pub put_tells : (pairs : List (ℕ × ℕ)) (there back : List (Option ℕ)) (x y : ℕ) → TellPairs pairs there back →
    x < length there → y < length back → met_by there x ≡ None → met_by back y ≡ None →
    TellPairs (pairs ++ (x, y) ∷ []) (set there x (Some y)) (set back y (Some x))
put_tells pairs there back x y t l m n o = record {
  there_tells = λ u v. (
    (λ h. there_to u v (told_by there x y u v l (cases_eq u x) h)),
    (λ h. there_of u v (in_cases (u, v) pairs ((x, y) ∷ []) h)),
  );
  back_tells = λ u v. (
    (λ h. back_to u v (told_by back y x v u m (cases_eq v y) h)),
    (λ h. back_of u v (in_cases (u, v) pairs ((x, y) ∷ []) h)),
  );
  count = let a = length_push pairs (x, y) in let b = one_more there x y l n in omega (arith, a, b, t.count);
}
  where
    last : (u v : ℕ) → u ≡ x → v ≡ y → IsIn (u, v) (pairs ++ (x, y) ∷ [])
    last u v e f = in_right (u, v) pairs ((x, y) ∷ []) (inl (ap (λ (z : ℕ). (z, v)) e ∙ ap (λ (z : ℕ). (x, z)) f))

    there_to : (u v : ℕ) → ((u ≡ x) × (v ≡ y)) ⊎ (met_by there u ≡ Some v) → IsIn (u, v) (pairs ++ (x, y) ∷ [])
    there_to u v (inl e) = last u v e.0 e.1
    there_to u v (inr h) = in_left (u, v) pairs ((x, y) ∷ []) ((t.there_tells u v).0 h)

    back_to : (u v : ℕ) → ((v ≡ y) × (u ≡ x)) ⊎ (met_by back v ≡ Some u) → IsIn (u, v) (pairs ++ (x, y) ∷ [])
    back_to u v (inl e) = last u v e.1 e.0
    back_to u v (inr h) = in_left (u, v) pairs ((x, y) ∷ []) ((t.back_tells u v).0 h)

    there_of : (u v : ℕ) → IsIn (u, v) pairs ⊎ IsIn {X = ℕ × ℕ} (u, v) ((x, y) ∷ []) → met_by (set there x (Some y)) u ≡ Some v
    there_of u v (inl h) = still_tells there x y u v n ((t.there_tells u v).1 h)
    there_of u v (inr (inl e)) =
        ap (met_by (set there x (Some y))) (ap (λ (p : ℕ × ℕ). p.0) e) ∙ tells_on there x y l n
        ∙ ap (λ (z : ℕ). Some z) (sym (ap (λ (p : ℕ × ℕ). p.1) e))
    there_of u v (inr (inr e)) = absurd e

    back_of : (u v : ℕ) → IsIn (u, v) pairs ⊎ IsIn {X = ℕ × ℕ} (u, v) ((x, y) ∷ []) → met_by (set back y (Some x)) v ≡ Some u
    back_of u v (inl h) = still_tells back y x v u o ((t.back_tells u v).1 h)
    back_of u v (inr (inl e)) =
        ap (met_by (set back y (Some x))) (ap (λ (p : ℕ × ℕ). p.1) e) ∙ tells_on back y x m o
        ∙ ap (λ (z : ℕ). Some z) (sym (ap (λ (p : ℕ × ℕ). p.0) e))
    back_of u v (inr (inr e)) = absurd e

-- no node has met another
count_none : (table : List (Option ℕ)) → ((x : ℕ) → met_by table x ≡ None) → count_by is_some table ≡ 0
count_none [] h = refl
count_none (None ∷ table) h = count_none table (λ x. h (suc x))
count_none (Some y ∷ table) h = absurd (none-some y (sym (h 0)))

pub nobody_tells : (there back : List (Option ℕ)) → ((x : ℕ) → met_by there x ≡ None) →
    ((x : ℕ) → met_by back x ≡ None) → TellPairs [] there back
nobody_tells there back h k = record {
  there_tells = λ x y. ((λ e. none-some y (sym (h x) ∙ e)), (λ i. absurd i));
  back_tells = λ x y. ((λ e. none-some x (sym (k y) ∙ e)), (λ i. absurd i));
  count = sym (count_none there h);
}

-- what the tables answer of two nodes
module _ (a b : Graph) (pairs : List (ℕ × ℕ)) (there back : List (Option ℕ)) (t : TellPairs pairs there back)
    (x y : ℕ) where
  pub meets_known : (z : ℕ) → met_by there x ≡ Some z → Answers (Meets a b pairs x y) (z == y) pairs
  meets_known z h = go (z == y) refl
    where
      one : IsIn (x, z) pairs
      one = (t.there_tells x z).0 h

      no : (z == y) ≡ false → (m : List (ℕ × ℕ)) → Meets a b pairs x y m → ⊥
      no f m (inl k) =
          let e : Some z ≡ Some y = sym h ∙ (t.there_tells x y).1 k.0 in
          let same : z ≡ y = cc in
          let yes : (z == y) ≡ true = grind (arith, nat_tests) in
          let bad : true ≡ false = sym yes ∙ f in cc
      no f m (inr k) = (k.0 x z one).0 refl

      go : (ok : Bool) → (z == y) ≡ ok → Answers (Meets a b pairs x y) ok pairs
      go true e = let same : z ≡ y = grind (arith, nat_tests) in
          inl (subst (λ (w : ℕ). IsIn (x, w) pairs) same one, refl)
      go false e = no e

  pub meets_taken : (z : ℕ) → met_by there x ≡ None → met_by back y ≡ Some z → (m : List (ℕ × ℕ)) →
      Meets a b pairs x y m → ⊥
  meets_taken z n h m (inl k) = none-some y (sym n ∙ (t.there_tells x y).1 k.0)
  meets_taken z n h m (inr k) = (k.0 z y ((t.back_tells z y).0 h)).1 refl

  pub meets_unlike : met_by there x ≡ None → kind_at a.nodes x ≢ kind_at b.nodes y → (m : List (ℕ × ℕ)) →
      Meets a b pairs x y m → ⊥
  meets_unlike n d m (inl k) = none-some y (sym n ∙ (t.there_tells x y).1 k.0)
  meets_unlike n d m (inr k) = d k.1

  pub are_new : met_by there x ≡ None → met_by back y ≡ None → AreNew pairs x y
  are_new n o = λ u v i. (
    (λ (q : u ≡ x). none-some v (sym n ∙ ap (met_by there) (sym q) ∙ (t.there_tells u v).1 i)),
    (λ (q : v ≡ y). none-some u (sym o ∙ ap (met_by back) (sym q) ∙ (t.back_tells u v).1 i)),
  )

  pub meets_new : (m : List (ℕ × ℕ)) → met_by there x ≡ None → met_by back y ≡ None →
      kind_at a.nodes x ≡ kind_at b.nodes y → m ≡ pairs ++ (x, y) ∷ [] → Meets a b pairs x y m
  meets_new m n o k e = inr (are_new n o, k, e)

-- what they answer of two ports of nodes
pub ports_told : (a b : Graph) (pairs : List (ℕ × ℕ)) (p q : Port) (x y : NodeId) (s t : ℕ) (ok : Bool)
    (m : List (ℕ × ℕ)) → p ≡ Of x s → q ≡ Of y t → s ≡ t → Answers (Meets a b pairs x.0 y.0) ok m →
    Answers (AreAlike a b pairs (Some p) (Some q)) ok m
ports_told a b pairs p q x y s t ok m e f g h =
    subst (λ (p : Port). Answers (AreAlike a b pairs (Some p) (Some q)) ok m) (sym e)
    (subst (λ (q : Port). Answers (AreAlike a b pairs (Some (Of x s)) (Some q)) ok m) (sym f) (go ok h))
  where
    go : (ok : Bool) → Answers (Meets a b pairs x.0 y.0) ok m →
        Answers (AreAlike a b pairs (Some (Of x s)) (Some (Of y t))) ok m
    go true h = (g, h)
    go false h = λ n k. h n k.1

-- the node of a partner is one of the net's
pub partner_inside : (g : Graph) → IsTabled g.free g.nodes g.partners → (p q : Port) (x : NodeId) (s : ℕ) →
    partner_of g p ≡ Some q → q ≡ Of x s → x.0 < length g.nodes
partner_inside g t p q x s e is =
    let f = subst (λ (q : Port). partner_of g p ≡ Some q) is e in
    kind_at-within g.nodes x.0 s (partner_of-parts g (Of x s) p (partner_of-back g p (Of x s) t f).0).0
