-- Two heads with one text are one head.
use Rattle.std.proofs.Common.{◌≡◌, ℕ, zero, suc, ◌+◌, ◌-◌, ◌<◌, ◌≤◌, ◌^◌, inl, inr, Bool, true, false, ◌||◌, cond, Option, Some, None, List, [], ◌∷◌, ◌++◌, length, take, refl, sym, ap, ◌∙◌, subst, subst₂, arith, append_assoc}
use Rattle.std.specs.Prelude.{slice_index, slice_index_or}
use Rattle.std.specs.List.{position_from}
use Rattle.std.specs.Str.{bytes_eq}
use Rattle.std.proofs.lemmas.Bool.{cases_order}
use Rattle.std.proofs.lemmas.Slice.Eq.{bytes_eq-Decides}
use Rattle.ol_term.specs.BinderNames.{is_among, binder_name}
use Rattle.ol_term.proofs.Binders.{binder_is_not_free, binders_differ}
use Rattle.ol_term.proofs.BinderTexts.{among_nowhere}
use Rattle.ol_term.specs.NameLists.{position_of, put_unless, with_names}
use Rattle.ol_parse.specs.Parsed.{AreNames}
use Rattle.ol_readback.specs.Terms.{HasAllHeads}
use Rattle.ol_readback.specs.Texts.{IsNamedVar, IsNamedNode, abstractions, rounds}
use Rattle.ol_readback.specs.Whole.{IsInScope}
use Rattle.ol_readback.specs.declared.answers.HeadVar.{HeadVar}
use Rattle.ol_readback.specs.declared.answers.HeadVar.TheVariants as var
use Rattle.ol_readback.specs.declared.answers.ReadNode.{ReadNode}
use Rattle.ol_readback.specs.declared.answers.ReadNode.TheVariants as node
use Rattle.ol_readback.proofs.OneTree.{list_is_of_one_tree}
use Rattle.ol_readback.proofs.Scoped.{AreRound}
use Rattle.ol_equal.specs.Comparing.{TreeWithNames, IsSameVar, Agree, place_at}
use Rattle.ol_derivations.specs.Heads.{all_names, lams_of, underscores, told_variable, head_text}
use Rattle.ol_derivations.specs.HeadLaws.{IsToldHead, OneTextIsOneHead}
use Rattle.ol_derivations.specs.PlacesOfPaths.{gone}
use Rattle.ol_derivations.proofs.Gone.{round_found}
use Rattle.ol_derivations.proofs.Held.{held, around_whole, same_gone, same_held, low_binder, binder_same}
use Rattle.ol_derivations.proofs.Plain.{IsPlain, free_is_plain, binder_is_plain}
use Rattle.ol_derivations.proofs.Parted.{head_parted}
use Rattle.ol_derivations.proofs.Printed.{named_at}

-- ---- each free name is among all

or_more : (b c d : Bool) → (c ≡ true → d ≡ true) → (b || c) ≡ true → (b || d) ≡ true
or_more true c d f h = refl
or_more false c d f h = f h

or_last : (b c : Bool) → c ≡ true → (b || c) ≡ true
or_last true c h = refl
or_last false c h = h

among_left : (names more : List (List ℕ)) (y : List ℕ) → is_among names y ≡ true → is_among (names ++ more) y ≡ true
among_left [] more y h = absurd (cc)
among_left (n ∷ names) more y h =
    or_more (bytes_eq n y) (is_among names y) (is_among (names ++ more) y) (among_left names more y) h

among_last : (names : List (List ℕ)) (x : List ℕ) → is_among (names ++ (x ∷ [])) x ≡ true
among_last [] x = ap (λ b. b || false) ((bytes_eq-Decides x x).1 refl)
among_last (n ∷ names) x = or_last (bytes_eq n x) (is_among (names ++ (x ∷ [])) x) (among_last names x)

found_among : (x : List ℕ) (names : List (List ℕ)) (i k : ℕ) →
    position_from (λ y. bytes_eq x y) i names ≡ Some k → is_among names x ≡ true
found_among x [] i k e = absurd (cc)
found_among x (n ∷ names) i k e = go (bytes_eq x n) refl (found_among x names (i + 1) k) e
  where
    go : (b : Bool) → bytes_eq x n ≡ b →
        (position_from (λ y. bytes_eq x y) (i + 1) names ≡ Some k → is_among names x ≡ true) →
        cond b (Some i) (position_from (λ y. bytes_eq x y) (i + 1) names) ≡ Some k →
        (bytes_eq n x || is_among names x) ≡ true
    go true q each e = ap (λ b. b || is_among names x)
        (ap (bytes_eq n) ((bytes_eq-Decides x n).0 q) ∙ (bytes_eq-Decides n n).1 refl)
    go false q each e = or_last (bytes_eq n x) (is_among names x) (each e)

added : (names : List (List ℕ)) (x y : List ℕ) (o : Option ℕ) → is_among names y ≡ true →
    is_among (put_unless o names x) y ≡ true
added names x y (Some k) h = h
added names x y None h = among_left names (x ∷ []) y h

added_itself : (names : List (List ℕ)) (x : List ℕ) (o : Option ℕ) → position_of x names ≡ o →
    is_among (put_unless o names x) x ≡ true
added_itself names x (Some k) e = found_among x names 0 k e
added_itself names x None e = among_last names x

with_kept : (names xs : List (List ℕ)) (y : List ℕ) → is_among names y ≡ true → is_among (with_names names xs) y ≡ true
with_kept names [] y h = h
with_kept names (x ∷ xs) y h =
    with_kept (put_unless (position_of x names) names x) xs y (added names x y (position_of x names) h)

with_each : (names xs : List (List ℕ)) (k : ℕ) → k < length xs →
    is_among (with_names names xs) (slice_index_or xs k []) ≡ true
with_each names [] k l = absurd (omega (arith, l))
with_each names (x ∷ xs) zero l =
    with_kept (put_unless (position_of x names) names x) xs x (added_itself names x (position_of x names) refl)
with_each names (x ∷ xs) (suc k) l =
    with_each (put_unless (position_of x names) names x) xs k (omega (arith, l))

module _ (names : TreeWithNames) where
  abbrev all : List (List ℕ)
  all = all_names names

  first_among : (k : ℕ) → k < length names.a → is_among all (slice_index_or names.a k []) ≡ true
  first_among k l = with_kept (with_names [] names.a) names.b (slice_index_or names.a k []) (with_each [] names.a k l)

  second_among : (k : ℕ) → k < length names.b → is_among all (slice_index_or names.b k []) ≡ true
  second_among k l = with_each (with_names [] names.a) names.b k l

  module _ (few : length all < 2 ^ 32) where
    no_binder : (t : ℕ) (x : List ℕ) → t < 2 ^ 64 → is_among all x ≡ true → binder_name all t ≡ x → ⊥
    no_binder t x l h e =
        let other = among_nowhere all (binder_name all t) (λ j. binder_is_not_free all t few l j) in
        let clash : true ≡ false = sym h ∙ ap (is_among all) (sym e) ∙ other in absurd (cc)

    same_number : (s t : ℕ) → s < 2 ^ 64 → t < 2 ^ 64 → binder_name all s ≡ binder_name all t → s ≡ t
    same_number s t l m e = elim (cases_order s t) [
      | inl same ↦ same
      | inr other ↦ elim other [
        | inl low ↦ absurd (binders_differ all s t few l m (λ q. omega (arith, low, q)) e)
        | inr high ↦ absurd (binders_differ all s t few l m (λ q. omega (arith, high, q)) e)
      ]
    ]

    -- ---- variables

    plain_variable : (own : List (List ℕ)) (rs : List ℕ) (ss : List (ℕ × ℕ)) (t : ℕ) (v : HeadVar) → AreNames own →
        t ≤ 2 ^ 64 → AreRound rs ss t → IsInScope ss v → IsPlain (told_variable all own rs v)
    plain_variable own rs ss t (var.Bound i j) h l r s =
        let low = low_binder rs ss t i j r s in
        binder_is_plain all (slice_index rs i + (j - 1)) few (omega (arith, low.0, low.1, l))
    plain_variable own rs ss t (var.Free q) h l r s = free_is_plain own (q - 1) h

    same_variable : (rs qs : List ℕ) (ss : List (ℕ × ℕ)) (t : ℕ) (v w : HeadVar) → t ≤ 2 ^ 64 → AreRound rs ss t →
        AreRound qs ss t → IsInScope ss v → IsInScope ss w → IsNamedVar (length names.a) v →
        IsNamedVar (length names.b) w → told_variable all names.a rs v ≡ told_variable all names.b qs w →
        IsSameVar names v w
    same_variable rs qs ss t (var.Bound i j) (var.Bound k m) l r p h g x y e =
        let a = low_binder rs ss t i j r h in
        let b = low_binder qs ss t k m p g in
        binder_same rs qs ss t i j k m r p h g
        (same_number (slice_index rs i + (j - 1)) (slice_index qs k + (m - 1)) (omega (arith, a.0, a.1, l))
        (omega (arith, b.0, b.1, l)) e)
    same_variable rs qs ss t (var.Bound i j) (var.Free q) l r p h g x y e =
        let a = low_binder rs ss t i j r h in
        absurd (no_binder (slice_index rs i + (j - 1)) (slice_index_or names.b (q - 1) []) (omega (arith, a.0, a.1, l))
        (second_among (q - 1) (omega (arith, y.0, y.1))) e)
    same_variable rs qs ss t (var.Free q) (var.Bound k m) l r p h g x y e =
        let b = low_binder qs ss t k m p g in
        absurd (no_binder (slice_index qs k + (m - 1)) (slice_index_or names.a (q - 1) []) (omega (arith, b.0, b.1, l))
        (first_among (q - 1) (omega (arith, x.0, x.1))) (sym e))
    same_variable rs qs ss t (var.Free q) (var.Free s) l r p h g x y e = e

-- ---- heads

is_inside : (ns : List ReadNode) (k l m : ℕ) (v : HeadVar) → place_at ns k ≡ node.Head l v m → k < length ns
is_inside [] zero l m v e = absurd (cc)
is_inside [] (suc k) l m v e = absurd (cc)
is_inside (n ∷ ns) zero l m v e = omega arith
is_inside (n ∷ ns) (suc k) l m v e = let h = is_inside ns k l m v e in omega (arith, h)

-- what a head is told by
record IsTold (all own : List (List ℕ)) (ns : List ReadNode) (k l m : ℕ) (v : HeadVar) (text : List ℕ) : Type 0 where
  rs : List ℕ
  inside : k < length ns
  round : slice_index rs k ≡ (gone (take k ns) (0, 0)).1
  around : AreRound rs ((k, l) ∷ held 0 (take k ns)) (slice_index rs k + l)
  scope : IsInScope ((k, l) ∷ held 0 (take k ns)) v
  named : IsNamedVar (length own) v
  few : slice_index rs k + l ≤ 2 ^ 64
  is : text ≡ abstractions all (slice_index rs k) l ++ (told_variable all own rs v ++ underscores m)

told : (all own : List (List ℕ)) (ns : List ReadNode) (k l m : ℕ) (v : HeadVar) (text : List ℕ) →
    IsToldHead all own ns k text → place_at ns k ≡ node.Head l v m → IsTold all own ns k l m v text
told all own ns k l m v text h e =
    let w = h.whole in
    let r = rounds 0 w.tree in
    let low = is_inside ns k l m v e in
    let a = around_whole ns w k low in
    let g = gone (take k ns) (0, 0) in
    let one = list_is_of_one_tree h.is.tree w.tree (h.is.listed ∙ sym w.is_list) in
    let front = abstractions all (slice_index r k) l in
    record {
      rs = r;
      inside = low;
      round = sym (round_found w.tree ns k g.0 g.1 w.is_list low refl);
      around = (refl, a.round);
      scope = a.scope l v m e;
      named = subst (IsNamedNode (length own)) e (named_at (length own) ns k h.named);
      few = subst (λ n. slice_index r k + lams_of n ≤ 2 ^ 64) e (h.few w.tree w.is_list);
      is = h.is.is ∙ ap (λ t. head_text all own (rounds 0 t) k (place_at ns k)) one
          ∙ ap (head_text all own r k) e ∙ append_assoc front (told_variable all own r v) (underscores m);
    }

pub one_text_is_one_head : OneTextIsOneHead
one_text_is_one_head names a b k text few below heads x y = go (place_at a k) (place_at b k) refl refl heads
  where
    go : (n o : ReadNode) → place_at a k ≡ n → place_at b k ≡ o → HasAllHeads (n ∷ o ∷ []) →
        Agree names (place_at a k) (place_at b k)
    go (node.Head l v m) (node.Head i w j) e f h =
        let all = all_names names in
        let p = told all names.a a k l m v text x e in
        let q = told all names.b b k i j w text y f in
        let g = same_gone names a b k (0, 0) (omega (arith, p.inside)) (omega (arith, q.inside)) below in
        let s = same_held names a b 0 k (omega (arith, p.inside)) (omega (arith, q.inside)) below in
        let t : slice_index q.rs k ≡ slice_index p.rs k = q.round ∙ ap (λ (s : ℕ × ℕ). s.1) (sym g) ∙ sym p.round in
        let plain = plain_variable names few names.a p.rs ((k, l) ∷ held 0 (take k a)) (slice_index p.rs k + l) v
        x.names_are p.few p.around p.scope in
        let other = plain_variable names few names.b q.rs ((k, i) ∷ held 0 (take k b)) (slice_index q.rs k + i) w
        y.names_are q.few q.around q.scope in
        let r = head_parted all (slice_index p.rs k) few l i (told_variable all names.a p.rs v)
        (told_variable all names.b q.rs w) m j p.few (omega (arith, t, q.few)) plain other
        (sym p.is ∙ q.is
        ∙ ap (λ t. abstractions all t i ++ (told_variable all names.b q.rs w ++ underscores j)) t) in
        let stack : ◌≡◌ {A = List (ℕ × ℕ)} ((k, i) ∷ held 0 (take k b)) ((k, l) ∷ held 0 (take k a)) =
        ap (λ i. (k, i) ∷ held 0 (take k b)) (sym r.0) ∙ ap (λ s. (k, l) ∷ s) (sym s) in
        let round : slice_index q.rs k + i ≡ slice_index p.rs k + l = omega (arith, t, r.0) in
        let same = same_variable names few p.rs q.rs ((k, l) ∷ held 0 (take k a)) (slice_index p.rs k + l) v w p.few
        p.around (subst₂ (AreRound q.rs) stack round q.around) p.scope
        (subst (λ s. IsInScope s w) stack q.scope) p.named q.named r.1 in
        subst₂ (Agree names) (sym e) (sym f) (r.0, same, r.2)
    go (node.Head l v m) node.NoHead e f h = absurd h
    go (node.Head l v m) node.Cut e f h = absurd h
    go node.NoHead o e f h = absurd h
    go node.Cut o e f h = absurd h
