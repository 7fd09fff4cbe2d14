-- The lets that the steps of a walk only unfold.
use Rattle.std.proofs.Common.{◌≡◌, ℕ, zero, suc, ◌+◌, ◌-◌, ◌≤◌, Bool, true, false, List, [], ◌∷◌, ◌++◌, length, Option, Some, None}
use Rattle.std.proofs.Common.{refl, sym, ap, ◌∙◌, subst, arith, append_assoc, append-nil}
use Rattle.std.specs.Prelude.{if◌then◌else◌, option_to_list, IsPermutation, IsSome}
use Rattle.std.proofs.lemmas.List.Sorted.{IsPermutation-refl, IsPermutation-middle, IsPermutation-pop_more}
use Rattle.ol_term.specs.Trees.{Tree}
use Rattle.ol_parse.specs.Numbered.{names_of, number}
use Rattle.ol_parse.proofs.Files.{whole_bound}
use Rattle.ol_beta.specs.Beta as beta
use Rattle.ol_strategies.specs.Redexes.{next}
use Rattle.ol_strategies.specs.declared.orders.Order.{Order}
use Rattle.ol_strategies.proofs.Nexts.{next_is_redex}
use Rattle.ol_steps.specs.Binders.{Binders, binders_of, Fits}
use Rattle.ol_steps.specs.Contraction.{contracted}
use Rattle.ol_steps.proofs.Fitting.{contracted_fits}
use Rattle.ol_steps.specs.Folded.{folded_at}
use Rattle.ol_steps.specs.Lets.{let_names, is_let_at, values_of_lets}
use Rattle.ol_steps.specs.LetLaws.{redex_binder, IsAmongOthers, LeadsToRedex}
use Rattle.ol_steps.proofs.Complete.{nothing_is_left}
use Rattle.ol_steps.proofs.LetsLeft.{let_goes, lets_stay, text_has_lets}
use Rattle.ol_steps.proofs.Rows.{values_are_closed}
use Rattle.ol_steps.proofs.WordNumbers.{closed_part}
use Rattle.ol_steps.proofs.Walks.{binders_more, unfolding_more}
use Rattle.ol_steps.specs.Steps.{Walk, starts, goes, unfolds, binders_after, next_binders, last_binders, begun, unfolding_after, last_unfolding, glossary}
use Rattle.ol_steps.specs.Unfoldings.{let_of_step, lets_unfolded, EndsInUnfoldings, no_step, another_step, one_more, LetsAreUnfolded, NoValueIsShown}
use Rattle.ol_steps.specs.declared.showing.Unfolding.{Unfolding}

-- ---- one term more

unfolded_on : (order : Order) (u : Unfolding) (s : Binders) (terms : List Tree) (v : Tree) →
    lets_unfolded order u s (terms ++ v ∷ []) ≡ lets_unfolded order u s terms
    ++ let_of_step (last_unfolding order u terms).left (next order v) (last_binders order s terms)
unfolded_on order u s [] v = append-nil (let_of_step u.left (next order v) s)
unfolded_on order u s (t ∷ terms) v =
    let w = unfolding_after order u t in
    let r = next_binders order t s in
    ap (λ (xs : List (List ℕ)). let_of_step u.left (next order t) s ++ xs) (unfolded_on order w r terms v)
    ∙ sym (append_assoc (let_of_step u.left (next order t) s) (lets_unfolded order w r terms)
    (let_of_step (last_unfolding order w terms).left (next order v) (last_binders order r terms)))

-- ---- one step

-- what holds of all names of lets, those that were unfolded, how far they are, and the binders of a term
record IsSoFar (n : ℕ) (all gone : List (List ℕ)) (u : Unfolding) (s : Binders) : Type 0 where
  pub each_once : IsPermutation all (gone ++ let_names u.left s)
  pub left : length (let_names u.left s) ≡ u.left
  pub hidden : u.hidden + u.left ≤ n

one_less : (left : ℕ) (at : List ℕ) → is_let_at left at ≡ true → left - 1 + 1 ≡ left
one_less zero at i = absurd (cc)
one_less (suc left) at i = omega arith

middle : (before after : List (List ℕ)) (x : List ℕ) → length (before ++ x ∷ after) ≡ length (before ++ after) + 1
middle [] after x = omega arith
middle (y ∷ before) after x = let h = middle before after x in omega (arith, h)

shorter : (x : List ℕ) (names others : List (List ℕ)) → IsAmongOthers x names others → length names ≡ length others + 1
shorter x names others h =
    ap length h.names_are ∙ middle h.before h.after x ∙ ap (λ (xs : List (List ℕ)). length xs + 1) (sym h.others_are)

taken_out : (x : List ℕ) (names others : List (List ℕ)) → IsAmongOthers x names others → IsPermutation names (x ∷ others)
taken_out x names others h =
    subst (λ (xs : List (List ℕ)). IsPermutation xs (x ∷ others)) (sym h.names_are)
    (subst (λ (xs : List (List ℕ)). IsPermutation (h.before ++ x ∷ h.after) (x ∷ xs)) (sym h.others_are)
    (IsPermutation-middle h.before x h.after))

-- a step that only unfolds a let
one_unfolded : (n : ℕ) (all gone : List (List ℕ)) (u : Unfolding) (t : Tree) (s : Binders) (at : List ℕ) → Fits t s →
    IsSoFar n all gone u s → is_let_at u.left at ≡ true →
    IsSoFar n all (gone ++ option_to_list (redex_binder s at))
    (record { left = u.left - 1; hidden = u.hidden + 1; made = u.made + 1 }) (contracted t s at)
one_unfolded n all gone u t s at fits h i =
    let g = let_goes u.left t s at fits h.left i in
    let others = let_names (u.left - 1) (contracted t s at) in
    let one : u.left - 1 + 1 ≡ u.left = one_less u.left at i in
    let less : length (let_names u.left s) ≡ length others + 1 = shorter g.0 (let_names u.left s) others g.2 in
    let most : u.hidden + u.left ≤ n = h.hidden in
    let all_left : length (let_names u.left s) ≡ u.left = h.left in
    record {
      each_once = subst (λ (o : Option (List ℕ)). IsPermutation all ((gone ++ option_to_list o) ++ others)) (sym g.1)
          (IsPermutation-pop_more all gone (let_names u.left s) others g.0 h.each_once
          (taken_out g.0 (let_names u.left s) others g.2));
      left = omega (arith, one, less, all_left);
      hidden = omega (arith, one, most);
    }

-- another step
one_else : (n : ℕ) (all gone : List (List ℕ)) (u : Unfolding) (t : Tree) (s : Binders) (at : List ℕ) → Fits t s →
    IsSoFar n all gone u s → IsSome (beta.contracted t at) → is_let_at u.left at ≡ false →
    IsSoFar n all (gone ++ [])
    (record { left = u.left; hidden = 0; made = u.made + 1 }) (contracted t s at)
one_else n all gone u t s at fits h redex i =
    let same = lets_stay u.left t s at fits h.left redex i in
    let most : u.hidden + u.left ≤ n = h.hidden in
    record {
      each_once = subst (λ (xs : List (List ℕ)). IsPermutation all (xs ++ let_names u.left (contracted t s at)))
          (sym (append-nil gone))
          (subst (λ (xs : List (List ℕ)). IsPermutation all (gone ++ xs)) (sym same) h.each_once);
      left = ap length same ∙ h.left;
      hidden = omega (arith, most);
    }

abbrev StepOn : ℕ → (all gone : List (List ℕ)) → Unfolding → Tree → Binders → Option (List ℕ) → Type 0
StepOn n all gone u t s o = IsSoFar n all (gone ++ let_of_step u.left o s)
    (if unfolds u.left o then record { left = u.left - 1; hidden = u.hidden + 1; made = u.made + 1 }
    else record { left = u.left; hidden = 0; made = u.made + 1 }) (binders_after o t s)

step_at : (n : ℕ) (all gone : List (List ℕ)) (u : Unfolding) (t : Tree) (s : Binders) (at : List ℕ) → Fits t s →
    IsSoFar n all gone u s → IsSome (beta.contracted t at) → StepOn n all gone u t s (Some at)
step_at n all gone u t s at fits h redex = go (is_let_at u.left at) refl
  where
    go : (b : Bool) → is_let_at u.left at ≡ b →
        IsSoFar n all (gone ++ (if b then option_to_list (redex_binder s at) else []))
        (if b then record { left = u.left - 1; hidden = u.hidden + 1; made = u.made + 1 }
        else record { left = u.left; hidden = 0; made = u.made + 1 }) (contracted t s at)
    go true i = one_unfolded n all gone u t s at fits h i
    go false i = one_else n all gone u t s at fits h redex i

-- ---- steps in a row

-- behind a step that unfolds a let or doesn't
abbrev behind_step : Unfolding → Bool → Unfolding
behind_step x b = if b then record { left = x.left - 1; hidden = x.hidden + 1; made = x.made + 1 }
    else record { left = x.left; hidden = 0; made = x.made + 1 }

row_by : (order : Order) (n : ℕ) (terms : List Tree) (u : Tree) (x : Unfolding) (b : Bool) →
    x ≡ last_unfolding order (begun n) terms → unfolds x.left (next order u) ≡ b →
    EndsInUnfoldings order n terms x.hidden →
    EndsInUnfoldings order n (terms ++ u ∷ []) (behind_step x b).hidden
row_by order n terms u x true is e h =
    one_more terms u h (subst (λ (y : Unfolding). unfolds y.left (next order u) ≡ true) is e)
row_by order n terms u x false is e h =
    another_step terms u (subst (λ (y : Unfolding). unfolds y.left (next order u) ≡ false) is e)

in_a_row : (order : Order) (n : ℕ) {t v : Tree} {terms : List Tree} → Walk order t terms v →
    EndsInUnfoldings order n terms (last_unfolding order (begun n) terms).hidden
in_a_row order n starts = no_step
in_a_row order n (goes {terms = terms} {u = u} walk new step within) =
    subst (λ (w : Unfolding). EndsInUnfoldings order n (terms ++ u ∷ []) w.hidden)
    (sym (unfolding_more order (begun n) terms u))
    (row_by order n terms u (last_unfolding order (begun n) terms)
    (unfolds (last_unfolding order (begun n) terms).left (next order u)) refl refl (in_a_row order n walk))

-- ---- a walk

pub some_is : (o : Option Tree) (v : Tree) → o ≡ Some v → IsSome o
some_is None v e = absurd (cc)
some_is (Some u) v e = refl

fits_on : (t v : Tree) (s : Binders) (at : List ℕ) (o : Option (List ℕ)) → Fits t s → o ≡ Some at →
    beta.contracted t at ≡ Some v → Fits v (binders_after o t s)
fits_on t v s at o h is step = subst (λ (o : Option (List ℕ)). Fits v (binders_after o t s)) (sym is)
    (contracted_fits t v s at h step)

-- behind steps from these terms
abbrev SoFar : Order → ℕ → Binders → List Tree → Type 0
SoFar order n s terms = IsSoFar n (let_names n s) (lets_unfolded order (begun n) s terms)
    (last_unfolding order (begun n) terms) (last_binders order s terms)

along : (order : Order) (n : ℕ) (t : Tree) (s : Binders) → Fits t s → length (let_names n s) ≡ n → {terms : List Tree} {v : Tree} →
    Walk order t terms v → Fits v (last_binders order s terms) × SoFar order n s terms
along order n t s h e starts =
    let most : 0 + n ≤ n = omega arith in
    (h, record { each_once = IsPermutation-refl (let_names n s); left = e; hidden = most })
along order n t s h e (goes {terms = terms} {u = u} {v = v} walk new step within) =
    let before = along order n t s h e walk in
    let gone = lets_unfolded order (begun n) s terms in
    let x = last_unfolding order (begun n) terms in
    let r = last_binders order s terms in
    let one = subst (λ (o : Option (List ℕ)). StepOn n (let_names n s) gone x u r o) (sym step.1)
    (step_at n (let_names n s) gone x u r step.0 before.0 before.1
    (some_is (beta.contracted u step.0) v step.2)) in (
      subst (λ (b : Binders). Fits v b) (sym (binders_more order s terms u))
          (fits_on u v r step.0 (next order u) before.0 step.1 step.2),
      subst (λ (xs : List (List ℕ)). IsSoFar n (let_names n s) xs (last_unfolding order (begun n) (terms ++ u ∷ []))
          (last_binders order s (terms ++ u ∷ []))) (sym (unfolded_on order (begun n) s terms u))
          (subst (λ (y : Unfolding). IsSoFar n (let_names n s) (gone ++ let_of_step x.left (next order u) r) y
          (last_binders order s (terms ++ u ∷ []))) (sym (unfolding_more order (begun n) terms u))
          (subst (λ (b : Binders). IsSoFar n (let_names n s) (gone ++ let_of_step x.left (next order u) r)
          (unfolding_after order x u) b) (sym (binders_more order s terms u)) one)),
    )

pub lets_are_unfolded : LetsAreUnfolded
lets_are_unfolded order bytes n source s v terms text begins fits walk =
    let h = (along order n (number source) s fits (text_has_lets bytes n source s text begins fits) walk).1 in
    record { each_once = h.each_once; left = h.left; in_a_row = in_a_row order n walk; hidden = h.hidden }

-- ---- no value is left

leads : (order : Order) (t : Tree) (o : Option (List ℕ)) → next order t ≡ o → LeadsToRedex o t
leads order t None e = tt
leads order t (Some at) e = next_is_redex order t at e

pub no_value_is_shown : NoValueIsShown
no_value_is_shown how n source v value w at k got off is =
    let names = names_of source in
    let s = binders_of source in
    let g = glossary names n (number source) s in
    let vs = values_of_lets g.rows in
    let closed = values_are_closed names (let_names n s) (number source) value s k (whole_bound source) got in
    let folded = folded_at g.first vs (next how.order v) v in
    nothing_is_left g.first vs (next how.order v) v value at k got closed.0 closed.1
    (leads how.order v (next how.order v) refl) off (closed_part g folded value w at closed.1 is)
