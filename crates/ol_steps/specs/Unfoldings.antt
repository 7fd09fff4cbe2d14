-- Which lets the steps of a walk only unfold, and that no value of one that counts is left in a term that is shown, but
-- for the redex that comes next and what this stands in.
use Rattle.std.specs.Prelude.{◌≡◌, ℕ, ◌+◌, ◌≤◌, true, false, if◌then◌else◌, List, [], ◌∷◌, ◌++◌, length, slice_get, IsPermutation}
use Rattle.std.specs.Prelude.{Option, None, Some, option_to_list}
use Rattle.ol_term.specs.Trees.{Tree}
use Rattle.ol_strategies.specs.Redexes.{next}
use Rattle.ol_strategies.specs.declared.orders.Order.{Order}
use Rattle.ol_parse.specs.Grammar.{Named}
use Rattle.ol_parse.specs.Texts.{IsText}
use Rattle.ol_parse.specs.Numbered.{names_of, number}
use Rattle.ol_steps.specs.Binders.{Binders, binders_of, Fits}
use Rattle.ol_steps.specs.Fronts.{BeginsWithLets}
use Rattle.ol_steps.specs.Lets.{let_names, is_let_at, values_of_lets}
use Rattle.ol_steps.specs.LetLaws.{subterm_along, IsOffTheWay, redex_binder}
use Rattle.ol_steps.specs.Steps.{Walk, glossary, shown_tree, next_binders, last_binders, unfolds, begun, unfolding_after, last_unfolding}
use Rattle.ol_steps.specs.declared.stepping.Shown.{Shown}
use Rattle.ol_steps.specs.declared.showing.Unfolding.{Unfolding}

-- the name of the binder of a step's redex, if the step only unfolds a let, where so many at the front are left
abbrev pub let_of_step : ℕ → Option (List ℕ) → Binders → List (List ℕ)
let_of_step left None s = []
let_of_step left (Some at) s = if is_let_at left at then option_to_list (redex_binder s at) else []

-- the names of the lets that steps from these terms only unfold, one after another
abbrev pub lets_unfolded : Order → Unfolding → Binders → List Tree → List (List ℕ)
lets_unfolded order u s [] = []
lets_unfolded order u s (t ∷ terms) = let_of_step u.left (next order t) s
    ++ lets_unfolded order (unfolding_after order u t) (next_binders order t s) terms

-- the names of the lets that are left at the front behind the steps from these terms
abbrev pub lets_left : Order → ℕ → Binders → List Tree → List (List ℕ)
lets_left order n s terms = let_names (last_unfolding order (begun n) terms).left (last_binders order s terms)

-- So many of the last steps from these terms, one after another, only unfold a let. The step before them, if there is
-- one, doesn't.
pub data EndsInUnfoldings (order : Order) (n : ℕ) : List Tree → ℕ → Type 0 where
  no_step : EndsInUnfoldings order n [] 0
  another_step : (terms : List Tree) (t : Tree) →
      unfolds (last_unfolding order (begun n) terms).left (next order t) ≡ false →
      EndsInUnfoldings order n (terms ++ t ∷ []) 0
  one_more : {k : ℕ} (terms : List Tree) (t : Tree) → EndsInUnfoldings order n terms k →
      unfolds (last_unfolding order (begun n) terms).left (next order t) ≡ true →
      EndsInUnfoldings order n (terms ++ t ∷ []) (k + 1)

-- The lets that steps from these terms unfolded, and those that are left at the front, are the lets at the front of the
-- first term: each once, by the names that its binders have.
pub record UnfoldsLets (order : Order) (n : ℕ) (s : Binders) (terms : List Tree) : Type 0 where
  pub each_once : IsPermutation (let_names n s) (lets_unfolded order (begun n) s terms ++ lets_left order n s terms)
  -- as many are left as the count says
  pub left : length (lets_left order n s terms) ≡ (last_unfolding order (begun n) terms).left
  -- a line that comes next tells of the last steps in a row that unfold, and of at most as many as aren't left
  pub in_a_row : EndsInUnfoldings order n terms (last_unfolding order (begun n) terms).hidden
  pub hidden : (last_unfolding order (begun n) terms).hidden + (last_unfolding order (begun n) terms).left ≤ n

-- it is so with each walk from the term of a text, whatever names its binders have
abbrev pub LetsAreUnfolded : Type 0
LetsAreUnfolded = (order : Order) (bytes : List ℕ) (n : ℕ) (source : Named) (s : Binders) (v : Tree) (terms : List Tree) →
    IsText bytes source → BeginsWithLets bytes n → Fits (number source) s → Walk order (number source) terms v →
    UnfoldsLets order n s terms

-- no subterm of a term that is shown is the value of a let that counts, but for the redex that comes next and what this
-- stands in
abbrev pub NoValueIsShown : Type 0
NoValueIsShown = (how : Shown) (n : ℕ) (source : Named) (v value : Tree) (s : Binders) (at : List ℕ) (k : ℕ) →
    slice_get (values_of_lets (glossary (names_of source) n (number source) (binders_of source)).rows) k ≡ Some value →
    IsOffTheWay (next how.order v) at →
    subterm_along (shown_tree how (glossary (names_of source) n (number source) (binders_of source)) v s) at ≡ Some value → ⊥
