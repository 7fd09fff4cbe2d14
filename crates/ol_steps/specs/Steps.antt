-- Reduction in an order, term by term, as a text.
use Rattle.std.specs.Prelude.{◌≡◌, ℕ, ◌+◌, ◌-◌, ◌<◌, ◌≤◌, ◌==◌, List, [], ◌∷◌, ◌++◌, length, slice_get, codes}
use Rattle.std.specs.Prelude.{Bool, true, false, ◌||◌, if◌then◌else◌, Option, None, Some}
use Rattle.std.specs.Fmt.{decimal}
use Rattle.ol_term.specs.declared.translations.Translation.TheVariants.{Two}
use Rattle.ol_term.specs.Trees as tree
use Rattle.ol_term.specs.Trees.{Tree}
use Rattle.ol_term.specs.Texts.{text_of_term}
use Rattle.ol_limits.specs.Limits.{most_depth, most_size}
use Rattle.ol_beta.specs.Beta.{IsWithin, IsPast, IsPastAfter}
use Rattle.ol_beta.specs.AddressTexts.{address_text}
use Rattle.ol_strategies.specs.Redexes.{next}
use Rattle.ol_strategies.specs.Reductions.{IsStep}
use Rattle.ol_strategies.specs.Ends.{IsEnd}
use Rattle.ol_strategies.specs.declared.orders.Order.{Order}
use Rattle.ol_strategies.specs.declared.orders.Order.TheVariants as order
use Rattle.ol_strategies.specs.declared.orders.Reached.{Reached}
use Rattle.ol_strategies.specs.declared.orders.Reached.TheVariants as word
use Rattle.ol_subjects.specs.declared.answers.End.{End}
use Rattle.ol_subjects.specs.declared.answers.End.TheVariants.{Yes, No, Refused}
use Rattle.ol_subjects.specs.Subjects.{IsTerm, RefusesTerm}
use Rattle.ol_parse.specs.Grammar.{Named}
use Rattle.ol_parse.specs.Texts.{IsText}
use Rattle.ol_steps.specs.NamedTexts.{named_text}
use Rattle.ol_steps.specs.Lettered.{lettered}
use Rattle.ol_steps.specs.Marks.{mark_line}
use Rattle.ol_steps.specs.Binders.{Binders, binders_of}
use Rattle.ol_steps.specs.Contraction.{contracted}
use Rattle.ol_steps.specs.Naming as own
use Rattle.ol_steps.specs.Fronts.{BeginsWithLets}
use Rattle.ol_steps.specs.Lets.{let_names, lets, names_of_lets, is_let_at}
use Rattle.ol_steps.specs.Folded.{pruned}
use Rattle.ol_steps.specs.Words.{Glossary, with_words, worded_at}
use Rattle.ol_steps.specs.declared.stepping.Shown.{Shown}
use Rattle.ol_steps.specs.declared.showing.Unfolding.{Unfolding}

-- ---- the terms

-- no term of the list is this one
abbrev pub IsNew : List Tree → Tree → Type 0
IsNew terms t = (k : ℕ) → slice_get terms k ≡ Some t → ⊥

-- The terms through which steps in an order lead from one term to another, which comes after them. Steps are made only
-- from a term that no earlier one equals.
pub data Walk (order : Order) (t : Tree) : List Tree → Tree → Type 0 where
  starts : Walk order t [] t
  goes : {terms : List Tree} {u v : Tree} → Walk order t terms u → IsNew terms u → IsStep order u v →
      IsWithin v → Walk order t (terms ++ u ∷ []) v

-- ---- the lines

-- A term with names: letters for its binders, or if it is wanted the names that they have in the source.
abbrev pub shown_term : Bool → List (List ℕ) → Tree → Binders → Named
shown_term named names t s = if named then own.named names [] t s else lettered names 0 t

-- the line of a term
abbrev pub term_line : Bool → List (List ℕ) → Tree → Binders → List ℕ
term_line named names t s =
    (if named then named_text false (own.named names [] t s) else text_of_term names t) ++ codes "\n"

-- the line of an address
abbrev pub address_line : List ℕ → List ℕ
address_line at = codes "  at " ++ address_text at ++ codes "\n"

-- the line of carets under the text of a redex, if it is wanted
abbrev pub carets_if : Bool → Named → List ℕ → List ℕ
carets_if wanted t at = if wanted then mark_line t at else []

-- the lines of a redex, where there is one
abbrev pub redex_lines : Shown → List (List ℕ) → Tree → Binders → Option (List ℕ) → List ℕ
redex_lines how names t s None = []
redex_lines how names t s (Some at) = carets_if how.marked (shown_term how.named names t s) at ++ address_line at

-- a term as it is shown: its parts that are values are names, but for the redex that comes next and what it stands in
abbrev pub shown_tree : Shown → Glossary → Tree → Binders → Tree
shown_tree how g t s = worded_at g (next how.order t) t s

-- the line of a term as it is shown
abbrev pub shown_line : Shown → Glossary → Tree → Binders → List ℕ
shown_line how g t s = term_line how.named g.names (shown_tree how g t s) (pruned (shown_tree how g t s) s)

-- a term as it is shown, and where its redex is that comes next in the order
abbrev pub step_lines : Shown → Glossary → Tree → Binders → List ℕ
step_lines how g t s = shown_line how g t s
    ++ redex_lines how g.names (shown_tree how g t s) (pruned (shown_tree how g t s) s) (next how.order t)

-- the names of a term's binders after a step: each abstraction keeps its name
abbrev pub binders_after : Option (List ℕ) → Tree → Binders → Binders
binders_after None t s = s
binders_after (Some at) t s = contracted t s at

abbrev pub next_binders : Order → Tree → Binders → Binders
next_binders order t s = binders_after (next order t) t s

-- the names of binders behind these terms
abbrev pub last_binders : Order → Binders → List Tree → Binders
last_binders order s [] = s
last_binders order s (t ∷ terms) = last_binders order (next_binders order t s) terms

-- a step only unfolds a let, where so many at the front are left
abbrev pub unfolds : ℕ → Option (List ℕ) → Bool
unfolds left None = false
unfolds left (Some at) = is_let_at left at

-- before the first step
abbrev pub begun : ℕ → Unfolding
begun lets = record { left = lets; hidden = 0; made = 0 }

-- after a step from a term
abbrev pub unfolding_after : Order → Unfolding → Tree → Unfolding
unfolding_after order u t = if unfolds u.left (next order t)
    then record { left = u.left - 1; hidden = u.hidden + 1; made = u.made + 1 }
    else record { left = u.left; hidden = 0; made = u.made + 1 }

-- after steps from these terms
abbrev pub last_unfolding : Order → Unfolding → List Tree → Unfolding
last_unfolding order u [] = u
last_unfolding order u (t ∷ terms) = last_unfolding order (unfolding_after order u t) terms

-- so many of some things, in words: `1 step`, `2 steps`
abbrev pub how_many : ℕ → List ℕ → List ℕ
how_many n thing = decimal n ++ codes " " ++ thing ++ (if n == 1 then [] else codes "s")

-- the line for lets that were unfolded since a term was shown, and the step whose term is shown next
abbrev pub unfold_line : Unfolding → List ℕ
unfold_line u = if u.hidden == 0 then []
    else how_many u.hidden (codes "let") ++ codes " unfolded: step " ++ decimal u.made ++ codes "\n"

-- the lines of a step that is made: none yet, if it only unfolds a let
abbrev pub lines_of_step : Shown → Glossary → Unfolding → Tree → Binders → List ℕ
lines_of_step how g u t s =
    if unfolds u.left (next how.order t) then [] else unfold_line u ++ step_lines how g t s

-- the lines of the steps from these terms, one after another, of which the first has these names of binders
abbrev pub walk_lines : Shown → Glossary → Unfolding → Binders → List Tree → List ℕ
walk_lines how g u s [] = []
walk_lines how g u s (t ∷ terms) = lines_of_step how g u t s
    ++ walk_lines how g (unfolding_after how.order u t) (next_binders how.order t s) terms

-- the lines of the steps from these terms, where so many lets are at the front, and the lines of the term that they lead
-- to; its redex is told or not
abbrev pub lines_to : Shown → Glossary → ℕ → Binders → List Tree → Tree → List ℕ
lines_to how g lets s terms v = walk_lines how g (begun lets) s terms
    ++ (unfold_line (last_unfolding how.order (begun lets) terms) ++ shown_line how g v (last_binders how.order s terms))

abbrev pub lines_with_redex : Shown → Glossary → ℕ → Binders → List Tree → Tree → List ℕ
lines_with_redex how g lets s terms v = walk_lines how g (begun lets) s terms
    ++ (unfold_line (last_unfolding how.order (begun lets) terms) ++ step_lines how g v (last_binders how.order s terms))

-- the last line: some words, and how many steps were made
abbrev pub last_line : List ℕ → ℕ → List ℕ
last_line words made = words ++ codes " after " ++ how_many made (codes "step") ++ codes "\n"

-- the last line where a step's term is out of bounds
abbrev pub past_line : ℕ → ℕ → ℕ → List ℕ
past_line made size depth =
    codes "step " ++ decimal made ++ codes " exceeds the limits: size " ++ decimal size ++ codes " of " ++ decimal most_size
    ++ codes ", depth " ++ decimal depth ++ codes " of " ++ decimal most_depth ++ codes "\n"

-- the words for what an order ends in
abbrev pub reached_words : Reached → List ℕ
reached_words word.Normal = codes "normal"
reached_words word.HeadNormal = codes "head normal"
reached_words word.WeakHeadNormal = codes "weak head normal"
reached_words word.Value = codes "value"
reached_words word.Stuck = codes "stuck"

-- a stuck term isn't what the order looks for
abbrev pub reached_end : Reached → End
reached_end word.Stuck = No
reached_end _ = Yes

-- what the source hasn't got, where a term comes back
abbrev pub return_words : Order → List ℕ
return_words order.Leftmost = codes "no normal form"
return_words order.Head = codes "no head normal form"
return_words order.WeakHead = codes "no weak head normal form"
return_words order.Applicative = codes "no end in this order"
return_words order.Value = codes "no end in this order"

-- the last line where the term of a step is that of an earlier one
abbrev pub return_line : Order → ℕ → ℕ → List ℕ
return_line order made earlier =
    codes "step " ++ decimal made ++ codes " is step " ++ decimal earlier
    ++ codes " again: " ++ return_words order ++ codes "\n"

-- ---- the answer

-- The text of an order's walk from a term, by at most so many steps, and how it ends. The term of step k is the k-th
-- of the walk, from 0. So many lets are at the front of the first term, and its binders have the names s.
pub data Tells (how : Shown) (g : Glossary) (lets most : ℕ) (t : Tree) (s : Binders) (text : List ℕ)
    : End → Type 0 where
  -- the last term is what the order ends in
  ends : {terms : List Tree} {v : Tree} (word : Reached) → Walk how.order t terms v → length terms ≤ most →
      IsEnd how.order v word →
      text ≡ lines_to how g lets s terms v ++ last_line (reached_words word) (length terms) →
      Tells how g lets most t s text (reached_end word)
  -- the last term is that of an earlier step
  returns : {terms : List Tree} {v : Tree} (k : ℕ) → Walk how.order t terms v → length terms ≤ most →
      slice_get terms k ≡ Some v →
      text ≡ lines_to how g lets s terms v ++ return_line how.order (length terms) k →
      Tells how g lets most t s text No
  -- all steps were made, and a redex is left
  left : {terms : List Tree} {v : Tree} {at : List ℕ} → Walk how.order t terms v → length terms ≡ most →
      IsNew terms v → next how.order v ≡ Some at →
      text ≡ lines_with_redex how g lets s terms v ++ last_line (codes "a redex is left") most →
      Tells how g lets most t s text No
  -- the next step makes a term out of bounds
  past : {terms : List Tree} {v : Tree} {at : List ℕ} {size depth : ℕ} → Walk how.order t terms v →
      length terms < most → IsNew terms v → next how.order v ≡ Some at → IsPastAfter v at size depth →
      text ≡ lines_with_redex how g lets s terms v ++ past_line (length terms + 1) size depth →
      Tells how g lets most t s text No

-- the binders of a file's term have these names, if they are wanted
abbrev pub IsSource : Bool → List ℕ → Binders → Type 0
IsSource named bytes s = named ≡ true → (t : Named) × IsText bytes t × (s ≡ binders_of t)

-- how many lets at the front of a file are told apart: all, if it is wanted
abbrev pub HasLets : Bool → List ℕ → ℕ → Type 0
HasLets true bytes n = BeginsWithLets bytes n
HasLets false bytes n = n ≡ 0

-- the free names of a term, and behind them those of the lets at its front, where its binders have these names
abbrev pub glossary : List (List ℕ) → ℕ → Tree → Binders → Glossary
glossary names n t s = record {
  names = names ++ names_of_lets (with_words names (lets names (let_names n s) t s));
  first = length names;
  rows = with_words names (lets names (let_names n s) t s);
  lets = lets names (let_names n s) t s;
}

-- The answer to a file, by at most so many steps.
pub data IsStepsOf (bytes : List ℕ) (how : Shown) (most : ℕ) (text : List ℕ) : End → Type 0 where
  refused : RefusesTerm Two bytes text → IsStepsOf bytes how most text Refused
  too_large : {t : Tree} {names : List (List ℕ)} → IsTerm Two bytes t names → IsPast t →
      text ≡ past_line 0 (tree.term_size t) (tree.depth t) → IsStepsOf bytes how most text No
  steps : {t : Tree} {names : List (List ℕ)} {s : Binders} {n : ℕ} {e : End} → IsTerm Two bytes t names → IsWithin t →
      IsSource (how.named || how.folded) bytes s → HasLets how.folded bytes n →
      Tells how (glossary names n t s) n most t s text e → IsStepsOf bytes how most text e
