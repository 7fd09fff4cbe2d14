-- What a term that comes back says of the first term, what carets stand under, and what stands at an address. Also that
-- what is printed is read again, and that how terms are shown changes no end.
use Rattle.std.specs.Prelude.{◌≡◌, ℕ, ◌+◌, ◌^◌, ◌<◌, ◌==◌, Bool, true, false, ◌||◌, if◌then◌else◌, ◌⊎◌, List, [], ◌∷◌, ◌++◌, codes, length}
use Rattle.std.specs.Prelude.{slice_get, slice_index_or, Option, Some, is_some, IsSome}
use Rattle.ol_term.specs.Trees as tree
use Rattle.ol_term.specs.Trees.{Tree, is_named_below}
use Rattle.ol_term.specs.Texts.{text_of_term}
use Rattle.ol_beta.specs.Beta.{IsWithin}
use Rattle.ol_law_meaning.specs.Shows.{BetaReduces}
use Rattle.ol_law_confluence.specs.Reductions.{HasNormalForm, HasHeadNormalForm}
use Rattle.ol_strategies.specs.Redexes.{next}
use Rattle.ol_strategies.specs.Reductions.{Leads}
use Rattle.ol_strategies.specs.Ends.{IsWeakHeadNormal}
use Rattle.ol_strategies.specs.declared.orders.Order.{Order}
use Rattle.ol_strategies.specs.declared.orders.Order.TheVariants as order
use Rattle.ol_subjects.specs.declared.answers.End.{End}
use Rattle.ol_parse.specs.Grammar.{Named, var, lam, app}
use Rattle.ol_parse.specs.Texts.{IsLine, IsText}
use Rattle.ol_parse.specs.Numbered.{names_of, number, numbered}
use Rattle.ol_steps.specs.NamedTexts.{named_text}
use Rattle.ol_steps.specs.Lettered.{lettered}
use Rattle.ol_steps.specs.Marks.{part}
use Rattle.ol_steps.specs.TextLaws.{IsMarked}
use Rattle.ol_steps.specs.Binders as binders
use Rattle.ol_steps.specs.Binders.{Binders, binders_of, Fits}
use Rattle.ol_steps.specs.Naming.{named}
use Rattle.ol_steps.specs.Fronts.{BeginsWithLets}
use Rattle.ol_steps.specs.Folded.{pruned}
use Rattle.ol_steps.specs.Lets.{LetRow, values_of_lets}
use Rattle.ol_steps.specs.Words.{Glossary, written_number, word_for, worded_at}
use Rattle.ol_steps.specs.LetLaws.{unfolded, subterm_along}
use Rattle.ol_steps.specs.declared.stepping.Shown.{Shown}
use Rattle.ol_steps.specs.Steps.{Walk, glossary, last_binders, shown_term, shown_tree, term_line}
use Rattle.ol_steps.specs.Steps.{begun, last_unfolding, IsStepsOf}

-- beta reduction of a term comes to a weak head normal form
pub record HasWeakHeadNormalForm (t : Tree) : Type 0 where
  pub form : Tree
  pub reduces : BetaReduces t form
  pub is_weak_head_normal : IsWeakHeadNormal form

-- a redex comes next in each term that the order leads to
abbrev pub HasNoEnd : Order → Tree → Type 0
HasNoEnd order t = (n : ℕ) (u : Tree) → Leads order n t u → IsSome (next order u)

-- what the words of the order say that a term hasn't got
abbrev pub HasNone : Order → Tree → Type 0
HasNone order.Leftmost t = HasNormalForm t → ⊥
HasNone order.Head t = HasHeadNormalForm t → ⊥
HasNone order.WeakHead t = HasWeakHeadNormalForm t → ⊥
HasNone order.Applicative t = HasNoEnd order.Applicative t
HasNone order.Value t = HasNoEnd order.Value t

-- where a term of a walk is an earlier one of it, the order has no end
abbrev pub ReturnIsEndless : Type 0
ReturnIsEndless = (order : Order) (t v : Tree) (terms : List Tree) (k : ℕ) → Walk order t terms v →
    slice_get terms k ≡ Some v → HasNoEnd order t

-- and the first term hasn't got what the order looks for
abbrev pub ReturnHasNone : Type 0
ReturnHasNone = (order : Order) (t v : Tree) (terms : List Tree) (k : ℕ) → Walk order t terms v →
    slice_get terms k ≡ Some v → HasNone order t

-- a redex: an abstraction that is applied to an argument
abbrev pub IsRedex : Named → Type 0
IsRedex u = (binder : List ℕ) × (body : Named) × (argument : Named) × (u ≡ app (lam binder body) argument)

-- A term with names stands in the term's line, and the carets stand under a redex at an address of it. What a redex is
-- differs with how the term is shown.
pub record MarksRedex (Redex : Named → Type 0) (own : Bool) (names : List (List ℕ)) (t : Tree) (s : Binders)
    (at : List ℕ) (u : Named) : Type 0 where
  pub line : term_line own names t s ≡ named_text false u ++ codes "\n"
  pub redex : Redex (part u at)
  pub marked : IsMarked u at

-- the carets stand under the redex that an order contracts next
abbrev pub RedexIsMarked : Type 0
RedexIsMarked = (order : Order) (own : Bool) (names : List (List ℕ)) (t : Tree) (s : Binders) (at : List ℕ) →
    (own ≡ true → Fits t s) → next order t ≡ Some at →
    MarksRedex IsRedex own names t s at (shown_term own names t s)

-- an abstraction, or the name of a value that is one
abbrev pub StandsForAbstraction : Glossary → Named → Type 0
StandsForAbstraction g (var x) = (k : ℕ) × (body : Tree) × (slice_get (values_of_lets g.rows) k ≡ Some (tree.lam body))
    × (x ≡ slice_index_or g.names (g.first + k) [])
StandsForAbstraction g (lam x t) = Unit {0}
StandsForAbstraction g (app f a) = ⊥

-- a redex where parts are written by names: such a function that is applied to an argument
abbrev pub IsFoldedRedex : Glossary → Named → Type 0
IsFoldedRedex g u = (function : Named) × (argument : Named) × (u ≡ app function argument)
    × StandsForAbstraction g function

-- the carets stand under it, where the tree is folded that has the redex
abbrev pub FoldedRedexIsMarked : Type 0
FoldedRedexIsMarked = (how : Shown) (g : Glossary) (t : Tree) (s : Binders) (at : List ℕ) →
    (how.named ≡ true → Fits t s) → next how.order t ≡ Some at →
    MarksRedex (IsFoldedRedex g) how.named g.names (shown_tree how g t s) (pruned (shown_tree how g t s) s) at
    (shown_term how.named g.names (shown_tree how g t s) (pruned (shown_tree how g t s) s))

-- the names of the binders round the part at an address of a term with names, the innermost first
abbrev pub binders_round : Named → List ℕ → List (List ℕ)
binders_round (lam x t) (m ∷ at) = binders_round t at ++ x ∷ []
binders_round (app f a) (m ∷ at) = if m == 1 then binders_round f at else binders_round a at
binders_round t at = []

-- an address leads to a part of a term with names; its moves are those of contraction
abbrev pub leads_to_part : Named → List ℕ → Bool
leads_to_part u [] = true
leads_to_part (var x) (m ∷ at) = false
leads_to_part (lam x t) (m ∷ at) = if m == 0 then leads_to_part t at else false
leads_to_part (app f a) (m ∷ at) =
    if m == 1 then leads_to_part f at else if m == 2 then leads_to_part a at else false

-- an address leads to a part of a term as it is shown exactly if it leads to a subterm of the tree
abbrev pub PartsAreThere : Type 0
PartsAreThere = (own : Bool) (names : List (List ℕ)) (t : Tree) (s : Binders) (at : List ℕ) → (own ≡ true → Fits t s) →
    leads_to_part (shown_term own names t s) at ≡ is_some (subterm_along t at)

-- the names of the binders in the subterm to which an address leads
abbrev pub binders_along : Binders → List ℕ → Binders
binders_along (binders.lam x s) (m ∷ at) = binders_along s at
binders_along (binders.app r s) (m ∷ at) = if m == 1 then binders_along r at else binders_along s at
binders_along s at = s

-- they have the shape of that subterm
abbrev pub BindersAlongFit : Type 0
BindersAlongFit = (t v : Tree) (s : Binders) (at : List ℕ) → Fits t s → subterm_along t at ≡ Some v →
    Fits v (binders_along s at)

-- the part at an address of a tree with its binders' own names is the subterm there, with the own names of its binders,
-- below the binders round it
abbrev pub NamedPartIsSubterm : Type 0
NamedPartIsSubterm = (names : List (List ℕ)) (t v : Tree) (s : Binders) (at : List ℕ) → Fits t s →
    subterm_along t at ≡ Some v →
    part (named names [] t s) at ≡ named names (binders_round (named names [] t s) at) v (binders_along s at)

-- and with letters it is the subterm with letters, below as many binders as stand round the part
abbrev pub LetteredPartIsSubterm : Type 0
LetteredPartIsSubterm = (names : List (List ℕ)) (t v : Tree) (at : List ℕ) → subterm_along t at ≡ Some v →
    part (lettered names 0 t) at ≡ lettered names (length (binders_round (lettered names 0 t) at)) v

-- if a term with names is read as a tree, what stands at an address of it is read, below the binders round it, as the
-- tree's subterm there
abbrev pub PartIsRead : Type 0
PartIsRead = (names : List (List ℕ)) (u : Named) (t v : Tree) (at : List ℕ) → numbered names [] u ≡ t →
    subterm_along t at ≡ Some v → numbered names (binders_round u at) (part u at) ≡ v

-- At one address, a folded tree has a subterm, and the tree has a redex, an abstraction that is applied to an argument.
-- If the values are put in the places of their names, the first is the second.
pub record StandsForRedex (g : Glossary) (folded t : Tree) (at : List ℕ) : Type 0 where
  pub part : Tree
  pub body : Tree
  pub argument : Tree
  pub shown : subterm_along folded at ≡ Some part
  pub redex : subterm_along t at ≡ Some (tree.app (tree.lam body) argument)
  pub unfolds : unfolded g.first (values_of_lets g.rows) part ≡ tree.app (tree.lam body) argument

-- it is so at the address of the redex that comes next
abbrev pub UnfoldsToNext : Type 0
UnfoldsToNext = (how : Shown) (g : Glossary) (t : Tree) (s : Binders) (at : List ℕ) → is_named_below g.first t ≡ true →
    next how.order t ≡ Some at → StandsForRedex g (shown_tree how g t s) t at

-- A tree whose binders have these names: they have its shape, and what is printed is read again, as a term of the same
-- tree. So no binder takes what isn't its own.
pub record KeepsNames (names : List (List ℕ)) (t : Tree) (s : Binders) : Type 0 where
  pub fits : Fits t s
  pub text : IsText (named_text false (named names [] t s)) (named names [] t s)
  pub tree : numbered names [] (named names [] t s) ≡ t

-- it is so with each term of a walk from the term of a text, if the binders keep the names that they have in the text
abbrev pub ReadsAgain : Type 0
ReadsAgain = (order : Order) (bytes : List ℕ) (source : Named) (v : Tree) (terms : List Tree) → IsText bytes source →
    Walk order (number source) terms v →
    KeepsNames (names_of source) v (last_binders order (binders_of source) terms)

-- A tree whose binders have letters: what is printed is read again, as a term of the same tree.
pub record ReadsLetters (names : List (List ℕ)) (t : Tree) : Type 0 where
  pub text : IsText (text_of_term names t) (lettered names 0 t)
  pub tree : numbered names [] (lettered names 0 t) ≡ t

-- it is so with each term of a walk from the term of a text, if steps are made from that
abbrev pub LettersReadAgain : Type 0
LettersReadAgain = (order : Order) (bytes : List ℕ) (source : Named) (v : Tree) (terms : List Tree) → IsText bytes source →
    IsWithin (number source) → length (names_of source) < 2 ^ 32 → Walk order (number source) terms v →
    ReadsLetters (names_of source) v

-- a bar is among some bytes
abbrev pub has_bar : List ℕ → Bool
has_bar [] = false
has_bar (b ∷ bs) = (b == 124) || has_bar bs

-- What is printed of a tree that is folded with a glossary. If no bar is in it, it is read again. As a term it is the
-- folded tree, and, where the values are put in the places of their names, the tree.
pub record ReadsFolded (own : Bool) (g : Glossary) (at : Option (List ℕ)) (t : Tree) (s : Binders) (u : Named)
    : Type 0 where
  pub is : u ≡ shown_term own g.names (worded_at g at t s) (pruned (worded_at g at t s) s)
  pub text : has_bar (named_text false u) ≡ false → IsText (named_text false u) u
  pub folded : numbered g.names [] u ≡ worded_at g at t s
  pub tree : unfolded g.first (values_of_lets g.rows) (numbered g.names [] u) ≡ t

-- it is so with each term of a walk from the term of a text, whatever redex is shown, and however many lets are told apart
abbrev pub FoldedReadsAgain : Type 0
FoldedReadsAgain = (order : Order) (at : Option (List ℕ)) (n : ℕ) (bytes : List ℕ) (source : Named) (v : Tree)
    (terms : List Tree) → IsText bytes source → Walk order (number source) terms v →
    (u : Named) × ReadsFolded true (glossary (names_of source) n (number source) (binders_of source)) at v
    (last_binders order (binders_of source) terms) u

-- and so with letters, if steps are made from the first term
abbrev pub FoldedLettersReadAgain : Type 0
FoldedLettersReadAgain = (order : Order) (at : Option (List ℕ)) (n : ℕ) (bytes : List ℕ) (source : Named) (v : Tree)
    (terms : List Tree) → IsText bytes source → IsWithin (number source) →
    length (glossary (names_of source) n (number source) (binders_of source)).names < 2 ^ 32 →
    Walk order (number source) terms v →
    (u : Named) × ReadsFolded false (glossary (names_of source) n (number source) (binders_of source)) at v
    (last_binders order (binders_of source) terms) u

-- in the glossary of a text's term, a part that has become the name of a let is written by the word of the let's value
abbrev pub WordIsShown : Type 0
WordIsShown = (bytes : List ℕ) (n : ℕ) (source : Named) (g : Glossary) (s : Binders) (k : ℕ) (row : LetRow) →
    IsText bytes source → g ≡ glossary (names_of source) n (number source) (binders_of source) →
    slice_get g.lets k ≡ Some row →
    slice_index_or g.names (written_number g (g.first + k) s) [] ≡ word_for g.lets row.value s

-- The count of a walk's steps is that of the order's steps from its first term to its last: each counts, also one that
-- only unfolds a let.
abbrev pub EachStepCounts : Type 0
EachStepCounts = (order : Order) (lets : ℕ) (t v : Tree) (terms : List Tree) → Walk order t terms v →
    Leads order (last_unfolding order (begun lets) terms).made t v

-- the last line of a text: no line feed is in it but its last byte, and before it stands nothing or the end of a line
pub record HasLastLine (text line : List ℕ) : Type 0 where
  pub before : List ℕ
  pub words : List ℕ
  pub text_is : text ≡ before ++ line
  pub line_is : line ≡ words ++ codes "\n"
  pub one : IsLine words
  pub whole : (before ≡ []) ⊎ ((lines : List ℕ) × (before ≡ lines ++ codes "\n"))

-- however the terms of an order are shown, the answers to a file end alike: by one end, and with one last line
abbrev pub ShowingChangesNoEnd : Type 0
ShowingChangesNoEnd = (bytes : List ℕ) (how other : Shown) (most : ℕ) (text more : List ℕ) (e f : End) →
    how.order ≡ other.order → IsStepsOf bytes how most text e → IsStepsOf bytes other most more f →
    (e ≡ f) × ((line : List ℕ) × HasLastLine text line × HasLastLine more line)

-- if no let stands at the front of a file, the answer with folding is that without
abbrev pub NoLetSameAnswer : Type 0
NoLetSameAnswer = (bytes : List ℕ) (how : Shown) (most : ℕ) (text more : List ℕ) (e f : End) → BeginsWithLets bytes 0 →
    IsStepsOf bytes (record how { folded = true }) most text e →
    IsStepsOf bytes (record how { folded = false }) most more f → (text ≡ more) × (e ≡ f)
