-- What holds of lets and of terms whose parts are written by their names.
use Rattle.std.specs.Prelude.{◌≡◌, ℕ, ◌-◌, ◌==◌, nat_lt, true, false, if◌then◌else◌, slice_get, slice_index_or}
use Rattle.std.specs.Prelude.{List, [], ◌∷◌, ◌++◌, length, Option, None, Some, IsSome}
use Rattle.ol_term.specs.Trees.{Tree, var, free, lam, app, is_below, is_named_below}
use Rattle.ol_term.specs.NameLists.{NoNameTwice}
use Rattle.ol_parse.specs.Grammar.{Named}
use Rattle.ol_parse.specs.Texts.{IsText}
use Rattle.ol_parse.specs.Numbered.{number}
use Rattle.ol_beta.specs.Beta.{contracted}
use Rattle.ol_steps.specs.Binders as binders
use Rattle.ol_steps.specs.Binders.{Binders, Fits}
use Rattle.ol_steps.specs.Contraction as own
use Rattle.ol_steps.specs.Folded.{folded_at, pruned}
use Rattle.ol_steps.specs.Words.{with_words}
use Rattle.ol_steps.specs.Fronts.{BeginsWithLets}
use Rattle.ol_steps.specs.Lets.{let_names, lets, names_of_lets, values_of_lets, is_let_at}

-- a tree with the values in the places of their names, which are numbered from n on
abbrev pub unfolded : ℕ → List Tree → Tree → Tree
unfolded n vs (var k) = var k
unfolded n vs (free k) = if nat_lt k n then free k else slice_index_or vs (k - n) (free k)
unfolded n vs (lam t) = lam (unfolded n vs t)
unfolded n vs (app f a) = app (unfolded n vs f) (unfolded n vs a)

-- if the values are put in again, the tree is what it was, whatever the values are
abbrev pub UnfoldedIsTerm : Type 0
UnfoldedIsTerm = (n : ℕ) (vs : List Tree) (at : Option (List ℕ)) (t : Tree) → is_named_below n t ≡ true →
    unfolded n vs (folded_at n vs at t) ≡ t

-- where there is no value, nothing changes
abbrev pub NoValueNoChange : Type 0
NoValueNoChange = (n : ℕ) (at : Option (List ℕ)) (t : Tree) → folded_at n [] at t ≡ t

-- nor do the names of binders that have the shape of a tree
abbrev pub NothingIsPruned : Type 0
NothingIsPruned = (t : Tree) (s : Binders) → Fits t s → pruned t s ≡ s

-- those that are left have the shape of the folded tree
abbrev pub FoldedFits : Type 0
FoldedFits = (n : ℕ) (vs : List Tree) (at : Option (List ℕ)) (t : Tree) (s : Binders) → Fits t s →
    Fits (folded_at n vs at t) (pruned (folded_at n vs at t) s)

-- no name of a let is a free name, or that of another let which counts, and no word of several is a name
abbrev pub LetsDiffer : Type 0
LetsDiffer = (names later : List (List ℕ)) (t : Tree) (s : Binders) → NoNameTwice names →
    NoNameTwice (names ++ names_of_lets (with_words names (lets names later t s)))

-- the value of each is closed
abbrev pub ValuesAreClosed : Type 0
ValuesAreClosed = (names later : List (List ℕ)) (t v : Tree) (s : Binders) (k : ℕ) → is_below 0 t ≡ true →
    slice_get (values_of_lets (with_words names (lets names later t s))) k ≡ Some v →
    (is_below 0 v ≡ true) × (is_named_below 0 v ≡ true)

-- ---- no value is left

-- the subterm to which an address leads, if it leads to one; its moves are those of contraction
abbrev pub subterm_along : Tree → List ℕ → Option Tree
subterm_along (lam t) (m ∷ at) = if m == 0 then subterm_along t at else None
subterm_along (app f a) (m ∷ at) = if m == 1 then subterm_along f at else if m == 2 then subterm_along a at else None
subterm_along t [] = Some t
subterm_along t at = None

-- an address leads to a redex of a tree, or there is none
abbrev pub LeadsToRedex : Option (List ℕ) → Tree → Type 0
LeadsToRedex None t = Unit {0}
LeadsToRedex (Some at) t = IsSome (contracted t at)

-- an address is neither that of a redex, nor of a subterm in which the redex stands
abbrev pub IsOffTheWay : Option (List ℕ) → List ℕ → Type 0
IsOffTheWay None at = Unit {0}
IsOffTheWay (Some redex) at = (rest : List ℕ) → redex ≡ at ++ rest → ⊥

-- no subterm of a folded tree is one of the values that is closed, but for a redex and what this stands in
abbrev pub NothingIsLeft : Type 0
NothingIsLeft = (n : ℕ) (vs : List Tree) (redex : Option (List ℕ)) (t v : Tree) (at : List ℕ) (k : ℕ) →
    slice_get vs k ≡ Some v → is_below 0 v ≡ true → is_named_below 0 v ≡ true → LeadsToRedex redex t →
    IsOffTheWay redex at → subterm_along (folded_at n vs redex t) at ≡ Some v → ⊥

-- ---- the lets that are left at the front

-- the name of the binder of the redex at an address
abbrev pub redex_binder : Binders → List ℕ → Option (List ℕ)
redex_binder (binders.app (binders.lam x s) r) [] = Some x
redex_binder (binders.lam x s) (m ∷ at) = redex_binder s at
redex_binder (binders.app r s) (m ∷ at) = if m == 1 then redex_binder r at else redex_binder s at
redex_binder s at = None

-- a name among others, and those others in their order
pub record IsAmongOthers (x : List ℕ) (names others : List (List ℕ)) : Type 0 where
  pub before : List (List ℕ)
  pub after : List (List ℕ)
  pub names_are : names ≡ before ++ x ∷ after
  pub others_are : others ≡ before ++ after

-- however the binders of a text's term are named, as many lets are at its front as the text begins with
abbrev pub TextHasLets : Type 0
TextHasLets = (bytes : List ℕ) (n : ℕ) (t : Named) (s : Binders) → IsText bytes t → BeginsWithLets bytes n →
    Fits (number t) s → length (let_names n s) ≡ n

-- Where so many lets are at the front, contraction of the redex of one of them leaves the others there: its binder has
-- the let's name.
abbrev pub LetGoes : Type 0
LetGoes = (n : ℕ) (t : Tree) (s : Binders) (at : List ℕ) → Fits t s → length (let_names n s) ≡ n →
    is_let_at n at ≡ true →
    (x : List ℕ) × (redex_binder s at ≡ Some x)
    × IsAmongOthers x (let_names n s) (let_names (n - 1) (own.contracted t s at))

-- contraction of each other redex leaves all of them there
abbrev pub LetsStay : Type 0
LetsStay = (n : ℕ) (t : Tree) (s : Binders) (at : List ℕ) → Fits t s → length (let_names n s) ≡ n →
    IsSome (contracted t at) → is_let_at n at ≡ false → let_names n (own.contracted t s at) ≡ let_names n s
