-- What holds of the names of binders.
use Rattle.std.specs.Prelude.{◌≡◌, ℕ, ◌<◌, ◌^◌, true, false, List, [], ◌++◌, length, replicate, Some}
use Rattle.ol_term.specs.Trees.{Tree, is_below, is_named_below, depth}
use Rattle.ol_term.specs.NameLists.{NoNameTwice}
use Rattle.ol_term.specs.BinderNames.{is_among}
use Rattle.ol_parse.specs.Grammar.{Named, var, lam, app}
use Rattle.ol_parse.specs.Texts.{IsName, IsText}
use Rattle.ol_parse.specs.Numbered.{names_of, number, numbered}
use Rattle.ol_beta.specs.Beta as beta
use Rattle.ol_steps.specs.NamedTexts.{named_text}
use Rattle.ol_steps.specs.Lettered.{lettered}
use Rattle.ol_steps.specs.Binders.{Binders, binders_of, Fits}
use Rattle.ol_steps.specs.Contraction.{contracted}
use Rattle.ol_steps.specs.Naming.{primed, named}

-- some primes stand behind a name; with as many it is none of these names, with fewer it is one of them
pub record HasFewestPrimes (taken : List (List ℕ)) (x y : List ℕ) : Type 0 where
  pub primes : ℕ
  pub is : y ≡ x ++ replicate primes 39
  pub new : is_among taken y ≡ false
  pub least : (m : ℕ) → m < primes → is_among taken (x ++ replicate m 39) ≡ true

abbrev pub PrimedIsLeast : Type 0
PrimedIsLeast = (taken : List (List ℕ)) (x : List ℕ) → HasFewestPrimes taken x (primed taken x)

-- the binders of a text's term have the shape of its tree
abbrev pub SourceFits : Type 0
SourceFits = (t : Named) → Fits (number t) (binders_of t)

-- and so have those after contraction
abbrev pub ContractedFits : Type 0
ContractedFits = (t u : Tree) (s : Binders) (at : List ℕ) → Fits t s → beta.contracted t at ≡ Some u →
    Fits u (contracted t s at)

-- the tree of a source is named as the source is: none of its binders gets a prime
abbrev pub SourceIsKept : Type 0
SourceIsKept = (t : Named) → named (names_of t) [] (number t) (binders_of t) ≡ t

-- The names of a tree that is named stand for the places of the tree: no binder takes what isn't its own.
abbrev pub NoneIsCaught : Type 0
NoneIsCaught = (names : List (List ℕ)) (t : Tree) (s : Binders) → NoNameTwice names → Fits t s →
    is_below 0 t ≡ true → is_named_below (length names) t ≡ true → numbered names [] (named names [] t s) ≡ t

-- A tree with letters for its binders is read as the tree. Within these bounds the letters differ (ol_term/BinderLaws.antt).
abbrev pub LettersAreRead : Type 0
LettersAreRead = (names : List (List ℕ)) (t : Tree) → NoNameTwice names → length names < 2 ^ 32 → depth t < 2 ^ 64 →
    is_below 0 t ≡ true → is_named_below (length names) t ≡ true → numbered names [] (lettered names 0 t) ≡ t

-- each name of a term is a name of the grammar
abbrev pub AllNames : Named → Type 0
AllNames (var x) = IsName x
AllNames (lam x t) = IsName x × AllNames t
AllNames (app f a) = AllNames f × AllNames a

-- the names of a text's term are such names
abbrev pub TextHasNames : Type 0
TextHasNames = (bytes : List ℕ) (t : Named) → IsText bytes t → AllNames t

-- the printed text of a term with names is read as the term
abbrev pub NamedIsRead : Type 0
NamedIsRead = (t : Named) → AllNames t → IsText (named_text false t) t
