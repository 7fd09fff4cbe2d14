-- The laws of the comparison of two printed trees for their sources.
use Rattle.std.specs.Prelude.{◌≡◌, ◌↔◌, length, ℕ, ◌+◌, ◌*◌, ◌^◌, Bool, true, List, [], ◌∷◌, slice_index_or}
use Rattle.ol_term.specs.NameLists.{NoNameTwice}
use Rattle.ol_translate.specs.Names.{HasNames}
use Rattle.ol_beta.specs.Leftmost.{IsNormal}
use Rattle.ol_readback.specs.Whole.{IsWholeTree}
use Rattle.ol_readback.specs.declared.answers.ReadNode.{ReadNode}
use Rattle.ol_readback.specs.declared.answers.ReadNode.TheVariants as node
use Rattle.ol_equal.specs.declared.answers.Compared.{Compared}
use Rattle.ol_equal.specs.declared.answers.Compared.TheVariants as answer
use Rattle.ol_equal.specs.Comparing.{TreeWithNames, place_at, IsFirstApart, IsComparison}
use Rattle.ol_term.specs.Trees.{Tree, var, free, lam, app}
use Rattle.ol_law_meaning.specs.Shows.{BetaReduces}
use Rattle.ol_law_meaning.specs.Meaning.{SaysOf}
use Rattle.ol_law_confluence.specs.Reductions.{Convertible}

-- ---- free names by their bytes

-- a number for each list of bytes, and no number for two
abbrev pub number_of : List ℕ → ℕ
number_of [] = 0
number_of (x ∷ xs) = 2 ^ x * (2 * number_of xs + 1)

-- a term with other numbers for its free names
abbrev pub renamed : (ℕ → ℕ) → Tree → Tree
renamed f (var y) = var y
renamed f (free k) = free (f k)
renamed f (lam t) = lam (renamed f t)
renamed f (app t u) = app (renamed f t) (renamed f u)

-- In the place of its number in this list, each free name has the number of its bytes. So terms
-- with two lists of names are compared: a free name of the one is one of the other where the bytes
-- are the same.
abbrev pub by_bytes : List (List ℕ) → Tree → Tree
by_bytes names t = renamed (λ k. number_of (slice_index_or names k [])) t

-- two numbers are one only for one list of bytes
abbrev pub NumberIsOfOne : Type 0
NumberIsOfOne = (xs ys : List ℕ) → number_of xs ≡ number_of ys → xs ≡ ys

-- And with names that differ nothing is lost: terms in which all of the names occur are convertible
-- exactly where they are by bytes.
abbrev pub NamesAreKept : Type 0
NamesAreKept = (names : List (List ℕ)) → NoNameTwice names → (t u : Tree) →
    HasNames t (length names) → HasNames u (length names) →
    Convertible (by_bytes names t) (by_bytes names u) ↔ Convertible t u

-- ---- what a comparison says

-- the two terms have one normal form
pub record ShareNormalForm (t u : Tree) : Type 0 where
  pub form : Tree
  pub first : BetaReduces t form
  pub second : BetaReduces u form
  pub is_normal : IsNormal form

-- what was printed of two terms
pub record ArePrinted (t u : Tree) (b c : Bool) (ns ms : List ReadNode) : Type 0 where
  pub first : SaysOf t b ns
  pub second : SaysOf u c ms
  pub first_whole : IsWholeTree ns
  pub second_whole : IsWholeTree ms

-- What a comparison tells of the two terms: `equal`, that they have one normal form, and `different
-- at`, that they aren't convertible. `cut at` tells nothing.
abbrev pub TellsTerms : TreeWithNames → Tree → Tree → Compared → Type 0
TellsTerms names t u answer.Equal =
    ShareNormalForm (by_bytes names.a t) (by_bytes names.b u)
TellsTerms names t u (answer.Different path) =
    Convertible (by_bytes names.a t) (by_bytes names.b u) → ⊥
TellsTerms names t u (answer.Cut path) = Unit {0}

abbrev pub ComparisonTellsTerms : Type 0
ComparisonTellsTerms = (names : TreeWithNames) (t u : Tree) (b c : Bool) (ns ms : List ReadNode) →
    ArePrinted t u b c ns ms → (x : Compared) → IsComparison names ns ms x → TellsTerms names t u x

-- One of two places is a head, and the other has no head, which the tree says of its source.
abbrev pub IsHeadBesideLost : Bool → Bool → ReadNode → ReadNode → Type 0
IsHeadBesideLost b c (node.Head l v m) node.NoHead = c ≡ true
IsHeadBesideLost b c node.NoHead (node.Head l v m) = b ≡ true
IsHeadBesideLost b c _ _ = ⊥

-- but where the first place apart is one of a head beside a place without one, they aren't
-- convertible either
abbrev pub HeadBesideLostIsNotConvertible : Type 0
HeadBesideLostIsNotConvertible = (names : TreeWithNames) (t u : Tree) (b c : Bool)
    (ns ms : List ReadNode) → ArePrinted t u b c ns ms →
    (k : ℕ) (path : List ℕ) → IsFirstApart names ns ms k path →
    IsHeadBesideLost b c (place_at ns k) (place_at ms k) →
    Convertible (by_bytes names.a t) (by_bytes names.b u) → ⊥
