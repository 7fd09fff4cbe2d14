-- What a walk over a labelled term reads: at each node that it crosses, letters, and where
-- overlined and underlined words begin and end (Lévy 1978; Asperti and Laneve, Paths, computations
-- and labels in the lambda-calculus, 1995).
use Rattle.std.specs.Prelude.{◌≡◌, ℕ, true, false, List, [], ◌∷◌, ◌++◌, ◌⊎◌, Some, None, length}
use Rattle.ol_beta.specs.Leftmost.{leftmost}
use Rattle.ol_context.specs.Contexts.{Level}
use Rattle.ol_law_edges.specs.Edges.{IsIn}
use Rattle.ol_law_optimality.specs.Met.{IsMatched, IsMet}
use Rattle.ol_law_meaning.specs.Heads.{Normal}
use Rattle.ol_law_meaning.specs.Contraction.{is_abstraction}
use Rattle.ol_law_optimality.specs.Labels.{Label, none, over, under, joined, Labelled, var, free, lam, app}
use Rattle.ol_law_optimality.specs.Labels.{erased, before, substituted, contracted, degree}
use Rattle.ol_law_optimality.specs.Labels.{LeftmostContracts}
use Rattle.ol_law_meaning.specs.Sites.{Site, self, in_lam, in_function, in_argument}
use Rattle.ol_law_meaning.specs.Spots.{Place, root, wire, Spot, at, body, fun, arg, Edge, Trail, here, on, back}
use Rattle.ol_term.specs.Trees.{Tree}
use Rattle.ol_term.specs.declared.translations.Translation.{Translation}
use Rattle.ol_law_optimality.specs.Signs.{Sign, begins_over, ends_over, begins_under, ends_under}
use Rattle.ol_law_optimality.specs.Signs.{Signs, onward, backward, reversed, signs_of}

-- the label of the whole term
abbrev pub label_of : Labelled → Label
label_of (var k w) = w
label_of (free k w) = w
label_of (lam b w) = w
label_of (app f a w) = w

-- from the root of an abstraction to the root of its body, or to the abstraction's variable
abbrev pub from_lam : Labelled → Spot → Signs
from_lam b (at root v c) = onward ends_over ∷ signs_of (label_of b)
from_lam b (at (wire y) v c) = backward begins_under ∷ []
from_lam b (body s) = []
from_lam b (fun s) = []
from_lam b (arg v s) = []

-- from the root of an application to that of its function
abbrev pub from_app : Labelled → Signs
from_app f = onward begins_over ∷ signs_of (label_of f)

-- from the root of an application's function to that of its argument
abbrev pub from_fun : Labelled → Labelled → Spot → Signs
from_fun f a (at p v c) =
    reversed (signs_of (label_of f)) ++ onward ends_under ∷ signs_of (label_of a)
from_fun f a (body s) = []
from_fun f a (fun s) = []
from_fun f a (arg v s) = []

-- What is read along an edge, from the outer spot to the inner one: a label is read where the root
-- of its subterm is entered. Nothing is read on the way to a wire.
abbrev pub reading : Labelled → Spot → Spot → Signs
reading (var k w) s z = []
reading (free k w) s z = []
reading (lam b w) (at root v c) (body z) = from_lam b z
reading (lam b w) (body s) (body z) = reading b s z
reading (lam b w) (at root v c) (at p u d) = []
reading (lam b w) (at root v c) (fun z) = []
reading (lam b w) (at root v c) (arg u z) = []
reading (lam b w) (at (wire y) v c) z = []
reading (lam b w) (body s) (at p u d) = []
reading (lam b w) (body s) (fun z) = []
reading (lam b w) (body s) (arg u z) = []
reading (lam b w) (fun s) z = []
reading (lam b w) (arg v s) z = []
reading (app f a w) (at root v c) (fun z) = from_app f
reading (app f a w) (fun s) (arg u z) = from_fun f a s
reading (app f a w) (fun s) (fun z) = reading f s z
reading (app f a w) (arg v s) (arg u z) = reading a s z
reading (app f a w) (at root v c) (at p u d) = []
reading (app f a w) (at root v c) (body z) = []
reading (app f a w) (at root v c) (arg u z) = []
reading (app f a w) (at (wire y) v c) z = []
reading (app f a w) (fun s) (at p u d) = []
reading (app f a w) (fun s) (body z) = []
reading (app f a w) (arg v s) (at p u d) = []
reading (app f a w) (arg v s) (body z) = []
reading (app f a w) (arg v s) (fun z) = []
reading (app f a w) (body s) z = []

-- what is read along a trail
abbrev pub word_along : {τ : Translation} {t : Tree} (T : Labelled) {s z : Spot} {n : ℕ} →
    Trail (Edge τ t) s z n → Signs
word_along T here = []
word_along T (on {s = s} {s' = s'} e t h) = reading T s s' ++ word_along T t
word_along T (back {s = s} {s' = s'} e t h) = reversed (reading T s' s) ++ word_along T t

-- the label of the function of the application at a site
abbrev pub function_label : Labelled → Site → Label
function_label (app f a w) self = label_of f
function_label (app f a w) (in_function p) = function_label f p
function_label (app f a w) (in_argument v p) = function_label a p
function_label (app f a w) (in_lam p) = none
function_label (lam b w) (in_lam p) = function_label b p
function_label (lam b w) self = none
function_label (lam b w) (in_function p) = none
function_label (lam b w) (in_argument v p) = none
function_label (var k w) p = none
function_label (free k w) p = none

-- The word of the redex that the application at a site has now or after some steps: the label of
-- its function, and then what is read on the way to its abstraction.
abbrev pub word_of : {τ : Translation} (T : Labelled) (p : Site) → IsMatched τ (erased T) p → Signs
word_of T p m = signs_of (function_label T p) ++ word_along T m.trail

-- ---- words that are alike

-- Signs as one-to-one motions, here of lists of signs: as many things as there are numbers tell all
-- words apart that differ once neighbours cancel.
pub record Acting : Type 0 where
  pub act : Sign → Signs → Signs
  pub undo : Sign → Signs → Signs
  pub undone : (a : Sign) (x : Signs) → undo a (act a x) ≡ x
  pub done : (a : Sign) (x : Signs) → act a (undo a x) ≡ x

-- sign by sign, and the other way where a sign is read backwards
abbrev pub moved : Acting → Signs → Signs → Signs
moved r [] x = x
moved r ((false, a) ∷ s) x = moved r s (r.act a x)
moved r ((true, a) ∷ s) x = moved r s (r.undo a x)

-- The same once neighbours cancel of which one is the other read backwards: as motions they are
-- one.
abbrev pub AreAlike : Signs → Signs → Type 0
AreAlike a b = (r : Acting) (x : Signs) → moved r a x ≡ moved r b x

-- What is read on the way from an application to its abstraction is one word, as far as neighbours
-- that cancel are left out: so a redex, now or after some steps, has one word.
abbrev pub SiteHasOneWord : Type 0
SiteHasOneWord = (τ : Translation) (T : Labelled) (p : Site) (m n : IsMatched τ (erased T) p) →
    AreAlike (word_of T p m) (word_of T p n)

-- ---- labelled head steps

-- A labelled head step contracts a redex of this degree, as the labelled beta step of Labels does.
pub data HeadContracts : Labelled → Label → Labelled → Type 0 where
  at_redex : (b c : Labelled) (v w : Label) → HeadContracts (app (lam b v) c w) v
      (before (joined w (over v none)) (substituted (before (under v none) c) 0 b))
  below_lam : {t u : Labelled} {d : Label} (w : Label) → HeadContracts t d u →
      HeadContracts (lam t w) d (lam u w)
  before_argument : {f g : Labelled} {d : Label} (a : Labelled) (w : Label) →
      is_abstraction (erased f) ≡ false → HeadContracts f d g →
      HeadContracts (app f a w) d (app g a w)

-- A head step keeps words. Where a walk that asks the root for some number of abstractions meets
-- the application of a redex that is there, or comes after some steps, this redex is contracted,
-- and its word is the degree; or such a walk meets one with an alike word in the next term.
abbrev pub HeadStepsKeepWords : Type 0
HeadStepsKeepWords = (τ : Translation) (T U : Labelled) (d : Label) → HeadContracts T d U →
    (p : Site) (m : IsMet τ (erased T) p) →
    AreAlike (word_of T p m.matched) (signs_of d)
    ⊎ ((q : Site) × (n : IsMet τ (erased U) q)
    × AreAlike (word_of T p m.matched) (word_of U q n.matched))

-- labelled head steps, with the degrees of the redexes that they contract
pub data HeadReduces : Labelled → List Label → Labelled → Type 0 where
  ready : {T : Labelled} → HeadReduces T [] T
  contract : {T U V : Labelled} {d : Label} {ds : List Label} → HeadContracts T d U →
      HeadReduces U ds V → HeadReduces T (d ∷ ds) V

-- So where head steps lead to a head normal form, the word of each redex that the root's walks meet
-- is alike to a degree that they contract.
abbrev pub WordsAreDegrees : Type 0
WordsAreDegrees = (τ : Translation) (T V : Labelled) (ds : List Label) → HeadReduces T ds V →
    (q : Place) (a : Level) (j : ℕ) → Normal (erased V) q a j →
    (p : Site) (m : IsMet τ (erased T) p) →
    (d : Label) × IsIn d ds × AreAlike (word_of T p m.matched) (signs_of d)

-- And each degree that head steps contract is the word of such a redex of the first term.
abbrev pub DegreesAreWords : Type 0
DegreesAreWords = (τ : Translation) (T V : Labelled) (ds : List Label) → HeadReduces T ds V →
    (d : Label) → IsIn d ds →
    (p : Site) × (m : IsMet τ (erased T) p) × AreAlike (word_of T p m.matched) (signs_of d)

-- So it is with leftmost reduction to a normal form: the word of each redex that the root's walks
-- meet is alike to one of the degrees that it contracts.
abbrev pub WordsAreLeftmostDegrees : Type 0
WordsAreLeftmostDegrees = (τ : Translation) (T v : Labelled) (ws : List Label) →
    LeftmostContracts T ws v → leftmost (erased v) ≡ None → (p : Site) (m : IsMet τ (erased T) p) →
    (w : Label) × IsIn w ws × AreAlike (word_of T p m.matched) (signs_of w)

-- an application of a redex that walks from the root meet
abbrev pub Met : Translation → Labelled → Type 0
Met τ T = (p : Site) × IsMet τ (erased T) p

abbrev pub word_met : {τ : Translation} (T : Labelled) → Met τ T → Signs
word_met T x = word_of T x.0 x.1.matched

-- no two of them have alike words
abbrev pub HaveDifferentWords : {τ : Translation} (T : Labelled) → List (Met τ T) → Type 0
HaveDifferentWords T [] = Unit {0}
HaveDifferentWords {τ} T (x ∷ xs) =
    ((y : Met τ T) → IsIn y xs → AreAlike (word_met T x) (word_met T y) → ⊥)
    × HaveDifferentWords T xs

abbrev pub AreDifferent : List Label → Type 0
AreDifferent [] = Unit {0}
AreDifferent (d ∷ ds) = (IsIn d ds → ⊥) × AreDifferent ds

-- So those with different words are no more than the families that head reduction contracts: than
-- the different degrees among those of its steps.
abbrev pub NoMoreThanFamilies : Type 0
NoMoreThanFamilies = (τ : Translation) (T V : Labelled) (ds : List Label) → HeadReduces T ds V →
    (q : Place) (a : Level) (j : ℕ) → Normal (erased V) q a j →
    (xs : List (Met τ T)) → HaveDifferentWords T xs →
    (es : List Label) × AreDifferent es × ((e : Label) → IsIn e es → IsIn e ds)
    × (length es ≡ length xs)

-- And no more than the different degrees of leftmost reduction to a normal form.
abbrev pub NoMoreThanLeftmostFamilies : Type 0
NoMoreThanLeftmostFamilies = (τ : Translation) (T v : Labelled) (ws : List Label) →
    LeftmostContracts T ws v → leftmost (erased v) ≡ None →
    (xs : List (Met τ T)) → HaveDifferentWords T xs →
    (es : List Label) × AreDifferent es × ((e : Label) → IsIn e es → IsIn e ws)
    × (length es ≡ length xs)

-- And each degree is the word of a redex that the root's walk meets as it is contracted.
abbrev pub DegreesAreMet : Type 0
DegreesAreMet = (τ : Translation) (T U : Labelled) (d : Label) → HeadContracts T d U →
    (p : Site) × (m : IsMet τ (erased T) p) × (word_of T p m.matched ≡ signs_of d)

-- A labelled head step is the leftmost one.
abbrev pub HeadIsLeftmost : Type 0
HeadIsLeftmost = (T U : Labelled) (d : Label) → HeadContracts T d U →
    (at : List ℕ) × (leftmost (erased T) ≡ Some at) × (degree T at ≡ Some d)
    × (contracted T at ≡ Some U)
