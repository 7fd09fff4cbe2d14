-- Each term can have its labels, and leftmost reduction goes on with them.
use Rattle.std.proofs.Common.{◌≡◌, ℕ, suc, ◌+◌, ◌<◌, ◌≤◌, ◌==◌, Bool, true, false, if◌then◌else◌, ◌⊎◌, inl, inr}
use Rattle.std.proofs.Common.{List, [], ◌∷◌, ◌++◌, length, Option, Some, None, refl, sym, ap, ◌∙◌, arith}
use Rattle.std.proofs.lemmas.Option.{none-some}
use Rattle.std.specs.Option.{option_map}
use Rattle.ol_beta.specs.Beta as beta
use Rattle.ol_beta.specs.Leftmost.{leftmost}
use Rattle.ol_law_edges.specs.Edges.{IsIn}
use Rattle.ol_law_edges.proofs.Lists.{in_cases}
use Rattle.ol_law_edges.proofs.Options.{mapped}
use Rattle.ol_law_optimality.specs.Steps.{steps_of}
use Rattle.ol_law_meaning.specs.Shows.{BetaReduces, LeftmostReduces}
use Rattle.ol_law_meaning.specs.Shows as shows
use Rattle.ol_law_optimality.specs.Labels.{Label, none, atom, Labelled, erased, contracted, applied, degree}
use Rattle.ol_law_optimality.specs.Labels.{degree_of_abstraction, LeftmostContracts}
use Rattle.ol_law_optimality.specs.Labels as labels
use Rattle.ol_law_optimality.proofs.Erasing.{labels_erase}
use Rattle.ol_term.specs.Trees.{Tree, term_size}
use Rattle.ol_term.specs.Trees as trees
use Rattle.ol_law_optimality.specs.Families.{labels_in, HaveOwnLetters}
use Rattle.ol_law_optimality.specs.Labelling.{EachTermHasLetters, LeftmostIsLabelled, LabelledIsLeftmost}
use Rattle.ol_law_optimality.specs.Readings.{AreDifferent}
use Rattle.ol_law_optimality.specs.Reductions.{Contracts}
use Rattle.ol_law_optimality.specs.Reductions as reductions

-- ---- letters

-- the subterms have letters from n on, in preorder
abbrev pub lettered : Tree → ℕ → Labelled
lettered (trees.var k) n = labels.var k (atom n none)
lettered (trees.free k) n = labels.free k (atom n none)
lettered (trees.lam t) n = labels.lam (lettered t (suc n)) (atom n none)
lettered (trees.app f a) n =
    labels.app (lettered f (suc n)) (lettered a (suc n + term_size f)) (atom n none)

erased_lettered : (t : Tree) (n : ℕ) → erased (lettered t n) ≡ t
erased_lettered (trees.var k) n = refl
erased_lettered (trees.free k) n = refl
erased_lettered (trees.lam t) n = ap trees.lam (erased_lettered t (suc n))
erased_lettered (trees.app f a) n =
    ap (λ x. trees.app x (erased (lettered a (suc n + term_size f)))) (erased_lettered f (suc n))
    ∙ ap (trees.app f) (erased_lettered a (suc n + term_size f))

-- a letter from n on, before m
record Between (n m : ℕ) (v : Label) : Type 0 where
  letter : ℕ
  is : v ≡ atom letter none
  low : n ≤ letter
  high : letter < m

one_letter : {m k : ℕ} → ◌≡◌ {A = Label} (atom m none) (atom k none) → m ≡ k
one_letter e = cc

not_both : (n m k j : ℕ) (v : Label) → m ≤ k → Between n m v → Between k j v → ⊥
not_both n m k j v l b c =
    let q = one_letter (sym b.is ∙ c.is) in let x = b.high in let y = c.low in omega (arith, q, l, x, y)

first_letter : (n : ℕ) → Between n (suc n) (atom n none)
first_letter n = record { letter = n; is = refl; low = omega arith; high = omega arith }

widened : (n m k j : ℕ) (v : Label) → n ≤ k → j ≤ m → Between k j v → Between n m v
widened n m k j v l h b =
    let x = b.low in let y = b.high in
    record { letter = b.letter; is = b.is; low = omega (arith, l, x); high = omega (arith, h, y) }

letter_here : (n m : ℕ) (v : Label) → suc n ≤ m → v ≡ atom n none → Between n m v
letter_here n m v l e = record { letter = n; is = e; low = omega arith; high = omega (arith, l) }

letters_between : (t : Tree) (n : ℕ) (v : Label) → IsIn v (labels_in (lettered t n)) → Between n (n + term_size t) v
letters_between (trees.var k) n v (inl e) = letter_here n (n + 1) v (omega arith) e
letters_between (trees.var k) n v (inr h) = absurd h
letters_between (trees.free k) n v (inl e) = letter_here n (n + 1) v (omega arith) e
letters_between (trees.free k) n v (inr h) = absurd h
letters_between (trees.lam t) n v (inl e) = letter_here n (n + (1 + term_size t)) v (omega arith) e
letters_between (trees.lam t) n v (inr h) =
    widened n (n + (1 + term_size t)) (suc n) (suc n + term_size t) v (omega arith) (omega arith)
    (letters_between t (suc n) v h)
letters_between (trees.app f a) n v (inl e) =
    letter_here n (n + (1 + term_size f + term_size a)) v (omega arith) e
letters_between (trees.app f a) n v (inr h) =
    by (in_cases v (labels_in (lettered f (suc n))) (labels_in (lettered a (suc n + term_size f))) h)
    (letters_between f (suc n) v) (letters_between a (suc n + term_size f) v)
  where
    by : IsIn v (labels_in (lettered f (suc n))) ⊎ IsIn v (labels_in (lettered a (suc n + term_size f))) →
        (IsIn v (labels_in (lettered f (suc n))) → Between (suc n) (suc n + term_size f) v) →
        (IsIn v (labels_in (lettered a (suc n + term_size f))) →
        Between (suc n + term_size f) (suc n + term_size f + term_size a) v) →
        Between n (n + (1 + term_size f + term_size a)) v
    by (inl j) F A = widened n (n + (1 + term_size f + term_size a)) (suc n) (suc n + term_size f) v (omega arith)
        (omega arith) (F j)
    by (inr j) F A = widened n (n + (1 + term_size f + term_size a)) (suc n + term_size f)
        (suc n + term_size f + term_size a) v (omega arith) (omega arith) (A j)

different_append : (xs ys : List Label) → AreDifferent xs → AreDifferent ys →
    ((x : Label) → IsIn x xs → IsIn x ys → ⊥) → AreDifferent (xs ++ ys)
different_append [] ys d e o = e
different_append (x ∷ xs) ys d e o = (
  (λ h. elim (in_cases x xs ys h) [
    | inl j ↦ d.0 j
    | inr j ↦ o x (inl refl) j
  ]),
  different_append xs ys d.1 e (λ y h j. o y (inr h) j),
)

different_letters : (t : Tree) (n : ℕ) → AreDifferent (labels_in (lettered t n))
different_letters (trees.var k) n = ((λ h. h), tt)
different_letters (trees.free k) n = ((λ h. h), tt)
different_letters (trees.lam t) n = (
  (λ h. not_both n (suc n) (suc n) (suc n + term_size t) (atom n none) (omega arith) (first_letter n)
      (letters_between t (suc n) (atom n none) h)),
  different_letters t (suc n),
)
different_letters (trees.app f a) n = (
  (λ h. elim (in_cases (atom n none) (labels_in (lettered f (suc n)))
      (labels_in (lettered a (suc n + term_size f))) h) [
        | inl j ↦ not_both n (suc n) (suc n) (suc n + term_size f) (atom n none) (omega arith) (first_letter n)
            (letters_between f (suc n) (atom n none) j)
        | inr j ↦ not_both n (suc n) (suc n + term_size f) (suc n + term_size f + term_size a) (atom n none)
            (omega arith) (first_letter n) (letters_between a (suc n + term_size f) (atom n none) j)
      ]),
  different_append (labels_in (lettered f (suc n))) (labels_in (lettered a (suc n + term_size f)))
      (different_letters f (suc n)) (different_letters a (suc n + term_size f))
      (λ x h j. not_both (suc n) (suc n + term_size f) (suc n + term_size f) (suc n + term_size f + term_size a) x
      (omega arith) (letters_between f (suc n) x h) (letters_between a (suc n + term_size f) x j)),
)

pub own_letters : (t : Tree) → HaveOwnLetters (lettered t 0)
own_letters t = (
  different_letters t 0,
  λ v h. (
    (letters_between t 0 v h).letter,
    (letters_between t 0 v h).is,
  ),
)

pub each_term_has_letters : EachTermHasLetters
each_term_has_letters t = (lettered t 0, erased_lettered t 0, own_letters t)

-- ---- steps

-- where the one is something, so is the other
abbrev pub SomeToo : Option Labelled → Option Label → Type 0
SomeToo o p = (U : Labelled) → o ≡ Some U → (w : Label) × (p ≡ Some w)

none_too : (p : Option Label) → SomeToo None p
none_too p U e = absurd (none-some _ e)

if_too : (b : Bool) (o o' : Option Labelled) (p p' : Option Label) → SomeToo o p → SomeToo o' p' →
    SomeToo (if b then o else o') (if b then p else p')
if_too true o o' p p' h h' = h
if_too false o o' p p' h h' = h'

map_too : (f : Labelled → Labelled) (o : Option Labelled) (p : Option Label) → SomeToo o p →
    SomeToo (option_map f o) p
map_too f None p h U e = absurd (none-some _ e)
map_too f (Some V) p h U e = h V refl

applied_too : (f c : Labelled) (w : Label) → SomeToo (applied f c w) (degree_of_abstraction f)
applied_too (labels.var k v) c w = none_too None
applied_too (labels.free k v) c w = none_too None
applied_too (labels.lam b v) c w = λ U e. (v, refl)
applied_too (labels.app f a v) c w = none_too None

-- each step has a degree
has_degree : (T : Labelled) (at : List ℕ) → SomeToo (contracted T at) (degree T at)
has_degree (labels.var k w) at = none_too None
has_degree (labels.free k w) at = none_too None
has_degree (labels.lam t w) [] = none_too None
has_degree (labels.lam t w) (m ∷ at) =
    if_too (m == 0) (option_map (λ t. labels.lam t w) (contracted t at)) None (degree t at) None
    (map_too (λ t. labels.lam t w) (contracted t at) (degree t at) (has_degree t at)) (none_too None)
has_degree (labels.app f c w) [] = applied_too f c w
has_degree (labels.app f c w) (m ∷ at) =
    if_too (m == 1) (option_map (λ g. labels.app g c w) (contracted f at))
    (if m == 2 then option_map (λ a. labels.app f a w) (contracted c at) else None) (degree f at)
    (if m == 2 then degree c at else None)
    (map_too (λ g. labels.app g c w) (contracted f at) (degree f at) (has_degree f at))
    (if_too (m == 2) (option_map (λ a. labels.app f a w) (contracted c at)) None (degree c at) None
    (map_too (λ a. labels.app f a w) (contracted c at) (degree c at) (has_degree c at)) (none_too None))

with_labels : {t v : Tree} (r : LeftmostReduces t v) (T : Labelled) → erased T ≡ t →
    (V : Labelled) × (ws : List Label) × LeftmostContracts T ws V × (erased V ≡ v) × (length ws ≡ steps_of r)
with_labels shows.ready T q = (T, [], labels.ready, q, refl)
with_labels (shows.contract {u = u} {at = at} c e r) T q =
    let s = mapped erased (contracted T at) u (labels_erase T at ∙ ap (λ t. beta.contracted t at) q ∙ e) in
    let d = has_degree T at s.0 s.1 in
    let x = with_labels r s.0 s.2 in
    (x.0, d.0 ∷ x.1, labels.contract at (ap leftmost q ∙ c) d.1 s.1 x.2, x.3, ap suc x.4)

-- and so each reduction, of whatever redexes
pub labelled : {t v : Tree} (r : BetaReduces t v) (T : Labelled) → erased T ≡ t →
    (V : Labelled) × (us : List Label) × Contracts T us V × (erased V ≡ v) × (length us ≡ steps_of r)
labelled shows.ready T q = (T, [], reductions.ready, q, refl)
labelled (shows.contract {u = u} {at = at} c e r) T q =
    let s = mapped erased (contracted T at) u (labels_erase T at ∙ ap (λ t. beta.contracted t at) q ∙ e) in
    let d = has_degree T at s.0 s.1 in
    let x = labelled r s.0 s.2 in
    (x.0, d.0 ∷ x.1, reductions.contract at d.1 s.1 x.2, x.3, ap suc x.4)

pub leftmost_is_labelled : LeftmostIsLabelled
leftmost_is_labelled T v r = with_labels r T refl

pub labelled_is_leftmost : LabelledIsLeftmost
labelled_is_leftmost T V ws labels.ready = (shows.ready, refl)
labelled_is_leftmost T V ws (labels.contract {u = U} {ws = us} at f d e l) =
    let x = labelled_is_leftmost U V us l in
    (shows.contract f (sym (labels_erase T at) ∙ ap (option_map erased) e) x.0, ap suc x.1)
