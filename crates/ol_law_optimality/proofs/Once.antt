-- No reduction by whole families contracts one twice.
use Rattle.std.proofs.Common.{◌≡◌, ℕ, inl, inr, List, [], ◌∷◌, Some, refl, subst}
use Rattle.ol_law_edges.specs.Edges.{IsIn}
use Rattle.ol_law_edges.proofs.Lists.{in_left, in_right}
use Rattle.ol_law_optimality.specs.Families.{labels_in, IsLetter}
use Rattle.ol_law_optimality.specs.Readings.{AreDifferent}
use Rattle.ol_law_optimality.specs.Labels.{Label, Labelled, var, free, lam, app, degree}
use Rattle.ol_law_optimality.specs.LevysTheorem.{NoFamilyTwice, NeededFamiliesAreFewest}
use Rattle.ol_law_optimality.specs.Reductions.{WholeFamily, WholeFamilies, ready, contract}
use Rattle.ol_law_optimality.proofs.Histories.{HasPart, not_own_part, PartsIn, Made, made_wider, made_parallel}
use Rattle.ol_law_optimality.proofs.Histories.{Degrees, any_degrees, whole_degrees, degree_made, degree_in}
use Rattle.ol_law_optimality.proofs.Counts.{no_more}
use Rattle.ol_law_optimality.proofs.Needed.{Of, needed_are_contracted}
use Rattle.ol_law_optimality.proofs.Steps.{whole_parallel}

-- What is so of the term that some families have left: what is overlined or underlined in its
-- labels, and in their degrees, is one of them, and none is the degree of a redex.
pub record History (hs : List Label) (T : Labelled) : Type 0 where
  pub made : Made (λ x. IsIn x hs) T
  pub closed : (e : Label) → IsIn e hs → PartsIn (λ x. IsIn x hs) e
  pub away : Degrees (λ v. IsIn v hs → ⊥) T

-- ---- at first

-- letters have no parts
letter_parts : (H : Label → Type 0) (w : Label) → IsLetter w → PartsIn H w
letter_parts H w l x h = absurd (subst (HasPart x) l.1 h)

letters_made : (H : Label → Type 0) (T : Labelled) →
    ((w : Label) → IsIn w (labels_in T) → IsLetter w) → Made H T
letters_made H (var k w) l = letter_parts H w (l w (inl refl))
letters_made H (free k w) l = letter_parts H w (l w (inl refl))
letters_made H (lam t w) l =
    (letter_parts H w (l w (inl refl)), letters_made H t (λ v i. l v (inr i)))
letters_made H (app f a w) l = (
  letter_parts H w (l w (inl refl)),
  letters_made H f (λ v i. l v (inr (in_left v (labels_in f) (labels_in a) i))),
  letters_made H a (λ v i. l v (inr (in_right v (labels_in f) (labels_in a) i))),
)

pub at_first : (T : Labelled) → ((w : Label) → IsIn w (labels_in T) → IsLetter w) → History [] T
at_first T letters = record {
  made = letters_made (λ x. IsIn x []) T letters;
  closed = λ e i. absurd i;
  away = any_degrees (λ v. IsIn v [] → ⊥) (λ v i. i) T;
}

-- ---- one family more

pub is_new : (hs : List Label) (T : Labelled) (at : List ℕ) (d : Label) → History hs T →
    degree T at ≡ Some d → IsIn d hs → ⊥
is_new hs T at d h e = degree_in (λ v. IsIn v hs → ⊥) T at d e h.away

pub one_more : (hs : List Label) (T U : Labelled) (at : List ℕ) (d : Label) → History hs T →
    degree T at ≡ Some d → WholeFamily d T U → History (d ∷ hs) U
one_more hs T U at d h e p = record {
  made =
      made_parallel (λ x. IsIn x (d ∷ hs)) (Of d) (λ v k. inl k) (whole_parallel p)
      (made_wider (λ x. IsIn x hs) (λ x. IsIn x (d ∷ hs)) (λ x i. inr i) T h.made);
  closed = closed_too;
  away =
      whole_degrees (λ v. IsIn v (d ∷ hs) → ⊥) d parts_are_new (λ v. IsIn v hs → ⊥) others p h.away;
}
  where
    parts : PartsIn (λ x. IsIn x hs) d
    parts = degree_made (λ x. IsIn x hs) T at d e h.made

    closed_too : (x : Label) → IsIn x (d ∷ hs) → PartsIn (λ x. IsIn x (d ∷ hs)) x
    closed_too x (inl k) y i = inr (parts y (subst (HasPart y) k i))
    closed_too x (inr j) y i = inr (h.closed x j y i)

    parts_are_new : (v : Label) → HasPart d v → IsIn v (d ∷ hs) → ⊥
    parts_are_new v i (inl k) = not_own_part d (subst (HasPart d) k i)
    parts_are_new v i (inr j) = is_new hs T at d h e (h.closed v j d i)

    others : (v : Label) → (IsIn v hs → ⊥) → (v ≡ d → ⊥) → IsIn v (d ∷ hs) → ⊥
    others v q m (inl k) = m k
    others v q m (inr j) = q j

-- ---- all of them

-- the degrees are different, and none of those before
record Fresh (hs ds : List Label) : Type 0 where
  apart : AreDifferent ds
  new : (e : Label) → IsIn e ds → IsIn e hs → ⊥

one_fresh : (hs ds : List Label) (d : Label) → (IsIn d hs → ⊥) → Fresh (d ∷ hs) ds →
    Fresh hs (d ∷ ds)
one_fresh hs ds d n r = record { apart = ((λ i. r.new d i (inl refl)), r.apart); new = new }
  where
    new : (e : Label) → IsIn e (d ∷ ds) → IsIn e hs → ⊥
    new e (inl k) j = n (subst (λ x. IsIn x hs) k j)
    new e (inr i) j = r.new e i (inr j)

fresh : {T V : Labelled} {ds : List Label} (hs : List Label) → History hs T →
    WholeFamilies T ds V → Fresh hs ds
fresh hs h ready = record { apart = tt; new = λ e i j. i }
fresh hs h (contract {t = t} {u = u} {d = d} {ds = ds} at e p r) =
    one_fresh hs ds d (is_new hs t at d h e)
    (fresh (d ∷ hs) (one_more hs t u at d h e p) r)

pub no_family_twice : NoFamilyTwice
no_family_twice T V ds r letters = (fresh [] (at_first T letters) r).apart

pub needed_families_are_fewest : NeededFamiliesAreFewest
needed_families_are_fewest T V W ds cs r needed letters f n =
    no_more ds cs (no_family_twice T V ds r letters)
    (λ d i. needed_are_contracted T W cs f n d (needed d i))
