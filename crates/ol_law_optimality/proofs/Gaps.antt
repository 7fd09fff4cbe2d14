-- Labels after a labelled step: what is read of them beyond what was read before.
use Rattle.std.proofs.Common.{◌≡◌, ℕ, suc, ◌++◌, [], ◌∷◌, Option, Some, None, refl, sym, ap, ◌∙◌}
use Rattle.ol_law_meaning.specs.Contraction.{Tree, var, free, lam, app, Wire, bound, name, under, root, wire, Spot, at}
use Rattle.ol_law_meaning.specs.Contraction.{body, fun, arg, lifted, without, suc_of, wire_of, wire_without, Cut, inM}
use Rattle.ol_law_meaning.specs.Contraction.{inN}
use Rattle.ol_law_optimality.specs.Labels.{Label, Labelled, erased, before, joined}
use Rattle.ol_law_optimality.specs.Labels as labels
use Rattle.ol_law_optimality.specs.Signs.{Signs, signs_of, onward, reversed, ends_over, begins_over, ends_under}
use Rattle.ol_law_optimality.specs.Readings.{label_of, from_lam, from_fun, from_app, reading, Acting, moved}
use Rattle.ol_law_optimality.proofs.Motions.{moved_append, moved_back, moved_there, signs_joined}

-- what is read at a spot of M beyond what was read there before: at an occurrence of variable i, C's label
abbrev pub hole : Labelled → Option Wire → Signs
hole C None = signs_of (label_of C)
hole C (Some z) = []

abbrev pub at_top : Labelled → ℕ → Tree → Signs
at_top C i (var y) = hole C (wire_without i (bound y))
at_top C i (free f) = []
at_top C i (lam t) = []
at_top C i (app t u) = []

abbrev pub gap : Labelled → ℕ → Tree → Spot → Signs
gap C i t (at root v c) = at_top C i t
gap C i t (at (wire y) v c) = hole C (wire_without i y)
gap C i (lam t) (body s) = gap C (suc i) t s
gap C i (var y) (body s) = []
gap C i (free f) (body s) = []
gap C i (app t u) (body s) = []
gap C i (app t u) (fun s) = gap C i t s
gap C i (var y) (fun s) = []
gap C i (free f) (fun s) = []
gap C i (lam t) (fun s) = []
gap C i (app t u) (arg v s) = gap C i u s
gap C i (var y) (arg v s) = []
gap C i (free f) (arg v s) = []
gap C i (lam t) (arg v s) = []

abbrev pub cut_gap : Labelled → ℕ → Tree → Cut → Signs
cut_gap C i t (inM s) = gap C i t s
cut_gap C i t (inN w s) = []

-- the labels of M[N], where C has those of N
abbrev pub put_label : Label → Labelled → Labelled → Option ℕ → Labelled
put_label w C M None = before w C
put_label w C M (Some z) = M

abbrev pub sub : Labelled → ℕ → Labelled → Labelled
sub C i (labels.var y w) = put_label w C (labels.var y w) (without i y)
sub C i (labels.free f w) = labels.free f w
sub C i (labels.lam b w) = labels.lam (sub C (suc i) b) w
sub C i (labels.app f a w) = labels.app (sub C i f) (sub C i a) w

pub label_before : (w : Label) (T : Labelled) → signs_of (label_of (before w T)) ≡ signs_of w ++ signs_of (label_of T)
label_before w (labels.var k v) = signs_joined w v
label_before w (labels.free k v) = signs_joined w v
label_before w (labels.lam b v) = signs_joined w v
label_before w (labels.app f a v) = signs_joined w v

pub top_is : (C M : Labelled) (i : ℕ) (r : Acting) (x : Signs) →
    moved r (at_top C i (erased M)) (moved r (signs_of (label_of M)) x) ≡ moved r (signs_of (label_of (sub C i M))) x
top_is C (labels.var y w) i r x = by (without i y)
  where
    by : (q : Option ℕ) → moved r (hole C (wire_of q)) (moved r (signs_of w) x) ≡ moved r (signs_of (label_of (put_label w C (labels.var y w) q))) x
    by None = sym (moved_append r (signs_of w) (signs_of (label_of C)) x) ∙ ap (λ a. moved r a x) (sym (label_before w C))
    by (Some z) = refl
top_is C (labels.free f w) i r x = refl
top_is C (labels.lam b w) i r x = refl
top_is C (labels.app f a w) i r x = refl

pub under_hole : (C : Labelled) (i : ℕ) (y : Wire) → hole C (wire_without i y) ≡ hole C (wire_without (suc i) (under y))
under_hole C i (bound y) = by (without i y)
  where
    by : (q : Option ℕ) → hole C (wire_of q) ≡ hole C (wire_of (suc_of q))
    by None = refl
    by (Some z) = refl
under_hole C i (name f) = refl

-- ---- at the nodes of M

module _ (C : Labelled) (i : ℕ) (r : Acting) where
  pub body_reads : (b : Labelled) (x : Signs) →
      moved r (onward ends_over ∷ signs_of (label_of (sub C i b))) x ≡ moved r (at_top C i (erased b)) (moved r (onward ends_over ∷ signs_of (label_of b)) x)
  body_reads b x = sym (top_is C b i r (r.act ends_over x))

  pub function_reads : (f : Labelled) (x : Signs) →
      moved r (from_app (sub C i f)) x ≡ moved r (at_top C i (erased f)) (moved r (from_app f) x)
  function_reads f x = sym (top_is C f i r (r.act begins_over x))

  back_top : (f : Labelled) (x : Signs) →
      moved r (reversed (signs_of (label_of (sub C i f)))) (moved r (at_top C i (erased f)) x) ≡ moved r (reversed (signs_of (label_of f))) x
  back_top f x =
      let l = signs_of (label_of f) in
      let k = signs_of (label_of (sub C i f)) in
      ap (λ x. moved r (reversed k) (moved r (at_top C i (erased f)) x)) (sym (moved_there r l x))
      ∙ ap (moved r (reversed k)) (top_is C f i r (moved r (reversed l) x)) ∙ moved_back r k (moved r (reversed l) x)

  pub argument_reads : (f a : Labelled) (x : Signs) →
      moved r (reversed (signs_of (label_of (sub C i f))) ++ onward ends_under ∷ signs_of (label_of (sub C i a))) (moved r (at_top C i (erased f)) x)
      ≡ moved r (at_top C i (erased a)) (moved r (reversed (signs_of (label_of f)) ++ onward ends_under ∷ signs_of (label_of a)) x)
  argument_reads f a x =
      let l = signs_of (label_of f) in
      let k = signs_of (label_of (sub C i f)) in
      let m = signs_of (label_of (sub C i a)) in
      moved_append r (reversed k) (onward ends_under ∷ m) (moved r (at_top C i (erased f)) x)
      ∙ ap (λ y. moved r m (r.act ends_under y)) (back_top f x)
      ∙ sym (top_is C a i r (r.act ends_under (moved r (reversed l) x)))
      ∙ ap (moved r (at_top C i (erased a))) (sym (moved_append r (reversed l) (onward ends_under ∷ signs_of (label_of a)) x))

-- ---- what is read inside

from_lam_lifted : (b : Labelled) (d i : ℕ) (z : Spot) → from_lam b (lifted d i z) ≡ from_lam b z
from_lam_lifted b d i (at root v c) = refl
from_lam_lifted b d i (at (wire y) v c) = refl
from_lam_lifted b d i (body s) = refl
from_lam_lifted b d i (fun s) = refl
from_lam_lifted b d i (arg v s) = refl

from_fun_lifted : (f a : Labelled) (d i : ℕ) (z : Spot) → from_fun f a (lifted d i z) ≡ from_fun f a z
from_fun_lifted f a d i (at p v c) = refl
from_fun_lifted f a d i (body s) = refl
from_fun_lifted f a d i (fun s) = refl
from_fun_lifted f a d i (arg v s) = refl

-- spots with other wires
pub reading_lifted : (T : Labelled) (d i : ℕ) (s z : Spot) → reading T (lifted d i s) (lifted d i z) ≡ reading T s z
reading_lifted (labels.var k w) d i s z = refl
reading_lifted (labels.free k w) d i s z = refl
reading_lifted (labels.lam b w) d i (at root v1 c1) (body s2) = from_lam_lifted b (suc d) i s2
reading_lifted (labels.lam b w) d i (body s1) (body s2) = reading_lifted b (suc d) i s1 s2
reading_lifted (labels.lam b w) d i (at root v1 c1) (at p2 v2 c2) = refl
reading_lifted (labels.lam b w) d i (at root v1 c1) (fun s2) = refl
reading_lifted (labels.lam b w) d i (at root v1 c1) (arg v2 s2) = refl
reading_lifted (labels.lam b w) d i (at (wire y1) v1 c1) z = refl
reading_lifted (labels.lam b w) d i (body s1) (at p2 v2 c2) = refl
reading_lifted (labels.lam b w) d i (body s1) (fun s2) = refl
reading_lifted (labels.lam b w) d i (body s1) (arg v2 s2) = refl
reading_lifted (labels.lam b w) d i (fun s1) z = refl
reading_lifted (labels.lam b w) d i (arg v1 s1) z = refl
reading_lifted (labels.app f a w) d i (at root v1 c1) (fun s2) = refl
reading_lifted (labels.app f a w) d i (fun s1) (arg v2 s2) = from_fun_lifted f a d i s1
reading_lifted (labels.app f a w) d i (fun s1) (fun s2) = reading_lifted f d i s1 s2
reading_lifted (labels.app f a w) d i (arg v1 s1) (arg v2 s2) = reading_lifted a d i s1 s2
reading_lifted (labels.app f a w) d i (at root v1 c1) (at p2 v2 c2) = refl
reading_lifted (labels.app f a w) d i (at root v1 c1) (body s2) = refl
reading_lifted (labels.app f a w) d i (at root v1 c1) (arg v2 s2) = refl
reading_lifted (labels.app f a w) d i (at (wire y1) v1 c1) z = refl
reading_lifted (labels.app f a w) d i (fun s1) (at p2 v2 c2) = refl
reading_lifted (labels.app f a w) d i (fun s1) (body s2) = refl
reading_lifted (labels.app f a w) d i (arg v1 s1) (at p2 v2 c2) = refl
reading_lifted (labels.app f a w) d i (arg v1 s1) (body s2) = refl
reading_lifted (labels.app f a w) d i (arg v1 s1) (fun s2) = refl
reading_lifted (labels.app f a w) d i (body s1) z = refl

-- another label of the whole
pub reading_before : (l : Label) (T : Labelled) (s z : Spot) → reading (before l T) s z ≡ reading T s z
reading_before l (labels.var k w) s z = refl
reading_before l (labels.free k w) s z = refl
reading_before l (labels.lam b w) (at root v1 c1) (body s2) = refl
reading_before l (labels.lam b w) (body s1) (body s2) = refl
reading_before l (labels.lam b w) (at root v1 c1) (at p2 v2 c2) = refl
reading_before l (labels.lam b w) (at root v1 c1) (fun s2) = refl
reading_before l (labels.lam b w) (at root v1 c1) (arg v2 s2) = refl
reading_before l (labels.lam b w) (at (wire y1) v1 c1) z = refl
reading_before l (labels.lam b w) (body s1) (at p2 v2 c2) = refl
reading_before l (labels.lam b w) (body s1) (fun s2) = refl
reading_before l (labels.lam b w) (body s1) (arg v2 s2) = refl
reading_before l (labels.lam b w) (fun s1) z = refl
reading_before l (labels.lam b w) (arg v1 s1) z = refl
reading_before l (labels.app f a w) (at root v1 c1) (fun s2) = refl
reading_before l (labels.app f a w) (fun s1) (arg v2 s2) = refl
reading_before l (labels.app f a w) (fun s1) (fun s2) = refl
reading_before l (labels.app f a w) (arg v1 s1) (arg v2 s2) = refl
reading_before l (labels.app f a w) (at root v1 c1) (at p2 v2 c2) = refl
reading_before l (labels.app f a w) (at root v1 c1) (body s2) = refl
reading_before l (labels.app f a w) (at root v1 c1) (arg v2 s2) = refl
reading_before l (labels.app f a w) (at (wire y1) v1 c1) z = refl
reading_before l (labels.app f a w) (fun s1) (at p2 v2 c2) = refl
reading_before l (labels.app f a w) (fun s1) (body s2) = refl
reading_before l (labels.app f a w) (arg v1 s1) (at p2 v2 c2) = refl
reading_before l (labels.app f a w) (arg v1 s1) (body s2) = refl
reading_before l (labels.app f a w) (arg v1 s1) (fun s2) = refl
reading_before l (labels.app f a w) (body s1) z = refl
