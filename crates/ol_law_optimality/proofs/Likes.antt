-- Labelled terms of which the same is read.
use Rattle.std.proofs.Common.{◌≡◌, ℕ, suc, ◌+◌, ◌-◌, ◌<◌, ◌==◌, nat_lt, Bool, true, false, if◌then◌else◌, ◌∷◌, ◌++◌}
use Rattle.std.proofs.Common.{Option, Some, None, refl, sym, ap, ◌∙◌, subst, arith}
use Rattle.std.proofs.lemmas.Bool.{eqb-true, eq-eqb, ltb-true}
use Rattle.ol_law_meaning.specs.Contraction.{Tree, without, root, wire, Spot, at, body, fun, arg, Edge, Trail, here, on}
use Rattle.ol_law_meaning.specs.Contraction.{back}
use Rattle.ol_law_meaning.proofs.Addresses.{without_is, without_own}
use Rattle.ol_law_optimality.specs.Labels.{Label, Labelled, var, free, lam, app, before, joined, shifted, substituted}
use Rattle.ol_law_meaning.specs.Sites.{Site, self, in_lam, in_function, in_argument}
use Rattle.ol_term.specs.declared.translations.Translation.{Translation}
use Rattle.ol_law_optimality.specs.Signs.{signs_of, onward, reversed, ends_over, begins_over, ends_under}
use Rattle.ol_law_optimality.specs.Readings.{label_of, reading, from_lam, from_fun, word_along, function_label, moved}
use Rattle.ol_law_optimality.proofs.Motions.{Motion, Walks}
use Rattle.ol_law_optimality.proofs.Gaps.{put_label, sub, reading_before}

pub record Like (T U : Labelled) : Type 0 where
  pub label : label_of T ≡ label_of U
  pub parts : (s z : Spot) → reading T s z ≡ reading U s z
  pub functions : (p : Site) → function_label T p ≡ function_label U p

like_self : (T : Labelled) → Like T T
like_self T = record { label = refl; parts = λ s z. refl; functions = λ p. refl }

like_trans : {T U V : Labelled} → Like T U → Like U V → Like T V
like_trans a b = record { label = a.label ∙ b.label; parts = λ s z. a.parts s z ∙ b.parts s z; functions = λ p. a.functions p ∙ b.functions p }

like_from_lam : {b d : Labelled} → Like b d → (z : Spot) → from_lam b z ≡ from_lam d z
like_from_lam k (at root v c) = ap (λ l. onward ends_over ∷ signs_of l) k.label
like_from_lam k (at (wire y) v c) = refl
like_from_lam k (body s) = refl
like_from_lam k (fun s) = refl
like_from_lam k (arg v s) = refl

like_from_fun : {f g a b : Labelled} → Like f g → Like a b → (z : Spot) → from_fun f a z ≡ from_fun g b z
like_from_fun {f} {g} {a} {b} k l (at p v c) =
    ap (λ x. reversed (signs_of x) ++ onward ends_under ∷ signs_of (label_of a)) k.label
    ∙ ap (λ x. reversed (signs_of (label_of g)) ++ onward ends_under ∷ signs_of x) l.label
like_from_fun k l (body s) = refl
like_from_fun k l (fun s) = refl
like_from_fun k l (arg v s) = refl

lam_parts : {b d : Labelled} (w : Label) → Like b d → (s z : Spot) → reading (lam b w) s z ≡ reading (lam d w) s z
lam_parts w k (at root v1 c1) (body s2) = like_from_lam k s2
lam_parts w k (body s1) (body s2) = k.parts s1 s2
lam_parts w k (at root v1 c1) (at p2 v2 c2) = refl
lam_parts w k (at root v1 c1) (fun s2) = refl
lam_parts w k (at root v1 c1) (arg v2 s2) = refl
lam_parts w k (at (wire y1) v1 c1) z = refl
lam_parts w k (body s1) (at p2 v2 c2) = refl
lam_parts w k (body s1) (fun s2) = refl
lam_parts w k (body s1) (arg v2 s2) = refl
lam_parts w k (fun s1) z = refl
lam_parts w k (arg v1 s1) z = refl

app_parts : {f g a b : Labelled} (w : Label) → Like f g → Like a b → (s z : Spot) → reading (app f a w) s z ≡ reading (app g b w) s z
app_parts w k l (at root v1 c1) (fun s2) = ap (λ x. onward begins_over ∷ signs_of x) k.label
app_parts w k l (fun s1) (arg v2 s2) = like_from_fun k l s1
app_parts w k l (fun s1) (fun s2) = k.parts s1 s2
app_parts w k l (arg v1 s1) (arg v2 s2) = l.parts s1 s2
app_parts w k l (at root v1 c1) (at p2 v2 c2) = refl
app_parts w k l (at root v1 c1) (body s2) = refl
app_parts w k l (at root v1 c1) (arg v2 s2) = refl
app_parts w k l (at (wire y1) v1 c1) z = refl
app_parts w k l (fun s1) (at p2 v2 c2) = refl
app_parts w k l (fun s1) (body s2) = refl
app_parts w k l (arg v1 s1) (at p2 v2 c2) = refl
app_parts w k l (arg v1 s1) (body s2) = refl
app_parts w k l (arg v1 s1) (fun s2) = refl
app_parts w k l (body s1) z = refl

like_lam : {b d : Labelled} (w : Label) → Like b d → Like (lam b w) (lam d w)
like_lam {b} {d} w k = record { label = refl; parts = lam_parts w k; functions = each }
  where
    each : (p : Site) → function_label (lam b w) p ≡ function_label (lam d w) p
    each self = refl
    each (in_lam p) = k.functions p
    each (in_function p) = refl
    each (in_argument v p) = refl

like_app : {f g a b : Labelled} (w : Label) → Like f g → Like a b → Like (app f a w) (app g b w)
like_app {f} {g} {a} {b} w k l = record { label = refl; parts = app_parts w k l; functions = each }
  where
    each : (p : Site) → function_label (app f a w) p ≡ function_label (app g b w) p
    each self = k.label
    each (in_lam p) = refl
    each (in_function p) = k.functions p
    each (in_argument v p) = l.functions p

pub function_before : (w : Label) (T : Labelled) (p : Site) → function_label (before w T) p ≡ function_label T p
function_before w (var k v) p = refl
function_before w (free k v) p = refl
function_before w (lam b v) self = refl
function_before w (lam b v) (in_lam p) = refl
function_before w (lam b v) (in_function p) = refl
function_before w (lam b v) (in_argument u p) = refl
function_before w (app f a v) self = refl
function_before w (app f a v) (in_lam p) = refl
function_before w (app f a v) (in_function p) = refl
function_before w (app f a v) (in_argument u p) = refl

like_shifted : (T : Labelled) (n d : ℕ) → Like (shifted n d T) T
like_shifted (var k w) n d = record { label = refl; parts = λ s z. refl; functions = λ p. refl }
like_shifted (free k w) n d = like_self (free k w)
like_shifted (lam b w) n d = like_lam w (like_shifted b n (d + 1))
like_shifted (app f a w) n d = like_app w (like_shifted f n d) (like_shifted a n d)

label_before : (w : Label) (T : Labelled) → label_of (before w T) ≡ joined w (label_of T)
label_before w (var k v) = refl
label_before w (free k v) = refl
label_before w (lam b v) = refl
label_before w (app f a v) = refl

pub like_before : {T U : Labelled} (w : Label) → Like T U → Like (before w T) (before w U)
like_before {T} {U} w k = record {
  label = label_before w T ∙ ap (joined w) k.label ∙ sym (label_before w U);
  parts = λ s z. reading_before w T s z ∙ k.parts s z ∙ sym (reading_before w U s z);
  functions = λ p. function_before w T p ∙ k.functions p ∙ sym (function_before w U p);
}

like_var : (C : Labelled) (d k : ℕ) (w : Label) (b c : Bool) (q : Option ℕ) → nat_lt k d ≡ b → (k == d) ≡ c → without d k ≡ q →
    Like (if b then var k w else if c then before w (shifted d 0 C) else var (k - 1) w) (put_label w C (var k w) q)
like_var C d k w true c (Some z) e f g = like_self (var k w)
like_var C d k w true c None e f g = let i = without_is d k g in let h : k < d = ltb-true k d e in absurd (omega arith)
like_var C d k w false true None e f g = like_before w (like_shifted C d 0)
like_var C d k w false true (Some z) e f g =
    let i = eqb-true k d f in
    let j : without d k ≡ None = subst (λ k. without d k ≡ None) (sym i) (without_own d) in
    let h : None ≡ Some z = sym j ∙ g in
    absurd (cc)
like_var C d k w false false None e f g =
    let i = without_is d k g in
    let h : false ≡ true = sym f ∙ eq-eqb k d i in
    absurd (cc)
like_var C d k w false false (Some z) e f g = record { label = refl; parts = λ s z. refl; functions = λ p. refl }

pub like_substituted : (C M : Labelled) (d : ℕ) → Like (substituted C d M) (sub C d M)
like_substituted C (var k w) d = like_var C d k w (nat_lt k d) (k == d) (without d k) refl refl refl
like_substituted C (free k w) d = like_self (free k w)
like_substituted C (lam b w) d = like_lam w (subst (λ i. Like (substituted C i b) (sub C (suc d) b)) (let e : suc d ≡ d + 1 = omega arith in e) (like_substituted C b (suc d)))
like_substituted C (app f a w) d = like_app w (like_substituted C f d) (like_substituted C a d)

-- so it is read along trails
word_like : {τ : Translation} {t : Tree} (T U : Labelled) → ((s z : Spot) → reading T s z ≡ reading U s z) → {s z : Spot} {n : ℕ} (u : Trail (Edge τ t) s z n) → word_along T u ≡ word_along U u
word_like T U k here = refl
word_like T U k (on {s = s} {s' = s'} e u h) = ap (λ a. a ++ word_along T u) (k s s') ∙ ap (λ a. reading U s s' ++ a) (word_like T U k u)
word_like T U k (back {s = s} {s' = s'} e u h) = ap (λ a. reversed a ++ word_along T u) (k s' s) ∙ ap (λ a. reversed (reading U s' s) ++ a) (word_like T U k u)

pub walks_like : {τ : Translation} {t : Tree} {T U : Labelled} {s z : Spot} {f : Motion} → ((s z : Spot) → reading T s z ≡ reading U s z) → Walks τ t U s z f → Walks τ t T s z f
walks_like {T = T} {U = U} k w = record { weight = w.weight; trail = w.trail; reads = λ r x. ap (λ a. moved r a x) (word_like T U k w.trail) ∙ w.reads r x }
