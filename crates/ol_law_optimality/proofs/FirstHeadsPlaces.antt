-- Places that are asked in preorder: how many of so many heads are left behind a term.
use Rattle.std.proofs.Common.{◌≡◌, ℕ, suc, Bool, true, false, List, [], ◌++◌, refl, sym, subst, arith}
use Rattle.ol_law_optimality.specs.Readings.{HeadReduces, ready, contract}
use Rattle.ol_law_optimality.proofs.HeadWords.{step_of}
use Rattle.ol_law_optimality.proofs.Wanted.{Asks, whole, part}
use Rattle.ol_law_meaning.specs.Heads.{Normal, Steps, done, step, Arg, last, earlier, inner}
use Rattle.ol_law_meaning.specs.Contraction.{Tree, var, free, lam, app, Level, Context, Place}
use Rattle.ol_law_meaning.proofs.Endless.{normal_stops}
use Rattle.ol_law_meaning.proofs.Endless as endless
use Rattle.ol_law_optimality.specs.Labels.{Label, Labelled, erased}
use Rattle.ol_law_optimality.specs.Labels as labels
use Rattle.ol_term.specs.declared.translations.Translation.{Translation}

-- Of n heads that are asked for in preorder m are left behind a term, or behind a head normal form's head and arguments
-- (false), once head steps have come to a head normal form at each place that is asked.
pub data Heads : Bool → ℕ → Tree → ℕ → Type 0 where
  not_asked : {t : Tree} → Heads true 0 t 0
  is_asked : {t u : Tree} {j n m k : ℕ} {q : Place} {a : Level} → Steps t u j → Normal u q a k →
      Heads false n u m → Heads true (suc n) t m
  of_var : {y n : ℕ} → Heads false n (var y) n
  of_free : {f n : ℕ} → Heads false n (free f) n
  of_lam : {n m : ℕ} {b : Tree} → Heads false n b m → Heads false n (lam b) m
  of_app : {n k m : ℕ} {f a : Tree} → Heads false n f k → Heads true k a m → Heads false n (app f a) m

pub same_form : {P u l : Tree} {m j e i : ℕ} {q p : Place} {a b : Level} → Steps P u m → Steps P l j → Normal u q a e →
    Normal l p b i → u ≡ l
same_form done done n k = refl
same_form done (step h r) n k = absurd (normal_stops n h)
same_form (step h s) done n k = absurd (normal_stops k h)
same_form (step h s) (step {t' = b} {u = l} {m = j} g r) n k =
    same_form s (subst (λ b. Steps b l j) (sym (endless.one_step h g)) r) n k

pub one_left : {b : Bool} {n m k : ℕ} {t : Tree} → Heads b n t m → Heads b n t k → m ≡ k
one_left not_asked not_asked = refl
one_left {k = k} (is_asked {n = n} s x h) (is_asked r y g) =
    one_left h (subst (λ u. Heads false n u k) (sym (same_form s r x y)) g)
one_left of_var of_var = refl
one_left of_free of_free = refl
one_left (of_lam h) (of_lam g) = one_left h g
one_left {k = k} (of_app {a = a} h x) (of_app g y) =
    one_left x (subst (λ n. Heads true n a k) (sym (one_left h g)) y)

-- so many are left when this argument is asked
abbrev pub Before : {u Q : Tree} {i : ℕ} → ℕ → Arg u i Q → ℕ → Type 0
Before n (last {R = R} s) l = Heads false n R l
Before n (earlier s k) l = Before n k l
Before n (inner k) l = Before n k l

-- the question is after one of the first n places
abbrev pub IsAt : {τ : Translation} → ℕ → (P : Tree) (x : Place) (v : Level) (c : Context) → Asks τ P x v c → Type 0
IsAt n P x v c (whole k e) = (m : ℕ) × (n ≡ suc m)
IsAt n P y w d (part {Q = Q} {x = x} {v = v} {c = c} b s k a g f) =
    (m : ℕ) × (n ≡ suc m) × (l : ℕ) × Before m k l × IsAt l Q x v c a

pub nothing_at : {τ : Translation} (P : Tree) (x : Place) (v : Level) (c : Context) (a : Asks τ P x v c) →
    IsAt 0 P x v c a → ⊥
nothing_at P x v c (whole k e) i = let q = i.1 in absurd (omega (arith, q))
nothing_at P x v c (part b s k a g f) i = let q = i.1 in absurd (omega (arith, q))

-- ---- with labels, and the degrees that head reduction contracts at the places that are asked

pub data By : Bool → ℕ → Labelled → ℕ → List Label → Type 0 where
  not_asked : {T : Labelled} → By true 0 T 0 []
  is_asked : {T U : Labelled} {n m k : ℕ} {q : Place} {a : Level} {ds es : List Label} → HeadReduces T ds U →
      Normal (erased U) q a k → By false n U m es → By true (suc n) T m (ds ++ es)
  of_var : {y n : ℕ} {w : Label} → By false n (labels.var y w) n []
  of_free : {f n : ℕ} {w : Label} → By false n (labels.free f w) n []
  of_lam : {n m : ℕ} {b : Labelled} {w : Label} {ds : List Label} → By false n b m ds → By false n (labels.lam b w) m ds
  of_app : {n k m : ℕ} {f a : Labelled} {w : Label} {ds es : List Label} → By false n f k ds → By true k a m es →
      By false n (labels.app f a w) m (ds ++ es)

pub tree_steps : (τ : Translation) {T V : Labelled} {ds : List Label} → HeadReduces T ds V →
    (j : ℕ) × Steps (erased T) (erased V) j
tree_steps τ ready = (0, done)
tree_steps τ {V = V} (contract h r) =
    let k = step_of τ h in
    let x = tree_steps τ r in
    (suc x.0, step k.step (subst (λ t. Steps t (erased V) x.0) (sym k.is) x.1))

pub heads_by : (τ : Translation) {b : Bool} {n m : ℕ} {T : Labelled} {ws : List Label} → By b n T m ws →
    Heads b n (erased T) m
heads_by τ not_asked = not_asked
heads_by τ (is_asked r n h) = is_asked (tree_steps τ r).1 n (heads_by τ h)
heads_by τ of_var = of_var
heads_by τ of_free = of_free
heads_by τ (of_lam h) = of_lam (heads_by τ h)
heads_by τ (of_app h k) = of_app (heads_by τ h) (heads_by τ k)
