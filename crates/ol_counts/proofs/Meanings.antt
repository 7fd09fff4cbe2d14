-- The rules of call-by-need are sound: a term and what it comes to are convertible.
use Rattle.std.proofs.Common.{◌≡◌, ℕ, zero, suc, ◌-◌, ◌<◌, ◌≤◌, true, ◌⊎◌, inl, inr, List, [], ◌∷◌, ◌++◌, length, slice_get, slice_set, Some, refl, sym, ap, ◌∙◌, subst, arith}
use Rattle.std.proofs.lemmas.Bool.{cases_eq}
use Rattle.std.proofs.lemmas.List.{length_push}
use Rattle.std.proofs.lemmas.Option.{same_Some, slice_get_within}
use Rattle.ol_term.specs.Trees.{Tree, is_below}
use Rattle.ol_term.specs.Trees as trees
use Rattle.ol_law_confluence.specs.Reductions.{Convertible, same, joined}
use Rattle.ol_law_confluence.proofs.Substitutions.{ren, up, inst, point, inst_inst, inst_like, inst_ren, ren_inst}
use Rattle.ol_counts.specs.NeedRules.{Head, free, level, WeakForm, function, name, HeapCell, waits, taken, has, Evaluates, of_free, of_lam, first_use, later_use, beta, argument, head_at, Task, closure, spine, NormalisesByNeed, into_body, into_arguments, no_argument, one_argument, ReducesByNeed}
use Rattle.ol_counts.proofs.Conversions.{convertible_lam, convertible_app, convertible_fun, convertible_is, convertible_beta, inst_var, below_same, Neutral, Normal}
use Rattle.ol_counts.proofs.Heaps.{with_at, with_own, with_other}
use Rattle.ol_counts.proofs.Writing.{set_length}

-- ---- what cells mean, below so many abstractions

abbrev pub env : (ℕ → Tree) → List ℕ → ℕ → Tree
env W [] k = trees.free 0
env W (c ∷ ρ) zero = W c
env W (c ∷ ρ) (suc k) = env W ρ k

abbrev pub applied : (ℕ → Tree) → Tree → List ℕ → Tree
applied W h [] = h
applied W h (c ∷ cs) = trees.app (applied W h cs) (W c)

abbrev pub meaning : ℕ → (ℕ → Tree) → WeakForm → Tree
meaning d W (function t ρ) = trees.lam (inst (up (env W ρ)) t)
meaning d W (name h cs) = applied W (head_at d h) cs

-- cells below n, each of a scope of at most s abstractions
abbrev pub Scoped : (ℕ → ℕ) → ℕ → ℕ → List ℕ → Type 0
Scoped sc s n [] = Unit {0}
Scoped sc s n (c ∷ ρ) = (c < n) × (sc c ≤ s) × Scoped sc s n ρ

abbrev pub ScopedValue : (ℕ → ℕ) → ℕ → ℕ → WeakForm → Type 0
ScopedValue sc s n (function t ρ) = Scoped sc s n ρ
ScopedValue sc s n (name h cs) = Scoped sc s n cs

-- a cell means what its term means
abbrev pub CellMeans : (ℕ → ℕ) → (ℕ → ℕ → Tree) → ℕ → ℕ → HeapCell → Type 0
CellMeans sc U n c (waits t ρ) =
    Scoped sc (sc c) n ρ × ((d : ℕ) → sc c ≤ d → Convertible (U d c) (inst (env (U d) ρ) t))
CellMeans sc U n c taken = Unit {0}
CellMeans sc U n c (has v) =
    ScopedValue sc (sc c) n v × ((d : ℕ) → sc c ≤ d → Convertible (U d c) (meaning d (U d) v))

pub record Models (n : ℕ) (Γ : List HeapCell) (sc : ℕ → ℕ) (U : ℕ → ℕ → Tree) : Type 0 where
  pub size : length Γ ≡ n
  pub deeper : (c d : ℕ) → c < n → sc c ≤ d → U (suc d) c ≡ ren suc (U d c)
  pub means : (c : ℕ) (x : HeapCell) → slice_get Γ c ≡ Some x → CellMeans sc U n c x

-- the same for cells below n
pub record Agrees (n : ℕ) (sc tc : ℕ → ℕ) (U V : ℕ → ℕ → Tree) : Type 0 where
  pub scopes : (c : ℕ) → c < n → tc c ≡ sc c
  pub values : (c d : ℕ) → c < n → V d c ≡ U d c

env_at : (W : ℕ → Tree) (ρ : List ℕ) (k c : ℕ) → slice_get ρ k ≡ Some c → env W ρ k ≡ W c
env_at W [] k c e = absurd (cc)
env_at W (x ∷ ρ) zero c e = ap W (same_Some x c e)
env_at W (x ∷ ρ) (suc k) c e = env_at W ρ k c e

scoped_at : (sc : ℕ → ℕ) (s n : ℕ) (ρ : List ℕ) (k c : ℕ) → Scoped sc s n ρ → slice_get ρ k ≡ Some c →
    (c < n) × (sc c ≤ s)
scoped_at sc s n [] k c h e = absurd (cc)
scoped_at sc s n (x ∷ ρ) zero c h e =
    subst (λ c. (c < n) × (sc c ≤ s)) (same_Some x c e) (h.0, h.1)
scoped_at sc s n (x ∷ ρ) (suc k) c h e = scoped_at sc s n ρ k c h.2 e

-- more cells, and a wider scope
scoped_on : (sc tc : ℕ → ℕ) (s t n m : ℕ) (ρ : List ℕ) → ((c : ℕ) → c < n → tc c ≡ sc c) → s ≤ t → n ≤ m →
    Scoped sc s n ρ → Scoped tc t m ρ
scoped_on sc tc s t n m [] f l k h = tt
scoped_on sc tc s t n m (c ∷ ρ) f l k h =
    let a = h.0 in
    let b = h.1 in
    let e = f c h.0 in
    (omega (arith, a, k), omega (arith, b, e, l), scoped_on sc tc s t n m ρ f l k h.2)

scoped_value_on : (sc tc : ℕ → ℕ) (s t n m : ℕ) (v : WeakForm) → ((c : ℕ) → c < n → tc c ≡ sc c) → s ≤ t →
    n ≤ m → ScopedValue sc s n v → ScopedValue tc t m v
scoped_value_on sc tc s t n m (function u ρ) f l k h = scoped_on sc tc s t n m ρ f l k h
scoped_value_on sc tc s t n m (name d cs) f l k h = scoped_on sc tc s t n m cs f l k h

env_same : (W X : ℕ → Tree) (sc : ℕ → ℕ) (s n : ℕ) (ρ : List ℕ) → Scoped sc s n ρ →
    ((c : ℕ) → c < n → X c ≡ W c) → (k : ℕ) → env X ρ k ≡ env W ρ k
env_same W X sc s n [] h f k = refl
env_same W X sc s n (c ∷ ρ) h f zero = f c h.0
env_same W X sc s n (c ∷ ρ) h f (suc k) = env_same W X sc s n ρ h.2 f k

applied_same : (W X : ℕ → Tree) (sc : ℕ → ℕ) (s n : ℕ) (h : Tree) (cs : List ℕ) → Scoped sc s n cs →
    ((c : ℕ) → c < n → X c ≡ W c) → applied X h cs ≡ applied W h cs
applied_same W X sc s n h [] q f = refl
applied_same W X sc s n h (c ∷ cs) q f =
    λ i. trees.app (applied_same W X sc s n h cs q.2 f i) (f c q.0 i)

up_like : {σ τ : ℕ → Tree} → ((y : ℕ) → σ y ≡ τ y) → (y : ℕ) → up σ y ≡ up τ y
up_like h zero = refl
up_like h (suc y) = ap (ren suc) (h y)

meaning_same : (W X : ℕ → Tree) (sc : ℕ → ℕ) (s n d : ℕ) (v : WeakForm) → ScopedValue sc s n v →
    ((c : ℕ) → c < n → X c ≡ W c) → meaning d X v ≡ meaning d W v
meaning_same W X sc s n d (function t ρ) h f =
    ap trees.lam (inst_like (up_like (env_same W X sc s n ρ h f)) t)
meaning_same W X sc s n d (name g cs) h f = applied_same W X sc s n (head_at d g) cs h f

env_deeper : (U : ℕ → ℕ → Tree) (sc : ℕ → ℕ) (s n d : ℕ) (ρ : List ℕ) → Scoped sc s n ρ → s ≤ d →
    ((c d : ℕ) → c < n → sc c ≤ d → U (suc d) c ≡ ren suc (U d c)) → (k : ℕ) →
    env (U (suc d)) ρ k ≡ ren suc (env (U d) ρ k)
env_deeper U sc s n d [] h l f k = refl
env_deeper U sc s n d (c ∷ ρ) h l f zero = let m = h.1 in f c d h.0 (omega (arith, m, l))
env_deeper U sc s n d (c ∷ ρ) h l f (suc k) = env_deeper U sc s n d ρ h.2 l f k

-- ---- cells after others

get_before : {X : Type 0} (xs : List X) (y : X) (k : ℕ) (x : X) → slice_get (xs ++ y ∷ []) k ≡ Some x →
    (slice_get xs k ≡ Some x) ⊎ ((k ≡ length xs) × (x ≡ y))
get_before [] y zero x e = inr (refl, sym (same_Some y x e))
get_before [] y (suc k) x e = absurd (cc)
get_before (z ∷ xs) y zero x e = inl e
get_before (z ∷ xs) y (suc k) x e =
    elim (get_before xs y k x e) [ inl f ↦ inl f | inr f ↦ inr (ap suc f.0, f.1) ]

get_unset : {X : Type 0} (xs : List X) (i k : ℕ) (x y : X) → slice_get (slice_set xs i x) k ≡ Some y →
    (slice_get xs k ≡ Some y) ⊎ ((k ≡ i) × (y ≡ x))
get_unset [] i k x y e = absurd (cc)
get_unset (z ∷ xs) zero zero x y e = inr (refl, sym (same_Some x y e))
get_unset (z ∷ xs) zero (suc k) x y e = inl e
get_unset (z ∷ xs) (suc i) zero x y e = inl e
get_unset (z ∷ xs) (suc i) (suc k) x y e =
    elim (get_unset xs i k x y e) [ inl f ↦ inl f | inr f ↦ inr (ap suc f.0, f.1) ]

-- ---- models of larger heaps

cell_means_on : (sc tc : ℕ → ℕ) (U V : ℕ → ℕ → Tree) (n m c : ℕ) (x : HeapCell) → c < n →
    ((c : ℕ) → c < n → tc c ≡ sc c) → ((c d : ℕ) → c < n → V d c ≡ U d c) → n ≤ m →
    CellMeans sc U n c x → CellMeans tc V m c x
cell_means_on sc tc U V n m c (waits t ρ) l f g k h =
    let e = f c l in (
      scoped_on sc tc (sc c) (tc c) n m ρ f (omega (arith, e)) k h.0,
      λ d i. joined (convertible_is (g c d l))
          (joined (h.1 d (omega (arith, i, e)))
          (convertible_is
          (sym (inst_like (env_same (U d) (V d) sc (sc c) n ρ h.0 (λ c l. g c d l)) t)))),
    )
cell_means_on sc tc U V n m c taken l f g k h = tt
cell_means_on sc tc U V n m c (has v) l f g k h =
    let e = f c l in (
      scoped_value_on sc tc (sc c) (tc c) n m v f (omega (arith, e)) k h.0,
      λ d i. joined (convertible_is (g c d l))
          (joined (h.1 d (omega (arith, i, e)))
          (convertible_is (sym (meaning_same (U d) (V d) sc (sc c) n d v h.0 (λ c l. g c d l))))),
    )

-- a cell more
module _ (n : ℕ) (Γ : List HeapCell) (sc : ℕ → ℕ) (U : ℕ → ℕ → Tree) (m : Models n Γ sc U) (s : ℕ)
    (A : ℕ → Tree) where
  abbrev pub sc_more : ℕ → ℕ
  sc_more = with_at sc n s

  abbrev pub U_more : ℕ → ℕ → Tree
  U_more d = with_at (U d) n (A d)

  pub more_agrees : Agrees n sc sc_more U U_more
  more_agrees = record {
    scopes = λ c l. with_other sc n s c (λ e. absurd (omega (arith, e, l)));
    values = λ c d l. with_other (U d) n (A d) c (λ e. absurd (omega (arith, e, l)));
  }

  pub models_more : (x : HeapCell) → ((d : ℕ) → s ≤ d → A (suc d) ≡ ren suc (A d)) →
      CellMeans sc_more U_more (suc n) n x → Models (suc n) (Γ ++ x ∷ []) sc_more U_more
  models_more x shift h = record {
    size = length_push Γ x ∙ (let q = m.size in omega (arith, q));
    deeper = λ c d l k. go c d l k (cases_eq c n);
    means = λ c y e. at c y (get_before Γ x c y e);
  }
    where
      go : (c d : ℕ) → c < suc n → sc_more c ≤ d → (c ≡ n) ⊎ (c ≡ n → ⊥) →
          U_more (suc d) c ≡ ren suc (U_more d c)
      go c d l k (inl e) =
          let q = with_own sc n s c e in
          with_own (U (suc d)) n (A (suc d)) c e ∙ shift d (omega (arith, k, q))
          ∙ sym (ap (ren suc) (with_own (U d) n (A d) c e))
      go c d l k (inr e) =
          let q = with_other sc n s c e in
          with_other (U (suc d)) n (A (suc d)) c e
          ∙ m.deeper c d (omega (arith, l, e)) (omega (arith, k, q))
          ∙ sym (ap (ren suc) (with_other (U d) n (A d) c e))

      at : (c : ℕ) (y : HeapCell) → (slice_get Γ c ≡ Some y) ⊎ ((c ≡ length Γ) × (y ≡ x)) →
          CellMeans sc_more U_more (suc n) c y
      at c y (inl e) =
          let l = slice_get_within Γ c y e in
          let q = m.size in
          cell_means_on sc sc_more U U_more n (suc n) c y (omega (arith, l, q)) more_agrees.scopes
          more_agrees.values (omega arith) (m.means c y e)
      at c y (inr e) =
          subst (λ c. CellMeans sc_more U_more (suc n) c y) (sym (e.0 ∙ m.size))
          (subst (λ x. CellMeans sc_more U_more (suc n) n x) (sym e.1) h)

-- ---- evaluation

pub record Sound (n : ℕ) (sc : ℕ → ℕ) (U : ℕ → ℕ → Tree) (s : ℕ) (t : Tree) (ρ : List ℕ) (Δ : List HeapCell)
    (v : WeakForm) : Type 0 where
  pub size : ℕ
  pub grows : n ≤ size
  pub scopes : ℕ → ℕ
  pub values : ℕ → ℕ → Tree
  pub agrees : Agrees n sc scopes U values
  pub models : Models size Δ scopes values
  pub scoped : ScopedValue scopes s size v
  pub converts :
      (d : ℕ) → s ≤ d → Convertible (inst (env (U d) ρ) t) (meaning d (values d) v)

agrees_same : (n : ℕ) (sc : ℕ → ℕ) (U : ℕ → ℕ → Tree) → Agrees n sc sc U U
agrees_same n sc U = record { scopes = λ c l. refl; values = λ c d l. refl }

pub agrees_then : (n m : ℕ) (sc tc uc : ℕ → ℕ) (U V W : ℕ → ℕ → Tree) → n ≤ m → Agrees n sc tc U V →
    Agrees m tc uc V W → Agrees n sc uc U W
agrees_then n m sc tc uc U V W l a b = record {
  scopes = λ c k. b.scopes c (omega (arith, k, l)) ∙ a.scopes c k;
  values = λ c d k. b.values c d (omega (arith, k, l)) ∙ a.values c d k;
}

-- an argument's cell
module _ (n : ℕ) (Γ : List HeapCell) (sc : ℕ → ℕ) (U : ℕ → ℕ → Tree) (m : Models n Γ sc U) (s : ℕ)
    (a : Tree) (ρ : List ℕ) (h : Scoped sc s n ρ) where
  abbrev pub arg_is : ℕ → Tree
  arg_is d = inst (env (U d) ρ) a

  pub with_argument : Models (suc n) (Γ ++ waits a ρ ∷ []) (sc_more n Γ sc U m s arg_is) (U_more n Γ sc U m s arg_is)
  with_argument =
      models_more n Γ sc U m s arg_is (waits a ρ)
      (λ d l. inst_like (env_deeper U sc s n d ρ h l m.deeper) a ∙ sym (ren_inst a suc (env (U d) ρ))) (
        scoped_on sc sc' s (sc' n) n (suc n) ρ g.scopes
            (let q = with_own sc n s n refl in omega (arith, q)) (omega arith) h,
        λ d l. convertible_is
            (with_own (U d) n (arg_is d) n refl
            ∙ sym (inst_like (env_same (U d) (U' d) sc s n ρ h (λ c l. g.values c d l)) a)),
      )
    where
      sc' : ℕ → ℕ
      sc' = sc_more n Γ sc U m s arg_is

      U' : ℕ → ℕ → Tree
      U' = U_more n Γ sc U m s arg_is

      g : Agrees n sc sc' U U'
      g = more_agrees n Γ sc U m s arg_is

point_env : (W : ℕ → Tree) (c : ℕ) (ρ : List ℕ) (A : Tree) → A ≡ W c → (y : ℕ) →
    inst (point A) (up (env W ρ) y) ≡ env W (c ∷ ρ) y
point_env W c ρ A e zero = e
point_env W c ρ A e (suc y) = inst_ren (env W ρ y) (point A) suc ∙ inst_var (env W ρ y)

set_models : (n : ℕ) (Δ : List HeapCell) (sc : ℕ → ℕ) (U : ℕ → ℕ → Tree) (m : Models n Δ sc U) (c : ℕ) (x : HeapCell) →
    c < n → CellMeans sc U n c x → Models n (slice_set Δ c x) sc U
set_models n Δ sc U m c y l h = record {
  size = set_length Δ c y ∙ m.size;
  deeper = m.deeper;
  means =
      λ d x e. elim (get_unset Δ c d y x e) [
        | inl f ↦ m.means d x f
        | inr f ↦ subst (λ d. CellMeans sc U n d x) (sym f.0)
            (subst (λ x. CellMeans sc U n c x) (sym f.1) h)
      ];
}

is_then : (t u v : Tree) → t ≡ u → Convertible u v → Convertible t v
is_then t u v e c = subst (λ t. Convertible t v) (sym e) c

-- a function and a beta step, and a function and an argument
beta_then : (f g a b t v : Tree) → f ≡ g → Convertible g (trees.lam b) → inst (point a) b ≡ t →
    Convertible t v → Convertible (trees.app f a) v
beta_then f g a b t v e c h d =
    joined (convertible_fun a (is_then f g (trees.lam b) e c))
    (joined (convertible_beta b a) (is_then (inst (point a) b) t v h d))

argument_then : (f g a b t : Tree) → f ≡ g → Convertible g t → a ≡ b →
    Convertible (trees.app f a) (trees.app t b)
argument_then f g a b t e c h = convertible_app (is_then f g t e c) (convertible_is h)

pub evaluates_sound : {Γ Δ : List HeapCell} {t : Tree} {ρ : List ℕ} {v : WeakForm} {k : ℕ} →
    Evaluates Γ t ρ Δ v k → (n : ℕ) (sc : ℕ → ℕ) (U : ℕ → ℕ → Tree) → Models n Γ sc U → (s : ℕ) →
    Scoped sc s n ρ → Sound n sc U s t ρ Δ v
evaluates_sound of_free n sc U m s h = record {
  size = n;
  grows = omega arith;
  scopes = sc;
  values = U;
  agrees = agrees_same n sc U;
  models = m;
  scoped = tt;
  converts = λ d l. same;
}
evaluates_sound of_lam n sc U m s h = record {
  size = n;
  grows = omega arith;
  scopes = sc;
  values = U;
  agrees = agrees_same n sc U;
  models = m;
  scoped = h;
  converts = λ d l. same;
}
evaluates_sound (first_use {Γ = Γ} {Δ = Δ} {ρ = ρ} {η = η} {t = t} {v = v} {k = k} {c = c} e g r) n sc U m s h =
    let p = scoped_at sc s n ρ k c h e in
    let l = p.1 in
    let i = p.0 in
    let q = m.means c (waits t η) g in
    let x = evaluates_sound r n sc U (set_models n Γ sc U m c taken i tt) (sc c) q.0 in
    let o = x.grows in
    let a = x.agrees.scopes c p.0 in
    record {
      size = x.size;
      grows = x.grows;
      scopes = x.scopes;
      values = x.values;
      agrees = x.agrees;
      models =
          set_models x.size Δ x.scopes x.values x.models c (has v) (omega (arith, i, o)) (
            subst (λ s. ScopedValue x.scopes s x.size v) (sym a) x.scoped,
            λ d b. joined (convertible_is (x.agrees.values c d p.0))
                (joined (q.1 d (omega (arith, a, b))) (x.converts d (omega (arith, a, b)))),
          );
      scoped =
          scoped_value_on x.scopes x.scopes (sc c) s x.size x.size v (λ c l. refl) l (omega arith)
          x.scoped;
      converts =
          λ d b. joined (convertible_is (env_at (U d) ρ k c e))
          (joined (q.1 d (omega (arith, l, b))) (x.converts d (omega (arith, l, b))));
    }
evaluates_sound (later_use {ρ = ρ} {v = v} {k = k} {c = c} e g) n sc U m s h =
    let p = scoped_at sc s n ρ k c h e in
    let l = p.1 in
    let q = m.means c (has v) g in
    record {
      size = n;
      grows = omega arith;
      scopes = sc;
      values = U;
      agrees = agrees_same n sc U;
      models = m;
      scoped = scoped_value_on sc sc (sc c) s n n v (λ c l. refl) l (omega arith) q.0;
      converts =
          λ d b. joined (convertible_is (env_at (U d) ρ k c e)) (q.1 d (omega (arith, l, b)));
    }
evaluates_sound (beta {Γ = Γ} {ρ = ρ} {η = η} {f = f} {a = a} {t = t} {v = v} r u) n sc U m s h =
    let sc' = sc_more n Γ sc U m s (arg_is n Γ sc U m s a ρ h) in
    let U' = U_more n Γ sc U m s (arg_is n Γ sc U m s a ρ h) in
    let g = more_agrees n Γ sc U m s (arg_is n Γ sc U m s a ρ h) in
    let x =
    evaluates_sound r (suc n) sc' U' (with_argument n Γ sc U m s a ρ h) s
    (scoped_on sc sc' s s n (suc n) ρ g.scopes (omega arith) (omega arith) h) in
    let o = x.grows in
    let own : x.scopes n ≡ s =
    x.agrees.scopes n (omega arith) ∙ with_own sc n s n refl in
    let y =
    evaluates_sound u x.size x.scopes x.values x.models s
    (subst (λ c. (c < x.size) × (x.scopes c ≤ s) × Scoped x.scopes s x.size η) (sym m.size)
    (omega (arith, o), omega (arith, own), x.scoped)) in
    let i = y.grows in
    record {
      size = y.size;
      grows = omega (arith, o, i);
      scopes = y.scopes;
      values = y.values;
      agrees =
          agrees_then n x.size sc x.scopes y.scopes U x.values y.values (omega (arith, o))
          (agrees_then n (suc n) sc sc' x.scopes U U' x.values (omega arith) g x.agrees) y.agrees;
      models = y.models;
      scoped = y.scoped;
      converts =
          λ d b.
          let A = inst (env (U d) ρ) a in
          let B = inst (up (env (x.values d) η)) t in
          let at : A ≡ x.values d (length Γ) =
          sym (ap (x.values d) m.size ∙ x.agrees.values n d (omega arith) ∙ with_own (U d) n A n refl) in
          beta_then (inst (env (U d) ρ) f) (inst (env (U' d) ρ) f) A B
          (inst (env (x.values d) (length Γ ∷ η)) t) (meaning d (y.values d) v)
          (sym (inst_like (env_same (U d) (U' d) sc s n ρ h (λ c l. g.values c d l)) f))
          (x.converts d b)
          (inst_inst t (point A) (up (env (x.values d) η))
          ∙ inst_like (point_env (x.values d) (length Γ) η A at) t)
          (y.converts d b);
    }
evaluates_sound (argument {Γ = Γ} {ρ = ρ} {cs = cs} {f = f} {a = a} {h = hd} r) n sc U m s h =
    let sc' = sc_more n Γ sc U m s (arg_is n Γ sc U m s a ρ h) in
    let U' = U_more n Γ sc U m s (arg_is n Γ sc U m s a ρ h) in
    let g = more_agrees n Γ sc U m s (arg_is n Γ sc U m s a ρ h) in
    let x =
    evaluates_sound r (suc n) sc' U' (with_argument n Γ sc U m s a ρ h) s
    (scoped_on sc sc' s s n (suc n) ρ g.scopes (omega arith) (omega arith) h) in
    let o = x.grows in
    let own : x.scopes n ≡ s =
    x.agrees.scopes n (omega arith) ∙ with_own sc n s n refl in
    record {
      size = x.size;
      grows = omega (arith, o);
      scopes = x.scopes;
      values = x.values;
      agrees = agrees_then n (suc n) sc sc' x.scopes U U' x.values (omega arith) g x.agrees;
      models = x.models;
      scoped =
          subst (λ c. (c < x.size) × (x.scopes c ≤ s) × Scoped x.scopes s x.size cs) (sym m.size)
          (omega (arith, o), omega (arith, own), x.scoped);
      converts =
          λ d b.
          let A = inst (env (U d) ρ) a in
          let at : A ≡ x.values d (length Γ) =
          sym (ap (x.values d) m.size ∙ x.agrees.values n d (omega arith) ∙ with_own (U d) n A n refl) in
          argument_then (inst (env (U d) ρ) f) (inst (env (U' d) ρ) f) A (x.values d (length Γ))
          (meaning d (x.values d) (name hd cs))
          (sym (inst_like (env_same (U d) (U' d) sc s n ρ h (λ c l. g.values c d l)) f))
          (x.converts d b) at;
    }

-- ---- to the normal form

abbrev pub ScopedTask : (ℕ → ℕ) → ℕ → ℕ → Task → Type 0
ScopedTask sc s n (closure t ρ) = Scoped sc s n ρ
ScopedTask sc s n (spine h cs) = Scoped sc s n cs

abbrev pub task_meaning : ℕ → (ℕ → Tree) → Task → Tree
task_meaning d W (closure t ρ) = inst (env W ρ) t
task_meaning d W (spine h cs) = applied W (head_at d h) cs

abbrev pub Formed : Task → Tree → Type 0
Formed (closure t ρ) v = Normal v
Formed (spine h cs) v = Neutral v × Normal v

pub record Normalized (d n : ℕ) (sc : ℕ → ℕ) (U : ℕ → ℕ → Tree) (x : Task) (Δ : List HeapCell) (v : Tree) :
    Type 0 where
  pub size : ℕ
  pub grows : n ≤ size
  pub scopes : ℕ → ℕ
  pub values : ℕ → ℕ → Tree
  pub agrees : Agrees n sc scopes U values
  pub models : Models size Δ scopes values
  pub converts : Convertible (task_meaning d (U d) x) v
  pub formed : Formed x v

head_neutral : (d : ℕ) (h : Head) → Neutral (head_at d h) × Normal (head_at d h)
head_neutral d (free k) = (tt, tt)
head_neutral d (level l) = (tt, tt)

under_env : (U V : ℕ → ℕ → Tree) (sc : ℕ → ℕ) (d n c : ℕ) (η : List ℕ) → Scoped sc d n η →
    ((c d : ℕ) → c < n → sc c ≤ d → U (suc d) c ≡ ren suc (U d c)) →
    ((c d : ℕ) → c < n → V d c ≡ U d c) → V (suc d) c ≡ trees.var 0 → (y : ℕ) →
    up (env (U d) η) y ≡ env (V (suc d)) (c ∷ η) y
under_env U V sc d n c η h f g e zero = sym e
under_env U V sc d n c η h f g e (suc y) =
    sym (env_deeper U sc d n d η h (omega arith) f y)
    ∙ sym (env_same (U (suc d)) (V (suc d)) sc d n η h (λ c l. g c (suc d) l) y)

pub normalizes_sound : {d k : ℕ} {Γ Δ : List HeapCell} {x : Task} {v : Tree} → NormalisesByNeed d Γ x Δ v k →
    (n : ℕ) (sc : ℕ → ℕ) (U : ℕ → ℕ → Tree) → Models n Γ sc U → ScopedTask sc d n x →
    Normalized d n sc U x Δ v
normalizes_sound (into_body {d = d} {Δ = Δ} {η = η} {u = u} r q) n sc U m h =
    let x = evaluates_sound r n sc U m d h in
    let i = x.size in
    let A : ℕ → Tree = λ e. trees.var (e - suc d) in
    let sc' = sc_more i Δ x.scopes x.values x.models (suc d) A in
    let U' = U_more i Δ x.scopes x.values x.models (suc d) A in
    let g = more_agrees i Δ x.scopes x.values x.models (suc d) A in
    let mm =
    models_more i Δ x.scopes x.values x.models (suc d) A (has (name (level d) []))
    (λ e l. (let o : suc e - suc d ≡ suc (e - suc d) = omega (arith, l) in ap trees.var o))
    (tt, λ e l. convertible_is (with_own (x.values e) i (A e) i refl)) in
    let y =
    normalizes_sound q (suc i) sc' U' mm
    (subst (λ c. (c < suc i) × (sc' c ≤ suc d) × Scoped sc' (suc d) (suc i) η) (sym x.models.size) (
      omega arith,
      (let o = with_own x.scopes i (suc d) i refl in omega (arith, o)),
      scoped_on x.scopes sc' d (suc d) i (suc i) η g.scopes (omega arith) (omega arith) x.scoped,
    )) in
    let a = x.grows in
    let b = y.grows in
    let zero_is : U' (suc d) (length Δ) ≡ trees.var 0 =
    ap (U' (suc d)) x.models.size ∙ with_own (x.values (suc d)) i (A (suc d)) i refl
    ∙ (let o : suc d - suc d ≡ 0 = omega arith in ap trees.var o) in
    record {
      size = y.size;
      grows = omega (arith, a, b);
      scopes = y.scopes;
      values = y.values;
      agrees =
          agrees_then n (suc i) sc sc' y.scopes U U' y.values (omega (arith, a))
          (agrees_then n i sc x.scopes sc' U x.values U' a x.agrees g) y.agrees;
      models = y.models;
      converts =
          joined (x.converts d (omega arith))
          (convertible_lam
          (joined
          (convertible_is
          (inst_like
          (under_env x.values U' x.scopes d i (length Δ) η x.scoped x.models.deeper g.values zero_is)
          u))
          y.converts));
      formed = y.formed;
    }
normalizes_sound (into_arguments {d = d} {Δ = Δ} r q) n sc U m h =
    let x = evaluates_sound r n sc U m d h in
    let y = normalizes_sound q x.size x.scopes x.values x.models x.scoped in
    let a = x.grows in
    let b = y.grows in
    record {
      size = y.size;
      grows = omega (arith, a, b);
      scopes = y.scopes;
      values = y.values;
      agrees = agrees_then n x.size sc x.scopes y.scopes U x.values y.values a x.agrees y.agrees;
      models = y.models;
      converts = joined (x.converts d (omega arith)) y.converts;
      formed = y.formed.1;
    }
normalizes_sound (no_argument {d = d} {h = hd}) n sc U m h = record {
  size = n;
  grows = omega arith;
  scopes = sc;
  values = U;
  agrees = agrees_same n sc U;
  models = m;
  converts = same;
  formed = head_neutral d hd;
}
normalizes_sound (one_argument {d = d} {c = c} q r) n sc U m h =
    let x = normalizes_sound q n sc U m h.2 in
    let a = x.grows in
    let l = h.0 in
    let e = x.agrees.scopes c h.0 in
    let k = h.1 in
    let y =
    normalizes_sound r x.size x.scopes x.values x.models
    (omega (arith, a, l), omega (arith, e, k), tt) in
    let b = y.grows in
    record {
      size = y.size;
      grows = omega (arith, a, b);
      scopes = y.scopes;
      values = y.values;
      agrees = agrees_then n x.size sc x.scopes y.scopes U x.values y.values a x.agrees y.agrees;
      models = y.models;
      converts =
          convertible_app x.converts
          (joined (convertible_is (sym (x.agrees.values c d h.0))) y.converts);
      formed = (x.formed.0, (x.formed.0, x.formed.1, y.formed));
    }

no_cells : Models 0 [] (λ c. 0) (λ d c. trees.free 0)
no_cells = record {
  size = refl;
  deeper = λ c d l k. refl;
  means = λ c x e. absurd (cc);
}

pub comes_to_form : (t v : Tree) (n : ℕ) → is_below 0 t ≡ true → ReducesByNeed t v n →
    Convertible t v × Normal v
comes_to_form t v n b r =
    let x = normalizes_sound r.1 0 (λ c. 0) (λ d c. trees.free 0) no_cells tt in (
      joined
          (convertible_is
          (sym
          (below_same t 0 (env (λ c. trees.free 0) []) trees.var b (λ y l. absurd (omega (arith, l))) ∙ inst_var t)))
          x.converts,
      x.formed,
    )
