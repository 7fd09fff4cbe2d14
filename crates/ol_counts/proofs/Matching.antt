-- What the machine has, as labelled terms.
use Rattle.std.proofs.Common.{◌≡◌, ℕ, zero, suc, ◌+◌, ◌<◌, ◌≤◌, true, List, [], ◌∷◌, ◌++◌, length, slice_get, Some}
use Rattle.std.proofs.Common.{refl, sym, ap, ◌∙◌, subst, arith}
use Rattle.std.proofs.lemmas.Bool.{ltb-true, and_parts}
use Rattle.ol_counts.specs.Machines.{Link, Weak, function, name, Cell, waits, has, Control, goes, came}
use Rattle.ol_counts.specs.Machines.{first_link, behind, behind_link}
use Rattle.ol_term.specs.Trees.{Tree, is_below}
use Rattle.ol_term.specs.Trees as trees
use Rattle.ol_law_optimality.specs.Labels.{Label, none, over, under, joined, Labelled, var, free, lam, app}
use Rattle.ol_law_optimality.specs.Labels.{before, erased, substituted}
use Rattle.ol_law_optimality.specs.Reductions.{reduct}
use Rattle.ol_law_optimality.proofs.Putting.{up, inst, point, before_inst, inst_inst, inst_like}
use Rattle.ol_law_optimality.proofs.Putting.{inst_ren, substituted_inst}
use Rattle.ol_counts.proofs.Normals.{Neutral}
use Rattle.ol_counts.proofs.Places.{inst_same}
use Rattle.ol_law_edges.proofs.Lists.{got_last, got_left}

-- ---- environments

abbrev pub Chain : List Link → ℕ → List (ℕ × Label) → Type 0
Chain links e [] = Unit {0}
Chain links e (x ∷ ρ) =
    (b : ℕ) × (first_link links e ≡ Some (record { cell = x.0; behind = b })) × Chain links b ρ

abbrev pub env : List (ℕ × Label) → ℕ → Labelled
env [] k = var k none
env (x ∷ ρ) zero = var x.0 x.1
env (x ∷ ρ) (suc k) = env ρ k

pub behind_first : (links : List Link) (k e : ℕ) →
    behind links (suc k) e ≡ behind links k (behind_link (first_link links e))
behind_first links zero e = refl
behind_first links (suc k) e =
    ap (λ b. behind_link (first_link links b)) (behind_first links k e)

pub record Found (links : List Link) (chain : ℕ) (t : Labelled) : Type 0 where
  pub cell : ℕ
  pub label : Label
  pub rest : ℕ
  pub link : first_link links chain ≡ Some (record { cell = cell; behind = rest })
  pub gives : t ≡ var cell label

pub found : (links : List Link) (k e : ℕ) (ρ : List (ℕ × Label)) → Chain links e ρ →
    k < length ρ → Found links (behind links k e) (env ρ k)
found links k e [] c l = absurd (omega (arith, l))
found links zero e (x ∷ ρ) c l =
    record { cell = x.0; label = x.1; rest = c.0; link = c.1; gives = refl }
found links (suc k) e (x ∷ ρ) c l =
    subst (λ b. Found links b (env ρ k))
    (sym (behind_first links k e ∙ ap (λ o. behind links k (behind_link o)) c.1))
    (found links k c.0 ρ c.2 (omega (arith, l)))

pub slice_get_kept : {X : Type 0} (xs : List X) (x : X) (k : ℕ) (y : X) → slice_get xs k ≡ Some y →
    slice_get (xs ++ x ∷ []) k ≡ Some y
slice_get_kept xs x k y e = got_left xs (x ∷ []) k y e

pub first_kept : (links : List Link) (x : Link) (e : ℕ) (l : Link) →
    first_link links e ≡ Some l → first_link (links ++ x ∷ []) e ≡ Some l
first_kept links x zero l e = e
first_kept links x (suc k) l e = slice_get_kept links x k l e

pub chain_kept : (links : List Link) (x : Link) (e : ℕ) (ρ : List (ℕ × Label)) → Chain links e ρ →
    Chain (links ++ x ∷ []) e ρ
chain_kept links x e [] c = tt
chain_kept links x e (y ∷ ρ) c = (
  c.0,
  first_kept links x e (record { cell = y.0; behind = c.0 }) c.1,
  chain_kept links x c.0 ρ c.2,
)

pub chain_new : (links : List Link) (a e : ℕ) (d : Label) (ρ : List (ℕ × Label)) →
    Chain links e ρ →
    Chain (links ++ (record { cell = a; behind = e }) ∷ []) (suc (length links)) ((a, d) ∷ ρ)
chain_new links a e d ρ c = (
  e,
  got_last links (record { cell = a; behind = e }),
  chain_kept links (record { cell = a; behind = e }) e ρ c,
)

-- a variable more
env_more : (a : ℕ) (d : Label) (ρ : List (ℕ × Label)) (y : ℕ) →
    inst (point (var a d)) (up (env ρ) y) ≡ env ((a, d) ∷ ρ) y
env_more a d ρ zero = refl
env_more a d ρ (suc y) = inst_ren (env ρ y) (point (var a d)) suc ∙ inst_same (env ρ y)

pub put_env : (a : ℕ) (d : Label) (ρ : List (ℕ × Label)) (B : Labelled) →
    substituted (var a d) 0 (inst (up (env ρ)) B) ≡ inst (env ((a, d) ∷ ρ)) B
put_env a d ρ B =
    substituted_inst (var a d) (inst (up (env ρ)) B)
    ∙ inst_inst B (point (var a d)) (up (env ρ)) ∙ inst_like (env_more a d ρ) B

pub reduct_env : (a : ℕ) (w v : Label) (ρ : List (ℕ × Label)) (B : Labelled) →
    reduct w v (var a none) (inst (up (env ρ)) B)
    ≡ inst (env ((a, under v none) ∷ ρ)) (before (joined w (over v none)) B)
reduct_env a w v ρ B =
    ap (before (joined w (over v none))) (put_env a (under v none) ρ B)
    ∙ sym (before_inst (joined w (over v none)) (env ((a, under v none) ∷ ρ)) B)

-- ---- closures

pub record Closure (links : List Link) (t : Tree) (e : ℕ) (K : Labelled) : Type 0 where
  pub source : Labelled
  pub environment : List (ℕ × Label)
  pub erases : erased source ≡ t
  pub chain : Chain links e environment
  pub bound : is_below (length environment) t ≡ true
  pub gives : K ≡ inst (env environment) source

pub record Abstraction (links : List Link) (body : Tree) (e : ℕ) (K : Labelled) : Type 0 where
  pub source : Labelled
  pub label : Label
  pub environment : List (ℕ × Label)
  pub erases : erased source ≡ body
  pub chain : Chain links e environment
  pub bound : is_below (suc (length environment)) body ≡ true
  pub gives : K ≡ lam (inst (up (env environment)) source) label

-- a name with arguments
pub data NameOf (n : ℕ) (links : List Link) (U : ℕ → Labelled) : ℕ → Labelled → Type 0 where
  of_var : {e x : ℕ} {w : Label} → e ≡ 0 → x < n → U x ≡ var x none → NameOf n links U e (var x w)
  of_free : {e f : ℕ} {w : Label} → e ≡ 0 → NameOf n links U e (free f w)
  of_argument : {e b a : ℕ} {K : Labelled} {w : Label} → a < n →
      first_link links e ≡ Some (record { cell = a; behind = b }) → NameOf n links U b K →
      NameOf n links U e (app K (var a none) w)

abbrev pub WeakOf : ℕ → List Link → (ℕ → Labelled) → Weak → Labelled → Type 0
WeakOf n links U (function body e) K = Abstraction links body e K
WeakOf n links U (name e) K = NameOf n links U e K

abbrev pub CellOf : ℕ → List Link → (ℕ → Labelled) → Cell → Labelled → Type 0
CellOf n links U (waits t e) K = Closure links t e K
CellOf n links U (has weak) K = WeakOf n links U weak K

abbrev pub ControlOf : ℕ → List Link → (ℕ → Labelled) → Control → Labelled → Type 0
ControlOf n links U (goes t e) K = Closure links t e K
ControlOf n links U (came weak) K = WeakOf n links U weak K

-- ---- a label put before

pub name_before : {n : ℕ} {links : List Link} {U : ℕ → Labelled} {e : ℕ} {K : Labelled}
    (p : Label) → NameOf n links U e K → NameOf n links U e (before p K)
name_before p (of_var z l h) = of_var z l h
name_before p (of_free z) = of_free z
name_before p (of_argument l h k) = of_argument l h k

pub weak_before : (n : ℕ) (links : List Link) (U : ℕ → Labelled) (weak : Weak) (K : Labelled)
    (p : Label) → WeakOf n links U weak K → WeakOf n links U weak (before p K)
weak_before n links U (function body e) K p x = record {
  source = x.source;
  label = joined p x.label;
  environment = x.environment;
  erases = x.erases;
  chain = x.chain;
  bound = x.bound;
  gives = ap (before p) x.gives;
}
weak_before n links U (name e) K p x = name_before p x

pub name_neutral : {n : ℕ} {links : List Link} {U : ℕ → Labelled} {e : ℕ} {K : Labelled} →
    NameOf n links U e K → Neutral (inst U K)
name_neutral (of_var {w = w} z l h) = subst (λ t. Neutral (before w t)) (sym h) tt
name_neutral (of_free z) = tt
name_neutral (of_argument l h k) = name_neutral k

-- ---- more cells and links, and other values

module _ (n m : ℕ) (links more : List Link) (U V : ℕ → Labelled) (l : n ≤ m)
    (f : (e : ℕ) (x : Link) → first_link links e ≡ Some x → first_link more e ≡ Some x)
    (g : (x : ℕ) → x < n → U x ≡ var x none → V x ≡ var x none) where
  chain_more : (e : ℕ) (ρ : List (ℕ × Label)) → Chain links e ρ → Chain more e ρ
  chain_more e [] c = tt
  chain_more e (y ∷ ρ) c =
      (c.0, f e (record { cell = y.0; behind = c.0 }) c.1, chain_more c.0 ρ c.2)

  pub name_more : {e : ℕ} {K : Labelled} → NameOf n links U e K → NameOf m more V e K
  name_more (of_var {x = x} z i h) = of_var z (omega (arith, i, l)) (g x i h)
  name_more (of_free z) = of_free z
  name_more {e} (of_argument {b = b} {a = a} i h k) =
      of_argument (omega (arith, i, l)) (f e (record { cell = a; behind = b }) h) (name_more k)

  closure_more : (t : Tree) (e : ℕ) (K : Labelled) → Closure links t e K → Closure more t e K
  closure_more t e K x = record {
    source = x.source;
    environment = x.environment;
    erases = x.erases;
    chain = chain_more e x.environment x.chain;
    bound = x.bound;
    gives = x.gives;
  }

  pub weak_more : (weak : Weak) (K : Labelled) → WeakOf n links U weak K → WeakOf m more V weak K
  weak_more (function body e) K x = record {
    source = x.source;
    label = x.label;
    environment = x.environment;
    erases = x.erases;
    chain = chain_more e x.environment x.chain;
    bound = x.bound;
    gives = x.gives;
  }
  weak_more (name e) K x = name_more x

  pub cell_more : (cell : Cell) (K : Labelled) → CellOf n links U cell K → CellOf m more V cell K
  cell_more (waits t e) K x = closure_more t e K x
  cell_more (has weak) K x = weak_more weak K x

-- ---- what a closure's term is

pub record VarClosure (links : List Link) (k e : ℕ) (K : Labelled) : Type 0 where
  pub label : Label
  pub found : Found links (behind links k e) K

var_source : (L : Labelled) (k : ℕ) → erased L ≡ trees.var k → (w : Label) × (L ≡ var k w)
var_source (var y w) k e = (w, (let q : y ≡ k = cc in ap (λ y. var y w) q))
var_source (free y w) k e = absurd (cc)
var_source (lam t w) k e = absurd (cc)
var_source (app f a w) k e = absurd (cc)

free_source : (L : Labelled) (k : ℕ) → erased L ≡ trees.free k → (w : Label) × (L ≡ free k w)
free_source (var y w) k e = absurd (cc)
free_source (free y w) k e = (w, (let q : y ≡ k = cc in ap (λ y. free y w) q))
free_source (lam t w) k e = absurd (cc)
free_source (app f a w) k e = absurd (cc)

lam_source : (L : Labelled) (t : Tree) → erased L ≡ trees.lam t →
    (B : Labelled) × (w : Label) × (L ≡ lam B w) × (erased B ≡ t)
lam_source (var y w) t e = absurd (cc)
lam_source (free y w) t e = absurd (cc)
lam_source (lam B w) t e = (B, w, refl, (let q : erased B ≡ t = cc in q))
lam_source (app f a w) t e = absurd (cc)

app_source : (L : Labelled) (f a : Tree) → erased L ≡ trees.app f a →
    (F : Labelled) × (A : Labelled) × (w : Label) × (L ≡ app F A w) × (erased F ≡ f) × (erased A ≡ a)
app_source (var y w) f a e = absurd (cc)
app_source (free y w) f a e = absurd (cc)
app_source (lam t w) f a e = absurd (cc)
app_source (app F A w) f a e =
    (F, A, w, refl, (let q : erased F ≡ f = cc in q), (let q : erased A ≡ a = cc in q))

pub var_closure : (links : List Link) (k e : ℕ) (K : Labelled) →
    Closure links (trees.var k) e K → Found links (behind links k e) K
var_closure links k e K x =
    let s = var_source x.source k x.erases in
    let y = found links k e x.environment x.chain (ltb-true k (length x.environment) x.bound) in
    record {
      cell = y.cell;
      label = joined s.0 y.label;
      rest = y.rest;
      link = y.link;
      gives = x.gives ∙ ap (inst (env x.environment)) s.1 ∙ ap (before s.0) y.gives;
    }

pub free_closure : (n : ℕ) (links : List Link) (U : ℕ → Labelled) (k e : ℕ) (K : Labelled) →
    Closure links (trees.free k) e K → NameOf n links U 0 K
free_closure n links U k e K x =
    let s = free_source x.source k x.erases in
    subst (λ K. NameOf n links U 0 K) (sym (x.gives ∙ ap (inst (env x.environment)) s.1))
    (of_free refl)

pub lam_closure : (links : List Link) (t : Tree) (e : ℕ) (K : Labelled) →
    Closure links (trees.lam t) e K → Abstraction links t e K
lam_closure links t e K x =
    let s = lam_source x.source t x.erases in
    record {
      source = s.0;
      label = s.1;
      environment = x.environment;
      erases = s.3;
      chain = x.chain;
      bound =
          let q : length x.environment + 1 ≡ suc (length x.environment) = omega arith in
          ap (λ d. is_below d t) (sym q) ∙ x.bound;
      gives = x.gives ∙ ap (inst (env x.environment)) s.2;
    }

pub record Application (links : List Link) (f a : Tree) (e : ℕ) (K : Labelled) : Type 0 where
  pub fun : Labelled
  pub arg : Labelled
  pub label : Label
  pub gives : K ≡ app fun arg label
  pub fun_is : Closure links f e fun
  pub arg_is : Closure links a e arg

pub app_closure : (links : List Link) (f a : Tree) (e : ℕ) (K : Labelled) →
    Closure links (trees.app f a) e K → Application links f a e K
app_closure links f a e K x =
    let s = app_source x.source f a x.erases in
    let d = length x.environment in
    let b = and_parts (is_below d f) (is_below d a) x.bound in
    record {
      fun = inst (env x.environment) s.0;
      arg = inst (env x.environment) s.1;
      label = s.2;
      gives = x.gives ∙ ap (inst (env x.environment)) s.3;
      fun_is =
          record {
            source = s.0;
            environment = x.environment;
            erases = s.4;
            chain = x.chain;
            bound = b.0;
            gives = refl;
          };
      arg_is =
          record {
            source = s.1;
            environment = x.environment;
            erases = s.5;
            chain = x.chain;
            bound = b.1;
            gives = refl;
          };
    }
