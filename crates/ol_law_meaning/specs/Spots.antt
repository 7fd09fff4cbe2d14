-- Spots: where a walk over a term's net can stand, said by the term alone, without nodes and
-- numbers; and what joins them, by each of the two translations.
use Rattle.std.specs.Prelude.{◌≡◌, ◌≢◌, ℕ, zero, suc, ◌+◌, ◌==◌, Bool, true, false, ◌||◌, if◌then◌else◌}
use Rattle.ol_term.specs.declared.translations.Translation.{Translation}
use Rattle.ol_term.specs.declared.translations.Translation.TheVariants.{One, Two}
use Rattle.ol_term.specs.Trees.{Tree, var, free, lam, app}
use Rattle.ol_net.specs.declared.parts.Kind.{Kind}
use Rattle.ol_net.specs.declared.parts.Kind.TheVariants as kind
use Rattle.ol_net.specs.Nets.{NamedNet, NamedPort}
use Rattle.ol_context.specs.Paths.{Path, ends, goes}
use Rattle.ol_context.specs.Contexts.{Level, empty, o, star, pair, Context, cons}

-- ---- the interface of a term: its root, and a wire for each variable and name that is free in it

-- the wire of a variable, which is counted from the inside, or of a free name
pub data Wire : Type 0 where
  bound : ℕ → Wire
  name : ℕ → Wire

-- the same wire under one more abstraction
abbrev pub under : Wire → Wire
under (bound y) = bound (suc y)
under (name f) = name f

-- the term has such a wire: its variable is free in it, or its name is one of the term's
abbrev pub occurs : Wire → Tree → Bool
occurs (bound y) (var v) = v == y
occurs (bound y) (free f) = false
occurs (name f) (var v) = false
occurs (name f) (free g) = g == f
occurs y (lam t) = occurs (under y) t
occurs y (app t u) = occurs y t || occurs y u

-- Level 0 of wire y at an application's interface, by what it is at the function: where the
-- argument N has this wire too, a fan joins both, and o tells the function's side.
abbrev pub left : Tree → Wire → Level → Level
left N y a = if occurs y N then o a else a

-- ---- arguments

-- the argument has no box of its own: by translation 2 a variable or a free name is its wire itself
abbrev pub is_bare : Translation → Tree → Bool
is_bare One N = false
is_bare Two (var y) = true
is_bare Two (free f) = true
is_bare Two (lam t) = false
is_bare Two (app t u) = false

-- b may be level 0 of a wire at the argument N, as N itself sees it: where N has no box, that is empty
abbrev pub IsLevelOf : Translation → Tree → Level → Type 0
IsLevelOf τ N b = is_bare τ N ≡ true → b ≡ empty

-- Level 0 of a wire outside of the argument, by what it is inside, b, and by the value v from which
-- the argument is entered. The bracket of a box packs both; where there is no box, it is v.
abbrev pub boxed : Bool → Level → Level → Level
boxed bare b v = if bare then v else pair b v

-- Level 0 of wire y at an application's interface, by what it is at the argument N: a star tells
-- the argument's side where the function M has this wire too.
abbrev pub right : Translation → Tree → Tree → Wire → Level → Level → Level
right τ M N y b v = if occurs y M then star (boxed (is_bare τ N) b v) else boxed (is_bare τ N) b v

-- level 0 of wire y is a at the application M N, where it is b at N
pub record IsRight (τ : Translation) (M N : Tree) (y : Wire) (b v a : Level) : Type 0 where
  pub level : IsLevelOf τ N b
  pub is : a ≡ right τ M N y b v

pub data Place : Type 0 where
  root : Place
  wire : Wire → Place

-- ---- spots

-- at a place of the term's interface, with the value of level 0 and the levels after it; or at a spot of the body of an
-- abstraction, of the function, or of the argument of an application, which is entered with this value
pub data Spot : Type 0 where
  at : Place → Level → Context → Spot
  body : Spot → Spot
  fun : Spot → Spot
  arg : Level → Spot → Spot

-- What joins two spots, the outer one first, and its weight: how many application nodes are
-- crossed. An occurrence's root is
-- joined to its wire; an abstraction's root to its body's root (o) and to the wire of its own
-- variable (star); an application's
-- root to its function's root, and this (star) to the argument's root; and each wire to that of the part that has it.
pub data Edge (τ : Translation) : Tree → Spot → Spot → ℕ → Type 0 where
  var_wire : {y : ℕ} {v : Level} {c d : Context} → d ≡ cons v c →
      Edge τ (var y) (at root v c) (at (wire (bound y)) empty d) 0
  free_wire : {f : ℕ} {v : Level} {c d : Context} → d ≡ cons v c →
      Edge τ (free f) (at root v c) (at (wire (name f)) empty d) 0
  lam_root : {M : Tree} {v : Level} {c : Context} →
      Edge τ (lam M) (at root (o v) c) (body (at root v c)) 0
  lam_own : {M : Tree} {a : Level} {c : Context} →
      occurs (bound 0) M ≡ true → Edge τ (lam M) (at root (star a) c)
      (body (at (wire (bound 0)) a c)) 0
  lam_wire : {M : Tree} {y z : Wire} {a : Level} {c : Context} →
      z ≡ under y → occurs z M ≡ true → Edge τ (lam M) (at (wire y) a c) (body (at (wire z) a c)) 0
  app_root : {M N : Tree} {v : Level} {c : Context} →
      Edge τ (app M N) (at root v c) (fun (at root (o v) c)) 1
  app_arg : {M N : Tree} {v u : Level} {c d : Context} →
      c ≡ cons u d → Edge τ (app M N) (fun (at root (star v) c)) (arg v (at root u d)) 1
  app_left : {M N : Tree} {y : Wire} {a w : Level} {c : Context} →
      occurs y M ≡ true → w ≡ left N y a →
      Edge τ (app M N) (at (wire y) w c) (fun (at (wire y) a c)) 0
  app_right : {M N : Tree} {y : Wire} {b v w : Level} {c : Context} →
      occurs y N ≡ true → IsRight τ M N y b v w →
      Edge τ (app M N) (at (wire y) w c) (arg v (at (wire y) b c)) 0
  in_body : {M : Tree} {s s' : Spot} {w : ℕ} → Edge τ M s s' w → Edge τ (lam M) (body s) (body s') w
  in_fun : {M N : Tree} {s s' : Spot} {w : ℕ} → Edge τ M s s' w →
      Edge τ (app M N) (fun s) (fun s') w
  in_arg : {M N : Tree} {v : Level} {s s' : Spot} {w : ℕ} → Edge τ N s s' w →
      Edge τ (app M N) (arg v s) (arg v s') w

-- A trail: edges one after another, each taken either way round, of this weight in all.
pub data Trail {V : Type 0} (E : V → V → ℕ → Type 0) : V → V → ℕ → Type 0 where
  here : {s : V} → Trail E s s 0
  on : {s s' z : V} {w n m : ℕ} → E s s' w → Trail E s' z n → m ≡ w + n → Trail E s z m
  back : {s s' z : V} {w n m : ℕ} → E s' s w → Trail E s' z n → m ≡ w + n → Trail E s z m

-- a trail of weight n from one spot of a term to another one
abbrev pub Leads : Translation → Tree → Spot → Spot → ℕ → Type 0
Leads τ t e x n = Trail (Edge τ t) e x n × (e ≢ x)

-- ---- a whole term and its net

-- the place of a free port: free port 0 is the root, and free port f + 1 the wire of free name f
abbrev pub place : ℕ → Place
place zero = root
place (suc f) = wire (name f)

-- how much a crossing of such a node adds to the weight
abbrev pub weight_of : Kind → ℕ
weight_of kind.App = 1
weight_of kind.Lam = 0
weight_of kind.Fan = 0
weight_of kind.Croissant = 0
weight_of kind.Bracket = 0
weight_of kind.Eraser = 0

-- how many application nodes a path crosses
abbrev pub applications : {A : Type 0} {N : NamedNet A} {p : NamedPort A} {c : Context} {q : ℕ}
    {d : Context} → Path N p c q d → ℕ
applications (ends l) = 0
applications (goes {k = k} l h x r) = weight_of k + applications r
