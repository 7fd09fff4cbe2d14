-- What becomes of a term's spots when a term is put in for a variable: a redex, its cut and the new
-- term; and head steps.
use Rattle.std.specs.Prelude.{◌≡◌, ℕ, zero, suc, ◌+◌, true, false, Option, Some, None}
pub use Rattle.ol_term.specs.declared.translations.Translation.{Translation}
pub use Rattle.ol_term.specs.Trees.{Tree, var, free, lam, app}
pub use Rattle.ol_context.specs.Contexts.{Level, empty, o, star, pair, Context, cons, tail}
pub use Rattle.ol_law_meaning.specs.Spots.{Wire, bound, name, under, occurs, left, is_bare, IsLevelOf, fun, arg}
pub use Rattle.ol_law_meaning.specs.Spots.{boxed, right, IsRight, Place, root, wire, Spot, at, body}
pub use Rattle.ol_law_meaning.specs.Spots.{Edge, var_wire, free_wire, lam_root, lam_own, lam_wire}
pub use Rattle.ol_law_meaning.specs.Spots.{app_root, app_arg, app_left, app_right}
pub use Rattle.ol_beta.specs.Leftmost.{is_abstraction}
pub use Rattle.ol_law_meaning.specs.Spots.{in_body, in_fun, in_arg, Trail, here, on, back, Leads}

-- ---- a term under more abstractions than before

-- a variable from d on is bound outside of the term, and goes up by i
abbrev pub up_from : ℕ → ℕ → ℕ → ℕ
up_from zero i y = i + y
up_from (suc d) i zero = zero
up_from (suc d) i (suc y) = suc (up_from d i y)

abbrev pub lift : ℕ → ℕ → Tree → Tree
lift d i (var y) = var (up_from d i y)
lift d i (free f) = free f
lift d i (lam t) = lam (lift (suc d) i t)
lift d i (app t u) = app (lift d i t) (lift d i u)

-- its wires
abbrev pub lifted_wire : ℕ → ℕ → Wire → Wire
lifted_wire d i (bound y) = bound (up_from d i y)
lifted_wire d i (name f) = name f

abbrev pub lifted_place : ℕ → ℕ → Place → Place
lifted_place d i root = root
lifted_place d i (wire y) = wire (lifted_wire d i y)

-- and its spots
abbrev pub lifted : ℕ → ℕ → Spot → Spot
lifted d i (at p v c) = at (lifted_place d i p) v c
lifted d i (body s) = body (lifted (suc d) i s)
lifted d i (fun s) = fun (lifted d i s)
lifted d i (arg v s) = arg v (lifted d i s)

-- ---- a term N put in for variable i of M, whose abstraction goes

abbrev pub suc_of : Option ℕ → Option ℕ
suc_of None = None
suc_of (Some y) = Some (suc y)

-- how variable y is counted once variable i is gone; None: it is variable i
abbrev pub without : ℕ → ℕ → Option ℕ
without zero zero = None
without zero (suc y) = Some y
without (suc i) zero = Some zero
without (suc i) (suc y) = suc_of (without i y)

abbrev pub wire_of : Option ℕ → Option Wire
wire_of None = None
wire_of (Some y) = Some (bound y)

-- the same of a wire
abbrev pub wire_without : ℕ → Wire → Option Wire
wire_without i (bound y) = wire_of (without i y)
wire_without i (name f) = Some (name f)

abbrev pub put : ℕ → Tree → Option ℕ → Tree
put i N None = lift 0 i N
put i N (Some y) = var y

-- M with N in the place of variable i: below, M[N]. It is `substituted` of `ol_beta`, said as the
-- laws of spots need it (law `head_is_leftmost`).
abbrev pub subst_for : ℕ → Tree → Tree → Tree
subst_for i N (var y) = put i N (without i y)
subst_for i N (free f) = free f
subst_for i N (lam t) = lam (subst_for (suc i) N t)
subst_for i N (app t u) = app (subst_for i N t) (subst_for i N u)

-- ---- the cut: M and one N beside it, whose root is joined to the wire of variable i of M

-- A spot of M; or a spot of N, with level 0 of the wire of variable i where it leaves M: it tells for which occurrence N
-- stands.
pub data Cut : Type 0 where
  inM : Spot → Cut
  inN : Level → Spot → Cut

pub data CutEdge (τ : Translation) (N M : Tree) (i : ℕ) : Cut → Cut → ℕ → Type 0 where
  of_m : {s s' : Spot} {w : ℕ} → Edge τ M s s' w → CutEdge τ N M i (inM s) (inM s') w
  of_n : {a : Level} {s s' : Spot} {w : ℕ} → Edge τ N s s' w →
      CutEdge τ N M i (inN a s) (inN a s') w
  joint : {x : Wire} {a u : Level} {c d : Context} →
      x ≡ bound i → occurs x M ≡ true → c ≡ cons u d →
      CutEdge τ N M i (inM (at (wire x) a c)) (inN a (at root u d)) 0

-- a wire of M with its level 0, or a wire of N with its level 0 after that of the wire of variable i where it leaves M
pub data Tag : Type 0 where
  ofM : Wire → Level → Tag
  ofN : Level → Wire → Level → Tag

-- Which wire of M[N], with which level 0, a wire of the cut is. An occurrence keeps the values of
-- the boxes round it; marks of fans, and what is packed, follow the new term.
pub data WireOf (τ : Translation) (N : Tree) : Tree → ℕ → Tag → Wire → Level → Type 0 where
  same : {M : Tree} {i : ℕ} {y z : Wire} {a : Level} →
      wire_without i y ≡ Some z → occurs z (lift 0 i N) ≡ false → occurs y M ≡ true →
      WireOf τ N M i (ofM y a) z a
  other : {i y z : ℕ} → without i y ≡ Some z →
      WireOf τ N (var y) i (ofM (bound y) empty) (bound z) empty
  named : {i f : ℕ} → WireOf τ N (free f) i (ofM (name f) empty) (name f) empty
  own : {i y : ℕ} {x z : Wire} {b : Level} →
      without i y ≡ None → occurs x N ≡ true → z ≡ lifted_wire 0 i x →
      WireOf τ N (var y) i (ofN empty x b) z b
  lam_m : {M : Tree} {i : ℕ} {y z : Wire} {a a' : Level} →
      WireOf τ N M (suc i) (ofM (under y) a) (under z) a' → WireOf τ N (lam M) i (ofM y a) z a'
  lam_n : {M : Tree} {i : ℕ} {x z : Wire} {w b a' : Level} →
      WireOf τ N M (suc i) (ofN w x b) (under z) a' → WireOf τ N (lam M) i (ofN w x b) z a'
  fun_m : {M1 M2 : Tree} {i : ℕ} {y z : Wire} {a a' w w' : Level} →
      WireOf τ N M1 i (ofM y a) z a' → w ≡ left M2 y a → w' ≡ left (subst_for i N M2) z a' →
      WireOf τ N (app M1 M2) i (ofM y w) z w'
  arg_m : {M1 M2 : Tree} {i : ℕ} {y z : Wire} {a a' w w' : Level} (v : Level) →
      WireOf τ N M2 i (ofM y a) z a' → IsRight τ M1 M2 y a v w →
      IsRight τ (subst_for i N M1) (subst_for i N M2) z a' v w' →
      WireOf τ N (app M1 M2) i (ofM y w) z w'
  fun_n : {M1 M2 : Tree} {i : ℕ} {x z : Wire} {u b a' w w' : Level} →
      WireOf τ N M1 i (ofN u x b) z a' → w ≡ left M2 (bound i) u →
      w' ≡ left (subst_for i N M2) z a' → WireOf τ N (app M1 M2) i (ofN w x b) z w'
  arg_n : {M1 M2 : Tree} {i : ℕ} {x z : Wire} {u b a' w w' : Level} (v : Level) →
      WireOf τ N M2 i (ofN u x b) z a' → IsRight τ M1 M2 (bound i) u v w →
      IsRight τ (subst_for i N M1) (subst_for i N M2) z a' v w' →
      WireOf τ N (app M1 M2) i (ofN w x b) z w'

-- Which spot of M[N] a spot of the cut is. Spots of M's parts and N's are those of the same parts
-- in M[N], and of N's copies. The
-- root of a copy holds the whole wire of variable i in M; and a wire of M[N] holds N's wire, at whatever occurrence.
pub data Held (τ : Translation) (N : Tree) : Tree → ℕ → Cut → Spot → Type 0 where
  at_root : {M : Tree} {i : ℕ} {v : Level} {c : Context} →
      Held τ N M i (inM (at root v c)) (at root v c)
  wire_m : {M : Tree} {i : ℕ} {y z : Wire} {a a' : Level} {c : Context} →
      WireOf τ N M i (ofM y a) z a' → Held τ N M i (inM (at (wire y) a c)) (at (wire z) a' c)
  wire_n : {M : Tree} {i : ℕ} {x z : Wire} {w b a' : Level} {c : Context} →
      WireOf τ N M i (ofN w x b) z a' → Held τ N M i (inN w (at (wire x) b c)) (at (wire z) a' c)
  x_spot : {i y : ℕ} {s z : Spot} → without i y ≡ None → z ≡ lifted 0 i s →
      Held τ N (var y) i (inN empty s) z
  x_wire : {i y : ℕ} {x : Wire} {u : Level} {c d : Context} →
      x ≡ bound i → without i y ≡ None → c ≡ cons u d →
      Held τ N (var y) i (inM (at (wire x) empty c)) (at root u d)
  p_body : {M : Tree} {i : ℕ} {s z : Spot} → Held τ N M (suc i) (inM s) z →
      Held τ N (lam M) i (inM (body s)) (body z)
  p_fun : {M1 M2 : Tree} {i : ℕ} {s z : Spot} → Held τ N M1 i (inM s) z →
      Held τ N (app M1 M2) i (inM (fun s)) (fun z)
  p_arg : {M1 M2 : Tree} {i : ℕ} {v : Level} {s z : Spot} →
      Held τ N M2 i (inM s) z → Held τ N (app M1 M2) i (inM (arg v s)) (arg v z)
  n_body : {M : Tree} {i : ℕ} {w : Level} {s z : Spot} → Held τ N M (suc i) (inN w s) z →
      Held τ N (lam M) i (inN w s) (body z)
  n_fun : {M1 M2 : Tree} {i : ℕ} {u w : Level} {s z : Spot} →
      Held τ N M1 i (inN u s) z → w ≡ left M2 (bound i) u → Held τ N (app M1 M2) i (inN w s) (fun z)
  n_arg : {M1 M2 : Tree} {i : ℕ} {u v w : Level} {s z : Spot} →
      Held τ N M2 i (inN u s) z → IsRight τ M1 M2 (bound i) u v w →
      Held τ N (app M1 M2) i (inN w s) (arg v z)
  i_body : {M : Tree} {i : ℕ} {x : Wire} {a : Level} {c : Context} {z : Spot} →
      x ≡ bound i → Held τ N M (suc i) (inM (at (wire (under x)) a c)) z →
      Held τ N (lam M) i (inM (at (wire x) a c)) (body z)
  i_fun : {M1 M2 : Tree} {i : ℕ} {x : Wire} {u w : Level} {c : Context} {z : Spot} →
      x ≡ bound i → Held τ N M1 i (inM (at (wire x) u c)) z → w ≡ left M2 x u →
      Held τ N (app M1 M2) i (inM (at (wire x) w c)) (fun z)
  i_arg : {M1 M2 : Tree} {i : ℕ} {x : Wire} {u v w : Level} {c : Context} {z : Spot} →
      x ≡ bound i → Held τ N M2 i (inM (at (wire x) u c)) z → IsRight τ M1 M2 x u v w →
      Held τ N (app M1 M2) i (inM (at (wire x) w c)) (arg v z)

-- ---- a redex

-- where the spot is at a wire of N, level 0 is one that this wire has
abbrev pub IsSpotOf : Translation → Tree → Spot → Type 0
IsSpotOf τ N (at root v c) = Unit {0}
IsSpotOf τ N (at (wire y) b c) = IsLevelOf τ N b
IsSpotOf τ N (body s) = Unit {0}
IsSpotOf τ N (fun s) = Unit {0}
IsSpotOf τ N (arg v s) = Unit {0}

-- Which spot of the cut of M with N at variable 0 a spot of the redex (lam M) N is: the two nodes
-- of the redex fall away. Spots of N are spoken of only where the variable occurs in M.
pub data Opens (τ : Translation) (N M : Tree) : Spot → Cut → Type 0 where
  in_m : {s : Spot} → Opens τ N M (fun (body s)) (inM s)
  in_n : {w : Level} {s : Spot} → occurs (bound 0) M ≡ true → IsSpotOf τ N s →
      Opens τ N M (arg w s) (inN w s)
  lam_top : {v : Level} {c : Context} → Opens τ N M (fun (at root (o v) c)) (inM (at root v c))
  lam_var : {w : Level} {c : Context} →
      occurs (bound 0) M ≡ true → Opens τ N M (fun (at root (star w) c))
      (inM (at (wire (bound 0)) w c))
  lam_side : {y z : Wire} {a : Level} {c : Context} →
      z ≡ under y → occurs z M ≡ true → Opens τ N M (fun (at (wire y) a c)) (inM (at (wire z) a c))
  top : {v : Level} {c : Context} → Opens τ N M (at root v c) (inM (at root v c))
  side_m : {y z : Wire} {a w : Level} {c : Context} →
      z ≡ under y → occurs z M ≡ true → w ≡ left N y a →
      Opens τ N M (at (wire y) w c) (inM (at (wire z) a c))
  side_n : {y : Wire} {b v w : Level} {c : Context} →
      occurs (bound 0) M ≡ true → occurs y N ≡ true → IsRight τ (lam M) N y b v w →
      Opens τ N M (at (wire y) w c) (inN v (at (wire y) b c))

-- A head step: beta at the redex under the outer abstractions and left of all arguments. It is
-- never made within a function that is an abstraction. It is contraction at a head address (law
-- `head_is_leftmost`), of which `HeadReduces` is made.
pub data HeadStep : Tree → Tree → Type 0 where
  beta : {M N : Tree} → HeadStep (app (lam M) N) (subst_for 0 N M)
  below : {M M' : Tree} → HeadStep M M' → HeadStep (lam M) (lam M')
  before : {R R' P : Tree} → is_abstraction R ≡ false → HeadStep R R' →
      HeadStep (app R P) (app R' P)
