-- From a term's spots to those of another one, edge by edge: what a step has to give.
use Rattle.std.proofs.Common.{◌≡◌, ℕ, ◌+◌, ◌≤◌, Bool, true, refl, sym, ◌∙◌, subst, arith, suc, ◌⊎◌, inl, inr}
use Rattle.std.proofs.lemmas.Bool.{or_left, or_right}
use Rattle.ol_law_meaning.specs.Contraction.{Tree, lam, app, Level, o, star, Context, Wire, bound, under, occurs, left}
use Rattle.ol_law_meaning.specs.Contraction.{right, Place, root, wire, Spot, at, body, fun, arg, Edge, lam_root}
use Rattle.ol_law_meaning.specs.Contraction.{lam_own, lam_wire, app_root, app_arg, app_left, app_right, in_body, in_fun}
use Rattle.ol_law_meaning.specs.Contraction.{in_arg, Trail, here, on, back, IsRight}
use Rattle.ol_law_meaning.specs.Steps.{SameBelow, below_o, below_star, below_wire, SameBefore}
use Rattle.ol_law_meaning.specs.Steps.{before_root, before_left, before_right}
use Rattle.ol_law_meaning.proofs.Trails.{tr_trans, one, one_back, tr_body, tr_fun}
use Rattle.ol_law_meaning.proofs.Addresses.{left_one, right_one, sides_apart}
use Rattle.ol_term.specs.declared.translations.Translation.{Translation}

-- the port is one of the term's
abbrev pub Has : Place → Tree → Type 0
Has root t = Unit {0}
Has (wire y) t = occurs y t ≡ true

-- what follows an edge; of no more weight where that is asked for
pub record Next (τ : Translation) (t' : Tree) (R : Spot → Spot → Type 0) (b : Bool) (s z : Spot) (n : ℕ) : Type 0 where
  pub spot : Spot
  pub rel : R s spot
  pub weight : ℕ
  pub few : b ≡ true → weight ≤ n
  pub trail : Trail (Edge τ t') z spot weight

-- the way out
pub record Out (τ : Translation) (t' : Tree) (S : Place → Level → Level → Type 0) (b : Bool)
    (p : Place) (v : Level) (c : Context) (z : Spot) : Type 0 where
  pub level : Level
  pub same : S p v level
  pub weight : ℕ
  pub few : b ≡ true → weight ≤ 0
  pub trail : Trail (Edge τ t') z (at p level c) weight

pub record Way (τ : Translation) (t t' : Tree) (S : Place → Level → Level → Type 0) (b : Bool) : Type 1 where
  pub R : Spot → Spot → Type 0
  pub start : (p : Place) (v v' : Level) (c : Context) → S p v v' → R (at p v c) (at p v' c)
  pub go : (s s' z : Spot) (n : ℕ) → Edge τ t s s' n → R s z → Next τ t' R b s' z n
  pub come : (s s' z : Spot) (n : ℕ) → Edge τ t s' s n → R s z → Next τ t' R b s' z n
  pub out : (p : Place) (v : Level) (c : Context) (z : Spot) → R (at p v c) z → Has p t → Out τ t' S b p v c z
  pub old : (y : Wire) (a a' : Level) → S (wire y) a a' → occurs y t ≡ true
  pub new : (y : Wire) (a a' : Level) → S (wire y) a a' → occurs y t' ≡ true

module _ {τ : Translation} where
  -- a trail is followed
  pub follow : {t t' : Tree} {S : Place → Level → Level → Type 0} {b : Bool}
      (w : Way τ t t' S b) {s s' z : Spot} {n : ℕ} → Trail (Edge τ t) s s' n → w.R s z → Next τ t' w.R b s' z n
  follow w {z = z} here r = record { spot = z; rel = r; weight = 0; few = λ e. omega arith; trail = here }
  follow w {z = z} (on {s = s} {s' = s1} {w = m} e t h) r =
      let a = w.go s s1 z m e r in
      let k = follow w t a.rel in
      record {
        spot = k.spot;
        rel = k.rel;
        weight = a.weight + k.weight;
        few = λ e. (let x = a.few e in let y = k.few e in omega arith);
        trail = tr_trans a.trail k.trail refl;
      }
  follow w {z = z} (back {s = s} {s' = s1} {w = m} e t h) r =
      let a = w.come s s1 z m e r in
      let k = follow w t a.rel in
      record {
        spot = k.spot;
        rel = k.rel;
        weight = a.weight + k.weight;
        few = λ e. (let x = a.few e in let y = k.few e in omega arith);
        trail = tr_trans a.trail k.trail refl;
      }

  -- with another name for the interface
  pub renamed : {t t' : Tree} {S S' : Place → Level → Level → Type 0} {b : Bool} →
      ((p : Place) (v v' : Level) → S p v v' → S' p v v') →
      ((p : Place) (v v' : Level) → S' p v v' → S p v v') → Way τ t t' S b → Way τ t t' S' b
  renamed f g w = record {
    R = w.R;
    start = λ p v v' c r. w.start p v v' c (g p v v' r);
    go = w.go;
    come = w.come;
    out = λ p v c z r h. (let k = w.out p v c z r h in
        record { level = k.level; same = f p v k.level k.same; weight = k.weight; few = k.few; trail = k.trail });
    old = λ y a a' r. w.old y a a' (g (wire y) a a' r);
    new = λ y a a' r. w.new y a a' (g (wire y) a a' r);
  }

-- ---- under an abstraction

pub data Below (R : Spot → Spot → Type 0) (S : Place → Level → Level → Type 0) : Spot → Spot → Type 0 where
  parts : {s z : Spot} → R s z → Below R S (body s) (body z)
  sides : {p : Place} {v v' : Level} {c : Context} → SameBelow S p v v' → Below R S (at p v c) (at p v' c)

module _ {τ : Translation} (M M' : Tree) (S : Place → Level → Level → Type 0) (b : Bool) (w : Way τ M M' S b) where
  below_go : {s s' z : Spot} {n : ℕ} → Edge τ (lam M) s s' n → Below w.R S s z → Next τ (lam M') (Below w.R S) b s' z n
  below_go (lam_root {v = v} {c = c}) (sides (below_o {v' = v'} r)) = record {
    spot = body
        (at root v' c);
    rel = parts (w.start root v v' c r);
    weight = 0;
    few = λ e. omega arith;
    trail = one lam_root;
  }
  below_go (lam_own {a = a} {c = c} m) (sides (below_star {a' = a'} r)) =
      record {
        spot = body (at (wire (bound 0)) a' c);
        rel = parts (w.start (wire (bound 0)) a a' c r);
        weight = 0;
        few = λ e. omega arith;
        trail = one (lam_own (w.new (bound 0) a a' r));
      }
  below_go (lam_wire {y = y} {z = u} {a = a} {c = c} e m) (sides {v' = l} (below_wire r)) =
      record {
        spot = body (at (wire (under y)) l c);
        rel = parts (subst (λ u. w.R (at (wire u) a c) (at (wire (under y)) l c)) (sym e)
            (w.start (wire (under y)) a l c r));
        weight = 0;
        few = λ e. omega arith;
        trail = one (lam_wire refl (w.new (under y) a l r));
      }
  below_go (in_body {s = s} {s' = s'} {w = n} e) (parts {z = z} r) = let k = w.go s s' z n e r in
      record { spot = body k.spot; rel = parts k.rel; weight = k.weight; few = k.few; trail = tr_body k.trail }

  below_come : {s s' z : Spot} {n : ℕ} → Edge τ (lam M) s' s n → Below w.R S s z →
      Next τ (lam M') (Below w.R S) b s' z n
  below_come (lam_root {v = v} {c = c}) (parts {z = z} r) =
      let k = w.out root v c z r tt in record {
        spot = at root (o k.level) c;
        rel = sides (below_o k.same);
        weight = k.weight + 0;
        few = λ e. (let x = k.few e in omega arith);
        trail = tr_trans (tr_body k.trail) (one_back lam_root) refl;
      }
  below_come (lam_own {a = a} {c = c} m) (parts {z = z} r) =
      let k = w.out (wire (bound 0)) a c z r m in
      record {
        spot = at root (star k.level) c;
        rel = sides (below_star k.same);
        weight = k.weight + 0;
        few = λ e. (let x = k.few e in omega arith);
        trail = tr_trans (tr_body k.trail) (one_back (lam_own (w.new (bound 0) a k.level k.same))) refl;
      }
  below_come (lam_wire {y = y} {z = u} {a = a} {c = c} e m) (parts {z = z} r) =
      let k = w.out (wire (under y)) a c z (subst (λ u. w.R (at (wire u) a c) z) e r)
      (subst (λ u. occurs u M ≡ true) e m) in
      record {
        spot = at (wire y) k.level c;
        rel = sides (below_wire k.same);
        weight = k.weight + 0;
        few = λ e. (let x = k.few e in omega arith);
        trail = tr_trans (tr_body k.trail) (one_back (lam_wire refl (w.new (under y) a k.level k.same))) refl;
      }
  below_come (in_body {s = s'} {s' = s} {w = n} e)
      (parts {z = z} r) = let k = w.come s s' z n e r in
      record { spot = body k.spot; rel = parts k.rel; weight = k.weight; few = k.few; trail = tr_body k.trail }

  below_out : {p : Place} {v : Level} {c : Context} {z : Spot} → Below w.R S (at p v c) z →
      Out τ (lam M') (SameBelow S) b p v c z
  below_out (sides {v' = v'} r) = record { level = v'; same = r; weight = 0; few = λ e. omega arith; trail = here }

  below_old : {y : Wire} {a a' : Level} → SameBelow S (wire y) a a' → occurs y (lam M) ≡ true
  below_old {y} {a} {a'} (below_wire r) = w.old (under y) a a' r

  below_new : {y : Wire} {a a' : Level} → SameBelow S (wire y) a a' → occurs y (lam M') ≡ true
  below_new {y} {a} {a'} (below_wire r) = w.new (under y) a a' r

  pub way_below : Way τ (lam M) (lam M') (SameBelow S) b
  way_below = record {
    R = Below w.R S;
    start = λ p v v' c r. sides r;
    go = λ s s' z n e r. below_go e r;
    come = λ s s' z n e r. below_come e r;
    out = λ p v c z r h. below_out r;
    old = λ y a a' r. below_old r;
    new = λ y a a' r. below_new r;
  }

  -- its spots
  pub below_is : {s z : Spot} → way_below.R s z → Below w.R S s z
  unfolding way_below
  below_is r = r

  pub is_below : {s z : Spot} → Below w.R S s z → way_below.R s z
  unfolding way_below
  is_below r = r

-- ---- before an argument

pub data Before (R : Spot → Spot → Type 0) (S : Place → Level → Level → Type 0) : Spot → Spot → Type 0 where
  funs : {s z : Spot} → R s z → Before R S (fun s) (fun z)
  args : {v : Level} {s : Spot} → Before R S (arg v s) (arg v s)
  edges : {p : Place} {v v' : Level} {c : Context} → S p v v' → Before R S (at p v c) (at p v' c)

module _ {τ : Translation} (R R' P : Tree) (S : Place → Level → Level → Type 0) (b : Bool)
    (w : Way τ R R' S b) (is : (v v' : Level) → S root v v' → v ≡ v') (keeps : (v : Level) → S root v v) where
  abbrev T : Place → Level → Level → Type 0
  T = SameBefore τ R R' P S

  abbrev Q : Spot → Spot → Type 0
  Q = Before w.R T

  before_go : {s s' z : Spot} {n : ℕ} → Edge τ (app R P) s s' n → Q s z → Next τ (app R' P) Q b s' z n
  before_go (app_root {v = v} {c = c})
      (edges before_root) = record {
        spot = fun (at root (o v) c);
        rel = funs (w.start root (o v) (o v) c (keeps (o v)));
        weight = 1;
        few = λ e. omega arith;
        trail = one app_root;
      }
  before_go (app_arg {v = v} {u = u} {c = c} {d = d} e) (funs {z = z} r) =
      let k = w.out root (star v) c z r tt in
      let q : star v ≡ k.level = is (star v) k.level k.same in
      let t : Trail (Edge τ (app R' P)) (fun z) (fun (at root (star v) c)) k.weight = subst
      (λ l. Trail (Edge τ (app R' P)) (fun z) (fun (at root l c)) k.weight) (sym q) (tr_fun k.trail) in
      record {
        spot = arg v (at root u d);
        rel = args;
        weight = k.weight + 1;
        few = λ e. (let x = k.few e in omega arith);
        trail = tr_trans t (one (app_arg e)) refl;
      }
  before_go (app_left {y = y} {a = a} {c = c} m e) (edges (before_left {a = a1} {a' = a'} e1 e2 r)) =
      let q : a1 ≡ a = left_one P y a1 a (sym e1 ∙ e) in
      let r' = subst (λ a. S (wire y) a a') q r in
      record {
        spot = fun (at (wire y) a' c);
        rel = funs (w.start (wire y) a a' c r');
        weight = 0;
        few = λ e. omega arith;
        trail = one (app_left (w.new y a a' r') e2);
      }
  before_go (app_left {y = y} {a = a} m e) (edges (before_right b1 v1 k e1 e2)) = absurd
      (sides_apart R P y a b1 v1 m k e e1)
  before_go (app_right {y = y} {b = b1} {v = v} m e)
      (edges (before_left {a = a} {a' = a'} e1 e2 r)) = absurd (sides_apart R P y a b1 v (w.old y a a' r) m e1 e)
  before_go (app_right {y = y} {b = b1} {v = v} {c = c} m e) (edges {v' = l} (before_right b2 v2 k e1 e2)) =
      let q = right_one e1 e refl in
      let e3 : IsRight τ R' P y b1 v l = subst (λ v. IsRight τ R' P y b1 v l) q.1
      (subst (λ b. IsRight τ R' P y b v2 l) q.0 e2) in
      record {
        spot = arg v (at (wire y) b1 c);
        rel = args;
        weight = 0;
        few = λ e. omega arith;
        trail = one (app_right m e3);
      }
  before_go (in_fun {s = s} {s' = s'} {w = n} e) (funs {z = z} r) = let k = w.go s s' z n e r in
      record { spot = fun k.spot; rel = funs k.rel; weight = k.weight; few = k.few; trail = tr_fun k.trail }
  before_go (in_arg {v = v} {s' = s'} {w = n} e) args = record {
    spot = arg v s';
    rel = args;
    weight = n;
    few = λ e. omega arith;
    trail = one (in_arg e);
  }

  before_come : {s s' z : Spot} {n : ℕ} → Edge τ (app R P) s' s n → Q s z → Next τ (app R' P) Q b s' z n
  before_come (app_root {v = v} {c = c}) (funs {z = z} r) =
      let k = w.out root (o v) c z r tt in
      let q : o v ≡ k.level = is (o v) k.level k.same in
      let t : Trail (Edge τ (app R' P)) (fun z) (fun (at root (o v) c)) k.weight = subst
      (λ l. Trail (Edge τ (app R' P)) (fun z) (fun (at root l c)) k.weight) (sym q) (tr_fun k.trail) in
      record {
        spot = at root v c;
        rel = edges before_root;
        weight = k.weight + 1;
        few = λ e. (let x = k.few e in omega arith);
        trail = tr_trans t (one_back app_root) refl;
      }
  before_come (app_arg {v = v} {u = u} {c = c} {d = d} e) args = record {
    spot = fun
        (at root (star v) c);
    rel = funs (w.start root (star v) (star v) c (keeps (star v)));
    weight = 1;
    few = λ e. omega arith;
    trail = one_back (app_arg e);
  }
  before_come (app_left {y = y} {a = a} {c = c} m e) (funs {z = z} r) =
      let k = w.out (wire y) a c z r m in
      record {
        spot = at (wire y) (left P y k.level) c;
        rel = edges (before_left e refl k.same);
        weight = k.weight + 0;
        few = λ e. (let x = k.few e in omega arith);
        trail = tr_trans (tr_fun k.trail) (one_back (app_left (w.new y a k.level k.same) refl)) refl;
      }
  before_come (app_right {y = y} {b = b1} {v = v} {c = c} m e) args =
      let f : IsRight τ R' P y b1 v (right τ R' P y b1 v) = record { level = e.level; is = refl } in
      record {
        spot = at (wire y) (right τ R' P y b1 v) c;
        rel = edges (before_right b1 v m e f);
        weight = 0;
        few = λ e. omega arith;
        trail = one_back (app_right m f);
      }
  before_come (in_fun {s = s'} {s' = s} {w = n} e) (funs {z = z} r) = let k = w.come s s' z n e r in
      record { spot = fun k.spot; rel = funs k.rel; weight = k.weight; few = k.few; trail = tr_fun k.trail }
  before_come (in_arg {v = v} {s = s'} {w = n} e) args = record {
    spot = arg v s';
    rel = args;
    weight = n;
    few = λ e. omega arith;
    trail = one_back (in_arg e);
  }

  before_out : {p : Place} {v : Level} {c : Context} {z : Spot} → Q (at p v c) z → Out τ (app R' P) T b p v c z
  before_out (edges {v' = v'} r) = record { level = v'; same = r; weight = 0; few = λ e. omega arith; trail = here }

  before_old : {y : Wire} {a a' : Level} → T (wire y) a a' → occurs y (app R P) ≡ true
  before_old {y} (before_left {a = a} {a' = a'} e1 e2 r) = or_left (occurs y R) (occurs y P) (w.old y a a' r)
  before_old {y} (before_right b1 v k e1 e2) = or_right (occurs y R) (occurs y P) k

  before_new : {y : Wire} {a a' : Level} → T (wire y) a a' → occurs y (app R' P) ≡ true
  before_new {y} (before_left {a = a} {a' = a'} e1 e2 r) = or_left (occurs y R') (occurs y P) (w.new y a a' r)
  before_new {y} (before_right b1 v k e1 e2) = or_right (occurs y R') (occurs y P) k

  pub way_before : Way τ (app R P) (app R' P) T b
  way_before = record {
    R = Q;
    start = λ p v v' c r. edges r;
    go = λ s s' z n e r. before_go e r;
    come = λ s s' z n e r. before_come e r;
    out = λ p v c z r h. before_out r;
    old = λ y a a' r. before_old r;
    new = λ y a a' r. before_new r;
  }

  -- its spots
  pub before_is : {s z : Spot} → way_before.R s z → Before w.R (SameBefore τ R R' P S) s z
  unfolding way_before
  before_is r = r

  pub is_before : {s z : Spot} → Before w.R (SameBefore τ R R' P S) s z → way_before.R s z
  unfolding way_before
  is_before r = r

-- ---- strictness: a trail from the chain of spots down to the redex either stays in it, or gets lighter

pub record Gain (τ : Translation) (t' : Tree) (R : Spot → Spot → Type 0) (Pre : Spot → Type 0)
    (s z : Spot) (n : ℕ) : Type 0 where
  pub next : Next τ t' R true s z n
  pub gain : Pre s ⊎ (suc next.weight ≤ n)

pub record Strict (τ : Translation) (t t' : Tree) (S : Place → Level → Level → Type 0)
    (w : Way τ t t' S true) (v : Level) (c : Context) : Type 1 where
  pub Pre : Spot → Type 0
  pub first : Pre (at root v c)
  pub only : (p : Place) (u : Level) (d : Context) → Pre (at p u d) → at p u d ≡ at root v c
  pub pre_go : (s s' z : Spot) (n : ℕ) → Edge τ t s s' n → w.R s z → Pre s → Gain τ t' w.R Pre s' z n
  pub pre_come : (s s' z : Spot) (n : ℕ) → Edge τ t s' s n → w.R s z → Pre s → Gain τ t' w.R Pre s' z n

module _ {τ : Translation} (t t' : Tree) (S : Place → Level → Level → Type 0)
    (w : Way τ t t' S true) (v : Level) (c : Context) (k : Strict τ t t' S w v c) where
  then_rest : {s s' z : Spot} {n m : ℕ} → Gain τ t' w.R k.Pre s z m → Trail (Edge τ t) s s' n →
      ((z1 : Spot) → w.R s z1 → k.Pre s → Gain τ t' w.R k.Pre s' z1 n) → Gain τ t' w.R k.Pre s' z (m + n)
  then_rest {s = s} {s' = s'} {z = z} {n = n} {m = m} a t f = by (a.gain)
    where
      by : k.Pre s ⊎ (suc a.next.weight ≤ m) → Gain τ t' w.R k.Pre s' z (m + n)
      by (inl p) =
          let b = f a.next.spot a.next.rel p in
          let x = a.next.few refl in
          let y = b.next.few refl in
          record {
            next = record {
              spot = b.next.spot;
              rel = b.next.rel;
              weight = a.next.weight + b.next.weight;
              few = λ e. omega arith;
              trail = tr_trans a.next.trail b.next.trail refl;
            };
            gain = more b.gain;
          }
        where
          more : k.Pre s' ⊎ (suc (f a.next.spot a.next.rel p).next.weight ≤ n) →
              k.Pre s' ⊎ (suc (a.next.weight + (f a.next.spot a.next.rel p).next.weight) ≤ m + n)
          more (inl p) = inl p
          more (inr h) = inr (let x = a.next.few refl in omega arith)
      by (inr h) =
          let b = follow w t a.next.rel in
          let y = b.few refl in
          record {
            next = record {
              spot = b.spot;
              rel = b.rel;
              weight = a.next.weight + b.weight;
              few = λ e. omega arith;
              trail = tr_trans a.next.trail b.trail refl;
            };
            gain = inr (omega arith);
          }

  pub follow_strict : {s s' z : Spot} {n : ℕ} → Trail (Edge τ t) s s' n → w.R s z → k.Pre s → Gain τ t' w.R k.Pre s' z n
  follow_strict {z = z} here r p = record {
    next = record {
      spot = z;
      rel = r;
      weight = 0;
      few = λ e. omega arith;
      trail = here;
    };
    gain = inl p;
  }
  follow_strict {s' = s'} {z = z} (on {s = s} {s' = s1} {w = m} e t h) r p = subst
      (λ n. Gain τ t' w.R k.Pre s' z n) (sym h)
      (then_rest (k.pre_go s s1 z m e r p) t (λ z1 r1 p1. follow_strict t r1 p1))
  follow_strict {s' = s'} {z = z} (back {s = s} {s' = s1} {w = m} e t h) r p = subst
      (λ n. Gain τ t' w.R k.Pre s' z n) (sym h)
      (then_rest (k.pre_come s s1 z m e r p) t (λ z1 r1 p1. follow_strict t r1 p1))

module _ {τ : Translation} (M M' : Tree) (S : Place → Level → Level → Type 0)
    (w : Way τ M M' S true) (v : Level) (c : Context) (k : Strict τ M M' S w v c) where
  abbrev BelowQ : Spot → Spot → Type 0
  BelowQ = Below w.R S

  abbrev Chain : Spot → Type 0
  Chain s = (s ≡ at root (o v) c) ⊎ ((s1 : Spot) × (s ≡ body s1) × k.Pre s1)

  abbrev BelowW : Way τ (lam M) (lam M') (SameBelow S) true
  BelowW = way_below M M' S true w

  only_o : {p : Place} {u : Level} {d : Context} → Chain (at p u d) → at p u d ≡ at root (o v) c
  only_o (inl e) = e
  only_o (inr x) = absurd (let e = x.1 in cc)

  in_chain : {s : Spot} → Chain (body s) → k.Pre s
  in_chain (inl e) = absurd (cc)
  in_chain {s} (inr x) = let q : x.0 ≡ s = (let e = x.1 in cc) in subst k.Pre q x.2

  in_parts : {s z : Spot} {n : ℕ} → Gain τ M' w.R k.Pre s z n → Gain τ (lam M') BelowQ Chain (body s) (body z) n
  in_parts {s} {z} {n} g =
      let a = g.next in record {
        next = record {
          spot = body a.spot;
          rel = parts a.rel;
          weight = a.weight;
          few = a.few;
          trail = tr_body a.trail;
        };
        gain = up g.gain;
      }
    where
      up : k.Pre s ⊎ (suc g.next.weight ≤ n) → Chain (body s) ⊎ (suc g.next.weight ≤ n)
      up (inl p) = inl (inr (s, refl, p))
      up (inr h) = inr h

  o_go : {s s' z : Spot} {n : ℕ} → Edge τ (lam M) s s' n → BelowQ s z → Chain s → Gain τ (lam M') BelowQ Chain s' z n
  unfolding way_below
  o_go {s} {s'} {z} {n} (lam_root {v = v1} {c = c1}) r p =
      let e : at root (o v1) c1 ≡ at root (o v) c = only_o p in
      let q : at root v c ≡ at root v1 c1 = cc in
      record { next = BelowW.go s s' z n lam_root r; gain = inl (inr (at root v1 c1, refl, subst k.Pre q k.first)) }
  o_go (lam_own m) r p = absurd (let e = only_o p in cc)
  o_go (lam_wire e m) r p = absurd (let e = only_o p in cc)
  o_go (in_body {s = s} {s' = s'} {w = n} e) (parts {z = z} r) p = in_parts (k.pre_go s s' z n e r (in_chain p))

  o_come : {s s' z : Spot} {n : ℕ} → Edge τ (lam M) s' s n → BelowQ s z → Chain s → Gain τ (lam M') BelowQ Chain s' z n
  unfolding way_below
  o_come {s} {s'} {z} {n} (lam_root {v = v1} {c = c1}) r p =
      let e : at root v1 c1 ≡ at root v c = k.only root v1 c1 (in_chain p) in
      let q : at root (o v1) c1 ≡ at root (o v) c = cc in
      record { next = BelowW.come s s' z n lam_root r; gain = inl (inl q) }
  o_come (lam_own {a = a} {c = c1} m) r p = absurd (let e = k.only (wire (bound 0)) a c1 (in_chain p) in cc)
  o_come (lam_wire {z = u} {a = a} {c = c1} e m) r p = absurd (let e = k.only (wire u) a c1 (in_chain p) in cc)
  o_come (in_body {s = s'} {s' = s} {w = n} e) (parts {z = z} r) p = in_parts (k.pre_come s s' z n e r (in_chain p))

  pub strict_below : Strict τ (lam M) (lam M') (SameBelow S) BelowW (o v) c
  unfolding way_below
  strict_below = record {
    Pre = Chain;
    first = inl refl;
    only = λ p u d h. only_o h;
    pre_go = λ s s' z n e r p. o_go e r p;
    pre_come = λ s s' z n e r p. o_come e r p;
  }

module _ {τ : Translation} (R R' P : Tree) (S : Place → Level → Level → Type 0)
    (w : Way τ R R' S true) (is : (v v' : Level) → S root v v' → v ≡ v')
    (keeps : (v : Level) → S root v v) (v : Level) (c : Context) (k : Strict τ R R' S w (o v) c) where
  abbrev Spine : Spot → Type 0
  Spine s = (s ≡ at root v c) ⊎ ((s1 : Spot) × (s ≡ fun s1) × k.Pre s1)

  abbrev BeforeW : Way τ (app R P) (app R' P) (SameBefore τ R R' P S) true
  BeforeW = way_before R R' P S true w is keeps

  only_v : {p : Place} {u : Level} {d : Context} → Spine (at p u d) → at p u d ≡ at root v c
  only_v (inl e) = e
  only_v (inr x) = absurd (let e = x.1 in cc)

  in_spine : {s : Spot} → Spine (fun s) → k.Pre s
  in_spine (inl e) = absurd (cc)
  in_spine {s} (inr x) = let q : x.0 ≡ s = (let e = x.1 in cc) in subst k.Pre q x.2

  no_arg : {u : Level} {s : Spot} → Spine (arg u s) → ⊥
  no_arg (inl e) = absurd (cc)
  no_arg (inr x) = absurd (let e = x.1 in cc)

  in_funs : {s z : Spot} {n : ℕ} → Gain τ R' w.R k.Pre s z n →
      Gain τ (app R' P) (Before w.R (SameBefore τ R R' P S)) Spine (fun s) (fun z) n
  in_funs {s} {z} {n} g =
      let a = g.next in record {
        next = record {
          spot = fun a.spot;
          rel = funs a.rel;
          weight = a.weight;
          few = a.few;
          trail = tr_fun a.trail;
        };
        gain = up g.gain;
      }
    where
      up : k.Pre s ⊎ (suc g.next.weight ≤ n) → Spine (fun s) ⊎ (suc g.next.weight ≤ n)
      up (inl p) = inl (inr (s, refl, p))
      up (inr h) = inr h

  v_go : {s s' z : Spot} {n : ℕ} → Edge τ (app R P) s s' n →
      (Before w.R (SameBefore τ R R' P S)) s z → Spine s →
      Gain τ (app R' P) (Before w.R (SameBefore τ R R' P S)) Spine s' z n
  unfolding way_before
  v_go {s} {s'} {z} {n} (app_root {v = v1} {c = c1}) r p =
      let e : at root v1 c1 ≡ at root v c = only_v p in
      let q : at root (o v) c ≡ at root (o v1) c1 = cc in
      record {
        next = BeforeW.go s s' z n app_root r;
        gain = inl (inr (at root (o v1) c1, refl, subst k.Pre q k.first));
      }
  v_go (app_arg {v = v1} {c = c1} e) r p = absurd (let q = k.only root (star v1) c1 (in_spine p) in cc)
  v_go (app_left m e) r p = absurd (let q = only_v p in cc)
  v_go (app_right m e) r p = absurd (let q = only_v p in cc)
  v_go (in_fun {s = s} {s' = s'} {w = n} e) (funs {z = z} r) p = in_funs (k.pre_go s s' z n e r (in_spine p))
  v_go (in_arg e) r p = absurd (no_arg p)

  v_come : {s s' z : Spot} {n : ℕ} → Edge τ (app R P) s' s n →
      (Before w.R (SameBefore τ R R' P S)) s z → Spine s →
      Gain τ (app R' P) (Before w.R (SameBefore τ R R' P S)) Spine s' z n
  unfolding way_before
  v_come {s} {s'} {z} {n} (app_root {v = v1} {c = c1}) r p =
      let e : at root (o v1) c1 ≡ at root (o v) c = k.only root (o v1) c1 (in_spine p) in
      let q : at root v1 c1 ≡ at root v c = cc in
      record { next = BeforeW.come s s' z n app_root r; gain = inl (inl q) }
  v_come (app_arg e) r p = absurd (no_arg p)
  v_come (app_left {y = y} {a = a} {c = c1} m e) r p = absurd (let q = k.only (wire y) a c1 (in_spine p) in cc)
  v_come (app_right m e) r p = absurd (no_arg p)
  v_come (in_fun {s = s'} {s' = s} {w = n} e) (funs {z = z} r) p = in_funs (k.pre_come s s' z n e r (in_spine p))
  v_come (in_arg e) r p = absurd (no_arg p)

  pub strict_before : Strict τ (app R P) (app R' P) (SameBefore τ R R' P S) BeforeW v c
  unfolding way_before
  strict_before = record {
    Pre = Spine;
    first = inl refl;
    only = λ p u d h. only_v h;
    pre_go = λ s s' z n e r p. v_go e r p;
    pre_come = λ s s' z n e r p. v_come e r p;
  }
