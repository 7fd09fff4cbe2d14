-- What a walk over a net comes to within some number of crossings; and whether it crosses an application or an abstraction
-- on the way.
-- Used in Falling, Onward, Nodes, Bounding and Circling.
use Rattle.std.proofs.Common.{◌≡◌, ℕ, zero, suc, ◌+◌, ◌<◌, ◌≤◌, Bool, true, false, sym, ◌∙◌, subst, arith}
use Rattle.ol_context.specs.Contexts.{Context, change}
use Rattle.ol_context.specs.Paths.{Crosses}
use Rattle.ol_context.specs.Ways.{Way, start, on}
use Rattle.ol_net.specs.declared.parts.Kind.{Kind}
use Rattle.ol_net.specs.declared.parts.Kind.TheVariants as kind
use Rattle.ol_net.specs.Nets.{NamedNet, NamedPort, free, slot, HasNode, Linked, IsNet}
use Rattle.ol_net.specs.Parts.{arity}
use Rattle.ol_law_meaning.proofs.States.{Before}
use Rattle.ol_law_meaning.proofs.Turns.{Turn, turn_in, turn_out, turn_eraser}
use Rattle.ol_law_completeness.proofs.Lines.{marks}

-- Each walk that has left a node by this port, with this context, ends or comes to what Q says, after
-- fewer than n crossings, or no crossing, and crosses only nodes of kinds that G allows.
pub data Reach (N : NamedNet ℕ) (G : Kind → Type 0) (Q : NamedPort ℕ → Context → Type 0) : ℕ → NamedPort ℕ → Context → Type 0 where
  comes : {n : ℕ} {p : NamedPort ℕ} {c : Context} → Q p c → Reach N G Q n p c
  crosses : {n m : ℕ} {p : NamedPort ℕ} {c : Context} → m < n →
      ((x s i : ℕ) (K : Kind) → Linked N p (slot x s) → HasNode N x K i → G K) →
      ((x s i r : ℕ) (K : Kind) (e : Context) → Linked N p (slot x s) → HasNode N x K i → Crosses K i s c r e →
      Reach N G Q m (slot x r) e) → Reach N G Q n p c

-- neither an application nor an abstraction
abbrev pub Unmarked : Kind → Type 0
Unmarked K = marks K ≡ 0

abbrev pub Any : Kind → Type 0
Any K = Unit {0}

-- by nodes of sharing alone
abbrev pub Till : NamedNet ℕ → (NamedPort ℕ → Context → Type 0) → ℕ → NamedPort ℕ → Context → Type 0
Till N Q n p c = Reach N Unmarked Q n p c

-- by any nodes
abbrev pub Within : NamedNet ℕ → (NamedPort ℕ → Context → Type 0) → ℕ → NamedPort ℕ → Context → Type 0
Within N Q n p c = Reach N Any Q n p c

-- the way is up where a node is left by slot 0
abbrev pub is_up : ℕ → Bool
is_up zero = true
is_up (suc s) = false

-- The next node is an application or an abstraction, and after it nodes of sharing alone are crossed, till what Q says, by
-- whether it is crossed upwards.
pub record Marked (N : NamedNet ℕ) (Q : Bool → NamedPort ℕ → Context → Type 0) (m : ℕ) (p : NamedPort ℕ) (c : Context) : Type 0 where
  pub one : (x s i : ℕ) (K : Kind) → Linked N p (slot x s) → HasNode N x K i → marks K ≡ 1
  pub goes : (x s i r : ℕ) (K : Kind) (e : Context) → Linked N p (slot x s) → HasNode N x K i → Crosses K i s c r e →
      Till N (Q (is_up r)) m (slot x r) e

-- the first crossing of a walk, and n more
pub record First (N : NamedNet ℕ) (p : NamedPort ℕ) (c : Context) (n : ℕ) (q : NamedPort ℕ) (d : Context) : Type 0 where
  pub node : ℕ
  pub by : ℕ
  pub index : ℕ
  pub to : ℕ
  pub kind_is : Kind
  pub context : Context
  pub linked : Linked N p (slot node by)
  pub there : HasNode N node kind_is index
  pub crossing : Crosses kind_is index by c to context
  pub rest : Way N (slot node to) context n q d

module _ {N : NamedNet ℕ} {G : Kind → Type 0} where
  pub sooner : {Q : NamedPort ℕ → Context → Type 0} {n m : ℕ} {p : NamedPort ℕ} {c : Context} → n ≤ m →
      Reach N G Q n p c → Reach N G Q m p c
  sooner h (comes q) = comes q
  sooner h (crosses l k g) = crosses (omega (arith, l, h)) k g

  pub and_then : {Q R : NamedPort ℕ → Context → Type 0} {n : ℕ} (m : ℕ) {p : NamedPort ℕ} {c : Context} →
      Reach N G Q n p c → ((p : NamedPort ℕ) (c : Context) → Q p c → Reach N G R m p c) → Reach N G R (n + m) p c
  and_then m {p = p} {c = c} (comes q) f = sooner (omega arith) (f p c q)
  and_then m (crosses {m = k} l a g) f =
      crosses {m = k + m} (omega (arith, l)) a (λ x s i r K e a b h. and_then m (g x s i r K e a b h) f)

  pub mapped : {Q R : NamedPort ℕ → Context → Type 0} {n : ℕ} {p : NamedPort ℕ} {c : Context} →
      ((p : NamedPort ℕ) (c : Context) → Q p c → R p c) → Reach N G Q n p c → Reach N G R n p c
  mapped f (comes {p = p} {c = c} q) = comes (f p c q)
  mapped f (crosses l k g) = crosses l k (λ x s i r K e a b h. mapped f (g x s i r K e a b h))

  pub moved : {Q : NamedPort ℕ → Context → Type 0} {n : ℕ} {p q : NamedPort ℕ} {c d : Context} → p ≡ q → c ≡ d →
      Reach N G Q n q d → Reach N G Q n p c
  moved {Q} {n} {p} {d = d} e f t = subst (λ c. Reach N G Q n p c) (sym f) (subst (λ p. Reach N G Q n p d) (sym e) t)

  pub loosely : {Q : NamedPort ℕ → Context → Type 0} {n : ℕ} {p : NamedPort ℕ} {c : Context} → Reach N G Q n p c →
      Within N Q n p c
  loosely (comes q) = comes q
  loosely (crosses l k g) = crosses l (λ x s i K a b. tt) (λ x s i r K e a b h. loosely (g x s i r K e a b h))

module _ {N : NamedNet ℕ} where
  pub marks_on : {Q R : Bool → NamedPort ℕ → Context → Type 0} {m n : ℕ} {p : NamedPort ℕ} {c : Context} → m ≤ n →
      ((b : Bool) (p : NamedPort ℕ) (c : Context) → Q b p c → R b p c) → Marked N Q m p c → Marked N R n p c
  marks_on h f M = record {
    one = M.one;
    goes = λ x s i r K e a b t. sooner h (mapped (f (is_up r)) (M.goes x s i r K e a b t));
  }

  pub by_mark : {Q : Bool → NamedPort ℕ → Context → Type 0} {R : NamedPort ℕ → Context → Type 0} {m : ℕ} (n : ℕ) {p : NamedPort ℕ}
      {c : Context} → Marked N Q m p c → ((b : Bool) (p : NamedPort ℕ) (c : Context) → Q b p c → Within N R n p c) →
      Within N R (suc (m + n)) p c
  by_mark {m = m} n M f =
      crosses {m = m + n} (omega arith) (λ x s i K a b. tt)
      (λ x s i r K e a b t. and_then n (loosely (M.goes x s i r K e a b t)) (f (is_up r)))

  -- a walk of fewer crossings
  first_of : {p : NamedPort ℕ} {c : Context} {n : ℕ} {u : NamedPort ℕ} {d : Context} → Way N p c n u d →
      {x : ℕ} {k : Kind} {i s t : ℕ} {e : Context} → Linked N u (slot x s) → HasNode N x k i → Crosses k i s d t e →
      First N p c n (slot x t) e
  first_of start l h x = record {
    node = _;
    by = _;
    index = _;
    to = _;
    kind_is = _;
    context = _;
    linked = l;
    there = h;
    crossing = x;
    rest = start;
  }
  first_of (on w l' h' x') l h x = let r = first_of w l' h' x' in record {
    node = r.node;
    by = r.by;
    index = r.index;
    to = r.to;
    kind_is = r.kind_is;
    context = r.context;
    linked = r.linked;
    there = r.there;
    crossing = r.crossing;
    rest = on r.rest l h x;
  }

  pub fewer : {n : ℕ} {p : NamedPort ℕ} {c : Context} → Within N (λ p c. ⊥) n p c →
      {m : ℕ} {q : NamedPort ℕ} {d : Context} → Way N p c m q d → m ≤ n
  fewer (comes q) w = absurd q
  fewer (crosses l k g) start = omega arith
  fewer (crosses l k g) (on w l' h' x') =
      let r = first_of w l' h' x' in
      let a = fewer (g r.node r.by r.index r.to r.kind_is r.context r.linked r.there r.crossing) r.rest in
      omega (arith, a, l)

module _ {N : NamedNet ℕ} (net : IsNet N) where
  turned : (P : NamedPort ℕ → Context → Type 0) {y : NamedPort ℕ} {c d : Context} {x s i r : ℕ} {K : Kind} →
      Turn N (λ w u. P u.0 u.1) y c → y ≡ slot x s → HasNode N x K i → Crosses K i s c r d → P (slot x r) d
  turned P {y} {c} {d} {x} {s} {i} {r} {K} T e hn cr =
      let e' : slot T.node T.by ≡ slot x s = sym T.port ∙ e in
      let nx : T.node ≡ x = cc in
      let ns : T.by ≡ s = cc in
      let one = net.one_node x T.kind_is K T.index i (subst (λ x. HasNode N x T.kind_is T.index) nx T.there) hn in
      let c1 : Crosses T.kind_is i s c r d = subst (λ K. Crosses K i s c r d) (sym one.0) cr in
      let c2 : Crosses T.kind_is T.index s c r d = subst (λ i. Crosses T.kind_is i s c r d) (sym one.1) c1 in
      let c3 : Crosses T.kind_is T.index T.by c r d = subst (λ s. Crosses T.kind_is T.index s c r d) (sym ns) c2 in
      subst (λ x. P (slot x r) d) nx (T.goes r d c3)

  -- what holds of the node's kind
  of_kind : (G : Kind → Type 0) (p : NamedPort ℕ) (x s : ℕ) (K : Kind) (i : ℕ) → G K → Linked N p (slot x s) → HasNode N x K i →
      (x' s' i' : ℕ) (K' : Kind) → Linked N p (slot x' s') → HasNode N x' K' i' → G K'
  of_kind G p x s K i g l h x' s' i' K' l' h' =
      let e : slot x s ≡ slot x' s' = net.one_link p (slot x s) (slot x' s') l l' in
      let nx : x ≡ x' = cc in
      subst G (net.one_node x' K K' i i' (subst (λ x. HasNode N x K i) nx h) h').0 g

  module _ {G : Kind → Type 0} {Q : NamedPort ℕ → Context → Type 0} {m : ℕ} {p : NamedPort ℕ} where
    -- up through a node, and down
    pub goes_up : (x : ℕ) (K : Kind) (g : G K) (n s : ℕ) (F : Context → Context) (c : Context) → Linked N p (slot x (suc s)) →
        Before n F → HasNode N x K n → Reach N G Q m (slot x 0) (F (change K s c)) → Reach N G Q (suc m) p (F c)
    goes_up x K g n s F c l b h t =
        crosses {m = m} (omega arith) (of_kind G p x (suc s) K n g l h)
        (λ x' s' i r K' e l' h' r'. turned (Reach N G Q m)
        (turn_in N (λ _ u. Reach N G Q m u.0 u.1) x K n s F c b h t) (net.one_link p (slot x (suc s)) (slot x' s') l l') h' r')

    pub goes_down : (x : ℕ) (K : Kind) (g : G K) (n : ℕ) (F : Context → Context) (c : Context) → Linked N p (slot x 0) →
        Before n F → HasNode N x K n → ((s : ℕ) (d : Context) → s < arity K → change K s d ≡ c → Reach N G Q m (slot x (suc s)) (F d)) →
        Reach N G Q (suc m) p (F c)
    goes_down x K g n F c l b h f =
        crosses {m = m} (omega arith) (of_kind G p x 0 K n g l h)
        (λ x' s' i r K' e l' h' r'. turned (Reach N G Q m)
        (turn_out N (λ _ u. Reach N G Q m u.0 u.1) x K n F c b h f) (net.one_link p (slot x 0) (slot x' s') l l') h' r')

    -- at an eraser
    pub is_erased : (x : ℕ) (g : G kind.Eraser) (n : ℕ) (c : Context) → Linked N p (slot x 0) → HasNode N x kind.Eraser n →
        Reach N G Q (suc m) p c
    is_erased x g n c l h =
        crosses {m = m} (omega arith) (of_kind G p x 0 kind.Eraser n g l h)
        (λ x' s' i r K' e l' h' r'. turned (Reach N G Q m)
        (turn_eraser N (λ _ u. Reach N G Q m u.0 u.1) x n c h) (net.one_link p (slot x 0) (slot x' s') l l') h' r')

    -- or out of the net
    pub at_free : (q : ℕ) {c : Context} → Linked N p (free q) → Reach N G Q (suc m) p c
    at_free q l =
        crosses {m = m} (omega arith)
        (λ x s i K l' h'. absurd (let g : free q ≡ slot x s = net.one_link p (free q) (slot x s) l l' in cc))
        (λ x s i r K e l' h' h. absurd (let g : free q ≡ slot x s = net.one_link p (free q) (slot x s) l l' in cc))

  -- through an application or an abstraction
  abbrev up_of : NamedPort ℕ → Bool
  up_of (free q) = false
  up_of (slot x s) = is_up s

  module _ {Q : Bool → NamedPort ℕ → Context → Type 0} {m : ℕ} {p : NamedPort ℕ} where
    pub marks_up : (x : ℕ) (K : Kind) → marks K ≡ 1 → (n s : ℕ) (F : Context → Context) (c : Context) → Linked N p (slot x (suc s)) →
        Before n F → HasNode N x K n → Till N (Q true) m (slot x 0) (F (change K s c)) → Marked N Q m p (F c)
    marks_up x K g n s F c l b h t = record {
      one = of_kind (λ K. marks K ≡ 1) p x (suc s) K n g l h;
      goes = λ x' s' i r K' e l' h' r'. turned (λ p c. Till N (Q (up_of p)) m p c)
          (turn_in N (λ _ u. Till N (Q (up_of u.0)) m u.0 u.1) x K n s F c b h t) (net.one_link p (slot x (suc s)) (slot x' s') l l') h' r';
    }

    pub marks_down : (x : ℕ) (K : Kind) → marks K ≡ 1 → (n : ℕ) (F : Context → Context) (c : Context) → Linked N p (slot x 0) →
        Before n F → HasNode N x K n → ((s : ℕ) (d : Context) → s < arity K → change K s d ≡ c → Till N (Q false) m (slot x (suc s)) (F d)) →
        Marked N Q m p (F c)
    marks_down x K g n F c l b h f = record {
      one = of_kind (λ K. marks K ≡ 1) p x 0 K n g l h;
      goes = λ x' s' i r K' e l' h' r'. turned (λ p c. Till N (Q (up_of p)) m p c)
          (turn_out N (λ _ u. Till N (Q (up_of u.0)) m u.0 u.1) x K n F c b h f) (net.one_link p (slot x 0) (slot x' s') l l') h' r';
    }
