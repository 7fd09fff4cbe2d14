-- Where the net stands at a spot, and that what an edge joins is joined by moves.
use Rattle.std.proofs.Common.{◌≡◌, ℕ, suc, ◌<◌, ◌+◌, [], ◌∷◌, length, true, false, Bool, Option, None, Some, ◌⊎◌, inl}
use Rattle.std.proofs.Common.{inr, refl, sym, ap, ◌∙◌, arith, subst, eq-eqb, if◌then◌else◌}
use Rattle.std.proofs.lemmas.Bool.{and_parts}
use Rattle.ol_term.specs.declared.translations.Translation.{Translation}
use Rattle.ol_term.specs.Trees.{Tree, var, free, lam, app, is_below}
use Rattle.ol_law_edges.specs.Edges.{Joined, here}
use Rattle.ol_law_edges.specs.Edges as edges
use Rattle.ol_law_edges.proofs.Joining.{joined_trans, joined_sym}
use Rattle.ol_net.specs.declared.parts.Kind.{Kind}
use Rattle.ol_net.specs.declared.parts.Kind.TheVariants as kind
use Rattle.ol_net.specs.declared.parts.Port.{Port}
use Rattle.ol_net.specs.Parts.{arity}
use Rattle.ol_net.specs.Nets.{NamedPort, NamedNet, HasNode, Linked}
use Rattle.ol_net.specs.Nets as nets
use Rattle.ol_net.specs.Numbered.{numbered_port}
use Rattle.ol_context.specs.Contexts.{Level, empty, o, star, pair, Context, cons, tail, at_level, change}
use Rattle.ol_context.proofs.Contexts.{at_level_add, cons_eta, head_eq, tail_eq}
use Rattle.ol_invariance.proofs.Moves.{State, Move, link, node}
use Rattle.ol_translate.specs.Translation.{Subnet, subnet_of, application, application_to, applied}
use Rattle.ol_translate.specs.Translation.{bare_variable, wire_of, bound_port, slot_port}
use Rattle.ol_translate.proofs.Joints.{few_wires}
use Rattle.ol_law_meaning.specs.Spots.{Wire, bound, occurs, left, IsRight, Place, root, wire, Spot, at, body, fun, arg}
use Rattle.ol_law_meaning.specs.Spots.{Edge, var_wire, free_wire, lam_root, lam_own, lam_wire, app_root, app_arg}
use Rattle.ol_law_meaning.specs.Spots.{app_left, app_right, in_body, in_fun, in_arg}
use Rattle.ol_law_meaning.proofs.Fans.{Merges, outside_wire}
use Rattle.ol_law_meaning.proofs.Bare.{right_packed, right_bare, is_wire, has_box, no_lam, no_app}
use Rattle.ol_law_meaning.proofs.Parts.{Has, argument, has_lam, Wires, has_app, has_app_to, has_head}
use Rattle.ol_law_meaning.proofs.Parts.{applied_root, key, IsInside, key_under, wire_there, wire_not}
use Rattle.ol_law_meaning.proofs.Parts.{occurs_inside, bare_there, bare_occurs, bare_lacks}

-- the levels before a part's own, put before a context
pub record Before (n : ℕ) (F : Context → Context) : Type 0 where
  pub passes : (g : Context → Context) (c : Context) → at_level n g (F c) ≡ F (g c)
  pub opens : (g : Context → Context) (d c : Context) → at_level n g d ≡ F c → (b : Context) × (d ≡ F b) × (g b ≡ c)

pub before_all : Before 0 (λ c. c)
before_all = record { passes = λ g c. refl; opens = λ g d c e. (d, refl, e) }

pub before_arg : (n : ℕ) (F : Context → Context) (v : Level) → Before n F → Before (n + 1) (λ c. F (cons v c))
before_arg n F v h = record {
  passes = λ g c. at_level_add n 1 g (F (cons v c)) ∙ h.passes (at_level 1 g) (cons v c);
  opens = λ g d c e.
      let b = h.opens (at_level 1 g) d (cons v c) (sym (at_level_add n 1 g d) ∙ e) in
      let head = head_eq (b.0 0) v (g (tail b.0)) c b.2 in
      (tail b.0, b.1 ∙ ap F (sym (cons_eta v (tail b.0) b.0 (sym head) refl)), tail_eq (b.0 0) v (g (tail b.0)) c b.2);
}

-- ---- states

abbrev pub S : Type 0
S = State (NamedPort ℕ)

abbrev pub at_port : Option Port → Context → Option S
at_port None c = None
at_port (Some p) c = Some (numbered_port p, c)

abbrev pub port_in : Subnet → ℕ → Place → Option Port
port_in P d root = Some P.root
port_in P d (wire y) = wire_of (key d y) P.wires

-- at a spot of an argument that is a wire: slot 2 of the application is its root and its wire
abbrev pub bare_state : Spot → ℕ → (Context → Context) → Option S
bare_state (at root v c) k F = Some (nets.slot k 2, F (cons v c))
bare_state (at (wire y) empty c) k F = Some (nets.slot k 2, F c)
bare_state (at (wire y) (o a) c) k F = None
bare_state (at (wire y) (star a) c) k F = None
bare_state (at (wire y) (pair a b) c) k F = None
bare_state (body s) k F = None
bare_state (fun s) k F = None
bare_state (arg v s) k F = None

-- at a spot of an argument, where it is such a wire, or else by its own part
abbrev pub arg_state : Option ℕ → Spot → ℕ → (Context → Context) → Option S → Option S
arg_state None s k F own = own
arg_state (Some x) s k F own = bare_state s k F

-- where the net stands at a spot of a term under d abstractions, at level n, whose first node has number k
abbrev pub state : Translation → Spot → Tree → (d n k : ℕ) → (Context → Context) → Option S
state τ (at p v c) t d n k F = at_port (port_in (subnet_of τ t d n k) d p) (F (cons v c))
state τ (body s) (lam M) d n k F = state τ s M (d + 1) n (k + 1) F
state τ (body s) (var v) d n k F = None
state τ (body s) (free f) d n k F = None
state τ (body s) (app M N) d n k F = None
state τ (fun s) (app M N) d n k F = state τ s M d n (k + 1) F
state τ (fun s) (var v) d n k F = None
state τ (fun s) (free f) d n k F = None
state τ (fun s) (lam M) d n k F = None
state τ (arg v s) (app M N) d n k F =
    arg_state (bare_variable τ d N) s k (λ c. F (cons v c))
    (state τ s N d (n + 1) (k + 1 + length (subnet_of τ M d n (k + 1)).nodes) (λ c. F (cons v c)))
state τ (arg v s) (var w) d n k F = None
state τ (arg v s) (free f) d n k F = None
state τ (arg v s) (lam M) d n k F = None

-- two spots whose states are joined
pub record Both (N : NamedNet ℕ) (x y : Option S) : Type 0 where
  pub first : S
  pub second : S
  pub from : x ≡ Some first
  pub to : y ≡ Some second
  pub joined : Joined (Move N) first second

pub both : (N : NamedNet ℕ) (x y : Option Port) (p q : Port) (c d : Context) → x ≡ Some p →
    y ≡ Some q → Joined (Move N) (numbered_port p, c) (numbered_port q, d) → Both N (at_port x c) (at_port y d)
both N x y p q c d e e' j = record {
  first = (numbered_port p, c);
  second = (numbered_port q, d);
  from = ap (λ x. at_port x c) e;
  to = ap (λ y. at_port y d) e';
  joined = j;
}

pub both_sym : {N : NamedNet ℕ} {x y : Option S} → Both N x y → Both N y x
both_sym b = record { first = b.second; second = b.first; from = b.to; to = b.from; joined = joined_sym b.joined }

pub both_trans : {N : NamedNet ℕ} {x y z : Option S} → Both N x y → Both N y z → Both N x z
both_trans {N} a b =
    let e : ◌≡◌ {A = Option S} (Some a.second) (Some b.first) = sym a.to ∙ b.from in
    let same : ◌≡◌ {A = S} b.first a.second = cc in
    record {
      first = a.first;
      second = b.second;
      from = a.from;
      to = b.to;
      joined = joined_trans a.joined (subst (λ u. Joined (Move N) u b.second) same b.joined);
    }

module _ (N : NamedNet ℕ) where
  abbrev pub H : ℕ → Kind → ℕ → Type 0
  H x K i = HasNode N x K i

  abbrev pub L : Port → Port → Type 0
  L p q = Linked N (numbered_port p) (numbered_port q)

  along : (p q : Port) (c : Context) → L p q → Joined (Move N) (numbered_port p, c) (numbered_port q, c)
  along p q c l = edges.on here (link l)

  -- from slot_port 0 of a node to another
  through_node : (k : ℕ) (K : Kind) (n s : ℕ) (F : Context → Context) (c d : Context) → Before n F →
      H k K n → s < arity K → change K s c ≡ d → Joined (Move N) (nets.slot k 0, F d) (nets.slot k (suc s), F c)
  through_node k K n s F c d b h low e = edges.on here (node K n h low (b.passes (change K s) c ∙ ap F e))

  -- an application's wire on the side of the function
  left_wire : (n : ℕ) (p : Port) (q r : Option Port) (F : Context → Context) (a : Level)
      (c : Context) → Before n F → Merges H L n (Some p) q r →
      (w : Level) → ((q ≡ None) → w ≡ a) → ((u : Port) → q ≡ Some u → w ≡ o a) →
      (x : Port) × (r ≡ Some x) × Joined (Move N) (numbered_port x, F (cons w c)) (numbered_port p, F (cons a c))
  left_wire n p None r F a c b h w alone shared = let e = alone refl in
      (p, h, subst (λ w. Joined (Move N) (numbered_port p, F (cons w c)) (numbered_port p, F (cons a c))) (sym e) here)
  left_wire n p (Some q) r F a c b h w alone shared =
      let e = shared q refl in (
        slot_port h.0 0,
        h.1,
        subst (λ w. Joined (Move N) (nets.slot h.0 0, F (cons w c)) (numbered_port p, F (cons a c))) (sym e)
            (joined_trans (through_node h.0 kind.Fan n 0 F (cons a c) (cons (o a) c) b h.2
            (omega arith) refl) (along (slot_port h.0 1) p (F (cons a c)) h.3)),
      )

  -- where the argument has a part, by its bracket
  left_boxed : (n : ℕ) (p : Port) (q r : Option Port) (F : Context → Context) (a : Level)
      (c : Context) → Before n F → Wires H L n (Some p) q r →
      (w : Level) → ((q ≡ None) → w ≡ a) → ((u : Port) → q ≡ Some u → w ≡ o a) →
      (x : Port) × (r ≡ Some x) × Joined (Move N) (numbered_port x, F (cons w c)) (numbered_port p, F (cons a c))
  left_boxed n p None r F a c b h w alone shared = left_wire n p None r F a c b h w alone shared
  left_boxed n p (Some q) r F a c b h w alone shared = left_wire n p
      (Some (slot_port h.0 0)) r F a c b (h.1, h.2, h.5, h.6, h.7) w (λ none. absurd (cc)) (λ u e. shared q refl)

  -- the wire of an argument that is one
  bare_wire : (n : ℕ) (p : Option Port) (q : Port) (r : Option Port) (F : Context → Context)
      (v : Level) (c : Context) → Before n F → Merges H L n p (Some q) r →
      (w : Level) → ((p ≡ None) → w ≡ v) → ((x : Port) → p ≡ Some x → w ≡ star v) →
      (x : Port) × (r ≡ Some x) × Joined (Move N) (numbered_port x, F (cons w c)) (numbered_port q, F (cons v c))
  bare_wire n None q r F v c b h w alone shared = let e = alone refl in
      (q, h, subst (λ w. Joined (Move N) (numbered_port q, F (cons w c)) (numbered_port q, F (cons v c))) (sym e) here)
  bare_wire n (Some p) q r F v c b h w alone shared =
      let e = shared p refl in (
        slot_port h.0 0,
        h.1,
        subst (λ w. Joined (Move N) (nets.slot h.0 0, F (cons w c)) (numbered_port q, F (cons v c))) (sym e)
            (joined_trans (through_node h.0 kind.Fan n 1 F (cons v c) (cons (star v) c) b h.2
            (omega arith) refl) (along (slot_port h.0 2) q (F (cons v c)) h.4)),
      )

  -- and on the side of the argument
  right_wire : (n : ℕ) (p : Option Port) (q : Port) (r : Option Port) (F : Context → Context)
      (u v : Level) (c : Context) → Before n F → Wires H L n p (Some q) r →
      (w : Level) → ((p ≡ None) → w ≡ pair u v) → ((x : Port) → p ≡ Some x → w ≡ star (pair u v)) →
      (x : Port) × (r ≡ Some x) × Joined (Move N) (numbered_port x, F (cons w c))
      (numbered_port q, F (cons v (cons u c)))
  right_wire n None q r F u v c b h w alone shared =
      let e = alone refl in (
        slot_port h.0 0,
        h.1,
        subst (λ w. Joined (Move N) (nets.slot h.0 0, F (cons w c)) (numbered_port q, F (cons v (cons u c)))) (sym e)
            (joined_trans (through_node h.0 kind.Bracket n 0 F (cons v (cons u c))
            (cons (pair u v) c) b h.2 (omega arith) refl) (along (slot_port h.0 1) q (F (cons v (cons u c))) h.3)),
      )
  right_wire n (Some p) q r F u v c b h w alone shared =
      let e = shared p refl in (
        slot_port h.1 0,
        h.2,
        subst (λ w. Joined (Move N) (nets.slot h.1 0, F (cons w c)) (numbered_port q, F (cons v (cons u c)))) (sym e)
            (joined_trans (through_node h.1 kind.Fan n 1 F (cons (pair u v) c)
            (cons (star (pair u v)) c) b h.5 (omega arith) refl)
            (joined_trans (along (slot_port h.1 2) (slot_port h.0 0) (F (cons (pair u v) c)) h.7)
            (joined_trans (through_node h.0 kind.Bracket n 0 F (cons v (cons u c))
            (cons (pair u v) c) b h.3 (omega arith) refl)
            (along (slot_port h.0 1) q (F (cons v (cons u c))) h.4)))),
      )

  pub if_true : (b : Bool) (x y : Level) → b ≡ true → (if b then x else y) ≡ x
  if_true true x y e = refl
  if_true false x y e = absurd (cc)

  pub if_false : (b : Bool) (x y : Level) → b ≡ false → (if b then x else y) ≡ y
  if_false true x y e = absurd (cc)
  if_false false x y e = refl

  pub bool_or : (b : Bool) → (b ≡ true) ⊎ (b ≡ false)
  bool_or true = inl refl
  bool_or false = inr refl

module _ (τ : Translation) (N : NamedNet ℕ) where
  -- what wire_of gives, by whether the wire occurs
  by_occurs : (t : Tree) (y : Wire) (d n k : ℕ) → is_below d t ≡ true → IsInside d y →
      (x w a : Level) → w ≡ (if occurs y t then x else a) →
      (wire_of (key d y) (subnet_of τ t d n k).wires ≡ None → w ≡ a)
      × ((p : Port) → wire_of (key d y) (subnet_of τ t d n k).wires ≡ Some p → w ≡ x)
  by_occurs t y d n k h i x w a e = elim (bool_or N (occurs y t)) [
    | inl o' ↦ (
      λ none. (let there = wire_there τ t y d n k h o' in
          let clash = sym none ∙ there.1 in absurd (cc)),
      λ p some. e ∙ if_true N (occurs y t) x a o',
    )
    | inr o' ↦ (
      λ none. e ∙ if_false N (occurs y t) x a o',
      λ p some. (let none = wire_not τ t y d n k h i o' in let clash = sym none ∙ some in absurd (cc)),
    )
  ]

  -- an application's root at the function, and at the argument
  arg_joined : (x : Option ℕ) (P R : Subnet) (n k : ℕ) (F : Context → Context) → Before n F →
      (v u : Level) (c c' : Context) → c ≡ cons u c' → Has (H N) (L N) k (applied n k x P R) →
      Both N (at_port (Some P.root) (F (cons (star v) c)))
      (arg_state x (at root u c') k (λ c. F (cons v c)) (at_port (Some R.root) (F (cons v (cons u c')))))
  arg_joined None P R n k F b v u c c' e h =
      let A = has_app (H N) (L N) n k P R h in
      both N (Some P.root) (Some R.root) P.root R.root (F (cons (star v) c)) (F (cons v (cons u c'))) refl refl
      (subst (λ x. Joined (Move N) (numbered_port P.root, F (cons (star v) c)) (numbered_port R.root, F (cons v x))) e
      (joined_trans (joined_sym (along N (slot_port k 0) P.root (F (cons (star v) c)) A.link))
      (joined_trans (through_node N k kind.App n 1 F (cons v c) (cons (star v) c) b A.node
      (omega arith) refl) (along N (slot_port k 2) R.root (F (cons v c)) A.arg_link))))
  arg_joined (Some y) P R n k F b v u c c' e h =
      let A = has_app_to (H N) (L N) n k y P h in
      both N (Some P.root) (Some (slot_port k 2)) P.root (slot_port k 2) (F (cons (star v) c))
      (F (cons v (cons u c'))) refl refl
      (subst (λ x. Joined (Move N) (numbered_port P.root, F (cons (star v) c)) (nets.slot k 2, F (cons v x))) e
      (joined_trans (joined_sym (along N (slot_port k 0) P.root (F (cons (star v) c)) A.link))
      (through_node N k kind.App n 1 F (cons v c) (cons (star v) c) b A.node (omega arith) refl)))

  -- its wire, at the function's
  left_joined : (x : Option ℕ) (M Q : Tree) (d n k : ℕ) (F : Context → Context) → Before n F →
      is_below d (app M Q) ≡ true → (y : Wire) (a w : Level) (c : Context) → occurs y M ≡ true →
      w ≡ left Q y a → bare_variable τ d Q ≡ x →
      Has (H N) (L N) k (applied n k x (subnet_of τ M d n (k + 1)) (argument τ M Q d n k)) →
      Both N (at_port (wire_of (key d y) (applied n k x (subnet_of τ M d n (k + 1))
      (argument τ M Q d n k)).wires) (F (cons w c)))
      (at_port (wire_of (key d y) (subnet_of τ M d n (k + 1)).wires) (F (cons a c)))
  left_joined None M Q d n k F b i y a w c o' e x h =
      let P = subnet_of τ M d n (k + 1) in
      let R = argument τ M Q d n k in
      let A = has_app (H N) (L N) n k P R h in
      let I = and_parts (is_below d M) (is_below d Q) i in
      let W = wire_there τ M y d n (k + 1) I.0 o' in
      let m = by_occurs Q y d (n + 1) (k + 1 + length P.nodes) I.1 (occurs_inside M y d I.0 o') (o a) w a e in
      let j = A.wires (key d y) (few_wires τ (key d y) Q d (n + 1) (k + 1 + length P.nodes)) in
      let r = left_boxed N n W.0 (wire_of (key d y) R.wires) (wire_of (key d y) (application n k P R).wires) F a c b
      (subst (λ x. Wires (H N) (L N) n x (wire_of (key d y) R.wires)
      (wire_of (key d y) (application n k P R).wires)) W.1 j) w m.0 m.1 in
      both N (wire_of (key d y) (application n k P R).wires) (wire_of (key d y) P.wires) r.0 W.0
      (F (cons w c)) (F (cons a c)) r.1 W.1 r.2
  left_joined (Some v) M Q d n k F b i y a w c o' e x h =
      let P = subnet_of τ M d n (k + 1) in
      let A = has_app_to (H N) (L N) n k v P h in
      let I = and_parts (is_below d M) (is_below d Q) i in
      let inside = occurs_inside M y d I.0 o' in
      let W = wire_there τ M y d n (k + 1) I.0 o' in
      let r = left_wire N n W.0 (wire_of (key d y) ((v, slot_port k 2) ∷ []))
      (wire_of (key d y) (application_to n k v P).wires) F a c b
      (subst (λ x. Merges (H N) (L N) n x (wire_of (key d y) ((v, slot_port k 2) ∷ []))
      (wire_of (key d y) (application_to n k v P).wires)) W.1 (A.wires (key d y))) w
      (λ none. e ∙ if_false N (occurs y Q) (o a) a (bare_lacks τ d v Q y (slot_port k 2) x I.1 inside none))
      (λ p some. e ∙ if_true N (occurs y Q) (o a) a (bare_occurs τ d v Q y (slot_port k 2) p x I.1 inside some).0) in
      both N (wire_of (key d y) (application_to n k v P).wires) (wire_of (key d y) P.wires) r.0 W.0
      (F (cons w c)) (F (cons a c)) r.1 W.1 r.2

  -- where the argument is a wire, its own spots stand at slot 2 of the application
  to_slot : (y : Wire) (u : Level) (k : ℕ) (F : Context → Context) (c : Context) → u ≡ empty →
      bare_state (at (wire y) u c) k F ≡ Some (nets.slot k 2, F c)
  to_slot y u k F c e = subst (λ u. bare_state (at (wire y) u c) k F ≡ Some (nets.slot k 2, F c)) (sym e) refl

  -- and at the argument's
  right_joined : (x : Option ℕ) (M Q : Tree) (d n k : ℕ) (F : Context → Context) → Before n F →
      is_below d (app M Q) ≡ true → (y : Wire) (u v w : Level) (c : Context) → occurs y Q ≡ true →
      IsRight τ M Q y u v w → bare_variable τ d Q ≡ x →
      Has (H N) (L N) k (applied n k x (subnet_of τ M d n (k + 1)) (argument τ M Q d n k)) →
      Both N (at_port (wire_of (key d y) (applied n k x (subnet_of τ M d n (k + 1))
      (argument τ M Q d n k)).wires) (F (cons w c)))
      (arg_state x (at (wire y) u c) k (λ c. F (cons v c))
      (at_port (wire_of (key d y) (argument τ M Q d n k).wires) (F (cons v (cons u c)))))
  right_joined None M Q d n k F b i y u v w c o' e x h =
      let P = subnet_of τ M d n (k + 1) in
      let R = argument τ M Q d n k in
      let A = has_app (H N) (L N) n k P R h in
      let I = and_parts (is_below d M) (is_below d Q) i in
      let W = wire_there τ Q y d (n + 1) (k + 1 + length P.nodes) I.1 o' in
      let m = by_occurs M y d n (k + 1) I.0 (occurs_inside Q y d I.1 o') (star (pair u v)) w
      (pair u v) (right_packed M y u v (has_box τ d Q x) e) in
      let j = A.wires (key d y) (few_wires τ (key d y) Q d (n + 1) (k + 1 + length P.nodes)) in
      let r = right_wire N n (wire_of (key d y) P.wires) W.0 (wire_of (key d y) (application n k P R).wires) F u v c b
      (subst (λ x. Wires (H N) (L N) n (wire_of (key d y) P.wires) x
      (wire_of (key d y) (application n k P R).wires)) W.1 j) w m.0 m.1 in
      both N (wire_of (key d y) (application n k P R).wires) (wire_of (key d y) R.wires) r.0 W.0
      (F (cons w c)) (F (cons v (cons u c))) r.1 W.1 r.2
  right_joined (Some z) M Q d n k F b i y u v w c o' e x h =
      let P = subnet_of τ M d n (k + 1) in
      let A = has_app_to (H N) (L N) n k z P h in
      let I = and_parts (is_below d M) (is_below d Q) i in
      let inside = occurs_inside Q y d I.1 o' in
      let t = is_wire τ d z Q x in
      let m = by_occurs M y d n (k + 1) I.0 inside (star v) w v (right_bare M y u v t e) in
      let r = bare_wire N n (wire_of (key d y) P.wires) (slot_port k 2)
      (wire_of (key d y) (application_to n k z P).wires) F v c b
      (subst (λ x. Merges (H N) (L N) n (wire_of (key d y) P.wires) x
      (wire_of (key d y) (application_to n k z P).wires))
      (bare_there τ d z Q y (slot_port k 2) x I.1 inside o') (A.wires (key d y))) w m.0 m.1 in
      record {
        first = (numbered_port r.0, F (cons w c));
        second = (nets.slot k 2, F (cons v c));
        from = ap (λ x. at_port x (F (cons w c))) r.1;
        to = to_slot y u k (λ c. F (cons v c)) c (e.level t);
        joined = r.2;
      }

  -- the spots of a wire's own occurrence are one
  one_state : (Q : Tree) (d x k : ℕ) (F : Context → Context) {s z : Spot} {m : ℕ} →
      bare_variable τ d Q ≡ Some x → Edge τ Q s z m → Both N (bare_state s k F) (bare_state z k F)
  one_state Q d x k F f (var_wire {v = v} {c = c} {d = c'} e) = record {
    first = (
      nets.slot k 2,
      F (cons v c),
    );
    second = (nets.slot k 2, F c');
    from = refl;
    to = refl;
    joined = subst (λ x. Joined (Move N) (nets.slot k 2, F (cons v c)) (nets.slot k 2, F x)) (sym e) here;
  }
  one_state Q d x k F f (free_wire {v = v} {c = c} {d = c'} e) = record {
    first = (
      nets.slot k 2,
      F (cons v c),
    );
    second = (nets.slot k 2, F c');
    from = refl;
    to = refl;
    joined = subst (λ x. Joined (Move N) (nets.slot k 2, F (cons v c)) (nets.slot k 2, F x)) (sym e) here;
  }
  one_state Q d x k F f (lam_root {M = M}) = absurd (no_lam τ d x M f)
  one_state Q d x k F f (lam_own {M = M} m) = absurd (no_lam τ d x M f)
  one_state Q d x k F f (lam_wire {M = M} e m) = absurd (no_lam τ d x M f)
  one_state Q d x k F f (in_body {M = M} e) = absurd (no_lam τ d x M f)
  one_state Q d x k F f (app_root {M = M} {N = R}) = absurd (no_app τ d x M R f)
  one_state Q d x k F f (app_arg {M = M} {N = R} e) = absurd (no_app τ d x M R f)
  one_state Q d x k F f (app_left {M = M} {N = R} m e) = absurd (no_app τ d x M R f)
  one_state Q d x k F f (app_right {M = M} {N = R} m e) = absurd (no_app τ d x M R f)
  one_state Q d x k F f (in_fun {M = M} {N = R} e) = absurd (no_app τ d x M R f)
  one_state Q d x k F f (in_arg {M = M} {N = R} e) = absurd (no_app τ d x M R f)

  -- an edge of the argument
  in_argument : (x : Option ℕ) (Q : Tree) (d k : ℕ) (F : Context → Context) (s z : Spot)
      (own own' : Option S) {m : ℕ} → bare_variable τ d Q ≡ x → Edge τ Q s z m →
      (bare_variable τ d Q ≡ None → Both N own own') →
      Both N (arg_state x s k F own) (arg_state x z k F own')
  in_argument None Q d k F s z own own' e g rest = rest e
  in_argument (Some x) Q d k F s z own own' e g rest = one_state Q d x k F e g

  pub edge_joined : {t : Tree} {s z : Spot} {m : ℕ} → Edge τ t s z m →
      (d n k : ℕ) (F : Context → Context) → Before n F → is_below d t ≡ true →
      Has (H N) (L N) k (subnet_of τ t d n k) → Both N (state τ s t d n k F) (state τ z t d n k F)
  edge_joined (var_wire {y = y} {v = v} {c = c} {d = c'} e) d n k F b i h =
      let own : wire_of y ((y, slot_port k 0) ∷ []) ≡ Some (slot_port k 0) = rw (eq-eqb y y refl) refl in
      both N (Some (slot_port k 1)) (wire_of y ((y, slot_port k 0) ∷ [])) (slot_port k 1)
      (slot_port k 0) (F (cons v c)) (F (cons empty c')) refl own
      (joined_sym (through_node N k kind.Croissant n 0 F (cons v c) (cons empty c') b h.nodes.0
      (omega arith) (ap (cons empty) (sym e))))
  edge_joined (free_wire {f = f} {v = v} {c = c} {d = c'} e) d n k F b i h =
      let own : wire_of (d + f) ((d + f, slot_port k 0) ∷ []) ≡ Some (slot_port k 0) = rw
      (eq-eqb (d + f) (d + f) refl) refl in
      both N (Some (slot_port k 1)) (wire_of (d + f) ((d + f, slot_port k 0) ∷ [])) (slot_port k 1)
      (slot_port k 0) (F (cons v c)) (F (cons empty c')) refl own
      (joined_sym (through_node N k kind.Croissant n 0 F (cons v c) (cons empty c') b h.nodes.0
      (omega arith) (ap (cons empty) (sym e))))
  edge_joined (lam_root {M = M} {v = v} {c = c}) d n k F b i h =
      let P = subnet_of τ M (d + 1) n (k + 1) in
      let A = has_lam (H N) (L N) n k P h in
      both N (Some (slot_port k 0)) (Some P.root) (slot_port k 0) P.root (F (cons (o v) c)) (F (cons v c)) refl refl
      (joined_trans (through_node N k kind.Lam n 0 F (cons v c) (cons (o v) c) b A.node
      (omega arith) refl) (along N (slot_port k 1) P.root (F (cons v c)) A.link))
  edge_joined (lam_own {M = M} {a = a} {c = c} o') d n k F b i h =
      let P = subnet_of τ M (d + 1) n (k + 1) in
      let A = has_lam (H N) (L N) n k P h in
      let W = wire_there τ M (bound 0) (d + 1) n (k + 1) i o' in
      both N (Some (slot_port k 0)) (wire_of 0 P.wires) (slot_port k 0) W.0 (F (cons (star a) c))
      (F (cons a c)) refl W.1
      (joined_trans (through_node N k kind.Lam n 1 F (cons a c) (cons (star a) c) b A.node (omega arith) refl)
      (along N (slot_port k 2) W.0 (F (cons a c))
      (subst (λ x. L N (slot_port k 2) (bound_port x (k + 1 + length P.nodes))) W.1 A.var_link)))
  edge_joined (lam_wire {M = M} {y = y} {z = z} {a = a} {c = c} e o') d n k F b i h =
      let P = subnet_of τ M (d + 1) n (k + 1) in
      let W = wire_there τ M z (d + 1) n (k + 1) i o' in
      let same : suc (key d y) ≡ key (d + 1) z = sym (key_under d y) ∙ ap (key (d + 1)) (sym e) in
      both N (wire_of (key d y) (subnet_of τ (lam M) d n k).wires)
      (wire_of (key (d + 1) z) P.wires) W.0 W.0 (F (cons a c)) (F (cons a c))
      (outside_wire (key d y) P.wires ∙ ap (λ v. wire_of v P.wires) same ∙ W.1) W.1 here
  edge_joined (app_root {M = M} {N = Q} {v = v} {c = c}) d n k F b i h =
      let P = subnet_of τ M d n (k + 1) in
      let A = has_head (H N) (L N) n k (bare_variable τ d Q) P (argument τ M Q d n k) h in
      both N (Some (subnet_of τ (app M Q) d n k).root) (Some P.root) (slot_port k 1) P.root
      (F (cons v c)) (F (cons (o v) c)) (ap Some
      (applied_root n k (bare_variable τ d Q) P (argument τ M Q d n k))) refl
      (joined_trans (joined_sym (through_node N k kind.App n 0 F (cons v c) (cons (o v) c) b A.node
      (omega arith) refl)) (along N (slot_port k 0) P.root (F (cons (o v) c)) A.link))
  edge_joined (app_arg {M = M} {N = Q} {v = v} {u = u} {c = c} {d = c'} e) d n k F b i h =
      arg_joined (bare_variable τ d Q) (subnet_of τ M d n (k + 1)) (argument τ M Q d n k) n k F b v u c c' e h
  edge_joined (app_left {M = M} {N = Q} {y = y} {a = a} {w = w} {c = c} m e) d n k F b i h =
      left_joined (bare_variable τ d Q) M Q d n k F b i y a w c m e refl h
  edge_joined (app_right {M = M} {N = Q} {y = y} {b = u} {v = v} {w = w} {c = c} m e) d n k F b i h =
      right_joined (bare_variable τ d Q) M Q d n k F b i y u v w c m e refl h
  edge_joined (in_body {M = M} {s = s} {s' = z} e) d n k F b i h = edge_joined e (d + 1) n
      (k + 1) F b i (has_lam (H N) (L N) n k (subnet_of τ M (d + 1) n (k + 1)) h).part
  edge_joined (in_fun {M = M} {N = Q} e) d n k F b i h =
      edge_joined e d n (k + 1) F b (and_parts (is_below d M) (is_below d Q) i).0
      (has_head (H N) (L N) n k (bare_variable τ d Q) (subnet_of τ M d n (k + 1)) (argument τ M Q d n k) h).function
  edge_joined (in_arg {M = M} {N = Q} {v = v} {s = s} {s' = z} e) d n k F b i h =
      in_argument (bare_variable τ d Q) Q d k (λ c. F (cons v c)) s z
      (state τ s Q d (n + 1) (k + 1 + length (subnet_of τ M d n (k + 1)).nodes) (λ c. F (cons v c)))
      (state τ z Q d (n + 1) (k + 1 + length (subnet_of τ M d n (k + 1)).nodes) (λ c. F (cons v c))) refl e
      (λ none. edge_joined e d (n + 1) (k + 1 + length (subnet_of τ M d n (k + 1)).nodes)
      (λ c. F (cons v c)) (before_arg n F v b) (and_parts (is_below d M) (is_below d Q) i).1
      (has_app (H N) (L N) n k (subnet_of τ M d n (k + 1)) (argument τ M Q d n k)
      (subst (λ o. Has (H N) (L N) k (applied n k o (subnet_of τ M d n (k + 1))
      (argument τ M Q d n k))) none h)).argument)
