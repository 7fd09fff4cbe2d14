-- What an edge between wires joins is joined without crossing an application or an abstraction. (As in
-- ol_law_meaning's States, where it is said of all moves.)
use Rattle.std.proofs.Common.{◌≡◌, ℕ, suc, ◌<◌, ◌+◌, [], ◌∷◌, length, true, Option, None, Some, inl, inr, refl, sym, ap}
use Rattle.std.proofs.Common.{◌∙◌, arith, subst, if◌then◌else◌}
use Rattle.std.proofs.lemmas.Bool.{and_parts}
use Rattle.ol_term.specs.declared.translations.Translation.{Translation}
use Rattle.ol_term.specs.Trees.{Tree, app, is_below}
use Rattle.ol_law_edges.specs.Edges.{Joined, here}
use Rattle.ol_law_edges.specs.Edges as edges
use Rattle.ol_law_edges.proofs.Joining.{joined_trans}
use Rattle.ol_net.specs.declared.parts.Kind.{Kind}
use Rattle.ol_net.specs.declared.parts.Kind.TheVariants as kind
use Rattle.ol_net.specs.declared.parts.Port.{Port}
use Rattle.ol_net.specs.Parts.{arity}
use Rattle.ol_net.specs.Nets.{NamedPort, NamedNet, HasNode, Linked}
use Rattle.ol_net.specs.Nets as nets
use Rattle.ol_net.specs.Numbered.{numbered_port}
use Rattle.ol_context.specs.Contexts.{Level, empty, o, star, pair, Context, cons, change, up}
use Rattle.ol_translate.specs.Translation.{subnet_of, application, application_to, applied}
use Rattle.ol_translate.specs.Translation.{bare_variable, wire_of, slot_port}
use Rattle.ol_translate.proofs.Joints.{few_wires}
use Rattle.ol_law_meaning.specs.Spots.{Wire, occurs, left, IsRight, wire, Spot, at, Edge, var_wire, free_wire, lam_root}
use Rattle.ol_law_meaning.specs.Spots.{lam_own, lam_wire, app_root, app_arg, app_left, app_right, in_body, in_fun}
use Rattle.ol_law_meaning.specs.Spots.{in_arg}
use Rattle.ol_law_meaning.proofs.Fans.{Merges}
use Rattle.ol_law_meaning.proofs.Bare.{right_packed, right_bare, is_wire, has_box, no_lam, no_app}
use Rattle.ol_law_meaning.proofs.Parts.{Has, argument, Wires, has_app, has_app_to, key, IsInside, wire_there, wire_not}
use Rattle.ol_law_meaning.proofs.Parts.{occurs_inside, bare_there, bare_occurs, bare_lacks}
use Rattle.ol_law_meaning.proofs.States.{Before, S, H, L, at_port, bare_state, arg_state, if_true, if_false, bool_or}

abbrev pub IsQuiet : Kind → Type 0
IsQuiet kind.App = ⊥
IsQuiet kind.Lam = ⊥
IsQuiet kind.Fan = Unit {0}
IsQuiet kind.Croissant = Unit {0}
IsQuiet kind.Bracket = Unit {0}
IsQuiet kind.Eraser = Unit {0}

-- along a link, or through a node of sharing from its slot 0 to another slot; the way back is the same move
pub data Quiet (N : NamedNet ℕ) : S → S → Type 0 where
  link : {p q : NamedPort ℕ} {c : Context} → Linked N p q → Quiet N (p, c) (q, c)
  node : {x s : ℕ} {c d : Context} (k : Kind) (i : ℕ) → HasNode N x k i → IsQuiet k → s < arity k →
      up k i s c ≡ d → Quiet N (nets.slot x 0, d) (nets.slot x (suc s), c)

-- two spots whose states are joined
pub record Both (N : NamedNet ℕ) (x y : Option S) : Type 0 where
  pub first : S
  pub second : S
  pub from : x ≡ Some first
  pub to : y ≡ Some second
  pub joined : Joined (Quiet N) first second

pub both : (N : NamedNet ℕ) (x y : Option Port) (p q : Port) (c d : Context) → x ≡ Some p →
    y ≡ Some q → Joined (Quiet N) (numbered_port p, c) (numbered_port q, d) → Both N (at_port x c) (at_port y d)
both N x y p q c d e e' j = record {
  first = (numbered_port p, c);
  second = (numbered_port q, d);
  from = ap (λ x. at_port x c) e;
  to = ap (λ y. at_port y d) e';
  joined = j;
}

module _ (N : NamedNet ℕ) where
  pub along : (p q : Port) (c : Context) → L N p q → Joined (Quiet N) (numbered_port p, c) (numbered_port q, c)
  along p q c l = edges.on here (link l)

  -- from slot_port 0 of a node to another
  pub through_node : (k : ℕ) (K : Kind) → IsQuiet K → (n s : ℕ) (F : Context → Context) (c d : Context) → Before n F →
      H N k K n → s < arity K → change K s c ≡ d → Joined (Quiet N) (nets.slot k 0, F d) (nets.slot k (suc s), F c)
  through_node k K q n s F c d b h low e = edges.on here (node K n h q low (b.passes (change K s) c ∙ ap F e))

  -- an application's wire on the side of the function
  left_wire : (n : ℕ) (p : Port) (q r : Option Port) (F : Context → Context) (a : Level)
      (c : Context) → Before n F → Merges (H N) (L N) n (Some p) q r →
      (w : Level) → ((q ≡ None) → w ≡ a) → ((u : Port) → q ≡ Some u → w ≡ o a) →
      (x : Port) × (r ≡ Some x) × Joined (Quiet N) (numbered_port x, F (cons w c)) (numbered_port p, F (cons a c))
  left_wire n p None r F a c b h w alone shared = let e = alone refl in
      (p, h, subst (λ w. Joined (Quiet N) (numbered_port p, F (cons w c)) (numbered_port p, F (cons a c))) (sym e) here)
  left_wire n p (Some q) r F a c b h w alone shared =
      let e = shared q refl in (
        slot_port h.0 0,
        h.1,
        subst (λ w. Joined (Quiet N) (nets.slot h.0 0, F (cons w c)) (numbered_port p, F (cons a c))) (sym e)
            (joined_trans (through_node h.0 kind.Fan tt n 0 F (cons a c) (cons (o a) c) b h.2
            (omega arith) refl) (along (slot_port h.0 1) p (F (cons a c)) h.3)),
      )

  -- where the argument has a part, by its bracket
  left_boxed : (n : ℕ) (p : Port) (q r : Option Port) (F : Context → Context) (a : Level)
      (c : Context) → Before n F → Wires (H N) (L N) n (Some p) q r →
      (w : Level) → ((q ≡ None) → w ≡ a) → ((u : Port) → q ≡ Some u → w ≡ o a) →
      (x : Port) × (r ≡ Some x) × Joined (Quiet N) (numbered_port x, F (cons w c)) (numbered_port p, F (cons a c))
  left_boxed n p None r F a c b h w alone shared = left_wire n p None r F a c b h w alone shared
  left_boxed n p (Some q) r F a c b h w alone shared = left_wire n p
      (Some (slot_port h.0 0)) r F a c b (h.1, h.2, h.5, h.6, h.7) w (λ none. absurd (cc)) (λ u e. shared q refl)

  -- the wire of an argument that is one
  bare_wire : (n : ℕ) (p : Option Port) (q : Port) (r : Option Port) (F : Context → Context)
      (v : Level) (c : Context) → Before n F → Merges (H N) (L N) n p (Some q) r →
      (w : Level) → ((p ≡ None) → w ≡ v) → ((x : Port) → p ≡ Some x → w ≡ star v) →
      (x : Port) × (r ≡ Some x) × Joined (Quiet N) (numbered_port x, F (cons w c)) (numbered_port q, F (cons v c))
  bare_wire n None q r F v c b h w alone shared = let e = alone refl in
      (q, h, subst (λ w. Joined (Quiet N) (numbered_port q, F (cons w c)) (numbered_port q, F (cons v c))) (sym e) here)
  bare_wire n (Some p) q r F v c b h w alone shared =
      let e = shared p refl in (
        slot_port h.0 0,
        h.1,
        subst (λ w. Joined (Quiet N) (nets.slot h.0 0, F (cons w c)) (numbered_port q, F (cons v c))) (sym e)
            (joined_trans (through_node h.0 kind.Fan tt n 1 F (cons v c) (cons (star v) c) b h.2
            (omega arith) refl) (along (slot_port h.0 2) q (F (cons v c)) h.4)),
      )

  -- and on the side of the argument
  right_wire : (n : ℕ) (p : Option Port) (q : Port) (r : Option Port) (F : Context → Context)
      (u v : Level) (c : Context) → Before n F → Wires (H N) (L N) n p (Some q) r →
      (w : Level) → ((p ≡ None) → w ≡ pair u v) → ((x : Port) → p ≡ Some x → w ≡ star (pair u v)) →
      (x : Port) × (r ≡ Some x) × Joined (Quiet N) (numbered_port x, F (cons w c))
      (numbered_port q, F (cons v (cons u c)))
  right_wire n None q r F u v c b h w alone shared =
      let e = alone refl in (
        slot_port h.0 0,
        h.1,
        subst (λ w. Joined (Quiet N) (nets.slot h.0 0, F (cons w c)) (numbered_port q, F (cons v (cons u c)))) (sym e)
            (joined_trans (through_node h.0 kind.Bracket tt n 0 F (cons v (cons u c))
            (cons (pair u v) c) b h.2 (omega arith) refl) (along (slot_port h.0 1) q (F (cons v (cons u c))) h.3)),
      )
  right_wire n (Some p) q r F u v c b h w alone shared =
      let e = shared p refl in (
        slot_port h.1 0,
        h.2,
        subst (λ w. Joined (Quiet N) (nets.slot h.1 0, F (cons w c)) (numbered_port q, F (cons v (cons u c)))) (sym e)
            (joined_trans (through_node h.1 kind.Fan tt n 1 F (cons (pair u v) c)
            (cons (star (pair u v)) c) b h.5 (omega arith) refl)
            (joined_trans (along (slot_port h.1 2) (slot_port h.0 0) (F (cons (pair u v) c)) h.7)
            (joined_trans (through_node h.0 kind.Bracket tt n 0 F (cons v (cons u c))
            (cons (pair u v) c) b h.3 (omega arith) refl)
            (along (slot_port h.0 1) q (F (cons v (cons u c))) h.4)))),
      )

module _ (τ : Translation) (N : NamedNet ℕ) where
  -- what wire_of gives, by whether the wire occurs
  by_occurs : (t : Tree) (y : Wire) (d n k : ℕ) → is_below d t ≡ true → IsInside d y →
      (x w a : Level) → w ≡ (if occurs y t then x else a) →
      (wire_of (key d y) (subnet_of τ t d n k).wires ≡ None → w ≡ a)
      × ((p : Port) → wire_of (key d y) (subnet_of τ t d n k).wires ≡ Some p → w ≡ x)
  by_occurs t y d n k h i x w a e = elim (bool_or N (occurs y t)) [
    | inl o' ↦ (
      λ none. (let there = wire_there τ t y d n k h o' in
          let clash = sym none ∙ there.1 in absurd (cc)),
      λ p some. e ∙ if_true N (occurs y t) x a o',
    )
    | inr o' ↦ (
      λ none. e ∙ if_false N (occurs y t) x a o',
      λ p some. (let none = wire_not τ t y d n k h i o' in let clash = sym none ∙ some in absurd (cc)),
    )
  ]

  -- its wire, at the function's
  pub left_joined : (x : Option ℕ) (M Q : Tree) (d n k : ℕ) (F : Context → Context) → Before n F →
      is_below d (app M Q) ≡ true → (y : Wire) (a w : Level) (c : Context) → occurs y M ≡ true →
      w ≡ left Q y a → bare_variable τ d Q ≡ x →
      Has (H N) (L N) k (applied n k x (subnet_of τ M d n (k + 1)) (argument τ M Q d n k)) →
      Both N (at_port (wire_of (key d y) (applied n k x (subnet_of τ M d n (k + 1))
      (argument τ M Q d n k)).wires) (F (cons w c)))
      (at_port (wire_of (key d y) (subnet_of τ M d n (k + 1)).wires) (F (cons a c)))
  left_joined None M Q d n k F b i y a w c o' e x h =
      let P = subnet_of τ M d n (k + 1) in
      let R = argument τ M Q d n k in
      let A = has_app (H N) (L N) n k P R h in
      let I = and_parts (is_below d M) (is_below d Q) i in
      let W = wire_there τ M y d n (k + 1) I.0 o' in
      let m = by_occurs Q y d (n + 1) (k + 1 + length P.nodes) I.1 (occurs_inside M y d I.0 o') (o a) w a e in
      let j = A.wires (key d y) (few_wires τ (key d y) Q d (n + 1) (k + 1 + length P.nodes)) in
      let r = left_boxed N n W.0 (wire_of (key d y) R.wires) (wire_of (key d y) (application n k P R).wires) F a c b
      (subst (λ x. Wires (H N) (L N) n x (wire_of (key d y) R.wires)
      (wire_of (key d y) (application n k P R).wires)) W.1 j) w m.0 m.1 in
      both N (wire_of (key d y) (application n k P R).wires) (wire_of (key d y) P.wires) r.0 W.0
      (F (cons w c)) (F (cons a c)) r.1 W.1 r.2
  left_joined (Some v) M Q d n k F b i y a w c o' e x h =
      let P = subnet_of τ M d n (k + 1) in
      let A = has_app_to (H N) (L N) n k v P h in
      let I = and_parts (is_below d M) (is_below d Q) i in
      let inside = occurs_inside M y d I.0 o' in
      let W = wire_there τ M y d n (k + 1) I.0 o' in
      let r = left_wire N n W.0 (wire_of (key d y) ((v, slot_port k 2) ∷ []))
      (wire_of (key d y) (application_to n k v P).wires) F a c b
      (subst (λ x. Merges (H N) (L N) n x (wire_of (key d y) ((v, slot_port k 2) ∷ []))
      (wire_of (key d y) (application_to n k v P).wires)) W.1 (A.wires (key d y))) w
      (λ none. e ∙ if_false N (occurs y Q) (o a) a (bare_lacks τ d v Q y (slot_port k 2) x I.1 inside none))
      (λ p some. e ∙ if_true N (occurs y Q) (o a) a (bare_occurs τ d v Q y (slot_port k 2) p x I.1 inside some).0) in
      both N (wire_of (key d y) (application_to n k v P).wires) (wire_of (key d y) P.wires) r.0 W.0
      (F (cons w c)) (F (cons a c)) r.1 W.1 r.2

  -- where the argument is a wire, its own spots stand at slot 2 of the application
  to_slot : (y : Wire) (u : Level) (k : ℕ) (F : Context → Context) (c : Context) → u ≡ empty →
      bare_state (at (wire y) u c) k F ≡ Some (nets.slot k 2, F c)
  to_slot y u k F c e = subst (λ u. bare_state (at (wire y) u c) k F ≡ Some (nets.slot k 2, F c)) (sym e) refl

  -- and at the argument's
  pub right_joined : (x : Option ℕ) (M Q : Tree) (d n k : ℕ) (F : Context → Context) → Before n F →
      is_below d (app M Q) ≡ true → (y : Wire) (u v w : Level) (c : Context) → occurs y Q ≡ true →
      IsRight τ M Q y u v w → bare_variable τ d Q ≡ x →
      Has (H N) (L N) k (applied n k x (subnet_of τ M d n (k + 1)) (argument τ M Q d n k)) →
      Both N (at_port (wire_of (key d y) (applied n k x (subnet_of τ M d n (k + 1))
      (argument τ M Q d n k)).wires) (F (cons w c)))
      (arg_state x (at (wire y) u c) k (λ c. F (cons v c))
      (at_port (wire_of (key d y) (argument τ M Q d n k).wires) (F (cons v (cons u c)))))
  right_joined None M Q d n k F b i y u v w c o' e x h =
      let P = subnet_of τ M d n (k + 1) in
      let R = argument τ M Q d n k in
      let A = has_app (H N) (L N) n k P R h in
      let I = and_parts (is_below d M) (is_below d Q) i in
      let W = wire_there τ Q y d (n + 1) (k + 1 + length P.nodes) I.1 o' in
      let m = by_occurs M y d n (k + 1) I.0 (occurs_inside Q y d I.1 o') (star (pair u v)) w
      (pair u v) (right_packed M y u v (has_box τ d Q x) e) in
      let j = A.wires (key d y) (few_wires τ (key d y) Q d (n + 1) (k + 1 + length P.nodes)) in
      let r = right_wire N n (wire_of (key d y) P.wires) W.0 (wire_of (key d y) (application n k P R).wires) F u v c b
      (subst (λ x. Wires (H N) (L N) n (wire_of (key d y) P.wires) x
      (wire_of (key d y) (application n k P R).wires)) W.1 j) w m.0 m.1 in
      both N (wire_of (key d y) (application n k P R).wires) (wire_of (key d y) R.wires) r.0 W.0
      (F (cons w c)) (F (cons v (cons u c))) r.1 W.1 r.2
  right_joined (Some z) M Q d n k F b i y u v w c o' e x h =
      let P = subnet_of τ M d n (k + 1) in
      let A = has_app_to (H N) (L N) n k z P h in
      let I = and_parts (is_below d M) (is_below d Q) i in
      let inside = occurs_inside Q y d I.1 o' in
      let t = is_wire τ d z Q x in
      let m = by_occurs M y d n (k + 1) I.0 inside (star v) w v (right_bare M y u v t e) in
      let r = bare_wire N n (wire_of (key d y) P.wires) (slot_port k 2)
      (wire_of (key d y) (application_to n k z P).wires) F v c b
      (subst (λ x. Merges (H N) (L N) n (wire_of (key d y) P.wires) x
      (wire_of (key d y) (application_to n k z P).wires))
      (bare_there τ d z Q y (slot_port k 2) x I.1 inside o') (A.wires (key d y))) w m.0 m.1 in
      record {
        first = (numbered_port r.0, F (cons w c));
        second = (nets.slot k 2, F (cons v c));
        from = ap (λ x. at_port x (F (cons w c))) r.1;
        to = to_slot y u k (λ c. F (cons v c)) c (e.level t);
        joined = r.2;
      }

  -- the spots of a wire's own occurrence are one
  one_state : (Q : Tree) (d x k : ℕ) (F : Context → Context) {s z : Spot} {m : ℕ} →
      bare_variable τ d Q ≡ Some x → Edge τ Q s z m → Both N (bare_state s k F) (bare_state z k F)
  one_state Q d x k F f (var_wire {v = v} {c = c} {d = c'} e) = record {
    first = (
      nets.slot k 2,
      F (cons v c),
    );
    second = (nets.slot k 2, F c');
    from = refl;
    to = refl;
    joined = subst (λ x. Joined (Quiet N) (nets.slot k 2, F (cons v c)) (nets.slot k 2, F x)) (sym e) here;
  }
  one_state Q d x k F f (free_wire {v = v} {c = c} {d = c'} e) = record {
    first = (
      nets.slot k 2,
      F (cons v c),
    );
    second = (nets.slot k 2, F c');
    from = refl;
    to = refl;
    joined = subst (λ x. Joined (Quiet N) (nets.slot k 2, F (cons v c)) (nets.slot k 2, F x)) (sym e) here;
  }
  one_state Q d x k F f (lam_root {M = M}) = absurd (no_lam τ d x M f)
  one_state Q d x k F f (lam_own {M = M} m) = absurd (no_lam τ d x M f)
  one_state Q d x k F f (lam_wire {M = M} e m) = absurd (no_lam τ d x M f)
  one_state Q d x k F f (in_body {M = M} e) = absurd (no_lam τ d x M f)
  one_state Q d x k F f (app_root {M = M} {N = R}) = absurd (no_app τ d x M R f)
  one_state Q d x k F f (app_arg {M = M} {N = R} e) = absurd (no_app τ d x M R f)
  one_state Q d x k F f (app_left {M = M} {N = R} m e) = absurd (no_app τ d x M R f)
  one_state Q d x k F f (app_right {M = M} {N = R} m e) = absurd (no_app τ d x M R f)
  one_state Q d x k F f (in_fun {M = M} {N = R} e) = absurd (no_app τ d x M R f)
  one_state Q d x k F f (in_arg {M = M} {N = R} e) = absurd (no_app τ d x M R f)

  -- an edge of the argument
  pub quiet_argument : (x : Option ℕ) (Q : Tree) (d k : ℕ) (F : Context → Context) (s z : Spot)
      (own own' : Option S) {m : ℕ} → bare_variable τ d Q ≡ x → Edge τ Q s z m →
      (bare_variable τ d Q ≡ None → Both N own own') →
      Both N (arg_state x s k F own) (arg_state x z k F own')
  quiet_argument None Q d k F s z own own' e g rest = rest e
  quiet_argument (Some x) Q d k F s z own own' e g rest = one_state Q d x k F e g
