-- What is read along the edges of a labelled term's spots is what a walk over its net reads.
use Rattle.std.proofs.Common.{◌≡◌, ℕ, zero, suc, ◌<◌, ◌+◌, true, false, [], ◌∷◌, ◌++◌, length, Option}
use Rattle.std.proofs.Common.{None, Some, refl, sym, ap, ◌∙◌, arith, subst, eq-eqb}
use Rattle.std.proofs.lemmas.Bool.{and_parts}
use Rattle.ol_law_edges.specs.Edges.{Joined, here}
use Rattle.ol_law_edges.specs.Edges as edges
use Rattle.ol_law_edges.proofs.Joining.{joined_trans, joined_sym, joined_image}
use Rattle.ol_context.specs.Contexts.{Level, empty, o, star, Context, cons, change, up}
use Rattle.ol_law_optimality.proofs.Sites.{Is}
use Rattle.ol_net.specs.Numbered.{numbered_port}
use Rattle.ol_net.specs.Nets.{NamedPort, NamedNet, HasNode, Linked, slot}
use Rattle.ol_net.specs.Parts.{arity}
use Rattle.ol_net.specs.declared.parts.Kind.{Kind}
use Rattle.ol_net.specs.declared.parts.Kind.TheVariants as kind
use Rattle.ol_net.specs.declared.parts.Port.{Port}
use Rattle.ol_law_optimality.specs.Labels.{Label, none, atom, Labelled, erased}
use Rattle.ol_law_optimality.specs.Labels as labels
use Rattle.ol_law_meaning.specs.Sites.{Site, in_argument, spot_in, depth, context_at, function_at}
use Rattle.ol_law_meaning.specs.Sites.{PartAt, whole, of_lam, of_function, of_argument}
use Rattle.ol_law_meaning.specs.Spots.{Wire, bound, name, occurs, Place, root, wire, Spot, at, body, fun, arg, Edge}
use Rattle.ol_law_meaning.specs.Spots.{var_wire, free_wire, lam_root, lam_own, lam_wire, app_root, app_arg, app_left}
use Rattle.ol_law_meaning.specs.Spots.{app_right, in_body, in_fun, in_arg, Trail, on, back}
use Rattle.ol_law_meaning.specs.Spots as spots
use Rattle.ol_law_meaning.proofs.Bare.{no_lam, no_app}
use Rattle.ol_law_meaning.proofs.Fans.{outside_wire}
use Rattle.ol_law_meaning.proofs.Parts.{Has, argument, has_lam, has_app, has_app_to, has_head}
use Rattle.ol_law_meaning.proofs.Parts.{applied_root, key, key_under, wire_there}
use Rattle.ol_law_meaning.proofs.States.{Before, before_arg, before_all, S, H, L, at_port, bare_state, arg_state, state}
use Rattle.ol_law_meaning.proofs.Whole.{has_part}
use Rattle.ol_term.specs.Trees.{Tree, var, free, lam, app, is_below}
use Rattle.ol_term.specs.declared.translations.Translation.{Translation}
use Rattle.ol_translate.specs.Names.{HasNames}
use Rattle.ol_translate.specs.Translation.{Subnet, subnet_of, applied, bare_variable, bound_port, wire_of, slot_port}
use Rattle.ol_translate.specs.Translation.{translation_of}
use Rattle.ol_law_optimality.specs.Signs.{letter_of, begins_over, ends_over, begins_under, ends_under, Signs, onward}
use Rattle.ol_law_optimality.specs.Signs.{backward, reversed, signs_of}
use Rattle.ol_law_optimality.specs.Readings.{label_of, function_label, reading, word_along, Acting, moved}
use Rattle.ol_law_optimality.proofs.Motions.{moved_append, moved_back, moved_there}
use Rattle.ol_law_optimality.proofs.Quiet.{IsQuiet, Quiet, link, node, Both, both, through_node}
use Rattle.ol_law_optimality.proofs.Quiet.{left_joined, right_joined, quiet_argument}

-- what is read at a node from slot s + 1 to slot 0
abbrev pub rising : {A : Type 0} → (A → ℕ → ℕ) → Kind → A → ℕ → Signs
rising letter kind.App x zero = onward begins_over ∷ onward (letter_of (letter x 0)) ∷ []
rising letter kind.App x (suc s) =
    backward (letter_of (letter x 2)) ∷ backward ends_under ∷ onward (letter_of (letter x 0)) ∷ []
rising letter kind.Lam x zero = backward (letter_of (letter x 1)) ∷ backward ends_over ∷ []
rising letter kind.Lam x (suc s) = onward begins_under ∷ []
rising letter kind.Fan x s = []
rising letter kind.Croissant x s = []
rising letter kind.Bracket x s = []
rising letter kind.Eraser x s = []

-- each subterm of an application or an abstraction has the letter of its edge: the term stands under d
-- abstractions, at level n, and its first node has number k
abbrev pub AreLettered : Translation → (ℕ → ℕ → ℕ) → Labelled → (d n k : ℕ) → Type 0
AreLettered τ letter (labels.var y w) d n k = Unit {0}
AreLettered τ letter (labels.free f w) d n k = Unit {0}
AreLettered τ letter (labels.lam b w) d n k =
    (label_of b ≡ atom (letter k 1) none) × AreLettered τ letter b (d + 1) n (k + 1)
AreLettered τ letter (labels.app f a w) d n k =
    (label_of f ≡ atom (letter k 0) none) × (label_of a ≡ atom (letter k 2) none)
    × AreLettered τ letter f d n (k + 1)
    × AreLettered τ letter a d (n + 1) (k + 1 + length (subnet_of τ (erased f) d n (k + 1)).nodes)

module _ (N : NamedNet ℕ) (letter : ℕ → ℕ → ℕ) (r : Acting) where
  -- a move of a walk, and what its motion makes of signs
  pub data Heard : S × Signs → S × Signs → Type 0 where
    linked : {p q : NamedPort ℕ} {c : Context} {y : Signs} → Linked N p q → Heard ((p, c), y) ((q, c), y)
    crossed : {x s : ℕ} {c d : Context} {y z : Signs} (k : Kind) (i : ℕ) → HasNode N x k i → s < arity k →
        up k i s c ≡ d → z ≡ moved r (rising letter k x s) y →
        Heard ((slot x 0, d), z) ((slot x (suc s), c), y)

  quiet_still : (k : Kind) → IsQuiet k → (x s : ℕ) (y : Signs) → y ≡ moved r (rising letter k x s) y
  quiet_still kind.App q x s y = absurd q
  quiet_still kind.Lam q x s y = absurd q
  quiet_still kind.Fan q x s y = refl
  quiet_still kind.Croissant q x s y = refl
  quiet_still kind.Bracket q x s y = refl
  quiet_still kind.Eraser q x s y = refl

  one_quiet : (y : Signs) (u v : S) → Quiet N u v → Joined Heard (u, y) (v, y)
  one_quiet y u v (link l) = edges.on here (linked l)
  one_quiet y u v (node {x = x} {s = s} k i h q low e) = edges.on here (crossed k i h low e (quiet_still k q x s y))

  pub all_quiet : (y : Signs) {u v : S} → Joined (Quiet N) u v → Joined Heard (u, y) (v, y)
  all_quiet y j = joined_image (λ u. (u, y)) (one_quiet y) j

  along_link : (p q : Port) (c : Context) (y : Signs) → L N p q →
      Joined Heard ((numbered_port p, c), y) ((numbered_port q, c), y)
  along_link p q c y l = edges.on here (linked l)

  -- a crossing from slot 0, and one to it
  fallen : (x : ℕ) (K : Kind) (n s : ℕ) (F : Context → Context) (c d : Context) (g : Signs) (y : Signs) → Before n F →
      HasNode N x K n → s < arity K → change K s c ≡ d → rising letter K x s ≡ reversed g →
      Joined Heard ((slot x 0, F d), y) ((slot x (suc s), F c), moved r g y)
  fallen x K n s F c d g y b h low e f = edges.on here
      (crossed K n h low (b.passes (change K s) c ∙ ap F e) (sym (ap (λ a. moved r a (moved r g y)) f
      ∙ moved_back r g y)))

  risen : (x : ℕ) (K : Kind) (n s : ℕ) (F : Context → Context) (c d : Context) (y : Signs) → Before n F →
      HasNode N x K n → s < arity K → change K s c ≡ d →
      Joined Heard ((slot x (suc s), F c), y) ((slot x 0, F d), moved r (rising letter K x s) y)
  risen x K n s F c d y b h low e = edges.back here (crossed K n h low (b.passes (change K s) c ∙ ap F e) refl)

-- two spots whose states are joined by moves with this motion
pub record Hears (N : NamedNet ℕ) (letter : ℕ → ℕ → ℕ) (x y : Option S) (g : Signs) : Type 0 where
  pub first : S
  pub second : S
  pub from : x ≡ Some first
  pub to : y ≡ Some second
  pub joined : (r : Acting) (z : Signs) → Joined (Heard N letter r) (first, z) (second, moved r g z)

module _ (N : NamedNet ℕ) (letter : ℕ → ℕ → ℕ) where
  of_quiet : {x y : Option S} → Both N x y → Hears N letter x y []
  of_quiet b = record {
    first = b.first;
    second = b.second;
    from = b.from;
    to = b.to;
    joined = λ r z. all_quiet N letter r z b.joined;
  }

  hears : (x y : Option Port) (p q : Port) (c d : Context) (g : Signs) → x ≡ Some p → y ≡ Some q →
      ((r : Acting) (z : Signs) → Joined (Heard N letter r) ((numbered_port p, c), z) (
        (numbered_port q, d),
        moved r g z,
      )) →
      Hears N letter (at_port x c) (at_port y d) g
  hears x y p q c d g e e' j = record {
    first = (numbered_port p, c);
    second = (numbered_port q, d);
    from = ap (λ x. at_port x c) e;
    to = ap (λ y. at_port y d) e';
    joined = j;
  }

module _ (τ : Translation) (N : NamedNet ℕ) (letter : ℕ → ℕ → ℕ) where
  -- an application's root at the function, and at the argument
  arg_hears : (x : Option ℕ) (P R : Subnet) (n k : ℕ) (F : Context → Context) → Before n F →
      (v u : Level) (c c' : Context) → c ≡ cons u c' → Has (H N) (L N) k (applied n k x P R) → (g : Signs) →
      rising letter kind.App k 1 ≡ reversed g →
      Hears N letter (at_port (Some P.root) (F (cons (star v) c)))
      (arg_state x (at root u c') k (λ c. F (cons v c)) (at_port (Some R.root) (F (cons v (cons u c'))))) g
  arg_hears None P R n k F b v u c c' e h g f =
      let A = has_app (H N) (L N) n k P R h in
      hears N letter (Some P.root) (Some R.root) P.root R.root (F (cons (star v) c)) (F (cons v
      (cons u c'))) g refl refl
      (λ r z. subst (λ x. Joined (Heard N letter r) ((numbered_port P.root, F (cons (star v) c)), z)
      ((numbered_port R.root, F (cons v x)), moved r g z)) e
      (joined_trans (joined_sym (along_link N letter r (slot_port k 0) P.root (F (cons (star v) c)) z A.link))
      (joined_trans (fallen N letter r k kind.App n 1 F (cons v c) (cons (star v) c) g z b A.node
      (omega arith) refl f) (along_link N letter r (slot_port k 2) R.root (F (cons v c)) (moved r g z) A.arg_link))))
  arg_hears (Some y) P R n k F b v u c c' e h g f =
      let A = has_app_to (H N) (L N) n k y P h in
      hears N letter (Some P.root) (Some (slot_port k 2)) P.root (slot_port k 2) (F (cons (star v) c))
      (F (cons v (cons u c'))) g refl refl
      (λ r z. subst (λ x. Joined (Heard N letter r) ((numbered_port P.root, F (cons (star v) c)), z)
      ((slot k 2, F (cons v x)), moved r g z)) e
      (joined_trans (joined_sym (along_link N letter r (slot_port k 0) P.root (F (cons (star v) c)) z A.link))
      (fallen N letter r k kind.App n 1 F (cons v c) (cons (star v) c) g z b A.node (omega arith) refl f)))

  -- at an argument that is a wire nothing is read
  no_reading : (d x : ℕ) (a : Labelled) (s z : Spot) → bare_variable τ d (erased a) ≡ Some x → reading a s z ≡ []
  no_reading d x (labels.var y w) s z e = refl
  no_reading d x (labels.free f w) s z e = refl
  no_reading d x (labels.lam b w) s z e = absurd (no_lam τ d x (erased b) e)
  no_reading d x (labels.app f a w) s z e = absurd (no_app τ d x (erased f) (erased a) e)

  arg_edge : (x : Option ℕ) (a : Labelled) (d k : ℕ) (F : Context →
      Context) (s z : Spot) (own own' : Option S) {m : ℕ} →
      bare_variable τ d (erased a) ≡ x → Edge τ (erased a) s z m →
      (bare_variable τ d (erased a) ≡ None → Hears N letter own own' (reading a s z)) →
      Hears N letter (arg_state x s k F own) (arg_state x z k F own') (reading a s z)
  arg_edge None a d k F s z own own' e g rest = rest e
  arg_edge (Some x) a d k F s z own own' e g rest =
      subst (Hears N letter (bare_state s k F) (bare_state z k F)) (sym (no_reading d x a s z e))
      (of_quiet N letter (quiet_argument τ N (Some x) (erased a) d k F s z own own' e g (λ none. absurd
      (let q = sym e ∙ none in cc))))

  pub edge_hears : (T : Labelled) {s z : Spot} {m : ℕ} → Edge τ (erased T) s z m → (d n k : ℕ) (F : Context → Context) →
      Before n F → is_below d (erased T) ≡ true → Has (H N) (L N) k (subnet_of τ (erased T) d n k) →
      AreLettered τ letter T d n k →
      Hears N letter (state τ s (erased T) d n k F) (state τ z (erased T) d n k F) (reading T s z)
  edge_hears (labels.var y w) (var_wire {v = v} {c = c} {d = c'} e) d n k F b i h q =
      let own : wire_of y ((y, slot_port k 0) ∷ []) ≡ Some (slot_port k 0) = rw (eq-eqb y y refl) refl in
      of_quiet N letter (both N (Some (slot_port k 1)) (wire_of y ((y, slot_port k 0) ∷ [])) (slot_port k 1)
      (slot_port k 0) (F (cons v c)) (F (cons empty c')) refl own
      (joined_sym (through_node N k kind.Croissant tt n 0 F (cons v c) (cons empty c') b h.nodes.0
      (omega arith) (ap (cons empty) (sym e)))))
  edge_hears (labels.free f w) (free_wire {v = v} {c = c} {d = c'} e) d n k F b i h q =
      let own : wire_of (d + f) ((d + f, slot_port k 0) ∷ []) ≡ Some (slot_port k 0) = rw
      (eq-eqb (d + f) (d + f) refl) refl in
      of_quiet N letter (both N (Some (slot_port k 1)) (wire_of (d + f) ((d + f, slot_port k 0) ∷ [])) (slot_port k 1)
      (slot_port k 0) (F (cons v c)) (F (cons empty c')) refl own
      (joined_sym (through_node N k kind.Croissant tt n 0 F (cons v c) (cons empty c') b h.nodes.0
      (omega arith) (ap (cons empty) (sym e)))))
  edge_hears (labels.lam t w) (lam_root {v = v} {c = c}) d n k F b i h q =
      let P = subnet_of τ (erased t) (d + 1) n (k + 1) in
      let A = has_lam (H N) (L N) n k P h in
      let g : Signs = onward ends_over ∷ signs_of (label_of t) in
      hears N letter (Some (slot_port k 0)) (Some P.root) (slot_port k 0) P.root (F (cons (o v) c)) (F
      (cons v c)) g refl refl
      (λ r z. joined_trans (fallen N letter r k kind.Lam n 0 F (cons v c) (cons (o v) c) g z b A.node
      (omega arith) refl (ap (λ l. reversed (onward ends_over ∷ signs_of l)) (sym q.0)))
      (along_link N letter r (slot_port k 1) P.root (F (cons v c)) (moved r g z) A.link))
  edge_hears (labels.lam t w) (lam_own {a = a} {c = c} o') d n k F b i h q =
      let P = subnet_of τ (erased t) (d + 1) n (k + 1) in
      let A = has_lam (H N) (L N) n k P h in
      let W = wire_there τ (erased t) (bound 0) (d + 1) n (k + 1) i o' in
      let g : Signs = backward begins_under ∷ [] in
      hears N letter (Some (slot_port k 0)) (wire_of 0 P.wires) (slot_port k 0) W.0 (F (cons (star a) c))
      (F (cons a c)) g refl W.1
      (λ r z. joined_trans (fallen N letter r k kind.Lam n 1 F (cons a c) (cons (star a) c) g z b A.node
      (omega arith) refl refl)
      (along_link N letter r (slot_port k 2) W.0 (F (cons a c)) (moved r g z)
      (subst (λ x. L N (slot_port k 2) (bound_port x (k + 1 + length P.nodes))) W.1 A.var_link)))
  edge_hears (labels.lam t w) (lam_wire {y = y} {z = z} {a = a} {c = c} e o') d n k F b i h q =
      let P = subnet_of τ (erased t) (d + 1) n (k + 1) in
      let W = wire_there τ (erased t) z (d + 1) n (k + 1) i o' in
      let same : suc (key d y) ≡ key (d + 1) z = sym (key_under d y) ∙ ap (key (d + 1)) (sym e) in
      of_quiet N letter (both N (wire_of (key d y) (subnet_of τ (lam (erased t)) d n k).wires)
      (wire_of (key (d + 1) z) P.wires) W.0 W.0 (F (cons a c)) (F (cons a c))
      (outside_wire (key d y) P.wires ∙ ap (λ v. wire_of v P.wires) same ∙ W.1) W.1 here)
  edge_hears (labels.lam t w) (in_body {s = s} {s' = z} e) d n k F b i h q =
      let r = edge_hears t e (d + 1) n (k + 1) F b i
      (has_lam (H N) (L N) n k (subnet_of τ (erased t) (d + 1) n (k + 1)) h).part q.1 in
      record { first = r.first; second = r.second; from = r.from; to = r.to; joined = r.joined }
  edge_hears (labels.app f a w) (app_root {v = v} {c = c}) d n k F b i h q =
      let P = subnet_of τ (erased f) d n (k + 1) in
      let A = has_head (H N) (L N) n k (bare_variable τ d (erased a)) P (argument τ (erased f) (erased a) d n k) h in
      let g : Signs = onward begins_over ∷ signs_of (label_of f) in
      hears N letter (Some (subnet_of τ (app (erased f) (erased a)) d n k).root) (Some P.root) (slot_port k 1) P.root
      (F (cons v c)) (F (cons (o v) c)) g (ap Some
      (applied_root n k (bare_variable τ d (erased a)) P (argument τ (erased f) (erased a) d n k))) refl
      (λ r z. subst (λ l. Joined (Heard N letter r) ((slot k 1, F (cons v c)), z)
      ((numbered_port P.root, F (cons (o v) c)), moved r (onward begins_over ∷ signs_of l) z)) (sym q.0)
      (joined_trans (risen N letter r k kind.App n 0 F (cons v c) (cons (o v) c) z b A.node
      (omega arith) refl) (along_link N letter r (slot_port k 0) P.root (F (cons (o v) c))
      (moved r (rising letter kind.App k 0) z) A.link)))
  edge_hears (labels.app f a w) (app_arg {v = v} {u = u} {c = c} {d = c'} e) d n k F b i h q =
      arg_hears (bare_variable τ d (erased a)) (subnet_of τ (erased f) d n (k + 1)) (argument τ (erased f)
      (erased a) d n k)
      n k F b v u c c' e h (reversed (signs_of (label_of f)) ++ onward ends_under ∷ signs_of (label_of a))
      (ap (λ l. reversed (reversed (signs_of l) ++ onward ends_under ∷ signs_of (atom (letter k 2) none))) (sym q.0)
      ∙ ap (λ l. reversed (reversed (signs_of (label_of f)) ++ onward ends_under ∷ signs_of l)) (sym q.1))
  edge_hears (labels.app f a w) (app_left {y = y} {a = l} {w = w'} {c = c} m e) d n k F b i h q =
      of_quiet N letter (left_joined τ N (bare_variable τ d (erased a)) (erased f)
      (erased a) d n k F b i y l w' c m e refl h)
  edge_hears (labels.app f a w) (app_right {y = y} {b = u} {v = v} {w = w'} {c = c} m e) d n k F b i h q =
      of_quiet N letter (right_joined τ N (bare_variable τ d (erased a)) (erased f)
      (erased a) d n k F b i y u v w' c m e refl h)
  edge_hears (labels.app f a w) (in_fun e) d n k F b i h q =
      let r = edge_hears f e d n (k + 1) F b (and_parts (is_below d (erased f)) (is_below d (erased a)) i).0
      (has_head (H N) (L N) n k (bare_variable τ d (erased a)) (subnet_of τ (erased f) d n (k + 1))
      (argument τ (erased f) (erased a) d n k) h).function q.2 in
      record { first = r.first; second = r.second; from = r.from; to = r.to; joined = r.joined }
  edge_hears (labels.app f a w) (in_arg {v = v} {s = s} {s' = z} e) d n k F b i h q =
      let r = arg_edge (bare_variable τ d (erased a)) a d k (λ c. F (cons v c)) s z
      (state τ s (erased a) d (n + 1) (k + 1 + length (subnet_of τ (erased f) d n (k + 1)).nodes) (λ c. F (cons v c)))
      (state τ z (erased a) d (n + 1) (k + 1 + length (subnet_of τ (erased f) d n (k + 1)).nodes) (λ c. F
      (cons v c))) refl e
      (λ none. edge_hears a e d (n + 1) (k + 1 + length (subnet_of τ (erased f) d n (k + 1)).nodes)
      (λ c. F (cons v c)) (before_arg n F v b) (and_parts (is_below d (erased f)) (is_below d (erased a)) i).1
      (has_app (H N) (L N) n k (subnet_of τ (erased f) d n (k + 1)) (argument τ (erased f) (erased a) d n k)
      (subst (λ o. Has (H N) (L N) k (applied n k o (subnet_of τ (erased f) d n (k + 1))
      (argument τ (erased f) (erased a) d n k))) none h)).argument q.3) in
      record { first = r.first; second = r.second; from = r.from; to = r.to; joined = r.joined }

  -- ---- an abstraction is at its principal port

  no_lam_in : {t u : Tree} {p : Site} (d x : ℕ) → PartAt t p u → Is false u → bare_variable τ d t ≡ Some x → ⊥
  no_lam_in {u = lam M} d x whole q e = absurd (no_lam τ d x M e)
  no_lam_in {u = var _} d x whole q e = absurd q
  no_lam_in {u = free _} d x whole q e = absurd q
  no_lam_in {u = app _ _} d x whole q e = absurd q
  no_lam_in d x (of_lam {M = M} k) q e = absurd (no_lam τ d x M e)
  no_lam_in d x (of_function {M = M} {N = Q} k) q e = absurd (no_app τ d x M Q e)
  no_lam_in d x (of_argument {M = M} {N = Q} k) q e = absurd (no_app τ d x M Q e)

  pub record LamAt (t : Tree) (d n k : ℕ) (F : Context → Context) (p : Site) : Type 0 where
    pub node : ℕ
    pub index : HasNode N node kind.Lam (n + depth p)
    pub is : (v : Level) (c : Context) →
        state τ (spot_in p (at root v c)) t d n k F ≡ Some (slot node 0, F (context_at p (cons v c)))

  pub lam_at : {t u : Tree} {p : Site} (d n k : ℕ) (F : Context → Context) → PartAt t p u → Is false u →
      Has (H N) (L N) k (subnet_of τ t d n k) → LamAt t d n k F p
  lam_at {u = lam M} d n k F whole q h = record {
    node = k;
    index = subst (λ i. HasNode N k kind.Lam i) (let e : n ≡ n + 0 = omega arith in e)
        (has_lam (H N) (L N) n k (subnet_of τ M (d + 1) n (k + 1)) h).node;
    is = λ v c. refl;
  }
  lam_at {u = var _} d n k F whole q h = absurd q
  lam_at {u = free _} d n k F whole q h = absurd q
  lam_at {u = app _ _} d n k F whole q h = absurd q
  lam_at d n k F (of_lam {M = M} w) q h =
      let r = lam_at (d + 1) n (k + 1) F w q (has_lam (H N) (L N) n k (subnet_of τ M (d + 1) n (k + 1)) h).part in
      record { node = r.node; index = r.index; is = λ v c. r.is v c }
  lam_at d n k F (of_function {M = M} {N = Q} w) q h =
      let r = lam_at d n (k + 1) F w q (has_head (H N) (L N) n k (bare_variable τ d Q) (subnet_of τ M d n (k + 1))
      (argument τ M Q d n k) h).function in
      record { node = r.node; index = r.index; is = λ v c. r.is v c }
  lam_at d n k F (of_argument {M = M} {N = Q} {p = p} {v = v} w) q h =
      by (λ F h. lam_at d (n + 1) (k + 1 + length (subnet_of τ M d n (k + 1)).nodes) F w q h) (bare_variable τ d Q) refl
    where
      by : ((F : Context → Context) → Has (H N) (L N) (k + 1 + length (subnet_of τ M d n (k + 1)).nodes)
          (subnet_of τ Q d (n + 1) (k + 1 + length (subnet_of τ M d n (k + 1)).nodes)) →
          LamAt Q d (n + 1) (k + 1 + length (subnet_of τ M d n (k + 1)).nodes) F p) →
          (x : Option ℕ) → bare_variable τ d Q ≡ x → LamAt (app M Q) d n k F (in_argument v p)
      by rec (Some x) e = absurd (no_lam_in d x w q e)
      by rec None e =
          let r = rec (λ c. F (cons v c))
          (has_app (H N) (L N) n k (subnet_of τ M d n (k + 1)) (argument τ M Q d n k)
          (subst (λ o. Has (H N) (L N) k (applied n k o (subnet_of τ M d n (k + 1))
          (argument τ M Q d n k))) e h)).argument in
          record {
            node = r.node;
            index = subst (λ i. HasNode N r.node kind.Lam i) (let z : n + 1 + depth p ≡ n + suc
                (depth p) = omega arith in z) r.index;
            is = λ u c. ap (λ o. arg_state o (spot_in p (at root u c)) k (λ c. F (cons v c))
                (state τ (spot_in p (at root u c)) Q d (n + 1)
                (k + 1 + length (subnet_of τ M d n (k + 1)).nodes) (λ c. F (cons v c)))) e ∙ r.is u c;
          }

module _ (τ : Translation) (N : NamedNet ℕ) (letter : ℕ → ℕ → ℕ) where
  -- ---- the function of an application

  pub record FunctionAt (T : Labelled) (d n k : ℕ) (F : Context → Context) (p : Site) : Type 0 where
    pub node : ℕ
    pub index : HasNode N node kind.App (n + depth p)
    pub port : Port
    pub is : (v : Level) (c : Context) → state τ (function_at p v c) (erased T) d n k F
        ≡ Some (numbered_port port, F (context_at p (cons v c)))
    pub link : L N (slot_port node 0) port
    pub label : function_label T p ≡ atom (letter node 0) none

  no_app_in : {t u : Tree} {p : Site} (d x : ℕ) → PartAt t p u → Is true u → bare_variable τ d t ≡ Some x → ⊥
  no_app_in {u = app M Q} d x whole q e = absurd (no_app τ d x M Q e)
  no_app_in {u = var _} d x whole q e = absurd q
  no_app_in {u = free _} d x whole q e = absurd q
  no_app_in {u = lam _} d x whole q e = absurd q
  no_app_in d x (of_lam {M = M} k) q e = absurd (no_lam τ d x M e)
  no_app_in d x (of_function {M = M} {N = Q} k) q e = absurd (no_app τ d x M Q e)
  no_app_in d x (of_argument {M = M} {N = Q} k) q e = absurd (no_app τ d x M Q e)

  pub function_is : (T : Labelled) {u : Tree} {p : Site} (d n k : ℕ) (F : Context → Context) → PartAt (erased T) p u →
      Is true u → Has (H N) (L N) k (subnet_of τ (erased T) d n k) → AreLettered τ letter T d n k →
      FunctionAt T d n k F p
  function_is (labels.var y w) d n k F whole q h g = absurd q
  function_is (labels.free f w) d n k F whole q h g = absurd q
  function_is (labels.lam b w) d n k F whole q h g = absurd q
  function_is (labels.lam b w) d n k F (of_lam m) q h g =
      let r = function_is b (d + 1) n (k + 1) F m q
      (has_lam (H N) (L N) n k (subnet_of τ (erased b) (d + 1) n (k + 1)) h).part g.1 in
      record { node = r.node; index = r.index; port = r.port; is = λ v c. r.is v c; link = r.link; label = r.label }
  function_is (labels.app f a w) d n k F whole q h g = record {
    node = k;
    index = subst (λ i. HasNode N k kind.App i) (let e : n ≡ n + 0 = omega arith in e)
        (has_head (H N) (L N) n k (bare_variable τ d (erased a)) (subnet_of τ (erased f) d n (k + 1))
        (argument τ (erased f) (erased a) d n k) h).node;
    port = (subnet_of τ (erased f) d n (k + 1)).root;
    is = λ v c. refl;
    link = (has_head (H N) (L N) n k (bare_variable τ d (erased a)) (subnet_of τ (erased f) d n (k + 1))
        (argument τ (erased f) (erased a) d n k) h).link;
    label = g.0;
  }
  function_is (labels.app f a w) d n k F (of_function m) q h g =
      let r = function_is f d n (k + 1) F m q (has_head (H N) (L N) n k (bare_variable τ d (erased a))
      (subnet_of τ (erased f) d n (k + 1)) (argument τ (erased f) (erased a) d n k) h).function g.2 in
      record { node = r.node; index = r.index; port = r.port; is = λ v c. r.is v c; link = r.link; label = r.label }
  function_is (labels.app f a w) d n k F (of_argument {p = p} {v = v} m) q h g =
      by (λ F h. function_is a d (n + 1) (k + 1 + length (subnet_of τ (erased f) d n (k + 1)).nodes) F m q h g.3)
      (bare_variable τ d (erased a)) refl
    where
      by : ((F : Context → Context) →
          Has (H N) (L N) (k + 1 + length (subnet_of τ (erased f) d n (k + 1)).nodes)
          (subnet_of τ (erased a) d (n + 1) (k + 1 + length (subnet_of τ (erased f) d n (k + 1)).nodes)) →
          FunctionAt a d (n + 1) (k + 1 + length (subnet_of τ (erased f) d n (k + 1)).nodes) F p) →
          (x : Option ℕ) → bare_variable τ d (erased a) ≡ x → FunctionAt (labels.app f a w) d n k F (in_argument v p)
      by rec (Some x) e = absurd (no_app_in d x m q e)
      by rec None e =
          let r = rec (λ c. F (cons v c))
          (has_app (H N) (L N) n k (subnet_of τ (erased f) d n (k + 1)) (argument τ (erased f) (erased a) d n k)
          (subst (λ o. Has (H N) (L N) k (applied n k o (subnet_of τ (erased f) d n (k + 1))
          (argument τ (erased f) (erased a) d n k))) e h)).argument in
          record {
            node = r.node;
            index = subst (λ i. HasNode N r.node kind.App i) (let z : n + 1 + depth p ≡ n + suc
                (depth p) = omega arith in z) r.index;
            port = r.port;
            is = λ u c. ap (λ o. arg_state o (function_at p u c) k (λ c. F (cons v c))
                (state τ (function_at p u c) (erased a) d (n + 1)
                (k + 1 + length (subnet_of τ (erased f) d n (k + 1)).nodes) (λ c. F (cons v c)))) e ∙ r.is u c;
            link = r.link;
            label = r.label;
          }

-- ---- along a trail of the whole term

module _ (τ : Translation) (T : Labelled) (names : ℕ) (h : HasNames (erased T) names) (letter : ℕ → ℕ → ℕ)
    (are : AreLettered τ letter T 0 0 0) where
  abbrev N : NamedNet ℕ
  N = translation_of τ (erased T) names

  abbrev pub stands : Spot → Option S
  stands s = state τ s (erased T) 0 0 0 (λ c. c)

  of_edge : {s z : Spot} {m : ℕ} → Edge τ (erased T) s z m → Hears (translation_of τ (erased T) names) letter
      (stands s) (stands z) (reading T s z)
  of_edge e = edge_hears τ (translation_of τ (erased T) names) letter T e 0 0 0 (λ c. c) before_all h.bound
      (has_part τ (erased T) names h) are

  same_state : (x : Option S) (u v : S) → x ≡ Some u → x ≡ Some v → ◌≡◌ {A = S} u v
  same_state x u v e f = let k : ◌≡◌ {A = Option S} (Some u) (Some v) = sym e ∙ f in cc

  pub trail_heard : {s z : Spot} {m : ℕ} (t : Trail (Edge τ (erased T)) s z m) (u : S) → stands s ≡ Some u →
      (v : S) × (stands z ≡ Some v) × ((r : Acting) (y : Signs) →
      Joined (Heard (translation_of τ (erased T) names) letter r) (u, y) (v, moved r (word_along T t) y))
  trail_heard spots.here u e = (u, e, λ r y. here)
  trail_heard (on {s = s} {s' = s'} e t x) u f =
      let a = of_edge e in
      let q = same_state (stands s) u a.first f a.from in
      let k = trail_heard t a.second a.to in (
        k.0,
        k.1,
        λ r y.
            subst (λ z. Joined (Heard (translation_of τ (erased T) names) letter r) (u, y) (k.0, z))
            (sym (moved_append r (reading T s s') (word_along T t) y))
            (joined_trans (subst (λ u. Joined (Heard (translation_of τ (erased T) names) letter r) (u, y)
            (a.second, moved r (reading T s s') y)) (sym q) (a.joined r y)) (k.2 r (moved r (reading T s s') y))),
      )
  trail_heard (back {s = s} {s' = s'} e t x) u f =
      let a = of_edge e in
      let q = same_state (stands s) u a.second f a.to in
      let k = trail_heard t a.first a.from in (
        k.0,
        k.1,
        λ r y.
            subst (λ z. Joined (Heard (translation_of τ (erased T) names) letter r) (u, y) (k.0, z))
            (sym (moved_append r (reversed (reading T s' s)) (word_along T t) y))
            (joined_trans
            (subst (λ u. Joined (Heard (translation_of τ (erased T) names) letter r) (u, y)
            (a.first, moved r (reversed (reading T s' s)) y)) (sym q)
            (subst (λ z. Joined (Heard (translation_of τ (erased T) names) letter r) (a.second, z)
            (a.first, moved r (reversed (reading T s' s)) y)) (moved_there r (reading T s' s) y)
            (joined_sym (a.joined r (moved r (reversed (reading T s' s)) y)))))
            (k.2 r (moved r (reversed (reading T s' s)) y))),
      )
