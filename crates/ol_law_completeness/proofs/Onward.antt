-- From the root of a part a walk over a term's net makes one jump, or leaves by a wire of the term.
-- Used in Nodes, Bounding and Circling.
use Rattle.std.proofs.Common.{◌≡◌, ℕ, zero, suc, ◌+◌, ◌<◌, length, Bool, true, false, [], ◌∷◌}
use Rattle.std.proofs.Common.{Option, None, Some, ◌⊎◌, inl, inr, refl, sym, ap, ◌∙◌, subst, arith, eq-eqb}
use Rattle.std.proofs.lemmas.Bool.{and_parts}
use Rattle.ol_context.specs.Contexts.{Level, empty, o, star, pair, Context, cons, tail, change}
use Rattle.ol_context.proofs.Contexts.{eta}
use Rattle.ol_net.specs.declared.parts.Kind.TheVariants as kind
use Rattle.ol_net.specs.declared.parts.Port.{Port}
use Rattle.ol_net.specs.Nets.{NamedNet, NamedPort, HasNode, Linked, IsNet}
use Rattle.ol_net.specs.Nets as nets
use Rattle.ol_net.specs.Numbered.{numbered_port}
use Rattle.ol_net.specs.Parts.{arity}
use Rattle.ol_rules.proofs.FreshPairs.{linked_sym}
use Rattle.ol_law_meaning.proofs.Bare.{packed_right, bare_right, is_wire, has_box, has_one}
use Rattle.ol_law_meaning.proofs.Down.{eta2, occurs_there, occurs_not, wire_under}
use Rattle.ol_law_meaning.proofs.Fans.{Holds, Merges}
use Rattle.ol_law_meaning.proofs.Parts.{Has, argument, HasLam, has_lam, Wires, has_app, HasApp, has_app_to}
use Rattle.ol_law_meaning.proofs.Parts.{has_head, HasHead, applied_root, bare_there, bare_occurs, bare_lacks}
use Rattle.ol_law_meaning.proofs.Parts.{key, IsInside, wire_there, wire_not, occurs_inside}
use Rattle.ol_law_meaning.proofs.States.{Before, before_arg, H, L, if_true, if_false, bool_or}
use Rattle.ol_law_meaning.proofs.Turns.{of_cons}
use Rattle.ol_law_meaning.specs.Sites.{Site, self, in_lam, in_function, in_argument, spot_in}
use Rattle.ol_law_meaning.specs.Spots.{Wire, bound, name, occurs, left, IsRight, root, wire, Spot, at, body, fun, arg}
use Rattle.ol_term.specs.Trees.{Tree, var, free, lam, app, is_below}
use Rattle.ol_term.specs.declared.translations.Translation.{Translation}
use Rattle.ol_translate.proofs.Joints.{few_wires}
use Rattle.ol_translate.specs.Translation.{Subnet, subnet_of, applied, bare_variable, wire_of, slot_port}
use Rattle.ol_translate.specs.Translation.{bound_port, erasers}
use Rattle.ol_law_completeness.proofs.Crossings.{Till, comes, and_then, mapped, moved, sooner, goes_up, is_erased}
use Rattle.ol_law_completeness.proofs.Crossings.{Marked, marks_on, marks_up, marks_down}
use Rattle.ol_law_completeness.proofs.Falling.{bare_stand, if_bare, Stand, room, bare_reached, Found, found, falls}
use Rattle.ol_law_completeness.proofs.Jumps.{Reached, at_var, at_name, by_lam, by_fun, by_arg, reached_occurs}
use Rattle.ol_law_completeness.proofs.Jumps.{Jump, pushes, to_body, to_var, to_fun, to_arg, from_body, from_var, from_fun}
use Rattle.ol_law_completeness.proofs.Jumps.{from_arg, in_body, in_fun, in_arg}

-- one jump is made, upwards where it pushes
pub data Landed (N : NamedNet ℕ) (τ : Translation) (t : Tree) (e : Bool) (s : Spot) (d n k : ℕ) (F : Context → Context)
    (b : Bool) (p : NamedPort ℕ) (x : Context) : Type 0 where
  landed : {e' : Bool} {z : Spot} (j : Jump τ t e s e' z) → pushes j ≡ b → Stand N τ z t e' d n k F p x →
      Landed N τ t e s d n k F b p x

-- a jump is made next, or the walk stands at the end of a wire, on the way out of the term
pub data Next (N : NamedNet ℕ) (τ : Translation) (t : Tree) (e : Bool) (s : Spot) (d n k : ℕ) (F : Context → Context)
    (p : NamedPort ℕ) (x : Context) : Type 0 where
  jumps : Marked N (Landed N τ t e s d n k F) (room t) p x → Next N τ t e s d n k F p x
  leaves : {y : Wire} {a v : Level} {c : Context} {r : Site} {w : Port} → e ≡ true → s ≡ spot_in r (at root v c) →
      Reached τ t y a r → wire_of (key d y) (subnet_of τ t d n k).wires ≡ Some w → p ≡ numbered_port w →
      x ≡ F (cons a (cons v c)) → Next N τ t e s d n k F p x

-- on the way out of the root
pub data Out : Bool → Spot → Type 0 where
  out : {v : Level} {c : Context} → Out false (at root v c)

module _ (τ : Translation) {N : NamedNet ℕ} (net : IsNet N) where
  pub back_link : (p q : Port) → L N p q → Linked N (numbered_port q) (numbered_port p)
  back_link p q l = linked_sym N (numbered_port p) (numbered_port q) l

  -- ---- out of an application by a wire

  module _ (M Q : Tree) (d n k : ℕ) (F : Context → Context) (b : Before n F)
      (i : is_below d (app M Q) ≡ true) (h : Has (H N) (L N) k (subnet_of τ (app M Q) d n k))
      (y : Wire) (inside : IsInside d y) where
    abbrev P : Subnet
    P = subnet_of τ M d n (k + 1)

    abbrev R : Subnet
    R = argument τ M Q d n k

    abbrev W : Subnet
    W = subnet_of τ (app M Q) d n k

    abbrev j : ℕ
    j = k + 1 + length (subnet_of τ M d n (k + 1)).nodes

    I : (is_below d M ≡ true) × (is_below d Q ≡ true)
    I = and_parts (is_below d M) (is_below d Q) i

    boxed_wires : bare_variable τ d Q ≡ None →
        Wires (H N) (L N) n (wire_of (key d y) P.wires) (wire_of (key d y) R.wires) (wire_of (key d y) W.wires)
    boxed_wires none =
        let A = has_app (H N) (L N) n k P R (subst (λ o. Has (H N) (L N) k (applied n k o P R)) none h) in
        subst (λ o. Wires (H N) (L N) n (wire_of (key d y) P.wires) (wire_of (key d y) R.wires)
        (wire_of (key d y) (applied n k o P R).wires)) (sym none)
        (A.wires (key d y) (few_wires τ (key d y) Q d (n + 1) (k + 1 + length P.nodes)))

    bare_wires : (x : ℕ) → bare_variable τ d Q ≡ Some x → Merges (H N) (L N) n (wire_of (key d y) P.wires)
        (wire_of (key d y) ((x, slot_port k 2) ∷ [])) (wire_of (key d y) W.wires)
    bare_wires x bare =
        let A = has_app_to (H N) (L N) n k x P (subst (λ o. Has (H N) (L N) k (applied n k o P R)) bare h) in
        subst (λ o. Merges (H N) (L N) n (wire_of (key d y) P.wires) (wire_of (key d y) ((x, slot_port k 2) ∷ []))
        (wire_of (key d y) (applied n k o P R).wires)) (sym bare) (A.wires (key d y))

    -- at the end of the application's wire, with this level 0
    abbrev Last : (NamedPort ℕ → Context → Type 0) → Level → Context → Type 0
    Last Q' a c = (r : Port) → wire_of (key d y) W.wires ≡ Some r → Q' (numbered_port r) (F (cons a c))

    abbrev LastRight : (NamedPort ℕ → Context → Type 0) → Level → Level → Context → Type 0
    LastRight Q' a v c = (r : Port) → wire_of (key d y) W.wires ≡ Some r → (w : Level) → IsRight τ M Q y a v w →
        Q' (numbered_port r) (F (cons w c))

    module _ {Q' : NamedPort ℕ → Context → Type 0} where
      -- along the function's wire
      left_boxed : bare_variable τ d Q ≡ None → (w : Port) (q r : Option Port) → wire_of (key d y) R.wires ≡ q →
          wire_of (key d y) W.wires ≡ r → Wires (H N) (L N) n (Some w) q r → (a : Level) (c : Context) →
          Last Q' (left Q y a) c → Till N Q' 1 (numbered_port w) (F (cons a c))
      left_boxed none w None r eq er x a c f =
          let n' = occurs_not τ Q y d (n + 1) j I.1 inside eq in
          comes (subst (λ a. Q' (numbered_port w) (F (cons a c))) (if_false N (occurs y Q) (o a) a n') (f w (er ∙ x)))
      left_boxed none w (Some q) r eq er (x, z, ez, hb, lb, hf, lf, lg) a c f =
          let o' = occurs_there τ Q y d (n + 1) j q I.1 inside eq in
          goes_up net {m = 0} z kind.Fan refl n 0 F (cons a c) (back_link (slot_port z 1) w lf) b hf (comes (subst (λ a. Q' (nets.slot z 0) (F (cons a c))) (if_true N (occurs y Q) (o a) a o') (f (slot_port z 0) (er ∙ ez))))

      left_bare : (x : ℕ) → bare_variable τ d Q ≡ Some x → (w : Port) (q r : Option Port) →
          wire_of (key d y) ((x, slot_port k 2) ∷ []) ≡ q → wire_of (key d y) W.wires ≡ r → Merges (H N) (L N) n (Some w) q r →
          (a : Level) (c : Context) → Last Q' (left Q y a) c → Till N Q' 1 (numbered_port w) (F (cons a c))
      left_bare x bare w None r eq er g a c f =
          let n' = bare_lacks τ d x Q y (slot_port k 2) bare I.1 inside eq in
          comes (subst (λ a. Q' (numbered_port w) (F (cons a c))) (if_false N (occurs y Q) (o a) a n') (f w (er ∙ g)))
      left_bare x bare w (Some q) r eq er (z, ez, hf, lf, lg) a c f =
          let o' = (bare_occurs τ d x Q y (slot_port k 2) q bare I.1 inside eq).0 in
          goes_up net {m = 0} z kind.Fan refl n 0 F (cons a c) (back_link (slot_port z 1) w lf) b hf (comes (subst (λ a. Q' (nets.slot z 0) (F (cons a c))) (if_true N (occurs y Q) (o a) a o') (f (slot_port z 0) (er ∙ ez))))

      left_both : (x : Option ℕ) → bare_variable τ d Q ≡ x → (w : Port) → wire_of (key d y) P.wires ≡ Some w →
          (a : Level) (c : Context) → Last Q' (left Q y a) c → Till N Q' 1 (numbered_port w) (F (cons a c))
      left_both None none w e = left_boxed none w (wire_of (key d y) R.wires) (wire_of (key d y) W.wires) refl refl
          (subst (λ x. Wires (H N) (L N) n x (wire_of (key d y) R.wires) (wire_of (key d y) W.wires)) e (boxed_wires none))
      left_both (Some x) bare w e = left_bare x bare w (wire_of (key d y) ((x, slot_port k 2) ∷ [])) (wire_of (key d y) W.wires)
          refl refl (subst (λ z. Merges (H N) (L N) n z (wire_of (key d y) ((x, slot_port k 2) ∷ []))
          (wire_of (key d y) W.wires)) e (bare_wires x bare))

      pub left_out : (w : Port) → wire_of (key d y) P.wires ≡ Some w → (a : Level) (c : Context) → Last Q' (left Q y a) c →
          Till N Q' 1 (numbered_port w) (F (cons a c))
      left_out = left_both (bare_variable τ d Q) refl

      -- along the argument's, from a bracket on
      from_bracket : bare_variable τ d Q ≡ None → (p r : Option Port) → wire_of (key d y) P.wires ≡ p → (q : Port) →
          wire_of (key d y) W.wires ≡ r → Wires (H N) (L N) n p (Some q) r → (a v : Level) (c : Context) →
          LastRight Q' a v c → Till N Q' 2 (numbered_port q) (F (cons v (cons a c)))
      from_bracket none None r ep q er (x, ex, hb, lb) a v c f =
          let n' = occurs_not τ M y d n (k + 1) I.0 inside ep in
          sooner (omega arith) (goes_up net {m = 0} x kind.Bracket refl n 0 F (cons v (cons a c)) (back_link (slot_port x 1) q lb) b hb (comes (f (slot_port x 0) (er ∙ ex) (pair a v)
          (packed_right M y a v (has_box τ d Q none) (sym (if_false N (occurs y M) (star (pair a v)) (pair a v) n'))))))
      from_bracket none (Some p) r ep q er (x, z, ez, hb, lb, hf, lf, lg) a v c f =
          let m' = occurs_there τ M y d n (k + 1) p I.0 inside ep in
          goes_up net {m = 1} x kind.Bracket refl n 0 F (cons v (cons a c)) (back_link (slot_port x 1) q lb) b hb (goes_up net {m = 0} z kind.Fan refl n 1 F (cons (pair a v) c) (back_link (slot_port z 2) (slot_port x 0) lg) b hf (comes (f (slot_port z 0) (er ∙ ez) (star (pair a v))
          (packed_right M y a v (has_box τ d Q none) (sym (if_true N (occurs y M) (star (pair a v)) (pair a v) m'))))))

      pub right_out : bare_variable τ d Q ≡ None → (q : Port) → wire_of (key d y) R.wires ≡ Some q →
          (a v : Level) (c : Context) → LastRight Q' a v c → Till N Q' 2 (numbered_port q) (F (cons v (cons a c)))
      right_out none q e = from_bracket none (wire_of (key d y) P.wires) (wire_of (key d y) W.wires) refl q refl
          (subst (λ x. Wires (H N) (L N) n (wire_of (key d y) P.wires) x (wire_of (key d y) W.wires)) e (boxed_wires none))

      -- and where the argument is a wire
      from_slot : (x : ℕ) → bare_variable τ d Q ≡ Some x → (p r : Option Port) → wire_of (key d y) P.wires ≡ p →
          wire_of (key d y) W.wires ≡ r → Merges (H N) (L N) n p (Some (slot_port k 2)) r → (v : Level) (c : Context) →
          LastRight Q' empty v c → Till N Q' 1 (nets.slot k 2) (F (cons v c))
      from_slot x bare None r ep er g v c f =
          let n' = occurs_not τ M y d n (k + 1) I.0 inside ep in
          comes (f (slot_port k 2) (er ∙ g) v
          (bare_right M y v (is_wire τ d x Q bare) (sym (if_false N (occurs y M) (star v) v n'))))
      from_slot x bare (Some p) r ep er (z, ez, hf, lf, lg) v c f =
          let m' = occurs_there τ M y d n (k + 1) p I.0 inside ep in
          goes_up net {m = 0} z kind.Fan refl n 1 F (cons v c) (back_link (slot_port z 2) (slot_port k 2) lg) b hf (comes (f (slot_port z 0) (er ∙ ez) (star v)
          (bare_right M y v (is_wire τ d x Q bare) (sym (if_true N (occurs y M) (star v) v m')))))

      pub bare_out : (x : ℕ) → bare_variable τ d Q ≡ Some x → occurs y Q ≡ true → (v : Level) (c : Context) →
          LastRight Q' empty v c → Till N Q' 1 (nets.slot k 2) (F (cons v c))
      bare_out x bare o' = from_slot x bare (wire_of (key d y) P.wires) (wire_of (key d y) W.wires) refl refl
          (subst (λ q. Merges (H N) (L N) n (wire_of (key d y) P.wires) q (wire_of (key d y) W.wires))
          (bare_there τ d x Q y (slot_port k 2) bare I.1 inside o') (bare_wires x bare))

  -- ---- jumps

  abbrev pub Nexts : Tree → Bool → Spot → (d n k : ℕ) → (Context → Context) → NamedPort ℕ → Context → Type 0
  Nexts t e s d n k F = Next N τ t e s d n k F

  -- from the croissant of a variable or a name
  head_on : (t : Tree) (d n k : ℕ) (F : Context → Context) (y : Wire) → Before n F → HasNode N k kind.Croissant n →
      Reached τ t y empty self → wire_of (key d y) (subnet_of τ t d n k).wires ≡ Some (slot_port k 0) →
      (v : Level) (c : Context) {p : NamedPort ℕ} → Linked N p (nets.slot k 1) →
      Till N (Nexts t true (at root v c) d n k F) 2 p (F (cons v c))
  head_on t d n k F y b h r w v c l =
      goes_up net {m = 1} k kind.Croissant refl n 0 F (cons v c) l b h (comes (leaves {r = self} refl refl r w refl refl))

  abbrev OfLam : (M : Tree) (d n k : ℕ) → (Context → Context) → Level → Context → NamedPort ℕ → Context → Type 0
  OfLam M d n k F v c p x = Till N (Landed N τ (lam M) true (at root v c) d n k F false) (room (lam M)) p x

  root_on : (t : Tree) (d n k : ℕ) (F : Context → Context) → Before n F → is_below d t ≡ true →
      Has (H N) (L N) k (subnet_of τ t d n k) → (v : Level) (c : Context) {p : NamedPort ℕ} →
      Linked N p (numbered_port (subnet_of τ t d n k).root) → Till N (Nexts t true (at root v c) d n k F) (room t) p (F (cons v c))
  root_on (var y) d n k F b i h v c l =
      let own : wire_of y ((y, slot_port k 0) ∷ []) ≡ Some (slot_port k 0) = rw (eq-eqb y y refl) refl in
      head_on (var y) d n k F (bound y) b h.nodes.0 at_var own v c l
  root_on (free f) d n k F b i h v c l =
      let own : wire_of (d + f) ((d + f, slot_port k 0) ∷ []) ≡ Some (slot_port k 0) = rw (eq-eqb (d + f) (d + f) refl) refl in
      head_on (free f) d n k F (name f) b h.nodes.0 at_name own v c l
  root_on (lam M) d n k F b i h v c l =
      comes (jumps (marks_down net {m = room (lam M)} k kind.Lam refl n F (cons v c) l b A.node go))
    where
      A : HasLam (H N) (L N) n k (subnet_of τ M (d + 1) n (k + 1))
      A = has_lam (H N) (L N) n k (subnet_of τ M (d + 1) n (k + 1)) h

      to_own : (e : Context) (p : NamedPort ℕ) (x : Context) → Found N τ M (bound 0) (e 0) (tail e) (d + 1) n (k + 1) F p x →
          Landed N τ (lam M) true (at root (star (e 0)) (tail e)) d n k F false p x
      to_own e p x (found r g st) = landed (to_var r g refl) refl st

      own : (e : Context) → (occurs (bound 0) M ≡ true) ⊎ (occurs (bound 0) M ≡ false) →
          OfLam M d n k F (star (e 0)) (tail e) (nets.slot k 2) (F e)
      own e (inl o') =
          let W = wire_there τ M (bound 0) (d + 1) n (k + 1) i o' in
          let l : L N (slot_port k 2) W.0 = subst
          (λ x. L N (slot_port k 2) (bound_port x (k + 1 + length (subnet_of τ M (d + 1) n (k + 1)).nodes))) W.1 A.var_link in
          sooner (omega arith) (moved refl (ap F (sym (eta e))) (mapped (to_own e)
          (falls τ net M (d + 1) n (k + 1) F b i A.part (bound 0) (omega arith) W.0 W.1 (e 0) (tail e) l)))
      own e (inr o') =
          let x = k + 1 + length (subnet_of τ M (d + 1) n (k + 1)).nodes in
          let none = wire_not τ M (bound 0) (d + 1) n (k + 1) i (omega arith) o' in
          let l : L N (slot_port k 2) (slot_port x 0) = subst
          (λ w. L N (slot_port k 2) (bound_port w (k + 1 + length (subnet_of τ M (d + 1) n (k + 1)).nodes))) none A.var_link in
          let e' : Holds (H N) (k + 1 + length (subnet_of τ M (d + 1) n (k + 1)).nodes) ((kind.Eraser, 0) ∷ []) =
          subst (λ w. Holds (H N) (k + 1 + length (subnet_of τ M (d + 1) n (k + 1)).nodes) (erasers w)) none A.eraser in
          is_erased net {m = suc (room M)} x refl 0 (F e) l e'.0

      go : (s : ℕ) (e : Context) → s < arity kind.Lam → change kind.Lam s e ≡ cons v c → OfLam M d n k F v c (nets.slot k (suc s)) (F e)
      go zero e low q = of_cons (λ v c. OfLam M d n k F v c (nets.slot k 1) (F e)) (o (e 0)) v (tail e) c q
          (comes (landed to_body refl (A.link, ap F (sym (eta e)))))
      go (suc zero) e low q = of_cons (λ v c. OfLam M d n k F v c (nets.slot k 2) (F e)) (star (e 0)) v (tail e) c q
          (own e (bool_or N (occurs (bound 0) M)))
      go (suc (suc s)) e low q = absurd (omega (arith, low))
  root_on (app M Q) d n k F b i h v c {p} l =
      let P = subnet_of τ M d n (k + 1) in
      let A = has_head (H N) (L N) n k (bare_variable τ d Q) P (argument τ M Q d n k) h in
      comes (jumps (marks_up net {m = room (app M Q)} k kind.App refl n 0 F (cons v c)
      (subst (λ r. Linked N p (numbered_port r)) (applied_root n k (bare_variable τ d Q) P (argument τ M Q d n k)) l) b A.node
      (comes (landed to_fun refl (A.link, refl)))))

  -- ---- an abstraction

  module _ (M : Tree) (d n k : ℕ) (F : Context → Context) (b : Before n F)
      (i : is_below d (lam M) ≡ true) (h : Has (H N) (L N) k (subnet_of τ (lam M) d n k)) where
    A : HasLam (H N) (L N) n k (subnet_of τ M (d + 1) n (k + 1))
    A = has_lam (H N) (L N) n k (subnet_of τ M (d + 1) n (k + 1)) h

    -- at a wire of the body
    body_wire : (e : Bool) (s : Spot) (y : Wire) (a v : Level) (c : Context) (r : Site) (w : Port) → e ≡ true →
        s ≡ spot_in r (at root v c) → Reached τ M y a r → wire_of (key (d + 1) y) (subnet_of τ M (d + 1) n (k + 1)).wires ≡ Some w →
        Till N (Nexts (lam M) e (body s) d n k F) 1 (numbered_port w) (F (cons a (cons v c)))
    body_wire e s (bound zero) a v c r w g q t f =
        let l : L N (slot_port k 2) w = subst
        (λ x. L N (slot_port k 2) (bound_port x (k + 1 + length (subnet_of τ M (d + 1) n (k + 1)).nodes))) f A.var_link in
        subst (λ e. Till N (Nexts (lam M) e (body s) d n k F) 1 (numbered_port w) (F (cons a (cons v c)))) (sym g)
        (comes (jumps (marks_up net {m = room (lam M)} k kind.Lam refl n 1 F (cons a (cons v c)) (back_link (slot_port k 2) w l) b A.node
        (comes (landed (from_var t refl q) refl (refl, refl))))))
    body_wire e s (bound (suc y)) a v c r w g q t f =
        comes (leaves {y = bound y} {r = in_lam r} g (ap body q) (by_lam t) (wire_under τ M (bound y) d n k ∙ f) refl refl)
    body_wire e s (name y) a v c r w g q t f =
        comes (leaves {y = name y} {r = in_lam r} g (ap body q) (by_lam t) (wire_under τ M (name y) d n k ∙ f) refl refl)

    body_landed : (e : Bool) (s : Spot) (up : Bool) (p : NamedPort ℕ) (x : Context) →
        Landed N τ M e s (d + 1) n (k + 1) F up p x → Landed N τ (lam M) e (body s) d n k F up p x
    body_landed e s up p x (landed j q st) = landed (in_body j) q st

    body_on : (e : Bool) (s : Spot) (p : NamedPort ℕ) (x : Context) → Nexts M e s (d + 1) n (k + 1) F p x →
        Till N (Nexts (lam M) e (body s) d n k F) 1 p x
    body_on e s p x (jumps j) = comes (jumps (marks_on (omega arith) (body_landed e s) j))
    body_on e s p x (leaves {y = y} {a = a} {v = v} {c = c} {r = r} {w = w} g q t f ep ex) =
        moved ep ex (body_wire e s y a v c r w g q t f)

    body_out : (v : Level) (c : Context) (p : NamedPort ℕ) (x : Context) → p ≡ numbered_port (subnet_of τ M (d + 1) n (k + 1)).root →
        x ≡ F (cons v c) → Till N (Nexts (lam M) false (body (at root v c)) d n k F) 1 p x
    body_out v c p x ep ex =
        moved ep ex (comes (jumps (marks_up net {m = room (lam M)} k kind.Lam refl n 0 F (cons v c)
        (back_link (slot_port k 1) (subnet_of τ M (d + 1) n (k + 1)).root A.link) b A.node (comes (landed from_body refl (refl, refl))))))

  -- ---- an application

  module _ (M Q : Tree) (d n k : ℕ) (F : Context → Context) (b : Before n F)
      (i : is_below d (app M Q) ≡ true) (h : Has (H N) (L N) k (subnet_of τ (app M Q) d n k)) where
    abbrev U : ℕ
    U = k + 1 + length (subnet_of τ M d n (k + 1)).nodes

    B : HasHead (H N) (L N) n k (subnet_of τ M d n (k + 1))
    B = has_head (H N) (L N) n k (bare_variable τ d Q) (subnet_of τ M d n (k + 1)) (argument τ M Q d n k) h

    C : bare_variable τ d Q ≡ None → HasApp (H N) (L N) n k (subnet_of τ M d n (k + 1)) (argument τ M Q d n k)
    C none = has_app (H N) (L N) n k (subnet_of τ M d n (k + 1)) (argument τ M Q d n k)
        (subst (λ o. Has (H N) (L N) k (applied n k o (subnet_of τ M d n (k + 1)) (argument τ M Q d n k))) none h)

    J : (is_below d M ≡ true) × (is_below d Q ≡ true)
    J = and_parts (is_below d M) (is_below d Q) i

    fun_wire : (e : Bool) (s : Spot) (y : Wire) (a v : Level) (c : Context) (r : Site) → e ≡ true →
        s ≡ spot_in r (at root v c) → Reached τ M y a r → (z : Port) → wire_of (key d y) (subnet_of τ (app M Q) d n k).wires ≡ Some z →
        Nexts (app M Q) e (fun s) d n k F (numbered_port z) (F (cons (left Q y a) (cons v c)))
    fun_wire e s y a v c r g q t z f = leaves {r = in_function r} g (ap fun q) (by_fun t refl) f refl refl

    fun_landed : (e : Bool) (s : Spot) (up : Bool) (p : NamedPort ℕ) (x : Context) →
        Landed N τ M e s d n (k + 1) F up p x → Landed N τ (app M Q) e (fun s) d n k F up p x
    fun_landed e s up p x (landed j q st) = landed (in_fun j) q st

    fun_on : (e : Bool) (s : Spot) (p : NamedPort ℕ) (x : Context) → Nexts M e s d n (k + 1) F p x →
        Till N (Nexts (app M Q) e (fun s) d n k F) 1 p x
    fun_on e s p x (jumps j) = comes (jumps (marks_on (omega arith) (fun_landed e s) j))
    fun_on e s p x (leaves {y = y} {a = a} {v = v} {c = c} {r = r} {w = w} g q t f ep ex) =
        moved ep ex (left_out M Q d n k F b i h y (occurs_inside M y d J.0 (reached_occurs t)) w f a (cons v c)
        (fun_wire e s y a v c r g q t))

    to_argument : (o : Option ℕ) → bare_variable τ d Q ≡ o → (e : Context) →
        Landed N τ (app M Q) false (fun (at root (star (e 0)) (tail e))) d n k F false (nets.slot k 2) (F e)
    to_argument None none e =
        landed (to_arg (sym (eta (tail e)))) refl
        (subst (λ o. if_bare o (Stand N τ (at root (e 1) (tail (tail e))) Q true d (n + 1) U (λ c. F (cons (e 0) c)) (nets.slot k 2) (F e))
        (bare_stand N (at root (e 1) (tail (tail e))) true k (λ c. F (cons (e 0) c)) (nets.slot k 2) (F e))) (sym none)
        ((C none).arg_link, ap F (sym (eta2 e))))
    to_argument (Some x) bare e =
        landed (to_arg (sym (eta (tail e)))) refl
        (subst (λ o. if_bare o (Stand N τ (at root (e 1) (tail (tail e))) Q true d (n + 1) U (λ c. F (cons (e 0) c)) (nets.slot k 2) (F e))
        (bare_stand N (at root (e 1) (tail (tail e))) true k (λ c. F (cons (e 0) c)) (nets.slot k 2) (F e))) (sym bare)
        (refl, ap F (sym (eta2 e))))

    fun_out : (v : Level) (c : Context) (p : NamedPort ℕ) (x : Context) → p ≡ numbered_port (subnet_of τ M d n (k + 1)).root →
        x ≡ F (cons v c) → Till N (Nexts (app M Q) false (fun (at root v c)) d n k F) 1 p x
    fun_out v c p x ep ex =
        moved ep ex (comes (jumps (marks_down net {m = room (app M Q)} k kind.App refl n F (cons v c)
        (back_link (slot_port k 0) (subnet_of τ M d n (k + 1)).root B.link) b B.node go)))
      where
        go : (s : ℕ) (e : Context) → s < 2 → change kind.App s e ≡ cons v c →
            Till N (Landed N τ (app M Q) false (fun (at root v c)) d n k F false) (room (app M Q)) (nets.slot k (suc s)) (F e)
        go zero e low q = of_cons (λ v c. Till N (Landed N τ (app M Q) false (fun (at root v c)) d n k F false) (room (app M Q)) (nets.slot k 1) (F e))
            (o (e 0)) v (tail e) c q
            (comes (landed from_fun refl (
              sym (ap numbered_port (applied_root n k (bare_variable τ d Q) (subnet_of τ M d n (k + 1))
                  (argument τ M Q d n k))),
              ap F (sym (eta e)),
            )))
        go (suc zero) e low q = of_cons (λ v c. Till N (Landed N τ (app M Q) false (fun (at root v c)) d n k F false) (room (app M Q)) (nets.slot k 2) (F e))
            (star (e 0)) v (tail e) c q (comes (to_argument (bare_variable τ d Q) refl e))
        go (suc (suc s)) e low q = absurd (omega (arith, low))

    -- from slot 2 of the application, on the way out of the argument
    slot_out : (v u : Level) (c : Context) {p : NamedPort ℕ} → Linked N p (nets.slot k 2) →
        Till N (Nexts (app M Q) false (arg v (at root u c)) d n k F) 1 p (F (cons v (cons u c)))
    slot_out v u c l =
        comes (jumps (marks_up net {m = room (app M Q)} k kind.App refl n 1 F (cons v (cons u c)) l b B.node
        (comes (landed (from_arg refl) refl (B.link, refl)))))

    arg_wire : (e : Bool) (w : Level) (s : Spot) (y : Wire) (a v : Level) (c : Context) (r : Site) → e ≡ true →
        s ≡ spot_in r (at root v c) → Reached τ Q y a r → (z : Port) → wire_of (key d y) (subnet_of τ (app M Q) d n k).wires ≡ Some z →
        (u : Level) → IsRight τ M Q y a w u →
        Nexts (app M Q) e (arg w s) d n k F (numbered_port z) (F (cons u (cons v c)))
    arg_wire e w s y a v c r g q t z f u k' = leaves {r = in_argument w r} g (ap (arg w) q) (by_arg t k') f refl refl

    arg_landed : bare_variable τ d Q ≡ None → (e : Bool) (w : Level) (s : Spot) (up : Bool) (p : NamedPort ℕ) (x : Context) →
        Landed N τ Q e s d (n + 1) U (λ c. F (cons w c)) up p x → Landed N τ (app M Q) e (arg w s) d n k F up p x
    arg_landed none e w s up p x (landed {e' = e'} {z = z} j q st) =
        landed (in_arg j) q (subst (λ o. if_bare o (Stand N τ z Q e' d (n + 1) U (λ c. F (cons w c)) p x)
        (bare_stand N z e' k (λ c. F (cons w c)) p x)) (sym none) st)

    arg_on : bare_variable τ d Q ≡ None → (e : Bool) (w : Level) (s : Spot) (p : NamedPort ℕ) (x : Context) →
        Nexts Q e s d (n + 1) U (λ c. F (cons w c)) p x → Till N (Nexts (app M Q) e (arg w s) d n k F) 2 p x
    arg_on none e w s p x (jumps j) = comes (jumps (marks_on (omega arith) (arg_landed none e w s) j))
    arg_on none e w s p x (leaves {y = y} {a = a} {v = v} {c = c} {r = r} {w = z} g q t f ep ex) =
        moved ep ex (right_out M Q d n k F b i h y (occurs_inside Q y d J.1 (reached_occurs t)) none z f a w (cons v c)
        (arg_wire e w s y a v c r g q t))

    arg_out : bare_variable τ d Q ≡ None → (w v : Level) (c : Context) (p : NamedPort ℕ) (x : Context) →
        p ≡ numbered_port (argument τ M Q d n k).root → x ≡ F (cons w (cons v c)) →
        Till N (Nexts (app M Q) false (arg w (at root v c)) d n k F) 1 p x
    arg_out none w v c p x ep ex =
        moved ep ex (slot_out w v c (back_link (slot_port k 2) (argument τ M Q d n k).root (C none).arg_link))

    bare_on : (y : ℕ) → bare_variable τ d Q ≡ Some y → (e : Bool) (w : Level) (s : Spot) (p : NamedPort ℕ) (x : Context) →
        bare_stand N s e k (λ c. F (cons w c)) p x → Till N (Nexts (app M Q) e (arg w s) d n k F) 1 p x
    bare_on y bare true w (at root v c) p x (ep, ex) =
        let z = has_one τ d y Q bare in
        moved ep ex (bare_out M Q d n k F b i h z.0 (occurs_inside Q z.0 d J.1 z.1) y bare z.1 w (cons v c)
        (arg_wire true w (at root v c) z.0 empty v c self refl refl (bare_reached τ d y Q z.0 bare z.1)))
    bare_on y bare false w (at root v c) p x (l, ex) = moved refl ex (slot_out w v c l)
    bare_on y bare e w (at (wire z) v c) p x st = absurd st
    bare_on y bare e w (body s) p x st = absurd st
    bare_on y bare e w (fun s) p x st = absurd st
    bare_on y bare e w (arg v s) p x st = absurd st

  abbrev pub Result : Tree → Bool → Spot → (d n k : ℕ) → (Context → Context) → NamedPort ℕ → Context → Type 0
  Result t e s d n k F p x = Out e s ⊎ Till N (Nexts t e s d n k F) (room t) p x

  in_body_of : (M : Tree) (d n k : ℕ) (F : Context → Context) → Before n F → is_below d (lam M) ≡ true →
      Has (H N) (L N) k (subnet_of τ (lam M) d n k) → (e : Bool) (s : Spot) (p : NamedPort ℕ) (x : Context) →
      Stand N τ s M e (d + 1) n (k + 1) F p x → Result M e s (d + 1) n (k + 1) F p x →
      Till N (Nexts (lam M) e (body s) d n k F) (room (lam M)) p x
  in_body_of M d n k F b i h e s p x st (inl (out {v = v} {c = c})) =
      sooner (omega arith) (body_out M d n k F b i h v c p x st.0 st.1)
  in_body_of M d n k F b i h e s p x st (inr T) = sooner (omega arith) (and_then 1 T (body_on M d n k F b i h e s))

  in_fun_of : (M Q : Tree) (d n k : ℕ) (F : Context → Context) → Before n F → is_below d (app M Q) ≡ true →
      Has (H N) (L N) k (subnet_of τ (app M Q) d n k) → (e : Bool) (s : Spot) (p : NamedPort ℕ) (x : Context) →
      Stand N τ s M e d n (k + 1) F p x → Result M e s d n (k + 1) F p x →
      Till N (Nexts (app M Q) e (fun s) d n k F) (room (app M Q)) p x
  in_fun_of M Q d n k F b i h e s p x st (inl (out {v = v} {c = c})) =
      sooner (omega arith) (fun_out M Q d n k F b i h v c p x st.0 st.1)
  in_fun_of M Q d n k F b i h e s p x st (inr T) = sooner (omega arith) (and_then 1 T (fun_on M Q d n k F b i h e s))

  in_boxed : (M Q : Tree) (d n k : ℕ) (F : Context → Context) → Before n F → is_below d (app M Q) ≡ true →
      Has (H N) (L N) k (subnet_of τ (app M Q) d n k) → bare_variable τ d Q ≡ None →
      (e : Bool) (w : Level) (s : Spot) (p : NamedPort ℕ) (x : Context) →
      Stand N τ s Q e d (n + 1) (k + 1 + length (subnet_of τ M d n (k + 1)).nodes) (λ c. F (cons w c)) p x →
      Result Q e s d (n + 1) (k + 1 + length (subnet_of τ M d n (k + 1)).nodes) (λ c. F (cons w c)) p x →
      Till N (Nexts (app M Q) e (arg w s) d n k F) (room (app M Q)) p x
  in_boxed M Q d n k F b i h none e w s p x st (inl (out {v = v} {c = c})) =
      sooner (omega arith) (arg_out M Q d n k F b i h none w v c p x st.0 st.1)
  in_boxed M Q d n k F b i h none e w s p x st (inr T) =
      sooner (omega arith) (and_then 2 T (arg_on M Q d n k F b i h none e w s))

  in_arg_of : (M Q : Tree) (d n k : ℕ) (F : Context → Context) → Before n F → is_below d (app M Q) ≡ true →
      Has (H N) (L N) k (subnet_of τ (app M Q) d n k) →
      (e : Bool) (w : Level) (s : Spot) (p : NamedPort ℕ) (x : Context) (y : Option ℕ) → bare_variable τ d Q ≡ y →
      if_bare y (Stand N τ s Q e d (n + 1) (k + 1 + length (subnet_of τ M d n (k + 1)).nodes) (λ c. F (cons w c)) p x)
      (bare_stand N s e k (λ c. F (cons w c)) p x) →
      (bare_variable τ d Q ≡ None →
      Stand N τ s Q e d (n + 1) (k + 1 + length (subnet_of τ M d n (k + 1)).nodes) (λ c. F (cons w c)) p x →
      Result Q e s d (n + 1) (k + 1 + length (subnet_of τ M d n (k + 1)).nodes) (λ c. F (cons w c)) p x) →
      Till N (Nexts (app M Q) e (arg w s) d n k F) (room (app M Q)) p x
  in_arg_of M Q d n k F b i h e w s p x None none st ih = in_boxed M Q d n k F b i h none e w s p x st (ih none st)
  in_arg_of M Q d n k F b i h e w s p x (Some y) bare st ih =
      sooner (omega arith) (bare_on M Q d n k F b i h y bare e w s p x st)

  pub onward : (t : Tree) (d n k : ℕ) (F : Context → Context) → Before n F → is_below d t ≡ true →
      Has (H N) (L N) k (subnet_of τ t d n k) → (s : Spot) (e : Bool) (p : NamedPort ℕ) (x : Context) →
      Stand N τ s t e d n k F p x → Result t e s d n k F p x
  onward t d n k F b i h (at root v c) true p x st = inr (moved refl st.1 (root_on t d n k F b i h v c st.0))
  onward t d n k F b i h (at root v c) false p x st = inl out
  onward t d n k F b i h (at (wire y) v c) e p x st = absurd st
  onward (lam M) d n k F b i h (body s) e p x st =
      inr (in_body_of M d n k F b i h e s p x st (onward M (d + 1) n (k + 1) F b i
      (has_lam (H N) (L N) n k (subnet_of τ M (d + 1) n (k + 1)) h).part s e p x st))
  onward (app M Q) d n k F b i h (fun s) e p x st =
      inr (in_fun_of M Q d n k F b i h e s p x st (onward M d n (k + 1) F b (and_parts (is_below d M) (is_below d Q) i).0
      (has_head (H N) (L N) n k (bare_variable τ d Q) (subnet_of τ M d n (k + 1)) (argument τ M Q d n k) h).function s e p x st))
  onward (app M Q) d n k F b i h (arg w s) e p x st =
      inr (in_arg_of M Q d n k F b i h e w s p x (bare_variable τ d Q) refl st
      (λ none st. onward Q d (n + 1) (k + 1 + length (subnet_of τ M d n (k + 1)).nodes) (λ c. F (cons w c))
      (before_arg n F w b) (and_parts (is_below d M) (is_below d Q) i).1
      (has_app (H N) (L N) n k (subnet_of τ M d n (k + 1)) (argument τ M Q d n k)
      (subst (λ o. Has (H N) (L N) k (applied n k o (subnet_of τ M d n (k + 1)) (argument τ M Q d n k))) none h)).argument
      s e p x st))
  onward (var y) d n k F b i h (body s) e p x st = absurd st
  onward (free f) d n k F b i h (body s) e p x st = absurd st
  onward (app M Q) d n k F b i h (body s) e p x st = absurd st
  onward (var y) d n k F b i h (fun s) e p x st = absurd st
  onward (free f) d n k F b i h (fun s) e p x st = absurd st
  onward (lam M) d n k F b i h (fun s) e p x st = absurd st
  onward (var y) d n k F b i h (arg w s) e p x st = absurd st
  onward (free f) d n k F b i h (arg w s) e p x st = absurd st
  onward (lam M) d n k F b i h (arg w s) e p x st = absurd st
