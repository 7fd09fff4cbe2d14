-- A walk that comes to a part's root or wire from outside, at a spot.
use Rattle.std.proofs.Common.{◌≡◌, ℕ, zero, suc, ◌<◌, ◌+◌, [], ◌∷◌, length, true, false, nat_eq, Option, None, Some}
use Rattle.std.proofs.Common.{◌⊎◌, inl, inr, refl, sym, ap, ◌∙◌, arith, subst, eq-eqb}
use Rattle.std.proofs.lemmas.Bool.Decides.{nat_tests}
use Rattle.std.proofs.lemmas.Bool.{and_parts}
use Rattle.ol_term.specs.declared.translations.Translation.{Translation}
use Rattle.ol_term.specs.Trees.{Tree, var, free, lam, app, is_below}
use Rattle.ol_net.specs.declared.parts.Kind.TheVariants as kind
use Rattle.ol_net.specs.declared.parts.Port.{Port}
use Rattle.ol_net.specs.Parts.{arity}
use Rattle.ol_net.specs.Nets.{NamedPort, NamedNet, HasNode, Linked}
use Rattle.ol_net.specs.Nets as nets
use Rattle.ol_net.specs.Numbered.{numbered_port}
use Rattle.ol_context.specs.Contexts.{Level, empty, o, star, pair, Context, cons, tail, change}
use Rattle.ol_context.proofs.Contexts.{eta}
use Rattle.ol_translate.specs.Translation.{Subnet, subnet_of, applied, bare_variable, wire_of}
use Rattle.ol_translate.specs.Translation.{bound_port, erasers, slot_port}
use Rattle.ol_translate.proofs.Joints.{few_wires}
use Rattle.ol_law_meaning.specs.Spots.{Wire, bound, name, under, occurs, left, root, wire, Spot, at, body, fun, arg}
use Rattle.ol_law_meaning.specs.Spots.{Edge, var_wire, free_wire, lam_root, lam_own, lam_wire, app_root, app_arg}
use Rattle.ol_law_meaning.specs.Spots.{app_left, app_right, in_arg, Trail, here}
use Rattle.ol_law_meaning.proofs.Fans.{Holds, Merges, outside_wire, wire_here}
use Rattle.ol_law_meaning.proofs.Bare.{packed_right, bare_right, is_wire, has_box, wire_edge}
use Rattle.ol_law_meaning.proofs.Parts.{Has, argument, HasLam, has_lam, Wires, has_app, HasAppTo, has_app_to, has_head}
use Rattle.ol_law_meaning.proofs.Parts.{applied_root, bare_occurs, bare_lacks, key, IsInside, key_under, some, has_wire}
use Rattle.ol_law_meaning.proofs.Parts.{wire_there, wire_not, occurs_inside, occurs_lam}
use Rattle.ol_law_meaning.proofs.States.{Before, before_arg, S, H, L, at_port, bare_state, arg_state}
use Rattle.ol_law_meaning.proofs.States.{state, if_true, if_false, bool_or}
use Rattle.ol_law_meaning.proofs.Trails.{tr_trans, one, one_back, tr_body, tr_fun, tr_arg}
use Rattle.ol_law_meaning.proofs.Turns.{no_principal, of_control, Fits, Stands, Turn, Rest, Reaches, Resting, Next}
use Rattle.ol_law_meaning.proofs.Turns.{turn_lift, turn_front, turn_in, turn_out, turn_eraser, of_cons, stands_port}

-- the levels of a context from the second on, put back
pub eta2 : (c : Context) → cons (c 0) (cons (c 1) (tail (tail c))) ≡ c
eta2 c = ap (cons (c 0)) (eta (tail c)) ∙ eta c

-- the same wire is there as far as it occurs
pub occurs_there : (τ : Translation) (t : Tree) (y : Wire) (d n k : ℕ) (p : Port) →
    is_below d t ≡ true → IsInside d y → wire_of (key d y) (subnet_of τ t d n k).wires ≡ Some p → occurs y t ≡ true
occurs_there τ t y d n k p h i e = sym (has_wire τ t y d n k h i) ∙ ap some e

pub occurs_not : (τ : Translation) (t : Tree) (y : Wire) (d n k : ℕ) → is_below d t ≡ true →
    IsInside d y → wire_of (key d y) (subnet_of τ t d n k).wires ≡ None → occurs y t ≡ false
occurs_not τ t y d n k h i e = sym (has_wire τ t y d n k h i) ∙ ap some e

pub wire_under : (τ : Translation) (t : Tree) (y : Wire) (d n k : ℕ) →
    wire_of (key d y) (subnet_of τ (lam t) d n k).wires ≡ wire_of (key (d + 1) (under y))
    (subnet_of τ t (d + 1) n (k + 1)).wires
wire_under τ t y d n k = outside_wire (key d y) (subnet_of τ t (d + 1) n (k + 1)).wires
    ∙ ap (λ v. wire_of v (subnet_of τ t (d + 1) n (k + 1)).wires) (sym (key_under d y))

same_occurs : (v y : ℕ) → nat_eq v y ≡ true → y ≡ v
same_occurs v y e = grind (arith, nat_tests, e)

module _ (τ : Translation) (N : NamedNet ℕ) where
  -- what comes next from spot z of a term
  abbrev pub After : Tree → (d n k : ℕ) → (Context → Context) → Spot → ℕ → S → Type 0
  After t d n k F z m u = Next N (Trail (Edge τ t)) (Stands τ t d n k F) z m u

  pub lift_body : (M : Tree) (d n k : ℕ) (F : Context → Context) (z : Spot) (y : NamedPort ℕ)
      (c : Context) → Turn N (After M (d + 1) n (k + 1) F z) y c → Turn N (After (lam M) d n k F (body z)) y c
  lift_body M d n k F z y c x = turn_lift N (Trail (Edge τ M)) (Trail (Edge τ (lam M)))
      (Stands τ M (d + 1) n (k + 1) F) (Stands τ (lam M) d n k F) body (λ s z n t. tr_body t)
      (λ s u r. record { is = r.is; fits = r.fits }) z y c x

  pub lift_fun : (M Q : Tree) (d n k : ℕ) (F : Context → Context) (z : Spot) (y : NamedPort ℕ)
      (c : Context) → Turn N (After M d n (k + 1) F z) y c → Turn N (After (app M Q) d n k F (fun z)) y c
  lift_fun M Q d n k F z y c x = turn_lift N (Trail (Edge τ M)) (Trail (Edge τ (app M Q)))
      (Stands τ M d n (k + 1) F) (Stands τ (app M Q) d n k F) fun (λ s z n t. tr_fun t)
      (λ s u r. record { is = r.is; fits = r.fits }) z y c x

  -- of an argument with a box
  pub lift_arg : (M Q : Tree) (d n k : ℕ) (F : Context → Context) (v : Level) →
      bare_variable τ d Q ≡ None → (z : Spot) (y : NamedPort ℕ) (c : Context) →
      Turn N (After Q d (n + 1) (k + 1 + length (subnet_of τ M d n (k + 1)).nodes)
      (λ c. F (cons v c)) z) y c → Turn N (After (app M Q) d n k F (arg v z)) y c
  lift_arg M Q d n k F v none z y c x = turn_lift N (Trail (Edge τ Q)) (Trail (Edge τ (app M Q)))
      (Stands τ Q d (n + 1) (k + 1 + length (subnet_of τ M d n (k + 1)).nodes) (λ c. F (cons v c)))
      (Stands τ (app M Q) d n k F) (arg v)
      (λ s z n t. tr_arg t)
      (λ s u r. record {
        is = ap (λ o. arg_state o s k (λ c. F (cons v c))
            (state τ s Q d (n + 1) (k + 1 + length (subnet_of τ M d n (k + 1)).nodes)
            (λ c. F (cons v c)))) none ∙ r.is;
        fits = r.fits;
      }) z y c x

  -- at the root and at a wire of a part
  pub at_root : (t : Tree) (d n k : ℕ) (F : Context → Context) (c : Context) →
      Stands τ t d n k F (at root (c 0) (tail c)) (numbered_port (subnet_of τ t d n k).root, F c)
  at_root t d n k F c = record {
    is = ap (λ c. Some (numbered_port (subnet_of τ t d n k).root, F c))
        (eta c);
    fits = tt;
  }

  pub at_wire : (t : Tree) (y : Wire) (d n k : ℕ) (F : Context → Context) (c : Context) (p : Port) →
      wire_of (key d y) (subnet_of τ t d n k).wires ≡ Some p → occurs y t ≡ true →
      Stands τ t d n k F (at (wire y) (c 0) (tail c)) (numbered_port p, F c)
  at_wire t y d n k F c p e f = record {
    is = ap (λ x. at_port x (F (cons (c 0) (tail c)))) e
        ∙ ap (λ c. Some (numbered_port p, F c)) (eta c);
    fits = f;
  }

  -- the spot where the net stands once it has gone along a link
  pub linked_to : (t : Tree) (d n k : ℕ) (F : Context → Context) (z : Spot) (p q : Port)
      (c : Context) → L N p q → Stands τ t d n k F z (numbered_port q, c) →
      Resting N (Trail (Edge τ t)) (Stands τ t d n k F) z (numbered_port p, c)
  linked_to t d n k F z p q c l s = inl (inr (numbered_port q, l, s))

  down_root : (t : Tree) (d n k : ℕ) (F : Context → Context) → Before n F → is_below d t ≡ true →
      Has (H N) (L N) k (subnet_of τ t d n k) → (v : Level) (c : Context) →
      Turn N (After t d n k F (at root v c)) (numbered_port (subnet_of τ t d n k).root) (F (cons v c))
  down_root (var y) d n k F b i h v c =
      let own : wire_of y ((y, slot_port k 0) ∷ []) ≡ Some (slot_port k 0) = rw (eq-eqb y y refl) refl in
      turn_in N (After (var y) d n k F (at root v c)) k kind.Croissant n 0 F (cons v c) b h.nodes.0 (
        at (wire (bound y)) empty (cons v c),
        one (var_wire refl),
        inl (inl (at_wire (var y) (bound y) d n k F (cons empty (cons v c)) (slot_port k 0) own (eq-eqb y y refl))),
      )
  down_root (free f) d n k F b i h v c =
      let own : wire_of (d + f) ((d + f, slot_port k 0) ∷ []) ≡ Some (slot_port k 0) = rw
      (eq-eqb (d + f) (d + f) refl) refl in
      turn_in N (After (free f) d n k F (at root v c)) k kind.Croissant n 0 F (cons v c) b h.nodes.0 (
        at (wire (name f)) empty (cons v c),
        one (free_wire refl),
        inl (inl (at_wire (free f) (name f) d n k F (cons empty (cons v c)) (slot_port k 0) own (eq-eqb f f refl))),
      )
  down_root (lam M) d n k F b i h v c = turn_out N
      (After (lam M) d n k F (at root v c)) k kind.Lam n F (cons v c) b A.node go
    where
      P : Subnet
      P = subnet_of τ M (d + 1) n (k + 1)

      A : HasLam (H N) (L N) n k (subnet_of τ M (d + 1) n (k + 1))
      A = has_lam (H N) (L N) n k (subnet_of τ M (d + 1) n (k + 1)) h

      own : (e : Context) → (occurs (bound 0) M ≡ true) ⊎ (occurs (bound 0) M ≡ false) →
          After (lam M) d n k F (at root (star (e 0)) (tail e)) 0 (nets.slot k 2, F e)
      own e (inl o') =
          let W = wire_there τ M (bound 0) (d + 1) n (k + 1) i o' in
          let l : L N (slot_port k 2) W.0 = subst
          (λ x. L N (slot_port k 2) (bound_port x
          (k + 1 + length (subnet_of τ M (d + 1) n (k + 1)).nodes))) W.1 A.var_link in
          let r = at_wire M (bound 0) (d + 1) n (k + 1) F e W.0 W.1 o' in (
            body (at (wire (bound 0)) (e 0) (tail e)),
            one (lam_own o'),
            linked_to (lam M) d n k F (body (at (wire (bound 0)) (e 0) (tail e)))
                (slot_port k 2) W.0 (F e) l (record { is = r.is; fits = r.fits }),
          )
      own e (inr o') =
          let x = k + 1 + length (subnet_of τ M (d + 1) n (k + 1)).nodes in
          let none = wire_not τ M (bound 0) (d + 1) n (k + 1) i (omega arith) o' in
          let l : L N (slot_port k 2) (slot_port x 0) = subst
          (λ w. L N (slot_port k 2) (bound_port w
          (k + 1 + length (subnet_of τ M (d + 1) n (k + 1)).nodes))) none A.var_link in
          let e' : Holds (H N) (k + 1 + length (subnet_of τ M (d + 1) n (k + 1)).nodes)
          ((kind.Eraser, 0) ∷ []) = subst (λ w.
          Holds (H N) (k + 1 + length (subnet_of τ M (d + 1) n (k + 1)).nodes) (erasers w)) none A.eraser in (
            at root (star (e 0)) (tail e),
            here,
            inr (
              nets.slot x 0,
              l,
              turn_eraser N
                  (Reaches (Trail (Edge τ (lam M))) (Rest N (Stands τ (lam M) d n k F))
                  (at root (star (e 0)) (tail e))) x 0 (F e) e'.0,
              no_principal N k 1,
              of_control N x 0 kind.Eraser e'.0 (λ q. absurd (cc)) (λ q. absurd (cc)),
            ),
          )

      go : (s : ℕ) (e : Context) → s < arity kind.Lam → change kind.Lam s e ≡ cons v c →
          After (lam M) d n k F (at root v c) 0 (nets.slot k (suc s), F e)
      go zero e low q =
          let r = at_root M (d + 1) n (k + 1) F e in
          of_cons (λ v c. After (lam M) d n k F (at root v c) 0 (nets.slot k 1, F e)) (o (e 0)) v (tail e) c q (
            body (at root (e 0) (tail e)),
            one lam_root,
            linked_to (lam M) d n k F (body (at root (e 0) (tail e))) (slot_port k 1) P.root
                (F e) A.link (record { is = r.is; fits = r.fits }),
          )
      go (suc zero) e low q = of_cons (λ v c.
          After (lam M) d n k F (at root v c) 0 (nets.slot k 2, F e)) (star (e 0)) v (tail e) c q
          (own e (bool_or N (occurs (bound 0) M)))
      go (suc (suc s)) e low q = absurd (omega arith)
  down_root (app M Q) d n k F b i h v c =
      let P = subnet_of τ M d n (k + 1) in
      let A = has_head (H N) (L N) n k (bare_variable τ d Q) P (argument τ M Q d n k) h in
      let r = at_root M d n (k + 1) F (cons (o v) c) in
      subst (λ p. Turn N (After (app M Q) d n k F (at root v c)) (numbered_port p) (F (cons v c)))
      (sym (applied_root n k (bare_variable τ d Q) P (argument τ M Q d n k)))
      (turn_in N (After (app M Q) d n k F (at root v c)) k kind.App n 0 F (cons v c) b A.node (
        fun (at root (o v) c),
        one app_root,
        linked_to (app M Q) d n k F (fun (at root (o v) c)) (slot_port k 0) P.root
            (F (cons (o v) c)) A.link (record { is = r.is; fits = r.fits }),
      ))

  down_var : (y d n k : ℕ) (F : Context → Context) → Before n F →
      Has (H N) (L N) k (subnet_of τ (var y) d n k) → (w : Level) (c : Context) →
      Turn N (After (var y) d n k F (at (wire (bound y)) w c)) (nets.slot k 0) (F (cons w c))
  down_var y d n k F b h w c = turn_out N
      (After (var y) d n k F (at (wire (bound y)) w c)) k kind.Croissant n F (cons w c) b h.nodes.0 go
    where
      go : (s : ℕ) (e : Context) → s < 1 → cons empty e ≡ cons w c →
          After (var y) d n k F (at (wire (bound y)) w c) 0 (nets.slot k (suc s), F e)
      go zero e low q = of_cons (λ w c. After (var y) d n k F (at (wire (bound y)) w c) 0
          (nets.slot k 1, F e)) empty w e c q
          (at root (e 0) (tail e), one_back (var_wire (sym (eta e))), inl (inl (at_root (var y) d n k F e)))
      go (suc s) e low q = absurd (omega arith)

  down_free : (f d n k : ℕ) (F : Context → Context) → Before n F →
      Has (H N) (L N) k (subnet_of τ (free f) d n k) → (w : Level) (c : Context) →
      Turn N (After (free f) d n k F (at (wire (name f)) w c)) (nets.slot k 0) (F (cons w c))
  down_free f d n k F b h w c = turn_out N
      (After (free f) d n k F (at (wire (name f)) w c)) k kind.Croissant n F (cons w c) b h.nodes.0 go
    where
      go : (s : ℕ) (e : Context) → s < 1 → cons empty e ≡ cons w c →
          After (free f) d n k F (at (wire (name f)) w c) 0 (nets.slot k (suc s), F e)
      go zero e low q = of_cons (λ w c. After (free f) d n k F (at (wire (name f)) w c) 0
          (nets.slot k 1, F e)) empty w e c q
          (at root (e 0) (tail e), one_back (free_wire (sym (eta e))), inl (inl (at_root (free f) d n k F e)))
      go (suc s) e low q = absurd (omega arith)

  -- the one wire of an occurrence
  own_wire : (v u : ℕ) (q p : Port) → nat_eq u v ≡ true → wire_of v ((u, q) ∷ []) ≡ Some p → q ≡ p
  own_wire v u q p t e = let r : ◌≡◌ {A = Option Port} (Some q) (Some p) = sym (wire_here v (u, q) [] t) ∙ e in cc

  -- an argument that is a wire: slot 2 of the application, from where the node leads to the function
  module _ (M Q : Tree) (d n k x : ℕ) (F : Context → Context) (b : Before n F)
      (bare : bare_variable τ d Q ≡ Some x) (A : HasAppTo (H N) (L N) n k x (subnet_of τ M d n (k + 1))) where
    pub wire_trail : (y : Wire) (v : Level) (c : Context) → occurs y Q ≡ true →
        Trail (Edge τ (app M Q)) (arg v (at (wire y) empty c)) (fun (at root (star v) c)) 1
    wire_trail y v c o' =
        let e = subst (λ l. Edge τ Q (at root (c 0) (tail c)) (at (wire y) empty l) 0) (eta c)
        (wire_edge τ d x Q y (c 0) (tail c) bare o') in
        tr_trans (one_back (in_arg e)) (one_back (app_arg (sym (eta c)))) refl

    pub by_slot : (z : Spot) (v : Level) (c : Context) →
        Trail (Edge τ (app M Q)) z (fun (at root (star v) c)) 1 →
        Turn N (After (app M Q) d n k F z) (nets.slot k 2) (F (cons v c))
    by_slot z v c t =
        let r = at_root M d n (k + 1) F (cons (star v) c) in
        turn_in N (After (app M Q) d n k F z) k kind.App n 1 F (cons v c) b A.node (
          fun (at root (star v) c),
          t,
          linked_to (app M Q) d n k F (fun (at root (star v) c))
              (slot_port k 0) (subnet_of τ M d n (k + 1)).root (F (cons (star v) c)) A.link
              (record { is = r.is; fits = r.fits }),
        )

    -- the same where only the link is left
    pub at_slot : (z : Spot) (v : Level) (c : Context) →
        Trail (Edge τ (app M Q)) z (fun (at root (star v) c)) 1 →
        Turn N (Reaches (Trail (Edge τ (app M Q))) (Rest N (Stands τ (app M Q) d n k F)) z)
        (nets.slot k 2) (F (cons v c))
    at_slot z v c t =
        let r = at_root M d n (k + 1) F (cons (star v) c) in
        turn_in N (Reaches (Trail (Edge τ (app M Q)))
        (Rest N (Stands τ (app M Q) d n k F)) z) k kind.App n 1 F (cons v c) b A.node (
          fun (at root (star v) c),
          t,
          inr (
            numbered_port (subnet_of τ M d n (k + 1)).root,
            A.link,
            record { is = r.is; fits = r.fits },
          ),
        )

    pub slot_down : (v : Level) (z : Spot) (u : S) → bare_state z k (λ c. F (cons v c)) ≡ Some u →
        Fits z Q → Turn N (After (app M Q) d n k F (arg v z)) u.0 u.1
    slot_down v (at root w c) u e f =
        let same : ◌≡◌ {A = S} (nets.slot k 2, F (cons v (cons w c))) u = cc in
        subst (λ (u : S). Turn N (After (app M Q) d n k F (arg v (at root w c))) u.0 u.1) same
        (by_slot (arg v (at root w c)) v (cons w c) (one_back (app_arg refl)))
    slot_down v (at (wire y) empty c) u e f =
        let same : ◌≡◌ {A = S} (nets.slot k 2, F (cons v c)) u = cc in
        subst (λ (u : S). Turn N (After (app M Q) d n k F
        (arg v (at (wire y) empty c))) u.0 u.1) same
        (by_slot (arg v (at (wire y) empty c)) v c (wire_trail y v c f))
    slot_down v (at (wire y) (o a) c) u e f = absurd (cc)
    slot_down v (at (wire y) (star a) c) u e f = absurd (cc)
    slot_down v (at (wire y) (pair a a') c) u e f = absurd (cc)
    slot_down v (body z) u e f = absurd (cc)
    slot_down v (fun z) u e f = absurd (cc)
    slot_down v (arg w z) u e f = absurd (cc)

  -- a wire of an application
  module _ (M Q : Tree) (d n k : ℕ) (F : Context → Context) (b : Before n F)
      (i : is_below d (app M Q) ≡ true) (h : Has (H N) (L N) k (subnet_of τ (app M Q) d n k))
      (y : Wire) (w : Level) (c : Context) (inside : IsInside d y) where
    I : (is_below d M ≡ true) × (is_below d Q ≡ true)
    I = and_parts (is_below d M) (is_below d Q) i

    abbrev P : Subnet
    P = subnet_of τ M d n (k + 1)

    abbrev R : Subnet
    R = argument τ M Q d n k

    abbrev Goal : Level → Context → ℕ → S → Type 0
    Goal w c m u = After (app M Q) d n k F (at (wire y) w c) m u

    -- by the fan to the function
    to_left : (x : ℕ) (p : Port) (e : Context) → wire_of (key d y) P.wires ≡ Some p →
        occurs y M ≡ true → (w : Level) → w ≡ left Q y (e 0) → L N (slot_port x 1) p →
        Goal w (tail e) 0 (nets.slot x 1, F e)
    to_left x p e q o' w g l =
        let r = at_wire M y d n (k + 1) F e p q o' in (
          fun (at (wire y) (e 0) (tail e)),
          one (app_left o' g),
          linked_to (app M Q) d n k F (fun (at (wire y) (e 0) (tail e))) (slot_port x 1) p (F e) l
              (record { is = r.is; fits = r.fits }),
        )

    -- by the bracket to the argument
    in_right : bare_variable τ d Q ≡ None → (q : Port) (e : Context) →
        wire_of (key d y) R.wires ≡ Some q → occurs y Q ≡ true →
        Stands τ (app M Q) d n k F (arg (e 0) (at (wire y) (e 1) (tail (tail e)))) (numbered_port q, F e)
    in_right none q e f o' = record {
      is = ap
          (λ o. arg_state o (at (wire y) (e 1) (tail (tail e))) k (λ c. F (cons (e 0) c))
          (at_port (wire_of (key d y) R.wires) (F (cons (e 0) (cons (e 1) (tail (tail e))))))) none
          ∙ ap (λ x. at_port x (F (cons (e 0) (cons (e 1) (tail (tail e)))))) f
          ∙ ap (λ c. Some (numbered_port q, F c)) (eta2 e);
      fits = o';
    }

    -- a wire that the function alone has
    only_left : (a p : Port) → wire_of (key d y) P.wires ≡ Some a →
        ◌≡◌ {A = Option Port} (Some p) (Some a) → occurs y Q ≡ false
        → ((p : Port) → wire_of (key d y) P.wires ≡ Some p → occurs y M ≡ true →
        Turn N (After M d n (k + 1) F (at (wire y) w c)) (numbered_port p) (F (cons w c)))
        → Turn N (Goal w c) (numbered_port p) (F (cons w c))
    only_left a p ea r n' ih =
        let same : p ≡ a = cc in
        let o' = occurs_there τ M y d n (k + 1) a I.0 inside ea in
        let g : w ≡ left Q y w = sym (if_false N (occurs y Q) (o w) w n') in
        turn_front N (app M Q) (Resting N (Trail (Edge τ (app M Q))) (Stands τ (app M Q) d n k F))
        (at (wire y) w c) (fun (at (wire y) w c)) (numbered_port p) (F (cons w c)) (one (app_left o' g))
        (subst (λ p. Turn N (After (app M Q) d n k F (fun (at (wire y) w c))) (numbered_port p)
        (F (cons w c))) (sym same) (lift_fun M Q d n k F (at (wire y) w c) (numbered_port a)
        (F (cons w c)) (ih a ea o')))

    down_app : bare_variable τ d Q ≡ None → (a q : Option Port) (p : Port) →
        wire_of (key d y) P.wires ≡ a → wire_of (key d y) R.wires ≡ q → Wires (H N) (L N) n a q (Some p)
        → ((p : Port) → wire_of (key d y) P.wires ≡ Some p → occurs y M ≡ true →
        Turn N (After M d n (k + 1) F (at (wire y) w c)) (numbered_port p) (F (cons w c)))
        → Turn N (Goal w c) (numbered_port p) (F (cons w c))
    down_app none None None p ea eq r ih = let clash : ◌≡◌ {A = Option Port} (Some p) None = r in absurd (cc)
    down_app none (Some a) None p ea eq r ih = only_left a p ea r
        (occurs_not τ Q y d (n + 1) (k + 1 + length (subnet_of τ M d n (k + 1)).nodes) I.1 inside eq) ih
    down_app none None (Some q) p ea eq (x, ex, hb, lb) ih =
        let same : slot_port x 0 ≡ p = cc in
        let o' = occurs_there τ Q y d (n + 1) (k + 1 + length (subnet_of τ M d n (k + 1)).nodes) q I.1 inside eq in
        let n' = occurs_not τ M y d n (k + 1) I.0 inside ea in
        subst (λ p. Turn N (Goal w c) (numbered_port p) (F (cons w c))) same
        (turn_out N (Goal w c) x kind.Bracket n F (cons w c) b hb (go o' n'))
      where
        go : occurs y Q ≡ true → occurs y M ≡ false → (s : ℕ) (e : Context) → s < 1 →
            cons (pair (e 1) (e 0)) (tail (tail e)) ≡ cons w c → Goal w c 0 (nets.slot x (suc s), F e)
        go o' n' zero e low g = of_cons (λ w c. Goal w c 0 (nets.slot x 1, F e))
            (pair (e 1) (e 0)) w (tail (tail e)) c g (
              arg (e 0) (at (wire y) (e 1) (tail (tail e))),
              one (app_right o' (packed_right M y (e 1) (e 0) (has_box τ d Q none)
                  (sym (if_false N (occurs y M) (star (pair (e 1) (e 0))) (pair (e 1) (e 0)) n')))),
              linked_to (app M Q) d n k F (arg (e 0) (at (wire y) (e 1) (tail (tail e))))
                  (slot_port x 1) q (F e) lb (in_right none q e eq o'),
            )
        go o' n' (suc s) e low g = absurd (omega arith)
    down_app none (Some a) (Some q) p ea eq (x, z, ez, hb, lb, hf, lf, lg) ih =
        let same : slot_port z 0 ≡ p = cc in
        let o' = occurs_there τ Q y d (n + 1) (k + 1 + length (subnet_of τ M d n (k + 1)).nodes) q I.1 inside eq in
        let m' = occurs_there τ M y d n (k + 1) a I.0 inside ea in
        subst (λ p. Turn N (Goal w c) (numbered_port p) (F (cons w c))) same
        (turn_out N (Goal w c) z kind.Fan n F (cons w c) b hf (go o' m'))
      where
        bracket : occurs y Q ≡ true → occurs y M ≡ true → (e : Context) (s : ℕ) (e' : Context) →
            s < 1 → cons (pair (e' 1) (e' 0)) (tail (tail e')) ≡ e →
            Reaches (Trail (Edge τ (app M Q))) (Rest N (Stands τ (app M Q) d n k F))
            (at (wire y) (star (e 0)) (tail e)) 0 (nets.slot x (suc s), F e')
        bracket o' m' e zero e' low g = subst
            (λ e. Reaches (Trail (Edge τ (app M Q))) (Rest N (Stands τ (app M Q) d n k F))
            (at (wire y) (star (e 0)) (tail e)) 0 (nets.slot x 1, F e')) g (
              arg (e' 0) (at (wire y) (e' 1) (tail (tail e'))),
              one (app_right o' (packed_right M y (e' 1) (e' 0) (has_box τ d Q none)
                  (sym (if_true N (occurs y M) (star (pair (e' 1) (e' 0))) (pair (e' 1) (e' 0)) m')))),
              inr (numbered_port q, lb, in_right none q e' eq o'),
            )
        bracket o' m' e (suc s) e' low g = absurd (omega arith)

        go : occurs y Q ≡ true → occurs y M ≡ true → (s : ℕ) (e : Context) → s < 2 →
            change kind.Fan s e ≡ cons w c → Goal w c 0 (nets.slot z (suc s), F e)
        go o' m' zero e low g = of_cons (λ w c. Goal w c 0 (nets.slot z 1, F e)) (o (e 0)) w
            (tail e) c g (to_left z a e ea m' (o (e 0)) (sym (if_true N (occurs y Q) (o (e 0)) (e 0) o')) lf)
        go o' m' (suc zero) e low g = of_cons (λ w c. Goal w c 0 (nets.slot z 2, F e)) (star (e 0)) w (tail e) c g (
          at (wire y) (star (e 0)) (tail e),
          here,
          inr (
            nets.slot x 0,
            lg,
            turn_out N (Reaches (Trail (Edge τ (app M Q)))
                (Rest N (Stands τ (app M Q) d n k F))
                (at (wire y) (star (e 0)) (tail e))) x kind.Bracket n F e b hb (bracket o' m' e),
            no_principal N z 1,
            of_control N x n kind.Bracket hb (λ q. absurd (cc)) (λ q. absurd (cc)),
          ),
        )
        go o' m' (suc (suc s)) e low g = absurd (omega arith)

    -- where the argument is a wire
    down_slot : (x : ℕ) → bare_variable τ d Q ≡ Some x → HasAppTo (H N) (L N) n k x P →
        (a q : Option Port) (p : Port) → wire_of (key d y) P.wires ≡ a →
        wire_of (key d y) ((x, slot_port k 2) ∷ []) ≡ q → Merges (H N) (L N) n a q (Some p)
        → ((p : Port) → wire_of (key d y) P.wires ≡ Some p → occurs y M ≡ true →
        Turn N (After M d n (k + 1) F (at (wire y) w c)) (numbered_port p) (F (cons w c)))
        → Turn N (Goal w c) (numbered_port p) (F (cons w c))
    down_slot x bare A None None p ea eq r ih = let clash : ◌≡◌ {A = Option Port} (Some p) None = r in absurd (cc)
    down_slot x bare A (Some a) None p ea eq r ih = only_left a p ea r
        (bare_lacks τ d x Q y (slot_port k 2) bare I.1 inside eq) ih
    down_slot x bare A None (Some q) p ea eq r ih =
        let f = bare_occurs τ d x Q y (slot_port k 2) q bare I.1 inside eq in
        let n' = occurs_not τ M y d n (k + 1) I.0 inside ea in
        let same : p ≡ q = cc in
        let t = tr_trans (one (app_right f.0
        (bare_right M y w (is_wire τ d x Q bare)
        (sym (if_false N (occurs y M) (star w) w n'))))) (wire_trail M Q d n k x F b bare A y w c f.0) refl in
        subst (λ p. Turn N (Goal w c) (numbered_port p) (F (cons w c))) (sym (same ∙ f.1))
        (by_slot M Q d n k x F b bare A (at (wire y) w c) w c t)
    down_slot x bare A (Some a) (Some q) p ea eq (z, ez, hf, lf, lg) ih =
        let same : slot_port z 0 ≡ p = cc in
        let f = bare_occurs τ d x Q y (slot_port k 2) q bare I.1 inside eq in
        let m' = occurs_there τ M y d n (k + 1) a I.0 inside ea in
        subst (λ p. Turn N (Goal w c) (numbered_port p) (F (cons w c))) same
        (turn_out N (Goal w c) z kind.Fan n F (cons w c) b hf
        (go f.0 m' (subst (λ q. L N (slot_port z 2) q) f.1 lg)))
      where
        go : occurs y Q ≡ true → occurs y M ≡ true → L N (slot_port z 2) (slot_port k 2) →
            (s : ℕ) (e : Context) → s < 2 → change kind.Fan s e ≡ cons w c → Goal w c 0 (nets.slot z (suc s), F e)
        go o' m' l zero e low g = of_cons (λ w c. Goal w c 0 (nets.slot z 1, F e)) (o (e 0)) w
            (tail e) c g (to_left z a e ea m' (o (e 0)) (sym (if_true N (occurs y Q) (o (e 0)) (e 0) o')) lf)
        go o' m' l (suc zero) e low g = of_cons (λ w c. Goal w c 0 (nets.slot z 2, F e)) (star (e 0)) w (tail e) c g (
          at (wire y) (star (e 0)) (tail e),
          here,
          inr (
            nets.slot k 2,
            l,
            subst (λ l. Turn N (Reaches (Trail (Edge τ (app M Q)))
                (Rest N (Stands τ (app M Q) d n k F)) (at (wire y) (star (e 0)) (tail e)))
                (nets.slot k 2) (F l)) (eta e)
                (at_slot M Q d n k x F b bare A (at (wire y) (star (e 0)) (tail e)) (e 0) (tail e)
                (tr_trans (one (app_right o' (bare_right M y (e 0) (is_wire τ d x Q bare)
                (sym (if_true N (occurs y M) (star (e 0)) (e 0) m')))))
                (wire_trail M Q d n k x F b bare A y (e 0) (tail e) o') refl)),
            no_principal N z 1,
            no_principal N k 1,
          ),
        )
        go o' m' l (suc (suc s)) e low g = absurd (omega arith)

    -- in either case
    down_both : (x : Option ℕ) → bare_variable τ d Q ≡ x → (p : Port) →
        wire_of (key d y) (applied n k x P R).wires ≡ Some p
        → ((p : Port) → wire_of (key d y) P.wires ≡ Some p → occurs y M ≡ true →
        Turn N (After M d n (k + 1) F (at (wire y) w c)) (numbered_port p) (F (cons w c)))
        → Turn N (Goal w c) (numbered_port p) (F (cons w c))
    down_both None none p e ih =
        let A = has_app (H N) (L N) n k P R (subst (λ o. Has (H N) (L N) k (applied n k o P R)) none h) in
        down_app none (wire_of (key d y) P.wires) (wire_of (key d y) R.wires) p refl refl
        (subst (λ r. Wires (H N) (L N) n (wire_of (key d y) P.wires)
        (wire_of (key d y) R.wires) r) e (A.wires (key d y)
        (few_wires τ (key d y) Q d (n + 1) (k + 1 + length P.nodes)))) ih
    down_both (Some x) bare p e ih =
        let A = has_app_to (H N) (L N) n k x P (subst (λ o. Has (H N) (L N) k (applied n k o P R)) bare h) in
        down_slot x bare A (wire_of (key d y) P.wires) (wire_of (key d y) ((x, slot_port k 2) ∷ [])) p refl refl
        (subst (λ r. Merges (H N) (L N) n (wire_of (key d y) P.wires)
        (wire_of (key d y) ((x, slot_port k 2) ∷ [])) r) e (A.wires (key d y))) ih

  down_wire : (t : Tree) (d n k : ℕ) (F : Context → Context) → Before n F → is_below d t ≡ true →
      Has (H N) (L N) k (subnet_of τ t d n k) → (y : Wire) (w : Level) (c : Context) (p : Port) →
      wire_of (key d y) (subnet_of τ t d n k).wires ≡ Some p → occurs y t ≡ true →
      Turn N (After t d n k F (at (wire y) w c)) (numbered_port p) (F (cons w c))
  down_wire (var v) d n k F b i h (bound y) w c p e f =
      let same = same_occurs v y f in
      subst (λ p. Turn N (After (var v) d n k F (at (wire (bound y)) w c)) (numbered_port p)
      (F (cons w c))) (own_wire y v (slot_port k 0) p f e)
      (subst (λ y. Turn N (After (var v) d n k F (at (wire (bound y)) w c)) (nets.slot k 0)
      (F (cons w c))) (sym same) (down_var v d n k F b h w c))
  down_wire (var v) d n k F b i h (name f') w c p e f = absurd (cc)
  down_wire (free g) d n k F b i h (bound y) w c p e f = absurd (cc)
  down_wire (free g) d n k F b i h (name f') w c p e f =
      let same = same_occurs g f' f in
      let t : nat_eq (d + g) (d + f') ≡ true = grind (arith, nat_tests, f) in
      subst (λ p. Turn N (After (free g) d n k F (at (wire (name f')) w c)) (numbered_port p)
      (F (cons w c))) (own_wire (d + f') (d + g) (slot_port k 0) p t e)
      (subst (λ y. Turn N (After (free g) d n k F (at (wire (name y)) w c)) (nets.slot k 0)
      (F (cons w c))) (sym same) (down_free g d n k F b h w c))
  down_wire (lam M) d n k F b i h y w c p e f =
      let P = subnet_of τ M (d + 1) n (k + 1) in
      let A = has_lam (H N) (L N) n k P h in
      let f' : occurs (under y) M ≡ true = sym (occurs_lam y M) ∙ f in
      turn_front N (lam M) (Resting N (Trail (Edge τ (lam M))) (Stands τ (lam M) d n k F))
      (at (wire y) w c) (body (at (wire (under y)) w c)) (numbered_port p) (F (cons w c)) (one (lam_wire refl f'))
      (lift_body M d n k F (at (wire (under y)) w c) (numbered_port p) (F (cons w c))
      (down_wire M (d + 1) n (k + 1) F b i A.part (under y) w c p (sym (wire_under τ M y d n k) ∙ e) f'))
  down_wire (app M Q) d n k F b i h y w c p e f =
      let A = has_head (H N) (L N) n k (bare_variable τ d Q) (subnet_of τ M d n (k + 1)) (argument τ M Q d n k) h in
      down_both M Q d n k F b i h y w c (occurs_inside (app M Q) y d i f)
      (bare_variable τ d Q) refl p e (λ p e' f'.
      down_wire M d n (k + 1) F b (and_parts (is_below d M) (is_below d Q) i).0 A.function y w c p e' f')

  -- at a spot of an argument
  down_arg : (M Q : Tree) (d n k : ℕ) (F : Context → Context) → Before n F →
      Has (H N) (L N) k (subnet_of τ (app M Q) d n k) →
      (v : Level) (z : Spot) (u : S) (own : Option S) (x : Option ℕ) → bare_variable τ d Q ≡ x →
      arg_state x z k (λ c. F (cons v c)) own ≡ Some u → Fits z Q →
      (bare_variable τ d Q ≡ None → own ≡ Some u →
      Turn N (After (app M Q) d n k F (arg v z)) u.0 u.1) → Turn N (After (app M Q) d n k F (arg v z)) u.0 u.1
  down_arg M Q d n k F b h v z u own None e is fits rest = rest e is
  down_arg M Q d n k F b h v z u own (Some x) e is fits rest =
      slot_down M Q d n k x F b e (has_app_to (H N) (L N) n k x (subnet_of τ M d n (k + 1))
      (subst (λ o. Has (H N) (L N) k (applied n k o (subnet_of τ M d n (k + 1))
      (argument τ M Q d n k))) e h)) v z u is fits

  pub down : (t : Tree) (d n k : ℕ) (F : Context → Context) → Before n F → is_below d t ≡ true →
      Has (H N) (L N) k (subnet_of τ t d n k) → (z : Spot) (u : S) → Stands τ t d n k F z u →
      Turn N (After t d n k F z) u.0 u.1
  down t d n k F b i h (at root v c) u s =
      subst (λ u. Turn N (After t d n k F (at root v c)) u.0 u.1)
      (stands_port (Some (subnet_of τ t d n k).root) (subnet_of τ t d n k).root
      (F (cons v c)) u s.is refl) (down_root t d n k F b i h v c)
  down t d n k F b i h (at (wire y) v c) u s =
      let W = wire_there τ t y d n k i s.fits in
      subst (λ u. Turn N (After t d n k F (at (wire y) v c)) u.0 u.1)
      (stands_port (wire_of (key d y) (subnet_of τ t d n k).wires) W.0
      (F (cons v c)) u s.is W.1) (down_wire t d n k F b i h y v c W.0 W.1 s.fits)
  down (lam M) d n k F b i h (body z) u s = lift_body M d n k F z u.0 u.1
      (down M (d + 1) n (k + 1) F b i (has_lam (H N) (L N) n k
      (subnet_of τ M (d + 1) n (k + 1)) h).part z u (record { is = s.is; fits = s.fits }))
  down (app M Q) d n k F b i h (fun z) u s =
      lift_fun M Q d n k F z u.0 u.1 (down M d n (k + 1) F b
      (and_parts (is_below d M) (is_below d Q) i).0
      (has_head (H N) (L N) n k (bare_variable τ d Q) (subnet_of τ M d n (k + 1))
      (argument τ M Q d n k) h).function z u (record { is = s.is; fits = s.fits }))
  down (app M Q) d n k F b i h (arg v z) u s =
      down_arg M Q d n k F b h v z u (state τ z Q d (n + 1)
      (k + 1 + length (subnet_of τ M d n (k + 1)).nodes) (λ c. F (cons v c))) (bare_variable τ d Q) refl s.is s.fits
      (λ none is. lift_arg M Q d n k F v none z u.0 u.1
      (down Q d (n + 1) (k + 1 + length (subnet_of τ M d n (k + 1)).nodes) (λ c. F (cons v c))
      (before_arg n F v b) (and_parts (is_below d M) (is_below d Q) i).1
      (has_app (H N) (L N) n k (subnet_of τ M d n (k + 1)) (argument τ M Q d n k)
      (subst (λ o. Has (H N) (L N) k (applied n k o (subnet_of τ M d n (k + 1))
      (argument τ M Q d n k))) none h)).argument z u (record { is = is; fits = s.fits })))
  down (var w) d n k F b i h (body z) u s = absurd s.fits
  down (free f) d n k F b i h (body z) u s = absurd s.fits
  down (app M Q) d n k F b i h (body z) u s = absurd s.fits
  down (var w) d n k F b i h (fun z) u s = absurd s.fits
  down (free f) d n k F b i h (fun z) u s = absurd s.fits
  down (lam M) d n k F b i h (fun z) u s = absurd s.fits
  down (var w) d n k F b i h (arg v z) u s = absurd s.fits
  down (free f) d n k F b i h (arg v z) u s = absurd s.fits
  down (lam M) d n k F b i h (arg v z) u s = absurd s.fits
