-- A walk that leaves a part by its root or a wire, at a spot.
use Rattle.std.proofs.Common.{◌≡◌, ℕ, zero, suc, ◌<◌, ◌+◌, length, true, false, [], ◌∷◌, Option}
use Rattle.std.proofs.Common.{None, Some, ◌⊎◌, inl, inr, refl, sym, ap, ◌∙◌, arith, subst}
use Rattle.ol_term.specs.declared.translations.Translation.{Translation}
use Rattle.ol_term.specs.Trees.{Tree, var, free, lam, app, is_below}
use Rattle.ol_net.specs.declared.parts.Kind.TheVariants as kind
use Rattle.ol_net.specs.declared.parts.Port.{Port}
use Rattle.ol_net.specs.Nets.{NamedPort, NamedNet, HasNode, Linked}
use Rattle.ol_net.specs.Nets as nets
use Rattle.ol_net.specs.Numbered.{numbered_port}
use Rattle.ol_context.specs.Contexts.{Level, empty, o, star, pair, Context, cons, tail, change}
use Rattle.std.proofs.lemmas.Bool.{and_parts, or_left, or_right}
use Rattle.ol_context.proofs.Contexts.{eta}
use Rattle.ol_rules.proofs.FreshPairs.{linked_sym}
use Rattle.ol_translate.specs.Translation.{Subnet, subnet_of, applied, bare_variable, wire_of, bound_port, slot_port}
use Rattle.ol_translate.proofs.Joints.{few_wires}
use Rattle.ol_law_meaning.specs.Spots.{Wire, bound, name, under, occurs, Place, root, wire, Spot, at}
use Rattle.ol_law_meaning.specs.Spots.{body, fun, arg, Edge, lam_root, lam_own, lam_wire, app_root}
use Rattle.ol_law_meaning.specs.Spots.{app_arg, app_left, app_right, in_arg, Trail, here}
use Rattle.ol_law_meaning.specs.Sites.{Site, self, in_lam, in_function, in_argument, PartAt, whole, of_lam, of_function}
use Rattle.ol_law_meaning.specs.Sites.{of_argument, function_at, depth, context_at}
use Rattle.ol_law_meaning.proofs.Fans.{Merges}
use Rattle.ol_law_meaning.proofs.Bare.{packed_right, bare_right, is_wire, has_box, has_one, wire_edge}
use Rattle.ol_law_meaning.proofs.Parts.{Has, argument, HasLam, has_lam, Wires, HasApp, has_app, HasAppTo, has_app_to}
use Rattle.ol_law_meaning.proofs.Parts.{HasHead, has_head, applied_root, bare_there, bare_occurs, bare_lacks, key}
use Rattle.ol_law_meaning.proofs.Parts.{wire_there, occurs_inside, occurs_lam, occurs_app}
use Rattle.ol_law_meaning.proofs.States.{Before, before_arg, S, H, L, at_port, bare_state, arg_state}
use Rattle.ol_law_meaning.proofs.States.{state, if_true, if_false}
use Rattle.ol_law_meaning.proofs.Trails.{one, one_back, tr_trans, tr_body, tr_fun, tr_arg}
use Rattle.ol_law_meaning.proofs.Turns.{no_principal, of_control, Fits, Stands, Turn, Rest, Reaches}
use Rattle.ol_law_meaning.proofs.Turns.{turn_in, turn_out, of_cons, stands_port}
use Rattle.ol_law_meaning.proofs.Down.{eta2, occurs_there, occurs_not, wire_under, After, lift_body}
use Rattle.ol_law_meaning.proofs.Down.{lift_fun, lift_arg, at_root, linked_to}

module _ (τ : Translation) (N : NamedNet ℕ) where
  -- a trail to the part's interface, where the net stands at the same port
  pub record Escape (t : Tree) (d n k : ℕ) (F : Context → Context) (z : Spot) (u : S) : Type 0 where
    pub place_is : Place
    pub level : Level
    pub later : Context
    pub trail : Trail (Edge τ t) z (at place_is level later) 0
    pub stands : Stands τ t d n k F (at place_is level later) u

  -- the spot is at the root of the function of application node x
  pub record AtFunction (t : Tree) (d n k : ℕ) (F : Context → Context) (z : Spot) (u : S) (x : ℕ) : Type 0 where
    pub site : Site
    pub function : Tree
    pub argument : Tree
    pub is : PartAt t site (app function argument)
    pub level : Level
    pub later : Context
    pub trail : Trail (Edge τ t) z (function_at site level later) 0
    pub there : HasNode N x kind.App (n + depth site)
    pub stands : (w : Level) (e : Context) →
        Stands τ t d n k F (function_at site w e) (u.0, F (context_at site (cons w e)))
    pub same : u.1 ≡ F (context_at site (cons level later))

  function_in_body : (M : Tree) (d n k : ℕ) (F : Context → Context) (z : Spot) (u : S) (x : ℕ) →
      AtFunction M (d + 1) n (k + 1) F z u x → AtFunction (lam M) d n k F (body z) u x
  function_in_body M d n k F z u x r = record {
    site = in_lam r.site;
    function = r.function;
    argument = r.argument;
    is = of_lam r.is;
    level = r.level;
    later = r.later;
    trail = tr_body r.trail;
    there = r.there;
    stands = λ w e. (let s = r.stands w e in record { is = s.is; fits = s.fits });
    same = r.same;
  }

  function_in_fun : (M Q : Tree) (d n k : ℕ) (F : Context → Context) (z : Spot) (u : S) (x : ℕ) →
      AtFunction M d n (k + 1) F z u x → AtFunction (app M Q) d n k F (fun z) u x
  function_in_fun M Q d n k F z u x r = record {
    site = in_function r.site;
    function = r.function;
    argument = r.argument;
    is = of_function r.is;
    level = r.level;
    later = r.later;
    trail = tr_fun r.trail;
    there = r.there;
    stands = λ w e. (let s = r.stands w e in record { is = s.is; fits = s.fits });
    same = r.same;
  }

  function_in_arg : (M Q : Tree) (d n k : ℕ) (F : Context → Context) (v : Level) →
      bare_variable τ d Q ≡ None → (z : Spot) (u : S) (x : ℕ) →
      AtFunction Q d (n + 1) (k + 1 + length (subnet_of τ M d n (k + 1)).nodes)
      (λ c. F (cons v c)) z u x → AtFunction (app M Q) d n k F (arg v z) u x
  function_in_arg M Q d n k F v none z u x r = record {
    site = in_argument v r.site;
    function = r.function;
    argument = r.argument;
    is = of_argument r.is;
    level = r.level;
    later = r.later;
    trail = tr_arg r.trail;
    there = subst (λ i. HasNode N x kind.App i)
        (let g : n + 1 + depth r.site ≡ n + suc (depth r.site) = omega arith in g) r.there;
    stands = λ w e. (let s = r.stands w e in record {
      is = ap (λ o. arg_state o (function_at r.site w e) k (λ c. F (cons v c))
          (state τ (function_at r.site w e) Q d (n + 1)
          (k + 1 + length (subnet_of τ M d n (k + 1)).nodes) (λ c. F (cons v c)))) none ∙ s.is;
      fits = s.fits;
    });
    same = r.same;
  }

  no_slot : {x y s : ℕ} → ◌≡◌ {A = NamedPort ℕ} (nets.slot x (suc s)) (nets.slot y 0) → ⊥
  no_slot {s = s} e = let n : suc s ≡ 0 = cc in omega arith

  -- or a link to a node
  pub record Turned (t : Tree) (d n k : ℕ) (F : Context → Context) (z : Spot) (u : S) : Type 0 where
    pub next : NamedPort ℕ
    pub application : (x : ℕ) → next ≡ nets.slot x 0 → AtFunction t d n k F z u x
    pub linked : Linked N u.0 next
    pub turn : Turn N (After τ N t d n k F z) next u.1

  abbrev pub Leaves : Tree → (d n k : ℕ) → (Context → Context) → Spot → S → Type 0
  Leaves t d n k F z u = Escape t d n k F z u ⊎ Turned t d n k F z u

  back_link : (p q : Port) → L N p q → Linked N (numbered_port q) (numbered_port p)
  back_link p q l = linked_sym N (numbered_port p) (numbered_port q) l

  module _ (M : Tree) (d n k : ℕ) (F : Context → Context) (b : Before n F)
      (i : is_below d (lam M) ≡ true) (h : Has (H N) (L N) k (subnet_of τ (lam M) d n k)) (z : Spot) where
    A : HasLam (H N) (L N) n k (subnet_of τ M (d + 1) n (k + 1))
    A = has_lam (H N) (L N) n k (subnet_of τ M (d + 1) n (k + 1)) h

    body_wire : (y : Wire) (v : Level) (c : Context) (u : S) →
        Trail (Edge τ M) z (at (wire (under y)) v c) 0 →
        Stands τ M (d + 1) n (k + 1) F (at (wire (under y)) v c) u → Escape (lam M) d n k F (body z) u
    body_wire y v c u t s = record {
      place_is = wire y;
      level = v;
      later = c;
      trail = tr_trans (tr_body t) (one_back (lam_wire refl s.fits)) refl;
      stands = record {
        is = ap (λ x. at_port x (F (cons v c))) (wire_under τ M y d n k) ∙ s.is;
        fits = occurs_lam y M ∙ s.fits;
      };
    }

    leave_body : (p : Place) (v : Level) (c : Context) (u : S) → Trail (Edge τ M) z (at p v c) 0 →
        Stands τ M (d + 1) n (k + 1) F (at p v c) u → Leaves (lam M) d n k F (body z) u
    leave_body root v c u t s =
        subst (λ u. Leaves (lam M) d n k F (body z) u)
        (stands_port (Some (subnet_of τ M (d + 1) n (k + 1)).root)
        (subnet_of τ M (d + 1) n (k + 1)).root (F (cons v c)) u s.is refl)
        (inr (record {
          next = nets.slot k 1;
          application = λ x e. absurd (no_slot e);
          linked = back_link (slot_port k 1) (subnet_of τ M (d + 1) n (k + 1)).root A.link;
          turn = turn_in N (After τ N (lam M) d n k F (body z)) k kind.Lam n 0 F (cons v c) b A.node (
            at root (o v) c,
            tr_trans (tr_body t) (one_back lam_root) refl,
            inl (inl (record { is = refl; fits = tt })),
          );
        }))
    leave_body (wire (bound zero)) v c u t s =
        let W = wire_there τ M (bound 0) (d + 1) n (k + 1) i s.fits in
        let l : L N (slot_port k 2) W.0 = subst
        (λ x. L N (slot_port k 2) (bound_port x
        (k + 1 + length (subnet_of τ M (d + 1) n (k + 1)).nodes))) W.1 A.var_link in
        subst (λ u. Leaves (lam M) d n k F (body z) u)
        (stands_port (wire_of 0 (subnet_of τ M (d + 1) n (k + 1)).wires) W.0 (F (cons v c)) u s.is W.1)
        (inr (record {
          next = nets.slot k 2;
          application = λ x e. absurd (no_slot e);
          linked = back_link (slot_port k 2) W.0 l;
          turn = turn_in N (After τ N (lam M) d n k F (body z)) k kind.Lam n 1 F (cons v c) b A.node (
            at root (star v) c,
            tr_trans (tr_body t) (one_back (lam_own s.fits)) refl,
            inl (inl (record { is = refl; fits = tt })),
          );
        }))
    leave_body (wire (bound (suc y))) v c u t s = inl (body_wire (bound y) v c u t s)
    leave_body (wire (name f)) v c u t s = inl (body_wire (name f) v c u t s)

  module _ (M Q : Tree) (d n k : ℕ) (F : Context → Context) (b : Before n F)
      (i : is_below d (app M Q) ≡ true) (h : Has (H N) (L N) k (subnet_of τ (app M Q) d n k)) (z : Spot) where
    abbrev P : Subnet
    P = subnet_of τ M d n (k + 1)

    abbrev R : Subnet
    R = argument τ M Q d n k

    abbrev W : Subnet
    W = subnet_of τ (app M Q) d n k

    top : HasHead (H N) (L N) n k (subnet_of τ M d n (k + 1))
    top = has_head (H N) (L N) n k (bare_variable τ d Q) (subnet_of τ M d n (k + 1)) (argument τ M Q d n k) h

    -- where the argument has a box, and where it is a wire
    B : bare_variable τ d Q ≡ None → HasApp (H N) (L N) n k (subnet_of τ M d n (k + 1)) (argument τ M Q d n k)
    B none = has_app (H N) (L N) n k (subnet_of τ M d n (k + 1)) (argument τ M Q d n k)
        (subst (λ o. Has (H N) (L N) k (applied n k o (subnet_of τ M d n (k + 1)) (argument τ M Q d n k))) none h)

    C : (x : ℕ) → bare_variable τ d Q ≡ Some x → HasAppTo (H N) (L N) n k x (subnet_of τ M d n (k + 1))
    C x bare = has_app_to (H N) (L N) n k x (subnet_of τ M d n (k + 1))
        (subst (λ o. Has (H N) (L N) k (applied n k o (subnet_of τ M d n (k + 1)) (argument τ M Q d n k))) bare h)

    I : (is_below d M ≡ true) × (is_below d Q ≡ true)
    I = and_parts (is_below d M) (is_below d Q) i

    wires_of : bare_variable τ d Q ≡ None → (y : Wire) →
        Wires (H N) (L N) n (wire_of (key d y) P.wires) (wire_of (key d y) R.wires) (wire_of (key d y) W.wires)
    wires_of none y = subst (λ o. Wires (H N) (L N) n (wire_of (key d y) P.wires)
        (wire_of (key d y) R.wires) (wire_of (key d y) (applied n k o P R).wires)) (sym none)
        ((B none).wires (key d y) (few_wires τ (key d y) Q d (n + 1)
        (k + 1 + length (subnet_of τ M d n (k + 1)).nodes)))

    merges_of : (x : ℕ) → bare_variable τ d Q ≡ Some x → (y : Wire) →
        Merges (H N) (L N) n (wire_of (key d y) P.wires)
        (wire_of (key d y) ((x, slot_port k 2) ∷ [])) (wire_of (key d y) W.wires)
    merges_of x bare y = subst (λ o. Merges (H N) (L N) n (wire_of (key d y) P.wires)
        (wire_of (key d y) ((x, slot_port k 2) ∷ [])) (wire_of (key d y) (applied n k o P R).wires))
        (sym bare) ((C x bare).wires (key d y))

    -- at a wire of the whole application
    own_wire : (y : Wire) (w : Level) (c : Context) (p : Port) →
        wire_of (key d y) W.wires ≡ Some p → occurs y (app M Q) ≡ true →
        Stands τ (app M Q) d n k F (at (wire y) w c) (numbered_port p, F (cons w c))
    own_wire y w c p e f = record { is = ap (λ x. at_port x (F (cons w c))) e; fits = f }

    -- to the argument, by the application node
    to_arg : (x : Option ℕ) → bare_variable τ d Q ≡ x → (e : Context) →
        Trail (Edge τ M) z (at root (star (e 0)) (tail e)) 0 →
        After τ N (app M Q) d n k F (fun z) 1 (nets.slot k 2, F e)
    to_arg None none e t = (
      arg (e 0) (at root (e 1) (tail (tail e))),
      tr_trans (tr_fun t) (one (app_arg (sym (eta (tail e))))) refl,
      linked_to τ N (app M Q) d n k F (arg (e 0) (at root (e 1) (tail (tail e))))
          (slot_port k 2) R.root (F e) (B none).arg_link (record {
            is = ap (λ o. arg_state o (at root (e 1) (tail (tail e))) k (λ c. F (cons (e 0) c))
                (at_port (Some R.root) (F (cons (e 0) (cons (e 1) (tail (tail e))))))) none
                ∙ ap (λ c. Some (numbered_port R.root, F c)) (eta2 e);
            fits = tt;
          }),
    )
    to_arg (Some x) bare e t = (
      arg (e 0) (at root (e 1) (tail (tail e))),
      tr_trans (tr_fun t) (one (app_arg (sym (eta (tail e))))) refl,
      inl (inl (record {
        is = ap (λ o. arg_state o (at root (e 1) (tail (tail e))) k (λ c. F (cons (e 0) c))
            (at_port (Some R.root) (F (cons (e 0) (cons (e 1) (tail (tail e))))))) bare
            ∙ ap (λ c. Some (nets.slot k 2, F c)) (eta2 e);
        fits = tt;
      })),
    )

    root_turn : (v : Level) (c : Context) (s : ℕ) (e : Context) → s < 2 →
        change kind.App s e ≡ cons v c → Trail (Edge τ M) z (at root v c) 0 →
        After τ N (app M Q) d n k F (fun z) 1 (nets.slot k (suc s), F e)
    root_turn v c zero e low g t =
        of_cons (λ v c. Trail (Edge τ M) z (at root v c) 0 →
        After τ N (app M Q) d n k F (fun z) 1 (nets.slot k 1, F e)) (o (e 0)) v (tail e) c g
        (λ t. (
          at root (e 0) (tail e),
          tr_trans (tr_fun t) (one_back app_root) refl,
          inl (inl (subst (λ p. Stands τ (app M Q) d n k F (at root (e 0) (tail e))
              (numbered_port p, F e)) (applied_root n k (bare_variable τ d Q) P R) (at_root τ N (app M Q) d n k F e))),
        )) t
    root_turn v c (suc zero) e low g t =
        of_cons (λ v c. Trail (Edge τ M) z (at root v c) 0 →
        After τ N (app M Q) d n k F (fun z) 1 (nets.slot k 2, F e)) (star (e 0)) v (tail e) c g
        (λ t. to_arg (bare_variable τ d Q) refl e t) t
    root_turn v c (suc (suc s)) e low g t = absurd (omega arith)

    -- a wire that the function has alone, and one that both have
    fun_alone : (y : Wire) (w : Level) (c : Context) (a : Port) →
        Trail (Edge τ M) z (at (wire y) w c) 0 → occurs y M ≡ true → occurs y Q ≡ false →
        wire_of (key d y) W.wires ≡ Some a → Leaves (app M Q) d n k F (fun z) (numbered_port a, F (cons w c))
    fun_alone y w c a t f n' e =
        inl (record {
          place_is = wire y;
          level = w;
          later = c;
          trail = tr_trans (tr_fun t) (one_back (app_left f (sym (if_false N (occurs y Q) (o w) w n')))) refl;
          stands = own_wire y w c a e (occurs_app y M Q ∙ or_left (occurs y M) (occurs y Q) f);
        })

    fun_shared : (y : Wire) (w : Level) (c : Context) (a : Port) (x : ℕ) →
        Trail (Edge τ M) z (at (wire y) w c) 0 → occurs y M ≡ true → occurs y Q ≡ true →
        wire_of (key d y) W.wires ≡ Some (slot_port x 0) → H N x kind.Fan n → L N (slot_port x 1) a
        → Leaves (app M Q) d n k F (fun z) (numbered_port a, F (cons w c))
    fun_shared y w c a x t f o' e hf lf =
        inr (record {
          next = nets.slot x 1;
          application = λ x e. absurd (no_slot e);
          linked = back_link (slot_port x 1) a lf;
          turn = turn_in N (After τ N (app M Q) d n k F (fun z)) x kind.Fan n 0 F (cons w c) b hf (
            at (wire y) (o w) c,
            tr_trans (tr_fun t) (one_back (app_left f (sym (if_true N (occurs y Q) (o w) w o')))) refl,
            inl (inl (own_wire y (o w) c (slot_port x 0) e (occurs_app y M Q ∙ or_left (occurs y M) (occurs y Q) f))),
          );
        })

    fun_wire : (y : Wire) (w : Level) (c : Context) (a : Port) (q r : Option Port) →
        Trail (Edge τ M) z (at (wire y) w c) 0 → occurs y M ≡ true → wire_of (key d y) R.wires ≡ q →
        wire_of (key d y) W.wires ≡ r
        → Wires (H N) (L N) n (Some a) q r → Leaves (app M Q) d n k F (fun z) (numbered_port a, F (cons w c))
    fun_wire y w c a None r t f eq er j = fun_alone y w c a t f
        (occurs_not τ Q y d (n + 1) (k + 1 + length (subnet_of τ M d n (k + 1)).nodes) I.1
        (occurs_inside M y d I.0 f) eq) (er ∙ j)
    fun_wire y w c a (Some q) r t f eq er (x, x', ez, hb, lb, hf, lf, lg) =
        fun_shared y w c a x' t f (occurs_there τ Q y d (n + 1)
        (k + 1 + length (subnet_of τ M d n (k + 1)).nodes) q I.1 (occurs_inside M y d I.0 f) eq) (er ∙ ez) hf lf

    fun_slot : (x : ℕ) → bare_variable τ d Q ≡ Some x →
        (y : Wire) (w : Level) (c : Context) (a : Port) (q r : Option Port) →
        Trail (Edge τ M) z (at (wire y) w c) 0 → occurs y M ≡ true →
        wire_of (key d y) ((x, slot_port k 2) ∷ []) ≡ q → wire_of (key d y) W.wires ≡ r
        → Merges (H N) (L N) n (Some a) q r → Leaves (app M Q) d n k F (fun z) (numbered_port a, F (cons w c))
    fun_slot x bare y w c a None r t f eq er j = fun_alone y w c a t f
        (bare_lacks τ d x Q y (slot_port k 2) bare I.1 (occurs_inside M y d I.0 f) eq) (er ∙ j)
    fun_slot x bare y w c a (Some q) r t f eq er (x', ez, hf, lf, lg) = fun_shared y w c a x' t f
        (bare_occurs τ d x Q y (slot_port k 2) q bare I.1 (occurs_inside M y d I.0 f) eq).0 (er ∙ ez) hf lf

    fun_both : (x : Option ℕ) → bare_variable τ d Q ≡ x →
        (y : Wire) (w : Level) (c : Context) (a : Port) → Trail (Edge τ M) z (at (wire y) w c) 0 →
        occurs y M ≡ true → wire_of (key d y) P.wires ≡ Some a →
        Leaves (app M Q) d n k F (fun z) (numbered_port a, F (cons w c))
    fun_both None none y w c a t f e =
        fun_wire y w c a (wire_of (key d y) R.wires) (wire_of (key d y) W.wires) t f refl refl
        (subst (λ x. Wires (H N) (L N) n x (wire_of (key d y) R.wires)
        (wire_of (key d y) W.wires)) e (wires_of none y))
    fun_both (Some x) bare y w c a t f e =
        fun_slot x bare y w c a (wire_of (key d y) ((x, slot_port k 2) ∷ []))
        (wire_of (key d y) W.wires) t f refl refl
        (subst (λ p. Merges (H N) (L N) n p (wire_of (key d y) ((x, slot_port k 2) ∷ []))
        (wire_of (key d y) W.wires)) e (merges_of x bare y))

    leave_fun : (p : Place) (v : Level) (c : Context) (u : S) → Trail (Edge τ M) z (at p v c) 0 →
        Stands τ M d n (k + 1) F (at p v c) u → Leaves (app M Q) d n k F (fun z) u
    leave_fun root v c u t s =
        subst (λ u. Leaves (app M Q) d n k F (fun z) u) (stands_port (Some P.root) P.root (F (cons v c)) u s.is refl)
        (inr (record {
          next = nets.slot k 0;
          application = λ x e. (let q : k ≡ x = cc in record {
            site = self;
            function = M;
            argument = Q;
            is = whole;
            level = v;
            later = c;
            trail = tr_fun t;
            there = subst (λ x. HasNode N x kind.App (n + 0)) q
                (subst (λ i. HasNode N k kind.App i) (let g : n ≡ n + 0 = omega arith in g) top.node);
            stands = λ w e. record { is = refl; fits = tt };
            same = refl;
          });
          linked = back_link (slot_port k 0) P.root top.link;
          turn = turn_out N (After τ N (app M Q) d n k F (fun z)) k kind.App n F
              (cons v c) b top.node (λ s e low g. root_turn v c s e low g t);
        }))
    leave_fun (wire y) v c u t s =
        let a = wire_there τ M y d n (k + 1) I.0 s.fits in
        subst (λ u. Leaves (app M Q) d n k F (fun z) u)
        (stands_port (wire_of (key d y) P.wires) a.0 (F (cons v c)) u s.is a.1)
        (fun_both (bare_variable τ d Q) refl y v c a.0 t s.fits a.1)

    module _ (v' : Level) (none : bare_variable τ d Q ≡ None) where
      abbrev F' : Context → Context
      F' c = F (cons v' c)

      abbrev K : ℕ
      K = k + 1 + length (subnet_of τ M d n (k + 1)).nodes

      arg_wire : (y : Wire) (w : Level) (c : Context) (a : Option Port) (q : Port)
          (r : Option Port) → Trail (Edge τ Q) z (at (wire y) w c) 0 → occurs y Q ≡ true →
          wire_of (key d y) P.wires ≡ a → wire_of (key d y) W.wires ≡ r
          → Wires (H N) (L N) n a (Some q) r →
          Leaves (app M Q) d n k F (arg v' z) (numbered_port q, F (cons v' (cons w c)))
      arg_wire y w c None q r t f ea er (x, ex, hb, lb) =
          let n' = occurs_not τ M y d n (k + 1) I.0 (occurs_inside Q y d I.1 f) ea in
          inr (record {
            next = nets.slot x 1;
            application = λ x e. absurd (no_slot e);
            linked = back_link (slot_port x 1) q lb;
            turn = turn_in N (After τ N (app M Q) d n k F (arg v' z)) x kind.Bracket n 0 F (cons v' (cons w c)) b hb (
              at (wire y) (pair w v') c,
              tr_trans (tr_arg t) (one_back (app_right f
                  (packed_right M y w v' (has_box τ d Q none)
                  (sym (if_false N (occurs y M) (star (pair w v')) (pair w v') n'))))) refl,
              inl (inl (own_wire y (pair w v') c (slot_port x 0) (er ∙ ex)
                  (occurs_app y M Q ∙ or_right (occurs y M) (occurs y Q) f))),
            );
          })
      arg_wire y w c (Some a) q r t f ea er (x, x', ez, hb, lb, hf, lf, lg) =
          let o' = occurs_there τ M y d n (k + 1) a I.0 (occurs_inside Q y d I.1 f) ea in
          inr (record {
            next = nets.slot x 1;
            application = λ x e. absurd (no_slot e);
            linked = back_link (slot_port x 1) q lb;
            turn = turn_in N (After τ N (app M Q) d n k F (arg v' z)) x kind.Bracket n 0 F (cons v' (cons w c)) b hb (
              arg v' z,
              here,
              inr (
                nets.slot x' 2,
                back_link (slot_port x' 2) (slot_port x 0) lg,
                turn_in N (Reaches (Trail (Edge τ (app M Q))) (Rest N (Stands τ (app M Q) d n k F))
                    (arg v' z)) x' kind.Fan n 1 F (cons (pair w v') c) b hf (
                      at (wire y) (star (pair w v')) c,
                      tr_trans (tr_arg t) (one_back (app_right f
                          (packed_right M y w v' (has_box τ d Q none)
                          (sym (if_true N (occurs y M) (star (pair w v')) (pair w v') o'))))) refl,
                      inl (own_wire y (star (pair w v')) c (slot_port x' 0) (er ∙ ez)
                          (occurs_app y M Q ∙ or_right (occurs y M) (occurs y Q) f)),
                    ),
                of_control N x n kind.Bracket hb (λ q. absurd (cc)) (λ q. absurd (cc)),
                no_principal N x' 1,
              ),
            );
          })

      leave_arg : (p : Place) (v : Level) (c : Context) (u : S) → Trail (Edge τ Q) z (at p v c) 0 →
          Stands τ Q d (n + 1) K F' (at p v c) u → Leaves (app M Q) d n k F (arg v' z) u
      leave_arg root v c u t s =
          subst (λ u. Leaves (app M Q) d n k F (arg v' z) u)
          (stands_port (Some R.root) R.root (F (cons v' (cons v c))) u s.is refl)
          (inr (record {
            next = nets.slot k 2;
            application = λ x e. absurd (no_slot e);
            linked = back_link (slot_port k 2) R.root (B none).arg_link;
            turn = turn_in N (After τ N (app M Q) d n k F (arg v' z)) k kind.App n 1 F (cons v' (cons v c)) b top.node (
              fun (at root (star v') (cons v c)),
              tr_trans (tr_arg t) (one_back (app_arg refl)) refl,
              linked_to τ N (app M Q) d n k F (fun (at root (star v') (cons v c)))
                  (slot_port k 0) P.root (F (cons (star v') (cons v c))) top.link (record { is = refl; fits = tt }),
            );
          }))
      leave_arg (wire y) v c u t s =
          let q = wire_there τ Q y d (n + 1) (k + 1 + length (subnet_of τ M d n (k + 1)).nodes) I.1 s.fits in
          subst (λ u. Leaves (app M Q) d n k F (arg v' z) u)
          (stands_port (wire_of (key d y) R.wires) q.0 (F (cons v' (cons v c))) u s.is q.1)
          (arg_wire y v c (wire_of (key d y) P.wires) q.0 (wire_of (key d y) W.wires) t s.fits refl refl
          (subst (λ x. Wires (H N) (L N) n (wire_of (key d y) P.wires) x
          (wire_of (key d y) W.wires)) q.1 (wires_of none y)))

    -- from slot 2, where the argument is a wire
    slot_out : (x : ℕ) → bare_variable τ d Q ≡ Some x →
        (y : Wire) (v : Level) (c : Context) (s : Spot) (a : Option Port) →
        Trail (Edge τ (app M Q)) s (arg v (at (wire y) empty c)) 0 → occurs y Q ≡ true → wire_of (key d y) P.wires ≡ a
        → Merges (H N) (L N) n a (Some (slot_port k 2)) (wire_of (key d y) W.wires) →
        Leaves (app M Q) d n k F s (nets.slot k 2, F (cons v c))
    slot_out x bare y v c s None t f ea j =
        let n' = occurs_not τ M y d n (k + 1) I.0 (occurs_inside Q y d I.1 f) ea in
        inl (record {
          place_is = wire y;
          level = v;
          later = c;
          trail = tr_trans t (one_back (app_right f
              (bare_right M y v (is_wire τ d x Q bare) (sym (if_false N (occurs y M) (star v) v n'))))) refl;
          stands = own_wire y v c (slot_port k 2) j (occurs_app y M Q ∙ or_right (occurs y M) (occurs y Q) f);
        })
    slot_out x bare y v c s (Some a) t f ea (x', ez, hf, lf, lg) =
        let o' = occurs_there τ M y d n (k + 1) a I.0 (occurs_inside Q y d I.1 f) ea in
        inr (record {
          next = nets.slot x' 2;
          application = λ x e. absurd (no_slot e);
          linked = back_link (slot_port x' 2) (slot_port k 2) lg;
          turn = turn_in N (After τ N (app M Q) d n k F s) x' kind.Fan n 1 F (cons v c) b hf (
            at (wire y) (star v) c,
            tr_trans t (one_back (app_right f (bare_right M y v (is_wire τ d x Q bare)
                (sym (if_true N (occurs y M) (star v) v o'))))) refl,
            inl (inl (own_wire y (star v) c (slot_port x' 0) ez
                (occurs_app y M Q ∙ or_right (occurs y M) (occurs y Q) f))),
          );
        })

    slot_leaves : (x : ℕ) → bare_variable τ d Q ≡ Some x →
        (y : Wire) (v : Level) (c : Context) (s : Spot) →
        Trail (Edge τ (app M Q)) s (arg v (at (wire y) empty c)) 0 → occurs y Q ≡ true →
        Leaves (app M Q) d n k F s (nets.slot k 2, F (cons v c))
    slot_leaves x bare y v c s t f =
        slot_out x bare y v c s (wire_of (key d y) P.wires) t f refl
        (subst (λ q. Merges (H N) (L N) n (wire_of (key d y) P.wires) q (wire_of (key d y) W.wires))
        (bare_there τ d x Q y (slot_port k 2) bare I.1 (occurs_inside Q y d I.1 f) f) (merges_of x bare y))

    slot_up : (x : ℕ) → bare_variable τ d Q ≡ Some x → (v : Level) (s : Spot) (u : S) →
        bare_state s k (λ c. F (cons v c)) ≡ Some u → Fits s Q → Leaves (app M Q) d n k F (arg v s) u
    slot_up x bare v (at root w c) u e f =
        let same : ◌≡◌ {A = S} (nets.slot k 2, F (cons v (cons w c))) u = cc in
        let y = has_one τ d x Q bare in
        subst (λ (u : S). Leaves (app M Q) d n k F (arg v (at root w c)) u) same
        (slot_leaves x bare y.0 v (cons w c) (arg v (at root w c))
        (one (in_arg (wire_edge τ d x Q y.0 w c bare y.1))) y.1)
    slot_up x bare v (at (wire y) empty c) u e f =
        let same : ◌≡◌ {A = S} (nets.slot k 2, F (cons v c)) u = cc in
        subst (λ (u : S). Leaves (app M Q) d n k F (arg v (at (wire y) empty c)) u) same
        (slot_leaves x bare y v c (arg v (at (wire y) empty c)) here f)
    slot_up x bare v (at (wire y) (o a) c) u e f = absurd (cc)
    slot_up x bare v (at (wire y) (star a) c) u e f = absurd (cc)
    slot_up x bare v (at (wire y) (pair a a') c) u e f = absurd (cc)
    slot_up x bare v (body s) u e f = absurd (cc)
    slot_up x bare v (fun s) u e f = absurd (cc)
    slot_up x bare v (arg w s) u e f = absurd (cc)

    -- at a spot of the argument
    arg_up : (v : Level) (s : Spot) (u : S) (own : Option S) (x : Option ℕ) →
        bare_variable τ d Q ≡ x → arg_state x s k (λ c. F (cons v c)) own ≡ Some u → Fits s Q →
        (bare_variable τ d Q ≡ None → own ≡ Some u → Leaves (app M Q) d n k F (arg v s) u) →
        Leaves (app M Q) d n k F (arg v s) u
    arg_up v s u own None e is fits rest = rest e is
    arg_up v s u own (Some x) e is fits rest = slot_up x e v s u is fits

  pub up : (t : Tree) (d n k : ℕ) (F : Context → Context) → Before n F → is_below d t ≡ true →
      Has (H N) (L N) k (subnet_of τ t d n k) → (z : Spot) (u : S) → Stands τ t d n k F z u → Leaves t d n k F z u
  up t d n k F b i h (at p v c) u s = inl (record { place_is = p; level = v; later = c; trail = here; stands = s })
  up (lam M) d n k F b i h (body z) u s = elim
      (up M (d + 1) n (k + 1) F b i (has_lam (H N) (L N) n k
      (subnet_of τ M (d + 1) n (k + 1)) h).part z u (record { is = s.is; fits = s.fits })) [
        | inl e ↦ leave_body M d n k F b i h z e.place_is e.level e.later u e.trail e.stands
        | inr r ↦ inr (record {
          next = r.next;
          application = λ x e. function_in_body M d n k F z u x (r.application x e);
          linked = r.linked;
          turn = lift_body τ N M d n k F z r.next u.1 r.turn;
        })
      ]
  up (app M Q) d n k F b i h (fun z) u s =
      elim (up M d n (k + 1) F b (and_parts (is_below d M) (is_below d Q) i).0
      (has_head (H N) (L N) n k (bare_variable τ d Q) (subnet_of τ M d n (k + 1))
      (argument τ M Q d n k) h).function z u (record { is = s.is; fits = s.fits })) [
        | inl e ↦ leave_fun M Q d n k F b i h z e.place_is e.level e.later u e.trail e.stands
        | inr r ↦ inr (record {
          next = r.next;
          application = λ x e. function_in_fun M Q d n k F z u x (r.application x e);
          linked = r.linked;
          turn = lift_fun τ N M Q d n k F z r.next u.1 r.turn;
        })
      ]
  up (app M Q) d n k F b i h (arg v z) u s =
      arg_up M Q d n k F b i h z v z u (state τ z Q d (n + 1)
      (k + 1 + length (subnet_of τ M d n (k + 1)).nodes) (λ c. F (cons v c))) (bare_variable τ d Q) refl s.is s.fits
      (λ none is. elim (up Q d (n + 1) (k + 1 + length (subnet_of τ M d n (k + 1)).nodes)
      (λ c. F (cons v c)) (before_arg n F v b) (and_parts (is_below d M) (is_below d Q) i).1
      (has_app (H N) (L N) n k (subnet_of τ M d n (k + 1)) (argument τ M Q d n k)
      (subst (λ o. Has (H N) (L N) k (applied n k o (subnet_of τ M d n (k + 1))
      (argument τ M Q d n k))) none h)).argument z u (record { is = is; fits = s.fits })) [
        | inl e ↦ leave_arg M Q d n k F b i h z v none e.place_is e.level e.later u e.trail e.stands
        | inr r ↦ inr (record {
          next = r.next;
          application = λ x e. function_in_arg M Q d n k F v none z u x (r.application x e);
          linked = r.linked;
          turn = lift_arg τ N M Q d n k F v none z r.next u.1 r.turn;
        })
      ])
  up (var w) d n k F b i h (body z) u s = absurd s.fits
  up (free f) d n k F b i h (body z) u s = absurd s.fits
  up (app M Q) d n k F b i h (body z) u s = absurd s.fits
  up (var w) d n k F b i h (fun z) u s = absurd s.fits
  up (free f) d n k F b i h (fun z) u s = absurd s.fits
  up (lam M) d n k F b i h (fun z) u s = absurd s.fits
  up (var w) d n k F b i h (arg v z) u s = absurd s.fits
  up (free f) d n k F b i h (arg v z) u s = absurd s.fits
  up (lam M) d n k F b i h (arg v z) u s = absurd s.fits
