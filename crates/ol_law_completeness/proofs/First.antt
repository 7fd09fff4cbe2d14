-- The links of a term's own parts are links of its net.
-- Used in OnlyStrong, Plain and Circling.
use Rattle.std.proofs.Common.{◌≡◌, ℕ, zero, suc, ◌+◌, ◌<◌, List, [], ◌∷◌, ◌++◌, length, length-append, true}
use Rattle.std.proofs.Common.{Option, None, Some, refl, sym, ap, ◌∙◌, subst, arith, eq-eqb}
use Rattle.std.proofs.lemmas.Bool.Decides.{nat_tests}
use Rattle.std.proofs.lemmas.Bool.{and_parts}
use Rattle.ol_context.specs.Contexts.{Level, empty, o, star, pair, Context, cons}
use Rattle.ol_law_optimality.specs.Labels.{none, Labelled, erased}
use Rattle.ol_law_optimality.specs.Labels as labels
use Rattle.ol_law_optimality.specs.Redexes.{put}
use Rattle.ol_law_optimality.specs.Routes.{Crossing, rise}
use Rattle.ol_law_meaning.proofs.Fans.{Merges, outside_wire}
use Rattle.ol_law_meaning.proofs.Parts.{Has, argument, has_lam, Wires, has_app, has_app_to, has_head, applied_root}
use Rattle.ol_net.specs.Nets.{NamedNet, NamedPort, slot, HasNode, Linked, IsNet, port_under}
use Rattle.ol_net.specs.Numbered.{numbered_port}
use Rattle.ol_net.specs.declared.parts.Kind.{Kind}
use Rattle.ol_net.specs.declared.parts.Kind.TheVariants as kind
use Rattle.ol_net.specs.declared.parts.Port.{Port}
use Rattle.ol_rules.proofs.FreshPairs.{linked_sym}
use Rattle.ol_rules.specs.declared.journal.NodeName.{NodeName}
use Rattle.ol_rules.specs.declared.journal.NodeName.TheVariants.{Init}
use Rattle.ol_term.specs.Trees.{Tree, var, free, lam, app, is_below}
use Rattle.ol_term.specs.declared.translations.Translation.{Translation}
use Rattle.ol_term.specs.declared.translations.Translation.TheVariants.{One, Two}
use Rattle.ol_translate.proofs.Joints.{few_wires}
use Rattle.ol_translate.specs.Translation.{Subnet, subnet_of, applied, bare_variable, wire_of, slot_port, bound_port}
use Rattle.ol_law_completeness.proofs.Links.{Goes, stays, goes_on, goes_at, goes_to, upwards, Link, single}
use Rattle.ol_law_completeness.proofs.Traces.{Env, pushed, Starts, ToBinder, own, boxed, Trace}
use Rattle.ol_law_optimality.proofs.Untouched.{put_last}

-- with no words at all
abbrev pub unlabelled : Tree → Labelled
unlabelled (var y) = labels.var y none
unlabelled (free f) = labels.free f none
unlabelled (lam t) = labels.lam (unlabelled t) none
unlabelled (app t u) = labels.app (unlabelled t) (unlabelled u) none

pub erased_unlabelled : (t : Tree) → erased (unlabelled t) ≡ t
erased_unlabelled (var y) = refl
erased_unlabelled (free f) = refl
erased_unlabelled (lam t) = ap lam (erased_unlabelled t)
erased_unlabelled (app t u) = rw (erased_unlabelled t, erased_unlabelled u) refl

abbrev pub port_of : Port → NamedPort NodeName
port_of p = port_under Init (numbered_port p)

abbrev pub H : NamedNet NodeName → ℕ → Kind → ℕ → Type 0
H N x K i = HasNode N (Init x) K i

abbrev pub L : NamedNet NodeName → Port → Port → Type 0
L N p q = Linked N (port_of p) (port_of q)

-- what comes to this port of a variable's wire, with a level 0 and these levels before, is at the variable
abbrev pub Up : NamedNet NodeName → Env → ℕ → Port → List Level → Type 0
Up N env y q E = (a : Level) (p : NamedPort NodeName) (to : Level → Context → Context) (w : List (Crossing NodeName)) →
    ((v : Level) (c : Context) → Goes N p (to v c) w (port_of q) (put E (cons a (cons v c)))) → env y p to

module _ (τ : Translation) (N : NamedNet NodeName) (net : IsNet N) where
  back_link : (p q : Port) → L N p q → Linked N (port_of q) (port_of p)
  back_link p q l = linked_sym N (port_of p) (port_of q) l

  module _ (M Q : Tree) (d n k : ℕ) (E : List Level) (e : length E ≡ n)
      (h : Has (H N) (L N) k (subnet_of τ (app M Q) d n k)) (env : Env) (y : ℕ)
      (ups : (q : Port) → wire_of y (subnet_of τ (app M Q) d n k).wires ≡ Some q → Up N env y q E) where
    abbrev P : Subnet
    P = subnet_of τ M d n (k + 1)

    abbrev R : Subnet
    R = argument τ M Q d n k

    abbrev W : Subnet
    W = subnet_of τ (app M Q) d n k

    boxed_wires : bare_variable τ d Q ≡ None →
        Wires (H N) (L N) n (wire_of y P.wires) (wire_of y R.wires) (wire_of y W.wires)
    boxed_wires none' =
        let A = has_app (H N) (L N) n k P R (subst (λ o. Has (H N) (L N) k (applied n k o P R)) none' h) in
        subst (λ o. Wires (H N) (L N) n (wire_of y P.wires) (wire_of y R.wires) (wire_of y (applied n k o P R).wires)) (sym none')
        (A.wires y (few_wires τ y Q d (n + 1) (k + 1 + length P.nodes)))

    bare_wires : (x : ℕ) → bare_variable τ d Q ≡ Some x → Merges (H N) (L N) n (wire_of y P.wires)
        (wire_of y ((x, slot_port k 2) ∷ [])) (wire_of y W.wires)
    bare_wires x bare =
        let A = has_app_to (H N) (L N) n k x P (subst (λ o. Has (H N) (L N) k (applied n k o P R)) bare h) in
        subst (λ o. Merges (H N) (L N) n (wire_of y P.wires) (wire_of y ((x, slot_port k 2) ∷ []))
        (wire_of y (applied n k o P R).wires)) (sym bare) (A.wires y)

    -- through a fan
    by_fan : (z : ℕ) (s : ℕ) (q : Port) → s < 2 → wire_of y W.wires ≡ Some (slot_port z 0) → HasNode N (Init z) kind.Fan n →
        Linked N (port_of q) (slot (Init z) (suc s)) → Up N env y q E
    by_fan z zero q b g hf l a p to w f =
        ups (slot_port z 0) g (o a) p to (w ++ rise (Init z) 0 ∷ [])
        (λ v c. goes_on N (f v c) (upwards N kind.Fan 0 E (cons a (cons v c)) hf e b l))
    by_fan z (suc zero) q b g hf l a p to w f =
        ups (slot_port z 0) g (star a) p to (w ++ rise (Init z) 1 ∷ [])
        (λ v c. goes_on N (f v c) (upwards N kind.Fan 1 E (cons a (cons v c)) hf e b l))
    by_fan z (suc (suc s)) q b g hf l a p to w f = absurd (omega (arith, b))

    left_boxed : (q : Port) (x r : Option Port) → wire_of y W.wires ≡ r → Wires (H N) (L N) n (Some q) x r → Up N env y q E
    left_boxed q None r er g = ups q (er ∙ g)
    left_boxed q (Some x) r er (z, u, eu, hb, lb, hf, lf, lg) =
        by_fan u 0 q (omega arith) (er ∙ eu) hf (back_link (slot_port u 1) q lf)

    left_bare : (q : Port) (x r : Option Port) → wire_of y W.wires ≡ r → Merges (H N) (L N) n (Some q) x r → Up N env y q E
    left_bare q None r er g = ups q (er ∙ g)
    left_bare q (Some x) r er (u, eu, hf, lf, lg) =
        by_fan u 0 q (omega arith) (er ∙ eu) hf (back_link (slot_port u 1) q lf)

    left_up : (x : Option ℕ) → bare_variable τ d Q ≡ x → (q : Port) → wire_of y P.wires ≡ Some q → Up N env y q E
    left_up None none' q f = left_boxed q (wire_of y R.wires) (wire_of y W.wires) refl
        (subst (λ p. Wires (H N) (L N) n p (wire_of y R.wires) (wire_of y W.wires)) f (boxed_wires none'))
    left_up (Some x) bare q f = left_bare q (wire_of y ((x, slot_port k 2) ∷ [])) (wire_of y W.wires) refl
        (subst (λ p. Merges (H N) (L N) n p (wire_of y ((x, slot_port k 2) ∷ [])) (wire_of y W.wires)) f (bare_wires x bare))

    pub of_function : (q : Port) → wire_of y P.wires ≡ Some q → Up N env y q E
    of_function = left_up (bare_variable τ d Q) refl

    -- through a bracket, in a box that is entered with u
    by_bracket : (u : Level) (x : ℕ) (q : Port) → HasNode N (Init x) kind.Bracket n → L N (slot_port x 1) q →
        Up N env y (slot_port x 0) E → Up N env y q (E ++ u ∷ [])
    by_bracket u x q hb lb f a p to w g =
        f (pair a u) p to (w ++ rise (Init x) 0 ∷ [])
        (λ v c. goes_on N (goes_to N refl (put_last E u (cons a (cons v c))) (g v c))
        (upwards N kind.Bracket 0 E (cons u (cons a (cons v c))) hb e (omega arith) (back_link (slot_port x 1) q lb)))

    right_boxed : (u : Level) (p r : Option Port) (q : Port) → wire_of y W.wires ≡ r → Wires (H N) (L N) n p (Some q) r →
        Up N env y q (E ++ u ∷ [])
    right_boxed u None r q er (x, ex, hb, lb) = by_bracket u x q hb lb (ups (slot_port x 0) (er ∙ ex))
    right_boxed u (Some p) r q er (x, z, ez, hb, lb, hf, lf, lg) =
        by_bracket u x q hb lb (by_fan z 1 (slot_port x 0) (omega arith) (er ∙ ez) hf (back_link (slot_port z 2) (slot_port x 0) lg))

    pub of_argument : bare_variable τ d Q ≡ None → (u : Level) (q : Port) → wire_of y R.wires ≡ Some q →
        Up N env y q (E ++ u ∷ [])
    of_argument none' u q f = right_boxed u (wire_of y P.wires) (wire_of y W.wires) q refl
        (subst (λ p. Wires (H N) (L N) n (wire_of y P.wires) p (wire_of y W.wires)) f (boxed_wires none'))

    from_slot : (p r : Option Port) → wire_of y W.wires ≡ r → Merges (H N) (L N) n p (Some (slot_port k 2)) r →
        Up N env y (slot_port k 2) E
    from_slot None r er g = ups (slot_port k 2) (er ∙ g)
    from_slot (Some p) r er (z, ez, hf, lf, lg) =
        by_fan z 1 (slot_port k 2) (omega arith) (er ∙ ez) hf (back_link (slot_port z 2) (slot_port k 2) lg)

    pub of_slot : (x : ℕ) → bare_variable τ d Q ≡ Some x → x ≡ y → Up N env y (slot_port k 2) E
    of_slot x bare same =
        let f : wire_of y ((x, slot_port k 2) ∷ []) ≡ Some (slot_port k 2) =
        subst (λ x. wire_of y ((x, slot_port k 2) ∷ []) ≡ Some (slot_port k 2)) (sym same) (rw (eq-eqb y y refl) refl) in
        from_slot (wire_of y P.wires) (wire_of y W.wires) refl
        (subst (λ q. Merges (H N) (L N) n (wire_of y P.wires) q (wire_of y W.wires)) f (bare_wires x bare))

  -- an argument that is a wire
  bare_trace : (σ : Translation) (d x : ℕ) (Q : Tree) → bare_variable σ d Q ≡ Some x → is_below d Q ≡ true →
      (env : Env) (l : Link N) → ((y : ℕ) → y < d → x ≡ y → env y l.last_port l.to) → Trace N (unlabelled Q) env l
  bare_trace One d x Q e i env l f = absurd (cc)
  bare_trace Two d x (var v) e i env l f =
      let g : v ≡ x = cc in (omega arith, f v (grind (arith, nat_tests, i)) (sym g))
  bare_trace Two d x (free v) e i env l f = omega arith
  bare_trace Two d x (lam M) e i env l f = absurd (cc)
  bare_trace Two d x (app M P) e i env l f = absurd (cc)

  abbrev Ups : Env → (d : ℕ) → Subnet → List Level → Type 0
  Ups env d P E = (y : ℕ) → y < d → (q : Port) → wire_of y P.wires ≡ Some q → Up N env y q E

  ups_lam : (M : Tree) (d n k : ℕ) (E : List Level) → length E ≡ n → Has (H N) (L N) k (subnet_of τ (lam M) d n k) → (env : Env) →
      Ups env d (subnet_of τ (lam M) d n k) E →
      Ups (pushed (ToBinder N (Init k) E) env) (d + 1) (subnet_of τ M (d + 1) n (k + 1)) E
  ups_lam M d n k E e h env ups zero b q f =
      let A = has_lam (H N) (L N) n k (subnet_of τ M (d + 1) n (k + 1)) h in
      let l : L N (slot_port k 2) q = subst
      (λ x. L N (slot_port k 2) (bound_port x (k + 1 + length (subnet_of τ M (d + 1) n (k + 1)).nodes))) f A.var_link in
      λ a p to w g. (
        a,
        w ++ rise (Init k) 1 ∷ [],
        λ v c. goes_on N (g v c) (upwards N kind.Lam 1 E (cons a (cons v c)) A.node e (omega arith) (back_link (slot_port k 2) q l)),
      )
  ups_lam M d n k E e h env ups (suc y) b q f =
      ups y (omega (arith, b)) q (outside_wire y (subnet_of τ M (d + 1) n (k + 1)).wires ∙ f)

  longer_by_one : (E : List Level) (n : ℕ) (u : Level) → length E ≡ n → length (E ++ u ∷ []) ≡ n + 1
  longer_by_one E n u e = let f = length-append E (u ∷ []) in omega (arith, e, f)

  pub first : (t : Tree) (d n k : ℕ) (E : List Level) → length E ≡ n → is_below d t ≡ true →
      Has (H N) (L N) k (subnet_of τ t d n k) → (l : Link N) → l.last_mate ≡ port_of (subnet_of τ t d n k).root →
      ((v : Level) (c : Context) → l.to v c ≡ put E (cons v c)) → (env : Env) → Ups env d (subnet_of τ t d n k) E →
      Trace N (unlabelled t) env l
  first (var y) d n k E e i h l at to env ups =
      let own' : wire_of y ((y, slot_port k 0) ∷ []) ≡ Some (slot_port k 0) = rw (eq-eqb y y refl) refl in
      let b : y < d = grind (arith, nat_tests, i) in (
        omega arith,
        ups y b (slot_port k 0) own' empty l.last_port l.to (rise (Init k) 0 ∷ [])
            (λ v c. goes_at N refl (to v c) (upwards N kind.Croissant 0 E (cons v c) h.nodes.0 e (omega arith)
            (subst (λ p. Linked N l.last_port p) at l.ends))),
      )
  first (free f) d n k E e i h l at to env ups = omega arith
  first (lam M) d n k E e i h l at to env ups =
      let A = has_lam (H N) (L N) n k (subnet_of τ M (d + 1) n (k + 1)) h in
      let m : Link N = single (slot (Init k) 1) (port_of (subnet_of τ M (d + 1) n (k + 1)).root) A.link (own E) in (
        omega arith,
        Init k,
        n,
        E,
        record { node = A.node; long = e; at = at; to = to },
        m,
        record { port = refl; from = λ v c. refl },
        first M (d + 1) n (k + 1) E e i A.part m refl (λ v c. refl) (pushed (ToBinder N (Init k) E) env) (ups_lam M d n k E e h env ups),
      )
  first (app M Q) d n k E e i h l at to env ups =
      let I = and_parts (is_below d M) (is_below d Q) i in
      let A = has_head (H N) (L N) n k (bare_variable τ d Q) (subnet_of τ M d n (k + 1)) (argument τ M Q d n k) h in
      let m : Link N = single (slot (Init k) 0) (port_of (subnet_of τ M d n (k + 1)).root) A.link (own E) in (
        omega arith,
        Init k,
        n,
        E,
        record {
          node = A.node;
          long = e;
          at = at ∙ ap port_of (applied_root n k (bare_variable τ d Q) (subnet_of τ M d n (k + 1))
              (argument τ M Q d n k));
          to = to;
        },
        (
          m,
          record { port = refl; from = λ v c. refl },
          first M d n (k + 1) E e I.0 A.function m refl (λ v c. refl) env
              (λ y b q f. of_function M Q d n k E e h env y (ups y b) q f),
        ),
        λ u. arguments (bare_variable τ d Q) refl A.node u
            (λ none' A' q' at' to'. first Q d (n + 1) (k + 1 + length (subnet_of τ M d n (k + 1)).nodes) (E ++ u ∷ []) (longer_by_one E n u e) I.1
            A' q' at' to' env (λ y b q f. of_argument M Q d n k E e h env y (ups y b) none' u q f)),
      )
    where
      arguments : (x : Option ℕ) → bare_variable τ d Q ≡ x → HasNode N (Init k) kind.App n → (u : Level) →
          (bare_variable τ d Q ≡ None → Has (H N) (L N) (k + 1 + length (subnet_of τ M d n (k + 1)).nodes) (argument τ M Q d n k) →
          (q : Link N) → q.last_mate ≡ port_of (argument τ M Q d n k).root →
          ((v : Level) (c : Context) → q.to v c ≡ put (E ++ u ∷ []) (cons v c)) → Trace N (unlabelled Q) env q) →
          (q : Link N) × Starts N (slot (Init k) 2) (boxed E u) q × Trace N (unlabelled Q) env q
      arguments None none' hn u f =
          let B = has_app (H N) (L N) n k (subnet_of τ M d n (k + 1)) (argument τ M Q d n k)
          (subst (λ o. Has (H N) (L N) k (applied n k o (subnet_of τ M d n (k + 1)) (argument τ M Q d n k))) none' h) in
          let q : Link N = single (slot (Init k) 2) (port_of (argument τ M Q d n k).root) B.arg_link (boxed E u) in (
            q,
            record { port = refl; from = λ v c. refl },
            f none' B.argument q refl (λ v c. sym (put_last E u (cons v c))),
          )
      arguments (Some x) bare hn u f =
          let r = net.some_link (slot (Init k) 2) (kind.App, n, hn, omega arith) in
          let q : Link N = single (slot (Init k) 2) r.0 r.1 (boxed E u) in (
            q,
            record { port = refl; from = λ v c. refl },
            bare_trace τ d x Q bare (and_parts (is_below d M) (is_below d Q) i).1 env q
                (λ y b same. of_slot M Q d n k E e h env y (ups y b) x bare same u (slot (Init k) 2) (boxed E u) [] (λ v c. stays)),
          )
