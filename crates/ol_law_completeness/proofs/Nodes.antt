-- Where a walk stands first that leaves a node of a term's net by its slot 0, with whatever context.
-- Used in Bounding and Circling.
use Rattle.std.proofs.Common.{◌≡◌, ℕ, zero, suc, ◌+◌, ◌-◌, ◌<◌, ◌≤◌, List, [], ◌∷◌, ◌++◌, length, length-append}
use Rattle.std.proofs.Common.{Bool, true, false, nat_eq, nat_lt, if◌then◌else◌}
use Rattle.std.proofs.Common.{Option, None, Some, inl, inr, refl, sym, ap, ◌∙◌, subst, arith, eq-eqb}
use Rattle.std.proofs.lemmas.Bool.Decides.{nat_tests}
use Rattle.std.proofs.lemmas.Bool.{and_parts}
use Rattle.ol_law_edges.specs.Edges.{IsIn}
use Rattle.ol_context.specs.Contexts.{Level, star, Context, cons, tail}
use Rattle.ol_context.proofs.Contexts.{eta}
use Rattle.ol_net.specs.declared.parts.Kind.{Kind}
use Rattle.ol_net.specs.declared.parts.Kind.TheVariants as kind
use Rattle.ol_net.specs.declared.parts.Port.{Port}
use Rattle.ol_net.specs.Nets.{NamedNet, NamedPort, Linked, IsNet}
use Rattle.ol_net.specs.Nets as nets
use Rattle.ol_net.specs.Numbered.{numbered_port, numbered_from}
use Rattle.ol_law_meaning.proofs.Down.{wire_under}
use Rattle.ol_law_meaning.proofs.Fans.{Holds, Links, holds_append, links_append, by_wire, wire_here, wire_later}
use Rattle.ol_law_meaning.proofs.Fans.{Merges, fans_merge, none_there, rewired_here}
use Rattle.ol_law_meaning.proofs.Parts.{Has, argument, HasLam, has_lam, Wires, has_app}
use Rattle.ol_law_meaning.proofs.Parts.{has_head, HasHead, key, IsInside}
use Rattle.ol_law_meaning.proofs.States.{Before, before_arg, H, L}
use Rattle.ol_law_meaning.specs.Spots.{Wire, bound, name, left, root, Spot, at, body, fun, arg}
use Rattle.ol_term.specs.Trees.{Tree, var, free, lam, app, is_below}
use Rattle.ol_term.specs.declared.translations.Translation.{Translation}
use Rattle.ol_translate.proofs.Counts.{times}
use Rattle.ol_translate.proofs.Joints.{few_wires, times-bracketed}
use Rattle.ol_translate.proofs.Walks.{length-bracket_nodes}
use Rattle.ol_translate.specs.Translation.{Subnet, subnet_of, applied, application, application_to, bare_variable, wire_of}
use Rattle.ol_translate.specs.Translation.{slot_port, bound_port, erasers, bracket_nodes, bracket_links, past_brackets}
use Rattle.ol_translate.specs.Translation.{fans, fan_nodes, fan_links, merged, reconnected}
use Rattle.ol_law_completeness.proofs.Crossings.{Within, comes, and_then, moved, sooner, loosely, goes_up}
use Rattle.ol_law_completeness.proofs.Falling.{bare_stand, if_bare, Stand, room}
use Rattle.ol_law_completeness.proofs.Onward.{back_link, left_out, right_out}

-- ---- lists of nodes

holds_join : (P : ℕ → Kind → ℕ → Type 0) (k j : ℕ) (xs ys : List (Kind × ℕ)) → j ≡ k + length xs → Holds P k xs → Holds P j ys →
    Holds P k (xs ++ ys)
holds_join P k j [] ys e h h' = let same : j ≡ k = omega arith in subst (λ k. Holds P k ys) same h'
holds_join P k j (x ∷ xs) ys e h h' = (h.0, holds_join P (k + 1) j xs ys (omega arith) h.1 h')

pub holds_map : (P P' : ℕ → Kind → ℕ → Type 0) → ((x : ℕ) (K : Kind) (i : ℕ) → P x K i → P' x K i) →
    (k : ℕ) (xs : List (Kind × ℕ)) → Holds P k xs → Holds P' k xs
holds_map P P' f k [] h = tt
holds_map P P' f k (x ∷ xs) h = (f k x.0 x.1 h.0, holds_map P P' f (k + 1) xs h.1)

pub holds_at : (P : ℕ → Kind → ℕ → Type 0) (k : ℕ) (xs : List (Kind × ℕ)) → Holds P k xs → (x : ℕ) (K : Kind) (i : ℕ) →
    IsIn (x, K, i) (numbered_from k xs) → P x K i
holds_at P k [] h x K i m = absurd m
holds_at P k (n ∷ xs) h x K i (inl e) = subst (λ (t : ℕ × Kind × ℕ). P t.0 t.1 t.2) (sym e) h.0
holds_at P k (n ∷ xs) h x K i (inr m) =
    let same : k + 1 ≡ suc k = omega arith in
    holds_at P (suc k) xs (subst (λ k. Holds P k xs) same h.1) x K i m

-- the wire of a key is no other's
later_none : (v : ℕ) (w : ℕ × Port) (wires : List (ℕ × Port)) → times v (w ∷ wires) ≤ 1 → nat_eq w.0 v ≡ true →
    wire_of v wires ≡ None
later_none v w wires h t =
    let g : times v (w ∷ wires) ≡ 1 + times v wires = rw t refl in none_there v wires (omega (arith, g, h))

later_few : (v : ℕ) (w : ℕ × Port) (wires : List (ℕ × Port)) → times v (w ∷ wires) ≤ 1 → times v wires ≤ 1
later_few v w wires h = omega arith

same_key : (v : ℕ) → nat_eq v v ≡ true
same_key v = eq-eqb v v refl

module _ (H : ℕ → Kind → ℕ → Type 0) (L : Port → Port → Type 0) where
  -- each fan is at the end of its wire
  fan_ends : (n f : ℕ) (wires more : List (ℕ × Port)) → ((v : ℕ) → times v more ≤ 1) →
      Holds H f (fans n f wires more).nodes → Links L (fans n f wires more).links →
      Holds (λ x K i. (v : ℕ) × (wire_of v (fans n f wires more).wires ≡ Some (slot_port x 0))) f (fans n f wires more).nodes
  fan_ends n f wires [] few a b = tt
  fan_ends n f wires (w ∷ more) few a b =
      let x = wire_of w.0 wires in
      let f' = f + length (fan_nodes n (wire_of w.0 wires)) in
      let rest = fans n f' (merged f (wire_of w.0 wires) w wires) more in
      let nodes = holds_append H f f' (fan_nodes n (wire_of w.0 wires)) rest.nodes refl a in
      let links = links_append L (fan_links f (wire_of w.0 wires) w.1) rest.links b in
      let fewer : (v : ℕ) → times v more ≤ 1 = λ v. later_few v w more (few v) in
      holds_join (λ x K i. (v : ℕ) × (wire_of v rest.wires ≡ Some (slot_port x 0))) f f' (fan_nodes n x) rest.nodes refl
      (own (wire_of w.0 wires) refl rest.wires (fans_merge H L w.0 n f' (merged f (wire_of w.0 wires) w wires) more (fewer w.0) nodes.1 links.1))
      (fan_ends n f' (merged f (wire_of w.0 wires) w wires) more fewer nodes.1 links.1)
    where
      own : (x : Option Port) → wire_of w.0 wires ≡ x → (ws : List (ℕ × Port)) →
          Merges H L n (wire_of w.0 (merged f x w wires)) (wire_of w.0 more) (wire_of w.0 ws) →
          Holds (λ x K i. (v : ℕ) × (wire_of v ws ≡ Some (slot_port x 0))) f (fan_nodes n x)
      own None e ws m = tt
      own (Some p) e ws m =
          let g : wire_of w.0 (reconnected w.0 (slot_port f 0) wires) ≡ Some (slot_port f 0) = rewired_here w.0 (slot_port f 0) p wires e in
          let none : wire_of w.0 more ≡ None = later_none w.0 w more (few w.0) (same_key w.0) in
          let m' : Merges H L n (Some (slot_port f 0)) None (wire_of w.0 ws) =
          subst (λ y. Merges H L n (Some (slot_port f 0)) y (wire_of w.0 ws)) none
          (subst (λ y. Merges H L n y (wire_of w.0 more) (wire_of w.0 ws)) g m) in
          ((w.0, m'), tt)

  -- each bracket is that of a wire of the argument
  bracket_ends : (n b : ℕ) (all wires : List (ℕ × Port)) → ((v : ℕ) → times v wires ≤ 1) →
      ((v : ℕ) (q : Port) → wire_of v wires ≡ Some q → wire_of v all ≡ Some q) → Links L (bracket_links b wires) →
      Holds (λ x K i. (v : ℕ) × (q : Port) × (wire_of v all ≡ Some q) × L (slot_port x 1) q) b (bracket_nodes n wires)
  bracket_ends n b all [] few f l = tt
  bracket_ends n b all (w ∷ wires) few f l = (
    (w.0, w.1, f w.0 w.1 (wire_here w.0 w wires (same_key w.0)), l.0),
    bracket_ends n (b + 1) all wires (λ v. later_few v w wires (few v)) (λ v q e. f v q (by_wire (wire_of v (w ∷ wires) ≡ Some q) v w
        (λ t. absurd (let none : ◌≡◌ {A = Option Port} None (Some q) = sym (later_none v w wires (few v) t) ∙ e in cc))
        (λ t. wire_later v w wires t ∙ e))) l.1,
  )

-- the wire of a key
key_wire : (d v : ℕ) → (y : Wire) × (key d y ≡ v) × IsInside d y
key_wire d v = elim (nat_lt v d) as (λ b. nat_lt v d ≡ b → (y : Wire) × (key d y ≡ v) × IsInside d y) [
  | true ↦ (λ t. (bound v, refl, grind (arith, nat_tests, t)))
  | false ↦ (λ t. (name (v - d), (let g : d ≤ v = grind (arith, nat_tests, t) in let h : d + (v - d) ≡ v = omega (arith, g) in h), tt))
] refl

-- the walk stands at the root of a part, or at the end of a wire
pub data From (N : NamedNet ℕ) (τ : Translation) (t : Tree) (d n k : ℕ) (F : Context → Context) (p : NamedPort ℕ)
    (x : Context) : Type 0 where
  stands : (e : Bool) (z : Spot) → Stand N τ z t e d n k F p x → From N τ t d n k F p x
  last : (y : Wire) (a : Level) (c : Context) (w : Port) → IsInside d y → wire_of (key d y) (subnet_of τ t d n k).wires ≡ Some w →
      p ≡ numbered_port w → x ≡ F (cons a c) → From N τ t d n k F p x

module _ (τ : Translation) {N : NamedNet ℕ} (net : IsNet N) where
  abbrev pub Begins : Tree → (d n k : ℕ) → ℕ → Kind → ℕ → Type 0
  Begins t d n k x K i = (F : Context → Context) → Before n F → (e : Context) →
      Within N (From N τ t d n k F) (room t) (nets.slot x 0) (F e)

  -- at the end of a wire with this key
  at_end : (t : Tree) (d n k v x : ℕ) → wire_of v (subnet_of τ t d n k).wires ≡ Some (slot_port x 0) →
      (F : Context → Context) (c : Context) → From N τ t d n k F (nets.slot x 0) (F c)
  at_end t d n k v x e F c =
      let y = key_wire d v in
      last y.0 (c 0) (tail c) (slot_port x 0) y.2
      (subst (λ v. wire_of v (subnet_of τ t d n k).wires ≡ Some (slot_port x 0)) (sym y.1) e) refl (ap F (sym (eta c)))

  at_last : (t : Tree) (d n k v x : ℕ) (K : Kind) (i : ℕ) → wire_of v (subnet_of τ t d n k).wires ≡ Some (slot_port x 0) →
      Begins t d n k x K i
  at_last t d n k v x K i e F b c = comes (at_end t d n k v x e F c)

  module _ (M : Tree) (d n k : ℕ) (i : is_below d (lam M) ≡ true) (h : Has (H N) (L N) k (subnet_of τ (lam M) d n k)) where
    A : HasLam (H N) (L N) n k (subnet_of τ M (d + 1) n (k + 1))
    A = has_lam (H N) (L N) n k (subnet_of τ M (d + 1) n (k + 1)) h

    abbrev E : ℕ
    E = k + 1 + length (subnet_of τ M (d + 1) n (k + 1)).nodes

    from_wire : (F : Context → Context) → Before n F → (y : Wire) (a : Level) (c : Context) (w : Port) → IsInside (d + 1) y →
        wire_of (key (d + 1) y) (subnet_of τ M (d + 1) n (k + 1)).wires ≡ Some w →
        Within N (From N τ (lam M) d n k F) 1 (numbered_port w) (F (cons a c))
    from_wire F b (bound zero) a c w inside e =
        let l : L N (slot_port k 2) w = subst (λ x. L N (slot_port k 2) (bound_port x E)) e A.var_link in
        goes_up net {m = 0} k kind.Lam tt n 1 F (cons a c) (back_link τ net (slot_port k 2) w l) b A.node (comes (stands false (at root (star a) c) (refl, refl)))
    from_wire F b (bound (suc y)) a c w inside e =
        comes (last (bound y) a c w (let g : y < d = omega (arith, inside) in g) (wire_under τ M (bound y) d n k ∙ e) refl refl)
    from_wire F b (name f) a c w inside e = comes (last (name f) a c w tt (wire_under τ M (name f) d n k ∙ e) refl refl)

    from_body : (F : Context → Context) → Before n F → (p : NamedPort ℕ) (x : Context) → From N τ M (d + 1) n (k + 1) F p x →
        Within N (From N τ (lam M) d n k F) 1 p x
    from_body F b p x (stands e z st) = comes (stands e (body z) st)
    from_body F b p x (last y a c w inside e ep ex) = moved ep ex (from_wire F b y a c w inside e)

    eraser_begins : (o : Option Port) → L N (slot_port k 2) (bound_port o E) → Holds (Begins (lam M) d n k) E (erasers o)
    eraser_begins None l = (
      λ F b e. sooner (omega arith) (goes_up net {m = 0} k kind.Lam tt n 1 F e (back_link τ net (slot_port k 2) (slot_port E 0) l) b A.node (comes (stands false (at root (star (e 0)) (tail e)) (refl, refl)))),
      tt,
    )
    eraser_begins (Some w) l = tt

    lam_begins : Holds (Begins M (d + 1) n (k + 1)) (k + 1) (subnet_of τ M (d + 1) n (k + 1)).nodes →
        Holds (Begins (lam M) d n k) k (subnet_of τ (lam M) d n k).nodes
    lam_begins ih =
        holds_join (Begins (lam M) d n k) k E ((kind.Lam, n) ∷ (subnet_of τ M (d + 1) n (k + 1)).nodes)
        (erasers (wire_of 0 (subnet_of τ M (d + 1) n (k + 1)).wires)) (omega arith) (
          λ F b e. comes (stands false (at root (e 0) (tail e)) (refl, ap F (sym (eta e)))),
          holds_map (Begins M (d + 1) n (k + 1)) (Begins (lam M) d n k)
              (λ x K i g F b e. sooner (omega arith) (and_then 1 (g F b e) (from_body F b)))
              (k + 1) (subnet_of τ M (d + 1) n (k + 1)).nodes ih,
        )
        (eraser_begins (wire_of 0 (subnet_of τ M (d + 1) n (k + 1)).wires) A.var_link)

  module _ (M Q : Tree) (d n k : ℕ) (i : is_below d (app M Q) ≡ true) (h : Has (H N) (L N) k (subnet_of τ (app M Q) d n k)) where
    abbrev P : Subnet
    P = subnet_of τ M d n (k + 1)

    abbrev R : Subnet
    R = argument τ M Q d n k

    abbrev U : ℕ
    U = k + 1 + length (subnet_of τ M d n (k + 1)).nodes

    B : HasHead (H N) (L N) n k (subnet_of τ M d n (k + 1))
    B = has_head (H N) (L N) n k (bare_variable τ d Q) (subnet_of τ M d n (k + 1)) (argument τ M Q d n k) h

    from_fun : (F : Context → Context) → Before n F → (p : NamedPort ℕ) (x : Context) → From N τ M d n (k + 1) F p x →
        Within N (From N τ (app M Q) d n k F) 1 p x
    from_fun F b p x (stands e z st) = comes (stands e (fun z) st)
    from_fun F b p x (last y a c w inside e ep ex) =
        moved ep ex (loosely (left_out τ net M Q d n k F b i h y inside w e a c (λ r er. last y (left Q y a) c r inside er refl refl)))

    from_arg : bare_variable τ d Q ≡ None → (F : Context → Context) → Before n F → (v : Level) (p : NamedPort ℕ) (x : Context) →
        From N τ Q d (n + 1) U (λ c. F (cons v c)) p x → Within N (From N τ (app M Q) d n k F) 2 p x
    from_arg none F b v p x (stands e z st) =
        comes (stands e (arg v z)
        (subst (λ o. if_bare o (Stand N τ z Q e d (n + 1) U (λ c. F (cons v c)) p x)
        (bare_stand N z e k (λ c. F (cons v c)) p x)) (sym none) st))
    from_arg none F b v p x (last y a c w inside e ep ex) =
        moved ep ex (loosely (right_out τ net M Q d n k F b i h y inside none w e a v c (λ r er u g. last y u c r inside er refl refl)))

    app_first : Begins (app M Q) d n k k kind.App n
    app_first F b e = comes (stands true (fun (at root (e 0) (tail e))) (B.link, ap F (sym (eta e))))

    of_fun : Holds (Begins M d n (k + 1)) (k + 1) (subnet_of τ M d n (k + 1)).nodes →
        Holds (Begins (app M Q) d n k) (k + 1) (subnet_of τ M d n (k + 1)).nodes
    of_fun ih = holds_map (Begins M d n (k + 1)) (Begins (app M Q) d n k)
        (λ x K j g F b e. sooner (omega arith) (and_then 1 (g F b e) (from_fun F b)))
        (k + 1) (subnet_of τ M d n (k + 1)).nodes ih

    of_arg : bare_variable τ d Q ≡ None → Holds (Begins Q d (n + 1) U) U (argument τ M Q d n k).nodes →
        Holds (Begins (app M Q) d n k) U (argument τ M Q d n k).nodes
    of_arg none ih = holds_map (Begins Q d (n + 1) U) (Begins (app M Q) d n k)
        (λ x K j g F b e. moved refl (ap F (sym (eta e))) (sooner (omega arith)
        (and_then 2 (g (λ c. F (cons (e 0) c)) (before_arg n F (e 0) b) (tail e)) (from_arg none F b (e 0)))))
        U (argument τ M Q d n k).nodes ih

    -- a bracket, by the wire that it has
    from_bracket : (x : ℕ) (q : Port) → L N (slot_port x 1) q → (p r : Option Port) → (v : ℕ) →
        wire_of v (subnet_of τ (app M Q) d n k).wires ≡ r → Wires (H N) (L N) n p (Some q) r → (K : Kind) (j : ℕ) →
        Begins (app M Q) d n k x K j
    from_bracket x q l None r v er (z, ez, hb, lb) K j F b e =
        let g : nets.slot z 1 ≡ nets.slot x 1 = net.one_link (numbered_port q) (nets.slot z 1) (nets.slot x 1)
        (back_link τ net (slot_port z 1) q lb) (back_link τ net (slot_port x 1) q l) in
        let same : z ≡ x = cc in
        at_last (app M Q) d n k v x K j (er ∙ ez ∙ ap (λ z. Some (slot_port z 0)) same) F b e
    from_bracket x q l (Some p) r v er (z, y, ey, hb, lb, hf, lf, lg) K j F b e =
        let g : nets.slot z 1 ≡ nets.slot x 1 = net.one_link (numbered_port q) (nets.slot z 1) (nets.slot x 1)
        (back_link τ net (slot_port z 1) q lb) (back_link τ net (slot_port x 1) q l) in
        let same : z ≡ x = cc in
        sooner (omega arith) (goes_up net {m = 0} y kind.Fan tt n 1 F e (subst (λ z. Linked N (nets.slot z 0) (nets.slot y 2)) same
        (back_link τ net (slot_port y 2) (slot_port z 0) lg)) b hf (comes (at_end (app M Q) d n k v y (er ∙ ey) F (cons (star (e 0)) (tail e)))))

    boxed_begins : bare_variable τ d Q ≡ None → Has (H N) (L N) k (application n k P R) →
        ((v : ℕ) → Wires (H N) (L N) n (wire_of v P.wires) (wire_of v R.wires) (wire_of v (subnet_of τ (app M Q) d n k).wires)) →
        (subnet_of τ (app M Q) d n k).wires ≡ (application n k P R).wires →
        Holds (Begins M d n (k + 1)) (k + 1) P.nodes → Holds (Begins Q d (n + 1) U) U R.nodes →
        Holds (Begins (app M Q) d n k) k (application n k P R).nodes
    boxed_begins none a ws ew ih ih' =
        let J : ℕ = k + 1 + length P.nodes + length R.nodes in
        let f : ℕ = k + 1 + length P.nodes + length R.nodes + length R.wires in
        let G = fans n f P.wires (past_brackets J R.wires) in
        let few : (v : ℕ) → times v R.wires ≤ 1 = λ v. few_wires τ v Q d (n + 1) (k + 1 + length P.nodes) in
        let few' : (v : ℕ) → times v (past_brackets J R.wires) ≤ 1 = λ v. rw (times-bracketed v J R.wires) (few v) in
        let nodes1 = holds_append (H N) k J (((kind.App, n) ∷ P.nodes) ++ R.nodes) (bracket_nodes n R.wires ++ G.nodes)
        (omega (arith, length-append P.nodes R.nodes)) a.nodes in
        let nodes3 = holds_append (H N) J f (bracket_nodes n R.wires) G.nodes
        (omega (arith, length-bracket_nodes n R.wires)) nodes1.1 in
        let links1 = links_append (L N) (P.links ++ R.links)
        (((slot_port k 0, P.root) ∷ (slot_port k 2, R.root) ∷ []) ++ (bracket_links J R.wires ++ G.links)) a.links in
        let links3 = links_append (L N) (bracket_links J R.wires) G.links links1.1.1.1 in
        holds_join (Begins (app M Q) d n k) k J (((kind.App, n) ∷ P.nodes) ++ R.nodes) (bracket_nodes n R.wires ++ G.nodes)
        (omega (arith, length-append P.nodes R.nodes))
        (holds_join (Begins (app M Q) d n k) k U ((kind.App, n) ∷ P.nodes) R.nodes (omega arith)
        (app_first, of_fun ih) (of_arg none ih'))
        (holds_join (Begins (app M Q) d n k) J f (bracket_nodes n R.wires) G.nodes
        (omega (arith, length-bracket_nodes n R.wires))
        (holds_map (λ x K i. (v : ℕ) × (q : Port) × (wire_of v R.wires ≡ Some q) × L N (slot_port x 1) q) (Begins (app M Q) d n k)
        (λ x K j t. from_bracket x t.1 t.3 (wire_of t.0 P.wires) (wire_of t.0 (subnet_of τ (app M Q) d n k).wires) t.0 refl
        (subst (λ q. Wires (H N) (L N) n (wire_of t.0 P.wires) q (wire_of t.0 (subnet_of τ (app M Q) d n k).wires)) t.2 (ws t.0)) K j)
        J (bracket_nodes n R.wires)
        (bracket_ends (H N) (L N) n J R.wires R.wires few (λ v q e. e) links3.0))
        (holds_map (λ x K i. (v : ℕ) × (wire_of v G.wires ≡ Some (slot_port x 0))) (Begins (app M Q) d n k)
        (λ x K j t. at_last (app M Q) d n k t.0 x K j (ap (λ ws. wire_of t.0 ws) ew ∙ t.1))
        f G.nodes
        (fan_ends (H N) (L N) n f P.wires (past_brackets J R.wires) few' nodes3.1 links3.1)))

    bare_begins : (x : ℕ) → Has (H N) (L N) k (application_to n k x P) →
        (subnet_of τ (app M Q) d n k).wires ≡ (application_to n k x P).wires →
        Holds (Begins M d n (k + 1)) (k + 1) P.nodes →
        Holds (Begins (app M Q) d n k) k (application_to n k x P).nodes
    bare_begins x a ew ih =
        let G = fans n U P.wires ((x, slot_port k 2) ∷ []) in
        let few : (v : ℕ) → times v ((x, slot_port k 2) ∷ []) ≤ 1 =
        λ v. elim (nat_eq x v) as (λ b. (if b then 1 else 0) + 0 ≤ 1) [ true ↦ omega arith | false ↦ omega arith ] in
        let nodes = holds_append (H N) k U ((kind.App, n) ∷ P.nodes) G.nodes (omega arith) a.nodes in
        let links = links_append (L N) P.links ((slot_port k 0, P.root) ∷ G.links) a.links in
        holds_join (Begins (app M Q) d n k) k U ((kind.App, n) ∷ P.nodes) G.nodes (omega arith)
        (app_first, of_fun ih)
        (holds_map (λ x K i. (v : ℕ) × (wire_of v G.wires ≡ Some (slot_port x 0))) (Begins (app M Q) d n k)
        (λ x K j t. at_last (app M Q) d n k t.0 x K j (ap (λ ws. wire_of t.0 ws) ew ∙ t.1))
        U G.nodes (fan_ends (H N) (L N) n U P.wires ((x, slot_port k 2) ∷ []) few nodes.1 links.1.1))

    app_begins : (o : Option ℕ) → bare_variable τ d Q ≡ o →
        Holds (Begins M d n (k + 1)) (k + 1) P.nodes →
        (bare_variable τ d Q ≡ None → Holds (Begins Q d (n + 1) U) U R.nodes) →
        Holds (Begins (app M Q) d n k) k (subnet_of τ (app M Q) d n k).nodes
    app_begins None none ih ih' =
        let a : Has (H N) (L N) k (application n k P R) = subst (λ o. Has (H N) (L N) k (applied n k o P R)) none h in
        let A' = has_app (H N) (L N) n k P R a in
        let ew : (subnet_of τ (app M Q) d n k).wires ≡ (application n k P R).wires = ap (λ o. (applied n k o P R).wires) none in
        subst (λ o. Holds (Begins (app M Q) d n k) k (applied n k o P R).nodes) (sym none)
        (boxed_begins none a
        (λ v. subst (λ ws. Wires (H N) (L N) n (wire_of v P.wires) (wire_of v R.wires) (wire_of v ws)) (sym ew)
        (A'.wires v (few_wires τ v Q d (n + 1) (k + 1 + length P.nodes)))) ew ih (ih' none))
    app_begins (Some x) bare ih ih' =
        let a : Has (H N) (L N) k (application_to n k x P) = subst (λ o. Has (H N) (L N) k (applied n k o P R)) bare h in
        subst (λ o. Holds (Begins (app M Q) d n k) k (applied n k o P R).nodes) (sym bare)
        (bare_begins x a (ap (λ o. (applied n k o P R).wires) bare) ih)

  pub begins : (t : Tree) (d n k : ℕ) → is_below d t ≡ true → Has (H N) (L N) k (subnet_of τ t d n k) →
      Holds (Begins t d n k) k (subnet_of τ t d n k).nodes
  begins (var y) d n k i h =
      let own : wire_of y ((y, slot_port k 0) ∷ []) ≡ Some (slot_port k 0) = rw (eq-eqb y y refl) refl in
      (at_last (var y) d n k y k kind.Croissant n own, tt)
  begins (free f) d n k i h =
      let own : wire_of (d + f) ((d + f, slot_port k 0) ∷ []) ≡ Some (slot_port k 0) = rw (eq-eqb (d + f) (d + f) refl) refl in
      (at_last (free f) d n k (d + f) k kind.Croissant n own, tt)
  begins (lam M) d n k i h =
      lam_begins M d n k i h (begins M (d + 1) n (k + 1) i (has_lam (H N) (L N) n k (subnet_of τ M (d + 1) n (k + 1)) h).part)
  begins (app M Q) d n k i h =
      let I = and_parts (is_below d M) (is_below d Q) i in
      app_begins M Q d n k i h (bare_variable τ d Q) refl
      (begins M d n (k + 1) I.0 (has_head (H N) (L N) n k (bare_variable τ d Q) (subnet_of τ M d n (k + 1)) (argument τ M Q d n k) h).function)
      (λ none. begins Q d (n + 1) (k + 1 + length (subnet_of τ M d n (k + 1)).nodes) I.1
      (has_app (H N) (L N) n k (subnet_of τ M d n (k + 1)) (argument τ M Q d n k)
      (subst (λ o. Has (H N) (L N) k (applied n k o (subnet_of τ M d n (k + 1)) (argument τ M Q d n k))) none h)).argument)
