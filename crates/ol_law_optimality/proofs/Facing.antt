-- Each link of a term's net joins a port at which a term is asked for to one at which it is given.
use Rattle.std.proofs.Common.{◌≡◌, ℕ, zero, suc, ◌+◌, Bool, true, false, not, List, [], ◌∷◌, ◌++◌, length}
use Rattle.std.proofs.Common.{length-append, map, nat_eq, nat_lt, Option, None, Some, inl, inr, refl, sym, ap}
use Rattle.std.proofs.Common.{◌∙◌, subst, arith}
use Rattle.std.proofs.Math.Bool.{not-not}
use Rattle.ol_net.specs.Nets.{NamedPort, free, slot, NamedNet, HasNode, Linked, IsNet}
use Rattle.ol_net.specs.Numbered.{numbered_port}
use Rattle.ol_net.specs.declared.parts.Kind.{Kind}
use Rattle.ol_net.specs.declared.parts.Kind.TheVariants as kind
use Rattle.ol_net.specs.declared.parts.Port.{Port}
use Rattle.ol_law_edges.specs.Edges.{IsIn}
use Rattle.ol_law_meaning.proofs.Fans.{Holds, Links, holds_append, by_wire, wire_here, wire_later}
use Rattle.ol_law_meaning.proofs.Whole.{nodes_there}
use Rattle.ol_term.specs.Trees.{Tree, var, free as free_name, lam, app}
use Rattle.ol_term.specs.declared.translations.Translation.{Translation}
use Rattle.ol_translate.proofs.Walks.{length-bracket_nodes}
use Rattle.ol_translate.specs.Names.{HasNames}
use Rattle.ol_translate.specs.Translation.{Subnet, subnet_of, slot_port, wire_of, outside, bound_port, bracket_nodes}
use Rattle.ol_translate.specs.Translation.{bracket_links, past_brackets, fans, fan_nodes, fan_links, merged}
use Rattle.ol_translate.specs.Translation.{reconnected, abstraction, application, application_to, applied}
use Rattle.ol_translate.specs.Translation.{bare_variable, name_links, erasers, translation_of, links_of}

-- a term, or a variable's value, is given at the slot; or it is asked for
abbrev pub gives : Kind → ℕ → Bool
gives kind.App zero = false
gives kind.App (suc zero) = true
gives kind.App (suc (suc s)) = false
gives kind.Lam zero = true
gives kind.Lam (suc zero) = false
gives kind.Lam (suc (suc s)) = true
gives kind.Fan zero = false
gives kind.Fan (suc s) = true
gives kind.Croissant zero = false
gives kind.Croissant (suc s) = true
gives kind.Bracket zero = false
gives kind.Bracket (suc s) = true
gives kind.Eraser zero = false
gives kind.Eraser (suc s) = true

abbrev pub IsSide : {A : Type 0} → NamedNet A → NamedPort A → Bool → Type 0
IsSide N (free zero) b = false ≡ b
IsSide N (free (suc f)) b = true ≡ b
IsSide N (slot x s) b = (k : Kind) × (i : ℕ) × HasNode N x k i × (gives k s ≡ b)

abbrev pub Opposite : {A : Type 0} → NamedNet A → NamedPort A → NamedPort A → Type 0
Opposite N p q = (b : Bool) × IsSide N p b × IsSide N q (not b)

abbrev pub IsFacing : {A : Type 0} → NamedNet A → Type 0
IsFacing {A} N = (p q : NamedPort A) → Linked N p q → Opposite N p q

pub one_side : {A : Type 0} (N : NamedNet A) → IsNet N → (p : NamedPort A) (b c : Bool) → IsSide N p b →
    IsSide N p c → b ≡ c
one_side N n (free zero) b c h k = sym h ∙ k
one_side N n (free (suc f)) b c h k = sym h ∙ k
one_side N n (slot x s) b c h k =
    let e = (n.one_node x h.0 k.0 h.1 k.1 h.2 k.2).0 in
    sym h.3 ∙ ap (λ k. gives k s) e ∙ k.3

module _ (N : NamedNet ℕ) where
  abbrev H : ℕ → Kind → ℕ → Type 0
  H x K i = HasNode N x K i

  abbrev At : Port → Bool → Type 0
  At p b = IsSide N (numbered_port p) b

  abbrev Opp : Port → Port → Type 0
  Opp p q = Opposite N (numbered_port p) (numbered_port q)

  -- at each wire its variable is asked for
  abbrev Asking : List (ℕ × Port) → Type 0
  Asking [] = Unit {0}
  Asking (w ∷ wires) = At w.1 false × Asking wires

  record Sound (P : Subnet) : Type 0 where
    links : Links Opp P.links
    root : At P.root true
    wires : Asking P.wires

  links_both : (xs ys : List (Port × Port)) → Links Opp xs → Links Opp ys → Links Opp (xs ++ ys)
  links_both [] ys a b = b
  links_both (x ∷ xs) ys a b = (a.0, links_both xs ys a.1 b)

  asking_last : (ws : List (ℕ × Port)) (w : ℕ × Port) → Asking ws → At w.1 false → Asking (ws ++ w ∷ [])
  asking_last [] w a b = (b, tt)
  asking_last (u ∷ ws) w a b = (a.0, asking_last ws w a.1 b)

  wire_asks : (v : ℕ) (ws : List (ℕ × Port)) (p : Port) → wire_of v ws ≡ Some p → Asking ws → At p false
  wire_asks v [] p e a = absurd (cc)
  wire_asks v (w ∷ ws) p e a = by_wire (At p false) v w
      (λ t. let same : ◌≡◌ {A = Option Port} (Some w.1) (Some p) = sym (wire_here v w ws t) ∙ e in
      let port : w.1 ≡ p = cc in subst (λ p. At p false) port a.0)
      (λ t. wire_asks v ws p (sym (wire_later v w ws t) ∙ e) a.1)

  asking_outside : (ws : List (ℕ × Port)) → Asking ws → Asking (outside ws)
  asking_outside [] a = tt
  asking_outside (w ∷ ws) a = elim (nat_lt 0 w.0) as (λ b. nat_lt 0 w.0 ≡ b → Asking (outside (w ∷ ws))) [
    | true ↦ λ e. rw e (a.0, asking_outside ws a.1)
    | false ↦ λ e. rw e (asking_outside ws a.1)
  ] refl

  asking_rewired : (v : ℕ) (r : Port) (ws : List (ℕ × Port)) → At r false → Asking ws → Asking (reconnected v r ws)
  asking_rewired v r [] h a = tt
  asking_rewired v r (w ∷ ws) h a = elim (nat_eq w.0 v) as (λ b. nat_eq w.0 v ≡ b → Asking (reconnected v r (w ∷ ws))) [
    | true ↦ λ e. rw e (h, a.1)
    | false ↦ λ e. rw e (a.0, asking_rewired v r ws h a.1)
  ] refl

  asking_past : (n b : ℕ) (ws : List (ℕ × Port)) → Holds H b (bracket_nodes n ws) → Asking ws →
      Asking (past_brackets b ws) × Links Opp (bracket_links b ws)
  asking_past n b [] h a = (tt, tt)
  asking_past n b (w ∷ ws) h a =
      let r = asking_past n (b + 1) ws h.1 a.1 in (
        ((kind.Bracket, n, h.0, refl), r.0),
        ((true, (kind.Bracket, n, h.0, refl), a.0), r.1),
      )

  asking_fans : (n f : ℕ) (ws more : List (ℕ × Port)) → Holds H f (fans n f ws more).nodes → Asking ws →
      Asking more → Asking (fans n f ws more).wires × Links Opp (fans n f ws more).links
  asking_fans n f ws [] h a b = (a, tt)
  asking_fans n f ws (w ∷ more) h a b = by (λ f ws h a. asking_fans n f ws more h a b.1) (wire_of w.0 ws) refl h
    where
      by : ((f : ℕ) (ws : List (ℕ × Port)) → Holds H f (fans n f ws more).nodes → Asking ws →
          Asking (fans n f ws more).wires × Links Opp (fans n f ws more).links) →
          (x : Option Port) → wire_of w.0 ws ≡ x →
          Holds H f (fan_nodes n x ++ (fans n (f + length (fan_nodes n x)) (merged f x w ws) more).nodes) →
          Asking (fans n (f + length (fan_nodes n x)) (merged f x w ws) more).wires
          × Links Opp (fan_links f x w.1 ++ (fans n (f + length (fan_nodes n x)) (merged f x w ws) more).links)
      by next None e h =
          next (f + 0) (ws ++ w ∷ [])
          (subst (λ j. Holds H j (fans n (f + 0) (ws ++ w ∷ []) more).nodes) (let q : f ≡ f + 0 = omega arith in q) h)
          (asking_last ws w a b.0)
      by next (Some p) e h =
          let r = next (f + 1) (reconnected w.0 (slot_port f 0) ws) h.1
          (asking_rewired w.0 (slot_port f 0) ws (kind.Fan, n, h.0, refl) a) in (
            r.0,
            (
              (true, (kind.Fan, n, h.0, refl), wire_asks w.0 ws p e a),
              ((true, (kind.Fan, n, h.0, refl), b.0), r.1),
            ),
          )

  sound_lam : (n k : ℕ) (M : Subnet) → Holds H k (abstraction n k M).nodes → Sound M → Sound (abstraction n k M)
  sound_lam n k M h s =
      let nodes = holds_append H k (k + 1 + length M.nodes) ((kind.Lam, n) ∷ M.nodes) _ (omega arith) h in
      record {
        links = links_both M.links _ s.links (
          (false, (kind.Lam, n, nodes.0.0, refl), s.root),
          ((true, (kind.Lam, n, nodes.0.0, refl), bound (wire_of 0 M.wires) refl nodes.1), tt),
        );
        root = (kind.Lam, n, nodes.0.0, refl);
        wires = asking_outside M.wires s.wires;
      }
    where
      bound : (x : Option Port) → wire_of 0 M.wires ≡ x →
          Holds H (k + 1 + length M.nodes) (erasers x) →
          At (bound_port x (k + 1 + length M.nodes)) false
      bound None e h = (kind.Eraser, 0, h.0, refl)
      bound (Some p) e h = wire_asks 0 M.wires p e s.wires

  sound_app : (n k : ℕ) (M Q : Subnet) → Holds H k (application n k M Q).nodes → Sound M → Sound Q →
      Sound (application n k M Q)
  sound_app n k M Q h s u =
      let b : ℕ = k + 1 + length M.nodes + length Q.nodes in
      let F = fans n (k + 1 + length M.nodes + length Q.nodes + length Q.wires) M.wires
      (past_brackets (k + 1 + length M.nodes + length Q.nodes) Q.wires) in
      let nodes1 = holds_append H k (k + 1 + length M.nodes + length Q.nodes)
      (((kind.App, n) ∷ M.nodes) ++ Q.nodes) (bracket_nodes n Q.wires ++ F.nodes)
      (omega (arith, length-append M.nodes Q.nodes)) h in
      let nodes2 = holds_append H k (k + 1 + length M.nodes) ((kind.App, n) ∷ M.nodes) Q.nodes (omega arith) nodes1.0 in
      let nodes3 = holds_append H (k + 1 + length M.nodes + length Q.nodes)
      (k + 1 + length M.nodes + length Q.nodes + length Q.wires)
      (bracket_nodes n Q.wires) F.nodes (omega (arith, length-bracket_nodes n Q.wires)) nodes1.1 in
      let past = asking_past n (k + 1 + length M.nodes + length Q.nodes) Q.wires nodes3.0 u.wires in
      let fan = asking_fans n (k + 1 + length M.nodes + length Q.nodes + length Q.wires) M.wires
      (past_brackets (k + 1 + length M.nodes + length Q.nodes) Q.wires) nodes3.1 s.wires past.0 in
      record {
        links = links_both (M.links ++ Q.links) _ (links_both M.links Q.links s.links u.links) (
          (false, (kind.App, n, nodes2.0.0, refl), s.root),
          (
            (false, (kind.App, n, nodes2.0.0, refl), u.root),
            links_both (bracket_links (k + 1 + length M.nodes + length Q.nodes) Q.wires) F.links past.1 fan.1,
          ),
        );
        root = (kind.App, n, nodes2.0.0, refl);
        wires = fan.0;
      }

  sound_app_to : (n k y : ℕ) (M : Subnet) → Holds H k (application_to n k y M).nodes → Sound M →
      Sound (application_to n k y M)
  sound_app_to n k y M h s =
      let F = fans n (k + 1 + length M.nodes) M.wires ((y, slot_port k 2) ∷ []) in
      let nodes = holds_append H k (k + 1 + length M.nodes) ((kind.App, n) ∷ M.nodes) F.nodes (omega arith) h in
      let fan = asking_fans n (k + 1 + length M.nodes) M.wires ((y, slot_port k 2) ∷ []) nodes.1 s.wires
      ((kind.App, n, nodes.0.0, refl), tt) in
      record {
        links = links_both M.links _ s.links ((false, (kind.App, n, nodes.0.0, refl), s.root), fan.1);
        root = (kind.App, n, nodes.0.0, refl);
        wires = fan.0;
      }

module _ (τ : Translation) (N : NamedNet ℕ) where
  applied_sound : (x : Option ℕ) (n k : ℕ) (M Q : Subnet) → Holds (H N) k (applied n k x M Q).nodes → Sound N M →
      (Holds (H N) (k + 1 + length M.nodes) Q.nodes → Sound N Q) → Sound N (applied n k x M Q)
  applied_sound None n k M Q h s u =
      let nodes1 = holds_append (H N) k (k + 1 + length M.nodes + length Q.nodes)
      (((kind.App, n) ∷ M.nodes) ++ Q.nodes) _ (omega (arith, length-append M.nodes Q.nodes)) h in
      let nodes2 = holds_append (H N) k (k + 1 + length M.nodes) ((
        kind.App,
        n,
      ) ∷ M.nodes) Q.nodes (omega arith) nodes1.0 in
      sound_app N n k M Q h s (u nodes2.1)
  applied_sound (Some y) n k M Q h s u = sound_app_to N n k y M h s

  first_nodes : (x : Option ℕ) (n k : ℕ) (M Q : Subnet) → Holds (H N) k (applied n k x M Q).nodes →
      Holds (H N) (k + 1) M.nodes
  first_nodes None n k M Q h =
      let nodes1 = holds_append (H N) k (k + 1 + length M.nodes + length Q.nodes)
      (((kind.App, n) ∷ M.nodes) ++ Q.nodes) _ (omega (arith, length-append M.nodes Q.nodes)) h in
      (holds_append (H N) k (k + 1 + length M.nodes) ((kind.App, n) ∷ M.nodes) Q.nodes (omega arith) nodes1.0).0.1
  first_nodes (Some y) n k M Q h =
      (holds_append (H N) k (k + 1 + length M.nodes) ((kind.App, n) ∷ M.nodes) _ (omega arith) h).0.1

  sound : (t : Tree) (d n k : ℕ) → Holds (H N) k (subnet_of τ t d n k).nodes → Sound N (subnet_of τ t d n k)
  sound (var v) d n k h =
      record { links = tt; root = (kind.Croissant, n, h.0, refl); wires = ((kind.Croissant, n, h.0, refl), tt) }
  sound (free_name f) d n k h =
      record { links = tt; root = (kind.Croissant, n, h.0, refl); wires = ((kind.Croissant, n, h.0, refl), tt) }
  sound (lam M) d n k h =
      let P = subnet_of τ M (d + 1) n (k + 1) in
      sound_lam N n k (subnet_of τ M (d + 1) n (k + 1)) h (sound M (d + 1) n (k + 1)
      (holds_append (H N) k (k + 1 + length P.nodes) ((kind.Lam, n) ∷ P.nodes) _ (omega arith) h).0.1)
  sound (app M Q) d n k h =
      let P = subnet_of τ M d n (k + 1) in
      applied_sound (bare_variable τ d Q) n k P (subnet_of τ Q d (n + 1) (k + 1 + length P.nodes)) h
      (sound M d n (k + 1) (first_nodes (bare_variable τ d Q) n k P _ h))
      (sound Q d (n + 1) (k + 1 + length P.nodes))

  name_sides : (ws : List (ℕ × Port)) → Asking N ws → Links (Opp N) (name_links ws)
  name_sides [] a = tt
  name_sides (w ∷ ws) a = (
    (
      true,
      subst (λ f. IsSide N (free f) true)
          (let e : suc w.0 ≡ w.0 + 1 = omega arith in e) refl,
      a.0,
    ),
    name_sides ws a.1,
  )

  in_links : (ls : List (Port × Port)) → Links (Opp N) ls → (p q : NamedPort ℕ) →
      IsIn {X = NamedPort ℕ × NamedPort ℕ} (p, q) (map (λ (l : Port × Port). (
        numbered_port l.0,
        numbered_port l.1,
      )) ls) → Opposite N p q
  in_links [] h p q i = absurd i
  in_links (l ∷ ls) h p q (inl e) =
      let a = ap (λ (x : NamedPort ℕ × NamedPort ℕ). x.0) e in
      let b = ap (λ (x : NamedPort ℕ × NamedPort ℕ). x.1) e in
      subst (λ p. Opposite N p q) (sym a) (subst (λ q. Opposite N (numbered_port l.0) q) (sym b) h.0)
  in_links (l ∷ ls) h p q (inr i) = in_links ls h.1 p q i

pub opposite_sym : {A : Type 0} (N : NamedNet A) (p q : NamedPort A) → Opposite N p q → Opposite N q p
opposite_sym N p q (b, h, k) = (not b, k, subst (IsSide N p) (sym (not-not b)) h)

pub term_faces : (τ : Translation) (t : Tree) (names : ℕ) → HasNames t names → IsFacing (translation_of τ t names)
term_faces τ t names h p q l = by l
  where
    N : NamedNet ℕ
    N = translation_of τ t names

    all : Links (Opp (translation_of τ t names)) (links_of τ t)
    all =
        let s = sound τ (translation_of τ t names) t 0 0 0 (nodes_there τ t names h) in
        links_both (translation_of τ t names) (subnet_of τ t 0 0 0).links _ s.links
        ((false, refl, s.root), name_sides τ (translation_of τ t names) (subnet_of τ t 0 0 0).wires s.wires)

    by : Linked (translation_of τ t names) p q → Opposite (translation_of τ t names) p q
    by (inl i) = in_links τ (translation_of τ t names) (links_of τ t) all p q i
    by (inr i) = opposite_sym (translation_of τ t names) q p (in_links τ (translation_of τ t names)
        (links_of τ t) all q p i)
