-- The net of a term is levelled.
-- Used in Sources and WrongTables, for `term_is_levelled`, and in crates above.
use Rattle.std.proofs.Common.{◌≡◌, ℕ, zero, suc, ◌+◌, ◌<◌, List, [], ◌∷◌, Bool, true, false, not, if◌then◌else◌, Option}
use Rattle.std.proofs.Common.{None, Some, ◌⊎◌, inl, inr, refl, sym, ap, ◌∙◌, arith, subst}
use Rattle.std.specs.Prelude.{slice_get}
use Rattle.ol_law_edges.specs.Edges.{IsIn}
use Rattle.ol_law_edges.proofs.Lists.{in_map_of}
use Rattle.ol_term.specs.declared.translations.Translation.{Translation}
use Rattle.ol_term.specs.Trees.{Tree}
use Rattle.ol_net.specs.Nets.{NamedPort, free, slot, NamedNet, HasNode, Linked, IsNet}
use Rattle.ol_net.specs.Numbered.{numbered_port, numbered_from}
use Rattle.ol_net.specs.Parts.{arity, is_eraser}
use Rattle.ol_net.specs.declared.parts.Kind.{Kind}
use Rattle.ol_net.specs.declared.parts.Kind.TheVariants as kind
use Rattle.ol_net.specs.declared.parts.Port.{Port}
use Rattle.ol_net.specs.declared.parts.Port.TheVariants.{Free}
use Rattle.ol_translate.specs.Names.{HasNames}
use Rattle.ol_translate.specs.Translation.{subnet_of, name_links, nodes_of, links_of, translation_of, slot_port}
use Rattle.ol_translate.proofs.Whole.{translation_net, port_of, port_back, port_there}
use Rattle.ol_law_meaning.proofs.Fans.{Holds, Links}
use Rattle.ol_law_levels.specs.Levels.{CanStand, depth_beside, out_beside, IsLevelled}
use Rattle.ol_law_levels.specs.Laws.{TermIsLevelled}
use Rattle.ol_law_levels.proofs.Parts.{depth_first, out_first, depth_slot, out_slot, erased, links_join, depth_at}
use Rattle.ol_law_levels.proofs.Parts.{out_at, erased_at, At, Fits, H, Wired, FitsPart, fits_term, meets}

-- ---- the nodes of a list and their numbers

holds_of : (A : ℕ → Kind → ℕ → Type 0) (k : ℕ) (nodes : List (Kind × ℕ)) →
    ((y : ℕ) (K : Kind) (i : ℕ) → slice_get nodes y ≡ Some (K, i) → A (k + y) K i) → Holds A k nodes
holds_of A k [] h = tt
holds_of A k (x ∷ nodes) h =
    let e : k + 0 ≡ k = omega arith in (
      subst (λ k. A k x.0 x.1) e (h 0 x.0 x.1 refl),
      holds_of A (k + 1) nodes (λ y K i q. let e : k + suc y ≡ k + 1 + y = omega arith in
          subst (λ n. A n K i) e (h (suc y) K i q)),
    )

pub number_in : (n : ℕ) (nodes : List (Kind × ℕ)) (x : ℕ) (K : Kind) (i : ℕ) →
    IsIn (x, K, i) (numbered_from n nodes) → (y : ℕ) × (x ≡ n + y)
    × (slice_get nodes y ≡ Some (K, i))
number_in n [] x K i h = absurd h
number_in n (f ∷ nodes) x K i (inl e) = (
  0,
  omega (arith, ap (λ (t : ℕ × Kind × ℕ). t.0) e),
  ap (λ (t : ℕ × Kind × ℕ). Some (t.1, t.2)) (sym e),
)
number_in n (f ∷ nodes) x K i (inr h) = let r = number_in (suc n) nodes x K i h in
    (suc r.0, omega arith, r.2)

pub in_number : (n : ℕ) (nodes : List (Kind × ℕ)) (x y : ℕ) (K : Kind) (i : ℕ) → x ≡ n + y →
    slice_get nodes y ≡ Some (K, i) → IsIn (x, K, i) (numbered_from n nodes)
in_number n [] x y K i e h = absurd (let bad : None ≡ Some (K, i) = h in cc)
in_number n (f ∷ nodes) x zero K i e h =
    let s : ◌≡◌ {A = Option (Kind × ℕ)} (Some f) (Some (K, i)) = h in
    let same : f ≡ (K, i) = cc in
    let number : x ≡ n = omega arith in
    inl (rw (number, same) refl)
in_number n (f ∷ nodes) x (suc y) K i e h = inr (in_number (suc n) nodes x y K i (omega arith) h)

pub link_in : (L : Port → Port → Type 0) (links : List (Port × Port)) → Links L links →
    (l : Port × Port) → IsIn l links → L l.0 l.1
link_in L [] h l i = absurd i
link_in L (x ∷ links) h l (inl e) = subst (λ (l : Port × Port). L l.0 l.1) (sym e) h.0
link_in L (x ∷ links) h l (inr i) = link_in L links h.1 l i

first_stands : (K : Kind) (i : ℕ) → CanStand K i (depth_first (K, i)) (out_first K)
first_stands kind.Lam i = (refl, refl)
first_stands kind.App i = (refl, refl)
first_stands kind.Fan i = omega arith
first_stands kind.Croissant i = omega arith
first_stands kind.Bracket i = omega arith
first_stands kind.Eraser i = tt

module _ (w : Translation) (t : Tree) (names : ℕ) (has_names : HasNames t names) where
  abbrev N : NamedNet ℕ
  N = translation_of w t names

  is_net : IsNet N
  is_net = translation_net w t names has_names

  abbrev node : ℕ → Option (Kind × ℕ)
  node x = slice_get (nodes_of w t) x

  has_node : (x : ℕ) (K : Kind) (i : ℕ) → HasNode N x K i → node x ≡ Some (K, i)
  has_node x K i h = let r = number_in 0 (nodes_of w t) x K i h in let e : r.0 ≡ x = omega arith in
      subst (λ x. node x ≡ Some (K, i)) e r.2

  node_has : (x : ℕ) (K : Kind) (i : ℕ) → node x ≡ Some (K, i) → HasNode N x K i
  node_has x K i h = in_number 0 (nodes_of w t) x x K i (omega arith) h

  part : FitsPart node 0 (subnet_of w t 0 0 0)
  part = fits_term node w t 0 0 0
      (holds_of (H node) 0 (nodes_of w t) (λ y K i e. let z : 0 + y ≡ y = omega arith in
      subst (λ x. H node x K i) (sym z) e))

  name_fits : (wires : List (ℕ × Port)) → Wired node 1 wires → Links (Fits node) (name_links wires)
  name_fits [] h = tt
  name_fits (u ∷ wires) h = (meets node at_name h.0, name_fits wires h.1)
    where
      at_name : At node (Free (u.0 + 1)) 1 true
      at_name = let e : suc u.0 ≡ u.0 + 1 = omega arith in
          subst (λ n. At node (Free n) 1 true) e (record {
            depth = refl;
            is_out = refl;
            plain =
                refl;
          })

  all_fit : Links (Fits node) (links_of w t)
  all_fit = links_join (Fits node) (subnet_of w t 0 0 0).links ((
    Free 0,
    (subnet_of w t 0 0 0).root,
  ) ∷ name_links (subnet_of w t 0 0 0).wires) part.links (
    meets node (record { depth = refl; is_out = refl; plain = refl }) part.root,
    name_fits (subnet_of w t 0 0 0).wires part.wires,
  )

  -- a link's ports fit, the one way round or the other
  FitsOne : NamedPort ℕ → NamedPort ℕ → Type 0
  FitsOne p q = Fits node (port_of p) (port_of q)

  in_links : (p q : NamedPort ℕ) → IsIn (p, q) N.links → FitsOne p q
  unfolding FitsOne
  in_links p q h =
      let r = in_map_of (λ (l : Port × Port). (numbered_port l.0, numbered_port l.1)) (
        p,
        q,
      ) (links_of w t) h in
      let e : port_of p ≡ r.0.0 = ap port_of (ap (λ (l : NamedPort ℕ × NamedPort ℕ). l.0) r.2)
      ∙ port_back r.0.0 in
      let e' : port_of q ≡ r.0.1 = ap port_of (ap (λ (l : NamedPort ℕ × NamedPort ℕ). l.1) r.2)
      ∙ port_back r.0.1 in
      subst (λ p. Fits node p (port_of q)) (sym e)
      (subst (λ q. Fits node r.0.0 q) (sym e')
      (link_in (Fits node) (links_of w t) all_fit r.0 r.1))

  -- ---- an eraser is as the port that it is linked to

  mate_at : (x : ℕ) (o : Option (Kind × ℕ)) → node x ≡ o → NamedPort ℕ
  mate_at x (Some (kind.Eraser, i)) e =
      (is_net.some_link (slot x 0) (kind.Eraser, i, node_has x kind.Eraser i e, omega arith)).0
  mate_at x o e = slot x 0

  mate : NamedPort ℕ → NamedPort ℕ
  mate (slot x zero) = mate_at x (node x) refl
  mate p = p

  turned_if : Bool → Bool → Bool
  turned_if erased out = if erased then not out else out

  depth : NamedPort ℕ → ℕ
  depth p = depth_at node (port_of (mate p))

  is_out : NamedPort ℕ → Bool
  is_out p = turned_if (erased_at node (port_of p)) (out_at node (port_of (mate p)))

  mate_plain : (x : ℕ) (o : Option (Kind × ℕ)) (e : node x ≡ o) → erased o ≡ false →
      mate_at x o e ≡ slot x 0
  unfolding mate_at
  mate_plain x None e h = refl
  mate_plain x (Some (kind.Lam, i)) e h = refl
  mate_plain x (Some (kind.App, i)) e h = refl
  mate_plain x (Some (kind.Fan, i)) e h = refl
  mate_plain x (Some (kind.Croissant, i)) e h = refl
  mate_plain x (Some (kind.Bracket, i)) e h = refl
  mate_plain x (Some (kind.Eraser, i)) e h = absurd (cc)

  mate_itself : (p : NamedPort ℕ) → erased_at node (port_of p) ≡ false → mate p ≡ p
  unfolding mate
  mate_itself (free f) h = refl
  mate_itself (slot x zero) h = mate_plain x (node x) refl h
  mate_itself (slot x (suc s)) h = refl

  mate_linked : (x : ℕ) (o : Option (Kind × ℕ)) (e : node x ≡ o) (i : ℕ) →
      o ≡ Some (kind.Eraser, i) → (p : NamedPort ℕ) → Linked N (slot x 0) p → mate_at x o e ≡ p
  unfolding mate_at
  mate_linked x (Some (kind.Eraser, n)) e i q p l =
      is_net.one_link (slot x 0) _ p (is_net.some_link (slot x 0) (
        kind.Eraser,
        n,
        node_has x kind.Eraser n e,
        omega arith,
      )).1 l
  mate_linked x None e i q p l = absurd (cc)
  mate_linked x (Some (kind.Lam, n)) e i q p l =
      let z : ◌≡◌ {A = Kind × ℕ} (kind.Lam, n) (kind.Eraser, i) = cc in
      let y : kind.Lam ≡ kind.Eraser = ap (λ (k : Kind × ℕ). k.0) z in absurd (cc)
  mate_linked x (Some (kind.App, n)) e i q p l =
      let z : ◌≡◌ {A = Kind × ℕ} (kind.App, n) (kind.Eraser, i) = cc in
      let y : kind.App ≡ kind.Eraser = ap (λ (k : Kind × ℕ). k.0) z in absurd (cc)
  mate_linked x (Some (kind.Fan, n)) e i q p l =
      let z : ◌≡◌ {A = Kind × ℕ} (kind.Fan, n) (kind.Eraser, i) = cc in
      let y : kind.Fan ≡ kind.Eraser = ap (λ (k : Kind × ℕ). k.0) z in absurd (cc)
  mate_linked x (Some (kind.Croissant, n)) e i q p l =
      let z : ◌≡◌ {A = Kind × ℕ} (kind.Croissant, n) (kind.Eraser, i) = cc in
      let y : kind.Croissant ≡ kind.Eraser = ap (λ (k : Kind × ℕ). k.0) z in absurd (cc)
  mate_linked x (Some (kind.Bracket, n)) e i q p l =
      let z : ◌≡◌ {A = Kind × ℕ} (kind.Bracket, n) (kind.Eraser, i) = cc in
      let y : kind.Bracket ≡ kind.Eraser = ap (λ (k : Kind × ℕ). k.0) z in absurd (cc)

  depth_plain : (p : NamedPort ℕ) → erased_at node (port_of p) ≡ false →
      depth p ≡ depth_at node (port_of p)
  unfolding depth
  depth_plain p h = ap (λ p. depth_at node (port_of p)) (mate_itself p h)

  out_plain : (p : NamedPort ℕ) → erased_at node (port_of p) ≡ false →
      is_out p ≡ out_at node (port_of p)
  unfolding is_out turned_if
  out_plain p h = ap (λ b. turned_if b (out_at node (port_of (mate p)))) h
      ∙ ap (λ p. out_at node (port_of p)) (mate_itself p h)

  Agree : NamedPort ℕ → NamedPort ℕ → Type 0
  Agree p q = (depth p ≡ depth q) × (is_out p ≡ not (is_out q))

  turn_back : (b : Bool) → b ≡ not (not b)
  turn_back true = refl
  turn_back false = refl

  -- a link to an eraser
  agree_eraser : (p : NamedPort ℕ) (x i : ℕ) → erased_at node (port_of p) ≡ false →
      node x ≡ Some (kind.Eraser, i) → Linked N (slot x 0) p → Agree p (slot x 0)
  unfolding Agree depth is_out mate turned_if
  agree_eraser p x i h e l =
      let m : mate_at x (node x) refl ≡ p = mate_linked x (node x) refl i e p l in
      let at : erased (node x) ≡ true = ap erased e in (
        depth_plain p h ∙ ap (λ p. depth_at node (port_of p)) (sym m),
        out_plain p h ∙ turn_back (out_at node (port_of p))
            ∙ ap (λ p. not (not (out_at node (port_of p)))) (sym m)
            ∙ ap (λ b. not (turned_if b (out_at node (port_of (mate_at x (node x) refl)))))
            (sym at),
      )

  port_slot : (q : NamedPort ℕ) (x s : ℕ) → port_of q ≡ slot_port x s → q ≡ slot x s
  port_slot q x s e = sym (port_there q) ∙ ap numbered_port e

  agree : (p q : NamedPort ℕ) → FitsOne p q → Linked N q p → Agree p q
  unfolding FitsOne Agree
  agree p q (inl h) l = (
    depth_plain p h.first ∙ h.depths ∙ sym (depth_plain q h.second),
    out_plain p h.first ∙ h.outs ∙ ap not (sym (out_plain q h.second)),
  )
  agree p q (inr h) l =
      let e = port_slot q h.number 0 h.second in
      subst (λ q. Agree p q) (sym e)
      (agree_eraser p h.number h.index h.first h.eraser (subst (λ q. Linked N q p) e l))

  opposite : (a b : Bool) → a ≡ not b → b ≡ not a
  opposite true true e = absurd (cc)
  opposite true false e = refl
  opposite false true e = refl
  opposite false false e = absurd (cc)

  linked : (p q : NamedPort ℕ) → Linked N p q → (depth p ≡ depth q) × (is_out p ≡ not (is_out q))
  unfolding Agree
  linked p q (inl h) = agree p q (in_links p q h) (inr h)
  linked p q (inr h) = let r = agree q p (in_links q p h) (inr h) in
      (sym r.0, opposite (is_out q) (is_out p) r.1)

  not_eraser : (K : Kind) → (K ≡ kind.Eraser) ⊎ (is_eraser K ≡ false)
  not_eraser kind.Lam = inr refl
  not_eraser kind.App = inr refl
  not_eraser kind.Fan = inr refl
  not_eraser kind.Croissant = inr refl
  not_eraser kind.Bracket = inr refl
  not_eraser kind.Eraser = inl refl

  -- what a node's ports are
  slot_depth : (x s : ℕ) (K : Kind) (i : ℕ) → node x ≡ Some (K, i) → is_eraser K ≡ false →
      depth (slot x s) ≡ depth_slot (Some (K, i)) s
  slot_depth x s K i h e = depth_plain (slot x s) (ap erased h ∙ e) ∙ ap (λ o. depth_slot o s) h

  slot_out : (x s : ℕ) (K : Kind) (i : ℕ) → node x ≡ Some (K, i) → is_eraser K ≡ false →
      is_out (slot x s) ≡ out_slot (Some (K, i)) s
  slot_out x s K i h e = out_plain (slot x s) (ap erased h ∙ e) ∙ ap (λ o. out_slot o s) h

  stands : (x : ℕ) (K : Kind) (i : ℕ) → node x ≡ Some (K, i) →
      CanStand K i (depth (slot x 0)) (is_out (slot x 0))
  stands x K i h = go (not_eraser K)
    where
      go : (K ≡ kind.Eraser) ⊎ (is_eraser K ≡ false) →
          CanStand K i (depth (slot x 0)) (is_out (slot x 0))
      go (inl e) = subst (λ K. CanStand K i (depth (slot x 0)) (is_out (slot x 0))) (sym e) tt
      go (inr e) =
          subst (λ d. CanStand K i d (is_out (slot x 0))) (sym (slot_depth x 0 K i h e))
          (subst (λ o. CanStand K i (depth_first (
            K,
            i,
          )) o) (sym (slot_out x 0 K i h e)) (first_stands K i))

  beside : (x : ℕ) (K : Kind) (i s : ℕ) → node x ≡ Some (K, i) → s < arity K →
      (depth (slot x (suc s)) ≡ depth_beside K s (depth (slot x 0)))
      × (is_out (slot x (suc s)) ≡ out_beside K s (is_out (slot x 0)))
  beside x K i s h b = go (not_eraser K)
    where
      go : (K ≡ kind.Eraser) ⊎ (is_eraser K ≡ false) →
          (depth (slot x (suc s)) ≡ depth_beside K s (depth (slot x 0)))
          × (is_out (slot x (suc s)) ≡ out_beside K s (is_out (slot x 0)))
      go (inl e) = let z : s < arity kind.Eraser = subst (λ K. s < arity K) e b in
          absurd (omega arith)
      go (inr e) = (
        slot_depth x (suc s) K i h e ∙ ap (depth_beside K s) (sym (slot_depth x 0 K i h e)),
        slot_out x (suc s) K i h e ∙ ap (out_beside K s) (sym (slot_out x 0 K i h e)),
      )

  pub levelled : IsLevelled N
  unfolding depth is_out mate turned_if
  levelled = record {
    depth = depth;
    is_out = is_out;
    links = linked;
    stands = λ x K i h. stands x K i (has_node x K i h);
    beside = λ x K i s h b. beside x K i s (has_node x K i h) b;
    root = (refl, refl);
    names = λ f. (refl, refl);
  }

pub term_is_levelled : TermIsLevelled
term_is_levelled w t names h = levelled w t names h
