-- A path of a term's net, followed spot by spot.
use Rattle.std.proofs.Common.{◌≡◌, ◌↔◌, ℕ, zero, suc, ◌<◌, ◌+◌, true, Some, inl, inr, refl, sym, ap, ◌∙◌, arith, subst}
use Rattle.ol_term.specs.declared.translations.Translation.{Translation}
use Rattle.ol_term.specs.Trees.{Tree, var, lam, app, has_name}
use Rattle.ol_term.specs.Trees as trees
use Rattle.ol_net.specs.declared.parts.Kind.{Kind}
use Rattle.ol_net.specs.Nets.{NamedPort, NamedNet, HasNode, Linked, IsNet, free, slot}
use Rattle.ol_net.specs.Numbered.{numbered_port}
use Rattle.ol_context.specs.Contexts.{Level, empty, Context, cons, tail}
use Rattle.ol_context.specs.Paths.{Crosses, Path, ends, goes}
use Rattle.ol_invariance.proofs.Trails.{path_is_joined}
use Rattle.ol_rules.proofs.FreshPairs.{linked_sym}
use Rattle.ol_translate.specs.Translation.{subnet_of, wire_of, translation_of}
use Rattle.ol_translate.specs.Names.{HasNames}
use Rattle.ol_translate.proofs.Whole.{translation_net}
use Rattle.ol_law_meaning.specs.Spots.{bound, name, occurs, Place, root, wire, Spot, at, body, fun}
use Rattle.ol_law_meaning.specs.Spots.{arg, Edge, Trail, Leads, place, weight_of, applications}
use Rattle.ol_law_meaning.proofs.Parts.{wire_there, occurs_inside}
use Rattle.ol_law_meaning.proofs.States.{S, L, before_all}
use Rattle.ol_law_meaning.proofs.Trails.{tr_trans}
use Rattle.ol_law_meaning.proofs.Turns.{Stands, Turn, Rest, Reaches, Resting, Next, stands_port}
use Rattle.ol_law_meaning.proofs.Down.{down, at_root, at_wire}
use Rattle.ol_law_meaning.proofs.Up.{Leaves, up}
use Rattle.ol_law_meaning.proofs.Whole.{has_part, end_links, name_link, trail_is_path}
use Rattle.ol_context.proofs.Contexts.{eta}

-- a name that a term has occurs
name_occurs : (f : ℕ) (t : Tree) → has_name f t ≡ occurs (name f) t
name_occurs f (var v) = refl
name_occurs f (trees.free g) = refl
name_occurs f (lam t) = name_occurs f t
name_occurs f (app t u) = rw (name_occurs f t, name_occurs f u) refl

-- the interface spot as a free port
abbrev end_of : Spot → S
end_of (at root v c) = (free 0, cons v c)
end_of (at (wire (name f)) v c) = (free (suc f), cons v c)
end_of (at (wire (bound y)) v c) = (free 0, cons v c)
end_of (body s) = (free 0, λ n. empty)
end_of (fun s) = (free 0, λ n. empty)
end_of (arg v s) = (free 0, λ n. empty)

end_of_place : (p : ℕ) (v : Level) (c : Context) → ◌≡◌ {A = S} (end_of (at (place p) v c)) (free p, cons v c)
end_of_place zero v c = refl
end_of_place (suc f) v c = refl

module _ (τ : Translation) (t : Tree) (names : ℕ) (h : HasNames t names) where
  abbrev pub N : NamedNet ℕ
  N = translation_of τ t names

  pub net : IsNet (translation_of τ t names)
  net = translation_net τ t names h

  abbrev pub St : Spot → S → Type 0
  St z u = Stands τ t 0 0 0 (λ c. c) z u

  abbrev pub Steps : Spot → ℕ → S → Type 0
  Steps z m u = Next N (Trail (Edge τ t)) St z m u

  abbrev pub Rests : Spot → S → Type 0
  Rests z u = Resting N (Trail (Edge τ t)) St z u

  goes_down : (z : Spot) (u : S) → St z u → Turn N (Steps z) u.0 u.1
  goes_down z u s = down τ N t 0 0 0 (λ c. c) before_all h.bound (has_part τ t names h) z u s

  pub goes_up : (z : Spot) (u : S) → St z u → Leaves τ N t 0 0 0 (λ c. c) z u
  goes_up z u s = up τ N t 0 0 0 (λ c. c) before_all h.bound (has_part τ t names h) z u s

  -- the crossing of a turn
  turned : (P : ℕ → S → Type 0) (y : NamedPort ℕ) (c d : Context) (x s i r : ℕ) (K : Kind) →
      Turn N P y c → y ≡ slot x s → HasNode N x K i → Crosses K i s c r d → P (weight_of K) (slot x r, d)
  turned P y c d x s i r K T e hn cr =
      let e' : slot T.node T.by ≡ slot x s = sym T.port ∙ e in
      let nx : T.node ≡ x = cc in
      let ns : T.by ≡ s = cc in
      let one = net.one_node x T.kind_is K T.index i (subst (λ x. HasNode N x T.kind_is T.index) nx T.there) hn in
      let c1 : Crosses T.kind_is i s c r d = subst (λ K. Crosses K i s c r d) (sym one.0) cr in
      let c2 : Crosses T.kind_is T.index s c r d = subst (λ i. Crosses T.kind_is i s c r d) (sym one.1) c1 in
      let c3 : Crosses T.kind_is T.index T.by c r d = subst (λ s. Crosses T.kind_is T.index s c r d) (sym ns) c2 in
      subst (λ K. P (weight_of K) (slot x r, d)) one.0
      (subst (λ x. P (weight_of T.kind_is) (slot x r, d)) nx (T.goes r d c3))

  turn_not_free : (P : ℕ → S → Type 0) (y : NamedPort ℕ) (c : Context) (q : ℕ) → Turn N P y c → y ≡ free q → ⊥
  turn_not_free P y c q T e = let e' : slot T.node T.by ≡ free q = sym T.port ∙ e in absurd (cc)

  -- where the net stands at the interface
  pub at_end : (p : Place) (v : Level) (c : Context) (u : S) → St (at p v c) u →
      (f : ℕ) × (◌≡◌ {A = Place} p (place f)) × Linked N (free f) u.0 × (cons v c ≡ u.1)
  at_end root v c u s =
      let e = stands_port (Some (subnet_of τ t 0 0 0).root) (subnet_of τ t 0 0 0).root (cons v c) u s.is refl in
      (0, refl, subst (λ (u : S). Linked N (free 0) u.0) e (end_links τ t names h).0, ap (λ (u : S). u.1) e)
  at_end (wire (name f)) v c u s =
      let W = wire_there τ t (name f) 0 0 0 h.bound s.fits in
      let e = stands_port (wire_of (0 + f) (subnet_of τ t 0 0 0).wires) W.0 (cons v c) u s.is W.1 in
      let l = name_link (L N) (0 + f) W.0 (subnet_of τ t 0 0 0).wires W.1 (end_links τ t names h).1 in
      let r : 0 + f + 1 ≡ suc f = omega arith in (
        suc f,
        refl,
        subst (λ (u : S). Linked N (free (suc f)) u.0) e
            (subst (λ n. Linked N (free n) (numbered_port W.0)) r l),
        ap (λ (u : S). u.1) e,
      )
  at_end (wire (bound y)) v c u s = let b : y < 0 = occurs_inside t (bound y) 0 h.bound s.fits in absurd (omega arith)

  pub next_of : (z : Spot) (p : NamedPort ℕ) (c d : Context) (x s i r : ℕ) (K : Kind) →
      Rests z (p, c) → Linked N p (slot x s) → HasNode N x K i → Crosses K i s c r d →
      Steps z (weight_of K) (slot x r, d)
  next_of z p c d x s i r K (inl (inl st)) l hn cr = elim (goes_up z (p, c) st) [
    | inl e ↦ (let E = at_end e.place_is e.level e.later (p, c) e.stands in
        let clash : free E.0 ≡ slot x s = net.one_link p (free E.0) (slot x s)
        (linked_sym N (free E.0) p E.2) l in absurd (cc))
    | inr T ↦ turned (Steps z) T.next c d x s i r K T.turn (net.one_link p T.next (slot x s) T.linked l) hn cr
  ]
  next_of z p c d x s i r K (inl (inr (y, l', st))) l hn cr = turned (Steps z) y c d x s i r K
      (goes_down z (y, c) st) (net.one_link p y (slot x s) l' l) hn cr
  next_of z p c d x s i r K (inr (y, l', T, _, _)) l hn cr =
      let R = turned (Reaches (Trail (Edge τ t)) (Rest N St) z) y c d x s i r K T
      (net.one_link p y (slot x s) l' l) hn cr in
      (R.0, R.1, inl R.2)

  last_of : (z : Spot) (p : NamedPort ℕ) (c : Context) (q : ℕ) → Rests z (p, c) →
      Linked N p (free q) → Trail (Edge τ t) z (at (place q) (c 0) (tail c)) 0
  last_of z p c q (inl (inl st)) l = elim (goes_up z (p, c) st) [
    | inl e ↦ (let E = at_end e.place_is e.level e.later (p, c) e.stands in
        let same : free E.0 ≡ free q = net.one_link p (free E.0) (free q) (linked_sym N (free E.0) p E.2) l in
        let number : E.0 ≡ q = cc in
        let there : e.place_is ≡ place q = E.1 ∙ ap place number in
        subst (λ c. Trail (Edge τ t) z (at (place q) (c 0) (tail c)) 0) E.3
        (subst (λ p. Trail (Edge τ t) z (at p e.level e.later) 0) there e.trail))
    | inr T ↦ absurd (turn_not_free (Steps z) T.next c q T.turn (net.one_link p T.next (free q) T.linked l))
  ]
  last_of z p c q (inl (inr (y, l', st))) l = absurd
      (turn_not_free (Steps z) y c q (goes_down z (y, c) st) (net.one_link p y (free q) l' l))
  last_of z p c q (inr (y, l', T, _, _)) l = absurd
      (turn_not_free (Reaches (Trail (Edge τ t)) (Rest N St) z) y c q T (net.one_link p y (free q) l' l))

  follow : {p : NamedPort ℕ} {c d : Context} {q : ℕ} → (r : Path N p c q d) → (z : Spot) →
      Rests z (p, c) → Trail (Edge τ t) z (at (place q) (d 0) (tail d)) (applications r)
  follow (ends {p = p} {c = c} {q = q} l) z r = last_of z p c q r l
  follow (goes {p = p} {c = c} {d = d} {x = x} {k = K} {i = i} {s = s} {t = r} l hn cr path) z st =
      let X = next_of z p c d x s i r K st l hn cr in
      tr_trans X.1 (follow path X.0 X.2) refl

  -- a path begins at a port that the net has
  first_port : {p : NamedPort ℕ} {c d : Context} {q : ℕ} → Path N p c q d → (f : ℕ) → p ≡ free (suc f) → f < names
  first_port (ends {p = p} {q = q} l) f e = let b : suc f < 1 + names = (net.of_ports (free (suc f))
      (free q) (subst (λ p. Linked N p (free q)) e l)).0 in omega arith
  first_port (goes {p = p} {x = x} {s = s} l hn cr r) f e = let b : suc
      f < 1 + names = (net.of_ports (free (suc f)) (slot x s) (subst (λ p. Linked N p (slot x s)) e l)).0 in omega arith

  pub starts : (p q : ℕ) (c d : Context) → Path N (free p) c q d → Rests (at (place p) (c 0) (tail c)) (free p, c)
  starts zero q c d r = inl (inr (
    numbered_port (subnet_of τ t 0 0 0).root,
    (end_links τ t names h).0,
    at_root τ N t 0 0 0 (λ c. c) c,
  ))
  starts (suc f) q c d r =
      let o' : occurs (name f) t ≡ true = sym (name_occurs f t) ∙ h.each f (first_port r f refl) in
      let W = wire_there τ t (name f) 0 0 0 h.bound o' in
      let l = name_link (L N) (0 + f) W.0 (subnet_of τ t 0 0 0).wires W.1 (end_links τ t names h).1 in
      let n : 0 + f + 1 ≡ suc f = omega arith in
      inl (inr (
        numbered_port W.0,
        subst (λ n. Linked N (free n) (numbered_port W.0)) n l,
        at_wire τ N t (name f) 0 0 0 (λ c. c) c W.0 W.1 o',
      ))

  pub path_is_trail : (p q : ℕ) (c d : Context) → (r : Path N (free p) c q d) →
      Leads τ t (at (place p) (c 0) (tail c)) (at (place q) (d 0) (tail d)) (applications r)
  path_is_trail p q c d r = (
    follow r (at (place p) (c 0) (tail c)) (starts p q c d r),
    λ e.
        let one = sym (end_of_place p (c 0) (tail c)) ∙ ap end_of e ∙ end_of_place q (d 0) (tail d) in
        let same : ◌≡◌ {A = S} (free p, c) (free q, d) = ap (λ c. (free p, c)) (sym (eta c)) ∙ one
        ∙ ap (λ d. (free q, d)) (eta d) in
        ((path_is_joined N net p c q d).0 r).0 same,
  )

  pub net_and_spots : (p q : ℕ) (c d : Context) →
      Path N (free p) c q d ↔ ((n : ℕ) × Leads τ t (at (place p) (c 0) (tail c)) (at (place q) (d 0) (tail d)) n)
  net_and_spots p q c d = (
    λ r. (applications r, path_is_trail p q c d r),
    λ r. subst (λ c. Path N (free p) c q d) (eta c)
        (subst (λ d. Path N (free p) (cons (c 0) (tail c)) q d) (eta d)
        (trail_is_path τ t names h p q r.0 (c 0) (d 0) (tail c) (tail d) r.1)),
  )
