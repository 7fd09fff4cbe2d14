-- A replacement, by the numbers of nodes
use Rattle.std.proofs.Common.{◌≡◌, ◌≢◌, ℕ, ◌+◌, ◌-◌, ◌*◌, ◌/◌, ◌%◌, ◌<◌, ◌≤◌, ◌==◌, nat_lt, true}
use Rattle.std.proofs.Common.{false, if◌then◌else◌, List, [], ◌∷◌, ◌++◌, length, Option, Some, None}
use Rattle.std.proofs.Common.{refl, sym, ap, ◌∙◌, inl, inr, ◌⊎◌, ◌↔◌, arith, subst, zero, suc}
use Rattle.std.specs.Prelude.{option_map, slice_get}
use Rattle.std.proofs.lemmas.Bool.{cases_eq, cases_lt, cases_Bool}
use Rattle.std.proofs.lemmas.Bool.Decides.{nat_tests}
use Rattle.ol_law_edges.specs.Edges.{IsIn, Contracted, Edge}
use Rattle.ol_law_edges.proofs.Composing.{IsImage, edge_image, contracted_image, image_same}
use Rattle.ol_net.specs.declared.parts.Kind.{Kind}
use Rattle.ol_net.specs.declared.parts.Kind.TheVariants as kind
use Rattle.ol_net.specs.declared.parts.NodeId.{NodeId}
use Rattle.ol_net.specs.declared.parts.Port.TheVariants.{Of}
use Rattle.ol_net.specs.declared.parts.JoinEnd.{JoinEnd}
use Rattle.ol_net.specs.declared.parts.JoinEnd.TheVariants.{First, Second, Born}
use Rattle.ol_net.specs.Pairing.{other}
use Rattle.ol_net.specs.Graph.{Graph, kind_at, has_port, place, port_at, partner_of, IsTabled}
use Rattle.ol_net.specs.Nets.{NamedPort, free, slot, Linked, IsPrincipalOf, IsSlotOf}
use Rattle.ol_net.specs.Numbered.{numbered_port, net_of, all_live}
use Rattle.ol_net.specs.Joins.{uses_up, remove_end, and_then_end, same_end, all_ends, side_ends, born_ends, open_ends}
use Rattle.ol_net.specs.Rewired.{end_place, join_places, rewired, renewed, Given}
use Rattle.ol_net.specs.Replace.{Replaces, JoinsOf, IsBorn, port_of_end}
use Rattle.ol_net.proofs.Places.{place-port_at, port_at-place, partner_in-some}
use Rattle.ol_net.proofs.Numbered.{has_node, linked, linked_back, numbered_port-injective}
use Rattle.ol_net.proofs.Numbered.{partner_of-parts, partner_of-back}
use Rattle.ol_net.proofs.Fitting.{same_end-is, prepended, removed}
use Rattle.ol_net.proofs.Replacing.{live-within, kind_at-renewed, length-renewed, IsTabled-rewired}
use Rattle.std.proofs.lemmas.List.{get_or_past}
use Rattle.ol_net.proofs.JoinEdges.{PairOf, JoinAt}
use Rattle.ol_net.proofs.Rewiring.{IsPrincipalPlace, IsSlotPlace, Edges, rewired_edges}

-- Names of places

abbrev name_at : ℕ → ℕ → NamedPort ℕ
name_at ports k = numbered_port (port_at ports k)

one_name : (ports k l : ℕ) → name_at ports k ≡ name_at ports l → k ≡ l
one_name ports k l e =
    sym (place-port_at ports k) ∙ ap (place ports)
    (numbered_port-injective (port_at ports k) (port_at ports l) e) ∙ place-port_at ports l

-- the place of a slot
port_at-slot : (ports n s : ℕ) → s < 3 → port_at ports (ports + 3 * n + s) ≡ Of (record { 0 = n }) s
port_at-slot ports n s small =
    let past : nat_lt (ports + 3 * n + s) ports ≡ false = grind (arith, nat_tests) in
    let q : (ports + 3 * n + s - ports) / 3 ≡ n = omega arith in
    let r : (ports + 3 * n + s - ports) % 3 ≡ s = omega arith in
    rw past (rw (q, r) refl)

name-slot : (ports n s w : ℕ) → s < 3 → w ≡ ports + 3 * n + s → name_at ports w ≡ slot n s
name-slot ports n s w small e = ap (name_at ports) e ∙ ap numbered_port (port_at-slot ports n s small)

-- and a place whose name is a slot
abbrev slot_number : NamedPort ℕ → ℕ
slot_number (free k) = 0
slot_number (slot x s) = s

slot_small : (ports w : ℕ) → slot_number (name_at ports w) < 3
slot_small ports w = elim (cases_lt w ports) [
  | inl lt ↦ let t : nat_lt w ports ≡ true = grind (arith, nat_tests) in rw t (omega arith)
  | inr le ↦ let t : nat_lt w ports ≡ false = grind (arith, nat_tests) in rw t (omega arith)
]

place-of_slot : (ports n s w : ℕ) → name_at ports w ≡ slot n s → (s < 3) × (w ≡ ports + 3 * n + s)
place-of_slot ports n s w e =
    let same = numbered_port-injective (port_at ports w) (Of (record { 0 = n }) s) e in (
      subst (λ z. z < 3) (ap slot_number e) (slot_small ports w),
      sym (place-port_at ports w) ∙ ap (place ports) same,
    )

-- Links are the pairs of the table

links_to : (g : Graph) → IsTabled g.free g.nodes g.partners → (u v : ℕ) →
    PairOf (other g.partners) u v → Linked (net_of g) (name_at g.free u) (name_at g.free v)
links_to g t u v p =
    let test = t.ports u in
    let ne : other g.partners u ≢ u = λ e. p.1 (sym e ∙ p.0) in
    let has : has_port g.free g.nodes (port_at g.free u) ≡ true = grind (arith, nat_tests) in
    let partner : partner_of g (port_at g.free u) ≡ Some (port_at g.free v) =
    partner_in-some g.free g.nodes g.partners (port_at g.free u) has
    ∙ ap (λ k. Some (port_at g.free (other g.partners k))) (place-port_at g.free u)
    ∙ ap (λ k. Some (port_at g.free k)) p.0 in
    linked g (port_at g.free u) (port_at g.free v) t partner

links_from_places : (g : Graph) → IsTabled g.free g.nodes g.partners → (p q : NamedPort ℕ) → Linked (net_of g) p q →
    (u : ℕ) × (v : ℕ) × (p ≡ name_at g.free u) × (q ≡ name_at g.free v) × PairOf (other g.partners) u v
links_from_places g t p q h =
    let l = linked_back g p q t h in
    let parts = partner_of-parts g l.from l.to l.partner in
    let back = partner_of-back g l.from l.to t l.partner in
    let has' = (partner_of-parts g l.to l.from back.0).0 in
    let u = place g.free l.from in
    let v = place g.free l.to in
    let at = port_at-place g.free g.nodes l.from parts.0 in
    let at' = port_at-place g.free g.nodes l.to has' in (
      u,
      v,
      l.first ∙ ap numbered_port (sym at),
      l.second ∙ ap numbered_port (sym at'),
      (
        sym (place-port_at g.free (other g.partners u)) ∙ ap (place g.free) parts.1,
        λ e. back.1 (sym at' ∙ ap (port_at g.free) (sym e) ∙ at),
      ),
    )

links_image : (g : Graph) → IsTabled g.free g.nodes g.partners →
    IsImage (name_at g.free) (PairOf (other g.partners)) (Linked (net_of g))
links_image g t = record { forth = links_to g t; from = links_from_places g t }

-- The ends of joins are slots

abbrev IsSlotEnd : JoinEnd → Type 0
IsSlotEnd (First s) = s < 3
IsSlotEnd (Second s) = s < 3
IsSlotEnd (Born p s) = s < 3

abbrev AllSlots : List JoinEnd → Type 0
AllSlots [] = Unit {0}
AllSlots (e ∷ ends) = IsSlotEnd e × AllSlots ends

AllSlots-append : (xs ys : List JoinEnd) → AllSlots xs → AllSlots ys → AllSlots (xs ++ ys)
AllSlots-append [] ys h k = k
AllSlots-append (x ∷ xs) ys h k = (h.0, AllSlots-append xs ys h.1 k)

all_ends-slots : (f : ℕ → JoinEnd) → ((s : ℕ) → s < 3 → IsSlotEnd (f s)) → (k : Kind) → AllSlots (all_ends f k)
all_ends-slots f h kind.Lam = (h 0 (omega arith), (h 1 (omega arith), (h 2 (omega arith), tt)))
all_ends-slots f h kind.App = (h 0 (omega arith), (h 1 (omega arith), (h 2 (omega arith), tt)))
all_ends-slots f h kind.Fan = (h 0 (omega arith), (h 1 (omega arith), (h 2 (omega arith), tt)))
all_ends-slots f h kind.Croissant = (h 0 (omega arith), (h 1 (omega arith), tt))
all_ends-slots f h kind.Bracket = (h 0 (omega arith), (h 1 (omega arith), tt))
all_ends-slots f h kind.Eraser = (h 0 (omega arith), tt)

side_ends-slots : (f : ℕ → JoinEnd) → ((s : ℕ) → s < 3 → IsSlotEnd (f s)) →
    (o : Option (Kind × ℕ)) → AllSlots (side_ends f o)
side_ends-slots f h None = tt
side_ends-slots f h (Some k) = (all_ends-slots f h k.0).1

born_ends-slots : (p : ℕ) (born : List (Kind × ℕ)) → AllSlots (born_ends p born)
born_ends-slots p [] = tt
born_ends-slots p (k ∷ ks) = AllSlots-append (all_ends (Born p) k.0) (born_ends (p + 1) ks)
    (all_ends-slots (Born p) (λ s h. h) k.0) (born_ends-slots (p + 1) ks)

open_ends-slots : (o o' : Option (Kind × ℕ)) (born : List (Kind × ℕ)) → AllSlots (open_ends o o' born)
open_ends-slots o o' born =
    AllSlots-append (side_ends First o ++ side_ends Second o') (born_ends 0 born)
    (AllSlots-append (side_ends First o) (side_ends Second o') (side_ends-slots First (λ s h. h) o)
    (side_ends-slots Second (λ s h. h) o'))
    (born_ends-slots 0 born)

remove_end-slots : (e : JoinEnd) (xs ys : List JoinEnd) → remove_end e xs ≡ Some ys → AllSlots xs →
    IsSlotEnd e × AllSlots ys
remove_end-slots e [] ys h a = absurd (let n : None ≡ Some ys = h in cc)
remove_end-slots e (x ∷ xs) ys h a = elim (cases_Bool (same_end e x)) [
  | inl t ↦
      let q : Some xs ≡ Some ys = rw t at h in
      let xy : xs ≡ ys = cc in
      (subst (λ z. IsSlotEnd z) (sym (same_end-is e x t)) a.0, subst (λ z. AllSlots z) xy a.1)
  | inr t ↦
      let q : option_map (λ zs. x ∷ zs) (remove_end e xs) ≡ Some ys = rw t at h in
      let z = prepended x (remove_end e xs) ys q in
      let ih = remove_end-slots e xs z.0 z.1 a.1 in
      (ih.0, subst (λ w. AllSlots w) (sym z.2) (a.0, ih.1))
]

joins-slots : (joins : List (JoinEnd × JoinEnd)) (ends : List JoinEnd) → uses_up joins ends ≡ true →
    AllSlots ends → (j : JoinEnd × JoinEnd) → IsIn j joins → IsSlotEnd j.0 × IsSlotEnd j.1
joins-slots [] ends h a j i = absurd i
joins-slots (j' ∷ js) ends h a j i =
    let one = removed (remove_end j'.0 ends) (λ left. and_then_end (remove_end j'.1 left) (uses_up js)) h in
    let two = removed (remove_end j'.1 one.0) (uses_up js) one.2 in
    let r = remove_end-slots j'.0 ends one.0 one.1 a in
    let r' = remove_end-slots j'.1 one.0 two.0 two.1 r.1 in
    elim i [
      | inl q ↦ subst (λ (j : JoinEnd × JoinEnd). IsSlotEnd j.0 × IsSlotEnd j.1) (sym q) (r.0, r'.0)
      | inr k ↦ joins-slots js two.0 two.2 r'.1 j k
    ]

-- Joins by places and by ports

name-end : (ports first second next : ℕ) (e : JoinEnd) → IsSlotEnd e →
    name_at ports (end_place ports first second next e) ≡ port_of_end first second next e
name-end ports first second next (First s) h = name-slot ports first s (ports + 3 * first + s) h refl
name-end ports first second next (Second s) h = name-slot ports second s (ports + 3 * second + s) h refl
name-end ports first second next (Born p s) h = name-slot ports (next + p) s (ports + 3 * (next + p) + s) h refl

join_at : (ports first second next : ℕ) (joins : List (JoinEnd × JoinEnd)) (u v : ℕ) →
    JoinAt (join_places ports first second next joins) u v →
    (j : JoinEnd × JoinEnd) × IsIn j joins × (u ≡ end_place ports first second next j.0)
    × (v ≡ end_place ports first second next j.1)
join_at ports first second next [] u v h = absurd h
join_at ports first second next (j ∷ js) u v
    (inl q) = (j, inl refl, ap (λ (d : ℕ × ℕ). d.0) q, ap (λ (d : ℕ × ℕ). d.1) q)
join_at ports first second next (j ∷ js) u v
    (inr h) = let r = join_at ports first second next js u v h in (r.0, inr r.1, r.2, r.3)

at_join : (ports first second next : ℕ) (joins : List (JoinEnd × JoinEnd)) (j : JoinEnd × JoinEnd) → IsIn j joins →
    JoinAt (join_places ports first second next joins) (end_place ports first second next j.0)
    (end_place ports first second next j.1)
at_join ports first second next [] j h = absurd h
at_join ports first second next (i ∷ js) j (inl q) = inl
    (ap (λ (j : JoinEnd × JoinEnd). (end_place ports first second next j.0, end_place ports first second next j.1)) q)
at_join ports first second next (i ∷ js) j (inr h) = inr (at_join ports first second next js j h)

joins_image : (ports first second next : ℕ) (joins : List (JoinEnd × JoinEnd)) →
    ((j : JoinEnd × JoinEnd) → IsIn j joins → IsSlotEnd j.0 × IsSlotEnd j.1) →
    IsImage (name_at ports) (JoinAt (join_places ports first second next joins)) (JoinsOf first second next joins)
joins_image ports first second next joins small = record {
  forth = λ u v h.
      let r = join_at ports first second next joins u v h in
      let s = small r.0 r.1 in (
        r.0,
        r.1,
        ap (name_at ports) r.2 ∙ name-end ports first second next r.0.0 s.0,
        ap (name_at ports) r.3 ∙ name-end ports first second next r.0.1 s.1,
      );
  from = λ p q h.
      let s = small h.0 h.1 in (
        end_place ports first second next h.0.0,
        end_place ports first second next h.0.1,
        h.2 ∙ sym (name-end ports first second next h.0.0 s.0),
        h.3 ∙ sym (name-end ports first second next h.0.1 s.1),
        at_join ports first second next joins h.0 h.1,
      );
}

-- Nodes

live_at : (born : List (Kind × ℕ)) (n : ℕ) → kind_at (all_live born) n ≡ slice_get born n
live_at [] n = refl
live_at (k ∷ born) zero = refl
live_at (k ∷ born) (suc n) = live_at born n

new_node : (nodes : List (Option (Kind × ℕ))) (first second : ℕ) (born : List (Kind × ℕ)) →
    first < length nodes → second < length nodes → (x : ℕ) (k : Kind) (i : ℕ) →
    (kind_at (renewed nodes first second born) x ≡ Some (k, i)) ↔
    (((kind_at nodes x ≡ Some (k, i)) × (x ≢ first) × (x ≢ second)) ⊎ IsBorn (length nodes) born x k i)
new_node nodes first second born lf ls x k i = (to, from)
  where
    is : kind_at (renewed nodes first second born) x ≡
        (if (x == first) then None else (if (x == second) then None else
        (if nat_lt x (length nodes) then kind_at nodes x else kind_at (all_live born) (x - length nodes))))
    is = kind_at-renewed nodes first second x born lf ls

    old : x ≢ first → x ≢ second → x < length nodes → kind_at (renewed nodes first second born) x ≡ kind_at nodes x
    old nf ns lt =
        let t : (x == first) ≡ false = grind (arith, nat_tests) in
        let u : (x == second) ≡ false = grind (arith, nat_tests) in
        let v : nat_lt x (length nodes) ≡ true = grind (arith, nat_tests) in
        rw (t, u, v) at is

    come : length nodes ≤ x → kind_at (renewed nodes first second born) x ≡ slice_get born (x - length nodes)
    come le =
        let t : (x == first) ≡ false = grind (arith, nat_tests) in
        let u : (x == second) ≡ false = grind (arith, nat_tests) in
        let v : nat_lt x (length nodes) ≡ false = grind (arith, nat_tests) in
        (rw (t, u, v) at is) ∙ live_at born (x - length nodes)

    to : kind_at (renewed nodes first second born) x ≡ Some (k, i) →
        ((kind_at nodes x ≡ Some (k, i)) × (x ≢ first) × (x ≢ second)) ⊎ IsBorn (length nodes) born x k i
    to h = elim (cases_eq x first) [
      | inl e ↦
          let t : (x == first) ≡ true = grind (arith, nat_tests) in
          absurd (let n : None ≡ Some (k, i) = sym (rw t at is) ∙ h in cc)
      | inr nf ↦ elim (cases_eq x second) [
        | inl e ↦
            let t : (x == first) ≡ false = grind (arith, nat_tests) in
            let u : (x == second) ≡ true = grind (arith, nat_tests) in
            absurd (let n : None ≡ Some (k, i) = sym (rw (t, u) at is) ∙ h in cc)
        | inr ns ↦ elim (cases_lt x (length nodes)) [
          | inl lt ↦ inl (sym (old nf ns lt) ∙ h, nf, ns)
          | inr le ↦ inr (x - length nodes, omega arith, sym (come le) ∙ h)
        ]
      ]
    ]

    from : ((kind_at nodes x ≡ Some (k, i)) × (x ≢ first) × (x ≢ second))
        ⊎ IsBorn (length nodes) born x k i → kind_at (renewed nodes first second born) x ≡ Some (k, i)
    from (inl (h, nf, ns)) = elim (cases_lt x (length nodes)) [
      | inl lt ↦ old nf ns lt ∙ h
      | inr le ↦ absurd (let n : None ≡ Some (k, i) = sym (get_or_past nodes x None le) ∙ h in cc)
    ]
    from (inr (p, e, h)) =
        let q : x - length nodes ≡ p = omega arith in
        come (omega arith) ∙ ap (slice_get born) q ∙ h

-- The replacement

principal_named : (ports first second w : ℕ) →
    ((w ≡ ports + 3 * first) ⊎ (w ≡ ports + 3 * second)) ↔ IsPrincipalOf first second (name_at ports w)
principal_named ports first second w = (
  λ h. elim h [
    | inl e ↦ inl (name-slot ports first 0 w (omega arith) (omega arith))
    | inr e ↦ inr
        (name-slot ports second 0 w (omega arith) (omega arith))
  ],
  λ h. elim h [
    | inl e ↦ let at = (place-of_slot ports first 0 w e).1 in inl (omega arith)
    | inr e ↦ let at = (place-of_slot ports second 0 w e).1 in inr (omega arith)
  ],
)

slot_named : (ports first second w : ℕ) →
    ((s : ℕ) × (s < 3) × ((w ≡ ports + 3 * first + s)
    ⊎ (w ≡ ports + 3 * second + s))) ↔ IsSlotOf first second (name_at ports w)
slot_named ports first second w = (to, from)
  where
    to : (s : ℕ) × (s < 3) × ((w ≡ ports + 3 * first + s) ⊎ (w ≡ ports + 3 * second + s)) →
        IsSlotOf first second (name_at ports w)
    to (s, small, inl e) = (s, inl (name-slot ports first s w small e))
    to (s, small, inr e) = (s, inr (name-slot ports second s w small e))

    from : IsSlotOf first second (name_at ports w) →
        (s : ℕ) × (s < 3) × ((w ≡ ports + 3 * first + s) ⊎ (w ≡ ports + 3 * second + s))
    from (s, inl e) = let at = place-of_slot ports first s w e in (s, at.0, inl at.1)
    from (s, inr e) = let at = place-of_slot ports second s w e in (s, at.0, inr at.1)

Replaces-rewired : (g : Graph) (first second : NodeId) (born : List (Kind × ℕ))
    (joins : List (JoinEnd × JoinEnd)) → Given g.free g.nodes g.partners first.0 second.0 born joins →
    Replaces g (record {
      free = g.free;
      nodes = renewed g.nodes first.0 second.0 born;
      partners = rewired g.free (length g.nodes) g.partners first.0 second.0 born joins;
    }) first second born joins
Replaces-rewired g first second born joins given = record {
  free_ports = refl;
  numbers = length-renewed g.nodes first.0 second.0 born;
  nodes = λ x k i.
      let new = has_node after x k i in
      let old = has_node g x k i in
      let n = new_node g.nodes first.0 second.0 born lf ls x k i in (
        λ h. elim (n.0 (new.0 h)) [ inl o ↦ inl (old.1 o.0, o.1, o.2) | inr b ↦ inr b ],
        λ h. new.1 (n.1 (elim h [ inl o ↦ inl (old.0 o.0, o.1, o.2) | inr b ↦ inr b ])),
      );
  links = image_same (name_at g.free) (PairOf (other after.partners)) (Contracted edges slots)
      (Linked (net_of after)) _ (links_image after tabled) contracted
      (rewired_edges g.free g.nodes g.partners first.0 second.0 born joins given);
}
  where
    after : Graph
    after = record {
      free = g.free;
      nodes = renewed g.nodes first.0 second.0 born;
      partners = rewired g.free (length g.nodes) g.partners first.0 second.0 born joins;
    }

    lf : first.0 < length g.nodes
    lf = live-within g.nodes first.0 given.facing.first_live

    ls : second.0 < length g.nodes
    ls = live-within g.nodes second.0 given.facing.second_live

    tabled : IsTabled after.free after.nodes after.partners
    tabled = IsTabled-rewired g.free g.nodes g.partners first.0 second.0 born joins given

    edges : ℕ → ℕ → Type 0
    edges = Edges g.free g.nodes g.partners first.0 second.0 born joins given

    slots : ℕ → Type 0
    slots = IsSlotPlace g.free g.nodes g.partners first.0 second.0 born joins given

    small : (j : JoinEnd × JoinEnd) → IsIn j joins → IsSlotEnd j.0 × IsSlotEnd j.1
    small = joins-slots joins (open_ends (kind_at g.nodes first.0)
        (kind_at g.nodes second.0) born) given.fit
        (open_ends-slots (kind_at g.nodes first.0) (kind_at g.nodes second.0) born)

    named : IsImage (name_at g.free) edges
        (Edge (Linked (net_of g)) (IsPrincipalOf first.0 second.0) (JoinsOf first.0 second.0 (length g.nodes) joins))
    named = edge_image (name_at g.free) (PairOf (other g.partners))
        (JoinAt (join_places g.free first.0 second.0 (length g.nodes) joins))
        (IsPrincipalPlace g.free g.nodes g.partners first.0 second.0 born joins given)
        (Linked (net_of g)) (JoinsOf first.0 second.0 (length g.nodes) joins) (IsPrincipalOf first.0 second.0)
        (links_image g given.net) (joins_image g.free first.0 second.0 (length g.nodes) joins small)
        (principal_named g.free first.0 second.0)

    contracted : IsImage (name_at g.free) (Contracted edges slots)
        (Contracted (Edge (Linked (net_of g)) (IsPrincipalOf first.0 second.0)
        (JoinsOf first.0 second.0 (length g.nodes) joins)) (IsSlotOf first.0 second.0))
    contracted = contracted_image (name_at g.free) (one_name g.free) edges
        (Edge (Linked (net_of g)) (IsPrincipalOf first.0 second.0)
        (JoinsOf first.0 second.0 (length g.nodes) joins)) named
        slots (IsSlotOf first.0 second.0) (slot_named g.free first.0 second.0)

-- from the tables that the code leaves
pub Replaces-from : (g : Graph) (nodes : List (Option (Kind × ℕ))) (xs : List ℕ)
    (first second : NodeId) (born : List (Kind × ℕ)) (joins : List (JoinEnd × JoinEnd)) →
    Given g.free g.nodes g.partners first.0 second.0 born joins →
    nodes ≡ renewed g.nodes first.0 second.0 born →
    xs ≡ rewired g.free (length g.nodes) g.partners first.0 second.0 born joins →
    Replaces g (record { free = g.free; nodes = nodes; partners = xs }) first second born joins
Replaces-from g nodes xs first second born joins given en ex = rw (en, ex)
    (Replaces-rewired g first second born joins given)
