-- The nodes after a run are those that were there or that came, without those that were rewritten.
-- Used in Start.
use Rattle.std.proofs.Common.{◌≡◌, ◌≢◌, ℕ, zero, suc, ◌+◌, ◌-◌, ◌<◌, ◌≤◌, Bool, true, false, if◌then◌else◌, List, []}
use Rattle.std.proofs.Common.{◌∷◌, length, Some, ◌⊎◌, inl, inr, ◌↔◌, refl, sym, ap, ◌∙◌, subst, arith}
use Rattle.std.specs.Prelude.{slice_get}
use Rattle.std.proofs.lemmas.Bool.{cases_lt}
use Rattle.ol_net.specs.declared.parts.Kind.{Kind}
use Rattle.ol_net.specs.Parts.{arity}
use Rattle.ol_net.specs.Nets.{NamedNet, HasNode}
use Rattle.ol_rules.specs.declared.journal.NodeName.{NodeName}
use Rattle.ol_rules.specs.declared.journal.NodeName.TheVariants.{Init, Born}
use Rattle.ol_rules.specs.Rewriting.{meeting, crossing, is_meeting, index_after, action_of, NodeOf}
use Rattle.ol_rules.specs.Rewriting.{left, of_f, of_g, IsStep}
use Rattle.ol_wire.specs.declared.layout.Parts.{Parts}
use Rattle.ol_wire.specs.References.{node_ref, kind_in, place_in}
use Rattle.ol_wire.specs.Layout.{place_of, IsPlaced}
use Rattle.ol_wire.specs.Events.{Event, IsPlayed, name_at, entry_of}
use Rattle.ol_wire.proofs.InWords.References.{kind_of_ref, place_of_ref}
use Rattle.ol_wire.proofs.InWords.Places.{name_of_place}
use Rattle.ol_wire.proofs.InWords.Claimed.{wider}
use Rattle.ol_wire.proofs.Closing.Entry.{picked, turned, births_of}
use Rattle.ol_wire.proofs.InWords.Lists.{index_after_small}
use Rattle.ol_rules.proofs.Born.{at_most_two}

crosses : (b : Bool) (a j : ℕ) → (if b then meeting else crossing a) ≡ crossing j → (b ≡ false) × (a ≡ j)
crosses true a j e = absurd (cc)
crosses false a j e = (refl, let q : a ≡ j = cc in q)

abbrev pub IsLive : NamedNet NodeName → NodeName → Type 0
IsLive N x = (m : Kind) × (i : ℕ) × HasNode N x m i

-- the names are of places before ticket t, and the indexes are small
pub record Fits (z : Parts) (N : NamedNet NodeName) (t : ℕ) : Type 0 where
  pub names : (x : NodeName) (m : Kind) (i : ℕ) → HasNode N x m i → IsPlaced z t x
  pub indexes : (x : NodeName) (m : Kind) (i : ℕ) → HasNode N x m i → i ≤ 1000000 + t

module _ (z : Parts) (few : z.fuel ≤ 8000000) (N M : NamedNet NodeName) (t : ℕ) (e : Event)
    (x y : NodeName) (st : IsStep (λ place. Born t place) N x y e.rule M)
    (ef : e.f ≡ node_ref st.active.k st.active.i (place_of z x))
    (eg : e.g ≡ node_ref st.active.l st.active.j (place_of z y)) (fits : Fits z N t) (drawn : t < z.fuel) where
  abbrev Made : NodeName → Kind → ℕ → Type 0
  Made u m n = NodeOf N (λ place. Born t place) x y st.active.k st.active.i st.active.l
      (action_of e.rule st.active.j) u m n

  kind_f : kind_in e.f ≡ st.active.k
  kind_f = ap kind_in ef ∙ kind_of_ref st.active.k st.active.i (place_of z x)

  kind_g : kind_in e.g ≡ st.active.l
  kind_g = ap kind_in eg ∙ kind_of_ref st.active.l st.active.j (place_of z y)

  births_met : is_meeting e.rule ≡ true → births_of e ≡ 0
  births_met h = ap (λ b. (if b then 0 else arity (kind_in e.g)) + (if b then 0 else arity (kind_in e.f))) h

  births_crossed : is_meeting e.rule ≡ false → births_of e ≡ arity st.active.l + arity st.active.k
  births_crossed h = ap (λ b. (if b then 0 else arity (kind_in e.g)) +
      (if b then 0 else arity (kind_in e.f))) h ∙ ap (λ l. arity l + arity (kind_in e.f)) kind_g
      ∙ ap (λ k. arity st.active.l + arity k) kind_f

  fits_after : Fits z M (suc t)
  fits_after = record {
    names = λ u m n h. name u m n ((st.rewrites.nodes u m n).0 h);
    indexes = λ u m n h. index u m n ((st.rewrites.nodes u m n).0 h);
  }
    where
      name : (u : NodeName) (m : Kind) (n : ℕ) → Made u m n → IsPlaced z (suc t) u
      name u m n (left h a b) = wider z u t (suc t) (omega arith) (fits.names u m n h)
      name u m n (of_f {q = q} j a b) = (omega arith, omega (arith, b, at_most_two st.active.l))
      name u m n (of_g {p = p} j a b) = (
        omega arith,
        omega (arith, b, at_most_two st.active.k, at_most_two st.active.l),
      )

      index : (u : NodeName) (m : Kind) (n : ℕ) → Made u m n → n ≤ 1000000 + suc t
      index u m n (left h a b) = omega (arith, fits.indexes u m n h)
      index u m n (of_f {q = q} j a b) = omega (arith, fits.indexes x st.active.k st.active.i st.active.faces.first)
      index u m n (of_g {p = p} j a b) = omega (
        arith,
        fits.indexes y st.active.l st.active.j st.active.faces.second,
        index_after_small e.rule st.active.j,
        (crosses (is_meeting e.rule) (index_after e.rule st.active.j) n a).1,
      )

  -- the names of the entry
  name_f : name_at z (place_in e.f) ≡ x
  name_f = ap (λ r. name_at z (place_in r)) ef
      ∙ ap (name_at z) (place_of_ref st.active.k st.active.i (place_of z x)
      (omega (arith, fits.indexes x st.active.k st.active.i st.active.faces.first)))
      ∙ name_of_place z x (wider z x t z.fuel (omega arith)
      (fits.names x st.active.k st.active.i st.active.faces.first))

  name_g : name_at z (place_in e.g) ≡ y
  name_g = ap (λ r. name_at z (place_in r)) eg
      ∙ ap (name_at z) (place_of_ref st.active.l st.active.j (place_of z y)
      (omega (arith, fits.indexes y st.active.l st.active.j st.active.faces.second)))
      ∙ name_of_place z y (wider z y t z.fuel (omega arith)
      (fits.names y st.active.l st.active.j st.active.faces.second))

  named : (((entry_of z e).first ≡ x) × ((entry_of z e).second ≡ y))
      ⊎ (((entry_of z e).first ≡ y) × ((entry_of z e).second ≡ x))
  named = elim (cases_lt (place_in e.f) (place_in e.g)) [
    | inl lt ↦ inl (
      ap (λ r. name_at z (place_in r)) (picked e.f e.g lt).0 ∙ name_f,
      ap (λ r. name_at z (place_in r)) (picked e.f e.g lt).1 ∙ name_g,
    )
    | inr ge ↦ inr (
      ap (λ r. name_at z (place_in r)) (turned e.f e.g ge).0 ∙ name_g,
      ap (λ r. name_at z (place_in r)) (turned e.f e.g ge).1 ∙ name_f,
    )
  ]

  abbrev IsOther : NodeName → Type 0
  IsOther u = ((entry_of z e).first ≢ u) × ((entry_of z e).second ≢ u)

  other_than : (u : NodeName) → u ≢ x → u ≢ y → IsOther u
  other_than u a b = go named
    where
      go : (((entry_of z e).first ≡ x) × ((entry_of z e).second ≡ y))
          ⊎ (((entry_of z e).first ≡ y) × ((entry_of z e).second ≡ x)) → IsOther u
      go (inl h) = ((λ q. a (sym q ∙ h.0)), (λ q. b (sym q ∙ h.1)))
      go (inr h) = ((λ q. b (sym q ∙ h.0)), (λ q. a (sym q ∙ h.1)))

  than_other : (u : NodeName) → IsOther u → (u ≢ x) × (u ≢ y)
  than_other u o = go named
    where
      go : (((entry_of z e).first ≡ x) × ((entry_of z e).second ≡ y))
          ⊎ (((entry_of z e).first ≡ y) × ((entry_of z e).second ≡ x)) → (u ≢ x) × (u ≢ y)
      go (inl h) = ((λ q. o.0 (h.0 ∙ sym q)), (λ q. o.1 (h.1 ∙ sym q)))
      go (inr h) = ((λ q. o.1 (h.1 ∙ sym q)), (λ q. o.0 (h.0 ∙ sym q)))

  -- a node that comes later isn't one of the two
  born_other : (u v : ℕ) → t ≤ u → IsOther (Born u v)
  born_other u v le = other_than (Born u v)
      (apart x (fits.names x st.active.k st.active.i st.active.faces.first))
      (apart y (fits.names y st.active.l st.active.j st.active.faces.second))
    where
      apart : (x : NodeName) → IsPlaced z t x → Born u v ≢ x
      apart (Init n) h q = absurd (cc)
      apart (Born a b) h q = let d : u ≡ a = cc in omega (arith, h.0, d, le)

  live_then : (u : NodeName) → IsLive M u → (IsLive N u × IsOther u) ⊎ ((i : ℕ) × (u ≡ Born t i) × (i < births_of e))
  live_then u (m, n, h) = go u m n ((st.rewrites.nodes u m n).0 h)
    where
      go : (u : NodeName) (m : Kind) (n : ℕ) → Made u m n →
          (IsLive N u × IsOther u) ⊎ ((i : ℕ) × (u ≡ Born t i) × (i < births_of e))
      go u m n (left h a b) = inl ((m, n, h), other_than u a b)
      go u m n (of_f {q = q} j a b) = inr (
        q,
        refl,
        omega (arith, b, births_crossed (crosses (is_meeting e.rule) (index_after e.rule st.active.j) j a).0),
      )
      go u m n (of_g {p = p} j a b) = inr (
        arity st.active.l + p,
        refl,
        omega (arith, b, births_crossed (crosses (is_meeting e.rule) (index_after e.rule st.active.j) n a).0),
      )

  left_live : (u : NodeName) → IsLive N u → IsOther u → IsLive M u
  left_live u h o = let d = than_other u o in (h.0, h.1, (st.rewrites.nodes u h.0 h.1).1 (left h.2 d.0 d.1))

  born_live : (i : ℕ) → i < births_of e → IsLive M (Born t i)
  born_live i lt = go (is_meeting e.rule) refl
    where
      go : (b : Bool) → b ≡ is_meeting e.rule → IsLive M (Born t i)
      go true h = absurd (omega (arith, lt, births_met (sym h)))
      go false h =
          let act : action_of e.rule st.active.j ≡ crossing (index_after e.rule st.active.j) = ap
          (λ b. if b then meeting else crossing (index_after e.rule st.active.j)) (sym h) in
          elim (cases_lt i (arity st.active.l)) [
            | inl a ↦ (
              st.active.k,
              st.active.i,
              (st.rewrites.nodes (Born t i) st.active.k st.active.i).1 (of_f (index_after e.rule st.active.j) act a),
            )
            | inr a ↦
                let p : ℕ = i - arity st.active.l in
                let q : arity st.active.l + p ≡ i = omega (arith, a) in
                let b : p < arity st.active.k = omega (arith, lt, births_crossed (sym h), a) in
                subst (λ i. IsLive M (Born t i)) q (
                  st.active.l,
                  index_after e.rule st.active.j,
                  (st.rewrites.nodes (Born t (arity st.active.l + p)) st.active.l
                      (index_after e.rule st.active.j)).1 (of_g (index_after e.rule st.active.j) act b),
                )
          ]

-- an event from ticket t on makes it
abbrev pub IsMadeFrom : ℕ → List Event → NodeName → Type 0
IsMadeFrom t es (Init n) = ⊥
IsMadeFrom t es (Born u i) = (d : ℕ) × (e : Event) × (slice_get es d ≡ Some e) × (u ≡ t + d) × (i < births_of e)

-- no event rewrites it
abbrev pub IsLeft : Parts → List Event → NodeName → Type 0
IsLeft z es x = (d : ℕ) (e : Event) → slice_get es d ≡ Some e → ((entry_of z e).first ≢ x) × ((entry_of z e).second ≢ x)

first_made : (t : ℕ) (e : Event) (es : List Event) (i : ℕ) → i < births_of e → IsMadeFrom t (e ∷ es) (Born t i)
first_made t e es i lt = (0, e, refl, omega arith, lt)

next_made : (t : ℕ) (e : Event) (es : List Event) (x : NodeName) → IsMadeFrom (suc t) es x → IsMadeFrom t (e ∷ es) x
next_made t e es (Init n) h = h
next_made t e es (Born u i) h = (suc h.0, h.1, h.2, omega (arith, h.3), h.4)

this_event : (e d : Event) (es : List Event) → slice_get (e ∷ es) 0 ≡ Some d → e ≡ d
this_event e d es h = cc

made_cases : (t : ℕ) (e : Event) (es : List Event) (x : NodeName) → IsMadeFrom t (e ∷ es) x →
    ((i : ℕ) × (x ≡ Born t i) × (i < births_of e)) ⊎ IsMadeFrom (suc t) es x
made_cases t e es (Init n) h = absurd h
made_cases t e es (Born u i) (zero, d, at, q, lt) = let s : t + 0 ≡ t = omega arith in
    inl (i, ap (λ u. Born u i) (q ∙ s), omega (arith, lt, ap births_of (this_event e d es at)))
made_cases t e es (Born u i) (suc n, d, at, q, lt) = inr (n, d, at, omega (arith, q), lt)

-- one event more in front; X says that the node is there at the end
live_on : (z : Parts) (few : z.fuel ≤ 8000000) (N K : NamedNet NodeName) (t : ℕ) (e : Event)
    (es : List Event) (x y : NodeName) (st : IsStep (λ place. Born t place) N x y e.rule K)
    → e.f ≡ node_ref st.active.k st.active.i (place_of z x) →
    e.g ≡ node_ref st.active.l st.active.j (place_of z y) → Fits z N t → t < z.fuel → (X : Type 0) (u : NodeName)
    → X ↔ ((IsLive K u ⊎ IsMadeFrom (suc t) es u) × IsLeft z es u) →
    X ↔ ((IsLive N u ⊎ IsMadeFrom t (e ∷ es) u) × IsLeft z (e ∷ es) u)
live_on z few N K t e es x y st ef eg fits drawn X u ih = (
  (λ h. let a = ih.0 h in there a.0 a.1),
  (λ h. ih.1 (back h.0 h.1, (λ d. h.1 (suc d)))),
)
  where
    with_first : ((entry_of z e).first ≢ u) × ((entry_of z e).second ≢ u) → IsLeft z es u → IsLeft z (e ∷ es) u
    with_first o h zero d at = subst (λ (d : Event). ((entry_of z d).first ≢ u)
        × ((entry_of z d).second ≢ u)) (this_event e d es at) o
    with_first o h (suc n) d at = h n d at

    later_other : (u : NodeName) → IsMadeFrom (suc t) es u → ((entry_of z e).first ≢ u) × ((entry_of z e).second ≢ u)
    later_other (Init n) h = absurd h
    later_other (Born a i) h = born_other z few N K t e x y st ef eg fits drawn a i (omega (arith, h.3))

    there : IsLive K u ⊎ IsMadeFrom (suc t) es u → IsLeft z es u →
        (IsLive N u ⊎ IsMadeFrom t (e ∷ es) u) × IsLeft z (e ∷ es) u
    there (inr m) l = (inr (next_made t e es u m), with_first (later_other u m) l)
    there (inl h) l = go (live_then z few N K t e x y st ef eg fits drawn u h)
      where
        go : (IsLive N u × (((entry_of z e).first ≢ u) × ((entry_of z e).second ≢ u)))
            ⊎ ((i : ℕ) × (u ≡ Born t i) × (i < births_of e)) →
            (IsLive N u ⊎ IsMadeFrom t (e ∷ es) u) × IsLeft z (e ∷ es) u
        go (inl a) = (inl a.0, with_first a.1 l)
        go (inr a) = (
          inr (subst (λ u. IsMadeFrom t (e ∷ es) u) (sym a.1) (first_made t e es a.0 a.2)),
          with_first (subst (λ u. ((entry_of z e).first ≢ u) × ((entry_of z e).second ≢ u))
              (sym a.1) (born_other z few N K t e x y st ef eg fits drawn t a.0 (omega arith))) l,
        )

    back : IsLive N u ⊎ IsMadeFrom t (e ∷ es) u → IsLeft z (e ∷ es) u → IsLive K u ⊎ IsMadeFrom (suc t) es u
    back (inl h) l = inl (left_live z few N K t e x y st ef eg fits drawn u h (l 0 e refl))
    back (inr m) l = go (made_cases t e es u m)
      where
        go : ((i : ℕ) × (u ≡ Born t i) × (i < births_of e)) ⊎ IsMadeFrom (suc t) es u →
            IsLive K u ⊎ IsMadeFrom (suc t) es u
        go (inl a) = inl (subst (λ u. IsLive K u) (sym a.1) (born_live z few N K t e x y st ef eg fits drawn a.0 a.2))
        go (inr a) = inr a

module _ (z : Parts) (few : z.fuel ≤ 8000000) where
  pub live_after : (N M : NamedNet NodeName) (t : ℕ) (es : List Event) → Fits z N t →
      t + length es ≤ z.fuel → IsPlayed z N t es M → (u : NodeName) →
      IsLive M u ↔ ((IsLive N u ⊎ IsMadeFrom t es u) × IsLeft z es u)
  live_after N M t [] fits room IsPlayed.end u = ((λ h. (inl h, (λ d e at. absurd (cc)))), (λ h. go u h.0))
    where
      go : (u : NodeName) → IsLive N u ⊎ IsMadeFrom t [] u → IsLive N u
      go u (inl h) = h
      go (Init n) (inr h) = absurd h
      go (Born a i) (inr h) = let at = h.2 in absurd (cc)
  live_after N M t (e ∷ es) fits room (IsPlayed.then {M = K} x y st ef eg rest) u =
      let drawn : t < z.fuel = omega (arith, room) in
      live_on z few N K t e es x y st ef eg fits drawn (IsLive M u) u
      (live_after K M (suc t) es (fits_after z few N K t e x y st ef eg fits drawn) (omega (arith, room)) rest u)
