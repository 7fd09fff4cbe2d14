-- The edges that a ticket takes away and puts in, and what has to hold of them.
-- Used in Degrees, InWords, Links, Steps and Ticket.
use Rattle.std.proofs.Common.{◌≡◌, ℕ, ◌+◌, ◌<◌, ◌≤◌, Bool, true, List, [], ◌∷◌, ◌++◌, Option, Some}
use Rattle.std.proofs.Common.{None, ◌⊎◌, inl, inr, refl}
use Rattle.ol_net.specs.declared.parts.Kind.{Kind}
use Rattle.ol_net.specs.declared.parts.Rule.{Rule}
use Rattle.ol_net.specs.Nets.{NamedNet, HasNode, IsNet, Faces}
use Rattle.ol_net.specs.Parts.{arity}
use Rattle.ol_net.specs.Rules.{rule_of}
use Rattle.ol_rules.specs.declared.journal.NodeName.{NodeName}
use Rattle.ol_rules.specs.declared.journal.NodeName.TheVariants.{Born}
use Rattle.ol_rules.specs.Rewriting.{IsStep}
use Rattle.ol_rules.specs.Listed.{each}
use Rattle.ol_wire.specs.declared.layout.Parts.{Parts}
use Rattle.ol_wire.specs.References.{node_ref, slot_ref, IsRef}
use Rattle.ol_wire.specs.Layout.{start_wire, block, place_of, born_wire, IsPlaced}
use Rattle.ol_wire.specs.Events.{Event, rule_between, event_of, acting}
use Rattle.ol_wire.specs.Blocks.{copies_of_f, copies_of_g, born_field}
use Rattle.ol_wire.specs.LinkLists.{links_of}
use Rattle.ol_wire.specs.Edges.{edge_to, links_in}
use Rattle.ol_wire.specs.Stands.{StandsForNet}
use Rattle.ol_wire.proofs.InWords.Alike.{Alike}

-- the edges of the fields of a node: slot s + 1 to `held s`
abbrev pub field_edges : ℕ → ℕ → (ℕ → ℕ) → List (ℕ × ℕ)
field_edges place n held = each n (λ s. (slot_ref (place + s), held s) ∷ [])

-- the pair of f and g with the edges of their fields
abbrev pub old_edges : ℕ → ℕ → ℕ → ℕ → ℕ → ℕ → (ℕ → ℕ) → (ℕ → ℕ) → List (ℕ × ℕ)
old_edges f g pf pg m n a b = (f, g) ∷ (field_edges pf m a ++ field_edges pg n b)

-- the fields of the four places of a block
abbrev pub born_edges : Parts → Event → ℕ → List (ℕ × ℕ)
born_edges z e t = each 4 (λ i. each 2 (λ s. edge_to (slot_ref (place_of z (Born t i) + s)) (born_field z e t i s)))

-- the links of the ticket, and the fields that it fills
abbrev pub new_edges : Parts → Event → ℕ → (ℕ → ℕ) → (ℕ → ℕ) → List (ℕ × ℕ)
new_edges z e t a b = links_in (links_of z e t a b) ++ born_edges z e t

-- Before: N stands in the edges `es`, and x, which acts, faces y by rule r. M is the net after
-- ticket t, and `fs` are the edges then: those of the
-- pair and of its fields are gone, and those of the ticket have come.
pub record Rewritten (z : Parts) (N M : NamedNet NodeName) (x y : NodeName) (k l : Kind) (i j t : ℕ)
    (r : Rule) (a b : ℕ → ℕ) (es fs rest : List (ℕ × ℕ)) (reached reached' : ℕ → Bool) : Type 0 where
  pub is_net : IsNet N
  pub faces : Faces N x y k i l j
  pub fits : rule_of k i l j ≡ Some r
  pub step : IsStep (λ place. Born t place) N x y r M
  pub ports : N.free_ports ≡ z.free
  pub names : (u : NodeName) (m : Kind) (n : ℕ) → HasNode N u m n → IsPlaced z t u
  pub indexes : (u : NodeName) (m : Kind) (n : ℕ) → HasNode N u m n → n < 16000000
  pub drawn : t < z.fuel
  pub before : StandsForNet z N reached es
  pub from : Alike es (old_edges (node_ref k i (place_of z x)) (node_ref l j (place_of z y))
      (place_of z x) (place_of z y) (arity k) (arity l) a b ++ rest)
  pub to : Alike fs (new_edges z (record {
    rule = r;
    f = node_ref k i (place_of z x);
    g = node_ref l j (place_of z y);
  }) t a b ++ rest)
  pub a_refs : (s : ℕ) → s < arity k → IsRef (a s)
  pub b_refs : (s : ℕ) → s < arity l → IsRef (b s)
  -- the wires that were reached before have their words behind the free ports and before the block;
  -- those of the ticket come
  pub old_wires : (w : ℕ) → reached w ≡ true → (start_wire z 0 ≤ w) × (w < block z t)
  pub still : (w : ℕ) → reached w ≡ true → reached' w ≡ true
  pub come : (q p : ℕ) → q < copies_of_f
      (record { rule = r; f = node_ref k i (place_of z x); g = node_ref l j (place_of z y) }) →
      p < copies_of_g (record {
        rule = r;
        f = node_ref k i (place_of z x);
        g = node_ref l j (place_of z y);
      }) → reached' (born_wire z t q p) ≡ true
  pub only : (w : ℕ) → reached' w ≡ true →
      (reached w ≡ true) ⊎ ((q : ℕ) × (p : ℕ)
      × (q < copies_of_f (record {
        rule = r;
        f = node_ref k i (place_of z x);
        g = node_ref l j (place_of z y);
      })) ×
      (p < copies_of_g (record {
        rule = r;
        f = node_ref k i (place_of z x);
        g = node_ref l j (place_of z y);
      })) × (w ≡ born_wire z t q p))

-- the two nodes of an event, in one order or the other
pub event_sides : (a b : ℕ) → (((event_of a b).f ≡ a) × ((event_of a b).g ≡ b))
    ⊎ (((event_of a b).f ≡ b) × ((event_of a b).g ≡ a))
event_sides a b = of (rule_between a b) (rule_between b a)
  where
    of : (q r : Option Rule) → (((acting q r a b).f ≡ a) × ((acting q r a b).g ≡ b))
        ⊎ (((acting q r a b).f ≡ b) × ((acting q r a b).g ≡ a))
    of (Some q) r = inl (refl, refl)
    of None (Some r) = inr (refl, refl)
    of None None = inl (refl, refl)
