-- What a ticket is drawn for: the pair that it rewrites, by its references, and the entry that the journal has for it.
use Rattle.std.specs.Prelude.{◌≡◌, ℕ, suc, nat_lt, if◌then◌else◌, List, [], ◌∷◌, Option, Some, None}
use Rattle.ol_net.specs.declared.parts.Rule.{Rule}
use Rattle.ol_net.specs.declared.parts.Rule.TheVariants as rule
use Rattle.ol_net.specs.Nets.{NamedNet}
use Rattle.ol_net.specs.Rules.{rule_of}
use Rattle.ol_rules.specs.declared.journal.NodeName.{NodeName}
use Rattle.ol_rules.specs.declared.journal.NodeName.TheVariants.{Init, Born}
use Rattle.ol_rules.specs.declared.journal.Entry.{Entry}
use Rattle.ol_rules.specs.Rewriting.{IsStep}
use Rattle.ol_wire.specs.declared.layout.Parts.{Parts}
use Rattle.ol_wire.specs.References.{node_ref, kind_in, index_in, place_in}
use Rattle.ol_wire.specs.Layout.{WordPart, field, part_of_word, place_of}

-- the reference of the node that acts comes first
pub record Event : Type 0 where
  pub rule : Rule
  pub f : ℕ
  pub g : ℕ

-- the rule of two nodes, the first of which acts
abbrev pub rule_between : ℕ → ℕ → Option Rule
rule_between f g = rule_of (kind_in f) (index_in f) (kind_in g) (index_in g)

-- the node whose first field has that place
abbrev pub name_in_part : WordPart → NodeName
name_in_part (field x s) = x
name_in_part other = Init 0

abbrev pub name_at : Parts → ℕ → NodeName
name_at z place = name_in_part (part_of_word z place)

-- of two references, that of the smaller place and that of the greater one
abbrev pub earlier : ℕ → ℕ → ℕ
earlier f g = if nat_lt (place_in f) (place_in g) then f else g

abbrev pub later : ℕ → ℕ → ℕ
later f g = if nat_lt (place_in f) (place_in g) then g else f

-- places have the order of names
abbrev pub entry_of : Parts → Event → Entry
entry_of z e = record {
  rule = e.rule;
  first = name_at z (place_in (earlier e.f e.g));
  second = name_at z (place_in (later e.f e.g));
}

-- what two nodes that face each other are rewritten by, whichever of them acts; for a stuck pair it has no meaning
abbrev pub acting : Option Rule → Option Rule → ℕ → ℕ → Event
acting (Some r) other left right = record { rule = r; f = left; g = right }
acting None (Some r) left right = record { rule = r; f = right; g = left }
acting None None left right = record { rule = rule.Erase; f = left; g = right }

abbrev pub event_of : ℕ → ℕ → Event
event_of left right = acting (rule_between left right) (rule_between right left) left right

-- two nodes that have no rule, whichever of them acts
abbrev pub IsStuckPair : ℕ → ℕ → Type 0
IsStuckPair left right = (rule_between left right ≡ None) × (rule_between right left ≡ None)

-- M is N after these events in order, the first of which has this ticket. The references are those of the two nodes.
pub data IsPlayed (z : Parts) : NamedNet NodeName → ℕ → List Event → NamedNet NodeName → Type 0 where
  end : {N : NamedNet NodeName} {t : ℕ} → IsPlayed z N t [] N
  then : {N M P : NamedNet NodeName} {t : ℕ} {e : Event} {es : List Event} (x y : NodeName)
      (step : IsStep (λ place. Born t place) N x y e.rule M)
      → e.f ≡ node_ref step.active.k step.active.i (place_of z x)
      → e.g ≡ node_ref step.active.l step.active.j (place_of z y) → IsPlayed z M (suc t) es P
      → IsPlayed z N t (e ∷ es) P
