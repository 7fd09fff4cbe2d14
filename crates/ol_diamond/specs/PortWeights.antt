-- What the ports of a graph weigh while a journal is replayed, by place.
use Rattle.std.specs.Prelude.{◌≡◌, ℕ, suc, max, Bool, false, if◌then◌else◌, ◌==◌, is_some, List, []}
use Rattle.std.specs.Prelude.{◌∷◌, ◌++◌, Option, None, Some, slice_set, slice_index_or}
use Rattle.ol_net.specs.declared.parts.Kind.{Kind}
use Rattle.ol_net.specs.declared.parts.NodeId.{NodeId}
use Rattle.ol_net.specs.declared.parts.Port.{Port}
use Rattle.ol_net.specs.declared.parts.Port.TheVariants.{Of}
use Rattle.ol_net.specs.declared.parts.Rule.{Rule}
use Rattle.ol_net.specs.Graph.{Graph, IsTabled, kind_at, place, partner_of}
use Rattle.ol_net.specs.Parts.{arity}
use Rattle.ol_net.specs.Rules.{rule_of}
use Rattle.ol_rules.specs.declared.journal.Entry.{Entry}
use Rattle.ol_rules.specs.Rewriting.{is_meeting}
use Rattle.ol_diamond.specs.Replaying.{RewritesNamed}

abbrev pub weight_at : ℕ → List ℕ → Port → ℕ
weight_at free weights p = slice_index_or weights (place free p) 0

-- the port weighs this at least
abbrev pub raised_if : ℕ → List ℕ → Option Port → ℕ → List ℕ
raised_if free weights None least = weights
raised_if free weights (Some p) least = slice_set weights (place free p) (max (weight_at free weights p) least)

-- the ports to which two slots are linked weigh as much as both, and as the wave
abbrev pub join_weight : ℕ → List ℕ → Port → Port → ℕ → ℕ
join_weight free weights a b wave = max wave (max (weight_at free weights a) (weight_at free weights b))

abbrev pub joined_weights : Graph → List ℕ → Port → Port → ℕ → List ℕ
joined_weights g weights a b wave =
    raised_if g.free (raised_if g.free weights (partner_of g a)
    (join_weight g.free weights a b wave)) (partner_of g b) (join_weight g.free weights a b wave)

-- A copy comes at this slot: its principal port weighs as much as the slot, and as the wave; its
-- other ports as the wave.
abbrev pub copied : ℕ → List ℕ → Port → ℕ → List ℕ
copied free weights p wave = weights ++ max wave (weight_at free weights p) ∷ wave ∷ wave ∷ []

-- copies at each slot of a node but the principal one, of which it has so many
abbrev pub copies_at : ℕ → List ℕ → NodeId → ℕ → ℕ → List ℕ
copies_at free weights n slots wave =
    if slots == 0 then weights else (if slots == 1 then copied free weights
    (Of n 1) wave else copied free (copied free weights (Of n 1) wave) (Of n 2) wave)

abbrev pub arity_of : Option (Kind × ℕ) → ℕ
arity_of None = 0
arity_of (Some k) = arity k.0

abbrev pub crossed_weights : Graph → List ℕ → NodeId → NodeId → ℕ → List ℕ
crossed_weights g weights f h wave =
    copies_at g.free (copies_at g.free weights h (arity_of (kind_at g.nodes h.0)) wave) f
    (arity_of (kind_at g.nodes f.0)) wave

abbrev pub acts_on : Option (Kind × ℕ) → Option (Kind × ℕ) → Bool
acts_on (Some k) (Some l) = is_some (rule_of k.0 k.1 l.0 l.1)
acts_on _ _ = false

-- what all ports weigh once the pair of a and b was rewritten by this rule in this wave
abbrev pub weights_after : Graph → List ℕ → NodeId → NodeId → Rule → ℕ → List ℕ
weights_after g weights a b rule wave =
    if is_meeting rule then joined_weights g (joined_weights g weights (Of a 1) (Of b 1) wave) (Of a 2) (Of b 2) wave
    else (if acts_on (kind_at g.nodes a.0)
    (kind_at g.nodes b.0) then crossed_weights g weights a b wave else crossed_weights g weights b a wave)

-- the pair of an entry was rewritten, in this wave
pub record WeighsEntry (old new : Graph) (bases bases' weights weights' : List ℕ) (e : Entry) (wave : ℕ) : Type 0 where
  pub tabled : IsTabled old.free old.nodes old.partners
  pub named : RewritesNamed old new bases bases' e.first e.second
  pub rule : named.rule ≡ e.rule
  pub wave_is : wave ≡ suc (max (weight_at old.free weights (Of (record { 0 = named.f }) 0))
      (weight_at old.free weights (Of (record { 0 = named.h }) 0)))
  pub weights_are : weights' ≡ weights_after old weights (record { 0 = named.f }) (record { 0 = named.h }) e.rule wave
