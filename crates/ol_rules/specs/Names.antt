-- Names of nodes in a journal, and their order.
use Rattle.std.specs.Prelude.{◌≡◌, Bool, true, false, ◌&&◌, ◌||◌, nat_lt, nat_eq, ◌⊎◌}
use Rattle.ol_rules.specs.declared.journal.NodeName.{NodeName}
use Rattle.ol_rules.specs.declared.journal.NodeName.TheVariants.{Init, Born}
use Rattle.ol_rules.specs.declared.journal.Entry.{Entry}

-- start nodes come first, by number; then born ones, by ticket and then by place
abbrev pub comes_before : NodeName → NodeName → Bool
comes_before (Init m) (Init n) = nat_lt m n
comes_before (Init m) (Born t p) = true
comes_before (Born t p) (Init n) = false
comes_before (Born t p) (Born u q) = nat_lt t u || (nat_eq t u && nat_lt p q)

-- the entry names f and g, the smaller name first
pub record IsNamed (e : Entry) (f g : NodeName) : Type 0 where
  pub ordered : comes_before e.first e.second ≡ true
  pub pair : ((e.first ≡ f) × (e.second ≡ g)) ⊎ ((e.first ≡ g) × (e.second ≡ f))
