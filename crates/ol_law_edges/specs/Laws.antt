-- The laws of contraction.
use Rattle.std.specs.Prelude.{◌≢◌, ◌↔◌, List, Bool}
use Rattle.ol_law_edges.specs.Edges.{IsTest, IsIn, Ready, Near, contract_all, Joined, EdgeOf}

-- Vertices can be taken out in any order: where each that goes has two ends of edges or none, and each other has one at
-- most.
abbrev pub ContractAnyOrder : Type 0 → Type 0
ContractAnyOrder V =
    (same : V → V → Bool) → IsTest same → (ps qs : List V) (es : List (V × V)) →
    ((p : V) → IsIn p ps ↔ IsIn p qs) → Ready same ps es →
    (u v : V) → Near (contract_all same ps es) u v ↔ Near (contract_all same qs es) u v

-- And what is left is what was joined by way of them.
abbrev pub ContractJoins : Type 0 → Type 0
ContractJoins V = (same : V → V → Bool) → IsTest same → (ps : List V) (es : List (V × V)) → Ready same ps es →
    (u v : V) → Near (contract_all same ps es) u v ↔ (u ≢ v) × ¬ (IsIn u ps) × ¬ (IsIn v ps) × Joined (EdgeOf es) u v
