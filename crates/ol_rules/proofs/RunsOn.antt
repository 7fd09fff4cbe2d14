-- A run that goes on.
use Rattle.std.proofs.Common.{◌≡◌, ℕ, suc, ◌+◌, List, [], ◌∷◌, ◌++◌, length, subst, arith}
use Rattle.ol_net.specs.Nets.{NamedNet}
use Rattle.ol_rules.specs.declared.journal.NodeName.{NodeName}
use Rattle.ol_rules.specs.declared.journal.Entry.{Entry}
use Rattle.ol_rules.specs.Runs.{IsEntryStep, IsRun}

-- by an entry
pub run_on : (N M P : NamedNet NodeName) (t u : ℕ) (es : List Entry) (e : Entry) → IsRun N t es M →
    u ≡ t + length es → IsEntryStep M u e P → IsRun N t (es ++ e ∷ []) P
run_on N M P t u [] e IsRun.end h s =
    let q : u ≡ t = omega arith in
    let S : ℕ → Type 0 = λ u. IsEntryStep N u e P in
    IsRun.then (subst S q s) IsRun.end
run_on N M P t u (d ∷ es) e (IsRun.then {M = K} s' r) h s = IsRun.then s'
    (run_on K M P (suc t) u es e r (omega arith) s)
