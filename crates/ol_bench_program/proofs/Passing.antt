-- What passed through adapters of which no call was made before.
use Rattle.std.proofs.Common.{◌≡◌, ℕ, List, [], Option, Some, subst}
use Rattle.ol_subjects.specs.declared.answers.End.{End}
use Rattle.ol_bench.specs.declared.top.Status.{Status}
use Rattle.ol_bench.specs.Writing.{Change, WritesAnswer, first_change}

-- a change of a sink, by what it tells
abbrev change : (faults faults' : ℕ) (taken taken' : Option (List ℕ)) → Change
change faults faults' taken taken' =
    record { faults = faults; faults' = faults'; taken = taken; taken' = taken' }

pub first_answered : (Cause : ℕ → List ℕ → End → Type 0) (st : Status) (f w w' e e' : ℕ)
    (out out' said said' : Option (List ℕ)) → f ≡ 0 → w ≡ 0 → e ≡ 0 → out ≡ Some [] → said ≡ Some [] →
    WritesAnswer (Cause f) (change w w' out out') (change e e' said said') st →
    WritesAnswer (Cause 0) (first_change w' out') (first_change e' said') st
first_answered Cause st f w w' e e' out out' said said' no_fault none none' nothing nothing' h =
    subst (λ f. WritesAnswer (Cause f) (first_change w' out') (first_change e' said') st) no_fault
    (subst (λ w. WritesAnswer (Cause f) (change w w' (Some []) out') (first_change e' said') st) none
    (subst (λ e. WritesAnswer (Cause f) (change w w' (Some []) out') (change e e' (Some []) said') st) none'
    (subst (λ out. WritesAnswer (Cause f) (change w w' out out') (change e e' (Some []) said') st) nothing
    (subst (λ said. WritesAnswer (Cause f) (change w w' out out') (change e e' said said') st) nothing' h))))
