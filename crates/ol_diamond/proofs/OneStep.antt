-- Entries of the same names are of one rule, and a run along one entry more has a last step.
use Rattle.std.proofs.Common.{◌≡◌, ℕ, suc, ◌+◌, List, [], ◌∷◌, ◌++◌, length, ◌⊎◌, inl, inr, sym, subst, arith}
use Rattle.ol_net.specs.declared.parts.Rule.{Rule}
use Rattle.ol_net.specs.Pairs.{IsActive, IsInActive}
use Rattle.ol_net.specs.Nets.{NamedNet, IsNet, SameNet}
use Rattle.ol_rules.specs.declared.journal.NodeName.{NodeName}
use Rattle.ol_rules.specs.declared.journal.Entry.{Entry}
use Rattle.ol_rules.specs.Runs.{IsEntryStep, IsRun}
use Rattle.ol_rules.proofs.Relation.{same_sym}
use Rattle.ol_rules.proofs.Same.{active_same}
use Rattle.ol_diamond.proofs.Pairs.{one_rule}

-- entries of the same names are of one rule
pub one_entry_rule : (M N P Q : NamedNet NodeName) (t u : ℕ) (e e' : Entry) → IsNet M →
    SameNet M N → IsEntryStep M t e P → IsEntryStep N u e' Q → e.first ≡ e'.first → e.rule ≡ e'.rule
one_entry_rule M N P Q t u e e' n m s s' i = one_rule M n e.first e.rule e'.rule
    (has M s.f s.g e.rule e.first (s.step.active) (end s.f s.g e s.named.pair))
    (has M s'.f s'.g e'.rule e.first (active_same N M
    (same_sym M N m) s'.f s'.g e'.rule s'.step.active)
    (subst (λ x. (x ≡ s'.f) ⊎ (x ≡ s'.g)) (sym i) (end s'.f s'.g e' s'.named.pair)))
  where
    end : (f g : NodeName) (e : Entry) →
        ((e.first ≡ f) × (e.second ≡ g)) ⊎ ((e.first ≡ g) × (e.second ≡ f)) → (e.first ≡ f) ⊎ (e.first ≡ g)
    end f g e (inl h) = inl h.0
    end f g e (inr h) = inr h.0

    has : (M : NamedNet NodeName) (f g : NodeName) (r : Rule) (x : NodeName) → IsActive M f g r →
        (x ≡ f) ⊎ (x ≡ g) → IsInActive M x r
    has M f g r x a (inl q) = (g, inl (subst (λ x. IsActive M x g r) (sym q) a))
    has M f g r x a (inr q) = (f, inr (subst (λ x. IsActive M f x r) (sym q) a))

-- a run that goes on by one entry
pub record LastStep (N : NamedNet NodeName) (t : ℕ) (es : List Entry) (e : Entry) (P : NamedNet NodeName) : Type 0 where
  pub before : NamedNet NodeName
  pub run : IsRun N t es before
  pub step : IsEntryStep before (t + length es) e P

pub last_step : (N P : NamedNet NodeName) (t : ℕ) (es : List Entry) (e : Entry) →
    IsRun N t (es ++ e ∷ []) P → LastStep N t es e P
last_step N P t [] e (IsRun.then s r) = record { before = N; run = IsRun.end; step = at t (ended r s) }
  where
    ended : {K : NamedNet NodeName} → IsRun K (suc t) [] P → IsEntryStep N t e K → IsEntryStep N t e P
    ended IsRun.end s = s

    at : (t : ℕ) → IsEntryStep N t e P → IsEntryStep N (t + 0) e P
    at t s = let q : t ≡ t + 0 = omega arith in subst (λ t. IsEntryStep N t e P) q s
last_step N P t (d ∷ es) e (IsRun.then {M = K} s r) =
    let h = last_step K P (suc t) es e r in
    let q : suc t + length es ≡ t + suc (length es) = omega arith in
    record { before = h.before; run = IsRun.then s h.run; step = subst (λ u. IsEntryStep h.before u e P) q h.step }
