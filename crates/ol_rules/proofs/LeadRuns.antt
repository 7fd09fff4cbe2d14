-- A run of leads is a run, and goes on by one.
use Rattle.std.proofs.Common.{◌≡◌, ℕ, suc, ◌+◌, List, [], ◌∷◌, ◌++◌, length, refl, sym, ap, ◌∙◌}
use Rattle.std.proofs.Common.{subst, arith, append-nil}
use Rattle.std.proofs.lemmas.List.{append_assoc}
use Rattle.ol_net.specs.Nets.{NamedNet}
use Rattle.ol_rules.specs.declared.journal.NodeName.{NodeName}
use Rattle.ol_rules.specs.declared.journal.Entry.{Entry}
use Rattle.ol_rules.specs.Runs.{IsEntryStep, IsLead, IsRun, IsLeadRun, end, then, names_born, names_made}
use Rattle.ol_rules.specs.Steps.{births}

pub as_run : (N M : NamedNet NodeName) (t : ℕ) (es : List Entry) → IsLeadRun N t es M → IsRun N t es M
as_run N M t [] IsLeadRun.end = IsRun.end
as_run N M t (e ∷ es) (IsLeadRun.then {M = K} lead s r) = IsRun.then s (as_run K M (suc t) es r)

-- a run of leads that made these nodes
abbrev pub Led : NamedNet NodeName → ℕ → List Entry → NamedNet NodeName → List NodeName → Type 0
Led N t es M made = (r : IsLeadRun N t es M) × (names_made r ≡ made)

-- an entry's step that made so many nodes
abbrev pub Stepped : NamedNet NodeName → ℕ → Entry → NamedNet NodeName → ℕ → Type 0
Stepped N t e M b = (s : IsEntryStep N t e M) × (births e.rule s.step.active.k s.step.active.l ≡ b)

-- one more lead
pub led_on : (N M P : NamedNet NodeName) (t u : ℕ) (es : List Entry) (e : Entry)
    (made : List NodeName) (b : ℕ) → (r : IsLeadRun N t es M) → names_made r ≡ made → IsLead M e →
    u ≡ t + length es → Stepped M u e P b →
    Led N t (es ++ e ∷ []) P (made ++ names_born u b)
led_on N M P t u [] e made b end q lead h s =
    let h' : u ≡ t = omega arith in
    let S : ℕ → Type 0 = λ u. Stepped N u e P b in
    let s' : Stepped N t e P b = subst S h' s in (
      then lead s'.0 end,
      append-nil _ ∙ ap (names_born t) s'.1 ∙ ap (λ u. names_born u b) (sym h')
          ∙ ap (λ ns. ns ++ names_born u b) q,
    )
led_on N M P t u (d ∷ es) e made b (then {M = K} lead' d' r) q lead h s =
    let i = led_on K M P (suc t) u es e (names_made r) b r refl lead (omega arith) s in
    let ns = names_born t (births d.rule d'.step.active.k d'.step.active.l) in (
      then lead' d' i.0,
      ap (λ ms. ns ++ ms) i.1
          ∙ sym (append_assoc ns (names_made r) (names_born u b)) ∙ ap (λ ms. ms ++ names_born u b) q,
    )
