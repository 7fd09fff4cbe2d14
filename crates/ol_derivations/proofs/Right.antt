-- If the answer is Yes, each term comes from the one before it.
use Rattle.std.proofs.Common.{◌≡◌, ℕ, Bool, true, false, List, [], ◌∷◌, Option, Some, None, refl, sym, ap, ◌∙◌, inl, inr}
use Rattle.std.proofs.lemmas.Bool.{and_parts}
use Rattle.std.specs.Prelude.{◌&&◌, ◌⊎◌, if◌then◌else◌}
use Rattle.ol_term.specs.Trees.{Tree}
use Rattle.ol_beta.specs.Beta.{contracted}
use Rattle.ol_subjects.specs.declared.answers.End.{End}
use Rattle.ol_subjects.specs.declared.answers.End.TheVariants.{Yes, No}
use Rattle.ol_derivations.specs.Lines.{lines_of, all_left_out}
use Rattle.ol_term.specs.NameLists.{with_names, in_table}
use Rattle.ol_derivations.specs.Verdicts.{IsVerdict, is_fine}
use Rattle.ol_derivations.specs.declared.judging.Verdict.{Verdict}
use Rattle.ol_derivations.specs.declared.judging.Verdict.TheVariants.{Step, Same, Steps, Apart, NoStep}
use Rattle.ol_derivations.specs.Derivations.{Terms, IsTold, first, behind, IsLine}
use Rattle.ol_derivations.specs.Derivations.{left_out, no_term, term, AreLines, none, more, IsDerivation, nothing, said}
use Rattle.ol_derivations.specs.DerivationLaws.{AreTerms, no_line, passed, one_more, IsRightBehind}

clash : false ≡ true → ⊥
clash h = absurd (cc)

-- terms are right behind the last one before them, where there is one
abbrev IsRight : Option (ℕ × Tree) → List Tree → Type 0
IsRight None [] = Unit {0}
IsRight None (t ∷ ts) = IsRightBehind t ts
IsRight (Some (m, s)) ts = IsRightBehind s ts

right_end : (last : Option (ℕ × Tree)) → IsRight last []
right_end None = tt
right_end (Some (m, s)) = tt

fine_step : (s t : Tree) (v : Verdict) → IsVerdict s t v → is_fine v ≡ true →
    ((at : List ℕ) × (contracted s at ≡ Some t)) ⊎ (s ≡ t)
fine_step s t (Step at leftmost) is f = inl (at.items, is.0.0)
fine_step s t Same is f = inr is.1
fine_step s t (Steps k) is f = absurd (clash f)
fine_step s t Apart is f = absurd (clash f)
fine_step s t NoStep is f = absurd (clash f)

right_told : {n : ℕ} {t : Tree} {last : Option (ℕ × Tree)} {told : List ℕ} {fine : Bool} (ts : List Tree) →
    IsTold n t last told fine → fine ≡ true → IsRightBehind t ts → IsRight last (t ∷ ts)
right_told ts first f right = right
right_told {t = t} ts (behind {s = s} v is) f right = (fine_step s t v is f, right)

-- the terms of some lines, which are right behind these terms
abbrev HasTerms : Terms → List (List ℕ) → Type 0
HasTerms terms lines = (ts : List Tree) × AreTerms terms.table lines ts × IsRight terms.last ts

right_line : {n : ℕ} {line : List ℕ} {terms after : Terms} {told : List ℕ} {fine : Bool} (lines : List (List ℕ)) →
    IsLine n line terms after told fine → fine ≡ true → HasTerms after lines → HasTerms terms (line ∷ lines)
right_line lines (left_out out) f h = (h.0, passed out h.1, h.2)
right_line lines (no_term out why) f h = absurd (clash f)
right_line {terms = terms} lines (term {t = t} {names = names} out is told) f h =
    let u = in_table (with_names terms.table names) names t in
    (u ∷ h.0, one_more out is h.1, right_told h.0 told f h.2)

right : {n : ℕ} {terms : Terms} {lines : List (List ℕ)} {text : List ℕ} {fine : Bool} →
    AreLines n terms lines text fine → fine ≡ true → HasTerms terms lines
right {terms = terms} none f = ([], no_line, right_end terms.last)
right (more {fine = fine} {all = all} {lines = lines} is rest) f =
    let b = and_parts fine all f in right_line lines is b.0 (right rest b.1)

-- lines that aren't all left out have a term
some_term : {table lines : List (List ℕ)} {ts : List Tree} → AreTerms table lines ts → all_left_out lines ≡ false →
    (t : Tree) × (us : List Tree) × (ts ≡ t ∷ us)
some_term no_line h = absurd (clash (sym h))
some_term (passed {line = line} {lines = lines} out are) h = some_term are (sym (ap (λ b. b && all_left_out lines) out) ∙ h)
some_term (one_more {table = table} {t = t} {names = names} {ts = ts} out is are) h =
    (in_table (with_names table names) names t, ts, refl)

yes_fine : (fine : Bool) (e : End) → e ≡ (if fine then Yes else No) → e ≡ Yes → fine ≡ true
yes_fine true e d h = refl
yes_fine false e d h = absurd (cc)

whole : (lines : List (List ℕ)) (ts : List Tree) → AreTerms [] lines ts → IsRight None ts → all_left_out lines ≡ false →
    (t : Tree) × (us : List Tree) × AreTerms [] lines (t ∷ us) × IsRightBehind t us
whole lines [] are is h = let s = some_term are h in absurd (cc (s.2))
whole lines (t ∷ ts) are is h = (t, ts, are, is)

at_yes : {bytes text : List ℕ} {e : End} → IsDerivation bytes text e → e ≡ Yes →
    (t : Tree) × (ts : List Tree) × AreTerms [] (lines_of bytes) (t ∷ ts) × IsRightBehind t ts
at_yes (nothing h) d = absurd (cc)
at_yes {bytes = bytes} (said {fine = fine} h are) d =
    let r = right are (yes_fine fine (if fine then Yes else No) refl d) in
    whole (lines_of bytes) r.0 r.1 r.2 h

pub yes_is_right : (bytes text : List ℕ) → IsDerivation bytes text Yes →
    (t : Tree) × (ts : List Tree) × AreTerms [] (lines_of bytes) (t ∷ ts) × IsRightBehind t ts
yes_is_right bytes text is = at_yes is refl
