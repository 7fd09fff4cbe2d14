-- The line by which a text is refused.
use Rattle.std.proofs.Common.{◌≡◌, ℕ, List, Result, Err, refl, sym, subst}
use Rattle.std.specs.Prelude.{◌≢◌, ◌↔◌}
use Rattle.std.specs.Fmt.{digits}
use Rattle.ol_term.specs.declared.term_file.TermFile.{TermFile}
use Rattle.ol_parse.specs.Texts.{IsRefusedAt}
use Rattle.ol_parse.specs.Parsed.{IsTooDeep}
use Rattle.ol_parse.specs.declared.faults.ParseFault.{ParseFault}
use Rattle.ol_parse.specs.declared.faults.ParseFault.TheVariants.{NoMemory, Syntax, Depth}
use Rattle.ol_subjects.specs.declared.answers.End.TheVariants.{Refused}
use Rattle.ol_places.specs.Frees.{IsFree, syntax_at, deep}
use Rattle.ol_places.specs.Scans.{IsRefusal}

abbrev Failed : ParseFault → Result TermFile ParseFault
Failed fault = Err fault

pub refused : (bytes : List ℕ) (fault : ParseFault) (text : List ℕ) →
    (Failed fault ≢ Failed NoMemory → (at : ℕ) → (Failed fault ≡ Failed (Syntax at)) ↔ IsRefusedAt bytes at) →
    (Failed fault ≢ Failed NoMemory → (d : ℕ) → (Failed fault ≡ Failed (Depth d)) ↔ IsTooDeep bytes d) →
    IsRefusal fault text → IsFree bytes text Refused
unfolding digits
refused bytes NoMemory text syntax too_deep h = absurd h
refused bytes (Syntax at) text syntax too_deep h =
    subst (λ t. IsFree bytes t Refused) (sym h) (syntax_at ((syntax (λ e. absurd (cc)) at).0 refl))
refused bytes (Depth d) text syntax too_deep h =
    subst (λ t. IsFree bytes t Refused) (sym h) (deep ((too_deep (λ e. absurd (cc)) d).0 refl))
