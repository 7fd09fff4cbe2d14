-- When a refusal comes.
use Rattle.std.proofs.Common.{◌≡◌, true, length, ◌≢◌, ◌<◌, ◌≤◌, ◌↔◌, ℕ, Result, Ok, Err, refl, arith}
use Rattle.ol_term.specs.declared.term_file.TermFile.{TermFile}
use Rattle.ol_term.specs.Trees.{tree_of, has_name}
use Rattle.ol_translate.specs.Names.{HasNames}
use Rattle.ol_translate.specs.declared.faults.TransFault.{TransFault}
use Rattle.ol_translate.specs.declared.faults.TransFault.TheVariants.{TooMany, NoMemory}

pub refused_where : {A : Type 0} (r : Result A TransFault) (e : TransFault) (most size : ℕ) →
    r ≡ Err e → (e ≡ TooMany → most < size)
    → r ≢ Err NoMemory → (r ≡ Err TooMany) ↔ (most < size)
refused_where r TooMany most size is h ne = (λ e. h refl, λ few. is)
refused_where r NoMemory most size is h ne = absurd (ne is)

pub given_where : {A : Type 0} (r : Result A TransFault) (a : A) (most size : ℕ) → r ≡ Ok a →
    size ≤ most → (r ≡ Err TooMany) ↔ (most < size)
given_where r a most size is fits = (λ e. absurd (cc), λ many. absurd (omega arith))

-- a file's variables are bound and its names below their number, so each name is all that is asked
pub names_of : (file : TermFile) → ((k : ℕ) → k < length file.names →
    has_name k (tree_of file.term) ≡ true) → HasNames (tree_of file.term) (length file.names)
names_of file each = record { bound = file.bound; named = file.named; each = each }
