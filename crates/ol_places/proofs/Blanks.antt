-- Blanks below a piece of a line, byte by byte.
use Rattle.std.proofs.Common.{◌≡◌, ℕ, zero, suc, ◌<◌, List, [], ◌∷◌, ◌++◌, append_assoc, length}
use Rattle.std.proofs.Common.{take, sym, ap, ◌∙◌, arith}
use Rattle.std.proofs.lemmas.List.{append-nil}
use Rattle.std.specs.Prelude.{slice_index}
use Rattle.ol_places.specs.Places.{blank, blanks}

-- one byte more
pub blanks_on : (bytes : List ℕ) (k : ℕ) → k < length bytes →
    blanks (take (suc k) bytes) ≡ blanks (take k bytes) ++ blank (slice_index bytes k)
blanks_on [] k h = absurd (omega arith)
blanks_on (b ∷ bs) zero h = append-nil (blank b)
blanks_on (b ∷ bs) (suc k) h = ap (λ bs. blank b ++ bs) (blanks_on bs k (omega arith))
    ∙ sym (append_assoc (blank b) (blanks (take k bs)) (blank (slice_index bs k)))
