-- The text of the moves of an address, one by one.
-- Used in crates above.
use Rattle.std.proofs.Common.{◌≡◌, ℕ, zero, suc, List, [], ◌∷◌, ◌++◌, append_assoc, take, Some, sym, ap, ◌∙◌}
use Rattle.std.proofs.lemmas.List.{append-nil}
use Rattle.std.specs.Prelude.{slice_get}
use Rattle.std.specs.Fmt.{decimal}
use Rattle.std.specs.List.{flat_map}

-- one move more
pub moves_on : (ms : List ℕ) (k m : ℕ) → slice_get ms k ≡ Some m →
    flat_map decimal (take (suc k) ms) ≡ flat_map decimal (take k ms) ++ decimal m
moves_on [] k m h = absurd (cc)
moves_on (d ∷ ms) zero m h = let is : d ≡ m = cc in append-nil (decimal d) ∙ ap decimal is
moves_on (d ∷ ms) (suc k) m h = ap (λ bs. decimal d ++ bs) (moves_on ms k m h)
    ∙ sym (append_assoc (decimal d) (flat_map decimal (take k ms)) (decimal m))
