-- The lines of a road, address by address.
use Rattle.std.proofs.Common.{◌≡◌, ℕ, zero, suc, List, [], ◌∷◌, ◌++◌, append_assoc, take, Some, sym, ap, ◌∙◌}
use Rattle.std.proofs.lemmas.List.{append-nil}
use Rattle.std.specs.Prelude.{slice_get}
use Rattle.ol_cli.specs.Texts.{line}
use Rattle.ol_beta.specs.AddressTexts.{address_text}
use Rattle.ol_cli.specs.Certify.{addresses_text}

-- one address more
pub addresses_on : (road : List (List ℕ)) (k : ℕ) (at : List ℕ) → slice_get road k ≡ Some at →
    addresses_text (take (suc k) road) ≡ addresses_text (take k road) ++ line (address_text at)
addresses_on [] k at h = absurd (cc)
addresses_on (x ∷ road) zero at h = let is : x ≡ at = cc in
    append-nil (line (address_text x)) ∙ ap (λ at. line (address_text at)) is
addresses_on (x ∷ road) (suc k) at h =
    ap (λ bs. line (address_text x) ++ bs) (addresses_on road k at h)
    ∙ sym (append_assoc (line (address_text x)) (addresses_text (take k road)) (line (address_text at)))
