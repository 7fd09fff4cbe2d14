-- Names among some names.
use Rattle.std.proofs.Common.{◌≡◌, ℕ, Bool, true, false, ◌||◌, List, [], ◌∷◌, ◌++◌, refl, ap, ◌∙◌}
use Rattle.std.specs.Str.{bytes_eq}
use Rattle.ol_term.specs.BinderNames.{is_among}

pub grouped : (p q r : Bool) → (p || (q || r)) ≡ ((p || q) || r)
grouped true q r = refl
grouped false q r = refl

pub among_both : (a b : List (List ℕ)) (x : List ℕ) → is_among (a ++ b) x ≡ (is_among a x || is_among b x)
among_both [] b x = refl
among_both (n ∷ a) b x =
    ap (λ (r : Bool). bytes_eq n x || r) (among_both a b x)
    ∙ grouped (bytes_eq n x) (is_among a x) (is_among b x)
