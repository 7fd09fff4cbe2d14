-- Routes of a term's net are told by what is read along them.
use Rattle.std.proofs.Common.{◌≡◌, ℕ, ◌∷◌, ap, ◌∙◌, subst}
use Rattle.ol_net.specs.Nets.{slot}
use Rattle.ol_law_optimality.specs.Routes.{Row, Route, HasRoute}
use Rattle.ol_law_meaning.proofs.Followed.{net}
use Rattle.ol_term.specs.Trees.{Tree}
use Rattle.ol_term.specs.declared.translations.Translation.{Translation}
use Rattle.ol_translate.specs.Names.{HasNames}
use Rattle.ol_translate.specs.Translation.{translation_of}
use Rattle.ol_law_optimality.specs.Readings.{AreAlike}
use Rattle.ol_law_optimality.specs.Signs.{letter_of, Signs, onward, Signed}
use Rattle.ol_law_optimality.specs.Families.{SignsTellRoutes}
use Rattle.ol_law_optimality.proofs.Facing.{term_faces}
use Rattle.ol_law_optimality.proofs.Phases.{HaveLetters, rows_told}
use Rattle.ol_law_optimality.proofs.Rows.{one_end}

pub routes_told : (τ : Translation) (t : Tree) (names : ℕ) → HasNames t names →
    (letter : ℕ → ℕ → ℕ) → HaveLetters (translation_of τ t names) letter → (s u : Route ℕ) →
    HasRoute (translation_of τ t names) s → HasRoute (translation_of τ t names) u → (a b : Signs) →
    Signed (translation_of τ t names) letter s.row a → Signed (translation_of τ t names) letter u.row b →
    AreAlike (onward (letter_of (letter s.from 0)) ∷ a) (onward (letter_of (letter u.from 0)) ∷ b) → s ≡ u
routes_told τ t names h letter atoms s u S U a b x y same =
    let N = translation_of τ t names in
    let n = net τ t names h in
    let e = rows_told N letter n atoms (term_faces τ t names h) s.from u.from s.to u.to s.row u.row a b
    (S.i, S.application) (U.i, U.application) (S.j, S.abstraction) (U.j, U.abstraction) S.row U.row x y same in
    let R = subst (λ r. Row N (slot u.from 0) r (slot s.to 0)) e.1
    (subst (λ x. Row N (slot x 0) s.row (slot s.to 0)) e.0 S.row) in
    let q : slot s.to 0 ≡ slot u.to 0 = one_end N n R U.row in
    let to : s.to ≡ u.to = cc in
    ap (λ x. record { from = x; row = s.row; to = s.to }) e.0
    ∙ ap (λ w. record { from = u.from; row = w; to = s.to }) e.1
    ∙ ap (λ y. record { from = u.from; row = u.row; to = y }) to

pub signs_tell_routes : SignsTellRoutes
signs_tell_routes τ t names h letter atoms s u S U a b x y same =
    routes_told τ t names h letter (λ x y s r i j e. atoms x y s r e) s u S U a b x y same
