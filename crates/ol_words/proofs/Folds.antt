-- A fold over a list, one item more.
use Rattle.std.proofs.Common.{ℕ, ◌≡◌, ◌∙◌, ◌<◌, ◌+◌, ap, List, [], ◌∷◌, fold, get_or, length, take}
use Rattle.std.specs.Borrow.{Bor}
use Rattle.std.proofs.lemmas.List.{map_more, take_more}
use Rattle.std.proofs.lemmas.List.Sums.{fold-append}
use Rattle.clap.specs.Words.{App}
use Rattle.ol_words.specs.Texts.{Text}
use Rattle.ol_words.specs.Views.{texts}

pub fold_more : {X : Type 0} (f : App → X → App) (z : App) (xs : List X) (i : ℕ) (x : X) → i < length xs
    → fold f z (take (i + 1) xs) ≡ f (fold f z (take i xs)) (get_or xs i x)
fold_more f z xs i x below = ap (fold f z) (take_more xs i x below)
    ∙ fold-append f z (take i xs) (get_or xs i x ∷ [])

-- of the texts of a list
pub texts_more : (f : App → Text → App) (z : App) (xs : List (Bor Text)) (i : ℕ) (x : Bor Text) → i < length xs
    → fold f z (texts (take (i + 1) xs)) ≡ f (fold f z (texts (take i xs))) (get_or xs i x).now
texts_more f z xs i x below = ap (fold f z) (map_more (λ (r : Bor Text). r.now) xs i x below)
    ∙ fold-append f z (texts (take i xs)) ((get_or xs i x).now ∷ [])
