-- What is open, one more or one less.
use Rattle.std.proofs.Common.{◌≡◌, ℕ, List, [], ◌∷◌, ◌++◌, drop, length, refl}
use Rattle.ol_steps.specs.Sights.{Frame}
use Rattle.ol_steps.specs.SeenTokens.{frame_in, frames_onto, frames_in}
use Rattle.ol_steps.specs.declared.tokens.Round.{Round}

onto_push : (rs : List Round) (r : Round) (fs : List Frame) →
    frames_onto (rs ++ r ∷ []) fs ≡ frame_in r ∷ frames_onto rs fs
onto_push [] r fs = refl
onto_push (q ∷ rs) r fs = onto_push rs r (frame_in q ∷ fs)

pub frames_push : (rs : List Round) (r : Round) → frames_in (rs ++ r ∷ []) ≡ frame_in r ∷ frames_in rs
frames_push rs r = onto_push rs r []

pub drop_all : (xs : List ℕ) → drop (length xs) xs ≡ []
drop_all [] = refl
drop_all (x ∷ xs) = drop_all xs
