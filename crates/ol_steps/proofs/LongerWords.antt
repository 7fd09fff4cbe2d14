-- A word, one byte longer.
use Rattle.std.proofs.Common.{◌≡◌, ℕ, ◌+◌, ◌-◌, ◌<◌, ◌≤◌, List, [], ◌∷◌, ◌++◌, take, drop, length, slice_range, slice_index, ap, ◌∙◌, arith}
use Rattle.std.proofs.lemmas.List.{take_more, get_or-drop, length-drop}

pub word_more : (text : List ℕ) (from k : ℕ) → from ≤ k → k < length text →
    slice_range text from (k + 1) ≡ slice_range text from k ++ slice_index text k ∷ []
word_more text from k low high =
    let rest = drop from text in
    let long : length rest ≡ length text - from = length-drop from text in
    let one : k + 1 - from ≡ k - from + 1 = omega (arith, low) in
    let at : from + (k - from) ≡ k = omega (arith, low) in
    let inside : k - from < length rest = omega (arith, long, low, high) in
    ap (λ (n : ℕ). take n rest) one
    ∙ take_more rest (k - from) 0 inside
    ∙ ap (λ (b : ℕ). take (k - from) rest ++ b ∷ [])
    (get_or-drop from text (k - from) 0 ∙ ap (λ (n : ℕ). slice_index text n) at)
