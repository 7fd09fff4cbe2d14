-- Things that stand in several places are compared by weight: two lists have the same members, each
-- as often, where they weigh the same by every h.
use Rattle.std.specs.Prelude.{◌≡◌, ℕ, zero, suc, ◌+◌, List, [], ◌∷◌, slice_index}

abbrev pub total : {A : Type 0} → (A → ℕ) → List A → ℕ
total f [] = 0
total f (x ∷ xs) = f x + total f xs

abbrev pub pairs : {A B : Type 0} → (A → B → ℕ) → List (A × B) → ℕ
pairs {A} {B} h xs = total (λ (x : A × B). h x.0 x.1) xs

-- the members of a list, each under its number, from k on
abbrev pub weighed_by_place : {A : Type 0} → (ℕ → A → ℕ) → ℕ → List A → ℕ
weighed_by_place h k [] = 0
weighed_by_place h k (x ∷ xs) = h k x + weighed_by_place h (suc k) xs

-- the first n words, each under its number
abbrev pub weigh : (ℕ → ℕ → ℕ) → List ℕ → ℕ → ℕ
weigh h words zero = 0
weigh h words (suc n) = weigh h words n + h n (slice_index words n)

-- the numbers that f gives below n, added up
abbrev pub sum_below : ℕ → (ℕ → ℕ) → ℕ
sum_below zero f = 0
sum_below (suc n) f = sum_below n f + f n

-- an empty word weighs nothing
abbrev pub Empties : (ℕ → ℕ → ℕ) → Type 0
Empties h = (k : ℕ) → h k 0 ≡ 0

-- the pairs are the members of the list, each under its number
abbrev pub AreNumbered : {A : Type 0} → List (ℕ × A) → List A → Type 0
AreNumbered {A} xs ys = (h : ℕ → A → ℕ) → pairs h xs ≡ weighed_by_place h 0 ys
