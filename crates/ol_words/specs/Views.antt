-- Private: what references to texts stand for, and the first items of an array.
use Rattle.std.specs.Prelude.{ℕ, zero, suc, ◌+◌, List, [], ◌∷◌, map, slice_index_or, take}
use Rattle.std.specs.Borrow.{Bor}
use Rattle.ol_words.specs.Texts.{Text}

-- the texts behind references
abbrev pub texts : List (Bor Text) → List Text
texts references = map (λ reference. reference.now) references

-- so many numbers of a list, from a place on
abbrev pub numbers_at : ℕ → ℕ → List ℕ → List ℕ
numbers_at place zero ns = []
numbers_at place (suc count) ns = slice_index_or ns place 0 ∷ numbers_at (place + 1) count ns

-- and from its beginning on
abbrev pub firsts : ℕ → List ℕ → List ℕ
firsts count ns = numbers_at 0 count ns

-- so many of two texts
abbrev pub first_texts : ℕ → (Bor Text × Bor Text) → List Text
first_texts count two = take count (two.0.now ∷ two.1.now ∷ [])
