-- How many letters the labels of a term and the degrees of a reduction have. An overlined or underlined word counts as
-- one letter, however long it is. (No other crate measures labels: laws compare them, and count different ones.)
use Rattle.std.specs.Prelude.{ℕ, ◌+◌, List, [], ◌∷◌}
use Rattle.ol_law_optimality.specs.Labels.{Label, none, atom, over, under, Labelled, var, free, lam, app}

abbrev pub letters : Label → ℕ
letters none = 0
letters (atom n w) = 1 + letters w
letters (over v w) = 1 + letters w
letters (under v w) = 1 + letters w

-- those of the labels of all subterms
abbrev pub letters_in : Labelled → ℕ
letters_in (var k w) = letters w
letters_in (free k w) = letters w
letters_in (lam b w) = letters w + letters_in b
letters_in (app f a w) = letters w + letters_in f + letters_in a

-- those of some labels
abbrev pub letters_of : List Label → ℕ
letters_of [] = 0
letters_of (d ∷ ds) = letters d + letters_of ds

-- how many are followed
abbrev pub most_letters : ℕ
most_letters = 10000000
