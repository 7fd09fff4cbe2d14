-- Terms made by doubling.
use Rattle.std.specs.Prelude.{ℕ, zero, suc, List, [], ◌∷◌, ◌++◌, codes}

-- the least term, and k times over it `(T T)` of the term so far
abbrev pub doubled : ℕ → List ℕ
doubled zero = codes "((\\x. x x) (\\y. y))"
doubled (suc k) = 40 ∷ doubled k ++ (32 ∷ doubled k ++ 41 ∷ [])

-- and a line feed
abbrev pub doubled_text : ℕ → List ℕ
doubled_text k = doubled k ++ 10 ∷ []
