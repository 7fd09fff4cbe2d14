-- The lines of a file, and which of them are left out of account.
use Rattle.std.specs.Prelude.{ℕ, ◌==◌, Bool, true, ◌||◌, ◌&&◌, if◌then◌else◌, List, [], ◌∷◌}
use Rattle.std.specs.List.{slice_split}

-- the lines of some bytes: what stands between line feeds
abbrev pub lines_of : List ℕ → List (List ℕ)
lines_of bytes = slice_split (λ b. b == 10) bytes

-- a space, a tab or a carriage return
abbrev pub is_blank : ℕ → Bool
is_blank b = b == 32 || (b == 9 || b == 13)

-- an empty line or a comment: behind its blanks there is nothing, or `#`
abbrev pub is_left_out : List ℕ → Bool
is_left_out [] = true
is_left_out (b ∷ bs) = if is_blank b then is_left_out bs else b == 35

-- each line is left out
abbrev pub all_left_out : List (List ℕ) → Bool
all_left_out [] = true
all_left_out (line ∷ lines) = is_left_out line && all_left_out lines
