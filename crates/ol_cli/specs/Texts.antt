-- The texts that more than one command writes.
use Rattle.std.specs.Fmt.{decimal}
use Rattle.std.specs.List.{join_with_byte}
use Rattle.std.specs.Prelude.{List, [], codes, ℕ, ◌++◌, ◌<◌, ◌∷◌, ◌≡◌, map}
use Rattle.ol_words.specs.Asked.{all_verbs, verb_row}
use Rattle.ol_rules.specs.declared.journal.Counts.{Counts}

-- the words and a line feed
abbrev pub line : List ℕ → List ℕ
line words = words ++ 10 ∷ []

-- a name, a space, a number and a line feed
abbrev pub count_line : List ℕ → ℕ → List ℕ
count_line name n = name ++ (32 ∷ decimal n ++ 10 ∷ [])

-- the words of all commands, with `|` between them
abbrev pub usage_text : List ℕ
usage_text = line (codes "usage: ol "
    ++ (join_with_byte 124 (map (λ v. (verb_row v).word) all_verbs) ++ codes " [options] NAME"))

-- this number is more than the limit, and the text names the limit
abbrev pub Exceeds : (n most : ℕ) → (limit text : List ℕ) → Type 0
Exceeds n most limit text = (most < n) × (text ≡ count_line limit most)

-- nine lines: the number of interactions of each rule, and of the pairs that are stuck
abbrev pub counts_text : Counts → ℕ → List ℕ
counts_text c stuck = count_line (codes "beta") c.beta
    ++ count_line (codes "fan") c.fan
    ++ count_line (codes "croissant") c.croissant
    ++ count_line (codes "bracket") c.bracket
    ++ count_line (codes "cross-fan") c.cross_fan
    ++ count_line (codes "cross-croissant") c.cross_croissant
    ++ count_line (codes "cross-bracket") c.cross_bracket
    ++ count_line (codes "erase") c.erase
    ++ count_line (codes "stuck") stuck

-- the line of the term, and the nine lines
abbrev pub answer_text : List ℕ → Counts → ℕ → List ℕ
answer_text term c stuck = line term ++ counts_text c stuck
