-- The laws of heads over a term's net itself: what a path from the free port of the net's root tells.
use Rattle.std.specs.Prelude.{◌≡◌, ℕ, ◌+◌, ◌≤◌}
use Rattle.ol_term.specs.declared.translations.Translation.{Translation}
use Rattle.ol_net.specs.Nets.{NamedNet, free}
use Rattle.ol_context.specs.Paths.{Path}
use Rattle.ol_translate.specs.Translation.{translation_of}
use Rattle.ol_translate.specs.Names.{HasNames}
use Rattle.ol_law_meaning.specs.Spots.{place, applications}
use Rattle.ol_law_meaning.specs.Contraction.{Tree, Level, empty, Context, cons, tail}
use Rattle.ol_law_meaning.specs.Heads.{os, outer, Normal, Steps, SameAlong}

-- In this net of either translation, where a path leads from the root's free port, with o^n.empty
-- on level 0, to free port q, at most as many head steps as it crosses applications lead from the
-- term to a head normal form. It has at most n abstractions, and its head leaves at q's place.
abbrev pub FindsHeads : Translation → NamedNet ℕ → Tree → Type 0
FindsHeads τ N t = (q n : ℕ) (c d : Context) → c 0 ≡ os n empty → (r : Path N (free 0) c q d) →
    (u : Tree) × (m : ℕ) × (s : Steps t u m) × (m ≤ applications r) × (a : Level) × (j : ℕ)
    × Normal u (place q) a j
    × SameAlong τ s (place q) (d 0) a × (e : ℕ) × (n ≡ outer u + e)
    × (tail d ≡ cons (os (j + e) empty) (tail c))

-- So it is in the term's own net.
abbrev pub PathFindsHead : Type 0
PathFindsHead = (τ : Translation) (t : Tree) (names : ℕ) → HasNames t names →
    FindsHeads τ (translation_of τ t names) t

-- And where head steps lead to a head normal form of k abstractions, whose head leaves at the place
-- of a free port, such a path is there, with o^k.empty on level 0.
abbrev pub HeadHasPath : Type 0
HeadHasPath = (τ : Translation) (t : Tree) (names : ℕ) → HasNames t names →
    (u : Tree) (m : ℕ) (s : Steps t u m) (q : ℕ) (a : Level) (j : ℕ) →
    Normal u (place q) a j → (c : Context) → c 0 ≡ os (outer u) empty →
    (v : Level) × SameAlong τ s (place q) v a
    × Path (translation_of τ t names) (free 0) c q (cons v (cons (os j empty) (tail c)))
