-- The laws of a term's net, by either translation, and its spots: a path of the net is a trail of
-- the spots, and the other way round.
use Rattle.std.specs.Prelude.{ℕ, ◌↔◌}
use Rattle.ol_term.specs.declared.translations.Translation.{Translation}
use Rattle.ol_term.specs.Trees.{Tree}
use Rattle.ol_context.specs.Contexts.{Context, tail}
use Rattle.ol_context.specs.Paths.{Path}
use Rattle.ol_net.specs.Nets.{free}
use Rattle.ol_translate.specs.Translation.{translation_of}
use Rattle.ol_translate.specs.Names.{HasNames}
use Rattle.ol_law_meaning.specs.Spots.{at, Leads, place, applications}

-- the spots' trails lead from where free port p stands to where free port q stands, with these contexts and this weight
abbrev pub LeadsOut : Translation → Tree → ℕ → Context → ℕ → Context → ℕ → Type 0
LeadsOut τ t p c q d n = Leads τ t (at (place p) (c 0) (tail c)) (at (place q) (d 0) (tail d)) n

-- a path of the term's net leads from one free port to another, with these contexts, exactly where
-- a trail of its spots does
abbrev pub NetAndSpots : Type 0
NetAndSpots = (τ : Translation) (t : Tree) (names : ℕ) → HasNames t names →
    (p q : ℕ) (c d : Context) →
    Path (translation_of τ t names) (free p) c q d ↔ ((n : ℕ) × LeadsOut τ t p c q d n)

-- and for each path there is a trail whose weight is the number of application nodes that the path crosses
abbrev pub PathHasWeight : Type 0
PathHasWeight = (τ : Translation) (t : Tree) (names : ℕ) → HasNames t names →
    (p q : ℕ) (c d : Context) →
    (r : Path (translation_of τ t names) (free p) c q d) → LeadsOut τ t p c q d (applications r)
