-- Private: the tables of a net after a replacement, one join after another.
use Rattle.std.specs.Prelude.{◌≡◌, ◌≢◌, ℕ, ◌+◌, ◌*◌, ◌<◌, ◌==◌, true, None, Option, if◌then◌else◌}
use Rattle.std.specs.Prelude.{List, [], ◌∷◌, ◌++◌, length, map, slice_set, zero, suc}
use Rattle.ol_net.specs.declared.parts.JoinEnd.{JoinEnd}
use Rattle.ol_net.specs.declared.parts.JoinEnd.TheVariants.{First, Second, Born}
use Rattle.ol_net.specs.declared.parts.Kind.{Kind}
use Rattle.ol_net.specs.Pairing.{other}
use Rattle.ol_net.specs.Graph.{kind_at, has_slot, IsTabled}
use Rattle.ol_net.specs.Numbered.{all_live}
use Rattle.ol_net.specs.Joins.{uses_up, open_ends}

-- the table after the edge of a and b was added, and each of them that had a partner was taken out
abbrev pub joined : List ℕ → ℕ → ℕ → List ℕ
joined xs a b =
    if other xs a == b then slice_set (slice_set xs a a) b b
    else slice_set (slice_set (slice_set (slice_set xs a a) b b) (other xs a) (other xs b)) (other xs b) (other xs a)

-- the table after each of these
abbrev pub joined_all : List ℕ → List (ℕ × ℕ) → List ℕ
joined_all xs [] = xs
joined_all xs (e ∷ es) = joined_all (joined xs e.0 e.1) es

-- the place of an end, for nodes first and second and the first number to come
abbrev pub end_place : ℕ → ℕ → ℕ → ℕ → JoinEnd → ℕ
end_place free first second next (First s) = free + 3 * first + s
end_place free first second next (Second s) = free + 3 * second + s
end_place free first second next (Born p s) = free + 3 * (next + p) + s

-- the joins by the places of their ends
abbrev pub join_places : ℕ → ℕ → ℕ → ℕ → List (JoinEnd × JoinEnd) → List (ℕ × ℕ)
join_places free first second next joins =
    map (λ j. (end_place free first second next j.0, end_place free first second next j.1)) joins

-- every edge lies within a table of this length
abbrev pub Within : ℕ → List (ℕ × ℕ) → Type 0
Within n [] = Unit {0}
Within n (e ∷ es) = (e.0 < n) × (e.1 < n) × Within n es

-- every edge lies within this table
abbrev pub LieIn : List ℕ → List (ℕ × ℕ) → Type 0
LieIn xs es = Within (length xs) es

-- every edge is of two places
abbrev pub AllTwo : List (ℕ × ℕ) → Type 0
AllTwo [] = Unit {0}
AllTwo (e ∷ es) = (e.0 ≢ e.1) × AllTwo es

-- the table with n more places, which are alone
abbrev pub grown : List ℕ → ℕ → List ℕ
grown xs zero = xs
grown xs (suc n) = grown xs n ++ (length xs + n) ∷ []

-- the table with the places of the nodes that come
abbrev pub grown_for : List ℕ → List (Kind × ℕ) → List ℕ
grown_for xs born = grown xs (3 * length born)

-- the table after each of these joins
abbrev pub joined_by : ℕ → ℕ → ℕ → ℕ → List ℕ → List (JoinEnd × JoinEnd) → List ℕ
joined_by free first second next xs joins = joined_all xs (join_places free first second next joins)

-- the table of a net after a replacement: the link of the two principal ports goes as by a join of them
abbrev pub rewired : ℕ → ℕ → List ℕ → ℕ → ℕ → List (Kind × ℕ) → List (JoinEnd × JoinEnd) → List ℕ
rewired free next xs first second born joins =
    joined_all (grown xs (3 * length born))
    ((free + 3 * first, free + 3 * second) ∷ join_places free first second next joins)

-- the nodes after it
abbrev pub renewed : List (Option (Kind × ℕ)) → ℕ → ℕ → List (Kind × ℕ) → List (Option (Kind × ℕ))
renewed nodes first second born = slice_set (slice_set (nodes ++ all_live born) first None) second None

-- two live nodes whose principal ports are partners, by their places
pub record FacingPlaces (free : ℕ) (nodes : List (Option (Kind × ℕ))) (partners : List ℕ)
    (first second : ℕ) : Type 0 where
  pub two : first ≢ second
  pub first_live : has_slot (kind_at nodes first) 0 ≡ true
  pub second_live : has_slot (kind_at nodes second) 0 ≡ true
  pub joined : other partners (free + 3 * first) ≡ free + 3 * second

-- what a replacement is given: a net, two nodes of it that face each other, and joins that use up the open ends
pub record Given (free : ℕ) (nodes : List (Option (Kind × ℕ))) (partners : List ℕ) (first second : ℕ)
    (born : List (Kind × ℕ)) (joins : List (JoinEnd × JoinEnd)) : Type 0 where
  pub net : IsTabled free nodes partners
  pub facing : FacingPlaces free nodes partners first second
  pub fit : uses_up joins (open_ends (kind_at nodes first) (kind_at nodes second) born) ≡ true
