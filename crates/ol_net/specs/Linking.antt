-- Private: tables of partners while links are put in.
use Rattle.std.specs.Prelude.{ℕ, ◌==◌, Bool, ◌&&◌, not, if◌then◌else◌, List, [], ◌∷◌, slice_set}
use Rattle.ol_net.specs.Pairing.{other}

-- the place that a link joins to k, or k itself
abbrev pub across : ℕ × ℕ → ℕ → ℕ
across e k = if e.0 == k then e.1 else (if e.1 == k then e.0 else k)

-- the place that one of these links joins to k, or k itself
abbrev pub partner_among : List (ℕ × ℕ) → ℕ → ℕ
partner_among [] k = k
partner_among (e ∷ es) k = if partner_among es k == k then across e k else partner_among es k

-- two places become partners
abbrev pub linked : List ℕ → ℕ → ℕ → List ℕ
linked partners a b = slice_set (slice_set partners a b) b a

-- they do where they can
abbrev pub linked_if : Bool → List ℕ → ℕ → ℕ → List ℕ
linked_if can partners a b = if can then linked partners a b else partners

-- they are two places, and neither has a partner
abbrev pub can_link : List ℕ → ℕ → ℕ → Bool
can_link partners a b = not (a == b) && (other partners a == a) && (other partners b == b)
