-- Private: the terms that end at the steps of a row, and where each of them begins.
use Rattle.std.specs.Prelude.{◌≡◌, ℕ, ◌+◌, ◌-◌, ◌<◌, ◌≤◌, List, [], ◌∷◌, take, length, slice_index, Option, Some}
use Rattle.ol_parse.specs.Grammar.{Named, var, lam, app}
use Rattle.ol_parse.specs.Flat.{built}
use Rattle.ol_parse.specs.declared.flat.Op.{Op}
use Rattle.ol_parse.specs.declared.steps.Part.{Part}
use Rattle.ol_parse.specs.declared.steps.Part.TheVariants.{Occurrence, Abstraction, Application}

abbrev pub top_of : Option (List Named) → Named
top_of (Some (t ∷ ts)) = t
top_of _ = var []

-- the term that ends with the step of this number: the last that the steps up to it build
abbrev pub term_at : List Op → ℕ → Named
term_at ops k = top_of (built (take (k + 1) ops))

-- The term that ends with step k begins with step s: the steps before s build all but that term.
pub record BeginsAt (ops : List Op) (k s : ℕ) : Type 0 where
  pub low : s ≤ k
  pub others : List Named
  pub before : built (take s ops) ≡ Some others
  pub after : built (take (k + 1) ops) ≡ Some (term_at ops k ∷ others)

-- the term that ends with the last step
abbrev pub whole : List Op → Named
whole ops = term_at ops (length ops - 1)

-- these are the first steps of the terms that end with the first n steps
pub record HaveStartsTo (ops : List Op) (n : ℕ) (starts : List ℕ) : Type 0 where
  pub long : length starts ≡ n
  pub each : (k : ℕ) → k < n → BeginsAt ops k (slice_index starts k)

abbrev pub HaveStarts : List Op → List ℕ → Type 0
HaveStarts ops starts = HaveStartsTo ops (length ops) starts

-- the term of a part
abbrev pub shown : List Op → Part → Named
shown ops (Occurrence x) = var x.now
shown ops (Abstraction x body) = lam x.now (term_at ops body)
shown ops (Application f a) = app (term_at ops f) (term_at ops a)

-- what a part is made of ends before this step
abbrev pub AreBelow : ℕ → Part → Type 0
AreBelow at (Occurrence x) = Unit {0}
AreBelow at (Abstraction x body) = body < at
AreBelow at (Application f a) = (f < at) × (a < at)
