-- Private: a place that a path leads to, how many binders stand round a place, and the names of some binders.
use Rattle.std.specs.Prelude.{ℕ, zero, suc, ◌+◌, ◌-◌, nat_lt, if◌then◌else◌, List, [], ◌∷◌, ◌++◌, drop}
use Rattle.ol_term.specs.BinderNames.{binder_name}
use Rattle.ol_readback.specs.Texts.{spaced}
use Rattle.ol_readback.specs.declared.answers.ReadNode.{ReadNode}
use Rattle.ol_equal.specs.Walking.{args_of}
use Rattle.ol_derivations.specs.Heads.{lams_of}

-- how many places so many whole trees take at the front of a list
abbrev pub taken : List ReadNode → ℕ → ℕ
taken [] c = 0
taken (n ∷ ns) zero = 0
taken (n ∷ ns) (suc c) = suc (taken ns (c + args_of n))

-- the place that a path leads to from place p
abbrev pub reached : List ReadNode → List ℕ → ℕ → ℕ
reached ns [] p = p
reached ns (j ∷ js) p = reached ns js (p + 1 + taken (drop (p + 1) ns) (j - 1))

-- one place back: how many whole trees stand between here and the place, and how many binders of the places that hold it
abbrev pub back : ReadNode → ℕ × ℕ → ℕ × ℕ
back n s = if nat_lt s.0 (args_of n) then (0, s.1 + lams_of n) else (s.0 - args_of n + 1, s.1)

abbrev pub gone : List ReadNode → ℕ × ℕ → ℕ × ℕ
gone [] s = s
gone (n ∷ ns) s = back n (gone ns s)

-- `\` and the names of binders t to t + l - 1, with one space between two
abbrev pub opened : List (List ℕ) → ℕ → ℕ → List ℕ
opened names t zero = []
opened names t (suc l) = 92 ∷ (binder_name names t ++ spaced names (suc t) l)

-- the sign before binder k of a place
abbrev pub sign : ℕ → List ℕ
sign zero = 92 ∷ []
sign (suc k) = 32 ∷ []
