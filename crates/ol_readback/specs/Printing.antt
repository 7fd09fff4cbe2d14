-- Private: what one step of the printing does.
use Rattle.std.specs.Prelude.{◌≡◌, ℕ, zero, suc, ◌+◌, ◌<◌, Bool, true, false, List, [], ◌∷◌, ◌++◌, Option, Some, None}
use Rattle.ol_readback.specs.Texts.{abstractions, variable}
use Rattle.ol_readback.specs.declared.answers.HeadVar.{HeadVar}
use Rattle.ol_readback.specs.declared.answers.HeadVar.TheVariants as var
use Rattle.ol_readback.specs.declared.answers.ReadNode.{ReadNode}
use Rattle.ol_readback.specs.declared.answers.ReadNode.TheVariants as node
use Rattle.ol_readback.specs.declared.printing.Open.{Open}

-- a bound head's place is one of so many
abbrev pub IsSeenVar : ℕ → HeadVar → Type 0
IsSeenVar count (var.Bound i j) = i < count
IsSeenVar count (var.Free q) = Unit {0}

abbrev pub IsSeen : ℕ → ReadNode → Type 0
IsSeen count (node.Head l v k) = IsSeenVar count v
IsSeen count node.NoHead = Unit {0}
IsSeen count node.Cut = Unit {0}

-- brackets are needed round an argument
abbrev pub wants_bracket : Bool → ReadNode → Bool
wants_bracket false n = false
wants_bracket true (node.Head zero v zero) = false
wants_bracket true (node.Head zero v (suc k)) = true
wants_bracket true (node.Head (suc l) v k) = true
wants_bracket true node.NoHead = false
wants_bracket true node.Cut = false

abbrev pub left_bracket : Bool → List ℕ
left_bracket false = []
left_bracket true = 40 ∷ []

abbrev pub right_bracket : Bool → List ℕ
right_bracket false = []
right_bracket true = 41 ∷ []

-- the place without its arguments
abbrev pub place_text : List (List ℕ) → List ℕ → ℕ → ReadNode → List ℕ
place_text names rs t (node.Head l v k) = abstractions names t l ++ variable names rs v
place_text names rs t node.NoHead = 63 ∷ []
place_text names rs t node.Cut = 46 ∷ (46 ∷ (46 ∷ []))

-- what is printed at once: all of it, where it has no arguments
abbrev pub printed : List (List ℕ) → List ℕ → ℕ → Bool → ReadNode → List ℕ
printed names rs t b (node.Head l v zero) = left_bracket b ++
    (place_text names rs t (node.Head l v zero) ++ right_bracket b)
printed names rs t b (node.Head l v (suc k)) = left_bracket b ++ place_text names rs t (node.Head l v (suc k))
printed names rs t b node.NoHead = place_text names rs t node.NoHead
printed names rs t b node.Cut = place_text names rs t node.Cut

-- the arguments that are then to be printed
abbrev pub opened : ℕ → Bool → ReadNode → List Open
opened t b (node.Head l v zero) = []
opened t b (node.Head l v (suc k)) = record { left = suc k; binders = t + l; bracket = b } ∷ []
opened t b node.NoHead = []
opened t b node.Cut = []

-- The next argument has so many binders round it, and heads whose arguments are all printed are
-- closed. Or no argument is left.
pub data Takes : List ℕ → List Open → Option ℕ → List ℕ → List Open → Type 0 where
  done : (x : List ℕ) → Takes x [] None x []
  takes : (x : List ℕ) (os : List Open) (h : Open) (n : ℕ) → h.left ≡ suc n →
      Takes x (os ++ h ∷ []) (Some h.binders) x
      (os ++ record { left = n; binders = h.binders; bracket = h.bracket } ∷ [])
  closes : (x : List ℕ) (os : List Open) (h : Open) {y : List ℕ} {qs : List Open} {r : Option ℕ} →
      h.left ≡ 0 → Takes (x ++ right_bracket h.bracket) os r y qs → Takes x (os ++ h ∷ []) r y qs
