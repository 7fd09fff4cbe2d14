-- A word letter by letter, as a walk along a route reads it: so it is told by the crossings alone.
use Rattle.std.specs.Prelude.{◌≢◌, ℕ, Bool, true, false, not, List, [], ◌∷◌, ◌++◌}
use Rattle.ol_net.specs.Nets.{NamedNet}
use Rattle.ol_net.specs.declared.parts.Kind.{Kind}
use Rattle.ol_net.specs.declared.parts.Kind.TheVariants as kind
use Rattle.ol_law_optimality.specs.Labels.{Label, none, atom, over, under}
use Rattle.ol_law_optimality.specs.Routes.{Crossing, rise, fall}
use Rattle.ol_law_optimality.specs.Words.{Is, Reads}

-- a letter, or where an overlined or an underlined word begins or ends
pub data Sign : Type 0 where
  letter_of : ℕ → Sign
  begins_over : Sign
  ends_over : Sign
  begins_under : Sign
  ends_under : Sign

-- signs, each with whether it is read backwards
abbrev pub Signs : Type 0
Signs = List (Bool × Sign)

abbrev pub onward : Sign → Bool × Sign
onward a = (false, a)

abbrev pub backward : Sign → Bool × Sign
backward a = (true, a)

-- the same from the last to the first
abbrev pub reversed : Signs → Signs
reversed [] = []
reversed (a ∷ bs) = reversed bs ++ (not a.0, a.1) ∷ []

-- an underlined word is read backwards: a walk goes back along its route
abbrev pub signs_of : Label → Signs
signs_of none = []
signs_of (atom n w) = onward (letter_of n) ∷ signs_of w
signs_of (over v w) = onward begins_over ∷ (signs_of v ++ onward ends_over ∷ signs_of w)
signs_of (under v w) =
    onward begins_under ∷ (reversed (signs_of v) ++ onward ends_under ∷ signs_of w)

-- What a walk reads at each crossing: a letter where it comes to an edge from above or leaves it
-- upwards, and where words begin and end. Nodes of sharing tell nothing.
pub data Signed {A : Type 0} (N : NamedNet A) (letter : A → ℕ → ℕ) : List (Crossing A) → Signs →
    Type 0 where
  nothing : Signed N letter [] []
  shared_up : {x : A} {s : ℕ} {w : List (Crossing A)} {a : Signs} (k : Kind) → Is N x k →
      k ≢ kind.App → k ≢ kind.Lam → Signed N letter w a → Signed N letter (rise x s ∷ w) a
  shared_down : {x : A} {s : ℕ} {w : List (Crossing A)} {a : Signs} (k : Kind) → Is N x k →
      k ≢ kind.App → k ≢ kind.Lam → Signed N letter w a → Signed N letter (fall x s ∷ w) a
  to_function : {y : A} {w : List (Crossing A)} {a : Signs} → Is N y kind.App →
      Signed N letter w a → Signed N letter (rise y 0 ∷ w)
      (onward begins_over ∷ (onward (letter_of (letter y 0)) ∷ a))
  from_function : {y : A} {w : List (Crossing A)} {a : Signs} → Is N y kind.App →
      Signed N letter w a → Signed N letter (fall y 0 ∷ w)
      (backward (letter_of (letter y 0)) ∷ (backward begins_over ∷ a))
  to_body : {z : A} {w : List (Crossing A)} {a : Signs} → Is N z kind.Lam → Signed N letter w a →
      Signed N letter (fall z 0 ∷ w) (onward ends_over ∷ (onward (letter_of (letter z 1)) ∷ a))
  from_body : {z : A} {w : List (Crossing A)} {a : Signs} → Is N z kind.Lam →
      Signed N letter w a → Signed N letter (rise z 0 ∷ w)
      (backward (letter_of (letter z 1)) ∷ (backward ends_over ∷ a))
  from_variable : {z : A} {w : List (Crossing A)} {a : Signs} → Is N z kind.Lam →
      Signed N letter w a → Signed N letter (rise z 1 ∷ w) (onward begins_under ∷ a)
  to_variable : {z : A} {w : List (Crossing A)} {a : Signs} → Is N z kind.Lam →
      Signed N letter w a → Signed N letter (fall z 1 ∷ w) (backward begins_under ∷ a)
  to_argument : {y : A} {w : List (Crossing A)} {a : Signs} → Is N y kind.App →
      Signed N letter w a → Signed N letter (fall y 1 ∷ w) (backward (letter_of (letter y 0))
      ∷ (onward ends_under ∷ (onward (letter_of (letter y 2)) ∷ a)))
  from_argument : {y : A} {w : List (Crossing A)} {a : Signs} → Is N y kind.App →
      Signed N letter w a → Signed N letter (rise y 1 ∷ w) (backward (letter_of (letter y 2))
      ∷ (backward ends_under ∷ (onward (letter_of (letter y 0)) ∷ a)))

-- What is read along a row that has a word is this word, sign by sign.
abbrev pub WordsAreSigned : Type 0 → Type 0
WordsAreSigned A = (N : NamedNet A) (letter : A → ℕ → ℕ) (r : List (Crossing A)) (u : Label) →
    Reads N letter r u → Signed N letter r (signs_of u)
