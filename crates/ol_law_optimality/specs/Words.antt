-- The word that is read along a route: the label that Lévy's labelled reduction gives to the redex
-- to which it leads (Asperti and Laneve, Paths, computations and labels in the lambda-calculus,
-- 1995; Asperti and Guerrini, The Optimal Implementation of Functional Programming Languages,
-- 1998).
use Rattle.std.specs.Prelude.{◌≡◌, ◌≢◌, ℕ, List, [], ◌∷◌, ◌++◌}
use Rattle.ol_net.specs.Nets.{NamedNet, IsNet, HasNode}
use Rattle.ol_net.specs.declared.parts.Kind.{Kind}
use Rattle.ol_net.specs.declared.parts.Kind.TheVariants as kind
use Rattle.ol_law_optimality.specs.Labels.{Label, none, atom, over, under}
use Rattle.ol_law_optimality.specs.Routes.{Crossing, rise, fall, Route, HasRoute, IsBetaOf}
use Rattle.ol_rules.specs.Laws.{AreNamedBefore}
use Rattle.ol_rules.specs.Runs.{IsRun}
use Rattle.ol_rules.specs.declared.journal.Entry.{Entry}
use Rattle.ol_rules.specs.declared.journal.NodeName.{NodeName}

-- the same crossings from the last to the first, each the other way
abbrev pub turned : {A : Type 0} → List (Crossing A) → List (Crossing A)
turned [] = []
turned (rise x s ∷ w) = turned w ++ fall x s ∷ []
turned (fall x s ∷ w) = turned w ++ rise x s ∷ []

-- a node of this kind, of some index
abbrev pub Is : {A : Type 0} → NamedNet A → A → Kind → Type 0
Is N x k = (i : ℕ) × HasNode N x k i

-- from an occurrence of a variable to its binder, through nodes of sharing
pub data IsWire {A : Type 0} (N : NamedNet A) : List (Crossing A) → Type 0 where
  at_binder : IsWire N []
  through : {x : A} {s : ℕ} {w : List (Crossing A)} (k : Kind) → Is N x k → k ≢ kind.App →
      k ≢ kind.Lam → IsWire N w → IsWire N (rise x s ∷ w)

-- Each edge of the first term has a letter: `letter x 0` is that of the function of application x,
-- `letter x 2` that of its argument, and `letter y 1` that of the body of abstraction y. The word
-- of what comes after an edge. The edge ends at an application, whose function comes to an
-- abstraction, and then its body follows; or at a variable, whose abstraction is that to which the
-- function of an application comes, and then the argument follows.
pub data Reads {A : Type 0} (N : NamedNet A) (letter : A → ℕ → ℕ) : List (Crossing A) → Label →
    Type 0 where
  ends : Reads N letter [] none
  body : (y z : A) {s r : List (Crossing A)} {v u : Label} → Is N y kind.App → Is N z kind.Lam →
      Reads N letter s v → Reads N letter r u →
      Reads N letter (rise y 0 ∷ s ++ fall z 0 ∷ r)
      (over (atom (letter y 0) v) (atom (letter z 1) u))
  argument : (y z : A) {w s r : List (Crossing A)} {v u : Label} → IsWire N w → Is N y kind.App →
      Is N z kind.Lam → Reads N letter s v → Reads N letter r u →
      Reads N letter (w ++ rise z 1 ∷ (turned s ++ fall y 1 ∷ r))
      (under (atom (letter y 0) v) (atom (letter y 2) u))

-- the word of a route begins with the letter of its application's function
abbrev pub IsWordOf : {A : Type 0} → NamedNet A → (A → ℕ → ℕ) → Route A → Label → Type 0
IsWordOf N letter s w = (u : Label) × (w ≡ atom (letter s.from 0) u) × Reads N letter s.row u

-- no two edges have one letter
abbrev pub AreAtoms : {A : Type 0} → (A → ℕ → ℕ) → Type 0
AreAtoms {A} letter = (x y : A) (s r : ℕ) → letter x s ≡ letter y r → (x ≡ y) × (s ≡ r)

-- Where the letters are different atoms, routes with one word are one.
abbrev pub WordsTellRoutes : Type 0 → Type 0
WordsTellRoutes A = (N : NamedNet A) → IsNet N → (letter : A → ℕ → ℕ) → AreAtoms letter →
    (s t : Route A) → HasRoute N s → HasRoute N t → (w : Label) → IsWordOf N letter s w →
    IsWordOf N letter t w → s ≡ t

-- And a route has one word at most.
abbrev pub WordIsOne : Type 0 → Type 0
WordIsOne A = (N : NamedNet A) → IsNet N → (letter : A → ℕ → ℕ) → (s : Route A) → (w v : Label) →
    IsWordOf N letter s w → IsWordOf N letter s v → w ≡ v

-- So no two beta steps of a run come from routes with one word.
abbrev pub BetasHaveTheirWords : Type 0
BetasHaveTheirWords = (N M : NamedNet NodeName) (t : ℕ) (es : List Entry) →
    IsNet N → AreNamedBefore N t → (r : IsRun N t es M) →
    (letter : NodeName → ℕ → ℕ) → AreAtoms letter →
    (m n : ℕ) (s u : Route NodeName) → IsBetaOf r m s → IsBetaOf r n u →
    (w : Label) → IsWordOf N letter s w → IsWordOf N letter u w → m ≡ n
