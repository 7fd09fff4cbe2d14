-- The laws of a redex, its cut and the new term, and of one head step.
use Rattle.std.specs.Prelude.{◌≡◌, ℕ, ◌≤◌, ◌<◌}
use Rattle.ol_law_meaning.specs.Contraction.{Tree, lam, app, Spot, Edge, Trail, Leads, lift, lifted, subst_for}
use Rattle.ol_law_meaning.specs.Contraction.{Translation, Cut, CutEdge, Held, Opens, Level, Context}
use Rattle.ol_law_meaning.specs.Contraction.{Place, root, at, HeadStep}
use Rattle.ol_law_meaning.specs.Steps.{Same, opened, Short}

-- an edge of a term is one of the term under more abstractions, between the lifted spots, of the same weight
abbrev pub LiftKeeps : Type 0
LiftKeeps = (τ : Translation) (t : Tree) (d i : ℕ) (s s' : Spot) (w : ℕ) →
    Edge τ t s s' w → Edge τ (lift d i t) (lifted d i s) (lifted d i s') w

-- An edge of the cut, taken either way round from a spot that M[N] holds, is a trail of M[N] of the
-- same weight, to a spot that holds the edge's other end.
abbrev pub CutIsHeld : Type 0
CutIsHeld = (τ : Translation) (N M : Tree) (i : ℕ) (c c' : Cut) (z : Spot) (n : ℕ) →
    Held τ N M i c z →
    (CutEdge τ N M i c c' n → (z' : Spot) × Held τ N M i c' z'
    × Trail (Edge τ (subst_for i N M)) z z' n)
    × (CutEdge τ N M i c' c n → (z' : Spot) × Held τ N M i c' z'
    × Trail (Edge τ (subst_for i N M)) z z' n)

-- and an edge of M[N] is a trail of the cut of the same weight
abbrev pub HeldIsCut : Type 0
HeldIsCut = (τ : Translation) (N M : Tree) (i : ℕ) (c : Cut) (z z' : Spot) (n : ℕ) →
    Held τ N M i c z →
    (Edge τ (subst_for i N M) z z' n → (c' : Cut) × Held τ N M i c' z'
    × Trail (CutEdge τ N M i) c c' n)
    × (Edge τ (subst_for i N M) z' z n → (c' : Cut) × Held τ N M i c' z'
    × Trail (CutEdge τ N M i) c c' n)

-- an edge of the redex, taken either way round, is a trail of its cut, of no more weight
abbrev pub RedexOpens : Type 0
RedexOpens = (τ : Translation) (N M : Tree) (s s' : Spot) (c : Cut) (n : ℕ) → Opens τ N M s c →
    (Edge τ (app (lam M) N) s s' n → (c' : Cut) × Opens τ N M s' c' × (m : ℕ) × (m ≤ n)
    × Trail (CutEdge τ N M 0) c c' m)
    × (Edge τ (app (lam M) N) s' s n → (c' : Cut) × Opens τ N M s' c' × (m : ℕ) × (m ≤ n)
    × Trail (CutEdge τ N M 0) c c' m)

-- and an edge of the cut is a trail of the redex, of whatever weight
abbrev pub CutCloses : Type 0
CutCloses = (τ : Translation) (N M : Tree) (s : Spot) (c c' : Cut) (n : ℕ) → Opens τ N M s c →
    (CutEdge τ N M 0 c c' n → (s' : Spot) × Opens τ N M s' c' × (m : ℕ)
    × Trail (Edge τ (app (lam M) N)) s s' m)
    × (CutEdge τ N M 0 c' c n → (s' : Spot) × Opens τ N M s' c' × (m : ℕ)
    × Trail (Edge τ (app (lam M) N)) s s' m)

-- A head step keeps where the interface leads to. A trail of t from one of its interface's spots to
-- another is one of t', between the same places with values that are the same, with the same later
-- levels, and of no more weight. It is of less weight where it begins at the root with a value that
-- passes all outer abstractions.
abbrev pub HeadKeeps : Type 0
HeadKeeps = (τ : Translation) (t t' : Tree) (h : HeadStep t t') (p q : Place) (v v' w : Level)
    (c d : Context) (n : ℕ) →
    Same τ h p v v' → Leads τ t (at p v c) (at q w d) n →
    (w' : Level) × Same τ h q w w' × (n' : ℕ) × (n' ≤ n)
    × ((u : Level) → p ≡ root → v ≡ opened t u → n' < n)
    × Leads τ t' (at p v' c) (at q w' d) n'

-- and a trail of t' is one of t, of whatever weight
abbrev pub HeadReflects : Type 0
HeadReflects = (τ : Translation) (t t' : Tree) (h : HeadStep t t') (p q : Place) (v v' w' : Level)
    (c d : Context) (n' : ℕ) →
    Same τ h p v v' → Leads τ t' (at p v' c) (at q w' d) n' →
    (w : Level) × Same τ h q w w' × (n : ℕ) × Leads τ t (at p v c) (at q w d) n

-- at a place, a value before the step is the same as one value after it at most, and the other way round
abbrev pub SameIsOne : Type 0
SameIsOne = (τ : Translation) (t t' : Tree) (h : HeadStep t t') (p : Place) (v v' w w' : Level) →
    Same τ h p v v' → Same τ h p w w' →
    (v ≡ w → v' ≡ w') × (v' ≡ w' → v ≡ w)

-- at the root, a value that passes all outer abstractions is the same as itself
abbrev pub RootIsSame : Type 0
RootIsSame = (τ : Translation) (t t' : Tree) (h : HeadStep t t') (u : Level) →
    Same τ h root (opened t u) (opened t u)

-- at the root, a value that stops at an outer abstraction leads nowhere, before and after the step
abbrev pub ShortIsStuck : Type 0
ShortIsStuck = (τ : Translation) (t t' : Tree) (h : HeadStep t t') (q : Place) (v w : Level)
    (c d : Context) (n : ℕ) → Short t v →
    (Leads τ t (at root v c) (at q w d) n → ⊥) × (Leads τ t' (at root v c) (at q w d) n → ⊥)
