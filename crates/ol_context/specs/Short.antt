-- Walks in nets without facing pairs.
use Rattle.std.specs.Prelude.{◌≡◌, ℕ, suc, ◌≤◌, ◌*◌, List, [], ◌∷◌, ◌++◌, length, map, ◌↔◌}
use Rattle.ol_law_edges.specs.Edges.{IsIn}
use Rattle.ol_net.specs.Nets.{NamedNet, NamedPort, free, slot, Linked, IsNet}
use Rattle.ol_context.specs.Contexts.{Level, Context}
use Rattle.ol_context.specs.Paths.{Path, crossings}
use Rattle.ol_context.specs.Ways.{Way, start, on, WalkStands}
use Rattle.ol_context.specs.WalkAnswers.{IsExit}
use Rattle.ol_context.specs.declared.answers.Walk.{Walk}

-- No two principal ports are linked.
abbrev pub HasNoFacing : {A : Type 0} → NamedNet A → Type 0
HasNoFacing {A} N = (x y : A) → Linked N (slot x 0) (slot y 0) → ⊥

-- the number of live nodes, where each is listed once
abbrev pub live : {A : Type 0} → NamedNet A → ℕ
live N = length N.nodes

-- no element stands twice
abbrev pub IsOnce : {A : Type 0} → List A → Type 0
IsOnce [] = Unit {0}
IsOnce (x ∷ xs) = (IsIn x xs → ⊥) × IsOnce xs

-- the ports by which a walk entered nodes, one after another
abbrev pub entries : {A : Type 0} {N : NamedNet A} {p : NamedPort A} {c : Context} {n : ℕ}
    {u : NamedPort A} {d : Context} →
    Way N p c n u d → List (NamedPort A)
entries start = []
entries (on {x = x} {s = s} w l h y) = entries w ++ slot x s ∷ []

-- the slot 0 of a node, and an auxiliary slot, slot s + 1
abbrev pub principal : {A : Type 0} → A → NamedPort A
principal x = slot x 0

abbrev pub auxiliary : {A : Type 0} → A × ℕ → NamedPort A
auxiliary e = slot e.0 (suc e.1)

-- First slots 0 alone are entered, of different nodes, and then auxiliary slots alone.
pub record TurnsOnce {A : Type 0} (ps : List (NamedPort A)) : Type 0 where
  pub down : List A
  pub up : List (A × ℕ)
  pub are : ps ≡ map principal down ++ map auxiliary up
  pub once : IsOnce down

-- In a net without facing pairs a walk from a free port turns once.
abbrev pub WalkTurnsOnce : Type 0 → Type 0
WalkTurnsOnce A = (N : NamedNet A) → IsNet N → HasNoFacing N →
    (p : ℕ) (c : Context) (n : ℕ) (u : NamedPort A) (d : Context) (w : Way N (free p) c n u d) → TurnsOnce (entries w)

-- And it leaves within twice as many crossings as there are nodes, or never.
abbrev pub WalkIsShort : Type 0 → Type 0
WalkIsShort A = (N : NamedNet A) → IsNet N → HasNoFacing N →
    (p : ℕ) (c : Context) (q : ℕ) (d : Context) (r : Path N (free p) c q d) → crossings r ≤ 2 * live N

-- A walk that made as many crossings and stands at a node goes on for ever.
abbrev pub WalkGoesOn : Type 0 → Type 0
WalkGoesOn A = (N : NamedNet A) → IsNet N → HasNoFacing N → (p : ℕ) (c : Context) (edges : ℕ) →
    2 * live N ≤ edges → WalkStands N (free p) c edges → (n : ℕ) → WalkStands N (free p) c n

-- An exit comes exactly where a path leads to a free port, of any number of crossings: by that
-- port, with the context there, and with the number of crossings.
abbrev pub LeavesExactly : NamedNet ℕ → ℕ → Context → List Level → Walk → Type 0
LeavesExactly N p c vs w = (q : ℕ) (d : Context) (n : ℕ) →
    IsExit vs w q d n ↔ ((r : Path N (free p) c q d) × (crossings r ≡ n))

-- That is so where no two principal ports are linked and edges is at least twice the number of nodes.
abbrev pub LeavesIfEnough : NamedNet ℕ → ℕ → Context → ℕ → List Level → Walk → Type 0
LeavesIfEnough N p c edges vs w = HasNoFacing N → 2 * live N ≤ edges → LeavesExactly N p c vs w
