-- Crossings of nodes, and paths from free port to free port (Gonthier, Abadi and Lévy, 1992).
use Rattle.std.specs.Prelude.{◌≡◌, ℕ, suc, ◌<◌, ◌↔◌}
use Rattle.ol_net.specs.declared.parts.Kind.{Kind}
use Rattle.ol_net.specs.Parts.{arity}
use Rattle.ol_net.specs.Nets.{NamedNet, NamedPort, free, slot, HasNode, Linked}
use Rattle.ol_context.specs.Contexts.{Context, up}

-- A node of kind k and index i is entered by slot s with context c and left by slot t with context
-- d. From slot 0 the walk
-- leaves by the slot whose change gives the context, with the context before that change. An eraser lets nothing pass.
pub data Crosses (k : Kind) (i : ℕ) : ℕ → Context → ℕ → Context → Type 0 where
  inward : {s : ℕ} {c d : Context} → s < arity k → up k i s c ≡ d → Crosses k i (suc s) c 0 d
  outward : {s : ℕ} {c d : Context} → s < arity k → up k i s c ≡ d → Crosses k i 0 d (suc s) c

-- A node of the net is entered by port p with context c and left by port q with context d.
pub data Through {A : Type 0} (N : NamedNet A) : NamedPort A → Context → NamedPort A → Context → Type 0 where
  through : {x : A} {k : Kind} {i s t : ℕ} {c d : Context} → HasNode N x k i → Crosses k i s c t d →
      Through N (slot x s) c (slot x t) d

-- No crossing is defined there.
abbrev pub IsBarred : {A : Type 0} → NamedNet A → NamedPort A → Context → Type 0
IsBarred {A} N p c = (q : NamedPort A) (d : Context) → Through N p c q d → ⊥

-- From port p with context c along the links to the free port q with context d, in any number of crossings.
pub data Path {A : Type 0} (N : NamedNet A) : NamedPort A → Context → ℕ → Context → Type 0 where
  ends : {p : NamedPort A} {c : Context} {q : ℕ} → Linked N p (free q) → Path N p c q c
  goes : {p : NamedPort A} {c d e : Context} {x : A} {k : Kind} {i s t q : ℕ} →
      Linked N p (slot x s) → HasNode N x k i → Crosses k i s c t d → Path N (slot x t) d q e → Path N p c q e

-- how many crossings a path has
abbrev pub crossings : {A : Type 0} {N : NamedNet A} {p : NamedPort A} {c : Context} {q : ℕ}
    {d : Context} → Path N p c q d → ℕ
crossings (ends l) = 0
crossings (goes l h x r) = suc (crossings r)

-- From each free port with each context, paths lead to the same free ports with the same contexts.
abbrev pub HaveSamePaths : {A B : Type 0} → NamedNet A → NamedNet B → Type 0
HaveSamePaths N M = (p : ℕ) (c : Context) (q : ℕ) (d : Context) → Path N (free p) c q d ↔ Path M (free p) c q d
