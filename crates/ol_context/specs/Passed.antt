-- What a crossing of an open context is: the crossings of all contexts that it stands for.
use Rattle.std.specs.Prelude.{◌≡◌, ◌↔◌, ℕ, List}
use Rattle.ol_net.specs.declared.parts.Port.{Port}
use Rattle.ol_net.specs.Graph.{Graph}
use Rattle.ol_net.specs.Numbered.{numbered_port, net_of}
use Rattle.ol_net.specs.Nets.{NamedNet, NamedPort}
use Rattle.ol_context.specs.Contexts.{Level}
use Rattle.ol_context.specs.Paths.{Through, IsBarred}
use Rattle.ol_context.specs.Crossed.{IfOut}
use Rattle.ol_context.specs.declared.answers.Cross.{Cross}
use Rattle.ol_context.specs.declared.answers.Cross.TheVariants as cross
use Rattle.ol_context.specs.Open.{Open, IsOpenFor, open_at}

-- The new open context stands for those n of the old one for which P says that the crossing is
-- made, and for the others Q says that none is defined.
pub record Narrows (X Y : Open) (P Q : ℕ → Type 0) : Type 0 where
  pub within : (n : ℕ) → IsOpenFor Y n → IsOpenFor X n
  pub made : (n : ℕ) → IsOpenFor Y n → P n
  pub barred : (n : ℕ) → IsOpenFor X n → (IsOpenFor Y n → ⊥) → Q n

-- A node of the net is entered by port p and left by port q: the new open context stands for those
-- n of the old one for which a crossing is defined, with the context there.
abbrev pub OpenThrough : NamedNet ℕ → NamedPort ℕ → NamedPort ℕ → List Level → List Level → Open → Open → Type 0
OpenThrough N p q old new X Y = Narrows X Y (λ n. Through N p (open_at old X n) q (open_at new Y n))
    (λ n. IsBarred N p (open_at old X n))

-- no crossing is defined for any n
abbrev pub IsOpenBarred : NamedNet ℕ → NamedPort ℕ → List Level → Open → Type 0
IsOpenBarred N p vs X = (n : ℕ) → IsOpenFor X n → IsBarred N p (open_at vs X n)

-- An answer Out is the port by which the node of port p is left so.
abbrev pub GoesOut : Graph → Port → List Level → List Level → Open → Open → Cross → Type 0
GoesOut g p old new X Y r = IfOut r (λ q. OpenThrough (net_of g) (numbered_port p) (numbered_port q) old new X Y)

-- Undefined comes exactly where no crossing of the node of port p is defined for any n.
abbrev pub IsBarredExactly : Graph → Port → List Level → Open → Cross → Type 0
IsBarredExactly g p vs X r = (r ≡ cross.Undefined) ↔ IsOpenBarred (net_of g) (numbered_port p) vs X
