-- What a crossing answers, and what changes of lists of numbers do.
use Rattle.std.specs.Prelude.{◌≡◌, ◌↔◌, ℕ, List}
use Rattle.ol_net.specs.declared.parts.Port.{Port}
use Rattle.ol_net.specs.declared.parts.Port.TheVariants as port
use Rattle.ol_net.specs.Graph.{Graph}
use Rattle.ol_net.specs.Nets.{IsPort}
use Rattle.ol_net.specs.Numbered.{numbered_port, net_of}
use Rattle.ol_context.specs.Contexts.{Level}
use Rattle.ol_context.specs.Paths.{Through, IsBarred}
use Rattle.ol_context.specs.Shapes.{context_of}
use Rattle.ol_context.specs.declared.answers.Cross.{Cross}
use Rattle.ol_context.specs.declared.answers.Cross.TheVariants as cross

-- a port of a live node
abbrev pub IsNodePort : Graph → Port → Type 0
IsNodePort g (port.Free k) = ⊥
IsNodePort g (port.Of n s) = IsPort (net_of g) (numbered_port (port.Of n s))

-- the port by which the walk leaves, if it does
abbrev pub IfOut : Cross → (Port → Type 0) → Type 0
IfOut (cross.Out q) P = P q
IfOut cross.Undefined P = Unit {0}

-- An answer Out is the port by which the node of port p is left, with the context that the numbers ms stand for.
abbrev pub LeavesNode : Graph → Port → List Level → List Level → List ℕ → List ℕ → Cross → Type 0
LeavesNode g p old new ns ms r = IfOut r
    (λ q. Through (net_of g) (numbered_port p) (context_of old ns) (numbered_port q) (context_of new ms))

-- Undefined comes exactly where no crossing of the node of port p is defined.
abbrev pub IsUndefinedExactly : Graph → Port → List Level → List ℕ → Cross → Type 0
IsUndefinedExactly g p vs ns r = (r ≡ cross.Undefined) ↔ IsBarred (net_of g) (numbered_port p) (context_of vs ns)
