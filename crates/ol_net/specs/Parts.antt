-- Kinds of nodes, and their slots
use Rattle.std.specs.Prelude.{ℕ, suc, Bool, true, false}
use Rattle.ol_net.specs.declared.parts.Kind.{Kind}
use Rattle.ol_net.specs.declared.parts.Kind.TheVariants as kind

-- the number of auxiliary ports
abbrev pub arity : Kind → ℕ
arity kind.Lam = 2
arity kind.App = 2
arity kind.Fan = 2
arity kind.Croissant = 1
arity kind.Bracket = 1
arity kind.Eraser = 0

-- the number of slots, the principal one included
abbrev pub slots_of : Kind → ℕ
slots_of k = suc (arity k)

abbrev pub is_eraser : Kind → Bool
is_eraser kind.Eraser = true
is_eraser _ = false
