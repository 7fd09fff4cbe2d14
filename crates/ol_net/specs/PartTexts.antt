-- The texts of kinds, indexes and ports.
use Rattle.std.specs.Prelude.{ℕ, List, ◌++◌, codes, if◌then◌else◌}
use Rattle.std.specs.Fmt.{decimal}
use Rattle.ol_net.specs.declared.parts.Kind.{Kind}
use Rattle.ol_net.specs.declared.parts.Kind.TheVariants as kind
use Rattle.ol_net.specs.declared.parts.Port.{Port}
use Rattle.ol_net.specs.declared.parts.Port.TheVariants.{Free, Of}
use Rattle.ol_net.specs.Parts.{is_eraser}

abbrev pub kind_text : Kind → List ℕ
kind_text kind.Lam = codes "lam"
kind_text kind.App = codes "app"
kind_text kind.Fan = codes "fan"
kind_text kind.Croissant = codes "croissant"
kind_text kind.Bracket = codes "bracket"
kind_text kind.Eraser = codes "eraser"

-- An eraser has no index: `-` stands for its 0.
abbrev pub index_text : Kind → ℕ → List ℕ
index_text k i = if is_eraser k then codes "-" else decimal i

-- a free port is `f` and its number, a slot the node's number, a dot and one digit
abbrev pub port_text : Port → List ℕ
port_text (Free k) = codes "f" ++ decimal k
port_text (Of n s) = decimal n.0 ++ (codes "." ++ decimal s)
