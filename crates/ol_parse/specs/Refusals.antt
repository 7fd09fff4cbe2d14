-- Private: what each refusal of a text says.
use Rattle.std.specs.Prelude.{ℕ, List}
use Rattle.ol_parse.specs.Texts.{IsRefusedAt}
use Rattle.ol_parse.specs.declared.faults.ParseFault.{ParseFault}
use Rattle.ol_parse.specs.declared.faults.ParseFault.TheVariants.{NoMemory, Syntax, Depth}
use Rattle.ol_parse.specs.Parsed.{IsTooDeep}

abbrev pub IsFault : List ℕ → ParseFault → Type 0
IsFault text NoMemory = Unit {0}
IsFault text (Syntax at) = IsRefusedAt text at
IsFault text (Depth d) = IsTooDeep text d
