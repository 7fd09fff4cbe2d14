-- Texts, each its list of bytes.
use Rattle.std.specs.Prelude.{ℕ, List, map, String, string_bytes}
use Rattle.std.specs.declared.alloc.Global.{Global}

abbrev pub Text : Type 0
Text = List ℕ

abbrev pub texts_of : List (String Global) → List Text
texts_of words = map string_bytes words
