-- What of the grammar of a trace text stands at a place, told apart from what follows it.
use Rattle.std.specs.Prelude.{◌≡◌, ◌≢◌, ℕ, ◌≤◌, List, ◌∷◌, ◌++◌, Option, None, Some, ◌⊎◌}
use Rattle.std.specs.Fmt.{decimal}
use Rattle.ol_net.specs.declared.parts.Rule.{Rule}
use Rattle.ol_rules.specs.declared.journal.NodeName.{NodeName}
use Rattle.ol_rules.specs.declared.journal.NodeName.TheVariants.{Init, Born}
use Rattle.ol_rules.specs.declared.journal.Entry.{Entry}
use Rattle.ol_view.specs.declared.forms.Form.{Form}
use Rattle.ol_view.specs.declared.forms.Form.TheVariants.{One, Two}
use Rattle.ol_view.specs.declared.line_reading.Line.{Line}
use Rattle.ol_view.specs.TraceTexts.{name_text, MayBeWritten}
use Rattle.ol_view.specs.RuleNames.{rule_text}
use Rattle.ol_view.specs.Forms.{BeginsWithEntry}

-- The number goes on with this byte: with a digit, where it isn't zero.
abbrev pub NumberGoesOn : ℕ → ℕ → Type 0
NumberGoesOn n byte = (n ≢ 0) × (48 ≤ byte) × (byte ≤ 57)

-- The text begins with this number, as far as it goes, and this follows.
pub record BeginsWithNumber (text : List ℕ) (n : ℕ) (rest : List ℕ) : Type 0 where
  pub begins : text ≡ decimal n ++ rest
  pub may : n ≤ 4294967295
  pub ends : (byte : ℕ) (more : List ℕ) → rest ≡ byte ∷ more → NumberGoesOn n byte → ⊥

-- The name goes on with this byte: that of a start node as its number does, or with a dot.
abbrev pub NameGoesOn : NodeName → ℕ → Type 0
NameGoesOn (Init k) byte = NumberGoesOn k byte ⊎ (byte ≡ 46)
NameGoesOn (Born ticket place) byte = ⊥

-- The text begins with this name, as far as it goes, and this follows.
pub record BeginsWithName (text : List ℕ) (name : NodeName) (rest : List ℕ) : Type 0 where
  pub begins : text ≡ name_text name ++ rest
  pub may : MayBeWritten name
  pub ends : (byte : ℕ) (more : List ℕ) → rest ≡ byte ∷ more → NameGoesOn name byte → ⊥

-- the text begins with the name of this rule, and this follows
abbrev pub BeginsWithRule : List ℕ → Rule → List ℕ → Type 0
BeginsWithRule text rule rest = text ≡ rule_text rule ++ rest

-- what a line of this form tells of the rule and the wave
abbrev pub told_of : Form → Entry → ℕ → Option (Rule × ℕ)
told_of One entry wave = None
told_of Two entry wave = Some (entry.rule, wave)

-- The text begins with a line of the grammar, which tells this, and this follows.
pub record BeginsWithTold (form : Form) (text : List ℕ) (line : Line) (rest : List ℕ)
    : Type 0 where
  pub entry : Entry
  pub wave : ℕ
  pub begins : BeginsWithEntry form text entry wave rest
  pub told : line.told ≡ told_of form entry wave
  pub first : line.first ≡ entry.first
  pub second : line.second ≡ entry.second
