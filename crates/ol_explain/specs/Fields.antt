-- Private: words of private contracts alone: the fields of a line, each before the byte that ends
-- it.
use Rattle.std.specs.Prelude.{◌≡◌, ◌≢◌, ℕ, ◌+◌, ◌≤◌, false, List, [], ◌∷◌, ◌++◌, length, drop, Option, Some, ◌⊎◌, ◌↔◌, codes}
use Rattle.std.specs.Fmt.{decimal}
use Rattle.ol_net.specs.declared.parts.Rule.{Rule}
use Rattle.ol_rules.specs.declared.journal.NodeName.{NodeName}
use Rattle.ol_rules.specs.Names.{comes_before}
use Rattle.ol_view.specs.declared.forms.Form.{Form}
use Rattle.ol_view.specs.TraceTexts.{name_text, line_text, MayBeWritten}
use Rattle.ol_view.specs.RuleNames.{rule_text}
use Rattle.ol_view.specs.Forms.{header_of, line_of}
use Rattle.ol_explain.specs.Afters.{line_with}
use Rattle.ol_explain.specs.Wanted.{IsLine, IsWhole, BreaksOff, AreWanted, bytes_at, greater_at}
use Rattle.ol_explain.specs.declared.wanting.Field.{Field}
use Rattle.ol_explain.specs.declared.wanting.Field.TheVariants as field
use Rattle.ol_explain.specs.declared.wanting.Fault.{Fault}
use Rattle.ol_explain.specs.declared.wanting.Fault.TheVariants as fault

-- the bytes are a field of this kind
abbrev pub IsField : Field → List ℕ → Type 0
IsField field.Header u = (form : Form) × (header_of form ≡ u ++ 10 ∷ [])
IsField field.Rule u = (r : Rule) × (u ≡ rule_text r)
IsField field.Number u = (n : ℕ) × (n ≤ 4294967295) × (u ≡ decimal n)
IsField field.Name u = (x : NodeName) × MayBeWritten x × (u ≡ name_text x)

-- such a field begins with them
abbrev pub Begins : Field → List ℕ → Type 0
Begins f read = (more : List ℕ) × IsField f (read ++ more)

-- The text is these fields, each before the byte that ends it.
abbrev pub AreFields : List (Field × ℕ) → List ℕ → Type 0
AreFields [] text = text ≡ []
AreFields (f ∷ fs) text =
    (u : List ℕ) × (w : List ℕ) × IsField f.0 u × AreFields fs w × (text ≡ u ++ f.1 ∷ w)

-- behind this front of a line exactly these fields are left
abbrev pub FieldsFollow : Option Form → List ℕ → List (Field × ℕ) → Type 0
FieldsFollow form front fs = (t : List ℕ) → IsLine form (front ++ t) ↔ AreFields fs t

-- the two names of a line
abbrev pub pair : List (Field × ℕ)
pair = (field.Name, 32) ∷ (field.Name, 10) ∷ []

-- what is wanted behind the beginning of a field
abbrev pub GoesOn : Field → ℕ → List ℕ → ℕ → Type 0
GoesOn f end read b = Begins f (read ++ b ∷ []) ⊎ (IsField f read × (b ≡ end))

-- a byte that ends a field of this kind, and is none of it
abbrev pub IsEnd : Field → ℕ → Type 0
IsEnd field.Header c = c ≡ 10
IsEnd _ c = (c ≡ 10) ⊎ (c ≡ 32)

-- The line that begins here breaks off in the field that begins there.
pub record IsCut (form : Option Form) (text : List ℕ) (at : ℕ) (f : Field) (end start : ℕ)
    : Type 0 where
  pub front : List ℕ
  pub more : List (Field × ℕ)
  pub start_is : start ≡ at + length front
  pub within : start ≤ length text
  pub text_is : drop at text ≡ front ++ drop start text
  pub left : FieldsFollow form front ((f, end) ∷ more)
  pub is_end : IsEnd f end
  pub cut : (u w : List ℕ) → IsField f u → drop start text ≢ u ++ end ∷ w

-- The names of the line that begins here begin there, behind what the line tells of a rule and a
-- wave.
pub record AreAt (form : Form) (text : List ℕ) (at start : ℕ) : Type 0 where
  pub front : List ℕ
  pub start_is : start ≡ at + length front
  pub text_is : drop at text ≡ front ++ drop start text
  pub left : FieldsFollow (Some form) front pair
  pub rule : Rule
  pub wave : ℕ
  pub wave_may : wave ≤ 4294967295
  pub line : (x y : NodeName) →
      line_of form (record { rule = rule; first = x; second = y }) wave ≡ front ++ line_text x y

-- the fault of the line that begins here
pub data IsFault (form : Form) (text : List ℕ) (at : ℕ) : Fault → Type 0 where
  cut : {f : Field} {end start : ℕ} → IsCut (Some form) text at f end start →
      IsFault form text at (fault.Cut f end start)
  whole : {before : List ℕ} {first second : NodeName} {start : ℕ} →
      IsWhole form (drop at text) before first second → start ≡ at + length before →
      IsFault form text at (fault.Unordered first start)

-- the answer to a line that breaks off
pub record IsBrokenBy (form : Option Form) (text : List ℕ) (at line : ℕ) (out : List ℕ)
    : Type 0 where
  pub before : List ℕ
  pub bytes : List ℕ
  pub breaks : BreaksOff form (drop at text) before
  pub wanted : AreWanted form before bytes
  pub out_is : out ≡ line_with (codes "bad text at line ") line
      ++ bytes_at (at + length before) bytes ++ codes "\n"

-- the answer to a line of this form that is none of the grammar
pub data IsBadBy (form : Form) (text : List ℕ) (at line : ℕ) (out : List ℕ) : Type 0 where
  broken : IsBrokenBy (Some form) text at line out → IsBadBy form text at line out
  unordered : {before : List ℕ} {first second : NodeName} →
      IsWhole form (drop at text) before first second → comes_before first second ≡ false →
      out ≡ line_with (codes "bad text at line ") line
      ++ greater_at (at + length before) first ++ codes "\n" →
      IsBadBy form text at line out
