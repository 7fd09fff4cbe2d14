-- Of a line that isn't one of a journal: the byte at which it breaks off, and what is wanted there.
use Rattle.std.specs.Prelude.{◌≡◌, ◌≢◌, ℕ, suc, ◌+◌, ◌≤◌, ◌<◌, Bool, true, false, ◌&&◌, ◌==◌, nat_lt, if◌then◌else◌}
use Rattle.std.specs.Prelude.{List, [], ◌∷◌, ◌++◌, length, count_by, codes, Option, None, Some}
use Rattle.std.specs.Fmt.{decimal}
use Rattle.ol_net.specs.Graph.{Graph}
use Rattle.ol_net.specs.Nets.{NamedNet}
use Rattle.ol_rules.specs.declared.journal.NodeName.{NodeName}
use Rattle.ol_rules.specs.declared.journal.Entry.{Entry}
use Rattle.ol_rules.specs.Names.{comes_before}
use Rattle.ol_view.specs.declared.forms.Form.{Form}
use Rattle.ol_view.specs.TraceTexts.{name_text, MayBeWritten}
use Rattle.ol_view.specs.Forms.{header_of, line_of}
use Rattle.ol_view.specs.LineReading.{is_digit}
use Rattle.ol_view.specs.Checks.{start_net_of_graph, BeginsWithRun}
use Rattle.ol_limits.specs.Limits.{most_fuel}

-- ---- where a line breaks off

-- the numbers and places of an entry and its wave are such as may be written
abbrev pub MayBeTold : Entry → ℕ → Type 0
MayBeTold e wave = MayBeWritten e.first × MayBeWritten e.second × (wave ≤ 4294967295)

-- The text is a line, whatever the order of its names: a first line, or one of a form.
abbrev pub IsLine : Option Form → List ℕ → Type 0
IsLine None text = (form : Form) × (text ≡ header_of form)
IsLine (Some form) text = (e : Entry) × (wave : ℕ) × MayBeTold e wave × (text ≡ line_of form e wave)

-- some line begins so, and this byte follows
abbrev pub IsWanted : Option Form → List ℕ → ℕ → Type 0
IsWanted form before b = (more : List ℕ) × IsLine form (before ++ b ∷ more)

-- The text goes on behind this beginning of a line with what isn't wanted, or ends.
pub record BreaksOff (form : Option Form) (text before : List ℕ) : Type 0 where
  pub after : List ℕ
  pub text_is : text ≡ before ++ after
  pub begins : (b : ℕ) × IsWanted form before b
  pub breaks : (b : ℕ) (more : List ℕ) → after ≡ b ∷ more → IsWanted form before b → ⊥

-- those numbers below n of which it is so, in order
pub data AreThose (P : ℕ → Type 0) : ℕ → List ℕ → Type 0 where
  empty : AreThose P 0 []
  with : {n : ℕ} {bytes : List ℕ} → AreThose P n bytes → P n → AreThose P (suc n) (bytes ++ n ∷ [])
  without : {n : ℕ} {bytes : List ℕ} → AreThose P n bytes → (P n → ⊥) → AreThose P (suc n) bytes

-- the bytes that are wanted
abbrev pub AreWanted : Option Form → List ℕ → List ℕ → Type 0
AreWanted form before bytes = AreThose (IsWanted form before) 256 bytes

-- ---- the words

abbrev pub byte_words : ℕ → List ℕ
byte_words b =
    if b == 10 then codes "a line feed" else (if b == 32 then codes "a space"
    else (if b == 46 then codes "a dot" else b ∷ []))

-- Ten digits are told by one word, at the first of them.
abbrev pub choice_words : Bool → ℕ → List ℕ
choice_words ten b = if ten && b == 48 then codes "a digit" else byte_words b

abbrev pub is_told : Bool → ℕ → Bool
is_told ten b = if ten && nat_lt 48 b then nat_lt 57 b else true

-- words of these bytes, with this before the first, and "or" between two
abbrev pub choices : Bool → List ℕ → List ℕ → List ℕ
choices ten before [] = []
choices ten before (b ∷ bs) =
    if is_told ten b then before ++ choice_words ten b ++ choices ten (codes " or ") bs
    else choices ten before bs

-- what is told of a byte
abbrev pub wanted_at : ℕ → List ℕ → List ℕ
wanted_at at words = codes "byte " ++ decimal at ++ codes ": wanted" ++ words

-- that these bytes are wanted there
abbrev pub bytes_at : ℕ → List ℕ → List ℕ
bytes_at at bytes = wanted_at at (choices (count_by is_digit bytes == 10) (codes " ") bytes)

-- that the second name isn't greater than the first
abbrev pub greater_at : ℕ → NodeName → List ℕ
greater_at at first = wanted_at at (codes " a name greater than " ++ name_text first)

-- that there are as many entries as there may be
abbrev pub end_at : ℕ → List ℕ
end_at at = wanted_at at (codes " the end, after 8000000 entries")

-- ---- the answer

-- A whole line stands here, whatever the order of its names; its first name is this one, and its
-- second begins behind these bytes.
pub record IsWhole (form : Form) (text before : List ℕ) (first second : NodeName) : Type 0 where
  pub entry : Entry
  pub wave : ℕ
  pub may : MayBeTold entry wave
  pub more : List ℕ
  pub text_is : text ≡ line_of form entry wave ++ more
  pub before_is : line_of form entry wave ≡ before ++ (name_text second ++ 10 ∷ [])
  pub first_is : entry.first ≡ first
  pub second_is : entry.second ≡ second

-- Lines up to this one are good, and it begins here.
pub record IsReached (g : Graph) (journal : List ℕ) (line : ℕ) (form : Form) (at : ℕ)
    (rest : List ℕ) : Type 0 where
  pub entries : List Entry
  pub waves : List ℕ
  pub last : NamedNet NodeName
  pub begins : BeginsWithRun form (start_net_of_graph g) journal entries waves last rest
  pub line_is : line ≡ length entries + 2
  pub at_is : at + length rest ≡ length journal

-- Where this line breaks off, and what is wanted there: a byte of the first line, or of one of the
-- journal's form; a greater second name, in a line of the grammar up to the order of its names; or
-- nothing more, behind 8,000,000 entries.
pub data IsBadLine (g : Graph) (journal : List ℕ) (line : ℕ) : List ℕ → Type 0 where
  header : {before bytes : List ℕ} → line ≡ 1 → BreaksOff None journal before →
      AreWanted None before bytes → IsBadLine g journal line (bytes_at (length before) bytes)
  breaks : {form : Form} {at : ℕ} {rest before bytes : List ℕ} →
      IsReached g journal line form at rest → line < most_fuel + 2 →
      BreaksOff (Some form) rest before → AreWanted (Some form) before bytes →
      IsBadLine g journal line (bytes_at (at + length before) bytes)
  unordered : {form : Form} {at : ℕ} {rest before : List ℕ} {first second : NodeName} →
      IsReached g journal line form at rest → line < most_fuel + 2 →
      IsWhole form rest before first second → comes_before first second ≡ false →
      IsBadLine g journal line (greater_at (at + length before) first)
  full : {form : Form} {at : ℕ} {rest : List ℕ} → IsReached g journal line form at rest →
      line ≡ most_fuel + 2 → rest ≢ [] → IsBadLine g journal line (end_at at)
