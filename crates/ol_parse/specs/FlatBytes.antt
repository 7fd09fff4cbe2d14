-- Private: the flat state of the reader over bytes.
use Rattle.std.specs.Prelude.{◌≡◌, ℕ, ◌+◌, List, [], ◌∷◌, length, Bool, true, false, Option, Some}
use Rattle.std.specs.Prelude.{None, slice_index, slice_range}
use Rattle.ol_parse.specs.Grammar.{Named, Token, name, let_key, in_key, lambda, dot, equals}
use Rattle.ol_parse.specs.Grammar.{open_bracket, close_bracket}
use Rattle.ol_parse.specs.Texts.{IsText, IsRefusedAt, class_of, Class, blank, hash, letter, digit, sign, lead, other}
use Rattle.ol_parse.specs.Reading.{Reading, gap, comment, word, half, gap_step, byte_step, byte_final}
use Rattle.ol_parse.specs.Machine.{State, final}
use Rattle.ol_parse.specs.Flat.{built, Holds}
use Rattle.ol_parse.specs.declared.flat.Op.{Op}
use Rattle.ol_parse.specs.declared.flat.Open.{Open}
use Rattle.ol_parse.specs.declared.flat.Mode.{Mode}
use Rattle.ol_parse.specs.declared.bytes.Class.TheVariants.{Blank, Hash, Letter, Digit, Slash, Dot}
use Rattle.ol_parse.specs.declared.bytes.Class.TheVariants.{Equals, OpenBracket, CloseBracket, Lead}
use Rattle.ol_parse.specs.declared.bytes.Class.TheVariants.{Other}
use Rattle.ol_parse.specs.declared.bytes.Class as code
use Rattle.ol_parse.specs.declared.bytes.Place.{Place}
use Rattle.ol_parse.specs.declared.bytes.Place.TheVariants.{Gap, Comment, Word, Half}
use Rattle.ol_parse.specs.declared.faults.ParseFault.{ParseFault}
use Rattle.ol_parse.specs.declared.faults.ParseFault.TheVariants.{NoMemory, Syntax, Depth}
use Rattle.ol_parse.specs.declared.bytes.Key.{Key}
use Rattle.ol_parse.specs.declared.bytes.Key.TheVariants.{Let, In, Name}

abbrev pub seen : code.Class → Class
seen Blank = blank
seen Hash = hash
seen Letter = letter
seen Digit = digit
seen Slash = sign lambda
seen Dot = sign dot
seen Equals = sign equals
seen OpenBracket = sign open_bracket
seen CloseBracket = sign close_bracket
seen Lead = lead
seen Other = other

abbrev pub key_of : Key → List ℕ → Token
key_of Let w = let_key
key_of In w = in_key
key_of Name w = name w

-- where the word begins, if the reader is in one
abbrev pub from_of : Place → ℕ
from_of (Word from) = from
from_of _ = 0

-- the flat state, just before this place of the text, stands for this one
abbrev pub Stands : List ℕ → ℕ → Reading → Place → Mode → List Open → List Op → Type 0
Stands text at (gap p) Gap m opens ops = Holds p m opens ops
Stands text at (comment p) Comment m opens ops = Holds p m opens ops
Stands text at (word w p) (Word from) m opens ops = (w ≡ slice_range text from at) × Holds p m opens ops
Stands text at (half p) Half m opens ops = Holds p m opens ops
Stands text at _ _ m opens ops = ⊥

abbrev pub NextPlace : List ℕ → ℕ → Option Reading → Option (Place × Mode) → List Open → List Op → Type 0
NextPlace text at (Some s) (Some n) opens ops = Stands text at s n.0 n.1 opens ops
NextPlace text at None None opens ops = Unit {0}
NextPlace text at _ _ opens ops = ⊥

-- the byte at this place is taken, between two tokens
abbrev pub TakesInGap : List ℕ → ℕ → Mode → List Open → List Op → Option (Place × Mode) → List Open → List Op → Type 0
TakesInGap text at m opens ops next opens' ops' = (p : State) → Holds p m opens ops
    → NextPlace text (at + 1) (gap_step p (slice_index text at) (class_of (slice_index text at))) next opens' ops'

-- the byte at this place is taken
abbrev pub TakesByte :
    List ℕ → ℕ → Place → Mode → List Open → List Op → Option (Place × Mode) → List Open → List Op → Type 0
TakesByte text at place m opens ops next opens' ops' = (s : Reading) → Stands text at s place m opens ops
    → NextPlace text (at + 1) (byte_step s (slice_index text at)) next opens' ops'

-- the byte at this place is taken, and all else stays as it is
abbrev pub GoesOn : List ℕ → ℕ → Place → Type 0
GoesOn text at place = (m : Mode) (opens : List Open) (ops : List Op)
    → TakesByte text at place m opens ops (Some (place, m)) opens ops

abbrev pub EndsIn : Option Named → Bool → List Op → Type 0
EndsIn (Some t) true ops = built ops ≡ Some (t ∷ [])
EndsIn None false ops = Unit {0}
EndsIn _ _ ops = ⊥

-- the text ends here, behind a token
abbrev pub Ends : Mode → List Open → List Op → Bool → List Op → Type 0
Ends m opens ops done ops' = (p : State) → Holds p m opens ops → EndsIn (final p) done ops'

-- the text ends here
abbrev pub EndsText : List ℕ → Place → Mode → List Open → List Op → Bool → List Op → Type 0
EndsText text place m opens ops done ops' = (s : Reading) → Stands text (length text) s place m opens ops
    → EndsIn (byte_final s) done ops'

-- the steps build the term of the text
abbrev pub BuildsText : List ℕ → List Op → Type 0
BuildsText text ops = (t : Named) × IsText text t × (built ops ≡ Some (t ∷ []))

-- a fault is that the bytes are no text, and names the dead place
abbrev pub IsRefused : List ℕ → ParseFault → Type 0
IsRefused text NoMemory = Unit {0}
IsRefused text (Syntax at) = IsRefusedAt text at
IsRefused text (Depth d) = ⊥
