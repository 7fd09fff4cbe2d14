-- Private: what is seen, as it is kept.
use Rattle.std.specs.Prelude.{◌≡◌, ℕ, List, [], ◌∷◌, slice_range}
use Rattle.std.specs.Option.{option_map}
use Rattle.ol_parse.specs.Grammar as token
use Rattle.ol_parse.specs.Grammar.{Token}
use Rattle.ol_steps.specs.Binders.{Binders}
use Rattle.ol_steps.specs.Trees.{binders_in}
use Rattle.ol_steps.specs.Sights.{Frame, applied, abstracted, bound, bracket, defining, Sight, at, naming, let_name}
use Rattle.ol_steps.specs.Looks.{Look, gap, comment, word, half}
use Rattle.ol_steps.specs.declared.tokens.Token as words
use Rattle.ol_steps.specs.declared.tokens.Token.TheVariants.{Name, Let, In, Lambda, Dot, Equals, Open, Close}
use Rattle.ol_steps.specs.declared.tokens.Round as rounds
use Rattle.ol_steps.specs.declared.tokens.Round.TheVariants.{Applied, Abstracted, Bound, Bracket, Defining}
use Rattle.ol_steps.specs.declared.tokens.Closer as closers
use Rattle.ol_steps.specs.declared.tokens.Closer.TheVariants as closer
use Rattle.ol_steps.specs.declared.tokens.Reading as readings
use Rattle.ol_steps.specs.declared.tokens.Reading.TheVariants as reading
use Rattle.ol_steps.specs.declared.bytes.Place as places
use Rattle.ol_steps.specs.declared.bytes.Place.TheVariants as place

abbrev pub token_in : words.Token → Token
token_in (Name x) = token.name x.now
token_in Let = token.let_key
token_in In = token.in_key
token_in Lambda = token.lambda
token_in Dot = token.dot
token_in Equals = token.equals
token_in Open = token.open_bracket
token_in Close = token.close_bracket

abbrev pub frame_in : rounds.Round → Frame
frame_in (Applied o) = applied (option_map binders_in o)
frame_in (Abstracted x) = abstracted x.now
frame_in (Bound x s) = bound x.now (binders_in s)
frame_in (Bracket o) = bracket (option_map binders_in o)
frame_in (Defining x) = defining x.now

abbrev pub frames_onto : List rounds.Round → List Frame → List Frame
frames_onto [] fs = fs
frames_onto (r ∷ rs) fs = frames_onto rs (frame_in r ∷ fs)

-- what is open, of which the last is the innermost
abbrev pub frames_in : List rounds.Round → List Frame
frames_in rs = frames_onto rs []

abbrev pub sight_of : readings.Reading → List rounds.Round → Sight
sight_of (reading.Term o) rs = at (option_map binders_in o) (frames_in rs)
sight_of reading.Binders rs = naming (frames_in rs)
sight_of reading.LetName rs = let_name (frames_in rs)

-- a whole term, what stops it, and what is open round that
abbrev pub IsEnded : Binders × List Frame → Binders → closers.Closer → List rounds.Round → Type 0
IsEnded p s closer.Nothing rs = (p ≡ (s, [])) × (frames_in rs ≡ [])
IsEnded p s (closer.Bracket o) rs = p ≡ (s, bracket (option_map binders_in o) ∷ frames_in rs)
IsEnded p s (closer.Let x) rs = p ≡ (s, defining x.now ∷ frames_in rs)

-- what is seen just before this place of a text
abbrev pub look_of : List ℕ → ℕ → places.Place → readings.Reading → List rounds.Round → Look
look_of text k place.Gap r rs = gap (sight_of r rs)
look_of text k place.Comment r rs = comment (sight_of r rs)
look_of text k (place.Word from) r rs = word (slice_range text from k) (sight_of r rs)
look_of text k place.Half r rs = half (sight_of r rs)

-- where the word begins, if the place is in one
abbrev pub from_of : places.Place → ℕ
from_of (place.Word from) = from
from_of _ = 0
