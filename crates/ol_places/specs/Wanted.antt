-- Where a text stops being a term, what is wanted there, and the text that tells it.
use Rattle.std.specs.Prelude.{ℕ, Bool, true, not, ◌&&◌, ◌||◌, IsTrue, ◌↔◌, if◌then◌else◌, Option, Some, None}
use Rattle.std.specs.Prelude.{List, [], ◌∷◌, ◌++◌, take, codes}
use Rattle.ol_parse.specs.Grammar.{Named}
use Rattle.ol_parse.specs.Texts.{IsText, BeginsText, IsRefusedAt}
use Rattle.ol_subjects.specs.declared.answers.End.{End}
use Rattle.ol_subjects.specs.declared.answers.End.TheVariants.{Yes, No}
use Rattle.ol_places.specs.declared.stopping.Wants.{Wants}
use Rattle.ol_places.specs.Places.{IsLineOf, place_text}
use Rattle.ol_places.specs.Lets.{IsLetLine}

-- some text begins with these bytes and those behind them
abbrev pub GoesOn : List ℕ → List ℕ → Type 0
GoesOn front next = BeginsText (front ++ next)

-- What is wanted behind bytes that begin a text: a token is if some text goes on with it, on a line
-- of its own. The end is if the bytes are a text, and a byte of a word or of λ if some text goes on
-- with it.
pub record AreWanted (front : List ℕ) (w : Wants) : Type 0 where
  pub close : IsTrue w.close ↔ GoesOn front (codes "\n)\n")
  pub in_key : IsTrue w.in_key ↔ GoesOn front (codes "\nin\n")
  pub dot : IsTrue w.dot ↔ GoesOn front (codes "\n.\n")
  pub equals : IsTrue w.equals ↔ GoesOn front (codes "\n=\n")
  pub name : IsTrue w.name ↔ GoesOn front (codes "\nx\n")
  pub bracket : IsTrue w.bracket ↔ GoesOn front (codes "\n(\n")
  pub lambda : IsTrue w.lambda ↔ GoesOn front (codes "\n\\\n")
  pub let_key : IsTrue w.let_key ↔ GoesOn front (codes "\nlet\n")
  pub end : IsTrue w.end ↔ ((t : Named) × IsText front t)
  pub word : IsTrue w.word ↔ GoesOn front (codes "'")
  pub half : IsTrue w.half ↔ GoesOn front (187 ∷ [])

-- each token with which a term begins is wanted
abbrev pub is_term : Wants → Bool
is_term w = w.name && w.bracket && w.lambda && w.let_key

-- a term may end here
abbrev pub is_whole : Wants → Bool
is_whole w = w.close || w.in_key || w.end

-- a term may end here, or go on by another atom or a body
abbrev pub is_more : Wants → Bool
is_more w = is_term w && is_whole w

-- a term begins here
abbrev pub is_fresh : Wants → Bool
is_fresh w = is_term w && not (is_whole w)

-- a name alone is wanted
abbrev pub is_binder : Wants → Bool
is_binder w = w.name && not (is_term w)

-- no token is wanted
abbrev pub is_cut : Wants → Bool
is_cut w = not (w.name || w.equals)

-- the bytes end in a keyword that can't stand there
abbrev pub is_in_word : Wants → Bool
is_in_word w = is_cut w && w.word

-- the bytes end within λ
abbrev pub is_in_letter : Wants → Bool
is_in_letter w = is_cut w && w.half

abbrev pub piece : Bool → List ℕ → List ℕ
piece wanted word = if wanted then word else []

-- what ends something, and `=`; all but `=` are followed by what goes on
abbrev pub ending_words : Wants → List ℕ
ending_words w =
    piece w.close (codes ") or ") ++ piece w.in_key (codes "in or ") ++ piece w.dot (codes ". or ")
    ++ piece w.end (codes "the end or ") ++ piece w.equals (codes "=")

-- what goes on
abbrev pub going_words : Wants → List ℕ
going_words w =
    piece (is_more w) (codes "more") ++ piece (is_fresh w) (codes "a term")
    ++ piece (is_binder w) (codes "a name")
    ++ piece (is_in_word w) (codes "a longer word, since let and in are keywords")
    ++ piece (is_in_letter w) (codes "the second byte of " ++ 206 ∷ 187 ∷ [])

-- the line that tells what is wanted
abbrev pub wanted_line : Wants → List ℕ
wanted_line w = codes "wanted: " ++ ending_words w ++ going_words w ++ codes "\n"

-- The answer to where a text stops being a term.
pub data IsStop (bytes : List ℕ) : List ℕ → End → Type 0 where
  a_term : {t : Named} → IsText bytes t → IsStop bytes (codes "a term\n") Yes
  stops : {at start end : ℕ} {w : Wants} {let_line : List ℕ} → IsRefusedAt bytes at → IsLineOf bytes at start end →
      AreWanted (take at bytes) w → IsLetLine bytes at let_line →
      IsStop bytes (place_text bytes at start end ++ wanted_line w ++ let_line) No

-- no place where the bytes are a text, else their dead place
abbrev pub IsStopAt : List ℕ → Option ℕ → Type 0
IsStopAt bytes None = (t : Named) × IsText bytes t
IsStopAt bytes (Some at) = IsRefusedAt bytes at
