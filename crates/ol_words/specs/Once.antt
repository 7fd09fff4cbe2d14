-- Private: the words that are left to clap: those that give each option once at most, and as many
-- names as the verb has.
use Rattle.std.specs.Prelude.{ℕ, ◌&&◌, List, ◌∷◌, Option, None, Some, if◌then◌else◌, length, nat_lt}
use Rattle.std.specs.Prelude.{nat_eq, Bool, false, option_and_then}
use Rattle.std.specs.Option.{option_map_or}
use Rattle.std.specs.List.{list_all}
use Rattle.ol_words.specs.Texts.{Text}
use Rattle.ol_words.specs.Lines.{Known, Line, line_of}
use Rattle.ol_words.specs.declared.verbs.Verb.{Verb}
use Rattle.ol_words.specs.Asked.{verb_named, verb_row}
use Rattle.ol_words.specs.Settings.{flags_in, known_in, options_in}
use Rattle.ol_words.specs.Jobs.{values_of}
use Rattle.ol_words.specs.Command.{ids_of}

abbrev pub is_given_once : Line → Text → Bool
is_given_once line option = nat_lt (length (values_of option line.options)) 2

-- each option is given once at most, and there are so many names
abbrev pub is_told_once : List Text → ℕ → Line → Bool
is_told_once options names line = list_all (is_given_once line) options && nat_eq (length line.names) names

abbrev pub options_of : Verb → List Text
options_of v = options_in (verb_row v).settings

abbrev pub flags_of : Verb → List Text
flags_of v = flags_in (verb_row v).settings

abbrev pub known_of : Verb → Known
known_of v = known_in (verb_row v).settings

abbrev pub is_agreed : Verb → List Text → Bool
is_agreed v rest = option_map_or (is_told_once (options_of v) (length (ids_of v))) (line_of (known_of v) rest) false

-- the verb of words that are left to clap: all words that have a job, and of the others those with a
-- bad number and those that name standard input twice
abbrev pub agreed_verb : List Text → Option Verb
agreed_verb (program ∷ word ∷ rest) = option_and_then (λ v. if is_agreed v rest then Some v else None) (verb_named word)
agreed_verb _ = None
