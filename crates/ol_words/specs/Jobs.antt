-- The job of a list of words: how a line is read by the tables of settings and of verbs.
use Rattle.std.specs.Prelude.{ℕ, List, [], ◌∷◌, Option, None, Some, map, filter, option_map, option_and_then}
use Rattle.std.specs.Str.{bytes_eq}
use Rattle.ol_words.specs.Texts.{Text}
use Rattle.ol_words.specs.declared.jobs.Job.{Job}
use Rattle.ol_words.specs.declared.settings.Setting.{Setting}
use Rattle.ol_words.specs.declared.verbs.Verb.{Verb}
use Rattle.ol_words.specs.Asked.{asks, verb_named, verb_row}
use Rattle.ol_words.specs.Settings.{known_in, setting_row, setting}
use Rattle.ol_words.specs.Lines.{Line, line_of}

-- the values that are given to an option
abbrev pub values_of : Text → List (Text × Text) → List Text
values_of option options =
    map (λ (given : Text × Text). given.1) (filter (λ (given : Text × Text). bytes_eq given.0 option) options)

-- the number of a setting on a line
abbrev pub number_on : Line → Setting → Option ℕ
number_on line s = setting (setting_row s).limits (values_of (setting_row s).option line.options)

-- the numbers of settings in order, where each has one
abbrev pub numbers : (Setting → Option ℕ) → List Setting → Option (List ℕ)
numbers number [] = Some []
numbers number (s ∷ rest) = option_and_then (λ n. option_map (λ more. n ∷ more) (numbers number rest)) (number s)

-- the job of what stands behind a verb
abbrev pub job_on : Verb → Line → Option Job
job_on v line = option_and_then (λ ns. asks v ns line.names) (numbers (number_on line) (verb_row v).settings)

abbrev pub job_behind : List Text → Verb → Option Job
job_behind rest v = option_and_then (job_on v) (line_of (known_in (verb_row v).settings) rest)

-- the job of the words of a command line: the first is the program's name and isn't looked at, the second is the verb
abbrev pub job_of : List Text → Option Job
job_of (program ∷ word ∷ rest) = option_and_then (job_behind rest) (verb_named word)
job_of _ = None
