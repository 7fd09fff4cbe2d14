-- Private: the job of a verb by what clap finds behind it.
use Rattle.std.specs.Prelude.{ℕ, List, [], ◌∷◌, Option, None, Some, if◌then◌else◌, codes, option_and_then, option_map}
use Rattle.std.specs.Str.{bytes_eq}
use Rattle.clap.specs.Words.{first_value, found_of}
use Rattle.clap.specs.declared.parser.matches.ArgMatches.{ArgMatches}
use Rattle.ol_words.specs.Texts.{Text}
use Rattle.ol_words.specs.declared.numbers.Limits.{Limits}
use Rattle.ol_words.specs.Settings.{number_within, setting_row}
use Rattle.ol_words.specs.declared.jobs.Job.{Job}
use Rattle.ol_words.specs.declared.settings.Setting.{Setting}
use Rattle.ol_words.specs.declared.verbs.Verb.{Verb}
use Rattle.ol_words.specs.Asked.{asks, verb_row}
use Rattle.ol_words.specs.Jobs.{numbers}
use Rattle.ol_words.specs.Command.{ids_of}

-- a setting by its value, if it has one
abbrev pub setting_by : Limits → Option Text → Option ℕ
setting_by limits None = Some limits.default
setting_by limits (Some value) = number_within limits value

-- clap gives a flag the value `true` where it is written out
abbrev pub flag_by : Option Text → ℕ
flag_by None = 0
flag_by (Some value) = if bytes_eq value (codes "true") then 1 else 0

-- the number of a setting by what is given to each id
abbrev pub number_by : (Text → Option Text) → Setting → Option ℕ
number_by given s = if (setting_row s).is_flag then Some (flag_by (given (setting_row s).option))
    else setting_by (setting_row s).limits (given (setting_row s).option)

-- the names of ids in order, where each is given one
abbrev pub names_by : (Text → Option Text) → List Text → Option (List Text)
names_by given [] = Some []
names_by given (id ∷ ids) = option_and_then (λ name. option_map (λ more. name ∷ more) (names_by given ids)) (given id)

-- the job of a verb by what is given to each id
abbrev pub job_by : Verb → (Text → Option Text) → Option Job
job_by v given = option_and_then (λ ns. option_and_then (asks v ns) (names_by given (ids_of v)))
    (numbers (number_by given) (verb_row v).settings)

-- the job of a verb by what clap has found
abbrev pub job_found : Verb → ArgMatches → Option Job
job_found v found = job_by v (λ id. first_value (found_of found) id)
