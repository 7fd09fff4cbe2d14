-- What the words of a command line ask for: the verbs with their settings, and what each asks for with its numbers and
-- names. A verb is a `Verb` of src/verbs.rt, and what is asked is a `Job` of src/jobs.rt.
use Rattle.std.specs.Prelude.{ℕ, Bool, ◌&&◌, ◌==◌, List, [], ◌∷◌, Option, None, Some, if◌then◌else◌, codes, option_map}
use Rattle.std.specs.Prelude.{find}
use Rattle.std.specs.Str.{bytes_eq}
use Rattle.ol_term.specs.declared.translations.Translation.{Translation}
use Rattle.ol_term.specs.declared.translations.Translation.TheVariants.{One, Two}
use Rattle.ol_words.specs.Texts.{Text}
use Rattle.ol_words.specs.Settings.{from_to, number_within}
use Rattle.ol_words.specs.declared.settings.Setting.{Setting}
use Rattle.ol_words.specs.declared.settings.Setting.TheVariants as set
use Rattle.ol_words.specs.declared.verbs.Verb.{Verb}
use Rattle.ol_words.specs.declared.verbs.Verb.TheVariants as verbs
use Rattle.ol_words.specs.declared.jobs.Job.{Job}
use Rattle.ol_words.specs.declared.jobs.Job.TheVariants as jobs

-- how a verb is written, and its settings in the order of their numbers
pub record VerbRow : Type 0 where
  pub word : Text
  pub settings : List Setting

-- every verb has the translation, followed by these settings
abbrev pub verb : Text → List Setting → VerbRow
verb word ss = record { word = word; settings = set.Translation ∷ ss }

-- the table of verbs
abbrev pub verb_row : Verb → VerbRow
verb_row verbs.Run = verb (codes "run") (set.Workers ∷ set.Fuel ∷ set.Heads ∷ [])
verb_row verbs.Walk = verb (codes "walk") (set.Edges ∷ set.Heads ∷ [])
verb_row verbs.View = verb (codes "view") (set.After ∷ [])
verb_row verbs.Trace = verb (codes "trace") (set.Workers ∷ set.Fuel ∷ [])
verb_row verbs.Check = verb (codes "check") []
verb_row verbs.Gen = verb (codes "gen") (set.Run ∷ [])
verb_row verbs.Demand = verb (codes "demand") (set.Fuel ∷ set.Heads ∷ [])
verb_row verbs.Certify = verb (codes "certify") (set.Steps ∷ set.Workers ∷ set.Fuel ∷ set.Heads ∷ [])
verb_row verbs.Net = verb (codes "net") (set.FromTerm ∷ set.Workers ∷ set.Fuel ∷ [])
verb_row verbs.Equal = verb (codes "equal") (set.Workers ∷ set.Fuel ∷ set.Heads ∷ [])

abbrev pub all_verbs : List Verb
all_verbs = verbs.Run ∷ verbs.Walk ∷ verbs.View ∷ verbs.Trace ∷ verbs.Check ∷ verbs.Gen
    ∷ verbs.Demand ∷ verbs.Certify ∷ verbs.Net ∷ verbs.Equal ∷ []

abbrev pub verb_named : Text → Option Verb
verb_named word = find (λ v. bytes_eq (verb_row v).word word) all_verbs

-- the translation of a number: 1 or 2
abbrev pub numbered : ℕ → Translation
numbered n = if n == 1 then One else Two

-- the name of standard input
abbrev pub is_input : Text → Bool
is_input name = bytes_eq name (codes "-")

-- standard input can't be both of two files
abbrev pub of_two : (Text → Text → Job) → Text → Text → Option Job
of_two job first second = if is_input first && is_input second then None else Some (job first second)

-- what a verb asks for by the numbers of its settings, that of the translation first, and by its names
abbrev pub asks : Verb → List ℕ → List Text → Option Job
asks verbs.Run (t ∷ workers ∷ fuel ∷ heads ∷ []) (name ∷ []) = Some (jobs.Run (numbered t) workers fuel heads name)
asks verbs.Walk (t ∷ edges ∷ heads ∷ []) (name ∷ []) = Some (jobs.Walk (numbered t) edges heads name)
asks verbs.View (t ∷ after ∷ []) (name ∷ []) = Some (jobs.View (numbered t) after name)
asks verbs.Trace (t ∷ workers ∷ fuel ∷ []) (name ∷ []) = Some (jobs.Trace (numbered t) workers fuel name)
asks verbs.Check (t ∷ []) (term ∷ journal ∷ []) = of_two (jobs.Check (numbered t)) term journal
asks verbs.Gen (t ∷ runs ∷ []) (k ∷ []) = option_map (jobs.Gen (numbered t) (runs == 1)) (number_within (from_to 0 10 0) k)
asks verbs.Demand (t ∷ fuel ∷ heads ∷ []) (name ∷ []) = Some (jobs.Demand (numbered t) fuel heads name)
asks verbs.Certify (t ∷ steps ∷ workers ∷ fuel ∷ heads ∷ []) (name ∷ []) = Some
    (jobs.Certify (numbered t) steps workers fuel heads name)
asks verbs.Net (t ∷ from_term ∷ workers ∷ fuel ∷ []) (name ∷ []) = Some
    (jobs.Net (numbered t) (from_term == 1) workers fuel name)
asks verbs.Equal (t ∷ workers ∷ fuel ∷ heads ∷ []) (first ∷ second ∷ []) = of_two
    (jobs.Equal (numbered t) workers fuel heads) first second
asks _ _ _ = None
