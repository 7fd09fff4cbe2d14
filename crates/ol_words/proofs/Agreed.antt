-- The job of the words, by what clap finds in them.
use Rattle.std.proofs.Common.{ℕ, ◌≡◌, ◌∙◌, sym, ap, refl, true, false, true≢false, ◌&&◌, List, [], ◌∷◌, Option, Some}
use Rattle.std.proofs.Common.{None, option_map, if◌then◌else◌, inl, inr, length, map, nat_lt, nat_eq, subst}
use Rattle.std.specs.Prelude.{option_and_then, Result, Ok, Err, ◌↔◌}
use Rattle.std.specs.Option.{option_map_or}
use Rattle.std.specs.List.{list_all}
use Rattle.clap.specs.Walk.{Row, first_of, nothing_held, rows_after}
use Rattle.clap.specs.Takes.{level_passes}
use Rattle.clap.specs.Words.{first_value, rows_of, subcommand_of, takes}
use Rattle.clap.specs.declared.parser.matches.Found.{Found}
use Rattle.clap.proofs.WalkLemmas.{first_value-rows}
use Rattle.std.specs.Result.{IsErrAnd}
use Rattle.clap.specs.declared.error.kind.ErrorKind.{ErrorKind}
use Rattle.clap.specs.declared.error.kind.ErrorKind.TheVariants.{OutOfMemory}
use Rattle.ol_words.specs.declared.jobs.Job.{Job}
use Rattle.ol_words.specs.declared.jobs.UsageFault.{UsageFault}
use Rattle.ol_words.specs.declared.jobs.UsageFault.TheVariants.{NoMemory, Refused}
use Rattle.ol_words.specs.Texts.{Text}
use Rattle.ol_words.specs.Asked.{asks, verb_named, verb_row}
use Rattle.ol_words.specs.Command.{app, ids_of}
use Rattle.ol_words.specs.Found.{job_by}
use Rattle.ol_words.specs.Jobs.{job_behind, job_of, job_on, number_on, numbers, values_of}
use Rattle.ol_words.specs.Lines.{Line, line_of}
use Rattle.ol_words.specs.Settings.{setting, setting_row}
use Rattle.ol_words.specs.Once.{agreed_verb, is_agreed, is_given_once, is_told_once, known_of, options_of}
use Rattle.ol_words.specs.declared.numbers.Limits.{Limits}
use Rattle.ol_words.specs.declared.settings.Setting.{Setting}
use Rattle.ol_words.specs.declared.verbs.Verb.{Verb}
use Rattle.std.proofs.lemmas.Bool.{cases_Bool}
use Rattle.ol_words.proofs.FixedRules.{shape_with}
use Rattle.ol_words.proofs.AnyVerb.{rules_of}
use Rattle.ol_words.proofs.Subcommands.{IsVerb, named_is, no_job}

-- ---- words that aren't agreed have no job

again : (limits : Limits) (vs : List Text) → nat_lt (length vs) 2 ≡ false → setting limits vs ≡ None
again limits [] e = absurd (true≢false e)
again limits (v ∷ []) e = absurd (true≢false e)
again limits (v ∷ w ∷ vs) e = refl

none_added : (x : Option ℕ) → option_and_then (λ n. option_map (λ more. n ∷ more) None) x ≡ None
none_added None = refl
none_added (Some n) = refl

numbers_twice : (line : Line) (ss : List Setting) →
    list_all (is_given_once line) (map (λ s. (setting_row s).option) ss) ≡ false → numbers (number_on line) ss ≡ None
numbers_twice line [] e = absurd (true≢false e)
numbers_twice line (s ∷ rest) e = elim (cases_Bool (is_given_once line (setting_row s).option)) [
  | inr twice ↦ ap (λ (number : Option ℕ).
      option_and_then (λ n. option_map (λ more. n ∷ more) (numbers (number_on line) rest)) number)
      (again (setting_row s).limits (values_of (setting_row s).option line.options) twice)
  | inl once ↦
      let later = numbers_twice line rest (sym
      (ap (λ b. b && list_all (is_given_once line)
      (map (λ (s : Setting). (setting_row s).option) rest)) once) ∙ e) in
      ap (λ (ns : Option (List ℕ)). option_and_then (λ n. option_map (λ more. n ∷ more) ns)
      (number_on line s)) later ∙ none_added (number_on line s)
]

none_each : (asks : List ℕ → Option Job) → ((ns : List ℕ) → asks ns ≡ None) →
    (x : Option (List ℕ)) → option_and_then asks x ≡ None
none_each asks none None = refl
none_each asks none (Some ns) = none ns

not_told : (v : Verb) (line : Line) → is_told_once (options_of v) (length (ids_of v)) line ≡ false →
    job_on v line ≡ None
not_told v line e = elim (cases_Bool (list_all (is_given_once line) (options_of v))) [
  | inr twice ↦ ap (λ (ns : Option (List ℕ)). option_and_then (λ ns. asks v ns line.names) ns)
      (numbers_twice line (verb_row v).settings twice)
  | inl once ↦
      let others : nat_eq (length line.names) (length (ids_of v)) ≡ false = sym
      (ap (λ b. b && nat_eq (length line.names) (length (ids_of v))) once) ∙ e in
      none_each (λ ns. asks v ns line.names) (λ ns. no_job v ns line.names others)
      (numbers (number_on line) (verb_row v).settings)
]

line_not_told : (v : Verb) (line : Option Line) →
    option_map_or (is_told_once (options_of v) (length (ids_of v))) line false ≡ false →
    option_and_then (job_on v) line ≡ None
line_not_told v None e = refl
line_not_told v (Some line) e = not_told v line e

some_verb : (v : Verb) → ◌≡◌ {A = Option Verb} (Some v) None → ⊥
some_verb v e = cc

behind_not_agreed : (word : Text) (rest : List Text) (r : Option Verb) → verb_named word ≡ r
    → option_and_then (λ v. if is_agreed v rest then Some v else None) r ≡ None →
    option_and_then (job_behind rest) r ≡ None
behind_not_agreed word rest None is e = refl
behind_not_agreed word rest (Some v) is e = elim (cases_Bool (is_agreed v rest)) [
  | inl agreed ↦ absurd (some_verb v (sym (ap (λ b. if b then Some v else None) agreed) ∙ e))
  | inr other ↦ line_not_told v (line_of (known_of v) rest) other
]

pub not_agreed : (words : List Text) → agreed_verb words ≡ None → job_of words ≡ None
not_agreed [] e = refl
not_agreed (program ∷ []) e = refl
not_agreed (program ∷ word ∷ rest) e = behind_not_agreed word rest (verb_named word) refl e

-- what clap finds in agreed words
pub record Read (words : List Text) (v : Verb) : Type 0 where
  pub rows : List Row
  pub found : subcommand_of app words ≡ Some ((verb_row v).word, rows)
  pub job : job_of words ≡ job_by v (λ id. first_of id rows)
  pub taken : takes app words ≡ true

line_reads : (v : Verb) (is : IsVerb v) (rest : List Text) (line : Option Line) →
    line_of (known_of v) rest ≡ line → option_map_or (is_told_once (options_of v) (length (ids_of v))) line false ≡ true
    → (option_and_then (job_on v) line ≡ job_by v
    (λ id. first_of id (rows_after (rules_of v) [] rest)))
    × (level_passes (shape_with (verb_row v).word (rules_of v)) [] nothing_held rest false ≡ true)
line_reads v is rest None line_is e = absurd (true≢false (sym e))
line_reads v is rest (Some line) line_is e = is.reads rest line line_is e

the_verb : (a b : Verb) → ◌≡◌ {A = Option Verb} (Some a) (Some b) → a ≡ b
the_verb a b e = cc

read_behind : (program word : Text) (rest : List Text) (v : Verb) (r : Option Verb) → verb_named word ≡ r
    → option_and_then (λ v. if is_agreed v rest then Some v else None) r ≡ Some v → Read (program ∷ word ∷ rest) v
read_behind program word rest v None named e = absurd (some_verb v (sym e))
read_behind program word rest v (Some x) named e = elim (cases_Bool (is_agreed x rest)) [
  | inr other ↦ absurd (some_verb v (sym (sym (ap (λ b. if b then Some x else None) other) ∙ e)))
  | inl agreed ↦
      let is = named_is word x named in
      let same = the_verb x v (sym (ap (λ b. if b then Some x else None) agreed) ∙ e) in
      let reads = line_reads x is.0 rest (line_of (known_of x) rest) refl agreed in
      let read : Read (program ∷ word ∷ rest) x = record {
        rows = rows_after (rules_of x) [] rest;
        found = ap (λ w. subcommand_of app (program ∷ w ∷ rest)) is.1 ∙ is.0.rows program rest;
        job = ap (option_and_then (job_behind rest)) named ∙ reads.0;
        taken = ap (λ w. takes app (program ∷ w ∷ rest)) is.1 ∙ is.0.taken program rest reads.1;
      } in
      subst (λ y. Read (program ∷ word ∷ rest) y) same read
]

pub read : (words : List Text) (v : Verb) → agreed_verb words ≡ Some v → Read words v
read [] v e = absurd (some_verb v (sym e))
read (program ∷ []) v e = absurd (some_verb v (sym e))
read (program ∷ word ∷ rest) v e = read_behind program word rest v (verb_named word) refl e

pub job_found : (words : List Text) (v : Verb) (r : Option (Text × List Row)) (rows : List Row) →
    agreed_verb words ≡ Some v → r ≡ subcommand_of app words
    → Some rows ≡ option_map (λ (p : Text × List Row). p.1) r → job_of words ≡ job_by v (λ id. first_of id rows)
job_found words v r rows e is found =
    let all = read words v e in
    let same : Some rows ≡ Some all.rows = found ∙ ap (option_map (λ (p : Text × List Row). p.1)) (is ∙ all.found) in
    all.job ∙ ap (λ (x : Option (List Row)). job_by v (λ id. option_map_or (first_of id) x None)) (sym same)

pub none_found : (words : List Text) (v : Verb) (r : Option (Text × List Row)) →
    agreed_verb words ≡ Some v → r ≡ subcommand_of app words
    → None ≡ option_map (λ (p : Text × List Row). p.1) r → ⊥
none_found words v r e is found =
    let all = read words v e in
    no_row all.rows (found ∙ ap (option_map (λ (p : Text × List Row). p.1)) (is ∙ all.found))
  where
    no_row : (rows : List Row) → ◌≡◌ {A = Option (List Row)} None (Some rows) → ⊥
    no_row rows x = cc

-- the getters read the rows
pub by_values : (v : Verb) (f : Found) → job_by v (λ id. first_of id (rows_of f)) ≡ job_by v (λ id. first_value f id)
by_values v f = ap (job_by v) (sym (λ i id. first_value-rows f id i))

-- a failure of clap on agreed words is want of memory, and isn't told as a refusal
pub not_refused : (words : List Text) (v : Verb) (kind : ErrorKind) (r : Result Job UsageFault) →
    agreed_verb words ≡ Some v → (takes app words ≡ true → kind ≡ OutOfMemory)
    → IsErrAnd r (λ e. (e ≡ NoMemory) ↔ (kind ≡ OutOfMemory)) → r ≡ Err Refused → ⊥
not_refused words v kind (Ok job) e taken told is = absurd (told)
not_refused words v kind (Err fault) e taken told is =
    let memory : fault ≡ NoMemory = told.1 (taken (read words v e).taken) in
    absurd (apart fault memory is)
  where
    apart : (fault : UsageFault) → fault ≡ NoMemory → ◌≡◌ {A = Result Job UsageFault} (Err fault) (Err Refused) → ⊥
    apart fault m x = cc
