-- What clap makes of the words behind a verb.
use Rattle.std.proofs.Common.{ℕ, ◌≡◌, ◌∙◌, ◌+◌, ◌<◌, sym, ap, ap₂, refl, arith, true, false, true≢false, Bool, ◌&&◌}
use Rattle.std.proofs.Common.{◌||◌, not, List, [], ◌∷◌, Option, Some, None, if◌then◌else◌, codes, inl, inr, option_map}
use Rattle.std.proofs.Common.{fold, length, map, nat_lt}
use Rattle.std.specs.Prelude.{is_some, option_and_then}
use Rattle.std.specs.List.{list_all}
use Rattle.std.specs.Str.{bytes_eq}
use Rattle.std.proofs.Math.Bool.{or-false}
use Rattle.std.proofs.lemmas.Bool.{and_from, and_parts, cases_Bool, or_right}
use Rattle.std.proofs.lemmas.Bool.Decides.{nat_tests}
use Rattle.std.proofs.lemmas.Slice.Eq.{bytes_eq-Decides}
use Rattle.clap.specs.Walk.{Row, Rule, arg_by_id, arg_by_long, default_rows, finished, first_of}
use Rattle.clap.specs.Walk.{has_long, has_row, reading_by, settled, with_default, with_values}
use Rattle.clap.specs.Takes.{default_passes, is_valid}
use Rattle.clap.specs.declared.builder.value_parser.Reading.{Reading}
use Rattle.clap.specs.declared.parser.matches.ValueSource.TheVariants.{DefaultValue}
use Rattle.ol_words.specs.Texts.{Text}
use Rattle.ol_words.specs.Asked.{asks, verb_row}
use Rattle.ol_words.specs.Command.{ids_of}
use Rattle.ol_words.specs.Found.{flag_by, names_by, number_by, setting_by}
use Rattle.ol_words.specs.Jobs.{number_on, numbers, values_of}
use Rattle.ol_words.specs.Lines.{Line, is_option, line_of}
use Rattle.ol_words.specs.Settings.{from_to, setting, setting_row}
use Rattle.ol_words.specs.Once.{flags_of, is_given_once, is_told_once, known_of, options_of}
use Rattle.ol_words.specs.declared.numbers.Limits.{Limits}
use Rattle.ol_words.specs.declared.settings.Setting.{Setting}
use Rattle.ol_words.specs.declared.settings.Setting.TheVariants as set
use Rattle.ol_words.specs.declared.verbs.Verb.{Verb}
use Rattle.ol_words.proofs.Rows.{first_same, found_in, itself, lacks, with_values_other}
use Rattle.ol_words.proofs.FixedRules.{Reads, idle_at, lands, shape_with}
use Rattle.ol_words.proofs.AnyOrder.{Awaits, Finds, Tells, Values, come_all, few, given_once, name_at, names_count}
use Rattle.ol_words.proofs.AnyOrder.{names_told, nothing_given, rule_as, seen_as, value_told}

-- ---- the rules

-- those of names, from this position on
abbrev name_rules : ℕ → List Text → List Rule
name_rules p [] = []
name_rules p (id ∷ ids) = name_at p id ∷ name_rules (p + 1) ids

-- those of options, some of which are flags, and then of names
abbrev all_rules : List Text → List Text → List Text → List Rule
all_rules flags [] ids = name_rules 1 ids
all_rules flags (o ∷ os) ids = rule_as (is_option flags o) o ∷ all_rules flags os ids

abbrev pub rules_of : Verb → List Rule
rules_of v = all_rules (flags_of v) (options_of v) (ids_of v)

is_long : (b : Bool) (x o : Text) → (not (is_some (rule_as b x).index) && has_long (rule_as b x) o) ≡ bytes_eq x o
is_long true x o = or-false (bytes_eq x o)
is_long false x o = or-false (bytes_eq x o)

id_is : (b : Bool) (x : Text) → (rule_as b x).id ≡ x
id_is true x = refl
id_is false x = refl

module _ (flags ids : List Text) where
  found_by_long : (os : List Text) (o : Text) → is_option os o ≡ true →
      arg_by_long (all_rules flags os ids) o ≡ Some (rule_as (is_option flags o) o)
  found_by_long [] o e = absurd (true≢false (sym e))
  found_by_long (x ∷ os) o e =
      let rule = rule_as (is_option flags x) x in
      let step = λ (b : Bool). if b then Some rule else arg_by_long (all_rules flags os ids) o in
      elim (cases_Bool (bytes_eq x o)) [
        | inl same ↦ ap step (is_long (is_option flags x) x o ∙ same)
            ∙ ap (λ t. Some (rule_as (is_option flags t) t)) ((bytes_eq-Decides x o).0 same)
        | inr other ↦ ap step (is_long (is_option flags x) x o ∙ other)
            ∙ found_by_long os o (sym (ap (λ b. b || is_option os o) other) ∙ e)
      ]

  found_by_id : (os : List Text) (o : Text) → is_option os o ≡ true →
      arg_by_id (all_rules flags os ids) o ≡ Some (rule_as (is_option flags o) o)
  found_by_id [] o e = absurd (true≢false (sym e))
  found_by_id (x ∷ os) o e =
      let rule = rule_as (is_option flags x) x in
      let step = λ (b : Bool). if b then Some rule else arg_by_id (all_rules flags os ids) o in
      let id = ap (λ t. bytes_eq t o) (id_is (is_option flags x) x) in
      elim (cases_Bool (bytes_eq x o)) [
        | inl same ↦ ap step (id ∙ same) ∙ ap (λ t. Some (rule_as (is_option flags t) t))
            ((bytes_eq-Decides x o).0 same)
        | inr other ↦ ap step (id ∙ other) ∙ found_by_id os o (sym (ap (λ b. b || is_option os o) other) ∙ e)
      ]

finds : (v : Verb) → Finds (known_of v) (rules_of v)
finds v = record {
  by_long = found_by_long (flags_of v) (ids_of v) (options_of v);
  by_id = found_by_id (flags_of v) (ids_of v) (options_of v);
}

-- ---- a flag has the default `false`, and nothing else has one

no_default : (a : Rule) (rows : List Row) → a.defaults ≡ [] → with_default rows a ≡ rows
no_default a rows none = elim (cases_Bool (has_row a.id rows)) [
  | inl has ↦ rw has refl
  | inr lacking ↦ rw lacking (rw none refl)
]

names_kept : (p : ℕ) (ids : List Text) (rows : List Row) → fold with_default rows (name_rules p ids) ≡ rows
names_kept p [] rows = refl
names_kept p (id ∷ ids) rows = ap (λ r. fold with_default r (name_rules (p + 1) ids))
    (no_default (name_at p id) rows refl) ∙ names_kept (p + 1) ids rows

module _ (id : Text) (a : Rule) (apart : bytes_eq a.id id ≡ false) (rows : List Row) where
  unset : (vs : List Text) → found_in id (default_rows a.id (reading_by a) vs rows) ≡ found_in id rows
  unset [] = refl
  unset (v ∷ vs) = with_values_other a.id id apart (reading_by a) DefaultValue (v ∷ vs) rows

  other_kept : found_in id (with_default rows a) ≡ found_in id rows
  other_kept = elim (cases_Bool (has_row a.id rows)) [
    | inl has ↦ rw has refl
    | inr lacking ↦ rw lacking (unset a.defaults)
  ]

lacks_found : (id : Text) (rows : List Row) → has_row id rows ≡ false → found_in id rows ≡ None
lacks_found id [] e = refl
lacks_found id (r ∷ rs) e = elim (cases_Bool (bytes_eq r.id id)) [
  | inl same ↦ absurd (true≢false (sym (ap (λ b. b || has_row id rs) same) ∙ e))
  | inr differs ↦ rw differs (lacks_found id rs (sym (ap (λ b. b || has_row id rs) differs) ∙ e))
]

default_first : (id : Text) (how : Reading) (v : Text) (rows : List Row) → has_row id rows ≡ false →
    first_of id (with_values id how DefaultValue (v ∷ []) rows) ≡ Some v
default_first id how v [] e = rw (itself id) refl
default_first id how v (r ∷ rs) e = elim (cases_Bool (bytes_eq r.id id)) [
  | inl same ↦ absurd (true≢false (sym (ap (λ b. b || has_row id rs) same) ∙ e))
  | inr differs ↦ rw differs (rw differs (default_first id how v rs (sym (ap (λ b. b || has_row id rs) differs) ∙ e)))
]

-- what is found stays
still_found : (id : Text) (r : Row) (a : Rule) (rows : List Row) → found_in id rows ≡ Some r →
    found_in id (with_default rows a) ≡ Some r
still_found id r a rows e = elim (cases_Bool (bytes_eq a.id id)) [
  | inl same ↦ elim (cases_Bool (has_row a.id rows)) [
    | inl has ↦ rw has e
    | inr lacking ↦ absurd (clash (sym (lacks_found id rows
        (sym (ap (λ t. has_row t rows) ((bytes_eq-Decides a.id id).0 same)) ∙ lacking)) ∙ e))
  ]
  | inr differs ↦ other_kept id a differs rows ∙ e
]
  where
    clash : ◌≡◌ {A = Option Row} None (Some r) → ⊥
    clash x = cc

module _ (flags ids : List Text) (id : Text) where
  all_found : (r : Row) (os : List Text) (rows : List Row) → found_in id rows ≡ Some r →
      found_in id (fold with_default rows (all_rules flags os ids)) ≡ Some r
  all_found r [] rows e = ap (found_in id) (names_kept 1 ids rows) ∙ e
  all_found r (x ∷ os) rows e = all_found r os (with_default rows (rule_as (is_option flags x) x))
      (still_found id r (rule_as (is_option flags x) x) rows e)

  value_stays : (v : Text) (os : List Text) (rows : List Row) → first_of id rows ≡ Some v →
      first_of id (fold with_default rows (all_rules flags os ids)) ≡ Some v
  value_stays v os rows e = by (found_in id rows) refl
    where
      clash : ◌≡◌ {A = Option Text} None (Some v) → ⊥
      clash x = cc

      by : (found : Option Row) → found_in id rows ≡ found →
          first_of id (fold with_default rows (all_rules flags os ids)) ≡ Some v
      by None is = absurd (clash (sym (first_same id rows [] is) ∙ e))
      by (Some r) is = first_same id _ rows (all_found r os rows is ∙ sym is) ∙ e

  -- no option but a flag gets a value
  option_kept : is_option flags id ≡ false → (os : List Text) (rows : List Row) →
      found_in id (fold with_default rows (all_rules flags os ids)) ≡ found_in id rows
  option_kept none [] rows = ap (found_in id) (names_kept 1 ids rows)
  option_kept none (x ∷ os) rows =
      let rule = rule_as (is_option flags x) x in
      option_kept none os (with_default rows rule) ∙ elim (cases_Bool (bytes_eq x id)) [
        | inl same ↦
            let no_flag : is_option flags x ≡ false = ap (is_option flags) ((bytes_eq-Decides x id).0 same) ∙ none in
            ap (λ b. found_in id (with_default rows (rule_as b x))) no_flag
            ∙ ap (found_in id) (no_default (rule_as false x) rows refl)
        | inr differs ↦ other_kept id rule (ap (λ t. bytes_eq t id) (id_is (is_option flags x) x) ∙ differs) rows
      ]

  -- a flag that isn't given does
  flag_missing : is_option flags id ≡ true → (os : List Text) → is_option os id ≡ true →
      (rows : List Row) → found_in id rows ≡ None
      → first_of id (fold with_default rows (all_rules flags os ids)) ≡ Some (codes "false")
  flag_missing flag [] is rows e = absurd (true≢false (sym is))
  flag_missing flag (x ∷ os) is rows e =
      let rule = rule_as (is_option flags x) x in
      elim (cases_Bool (bytes_eq x id)) [
        | inl same ↦
            let how = reading_by (rule_as true id) in
            let lacking = lacks id rows e in
            let begun : with_default rows rule ≡ with_values id how DefaultValue (codes "false" ∷ []) rows =
            ap (λ t. with_default rows (rule_as (is_option flags t) t))
            ((bytes_eq-Decides x id).0 same) ∙ ap (λ b. with_default rows (rule_as b id)) flag
            ∙ ap (λ b. if b then rows else with_values id how DefaultValue (codes "false" ∷ []) rows) lacking in
            value_stays (codes "false") os (with_default rows rule)
            (ap (first_of id) begun ∙ default_first id how (codes "false") rows lacking)
        | inr differs ↦ flag_missing flag os (sym (ap (λ b. b || is_option os id) differs) ∙ is)
            (with_default rows rule)
            (other_kept id rule (ap (λ t. bytes_eq t id) (id_is (is_option flags x) x) ∙ differs) rows ∙ e)
      ]

-- ---- the job

setting_given : (limits : Limits) (vs : List Text) → nat_lt (length vs) 2 ≡ true →
    setting limits vs ≡ setting_by limits (given_once vs)
setting_given limits [] e = refl
setting_given limits (v ∷ []) e = refl
setting_given limits (v ∷ w ∷ vs) e = absurd (grind (arith, nat_tests))

abbrev switch : Limits
switch = from_to 0 1 0

flag_limits : (s : Setting) → (setting_row s).is_flag ≡ true → (setting_row s).limits ≡ switch
flag_limits set.Run e = refl
flag_limits set.FromTerm e = refl
flag_limits _ e = absurd (true≢false (sym e))

-- the option of a setting is among the flags just where it is one
abbrev is_sound : List Text → Setting → Bool
is_sound flags s = if (setting_row s).is_flag then is_option flags (setting_row s).option
    else not (is_option flags (setting_row s).option)

among_flags : (flag found : Bool) → (if flag then found else not found) ≡ true → found ≡ flag
among_flags true found e = e
among_flags false true e = absurd (true≢false (sym e))
among_flags false false e = refl

abbrev pub are_sound : Verb → Bool
are_sound v = list_all (is_sound (flags_of v)) (verb_row v).settings

module _ (v : Verb) (line : Line) (rows : List Row) (end : Values)
    (t : Tells (known_of v) (ids_of v) nothing_given end line)
    (value : (o : Text) → first_of o rows ≡ end o) (fresh : (o : Text) → end o ≡ None → found_in o rows ≡ None) where
  abbrev given : Text → Option Text
  given id = first_of id (fold with_default rows (rules_of v))

  option_told : (o : Text) → is_option (flags_of v) o ≡ false → given o ≡ end o
  option_told o none = first_same o _ rows (option_kept (flags_of v) (ids_of v) o none (options_of v) rows) ∙ value o

  flag_told : (o : Text) → is_option (flags_of v) o ≡ true → is_option (options_of v) o ≡ true →
      (vs : List Text) → values_of o line.options ≡ vs → length vs < 2
      → setting switch vs ≡ Some (flag_by (given o))
  flag_told o flag is [] e below = ap (λ w. Some (flag_by w))
      (sym (flag_missing (flags_of v) (ids_of v) o flag (options_of v) is rows (fresh o (t.absent o is e))))
  flag_told o flag is (u ∷ []) e below =
      let there = value_stays (flags_of v) (ids_of v) o (codes "true") (options_of v) rows
      (value o ∙ t.given o u is e ∙ ap (λ b. Some (seen_as b u)) flag) in
      ap (λ w. setting switch (w ∷ [])) (t.flag o u flag e) ∙ ap (λ w. Some (flag_by w)) (sym there)
  flag_told o flag is (u ∷ w ∷ vs) e below = absurd (omega arith)

  number_told : (s : Setting) → is_option (flags_of v) (setting_row s).option ≡ (setting_row s).is_flag →
      is_option (options_of v) (setting_row s).option ≡ true
      → is_given_once line (setting_row s).option ≡ true → number_on line s ≡ number_by given s
  number_told s same is once =
      let by_kind = λ (b : Bool). if b then Some (flag_by (given (setting_row s).option)) else setting_by
      (setting_row s).limits (given (setting_row s).option) in
      elim (cases_Bool (setting_row s).is_flag) [
        | inl flagged ↦
            let flag = same ∙ flagged in
            ap (λ l. setting l (values_of (setting_row s).option line.options)) (flag_limits s flagged)
            ∙ flag_told (setting_row s).option flag is (values_of (setting_row s).option line.options) refl (few _ once)
            ∙ sym (ap by_kind flagged)
        | inr plain ↦
            let none = same ∙ plain in
            setting_given (setting_row s).limits (values_of (setting_row s).option line.options) once
            ∙ ap (setting_by (setting_row s).limits)
            (value_told (known_of v) (ids_of v) end line t (setting_row s).option is none once
            ∙ sym (option_told (setting_row s).option none)) ∙ sym (ap by_kind plain)
      ]

  numbers_told : (ss : List Setting) → list_all (is_sound (flags_of v)) ss ≡ true →
      ((o : Text) → is_option (map (λ s. (setting_row s).option) ss) o ≡ true → is_option (options_of v) o ≡ true)
      → list_all (is_given_once line) (map (λ s. (setting_row s).option) ss) ≡ true →
      numbers (number_on line) ss ≡ numbers (number_by given) ss
  numbers_told [] sound known e = refl
  numbers_told (s ∷ rest) sound known e =
      let parts = and_parts _ _ e in
      let sounds = and_parts _ _ sound in
      let first : is_option (map (λ (s : Setting). (setting_row s).option) (s ∷ rest))
      (setting_row s).option ≡ true = rw (itself (setting_row s).option) refl in
      let here = number_told s (among_flags (setting_row s).is_flag _ sounds.0)
      (known (setting_row s).option first) parts.0 in
      let more = numbers_told rest sounds.1
      (λ o later. known o (or_right (bytes_eq (setting_row s).option o)
      (is_option (map (λ (s : Setting). (setting_row s).option) rest) o) later)) parts.1 in
      ap₂ (λ (ns : Option (List ℕ)) (number : Option ℕ).
      option_and_then (λ n. option_map (λ more. n ∷ more) ns) number) more here

  module _ (within : (o : Text) → is_option (flags_of v) o ≡ true → is_option (options_of v) o ≡ true) where
    no_flag : (id : Text) → is_option (options_of v) id ≡ false → is_option (flags_of v) id ≡ false
    no_flag id apart = elim (cases_Bool (is_option (flags_of v) id)) [
      | inl flag ↦ absurd (true≢false (sym (within id flag) ∙ apart))
      | inr none ↦ none
    ]

    names_same : (p : ℕ) (ids : List Text) → Awaits (known_of v) (rules_of v) p ids →
        names_by end ids ≡ names_by given ids
    names_same p [] a = refl
    names_same p (id ∷ ids) a = ap₂ (λ (n : Option Text) (ns : Option (List Text)). option_and_then (λ name. option_map (λ more. name ∷ more) ns) n)
        (sym (option_told id (no_flag id a.2))) (names_same (p + 1) ids a.5)

all_options : (os flags : List Text) → list_all (is_option os) flags ≡ true → (o : Text) →
    is_option flags o ≡ true → is_option os o ≡ true
all_options os [] e o is = absurd (true≢false (sym is))
all_options os (x ∷ flags) e o is =
    let parts = and_parts _ _ e in
    elim (cases_Bool (bytes_eq x o)) [
      | inl same ↦ sym (ap (is_option os) ((bytes_eq-Decides x o).0 same)) ∙ parts.0
      | inr other ↦ all_options os flags parts.1 o (sym (ap (λ b. b || is_option flags o) other) ∙ is)
    ]

-- where clap knows the names of a verb, the job of agreed words is that of the rows that clap finds
pub verb_reads : (v : Verb) → Awaits (known_of v) (rules_of v) 1 (ids_of v) →
    list_all (is_option (options_of v)) (flags_of v) ≡ true → are_sound v ≡ true
    → ((rows : List Row) → (list_all default_passes (rules_of v) && is_valid
    (shape_with (verb_row v).word (rules_of v)) rows false) ≡ true)
    → (rest : List Text) (line : Line) → line_of (known_of v) rest ≡ Some line →
    is_told_once (options_of v) (length (ids_of v)) line ≡ true → Reads v (rules_of v) rest line
verb_reads v awaits options sound valid rest line is e =
    let within = all_options (options_of v) (flags_of v) options in
    let c = come_all (known_of v) (rules_of v) (verb_row v).word (finds v) within (ids_of v) awaits rest line is e in
    let rows = (settled (rules_of v) c.1.held).rows in
    let numbers = numbers_told v line rows c.1.end c.1.tells c.1.stands.value c.1.stands.fresh
    (verb_row v).settings sound (λ o known. known) (and_parts _ _ e).0 in
    let names = names_told c.1.end (ids_of v) line.names c.1.tells.names (names_count (options_of v) (ids_of v) line e)
    ∙ names_same v line rows c.1.end c.1.tells c.1.stands.value c.1.stands.fresh within 1 (ids_of v) awaits in
    let job = ap₂ (λ (ns : Option (List ℕ)) (names : Option (List Text)).
    option_and_then (λ ns. option_and_then (asks v ns) names) ns) numbers names in
    lands v (rules_of v) rest line (idle_at c.1.held c.1.position c.0) c.1.goes job
    (and_from _ _ c.1.stands.settles (valid (finished (rules_of v) c.1.held)))
