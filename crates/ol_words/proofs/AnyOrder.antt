-- What clap makes of the words behind a verb whose options, flags and names come in any order.
use Rattle.std.proofs.Common.{ℕ, ◌≡◌, ◌∙◌, ◌+◌, ◌<◌, sym, ap, refl, arith, true, false, true≢false}
use Rattle.std.proofs.Common.{Bool, ◌||◌, List, [], ◌∷◌, Option, Some, None, if◌then◌else◌, codes}
use Rattle.std.proofs.Common.{inl, inr, length, map, min, nat_eq, nat_lt, subst, suc, zero, ◌≤◌}
use Rattle.std.specs.Prelude.{filter, option_and_then, option_map}
use Rattle.std.specs.List.{list_all}
use Rattle.std.specs.Option.{option_map_or}
use Rattle.std.specs.Str.{bytes_eq}
use Rattle.std.proofs.Math.Bool.{and-false}
use Rattle.std.proofs.lemmas.Bool.{and_from, and_parts, cases_Bool, or_right}
use Rattle.std.proofs.lemmas.Bool.Decides.{nat_tests}
use Rattle.std.proofs.lemmas.Slice.Eq.{bytes_eq-Decides}
use Rattle.clap.specs.Lexer.{long_of, usize_max}
use Rattle.clap.specs.Walk.{Held, Row, Rule, Step, Walk, after_flag, after_step, arg_by_id, arg_by_index, arg_by_long}
use Rattle.clap.specs.Walk.{first_of, idle, is_pending, long_met, long_or_other, next, nothing_held, option}
use Rattle.clap.specs.Walk.{option_word, pushed, reacted, settled, to_positional, trailing, used_as, used_by_id, value}
use Rattle.clap.specs.Walk.{walked, word_met, reading_by}
use Rattle.clap.specs.Takes.{flag_word_passes, long_passes, other_passes, positional_passes}
use Rattle.clap.specs.Takes.{settle_passes, step_passes, turn_passes, use_passes}
use Rattle.clap.specs.Simple.{Shape, filled, with_index}
use Rattle.clap.specs.declared.builder.value_parser.Reading.{Reading}
use Rattle.clap.specs.declared.builder.action.ArgAction.TheVariants.{Set}
use Rattle.ol_words.specs.Texts.{Text}
use Rattle.ol_words.specs.Command.{flag_rule, name_rule, option_rule}
use Rattle.ol_words.specs.Found.{names_by}
use Rattle.ol_words.specs.Jobs.{values_of}
use Rattle.ol_words.specs.Lines.{Known, Line, is_dashed, is_end, is_option, line_of, with_name, with_option}
use Rattle.ol_words.specs.Once.{is_given_once, is_told_once}
use Rattle.ol_words.proofs.Rows.{first_same, found_in, itself, lacks, set_fresh, set_other}
use Rattle.ol_words.proofs.Shapes.{Written, written_long}
use Rattle.ol_words.proofs.FixedRules.{Goes, goes_on, idle_at, met_waiting, other_plain, pass_end, pass_plain}
use Rattle.ol_words.proofs.FixedRules.{pass_trailing, shape_with, stays, step_end, step_plain, step_trailing}
use Rattle.ol_words.proofs.Views.{View, view}
use Rattle.ol_words.proofs.Views as views

-- the rule of an option, which may be a flag
abbrev pub rule_as : (is_flag : Bool) → Text → Rule
rule_as true o = filled (flag_rule o)
rule_as false o = filled (option_rule o)

-- the rule of the name at a position
abbrev pub name_at : ℕ → Text → Rule
name_at p id = with_index p (filled (name_rule id))

-- clap finds each option by its name
pub record Finds (known : Known) (rules : List Rule) : Type 0 where
  pub by_long : (o : Text) → is_option known.options o ≡ true →
      arg_by_long rules o ≡ Some (rule_as (is_option known.flags o) o)
  pub by_id : (o : Text) → is_option known.options o ≡ true →
      arg_by_id rules o ≡ Some (rule_as (is_option known.flags o) o)

-- the text is none of these
abbrev pub Differs : Text → List Text → Type 0
Differs x [] = Unit {0}
Differs x (y ∷ ys) = (bytes_eq x y ≡ false) × Differs x ys

-- the names from position p on are those of these ids, and no options
abbrev pub Awaits : Known → List Rule → ℕ → List Text → Type 0
Awaits known rules p [] = Unit {0}
Awaits known rules p (id ∷ ids) = (arg_by_index rules p ≡ Some (name_at p id))
    × (arg_by_id rules id ≡ Some (name_at p id))
    × (is_option known.options id ≡ false) × Differs id ids × (min (p + 1) usize_max ≡ p + 1)
    × Awaits known rules (p + 1) ids

-- what was given to each id
abbrev pub Values : Type 0
Values = Text → Option Text

abbrev pub nothing_given : Values
nothing_given o = None

abbrev pub given_to : Text → Text → Values → Values
given_to x v vals o = if bytes_eq x o then Some v else vals o

given_same : (x v : Text) (vals : Values) → given_to x v vals x ≡ Some v
given_same x v vals = ap (λ b. if b then Some v else vals x) (itself x)

given_other : (x v : Text) (vals : Values) (o : Text) → bytes_eq x o ≡ false → given_to x v vals o ≡ vals o
given_other x v vals o differs = ap (λ b. if b then Some v else vals o) differs

-- none of these was given anything
abbrev pub Unset : Values → List Text → Type 0
Unset vals [] = Unit {0}
Unset vals (id ∷ ids) = (vals id ≡ None) × Unset vals ids

unset_other : (x v : Text) (vals : Values) (ids : List Text) → Differs x ids → Unset vals ids →
    Unset (given_to x v vals) ids
unset_other x v vals [] d u = tt
unset_other x v vals (id ∷ ids) d u = (given_other x v vals id d.0 ∙ u.0, unset_other x v vals ids d.1 u.1)

-- an option is none of the names
option_differs : (os : List Text) (x id : Text) → is_option os x ≡ true → is_option os id ≡ false →
    bytes_eq x id ≡ false
option_differs os x id known apart = elim (cases_Bool (bytes_eq x id)) [
  | inl same ↦ absurd (true≢false (sym known ∙ ap (is_option os) ((bytes_eq-Decides x id).0 same) ∙ apart))
  | inr differs ↦ differs
]

name_differs : (os : List Text) (id o : Text) → is_option os id ≡ false → is_option os o ≡ true → bytes_eq id o ≡ false
name_differs os id o apart known = elim (cases_Bool (bytes_eq id o)) [
  | inl same ↦ absurd (true≢false (sym known ∙ ap (is_option os) (sym ((bytes_eq-Decides id o).0 same)) ∙ apart))
  | inr differs ↦ differs
]

differs_all : (known : Known) (rules : List Rule) (x : Text) → is_option known.options x ≡ true →
    (p : ℕ) (ids : List Text) → Awaits known rules p ids → Differs x ids
differs_all known rules x is p [] a = tt
differs_all known rules x is p (id ∷ ids) a = (
  option_differs known.options x id is a.2,
  differs_all known rules x is (p + 1) ids a.5,
)

-- ---- the values of an option on a line

pub few : (vs : List Text) → nat_lt (length vs) 2 ≡ true → length vs < 2
few vs e = grind (arith, nat_tests)

-- a value, if it is the only one or there is none
abbrev pub given_once : List Text → Option Text
given_once [] = None
given_once (v ∷ more) = Some v

met : (x v o : Text) (options : List (Text × Text)) → bytes_eq x o ≡ true →
    values_of o ((x, v) ∷ options) ≡ v ∷ values_of o options
met x v o options same = ap (λ b. map (λ (g : Text × Text). g.1)
    (if b then (x, v) ∷ filter (λ (g : Text × Text). bytes_eq g.0 o) options else filter
    (λ (g : Text × Text). bytes_eq g.0 o) options)) same

left : (x v o : Text) (options : List (Text × Text)) → bytes_eq x o ≡ false →
    values_of o ((x, v) ∷ options) ≡ values_of o options
left x v o options differs = ap (λ b.
    map (λ (g : Text × Text). g.1) (if b then (x, v) ∷ filter
    (λ (g : Text × Text). bytes_eq g.0 o) options else filter (λ (g : Text × Text). bytes_eq g.0 o) options)) differs

fewer : (v : Text) (a b : List Text) → b ≡ v ∷ a → length b < 2 → a ≡ []
fewer v [] b e below = refl
fewer v (x ∷ a) b e below = absurd (let longer = ap length e in omega (arith, longer, below))

-- each option is given once at most, those that were given before not again
pub record May (known : Known) (vals : Values) (line : Line) : Type 0 where
  pub once : (o : Text) → is_option known.options o ≡ true → length (values_of o line.options) < 2
  pub again : (o v : Text) → is_option known.options o ≡ true → vals o ≡ Some v → values_of o line.options ≡ []

module _ (known : Known) (vals : Values) (line : Line) (x v : Text)
    (is : is_option known.options x ≡ true) (m : May known vals (with_option x v line)) where
  not_empty : v ∷ values_of x line.options ≡ [] → ⊥
  not_empty e = cc

  -- the option wasn't given before
  unset : vals x ≡ None
  unset = by (vals x) refl
    where
      by : (o : Option Text) → vals x ≡ o → vals x ≡ None
      by None e = e
      by (Some u) e = let none = m.again x u is e in let some = met x v x line.options (itself x) in
          absurd (not_empty (sym some ∙ none))

  may_option : (seen : Text) → May known (given_to x seen vals) line
  may_option seen = record {
    once = λ o known_o. elim (cases_Bool (bytes_eq x o)) [
      | inl same ↦ let e = fewer v (values_of o line.options) (values_of o ((x, v) ∷ line.options))
          (met x v o line.options same) (m.once o known_o) in rw e (omega arith)
      | inr differs ↦ rw (← left x v o line.options differs) (m.once o known_o)
    ];
    again = λ o u known_o e. elim (cases_Bool (bytes_eq x o)) [
      | inl same ↦ fewer v (values_of o line.options) (values_of o ((x, v) ∷ line.options))
          (met x v o line.options same) (m.once o known_o)
      | inr differs ↦ sym (left x v o line.options differs)
          ∙ m.again o u known_o (sym (given_other x seen vals o differs) ∙ e)
    ];
  }

may_name : (known : Known) (vals : Values) (line : Line) (id n : Text) →
    is_option known.options id ≡ false → May known vals (with_name n line) → May known (given_to id n vals) line
may_name known vals line id n apart m = record {
  once = m.once;
  again = λ o u known_o e. m.again o u known_o
      (sym (given_other id n vals o (name_differs known.options id o apart known_o)) ∙ e);
}

-- ---- what the values at the end tell of a line

abbrev pub Named : Values → List Text → List Text → Type 0
Named vals [] names = Unit {0}
Named vals (id ∷ ids) [] = Unit {0}
Named vals (id ∷ ids) (n ∷ names) = (vals id ≡ Some n) × Named vals ids names

-- clap gives a flag the value `true`
abbrev pub seen_as : (is_flag : Bool) → Text → Text
seen_as true v = codes "true"
seen_as false v = v

pub record Tells (known : Known) (ids : List Text) (vals end : Values) (line : Line) : Type 0 where
  pub absent : (o : Text) → is_option known.options o ≡ true → values_of o line.options ≡ [] → end o ≡ vals o
  pub given : (o v : Text) → is_option known.options o ≡ true → values_of o line.options ≡ v ∷ [] →
      end o ≡ Some (seen_as (is_option known.flags o) v)
  pub flag : (o v : Text) → is_option known.flags o ≡ true → values_of o line.options ≡ v ∷ [] → v ≡ codes "1"
  pub kept : (o v : Text) → vals o ≡ Some v → end o ≡ Some v
  pub names : Named end ids line.names

tells_nothing : (known : Known) (vals : Values) → Tells known [] vals vals (record { options = []; names = [] })
tells_nothing known vals = record {
  absent = λ o is none. refl;
  given = λ o v is one. absurd (empty v one);
  flag = λ o v is one. absurd (empty v one);
  kept = λ o v e. e;
  names = tt;
}
  where
    empty : (v : Text) → ◌≡◌ {A = List Text} [] (v ∷ []) → ⊥
    empty v e = cc

module _ (known : Known) (ids : List Text) (vals end : Values) (line : Line) (x v : Text)
    (is : is_option known.options x ≡ true)
    (one : is_option known.flags x ≡ true → v ≡ codes "1") (none : vals x ≡ None) where
  abbrev seen : Text
  seen = seen_as (is_option known.flags x) v

  tells_option : Tells known ids (given_to x (seen_as (is_option known.flags x) v) vals) end line →
      Tells known ids vals end (with_option x v line)
  tells_option t = record {
    absent = λ o known_o empty. elim (cases_Bool (bytes_eq x o)) [
      | inl same ↦ absurd (clash o (sym (met x v o line.options same) ∙ empty))
      | inr differs ↦ t.absent o known_o (sym (left x v o line.options differs) ∙ empty)
          ∙ given_other x seen vals o differs
    ];
    given = λ o u known_o single. elim (cases_Bool (bytes_eq x o)) [
      | inl same ↦
          let here : v ∷ values_of o line.options ≡ u ∷ [] = sym (met x v o line.options same) ∙ single in
          let own : end x ≡ Some seen = t.kept x seen (given_same x seen vals) in
          let is_o : x ≡ o = (bytes_eq-Decides x o).0 same in
          ap end (sym is_o) ∙ own ∙ ap (λ f. Some (seen_as f v)) (ap (is_option known.flags) is_o)
          ∙ ap (λ w. Some (seen_as (is_option known.flags o) w)) (first_is o u here)
      | inr differs ↦ t.given o u known_o (sym (left x v o line.options differs) ∙ single)
    ];
    flag = λ o u flagged single. elim (cases_Bool (bytes_eq x o)) [
      | inl same ↦
          let here : v ∷ values_of o line.options ≡ u ∷ [] = sym (met x v o line.options same) ∙ single in
          let is_o : x ≡ o = (bytes_eq-Decides x o).0 same in
          sym (first_is o u here) ∙ one (ap (is_option known.flags) is_o ∙ flagged)
      | inr differs ↦ t.flag o u flagged (sym (left x v o line.options differs) ∙ single)
    ];
    kept = λ o u e. elim (cases_Bool (bytes_eq x o)) [
      | inl same ↦ absurd (unset_clash u (sym none ∙ ap vals ((bytes_eq-Decides x o).0 same) ∙ e))
      | inr differs ↦ t.kept o u (given_other x seen vals o differs ∙ e)
    ];
    names = t.names;
  }
    where
      clash : (o : Text) → v ∷ values_of o line.options ≡ [] → ⊥
      clash o e = cc

      first_is : (o u : Text) → v ∷ values_of o line.options ≡ u ∷ [] → v ≡ u
      first_is o u e = cc

      unset_clash : (u : Text) → ◌≡◌ {A = Option Text} None (Some u) → ⊥
      unset_clash u e = cc

tells_name : (known : Known) (ids : List Text) (vals end : Values) (line : Line) (id n : Text) →
    is_option known.options id ≡ false → vals id ≡ None
    → Tells known ids (given_to id n vals) end line → Tells known (id ∷ ids) vals end (with_name n line)
tells_name known ids vals end line id n apart none t = record {
  absent = λ o known_o empty. t.absent o known_o empty
      ∙ given_other id n vals o (name_differs known.options id o apart known_o);
  given = t.given;
  flag = t.flag;
  kept = λ o u e. elim (cases_Bool (bytes_eq id o)) [
    | inl same ↦ absurd (clash u (sym none ∙ ap vals ((bytes_eq-Decides id o).0 same) ∙ e))
    | inr differs ↦ t.kept o u (given_other id n vals o differs ∙ e)
  ];
  names = (t.kept id n (given_same id n vals), t.names);
}
  where
    clash : (u : Text) → ◌≡◌ {A = Option Text} None (Some u) → ⊥
    clash u e = cc

-- ---- what is held

-- once what waits is used, this is found
pub record Stands (rules : List Rule) (vals : Values) (h : Held) : Type 0 where
  pub settles : settle_passes rules false h ≡ true
  pub value : (o : Text) → first_of o (settled rules h).rows ≡ vals o
  pub fresh : (o : Text) → vals o ≡ None → found_in o (settled rules h).rows ≡ None

pub stands_first : (rules : List Rule) → Stands rules nothing_given nothing_held
stands_first rules = record { settles = refl; value = λ o. refl; fresh = λ o none. refl }

module _ (rules : List Rule) (vals : Values) (h h' : Held) (x v : Text) (how : Reading)
    (s : Stands rules vals h) (none : vals x ≡ None)
    (rows : (settled rules h').rows ≡ used_as Set x how (v ∷ []) (settled rules h).rows)
    (settles : settle_passes rules false h' ≡ true) where
  stands_more : Stands rules (given_to x v vals) h'
  stands_more = record {
    settles = settles;
    value = λ o. elim (cases_Bool (bytes_eq x o)) [
      | inl same ↦
          let is : x ≡ o = (bytes_eq-Decides x o).0 same in
          subst (λ o. first_of o (settled rules h').rows ≡ given_to x v vals o) is
          (ap (first_of x) rows ∙ set_fresh x how v (settled rules h).rows (s.fresh x none) ∙ sym (given_same x v vals))
      | inr differs ↦ ap (first_of o) rows
          ∙ first_same o _ _ (set_other x o differs how (v ∷ []) (settled rules h).rows) ∙ s.value o
          ∙ sym (given_other x v vals o differs)
    ];
    fresh = λ o unset. elim (cases_Bool (bytes_eq x o)) [
      | inl same ↦ absurd (clash (sym (ap (λ b. if b then Some v else vals o) same) ∙ unset))
      | inr differs ↦ ap (found_in o) rows
          ∙ set_other x o differs how (v ∷ []) (settled rules h).rows
          ∙ s.fresh o (sym (given_other x v vals o differs) ∙ unset)
    ];
  }
    where
      clash : ◌≡◌ {A = Option Text} (Some v) None → ⊥
      clash e = cc

pub names_count : (os ids : List Text) (line : Line) → is_told_once os (length ids) line ≡ true →
    length line.names ≡ length ids
names_count os ids line e =
    let same = (and_parts (list_all (is_given_once line) os) (nat_eq (length line.names) (length ids)) e).1 in
    grind (arith, nat_tests, same)

-- ---- one word after another

module _ (known : Known) (rules : List Rule) (verb : Text) (f : Finds known rules) where
  abbrev S : Shape
  S = shape_with verb rules

  abbrev rows_in : Held → List Row
  rows_in h = (settled rules h).rows

  option_fits : (o v : Text) (rows : List Row) → found_in o rows ≡ None →
      use_passes false (rule_as false o) (v ∷ []) rows ≡ true
  option_fits o v rows e = rw (lacks o rows e) refl

  flag_fits : (o : Text) (rows : List Row) → found_in o rows ≡ None → use_passes false (rule_as true o) [] rows ≡ true
  flag_fits o rows e = rw (lacks o rows e) refl

  name_fits : (p : ℕ) (id n : Text) (rows : List Row) → found_in id rows ≡ None →
      use_passes false (name_at p id) (n ∷ []) rows ≡ true
  name_fits p id n rows e = rw (lacks id rows e) refl

  -- a word that writes out an option
  module _ (word o : Text) (v : Option Text) (b : Bool) (h : Held) (p : ℕ)
      (goes : is_end word ≡ false) (long : long_of word ≡ Some (o, v))
      (is : is_option known.options o ≡ true) (kind : is_option known.flags o ≡ b) where
    by_long : arg_by_long rules o ≡ Some (rule_as b o)
    by_long = f.by_long o is ∙ ap (λ b. Some (rule_as b o)) kind

    met_long : word_met rules [] false idle p word h
        ≡ after_flag rules idle word (long_met rules (Some (rule_as b o)) v h).0
        (long_met rules (Some (rule_as b o)) v h).1
    met_long = ap (λ b. if b then (h, trailing p) else long_or_other rules idle word (long_of word) h) goes
        ∙ ap (λ l. long_or_other rules idle word l h) long
        ∙ ap (λ (r : Option Rule). after_flag rules idle word (long_met rules r v h).0 (long_met rules r v h).1) by_long

    step_long : walked rules [] (idle_at h p false) word
        ≡ after_step rules word (idle_at h p false)
        (after_flag rules idle word (long_met rules (Some (rule_as b o)) v h).0
        (long_met rules (Some (rule_as b o)) v h).1).0
        (after_flag rules idle word (long_met rules (Some (rule_as b o)) v h).0
        (long_met rules (Some (rule_as b o)) v h).1).1
    unfolding walked
    step_long = ap (λ (m : Held × Step). after_step rules word (idle_at h p false) m.0 m.1) met_long

    pass_long : long_passes rules false (Some (rule_as b o)) v h ≡ true
        → step_passes S p (after_flag rules idle word (long_met rules (Some (rule_as b o)) v h).0
        (long_met rules (Some (rule_as b o)) v h).1).0
        (after_flag rules idle word (long_met rules (Some (rule_as b o)) v h).0
        (long_met rules (Some (rule_as b o)) v h).1).1 ≡ true
        → turn_passes S [] (idle_at h p false) word ≡ true
    pass_long ok step =
        let word_ok : other_passes S None word h ≡ true =
        or_right _ _ (ap (λ (l : Option (Text × Option Text)). flag_word_passes rules false l word h) long
        ∙ ap (λ (r : Option Rule). long_passes rules false r v h) by_long ∙ ok) in
        and_from _ _ word_ok (ap (λ (m : Held × Step). step_passes S p m.0 m.1) met_long ∙ step)

  abbrev On : Held → ℕ → List Text → Held → ℕ → Bool → Type 0
  On h p words h' p' t = Goes S (idle_at h p false) words (idle_at h' p' t)

  -- what is held once an option was given its value
  module _ (vals : Values) (h : Held) (o v : Text) (s : Stands rules vals h) (none : vals o ≡ None) where
    abbrev held_attached : Held
    held_attached = reacted rules (rule_as false o) (v ∷ []) h

    abbrev held_flag : Held
    held_flag = reacted rules (rule_as true o) [] h

    abbrev held_waits : Held
    held_waits = record (settled rules h) { pending = Some (o, []) }

    abbrev held_value : Held
    held_value = record (settled rules h) { pending = Some (o, v ∷ []) }

    stands_attached : Stands rules (given_to o v vals) held_attached
    stands_attached = stands_more rules vals h held_attached o v (reading_by (rule_as false o)) s none refl refl

    stands_flag : Stands rules (given_to o (codes "true") vals) held_flag
    stands_flag = stands_more rules vals h held_flag o (codes "true") (reading_by (rule_as true o)) s none refl refl

    stands_value : is_option known.options o ≡ true → is_option known.flags o ≡ false →
        Stands rules (given_to o v vals) held_value
    stands_value is kind =
        let by_id : arg_by_id rules o ≡ Some (rule_as false o) = f.by_id o is ∙ ap (λ b. Some (rule_as b o)) kind in
        stands_more rules vals h held_value o v (reading_by (rule_as false o)) s none
        (ap (λ (r : Option Rule). used_by_id r (v ∷ []) (rows_in h)) by_id)
        (ap (λ (r : Option Rule). option_map_or
        (λ a. use_passes false a (v ∷ []) (rows_in h)) r true) by_id ∙ option_fits o v (rows_in h) (s.fresh o none))

    on_attached : (word : Text) (p : ℕ) → is_end word ≡ false → long_of word ≡ Some (o, Some v) →
        is_option known.options o ≡ true → is_option known.flags o ≡ false
        → (rest : List Text) (h' : Held) (p' : ℕ) (t : Bool) → On held_attached p rest h' p' t →
        On h p (word ∷ rest) h' p' t
    on_attached word p goes long is kind rest h' p' t g =
        goes_on S _ (idle_at held_attached p false) _ word rest (step_long word o (Some v) false h p goes long is kind)
        (pass_long word o (Some v) false h p goes long is kind
        (and_from _ _ s.settles (option_fits o v (rows_in h) (s.fresh o none))) refl) g

    on_flag : (word : Text) (p : ℕ) → is_end word ≡ false → long_of word ≡ Some (o, None) →
        is_option known.options o ≡ true → is_option known.flags o ≡ true
        → (rest : List Text) (h' : Held) (p' : ℕ) (t : Bool) → On held_flag p rest h' p' t →
        On h p (word ∷ rest) h' p' t
    on_flag word p goes long is kind rest h' p' t g =
        goes_on S _ (idle_at held_flag p false) _ word rest (step_long word o None true h p goes long is kind)
        (pass_long word o None true h p goes long is kind
        (and_from _ _ s.settles (flag_fits o (rows_in h) (s.fresh o none))) refl) g

    on_value : (word : Text) (p : ℕ) → is_end word ≡ false → long_of word ≡ Some (o, None) →
        is_option known.options o ≡ true → is_option known.flags o ≡ false
        → is_dashed v ≡ false → (rest : List Text) (h' : Held) (p' : ℕ) (t : Bool) →
        On held_value p rest h' p' t → On h p (word ∷ v ∷ rest) h' p' t
    unfolding walked
    on_value word p goes long is kind plain rest h' p' t g =
        let waits : Walk = record (idle_at held_waits p false) { waiting = option o } in
        let by_id : arg_by_id rules o ≡ Some (rule_as false o) = f.by_id o is ∙ ap (λ b. Some (rule_as b o)) kind in
        let met_value = met_waiting rules held_waits p v o plain in
        let takes = ap (λ (r : Option Rule).
        ((option_word r o v held_waits).0, next (option_word r o v held_waits).1)) by_id
        ∙ ap (λ b. (held_value, next (if nat_lt (if b then 1 else 0) 1 then option o else idle))) (itself o) in
        goes_on S _ waits _ word (v ∷ rest) (step_long word o None false h p goes long is kind)
        (pass_long word o None false h p goes long is kind s.settles refl)
        (goes_on S _ (idle_at held_value p false) _ v rest
        (ap (λ (m : Held × Step). after_step rules v waits m.0 m.1) (met_value ∙ takes))
        (and_from _ _ (other_plain rules verb held_waits p v plain)
        (ap (λ (m : Held × Step). step_passes S p m.0 m.1) (met_value ∙ takes))) g)

  -- what is held once a name was given
  module _ (vals : Values) (h : Held) (p : ℕ) (id n : Text) (ids : List Text)
      (s : Stands rules vals h) (none : vals id ≡ None) (a : Awaits known rules p (id ∷ ids)) where
    abbrev held_name : Held
    held_name = pushed id n (settled rules h)

    stands_name : Stands rules (given_to id n vals) held_name
    stands_name = stands_more rules vals h held_name id n (reading_by (name_at p id)) s none
        (ap (λ (r : Option Rule). used_by_id r (n ∷ []) (rows_in h)) a.1)
        (ap (λ (r : Option Rule). option_map_or
        (λ a. use_passes false a (n ∷ []) (rows_in h)) r true) a.1 ∙ name_fits p id n (rows_in h) (s.fresh id none))

    takes_name : (t : Bool) → to_positional rules (arg_by_index rules p) n
        (idle_at h p t) h ≡ idle_at held_name (p + 1) t
    takes_name false = ap (λ (r : Option Rule). to_positional rules r n (idle_at h p false) h) a.0
        ∙ ap (λ b. idle_at (pushed id n (if b then h else settled rules h))
        (min (p + 1) usize_max) false) (and-false (is_pending (name_at p id) h.pending))
        ∙ ap (λ q. idle_at (pushed id n (settled rules h)) q false) a.4
    takes_name true = ap (λ (r : Option Rule). to_positional rules r n (idle_at h p true) h) a.0
        ∙ ap (λ b. idle_at (pushed id n (if b then h else settled rules h))
        (min (p + 1) usize_max) true) (and-false (is_pending (name_at p id) h.pending))
        ∙ ap (λ q. idle_at (pushed id n (settled rules h)) q true) a.4

    name_passes : step_passes S p h value ≡ true
    name_passes = ap (λ (r : Option Rule).
        option_map_or (λ a. positional_passes rules false a h) r false) a.0 ∙ or_right _ _ s.settles

    on_name : is_dashed n ≡ false → (rest : List Text) (h' : Held) (p' : ℕ) (t : Bool) →
        On held_name (p + 1) rest h' p' t → On h p (n ∷ rest) h' p' t
    on_name plain rest h' p' t g =
        goes_on S _ (idle_at held_name (p + 1) false) _ n rest
        (step_plain rules verb h p n plain ∙ takes_name false) (pass_plain rules verb h p n plain name_passes) g

    on_trailing : (rest : List Text) (h' : Held) (p' : ℕ) →
        Goes S (idle_at held_name (p + 1) true) rest (idle_at h' p' true) →
        Goes S (idle_at h p true) (n ∷ rest) (idle_at h' p' true)
    on_trailing rest h' p' g =
        goes_on S _ (idle_at held_name (p + 1) true) _ n rest
        (step_trailing rules verb h p n ∙ takes_name true) (pass_trailing rules verb h p n name_passes) g

  -- ---- all the words

  -- where the walk comes to from here, and what the values there tell of the line
  pub record Comes (ids : List Text) (vals : Values) (h : Held) (p : ℕ) (t t' : Bool)
      (words : List Text) (line : Line) : Type 0 where
    pub held : Held
    pub position : ℕ
    pub end : Values
    pub goes : Goes S (idle_at h p t) words (idle_at held position t')
    pub stands : Stands rules end held
    pub tells : Tells known ids vals end line

  comes_nothing : (ids : List Text) (vals : Values) (h : Held) (p : ℕ) (t : Bool) →
      Stands rules vals h → Comes [] vals h p t t [] (record { options = []; names = [] })
  comes_nothing ids vals h p t s = record {
    held = h;
    position = p;
    end = vals;
    goes = stays S (idle_at h p t);
    stands = s;
    tells = tells_nothing known vals;
  }

  comes_names : (names ids : List Text) (vals : Values) (h : Held) (p : ℕ) → Stands rules vals h →
      Awaits known rules p ids → Unset vals ids → length names ≡ length ids
      → Comes ids vals h p true true names (record { options = []; names = names })
  comes_names [] [] vals h p s a u e = comes_nothing [] vals h p true s
  comes_names [] (id ∷ ids) vals h p s a u e = absurd (omega arith)
  comes_names (n ∷ names) [] vals h p s a u e = absurd (omega arith)
  comes_names (n ∷ names) (id ∷ ids) vals h p s a u e =
      let more = comes_names names ids (given_to id n vals) (held_name vals h p id n ids s u.0 a)
      (p + 1) (stands_name vals h p id n ids s u.0 a) a.5
      (unset_other id n vals ids a.3 u.1) (omega arith) in record {
        held = more.held;
        position = more.position;
        end = more.end;
        goes = on_trailing vals h p id n ids s u.0 a names more.held more.position more.goes;
        stands = more.stands;
        tells = tells_name known ids vals more.end (record { options = []; names = names }) id n a.2 u.0 more.tells;
      }

  -- the walk from here on, with the names that are still to come
  abbrev pub AllCome : List Text → Line → Type 0
  AllCome rest line = (ids : List Text) (vals : Values) (h : Held) (p : ℕ) → Stands rules vals h →
      Awaits known rules p ids → Unset vals ids → May known vals line
      → length line.names ≡ length ids → (t : Bool) × Comes ids vals h p false t rest line

  come_ended : (names : List Text) → AllCome (codes "--" ∷ names) (record { options = []; names = names })
  come_ended names ids vals h p s a u m e =
      let more = comes_names names ids vals h p s a u e in (
        true,
        record {
          held = more.held;
          position = more.position;
          end = more.end;
          goes = goes_on S _ (idle_at h p true) _ (codes "--") names (step_end rules verb h p)
              (pass_end rules verb h p) more.goes;
          stands = more.stands;
          tells = more.tells;
        },
      )

  come_plain : (n : Text) (rest : List Text) (line : Line) → is_dashed n ≡ false →
      AllCome rest line → AllCome (n ∷ rest) (with_name n line)
  come_plain n rest line plain all [] vals h p s a u m e = absurd (omega arith)
  come_plain n rest line plain all (id ∷ ids) vals h p s a u m e =
      let more = all ids (given_to id n vals) (held_name vals h p id n ids s u.0 a) (p + 1)
      (stands_name vals h p id n ids s u.0 a) a.5
      (unset_other id n vals ids a.3 u.1) (may_name known vals line id n a.2 m) (omega arith) in (
        more.0,
        record {
          held = more.1.held;
          position = more.1.position;
          end = more.1.end;
          goes = on_name vals h p id n ids s u.0 a plain rest more.1.held more.1.position more.0 more.1.goes;
          stands = more.1.stands;
          tells = tells_name known ids vals more.1.end line id n a.2 u.0 more.1.tells;
        },
      )

  module _ (word o v : Text) (rest : List Text) (line : Line) (goes : is_end word ≡ false)
      (is : is_option known.options o ≡ true) (all : AllCome rest line)
      (ids : List Text) (vals : Values) (h : Held) (p : ℕ) (s : Stands rules vals h)
      (a : Awaits known rules p ids) (u : Unset vals ids)
      (m : May known vals (with_option o v line)) (e : length line.names ≡ length ids) where
    none : vals o ≡ None
    none = unset known vals line o v is m

    come_flag : is_option known.flags o ≡ true → long_of word ≡ Some (o, None) → v ≡ codes "1" →
        (t : Bool) × Comes ids vals h p false t (word ∷ rest) (with_option o v line)
    come_flag kind long one =
        let more = all ids (given_to o (codes "true") vals) (held_flag vals h o v s none) p
        (stands_flag vals h o v s none) a
        (unset_other o (codes "true") vals ids (differs_all known rules o is p ids a) u)
        (may_option known vals line o v is m (codes "true")) e in (
          more.0,
          record {
            held = more.1.held;
            position = more.1.position;
            end = more.1.end;
            goes = on_flag vals h o v s none word p goes long is kind rest more.1.held
                more.1.position more.0 more.1.goes;
            stands = more.1.stands;
            tells = tells_option known ids vals more.1.end line o v is (λ _. one) none
                (subst (λ b. Tells known ids (given_to o (seen_as b v) vals) more.1.end line) (sym kind) more.1.tells);
          },
        )

    come_attached : is_option known.flags o ≡ false → long_of word ≡ Some (o, Some v) →
        (t : Bool) × Comes ids vals h p false t (word ∷ rest) (with_option o v line)
    come_attached kind long =
        let more = all ids (given_to o v vals) (held_attached vals h o v s none) p (stands_attached vals h o v s none) a
        (unset_other o v vals ids (differs_all known rules o is p ids a) u)
        (may_option known vals line o v is m v) e in (
          more.0,
          record {
            held = more.1.held;
            position = more.1.position;
            end = more.1.end;
            goes = on_attached vals h o v s none word p goes long is kind rest more.1.held
                more.1.position more.0 more.1.goes;
            stands = more.1.stands;
            tells = tells_option known ids vals more.1.end line o v is
                (λ bad. absurd (true≢false (sym bad ∙ kind))) none
                (subst (λ b. Tells known ids (given_to o (seen_as b v) vals) more.1.end line) (sym kind) more.1.tells);
          },
        )

    come_value : is_option known.flags o ≡ false → long_of word ≡ Some (o, None) →
        is_dashed v ≡ false → (t : Bool) × Comes ids vals h p false t (word ∷ v ∷ rest) (with_option o v line)
    come_value kind long plain =
        let more = all ids (given_to o v vals) (held_value vals h o v s none) p
        (stands_value vals h o v s none is kind) a
        (unset_other o v vals ids (differs_all known rules o is p ids a) u)
        (may_option known vals line o v is m v) e in (
          more.0,
          record {
            held = more.1.held;
            position = more.1.position;
            end = more.1.end;
            goes = on_value vals h o v s none word p goes long is kind plain rest more.1.held
                more.1.position more.0 more.1.goes;
            stands = more.1.stands;
            tells = tells_option known ids vals more.1.end line o v is
                (λ bad. absurd (true≢false (sym bad ∙ kind))) none
                (subst (λ b. Tells known ids (given_to o (seen_as b v) vals) more.1.end line) (sym kind) more.1.tells);
          },
        )

  -- a flag is an option
  module _ (within : (o : Text) → is_option known.flags o ≡ true → is_option known.options o ≡ true) where
    come_written : (word o v : Text) (rest : List Text) (line : Line) → is_end word ≡ false →
        Written known word o (Some v) → AllCome rest line
        → AllCome (word ∷ rest) (with_option o v line)
    come_written word o v rest line goes (inl (flagged, long, one)) all ids vals h p s a u m e =
        come_flag word o v rest line goes (within o flagged) all ids vals h p s a u m e flagged long (the_one one)
      where
        the_one : ◌≡◌ {A = Option Text} (Some v) (Some (codes "1")) → v ≡ codes "1"
        the_one x = cc
    come_written word o v rest line goes (inr (kind, is, long)) all ids vals h p s a u m e =
        come_attached word o v rest line goes is all ids vals h p s a u m e kind long

    come_waits : (word o v : Text) (rest : List Text) (line : Line) → is_end word ≡ false →
        Written known word o None → is_dashed v ≡ false → AllCome rest line
        → AllCome (word ∷ v ∷ rest) (with_option o v line)
    come_waits word o v rest line goes (inl
        (flagged, long, one)) plain all ids vals h p s a u m e = absurd (none_is one)
      where
        none_is : ◌≡◌ {A = Option Text} None (Some (codes "1")) → ⊥
        none_is x = cc
    come_waits word o v rest line goes (inr (kind, is, long)) plain all ids vals h p s a u m e =
        come_value word o v rest line goes is all ids vals h p s a u m e kind long plain

    come_nothing : AllCome [] (record { options = []; names = [] })
    come_nothing [] vals h p s a u m e = (false, comes_nothing [] vals h p false s)
    come_nothing (id ∷ ids) vals h p s a u m e = absurd (omega arith)

    -- n bounds the number of words
    come : (n : ℕ) (rest : List Text) (line : Line) → length rest ≤ n → View known rest line → AllCome rest line
    come n _ _ b views.nothing = come_nothing
    come n _ _ b (views.ended rest) = come_ended rest
    come zero _ _ b (views.plain w rest line plain is) = absurd (omega arith)
    come zero _ _ b (views.written w rest line o v goes is more) = absurd (omega arith)
    come zero _ _ b (views.waits w v rest line o goes is plain more) = absurd (omega arith)
    come (suc n) _ _ b (views.plain w rest line plain is) = come_plain w rest line plain
        (come n rest line (omega arith) (view known rest line is))
    come (suc n) _ _ b (views.written w rest line o v goes is more) =
        come_written w o v rest line goes (written_long known w o (Some v) goes is)
        (come n rest line (omega arith) (view known rest line more))
    come (suc n) _ _ b (views.waits w v rest line o goes is plain more) =
        come_waits w o v rest line goes (written_long known w o None goes is) plain
        (come n rest line (omega arith) (view known rest line more))

    all_once : (line : Line) (os : List Text) → list_all (is_given_once line) os ≡ true →
        (o : Text) → is_option os o ≡ true → length (values_of o line.options) < 2
    all_once line [] e o is = absurd (true≢false (sym is))
    all_once line (x ∷ os) e o is =
        let parts = and_parts _ _ e in
        elim (cases_Bool (bytes_eq x o)) [
          | inl same ↦ subst (λ t. length (values_of t line.options) < 2)
              ((bytes_eq-Decides x o).0 same) (few _ parts.0)
          | inr other ↦ all_once line os parts.1 o (sym (ap (λ b. b || is_option os o) other) ∙ is)
        ]

    unset_all : (ids : List Text) → Unset nothing_given ids
    unset_all [] = tt
    unset_all (id ∷ ids) = (refl, unset_all ids)

    -- agreed words are walked to their end, and what is held there tells the line
    pub come_all : (ids : List Text) → Awaits known rules 1 ids → (rest : List Text) (line : Line) →
        line_of known rest ≡ Some line
        → is_told_once known.options (length ids) line ≡ true →
        (t : Bool) × Comes ids nothing_given nothing_held 1 false t rest line
    come_all ids a rest line is e =
        let parts = and_parts _ _ e in
        let count = names_count known.options ids line e in
        come (length rest) rest line (omega arith)
        (view known rest line is) ids nothing_given nothing_held 1 (stands_first rules) a (unset_all ids)
        (record { once = all_once line known.options parts.0; again = λ o v known_o bad. absurd (never v bad) }) count
      where
        never : (v : Text) → ◌≡◌ {A = Option Text} None (Some v) → ⊥
        never v x = cc

-- ---- what the words of a verb tell

pub names_told : (vals : Values) (ids names : List Text) → Named vals ids names →
    length names ≡ length ids → Some names ≡ names_by vals ids
names_told vals [] [] n e = refl
names_told vals [] (m ∷ names) n e = absurd (omega arith)
names_told vals (id ∷ ids) [] n e = absurd (omega arith)
names_told vals (id ∷ ids) (m ∷ names) n e = ap (option_map (λ more. m ∷ more))
    (names_told vals ids names n.1 (omega arith))
    ∙ ap (option_and_then (λ name. option_map (λ more. name ∷ more) (names_by vals ids))) (sym n.0)

module _ (known : Known) (ids : List Text) (end : Values) (line : Line)
    (t : Tells known ids nothing_given end line) (o : Text)
    (is : is_option known.options o ≡ true) (kind : is_option known.flags o ≡ false) where
  value_is : (vs : List Text) → values_of o line.options ≡ vs → length vs < 2 → given_once vs ≡ end o
  value_is [] e below = sym (t.absent o is e)
  value_is (v ∷ []) e below = sym (t.given o v is e ∙ ap (λ b. Some (seen_as b v)) kind)
  value_is (v ∷ w ∷ vs) e below = absurd (omega arith)

  -- an option that is given once at most has its value, if it is given
  pub value_told : nat_lt (length (values_of o line.options)) 2 ≡ true → given_once (values_of o line.options) ≡ end o
  value_told once = value_is (values_of o line.options) refl (few _ once)
