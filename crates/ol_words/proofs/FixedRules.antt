-- The walk over words, step by step, where a subcommand has any rules.
use Rattle.std.proofs.Common.{ℕ, ◌≡◌, ◌∙◌, sym, ap, refl, true, false, Bool, ◌&&◌, List, [], ◌∷◌}
use Rattle.std.proofs.Common.{Option, None, fold, if◌then◌else◌, codes}
use Rattle.std.specs.List.{list_all}
use Rattle.std.specs.Option.{option_map_or}
use Rattle.std.proofs.lemmas.Bool.{and_from, or_right}
use Rattle.clap.specs.Lexer.{long_of}
use Rattle.clap.specs.Walk.{Held, Rule, Step, Walk, after_step, arg_by_index, finished, first_of, idle, long_or_other}
use Rattle.clap.specs.Walk.{nothing_held, option, plain_word, rows_after, short_or_plain, to_positional, trailing}
use Rattle.clap.specs.Walk.{value, walk_from, walked, word_met}
use Rattle.clap.specs.Simple.{Shape, new_shape}
use Rattle.clap.specs.Takes.{bundle_passes, default_passes, flag_word_passes, is_valid, level_passes, other_passes}
use Rattle.clap.specs.Takes.{settle_passes, step_passes, turn_passes, walk_passes}
use Rattle.ol_words.specs.Texts.{Text}
use Rattle.ol_words.specs.Asked.{verb_row}
use Rattle.ol_words.specs.Found.{job_by}
use Rattle.ol_words.specs.Jobs.{job_on}
use Rattle.ol_words.specs.Lines.{Line, is_dashed}
use Rattle.ol_words.specs.declared.verbs.Verb.{Verb}
use Rattle.ol_words.proofs.Shapes.{not_end, plain_long, plain_short}

-- a subcommand of the command line, as clap builds it
abbrev pub shape_with : Text → List Rule → Shape
shape_with word rules = record (new_shape word) {
  rules = rules;
  disable_help_flag = true;
  disable_version_flag = true;
  disable_help_subcommand = true;
  is_built = true;
}

-- where the walk stands while no option waits
abbrev pub idle_at : Held → ℕ → Bool → Walk
idle_at h position is_trailing = record {
  held = h;
  waiting = idle;
  position = position;
  is_trailing = is_trailing;
  stopped = None;
}

-- the walk takes the words, and stands so behind them
pub record Goes (shape : Shape) (walk : Walk) (words : List Text) (end : Walk) : Type 0 where
  pub walks : fold (walked shape.rules []) walk words ≡ end
  pub passes : walk_passes shape [] walk words ≡ true

pub stays : (shape : Shape) (walk : Walk) → Goes shape walk [] walk
unfolding walk_passes
stays shape walk = record { walks = refl; passes = refl }

pub goes_on : (shape : Shape) (walk next end : Walk) (word : Text) (rest : List Text) →
    walked shape.rules [] walk word ≡ next
    → turn_passes shape [] walk word ≡ true → Goes shape next rest end → Goes shape walk (word ∷ rest) end
unfolding walk_passes
goes_on shape walk next end word rest step turn g = record {
  walks = ap (λ w. fold (walked shape.rules []) w rest) step ∙ g.walks;
  passes = and_from _ _ turn (ap (λ w. walk_passes shape [] w rest) step ∙ g.passes);
}

module _ (rules : List Rule) (verb : Text) (h : Held) (position : ℕ) (word : Text) where
  met_plain : is_dashed word ≡ false → word_met rules [] false idle position word h ≡ (h, value)
  met_plain plain = ap (λ b. if b then (h, trailing position) else long_or_other rules idle word
      (long_of word) h) (not_end word plain)
      ∙ ap (λ l. long_or_other rules idle word l h) (plain_long word plain)
      ∙ ap (λ s. short_or_plain rules idle word s h) (plain_short word plain)

  -- a word that is no option goes to the next positional
  pub step_plain : is_dashed word ≡ false
      → walked rules [] (idle_at h position false) word ≡ to_positional rules
      (arg_by_index rules position) word (idle_at h position false) h
  unfolding walked
  step_plain plain = ap (λ (m : Held × Step).
      after_step rules word (idle_at h position false) m.0 m.1) (met_plain plain)

  pub other_plain : is_dashed word ≡ false → other_passes (shape_with verb rules) None word h ≡ true
  other_plain plain =
      or_right _ _ (ap (λ (l : Option (Text × Option Text)). flag_word_passes rules false l word h)
      (plain_long word plain)
      ∙ ap (λ (s : Option Text). option_map_or (λ flags. bundle_passes rules false flags h) s true)
      (plain_short word plain))

  pub pass_plain : is_dashed word ≡ false → step_passes (shape_with verb rules) position h value ≡ true
      → turn_passes (shape_with verb rules) [] (idle_at h position false) word ≡ true
  pass_plain plain ok =
      and_from _ _ (other_plain plain) (ap
      (λ (m : Held × Step). step_passes (shape_with verb rules) position m.0 m.1) (met_plain plain) ∙ ok)

  -- and so does each word behind `--`
  pub step_trailing : walked rules [] (idle_at h position true) word ≡ to_positional rules
      (arg_by_index rules position) word (idle_at h position true) h
  unfolding walked
  step_trailing = refl

  pub pass_trailing : step_passes (shape_with verb rules) position h value ≡ true →
      turn_passes (shape_with verb rules) [] (idle_at h position true) word ≡ true
  pass_trailing ok = ok

-- a word that is no option is the value of the one that waits
pub met_waiting : (rules : List Rule) (h : Held) (position : ℕ) (word o : Text) → is_dashed word ≡ false
    → word_met rules [] false (option o) position word h ≡ plain_word rules (option o) word h
met_waiting rules h position word o plain = ap
    (λ b. if b then (h, trailing position) else long_or_other rules (option o) word
    (long_of word) h) (not_end word plain)
    ∙ ap (λ l. long_or_other rules (option o) word l h) (plain_long word plain)
    ∙ ap (λ s. short_or_plain rules (option o) word s h) (plain_short word plain)

module _ (rules : List Rule) (verb : Text) (h : Held) (position : ℕ) where
  pub step_end : walked rules [] (idle_at h position false) (codes "--") ≡ idle_at h position true
  unfolding walked
  step_end = refl

  pub pass_end : turn_passes (shape_with verb rules) [] (idle_at h position false) (codes "--") ≡ true
  pass_end = refl

-- what clap makes of the words behind a verb, where these say this
abbrev pub Reads : Verb → List Rule → List Text → Line → Type 0
Reads v rules rest line = (job_on v line ≡ job_by v (λ id. first_of id (rows_after rules [] rest)))
    × (level_passes (shape_with (verb_row v).word rules) [] nothing_held rest false ≡ true)

-- once the words are walked over
abbrev pub settles_at : Verb → List Rule → Held → Bool
settles_at v rules h = settle_passes rules false h
    && (list_all default_passes rules && is_valid (shape_with (verb_row v).word rules) (finished rules h) false)

pub lands : (v : Verb) (rules : List Rule) (rest : List Text) (line : Line) (end : Walk) →
    Goes (shape_with (verb_row v).word rules) (walk_from nothing_held) rest end
    → job_on v line ≡ job_by v (λ id. first_of id (finished rules end.held)) →
    settles_at v rules end.held ≡ true → Reads v rules rest line
lands v rules rest line end g job ok = (
  job ∙ ap (λ (w : Walk). job_by v (λ id. first_of id (finished rules w.held))) (sym g.walks),
  and_from _ _ g.passes (ap (λ (w : Walk). settles_at v rules w.held) g.walks ∙ ok),
)
