-- The verbs, as clap is told of them.
use Rattle.std.proofs.Common.{ℕ, ◌≡◌, ◌∙◌, ap, append-nil, append_assoc, refl, true, false, List, ◌&&◌, [], ◌∷◌, ◌++◌}
use Rattle.std.proofs.Common.{Option, Some, None, if◌then◌else◌, inl, inr, true≢false, sym, fold, find}
use Rattle.std.specs.Option.{option_map_or}
use Rattle.std.specs.Prelude.{option_map, nat_eq, length}
use Rattle.std.specs.List.{list_all}
use Rattle.std.specs.Str.{bytes_eq}
use Rattle.std.proofs.lemmas.Slice.Eq.{bytes_eq-Decides}
use Rattle.clap.specs.Walk.{Held, Names, Row, Rule, Walk, answers_to, rows_after, walked, walk_from, nothing_held}
use Rattle.clap.specs.Takes.{default_passes, entered_passes, is_valid, level_passes, settle_passes, turn_passes, walk_passes}
use Rattle.clap.specs.Simple.{Shape, names_of, entered, label_of, rows_at}
use Rattle.clap.specs.Words.{is_simple, built, subcommand_of, takes}
use Rattle.ol_words.specs.Texts.{Text}
use Rattle.ol_words.specs.Asked.{all_verbs, asks, verb_named, verb_row}
use Rattle.ol_words.specs.Command.{app, ids_of}
use Rattle.ol_words.specs.Lines.{Line, is_option, line_of}
use Rattle.ol_words.specs.Once.{flags_of, is_told_once, known_of, options_of}
use Rattle.ol_words.specs.declared.verbs.Verb.{Verb}
use Rattle.ol_words.specs.declared.verbs.Verb.TheVariants as verbs
use Rattle.std.proofs.lemmas.Bool.{and_from, cases_Bool}
use Rattle.ol_words.proofs.FixedRules.{Reads, shape_with}
use Rattle.ol_words.proofs.AnyOrder.{Awaits}
use Rattle.ol_words.proofs.AnyVerb.{are_sound, rules_of, verb_reads}

pub is_simple_app : is_simple app ≡ true
is_simple_app = refl

-- what a verb is to the command line
pub record IsVerb (v : Verb) : Type 0 where
  -- clap leaves the words behind the verb to its subcommand
  pub rows : (program : Text) (rest : List Text) →
      subcommand_of app (program ∷ (verb_row v).word ∷ rest) ≡ Some ((verb_row v).word, rows_after (rules_of v) [] rest)
  -- clap takes the words where the subcommand takes those behind the verb
  pub taken : (program : Text) (rest : List Text) →
      level_passes (shape_with (verb_row v).word (rules_of v)) [] nothing_held rest false ≡ true →
      takes app (program ∷ (verb_row v).word ∷ rest) ≡ true
  -- clap finds in agreed words what they say
  pub reads : (rest : List Text) (line : Line) → line_of (known_of v) rest ≡ Some line →
      is_told_once (options_of v) (length (ids_of v)) line ≡ true → Reads v (rules_of v) rest line

-- there is a job only for as many names as a verb has
pub no_job : (v : Verb) (ns : List ℕ) (names : List Text) →
    nat_eq (length names) (length (ids_of v)) ≡ false → asks v ns names ≡ None
no_job verbs.Run (t ∷ workers ∷ fuel ∷ heads ∷ []) (name ∷ []) e = absurd (true≢false e)
no_job verbs.Walk (t ∷ edges ∷ heads ∷ []) (name ∷ []) e = absurd (true≢false e)
no_job verbs.View (t ∷ after ∷ []) (name ∷ []) e = absurd (true≢false e)
no_job verbs.Trace (t ∷ workers ∷ fuel ∷ []) (name ∷ []) e = absurd (true≢false e)
no_job verbs.Check (t ∷ []) (term ∷ journal ∷ []) e = absurd (true≢false e)
no_job verbs.Gen (t ∷ runs ∷ []) (number ∷ []) e = absurd (true≢false e)
no_job verbs.Demand (t ∷ fuel ∷ heads ∷ []) (name ∷ []) e = absurd (true≢false e)
no_job verbs.Certify (t ∷ steps ∷ workers ∷ fuel ∷ heads ∷ []) (name ∷ []) e = absurd (true≢false e)
no_job verbs.Net (t ∷ from_term ∷ workers ∷ fuel ∷ []) (name ∷ []) e = absurd (true≢false e)
no_job verbs.Equal (t ∷ workers ∷ fuel ∷ heads ∷ []) (first ∷ second ∷ []) e = absurd (true≢false e)
no_job _ _ _ e = refl

-- behind a subcommand the words are left to it
left_to_it : (c : List Rule) (names : Names) (w : Walk) (name : Text) (seen words : List Text)
    → (fold (walked c names) (record w { stopped = Some (name, seen) }) words).stopped ≡ Some (name, seen ++ words)
unfolding walked
left_to_it c names w name seen [] = ap (λ xs. Some (name, xs)) (sym (append-nil seen))
left_to_it c names w name seen (x ∷ xs) = left_to_it c names w name (seen ++ x ∷ []) xs
    ∙ ap (λ ys. Some (name, ys)) (append_assoc seen (x ∷ []) xs)

-- and what was held before stays
held_before : (c : List Rule) (names : Names) (w : Walk) (name : Text) (seen words : List Text)
    → (fold (walked c names) (record w { stopped = Some (name, seen) }) words).held ≡ w.held
unfolding walked
held_before c names w name seen [] = refl
held_before c names w name seen (x ∷ xs) = held_before c names w name (seen ++ x ∷ []) xs

top_shape : Shape
top_shape = (built app).top

stopped_passes : (s : Shape) (names : Names) (w : Walk) (name : Text) (seen words : List Text) →
    walk_passes s names (record w { stopped = Some (name, seen) }) words ≡ true
unfolding walk_passes walked
stopped_passes s names w name seen [] = refl
stopped_passes s names w name seen (x ∷ xs) = stopped_passes s names w name (seen ++ x ∷ []) xs

top_settles : (h : Held) → h ≡ nothing_held → settle_passes top_shape.rules false h ≡ true
top_settles h is = ap (settle_passes top_shape.rules false) is

-- a word that clap takes for a subcommand, as the first of the words
module _ (word : Text) (rules : List Rule)
    (starts : walked top_shape.rules (names_of (built app)) (walk_from nothing_held) word ≡ record
    (walk_from nothing_held) { stopped = Some (word, []) })
    (passes : turn_passes top_shape (names_of (built app)) (walk_from nothing_held) word ≡ true)
    (finds : find (λ s. answers_to word (label_of s)) (built app).subs ≡ Some (shape_with word rules)) where
  stops : (rest : List Text) → (fold (walked top_shape.rules (names_of (built app)))
      (walk_from nothing_held) (word ∷ rest)).stopped ≡ Some (word, rest)
  stops rest = ap (λ (w : Walk). (fold (walked top_shape.rules (names_of (built app))) w rest).stopped) starts
      ∙ left_to_it top_shape.rules (names_of (built app)) (walk_from nothing_held) word [] rest

  holds : (rest : List Text) → (fold (walked top_shape.rules (names_of (built app)))
      (walk_from nothing_held) (word ∷ rest)).held ≡ nothing_held
  holds rest = ap (λ (w : Walk). (fold (walked top_shape.rules (names_of (built app))) w rest).held) starts
      ∙ held_before top_shape.rules (names_of (built app)) (walk_from nothing_held) word [] rest

  rows_behind : (program : Text) (rest : List Text) →
      subcommand_of app (program ∷ word ∷ rest) ≡ Some (word, rows_after rules [] rest)
  unfolding top_shape
  rows_behind program rest = ap (entered (built app)) (stops rest)
      ∙ ap (option_map (λ (s : Shape). rows_at s rest)) finds

  walk_on_passes : (rest : List Text) →
      walk_passes top_shape (names_of (built app)) (walk_from nothing_held) (word ∷ rest) ≡ true
  unfolding walk_passes
  walk_on_passes rest = and_from _ _ passes
      (ap (λ (w : Walk). walk_passes top_shape (names_of (built app)) w rest) starts
      ∙ stopped_passes top_shape (names_of (built app)) (walk_from nothing_held) word [] rest)

  taken_behind : (program : Text) (rest : List Text) →
      level_passes (shape_with word rules) [] nothing_held rest false ≡ true → takes app (program ∷ word ∷ rest) ≡ true
  unfolding top_shape
  taken_behind program rest below =
      let above = and_from _ _ (walk_on_passes rest) (and_from _ _ (top_settles _ (holds rest)) refl) in
      and_from _ _ (ap (entered_passes (built app)) (stops rest)
      ∙ ap (λ (s : Option Shape). option_map_or
      (λ s. level_passes s [] nothing_held rest false) s true) finds ∙ below) above

module _ (v : Verb) where
  -- by what is computed of the verb
  verb_by : walked top_shape.rules (names_of (built app)) (walk_from nothing_held) (verb_row v).word ≡ record
      (walk_from nothing_held) { stopped = Some ((verb_row v).word, []) }
      → turn_passes top_shape (names_of (built app)) (walk_from nothing_held) (verb_row v).word ≡ true
      → find (λ s. answers_to (verb_row v).word (label_of s)) (built app).subs
      ≡ Some (shape_with (verb_row v).word (rules_of v))
      → Awaits (known_of v) (rules_of v) 1 (ids_of v) → list_all (is_option (options_of v)) (flags_of v) ≡ true → are_sound v ≡ true
      → ((rows : List Row) → (list_all default_passes (rules_of v) && is_valid
      (shape_with (verb_row v).word (rules_of v)) rows false) ≡ true) → IsVerb v
  verb_by starts passes finds awaits options sound valid = record {
    rows = rows_behind (verb_row v).word (rules_of v) starts passes finds;
    taken = taken_behind (verb_row v).word (rules_of v) starts passes finds;
    reads = verb_reads v awaits options sound valid;
  }

is_verb : (v : Verb) → IsVerb v
unfolding walked top_shape
is_verb verbs.Run = verb_by verbs.Run refl refl refl (refl, refl, refl, tt, refl, tt) refl refl (λ rows. refl)
is_verb verbs.Walk = verb_by verbs.Walk refl refl refl (refl, refl, refl, tt, refl, tt) refl refl (λ rows. refl)
is_verb verbs.View = verb_by verbs.View refl refl refl (refl, refl, refl, tt, refl, tt) refl refl (λ rows. refl)
is_verb verbs.Trace = verb_by verbs.Trace refl refl refl (refl, refl, refl, tt, refl, tt) refl refl (λ rows. refl)
is_verb verbs.Check = verb_by verbs.Check refl refl refl (refl, refl, refl, (refl, tt), refl, (refl, refl, refl, tt, refl, tt)) refl refl (λ rows. refl)
is_verb verbs.Gen = verb_by verbs.Gen refl refl refl (refl, refl, refl, tt, refl, tt) refl refl (λ rows. refl)
is_verb verbs.Demand = verb_by verbs.Demand refl refl refl (refl, refl, refl, tt, refl, tt) refl refl (λ rows. refl)
is_verb verbs.Certify = verb_by verbs.Certify refl refl refl (refl, refl, refl, tt, refl, tt) refl refl (λ rows. refl)
is_verb verbs.Net = verb_by verbs.Net refl refl refl (refl, refl, refl, tt, refl, tt) refl refl (λ rows. refl)
is_verb verbs.Equal = verb_by verbs.Equal refl refl refl (refl, refl, refl, (refl, tt), refl, (refl, refl, refl, tt, refl, tt)) refl refl (λ rows. refl)

-- a verb that is found among some by a word is written so
found_word : (word : Text) (v : Verb) (vs : List Verb) →
    find (λ x. bytes_eq (verb_row x).word word) vs ≡ Some v → word ≡ (verb_row v).word
found_word word v [] e = absurd (cc)
found_word word v (x ∷ vs) e = elim (cases_Bool (bytes_eq (verb_row x).word word)) [
  | inl same ↦
      let is : x ≡ v = the x (sym (ap (λ b.
      if b then Some x else find (λ y. bytes_eq (verb_row y).word word) vs) same) ∙ e) in
      sym ((bytes_eq-Decides (verb_row x).word word).0 same) ∙ ap (λ y. (verb_row y).word) is
  | inr other ↦ found_word word v vs (sym
      (ap (λ b. if b then Some x else find (λ y. bytes_eq (verb_row y).word word) vs) other) ∙ e)
]
  where
    the : (x : Verb) → ◌≡◌ {A = Option Verb} (Some x) (Some v) → x ≡ v
    the x e = cc

-- each verb that a word names is one of the command line's, and is written so
pub named_is : (word : Text) (v : Verb) → verb_named word ≡ Some v → IsVerb v × (word ≡ (verb_row v).word)
named_is word v e = (is_verb v, found_word word v all_verbs e)
