use Rattle.std.proofs.Common.{◌≡◌, ◌++◌, ◌∷◌, [], ◌+◌, ◌-◌, length, Some, None, Option, option_map}
use Rattle.std.proofs.Common.{map, drop, true, false, sym, ap, ◌∙◌, arith, rules, Bor, string_bytes}
use Rattle.ol_words.specs.Texts.{Text, texts_of}
use Rattle.ol_words.specs.Settings.{known_in}
use Rattle.ol_words.specs.Lines.{is_dashed, is_end, option_of}
use Rattle.ol_words.proofs.SoFar.{so_far, seen, word_here, none_left, value_dashed, value_taken}
use Rattle.ol_words.proofs.SoFar.{value_lacks, all_read, ended, name_taken, written_out}
use Rattle.ol_words.proofs.SoFar.{attached_taken, option_pushed, name_pushed, went_on, rest_length}
use Rattle.std.proofs.lemmas.List.{take_all}
use Rattle.ol_words.proofs.lines.line_of.Goals as goal
use Rattle.ol_words.proofs.lines.line_of.Goals.{in-Some+else-is_dashed+in_ok-push-in-Some}
use Rattle.ol_words.proofs.lines.line_of.Goals.{in-None+else-eq+then-not-is_dashed+in_ok-push-in-None}
use Rattle.ol_words.proofs.lines.line_of.Goals.{in-None+else-eq+else-not-is_dashed+in-Some-default-Some+in_ok-push-in-Some-default-Some}
use Rattle.ol_words.proofs.lines.line_of.Goals.{in-None+else-eq+else-not-is_dashed+in-Some-default-None}

pub returns-then-is_dashed : goal.returns-then-is_dashed
returns-then-is_dashed c =
    let here = sym (word_here (known_in c.args.settings.now)
    (seen c.loop-place.options.items) (map (λ n. n.now) c.loop-place.names.items)
    (option_map (λ o. o.now) c.loop-place.waiting) c.args.words.now c.loop-place.place
    c.index-words-place.result c.loop-place-test.true c.index-words-place.is) ∙ c.loop-place.invariant in
    let waits : option_map (λ o. o.now) c.loop-place.waiting ≡ Some c.in-Some.option.now = search rules in
    let dashed : is_dashed (string_bytes c.index-words-place.result) ≡ true = search rules in
    sym (value_dashed (known_in c.args.settings.now) _ _ _ _ _ c.in-Some.option.now dashed
    (ap (λ w. so_far (known_in c.args.settings.now) (seen c.loop-place.options.items)
    (map (λ n. n.now) c.loop-place.names.items) w
    (string_bytes c.index-words-place.result ∷ texts_of
    (drop (c.loop-place.place + 1) c.args.words.now))) (sym waits) ∙ here))

pub returns-then-eq : goal.returns-then-eq
returns-then-eq c =
    let here = sym (word_here (known_in c.args.settings.now)
    (seen c.loop-place.options.items) (map (λ n. n.now) c.loop-place.names.items)
    (option_map (λ o. o.now) c.loop-place.waiting) c.args.words.now c.loop-place.place
    c.index-words-place.result c.loop-place-test.true c.index-words-place.is) ∙ c.loop-place.invariant in
    let waits : option_map {T = Bor Text} {U = Text} (λ o. o.now) c.loop-place.waiting ≡ None = search rules in
    let ends : is_end (string_bytes c.index-words-place.result) ≡ true = search rules in
    let reads = ended (known_in c.args.settings.now) _ _ _ _ _ ends
    (ap (λ w. so_far (known_in c.args.settings.now) (seen c.loop-place.options.items)
    (map (λ n. n.now) c.loop-place.names.items) w
    (string_bytes c.index-words-place.result ∷ texts_of
    (drop (c.loop-place.place + 1) c.args.words.now))) (sym waits) ∙ here) in
    let whole = take_all (length c.args.words.now - (c.loop-place.place + 1))
    (drop (c.loop-place.place + 1) c.args.words.now) (rest_length c.args.words.now (c.loop-place.place + 1)) in
    ap (λ names. Some (record { options = seen c.loop-place.options.items; names = names }))
    (c.in_ok-push_all-in-None.ensures
    ∙ ap (λ l. map (λ n. n.now) c.loop-place.names.items ++ texts_of l) whole) ∙ sym reads

pub returns-in-None-option_of : goal.returns-in-None-option_of
returns-in-None-option_of c =
    let here = sym (word_here (known_in c.args.settings.now)
    (seen c.loop-place.options.items) (map (λ n. n.now) c.loop-place.names.items)
    (option_map (λ o. o.now) c.loop-place.waiting) c.args.words.now c.loop-place.place
    c.index-words-place.result c.loop-place-test.true c.index-words-place.is) ∙ c.loop-place.invariant in
    let waits : option_map {T = Bor Text} {U = Text} (λ o. o.now) c.loop-place.waiting ≡ None = search rules in
    let goes : is_end (string_bytes c.index-words-place.result) ≡ false = search rules in
    let dashed : is_dashed (string_bytes c.index-words-place.result) ≡ true = search rules in
    let found : None ≡ option_of (known_in c.args.settings.now)
    (string_bytes c.index-words-place.result) = search rules in
    written_out (known_in c.args.settings.now) _ _ _ _ _ None found goes dashed
    (ap (λ w. so_far (known_in c.args.settings.now) (seen c.loop-place.options.items)
    (map (λ n. n.now) c.loop-place.names.items) w
    (string_bytes c.index-words-place.result ∷ texts_of
    (drop (c.loop-place.place + 1) c.args.words.now))) (sym waits) ∙ here)

pub loop-place-preserved : goal.loop-place-preserved
loop-place-preserved c =
    let here = sym (word_here (known_in c.args.settings.now)
    (seen c.loop-place.options.items) (map (λ n. n.now) c.loop-place.names.items)
    (option_map (λ o. o.now) c.loop-place.waiting) c.args.words.now c.loop-place.place
    c.index-words-place.result c.loop-place-test.true c.index-words-place.is) ∙ c.loop-place.invariant in
    let turn = λ (w : Option Text) (e : option_map (λ o. o.now) c.loop-place.waiting ≡ w). ap
    (λ w. so_far (known_in c.args.settings.now) (seen c.loop-place.options.items)
    (map (λ n. n.now) c.loop-place.names.items) w
    (string_bytes c.index-words-place.result ∷ texts_of
    (drop (c.loop-place.place + 1) c.args.words.now))) (sym e) ∙ here in
    elim c.match-waiting.branch [
      | in-Some+else-is_dashed+in_ok-push-in-Some w ↦
          let waits : option_map (λ o. o.now) c.loop-place.waiting ≡ Some w.in-Some.option.now = search rules in
          let plain : is_dashed (string_bytes c.index-words-place.result) ≡ false = search rules in
          let taken = value_taken (known_in c.args.settings.now) _ _ _ _ _
          w.in-Some.option.now plain (turn _ waits) in
          let pushed = option_pushed c.match-waiting.options.items c.loop-place.options.items
          w.in-Some.option c.as_bytes-bytes.result (search rules) in
          let value : c.as_bytes-bytes.result.now ≡ string_bytes c.index-words-place.result = search rules in
          went_on (known_in c.args.settings.now) _ _ _ _ _ None _ _
          (pushed ∙ ap (λ v. seen c.loop-place.options.items ++
          (w.in-Some.option.now, v) ∷ []) value) (search rules) (search rules) taken
      | in-None+else-eq+then-not-is_dashed+in_ok-push-in-None w ↦
          let waits : option_map {T = Bor Text} {U = Text} (λ o. o.now) c.loop-place.waiting ≡ None = search rules in
          let goes : is_end (string_bytes c.index-words-place.result) ≡ false = search rules in
          let plain : is_dashed (string_bytes c.index-words-place.result) ≡ false = search rules in
          let taken = name_taken (known_in c.args.settings.now) _ _ _ _ _ goes plain (turn _ waits) in
          let pushed = name_pushed c.match-waiting.names.items c.loop-place.names.items
          c.as_str-word.result (search rules) in
          let value : c.as_str-word.result.now ≡ string_bytes c.index-words-place.result = search rules in
          went_on (known_in c.args.settings.now) _ _ _ _ _ None _ _ (search rules)
          (pushed ∙ ap (λ v. map (λ n. n.now) c.loop-place.names.items ++ v ∷ []) value) (search rules) taken
      | in-None+else-eq+else-not-is_dashed+in-Some-default-Some+in_ok-push-in-Some-default-Some w ↦
          let waits : option_map {T = Bor Text} {U = Text} (λ o. o.now) c.loop-place.waiting ≡ None = search rules in
          let goes : is_end (string_bytes c.index-words-place.result) ≡ false = search rules in
          let dashed : is_dashed (string_bytes c.index-words-place.result) ≡ true = search rules in
          let found : Some (
            w.in-Some-default-Some.option.now,
            Some w.in-Some-default-Some.value.now,
          ) ≡ option_of
          (known_in c.args.settings.now) (string_bytes c.index-words-place.result) = search rules in
          let taken = attached_taken (known_in c.args.settings.now) _ _
          (string_bytes c.index-words-place.result) _ _ _ _
          (written_out (known_in c.args.settings.now) _ _ _ _ _ _ found goes dashed (turn _ waits)) in
          let pushed = option_pushed c.match-waiting.options.items c.loop-place.options.items
          w.in-Some-default-Some.option w.in-Some-default-Some.value (search rules) in
          went_on (known_in c.args.settings.now) _ _ _ _ _ None _ _ pushed
          (search rules) (search rules) taken
      | in-None+else-eq+else-not-is_dashed+in-Some-default-None w ↦
          let waits : option_map {T = Bor Text} {U = Text} (λ o. o.now) c.loop-place.waiting ≡ None = search rules in
          let goes : is_end (string_bytes c.index-words-place.result) ≡ false = search rules in
          let dashed : is_dashed (string_bytes c.index-words-place.result) ≡ true = search rules in
          let found : Some (w.in-Some-default-None.option.now, None) ≡ option_of
          (known_in c.args.settings.now) (string_bytes c.index-words-place.result) = search rules in
          let taken = written_out (known_in c.args.settings.now) _ _ _ _ _ _ found
          goes dashed (turn _ waits) in
          went_on (known_in c.args.settings.now) _ _ _ _ _
          (Some w.in-Some-default-None.option.now) _ _ (search rules) (search rules) (search rules) taken
    ]

pub returns-in-Some-waiting : goal.returns-in-Some-waiting
returns-in-Some-waiting c =
    let waits : option_map (λ o. o.now) c.loop-place.waiting ≡ Some c.in-Some-waiting.field-0.now = search rules in
    let end = sym (none_left (known_in c.args.settings.now)
    (seen c.loop-place.options.items) (map (λ n. n.now) c.loop-place.names.items)
    (option_map (λ o. o.now) c.loop-place.waiting) c.args.words.now c.loop-place.place
    (omega arith)) ∙ c.loop-place.invariant in
    sym (value_lacks (known_in c.args.settings.now) _ _ c.in-Some-waiting.field-0.now
    _ (ap (λ w. so_far (known_in c.args.settings.now)
    (seen c.loop-place.options.items) (map (λ n. n.now) c.loop-place.names.items) w []) (sym waits) ∙ end))

pub returns : goal.returns
returns c =
    let waits : option_map {T = Bor Text} {U = Text} (λ o. o.now) c.loop-place.waiting ≡ None = search rules in
    let end = sym (none_left (known_in c.args.settings.now)
    (seen c.loop-place.options.items) (map (λ n. n.now) c.loop-place.names.items)
    (option_map (λ o. o.now) c.loop-place.waiting) c.args.words.now c.loop-place.place
    (omega arith)) ∙ c.loop-place.invariant in
    sym (all_read (known_in c.args.settings.now) _ _ _
    (ap (λ w. so_far (known_in c.args.settings.now)
    (seen c.loop-place.options.items) (map (λ n. n.now) c.loop-place.names.items) w []) (sym waits) ∙ end))
