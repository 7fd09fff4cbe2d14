use Rattle.std.proofs.Common.{◌-◌, arith, ℕ, ◌≡◌, ◌∙◌, sym, ap, ap₂, true, false, List, Some, None}
use Rattle.std.proofs.Common.{drop, length, string_bytes, String, Global}
use Rattle.std.proofs.lemmas.List.{length-map, take_all}
use Rattle.ol_words.specs.Settings.{known_in, options_in}
use Rattle.ol_words.specs.declared.settings.Setting.{Setting}
use Rattle.ol_words.specs.Asked.{verb_named}
use Rattle.ol_words.specs.Command.{ids_of}
use Rattle.ol_words.specs.Lines.{line_of}
use Rattle.ol_words.specs.Once.{agreed_verb, is_told_once, known_of, options_of}
use Rattle.ol_words.specs.Texts.{texts_of}
use Rattle.ol_words.proofs.SoFar.{rest_length}
use Rattle.ol_words.proofs.AgreedVerbs.{few_words, parts, no_verb, no_line, not_once, once}
use Rattle.ol_words.proofs.reading.agreed_verb.Goals as goal

pub returns-in_default : goal.returns-in_default
returns-in_default c = few_words c.as_slice.result.now (omega (arith, c.in_default.len_below))
    ∙ ap (λ (ws : List (String Global)). agreed_verb (texts_of ws)) c.as_slice.ensures.value

pub returns-in_default-named : goal.returns-in_default-named
returns-in_default-named c =
    let p = parts c.as_slice.result.now c.word-item.result c.in-len2-up.len_at_least c.word-item.is in
    let named : None ≡ verb_named (string_bytes c.word-item.result) = c.in_default-named.ensures
    ∙ ap verb_named c.as_str.ensures.value in
    no_verb p.0 (string_bytes c.word-item.result) (texts_of (drop 2 c.as_slice.result.now)) named
    ∙ ap agreed_verb (sym p.1) ∙ ap (λ (ws : List (String Global)).
    agreed_verb (texts_of ws)) c.as_slice.ensures.value

pub returns-in_default-2 : goal.returns-in_default-2
returns-in_default-2 c =
    let p = parts c.as_slice.result.now c.word-item.result c.in-len2-up.len_at_least c.word-item.is in
    let v = c.in-Some.verb in
    let rest = texts_of (drop 2 c.as_slice.result.now) in
    let named : Some v ≡ verb_named (string_bytes c.word-item.result) = c.in-Some.ensures
    ∙ ap verb_named c.as_str.ensures.value in
    let xs = c.as_slice.result.now in
    let rest_is = ap (λ (l : List (String Global)). line_of (known_in c.settings.result.now) (texts_of l))
    (take_all (length xs - 2) (drop 2 xs) (rest_length xs 2)) in
    let known = ap (λ (ss : List Setting). line_of (known_in ss) rest) c.settings.ensures.settings in
    let read : None ≡ line_of (known_of v) rest = sym c.in_default-2.is ∙ c.in_ok-line.ensures ∙ rest_is ∙ known in
    no_line p.0 (string_bytes c.word-item.result) rest v named read ∙ ap agreed_verb (sym p.1)
    ∙ ap (λ (ws : List (String Global)). agreed_verb (texts_of ws)) c.as_slice.ensures.value

pub returns-then-not-is_told_once : goal.returns-then-not-is_told_once
returns-then-not-is_told_once c =
    let p = parts c.as_slice.result.now c.word-item.result c.in-len2-up.len_at_least c.word-item.is in
    let v = c.in-Some.verb in
    let rest = texts_of (drop 2 c.as_slice.result.now) in
    let named : Some v ≡ verb_named (string_bytes c.word-item.result) = c.in-Some.ensures
    ∙ ap verb_named c.as_str.ensures.value in
    let xs = c.as_slice.result.now in
    let rest_is = ap (λ (l : List (String Global)). line_of (known_in c.settings.result.now) (texts_of l))
    (take_all (length xs - 2) (drop 2 xs) (rest_length xs 2)) in
    let known = ap (λ (ss : List Setting). line_of (known_in ss) rest) c.settings.ensures.settings in
    let read : Some c.in-Some-2.line ≡ line_of (known_of v) rest = sym c.in-Some-2.is
    ∙ c.in_ok-line.ensures ∙ rest_is ∙ known in
    let count : length c.names.result.now ≡ length (ids_of v) = sym
    (length-map c.names.result.now (λ n. n.now)) ∙ ap length c.names.ensures.names in
    let by_verb = ap₂ (λ (ss : List Setting) (n : ℕ).
    is_told_once (options_in ss) n c.in-Some-2.line) c.settings-2.ensures.settings count in
    let told : false ≡ is_told_once (options_of v)
    (length (ids_of v)) c.in-Some-2.line = sym c.if-not-is_told_once.true ∙ c.is_told_once.ensures ∙ by_verb in
    not_once p.0 (string_bytes c.word-item.result) rest v named c.in-Some-2.line read told
    ∙ ap agreed_verb (sym p.1) ∙ ap (λ (ws : List (String Global)).
    agreed_verb (texts_of ws)) c.as_slice.ensures.value

pub returns : goal.returns
returns c =
    let p = parts c.as_slice.result.now c.word-item.result c.in-len2-up.len_at_least c.word-item.is in
    let v = c.in-Some.verb in
    let rest = texts_of (drop 2 c.as_slice.result.now) in
    let named : Some v ≡ verb_named (string_bytes c.word-item.result) = c.in-Some.ensures
    ∙ ap verb_named c.as_str.ensures.value in
    let xs = c.as_slice.result.now in
    let rest_is = ap (λ (l : List (String Global)). line_of (known_in c.settings.result.now) (texts_of l))
    (take_all (length xs - 2) (drop 2 xs) (rest_length xs 2)) in
    let known = ap (λ (ss : List Setting). line_of (known_in ss) rest) c.settings.ensures.settings in
    let read : Some c.in-Some-2.line ≡ line_of (known_of v) rest = sym c.in-Some-2.is
    ∙ c.in_ok-line.ensures ∙ rest_is ∙ known in
    let count : length c.names.result.now ≡ length (ids_of v) = sym
    (length-map c.names.result.now (λ n. n.now)) ∙ ap length c.names.ensures.names in
    let by_verb = ap₂ (λ (ss : List Setting) (n : ℕ).
    is_told_once (options_in ss) n c.in-Some-2.line) c.settings-2.ensures.settings count in
    let told : true ≡ is_told_once (options_of v)
    (length (ids_of v)) c.in-Some-2.line = sym c.if-not-is_told_once.false ∙ c.is_told_once.ensures ∙ by_verb in
    once p.0 (string_bytes c.word-item.result) rest v named c.in-Some-2.line read told
    ∙ ap agreed_verb (sym p.1) ∙ ap (λ (ws : List (String Global)).
    agreed_verb (texts_of ws)) c.as_slice.ensures.value
