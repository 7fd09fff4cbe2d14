-- Words read one after another: what was read so far, joined to what the rest says.
use Rattle.std.proofs.Common.{ℕ, ◌≡◌, ◌∙◌, sym, ap, refl, arith, true, false, List, [], ◌∷◌, ◌++◌, Option, Some, None}
use Rattle.std.proofs.Common.{map, option_map, if◌then◌else◌, ◌<◌, ◌≤◌, ◌+◌, ◌-◌, length, drop, slice_index_or, String}
use Rattle.std.proofs.Common.{string_bytes, append-nil, append_assoc}
use Rattle.std.specs.declared.alloc.Global.{Global}
use Rattle.std.proofs.lemmas.List.{drop_more, drop_all, length-drop, map_push}
use Rattle.ol_words.specs.Texts.{texts_of, Text}
use Rattle.std.specs.Borrow.{Bor}
use Rattle.ol_words.specs.Lines.{Known, Line, after_option, is_dashed, is_end, line_from, option_of, with_name, with_option}

abbrev pub seen : List (Bor Text × Bor Text) → List (Text × Text)
seen options = map (λ p. (p.0.now, p.1.now)) options

abbrev pub joined : List (Text × Text) → List Text → Line → Line
joined options names line = record { options = options ++ line.options; names = names ++ line.names }

abbrev pub so_far : Known → List (Text × Text) → List Text → Option Text → List Text → Option Line
so_far known options names waiting rest = option_map (joined options names) (line_from known waiting rest)

option_joins : (os : List (Text × Text)) (ns : List Text) (option value : Text) (r : Option Line)
    → option_map (joined (os ++ (option, value) ∷ []) ns) r ≡ option_map (joined os ns)
    (option_map (with_option option value) r)
option_joins os ns option value None = refl
option_joins os ns option value (Some line) = ap
    (λ options. Some (record { options = options; names = ns ++ line.names }))
    (append_assoc os ((option, value) ∷ []) line.options)

name_joins : (os : List (Text × Text)) (ns : List Text) (name : Text) (r : Option Line)
    → option_map (joined os (ns ++ name ∷ [])) r ≡ option_map (joined os ns) (option_map (with_name name) r)
name_joins os ns name None = refl
name_joins os ns name (Some line) = ap
    (λ names. Some (record { options = os ++ line.options; names = names })) (append_assoc ns (name ∷ []) line.names)

-- nothing is left
pub all_read : (known : Known) (os : List (Text × Text)) (ns : List Text) (all : Option Line) →
    so_far known os ns None [] ≡ all → all ≡ Some (record { options = os; names = ns })
unfolding line_from
all_read known os ns all e = sym e ∙ ap
    (λ options. Some (record { options = options; names = ns ++ [] })) (append-nil os)
    ∙ ap (λ names. Some (record { options = os; names = names })) (append-nil ns)

pub value_lacks : (known : Known) (os : List (Text × Text)) (ns : List Text) (option : Text)
    (all : Option Line) → so_far known os ns (Some option) [] ≡ all → all ≡ None
unfolding line_from
value_lacks known os ns option all e = sym e

module _ (known : Known) (os : List (Text × Text)) (ns : List Text) (word : Text) (rest : List Text)
    (all : Option Line) where
  pub value_taken : (option : Text) → is_dashed word ≡ false → so_far known os ns (Some option) (word ∷ rest) ≡ all
      → so_far known (os ++ (option, word) ∷ []) ns None rest ≡ all
  unfolding line_from
  value_taken option plain e = option_joins os ns option word (line_from known None rest)
      ∙ sym (ap (λ b. option_map (joined os ns)
      (if b then None else option_map (with_option option word) (line_from known None rest))) plain) ∙ e

  pub value_dashed : (option : Text) → is_dashed word ≡ true →
      so_far known os ns (Some option) (word ∷ rest) ≡ all → all ≡ None
  unfolding line_from
  value_dashed option dashed e = sym e
      ∙ ap (λ b. option_map (joined os ns)
      (if b then None else option_map (with_option option word) (line_from known None rest))) dashed

  -- a word where no option waits
  turned : (is_end word ≡ false) → so_far known os ns None (word ∷ rest) ≡ all
      → option_map (joined os ns) (if is_dashed word then after_option (option_of known word)
      (λ option. line_from known (Some option) rest) (line_from known None rest)
      else option_map (with_name word) (line_from known None rest)) ≡ all
  unfolding line_from
  turned goes e = sym (ap (λ b. option_map (joined os ns) (if b then Some (record { options = []; names = rest })
      else (if is_dashed word then after_option (option_of known word)
      (λ option. line_from known (Some option) rest) (line_from known None rest)
      else option_map (with_name word) (line_from known None rest)))) goes) ∙ e

  pub ended : is_end word ≡ true → so_far known os ns None (word ∷ rest) ≡ all →
      all ≡ Some (record { options = os; names = ns ++ rest })
  unfolding line_from
  ended ends e = sym e ∙ ap (λ b. option_map (joined os ns) (if b then Some (record { options = []; names = rest })
      else (if is_dashed word then after_option (option_of known word)
      (λ option. line_from known (Some option) rest) (line_from known None rest)
      else option_map (with_name word) (line_from known None rest)))) ends
      ∙ ap (λ options. Some (record { options = options; names = ns ++ rest })) (append-nil os)

  pub name_taken : is_end word ≡ false → is_dashed word ≡ false → so_far known os ns None (word ∷ rest) ≡ all
      → so_far known os (ns ++ word ∷ []) None rest ≡ all
  name_taken goes plain e = name_joins os ns word (line_from known None rest)
      ∙ sym (ap (λ b. option_map (joined os ns)
      (if b then after_option (option_of known word)
      (λ option. line_from known (Some option) rest) (line_from known None rest)
      else option_map (with_name word) (line_from known None rest))) plain) ∙ turned goes e

  dashed_turn : is_end word ≡ false → is_dashed word ≡ true → so_far known os ns None (word ∷ rest) ≡ all
      → option_map (joined os ns) (after_option (option_of known word)
      (λ option. line_from known (Some option) rest) (line_from known None rest)) ≡ all
  dashed_turn goes dashed e = sym (ap (λ b.
      option_map (joined os ns) (if b then after_option (option_of known word)
      (λ option. line_from known (Some option) rest) (line_from known None rest)
      else option_map (with_name word) (line_from known None rest))) dashed) ∙ turned goes e

  pub written_out : (found : Option (Text × Option Text)) → found ≡ option_of known word →
      is_end word ≡ false → is_dashed word ≡ true → so_far known os ns None (word ∷ rest) ≡ all
      → option_map (joined os ns) (after_option found (λ option. line_from known (Some option) rest)
      (line_from known None rest)) ≡ all
  written_out found is goes dashed e = ap
      (λ o. option_map (joined os ns) (after_option o (λ option. line_from known (Some option) rest)
      (line_from known None rest))) is ∙ dashed_turn goes dashed e

  pub attached_taken : (option value : Text) →
      option_map (joined os ns) (option_map (with_option option value) (line_from known None rest)) ≡ all
      → so_far known (os ++ (option, value) ∷ []) ns None rest ≡ all
  attached_taken option value e = option_joins os ns option value (line_from known None rest) ∙ e

-- the word at a place stands before the words behind it
pub word_here : (known : Known) (os : List (Text × Text)) (ns : List Text) (waiting : Option Text)
    (words : List (String Global)) (i : ℕ) (word : String Global)
    → i < length words → word ≡ slice_index_or words i word
    → so_far known os ns waiting (texts_of (drop i words)) ≡ so_far known os ns waiting
    (string_bytes word ∷ texts_of (drop (i + 1) words))
word_here known os ns waiting words i word here is = ap
    (λ l. so_far known os ns waiting (texts_of l))
    (drop_more words i word here ∙ ap (λ w. w ∷ drop (i + 1) words) (sym is))

pub none_left : (known : Known) (os : List (Text × Text)) (ns : List Text) (waiting : Option Text)
    (words : List (String Global)) (i : ℕ) → length words ≤ i
    → so_far known os ns waiting (texts_of (drop i words)) ≡ so_far known os ns waiting []
none_left known os ns waiting words i end = ap (λ l. so_far known os ns waiting (texts_of l)) (drop_all i words end)

pub option_pushed : (now before : List (Bor Text × Bor Text)) (option value : Bor Text) →
    now ≡ before ++ (option, value) ∷ []
    → seen now ≡ seen before ++ (option.now, value.now) ∷ []
option_pushed now before option value is = ap seen is ∙ map_push (λ p. (p.0.now, p.1.now)) before (option, value)

pub name_pushed : (now before : List (Bor Text)) (name : Bor Text) → now ≡ before ++ name ∷ [] →
    map (λ n. n.now) now ≡ map (λ n. n.now) before ++ name.now ∷ []
name_pushed now before name is = ap (λ l. map (λ (n : Bor Text). n.now) l) is ∙ map_push (λ n. n.now) before name

pub went_on : (known : Known) (os os' : List (Text × Text)) (ns ns' : List Text)
    (w w' : Option Text) (rest : List Text) (all : Option Line)
    → os ≡ os' → ns ≡ ns' → w ≡ w' → so_far known os' ns' w' rest ≡ all → so_far known os ns w rest ≡ all
went_on known os os' ns ns' w w' rest all o n v e = ap (λ l. so_far known l ns w rest) o
    ∙ ap (λ l. so_far known os' l w rest) n ∙ ap (λ l. so_far known os' ns' l rest) v ∙ e

pub rest_length : (words : List (String Global)) (k : ℕ) → length (drop k words) ≤ length words - k
rest_length words k = let same = length-drop k words in omega (arith, same)
