-- How clap sees the words.
use Rattle.std.proofs.Common.{ℕ, suc, ◌≡◌, ◌∙◌, ◌+◌, ◌==◌, ◌&&◌, not, sym, ap, refl, arith, true, false, true≢false, []}
use Rattle.std.proofs.Common.{◌∷◌, Option, Some, None, if◌then◌else◌, inl, inr, ◌⊎◌, codes, length, nat_lt, lt-ltb, ap₂}
use Rattle.std.specs.Prelude.{option_and_then}
use Rattle.std.proofs.lemmas.Bool.{cases_lt, cases_Bool}
use Rattle.std.proofs.lemmas.Bool.Decides.{nat_tests}
use Rattle.std.specs.List.{position_or_len, before_first, after_first}
use Rattle.clap.specs.Lexer.{long_of, short_of, has_byte}
use Rattle.ol_words.specs.Texts.{Text}
use Rattle.ol_words.specs.Lines.{Known, flag_alone, is_dashed, is_end, is_equals, is_option, name_and_value, option_of, value_in}
use Rattle.std.proofs.lemmas.Slice.Eq.{bytes_eq-Decides}

some_left : (rest : Text) → (suc (length rest) == 0) ≡ false
some_left rest = grind (arith, nat_tests)

pub plain_long : (word : Text) → is_dashed word ≡ false → long_of word ≡ None
plain_long [] plain = refl
plain_long (x ∷ []) plain = elim (cases_Bool (x == 45)) [ inl same ↦ rw same refl | inr differs ↦ rw differs refl ]
plain_long (x ∷ y ∷ rest) plain = elim (cases_Bool (x == 45)) [
  | inl same ↦
      let bad : true ≡ false = sym (ap not (some_left rest))
      ∙ sym (ap (λ b. b && not (length (y ∷ rest) == 0)) same) ∙ plain in
      absurd (true≢false bad)
  | inr differs ↦ rw differs refl
]

pub plain_short : (word : Text) → is_dashed word ≡ false → short_of word ≡ None
plain_short [] plain = refl
plain_short (x ∷ []) plain = elim (cases_Bool (x == 45)) [ inl same ↦ rw same refl | inr differs ↦ rw differs refl ]
plain_short (x ∷ y ∷ rest) plain = elim (cases_Bool (x == 45)) [
  | inl same ↦
      let bad : true ≡ false = sym (ap not (some_left rest))
      ∙ sym (ap (λ b. b && not (length (y ∷ rest) == 0)) same) ∙ plain in
      absurd (true≢false bad)
  | inr differs ↦ rw differs refl
]

one_more : (a b : ℕ) → nat_lt a b ≡ nat_lt (1 + a) (suc b)
one_more a b = elim (cases_lt a b) [
  | inl below ↦ lt-ltb a b below ∙ sym (lt-ltb (1 + a) (suc b) (omega arith))
  | inr above ↦ grind (arith, nat_tests)
]

-- a byte is there just where its first place is within the text
equals_inside : (text : Text) → has_byte 61 text ≡ nat_lt (position_or_len is_equals text) (length text)
equals_inside [] = refl
equals_inside (x ∷ rest) = let before = equals_inside rest in elim (cases_Bool (x == 61)) [
  | inl same ↦ rw same (sym (lt-ltb 0 (suc (length rest)) (omega arith)))
  | inr differs ↦ rw differs (before ∙ one_more (position_or_len is_equals rest) (length rest))
]

value_same : (text : Text) → (if has_byte 61 text then Some (after_first (λ x. x == 61) text) else None) ≡ value_in text
value_same text = ap (λ b. if b then Some (after_first (λ x. x == 61) text) else None) (equals_inside text)

pub hyphens : (known : Known) (x y : ℕ) (text o : Text) (value : Option Text) →
    option_of known (x ∷ y ∷ text) ≡ Some (o, value)
    → ((x == 45) ≡ true) × ((y == 45) ≡ true) × (name_and_value known text ≡ Some (o, value))
hyphens known x y text o value e = elim (cases_Bool (x == 45)) [
  | inl one ↦ elim (cases_Bool (y == 45)) [
    | inl two ↦ (
      one,
      two,
      sym (ap₂ (λ p q.
          option_and_then (name_and_value known) (if p && q then Some text else None)) one two) ∙ e,
    )
    | inr other ↦ absurd (nothing (sym (ap₂
        (λ p q. option_and_then (name_and_value known) (if p && q then Some text else None)) one other) ∙ e))
  ]
  | inr other ↦ absurd (nothing (sym (ap
      (λ p. option_and_then (name_and_value known) (if p && (y == 45) then Some text else None)) other) ∙ e))
]
  where
    nothing : ◌≡◌ {A = Option (Text × Option Text)} None (Some (o, value)) → ⊥
    nothing e = cc

two_hyphens : (x y : ℕ) → (x == 45) ≡ true → (y == 45) ≡ true → is_end (x ∷ y ∷ []) ≡ true
two_hyphens x y one two = rw one (rw two refl)

-- A word that writes out an option is a long flag with its name: a flag stands alone and has the
-- value 1, any other option has the
-- value that is attached.
abbrev pub Written : Known → (word o : Text) → Option Text → Type 0
Written known word o value =
    ((is_option known.flags o ≡ true) × (long_of word ≡ Some (o, None)) × (value ≡ Some (codes "1")))
    ⊎ ((is_option known.flags o ≡ false) × (is_option known.options o ≡ true) × (long_of word ≡ Some (o, value)))

alone : (name o : Text) (attached value : Option Text) →
    flag_alone name attached ≡ Some (o, value) → (name ≡ o) × (attached ≡ None) × (value ≡ Some (codes "1"))
alone name o None value e =
    let pair : ◌≡◌ {A = Text × Option Text} (name, Some (codes "1")) (o, value) = cc in
    (ap (λ (p : Text × Option Text). p.0) pair, refl, sym (ap (λ (p : Text × Option Text). p.1) pair))
alone name o (Some v) value e = absurd (cc)

both : (name o : Text) (attached value : Option Text) →
    ◌≡◌ {A = Option (Text × Option Text)} (Some (name, attached)) (Some (o, value)) → (name ≡ o) × (attached ≡ value)
both name o attached value e =
    let pair : ◌≡◌ {A = Text × Option Text} (name, attached) (o, value) = cc in
    (ap (λ (p : Text × Option Text). p.0) pair, ap (λ (p : Text × Option Text). p.1) pair)

module _ (known : Known) (word text o : Text) (value : Option Text)
    (long : long_of word ≡ Some (before_first is_equals text, value_in text)) where
  abbrev whole : Option (Text × Option Text)
  whole = Some (before_first is_equals text, value_in text)

  abbrev no_flag : Option (Text × Option Text)
  no_flag = if is_option known.options (before_first is_equals text) then whole else None

  not_none : ◌≡◌ {A = Option (Text × Option Text)} None (Some (o, value)) → ⊥
  not_none x = cc

  written_option : is_option known.flags (before_first is_equals text) ≡ false →
      no_flag ≡ Some (o, value) → Written known word o value
  written_option other e = elim (cases_Bool (is_option known.options (before_first is_equals text))) [
    | inl is_known ↦
        let is = both (before_first is_equals text) o (value_in text) value
        (sym (ap (λ b. if b then whole else None) is_known) ∙ e) in
        inr (
          ap (is_option known.flags) (sym is.0) ∙ other,
          ap (is_option known.options) (sym is.0) ∙ is_known,
          long ∙ ap (λ n. Some (n, value_in text)) is.0 ∙ ap (λ v. Some (o, v)) is.1,
        )
    | inr unknown ↦ absurd (not_none (sym (ap (λ b. if b then whole else None) unknown) ∙ e))
  ]

  written_text : name_and_value known text ≡ Some (o, value) → Written known word o value
  written_text e = elim (cases_Bool (is_option known.flags (before_first is_equals text))) [
    | inl flagged ↦
        let is = alone (before_first is_equals text) o (value_in text) value
        (sym (ap (λ b. if b then flag_alone (before_first is_equals text)
        (value_in text) else no_flag) flagged) ∙ e) in
        inl (
          ap (is_option known.flags) (sym is.0) ∙ flagged,
          long
              ∙ ap (λ n. Some (n, value_in text)) is.0 ∙ ap (λ v. Some (o, v)) is.1,
          is.2,
        )
    | inr other ↦ written_option other (sym
        (ap (λ b. if b then flag_alone (before_first is_equals text) (value_in text) else no_flag) other) ∙ e)
  ]

pub written_long : (known : Known) (word o : Text) (value : Option Text) → is_end word ≡ false →
    option_of known word ≡ Some (o, value) → Written known word o value
written_long known [] o value goes e = absurd (cc)
written_long known (x ∷ []) o value goes e = absurd (cc)
written_long known (x ∷ y ∷ []) o value goes e =
    let parts = hyphens known x y [] o value e in
    absurd (true≢false (sym (two_hyphens x y parts.0 parts.1) ∙ goes))
written_long known (x ∷ y ∷ z ∷ zs) o value goes e =
    let parts = hyphens known x y (z ∷ zs) o value e in
    let pair : long_of (x ∷ y ∷ z ∷ zs) ≡ Some (
      before_first is_equals (z ∷ zs),
      if has_byte 61 (z ∷ zs) then Some
          (after_first is_equals (z ∷ zs)) else None,
    ) = rw parts.0 (rw parts.1 refl) in
    written_text known (x ∷ y ∷ z ∷ zs) (z ∷ zs) o value
    (pair ∙ ap (λ v. Some (before_first is_equals (z ∷ zs), v)) (value_same (z ∷ zs))) parts.2

pub not_end : (word : Text) → is_dashed word ≡ false → is_end word ≡ false
not_end word plain = elim (cases_Bool (is_end word)) [
  | inl same ↦ let is : word ≡ codes "--" = (bytes_eq-Decides word (codes "--")).0 same in
      absurd (true≢false (sym (ap is_dashed is) ∙ plain))
  | inr differs ↦ differs
]
