-- A letter with digits is a name of the grammar.
use Rattle.std.proofs.Common.{◌≡◌, ℕ, ◌≤◌, List, [], ◌∷◌, Bool, false, cond, refl, ap, ◌∙◌, subst, arith}
use Rattle.std.specs.Prelude.{nat_eq}
use Rattle.std.proofs.lemmas.Bool.{ne_eqb, and_left, and_right}
use Rattle.std.proofs.lemmas.Bool.Decides.{nat_tests}
use Rattle.std.specs.Str.{bytes_eq}
use Rattle.ol_term.specs.BinderLaws.{AreDigits, IsLetterWithDigits}
use Rattle.ol_term.specs.BinderNames.{binder_name}
use Rattle.ol_term.proofs.Binders.{binder_is_letter_with_digits}
use Rattle.ol_readback.specs.PrintedLaws.{BinderIsName}
use Rattle.ol_parse.specs.Grammar.{Token, name, let_key, in_key}
use Rattle.ol_parse.specs.Texts.{letter, digit, class_of, in_word, token_of, AreInWord, IsToken, token_word, IsName}

letter_class : (b : ℕ) → 97 ≤ b → b ≤ 122 → class_of b ≡ letter
unfolding class_of
letter_class b h k = grind (arith, nat_tests)

digit_class : (b : ℕ) → 48 ≤ b → b ≤ 57 → class_of b ≡ digit
unfolding class_of
digit_class b h k = grind (arith, nat_tests)

digits_in_word : (w : List ℕ) → AreDigits w → AreInWord w
digits_in_word [] h = tt
digits_in_word (c ∷ w) h = (ap in_word (digit_class c h.0 h.1), digits_in_word w h.2)

no_let : (b : ℕ) (w : List ℕ) → AreDigits w → bytes_eq (b ∷ w) (108 ∷ 101 ∷ 116 ∷ []) ≡ false
no_let b [] h = and_right (nat_eq b 108) false refl
no_let b (c ∷ w) h =
    let low = h.0 in
    let high = h.1 in
    and_right (nat_eq b 108) (bytes_eq (c ∷ w) (101 ∷ 116 ∷ []))
    (and_left (nat_eq c 101) (bytes_eq w (116 ∷ [])) (ne_eqb c 101 (λ e. absurd (omega arith))))

no_in : (b : ℕ) (w : List ℕ) → AreDigits w → bytes_eq (b ∷ w) (105 ∷ 110 ∷ []) ≡ false
no_in b [] h = and_right (nat_eq b 105) false refl
no_in b (c ∷ w) h =
    let low = h.0 in
    let high = h.1 in
    and_right (nat_eq b 105) (bytes_eq (c ∷ w) (110 ∷ []))
    (and_left (nat_eq c 110) (bytes_eq w []) (ne_eqb c 110 (λ e. absurd (omega arith))))

pub no_keyword : (w : List ℕ) → bytes_eq w (108 ∷ 101 ∷ 116 ∷ []) ≡ false →
    bytes_eq w (105 ∷ 110 ∷ []) ≡ false → token_of w ≡ name w
unfolding token_of
no_keyword w h k =
    ap (λ (b : Bool). cond {A = Token} b let_key (cond {A = Token} (bytes_eq w (105 ∷ 110 ∷ [])) in_key (name w))) h
    ∙ ap (λ (b : Bool). cond {A = Token} b in_key (name w)) k

pub letter_with_digits_is_name : (x : List ℕ) → IsLetterWithDigits x → IsName x
letter_with_digits_is_name [] h = absurd h
letter_with_digits_is_name (b ∷ w) h =
    subst (λ (k : Token). IsToken k (b ∷ w)) (no_keyword (b ∷ w) (no_let b w h.2) (no_in b w h.2))
    (token_word (letter_class b h.0 h.1) (digits_in_word w h.2))

pub binder_is_name : BinderIsName
binder_is_name names t h k = letter_with_digits_is_name (binder_name names t) (binder_is_letter_with_digits names t h k)
