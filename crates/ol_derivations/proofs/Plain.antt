-- No name has a blank, a dot or a backslash.
use Rattle.std.proofs.Common.{◌≡◌, ℕ, zero, suc, ◌<◌, ◌^◌, true, false, List, [], ◌∷◌, ◌++◌, length, refl, sym, ap, ◌∙◌}
use Rattle.std.specs.Prelude.{slice_index_or}
use Rattle.ol_term.specs.BinderNames.{binder_name}
use Rattle.ol_parse.specs.Grammar.{Token}
use Rattle.ol_parse.specs.Texts.{class_of, in_word, is_word, AreInWord, IsToken, token_sign, token_letter, token_word, IsName}
use Rattle.ol_parse.proofs.Spelling.{sign_no_word}
use Rattle.ol_parse.specs.Parsed.{AreNames}
use Rattle.ol_readback.proofs.WordTokens.{binder_is_name}

-- a text without this byte
abbrev pub Lacks : ℕ → List ℕ → Type 0
Lacks c [] = Unit {0}
Lacks c (b ∷ bs) = (b ≡ c → ⊥) × Lacks c bs

pub lacks_both : (c : ℕ) (xs ys : List ℕ) → Lacks c xs → Lacks c ys → Lacks c (xs ++ ys)
lacks_both c [] ys h k = k
lacks_both c (x ∷ xs) ys h k = (h.0, lacks_both c xs ys h.1 k)

-- ---- names

word_lacks : (c : ℕ) → in_word (class_of c) ≡ false → (w : List ℕ) → AreInWord w → Lacks c w
word_lacks c out [] h = tt
word_lacks c out (b ∷ w) h = (
  λ e. let clash : true ≡ false = sym h.0 ∙ ap (λ b. in_word (class_of b)) e ∙ out in absurd (cc),
  word_lacks c out w h.1,
)

token_lacks : (c : ℕ) → in_word (class_of c) ≡ false → {k : Token} {a : List ℕ} → is_word k ≡ true → IsToken k a →
    Lacks c a
token_lacks c out w (token_sign {k = k} {b = b} e) =
    let clash : true ≡ false = sym w ∙ sign_no_word b k e in absurd (cc)
token_lacks c out w (token_letter e) = absurd (cc)
token_lacks c out w (token_word {b = b} {w = bs} e i) = (
  λ same. let clash : true ≡ false = sym (ap in_word e) ∙ ap (λ b. in_word (class_of b)) same ∙ out in absurd (cc),
  word_lacks c out bs i,
)

pub name_lacks : (c : ℕ) → in_word (class_of c) ≡ false → (x : List ℕ) → IsName x → Lacks c x
name_lacks c out x i = token_lacks c out refl i

-- no name has a blank, a dot or a backslash
pub record IsPlain (x : List ℕ) : Type 0 where
  pub blank : Lacks 32 x
  pub dot : Lacks 46 x
  pub slash : Lacks 92 x

blank_out : in_word (class_of 32) ≡ false
unfolding class_of
blank_out = refl

dot_out : in_word (class_of 46) ≡ false
unfolding class_of
dot_out = refl

slash_out : in_word (class_of 92) ≡ false
unfolding class_of
slash_out = refl

pub name_is_plain : (x : List ℕ) → IsName x → IsPlain x
name_is_plain x i = record {
  blank = name_lacks 32 blank_out x i;
  dot = name_lacks 46 dot_out x i;
  slash = name_lacks 92 slash_out x i;
}

pub free_is_plain : (names : List (List ℕ)) (k : ℕ) → AreNames names → IsPlain (slice_index_or names k [])
free_is_plain [] zero h = record { blank = tt; dot = tt; slash = tt }
free_is_plain [] (suc k) h = record { blank = tt; dot = tt; slash = tt }
free_is_plain (x ∷ names) zero h = name_is_plain x h.0
free_is_plain (x ∷ names) (suc k) h = free_is_plain names k h.1

pub binder_is_plain : (all : List (List ℕ)) (t : ℕ) → length all < 2 ^ 32 → t < 2 ^ 64 → IsPlain (binder_name all t)
binder_is_plain all t h k = name_is_plain (binder_name all t) (binder_is_name all t h k)
