-- Bytes that spell tokens bring the machine to where the tokens bring it.
use Rattle.std.proofs.Common.{◌≡◌, ℕ, List, [], ◌∷◌, ◌++◌, Bool, true, false, cond, Option, Some, None, option_and_then}
use Rattle.std.proofs.Common.{option_map, refl, sym, ap, ◌∙◌, subst, append_assoc, append-nil}
use Rattle.std.specs.Str.{bytes_eq}
use Rattle.ol_parse.specs.Grammar.{Named, Token, name, let_key, in_key, lambda}
use Rattle.ol_parse.specs.Texts.{class_of, in_word, token_of, is_word, IsLine, IsGap, gap_none, gap_blank, gap_comment}
use Rattle.ol_parse.specs.Texts.{IsLastGap, last_gap, last_comment, AreInWord, IsToken, token_sign, token_letter}
use Rattle.ol_parse.specs.Texts.{token_word, Spells, spells_none, spells_one}
use Rattle.ol_parse.specs.Machine.{State, let_equals, step, final, accepts}
use Rattle.ol_parse.specs.Reading.{Reading, gap, comment, word, half, takes_name, gap_step, takes}
use Rattle.ol_parse.proofs.Parts.{each_some}

abbrev pub then_take : List ℕ → Option Reading → Option Named
then_take bs o = option_and_then (λ s. takes s bs) o

line : (c : List ℕ) → IsLine c → (p : State) (rest : List ℕ) → takes (comment p) (c ++ rest) ≡ takes (comment p) rest
line [] h p rest = refl
line (b ∷ c) h p rest = ap (λ y. takes (cond y (gap p) (comment p)) (c ++ rest)) h.0 ∙ line c h.1 p rest

pub skips : {g : List ℕ} → IsGap g → (p : State) (rest : List ℕ) → takes (gap p) (g ++ rest) ≡ takes (gap p) rest
skips gap_none p rest = refl
skips (gap_blank {b = b} {g = g} e i) p rest = ap (λ c. then_take (g ++ rest) (gap_step p b c)) e ∙ skips i p rest
skips (gap_comment {b = b} {g = g} e c l i) p rest =
    ap (λ k. then_take ((c ++ (10 ∷ g)) ++ rest) (gap_step p b k)) e
    ∙ ap (takes (comment p)) (append_assoc c (10 ∷ g) rest) ∙ line c l p (10 ∷ g ++ rest) ∙ skips i p rest

skips_last : {g : List ℕ} → IsLastGap g → (p : State) → takes (gap p) g ≡ final p
skips_last (last_gap {g = g} i) p = ap (takes (gap p)) (sym (append-nil g)) ∙ skips i p []
skips_last (last_comment i b e c l) p = skips i p (b ∷ c) ∙ ap (λ k. then_take c (gap_step p b k)) e
    ∙ ap (takes (comment p)) (sym (append-nil c)) ∙ line c l p []

-- no byte of a word comes first
abbrev pub IsApart : List ℕ → Type 0
IsApart [] = Unit {0}
IsApart (b ∷ bs) = in_word (class_of b) ≡ false

mapped : (f : State → Reading) (o : Option State) (bs : List ℕ) →
    then_take bs (option_map f o) ≡ option_and_then (λ q. takes (f q) bs) o
mapped f None bs = refl
mapped f (Some q) bs = refl

word_more : (v w : List ℕ) → AreInWord w → (p : State) (rest : List ℕ) →
    takes (word v p) (w ++ rest) ≡ takes (word (v ++ w) p) rest
word_more v [] h p rest = ap (λ v. takes (word v p) rest) (sym (append-nil v))
word_more v (b ∷ w) h p rest =
    ap (λ y. then_take (w ++ rest) (cond y (Some (word (v ++ (b ∷ [])) p))
    (option_and_then (λ q. gap_step q b (class_of b)) (step p (token_of v))))) h.0
    ∙ word_more (v ++ (b ∷ [])) w h.1 p rest ∙ ap (λ v. takes (word v p) rest) (append_assoc v (b ∷ []) w)

pub word_ends : (v : List ℕ) (p : State) (rest : List ℕ) → IsApart rest →
    takes (word v p) rest ≡ option_and_then (λ q. takes (gap q) rest) (step p (token_of v))
word_ends v p [] h = refl
word_ends v p (b ∷ bs) h =
    ap (λ y. then_take bs (cond y (Some (word (v ++ (b ∷ [])) p))
    (option_and_then (λ q. gap_step q b (class_of b)) (step p (token_of v))))) h ∙ go (step p (token_of v))
  where
    go : (o : Option State) → then_take bs
        (option_and_then (λ q. gap_step q b (class_of b)) o) ≡ option_and_then (λ q. takes (gap q) (b ∷ bs)) o
    go None = refl
    go (Some q) = refl

abbrev IsWordToken : Token → Type 0
IsWordToken k = is_word k ≡ true

-- every word is a name or a keyword
pub word_token : (w : List ℕ) → is_word (token_of w) ≡ true
unfolding token_of
word_token w = go (bytes_eq w (108 ∷ 101 ∷ 116 ∷ [])) (bytes_eq w (105 ∷ 110 ∷ []))
  where
    go : (x y : Bool) → is_word (cond x let_key (cond y in_key (name w))) ≡ true
    go true y = refl
    go false true = refl
    go false false = refl

no_name : (p : State) (k : Token) → is_word k ≡ true → takes_name p ≡ false → step p k ≡ None
no_name (let_equals x fs) (name w) h e = refl
no_name (let_equals x fs) let_key h e = refl
no_name (let_equals x fs) in_key h e = refl
no_name (let_equals x fs) _ h e = absurd (cc)
no_name _ k h e = absurd (cc)

pub one_token : {k : Token} {a : List ℕ} → IsToken k a → (p : State) (rest : List ℕ) →
    (is_word k ≡ true → IsApart rest) → takes (gap p) (a ++ rest) ≡ option_and_then (λ q. takes (gap q) rest) (step p k)
one_token (token_sign {k = k} {b = b} e) p rest apart = ap (λ c. then_take rest (gap_step p b c)) e
    ∙ mapped gap (step p k) rest
one_token (token_letter {b = b} e) p rest apart = ap
    (λ c. then_take (187 ∷ rest) (gap_step p b c)) e ∙ mapped half (step p lambda) (187 ∷ rest)
one_token (token_word {b = b} {w = w} e h) p rest apart = ap
    (λ c. then_take (w ++ rest) (gap_step p b c)) e ∙ go (takes_name p) refl
  where
    go : (y : Bool) → takes_name p ≡ y →
        then_take (w ++ rest) (cond y (Some (word (b ∷ []) p)) None) ≡ option_and_then
        (λ q. takes (gap q) rest) (step p (token_of (b ∷ w)))
    go true t = word_more (b ∷ []) w h p rest ∙ word_ends (b ∷ w) p rest (apart (word_token (b ∷ w)))
    go false t = ap (option_and_then (λ q. takes (gap q) rest))
        (sym (no_name p (token_of (b ∷ w)) (word_token (b ∷ w)) t))

gap_apart : {g : List ℕ} → IsGap g → (rest : List ℕ) → (g ≡ [] → IsApart rest) → IsApart (g ++ rest)
gap_apart gap_none rest h = h refl
gap_apart (gap_blank e i) rest h = ap in_word e
gap_apart (gap_comment e c l i) rest h = ap in_word e

token_apart : {k : Token} {a : List ℕ} → IsToken k a → (rest : List ℕ) → (is_word k ≡ true → ⊥) → IsApart (a ++ rest)
token_apart (token_sign e) rest h = ap in_word e
token_apart (token_letter e) rest h = ap in_word e
token_apart (token_word {b = b} {w = w} e i) rest h = absurd (h (word_token (b ∷ w)))

pub apart : {after : Bool} {ks : List Token} {bs : List ℕ} → Spells after ks bs → after ≡ true → IsApart bs
apart (spells_none (last_gap {g = g} i)) e = subst IsApart (append-nil g) (gap_apart i [] (λ _. tt))
apart (spells_none (last_comment i b h c l)) e = gap_apart i (b ∷ c) (λ _. ap in_word h)
apart (spells_one {a = a} {bs = bs} i n k s) e = gap_apart i (a ++ bs) (λ q. token_apart k bs (λ w. n e w q))

-- what is spelled brings the machine as far as the tokens
pub spelled : {after : Bool} {ks : List Token} {bs : List ℕ} → Spells after ks bs → (p : State) →
    takes (gap p) bs ≡ accepts p ks
spelled (spells_none i) p = skips_last i p
spelled (spells_one {k = k} {ks = ks} {a = a} {bs = bs} i n t s) p =
    skips i p (a ++ bs) ∙ one_token t p bs (apart s)
    ∙ each_some (λ q. takes (gap q) bs) (λ q. accepts q ks) (step p k) (λ q. spelled s q)
