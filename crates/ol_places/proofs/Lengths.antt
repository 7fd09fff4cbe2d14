-- How many bytes gaps and tokens have, and what tokens are.
use Rattle.std.proofs.Common.{◌≡◌, ℕ, ◌+◌, ◌<◌, List, [], ◌∷◌, ◌++◌, length, true, false, refl, ap, ◌∙◌}
use Rattle.std.proofs.Common.{arith, append_assoc, append-nil, length-append}
use Rattle.std.specs.Prelude.{slice_index, if◌then◌else◌}
use Rattle.ol_parse.specs.Grammar.{Token, name, lambda}
use Rattle.ol_parse.specs.Texts.{Class, letter, sign, lead, class_of, in_word, token_of}
use Rattle.ol_parse.specs.Texts.{is_word, IsLine, IsGap, gap_none, gap_blank, gap_comment, IsLastGap, last_gap, last_comment}
use Rattle.ol_parse.specs.Texts.{AreInWord, IsToken, token_sign, token_letter, token_word, Spells}
use Rattle.ol_parse.proofs.Spelled.{IsApart, apart, word_token}
use Rattle.ol_places.specs.Gaps.{goes_on, comment_after, gap_length, word_length}

-- ---- gaps

comment_line : (c : List ℕ) → IsLine c → (rest : List ℕ) →
    gap_length true (c ++ rest) ≡ length c + gap_length true rest
comment_line [] h rest = omega arith
comment_line (b ∷ c) h rest =
    let e = ap (λ y. 1 + gap_length (if y then false else true) (c ++ rest)) h.0 in
    let i = comment_line c h.1 rest in
    omega arith

gap_then : {g : List ℕ} → IsGap g → (rest : List ℕ) → gap_length false (g ++ rest) ≡ length g + gap_length false rest
gap_then gap_none rest = omega arith
gap_then (gap_blank {b = b} {g = g} e i) rest =
    let f = ap (λ c. if goes_on false b c then 1 + gap_length (comment_after false b c) (g ++ rest) else 0) e in
    let h = gap_then i rest in
    omega arith
gap_then (gap_comment {b = b} {g = g} e c l i) rest =
    let f = ap (λ k. if goes_on false b k
    then 1 + gap_length (comment_after false b k) ((c ++ (10 ∷ g)) ++ rest) else 0) e in
    let j = ap (gap_length true) (append_assoc c (10 ∷ g) rest) in
    let k = comment_line c l (10 ∷ g ++ rest) in
    let h = gap_then i rest in
    let n = length-append c (10 ∷ g) in
    omega arith

pub last_gap_is : {g : List ℕ} → IsLastGap g → gap_length false g ≡ length g
last_gap_is (last_gap {g = g} i) =
    let e = ap (gap_length false) (append-nil g) in
    let h = gap_then i [] in
    omega arith
last_gap_is (last_comment {g = g} i b e c l) =
    let h = gap_then i (b ∷ c) in
    let f = ap (λ k. if goes_on false b k then 1 + gap_length (comment_after false b k) c else 0) e in
    let j = ap (gap_length true) (append-nil c) in
    let k = comment_line c l [] in
    let n = length-append g (b ∷ c) in
    omega arith

no_gap : {k : Token} {a : List ℕ} → IsToken k a → (rest : List ℕ) → gap_length false (a ++ rest) ≡ 0
no_gap (token_sign {b = b} e) rest =
    ap (λ c. if goes_on false b c then 1 + gap_length (comment_after false b c) rest else 0) e
no_gap (token_letter {b = b} e) rest =
    ap (λ c. if goes_on false b c then 1 + gap_length (comment_after false b c) (187 ∷ rest) else 0) e
no_gap (token_word {b = b} {w = w} e h) rest =
    ap (λ c. if goes_on false b c then 1 + gap_length (comment_after false b c) (w ++ rest) else 0) e

pub gap_is : {g a : List ℕ} {k : Token} → IsGap g → IsToken k a → (rest : List ℕ) →
    gap_length false (g ++ (a ++ rest)) ≡ length g
gap_is {g = g} {a = a} i t rest =
    let e = gap_then i (a ++ rest) in
    let f = no_gap t rest in
    omega arith

-- ---- tokens

word_is : (w : List ℕ) → AreInWord w → (rest : List ℕ) → IsApart rest → word_length (w ++ rest) ≡ length w
word_is [] h [] a = refl
word_is [] h (b ∷ bs) a = ap (λ y. if y then 1 + word_length bs else 0) a
word_is (b ∷ w) h rest a =
    let e = ap (λ y. if y then 1 + word_length (w ++ rest) else 0) h.0 in
    let i = word_is w h.1 rest a in
    omega arith

-- how many bytes the first token has, by the class of its first byte
abbrev pub length_by : Class → List ℕ → ℕ
length_by letter rest = word_length rest
length_by lead rest = 2
length_by _ rest = 1

length_is : {k : Token} {ks : List Token} {a bs : List ℕ} → IsToken k a → Spells (is_word k) ks bs →
    length_by (class_of (slice_index (a ++ bs) 0)) (a ++ bs) ≡ length a
length_is {bs = bs} (token_sign {b = b} e) s = ap (λ c. length_by c (b ∷ bs)) e
length_is {bs = bs} (token_letter {b = b} e) s = ap (λ c. length_by c (b ∷ 187 ∷ bs)) e
length_is {bs = bs} (token_word {b = b} {w = w} e h) s = ap (λ c. length_by c (b ∷ w ++ bs)) e
    ∙ word_is (b ∷ w) (ap in_word e, h) bs (apart s (word_token (b ∷ w)))

-- the length by the class is that of the first token
pub length_exact : (rest : List ℕ) (c : Class) (n : ℕ) → c ≡ class_of (slice_index rest 0) → n ≡ length_by c rest →
    (k : Token) (ks : List Token) (a bs : List ℕ) → rest ≡ a ++ bs → IsToken k a → Spells (is_word k) ks bs →
    n ≡ length a
length_exact rest c n e f k ks a bs r t s =
    f ∙ ap (λ d. length_by d rest) e ∙ ap (λ x. length_by (class_of (slice_index x 0)) x) r ∙ length_is t s

-- what a token is, by the class of its first byte
abbrev pub token_by : Class → List ℕ → Token
token_by letter w = token_of w
token_by lead w = lambda
token_by (sign k) w = k
token_by _ w = name w

token_is : {k : Token} {a : List ℕ} → IsToken k a → token_by (class_of (slice_index a 0)) a ≡ k
token_is (token_sign {b = b} e) = ap (λ c. token_by c (b ∷ [])) e
token_is (token_letter {b = b} e) = ap (λ c. token_by c (b ∷ 187 ∷ [])) e
token_is (token_word {b = b} {w = w} e h) = ap (λ c. token_by c (b ∷ w)) e

pub token_exact : (token : List ℕ) (c : Class) (x : Token) → c ≡ class_of (slice_index token 0) → x ≡ token_by c token →
    (k : Token) → IsToken k token → x ≡ k
token_exact token c x e f k t = f ∙ ap (λ d. token_by d token) e ∙ token_is t
