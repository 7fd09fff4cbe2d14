-- A text that goes on behind a line feed: its tokens before that and behind it.
use Rattle.std.proofs.Common.{◌≡◌, ◌≢◌, ℕ, zero, suc, ◌+◌, ◌<◌, ◌≤◌, ◌==◌, Bool, true, false, List, [], ◌∷◌, ◌++◌, length, ◌⊎◌, inl, inr}
use Rattle.std.proofs.Common.{refl, sym, ap, ◌∙◌, subst, arith, eqb-true, append_assoc, append-nil, length-append}
use Rattle.std.specs.Prelude.{nat_eq}
use Rattle.ol_parse.specs.Grammar.{Token}
use Rattle.ol_parse.specs.Texts.{Class, blank, hash, letter, sign, lead, class_of, in_word, token_of, is_word, IsLine, IsGap}
use Rattle.ol_parse.specs.Texts.{gap_none, gap_blank, gap_comment, IsLastGap, last_gap, last_comment, AreInWord, IsToken}
use Rattle.ol_parse.specs.Texts.{token_sign, token_letter, token_word, Spells, spells_none, spells_one}
use Rattle.ol_places.specs.Lets.{let_start}
use Rattle.ol_parse.proofs.Sizes.{some_byte}

-- ---- lists

-- where two lists end that are one, cut at two places
pub data Seam {A : Type 0} (xs ys us vs : List A) : Type 0 where
  inside : (w : List A) → us ≡ xs ++ w → ys ≡ w ++ vs → Seam xs ys us vs
  beyond : (w : List A) → xs ≡ us ++ w → vs ≡ w ++ ys → Seam xs ys us vs

pub head_of : {A : Type 0} (x y : A) (xs ys : List A) → x ∷ xs ≡ y ∷ ys → x ≡ y
head_of x y xs ys e = cc

pub tail_of : {A : Type 0} (x y : A) (xs ys : List A) → x ∷ xs ≡ y ∷ ys → xs ≡ ys
tail_of x y xs ys e = cc

pub seam : {A : Type 0} (xs ys us vs : List A) → xs ++ ys ≡ us ++ vs → Seam xs ys us vs
seam [] ys us vs e = inside us refl e
seam (x ∷ xs) ys [] vs e = beyond (x ∷ xs) refl (sym e)
seam (x ∷ xs) ys (u ∷ us) vs e = go (seam xs ys us vs (tail_of x u (xs ++ ys) (us ++ vs) e))
  where
    same : x ≡ u
    same = head_of x u (xs ++ ys) (us ++ vs) e

    go : Seam xs ys us vs → Seam (x ∷ xs) ys (u ∷ us) vs
    go (inside w f g) = inside w (ap (λ us. u ∷ us) f ∙ ap (λ z. z ∷ xs ++ w) (sym same)) g
    go (beyond w f g) = beyond w (ap (λ xs. x ∷ xs) f ∙ ap (λ z. z ∷ us ++ w) same) g

no_clash : true ≡ false → ⊥
no_clash e = cc

pub none_ends : {A : Type 0} (w : List A) (x : A) (v : List A) → [] ≡ w ++ (x ∷ v) → ⊥
none_ends [] x v e = cc
none_ends (y ∷ w) x v e = cc

-- a line has no line feed
line_has_none : (a w v : List ℕ) → IsLine a → a ≡ w ++ (10 ∷ v) → ⊥
line_has_none [] w v l e = none_ends w 10 v e
line_has_none (b ∷ a) [] v l e =
    let h : b ≡ 10 = head_of b 10 a v e in no_clash (ap (λ b. nat_eq b 10) (sym h) ∙ l.0)
line_has_none (b ∷ a) (x ∷ w) v l e = line_has_none a w v l.1 (tail_of b x a (w ++ (10 ∷ v)) e)

-- ---- bytes

feed_is_blank : class_of 10 ≡ blank
unfolding class_of
feed_is_blank = refl

not_feed : (b : ℕ) → (class_of b ≡ blank → ⊥) → nat_eq b 10 ≡ false
not_feed b h = go (nat_eq b 10) refl
  where
    go : (c : Bool) → nat_eq b 10 ≡ c → nat_eq b 10 ≡ false
    go true e = absurd (h (ap class_of (eqb-true b 10 e) ∙ feed_is_blank))
    go false e = e

no_blank_sign : (k : Token) → sign k ≡ blank → ⊥
no_blank_sign k e = cc

no_blank_lead : lead ≡ blank → ⊥
no_blank_lead e = cc

no_blank_hash : hash ≡ blank → ⊥
no_blank_hash e = cc

pub no_false : false ≡ true → ⊥
no_false e = cc

word_line : (w : List ℕ) → AreInWord w → IsLine w
word_line [] h = tt
word_line (b ∷ w) h = (not_feed b (λ e. no_false (ap in_word (sym e) ∙ h.0)), word_line w h.1)

-- a token has no line feed
token_line : {k : Token} {a : List ℕ} → IsToken k a → IsLine a
token_line (token_sign {k = k} {b = b} e) = (not_feed b (λ f. no_blank_sign k (sym e ∙ f)), tt)
token_line (token_letter {b = b} e) = (not_feed b (λ f. no_blank_lead (sym e ∙ f)), (refl, tt))
token_line (token_word {b = b} {w = w} e h) = word_line (b ∷ w) (ap in_word e, h)

token_begins : {k : Token} {a : List ℕ} → IsToken k a → (bs rest : List ℕ) → a ++ bs ≡ 10 ∷ rest → ⊥
token_begins {a = a} t bs rest e = go a (token_line t) (some_byte t) e
  where
    go : (a : List ℕ) → IsLine a → 0 < length a → a ++ bs ≡ 10 ∷ rest → ⊥
    go [] l h e = absurd (omega arith)
    go (b ∷ a) l h e = line_has_none (b ∷ a) [] a l (ap (λ z. z ∷ a) (head_of b 10 (a ++ bs) rest e))

-- a comment begins with no line feed
no_hash_feed : (b : ℕ) → class_of b ≡ hash → b ≡ 10 → ⊥
no_hash_feed b h e = no_blank_hash (sym h ∙ ap class_of e ∙ feed_is_blank)

-- ---- gaps before a line feed

blank_last : {b : ℕ} {g : List ℕ} → class_of b ≡ blank → IsLastGap g → IsLastGap (b ∷ g)
blank_last c (last_gap i) = last_gap (gap_blank c i)
blank_last c (last_comment i h e l k) = last_comment (gap_blank c i) h e l k

comment_last : {b : ℕ} {g : List ℕ} → class_of b ≡ hash → (c : List ℕ) → IsLine c → IsLastGap g →
    IsLastGap (b ∷ c ++ (10 ∷ g))
comment_last h c l (last_gap i) = last_gap (gap_comment h c l i)
comment_last {b = b} h c l (last_comment {g = g} i d e m k) = subst (λ x. IsLastGap (b ∷ x))
    (append_assoc c (10 ∷ g) (d ∷ m)) (last_comment (gap_comment h c l i) d e m k)

data Line (c front g w : List ℕ) : Type 0 where
  here : front ≡ c → Line c front g w
  later : (f : List ℕ) → front ≡ c ++ (10 ∷ f) → g ≡ f ++ (10 ∷ w) → Line c front g w

line_cut : (c front g w : List ℕ) → IsLine c → c ++ (10 ∷ g) ≡ front ++ (10 ∷ w) → Line c front g w
line_cut [] [] g w l e = here refl
line_cut [] (f ∷ front) g w l e = later front (ap (λ f. f ∷ front) (sym (head_of 10 f g (front ++ (10 ∷ w)) e)))
    (tail_of 10 f g (front ++ (10 ∷ w)) e)
line_cut (x ∷ c) [] g w l e =
    let h : x ≡ 10 = head_of x 10 (c ++ (10 ∷ g)) w e in
    absurd (no_clash (ap (λ b. nat_eq b 10) (sym h) ∙ l.0))
line_cut (x ∷ c) (f ∷ front) g w l e =
    go (line_cut c front g w l.1 (tail_of x f (c ++ (10 ∷ g)) (front ++ (10 ∷ w)) e))
  where
    same : f ≡ x
    same = sym (head_of x f (c ++ (10 ∷ g)) (front ++ (10 ∷ w)) e)

    go : Line c front g w → Line (x ∷ c) (f ∷ front) g w
    go (here h) = here (ap (λ z. z ∷ front) same ∙ ap (λ z. x ∷ z) h)
    go (later v h k) = later v (ap (λ z. z ∷ front) same ∙ ap (λ z. x ∷ z) h) k

gap_cut : {g : List ℕ} → IsGap g → (front w : List ℕ) → g ≡ front ++ (10 ∷ w) → IsLastGap front
gap_cut i [] w e = last_gap gap_none
gap_cut gap_none (f ∷ front) w e = absurd (none_ends (f ∷ front) 10 w e)
gap_cut (gap_blank {b = b} {g = g} c i) (f ∷ front) w e =
    subst (λ x. IsLastGap (x ∷ front)) (head_of b f g (front ++ (10 ∷ w)) e)
    (blank_last c (gap_cut i front w (tail_of b f g (front ++ (10 ∷ w)) e)))
gap_cut (gap_comment {b = b} {g = g} h c l i) (f ∷ front) w e =
    subst (λ x. IsLastGap (x ∷ front)) (head_of b f (c ++ (10 ∷ g)) (front ++ (10 ∷ w)) e)
    (go (λ v m. gap_cut i v w m) (line_cut c front g w l (tail_of b f (c ++ (10 ∷ g)) (front ++ (10 ∷ w)) e)))
  where
    go : ((v : List ℕ) → g ≡ v ++ (10 ∷ w) → IsLastGap v) → Line c front g w → IsLastGap (b ∷ front)
    go inner (here k) = subst (λ x. IsLastGap (b ∷ x)) (sym k) (last_comment gap_none b h c l)
    go inner (later v k m) = subst (λ x. IsLastGap (b ∷ x)) (sym k) (comment_last h c l (inner v m))

last_cut : {g : List ℕ} → IsLastGap g → (front w : List ℕ) → g ≡ front ++ (10 ∷ w) → IsLastGap front
last_cut (last_gap i) front w e = gap_cut i front w e
last_cut (last_comment {g = g} i b h c l) front w e = go (seam g (b ∷ c) front (10 ∷ w) e)
  where
    go : Seam g (b ∷ c) front (10 ∷ w) → IsLastGap front
    go (inside [] f k) = absurd (no_hash_feed b h (head_of b 10 c w k))
    go (inside (x ∷ v) f k) = absurd (line_has_none c v w l (tail_of b x c (v ++ (10 ∷ w)) k))
    go (beyond [] f k) = absurd (no_hash_feed b h (sym (head_of 10 b w c k)))
    go (beyond (x ∷ v) f k) = gap_cut i front v
        (f ∙ ap (λ z. front ++ (z ∷ v)) (sym (head_of 10 x w (v ++ (b ∷ c)) k)))

-- ---- tokens before a line feed

-- the tokens before the line feed and those behind it, and where they begin
pub record Cut {after : Bool} {tokens : List Token} {bytes : List ℕ} (s : Spells after tokens bytes) (front : List ℕ) :
    Type 0 where
  pub first : List Token
  pub second : List Token
  pub is : tokens ≡ first ++ second
  pub spelled : Spells after first front
  pub starts : (j : ℕ) → j < length first → let_start j s ≡ let_start j spelled
  pub behind : (j : ℕ) → j < length second → length front ≤ let_start (length first + j) s

low : {after : Bool} {k : Token} {ks : List Token} {g a bs : List ℕ} (i : IsGap g)
    (apart : after ≡ true → is_word k ≡ true → g ≢ []) (t : IsToken k a) (s : Spells (is_word k) ks bs) (j : ℕ) →
    length g ≤ let_start j (spells_one i apart t s)
low i apart t s zero = omega arith
low i apart t s (suc j) = omega arith

-- in the gap before a token
cut_in_gap : {after : Bool} {k : Token} {ks : List Token} {g a bs : List ℕ} (i : IsGap g)
    (apart : after ≡ true → is_word k ≡ true → g ≢ []) (t : IsToken k a) (s : Spells (is_word k) ks bs)
    (front w : List ℕ) → IsLastGap front → g ≡ front ++ w → Cut (spells_one {after = after} i apart t s) front
cut_in_gap {k = k} {ks = ks} i apart t s front w last e = record {
  first = [];
  second = k ∷ ks;
  is = refl;
  spelled = spells_none last;
  starts = λ j h. absurd (omega arith);
  behind = λ j h. let l = ap length e in let m = length-append front w in
      let n = low i apart t s (0 + j) in omega arith;
}

-- behind a token
cut_behind : {after : Bool} {k : Token} {ks : List Token} {g a bs : List ℕ} (i : IsGap g)
    (apart : after ≡ true → is_word k ≡ true → g ≢ []) (t : IsToken k a) (s : Spells (is_word k) ks bs)
    (front : List ℕ) → Cut s front → Cut (spells_one {after = after} i apart t s) (g ++ (a ++ front))
cut_behind {k = k} {ks = ks} {g = g} {a = a} i apart t s front c = record {
  first = k ∷ c.first;
  second = c.second;
  is = ap (λ ks. k ∷ ks) c.is;
  spelled = spells_one i apart t c.spelled;
  starts = starts;
  behind = behind;
}
  where
    starts : (j : ℕ) → j < length (k ∷ c.first) →
        let_start j (spells_one i apart t s) ≡ let_start j (spells_one i apart t c.spelled)
    starts zero h = refl
    starts (suc j) h = ap (λ n. length g + length a + n) (c.starts j (omega arith))

    behind : (j : ℕ) → j < length c.second →
        length (g ++ (a ++ front)) ≤ let_start (length (k ∷ c.first) + j) (spells_one i apart t s)
    behind j h =
        let e : suc (length c.first + j) ≡ length (k ∷ c.first) + j = omega arith in
        let l = c.behind j h in
        let m = length-append g (a ++ front) in
        let n = length-append a front in
        let r : length (g ++ (a ++ front)) ≤ length g + length a + let_start (length c.first + j) s = omega arith in
        subst (λ n. length (g ++ (a ++ front)) ≤ let_start n (spells_one i apart t s)) e r

pub cut : {after : Bool} {tokens : List Token} {bytes : List ℕ} (s : Spells after tokens bytes) (front rest : List ℕ) →
    bytes ≡ front ++ (10 ∷ rest) → Cut s front
cut (spells_none g) front rest e = record {
  first = [];
  second = [];
  is = refl;
  spelled = spells_none (last_cut g front rest e);
  starts = λ j h. absurd (omega arith);
  behind = λ j h. absurd (omega arith);
}
cut (spells_one {k = k} {g = g} {a = a} {bs = bs} i apart t s) front rest e =
    first (λ v m. cut s v rest m) (seam g (a ++ bs) front (10 ∷ rest) e)
  where
    second : ((v : List ℕ) → bs ≡ v ++ (10 ∷ rest) → Cut s v) → (w : List ℕ) → front ≡ g ++ w →
        Seam a bs w (10 ∷ rest) → Cut (spells_one i apart t s) front
    second inner w f (inside v h m) = subst (λ x. Cut (spells_one i apart t s) x)
        (ap (λ x. g ++ x) (sym h) ∙ sym f) (cut_behind i apart t s v (inner v m))
    second inner w f (beyond [] h m) = subst (λ x. Cut (spells_one i apart t s) x)
        (ap (λ x. g ++ x) (append-nil a ∙ h ∙ append-nil w) ∙ sym f) (cut_behind i apart t s [] (inner [] (sym m)))
    second inner w f (beyond (x ∷ v) h m) = absurd (line_has_none a w v (token_line t)
        (h ∙ ap (λ z. w ++ (z ∷ v)) (sym (head_of 10 x rest (v ++ bs) m))))

    first : ((v : List ℕ) → bs ≡ v ++ (10 ∷ rest) → Cut s v) → Seam g (a ++ bs) front (10 ∷ rest) →
        Cut (spells_one i apart t s) front
    first inner (inside w f h) = second inner w f (seam a bs w (10 ∷ rest) h)
    first inner (beyond [] f h) = absurd (token_begins t bs rest (sym h))
    first inner (beyond (x ∷ v) f h) =
        let e : g ≡ front ++ (10 ∷ v) = f ∙ ap (λ z. front ++ (z ∷ v)) (sym (head_of 10 x rest (v ++ (a ++ bs)) h)) in
        cut_in_gap i apart t s front (10 ∷ v) (gap_cut i front v e) e
