-- How often a dot, a backslash and a question mark stand in a text of the grammar.
use Rattle.std.proofs.Common.{◌≡◌, ◌≤◌, ℕ, suc, ◌+◌, List, [], ◌∷◌, ◌++◌, map, Bool, true, false}
use Rattle.std.proofs.Common.{cond, nat_eq, eqb-true, refl, sym, ap, ◌∙◌, subst, arith}
use Rattle.std.specs.Str.{bytes_eq}
use Rattle.ol_parse.specs.Grammar.{Named, Token, name, let_key, in_key, lambda, dot, equals, open_bracket}
use Rattle.ol_parse.specs.Grammar.{close_bracket, IsTerm, term_body, term_spine, term_both, IsSpine, spine_one}
use Rattle.ol_parse.specs.Grammar.{spine_more, IsAtom, atom_name, atom_brackets, IsBody, body_lambda, body_let}
use Rattle.ol_parse.specs.Texts.{Class, blank, hash, letter, digit, sign, lead, other, class_of, in_word, token_of}
use Rattle.ol_parse.specs.Texts.{is_word, IsGap, gap_none, gap_blank, gap_comment, IsLastGap, last_gap, last_comment}
use Rattle.ol_parse.specs.Texts.{IsToken, token_sign, token_letter, token_word, Spells, spells_none, spells_one, IsText}
use Rattle.ol_parse.proofs.Spelling.{sign_no_word}
use Rattle.ol_law_confluence.proofs.Counts.{times, times_append, skipped, met, other_than, none_in_word}

-- ---- tokens

abbrev dot_of : Token → ℕ
dot_of dot = 1
dot_of _ = 0

abbrev lambda_of : Token → ℕ
lambda_of lambda = 1
lambda_of _ = 0

abbrev dots : List Token → ℕ
dots [] = 0
dots (k ∷ ks) = dot_of k + dots ks

abbrev lambdas : List Token → ℕ
lambdas [] = 0
lambdas (k ∷ ks) = lambda_of k + lambdas ks

dots_append : (a b : List Token) → dots (a ++ b) ≡ dots a + dots b
dots_append [] b = omega arith
dots_append (k ∷ a) b = let h = dots_append a b in omega arith

lambdas_append : (a b : List Token) → lambdas (a ++ b) ≡ lambdas a + lambdas b
lambdas_append [] b = omega arith
lambdas_append (k ∷ a) b = let h = lambdas_append a b in omega arith

names_none : (xs : List (List ℕ)) → (dots (map name xs) ≡ 0) × (lambdas (map name xs) ≡ 0)
names_none [] = (refl, refl)
names_none (x ∷ xs) =
    let h = names_none xs in let a = h.0 in let b = h.1 in (omega arith, omega arith)

both : (a b : List Token) → dots a ≡ lambdas a → dots b ≡ lambdas b →
    dots (a ++ b) ≡ lambdas (a ++ b)
both a b h k = let d = dots_append a b in let l = lambdas_append a b in omega arith

-- each backslash has its dot
mutual
  even_term : {a : List Token} {t : Named} → IsTerm a t → dots a ≡ lambdas a
  even_term (term_body b) = even_body b
  even_term (term_spine s) = even_spine s
  even_term (term_both {a = a} {b = b} s r) = both a b (even_spine s) (even_body r)

  even_spine : {a : List Token} {t : Named} → IsSpine a t → dots a ≡ lambdas a
  even_spine (spine_one i) = even_atom i
  even_spine (spine_more {a = a} {b = b} s i) = both a b (even_spine s) (even_atom i)

  even_atom : {a : List Token} {t : Named} → IsAtom a t → dots a ≡ lambdas a
  even_atom atom_name = refl
  even_atom (atom_brackets {a = a} i) =
      let h = even_term i in
      let d = dots_append a (close_bracket ∷ []) in
      let l = lambdas_append a (close_bracket ∷ []) in
      omega arith

  even_body : {a : List Token} {t : Named} → IsBody a t → dots a ≡ lambdas a
  even_body (body_lambda x xs {a = a} i) =
      let h = even_term i in
      let n = names_none (x ∷ xs) in
      let n0 = n.0 in
      let n1 = n.1 in
      let d = dots_append (map name (x ∷ xs)) (dot ∷ a) in
      let l = lambdas_append (map name (x ∷ xs)) (dot ∷ a) in
      omega arith
  even_body (body_let x {a = a} {b = b} i j) =
      let h = even_term i in
      let k = even_term j in
      let d = dots_append a (in_key ∷ b) in
      let l = lambdas_append a (in_key ∷ b) in
      omega arith

-- ---- bytes of a class

dot_is : class_of 46 ≡ sign dot
unfolding class_of
dot_is = refl

question_is : class_of 63 ≡ other
unfolding class_of
question_is = refl

-- which rows of the table of classes have the byte
abbrev first_ten : (a b c d e f g h i j : Bool) → Class
first_ten a b c d e f g h i j =
    cond a letter (cond b digit (cond c blank (cond d hash (cond e (sign lambda)
    (cond f (sign dot) (cond g (sign equals) (cond h (sign open_bracket)
    (cond i (sign close_bracket) (cond j lead other)))))))))

is_hash : (a b c d e f g h i j : Bool) → first_ten a b c d e f g h i j ≡ hash → d ≡ true
is_hash true b c d e f g h i j k = absurd (cc)
is_hash false true c d e f g h i j k = absurd (cc)
is_hash false false true d e f g h i j k = absurd (cc)
is_hash false false false true e f g h i j k = refl
is_hash false false false false true f g h i j k = absurd (cc)
is_hash false false false false false true g h i j k = absurd (cc)
is_hash false false false false false false true h i j k = absurd (cc)
is_hash false false false false false false false true i j k = absurd (cc)
is_hash false false false false false false false false true j k = absurd (cc)
is_hash false false false false false false false false false true k = absurd (cc)
is_hash false false false false false false false false false false k = absurd (cc)

no_sign : {j k : Token} → sign j ≡ sign k → j ≡ k
no_sign e = cc

is_lambda : (a b c d e f g h i j : Bool) → first_ten a b c d e f g h i j ≡ sign lambda → e ≡ true
is_lambda true b c d e f g h i j k = absurd (cc)
is_lambda false true c d e f g h i j k = absurd (cc)
is_lambda false false true d e f g h i j k = absurd (cc)
is_lambda false false false true e f g h i j k = absurd (cc)
is_lambda false false false false true f g h i j k = refl
is_lambda false false false false false true g h i j k = let n = no_sign k in absurd (cc)
is_lambda false false false false false false true h i j k = let n = no_sign k in absurd (cc)
is_lambda false false false false false false false true i j k = let n = no_sign k in absurd (cc)
is_lambda false false false false false false false false true j k =
    let n = no_sign k in absurd (cc)
is_lambda false false false false false false false false false true k = absurd (cc)
is_lambda false false false false false false false false false false k = absurd (cc)

is_lead : (a b c d e f g h i j : Bool) → first_ten a b c d e f g h i j ≡ lead → j ≡ true
is_lead true b c d e f g h i j k = absurd (cc)
is_lead false true c d e f g h i j k = absurd (cc)
is_lead false false true d e f g h i j k = absurd (cc)
is_lead false false false true e f g h i j k = absurd (cc)
is_lead false false false false true f g h i j k = absurd (cc)
is_lead false false false false false true g h i j k = absurd (cc)
is_lead false false false false false false true h i j k = absurd (cc)
is_lead false false false false false false false true i j k = absurd (cc)
is_lead false false false false false false false false true j k = absurd (cc)
is_lead false false false false false false false false false true k = refl
is_lead false false false false false false false false false false k = absurd (cc)

hash_byte : (b : ℕ) → class_of b ≡ hash → nat_eq b 35 ≡ true
unfolding class_of
hash_byte b e = is_hash _ _ _ _ _ _ _ _ _ _ e

lambda_byte : (b : ℕ) → class_of b ≡ sign lambda → nat_eq b 92 ≡ true
unfolding class_of
lambda_byte b e = is_lambda _ _ _ _ _ _ _ _ _ _ e

lead_byte : (b : ℕ) → class_of b ≡ lead → nat_eq b 206 ≡ true
unfolding class_of
lead_byte b e = is_lead _ _ _ _ _ _ _ _ _ _ e

-- ---- what is written

-- the bytes have no more dots than these, and no fewer backslashes
record Bounds (d l : ℕ) (bs : List ℕ) : Type 0 where
  few : times 46 bs ≤ d
  many : l ≤ times 92 bs + times 206 bs
  none : times 63 bs ≡ 0

no_hash : (b : ℕ) (bs : List ℕ) → class_of b ≡ hash → times 35 (b ∷ bs) ≡ 0 → ⊥
no_hash b bs e z = let h = met 35 b bs (hash_byte b e) in absurd (omega arith)

in_gap : {g : List ℕ} → IsGap g → times 35 g ≡ 0 → Bounds 0 0 g
in_gap gap_none z = record { few = omega arith; many = omega arith; none = refl }
in_gap (gap_blank {b = b} {g = g} e i) z =
    let r = in_gap i (rest (nat_eq b 35) z) in
    let d = skipped 46 b g (other_than 46 b blank e (λ h. not_dot (sym dot_is ∙ h))) in
    let q = skipped 63 b g (other_than 63 b blank e (λ h. not_other (sym question_is ∙ h))) in
    let few = r.few in
    let none = r.none in
    record { few = omega arith; many = omega arith; none = omega arith }
  where
    rest : (x : Bool) → cond x (suc (times 35 g)) (times 35 g) ≡ 0 → times 35 g ≡ 0
    rest true h = absurd (omega arith)
    rest false h = h

    not_dot : sign dot ≡ blank → ⊥
    not_dot h = absurd (cc)

    not_other : other ≡ blank → ⊥
    not_other h = absurd (cc)
in_gap (gap_comment {b = b} {g = g} e c line i) z = absurd (no_hash b (c ++ (10 ∷ g)) e z)

in_last_gap : {g : List ℕ} → IsLastGap g → times 35 g ≡ 0 → Bounds 0 0 g
in_last_gap (last_gap i) z = in_gap i z
in_last_gap (last_comment {g = g} i b e c line) z =
    let h = times_append 35 g (b ∷ c) in
    absurd (no_hash b c e (omega arith))

word_dot : in_word (class_of 46) ≡ false
unfolding class_of
word_dot = refl

word_question : in_word (class_of 63) ≡ false
unfolding class_of
word_question = refl

word_key : (w : List ℕ) → lambda_of (token_of w) ≡ 0
unfolding token_of
word_key w = go (bytes_eq w (108 ∷ 101 ∷ 116 ∷ [])) (bytes_eq w (105 ∷ 110 ∷ []))
  where
    go : (a b : Bool) → lambda_of (cond a let_key (cond b in_key (name w))) ≡ 0
    go true b = refl
    go false true = refl
    go false false = refl

at_most_dot : (k : Token) (b : ℕ) → class_of b ≡ sign k → times 46 (b ∷ []) ≤ dot_of k
at_most_dot k b e = go (nat_eq b 46) refl
  where
    go : (x : Bool) → nat_eq b 46 ≡ x → cond x 1 0 ≤ dot_of k
    go true h =
        subst (λ (j : Token). 1 ≤ dot_of j)
        (no_sign (sym dot_is ∙ ap class_of (sym (eqb-true b 46 h)) ∙ e)) (omega arith)
    go false h = omega arith

at_least_lambda : (k : Token) (n : ℕ) → (k ≡ lambda → 1 ≤ n) → lambda_of k ≤ n
at_least_lambda (name x) n h = omega arith
at_least_lambda let_key n h = omega arith
at_least_lambda in_key n h = omega arith
at_least_lambda lambda n h = h refl
at_least_lambda dot n h = omega arith
at_least_lambda equals n h = omega arith
at_least_lambda open_bracket n h = omega arith
at_least_lambda close_bracket n h = omega arith

not_other_sign : (k : Token) → other ≡ sign k → ⊥
not_other_sign k e = absurd (cc)

not_other_lead : other ≡ lead → ⊥
not_other_lead e = absurd (cc)

not_dot_lead : sign dot ≡ lead → ⊥
not_dot_lead e = absurd (cc)

in_token : {k : Token} {a : List ℕ} → IsToken k a → Bounds (dot_of k) (lambda_of k) a
in_token (token_sign {k = k} {b = b} e) = record {
  few = at_most_dot k b e;
  many =
      at_least_lambda k (times 92 (b ∷ []) + times 206 (b ∷ []))
      (λ is. let h =
      met 92 b [] (lambda_byte b (subst (λ (j : Token). class_of b ≡ sign j) is e)) in omega arith);
  none = skipped 63 b [] (other_than 63 b (sign k) e (λ h. not_other_sign k (sym question_is ∙ h)));
}
in_token (token_letter {b = b} e) =
    let d = skipped 46 b (187 ∷ []) (other_than 46 b lead e (λ h. not_dot_lead (sym dot_is ∙ h))) in
    let q =
    skipped 63 b (187 ∷ []) (other_than 63 b lead e (λ h. not_other_lead (sym question_is ∙ h)))
    in
    let l = met 206 b (187 ∷ []) (lead_byte b e) in
    record { few = omega arith; many = omega arith; none = q }
in_token (token_word {b = b} {w = w} e i) =
    let d = none_in_word 46 word_dot (b ∷ w) (ap in_word e, i) in
    let q = none_in_word 63 word_question (b ∷ w) (ap in_word e, i) in
    let l = word_key (b ∷ w) in
    record { few = omega arith; many = omega arith; none = q }

in_text : {after : Bool} {ks : List Token} {bs : List ℕ} → Spells after ks bs → times 35 bs ≡ 0 →
    Bounds (dots ks) (lambdas ks) bs
in_text (spells_none i) z = in_last_gap i z
in_text (spells_one {k = k} {ks = ks} {g = g} {a = a} {bs = bs} i n t s) z =
    let h35 = times_append 35 g (a ++ bs) in
    let k35 = times_append 35 a bs in
    let h46 = times_append 46 g (a ++ bs) in
    let k46 = times_append 46 a bs in
    let h92 = times_append 92 g (a ++ bs) in
    let k92 = times_append 92 a bs in
    let h206 = times_append 206 g (a ++ bs) in
    let k206 = times_append 206 a bs in
    let h63 = times_append 63 g (a ++ bs) in
    let k63 = times_append 63 a bs in
    let x = in_gap i (omega arith) in
    let y = in_token t in
    let w = in_text s (omega arith) in
    let xf = x.few in
    let xn = x.none in
    let yf = y.few in
    let ym = y.many in
    let yn = y.none in
    let wf = w.few in
    let wm = w.many in
    let wn = w.none in
    record { few = omega arith; many = omega arith; none = omega arith }

-- A text of the grammar without a comment has no question mark, and at most one dot for each
-- backslash.
pub text_is_even : (bs : List ℕ) (t : Named) → IsText bs t → times 35 bs ≡ 0 →
    (times 63 bs ≡ 0) × (times 46 bs ≤ times 92 bs + times 206 bs)
text_is_even bs t i z =
    let b = in_text i.spelled z in
    let e = even_term i.term in
    let few = b.few in
    let many = b.many in
    (b.none, omega arith)

-- no byte that can't stand in a word stands in a name
pub none_in_name : (c : ℕ) → in_word (class_of c) ≡ false → {k : Token} {x : List ℕ} → IsToken k x →
    is_word k ≡ true → times c x ≡ 0
none_in_name c apart (token_sign {k = k} {b = b} e) w =
    absurd (clash (sym (sign_no_word b k e) ∙ w))
  where
    clash : false ≡ true → ⊥
    clash h = absurd (cc)
none_in_name c apart (token_letter e) w = absurd (cc)
none_in_name c apart (token_word {b = b} {w = w} e i) h =
    none_in_word c apart (b ∷ w) (ap in_word e, i)
