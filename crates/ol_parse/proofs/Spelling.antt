-- Bytes that the machine takes spell tokens that the machine accepts.
use Rattle.std.proofs.Common.{◌≡◌, ℕ, List, [], ◌∷◌, ◌++◌, Bool, true, false, cond, nat_eq}
use Rattle.std.proofs.Common.{eqb-true, Option, Some, None, option_and_then, option_map, ◌⊎◌, inl}
use Rattle.std.proofs.Common.{inr, refl, sym, ap, ◌∙◌, subst, append_assoc, append-nil}
use Rattle.ol_parse.specs.Grammar.{Named, Token, lambda}
use Rattle.ol_parse.specs.Texts.{Class, blank, hash, letter, sign, lead, first_class, classes, class_of, in_word}
use Rattle.ol_parse.specs.Texts.{token_of, is_word, IsLine, gap_none, gap_blank, gap_comment, last_gap, last_comment}
use Rattle.ol_parse.specs.Texts.{AreInWord, token_sign, token_letter, token_word, Spells, spells_none, spells_one}
use Rattle.ol_parse.specs.Machine.{State, step, final, accepts}
use Rattle.ol_parse.specs.Reading.{Reading, gap, comment, word, half, takes_name, gap_step, takes}
use Rattle.ol_parse.proofs.Spelled.{IsApart, then_take, word_token}

-- these bytes spell tokens that bring the state to the whole term
pub record Spelling (after : Bool) (p : State) (t : Named) (bs : List ℕ) : Type 0 where
  pub tokens : List Token
  pub spells : Spells after tokens bs
  pub accepted : accepts p tokens ≡ Some t

record Behind (p : State) (t : Named) (bs : List ℕ) : Type 0 where
  comment_text : List ℕ
  rest : List ℕ
  line : IsLine comment_text
  parts : bs ≡ comment_text ++ (10 ∷ rest)
  spelling : Spelling false p t rest

record InWord (w : List ℕ) (p : State) (t : Named) (bs : List ℕ) : Type 0 where
  more : List ℕ
  rest : List ℕ
  next : State
  in_it : AreInWord more
  parts : bs ≡ more ++ rest
  stepped : step p (token_of (w ++ more)) ≡ Some next
  spelling : Spelling true next t rest

-- the bytes that are left bring the machine to the whole term
abbrev Left : Reading → Named → List ℕ → Type 0
Left (gap p) t bs = (after : Bool) → (after ≡ true → IsApart bs) → Spelling after p t bs
Left (comment p) t bs = (IsLine bs × (final p ≡ Some t)) ⊎ Behind p t bs
Left (word w p) t bs = InWord w p t bs
Left (half p) t bs = (rest : List ℕ) × (bs ≡ 187 ∷ rest) × Spelling false p t rest

false_true : {P : Type 0} → false ≡ true → P
false_true e = absurd (cc)

-- a sign is no word
abbrev IsNoWord : Class → Type 0
IsNoWord (sign k) = is_word k ≡ false
IsNoWord _ = Unit {0}

AreNoWords : List (Bool × Class) → Type 0
AreNoWords [] = Unit {0}
AreNoWords (row ∷ rows) = IsNoWord row.1 × AreNoWords rows

either : (b : Bool) (x y : Class) → IsNoWord x → IsNoWord y → IsNoWord (cond b x y)
either true x y h k = h
either false x y h k = k

first_no_word : (rows : List (Bool × Class)) → AreNoWords rows → IsNoWord (first_class rows)
unfolding AreNoWords
first_no_word [] h = tt
first_no_word (row ∷ rows) h = either row.0 row.1 (first_class rows) h.0 (first_no_word rows h.1)

no_word : (b : ℕ) → IsNoWord (class_of b)
unfolding class_of AreNoWords
no_word b = first_no_word (classes b) (tt, (tt, (tt, (tt, (refl, (refl, (refl, (refl, (refl, (tt, tt))))))))))

pub sign_no_word : (b : ℕ) (k : Token) → class_of b ≡ sign k → is_word k ≡ false
sign_no_word b k e = subst IsNoWord e (no_word b)

put_blank : {ks : List Token} {bs : List ℕ} {b : ℕ} → class_of b ≡ blank → Spells false ks bs →
    (after : Bool) → Spells after ks (b ∷ bs)
put_blank e (spells_none (last_gap i)) after = spells_none (last_gap (gap_blank e i))
put_blank e (spells_none (last_comment i h q c l)) after = spells_none (last_comment (gap_blank e i) h q c l)
put_blank e (spells_one i n k s) after = spells_one (gap_blank e i) (λ _ _ q. cc) k s

put_comment : {ks : List Token} {bs : List ℕ} {b : ℕ} → class_of b ≡ hash → (c : List ℕ) →
    IsLine c → Spells false ks bs → (after : Bool) → Spells after ks (b ∷ c ++ (10 ∷ bs))
put_comment e c l (spells_none (last_gap i)) after = spells_none (last_gap (gap_comment e c l i))
put_comment {ks = ks} {b = b} e c l (spells_none (last_comment {g = g} i h q d m)) after =
    subst (Spells after []) (ap (λ k. b ∷ k) (append_assoc c (10 ∷ g) (h ∷ d)))
    (spells_none (last_comment (gap_comment e c l i) h q d m))
put_comment {ks = ks} {b = b} e c l (spells_one {k = k} {ks = js} {g = g} {a = a} {bs = rest} i n t s) after =
    subst (Spells after (k ∷ js)) (ap (λ k. b ∷ k) (append_assoc c (10 ∷ g) (a ++ rest)))
    (spells_one (gap_comment e c l i) (λ _ _ q. cc) t s)

abbrev Each : Named → List ℕ → Type 0
Each t bs = (s : Reading) → takes s bs ≡ Some t → Left s t bs

left_sign : (p : State) (t : Named) (k : Token) (b : ℕ) (bs : List ℕ) → Each t bs →
    class_of b ≡ sign k → (o : Option State) → step p k ≡ o →
    then_take bs (option_map gap o) ≡ Some t → (after : Bool) → Spelling after p t (b ∷ bs)
left_sign p t k b bs each e None h g after = absurd (cc)
left_sign p t k b bs each e (Some q) h g after =
    let no = sign_no_word b k e in
    let r = each (gap q) g (is_word k) (λ y. false_true (sym no ∙ y)) in
    record {
      tokens = k ∷ r.tokens;
      spells = spells_one gap_none (λ _ y. false_true (sym no ∙ y))
          (token_sign e) r.spells;
      accepted = ap (option_and_then (λ s. accepts s r.tokens)) h ∙ r.accepted;
    }

left_lead : (p : State) (t : Named) (b : ℕ) (bs : List ℕ) → Each t bs → class_of b ≡ lead →
    (o : Option State) → step p lambda ≡ o → then_take bs (option_map half o) ≡ Some t →
    (after : Bool) → Spelling after p t (b ∷ bs)
left_lead p t b bs each e None h g after = absurd (cc)
left_lead p t b bs each e (Some q) h g after =
    let (rest, parts, r) = each (half q) g in
    let s : Spells after (lambda ∷ r.tokens) (b ∷ 187 ∷ rest) = spells_one gap_none
    (λ _ y. false_true y) (token_letter e) r.spells in
    record {
      tokens = lambda ∷ r.tokens;
      spells = subst (Spells after (lambda ∷ r.tokens)) (sym (ap (λ k. b ∷ k) parts)) s;
      accepted = ap (option_and_then (λ s. accepts s r.tokens)) h ∙ r.accepted;
    }

left_letter : (p : State) (t : Named) (b : ℕ) (bs : List ℕ) → Each t bs → class_of b ≡ letter →
    (y : Bool) → takes_name p ≡ y → then_take bs (cond y (Some (word (b ∷ []) p)) None) ≡ Some t →
    (after : Bool) → (after ≡ true → IsApart (b ∷ bs)) → Spelling after p t (b ∷ bs)
left_letter p t b bs each e false h g after a = absurd (cc)
left_letter p t b bs each e true h g after a =
    let r = each (word (b ∷ []) p) g in
    let w = b ∷ r.more in
    let k = token_of w in
    let s : Spells (is_word k) r.spelling.tokens r.rest = subst
    (λ y. Spells y r.spelling.tokens r.rest) (sym (word_token w)) r.spelling.spells in
    let z : Spells after (k ∷ r.spelling.tokens) (w ++ r.rest) = spells_one gap_none
    (λ y _. false_true (sym (a y) ∙ ap in_word e)) (token_word e r.in_it) s in
    record {
      tokens = k ∷ r.spelling.tokens;
      spells = subst (Spells after (k ∷ r.spelling.tokens)) (sym (ap (λ k. b ∷ k) r.parts)) z;
      accepted = ap (option_and_then (λ s. accepts s r.spelling.tokens)) r.stepped ∙ r.spelling.accepted;
    }

left_hash : (p : State) (t : Named) (b : ℕ) (bs : List ℕ) → class_of b ≡ hash →
    Left (comment p) t bs → (after : Bool) → Spelling after p t (b ∷ bs)
left_hash p t b bs e (inl (l, h)) after = record {
  tokens = [];
  spells = spells_none (last_comment gap_none b e bs l);
  accepted = h;
}
left_hash p t b bs e (inr r) after = record {
  tokens = r.spelling.tokens;
  spells = subst (Spells after r.spelling.tokens) (sym (ap (λ k. b ∷ k) r.parts))
      (put_comment e r.comment_text r.line r.spelling.spells after);
  accepted = r.spelling.accepted;
}

left_gap : (p : State) (t : Named) (b : ℕ) (bs : List ℕ) → Each t bs → (c : Class) →
    class_of b ≡ c → then_take bs (gap_step p b c) ≡ Some t → (after : Bool) →
    (after ≡ true → IsApart (b ∷ bs)) → Spelling after p t (b ∷ bs)
left_gap p t b bs each blank e h after a =
    let r = each (gap p) h false false_true in
    record { tokens = r.tokens; spells = put_blank e r.spells after; accepted = r.accepted }
left_gap p t b bs each hash e h after a = left_hash p t b bs e (each (comment p) h) after
left_gap p t b bs each letter e h after a = left_letter p t b bs each e (takes_name p) refl h after a
left_gap p t b bs each (sign k) e h after a = left_sign p t k b bs each e (step p k) refl h after
left_gap p t b bs each lead e h after a = left_lead p t b bs each e (step p lambda) refl h after
left_gap p t b bs each _ e h after a = absurd (cc)

left_comment : (p : State) (t : Named) (b : ℕ) (bs : List ℕ) → Each t bs → (y : Bool) →
    nat_eq b 10 ≡ y → takes (cond y (gap p) (comment p)) bs ≡ Some t → Left (comment p) t (b ∷ bs)
left_comment p t b bs each true e h = inr
    (record {
      comment_text = [];
      rest = bs;
      line = tt;
      parts = ap (λ b. b ∷ bs) (eqb-true b 10 e);
      spelling = each (gap p) h false false_true;
    })
left_comment p t b bs each false e h = go (each (comment p) h)
  where
    go : Left (comment p) t bs → Left (comment p) t (b ∷ bs)
    go (inl (l, f)) = inl ((e, l), f)
    go (inr r) = inr (record {
      comment_text = b ∷ r.comment_text;
      rest = r.rest;
      line = (e, r.line);
      parts = ap (λ k. b ∷ k) r.parts;
      spelling = r.spelling;
    })

left_after : (w : List ℕ) (p : State) (t : Named) (b : ℕ) (bs : List ℕ) → Each t bs →
    in_word (class_of b) ≡ false → (o : Option State) → step p (token_of w) ≡ o →
    then_take bs (option_and_then (λ q. gap_step q b (class_of b)) o) ≡ Some t → InWord w p t (b ∷ bs)
left_after w p t b bs each e None h g = absurd (cc)
left_after w p t b bs each e (Some q) h g = record {
  more = [];
  rest = b ∷ bs;
  next = q;
  in_it = tt;
  parts = refl;
  stepped = ap (λ w. step p (token_of w)) (append-nil w) ∙ h;
  spelling = left_gap q t b bs each (class_of b) refl g true (λ _. e);
}

left_word : (w : List ℕ) (p : State) (t : Named) (b : ℕ) (bs : List ℕ) → Each t bs → (y : Bool) →
    in_word (class_of b) ≡ y → then_take bs
    (cond y (Some (word (w ++ (b ∷ [])) p))
    (option_and_then (λ q. gap_step q b (class_of b)) (step p (token_of w)))) ≡ Some t → InWord w p t (b ∷ bs)
left_word w p t b bs each true e h =
    let r = each (word (w ++ (b ∷ [])) p) h in
    record {
      more = b ∷ r.more;
      rest = r.rest;
      next = r.next;
      in_it = (e, r.in_it);
      parts = ap (λ k. b ∷ k) r.parts;
      stepped = ap (λ w. step p (token_of w)) (sym (append_assoc w (b ∷ []) r.more)) ∙ r.stepped;
      spelling = r.spelling;
    }
left_word w p t b bs each false e h = left_after w p t b bs each e (step p (token_of w)) refl h

left_half : (p : State) (t : Named) (b : ℕ) (bs : List ℕ) → Each t bs → (y : Bool) →
    nat_eq b 187 ≡ y → then_take bs (cond y (Some (gap p)) None) ≡ Some t → Left (half p) t (b ∷ bs)
left_half p t b bs each true e h = (bs, ap (λ b. b ∷ bs) (eqb-true b 187 e), each (gap p) h false false_true)
left_half p t b bs each false e h = absurd (cc)

left_step : (t : Named) (b : ℕ) (bs : List ℕ) → Each t bs → Each t (b ∷ bs)
left_step t b bs each (gap p) h = left_gap p t b bs each (class_of b) refl h
left_step t b bs each (comment p) h = left_comment p t b bs each (nat_eq b 10) refl h
left_step t b bs each (word w p) h = left_word w p t b bs each (in_word (class_of b)) refl h
left_step t b bs each (half p) h = left_half p t b bs each (nat_eq b 187) refl h

left_word_end : (w : List ℕ) (p : State) (t : Named) (o : Option State) → step p (token_of w) ≡ o →
    option_and_then final o ≡ Some t → InWord w p t []
left_word_end w p t None e g = absurd (cc)
left_word_end w p t (Some q) e g = record {
  more = [];
  rest = [];
  next = q;
  in_it = tt;
  parts = refl;
  stepped = ap (λ w. step p (token_of w)) (append-nil w) ∙ e;
  spelling = record { tokens = []; spells = spells_none (last_gap gap_none); accepted = g };
}

left_none : (t : Named) → Each t []
left_none t (gap p) h = λ after a. record { tokens = []; spells = spells_none (last_gap gap_none); accepted = h }
left_none t (comment p) h = inl (tt, h)
left_none t (word w p) h = left_word_end w p t (step p (token_of w)) refl h
left_none t (half p) h = absurd (cc)

left : (t : Named) (bs : List ℕ) → Each t bs
left t [] = left_none t
left t (b ∷ bs) = left_step t b bs (left t bs)

-- what is taken is spelled
pub spelling : (t : Named) (bs : List ℕ) (p : State) → takes (gap p) bs ≡ Some t → Spelling false p t bs
spelling t bs p h = left t bs (gap p) h false false_true
