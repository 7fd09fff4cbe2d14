-- Bytes that don't stand in the text of a head, nor in a number.
use Rattle.std.proofs.Common.{◌≡◌, ℕ, zero, suc, ◌+◌, ◌-◌, ◌/◌, ◌%◌, ◌≤◌, ◌==◌, Bool, true, false, cond, List, [], ◌∷◌, ◌++◌, drop, nat_eq, append_assoc, codes, refl, sym, ap, ◌∙◌, subst, arith}
use Rattle.std.specs.Prelude.{not, ◌&&◌, slice_index, slice_index_or}
use Rattle.std.specs.Fmt.{decimal, digits, digits_onto, digit_glyph}
use Rattle.std.proofs.lemmas.Bool.Decides.{nat_tests}
use Rattle.ol_term.specs.BinderNames.{candidate, binder_name, binder_number}
use Rattle.ol_parse.specs.Texts.{class_of, in_word}
use Rattle.ol_parse.specs.Parsed.{AreNames}
use Rattle.ol_readback.specs.Texts.{abstractions, spaced}
use Rattle.ol_readback.specs.declared.answers.HeadVar.{HeadVar}
use Rattle.ol_readback.specs.declared.answers.HeadVar.TheVariants as var
use Rattle.ol_readback.specs.declared.answers.ReadNode.{ReadNode}
use Rattle.ol_readback.specs.declared.answers.ReadNode.TheVariants as node
use Rattle.ol_subjects.proofs.Glyphs.{glyph_is}
use Rattle.ol_equal.specs.Texts.{path_text}
use Rattle.ol_equal.specs.Walking.{dotted}
use Rattle.ol_derivations.specs.Heads.{underscores, told_variable, head_text}
use Rattle.ol_derivations.proofs.Plain.{Lacks, lacks_both, name_lacks}
use Rattle.ol_derivations.specs.Grades.{heads_words}

-- ---- texts that are written out

abbrev none_is : ℕ → List ℕ → Bool
none_is c [] = true
none_is c (x ∷ xs) = not (nat_eq x c) && none_is c xs

same_is : (x c : ℕ) → x ≡ c → nat_eq x c ≡ true
same_is x c e = grind (arith, nat_tests)

pub lacks_by : (c : ℕ) (xs : List ℕ) → none_is c xs ≡ true → Lacks c xs
lacks_by c [] e = tt
lacks_by c (x ∷ xs) e = go (nat_eq x c) refl (lacks_by c xs) e
  where
    go : (b : Bool) → nat_eq x c ≡ b → (none_is c xs ≡ true → Lacks c xs) → (not b && none_is c xs) ≡ true →
        (x ≡ c → ⊥) × Lacks c xs
    go true q each e = absurd (cc)
    go false q each e = (λ same. let clash : true ≡ false = sym (same_is x c same) ∙ q in absurd (cc), each e)

-- ---- numbers, names and heads

-- no letter and no digit, nor another byte of a head
pub record IsOut (c : ℕ) : Type 0 where
  pub word : in_word (class_of c) ≡ false
  pub letter : (n : ℕ) → 97 ≤ n → n ≤ 122 → n ≡ c → ⊥
  pub digit : (n : ℕ) → 48 ≤ n → n ≤ 57 → n ≡ c → ⊥
  pub blank : 32 ≡ c → ⊥
  pub slash : 92 ≡ c → ⊥
  pub line : 95 ≡ c → ⊥

module _ (c : ℕ) (out : IsOut c) where
  glyph_lacks : (n : ℕ) → digit_glyph false (n % 10) ≡ c → ⊥
  glyph_lacks n e = out.digit (48 + n % 10) (omega arith) (omega arith) (sym (glyph_is (n % 10) (omega arith)) ∙ e)

  digits_lack : (k n : ℕ) (acc : List ℕ) → Lacks c acc → Lacks c (digits_onto k 10 false n acc)
  digits_lack zero n acc h = h
  digits_lack (suc k) n acc h =
      let more : Lacks c (digit_glyph false (n % 10) ∷ acc) = (glyph_lacks n, h) in
      go (n / 10 == 0) more (digits_lack k (n / 10) (digit_glyph false (n % 10) ∷ acc) more)
    where
      go : (b : Bool) → Lacks c (digit_glyph false (n % 10) ∷ acc) →
          Lacks c (digits_onto k 10 false (n / 10) (digit_glyph false (n % 10) ∷ acc)) →
          Lacks c
          (cond b (digit_glyph false (n % 10) ∷ acc)
          (digits_onto k 10 false (n / 10) (digit_glyph false (n % 10) ∷ acc)))
      go true x y = x
      go false x y = y

  pub decimal_lacks : (n : ℕ) → Lacks c (decimal n)
  unfolding digits
  decimal_lacks n = digits_lack 64 n [] tt

  candidate_lacks : (m : ℕ) → Lacks c (candidate m)
  candidate_lacks m = (λ e. out.letter (97 + m % 26) (omega arith) (omega arith) e, go (m / 26 == 0))
    where
      go : (b : Bool) → Lacks c (cond b [] (decimal (m / 26)))
      go true = tt
      go false = decimal_lacks (m / 26)

  binder_lacks : (all : List (List ℕ)) (t : ℕ) → Lacks c (binder_name all t)
  binder_lacks all t = candidate_lacks (binder_number all t)

  spaced_lacks : (all : List (List ℕ)) (t l : ℕ) → Lacks c (spaced all t l)
  spaced_lacks all t zero = tt
  spaced_lacks all t (suc l) = (
    out.blank,
    lacks_both c (binder_name all t) (spaced all (suc t) l) (binder_lacks all t) (spaced_lacks all (suc t) l),
  )

  name_lacks_at : (names : List (List ℕ)) → AreNames names → (k : ℕ) → Lacks c (slice_index_or names k [])
  name_lacks_at [] g zero = tt
  name_lacks_at [] g (suc k) = tt
  name_lacks_at (x ∷ names) g zero = name_lacks c out.word x g.0
  name_lacks_at (x ∷ names) g (suc k) = name_lacks_at names g.1 k

  variable_lacks : (all names : List (List ℕ)) (rs : List ℕ) (v : HeadVar) → AreNames names →
      Lacks c (told_variable all names rs v)
  variable_lacks all names rs (var.Bound i j) g = binder_lacks all (slice_index rs i + (j - 1))
  variable_lacks all names rs (var.Free q) g = name_lacks_at names g (q - 1)

  underscores_lack : (m : ℕ) → Lacks c (underscores m)
  underscores_lack zero = tt
  underscores_lack (suc m) = (out.blank, (out.line, underscores_lack m))

  -- a head without binders
  pub bare_lacks : (all names : List (List ℕ)) (rs : List ℕ) (v : HeadVar) (m : ℕ) → AreNames names →
      Lacks c (told_variable all names rs v ++ underscores m)
  bare_lacks all names rs v m g =
      lacks_both c (told_variable all names rs v) (underscores m) (variable_lacks all names rs v g) (underscores_lack m)

  module _ (dot : 46 ≡ c → ⊥) where
    abstractions_lack : (all : List (List ℕ)) (t l : ℕ) → Lacks c (abstractions all t l)
    abstractions_lack all t zero = tt
    abstractions_lack all t (suc l) = (
      out.slash,
      lacks_both c (binder_name all t) (spaced all (suc t) l ++ (46 ∷ (32 ∷ []))) (binder_lacks all t)
          (lacks_both c (spaced all (suc t) l) (46 ∷ (32 ∷ [])) (spaced_lacks all (suc t) l) (dot, (out.blank, tt))),
    )

    pub head_lacks : (all names : List (List ℕ)) (rs : List ℕ) (k l : ℕ) (v : HeadVar) (m : ℕ) → AreNames names →
        Lacks c (head_text all names rs k (node.Head l v m))
    head_lacks all names rs k l v m g =
        let a = abstractions all (slice_index rs k) l in
        let x = told_variable all names rs v in
        lacks_both c (a ++ x) (underscores m)
        (lacks_both c a x (abstractions_lack all (slice_index rs k) l) (variable_lacks all names rs v g)) (underscores_lack m)

    pub text_lacks : (63 ≡ c → ⊥) → (all names : List (List ℕ)) (rs : List ℕ) (k : ℕ) (n : ReadNode) → AreNames names →
        Lacks c (head_text all names rs k n)
    text_lacks lost all names rs k (node.Head l v m) g = head_lacks all names rs k l v m g
    text_lacks lost all names rs k node.NoHead g = (lost, tt)
    text_lacks lost all names rs k node.Cut g = (dot, (dot, (dot, tt)))

    dotted_lacks : (ns : List ℕ) → Lacks c (dotted ns)
    dotted_lacks [] = tt
    dotted_lacks (n ∷ ns) = (dot, lacks_both c (decimal n) (dotted ns) (decimal_lacks n) (dotted_lacks ns))

    pub path_lacks : (path : List ℕ) → Lacks c (codes "root") → Lacks c (path_text path)
    path_lacks [] root = root
    path_lacks (n ∷ ns) root = lacks_both c (decimal n) (dotted ns) (decimal_lacks n) (dotted_lacks ns)

comma_word : in_word (class_of 44) ≡ false
unfolding class_of
comma_word = refl

colon_word : in_word (class_of 58) ≡ false
unfolding class_of
colon_word = refl

question_word : in_word (class_of 63) ≡ false
unfolding class_of
question_word = refl

dot_word : in_word (class_of 46) ≡ false
unfolding class_of
dot_word = refl

pub comma : IsOut 44
comma = record {
  word = comma_word;
  letter = λ n l h e. omega (arith, l, e);
  digit = λ n l h e. omega (arith, l, e);
  blank = λ e. omega (arith, e);
  slash = λ e. omega (arith, e);
  line = λ e. omega (arith, e);
}

pub colon : IsOut 58
colon = record {
  word = colon_word;
  letter = λ n l h e. omega (arith, l, e);
  digit = λ n l h e. omega (arith, h, e);
  blank = λ e. omega (arith, e);
  slash = λ e. omega (arith, e);
  line = λ e. omega (arith, e);
}

pub question : IsOut 63
question = record {
  word = question_word;
  letter = λ n l h e. omega (arith, l, e);
  digit = λ n l h e. omega (arith, h, e);
  blank = λ e. omega (arith, e);
  slash = λ e. omega (arith, e);
  line = λ e. omega (arith, e);
}

pub full_stop : IsOut 46
full_stop = record {
  word = dot_word;
  letter = λ n l h e. omega (arith, l, e);
  digit = λ n l h e. omega (arith, l, e);
  blank = λ e. omega (arith, e);
  slash = λ e. omega (arith, e);
  line = λ e. omega (arith, e);
}

-- ---- the two texts behind a colon

pub lacks_no_more : (c : ℕ) (xs us : List ℕ) → Lacks c (xs ++ (c ∷ us)) → ⊥
lacks_no_more c [] us h = h.0 refl
lacks_no_more c (x ∷ xs) us h = lacks_no_more c xs us h.1

-- a byte that stands once parts a text in one way
split : (c : ℕ) (xs ys us vs : List ℕ) → Lacks c xs → Lacks c us → xs ++ (c ∷ us) ≡ ys ++ (c ∷ vs) →
    (xs ≡ ys) × (us ≡ vs)
split c [] [] us vs h k e = let rest : us ≡ vs = cc in (refl, rest)
split c [] (y ∷ ys) us vs h k e =
    let rest : us ≡ ys ++ (c ∷ vs) = cc in absurd (lacks_no_more c ys vs (subst (λ us. Lacks c us) rest k))
split c (x ∷ xs) [] us vs h k e = let q : x ≡ c = cc in absurd (h.0 q)
split c (x ∷ xs) (y ∷ ys) us vs h k e =
    let q : x ≡ y = cc in
    let rest : xs ++ (c ∷ us) ≡ ys ++ (c ∷ vs) = cc in
    let r = split c xs ys us vs h.1 k rest in
    (ap (λ x. x ∷ xs) q ∙ ap (λ xs. y ∷ xs) r.0, r.1)

abbrev behind : (expected found : List ℕ) → List ℕ
behind expected found = codes " expected " ++ expected ++ codes ", got " ++ found

behind_lacks : (expected found : List ℕ) → Lacks 58 expected → Lacks 58 found → Lacks 58 (behind expected found)
behind_lacks expected found h k =
    let one = codes " expected " in
    let two = codes ", got " in
    lacks_both 58 (one ++ expected ++ two) found
    (lacks_both 58 (one ++ expected) two (lacks_both 58 one expected (lacks_by 58 one refl) h) (lacks_by 58 two refl)) k

pub same_twice : (xs ys expected found head : List ℕ) → Lacks 58 xs → Lacks 58 expected → Lacks 58 found →
    Lacks 44 expected → Lacks 44 found → xs ++ heads_words expected found ≡ ys ++ heads_words head head →
    expected ≡ found
same_twice xs ys expected found head h p q k l e =
    let two = codes ", got " in
    let r : behind expected found ≡ behind head head =
    (split 58 xs ys (behind expected found) (behind head head) h (behind_lacks expected found p q) e).1 in
    let s : (expected ++ two) ++ found ≡ (head ++ two) ++ head = ap (λ (t : List ℕ). drop 10 t) r in
    let t = split 44 expected head (codes " got " ++ found) (codes " got " ++ head) k
    (lacks_both 44 (codes " got ") found (lacks_by 44 (codes " got ") refl) l)
    (sym (append_assoc expected two found) ∙ s ∙ append_assoc head two head) in
    let u : found ≡ head = ap (λ (t : List ℕ). drop 5 t) t.1 in
    t.0 ∙ sym u
