-- How often a dot, a backslash, a question mark and a line feed stand in the text of a tree.
use Rattle.std.proofs.Common.{◌≡◌, ◌≤◌, ◌<◌, ℕ, zero, suc, ◌+◌, ◌-◌, ◌/◌, ◌%◌, ◌==◌, List, [], ◌∷◌, ◌++◌, Bool, true}
use Rattle.std.proofs.Common.{false, cond, nat_eq, refl, sym, ap, ◌∙◌, arith, append_assoc, ◌*◌}
use Rattle.std.specs.Prelude.{slice_index_or, slice_index}
use Rattle.std.specs.Fmt.{decimal, digits, digits_onto, digit_glyph}
use Rattle.std.proofs.lemmas.Bool.{ne_eqb}
use Rattle.std.proofs.lemmas.Bool.Decides.{nat_tests}
use Rattle.ol_term.specs.BinderNames.{candidate, binder_name, binder_number}
use Rattle.ol_parse.specs.Texts.{class_of, in_word}
use Rattle.ol_parse.specs.Parsed.{AreNames}
use Rattle.ol_readback.specs.Whole.{Part, term, lost, cut, none, more, preorder}
use Rattle.ol_readback.specs.Terms.{HasAllHeads}
use Rattle.ol_readback.specs.Texts.{spaced, abstractions, variable, is_bare, bracketed, part_text}
use Rattle.ol_readback.specs.declared.answers.HeadVar.{HeadVar}
use Rattle.ol_readback.specs.declared.answers.HeadVar.TheVariants as var
use Rattle.ol_readback.specs.declared.answers.ReadNode.{ReadNode}
use Rattle.ol_readback.specs.declared.answers.ReadNode.TheVariants as node
use Rattle.ol_law_meaning.specs.Shows.{LacksHead}
use Rattle.ol_law_confluence.proofs.Counts.{times, times_append, skipped}
use Rattle.ol_law_confluence.proofs.Tokens.{none_in_name}

-- no letter and no digit
pub record IsApart (c : ℕ) : Type 0 where
  pub word : in_word (class_of c) ≡ false
  pub letter : (n : ℕ) → 97 ≤ n → n ≤ 122 → n ≡ c → ⊥
  pub digit : (n : ℕ) → 48 ≤ n → n ≤ 57 → n ≡ c → ⊥
  pub blank : nat_eq 32 c ≡ false

pub glyph_is : (d : ℕ) → d < 10 → digit_glyph false d ≡ 48 + d
glyph_is d h = grind (arith, nat_tests)

-- how many places have no head, and how many were cut
abbrev pub count_of_lost : {b : Bool} → Part b → ℕ
count_of_lost (term l v ts) = count_of_lost ts
count_of_lost lost = 1
count_of_lost cut = 0
count_of_lost none = 0
count_of_lost (more u us) = count_of_lost u + count_of_lost us

abbrev pub count_of_cut : {b : Bool} → Part b → ℕ
count_of_cut (term l v ts) = count_of_cut ts
count_of_cut lost = 0
count_of_cut cut = 1
count_of_cut none = 0
count_of_cut (more u us) = count_of_cut u + count_of_cut us

module _ (c : ℕ) (a : IsApart c) where
  glyph_none : (n : ℕ) → nat_eq (digit_glyph false (n % 10)) c ≡ false
  glyph_none n =
      ne_eqb (digit_glyph false (n % 10)) c
      (λ e. a.digit (48 + n % 10) (omega arith) (omega arith)
      (sym (glyph_is (n % 10) (omega arith)) ∙ e))

  digits_none : (k n : ℕ) (acc : List ℕ) → times c acc ≡ 0 →
      times c (digits_onto k 10 false n acc) ≡ 0
  digits_none zero n acc h = h
  digits_none (suc k) n acc h =
      let more = skipped c (digit_glyph false (n % 10)) acc (glyph_none n) ∙ h in
      go (n / 10 == 0) more (digits_none k (n / 10) (digit_glyph false (n % 10) ∷ acc) more)
    where
      go : (b : Bool) → times c (digit_glyph false (n % 10) ∷ acc) ≡ 0 →
          times c (digits_onto k 10 false (n / 10) (digit_glyph false (n % 10) ∷ acc)) ≡ 0 →
          times c
          (cond b (digit_glyph false (n % 10) ∷ acc)
          (digits_onto k 10 false (n / 10) (digit_glyph false (n % 10) ∷ acc))) ≡ 0
      go true x y = x
      go false x y = y

  pub decimal_none : (n : ℕ) → times c (decimal n) ≡ 0
  unfolding digits
  decimal_none n = digits_none 64 n [] refl

  candidate_none : (m : ℕ) → times c (candidate m) ≡ 0
  candidate_none m =
      skipped c (97 + m % 26) (cond (m / 26 == 0) [] (decimal (m / 26)))
      (ne_eqb (97 + m % 26) c (a.letter (97 + m % 26) (omega arith) (omega arith)))
      ∙ go (m / 26 == 0)
    where
      go : (b : Bool) → times c (cond b [] (decimal (m / 26))) ≡ 0
      go true = refl
      go false = decimal_none (m / 26)

  spaced_none : (names : List (List ℕ)) (t l : ℕ) → times c (spaced names t l) ≡ 0
  spaced_none names t zero = refl
  spaced_none names t (suc l) =
      let h = times_append c (binder_name names t) (spaced names (suc t) l) in
      let x = candidate_none (binder_number names t) in
      let y = spaced_none names (suc t) l in
      skipped c 32 (binder_name names t ++ spaced names (suc t) l) a.blank ∙ omega arith

  name_none : (names : List (List ℕ)) → AreNames names → (k : ℕ) →
      times c (slice_index_or names k []) ≡ 0
  name_none [] g k = refl
  name_none (x ∷ names) g zero = none_in_name c a.word g.0 refl
  name_none (x ∷ names) g (suc k) = name_none names g.1 k

  variable_none : (names : List (List ℕ)) → AreNames names → (rs : List ℕ) (v : HeadVar) →
      times c (variable names rs v) ≡ 0
  variable_none names g rs (var.Bound i j) =
      candidate_none (binder_number names (slice_index rs i + (j - 1)))
  variable_none names g rs (var.Free q) = name_none names g (q - 1)

-- the bytes before a body: as many as one backslash and one dot have
abbrev opening : ℕ → ℕ → ℕ
opening c zero = 0
opening c (suc l) = times c (92 ∷ 46 ∷ [])

one_of_two : (c : ℕ) (x : List ℕ) → times c x ≡ 0 → nat_eq 32 c ≡ false →
    times c (92 ∷ (x ++ (46 ∷ (32 ∷ [])))) ≡ times c (92 ∷ 46 ∷ [])
one_of_two c x h k = go (nat_eq 92 c) (times_append c x (46 ∷ (32 ∷ []))) (last (nat_eq 46 c))
  where
    last : (b : Bool) → cond b (suc (times c (32 ∷ []))) (times c (32 ∷ [])) ≡ cond b 1 0
    last true = ap (λ n. suc n) (skipped c 32 [] k)
    last false = skipped c 32 [] k

    go : (b : Bool) → times c (x ++ (46 ∷ (32 ∷ []))) ≡ times c x + times c (46 ∷ (32 ∷ [])) →
        times c (46 ∷ (32 ∷ [])) ≡ times c (46 ∷ []) →
        cond b (suc (times c (x ++ (46 ∷ (32 ∷ []))))) (times c (x ++ (46 ∷ (32 ∷ [])))) ≡ cond b
        (suc (times c (46 ∷ []))) (times c (46 ∷ []))
    go true e f = omega arith
    go false e f = omega arith

module _ (c : ℕ) (a : IsApart c) (names : List (List ℕ)) (good : AreNames names) where
  opened : (t l : ℕ) → times c (abstractions names t l) ≡ opening c l
  opened t zero = refl
  opened t (suc l) =
      let h = times_append c (binder_name names t) (spaced names (suc t) l) in
      let x = candidate_none c a (binder_number names t) in
      let y = spaced_none c a names (suc t) l in
      ap (λ (z : List ℕ). times c (92 ∷ z))
      (sym (append_assoc (binder_name names t) (spaced names (suc t) l) (46 ∷ (32 ∷ []))))
      ∙ one_of_two c (binder_name names t ++ spaced names (suc t) l) (omega arith) a.blank

  in_brackets : nat_eq 40 c ≡ false → nat_eq 41 c ≡ false → (b : Bool) (x : List ℕ) →
      times c (bracketed b x) ≡ times c x
  in_brackets l r true x = refl
  in_brackets l r false x =
      let h = times_append c x (41 ∷ []) in
      let k = skipped c 41 [] r in
      skipped c 40 (x ++ 41 ∷ []) l ∙ omega arith

-- how often a byte stands in a part, where each head with abstractions has x of them, and holes
-- have y and z
abbrev weight : (x y z : ℕ) → {b : Bool} → Part b → ℕ
weight x y z (term zero v ts) = weight x y z ts
weight x y z (term (suc l) v ts) = x + weight x y z ts
weight x y z lost = y
weight x y z cut = z
weight x y z none = 0
weight x y z (more u us) = weight x y z u + weight x y z us

pub record IsWeighed (c x y z : ℕ) : Type 0 where
  pub apart : IsApart c
  pub left : nat_eq 40 c ≡ false
  pub right : nat_eq 41 c ≡ false
  pub heads : times c (92 ∷ 46 ∷ []) ≡ x
  pub losts : times c (63 ∷ []) ≡ y
  pub cuts : times c (46 ∷ (46 ∷ (46 ∷ []))) ≡ z

module _ {c x y z : ℕ} (w : IsWeighed c x y z) (names : List (List ℕ)) (good : AreNames names)
    (rs : List ℕ) where
  pub weighed : {b : Bool} (t : ℕ) (p : Part b) → times c (part_text names rs t p) ≡ weight x y z p
  weighed t (term l v ts) =
      let h =
      times_append c (abstractions names t l)
      (variable names rs v ++ part_text names rs (t + l) ts) in
      let k = times_append c (variable names rs v) (part_text names rs (t + l) ts) in
      let o = opened c w.apart names good t l in
      let n = variable_none c w.apart names good rs v in
      last l o n h k (weighed (t + l) ts)
    where
      last : (l : ℕ) → times c (abstractions names t l) ≡ opening c l →
          times c (variable names rs v) ≡ 0 →
          times c (abstractions names t l ++ (variable names rs v ++ part_text names rs (t + l) ts))
          ≡ times c (abstractions names t l) + times c
          (variable names rs v ++ part_text names rs (t + l) ts) →
          times c (variable names rs v ++ part_text names rs (t + l) ts)
          ≡ times c (variable names rs v) + times c (part_text names rs (t + l) ts) →
          times c (part_text names rs (t + l) ts) ≡ weight x y z ts →
          times c (part_text names rs t (term l v ts)) ≡ weight x y z (term l v ts)
      last zero o n h k i = omega arith
      last (suc l) o n h k i = let e = w.heads in omega arith
  weighed t lost = w.losts
  weighed t cut = w.cuts
  weighed t none = refl
  weighed t (more u us) =
      let h =
      times_append c (bracketed (is_bare u) (part_text names rs t u)) (part_text names rs t us)
      in
      let k =
      in_brackets c w.apart names good w.left w.right (is_bare u) (part_text names rs t u) in
      let i = weighed t u in
      let j = weighed t us in
      skipped c 32 (bracketed (is_bare u) (part_text names rs t u) ++ part_text names rs t us)
      w.apart.blank
      ∙ omega arith

-- ---- the bytes

feed_word : in_word (class_of 10) ≡ false
unfolding class_of
feed_word = refl

hash_word : in_word (class_of 35) ≡ false
unfolding class_of
hash_word = refl

dot_word : in_word (class_of 46) ≡ false
unfolding class_of
dot_word = refl

question_word : in_word (class_of 63) ≡ false
unfolding class_of
question_word = refl

slash_word : in_word (class_of 92) ≡ false
unfolding class_of
slash_word = refl

lead_word : in_word (class_of 206) ≡ false
unfolding class_of
lead_word = refl

pub feed : IsWeighed 10 0 0 0
feed = record {
  apart =
      record {
        word = feed_word;
        letter = λ n a b e. absurd (omega arith);
        digit =
            λ n a b e. absurd (omega arith);
        blank = refl;
      };
  left = refl;
  right = refl;
  heads = refl;
  losts = refl;
  cuts = refl;
}

pub hash : IsWeighed 35 0 0 0
hash = record {
  apart =
      record {
        word = hash_word;
        letter = λ n a b e. absurd (omega arith);
        digit =
            λ n a b e. absurd (omega arith);
        blank = refl;
      };
  left = refl;
  right = refl;
  heads = refl;
  losts = refl;
  cuts = refl;
}

pub dot : IsWeighed 46 1 0 3
dot = record {
  apart =
      record {
        word = dot_word;
        letter = λ n a b e. absurd (omega arith);
        digit =
            λ n a b e. absurd (omega arith);
        blank = refl;
      };
  left = refl;
  right = refl;
  heads = refl;
  losts = refl;
  cuts = refl;
}

pub question : IsWeighed 63 0 1 0
question = record {
  apart =
      record {
        word = question_word;
        letter = λ n a b e. absurd (omega arith);
        digit =
            λ n a b e. absurd (omega arith);
        blank = refl;
      };
  left = refl;
  right = refl;
  heads = refl;
  losts = refl;
  cuts = refl;
}

pub slash : IsWeighed 92 1 0 0
slash = record {
  apart =
      record {
        word = slash_word;
        letter = λ n a b e. absurd (omega arith);
        digit =
            λ n a b e. absurd (omega arith);
        blank = refl;
      };
  left = refl;
  right = refl;
  heads = refl;
  losts = refl;
  cuts = refl;
}

pub lead : IsWeighed 206 0 0 0
lead = record {
  apart =
      record {
        word = lead_word;
        letter = λ n a b e. absurd (omega arith);
        digit =
            λ n a b e. absurd (omega arith);
        blank = refl;
      };
  left = refl;
  right = refl;
  heads = refl;
  losts = refl;
  cuts = refl;
}

-- ---- weights

pub weight_none : {b : Bool} (p : Part b) → weight 0 0 0 p ≡ 0
weight_none (term zero v ts) = weight_none ts
weight_none (term (suc l) v ts) = let h = weight_none ts in omega arith
weight_none lost = refl
weight_none cut = refl
weight_none none = refl
weight_none (more u us) = let h = weight_none u in let k = weight_none us in omega arith

pub weight_lost : {b : Bool} (p : Part b) → weight 0 1 0 p ≡ count_of_lost p
weight_lost (term zero v ts) = weight_lost ts
weight_lost (term (suc l) v ts) = let h = weight_lost ts in omega arith
weight_lost lost = refl
weight_lost cut = refl
weight_lost none = refl
weight_lost (more u us) = let h = weight_lost u in let k = weight_lost us in omega arith

pub weight_cut : {b : Bool} (p : Part b) → weight 1 0 3 p ≡ weight 1 0 0 p + 3 * count_of_cut p
weight_cut (term zero v ts) = weight_cut ts
weight_cut (term (suc l) v ts) = let h = weight_cut ts in omega arith
weight_cut lost = refl
weight_cut cut = refl
weight_cut none = refl
weight_cut (more u us) = let h = weight_cut u in let k = weight_cut us in omega arith

-- ---- holes

pub heads_append : (ns ms : List ReadNode) → HasAllHeads ns → HasAllHeads ms → HasAllHeads (ns ++ ms)
heads_append [] ms h k = k
heads_append (node.Head l v n ∷ ns) ms h k = heads_append ns ms h k
heads_append (node.NoHead ∷ ns) ms h k = absurd h
heads_append (node.Cut ∷ ns) ms h k = absurd h

pub all_heads : {b : Bool} (p : Part b) → count_of_lost p ≡ 0 → count_of_cut p ≡ 0 →
    HasAllHeads (preorder p)
all_heads (term l v ts) h k = all_heads ts h k
all_heads lost h k = absurd (omega arith)
all_heads cut h k = absurd (omega arith)
all_heads none h k = tt
all_heads (more u us) h k =
    heads_append (preorder u) (preorder us) (all_heads u (omega arith) (omega arith))
    (all_heads us (omega arith) (omega arith))

lacks_left : (ns ms : List ReadNode) → LacksHead ns → LacksHead (ns ++ ms)
lacks_left [] ms h = absurd h
lacks_left (node.Head l v n ∷ ns) ms h = lacks_left ns ms h
lacks_left (node.NoHead ∷ ns) ms h = tt
lacks_left (node.Cut ∷ ns) ms h = lacks_left ns ms h

lacks_right : (ns ms : List ReadNode) → LacksHead ms → LacksHead (ns ++ ms)
lacks_right [] ms h = h
lacks_right (node.Head l v n ∷ ns) ms h = lacks_right ns ms h
lacks_right (node.NoHead ∷ ns) ms h = tt
lacks_right (node.Cut ∷ ns) ms h = lacks_right ns ms h

pub lacks_head : {b : Bool} (p : Part b) → 1 ≤ count_of_lost p → LacksHead (preorder p)
lacks_head (term l v ts) h = lacks_head ts h
lacks_head lost h = tt
lacks_head cut h = absurd (omega arith)
lacks_head none h = absurd (omega arith)
lacks_head (more u us) h = go (count_of_lost u) refl (λ k. lacks_head u k) (λ k. lacks_head us k)
  where
    go : (n : ℕ) → count_of_lost u ≡ n → (1 ≤ count_of_lost u → LacksHead (preorder u)) →
        (1 ≤ count_of_lost us → LacksHead (preorder us)) → LacksHead (preorder u ++ preorder us)
    go zero e f g = lacks_right (preorder u) (preorder us) (g (omega arith))
    go (suc n) e f g = lacks_left (preorder u) (preorder us) (f (omega arith))
