-- A line of the grammar has one line feed, which is its last byte, and at most 52 bytes before it.
use Rattle.std.proofs.Common.{◌≡◌, ◌≢◌, ℕ, suc, ◌+◌, ◌%◌, ◌<◌, ◌≤◌, ◌^◌, Bool, true, false, ◌==◌, List, [], ◌∷◌, ◌++◌}
use Rattle.std.proofs.Common.{append_assoc, length, length-append, refl, sym, ap, ◌∙◌, subst, arith}
use Rattle.std.proofs.lemmas.Bool.Decides.{nat_tests}
use Rattle.std.proofs.lemmas.Fmt.{decimal_by_steps, decimal_digit, length-decimal-le}
use Rattle.std.specs.Prelude.{if◌then◌else◌, codes}
use Rattle.std.specs.Fmt.{decimal}
use Rattle.ol_net.specs.declared.parts.Rule.{Rule}
use Rattle.ol_net.specs.declared.parts.Rule.TheVariants as rule
use Rattle.ol_rules.specs.declared.journal.NodeName.{NodeName}
use Rattle.ol_rules.specs.declared.journal.NodeName.TheVariants.{Init, Born}
use Rattle.ol_rules.specs.declared.journal.Entry.{Entry}
use Rattle.ol_view.specs.declared.forms.Form.{Form}
use Rattle.ol_view.specs.declared.forms.Form.TheVariants.{One, Two}
use Rattle.ol_view.specs.TraceTexts.{name_text, line_text, MayBeWritten}
use Rattle.ol_view.specs.RuleNames.{rule_text}
use Rattle.ol_view.specs.Forms.{header_of, line_of}
use Rattle.ol_view.specs.Feeding.{HasNoFeed}

-- ---- line feeds

pub no_feed_append : (xs ys : List ℕ) → HasNoFeed xs → HasNoFeed ys → HasNoFeed (xs ++ ys)
no_feed_append [] ys h k = k
no_feed_append (x ∷ xs) ys h k = (h.0, no_feed_append xs ys h.1 k)

-- the first line feed of a text is found once
pub one_feed : (xs ys more rest : List ℕ) → HasNoFeed xs → HasNoFeed ys →
    xs ++ 10 ∷ more ≡ ys ++ 10 ∷ rest → (xs ≡ ys) × (more ≡ rest)
one_feed [] [] more rest h k e = (refl, let z : more ≡ rest = cc in z)
one_feed [] (y ∷ ys) more rest h k e = let z : y ≡ 10 = cc in absurd (k.0 z)
one_feed (x ∷ xs) [] more rest h k e = let z : x ≡ 10 = cc in absurd (h.0 z)
one_feed (x ∷ xs) (y ∷ ys) more rest h k e =
    let z : x ≡ y = cc in
    let t : xs ++ 10 ∷ more ≡ ys ++ 10 ∷ rest = cc in
    let s = one_feed xs ys more rest h.1 k.1 t in
    (ap (λ b. b ∷ xs) z ∙ ap (λ bs. y ∷ bs) s.0, s.1)

-- what has no line feed is no longer than what stands before the first one
pub before_feed : (xs ys more rest : List ℕ) → HasNoFeed xs → xs ++ more ≡ ys ++ 10 ∷ rest → length xs ≤ length ys
before_feed [] ys more rest h e = omega arith
before_feed (x ∷ xs) [] more rest h e = let z : x ≡ 10 = cc in absurd (h.0 z)
before_feed (x ∷ xs) (y ∷ ys) more rest h e =
    let t : xs ++ more ≡ ys ++ 10 ∷ rest = cc in
    let s = before_feed xs ys more rest h.1 t in omega arith

-- a test for texts that are written out
abbrev plain : List ℕ → Bool
plain [] = true
plain (b ∷ bs) = if b == 10 then false else plain bs

plain_is : (bs : List ℕ) → plain bs ≡ true → HasNoFeed bs
plain_is [] e = tt
plain_is (b ∷ bs) e = go (λ k. plain_is bs k) (b == 10) refl e
  where
    go : (plain bs ≡ true → HasNoFeed bs) → (v : Bool) → (b == 10) ≡ v →
        (if v then false else plain bs) ≡ true → HasNoFeed (b ∷ bs)
    go ih true i e = absurd (cc)
    go ih false i e = ((λ z. grind (arith, nat_tests)), ih e)

-- ---- numbers and names

-- no line feed, and at most so many bytes
record IsPlain (most : ℕ) (bs : List ℕ) : Type 0 where
  pub no_feed : HasNoFeed bs
  pub short : length bs ≤ most

plain_digits : (n : ℕ) → n < 2 ^ 64 → HasNoFeed (decimal n)
plain_digits = decimal_by_steps (λ n ds. HasNoFeed ds) (λ n l. ((λ z. omega arith), tt))
    (λ n ds l ih. no_feed_append ds ((48 + n % 10) ∷ []) ih ((λ z. omega arith), tt))

plain_number : (n : ℕ) → n ≤ 4294967295 → IsPlain 10 (decimal n)
plain_number n l = record {
  no_feed = plain_digits n (omega arith);
  short = length-decimal-le 10 n (omega arith) (omega arith) (omega arith);
}

-- one after the other, with a byte between
plain_both : (m k b : ℕ) (xs ys : List ℕ) → IsPlain m xs → IsPlain k ys → b ≢ 10 → IsPlain (m + suc k) (xs ++ b ∷ ys)
plain_both m k b xs ys h i n = record {
  no_feed = no_feed_append xs (b ∷ ys) h.no_feed (n, i.no_feed);
  short = let p = h.short in let q = i.short in omega (arith, length-append xs (b ∷ ys));
}

plain_longer : (m k : ℕ) (bs : List ℕ) → m ≤ k → IsPlain m bs → IsPlain k bs
plain_longer m k bs l h = record { no_feed = h.no_feed; short = let p = h.short in omega arith }

plain_place : (p : ℕ) → p ≤ 3 → IsPlain 1 (decimal p)
plain_place p l = subst (λ ds. IsPlain 1 ds) (sym (decimal_digit p (omega arith)))
    (record { no_feed = ((λ z. omega arith), tt); short = omega arith })

plain_name : (x : NodeName) → MayBeWritten x → IsPlain 12 (name_text x)
plain_name (Init k) may = plain_longer 10 12 (decimal k) (omega arith) (plain_number k may)
plain_name (Born t p) may =
    plain_both 10 1 46 (decimal t) (decimal p) (plain_number t may.0) (plain_place p may.1) (λ z. omega arith)

plain_rule : (r : Rule) → IsPlain 15 (rule_text r)
plain_rule rule.Beta = record { no_feed = plain_is (codes "beta") refl; short = omega arith }
plain_rule rule.Fan = record { no_feed = plain_is (codes "fan") refl; short = omega arith }
plain_rule rule.Croissant = record { no_feed = plain_is (codes "croissant") refl; short = omega arith }
plain_rule rule.Bracket = record { no_feed = plain_is (codes "bracket") refl; short = omega arith }
plain_rule rule.CrossFan = record { no_feed = plain_is (codes "cross-fan") refl; short = omega arith }
plain_rule rule.CrossCroissant = record { no_feed = plain_is (codes "cross-croissant") refl; short = omega arith }
plain_rule rule.CrossBracket = record { no_feed = plain_is (codes "cross-bracket") refl; short = omega arith }
plain_rule rule.Erase = record { no_feed = plain_is (codes "erase") refl; short = omega arith }

-- ---- lines

-- one line feed, which is the last byte, behind so many bytes at most
pub record IsOneLine (most : ℕ) (text : List ℕ) : Type 0 where
  pub body : List ℕ
  pub is : text ≡ body ++ 10 ∷ []
  pub no_feed : HasNoFeed body
  pub short : length body ≤ most

pub header_is_line : (form : Form) → IsOneLine 10 (header_of form)
header_is_line One = record {
  body = codes "ol trace 1";
  is = refl;
  no_feed = plain_is (codes "ol trace 1") refl;
  short = omega arith;
}
header_is_line Two = record {
  body = codes "ol trace 2";
  is = refl;
  no_feed = plain_is (codes "ol trace 2") refl;
  short = omega arith;
}

abbrev names : NodeName → NodeName → List ℕ
names a b = name_text a ++ 32 ∷ name_text b

plain_names : (a b : NodeName) → MayBeWritten a → MayBeWritten b → IsPlain 25 (names a b)
plain_names a b h k =
    plain_both 12 12 32 (name_text a) (name_text b) (plain_name a h) (plain_name b k) (λ z. omega arith)

names_line : (a b : NodeName) → line_text a b ≡ names a b ++ 10 ∷ []
names_line a b = sym (append_assoc (name_text a) (32 ∷ name_text b) (10 ∷ []))

pub entry_is_line : (form : Form) (e : Entry) (wave : ℕ) → wave ≤ 4294967295 →
    MayBeWritten e.first × MayBeWritten e.second → IsOneLine 52 (line_of form e wave)
entry_is_line One e wave l may =
    let p = plain_names e.first e.second may.0 may.1 in
    record {
      body = names e.first e.second;
      is = names_line e.first e.second;
      no_feed = p.no_feed;
      short = let q = p.short in omega arith;
    }
entry_is_line Two e wave l may =
    let p = plain_names e.first e.second may.0 may.1 in
    let q = plain_both 10 25 32 (decimal wave) (names e.first e.second) (plain_number wave l) p (λ z. omega arith) in
    let r = plain_both 15 36 32 (rule_text e.rule) (decimal wave ++ 32 ∷ names e.first e.second)
    (plain_rule e.rule) q (λ z. omega arith) in
    record {
      body = rule_text e.rule ++ 32 ∷ (decimal wave ++ 32 ∷ names e.first e.second);
      is = ap (λ bs. rule_text e.rule ++ (32 ∷ decimal wave ++ 32 ∷ bs)) (names_line e.first e.second)
          ∙ ap (λ bs. rule_text e.rule ++ 32 ∷ bs)
          (sym (append_assoc (decimal wave) (32 ∷ names e.first e.second) (10 ∷ [])))
          ∙ sym (append_assoc (rule_text e.rule)
          (32 ∷ (decimal wave ++ 32 ∷ names e.first e.second)) (10 ∷ []));
      no_feed = r.no_feed;
      short = r.short;
    }
