-- The order of names, and the names of a run's numbers.
use Rattle.std.proofs.Common.{◌≡◌, ℕ, suc, ◌+◌, ◌-◌, ◌<◌, ◌≤◌, Bool, true, false, nat_lt}
use Rattle.std.proofs.Common.{if◌then◌else◌, ◌⊎◌, inl, inr, refl, sym, ap, ◌∙◌, subst, arith}
use Rattle.std.proofs.lemmas.Bool.{cases_lt}
use Rattle.std.proofs.lemmas.Bool.Decides.{nat_tests}
use Rattle.ol_rules.specs.declared.journal.NodeName.{NodeName}
use Rattle.ol_rules.specs.declared.journal.NodeName.TheVariants.{Init, Born}
use Rattle.ol_rules.specs.Names.{comes_before}

pub not_before_itself : (a : NodeName) → comes_before a a ≡ false
not_before_itself (Init m) = grind (arith, nat_tests)
not_before_itself (Born t p) = grind (arith, nat_tests)

pub before_before : (a b c : NodeName) → comes_before a b ≡ true → comes_before b c ≡ true → comes_before a c ≡ true
before_before (Init m) (Init n) (Init k) h h' = grind (arith, nat_tests)
before_before (Init m) (Init n) (Born u q) h h' = refl
before_before (Init m) (Born t p) (Init k) h h' = absurd (cc)
before_before (Init m) (Born t p) (Born u q) h h' = refl
before_before (Born t p) (Init n) c h h' = absurd (cc)
before_before (Born t p) (Born u q) (Init k) h h' = absurd (cc)
before_before (Born t p) (Born u q) (Born v r) h h' = grind (arith, nat_tests)

pub not_before : (a b : NodeName) → comes_before a b ≡ true → comes_before b a ≡ false
not_before a b h = go (comes_before b a) (λ e. before_before a b a h e)
  where
    go : (v : Bool) → (v ≡ true → comes_before a a ≡ true) → v ≡ false
    go true k = absurd (let e = k refl in let e' = not_before_itself a in cc)
    go false k = refl

-- names of all numbers: a start node's number names it, a greater number has a later name, and from next on come the
-- nodes that this ticket will make
pub record Names (start next ticket : ℕ) (m : ℕ → NodeName) : Type 0 where
  pub room : start ≤ next
  pub initial : (k : ℕ) → k < start → m k ≡ Init k
  pub rising : (j k : ℕ) → j < k → comes_before (m j) (m k) ≡ true
  pub born : (p : ℕ) → m (next + p) ≡ Born ticket p

pub names_apart : (start next ticket : ℕ) (m : ℕ → NodeName) → Names start next ticket m → (j k : ℕ) → m j ≡ m k → j ≡ k
names_apart start next ticket m n j k e = go (cases_lt j k) (cases_lt k j)
  where
    never : (x y : ℕ) → x < y → m x ≡ m y → ⊥
    never x y h e = let a = n.rising x y h in let b = not_before_itself (m x) in
        let c : comes_before (m x) (m x) ≡ true = subst (λ z. comes_before (m x) z ≡ true) (sym e) a in cc

    go : (j < k) ⊎ (k ≤ j) → (k < j) ⊎ (j ≤ k) → j ≡ k
    go (inl h) b = absurd (never j k h e)
    go (inr h) (inl h') = absurd (never k j h' (sym e))
    go (inr h) (inr h') = omega arith

-- the names after the ticket has made its nodes, up to the number next
abbrev pub names_after : (ℕ → NodeName) → (next ticket : ℕ) → ℕ → NodeName
names_after m next ticket k = if nat_lt k next then m k else Born ticket (k - next)

pub names_after_old : (m : ℕ → NodeName) (next ticket k : ℕ) → k < next → names_after m next ticket k ≡ m k
names_after_old m next ticket k h = let e : nat_lt k next ≡ true = grind (arith, nat_tests) in
    ap (λ b. if b then m k else Born ticket (k - next)) e

pub names_after_new : (m : ℕ → NodeName) (next ticket k : ℕ) → next ≤ k →
    names_after m next ticket k ≡ Born ticket (k - next)
names_after_new m next ticket k h = let e : nat_lt k next ≡ false = grind (arith, nat_tests) in
    ap (λ b. if b then m k else Born ticket (k - next)) e

pub names_on : (start next ticket births : ℕ) (m : ℕ → NodeName) → Names start next ticket m →
    Names start (next + births) (suc ticket) (names_after m (next + births) (suc ticket))
names_on start next ticket births m n = record {
  room = let r = n.room in omega arith;
  initial = λ k h. let r = n.room in names_after_old m (next + births) (suc ticket) k (omega arith) ∙ n.initial k h;
  rising = λ j k h. go j k h (cases_lt j (next + births)) (cases_lt k (next + births));
  born = λ p.
      let e : next + births + p - (next + births) ≡ p = omega arith in
      names_after_new m (next + births) (suc ticket) (next + births + p) (omega arith) ∙ ap (Born (suc ticket)) e;
}
  where
    later : (t p q : ℕ) → comes_before (Born t p) (Born (suc t) q) ≡ true
    later t p q = grind (arith, nat_tests)

    same : (t p q : ℕ) → p < q → comes_before (Born t p) (Born t q) ≡ true
    same t p q h = grind (arith, nat_tests)

    go : (j k : ℕ) → j < k → (j < next + births) ⊎ (next + births ≤ j) → (k < next + births) ⊎ (next + births ≤ k) →
        comes_before (names_after m (next + births) (suc ticket) j)
        (names_after m (next + births) (suc ticket) k) ≡ true
    go j k h (inl a) (inl b) = rw (
      names_after_old m (next + births) (suc ticket) j a,
      names_after_old m (next + births) (suc ticket) k b,
    ) (n.rising j k h)
    go j k h (inl a) (inr b) =
        let c = before_before (m j) (Born ticket births) (Born (suc ticket) (k - (next + births)))
        (subst (λ z. comes_before (m j) z ≡ true) (n.born births)
        (n.rising j (next + births) a)) (later ticket births (k - (next + births))) in
        rw (names_after_old m (next + births) (suc ticket) j a, names_after_new m (next + births) (suc ticket) k b) c
    go j k h (inr a) (inl b) = absurd (omega arith)
    go j k h (inr a) (inr b) = rw (
      names_after_new m (next + births) (suc ticket) j a,
      names_after_new m (next + births) (suc ticket) k b,
    )
        (same (suc ticket) (j - (next + births)) (k - (next + births)) (omega arith))

-- the names at the start
pub names_first : (start : ℕ) → Names start start 0 (names_after Init start 0)
names_first start = record {
  room = omega arith;
  initial = λ k h. names_after_old Init start 0 k h;
  rising = λ j k h. go j k h (cases_lt j start) (cases_lt k start);
  born = λ p. let e : start + p - start ≡ p = omega arith in
      names_after_new Init start 0 (start + p) (omega arith) ∙ ap (Born 0) e;
}
  where
    same : (t p q : ℕ) → p < q → comes_before (Born t p) (Born t q) ≡ true
    same t p q h = grind (arith, nat_tests)

    init : (p q : ℕ) → p < q → comes_before (Init p) (Init q) ≡ true
    init p q h = grind (arith, nat_tests)

    go : (j k : ℕ) → j < k → (j < start) ⊎ (start ≤ j) → (k < start) ⊎ (start ≤ k) →
        comes_before (names_after Init start 0 j) (names_after Init start 0 k) ≡ true
    go j k h (inl a) (inl b) = rw (names_after_old Init start 0 j a, names_after_old Init start 0 k b) (init j k h)
    go j k h (inl a) (inr b) = rw (names_after_old Init start 0 j a, names_after_new Init start 0 k b) refl
    go j k h (inr a) (inl b) = absurd (omega arith)
    go j k h (inr a) (inr b) = rw (
      names_after_new Init start 0 j a,
      names_after_new Init start 0 k b,
    ) (same 0 (j - start) (k - start) (omega arith))
