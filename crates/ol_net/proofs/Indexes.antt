-- The indexes of a net's nodes, at its beginning and after a replacement
use Rattle.std.proofs.Common.{◌≡◌, ℕ, ◌+◌, ◌≤◌, max, true, List, [], ◌∷◌, ◌++◌, length, set, Option}
use Rattle.std.proofs.Common.{Some, None, refl, sym, ◌∙◌, inl, inr, ◌⊎◌, arith, zero, suc, ap}
use Rattle.std.specs.Prelude.{slice_get}
use Rattle.std.proofs.lemmas.Bool.{cases_Bool, false≢true}
use Rattle.std.proofs.lemmas.Bool.Decides.{nat_tests}
use Rattle.ol_net.specs.declared.parts.Kind.{Kind}
use Rattle.ol_net.specs.declared.parts.Port.{Port}
use Rattle.ol_net.specs.Parts.{is_eraser}
use Rattle.ol_net.specs.Graph.{kind_at}
use Rattle.ol_net.specs.Build.{is_bad_index, BadIndexAt, NoneOf}
use Rattle.ol_net.specs.Numbered.{all_live}
use Rattle.ol_net.specs.Tabling.{AreTables}
use Rattle.ol_net.specs.Rewired.{renewed}
use Rattle.ol_net.specs.Replace.{MayBeBorn}
use Rattle.ol_net.specs.Indexes.{HasIndexes, top_index_of}

-- no live node has a greater index than the greatest
pub top_is_top : (nodes : List (Option (Kind × ℕ))) (x : ℕ) (k : Kind × ℕ) →
    kind_at nodes x ≡ Some k → k.1 ≤ top_index_of nodes
top_is_top [] x k h = absurd (let bad : None ≡ Some k = h in cc)
top_is_top (None ∷ nodes) zero k h = absurd (let bad : None ≡ Some k = h in cc)
top_is_top (Some m ∷ nodes) zero k h = let e : m ≡ k = (let all : Some m ≡ Some k = h in cc) in
    let u = ap (λ (k : Kind × ℕ). k.1) e in omega arith
top_is_top (None ∷ nodes) (suc x) k h = top_is_top nodes x k h
top_is_top (Some m ∷ nodes) (suc x) k h = omega (arith, top_is_top nodes x k h)

pub top_index_of-append : (xs ys : List (Option (Kind × ℕ))) →
    top_index_of (xs ++ ys) ≡ max (top_index_of xs) (top_index_of ys)
top_index_of-append [] ys = omega arith
top_index_of-append (None ∷ xs) ys = top_index_of-append xs ys
top_index_of-append (Some k ∷ xs) ys = omega (arith, top_index_of-append xs ys)

top_index_of-gone : (xs : List (Option (Kind × ℕ))) (n : ℕ) → top_index_of (set xs n None) ≤ top_index_of xs
top_index_of-gone [] n = omega arith
top_index_of-gone (None ∷ xs) zero = omega arith
top_index_of-gone (Some k ∷ xs) zero = omega arith
top_index_of-gone (None ∷ xs) (suc n) = top_index_of-gone xs n
top_index_of-gone (Some k ∷ xs) (suc n) = omega (arith, top_index_of-gone xs n)

top_index_of-live : (ks : List (Kind × ℕ)) (n : ℕ) →
    ((p : ℕ) (k : Kind × ℕ) → slice_get ks p ≡ Some k → k.1 ≤ n) → top_index_of (all_live ks) ≤ n
top_index_of-live [] n h = omega arith
top_index_of-live (k ∷ ks) n h =
    omega (arith, h 0 k refl, top_index_of-live ks n (λ p k' e. h (suc p) k' e))

-- what is left of the nodes has the kinds and indexes that it had
kind_at-gone : (xs : List (Option (Kind × ℕ))) (n x : ℕ) (k : Kind × ℕ) →
    kind_at (set xs n None) x ≡ Some k → kind_at xs x ≡ Some k
kind_at-gone [] n x k h = h
kind_at-gone (f ∷ xs) zero zero k h = absurd (let bad : None ≡ Some k = h in cc)
kind_at-gone (f ∷ xs) zero (suc x) k h = h
kind_at-gone (f ∷ xs) (suc n) zero k h = h
kind_at-gone (f ∷ xs) (suc n) (suc x) k h = kind_at-gone xs n x k h

kind_at-append : (xs ys : List (Option (Kind × ℕ))) (x : ℕ) (k : Kind × ℕ) → kind_at (xs ++ ys) x ≡ Some k →
    (kind_at xs x ≡ Some k) ⊎ ((y : ℕ) × (kind_at ys y ≡ Some k))
kind_at-append [] ys x k h = inr (x, h)
kind_at-append (f ∷ xs) ys zero k h = inl h
kind_at-append (f ∷ xs) ys (suc x) k h = kind_at-append xs ys x k h

kind_at-live : (ks : List (Kind × ℕ)) (x : ℕ) (k : Kind × ℕ) → kind_at (all_live ks) x ≡ Some k →
    slice_get ks x ≡ Some k
kind_at-live [] x k h = absurd (let bad : None ≡ Some k = h in cc)
kind_at-live (f ∷ ks) zero k h = h
kind_at-live (f ∷ ks) (suc x) k h = kind_at-live ks x k h

-- A replacement keeps the bound of the indexes.
pub HasIndexes-renewed : (nodes : List (Option (Kind × ℕ))) (first second : ℕ)
    (born : List (Kind × ℕ)) → HasIndexes nodes →
    ((p : ℕ) (k : Kind × ℕ) → slice_get born p ≡ Some k → MayBeBorn (top_index_of nodes) k) →
    length (renewed nodes first second born) ≡ length nodes + length born →
    HasIndexes (renewed nodes first second born)
HasIndexes-renewed nodes first second born has may len =
    let all = nodes ++ all_live born in
    let one = set all first None in
    record {
      top =
          let a = top_index_of-gone one second in
          let b = top_index_of-gone all first in
          let c = top_index_of-append nodes (all_live born) in
          let d : top_index_of (all_live born) ≤ top_index_of nodes + length born = top_index_of-born nodes born may in
          omega (arith, a, b, c, d, len, has.top);
      erasers = λ x k h e.
          elim (kind_at-append nodes (all_live born) x k (kind_at-gone all first x k (kind_at-gone one second x k h))) [
            | inl old ↦ has.erasers x k old e
            | inr new ↦ (may new.0 k (kind_at-live born new.0 k new.1)).1 e
          ];
    }
  where
    top_index_of-born : (nodes : List (Option (Kind × ℕ))) (ks : List (Kind × ℕ)) →
        ((p : ℕ) (k : Kind × ℕ) → slice_get ks p ≡ Some k → MayBeBorn (top_index_of nodes) k) →
        top_index_of (all_live ks) ≤ top_index_of nodes + length ks
    top_index_of-born nodes [] may = omega arith
    top_index_of-born nodes (k ∷ ks) may = omega
        (arith, top_index_of-live (k ∷ ks) (top_index_of nodes + 1) (λ p k' e. (may p k' e).0))

good_index : (top : ℕ) (k : Kind × ℕ) → (is_bad_index top k ≡ true → ⊥) → (k.1 ≤ top) × (is_eraser k.0 ≡ true → k.1 ≡ 0)
good_index top k h = elim (cases_Bool (is_eraser k.0)) [
  | inl t ↦
      let z : k.1 ≡ 0 = grind (arith, nat_tests) in
      (omega arith, λ _. z)
  | inr u ↦ (grind (arith, nat_tests), λ t. absurd (false≢true (sym u ∙ t)))
]

-- The nodes that a net is built from keep it.
pub HasIndexes-built : (top : ℕ) (nodes : List (Kind × ℕ)) → top ≤ 100000000 →
    NoneOf (BadIndexAt top nodes) → HasIndexes (all_live nodes)
HasIndexes-built top nodes low good = record {
  top = omega (
    arith,
    low,
    top_index_of-live nodes top
        (λ p k e. (good_index top k (λ bad. good p (at nodes p k e bad))).0),
  );
  erasers = λ x k h e. (good_index top k (λ bad. good x (at nodes x k (kind_at-live nodes x k h) bad))).1 e;
}
  where
    at : (ks : List (Kind × ℕ)) (p : ℕ) (k : Kind × ℕ) → slice_get ks p ≡ Some k →
        is_bad_index top k ≡ true → BadIndexAt top ks p
    at [] p k e bad = absurd (let no_node : None ≡ Some k = e in cc)
    at (f ∷ ks) zero k e bad = let same : f ≡ k = cc in rw same bad
    at (f ∷ ks) (suc p) k e bad = at ks p k e bad

pub HasIndexes-of_tables : (top free : ℕ) (nodes : List (Kind × ℕ)) (links : List (Port × Port))
    (live : List (Option (Kind × ℕ))) (xs : List ℕ) →
    AreTables top free nodes links live xs → top ≤ 100000000 → HasIndexes live
HasIndexes-of_tables top free nodes links live xs t low = rw t.same_nodes
    (HasIndexes-built top nodes low t.good_indexes)

pub HasIndexes-kept : (nodes nodes' : List (Option (Kind × ℕ))) (first second : ℕ)
    (born : List (Kind × ℕ)) → HasIndexes nodes →
    ((p : ℕ) (k : Kind × ℕ) → slice_get born p ≡ Some k → MayBeBorn (top_index_of nodes) k) →
    nodes' ≡ renewed nodes first second born →
    length nodes' ≡ length nodes + length born → HasIndexes nodes'
HasIndexes-kept nodes nodes' first second born has may e len = rw e
    (HasIndexes-renewed nodes first second born has may (rw e at len))
