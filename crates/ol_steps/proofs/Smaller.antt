-- A folded tree is no larger than the tree, and has its places.
use Rattle.std.proofs.Common.{◌≡◌, ℕ, ◌+◌, ◌≤◌, Bool, true, false, nat_lt, List, [], ◌∷◌, length, Option, Some, None}
use Rattle.std.proofs.Common.{refl, arith}
use Rattle.std.specs.Prelude.{◌==◌, if◌then◌else◌}
use Rattle.std.proofs.lemmas.Bool.{and_parts, and_from, ltb-true, lt-ltb}
use Rattle.ol_term.specs.Trees.{Tree, var, free, lam, app, is_below, is_named_below, term_size, depth}
use Rattle.ol_beta.specs.Beta.{IsWithin}
use Rattle.ol_steps.specs.Folded.{value_at, or_name, all_folded, folded_round, folded_at}
use Rattle.ol_steps.proofs.Values.{leads_to}
use Rattle.ol_parse.proofs.Files.{more_named}

-- what holds of a folded tree u of t, where n names and those of the values are there
pub record IsFoldOf (n all : ℕ) (t u : Tree) : Type 0 where
  pub below : (d : ℕ) → is_below d t ≡ true → is_below d u ≡ true
  pub named : is_named_below n t ≡ true → is_named_below all u ≡ true
  pub size : term_size u ≤ term_size t
  pub deep : depth u ≤ depth t

some_size : (t : Tree) → 1 ≤ term_size t
some_size (var k) = omega arith
some_size (free k) = omega arith
some_size (lam t) = omega arith
some_size (app f a) = omega arith

some_depth : (t : Tree) → 1 ≤ depth t
some_depth (var k) = omega arith
some_depth (free k) = omega arith
some_depth (lam t) = omega arith
some_depth (app f a) = omega arith

further : (k n m : ℕ) → n ≤ m → nat_lt k n ≡ true → nat_lt k m ≡ true
further k n m h e = let l = ltb-true k n e in lt-ltb k m (omega (arith, l, h))

itself : (n all : ℕ) (t : Tree) → n ≤ all → IsFoldOf n all t t
itself n all t h = record {
  below = λ d e. e;
  named = λ e. more_named n all t h e;
  size = omega arith;
  deep = omega arith;
}

named_part : (n : ℕ) (vs : List Tree) (t u : Tree) → IsFoldOf n (n + length vs) t u →
    IsFoldOf n (n + length vs) t (or_name (value_at n vs t) u)
named_part n vs t u h = go (value_at n vs t) refl
  where
    go : (o : Option ℕ) → value_at n vs t ≡ o → IsFoldOf n (n + length vs) t (or_name o u)
    go None e = h
    go (Some k) e =
        let l = leads_to n vs t k e in record {
          below = λ d i. refl;
          named = λ i. lt-ltb k (n + length vs) l.within;
          size = some_size t;
          deep = some_depth t;
        }

under : (n all : ℕ) (t u : Tree) → IsFoldOf n all t u → IsFoldOf n all (lam t) (lam u)
under n all t u h =
    let s = h.size in
    let d = h.deep in record {
      below = λ d i. h.below (d + 1) i;
      named = h.named;
      size = omega (arith, s);
      deep = omega (arith, d);
    }

both : (n all : ℕ) (f a g b : Tree) → IsFoldOf n all f g → IsFoldOf n all a b → IsFoldOf n all (app f a) (app g b)
both n all f a g b h i =
    let s = h.size in
    let r = i.size in
    let d = h.deep in
    let e = i.deep in record {
      below = λ k j. let p = and_parts (is_below k f) (is_below k a) j in
          and_from (is_below k g) (is_below k b) (h.below k p.0) (i.below k p.1);
      named = λ j. let p = and_parts (is_named_below n f) (is_named_below n a) j in
          and_from (is_named_below all g) (is_named_below all b) (h.named p.0) (i.named p.1);
      size = omega (arith, s, r);
      deep = omega (arith, d, e);
    }

fold_of : (n : ℕ) (vs : List Tree) (t : Tree) → IsFoldOf n (n + length vs) t (all_folded n vs t)
fold_of n vs (var k) = itself n (n + length vs) (var k) (omega arith)
fold_of n vs (free k) = itself n (n + length vs) (free k) (omega arith)
fold_of n vs (lam t) =
    named_part n vs (lam t) (lam (all_folded n vs t)) (under n (n + length vs) t (all_folded n vs t) (fold_of n vs t))
fold_of n vs (app f a) =
    named_part n vs (app f a) (app (all_folded n vs f) (all_folded n vs a))
    (both n (n + length vs) f a (all_folded n vs f) (all_folded n vs a) (fold_of n vs f) (fold_of n vs a))

round_of : (n : ℕ) (vs : List Tree) (at : List ℕ) (t : Tree) → IsFoldOf n (n + length vs) t (folded_round n vs at t)
round_of n vs at (var k) = itself n (n + length vs) (var k) (omega arith)
round_of n vs at (free k) = itself n (n + length vs) (free k) (omega arith)
round_of n vs [] (lam t) = itself n (n + length vs) (lam t) (omega arith)
round_of n vs (m ∷ at) (lam t) = under n (n + length vs) t (folded_round n vs at t) (round_of n vs at t)
round_of n vs [] (app f a) =
    both n (n + length vs) f a (all_folded n vs f) (all_folded n vs a) (fold_of n vs f) (fold_of n vs a)
round_of n vs (m ∷ at) (app f a) = go (m == 1) (round_of n vs at f) (round_of n vs at a)
  where
    go : (b : Bool) → IsFoldOf n (n + length vs) f (folded_round n vs at f) →
        IsFoldOf n (n + length vs) a (folded_round n vs at a) → IsFoldOf n (n + length vs) (app f a)
        (if b then app (folded_round n vs at f) (all_folded n vs a) else app (all_folded n vs f) (folded_round n vs at a))
    go true i j = both n (n + length vs) f a (folded_round n vs at f) (all_folded n vs a) i (fold_of n vs a)
    go false i j = both n (n + length vs) f a (all_folded n vs f) (folded_round n vs at a) (fold_of n vs f) j

pub is_fold_of : (n : ℕ) (vs : List Tree) (at : Option (List ℕ)) (t : Tree) →
    IsFoldOf n (n + length vs) t (folded_at n vs at t)
is_fold_of n vs None t = fold_of n vs t
is_fold_of n vs (Some at) t = round_of n vs at t

-- a tree that steps are made from more_named one
pub still_within : (n all : ℕ) (t u : Tree) → IsFoldOf n all t u → IsWithin t → IsWithin u
still_within n all t u h w =
    let s = h.size in
    let d = h.deep in
    let x = w.0 in
    let y = w.1 in
    (omega (arith, s, x), omega (arith, d, y))
