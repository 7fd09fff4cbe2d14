-- Values, and the terms that encode them: truth values and pairs (Barendregt, The Lambda Calculus, 1984, section 6.2),
-- Church numerals and lists by their folds (Pierce, Types and Programming Languages, 2002, section 5.2), and Scott
-- numerals (Wadsworth, Some Unusual lambda-Calculus Numeral Systems, 1980).
use Rattle.std.specs.Prelude.{◌≡◌, ℕ, zero, suc, ◌≤◌, Bool, true, false, ◌↔◌, List, [], ◌∷◌}
use Rattle.ol_law_edges.specs.Edges.{IsIn}
use Rattle.ol_term.specs.Trees.{Tree, var, lam, app, is_below}

-- The items of a list and the parts of a pair are terms.
pub data Value : Type 0 where
  boolean : Bool → Value
  church : ℕ → Value
  list : List Tree → Value
  pair : Tree → Tree → Value
  scott : ℕ → Value

-- true is \a b. a, and false is \a b. b
abbrev pub boolean_term : Bool → Tree
boolean_term true = lam (lam (var 1))
boolean_term false = lam (lam (var 0))

-- f (f (.. (f x))) with n times f, where f is variable 1 and x is variable 0
abbrev pub iterated : ℕ → Tree
iterated zero = var 0
iterated (suc n) = app (var 1) (iterated n)

-- Church numeral n is \f x. f (f (.. (f x))). So 1 is \f x. f x: \f. f, which eta makes of it, is another term.
abbrev pub church_term : ℕ → Tree
church_term n = lam (lam (iterated n))

-- c a (c b (.. n)) with these items, where c is variable 1 and n is variable 0
abbrev pub folded : List Tree → Tree
folded [] = var 0
folded (t ∷ ts) = app (app (var 1) t) (folded ts)

-- the list of a, b .. is \c n. c a (c b (.. n))
abbrev pub list_term : List Tree → Tree
list_term ts = lam (lam (folded ts))

-- the pair of a and b is \f. f a b
abbrev pub pair_term : Tree → Tree → Tree
pair_term a b = lam (app (app (var 0) a) b)

-- Scott numeral 0 is \z s. z, and n + 1 is \z s. s p, where p is Scott numeral n
abbrev pub scott_term : ℕ → Tree
scott_term zero = lam (lam (var 1))
scott_term (suc n) = lam (lam (app (var 0) (scott_term n)))

-- the term that encodes a value
abbrev pub encoded : Value → Tree
encoded (boolean b) = boolean_term b
encoded (church n) = church_term n
encoded (list ts) = list_term ts
encoded (pair a b) = pair_term a b
encoded (scott n) = scott_term n

-- the terms in a value: the items of a list, and the two parts of a pair
abbrev pub parts_of : Value → List Tree
parts_of (boolean b) = []
parts_of (church n) = []
parts_of (list ts) = ts
parts_of (pair a b) = a ∷ b ∷ []
parts_of (scott n) = []

-- each variable of these terms is bound within its term
abbrev pub AreClosed : List Tree → Type 0
AreClosed [] = Unit {0}
AreClosed (t ∷ ts) = (is_below 0 t ≡ true) × AreClosed ts

-- A value fits a term: it is encoded by this very term. The terms in it are closed but for free names: a pair's f, or a
-- list's c and n, doesn't occur in them.
abbrev pub Fits : Tree → Value → Type 0
Fits t v = (encoded v ≡ t) × AreClosed (parts_of v)

-- the order in which values are told
abbrev pub rank : Value → ℕ
rank (boolean b) = 0
rank (church n) = 1
rank (list ts) = 2
rank (pair a b) = 3
rank (scott n) = 4

-- the ranks rise, from n on
abbrev pub Rise : ℕ → List Value → Type 0
Rise n [] = Unit {0}
Rise n (v ∷ vs) = (n ≤ rank v) × Rise (suc (rank v)) vs

-- these are the values that fit a term, in their order
pub record AreAllOf (t : Tree) (vs : List Value) : Type 0 where
  pub fitting : (v : Value) → IsIn v vs ↔ Fits t v
  pub in_order : Rise 0 vs
