-- Terms as trees: what a term is, whatever boxes hold it.
use Rattle.std.specs.Prelude.{◌≡◌, ℕ, ◌+◌, ◌<◌, Bool, true, false, ◌&&◌, ◌||◌, ◌==◌, nat_lt, max}
use Rattle.ol_term.specs.declared.terms.Term.{Term, Var, Free, Lam', App'}

pub data Tree : Type 0 where
  var : ℕ → Tree
  free : ℕ → Tree
  lam : Tree → Tree
  app : Tree → Tree → Tree

abbrev pub tree_of : Term → Tree
tree_of (Var k) = var k
tree_of (Free k) = free k
tree_of (Lam' p t) = lam (tree_of t)
tree_of (App' p f q a) = app (tree_of f) (tree_of a)

-- every variable is bound by an abstraction inside, or by one of d outside
abbrev pub is_below : ℕ → Tree → Bool
is_below d (var k) = nat_lt k d
is_below d (free k) = true
is_below d (lam t) = is_below (d + 1) t
is_below d (app f a) = is_below d f && is_below d a

-- every free name is one of the first n
abbrev pub is_named_below : ℕ → Tree → Bool
is_named_below n (var k) = true
is_named_below n (free k) = nat_lt k n
is_named_below n (lam t) = is_named_below n t
is_named_below n (app f a) = is_named_below n f && is_named_below n a

-- whether free name k occurs in a tree
abbrev pub has_name : ℕ → Tree → Bool
has_name k (var n) = false
has_name k (free n) = n == k
has_name k (lam t) = has_name k t
has_name k (app f a) = has_name k f || has_name k a

-- each of the first n free names occurs
abbrev pub EachOccurs : ℕ → Tree → Type 0
EachOccurs n t = (k : ℕ) → k < n → has_name k t ≡ true

-- how many constructors a tree has
abbrev pub term_size : Tree → ℕ
term_size (var k) = 1
term_size (free k) = 1
term_size (lam t) = 1 + term_size t
term_size (app f a) = 1 + term_size f + term_size a

-- how many constructors stand one within another
abbrev pub depth : Tree → ℕ
depth (var k) = 1
depth (free k) = 1
depth (lam t) = 1 + depth t
depth (app f a) = 1 + max (depth f) (depth a)
