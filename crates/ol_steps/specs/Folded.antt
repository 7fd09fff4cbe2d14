-- A term whose parts are written by names, where they have the value of one.
use Rattle.std.specs.Prelude.{ℕ, ◌+◌, ◌==◌, Bool, false, ◌&&◌, if◌then◌else◌, List, [], ◌∷◌, Option, None, Some}
use Rattle.ol_term.specs.Trees.{Tree, var, free, lam, app}
use Rattle.ol_steps.specs.Binders as binders
use Rattle.ol_steps.specs.Binders.{Binders}

-- whether two trees are one
abbrev pub is_same : Tree → Tree → Bool
is_same (var j) (var k) = j == k
is_same (free j) (free k) = j == k
is_same (lam s) (lam t) = is_same s t
is_same (app f s) (app g t) = is_same f g && is_same s t
is_same _ _ = false

-- the number of the first of these values that a tree is, where they are numbered from n on
abbrev pub value_at : ℕ → List Tree → Tree → Option ℕ
value_at n [] t = None
value_at n (v ∷ vs) t = if is_same v t then Some n else value_at (n + 1) vs t

-- a tree, or the free name of its value
abbrev pub or_name : Option ℕ → Tree → Tree
or_name None t = t
or_name (Some k) t = free k

-- Each part that is one of the values is the free name of the first such value. A part of such a part isn't looked at.
abbrev pub all_folded : ℕ → List Tree → Tree → Tree
all_folded n vs (lam t) = or_name (value_at n vs (lam t)) (lam (all_folded n vs t))
all_folded n vs (app f a) = or_name (value_at n vs (app f a)) (app (all_folded n vs f) (all_folded n vs a))
all_folded n vs t = t

-- the same, but for the application at an address and what it stands in
abbrev pub folded_round : ℕ → List Tree → List ℕ → Tree → Tree
folded_round n vs at (var k) = var k
folded_round n vs at (free k) = free k
folded_round n vs [] (lam t) = lam t
folded_round n vs (m ∷ at) (lam t) = lam (folded_round n vs at t)
folded_round n vs [] (app f a) = app (all_folded n vs f) (all_folded n vs a)
folded_round n vs (m ∷ at) (app f a) =
    if m == 1 then app (folded_round n vs at f) (all_folded n vs a) else app (all_folded n vs f) (folded_round n vs at a)

-- the same, where a redex is at an address, or there is none
abbrev pub folded_at : ℕ → List Tree → Option (List ℕ) → Tree → Tree
folded_at n vs None t = all_folded n vs t
folded_at n vs (Some at) t = folded_round n vs at t

-- the names of binders that are left in a tree
abbrev pub pruned : Tree → Binders → Binders
pruned (lam t) (binders.lam x s) = binders.lam x (pruned t s)
pruned (app f a) (binders.app r s) = binders.app (pruned f r) (pruned a s)
pruned t s = binders.leaf
