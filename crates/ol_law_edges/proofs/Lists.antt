-- What stands in lists, and where.
use Rattle.std.proofs.Common.{◌≡◌, ℕ, zero, suc, ◌+◌, ◌<◌, ◌≤◌, List, [], ◌∷◌, ◌++◌, map, Some, ◌⊎◌}
use Rattle.std.proofs.Common.{inl, inr, refl, sym, ap, arith, length, nat_lt, if◌then◌else◌}
use Rattle.std.proofs.lemmas.Bool.{cond_below, cond_above}
use Rattle.std.proofs.lemmas.Option.{none-some}
use Rattle.std.specs.Prelude.{slice_get}
use Rattle.ol_law_edges.specs.Edges.{IsIn}

pub in_left : {X : Type 0} (x : X) (xs ys : List X) → IsIn x xs → IsIn x (xs ++ ys)
in_left x [] ys h = absurd h
in_left x (z ∷ xs) ys (inl e) = inl e
in_left x (z ∷ xs) ys (inr h) = inr (in_left x xs ys h)

pub in_right : {X : Type 0} (x : X) (xs ys : List X) → IsIn x ys → IsIn x (xs ++ ys)
in_right x [] ys h = h
in_right x (z ∷ xs) ys h = inr (in_right x xs ys h)

pub in_cases : {X : Type 0} (x : X) (xs ys : List X) → IsIn x (xs ++ ys) → IsIn x xs ⊎ IsIn x ys
in_cases x [] ys h = inr h
in_cases x (z ∷ xs) ys (inl e) = inl (inl e)
in_cases x (z ∷ xs) ys (inr h) = go (in_cases x xs ys h)
  where
    go : IsIn x xs ⊎ IsIn x ys → IsIn x (z ∷ xs) ⊎ IsIn x ys
    go (inl h) = inl (inr h)
    go (inr h) = inr h

-- the one element of a list
pub only : {X : Type 0} (x y : X) → IsIn x (y ∷ []) → x ≡ y
only x y (inl e) = e
only x y (inr h) = absurd h

pub in_map : {X Y : Type 0} (m : X → Y) (x : X) (xs : List X) → IsIn x xs → IsIn (m x) (map m xs)
in_map m x [] h = absurd h
in_map m x (z ∷ xs) (inl e) = inl (ap m e)
in_map m x (z ∷ xs) (inr h) = inr (in_map m x xs h)

pub in_map_of : {X Y : Type 0} (m : X → Y) (y : Y) (xs : List X) → IsIn y (map m xs) → (x : X) × IsIn x xs × (y ≡ m x)
in_map_of m y [] h = absurd h
in_map_of m y (z ∷ xs) (inl e) = (z, inl refl, e)
in_map_of m y (z ∷ xs) (inr h) = let t = in_map_of m y xs h in (t.0, inr t.1, t.2)

-- a place within a list has an element
pub get_there : {X : Type 0} (xs : List X) (i : ℕ) → i < length xs → (x : X) × (slice_get xs i ≡ Some x)
get_there [] i lt = absurd (omega arith)
get_there (x ∷ xs) zero lt = (x, refl)
get_there (x ∷ xs) (suc i) lt = get_there xs i (omega arith)

-- an element keeps its place before what is appended, and is the last in its own
pub got_left : {X : Type 0} (xs ys : List X) (i : ℕ) (x : X) → slice_get xs i ≡ Some x → slice_get (xs ++ ys) i ≡ Some x
got_left [] ys i x e = absurd (none-some x e)
got_left (y ∷ xs) ys zero x e = e
got_left (y ∷ xs) ys (suc i) x e = got_left xs ys i x e

pub got_last : {X : Type 0} (xs : List X) (x : X) → slice_get (xs ++ x ∷ []) (length xs) ≡ Some x
got_last [] x = refl
got_last (y ∷ xs) x = got_last xs x

-- where an element of two lists stands
pub got_append : {X : Type 0} (xs ys : List X) (p : ℕ) (y : X) → slice_get (xs ++ ys) p ≡ Some y
    → (slice_get xs p ≡ Some y) ⊎ ((q : ℕ) × (p ≡ length xs + q) × (slice_get ys q ≡ Some y))
got_append [] ys p y h = inr (p, omega arith, h)
got_append (x ∷ xs) ys zero y h = inl h
got_append {X} (x ∷ xs) ys (suc p) y h = go (got_append xs ys p y h)
  where
    go : (slice_get xs p ≡ Some y) ⊎ ((q : ℕ) × (p ≡ length xs + q) × (slice_get ys q ≡ Some y)) →
        (slice_get xs p ≡ Some y) ⊎ ((q : ℕ) × (suc p ≡ suc (length xs) + q) × (slice_get ys q ≡ Some y))
    go (inl e) = inl e
    go (inr (q, e, k)) = inr (q, omega arith, k)

-- a choice by which of two numbers is less
pub if_below : {X : Type 0} (x n : ℕ) (a b : X) → x < n → (if nat_lt x n then a else b) ≡ a
if_below x n a b h = sym (cond_below x n a b h)

pub if_above : {X : Type 0} (x n : ℕ) (a b : X) → n ≤ x → (if nat_lt x n then a else b) ≡ b
if_above x n a b h = sym (cond_above x n a b b h refl)
