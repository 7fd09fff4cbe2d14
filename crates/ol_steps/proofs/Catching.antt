-- No binder takes a name that isn't its own.
use Rattle.std.proofs.Common.{◌≡◌, ℕ, zero, suc, ◌+◌, ◌-◌, ◌<◌, ◌≤◌, ◌⊎◌, inl, inr, Bool, true, false, cond}
use Rattle.std.proofs.Common.{List, [], ◌∷◌, length, Option, Some, None, refl, sym, ap, ◌∙◌, arith}
use Rattle.std.specs.Prelude.{if◌then◌else◌, slice_get, slice_index_or}
use Rattle.std.specs.List.{position_from}
use Rattle.std.specs.Str.{bytes_eq}
use Rattle.std.proofs.lemmas.Bool.{and_parts, or_parts, cases_lt, ltb-true, le-ltb}
use Rattle.std.proofs.lemmas.Slice.Eq.{bytes_eq-Decides}
use Rattle.ol_term.specs.Trees as tree
use Rattle.ol_term.specs.Trees.{Tree, is_below, is_named_below}
use Rattle.ol_term.specs.NameLists.{NoNameTwice, position_of, free_at}
use Rattle.ol_term.specs.BinderNames.{is_among}
use Rattle.ol_parse.specs.Grammar as grammar
use Rattle.ol_parse.specs.Numbered.{numbered, var_at}
use Rattle.ol_steps.specs.Binders.{Binders, leaf, lam, app, Fits}
use Rattle.ol_steps.specs.Naming.{used, primed, named}
use Rattle.ol_steps.specs.BinderLaws.{NoneIsCaught}
use Rattle.ol_steps.proofs.Among.{among_both}
use Rattle.ol_steps.proofs.Primes.{primed_is_least}
use Rattle.ol_readback.proofs.Renumbered.{first_place}

abbrev is : List ℕ → List ℕ → Bool
is x = λ y. bytes_eq x y

-- ---- places in a list

further : (x : List ℕ) (i k : ℕ) (xs : List (List ℕ)) → position_from (is x) i xs ≡ Some k →
    position_from (is x) (i + 1) xs ≡ Some (k + 1)
further x i k [] h = absurd (cc)
further x i k (y ∷ xs) h = go (λ e. further x (i + 1) k xs e) (bytes_eq x y) h
  where
    go : (position_from (is x) (i + 1) xs ≡ Some k → position_from (is x) (i + 1 + 1) xs ≡ Some (k + 1)) → (b : Bool) →
        cond {A = Option ℕ} b (Some i) (position_from (is x) (i + 1) xs) ≡ Some k →
        cond {A = Option ℕ} b (Some (i + 1)) (position_from (is x) (i + 1 + 1) xs) ≡ Some (k + 1)
    go more true e = let same : i ≡ k = cc in ap (λ (n : ℕ). Some (n + 1)) same
    go more false e = more e

nowhere : (x : List ℕ) (i : ℕ) (xs : List (List ℕ)) → position_from (is x) i xs ≡ None →
    position_from (is x) (i + 1) xs ≡ None
nowhere x i [] h = refl
nowhere x i (y ∷ xs) h = go (λ e. nowhere x (i + 1) xs e) (bytes_eq x y) h
  where
    go : (position_from (is x) (i + 1) xs ≡ None → position_from (is x) (i + 1 + 1) xs ≡ None) → (b : Bool) →
        cond {A = Option ℕ} b (Some i) (position_from (is x) (i + 1) xs) ≡ None →
        cond {A = Option ℕ} b (Some (i + 1)) (position_from (is x) (i + 1 + 1) xs) ≡ None
    go more true e = absurd (cc)
    go more false e = more e

-- behind a name that isn't this one
behind : (x y : List ℕ) (xs : List (List ℕ)) (k : ℕ) → bytes_eq x y ≡ false → position_of x xs ≡ Some k →
    position_of x (y ∷ xs) ≡ Some (k + 1)
behind x y xs k other e =
    ap (λ (b : Bool). cond {A = Option ℕ} b (Some 0) (position_from (is x) 1 xs)) other ∙ further x 0 k xs e

absent : (x y : List ℕ) (xs : List (List ℕ)) → bytes_eq x y ≡ false → position_of x xs ≡ None →
    position_of x (y ∷ xs) ≡ None
absent x y xs other e =
    ap (λ (b : Bool). cond {A = Option ℕ} b (Some 0) (position_from (is x) 1 xs)) other ∙ nowhere x 0 xs e

itself : (x : List ℕ) (xs : List (List ℕ)) → position_of x (x ∷ xs) ≡ Some 0
itself x xs = ap (λ (b : Bool). cond {A = Option ℕ} b (Some 0) (position_from (is x) 1 xs)) ((bytes_eq-Decides x x).1 refl)

pub some_there : (names : List (List ℕ)) (k : ℕ) → k < length names → slice_get names k ≡ Some (slice_index_or names k [])
some_there [] k h = absurd (omega arith)
some_there (x ∷ names) zero h = refl
some_there (x ∷ names) (suc k) h = some_there names k (omega arith)

pub free_place : (names : List (List ℕ)) (k : ℕ) → NoNameTwice names → k < length names →
    position_of (slice_index_or names k []) names ≡ Some k
free_place names k once h =
    let x = slice_index_or names k [] in
    let there = some_there names k h in
    let n : 0 + k ≡ k = omega arith in
    first_place names x k 0 there (λ j l e. let same = once j k x e there in omega (arith, l, same)) ∙ ap (λ (n : ℕ). Some n) n

-- ---- names that stand for what they are to

-- Each name that is used in a tree stands for its binder, or is free. The innermost d binders round the tree are left out.
abbrev IsClear : ℕ → List (List ℕ) → List (List ℕ) → Tree → Type 0
IsClear d names round (tree.var k) =
    (k < d) ⊎ (position_of (slice_index_or round (k - d) []) round ≡ Some (k - d))
IsClear d names round (tree.free k) = position_of (slice_index_or names k []) round ≡ None
IsClear d names round (tree.lam t) = IsClear (d + 1) names round t
IsClear d names round (tree.app f a) = IsClear d names round f × IsClear d names round a

outside : (d : ℕ) (names : List (List ℕ)) (t : Tree) → is_below d t ≡ true → IsClear d names [] t
outside d names (tree.var k) h = inl (ltb-true k d h)
outside d names (tree.free k) h = refl
outside d names (tree.lam t) h = outside (d + 1) names t h
outside d names (tree.app f a) h =
    let p = and_parts (is_below d f) (is_below d a) h in (outside d names f p.0, outside d names a p.1)

-- a name of a binder further out isn't the new one, where that isn't used
other_name : (d k : ℕ) (names round : List (List ℕ)) (y : List ℕ) → d + 1 ≤ k →
    is_among (used (d + 1) names round (tree.var k)) y ≡ false →
    bytes_eq (slice_index_or round (k - (d + 1)) []) y ≡ false
other_name d k names round y l u =
    let x = slice_index_or round (k - (d + 1)) [] in
    (or_parts (bytes_eq x y) false
    (ap (λ (b : Bool). is_among (if b then [] else x ∷ []) y) (sym (le-ltb k (d + 1) l)) ∙ u)).0

-- the innermost binder that isn't left out
new_place : (d k : ℕ) (round : List (List ℕ)) (y : List ℕ) → k ≡ d →
    position_of (slice_index_or (y ∷ round) (k - d) []) (y ∷ round) ≡ Some (k - d)
new_place d k round y e =
    let z : 0 ≡ k - d = omega (arith, e) in
    ap (λ (n : ℕ). position_of (slice_index_or (y ∷ round) n []) (y ∷ round)) (sym z)
    ∙ itself y round ∙ ap (λ (n : ℕ). Some n) z

-- a binder further out
old_place : (d k : ℕ) (round : List (List ℕ)) (y : List ℕ) → d + 1 ≤ k →
    bytes_eq (slice_index_or round (k - (d + 1)) []) y ≡ false →
    position_of (slice_index_or round (k - (d + 1)) []) round ≡ Some (k - (d + 1)) →
    position_of (slice_index_or (y ∷ round) (k - d) []) (y ∷ round) ≡ Some (k - d)
old_place d k round y l other e =
    let x = slice_index_or round (k - (d + 1)) [] in
    let n : suc (k - (d + 1)) ≡ k - d = omega (arith, l) in
    let m : k - (d + 1) + 1 ≡ k - d = omega (arith, l) in
    ap (λ (i : ℕ). position_of (slice_index_or (y ∷ round) i []) (y ∷ round)) (sym n)
    ∙ behind x y round (k - (d + 1)) other e ∙ ap (λ (i : ℕ). Some i) m

-- the place of a variable within one more binder
var_clear : (d k : ℕ) (names round : List (List ℕ)) (y : List ℕ) → (k < d) ⊎ (d ≤ k) → (d < k) ⊎ (k ≤ d) →
    is_among (used (d + 1) names round (tree.var k)) y ≡ false →
    (k < d + 1) ⊎ (position_of (slice_index_or round (k - (d + 1)) []) round ≡ Some (k - (d + 1))) →
    (k < d) ⊎ (position_of (slice_index_or (y ∷ round) (k - d) []) (y ∷ round) ≡ Some (k - d))
var_clear d k names round y (inl l) m u h = inl l
var_clear d k names round y (inr l) (inr m) u h = inr (new_place d k round y (omega (arith, l, m)))
var_clear d k names round y (inr l) (inl m) u (inl n) = absurd (omega (arith, m, n))
var_clear d k names round y (inr l) (inl m) u (inr e) =
    let far : d + 1 ≤ k = omega (arith, m) in
    inr (old_place d k round y far (other_name d k names round y far u) e)

-- all stays clear within one more binder, whose name isn't used
within : (d : ℕ) (names round : List (List ℕ)) (y : List ℕ) (t : Tree) → is_among (used (d + 1) names round t) y ≡ false →
    IsClear (d + 1) names round t → IsClear d names (y ∷ round) t
within d names round y (tree.var k) u h = var_clear d k names round y (cases_lt k d) (cases_lt d k) u h
within d names round y (tree.free k) u h =
    let x = slice_index_or names k [] in absent x y round (or_parts (bytes_eq x y) false u).0 h
within d names round y (tree.lam t) u h = within (d + 1) names round y t u h
within d names round y (tree.app f a) u h =
    let p = or_parts (is_among (used (d + 1) names round f) y) (is_among (used (d + 1) names round a) y)
    (sym (among_both (used (d + 1) names round f) (used (d + 1) names round a) y) ∙ u) in
    (within d names round y f p.0 h.0, within d names round y a p.1 h.1)

-- ---- the tree of what is named

bound_place : (names round : List (List ℕ)) (k : ℕ) →
    (k < 0) ⊎ (position_of (slice_index_or round (k - 0) []) round ≡ Some (k - 0)) →
    numbered names round (grammar.var (slice_index_or round k [])) ≡ tree.var k
bound_place names round k (inl l) = absurd (omega (arith, l))
bound_place names round k (inr e) =
    let z : k - 0 ≡ k = omega arith in
    let at : position_of (slice_index_or round k []) round ≡ Some k =
    ap (λ (n : ℕ). position_of (slice_index_or round n []) round) (sym z) ∙ e ∙ ap (λ (n : ℕ). Some n) z in
    ap (λ (o : Option ℕ). var_at o (position_of (slice_index_or round k []) names)) at

caught : (names round : List (List ℕ)) (t : Tree) (s : Binders) → NoNameTwice names → Fits t s →
    is_named_below (length names) t ≡ true → IsClear 0 names round t → numbered names round (named names round t s) ≡ t
caught names round (tree.var k) leaf once f n c = bound_place names round k c
caught names round (tree.var k) (lam x s) once f n c = absurd f
caught names round (tree.var k) (app r s) once f n c = absurd f
caught names round (tree.free k) leaf once f n c =
    ap (λ (o : Option ℕ). var_at o (position_of (slice_index_or names k []) names)) c
    ∙ ap free_at (free_place names k once (ltb-true k (length names) n))
caught names round (tree.free k) (lam x s) once f n c = absurd f
caught names round (tree.free k) (app r s) once f n c = absurd f
caught names round (tree.lam t) leaf once f n c = absurd f
caught names round (tree.lam t) (lam x s) once f n c =
    let taken = used 1 names round t in
    let y = primed taken x in
    ap tree.lam (caught names (y ∷ round) t s once f n
    (within 0 names round y t (primed_is_least taken x).new c))
caught names round (tree.lam t) (app r s) once f n c = absurd f
caught names round (tree.app g a) leaf once f n c = absurd f
caught names round (tree.app g a) (lam x s) once f n c = absurd f
caught names round (tree.app g a) (app r s) once f n c =
    let p = and_parts (is_named_below (length names) g) (is_named_below (length names) a) n in
    ap (λ (u : Tree). tree.app u (numbered names round (named names round a s))) (caught names round g r once f.0 p.0 c.0)
    ∙ ap (λ (u : Tree). tree.app g u) (caught names round a s once f.1 p.1 c.1)

pub none_is_caught : NoneIsCaught
none_is_caught names t s once f b n = caught names [] t s once f n (outside 0 names t b)
