-- A source's own tree is named as the source is: no binder of it needs a prime.
use Rattle.std.proofs.Common.{◌≡◌, ℕ, zero, suc, ◌+◌, ◌-◌, ◌<◌, ◌≤◌, ◌⊎◌, inl, inr, Bool, true, false, ◌||◌, cond, nat_lt}
use Rattle.std.proofs.Common.{List, [], ◌∷◌, ◌++◌, Option, Some, None, refl, sym, ap, ◌∙◌, subst, arith}
use Rattle.std.specs.Prelude.{if◌then◌else◌, slice_get, slice_index_or}
use Rattle.std.specs.List.{position_from}
use Rattle.std.specs.Str.{bytes_eq}
use Rattle.std.proofs.lemmas.Bool.{cases_lt, lt-ltb}
use Rattle.std.proofs.lemmas.Slice.Eq.{bytes_eq-Decides}
use Rattle.std.proofs.lemmas.Option.{same_Some}
use Rattle.ol_term.specs.Trees as tree
use Rattle.ol_term.specs.Trees.{Tree}
use Rattle.ol_term.specs.NameLists.{IsFirstPlace, without, position_of}
use Rattle.ol_term.specs.BinderNames.{is_among}
use Rattle.ol_term.proofs.BinderTexts.{not_same}
use Rattle.ol_parse.specs.Grammar.{Named, var, lam, app}
use Rattle.ol_parse.specs.Numbered.{unbound, free_in, once, names_of, numbered, var_at}
use Rattle.ol_steps.specs.Binders as binders
use Rattle.ol_steps.specs.Binders.{binders_of}
use Rattle.ol_steps.specs.Naming.{used, named}
use Rattle.ol_steps.specs.BinderLaws.{SourceIsKept}
use Rattle.ol_steps.proofs.Among.{among_both}
use Rattle.ol_steps.proofs.Primes.{try_serves}

abbrev is : List ℕ → List ℕ → Bool
is x = λ y. bytes_eq x y

clash : false ≡ true → ⊥
clash e = cc

same_bytes : (x : List ℕ) → bytes_eq x x ≡ true
same_bytes x = (bytes_eq-Decides x x).1 refl

unlike : (x y : List ℕ) → bytes_eq x y ≡ false → y ≡ x → ⊥
unlike x y e s = clash (sym e ∙ ap (λ (z : List ℕ). bytes_eq x z) s ∙ same_bytes x)

-- ---- places in a list

at_head : (x y : List ℕ) (ys : List (List ℕ)) → bytes_eq x y ≡ true → IsFirstPlace (y ∷ ys) x 0
at_head x y ys e = record {
  here = ap (λ (z : List ℕ). Some z) (sym ((bytes_eq-Decides x y).0 e));
  before = λ j l. absurd (omega (arith, l));
}

at_tail : (x y : List ℕ) (ys : List (List ℕ)) (j : ℕ) → bytes_eq x y ≡ false → IsFirstPlace ys x j → IsFirstPlace (y ∷ ys) x (suc j)
at_tail x y ys j e f = record { here = f.here; before = before_it }
  where
    before_it : (m : ℕ) → m < suc j → slice_get (y ∷ ys) m ≡ Some x → ⊥
    before_it zero l s = unlike x y e (same_Some y x s)
    before_it (suc m) l s = f.before m (omega (arith, l)) s

place_from : (x : List ℕ) (xs : List (List ℕ)) (i k : ℕ) → position_from (is x) i xs ≡ Some k →
    (j : ℕ) × (k ≡ i + j) × IsFirstPlace xs x j
place_from x [] i k h = absurd (cc)
place_from x (y ∷ ys) i k h = go (λ p. place_from x ys (i + 1) k p) (bytes_eq x y) refl h
  where
    go : (position_from (is x) (i + 1) ys ≡ Some k → (j : ℕ) × (k ≡ i + 1 + j) × IsFirstPlace ys x j) → (b : Bool) →
        bytes_eq x y ≡ b → cond {A = Option ℕ} b (Some i) (position_from (is x) (i + 1) ys) ≡ Some k →
        (j : ℕ) × (k ≡ i + j) × IsFirstPlace (y ∷ ys) x j
    go more true e p = let same : i ≡ k = cc in (0, omega (arith, same), at_head x y ys e)
    go more false e p = let (j, n, f) = more p in (suc j, omega (arith, n), at_tail x y ys j e f)

place : (x : List ℕ) (xs : List (List ℕ)) (k : ℕ) → position_of x xs ≡ Some k → IsFirstPlace xs x k
place x xs k h =
    let (j, n, f) = place_from x xs 0 k h in
    let e : j ≡ k = omega (arith, n) in subst (λ (j : ℕ). IsFirstPlace xs x j) e f

none_there : (x : List ℕ) (xs : List (List ℕ)) (i : ℕ) → position_from (is x) i xs ≡ None → (j : ℕ) →
    slice_get xs j ≡ Some x → ⊥
none_there x [] i h j s = absurd (cc)
none_there x (y ∷ ys) i h j s = go (λ p j s. none_there x ys (i + 1) p j s) (bytes_eq x y) refl h j s
  where
    go : (position_from (is x) (i + 1) ys ≡ None → (j : ℕ) → slice_get ys j ≡ Some x → ⊥) → (b : Bool) →
        bytes_eq x y ≡ b → cond {A = Option ℕ} b (Some i) (position_from (is x) (i + 1) ys) ≡ None →
        (j : ℕ) → slice_get (y ∷ ys) j ≡ Some x → ⊥
    go more true e p j s = absurd (cc)
    go more false e p zero s = unlike x y e (same_Some y x s)
    go more false e p (suc j) s = more p j s

name_there : (xs : List (List ℕ)) (k : ℕ) (x : List ℕ) → slice_get xs k ≡ Some x → slice_index_or xs k [] ≡ x
name_there [] k x e = absurd (cc)
name_there (y ∷ ys) zero x e = same_Some y x e
name_there (y ∷ ys) (suc k) x e = name_there ys k x e

-- ---- each free name of a term is in its list

abbrev AllAmong : List (List ℕ) → List (List ℕ) → Type 0
AllAmong names [] = Unit {0}
AllAmong names (x ∷ xs) = (is_among names x ≡ true) × AllAmong names xs

all_more : (names more xs : List (List ℕ)) → ((x : List ℕ) → is_among names x ≡ true → is_among more x ≡ true) →
    AllAmong names xs → AllAmong more xs
all_more names more [] f h = tt
all_more names more (x ∷ xs) f h = (f x h.0, all_more names more xs f h.1)

all_left : (names xs ys : List (List ℕ)) → AllAmong names (xs ++ ys) → AllAmong names xs
all_left names [] ys h = tt
all_left names (x ∷ xs) ys h = (h.0, all_left names xs ys h.1)

all_right : (names xs ys : List (List ℕ)) → AllAmong names (xs ++ ys) → AllAmong names ys
all_right names [] ys h = h
all_right names (x ∷ xs) ys h = all_right names xs ys h.1

-- another name stays
stays : (x z : List ℕ) (ys : List (List ℕ)) → bytes_eq x z ≡ false → is_among ys z ≡ true →
    is_among (without x ys) z ≡ true
stays x z [] e h = h
stays x z (y ∷ ys) e h = go (λ k. stays x z ys e k) (bytes_eq x y) refl (bytes_eq y z) refl h
  where
    go : (is_among ys z ≡ true → is_among (without x ys) z ≡ true) → (b : Bool) → bytes_eq x y ≡ b → (c : Bool) →
        bytes_eq y z ≡ c → (c || is_among ys z) ≡ true →
        is_among (cond {A = List (List ℕ)} b (without x ys) (y ∷ without x ys)) z ≡ true
    go more true f true g k =
        let s = (bytes_eq-Decides y z).0 g in
        absurd (clash (sym e ∙ ap (λ (w : List ℕ). bytes_eq x w) (sym s) ∙ f))
    go more true f false g k = more k
    go more false f true g k = ap (λ (c : Bool). c || is_among (without x ys) z) g
    go more false f false g k = ap (λ (c : Bool). c || is_among (without x ys) z) g ∙ more k

kept_once : (x : List ℕ) (ys : List (List ℕ)) (z : List ℕ) → is_among ys z ≡ true →
    is_among (x ∷ without x ys) z ≡ true
kept_once x ys z h = go (bytes_eq x z) refl
  where
    go : (b : Bool) → bytes_eq x z ≡ b → (b || is_among (without x ys) z) ≡ true
    go true e = refl
    go false e = stays x z ys e h

all_once : (xs : List (List ℕ)) → AllAmong (once xs) xs
all_once [] = tt
all_once (x ∷ xs) = (
  ap (λ (b : Bool). b || is_among (without x (once xs)) x) (same_bytes x),
  all_more (once xs) (x ∷ without x (once xs)) xs (λ z. kept_once x (once xs) z) (all_once xs),
)

-- a name of a list has a place in it
not_lost : (x : List ℕ) (names : List (List ℕ)) (i : ℕ) → is_among names x ≡ true →
    position_from (is x) i names ≡ None → ⊥
not_lost x [] i h e = clash h
not_lost x (y ∷ ys) i h e = go (λ k p. not_lost x ys (i + 1) k p) (bytes_eq x y) refl e (bytes_eq y x) refl h
  where
    go : (is_among ys x ≡ true → position_from (is x) (i + 1) ys ≡ None → ⊥) → (b : Bool) → bytes_eq x y ≡ b →
        cond {A = Option ℕ} b (Some i) (position_from (is x) (i + 1) ys) ≡ None → (c : Bool) → bytes_eq y x ≡ c →
        (c || is_among ys x) ≡ true → ⊥
    go more true f p c g k = absurd (cc)
    go more false f p true g k = unlike x y f ((bytes_eq-Decides y x).0 g)
    go more false f p false g k = more k p

-- ---- no binder's name is used in its body by another

used_var : (d k : ℕ) (names round : List (List ℕ)) (x : List ℕ) →
    (d ≤ k → bytes_eq (slice_index_or round (k - d) []) x ≡ false) →
    is_among (used d names round (tree.var k)) x ≡ false
used_var d k names round x other = go (nat_lt k d) refl (cases_lt k d)
  where
    go : (b : Bool) → nat_lt k d ≡ b → (k < d) ⊎ (d ≤ k) →
        is_among (if b then [] else slice_index_or round (k - d) [] ∷ []) x ≡ false
    go true e m = refl
    go false e (inl l) = absurd (clash (sym e ∙ lt-ltb k d l))
    go false e (inr l) = ap (λ (c : Bool). c || false) (other l)

-- a variable: it stands for another binder than the one with this name, or for one of the innermost
var_not_taken : (d : ℕ) (names bs round : List (List ℕ)) (x z : List ℕ) (i : ℕ) → i < d → slice_get bs i ≡ Some x →
    ((k : ℕ) → d ≤ k → slice_index_or round (k - d) [] ≡ slice_index_or bs k []) → (o p : Option ℕ) →
    position_of z bs ≡ o → position_of z names ≡ p → AllAmong names (unbound z o) →
    is_among (used d names round (var_at o p)) x ≡ false
var_not_taken d names bs round x z i l here same (Some k) p e f h =
    let at = place z bs k e in
    used_var d k names round x (λ far.
    let is_z : slice_index_or round (k - d) [] ≡ z = same k far ∙ name_there bs k z at.here in
    not_same (slice_index_or round (k - d) []) x
    (λ s. at.before i (omega (arith, l, far)) (here ∙ ap (λ (w : List ℕ). Some w) (sym s ∙ is_z))))
var_not_taken d names bs round x z i l here same None (Some k) e f h =
    let is_z : slice_index_or names k [] ≡ z = name_there names k z (place z names k f).here in
    ap (λ (c : Bool). c || false) (not_same (slice_index_or names k []) x
    (λ s. none_there z bs 0 e i (here ∙ ap (λ (w : List ℕ). Some w) (sym s ∙ is_z))))
var_not_taken d names bs round x z i l here same None None e f h = absurd (not_lost z names 0 h.0 f)

not_taken : (d : ℕ) (names bs round : List (List ℕ)) (x : List ℕ) (i : ℕ) → i < d → slice_get bs i ≡ Some x →
    ((k : ℕ) → d ≤ k → slice_index_or round (k - d) [] ≡ slice_index_or bs k []) → (t : Named) →
    AllAmong names (free_in bs t) → is_among (used d names round (numbered names bs t)) x ≡ false
not_taken d names bs round x i l here same (var z) h =
    var_not_taken d names bs round x z i l here same (position_of z bs) (position_of z names) refl refl h
not_taken d names bs round x i l here same (lam z t) h =
    not_taken (d + 1) names (z ∷ bs) round x (suc i) (omega (arith, l)) here further t h
  where
    further : (k : ℕ) → d + 1 ≤ k → slice_index_or round (k - (d + 1)) [] ≡ slice_index_or (z ∷ bs) k []
    further zero m = absurd (omega (arith, m))
    further (suc k) m =
        let n : suc k - (d + 1) ≡ k - d = omega (arith, m) in
        ap (λ (j : ℕ). slice_index_or round j []) n ∙ same k (omega (arith, m))
not_taken d names bs round x i l here same (app f a) h =
    let F = used d names round (numbered names bs f) in
    let A = used d names round (numbered names bs a) in
    among_both F A x
    ∙ ap (λ (c : Bool). c || is_among A x)
    (not_taken d names bs round x i l here same f (all_left names (free_in bs f) (free_in bs a) h))
    ∙ not_taken d names bs round x i l here same a (all_right names (free_in bs f) (free_in bs a) h)

-- ---- the source's own tree

kept_var : (names round : List (List ℕ)) (x : List ℕ) (o p : Option ℕ) → position_of x round ≡ o →
    position_of x names ≡ p → AllAmong names (unbound x o) → named names round (var_at o p) binders.leaf ≡ var x
kept_var names round x (Some k) p e f h =
    ap (λ (y : List ℕ). var y) (name_there round k x (place x round k e).here)
kept_var names round x None (Some k) e f h =
    ap (λ (y : List ℕ). var y) (name_there names k x (place x names k f).here)
kept_var names round x None None e f h = absurd (not_lost x names 0 h.0 f)

kept : (names round : List (List ℕ)) (t : Named) → AllAmong names (free_in round t) →
    named names round (numbered names round t) (binders_of t) ≡ t
kept names round (var x) h = kept_var names round x (position_of x round) (position_of x names) refl refl h
kept names round (lam x t) h =
    let taken = used 1 names round (numbered names (x ∷ round) t) in
    let new = not_taken 1 names (x ∷ round) round x 0 (omega arith) refl one_out t h in
    ap (λ (y : List ℕ). lam y (named names (y ∷ round) (numbered names (x ∷ round) t) (binders_of t)))
    (try_serves taken x new)
    ∙ ap (λ (u : Named). lam x u) (kept names (x ∷ round) t h)
  where
    one_out : (k : ℕ) → 1 ≤ k → slice_index_or round (k - 1) [] ≡ slice_index_or (x ∷ round) k []
    one_out zero m = absurd (omega (arith, m))
    one_out (suc k) m =
        let n : suc k - 1 ≡ k = omega arith in ap (λ (j : ℕ). slice_index_or round j []) n
kept names round (app f a) h =
    ap (λ (u : Named). app u (named names round (numbered names round a) (binders_of a)))
    (kept names round f (all_left names (free_in round f) (free_in round a) h))
    ∙ ap (λ (u : Named). app f u) (kept names round a (all_right names (free_in round f) (free_in round a) h))

pub source_is_kept : SourceIsKept
source_is_kept t = kept (names_of t) [] t (all_once (free_in [] t))
