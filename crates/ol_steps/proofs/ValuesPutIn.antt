-- If values are put in the places of their names again, a tree is what it was.
use Rattle.std.proofs.Common.{◌≡◌, ℕ, ◌-◌, Bool, true, false, List, [], ◌∷◌, Option, Some, None}
use Rattle.std.proofs.Common.{refl, ap, ◌∙◌}
use Rattle.std.specs.Prelude.{◌==◌, if◌then◌else◌, slice_index_or}
use Rattle.std.proofs.lemmas.Bool.{and_parts, le-ltb}
use Rattle.ol_term.specs.Trees.{Tree, var, free, lam, app, is_named_below}
use Rattle.ol_steps.specs.Binders as binders
use Rattle.ol_steps.specs.Binders.{Binders, Fits}
use Rattle.ol_steps.specs.Folded.{value_at, or_name, all_folded, folded_round, pruned}
use Rattle.ol_steps.specs.LetLaws.{unfolded, UnfoldedIsTerm, NoValueNoChange, NothingIsPruned, FoldedFits}
use Rattle.ol_steps.proofs.Values.{leads_to}

-- a part that may have become a name
part : (n : ℕ) (vs : List Tree) (t u : Tree) → unfolded n vs u ≡ t → unfolded n vs (or_name (value_at n vs t) u) ≡ t
part n vs t u e = go (value_at n vs t) refl
  where
    go : (o : Option ℕ) → value_at n vs t ≡ o → unfolded n vs (or_name o u) ≡ t
    go None i = e
    go (Some k) i =
        let l = leads_to n vs t k i in
        ap (λ (b : Bool). if b then free k else slice_index_or vs (k - n) (free k)) (le-ltb k n l.from)
        ∙ l.value (free k)

unfolds : (n : ℕ) (vs : List Tree) (t : Tree) → is_named_below n t ≡ true → unfolded n vs (all_folded n vs t) ≡ t
unfolds n vs (var k) h = refl
unfolds n vs (free k) h = ap (λ (b : Bool). if b then free k else slice_index_or vs (k - n) (free k)) h
unfolds n vs (lam t) h = part n vs (lam t) (lam (all_folded n vs t)) (ap lam (unfolds n vs t h))
unfolds n vs (app f a) h =
    let p = and_parts (is_named_below n f) (is_named_below n a) h in
    part n vs (app f a) (app (all_folded n vs f) (all_folded n vs a))
    (ap (λ (u : Tree). app u (unfolded n vs (all_folded n vs a))) (unfolds n vs f p.0)
    ∙ ap (λ (u : Tree). app f u) (unfolds n vs a p.1))

both : (n : ℕ) (vs : List Tree) (f a g b : Tree) → unfolded n vs g ≡ f → unfolded n vs b ≡ a →
    unfolded n vs (app g b) ≡ app f a
both n vs f a g b e h = ap (λ (u : Tree). app u (unfolded n vs b)) e ∙ ap (λ (u : Tree). app f u) h

unfolds_round : (n : ℕ) (vs : List Tree) (at : List ℕ) (t : Tree) → is_named_below n t ≡ true →
    unfolded n vs (folded_round n vs at t) ≡ t
unfolds_round n vs at (var k) h = refl
unfolds_round n vs at (free k) h = unfolds n vs (free k) h
unfolds_round n vs [] (lam t) h = raw n vs (lam t) h
  where
    raw : (n : ℕ) (vs : List Tree) (t : Tree) → is_named_below n t ≡ true → unfolded n vs t ≡ t
    raw n vs (var k) h = refl
    raw n vs (free k) h = ap (λ (b : Bool). if b then free k else slice_index_or vs (k - n) (free k)) h
    raw n vs (lam t) h = ap lam (raw n vs t h)
    raw n vs (app f a) h =
        let p = and_parts (is_named_below n f) (is_named_below n a) h in both n vs f a f a (raw n vs f p.0) (raw n vs a p.1)
unfolds_round n vs (m ∷ at) (lam t) h = ap lam (unfolds_round n vs at t h)
unfolds_round n vs [] (app f a) h =
    let p = and_parts (is_named_below n f) (is_named_below n a) h in
    both n vs f a (all_folded n vs f) (all_folded n vs a) (unfolds n vs f p.0) (unfolds n vs a p.1)
unfolds_round n vs (m ∷ at) (app f a) h =
    let p = and_parts (is_named_below n f) (is_named_below n a) h in
    go (m == 1) (unfolds_round n vs at f p.0) (unfolds_round n vs at a p.1) (unfolds n vs f p.0) (unfolds n vs a p.1)
  where
    go : (b : Bool) → unfolded n vs (folded_round n vs at f) ≡ f → unfolded n vs (folded_round n vs at a) ≡ a →
        unfolded n vs (all_folded n vs f) ≡ f → unfolded n vs (all_folded n vs a) ≡ a →
        unfolded n vs (if b then app (folded_round n vs at f) (all_folded n vs a) else app (all_folded n vs f) (folded_round n vs at a))
        ≡ app f a
    go true rf ra pf pa = both n vs f a (folded_round n vs at f) (all_folded n vs a) rf pa
    go false rf ra pf pa = both n vs f a (all_folded n vs f) (folded_round n vs at a) pf ra

pub unfolded_is_term : UnfoldedIsTerm
unfolded_is_term n vs None t h = unfolds n vs t h
unfolded_is_term n vs (Some at) t h = unfolds_round n vs at t h

-- ---- without values

pub none_folded : (n : ℕ) (t : Tree) → all_folded n [] t ≡ t
none_folded n (var k) = refl
none_folded n (free k) = refl
none_folded n (lam t) = ap lam (none_folded n t)
none_folded n (app f a) = ap (λ (u : Tree). app u (all_folded n [] a)) (none_folded n f)
    ∙ ap (λ (u : Tree). app f u) (none_folded n a)

none_round : (n : ℕ) (at : List ℕ) (t : Tree) → folded_round n [] at t ≡ t
none_round n at (var k) = refl
none_round n at (free k) = refl
none_round n [] (lam t) = refl
none_round n (m ∷ at) (lam t) = ap lam (none_round n at t)
none_round n [] (app f a) = none_folded n (app f a)
none_round n (m ∷ at) (app f a) = go (m == 1) (none_round n at f) (none_round n at a)
  where
    go : (b : Bool) → folded_round n [] at f ≡ f → folded_round n [] at a ≡ a →
        (if b then app (folded_round n [] at f) (all_folded n [] a) else app (all_folded n [] f) (folded_round n [] at a)) ≡ app f a
    go true rf ra = ap (λ (u : Tree). app u (all_folded n [] a)) rf ∙ ap (λ (u : Tree). app f u) (none_folded n a)
    go false rf ra = ap (λ (u : Tree). app u (folded_round n [] at a)) (none_folded n f) ∙ ap (λ (u : Tree). app f u) ra

pub no_value_no_change : NoValueNoChange
no_value_no_change n None t = none_folded n t
no_value_no_change n (Some at) t = none_round n at t

-- ---- names of binders

pub nothing_is_pruned : NothingIsPruned
nothing_is_pruned (var k) binders.leaf h = refl
nothing_is_pruned (var k) (binders.lam x s) h = absurd h
nothing_is_pruned (var k) (binders.app r s) h = absurd h
nothing_is_pruned (free k) binders.leaf h = refl
nothing_is_pruned (free k) (binders.lam x s) h = absurd h
nothing_is_pruned (free k) (binders.app r s) h = absurd h
nothing_is_pruned (lam t) binders.leaf h = absurd h
nothing_is_pruned (lam t) (binders.lam x s) h = ap (λ (r : Binders). binders.lam x r) (nothing_is_pruned t s h)
nothing_is_pruned (lam t) (binders.app r s) h = absurd h
nothing_is_pruned (app f a) binders.leaf h = absurd h
nothing_is_pruned (app f a) (binders.lam x s) h = absurd h
nothing_is_pruned (app f a) (binders.app r s) h =
    ap (λ (q : Binders). binders.app q (pruned a s)) (nothing_is_pruned f r h.0)
    ∙ ap (λ (q : Binders). binders.app r q) (nothing_is_pruned a s h.1)

named_or_fits : (o : Option ℕ) (u : Tree) (s : Binders) → Fits u (pruned u s) →
    Fits (or_name o u) (pruned (or_name o u) s)
named_or_fits None u s h = h
named_or_fits (Some k) u s h = tt

fits : (n : ℕ) (vs : List Tree) (t : Tree) (s : Binders) → Fits t s → Fits (all_folded n vs t) (pruned (all_folded n vs t) s)
fits n vs (var k) s h = tt
fits n vs (free k) s h = tt
fits n vs (lam t) binders.leaf h = absurd h
fits n vs (lam t) (binders.lam x s) h =
    named_or_fits (value_at n vs (lam t)) (lam (all_folded n vs t)) (binders.lam x s) (fits n vs t s h)
fits n vs (lam t) (binders.app r s) h = absurd h
fits n vs (app f a) binders.leaf h = absurd h
fits n vs (app f a) (binders.lam x s) h = absurd h
fits n vs (app f a) (binders.app r s) h =
    named_or_fits (value_at n vs (app f a)) (app (all_folded n vs f) (all_folded n vs a)) (binders.app r s)
    (fits n vs f r h.0, fits n vs a s h.1)

itself_fits : (t : Tree) (s : Binders) → Fits t s → Fits t (pruned t s)
itself_fits (var k) s h = tt
itself_fits (free k) s h = tt
itself_fits (lam t) binders.leaf h = absurd h
itself_fits (lam t) (binders.lam x s) h = itself_fits t s h
itself_fits (lam t) (binders.app r s) h = absurd h
itself_fits (app f a) binders.leaf h = absurd h
itself_fits (app f a) (binders.lam x s) h = absurd h
itself_fits (app f a) (binders.app r s) h = (itself_fits f r h.0, itself_fits a s h.1)

fits_round : (n : ℕ) (vs : List Tree) (at : List ℕ) (t : Tree) (s : Binders) → Fits t s →
    Fits (folded_round n vs at t) (pruned (folded_round n vs at t) s)
fits_round n vs at (var k) s h = tt
fits_round n vs at (free k) s h = tt
fits_round n vs [] (lam t) s h = itself_fits (lam t) s h
fits_round n vs (m ∷ at) (lam t) binders.leaf h = absurd h
fits_round n vs (m ∷ at) (lam t) (binders.lam x s) h = fits_round n vs at t s h
fits_round n vs (m ∷ at) (lam t) (binders.app r s) h = absurd h
fits_round n vs at (app f a) binders.leaf h = absurd h
fits_round n vs at (app f a) (binders.lam x s) h = absurd h
fits_round n vs [] (app f a) (binders.app r s) h = (fits n vs f r h.0, fits n vs a s h.1)
fits_round n vs (m ∷ at) (app f a) (binders.app r s) h =
    go (m == 1) (fits_round n vs at f r h.0) (fits_round n vs at a s h.1)
  where
    go : (b : Bool) → Fits (folded_round n vs at f) (pruned (folded_round n vs at f) r) →
        Fits (folded_round n vs at a) (pruned (folded_round n vs at a) s) →
        Fits (if b then app (folded_round n vs at f) (all_folded n vs a) else app (all_folded n vs f) (folded_round n vs at a))
        (pruned (if b then app (folded_round n vs at f) (all_folded n vs a) else app (all_folded n vs f) (folded_round n vs at a))
        (binders.app r s))
    go true i j = (i, fits n vs a s h.1)
    go false i j = (fits n vs f r h.0, j)

pub folded_fits : FoldedFits
folded_fits n vs None t s h = fits n vs t s h
folded_fits n vs (Some at) t s h = fits_round n vs at t s h
