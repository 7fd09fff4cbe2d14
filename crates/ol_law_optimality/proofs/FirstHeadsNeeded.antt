-- Each degree that head reduction contracts at the first places, every reduction to a term that shows so many heads
-- contracts.
use Rattle.std.proofs.Common.{◌≡◌, ℕ, zero, suc, ◌≤◌, Bool, true, false, inl, inr, List, [], ◌++◌, refl, sym, subst}
use Rattle.std.proofs.Common.{arith}
use Rattle.ol_law_edges.specs.Edges.{IsIn}
use Rattle.ol_law_edges.proofs.Lists.{in_cases}
use Rattle.ol_law_optimality.specs.Readings.{HeadReduces}
use Rattle.ol_law_optimality.specs.Readings as readings
use Rattle.ol_law_meaning.specs.Heads.{Spine, head_var, head_free, head_app, Normal, flat, layer}
use Rattle.ol_law_meaning.specs.Shows.{IsHeadNormal}
use Rattle.ol_law_meaning.specs.Contraction.{Level, empty, left, Wire, bound, name, Place, wire}
use Rattle.ol_law_meaning.proofs.Shapes.{normal_is, normal_of}
use Rattle.ol_law_meaning.proofs.Walking.{under_lam}
use Rattle.ol_law_optimality.specs.Labels.{Label, Labelled, var, free, lam, app, erased}
use Rattle.ol_readback.specs.Terms.{IsNoLam}
use Rattle.ol_term.specs.Trees.{Tree}
use Rattle.ol_term.specs.Trees as trees
use Rattle.ol_law_optimality.specs.FirstHeads.{ShowsHeads, not_asked, at_var, at_free, at_lam, at_app}
use Rattle.ol_law_optimality.specs.Reductions.{Contracts, Parallel, of_var, of_free, of_lam, of_app, of_redex}
use Rattle.ol_law_optimality.specs.Reductions as reductions
use Rattle.ol_law_optimality.proofs.FirstHeadsPlaces.{By}
use Rattle.ol_law_optimality.proofs.FirstHeadsPlaces as places
use Rattle.ol_law_optimality.proofs.HeadNeeded.{head_parallel, headed, heads_needed, head_labels}
use Rattle.ol_law_optimality.proofs.Needed.{Of, Row, done, more, beside, contracts_then}
use Rattle.ol_law_optimality.proofs.Steps.{at_once}

-- ---- terms that show their first heads

pub shows_less : {n m : ℕ} {t : Tree} → ShowsHeads n t m → m ≤ n
shows_less not_asked = omega arith
shows_less at_var = omega arith
shows_less at_free = omega arith
shows_less (at_lam h) = shows_less h
shows_less (at_app e h g) = let a = shows_less h in let b = shows_less g in omega (arith, a, b)

pub shows_fewer : {n m : ℕ} {t : Tree} → ShowsHeads (suc n) t m → m ≤ n
shows_fewer at_var = omega arith
shows_fewer at_free = omega arith
shows_fewer (at_lam h) = shows_fewer h
shows_fewer (at_app e h g) = let a = shows_fewer h in let b = shows_less g in omega (arith, a, b)

pub shows_one : {n m k : ℕ} {t : Tree} → ShowsHeads n t m → ShowsHeads n t k → m ≡ k
shows_one not_asked not_asked = refl
shows_one at_var at_var = refl
shows_one at_free at_free = refl
shows_one (at_lam h) (at_lam g) = shows_one h g
shows_one {k = k} (at_app {a = a} e h x) (at_app f g y) =
    shows_one x (subst (λ n. ShowsHeads n a k) (sym (shows_one h g)) y)

shown_spine : {n m : ℕ} {t : Tree} → ShowsHeads (suc n) t m → IsNoLam t →
    (y : Wire) × (a : Level) × (j : ℕ) × Spine t y a j
shown_spine (at_var {k = k}) e = (bound k, empty, 0, head_var)
shown_spine (at_free {f = f}) e = (name f, empty, 0, head_free)
shown_spine (at_lam h) e = absurd e
shown_spine (at_app {a = a} f h g) e =
    let s = shown_spine h f in (s.0, left a s.0 s.1, suc s.2, head_app s.3 refl)

flat_shown : {t : Tree} → (y : Wire) × (a : Level) × (j : ℕ) × Spine t y a j →
    (q : Place) × (a : Level) × (j : ℕ) × Normal t q a j
flat_shown s = (wire s.0, s.1, s.2, flat s.3)

shown_normal : {n m : ℕ} {t : Tree} → ShowsHeads (suc n) t m → (q : Place) × (a : Level) × (j : ℕ) × Normal t q a j
shown_normal (at_var {k = k}) = flat_shown (bound k, empty, 0, head_var)
shown_normal (at_free {f = f}) = flat_shown (name f, empty, 0, head_free)
shown_normal (at_lam h) = let r = shown_normal h in under_lam r.0 r.3
shown_normal (at_app e h g) = flat_shown (shown_spine (at_app e h g) tt)

pub shown_head : {n m : ℕ} {t : Tree} → ShowsHeads (suc n) t m → IsHeadNormal t
shown_head h = normal_is (shown_normal h).3

-- parallel steps keep them
module _ (P : Label → Type 0) where
  no_lam_stays : {n m : ℕ} {t u : Labelled} → Parallel P t u → ShowsHeads (suc n) (erased t) m → IsNoLam (erased t) →
      IsNoLam (erased u)
  no_lam_stays of_var h e = tt
  no_lam_stays of_free h e = tt
  no_lam_stays (of_lam p) h e = absurd e
  no_lam_stays (of_app p q) h e = tt
  no_lam_stays (of_redex i p q) (at_app f h g) e = absurd f

  pub shows_stay : {n m : ℕ} {t u : Labelled} → Parallel P t u → ShowsHeads n (erased t) m → ShowsHeads n (erased u) m
  shows_stay of_var h = h
  shows_stay of_free h = h
  shows_stay (of_lam p) not_asked = not_asked
  shows_stay (of_lam p) (at_lam h) = at_lam (shows_stay p h)
  shows_stay (of_app p q) not_asked = not_asked
  shows_stay (of_app p q) (at_app e h g) = at_app (no_lam_stays p h e) (shows_stay p h) (shows_stay q g)
  shows_stay (of_redex i p q) not_asked = not_asked
  shows_stay (of_redex i p q) (at_app e h g) = absurd e

-- ---- heads with their arguments

pub data Neutral : Labelled → Type 0 where
  var_neutral : {k : ℕ} {w : Label} → Neutral (var k w)
  free_neutral : {k : ℕ} {w : Label} → Neutral (free k w)
  app_neutral : {f a : Labelled} {w : Label} → Neutral f → Neutral (app f a w)

pub spine_neutral : (f : Labelled) {y : Wire} {a : Level} {j : ℕ} → Spine (erased f) y a j → Neutral f
spine_neutral (var k w) s = var_neutral
spine_neutral (free k w) s = free_neutral
spine_neutral (lam b w) s = elim s [ ]
spine_neutral (app f a w) (head_app s e) = app_neutral (spine_neutral f s)

neutral_stays : (P : Label → Type 0) {t u : Labelled} → Parallel P t u → Neutral t → Neutral u
neutral_stays P of_var n = n
neutral_stays P of_free n = n
neutral_stays P (of_lam p) n = elim n [ ]
neutral_stays P (of_app p q) (app_neutral n) = app_neutral (neutral_stays P p n)
neutral_stays P (of_redex i p q) (app_neutral n) = elim n [ ]

pub neutral_row : {t u : Labelled} {ds : List Label} → Row t ds u → Neutral t → Neutral u
neutral_row done n = n
neutral_row (more {d = d} p r) n = neutral_row r (neutral_stays (Of d) p n)

pub neutral_no_lam : {t : Labelled} → Neutral t → IsNoLam (erased t)
neutral_no_lam var_neutral = tt
neutral_no_lam free_neutral = tt
neutral_no_lam (app_neutral n) = tt

-- ---- rows of their parts

row_var : {k : ℕ} {w : Label} {us : List Label} {V : Labelled} → Row (var k w) us V → V ≡ var k w
row_var done = refl
row_var (more of_var r) = row_var r

row_free : {k : ℕ} {w : Label} {us : List Label} {V : Labelled} → Row (free k w) us V → V ≡ free k w
row_free done = refl
row_free (more of_free r) = row_free r

record LamRow (b : Labelled) (w : Label) (us : List Label) (V : Labelled) : Type 0 where
  body : Labelled
  is : V ≡ lam body w
  row : Row b us body

row_lam : {b V : Labelled} {w : Label} {us : List Label} → Row (lam b w) us V → LamRow b w us V
row_lam {b = b} done = record { body = b; is = refl; row = done }
row_lam (more (of_lam p) r) = let x = row_lam r in record { body = x.body; is = x.is; row = more p x.row }

record AppRow (f a : Labelled) (w : Label) (us : List Label) (V : Labelled) : Type 0 where
  fun : Labelled
  arg : Labelled
  is : V ≡ app fun arg w
  fun_row : Row f us fun
  arg_row : Row a us arg

row_app : {f a V : Labelled} {w : Label} {us : List Label} → Neutral f → Row (app f a w) us V → AppRow f a w us V
row_app {f = f} {a = a} n done = record { fun = f; arg = a; is = refl; fun_row = done; arg_row = done }
row_app n (more {d = d} (of_app p q) r) =
    let x = row_app (neutral_stays (Of d) p n) r in
    record { fun = x.fun; arg = x.arg; is = x.is; fun_row = more p x.fun_row; arg_row = more q x.arg_row }
row_app n (more (of_redex i p q) r) = elim n [ ]

-- a row one by one, each step of a degree of the row
pub record OneByOne (T : Labelled) (us : List Label) (V : Labelled) : Type 0 where
  pub degrees : List Label
  pub steps : Contracts T degrees V
  pub known : (e : Label) → IsIn e degrees → IsIn e us

pub one_by_one : {T V : Labelled} {us : List Label} → Row T us V → OneByOne T us V
one_by_one done = record { degrees = []; steps = reductions.ready; known = λ e i. i }
one_by_one (more {d = d} p r) =
    let s = at_once d p in
    let x = one_by_one r in
    record {
      degrees = s.0 ++ x.degrees;
      steps = contracts_then s.1 x.steps;
      known = λ e i. elim (in_cases e s.0 x.degrees i) [ inl j ↦ inl (s.2 e j) | inr j ↦ inr (x.known e j) ];
    }

-- beside head reduction
pub record BesideHeads (n m : ℕ) (U : Labelled) (us : List Label) : Type 0 where
  pub term : Labelled
  pub row : Row U us term
  pub shows : ShowsHeads n (erased term) m

beside_heads : {T U V : Labelled} {ds us : List Label} {n m : ℕ} → HeadReduces T ds U → Row T us V →
    ShowsHeads n (erased V) m → BesideHeads n m U us
beside_heads {V = V} readings.ready r s = record { term = V; row = r; shows = s }
beside_heads (readings.contract {d = d} h l) r s =
    let x = beside (Of d) (head_parallel h) r in beside_heads l x.row (shows_stay (Of d) x.step s)

-- ---- so head reduction comes to the first heads

pub record Shown (b : Bool) (n m : ℕ) (T : Labelled) (us : List Label) : Type 0 where
  pub degrees : List Label
  pub by : By b n T m degrees
  pub within : (e : Label) → IsIn e degrees → IsIn e us

appended : (ds es us : List Label) → ((e : Label) → IsIn e ds → IsIn e us) →
    ((e : Label) → IsIn e es → IsIn e us) → (e : Label) → IsIn e (ds ++ es) → IsIn e us
appended ds es us f g e i = elim (in_cases e ds es i) [ inl j ↦ f e j | inr j ↦ g e j ]

module _ (us : List Label) where
  abbrev Whole : ℕ → Type 0
  Whole N = (n m : ℕ) → n ≤ N → (T V : Labelled) → Row T us V → ShowsHeads n (erased V) m → Shown true n m T us

  abbrev Parts : ℕ → Labelled → Type 0
  Parts n U = (m : ℕ) (V : Labelled) → Row U us V → ShowsHeads (suc n) (erased V) m → Shown false n m U us

  var_part : (n k : ℕ) (w : Label) (m : ℕ) → ShowsHeads (suc n) (trees.var k) m → Shown false n m (var k w) us
  var_part n k w m at_var = record { degrees = []; by = places.of_var; within = λ e i. absurd i }

  free_part : (n k : ℕ) (w : Label) (m : ℕ) → ShowsHeads (suc n) (trees.free k) m → Shown false n m (free k w) us
  free_part n k w m at_free = record { degrees = []; by = places.of_free; within = λ e i. absurd i }

  lam_part : (n : ℕ) (b : Labelled) (w : Label) → Parts n b → (m : ℕ) (c : Labelled) → Row b us c →
      ShowsHeads (suc n) (trees.lam (erased c)) m → Shown false n m (lam b w) us
  lam_part n b w up m c r (at_lam s) =
      let x = up m c r s in record { degrees = x.degrees; by = places.of_lam x.by; within = x.within }

  app_part : (N n : ℕ) → n ≤ N → Whole N → (f a : Labelled) (w : Label) → Parts n f → (m : ℕ) (g c : Labelled) →
      Row f us g → Row a us c → ShowsHeads (suc n) (trees.app (erased g) (erased c)) m →
      Shown false n m (app f a w) us
  app_part N n l next f a w up m g c r q (at_app {k = k} e s z) =
      let x = up k g r s in
      let b = shows_fewer s in
      let y = next k m (omega (arith, b, l)) a c q z in
      record {
        degrees = x.degrees ++ y.degrees;
        by = places.of_app x.by y.by;
        within = appended x.degrees y.degrees us x.within y.within;
      }

  spine_parts : (N n : ℕ) → n ≤ N → Whole N → (U : Labelled) → Neutral U → Parts n U
  spine_parts N n l next (var k w) z m V r s =
      var_part n k w m (subst (λ V. ShowsHeads (suc n) (erased V) m) (row_var r) s)
  spine_parts N n l next (free k w) z m V r s =
      free_part n k w m (subst (λ V. ShowsHeads (suc n) (erased V) m) (row_free r) s)
  spine_parts N n l next (lam b w) z m V r s = elim z [ ]
  spine_parts N n l next (app f a w) (app_neutral z) m V r s =
      let x = row_app z r in
      app_part N n l next f a w (spine_parts N n l next f z) m x.fun x.arg x.fun_row x.arg_row
      (subst (λ V. ShowsHeads (suc n) (erased V) m) x.is s)

  parts : (N n : ℕ) → n ≤ N → Whole N → (U : Labelled) {q : Place} {a : Level} {j : ℕ} → Normal (erased U) q a j →
      Parts n U
  parts N n l next (var k w) z = spine_parts N n l next (var k w) var_neutral
  parts N n l next (free k w) z = spine_parts N n l next (free k w) free_neutral
  parts N n l next (lam b w) (layer k e) = λ m V r h.
      let x = row_lam r in
      lam_part n b w (parts N n l next b k) m x.body x.row (subst (λ V. ShowsHeads (suc n) (erased V) m) x.is h)
  parts N n l next (lam b w) (flat s) = elim s [ ]
  parts N n l next (app f a w) (flat s) = spine_parts N n l next (app f a w) (spine_neutral (app f a w) s)

  one_place : (N n m : ℕ) → n ≤ N → Whole N → (T V : Labelled) → Row T us V → ShowsHeads (suc n) (erased V) m →
      Shown true (suc n) m T us
  one_place N n m l next T V r s =
      let o = one_by_one r in
      let h = head_labels T V o.degrees o.steps (shown_head s) in
      let k = normal_of h.normal in
      let x = beside_heads h.heads r s in
      let y = parts N n l next h.term k.3 m x.term x.row x.shows in
      record {
        degrees = h.degrees ++ y.degrees;
        by = places.is_asked h.heads k.3 y.by;
        within = appended h.degrees y.degrees us (heads_needed h.heads r (headed V (shown_head s))) y.within;
      }

  no_place : (m : ℕ) (T V : Labelled) → ShowsHeads 0 (erased V) m → Shown true 0 m T us
  no_place m T V not_asked = record { degrees = []; by = places.not_asked; within = λ e i. absurd i }

  whole : (N : ℕ) → Whole N
  whole zero zero m l T V r s = no_place m T V s
  whole zero (suc n) m l T V r s = absurd (omega (arith, l))
  whole (suc N) zero m l T V r s = no_place m T V s
  whole (suc N) (suc n) m l T V r s = one_place N n m (omega (arith, l)) (whole N) T V r s

pub shown : (n m : ℕ) (T V : Labelled) (us : List Label) → Row T us V → ShowsHeads n (erased V) m → Shown true n m T us
shown n m T V us r s = whole us n n m (omega arith) T V r s
