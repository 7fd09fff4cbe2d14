-- A weak head step, and the jumps before it and after it: while a row of jumps doesn't stay in the redex's
-- argument, it is one over the contraction, but for the jumps through the redex, of which no five follow
-- one another.
-- Used in Rules.
use Rattle.std.proofs.Common.{◌≡◌, ℕ, zero, suc, ◌+◌, ◌<◌, ◌≤◌, Bool, true, false, refl, sym, ap, ◌∙◌, subst, arith}
use Rattle.ol_context.specs.Contexts.{Level, o, star, Context, cons}
use Rattle.ol_context.proofs.Contexts.{head_eq, tail_eq}
use Rattle.ol_law_confluence.specs.Reductions.{WeakStep, weak_beta, weak_before}
use Rattle.ol_law_meaning.proofs.LeftmostSteps.{subst_is}
use Rattle.ol_law_meaning.specs.Contraction.{subst_for}
use Rattle.ol_law_meaning.specs.Sites.{Site, spot_in}
use Rattle.ol_law_meaning.specs.Spots.{bound, root, wire, Spot, at, body, fun, arg}
use Rattle.ol_term.specs.Trees.{Tree, lam, app}
use Rattle.ol_term.specs.declared.translations.Translation.{Translation}
use Rattle.ol_law_completeness.specs.StrongNormalisation.{argument}
use Rattle.ol_law_completeness.proofs.Jumps.{Reached, reached_one, Jump, to_body, to_var, to_fun, to_arg, from_body}
use Rattle.ol_law_completeness.proofs.Jumps.{from_var, from_fun, from_arg, in_body, in_fun, in_arg, Ends, ends, Bounded}
use Rattle.ol_law_completeness.proofs.Jumps.{more, stuck, at_root, goes_on, out_of_arg, out_of_fun, function_bounded}
use Rattle.ol_law_completeness.proofs.Putting.{jump_kept, jump_copied}

-- a place of a walk over one term stands for one of a walk over another; so many jumps at most may
-- follow that are none of the other's
abbrev pub Relation : Type 1
Relation = ℕ → Bool → Spot → Bool → Spot → Type 0

pub data Follows (τ : Translation) (u : Tree) (S : Relation) (k : ℕ) (d : Bool) (s : Spot) (e : Bool) (z : Spot) : Type 0 where
  stays : {j : ℕ} → j < k → S j d s e z → Follows τ u S k d s e z
  goes : {j : ℕ} {e' : Bool} {z' : Spot} → j ≤ 4 → Jump τ u e z e' z' → S j d s e' z' → Follows τ u S k d s e z

pub record Simulates (τ : Translation) (t u : Tree) (S : Relation) : Type 0 where
  pub step : {k : ℕ} {d e d' : Bool} {s z s' : Spot} → S k d s e z → Jump τ t d s d' s' → Follows τ u S k d' s' e z
  pub top : (d : Bool) (v : Level) (c : Context) → (k : ℕ) × (k ≤ 4) × S k d (at root v c) d (at root v c)
  pub only : {k : ℕ} {d e : Bool} {v : Level} {c : Context} {z : Spot} → S k d (at root v c) e z →
      (d ≡ e) × (at root v c ≡ z)

-- ---- lengths

module _ {τ : Translation} {t u : Tree} {S : Relation} (sim : Simulates τ t u S) where
  abbrev After : ℕ → ℕ → Bool → Spot → Type 0
  After b k d s = Ends τ t (suc (b + b + b + b + b + k)) d s

  abbrev Rest : ℕ → Bool → Spot → Type 0
  Rest m e z = (e' : Bool) (z' : Spot) → Jump τ u e z e' z' → (k : ℕ) → k ≤ 4 → (d : Bool) (s : Spot) → S k d s e' z' →
      After m k d s

  one : {b m : ℕ} → m < b → {e : Bool} {z : Spot} → Rest m e z → (k : ℕ) →
      ((k' : ℕ) → k' < k → (d : Bool) (s : Spot) → S k' d s e z → After b k' d s) →
      (d : Bool) (s : Spot) → S k d s e z → After b k d s
  one {b} {m} l {e} {z} f k next d s r = ends {m = b + b + b + b + b + k} (omega arith) (λ d' s' i. by (sim.step r i))
    where
      by : {d' : Bool} {s' : Spot} → Follows τ u S k d' s' e z → Ends τ t (b + b + b + b + b + k) d' s'
      by {d'} {s'} (stays {j = k'} g q) = more (omega (arith, g)) (next k' g d' s' q)
      by {d'} {s'} (goes {j = k'} {e' = e'} {z' = z'} g i q) = more (omega (arith, g, l)) (f e' z' i k' g d' s' q)

  later : {b m : ℕ} → m < b → {e : Bool} {z : Spot} → Rest m e z →
      (j k : ℕ) → k ≤ j → (d : Bool) (s : Spot) → S k d s e z → After b k d s
  later l f zero k h = one l f k (λ k' g. absurd (omega (arith, h, g)))
  later l f (suc j) k h = one l f k (λ k' g. later l f j k' (omega (arith, h, g)))

  pub lasts : {b : ℕ} {e : Bool} {z : Spot} → Ends τ u b e z → (k : ℕ) → k ≤ 4 → (d : Bool) (s : Spot) → S k d s e z →
      After b k d s
  lasts (ends l f) k h d s r = later l (λ e' z' i. lasts (f e' z' i)) k k (omega arith) d s r

-- ---- a redex

pub data OfRedex (τ : Translation) (M : Tree) : ℕ → Bool → Spot → Bool → Spot → Type 0 where
  top_in : {v : Level} {c : Context} → OfRedex τ M 4 true (at root v c) true (at root v c)
  top_out : {v : Level} {c : Context} → OfRedex τ M 0 false (at root v c) false (at root v c)
  lam_in : {v : Level} {c : Context} → OfRedex τ M 3 true (fun (at root (o v) c)) true (at root v c)
  lam_out : {v : Level} {c : Context} → OfRedex τ M 1 false (fun (at root (o v) c)) false (at root v c)
  body_in : {s : Spot} → OfRedex τ M 2 true (fun (body s)) true s
  body_out : {s : Spot} → OfRedex τ M 2 false (fun (body s)) false s
  var_out : {w v : Level} {c d : Context} {p : Site} {z : Spot} → Reached τ M (bound 0) w p → c ≡ cons v d →
      z ≡ spot_in p (at root v d) → OfRedex τ M 1 false (fun (at root (star w) c)) true z
  var_in : {w v : Level} {c d : Context} {p : Site} {z : Spot} → Reached τ M (bound 0) w p → c ≡ cons v d →
      z ≡ spot_in p (at root v d) → OfRedex τ M 3 true (fun (at root (star w) c)) false z
  arg_in : {w : Level} {p : Site} {s z : Spot} → Reached τ M (bound 0) w p → z ≡ spot_in p s →
      OfRedex τ M 0 true (arg w s) true z
  arg_out : {w : Level} {p : Site} {s z : Spot} → Reached τ M (bound 0) w p → z ≡ spot_in p s →
      OfRedex τ M 4 false (arg w s) false z

module _ (τ : Translation) (M N : Tree) where
  abbrev Next : ℕ → Bool → Spot → Bool → Spot → Type 0
  Next k d s e z = Follows τ (subst_for 0 N M) (OfRedex τ M) k d s e z

  same_spot : (p : Site) (v u : Level) (c d : Context) → cons v c ≡ cons u d → spot_in p (at root v c) ≡ spot_in p (at root u d)
  same_spot p v u c d e = ap (λ v. spot_in p (at root v c)) (head_eq v u c d e) ∙ ap (λ c. spot_in p (at root u c)) (tail_eq v u c d e)

  in_the_body : {k : ℕ} {d e d' : Bool} {s z s' : Spot} → OfRedex τ M k d (fun (body s)) e z → Jump τ M d s d' s' →
      Next k d' (fun (body s')) e z
  in_the_body {d' = true} body_in j = goes (omega arith) (jump_kept N 0 j) body_in
  in_the_body {d' = false} body_in j = goes (omega arith) (jump_kept N 0 j) body_out
  in_the_body {d' = true} body_out j = goes (omega arith) (jump_kept N 0 j) body_in
  in_the_body {d' = false} body_out j = goes (omega arith) (jump_kept N 0 j) body_out

  in_the_lam : {k : ℕ} {d e d' : Bool} {s z s' : Spot} → OfRedex τ M k d (fun s) e z → Jump τ (lam M) d s d' s' →
      Next k d' (fun s') e z
  in_the_lam lam_in to_body = stays (omega arith) body_in
  in_the_lam {z = z} (var_in {v = v} {c = c} {d = d} {p = p} r e q) (to_var {v = v'} {d = d'} {p = p'} {s = s} r' e' q') =
      let g : z ≡ s = q ∙ ap (λ p. spot_in p (at root v d)) (reached_one r r')
      ∙ same_spot p' v v' d d' (sym e ∙ e') ∙ sym q' in
      subst (λ s. Next 3 false (fun (body s)) false z) g (stays (omega arith) body_out)
  in_the_lam body_out from_body = stays (omega arith) lam_out
  in_the_lam body_in (from_var r e q) = stays (omega arith) (var_out r e q)
  in_the_lam r (in_body j) = in_the_body r j

  in_the_arg : {k : ℕ} {d e d' : Bool} {w : Level} {s z s' : Spot} → OfRedex τ M k d (arg w s) e z → Jump τ N d s d' s' →
      Next k d' (arg w s') e z
  in_the_arg {d = d} {d' = d'} {s = s} {z = z} {s' = s'} (arg_in {p = p} r q) j =
      let i = subst (λ z. Jump τ (subst_for 0 N M) true z d' (spot_in p s')) (sym q) (jump_copied N r j) in by d' i r
    where
      by : (d' : Bool) → Jump τ (subst_for 0 N M) true z d' (spot_in p s') → {w : Level} → Reached τ M (bound 0) w p →
          Next 0 d' (arg w s') true z
      by true i r = goes (omega arith) i (arg_in r refl)
      by false i r = goes (omega arith) i (arg_out r refl)
  in_the_arg {d = d} {d' = d'} {s = s} {z = z} {s' = s'} (arg_out {p = p} r q) j =
      let i = subst (λ z. Jump τ (subst_for 0 N M) false z d' (spot_in p s')) (sym q) (jump_copied N r j) in by d' i r
    where
      by : (d' : Bool) → Jump τ (subst_for 0 N M) false z d' (spot_in p s') → {w : Level} → Reached τ M (bound 0) w p →
          Next 4 d' (arg w s') false z
      by true i r = goes (omega arith) i (arg_in r refl)
      by false i r = goes (omega arith) i (arg_out r refl)

  redex_step : {k : ℕ} {d e d' : Bool} {s z s' : Spot} → OfRedex τ M k d s e z → Jump τ (app (lam M) N) d s d' s' →
      Next k d' s' e z
  redex_step top_in to_fun = stays (omega arith) lam_in
  redex_step lam_out from_fun = stays (omega arith) top_out
  redex_step {z = z} (var_out {v = v} {d = d} {p = p} r e q) (to_arg {u = u} {d = d'} e') =
      stays (omega arith) (arg_in r (q ∙ same_spot p v u d d' (sym e ∙ e')))
  redex_step (arg_out r q) (from_arg e) = stays (omega arith) (var_in r e q)
  redex_step r (in_fun j) = in_the_lam r j
  redex_step r (in_arg j) = in_the_arg r j

  redex_top : (d : Bool) (v : Level) (c : Context) → (k : ℕ) × (k ≤ 4) × OfRedex τ M k d (at root v c) d (at root v c)
  redex_top true v c = (4, omega arith, top_in)
  redex_top false v c = (0, omega arith, top_out)

  redex_only : {k : ℕ} {d e : Bool} {v : Level} {c : Context} {z : Spot} → OfRedex τ M k d (at root v c) e z →
      (d ≡ e) × (at root v c ≡ z)
  redex_only top_in = (refl, refl)
  redex_only top_out = (refl, refl)

  pub of_redex : Simulates τ (app (lam M) N) (subst_for 0 N M) (OfRedex τ M)
  of_redex = record { step = redex_step; top = redex_top; only = redex_only }

-- ---- before an argument

pub data Before (S : Relation) : ℕ → Bool → Spot → Bool → Spot → Type 0 where
  on_top : {d : Bool} {v : Level} {c : Context} → Before S 0 d (at root v c) d (at root v c)
  in_function : {k : ℕ} {d e : Bool} {s z : Spot} → S k d s e z → Before S k d (fun s) e (fun z)
  in_argument : {d : Bool} {v : Level} {s : Spot} → Before S 0 d (arg v s) d (arg v s)

module _ {τ : Translation} {R R' : Tree} (P : Tree) {S : Relation} (sim : Simulates τ R R' S) where
  abbrev There : ℕ → Bool → Spot → Bool → Spot → Type 0
  There k d s e z = Follows τ (app R' P) (Before S) k d s e z

  lifted : {k : ℕ} {d e : Bool} {s z : Spot} → Follows τ R' S k d s e z → There k d (fun s) e (fun z)
  lifted (stays l r) = stays l (in_function r)
  lifted (goes l j r) = goes l (in_fun j) (in_function r)

  into : {j : ℕ} (e d : Bool) (z : Spot) (v : Level) (c : Context) → Jump τ (app R' P) e z d (fun (at root v c)) →
      There j d (fun (at root v c)) e z
  into e d z v c i = let r = sim.top d v c in goes r.1 i (in_function r.2)

  before_step : {k : ℕ} {d e d' : Bool} {s z s' : Spot} → Before S k d s e z → Jump τ (app R P) d s d' s' →
      There k d' s' e z
  before_step on_top (to_fun {v = v} {c = c}) = into true true (at root v c) (o v) c to_fun
  before_step (in_function r) (in_fun j) = lifted (sim.step r j)
  before_step {k} {e = e} (in_function {z = z} r) (from_fun {v = v} {c = c}) =
      let h = sim.only r in
      subst (λ e. There k false (at root v c) e (fun z)) h.0
      (subst (λ z. There k false (at root v c) false (fun z)) h.1 (goes (omega arith) from_fun on_top))
  before_step {k} {e = e} (in_function {z = z} r) (to_arg {v = v} {u = u} {d = d} q) =
      let h = sim.only r in
      subst (λ e. There k true (arg v (at root u d)) e (fun z)) h.0
      (subst (λ z. There k true (arg v (at root u d)) false (fun z)) h.1 (goes (omega arith) (to_arg q) in_argument))
  before_step in_argument (in_arg j) = goes (omega arith) (in_arg j) in_argument
  before_step in_argument (from_arg {v = v} {u = u} {c = c} {d = d} q) =
      into false true (arg v (at root u d)) (star v) c (from_arg q)

  before_only : {k : ℕ} {d e : Bool} {v : Level} {c : Context} {z : Spot} → Before S k d (at root v c) e z →
      (d ≡ e) × (at root v c ≡ z)
  before_only on_top = (refl, refl)

  pub of_before : Simulates τ (app R P) (app R' P) (Before S)
  of_before = record {
    step = before_step;
    top = λ d v c. (0, omega arith, on_top);
    only = before_only;
  }

-- ---- where walks over the contraction and over the argument are bounded, those over the term are

abbrev room : ℕ → ℕ
room b = suc (b + b + b + b + b + 4)

module _ {τ : Translation} where
  within : {t u : Tree} {S : Relation} → Simulates τ t u S → (w : Bounded τ u) → {k : ℕ} {d e : Bool} {s z : Spot} →
      k ≤ 4 → S k d s e z → Ends τ t (room w.number) d s
  within sim w {k} {d} {e} {s} {z} h r = more (omega (arith, h)) (lasts sim (w.all e z) k h d s r)

  -- from the root of the abstraction of a redex
  into_lam : {M N : Tree} {C : ℕ} → ((d : Bool) (s : Spot) → Ends τ (app (lam M) N) C d (fun (body s))) →
      {v : Level} {c : Context} {e : Bool} {z : Spot} → Jump τ (app (lam M) N) true (fun (at root v c)) e z →
      Ends τ (app (lam M) N) C e z
  into_lam h (in_fun (to_body {v = v} {c = c})) = h true (at root v c)
  into_lam h (in_fun (to_var {s = s} r e q)) = h false s

  out_of_lam : {M N : Tree} {C : ℕ} → ((v : Level) (c : Context) → Ends τ (app (lam M) N) C false (at root v c)) →
      ((w v : Level) (c : Context) → Ends τ (app (lam M) N) C true (arg w (at root v c))) →
      {v : Level} {c : Context} {e : Bool} {z : Spot} → Jump τ (app (lam M) N) false (fun (at root v c)) e z →
      Ends τ (app (lam M) N) C e z
  out_of_lam h h' (from_fun {v = v} {c = c}) = h v c
  out_of_lam h h' (to_arg {v = v} {u = u} {d = d} q) = h' v u d
  out_of_lam h h' (in_fun j) = absurd (goes_on j)

  -- a redex
  module _ (M N : Tree) (w : Bounded τ (subst_for 0 N M)) (b : Bounded τ N) where
    abbrev T : Tree
    T = app (lam M) N

    abbrev C : ℕ
    C = room w.number

    abbrev K : ℕ
    K = suc (b.number + suc C)

    related : {k : ℕ} {d e : Bool} {s z : Spot} → k ≤ 4 → OfRedex τ M k d s e z → Ends τ T C d s
    related h r = within (of_redex τ M N) w h r

    of_body : (d : Bool) (s : Spot) → Ends τ T C d (fun (body s))
    of_body true s = related (omega arith) (body_in {s = s})
    of_body false s = related (omega arith) (body_out {s = s})

    of_lam : (v : Level) (c : Context) → Ends τ T (suc C) true (fun (at root v c))
    of_lam v c = ends {m = C} (omega arith) (λ e z j. into_lam of_body j)

    of_argument : (d : Bool) (v : Level) (s : Spot) → Ends τ T (b.number + suc C) d (arg v s)
    of_argument d v s = out_of_arg (suc C) (λ v c. of_lam (star v) c) v (b.all d s)

    of_top : (d : Bool) (v : Level) (c : Context) → Ends τ T (b.number + suc C) d (at root v c)
    of_top true v c = more (omega arith) (related (omega arith) (top_in {v = v} {c = c}))
    of_top false v c = more (omega arith) (related (omega arith) (top_out {v = v} {c = c}))

    of_fun : (d : Bool) (s : Spot) → Ends τ T K d (fun s)
    of_fun true (at root v c) = more (omega arith) (of_lam v c)
    of_fun false (at root v c) =
        ends {m = b.number + suc C} (omega arith) (λ e z j. out_of_lam (of_top false) (of_argument') j)
      where
        of_argument' : (w v : Level) (c : Context) → Ends τ T (b.number + suc C) true (arg w (at root v c))
        of_argument' w v c = of_argument true w (at root v c)
    of_fun d (body s) = more (omega arith) (of_body d s)
    of_fun d (at (wire y) v c) = stuck (λ e z j. at_root j)
    of_fun d (fun s) = stuck (λ e z j. at_root j)
    of_fun d (arg v s) = stuck (λ e z j. at_root j)

    of_all : (d : Bool) (s : Spot) → Ends τ T K d s
    of_all d (at root v c) = more (omega arith) (of_top d v c)
    of_all d (at (wire y) v c) = stuck (λ e z j. at_root j)
    of_all d (body s) = stuck (λ e z j. at_root j)
    of_all d (fun s) = of_fun d s
    of_all d (arg v s) = more (omega arith) (of_argument d v s)

    pub redex_bounded : Bounded τ (app (lam M) N)
    redex_bounded = record { number = K; all = of_all }

  -- a term, before an argument
  module _ (R R' P : Tree) {S : Relation} (sim : Simulates τ R R' S) (w : Bounded τ (app R' P)) (b : Bounded τ R) where
    abbrev D : ℕ
    D = room w.number

    same_there : {k : ℕ} {d e : Bool} {s z : Spot} → k ≤ 4 → Before S k d s e z → Ends τ (app R P) D d s
    same_there h r = within (of_before P sim) w h r

    before_all : (d : Bool) (s : Spot) → Ends τ (app R P) (b.number + suc D) d s
    before_all d (at root v c) = more (omega arith) (same_there (omega arith) on_top)
    before_all d (at (wire y) v c) = more (omega arith) (stuck {n = D} (λ e z j. at_root j))
    before_all d (body s) = more (omega arith) (stuck {n = D} (λ e z j. at_root j))
    before_all d (fun s) = out_of_fun D (λ v u c. same_there (omega arith) in_argument) (b.all d s)
    before_all d (arg v s) = more (omega arith) (same_there (omega arith) in_argument)

    pub before_bounded : Bounded τ (app R P)
    before_bounded = record { number = b.number + suc D; all = before_all }

-- a relation of a term and of what a weak head step makes of it; and the bound
pub record Stepped (τ : Translation) (t u a : Tree) : Type 1 where
  pub relation : Relation
  pub simulates : Simulates τ t u relation
  pub bounded : Bounded τ a → Bounded τ u → Bounded τ t

pub stepped : {τ : Translation} {t u : Tree} (h : WeakStep t u) → Stepped τ t u (argument h)
stepped {τ} (weak_beta {M = M} {N = N}) =
    subst (λ u. Stepped τ (app (lam M) N) u N) (subst_is M N 0) (record {
      relation = OfRedex τ M;
      simulates = of_redex τ M N;
      bounded = λ b w. redex_bounded M N w b;
    })
stepped {τ} (weak_before {M = M} {M' = M'} {N = N} h) =
    let r = stepped {τ = τ} h in
    record {
      relation = Before r.relation;
      simulates = of_before N r.simulates;
      bounded = λ b w. before_bounded M M' N r.simulates w (r.bounded b (function_bounded w));
    }
