-- Walks over a term that the rules build are bounded.
-- Used in Bounding.
use Rattle.std.proofs.Common.{◌≡◌, ℕ, suc, ◌+◌, Bool, true, false, refl, sym, subst, arith}
use Rattle.ol_context.specs.Contexts.{Level, o, star, Context}
use Rattle.ol_law_meaning.specs.Spots.{root, wire, Spot, at, body, fun, arg}
use Rattle.ol_term.specs.Trees.{Tree, var, free, lam, app}
use Rattle.ol_term.specs.declared.translations.Translation.{Translation}
use Rattle.ol_law_completeness.specs.StrongNormalisation.{Normalises, of_var, of_free, of_app, plain, of_lam, of_redex}
use Rattle.ol_law_completeness.proofs.Jumps.{Jump, to_body, to_var, to_fun, in_fun, Ends, ends, Bounded, more, stuck}
use Rattle.ol_law_completeness.proofs.Jumps.{at_node, at_root, out_of_body, out_of_fun, out_of_arg}
use Rattle.ol_law_completeness.proofs.Redexes.{stepped}

-- the applications before a head, from the root on
data OnSpine : Tree → Spot → Type 0 where
  first : {t : Tree} {v : Level} {c : Context} → OnSpine t (at root v c)
  next : {R P : Tree} {s : Spot} → OnSpine R s → OnSpine (app R P) (fun s)

-- from a variable's or a name's root, before arguments, walks only go on to the head
record Straight (τ : Translation) (t : Tree) : Type 0 where
  on : {s : Spot} → OnSpine t s → {e : Bool} {z : Spot} → Jump τ t true s e z → (true ≡ e) × OnSpine t z
  steps : ℕ
  ends_ : {s : Spot} → OnSpine t s → Ends τ t steps true s

module _ {τ : Translation} where
  var_bounded : (y : ℕ) → Bounded τ (var y)
  var_bounded y = record { number = 1; all = λ d s. stuck (λ e z j. at_node j) }

  free_bounded : (f : ℕ) → Bounded τ (free f)
  free_bounded f = record { number = 1; all = λ d s. stuck (λ e z j. at_node j) }

  var_straight : (y : ℕ) → Straight τ (var y)
  var_straight y = record { on = λ h j. absurd (at_node j); steps = 1; ends_ = λ h. stuck (λ e z j. at_node j) }

  free_straight : (f : ℕ) → Straight τ (free f)
  free_straight f = record { on = λ h j. absurd (at_node j); steps = 1; ends_ = λ h. stuck (λ e z j. at_node j) }

  -- ---- an abstraction

  lam_next : {M : Tree} {m : ℕ} → ((d : Bool) (s : Spot) → Ends τ (lam M) m d (body s)) → {v : Level} {c : Context}
      {d e : Bool} {z : Spot} → Jump τ (lam M) d (at root v c) e z → Ends τ (lam M) m e z
  lam_next h (to_body {v = v} {c = c}) = h true (at root v c)
  lam_next h (to_var {s = s} r e q) = h false s

  module _ (M : Tree) (w : Bounded τ M) where
    of_body : (d : Bool) (s : Spot) → Ends τ (lam M) (suc w.number) d (body s)
    of_body d s = out_of_body (w.all d s)

    lam_all : (d : Bool) (s : Spot) → Ends τ (lam M) (suc (suc w.number)) d s
    lam_all d (at root v c) = ends {m = suc w.number} (omega arith) (λ e z j. lam_next of_body j)
    lam_all d (at (wire y) v c) = stuck (λ e z j. at_root j)
    lam_all d (body s) = more (omega arith) (of_body d s)
    lam_all d (fun s) = stuck (λ e z j. at_root j)
    lam_all d (arg v s) = stuck (λ e z j. at_root j)

  -- ---- an application before whose argument a variable or a name stands

  module _ (R P : Tree) (f : Straight τ R) where
    spine_on : {s : Spot} → OnSpine (app R P) s → {e : Bool} {z : Spot} → Jump τ (app R P) true s e z →
        (true ≡ e) × OnSpine (app R P) z
    spine_on first to_fun = (refl, next first)
    spine_on (next h) (in_fun j) = let r = f.on h j in (r.0, next r.1)

  spine_next : {R P : Tree} (f : Straight τ R) {m : ℕ} {s : Spot} → OnSpine R s →
      ((z : Spot) → OnSpine R z → Jump τ R true s true z → Ends τ (app R P) m true (fun z)) →
      {e : Bool} {z : Spot} → Jump τ (app R P) true (fun s) e z → Ends τ (app R P) m e z
  spine_next {R} {P} f {m} {s} h go (in_fun {e = e} {z = z} j) =
      let r = f.on h j in
      subst (λ e. Ends τ (app R P) m e (fun z)) r.0 (go z r.1 (subst (λ e. Jump τ R true s e z) (sym r.0) j))

  along : {R P : Tree} (f : Straight τ R) {n : ℕ} {d : Bool} {s : Spot} → Ends τ R n d s → true ≡ d → OnSpine R s →
      Ends τ (app R P) n d (fun s)
  along {R} {P} f {d = d} {s = s} (ends {n = n} {m = m} l g) q h =
      subst (λ d. Ends τ (app R P) n d (fun s)) q
      (ends l (λ e z j. spine_next f h (λ z k i. along f (g true z (subst (λ d. Jump τ R d s true z) q i)) refl k) j))

  top_next : {R P : Tree} {m : ℕ} → ((v : Level) (c : Context) → Ends τ (app R P) m true (fun (at root v c))) →
      {v : Level} {c : Context} {d e : Bool} {z : Spot} → Jump τ (app R P) d (at root v c) e z → Ends τ (app R P) m e z
  top_next h (to_fun {v = v} {c = c}) = h (o v) c

  module _ (R P : Tree) (f : Straight τ R) where
    from_fun_root : (v : Level) (c : Context) → Ends τ (app R P) f.steps true (fun (at root v c))
    from_fun_root v c = along f (f.ends_ first) refl first

    from_root : (d : Bool) (v : Level) (c : Context) → Ends τ (app R P) (suc f.steps) d (at root v c)
    from_root d v c = ends {m = f.steps} (omega arith) (λ e z j. top_next from_fun_root j)

    spine_ends : {s : Spot} → OnSpine (app R P) s → Ends τ (app R P) (suc f.steps) true s
    spine_ends (first {v = v} {c = c}) = from_root true v c
    spine_ends (next h) = more (omega arith) (along f (f.ends_ h) refl h)

    app_straight : Straight τ (app R P)
    app_straight = record { on = λ h j. spine_on R P f h j; steps = suc f.steps; ends_ = spine_ends }

    module _ (w : Bounded τ R) (w' : Bounded τ P) where
      abbrev A : ℕ
      A = w'.number + f.steps

      of_arg : (d : Bool) (v : Level) (s : Spot) → Ends τ (app R P) A d (arg v s)
      of_arg d v s = out_of_arg f.steps (λ v c. from_fun_root (star v) c) v (w'.all d s)

      abbrev B : ℕ
      B = suc (w.number + suc A)

      app_all : (d : Bool) (s : Spot) → Ends τ (app R P) B d s
      app_all d (at root v c) = more (omega arith) (from_root d v c)
      app_all d (at (wire y) v c) = stuck (λ e z j. at_root j)
      app_all d (body s) = stuck (λ e z j. at_root j)
      app_all d (fun s) = more (omega arith) (out_of_fun A (λ v u c. of_arg true v (at root u c)) (w.all d s))
      app_all d (arg v s) = more (omega arith) (of_arg d v s)

-- ---- the rules

abbrev Built : Translation → Bool → Tree → Type 0
Built τ true t = Bounded τ t × Straight τ t
Built τ false t = Bounded τ t

built : (τ : Translation) {b : Bool} {t : Tree} → Normalises b t → Built τ b t
built τ (of_var {y = y}) = (var_bounded y, var_straight y)
built τ (of_free {f = f}) = (free_bounded f, free_straight f)
built τ (of_app {M = M} {N = N} r s) =
    let a = built τ r in
    let w = built τ s in
    (record { number = B M N a.1 a.0 w; all = app_all M N a.1 a.0 w }, app_straight M N a.1)
built τ (plain r) = (built τ r).0
built τ (of_lam {M = M} r) =
    let w = built τ r in record { number = suc (suc w.number); all = lam_all M w }
built τ (of_redex h r s) = (stepped {τ = τ} h).bounded (built τ r) (built τ s)

pub walks_bounded : (τ : Translation) (t : Tree) → Normalises false t → Bounded τ t
walks_bounded τ t h = built τ h
