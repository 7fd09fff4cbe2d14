-- Walks over a term from root to root: each jump goes into a part by its root or comes out of it, and
-- goes along the wire of a variable, from its abstraction to an occurrence or back, at once.
-- Used in Putting, Redexes, Rules, Hops and the walks over the net.
use Rattle.std.proofs.Common.{◌≡◌, ℕ, suc, ◌+◌, ◌<◌, ◌≤◌, Bool, true, false, refl, sym, ap, ◌∙◌, subst, arith}
use Rattle.std.proofs.lemmas.Bool.{or_left, or_right}
use Rattle.ol_context.specs.Contexts.{Level, empty, o, star, Context, cons}
use Rattle.ol_law_meaning.proofs.Addresses.{left_one, right_one, sides_apart}
use Rattle.ol_law_meaning.proofs.Lifts.{same_is}
use Rattle.ol_law_meaning.specs.Sites.{Site, self, in_lam, in_function, in_argument, spot_in}
use Rattle.ol_law_meaning.specs.Spots.{Wire, bound, name, under, occurs, left, IsRight, root, wire, Spot, at, body, fun}
use Rattle.ol_law_meaning.specs.Spots.{arg}
use Rattle.ol_term.specs.Trees.{Tree, var, free, lam, app}
use Rattle.ol_term.specs.declared.translations.Translation.{Translation}

-- the occurrence of a variable to which its wire leads with this level 0
pub data Reached (τ : Translation) : Tree → Wire → Level → Site → Type 0 where
  at_var : {y : ℕ} → Reached τ (var y) (bound y) empty self
  at_name : {f : ℕ} → Reached τ (free f) (name f) empty self
  by_lam : {M : Tree} {y : Wire} {a : Level} {p : Site} → Reached τ M (under y) a p →
      Reached τ (lam M) y a (in_lam p)
  by_fun : {M N : Tree} {y : Wire} {a w : Level} {p : Site} → Reached τ M y a p →
      w ≡ left N y a → Reached τ (app M N) y w (in_function p)
  by_arg : {M N : Tree} {y : Wire} {b v w : Level} {p : Site} → Reached τ N y b p →
      IsRight τ M N y b v w → Reached τ (app M N) y w (in_argument v p)

-- true: into the part whose root stands at the spot; false: out of it
pub data Jump (τ : Translation) : Tree → Bool → Spot → Bool → Spot → Type 0 where
  to_body : {M : Tree} {v : Level} {c : Context} →
      Jump τ (lam M) true (at root (o v) c) true (body (at root v c))
  to_var : {M : Tree} {a v : Level} {c d : Context} {p : Site} {s : Spot} →
      Reached τ M (bound 0) a p → c ≡ cons v d → s ≡ spot_in p (at root v d) →
      Jump τ (lam M) true (at root (star a) c) false (body s)
  to_fun : {M N : Tree} {v : Level} {c : Context} →
      Jump τ (app M N) true (at root v c) true (fun (at root (o v) c))
  to_arg : {M N : Tree} {v u : Level} {c d : Context} → c ≡ cons u d →
      Jump τ (app M N) false (fun (at root (star v) c)) true (arg v (at root u d))
  from_body : {M : Tree} {v : Level} {c : Context} →
      Jump τ (lam M) false (body (at root v c)) false (at root (o v) c)
  from_var : {M : Tree} {a v : Level} {c d : Context} {p : Site} {s : Spot} →
      Reached τ M (bound 0) a p → c ≡ cons v d → s ≡ spot_in p (at root v d) →
      Jump τ (lam M) true (body s) false (at root (star a) c)
  from_fun : {M N : Tree} {v : Level} {c : Context} →
      Jump τ (app M N) false (fun (at root (o v) c)) false (at root v c)
  from_arg : {M N : Tree} {v u : Level} {c d : Context} → c ≡ cons u d →
      Jump τ (app M N) false (arg v (at root u d)) true (fun (at root (star v) c))
  in_body : {M : Tree} {d e : Bool} {s z : Spot} → Jump τ M d s e z →
      Jump τ (lam M) d (body s) e (body z)
  in_fun : {M N : Tree} {d e : Bool} {s z : Spot} → Jump τ M d s e z →
      Jump τ (app M N) d (fun s) e (fun z)
  in_arg : {M N : Tree} {v : Level} {d e : Bool} {s z : Spot} → Jump τ N d s e z →
      Jump τ (app M N) d (arg v s) e (arg v z)

-- it pushes a mark; else it pops one
abbrev pub pushes : {τ : Translation} {t : Tree} {d e : Bool} {s z : Spot} → Jump τ t d s e z → Bool
pushes to_body = false
pushes (to_var r e q) = false
pushes to_fun = true
pushes (to_arg e) = false
pushes from_body = true
pushes (from_var r e q) = true
pushes from_fun = false
pushes (from_arg e) = true
pushes (in_body j) = pushes j
pushes (in_fun j) = pushes j
pushes (in_arg j) = pushes j

-- each row of jumps from here has fewer than n of them
pub data Ends (τ : Translation) (t : Tree) : ℕ → Bool → Spot → Type 0 where
  ends : {n m : ℕ} {d : Bool} {s : Spot} → m < n →
      ((e : Bool) (z : Spot) → Jump τ t d s e z → Ends τ t m e z) → Ends τ t n d s

-- each row of jumps over the term has
pub record Bounded (τ : Translation) (t : Tree) : Type 0 where
  pub number : ℕ
  pub all : (d : Bool) (s : Spot) → Ends τ t number d s

module _ {τ : Translation} where
  pub reached_occurs : {M : Tree} {y : Wire} {a : Level} {p : Site} → Reached τ M y a p → occurs y M ≡ true
  reached_occurs (at_var {y = y}) = same_is y
  reached_occurs (at_name {f = f}) = same_is f
  reached_occurs (by_lam r) = reached_occurs r
  reached_occurs {y = y} (by_fun {M = M} {N = N} r e) = or_left (occurs y M) (occurs y N) (reached_occurs r)
  reached_occurs {y = y} (by_arg {M = M} {N = N} r e) = or_right (occurs y M) (occurs y N) (reached_occurs r)

  -- it is one
  two_reached : {M : Tree} {y z : Wire} {a a' : Level} {p q : Site} → Reached τ M y a p → Reached τ M z a' q →
      y ≡ z → a ≡ a' → p ≡ q
  two_reached at_var at_var g e = refl
  two_reached at_name at_name g e = refl
  two_reached (by_lam r) (by_lam k) g e = ap in_lam (two_reached r k (ap under g) e)
  two_reached {y = y} (by_fun {M = M} {N = N} {a = a} r e) (by_fun {a = b} k f) g h =
      ap in_function (two_reached r k g (left_one N y a b (sym e ∙ h ∙ f ∙ ap (λ y. left N y b) (sym g))))
  two_reached {y = y} (by_fun {M = M} {N = N} {a = a} r e) (by_arg {b = b} {v = v} {w = w} k f) g h =
      absurd (sides_apart M N y a b v (reached_occurs r) (subst (λ y. occurs y N ≡ true) (sym g) (reached_occurs k))
      (sym h ∙ e) (subst (λ y. IsRight τ M N y b v w) (sym g) f))
  two_reached {y = y} (by_arg {M = M} {N = N} {b = b} {v = v} r f) (by_fun {a = a} k e) g h =
      absurd (sides_apart M N y a b v (subst (λ y. occurs y M ≡ true) (sym g) (reached_occurs k)) (reached_occurs r)
      (h ∙ e ∙ ap (λ y. left N y a) (sym g)) f)
  two_reached {y = y} (by_arg {M = M} {N = N} {b = b} {v = v} r e) (by_arg {b = b'} {v = v'} {w = w'} {p = p'} k f) g h =
      let q = right_one e (subst (λ y. IsRight τ M N y b' v' w') (sym g) f) h in
      ap (in_argument v) (two_reached r k g q.0) ∙ ap (λ v. in_argument v p') q.1

  pub reached_one : {M : Tree} {y : Wire} {a : Level} {p q : Site} → Reached τ M y a p → Reached τ M y a q → p ≡ q
  reached_one r k = two_reached r k refl refl

  pub more : {t : Tree} {n m : ℕ} {d : Bool} {s : Spot} → n ≤ m → Ends τ t n d s → Ends τ t m d s
  more h (ends l f) = ends (omega (arith, l, h)) f

  pub stuck : {t : Tree} {n : ℕ} {d : Bool} {s : Spot} → ((e : Bool) (z : Spot) → Jump τ t d s e z → ⊥) →
      Ends τ t (suc n) d s
  stuck h = ends {m = 0} (omega arith) (λ e z j. absurd (h e z j))

-- ---- where no jump begins

abbrev pub IsNode : Tree → Type 0
IsNode (var y) = ⊥
IsNode (free f) = ⊥
IsNode (lam M) = Unit {0}
IsNode (app M N) = Unit {0}

abbrev pub IsRoot : Tree → Spot → Type 0
IsRoot t (at root v c) = Unit {0}
IsRoot t (at (wire y) v c) = ⊥
IsRoot (lam M) (body s) = Unit {0}
IsRoot (app M N) (fun s) = IsRoot M s
IsRoot (app M N) (arg v s) = Unit {0}
IsRoot (var y) (body s) = ⊥
IsRoot (var y) (fun s) = ⊥
IsRoot (var y) (arg v s) = ⊥
IsRoot (free f) (body s) = ⊥
IsRoot (free f) (fun s) = ⊥
IsRoot (free f) (arg v s) = ⊥
IsRoot (lam M) (fun s) = ⊥
IsRoot (lam M) (arg v s) = ⊥
IsRoot (app M N) (body s) = ⊥

abbrev pub GoesOn : Bool → Spot → Type 0
GoesOn true s = Unit {0}
GoesOn false (at p v c) = ⊥
GoesOn false (body s) = Unit {0}
GoesOn false (fun s) = Unit {0}
GoesOn false (arg v s) = Unit {0}

module _ {τ : Translation} where
  pub at_node : {t : Tree} {d e : Bool} {s z : Spot} → Jump τ t d s e z → IsNode t
  at_node to_body = tt
  at_node (to_var r e q) = tt
  at_node to_fun = tt
  at_node (to_arg e) = tt
  at_node from_body = tt
  at_node (from_var r e q) = tt
  at_node from_fun = tt
  at_node (from_arg e) = tt
  at_node (in_body j) = tt
  at_node (in_fun j) = tt
  at_node (in_arg j) = tt

  pub at_root : {t : Tree} {d e : Bool} {s z : Spot} → Jump τ t d s e z → IsRoot t s
  at_root to_body = tt
  at_root (to_var r e q) = tt
  at_root to_fun = tt
  at_root (to_arg e) = tt
  at_root from_body = tt
  at_root (from_var r e q) = tt
  at_root from_fun = tt
  at_root (from_arg e) = tt
  at_root (in_body j) = tt
  at_root (in_fun j) = at_root j
  at_root (in_arg j) = tt

  pub goes_on : {t : Tree} {d e : Bool} {s z : Spot} → Jump τ t d s e z → GoesOn d s
  goes_on to_body = tt
  goes_on (to_var r e q) = tt
  goes_on to_fun = tt
  goes_on (to_arg e) = tt
  goes_on from_body = tt
  goes_on (from_var r e q) = tt
  goes_on from_fun = tt
  goes_on (from_arg e) = tt
  goes_on {d = true} (in_body j) = tt
  goes_on {d = false} (in_body j) = tt
  goes_on {d = true} (in_fun j) = tt
  goes_on {d = false} (in_fun j) = tt
  goes_on {d = true} (in_arg j) = tt
  goes_on {d = false} (in_arg j) = tt

  -- out of an argument, where what follows ends
  arg_next : {R P : Tree} {C : ℕ} (m : ℕ) → ((v : Level) (c : Context) → Ends τ (app R P) C true (fun (at root (star v) c))) →
      {d e : Bool} {v : Level} {s z : Spot} → ((e : Bool) (z : Spot) → Jump τ P d s e z → Ends τ (app R P) (m + C) e (arg v z)) →
      Jump τ (app R P) d (arg v s) e z → Ends τ (app R P) (m + C) e z
  arg_next m h next (in_arg {e = e} {z = z} j) = next e z j
  arg_next m h next (from_arg {v = v} {c = c} q) = more (omega arith) (h v c)

  pub out_of_arg : {R P : Tree} (C : ℕ) → ((v : Level) (c : Context) → Ends τ (app R P) C true (fun (at root (star v) c))) →
      {n : ℕ} {d : Bool} {s : Spot} (v : Level) → Ends τ P n d s → Ends τ (app R P) (n + C) d (arg v s)
  out_of_arg C h v (ends {m = m} l f) =
      ends {m = m + C} (omega (arith, l)) (λ e z j. arg_next m h (λ e z j. out_of_arg C h v (f e z j)) j)

  -- and out of a function
  fun_next : {R P : Tree} {C : ℕ} (m : ℕ) → ((v u : Level) (c : Context) → Ends τ (app R P) C true (arg v (at root u c))) →
      {d e : Bool} {s z : Spot} → ((e : Bool) (z : Spot) → Jump τ R d s e z → Ends τ (app R P) (m + suc C) e (fun z)) →
      Jump τ (app R P) d (fun s) e z → Ends τ (app R P) (m + suc C) e z
  fun_next m h next (in_fun {e = e} {z = z} j) = next e z j
  fun_next {C = C} m h next from_fun = more (omega arith) (stuck {n = C} (λ e z j. goes_on j))
  fun_next m h next (to_arg {v = v} {u = u} {d = d} q) = more (omega arith) (h v u d)

  pub out_of_fun : {R P : Tree} (C : ℕ) → ((v u : Level) (c : Context) → Ends τ (app R P) C true (arg v (at root u c))) →
      {n : ℕ} {d : Bool} {s : Spot} → Ends τ R n d s → Ends τ (app R P) (n + suc C) d (fun s)
  out_of_fun C h (ends {m = m} l f) =
      ends {m = m + suc C} (omega (arith, l)) (λ e z j. fun_next m h (λ e z j. out_of_fun C h (f e z j)) j)

  -- and out of a body
  body_next : {M : Tree} {m : ℕ} {d e : Bool} {s z : Spot} →
      ((e : Bool) (z : Spot) → Jump τ M d s e z → Ends τ (lam M) (suc m) e (body z)) →
      Jump τ (lam M) d (body s) e z → Ends τ (lam M) (suc m) e z
  body_next next (in_body {e = e} {z = z} j) = next e z j
  body_next next from_body = stuck (λ e z j. goes_on j)
  body_next next (from_var r e q) = stuck (λ e z j. goes_on j)

  pub out_of_body : {M : Tree} {n : ℕ} {d : Bool} {s : Spot} → Ends τ M n d s → Ends τ (lam M) (suc n) d (body s)
  out_of_body (ends {m = m} l f) =
      ends {m = suc m} (omega (arith, l)) (λ e z j. body_next (λ e z j. out_of_body (f e z j)) j)

  -- a function's walks are the application's
  of_function : {R P : Tree} {n : ℕ} {d : Bool} {s : Spot} → Ends τ (app R P) n d (fun s) → Ends τ R n d s
  of_function (ends l f) = ends l (λ e z j. of_function (f e (fun z) (in_fun j)))

  pub function_bounded : {R P : Tree} → Bounded τ (app R P) → Bounded τ R
  function_bounded w = record { number = w.number; all = λ d s. of_function (w.all d (fun s)) }
