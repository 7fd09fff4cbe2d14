-- Jumps over a labelled term, with what they push or pop and what they cost; and ages of what was pushed.
-- Used in Short, Simulating, Plain and Circling.
use Rattle.std.proofs.Common.{◌≡◌, ℕ, suc, ◌+◌, ◌≤◌, Bool, true, false, Some, List, [], ◌∷◌, refl, sym, ap}
use Rattle.std.proofs.Common.{subst, arith}
use Rattle.ol_context.specs.Contexts.{Level, o, star, Context, cons}
use Rattle.ol_law_meaning.proofs.Addresses.{without_own, without_under, wire_some}
use Rattle.ol_law_meaning.specs.Contraction.{without, wire_without}
use Rattle.ol_law_optimality.specs.Labels.{Label, joined, Labelled, var, free, lam, app, before, erased}
use Rattle.ol_law_meaning.specs.Sites.{Site, self, in_lam, in_function, in_argument, spot_in}
use Rattle.ol_law_meaning.specs.Spots.{Wire, bound, under, root, Spot, at, body, fun, arg}
use Rattle.ol_term.specs.declared.translations.Translation.{Translation}
use Rattle.ol_law_completeness.proofs.Jumps.{Reached, at_var, at_name, by_lam, by_fun, by_arg}
use Rattle.ol_law_completeness.proofs.Putting.{reached_lifted, own_kept}
use Rattle.ol_law_completeness.proofs.Placing.{lifted, placed, in_place, erased_lifted, erased_in_place}
use Rattle.ol_law_completeness.proofs.Walls.{size, size_joined}

-- A jump goes over a node, an application or an abstraction, and pushes a mark or pops one.
pub data Act : Type 0 where
  app_push : Act
  app_pop : Act
  lam_push : Act
  lam_pop : Act

-- the words of the label of the part at a site
abbrev pub label_at : Labelled → Site → ℕ
label_at (var y w) p = size w
label_at (free f w) p = size w
label_at (lam b w) (in_lam p) = label_at b p
label_at (lam b w) self = size w
label_at (lam b w) (in_function p) = size w
label_at (lam b w) (in_argument v p) = size w
label_at (app f a w) (in_function p) = label_at f p
label_at (app f a w) (in_argument v p) = label_at a p
label_at (app f a w) self = size w
label_at (app f a w) (in_lam p) = size w

-- a jump, and the words of the labels of the links that end at the node's root and at its variable's occurrence
pub data Hop (τ : Translation) : Labelled → Act → ℕ → Bool → Spot → Bool → Spot → Type 0 where
  to_body : {b : Labelled} {w : Label} {n : ℕ} {v : Level} {c : Context} → n ≡ size w →
      Hop τ (lam b w) lam_pop n true (at root (o v) c) true (body (at root v c))
  to_var : {b : Labelled} {w : Label} {n : ℕ} {a v : Level} {c d : Context} {p : Site} {s : Spot} →
      Reached τ (erased b) (bound 0) a p → c ≡ cons v d → s ≡ spot_in p (at root v d) → n ≡ size w + label_at b p →
      Hop τ (lam b w) lam_pop n true (at root (star a) c) false (body s)
  to_fun : {f a : Labelled} {w : Label} {n : ℕ} {v : Level} {c : Context} → n ≡ size w →
      Hop τ (app f a w) app_push n true (at root v c) true (fun (at root (o v) c))
  to_arg : {f a : Labelled} {w : Label} {n : ℕ} {v u : Level} {c d : Context} → c ≡ cons u d → n ≡ 0 →
      Hop τ (app f a w) app_pop n false (fun (at root (star v) c)) true (arg v (at root u d))
  from_body : {b : Labelled} {w : Label} {n : ℕ} {v : Level} {c : Context} → n ≡ size w →
      Hop τ (lam b w) lam_push n false (body (at root v c)) false (at root (o v) c)
  from_var : {b : Labelled} {w : Label} {n : ℕ} {a v : Level} {c d : Context} {p : Site} {s : Spot} →
      Reached τ (erased b) (bound 0) a p → c ≡ cons v d → s ≡ spot_in p (at root v d) → n ≡ size w + label_at b p →
      Hop τ (lam b w) lam_push n true (body s) false (at root (star a) c)
  from_fun : {f a : Labelled} {w : Label} {n : ℕ} {v : Level} {c : Context} → n ≡ size w →
      Hop τ (app f a w) app_pop n false (fun (at root (o v) c)) false (at root v c)
  from_arg : {f a : Labelled} {w : Label} {n : ℕ} {v u : Level} {c d : Context} → c ≡ cons u d → n ≡ 0 →
      Hop τ (app f a w) app_push n false (arg v (at root u d)) true (fun (at root (star v) c))
  in_body : {b : Labelled} {w : Label} {k : Act} {n : ℕ} {d e : Bool} {s z : Spot} → Hop τ b k n d s e z →
      Hop τ (lam b w) k n d (body s) e (body z)
  in_fun : {f a : Labelled} {w : Label} {k : Act} {n : ℕ} {d e : Bool} {s z : Spot} → Hop τ f k n d s e z →
      Hop τ (app f a w) k n d (fun s) e (fun z)
  in_arg : {f a : Labelled} {w : Label} {k : Act} {n : ℕ} {v : Level} {d e : Bool} {s z : Spot} → Hop τ a k n d s e z →
      Hop τ (app f a w) k n d (arg v s) e (arg v z)

-- ---- ages

abbrev pub aged : ℕ → List ℕ → List ℕ
aged n [] = []
aged n (a ∷ A) = (n + a) ∷ aged n A

-- What was pushed gets older by each jump's cost and one more. Only what was pushed in the walk is popped, and only while
-- it is no older than K. A mark of an abstraction is as old as the jump that pushes it, and pays for the one that pops it.
pub data Effect (K : ℕ) : Act → ℕ → List ℕ → List ℕ → Type 0 where
  app_pushed : {n : ℕ} {A B : List ℕ} → B ≡ 0 ∷ aged (suc n) A → Effect K app_push n A B
  lam_pushed : {n : ℕ} {A B : List ℕ} → B ≡ suc n ∷ aged (suc n) A → Effect K lam_push n A B
  app_popped : {n a : ℕ} {A C B : List ℕ} → A ≡ a ∷ C → a ≤ K → B ≡ aged (suc n) C → Effect K app_pop n A B
  lam_popped : {n a : ℕ} {A C B : List ℕ} → A ≡ a ∷ C → suc n + a ≤ K → B ≡ aged (suc n) C → Effect K lam_pop n A B

-- each age, and r more, is no more than the other, and q more
abbrev pub Below : ℕ → ℕ → List ℕ → List ℕ → Type 0
Below r q [] [] = Unit {0}
Below r q [] (b ∷ B) = ⊥
Below r q (a ∷ A) [] = ⊥
Below r q (a ∷ A) (b ∷ B) = (a + r ≤ b + q) × Below r q A B

pub below_aged : (r q r' q' m n : ℕ) (A B : List ℕ) → r' + (m + q) ≤ q' + (n + r) → Below r q A B →
    Below r' q' (aged m A) (aged n B)
below_aged r q r' q' m n [] [] h b = tt
below_aged r q r' q' m n [] (y ∷ B) h b = absurd b
below_aged r q r' q' m n (x ∷ A) [] h b = absurd b
below_aged r q r' q' m n (x ∷ A) (y ∷ B) h b = let l = b.0 in (omega (arith, h, l), below_aged r q r' q' m n A B h b.1)

-- what a greater cost of a jump is paid with: r that was paid before, q that is paid later
abbrev pub Fits : Act → ℕ → ℕ → ℕ → ℕ → Type 0
Fits app_push n m r q = m ≤ n + (r + q)
Fits app_pop n m r q = m ≤ n + (r + q)
Fits lam_push n m r q = m ≤ n + q
Fits lam_pop n m r q = m ≤ n + r

pub fits_same : (k : Act) (n r q : ℕ) → Fits k n n r q
fits_same app_push n r q = omega arith
fits_same app_pop n r q = omega arith
fits_same lam_push n r q = omega arith
fits_same lam_pop n r q = omega arith

pub fits_both : (k : Act) (n m l r q r' q' : ℕ) → Fits k n m r q → Fits k m l r' q' → Fits k n l (r + r') (q + q')
fits_both app_push n m l r q r' q' h g = omega (arith, h, g)
fits_both app_pop n m l r q r' q' h g = omega (arith, h, g)
fits_both lam_push n m l r q r' q' h g = omega (arith, h, g)
fits_both lam_pop n m l r q r' q' h g = omega (arith, h, g)

pub record Paid (K : ℕ) (k : Act) (m q : ℕ) (A' B : List ℕ) : Type 0 where
  pub ages : List ℕ
  pub effect : Effect K k m A' ages
  pub below : Below 0 q ages B

split : (r : ℕ) (A C : List ℕ) (a : ℕ) → Below r 0 A (a ∷ C) → (x : ℕ) × (X : List ℕ) × (A ≡ x ∷ X) × (x + r ≤ a) × Below r 0 X C
split r [] C a b = absurd b
split r (x ∷ X) C a b = let l = b.0 in (x, X, refl, omega (arith, l), b.1)

pub paid : {K : ℕ} {k : Act} {n : ℕ} (m r q : ℕ) {A B A' : List ℕ} → Effect K k n A B → Below r 0 A' A → Fits k n m r q →
    Paid K k m q A' B
paid m r q {A = A} {A' = A'} (app_pushed {n = n} e) b h = record {
  ages = 0 ∷ aged (suc m) A';
  effect = app_pushed refl;
  below = subst (λ B. Below 0 q (0 ∷ aged (suc m) A') B) (sym e) (omega arith, below_aged r 0 0 q (suc m) (suc n) A' A (omega (arith, h)) b);
}
paid m r q {A = A} {A' = A'} (lam_pushed {n = n} e) b h = record {
  ages = suc m ∷ aged (suc m) A';
  effect = lam_pushed refl;
  below = subst (λ B. Below 0 q (suc m ∷ aged (suc m) A') B) (sym e) (omega (arith, h), below_aged r 0 0 q (suc m) (suc n) A' A (omega (arith, h)) b);
}
paid m r q {A = A} {A' = A'} (app_popped {n = n} {a = a} {C = C} e l f) b h =
    let z = split r A' C a (subst (λ A. Below r 0 A' A) e b) in
    let g = z.3 in
    record {
      ages = aged (suc m) z.1;
      effect = app_popped z.2 (omega (arith, g, l)) refl;
      below = subst (λ B. Below 0 q (aged (suc m) z.1) B) (sym f) (below_aged r 0 0 q (suc m) (suc n) z.1 C (omega (arith, h)) z.4);
    }
paid m r q {A = A} {A' = A'} (lam_popped {n = n} {a = a} {C = C} e l f) b h =
    let z = split r A' C a (subst (λ A. Below r 0 A' A) e b) in
    let g = z.3 in
    record {
      ages = aged (suc m) z.1;
      effect = lam_popped z.2 (omega (arith, g, l, h)) refl;
      below = subst (λ B. Below 0 q (aged (suc m) z.1) B) (sym f) (below_aged r 0 0 q (suc m) (suc n) z.1 C (omega (arith, h)) z.4);
    }

-- ---- a label before the whole term

-- x at the root, if a walk goes in there; or out
abbrev pub in_at : ℕ → Bool → Spot → ℕ
in_at x true (at p v c) = x
in_at x true (body s) = 0
in_at x true (fun s) = 0
in_at x true (arg v s) = 0
in_at x false s = 0

abbrev pub out_at : ℕ → Bool → Spot → ℕ
out_at x false (at p v c) = x
out_at x false (body s) = 0
out_at x false (fun s) = 0
out_at x false (arg v s) = 0
out_at x true s = 0

pub record Costs (τ : Translation) (t : Labelled) (k : Act) (n : ℕ) (d : Bool) (s : Spot) (e : Bool) (z : Spot) (r q : ℕ) : Type 0 where
  pub cost : ℕ
  pub hop : Hop τ t k cost d s e z
  pub fits : Fits k n cost r q

label_lifted : (t : Labelled) (i j : ℕ) (p : Site) → label_at (lifted i j t) p ≡ label_at t p
label_lifted (var y w) i j p = refl
label_lifted (free f w) i j p = refl
label_lifted (lam b w) i j (in_lam p) = label_lifted b (suc i) j p
label_lifted (lam b w) i j self = refl
label_lifted (lam b w) i j (in_function p) = refl
label_lifted (lam b w) i j (in_argument v p) = refl
label_lifted (app f a w) i j (in_function p) = label_lifted f i j p
label_lifted (app f a w) i j (in_argument v p) = label_lifted a i j p
label_lifted (app f a w) i j self = refl
label_lifted (app f a w) i j (in_lam p) = refl

module _ {τ : Translation} where
  pub hop_before : (x : Label) {t : Labelled} {k : Act} {n : ℕ} {d e : Bool} {s z : Spot} → Hop τ t k n d s e z →
      Costs τ (before x t) k n d s e z (in_at (size x) d s) (out_at (size x) e z)
  hop_before x (to_body {w = w} h) =
      let g = size_joined x w in record { cost = size (joined x w); hop = to_body refl; fits = omega (arith, g, h) }
  hop_before x (to_var {b = b} {w = w} {p = p} r e q h) =
      let g = size_joined x w in
      record { cost = size (joined x w) + label_at b p; hop = to_var r e q refl; fits = omega (arith, g, h) }
  hop_before x (to_fun {w = w} h) =
      let g = size_joined x w in record { cost = size (joined x w); hop = to_fun refl; fits = omega (arith, g, h) }
  hop_before x (to_arg {n = n} e h) = record { cost = n; hop = to_arg e h; fits = omega arith }
  hop_before x (from_body {w = w} h) =
      let g = size_joined x w in record { cost = size (joined x w); hop = from_body refl; fits = omega (arith, g, h) }
  hop_before x (from_var {b = b} {w = w} {p = p} r e q h) =
      let g = size_joined x w in
      record { cost = size (joined x w) + label_at b p; hop = from_var r e q refl; fits = omega (arith, g, h) }
  hop_before x (from_fun {w = w} h) =
      let g = size_joined x w in record { cost = size (joined x w); hop = from_fun refl; fits = omega (arith, g, h) }
  hop_before x (from_arg {n = n} e h) = record { cost = n; hop = from_arg e h; fits = omega arith }
  hop_before x (in_body {k = k} {n = n} j) = record { cost = n; hop = in_body j; fits = fits_same k n _ _ }
  hop_before x (in_fun {k = k} {n = n} j) = record { cost = n; hop = in_fun j; fits = fits_same k n _ _ }
  hop_before x (in_arg {k = k} {n = n} j) = record { cost = n; hop = in_arg j; fits = fits_same k n _ _ }

  -- ---- under more abstractions

  own_lifted : (b : Labelled) (i j : ℕ) {a : Level} {p : Site} → Reached τ (erased b) (bound 0) a p →
      Reached τ (erased (lifted (suc i) j b)) (bound 0) a p
  own_lifted b i j {a} {p} r =
      subst (λ t. Reached τ t (bound 0) a p) (sym (erased_lifted b (suc i) j)) (reached_lifted (suc i) j r)

  hop_lifted : {t : Labelled} {k : Act} {n : ℕ} {d e : Bool} {s z : Spot} (i j : ℕ) → Hop τ t k n d s e z →
      Hop τ (lifted i j t) k n d s e z
  hop_lifted i j (to_body h) = to_body h
  hop_lifted i j (to_var {b = b} {p = p} r e q h) =
      let g = label_lifted b (suc i) j p in to_var (own_lifted b i j r) e q (omega (arith, g, h))
  hop_lifted i j (to_fun h) = to_fun h
  hop_lifted i j (to_arg e h) = to_arg e h
  hop_lifted i j (from_body h) = from_body h
  hop_lifted i j (from_var {b = b} {p = p} r e q h) =
      let g = label_lifted b (suc i) j p in from_var (own_lifted b i j r) e q (omega (arith, g, h))
  hop_lifted i j (from_fun h) = from_fun h
  hop_lifted i j (from_arg e h) = from_arg e h
  hop_lifted i j (in_body h) = in_body (hop_lifted (suc i) j h)
  hop_lifted i j (in_fun h) = in_fun (hop_lifted i j h)
  hop_lifted i j (in_arg h) = in_arg (hop_lifted i j h)

  -- ---- a term for a variable

  label_kept : (c b : Labelled) (i : ℕ) (y z : Wire) {a : Level} {p : Site} → Reached τ (erased b) y a p →
      wire_without i y ≡ Some z → label_at (in_place i c b) p ≡ label_at b p
  label_kept c (var v w) i y z at_var e =
      let t = wire_some (without i v) z e in
      subst (λ o. label_at (placed i c w o) self ≡ size w) (sym t.1) refl
  label_kept c (free f w) i y z r e = refl
  label_kept c (lam b w) i y z (by_lam r) e = label_kept c b (suc i) (under y) (under z) r (without_under i y z e)
  label_kept c (app f a w) i y z (by_fun r h) e = label_kept c f i y z r e
  label_kept c (app f a w) i y z (by_arg r h) e = label_kept c a i y z r e

  own_placed : (c b : Labelled) (i : ℕ) {a : Level} {p : Site} → Reached τ (erased b) (bound 0) a p →
      Reached τ (erased (in_place (suc i) c b)) (bound 0) a p
  own_placed c b i {a} {p} r =
      subst (λ t. Reached τ t (bound 0) a p) (sym (erased_in_place b c (suc i))) (own_kept (erased c) i r)

  pub hop_kept : (c : Labelled) {t : Labelled} {k : Act} {n : ℕ} {d e : Bool} {s z : Spot} (i : ℕ) → Hop τ t k n d s e z →
      Hop τ (in_place i c t) k n d s e z
  hop_kept c i (to_body h) = to_body h
  hop_kept c i (to_var {b = b} {p = p} r e q h) =
      let g = label_kept c b (suc i) (bound 0) (bound 0) r refl in to_var (own_placed c b i r) e q (omega (arith, g, h))
  hop_kept c i (to_fun h) = to_fun h
  hop_kept c i (to_arg e h) = to_arg e h
  hop_kept c i (from_body h) = from_body h
  hop_kept c i (from_var {b = b} {p = p} r e q h) =
      let g = label_kept c b (suc i) (bound 0) (bound 0) r refl in from_var (own_placed c b i r) e q (omega (arith, g, h))
  hop_kept c i (from_fun h) = from_fun h
  hop_kept c i (from_arg e h) = from_arg e h
  hop_kept c i (in_body h) = in_body (hop_kept c (suc i) h)
  hop_kept c i (in_fun h) = in_fun (hop_kept c i h)
  hop_kept c i (in_arg h) = in_arg (hop_kept c i h)

  pub hop_copied : (c M : Labelled) {y : Wire} {a : Level} {p : Site} {k : Act} {n : ℕ} {d e : Bool} {s z : Spot} (i : ℕ) →
      Reached τ (erased M) y a p → y ≡ bound i → Hop τ c k n d s e z →
      Costs τ (in_place i c M) k n d (spot_in p s) e (spot_in p z) (in_at (label_at M p) d s) (out_at (label_at M p) e z)
  hop_copied c (var v w) {k = k} {n = n} {d = d} {e = e} {s = s} {z = z} i at_var q j =
      let h : v ≡ i = cc in
      let g = hop_before w (hop_lifted 0 i j) in
      subst (λ v. Costs τ (placed i c w (without i v)) k n d s e z (in_at (size w) d s) (out_at (size w) e z)) (sym h)
      (subst (λ o. Costs τ (placed i c w o) k n d s e z (in_at (size w) d s) (out_at (size w) e z)) (sym (without_own i)) g)
  hop_copied c (free f w) i at_name q j = absurd (cc)
  hop_copied c (lam b w) i (by_lam r) q j =
      let g = hop_copied c b (suc i) r (ap under q) j in record { cost = g.cost; hop = in_body g.hop; fits = g.fits }
  hop_copied c (app f a w) i (by_fun r h) q j =
      let g = hop_copied c f i r q j in record { cost = g.cost; hop = in_fun g.hop; fits = g.fits }
  hop_copied c (app f a w) i (by_arg r h) q j =
      let g = hop_copied c a i r q j in record { cost = g.cost; hop = in_arg g.hop; fits = g.fits }
