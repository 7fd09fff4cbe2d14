-- A weak head step, and walks before it and after it: what was pushed is no older after it.
-- Used in Walked.
use Rattle.std.proofs.Common.{◌≡◌, ℕ, zero, suc, ◌+◌, ◌<◌, ◌≤◌, Bool, true, false, inl, inr, List, [], ◌∷◌, refl, sym, ap, ◌∙◌}
use Rattle.std.proofs.Common.{subst, arith}
use Rattle.ol_context.specs.Contexts.{Level, o, star, Context, cons}
use Rattle.ol_context.proofs.Contexts.{head_eq, tail_eq}
use Rattle.ol_law_optimality.specs.Labels.{Label, none, over, under, joined, Labelled, lam, app, before, erased}
use Rattle.ol_law_meaning.specs.Sites.{Site, self, in_lam, in_function, in_argument, spot_in}
use Rattle.ol_law_meaning.specs.Spots.{bound, root, wire, Spot, at, body, fun, arg}
use Rattle.ol_term.specs.declared.translations.Translation.{Translation}
use Rattle.ol_law_completeness.proofs.Jumps.{Reached, reached_one, Jump, at_root, goes_on}
use Rattle.ol_law_completeness.proofs.Codes.{Code, code}
use Rattle.ol_law_completeness.proofs.Hops.{Act, app_pop, Hop, to_body, to_var, to_fun, to_arg}
use Rattle.ol_law_completeness.proofs.Hops.{from_body, from_var, from_fun, from_arg, in_body, in_fun, in_arg, label_at}
use Rattle.ol_law_completeness.proofs.Hops.{Effect, app_pushed, lam_pushed, app_popped, lam_popped, aged, Below, fits_both, fits_same}
use Rattle.ol_law_completeness.proofs.Hops.{paid, in_at, out_at, Costs, hop_before, hop_kept, hop_copied}
use Rattle.ol_law_completeness.proofs.Placing.{in_place, in_place_is}
use Rattle.ol_law_completeness.proofs.Short.{Move, move, Fin, fin, Short, no_move, stuck, next, nothing_app, nothing_lam, forget}
use Rattle.ol_law_completeness.proofs.Walls.{size, size_joined, Weak, at_redex, at_function, argument_of}

abbrev pub Relation : Type 1
Relation = ℕ → Bool → Spot → List ℕ → Bool → Spot → List ℕ → Type 0

pub data Follows (τ : Translation) (K : ℕ) (u : Labelled) (S : Relation) (k : ℕ) (d : Bool) (s : Spot) (B : List ℕ)
    (e : Bool) (z : Spot) (A' : List ℕ) : Type 0 where
  stays : {j : ℕ} → j < k → S j d s B e z A' → Follows τ K u S k d s B e z A'
  goes : {j : ℕ} {e' : Bool} {z' : Spot} {B' : List ℕ} → Move τ K u e z A' e' z' B' → S j d s B e' z' B' →
      Follows τ K u S k d s B e z A'

-- where a walk begins: where one over the other term does too, or where it ends inside of what is left out
pub data Begins (S : Relation) (Q : Bool → Spot → List ℕ → Type 0) (d : Bool) (s : Spot) : Type 0 where
  with : {k : ℕ} {e : Bool} {z : Spot} → S k d s [] e z [] → Begins S Q d s
  alone : Q d s [] → Begins S Q d s

pub record Stepped (τ : Translation) (K : ℕ) (t u a : Labelled) : Type 1 where
  pub S : Relation
  pub step : {k : ℕ} {d e d' : Bool} {s z s' : Spot} {A A' B : List ℕ} → S k d s A e z A' → Move τ K t d s A d' s' B →
      Follows τ K u S k d' s' B e z A'
  pub top : (d : Bool) (v : Level) (c : Context) (A A' : List ℕ) → Below 0 0 A' A →
      (k : ℕ) × S k d (at root v c) A d (at root v c) A'
  pub only : {k : ℕ} {d e : Bool} {v : Level} {c : Context} {z : Spot} {A A' : List ℕ} → S k d (at root v c) A e z A' →
      (d ≡ e) × (at root v c ≡ z) × Below 0 0 A' A
  pub Q : Bool → Spot → List ℕ → Type 0
  pub closed : {d e : Bool} {s z : Spot} {A B : List ℕ} → Q d s A → Move τ K t d s A e z B → Q e z B
  pub inner : {v : Level} {c : Context} {A : List ℕ} → Q false (at root v c) A → ⊥
  pub ends : {d : Bool} {s : Spot} {A : List ℕ} → Q d s A → Fin τ K t d s A
  pub begins : Short τ K a → (d : Bool) (s : Spot) → Begins S Q d s

module _ {τ : Translation} {K : ℕ} {t u a : Labelled} (P : Stepped τ K t u a) where
  abbrev Rest : Bool → Spot → List ℕ → Type 0
  Rest e z A' = (e' : Bool) (z' : Spot) (B' : List ℕ) → Move τ K u e z A' e' z' B' → (k : ℕ) (d : Bool) (s : Spot) (A : List ℕ) →
      P.S k d s A e' z' B' → Fin τ K t d s A

  by : {e : Bool} {z : Spot} {A' : List ℕ} → Rest e z A' → (k : ℕ) →
      ((j : ℕ) → j < k → (d : Bool) (s : Spot) (A : List ℕ) → P.S j d s A e z A' → Fin τ K t d s A) →
      {d : Bool} {s : Spot} {B : List ℕ} → Follows τ K u P.S k d s B e z A' → Fin τ K t d s B
  by f k g (stays {j = j} l q) = g j l _ _ _ q
  by f k g (goes {j = j} m q) = f _ _ _ m j _ _ _ q

  later : {e : Bool} {z : Spot} {A' : List ℕ} → Rest e z A' → (j k : ℕ) → k ≤ j → (d : Bool) (s : Spot) (A : List ℕ) →
      P.S k d s A e z A' → Fin τ K t d s A
  later f zero k h d s A r = fin (λ d' s' B m. by f k (λ j g. absurd (omega (arith, h, g))) (P.step r m))
  later f (suc i) k h d s A r =
      fin (λ d' s' B m. by f k (λ j g. later f i j (omega (arith, h, g))) (P.step r m))

  lasts : {e : Bool} {z : Spot} {A' : List ℕ} → Fin τ K u e z A' → (k : ℕ) (d : Bool) (s : Spot) (A : List ℕ) →
      P.S k d s A e z A' → Fin τ K t d s A
  lasts (fin f) k d s A r = later (λ e' z' B' m. lasts (f e' z' B' m)) k k (omega arith) d s A r

  from : Short τ K u → {d : Bool} {s : Spot} → Begins P.S P.Q d s → Fin τ K t d s []
  from h (with {k = k} {e = e} {z = z} r) = lasts (h e z) k _ _ [] r
  from h (alone q) = P.ends q

  pub short_before : Short τ K a → Short τ K u → Short τ K t
  short_before g h d s = from h (P.begins g d s)

-- ---- ages where a walk doesn't go on after the step

below_later : (r q r' q' n : ℕ) (A B : List ℕ) → r' + q ≤ q' + (n + r) → Below r q A B → Below r' q' A (aged n B)
below_later r q r' q' n [] [] h b = tt
below_later r q r' q' n [] (y ∷ B) h b = absurd b
below_later r q r' q' n (x ∷ A) [] h b = absurd b
below_later r q r' q' n (x ∷ A) (y ∷ B) h b = let l = b.0 in (omega (arith, h, l), below_later r q r' q' n A B h b.1)

-- what was pushed for the redex alone is popped
below_popped : (r q r' q' n : ℕ) (A' A B A1 C : List ℕ) (a a' : ℕ) → A ≡ a ∷ A1 → A ≡ a' ∷ C → B ≡ aged n C →
    r' + q ≤ q' + (n + r) → Below r q A' A1 → Below r' q' A' B
below_popped r q r' q' n A' A B A1 C a a' e f g h b =
    let i : a ∷ A1 ≡ a' ∷ C = sym e ∙ f in
    let j : A1 ≡ C = cc in
    subst (λ B. Below r' q' A' B) (sym g) (below_later r q r' q' n A' C h (subst (λ C. Below r q A' C) j b))

target_inner : {τ : Translation} (x : ℕ) {t : Labelled} {k : Act} {n : ℕ} {d e : Bool} {s z : Spot} → Hop τ t k n d s e z →
    in_at x e z ≡ 0
target_inner x (to_body h) = refl
target_inner x (to_var r e q h) = refl
target_inner x (to_fun h) = refl
target_inner x (to_arg e h) = refl
target_inner x (from_body h) = refl
target_inner x (from_var r e q h) = refl
target_inner x (from_fun h) = refl
target_inner x (from_arg e h) = refl
target_inner x (in_body {e = true} j) = refl
target_inner x (in_body {e = false} j) = refl
target_inner x (in_fun {e = true} j) = refl
target_inner x (in_fun {e = false} j) = refl
target_inner x (in_arg {e = true} j) = refl
target_inner x (in_arg {e = false} j) = refl

source_inner : {τ : Translation} (x : ℕ) {t : Labelled} {k : Act} {n : ℕ} {d e : Bool} {s z : Spot} → Hop τ t k n d s e z →
    out_at x d s ≡ 0
source_inner x (to_body h) = refl
source_inner x (to_var r e q h) = refl
source_inner x (to_fun h) = refl
source_inner x (to_arg e h) = refl
source_inner x (from_body h) = refl
source_inner x (from_var r e q h) = refl
source_inner x (from_fun h) = refl
source_inner x (from_arg e h) = refl
source_inner x (in_body {d = true} j) = refl
source_inner x (in_body {d = false} j) = refl
source_inner x (in_fun {d = true} j) = refl
source_inner x (in_fun {d = false} j) = refl
source_inner x (in_arg {d = true} j) = refl
source_inner x (in_arg {d = false} j) = refl

-- ---- inner spots

abbrev IsInner : Spot → Type 0
IsInner (at q u d) = ⊥
IsInner (body s) = Unit {0}
IsInner (fun s) = Unit {0}
IsInner (arg u s) = Unit {0}

is_inner_in : (s : Spot) → in_at 1 true s ≡ 0 → IsInner s
is_inner_in (at q u d) e = absurd (omega (arith, e))
is_inner_in (body s) e = tt
is_inner_in (fun s) e = tt
is_inner_in (arg u s) e = tt

is_inner_out : (s : Spot) → out_at 1 false s ≡ 0 → IsInner s
is_inner_out (at q u d) e = absurd (omega (arith, e))
is_inner_out (body s) e = tt
is_inner_out (fun s) e = tt
is_inner_out (arg u s) e = tt

inner_in : (x : ℕ) (p : Site) (s : Spot) → IsInner s → in_at x true (spot_in p s) ≡ 0
inner_in x self (at q u d) h = absurd h
inner_in x self (body s) h = refl
inner_in x self (fun s) h = refl
inner_in x self (arg u s) h = refl
inner_in x (in_lam p) s h = refl
inner_in x (in_function p) s h = refl
inner_in x (in_argument u p) s h = refl

inner_out : (x : ℕ) (p : Site) (s : Spot) → IsInner s → out_at x false (spot_in p s) ≡ 0
inner_out x self (at q u d) h = absurd h
inner_out x self (body s) h = refl
inner_out x self (fun s) h = refl
inner_out x self (arg u s) h = refl
inner_out x (in_lam p) s h = refl
inner_out x (in_function p) s h = refl
inner_out x (in_argument u p) s h = refl

-- ---- a redex

module _ (τ : Translation) (K : ℕ) (b c : Labelled) (v w : Label) where
  abbrev X : Label
  X = joined w (over v none)

  abbrev C : Labelled
  C = before (under v none) c

  abbrev R : Labelled
  R = before (joined w (over v none)) (in_place 0 (before (under v none) c) b)

  abbrev E : ℕ
  E = size (joined w (over v none))

  abbrev U : ℕ
  U = size (under v none)

  e_is : size (joined w (over v none)) ≡ size w + suc (size v)
  e_is = let g = size_joined w (over v none) in omega (arith, g)

  u_is : size (under v none) ≡ suc (size v)
  u_is = omega arith

  -- what the copy's root at p costs more
  abbrev ArgIn : Site → Spot → ℕ
  ArgIn p s = in_at (size (under v none)) true s + in_at (label_at b p) true s + in_at (size (joined w (over v none))) true (spot_in p s)

  abbrev ArgOut : Site → Spot → ℕ
  ArgOut p s = out_at (size (under v none)) false s + out_at (label_at b p) false s
      + out_at (size (joined w (over v none))) false (spot_in p s)

  data Of : ℕ → Bool → Spot → List ℕ → Bool → Spot → List ℕ → Type 0 where
    top_in : {u : Level} {x : Context} {A A' : List ℕ} → Below 0 0 A' A → Of 4 true (at root u x) A true (at root u x) A'
    top_out : {u : Level} {x : Context} {A A' : List ℕ} → Below 0 0 A' A → Of 0 false (at root u x) A false (at root u x) A'
    lam_in : {u : Level} {x : Context} {a : ℕ} {A A1 A' : List ℕ} → A ≡ a ∷ A1 → Below (suc (size w)) 0 A' A1 →
        Of 3 true (fun (at root (o u) x)) A true (at root u x) A'
    lam_out : {u : Level} {x : Context} {a : ℕ} {A A1 A' : List ℕ} → A ≡ a ∷ A1 → Below 0 (suc (size w)) A' A1 →
        Of 1 false (fun (at root (o u) x)) A false (at root u x) A'
    body_in : {s : Spot} {A A' : List ℕ} → Below (in_at (size (joined w (over v none))) true s) 0 A' A →
        Of 2 true (fun (body s)) A true s A'
    body_out : {s : Spot} {A A' : List ℕ} → Below 0 (out_at (size (joined w (over v none))) false s) A' A →
        Of 2 false (fun (body s)) A false s A'
    var_out : {l u : Level} {x y : Context} {p : Site} {z : Spot} {a : ℕ} {A A1 A' : List ℕ} → Reached τ (erased b) (bound 0) l p →
        x ≡ cons u y → z ≡ spot_in p (at root u y) → A ≡ a ∷ A1 →
        Below (in_at (size (joined w (over v none))) true z + suc (size v + label_at b p)) 0 A' A1 →
        Of 1 false (fun (at root (star l) x)) A true z A'
    var_in : {l u : Level} {x y : Context} {p : Site} {z : Spot} {a : ℕ} {A A1 A' : List ℕ} → Reached τ (erased b) (bound 0) l p →
        x ≡ cons u y → z ≡ spot_in p (at root u y) → A ≡ a ∷ A1 →
        Below 0 (size (under v none) + label_at b p + out_at (size (joined w (over v none))) false z) A' A1 →
        Of 3 true (fun (at root (star l) x)) A false z A'
    arg_in : {l : Level} {p : Site} {s z : Spot} {A A' : List ℕ} → Reached τ (erased b) (bound 0) l p → z ≡ spot_in p s →
        Below (ArgIn p s) 0 A' A → Of 0 true (arg l s) A true z A'
    arg_out : {l : Level} {p : Site} {s z : Spot} {A A' : List ℕ} → Reached τ (erased b) (bound 0) l p → z ≡ spot_in p s →
        Below 0 (ArgOut p s) A' A → Of 4 false (arg l s) A false z A'

  abbrev Next : ℕ → Bool → Spot → List ℕ → Bool → Spot → List ℕ → Type 0
  Next k d s B e z A' = Follows τ K (before (joined w (over v none)) (in_place 0 (before (under v none) c) b)) Of k d s B e z A'

  same_spot : (p : Site) (l u : Level) (x y : Context) → cons l x ≡ cons u y → spot_in p (at root l x) ≡ spot_in p (at root u y)
  same_spot p l u x y e = ap (λ l. spot_in p (at root l x)) (head_eq l u x y e) ∙ ap (λ x. spot_in p (at root u x)) (tail_eq l u x y e)

  -- b's own jumps
  b_goes : (k : ℕ) (d d' : Bool) (s s' : Spot) {act : Act} {n : ℕ} (A A' B : List ℕ) → Hop τ b act n d s d' s' → Effect K act n A B →
      Below (in_at (size (joined w (over v none))) d s) 0 A' A → Next k d' (fun (body s')) B d s A'
  b_goes k d true s s' A A' B j m h =
      let g = hop_before (joined w (over v none)) (hop_kept (before (under v none) c) 0 j) in
      let y = paid g.cost (in_at (size (joined w (over v none))) d s) 0 m h g.fits in
      goes (move g.hop y.effect)
      (body_in (subst (λ r. Below r 0 y.ages B) (sym (target_inner (size (joined w (over v none))) j)) y.below))
  b_goes k d false s s' A A' B j m h =
      let g = hop_before (joined w (over v none)) (hop_kept (before (under v none) c) 0 j) in
      let y = paid g.cost (in_at (size (joined w (over v none))) d s) (out_at (size (joined w (over v none))) false s') m h g.fits in
      goes (move g.hop y.effect) (body_out y.below)

  in_the_body : {k : ℕ} {d e d' : Bool} {s z s' : Spot} {act : Act} {n : ℕ} {A A' B : List ℕ} → Of k d (fun (body s)) A e z A' →
      Hop τ b act n d s d' s' → Effect K act n A B → Next k d' (fun (body s')) B e z A'
  in_the_body {d' = d'} {s = s} {s' = s'} {A = A} {A' = A'} {B = B} (body_in h) j m = b_goes 2 true d' s s' A A' B j m h
  in_the_body {d' = d'} {s = s} {s' = s'} {A = A} {A' = A'} {B = B} (body_out h) j m =
      b_goes 2 false d' s s' A A' B j m
      (subst (λ q. Below 0 q A' A) (source_inner (size (joined w (over v none))) j) h)

  in_the_lam : {k : ℕ} {d e d' : Bool} {s z s' : Spot} {act : Act} {n : ℕ} {A A' B : List ℕ} → Of k d (fun s) A e z A' →
      Hop τ (lam b v) act n d s d' s' → Effect K act n A B → Next k d' (fun s') B e z A'
  in_the_lam {A = A} {A' = A'} {B = B} (lam_in {a = a} {A1 = A1} g h) (to_body {n = n} i) (lam_popped {a = a'} {C = C} f l q) =
      stays (omega arith) (body_in (below_popped (suc (size w)) 0 (size (joined w (over v none))) 0 (suc n) A' A B A1 C a a' g f q
      (let t = e_is in omega (arith, t, i)) h))
  in_the_lam {z = z} {A = A} {A' = A'} {B = B} (var_in {u = u} {y = y} {p = p} {a = a} {A1 = A1} r e q g h)
      (to_var {n = n} {v = u'} {d = y'} {p = p'} {s = s} r' e' q' i) (lam_popped {a = a'} {C = C} f l f') =
      let same = reached_one r r' in
      let j : z ≡ s = q ∙ ap (λ p. spot_in p (at root u y)) same ∙ same_spot p' u u' y y' (sym e ∙ e') ∙ sym q' in
      let k : label_at b p ≡ label_at b p' = ap (label_at b) same in
      subst (λ s. Next 3 false (fun (body s)) B false z A') j
      (stays (omega arith) (body_out {s = z} (below_popped 0
      (size (under v none) + label_at b p + out_at (size (joined w (over v none))) false z) 0
      (out_at (size (joined w (over v none))) false z) (suc n) A' A B A1 C a a' g f f'
      (let t = u_is in omega (arith, t, i, k)) h)))
  in_the_lam {A = A} {A' = A'} {B = B} (body_out h) (from_body {n = n} i) (lam_pushed f) =
      stays (omega arith) (lam_out f (below_later 0 (size (joined w (over v none))) 0 (suc (size w)) (suc n) A' A
      (let t = e_is in omega (arith, t, i)) h))
  in_the_lam {A = A} {A' = A'} {B = B} (body_in {s = s} h) (from_var {n = n} {p = p} r e q i) (lam_pushed f) =
      stays (omega arith) (var_out r e q f (below_later (in_at (size (joined w (over v none))) true s) 0
      (in_at (size (joined w (over v none))) true s + suc (size v + label_at b p)) 0 (suc n) A' A
      (omega (arith, i)) h))
  in_the_lam r (in_body j) m = in_the_body r j m

  -- the argument's jumps, in the copy that the value tells
  copied : {l : Level} {p : Site} {act : Act} {n : ℕ} {d d' : Bool} {s s' : Spot} → Reached τ (erased b) (bound 0) l p →
      Hop τ c act n d s d' s' →
      Costs τ (before (joined w (over v none)) (in_place 0 (before (under v none) c) b)) act n d (spot_in p s) d' (spot_in p s')
      (in_at (size (under v none)) d s + in_at (label_at b p) d s + in_at (size (joined w (over v none))) d (spot_in p s))
      (out_at (size (under v none)) d' s' + out_at (label_at b p) d' s' + out_at (size (joined w (over v none))) d' (spot_in p s'))
  copied {p = p} {act = act} {n = n} {d = d} {d' = d'} {s = s} {s' = s'} r j =
      let g = hop_before (under v none) j in
      let h = hop_copied (before (under v none) c) b 0 r refl g.hop in
      let i = hop_before (joined w (over v none)) h.hop in
      record {
        cost = i.cost;
        hop = i.hop;
        fits = fits_both act n h.cost i.cost
            (in_at (size (under v none)) d s + in_at (label_at b p) d s)
            (out_at (size (under v none)) d' s' + out_at (label_at b p) d' s')
            (in_at (size (joined w (over v none))) d (spot_in p s)) (out_at (size (joined w (over v none))) d' (spot_in p s'))
            (fits_both act n g.cost h.cost (in_at (size (under v none)) d s) (out_at (size (under v none)) d' s')
            (in_at (label_at b p) d s) (out_at (label_at b p) d' s') g.fits h.fits) i.fits;
      }

  none_in : (p : Site) (s : Spot) → IsInner s → ArgIn p s ≡ 0
  none_in p s h =
      let f = inner_in (size (under v none)) self s h in
      let g = inner_in (label_at b p) self s h in
      let i = inner_in (size (joined w (over v none))) p s h in
      omega (arith, f, g, i)

  none_out : (p : Site) (s : Spot) → IsInner s → ArgOut p s ≡ 0
  none_out p s h =
      let f = inner_out (size (under v none)) self s h in
      let g = inner_out (label_at b p) self s h in
      let i = inner_out (size (joined w (over v none))) p s h in
      omega (arith, f, g, i)

  c_goes : (k : ℕ) (l : Level) (p : Site) (d d' : Bool) (s s' z : Spot) {act : Act} {n : ℕ} (A A' B : List ℕ) →
      Reached τ (erased b) (bound 0) l p → z ≡ spot_in p s → Hop τ c act n d s d' s' → Effect K act n A B →
      Below (in_at (size (under v none)) d s + in_at (label_at b p) d s + in_at (size (joined w (over v none))) d (spot_in p s)) 0 A' A →
      Next k d' (arg l s') B d z A'
  c_goes k l p d true s s' z A A' B r q j m h =
      let g = copied r j in
      let y = paid g.cost
      (in_at (size (under v none)) d s + in_at (label_at b p) d s + in_at (size (joined w (over v none))) d (spot_in p s))
      0 m h g.fits in
      subst (λ z. Next k true (arg l s') B d z A') (sym q)
      (goes (move g.hop y.effect) (arg_in r refl
      (subst (λ r. Below r 0 y.ages B) (sym (none_in p s' (is_inner_in s' (target_inner 1 j)))) y.below)))
  c_goes k l p d false s s' z A A' B r q j m h =
      let g = copied r j in
      let y = paid g.cost
      (in_at (size (under v none)) d s + in_at (label_at b p) d s + in_at (size (joined w (over v none))) d (spot_in p s))
      (ArgOut p s') m h g.fits in
      subst (λ z. Next k false (arg l s') B d z A') (sym q) (goes (move g.hop y.effect) (arg_out r refl y.below))

  in_the_arg : {k : ℕ} {d e d' : Bool} {l : Level} {s z s' : Spot} {act : Act} {n : ℕ} {A A' B : List ℕ} →
      Of k d (arg l s) A e z A' → Hop τ c act n d s d' s' → Effect K act n A B → Next k d' (arg l s') B e z A'
  in_the_arg {d' = d'} {l = l} {s = s} {z = z} {s' = s'} {A = A} {A' = A'} {B = B} (arg_in {p = p} r q h) j m =
      c_goes 0 l p true d' s s' z A A' B r q j m h
  in_the_arg {d' = d'} {l = l} {s = s} {z = z} {s' = s'} {A = A} {A' = A'} {B = B} (arg_out {p = p} r q h) j m =
      c_goes 4 l p false d' s s' z A A' B r q j m
      (subst (λ q. Below 0 q A' A) (none_out p s (is_inner_out s (source_inner 1 j))) h)

  redex_hop : {k : ℕ} {d e d' : Bool} {s z s' : Spot} {act : Act} {n : ℕ} {A A' B : List ℕ} → Of k d s A e z A' →
      Hop τ (app (lam b v) c w) act n d s d' s' → Effect K act n A B → Next k d' s' B e z A'
  redex_hop {A = A} {A' = A'} (top_in h) (to_fun {n = n} i) (app_pushed f) =
      stays (omega arith) (lam_in f (below_later 0 0 (suc (size w)) 0 (suc n) A' A (omega (arith, i)) h))
  redex_hop {A = A} {A' = A'} {B = B} (lam_out {a = a} {A1 = A1} g h) (from_fun {n = n} i) (app_popped {a = a'} {C = C} f l q) =
      stays (omega arith) (top_out (below_popped 0 (suc (size w)) 0 0 (suc n) A' A B A1 C a a' g f q (omega (arith, i)) h))
  redex_hop {z = z} {A = A} {A' = A'} {B = B} (var_out {u = u} {y = y} {p = p} {a = a} {A1 = A1} r e q g h)
      (to_arg {n = n} {u = u'} {d = y'} e' i) (app_popped {a = a'} {C = C} f l f') =
      let s = q ∙ same_spot p u u' y y' (sym e ∙ e') in
      let t = ap (in_at (size (joined w (over v none))) true) s in
      let t' = u_is in
      stays (omega arith) (arg_in r s (below_popped
      (in_at (size (joined w (over v none))) true z + suc (size v + label_at b p)) 0 (ArgIn p (at root u' y')) 0 (suc n)
      A' A B A1 C a a' g f f' (omega (arith, t, t')) h))
  redex_hop {z = z} {A = A} {A' = A'} (arg_out {p = p} r q h) (from_arg {n = n} {u = u} {d = y} e i) (app_pushed f) =
      let t = ap (out_at (size (joined w (over v none))) false) q in
      stays (omega arith) (var_in r e q f (below_later 0 (ArgOut p (at root u y)) 0
      (size (under v none) + label_at b p + out_at (size (joined w (over v none))) false z) (suc n) A' A
      (omega (arith, t)) h))
  redex_hop r (in_fun j) m = in_the_lam r j m
  redex_hop r (in_arg j) m = in_the_arg r j m

  redex_step : {k : ℕ} {d e d' : Bool} {s z s' : Spot} {A A' B : List ℕ} → Of k d s A e z A' →
      Move τ K (app (lam b v) c w) d s A d' s' B → Next k d' s' B e z A'
  redex_step r (move j m) = redex_hop r j m

  redex_top : (d : Bool) (u : Level) (x : Context) (A A' : List ℕ) → Below 0 0 A' A →
      (k : ℕ) × Of k d (at root u x) A d (at root u x) A'
  redex_top true u x A A' h = (4, top_in h)
  redex_top false u x A A' h = (0, top_out h)

  redex_only : {k : ℕ} {d e : Bool} {u : Level} {x : Context} {z : Spot} {A A' : List ℕ} → Of k d (at root u x) A e z A' →
      (d ≡ e) × (at root u x ≡ z) × Below 0 0 A' A
  redex_only (top_in h) = (refl, refl, h)
  redex_only (top_out h) = (refl, refl, h)

  -- ---- walks that the contraction hasn't

  abbrev NotOut : Bool → Spot → Type 0
  NotOut false (at root u x) = ⊥
  NotOut false (at (wire y) u x) = Unit {0}
  NotOut true (at p u x) = Unit {0}
  NotOut d (body s) = Unit {0}
  NotOut d (fun s) = Unit {0}
  NotOut d (arg u s) = Unit {0}

  abbrev NoCode : Level → Type 0
  NoCode l = (p : Site) → Reached τ (erased b) (bound 0) l p → ⊥

  data Alone : Bool → Spot → List ℕ → Type 0 where
    ended : {d : Bool} {s : Spot} {A : List ℕ} →
        ((e : Bool) (z : Spot) (B : List ℕ) → Move τ K (app (lam b v) c w) d s A e z B → ⊥) → NotOut d s → Alone d s A
    guest : {d : Bool} {l : Level} {s : Spot} {A : List ℕ} → NoCode l → Fin τ K c d s A → Alone d (arg l s) A

  no_var : {l : Level} {x : Context} {e : Bool} {z : Spot} {act : Act} {n : ℕ} → NoCode l →
      Hop τ (app (lam b v) c w) act n true (fun (at root (star l) x)) e z → ⊥
  no_var h (in_fun (to_var {p = p} r e q i)) = h p r

  no_var_move : {l : Level} {x : Context} {e : Bool} {z : Spot} {A B : List ℕ} → NoCode l →
      Move τ K (app (lam b v) c w) true (fun (at root (star l) x)) A e z B → ⊥
  no_var_move h (move j m) = no_var h j

  guest_hop : {d e : Bool} {l : Level} {s z : Spot} {act : Act} {n : ℕ} {A B : List ℕ} → NoCode l → Fin τ K c d s A →
      Hop τ (app (lam b v) c w) act n d (arg l s) e z → Effect K act n A B → Alone e z B
  guest_hop h f (in_arg j) m = guest h (next f (move j m))
  guest_hop h f (from_arg e i) m = ended (λ e z B m. no_var_move h m) tt

  redex_closed : {d e : Bool} {s z : Spot} {A B : List ℕ} → Alone d s A → Move τ K (app (lam b v) c w) d s A e z B → Alone e z B
  redex_closed (ended h n) m = absurd (h _ _ _ m)
  redex_closed (guest h f) (move j m) = guest_hop h f j m

  redex_inner : {u : Level} {x : Context} {A : List ℕ} → Alone false (at root u x) A → ⊥
  redex_inner (ended h n) = n

  after_guest : {d e : Bool} {l : Level} {s z : Spot} {act : Act} {n : ℕ} {A B : List ℕ} → NoCode l →
      ((e : Bool) (z : Spot) → Move τ K c d s A e z B → Fin τ K (app (lam b v) c w) e (arg l z) B) →
      Hop τ (app (lam b v) c w) act n d (arg l s) e z → Effect K act n A B → Fin τ K (app (lam b v) c w) e z B
  after_guest h f (in_arg j) m = f _ _ (move j m)
  after_guest h f (from_arg e i) m = fin (λ e z B m. absurd (no_var_move h m))

  after_guest_move : {d e : Bool} {l : Level} {s z : Spot} {A B : List ℕ} → NoCode l →
      ((e : Bool) (z : Spot) → Move τ K c d s A e z B → Fin τ K (app (lam b v) c w) e (arg l z) B) →
      Move τ K (app (lam b v) c w) d (arg l s) A e z B → Fin τ K (app (lam b v) c w) e z B
  after_guest_move h f (move j m) = after_guest h f j m

  guest_ends : {d : Bool} {l : Level} {s : Spot} {A : List ℕ} → NoCode l → Fin τ K c d s A →
      Fin τ K (app (lam b v) c w) d (arg l s) A
  guest_ends h (fin f) = fin (λ e z B m. after_guest_move h (λ e z j. guest_ends h (f e z B j)) m)

  redex_ends : {d : Bool} {s : Spot} {A : List ℕ} → Alone d s A → Fin τ K (app (lam b v) c w) d s A
  redex_ends (ended h n) = fin (λ e z B m. absurd (h e z B m))
  redex_ends (guest h f) = guest_ends h f

  into_lam : {u : Level} {x : Context} {e : Bool} {z : Spot} {act : Act} {n : ℕ} {A B : List ℕ} →
      Hop τ (app (lam b v) c w) act n true (fun (at root u x)) e z → Effect K act n A B → A ≡ [] → ⊥
  into_lam (in_fun (to_body h)) m e = nothing_lam m e
  into_lam (in_fun (to_var r e q h)) m g = nothing_lam m g

  out_of_lam : {u : Level} {x : Context} {e : Bool} {z : Spot} {act : Act} {n : ℕ} {A B : List ℕ} →
      Hop τ (app (lam b v) c w) act n false (fun (at root u x)) e z → Effect K act n A B → A ≡ [] → ⊥
  out_of_lam (from_fun h) m e = nothing_app m e
  out_of_lam (to_arg e h) m g = nothing_app m g
  out_of_lam (in_fun j) m e = absurd (goes_on (forget j))

  at_lam : (d : Bool) {u : Level} {x : Context} {e : Bool} {z : Spot} {A B : List ℕ} →
      Move τ K (app (lam b v) c w) d (fun (at root u x)) A e z B → A ≡ [] → ⊥
  at_lam true (move j m) e = into_lam j m e
  at_lam false (move j m) e = out_of_lam j m e

  nowhere : {d : Bool} {s : Spot} → ((e : Bool) (z : Spot) → Jump τ (erased (app (lam b v) c w)) d s e z → ⊥) → NotOut d s →
      Begins Of Alone d s
  nowhere h n = alone (ended (λ e z B m. no_move h m) n)

  in_arg_code : (d : Bool) (l : Level) (s : Spot) → Fin τ K c d s [] → Code τ (erased b) (bound 0) l → Begins Of Alone d (arg l s)
  in_arg_code true l s f (inl h) = with (arg_in {A = []} {A' = []} h.1 refl tt)
  in_arg_code false l s f (inl h) = with (arg_out {A = []} {A' = []} h.1 refl tt)
  in_arg_code d l s f (inr h) = alone (guest h f)

  redex_begins : Short τ K c → (d : Bool) (s : Spot) → Begins Of Alone d s
  redex_begins h true (at root u x) = with (top_in {A = []} {A' = []} tt)
  redex_begins h false (at root u x) = with (top_out {A = []} {A' = []} tt)
  redex_begins h true (at (wire y) u x) = nowhere (λ e z j. at_root j) tt
  redex_begins h false (at (wire y) u x) = nowhere (λ e z j. at_root j) tt
  redex_begins h d (body s) = nowhere (λ e z j. at_root j) tt
  redex_begins h d (fun (at root u x)) = alone (ended (λ e z B m. at_lam d m refl) tt)
  redex_begins h d (fun (at (wire y) u x)) = nowhere (λ e z j. at_root j) tt
  redex_begins h true (fun (body s)) = with (body_in {A = []} {A' = []} tt)
  redex_begins h false (fun (body s)) = with (body_out {A = []} {A' = []} tt)
  redex_begins h d (fun (fun s)) = nowhere (λ e z j. at_root j) tt
  redex_begins h d (fun (arg u s)) = nowhere (λ e z j. at_root j) tt
  redex_begins h d (arg l s) = in_arg_code d l s (h d s) (code τ (erased b) 0 l)

  pub of_redex : Stepped τ K (app (lam b v) c w) (before (joined w (over v none)) (in_place 0 (before (under v none) c) b)) c
  of_redex = record {
    S = Of;
    step = redex_step;
    top = redex_top;
    only = redex_only;
    Q = Alone;
    closed = redex_closed;
    inner = redex_inner;
    ends = redex_ends;
    begins = redex_begins;
  }

-- ---- before an argument

module _ {τ : Translation} {K : ℕ} (f g a p : Labelled) (w : Label) (P : Stepped τ K f g a) where
  data Before : ℕ → Bool → Spot → List ℕ → Bool → Spot → List ℕ → Type 0 where
    on_top : {d : Bool} {v : Level} {c : Context} {A A' : List ℕ} → Below 0 0 A' A →
        Before 0 d (at root v c) A d (at root v c) A'
    on_fun : {k : ℕ} {d e : Bool} {s z : Spot} {A A' : List ℕ} → P.S k d s A e z A' →
        Before k d (fun s) A e (fun z) A'
    on_arg : {d : Bool} {v : Level} {s : Spot} {A A' : List ℕ} → Below 0 0 A' A → Before 0 d (arg v s) A d (arg v s) A'

  abbrev There : ℕ → Bool → Spot → List ℕ → Bool → Spot → List ℕ → Type 0
  There k d s B e z A' = Follows τ K (app g p w) Before k d s B e z A'

  lifted : {k : ℕ} {d e : Bool} {s z : Spot} {B A' : List ℕ} → Follows τ K g P.S k d s B e z A' → There k d (fun s) B e (fun z) A'
  lifted (stays l r) = stays l (on_fun r)
  lifted (goes (move j m) r) = goes (move (in_fun j) m) (on_fun r)

  -- the same jump on both sides
  into_fun : {k : ℕ} {e d : Bool} {z : Spot} {v : Level} {c : Context} {act : Act} {n : ℕ} (A A' B : List ℕ) →
      Hop τ (app g p w) act n e z d (fun (at root v c)) → Effect K act n A B → Below 0 0 A' A →
      There k d (fun (at root v c)) B e z A'
  into_fun {d = d} {v = v} {c = c} {act = act} {n = n} A A' B j m h =
      let y = paid n 0 0 m h (fits_same act n 0 0) in
      let r = P.top d v c B y.ages y.below in
      goes (move j y.effect) (on_fun r.1)

  before_hop : {k : ℕ} {d e d' : Bool} {s z s' : Spot} {act : Act} {n : ℕ} {A A' B : List ℕ} → Before k d s A e z A' →
      Hop τ (app f p w) act n d s d' s' → Effect K act n A B → There k d' s' B e z A'
  before_hop {A = A} {A' = A'} {B = B} (on_top h) (to_fun i) m = into_fun A A' B (to_fun i) m h
  before_hop (on_fun r) (in_fun j) m = lifted (P.step r (move j m))
  before_hop {k = k} {e = e} {n = n} {A = A} {A' = A'} {B = B} (on_fun {z = z} r) (from_fun {v = v} {c = c} i) m =
      let h = P.only r in
      let y = paid n 0 0 m h.2 (fits_same app_pop n 0 0) in
      subst (λ e. There k false (at root v c) B e (fun z) A') h.0
      (subst (λ z. There k false (at root v c) B false (fun z) A') h.1 (goes (move (from_fun i) y.effect) (on_top y.below)))
  before_hop {k = k} {e = e} {n = n} {A = A} {A' = A'} {B = B} (on_fun {z = z} r) (to_arg {v = v} {u = u} {d = d} q i) m =
      let h = P.only r in
      let y = paid n 0 0 m h.2 (fits_same app_pop n 0 0) in
      subst (λ e. There k true (arg v (at root u d)) B e (fun z) A') h.0
      (subst (λ z. There k true (arg v (at root u d)) B false (fun z) A') h.1 (goes (move (to_arg q i) y.effect) (on_arg y.below)))
  before_hop {act = act} {n = n} (on_arg h) (in_arg j) m =
      let y = paid n 0 0 m h (fits_same act n 0 0) in goes (move (in_arg j) y.effect) (on_arg y.below)
  before_hop {A = A} {A' = A'} {B = B} (on_arg h) (from_arg q i) m = into_fun A A' B (from_arg q i) m h

  before_step : {k : ℕ} {d e d' : Bool} {s z s' : Spot} {A A' B : List ℕ} → Before k d s A e z A' →
      Move τ K (app f p w) d s A d' s' B → There k d' s' B e z A'
  before_step r (move j m) = before_hop r j m

  before_only : {k : ℕ} {d e : Bool} {v : Level} {c : Context} {z : Spot} {A A' : List ℕ} → Before k d (at root v c) A e z A' →
      (d ≡ e) × (at root v c ≡ z) × Below 0 0 A' A
  before_only (on_top h) = (refl, refl, h)

  data Apart : Bool → Spot → List ℕ → Type 0 where
    apart : {d : Bool} {s : Spot} {A : List ℕ} →
        ((e : Bool) (z : Spot) → Jump τ (erased (app f p w)) d s e z → ⊥) → ((v : Level) (c : Context) → s ≡ at root v c → ⊥) → Apart d s A
    of_fun : {d : Bool} {s : Spot} {A : List ℕ} → P.Q d s A → Apart d (fun s) A

  fun_closed : {d e : Bool} {s z : Spot} {act : Act} {n : ℕ} {A B : List ℕ} → P.Q d s A → Hop τ (app f p w) act n d (fun s) e z →
      Effect K act n A B → Apart e z B
  fun_closed q (in_fun j) m = of_fun (P.closed q (move j m))
  fun_closed q (from_fun h) m = absurd (P.inner q)
  fun_closed q (to_arg e h) m = absurd (P.inner q)

  before_closed : {d e : Bool} {s z : Spot} {A B : List ℕ} → Apart d s A → Move τ K (app f p w) d s A e z B → Apart e z B
  before_closed (apart h n) m = absurd (no_move h m)
  before_closed (of_fun q) (move j m) = fun_closed q j m

  before_inner : {v : Level} {c : Context} {A : List ℕ} → Apart false (at root v c) A → ⊥
  before_inner {v = v} {c = c} (apart h n) = n v c refl

  fun_next : {d e : Bool} {s z : Spot} {act : Act} {n : ℕ} {A B : List ℕ} → P.Q d s A →
      ((e : Bool) (z : Spot) → Move τ K f d s A e z B → Fin τ K (app f p w) e (fun z) B) →
      Hop τ (app f p w) act n d (fun s) e z → Effect K act n A B → Fin τ K (app f p w) e z B
  fun_next q h (in_fun j) m = h _ _ (move j m)
  fun_next q h (from_fun e) m = absurd (P.inner q)
  fun_next q h (to_arg e i) m = absurd (P.inner q)

  fun_next_move : {d e : Bool} {s z : Spot} {A B : List ℕ} → P.Q d s A →
      ((e : Bool) (z : Spot) → Move τ K f d s A e z B → Fin τ K (app f p w) e (fun z) B) →
      Move τ K (app f p w) d (fun s) A e z B → Fin τ K (app f p w) e z B
  fun_next_move q h (move j m) = fun_next q h j m

  in_fun_ends : {d : Bool} {s : Spot} {A : List ℕ} → P.Q d s A → Fin τ K f d s A → Fin τ K (app f p w) d (fun s) A
  in_fun_ends q (fin h) = fin (λ e z B m. fun_next_move q (λ e z j. in_fun_ends (P.closed q j) (h e z B j)) m)

  before_ends : {d : Bool} {s : Spot} {A : List ℕ} → Apart d s A → Fin τ K (app f p w) d s A
  before_ends (apart h n) = stuck h
  before_ends (of_fun q) = in_fun_ends q (P.ends q)

  fun_begins : {d : Bool} {s : Spot} → Begins P.S P.Q d s → Begins Before Apart d (fun s)
  fun_begins (with r) = with (on_fun r)
  fun_begins (alone q) = alone (of_fun q)

  before_begins : Short τ K a → (d : Bool) (s : Spot) → Begins Before Apart d s
  before_begins h d (at root v c) = with (on_top {A = []} {A' = []} tt)
  before_begins h d (at (wire y) v c) = alone (apart (λ e z j. at_root j) (λ v c e. absurd (cc)))
  before_begins h d (body s) = alone (apart (λ e z j. at_root j) (λ v c e. absurd (cc)))
  before_begins h d (fun s) = fun_begins (P.begins h d s)
  before_begins h d (arg v s) = with (on_arg {A = []} {A' = []} tt)

  pub of_before : Stepped τ K (app f p w) (app g p w) a
  of_before = record {
    S = Before;
    step = before_step;
    top = λ d v c A A' h. (0, on_top h);
    only = before_only;
    Q = Apart;
    closed = before_closed;
    inner = before_inner;
    ends = before_ends;
    begins = before_begins;
  }

pub stepped : (τ : Translation) (K : ℕ) {t u : Labelled} (s : Weak t u) → Stepped τ K t u (argument_of s)
stepped τ K (at_redex {b = b} {c = c} {v = v} {w = w}) =
    subst (λ u. Stepped τ K (app (lam b v) c w) (before (joined w (over v none)) u) c)
    (in_place_is b (before (under v none) c) 0) (of_redex τ K b c v w)
stepped τ K (at_function {f = f} {g = g} {a = a} {w = w} s) = of_before f g (argument_of s) a w (stepped τ K s)
