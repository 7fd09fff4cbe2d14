-- Labelled terms are normalised by the rules if redexes of too great a degree aren't contracted, but stand as heads, and
-- their parts are normalised too.
-- Used in Hops, Short, Simulating, Walked, Traces and OnlyStrong.
use Rattle.std.proofs.Common.{◌≡◌, ℕ, zero, suc, ◌+◌, ◌<◌, ◌≤◌, Bool, true, false, ◌⊎◌, inl, inr, refl, sym, subst, arith}
use Rattle.std.proofs.lemmas.Bool.{cases_lt}
use Rattle.ol_law_optimality.specs.Readings.{label_of}
use Rattle.ol_law_optimality.proofs.Putting.{ren, up, inst}
use Rattle.ol_law_optimality.proofs.Putting.{point, substituted_inst, inst_reduct, ren_reduct, before_reduct}
use Rattle.ol_law_optimality.specs.Reductions.{reduct}
use Rattle.ol_law_optimality.specs.Labels.{Label, none, atom, over, under, joined, Labelled, var, free, lam, app}
use Rattle.ol_law_optimality.specs.Labels.{before, substituted}
use Rattle.ol_law_confluence.proofs.Substitutions.{up_ren}

-- how many overlined and underlined words stand in a word
abbrev pub size : Label → ℕ
size none = 0
size (atom n v) = size v
size (over u v) = suc (size u + size v)
size (under u v) = suc (size u + size v)

pub size_joined : (u v : Label) → size (joined u v) ≡ size u + size v
size_joined none v = omega arith
size_joined (atom n u) v = size_joined u v
size_joined (over x u) v = let e = size_joined u v in omega (arith, e)
size_joined (under x u) v = let e = size_joined u v in omega (arith, e)

abbrev pub weight : Labelled → ℕ
weight t = size (label_of t)

pub weight_before : (x : Label) (t : Labelled) → weight (before x t) ≡ size x + weight t
weight_before x (var y w) = size_joined x w
weight_before x (free f w) = size_joined x w
weight_before x (lam t w) = size_joined x w
weight_before x (app t u w) = size_joined x w

-- a weak head step
pub data Weak : Labelled → Labelled → Type 0 where
  at_redex : {b c : Labelled} {v w : Label} → Weak (app (lam b v) c w) (reduct w v c b)
  at_function : {f g a : Labelled} {w : Label} → Weak f g → Weak (app f a w) (app g a w)

abbrev pub argument_of : {t u : Labelled} → Weak t u → Labelled
argument_of (at_redex {c = c}) = c
argument_of (at_function s) = argument_of s

-- By the rules: with true, a variable, a name or a wall with arguments; with false, whatever the rules build,
-- whose weak head reduction leads to no abstraction with a label of fewer than k words. A wall is a redex with
-- a degree of K words or more.
pub data Norm (K : ℕ) : ℕ → Bool → Labelled → Type 0 where
  of_var : {k y : ℕ} {w : Label} → Norm K k true (var y w)
  of_free : {k f : ℕ} {w : Label} → Norm K k true (free f w)
  of_app : {k : ℕ} {m n : Labelled} {w : Label} → Norm K k true m → Norm K 0 false n → Norm K k true (app m n w)
  plain : {k : ℕ} {t : Labelled} → Norm K k true t → Norm K k false t
  of_lam : {k : ℕ} {m : Labelled} {w : Label} → k ≤ size w → Norm K 0 false m → Norm K k false (lam m w)
  of_redex : {k : ℕ} {t u : Labelled} (s : Weak t u) → Norm K 0 false (argument_of s) → Norm K k false u → Norm K k false t
  wall : {k : ℕ} {b c : Labelled} {v w : Label} → K ≤ size v → Norm K 0 false b → Norm K 0 false c →
      Norm K k true (app (lam b v) c w)

weak_grows : {t u : Labelled} → Weak t u → weight t ≤ weight u
weak_grows (at_redex {b = b} {c = c} {v = v} {w = w}) =
    let e = weight_before (joined w (over v none)) (substituted (before (under v none) c) 0 b) in
    let f = size_joined w (over v none) in
    omega (arith, e, f)
weak_grows (at_function s) = omega arith

record Moved (t' u' a : Labelled) : Type 0 where
  step : Weak t' u'
  argument : argument_of step ≡ a

moved_on : {t u u' a : Labelled} → u ≡ u' → Moved t u a → Moved t u' a
moved_on {t} {a = a} e m = subst (λ u. Moved t u a) e m

in_function : {t u a c : Labelled} {w : Label} → Moved t u a → Moved (app t c w) (app u c w) a
in_function m = record { step = at_function m.step; argument = m.argument }

put_before : (x : Label) {t u : Labelled} (s : Weak t u) → Moved (before x t) (before x u) (argument_of s)
put_before x (at_redex {b = b} {c = c} {v = v} {w = w}) =
    moved_on (sym (before_reduct x w v c b)) (record { step = at_redex; argument = refl })
put_before x (at_function s) = record { step = at_function s; argument = refl }

-- other variables
ren_step : (ξ : ℕ → ℕ) {t u : Labelled} (s : Weak t u) → Moved (ren ξ t) (ren ξ u) (ren ξ (argument_of s))
ren_step ξ (at_redex {b = b} {c = c} {v = v} {w = w}) =
    moved_on (sym (ren_reduct ξ w v c b)) (record { step = at_redex; argument = refl })
ren_step ξ (at_function s) = in_function (ren_step ξ s)

-- terms for variables
inst_step : (σ : ℕ → Labelled) {t u : Labelled} (s : Weak t u) → Moved (inst σ t) (inst σ u) (inst σ (argument_of s))
inst_step σ (at_redex {b = b} {c = c} {v = v} {w = w}) =
    moved_on (sym (inst_reduct σ w v c b)) (record { step = at_redex; argument = refl })
inst_step σ (at_function s) = in_function (inst_step σ s)

module _ (K : ℕ) where
  plain_any : {k j : ℕ} {b : Bool} {t : Labelled} → Norm K k b t → true ≡ b → Norm K j true t
  plain_any of_var e = of_var
  plain_any of_free e = of_free
  plain_any (of_app m n) e = of_app (plain_any m refl) n
  plain_any (plain m) e = absurd (cc)
  plain_any (of_lam h m) e = absurd (cc)
  plain_any (of_redex s m n) e = absurd (cc)
  plain_any (wall h m n) e = wall h m n

  -- what the label of the whole term tells
  raised : {j k : ℕ} {b : Bool} {t : Labelled} → Norm K j b t → k ≤ weight t → Norm K k false t
  raised of_var h = plain of_var
  raised of_free h = plain of_free
  raised (of_app m n) h = plain (of_app (plain_any m refl) n)
  raised (plain m) h = raised m h
  raised (of_lam g m) h = of_lam h m
  raised (of_redex s m n) h = of_redex s m (raised n (omega (arith, h, weak_grows s)))
  raised (wall g m n) h = plain (wall g m n)

  lowered : {k : ℕ} {b : Bool} {t : Labelled} → Norm K k b t → Norm K 0 false t
  lowered r = raised r (omega arith)

  again : {k : ℕ} {t' u' a : Labelled} → Moved t' u' a → Norm K 0 false a → Norm K k false u' → Norm K k false t'
  again m n u = of_redex m.step (subst (λ a. Norm K 0 false a) (sym m.argument) n) u

  pub relabelled : (x : Label) {k : ℕ} {b : Bool} {t : Labelled} → Norm K k b t → Norm K k b (before x t)
  relabelled x of_var = of_var
  relabelled x of_free = of_free
  relabelled x (of_app m n) = of_app m n
  relabelled x (plain m) = plain (relabelled x m)
  relabelled x (of_lam {w = w} h m) = let e = size_joined x w in of_lam (omega (arith, h, e)) m
  relabelled x (of_redex s m n) = again (put_before x s) m (relabelled x n)
  relabelled x (wall h m n) = wall h m n

  renamed : (ξ : ℕ → ℕ) {k : ℕ} {b : Bool} {t : Labelled} → Norm K k b t → Norm K k b (ren ξ t)
  renamed ξ of_var = of_var
  renamed ξ of_free = of_free
  renamed ξ (of_app m n) = of_app (renamed ξ m) (renamed ξ n)
  renamed ξ (plain m) = plain (renamed ξ m)
  renamed ξ (of_lam h m) = of_lam h (renamed (up_ren ξ) m)
  renamed ξ (of_redex s m n) = again (ren_step ξ s) (renamed ξ m) (renamed ξ n)
  renamed ξ (wall h m n) = wall h (renamed (up_ren ξ) m) (renamed ξ n)

  abbrev Applies : ℕ → Type 0
  Applies k = (m n : Labelled) (w : Label) → Norm K k false m → Norm K 0 false n → Norm K k false (app m n w)

  abbrev Good : ℕ → (ℕ → Labelled) → Type 0
  Good k σ = (y : ℕ) → Norm K k false (σ y)

  good_up : (k : ℕ) (σ : ℕ → Labelled) → Good k σ → Good k (up σ)
  good_up k σ g zero = plain of_var
  good_up k σ g (suc y) = renamed suc (g y)

  abbrev Result : ℕ → Bool → Labelled → Type 0
  Result k true t = Norm K k false t
  Result k false t = Norm K 0 false t

  put_in : (k : ℕ) → Applies k → (σ : ℕ → Labelled) → Good k σ → {j : ℕ} {b : Bool} {t : Labelled} → Norm K j b t →
      Result k b (inst σ t)
  put_in k a σ g (of_var {y = y} {w = w}) = relabelled w (g y)
  put_in k a σ g of_free = plain of_free
  put_in k a σ g (of_app {m = m} {n = n} {w = w} r s) =
      a (inst σ m) (inst σ n) w (put_in k a σ g r) (put_in k a σ g s)
  put_in k a σ g (plain r) = lowered (put_in k a σ g r)
  put_in k a σ g (of_lam h r) = of_lam (omega arith) (put_in k a (up σ) (good_up k σ g) r)
  put_in k a σ g (of_redex s r u) = again (inst_step σ s) (put_in k a σ g r) (put_in k a σ g u)
  put_in k a σ g (wall h m n) = plain (wall h (put_in k a (up σ) (good_up k σ g) m) (put_in k a σ g n))

  good_point : (k : ℕ) (c : Labelled) → Norm K k false c → Good k (point c)
  good_point k c h zero = h
  good_point k c h (suc y) = plain of_var

  -- what is left of a redex whose degree isn't too great
  contracts : (v w : Label) (b c : Labelled) → Applies (suc (size v)) → Norm K 0 false b → Norm K 0 false c →
      Norm K (suc (size v)) false (reduct w v c b)
  contracts v w b c a r s =
      let C = before (under v none) c in
      let e = weight_before (under v none) c in
      let p = put_in (suc (size v)) a (point C) (good_point (suc (size v)) C (raised (relabelled (under v none) s) (omega (arith, e)))) r in
      let q : Norm K 0 false (substituted C 0 b) = subst (λ t. Norm K 0 false t) (sym (substituted_inst C b)) p in
      let f = weight_before (joined w (over v none)) (substituted C 0 b) in
      let g = size_joined w (over v none) in
      raised (relabelled (joined w (over v none)) q) (omega (arith, f, g))

  at_lam : (v w : Label) (b c : Labelled) (k : ℕ) → k ≤ size v → ((size v < K) ⊎ (K ≤ size v)) →
      (size v < K → Applies (suc (size v))) → Norm K 0 false b → Norm K 0 false c → Norm K k false (app (lam b v) c w)
  at_lam v w b c k h (inr g) next r s = plain (wall g r s)
  at_lam v w b c k h (inl g) next r s =
      of_redex at_redex s (raised (contracts v w b c (next g) r s) (let e = weight_before (joined w (over v none))
      (substituted (before (under v none) c) 0 b) in let f = size_joined w (over v none) in omega (arith, e, f, h)))

  applied : (k : ℕ) → ((v : Label) → k ≤ size v → size v < K → Applies (suc (size v))) →
      (n : Labelled) (w : Label) → Norm K 0 false n → {b : Bool} {m : Labelled} → Norm K k b m → Norm K k false (app m n w)
  applied k next n w s of_var = plain (of_app of_var s)
  applied k next n w s of_free = plain (of_app of_free s)
  applied k next n w s (of_app r r') = plain (of_app (of_app r r') s)
  applied k next n w s (plain r) = plain (of_app r s)
  applied k next n w s (of_lam {m = m} {w = v} h r) = at_lam v w m n k h (cases_lt (size v) K) (next v h) r s
  applied k next n w s (of_redex q r u) = of_redex (at_function q) r (applied k next n w s u)
  applied k next n w s (wall h r r') = plain (of_app (wall h r r') s)

  applies : (f k : ℕ) → K ≤ k + f → Applies k
  applies zero k h m n w r s = applied k (λ v g g'. absurd (omega (arith, h, g, g'))) n w s r
  applies (suc f) k h m n w r s = applied k (λ v g g'. applies f (suc (size v)) (omega (arith, h, g))) n w s r

  pub all_norm : (t : Labelled) → Norm K 0 false t
  all_norm (var y w) = plain of_var
  all_norm (free f w) = plain of_free
  all_norm (lam t w) = of_lam (omega arith) (all_norm t)
  all_norm (app t u w) = applies K 0 (omega arith) t u w (all_norm t) (all_norm u)
