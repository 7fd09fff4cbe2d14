-- What is overlined and underlined in the labels of a term, and the degrees of its redexes, after a
-- whole family went.
use Rattle.std.proofs.Common.{◌≡◌, ◌≢◌, ℕ, zero, suc, ◌+◌, ◌<◌, ◌==◌, Bool, true, false, ◌⊎◌, inl}
use Rattle.std.proofs.Common.{inr, List, [], ◌∷◌, Some, None, refl, sym, ap, ◌∙◌, subst, arith}
use Rattle.std.specs.Prelude.{if◌then◌else◌}
use Rattle.std.proofs.lemmas.Option.{same_Some, none-some}
use Rattle.ol_law_optimality.specs.Labels.{Label, none, atom, over, under, joined, Labelled, var, free}
use Rattle.ol_law_optimality.specs.Labels.{lam, app, before, substituted, degree_of_abstraction, degree}
use Rattle.ol_law_optimality.specs.Reductions.{Parallel, of_var, of_free, of_lam, of_app, of_redex, reduct}
use Rattle.ol_law_optimality.specs.Reductions.{WholeFamily, all_var, all_free, all_lam, all_app, all_redex}
use Rattle.ol_law_confluence.proofs.Substitutions.{up_ren}
use Rattle.ol_law_optimality.proofs.Putting.{ren, up, inst, point, substituted_inst}

-- ---- what is overlined or underlined in a label

abbrev pub HasPart : Label → Label → Type 0
HasPart x none = ⊥
HasPart x (atom n v) = HasPart x v
HasPart x (over u v) = (u ≡ x) ⊎ HasPart x v
HasPart x (under u v) = (u ≡ x) ⊎ HasPart x v

pub part_right : (x u v : Label) → HasPart x v → HasPart x (joined u v)
part_right x none v h = h
part_right x (atom n u) v h = part_right x u v h
part_right x (over y u) v h = inr (part_right x u v h)
part_right x (under y u) v h = inr (part_right x u v h)

pub part_left : (x u v : Label) → HasPart x u → HasPart x (joined u v)
part_left x none v h = absurd h
part_left x (atom n u) v h = part_left x u v h
part_left x (over y u) v (inl e) = inl e
part_left x (over y u) v (inr h) = inr (part_left x u v h)
part_left x (under y u) v (inl e) = inl e
part_left x (under y u) v (inr h) = inr (part_left x u v h)

part_cases : (x u v : Label) → HasPart x (joined u v) → HasPart x u ⊎ HasPart x v
part_cases x none v h = inr h
part_cases x (atom n u) v h = part_cases x u v h
part_cases x (over y u) v (inl e) = inl (inl e)
part_cases x (over y u) v (inr h) =
    elim (part_cases x u v h) [ inl k ↦ inl (inr k) | inr k ↦ inr k ]
part_cases x (under y u) v (inl e) = inl (inl e)
part_cases x (under y u) v (inr h) =
    elim (part_cases x u v h) [ inl k ↦ inl (inr k) | inr k ↦ inr k ]

abbrev letters : Label → ℕ
letters none = 0
letters (atom n v) = letters v
letters (over u v) = suc (letters u + letters v)
letters (under u v) = suc (letters u + letters v)

part_smaller : (x v : Label) → HasPart x v → letters x < letters v
part_smaller x none h = absurd h
part_smaller x (atom n v) h = part_smaller x v h
part_smaller x (over u v) (inl e) = let k = ap letters e in omega (arith, k)
part_smaller x (over u v) (inr h) = let k = part_smaller x v h in omega (arith, k)
part_smaller x (under u v) (inl e) = let k = ap letters e in omega (arith, k)
part_smaller x (under u v) (inr h) = let k = part_smaller x v h in omega (arith, k)

pub not_own_part : (x : Label) → HasPart x x → ⊥
not_own_part x h = let k = part_smaller x x h in absurd (omega (arith, k))

-- ---- the labels of a term

-- all of it is in H
abbrev pub PartsIn : (Label → Type 0) → Label → Type 0
PartsIn H v = (x : Label) → HasPart x v → H x

abbrev pub Made : (Label → Type 0) → Labelled → Type 0
Made H (var k w) = PartsIn H w
Made H (free k w) = PartsIn H w
Made H (lam t w) = PartsIn H w × Made H t
Made H (app f a w) = PartsIn H w × Made H f × Made H a

pub made_wider : (H K : Label → Type 0) → ((x : Label) → H x → K x) → (t : Labelled) →
    Made H t → Made K t
made_wider H K h (var k w) m = λ x i. h x (m x i)
made_wider H K h (free k w) m = λ x i. h x (m x i)
made_wider H K h (lam t w) m = ((λ x i. h x (m.0 x i)), made_wider H K h t m.1)
made_wider H K h (app f a w) m =
    ((λ x i. h x (m.0 x i)), made_wider H K h f m.1, made_wider H K h a m.2)

module _ (H : Label → Type 0) where
  parts_joined : (v w : Label) → PartsIn H v → PartsIn H w → PartsIn H (joined v w)
  parts_joined v w h k x i = elim (part_cases x v w i) [ inl j ↦ h x j | inr j ↦ k x j ]

  made_before : (v : Label) (t : Labelled) → PartsIn H v → Made H t → Made H (before v t)
  made_before v (var k w) h m = parts_joined v w h m
  made_before v (free k w) h m = parts_joined v w h m
  made_before v (lam t w) h m = (parts_joined v w h m.0, m.1)
  made_before v (app f a w) h m = (parts_joined v w h m.0, m.1, m.2)

  made_ren : (ξ : ℕ → ℕ) (t : Labelled) → Made H t → Made H (ren ξ t)
  made_ren ξ (var k w) m = m
  made_ren ξ (free k w) m = m
  made_ren ξ (lam t w) m = (m.0, made_ren (up_ren ξ) t m.1)
  made_ren ξ (app f a w) m = (m.0, made_ren ξ f m.1, made_ren ξ a m.2)

  made_up : (σ : ℕ → Labelled) → ((y : ℕ) → Made H (σ y)) → (y : ℕ) → Made H (up σ y)
  made_up σ h zero = λ x i. absurd i
  made_up σ h (suc y) = made_ren suc (σ y) (h y)

  made_inst : (σ : ℕ → Labelled) → ((y : ℕ) → Made H (σ y)) → (t : Labelled) → Made H t →
      Made H (inst σ t)
  made_inst σ h (var y w) m = made_before w (σ y) m (h y)
  made_inst σ h (free f w) m = m
  made_inst σ h (lam t w) m = (m.0, made_inst (up σ) (made_up σ h) t m.1)
  made_inst σ h (app f a w) m = (m.0, made_inst σ h f m.1, made_inst σ h a m.2)

  made_point : (c : Labelled) → Made H c → (y : ℕ) → Made H (point c y)
  made_point c m zero = m
  made_point c m (suc y) = λ x i. absurd i

  made_reduct : (w v : Label) (c b : Labelled) → H v → PartsIn H w → Made H c → Made H b →
      Made H (reduct w v c b)
  made_reduct w v c b h k m n =
      made_before (joined w (over v none)) (substituted (before (under v none) c) 0 b)
      (parts_joined w (over v none) k
      (λ x i. elim i [ inl e ↦ subst H e h | inr j ↦ absurd j ]))
      (subst (Made H) (sym (substituted_inst (before (under v none) c) b))
      (made_inst (point (before (under v none) c))
      (made_point (before (under v none) c)
      (made_before (under v none) c (λ x i. elim i [ inl e ↦ subst H e h | inr j ↦ absurd j ]) m))
      b n))

  -- a step overlines and underlines its degrees, and nothing else
  pub made_parallel : (P : Label → Type 0) → ((v : Label) → P v → H v) → {t u : Labelled} →
      Parallel P t u → Made H t → Made H u
  made_parallel P h of_var m = m
  made_parallel P h of_free m = m
  made_parallel P h (of_lam p) m = (m.0, made_parallel P h p m.1)
  made_parallel P h (of_app p q) m = (m.0, made_parallel P h p m.1, made_parallel P h q m.2)
  made_parallel P h (of_redex {M' = M'} {N' = N'} {v = v} {w = w} i p q) m =
      made_reduct w v N' M' (h v i) m.0 (made_parallel P h q m.2) (made_parallel P h p m.1.1)

-- ---- the redexes of a term

-- each has a degree in R
abbrev pub Degrees : (Label → Type 0) → Labelled → Type 0
Degrees R (var k w) = Unit {0}
Degrees R (free k w) = Unit {0}
Degrees R (lam t w) = Degrees R t
Degrees R (app f a w) =
    ((v : Label) → degree_of_abstraction f ≡ Some v → R v) × Degrees R f × Degrees R a

pub any_degrees : (R : Label → Type 0) → ((v : Label) → R v) → (t : Labelled) → Degrees R t
any_degrees R h (var k w) = tt
any_degrees R h (free k w) = tt
any_degrees R h (lam t w) = any_degrees R h t
any_degrees R h (app f a w) = ((λ v e. h v), any_degrees R h f, any_degrees R h a)

-- the label of an abstraction with a word before it
pub before_degree : (x : Label) (t : Labelled) (v : Label) →
    degree_of_abstraction (before x t) ≡ Some v →
    (u : Label) × (v ≡ joined x u) × (degree_of_abstraction t ≡ Some u)
before_degree x (var k w) v e = absurd (none-some _ e)
before_degree x (free k w) v e = absurd (none-some _ e)
before_degree x (lam t w) v e = (w, sym (same_Some (joined x w) v e), refl)
before_degree x (app f a w) v e = absurd (none-some _ e)

pub ren_degree : (ξ : ℕ → ℕ) (t : Labelled) → degree_of_abstraction (ren ξ t) ≡ degree_of_abstraction t
ren_degree ξ (var k w) = refl
ren_degree ξ (free k w) = refl
ren_degree ξ (lam t w) = refl
ren_degree ξ (app f a w) = refl

-- an abstraction of which d is a part
abbrev pub Bears : Label → Labelled → Type 0
Bears d t = (v : Label) → degree_of_abstraction t ≡ Some v → HasPart d v

module _ (R : Label → Type 0) (d : Label) (new : (v : Label) → HasPart d v → R v) where
  degrees_before : (x : Label) (t : Labelled) → Degrees R t → Degrees R (before x t)
  degrees_before x (var k w) g = tt
  degrees_before x (free k w) g = tt
  degrees_before x (lam t w) g = g
  degrees_before x (app f a w) g = g

  degrees_ren : (ξ : ℕ → ℕ) (t : Labelled) → Degrees R t → Degrees R (ren ξ t)
  degrees_ren ξ (var k w) g = tt
  degrees_ren ξ (free k w) g = tt
  degrees_ren ξ (lam t w) g = degrees_ren (up_ren ξ) t g
  degrees_ren ξ (app f a w) g =
      ((λ v e. g.0 v (sym (ren_degree ξ f) ∙ e)), degrees_ren ξ f g.1, degrees_ren ξ a g.2)

  -- the terms put in are such that abstractions among them have d as a part of their labels
  record Fit (σ : ℕ → Labelled) : Type 0 where
    degrees : (y : ℕ) → Degrees R (σ y)
    bears : (y : ℕ) → Bears d (σ y)

  fit_up : (σ : ℕ → Labelled) → Fit σ → Fit (up σ)
  fit_up σ h = record { degrees = own; bears = bear }
    where
      own : (y : ℕ) → Degrees R (up σ y)
      own zero = tt
      own (suc y) = degrees_ren suc (σ y) (h.degrees y)

      bear : (y : ℕ) → Bears d (up σ y)
      bear zero v e = absurd (none-some _ e)
      bear (suc y) v e = h.bears y v (sym (ren_degree suc (σ y)) ∙ e)

  degrees_inst : (σ : ℕ → Labelled) → Fit σ → (t : Labelled) → Degrees R t → Degrees R (inst σ t)
  degrees_inst σ h (var y w) g = degrees_before w (σ y) (h.degrees y)
  degrees_inst σ h (free f w) g = tt
  degrees_inst σ h (lam t w) g = degrees_inst (up σ) (fit_up σ h) t g
  degrees_inst σ h (app f a w) g =
      (function f g.0, degrees_inst σ h f g.1, degrees_inst σ h a g.2)
    where
      function : (f : Labelled) → ((v : Label) → degree_of_abstraction f ≡ Some v → R v) →
          (v : Label) → degree_of_abstraction (inst σ f) ≡ Some v → R v
      function (var y x) g v e =
          let r = before_degree x (σ y) v e in
          new v
          (subst (HasPart d) (sym r.1) (part_right d x r.0 (h.bears y r.0 r.2)))
      function (free k x) g v e = absurd (none-some _ e)
      function (lam b x) g v e = g v e
      function (app k b x) g v e = absurd (none-some _ e)

  degrees_reduct : (w : Label) (c b : Labelled) → Degrees R c → Degrees R b →
      Degrees R (reduct w d c b)
  degrees_reduct w c b g k =
      degrees_before (joined w (over d none)) (substituted (before (under d none) c) 0 b)
      (subst (Degrees R) (sym (substituted_inst (before (under d none) c) b))
      (degrees_inst (point (before (under d none) c)) (record { degrees = own; bears = bear }) b k))
    where
      own : (y : ℕ) → Degrees R (point (before (under d none) c) y)
      own zero = degrees_before (under d none) c g
      own (suc y) = tt

      bear : (y : ℕ) → Bears d (point (before (under d none) c) y)
      bear zero v e =
          let r = before_degree (under d none) c v e in subst (HasPart d) (sym r.1) (inl refl)
      bear (suc y) v e = absurd (none-some _ e)

  -- what becomes an abstraction has d as a part of its label
  becomes : {t u : Labelled} → WholeFamily d t u → (v : Label) →
      degree_of_abstraction u ≡ Some v → (degree_of_abstraction t ≡ Some v) ⊎ HasPart d v
  becomes all_var v e = absurd (none-some _ e)
  becomes all_free v e = absurd (none-some _ e)
  becomes (all_lam p) v e = inl e
  becomes (all_app n p q) v e = absurd (none-some _ e)
  becomes (all_redex {M' = M'} {N' = N'} {w = w} p q) v e =
      let r =
      before_degree (joined w (over d none)) (substituted (before (under d none) N') 0 M') v e in
      inr
      (subst (HasPart d) (sym r.1)
      (part_left d (joined w (over d none)) r.0 (part_right d w (over d none) (inl refl))))

  -- Once the whole family went, each redex has the degree of one that was there, and is of another
  -- family; or d is a part of its degree.
  pub whole_degrees : (Q : Label → Type 0) → ((v : Label) → Q v → v ≢ d → R v) →
      {t u : Labelled} → WholeFamily d t u → Degrees Q t → Degrees R u
  whole_degrees Q old all_var g = tt
  whole_degrees Q old all_free g = tt
  whole_degrees Q old (all_lam p) g = whole_degrees Q old p g
  whole_degrees Q old (all_app {M = M} n p q) g = (
    λ v e. elim (becomes p v e) [
      | inl k ↦ old v (g.0 v k) (λ l. n (k ∙ ap Some l))
      | inr h ↦ new v h
    ],
    whole_degrees Q old p g.1,
    whole_degrees Q old q g.2,
  )
  whole_degrees Q old (all_redex {M' = M'} {N' = N'} {w = w} p q) g =
      degrees_reduct w N' M' (whole_degrees Q old q g.2) (whole_degrees Q old p g.1)

-- ---- the degree of the redex at an address

pub degree_made : (H : Label → Type 0) (t : Labelled) (at : List ℕ) (d : Label) →
    degree t at ≡ Some d → Made H t → PartsIn H d
degree_made H (var k w) at d e m = absurd (none-some _ e)
degree_made H (free k w) at d e m = absurd (none-some _ e)
degree_made H (lam t w) [] d e m = absurd (none-some _ e)
degree_made H (lam t w) (n ∷ at) d e m = go (degree_made H t at d) (n == 0) e
  where
    go : (degree t at ≡ Some d → Made H t → PartsIn H d) → (b : Bool) →
        (if b then degree t at else None) ≡ Some d → PartsIn H d
    go next true e = next e m.1
    go next false e = absurd (none-some _ e)
degree_made H (app (var k v) a w) [] d e m = absurd (none-some _ e)
degree_made H (app (free k v) a w) [] d e m = absurd (none-some _ e)
degree_made H (app (lam b v) a w) [] d e m = subst (PartsIn H) (same_Some v d e) m.1.0
degree_made H (app (app f b v) a w) [] d e m = absurd (none-some _ e)
degree_made H (app f a w) (n ∷ at) d e m =
    go (degree_made H f at d) (degree_made H a at d) (n == 1) (n == 2) e
  where
    go : (degree f at ≡ Some d → Made H f → PartsIn H d) →
        (degree a at ≡ Some d → Made H a → PartsIn H d) → (b c : Bool) →
        (if b then degree f at else if c then degree a at else None) ≡ Some d → PartsIn H d
    go fun arg true c e = fun e m.1
    go fun arg false true e = arg e m.2
    go fun arg false false e = absurd (none-some _ e)

pub degree_in : (R : Label → Type 0) (t : Labelled) (at : List ℕ) (d : Label) →
    degree t at ≡ Some d → Degrees R t → R d
degree_in R (var k w) at d e g = absurd (none-some _ e)
degree_in R (free k w) at d e g = absurd (none-some _ e)
degree_in R (lam t w) [] d e g = absurd (none-some _ e)
degree_in R (lam t w) (n ∷ at) d e g = go (degree_in R t at d) (n == 0) e
  where
    go : (degree t at ≡ Some d → Degrees R t → R d) → (b : Bool) →
        (if b then degree t at else None) ≡ Some d → R d
    go next true e = next e g
    go next false e = absurd (none-some _ e)
degree_in R (app f a w) [] d e g = g.0 d e
degree_in R (app f a w) (n ∷ at) d e g =
    go (degree_in R f at d) (degree_in R a at d) (n == 1) (n == 2) e
  where
    go : (degree f at ≡ Some d → Degrees R f → R d) → (degree a at ≡ Some d → Degrees R a → R d) →
        (b c : Bool) → (if b then degree f at else if c then degree a at else None) ≡ Some d → R d
    go fun arg true c e = fun e g.1
    go fun arg false true e = arg e g.2
    go fun arg false false e = absurd (none-some _ e)
