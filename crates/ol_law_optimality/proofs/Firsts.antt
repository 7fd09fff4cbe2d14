-- The leftmost redex of a labelled term, by its degree. A parallel step contracts it or leaves it
-- the leftmost one, of the same degree.
use Rattle.std.proofs.Common.{◌≡◌, ℕ, Bool, true, false, if◌then◌else◌, ◌⊎◌, inl, inr, List, []}
use Rattle.std.proofs.Common.{◌∷◌, Option, Some, None, refl, sym, ap, ◌∙◌, subst}
use Rattle.std.proofs.lemmas.Option.{same_Some, none-some}
use Rattle.std.specs.Option.{option_or}
use Rattle.ol_beta.specs.Leftmost.{leftmost, is_abstraction}
use Rattle.ol_beta.specs.Leftmost as beta_steps
use Rattle.ol_beta.proofs.Redexes.{no_under, no_first}
use Rattle.ol_law_optimality.specs.Labels.{Label, Labelled, var, free, lam, app, erased, degree}
use Rattle.ol_law_optimality.specs.Reductions.{Parallel, of_var, of_free, of_lam, of_app, of_redex}
use Rattle.ol_law_optimality.proofs.Together.{of_lam_view, OfApp, OfRedex, of_app_view}

-- no redex is there
abbrev pub IsStill : Labelled → Type 0
IsStill t = leftmost (erased t) ≡ None

abbrev pub IsPlain : Labelled → Type 0
IsPlain t = is_abstraction (erased t) ≡ false

-- the leftmost redex has this degree
pub data IsFirst : Label → Labelled → Type 0 where
  at_redex : {b c : Labelled} {v w : Label} → IsFirst v (app (lam b v) c w)
  below_lam : {t : Labelled} {d w : Label} → IsFirst d t → IsFirst d (lam t w)
  in_function : {f a : Labelled} {d w : Label} → IsPlain f → IsFirst d f → IsFirst d (app f a w)
  in_argument : {f a : Labelled} {d w : Label} → IsPlain f → IsStill f → IsFirst d a →
      IsFirst d (app f a w)

-- ---- terms without a redex

clash : true ≡ false → ⊥
clash e = absurd (cc)

pub record Parts (f a : Labelled) : Type 0 where
  pub plain : IsPlain f
  pub function : IsStill f
  pub argument : IsStill a

pub parts : (f a : Labelled) (w : Label) → IsStill (app f a w) → Parts f a
parts f a w e = go (is_abstraction (erased f)) refl e
  where
    go : (b : Bool) → is_abstraction (erased f) ≡ b →
        (if b then Some [] else option_or (beta_steps.under 1 (leftmost (erased f)))
        (beta_steps.under 2 (leftmost (erased a)))) ≡ None → Parts f a
    go true h e = absurd (none-some _ (sym e))
    go false h e =
        let r =
        no_first (beta_steps.under 1 (leftmost (erased f)))
        (beta_steps.under 2 (leftmost (erased a))) e in
        record {
          plain = h;
          function = no_under 1 (leftmost (erased f)) r.0;
          argument =
              no_under 2 (leftmost (erased a)) r.1;
        }

pub first_is_none : {d : Label} {t : Labelled} → IsFirst d t → IsStill t → ⊥
first_is_none at_redex e = none-some _ (sym e)
first_is_none (below_lam {t = t} h) e = first_is_none h (no_under 0 (leftmost (erased t)) e)
first_is_none (in_function {f = f} {a = a} {w = w} n h) e = first_is_none h (parts f a w e).function
first_is_none (in_argument {f = f} {a = a} {w = w} n s h) e =
    first_is_none h (parts f a w e).argument

-- ---- a parallel step

module _ (P : Label → Type 0) where
  -- leaves a term without a redex as it is
  pub stays : {t u : Labelled} → Parallel P t u → IsStill t → u ≡ t
  stays of_var e = refl
  stays of_free e = refl
  stays (of_lam {M = M} {w = w} p) e = ap (λ b. lam b w) (stays p (no_under 0 (leftmost (erased M)) e))
  stays (of_app {M = M} {M' = M'} {N = N} {N' = N'} {w = w} p q) e =
      let r = parts M N w e in
      ap (λ f. app f N' w) (stays p r.function) ∙ ap (λ a. app M a w) (stays q r.argument)
  stays (of_redex i p q) e = absurd (none-some _ (sym e))

  -- and a function that has a redex doesn't become an abstraction, unless its leftmost redex goes
  pub stays_plain : {d : Label} {f u : Labelled} → IsFirst d f → IsPlain f → Parallel P f u →
      P d ⊎ IsPlain u
  stays_plain {u = u} (at_redex {b = b} {c = c} {v = v} {w = w}) n p = go (of_app_view p)
    where
      go : OfApp P (lam b v) c w u ⊎ OfRedex P (lam b v) c w u → P v ⊎ IsPlain u
      go (inl x) = inr (ap (λ u. is_abstraction (erased u)) x.is)
      go (inr x) =
          let k : x.degree ≡ v = (let e = x.fun_is in cc) in inl (subst P k x.chosen)
  stays_plain (below_lam h) n p = absurd (clash n)
  stays_plain {d = d} {u = u} (in_function {f = f} {a = a} {w = w} m h) n p = go (of_app_view p)
    where
      go : OfApp P f a w u ⊎ OfRedex P f a w u → P d ⊎ IsPlain u
      go (inl x) = inr (ap (λ u. is_abstraction (erased u)) x.is)
      go (inr x) = absurd (clash (ap (λ f. is_abstraction (erased f)) (sym x.fun_is) ∙ m))
  stays_plain {d = d} {u = u} (in_argument {f = f} {a = a} {w = w} m s h) n p = go (of_app_view p)
    where
      go : OfApp P f a w u ⊎ OfRedex P f a w u → P d ⊎ IsPlain u
      go (inl x) = inr (ap (λ u. is_abstraction (erased u)) x.is)
      go (inr x) = absurd (clash (ap (λ f. is_abstraction (erased f)) (sym x.fun_is) ∙ m))

  pub first_stays : {d : Label} {t u : Labelled} → IsFirst d t → Parallel P t u → P d ⊎ IsFirst d u
  first_stays {u = u} (at_redex {b = b} {c = c} {v = v} {w = w}) p = go (of_app_view p)
    where
      go : OfApp P (lam b v) c w u ⊎ OfRedex P (lam b v) c w u → P v ⊎ IsFirst v u
      go (inl x) =
          let f = of_lam_view x.fun_step in
          inr (subst (IsFirst v) (sym (x.is ∙ ap (λ f. app f x.arg w) f.is)) at_redex)
      go (inr x) =
          let k : x.degree ≡ v = (let e = x.fun_is in cc) in inl (subst P k x.chosen)
  first_stays {d = d} {u = u} (below_lam {t = t} {w = w} h) p =
      go (of_lam_view p).body (of_lam_view p).is (first_stays h (of_lam_view p).step)
    where
      go : (b : Labelled) → u ≡ lam b w → P d ⊎ IsFirst d b → P d ⊎ IsFirst d u
      go b e (inl i) = inl i
      go b e (inr h) = inr (subst (IsFirst d) (sym e) (below_lam h))
  first_stays {d = d} {u = u} (in_function {f = f} {a = a} {w = w} n h) p =
      go (of_app_view p) (λ g q. first_stays h q)
    where
      both : (g b : Labelled) → u ≡ app g b w → P d ⊎ IsPlain g → P d ⊎ IsFirst d g →
          P d ⊎ IsFirst d u
      both g b e (inl i) h = inl i
      both g b e (inr m) (inl i) = inl i
      both g b e (inr m) (inr h) = inr (subst (IsFirst d) (sym e) (in_function m h))

      go : OfApp P f a w u ⊎ OfRedex P f a w u →
          ((g : Labelled) → Parallel P f g → P d ⊎ IsFirst d g) → P d ⊎ IsFirst d u
      go (inl x) fun =
          both x.fun x.arg x.is (stays_plain h n x.fun_step) (fun x.fun x.fun_step)
      go (inr x) fun = absurd (clash (ap (λ f. is_abstraction (erased f)) (sym x.fun_is) ∙ n))
  first_stays {d = d} {u = u} (in_argument {f = f} {a = a} {w = w} n s h) p =
      go (of_app_view p) (λ b q. first_stays h q)
    where
      of : (g b : Labelled) → u ≡ app g b w → g ≡ f → P d ⊎ IsFirst d b → P d ⊎ IsFirst d u
      of g b e k (inl i) = inl i
      of g b e k (inr h) =
          inr (subst (IsFirst d) (sym (e ∙ ap (λ f. app f b w) k)) (in_argument n s h))

      go : OfApp P f a w u ⊎ OfRedex P f a w u →
          ((b : Labelled) → Parallel P a b → P d ⊎ IsFirst d b) → P d ⊎ IsFirst d u
      go (inl x) arg = of x.fun x.arg x.is (stays x.fun_step s) (arg x.arg x.arg_step)
      go (inr x) arg = absurd (clash (ap (λ f. is_abstraction (erased f)) (sym x.fun_is) ∙ n))

-- ---- the leftmost redex is the first one

-- an address from one move further up
record Within (m : ℕ) (o : Option (List ℕ)) (at : List ℕ) : Type 0 where
  rest : List ℕ
  is : at ≡ m ∷ rest
  leads : o ≡ Some rest

within : (m : ℕ) (o : Option (List ℕ)) (at : List ℕ) → beta_steps.under m o ≡ Some at → Within m o at
within m None at e = absurd (none-some _ e)
within m (Some rest) at e =
    record { rest = rest; is = sym (same_Some (m ∷ rest) at e); leads = refl }

first_of_app : (f a : Labelled) (w : Label) (at : List ℕ) (d : Label) → IsPlain f →
    ((at : List ℕ) → leftmost (erased f) ≡ Some at → degree f at ≡ Some d → IsFirst d f) →
    ((at : List ℕ) → leftmost (erased a) ≡ Some at → degree a at ≡ Some d → IsFirst d a) →
    option_or (beta_steps.under 1 (leftmost (erased f))) (beta_steps.under 2 (leftmost (erased a)))
    ≡ Some at → degree (app f a w) at ≡ Some d → IsFirst d (app f a w)
first_of_app f a w at d n fun arg e g = go (leftmost (erased f)) refl e
  where
    go : (o : Option (List ℕ)) → leftmost (erased f) ≡ o →
        option_or (beta_steps.under 1 o) (beta_steps.under 2 (leftmost (erased a))) ≡ Some at →
        IsFirst d (app f a w)
    go None k e =
        let x = within 2 (leftmost (erased a)) at e in
        in_argument n k (arg x.rest x.leads (sym (ap (degree (app f a w)) x.is) ∙ g))
    go (Some rest) k e =
        let q : 1 ∷ rest ≡ at = same_Some (1 ∷ rest) at e in
        in_function n (fun rest k (ap (degree (app f a w)) q ∙ g))

pub first_of : (t : Labelled) (at : List ℕ) (d : Label) → leftmost (erased t) ≡ Some at →
    degree t at ≡ Some d → IsFirst d t
first_of (var k w) at d e g = absurd (none-some _ e)
first_of (free k w) at d e g = absurd (none-some _ e)
first_of (lam t w) at d e g =
    let x = within 0 (leftmost (erased t)) at e in
    below_lam (first_of t x.rest d x.leads (sym (ap (degree (lam t w)) x.is) ∙ g))
first_of (app (lam b v) a w) at d e g =
    let q : [] ≡ at = same_Some [] at e in
    let k : v ≡ d = same_Some v d (ap (degree (app (lam b v) a w)) q ∙ g) in
    subst (λ d. IsFirst d (app (lam b v) a w)) k at_redex
first_of (app (var k v) a w) at d e g =
    first_of_app (var k v) a w at d refl (λ at. first_of (var k v) at d) (λ at. first_of a at d) e g
first_of (app (free k v) a w) at d e g =
    first_of_app (free k v) a w at d refl (λ at. first_of (free k v) at d) (λ at. first_of a at d) e g
first_of (app (app f b v) a w) at d e g =
    first_of_app (app f b v) a w at d refl (λ at. first_of (app f b v) at d) (λ at. first_of a at d)
    e g

-- the leftmost redex has a degree
pub first_degree : (t : Labelled) (at : List ℕ) → leftmost (erased t) ≡ Some at →
    (d : Label) × (degree t at ≡ Some d)
first_degree (var k w) at e = absurd (none-some _ e)
first_degree (free k w) at e = absurd (none-some _ e)
first_degree (lam t w) at e =
    let x = within 0 (leftmost (erased t)) at e in
    let r = first_degree t x.rest x.leads in
    (r.0, ap (degree (lam t w)) x.is ∙ r.1)
first_degree (app (lam b v) a w) at e =
    (v, ap (degree (app (lam b v) a w)) (sym (same_Some [] at e)))
first_degree (app (var k v) a w) at e =
    let x = within 2 (leftmost (erased a)) at e in
    let r = first_degree a x.rest x.leads in
    (r.0, ap (degree (app (var k v) a w)) x.is ∙ r.1)
first_degree (app (free k v) a w) at e =
    let x = within 2 (leftmost (erased a)) at e in
    let r = first_degree a x.rest x.leads in
    (r.0, ap (degree (app (free k v) a w)) x.is ∙ r.1)
first_degree (app (app f b v) a w) at e =
    go (leftmost (erased (app f b v))) refl e (first_degree (app f b v)) (first_degree a)
  where
    go : (o : Option (List ℕ)) → leftmost (erased (app f b v)) ≡ o →
        option_or (beta_steps.under 1 o) (beta_steps.under 2 (leftmost (erased a))) ≡ Some at →
        ((at : List ℕ) → leftmost (erased (app f b v)) ≡ Some at →
        (d : Label) × (degree (app f b v) at ≡ Some d)) →
        ((at : List ℕ) → leftmost (erased a) ≡ Some at → (d : Label) × (degree a at ≡ Some d)) →
        (d : Label) × (degree (app (app f b v) a w) at ≡ Some d)
    go None k e fun arg =
        let x = within 2 (leftmost (erased a)) at e in
        let r = arg x.rest x.leads in
        (r.0, ap (degree (app (app f b v) a w)) x.is ∙ r.1)
    go (Some rest) k e fun arg =
        let r = fun rest k in
        (r.0, ap (degree (app (app f b v) a w)) (sym (same_Some (1 ∷ rest) at e)) ∙ r.1)
