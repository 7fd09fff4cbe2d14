-- The leftmost redex, and parallel steps beside its contraction: how many leftmost steps are left.
use Rattle.std.proofs.Common.{◌≡◌, ℕ, suc, ◌⊎◌, inl, inr}
use Rattle.std.proofs.Common.{List, [], ◌∷◌, length, Option, None, Some, refl, sym, ap, ◌∙◌, subst}
use Rattle.std.proofs.lemmas.Option.{same_Some, none-some}
use Rattle.std.specs.Option.{option_map, option_or}
use Rattle.ol_beta.specs.Leftmost.{leftmost, is_abstraction}
use Rattle.ol_beta.specs.Leftmost as beta_steps
use Rattle.ol_law_confluence.proofs.Substitutions.{up_ren}
use Rattle.ol_law_optimality.specs.Labels.{Label, none, joined, Labelled, var, free, lam, app, before, erased}
use Rattle.ol_law_optimality.specs.Labels.{contracted, applied, LeftmostContracts}
use Rattle.ol_law_optimality.specs.Labels as labels
use Rattle.ol_law_optimality.specs.Readings.{HeadContracts, HeadReduces}
use Rattle.ol_law_optimality.specs.Readings as readings
use Rattle.ol_law_optimality.specs.Reductions.{Parallel, of_var, of_free, of_lam, of_app, of_redex, reduct}
use Rattle.ol_law_optimality.proofs.Putting.{ren, ren_reduct, before_reduct}
use Rattle.ol_law_optimality.proofs.Together.{parallel_reduct}
use Rattle.ol_counts.proofs.Normals.{HeadShape, shape_after, plain_of, Neutral, Normal, Plain, plain_ren, neutral_ren}
use Rattle.ol_counts.proofs.Normals.{normal_ren, neutral_after, normal_stays, still_normal, plain_neutral}

-- ---- any redexes at once

abbrev pub Any : Label → Type 0
Any v = Unit {0}

pub to_any : {P : Label → Type 0} {t u : Labelled} → Parallel P t u → Parallel Any t u
to_any of_var = of_var
to_any of_free = of_free
to_any (of_lam p) = of_lam (to_any p)
to_any (of_app p q) = of_app (to_any p) (to_any q)
to_any (of_redex i p q) = of_redex tt (to_any p) (to_any q)

-- ---- the leftmost redex contracted

pub data First : Labelled → Labelled → Type 0 where
  first_here : {b c : Labelled} {v w : Label} → First (app (lam b v) c w) (reduct w v c b)
  first_below : {t u : Labelled} {w : Label} → First t u → First (lam t w) (lam u w)
  first_function : {f g a : Labelled} {w : Label} → Plain f → First f g → First (app f a w) (app g a w)
  first_argument : {f a b : Labelled} {w : Label} → Neutral f → Normal f → First a b →
      First (app f a w) (app f b w)

no_first : {t u : Labelled} → First t u → Normal t → ⊥
no_first first_here n = n.0
no_first (first_below f) n = no_first f n
no_first (first_function p f) n = no_first f n.1
no_first (first_argument c g f) n = no_first f n.2

one_first : {t u v : Labelled} → First t u → First t v → u ≡ v
one_first first_here first_here = refl
one_first first_here (first_function p f) = absurd p
one_first first_here (first_argument c g f) = absurd c
one_first (first_below {w = w} f) (first_below g) = ap (λ b. lam b w) (one_first f g)
one_first (first_function p f) first_here = absurd p
one_first (first_function {a = a} {w = w} p f) (first_function q g) =
    ap (λ f. app f a w) (one_first f g)
one_first (first_function p f) (first_argument c n g) = absurd (no_first f n)
one_first (first_argument c n f) first_here = absurd c
one_first (first_argument c n f) (first_function p g) = absurd (no_first g n)
one_first (first_argument {f = h} {w = w} c n f) (first_argument d m g) =
    ap (λ a. app h a w) (one_first f g)

pub first_before : (p : Label) {t u : Labelled} → First t u → First (before p t) (before p u)
first_before p (first_here {b = b} {c = c} {v = v} {w = w}) =
    subst (λ u. First (app (lam b v) c (joined p w)) u) (sym (before_reduct p w v c b)) first_here
first_before p (first_below f) = first_below f
first_before p (first_function h f) = first_function h f
first_before p (first_argument c n f) = first_argument c n f

pub first_ren : (ξ : ℕ → ℕ) {t u : Labelled} → First t u → First (ren ξ t) (ren ξ u)
first_ren ξ (first_here {b = b} {c = c} {v = v} {w = w}) =
    subst (λ u. First (ren ξ (app (lam b v) c w)) u) (sym (ren_reduct ξ w v c b)) first_here
first_ren ξ (first_below f) = first_below (first_ren (up_ren ξ) f)
first_ren ξ (first_function {f = g} h f) = first_function (plain_ren g ξ h) (first_ren ξ f)
first_ren ξ (first_argument {f = g} c n f) =
    first_argument (neutral_ren g ξ c) (normal_ren g ξ n) (first_ren ξ f)

-- W comes to V by a parallel step that contracts the leftmost redex
pub record FirstStep (W V : Labelled) : Type 0 where
  pub middle : Labelled
  pub first : First W middle
  pub step : Parallel Any middle V

-- ---- beside a parallel step

record Kept (t s u : Labelled) : Type 0 where
  next : Labelled
  first : First u next
  step : Parallel Any s next
  plain : Plain t → Plain u

split : {t s u : Labelled} → First t s → Parallel Any t u → Parallel Any s u ⊎ Kept t s u
split first_here (of_app {N' = c} {w = w} (of_lam {M' = b} {w = v} p) q) =
    inr
    (record {
      next = reduct w v c b;
      first = first_here;
      step = parallel_reduct Any w v p q;
      plain = λ x. tt;
    })
split first_here (of_redex {v = v} {w = w} i p q) = inl (parallel_reduct Any w v p q)
split (first_below {w = w} f) (of_lam p) =
    elim (split f p) [
      | inl r ↦ inl (of_lam r)
      | inr k ↦ inr
          (record {
            next = lam k.next w;
            first = first_below k.first;
            step = of_lam k.step;
            plain = λ x. absurd x;
          })
    ]
split (first_function {w = w} h f) (of_app {N' = a} p q) =
    elim (split f p) [
      | inl r ↦ inl (of_app r q)
      | inr k ↦ inr
          (record {
            next = app k.next a w;
            first = first_function (k.plain h) k.first;
            step = of_app k.step q;
            plain = λ x. tt;
          })
    ]
split (first_function h f) (of_redex i p q) = absurd h
split (first_argument {f = g} {w = w} c n f) (of_app {M' = g'} p q) =
    elim (split f q) [
      | inl r ↦ inl (of_app p r)
      | inr k ↦ inr
          (record {
            next = app g' k.next w;
            first =
                first_argument (neutral_after p c)
                (subst (λ t. Normal t) (sym (normal_stays p n)) n) k.first;
            step = of_app p k.step;
            plain = λ x. tt;
          })
    ]
split (first_argument c n f) (of_redex i p q) = absurd c

-- ---- how many leftmost steps are left

pub data Leads : ℕ → Labelled → Type 0 where
  still : {k : ℕ} {t : Labelled} → Normal t → Leads k t
  more : {k : ℕ} {t u : Labelled} → First t u → Leads k u → Leads (suc k) t

weaker : {k : ℕ} {t : Labelled} → Leads k t → Leads (suc k) t
weaker (still n) = still n
weaker (more f l) = more f (weaker l)

pub leads_beside : {k : ℕ} {t u : Labelled} → Leads k t → Parallel Any t u → Leads k u
leads_beside {k = k} (still n) p = subst (λ t. Leads k t) (sym (normal_stays p n)) (still n)
leads_beside (more f l) p =
    elim (split f p) [
      | inl r ↦ weaker (leads_beside l r)
      | inr x ↦ more x.first (leads_beside l x.step)
    ]

pub record Fewer (k : ℕ) (t : Labelled) : Type 0 where
  pub left : ℕ
  pub fewer : k ≡ suc left
  pub leads : Leads left t

pub leads_on : {k : ℕ} {t u : Labelled} → Leads k t → FirstStep t u → Fewer k u
leads_on (still n) s = absurd (no_first s.first n)
leads_on (more {k = k} f l) s = record {
  left = k;
  fewer = refl;
  leads =
      leads_beside l
      (subst (λ t. Parallel Any t _) (one_first s.first f) s.step);
}

-- ---- to a head normal form

pub data LeadsToHead : ℕ → Labelled → Type 0 where
  headed : {k : ℕ} {t : Labelled} → HeadShape t → LeadsToHead k t
  head_step : {k : ℕ} {t u : Labelled} → First t u → LeadsToHead k u → LeadsToHead (suc k) t

weaker_head : {k : ℕ} {t : Labelled} → LeadsToHead k t → LeadsToHead (suc k) t
weaker_head (headed h) = headed h
weaker_head (head_step f l) = head_step f (weaker_head l)

head_beside : {k : ℕ} {t u : Labelled} → LeadsToHead k t → Parallel Any t u → LeadsToHead k u
head_beside (headed h) p = headed (shape_after p h)
head_beside (head_step f l) p =
    elim (split f p) [
      | inl r ↦ weaker_head (head_beside l r)
      | inr x ↦ head_step x.first (head_beside l x.step)
    ]

pub record FewerToHead (k : ℕ) (t : Labelled) : Type 0 where
  pub left : ℕ
  pub fewer : k ≡ suc left
  pub leads : LeadsToHead left t

pub head_on : {k : ℕ} {t u : Labelled} → LeadsToHead k t → (HeadShape t → ⊥) → FirstStep t u →
    FewerToHead k u
head_on (headed h) n s = absurd (n h)
head_on {u = u} (head_step {k = k} f l) n s = record {
  left = k;
  fewer = refl;
  leads = head_beside l (subst (λ t. Parallel Any t u) (one_first s.first f) s.step);
}

head_first : {t u : Labelled} {d : Label} → HeadContracts t d u → First t u
head_first (readings.at_redex b c v w) = first_here
head_first (readings.below_lam w h) = first_below (head_first h)
head_first (readings.before_argument {f = f} a w e h) = first_function (plain_of f e) (head_first h)

pub leads_to_head : {T V : Labelled} {ds : List Label} → HeadReduces T ds V → HeadShape V →
    LeadsToHead (length ds) T
leads_to_head readings.ready h = headed h
leads_to_head (readings.contract x r) h = head_step (head_first x) (leads_to_head r h)

-- ---- leftmost reduction

record Mapped (f : Labelled → Labelled) (o : Option Labelled) (u : Labelled) : Type 0 where
  term : Labelled
  «is» : o ≡ Some term
  gives : f term ≡ u

mapped : (f : Labelled → Labelled) (o : Option Labelled) (u : Labelled) →
    option_map f o ≡ Some u → Mapped f o u
mapped f None u e = absurd (none-some _ e)
mapped f (Some t) u e = record { term = t; «is» = refl; gives = same_Some (f t) u e }

app_first : (f a : Labelled) (w : Label) (at : List ℕ) (u : Labelled) → Plain f →
    option_or (beta_steps.under 1 (leftmost (erased f))) (beta_steps.under 2 (leftmost (erased a)))
    ≡ Some at → contracted (app f a w) at ≡ Some u →
    ((at : List ℕ) (u : Labelled) → leftmost (erased f) ≡ Some at → contracted f at ≡ Some u → First f u) →
    ((at : List ℕ) (u : Labelled) → leftmost (erased a) ≡ Some at → contracted a at ≡ Some u → First a u) →
    First (app f a w) u
app_first f a w at u plain e g left right =
    go (leftmost (erased f)) (leftmost (erased a)) refl refl e
  where
    go : (o p : Option (List ℕ)) → leftmost (erased f) ≡ o → leftmost (erased a) ≡ p →
        option_or (beta_steps.under 1 o) (beta_steps.under 2 p) ≡ Some at → First (app f a w) u
    go (Some b) p h k q =
        let r : contracted (app f a w) (1 ∷ b) ≡ Some u =
        ap (contracted (app f a w)) (same_Some (1 ∷ b) at q) ∙ g in
        let m = mapped (λ f. app f a w) (contracted f b) u r in
        subst (λ u. First (app f a w) u) m.gives (first_function plain (left b m.term h m.is))
    go None (Some b) h k q =
        let r : contracted (app f a w) (2 ∷ b) ≡ Some u =
        ap (contracted (app f a w)) (same_Some (2 ∷ b) at q) ∙ g in
        let m = mapped (λ a. app f a w) (contracted a b) u r in
        let n = still_normal f h in
        subst (λ u. First (app f a w) u) m.gives
        (first_argument (plain_neutral f n plain) n (right b m.term k m.is))
    go None None h k q = absurd (none-some _ q)

pub first_of : (t : Labelled) (at : List ℕ) (u : Labelled) → leftmost (erased t) ≡ Some at →
    contracted t at ≡ Some u → First t u
first_of (var k w) at u e g = absurd (none-some _ e)
first_of (free k w) at u e g = absurd (none-some _ e)
first_of (lam t w) at u e g = go (first_of t) (leftmost (erased t)) refl e
  where
    go : ((at : List ℕ) (u : Labelled) → leftmost (erased t) ≡ Some at → contracted t at ≡ Some u → First t u) →
        (o : Option (List ℕ)) → leftmost (erased t) ≡ o → beta_steps.under 0 o ≡ Some at →
        First (lam t w) u
    go next None h k = absurd (none-some _ k)
    go next (Some b) h k =
        let r : contracted (lam t w) (0 ∷ b) ≡ Some u =
        ap (contracted (lam t w)) (same_Some (0 ∷ b) at k) ∙ g in
        let m = mapped (λ t. lam t w) (contracted t b) u r in
        subst (λ u. First (lam t w) u) m.gives (first_below (next b m.term h m.is))
first_of (app (lam b v) a w) at u e g =
    let r : contracted (app (lam b v) a w) [] ≡ Some u =
    ap (contracted (app (lam b v) a w)) (same_Some [] at e) ∙ g in
    subst (λ u. First (app (lam b v) a w) u) (same_Some (reduct w v a b) u r) first_here
first_of (app (var k v) a w) at u e g =
    app_first (var k v) a w at u tt e g (first_of (var k v)) (first_of a)
first_of (app (free k v) a w) at u e g =
    app_first (free k v) a w at u tt e g (first_of (free k v)) (first_of a)
first_of (app (app f b v) a w) at u e g =
    app_first (app f b v) a w at u tt e g (first_of (app f b v)) (first_of a)

pub leads_of : {T V : Labelled} {ws : List Label} → LeftmostContracts T ws V →
    leftmost (erased V) ≡ None → Leads (length ws) T
leads_of {T = T} labels.ready e = still (still_normal T e)
leads_of (labels.contract {t = t} {u = u} at h d g r) e =
    more (first_of t at u h g) (leads_of r e)
