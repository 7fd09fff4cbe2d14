-- What a stack makes of the term at hand: the terms of the cells over which something is to be written.
use Rattle.std.proofs.Common.{◌≡◌, ℕ, zero, suc, ◌+◌, ◌<◌, ◌≤◌, ◌⊎◌, inl, inr, List, [], ◌∷◌}
use Rattle.std.proofs.Common.{refl, sym, ap, ◌∙◌, subst, arith}
use Rattle.std.proofs.lemmas.Bool.{cases_eq, cases_lt}
use Rattle.ol_law_edges.specs.Edges.{IsIn}
use Rattle.ol_counts.specs.Machines.{Frame, argument, write}
use Rattle.ol_law_optimality.specs.Labels.{Label, none, Labelled, var, free, lam, app, before}
use Rattle.ol_law_optimality.specs.Reductions.{Parallel, of_var, of_app}
use Rattle.ol_law_optimality.proofs.Putting.{inst}
use Rattle.ol_law_optimality.proofs.Together.{parallel_same, parallel_before, parallel_inst}
use Rattle.ol_counts.proofs.Firsts.{Any, FirstStep, first_function, first_before}
use Rattle.ol_counts.proofs.Normals.{Plain, HeadRedex, redex_before}
use Rattle.ol_counts.proofs.Heaps.{with_at, with_own, with_other, Sees, IsName, IsBound, Sound}
use Rattle.ol_counts.proofs.Heaps.{stepped, rank, rank_other, sees_more}

-- ---- what is seen in parts

module _ (n : ℕ) (r : ℕ → ℕ) (b : ℕ) where
  pub sees_fun : (K A : Labelled) (w : Label) → Sees n r b (app K A w) → Sees n r b K
  sees_fun K A w s σ τ h =
      let e = s σ τ h in let k : inst σ K ≡ inst τ K = cc in k

  pub sees_arg : (K A : Labelled) (w : Label) → Sees n r b (app K A w) → Sees n r b A
  sees_arg K A w s σ τ h =
      let e = s σ τ h in let k : inst σ A ≡ inst τ A = cc in k

  pub sees_app : (K A : Labelled) (w : Label) → Sees n r b K → Sees n r b A →
      Sees n r b (app K A w)
  sees_app K A w s t σ τ h = λ i. app (s σ τ h i) (t σ τ h i) w

  not_seen : (c : ℕ) (p : Label) → Sees n r b (var c p) →
      ((z : ℕ) → z < n → r z < b → z ≡ c → ⊥) → ⊥
  not_seen c p s h =
      let σ : ℕ → Labelled = λ y. free zero none in
      let τ : ℕ → Labelled = with_at σ c (free 1 none) in
      let e : before p (free zero none) ≡ before p (τ c) =
      s σ τ (λ z l q. sym (with_other σ c (free 1 none) z (h z l q))) in
      let f : before p (free zero none) ≡ before p (free 1 none) =
      e ∙ ap (before p) (with_own σ c (free 1 none) c refl) in
      let k : zero ≡ 1 = cc in
      absurd (omega (arith, k))

  pub sees_var : (c : ℕ) (p : Label) → Sees n r b (var c p) → (c < n) × (r c < b)
  sees_var c p s = go (cases_lt c n) (cases_lt (r c) b)
    where
      go : (c < n) ⊎ (n ≤ c) → (r c < b) ⊎ (b ≤ r c) → (c < n) × (r c < b)
      go (inl l) (inl m) = (l, m)
      go (inr l) m = absurd (not_seen c p s (λ z i q e. absurd (omega (arith, i, l, e))))
      go (inl l) (inr m) =
          absurd
          (not_seen c p s
          (λ z i q e. let f : r z ≡ r c = ap r e in absurd (omega (arith, q, m, f))))

  pub var_sees : (c : ℕ) (p : Label) → c < n → r c < b → Sees n r b (var c p)
  var_sees c p l m σ τ h = ap (before p) (h c l m)

-- ---- arguments put behind

abbrev pub plug : List (ℕ × Label) → Labelled → Labelled
plug [] K = K
plug (a ∷ C) K = plug C (app K (var a.0 none) a.1)

pub plug_same : (C : List (ℕ × Label)) (σ : ℕ → Labelled) (K L : Labelled) → inst σ K ≡ inst σ L →
    inst σ (plug C K) ≡ inst σ (plug C L)
plug_same [] σ K L e = e
plug_same (a ∷ C) σ K L e =
    plug_same C σ (app K (var a.0 none) a.1) (app L (var a.0 none) a.1)
    (ap (λ t. app t (before none (σ a.0)) a.1) e)

pub plug_parallel : (P : Label → Type 0) (C : List (ℕ × Label)) {K L : Labelled} → Parallel P K L →
    Parallel P (plug C K) (plug C L)
plug_parallel P [] p = p
plug_parallel P (a ∷ C) p = plug_parallel P C (of_app p of_var)

-- ---- stacks

-- K is what is at hand, of a cell of rank b or of the term F, in which cells of ranks below bF are seen
pub data Stands (n : ℕ) (r : ℕ → ℕ) (H : ℕ → Labelled) (bF : ℕ) (F : Labelled) :
    ℕ → Labelled → List Frame → Type 0 where
  root : Sees n r bF F → Stands n r H bF F bF F []
  under_argument : {b a : ℕ} {K : Labelled} {w : Label} {stack : List Frame} →
      Stands n r H bF F b (app K (var a none) w) stack → Stands n r H bF F b K (argument a ∷ stack)
  under_write : {b d c : ℕ} {K : Labelled} {p : Label} {stack : List Frame} → c < n → b ≡ r c →
      b < d → H c ≡ K → Sees n r b K → Stands n r H bF F d (var c p) stack →
      Stands n r H bF F b K (write c ∷ stack)

pub stands_sees : {n bF : ℕ} {r : ℕ → ℕ} {H : ℕ → Labelled} {F : Labelled} {b : ℕ} {K : Labelled}
    {stack : List Frame} → Stands n r H bF F b K stack → Sees n r b K
stands_sees (root s) = s
stands_sees {n = n} {r = r} {b = b} {K = K} (under_argument {a = a} {w = w} t) =
    sees_fun n r b K (var a none) w (stands_sees t)
stands_sees (under_write l e m h s t) = s

pub root_sees : {n bF : ℕ} {r : ℕ → ℕ} {H : ℕ → Labelled} {F : Labelled} {b : ℕ} {K : Labelled}
    {stack : List Frame} → Stands n r H bF F b K stack → Sees n r bF F
root_sees (root s) = s
root_sees (under_argument t) = root_sees t
root_sees (under_write l e m h s t) = root_sees t

pub busy_rank : {n bF : ℕ} {r : ℕ → ℕ} {H : ℕ → Labelled} {F : Labelled} {b : ℕ} {K : Labelled}
    {stack : List Frame} (c : ℕ) → Stands n r H bF F b K stack → IsIn (write c) stack → b ≤ r c
busy_rank c (root s) i = absurd i
busy_rank c (under_argument t) (inl e) = absurd (cc)
busy_rank c (under_argument t) (inr i) = busy_rank c t i
busy_rank {r = r} c (under_write {c = d} l e m h s t) (inl f) =
    let k : c ≡ d = cc in let g : r c ≡ r d = ap r k in omega (arith, e, g)
busy_rank c (under_write l e m h s t) (inr i) =
    let k = busy_rank c t i in omega (arith, m, k)

pub busy_within : {n bF : ℕ} {r : ℕ → ℕ} {H : ℕ → Labelled} {F : Labelled} {b : ℕ} {K : Labelled}
    {stack : List Frame} (c : ℕ) → Stands n r H bF F b K stack → IsIn (write c) stack → c < n
busy_within c (root s) i = absurd i
busy_within c (under_argument t) (inl e) = absurd (cc)
busy_within c (under_argument t) (inr i) = busy_within c t i
busy_within c (under_write {c = d} l e m h s t) (inl f) =
    let k : c ≡ d = cc in omega (arith, l, k)
busy_within c (under_write l e m h s t) (inr i) = busy_within c t i

pub busy_or_not : (c : ℕ) (stack : List Frame) →
    IsIn (write c) stack ⊎ (IsIn (write c) stack → ⊥)
busy_or_not c [] = inr (λ i. i)
busy_or_not c (argument a ∷ stack) = go (busy_or_not c stack)
  where
    no : (IsIn (write c) stack → ⊥) → (write c ≡ argument a) ⊎ IsIn (write c) stack → ⊥
    no f (inl e) = absurd (cc)
    no f (inr i) = f i

    go : IsIn (write c) stack ⊎ (IsIn (write c) stack → ⊥) →
        IsIn (write c) (argument a ∷ stack) ⊎ (IsIn (write c) (argument a ∷ stack) → ⊥)
    go (inl i) = inl (inr i)
    go (inr f) = inr (no f)
busy_or_not c (write d ∷ stack) = go (cases_eq c d) (busy_or_not c stack)
  where
    no : (c ≡ d → ⊥) → (IsIn (write c) stack → ⊥) → (write c ≡ write d) ⊎ IsIn (write c) stack → ⊥
    no g f (inl e) = g (let k : c ≡ d = cc in k)
    no g f (inr i) = f i

    go : (c ≡ d) ⊎ (c ≡ d → ⊥) → IsIn (write c) stack ⊎ (IsIn (write c) stack → ⊥) →
        IsIn (write c) (write d ∷ stack) ⊎ (IsIn (write c) (write d ∷ stack) → ⊥)
    go (inl e) x = inl (inl (ap write e))
    go (inr g) (inl i) = inl (inr i)
    go (inr g) (inr f) = inr (no g f)

-- what is reduced for the whole term
pub at_root : {n bF : ℕ} {r : ℕ → ℕ} {H : ℕ → Labelled} {F : Labelled} {b : ℕ} {K : Labelled} →
    Stands n r H bF F b K [] → (K ≡ F) × (b ≡ bF)
at_root (root s) = (refl, refl)

pub record UnderArgument (n bF : ℕ) (r : ℕ → ℕ) (H : ℕ → Labelled) (F : Labelled) (b : ℕ) (K : Labelled)
    (a : ℕ) (stack : List Frame) : Type 0 where
  pub label : Label
  pub stands : Stands n r H bF F b (app K (var a none) label) stack

pub under_argument_view : {n bF : ℕ} {r : ℕ → ℕ} {H : ℕ → Labelled} {F : Labelled} {b : ℕ}
    {K : Labelled} {a : ℕ} {stack : List Frame} → Stands n r H bF F b K (argument a ∷ stack) →
    UnderArgument n bF r H F b K a stack
under_argument_view (under_argument {w = w} t) = record { label = w; stands = t }

pub record UnderWrite (n bF : ℕ) (r : ℕ → ℕ) (H : ℕ → Labelled) (F : Labelled) (b : ℕ) (K : Labelled)
    (c : ℕ) (stack : List Frame) : Type 0 where
  pub bound : ℕ
  pub label : Label
  pub within : c < n
  pub has : H c ≡ K
  pub stands : Stands n r H bF F bound (var c label) stack

pub under_write_view : {n bF : ℕ} {r : ℕ → ℕ} {H : ℕ → Labelled} {F : Labelled} {b : ℕ}
    {K : Labelled} {c : ℕ} {stack : List Frame} → Stands n r H bF F b K (write c ∷ stack) →
    UnderWrite n bF r H F b K c stack
under_write_view (under_write {d = d} {p = p} l e m h s t) =
    record { bound = d; label = p; within = l; has = h; stands = t }

pub stands_else : {n bF : ℕ} {r : ℕ → ℕ} {H : ℕ → Labelled} {F : Labelled} {b : ℕ} {K : Labelled}
    {stack : List Frame} (G : ℕ → Labelled) → ((c : ℕ) → b ≤ r c → G c ≡ H c) →
    Stands n r H bF F b K stack → Stands n r G bF F b K stack
stands_else G f (root s) = root s
stands_else G f (under_argument t) = under_argument (stands_else G f t)
stands_else G f (under_write {c = c} l e m h s t) =
    under_write l e m (f c (omega (arith, e)) ∙ h) s
    (stands_else G (λ c q. f c (omega (arith, q, m))) t)

-- a cell more
pub stands_more : {n bF : ℕ} {r : ℕ → ℕ} {H : ℕ → Labelled} {F : Labelled} {b : ℕ} {K : Labelled}
    {stack : List Frame} (k : ℕ) (G : ℕ → Labelled) → ((c : ℕ) → c < n → G c ≡ H c) →
    Stands n r H bF F b K stack →
    Stands (suc n) (rank n r k) G (suc (bF + bF)) F (suc (b + b)) K stack
stands_more {n = n} {bF = bF} {r = r} {F = F} k G f (root s) = root (sees_more n r bF k F s)
stands_more k G f (under_argument t) = under_argument (stands_more k G f t)
stands_more {n = n} {r = r} {b = b} {K = K} k G f (under_write {c = c} l e m h s t) =
    let q = rank_other n r k c l in
    under_write (omega (arith, l)) (omega (arith, q, e)) (omega (arith, m)) (f c l ∙ h)
    (sees_more n r b k K s) (stands_more k G f t)

-- ---- another term at hand

-- what changes: the term F, or the cell over which is to be written first
pub record InTerm (n : ℕ) (r : ℕ → ℕ) (H G : ℕ → Labelled) (F E : Labelled) (K L : Labelled) : Type 0 where
  pub arguments : List (ℕ × Label)
  pub cells : G ≡ H
  pub was : F ≡ plug arguments K
  pub «is» : E ≡ plug arguments L

pub record InCell (n : ℕ) (r : ℕ → ℕ) (H G : ℕ → Labelled) (F E : Labelled) (K L : Labelled) : Type 0 where
  pub arguments : List (ℕ × Label)
  pub cell : ℕ
  pub within : cell < n
  pub was : H cell ≡ plug arguments K
  pub sees : Sees n r (r cell) (H cell)
  pub sees_now : Sees n r (r cell) (plug arguments L)
  pub cells : G ≡ with_at H cell (plug arguments L)
  pub terms : E ≡ F

pub record Replaced (n : ℕ) (r : ℕ → ℕ) (H : ℕ → Labelled) (bF : ℕ) (F : Labelled) (b : ℕ)
    (K L : Labelled) (stack : List Frame) : Type 0 where
  pub heap : ℕ → Labelled
  pub term : Labelled
  pub stands : Stands n r heap bF term b L stack
  pub kept : (y : ℕ) → (IsIn (write y) stack → ⊥) → heap y ≡ H y
  pub change : InTerm n r H heap F term K L ⊎ InCell n r H heap F term K L

more_behind : {n a : ℕ} {r : ℕ → ℕ} {H G : ℕ → Labelled} {F E K L : Labelled} {w : Label} →
    InTerm n r H G F E (app K (var a none) w) (app L (var a none) w)
    ⊎ InCell n r H G F E (app K (var a none) w) (app L (var a none) w) →
    InTerm n r H G F E K L ⊎ InCell n r H G F E K L
more_behind {a = a} {w = w} (inl x) =
    inl (record { arguments = (a, w) ∷ x.arguments; cells = x.cells; was = x.was; «is» = x.is })
more_behind {a = a} {w = w} (inr x) =
    inr
    (record {
      arguments = (a, w) ∷ x.arguments;
      cell = x.cell;
      within = x.within;
      was = x.was;
      sees = x.sees;
      sees_now = x.sees_now;
      cells = x.cells;
      terms = x.terms;
    })

pub replaced : {n bF : ℕ} {r : ℕ → ℕ} {H : ℕ → Labelled} {F : Labelled} {b : ℕ} {K : Labelled} {stack : List Frame}
    (L : Labelled) → Sees n r b L → Stands n r H bF F b K stack →
    Replaced n r H bF F b K L stack
replaced {H = H} L s (root t) = record {
  heap = H;
  term = L;
  stands = root s;
  kept = λ y f. refl;
  change = inl (record { arguments = []; cells = refl; was = refl; «is» = refl });
}
replaced {n = n} {r = r} {b = b} {K = K} L s (under_argument {a = a} {w = w} t) =
    let x =
    replaced (app L (var a none) w)
    (sees_app n r b L (var a none) w s (sees_arg n r b K (var a none) w (stands_sees t))) t in
    record {
      heap = x.heap;
      term = x.term;
      stands = under_argument x.stands;
      kept = λ y f. x.kept y (λ i. f (inr i));
      change = more_behind x.change;
    }
replaced {n = n} {r = r} {H = H} {F = F} {b = b} {K = K} L s (under_write {c = c} l e m h t u) =
    record {
      heap = with_at H c L;
      term = F;
      stands =
          under_write l e m (with_own H c L c refl) s
          (stands_else (with_at H c L)
          (λ z q. with_other H c L z (λ k. let f : r z ≡ r c = ap r k in absurd (omega (arith, q, m, e, f))))
          u);
      kept = λ y f. with_other H c L y (λ k. f (inl (ap write k)));
      change =
          inr
          (record {
            arguments = [];
            cell = c;
            within = l;
            was = h;
            sees = subst (λ t. Sees n r (r c) t) (sym h) (subst (λ b. Sees n r b K) e t);
            sees_now = subst (λ b. Sees n r b L) e s;
            cells = refl;
            terms = refl;
          });
    }

-- ---- of the same value

pub record SameValue (n : ℕ) (r : ℕ → ℕ) (G U : ℕ → Labelled) (F E : Labelled) : Type 0 where
  pub sound : Sound n r G U
  pub value : inst U F ≡ inst U E

module _ (n : ℕ) (r : ℕ → ℕ) (H U : ℕ → Labelled) (s : Sound n r H U) (K L : Labelled)
    (e : inst U K ≡ inst U L) where
  at_cell : (C : List (ℕ × Label)) (c : ℕ) → c < n → H c ≡ plug C K → Sees n r (r c) (H c) →
      Sees n r (r c) (plug C L) → Sound n r (with_at H c (plug C L)) U
  at_cell C c l h t u = record {
    kind = λ y. go y (cases_eq y c) (s.kind y);
    above =
        λ y m. let k : y ≡ c → ⊥ = (λ k. absurd (omega (arith, k, l, m))) in
        let x = s.above y m in
        (with_other H c (plug C L) y k ∙ x.0, x.1);
    low = s.low;
  }
    where
      own : IsName H U c ⊎ IsBound n r H U c → U c ≡ inst U (plug C L)
      own (inl x) =
          let k = sees_var n r (r c) c none (subst (λ t. Sees n r (r c) t) x.0 t) in
          let m = k.1 in absurd (omega (arith, m))
      own (inr x) = x.1 ∙ ap (inst U) h ∙ plug_same C U K L e

      go : (y : ℕ) → (y ≡ c) ⊎ (y ≡ c → ⊥) → IsName H U y ⊎ IsBound n r H U y →
          IsName (with_at H c (plug C L)) U y ⊎ IsBound n r (with_at H c (plug C L)) U y
      go y (inl k) x =
          let q = with_own H c (plug C L) y k in
          inr (
            subst (λ t. Sees n r (r y) t) (sym q)
                (subst (λ z. Sees n r (r z) (plug C L)) (sym k) u),
            ap U k ∙ own (s.kind c) ∙ sym (ap (inst U) q),
          )
      go y (inr k) (inl x) = inl (with_other H c (plug C L) y k ∙ x.0, x.1)
      go y (inr k) (inr x) =
          let q = with_other H c (plug C L) y k in
          inr (subst (λ t. Sees n r (r y) t) (sym q) x.0, x.1 ∙ sym (ap (inst U) q))

  pub same_value : (G : ℕ → Labelled) (F E : Labelled) →
      InTerm n r H G F E K L ⊎ InCell n r H G F E K L → SameValue n r G U F E
  same_value G F E (inl x) = record {
    sound = subst (λ G. Sound n r G U) (sym x.cells) s;
    value = ap (inst U) x.was ∙ plug_same x.arguments U K L e ∙ sym (ap (inst U) x.is);
  }
  same_value G F E (inr x) = record {
    sound =
        subst (λ G. Sound n r G U) (sym x.cells)
        (at_cell x.arguments x.cell x.within x.was x.sees x.sees_now);
    value = ap (inst U) (sym x.terms);
  }

-- ---- a step further

pub record StepFurther (P : Label → Type 0) (n : ℕ) (r : ℕ → ℕ) (G U : ℕ → Labelled) (F E : Labelled) :
    Type 0 where
  pub values : ℕ → Labelled
  pub sound : Sound n r G values
  pub steps : (y : ℕ) → Parallel P (U y) (values y)
  pub step : Parallel P (inst U F) (inst values E)

module _ (P : Label → Type 0) (n : ℕ) (r : ℕ → ℕ) (H U : ℕ → Labelled) (s : Sound n r H U)
    (K L : Labelled) (p : Parallel P K L) where
  cell_step : (C : List (ℕ × Label)) (c : ℕ) → H c ≡ plug C K → (y : ℕ) →
      (y ≡ c) ⊎ (y ≡ c → ⊥) → Parallel P (H y) (with_at H c (plug C L) y)
  cell_step C c h y (inl k) =
      subst (λ t. Parallel P t (with_at H c (plug C L) y)) (sym (ap H k ∙ h))
      (subst (λ t. Parallel P (plug C K) t) (sym (with_own H c (plug C L) y k))
      (plug_parallel P C p))
  cell_step C c h y (inr k) =
      subst (λ t. Parallel P (H y) t) (sym (with_other H c (plug C L) y k)) (parallel_same P (H y))

  further : (G : ℕ → Labelled) (F E : Labelled) → ((y : ℕ) → Parallel P (H y) (G y)) →
      Parallel P F E → StepFurther P n r G U F E
  further G F E q f =
      let x = stepped P n r H U G s q in
      record {
        values = x.values;
        sound = x.sound;
        steps = x.steps;
        step = parallel_inst P U x.values x.steps f;
      }

  pub step_further : (G : ℕ → Labelled) (F E : Labelled) →
      InTerm n r H G F E K L ⊎ InCell n r H G F E K L → StepFurther P n r G U F E
  step_further G F E (inl x) =
      further G F E (λ y. subst (λ G. Parallel P (H y) (G y)) (sym x.cells) (parallel_same P (H y)))
      (subst (λ F. Parallel P F E) (sym x.was)
      (subst (λ E. Parallel P (plug x.arguments K) E) (sym x.is) (plug_parallel P x.arguments p)))
  step_further G F E (inr x) =
      further G F E
      (λ y. subst (λ G. Parallel P (H y) (G y)) (sym x.cells)
      (cell_step x.arguments x.cell x.was y (cases_eq y x.cell)))
      (subst (λ E. Parallel P F E) (sym x.terms) (parallel_same P F))

-- ---- the leftmost redex, further out

pub record FirstPlain (N M : Labelled) : Type 0 where
  pub step : FirstStep N M
  pub plain : Plain N
  pub redex : HeadRedex N

plain_before : (p : Label) (t : Labelled) → Plain t → Plain (before p t)
plain_before p (var k w) h = tt
plain_before p (free k w) h = tt
plain_before p (lam t w) h = h
plain_before p (app f a w) h = tt

module _ (U V : ℕ → Labelled) (any : (c : ℕ) → Parallel Any (U c) (V c)) where
  argument_first : (N M : Labelled) (a : ℕ) (w : Label) → FirstPlain N M →
      FirstPlain (app N (before none (U a)) w) (app M (before none (V a)) w)
  argument_first N M a w x = record {
    step =
        record {
          middle = app x.step.middle (before none (U a)) w;
          first = first_function x.plain x.step.first;
          step = of_app x.step.step (parallel_before Any none (any a));
        };
    plain = tt;
    redex = inr x.redex;
  }

  before_first : (N M : Labelled) (p : Label) → FirstPlain N M →
      FirstPlain (before p N) (before p M)
  before_first N M p x = record {
    step =
        record {
          middle = before p x.step.middle;
          first = first_before p x.step.first;
          step = parallel_before Any p x.step.step;
        };
    plain = plain_before p N x.plain;
    redex = redex_before p N x.redex;
  }

  cell_first : (N M : Labelled) (c : ℕ) (p : Label) → U c ≡ N → V c ≡ M → FirstPlain N M →
      FirstPlain (before p (U c)) (before p (V c))
  cell_first N M c p e g x =
      subst (λ t. FirstPlain (before p t) (before p (V c))) (sym e)
      (subst (λ t. FirstPlain (before p N) (before p t)) (sym g) (before_first N M p x))

  first_same : {n bF : ℕ} {r : ℕ → ℕ} {H : ℕ → Labelled} {F : Labelled} {b : ℕ} {K : Labelled}
      {stack : List Frame} → Stands n r H bF F b K stack → ((c : ℕ) → U c ≡ inst U (H c)) →
      ((c : ℕ) → IsIn (write c) stack → V c ≡ inst V (H c)) → FirstPlain (inst U K) (inst V K) →
      FirstPlain (inst U F) (inst V F)
  first_same (root s) u v x = x
  first_same {K = K} (under_argument {a = a} {w = w} t) u v x =
      first_same t u (λ c i. v c (inr i)) (argument_first (inst U K) (inst V K) a w x)
  first_same {K = K} (under_write {c = c} {p = p} l e m h s t) u v x =
      first_same t u (λ c i. v c (inr i))
      (cell_first (inst U K) (inst V K) c p (u c ∙ ap (inst U) h)
      (v c (inl refl) ∙ ap (inst V) h) x)

  pub first_replaced : {n bF : ℕ} {r : ℕ → ℕ} {H : ℕ → Labelled} {F : Labelled} {b : ℕ}
      {K : Labelled} {stack : List Frame} (L : Labelled) (s : Sees n r b L)
      (t : Stands n r H bF F b K stack) → ((c : ℕ) → U c ≡ inst U (H c)) →
      ((c : ℕ) → V c ≡ inst V ((replaced L s t).heap c)) → FirstPlain (inst U K) (inst V L) →
      FirstPlain (inst U F) (inst V (replaced L s t).term)
  unfolding replaced
  first_replaced L s (root t) u v x = x
  first_replaced {n = n} {r = r} {b = b} {K = K} L s (under_argument {a = a} {w = w} t) u v x =
      first_replaced (app L (var a none) w)
      (sees_app n r b L (var a none) w s (sees_arg n r b K (var a none) w (stands_sees t))) t u v
      (argument_first (inst U K) (inst V L) a w x)
  first_replaced {r = r} {H = H} {K = K} L s (under_write {c = c} {p = p} l e m h q t) u v x =
      first_same t u
      (λ d i. v d
      ∙ ap (inst V)
      (with_other H c L d
      (λ k. let g : r d ≡ r c = ap r k in let j = busy_rank d t i in absurd (omega (arith, j, m, e, g)))))
      (cell_first (inst U K) (inst V L) c p (u c ∙ ap (inst U) h)
      (v c ∙ ap (inst V) (with_own H c L c refl)) x)
