-- A term is reduced in an environment: the move is no family step.
use Rattle.std.proofs.Common.{◌≡◌, ℕ, suc, ◌+◌, ◌<◌, ◌⊎◌, inl, inr, List, [], ◌∷◌, ◌++◌, length, true, slice_get, Some, refl, sym, ap, ◌∙◌, subst, arith}
use Rattle.std.proofs.lemmas.Bool.{cases_eq}
use Rattle.std.proofs.lemmas.List.{length_push}
use Rattle.ol_law_edges.specs.Edges.{IsIn}
use Rattle.ol_counts.specs.Machines.{Machine, Link, Cell, waits, Frame, argument, write, Control, goes, behind, entered_link, next}
use Rattle.ol_term.specs.Trees.{Tree}
use Rattle.ol_term.specs.Trees as trees
use Rattle.ol_law_optimality.specs.Labels.{none, Labelled, var, app}
use Rattle.ol_law_optimality.proofs.Putting.{inst, before_none}
use Rattle.ol_counts.proofs.Heaps.{with_at, with_own, with_other, Sees, Sound, rank, rank_own, sees_more, sees_below, cell_values, one_cell_more}
use Rattle.ol_counts.proofs.Stacks.{sees_fun, sees_arg, sees_app, var_sees, Stands, under_argument, stands_sees, root_sees, busy_within, stands_more, Replaced, replaced, SameValue, same_value}
use Rattle.ol_counts.proofs.Places.{Around, around_else}
use Rattle.ol_counts.proofs.Matching.{slice_get_kept, Closure, cell_more, Found, var_closure, free_closure, lam_closure, app_closure, Application}
use Rattle.ol_counts.proofs.Moving.{HasCell, HaveCells, Held, State, have_still, more_sees, enters, measure_of, Onward}
use Rattle.ol_counts.proofs.Weights.{weight, weights, weights_else}
use Rattle.ol_law_edges.proofs.Lists.{got_last}

module _ (T : Labelled) (n : ℕ) (stack : List Frame) (left : List ℕ)
    (cells : List Cell) (links : List Link) (steps : ℕ) where
  abbrev At : Control → Machine
  At control = record {
    control = control;
    stack = stack;
    left = left;
    cells = cells;
    links = links;
    steps = steps;
  }

  -- ---- a variable

  abbrev On : Control → {K : Labelled} → Held n T stack left cells links steps K → Type 0
  On control h = Onward T (next (At control)) h.whole (measure_of control h) steps (h.alone ≡ true)

  goes_var : (k e : ℕ) (K : Labelled) (h : Held n T stack left cells links steps K) →
      Closure links (trees.var k) e K → On (goes (trees.var k) e) h
  goes_var k e K h x = go (sym f.gives) h
    where
      f : Found links (behind links k e) K
      f = var_closure links k e K x

      go : {K : Labelled} → var f.cell f.label ≡ K → (h : Held n T stack left cells links steps K) →
          On (goes (trees.var k) e) h
      go q h =
          subst
          (λ K. (h : Held n T stack left cells links steps K) → On (goes (trees.var k) e) h) q
          (λ h. subst
          (λ o. Onward T (entered_link (At (goes (trees.var k) e)) o) h.whole (measure_of (goes (trees.var k) e) h) steps (h.alone ≡ true))
          (sym f.link)
          (enters T n (goes (trees.var k) e) stack left cells links steps f.cell f.label h))
          h

  -- ---- an application

  goes_app : (f a : Tree) (e : ℕ) (K : Labelled) (h : Held n T stack left cells links steps K) →
      Closure links (trees.app f a) e K → n ≡ length cells → On (goes (trees.app f a) e) h
  goes_app f a e K h x size =
      record { state = state; count_is = refl; whole = refl; less = inr (all, inr (refl, inl lighter)); keeps = λ a. a }
    where
      y : Application links f a e K
      y = app_closure links f a e K x

      U : ℕ → Labelled
      U = h.values

      H : ℕ → Labelled
      H = h.heap

      b : ℕ
      b = h.bound

      r : ℕ → ℕ
      r = rank n h.ranks b

      t : Stands n h.ranks H h.most h.term b (app y.fun y.arg y.label) stack
      t = subst (λ K. Stands n h.ranks H h.most h.term b K stack) y.gives h.stands

      seen : Sees n h.ranks b y.arg
      seen = sees_arg n h.ranks b y.fun y.arg y.label (stands_sees t)

      G : ℕ → Labelled
      G = with_at H n y.arg

      V : ℕ → Labelled
      V = with_at U n (inst U y.arg)

      new_sound : Sound (suc n) r G V
      new_sound = one_cell_more n h.ranks H U h.sound b y.arg seen

      u : Stands (suc n) r G (suc (h.most + h.most)) h.term (suc (b + b)) (app y.fun y.arg y.label) stack
      u =
          stands_more b G (λ c l. with_other H n y.arg c (λ k. absurd (omega (arith, k, l)))) t

      L : Labelled
      L = app y.fun (var n none) y.label

      L_sees : Sees (suc n) r (suc (b + b)) L
      L_sees =
          sees_app (suc n) r (suc (b + b)) y.fun (var n none) y.label
          (sees_more n h.ranks b b y.fun (sees_fun n h.ranks b y.fun y.arg y.label (stands_sees t)))
          (var_sees (suc n) r (suc (b + b)) n none (omega arith)
          (let q = rank_own n h.ranks b n refl in omega (arith, q)))

      z : Replaced (suc n) r G (suc (h.most + h.most)) h.term (suc (b + b)) (app y.fun y.arg y.label) L stack
      z = replaced L L_sees u

      same : inst V (app y.fun y.arg y.label) ≡ inst V L
      same =
          ap (λ c. app (inst V y.fun) c y.label)
          (cell_values n h.ranks H U h.sound b y.arg seen b y.arg seen
          ∙ sym (with_own U n (inst U y.arg) n refl) ∙ sym (before_none (V n)))

      v : SameValue (suc n) r z.heap V h.term z.term
      v = same_value (suc n) r G V new_sound (app y.fun y.arg y.label) L same z.heap h.term z.term z.change

      value : inst U h.term ≡ inst V z.term
      value =
          sym (cell_values n h.ranks H U h.sound b y.arg seen h.most h.term (root_sees t)) ∙ v.value

      left_same : (c : ℕ) → IsIn c left → V c ≡ U c
      left_same c i =
          with_other U n (inst U y.arg) c
          (λ k. let q = h.within c i in absurd (omega (arith, k, q)))

      all : weight (inst V z.term) + weights V left ≡ weight (inst U h.term) + weights U left
      all = λ i. weight (sym value i) + weights_else V U left left_same i

      lighter : weight (inst V y.fun) < weight (inst U K)
      lighter =
          let e : inst V y.fun ≡ inst U y.fun =
          cell_values n h.ranks H U h.sound b y.arg seen b y.fun
          (sees_fun n h.ranks b y.fun y.arg y.label (stands_sees t)) in
          let f : weight (inst V y.fun) ≡ weight (inst U y.fun) = ap weight e in
          let g : weight (inst U K) ≡ suc (weight (inst U y.fun) + weight (inst U y.arg)) =
          ap (λ K. weight (inst U K)) y.gives in
          omega (arith, f, g)

      grown : (c : ℕ) (w : Cell) → slice_get cells c ≡ Some w →
          slice_get (cells ++ waits a e ∷ []) c ≡ Some w
      grown c w q = slice_get_kept cells (waits a e) c w q

      is_name : (x : ℕ) → x < n → U x ≡ var x none → V x ≡ var x none
      is_name x l q =
          with_other U n (inst U y.arg) x (λ k. absurd (omega (arith, k, l))) ∙ q

      old : (c : ℕ) → c < n →
          IsIn (write c) (argument (length cells) ∷ stack)
          ⊎ HasCell (suc n) r (cells ++ waits a e ∷ []) links V c (z.heap c)
      old =
          have_still n (suc n) h.ranks r stack (argument (length cells) ∷ stack) cells
          (cells ++ waits a e ∷ []) links links U V H z.heap h.have (λ d i. inr i)
          (λ d l f. z.kept d f ∙ with_other H n y.arg d (λ k. absurd (omega (arith, k, l)))) grown
          (cell_more n (suc n) links links U V (omega arith) (λ e x q. q) is_name)
          (more_sees n h.ranks b)

      newest : HasCell (suc n) r (cells ++ waits a e ∷ []) links V n (z.heap n)
      newest =
          subst (λ K. HasCell (suc n) r (cells ++ waits a e ∷ []) links V n K)
          (sym (z.kept n (λ i. let l = busy_within n t i in absurd (omega (arith, l)))
          ∙ with_own H n y.arg n refl))
          (record {
            cell = waits a e;
            at =
                ap (slice_get (cells ++ waits a e ∷ [])) size ∙ got_last cells (waits a e);
            is_of = y.arg_is;
            sees =
                subst (λ k. Sees (suc n) r k y.arg) (sym (rank_own n h.ranks b n refl))
                (sees_below n h.ranks b y.arg seen);
          })

      have : HaveCells (suc n) r (argument (length cells) ∷ stack) (cells ++ waits a e ∷ []) links V z.heap
      have c l = elim (cases_eq c n) [
        | inl k ↦ inr
            (subst (λ c. HasCell (suc n) r (cells ++ waits a e ∷ []) links V c (z.heap c)) (sym k) newest)
        | inr k ↦ old c (omega (arith, l, k))
      ]

      state : State T (next (At (goes (trees.app f a) e)))
      state = record {
        count = suc n;
        at_hand = y.fun;
        held =
            record {
              size = length_push cells (waits a e) ∙ (let q = h.size in omega (arith, q));
              ranks = r;
              heap = z.heap;
              values = V;
              most = suc (h.most + h.most);
              term = z.term;
              bound = suc (b + b);
              sound = v.sound;
              stands =
                  subst (λ c. Stands (suc n) r z.heap (suc (h.most + h.most)) z.term (suc (b + b)) y.fun (argument c ∷ stack))
                  size (under_argument z.stands);
              have = have;
              within = λ c i. let q = h.within c i in omega (arith, q);
              whole = h.whole;
              alone = h.alone;
              around =
                  subst (λ t. Around V h.whole h.alone left t) value
                  (around_else V
                  (λ c i. sym
                  (with_other U n (inst U y.arg) c
                  (λ k. let q = h.within c i in absurd (omega (arith, k, q)))))
                  h.around);
              degrees = h.degrees;
              reduces = h.reduces;
              counted = h.counted;
            };
        control_is = y.fun_is;
      }

  -- ---- an abstraction, or a name of the term

  goes_free : (k e : ℕ) (K : Labelled) (h : Held n T stack left cells links steps K) →
      Closure links (trees.free k) e K → On (goes (trees.free k) e) h
  goes_free k e K h x = record {
    state =
        record {
          count = n;
          at_hand = K;
          held = h;
          control_is = free_closure n links h.values k e K x;
        };
    count_is = refl;
    whole = refl;
    less = inr (refl, inl (omega arith));
    keeps = λ a. a;
  }

  goes_lam : (t : Tree) (e : ℕ) (K : Labelled) (h : Held n T stack left cells links steps K) →
      Closure links (trees.lam t) e K → On (goes (trees.lam t) e) h
  goes_lam t e K h x = record {
    state = record { count = n; at_hand = K; held = h; control_is = lam_closure links t e K x };
    count_is = refl;
    whole = refl;
    less = inr (refl, inl (omega arith));
    keeps = λ a. a;
  }

  pub goes_on : (t : Tree) (e : ℕ) (K : Labelled) (h : Held n T stack left cells links steps K) →
      Closure links t e K → On (goes t e) h
  goes_on (trees.var k) e K h x = goes_var k e K h x
  goes_on (trees.free k) e K h x = goes_free k e K h x
  goes_on (trees.lam t) e K h x = goes_lam t e K h x
  goes_on (trees.app f a) e K h x = goes_app f a e K h x (sym h.size)
