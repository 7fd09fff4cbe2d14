-- What came is applied to an argument: an abstraction takes it by a family step, a name has one argument more.
use Rattle.std.proofs.Common.{◌≡◌, ℕ, suc, ◌+◌, ◌<◌, inl, inr, List, [], ◌∷◌, ◌++◌, true, refl, sym, ◌∙◌, subst, arith}
use Rattle.std.proofs.lemmas.List.{length_push}
use Rattle.ol_law_edges.specs.Edges.{IsIn}
use Rattle.ol_counts.specs.Machines.{Machine, Link, function, name, Cell, Frame, argument, write, Control, came, next}
use Rattle.ol_term.specs.Trees.{Tree}
use Rattle.ol_law_optimality.specs.Labels.{Label, none, over, under, joined, Labelled, var, lam, app, before}
use Rattle.ol_law_optimality.specs.Reductions.{Parallel, of_redex, reduct, FamilyStep, FamilyReduces}
use Rattle.ol_law_optimality.specs.Reductions as reductions
use Rattle.ol_law_optimality.proofs.Putting.{up, inst, inst_reduct}
use Rattle.ol_law_optimality.proofs.Needed.{Of}
use Rattle.ol_law_optimality.proofs.Steps.{at_once}
use Rattle.ol_law_optimality.proofs.Together.{parallel_same, parallel_inst}
use Rattle.ol_law_optimality.proofs.Erasing.{erased_before}
use Rattle.ol_counts.proofs.Heaps.{Sees, sees_after, var_after}
use Rattle.ol_counts.proofs.Stacks.{sees_arg, sees_var, Stands, stands_sees, UnderArgument, under_argument_view, Replaced, replaced, StepFurther, step_further, FirstPlain, first_replaced}
use Rattle.ol_counts.proofs.Normals.{redex_or_shape}
use Rattle.ol_counts.proofs.Places.{shape_inside, WholeStep, whole_step}
use Rattle.ol_counts.proofs.Matching.{env, first_kept, chain_new, reduct_env, Abstraction, NameOf, of_argument, name_more, cell_more}
use Rattle.ol_counts.proofs.Moving.{Held, State, have_still, same_sees, means, measure_of, Onward, Contracted, values_of}
use Rattle.ol_counts.proofs.Firsts.{Any, to_any, First, first_here}
use Rattle.ol_law_edges.proofs.Lists.{got_last}

family_more : {T V W : Labelled} {d : Label} {ds : List Label} → FamilyReduces T ds V →
    FamilyStep d V W → FamilyReduces T (ds ++ d ∷ []) W
family_more reductions.ready s = reductions.contract s reductions.ready
family_more (reductions.contract x r) s = reductions.contract x (family_more r s)

module _ (T : Labelled) (n : ℕ) (a : ℕ) (stack : List Frame) (left : List ℕ)
    (cells : List Cell) (links : List Link) (steps : ℕ) where
  abbrev Under : Control → Machine
  Under control = record {
    control = control;
    stack = argument a ∷ stack;
    left = left;
    cells = cells;
    links = links;
    steps = steps;
  }

  pub came_abstraction : (body : Tree) (e : ℕ) (K : Labelled)
      (h : Held n T (argument a ∷ stack) left cells links steps K) → Abstraction links body e K →
      Contracted T (next (Under (came (function body e)))) h.whole steps (h.alone ≡ true)
  came_abstraction body e K h x = record {
    state = state;
    count_is = sum;
    first = w.first inner.step;
    keeps = λ a. a;
    not_yet = λ a q. redex_or_shape (inst U h.term) inner.redex (shape_inside h.around a q);
  }
    where
      U : ℕ → Labelled
      U = h.values

      P : Label → Type 0
      P = Of x.label

      new : Link
      new = record { cell = a; behind = e }

      more : List Link
      more = links ++ new ∷ []

      B : Labelled
      B = inst (up (env x.environment)) x.source

      u : UnderArgument n h.most h.ranks h.heap h.term h.bound K a stack
      u = under_argument_view h.stands

      L : Labelled
      L = reduct u.label x.label (var a none) B

      M : Labelled
      M = app (lam B x.label) (var a none) u.label

      t : Stands n h.ranks h.heap h.most h.term h.bound M stack
      t =
          subst (λ K. Stands n h.ranks h.heap h.most h.term h.bound (app K (var a none) u.label) stack)
          x.gives u.stands

      p : Parallel P M L
      p = of_redex refl (parallel_same P B) (parallel_same P (var a none))

      seen : Sees n h.ranks h.bound L
      seen = sees_after h.ranks p (stands_sees t)

      z : Replaced n h.ranks h.heap h.most h.term h.bound M L stack
      z = replaced L seen t

      f : StepFurther P n h.ranks z.heap U h.term z.term
      f = step_further P n h.ranks h.heap U h.sound M L p z.heap h.term z.term z.change

      V : ℕ → Labelled
      V = f.values

      w : WholeStep P h.whole V h.alone left (inst U h.term) (inst V z.term)
      w = whole_step P V (inst V z.term) f.steps f.step h.around

      any : (c : ℕ) → Parallel Any (U c) (V c)
      any c = to_any (f.steps c)

      sum : steps + 1 ≡ suc steps
      sum = omega arith

      here : FirstPlain (inst U M) (inst V L)
      here = record {
        step =
            record {
              middle = inst U L;
              first =
                  subst (λ t. First (inst U M) t)
                  (sym (inst_reduct U u.label x.label (var a none) B)) first_here;
              step = parallel_inst Any U V any (parallel_same Any L);
            };
        plain = tt;
        redex = inl tt;
      }

      inner : FirstPlain (inst U h.term) (inst V z.term)
      inner =
          first_replaced U V any L seen t (means n h.ranks h.heap U h.sound)
          (means n h.ranks z.heap V f.sound) here

      busy : (d : ℕ) → IsIn (write d) (argument a ∷ stack) → IsIn (write d) stack
      busy d (inl q) = absurd (cc)
      busy d (inr i) = i

      is_name : (y : ℕ) → y < n → U y ≡ var y none → V y ≡ var y none
      is_name y l q = var_after (subst (λ t. Parallel P t (V y)) q (f.steps y))

      state : State T (next (Under (came (function body e))))
      state = record {
        count = n;
        at_hand = L;
        held =
            record {
              size = h.size;
              ranks = h.ranks;
              heap = z.heap;
              values = V;
              most = h.most;
              term = z.term;
              bound = h.bound;
              sound = f.sound;
              stands = z.stands;
              have =
                  have_still n n h.ranks h.ranks (argument a ∷ stack) stack cells cells links more U V
                  h.heap z.heap h.have busy (λ d l g. z.kept d (λ i. g (inr i))) (λ d y q. q)
                  (cell_more n n links more U V (omega arith) (first_kept links new) is_name)
                  (same_sees n h.ranks);
              within = h.within;
              whole = w.whole;
              alone = h.alone;
              around = w.around;
              degrees = h.degrees ++ x.label ∷ [];
              reduces = family_more h.reduces (at_once x.label w.step);
              counted =
                  let q = h.counted in
                  let k = length_push h.degrees x.label in
                  omega (arith, q, k);
            };
        control_is =
            record {
              source = before (joined u.label (over x.label none)) x.source;
              environment = (a, under x.label none) ∷ x.environment;
              erases = erased_before (joined u.label (over x.label none)) x.source ∙ x.erases;
              chain = chain_new links a e (under x.label none) x.environment x.chain;
              bound = x.bound;
              gives = reduct_env a u.label x.label x.environment x.source;
            };
      }

  pub came_name : (e : ℕ) (K : Labelled) (h : Held n T (argument a ∷ stack) left cells links steps K) →
      NameOf n links (values_of h) e K →
      Onward T (next (Under (came (name e)))) h.whole (measure_of (came (name e)) h) steps (h.alone ≡ true)
  came_name e K h x =
      record { state = state; count_is = refl; whole = refl; less = inr (refl, inr (refl, inl (omega arith))); keeps = λ a. a }
    where
      new : Link
      new = record { cell = a; behind = e }

      more : List Link
      more = links ++ new ∷ []

      u : UnderArgument n h.most h.ranks h.heap h.term h.bound K a stack
      u = under_argument_view h.stands

      busy : (d : ℕ) → IsIn (write d) (argument a ∷ stack) → IsIn (write d) stack
      busy d (inl q) = absurd (cc)
      busy d (inr i) = i

      state : State T (next (Under (came (name e))))
      state = record {
        count = n;
        at_hand = app K (var a none) u.label;
        held =
            record {
              size = h.size;
              ranks = h.ranks;
              heap = h.heap;
              values = h.values;
              most = h.most;
              term = h.term;
              bound = h.bound;
              sound = h.sound;
              stands = u.stands;
              have =
                  have_still n n h.ranks h.ranks (argument a ∷ stack) stack cells cells links more h.values
                  h.values h.heap h.heap h.have busy (λ d l g. refl) (λ d y q. q)
                  (cell_more n n links more h.values h.values (omega arith) (first_kept links new)
                  (λ y l q. q))
                  (same_sees n h.ranks);
              within = h.within;
              whole = h.whole;
              alone = h.alone;
              around = h.around;
              degrees = h.degrees;
              reduces = h.reduces;
              counted = h.counted;
            };
        control_is =
            of_argument
            (sees_var n h.ranks h.bound a none
            (sees_arg n h.ranks h.bound K (var a none) u.label (stands_sees u.stands))).0
            (got_last links new)
            (name_more n n links more h.values h.values (omega arith) (first_kept links new)
            (λ y l q. q) x);
      }
