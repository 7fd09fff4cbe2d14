-- What came is in the normal form: the body of an abstraction, or the arguments of a name, are next.
use Rattle.std.proofs.Common.{Bool, false, ◌≡◌, ℕ, suc, ◌+◌, ◌<◌, ◌⊎◌, inl, inr, List, [], ◌∷◌, ◌++◌, length, true, is_none, slice_get, Option, Some, refl, sym, ap, ◌∙◌, subst, arith}
use Rattle.std.proofs.lemmas.Bool.{cases_eq}
use Rattle.std.proofs.lemmas.List.{length_push}
use Rattle.ol_law_edges.specs.Edges.{IsIn}
use Rattle.ol_counts.specs.Machines.{Machine, Link, function, name, Cell, has, write, came, first_link, passed, named, next}
use Rattle.ol_term.specs.Trees.{Tree}
use Rattle.ol_law_optimality.specs.Labels.{Label, none, Labelled, var, lam, app, before, substituted}
use Rattle.ol_law_optimality.proofs.Putting.{ren, up, inst, before_none, inst_inst, inst_substituted}
use Rattle.ol_counts.proofs.Heaps.{Sees, rank, rank_own, rank_other, one_name_more}
use Rattle.ol_counts.proofs.Stacks.{sees_fun, var_sees, root, root_sees, at_root}
use Rattle.ol_counts.proofs.Normals.{Normal}
use Rattle.ol_counts.proofs.Places.{close_at, open_at, substituted_open, closed_again, Around, below, in_function, onward}
use Rattle.ol_counts.proofs.Matching.{Chain, env, slice_get_kept, first_kept, chain_new, put_env, Abstraction, NameOf, of_var, of_free, of_argument, name_neutral, cell_more}
use Rattle.ol_counts.specs.NeedLaws.{has_head}
use Rattle.ol_counts.proofs.Moving.{HasCell, HaveCells, Held, State, have_still, more_sees, enters, total, measure_of, Onward, Outcome, values_of}
use Rattle.ol_counts.proofs.Weights.{weight, weight_ren, some_weight, weights, less_first}
use Rattle.ol_law_edges.proofs.Lists.{got_last}

-- ---- an abstraction

inst_substituted_same : (n : ℕ) (r : ℕ → ℕ) (b : ℕ) (B : Labelled) (v : Label) →
    Sees n r b (lam B v) → Sees (suc n) (rank n r 0) (suc (b + b)) (substituted (var n none) 0 B)
inst_substituted_same n r b B v s σ τ h =
    let e : lam (inst (up σ) B) v ≡ lam (inst (up τ) B) v =
    s σ τ
    (λ z l q. h z (omega (arith, l)) (let k = rank_other n r 0 z l in omega (arith, k, q))) in
    let f : inst (up σ) B ≡ inst (up τ) B = cc in
    let g : σ n ≡ τ n =
    h n (omega arith) (let k = rank_own n r 0 n refl in omega (arith, k)) in
    inst_substituted σ (var n none) B
    ∙ (λ i. substituted (before none (g i)) 0 (f i)) ∙ sym (inst_substituted τ (var n none) B)

pub came_shown : (T : Labelled) (n : ℕ) (left : List ℕ) (cells : List Cell)
    (links : List Link) (steps : ℕ) (body : Tree) (e : ℕ) (K : Labelled)
    (h : Held n T [] left cells links steps K) → Abstraction links body e K → n ≡ length cells →
    Onward T
    (next
    (record {
      control = came (function body e);
      stack = [];
      left = left;
      cells = cells;
      links = links;
      steps = steps;
    }))
    h.whole (measure_of (came (function body e)) h) steps (h.alone ≡ true)
came_shown T n left cells links steps body e K h x size =
    record { state = state; count_is = refl; whole = refl; less = inl lighter; keeps = λ a. a }
  where
    U : ℕ → Labelled
    U = h.values

    r : ℕ → ℕ
    r = rank n h.ranks 0

    B : Labelled
    B = inst (up (env x.environment)) x.source

    N : Labelled
    N = inst (up U) B

    L : Labelled
    L = substituted (var n none) 0 B

    more : List Link
    more = links ++ (record { cell = length cells; behind = e }) ∷ []

    next_cells : List Cell
    next_cells = cells ++ has (name 0) ∷ []

    -- the term is what came
    term_is : lam B x.label ≡ h.term
    term_is = sym x.gives ∙ (at_root h.stands).0

    term_sees : Sees n h.ranks h.most (lam B x.label)
    term_sees = subst (λ t. Sees n h.ranks h.most t) (sym term_is) (root_sees h.stands)

    L_sees : Sees (suc n) r (suc (h.most + h.most)) L
    L_sees = inst_substituted_same n h.ranks h.most B x.label term_sees

    new_name : U n ≡ var n none
    new_name = (h.sound.above n (omega arith)).1

    low : (σ τ : ℕ → Labelled) → ((z : ℕ) → z < n → σ z ≡ τ z) →
        inst σ (lam N x.label) ≡ inst τ (lam N x.label)
    low σ τ g =
        inst_inst (lam B x.label) σ U
        ∙ term_sees (λ z. inst σ (U z)) (λ z. inst τ (U z)) (λ z l q. h.sound.low z l σ τ g)
        ∙ sym (inst_inst (lam B x.label) τ U)

    inside : Around U h.whole h.alone left (lam (ren (close_at n) (ren (open_at n) N)) x.label)
    inside =
        subst (λ t. Around U h.whole h.alone left t)
        (sym (ap (inst U) term_is) ∙ ap (λ b. lam b x.label) (sym (closed_again n N x.label low)))
        h.around

    value : ren (open_at n) N ≡ inst U L
    value =
        sym
        (inst_substituted U (var n none) B
        ∙ ap (λ c. substituted (before none c) 0 N) new_name ∙ substituted_open n N)

    lighter : weight (inst U L) + weights U left < weight (inst U h.term) + weights U left
    lighter =
        let e : weight (inst U L) ≡ weight N = ap weight (sym value) ∙ weight_ren (open_at n) N in
        let f : weight (inst U h.term) ≡ suc (weight N) = ap (λ t. weight (inst U t)) (sym term_is) in
        omega (arith, e, f)

    old : (c : ℕ) → c < n → IsIn (write c) [] ⊎ HasCell (suc n) r next_cells more U c (h.heap c)
    old =
        have_still n (suc n) h.ranks r [] [] cells next_cells links more U U h.heap h.heap h.have
        (λ d i. i) (λ d l f. refl) (λ c w q. slice_get_kept cells (has (name 0)) c w q)
        (cell_more n (suc n) links more U U (omega arith)
        (first_kept links (record { cell = length cells; behind = e })) (λ y l q. q))
        (more_sees n h.ranks 0)

    newest : HasCell (suc n) r next_cells more U n (h.heap n)
    newest = record {
      cell = has (name 0);
      at = ap (slice_get next_cells) size ∙ got_last cells (has (name 0));
      is_of =
          subst (λ K. NameOf (suc n) more U 0 K) (sym (h.sound.above n (omega arith)).0)
          (of_var refl (omega arith) new_name);
      sees = tt;
    }

    have : HaveCells (suc n) r [] next_cells more U h.heap
    have c l = elim (cases_eq c n) [
      | inl k ↦ inr (subst (λ c. HasCell (suc n) r next_cells more U c (h.heap c)) (sym k) newest)
      | inr k ↦ old c (omega (arith, l, k))
    ]

    state : State T
        (next
        (record {
          control = came (function body e);
          stack = [];
          left = left;
          cells = cells;
          links = links;
          steps = steps;
        }))
    state = record {
      count = suc n;
      at_hand = L;
      held =
          record {
            size = length_push cells (has (name 0)) ∙ (let q = h.size in omega (arith, q));
            ranks = r;
            heap = h.heap;
            values = U;
            most = suc (h.most + h.most);
            term = L;
            bound = suc (h.most + h.most);
            sound = one_name_more n h.ranks h.heap U h.sound 0;
            stands = root L_sees;
            have = have;
            within = λ c i. let q = h.within c i in omega (arith, q);
            whole = h.whole;
            alone = h.alone;
            around = subst (λ t. Around U h.whole h.alone left t) value (below n inside);
            degrees = h.degrees;
            reduces = h.reduces;
            counted = h.counted;
          };
      control_is =
          record {
            source = x.source;
            environment = (n, none) ∷ x.environment;
            erases = x.erases;
            chain =
                subst (λ c. Chain (links ++ (record { cell = length cells; behind = e }) ∷ []) (suc (length links)) ((c, none) ∷ x.environment))
                (sym size) (chain_new links (length cells) e none x.environment x.chain);
            bound = x.bound;
            gives = put_env n none x.environment x.source;
          };
    }

-- ---- a name

module _ (T : Labelled) (n : ℕ) (cells : List Cell) (links : List Link) (steps : ℕ) (e : ℕ) where
  abbrev With : List ℕ → Machine
  With left = record {
    control = came (name e);
    stack = [];
    left = left;
    cells = cells;
    links = links;
    steps = steps;
  }

  -- what comes next, the arguments being done
  -- before the machine has a name, only abstractions are round what it reduces
  abbrev Alone : (left : List ℕ) {K : Labelled} → Held n T [] left cells links steps K → Type 0
  Alone left h = (h.alone ≡ true) × (has_head (With left) ≡ true → ⊥)

  came_passed : (left : List ℕ) (K : Labelled) (h : Held n T [] left cells links steps K) →
      NameOf n links (values_of h) e K → Normal (inst (values_of h) K) →
      is_none (first_link links e) ≡ true →
      Outcome T (With left) (passed (With left) left) h.whole (measure_of (came (name e)) h) (Alone left h)
  came_passed [] K h x normal bare =
      inr (inr (record { count = n; at_hand = K; held = h; control_is = x }, bare))
  came_passed (c ∷ left) K h x normal bare =
      inl
      (record {
        state = y.state;
        count_is = y.count_is;
        whole = y.whole;
        less =
            less_first (measure_of (passed (With (c ∷ left)) (c ∷ left)).control y.state.held)
            (total g, 1, weight (inst h.values (var c none)), suc (h.ranks c))
            (measure_of (came (name e)) h) y.less
            (let a : weight (before none (h.values c)) ≡ weight (h.values c) =
            ap weight (before_none (h.values c)) in
            let b = some_weight (inst h.values h.term) in omega (arith, a, b));
        keeps = λ a. absurd (a.1 refl);
      })
    where
      next_part : (b : Bool) × Around h.values h.whole b left (h.values c)
      next_part =
          onward h.around (subst (λ K. Normal (inst h.values K)) (at_root h.stands).0 normal)

      g : Held n T [] left cells links steps (var c none)
      g = record {
        size = h.size;
        ranks = h.ranks;
        heap = h.heap;
        values = h.values;
        most = suc (h.ranks c);
        term = var c none;
        bound = suc (h.ranks c);
        sound = h.sound;
        stands =
            root
            (var_sees n h.ranks (suc (h.ranks c)) c none (h.within c (inl refl)) (omega arith));
        have = h.have;
        within = λ d i. h.within d (inr i);
        whole = h.whole;
        alone = next_part.0;
        around =
            subst (λ t. Around h.values h.whole next_part.0 left t) (sym (before_none (h.values c)))
            next_part.1;
        degrees = h.degrees;
        reduces = h.reduces;
        counted = h.counted;
      }

      y : Onward T (passed (With (c ∷ left)) (c ∷ left)) h.whole
          (total g, 1, weight (inst h.values (var c none)), suc (h.ranks c)) steps (next_part.0 ≡ true)
      y = enters T n (came (name e)) [] left cells links steps c none g

  abbrev Named : (left : List ℕ) {K : Labelled} → Held n T [] left cells links steps K →
      Option Link → Type 0
  Named left h o =
      Outcome T (With left) (named (With left) o) h.whole (measure_of (came (name e)) h) (Alone left h)

  pub came_named : (left : List ℕ) (K : Labelled) (h : Held n T [] left cells links steps K) →
      (x : NameOf n links (values_of h) e K) → Named left h (first_link links e)
  came_named left K h (of_var {w = w} z l q) =
      subst (λ e'. Named left h (first_link links e')) (sym z)
      (came_passed left K h (of_var z l q) (subst (λ t. Normal (before w t)) (sym q) tt)
      (ap (λ e. is_none (first_link links e)) z))
  came_named left K h (of_free z) =
      subst (λ e'. Named left h (first_link links e')) (sym z)
      (came_passed left K h (of_free z) tt (ap (λ e. is_none (first_link links e)) z))
  came_named left K h (of_argument {b = b} {a = a} {K = M} {w = w} l q y) =
      subst (λ o. Named left h o) (sym q)
      (inl
      (record {
        state = state;
        count_is = refl;
        whole = refl;
        less = inl lighter;
        keeps = λ a. absurd (a.1 refl);
      }))
    where
      state : State T (named (With left) (Some (record { cell = a; behind = b })))
      state = record {
        count = n;
        at_hand = M;
        held =
            record {
              size = h.size;
              ranks = h.ranks;
              heap = h.heap;
              values = h.values;
              most = h.most;
              term = M;
              bound = h.most;
              sound = h.sound;
              stands =
                  root
                  (sees_fun n h.ranks h.most M (var a none) w
                  (subst (λ t. Sees n h.ranks h.most t) (sym (at_root h.stands).0) (root_sees h.stands)));
              have = h.have;
              within = λ c i. elim i [ inl k ↦ subst (λ c. c < n) (sym k) l | inr j ↦ h.within c j ];
              whole = h.whole;
              alone = false;
              around =
                  in_function (name_neutral y)
                  (subst (λ t. Around h.values h.whole h.alone left t)
                  (sym (ap (inst h.values) (at_root h.stands).0)
                  ∙ ap (λ t. app (inst h.values M) t w) (before_none (h.values a)))
                  h.around);
              degrees = h.degrees;
              reduces = h.reduces;
              counted = h.counted;
            };
        control_is = y;
      }

      lighter : weight (inst h.values M) + (weight (h.values a) + weights h.values left)
          < weight (inst h.values h.term) + weights h.values left
      lighter =
          let f : weight (inst h.values h.term)
          ≡ suc (weight (inst h.values M) + weight (before none (h.values a))) =
          ap (λ t. weight (inst h.values t)) (sym (at_root h.stands).0) in
          let g : weight (before none (h.values a)) ≡ weight (h.values a) =
          ap weight (before_none (h.values a)) in
          omega (arith, f, g)
