-- Each move of the machine, as a step of the labelled term, or none.
use Rattle.std.proofs.Common.{Bool, ◌≡◌, ℕ, suc, ◌+◌, ◌<◌, ◌≤◌, ◌⊎◌, inl, inr, List, ◌∷◌, length, true, slice_get, Some, refl, sym, ap, ◌∙◌, subst, arith}
use Rattle.ol_law_edges.specs.Edges.{IsIn}
use Rattle.ol_counts.specs.Machines.{Machine, Link, Cell, waits, has, Frame, write, Control, goes, came, entered, entered_cell, is_ended}
use Rattle.ol_law_optimality.specs.Labels.{Label, none, Labelled, var, before}
use Rattle.ol_law_optimality.specs.Reductions.{FamilyReduces}
use Rattle.ol_law_optimality.proofs.Putting.{inst, before_none, before_inst}
use Rattle.ol_counts.proofs.Heaps.{Sees, IsName, IsBound, Sound, rank, rank_other, sees_more}
use Rattle.ol_counts.proofs.Firsts.{FirstStep}
use Rattle.ol_counts.proofs.Normals.{HeadShape}
use Rattle.ol_counts.proofs.Weights.{weight, weight_before, weights, Four, Less}
use Rattle.ol_counts.proofs.Stacks.{sees_var, var_sees, Stands, under_write, stands_sees, busy_rank, busy_or_not, replaced, same_value}
use Rattle.ol_counts.proofs.Places.{Around}
use Rattle.ol_counts.proofs.Matching.{CellOf, ControlOf, weak_before}

-- ---- what the machine stands for

-- a cell that waits sees cells of lower ranks
abbrev pub SeesOf : ℕ → (ℕ → ℕ) → ℕ → Labelled → Cell → Type 0
SeesOf n r b K (waits t e) = Sees n r b K
SeesOf n r b K (has weak) = Unit {0}

pub record HasCell (n : ℕ) (r : ℕ → ℕ) (cells : List Cell) (links : List Link) (U : ℕ → Labelled) (c : ℕ)
    (K : Labelled) : Type 0 where
  pub cell : Cell
  pub at : slice_get cells c ≡ Some cell
  pub is_of : CellOf n links U cell K
  pub sees : SeesOf n r (r c) K cell

abbrev pub HaveCells : ℕ → (ℕ → ℕ) → List Frame → List Cell → List Link → (ℕ → Labelled) →
    (ℕ → Labelled) → Type 0
HaveCells n r stack cells links U H =
    (c : ℕ) → c < n → IsIn (write c) stack ⊎ HasCell n r cells links U c (H c)

-- K is what is at hand
pub record Held (n : ℕ) (T : Labelled) (stack : List Frame) (left : List ℕ) (cells : List Cell)
    (links : List Link) (steps : ℕ) (K : Labelled) : Type 0 where
  pub size : length cells ≡ n
  pub ranks : ℕ → ℕ
  pub heap : ℕ → Labelled
  pub values : ℕ → Labelled
  pub most : ℕ
  pub term : Labelled
  pub bound : ℕ
  pub sound : Sound n ranks heap values
  pub stands : Stands n ranks heap most term bound K stack
  pub have : HaveCells n ranks stack cells links values heap
  pub within : (c : ℕ) → IsIn c left → c < n
  pub whole : Labelled
  pub alone : Bool
  pub around : Around values whole alone left (inst values term)
  pub degrees : List Label
  pub reduces : FamilyReduces T degrees whole
  pub counted : steps ≡ length degrees

abbrev pub values_of : {n : ℕ} {T : Labelled} {stack : List Frame} {left : List ℕ} {cells : List Cell}
    {links : List Link} {steps : ℕ} {K : Labelled} → Held n T stack left cells links steps K →
    ℕ → Labelled
values_of h = h.values

pub record State (T : Labelled) (m : Machine) : Type 0 where
  pub count : ℕ
  pub at_hand : Labelled
  pub held : Held count T m.stack m.left m.cells m.links m.steps at_hand
  pub control_is : ControlOf count m.links held.values m.control at_hand

-- ---- what is left of it, and how a move goes on

abbrev pub total : {n : ℕ} {T : Labelled} {stack : List Frame} {left : List ℕ} {cells : List Cell}
    {links : List Link} {steps : ℕ} {K : Labelled} → Held n T stack left cells links steps K → ℕ
total {left = left} h = weight (inst h.values h.term) + weights h.values left

abbrev pub measure_of : {n : ℕ} {T : Labelled} {stack : List Frame} {left : List ℕ}
    {cells : List Cell} {links : List Link} {steps : ℕ} {K : Labelled} → Control →
    Held n T stack left cells links steps K → Four
measure_of {K = K} (goes t e) h = (total h, 1, weight (inst h.values K), h.bound)
measure_of {stack = stack} (came weak) h = (total h, 0, length stack, 0)

-- the term stays, and less is left
-- where A, only abstractions are round the part that is reduced, before it and after it
pub record Onward (T : Labelled) (m : Machine) (W : Labelled) (x : Four) (k : ℕ) (A : Type 0) : Type 0 where
  pub state : State T m
  pub count_is : m.steps ≡ k
  pub whole : state.held.whole ≡ W
  pub less : Less (measure_of m.control state.held) x
  pub keeps : A → state.held.alone ≡ true

-- the leftmost redex of the term is contracted
pub record Contracted (T : Labelled) (m : Machine) (W : Labelled) (k : ℕ) (A : Type 0) : Type 0 where
  pub state : State T m
  pub count_is : m.steps ≡ suc k
  pub first : FirstStep W state.held.whole
  pub keeps : A → state.held.alone ≡ true
  pub not_yet : A → HeadShape W → ⊥

-- or the machine has come to its end
abbrev pub Outcome : Labelled → Machine → Machine → Labelled → Four → Type 0 → Type 0
Outcome T m p W x A =
    Onward T p W x m.steps A ⊎ (Contracted T p W m.steps A ⊎ (State T p × (is_ended m ≡ true)))

pub onward_if : {T : Labelled} {m : Machine} {W : Labelled} {x : Four} {k : ℕ} {A B : Type 0} → (B → A) →
    Onward T m W x k A → Onward T m W x k B
onward_if f o = record {
  state = o.state;
  count_is = o.count_is;
  whole = o.whole;
  less = o.less;
  keeps = λ b. o.keeps (f b);
}

pub contracted_if : {T : Labelled} {m : Machine} {W : Labelled} {k : ℕ} {A B : Type 0} → (B → A) →
    Contracted T m W k A → Contracted T m W k B
contracted_if f c = record {
  state = c.state;
  count_is = c.count_is;
  first = c.first;
  keeps = λ b. c.keeps (f b);
  not_yet = λ b. c.not_yet (f b);
}

-- ---- what a cell has, for its reference

weaker : (n : ℕ) (r : ℕ → ℕ) (b c : ℕ) (K : Labelled) → b ≤ c → Sees n r b K → Sees n r c K
weaker n r b c K l s σ τ h = s σ τ (λ z i q. h z i (omega (arith, l, q)))

sees_before : (n : ℕ) (r : ℕ → ℕ) (b : ℕ) (K : Labelled) (p : Label) → Sees n r b K →
    Sees n r b (before p K)
sees_before n r b K p s σ τ h =
    before_inst p σ K ∙ ap (before p) (s σ τ h) ∙ sym (before_inst p τ K)

module _ (n : ℕ) (r : ℕ → ℕ) (H U : ℕ → Labelled) (s : Sound n r H U) where
  pub means : (c : ℕ) → U c ≡ inst U (H c)
  means c = go (s.kind c)
    where
      go : IsName H U c ⊎ IsBound n r H U c → U c ≡ inst U (H c)
      go (inl x) = sym (ap (inst U) x.0 ∙ before_none (U c))
      go (inr x) = x.1

  sees_cell : (b c : ℕ) → c < n → r c < b → Sees n r b (H c)
  sees_cell b c l m = go (s.kind c)
    where
      go : IsName H U c ⊎ IsBound n r H U c → Sees n r b (H c)
      go (inl x) = subst (λ t. Sees n r b t) (sym x.0) (var_sees n r b c none l m)
      go (inr x) = weaker n r (r c) b (H c) (omega (arith, m)) x.0

pub record Looked (n : ℕ) (r : ℕ → ℕ) (H U : ℕ → Labelled) (bF : ℕ) (F : Labelled) (b c : ℕ) (p : Label)
    (stack : List Frame) : Type 0 where
  pub heap : ℕ → Labelled
  pub term : Labelled
  pub sound : Sound n r heap U
  pub stands : Stands n r heap bF term b (before p (H c)) stack
  pub kept : (y : ℕ) → (IsIn (write y) stack → ⊥) → heap y ≡ H y
  pub value : inst U F ≡ inst U term

pub looked : (n : ℕ) (r : ℕ → ℕ) (H U : ℕ → Labelled) (bF : ℕ) (F : Labelled) (b c : ℕ) (p : Label)
    (stack : List Frame) → Sound n r H U → Stands n r H bF F b (var c p) stack →
    Looked n r H U bF F b c p stack
looked n r H U bF F b c p stack s t =
    let q = sees_var n r b c p (stands_sees t) in
    let L = before p (H c) in
    let x = replaced L (sees_before n r b (H c) p (sees_cell n r H U s b c q.0 q.1)) t in
    let e : inst U (var c p) ≡ inst U L =
    ap (before p) (means n r H U s c) ∙ sym (before_inst p U (H c)) in
    let y = same_value n r H U s (var c p) L e x.heap F x.term x.change in
    record {
      heap = x.heap;
      term = x.term;
      sound = y.sound;
      stands = x.stands;
      kept = x.kept;
      value = y.value;
    }

-- ---- the cells, after a move

module _ (n m : ℕ) (r q : ℕ → ℕ) (stack after : List Frame) (cells next : List Cell)
    (links more : List Link) (U V H G : ℕ → Labelled) (h : HaveCells n r stack cells links U H)
    (busy : (c : ℕ) → IsIn (write c) stack → IsIn (write c) after)
    (kept : (c : ℕ) → c < n → (IsIn (write c) stack → ⊥) → G c ≡ H c)
    (at : (c : ℕ) (x : Cell) → slice_get cells c ≡ Some x → slice_get next c ≡ Some x)
    (cell : (x : Cell) (K : Labelled) → CellOf n links U x K → CellOf m more V x K)
    (sees : (c : ℕ) (K : Labelled) (x : Cell) → c < n → SeesOf n r (r c) K x → SeesOf m q (q c) K x) where
  pub have_still : (c : ℕ) → c < n → IsIn (write c) after ⊎ HasCell m q next more V c (G c)
  have_still c l = go (busy_or_not c stack) (h c l)
    where
      go : IsIn (write c) stack ⊎ (IsIn (write c) stack → ⊥) →
          IsIn (write c) stack ⊎ HasCell n r cells links U c (H c) →
          IsIn (write c) after ⊎ HasCell m q next more V c (G c)
      go (inl i) y = inl (busy c i)
      go (inr f) (inl i) = absurd (f i)
      go (inr f) (inr y) =
          inr
          (subst (λ K. HasCell m q next more V c K) (sym (kept c l f))
          (record {
            cell = y.cell;
            at = at c y.cell y.at;
            is_of = cell y.cell (H c) y.is_of;
            sees = sees c (H c) y.cell l y.sees;
          }))

pub same_sees : (n : ℕ) (r : ℕ → ℕ) (c : ℕ) (K : Labelled) (x : Cell) → c < n → SeesOf n r (r c) K x →
    SeesOf n r (r c) K x
same_sees n r c K x l s = s

pub more_sees : (n : ℕ) (r : ℕ → ℕ) (b c : ℕ) (K : Labelled) (x : Cell) → c < n →
    SeesOf n r (r c) K x → SeesOf (suc n) (rank n r b) (rank n r b c) K x
more_sees n r b c K (waits t e) l s =
    subst (λ k. Sees (suc n) (rank n r b) k K) (sym (rank_other n r b c l))
    (sees_more n r (r c) b K s)
more_sees n r b c K (has weak) l s = tt

-- ---- a cell is gone on with

module _ (T : Labelled) (n : ℕ) (control : Control) (stack : List Frame) (left : List ℕ)
    (cells : List Cell) (links : List Link) (steps : ℕ) (c : ℕ) (p : Label)
    (h : Held n T stack left cells links steps (var c p)) where
  abbrev pub machine : Machine
  machine = record {
    control = control;
    stack = stack;
    left = left;
    cells = cells;
    links = links;
    steps = steps;
  }

  abbrev Entered : Machine → Type 0
  Entered m = Onward T m h.whole (total h, 1, weight (inst h.values (var c p)), h.bound) steps (h.alone ≡ true)

  entered_has : (x : HasCell n h.ranks cells links h.values c (h.heap c)) (y : Cell) →
      x.cell ≡ y → Entered (entered_cell machine c (Some y))
  entered_has x (waits t e) k =
      let q = sees_var n h.ranks h.bound c p (stands_sees h.stands) in
      let s : Sees n h.ranks (h.ranks c) (h.heap c) =
      subst (λ y. SeesOf n h.ranks (h.ranks c) (h.heap c) y) k x.sees in
      let f : weight (inst h.values (h.heap c)) ≡ weight (before p (h.values c)) =
      sym (weight_before p (h.values c) ∙ ap weight (means n h.ranks h.heap h.values h.sound c)) in
      record {
        state =
            record {
              count = n;
              at_hand = h.heap c;
              held =
                  record {
                    size = h.size;
                    ranks = h.ranks;
                    heap = h.heap;
                    values = h.values;
                    most = h.most;
                    term = h.term;
                    bound = h.ranks c;
                    sound = h.sound;
                    stands = under_write q.0 refl q.1 refl s h.stands;
                    have =
                        have_still n n h.ranks h.ranks stack (write c ∷ stack) cells cells links
                        links h.values h.values h.heap h.heap h.have (λ d i. inr i)
                        (λ d l f. refl) (λ d y e. e) (λ y K o. o) (same_sees n h.ranks);
                    within = h.within;
                    whole = h.whole;
                    alone = h.alone;
                    around = h.around;
                    degrees = h.degrees;
                    reduces = h.reduces;
                    counted = h.counted;
                  };
              control_is = subst (λ y. CellOf n links h.values y (h.heap c)) k x.is_of;
            };
        count_is = refl;
        whole = refl;
        less = inr (refl, inr (refl, inr (f, q.1)));
        keeps = λ a. a;
      }
  entered_has x (has weak) k =
      let y =
      looked n h.ranks h.heap h.values h.most h.term h.bound c p stack h.sound h.stands in
      let f = y.value in
      record {
        state =
            record {
              count = n;
              at_hand = before p (h.heap c);
              held =
                  record {
                    size = h.size;
                    ranks = h.ranks;
                    heap = y.heap;
                    values = h.values;
                    most = h.most;
                    term = y.term;
                    bound = h.bound;
                    sound = y.sound;
                    stands = y.stands;
                    have =
                        have_still n n h.ranks h.ranks stack stack cells cells links links
                        h.values h.values h.heap y.heap h.have (λ d i. i)
                        (λ d l f. y.kept d f) (λ d y e. e) (λ y K o. o) (same_sees n h.ranks);
                    within = h.within;
                    whole = h.whole;
                    alone = h.alone;
                    around = subst (λ t. Around h.values h.whole h.alone left t) y.value h.around;
                    degrees = h.degrees;
                    reduces = h.reduces;
                    counted = h.counted;
                  };
              control_is =
                  weak_before n links h.values weak (h.heap c) p
                  (subst (λ y. CellOf n links h.values y (h.heap c)) k x.is_of);
            };
        count_is = refl;
        whole = refl;
        less =
            inr (ap (λ t. weight t + weights h.values left) (sym y.value), inl (omega arith));
        keeps = λ a. a;
      }

  pub enters : Onward T (entered machine c) h.whole
      (total h, 1, weight (inst h.values (var c p)), h.bound) steps (h.alone ≡ true)
  enters = go (h.have c q.0)
    where
      q : (c < n) × (h.ranks c < h.bound)
      q = sees_var n h.ranks h.bound c p (stands_sees h.stands)

      go : IsIn (write c) stack ⊎ HasCell n h.ranks cells links h.values c (h.heap c) →
          Entered (entered machine c)
      go (inl i) =
          let k = busy_rank c h.stands i in let l = q.1 in absurd (omega (arith, k, l))
      go (inr x) =
          subst (λ o. Entered (entered_cell machine c o)) (sym x.at) (entered_has x x.cell refl)
