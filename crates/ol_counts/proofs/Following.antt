-- The machine follows the rules of call-by-need.
use Rattle.std.proofs.Common.{◌≡◌, ℕ, zero, suc, ◌+◌, ◌<◌, ◌≤◌, ◌==◌, ◌&&◌, true, false, ◌⊎◌, inl, inr, List, [], ◌∷◌, ◌++◌, length, slice_get, slice_set, Some, refl, sym, ap, ◌∙◌, subst, arith}
use Rattle.std.proofs.lemmas.Bool.{eqb-true, ltb-true, and_parts, cases_eq}
use Rattle.std.proofs.lemmas.List.{length_push}
use Rattle.std.proofs.lemmas.Option.{same_Some}
use Rattle.ol_counts.specs.Machines.{Machine, Link, Weak, Frame, Control, goes, came, first_link, behind, behind_link, entered, entered_cell, entered_link, next, after, has_name, is_ended, steps_if_ended, passed}
use Rattle.ol_counts.specs.Machines as machine
use Rattle.ol_term.specs.Trees.{Tree, is_below}
use Rattle.ol_term.specs.Trees as trees
use Rattle.ol_counts.specs.NeedRules.{free, WeakForm, function, name, HeapCell, waits, taken, has, Evaluates, of_free, of_lam, first_use, later_use, beta, argument}
use Rattle.ol_law_edges.specs.Edges.{IsIn}
use Rattle.ol_law_optimality.specs.Labels.{Labelled}
use Rattle.ol_counts.proofs.Heaps.{Sees}
use Rattle.ol_counts.proofs.Stacks.{busy_rank, sees_var, stands_sees}
use Rattle.ol_counts.proofs.Moving.{State}
use Rattle.ol_counts.proofs.Finding.{after_next}
use Rattle.ol_counts.proofs.Matching.{behind_first, slice_get_kept, first_kept, var_closure}
use Rattle.ol_counts.proofs.Stepping.{moves}
use Rattle.ol_counts.proofs.Writing.{set_same, set_other, set_length}
use Rattle.ol_counts.proofs.Moves.{ended_if}
use Rattle.ol_law_edges.proofs.Lists.{got_last}

-- ---- what the machine has of a heap

-- a chain of cells below n
abbrev pub ChainOf : ℕ → List Link → ℕ → List ℕ → Type 0
ChainOf n links e [] = e ≡ 0
ChainOf n links e (c ∷ ρ) =
    (b : ℕ) × (first_link links e ≡ Some (record { cell = c; behind = b })) × (c < n) × ChainOf n links b ρ

-- the same term, with a chain for its environment, and no variable is dangling
abbrev pub ClosureOf : ℕ → List Link → ℕ → Tree → List ℕ → Tree → ℕ → Type 0
ClosureOf n links d t ρ u e = (t ≡ u) × ChainOf n links e ρ × (is_below (d + length ρ) t ≡ true)

abbrev pub ValueOf : ℕ → List Link → WeakForm → Weak → Type 0
ValueOf n links (function t ρ) (machine.function u e) = ClosureOf n links 1 t ρ u e
ValueOf n links (name h cs) (machine.name e) = ChainOf n links e cs
ValueOf n links _ _ = ⊥

abbrev pub CellOf : ℕ → List Link → HeapCell → machine.Cell → Type 0
CellOf n links (waits t ρ) (machine.waits u e) = ClosureOf n links 0 t ρ u e
CellOf n links (has v) (machine.has w) = ValueOf n links v w
CellOf n links _ _ = ⊥

pub record CellAt (n : ℕ) (links : List Link) (Γ : List HeapCell) (cells : List machine.Cell) (c : ℕ) : Type 0 where
  pub cell : HeapCell
  pub own : machine.Cell
  pub at : slice_get Γ c ≡ Some cell
  pub own_at : slice_get cells c ≡ Some own
  pub same : CellOf n links cell own

-- a cell over which is still to be written is taken, whatever the machine has there
pub record HeapOf (n : ℕ) (links : List Link) (stack : List Frame) (Γ : List HeapCell) (cells : List machine.Cell) :
    Type 0 where
  pub size : length Γ ≡ n
  pub own_size : length cells ≡ n
  pub busy : (c : ℕ) → IsIn (machine.write c) stack → (c < n) × (slice_get Γ c ≡ Some taken)
  pub at : (c : ℕ) → c < n → (IsIn (machine.write c) stack → ⊥) → CellAt n links Γ cells c

-- ---- more cells and links

abbrev pub Grown : List Link → List Link → Type 0
Grown links more = (e : ℕ) (x : Link) → first_link links e ≡ Some x → first_link more e ≡ Some x

module _ (n m : ℕ) (links more : List Link) (l : n ≤ m) (f : Grown links more) where
  pub chain_on : (e : ℕ) (ρ : List ℕ) → ChainOf n links e ρ → ChainOf m more e ρ
  chain_on e [] c = c
  chain_on e (x ∷ ρ) c =
      let k = c.2 in
      (c.0, f e (record { cell = x; behind = c.0 }) c.1, omega (arith, k, l), chain_on c.0 ρ c.3)

  pub closure_on : (d : ℕ) (t : Tree) (ρ : List ℕ) (u : Tree) (e : ℕ) → ClosureOf n links d t ρ u e →
      ClosureOf m more d t ρ u e
  closure_on d t ρ u e c = (c.0, chain_on e ρ c.1, c.2)

  pub value_on : (v : WeakForm) (w : Weak) → ValueOf n links v w → ValueOf m more v w
  value_on (function t ρ) (machine.function u e) c = closure_on 1 t ρ u e c
  value_on (function t ρ) (machine.name e) c = c
  value_on (name h cs) (machine.function u e) c = c
  value_on (name h cs) (machine.name e) c = chain_on e cs c

  pub cell_on : (x : HeapCell) (y : machine.Cell) → CellOf n links x y → CellOf m more x y
  cell_on (waits t ρ) (machine.waits u e) c = closure_on 0 t ρ u e c
  cell_on (waits t ρ) (machine.has w) c = c
  cell_on taken (machine.waits u e) c = c
  cell_on taken (machine.has w) c = c
  cell_on (has v) (machine.waits u e) c = c
  cell_on (has v) (machine.has w) c = value_on v w c

pub heap_links : (n : ℕ) (links more : List Link) (stack : List Frame) (Γ : List HeapCell)
    (cells : List machine.Cell) → Grown links more → HeapOf n links stack Γ cells →
    HeapOf n more stack Γ cells
heap_links n links more stack Γ cells f h = record {
  size = h.size;
  own_size = h.own_size;
  busy = h.busy;
  at =
      λ c l b. let x = h.at c l b in
      record {
        cell = x.cell;
        own = x.own;
        at = x.at;
        own_at = x.own_at;
        same = cell_on n n links more (omega arith) f x.cell x.own x.same;
      };
}

pub heap_push : (n : ℕ) (links : List Link) (stack : List Frame) (Γ : List HeapCell) (cells : List machine.Cell)
    (x : HeapCell) (y : machine.Cell) → HeapOf n links stack Γ cells → CellOf (suc n) links x y →
    HeapOf (suc n) links stack (Γ ++ x ∷ []) (cells ++ y ∷ [])
heap_push n links stack Γ cells x y h s = record {
  size = length_push Γ x ∙ (let q = h.size in omega (arith, q));
  own_size = length_push cells y ∙ (let q = h.own_size in omega (arith, q));
  busy =
      λ c i. let z = h.busy c i in
      let l = z.0 in (omega (arith, l), slice_get_kept Γ x c taken z.1);
  at = λ c l b. go c l b (cases_eq c n);
}
  where
    go : (c : ℕ) → c < suc n → (IsIn (machine.write c) stack → ⊥) → (c ≡ n) ⊎ (c ≡ n → ⊥) →
        CellAt (suc n) links (Γ ++ x ∷ []) (cells ++ y ∷ []) c
    go c l b (inl e) = record {
      cell = x;
      own = y;
      at = ap (slice_get (Γ ++ x ∷ [])) (e ∙ sym h.size) ∙ got_last Γ x;
      own_at =
          ap (slice_get (cells ++ y ∷ [])) (e ∙ sym h.own_size) ∙ got_last cells y;
      same = s;
    }
    go c l b (inr e) =
        let z = h.at c (omega (arith, l, e)) b in
        record {
          cell = z.cell;
          own = z.own;
          at = slice_get_kept Γ x c z.cell z.at;
          own_at = slice_get_kept cells y c z.own z.own_at;
          same = cell_on n (suc n) links links (omega arith) (λ e x q. q) z.cell z.own z.same;
        }

other_frame : (d c : ℕ) (stack : List Frame) → (d ≡ c → ⊥) → (IsIn (machine.write d) stack → ⊥) →
    IsIn (machine.write d) (machine.write c ∷ stack) → ⊥
other_frame d c stack n b (inl e) = n (let k : d ≡ c = cc in k)
other_frame d c stack n b (inr i) = b i

no_argument_frame : (d a : ℕ) (stack : List Frame) → (IsIn (machine.write d) stack → ⊥) →
    IsIn (machine.write d) (machine.argument a ∷ stack) → ⊥
no_argument_frame d a stack b (inl e) = absurd (cc)
no_argument_frame d a stack b (inr i) = b i

under_argument_frame : (d a : ℕ) (stack : List Frame) →
    IsIn (machine.write d) (machine.argument a ∷ stack) → IsIn (machine.write d) stack
under_argument_frame d a stack (inl e) = absurd (cc)
under_argument_frame d a stack (inr i) = i

-- an argument is put on the stack, or taken off
pub heap_argument : (n : ℕ) (links : List Link) (a : ℕ) (stack : List Frame) (Γ : List HeapCell)
    (cells : List machine.Cell) → HeapOf n links stack Γ cells →
    HeapOf n links (machine.argument a ∷ stack) Γ cells
heap_argument n links a stack Γ cells h = record {
  size = h.size;
  own_size = h.own_size;
  busy = λ c i. h.busy c (under_argument_frame c a stack i);
  at = λ c l b. h.at c l (λ i. b (inr i));
}

pub heap_applied : (n : ℕ) (links : List Link) (a : ℕ) (stack : List Frame) (Γ : List HeapCell)
    (cells : List machine.Cell) → HeapOf n links (machine.argument a ∷ stack) Γ cells →
    HeapOf n links stack Γ cells
heap_applied n links a stack Γ cells h = record {
  size = h.size;
  own_size = h.own_size;
  busy = λ c i. h.busy c (inr i);
  at = λ c l b. h.at c l (no_argument_frame c a stack b);
}

-- what is in a cell is taken out
pub heap_take : (n : ℕ) (links : List Link) (stack : List Frame) (Γ : List HeapCell) (cells : List machine.Cell)
    (c : ℕ) → c < n → (IsIn (machine.write c) stack → ⊥) → HeapOf n links stack Γ cells →
    HeapOf n links (machine.write c ∷ stack) (slice_set Γ c taken) cells
heap_take n links stack Γ cells c l b h = record {
  size = set_length Γ c taken ∙ h.size;
  own_size = h.own_size;
  busy = busy;
  at = λ d m f. at d m f;
}
  where
    busy : (d : ℕ) → IsIn (machine.write d) (machine.write c ∷ stack) →
        (d < n) × (slice_get (slice_set Γ c taken) d ≡ Some taken)
    busy d (inl e) =
        let k : d ≡ c = cc in (
          omega (arith, k, l),
          ap (slice_get (slice_set Γ c taken)) k
              ∙ set_same Γ c taken (let q = h.size in omega (arith, l, q)),
        )
    busy d (inr i) =
        let x = h.busy d i in (
          x.0,
          set_other Γ c d taken taken (λ e. b (subst (λ d. IsIn (machine.write d) stack) e i)) x.1,
        )

    at : (d : ℕ) → d < n → (IsIn (machine.write d) (machine.write c ∷ stack) → ⊥) →
        CellAt n links (slice_set Γ c taken) cells d
    at d m f =
        let z = h.at d m (λ i. f (inr i)) in
        record {
          cell = z.cell;
          own = z.own;
          at = set_other Γ c d taken z.cell (λ e. f (inl (ap machine.write e))) z.at;
          own_at = z.own_at;
          same = z.same;
        }

-- what came of it is put back
pub heap_set : (n : ℕ) (links : List Link) (stack : List Frame) (Γ : List HeapCell) (cells : List machine.Cell)
    (c : ℕ) (v : WeakForm) (w : Weak) → c < n → (IsIn (machine.write c) stack → ⊥) →
    HeapOf n links (machine.write c ∷ stack) Γ cells → ValueOf n links v w →
    HeapOf n links stack (slice_set Γ c (has v)) (slice_set cells c (machine.has w))
heap_set n links stack Γ cells c v w l b h s = record {
  size = set_length Γ c (has v) ∙ h.size;
  own_size = set_length cells c (machine.has w) ∙ h.own_size;
  busy =
      λ d i. let x = h.busy d (inr i) in (
        x.0,
        set_other Γ c d (has v) taken (λ e. b (subst (λ d. IsIn (machine.write d) stack) e i)) x.1,
      );
  at = λ d m f. go d m f (cases_eq d c);
}
  where
    go : (d : ℕ) → d < n → (IsIn (machine.write d) stack → ⊥) → (d ≡ c) ⊎ (d ≡ c → ⊥) →
        CellAt n links (slice_set Γ c (has v)) (slice_set cells c (machine.has w)) d
    go d m f (inl e) = record {
      cell = has v;
      own = machine.has w;
      at =
          ap (slice_get (slice_set Γ c (has v))) e
          ∙ set_same Γ c (has v) (let q = h.size in omega (arith, l, q));
      own_at =
          ap (slice_get (slice_set cells c (machine.has w))) e
          ∙ set_same cells c (machine.has w) (let q = h.own_size in omega (arith, l, q));
      same = s;
    }
    go d m f (inr e) =
        let z = h.at d m (other_frame d c stack e f) in
        record {
          cell = z.cell;
          own = z.own;
          at = set_other Γ c d (has v) z.cell e z.at;
          own_at = set_other cells c d (machine.has w) z.own e z.own_at;
          same = z.same;
        }

-- ---- a variable's cell

pub record Place (n : ℕ) (links : List Link) (chain : ℕ) (ρ : List ℕ) (k : ℕ) : Type 0 where
  pub cell : ℕ
  pub rest : ℕ
  pub at : slice_get ρ k ≡ Some cell
  pub link : first_link links chain ≡ Some (record { cell = cell; behind = rest })
  pub within : cell < n

pub place : (n : ℕ) (links : List Link) (k e : ℕ) (ρ : List ℕ) → ChainOf n links e ρ → k < length ρ →
    Place n links (behind links k e) ρ k
place n links k e [] c l = absurd (omega (arith, l))
place n links zero e (x ∷ ρ) c l =
    record { cell = x; rest = c.0; at = refl; link = c.1; within = c.2 }
place n links (suc k) e (x ∷ ρ) c l =
    let y = place n links k c.0 ρ c.3 (omega (arith, l)) in
    record {
      cell = y.cell;
      rest = y.rest;
      at = y.at;
      link =
          ap (first_link links) (behind_first links k e ∙ ap (λ o. behind links k (behind_link o)) c.1)
          ∙ y.link;
      within = y.within;
    }

-- ---- moves that are made

abbrev pub Mach : Control → List Frame → List ℕ → List machine.Cell → List Link → ℕ → Machine
Mach control stack left cells links steps = record {
  control = control;
  stack = stack;
  left = left;
  cells = cells;
  links = links;
  steps = steps;
}

pub clash : false ≡ true → ⊥
clash e = absurd (cc)

-- it hasn't ended
pub no_name : (control : Control) (stack : List Frame) (left : List ℕ) (cells : List machine.Cell) (links : List Link)
    (steps : ℕ) → has_name links control ≡ false →
    is_ended (Mach control stack left cells links steps) ≡ true → ⊥
no_name control stack left cells links steps f e =
    let p = and_parts ((length stack == 0) && (length left == 0)) (has_name links control) e in
    clash (sym f ∙ p.1)

pub on_stack : (control : Control) (f : Frame) (stack : List Frame) (left : List ℕ) (cells : List machine.Cell)
    (links : List Link) (steps : ℕ) → is_ended (Mach control (f ∷ stack) left cells links steps) ≡ true → ⊥
on_stack control f stack left cells links steps e =
    let p = and_parts ((suc (length stack) == 0) && (length left == 0)) (has_name links control) e in
    let q = and_parts (suc (length stack) == 0) (length left == 0) p.0 in
    let k = eqb-true (suc (length stack)) 0 q.0 in absurd (omega (arith, k))

pub on_left : (control : Control) (stack : List Frame) (c : ℕ) (left : List ℕ) (cells : List machine.Cell)
    (links : List Link) (steps : ℕ) → is_ended (Mach control stack (c ∷ left) cells links steps) ≡ true → ⊥
on_left control stack c left cells links steps e =
    let p = and_parts ((length stack == 0) && (suc (length left) == 0)) (has_name links control) e in
    let q = and_parts (length stack == 0) (suc (length left) == 0) p.0 in
    let k = eqb-true (suc (length left)) 0 q.1 in absurd (omega (arith, k))

-- no cell is met while it is reduced
not_met : (T : Labelled) (i e c b : ℕ) (stack : List Frame) (left : List ℕ) (cells : List machine.Cell)
    (links : List Link) (steps : ℕ) → State T (Mach (goes (trees.var i) e) stack left cells links steps) →
    first_link links (behind links i e) ≡ Some (record { cell = c; behind = b }) →
    IsIn (machine.write c) stack → ⊥
not_met T i e c b stack left cells links steps s l w =
    let h = s.held in
    let f = var_closure links i e s.at_hand s.control_is in
    let k : f.cell ≡ c =
    ap (λ (x : Link). x.cell)
    (same_Some (record { cell = f.cell; behind = f.rest }) (record { cell = c; behind = b }) (sym f.link ∙ l)) in
    let t =
    subst (λ K. Sees s.count h.ranks h.bound K) f.gives (stands_sees h.stands) in
    let m = (sees_var s.count h.ranks h.bound f.cell f.label t).1 in
    let r = busy_rank f.cell h.stands (subst (λ c. IsIn (machine.write c) stack) (sym k) w) in
    omega (arith, m, r)

module _ (T : Labelled) (s : ℕ) where
  -- the machine ends after so many moves, and made s beta steps; and it stands for a term that T leads to
  abbrev pub EndsAfter : ℕ → Machine → Type 0
  EndsAfter j m = (steps_if_ended (after j m) ≡ Some s) × State T m

  pub record Onward (j : ℕ) (m : Machine) : Type 0 where
    pub left : ℕ
    pub fewer : j ≡ suc left
    pub ends : EndsAfter left (next m)

  pub onward : (j : ℕ) (m : Machine) → EndsAfter j m → (is_ended m ≡ true → ⊥) → Onward j m
  onward zero m e n = absurd (n (ended_if m s e.0).0)
  onward (suc j) m e n = record {
    left = j;
    fewer = refl;
    ends = (subst (λ m. steps_if_ended m ≡ Some s) (sym (after_next j m)) e.0, moves T m e.1);
  }

  -- ---- a term comes to its weak head normal form

  -- from heap Γ, of the term t: the machine comes to v, and goes on from there
  pub record Ran (Γ : List HeapCell) (t : Tree) (ρ : List ℕ) (links : List Link) (stack : List Frame)
      (left : List ℕ) (steps j : ℕ) (n : ℕ) : Type 0 where
    pub heap : List HeapCell
    pub value : WeakForm
    pub count : ℕ
    pub rule : Evaluates Γ t ρ heap value count
    pub size : ℕ
    pub grows : n ≤ size
    pub cells : List machine.Cell
    pub more : List Link
    pub grown : Grown links more
    pub heap_is : HeapOf size more stack heap cells
    pub weak : Weak
    pub value_is : ValueOf size more value weak
    pub rest : ℕ
    pub fewer : rest < j
    pub ends : EndsAfter rest (Mach (came weak) stack left cells more (steps + count))

  -- what runs of fewer moves come to
  abbrev pub Runs : ℕ → Type 0
  Runs k = (j : ℕ) → j < k → (n : ℕ) (t u : Tree) (e : ℕ) (ρ : List ℕ) (stack : List Frame) (left : List ℕ)
      (cells : List machine.Cell) (links : List Link) (steps : ℕ) (Γ : List HeapCell) →
      HeapOf n links stack Γ cells → ClosureOf n links 0 t ρ u e → EndsAfter j (Mach (goes u e) stack left cells links steps) →
      Ran Γ t ρ links stack left steps j n

  no_steps : (j : ℕ) (control : Control) (stack : List Frame) (left : List ℕ) (cells : List machine.Cell)
      (links : List Link) (steps : ℕ) → EndsAfter j (Mach control stack left cells links steps) →
      EndsAfter j (Mach control stack left cells links (steps + 0))
  no_steps j control stack left cells links steps e =
      subst (λ k. EndsAfter j (Mach control stack left cells links k))
      (let q : steps ≡ steps + 0 = omega arith in q) e

  -- a cell is gone on with
  pub runs_cell : (k : ℕ) → Runs k → (j : ℕ) → j < suc k → (n i c : ℕ) (ρ : List ℕ) (control : Control) (stack : List Frame)
      (left : List ℕ) (cells : List machine.Cell) (links : List Link) (steps : ℕ) (Γ : List HeapCell) →
      HeapOf n links stack Γ cells → slice_get ρ i ≡ Some c → c < n → (IsIn (machine.write c) stack → ⊥) →
      (l : ℕ) → j ≡ suc l → EndsAfter l (entered (Mach control stack left cells links steps) c) →
      Ran Γ (trees.var i) ρ links stack left steps j n
  runs_cell k run j q n i c ρ control stack left cells links steps Γ h at l idle p f e =
      go x.cell x.own x.at x.same
      (subst (λ o. EndsAfter p (entered_cell (Mach control stack left cells links steps) c o)) x.own_at e)
    where
      x : CellAt n links Γ cells c
      x = h.at c l idle

      go : (a : HeapCell) (b : machine.Cell) → slice_get Γ c ≡ Some a → CellOf n links a b →
          EndsAfter p (entered_cell (Mach control stack left cells links steps) c (Some b)) →
          Ran Γ (trees.var i) ρ links stack left steps j n
      go (waits t η) (machine.waits u d) r s e =
          let y =
          run p (omega (arith, q, f)) n t u d η (machine.write c ∷ stack) left cells links steps
          (slice_set Γ c taken) (heap_take n links stack Γ cells c l idle h) s e in
          let z =
          onward y.rest (Mach (came y.weak) (machine.write c ∷ stack) left y.cells y.more (steps + y.count))
          y.ends (on_stack (came y.weak) (machine.write c) stack left y.cells y.more (steps + y.count)) in
          let a = y.fewer in
          let b = z.fewer in
          let g = y.grows in
          record {
            heap = slice_set y.heap c (has y.value);
            value = y.value;
            count = y.count;
            rule = first_use at r y.rule;
            size = y.size;
            grows = y.grows;
            cells = slice_set y.cells c (machine.has y.weak);
            more = y.more;
            grown = y.grown;
            heap_is =
                heap_set y.size y.more stack y.heap y.cells c y.value y.weak (omega (arith, l, g)) idle
                y.heap_is y.value_is;
            weak = y.weak;
            value_is = y.value_is;
            rest = z.left;
            fewer = omega (arith, a, b, f);
            ends = z.ends;
          }
      go (waits t η) (machine.has w) r s e = absurd s
      go taken (machine.waits u d) r s e = absurd s
      go taken (machine.has w) r s e = absurd s
      go (has v) (machine.waits u d) r s e = absurd s
      go (has v) (machine.has w) r s e = record {
        heap = Γ;
        value = v;
        count = 0;
        rule = later_use at r;
        size = n;
        grows = omega arith;
        cells = cells;
        more = links;
        grown = λ e x q. q;
        heap_is = h;
        weak = w;
        value_is = s;
        rest = p;
        fewer = omega (arith, f);
        ends = no_steps p (came w) stack left cells links steps e;
      }

  -- an application is gone on with
  runs_app : (k : ℕ) → Runs k → (j : ℕ) → j < suc k → (n : ℕ) (g a : Tree) (e : ℕ) (ρ : List ℕ) (stack : List Frame)
      (left : List ℕ) (cells : List machine.Cell) (links : List Link) (steps : ℕ) (Γ : List HeapCell) →
      HeapOf n links stack Γ cells → ChainOf n links e ρ → is_below (0 + length ρ) (trees.app g a) ≡ true →
      EndsAfter j (Mach (goes (trees.app g a) e) stack left cells links steps) →
      Ran Γ (trees.app g a) ρ links stack left steps j n
  runs_app k run j q n g a e ρ stack left cells links steps Γ h c b f =
      go x.value x.weak x.rule x.value_is z.ends
    where
      bs : (is_below (0 + length ρ) g ≡ true) × (is_below (0 + length ρ) a ≡ true)
      bs = and_parts (is_below (0 + length ρ) g) (is_below (0 + length ρ) a) b

      y : Onward j (Mach (goes (trees.app g a) e) stack left cells links steps)
      y =
          onward j (Mach (goes (trees.app g a) e) stack left cells links steps) f
          (no_name (goes (trees.app g a) e) stack left cells links steps refl)

      Γ' : List HeapCell
      Γ' = Γ ++ waits a ρ ∷ []

      cells' : List machine.Cell
      cells' = cells ++ machine.waits a e ∷ []

      at : ℕ
      at = length cells

      st : List Frame
      st = machine.argument at ∷ stack

      lift : (t : Tree) → is_below (0 + length ρ) t ≡ true → ClosureOf (suc n) links 0 t ρ t e
      lift t b = closure_on n (suc n) links links (omega arith) (λ e x q. q) 0 t ρ t e (refl, c, b)

      x : Ran Γ' g ρ links st left steps y.left (suc n)
      x =
          run y.left (let l = y.fewer in omega (arith, q, l)) (suc n) g g e ρ st left cells' links
          steps Γ'
          (heap_argument (suc n) links at stack Γ' cells'
          (heap_push n links stack Γ cells (waits a ρ) (machine.waits a e) h (lift a bs.1)))
          (lift g bs.0) y.ends

      z : Onward x.rest (Mach (came x.weak) st left x.cells x.more (steps + x.count))
      z =
          onward x.rest (Mach (came x.weak) st left x.cells x.more (steps + x.count)) x.ends
          (on_stack (came x.weak) (machine.argument at) stack left x.cells x.more (steps + x.count))

      -- the argument's cell, and its place in the heap
      same_at : length Γ ≡ at
      same_at = h.size ∙ sym h.own_size

      chain : (d : ℕ) (η : List ℕ) → ChainOf x.size x.more d η →
          ChainOf x.size (x.more ++ (record { cell = at; behind = d }) ∷ []) (suc (length x.more)) (length Γ ∷ η)
      chain d η c = (
        d,
        got_last x.more (record { cell = at; behind = d })
            ∙ ap (λ a. Some (record { cell = a; behind = d })) (sym same_at),
        (let l = x.grows in let p = h.size in omega (arith, l, p)),
        chain_on x.size x.size x.more (x.more ++ (record { cell = at; behind = d }) ∷ []) (omega arith)
            (first_kept x.more (record { cell = at; behind = d })) d η c,
      )

      beta_next : (t u : Tree) (η : List ℕ) (d : ℕ) → Evaluates Γ' g ρ x.heap (function t η) x.count →
          ClosureOf x.size x.more 1 t η u d →
          EndsAfter z.left (next (Mach (came (machine.function u d)) st left x.cells x.more (steps + x.count))) →
          Ran Γ (trees.app g a) ρ links stack left steps j n
      beta_next t u η d r c e =
          let m = x.more ++ (record { cell = at; behind = d }) ∷ [] in
          let w =
          run z.left
          (let l = y.fewer in let o = x.fewer in let p = z.fewer in omega (arith, q, l, o, p)) x.size
          t u (suc (length x.more)) (length Γ ∷ η) stack left x.cells m (steps + x.count + 1) x.heap
          (heap_links x.size x.more m stack x.heap x.cells (first_kept x.more (record { cell = at; behind = d }))
          (heap_applied x.size x.more at stack x.heap x.cells x.heap_is)) (
            c.0,
            chain d η c.1,
            ap (λ d. is_below d t) (let p : 0 + suc (length η) ≡ 1 + length η = omega arith in p) ∙ c.2,
          )
          e in
          record {
            heap = w.heap;
            value = w.value;
            count = suc (x.count + w.count);
            rule = beta r w.rule;
            size = w.size;
            grows = let l = x.grows in let o = w.grows in omega (arith, l, o);
            cells = w.cells;
            more = w.more;
            grown =
                λ e l o. w.grown e l (first_kept x.more (record { cell = at; behind = d }) e l (x.grown e l o));
            heap_is = w.heap_is;
            weak = w.weak;
            value_is = w.value_is;
            rest = w.rest;
            fewer =
                let l = y.fewer in let o = x.fewer in let p = z.fewer in
                let i = w.fewer in omega (arith, l, o, p, i);
            ends =
                subst (λ k. EndsAfter w.rest (Mach (came w.weak) stack left w.cells w.more k))
                (let p : steps + x.count + 1 + w.count ≡ steps + suc (x.count + w.count) = omega arith in p)
                w.ends;
          }

      go : (v : WeakForm) (w : Weak) → Evaluates Γ' g ρ x.heap v x.count → ValueOf x.size x.more v w →
          EndsAfter z.left (next (Mach (came w) st left x.cells x.more (steps + x.count))) →
          Ran Γ (trees.app g a) ρ links stack left steps j n
      go (function t η) (machine.function u d) r c e = beta_next t u η d r c e
      go (function t η) (machine.name d) r c e = absurd c
      go (name hd cs) (machine.function u d) r c e = absurd c
      go (name hd cs) (machine.name d) r c e =
          let m = x.more ++ (record { cell = at; behind = d }) ∷ [] in
          record {
            heap = x.heap;
            value = name hd (length Γ ∷ cs);
            count = x.count;
            rule = argument r;
            size = x.size;
            grows = let l = x.grows in omega (arith, l);
            cells = x.cells;
            more = m;
            grown = λ e l o. first_kept x.more (record { cell = at; behind = d }) e l (x.grown e l o);
            heap_is =
                heap_links x.size x.more m stack x.heap x.cells
                (first_kept x.more (record { cell = at; behind = d }))
                (heap_applied x.size x.more at stack x.heap x.cells x.heap_is);
            weak = machine.name (suc (length x.more));
            value_is = chain d cs c;
            rest = z.left;
            fewer =
                let l = y.fewer in let o = x.fewer in let p = z.fewer in omega (arith, l, o, p);
            ends = e;
          }

  -- a term is gone on with
  pub runs : (k : ℕ) → Runs k
  runs zero j q n t u e ρ stack left cells links steps Γ h c f = absurd (omega (arith, q))
  runs (suc k) j q n t u e ρ stack left cells links steps Γ h c f =
      go t c.1 c.2 (subst (λ u. EndsAfter j (Mach (goes u e) stack left cells links steps)) (sym c.0) f)
      (runs k)
    where
      go : (t : Tree) → ChainOf n links e ρ → is_below (0 + length ρ) t ≡ true →
          EndsAfter j (Mach (goes t e) stack left cells links steps) → Runs k →
          Ran Γ t ρ links stack left steps j n
      go (trees.var i) c b f run =
          let p = place n links i e ρ c (let l = ltb-true i (0 + length ρ) b in omega (arith, l)) in
          let y =
          onward j (Mach (goes (trees.var i) e) stack left cells links steps) f
          (no_name (goes (trees.var i) e) stack left cells links steps refl) in
          runs_cell k run j q n i p.cell ρ (goes (trees.var i) e) stack left cells links steps Γ h p.at
          p.within
          (not_met T i e p.cell p.rest stack left cells links steps f.1 p.link) y.left y.fewer
          (subst
          (λ o. EndsAfter y.left (entered_link (Mach (goes (trees.var i) e) stack left cells links steps) o))
          p.link y.ends)
      go (trees.free i) c b f run =
          let y =
          onward j (Mach (goes (trees.free i) e) stack left cells links steps) f
          (no_name (goes (trees.free i) e) stack left cells links steps refl) in
          let l = y.fewer in
          record {
            heap = Γ;
            value = name (free i) [];
            count = 0;
            rule = of_free;
            size = n;
            grows = omega arith;
            cells = cells;
            more = links;
            grown = λ e x q. q;
            heap_is = h;
            weak = machine.name 0;
            value_is = refl;
            rest = y.left;
            fewer = omega (arith, l);
            ends = no_steps y.left (came (machine.name 0)) stack left cells links steps y.ends;
          }
      go (trees.lam t) c b f run =
          let y =
          onward j (Mach (goes (trees.lam t) e) stack left cells links steps) f
          (no_name (goes (trees.lam t) e) stack left cells links steps refl) in
          let l = y.fewer in
          record {
            heap = Γ;
            value = function t ρ;
            count = 0;
            rule = of_lam;
            size = n;
            grows = omega arith;
            cells = cells;
            more = links;
            grown = λ e x q. q;
            heap_is = h;
            weak = machine.function t e;
            value_is = (
              refl,
              c,
              ap (λ d. is_below d t) (let q : 1 + length ρ ≡ 0 + length ρ + 1 = omega arith in q) ∙ b,
            );
            rest = y.left;
            fewer = omega (arith, l);
            ends = no_steps y.left (came (machine.function t e)) stack left cells links steps y.ends;
          }
      go (trees.app g a) c b f run =
          runs_app k run j q n g a e ρ stack left cells links steps Γ h c b f
