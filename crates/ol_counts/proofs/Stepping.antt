-- Every move of the machine, as a family step of the labelled term, or none.
use Rattle.std.proofs.Common.{◌≡◌, ℕ, inl, inr, List, [], ◌∷◌, true, sym}
use Rattle.ol_counts.specs.Machines.{Machine, Link, Weak, function, name, Cell, Frame, argument, write, Control, goes, came, next}
use Rattle.ol_law_optimality.specs.Labels.{Labelled}
use Rattle.ol_counts.proofs.Matching.{WeakOf, ControlOf}
use Rattle.ol_counts.specs.NeedLaws.{has_head}
use Rattle.ol_counts.proofs.Moving.{onward_if, contracted_if, Held, State, measure_of, Outcome, values_of}
use Rattle.ol_counts.proofs.Going.{goes_on}
use Rattle.ol_counts.proofs.Applying.{came_abstraction, came_name}
use Rattle.ol_counts.proofs.Writing.{came_write}
use Rattle.ol_counts.proofs.Showing.{came_shown, came_named}

abbrev Next : (T : Labelled) (n : ℕ) (control : Control) (stack : List Frame) (left : List ℕ)
    (cells : List Cell) (links : List Link) (steps : ℕ) (K : Labelled) →
    Held n T stack left cells links steps K → Type 0
Next T n control stack left cells links steps K h =
    Outcome T
    (record {
      control = control;
      stack = stack;
      left = left;
      cells = cells;
      links = links;
      steps = steps;
    })
    (next
    (record {
      control = control;
      stack = stack;
      left = left;
      cells = cells;
      links = links;
      steps = steps;
    }))
    h.whole (measure_of control h)
    ((h.alone ≡ true) × (has_head (record {
      control = control;
      stack = stack;
      left = left;
      cells = cells;
      links = links;
      steps = steps;
    }) ≡ true → ⊥))

came_on : (T : Labelled) (n : ℕ) (stack : List Frame) (left : List ℕ) (cells : List Cell)
    (links : List Link) (steps : ℕ) (weak : Weak) (K : Labelled)
    (h : Held n T stack left cells links steps K) → WeakOf n links (values_of h) weak K →
    Next T n (came weak) stack left cells links steps K h
came_on T n (argument a ∷ stack) left cells links steps (function body e) K h x =
    inr
    (inl
    (contracted_if (λ a. a.0) (came_abstraction T n a stack left cells links steps body e K h x)))
came_on T n (argument a ∷ stack) left cells links steps (name e) K h x =
    inl (onward_if (λ a. a.0) (came_name T n a stack left cells links steps e K h x))
came_on T n (write c ∷ stack) left cells links steps weak K h x =
    inl (onward_if (λ a. a.0) (came_write T n c stack left cells links steps weak K h x))
came_on T n [] left cells links steps (function body e) K h x =
    inl (onward_if (λ a. a.0) (came_shown T n left cells links steps body e K h x (sym h.size)))
came_on T n [] left cells links steps (name e) K h x =
    came_named T n cells links steps e left K h x

move : (T : Labelled) (n : ℕ) (control : Control) (stack : List Frame) (left : List ℕ)
    (cells : List Cell) (links : List Link) (steps : ℕ) (K : Labelled)
    (h : Held n T stack left cells links steps K) → ControlOf n links (values_of h) control K →
    Next T n control stack left cells links steps K h
move T n (goes t e) stack left cells links steps K h x =
    inl (onward_if (λ a. a.0) (goes_on T n stack left cells links steps t e K h x))
move T n (came weak) stack left cells links steps K h x =
    came_on T n stack left cells links steps weak K h x

pub moves_on : (T : Labelled) (m : Machine) (s : State T m) →
    Outcome T m (next m) s.held.whole (measure_of m.control s.held)
    ((s.held.alone ≡ true) × (has_head m ≡ true → ⊥))
moves_on T m s =
    move T s.count m.control m.stack m.left m.cells m.links m.steps s.at_hand s.held s.control_is

pub moves : (T : Labelled) (m : Machine) → State T m → State T (next m)
moves T m s = elim (moves_on T m s) [ inl x ↦ x.state | inr (inl x) ↦ x.state | inr (inr x) ↦ x.0 ]
