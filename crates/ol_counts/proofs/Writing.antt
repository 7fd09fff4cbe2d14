-- What came is written over a cell.
use Rattle.std.proofs.Common.{◌≡◌, ℕ, zero, suc, ◌+◌, ◌<◌, ◌⊎◌, inl, inr, List, [], ◌∷◌, length, true, slice_get, slice_set, Some, refl, sym, ap, ◌∙◌, subst, arith}
use Rattle.std.proofs.lemmas.Bool.{cases_eq}
use Rattle.ol_law_edges.specs.Edges.{IsIn}
use Rattle.ol_counts.specs.Machines.{Link, Weak, Cell, has, Frame, write, came, next}
use Rattle.ol_law_optimality.specs.Labels.{Labelled, before}
use Rattle.ol_counts.proofs.Stacks.{sees_var, stands_sees, busy_rank, busy_or_not, UnderWrite, under_write_view}
use Rattle.ol_counts.proofs.Places.{Around}
use Rattle.ol_counts.proofs.Matching.{WeakOf, weak_before}
use Rattle.ol_counts.proofs.Moving.{HasCell, HaveCells, Held, State, Looked, looked, measure_of, Onward, values_of}
use Rattle.ol_counts.proofs.Weights.{weight, weights}

pub set_same : {X : Type 0} (xs : List X) (i : ℕ) (x : X) → i < length xs →
    slice_get (slice_set xs i x) i ≡ Some x
set_same [] i x l = absurd (omega (arith, l))
set_same (y ∷ xs) zero x l = refl
set_same (y ∷ xs) (suc i) x l = set_same xs i x (omega (arith, l))

pub set_other : {X : Type 0} (xs : List X) (i k : ℕ) (x y : X) → (k ≡ i → ⊥) →
    slice_get xs k ≡ Some y → slice_get (slice_set xs i x) k ≡ Some y
set_other [] i k x y n e = e
set_other (z ∷ xs) zero zero x y n e = absurd (n refl)
set_other (z ∷ xs) zero (suc k) x y n e = e
set_other (z ∷ xs) (suc i) zero x y n e = e
set_other (z ∷ xs) (suc i) (suc k) x y n e = set_other xs i k x y (λ q. n (ap suc q)) e

pub set_length : {X : Type 0} (xs : List X) (i : ℕ) (x : X) → length (slice_set xs i x) ≡ length xs
set_length [] i x = refl
set_length (y ∷ xs) zero x = refl
set_length (y ∷ xs) (suc i) x = ap suc (set_length xs i x)

pub came_write : (T : Labelled) (n c : ℕ) (stack : List Frame) (left : List ℕ) (cells : List Cell)
    (links : List Link) (steps : ℕ) (weak : Weak) (K : Labelled)
    (h : Held n T (write c ∷ stack) left cells links steps K) →
    WeakOf n links (values_of h) weak K →
    Onward T
    (next
    (record {
      control = came weak;
      stack = write c ∷ stack;
      left = left;
      cells = cells;
      links = links;
      steps = steps;
    }))
    h.whole (measure_of (came weak) h) steps (h.alone ≡ true)
came_write T n c stack left cells links steps weak K h x = record {
  state = state;
  count_is = refl;
  whole = refl;
  less =
      inr
      (ap (λ t. weight t + weights h.values left) (sym z.value), inr (refl, inl (omega arith)));
  keeps = λ a. a;
}
  where
    u : UnderWrite n h.most h.ranks h.heap h.term h.bound K c stack
    u = under_write_view h.stands

    «is» : WeakOf n links h.values weak (h.heap c)
    «is» = subst (λ K. WeakOf n links h.values weak K) (sym u.has) x

    z : Looked n h.ranks h.heap h.values h.most h.term u.bound c u.label stack
    z = looked n h.ranks h.heap h.values h.most h.term u.bound c u.label stack h.sound u.stands

    free_of : IsIn (write c) stack → ⊥
    free_of i =
        let l = sees_var n h.ranks u.bound c u.label (stands_sees u.stands) in
        let k = busy_rank c u.stands i in let m = l.1 in omega (arith, k, m)

    next_cells : List Cell
    next_cells = slice_set cells c (has weak)

    own : HasCell n h.ranks next_cells links h.values c (z.heap c)
    own =
        subst (λ K. HasCell n h.ranks next_cells links h.values c K) (sym (z.kept c free_of))
        (record {
          cell = has weak;
          at = set_same cells c (has weak) (let l = u.within in let q = h.size in omega (arith, l, q));
          is_of = «is»;
          sees = tt;
        })

    other : (d : ℕ) → (d ≡ c → ⊥) → IsIn (write d) stack ⊎ (IsIn (write d) stack → ⊥) →
        IsIn (write d) (write c ∷ stack) ⊎ HasCell n h.ranks cells links h.values d (h.heap d) →
        IsIn (write d) stack ⊎ HasCell n h.ranks next_cells links h.values d (z.heap d)
    other d g (inl i) y = inl i
    other d g (inr f) (inl (inl q)) = absurd (g (let k : d ≡ c = cc in k))
    other d g (inr f) (inl (inr i)) = absurd (f i)
    other d g (inr f) (inr y) =
        inr
        (subst (λ K. HasCell n h.ranks next_cells links h.values d K) (sym (z.kept d f))
        (record {
          cell = y.cell;
          at = set_other cells c d (has weak) y.cell g y.at;
          is_of = y.is_of;
          sees = y.sees;
        }))

    have : HaveCells n h.ranks stack next_cells links h.values z.heap
    have d l = elim (cases_eq d c) [
      | inl k ↦ inr
          (subst (λ d. HasCell n h.ranks next_cells links h.values d (z.heap d)) (sym k) own)
      | inr k ↦ other d k (busy_or_not d stack) (h.have d l)
    ]

    state : State T
        (next
        (record {
          control = came weak;
          stack = write c ∷ stack;
          left = left;
          cells = cells;
          links = links;
          steps = steps;
        }))
    state = record {
      count = n;
      at_hand = before u.label (h.heap c);
      held =
          record {
            size = set_length cells c (has weak) ∙ h.size;
            ranks = h.ranks;
            heap = z.heap;
            values = h.values;
            most = h.most;
            term = z.term;
            bound = u.bound;
            sound = z.sound;
            stands = z.stands;
            have = have;
            within = h.within;
            whole = h.whole;
            alone = h.alone;
            around = subst (λ t. Around h.values h.whole h.alone left t) z.value h.around;
            degrees = h.degrees;
            reduces = h.reduces;
            counted = h.counted;
          };
      control_is = weak_before n links h.values weak (h.heap c) u.label «is»;
    }
