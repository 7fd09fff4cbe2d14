-- The moves of the machine: each adds at most one cell, link and step, and none is made at its end.
use Rattle.std.proofs.Common.{◌≡◌, ℕ, zero, suc, ◌+◌, ◌-◌, ◌≤◌, Bool, true, false, List, [], ◌∷◌, length, slice_get, slice_set, Option, None, Some, is_none, ◌==◌, ◌&&◌, ◌⊎◌, inl, inr, refl, sym, ap, ◌∙◌, subst, arith, if◌then◌else◌}
use Rattle.std.proofs.lemmas.List.{length_push}
use Rattle.std.proofs.lemmas.Bool.Decides.{eqb_tells}
use Rattle.std.proofs.lemmas.Option.{none-some, same_Some}
use Rattle.std.specs.Prelude.{eqb, ◌≢◌}
use Rattle.ol_term.specs.Trees as trees
use Rattle.ol_term.specs.Trees.{Tree}
use Rattle.ol_counts.specs.Machines.{Machine, Weak, Cell, Frame, Control, Link, function, name, waits, has, argument, write, goes, came, first_link, behind, entered_cell, entered_link, went, applied, passed, named, shown, done, moved, next, has_name, is_ended, after, begun, steps_if_ended, need_count, IsNeedCount}

none_is : {X : Type 0} (o : Option X) → is_none o ≡ true → o ≡ None
none_is None e = refl
none_is (Some x) e = absurd (cc)

clash : false ≡ true → ⊥
clash e = absurd (cc)

not_zero : (n : ℕ) → ((eqb (suc n) 0 ≡ true) × (suc n ≡ 0)) ⊎ ((eqb (suc n) 0 ≡ false) × (suc n ≢ 0)) →
    (suc n == 0) ≡ false
not_zero n (inl h) = absurd (omega (arith, h.1))
not_zero n (inr h) = h.0

first_false : (a b c : Bool) → a ≡ false → (a && b && c) ≡ true → false ≡ true
first_false false b c z e = e
first_false true b c z e = sym z

second_false : (b c : Bool) → b ≡ false → (true && b && c) ≡ true → false ≡ true
second_false false c z e = e
second_false true c z e = sym z

stays : (links : List Link) (cells : List Cell) (steps : ℕ) (control : Control) (stack : List Frame) (left : List ℕ) →
    ((length stack == 0) && (length left == 0) && has_name links control) ≡ true →
    next (record { control = control; stack = stack; left = left; cells = cells; links = links; steps = steps })
    ≡ record { control = control; stack = stack; left = left; cells = cells; links = links; steps = steps }
stays links cells steps control (f ∷ stack) left e =
    let z : (suc (length stack) == 0) ≡ false = not_zero (length stack) (eqb_tells (suc (length stack)) 0) in
    absurd (clash (first_false (suc (length stack) == 0) (length left == 0) (has_name links control) z e))
stays links cells steps control [] (at ∷ left) e =
    let z : (suc (length left) == 0) ≡ false = not_zero (length left) (eqb_tells (suc (length left)) 0) in
    absurd (clash (second_false (suc (length left) == 0) (has_name links control) z e))
stays links cells steps (goes t environment) [] [] e = absurd (clash e)
stays links cells steps (came (function body environment)) [] [] e = absurd (clash e)
stays links cells steps (came (name arguments)) [] [] e =
    let m : Machine = record { control = came (name arguments); stack = []; left = []; cells = cells; links = links; steps = steps } in
    ap (λ (o : Option Link). named m o) (none_is (first_link links arguments) e)

pub ended_stays : (m : Machine) → is_ended m ≡ true → next m ≡ m
ended_stays m e = stays m.links m.cells m.steps m.control m.stack m.left e

pub after_end : (n k : ℕ) (m : Machine) → is_ended (after k m) ≡ true → after (k + n) m ≡ after k m
after_end zero k m e = ap (λ (j : ℕ). after j m) (let q : k + 0 ≡ k = omega arith in q)
after_end (suc n) k m e =
    ap (λ (j : ℕ). after j m) (let q : k + suc n ≡ suc (k + n) = omega arith in q)
    ∙ ap next (after_end n k m e) ∙ ended_stays (after k m) e

-- the machine that has come to its end after fewer moves
ended_within : (t : Tree) (k moves : ℕ) (m : Machine) → m ≡ after k (begun t) → k ≤ moves → is_ended m ≡ true →
    m ≡ after moves (begun t)
ended_within t k moves m e f d =
    let n = moves - k in
    let s : k + n ≡ moves = omega (arith, f) in
    let h : is_ended (after k (begun t)) ≡ true = subst (λ (m : Machine). is_ended m ≡ true) e d in
    e ∙ sym (subst (λ (j : ℕ). after j (begun t) ≡ after k (begun t)) s (after_end n k (begun t) h))

pub ends_within : (t : Tree) (k moves : ℕ) (m : Machine) → m ≡ after k (begun t) → k ≤ moves → is_ended m ≡ true →
    Some m.steps ≡ need_count t moves
ends_within t k moves m e f d =
    subst (λ (p : Machine). Some m.steps ≡ steps_if_ended p) (ended_within t k moves m e f d) (rw d refl)

-- its count
pub counted_now : (t : Tree) (moves : ℕ) (m : Machine) → m ≡ after moves (begun t) → (b : Bool) → b ≡ is_ended m →
    IsNeedCount t moves m.steps b
counted_now t moves m e b d = (ap (λ (m : Machine). m.steps) e, d ∙ ap (λ (m : Machine). is_ended m) e)

pub counted_within : (t : Tree) (k moves : ℕ) (m : Machine) → m ≡ after k (begun t) → k ≤ moves → is_ended m ≡ true →
    IsNeedCount t moves m.steps true
counted_within t k moves m e f d = counted_now t moves m (ended_within t k moves m e f d) true (sym d)

-- one cell, link and step more at most
abbrev pub Grows : Machine → Machine → Type 0
Grows m p = (length p.cells ≤ length m.cells + 1) × (length p.links ≤ length m.links + 1) × (p.steps ≤ m.steps + 1)

grows_cell : (m : Machine) (at : ℕ) (o : Option Cell) → Grows m (entered_cell m at o)
grows_cell m at (Some (waits t environment)) = (omega arith, omega arith, omega arith)
grows_cell m at (Some (has weak)) = (omega arith, omega arith, omega arith)
grows_cell m at None = (omega arith, omega arith, omega arith)

grows_link : (m : Machine) (o : Option Link) → Grows m (entered_link m o)
grows_link m (Some link) = grows_cell m link.cell (slice_get m.cells link.cell)
grows_link m None = (omega arith, omega arith, omega arith)

grows_went : (m : Machine) (t : Tree) (environment : ℕ) → Grows m (went m t environment)
grows_went m (trees.var k) environment = grows_link m (first_link m.links (behind m.links k environment))
grows_went m (trees.free k) environment = (omega arith, omega arith, omega arith)
grows_went m (trees.lam body) environment = (omega arith, omega arith, omega arith)
grows_went m (trees.app f a) environment =
    let e = length_push m.cells (waits a environment) in (omega (arith, e), omega arith, omega arith)

grows_passed : (m : Machine) (left : List ℕ) → Grows m (passed m left)
grows_passed m (at ∷ left) = grows_cell (record m { left = left }) at (slice_get m.cells at)
grows_passed m [] = (omega arith, omega arith, omega arith)

grows_named : (m : Machine) (o : Option Link) → Grows m (named m o)
grows_named m (Some link) = (omega arith, omega arith, omega arith)
grows_named m None = grows_passed m m.left

grows_shown : (m : Machine) (weak : Weak) → Grows m (shown m weak)
grows_shown m (function body environment) =
    let e = length_push m.cells (has (name 0)) in
    let f = length_push m.links (record { cell = length m.cells; behind = environment }) in
    (omega (arith, e), omega (arith, f), omega arith)
grows_shown m (name arguments) = grows_named m (first_link m.links arguments)

grows_applied : (m : Machine) (weak : Weak) (at : ℕ) → Grows m (applied m weak at)
grows_applied m (function body environment) at =
    let f = length_push m.links (record { cell = at; behind = environment }) in
    (omega arith, omega (arith, f), omega arith)
grows_applied m (name arguments) at =
    let f = length_push m.links (record { cell = at; behind = arguments }) in
    (omega arith, omega (arith, f), omega arith)

length_set : (xs : List Cell) (i : ℕ) (x : Cell) → length (slice_set xs i x) ≡ length xs
length_set [] i x = refl
length_set (y ∷ xs) zero x = refl
length_set (y ∷ xs) (suc i) x = ap suc (length_set xs i x)

grows_done : (m : Machine) (weak : Weak) (stack : List Frame) → Grows m (done m weak stack)
grows_done m weak (argument at ∷ stack) = grows_applied (record m { stack = stack }) weak at
grows_done m weak (write at ∷ stack) =
    let e = length_set m.cells at (has weak) in (omega (arith, e), omega arith, omega arith)
grows_done m weak [] = grows_shown m weak

grows_moved : (m : Machine) (control : Control) → Grows m (moved m control)
grows_moved m (goes t environment) = grows_went m t environment
grows_moved m (came weak) = grows_done m weak m.stack

-- after so many moves there are no more cells, links and steps than that
pub few : (n : ℕ) (t : Tree) → let m = after n (begun t) in
    (length m.cells ≤ n) × (length m.links ≤ n) × (m.steps ≤ n)
few zero t = (omega arith, omega arith, omega arith)
few (suc n) t =
    let h = few n t in
    let g = grows_moved (after n (begun t)) (after n (begun t)).control in
    (omega (arith, h.0, g.0), omega (arith, h.1, g.1), omega (arith, h.2, g.2))

-- ---- a move of the code

module _ (m n p : Machine) (w : Weak) where
  pub step_argument : (at : ℕ) → m ≡ record n { stack = argument at ∷ n.stack } → p ≡ applied n w at → p ≡ done m w m.stack
  step_argument at e f = f ∙ sym (ap (λ (m : Machine). done m w m.stack) e)

  pub step_write : (at : ℕ) → m ≡ record n { stack = write at ∷ n.stack } →
      p ≡ record n { cells = slice_set n.cells at (has w) } → p ≡ done m w m.stack
  step_write at e f = f ∙ sym (ap (λ (m : Machine). done m w m.stack) e)

  pub step_shown : m.stack ≡ [] → n ≡ m → p ≡ shown n w → p ≡ done m w m.stack
  step_shown e s f = f ∙ ap (λ (m : Machine). shown m w) s ∙ sym (ap (λ (stack : List Frame). done m w stack) e)

pub ended_if : (m : Machine) (n : ℕ) → steps_if_ended m ≡ Some n → (is_ended m ≡ true) × (m.steps ≡ n)
ended_if m n e = go (is_ended m) refl e
  where
    go : (b : Bool) → is_ended m ≡ b → (if b then Some m.steps else None) ≡ Some n →
        (is_ended m ≡ true) × (m.steps ≡ n)
    go true k q = (k, same_Some m.steps n q)
    go false k q = absurd (none-some n q)
