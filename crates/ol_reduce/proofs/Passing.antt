-- A round over all cells, cell by cell.
use Rattle.std.proofs.Common.{◌≡◌, ◌∙◌, ℕ, suc, ◌+◌, ◌%◌, [], ◌∷◌, ◌++◌, sym, ap, subst, arith}
use Rattle.std.proofs.Math.Nat.{mod-add-mod}
use Rattle.std.proofs.lemmas.List.{append-nil, append_assoc}
use Rattle.ol_reduce.specs.declared.workers.Worker.{Worker}
use Rattle.ol_reduce.specs.Passed.{round_from, HasPassed}

pub passed_none : (cells first : ℕ) (v : Worker) → HasPassed cells first first 0 v v
passed_none cells first v = (
  sym (append-nil v.seat.view.claimed),
  ap (λ n. n % cells) (let e : first ≡ first + 0 = omega arith in e),
)

pub passed_more : (cells first next count : ℕ) (u v n : Worker) (all cell behind next' : ℕ) → all ≡ cells →
    HasPassed cells first next count u v → cell ≡ next % all → behind % all ≡ (cell + 1) % all →
    next' ≡ behind → n.seat.view.claimed ≡ v.seat.view.claimed ++ cell ∷ [] →
    HasPassed cells first next' (count + 1) u n
passed_more cells first next count u v n all cell behind next' same before is ahead goes claimed =
    let here : cell ≡ (first + count) % cells = is ∙ ap (λ m. next % m) same ∙ before.1 in
    let now : suc count ≡ count + 1 = omega arith in
    subst (λ k. HasPassed cells first next' k u n) now (
      claimed ∙ ap (λ l. l ++ cell ∷ []) before.0
          ∙ append_assoc u.seat.view.claimed (round_from cells first count) (cell ∷ [])
          ∙ ap (λ c. u.seat.view.claimed ++ (round_from cells first count ++ c ∷ [])) here,
      ap (λ k. k % cells) goes ∙ ap (λ m. behind % m) (sym same) ∙ ahead ∙ ap (λ m. (cell + 1) % m) same
          ∙ ap (λ c. (c + 1) % cells) here ∙ mod-add-mod (first + count) cells 1
          ∙ ap (λ k. k % cells) (let e : first + count + 1 ≡ first + suc count = omega arith in e),
    )
