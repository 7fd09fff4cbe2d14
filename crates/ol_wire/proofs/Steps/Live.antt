-- Steps on the live word keep the rule of the other words.
-- Used in LinkSteps.Publish, Allowed, LiveAllowed and Remembering.
use Rattle.std.proofs.Common.{◌≡◌, ℕ, zero, suc, ◌<◌, ◌⊎◌, Bool, List, [], ◌∷◌, length, get_or, set, refl, sym, ap, ◌∙◌}
use Rattle.std.proofs.Common.{subst, arith, inl, inr, length-set, get_or-set_other}
use Rattle.std.proofs.lemmas.Bool.{cases_eq}
use mathlib.Core.Option.{some, some-ne-none}
use Rattle.std.proofs.lemmas.List.{set-get_or}
use Rattle.atomic_table.proofs.Lists.{set_here}
use lib.ListN.{get_elem?}
use Rattle.ol_wire.specs.declared.plan.Plan.{Plan}
use Rattle.ol_wire.specs.declared.view.View.{View}
use Rattle.ol_wire.specs.Layout.{left, live_word, table_size}
use Rattle.ol_wire.specs.Rule.{Table, Kept, Drawn, IsView}
use Rattle.ol_wire.proofs.InWords.Held.{Holds, owner, word_full}
use Rattle.ol_wire.proofs.Steps.Lists.{weigh_set}
use Rattle.ol_wire.proofs.Steps.Keep.{Change, after, step_keeps}
use Rattle.ol_wire.proofs.Steps.Plain.{lasting_past}

module _ (p : Plan) (s : Table) (k : Kept p s) where
  -- the live word stands for itself
  live_stands : get_or k.full 1 0 ≡ get_or s.words 1 0
  live_stands = elim (cases_eq (get_or s.words 1 0) 0) [
    | inl e ↦ elim (cases_eq (get_or k.full 1 0) 0) [
      | inl f ↦ f ∙ sym e
      | inr n ↦ owned (owner p s k 1 (omega arith) n)
    ]
    | inr n ↦ word_full p s k 1 (omega arith) n
  ]
    where
      owned : (get_or s.words 1 0 ≡ get_or k.full 1 0)
          ⊎ ((v : View) × IsView s v × Holds v 1 (get_or k.full 1 0)) → get_or k.full 1 0 ≡ get_or s.words 1 0
      owned (inl e) = sym e
      owned (inr (v, is, inl due)) = absurd (k.seats.due v 1 (get_or k.full 1 0) is due).1
      owned (inr (v, is, inr taken)) = let e : live_word ≡ left = (k.seats.taken v 1
          (get_or k.full 1 0) is taken).0 in absurd (cc)

  module _ (id : ℕ) (v : View) (here : get_elem? s.views id ≡ some v) (held : 0 < v.holds)
      (x owed : ℕ) (settled : Bool) (looked : List ℕ) where
    abbrev next : View
    next = record v { owed = owed; settled = settled; looked = looked }

    still : get_or (set s.words 1 x) 0 0 ≡ get_or s.words 0 0
    still = get_or-set_other s.words 1 0 x 0 (λ e. omega (arith, e))

    change : Change p s k v next 1 x (set k.full 1 x)
    change = record {
      holds = refl;
      parts = (refl, refl, refl);
      made = refl;
      published = refl;
      pending = refl;
      dead = refl;
      wide = length-set k.full 1 x;
      same = λ u lt. get_or-set_other k.full 1 u x 0 (λ e. omega (arith, lt, e));
      written = λ h z. omega (
        arith,
        weigh_set h s.words (table_size p.parts) 1 x (omega arith) (omega (arith, k.words.wide)),
        weigh_set h k.full (table_size p.parts) 1 x (omega arith) (omega (arith, k.words.full_wide)),
        ap (h 1) live_stands,
      );
      tickets = subst (λ n. Drawn p.parts.fuel n (length k.log)) (sym still) k.tickets;
      up = omega (arith, still);
      calm = omega (arith, still);
      over = λ o. inl o;
      lasts = λ u l ne. get_or-set_other s.words 1 u x 0 (λ e. omega (arith, lasting_past p.parts u l, e));
      known = λ u y m. inl m;
      taken = λ u y m. inl m;
      due = λ u y m. m;
      swept = λ n lt. inl lt;
    }

    pub live_keeps : Kept p (after s 1 x id next)
    live_keeps = step_keeps p s k id v next 1 x (set k.full 1 x) here held change

pub index_in : {A : Type 0} (l : List A) (i : ℕ) (x : A) → get_elem? l i ≡ some x → i < length l
index_in [] i x e = absurd (some-ne-none x (sym e))
index_in (y ∷ ys) zero x e = omega arith
index_in (y ∷ ys) (suc i) x e = omega (arith, index_in ys i x e)

set_over : {A : Type 0} (l : List A) (i : ℕ) (a b : A) → set (set l i a) i b ≡ set l i b
set_over [] i a b = refl
set_over (x ∷ l) zero a b = refl
set_over (x ∷ l) (suc i) a b = ap (λ xs. x ∷ xs) (set_over l i a b)

-- what a view owes is nothing to the rule of the other words
pub owed_keeps : (p : Plan) (s : Table) (i x id : ℕ) (w : View) → Kept p (after s i x id w) →
    id < length s.views → 0 < w.holds → (n : ℕ) → Kept p (after s i x id (record w { owed = n }))
owed_keeps p s i x id w k within held n =
    let step = live_keeps p (after s i x id w) k id w (set_here s.views id w within) held
    (get_or (set s.words i x) 1 0) n w.settled w.looked in
    subst (λ (us : List View). Kept p record {
      words = set s.words i x;
      homes = s.homes;
      views = us;
    }) (set_over s.views id w (record w { owed = n }))
    (subst (λ (us : List ℕ). Kept p record {
      words = us;
      homes = s.homes;
      views = set (set s.views id w) id (record w { owed = n });
    }) (set-get_or (set s.words i x) 1 0) step)
