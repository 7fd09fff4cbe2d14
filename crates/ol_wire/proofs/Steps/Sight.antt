-- What a look at the table asks of its seat.
-- Used in Allowed, LiveAllowed, `events` and `read_tickets`.
use Rattle.std.proofs.Common.{◌≡◌, ℕ, ◌<◌, ◌≤◌, List, length, get_or, set, sym, refl, ◌∙◌, subst, arith}
use Rattle.std.proofs.lemmas.List.{set-get_or}
use mathlib.Core.Option.{none}
use Rattle.atomic_table.specs.Table.{step, keeps, Allows}
use Rattle.atomic_table.proofs.Lists.{set_again}
use Rattle.ol_wire.specs.declared.plan.Plan.{Plan}
use Rattle.ol_wire.specs.declared.view.View.{View}
use Rattle.ol_wire.specs.StepPlays.{Seated}
use Rattle.ol_wire.specs.Rule.{Table, Kept, IsView, KnowsPlan}
use Rattle.ol_wire.specs.Moments.{Moment}
use Rattle.ol_wire.specs.Credit.{Credited, IsRuled}
use Rattle.ol_wire.specs.Remembered.{Remembered}
use Rattle.ol_wire.specs.Looking.{MomentWith, reads_tickets}

-- a view knows one plan
pub one_plan : (p q : Plan) (v : View) → KnowsPlan p v → KnowsPlan q v → p ≡ q
one_plan p q v a b =
    let parts : p.parts ≡ q.parts = sym a.0 ∙ b.0 in
    let seats : p.seats ≡ q.seats = sym a.1 ∙ b.1 in
    let start : p.start.value ≡ q.start.value = sym a.2 ∙ b.2 in
    λ i. record { parts = parts i; seats = seats i; start = record { marker = p.start.marker; value = start i } }

-- what holds of the plan of a table is so for each plan that one of its views knows
pub told_of : (p : Plan) (s : Table) (k : Kept p s) (v : View) → IsView s v → 0 < v.holds →
    (Q : Plan → Type 0) → Q p → (q : Plan) → KnowsPlan q v → Q q
told_of p s k v is held Q x q knows = subst Q (one_plan p q v (k.seats.plans v is held) knows) x

pub reads_tickets_allowed : (p : Plan) (slots id : ℕ) (m : Seated) → 0 < m.0.holds →
    Allows (IsRuled p) slots id m 0 (λ n. n) (reads_tickets (step slots 0 0 0 none) m)
reads_tickets_allowed p slots id m held s (k, c, r) homes here small =
    let P : List ℕ → List View → Type 0 = λ ws vs. IsRuled p record { words = ws; homes = s.homes; views = vs } in
    let told : (q : Plan) → KnowsPlan q m.0 → MomentWith q m.0 (get_or s.words 0 0) =
    λ q knows. (
      let same : p ≡ q = one_plan p q m.0 (k.seats.plans m.0 (id, here) held) knows in
          record {
            table = s;
            kept = subst (λ (t : Plan). Kept t s) same k;
            credit = subst (λ (t : Plan). Credited t s) same c;
            told = subst (λ (t : Plan). Remembered t s) same r;
            seen = (id, here);
          },
      refl,
    ) in (
      m.0,
      keeps,
      tt,
      subst (λ ws. P ws (set s.views id m.0)) (sym (set-get_or s.words 0 0))
          (subst (P s.words) (sym (set_again s.views id m.0 here)) (k, c, r)),
      (refl, refl, told),
    )

-- the journal has as many entries as tickets below the fuel were drawn
pub entries_below : (p : Plan) (v : View) (word : ℕ) (m : Moment p v) →
    get_or m.table.words 0 0 ≡ word → word < p.parts.fuel → length m.kept.log ≡ word
entries_below p v word m e lt = m.kept.tickets.below (omega (arith, e, lt)) ∙ e

pub entries_above : (p : Plan) (v : View) (word : ℕ) (m : Moment p v) →
    get_or m.table.words 0 0 ≡ word → p.parts.fuel ≤ word → length m.kept.log ≡ p.parts.fuel
entries_above p v word m e le = m.kept.tickets.above (omega (arith, e, le))
