-- The bounds by which the counts, indexes and masks of a linking fit their words.
use Rattle.std.proofs.Common.{◌≡◌, ◌+◌, ◌*◌, ◌^◌, ◌<◌, ◌≤◌, ℕ, zero, suc, refl, sym, ap, ◌∙◌, subst}
use Rattle.std.proofs.Common.{arith, Fits, w8, w32}
use Rattle.ol_wire.specs.declared.layout.Parts.{Parts}
use Rattle.ol_wire.specs.declared.view.View.{View}
use Rattle.ol_wire.specs.Layout.{born_cell, table_size}
use Rattle.ol_wire.specs.LinkLists.{joins_in}
use Rattle.ol_wire.specs.Rewrites.{event_for}
use Rattle.ol_wire.specs.Links.{link_between}
use Rattle.ol_wire.specs.References.{index_in}
use Rattle.ol_wire.specs.StepPlays.{IsNodeOf}
use Rattle.ol_wire.specs.Stand.{TableState, IsUnder}
use Rattle.ol_wire.proofs.Ticket.Refs.{joins_few}
use Rattle.ol_wire.proofs.LinkSteps.All.{link_in, AreLinking, all_begin, link_is_next, both_ends}
use Rattle.ol_wire.proofs.LinkSteps.All.{more_published, more_made, none_left, all_linked}
use Rattle.ol_wire.proofs.shared.Shared.link_all.Goals as goal
use Rattle.ol_wire.proofs.shared.Shared.link_all.Goals.{in-Some, in_default}

few : (t f g : ℕ) → t < f → f ≡ g → g ≤ 8000000 → t ≤ 8000000
few t f g a b c = omega arith

one_more : (n : ℕ) → n ≤ 4 → Fits w32 (n + 1)
one_more n h = omega arith

join_few : (j n m : ℕ) → j < n → n ≡ m → m ≤ 4 → j < 4
join_few j n m a b c = omega arith

index_few : (z : Parts) (n f : ℕ) → IsNodeOf z n → z.fuel ≡ f → f ≤ 8000000 → index_in n < 16777215
index_few z n f o e h = let i = o.2 in omega (arith, i, e, h)

cell_within : (z : Parts) (t j : ℕ) → t < z.fuel → j < 4 → suc (born_cell z t j) < table_size z
cell_within z t j a b = omega arith

cell_of : (y z : Parts) (t j first : ℕ) → y ≡ z → first ≡ born_cell y t 0 → first + 2 * j ≡ born_cell z t j
cell_of y z t j first e is = omega (arith, is, ap (λ (p : Parts). born_cell p t j) e)

mask_fits : (m b j : ℕ) → m < 2 ^ j → b ≡ 2 ^ j → j < 4 → Fits w8 (m + b)
mask_fits m b zero h e few = omega arith
mask_fits m b (suc zero) h e few = omega arith
mask_fits m b (suc (suc zero)) h e few = omega arith
mask_fits m b (suc (suc (suc zero))) h e few = omega arith
mask_fits m b (suc (suc (suc (suc j)))) h e few = absurd (omega arith)

one_is_owed : (n o j a : ℕ) → suc n ≤ o + j → j < n → a ≤ 1 → a ≤ o
one_is_owed n o j a h b d = omega arith

pub overflow_add-owed : goal.overflow_add-owed
overflow_add-owed c =
    let joins = joins_few (event_for c.args.begun.now.rewrite) in
    one_more c.joins-joins.result (subst (λ (n : ℕ). n ≤ 4) (sym c.joins-joins.ensures) joins)

pub copies-copies-requires-clause-small : goal.copies-copies-requires-clause-small
copies-copies-requires-clause-small c =
    let parts : c.args.self.now.plan.parts ≡ c.self.inside.parts = sym
    (ap (λ (b : TableState). b.plan.parts) c.self.view_is) ∙ c.self.invariant.0 in (
      c.self.invariant.4,
      few c.args.begun.now.ticket c.args.self.now.plan.parts.fuel c.self.inside.parts.fuel
          c.requires.begun.ticket (ap (λ (z : Parts). z.fuel) parts) c.self.invariant.4.fuel,
    )

pub copies-copies-requires-clause-index : goal.copies-copies-requires-clause-index
copies-copies-requires-clause-index c =
    let parts : c.args.self.now.plan.parts ≡ c.self.inside.parts = sym
    (ap (λ (b : TableState). b.plan.parts) c.self.view_is) ∙ c.self.invariant.0 in
    index_few c.args.self.now.plan.parts c.args.begun.now.rewrite.g c.self.inside.parts.fuel
    c.requires.begun.nodes.1 (ap (λ (z : Parts). z.fuel) parts) c.self.invariant.4.fuel

pub born_cell-first_cell-requires : goal.born_cell-first_cell-requires
born_cell-first_cell-requires c =
    let parts : c.args.self.now.plan.parts ≡ c.self.inside.parts = sym
    (ap (λ (b : TableState). b.plan.parts) c.self.view_is) ∙ c.self.invariant.0 in (
      c.self.invariant.4,
      few c.args.begun.now.ticket c.args.self.now.plan.parts.fuel c.self.inside.parts.fuel
          c.requires.begun.ticket (ap (λ (z : Parts). z.fuel) parts) c.self.invariant.4.fuel,
      omega arith,
    )

pub ends-one-requires-clause-copies : goal.ends-one-requires-clause-copies
ends-one-requires-clause-copies c = (c.self.inside.parts, c.copies-copies.ensures)

pub ends-one-requires-clause-join : goal.ends-one-requires-clause-join
ends-one-requires-clause-join c =
    subst (λ (n : ℕ). c.loop-j.j < n) c.joins-joins.ensures c.loop-j-test.true

pub ends-one-requires-clause-rule : goal.ends-one-requires-clause-rule
ends-one-requires-clause-rule c = c.requires.begun.rule

pub link-requires-clause-token : goal.link-requires-clause-token
link-requires-clause-token c = (
  c.loop-j.invariant.0 ∙ c.requires.token.0,
  subst (λ (u : View). IsUnder c.args.self.now.plan u) (sym c.loop-j.invariant.2.view) c.requires.token.1,
)

pub link-requires-clause-cell : goal.link-requires-clause-cell
link-requires-clause-cell c =
    let z : Parts = c.args.self.now.plan.parts in
    let b = c.args.begun.now in
    let parts : c.self.inside.parts ≡ z = sym c.self.invariant.0
    ∙ ap (λ (x : TableState). x.plan.parts) c.self.view_is in
    let cell : c.born_cell-first_cell.result + 2 * c.loop-j.j ≡ born_cell z b.ticket c.loop-j.j =
    cell_of c.self.inside.parts z b.ticket c.loop-j.j c.born_cell-first_cell.result parts c.born_cell-first_cell.ensures in
    subst (λ (w : ℕ). suc w < table_size z) (sym cell)
    (cell_within z b.ticket c.loop-j.j c.requires.begun.ticket
    (join_few c.loop-j.j c.joins-joins.result (joins_in (event_for b.rewrite)) c.loop-j-test.true
    c.joins-joins.ensures (joins_few (event_for b.rewrite))))

pub bit-mask-requires : goal.bit-mask-requires
bit-mask-requires c = join_few c.loop-j.j c.joins-joins.result
    (joins_in (event_for c.args.begun.now.rewrite)) c.loop-j-test.true c.joins-joins.ensures
    (joins_few (event_for c.args.begun.now.rewrite))

pub overflow_add-mask : goal.overflow_add-mask
overflow_add-mask c = mask_fits c.loop-j.mask c.bit-mask.result c.loop-j.j c.loop-j.invariant.2.mask
    c.bit-mask.ensures (join_few c.loop-j.j c.joins-joins.result
    (joins_in (event_for c.args.begun.now.rewrite)) c.loop-j-test.true c.joins-joins.ensures
    (joins_few (event_for c.args.begun.now.rewrite)))

pub overflow_sub-owed : goal.overflow_sub-owed
overflow_sub-owed c = one_is_owed (joins_in (event_for c.args.begun.now.rewrite)) c.loop-j.owed c.loop-j.j
    c.in-Some.active c.loop-j.invariant.2.most
    (subst (λ (n : ℕ). c.loop-j.j < n) c.joins-joins.ensures c.loop-j-test.true) c.in-Some.ensures.small

pub repay-requires-clause-token : goal.repay-requires-clause-token
repay-requires-clause-token c = (
  c.loop-j.invariant.0 ∙ c.requires.token.0,
  subst (λ (u : View). IsUnder c.args.self.now.plan u) (sym c.loop-j.invariant.2.view) c.requires.token.1,
)

pub repay-requires-clause-owed : goal.repay-requires-clause-owed
repay-requires-clause-owed c = c.loop-j.invariant.2.owed

pub returns-clause-token : goal.returns-clause-token
returns-clause-token c = (
  c.repay.ensures.token.0 ∙ c.loop-j.invariant.0,
  c.repay.ensures.token.1 ∙ c.loop-j.invariant.1,
)

pub loop-j-init : goal.loop-j-init
loop-j-init c = (
  refl,
  refl,
  all_begin c.args.self.now.plan.parts c.args.token.now.me.0 c.args.begun.now
      c.requires.begun (c.joins-joins.result + 1) (ap (λ (n : ℕ). n + 1) c.joins-joins.ensures),
)

pub link-requires-clause-next : goal.link-requires-clause-next
link-requires-clause-next c =
    let z : Parts = c.args.self.now.plan.parts in
    let b = c.args.begun.now in
    let one = c.ends-one.result.0 in
    let two = c.ends-one.result.1 in
    let parts : c.self.inside.parts ≡ z = sym c.self.invariant.0
    ∙ ap (λ (x : TableState). x.plan.parts) c.self.view_is in
    let lt : c.loop-j.j < joins_in (event_for b.rewrite) = omega (arith, c.loop-j-test.true, c.joins-joins.ensures) in
    let first : ℕ = c.born_cell-first_cell.result in
    let cell : first + 2 * c.loop-j.j ≡ born_cell c.self.inside.parts b.ticket c.loop-j.j =
    cell_of c.self.inside.parts c.self.inside.parts b.ticket c.loop-j.j first refl c.born_cell-first_cell.ensures in
    let is : link_between (first + 2 * c.loop-j.j) one two ≡ link_in z b c.loop-j.j =
    ap (λ (w : ℕ). link_between w one two) cell ∙ c.ends-one.ensures c.self.inside.parts c.copies-copies.ensures
    ∙ ap (λ (y : Parts). link_in y b c.loop-j.j) parts in
    link_is_next z c.args.token.now.me.0 b c.requires.begun c.loop-j.j c.loop-j.mask c.loop-j.owed
    c.loop-j.token.me.0 c.loop-j.invariant.2 lt (first + 2 * c.loop-j.j) one two is

pub link-requires-clause-ends : goal.link-requires-clause-ends
link-requires-clause-ends c =
    let z : Parts = c.args.self.now.plan.parts in
    let b = c.args.begun.now in
    let one = c.ends-one.result.0 in
    let two = c.ends-one.result.1 in
    let parts : c.self.inside.parts ≡ z = sym c.self.invariant.0
    ∙ ap (λ (x : TableState). x.plan.parts) c.self.view_is in
    let lt : c.loop-j.j < joins_in (event_for b.rewrite) = omega (arith, c.loop-j-test.true, c.joins-joins.ensures) in
    let first : ℕ = c.born_cell-first_cell.result in
    let cell : first + 2 * c.loop-j.j ≡ born_cell c.self.inside.parts b.ticket c.loop-j.j =
    cell_of c.self.inside.parts c.self.inside.parts b.ticket c.loop-j.j first refl c.born_cell-first_cell.ensures in
    let is : link_between (first + 2 * c.loop-j.j) one two ≡ link_in z b c.loop-j.j =
    ap (λ (w : ℕ). link_between w one two) cell ∙ c.ends-one.ensures c.self.inside.parts c.copies-copies.ensures
    ∙ ap (λ (y : Parts). link_in y b c.loop-j.j) parts in
    both_ends z c.args.token.now.me.0 b c.requires.begun c.loop-j.j c.loop-j.mask c.loop-j.owed
    c.loop-j.token.me.0 c.loop-j.invariant.2 lt (first + 2 * c.loop-j.j) one two is

pub loop-j-preserved : goal.loop-j-preserved
loop-j-preserved c =
    let z : Parts = c.args.self.now.plan.parts in
    let b = c.args.begun.now in
    let j : ℕ = c.loop-j.j in
    let parts : c.self.inside.parts ≡ z = sym c.self.invariant.0
    ∙ ap (λ (x : TableState). x.plan.parts) c.self.view_is in
    let lt : j < joins_in (event_for b.rewrite) = omega (arith, c.loop-j-test.true, c.joins-joins.ensures) in
    let cell : c.born_cell-first_cell.result + 2 * j ≡ born_cell z b.ticket j =
    cell_of c.self.inside.parts z b.ticket j c.born_cell-first_cell.result parts c.born_cell-first_cell.ensures in (
      c.link.ensures.token.0 ∙ c.loop-j.invariant.0,
      c.link.ensures.token.1 ∙ c.loop-j.invariant.1,
      elim c.match-link.branch [
        | in-Some w ↦ more_published z c.args.token.now.me.0 b c.requires.begun j c.loop-j.mask
            c.loop-j.owed c.loop-j.token.me.0 c.loop-j.invariant.2 lt c.requires.token.1.0
            c.link.new.token.me.0 w.in-Some.active (c.born_cell-first_cell.result + 2 * j) c.match-link.mask
            c.match-link.owed cell w.in-Some.ensures.small w.in-Some.ensures.view
            (omega (arith, w.mask-is, w.bit-mask.ensures)) w.owed-is
        | in_default w ↦ more_made z c.args.token.now.me.0 b c.requires.begun j c.loop-j.mask
            c.loop-j.owed c.loop-j.token.me.0 c.loop-j.invariant.2 lt c.requires.token.1.0
            c.link.new.token.me.0 (c.born_cell-first_cell.result + 2 * j) c.match-link.mask c.match-link.owed cell
            w.in_default.ensures.view w.mask-is w.owed-is
      ],
    )

pub repay-requires-clause-linked : goal.repay-requires-clause-linked
repay-requires-clause-linked c =
    let z : Parts = c.args.self.now.plan.parts in
    let b = c.args.begun.now in
    let end : c.loop-j.j ≡ joins_in (event_for b.rewrite) = omega
    (arith, c.loop-j-test.false, c.joins-joins.ensures, c.loop-j.auto.j-end) in
    none_left z c.args.token.now.me.0 b c.requires.begun c.loop-j.mask c.loop-j.owed
    c.loop-j.token.me.0 (subst (λ (i : ℕ).
    AreLinking z c.args.token.now.me.0 b i c.loop-j.mask c.loop-j.owed c.loop-j.token.me.0) end
    c.loop-j.invariant.2)

pub returns-clause-view : goal.returns-clause-view
returns-clause-view c =
    let z : Parts = c.args.self.now.plan.parts in
    let v : View = c.args.token.now.me.0 in
    let b = c.args.begun.now in
    let end : c.loop-j.j ≡ joins_in (event_for b.rewrite) = omega
    (arith, c.loop-j-test.false, c.joins-joins.ensures, c.loop-j.auto.j-end) in
    all_linked z v b c.requires.begun c.loop-j.mask c.loop-j.owed c.loop-j.token.me.0
    c.repay.new.token.me.0 (subst (λ (i : ℕ).
    AreLinking z v b i c.loop-j.mask c.loop-j.owed c.loop-j.token.me.0) end
    c.loop-j.invariant.2) c.repay.ensures.view
