-- A level that is above another one is at least 1, and 1 less of it still fits.
use Rattle.std.proofs.Common.{◌≡◌, ℕ, ◌+◌, ◌-◌, ◌<◌, ◌≤◌, suc, arith}
use Rattle.std.proofs.lemmas.Result.{err_from_is_err_and}
use Rattle.ol_context.proofs.Leaves.{parts_more, risen_beyond}
use Rattle.ol_context.proofs.Shapes.{extends_refl}
use Rattle.ol_context.proofs.leaf_changes.rise_open.Goals as goal

level_before : (i at : ℕ) → at < i → 1 ≤ i
level_before i at h = omega arith

still_small : (i : ℕ) → i < 4294967296 → i - 1 < 4294967296
still_small i h = omega arith

pub overflow_sub-i : goal.overflow_sub-i
overflow_sub-i c = level_before c.args.i c.args.leaf.now.at c.if-i-leaf.true

pub rise-requires-clause-held : goal.rise-requires-clause-held
rise-requires-clause-held c = c.requires.held.0

pub rise-requires-clause-small : goal.rise-requires-clause-small
rise-requires-clause-small c = still_small c.args.i c.requires.small

pub rise-requires-clause-slot : goal.rise-requires-clause-slot
rise-requires-clause-slot c = c.requires.slot

pub returns-in_err-rise-clause-held : goal.returns-in_err-rise-clause-held
returns-in_err-rise-clause-held c =
    let p = err_from_is_err_and c.from_residual.result c.from_residual.ensures.1 in rw p.1 tt

pub returns-in_err-rise-clause-ok : goal.returns-in_err-rise-clause-ok
returns-in_err-rise-clause-ok c =
    let p = err_from_is_err_and c.from_residual.result c.from_residual.ensures.1 in rw p.1 tt

pub returns-in_err-rise-clause-extends : goal.returns-in_err-rise-clause-extends
returns-in_err-rise-clause-extends c = c.rise.ensures.extends

pub returns-then-i-leaf-clause-extends : goal.returns-then-i-leaf-clause-extends
returns-then-i-leaf-clause-extends c = c.rise.ensures.extends

pub returns-then-i-leaf-clause-err : goal.returns-then-i-leaf-clause-err
returns-then-i-leaf-clause-err c = tt

pub mark_round-requires-clause-held : goal.mark_round-requires-clause-held
mark_round-requires-clause-held c = c.requires.held

pub mark_round-requires-clause-small : goal.mark_round-requires-clause-small
mark_round-requires-clause-small c = c.requires.small

pub mark_round-requires-clause-before : goal.mark_round-requires-clause-before
mark_round-requires-clause-before c = c.if-i-leaf.false

pub returns-in-Lam-clause-extends : goal.returns-in-Lam-clause-extends
returns-in-Lam-clause-extends c = c.mark_round.ensures.extends

pub returns-in-Lam-clause-held : goal.returns-in-Lam-clause-held
returns-in-Lam-clause-held c = c.mark_round.ensures.held

pub returns-in-Lam-clause-ok : goal.returns-in-Lam-clause-ok
returns-in-Lam-clause-ok c = rw c.in-Lam.is c.mark_round.ensures.ok

pub returns-in-Lam-clause-err : goal.returns-in-Lam-clause-err
returns-in-Lam-clause-err c = c.mark_round.ensures.err

pub mark_round-requires-in-App-clause-held : goal.mark_round-requires-in-App-clause-held
mark_round-requires-in-App-clause-held c = c.requires.held

pub mark_round-requires-in-App-clause-small : goal.mark_round-requires-in-App-clause-small
mark_round-requires-in-App-clause-small c = c.requires.small

pub mark_round-requires-in-App-clause-before : goal.mark_round-requires-in-App-clause-before
mark_round-requires-in-App-clause-before c = c.if-i-leaf.false

pub returns-in-App-clause-extends : goal.returns-in-App-clause-extends
returns-in-App-clause-extends c = c.mark_round-in-App.ensures.extends

pub returns-in-App-clause-held : goal.returns-in-App-clause-held
returns-in-App-clause-held c = c.mark_round-in-App.ensures.held

pub returns-in-App-clause-ok : goal.returns-in-App-clause-ok
returns-in-App-clause-ok c = rw c.in-App.is c.mark_round-in-App.ensures.ok

pub returns-in-App-clause-err : goal.returns-in-App-clause-err
returns-in-App-clause-err c = c.mark_round-in-App.ensures.err

pub mark_round-requires-in-Fan-clause-held : goal.mark_round-requires-in-Fan-clause-held
mark_round-requires-in-Fan-clause-held c = c.requires.held

pub mark_round-requires-in-Fan-clause-small : goal.mark_round-requires-in-Fan-clause-small
mark_round-requires-in-Fan-clause-small c = c.requires.small

pub mark_round-requires-in-Fan-clause-before : goal.mark_round-requires-in-Fan-clause-before
mark_round-requires-in-Fan-clause-before c = c.if-i-leaf.false

pub returns-in-Fan-clause-extends : goal.returns-in-Fan-clause-extends
returns-in-Fan-clause-extends c = c.mark_round-in-Fan.ensures.extends

pub returns-in-Fan-clause-held : goal.returns-in-Fan-clause-held
returns-in-Fan-clause-held c = c.mark_round-in-Fan.ensures.held

pub returns-in-Fan-clause-ok : goal.returns-in-Fan-clause-ok
returns-in-Fan-clause-ok c = rw c.in-Fan.is c.mark_round-in-Fan.ensures.ok

pub returns-in-Fan-clause-err : goal.returns-in-Fan-clause-err
returns-in-Fan-clause-err c = c.mark_round-in-Fan.ensures.err

pub put_before-requires-clause-held : goal.put_before-requires-clause-held
put_before-requires-clause-held c = c.requires.held

pub put_before-requires-clause-small : goal.put_before-requires-clause-small
put_before-requires-clause-small c = c.requires.small

pub put_before-requires-clause-before : goal.put_before-requires-clause-before
put_before-requires-clause-before c = c.if-i-leaf.false

pub returns-in-Croissant-clause-extends : goal.returns-in-Croissant-clause-extends
returns-in-Croissant-clause-extends c = extends_refl c.args.values.now

pub returns-in-Croissant-clause-held : goal.returns-in-Croissant-clause-held
returns-in-Croissant-clause-held c = c.put_before.ensures.held

pub returns-in-Croissant-clause-ok : goal.returns-in-Croissant-clause-ok
returns-in-Croissant-clause-ok c = rw c.in-Croissant.is c.put_before.ensures.ok

pub returns-in-Croissant-clause-err : goal.returns-in-Croissant-clause-err
returns-in-Croissant-clause-err c = c.put_before.ensures.err

pub pack_round-requires-clause-held : goal.pack_round-requires-clause-held
pack_round-requires-clause-held c = c.requires.held

pub pack_round-requires-clause-small : goal.pack_round-requires-clause-small
pack_round-requires-clause-small c = c.requires.small

pub pack_round-requires-clause-before : goal.pack_round-requires-clause-before
pack_round-requires-clause-before c = c.if-i-leaf.false

pub returns-in-Bracket-clause-extends : goal.returns-in-Bracket-clause-extends
returns-in-Bracket-clause-extends c = c.pack_round.ensures.extends

pub returns-in-Bracket-clause-held : goal.returns-in-Bracket-clause-held
returns-in-Bracket-clause-held c = c.pack_round.ensures.held

pub returns-in-Bracket-clause-ok : goal.returns-in-Bracket-clause-ok
returns-in-Bracket-clause-ok c = rw c.in-Bracket.is c.pack_round.ensures.ok

pub returns-in-Bracket-clause-err : goal.returns-in-Bracket-clause-err
returns-in-Bracket-clause-err c = c.pack_round.ensures.err

pub returns-in-Eraser-clause-extends : goal.returns-in-Eraser-clause-extends
returns-in-Eraser-clause-extends c = extends_refl c.args.values.now

pub returns-in-Eraser-clause-held : goal.returns-in-Eraser-clause-held
returns-in-Eraser-clause-held c = c.requires.held

pub returns-in-Eraser-clause-err : goal.returns-in-Eraser-clause-err
returns-in-Eraser-clause-err c = tt

pub returns-then-i-leaf-clause-held : goal.returns-then-i-leaf-clause-held
returns-then-i-leaf-clause-held c = (
  c.in_ok-rise.ensures.ok.held,
  parts_more c.args.values.now c.rise.new.values c.args.leaf.now.around.items
      c.rise.ensures.extends c.requires.held.1,
)

pub returns-then-i-leaf-clause-ok : goal.returns-then-i-leaf-clause-ok
returns-then-i-leaf-clause-ok c =
    let q : c.args.i ≡ c.args.leaf.now.at + suc (c.args.i - suc c.args.leaf.now.at) = omega (arith, c.if-i-leaf.true) in
    let r : c.args.i - 1 ≡ c.args.leaf.now.at + (c.args.i - suc c.args.leaf.now.at) = omega (arith, c.if-i-leaf.true) in
    risen_beyond c.args.kind c.args.s c.args.i
    (c.args.i - suc c.args.leaf.now.at) c.args.leaf.now.at q r c.args.leaf.now.around.items
    c.args.values.now c.rise.new.values c.args.levels.now.items c.rise.new.levels.items
    c.rise.ensures.extends c.requires.held.1 c.in_ok-rise.ensures.ok.is
