use Rattle.std.proofs.Common.{◌≡◌, ℕ, suc, ◌++◌, ◌+◌, Bool, Option, drop, sym, subst, ◌∙◌, arith, add-one}
use Rattle.ol_readback.specs.Texts.{rounds, text_of_tree}
use Rattle.ol_readback.specs.Printing.{printed, opened}
use Rattle.ol_readback.proofs.Layers.{Taken}
use Rattle.ol_readback.proofs.Printed.{begin_at, go_on, seen_at, named_at, not_past, printing_next}
use Rattle.ol_readback.proofs.Reread.{printed_is_read}
use Rattle.ol_readback.proofs.printing.tree_text.Goals as goal

pub loop-place-init : goal.loop-place-init
loop-place-init c = (
  begin_at c.args.names.now c.args.tree.now c.new-text.result.items
      c.new-rounds.result.items c.new-pending.result.items c.is_whole.ensures.whole
      c.new-text.ensures.items c.new-rounds.ensures.items c.new-pending.ensures.items,
  c.new-binders.ensures,
)

pub put_place-requires-clause-named : goal.put_place-requires-clause-named
put_place-requires-clause-named c = named_at _ c.args.tree.now c.loop-place.place c.in-Some.node
    c.requires.free (sym c.in-Some.ensures.place)

pub put_place-requires-clause-seen : goal.put_place-requires-clause-seen
put_place-requires-clause-seen c =
    seen_at c.args.names.now c.args.tree.now c.loop-place.place c.loop-place.text.items
    c.loop-place.rounds.items c.loop-place.pending.items c.loop-place.t c.loop-place.argument
    c.in-Some.node c.loop-place.invariant.0 (sym c.in-Some.ensures.place)
    c.add_round.new.rounds.items c.in_ok-add_round.ensures

pub returns-in-None-clause-text : goal.returns-in-None-clause-text
returns-in-None-clause-text c =
    let p = c.loop-place.invariant.0 in
    let w = c.wants_bracket-bracket.ensures in
    let n = c.in-Some.node in
    let rs = c.add_round.new.rounds.items in
    let x = subst (λ (b : Bool). c.put_place.new.text.items ≡ c.loop-place.text.items ++ printed
    c.args.names.now rs c.loop-place.t b n) w c.in_ok-put_place.ensures.text in
    let o = subst (λ (b : Bool). c.put_place.new.pending.items ≡ c.loop-place.pending.items ++ opened c.loop-place.t b n) w c.in_ok-put_place.ensures.pending in
    let k = go_on c.args.names.now c.args.tree.now c.loop-place.place c.loop-place.text.items
    c.loop-place.rounds.items c.loop-place.pending.items c.loop-place.t c.loop-place.argument n
    p (sym c.in-Some.ensures.place)
    rs c.put_place.new.text.items c.put_place.new.pending.items c.in_ok-add_round.ensures x o
    c.take.new.text.items c.take.new.pending.items c.in_ok-next.next c.in_ok-next.ensures in
    let taken = λ (r : Option ℕ). Taken c.args.names.now (rounds 0 p.tree)
    (text_of_tree c.args.names.now p.tree)
    (drop (suc c.loop-place.place) c.args.tree.now) c.take.new.text.items rs c.take.new.pending.items r in
    let f = subst taken c.in-None.is k in
    record { tree = p.tree; listed = p.listed; is = f.0 }

pub returns-in-None-clause-read : goal.returns-in-None-clause-read
returns-in-None-clause-read c = λ words all.
    printed_is_read c.args.names.now c.args.tree.now c.take.new.text.items words
    c.are_different.ensures.different c.are_different.ensures.few
    (omega (arith, c.take.new.text.ok.0)) c.requires.free c.is_whole.ensures.whole all
    (returns-in-None-clause-text c)

pub loop-place-preserved : goal.loop-place-preserved
loop-place-preserved c =
    let p = c.loop-place.invariant.0 in
    let w = c.wants_bracket-bracket.ensures in
    let n = c.in-Some.node in
    let rs = c.add_round.new.rounds.items in
    let x = subst (λ (b : Bool). c.put_place.new.text.items ≡ c.loop-place.text.items ++ printed
    c.args.names.now rs c.loop-place.t b n) w c.in_ok-put_place.ensures.text in
    let o = subst (λ (b : Bool). c.put_place.new.pending.items ≡ c.loop-place.pending.items ++ opened c.loop-place.t b n) w c.in_ok-put_place.ensures.pending in
    let k = go_on c.args.names.now c.args.tree.now c.loop-place.place c.loop-place.text.items
    c.loop-place.rounds.items c.loop-place.pending.items c.loop-place.t c.loop-place.argument n
    p (sym c.in-Some.ensures.place)
    rs c.put_place.new.text.items c.put_place.new.pending.items c.in_ok-add_round.ensures x o
    c.take.new.text.items c.take.new.pending.items c.in_ok-next.next c.in_ok-next.ensures in
    let taken = λ (r : Option ℕ). Taken c.args.names.now (rounds 0 p.tree)
    (text_of_tree c.args.names.now p.tree)
    (drop (suc c.loop-place.place) c.args.tree.now) c.take.new.text.items rs c.take.new.pending.items r in
    let f = subst taken c.in-Some-next.is k in (
      printing_next c.args.names.now c.args.tree.now c.loop-place.place
          (c.loop-place.place + 1) p.tree c.put.new.text.items c.take.new.text.items rs
          c.take.new.pending.items c.in-Some-next.inside p.listed f c.in_ok-put-in-Some-next.ensures
          (add-one c.loop-place.place),
      c.put_place.ensures.binders ∙ c.loop-place.invariant.1,
    )

pub returns : goal.returns
returns c = absurd (not_past c.args.names.now c.args.tree.now c.loop-place.place
    c.loop-place.text.items c.loop-place.rounds.items c.loop-place.pending.items c.loop-place.t
    c.loop-place.argument c.loop-place.invariant.0 (omega (arith, c.len-place-end.ensures, c.loop-place-test.false)))
