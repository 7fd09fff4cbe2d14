use Rattle.std.proofs.Common.{◌++◌, ◌∷◌, [], take, ◌+◌, sym, ap, ◌∙◌, subst, arith}
use Rattle.std.proofs.lemmas.List.{take_all}
use Rattle.ol_view.specs.declared.forms.Form.TheVariants.{Two}
use Rattle.ol_view.specs.Forms.{header_of}
use Rattle.ol_orders.specs.Replays.{names_of}
use Rattle.ol_orders.specs.Turns.{left_text}
use Rattle.ol_orders.proofs.Steps.{IsSoFar, so_begins, so_goes, entries_on, waves_on}
use Rattle.ol_orders.proofs.telling.told.Goals as goal

pub loop-k-init : goal.loop-k-init
loop-k-init c =
    let r = c.in_ok-replay.replay in
    so_begins c.args.net.now r c.put_left.new.text.items c.in_ok-replay.ensures.replay
    c.in_ok-replay.ensures.journal c.in_ok-replay.ensures.net
    (c.in_ok-put_left.ensures ∙ ap (λ t. t ++ left_text (names_of r) r.net)
    (c.in_ok-put.ensures ∙ ap (λ t. t ++ header_of Two) c.new-text.ensures.items))

pub loop-k-preserved : goal.loop-k-preserved
loop-k-preserved c =
    let e = c.in-Some.entry in
    let w = c.in-Some-get.wave in
    let k = c.loop-k.k in
    let r' = c.put_turn.new.replay in
    let t' = c.put_turn.new.text.items in
    let s = so_goes c.args.net.now c.loop-k.replay r' (take k c.args.journal.now) (take k c.args.waves.now)
    e w c.loop-k.text.items t' c.loop-k.invariant c.in_ok-put_turn.ensures in
    subst (λ es. IsSoFar c.args.net.now r' es (take (k + 1) c.args.waves.now) t')
    (sym (entries_on c.args.journal.now k e (sym c.get.ensures ∙ c.in-Some.is)))
    (subst (λ ws. IsSoFar c.args.net.now r' (take k c.args.journal.now ++ e ∷ []) ws t')
    (sym (waves_on c.args.waves.now k w (sym c.get-in-loop-k.ensures.wave ∙ c.in-Some-get.is))) s)

pub returns : goal.returns
returns c =
    let l = c.len-k-end.ensures in
    let t = c.loop-k-test.false in
    let n = c.requires.count in
    let s = subst (λ es. IsSoFar c.args.net.now c.loop-k.replay es (take c.loop-k.k c.args.waves.now) c.loop-k.text.items)
    (take_all c.loop-k.k c.args.journal.now (omega arith)) c.loop-k.invariant in
    let f = subst (λ ws. IsSoFar c.args.net.now c.loop-k.replay c.args.journal.now ws c.loop-k.text.items)
    (take_all c.loop-k.k c.args.waves.now (omega arith)) s in
    record { names = names_of c.loop-k.replay; last = c.loop-k.replay.net; told = f.told }
