use Rattle.std.proofs.Common.{◌+◌, sym, ◌∙◌, arith}
use Rattle.std.proofs.lemmas.List.{append-nil}
use Rattle.std.specs.Prelude.{string_bytes}
use Rattle.ol_diamond.proofs.Weighed.{there_is}
use Rattle.ol_view.proofs.WaveTraces.{wave_there}
use Rattle.ol_explain.proofs.Leaving.{line_on, all_lines}
use Rattle.ol_explain.proofs.left.put_lines.Goals as goal

pub loop-k-init : goal.loop-k-init
loop-k-init c = sym (append-nil (string_bytes c.args.text.now))

pub unreachable-requires : goal.unreachable-requires
unreachable-requires c =
    let l = c.len-k-end.ensures in
    let b = c.loop-k-test.true in
    let t = there_is c.args.entries.now c.loop-k.k (omega arith) in
    c.in_default.not-Some t.0 (c.get.ensures ∙ t.1)

pub overflow_add-from : goal.overflow_add-from
overflow_add-from c =
    let l = c.len-k-end.ensures in
    let b = c.loop-k-test.true in
    let r = c.requires.few in
    omega arith

pub unreachable-requires-in_default-get : goal.unreachable-requires-in_default-get
unreachable-requires-in_default-get c =
    let l = c.len-k-end.ensures in
    let b = c.loop-k-test.true in
    let r = c.requires.count in
    let t = wave_there c.args.waves.now (c.args.from + c.loop-k.k) (omega arith) in
    c.in_default-get.not-Some t.0 (c.get-in-loop-k.ensures.wave ∙ t.1)

pub loop-k-preserved : goal.loop-k-preserved
loop-k-preserved c = line_on c.args.entries.now c.args.waves.now c.args.from c.loop-k.k c.in-Some.entry
    c.in-Some-get.wave (string_bytes c.args.text.now) (string_bytes c.loop-k.text) (string_bytes c.put_line.new.text)
    (sym c.get.ensures ∙ c.in-Some.is) (sym c.get-in-loop-k.ensures.wave ∙ c.in-Some-get.is)
    c.loop-k.invariant c.in_ok-put_line.ensures

pub returns : goal.returns
returns c =
    let l = c.len-k-end.ensures in
    let t = c.loop-k-test.false in
    all_lines c.args.entries.now c.args.waves.now c.args.from c.loop-k.k (string_bytes c.args.text.now)
    (string_bytes c.loop-k.text) c.requires.count (omega arith) c.loop-k.invariant
