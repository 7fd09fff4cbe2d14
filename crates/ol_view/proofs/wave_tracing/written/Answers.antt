use Rattle.std.proofs.Common.{◌≡◌, suc, ◌+◌, ◌++◌, arith, append_assoc, take, sym, ap, ◌∙◌}
use Rattle.ol_view.specs.EachForm.{wave_header, wave_line_text, wave_lines_text}
use Rattle.ol_view.proofs.WaveTraces.{wave_lines_on, wave_there}
use Rattle.ol_view.proofs.wave_tracing.written.Goals as goal

pub unreachable-requires-in_default-get : goal.unreachable-requires-in_default-get
unreachable-requires-in_default-get c =
    let l = c.len-k-end.ensures in
    let b = c.loop-k-test.true in
    let r = c.requires in
    let t = wave_there c.args.waves.now c.loop-k.k (omega arith) in
    c.in_default-get.not-Some t.0 (c.get-in-loop-k.ensures.wave ∙ t.1)

pub loop-k-preserved : goal.loop-k-preserved
loop-k-preserved c =
    let e = c.in-Some.entry in
    let w = c.in-Some-get.wave in
    let t = wave_lines_on c.args.journal.now c.args.waves.now c.loop-k.k e w
    (sym c.get.ensures ∙ c.in-Some.is) (sym c.get-in-loop-k.ensures.wave ∙ c.in-Some-get.is) in
    c.in_ok-put_wave_line.ensures
    ∙ ap (λ bs. bs ++ wave_line_text e w) c.loop-k.invariant
    ∙ append_assoc wave_header (wave_lines_text (take c.loop-k.k c.args.journal.now)
    (take c.loop-k.k c.args.waves.now)) (wave_line_text e w)
    ∙ ap (λ bs. wave_header ++ bs) (sym t)
    ∙ ap (λ k. wave_header ++ wave_lines_text (take k c.args.journal.now) (take k c.args.waves.now))
    (let q : suc c.loop-k.k ≡ c.loop-k.k + 1 = omega arith in q)
