use Rattle.std.proofs.Common.{sym, ap, ◌∙◌, max}
use Rattle.ol_counts.proofs.Tallying.{last_on}
use Rattle.ol_counts.proofs.wave_counts.last_wave.Goals as goal

pub loop-k-preserved : goal.loop-k-preserved
loop-k-preserved c =
    c.max-last.ensures ∙ ap (λ n. max n c.in-Some.wave) c.loop-k.invariant
    ∙ sym (last_on c.args.waves.now c.loop-k.k c.in-Some.wave (sym c.get.ensures.wave ∙ c.in-Some.is))
