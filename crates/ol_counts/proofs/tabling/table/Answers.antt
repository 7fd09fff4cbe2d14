use Rattle.std.proofs.Common.{◌<◌, ◌+◌, ◌++◌, length, sym, ap, ◌∙◌, subst, arith}
use Rattle.ol_counts.specs.Waves.{header_text, widest_text, mean_text, totals_text}
use Rattle.ol_counts.specs.CountsOfWaves.{IsWidestBelow, rows_text}
use Rattle.ol_counts.proofs.Tallying.{table_of}
use Rattle.ol_counts.proofs.tabling.table.Goals as goal

pub returns : goal.returns
returns c =
    let tallies = c.in_ok-tallies.tallies.items in
    let last = c.last_wave-last.result in
    let widest = c.first_widest-widest.result in
    let some : 0 < c.len.result = (let f = c.if-len-eq0.false in omega arith) in
    table_of tallies c.args.journal.now c.args.waves.now
    (c.in_ok-tallies.ensures.sized ∙ ap (λ n. n + 1) c.last_wave-last.ensures)
    c.in_ok-tallies.ensures.each last widest.pairs widest.wave c.len.result
    c.put_totals-2.new.text.items c.last_wave-last.ensures c.len.ensures some
    (subst (λ ts. IsWidestBelow ts (length ts) widest.pairs widest.wave)
    c.as_slice.ensures.value c.first_widest-widest.ensures)
    (c.in_ok-put_totals-2.ensures
    ∙ ap (λ n. c.put_mean.new.text.items ++ totals_text last n) (c.len-3.ensures ∙ sym c.len.ensures)
    ∙ ap (λ t. t ++ totals_text last c.len.result) (c.in_ok-put_mean.ensures
    ∙ ap (λ n. c.put_widest.new.text.items ++ mean_text n last) (c.len-2.ensures ∙ sym c.len.ensures)
    ∙ ap (λ t. t ++ mean_text c.len.result last) (c.in_ok-put_widest.ensures
    ∙ ap (λ t. t ++ widest_text widest.pairs widest.wave) (c.in_ok-put_rows.ensures
    ∙ ap (λ ts. c.put_header.new.text.items ++ rows_text ts last) c.as_slice-2.ensures.value
    ∙ ap (λ t. t ++ rows_text tallies last) (c.in_ok-put_header.ensures
    ∙ ap (λ t. t ++ header_text) c.new-text.ensures.items)))))
