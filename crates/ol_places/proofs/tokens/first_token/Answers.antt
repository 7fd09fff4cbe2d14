use Rattle.std.proofs.Common.{◌<◌, length, drop, sym, ap, ◌∙◌, eqb-true, arith}
use Rattle.ol_places.proofs.Firsts.{none_first, some_first}
use Rattle.ol_places.proofs.tokens.first_token.Goals as goal

pub returns-then-is_empty-clause-first : goal.returns-then-is_empty-clause-first
returns-then-is_empty-clause-first c = none_first c.args.rest.now c.split_at.result.1.now
    (c.split_at.ensures.back ∙ ap (λ n. drop n c.args.rest.now) c.gap_length-gap.ensures.length)
    (eqb-true (length c.split_at.result.1.now) 0 (sym c.is_empty.ensures ∙ c.if-is_empty.true))

pub returns-clause-first : goal.returns-clause-first
returns-clause-first c =
    let some = c.token_length-length.ensures.some in
    let within = c.token_length-length.ensures.within in
    let positive : 0 < length c.split_at.result.1.now = omega arith in
    some_first c.args.rest.now c.split_at.result.1.now c.split_at-2.result.0.now c.gap_length-gap.result
    c.token_length-length.result c.kind_of-kind.result c.gap_length-gap.ensures.length c.split_at.ensures.back c.split_at-2.ensures.front
    c.token_length-length.ensures.exact c.kind_of-kind.ensures positive
