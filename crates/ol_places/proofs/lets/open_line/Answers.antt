use Rattle.std.proofs.Common.{◌++◌, codes, ap, ◌∙◌}
use Rattle.ol_places.specs.Places.{line_and_column}
use Rattle.ol_places.proofs.lets.open_line.Goals as goal

pub returns : goal.returns
returns c =
    let start = c.line_of-start.result.0 in
    record {
      start = start;
      end = c.line_of-start.result.1;
      line = c.line_of-start.ensures;
      is = c.in_ok-put-2.ensures ∙ ap (λ t. t ++ codes "\n") (c.in_ok-put_line_and_column.ensures
          ∙ ap (λ t. t ++ line_and_column c.args.bytes.now c.args.at start)
          (c.in_ok-put.ensures ∙ ap (λ t. t ++ codes "no in yet: let at ") c.new-text.ensures.items));
    }
