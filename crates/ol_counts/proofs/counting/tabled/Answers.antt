use Rattle.std.proofs.Common.{ap, ◌∙◌}
use Rattle.ol_counts.specs.Objects.{text_in}
use Rattle.ol_counts.specs.Tables.{end_of}
use Rattle.ol_counts.proofs.counting.tabled.Goals as goal

pub returns : goal.returns
returns c = record {
  them = c.in_ok-shown.shown.items;
  are = c.in_ok-shown.ensures;
  text_is = c.in_ok-text.ensures ∙ ap (text_in c.args.layout) c.deref.ensures.value;
  end_is = c.end_of-end.ensures ∙ ap end_of c.deref-2.ensures.value;
}
