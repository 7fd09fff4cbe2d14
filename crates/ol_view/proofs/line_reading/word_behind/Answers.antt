use Rattle.ol_view.proofs.Rules.{is_behind}
use Rattle.ol_view.proofs.line_reading.word_behind.Goals as goal

pub returns-then-starts_with-clause-read : goal.returns-then-starts_with-clause-read
returns-then-starts_with-clause-read
    c = (is_behind c.args.text.now c.args.at c.args.word.now c.as_bytes.result.now
    c.starts_with.result c.requires c.as_bytes.ensures.value c.starts_with.ensures.value).0 c.if-starts_with.true

pub returns-else-starts_with-clause-read : goal.returns-else-starts_with-clause-read
returns-else-starts_with-clause-read
    c = (is_behind c.args.text.now c.args.at c.args.word.now c.as_bytes.result.now
    c.starts_with.result c.requires c.as_bytes.ensures.value c.starts_with.ensures.value).1 c.if-starts_with.false
