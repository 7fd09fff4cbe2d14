use Rattle.ol_explain.proofs.Breaks.{no_header}
use Rattle.ol_explain.proofs.wanting.header_begins.Goals as goal

pub returns-else-word_begins-clause-not : goal.returns-else-word_begins-clause-not
returns-else-word_begins-clause-not c f h = no_header c.args.read.now
    (c.word_begins.ensures.not c.if-word_begins.false) (c.word_begins-else-word_begins.ensures.not f) h
