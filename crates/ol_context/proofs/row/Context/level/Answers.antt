use Rattle.std.proofs.Common.{sym}
use Rattle.std.proofs.lemmas.Option.{slice_get-get_or}
use Rattle.ol_context.proofs.ValueLists.{held_at, level_is}
use Rattle.ol_context.proofs.row.Context.level.Goals as goal

pub returns-clause-held : goal.returns-clause-held
returns-clause-held c = rw (c.level_or.ensures, c.self.view_is)
    (held_at c.args.values.now c.args.self.now c.args.k c.empty.result c.requires c.empty.ensures.held)

pub returns-clause-is : goal.returns-clause-is
returns-clause-is c = rw (c.level_or.ensures, c.self.view_is)
    (sym (level_is c.args.values.now c.args.self.now c.args.k c.empty.result c.empty.ensures.is))

pub returns-clause-within : goal.returns-clause-within
returns-clause-within c = λ b. rw (c.level_or.ensures, c.self.view_is)
    (slice_get-get_or c.args.self.now c.args.k c.empty.result b)
