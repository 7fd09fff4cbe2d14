use Rattle.std.proofs.Common.{◌≡◌}
use Rattle.ol_term.proofs.Indexing.{names, none_there}
use Rattle.ol_term.proofs.name_list.Names.find.Goals as goal

pub returns-clause-none : goal.returns-clause-none
returns-clause-none c =
    let v : c.args.self.now ≡ names c.self.inside.rows.items = cc in
    none_there c.args.self.now (names c.self.inside.rows.items) c.self.inside.index.entries
    c.args.name.now c.found_in.result v c.self.invariant c.found_in.ensures
