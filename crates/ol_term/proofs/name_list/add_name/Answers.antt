use Rattle.ol_term.proofs.NamePlaces.{one_name_more}
use Rattle.ol_term.proofs.name_list.add_name.Goals as goal

pub returns-clause-added : goal.returns-clause-added
returns-clause-added c =
    let e = c.in_ok-add.ensures in
    one_name_more c.args.name.now c.args.list.now c.add.new.self c.in_ok-add.field-0 e.number e.known e.last
