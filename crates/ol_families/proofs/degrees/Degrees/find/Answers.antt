use Rattle.std.proofs.Common.{◌≡◌, arith}
use Rattle.ol_families.specs.Tables.{rows_of}
use Rattle.ol_families.proofs.Alike.{length_rows}
use Rattle.ol_families.proofs.Rows.{found_by}
use Rattle.ol_families.proofs.degrees.Degrees.find.Goals as goal

pub place_of-requires : goal.place_of-requires
place_of-requires c =
    let m = length_rows c.self.inside.rows.items in
    let f = c.self.invariant.few in
    record { few = omega arith }

pub returns : goal.returns
returns c =
    let v : c.args.self.now ≡ rows_of c.self.inside.rows.items = cc in
    found_by c.args.self.now (rows_of c.self.inside.rows.items) v c.self.invariant c.args.row.now c.requires.known
    c.place_of.result c.place_of.ensures
