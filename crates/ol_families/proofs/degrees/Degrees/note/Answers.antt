use Rattle.std.proofs.Common.{◌≡◌, ◌++◌, ◌∷◌, [], length, ap, ◌∙◌, arith}
use Rattle.std.proofs.lemmas.Grind.{common_steps}
use Rattle.ol_families.specs.Tables.{rows_of}
use Rattle.ol_families.proofs.Alike.{length_rows, rows_push}
use Rattle.ol_families.proofs.Rows.{table_after, noted_new}
use Rattle.ol_families.proofs.degrees.Degrees.note.Goals as goal

pub invariant_of-self-2 : goal.invariant_of-self-2
invariant_of-self-2 c =
    let v : c.args.self.now ≡ rows_of c.self.inside.rows.items = cc in
    let p : c.push.new.self.items ≡ c.self.inside.rows.items ++ c.args.row ∷ [] = grind (arith, common_steps) in
    let e : rows_of c.push.new.self.items ≡ rows_of c.self.inside.rows.items ++ c.args.row.items ∷ [] =
    ap rows_of p ∙ rows_push c.self.inside.rows.items c.args.row in
    let n : c.len-number.result ≡ length c.self.inside.rows.items = grind (arith, common_steps) in
    let m = length_rows c.self.inside.rows.items in
    let b = c.if-number.false in
    table_after c.args.self.now (rows_of c.self.inside.rows.items) (rows_of c.push.new.self.items) c.args.row.items
    c.deref.result.now c.find.result v c.self.invariant c.deref.ensures.value c.find.ensures c.requires.known
    c.in_default.is e (omega arith)

pub returns : goal.returns
returns c =
    let v : c.args.self.now ≡ rows_of c.self.inside.rows.items = cc in
    let p : c.push.new.self.items ≡ c.self.inside.rows.items ++ c.args.row ∷ [] = grind (arith, common_steps) in
    let e : rows_of c.push.new.self.items ≡ rows_of c.self.inside.rows.items ++ c.args.row.items ∷ [] =
    ap rows_of p ∙ rows_push c.self.inside.rows.items c.args.row in
    let n : c.len-number.result ≡ length c.self.inside.rows.items = grind (arith, common_steps) in
    let m = length_rows c.self.inside.rows.items in
    noted_new c.args.self.now (rows_of c.self.inside.rows.items) (rows_of c.push.new.self.items) c.args.row.items
    c.deref.result.now c.find.result v c.self.invariant c.deref.ensures.value c.find.ensures c.len-number.result
    c.in_default.is e (omega arith)
