use Rattle.std.proofs.Common.{◌≡◌, [], ◌∷◌, ◌++◌, length, sym, ap, ◌∙◌, arith}
use Rattle.std.proofs.lemmas.Grind.{common_steps}
use Rattle.ol_term.proofs.Indexing.{names, names_length, names_more, known_place, not_past, new_place, one_more}
use Rattle.ol_term.proofs.name_list.Names.add.Goals as goal

pub returns-in-Some-clause-number : goal.returns-in-Some-clause-number
returns-in-Some-clause-number c =
    let v : c.args.self.now ≡ names c.self.inside.rows.items = cc in
    known_place c.args.self.now (names c.self.inside.rows.items) c.self.inside.index.entries
    c.args.name.now c.in-Some.k v c.self.invariant (sym c.found_in.ensures ∙ c.in-Some.is)

pub returns-in-Some-clause-last : goal.returns-in-Some-clause-last
returns-in-Some-clause-last c = λ h.
    let v : c.args.self.now ≡ names c.self.inside.rows.items = cc in
    absurd (not_past c.args.self.now (names c.self.inside.rows.items) c.self.inside.index.entries
    c.args.name.now c.in-Some.k v c.self.invariant (sym c.found_in.ensures ∙ c.in-Some.is) h)

pub invariant_of-self-in-Ok : goal.invariant_of-self-in-Ok
invariant_of-self-in-Ok c =
    let v : c.args.self.now ≡ names c.self.inside.rows.items = cc in
    let l = names_length c.self.inside.rows.items in
    let lv = ap length v in
    let e : c.push.new.self.items ≡ c.self.inside.rows.items ++ c.in_ok-row.row ∷ [] = grind (arith, common_steps) in
    let is : c.in_ok-row.row.items ≡ c.args.name.now = grind (arith, common_steps) in
    let key : c.in_ok-key.key.items ≡ c.args.name.now = grind (arith, common_steps) in
    let n : c.len-number.result ≡ length c.self.inside.rows.items = grind (arith, common_steps) in
    let h = c.requires in
    one_more (names c.self.inside.rows.items)
    (names c.push.new.self.items) c.self.inside.index.entries c.put.new.index.entries
    c.in_ok-key.key c.args.name.now c.len-number.result c.self.invariant
    (sym c.found_in.ensures ∙ c.in_default.is) key (n ∙ sym l) (omega arith)
    (names_more c.self.inside.rows.items c.push.new.self.items c.in_ok-row.row c.args.name.now e is) c.in-Ok.ensures.put

pub returns-in-Ok-clause-number : goal.returns-in-Ok-clause-number
returns-in-Ok-clause-number c =
    let e : c.push.new.self.items ≡ c.self.inside.rows.items ++ c.in_ok-row.row ∷ [] = grind (arith, common_steps) in
    let is : c.in_ok-row.row.items ≡ c.args.name.now = grind (arith, common_steps) in
    let n : c.len-number.result ≡ length c.self.inside.rows.items = grind (arith, common_steps) in
    new_place (names c.self.inside.rows.items)
    (names c.push.new.self.items) c.self.inside.index.entries c.args.name.now
    c.len-number.result c.self.invariant (sym c.found_in.ensures ∙ c.in_default.is)
    (n ∙ sym (names_length c.self.inside.rows.items))
    (names_more c.self.inside.rows.items c.push.new.self.items c.in_ok-row.row c.args.name.now e is)
