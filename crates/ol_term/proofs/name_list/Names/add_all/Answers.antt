use Rattle.std.proofs.Common.{◌≡◌, suc, ◌+◌, take, sym, ap, ◌∙◌, arith}
use Rattle.ol_term.specs.NameLists.{position_of, put_unless, with_names}
use Rattle.ol_term.proofs.NamePlaces.{names_on}
use Rattle.ol_term.proofs.name_list.Names.add_all.Goals as goal

pub loop-k-preserved : goal.loop-k-preserved
loop-k-preserved c =
    let names = c.args.names.now in
    let old = c.args.self.now in
    let k = c.loop-k.k in
    let name = c.in-Some.name.now in
    c.in_ok-add_name.ensures.added
    ∙ ap (λ table. put_unless (position_of name table) table name) c.loop-k.invariant
    ∙ names_on names old k name (sym c.in-Some.ensures.name)
    ∙ ap (λ k. with_names old (take k names)) (let q : suc k ≡ k + 1 = omega arith in q)
