use Rattle.std.proofs.Common.{subst}
use Rattle.ol_term.specs.Trees as terms
use Rattle.ol_subjects.specs.Readied.{IsTermRead}
use Rattle.ol_decoding.specs.ToldTrees.{refused}
use Rattle.ol_decoding.proofs.Shown.{told_of}
use Rattle.ol_decoding.proofs.boehm_trees.tree.Goals as goal

pub of_net-requires : goal.of_net-requires
of_net-requires c =
    let r = subst (IsTermRead c.args.translation c.args.bytes.now) c.in-Term.is c.in_ok-text.ensures in
    record { few = r.few; ports = r.ready.same.free_ports }

pub returns-in-Refused : goal.returns-in-Refused
returns-in-Refused c = refused (subst (IsTermRead c.args.translation c.args.bytes.now) c.in-Refused.is c.in_ok-text.ensures)

pub returns-in_ok-answer-in-Term : goal.returns-in_ok-answer-in-Term
returns-in_ok-answer-in-Term c =
    let r = subst (IsTermRead c.args.translation c.args.bytes.now) c.in-Term.is c.in_ok-text.ensures in
    told_of c.args.bytes.now c.args.translation c.args.depth c.args.heads.most c.args.fuel.most
    (terms.tree_of c.in-Term.file.term) c.in-Term.file.names c.in-Term.net c.in_ok-answer-in-Term.answer.text.items
    c.in_ok-answer-in-Term.answer.end r c.in_ok-answer-in-Term.ensures
