use Rattle.std.proofs.Common.{Some, subst}
use Rattle.ol_explain.specs.Fields.{IsFault, broken}
use Rattle.ol_explain.proofs.Cuts.{cut_of, unordered_of}
use Rattle.ol_explain.proofs.wanting.bad_line.Goals as goal

pub returns-in_ok-answer-in-Cut-clause-text : goal.returns-in_ok-answer-in-Cut-clause-text
returns-in_ok-answer-in-Cut-clause-text c =
    let f = subst (λ f. IsFault c.args.form c.args.text.now c.args.at f) c.in-Cut.is c.fault_of.ensures in
    broken (c.in_ok-answer-in-Cut.ensures.text (Some c.args.form) c.args.at
    (cut_of c.args.form c.args.text.now c.args.at c.in-Cut.field c.in-Cut.end c.in-Cut.start f))

pub returns-in_ok-answer-in-Unordered-clause-text : goal.returns-in_ok-answer-in-Unordered-clause-text
returns-in_ok-answer-in-Unordered-clause-text c =
    let f = subst (λ f. IsFault c.args.form c.args.text.now c.args.at f) c.in-Unordered.is c.fault_of.ensures in
    unordered_of c.args.form c.args.text.now c.args.at c.in-Unordered.first c.in-Unordered.start c.args.line
    c.in_ok-answer-in-Unordered.answer.text.items c.requires.none f c.in_ok-answer-in-Unordered.ensures.text

pub cut-requires : goal.cut-requires
cut-requires c =
    let f = subst (λ f. IsFault c.args.form c.args.text.now c.args.at f) c.in-Cut.is c.fault_of.ensures in
    (cut_of c.args.form c.args.text.now c.args.at c.in-Cut.field c.in-Cut.end c.in-Cut.start f).within
