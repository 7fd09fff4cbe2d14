use Rattle.std.proofs.Common.{ap, ◌∙◌, length, [], arith}
use Rattle.ol_term.specs.Trees.{depth, tree_of, is_below, is_named_below}
use Rattle.ol_parse.specs.Steps.{whole}
use Rattle.ol_parse.specs.Numbered.{names_of}
use Rattle.ol_parse.proofs.Once.{whole_numbered}
use Rattle.ol_parse.proofs.Files.{whole_bound, whole_named, same_depth}
use Rattle.ol_parse.proofs.numbers.number_term.Goals as goal

pub returns-clause-tree : goal.returns-clause-tree
returns-clause-tree c = (whole_numbered
    (whole c.args.steps.now) c.new-binders.result.items c.new-names.result c.resolve.new.names
    (tree_of c.in_ok-term.term) c.new-binders.ensures.items c.new-names.ensures
    c.in_ok-term.ensures.names c.in_ok-term.ensures.numbered).1

pub invariant_of-result : goal.invariant_of-result
invariant_of-result c =
    let (n, e) = whole_numbered (whole c.args.steps.now) c.new-binders.result.items
    c.new-names.result c.resolve.new.names
    (tree_of c.in_ok-term.term) c.new-binders.ensures.items c.new-names.ensures
    c.in_ok-term.ensures.names c.in_ok-term.ensures.numbered in
    record {
      bound = ap (is_below 0) e ∙ whole_bound (whole c.args.steps.now);
      named = ap (λ l. is_named_below (length l) (tree_of c.in_ok-term.term)) n
          ∙ ap (is_named_below (length (names_of (whole c.args.steps.now)))) e ∙ whole_named (whole c.args.steps.now);
    }

pub returns-clause-shallow : goal.returns-clause-shallow
returns-clause-shallow c =
    let (n, e) = whole_numbered (whole c.args.steps.now) c.new-binders.result.items
    c.new-names.result c.resolve.new.names
    (tree_of c.in_ok-term.term) c.new-binders.ensures.items c.new-names.ensures
    c.in_ok-term.ensures.names c.in_ok-term.ensures.numbered in
    let d = ap depth e ∙ same_depth (whole c.args.steps.now) (names_of (whole c.args.steps.now)) [] in
    let h = c.requires.shallow in
    omega arith

pub returns-clause-names : goal.returns-clause-names
returns-clause-names c = (whole_numbered
    (whole c.args.steps.now) c.new-binders.result.items c.new-names.result c.resolve.new.names
    (tree_of c.in_ok-term.term) c.new-binders.ensures.items c.new-names.ensures
    c.in_ok-term.ensures.names c.in_ok-term.ensures.numbered).0
