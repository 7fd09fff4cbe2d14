use Rattle.ol_term.specs.Trees.{tree_of}
use Rattle.ol_law_confluence.proofs.PrintedTrees.{never_differs}
use Rattle.ol_cli.proofs.VerdictTexts.{by_verdict, says}
use Rattle.ol_cli.proofs.commands.certify.certify_net.Goals as goal

pub returns-in_ok-text-in-None-clause-answer : goal.returns-in_ok-text-in-None-clause-answer
returns-in_ok-text-in-None-clause-answer g c =
    let last = rw c.in-None.is at c.in_ok-last_tree.ensures.reads in
    rw c.text_alone.ensures (
      last c.args.numbers.translation
          (tree_of c.args.file.now.term) c.args.file.now.names c.requires.net,
      c.in_ok-text-in-None.ensures,
    )

pub returns-in_ok-text-in-Some-clause-answer : goal.returns-in_ok-text-in-Some-clause-answer
returns-in_ok-text-in-Some-clause-answer g c =
    let n = c.args.numbers in
    let t = tree_of c.args.file.now.term in
    let names = c.args.file.now.names in
    let reads = rw c.in-Some.is at c.in_ok-last_tree.ensures.reads in
    let last = reads n.translation t names c.requires.net in
    rw c.text_alone-in-Some.ensures (record {
      tree = c.in-Some.tree;
      last = last;
      written = by_verdict t c.in-Some.tree c.args.steps c.in_ok-text-in-Some.text.items
          (λ road h. never_differs
          (says n.translation t names n.fuel.most n.heads.most c.in-Some.tree c.requires.term.named last) h)
          c.in_ok-verdict-in-Some.verdict c.in_ok-verdict-in-Some.ensures c.in_ok-text-in-Some.ensures;
    })
