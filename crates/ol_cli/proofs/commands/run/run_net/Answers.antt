use Rattle.std.proofs.Common.{ap, ◌∙◌, ◌-◌, ◌*◌, arith, subst, ◌≡◌, length, ℕ, List}
use Rattle.ol_rules.specs.declared.journal.Counts.{Counts}
use Rattle.ol_rules.specs.Counting.{counts_of}
use Rattle.ol_term.specs.Trees.{tree_of}
use Rattle.ol_net.specs.Numbered.{net_of}
use Rattle.ol_readback.specs.ReadTrees.{IsTree}
use Rattle.ol_readback.specs.Texts.{AreNamed}
use Rattle.ol_cli.specs.Run.{journal_of}
use Rattle.ol_cli.specs.Texts.{answer_text}
use Rattle.ol_cli.proofs.Evaluated.{Told}
use Rattle.ol_cli.proofs.Worked.{spent_answer, spent_hands, done_ports, done_answer, done_hands}
use Rattle.ol_cli.proofs.commands.run.run_net.Goals as goal

pub returns-in_ok-text-in-Spent-clause-answer : goal.returns-in_ok-text-in-Spent-clause-answer
returns-in_ok-text-in-Spent-clause-answer g c =
    let d = rw c.in-Spent.is at c.in_ok-reduced.ensures.reduced in (
      spent_answer c.args.numbers.translation
          (tree_of c.args.file.now.term) c.args.file.now.names c.args.net.now c.requires.net.same
          c.args.numbers.fuel.most c.args.numbers.workers.count c.args.numbers.heads.most (journal_of c.in-Spent.words)
          c.in-Spent.words d c.is_net.ensures.net,
      c.in_ok-text-in-Spent.ensures,
    )

pub returns-in_ok-text-in-Spent-clause-closed : goal.returns-in_ok-text-in-Spent-clause-closed
returns-in_ok-text-in-Spent-clause-closed g c =
    let d = rw c.in-Spent.is at c.in_ok-reduced.ensures.reduced in
    spent_hands c.args.numbers.translation
    (tree_of c.args.file.now.term) c.args.file.now.names c.args.net.now c.requires.net.same
    c.args.numbers.fuel.most c.args.numbers.workers.count c.args.numbers.heads.most (journal_of c.in-Spent.words)
    c.in-Spent.words d c.in_ok-text-in-Spent.text.items c.once.ensures.once c.in_ok-text-in-Spent.ensures

pub read_back-requires-clause-root : goal.read_back-requires-clause-root
read_back-requires-clause-root g c =
    let e = rw c.in-Done.is at c.in_ok-reduced.ensures.reduced in
    let d = e.0 in
    let ports = done_ports c.args.numbers.translation
    (tree_of c.args.file.now.term) c.args.file.now.names c.args.net.now c.requires.net.same
    c.args.numbers.fuel.most c.args.numbers.workers.count c.args.numbers.heads.most (journal_of c.in-Done.words)
    c.in-Done.words c.in-Done.last d in
    omega (arith, ports)

pub tree_text-requires : goal.tree_text-requires
tree_text-requires g c =
    let e = rw c.in-Done.is at c.in_ok-reduced.ensures.reduced in
    let d = e.0 in
    let ports = done_ports c.args.numbers.translation
    (tree_of c.args.file.now.term) c.args.file.now.names c.args.net.now c.requires.net.same
    c.args.numbers.fuel.most c.args.numbers.workers.count c.args.numbers.heads.most (journal_of c.in-Done.words)
    c.in-Done.words c.in-Done.last d in
    let f : c.in-Done.last.free - 1 ≡ length c.args.file.now.names = omega (arith, ports) in
    record { free = subst (λ n. AreNamed n c.in_ok-tree-in-Done.tree) f c.in_ok-tree-in-Done.ensures.names }

pub returns-in_ok-text-in-Done-clause-answer : goal.returns-in_ok-text-in-Done-clause-answer
returns-in_ok-text-in-Done-clause-answer g c =
    let e = rw c.in-Done.is at c.in_ok-reduced.ensures.reduced in
    let d = e.0 in
    let tree = subst (λ n. IsTree (net_of c.in-Done.last) c.args.numbers.heads.most
    (2 * n) c.in_ok-tree-in-Done.tree) c.nodes.ensures.nodes c.in_ok-tree-in-Done.ensures.tree in
    let text : c.in_ok-text-in-Done.text.items ≡ answer_text c.in_ok-term-in-Done.term.items
    (counts_of (journal_of c.in-Done.words)) c.stuck.result =
    c.in_ok-text-in-Done.ensures ∙ ap (λ (x : List ℕ).
    answer_text x c.in-Done.counts c.stuck.result) c.deref.ensures.value
    ∙ ap (λ (x : Counts). answer_text c.in_ok-term-in-Done.term.items x c.stuck.result) e.1 in
    let told : Told c.args.file.now.names c.args.numbers.heads.most c.stuck.result (journal_of c.in-Done.words)
    c.in-Done.last c.in_ok-tree-in-Done.tree c.in_ok-term-in-Done.term.items
    c.in_ok-text-in-Done.text.items = record {
      is_net = c.is_net-in-Done.ensures.net;
      counted = c.stuck.ensures.stuck;
      read = tree;
      shown = c.in_ok-term-in-Done.ensures.text;
      written = text;
    } in
    done_answer c.args.numbers.translation
    (tree_of c.args.file.now.term) c.args.file.now.names c.args.net.now c.requires.net.same
    c.args.numbers.fuel.most c.args.numbers.workers.count c.args.numbers.heads.most (journal_of c.in-Done.words)
    c.in-Done.words c.in-Done.last d c.stuck.result c.in_ok-tree-in-Done.tree
    c.in_ok-term-in-Done.term.items c.in_ok-text-in-Done.text.items told c.is_net.ensures.net

pub returns-in_ok-text-in-Done-clause-closed : goal.returns-in_ok-text-in-Done-clause-closed
returns-in_ok-text-in-Done-clause-closed g c =
    let e = rw c.in-Done.is at c.in_ok-reduced.ensures.reduced in
    let d = e.0 in
    let tree = subst (λ n. IsTree (net_of c.in-Done.last) c.args.numbers.heads.most
    (2 * n) c.in_ok-tree-in-Done.tree) c.nodes.ensures.nodes c.in_ok-tree-in-Done.ensures.tree in
    let text : c.in_ok-text-in-Done.text.items ≡ answer_text c.in_ok-term-in-Done.term.items
    (counts_of (journal_of c.in-Done.words)) c.stuck.result =
    c.in_ok-text-in-Done.ensures ∙ ap (λ (x : List ℕ).
    answer_text x c.in-Done.counts c.stuck.result) c.deref.ensures.value
    ∙ ap (λ (x : Counts). answer_text c.in_ok-term-in-Done.term.items x c.stuck.result) e.1 in
    let told : Told c.args.file.now.names c.args.numbers.heads.most c.stuck.result (journal_of c.in-Done.words)
    c.in-Done.last c.in_ok-tree-in-Done.tree c.in_ok-term-in-Done.term.items
    c.in_ok-text-in-Done.text.items = record {
      is_net = c.is_net-in-Done.ensures.net;
      counted = c.stuck.ensures.stuck;
      read = tree;
      shown = c.in_ok-term-in-Done.ensures.text;
      written = text;
    } in
    done_hands c.args.numbers.translation
    (tree_of c.args.file.now.term) c.args.file.now.names c.args.net.now c.requires.net.same
    c.args.numbers.fuel.most c.args.numbers.workers.count c.args.numbers.heads.most (journal_of c.in-Done.words)
    c.in-Done.words c.in-Done.last d c.stuck.result c.in_ok-tree-in-Done.tree
    c.in_ok-term-in-Done.term.items c.in_ok-text-in-Done.text.items told c.once-in-Done.ensures.once
