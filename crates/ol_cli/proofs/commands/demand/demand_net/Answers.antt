use Rattle.std.proofs.Common.{◌≡◌, ◌+◌, ◌-◌, ◌∙◌, sym, ap, subst, arith, length, ℕ, List}
use Rattle.ol_term.specs.Trees.{tree_of}
use Rattle.ol_net.specs.Graph.{Graph}
use Rattle.ol_net.specs.Nets.{SameNet}
use Rattle.ol_net.specs.Numbered.{net_of}
use Rattle.ol_rules.specs.declared.journal.Counts.{Counts}
use Rattle.ol_rules.specs.Counting.{counts_of}
use Rattle.ol_translate.specs.Translation.{translation_of}
use Rattle.ol_readback.specs.Texts.{AreNamed}
use Rattle.ol_cli.specs.Texts.{answer_text}
use Rattle.ol_cli.proofs.DemandRuns.{own_demands, demand_spent}
use Rattle.ol_cli.proofs.commands.demand.demand_net.Goals as goal

pub returns-in-Spent-clause-answer : goal.returns-in-Spent-clause-answer
returns-in-Spent-clause-answer c =
    let same = subst (λ (g : Graph). SameNet (net_of g)
    (translation_of c.args.translation (tree_of c.args.file.now.term)
    (length c.args.file.now.names))) (sym c.in_ok-last.ensures.copy) c.requires.net.same in
    let d = rw c.in-Spent.is at c.in_ok-demanded.ensures.answer in
    rw c.text_alone.ensures (
      demand_spent c.args.translation
          (tree_of c.args.file.now.term) c.args.file.now.names c.in_ok-last.last same c.args.fuel.most
          c.args.heads.most c.demand.new.net c.in-Spent.journal d.0 d.1,
      c.in_ok-text-in-Spent.ensures,
    )

pub tree_text-requires : goal.tree_text-requires
tree_text-requires c =
    let same = subst (λ (g : Graph). SameNet (net_of g)
    (translation_of c.args.translation (tree_of c.args.file.now.term)
    (length c.args.file.now.names))) (sym c.in_ok-last.ensures.copy) c.requires.net.same in
    let ports : c.in_ok-last.last.free ≡ 1 + length c.args.file.now.names = same.free_ports in
    let e : c.in_ok-last.last.free - 1 ≡ length c.args.file.now.names = omega (arith, ports) in
    let named = rw c.in-Done.is at c.in_ok-demanded.ensures.names in
    record { free = subst (λ n. AreNamed n c.in-Done.tree) e named }

pub returns-clause-answer : goal.returns-clause-answer
returns-clause-answer c =
    let same = subst (λ (g : Graph). SameNet (net_of g)
    (translation_of c.args.translation (tree_of c.args.file.now.term)
    (length c.args.file.now.names))) (sym c.in_ok-last.ensures.copy) c.requires.net.same in
    let d = rw c.in-Done.is at c.in_ok-demanded.ensures.answer in
    let text : c.in_ok-text-in-Done.text.items ≡ answer_text c.in_ok-term-in-Done.term.items
    (counts_of c.in-Done.journal) c.stuck.result =
    c.in_ok-text-in-Done.ensures ∙ ap (λ (x : List ℕ).
    answer_text x c.counts.result c.stuck.result) c.deref.ensures.value
    ∙ ap (λ (x : Counts). answer_text c.in_ok-term-in-Done.term.items x c.stuck.result) c.counts.ensures in
    rw c.text_alone-in-Done.ensures
    (own_demands c.args.translation
    (tree_of c.args.file.now.term) c.args.file.now.names c.in_ok-last.last same c.args.fuel.most
    c.args.heads.most c.demand.new.net c.in-Done.journal
    c.in-Done.tree c.in_ok-term-in-Done.term.items
    c.in_ok-text-in-Done.text.items c.stuck.result d.0 d.1 c.is_net-in-Done.ensures.net
    c.stuck.ensures.stuck c.in_ok-term-in-Done.ensures.text text)
