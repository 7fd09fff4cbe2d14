use Rattle.std.proofs.Common.{◌≡◌, ◌-◌, length, refl, subst, arith}
use Rattle.ol_term.specs.Trees.{tree_of}
use Rattle.ol_readback.specs.Texts.{AreNamed}
use Rattle.ol_cli.specs.Cases.{given}
use Rattle.ol_cli.specs.Inside.{run_on}
use Rattle.ol_cli.proofs.TermJobs.{refused_cause, refused_undone}
use Rattle.ol_cli.proofs.commands.equal.read_side.Goals as goal

pub returns-in-Refused-clause-comes : goal.returns-in-Refused-clause-comes
returns-in-Refused-clause-comes g c = λ files of.
    let r = rw c.in-Refused.is at (c.in_ok-ready.ensures.comes files of) in
    let a = c.in-Refused.answer in (
      refused_undone c.args.numbers.translation _ c.args.name.now a.text.items a.status r.0,
      refused_cause (run_on c.args.numbers c.args.name.now) _ a.status a.text.items r.0,
      r.1,
    )

pub returns-in-None-clause-comes : goal.returns-in-None-clause-comes
returns-in-None-clause-comes g c = λ files of.
    let r = rw c.in-Net.is at (c.in_ok-ready.ensures.comes files of) in
    let t = tree_of c.in-Net.file.term in
    let names = c.in-Net.file.names in
    let reads = rw c.in-None.is at c.in_ok-last_tree-in-Net.ensures.reads in
    rw c.text_alone.ensures (
      (λ e. cc),
      given r.0 r.1.1 (
        t,
        names,
        r.1.2.term,
        (reads c.args.numbers.translation t names r.1.2.ready, c.in_ok-text-in-None.ensures),
      ),
      refl,
    )

pub returns-clause-comes : goal.returns-clause-comes
returns-clause-comes g c = λ files of.
    let r = rw c.in-Net.is at (c.in_ok-ready.ensures.comes files of) in
    let t = tree_of c.in-Net.file.term in
    let names = c.in-Net.file.names in
    let reads = rw c.in-Some.is at c.in_ok-last_tree-in-Net.ensures.reads in
    let named = rw c.in-Some.is at c.in_ok-last_tree-in-Net.ensures.names in
    let ports = r.1.2.ready.same.free_ports in
    let e : c.in-Net.net.free - 1 ≡ length names = omega (arith, ports) in (
      r.0,
      (
        r.1.0,
        r.1.1,
        record {
          term = t;
          file = r.1.2.term;
          read = reads c.args.numbers.translation t names r.1.2.ready;
        },
      ),
      subst (λ n. AreNamed n c.in-Some.tree) e named,
    )
