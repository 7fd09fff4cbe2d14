use Rattle.std.proofs.Common.{◌∙◌, refl}
use Rattle.ol_cli.proofs.MadeJobs.{made_comes, run_comes}
use Rattle.ol_cli.proofs.commands.generate.answer_gen.Goals as goal

pub returns-then-run : goal.returns-then-run
returns-then-run g c =
    let e = c.in_ok-answer.ensures in
    record {
      comes = λ s same. rw c.if-run.true
          (run_comes c.args.translation c.args.k s same c.in_ok-answer.answer _
          (c.deref.ensures.value ∙ c.in-Ok.ensures.made) e.answer e.closed);
    }

pub returns : goal.returns
returns g c = record {
  comes = λ s same.
      rw (c.if-run.false, c.text_alone.ensures)
      (made_comes c.args.translation c.args.k s same _ refl c.in-Ok.ensures.made refl);
}
