use Rattle.std.proofs.Common.{refl, subst}
use Rattle.std.specs.Prelude.{◌≡◌, []}
use Rattle.ol_limits.specs.Limits.{plain_fuel, plain_heads, plain_workers}
use Rattle.ol_term.specs.Trees.{tree_of}
use Rattle.ol_term.specs.declared.translations.Translation.{Translation}
use Rattle.ol_words.specs.declared.jobs.Job.{Job}
use Rattle.ol_words.specs.declared.jobs.Job.TheVariants as jobs
use Rattle.ol_cli.specs.declared.numbers.RunNumbers.{RunNumbers}
use Rattle.ol_cli.specs.Inside.{AnswersTerm, run_by}
use Rattle.ol_cli.specs.Generate.{plain_run}
use Rattle.ol_cli.proofs.Handing.{file_hands}
use Rattle.ol_cli.proofs.Readied.{refuses_answer, refuses_hands, term_answer}
use Rattle.ol_cli.proofs.commands.generate.run_made.Goals as goal

-- the job of the numbers without options
job_of : (n : RunNumbers) (tr : Translation) → n.translation ≡ tr → n.workers.count ≡ plain_workers →
    n.fuel.most ≡ plain_fuel → n.heads.most ≡ plain_heads →
    ◌≡◌ {A = Job} (run_by n) (jobs.Run tr plain_workers plain_fuel plain_heads [])
job_of n tr translation workers fuel heads = rw (translation, workers, fuel, heads) refl

pub returns-in_ok-answer-in-Net-clause-answer : goal.returns-in_ok-answer-in-Net-clause-answer
returns-in_ok-answer-in-Net-clause-answer g c =
    let ready = rw c.in-Net.is at c.in_ok-ready.ensures.ready in
    let a = c.in_ok-answer-in-Net.answer in
    let n = c.plain.ensures in
    term_answer (plain_run c.args.translation) c.args.bytes.now
    (tree_of c.in-Net.file.term) c.in-Net.file.names ready.term a.status a.text.items
    (subst (λ job. AnswersTerm job c.in-Net.file a.status a.text.items)
    (job_of c.plain.result c.args.translation n.translation n.workers n.fuel n.heads)
    c.in_ok-answer-in-Net.ensures.answer)

pub returns-in_ok-answer-in-Net-clause-closed : goal.returns-in_ok-answer-in-Net-clause-closed
returns-in_ok-answer-in-Net-clause-closed g c =
    let ready = rw c.in-Net.is at c.in_ok-ready.ensures.ready in
    let a = c.in_ok-answer-in-Net.answer in
    file_hands (plain_run c.args.translation) c.args.bytes.now
    (tree_of c.in-Net.file.term) c.in-Net.file.names ready.term a.status a.text.items a.closed
    (let n = c.plain.ensures in
    rw (n.translation, n.workers, n.fuel, n.heads) at c.in_ok-answer-in-Net.ensures.closed)

pub returns-in-Refused-clause-answer : goal.returns-in-Refused-clause-answer
returns-in-Refused-clause-answer g c =
    let refused = rw c.in-Refused.is at c.in_ok-ready.ensures.ready in
    let a = c.in-Refused.answer in
    refuses_answer (plain_run c.args.translation) c.args.bytes.now a.status a.text.items refused.0

pub returns-in-Refused-clause-closed : goal.returns-in-Refused-clause-closed
returns-in-Refused-clause-closed g c =
    let refused = rw c.in-Refused.is at c.in_ok-ready.ensures.ready in
    let a = c.in-Refused.answer in
    refuses_hands c.args.translation c.args.bytes.now a.status a.text.items a.closed _ refused.0 refused.1
