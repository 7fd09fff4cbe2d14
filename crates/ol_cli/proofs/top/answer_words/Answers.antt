use Rattle.std.proofs.lemmas.Result.{IfOk-weaker}
use Rattle.ol_words.specs.Texts.{texts_of}
use Rattle.ol_cli.proofs.Called.{words_come}
use Rattle.ol_cli.proofs.Within.{job_within}
use Rattle.ol_cli.proofs.FirstAlone.{of_own_job}
use Rattle.ol_cli.proofs.top.answer_words.Goals as goal

pub answer_job-requires-clause-within : goal.answer_job-requires-clause-within
answer_job-requires-clause-within g c = λ κs alive.
    job_within (texts_of c.args.words.now.items) c.in-Ok.job c.in-Ok.ensures.job

pub returns-in-Ok-clause-comes : goal.returns-in-Ok-clause-comes
returns-in-Ok-clause-comes g c = λ files of.
    IfOk-weaker c.answer_job.result _ _ (λ a h. words_come c.args.words.now.items _ c.in-Ok.job a c.in-Ok.ensures.job h)
    (c.answer_job.ensures.comes files of)

pub returns-in-Ok-clause-first_alone : goal.returns-in-Ok-clause-first_alone
returns-in-Ok-clause-first_alone g c = λ files of job j refused.
    c.answer_job.ensures.first_alone files of
    (of_own_job c.args.words.now.items c.in-Ok.job job (files 0) c.in-Ok.ensures.job j refused)
