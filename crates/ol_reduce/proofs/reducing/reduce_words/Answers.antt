use Rattle.ol_reduce.proofs.Answered.{words_tell}
use Rattle.ol_reduce.proofs.reducing.reduce_words.Goals as goal

pub returns : goal.returns
returns g c =
    let M = c.runs.ensures.some.0 in
    let after = c.runs.ensures.some.1 in
    let told = words_tell c.args.net.now c.args.fuel.most c.args.workers.count c.in_ok-words.words c.is_net.ensures.net
    (c.in_ok-words.ensures.parts, c.in_ok-words.ensures.start, c.in_ok-words.ensures.seats) M after
    c.one_thread_agrees.ensures.done c.one_thread_agrees.ensures.spent c.one_thread_agrees.ensures.exists
    c.in_ok-words.end (λ q. c.settled.ensures.complete (c.in_ok-words.ensures.quiet q) M after)
    (λ s. (
      c.over.ensures.active (c.in_ok-words.ensures.spent s) M after,
      c.over.ensures.fuel (c.in_ok-words.ensures.spent s),
    )) in
    record { quiet = told.0; spent = told.1; ends = told.2 }
