use Rattle.std.proofs.Common.{◌≡◌, subst, arith}
use Rattle.ol_orders.specs.Replays.{net_here}
use Rattle.ol_explain.specs.Explained.{IsGone, IsOfBefore, Decides}
use Rattle.ol_explain.specs.Explained as explained
use Rattle.ol_explain.proofs.WhyNot.{is_of_before, went}
use Rattle.ol_explain.proofs.causes.away.Goals as goal
use Rattle.ol_explain.proofs.causes.away.Goals.{in-Born+else-ticket-len, in_default}

pub returns-then-ticket-len : goal.returns-then-ticket-len
returns-then-ticket-len c = λ form net waves e wave d.
    explained.not_born (subst (λ x. Decides (net_here c.args.replay.now) e x) c.in-Born.is d)
    (let l = c.len.ensures in let t = c.if-ticket-len.true in omega arith)

pub returns-in-Some : goal.returns-in-Some
returns-in-Some c = λ form net waves e wave d.
    let is : c.args.name ≡ c.match-name.name = elim c.match-name.branch [
      | in-Born+else-ticket-len w ↦ (let q = w.name-is in let p = w.in-Born.is in cc)
      | in_default w ↦ (let q = w.name-is in cc)
    ] in
    went form net c.args.replay.now.run.journal waves (net_here c.args.replay.now) e wave c.match-name.name c.in-Some.m
    (subst (λ x. Decides (net_here c.args.replay.now) e x) is d)
    (subst (λ x. IsGone (net_here c.args.replay.now) x) is c.requires.gone) c.in-Some.ensures.named

pub returns-in-None : goal.returns-in-None
returns-in-None c = λ form net waves e wave d.
    let is : c.args.name ≡ c.match-name.name = elim c.match-name.branch [
      | in-Born+else-ticket-len w ↦ (let q = w.name-is in let p = w.in-Born.is in cc)
      | in_default w ↦ (let q = w.name-is in cc)
    ] in
    let before : IsOfBefore c.args.replay.now.run.journal c.args.name = elim c.match-name.branch [
      | in-Born+else-ticket-len w ↦ is_of_before c.args.replay.now.run.journal c.args.name (λ ticket place e.
          let p = w.in-Born.is in
          let q : ticket ≡ w.in-Born.ticket = cc in
          let l = w.len.ensures in
          let t = w.if-ticket-len.false in
          omega arith)
      | in_default w ↦ is_of_before c.args.replay.now.run.journal c.args.name (λ ticket place e.
          absurd (w.in_default.not-Born ticket place e))
    ] in
    explained.never (subst (λ x. Decides (net_here c.args.replay.now) e x) is d)
    (subst (λ x. IsGone (net_here c.args.replay.now) x) is c.requires.gone)
    (subst (λ x. IsOfBefore c.args.replay.now.run.journal x) is before) c.in-None.ensures.none
