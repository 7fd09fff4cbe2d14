use Rattle.std.proofs.Common.{◌+◌, length, inl, inr, refl, subst}
use Rattle.ol_explain.specs.Followed.{Stops}
use Rattle.ol_orders.specs.Replays.{net_here}
use Rattle.ol_explain.proofs.Told.{at_header, at_no_line, at_other}
use Rattle.ol_explain.proofs.Reasoned.{whole, full}
use Rattle.ol_explain.proofs.tallying.count_rules.Goals as goal

pub returns-then-followed-journal : goal.returns-then-followed-journal
returns-then-followed-journal c =
    let f = c.in_ok-followed.followed in
    let s = subst (λ s. Stops c.args.net.now c.args.journal.now 8000000 f.replay f.at s)
    c.in-Good.is c.in_ok-followed.ensures.stops in
    (8000002, inl (full c.args.net.now c.args.journal.now 8000000 f.replay f.at s c.if-followed-journal.true refl))

pub returns-in-Good : goal.returns-in-Good
returns-in-Good c =
    let f = c.in_ok-followed.followed in
    let s = subst (λ s. Stops c.args.net.now c.args.journal.now 8000000 f.replay f.at s)
    c.in-Good.is c.in_ok-followed.ensures.stops in
    let t = whole c.args.net.now c.args.journal.now 8000000 f.replay f.at s c.if-followed-journal.false in
    record {
      form = t.form;
      entries = f.replay.run.journal;
      waves = t.waves;
      last = net_here f.replay;
      begins = t.begins;
      counts_are = c.counts-told.ensures;
    }

pub returns-in-NoHeader : goal.returns-in-NoHeader
returns-in-NoHeader c =
    let f = c.in_ok-followed.followed in
    let s = subst (λ s. Stops c.args.net.now c.args.journal.now 8000000 f.replay f.at s)
    c.in-NoHeader.is c.in_ok-followed.ensures.stops in
    (1, inl (at_header c.args.net.now c.args.journal.now 8000000 f.replay f.at s))

pub returns-in-NoLine : goal.returns-in-NoLine
returns-in-NoLine c =
    let f = c.in_ok-followed.followed in
    let s = subst (λ s. Stops c.args.net.now c.args.journal.now 8000000 f.replay f.at s)
    c.in-NoLine.is c.in_ok-followed.ensures.stops in
    (length f.replay.run.journal + 2, inl (at_no_line c.args.net.now c.args.journal.now 8000000 f.replay f.at s).1)

pub returns : goal.returns
returns c =
    let f = c.in_ok-followed.followed in
    let o = c.in-Otherwise in
    let s = subst (λ s. Stops c.args.net.now c.args.journal.now 8000000 f.replay f.at s)
    o.is c.in_ok-followed.ensures.stops in (
      length f.replay.run.journal + 2,
      inr (at_other c.args.net.now c.args.journal.now 8000000 f.replay f.at o.line o.made s).1,
    )
