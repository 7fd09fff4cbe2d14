use Rattle.std.proofs.Common.{◌≡◌, ◌≢◌, ℕ, ◌+◌, ◌-◌, ◌<◌, ◌≤◌, length, ◌⊎◌, inl, inr, sym, subst, arith}
use Rattle.ol_view.specs.declared.answers.Check.TheVariants.{BadText, NotARun}
use Rattle.ol_view.specs.Checks.{start_net_of_graph, IsFound}
use Rattle.ol_explain.specs.Afters.{IsAfterOf, line_with}
use Rattle.ol_explain.specs.Afters as of
use Rattle.ol_explain.specs.Followed.{Stops}
use Rattle.ol_explain.proofs.Told.{net_after, has_lines, at_header, at_good, at_no_line, at_other}
use Rattle.ol_explain.proofs.pausing.of_net.Goals as goal

-- the journal has ended, where fewer entries were made than were asked for
ends : (made lines size at : ℕ) → made ≢ lines - 1 → (made ≡ lines - 1) ⊎ (size ≤ at) → size ≤ at
ends made lines size at d (inl e) = absurd (d e)
ends made lines size at d (inr l) = l

pub returns-in-NoHeader : goal.returns-in-NoHeader
returns-in-NoHeader c =
    let f = c.in_ok-followed.followed in
    let s = subst (λ s. Stops c.args.net.now c.args.journal.now (c.args.lines - 1) f.replay f.at s)
    c.in-NoHeader.is c.in_ok-followed.ensures.stops in
    let a = c.in_ok-answer-in-NoHeader in
    subst (λ e. IsAfterOf c.args.weights c.args.net.now c.args.journal.now c.args.lines a.answer.text.items e) (sym a.ensures.end)
    (of.IsAfterOf.bad_text (at_header c.args.net.now c.args.journal.now (c.args.lines - 1) f.replay f.at s)
    c.requires.lines.0 a.ensures.text)

pub overflow_add-has : goal.overflow_add-has
overflow_add-has c =
    let f = c.in_ok-followed.followed in
    let s = subst (λ s. Stops c.args.net.now c.args.journal.now (c.args.lines - 1) f.replay f.at s)
    c.in-Good.is c.in_ok-followed.ensures.stops in
    let g = at_good c.args.net.now c.args.journal.now (c.args.lines - 1) f.replay f.at s in
    let w = g.within in
    let l = c.len-has.ensures in
    let b = c.requires.lines.1 in
    omega arith

pub shown-requires-clause-entries : goal.shown-requires-clause-entries
shown-requires-clause-entries c =
    let f = c.in_ok-followed.followed in
    let s = subst (λ s. Stops c.args.net.now c.args.journal.now (c.args.lines - 1) f.replay f.at s)
    c.in-Good.is c.in_ok-followed.ensures.stops in
    let g = at_good c.args.net.now c.args.journal.now (c.args.lines - 1) f.replay f.at s in
    let w = g.within in
    let b = c.requires.lines.1 in
    omega arith

pub shown-requires-clause-replay : goal.shown-requires-clause-replay
shown-requires-clause-replay c = c.in_ok-followed.ensures.replay

pub returns-then-has-lines : goal.returns-then-has-lines
returns-then-has-lines c =
    let f = c.in_ok-followed.followed in
    let s = subst (λ s. Stops c.args.net.now c.args.journal.now (c.args.lines - 1) f.replay f.at s)
    c.in-Good.is c.in_ok-followed.ensures.stops in
    let g = at_good c.args.net.now c.args.journal.now (c.args.lines - 1) f.replay f.at s in
    let a = c.in_ok-answer-in-Good in
    let count : length f.replay.run.journal + 1 ≡ c.args.lines = (let l = c.len-has.ensures in
    let e = c.if-has-lines.true in omega arith) in
    subst (λ e. IsAfterOf c.args.weights c.args.net.now c.args.journal.now c.args.lines a.answer.text.items e) (sym a.ensures.end)
    (of.IsAfterOf.shown (net_after c.args.net.now f.replay c.in_ok-followed.ensures.replay c.args.journal.now f.at
    g.form g.waves g.told c.args.lines c.args.weights count a.ensures.tabled a.answer.text.items a.ensures.text))

pub returns-in-Good : goal.returns-in-Good
returns-in-Good c =
    let f = c.in_ok-followed.followed in
    let s = subst (λ s. Stops c.args.net.now c.args.journal.now (c.args.lines - 1) f.replay f.at s)
    c.in-Good.is c.in_ok-followed.ensures.stops in
    let g = at_good c.args.net.now c.args.journal.now (c.args.lines - 1) f.replay f.at s in
    let a = c.in_ok-answer-in-Good-2 in
    let has = c.len-has.result + 1 in
    let all : length c.args.journal.now ≤ f.at = ends (length f.replay.run.journal) c.args.lines
    (length c.args.journal.now) f.at
    (let l = c.len-has.ensures in let d = c.if-has-lines.false in let b = c.requires.lines.0 in λ e. omega arith)
    g.ended in
    let count : length f.replay.run.journal + 1 ≡ c.len-has.result + 1 = (let l = c.len-has.ensures in omega arith) in
    let few : c.len-has.result + 1 < c.args.lines = (let l = c.len-has.ensures in let w = g.within in
    let e = c.if-has-lines.false in let b = c.requires.lines.0 in omega arith) in
    subst (λ e. IsAfterOf c.args.weights c.args.net.now c.args.journal.now c.args.lines a.answer.text.items e) (sym a.ensures.end)
    (of.IsAfterOf.too_few (has_lines c.args.net.now f.replay c.in_ok-followed.ensures.replay c.args.journal.now f.at
    g.form g.waves g.told has all count) few a.ensures.text)

pub overflow_add-line : goal.overflow_add-line
overflow_add-line c =
    let f = c.in_ok-followed.followed in
    let s = subst (λ s. Stops c.args.net.now c.args.journal.now (c.args.lines - 1) f.replay f.at s)
    c.in-NoLine.is c.in_ok-followed.ensures.stops in
    let g = at_no_line c.args.net.now c.args.journal.now (c.args.lines - 1) f.replay f.at s in
    let w = g.0 in
    let l = c.len-line.ensures in
    let b = c.requires.lines.1 in
    omega arith

pub returns-in-NoLine : goal.returns-in-NoLine
returns-in-NoLine c =
    let f = c.in_ok-followed.followed in
    let s = subst (λ s. Stops c.args.net.now c.args.journal.now (c.args.lines - 1) f.replay f.at s)
    c.in-NoLine.is c.in_ok-followed.ensures.stops in
    let g = at_no_line c.args.net.now c.args.journal.now (c.args.lines - 1) f.replay f.at s in
    let a = c.in_ok-answer-in-NoLine in
    let q : length f.replay.run.journal + 2 ≡ c.len-line.result + 2 = (let l = c.len-line.ensures in omega arith) in
    subst (λ e. IsAfterOf c.args.weights c.args.net.now c.args.journal.now c.args.lines a.answer.text.items e) (sym a.ensures.end)
    (of.IsAfterOf.bad_text (subst (λ n. IsFound (start_net_of_graph c.args.net.now) c.args.journal.now (BadText n))
    q g.1)
    (let w = g.0 in let l = c.len-line.ensures in omega arith) a.ensures.text)

pub overflow_add-bad : goal.overflow_add-bad
overflow_add-bad c =
    let f = c.in_ok-followed.followed in
    let o = c.in-Otherwise in
    let s = subst (λ s. Stops c.args.net.now c.args.journal.now (c.args.lines - 1) f.replay f.at s)
    o.is c.in_ok-followed.ensures.stops in
    let g = at_other c.args.net.now c.args.journal.now (c.args.lines - 1) f.replay f.at o.line o.made s in
    let w = g.0 in
    let l = c.len-bad.ensures in
    let b = c.requires.lines.1 in
    omega arith

pub returns : goal.returns
returns c =
    let f = c.in_ok-followed.followed in
    let o = c.in-Otherwise in
    let s = subst (λ s. Stops c.args.net.now c.args.journal.now (c.args.lines - 1) f.replay f.at s)
    o.is c.in_ok-followed.ensures.stops in
    let g = at_other c.args.net.now c.args.journal.now (c.args.lines - 1) f.replay f.at o.line o.made s in
    let a = c.in_ok-answer-in-Otherwise in
    let q : length f.replay.run.journal + 2 ≡ c.len-bad.result + 2 = (let l = c.len-bad.ensures in omega arith) in
    subst (λ e. IsAfterOf c.args.weights c.args.net.now c.args.journal.now c.args.lines a.answer.text.items e) (sym a.ensures.end)
    (of.IsAfterOf.not_a_run (subst (λ n. IsFound (start_net_of_graph c.args.net.now) c.args.journal.now (NotARun n))
    q g.1)
    (let w = g.0 in let l = c.len-bad.ensures in omega arith) a.ensures.text)
