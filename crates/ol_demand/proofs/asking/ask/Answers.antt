-- The step after the last one: its index is in range, there is room for its nodes, and the values so far are kept.
use Rattle.std.proofs.Common.{◌≡◌, ◌≢◌, ℕ, ◌+◌, ◌-◌, ◌*◌, ◌^◌, ◌<◌, ◌≤◌, List, ◌∷◌, length, refl, sym, ap, ◌∙◌}
use Rattle.std.proofs.Common.{subst, arith, add-one}
use Rattle.std.proofs.lemmas.Result.{err_from_is_err_and}
use Rattle.ol_context.specs.Contexts.{Level, empty, o}
use Rattle.ol_context.specs.Asked.{os}
use Rattle.ol_context.specs.Shapes.{Extends, context_of}
use Rattle.ol_context.proofs.Shapes.{held_more, extends_refl, extends_trans}
use Rattle.ol_readback.specs.Frames.{Frame, frames_of, ParentsFirst}
use Rattle.ol_readback.specs.Heads.{answer_of, IsMatched}
use Rattle.ol_readback.proofs.FrameLists.{frames_more, held_frames_more, held_this, port_this, count_frames}
use Rattle.ol_demand.specs.Chaining.{IsEndOf, IsHeldEnd, question_of}
use Rattle.ol_demand.specs.Demands.{asks}
use Rattle.ol_demand.specs.declared.answers.End.TheVariants as answer
use Rattle.ol_demand.proofs.UnderWays.{left_off, found_left, found_lost, found_spent, asked_more, under_stops}
use Rattle.ol_demand.proofs.Questions.{end_is, matched_last, known_head, running_on, free_on}
use Rattle.ol_demand.proofs.Questions.{journal_on, met_on, met_stopped}
use Rattle.ol_demand.proofs.Resuming.{chain_port, begun_walk, at_principal, resumed, cut_extends, number_more}
use Rattle.ol_demand.proofs.Resuming.{number_at, are_kept}
use Rattle.ol_demand.proofs.asking.ask.Goals as goal
use Rattle.ol_law_edges.proofs.Options.{on_err}

last_below : (i n : ℕ) → i + 1 ≡ n → i < n
last_below i n e = omega arith

room_left : (n j f : ℕ) → n + 4 * f ≤ 2000000000 + 4 * j → j ≤ f → n ≤ 2000000000
room_left n j f h b = omega arith

counted_on : (count : ℕ) (vs us ws : List Level) → count ≤ length vs → Extends vs us → Extends us ws →
    count ≤ length ws
counted_on count vs us ws b x y = let l = x.longer in let m = y.longer in omega arith

pub index-frame-requires : goal.index-frame-requires
index-frame-requires c = subst (λ (n : ℕ). c.args.asked.now.at < n) (sym c.args.asked.now.frames.now.ok.0)
    (last_below c.args.asked.now.at (length c.args.asked.now.frames.now.items) c.requires.last)

pub chain-requires-clause-port : goal.chain-requires-clause-port
chain-requires-clause-port c =
    let p = port_this c.args.net.now.free c.args.asked.now.frames.now.items c.args.asked.now.at
    c.index-frame.result.now c.requires.ports (omega (arith, c.requires.last)) c.index-frame.ensures in
    chain_port c.loop-end.net c.index-frame.result.now.port (context_of c.loop-end.values (question_of c.index-frame.result.now.levels c.loop-end.mark)) (omega (arith, p, c.loop-end.invariant.free)) c.loop-end.invariant.walked.chain

pub chain-requires-clause-held : goal.chain-requires-clause-held
chain-requires-clause-held c = c.loop-end.invariant.walked.held

pub step_back-requires-clause-held : goal.step_back-requires-clause-held
step_back-requires-clause-held c = subst (λ end. IsHeldEnd c.chain.new.values end) c.in-Met.is c.in_ok-end.ensures.held

pub step_back-requires-clause-at : goal.step_back-requires-clause-at
step_back-requires-clause-at c =
    let e = subst (λ end. IsEndOf c.loop-end.net c.index-frame.result.now.port (context_of c.loop-end.values (question_of c.index-frame.result.now.levels c.loop-end.mark)) c.chain.new.values end) c.in-Met.is (c.in_ok-end.ensures.ends c.index-frame.result.now.port
    (context_of c.loop-end.values (question_of c.index-frame.result.now.levels c.loop-end.mark)) c.loop-end.invariant.walked.chain) in
    at_principal c.index-frame.result.now.port c.index-frame.result.now.levels c.loop-end.mark c.loop-end.net (context_of c.loop-end.values (question_of c.index-frame.result.now.levels c.loop-end.mark)) c.chain.new.values
    c.in-Met.pair.0 c.in-Met.pair.1 c.in-Met.met e

pub rewrite_met-requires-clause-few : goal.rewrite_met-requires-clause-few
rewrite_met-requires-clause-few c = room_left (length c.loop-end.net.nodes)
    (length c.loop-end.run.journal) c.args.fuel c.loop-end.invariant.running.few
    c.loop-end.invariant.running.within

pub rewrite_met-requires-clause-pair : goal.rewrite_met-requires-clause-pair
rewrite_met-requires-clause-pair c =
    let e = subst (λ end. IsEndOf c.loop-end.net c.index-frame.result.now.port (context_of c.loop-end.values (question_of c.index-frame.result.now.levels c.loop-end.mark)) c.chain.new.values end) c.in-Met.is (c.in_ok-end.ensures.ends c.index-frame.result.now.port
    (context_of c.loop-end.values (question_of c.index-frame.result.now.levels c.loop-end.mark)) c.loop-end.invariant.walked.chain) in
    (e.0.rule, e.0.pair)

pub leave_by-requires-clause-at : goal.leave_by-requires-clause-at
leave_by-requires-clause-at c = last_below c.args.asked.now.at (length c.args.asked.now.frames.now.items)
    c.requires.last

pub leave_by-requires-clause-skips : goal.leave_by-requires-clause-skips
leave_by-requires-clause-skips c = c.requires.skips

pub leave_by-requires-clause-context : goal.leave_by-requires-clause-context
leave_by-requires-clause-context c = subst (λ end. IsHeldEnd c.chain.new.values end) c.in-Left.is
    c.in_ok-end.ensures.held

pub leave_by-requires-clause-parents : goal.leave_by-requires-clause-parents
leave_by-requires-clause-parents c =
    subst ParentsFirst (sym (frames_more c.args.values.now c.chain.new.values
    c.args.asked.now.frames.now.items (extends_trans c.args.values.now c.loop-end.values c.chain.new.values c.loop-end.invariant.extends c.chain.ensures.extends) c.requires.frames)) c.requires.parents

pub leave_by-requires-clause-frames : goal.leave_by-requires-clause-frames
leave_by-requires-clause-frames c =
    held_frames_more c.args.values.now c.chain.new.values c.args.asked.now.frames.now.items (extends_trans c.args.values.now c.loop-end.values c.chain.new.values c.loop-end.invariant.extends c.chain.ensures.extends) c.requires.frames

pub returns-in_err-walker-clause-answered : goal.returns-in_err-walker-clause-answered
returns-in_err-walker-clause-answered c =
    let p = err_from_is_err_and c.from_residual.result c.from_residual.ensures.1 in rw p.1 tt

pub returns-in_err-walker-clause-spent : goal.returns-in_err-walker-clause-spent
returns-in_err-walker-clause-spent c =
    let p = err_from_is_err_and c.from_residual.result c.from_residual.ensures.1 in rw p.1 tt

pub returns-in_err-walker-clause-running : goal.returns-in_err-walker-clause-running
returns-in_err-walker-clause-running c =
    let p = err_from_is_err_and c.from_residual.result c.from_residual.ensures.1 in rw p.1 tt

pub returns-in_err-walker-clause-free : goal.returns-in_err-walker-clause-free
returns-in_err-walker-clause-free c =
    let p = err_from_is_err_and c.from_residual.result c.from_residual.ensures.1 in rw p.1 tt

pub returns-in_err-walker-clause-held : goal.returns-in_err-walker-clause-held
returns-in_err-walker-clause-held c =
    let p = err_from_is_err_and c.from_residual.result c.from_residual.ensures.1 in rw p.1 tt

pub returns-in_err-walker-clause-known : goal.returns-in_err-walker-clause-known
returns-in_err-walker-clause-known c =
    let p = err_from_is_err_and c.from_residual.result c.from_residual.ensures.1 in rw p.1 tt

pub returns-in_err-walker-clause-extends : goal.returns-in_err-walker-clause-extends
returns-in_err-walker-clause-extends c = extends_refl c.args.values.now

pub returns-in_err-walker-clause-stopped : goal.returns-in_err-walker-clause-stopped
returns-in_err-walker-clause-stopped c = on_err c.from_residual.result
    (λ old heads places front s ss z b u.
    under_stops old c.args.net.now c.args.run.now heads c.args.fuel places
    (asks front (s ∷ ss) 0) u c.requires.running.within)

pub returns-in_err-end-clause-answered : goal.returns-in_err-end-clause-answered
returns-in_err-end-clause-answered c =
    let p = err_from_is_err_and c.from_residual-in_err-end.result c.from_residual-in_err-end.ensures.1 in rw p.1 tt

pub returns-in_err-end-clause-spent : goal.returns-in_err-end-clause-spent
returns-in_err-end-clause-spent c =
    let p = err_from_is_err_and c.from_residual-in_err-end.result c.from_residual-in_err-end.ensures.1 in rw p.1 tt

pub returns-in_err-end-clause-running : goal.returns-in_err-end-clause-running
returns-in_err-end-clause-running c =
    let p = err_from_is_err_and c.from_residual-in_err-end.result c.from_residual-in_err-end.ensures.1 in rw p.1 tt

pub returns-in_err-end-clause-free : goal.returns-in_err-end-clause-free
returns-in_err-end-clause-free c =
    let p = err_from_is_err_and c.from_residual-in_err-end.result c.from_residual-in_err-end.ensures.1 in rw p.1 tt

pub returns-in_err-end-clause-held : goal.returns-in_err-end-clause-held
returns-in_err-end-clause-held c =
    let p = err_from_is_err_and c.from_residual-in_err-end.result c.from_residual-in_err-end.ensures.1 in rw p.1 tt

pub returns-in_err-end-clause-known : goal.returns-in_err-end-clause-known
returns-in_err-end-clause-known c =
    let p = err_from_is_err_and c.from_residual-in_err-end.result c.from_residual-in_err-end.ensures.1 in rw p.1 tt

pub returns-in_err-end-clause-extends : goal.returns-in_err-end-clause-extends
returns-in_err-end-clause-extends c = (extends_trans c.args.values.now c.loop-end.values c.chain.new.values c.loop-end.invariant.extends c.chain.ensures.extends)

pub returns-in_err-end-clause-stopped : goal.returns-in_err-end-clause-stopped
returns-in_err-end-clause-stopped c = on_err c.from_residual-in_err-end.result
    (λ old heads places front s ss z b u.
    under_stops old c.loop-end.net c.loop-end.run heads c.args.fuel places
    (asks front (s ∷ ss) c.loop-end.lams)
    (c.loop-end.invariant.under old heads places front s ss z b u) c.loop-end.invariant.running.within)

pub returns-in_err-before-in-Met-clause-answered : goal.returns-in_err-before-in-Met-clause-answered
returns-in_err-before-in-Met-clause-answered c =
    let p = err_from_is_err_and c.from_residual-in_err-before-in-Met.result c.from_residual-in_err-before-in-Met.ensures.1 in rw p.1 tt

pub returns-in_err-before-in-Met-clause-spent : goal.returns-in_err-before-in-Met-clause-spent
returns-in_err-before-in-Met-clause-spent c =
    let p = err_from_is_err_and c.from_residual-in_err-before-in-Met.result c.from_residual-in_err-before-in-Met.ensures.1 in rw p.1 tt

pub returns-in_err-before-in-Met-clause-running : goal.returns-in_err-before-in-Met-clause-running
returns-in_err-before-in-Met-clause-running c =
    let p = err_from_is_err_and c.from_residual-in_err-before-in-Met.result c.from_residual-in_err-before-in-Met.ensures.1 in rw p.1 tt

pub returns-in_err-before-in-Met-clause-free : goal.returns-in_err-before-in-Met-clause-free
returns-in_err-before-in-Met-clause-free c =
    let p = err_from_is_err_and c.from_residual-in_err-before-in-Met.result c.from_residual-in_err-before-in-Met.ensures.1 in rw p.1 tt

pub returns-in_err-before-in-Met-clause-held : goal.returns-in_err-before-in-Met-clause-held
returns-in_err-before-in-Met-clause-held c =
    let p = err_from_is_err_and c.from_residual-in_err-before-in-Met.result c.from_residual-in_err-before-in-Met.ensures.1 in rw p.1 tt

pub returns-in_err-before-in-Met-clause-known : goal.returns-in_err-before-in-Met-clause-known
returns-in_err-before-in-Met-clause-known c =
    let p = err_from_is_err_and c.from_residual-in_err-before-in-Met.result c.from_residual-in_err-before-in-Met.ensures.1 in rw p.1 tt

pub returns-in_err-before-in-Met-clause-extends : goal.returns-in_err-before-in-Met-clause-extends
returns-in_err-before-in-Met-clause-extends c = (extends_trans c.args.values.now c.chain.new.values c.step_back.new.values (extends_trans c.args.values.now c.loop-end.values c.chain.new.values c.loop-end.invariant.extends c.chain.ensures.extends) c.step_back.ensures.extends)

pub returns-in_err-before-in-Met-clause-stopped : goal.returns-in_err-before-in-Met-clause-stopped
returns-in_err-before-in-Met-clause-stopped c = on_err c.from_residual-in_err-before-in-Met.result
    (λ old heads places front s ss z b u.
    under_stops old c.loop-end.net c.loop-end.run heads c.args.fuel places
    (asks front (s ∷ ss) c.loop-end.lams)
    (c.loop-end.invariant.under old heads places front s ss z b u) c.loop-end.invariant.running.within)

pub returns-in_err-rewrite_met-in-Met-clause-answered : goal.returns-in_err-rewrite_met-in-Met-clause-answered
returns-in_err-rewrite_met-in-Met-clause-answered c =
    let p = err_from_is_err_and c.from_residual-in_err-rewrite_met-in-Met.result c.from_residual-in_err-rewrite_met-in-Met.ensures.1 in rw p.1 tt

pub returns-in_err-rewrite_met-in-Met-clause-spent : goal.returns-in_err-rewrite_met-in-Met-clause-spent
returns-in_err-rewrite_met-in-Met-clause-spent c =
    let p = err_from_is_err_and c.from_residual-in_err-rewrite_met-in-Met.result c.from_residual-in_err-rewrite_met-in-Met.ensures.1 in rw p.1 tt

pub returns-in_err-rewrite_met-in-Met-clause-running : goal.returns-in_err-rewrite_met-in-Met-clause-running
returns-in_err-rewrite_met-in-Met-clause-running c =
    let p = err_from_is_err_and c.from_residual-in_err-rewrite_met-in-Met.result c.from_residual-in_err-rewrite_met-in-Met.ensures.1 in rw p.1 tt

pub returns-in_err-rewrite_met-in-Met-clause-free : goal.returns-in_err-rewrite_met-in-Met-clause-free
returns-in_err-rewrite_met-in-Met-clause-free c =
    let p = err_from_is_err_and c.from_residual-in_err-rewrite_met-in-Met.result c.from_residual-in_err-rewrite_met-in-Met.ensures.1 in rw p.1 tt

pub returns-in_err-rewrite_met-in-Met-clause-held : goal.returns-in_err-rewrite_met-in-Met-clause-held
returns-in_err-rewrite_met-in-Met-clause-held c =
    let p = err_from_is_err_and c.from_residual-in_err-rewrite_met-in-Met.result c.from_residual-in_err-rewrite_met-in-Met.ensures.1 in rw p.1 tt

pub returns-in_err-rewrite_met-in-Met-clause-known : goal.returns-in_err-rewrite_met-in-Met-clause-known
returns-in_err-rewrite_met-in-Met-clause-known c =
    let p = err_from_is_err_and c.from_residual-in_err-rewrite_met-in-Met.result c.from_residual-in_err-rewrite_met-in-Met.ensures.1 in rw p.1 tt

pub returns-in_err-rewrite_met-in-Met-clause-extends : goal.returns-in_err-rewrite_met-in-Met-clause-extends
returns-in_err-rewrite_met-in-Met-clause-extends c = (extends_trans c.args.values.now c.chain.new.values c.step_back.new.values (extends_trans c.args.values.now c.loop-end.values c.chain.new.values c.loop-end.invariant.extends c.chain.ensures.extends) c.step_back.ensures.extends)

pub returns-in_err-rewrite_met-in-Met-clause-stopped : goal.returns-in_err-rewrite_met-in-Met-clause-stopped
returns-in_err-rewrite_met-in-Met-clause-stopped c =
    let more : length c.loop-end.run.journal ≢ c.args.fuel = λ q. c.if-len-fuel.false (c.len.ensures ∙ q) in
    let i = c.loop-end.invariant.running.within in
    on_err c.from_residual-in_err-rewrite_met-in-Met.result (λ old heads places front s ss z b u.
    let e = end_is c.args.values.now c.args.asked.now.frames.now.items c.args.asked.now.at
    c.index-frame.result.now c.requires.last c.index-frame.ensures front s z c.loop-end.values
    c.loop-end.mark c.loop-end.lams c.loop-end.invariant.extends c.requires.frames
    c.loop-end.invariant.mark.is c.loop-end.net c.chain.new.values c.in_ok-end.end
    (answer.Met c.in-Met.pair c.in-Met.met) (c.in_ok-end.ensures.ends c.index-frame.result.now.port
    (context_of c.loop-end.values (question_of c.index-frame.result.now.levels c.loop-end.mark)) c.loop-end.invariant.walked.chain) c.in-Met.is in
    met_stopped old c.loop-end.net c.rewrite_met.new.net c.loop-end.run heads places front s ss
    c.loop-end.lams c.in-Met.pair.0.0 c.in-Met.pair.1.0 b
    (c.loop-end.invariant.under old heads places front s ss z b u) c.is_net.ensures.net e.0
    c.args.fuel (omega arith) c.in_err-rewrite_met-in-Met.ensures.err)

pub returns-in_err-walker-in-Met-clause-answered : goal.returns-in_err-walker-in-Met-clause-answered
returns-in_err-walker-in-Met-clause-answered c =
    let p = err_from_is_err_and c.from_residual-in_err-walker-in-Met.result c.from_residual-in_err-walker-in-Met.ensures.1 in rw p.1 tt

pub returns-in_err-walker-in-Met-clause-spent : goal.returns-in_err-walker-in-Met-clause-spent
returns-in_err-walker-in-Met-clause-spent c =
    let p = err_from_is_err_and c.from_residual-in_err-walker-in-Met.result c.from_residual-in_err-walker-in-Met.ensures.1 in rw p.1 tt

pub returns-in_err-walker-in-Met-clause-running : goal.returns-in_err-walker-in-Met-clause-running
returns-in_err-walker-in-Met-clause-running c =
    let p = err_from_is_err_and c.from_residual-in_err-walker-in-Met.result c.from_residual-in_err-walker-in-Met.ensures.1 in rw p.1 tt

pub returns-in_err-walker-in-Met-clause-free : goal.returns-in_err-walker-in-Met-clause-free
returns-in_err-walker-in-Met-clause-free c =
    let p = err_from_is_err_and c.from_residual-in_err-walker-in-Met.result c.from_residual-in_err-walker-in-Met.ensures.1 in rw p.1 tt

pub returns-in_err-walker-in-Met-clause-held : goal.returns-in_err-walker-in-Met-clause-held
returns-in_err-walker-in-Met-clause-held c =
    let p = err_from_is_err_and c.from_residual-in_err-walker-in-Met.result c.from_residual-in_err-walker-in-Met.ensures.1 in rw p.1 tt

pub returns-in_err-walker-in-Met-clause-known : goal.returns-in_err-walker-in-Met-clause-known
returns-in_err-walker-in-Met-clause-known c =
    let p = err_from_is_err_and c.from_residual-in_err-walker-in-Met.result c.from_residual-in_err-walker-in-Met.ensures.1 in rw p.1 tt

pub returns-in_err-walker-in-Met-clause-extends : goal.returns-in_err-walker-in-Met-clause-extends
returns-in_err-walker-in-Met-clause-extends c =
    let k = are_kept c.args.values.now c.step_back.new.values c.resume.new.values c.loop-end.count c.loop-end.mark (os c.loop-end.lams empty)
    (extends_trans c.args.values.now c.chain.new.values c.step_back.new.values (extends_trans c.args.values.now c.loop-end.values c.chain.new.values c.loop-end.invariant.extends c.chain.ensures.extends) c.step_back.ensures.extends) c.loop-end.invariant.kept (number_more c.loop-end.values c.step_back.new.values c.loop-end.mark (os c.loop-end.lams empty)
    (extends_trans c.loop-end.values c.chain.new.values c.step_back.new.values c.chain.ensures.extends c.step_back.ensures.extends) c.loop-end.invariant.mark) c.loop-end.invariant.marked
    (counted_on c.loop-end.count c.loop-end.values c.chain.new.values c.step_back.new.values c.loop-end.invariant.counted c.chain.ensures.extends c.step_back.ensures.extends)
    c.resume.ensures.kept in k.extends

pub returns-in_err-walker-in-Met-clause-stopped : goal.returns-in_err-walker-in-Met-clause-stopped
returns-in_err-walker-in-Met-clause-stopped c =
    let more : length c.loop-end.run.journal ≢ c.args.fuel = λ q. c.if-len-fuel.false (c.len.ensures ∙ q) in
    let running = running_on c.loop-end.net c.rewrite_met.new.net c.loop-end.run
    c.rewrite_met.new.run c.args.fuel c.in-Met.pair.0.0 c.in-Met.pair.1.0 c.loop-end.invariant.running more c.in_ok-rewrite_met-in-Met.ensures.ok in
    on_err c.from_residual-in_err-walker-in-Met.result (λ old heads places front s ss z b u.
    let m = let e = end_is c.args.values.now c.args.asked.now.frames.now.items c.args.asked.now.at
    c.index-frame.result.now c.requires.last c.index-frame.ensures front s z c.loop-end.values
    c.loop-end.mark c.loop-end.lams c.loop-end.invariant.extends c.requires.frames
    c.loop-end.invariant.mark.is c.loop-end.net c.chain.new.values c.in_ok-end.end
    (answer.Met c.in-Met.pair c.in-Met.met) (c.in_ok-end.ensures.ends c.index-frame.result.now.port
    (context_of c.loop-end.values (question_of c.index-frame.result.now.levels c.loop-end.mark)) c.loop-end.invariant.walked.chain) c.in-Met.is in
    met_on old c.loop-end.net c.rewrite_met.new.net c.loop-end.run heads places front s ss
    c.loop-end.lams c.in-Met.pair.0.0 c.in-Met.pair.1.0 b
    (c.loop-end.invariant.under old heads places front s ss z b u) c.is_net.ensures.net e.0
    c.rewrite_met.new.run c.loop-end.invariant.running.names c.in_ok-rewrite_met-in-Met.ensures.ok in
    under_stops old c.rewrite_met.new.net c.rewrite_met.new.run heads c.args.fuel places
    (asks front (s ∷ ss) c.loop-end.lams) m running.within)

pub resume-requires-clause-some : goal.resume-requires-clause-some
resume-requires-clause-some c = let m = c.loop-end.invariant.marked in omega arith

pub resume-requires-clause-counted : goal.resume-requires-clause-counted
resume-requires-clause-counted c = counted_on c.loop-end.count c.loop-end.values c.chain.new.values c.step_back.new.values c.loop-end.invariant.counted c.chain.ensures.extends c.step_back.ensures.extends

pub returns-in_err-left-in-Left-clause-answered : goal.returns-in_err-left-in-Left-clause-answered
returns-in_err-left-in-Left-clause-answered c =
    let p = err_from_is_err_and c.from_residual-in_err-left-in-Left.result c.from_residual-in_err-left-in-Left.ensures.1 in rw p.1 tt

pub returns-in_err-left-in-Left-clause-spent : goal.returns-in_err-left-in-Left-clause-spent
returns-in_err-left-in-Left-clause-spent c =
    let p = err_from_is_err_and c.from_residual-in_err-left-in-Left.result c.from_residual-in_err-left-in-Left.ensures.1 in rw p.1 tt

pub returns-in_err-left-in-Left-clause-running : goal.returns-in_err-left-in-Left-clause-running
returns-in_err-left-in-Left-clause-running c =
    let p = err_from_is_err_and c.from_residual-in_err-left-in-Left.result c.from_residual-in_err-left-in-Left.ensures.1 in rw p.1 tt

pub returns-in_err-left-in-Left-clause-free : goal.returns-in_err-left-in-Left-clause-free
returns-in_err-left-in-Left-clause-free c =
    let p = err_from_is_err_and c.from_residual-in_err-left-in-Left.result c.from_residual-in_err-left-in-Left.ensures.1 in rw p.1 tt

pub returns-in_err-left-in-Left-clause-held : goal.returns-in_err-left-in-Left-clause-held
returns-in_err-left-in-Left-clause-held c =
    let p = err_from_is_err_and c.from_residual-in_err-left-in-Left.result c.from_residual-in_err-left-in-Left.ensures.1 in rw p.1 tt

pub returns-in_err-left-in-Left-clause-known : goal.returns-in_err-left-in-Left-clause-known
returns-in_err-left-in-Left-clause-known c =
    let p = err_from_is_err_and c.from_residual-in_err-left-in-Left.result c.from_residual-in_err-left-in-Left.ensures.1 in rw p.1 tt

pub returns-in_err-left-in-Left-clause-extends : goal.returns-in_err-left-in-Left-clause-extends
returns-in_err-left-in-Left-clause-extends c = (extends_trans c.args.values.now c.loop-end.values c.chain.new.values c.loop-end.invariant.extends c.chain.ensures.extends)

pub returns-in_err-left-in-Left-clause-stopped : goal.returns-in_err-left-in-Left-clause-stopped
returns-in_err-left-in-Left-clause-stopped c = on_err c.from_residual-in_err-left-in-Left.result
    (λ old heads places front s ss z b u.
    under_stops old c.loop-end.net c.loop-end.run heads c.args.fuel places
    (asks front (s ∷ ss) c.loop-end.lams)
    (c.loop-end.invariant.under old heads places front s ss z b u) c.loop-end.invariant.running.within)

pub returns-in_err-mark-in-Undefined-clause-answered : goal.returns-in_err-mark-in-Undefined-clause-answered
returns-in_err-mark-in-Undefined-clause-answered c =
    let p = err_from_is_err_and c.from_residual-in_err-mark-in-Undefined.result c.from_residual-in_err-mark-in-Undefined.ensures.1 in rw p.1 tt

pub returns-in_err-mark-in-Undefined-clause-spent : goal.returns-in_err-mark-in-Undefined-clause-spent
returns-in_err-mark-in-Undefined-clause-spent c =
    let p = err_from_is_err_and c.from_residual-in_err-mark-in-Undefined.result c.from_residual-in_err-mark-in-Undefined.ensures.1 in rw p.1 tt

pub returns-in_err-mark-in-Undefined-clause-running : goal.returns-in_err-mark-in-Undefined-clause-running
returns-in_err-mark-in-Undefined-clause-running c =
    let p = err_from_is_err_and c.from_residual-in_err-mark-in-Undefined.result c.from_residual-in_err-mark-in-Undefined.ensures.1 in rw p.1 tt

pub returns-in_err-mark-in-Undefined-clause-free : goal.returns-in_err-mark-in-Undefined-clause-free
returns-in_err-mark-in-Undefined-clause-free c =
    let p = err_from_is_err_and c.from_residual-in_err-mark-in-Undefined.result c.from_residual-in_err-mark-in-Undefined.ensures.1 in rw p.1 tt

pub returns-in_err-mark-in-Undefined-clause-held : goal.returns-in_err-mark-in-Undefined-clause-held
returns-in_err-mark-in-Undefined-clause-held c =
    let p = err_from_is_err_and c.from_residual-in_err-mark-in-Undefined.result c.from_residual-in_err-mark-in-Undefined.ensures.1 in rw p.1 tt

pub returns-in_err-mark-in-Undefined-clause-known : goal.returns-in_err-mark-in-Undefined-clause-known
returns-in_err-mark-in-Undefined-clause-known c =
    let p = err_from_is_err_and c.from_residual-in_err-mark-in-Undefined.result c.from_residual-in_err-mark-in-Undefined.ensures.1 in rw p.1 tt

pub returns-in_err-mark-in-Undefined-clause-extends : goal.returns-in_err-mark-in-Undefined-clause-extends
returns-in_err-mark-in-Undefined-clause-extends c = (extends_trans c.args.values.now c.cut.new.self c.put_o.new.self (subst (λ (vs : List Level). Extends c.args.values.now vs) (sym c.cut.ensures) (cut_extends c.args.values.now c.chain.new.values c.loop-end.count (extends_trans c.args.values.now c.loop-end.values c.chain.new.values c.loop-end.invariant.extends c.chain.ensures.extends) c.loop-end.invariant.kept)) c.put_o.ensures.extends)

pub returns-in_err-mark-in-Undefined-clause-stopped : goal.returns-in_err-mark-in-Undefined-clause-stopped
returns-in_err-mark-in-Undefined-clause-stopped c = on_err c.from_residual-in_err-mark-in-Undefined.result
    (λ old heads places front s ss z b u.
    under_stops old c.loop-end.net c.loop-end.run heads c.args.fuel places
    (asks front (s ∷ ss) c.loop-end.lams)
    (c.loop-end.invariant.under old heads places front s ss z b u) c.loop-end.invariant.running.within)

pub returns-in_err-walker-in-Undefined-clause-answered : goal.returns-in_err-walker-in-Undefined-clause-answered
returns-in_err-walker-in-Undefined-clause-answered c =
    let p = err_from_is_err_and c.from_residual-in_err-walker-in-Undefined.result c.from_residual-in_err-walker-in-Undefined.ensures.1 in rw p.1 tt

pub returns-in_err-walker-in-Undefined-clause-spent : goal.returns-in_err-walker-in-Undefined-clause-spent
returns-in_err-walker-in-Undefined-clause-spent c =
    let p = err_from_is_err_and c.from_residual-in_err-walker-in-Undefined.result c.from_residual-in_err-walker-in-Undefined.ensures.1 in rw p.1 tt

pub returns-in_err-walker-in-Undefined-clause-running : goal.returns-in_err-walker-in-Undefined-clause-running
returns-in_err-walker-in-Undefined-clause-running c =
    let p = err_from_is_err_and c.from_residual-in_err-walker-in-Undefined.result c.from_residual-in_err-walker-in-Undefined.ensures.1 in rw p.1 tt

pub returns-in_err-walker-in-Undefined-clause-free : goal.returns-in_err-walker-in-Undefined-clause-free
returns-in_err-walker-in-Undefined-clause-free c =
    let p = err_from_is_err_and c.from_residual-in_err-walker-in-Undefined.result c.from_residual-in_err-walker-in-Undefined.ensures.1 in rw p.1 tt

pub returns-in_err-walker-in-Undefined-clause-held : goal.returns-in_err-walker-in-Undefined-clause-held
returns-in_err-walker-in-Undefined-clause-held c =
    let p = err_from_is_err_and c.from_residual-in_err-walker-in-Undefined.result c.from_residual-in_err-walker-in-Undefined.ensures.1 in rw p.1 tt

pub returns-in_err-walker-in-Undefined-clause-known : goal.returns-in_err-walker-in-Undefined-clause-known
returns-in_err-walker-in-Undefined-clause-known c =
    let p = err_from_is_err_and c.from_residual-in_err-walker-in-Undefined.result c.from_residual-in_err-walker-in-Undefined.ensures.1 in rw p.1 tt

pub returns-in_err-walker-in-Undefined-clause-extends : goal.returns-in_err-walker-in-Undefined-clause-extends
returns-in_err-walker-in-Undefined-clause-extends c = (extends_trans c.args.values.now c.cut.new.self c.put_o.new.self (subst (λ (vs : List Level). Extends c.args.values.now vs) (sym c.cut.ensures) (cut_extends c.args.values.now c.chain.new.values c.loop-end.count (extends_trans c.args.values.now c.loop-end.values c.chain.new.values c.loop-end.invariant.extends c.chain.ensures.extends) c.loop-end.invariant.kept)) c.put_o.ensures.extends)

pub returns-in_err-walker-in-Undefined-clause-stopped : goal.returns-in_err-walker-in-Undefined-clause-stopped
returns-in_err-walker-in-Undefined-clause-stopped c = on_err c.from_residual-in_err-walker-in-Undefined.result
    (λ old heads places front s ss z b u.
    under_stops old c.loop-end.net c.loop-end.run heads c.args.fuel places
    (asks front (s ∷ ss) c.loop-end.lams)
    (c.loop-end.invariant.under old heads places front s ss z b u) c.loop-end.invariant.running.within)

pub returns-then-len-fuel-clause-spent : goal.returns-then-len-fuel-clause-spent
returns-then-len-fuel-clause-spent c = sym c.len.ensures ∙ c.if-len-fuel.true

pub returns-then-len-fuel-clause-running : goal.returns-then-len-fuel-clause-running
returns-then-len-fuel-clause-running c = c.loop-end.invariant.running

pub returns-then-len-fuel-clause-free : goal.returns-then-len-fuel-clause-free
returns-then-len-fuel-clause-free c = c.loop-end.invariant.free

pub returns-then-len-fuel-clause-stopped : goal.returns-then-len-fuel-clause-stopped
returns-then-len-fuel-clause-stopped c = tt

pub returns-then-len-fuel-clause-held : goal.returns-then-len-fuel-clause-held
returns-then-len-fuel-clause-held c = tt

pub returns-then-len-fuel-clause-known : goal.returns-then-len-fuel-clause-known
returns-then-len-fuel-clause-known c = tt

pub returns-then-len-fuel-clause-extends : goal.returns-then-len-fuel-clause-extends
returns-then-len-fuel-clause-extends c = (extends_trans c.args.values.now c.loop-end.values c.chain.new.values c.loop-end.invariant.extends c.chain.ensures.extends)

pub returns-then-len-fuel-clause-answered : goal.returns-then-len-fuel-clause-answered
returns-then-len-fuel-clause-answered c = λ old heads places front s ss z b u.
    let e = end_is c.args.values.now c.args.asked.now.frames.now.items c.args.asked.now.at
    c.index-frame.result.now c.requires.last c.index-frame.ensures front s z c.loop-end.values
    c.loop-end.mark c.loop-end.lams c.loop-end.invariant.extends c.requires.frames
    c.loop-end.invariant.mark.is c.loop-end.net c.chain.new.values c.in_ok-end.end
    (answer.Met c.in-Met.pair c.in-Met.met) (c.in_ok-end.ensures.ends c.index-frame.result.now.port
    (context_of c.loop-end.values (question_of c.index-frame.result.now.levels c.loop-end.mark)) c.loop-end.invariant.walked.chain) c.in-Met.is in
    left_off old c.loop-end.net c.loop-end.run heads places front s ss c.loop-end.lams b
    (c.loop-end.invariant.under old heads places front s ss z b u) c.in-Met.pair.0.0
    c.in-Met.pair.1.0 e.0 c.is_net.ensures.net

pub returns-in-Left-clause-spent : goal.returns-in-Left-clause-spent
returns-in-Left-clause-spent c = tt

pub returns-in-Left-clause-running : goal.returns-in-Left-clause-running
returns-in-Left-clause-running c = c.loop-end.invariant.running

pub returns-in-Left-clause-free : goal.returns-in-Left-clause-free
returns-in-Left-clause-free c = c.loop-end.invariant.free

pub returns-in-Left-clause-stopped : goal.returns-in-Left-clause-stopped
returns-in-Left-clause-stopped c = tt

pub returns-in-Left-clause-held : goal.returns-in-Left-clause-held
returns-in-Left-clause-held c = c.in_ok-left-in-Left.ensures.held

pub returns-in-Left-clause-known : goal.returns-in-Left-clause-known
returns-in-Left-clause-known c =
    let e = subst (λ end. IsEndOf c.loop-end.net c.index-frame.result.now.port (context_of c.loop-end.values (question_of c.index-frame.result.now.levels c.loop-end.mark)) c.chain.new.values end)
    c.in-Left.is (c.in_ok-end.ensures.ends c.index-frame.result.now.port
    (context_of c.loop-end.values (question_of c.index-frame.result.now.levels c.loop-end.mark)) c.loop-end.invariant.walked.chain) in
    let x = (extends_trans c.args.values.now c.loop-end.values c.chain.new.values c.loop-end.invariant.extends c.chain.ensures.extends) in
    let m = subst (λ (F : List Frame). IsMatched F c.args.asked.now.at c.loop-end.lams
    c.in-Left.port (context_of c.chain.new.values c.in-Left.context)
    (answer_of c.chain.new.values c.in_ok-left-in-Left.left))
    (frames_more c.args.values.now c.chain.new.values c.args.asked.now.frames.now.items x
    c.requires.frames) c.in_ok-left-in-Left.ensures.answer in
    let n = count_frames c.args.values.now c.args.asked.now.frames.now.items in
    known_head c.loop-end.net c.is_net.ensures.net
    (frames_of c.args.values.now c.args.asked.now.frames.now.items) c.args.asked.now.at
    c.loop-end.lams c.in-Left.port (context_of c.chain.new.values c.in-Left.context)
    c.index-frame.result.now.port _ c.chain.new.values c.in_ok-left-in-Left.left
    c.requires.parents (omega (arith, c.requires.last)) e m

pub returns-in-Left-clause-extends : goal.returns-in-Left-clause-extends
returns-in-Left-clause-extends c = (extends_trans c.args.values.now c.loop-end.values c.chain.new.values c.loop-end.invariant.extends c.chain.ensures.extends)

pub returns-in-Left-clause-answered : goal.returns-in-Left-clause-answered
returns-in-Left-clause-answered c = λ old heads places front s ss z b u.
    let e = end_is c.args.values.now c.args.asked.now.frames.now.items c.args.asked.now.at
    c.index-frame.result.now c.requires.last c.index-frame.ensures front s z c.loop-end.values
    c.loop-end.mark c.loop-end.lams c.loop-end.invariant.extends c.requires.frames
    c.loop-end.invariant.mark.is c.loop-end.net c.chain.new.values c.in_ok-end.end
    (answer.Left c.in-Left.port c.in-Left.context) (c.in_ok-end.ensures.ends c.index-frame.result.now.port
    (context_of c.loop-end.values (question_of c.index-frame.result.now.levels c.loop-end.mark)) c.loop-end.invariant.walked.chain) c.in-Left.is in
    let x = (extends_trans c.args.values.now c.loop-end.values c.chain.new.values c.loop-end.invariant.extends c.chain.ensures.extends) in
    let a = answer_of c.chain.new.values c.in_ok-left-in-Left.left in
    let m = subst (λ (F : List Frame). IsMatched F c.args.asked.now.at c.loop-end.lams
    c.in-Left.port (context_of c.chain.new.values c.in-Left.context) a)
    (frames_more c.args.values.now c.chain.new.values c.args.asked.now.frames.now.items x
    c.requires.frames) c.in_ok-left-in-Left.ensures.answer in
    found_left old c.loop-end.net c.loop-end.run heads places front s ss c.loop-end.lams b
    (c.loop-end.invariant.under old heads places front s ss z b u) c.in-Left.port
    (context_of c.chain.new.values c.in-Left.context) a e
    (matched_last c.args.values.now c.args.asked.now.frames.now.items c.args.asked.now.at
    c.index-frame.result.now c.requires.last c.index-frame.ensures front s z c.loop-end.lams
    c.in-Left.port (context_of c.chain.new.values c.in-Left.context) a m)

pub cut-requires : goal.cut-requires
cut-requires c = let m = c.loop-end.invariant.marked in omega arith

pub cut-requires-in-Budget : goal.cut-requires-in-Budget
cut-requires-in-Budget c = let m = c.loop-end.invariant.marked in omega arith

pub returns-then-lams-nodes-clause-spent : goal.returns-then-lams-nodes-clause-spent
returns-then-lams-nodes-clause-spent c = tt

pub returns-then-lams-nodes-clause-running : goal.returns-then-lams-nodes-clause-running
returns-then-lams-nodes-clause-running c = c.loop-end.invariant.running

pub returns-then-lams-nodes-clause-free : goal.returns-then-lams-nodes-clause-free
returns-then-lams-nodes-clause-free c = c.loop-end.invariant.free

pub returns-then-lams-nodes-clause-stopped : goal.returns-then-lams-nodes-clause-stopped
returns-then-lams-nodes-clause-stopped c = tt

pub returns-then-lams-nodes-clause-held : goal.returns-then-lams-nodes-clause-held
returns-then-lams-nodes-clause-held c = tt

pub returns-then-lams-nodes-clause-known : goal.returns-then-lams-nodes-clause-known
returns-then-lams-nodes-clause-known c = tt

pub returns-then-lams-nodes-clause-extends : goal.returns-then-lams-nodes-clause-extends
returns-then-lams-nodes-clause-extends c = (subst (λ (vs : List Level). Extends c.args.values.now vs) (sym c.cut.ensures) (cut_extends c.args.values.now c.chain.new.values c.loop-end.count (extends_trans c.args.values.now c.loop-end.values c.chain.new.values c.loop-end.invariant.extends c.chain.ensures.extends) c.loop-end.invariant.kept))

pub returns-then-lams-nodes-clause-answered : goal.returns-then-lams-nodes-clause-answered
returns-then-lams-nodes-clause-answered c = λ old heads places front s ss z b u.
    let e = end_is c.args.values.now c.args.asked.now.frames.now.items c.args.asked.now.at
    c.index-frame.result.now c.requires.last c.index-frame.ensures front s z c.loop-end.values
    c.loop-end.mark c.loop-end.lams c.loop-end.invariant.extends c.requires.frames
    c.loop-end.invariant.mark.is c.loop-end.net c.chain.new.values c.in_ok-end.end
    answer.Undefined (c.in_ok-end.ensures.ends c.index-frame.result.now.port
    (context_of c.loop-end.values (question_of c.index-frame.result.now.levels c.loop-end.mark)) c.loop-end.invariant.walked.chain) c.in-Undefined.is in
    found_lost old c.loop-end.net c.loop-end.run heads places front s ss c.loop-end.lams b
    (c.loop-end.invariant.under old heads places front s ss z b u) e
    (omega (arith, c.if-lams-nodes.true, c.nodes.ensures.nodes))

pub returns-in-Budget-clause-spent : goal.returns-in-Budget-clause-spent
returns-in-Budget-clause-spent c = tt

pub returns-in-Budget-clause-running : goal.returns-in-Budget-clause-running
returns-in-Budget-clause-running c = c.loop-end.invariant.running

pub returns-in-Budget-clause-free : goal.returns-in-Budget-clause-free
returns-in-Budget-clause-free c = c.loop-end.invariant.free

pub returns-in-Budget-clause-stopped : goal.returns-in-Budget-clause-stopped
returns-in-Budget-clause-stopped c = tt

pub returns-in-Budget-clause-held : goal.returns-in-Budget-clause-held
returns-in-Budget-clause-held c = tt

pub returns-in-Budget-clause-known : goal.returns-in-Budget-clause-known
returns-in-Budget-clause-known c = tt

pub returns-in-Budget-clause-extends : goal.returns-in-Budget-clause-extends
returns-in-Budget-clause-extends c = (subst (λ (vs : List Level). Extends c.args.values.now vs) (sym c.cut-in-Budget.ensures) (cut_extends c.args.values.now c.chain.new.values c.loop-end.count (extends_trans c.args.values.now c.loop-end.values c.chain.new.values c.loop-end.invariant.extends c.chain.ensures.extends) c.loop-end.invariant.kept))

pub returns-in-Budget-clause-answered : goal.returns-in-Budget-clause-answered
returns-in-Budget-clause-answered c = λ old heads places front s ss z b u.
    let e = end_is c.args.values.now c.args.asked.now.frames.now.items c.args.asked.now.at
    c.index-frame.result.now c.requires.last c.index-frame.ensures front s z c.loop-end.values
    c.loop-end.mark c.loop-end.lams c.loop-end.invariant.extends c.requires.frames
    c.loop-end.invariant.mark.is c.loop-end.net c.chain.new.values c.in_ok-end.end
    answer.Budget (c.in_ok-end.ensures.ends c.index-frame.result.now.port
    (context_of c.loop-end.values (question_of c.index-frame.result.now.levels c.loop-end.mark)) c.loop-end.invariant.walked.chain) c.in-Budget.is in
    found_spent old c.loop-end.net c.loop-end.run heads places front s ss c.loop-end.lams b
    (c.loop-end.invariant.under old heads places front s ss z b u) e

pub put_o-requires : goal.put_o-requires
put_o-requires c = (number_at c.loop-end.values c.chain.new.values c.cut.new.self c.loop-end.count c.loop-end.mark
    (os c.loop-end.lams empty) c.cut.ensures c.chain.ensures.extends c.loop-end.invariant.mark c.loop-end.invariant.marked).held

pub loop-end-init : goal.loop-end-init
loop-end-init c = record {
  extends = extends_refl c.args.values.now;
  mark = c.empty-mark.ensures;
  marked = let h = c.empty-mark.ensures.held in omega (arith, c.count-count.ensures.is);
  kept = omega (arith, c.count-count.ensures.is);
  counted = omega (arith, c.count-count.ensures.is);
  walked = begun_walk c.index-frame.result.now.port c.index-frame.result.now.levels c.empty-mark.result c.args.net.now c.args.values.now c.in_ok-walker.walker
      (held_this c.args.values.now c.args.asked.now.frames.now.items c.args.asked.now.at
      c.index-frame.result.now c.requires.frames (omega (arith, c.requires.last)) c.index-frame.ensures)
      c.empty-mark.ensures.held c.in_ok-walker.ensures;
  running = c.requires.running;
  free = refl;
  under = λ old heads places front s ss z b u. u;
}

pub loop-end-smaller-in-Met : goal.loop-end-smaller-in-Met
loop-end-smaller-in-Met c =
    let j = journal_on c.loop-end.net c.rewrite_met.new.net c.loop-end.run c.rewrite_met.new.run
    c.in-Met.pair.0.0 c.in-Met.pair.1.0 c.in_ok-rewrite_met-in-Met.ensures.ok in
    let more : length c.loop-end.run.journal ≢ c.args.fuel = λ q. c.if-len-fuel.false (c.len.ensures ∙ q) in
    let i = c.loop-end.invariant.running.within in
    let r : (c.args.fuel - length c.rewrite_met.new.run.journal) + (2 ^ 32 - c.loop-end.lams) <
    (c.args.fuel - length c.loop-end.run.journal) + (2 ^ 32 - c.loop-end.lams) = omega arith in
    r

pub loop-end-preserved-in-Met : goal.loop-end-preserved-in-Met
loop-end-preserved-in-Met c =
    let i = c.loop-end.invariant in
    let a = c.in_ok-rewrite_met-in-Met.ensures.ok in
    let more : length c.loop-end.run.journal ≢ c.args.fuel = λ q. c.if-len-fuel.false (c.len.ensures ∙ q) in
    let e = subst (λ end. IsEndOf c.loop-end.net c.index-frame.result.now.port (context_of c.loop-end.values (question_of c.index-frame.result.now.levels c.loop-end.mark)) c.chain.new.values end) c.in-Met.is (c.in_ok-end.ensures.ends c.index-frame.result.now.port
    (context_of c.loop-end.values (question_of c.index-frame.result.now.levels c.loop-end.mark)) c.loop-end.invariant.walked.chain) in
    let x = c.chain.ensures.extends in
    let y = c.step_back.ensures.extends in
    let held : IsHeldEnd c.chain.new.values (answer.Met c.in-Met.pair c.in-Met.met) = subst (λ end. IsHeldEnd c.chain.new.values end) c.in-Met.is c.in_ok-end.ensures.held in
    let k = are_kept c.args.values.now c.step_back.new.values c.resume.new.values c.loop-end.count c.loop-end.mark (os c.loop-end.lams empty)
    (extends_trans c.args.values.now c.chain.new.values c.step_back.new.values (extends_trans c.args.values.now c.loop-end.values c.chain.new.values c.loop-end.invariant.extends c.chain.ensures.extends) c.step_back.ensures.extends) c.loop-end.invariant.kept (number_more c.loop-end.values c.step_back.new.values c.loop-end.mark (os c.loop-end.lams empty)
    (extends_trans c.loop-end.values c.chain.new.values c.step_back.new.values c.chain.ensures.extends c.step_back.ensures.extends) c.loop-end.invariant.mark) c.loop-end.invariant.marked
    (counted_on c.loop-end.count c.loop-end.values c.chain.new.values c.step_back.new.values c.loop-end.invariant.counted c.chain.ensures.extends c.step_back.ensures.extends)
    c.resume.ensures.kept in
    record {
      extends = k.extends;
      mark = k.number;
      marked = i.marked;
      kept = i.kept;
      counted = k.counted;
      walked = resumed c.index-frame.result.now.port c.index-frame.result.now.levels c.loop-end.mark c.loop-end.net c.rewrite_met.new.net c.is_net.ensures.net
          c.loop-end.values c.chain.new.values c.step_back.new.values
          (held_more c.args.values.now c.loop-end.values c.index-frame.result.now.levels c.loop-end.invariant.extends
          (held_this c.args.values.now c.args.asked.now.frames.now.items c.args.asked.now.at
          c.index-frame.result.now c.requires.frames (omega (arith, c.requires.last)) c.index-frame.ensures))
          i.mark.held x y c.resume.new.values c.in-Met.met c.in_ok-before-in-Met.before c.in_ok-walker-in-Met.walker c.in-Met.pair.0
          c.in-Met.pair.1 c.loop-end.run c.rewrite_met.new.run
          (held_more c.args.values.now c.resume.new.values c.index-frame.result.now.levels k.extends
          (held_this c.args.values.now c.args.asked.now.frames.now.items c.args.asked.now.at
          c.index-frame.result.now c.requires.frames (omega (arith, c.requires.last)) c.index-frame.ensures))
          k.number.held held e
          c.in_ok-before-in-Met.ensures.back a c.in_ok-walker-in-Met.ensures.resumes;
      running = running_on c.loop-end.net c.rewrite_met.new.net c.loop-end.run
          c.rewrite_met.new.run c.args.fuel c.in-Met.pair.0.0 c.in-Met.pair.1.0 c.loop-end.invariant.running more c.in_ok-rewrite_met-in-Met.ensures.ok;
      free = free_on c.loop-end.net c.rewrite_met.new.net c.loop-end.run c.rewrite_met.new.run
          c.in-Met.pair.0.0 c.in-Met.pair.1.0 a ∙ i.free;
      under = λ old heads places front s ss z b u.
          let e = end_is c.args.values.now c.args.asked.now.frames.now.items c.args.asked.now.at
          c.index-frame.result.now c.requires.last c.index-frame.ensures front s z c.loop-end.values
          c.loop-end.mark c.loop-end.lams c.loop-end.invariant.extends c.requires.frames
          c.loop-end.invariant.mark.is c.loop-end.net c.chain.new.values c.in_ok-end.end
          (answer.Met c.in-Met.pair c.in-Met.met) (c.in_ok-end.ensures.ends c.index-frame.result.now.port
          (context_of c.loop-end.values (question_of c.index-frame.result.now.levels c.loop-end.mark)) c.loop-end.invariant.walked.chain) c.in-Met.is in
          met_on old c.loop-end.net c.rewrite_met.new.net c.loop-end.run heads places front s ss
          c.loop-end.lams c.in-Met.pair.0.0 c.in-Met.pair.1.0 b
          (c.loop-end.invariant.under old heads places front s ss z b u) c.is_net.ensures.net e.0
          c.rewrite_met.new.run c.loop-end.invariant.running.names c.in_ok-rewrite_met-in-Met.ensures.ok;
    }

pub loop-end-preserved : goal.loop-end-preserved
loop-end-preserved c =
    let i = c.loop-end.invariant in
    let n = (number_at c.loop-end.values c.chain.new.values c.cut.new.self c.loop-end.count c.loop-end.mark
    (os c.loop-end.lams empty) c.cut.ensures c.chain.ensures.extends c.loop-end.invariant.mark c.loop-end.invariant.marked) in
    let r = c.in_ok-mark-in-Undefined.ensures.new in
    let x = (extends_trans c.args.values.now c.cut.new.self c.put_o.new.self (subst (λ (vs : List Level). Extends c.args.values.now vs) (sym c.cut.ensures) (cut_extends c.args.values.now c.chain.new.values c.loop-end.count (extends_trans c.args.values.now c.loop-end.values c.chain.new.values c.loop-end.invariant.extends c.chain.ensures.extends) c.loop-end.invariant.kept)) c.put_o.ensures.extends) in
    record {
      extends = x;
      mark = rw add-one (record { held = r.held; is = r.is ∙ ap o n.is });
      marked = let h = r.held in omega (arith, c.count-count-in-Undefined.ensures.is);
      kept = let l = x.longer in omega (arith, c.count-count-in-Undefined.ensures.is);
      counted = omega (arith, c.count-count-in-Undefined.ensures.is);
      walked = begun_walk c.index-frame.result.now.port c.index-frame.result.now.levels c.in_ok-mark-in-Undefined.mark c.loop-end.net c.put_o.new.self
          c.in_ok-walker-in-Undefined.walker
          (held_more c.args.values.now c.put_o.new.self c.index-frame.result.now.levels x
          (held_this c.args.values.now c.args.asked.now.frames.now.items c.args.asked.now.at
          c.index-frame.result.now c.requires.frames (omega (arith, c.requires.last)) c.index-frame.ensures))
          r.held c.in_ok-walker-in-Undefined.ensures;
      running = i.running;
      free = i.free;
      under = λ old heads places front s ss z b u.
          let e = end_is c.args.values.now c.args.asked.now.frames.now.items c.args.asked.now.at
          c.index-frame.result.now c.requires.last c.index-frame.ensures front s z c.loop-end.values
          c.loop-end.mark c.loop-end.lams c.loop-end.invariant.extends c.requires.frames
          c.loop-end.invariant.mark.is c.loop-end.net c.chain.new.values c.in_ok-end.end
          answer.Undefined (c.in_ok-end.ensures.ends c.index-frame.result.now.port
          (context_of c.loop-end.values (question_of c.index-frame.result.now.levels c.loop-end.mark)) c.loop-end.invariant.walked.chain) c.in-Undefined.is in
          rw add-one (asked_more old c.loop-end.net c.loop-end.run heads places front s ss
          c.loop-end.lams b (c.loop-end.invariant.under old heads places front s ss z b u) e
          (omega (arith, c.if-lams-nodes.false, c.nodes.ensures.nodes)));
    }
