-- A truth value is not both.
use Rattle.std.proofs.Common.{◌≡◌, ℕ, true, false, Option, MatchOption, length, refl, sym, ◌∙◌, subst, arith}
use Rattle.std.proofs.lemmas.Result.{err_from_is_err_and}
use Rattle.ol_readback.specs.Groups.{NoneLeft, IsNext, IsNextFrame}
use Rattle.ol_readback.specs.NextPlaces.{IsReader, ArePlacedIfSome}
use Rattle.ol_readback.specs.declared.frames.Frame.{Frame}
use Rattle.ol_readback.proofs.Onward.{stopped_read, ended_read, read_stops, after_read, before_next}
use Rattle.ol_readback.proofs.Onward.{at_end, at_cut, first_before}
use Rattle.ol_law_edges.proofs.Options.{on_err}
use Rattle.ol_readback.proofs.reading.read_on.Goals as goal

clash : true ≡ false → ⊥
clash e = cc

pub read_frame-requires-clause-ready : goal.read_frame-requires-clause-ready
read_frame-requires-clause-ready g c = c.places.invariant.ready

pub cut_all-requires : goal.cut_all-requires
cut_all-requires g c = c.in_ok-put.ensures.few

pub returns-in_err-node-clause-read : goal.returns-in_err-node-clause-read
returns-in_err-node-clause-read g c =
    let p = err_from_is_err_and c.from_residual.result c.from_residual.ensures.1 in rw p.1 tt

pub returns-in_err-node-clause-ends : goal.returns-in_err-node-clause-ends
returns-in_err-node-clause-ends g c =
    let p = err_from_is_err_and c.from_residual.result c.from_residual.ensures.1 in rw p.1 tt

pub returns-in_err-node-clause-few : goal.returns-in_err-node-clause-few
returns-in_err-node-clause-few g c =
    let p = err_from_is_err_and c.from_residual.result c.from_residual.ensures.1 in rw p.1 tt

pub returns-in_err-node-clause-free : goal.returns-in_err-node-clause-free
returns-in_err-node-clause-free g c =
    let p = err_from_is_err_and c.from_residual.result c.from_residual.ensures.1 in rw p.1 tt

pub returns-in_err-put-clause-read : goal.returns-in_err-put-clause-read
returns-in_err-put-clause-read g c =
    let p = err_from_is_err_and c.from_residual-in_err-put.result c.from_residual-in_err-put.ensures.1 in rw p.1 tt

pub returns-in_err-put-clause-ends : goal.returns-in_err-put-clause-ends
returns-in_err-put-clause-ends g c =
    let p = err_from_is_err_and c.from_residual-in_err-put.result c.from_residual-in_err-put.ensures.1 in rw p.1 tt

pub returns-in_err-put-clause-few : goal.returns-in_err-put-clause-few
returns-in_err-put-clause-few g c =
    let p = err_from_is_err_and c.from_residual-in_err-put.result c.from_residual-in_err-put.ensures.1 in rw p.1 tt

pub returns-in_err-put-clause-free : goal.returns-in_err-put-clause-free
returns-in_err-put-clause-free g c =
    let p = err_from_is_err_and c.from_residual-in_err-put.result c.from_residual-in_err-put.ensures.1 in rw p.1 tt

pub returns-in_err-add-clause-read : goal.returns-in_err-add-clause-read
returns-in_err-add-clause-read g c =
    let p = err_from_is_err_and c.from_residual-in_err-add.result c.from_residual-in_err-add.ensures.1 in rw p.1 tt

pub returns-in_err-add-clause-ends : goal.returns-in_err-add-clause-ends
returns-in_err-add-clause-ends g c =
    let p = err_from_is_err_and c.from_residual-in_err-add.result c.from_residual-in_err-add.ensures.1 in rw p.1 tt

pub returns-in_err-add-clause-few : goal.returns-in_err-add-clause-few
returns-in_err-add-clause-few g c =
    let p = err_from_is_err_and c.from_residual-in_err-add.result c.from_residual-in_err-add.ensures.1 in rw p.1 tt

pub returns-in_err-add-clause-free : goal.returns-in_err-add-clause-free
returns-in_err-add-clause-free g c =
    let p = err_from_is_err_and c.from_residual-in_err-add.result c.from_residual-in_err-add.ensures.1 in rw p.1 tt

pub returns-in_err-cut_all-clause-read : goal.returns-in_err-cut_all-clause-read
returns-in_err-cut_all-clause-read g c =
    let p = err_from_is_err_and c.from_residual-in_err-cut_all.result c.from_residual-in_err-cut_all.ensures.1 in rw p.1 tt

pub returns-in_err-cut_all-clause-ends : goal.returns-in_err-cut_all-clause-ends
returns-in_err-cut_all-clause-ends g c =
    let p = err_from_is_err_and c.from_residual-in_err-cut_all.result c.from_residual-in_err-cut_all.ensures.1 in rw p.1 tt

pub returns-in_err-cut_all-clause-few : goal.returns-in_err-cut_all-clause-few
returns-in_err-cut_all-clause-few g c =
    let p = err_from_is_err_and c.from_residual-in_err-cut_all.result c.from_residual-in_err-cut_all.ensures.1 in rw p.1 tt

pub returns-in_err-cut_all-clause-free : goal.returns-in_err-cut_all-clause-free
returns-in_err-cut_all-clause-free g c =
    let p = err_from_is_err_and c.from_residual-in_err-cut_all.result c.from_residual-in_err-cut_all.ensures.1 in rw p.1 tt

pub returns-in_err-argument-clause-read : goal.returns-in_err-argument-clause-read
returns-in_err-argument-clause-read g c =
    let p = err_from_is_err_and c.from_residual-in_err-argument.result c.from_residual-in_err-argument.ensures.1 in rw p.1 tt

pub returns-in_err-argument-clause-ends : goal.returns-in_err-argument-clause-ends
returns-in_err-argument-clause-ends g c =
    let p = err_from_is_err_and c.from_residual-in_err-argument.result c.from_residual-in_err-argument.ensures.1 in rw p.1 tt

pub returns-in_err-argument-clause-few : goal.returns-in_err-argument-clause-few
returns-in_err-argument-clause-few g c =
    let p = err_from_is_err_and c.from_residual-in_err-argument.result c.from_residual-in_err-argument.ensures.1 in rw p.1 tt

pub returns-in_err-argument-clause-free : goal.returns-in_err-argument-clause-free
returns-in_err-argument-clause-free g c =
    let p = err_from_is_err_and c.from_residual-in_err-argument.result c.from_residual-in_err-argument.ensures.1 in rw p.1 tt

pub returns-in_default-clause-stopped : goal.returns-in_default-clause-stopped
returns-in_default-clause-stopped g c = tt

pub returns-in_default-clause-free : goal.returns-in_default-clause-free
returns-in_default-clause-free g c = c.in_ok-node.ensures.free ∙ c.places.invariant.free

pub returns-in_default-clause-few : goal.returns-in_default-clause-few
returns-in_default-clause-few g c = c.places.invariant.before.few

pub returns-then-len-most-clause-stopped : goal.returns-then-len-most-clause-stopped
returns-then-len-most-clause-stopped g c = tt

pub returns-then-len-most-clause-free : goal.returns-then-len-most-clause-free
returns-then-len-most-clause-free g c = c.in_ok-node.ensures.free ∙ c.places.invariant.free

pub returns-then-len-most-clause-few : goal.returns-then-len-most-clause-few
returns-then-len-most-clause-few g c = c.in_ok-cut_all.ensures.few

pub returns-in_default-2-clause-stopped : goal.returns-in_default-2-clause-stopped
returns-in_default-2-clause-stopped g c = tt

pub returns-in_default-2-clause-free : goal.returns-in_default-2-clause-free
returns-in_default-2-clause-free g c = c.in_ok-node.ensures.free ∙ c.places.invariant.free

pub returns-in_default-2-clause-few : goal.returns-in_default-2-clause-few
returns-in_default-2-clause-few g c = c.in_ok-put.ensures.few

pub returns-in_default-clause-read : goal.returns-in_default-clause-read
returns-in_default-clause-read g c = λ is. absurd (clash (sym is))

pub returns-then-len-most-clause-ends : goal.returns-then-len-most-clause-ends
returns-then-len-most-clause-ends g c = λ is. absurd (clash is)

pub returns-in_default-2-clause-ends : goal.returns-in_default-2-clause-ends
returns-in_default-2-clause-ends g c = λ is. absurd (clash is)

pub places-init : goal.places-init
places-init g c =
    record {
      before = first_before (g.A.Asks.reads c.args.asker.now c.args.net.now c.args.asker.now
          c.args.net.now c.args.heads) c.args.heads
          (g.A.Asks.free c.args.net.now) c.args.reader.now.values c.args.reader.now.frames.items
          c.args.reader.now.skips.items c.first_frame-frame.result c.args.nodes.now.items
          c.args.pending.now.items c.requires.begins
          c.requires.heads c.requires.root c.requires.frames c.requires.skips
          c.first_frame-frame.ensures c.requires.nodes c.requires.pending;
      ready = c.requires.ready;
      free = refl;
    }

pub read_frame-requires-clause-reader : goal.read_frame-requires-clause-reader
read_frame-requires-clause-reader g c =
    subst (λ (free : ℕ). IsReader free c.places.reader.values
    c.places.reader.frames.items c.places.reader.skips.items)
    (sym c.places.invariant.free) c.places.invariant.before.reader

pub read_frame-requires-clause-frame : goal.read_frame-requires-clause-frame
read_frame-requires-clause-frame g c =
    subst (λ (free : ℕ). IsNextFrame free
    (length c.places.reader.frames.items) c.places.reader.values
    c.places.frame) (sym c.places.invariant.free) c.places.invariant.before.frame

pub returns-in_err-node-clause-stopped : goal.returns-in_err-node-clause-stopped
returns-in_err-node-clause-stopped g c =
    on_err c.from_residual.result (stopped_read g.A.Asks.reads g.A.Asks.ends g.A.Asks.stops
    c.args.asker.now c.args.net.now c.places.asker c.places.net
    c.read_frame.new.asker c.read_frame.new.net c.args.heads
    (g.A.Asks.free c.args.net.now) c.places.reader.values
    c.places.reader.frames.items c.places.reader.skips.items c.places.frame
    c.places.nodes.items c.places.pending.items c.places.invariant.before
    c.in_err-node.ensures.stopped)

pub returns-in_default-clause-ends : goal.returns-in_default-clause-ends
returns-in_default-clause-ends g c = λ is.
    ended_read g.A.Asks.reads g.A.Asks.ends g.A.Asks.stops c.args.asker.now c.args.net.now
    c.places.asker c.places.net c.read_frame.new.asker c.read_frame.new.net
    c.args.heads (g.A.Asks.free c.args.net.now) c.places.reader.values
    c.places.reader.frames.items c.places.reader.skips.items c.places.frame
    c.places.nodes.items c.places.pending.items c.places.invariant.before
    c.read_frame.new.self.values c.read_frame.new.self.frames.items c.in_ok-node.field-0
    c.in_ok-node.ensures.read c.in_default.is

pub returns-in_err-put-clause-stopped : goal.returns-in_err-put-clause-stopped
returns-in_err-put-clause-stopped g c =
    on_err c.from_residual-in_err-put.result
    (read_stops g.A.Asks.reads g.A.Asks.ends g.A.Asks.stops c.args.asker.now c.args.net.now
    c.places.asker c.places.net c.read_frame.new.asker c.read_frame.new.net
    c.args.heads (g.A.Asks.free c.args.net.now) c.places.reader.values
    c.places.reader.frames.items c.places.reader.skips.items c.places.frame
    c.places.nodes.items c.places.pending.items c.places.invariant.before
    c.read_frame.new.self.values c.read_frame.new.self.frames.items c.in_ok-node.field-0
    c.in_ok-node.ensures.read (c.in-Some.node, c.in-Some.group) c.in-Some.is g.met.A.Asks.may_stop)

pub returns-in_err-add-clause-stopped : goal.returns-in_err-add-clause-stopped
returns-in_err-add-clause-stopped g c =
    on_err c.from_residual-in_err-add.result
    (read_stops g.A.Asks.reads g.A.Asks.ends g.A.Asks.stops c.args.asker.now c.args.net.now
    c.places.asker c.places.net c.read_frame.new.asker c.read_frame.new.net
    c.args.heads (g.A.Asks.free c.args.net.now) c.places.reader.values
    c.places.reader.frames.items c.places.reader.skips.items c.places.frame
    c.places.nodes.items c.places.pending.items c.places.invariant.before
    c.read_frame.new.self.values c.read_frame.new.self.frames.items c.in_ok-node.field-0
    c.in_ok-node.ensures.read (c.in-Some.node, c.in-Some.group) c.in-Some.is g.met.A.Asks.may_stop)

pub returns-in_err-cut_all-clause-stopped : goal.returns-in_err-cut_all-clause-stopped
returns-in_err-cut_all-clause-stopped g c =
    on_err c.from_residual-in_err-cut_all.result
    (read_stops g.A.Asks.reads g.A.Asks.ends g.A.Asks.stops c.args.asker.now c.args.net.now
    c.places.asker c.places.net c.read_frame.new.asker c.read_frame.new.net
    c.args.heads (g.A.Asks.free c.args.net.now) c.places.reader.values
    c.places.reader.frames.items c.places.reader.skips.items c.places.frame
    c.places.nodes.items c.places.pending.items c.places.invariant.before
    c.read_frame.new.self.values c.read_frame.new.self.frames.items c.in_ok-node.field-0
    c.in_ok-node.ensures.read (c.in-Some.node, c.in-Some.group) c.in-Some.is g.met.A.Asks.may_stop)

pub returns-in_err-argument-clause-stopped : goal.returns-in_err-argument-clause-stopped
returns-in_err-argument-clause-stopped g c =
    on_err c.from_residual-in_err-argument.result
    (read_stops g.A.Asks.reads g.A.Asks.ends g.A.Asks.stops c.args.asker.now c.args.net.now
    c.places.asker c.places.net c.read_frame.new.asker c.read_frame.new.net
    c.args.heads (g.A.Asks.free c.args.net.now) c.places.reader.values
    c.places.reader.frames.items c.places.reader.skips.items c.places.frame
    c.places.nodes.items c.places.pending.items c.places.invariant.before
    c.read_frame.new.self.values c.read_frame.new.self.frames.items c.in_ok-node.field-0
    c.in_ok-node.ensures.read (c.in-Some.node, c.in-Some.group) c.in-Some.is g.met.A.Asks.may_stop)

pub returns-then-len-most-clause-read : goal.returns-then-len-most-clause-read
returns-then-len-most-clause-read g c = λ is.
    let a = after_read g.A.Asks.reads g.A.Asks.ends g.A.Asks.stops c.args.asker.now c.args.net.now
    c.places.asker c.places.net c.read_frame.new.asker c.read_frame.new.net
    c.args.heads (g.A.Asks.free c.args.net.now) c.places.reader.values
    c.places.reader.frames.items c.places.reader.skips.items c.places.frame
    c.places.nodes.items c.places.pending.items c.places.invariant.before
    c.read_frame.new.self.values c.read_frame.new.self.frames.items c.in_ok-node.field-0
    c.in_ok-node.ensures.read (
      c.in-Some.node,
      c.in-Some.group,
    ) c.in-Some.is c.read_frame.new.self.skips.items c.put.new.nodes.items
    c.add.new.pending.items c.read_frame.ensures.extends
    (subst (λ (free : ℕ). IsReader free c.read_frame.new.self.values
    c.read_frame.new.self.frames.items c.read_frame.new.self.skips.items)
    c.places.invariant.free c.in_ok-node.ensures.reader)
    c.in_ok-node.ensures.held (subst (λ (free : ℕ).
    ArePlacedIfSome free (length c.read_frame.new.self.frames.items) c.in_ok-node.field-0)
    c.places.invariant.free c.in_ok-node.ensures.placed) c.in_ok-node.ensures.longer
    c.in_ok-put.ensures.last c.in_ok-add.ensures in
    at_cut (g.A.Asks.reads c.args.asker.now c.args.net.now c.read_frame.new.asker
    c.read_frame.new.net c.args.heads) c.args.heads
    (g.A.Asks.free c.args.net.now) c.read_frame.new.self.values
    c.read_frame.new.self.frames.items c.read_frame.new.self.skips.items c.put.new.nodes.items
    c.add.new.pending.items a c.cut_all.new.nodes.items
    (omega (arith, c.if-len-most.true, c.len.ensures, c.read_frame.new.self.frames.ok.0))
    (c.in_ok-cut_all.ensures.cut c.read_frame.new.self.values)

pub next-requires : goal.next-requires
next-requires g c =
    let a = after_read g.A.Asks.reads g.A.Asks.ends g.A.Asks.stops c.args.asker.now c.args.net.now
    c.places.asker c.places.net c.read_frame.new.asker c.read_frame.new.net
    c.args.heads (g.A.Asks.free c.args.net.now) c.places.reader.values
    c.places.reader.frames.items c.places.reader.skips.items c.places.frame
    c.places.nodes.items c.places.pending.items c.places.invariant.before
    c.read_frame.new.self.values c.read_frame.new.self.frames.items c.in_ok-node.field-0
    c.in_ok-node.ensures.read (
      c.in-Some.node,
      c.in-Some.group,
    ) c.in-Some.is c.read_frame.new.self.skips.items c.put.new.nodes.items
    c.add.new.pending.items c.read_frame.ensures.extends
    (subst (λ (free : ℕ). IsReader free c.read_frame.new.self.values
    c.read_frame.new.self.frames.items c.read_frame.new.self.skips.items)
    c.places.invariant.free c.in_ok-node.ensures.reader)
    c.in_ok-node.ensures.held (subst (λ (free : ℕ).
    ArePlacedIfSome free (length c.read_frame.new.self.frames.items) c.in_ok-node.field-0)
    c.places.invariant.free c.in_ok-node.ensures.placed) c.in_ok-node.ensures.longer
    c.in_ok-put.ensures.last c.in_ok-add.ensures in
    a.held

pub returns-in_default-2-clause-read : goal.returns-in_default-2-clause-read
returns-in_default-2-clause-read g c = λ is.
    let a = after_read g.A.Asks.reads g.A.Asks.ends g.A.Asks.stops c.args.asker.now c.args.net.now
    c.places.asker c.places.net c.read_frame.new.asker c.read_frame.new.net
    c.args.heads (g.A.Asks.free c.args.net.now) c.places.reader.values
    c.places.reader.frames.items c.places.reader.skips.items c.places.frame
    c.places.nodes.items c.places.pending.items c.places.invariant.before
    c.read_frame.new.self.values c.read_frame.new.self.frames.items c.in_ok-node.field-0
    c.in_ok-node.ensures.read (
      c.in-Some.node,
      c.in-Some.group,
    ) c.in-Some.is c.read_frame.new.self.skips.items c.put.new.nodes.items
    c.add.new.pending.items c.read_frame.ensures.extends
    (subst (λ (free : ℕ). IsReader free c.read_frame.new.self.values
    c.read_frame.new.self.frames.items c.read_frame.new.self.skips.items)
    c.places.invariant.free c.in_ok-node.ensures.reader)
    c.in_ok-node.ensures.held (subst (λ (free : ℕ).
    ArePlacedIfSome free (length c.read_frame.new.self.frames.items) c.in_ok-node.field-0)
    c.places.invariant.free c.in_ok-node.ensures.placed) c.in_ok-node.ensures.longer
    c.in_ok-put.ensures.last c.in_ok-add.ensures in
    let n = subst (λ (r : Option Frame).
    MatchOption r (NoneLeft c.read_frame.new.self.values c.add.new.pending.items)
    (λ f. IsNext c.read_frame.new.self.values c.next.new.values c.add.new.pending.items
    c.next.new.pending.items f)) c.in_default-2.is c.in_ok-argument.ensures.next in
    at_end (g.A.Asks.reads c.args.asker.now c.args.net.now c.read_frame.new.asker
    c.read_frame.new.net c.args.heads) c.args.heads
    (g.A.Asks.free c.args.net.now) c.read_frame.new.self.values
    c.read_frame.new.self.frames.items c.read_frame.new.self.skips.items c.put.new.nodes.items
    c.add.new.pending.items a n

pub places-preserved : goal.places-preserved
places-preserved g c =
    let a = after_read g.A.Asks.reads g.A.Asks.ends g.A.Asks.stops c.args.asker.now c.args.net.now
    c.places.asker c.places.net c.read_frame.new.asker c.read_frame.new.net
    c.args.heads (g.A.Asks.free c.args.net.now) c.places.reader.values
    c.places.reader.frames.items c.places.reader.skips.items c.places.frame
    c.places.nodes.items c.places.pending.items c.places.invariant.before
    c.read_frame.new.self.values c.read_frame.new.self.frames.items c.in_ok-node.field-0
    c.in_ok-node.ensures.read (
      c.in-Some.node,
      c.in-Some.group,
    ) c.in-Some.is c.read_frame.new.self.skips.items c.put.new.nodes.items
    c.add.new.pending.items c.read_frame.ensures.extends
    (subst (λ (free : ℕ). IsReader free c.read_frame.new.self.values
    c.read_frame.new.self.frames.items c.read_frame.new.self.skips.items)
    c.places.invariant.free c.in_ok-node.ensures.reader)
    c.in_ok-node.ensures.held (subst (λ (free : ℕ).
    ArePlacedIfSome free (length c.read_frame.new.self.frames.items) c.in_ok-node.field-0)
    c.places.invariant.free c.in_ok-node.ensures.placed) c.in_ok-node.ensures.longer
    c.in_ok-put.ensures.last c.in_ok-add.ensures in
    let n = subst (λ (r : Option Frame).
    MatchOption r (NoneLeft c.read_frame.new.self.values c.add.new.pending.items)
    (λ f. IsNext c.read_frame.new.self.values c.next.new.values c.add.new.pending.items
    c.next.new.pending.items f)) c.in-Some-2.is c.in_ok-argument.ensures.next in
    record {
      before = before_next (g.A.Asks.reads c.args.asker.now c.args.net.now c.read_frame.new.asker
          c.read_frame.new.net c.args.heads) c.args.heads
          (g.A.Asks.free c.args.net.now) c.read_frame.new.self.values
          c.read_frame.new.self.frames.items c.read_frame.new.self.skips.items c.put.new.nodes.items
          c.add.new.pending.items a c.next.new.values c.in-Some-2.argument c.next.new.pending.items
          c.next.ensures.extends n (omega (
            arith,
            c.if-len-most.false,
            c.len.ensures,
            c.read_frame.new.self.frames.ok.0,
          )) c.in_ok-put.ensures.few;
      ready = c.in_ok-node.ensures.ready;
      free = c.in_ok-node.ensures.free ∙ c.places.invariant.free;
    }
