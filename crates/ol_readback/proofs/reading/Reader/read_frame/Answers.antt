-- The numbers of a frame fit their words, and its last index is in range.
use Rattle.std.proofs.Common.{◌≡◌, ℕ, ◌+◌, ◌^◌, ◌<◌, ◌++◌, [], ◌∷◌, List, length, set, Some, sym, ap, ◌∙◌}
use Rattle.std.proofs.Common.{subst, arith, Fits, w32, w64}
use Rattle.std.proofs.lemmas.List.{length_push}
use Rattle.std.proofs.lemmas.Result.{err_from_is_err_and}
use Rattle.ol_context.proofs.Shapes.{extends_refl, extends_trans}
use Rattle.ol_readback.specs.Askers.{IsHeldIfSome, IsKnownIfSome}
use Rattle.ol_readback.specs.Frames.{frames_of}
use Rattle.ol_readback.specs.Groups.{IsGroupOf}
use Rattle.ol_readback.specs.Reading.{IsFrameList, IsKnown}
use Rattle.ol_readback.specs.Skipping.{AreSkipsOf}
use Rattle.ol_readback.specs.declared.answers.Head.{Head}
use Rattle.ol_readback.specs.declared.frames.Frame.{Frame}
use Rattle.ol_readback.proofs.NextPlaces.{read_stopped, read_stopped_after, read_ended, read_none, read_cut, read_found}
use Rattle.ol_readback.proofs.Places.{list_push, list_pushed, list_more, with_lams, written}
use Rattle.ol_law_edges.proofs.Options.{on_err}
use Rattle.ol_readback.proofs.FrameLists.{count_frames}
use Rattle.ol_readback.proofs.Skips.{parents_any}
use Rattle.ol_readback.proofs.reading.Reader.read_frame.Goals as goal

fits_count : (a n : ℕ) → a ≡ n → n + 1 < 2 ^ 32 → Fits w32 a
fits_count a n e h = omega arith

fits_index : (a n : ℕ) → a ≡ n → n + 1 < 2 ^ 32 → Fits w64 a
fits_index a n e h = omega arith

last_below : (a n m k : ℕ) → a ≡ n → m ≡ n + 1 → k ≡ m → a < k
last_below a n m k e d l = omega arith

pub overflow_cast-at : goal.overflow_cast-at
overflow_cast-at g c = fits_count c.len-at.result (length c.args.self.now.frames.items)
    (c.len-at.ensures ∙ c.args.self.now.frames.ok.0) c.requires.few

pub overflow_cast-at-in-Is : goal.overflow_cast-at-in-Is
overflow_cast-at-in-Is g c = fits_index c.len-at.result (length c.args.self.now.frames.items)
    (c.len-at.ensures ∙ c.args.self.now.frames.ok.0) c.requires.few

pub add_frame-requires-clause-parent : goal.add_frame-requires-clause-parent
add_frame-requires-clause-parent g c = c.requires.frame.parent

pub add_frame-requires-clause-skips : goal.add_frame-requires-clause-skips
add_frame-requires-clause-skips g c = c.requires.reader.skipped

pub add_frame-requires-clause-each : goal.add_frame-requires-clause-each
add_frame-requires-clause-each g c = c.requires.reader.each

pub ask-requires-clause-ready : goal.ask-requires-clause-ready
ask-requires-clause-ready g c = c.requires.ready

pub exit_port-port-requires : goal.exit_port-port-requires
exit_port-port-requires g c =
    let vs = c.args.self.now.values in
    let gs = c.add_frame.new.frames.items in
    let k = subst (IsKnownIfSome (g.A.Asks.free c.ask.new.net) (frames_of vs gs))
    (c.in-Some.is ∙ ap (λ (h : Head). Some h) c.in-Is.is) c.in_ok-answer.ensures.known in
    subst (λ (n : ℕ). IsKnown n c.in-Is.var) (count_frames vs gs) k.0

pub group_of-requires : goal.group_of-requires
group_of-requires g c =
    subst (IsHeldIfSome c.ask.new.values) (c.in-Some.is ∙ ap (λ (h : Head). Some h) c.in-Is.is)
    c.in_ok-answer.ensures.held

pub index_mut-read-requires : goal.index_mut-read-requires
index_mut-read-requires g c = last_below c.len-at.result (length c.args.self.now.frames.items)
    (length c.add_frame.new.frames.items) c.add_frame.new.frames.len
    (c.len-at.ensures ∙ c.args.self.now.frames.ok.0)
    (ap (λ (gs : List Frame). length gs) c.in_ok-add_frame.ensures.frames
    ∙ length_push c.args.self.now.frames.items c.args.frame) c.add_frame.new.frames.ok.0

pub returns-in_err-add_frame-clause-read : goal.returns-in_err-add_frame-clause-read
returns-in_err-add_frame-clause-read g c =
    let p = err_from_is_err_and c.from_residual.result c.from_residual.ensures.1 in rw p.1 tt

pub returns-in_err-add_frame-clause-ready : goal.returns-in_err-add_frame-clause-ready
returns-in_err-add_frame-clause-ready g c =
    let p = err_from_is_err_and c.from_residual.result c.from_residual.ensures.1 in rw p.1 tt

pub returns-in_err-add_frame-clause-free : goal.returns-in_err-add_frame-clause-free
returns-in_err-add_frame-clause-free g c =
    let p = err_from_is_err_and c.from_residual.result c.from_residual.ensures.1 in rw p.1 tt

pub returns-in_err-add_frame-clause-reader : goal.returns-in_err-add_frame-clause-reader
returns-in_err-add_frame-clause-reader g c =
    let p = err_from_is_err_and c.from_residual.result c.from_residual.ensures.1 in rw p.1 tt

pub returns-in_err-add_frame-clause-held : goal.returns-in_err-add_frame-clause-held
returns-in_err-add_frame-clause-held g c =
    let p = err_from_is_err_and c.from_residual.result c.from_residual.ensures.1 in rw p.1 tt

pub returns-in_err-add_frame-clause-placed : goal.returns-in_err-add_frame-clause-placed
returns-in_err-add_frame-clause-placed g c =
    let p = err_from_is_err_and c.from_residual.result c.from_residual.ensures.1 in rw p.1 tt

pub returns-in_err-add_frame-clause-longer : goal.returns-in_err-add_frame-clause-longer
returns-in_err-add_frame-clause-longer g c =
    let p = err_from_is_err_and c.from_residual.result c.from_residual.ensures.1 in rw p.1 tt

pub returns-in_err-add_frame-clause-extends : goal.returns-in_err-add_frame-clause-extends
returns-in_err-add_frame-clause-extends g c = extends_refl c.args.self.now.values

pub returns-in_err-add_frame-clause-stopped : goal.returns-in_err-add_frame-clause-stopped
returns-in_err-add_frame-clause-stopped g c = on_err c.from_residual.result
    (λ s n heads places ss b r. g.met.A.Asks.may_stop s n c.args.asker.now c.args.net.now heads _ r)

pub returns-in_err-answer-clause-read : goal.returns-in_err-answer-clause-read
returns-in_err-answer-clause-read g c =
    let p = err_from_is_err_and c.from_residual-in_err-answer.result c.from_residual-in_err-answer.ensures.1 in rw p.1 tt

pub returns-in_err-answer-clause-ready : goal.returns-in_err-answer-clause-ready
returns-in_err-answer-clause-ready g c =
    let p = err_from_is_err_and c.from_residual-in_err-answer.result c.from_residual-in_err-answer.ensures.1 in rw p.1 tt

pub returns-in_err-answer-clause-free : goal.returns-in_err-answer-clause-free
returns-in_err-answer-clause-free g c =
    let p = err_from_is_err_and c.from_residual-in_err-answer.result c.from_residual-in_err-answer.ensures.1 in rw p.1 tt

pub returns-in_err-answer-clause-reader : goal.returns-in_err-answer-clause-reader
returns-in_err-answer-clause-reader g c =
    let p = err_from_is_err_and c.from_residual-in_err-answer.result c.from_residual-in_err-answer.ensures.1 in rw p.1 tt

pub returns-in_err-answer-clause-held : goal.returns-in_err-answer-clause-held
returns-in_err-answer-clause-held g c =
    let p = err_from_is_err_and c.from_residual-in_err-answer.result c.from_residual-in_err-answer.ensures.1 in rw p.1 tt

pub returns-in_err-answer-clause-placed : goal.returns-in_err-answer-clause-placed
returns-in_err-answer-clause-placed g c =
    let p = err_from_is_err_and c.from_residual-in_err-answer.result c.from_residual-in_err-answer.ensures.1 in rw p.1 tt

pub returns-in_err-answer-clause-longer : goal.returns-in_err-answer-clause-longer
returns-in_err-answer-clause-longer g c =
    let p = err_from_is_err_and c.from_residual-in_err-answer.result c.from_residual-in_err-answer.ensures.1 in rw p.1 tt

pub returns-in_err-answer-clause-extends : goal.returns-in_err-answer-clause-extends
returns-in_err-answer-clause-extends g c = c.ask.ensures.extends

pub returns-in_err-group-in-Is-clause-read : goal.returns-in_err-group-in-Is-clause-read
returns-in_err-group-in-Is-clause-read g c =
    let p = err_from_is_err_and c.from_residual-in_err-group-in-Is.result c.from_residual-in_err-group-in-Is.ensures.1 in rw p.1 tt

pub returns-in_err-group-in-Is-clause-ready : goal.returns-in_err-group-in-Is-clause-ready
returns-in_err-group-in-Is-clause-ready g c =
    let p = err_from_is_err_and c.from_residual-in_err-group-in-Is.result c.from_residual-in_err-group-in-Is.ensures.1 in rw p.1 tt

pub returns-in_err-group-in-Is-clause-free : goal.returns-in_err-group-in-Is-clause-free
returns-in_err-group-in-Is-clause-free g c =
    let p = err_from_is_err_and c.from_residual-in_err-group-in-Is.result c.from_residual-in_err-group-in-Is.ensures.1 in rw p.1 tt

pub returns-in_err-group-in-Is-clause-reader : goal.returns-in_err-group-in-Is-clause-reader
returns-in_err-group-in-Is-clause-reader g c =
    let p = err_from_is_err_and c.from_residual-in_err-group-in-Is.result c.from_residual-in_err-group-in-Is.ensures.1 in rw p.1 tt

pub returns-in_err-group-in-Is-clause-held : goal.returns-in_err-group-in-Is-clause-held
returns-in_err-group-in-Is-clause-held g c =
    let p = err_from_is_err_and c.from_residual-in_err-group-in-Is.result c.from_residual-in_err-group-in-Is.ensures.1 in rw p.1 tt

pub returns-in_err-group-in-Is-clause-placed : goal.returns-in_err-group-in-Is-clause-placed
returns-in_err-group-in-Is-clause-placed g c =
    let p = err_from_is_err_and c.from_residual-in_err-group-in-Is.result c.from_residual-in_err-group-in-Is.ensures.1 in rw p.1 tt

pub returns-in_err-group-in-Is-clause-longer : goal.returns-in_err-group-in-Is-clause-longer
returns-in_err-group-in-Is-clause-longer g c =
    let p = err_from_is_err_and c.from_residual-in_err-group-in-Is.result c.from_residual-in_err-group-in-Is.ensures.1 in rw p.1 tt

pub returns-in_err-group-in-Is-clause-extends : goal.returns-in_err-group-in-Is-clause-extends
returns-in_err-group-in-Is-clause-extends g c = extends_trans c.args.self.now.values
    c.ask.new.values c.group_of.new.values c.ask.ensures.extends c.group_of.ensures.extends

pub returns-in_default-clause-stopped : goal.returns-in_default-clause-stopped
returns-in_default-clause-stopped g c = tt

pub returns-in_default-clause-ready : goal.returns-in_default-clause-ready
returns-in_default-clause-ready g c = c.in_ok-answer.ensures.ready

pub returns-in_default-clause-free : goal.returns-in_default-clause-free
returns-in_default-clause-free g c = c.in_ok-answer.ensures.free

pub returns-in_default-clause-held : goal.returns-in_default-clause-held
returns-in_default-clause-held g c = tt

pub returns-in_default-clause-placed : goal.returns-in_default-clause-placed
returns-in_default-clause-placed g c = tt

pub returns-in_default-clause-extends : goal.returns-in_default-clause-extends
returns-in_default-clause-extends g c = c.ask.ensures.extends

pub returns-in_default-clause-longer : goal.returns-in_default-clause-longer
returns-in_default-clause-longer g c =
    ap (λ (gs : List Frame). length gs) c.in_ok-add_frame.ensures.frames
    ∙ length_push c.args.self.now.frames.items c.args.frame

pub returns-in-NoHead-clause-stopped : goal.returns-in-NoHead-clause-stopped
returns-in-NoHead-clause-stopped g c = tt

pub returns-in-NoHead-clause-ready : goal.returns-in-NoHead-clause-ready
returns-in-NoHead-clause-ready g c = c.in_ok-answer.ensures.ready

pub returns-in-NoHead-clause-free : goal.returns-in-NoHead-clause-free
returns-in-NoHead-clause-free g c = c.in_ok-answer.ensures.free

pub returns-in-NoHead-clause-held : goal.returns-in-NoHead-clause-held
returns-in-NoHead-clause-held g c = tt

pub returns-in-NoHead-clause-placed : goal.returns-in-NoHead-clause-placed
returns-in-NoHead-clause-placed g c = tt

pub returns-in-NoHead-clause-extends : goal.returns-in-NoHead-clause-extends
returns-in-NoHead-clause-extends g c = c.ask.ensures.extends

pub returns-in-NoHead-clause-longer : goal.returns-in-NoHead-clause-longer
returns-in-NoHead-clause-longer g c =
    ap (λ (gs : List Frame). length gs) c.in_ok-add_frame.ensures.frames
    ∙ length_push c.args.self.now.frames.items c.args.frame

pub returns-in-Budget-clause-stopped : goal.returns-in-Budget-clause-stopped
returns-in-Budget-clause-stopped g c = tt

pub returns-in-Budget-clause-ready : goal.returns-in-Budget-clause-ready
returns-in-Budget-clause-ready g c = c.in_ok-answer.ensures.ready

pub returns-in-Budget-clause-free : goal.returns-in-Budget-clause-free
returns-in-Budget-clause-free g c = c.in_ok-answer.ensures.free

pub returns-in-Budget-clause-held : goal.returns-in-Budget-clause-held
returns-in-Budget-clause-held g c = tt

pub returns-in-Budget-clause-placed : goal.returns-in-Budget-clause-placed
returns-in-Budget-clause-placed g c = tt

pub returns-in-Budget-clause-extends : goal.returns-in-Budget-clause-extends
returns-in-Budget-clause-extends g c = c.ask.ensures.extends

pub returns-in-Budget-clause-longer : goal.returns-in-Budget-clause-longer
returns-in-Budget-clause-longer g c =
    ap (λ (gs : List Frame). length gs) c.in_ok-add_frame.ensures.frames
    ∙ length_push c.args.self.now.frames.items c.args.frame

pub returns-in_ok-group-in-Is-clause-stopped : goal.returns-in_ok-group-in-Is-clause-stopped
returns-in_ok-group-in-Is-clause-stopped g c = tt

pub returns-in_ok-group-in-Is-clause-ready : goal.returns-in_ok-group-in-Is-clause-ready
returns-in_ok-group-in-Is-clause-ready g c = c.in_ok-answer.ensures.ready

pub returns-in_ok-group-in-Is-clause-free : goal.returns-in_ok-group-in-Is-clause-free
returns-in_ok-group-in-Is-clause-free g c = c.in_ok-answer.ensures.free

pub returns-in_ok-group-in-Is-clause-held : goal.returns-in_ok-group-in-Is-clause-held
returns-in_ok-group-in-Is-clause-held g c = c.in_ok-group-in-Is.ensures.group.held

pub returns-in_ok-group-in-Is-clause-extends : goal.returns-in_ok-group-in-Is-clause-extends
returns-in_ok-group-in-Is-clause-extends g c = extends_trans c.args.self.now.values
    c.ask.new.values c.group_of.new.values c.ask.ensures.extends c.group_of.ensures.extends

pub returns-in_ok-group-in-Is-clause-longer : goal.returns-in_ok-group-in-Is-clause-longer
returns-in_ok-group-in-Is-clause-longer g c =
    let fs = c.args.self.now.frames.items in
    let at : c.len-at.result ≡ length c.args.self.now.frames.items = c.len-at.ensures ∙ c.args.self.now.frames.ok.0 in
    let z = written fs c.args.frame c.add_frame.new.frames.items c.index_mut-read.result.now c.in-Is.lams
    c.len-at.result c.in_ok-add_frame.ensures.frames at c.index_mut-read.ensures.value in
    ap (λ (gs : List Frame). length gs) z ∙ length_push fs (with_lams c.args.frame c.in-Is.lams)

pub add_frame-requires-clause-parents : goal.add_frame-requires-clause-parents
add_frame-requires-clause-parents g c =
    parents_any c.args.self.now.values c.args.self.now.frames.items c.requires.reader.list.parents

pub ask-requires-clause-asked : goal.ask-requires-clause-asked
ask-requires-clause-asked g c =
    let l = ap (λ (gs : List Frame). length gs) c.in_ok-add_frame.ensures.frames
    ∙ length_push c.args.self.now.frames.items c.args.frame in
    let at : c.len-at.result ≡ length c.args.self.now.frames.items = c.len-at.ensures
    ∙ c.args.self.now.frames.ok.0 in record {
      list = (list_pushed (g.A.Asks.free c.args.net.now) c.args.self.now.values
          c.args.self.now.frames.items c.args.frame c.requires.reader.list c.requires.frame
          c.add_frame.new.frames.items c.in_ok-add_frame.ensures.frames);
      skipped = subst (λ (gs : List Frame). AreSkipsOf gs c.add_frame.new.skips.items)
          (sym {A = List Frame} c.in_ok-add_frame.ensures.frames) (c.in_ok-add_frame.ensures.skips c.args.frame.lams);
      last = omega arith;
    }

pub returns-in_err-answer-clause-stopped : goal.returns-in_err-answer-clause-stopped
returns-in_err-answer-clause-stopped g c =
    on_err c.from_residual-in_err-answer.result
    (read_stopped g.A.Asks.reads g.A.Asks.ends g.A.Asks.stops c.args.asker.now c.args.net.now
    c.ask.new.self c.ask.new.net (g.A.Asks.free c.args.net.now) c.args.self.now.values
    c.ask.new.values c.args.self.now.frames.items c.args.frame c.requires.reader.list
    c.requires.frame c.ask.ensures.extends c.add_frame.new.frames.items
    c.in_ok-add_frame.ensures.frames c.in_err-answer.ensures.stopped)

pub returns-in_default-clause-read : goal.returns-in_default-clause-read
returns-in_default-clause-read g c =
    read_ended g.A.Asks.reads g.A.Asks.ends g.A.Asks.stops c.args.asker.now c.args.net.now
    c.ask.new.self c.ask.new.net (g.A.Asks.free c.args.net.now) c.args.self.now.values
    c.ask.new.values c.args.self.now.frames.items c.args.frame c.requires.reader.list
    c.requires.frame c.ask.ensures.extends c.add_frame.new.frames.items
    c.in_ok-add_frame.ensures.frames c.in_ok-answer.answer c.in_ok-answer.ensures.answered c.in_default.is

pub returns-in_default-clause-reader : goal.returns-in_default-clause-reader
returns-in_default-clause-reader g c =
    record {
      list = list_more (g.A.Asks.free c.args.net.now) c.args.self.now.values c.ask.new.values
          c.add_frame.new.frames.items c.ask.ensures.extends
          (list_pushed (g.A.Asks.free c.args.net.now) c.args.self.now.values
          c.args.self.now.frames.items c.args.frame c.requires.reader.list c.requires.frame
          c.add_frame.new.frames.items c.in_ok-add_frame.ensures.frames);
      skipped = subst (λ (gs : List Frame). AreSkipsOf gs c.add_frame.new.skips.items)
          (sym {A = List Frame} c.in_ok-add_frame.ensures.frames)
          (c.in_ok-add_frame.ensures.skips c.args.frame.lams);
      each = c.in_ok-add_frame.ensures.each;
    }

pub returns-in_err-group-in-Is-clause-stopped : goal.returns-in_err-group-in-Is-clause-stopped
returns-in_err-group-in-Is-clause-stopped g c =
    on_err c.from_residual-in_err-group-in-Is.result
    (read_stopped_after g.A.Asks.reads g.A.Asks.ends g.A.Asks.stops c.args.asker.now
    c.args.net.now c.ask.new.self c.ask.new.net
    (g.A.Asks.free c.args.net.now) c.args.self.now.values c.ask.new.values
    c.args.self.now.frames.items c.args.frame c.requires.reader.list c.requires.frame
    c.ask.ensures.extends c.add_frame.new.frames.items c.in_ok-add_frame.ensures.frames
    c.in_ok-answer.answer c.in-Some.head c.in_ok-answer.ensures.answered c.in-Some.is g.met.A.Asks.may_stop)

pub returns-in-NoHead-clause-read : goal.returns-in-NoHead-clause-read
returns-in-NoHead-clause-read g c =
    read_none g.A.Asks.reads g.A.Asks.ends g.A.Asks.stops c.args.asker.now c.args.net.now
    c.ask.new.self c.ask.new.net (g.A.Asks.free c.args.net.now) c.args.self.now.values
    c.ask.new.values c.args.self.now.frames.items c.args.frame c.requires.reader.list
    c.requires.frame c.ask.ensures.extends c.add_frame.new.frames.items
    c.in_ok-add_frame.ensures.frames c.in_ok-answer.answer c.in-Some.head
    c.in_ok-answer.ensures.answered c.in-Some.is c.in-NoHead.is

pub returns-in-NoHead-clause-reader : goal.returns-in-NoHead-clause-reader
returns-in-NoHead-clause-reader g c =
    record {
      list = list_more (g.A.Asks.free c.args.net.now) c.args.self.now.values c.ask.new.values
          c.add_frame.new.frames.items c.ask.ensures.extends
          (list_pushed (g.A.Asks.free c.args.net.now) c.args.self.now.values
          c.args.self.now.frames.items c.args.frame c.requires.reader.list c.requires.frame
          c.add_frame.new.frames.items c.in_ok-add_frame.ensures.frames);
      skipped = subst (λ (gs : List Frame). AreSkipsOf gs c.add_frame.new.skips.items)
          (sym {A = List Frame} c.in_ok-add_frame.ensures.frames)
          (c.in_ok-add_frame.ensures.skips c.args.frame.lams);
      each = c.in_ok-add_frame.ensures.each;
    }

pub returns-in-Budget-clause-read : goal.returns-in-Budget-clause-read
returns-in-Budget-clause-read g c =
    read_cut g.A.Asks.reads g.A.Asks.ends g.A.Asks.stops c.args.asker.now c.args.net.now
    c.ask.new.self c.ask.new.net (g.A.Asks.free c.args.net.now) c.args.self.now.values
    c.ask.new.values c.args.self.now.frames.items c.args.frame c.requires.reader.list
    c.requires.frame c.ask.ensures.extends c.add_frame.new.frames.items
    c.in_ok-add_frame.ensures.frames c.in_ok-answer.answer c.in-Some.head
    c.in_ok-answer.ensures.answered c.in-Some.is c.in-Budget.is

pub returns-in-Budget-clause-reader : goal.returns-in-Budget-clause-reader
returns-in-Budget-clause-reader g c =
    record {
      list = list_more (g.A.Asks.free c.args.net.now) c.args.self.now.values c.ask.new.values
          c.add_frame.new.frames.items c.ask.ensures.extends
          (list_pushed (g.A.Asks.free c.args.net.now) c.args.self.now.values
          c.args.self.now.frames.items c.args.frame c.requires.reader.list c.requires.frame
          c.add_frame.new.frames.items c.in_ok-add_frame.ensures.frames);
      skipped = subst (λ (gs : List Frame). AreSkipsOf gs c.add_frame.new.skips.items)
          (sym {A = List Frame} c.in_ok-add_frame.ensures.frames)
          (c.in_ok-add_frame.ensures.skips c.args.frame.lams);
      each = c.in_ok-add_frame.ensures.each;
    }

pub returns-in_ok-group-in-Is-clause-read : goal.returns-in_ok-group-in-Is-clause-read
returns-in_ok-group-in-Is-clause-read g c =
    let vs = c.args.self.now.values in
    let ws = c.group_of.new.values in
    let fs = c.args.self.now.frames.items in
    let gs = c.add_frame.new.frames.items in
    let r = c.index_mut-read.result.now in
    let at : c.len-at.result ≡ length c.args.self.now.frames.items = c.len-at.ensures ∙ c.args.self.now.frames.ok.0 in
    let z = written fs c.args.frame gs r c.in-Is.lams c.len-at.result
    c.in_ok-add_frame.ensures.frames at c.index_mut-read.ensures.value in
    let y = subst (λ (i : ℕ). IsGroupOf c.ask.new.values ws i c.exit_port-port.result c.in-Is.args
    c.in-Is.levels c.in_ok-group-in-Is.group) at c.in_ok-group-in-Is.ensures.group in
    read_found g.A.Asks.reads g.A.Asks.ends g.A.Asks.stops c.args.asker.now c.args.net.now
    c.ask.new.self c.ask.new.net (g.A.Asks.free c.args.net.now) c.args.self.now.values
    c.ask.new.values c.args.self.now.frames.items c.args.frame c.requires.reader.list
    c.requires.frame c.ask.ensures.extends c.add_frame.new.frames.items
    c.in_ok-add_frame.ensures.frames c.in_ok-answer.answer c.in-Some.head
    c.in_ok-answer.ensures.answered c.in-Some.is
    ws (extends_trans vs c.ask.new.values ws c.ask.ensures.extends c.group_of.ensures.extends)
    (set gs c.len-at.result (with_lams r c.in-Is.lams)) c.in-Is.lams c.exit_port-port.result
    c.in-Is.args c.in-Is.var c.in-Is.levels c.in_ok-group-in-Is.group z c.exit_port-port.ensures y c.in-Is.is

pub returns-in_ok-group-in-Is-clause-reader : goal.returns-in_ok-group-in-Is-clause-reader
returns-in_ok-group-in-Is-clause-reader g c =
    let vs = c.args.self.now.values in
    let ws = c.group_of.new.values in
    let fs = c.args.self.now.frames.items in
    let gs = c.add_frame.new.frames.items in
    let r = c.index_mut-read.result.now in
    let at : c.len-at.result ≡ length c.args.self.now.frames.items = c.len-at.ensures ∙ c.args.self.now.frames.ok.0 in
    let z = written fs c.args.frame gs r c.in-Is.lams c.len-at.result
    c.in_ok-add_frame.ensures.frames at c.index_mut-read.ensures.value in
    record {
      list = subst (λ (fs : List Frame). IsFrameList (g.A.Asks.free c.args.net.now) ws fs) (sym z)
          (list_more (g.A.Asks.free c.args.net.now) vs ws
          (fs ++ with_lams c.args.frame c.in-Is.lams ∷ [])
          (extends_trans vs c.ask.new.values ws c.ask.ensures.extends c.group_of.ensures.extends)
          (list_push (g.A.Asks.free c.args.net.now) vs fs c.args.frame c.requires.reader.list
          c.requires.frame c.in-Is.lams));
      skipped = subst (λ (gs : List Frame). AreSkipsOf gs c.add_frame.new.skips.items) (sym z)
          (c.in_ok-add_frame.ensures.skips c.in-Is.lams);
      each =
          let a = ap (λ (gs : List Frame). length gs) z ∙ length_push fs (with_lams c.args.frame c.in-Is.lams) in
          let b = ap (λ (gs : List Frame). length gs) c.in_ok-add_frame.ensures.frames ∙ length_push fs c.args.frame in
          let e = c.in_ok-add_frame.ensures.each in
          omega arith;
    }

pub returns-in_ok-group-in-Is-clause-placed : goal.returns-in_ok-group-in-Is-clause-placed
returns-in_ok-group-in-Is-clause-placed g c =
    let vs = c.args.self.now.values in
    let ws = c.group_of.new.values in
    let fs = c.args.self.now.frames.items in
    let gs = c.add_frame.new.frames.items in
    let r = c.index_mut-read.result.now in
    let at : c.len-at.result ≡ length c.args.self.now.frames.items = c.len-at.ensures ∙ c.args.self.now.frames.ok.0 in
    let z = written fs c.args.frame gs r c.in-Is.lams c.len-at.result
    c.in_ok-add_frame.ensures.frames at c.index_mut-read.ensures.value in
    let n = ap (λ (gs : List Frame). length gs) z ∙ length_push fs (with_lams c.args.frame c.in-Is.lams) in
    let k = subst (IsKnownIfSome (g.A.Asks.free c.ask.new.net) (frames_of vs gs))
    (c.in-Some.is ∙ ap (λ (h : Head). Some h) c.in-Is.is) c.in_ok-answer.ensures.known in
    let q = c.exit_port-port.ensures vs in
    let f = c.in_ok-answer.ensures.free in
    c.in_ok-group-in-Is.ensures.group.placed (g.A.Asks.free c.args.net.now)
    (length (set gs c.len-at.result (with_lams r c.in-Is.lams))) (omega (arith, k.1)) (omega arith)
