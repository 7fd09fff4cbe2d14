use Rattle.std.proofs.Common.{◌≡◌, ℕ, ◌+◌, ◌-◌, ◌*◌, ◌≤◌, List, length, refl, sym, ap, ◌∙◌, subst, subst₂, arith}
use Rattle.std.proofs.lemmas.Result.{err_from_is_err_and}
use Rattle.ol_net.specs.Graph.{Graph}
use Rattle.ol_context.specs.Contexts.{Level}
use Rattle.ol_context.specs.Shapes.{Extends}
use Rattle.ol_readback.specs.Askers.{IsLastAsked}
use Rattle.ol_readback.specs.Frames.{frames_of}
use Rattle.ol_decoding.specs.Asking.{IsPartFound, IsReply, KeepsUnlessFound}
use Rattle.ol_decoding.specs.declared.asking.Reply.{Reply}
use Rattle.ol_decoding.specs.declared.asking.Reply.TheVariants as reply
use Rattle.ol_decoding.proofs.Asked.{Onward, few_of_graph, started, on_step, on_more, part_found}
use Rattle.ol_decoding.proofs.asking.ask_part.Goals as goal

-- what a reply tells, where the values are as they were at the start
told : (g h : Graph) (fs : List _) (vs us : List Level) (lams left : ℕ) (news : List Level) (r s : Reply) → vs ≡ us →
    r ≡ s → IsReply g h (frames_of vs fs) lams left news r → IsReply g h (frames_of us fs) lams left news s
told g h fs vs us lams left news r s v e h' =
    subst₂ (λ vs r. IsReply g h (frames_of vs fs) lams left news r) v e h'

pub ask_once-requires-clause-few : goal.ask_once-requires-clause-few
ask_once-requires-clause-few c =
    let f = c.loop-reply.invariant.few in
    let r = c.requires.room in
    let b = c.loop-reply.invariant.within in
    omega (arith, f, r, b)

pub ask_once-requires-clause-asked : goal.ask_once-requires-clause-asked
ask_once-requires-clause-asked c =
    let i = c.loop-reply.invariant in
    let a = c.args.asked.now in
    subst₂ (λ free vs. IsLastAsked free vs a.frames.now.items a.skips.now.items a.at) (sym i.free) (sym i.same)
    c.requires.asked

pub returns-in_err-reply-clause-found : goal.returns-in_err-reply-clause-found
returns-in_err-reply-clause-found c =
    let p = err_from_is_err_and c.from_residual.result c.from_residual.ensures.1 in rw p.1 tt

pub returns-in_err-reply-clause-extends : goal.returns-in_err-reply-clause-extends
returns-in_err-reply-clause-extends c =
    subst (λ (vs : List Level). Extends vs c.ask_once.new.values) c.loop-reply.invariant.same c.ask_once.ensures.extends

pub returns-in-Found-clause-extends : goal.returns-in-Found-clause-extends
returns-in-Found-clause-extends c =
    subst (λ (vs : List Level). Extends vs c.ask_once.new.values) c.loop-reply.invariant.same c.ask_once.ensures.extends

pub returns-in-Found-clause-found : goal.returns-in-Found-clause-found
returns-in-Found-clause-found c =
    let i = c.loop-reply.invariant in
    let fs = c.args.asked.now.frames.now.items in
    let vs = c.args.values.now in
    let t = told c.loop-reply.net c.ask_once.new.net fs c.loop-reply.values vs c.loop-reply.lams
    (c.args.fuel - c.loop-reply.made) c.ask_once.new.values c.in_ok-reply.reply (reply.Found c.in-Found.head) i.same
    c.in-Found.is c.in_ok-reply.ensures.reply in
    subst (λ h. IsPartFound c.args.net.now h (frames_of vs fs) c.args.fuel c.ask_once.new.values c.in-Found.head
    c.loop-reply.made) (sym t.0)
    (part_found c.args.net.now c.loop-reply.net (frames_of vs fs) c.args.fuel c.loop-reply.made c.loop-reply.lams
    i.onward i.within i.few i.free c.ask_once.new.values c.in-Found.head t.1 t.2 t.3)

pub loop-reply-init : goal.loop-reply-init
loop-reply-init c = record {
  same = refl;
  within = omega arith;
  few = omega arith;
  free = refl;
  onward = started c.args.net.now (frames_of c.args.values.now c.args.asked.now.frames.now.items) c.args.fuel;
}

pub loop-reply-preserved-in-Rewritten : goal.loop-reply-preserved-in-Rewritten
loop-reply-preserved-in-Rewritten c =
    let i = c.loop-reply.invariant in
    let fs = c.args.asked.now.frames.now.items in
    let vs = c.args.values.now in
    let t = told c.loop-reply.net c.ask_once.new.net fs c.loop-reply.values vs c.loop-reply.lams
    (c.args.fuel - c.loop-reply.made) c.ask_once.new.values c.in_ok-reply.reply reply.Rewritten i.same
    c.in-Rewritten.is c.in_ok-reply.ensures.reply in
    let kept = subst (λ r. KeepsUnlessFound c.loop-reply.values c.ask_once.new.values r) c.in-Rewritten.is
    c.in_ok-reply.ensures.kept in
    record {
      same = kept ∙ i.same;
      within = omega (arith, t.0);
      few = let f = i.few in omega (arith, f, t.1);
      free = t.2 ∙ i.free;
      onward = on_step c.args.net.now c.loop-reply.net (frames_of vs fs) c.args.fuel c.loop-reply.made c.loop-reply.lams
          i.onward c.ask_once.new.net (omega (arith, t.0)) t.3;
    }

pub loop-reply-preserved : goal.loop-reply-preserved
loop-reply-preserved c =
    let i = c.loop-reply.invariant in
    let fs = c.args.asked.now.frames.now.items in
    let vs = c.args.values.now in
    let t = told c.loop-reply.net c.ask_once.new.net fs c.loop-reply.values vs c.loop-reply.lams
    (c.args.fuel - c.loop-reply.made) c.ask_once.new.values c.in_ok-reply.reply reply.OneMore i.same
    c.in-OneMore.is c.in_ok-reply.ensures.reply in
    let kept = subst (λ r. KeepsUnlessFound c.loop-reply.values c.ask_once.new.values r) c.in-OneMore.is
    c.in_ok-reply.ensures.kept in
    record {
      same = kept ∙ i.same;
      within = i.within;
      few = subst (λ (h : Graph). length h.nodes ≤ length c.args.net.now.nodes + 4 * c.loop-reply.made) (sym t.0) i.few;
      free = ap (λ (h : Graph). h.free) t.0 ∙ i.free;
      onward = subst (λ h. Onward c.args.net.now (frames_of vs fs) c.args.fuel c.loop-reply.made (c.loop-reply.lams + 1) h)
          (sym t.0)
          (on_more c.args.net.now c.loop-reply.net (frames_of vs fs) c.args.fuel c.loop-reply.made c.loop-reply.lams
          i.onward t.1 t.2);
    }

pub overflow_add-lams : goal.overflow_add-lams
overflow_add-lams c =
    let i = c.loop-reply.invariant in
    let t = subst (λ r. IsReply c.loop-reply.net c.ask_once.new.net
    (frames_of c.loop-reply.values c.args.asked.now.frames.now.items) c.loop-reply.lams (c.args.fuel - c.loop-reply.made)
    c.ask_once.new.values r) c.in-OneMore.is c.in_ok-reply.ensures.reply in
    let l = few_of_graph c.loop-reply.net in
    let f = i.few in
    let w = i.within in
    let r = c.requires.room in
    omega (arith, t.1, l, f, w, r)
