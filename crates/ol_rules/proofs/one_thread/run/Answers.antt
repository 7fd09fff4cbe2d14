use Rattle.std.proofs.Common.{ℕ, ◌≡◌, ◌≢◌, ◌≤◌, List, [], length, sym, ap, ◌∙◌, subst, arith, inl, inr}
use Rattle.ol_rules.specs.declared.journal.NodeName.{NodeName}
use Rattle.ol_rules.specs.declared.journal.Entry.{Entry}
use Rattle.ol_rules.specs.Runs.{RunsTo}
use Rattle.ol_rules.proofs.OnTheWay.{IsUnderWay, begins}
use Rattle.ol_rules.proofs.OneThread.{some_active, runs_to, stops_here, stops_after, advanced, within_on}
use Rattle.ol_rules.proofs.one_thread.run.Goals as goal
use Rattle.ol_law_edges.proofs.Options.{on_err}

pub returns-in_err-running-clause-no_memory : goal.returns-in_err-running-clause-no_memory
returns-in_err-running-clause-no_memory c =
    let b = begins c.args.net.now c.begin.ensures.is_net in
    on_err c.from_residual.result (stops_here c.args.net.now c.args.net.now c.args.fuel
    (length c.args.net.now.nodes) [] [] b (omega arith))

pub loop-lead-init : goal.loop-lead-init
loop-lead-init c =
    let e = c.in_ok-running.ensures in
    let U : ℕ → List NodeName → List Entry → Type 0 = λ s ns es. IsUnderWay c.args.net.now c.args.net.now s ns es in
    record {
      under_way = subst (λ s. U s c.in_ok-running.running.under_way.names.born.items
          c.in_ok-running.running.under_way.journal) (sym e.start)
          (subst (λ ns. U (length c.args.net.now.nodes) ns c.in_ok-running.running.under_way.journal)
          (sym e.born) (subst (λ es. U (length c.args.net.now.nodes) [] es) (sym e.journal)
          (begins c.args.net.now e.is_net)));
      waits = e.waits;
      is_net = e.is_net;
      within = let P : List Entry → Type 0 = λ es. length es ≤ c.args.fuel in
          let z : P [] = omega arith in subst P (sym e.journal) z;
    }

pub returns-then-len-fuel-clause-runs : goal.returns-then-len-fuel-clause-runs
returns-then-len-fuel-clause-runs c =
    let i = c.loop-lead.invariant in
    let q : length c.loop-lead.running.under_way.journal ≡ c.args.fuel = sym c.len.ensures ∙ c.if-len-fuel.true in
    subst (λ es. RunsTo c.args.net.now c.args.fuel es c.loop-lead.net) (sym c.end.ensures.journal)
    (runs_to c.args.net.now c.loop-lead.net c.args.fuel c.loop-lead.running.under_way.names.start
    c.loop-lead.running.under_way.names.born.items c.loop-lead.running.under_way.journal i.under_way i.within (inr q))

pub returns-then-len-fuel-clause-done : goal.returns-then-len-fuel-clause-done
returns-then-len-fuel-clause-done c =
    let a = some_active c.loop-lead.net c.in-Some.lead.0 c.in-Some.partner.0 c.in-Some.ensures.lead in
    let s = c.end.ensures.ended in
    ((λ e. absurd (cc)), (λ k. absurd (k a.0 a.1 a.2 a.3)))

pub returns-then-len-fuel-clause-spent : goal.returns-then-len-fuel-clause-spent
returns-then-len-fuel-clause-spent c =
    let q : length c.loop-lead.running.under_way.journal ≡ c.args.fuel = sym c.len.ensures ∙ c.if-len-fuel.true in (
      (λ e. (
        ap (λ (es : List Entry). length es) c.end.ensures.journal ∙ q,
        some_active c.loop-lead.net c.in-Some.lead.0 c.in-Some.partner.0 c.in-Some.ensures.lead,
      )),
      (λ e. c.end.ensures.ended),
    )

pub loop-lead-preserved : goal.loop-lead-preserved
loop-lead-preserved c =
    let i = c.loop-lead.invariant in
    let a = c.in_ok-advance.ensures.ok in
    let more : length c.loop-lead.running.under_way.journal ≢ c.args.fuel = λ q. c.if-len-fuel.false (c.len.ensures ∙ q) in
    let P : List Entry → Type 0 = λ es. length es ≤ c.args.fuel in
    record {
      under_way = advanced c.args.net.now c.loop-lead.net c.advance.new.net c.loop-lead.running.under_way c.advance.new.self.under_way
          i.under_way i.is_net c.in-Some.lead.0 c.in-Some.partner.0 c.in-Some.ensures.lead a;
      waits = c.in_ok-advance.ensures.waits;
      is_net = a.is_net;
      within = subst P (sym a.journal) (within_on c.loop-lead.running.under_way.journal _ c.args.fuel i.within more);
    }

pub returns-in_err-advance-clause-no_memory : goal.returns-in_err-advance-clause-no_memory
returns-in_err-advance-clause-no_memory c =
    let i = c.loop-lead.invariant in
    let more : length c.loop-lead.running.under_way.journal ≢ c.args.fuel = λ q. c.if-len-fuel.false (c.len.ensures ∙ q) in
    on_err c.from_residual-in_err-advance.result
    (stops_after c.args.net.now c.loop-lead.net c.args.fuel c.loop-lead.running.under_way.names.start
    c.loop-lead.running.under_way.names.born.items c.loop-lead.running.under_way.journal i.under_way i.within c.advance.new.net i.is_net more
    c.in-Some.lead.0 c.in-Some.partner.0 c.in-Some.ensures.lead c.in_err-advance.ensures.err)

pub returns-clause-runs : goal.returns-clause-runs
returns-clause-runs c =
    let i = c.loop-lead.invariant in
    subst (λ es. RunsTo c.args.net.now c.args.fuel es c.loop-lead.net) (sym c.end-2.ensures.journal)
    (runs_to c.args.net.now c.loop-lead.net c.args.fuel c.loop-lead.running.under_way.names.start
    c.loop-lead.running.under_way.names.born.items c.loop-lead.running.under_way.journal i.under_way i.within
    (inl c.in_default.ensures.lead))

pub returns-clause-spent : goal.returns-clause-spent
returns-clause-spent c = let s = c.end-2.ensures.ended in
    ((λ e. absurd (cc)), (λ h. absurd (c.in_default.ensures.lead h.1.0 h.1.1 h.1.2 h.1.3)))
