use Rattle.std.proofs.Common.{ℕ, ◌≢◌, false, subst, inl}
use Rattle.ol_net.specs.Numbered.{net_of}
use Rattle.ol_net.specs.Pairs.{IsInActive}
use Rattle.std.specs.BTreeSet.{btree_set_len}
use Rattle.ol_rules.proofs.OneThread.{none_of}
use Rattle.ol_rules.proofs.Waiting.{others_stay, lower, nothing_waits}
use Rattle.ol_rules.proofs.one_thread.next_lead.Goals as goal

pub returns-in-Some-active_partner-clause-lead : goal.returns-in-Some-active_partner-clause-lead
returns-in-Some-active_partner-clause-lead c =
    let p = c.in-Some-active_partner.ensures in
    record {
      rule = p.0;
      active = p.1.0;
      linked = p.1.1;
      least = λ x r a. lower c.loop-n.waiting c.in-Some.n x c.in-Some.ensures.least (c.loop-n.invariant x r a);
    }

pub returns-in-Some-active_partner-clause-others : goal.returns-in-Some-active_partner-clause-others
returns-in-Some-active_partner-clause-others c = λ x r a n.
    others_stay c.loop-n.waiting c.pop_first.new.self c.in-Some.n false c.in-Some.ensures.updates x
    n (c.loop-n.invariant x r a)

pub loop-n-preserved : goal.loop-n-preserved
loop-n-preserved c = λ x r a.
    let differs : x ≢ c.in-Some.n = λ e. let P : ℕ →
    Type 0 = λ z. IsInActive (net_of c.args.net.now) z r in c.in_default-active_partner.ensures r (subst P e a) in
    others_stay c.loop-n.waiting c.pop_first.new.self c.in-Some.n false c.in-Some.ensures.updates x
    differs (c.loop-n.invariant x r a)

pub returns-clause-lead : goal.returns-clause-lead
returns-clause-lead c = λ f g r a. nothing_waits c.loop-n.waiting f
    (none_of c.pop_first.result (btree_set_len c.loop-n.waiting) c.in_default.is
    c.pop_first.ensures.variant) (c.loop-n.invariant f r (g, inl a))

pub returns-clause-others : goal.returns-clause-others
returns-clause-others c = λ x r a. absurd
    (nothing_waits c.loop-n.waiting x (none_of c.pop_first.result
    (btree_set_len c.loop-n.waiting) c.in_default.is c.pop_first.ensures.variant) (c.loop-n.invariant x r a))
