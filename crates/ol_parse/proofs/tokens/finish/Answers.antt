use Rattle.std.proofs.Common.{refl, sym, ◌∙◌, subst}
use Rattle.ol_parse.proofs.FlatSteps.{going_on, going_stops, going_ends, Unwinds}
use Rattle.ol_parse.proofs.tokens.finish.Goals as goal

pub loop-innermost-init : goal.loop-innermost-init
loop-innermost-init c = λ u fs s h. record { now = u; frames = fs; same = refl; shows = s; terms = h }

pub returns-then-not-branch : goal.returns-then-not-branch
returns-then-not-branch c = λ u fs s h.
    going_stops u fs c.in-Some.innermost c.loop-innermost.opens.items c.pop.new.self.items
    c.loop-innermost.out.items c.unwind.new.out.items
    (c.loop-innermost.invariant u fs s h) c.in-Some.ensures.items
    (subst (λ y. Unwinds y c.in-Some.innermost c.loop-innermost.out.items c.unwind.new.out.items)
    c.if-not-branch.true c.in_ok-unwind.ensures.ended)
    (c.in_ok-unwind.ensures.kept c.if-not-branch.true)

pub loop-innermost-preserved : goal.loop-innermost-preserved
loop-innermost-preserved c = λ u fs s h.
    going_on u fs c.in-Some.innermost c.loop-innermost.opens.items c.pop.new.self.items
    c.loop-innermost.out.items c.unwind.new.out.items
    (c.loop-innermost.invariant u fs s h) c.in-Some.ensures.items
    (subst (λ y. Unwinds y c.in-Some.innermost c.loop-innermost.out.items c.unwind.new.out.items)
    c.if-not-branch.false c.in_ok-unwind.ensures.ended)

pub returns : goal.returns
returns c = λ u fs s h.
    going_ends u fs c.loop-innermost.opens.items c.pop.new.self.items c.loop-innermost.out.items
    (c.loop-innermost.invariant u fs s h) c.in_default.ensures.items
    (sym c.loop-innermost.opens.ok.0 ∙ c.in_default.ensures.cases.0)
