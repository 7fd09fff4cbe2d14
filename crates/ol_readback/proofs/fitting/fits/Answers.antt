use Rattle.std.proofs.Common.{ℕ, ◌+◌, map, Option, Bool, MatchBool, subst, sym, arith, ◌∙◌}
use Rattle.std.proofs.lemmas.List.{length-map}
use Rattle.ol_context.specs.Shapes.{value, context_of}
use Rattle.ol_readback.specs.Fitting.{BeginsWith, BeginsNotWith, IsMark, IsLastCount}
use Rattle.ol_readback.proofs.Fits.{begins_not, marks_not, binds_not, counts_not, fit}
use Rattle.ol_readback.proofs.fitting.fits.Goals as goal

pub returns-in-None : goal.returns-in-None
returns-in-None c =
    let ls = map (value c.args.values.now) c.args.levels.now.items in
    let X = context_of c.args.values.now c.args.context.now in
    let V = value c.args.values.now c.level-marked.result in
    marks_not ls c.args.lams X c.len-m.result V
    (c.len-m.ensures ∙ c.args.levels.now.ok.0
    ∙ sym (length-map c.args.levels.now.items (value c.args.values.now))) c.level-marked.ensures.is
    (subst (λ (r : Option ℕ). IsMark V r) c.in-None.is c.in_ok-mark.ensures)

pub returns-then-binder-lams : goal.returns-then-binder-lams
returns-then-binder-lams c =
    let ls = map (value c.args.values.now) c.args.levels.now.items in
    let X = context_of c.args.values.now c.args.context.now in
    let V = value c.args.values.now c.level-marked.result in
    binds_not ls c.args.lams X c.len-m.result c.in-Some.binder V
    (c.len-m.ensures ∙ c.args.levels.now.ok.0
    ∙ sym (length-map c.args.levels.now.items (value c.args.values.now))) c.level-marked.ensures.is
    (subst (λ (r : Option ℕ). IsMark V r) c.in-Some.is c.in_ok-mark.ensures) c.if-binder-lams.true

pub returns-in-None-counted : goal.returns-in-None-counted
returns-in-None-counted c =
    let ls = map (value c.args.values.now) c.args.levels.now.items in
    let X = context_of c.args.values.now c.args.context.now in
    let q = length-map c.args.levels.now.items (value c.args.values.now) in
    counts_not ls c.args.lams X (c.len-m.result + 1) (omega (arith, c.len-m.ensures, c.args.levels.now.ok.0))
    (subst (λ (r : Option ℕ). IsLastCount
    (c.len-m.result + 1) X r) c.in-None-counted.is c.in_ok-counted-in-Some.ensures)

pub returns-then-not-begins : goal.returns-then-not-begins
returns-then-not-begins c =
    let ls = map (value c.args.values.now) c.args.levels.now.items in
    let X = context_of c.args.values.now c.args.context.now in
    begins_not ls c.args.lams X (subst (λ (r : Bool).
    MatchBool r (BeginsWith ls X) (BeginsNotWith ls X)) c.if-not-begins.true c.begins_with-begins.ensures)

pub returns-else-not-begins : goal.returns-else-not-begins
returns-else-not-begins c =
    let ls = map (value c.args.values.now) c.args.levels.now.items in
    let X = context_of c.args.values.now c.args.context.now in
    let V = value c.args.values.now c.level-marked.result in
    let q = length-map c.args.levels.now.items (value c.args.values.now) in
    fit ls c.args.lams X c.len-m.result (c.len-m.result + 1) c.in-Some.binder c.in-Some-counted.args V
    (subst (λ (r : Bool). MatchBool r (BeginsWith ls X)
    (BeginsNotWith ls X)) c.if-not-begins.false c.begins_with-begins.ensures)
    (c.len-m.ensures ∙ c.args.levels.now.ok.0 ∙ sym q) c.level-marked.ensures.is
    (subst (λ (r : Option ℕ). IsMark V r) c.in-Some.is c.in_ok-mark.ensures) c.if-binder-lams.false
    (omega (arith, c.len-m.ensures, c.args.levels.now.ok.0))
    (subst (λ (r : Option ℕ). IsLastCount
    (c.len-m.result + 1) X r) c.in-Some-counted.is c.in_ok-counted-in-Some.ensures)
