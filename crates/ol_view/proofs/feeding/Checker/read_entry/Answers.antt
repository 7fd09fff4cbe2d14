use Rattle.std.proofs.Common.{drop, refl, subst}
use Rattle.ol_view.specs.Checks.{HasNoLine}
use Rattle.ol_view.specs.Standing.{BeginsWithTold}
use Rattle.ol_view.proofs.Fronts.{few_nodes, no_line, one_more, otherwise, too_many, whole_none, whole_some}
use Rattle.ol_view.proofs.feeding.Checker.read_entry.Goals as goal

pub returns-then-self-eq-MOST_FUEL : goal.returns-then-self-eq-MOST_FUEL
returns-then-self-eq-MOST_FUEL c = λ net text r.
    let line = c.args.self.now.line.items in
    too_many net text c.args.self.now r c.args.form c.requires.form
    (whole_some line c.requires.whole) c.if-self-eq-MOST_FUEL.true

pub returns-in_default : goal.returns-in_default
returns-in_default c = λ net text r.
    let line = c.args.self.now.line.items in
    no_line net text c.args.self.now r c.args.form c.requires.form (whole_some line c.requires.whole)
    (whole_none c.args.form line c.requires.whole
    (subst (λ bs. HasNoLine c.args.form bs) c.deref.ensures.value c.in_default.ensures.none))

pub rewrite-requires : goal.rewrite-requires
rewrite-requires c = record {
  few = few_nodes c.requires.read.0 c.requires.read.1 c.args.self.now c.requires.read.2
      c.args.form c.requires.form;
}

pub returns-then-not-is_so : goal.returns-then-not-is_so
returns-then-not-is_so c = λ net text r.
    let told = c.in-Some.line in
    let rest = drop told.next c.deref.result.now in
    let n = c.rewrite.new.self in
    otherwise net text c.args.self.now r c.args.form c.requires.form told rest
    (subst (λ bs. BeginsWithTold c.args.form bs told rest) c.deref.ensures.value c.in-Some.ensures.found)
    c.if-self-eq-MOST_FUEL.false c.in_ok-made.made n.net n.numbers.bases.items n.weights.items
    c.in_ok-made.ensures.idle c.in_ok-made.ensures.made (c.if-not-is_so.ensures.not refl)

pub returns : goal.returns
returns c = λ net text r.
    let told = c.in-Some.line in
    let rest = drop told.next c.deref.result.now in
    one_more net text c.args.self.now r c.args.form c.requires.form told rest
    (subst (λ bs. BeginsWithTold c.args.form bs told rest) c.deref.ensures.value c.in-Some.ensures.found)
    c.if-self-eq-MOST_FUEL.false c.requires.whole c.in_ok-made.made _ c.in_ok-made.ensures.made
    (c.if-not-is_so.ensures.so refl) c.requires.form refl c.clear.ensures.items
