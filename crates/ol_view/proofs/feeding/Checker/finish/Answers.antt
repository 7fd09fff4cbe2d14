use Rattle.std.proofs.Common.{◌≡◌, true, false, refl, sym, ◌∙◌}
use Rattle.ol_view.proofs.Fronts.{bad_at_end, complete_at_end, empty_now, not_empty, run_at_end}
use Rattle.ol_view.proofs.feeding.Checker.finish.Goals as goal

pub returns-then-is_none : goal.returns-then-is_none
returns-then-is_none c = record {
  found = λ net text r. bad_at_end net text c.args.self.now c.bad.result r
      (λ q. let z : false ≡ true = sym c.if-is_none.ensures ∙ q in absurd (cc)) c.bad.ensures;
}

pub returns-then-not-is_empty : goal.returns-then-not-is_empty
returns-then-not-is_empty c = record {
  found = λ net text r. bad_at_end net text c.args.self.now c.bad-then-not-is_empty.result r
      (λ q. not_empty c.args.self.now.line c.if-not-is_empty.ensures) c.bad-then-not-is_empty.ensures;
}

pub returns-then-is_complete : goal.returns-then-is_complete
returns-then-is_complete c = record {
  found = λ net text r. complete_at_end net text c.args.self.now r c.if-is_none.ensures
      (empty_now c.args.self.now.line c.if-not-is_empty.ensures) (c.if-is_complete.ensures.complete refl);
}

pub returns-else-is_complete : goal.returns-else-is_complete
returns-else-is_complete c = record {
  found = λ net text r. run_at_end net text c.args.self.now r c.if-is_none.ensures
      (empty_now c.args.self.now.line c.if-not-is_empty.ensures) (c.if-is_complete.ensures.active refl);
}
