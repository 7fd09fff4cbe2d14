use Rattle.std.proofs.Common.{◌≡◌, ◌-◌, take, drop, sym, ap, subst, arith}
use Rattle.ol_explain.specs.Fields.{Begins}
use Rattle.ol_explain.proofs.Cuts.{begins_empty}
use Rattle.ol_explain.proofs.wanting.beginning.Goals as goal

pub loop-to-init : goal.loop-to-init
loop-to-init c = record {
  from = omega arith;
  within = c.requires;
  begins =
      let q : c.args.start - c.args.start ≡ 0 = omega arith in
      subst (λ s. Begins c.args.field s) (sym (ap (λ n. take n (drop c.args.start c.args.text.now)) q))
      (begins_empty c.args.field);
}
