use Rattle.std.proofs.Common.{[], ◌∷◌, ◌++◌, ◌+◌, get_or, take, sym, subst}
use Rattle.std.proofs.lemmas.List.{append-nil, take_all}
use Rattle.ol_view.specs.Checks.{start_net_of_graph}
use Rattle.ol_view.specs.Feeding.{IsAnswered, IsFed, IsFixed}
use Rattle.ol_view.proofs.Fronts.{byte_on, fixed_within}
use Rattle.ol_view.proofs.feeding.Checker.feed.Goals as goal

pub loop-at-init : goal.loop-at-init
loop-at-init c = λ net text r. subst (λ bs. IsFed net bs c.args.self.now) (sym (append-nil text)) r

pub take-requires : goal.take-requires
take-requires c =
    let old = c.requires.fed in
    record {
      fed = (
        old.0,
        old.1 ++ take c.loop-at.at c.args.piece.now,
        c.loop-at.invariant old.0 old.1 old.2,
      );
    }

pub loop-at-preserved : goal.loop-at-preserved
loop-at-preserved c = λ net text r.
    let at = c.loop-at.at in
    let piece = c.args.piece.now in
    subst (λ bs. IsFed net bs c.take.new.self) (byte_on text piece at c.loop-at-test.true)
    (subst (λ found. IsAnswered net ((text ++ take at piece) ++ get_or piece at 0 ∷ []) found c.take.new.self)
    c.in_default.is (c.in_ok-found.ensures net (text ++ take at piece) (c.loop-at.invariant net text r)))

pub returns-in-Some : goal.returns-in-Some
returns-in-Some c = record {
  answered = λ net text r.
      let at = c.loop-at.at in
      let piece = c.args.piece.now in
      fixed_within (start_net_of_graph net) text piece (at + 1) c.in-Some.found
      (subst (λ bs. IsFixed (start_net_of_graph net) bs c.in-Some.found)
      (byte_on text piece at c.loop-at-test.true)
      (subst (λ found. IsAnswered net ((text ++ take at piece) ++ get_or piece at 0 ∷ []) found c.take.new.self)
      c.in-Some.is (c.in_ok-found.ensures net (text ++ take at piece) (c.loop-at.invariant net text r))));
}

pub returns : goal.returns
returns c = record {
  answered = λ net text r. subst (λ bs. IsFed net (text ++ bs) c.loop-at.self)
      (take_all c.loop-at.at c.args.piece.now c.loop-at-test.false) (c.loop-at.invariant net text r);
}
