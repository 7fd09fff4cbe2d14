use Rattle.std.proofs.Common.{◌≡◌, ℕ, List, Option, None, Some}
use Rattle.ol_net.specs.Graph.{Graph}
use Rattle.ol_view.specs.declared.answers.Check.{Check}
use Rattle.ol_view.specs.declared.feeding.Checker.{Checker}
use Rattle.ol_view.specs.Feeding.{IsFed, IsAnswered}
use Rattle.ol_net_tests.proofs.checks.found_by_bytes.Goals as goal

-- no answer is told yet
none_yet : (net : Graph) (text : List ℕ) (c : Checker) (found : Option Check) →
    IsAnswered net text found c → found ≡ None → IsFed net text c
none_yet net text c None a e = a
none_yet net text c (Some check) a e = absurd (cc)

pub loop-at-preserved : goal.loop-at-preserved
loop-at-preserved c =
    let i = c.loop-at.invariant in (
      i.0,
      _,
      none_yet i.0 _ c.feed.new.self _ (c.in_ok-found.ensures.answered i.0 i.1 i.2) c.in_default.is,
    )
