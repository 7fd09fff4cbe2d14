use Rattle.std.proofs.Common.{subst}
use Rattle.ol_orders.specs.Replays.{names_of, net_here}
use Rattle.ol_explain.specs.Explained.{FacesCopy, FacesNoCopy}
use Rattle.ol_explain.proofs.WhyNot.{idle_first, idle_second}
use Rattle.ol_explain.proofs.causes.idle.Goals as goal

pub returns-in-Some : goal.returns-in-Some
returns-in-Some c =
    let u = c.requires.replay in
    let r = c.args.replay.now in
    idle_first u.0 r u.1 c.args.x c.args.y c.requires.first c.requires.second c.in-Some.ticket c.in-Some.place
    (subst (λ n. FacesCopy (net_here r) (names_of r c.args.x.0) n c.in-Some.ticket c.in-Some.place)
    c.name_of-second.ensures c.in-Some.ensures.copy) c.name_of-first.result c.name_of-first.ensures

pub returns-in-Some-copy_faced : goal.returns-in-Some-copy_faced
returns-in-Some-copy_faced c =
    let u = c.requires.replay in
    let r = c.args.replay.now in
    let s = c.in-Some-copy_faced in
    idle_second u.0 r u.1 c.args.x c.args.y c.requires.first c.requires.second
    (subst (λ n. FacesNoCopy (net_here r) (names_of r c.args.x.0) n) c.name_of-second.ensures c.in_default.ensures.none)
    s.ticket s.place
    (subst (λ n. FacesCopy (net_here r) (names_of r c.args.y.0) n s.ticket s.place)
    c.name_of-first.ensures s.ensures.copy) c.name_of-second.result c.name_of-second.ensures

pub joined-requires-clause-copies : goal.joined-requires-clause-copies
joined-requires-clause-copies c =
    let r = c.args.replay.now in (
      subst (λ n. FacesNoCopy (net_here r) (names_of r c.args.x.0) n) c.name_of-second.ensures c.in_default.ensures.none,
      subst (λ n. FacesNoCopy (net_here r) (names_of r c.args.y.0) n) c.name_of-first.ensures
          c.in_default-copy_faced.ensures.none,
    )
