use Rattle.ol_net.proofs.Building.{TwiceAt-first, TwiceAt-none, IsFirstLoose-from_places}
use Rattle.ol_net.proofs.build.table_of.Goals as goal

pub returns-in-Some : goal.returns-in-Some
returns-in-Some c = TwiceAt-first c.args.free c.args.nodes.now c.args.links.now c.in-Some.link
    c.requires.ports c.in-Some.ensures.meets

pub returns-in-Some-first_loose : goal.returns-in-Some-first_loose
returns-in-Some-first_loose c =
    let met = c.in_default-link_all.ensures.meets in
    let h = rw c.deref.ensures.value at c.in-Some-first_loose.ensures in (
      TwiceAt-none c.args.free c.args.links.now met,
      IsFirstLoose-from_places c.args.free c.args.nodes.now c.args.links.now
          c.link_all.new.partners.items c.in-Some-first_loose.port c.requires.ports met
          c.in_default-link_all.ensures.ok h.0 h.1,
    )

pub returns : goal.returns
returns c = record {
  once = TwiceAt-none c.args.free c.args.links.now c.in_default-link_all.ensures.meets;
  linked = c.in_default-link_all.ensures.ok;
  none_alone = rw c.deref.ensures.value at c.in_default-first_loose.ensures;
}
