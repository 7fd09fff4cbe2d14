use Rattle.std.proofs.Common.{length, sym, ◌∙◌, subst, ap, arith}
use Rattle.std.proofs.lemmas.Bool.{false≢true}
use Rattle.ol_net.specs.declared.parts.Port.{Port}
use Rattle.ol_net.specs.Build.{FaultIs}
use Rattle.ol_reduce.specs.Drafts.{frozen_top}
use Rattle.ol_reduce.proofs.Building.{count_links, no_fault}
use Rattle.ol_reduce.proofs.draft.Draft.build.Goals as goal
use Rattle.ol_reduce.proofs.draft.Draft.build.Goals.{in-NoMemory, in_default}

pub build_to-requires-clause-few_links : goal.build_to-requires-clause-few_links
build_to-requires-clause-few_links c =
    omega (
      arith,
      c.in_ok-links.links.ok.0,
      ap (length {A = Port × Port}) c.in_ok-links.ensures,
      count_links c.args.self.free c.args.self.partners.items (length c.args.self.partners.items),
      c.requires.few,
    )

pub prove-unreachable-requires : goal.prove-unreachable-requires
prove-unreachable-requires c =
    let q = no_fault c.args.self.free c.args.self.partners.items c.args.self.kinds.items
    c.requires.complete c.in-Err.fault
    (subst (λ ls. FaultIs frozen_top c.args.self.free c.args.self.kinds.items ls c.in-Err.fault)
    c.in_ok-links.ensures c.in-Err.ensures.fault) in
    elim c.match-matches.branch [
      | in-NoMemory w ↦ absurd (false≢true (sym c.if-prove.true ∙ w.matches-is))
      | in_default w ↦ absurd (w.in_default.not-NoMemory q)
    ]
