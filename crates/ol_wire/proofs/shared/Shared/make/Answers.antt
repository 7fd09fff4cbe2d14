use Rattle.std.proofs.Common.{ℕ, [], List, sym, refl, subst}
use Rattle.atomic_table.specs.Table.{opening}
use Rattle.ol_wire.specs.declared.plan.Plan.{Plan}
use Rattle.ol_wire.specs.Credit.{IsRuled}
use Rattle.ol_wire.specs.Openings.{opener}
use Rattle.ol_wire.proofs.shared.Shared.make.Goals as goal

pub of_words-requires : goal.of_words-requires
of_words-requires c =
    let p : Plan = record { parts = c.in_ok-parts.parts; seats = c.args.seats; start = c.of.result } in
    subst (λ (ws : List ℕ). IsRuled p (opening {S = Unit {0}} ws [] (opener p))) (sym c.as_slice.ensures.value)
    (c.in_ok-parts.ensures.kept p refl c.of.ensures c.requires.seats.0 c.requires.seats.1)
