use Rattle.std.proofs.Common.{ℕ, sym, ap}
use Rattle.ol_wire.specs.Copies.{fields_due, written}
use Rattle.ol_wire.proofs.shared.Shared.write_fields.Goals as goal

pub returns-in-0-clause-view : goal.returns-in-0-clause-view
returns-in-0-clause-view c =
    ap (λ (n : ℕ). written (fields_due c.args.at n c.args.wires) c.args.token.now.me.0) (sym c.in-0.is)
