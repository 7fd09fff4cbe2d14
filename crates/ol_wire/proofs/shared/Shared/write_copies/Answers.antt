use Rattle.std.proofs.Common.{ℕ, sym, ap}
use Rattle.ol_wire.specs.Copies.{copies_due, written}
use Rattle.ol_wire.proofs.shared.Shared.write_copies.Goals as goal

pub returns-in-0-clause-view : goal.returns-in-0-clause-view
returns-in-0-clause-view c =
    let v = c.args.token.now.me.0 in
    ap (λ (n : ℕ). written (copies_due c.args.at n c.args.fields c.args.one c.args.two) v) (sym c.in-0.is)
