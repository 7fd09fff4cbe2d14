use Rattle.std.proofs.Common.{◌++◌, ◌∷◌, [], ℕ, nat_eq, sym, ap, ◌∙◌, eqb-true}
use Rattle.ol_wire.specs.declared.view.View.{View}
use Rattle.ol_wire.proofs.shared.Shared.quiet.Goals as goal

pub returns-clause-moment : goal.returns-clause-moment
returns-clause-moment c =
    let m = c.read_live.ensures.moment in
    let v : View = c.seat.inside.token.me.0 in (
      m.0,
      (v.looked, ap (λ (u : View). u.looked) c.read_live.ensures.view ∙ ap (λ (n : ℕ). v.looked ++ n ∷ []) (sym m.1)),
      ((λ e. m.1 ∙ eqb-true c.read_live.result 0 e), (λ e. ap (λ (n : ℕ). nat_eq n 0) (sym m.1 ∙ e))),
      (λ e. m.2 (eqb-true c.read_live.result 0 e)),
    )
