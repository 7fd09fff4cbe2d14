use Rattle.std.proofs.Common.{length}
use Rattle.std.proofs.lemmas.Result.{err_from_is_err_and}
use Rattle.ol_term.specs.Trees.{tree_of}
use Rattle.ol_translate.proofs.Placing.{part_has_one_each}
use Rattle.ol_translate.proofs.parts.Parts.+part.Goals as goal

pub returns-in_err-number-in-Lam-clause-lays : goal.returns-in_err-number-in-Lam-clause-lays
returns-in_err-number-in-Lam-clause-lays t c =
    let p = err_from_is_err_and c.from_residual.result c.from_residual.ensures.1 in rw p.1 tt

pub returns-in_err-body-in-Lam-clause-lays : goal.returns-in_err-body-in-Lam-clause-lays
returns-in_err-body-in-Lam-clause-lays t c =
    let p = err_from_is_err_and c.from_residual-in_err-body-in-Lam.result c.from_residual-in_err-body-in-Lam.ensures.1 in rw p.1 tt

pub returns-in_err-number-in-App-clause-lays : goal.returns-in_err-number-in-App-clause-lays
returns-in_err-number-in-App-clause-lays t c =
    let p = err_from_is_err_and c.from_residual-in_err-number-in-App.result c.from_residual-in_err-number-in-App.ensures.1 in rw p.1 tt

pub returns-in_err-function-in-App-clause-lays : goal.returns-in_err-function-in-App-clause-lays
returns-in_err-function-in-App-clause-lays t c =
    let p = err_from_is_err_and c.from_residual-in_err-function-in-App.result c.from_residual-in_err-function-in-App.ensures.1 in rw p.1 tt

pub returns-in_err-argument-in-None-clause-lays : goal.returns-in_err-argument-in-None-clause-lays
returns-in_err-argument-in-None-clause-lays t c =
    let p = err_from_is_err_and c.from_residual-in_err-argument-in-None.result c.from_residual-in_err-argument-in-None.ensures.1 in rw p.1 tt

pub application-requires : goal.application-requires
application-requires t c =
    let laid = c.in_ok-function-in-App.ensures.lays in
    record {
      one_each = part_has_one_each c.args.translation
          (tree_of c.deref-in-App-2.result.now) c.args.depth c.args.level (length c.add-in-App.new.self.nodes.items)
          c.in_ok-function-in-App.function.wires.items laid.wires_are;
    }

pub application_to-requires : goal.application_to-requires
application_to-requires t c =
    let laid = c.in_ok-function-in-App.ensures.lays in
    record {
      one_each = part_has_one_each c.args.translation
          (tree_of c.deref-in-App-2.result.now) c.args.depth c.args.level (length c.add-in-App.new.self.nodes.items)
          c.in_ok-function-in-App.function.wires.items laid.wires_are;
    }
