use Rattle.std.proofs.Common.{◌≡◌, None, Some, List, [], ℕ, Option, drop, sym, ◌∙◌}
use Rattle.ol_rules.specs.declared.journal.NodeName.{NodeName}
use Rattle.ol_view.specs.LineReading.{front_name}
use Rattle.ol_view.proofs.AtPlaces.{name_is_read, no_name_is_read}
use Rattle.ol_explain.proofs.Breaks.{all_read, same_end, is_whole_name, whole_name}
use Rattle.ol_explain.proofs.wanting.is_name.Goals as goal

pub returns-in-Some-clause-so : goal.returns-in-Some-clause-so
returns-in-Some-clause-so c t = is_whole_name c.args.read.now c.in-Some.field-0-0 (all_read (front_name c.args.read.now)
    c.in-Some.field-0-0 c.args.read.now c.in-Some.to
    (name_is_read c.args.read.now c.in-Some.field-0-0 (drop c.in-Some.to c.args.read.now) c.in-Some.ensures.found) t)

pub returns-in-Some-clause-not : goal.returns-in-Some-clause-not
returns-in-Some-clause-not c f h =
    let w = whole_name c.args.read.now h in
    same_end (front_name c.args.read.now) c.in-Some.field-0-0 w.0 c.args.read.now c.in-Some.to
    (name_is_read c.args.read.now c.in-Some.field-0-0 (drop c.in-Some.to c.args.read.now) c.in-Some.ensures.found)
    w.1 c.in-Some.ensures.place.1 f

pub returns-in-None-clause-not : goal.returns-in-None-clause-not
returns-in-None-clause-not c f h =
    let w = whole_name c.args.read.now h in
    let z : ◌≡◌ {A = Option (NodeName × List ℕ)} None (Some (w.0, [])) =
    sym (no_name_is_read c.args.read.now c.in-None.ensures.none) ∙ w.1 in
    cc
