use Rattle.std.proofs.Common.{◌≡◌, refl, ap, ◌∙◌}
use Rattle.ol_places.specs.Scans.{bracket, binder, defining, bound_by, scopes_of, shown}
use Rattle.ol_places.proofs.Turns.{scopes_push, names_pop, goes, goes_bound, stays_first, stays_rest, stays_bound}
use Rattle.ol_places.proofs.scanning.unwind.Goals as goal

pub loop-scope-preserved : goal.loop-scope-preserved
loop-scope-preserved c =
    let inner = scopes_of c.pop.new.self.items in
    let x = c.in-Binder.field-0.now in
    let are = ap scopes_of c.in-Some.ensures.items ∙ scopes_push c.pop.new.self.items c.in-Some.scope in
    let is : shown c.in-Some.scope ≡ binder x = ap shown c.in-Binder.is in (
      goes inner _ (shown c.in-Some.scope) _ are c.loop-scope.invariant.0 x is,
      names_pop c.loop-scope.scan.bound.items c.pop-name.new.self.items c.loop-scope.scan.bound.len (bound_by inner) x
          (c.loop-scope.invariant.1 ∙ goes_bound inner _ (shown c.in-Some.scope) _ are c.loop-scope.invariant.0 x is)
          c.loop-scope.scan.bound.ok.0 c.pop-name.ensures.rest,
      c.loop-scope.invariant.2,
    )

pub returns-in-Bracket-clause-scope : goal.returns-in-Bracket-clause-scope
returns-in-Bracket-clause-scope c =
    let are = ap scopes_of c.in-Some.ensures.items ∙ scopes_push c.pop.new.self.items c.in-Some.scope in
    stays_first (scopes_of c.pop.new.self.items) _ (shown c.in-Some.scope) _ are c.loop-scope.invariant.0 bracket
    (ap shown c.in-Bracket.is) refl

pub returns-in-Bracket-clause-scopes : goal.returns-in-Bracket-clause-scopes
returns-in-Bracket-clause-scopes c =
    let are = ap scopes_of c.in-Some.ensures.items ∙ scopes_push c.pop.new.self.items c.in-Some.scope in
    stays_rest (scopes_of c.pop.new.self.items) _ (shown c.in-Some.scope) _ are c.loop-scope.invariant.0 bracket
    (ap shown c.in-Bracket.is) refl

pub returns-in-Bracket-clause-scan : goal.returns-in-Bracket-clause-scan
returns-in-Bracket-clause-scan c =
    let are = ap scopes_of c.in-Some.ensures.items ∙ scopes_push c.pop.new.self.items c.in-Some.scope in
    c.loop-scope.invariant.1
    ∙ stays_bound (scopes_of c.pop.new.self.items) _ (shown c.in-Some.scope) _ are c.loop-scope.invariant.0 bracket
    (ap shown c.in-Bracket.is) refl refl

pub returns-in-Defining-clause-scope : goal.returns-in-Defining-clause-scope
returns-in-Defining-clause-scope c =
    let are = ap scopes_of c.in-Some.ensures.items ∙ scopes_push c.pop.new.self.items c.in-Some.scope in
    stays_first (scopes_of c.pop.new.self.items) _ (shown c.in-Some.scope) _ are c.loop-scope.invariant.0
    (defining c.in-Defining.field-0.now) (ap shown c.in-Defining.is) refl

pub returns-in-Defining-clause-scopes : goal.returns-in-Defining-clause-scopes
returns-in-Defining-clause-scopes c =
    let are = ap scopes_of c.in-Some.ensures.items ∙ scopes_push c.pop.new.self.items c.in-Some.scope in
    stays_rest (scopes_of c.pop.new.self.items) _ (shown c.in-Some.scope) _ are c.loop-scope.invariant.0
    (defining c.in-Defining.field-0.now) (ap shown c.in-Defining.is) refl

pub returns-in-Defining-clause-scan : goal.returns-in-Defining-clause-scan
returns-in-Defining-clause-scan c =
    let are = ap scopes_of c.in-Some.ensures.items ∙ scopes_push c.pop.new.self.items c.in-Some.scope in
    c.loop-scope.invariant.1
    ∙ stays_bound (scopes_of c.pop.new.self.items) _ (shown c.in-Some.scope) _ are c.loop-scope.invariant.0
    (defining c.in-Defining.field-0.now) (ap shown c.in-Defining.is) refl refl
