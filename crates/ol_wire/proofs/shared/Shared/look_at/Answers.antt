use Rattle.std.proofs.Common.{◌≡◌, ◌+◌, ◌≤◌, ℕ, ◌∷◌, [], ◌++◌, sym, ap, arith}
use Rattle.ol_net.specs.Parts.{arity}
use Rattle.ol_wire.specs.declared.view.View.{View}
use Rattle.ol_wire.specs.References.{kind_in, place_in}
use Rattle.ol_wire.specs.InHand.{fields_known}
use Rattle.ol_wire.proofs.Steps.Hold.{keeps_sure, one_field, two_fields, one_ref, two_refs}
use Rattle.ol_wire.proofs.shared.Shared.look_at.Goals as goal

pub returns-then-slots-eq1-clause-view : goal.returns-then-slots-eq1-clause-view
returns-then-slots-eq1-clause-view c =
    let k = kind_in c.args.node in
    let e : c.kind_in.result ≡ k = c.kind_in.ensures in
    let n : arity k ≡ 0 = omega (arith, c.slots-slots.ensures, ap arity e, c.if-slots-eq1.true) in
    let v : View = c.args.token.now.me.0 in
    sym (ap (λ (m : ℕ). record v { known = fields_known m (place_in c.args.node) (0 ∷ 0 ∷ []) ++ v.known }) n)

pub returns-then-slots-eq2-clause-found : goal.returns-then-slots-eq2-clause-found
returns-then-slots-eq2-clause-found c =
    let k = kind_in c.args.node in
    let e : c.kind_in.result ≡ k = c.kind_in.ensures in
    let n : arity k ≤ 1 = omega (arith, c.slots-slots.ensures, ap arity e, c.if-slots-eq2.true) in
    one_field c.args.token.now.me.0.known c.read_field-first.new.token.me.0.known c.args.node
    c.read_field-first.result n (ap (λ (v : View).
    v.known) c.read_field-first.ensures.view) c.read_field-first.ensures.same

pub returns-then-slots-eq2-clause-keeps : goal.returns-then-slots-eq2-clause-keeps
returns-then-slots-eq2-clause-keeps c = keeps_sure c.args.token.now.me.0.known
    c.read_field-first.new.token.me.0.known (place_in c.args.node + 0) c.read_field-first.result
    (ap (λ (v : View). v.known) c.read_field-first.ensures.view) c.read_field-first.ensures.same

pub returns-clause-found : goal.returns-clause-found
returns-clause-found c =
    two_fields c.args.token.now.me.0.known c.read_field-first.new.token.me.0.known
    c.read_field-second.new.token.me.0.known c.args.node c.read_field-first.result
    c.read_field-second.result (ap (λ (v : View).
    v.known) c.read_field-first.ensures.view) c.read_field-first.ensures.same
    (ap (λ (v : View). v.known) c.read_field-second.ensures.view) c.read_field-second.ensures.same

pub returns-clause-keeps : goal.returns-clause-keeps
returns-clause-keeps c =
    let first = keeps_sure c.args.token.now.me.0.known c.read_field-first.new.token.me.0.known
    (place_in c.args.node + 0) c.read_field-first.result
    (ap (λ (v : View). v.known) c.read_field-first.ensures.view) c.read_field-first.ensures.same in
    λ w y sure. keeps_sure c.read_field-first.new.token.me.0.known
    c.read_field-second.new.token.me.0.known
    (place_in c.args.node + 1) c.read_field-second.result
    (ap (λ (v : View). v.known) c.read_field-second.ensures.view)
    c.read_field-second.ensures.same w y (first w y sure)

pub returns-then-slots-eq2-clause-refs : goal.returns-then-slots-eq2-clause-refs
returns-then-slots-eq2-clause-refs c =
    let k = kind_in c.args.node in
    let n : arity k ≤ 1 = omega (arith, c.slots-slots.ensures, ap arity c.kind_in.ensures, c.if-slots-eq2.true) in
    one_ref c.args.self.now.plan.parts c.args.node c.read_field-first.result n c.read_field-first.ensures.found

pub returns-clause-refs : goal.returns-clause-refs
returns-clause-refs c = two_refs c.args.self.now.plan.parts c.args.node c.read_field-first.result
    c.read_field-second.result c.read_field-first.ensures.found c.read_field-second.ensures.found
