use Rattle.std.proofs.Common.{◌≡◌, ◌≢◌, true, None, Some, sym, ◌∙◌}
use Rattle.ol_net.specs.Graph.{kind_at}
use Rattle.ol_orders.specs.Meetings.{met_by}
use Rattle.ol_orders.proofs.Tables.{meets_known, meets_taken, meets_unlike, meets_new}
use Rattle.ol_orders.proofs.comparing.meet.Goals as goal

pub returns-in-Some-clause-told : goal.returns-in-Some-clause-told
returns-in-Some-clause-told c =
    let met = c.args.met.now in
    let h : met_by met.there.items c.args.x.0 ≡ Some c.in-Some.other =
    (let v = c.deref.ensures.value in let e = c.met_by.ensures in let i = c.in-Some.is in cc) in
    meets_known c.args.a.now c.args.b.now met.pairs.items met.there.items met.back.items c.requires.tables.tell
    c.args.x.0 c.args.y.0 c.in-Some.other h

pub returns-in-Some-met_by-clause-told : goal.returns-in-Some-met_by-clause-told
returns-in-Some-met_by-clause-told c =
    let met = c.args.met.now in
    let n : met_by met.there.items c.args.x.0 ≡ None =
    (let v = c.deref.ensures.value in let e = c.met_by.ensures in let i = c.in_default.is in cc) in
    let h : met_by met.back.items c.args.y.0 ≡ Some c.in-Some-met_by.field-0 =
    (let v = c.deref-2.ensures.value in let e = c.met_by-2.ensures in let i = c.in-Some-met_by.is in cc) in
    meets_taken c.args.a.now c.args.b.now met.pairs.items met.there.items met.back.items c.requires.tables.tell
    c.args.x.0 c.args.y.0 c.in-Some-met_by.field-0 n h

pub returns-then-not-is_like-clause-told : goal.returns-then-not-is_like-clause-told
returns-then-not-is_like-clause-told c =
    let met = c.args.met.now in
    let n : met_by met.there.items c.args.x.0 ≡ None =
    (let v = c.deref.ensures.value in let e = c.met_by.ensures in let i = c.in_default.is in cc) in
    let d : kind_at c.args.a.now.nodes c.args.x.0 ≢ kind_at c.args.b.now.nodes c.args.y.0 =
    (λ e. let t = c.is_like.ensures.1 (c.kind_of.ensures.table ∙ e ∙ sym c.kind_of-2.ensures.table) in
    let f = c.if-not-is_like.true in absurd (cc)) in
    meets_unlike c.args.a.now c.args.b.now met.pairs.items met.there.items met.back.items c.requires.tables.tell
    c.args.x.0 c.args.y.0 n d

pub returns-clause-told : goal.returns-clause-told
returns-clause-told c =
    let met = c.args.met.now in
    let n : met_by met.there.items c.args.x.0 ≡ None =
    (let v = c.deref.ensures.value in let e = c.met_by.ensures in let i = c.in_default.is in cc) in
    let o : met_by met.back.items c.args.y.0 ≡ None =
    (let v = c.deref-2.ensures.value in let e = c.met_by-2.ensures in let i = c.in_default-met_by.is in cc) in
    let t : c.is_like.result ≡ true = (let f = c.if-not-is_like.false in cc) in
    meets_new c.args.a.now c.args.b.now met.pairs.items met.there.items met.back.items c.requires.tables.tell
    c.args.x.0 c.args.y.0 c.put_pair.new.met.pairs.items n o
    (sym c.kind_of.ensures.table ∙ c.is_like.ensures.0 t ∙ c.kind_of-2.ensures.table) c.in_ok-put_pair.ensures.pairs
