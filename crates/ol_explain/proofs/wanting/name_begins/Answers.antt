use Rattle.std.proofs.Common.{◌-◌, take, length, eqb-true, sym, ap, ◌∙◌, subst, arith}
use Rattle.std.proofs.lemmas.List.{nil_from_length}
use Rattle.ol_explain.specs.declared.wanting.Field.TheVariants as field
use Rattle.ol_explain.specs.Fields.{Begins}
use Rattle.ol_explain.proofs.Breaks.{dotted, last_is, dot_begins, dot_begins_only, name_begins_only, some_bytes}
use Rattle.ol_explain.proofs.Cuts.{begins_empty}
use Rattle.ol_explain.proofs.wanting.name_begins.Goals as goal

pub returns-then-is_empty-clause-so : goal.returns-then-is_empty-clause-so
returns-then-is_empty-clause-so c t = subst (λ s. Begins field.Name s) (sym (nil_from_length c.args.read.now
    (eqb-true (length c.args.read.now) 0 (sym c.is_empty.ensures ∙ c.if-is_empty.true)))) (begins_empty field.Name)

pub returns-then-read-last-eq46-clause-so : goal.returns-then-read-last-eq46-clause-so
returns-then-read-last-eq46-clause-so c t =
    let read = c.args.read.now in
    let l = some_bytes read c.is_empty.result c.is_empty.ensures c.if-is_empty.false in
    subst (λ s. Begins field.Name s) (sym (dotted read 46 l c.if-read-last-eq46.true))
    (dot_begins (take (length read - 1) read) (c.is_number.ensures.so t))

pub returns-then-read-last-eq46-clause-not : goal.returns-then-read-last-eq46-clause-not
returns-then-read-last-eq46-clause-not c f h =
    let read = c.args.read.now in
    let l = some_bytes read c.is_empty.result c.is_empty.ensures c.if-is_empty.false in
    c.is_number.ensures.not f (dot_begins_only (take (length read - 1) read)
    (subst (λ s. Begins field.Name s) (dotted read 46 l c.if-read-last-eq46.true) h))

pub returns-clause-not : goal.returns-clause-not
returns-clause-not c f h =
    let read = c.args.read.now in
    let l = some_bytes read c.is_empty.result c.is_empty.ensures c.if-is_empty.false in
    c.is_name.ensures.not f (name_begins_only read (λ z. let n = ap length z in omega arith)
    (λ front e. c.if-read-last-eq46.false (last_is read front 46 e)) h)
