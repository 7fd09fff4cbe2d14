use Rattle.std.proofs.Common.{sym, ◌∙◌, subst}
use Rattle.ol_subjects.specs.Readied.{IsSubjectRead}
use Rattle.ol_explain.specs.Objects.{IsExplainedObject}
use Rattle.ol_explain.proofs.AsObject.{fits, as_object}
use Rattle.ol_explain.proofs.objects.explained_object.Goals as goal

pub lines_object-requires : goal.lines_object-requires
lines_object-requires c =
    let x = c.in_ok-explanation-in-Net.ensures in
    let o = c.in_ok-put_other-in-Net.ensures in
    record {
      first = fits _ c.args.journal.now c.in_ok-explanation-in-Net.explanation.found _ _ o.text.0 _ x
          (c.deref.ensures.value ∙ o.text.2);
    }

pub returns-in-Refused : goal.returns-in-Refused
returns-in-Refused c = IsExplainedObject.refused (subst
    (IsSubjectRead c.args.subject c.args.bytes.now) c.in-Refused.is c.in_ok-text.ensures)

pub returns-in_ok-object-in-Net : goal.returns-in_ok-object-in-Net
returns-in_ok-object-in-Net c =
    let r = subst (IsSubjectRead c.args.subject c.args.bytes.now) c.in-Net.is c.in_ok-text.ensures in
    let x = c.in_ok-explanation-in-Net in
    let o = c.in_ok-put_other-in-Net.ensures in
    let t = c.in_ok-object-in-Net in
    subst (λ e. IsExplainedObject c.args.bytes.now c.args.journal.now t.object.items c.args.subject e) (sym o.end)
    (as_object c.args.bytes.now c.args.journal.now c.args.subject _ x.explanation.found x.explanation.answer.end
    x.explanation.answer.text.items o.text.0 c.deref.result.now t.object.items r.0 x.ensures o.text.1
    (c.deref.ensures.value ∙ o.text.2) t.ensures)
