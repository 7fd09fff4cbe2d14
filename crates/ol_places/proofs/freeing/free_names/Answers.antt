use Rattle.std.proofs.Common.{sym, subst}
use Rattle.ol_subjects.specs.declared.answers.End.TheVariants.{Yes}
use Rattle.ol_places.specs.Frees.{IsFree, told}
use Rattle.ol_places.proofs.Refused.{refused}
use Rattle.ol_places.proofs.freeing.free_names.Goals as goal

pub returns-in-Err : goal.returns-in-Err
returns-in-Err c =
    refused c.args.bytes.now c.in-Err.fault _ c.in-Err.ensures.syntax c.in-Err.ensures.too_deep
    c.in_ok-text-in-Err.ensures

pub returns : goal.returns
returns c =
    subst (λ text. IsFree c.args.bytes.now text Yes) (sym c.in_ok-text.ensures)
    (told c.in-Ok.ensures.file c.in-Ok.ensures.shallow c.in_ok-lines.ensures)
