use Rattle.std.proofs.Common.{◌≡◌, true, false, drop, length, sym, ◌∙◌}
use Rattle.std.proofs.lemmas.Bool.Decides.{Decides-eqb}
use Rattle.std.proofs.lemmas.Slice.Eq.{starts_is}
use Rattle.ol_explain.proofs.wanting.word_begins.Goals as goal

pub returns-clause-so : goal.returns-clause-so
returns-clause-so c t =
    let h = (starts_is Decides-eqb c.as_bytes.result.now c.args.read.now c.starts_with.result c.starts_with.ensures.value).0 t in
    (drop (length c.args.read.now) c.as_bytes.result.now, sym c.as_bytes.ensures.value ∙ h)

pub returns-clause-not : goal.returns-clause-not
returns-clause-not c f more e =
    let t = (starts_is Decides-eqb c.as_bytes.result.now c.args.read.now c.starts_with.result c.starts_with.ensures.value).1
    more (c.as_bytes.ensures.value ∙ e) in
    let z : true ≡ false = sym t ∙ f in
    cc
