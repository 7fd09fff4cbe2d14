use Rattle.std.proofs.Common.{◌≡◌, ◌++◌, ◌<◌, codes, ap, sym, subst, ◌∙◌, arith}
use Rattle.ol_net.specs.PartTexts.{port_text}
use Rattle.ol_net.specs.declared.parts.Port.TheVariants.{Free}
use Rattle.ol_orders.specs.Same.{IsComparison, differ, only_first, only_second}
use Rattle.ol_subjects.specs.declared.answers.End.{End}
use Rattle.ol_orders.proofs.Renumbered.{one_free}
use Rattle.ol_orders.proofs.comparing.compare.Goals as goal

pub returns-then-first-second : goal.returns-then-first-second
returns-then-first-second c =
    let a = c.args.a.now in
    let b = c.args.b.now in
    let answer = c.in_ok-answer in
    let first : c.free_ports-first.result ≡ a.free = c.free_ports-first.ensures.free in
    let second : c.free_ports-second.result ≡ b.free = c.free_ports-second.ensures.free in
    let test = c.if-first-second.true in
    let less : b.free < a.free = omega arith in
    subst (λ (e : End). IsComparison a b answer.answer.text.items e) (sym answer.ensures.no)
    (differ (λ one. let e = one_free a b one in omega arith) (only_first less)
    (answer.ensures.text ∙ ap (λ k. codes "different at " ++ port_text (Free k)
    ++ codes ": " ++ codes "only here" ++ codes "\n") second))

pub returns-then-first-second-2 : goal.returns-then-first-second-2
returns-then-first-second-2 c =
    let a = c.args.a.now in
    let b = c.args.b.now in
    let answer = c.in_ok-answer-2 in
    let first : c.free_ports-first.result ≡ a.free = c.free_ports-first.ensures.free in
    let second : c.free_ports-second.result ≡ b.free = c.free_ports-second.ensures.free in
    let test = c.if-first-second-2.true in
    let less : a.free < b.free = omega arith in
    subst (λ (e : End). IsComparison a b answer.answer.text.items e) (sym answer.ensures.no)
    (differ (λ one. let e = one_free a b one in omega arith) (only_second less)
    (answer.ensures.text ∙ ap (λ k. codes "different at " ++ port_text (Free k)
    ++ codes ": " ++ codes "only there" ++ codes "\n") first))
