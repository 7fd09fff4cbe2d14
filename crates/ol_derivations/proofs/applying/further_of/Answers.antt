use Rattle.std.proofs.Common.{◌≡◌, ◌-◌, ◌++◌, rules, ◌∙◌, subst, codes, arith, refl}
use Rattle.ol_term.specs.Trees.{tree_of}
use Rattle.ol_parse.specs.Parsed.{IsTooDeep}
use Rattle.ol_parse.specs.Texts.{IsRefusedAt}
use Rattle.ol_derivations.specs.Applications.{HasArguments}
use Rattle.ol_derivations.proofs.Counted.{some_counted, all_deep, not_refused}
use Rattle.ol_derivations.proofs.applying.further_of.Goals as goal

pub overflow_sub-result : goal.overflow_sub-result
overflow_sub-result c =
    let d : c.deref.result.now ≡ c.in_ok-text.text.items = search rules in
    let e : c.deref.result.now ≡ codes "(x) " ++ c.args.line.now = d ∙ c.in_ok-text.ensures in
    let l = c.requires.line.file in
    let h = some_counted c.args.line.now c.deref.result.now l.named (tree_of c.in-Ok.file.term) c.in-Ok.file.names l.text e
    c.in-Ok.ensures.file in
    omega (arith, h.1, c.arguments_of.ensures.arguments)

pub returns-in-Ok : goal.returns-in-Ok
returns-in-Ok c =
    let d : c.deref.result.now ≡ c.in_ok-text.text.items = search rules in
    let e : c.deref.result.now ≡ codes "(x) " ++ c.args.line.now = d ∙ c.in_ok-text.ensures in
    let l = c.requires.line.file in
    let h = some_counted c.args.line.now c.deref.result.now l.named (tree_of c.in-Ok.file.term) c.in-Ok.file.names l.text e
    c.in-Ok.ensures.file in
    let n : h.0 ≡ c.arguments_of.result - 1 = omega (arith, h.1, c.arguments_of.ensures.arguments) in
    subst (HasArguments c.args.line.now) n h.2

pub returns-in-Syntax : goal.returns-in-Syntax
returns-in-Syntax c =
    let d : c.deref.result.now ≡ c.in_ok-text.text.items = search rules in
    let e : c.deref.result.now ≡ codes "(x) " ++ c.args.line.now = d ∙ c.in_ok-text.ensures in
    let l = c.requires.line.file in
    let told : IsRefusedAt c.deref.result.now c.in-Syntax.at =
    (c.in-Err.ensures.syntax (λ e. absurd (cc)) c.in-Syntax.at).0 (rw c.in-Syntax.is refl) in
    absurd (not_refused c.args.line.now c.deref.result.now l.named c.in-Syntax.at l.text e told)

pub returns : goal.returns
returns c =
    let d : c.deref.result.now ≡ c.in_ok-text.text.items = search rules in
    let e : c.deref.result.now ≡ codes "(x) " ++ c.args.line.now = d ∙ c.in_ok-text.ensures in
    let l = c.requires.line.file in
    let told : IsTooDeep c.deref.result.now c.in-Depth.depth =
    (c.in-Err.ensures.too_deep (λ e. absurd (cc)) c.in-Depth.depth).0 (rw c.in-Depth.is refl) in
    all_deep c.args.line.now c.deref.result.now l.named c.in-Depth.depth l.text e told
