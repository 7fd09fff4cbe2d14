use Rattle.std.proofs.Common.{◌≡◌, List, ◌++◌, length, rules, Some, sym, ap, ◌∙◌, subst, refl, arith}
use Rattle.std.specs.Prelude.{slice_get}
use Rattle.ol_term.specs.Trees.{tree_of}
use Rattle.ol_beta.specs.Beta.{IsPastAfter}
use Rattle.ol_beta.specs.Faults.{IsBetaFault}
use Rattle.ol_beta.specs.declared.contracting.BetaFault.{BetaFault}
use Rattle.ol_subjects.specs.declared.answers.End.{End}
use Rattle.ol_steps.specs.declared.earlier.Earlier.{Earlier}
use Rattle.ol_steps.specs.Trees.{binders_in}
use Rattle.ol_steps.specs.declared.showing.Place.{Place}
use Rattle.ol_steps.specs.EarlierTerms.{terms_of, glossary_of}
use Rattle.ol_steps.specs.Steps.{IsNew, Tells, shown_line, step_lines, unfold_line}
use Rattle.ol_steps.proofs.EarlierTerms.{kept_length}
use Rattle.ol_steps.proofs.Walks.{tells_ends, tells_returns, tells_left, tells_past, walked_begin, walked_more, made_so_far}
use Rattle.ol_steps.proofs.stepping.walk.Goals as goal
use Rattle.ol_strategies.proofs.Nexts.{no_fault}

pub loop-here-init : goal.loop-here-init
loop-here-init c =
    let here = c.first-here.ensures in
    walked_begin c.args.view.now.how (glossary_of c.args.view.now.names c.args.view.now.lets) c.args.count c.args.most
    (tree_of c.args.term) (binders_in c.args.binders) c.new-kept.result.items (tree_of c.first-here.result.term)
    (binders_in c.first-here.result.binders) c.first-here.result.seen c.new-text.result.items (search rules) (search rules)
    (ap tree_of here.term) (ap binders_in here.binders) here.seen c.requires.within c.requires.bound c.requires.named

pub returns-in-Some : goal.returns-in-Some
returns-in-Some c =
    let l = c.loop-here in
    let g = glossary_of c.args.view.now.names c.args.view.now.lets in
    let v = tree_of l.here.term in
    let w = binders_in l.here.binders in
    let made = c.len-made.result in
    let m : made ≡ length l.kept.items = search rules in
    let d : c.deref.result.now ≡ l.kept.items = search rules in
    let found = subst (λ (kept : List Earlier). slice_get (terms_of kept) c.in-Some.earlier ≡ Some v) d c.in-Some.ensures in
    tells_returns c.args.view.now.how g c.args.count c.args.most (tree_of c.args.term) (binders_in c.args.binders)
    (terms_of l.kept.items) v w l.invariant.binders_are l.here.seen l.invariant.unfolding_is l.invariant.walk made
    (m ∙ kept_length l.kept.items) l.text.items l.invariant.text_is
    (l.text.items ++ (unfold_line l.here.seen ++ shown_line c.args.view.now.how g v w)) refl
    c.in-Some.earlier _ (omega (arith, l.invariant.few, m)) found c.in_ok-put_return.ensures

pub returns-in_default-next : goal.returns-in_default-next
returns-in_default-next c =
    let l = c.loop-here in
    let g = glossary_of c.args.view.now.names c.args.view.now.lets in
    let v = tree_of l.here.term in
    let w = binders_in l.here.binders in
    let made = c.len-made.result in
    let m : made ≡ length l.kept.items = search rules in
    let r = c.in_ok-end.ensures in
    subst (λ (e : End). Tells c.args.view.now.how g c.args.count c.args.most (tree_of c.args.term)
    (binders_in c.args.binders) c.put_end.new.text.items e) (sym r.2)
    (tells_ends c.args.view.now.how g c.args.count c.args.most (tree_of c.args.term) (binders_in c.args.binders)
    (terms_of l.kept.items) v w l.invariant.binders_are l.here.seen l.invariant.unfolding_is l.invariant.walk made
    (m ∙ kept_length l.kept.items) l.text.items l.invariant.text_is
    (l.text.items ++ (unfold_line l.here.seen ++ shown_line c.args.view.now.how g v w)) refl
    r.0 _ (omega (arith, l.invariant.few, m)) r.1 r.3)

pub returns-then-made-most : goal.returns-then-made-most
returns-then-made-most c =
    let l = c.loop-here in
    let g = glossary_of c.args.view.now.names c.args.view.now.lets in
    let v = tree_of l.here.term in
    let w = binders_in l.here.binders in
    let made = c.len-made.result in
    let m : made ≡ length l.kept.items = search rules in
    let d : c.deref.result.now ≡ l.kept.items = search rules in
    let new = subst (λ (kept : List Earlier). IsNew (terms_of kept) v) d c.in_default.ensures in
    tells_left c.args.view.now.how g c.args.count c.args.most (tree_of c.args.term) (binders_in c.args.binders)
    (terms_of l.kept.items) v w l.invariant.binders_are l.here.seen l.invariant.unfolding_is l.invariant.walk made
    (m ∙ kept_length l.kept.items) l.text.items l.invariant.text_is
    (l.text.items ++ (unfold_line l.here.seen ++ step_lines c.args.view.now.how g v w)) c.in-Some-next.at
    (sym c.in_ok-next.ensures ∙ c.in-Some-next.is) refl _ c.if-made-most.true new c.in_ok-put_left.ensures

pub returns-in-Past : goal.returns-in-Past
returns-in-Past c =
    let l = c.loop-here in
    let g = glossary_of c.args.view.now.names c.args.view.now.lets in
    let v = tree_of l.here.term in
    let w = binders_in l.here.binders in
    let made = c.len-made.result in
    let m : made ≡ length l.kept.items = search rules in
    let d : c.deref.result.now ≡ l.kept.items = search rules in
    let new = subst (λ (kept : List Earlier). IsNew (terms_of kept) v) d c.in_default.ensures in
    let p : IsPastAfter v c.in-Some-next.at c.in-Past.size c.in-Past.depth = subst
    (λ (e : BetaFault). IsBetaFault v c.in-Some-next.at e) c.in-Past.is c.in-Err.ensures.refusal in
    tells_past c.args.view.now.how g c.args.count c.args.most (tree_of c.args.term) (binders_in c.args.binders)
    (terms_of l.kept.items) v w l.invariant.binders_are l.here.seen l.invariant.unfolding_is l.invariant.walk made
    (m ∙ kept_length l.kept.items) l.text.items l.invariant.text_is
    (l.text.items ++ (unfold_line l.here.seen ++ step_lines c.args.view.now.how g v w)) c.in-Some-next.at
    (sym c.in_ok-next.ensures ∙ c.in-Some-next.is) refl _ c.in-Past.size c.in-Past.depth
    (omega (arith, l.invariant.few, m, c.if-made-most.false)) new p c.in_ok-put_past-in-Past.ensures

pub unreachable-requires : goal.unreachable-requires
unreachable-requires c =
    no_fault c.args.view.now.how.order (tree_of c.loop-here.here.term) c.in-Some-next.at
    (sym c.in_ok-next.ensures ∙ c.in-Some-next.is)
    (subst (λ (e : BetaFault). IsBetaFault (tree_of c.loop-here.here.term) c.in-Some-next.at e) c.in-NotRedex.is
    c.in-Err.ensures.refusal)

pub loop-here-preserved : goal.loop-here-preserved
loop-here-preserved c =
    let l = c.loop-here in
    let v = tree_of l.here.term in
    let w = binders_in l.here.binders in
    let made = c.len-made.result in
    let m : made ≡ length l.kept.items = search rules in
    let d : c.deref.result.now ≡ l.kept.items = search rules in
    let new = subst (λ (kept : List Earlier). IsNew (terms_of kept) v) d c.in_default.ensures in
    let on = c.in_ok-behind-in-Ok.ensures in
    let q = c.replace-before.ensures in
    walked_more c.args.view.now.how (glossary_of c.args.view.now.names c.args.view.now.lets) c.args.count c.args.most
    (tree_of c.args.term) (binders_in c.args.binders) l.kept.items v w l.here.seen l.text.items l.invariant made m
    c.in-Some-next.at (sym c.in_ok-next.ensures ∙ c.in-Some-next.is) c.step_on.new.text.items on.text
    (omega (arith, l.invariant.few, m, c.if-made-most.false)) new (tree_of c.in-Ok.after) c.in-Ok.ensures.step
    c.in-Ok.ensures.within c.in-Ok.ensures.bound c.of.result
    (ap tree_of c.of.ensures ∙ ap (λ (p : Place). tree_of p.term) q.value) _ c.in_ok-push-in-Ok.ensures.items
    _ (ap (λ (p : Place). tree_of p.term) q.after ∙ ap tree_of on.term)
    _ (ap (λ (p : Place). binders_in p.binders) q.after ∙ on.binders)
    _ (ap (λ (p : Place). p.seen) q.after ∙ on.seen)

pub loop-here-preserved-in_ok-push-in-Ok : goal.loop-here-preserved-in_ok-push-in-Ok
loop-here-preserved-in_ok-push-in-Ok c =
    let l = c.loop-here in
    let v = tree_of l.here.term in
    let w = binders_in l.here.binders in
    let made = c.len-made.result in
    let m : made ≡ length l.kept.items = search rules in
    let d : c.deref.result.now ≡ l.kept.items = search rules in
    let new = subst (λ (kept : List Earlier). IsNew (terms_of kept) v) d c.in_default.ensures in
    let on = c.in_ok-behind-in-Ok.ensures in
    let q = c.replace-before.ensures in
    walked_more c.args.view.now.how (glossary_of c.args.view.now.names c.args.view.now.lets) c.args.count c.args.most
    (tree_of c.args.term) (binders_in c.args.binders) l.kept.items v w l.here.seen l.text.items l.invariant made m
    c.in-Some-next.at (sym c.in_ok-next.ensures ∙ c.in-Some-next.is) c.step_on.new.text.items on.text
    (omega (arith, l.invariant.few, m, c.if-made-most.false)) new (tree_of c.in-Ok.after) c.in-Ok.ensures.step
    c.in-Ok.ensures.within c.in-Ok.ensures.bound c.of.result
    (ap tree_of c.of.ensures ∙ ap (λ (p : Place). tree_of p.term) q.value) _ c.in_ok-push-in-Ok.ensures.items
    _ (ap (λ (p : Place). tree_of p.term) q.after ∙ ap tree_of on.term)
    _ (ap (λ (p : Place). binders_in p.binders) q.after ∙ on.binders)
    _ (ap (λ (p : Place). p.seen) q.after ∙ on.seen)

pub step_on-requires-clause-few : goal.step_on-requires-clause-few
step_on-requires-clause-few c =
    let l = c.loop-here in
    let made = c.len-made.result in
    let m : made ≡ length l.kept.items = search rules in
    let p = made_so_far c.args.view.now.how (glossary_of c.args.view.now.names c.args.view.now.lets) c.args.count c.args.most
    (tree_of c.args.term) (binders_in c.args.binders) l.kept.items (tree_of l.here.term) (binders_in l.here.binders)
    l.here.seen l.text.items l.invariant made m in
    let q : l.here.seen.made ≡ made = p.0 in
    omega (arith, q, l.invariant.few, m, c.if-made-most.false, c.ranges.most.fits)

pub step_on-requires-clause-hidden : goal.step_on-requires-clause-hidden
step_on-requires-clause-hidden c =
    let l = c.loop-here in
    let made = c.len-made.result in
    let m : made ≡ length l.kept.items = search rules in
    let p = made_so_far c.args.view.now.how (glossary_of c.args.view.now.names c.args.view.now.lets) c.args.count c.args.most
    (tree_of c.args.term) (binders_in c.args.binders) l.kept.items (tree_of l.here.term) (binders_in l.here.binders)
    l.here.seen l.text.items l.invariant made m in
    p.1
