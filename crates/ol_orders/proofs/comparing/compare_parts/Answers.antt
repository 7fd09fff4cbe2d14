use Rattle.std.proofs.Common.{◌≡◌, [], length, rules, sym, subst}
use Rattle.ol_orders.specs.Same.{IsComparison, one, parts_differ, left}
use Rattle.ol_orders.specs.Walked.{SearchedFrom}
use Rattle.ol_subjects.specs.declared.answers.End.{End}
use Rattle.ol_orders.proofs.Walking.{nothing_walked, has_walked}
use Rattle.ol_orders.proofs.Seeking.{none_from_walk}
use Rattle.ol_orders.proofs.comparing.compare_parts.Goals as goal

pub seek-requires-clause-walked : goal.seek-requires-clause-walked
seek-requires-clause-walked c =
    has_walked c.args.a.now c.args.b.now 0 [] (nothing_walked c.args.a.now c.args.b.now) _ _ c.requires.reach.walked

pub returns-in_ok-answer-in-One : goal.returns-in_ok-answer-in-One
returns-in_ok-answer-in-One c =
    let a = c.args.a.now in
    let b = c.args.b.now in
    let answer = c.in_ok-answer-in-One in
    subst (λ (e : End). IsComparison a b answer.answer.text.items e) (sym answer.ensures.end)
    (one (subst (SearchedFrom a b c.args.met.now.pairs.items _ c.seek.new.tries) c.in-One.is
    c.in_ok-seek.ensures.found) answer.ensures.text)

pub returns-in_ok-answer-in-Apart : goal.returns-in_ok-answer-in-Apart
returns-in_ok-answer-in-Apart c =
    let a = c.args.a.now in
    let b = c.args.b.now in
    let answer = c.in_ok-answer-in-Apart in
    let none = subst (SearchedFrom a b c.args.met.now.pairs.items _ c.seek.new.tries) c.in-Apart.is
    c.in_ok-seek.ensures.found in
    subst (λ (e : End). IsComparison a b answer.answer.text.items e) (sym answer.ensures.end)
    (parts_differ (none_from_walk a b c.is_tabled.ensures.tables c.is_tabled-2.ensures.tables _ _
    c.requires.reach.walked none.0) c.requires.reach answer.ensures.text)

pub returns-in_ok-answer-in-Spent : goal.returns-in_ok-answer-in-Spent
returns-in_ok-answer-in-Spent c =
    let a = c.args.a.now in
    let b = c.args.b.now in
    let answer = c.in_ok-answer-in-Spent in
    let size : length c.args.met.now.pairs.items ≡ c.len.result = search rules in
    let spent = subst (SearchedFrom a b c.args.met.now.pairs.items _ c.seek.new.tries) c.in-Spent.is
    c.in_ok-seek.ensures.found in
    subst (λ (e : End). IsComparison a b answer.answer.text.items e) (sym answer.ensures.no)
    (left c.requires.reach spent (answer.ensures.text c.args.met.now.pairs.items size))
