use Rattle.std.proofs.Common.{◌<◌, ◌≤◌, ◌⊎◌, inl, inr, refl, sym, subst}
use Rattle.std.proofs.lemmas.Bool.{cases_lt}
use Rattle.ol_term.specs.Trees.{tree_of, term_size, depth}
use Rattle.ol_beta.specs.Beta.{IsPast}
use Rattle.ol_steps.specs.Steps.{IsStepsOf, steps, too_large}
use Rattle.ol_steps.proofs.stepping.of_file.Goals as goal

pub returns-in_ok-answer : goal.returns-in_ok-answer
returns-in_ok-answer c = λ bytes i k n. steps i (c.if-is_within.ensures.0 refl) k n c.in_ok-answer.ensures

pub returns-in_ok-answer-2 : goal.returns-in_ok-answer-2
returns-in_ok-answer-2 c = λ bytes i k n.
    let t = tree_of c.args.file.term in
    subst (λ e. IsStepsOf bytes c.args.how c.args.most c.in_ok-answer-2.answer.text.items e) (sym c.in_ok-answer-2.ensures.no)
    (too_large i (go (cases_lt 100000 (term_size t)) (cases_lt 1000 (depth t))) c.in_ok-answer-2.ensures.text)
  where
    go : (100000 < term_size (tree_of c.args.file.term))
        ⊎ (term_size (tree_of c.args.file.term) ≤ 100000) →
        (1000 < depth (tree_of c.args.file.term)) ⊎ (depth (tree_of c.args.file.term) ≤ 1000) →
        IsPast (tree_of c.args.file.term)
    go (inl h) k = inl h
    go (inr h) (inl k) = inr k
    go (inr h) (inr k) = let e = c.if-is_within.ensures.1 (h, k) in absurd (cc)
