use Rattle.std.proofs.Common.{ℕ, List, Option, ap, ◌∙◌}
use Rattle.ol_term.specs.Trees.{Tree, tree_of}
use Rattle.ol_steps.specs.Trees.{binders_in}
use Rattle.ol_steps.specs.EarlierTerms.{glossary_of}
use Rattle.ol_steps.specs.Folded.{folded_at}
use Rattle.ol_steps.specs.Lets.{values_of_lets}
use Rattle.ol_steps.specs.ValueTrees.{rows_of}
use Rattle.ol_steps.specs.Words.{worded}
use Rattle.ol_steps.proofs.Showable.{worded_showable}
use Rattle.ol_steps.proofs.showing.written.Goals as goal

pub returns-clause-tree : goal.returns-clause-tree
returns-clause-tree c =
    let g = glossary_of c.args.view.now.names c.args.view.now.lets in
    let t = tree_of c.args.here.now.term in
    let s = binders_in c.args.here.now.binders in
    let vs = values_of_lets (rows_of c.args.view.now.lets.rows.items) in
    c.in_ok-worded.ensures
    ∙ ap (λ (x : Tree). worded g x s) c.in_ok-whole.ensures.tree
    ∙ ap (λ (o : Option (List ℕ)). worded g (folded_at g.first vs o t) s) c.requires.redex

pub returns-clause-bound : goal.returns-clause-bound
returns-clause-bound c =
    (worded_showable c.args.view.now.names c.args.view.now.lets (tree_of c.in_ok-whole.whole)
    (tree_of c.in_ok-worded.worded) (binders_in c.args.here.now.binders) c.in_ok-worded.ensures (record {
      bound = c.in_ok-whole.ensures.bound;
      named = c.in_ok-whole.ensures.named;
      within = c.in_ok-whole.ensures.within;
    })).bound

pub returns-clause-named : goal.returns-clause-named
returns-clause-named c =
    (worded_showable c.args.view.now.names c.args.view.now.lets (tree_of c.in_ok-whole.whole)
    (tree_of c.in_ok-worded.worded) (binders_in c.args.here.now.binders) c.in_ok-worded.ensures (record {
      bound = c.in_ok-whole.ensures.bound;
      named = c.in_ok-whole.ensures.named;
      within = c.in_ok-whole.ensures.within;
    })).named

pub returns-clause-within : goal.returns-clause-within
returns-clause-within c =
    (worded_showable c.args.view.now.names c.args.view.now.lets (tree_of c.in_ok-whole.whole)
    (tree_of c.in_ok-worded.worded) (binders_in c.args.here.now.binders) c.in_ok-worded.ensures (record {
      bound = c.in_ok-whole.ensures.bound;
      named = c.in_ok-whole.ensures.named;
      within = c.in_ok-whole.ensures.within;
    })).within
