use Rattle.std.proofs.Common.{ap, ◌∙◌}
use Rattle.ol_term.specs.Trees.{tree_of, is_below}
use Rattle.ol_derivations.proofs.Places.{within_kept, below_kept}
use Rattle.ol_derivations.proofs.walking.take_term.Goals as goal

pub invariant_of-t-27 : goal.invariant_of-t-27
invariant_of-t-27 c = record {
  within = within_kept c.add_all.new.self c.args.file.names (tree_of c.args.file.term)
      (tree_of c.renumber.new.term) c.renumber.ensures c.requires.within;
  bound = ap (is_below 0) c.renumber.ensures
      ∙ below_kept c.add_all.new.self c.args.file.names (tree_of c.args.file.term) 0 ∙ c.args.file.bound;
}

pub told_of-requires-clause-within : goal.told_of-requires-clause-within
told_of-requires-clause-within c =
    within_kept c.add_all.new.self c.args.file.names (tree_of c.args.file.term) (tree_of c.renumber.new.term)
    c.renumber.ensures c.requires.within

pub told_of-requires-clause-bound : goal.told_of-requires-clause-bound
told_of-requires-clause-bound c =
    ap (is_below 0) c.renumber.ensures
    ∙ below_kept c.add_all.new.self c.args.file.names (tree_of c.args.file.term) 0 ∙ c.args.file.bound
