use Rattle.ol_law_levels.proofs.AskedTrees.{asked_heads, asked_kept, tree_tells, last_tree_tells}
use Rattle.ol_law_levels.proofs.DemandPlaces.{demand_tells}
use Rattle.ol_law_levels.proofs.asked_places_are_the_sources.Goals as goal

pub returns-clause-heads : goal.returns-clause-heads
returns-clause-heads t c = λ N many ns h. asked_heads N many ns h

pub returns-clause-kept : goal.returns-clause-kept
returns-clause-kept t c = λ N M same many ns h. asked_kept N M same many ns h

pub returns-clause-tree : goal.returns-clause-tree
returns-clause-tree t c = λ N M same is_net L complete many edges ns enough r.
    tree_tells N M same is_net L complete many edges ns enough r

pub returns-clause-last : goal.returns-clause-last
returns-clause-last t c = λ w u names h journal M run complete many edges ns enough r.
    last_tree_tells w u names h journal M run complete many edges ns enough r

pub returns-clause-demand : goal.returns-clause-demand
returns-clause-demand t c = demand_tells
