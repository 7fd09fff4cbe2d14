-- Names of binders: which they are, whatever boxes hold them.
use Rattle.ol_steps.specs.Binders.{Binders, leaf, lam, app}
use Rattle.ol_steps.specs.declared.trees.BinderTree.{BinderTree, Leaf, Binder', Parts'}

abbrev pub binders_in : BinderTree → Binders
binders_in Leaf = leaf
binders_in (Binder' x p s) = lam x.items (binders_in s)
binders_in (Parts' p r q s) = app (binders_in r) (binders_in s)
