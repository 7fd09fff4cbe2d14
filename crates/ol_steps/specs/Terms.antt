-- Terms with names: which term it is, whatever boxes hold it.
use Rattle.ol_parse.specs.Grammar.{Named, var, lam, app}
use Rattle.ol_steps.specs.declared.terms.NamedTerm.{NamedTerm, Name, Abstraction', Application'}

abbrev pub named_of : NamedTerm → Named
named_of (Name x) = var x.items
named_of (Abstraction' x p t) = lam x.items (named_of t)
named_of (Application' p f q a) = app (named_of f) (named_of a)
