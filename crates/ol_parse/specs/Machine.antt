-- Private: a machine that reads tokens, with a row of what is open.
use Rattle.std.proofs.Common.{ℕ, List, [], ◌∷◌, Option, Some, None, option_and_then}
use Rattle.ol_parse.specs.Grammar.{Named, var, lam, app, Token, name, let_key, in_key, lambda, dot}
use Rattle.ol_parse.specs.Grammar.{equals, open_bracket, close_bracket}

-- what is open round the place: a spine that the body is for, an abstraction, a let behind its `in`, a bracket, a let
-- before it
pub data Frame : Type 0 where
  applied : Option Named → Frame
  abstracted : List ℕ → Frame
  bound : List ℕ → Named → Frame
  bracket : Option Named → Frame
  defining : List ℕ → Frame

pub data State : Type 0 where
  at : Option Named → List Frame → State
  first_name : List Frame → State
  more_names : List Frame → State
  let_name : List Frame → State
  let_equals : List ℕ → List Frame → State

abbrev pub join : Option Named → Named → Named
join None t = t
join (Some f) t = app f t

-- a term is whole: what stands round it, out to a bracket or a let before its `in`
abbrev pub finish : Named → List Frame → Named × List Frame
finish u [] = (u, [])
finish u (applied o ∷ fs) = finish (join o u) fs
finish u (abstracted x ∷ fs) = finish (lam x u) fs
finish u (bound x d ∷ fs) = finish (app (lam x u) d) fs
finish u (bracket o ∷ fs) = (u, bracket o ∷ fs)
finish u (defining x ∷ fs) = (u, defining x ∷ fs)

abbrev pub at_close : Named × List Frame → Option State
at_close (u, bracket o ∷ fs) = Some (at (Some (join o u)) fs)
at_close (u, _) = None

abbrev pub at_in : Named × List Frame → Option State
at_in (u, defining x ∷ fs) = Some (at None (bound x u ∷ fs))
at_in (u, _) = None

abbrev pub at_end : Named × List Frame → Option Named
at_end (u, []) = Some u
at_end (u, _) = None

abbrev pub if_some : Option Named → (Named → Option State) → Option State
if_some None k = None
if_some (Some f) k = k f

abbrev pub step : State → Token → Option State
step (at o fs) (name x) = Some (at (Some (join o (var x))) fs)
step (at o fs) open_bracket = Some (at None (bracket o ∷ fs))
step (at o fs) lambda = Some (first_name (applied o ∷ fs))
step (at o fs) let_key = Some (let_name (applied o ∷ fs))
step (at o fs) close_bracket = if_some o (λ f. at_close (finish f fs))
step (at o fs) in_key = if_some o (λ f. at_in (finish f fs))
step (at o fs) dot = None
step (at o fs) equals = None
step (first_name fs) (name x) = Some (more_names (abstracted x ∷ fs))
step (first_name fs) _ = None
step (more_names fs) (name x) = Some (more_names (abstracted x ∷ fs))
step (more_names fs) dot = Some (at None fs)
step (more_names fs) _ = None
step (let_name fs) (name x) = Some (let_equals x fs)
step (let_name fs) _ = None
step (let_equals x fs) equals = Some (at None (defining x ∷ fs))
step (let_equals x fs) _ = None

abbrev pub final : State → Option Named
final (at (Some f) fs) = at_end (finish f fs)
final _ = None

-- the term of the whole, where these tokens are the rest
abbrev pub accepts : State → List Token → Option Named
accepts s [] = final s
accepts s (k ∷ ks) = option_and_then (λ s'. accepts s' ks) (step s k)
