-- Private: what is seen of a text of the grammar, token by token, if only names of binders are kept.
use Rattle.std.specs.Prelude.{ℕ, List, [], ◌∷◌, Option, Some, None}
use Rattle.ol_parse.specs.Grammar.{Token, name, let_key, in_key, lambda, dot, equals, open_bracket, close_bracket}
use Rattle.ol_steps.specs.Binders.{Binders, leaf, lam, app}

-- what is open round a place: a spine that a body is for, an abstraction, a let behind its `in`, a bracket, a let
-- before it
pub data Frame : Type 0 where
  applied : Option Binders → Frame
  abstracted : List ℕ → Frame
  bound : List ℕ → Binders → Frame
  bracket : Option Binders → Frame
  defining : List ℕ → Frame

-- in a term, behind a λ, behind `let`; what is open stands innermost first
pub data Sight : Type 0 where
  at : Option Binders → List Frame → Sight
  naming : List Frame → Sight
  let_name : List Frame → Sight

abbrev pub join : Option Binders → Binders → Binders
join None s = s
join (Some r) s = app r s

-- a term is whole: what stands round it, out to a bracket or a let before its `in`
abbrev pub finish : Binders → List Frame → Binders × List Frame
finish s [] = (s, [])
finish s (applied o ∷ fs) = finish (join o s) fs
finish s (abstracted x ∷ fs) = finish (lam x s) fs
finish s (bound x d ∷ fs) = finish (app (lam x s) d) fs
finish s (bracket o ∷ fs) = (s, bracket o ∷ fs)
finish s (defining x ∷ fs) = (s, defining x ∷ fs)

abbrev pub closed : Binders × List Frame → Sight
closed (s, []) = at (Some s) []
closed (s, bracket o ∷ fs) = at (Some (join o s)) fs
closed (s, f ∷ fs) = at (Some s) fs

abbrev pub defined : Binders × List Frame → Sight
defined (s, []) = at (Some s) []
defined (s, defining x ∷ fs) = at None (bound x s ∷ fs)
defined (s, f ∷ fs) = at (Some s) fs

abbrev pub if_whole : Option Binders → List Frame → (Binders × List Frame → Sight) → Sight
if_whole None fs k = at None fs
if_whole (Some s) fs k = k (finish s fs)

abbrev pub take : Sight → Token → Sight
take (at o fs) (name x) = at (Some (join o leaf)) fs
take (at o fs) open_bracket = at None (bracket o ∷ fs)
take (at o fs) lambda = naming (applied o ∷ fs)
take (at o fs) let_key = let_name (applied o ∷ fs)
take (at o fs) close_bracket = if_whole o fs closed
take (at o fs) in_key = if_whole o fs defined
take (at o fs) dot = at o fs
take (at o fs) equals = at o fs
take (naming fs) (name x) = naming (abstracted x ∷ fs)
take (naming fs) dot = at None fs
take (naming fs) _ = naming fs
take (let_name fs) (name x) = at None (defining x ∷ fs)
take (let_name fs) _ = let_name fs

-- the names of the whole, at its end
abbrev pub result_of : Sight → Binders
result_of (at (Some s) fs) = (finish s fs).0
result_of _ = leaf
