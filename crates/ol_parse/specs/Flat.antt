-- Private: the flat form: what a row of steps builds, and what the flat state of the reader stands for.
use Rattle.std.specs.Prelude.{◌≡◌, ℕ, List, [], ◌∷◌, ◌++◌, map, Bool, true, false, Option, Some}
use Rattle.std.specs.Prelude.{None, option_and_then, is_some}
use Rattle.ol_parse.specs.Grammar.{Named, var, lam, app, Token}
use Rattle.ol_parse.specs.Machine.{Frame, applied, abstracted, bound, bracket, defining, State}
use Rattle.ol_parse.specs.Machine.{at, first_name, more_names, let_name, let_equals, join, finish, step}
use Rattle.ol_parse.specs.declared.flat.Op.{Op}
use Rattle.ol_parse.specs.declared.flat.Op.TheVariants.{Push, Apply, Abstract, ApplyBelow}
use Rattle.ol_parse.specs.declared.flat.Open.{Open}
use Rattle.ol_parse.specs.declared.flat.Open.TheVariants.{Applied, Abstracted, Bound, Bracket, Defining}
use Rattle.ol_parse.specs.declared.flat.Mode.{Mode}
use Rattle.ol_parse.specs.declared.flat.Mode.TheVariants.{Term, FirstName, MoreNames, LetName, LetEquals}

-- one step on a stack, whose top is the first
abbrev pub put : Op → List Named → Option (List Named)
put (Push x) ts = Some (var x.now ∷ ts)
put Apply (t ∷ f ∷ ts) = Some (app f t ∷ ts)
put (Abstract x) (t ∷ ts) = Some (lam x.now t ∷ ts)
put ApplyBelow (f ∷ t ∷ ts) = Some (app f t ∷ ts)
put _ _ = None

abbrev pub build : List Op → List Named → Option (List Named)
build [] ts = Some ts
build (op ∷ ops) ts = option_and_then (build ops) (put op ts)

-- what a row of steps builds from nothing
abbrev pub built : List Op → Option (List Named)
built ops = build ops []

-- what is open, without the terms
pub data Bare : Type 0 where
  bare_applied : Bool → Bare
  bare_abstracted : List ℕ → Bare
  bare_bound : List ℕ → Bare
  bare_bracket : Bool → Bare
  bare_defining : List ℕ → Bare

abbrev pub bare : Open → Bare
bare (Applied b) = bare_applied b
bare (Abstracted x) = bare_abstracted x.now
bare (Bound x) = bare_bound x.now
bare (Bracket b) = bare_bracket b
bare (Defining x) = bare_defining x.now

abbrev pub without : Frame → Bare
without (applied o) = bare_applied (is_some o)
without (abstracted x) = bare_abstracted x
without (bound x d) = bare_bound x
without (bracket o) = bare_bracket (is_some o)
without (defining x) = bare_defining x

-- the outermost first
abbrev pub withouts : List Frame → List Bare
withouts [] = []
withouts (f ∷ fs) = withouts fs ++ (without f ∷ [])

abbrev pub Shows : List Frame → List Open → Type 0
Shows fs opens = map bare opens ≡ withouts fs

abbrev pub one_of : Option Named → List Named
one_of None = []
one_of (Some t) = t ∷ []

-- the terms that wait in a frame
abbrev pub held : Frame → List Named
held (applied o) = one_of o
held (bracket o) = one_of o
held (bound x d) = d ∷ []
held _ = []

abbrev pub waiting : List Frame → List Named
waiting [] = []
waiting (f ∷ fs) = held f ++ waiting fs

-- the term that this frame makes of a whole term, unless it wants a bracket or an `in`
abbrev pub around : Frame → Named → Option Named
around (applied o) u = Some (join o u)
around (abstracted x) u = Some (lam x u)
around (bound x d) u = Some (app (lam x u) d)
around _ u = None

-- what the steps have built after one more frame
abbrev pub Unwound : Bool → List Op → List Named → Option Named → Type 0
Unwound true ops ts (Some v) = built ops ≡ Some (v ∷ ts)
Unwound false ops ts None = Unit {0}
Unwound _ ops ts _ = ⊥

-- One open frame is ended, unless it wants a bracket or an `in`: the steps then build the term that it makes of the one
-- before.
abbrev pub Unwinds : Open → List Op → Bool → List Op → Type 0
Unwinds innermost ops done ops' =
    (f : Frame) (u : Named) (ts : List Named) → bare innermost ≡ without f → built ops ≡ Some (u ∷ held f ++ ts)
    → Unwound done ops' ts (around f u)

-- where the terms and the row of what is open stand once a term is whole
abbrev pub Ended : Named × List Frame → Option Open → List Open → List Op → Type 0
Ended (u, []) None opens ops = (opens ≡ []) × (built ops ≡ Some (u ∷ []))
Ended (u, f ∷ fs) (Some o) opens ops =
    (bare o ≡ without f) × Shows fs opens × (built ops ≡ Some (u ∷ held f ++ waiting fs))
Ended _ _ opens ops = ⊥

-- The innermost term is whole, and all frames that end with it are ended. What wants a bracket or an `in` is taken off.
abbrev pub Finishes : List Open → List Op → Option Open → List Open → List Op → Type 0
Finishes opens ops closer opens' ops' =
    (u : Named) (fs : List Frame) → Shows fs opens → built ops ≡ Some (u ∷ waiting fs)
    → Ended (finish u fs) closer opens' ops'

abbrev pub frames_of : State → List Frame
frames_of (at o fs) = fs
frames_of (first_name fs) = fs
frames_of (more_names fs) = fs
frames_of (let_name fs) = fs
frames_of (let_equals x fs) = defining x ∷ fs

abbrev pub terms_of : State → List Named
terms_of (at o fs) = one_of o ++ waiting fs
terms_of (first_name fs) = waiting fs
terms_of (more_names fs) = waiting fs
terms_of (let_name fs) = waiting fs
terms_of (let_equals x fs) = waiting fs

abbrev pub SameMode : State → Mode → Type 0
SameMode (at o fs) (Term b) = b ≡ is_some o
SameMode (first_name fs) FirstName = Unit {0}
SameMode (more_names fs) MoreNames = Unit {0}
SameMode (let_name fs) LetName = Unit {0}
SameMode (let_equals x fs) LetEquals = Unit {0}
SameMode _ _ = ⊥

-- the flat state stands for this one
pub record Holds (p : State) (m : Mode) (opens : List Open) (ops : List Op) : Type 0 where
  pub mode : SameMode p m
  pub shows : Shows (frames_of p) opens
  pub terms : built ops ≡ Some (terms_of p)

abbrev pub Next : Option State → Option Mode → List Open → List Op → Type 0
Next (Some q) (Some m) opens ops = Holds q m opens ops
Next None None opens ops = Unit {0}
Next _ _ opens ops = ⊥

-- after this token the flat state stands for the machine's next state, or neither takes it
abbrev pub Takes : Token → Mode → List Open → List Op → Option Mode → List Open → List Op → Type 0
Takes k m opens ops next opens' ops' = (p : State) → Holds p m opens ops → Next (step p k) next opens' ops'

abbrev pub applied_if : Bool → List Op → List Op
applied_if true ops = ops ++ (Apply ∷ [])
applied_if false ops = ops
