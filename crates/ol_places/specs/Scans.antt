-- Private: what a scan of the tokens of a text keeps, from the left.
use Rattle.std.specs.Prelude.{◌≡◌, ℕ, Bool, false, List, [], ◌∷◌, ◌++◌, map, Option, Some, None, codes}
use Rattle.std.specs.Fmt.{decimal}
use Rattle.std.specs.Borrow.{Bor}
use Rattle.ol_parse.specs.Grammar.{Token, name, let_key, in_key, lambda, open_bracket, close_bracket}
use Rattle.ol_parse.specs.Texts.{Spells}
use Rattle.ol_parse.specs.declared.faults.ParseFault.{ParseFault}
use Rattle.ol_parse.specs.declared.faults.ParseFault.TheVariants.{NoMemory, Syntax, Depth}
use Rattle.ol_places.specs.Occurrences.{is_unbound}
use Rattle.ol_places.specs.Frees.{lines_of}
use Rattle.ol_places.specs.declared.columns.Place.{Place}
use Rattle.ol_places.specs.declared.scanning.Mode.{Mode}
use Rattle.ol_places.specs.declared.scanning.Mode.TheVariants.{Atom, Names, Let}
use Rattle.ol_places.specs.declared.scanning.Scope as code
use Rattle.ol_places.specs.declared.scanning.Scope.TheVariants.{Bracket, Binder, Defining}
use Rattle.ol_places.specs.declared.scanning.Scan.{Scan}

-- ---- scopes

-- what is open round a token
pub data Scope : Type 0 where
  bracket : Scope
  binder : List ℕ → Scope
  defining : List ℕ → Scope

-- the names that are bound, the outermost first; the innermost scope is the first
abbrev pub bound_by : List Scope → List (List ℕ)
bound_by [] = []
bound_by (bracket ∷ ss) = bound_by ss
bound_by (binder x ∷ ss) = bound_by ss ++ (x ∷ [])
bound_by (defining x ∷ ss) = bound_by ss

-- without the innermost binders, out to a bracket or a `let` before its `in`
abbrev pub unwound : List Scope → List Scope
unwound [] = []
unwound (bracket ∷ ss) = bracket ∷ ss
unwound (binder x ∷ ss) = unwound ss
unwound (defining x ∷ ss) = defining x ∷ ss

abbrev pub closed : List Scope → List Scope
closed [] = []
closed (s ∷ ss) = ss

abbrev pub innermost : List Scope → Option Scope
innermost [] = None
innermost (s ∷ ss) = Some s

-- behind an `in` the name of the `let` is bound
abbrev pub rebound : List Scope → List Scope
rebound [] = []
rebound (bracket ∷ ss) = ss
rebound (binder x ∷ ss) = ss
rebound (defining x ∷ ss) = binder x ∷ ss

abbrev pub scopes_after : Mode → List Scope → Token → List Scope
scopes_after Atom ss (name x) = ss
scopes_after Names ss (name x) = binder x ∷ ss
scopes_after Let ss (name x) = defining x ∷ ss
scopes_after m ss in_key = rebound (unwound ss)
scopes_after m ss open_bracket = bracket ∷ ss
scopes_after m ss close_bracket = closed (unwound ss)
scopes_after m ss _ = ss

abbrev pub mode_after : Mode → Token → Mode
mode_after Names (name x) = Names
mode_after m let_key = Let
mode_after m lambda = Names
mode_after m _ = Atom

abbrev pub is_free_at : Mode → List Scope → Token → Bool
is_free_at Atom ss (name x) = is_unbound (bound_by ss) x
is_free_at m ss _ = false

-- which of some tokens are free names
abbrev pub frees : Mode → List Scope → List Token → List Bool
frees m ss [] = []
frees m ss (k ∷ ks) = is_free_at m ss k ∷ frees (mode_after m k) (scopes_after m ss k) ks

-- ---- the scan

abbrev pub shown : code.Scope → Scope
shown Bracket = bracket
shown (Binder x) = binder x.now
shown (Defining x) = defining x.now

-- the innermost scope stands last in the program
abbrev pub scopes_of : List code.Scope → List Scope
scopes_of [] = []
scopes_of (s ∷ ss) = scopes_of ss ++ (shown s ∷ [])

abbrev pub names_of : List (Bor (List ℕ)) → List (List ℕ)
names_of names = map (λ x. x.now) names

-- the names that are kept are those that are bound
abbrev pub IsScan : Scan → Type 0
IsScan s = names_of s.bound.items ≡ bound_by (scopes_of s.scopes.items)

-- a token is taken
pub record Takes (k : Token) (before after : Scan) (free : Bool) : Type 0 where
  pub free_is : free ≡ is_free_at before.mode (scopes_of before.scopes.items) k
  pub mode_is : after.mode ≡ mode_after before.mode k
  pub scopes_are : scopes_of after.scopes.items ≡ scopes_after before.mode (scopes_of before.scopes.items) k
  pub scan : IsScan after

-- the bytes that are left, from a place on, give the rest of some lines
pub record IsLeft (lines so_far : List ℕ) (p : Place) (m : Mode) (ss : List Scope) (rest : List ℕ) : Type 0 where
  pub after : Bool
  pub tokens : List Token
  pub spelled : Spells after tokens rest
  pub is : lines ≡ so_far ++ lines_of p spelled (frees m ss tokens)

-- the line by which a text is refused
abbrev pub IsRefusal : ParseFault → List ℕ → Type 0
IsRefusal NoMemory text = ⊥
IsRefusal (Syntax at) text = text ≡ codes "syntax at byte " ++ decimal at ++ codes "\n"
IsRefusal (Depth d) text = text ≡ codes "limit depth 1000\n"
