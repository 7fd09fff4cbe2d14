-- Lines that aren't the normal form of their source: that of another term, and a reduct that has a
-- redex; and two terms that aren't convertible.
use Rattle.std.specs.Prelude.{codes}
use Rattle.ol_parse.specs.Grammar.{Named, var, lam, app}
use Rattle.ol_law_meaning.specs.Shows.{BetaReduces}
use Rattle.ol_law_confluence.specs.NormalForms.{by_names_of, IsNormalFormOf, IsReducedTo, AreConvertible}

-- `a` and `b`
abbrev pub a : Named
a = var (codes "a")

abbrev pub b : Named
b = var (codes "b")

-- `\x. x`
abbrev pub identity : Named
identity = lam (codes "x") (var (codes "x"))

-- `(\x. x) a`, and the same once more applied to the identity
abbrev pub redex : Named
redex = app identity a

abbrev pub two_redexes : Named
two_redexes = app identity redex

-- `\x y. x`
abbrev pub first : Named
first = lam (codes "x") (lam (codes "y") (var (codes "x")))

-- a source is reduced to its normal form
abbrev pub NormalFormIsReduced : Type 0
NormalFormIsReduced = (source result : Named) → IsNormalFormOf source result → IsReducedTo source result

-- `a` isn't reduced to `b`, nor `\x. x` to `\x y. x`, though both are normal forms
abbrev pub OtherTermMisleads : Type 0
OtherTermMisleads = IsNormalFormOf b b × (IsReducedTo a b → ⊥)
    × IsNormalFormOf first first × (IsReducedTo identity first → ⊥)

-- `a` and `b` aren't convertible, whatever numbers their names have
abbrev pub NamesAreApart : Type 0
NamesAreApart = AreConvertible a b → ⊥

-- `(\x. x) a` is a reduct of `(\x. x) ((\x. x) a)`, and something is left to reduce in it
abbrev pub ReductMisleads : Type 0
ReductMisleads =
    BetaReduces (by_names_of two_redexes two_redexes) (by_names_of two_redexes redex)
    × (IsReducedTo two_redexes redex → ⊥)
