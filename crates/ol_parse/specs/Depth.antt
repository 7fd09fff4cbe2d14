-- Private: how deep a term is.
use Rattle.std.specs.Prelude.{◌≡◌, ℕ, ◌+◌, max, List, map, reverse, Some, IsSome}
use Rattle.ol_parse.specs.Grammar.{Named, var, lam, app}
use Rattle.ol_parse.specs.Flat.{put}
use Rattle.ol_parse.specs.declared.flat.Op.{Op}

abbrev pub named_depth : Named → ℕ
named_depth (var x) = 1
named_depth (lam x t) = 1 + named_depth t
named_depth (app f t) = 1 + max (named_depth f) (named_depth t)

-- the step can be taken on a stack of terms of these depths, the last of which is the top
abbrev pub CanPut : Op → List ℕ → Type 0
CanPut op depths = (ts : List Named) × (map named_depth ts ≡ reverse depths) × IsSome (put op ts)

-- the step takes terms of these depths to terms of those
abbrev pub Deepens : Op → List ℕ → List ℕ → Type 0
Deepens op depths depths' = (ts us : List Named) → map named_depth ts ≡ reverse depths → put op ts ≡ Some us
    → map named_depth us ≡ reverse depths'
