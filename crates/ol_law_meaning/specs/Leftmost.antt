-- The laws that tie head steps to beta steps: to head reduction and to leftmost reduction.
use Rattle.std.specs.Prelude.{◌≡◌, ℕ, List, Some, ◌↔◌}
use Rattle.ol_term.specs.Trees.{Tree}
use Rattle.ol_beta.specs.Beta.{contracted, substituted}
use Rattle.ol_beta.specs.Leftmost.{leftmost}
use Rattle.ol_law_meaning.specs.Contraction.{HeadStep, subst_for}
use Rattle.ol_law_meaning.specs.Heads.{Steps}
use Rattle.ol_law_meaning.specs.Shows.{IsHeadAddress, HeadReduces, HeadReducesForever}

-- a head step is the leftmost beta step
abbrev pub HeadIsLeftmost : Type 0
HeadIsLeftmost = (t t' : Tree) → HeadStep t t' →
    (at : List ℕ) × (leftmost t ≡ Some at) × (contracted t at ≡ Some t')

-- a head step is contraction at a head address
abbrev pub HeadIsContraction : Type 0
HeadIsContraction = (t t' : Tree) →
    HeadStep t t' ↔ ((at : List ℕ) × IsHeadAddress at × (contracted t at ≡ Some t'))

-- a row of head steps is head reduction
abbrev pub StepsAreReduction : Type 0
StepsAreReduction = (t u : Tree) → HeadReduces t u ↔ ((m : ℕ) × Steps t u m)

-- head reduction has no end exactly where any number of head steps is made
abbrev pub EndlessIsAnyNumber : Type 0
EndlessIsAnyNumber = (t : Tree) →
    HeadReducesForever t ↔ ((m : ℕ) → (u : Tree) × Steps t u m)

-- the two ways to put a term in for a variable are one
abbrev pub OneSubstitution : Type 0
OneSubstitution = (t N : Tree) (i : ℕ) → subst_for i N t ≡ substituted N i t
