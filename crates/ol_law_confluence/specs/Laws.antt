-- The laws of beta reduction: it is confluent, leftmost reduction finds the normal form, and head
-- reduction finds the head.
use Rattle.std.specs.Prelude.{◌≡◌, ℕ, ◌↔◌, List}
use Rattle.ol_beta.specs.Leftmost.{IsNormal}
use Rattle.ol_readback.specs.Terms.{abstracted}
use Rattle.ol_term.specs.Trees.{Tree}
use Rattle.ol_law_meaning.specs.Shows.{BetaReduces, LeftmostReduces, HeadReduces, HeadReducesForever}
use Rattle.ol_law_meaning.specs.Shows.{applied, IsVariable}
use Rattle.ol_law_confluence.specs.Reductions.{Convertible, AreConvertible, Meet, HasHeadNormalForm}
use Rattle.ol_law_confluence.specs.Reductions.{HeadReductionEnds}
use Rattle.ol_law_confluence.specs.Reductions.{Parallel, developed, Standard}

-- ---- confluence

-- a parallel step is a beta reduction, and leads on to the complete development
abbrev pub DevelopmentIsLast : Type 0
DevelopmentIsLast = (t u : Tree) → Parallel t u → BetaReduces t u × Parallel u (developed t)

-- two reducts of a term have a common reduct (Church and Rosser)
abbrev pub ChurchRosser : Type 0
ChurchRosser = (t u v : Tree) → BetaReduces t u → BetaReduces t v → Meet u v

-- a term has one normal form at most
abbrev pub NormalFormIsOne : Type 0
NormalFormIsOne = (t u v : Tree) → BetaReduces t u → BetaReduces t v → IsNormal u → IsNormal v →
    u ≡ v

-- each reduct of a term leads to its normal form
abbrev pub EveryReductLeadsThere : Type 0
EveryReductLeadsThere = (t u v : Tree) → BetaReduces t v → IsNormal v → BetaReduces t u →
    BetaReduces u v

-- ---- conversion

-- terms are convertible exactly where they have a common reduct
abbrev pub ConvertibleIfMeet : Type 0
ConvertibleIfMeet = (t u : Tree) → Convertible t u ↔ Meet t u

-- where one of two convertible terms has a normal form, the other has the same
abbrev pub ConvertibleShareNormalForm : Type 0
ConvertibleShareNormalForm = (t u v : Tree) → Convertible t u → BetaReduces t v → IsNormal v →
    BetaReduces u v

-- normal forms of convertible terms are the same
abbrev pub ConvertibleNormalFormsAgree : Type 0
ConvertibleNormalFormsAgree = (t u v w : Tree) → Convertible t u →
    BetaReduces t v → IsNormal v → BetaReduces u w → IsNormal w → v ≡ w

-- ---- standardization

-- a term reduces to another exactly where standard reduction leads there
abbrev pub Standardization : Type 0
Standardization = (t u : Tree) → BetaReduces t u ↔ Standard t u

-- leftmost reduction leads to the normal form (Curry and Feys)
abbrev pub LeftmostFindsIt : Type 0
LeftmostFindsIt = (t v : Tree) → BetaReduces t v → IsNormal v → LeftmostReduces t v

-- ---- heads

-- Head normal forms of convertible terms have as many abstractions, the same head and as many
-- arguments, and the arguments are convertible one with another.
abbrev pub HeadNormalFormsAgree : Type 0
HeadNormalFormsAgree = (t u : Tree) → Convertible t u →
    (n m : ℕ) (y z : Tree) (Ps Qs : List Tree) → IsVariable y → IsVariable z →
    HeadReduces t (abstracted n (applied y Ps)) → HeadReduces u (abstracted m (applied z Qs)) →
    (n ≡ m) × (y ≡ z) × AreConvertible Ps Qs

-- a term is convertible with a head normal form exactly where its head reduction ends (Wadsworth)
abbrev pub HeadNormalFormIfHeadReductionEnds : Type 0
HeadNormalFormIfHeadReductionEnds = (t : Tree) → HasHeadNormalForm t ↔ HeadReductionEnds t

-- and with none exactly where its head reduction has no end
abbrev pub NoHeadNormalFormIfForever : Type 0
NoHeadNormalFormIfForever = (t : Tree) → (HasHeadNormalForm t → ⊥) ↔ HeadReducesForever t
