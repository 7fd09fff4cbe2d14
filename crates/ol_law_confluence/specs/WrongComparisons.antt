-- What two wrong comparisons would answer of small terms, and that it isn't so.
use Rattle.std.specs.Prelude.{true, List, [], ◌∷◌, codes}
use Rattle.ol_readback.specs.declared.answers.HeadVar.TheVariants as var
use Rattle.ol_readback.specs.declared.answers.ReadNode.{ReadNode}
use Rattle.ol_readback.specs.declared.answers.ReadNode.TheVariants as node
use Rattle.ol_equal.specs.declared.answers.Compared.{Compared}
use Rattle.ol_equal.specs.declared.answers.Compared.TheVariants as answer
use Rattle.ol_equal.specs.Comparing.{TreeWithNames}
use Rattle.ol_term.specs.Trees.{Tree, free, app}
use Rattle.ol_law_confluence.specs.Compared.{ArePrinted, TellsTerms}

-- these places are printed of the two terms, and this answer isn't so of them
pub record IsNotSo (names : TreeWithNames) (t u : Tree) (ns ms : List ReadNode) (x : Compared) : Type 0
  where
    pub printed : ArePrinted t u true true ns ms
    pub not_so : TellsTerms names t u x → ⊥

-- the first free name, which is printed as a head without arguments
abbrev pub first_name : List ReadNode
first_name = node.Head 0 (var.Free 1) 0 ∷ []

-- the first free name, applied to an argument that wasn't asked for
abbrev pub argument_cut : List ReadNode
argument_cut = node.Head 0 (var.Free 1) 1 ∷ node.Cut ∷ []

-- A comparison of free names by their numbers finds the trees of `a` and of `b` equal; but these two
-- have no normal form in common.
abbrev pub NumbersMislead : Type 0
NumbersMislead = IsNotSo (record { a = codes "a" ∷ []; b = codes "b" ∷ [] }) (free 0) (free 0)
    first_name first_name answer.Equal

-- A comparison that answers `different` where the first place apart is cut does so of `a a` and `a a`,
-- of which one head was asked for; but a term is convertible with itself.
abbrev pub CutMisleads : Type 0
CutMisleads = IsNotSo (record { a = codes "a" ∷ []; b = codes "a" ∷ [] }) (app (free 0) (free 0))
    (app (free 0) (free 0)) argument_cut argument_cut (answer.Different (1 ∷ []))
