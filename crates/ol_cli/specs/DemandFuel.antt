-- How much fuel demand order wants.
use Rattle.std.specs.Prelude.{◌≡◌, ℕ, suc, ◌≤◌, List, [], ◌∷◌, length, map, true}
use Rattle.ol_term.specs.declared.translations.Translation.{Translation}
use Rattle.ol_term.specs.Trees.{Tree}
use Rattle.ol_translate.specs.Names.{HasNames}
use Rattle.ol_translate.specs.Translation.{translation_of}
use Rattle.ol_beta.specs.Leftmost.{IsNormal}
use Rattle.ol_readback.specs.Terms.{term_of, abstracted, variable_of}
use Rattle.ol_readback.specs.Whole.{Part, preorder}
use Rattle.ol_readback.specs.declared.answers.HeadVar.{HeadVar}
use Rattle.ol_readback.specs.declared.answers.ReadNode.TheVariants as node
use Rattle.ol_law_meaning.specs.Shows.{BetaReduces, HeadReduces, applied}
use Rattle.ol_law_confluence.specs.Reductions.{HasHeadNormalForm}
use Rattle.ol_law_completeness.specs.Complete.{HaveInversions}
use Rattle.ol_demand.specs.Demands.{HasMoreSteps}
use Rattle.ol_cli.specs.Run.{start_net_of_term}
use Rattle.ol_cli.specs.Demand.{DemandEnds}

-- With so much fuel, or more, the demand run for so many heads ends, and isn't longer. So `demand` on
-- the term's file is never spent then (`exact`), and is done where no limit is passed
-- (`completeness`).
abbrev pub IsEnoughFuel : Translation → Tree → List (List ℕ) → (heads m : ℕ) → Type 0
IsEnoughFuel translation t names heads m = (fuel : ℕ) → m ≤ fuel →
    DemandEnds translation t names fuel heads
    × (HasMoreSteps (start_net_of_term translation t names) heads fuel → ⊥)

-- A term reduces to the normal form v. Then there is a tree whose term is v, and at each of its
-- places the term's own net, by this translation, has a head. The rows of the paths to these heads
-- have m inversions in all: a number of the source alone. So much fuel is enough, whatever number of
-- heads is asked for.
abbrev pub DemandHasFuel : Type 0
DemandHasFuel = (translation : Translation) (t : Tree) (names : List (List ℕ)) →
    HasNames t (length names) → (v : Tree) → BetaReduces t v → IsNormal v →
    (T : Part true) × (term_of T ≡ v) × (m : ℕ)
    × HaveInversions (translation_of translation t (length names)) (suc (length (preorder T)))
    (preorder T) m
    × ((heads : ℕ) → IsEnoughFuel translation t names heads m)

-- A term has a head normal form. Then head reduction leads to one, and the term's own net has its
-- head, by a path whose row has m inversions. So much fuel is enough where one head is asked for; and
-- the tree whose text is the line that is written (`Demands`) is this head, with each argument cut.
abbrev pub HeadHasFuel : Type 0
HeadHasFuel = (translation : Translation) (t : Tree) (names : List (List ℕ)) →
    HasNames t (length names) → HasHeadNormalForm t →
    (n k : ℕ) × (v : HeadVar) × (Ps : List Tree) × (length Ps ≡ k)
    × HeadReduces t (abstracted n (applied (variable_of ((0, n) ∷ []) v) Ps))
    × (m : ℕ)
    × HaveInversions (translation_of translation t (length names)) 1 (node.Head n v k ∷ []) m
    × IsEnoughFuel translation t names 1 m
    × ((fuel : ℕ) (d : DemandEnds translation t names fuel 1) →
    d.tree ≡ node.Head n v k ∷ map (λ P. node.Cut) Ps)
