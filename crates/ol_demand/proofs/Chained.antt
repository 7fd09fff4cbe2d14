-- What the answers of chains are to a reading.
use Rattle.std.proofs.Common.{◌≡◌, ℕ, ◌≤◌, List, ◌∷◌, [], ◌++◌, length, Option, Some, None, ◌∙◌, subst, arith}
use Rattle.ol_net.specs.Graph.{Graph}
use Rattle.ol_context.specs.Contexts.{Level}
use Rattle.ol_readback.specs.Askers.{Reading, found}
use Rattle.ol_readback.specs.Askers as asker
use Rattle.ol_readback.specs.Frames.{Frame}
use Rattle.ol_readback.specs.Heads.{Answer, head, no_head, budget, answer_of}
use Rattle.ol_readback.specs.ReadTrees.{Subterm}
use Rattle.ol_readback.specs.declared.answers.Head.{Head}
use Rattle.ol_readback.specs.declared.answers.ReadNode.{ReadNode}
use Rattle.ol_demand.specs.Answers.{StopsOnTheWay}
use Rattle.ol_demand.specs.Asking.{IsUnderWay, IsAnswered, IsStopped, IsSpentIfNone}
use Rattle.ol_demand.specs.Demands.{asks, place_of, next}
use Rattle.ol_demand.specs.Readings.{IsReadByChains, IsSpentReading}
use Rattle.ol_demand.specs.declared.asking.Chains.{Chains}
use Rattle.ol_rules.specs.declared.under_way.UnderWay.{UnderWay}

found_on : (old g : Graph) (run : UnderWay) (heads : ℕ) (places : List ReadNode) (F : List Frame)
    (s : Subterm) (ss : List Subterm) (a : Answer) →
    IsUnderWay old g run heads (places ++ place_of a ∷ []) (next F s ss a) →
    IsUnderWay old g run heads (found places F s ss a).places
    (asks (found places F s ss a).frames (found places F s ss a).waiting 0)
found_on old g run heads places F s ss (head n v k ls) u = u
found_on old g run heads places F s ss no_head u = u
found_on old g run heads places F s ss budget u = u

abbrev reads : Chains → Graph → Chains → Graph → ℕ → Reading → Type 0
reads c g c' g' heads r = IsReadByChains g c.fuel g' c'.run c'.fuel heads r

abbrev ends : Chains → Graph → Chains → Graph → ℕ → Type 0
ends c g c' g' heads = IsSpentReading g c.fuel g' c'.run heads

abbrev stops : Chains → Graph → Chains → Graph → ℕ → Type 0
stops c g c' g' heads = StopsOnTheWay g heads c.fuel g'

module _ (c : Chains) (g : Graph) (c' : Chains) (g' : Graph) (F : List Frame) where
  pub answered_by : (vs : List Level) (o : Option Head) → c'.fuel ≡ c.fuel →
      IsAnswered g g' c.run c'.run F vs o → IsSpentIfNone c'.run c.fuel o →
      length c'.run.journal ≤ c.fuel → asker.IsAnswered reads ends c g c' g' F vs o
  answered_by vs (Some h) q a s w = λ s0 n0 heads places front t ss z b u. record {
    same_fuel = q ∙ u.same_fuel;
    within = let e = u.same_fuel in omega (arith, w);
    under = found_on n0 g' c'.run heads places front t ss (answer_of vs h) (a n0 heads places front t ss z b u.under);
  }
  answered_by vs None q a s w = λ s0 n0 heads places front t ss z b u.
      (a n0 heads places front t ss z b u.under, s ∙ u.same_fuel)

  pub stopped_by : (fuel : ℕ) → fuel ≡ c.fuel → IsStopped g g' c.run F fuel → asker.IsStopped reads stops c g c' g' F
  stopped_by fuel q a = λ s0 n0 heads places front t ss z b u.
      subst (λ (fuel : ℕ). StopsOnTheWay n0 heads fuel g') (q ∙ u.same_fuel) (a n0 heads places front t ss z b u.under)
