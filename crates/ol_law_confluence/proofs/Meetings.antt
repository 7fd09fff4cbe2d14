-- Reducts of one term meet, and so do convertible terms.
use Rattle.std.proofs.Common.{◌≡◌, Some, None, refl, sym, ◌∙◌, subst}
use Rattle.ol_beta.specs.Leftmost.{IsNormal}
use Rattle.ol_law_meaning.specs.Contraction.{Tree}
use Rattle.ol_law_meaning.specs.Shows.{ready, contract, BetaReduces}
use Rattle.ol_law_meaning.proofs.LeftmostRoads.{then_leads}
use Rattle.ol_law_confluence.specs.Reductions.{Convertible, contracts, same, turned, joined, Meet, Parallel}
use Rattle.ol_law_confluence.proofs.Parallels.{develops}
use Rattle.ol_law_confluence.proofs.Contractions.{contraction_step, parallel_beta}

-- one parallel step on the one side
record Strip (u v : Tree) : Type 0 where
  end : Tree
  reduces : BetaReduces u end
  steps : Parallel v end

strip : {t u v : Tree} → Parallel t u → BetaReduces t v → Strip u v
strip {u = u} p ready = record { end = u; reduces = ready; steps = p }
strip {t} {u} p (contract {at = at} c e l) =
    let r = strip (develops (contraction_step t at _ e)) l in
    record
    { end = r.end; reduces = then_leads (parallel_beta (develops p)) r.reduces; steps = r.steps }

pub meet : {t u v : Tree} → BetaReduces t u → BetaReduces t v → Meet u v
meet {v = v} ready l = record { reduct = v; first = l; second = ready }
meet {t} (contract {u = s} {at = at} c e k) l =
    let r = strip (contraction_step t at s e) l in
    let m = meet k r.reduces in
    record
    { reduct = m.reduct; first = m.first; second = then_leads (parallel_beta r.steps) m.second }

-- ---- normal forms

pub normal_stays : {u w : Tree} → IsNormal u → BetaReduces u w → u ≡ w
normal_stays n ready = refl
normal_stays n (contract {u = v} {at = at} c e l) =
    absurd (let k : Some v ≡ None = sym e ∙ n at in cc)

pub leads_there : {t u v : Tree} → BetaReduces t v → IsNormal v → BetaReduces t u → BetaReduces u v
leads_there {u = u} l n k =
    let m = meet k l in
    subst (λ w. BetaReduces u w) (sym (normal_stays n m.second)) m.first

pub normal_one : {t u v : Tree} → BetaReduces t u → BetaReduces t v → IsNormal u → IsNormal v →
    u ≡ v
normal_one k l n m = normal_stays n (leads_there l m k)

-- ---- conversion

pub convertible : {t u : Tree} → BetaReduces t u → Convertible t u
convertible ready = same
convertible (contract {at = at} c e l) = joined (contracts at e) (convertible l)

pub meet_convertible : {t u : Tree} → Meet t u → Convertible t u
meet_convertible m = joined (convertible m.first) (turned (convertible m.second))

meet_turned : {t u : Tree} → Meet t u → Meet u t
meet_turned m = record { reduct = m.reduct; first = m.second; second = m.first }

meet_joined : {t u v : Tree} → Meet t u → Meet u v → Meet t v
meet_joined m k =
    let r = meet m.second k.first in
    record
    { reduct = r.reduct; first = then_leads m.first r.first; second = then_leads k.second r.second }

pub convertible_meet : {t u : Tree} → Convertible t u → Meet t u
convertible_meet {u = u} (contracts at e) =
    record { reduct = u; first = contract {at = at} tt e ready; second = ready }
convertible_meet {t} same = record { reduct = t; first = ready; second = ready }
convertible_meet (turned c) = meet_turned (convertible_meet c)
convertible_meet (joined c d) = meet_joined (convertible_meet c) (convertible_meet d)

-- a normal form of the one is a normal form of the other
pub convertible_leads : {t u v : Tree} → Convertible t u → BetaReduces t v → IsNormal v →
    BetaReduces u v
convertible_leads {u = u} c l n =
    let m = convertible_meet (joined (turned c) (convertible l)) in
    subst (λ w. BetaReduces u w) (sym (normal_stays n m.second)) m.first

pub convertible_normal : {t u v w : Tree} → Convertible t u → BetaReduces t v → IsNormal v →
    BetaReduces u w → IsNormal w → v ≡ w
convertible_normal c l n k m = normal_one (convertible_leads c l n) k n m
