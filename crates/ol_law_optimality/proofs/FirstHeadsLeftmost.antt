-- Leftmost reduction up to the first heads contracts the degrees that are needed, and no others.
use Rattle.std.proofs.Common.{ℕ, inl, inr, List, refl, sym, subst}
use Rattle.ol_demand.proofs.Onward.{is_start}
use Rattle.ol_law_edges.specs.Edges.{IsIn}
use Rattle.ol_law_optimality.specs.Labels.{Label, Labelled, erased}
use Rattle.ol_net.specs.Numbered.{net_of}
use Rattle.ol_law_optimality.specs.FirstHeads.{ShowsHeads, HasFirstHeads}
use Rattle.ol_law_optimality.specs.LeftmostHeads.{LeftmostToHeads, ready, contract, BetasAreFamiliesForHeads}
use Rattle.ol_law_optimality.specs.Reductions.{Contracts}
use Rattle.ol_law_optimality.specs.Reductions as reductions
use Rattle.ol_law_optimality.proofs.FirstHeadsFamilies.{runs_have_families}
use Rattle.ol_law_optimality.proofs.FirstHeadsNeeded.{shows_stay, shown}
use Rattle.ol_law_optimality.proofs.FirstHeadsReached.{Found, IsWithin, find, is_first, within_is_needed, first_one}
use Rattle.ol_law_optimality.proofs.FirstHeadsReached.{ends}
use Rattle.ol_law_optimality.proofs.Firsts.{IsFirst, first_of}
use Rattle.ol_law_optimality.proofs.Needed.{Of, Row, beside, contraction_step, contracts_row}

-- where the heads aren't there, the leftmost redex is at one of the first places
is_within : (heads : ℕ) (T : Labelled) (d : Label) → (HasFirstHeads heads (erased T) → ⊥) → IsFirst d T →
    IsWithin heads d T
is_within heads T d none h = by (find T heads)
  where
    by : Found heads T → IsWithin heads d T
    by (inl s) = absurd (none s)
    by (inr x) = subst (λ d. IsWithin heads d T) (first_one (is_first x.1) h) x.1

contracts_of : {heads : ℕ} {T v : Labelled} {ws : List Label} → LeftmostToHeads heads T ws v → Contracts T ws v
contracts_of (ready s) = reductions.ready
contracts_of (contract at none e g f l) = reductions.contract at g f (contracts_of l)

shows_at_end : {heads : ℕ} {T v : Labelled} {ws : List Label} → LeftmostToHeads heads T ws v →
    HasFirstHeads heads (erased v)
shows_at_end (ready s) = s
shows_at_end (contract at none e g f l) = shows_at_end l

all_are_needed : {heads m : ℕ} {T v V : Labelled} {ws us : List Label} → LeftmostToHeads heads T ws v → Row T us V →
    ShowsHeads heads (erased V) m → (e : Label) → IsIn e ws → IsIn e us
all_are_needed (ready s) r z e i = absurd i
all_are_needed {heads = heads} {us = us} (contract {t = t} {w = d} at none l g f rest) r z e (inl k) =
    subst (λ e. IsIn e us) (sym k) (within_is_needed d r z (is_within heads t d none (first_of t at d l g)))
all_are_needed (contract {t = t} {u = u} {w = d} at none l g f rest) r z e (inr i) =
    let x = beside (Of d) (contraction_step t at d u g f) r in
    all_are_needed rest x.row (shows_stay (Of d) x.step z) e i

pub betas_are_families_up_to : BetasAreFamiliesForHeads
betas_are_families_up_to τ heads T v ws l own names h g k same journal places M d =
    let s = shows_at_end l in
    let y = shown heads s.0 T v ws (contracts_row (contracts_of l)) s.1 in
    let x = runs_have_families τ heads s.0 T y.degrees y.by own (erased T) refl names h (net_of g) k same (is_start g k)
    journal places M d in
    let z = ends y.by in (
      x.0,
      x.1,
      λ e. (λ i. y.within e ((x.2 e).0 i), λ i. (x.2 e).1 (all_are_needed l z.row z.shows e i)),
      x.3,
    )
