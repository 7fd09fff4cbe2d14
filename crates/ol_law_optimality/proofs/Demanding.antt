-- Demand order makes no more beta steps than there are steps of any reduction by families.
use Rattle.std.proofs.Common.{◌≡◌, ℕ, ◌≤◌, List, length, refl, sym, ap, ◌∙◌, subst, arith}
use Rattle.std.specs.Option.{option_map}
use Rattle.ol_beta.specs.Leftmost.{IsNormal}
use Rattle.ol_law_confluence.proofs.LeftmostEnds.{leftmost_finds}
use Rattle.ol_demand.specs.Demands.{Asking, Turns, IsDemandRun}
use Rattle.ol_demand.specs.Laws.{IsStart}
use Rattle.ol_demand.proofs.Onward.{is_start}
use Rattle.ol_law_optimality.specs.Families.{HaveOwnLetters}
use Rattle.ol_law_optimality.proofs.AllFamilies.{runs_are_of_families}
use Rattle.ol_law_optimality.proofs.Betas.{runs_have_families}
use Rattle.ol_law_optimality.proofs.Labelling.{leftmost_is_labelled}
use Rattle.ol_law_optimality.proofs.Never.{never_more_where_printed}
use Rattle.ol_law_meaning.proofs.Endings.{no_redex}
use Rattle.ol_law_meaning.specs.Shows.{BetaReduces}
use Rattle.ol_law_meaning.specs.Shows as shows
use Rattle.ol_net.specs.Nets.{NamedNet, IsNet, SameNet, net_under}
use Rattle.ol_net.specs.Numbered.{net_of}
use Rattle.ol_net.specs.declared.parts.Rule.TheVariants as rule
use Rattle.ol_law_optimality.specs.Labels.{Label, Labelled, erased, LeftmostContracts}
use Rattle.ol_law_optimality.proofs.Erasing.{labels_erase}
use Rattle.ol_readback.specs.Terms.{HasAllHeads, term_of}
use Rattle.ol_readback.specs.declared.answers.ReadNode.{ReadNode}
use Rattle.ol_rules.specs.Counting.{times_applied}
use Rattle.ol_rules.specs.declared.journal.Entry.{Entry}
use Rattle.ol_rules.specs.declared.journal.NodeName.{NodeName}
use Rattle.ol_rules.specs.declared.journal.NodeName.TheVariants.{Init}
use Rattle.ol_term.specs.Trees.{Tree}
use Rattle.ol_term.specs.declared.translations.Translation.{Translation}
use Rattle.ol_translate.specs.Names.{HasNames}
use Rattle.ol_translate.specs.Translation.{translation_of}
use Rattle.ol_law_optimality.specs.Demand.{AreSoManyOf, BetasAreOfEachReduction, NoneIsShorterThanDemand}
use Rattle.ol_law_optimality.specs.Demand.{DemandIsAsShort}
use Rattle.ol_law_optimality.specs.Reductions.{Contracts, ready, contract, FamilyReduces, LeftmostFamilies}
use Rattle.ol_law_optimality.proofs.Counts.{no_more}
use Rattle.ol_law_optimality.proofs.Needed.{contracts_row, row_needed, spread}
use Rattle.ol_law_optimality.proofs.Reached.{fewest_is_reached}

-- without the labels it is beta reduction
pub contracts_beta : {T V : Labelled} {us : List Label} → Contracts T us V →
    BetaReduces (erased T) (erased V)
contracts_beta ready = shows.ready
contracts_beta (contract {t = t} at g e r) =
    shows.contract {at = at} tt (sym (labels_erase t at) ∙ ap (option_map erased) e)
    (contracts_beta r)

-- ---- a run of any net that is the term's up to names, for the term that T is without labels

abbrev HasFamiliesOf : Translation → List Label → Tree → Type 0
HasFamiliesOf τ us t = (names : ℕ) → HasNames t names → (K : NamedNet ℕ) → IsNet K →
    SameNet K (translation_of τ t names) → IsStart (net_under Init K) →
    (heads turns : ℕ) (journal : List Entry) (places : List ReadNode) (M : NamedNet NodeName)
    (a : Asking) → Turns (net_under Init K) heads turns journal places M a →
    AreSoManyOf (times_applied rule.Beta journal) us

pub has_families_of : (τ : Translation) (T V : Labelled) (us : List Label) → Contracts T us V →
    IsNormal (erased V) → HaveOwnLetters T → (t : Tree) → erased T ≡ t → HasFamiliesOf τ us t
has_families_of τ T V us c n own t q names h K k same start heads turns journal places M a r =
    let l = leftmost_is_labelled T (erased V) (leftmost_finds (contracts_beta c) n) in
    let x =
    runs_have_families τ T l.0 l.1 l.2 (subst IsNormal (sym l.3) n) own t q names h K k same start
    heads turns journal places M a r in (
      x.0,
      x.1,
      λ e i. row_needed l.2 (contracts_row c) (no_redex (erased V) n) e (x.2 e i),
      x.3,
    )

abbrev IsNoLonger : Translation → List Label → Tree → Type 0
IsNoLonger τ ds t = (names : ℕ) → HasNames t names → (K : NamedNet ℕ) → IsNet K →
    SameNet K (translation_of τ t names) → IsStart (net_under Init K) →
    (heads turns : ℕ) (journal : List Entry) (places : List ReadNode) (M : NamedNet NodeName)
    (a : Asking) → Turns (net_under Init K) heads turns journal places M a →
    times_applied rule.Beta journal ≤ length ds

pub is_no_longer : (τ : Translation) (T V : Labelled) (ds : List Label) → FamilyReduces T ds V →
    IsNormal (erased V) → HaveOwnLetters T → (t : Tree) → erased T ≡ t → IsNoLonger τ ds t
is_no_longer τ T V ds f n own t q names h K k same start heads turns journal places M a r =
    let s = spread f in
    let x =
    has_families_of τ T V s.degrees s.steps n own t q names h K k same start heads turns journal
    places M a r in
    let m = no_more x.0 ds x.1 (λ e i. s.known e (x.2 e i)) in
    let e = x.3 in
    omega (arith, m, e)

-- where leftmost reduction ends in a normal form, and a demand run has a head at each place
abbrev IsAsShort : Translation → Labelled → Labelled → Tree → Type 0
IsAsShort τ T v t = (names : ℕ) → HasNames t names → (K : NamedNet ℕ) → IsNet K →
    SameNet K (translation_of τ t names) → IsStart (net_under Init K) →
    (heads : ℕ) (journal : List Entry) (places : List ReadNode) (M : NamedNet NodeName) →
    IsDemandRun (net_under Init K) heads journal places M → HasAllHeads places →
    (ds : List Label) × LeftmostFamilies T ds v × (times_applied rule.Beta journal ≡ length ds)

pub is_as_short : (τ : Translation) (T v : Labelled) (ws : List Label) → LeftmostContracts T ws v →
    IsNormal (erased v) → HaveOwnLetters T → (t : Tree) → erased T ≡ t → IsAsShort τ T v t
is_as_short τ T v ws l n own t q names h K k same start heads journal places M d all =
    let x =
    runs_are_of_families τ T v ws l n own t q names h K k same start heads journal places M d all in
    let y = fewest_is_reached T v ws l n own.1 in
    let a = no_more x.0 y.0 x.1 (λ e i. (y.3 e).1 ((x.2 e).0 i)) in
    let b = no_more y.0 x.0 y.2 (λ e i. (x.2 e).1 ((y.3 e).0 i)) in
    let e = x.3 in
    (y.0, y.1, omega (arith, a, b, e))

-- ---- the laws

pub betas_are_of_each_reduction : BetasAreOfEachReduction
betas_are_of_each_reduction τ T V us c n own names h g k same =
    has_families_of τ T V us c n own (erased T) refl names h (net_of g) k same (is_start g k)

pub none_is_shorter_than_demand : NoneIsShorterThanDemand
none_is_shorter_than_demand τ T V ds f n own names h g k same =
    is_no_longer τ T V ds f n own (erased T) refl names h (net_of g) k same (is_start g k)

pub demand_is_as_short : DemandIsAsShort
demand_is_as_short τ T own names h g k same heads journal places M d all =
    let p = never_more_where_printed τ (erased T) names h g k same heads journal places M d all in
    let l = leftmost_is_labelled T (term_of p.0) p.2 in
    let n = subst IsNormal (sym l.3) p.3 in
    let x =
    is_as_short τ T l.0 l.1 l.2 n own (erased T) refl names h (net_of g) k same (is_start g k) heads
    journal places M d all in
    (x.0, l.0, x.1, n, (p.0, p.1, l.3), x.2)
