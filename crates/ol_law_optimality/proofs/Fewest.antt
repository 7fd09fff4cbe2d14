-- A number of steps that no reduction by families undercuts is that of some families of leftmost reduction.
use Rattle.std.proofs.Common.{◌≡◌, ℕ, zero, suc, ◌≤◌, inl, inr, List, [], ◌∷◌, length, ◌↔◌, refl, sym, ap, subst, arith}
use Rattle.ol_beta.specs.Leftmost.{IsNormal}
use Rattle.ol_law_edges.specs.Edges.{IsIn}
use Rattle.ol_law_optimality.proofs.Labelling.{each_term_has_letters, leftmost_is_labelled}
use Rattle.ol_law_optimality.specs.Families.{HaveOwnLetters}
use Rattle.ol_law_optimality.specs.Readings.{AreDifferent}
use Rattle.ol_law_optimality.specs.Steps.{steps_of}
use Rattle.ol_law_meaning.specs.Shows.{LeftmostReduces}
use Rattle.ol_law_optimality.specs.Labels.{Label, Labelled, erased, LeftmostContracts}
use Rattle.ol_law_optimality.specs.Labels as labels
use Rattle.ol_term.specs.Trees.{Tree}
use Rattle.ol_law_optimality.specs.Fewest.{FewestAreFamilies, FewestAreAllFamilies, FewestIsFrugal}
use Rattle.ol_law_optimality.specs.Reductions.{FamilyReduces, NoFamilyReductionIsShorter}
use Rattle.ol_law_optimality.specs.Reductions as reductions
use Rattle.ol_law_optimality.proofs.Needed.{none_is_shorter}
use Rattle.ol_law_optimality.proofs.Reached.{fewest_is_reached}
use Rattle.ol_law_optimality.proofs.Steps.{leftmost_families_are_families}

-- the first n of different labels
record Firsts (n : ℕ) (xs : List Label) : Type 0 where
  firsts : List Label
  different : AreDifferent firsts
  known : (e : Label) → IsIn e firsts → IsIn e xs
  count : n ≡ length firsts

firsts_of : (n : ℕ) (xs : List Label) → n ≤ length xs → AreDifferent xs → Firsts n xs
firsts_of zero xs few d = record { firsts = []; different = tt; known = λ e i. absurd i; count = refl }
firsts_of (suc n) [] few d = absurd (omega (arith, few))
firsts_of (suc n) (x ∷ xs) few d =
    let r = firsts_of n xs (omega (arith, few)) d.1 in
    record {
      firsts = x ∷ r.firsts;
      different = ((λ i. d.0 (r.known x i)), r.different);
      known = λ e i. elim i [ inl k ↦ inl k | inr j ↦ inr (r.known e j) ];
      count = ap suc r.count;
    }

-- the families of leftmost reduction, and how many of them there are at least
record Counted (T : Labelled) (ws : List Label) (n : ℕ) : Type 0 where
  families : List Label
  different : AreDifferent families
  same : (e : Label) → IsIn e families ↔ IsIn e ws
  enough : n ≤ length families

counted : (T v : Labelled) (ws : List Label) → HaveOwnLetters T → LeftmostContracts T ws v → IsNormal (erased v) →
    (n : ℕ) → NoFamilyReductionIsShorter IsNormal T n → Counted T ws n
counted T v ws own l normal n none =
    let y = fewest_is_reached T v ws l normal own.1 in
    record {
      families = y.0;
      different = y.2;
      same = y.3;
      enough = none v y.0 (leftmost_families_are_families T v y.0 y.1) normal;
    }

pub fewest_are_families : FewestAreFamilies
fewest_are_families T v ws own l normal n none =
    let y = counted T v ws own l normal n none in
    let r = firsts_of n y.families y.enough y.different in
    (r.firsts, r.different, λ e i. (y.same e).0 (r.known e i), r.count)

pub fewest_are_all_families : FewestAreAllFamilies
fewest_are_all_families T v ws own l normal n none one =
    let y = counted T v ws own l normal n none in
    let most = none_is_shorter T v one.0 ws one.1 l one.2 one.3 y.families y.different (λ e i. (y.same e).0 i) in
    let same = one.4 in
    let enough = y.enough in
    (y.families, y.different, y.same, omega (arith, most, same, enough))

-- each leftmost step is a family step
leftmost_families : {T V : Labelled} {ws : List Label} → LeftmostContracts T ws V → FamilyReduces T ws V
leftmost_families labels.ready = reductions.ready
leftmost_families (labels.contract {w = w} at first g e l) =
    reductions.contract
    (w ∷ [], reductions.contract at g e reductions.ready, λ x i. elim i [ inl k ↦ k | inr k ↦ absurd k ])
    (leftmost_families l)

frugal_of : (T : Labelled) (v : Tree) (r : LeftmostReduces (erased T) v) → IsNormal v → (n : ℕ) →
    NoFamilyReductionIsShorter IsNormal T n → n ≤ steps_of r
frugal_of T v r normal n none =
    let l = leftmost_is_labelled T v r in
    let few = none l.0 l.1 (leftmost_families l.2) (subst IsNormal (sym l.3) normal) in
    let same = l.4 in
    omega (arith, few, same)

pub fewest_is_frugal : FewestIsFrugal
fewest_is_frugal t v r normal n none =
    let x = each_term_has_letters t in
    subst (λ t. (r : LeftmostReduces t v) → n ≤ steps_of r) x.1
    (λ r. frugal_of x.0 v r normal n (none x.0 x.1 x.2)) r
