-- The machine ends where leftmost reduction does, and isn't longer: the laws.
use Rattle.std.proofs.Common.{◌≡◌, ℕ, suc, ◌<◌, ◌≤◌, true, ◌⊎◌, inl, inr}
use Rattle.std.proofs.Common.{Some, refl, sym, ap, ◌∙◌, subst, arith}
use Rattle.std.proofs.lemmas.Bool.{cases_lt}
use Rattle.std.proofs.lemmas.Option.{same_Some}
use Rattle.ol_beta.specs.Leftmost.{IsNormal}
use Rattle.ol_counts.specs.Machines.{after, begun, need_count}
use Rattle.ol_counts.proofs.Moves.{ends_within, ended_if}
use Rattle.ol_term.specs.Trees.{Tree, is_below}
use Rattle.ol_law_confluence.proofs.LeftmostEnds.{leftmost_finds}
use Rattle.ol_law_optimality.proofs.Labelling.{each_term_has_letters, leftmost_is_labelled}
use Rattle.ol_law_optimality.specs.Steps.{steps_of}
use Rattle.ol_law_meaning.proofs.Endings.{no_redex}
use Rattle.ol_law_meaning.specs.Shows.{LeftmostReduces}
use Rattle.ol_law_optimality.specs.Labels.{Labelled, erased}
use Rattle.ol_counts.specs.NeedLaws.{NeedFindsTheNormalForm, NeedIsNoMoreThanLeftmost}
use Rattle.ol_counts.proofs.Ending.{begins}
use Rattle.ol_counts.proofs.Finding.{Ends, ends}
use Rattle.ol_counts.proofs.Firsts.{Leads, leads_of}

ends_after : (T : Labelled) (v : Tree) → is_below 0 (erased T) ≡ true →
    (r : LeftmostReduces (erased T) v) → IsNormal v → Ends (steps_of r) (begun (erased T))
ends_after T v h r n =
    let l = leftmost_is_labelled T v r in
    let normal = subst IsNormal (sym l.3) n in
    let k : Leads (steps_of r) T =
    subst (λ k. Leads k T) l.4 (leads_of l.2 (no_redex (erased l.0) normal)) in
    ends T (suc (steps_of r)) (steps_of r) (omega arith) (begun (erased T)) (begins T h) k

pub ends_as_leftmost : (t v : Tree) → is_below 0 t ≡ true → (r : LeftmostReduces t v) → IsNormal v →
    Ends (steps_of r) (begun t)
ends_as_leftmost t v h r n =
    let l = each_term_has_letters t in
    subst
    (λ t. is_below 0 t ≡ true → (r : LeftmostReduces t v) → Ends (steps_of r) (begun t)) l.1
    (λ h r. ends_after l.0 v h r n) h r

counts : (t : Tree) (k : ℕ) → Ends k (begun t) → (moves : ℕ) × (n : ℕ) × (need_count t moves ≡ Some n) × (n ≤ k)
counts t k x =
    let m = after x.moves (begun t) in
    let f = x.few in
    (x.moves, m.steps, sym (ends_within t x.moves x.moves m refl (omega arith) x.ends), omega (arith, f))

-- it ends once
one_count : (t : Tree) (i j a b : ℕ) → need_count t i ≡ Some a → need_count t j ≡ Some b → a ≡ b
one_count t i j a b e g = go (cases_lt i j)
  where
    before : (i j a b : ℕ) → i ≤ j → need_count t i ≡ Some a → need_count t j ≡ Some b → a ≡ b
    before i j a b l e g =
        let x = ended_if (after i (begun t)) a e in
        same_Some a b
        (ap Some (sym x.1) ∙ ends_within t i j (after i (begun t)) refl l x.0 ∙ g)

    go : (i < j) ⊎ (j ≤ i) → a ≡ b
    go (inl l) = before i j a b (omega (arith, l)) e g
    go (inr l) = sym (before j i b a l g e)

pub need_finds_the_normal_form : NeedFindsTheNormalForm
need_finds_the_normal_form t v h b n =
    let r = leftmost_finds b n in
    let x = counts t (steps_of r) (ends_as_leftmost t v h r n) in (x.0, x.1, x.2)

pub need_is_no_more_than_leftmost : NeedIsNoMoreThanLeftmost
need_is_no_more_than_leftmost t v h r k moves n e =
    let x = counts t (steps_of r) (ends_as_leftmost t v h r k) in
    let q = one_count t moves x.0 n x.1 e x.2 in
    let l = x.3 in omega (arith, q, l)
