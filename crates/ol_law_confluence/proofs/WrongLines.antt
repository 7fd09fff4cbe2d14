-- Two lines that aren't the normal form of their source: for the law `wrong_lines_mislead`.
use Rattle.std.proofs.Common.{◌≡◌, ℕ, List, [], ◌∷◌, Some, None, refl, sym, subst, ◌∙◌}
use Rattle.std.specs.Prelude.{codes, true, false}
use Rattle.ol_beta.specs.Beta.{contracted}
use Rattle.ol_beta.proofs.Redexes.{no_leftmost}
use Rattle.ol_term.specs.Trees as tree
use Rattle.ol_term.specs.Trees.{Tree}
use Rattle.ol_law_meaning.specs.Shows.{ready, contract, BetaReduces}
use Rattle.ol_law_meaning.proofs.Endings.{no_redex}
use Rattle.ol_law_confluence.specs.Reductions.{Convertible}
use Rattle.ol_law_confluence.specs.Compared.{number_of}
use Rattle.ol_law_confluence.proofs.LeftmostEnds.{leftmost_beta}
use Rattle.ol_law_confluence.proofs.Meetings.{convertible_normal}
use Rattle.ol_law_confluence.proofs.Renamings.{number_of_one}
use Rattle.ol_law_confluence.proofs.WrongComparisons.{letters_apart}
use Rattle.ol_law_confluence.specs.NormalForms.{IsNormalFormOf, IsNormalForm}
use Rattle.ol_law_confluence.specs.WrongLines.{a, b, redex, two_redexes, NormalFormIsReduced, OtherTermMisleads}
use Rattle.ol_law_confluence.specs.WrongLines.{ReductMisleads, NamesAreApart}

stays : (u : Tree) → BetaReduces (tree.free 0) u → u ≡ tree.free 0
stays u ready = refl
stays u (contract chosen e r) = absurd (cc)

own : IsNormalForm (tree.free 0) (tree.free 0)
own = record {
  leftmost = ready;
  is_normal = no_leftmost (tree.free 0) refl;
  every_reduct = λ u r. subst (λ x. BetaReduces x (tree.free 0)) (sym (stays u r)) ready;
  only = λ u r n. stays u r;
}

inner_stays : (u : Tree) → BetaReduces (tree.lam (tree.lam (tree.var 1))) u →
    u ≡ tree.lam (tree.lam (tree.var 1))
inner_stays u ready = refl
inner_stays u (contract {at = at} chosen e r) =
    let none : contracted (tree.lam (tree.lam (tree.var 1))) at ≡ None = no_leftmost
    (tree.lam (tree.lam (tree.var 1))) refl at in
    absurd (let f = sym none ∙ e in cc)

own_inner : IsNormalForm (tree.lam (tree.lam (tree.var 1))) (tree.lam (tree.lam (tree.var 1)))
own_inner = record {
  leftmost = ready;
  is_normal = no_leftmost (tree.lam (tree.lam (tree.var 1))) refl;
  every_reduct =
      λ u r. subst (λ x. BetaReduces x (tree.lam (tree.lam (tree.var 1)))) (sym (inner_stays u r))
      ready;
  only = λ u r n. inner_stays u r;
}

identity_stays : (u : Tree) → BetaReduces (tree.lam (tree.var 0)) u → u ≡ tree.lam (tree.var 0)
identity_stays u ready = refl
identity_stays u (contract {at = at} chosen e r) =
    let none : contracted (tree.lam (tree.var 0)) at ≡ None = no_leftmost (tree.lam (tree.var 0)) refl at in
    absurd (let f = sym none ∙ e in cc)

not_inner : BetaReduces (tree.lam (tree.var 0)) (tree.lam (tree.lam (tree.var 1))) → ⊥
not_inner r =
    let e = identity_stays (tree.lam (tree.lam (tree.var 1))) r in
    absurd (cc)

pub normal_form_is_reduced : NormalFormIsReduced
normal_form_is_reduced source result n = (n.0, leftmost_beta n.1.leftmost, n.1.is_normal)

pub other_term : OtherTermMisleads
other_term = (
  ((refl, tt), own),
  (λ h. let f : false ≡ true = h.0.0 in absurd (cc)),
  (tt, own_inner),
  λ h. not_inner h.1,
)

one_name : (n m : ℕ) → Convertible (tree.free n) (tree.free m) → n ≡ m
one_name n m c =
    let e : tree.free n ≡ tree.free m = convertible_normal c ready
    (no_leftmost (tree.free n) refl) ready (no_leftmost (tree.free m) refl) in
    cc

pub names_apart : NamesAreApart
names_apart c =
    let e : codes "a" ≡ codes "b" = number_of_one (codes "a") (codes "b")
    (one_name (number_of (codes "a")) (number_of (codes "b")) c) in
    letters_apart e

pub reduct : ReductMisleads
reduct = (
  contract {at = []} tt refl ready,
  λ h. let e : None ≡ Some (tree.free 0) = sym (h.2 []) in absurd (cc),
)
