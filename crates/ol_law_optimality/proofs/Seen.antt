-- The virtual redexes on a walk, along a run.
use Rattle.std.proofs.Common.{ℕ, suc, ◌⊎◌, inl, inr, [], ◌∷◌}
use Rattle.ol_context.specs.Contexts.{Context}
use Rattle.ol_invariance.proofs.Table.{rule_suits}
use Rattle.ol_law_levels.proofs.Steps.{step_keeps_levels}
use Rattle.ol_net.specs.Nets.{NamedNet, IsNet}
use Rattle.ol_rules.proofs.OneRun.{name_same, name_test, fresh_names}
use Rattle.ol_rules.proofs.Relation.{net_kept}
use Rattle.ol_rules.specs.Laws.{AreNamedBefore}
use Rattle.ol_rules.specs.Rewriting.{action_of}
use Rattle.ol_rules.specs.Runs.{IsRun, IsEntryStep}
use Rattle.ol_rules.specs.declared.journal.Entry.{Entry}
use Rattle.ol_rules.specs.declared.journal.NodeName.{NodeName}
use Rattle.ol_rules.specs.declared.journal.NodeName.TheVariants.{Born}
use Rattle.ol_law_optimality.specs.Redexes.{IsVirtualRedex}
use Rattle.ol_law_optimality.specs.Routes.{Route, HasRoute, IsResidueOf, IsLinkOf, IsBetaOf}
use Rattle.ol_law_optimality.specs.Seen.{IsSeen, SeenHasResidue, SeenHasSource, SeenAreContracted}
use Rattle.ol_law_optimality.proofs.Nothing.{none_is_seen}
use Rattle.ol_law_optimality.proofs.Runs.{each_is_residue, kept_net, kept_names}
use Rattle.ol_law_optimality.proofs.Seeing.{seen_on, seen_back}
use Rattle.ol_law_optimality.proofs.Table.{no_lam, gap}
use Rattle.ol_law_optimality.proofs.Virtual.{redex_has_residue, is_beta}

module _ {A : Type 0} where
  pub seen_has_residue : SeenHasResidue A
  seen_has_residue same t born N M f g r n fresh h p c s S =
      go (redex_has_residue same t born N M f g r n fresh h s S.redex)
    where
      go : IsLinkOf f g s ⊎ ((u : Route A) × IsVirtualRedex M u × IsResidueOf h s u) →
          IsLinkOf f g s ⊎ ((u : Route A) × IsSeen M p c u × IsResidueOf h s u)
      go (inl q) = inl q
      go (inr u) =
          let x = h.active in
          let n' = net_kept same t born N f g x.k x.i x.l x.j r n x.faces fresh x.fits M h.rewrites
          in
          inr (
            u.0,
            seen_on N f g x.k x.i x.l x.j (action_of r x.j) born same t n x.faces fresh M n'
                h.rewrites (rule_suits x.k x.i x.l x.j r x.fits) (no_lam x.k x.i x.l x.j r x.fits)
                (gap x.k x.i x.l x.j r x.fits) p c s u.0 u.1.route u.2 S,
            u.2,
          )

  pub seen_has_source : SeenHasSource A
  seen_has_source same t born N M f g r n fresh h p c u S =
      let x = h.active in
      let n' = net_kept same t born N f g x.k x.i x.l x.j r n x.faces fresh x.fits M h.rewrites in
      let s = each_is_residue same t born N M f g r n fresh h u S.redex.route in (
        s.0,
        seen_back N f g x.k x.i x.l x.j (action_of r x.j) born same t n x.faces fresh M n'
            h.rewrites (rule_suits x.k x.i x.l x.j r x.fits) (no_lam x.k x.i x.l x.j r x.fits)
            (gap x.k x.i x.l x.j r x.fits) p c s.0 u s.1 s.2 S,
        s.2,
      )

-- the same for an entry, and a route that is known
pub back_of : {N K : NamedNet NodeName} {t : ℕ} {e : Entry} → IsNet N → AreNamedBefore N t →
    (h : IsEntryStep N t e K) (p : ℕ) (c : Context) (s u : Route NodeName) → HasRoute N s →
    IsResidueOf h.step s u → IsSeen K p c u → IsSeen N p c s
back_of {N} {K} {t} {e} n b h p c s u o q S =
    let x = h.step.active in
    seen_back N h.f h.g x.k x.i x.l x.j (action_of e.rule x.j) (λ place. Born t place) name_same
    name_test n x.faces (fresh_names N t b) K (kept_net n b h) h.step.rewrites
    (rule_suits x.k x.i x.l x.j e.rule x.fits) (no_lam x.k x.i x.l x.j e.rule x.fits)
    (gap x.k x.i x.l x.j e.rule x.fits) p c s u o q S

pub seen_are_contracted : SeenAreContracted
seen_are_contracted N M t [] n b L IsRun.end p c E s S =
    absurd (none_is_seen N n L p c E s S)
seen_are_contracted N M t (e ∷ es) n b L (IsRun.then {M = K} h r) p c E s S =
    go (seen_has_residue name_same name_test (λ place. Born t place) N K h.f h.g e.rule n
    (fresh_names N t b) h.step p c s S) (λ u W.
    seen_are_contracted K M (suc t) es (kept_net n b h) (kept_names b h)
    (step_keeps_levels name_same name_test (λ place. Born t place) N K h.f h.g e.rule n
    (fresh_names N t b) h.step L) r p c E u W)
  where
    go : IsLinkOf h.f h.g s
        ⊎ ((u : Route NodeName) × IsSeen K p c u × IsResidueOf h.step s u) →
        ((u : Route NodeName) → IsSeen K p c u → (n : ℕ) × IsBetaOf r n u) →
        (n : ℕ) × IsBetaOf (IsRun.then h r) n s
    go (inl q) later = (0, (is_beta n h s S.redex.route q, S.redex.route, q))
    go (inr u) later = let z = later u.0 u.1 in (suc z.0, (S.redex.route, (u.0, u.2, z.1)))
