-- The beta steps of a run, and the virtual redexes of its first net.
use Rattle.std.proofs.Common.{◌≡◌, ℕ, zero, suc, List, [], ◌∷◌, length, Some, ◌⊎◌, inl, inr, refl, sym, ap, ◌∙◌, subst}
use Rattle.ol_context.specs.Contexts.{Level, empty}
use Rattle.ol_invariance.proofs.Table.{rule_suits}
use Rattle.ol_law_levels.proofs.Runs.{start_levelled}
use Rattle.ol_law_levels.proofs.Steps.{step_keeps_levels}
use Rattle.ol_law_levels.proofs.Terms.{term_is_levelled}
use Rattle.ol_law_levels.specs.Levels.{IsLevelled}
use Rattle.ol_net.specs.Nets.{NamedNet, HasNode, IsNet, net_under}
use Rattle.ol_net.specs.Pairs.{IsComplete, IsActive}
use Rattle.ol_net.specs.Rules.{rule_of}
use Rattle.ol_net.specs.declared.parts.Kind.TheVariants as kind
use Rattle.ol_net.specs.declared.parts.Rule.TheVariants as rule
use Rattle.ol_rules.proofs.OneRun.{name_same, name_test, fresh_names}
use Rattle.ol_rules.proofs.Relation.{net_kept}
use Rattle.ol_rules.proofs.StartNets.{start_net, start_named}
use Rattle.ol_rules.specs.Laws.{AreNamedBefore}
use Rattle.ol_rules.specs.Rewriting.{action_of}
use Rattle.ol_rules.specs.Runs.{IsRun, IsEntryStep}
use Rattle.ol_rules.specs.declared.journal.Entry.{Entry}
use Rattle.ol_rules.specs.declared.journal.NodeName.{NodeName}
use Rattle.ol_rules.specs.declared.journal.NodeName.TheVariants.{Init, Born}
use Rattle.ol_translate.proofs.Whole.{translation_net}
use Rattle.ol_translate.specs.Translation.{translation_of}
use Rattle.ol_law_optimality.specs.RedexLaws.{RedexHasSource, RedexHasResidue, EachBetaIsVirtual}
use Rattle.ol_law_optimality.specs.RedexLaws.{BetasAreVirtualRedexes, BetasOfATerm}
use Rattle.ol_law_optimality.specs.Redexes.{Carries, put, IsVirtualRedex}
use Rattle.ol_law_optimality.specs.Routes.{Route, HasRoute, IsResidueOf, IsLinkOf, IsBetaOf}
use Rattle.ol_law_optimality.proofs.Nothing.{no_redex_is_left}
use Rattle.ol_law_optimality.proofs.Redexes.{virtual_back, virtual_on}
use Rattle.ol_law_optimality.proofs.Runs.{each_is_residue, kept_net, kept_names}
use Rattle.ol_law_optimality.proofs.Table.{no_lam, gap, beta_index, rule_is_beta, turned_is_beta}

module _ {A : Type 0} where
  pub redex_has_source : RedexHasSource A
  redex_has_source same t born N M f g r n fresh h u V =
      let x = h.active in
      let n' = net_kept same t born N f g x.k x.i x.l x.j r n x.faces fresh x.fits M h.rewrites in
      let s = each_is_residue same t born N M f g r n fresh h u V.route in (
        s.0,
        virtual_back N f g x.k x.i x.l x.j (action_of r x.j) born same t n x.faces fresh M n'
            h.rewrites (rule_suits x.k x.i x.l x.j r x.fits) (no_lam x.k x.i x.l x.j r x.fits)
            (gap x.k x.i x.l x.j r x.fits) s.0 u s.1 s.2 V,
        s.2,
      )

  pub redex_has_residue : RedexHasResidue A
  redex_has_residue same t born N M f g r n fresh h s V =
      let x = h.active in
      let n' = net_kept same t born N f g x.k x.i x.l x.j r n x.faces fresh x.fits M h.rewrites in
      virtual_on N f g x.k x.i x.l x.j (action_of r x.j) born same t n x.faces fresh M n'
      h.rewrites (rule_suits x.k x.i x.l x.j r x.fits) (no_lam x.k x.i x.l x.j r x.fits)
      (gap x.k x.i x.l x.j r x.fits) s V

-- the same for an entry, and a route that is known
back_of : {N K : NamedNet NodeName} {t : ℕ} {e : Entry} → IsNet N → AreNamedBefore N t →
    (h : IsEntryStep N t e K) (s u : Route NodeName) → HasRoute N s → IsResidueOf h.step s u →
    IsVirtualRedex K u → IsVirtualRedex N s
back_of {N} {K} {t} {e} n b h s u p q V =
    let x = h.step.active in
    virtual_back N h.f h.g x.k x.i x.l x.j (action_of e.rule x.j) (λ place. Born t place) name_same
    name_test n x.faces (fresh_names N t b) K (kept_net n b h) h.step.rewrites
    (rule_suits x.k x.i x.l x.j e.rule x.fits) (no_lam x.k x.i x.l x.j e.rule x.fits)
    (gap x.k x.i x.l x.j e.rule x.fits) s u p q V

-- so many empty levels
bare : ℕ → List Level
bare zero = []
bare (suc n) = empty ∷ bare n

bare_is : (n : ℕ) → length (bare n) ≡ n
unfolding bare
bare_is zero = refl
bare_is (suc n) = ap suc (bare_is n)

module _ {N K : NamedNet NodeName} {t : ℕ} {e : Entry} (n : IsNet N) (h : IsEntryStep N t e K)
    (s : Route NodeName) (p : HasRoute N s) (q : IsLinkOf h.f h.g s) where
  x : IsActive N h.f h.g e.rule
  x = h.step.active

  -- the two nodes of a beta step have one index
  pub one_index : e.rule ≡ rule.Beta → p.i ≡ p.j
  unfolding x
  one_index r = go q.1
    where
      indexes : x.i ≡ x.j
      indexes = beta_index x.k x.i x.l x.j (x.fits ∙ ap (λ r. Some r) r)

      go : ((s.from ≡ h.f) × (s.to ≡ h.g)) ⊎ ((s.from ≡ h.g) × (s.to ≡ h.f)) → p.i ≡ p.j
      go (inl o) =
          (n.one_node h.f kind.App x.k p.i x.i (subst (λ y. HasNode N y kind.App p.i) o.0
          p.application) x.faces.first).1 ∙ indexes
          ∙ sym (n.one_node h.g kind.Lam x.l p.j x.j (subst (λ y. HasNode N y kind.Lam p.j) o.1
          p.abstraction) x.faces.second).1
      go (inr o) =
          (n.one_node h.g kind.App x.l p.i x.j (subst (λ y. HasNode N y kind.App p.i) o.0
          p.application) x.faces.second).1 ∙ sym indexes
          ∙ sym (n.one_node h.f kind.Lam x.k p.j x.i (subst (λ y. HasNode N y kind.Lam p.j) o.1
          p.abstraction) x.faces.first).1

  -- the link of an application and an abstraction is a virtual redex, whatever levels stand there
  link_with : e.rule ≡ rule.Beta → (vs : List Level) → length vs ≡ p.i → IsVirtualRedex N s
  link_with r vs m = record {
    route = p;
    begin = vs;
    last = vs;
    begin_is = m;
    last_is = m ∙ one_index r;
    carries = λ c. subst (λ w. Carries N (put vs c) w (put vs c)) (sym q.0) refl;
  }

  link_is_virtual : e.rule ≡ rule.Beta → IsVirtualRedex N s
  link_is_virtual r = link_with r (bare p.i) (bare_is p.i)

  -- and its step is a beta step
  pub is_beta : e.rule ≡ rule.Beta
  unfolding x
  is_beta = go q.1
    where
      go : ((s.from ≡ h.f) × (s.to ≡ h.g)) ⊎ ((s.from ≡ h.g) × (s.to ≡ h.f)) → e.rule ≡ rule.Beta
      go (inl o) =
          let a = n.one_node h.f kind.App x.k p.i x.i (subst (λ y. HasNode N y kind.App p.i) o.0
          p.application) x.faces.first in
          let b = n.one_node h.g kind.Lam x.l p.j x.j (subst (λ y. HasNode N y kind.Lam p.j) o.1
          p.abstraction) x.faces.second in
          rule_is_beta x.i x.j e.rule (ap (λ k. rule_of k x.i kind.Lam x.j) a.0
          ∙ ap (λ l. rule_of x.k x.i l x.j) b.0 ∙ x.fits)
      go (inr o) =
          let a = n.one_node h.g kind.App x.l p.i x.j (subst (λ y. HasNode N y kind.App p.i) o.0
          p.application) x.faces.second in
          let b = n.one_node h.f kind.Lam x.k p.j x.i (subst (λ y. HasNode N y kind.Lam p.j) o.1
          p.abstraction) x.faces.first in
          turned_is_beta x.i x.j e.rule (ap (λ k. rule_of k x.i kind.App x.j) b.0
          ∙ ap (λ l. rule_of x.k x.i l x.j) a.0 ∙ x.fits)

pub each_beta_is_virtual : EachBetaIsVirtual
each_beta_is_virtual N M t [] n b IsRun.end k s q = absurd q
each_beta_is_virtual N M t (e ∷ es) n b (IsRun.then h r) zero s q =
    link_is_virtual n h s q.1 q.2 q.0
each_beta_is_virtual N M t (e ∷ es) n b (IsRun.then {M = K} h r) (suc k) s q =
    back_of n b h s q.1.0 q.0 q.1.1
    (each_beta_is_virtual K M (suc t) es (kept_net n b h) (kept_names b h) r k q.1.0 q.1.2)

all_are_contracted : (N M : NamedNet NodeName) (t : ℕ) (es : List Entry) →
    IsNet N → AreNamedBefore N t → IsLevelled N → (r : IsRun N t es M) → IsComplete M →
    (s : Route NodeName) → IsVirtualRedex N s → (n : ℕ) × IsBetaOf r n s
all_are_contracted N M t [] n b L IsRun.end done s V = absurd (no_redex_is_left N n L done s V)
all_are_contracted N M t (e ∷ es) n b L (IsRun.then {M = K} h r) done s V =
    go (redex_has_residue name_same name_test (λ place. Born t place) N K h.f h.g e.rule n
    (fresh_names N t b) h.step s V) (λ u W.
    all_are_contracted K M (suc t) es (kept_net n b h) (kept_names b h)
    (step_keeps_levels name_same name_test (λ place. Born t place) N K h.f h.g e.rule n
    (fresh_names N t b) h.step L) r done u W)
  where
    go : IsLinkOf h.f h.g s
        ⊎ ((u : Route NodeName) × IsVirtualRedex K u × IsResidueOf h.step s u) →
        ((u : Route NodeName) → IsVirtualRedex K u → (n : ℕ) × IsBetaOf r n u) →
        (n : ℕ) × IsBetaOf (IsRun.then h r) n s
    go (inl q) later = (0, (is_beta n h s V.route q, V.route, q))
    go (inr u) later = let z = later u.0 u.1 in (suc z.0, (V.route, (u.0, u.2, z.1)))

pub betas_are_virtual_redexes : BetasAreVirtualRedexes
betas_are_virtual_redexes N M t es n b L r done s = (
  (λ V. all_are_contracted N M t es n b L r done s V),
  (λ q. each_beta_is_virtual N M t es n b r q.0 s q.1),
)

pub betas_of_a_term : BetasOfATerm
betas_of_a_term w t names h es M r done s =
    let N = translation_of w t names in
    let n = translation_net w t names h in
    betas_are_virtual_redexes (net_under Init N) M 0 es (start_net N n) (start_named N)
    (start_levelled N (term_is_levelled w t names h)) r done s
