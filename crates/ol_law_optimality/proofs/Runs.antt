-- The beta steps of a run, and the routes of its first net.
use Rattle.std.proofs.Common.{◌≡◌, ◌≢◌, ℕ, zero, suc, ◌+◌, Bool, true, false, List, [], ◌∷◌, length, Some, ◌⊎◌, inl}
use Rattle.std.proofs.Common.{inr, refl, sym, ap, ◌∙◌, subst, arith, cond}
use Rattle.std.proofs.lemmas.List.Sums.{sum_by-cons}
use Rattle.ol_law_edges.specs.Edges.{IsIn}
use Rattle.ol_net.specs.Nets.{slot, NamedNet, HasNode, Linked, IsNet}
use Rattle.ol_net.specs.Pairs.{IsActive}
use Rattle.ol_net.specs.Parts.{arity}
use Rattle.ol_net.specs.declared.parts.Kind.TheVariants as kind
use Rattle.ol_net.specs.declared.parts.Rule.{Rule}
use Rattle.ol_net.specs.declared.parts.Rule.TheVariants as rule
use Rattle.ol_rules.specs.Counting.{is_rule, times_applied}
use Rattle.ol_rules.specs.Laws.{AreNamedBefore}
use Rattle.ol_rules.specs.Rewriting.{action_of}
use Rattle.ol_rules.specs.Runs.{IsRun, IsEntryStep}
use Rattle.ol_rules.specs.declared.journal.Entry.{Entry}
use Rattle.ol_rules.specs.declared.journal.NodeName.{NodeName}
use Rattle.ol_rules.specs.declared.journal.NodeName.TheVariants.{Born}
use Rattle.ol_rules.proofs.FreshPairs.{linked_sym}
use Rattle.ol_rules.proofs.OneRun.{name_same, name_test, fresh_names, named_after}
use Rattle.ol_rules.proofs.Relation.{net_kept}
use Rattle.ol_law_optimality.specs.RouteLaws.{ResidueIsOne, PairHasNoResidue, EachIsResidue, EachBetaHasARoute}
use Rattle.ol_law_optimality.specs.RouteLaws.{NoRedexIsCopied, BetasAreRoutes, AreDifferent, SourceIsOne}
use Rattle.ol_law_optimality.specs.RouteLaws.{BetaHasOneRoute}
use Rattle.ol_law_optimality.specs.Routes.{Route, along, HasRoute, IsResidueOf, IsLinkOf, IsBetaOf}
use Rattle.ol_law_optimality.proofs.Ones.{one_residue, no_residue}
use Rattle.ol_law_optimality.proofs.OneSource.{one_source}
use Rattle.ol_law_optimality.proofs.Sources.{source}
use Rattle.ol_law_optimality.proofs.Table.{no_lam, arities, beta_kinds}

module _ {A : Type 0} where
  not_itself : (N : NamedNet A) → IsNet N → (f g : A) → Linked N (slot f 0) (slot g 0) → f ≢ g
  not_itself N n f g h e =
      n.apart (slot f 0) (subst (λ x. Linked N (slot f 0) (slot x 0)) (sym e) h)

  pub residue_is_one : ResidueIsOne A
  residue_is_one born N M f g r n h s t u a b =
      one_residue born f g (arity h.active.l) (action_of r h.active.j)
      (not_itself N n f g h.active.faces.linked) s t u a b

  pub pair_has_none : PairHasNoResidue A
  pair_has_none born N M f g r n h s t a b =
      no_residue born f g (arity h.active.l) (action_of r h.active.j)
      (not_itself N n f g h.active.faces.linked) s t a b

  pub source_is_one : SourceIsOne A
  source_is_one born N M f g r n fresh h s t u a b x y =
      let z = h.active in
      one_source N n born fresh f g z.k z.l z.i z.j z.faces.first z.faces.second (action_of r z.j)
      (not_itself N n f g z.faces.linked) s t u a b x y

  pub each_is_residue : EachIsResidue A
  each_is_residue same t born N M f g r n fresh h u p =
      let x = h.active in
      source N f g x.k x.i x.l x.j (action_of r x.j) born same t n x.faces fresh M h.rewrites
      (arities x.k x.i x.l x.j r x.fits) (no_lam x.k x.i x.l x.j r x.fits) u p

-- the net after an entry, and its names
pub kept_net : {N K : NamedNet NodeName} {t : ℕ} {e : Entry} → IsNet N → AreNamedBefore N t →
    IsEntryStep N t e K → IsNet K
kept_net {N} {K} {t} {e} n b h =
    let a = h.step.active in
    net_kept name_same name_test (λ place. Born t place) N h.f h.g a.k a.i a.l a.j e.rule n a.faces
    (fresh_names N t b) a.fits K h.step.rewrites

pub kept_names : {N K : NamedNet NodeName} {t : ℕ} {e : Entry} → AreNamedBefore N t →
    IsEntryStep N t e K → AreNamedBefore K (suc t)
kept_names {N} {K} {t} {e} b h =
    let a = h.step.active in
    named_after N K t h.f h.g a.k a.i a.l (action_of e.rule a.j) b h.step.rewrites

-- a route of the net after an entry comes from one of the net before it
pub source_of : {N K : NamedNet NodeName} {t : ℕ} {e : Entry} → IsNet N → AreNamedBefore N t →
    (h : IsEntryStep N t e K) (u : Route NodeName) → HasRoute K u →
    (s : Route NodeName) × HasRoute N s × IsResidueOf h.step s u
source_of {N} {K} {t} {e} n b h u p =
    each_is_residue name_same name_test (λ place. Born t place) N K h.f h.g e.rule n
    (fresh_names N t b) h.step u p

-- the link of the two nodes of a beta step
pub link_of : {N K : NamedNet NodeName} {t : ℕ} {e : Entry} (h : IsEntryStep N t e K) →
    e.rule ≡ rule.Beta → (s : Route NodeName) × HasRoute N s × IsLinkOf h.f h.g s
link_of {N} {K} {t} {e} h r = go (beta_kinds a.k a.i a.l a.j (a.fits ∙ ap (λ r. Some r) r))
  where
    a : IsActive N h.f h.g e.rule
    a = h.step.active

    go : ((a.k ≡ kind.App) × (a.l ≡ kind.Lam)) ⊎ ((a.k ≡ kind.Lam) × (a.l ≡ kind.App)) →
        (s : Route NodeName) × HasRoute N s × IsLinkOf h.f h.g s
    go (inl x) = (
      record { from = h.f; row = []; to = h.g },
      record {
        i = a.i;
        j = a.j;
        application = subst (λ k. HasNode N h.f k a.i) x.0 a.faces.first;
        abstraction = subst (λ k. HasNode N h.g k a.j) x.1 a.faces.second;
        row = along a.faces.linked;
      },
      (refl, inl (refl, refl)),
    )
    go (inr x) = (
      record { from = h.g; row = []; to = h.f },
      record {
        i = a.j;
        j = a.i;
        application = subst (λ k. HasNode N h.g k a.j) x.1 a.faces.second;
        abstraction = subst (λ k. HasNode N h.f k a.i) x.0 a.faces.first;
        row = along (linked_sym N (slot h.f 0) (slot h.g 0) a.faces.linked);
      },
      (refl, inr (refl, refl)),
    )

route_is : (s u : Route NodeName) → s.from ≡ u.from → s.row ≡ u.row → s.to ≡ u.to → s ≡ u
route_is s u a b c = λ i. record { from = a i; row = b i; to = c i }

-- the link of two nodes is one route
pub link_one : (N : NamedNet NodeName) → IsNet N → (f g : NodeName) (s u : Route NodeName) →
    HasRoute N s → HasRoute N u → IsLinkOf f g s → IsLinkOf f g u → s ≡ u
link_one N n f g s u h h' (e, inl x) (e', inl y) =
    route_is s u (x.0 ∙ sym y.0) (e ∙ sym e') (x.1 ∙ sym y.1)
link_one N n f g s u h h' (e, inr x) (e', inr y) =
    route_is s u (x.0 ∙ sym y.0) (e ∙ sym e') (x.1 ∙ sym y.1)
link_one N n f g s u h h' (e, inl x) (e', inr y) =
    let o = (n.one_node f kind.App kind.Lam h.i h'.j (subst (λ z. HasNode N z kind.App h.i) x.0
    h.application) (subst (λ z. HasNode N z kind.Lam h'.j) y.1 h'.abstraction)).0 in absurd (cc)
link_one N n f g s u h h' (e, inr x) (e', inl y) =
    let o = (n.one_node g kind.App kind.Lam h.i h'.j (subst (λ z. HasNode N z kind.App h.i) x.0
    h.application) (subst (λ z. HasNode N z kind.Lam h'.j) y.1 h'.abstraction)).0 in absurd (cc)

pub beta_has_one_route : BetaHasOneRoute
beta_has_one_route N M t [] n b IsRun.end k s u x y = absurd x
beta_has_one_route N M t (d ∷ es) n b (IsRun.then h r) zero s u x y =
    link_one N n h.f h.g s u x.1 y.1 x.2 y.2
beta_has_one_route N M t (d ∷ es) n b (IsRun.then {M = K} h r) (suc k) s u x y =
    let o = beta_has_one_route K M (suc t) es (kept_net n b h) (kept_names b h) r k x.1.0 y.1.0
    x.1.2 y.1.2 in
    source_is_one (λ place. Born t place) N K h.f h.g d.rule n (fresh_names N t b) h.step s u y.1.0
    x.0 y.0 (subst (λ v. IsResidueOf h.step s v) o x.1.1) y.1.1

pub each_beta_has_a_route : EachBetaHasARoute
each_beta_has_a_route N M t [] n b IsRun.end k e q z = absurd (cc)
each_beta_has_a_route N M t (d ∷ es) n b (IsRun.then h r) zero e q z =
    let o : d ≡ e = cc in
    let l = link_of h (ap (λ (d : Entry). d.rule) o ∙ z) in
    (l.0, l.1, (ap (λ (d : Entry). d.rule) o ∙ z, l.1, l.2))
each_beta_has_a_route N M t (d ∷ es) n b (IsRun.then {M = K} h r) (suc k) e q z =
    let u = each_beta_has_a_route K M (suc t) es (kept_net n b h) (kept_names b h) r k e q z in
    let s = source_of n b h u.0 u.1 in
    (s.0, s.1, (s.1, (u.0, s.2, u.2)))

pub no_redex_is_copied : NoRedexIsCopied
no_redex_is_copied N M t [] n b IsRun.end k m s x y = absurd x
no_redex_is_copied N M t (d ∷ es) n b (IsRun.then h r) zero zero s x y = refl
no_redex_is_copied N M t (d ∷ es) n b (IsRun.then {M = K} h r) zero (suc m) s x y =
    absurd (pair_has_none (λ place. Born t place) N K h.f h.g d.rule n h.step s y.1.0 x.2 y.1.1)
no_redex_is_copied N M t (d ∷ es) n b (IsRun.then {M = K} h r) (suc k) zero s x y =
    absurd (pair_has_none (λ place. Born t place) N K h.f h.g d.rule n h.step s x.1.0 y.2 x.1.1)
no_redex_is_copied N M t (d ∷ es) n b (IsRun.then {M = K} h r) (suc k) (suc m) s x y =
    let o : x.1.0 ≡ y.1.0 = residue_is_one (λ place. Born t place) N K h.f h.g d.rule n h.step s
    x.1.0 y.1.0 x.1.1 y.1.1 in
    ap suc (no_redex_is_copied K M (suc t) es (kept_net n b h) (kept_names b h) r k m x.1.0 x.1.2
    (subst (λ u. IsBetaOf r m u) (sym o) y.1.2))

-- one more or not
counted : (d : Entry) (es : List Entry) → times_applied rule.Beta (d ∷ es)
    ≡ cond (is_rule d.rule rule.Beta) 1 0 + times_applied rule.Beta es
counted d es = sum_by-cons (λ (e : Entry). cond (is_rule e.rule rule.Beta) 1 0) d es

beta_is : (r : Rule) → is_rule r rule.Beta ≡ true → r ≡ rule.Beta
beta_is rule.Beta e = refl
beta_is _ e = absurd (cc)

module _ {N K : NamedNet NodeName} {t : ℕ} {e : Entry} (n : IsNet N) (b : AreNamedBefore N t)
    (h : IsEntryStep N t e K) where
  -- the routes from which some of the net after the entry come
  record Sourced (us : List (Route NodeName)) : Type 0 where
    routes : List (Route NodeName)
    as_many : length routes ≡ length us
    each : (s : Route NodeName) → IsIn s routes → HasRoute N s
        × ((u : Route NodeName) × IsIn u us × IsResidueOf h.step s u)
    different : AreDifferent us → AreDifferent routes
    of_each : (u : Route NodeName) → IsIn u us →
        (s : Route NodeName) × IsIn s routes × HasRoute N s × IsResidueOf h.step s u

  sourced : (us : List (Route NodeName)) → ((u : Route NodeName) → IsIn u us → HasRoute K u) →
      Sourced us
  sourced [] p = record {
    routes = [];
    as_many = refl;
    each = λ s i. absurd i;
    different = λ d. tt;
    of_each = λ u i. absurd i;
  }
  sourced (u ∷ us) p =
      let s = source_of n b h u (p u (inl refl)) in
      let o = sourced us (λ u i. p u (inr i)) in
      record {
        routes = s.0 ∷ o.routes;
        as_many = ap suc o.as_many;
        each = each s.0 s.1 s.2 o;
        different = λ d. (
          (λ i.
              let v = (o.each s.0 i).1 in
              let q : v.0 ≡ u = residue_is_one (λ place. Born t place) N K h.f h.g e.rule n
              h.step s.0 v.0 u v.2 s.2 in
              d.0 (subst (λ u. IsIn u us) q v.1)),
          o.different d.1,
        );
        of_each = of_each s.0 s.1 s.2 o;
      }
    where
      of_each : (s : Route NodeName) → HasRoute N s → IsResidueOf h.step s u → (o : Sourced us) →
          (v : Route NodeName) → IsIn v (u ∷ us) →
          (x : Route NodeName) × IsIn x (s ∷ o.routes) × HasRoute N x × IsResidueOf h.step x v
      of_each s a r o v (inl q) = (s, inl refl, a, subst (λ v. IsResidueOf h.step s v) (sym q) r)
      of_each s a r o v (inr i) = let z = o.of_each v i in (z.0, inr z.1, z.2, z.3)

      each : (s : Route NodeName) → HasRoute N s → IsResidueOf h.step s u → (o : Sourced us) →
          (x : Route NodeName) → IsIn x (s ∷ o.routes) → HasRoute N x
          × ((v : Route NodeName) × IsIn v (u ∷ us) × IsResidueOf h.step x v)
      each s a r o x (inl q) = (
        subst (λ s. HasRoute N s) (sym q) a,
        (
          u,
          inl refl,
          subst (λ s. IsResidueOf h.step s u) (sym q) r,
        ),
      )
      each s a r o x (inr i) = let z = o.each x i in (z.0, (z.1.0, inr z.1.1, z.1.2))

-- the routes of a run's beta steps
abbrev Routed : {N M : NamedNet NodeName} {t : ℕ} {es : List Entry} → IsRun N t es M → Type 0
Routed {N = N} {es = es} r = (ss : List (Route NodeName)) × AreDifferent ss
    × (length ss ≡ times_applied rule.Beta es)
    × ((s : Route NodeName) → IsIn s ss → HasRoute N s × ((n : ℕ) × IsBetaOf r n s))
    × ((n : ℕ) (s : Route NodeName) → IsBetaOf r n s → IsIn s ss)

module _ {N K M : NamedNet NodeName} {t : ℕ} {d : Entry} {es : List Entry} (n : IsNet N)
    (b : AreNamedBefore N t) (h : IsEntryStep N t d K) (r : IsRun K (suc t) es M)
    (x : Routed r) where
  o : Sourced n b h x.0
  o = sourced n b h x.0 (λ u i. (x.3 u i).0)

  abbrev Comes : Route NodeName → Type 0
  Comes s = HasRoute N s × ((n : ℕ) × IsBetaOf (IsRun.then h r) n s)

  later : (s : Route NodeName) → IsIn s o.routes → Comes s
  later s i =
      let z = o.each s i in
      let w = x.3 z.1.0 z.1.1 in
      (z.0, (suc w.1.0, (z.0, (z.1.0, z.1.2, w.1.1))))

  all : (l : Route NodeName) → HasRoute N l → IsLinkOf h.f h.g l → d.rule ≡ rule.Beta →
      (s : Route NodeName) → IsIn s (l ∷ o.routes) → Comes s
  all l p q e s (inl z) =
      let p' = subst (λ l. HasRoute N l) (sym z) p in
      (p', (0, (e, p', subst (λ l. IsLinkOf h.f h.g l) (sym z) q)))
  all l p q e s (inr i) = later s i

  reaches : (m : ℕ) (s : Route NodeName) → IsBetaOf (IsRun.then h r) (suc m) s → IsIn s o.routes
  reaches m s y =
      let w = o.of_each y.1.0 (x.4 m y.1.0 y.1.2) in
      subst (λ s. IsIn s o.routes) (source_is_one (λ place. Born t place) N K h.f h.g d.rule n
      (fresh_names N t b) h.step w.0 s y.1.0 w.2 y.0 w.3 y.1.1) w.1

  none_here : is_rule d.rule rule.Beta ≡ false → (m : ℕ) (s : Route NodeName) →
      IsBetaOf (IsRun.then h r) m s → IsIn s o.routes
  none_here e zero s y =
      let z = sym e ∙ ap (λ r. is_rule r rule.Beta) y.0 in
      absurd (let bad : false ≡ true = z in cc)
  none_here e (suc m) s y = reaches m s y

  one_here : (l : Route NodeName) → HasRoute N l → IsLinkOf h.f h.g l → (m : ℕ)
      (s : Route NodeName) → IsBetaOf (IsRun.then h r) m s → IsIn s (l ∷ o.routes)
  one_here l p q zero s y = inl (link_one N n h.f h.g s l y.1 p y.2 q)
  one_here l p q (suc m) s y = inr (reaches m s y)

  routed : (c : Bool) → is_rule d.rule rule.Beta ≡ c → Routed (IsRun.then h r)
  routed false e = (
    o.routes,
    o.different x.1,
    (let m = o.as_many ∙ x.2 in
        let m' = counted d es ∙ ap (λ c. cond c 1 0 + times_applied rule.Beta es) e in
        omega arith),
    later,
    none_here e,
  )
  routed true e =
      let l = link_of h (beta_is d.rule e) in (
        l.0 ∷ o.routes,
        (
          (λ i.
              let z = (o.each l.0 i).1 in
              pair_has_none (λ place. Born t place) N K h.f h.g d.rule n h.step l.0 z.0 l.2 z.2),
          o.different x.1,
        ),
        (let m = o.as_many ∙ x.2 in
            let m' = counted d es ∙ ap (λ c. cond c 1 0 + times_applied rule.Beta es) e in
            omega arith),
        all l.0 l.1 l.2 (beta_is d.rule e),
        one_here l.0 l.1 l.2,
      )

pub betas_are_routes : BetasAreRoutes
betas_are_routes N M t [] n b IsRun.end = ([], tt, refl, λ s i. absurd i, λ n s x. absurd x)
betas_are_routes N M t (d ∷ es) n b (IsRun.then {M = K} h r) =
    routed n b h r (betas_are_routes K M (suc t) es (kept_net n b h) (kept_names b h) r)
    (is_rule d.rule rule.Beta) refl
