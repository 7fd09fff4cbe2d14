-- A chain that meets no pair meets none after a step, whatever pair was rewritten. So what can be
-- read from a net by walks that meet no active pair can be read so from each net that it is
-- rewritten to.
use Rattle.std.proofs.Common.{◌≡◌, ℕ, zero, suc, ◌<◌, List, [], ◌∷◌, inl, inr, refl, ap, subst, arith}
use Rattle.ol_invariance.proofs.Runs.{run_keeps as paths_kept}
use Rattle.ol_net.specs.declared.parts.Rule.{Rule}
use Rattle.ol_net.specs.Nets.{NamedNet, NamedPort, free, slot, Linked, IsNet, IsPort, IsPrincipalOf, IsSlotOf}
use Rattle.ol_context.specs.Contexts.{Context, Level, up}
use Rattle.ol_context.specs.Paths.{Path, inward, outward, HaveSamePaths}
use Rattle.ol_context.proofs.Exits.{path_one}
use Rattle.ol_rules.specs.declared.journal.NodeName.{NodeName}
use Rattle.ol_rules.specs.declared.journal.NodeName.TheVariants.{Born}
use Rattle.ol_rules.specs.declared.journal.Entry.{Entry}
use Rattle.ol_rules.specs.Laws.{AreNamedBefore}
use Rattle.ol_rules.specs.Rewriting.{IsStep, action_of}
use Rattle.ol_rules.specs.Runs.{IsEntryStep, IsRun}
use Rattle.ol_rules.proofs.FreshPairs.{linked_sym}
use Rattle.ol_rules.proofs.OneRun.{named_after}
use Rattle.ol_readback.specs.Frames.{Frame, asked}
use Rattle.ol_readback.specs.Heads.{NoPath}
use Rattle.ol_readback.specs.ReadTrees.{Subterm}
use Rattle.ol_diamond.proofs.OneThreadRuns.{run_net}
use Rattle.ol_demand.specs.Chains.{IsAtPair, IsAtNoPair, End, Ends}
use Rattle.ol_demand.specs.Chains as chain
use Rattle.ol_demand.proofs.Chains.{no_path_at, path_at}
use Rattle.ol_law_completeness.specs.Laws.{CrossesNoStuck}
use Rattle.ol_law_completeness.specs.Least.{Clean, starts, crosses, MeetsNone}
use Rattle.ol_law_completeness.specs.Least.{IsEnough, done, past, place, unknown, headless}
use Rattle.ol_law_completeness.proofs.Chaining.{chain_ends}
use Rattle.ol_law_completeness.proofs.Ending.{path_port}
use Rattle.ol_demand.proofs.Staying.{link_stays, node_was, alone_stays}
use Rattle.ol_law_completeness.proofs.Frozen.{clean_stays, pair_link, meets_of, leaves_of, not_both}
use Rattle.ol_law_completeness.proofs.Tracing.{chain_is_on_path}

-- ---- after one step

module _ {A : Type 0} (N M : NamedNet A) (born : ℕ → A) (f' g' : A) (r' : Rule) (is_net : IsNet N)
    (is_net' : IsNet M) (step : IsStep born N f' g' r' M) (p : ℕ) (c : Context)
    (none : MeetsNone N p c) where
  alone : {n : ℕ} {u : NamedPort A} {d : Context} → Clean N p c n u d → IsAtNoPair N u
  alone {n = n} {u = u} {d = d} h f g r a =
      none f g r (record { made = n; port = u; context = d; clean = h; at = a })

  -- the chain stands at no slot of the pair
  apart : {n : ℕ} {u : NamedPort A} {d : Context} → Clean N p c n u d → IsSlotOf f' g' u → ⊥
  apart h = (clean_stays N M born f' g' r' is_net is_net' step h (λ e. alone h f' g' r' (record {
    active = step.active;
    principal = inl e;
  })) (λ e. alone h f' g' r' (record {
    active = step.active;
    principal = inr e;
  }))).1

  -- what is linked to one of the pair's principal ports is the other
  facing : (u v : NamedPort A) → Linked N u v → IsPrincipalOf f' g' v → IsPrincipalOf f' g' u
  facing u v l (inl e) =
      inr (is_net.one_link (slot f' 0) u (slot g' 0)
      (linked_sym N u (slot f' 0) (subst (λ v. Linked N u v) e l)) step.active.faces.linked)
  facing u v l (inr e) =
      inl (is_net.one_link (slot g' 0) u (slot f' 0)
      (linked_sym N u (slot g' 0) (subst (λ v. Linked N u v) e l))
      (linked_sym N (slot f' 0) (slot g' 0) step.active.faces.linked))

  -- nor does it come to a node of the pair: it would go up through it, and then meet the pair
  not_at : {n : ℕ} {u : NamedPort A} {d : Context} → Clean N p c n u d → (y : A) (s : ℕ) →
      Linked N u (slot y s) → IsPrincipalOf f' g' (slot y 0) → ⊥
  not_at {u = u} h y zero l e = alone h f' g' r' (record {
    active = step.active;
    principal = facing u (slot y 0) l e;
  })
  not_at {n = n} {u = u} {d = d} h y (suc s) l e =
      let o = (is_net.of_ports u (slot y (suc s)) l).1 in
      let b = o.3 in
      let on : Clean N p c (suc n) (slot y 0) (up o.0 o.1 s d) =
      crosses h (alone h) l o.2 (inward {s = s} (omega arith) refl) in
      alone on f' g' r' (record { active = step.active; principal = e })

  onward : {n : ℕ} {u : NamedPort A} {d : Context} → Clean N p c n u d → (v : NamedPort A) →
      Linked N u v → IsSlotOf f' g' v → ⊥
  onward {u = u} h v l (s, inl e) =
      not_at h f' s (subst (λ v. Linked N u v) e l) (inl refl)
  onward {u = u} h v l (s, inr e) =
      not_at h g' s (subst (λ v. Linked N u v) e l) (inr refl)

  port_of : {n : ℕ} {u : NamedPort A} {d : Context} → Clean N p c n u d → IsPort M u → IsPort N u
  port_of starts b = subst (λ n. p < n) step.rewrites.free_ports b
  port_of (crosses {k = k} {i = i} h a l y (inward {s = s} b e)) m = (k, i, y, omega arith)
  port_of (crosses {k = k} {i = i} h a l y (outward {s = s} b e)) m = (k, i, y, omega arith)

  -- the link on which it stands after the step was there before
  link_was : {n : ℕ} {u : NamedPort A} {d : Context} → Clean N p c n u d → (v : NamedPort A) →
      Linked M u v → Linked N u v × (IsSlotOf f' g' v → ⊥)
  link_was {u = u} h v l =
      let o = is_net.some_link u (port_of h (is_net'.of_ports u v l).0) in
      let away = onward h o.0 o.1 in
      let l' = link_stays N M born f' g' r' is_net is_net' step u o.0 o.1 (apart h) away in
      let e = is_net'.one_link u o.0 v l' l in (
        subst (λ v. Linked N u v) e o.1,
        subst (λ v. IsSlotOf f' g' v → ⊥) e away,
      )

  not_f : (x : A) (s : ℕ) → (IsSlotOf f' g' (slot x s) → ⊥) → x ≡ f' → ⊥
  not_f x s h e = h (s, inl (ap (λ x. slot x s) e))

  not_g : (x : A) (s : ℕ) → (IsSlotOf f' g' (slot x s) → ⊥) → x ≡ g' → ⊥
  not_g x s h e = h (s, inr (ap (λ x. slot x s) e))

  clean_was : {n : ℕ} {u : NamedPort A} {d : Context} → Clean M p c n u d → Clean N p c n u d
  clean_was starts = starts
  clean_was (crosses {u = u} {x = x} {k = k} {i = i} {s = s} h a l y z) =
      let w = clean_was h in
      let b = link_was w (slot x s) l in
      let o = (is_net.of_ports u (slot x s) b.0).1 in
      crosses w (alone w) b.0 (node_was N M born f' g' r' is_net is_net' step x k o.0 i o.1 y o.2
      (not_f x s b.1) (not_g x s b.1)) z

  pub none_stays : MeetsNone M p c
  none_stays f g r m =
      let w = clean_was m.clean in
      let t = pair_link M is_net' m.port f g r m.at in
      let b = link_was w (slot t.0 0) t.1 in
      let o = (is_net.of_ports m.port (slot t.0 0) b.0).1 in
      alone_stays N M born f' g' r' is_net is_net' step m.port t.0 o.0 o.1 0 (alone w) b.0 o.2
      (not_f t.0 0 b.1) (not_g t.0 0 b.1) t.1 f g r m.at

-- ---- what lasts

-- What net N has is there in net M too: the same paths, each chain that leaves, and no chain meets
-- a pair that met none.
pub record Lasts (N M : NamedNet NodeName) : Type 0 where
  pub paths : HaveSamePaths N M
  pub leaves : (p : ℕ) (ls : List Level) (n q : ℕ) (X : Context) →
      Ends N p (asked ls n) (chain.left q X) → Ends M p (asked ls n) (chain.left q X)
  pub none : (p : ℕ) (c : Context) → MeetsNone N p c → MeetsNone M p c

pub lasts_here : (N : NamedNet NodeName) → Lasts N N
lasts_here N = record {
  paths = λ p c q d. (λ r. r, λ r. r);
  leaves = λ p ls n q X e. e;
  none = λ p c h. h;
}

pub lasts_on : (N M P : NamedNet NodeName) → Lasts N M → Lasts M P → Lasts N P
lasts_on N M P a b = record {
  paths = λ p c q d. (
    λ r. (b.paths p c q d).0 ((a.paths p c q d).0 r),
    λ r. (a.paths p c q d).1 ((b.paths p c q d).1 r),
  );
  leaves = λ p ls n q X e. b.leaves p ls n q X (a.leaves p ls n q X e);
  none = λ p c h. b.none p c (a.none p c h);
}

module _ (N M : NamedNet NodeName) (is_net : IsNet N) (is_net' : IsNet M)
    (clear : CrossesNoStuck M) (paths : HaveSamePaths N M) where
  -- a chain that met no pair and left leaves still: it goes along its path
  still_leaves : (p : ℕ) (ls : List Level) (n q : ℕ) (X : Context) → MeetsNone M p (asked ls n) →
      Ends N p (asked ls n) (chain.left q X) → Ends M p (asked ls n) (chain.left q X)
  still_leaves p ls n q X none x = by (chain_ends M is_net' p (asked ls n) (path_port is_net' path))
    where
      path : Path M (free p) (asked ls n) q X
      path = (paths p (asked ls n) q X).0 (path_at N is_net p (asked ls n) q X x)

      by : (end : End NodeName) × Ends M p (asked ls n) end →
          Ends M p (asked ls n) (chain.left q X)
      by (chain.met f g rule, e) = absurd (none f g rule (meets_of e))
      by (chain.left q' X', e) =
          let o = path_one M is_net' (free p) (asked ls n) q' q X' X
          (path_at M is_net' p (asked ls n) q' X' e) path in
          subst (λ X. Ends M p (asked ls n) (chain.left q X)) o.1
          (subst (λ q. Ends M p (asked ls n) (chain.left q X')) o.0 e)
      by (chain.undefined, e) = absurd (no_path_at M is_net' p (asked ls n) e q X path)
      by (chain.budget, e) =
          absurd (chain_is_on_path M is_net' clear p ls n q X path n chain.budget (omega arith) e)

  pub lasts : ((p : ℕ) (c : Context) → MeetsNone N p c → MeetsNone M p c) → Lasts N M
  lasts none = record {
    paths = paths;
    leaves = λ p ls n q X e. still_leaves p ls n q X (none p (asked ls n) (λ f g r m.
        not_both N is_net p (asked ls n) f g r m (leaves_of e))) e;
    none = none;
  }

pub lasts_step : (N M : NamedNet NodeName) (t : ℕ) (e : Entry) → IsNet N → AreNamedBefore N t →
    CrossesNoStuck M → IsEntryStep N t e M → Lasts N M
lasts_step N M t e is_net named clear s =
    let run : IsRun N t (e ∷ []) M = IsRun.then s IsRun.end in
    let is_net' = run_net N M t (e ∷ []) is_net named run in
    lasts N M is_net is_net' clear (paths_kept N M t (e ∷ []) is_net named run) (λ p c h.
    none_stays N M (λ at. Born t at) s.f s.g e.rule is_net is_net' s.step p c h)

-- no net to which a run leads from here, from this ticket on, has a walk that crosses a stuck pair
abbrev pub IsClearOn : NamedNet NodeName → ℕ → Type 0
IsClearOn N t = (es : List Entry) (M : NamedNet NodeName) → IsRun N t es M → CrossesNoStuck M

pub lasts_run : (N M : NamedNet NodeName) (t : ℕ) (es : List Entry) → IsNet N →
    AreNamedBefore N t → IsClearOn N t → IsRun N t es M → Lasts N M
lasts_run N M t [] is_net named clear IsRun.end = lasts_here N
lasts_run N M t (e ∷ es) is_net named clear (IsRun.then {M = K} s r) =
    let one : IsRun N t (e ∷ []) K = IsRun.then s IsRun.end in
    lasts_on N K M (lasts_step N K t e is_net named (clear (e ∷ []) K one) s)
    (lasts_run K M (suc t) es (run_net N K t (e ∷ []) is_net named one)
    (named_after N K t s.f s.g s.step.active.k s.step.active.i s.step.active.l
    (action_of e.rule s.step.active.j) named s.step.rewrites)
    (λ fs P r'. clear (e ∷ fs) P (IsRun.then s r')) r)

-- ---- what is enough stays enough

module _ (N M : NamedNet NodeName) (k : Lasts N M) where
  pub no_path_lasts : (p : ℕ) (c : Context) → NoPath N p c → NoPath M p c
  no_path_lasts p c h q X r = h q X ((k.paths p c q X).1 r)

  pub enough_lasts : {most : ℕ} {F : List Frame} {ss : List Subterm} → IsEnough N most F ss →
      IsEnough M most F ss
  enough_lasts done = done
  enough_lasts (past b) = past b
  enough_lasts (place {s = s} {n = n} {q = q} {X = X} few e m r) =
      place (λ j b. no_path_lasts s.port (asked s.levels j) (few j b))
      (k.leaves s.port s.levels n q X e) m (enough_lasts r)
  enough_lasts (unknown {s = s} {n = n} {q = q} {X = X} few e m r) =
      unknown (λ j b. no_path_lasts s.port (asked s.levels j) (few j b))
      (k.leaves s.port s.levels n q X e) m (enough_lasts r)
  enough_lasts (headless {s = s} nowhere none r) =
      headless (λ n. no_path_lasts s.port (asked s.levels n) (nowhere n)) (λ n.
      k.none s.port (asked s.levels n) (none n)) (enough_lasts r)
