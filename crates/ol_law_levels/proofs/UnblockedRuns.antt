-- Runs of unblocked nets, and that no pair of such a net is stuck.
use Rattle.std.proofs.Common.{suc, ◌<◌, ◌≤◌, [], ◌∷◌, inl, inr, refl, arith}
use Rattle.ol_context.specs.Contexts.{up, IsCrosser}
use Rattle.ol_context.specs.Paths.{inward, outward}
use Rattle.ol_law_levels.proofs.Runs.{run_keeps}
use Rattle.ol_law_levels.proofs.Stuck as stuck
use Rattle.ol_law_levels.specs.Levels.{IsLevelled}
use Rattle.ol_net.specs.Nets.{NamedNet, IsNet, slot}
use Rattle.ol_net.specs.Parts.{arity}
use Rattle.ol_net.specs.Pairs.{IsStuck}
use Rattle.ol_net.specs.declared.parts.Kind.{Kind}
use Rattle.ol_net.specs.declared.parts.Kind.TheVariants as kind
use Rattle.ol_rules.proofs.OneRun.{name_same, name_test, fresh_names, named_after}
use Rattle.ol_rules.proofs.Relation.{net_kept}
use Rattle.ol_rules.specs.Rewriting.{action_of}
use Rattle.ol_rules.specs.Runs.{IsRun}
use Rattle.ol_rules.specs.declared.journal.NodeName.TheVariants.{Born}
use Rattle.ol_law_levels.specs.UnblockedLaws.{RunKeepsUnblocked, UnblockedIsUnstuck, RunIsUnstuck}
use Rattle.ol_law_levels.specs.Unblocked.{rise, Reaches, begins, along, rises, IsUnblocked}
use Rattle.ol_law_levels.proofs.UnblockedSteps.{step_keeps_unblocked}

pub run_keeps_unblocked : RunKeepsUnblocked
run_keeps_unblocked N M t [] n b IsRun.end u = u
run_keeps_unblocked N M t (e ∷ es) n b (IsRun.then {M = K} s run) u =
    let a = s.step.active in
    let fresh = fresh_names N t b in
    let n' : IsNet K = net_kept name_same name_test (λ place. Born t place) N s.f s.g a.k a.i a.l
    a.j e.rule n a.faces fresh a.fits K s.step.rewrites in
    let b' = named_after N K t s.f s.g a.k a.i a.l (action_of e.rule a.j) b s.step.rewrites in
    run_keeps_unblocked K M (suc t) es n' b' run
    (step_keeps_unblocked name_same name_test (λ place. Born t place) N K s.f s.g e.rule n fresh
    s.step u)

-- a fan, a croissant and a bracket have a slot 1
has_slot : (k : Kind) → IsCrosser k → 0 < arity k
has_slot kind.Fan h = omega arith
has_slot kind.Croissant h = omega arith
has_slot kind.Bracket h = omega arith
has_slot kind.Lam h = absurd h
has_slot kind.App h = absurd h
has_slot kind.Eraser h = absurd h

module _ {A : Type 0} where
  none_stuck : (N : NamedNet A) → IsLevelled N → IsUnblocked N → (f g : A) → IsStuck N f g → ⊥
  none_stuck N L u f g s =
      let o = stuck.stuck_of_sharing N L f g s in
      let b = has_slot s.k o.0 in
      let b1 : 1 ≤ arity s.k = omega (arith, b) in
      let x = s.faces in
      let r : Reaches N (slot g 0) (rise s.k s.i 0 ∷ []) = along
      (rises {s = 0} s.k s.i (begins (s.k, s.i, x.first, b1)) x.first b) x.linked in
      let t = u g s.l s.j (rise s.k s.i 0 ∷ []) x.second o.1 r in
      stuck.no_walk_crosses N L f g s 0 t.0 t.3.0 (up s.l s.j t.0 t.1) t.1 (inward b t.3.2)
      (outward t.2 refl)

  pub unblocked_is_unstuck : UnblockedIsUnstuck A
  unblocked_is_unstuck N L u = (
    none_stuck N L u,
    record {
      pairs = [];
      count = refl;
      different = tt;
      all = λ f g. (
        λ h. elim h as (λ h. IsStuck N f g) [
          | inl x ↦ absurd x
          | inr x ↦ absurd x
        ],
        λ s. absurd (none_stuck N L u f g s),
      );
    },
  )

pub run_is_unstuck : RunIsUnstuck
run_is_unstuck N M t journal n b L u run =
    (unblocked_is_unstuck M (run_keeps N M t journal n b run L)
    (run_keeps_unblocked N M t journal n b run u)).1
