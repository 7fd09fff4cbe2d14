-- Where the chain for as many abstractions as there are nodes breaks off, or one is given up for
-- its length, those for more meet no pair.
use Rattle.std.proofs.Common.{ℕ, ◌≤◌, List, inl, inr, subst, arith}
use Rattle.ol_net.specs.declared.parts.Rule.{Rule}
use Rattle.ol_net.specs.Nets.{NamedNet, free, IsNet, IsPrincipalOf}
use Rattle.ol_context.specs.Contexts.{Level, Context}
use Rattle.ol_context.specs.Short.{live}
use Rattle.ol_context.specs.Ways.{Way}
use Rattle.ol_readback.specs.Frames.{asked}
use Rattle.ol_demand.specs.Chains.{End, Ends, undefined, budget}
use Rattle.ol_law_levels.proofs.Lost.{meets_not}
use Rattle.ol_law_levels.proofs.Tops as tops
use Rattle.ol_law_completeness.specs.Laws.{CrossesNoStuck}
use Rattle.ol_law_completeness.specs.Least.{Meets, MeetsNone}
use Rattle.ol_law_completeness.proofs.Frozen.{clean_way}
use Rattle.ol_law_completeness.proofs.Goings.{AtPair, pair_stops, meets_goes}
use Rattle.ol_law_completeness.proofs.Tracing.{IsOnWalk, chain_is_on_walk}

module _ {A : Type 0} (N : NamedNet A) (is_net : IsNet N) where
  -- a chain that breaks off meets no pair, however long it may be
  pub broken_meets_none : (p : ℕ) (c : Context) → Ends N p c undefined → MeetsNone N p c
  broken_meets_none p c e f g r m = meets_not N is_net p c e (by m.at.principal)
    where
      by : IsPrincipalOf f g m.port → tops.Meets N (free p) c
      by (inl z) = record {
        made = m.made;
        node = f;
        context = m.context;
        active = (g, r, inl m.at.active);
        way = subst (λ u. Way N (free p) c m.made u m.context) z (clean_way m.clean);
      }
      by (inr z) = record {
        made = m.made;
        node = g;
        context = m.context;
        active = (f, r, inr m.at.active);
        way = subst (λ u. Way N (free p) c m.made u m.context) z (clean_way m.clean);
      }

  module _ (none : CrossesNoStuck N) (p : ℕ) (ls : List Level) (n n' : ℕ) (le : n ≤ n') where
    beside : (end : End A) → Ends N p (asked ls n) end → (f g : A) (r : Rule) →
        (m : Meets N p (asked ls n') f g r) →
        IsOnWalk N (AtPair N f g r) (meets_goes N m).0 n' n end
    beside end e f g r m =
        let w = meets_goes N m in
        chain_is_on_walk N is_net none p ls (AtPair N f g r) (pair_stops N f g r) w.0 n' n w.1 end
        le e

    pub longer_meet_none : live N ≤ n → Ends N p (asked ls n) undefined →
        MeetsNone N p (asked ls n')
    longer_meet_none many e f g r m = let z = beside undefined e f g r m in let b = z.1 in
        absurd (omega arith)

    pub spent_meet_none : Ends N p (asked ls n) budget → MeetsNone N p (asked ls n')
    spent_meet_none e f g r m = beside budget e f g r m
