-- The same net, however its lists are ordered, has the same demand run.
use Rattle.std.proofs.Common.{◌≡◌, ℕ, List, length, refl, arith}
use Rattle.ol_net.specs.declared.parts.Rule.{Rule}
use Rattle.ol_net.specs.Nets.{NamedNet, NamedPort, SameNet}
use Rattle.ol_net.specs.Pairs.{HasActive}
use Rattle.ol_context.specs.Contexts.{Context}
use Rattle.ol_context.specs.Short.{live, IsOnce}
use Rattle.ol_rules.specs.declared.journal.NodeName.{NodeName}
use Rattle.ol_rules.specs.declared.journal.Entry.{Entry}
use Rattle.ol_rules.proofs.Relation.{same_refl}
use Rattle.ol_rules.proofs.Same.{step_same}
use Rattle.ol_readback.specs.Frames.{Frame, asked}
use Rattle.ol_readback.specs.Heads.{Answer}
use Rattle.ol_readback.specs.ReadTrees.{Subterm}
use Rattle.ol_readback.specs.declared.answers.ReadNode.{ReadNode}
use Rattle.ol_demand.specs.Chains.{End, met, undefined, Stands, at_pair, at_port, barred, at_last}
use Rattle.ol_demand.specs.Demands.{Asking, ChainEnds, Meets, IsFound, exits, lost, spent, Turn, rewrites, one_more}
use Rattle.ol_demand.specs.Demands.{finds, Turns, begins, and_then, IsDemandRun, GoesOn}
use Rattle.ol_demand.proofs.LiveNodes.{live_same}
use Rattle.ol_demand.proofs.OneDemand.{once_kept}
use Rattle.ol_demand.proofs.SameChains.{ends_same}

-- ---- a turn

module _ (heads : ℕ) (M N : NamedNet NodeName) (same : SameNet M N) (l : live M ≡ live N) where
  pub chain_ends_same : (F : List Frame) (s : Subterm) (n : ℕ) (end : End NodeName) →
      ChainEnds heads M F s n end → ChainEnds heads N F s n end
  chain_ends_same F s n end h = record {
    below = h.below;
    ends = ends_same M N same l s.port (asked s.levels n) end h.ends;
  }

  found_same : {F : List Frame} {s : Subterm} {n : ℕ} {end : End NodeName} {a : Answer} →
      IsFound M F s n end a → IsFound N F s n end a
  found_same (exits m) = exits m
  found_same (lost b) = lost (omega arith)
  found_same spent = spent

  meets_same : (ticket : ℕ) (F : List Frame) (s : Subterm) (n : ℕ) (e : Entry)
      (P : NamedNet NodeName) → Meets heads M ticket F s n e P → Meets heads N ticket F s n e P
  meets_same ticket F s n e P m = record {
    step = record {
      f = m.step.f;
      g = m.step.g;
      named = m.step.named;
      step = step_same M N same _ m.step.f m.step.g e.rule P m.step.step;
    };
    ends = chain_ends_same F s n (met m.step.f m.step.g e.rule) m.ends;
    once = m.once;
  }

  turn_same : (ticket : ℕ) {a b : Asking} {es : List Entry} {ns : List ReadNode}
      {P : NamedNet NodeName} → Turn heads M ticket a es ns P b →
      (Q : NamedNet NodeName) × Turn heads N ticket a es ns Q b × SameNet P Q
  turn_same ticket (rewrites {F = F} {s = s} {n = n} {e = e} {P = P} m) = (
    P,
    rewrites (meets_same ticket F s n e P m),
    same_refl P,
  )
  turn_same ticket (one_more {F = F} {s = s} {n = n} h b) = (
    N,
    one_more (chain_ends_same F s n undefined h) (omega arith),
    same,
  )
  turn_same ticket (finds {F = F} {s = s} {n = n} {end = end} h f) = (
    N,
    finds (chain_ends_same F s n end h) (found_same f),
    same,
  )

-- ---- a run

-- turns from N that lead to net M
pub record TurnsAlike (N : NamedNet NodeName) (heads turns : ℕ) (journal : List Entry)
    (places : List ReadNode) (M : NamedNet NodeName) (a : Asking) : Type 0 where
  pub net : NamedNet NodeName
  pub run : Turns N heads turns journal places net a
  pub same : SameNet M net

pub turns_same : {N : NamedNet NodeName} {heads : ℕ} {M : NamedNet NodeName} {turns : ℕ}
    {journal : List Entry} {places : List ReadNode} {a : Asking} →
    (N' : NamedNet NodeName) → IsOnce N.nodes → IsOnce N'.nodes → SameNet N N' →
    Turns N heads turns journal places M a → TurnsAlike N' heads turns journal places M a
turns_same N' o o' same begins = record { net = N'; run = begins; same = same }
turns_same {heads = heads} N' o o' same (and_then {journal = journal} {M = M} r t) =
    let x = turns_same N' o o' same r in
    let l = live_same M x.net x.same (once_kept o r) (once_kept o' x.run) in
    let y = turn_same heads M x.net x.same l (length journal) t in
    record { net = y.0; run = and_then x.run y.1; same = y.2 }

module _ (N N' M : NamedNet NodeName) (heads : ℕ) (journal : List Entry) (o : IsOnce N.nodes)
    (o' : IsOnce N'.nodes) (same : SameNet N N') where
  pub demand_same : (places : List ReadNode) → IsDemandRun N heads journal places M →
      (M' : NamedNet NodeName) × IsDemandRun N' heads journal places M' × SameNet M M'
  demand_same places d =
      let x = turns_same N' o o' same d.run in (
        x.net,
        record {
          turns = d.turns;
          asked_places = d.asked_places;
          last = d.last;
          run = x.run;
          over = d.over;
          all = d.all;
        },
        x.same,
      )

  pub goes_on_same : GoesOn N heads journal M → (M' : NamedNet NodeName) × GoesOn N' heads journal M' × SameNet M M'
  goes_on_same d =
      let x = turns_same N' o o' same d.run in
      let l = live_same M x.net x.same (once_kept o d.run) (once_kept o' x.run) in (
        x.net,
        record {
          turns = d.turns;
          places = d.places;
          frames = d.frames;
          subterm = d.subterm;
          later = d.later;
          lams = d.lams;
          run = x.run;
          first = d.first;
          second = d.second;
          rule = d.rule;
          meets = chain_ends_same heads M x.net x.same l d.frames d.subterm d.lams
              (met d.first d.second d.rule) d.meets;
        },
        x.same,
      )

-- ---- a run that goes on

met_active : (N : NamedNet NodeName) {n : ℕ} {u : NamedPort NodeName} {d : Context}
    {end : End NodeName} → Stands N n u d end → (f g : NodeName) (r : Rule) → end ≡ met f g r → HasActive N
met_active N (at_pair {f = f} {g = g} {r = r} a) f' g' r' e = (f, g, r, a.active)
met_active N (at_port l) f g r e = absurd (cc)
met_active N (barred a l b) f g r e = absurd (cc)
met_active N (at_last a l t b) f g r e = absurd (cc)

-- the net that it leaves has an active pair
pub goes_on_active : {N : NamedNet NodeName} {heads : ℕ} {journal : List Entry}
    {M : NamedNet NodeName} → GoesOn N heads journal M → HasActive M
goes_on_active {M = M} d = met_active M d.meets.ends.stands d.first d.second d.rule refl
