-- A whole demand run of a graph.
use Rattle.std.proofs.Common.{◌≡◌, ℕ, ◌+◌, ◌-◌, ◌*◌, ◌≤◌, ◌↔◌, List, [], ◌∷◌, ◌++◌, length, false, refl, ap, arith}
use Rattle.ol_net.specs.Graph.{Graph}
use Rattle.ol_net.specs.Nets.{NamedNet, IsNet, net_under}
use Rattle.ol_net.specs.Numbered.{net_of}
use Rattle.ol_invariance.proofs.Renamed.{renamed}
use Rattle.ol_rules.specs.declared.journal.NodeName.{NodeName}
use Rattle.ol_rules.specs.declared.journal.NodeName.TheVariants.{Init}
use Rattle.ol_rules.specs.declared.journal.Entry.{Entry}
use Rattle.ol_rules.proofs.StartNets.{start_net, start_named, one_start}
use Rattle.ol_readback.specs.Askers.{Reading, the_start, IsOver}
use Rattle.ol_readback.specs.Sources.{HasHeadsOf}
use Rattle.ol_readback.specs.Texts.{AreNamed}
use Rattle.ol_readback.specs.Whole.{IsWholeTree}
use Rattle.ol_readback.specs.declared.answers.ReadNode.{ReadNode}
use Rattle.ol_readback.proofs.Forests.{heads_are_whole}
use Rattle.ol_readback.proofs.Kept.{heads_moved}
use Rattle.ol_readback.proofs.Named.{heads_are_named}
use Rattle.ol_demand.specs.Answers.{start_of, IsAnswer, IsSpent, IsNeeded}
use Rattle.ol_demand.specs.Asking.{IsLeftOff, IsRunning}
use Rattle.ol_demand.specs.Demands.{asks, IsDemandRun, HasMoreSteps}
use Rattle.ol_demand.specs.Laws.{IsStart}
use Rattle.ol_demand.specs.Readings.{IsReadByChains}
use Rattle.ol_demand.specs.declared.answers.Demanded.TheVariants as answer
use Rattle.ol_rules.specs.declared.under_way.UnderWay.{UnderWay}
use Rattle.ol_demand.proofs.LiveNodes.{once}
use Rattle.ol_demand.proofs.Needed.{needed}
use Rattle.ol_demand.proofs.OneDemand.{no_more}
use Rattle.ol_demand.proofs.SourceHeads.{heads_are_of_source}
use Rattle.ol_demand.proofs.UnderNames.{once_under}
use Rattle.ol_demand.proofs.UnderWays.{begun}
use Rattle.ol_rules.proofs.Relation.{same_refl}

pub is_start : (old : Graph) → IsNet (net_of old) → IsStart (start_of old)
is_start old n = record {
  net = start_net (net_of old) n;
  named = start_named (net_of old);
  once = once_under Init one_start (net_of old) (once old);
}

pub graph_heads : (old : Graph) → IsNet (net_of old) →
    (heads : ℕ) (journal : List Entry) (places : List ReadNode) (M : NamedNet NodeName) →
    IsDemandRun (start_of old) heads journal places M → HasHeadsOf (net_of old) false places
graph_heads old n heads journal places M d =
    let same = renamed Init (net_of old) n (λ x y k l i j h h' e. one_start x y e) in
    heads_moved (start_of old) (net_of old) (λ p c q X. ((same p c q X).1, (same p c q X).0)) false
    (heads_are_of_source (start_of old) M heads journal places (is_start old n) d)

-- the places of a reading by chains that is over
pub done_answer : (old : Graph) (fuel : ℕ) (g : Graph) (run : UnderWay) (fuel' heads : ℕ) (r : Reading)
    (ns : List ReadNode) → IsReadByChains old fuel g run fuel' heads r → IsOver heads r ns →
    IsAnswer old heads fuel g (answer.Done ns run.journal)
done_answer old fuel g run fuel' heads r ns w o = (
  record {
    names = w.under.names;
    are_names = record {
      initial = w.under.are_names.naming.initial;
      rising = λ j k h c. w.under.are_names.naming.rising j k h;
    };
    is = record {
      turns = w.under.turns;
      asked_places = r.places;
      last = asks r.frames r.waiting 0;
      run = w.under.made;
      over = o.over;
      all = o.all;
    };
  },
  w.within,
)

-- what an answer Done tells
module _ (old g : Graph) (is_net : IsNet (net_of old)) (heads fuel : ℕ) (tree : List ReadNode)
    (journal : List Entry) (h : IsAnswer old heads fuel g (answer.Done tree journal)) where
  pub done_heads : HasHeadsOf (net_of old) false tree
  done_heads = graph_heads old is_net heads journal tree _ h.0.is

  pub done_whole : IsWholeTree tree
  done_whole = heads_are_whole (net_of old) false tree done_heads

  pub done_names : AreNamed (old.free - 1) tree
  done_names = heads_are_named (net_of old) false tree is_net done_heads

  pub done_needed : IsNeeded (start_of old) journal
  done_needed = needed (is_start old is_net) h.0.is.run

  pub done_no_more : IsSpent (answer.Done tree journal) ↔ HasMoreSteps (start_of old) heads fuel
  done_no_more = (
    λ e. absurd e,
    λ m.
        let q = m.3 in
        let w = h.1 in
        no_more (is_start old is_net) (is_start old is_net).once (same_refl (start_of old)) h.0.is m.2 (omega arith),
  )

-- what an answer Spent tells
module _ (old g : Graph) (is_net : IsNet (net_of old)) (run : UnderWay) (heads fuel : ℕ)
    (h : IsLeftOff old g run heads) (q : length run.journal ≡ fuel) where
  pub spent_answer : IsAnswer old heads fuel g (answer.Spent run.journal)
  spent_answer = (
    record {
      names = h.names;
      are_names = record {
        initial = h.are_names.naming.initial;
        rising = λ j k b c. h.are_names.naming.rising j k b;
      };
      is = h.goes_on;
    },
    q,
  )

  pub spent_needed : IsNeeded (start_of old) run.journal
  spent_needed = needed (is_start old is_net) h.goes_on.run

  pub spent_more : IsSpent (answer.Spent run.journal) ↔ HasMoreSteps (start_of old) heads fuel
  spent_more = (λ e. (run.journal, net_under h.names (net_of g), h.goes_on, q), λ m. tt)

-- nothing was read yet
module _ (old : Graph) (run : UnderWay) (heads fuel : ℕ) (is_net : IsNet (net_of old))
    (s : run.names.start ≡ length old.nodes) (m : run.names.born.items ≡ []) (j : run.journal ≡ []) where
  pub first_running : length old.nodes + 4 * fuel ≤ 2000000000 → IsRunning old run fuel
  first_running few =
      let a = ap (λ (ns : List NodeName). length ns) m in
      let b = ap (λ (es : List Entry). length es) j in
      record { names = omega (arith, s); within = omega arith; few = omega arith }

  pub first_reading : IsReadByChains old fuel old run fuel heads the_start
  first_reading = record {
    same_fuel = refl;
    within = let b = ap (λ (es : List Entry). length es) j in omega arith;
    under = begun old run heads is_net s j;
  }
