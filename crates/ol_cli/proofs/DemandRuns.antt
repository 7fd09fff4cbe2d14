-- From the net that is read in demand order to what is printed of the term, which is one text.
use Rattle.std.proofs.Common.{◌≡◌, ℕ, ◌+◌, ◌<◌, ◌≤◌, List, [], ◌∷◌, length, sym, ap, ◌∙◌, subst, arith}
use Rattle.ol_term.specs.declared.translations.Translation.{Translation}
use Rattle.ol_term.specs.Trees.{Tree}
use Rattle.ol_net.specs.declared.parts.Kind.{Kind}
use Rattle.ol_net.specs.Graph.{Graph}
use Rattle.ol_net.specs.Nets.{NamedNet, HasNode, IsNet, SameNet, net_under}
use Rattle.ol_net.specs.Numbered.{net_of}
use Rattle.ol_net.specs.Pairs.{HasStuck, IsComplete}
use Rattle.ol_net.proofs.StuckCount.{one_stuck_count}
use Rattle.ol_context.specs.Short.{IsOnce}
use Rattle.ol_rules.specs.declared.journal.NodeName.{NodeName}
use Rattle.ol_rules.specs.declared.journal.NodeName.TheVariants.{Init}
use Rattle.ol_rules.specs.declared.journal.Entry.{Entry}
use Rattle.ol_rules.specs.Counting.{counts_of}
use Rattle.ol_rules.specs.Runs.{IsRun}
use Rattle.ol_rules.proofs.Relation.{same_refl}
use Rattle.ol_rules.proofs.Same.{has_stuck_same}
use Rattle.ol_rules.proofs.UnderNames.{same_under, has_stuck_under}
use Rattle.ol_rules.proofs.OnTheWay.{node_below}
use Rattle.ol_diamond.proofs.OneThreadRuns.{goes_on_shorter}
use Rattle.ol_translate.specs.Translation.{nodes_of, links_of, translation_of}
use Rattle.ol_readback.specs.Texts.{IsTextOf}
use Rattle.ol_readback.specs.declared.answers.ReadNode.{ReadNode}
use Rattle.ol_demand.specs.Answers.{start_of, StandsFor}
use Rattle.ol_demand.specs.Demands.{IsDemandRun, GoesOn}
use Rattle.ol_demand.specs.Laws.{IsStart}
use Rattle.ol_demand.proofs.LiveNodes as live_nodes
use Rattle.ol_demand.proofs.OneDemand.{demand_is_one, ends_or_goes_on}
use Rattle.ol_demand.proofs.SameDemand.{demand_same, goes_on_same, goes_on_active}
use Rattle.ol_demand.proofs.Turning.{turns_kept}
use Rattle.ol_demand.proofs.UnderNames.{once_under}
use Rattle.ol_cli.specs.Texts.{answer_text}
use Rattle.ol_cli.specs.Listing.{AreNamedOnce}
use Rattle.ol_cli.specs.Laws.{OneTreeIsDemanded}
use Rattle.ol_cli.specs.Run.{start_net_of_term}
use Rattle.ol_cli.specs.Demand.{DemandEnds, Demands}
use Rattle.ol_cli.specs.Cases.{DemandRunsOut}
use Rattle.ol_cli.proofs.Evaluated.{rising_apart}
use Rattle.ol_cli.proofs.ListedOnce.{net_of_parts_once}
use Rattle.ol_cli.proofs.OnePrint.{one_text, start_is_net, start_is_named}

-- ---- the term's net

-- nodes whose names stand once stand once
once_listed : {A : Type 0} (nodes : List (A × Kind × ℕ)) → AreNamedOnce nodes → IsOnce nodes
once_listed [] h = tt
once_listed (n ∷ nodes) h = (λ i. h.0 n.1 n.2 i, once_listed nodes h.1)

start_once : (tr : Translation) (t : Tree) (names : List (List ℕ)) → IsOnce (start_net_of_term tr t names).nodes
start_once tr t names =
    let N = translation_of tr t (length names) in
    once_under Init (λ x y e. cc) N (once_listed N.nodes
    (net_of_parts_once (1 + length names) (nodes_of tr t) (links_of tr t)))

graph_once : (g : Graph) → IsOnce (start_of g).nodes
graph_once g = once_under Init (λ x y e. cc) (net_of g) (live_nodes.once g)

pub is_start : (tr : Translation) (t : Tree) (names : List (List ℕ)) →
    IsNet (translation_of tr t (length names)) → IsStart (start_net_of_term tr t names)
is_start tr t names n = record {
  net = start_is_net tr t names n;
  named = start_is_named tr t names n;
  once = start_once tr t names;
}

-- ---- what the code read

module _ (tr : Translation) (t : Tree) (names : List (List ℕ)) (start : Graph)
    (same : SameNet (net_of start) (translation_of tr t (length names))) (fuel heads : ℕ)
    (new : Graph) (journal : List Entry) where
  from : SameNet (start_of start) (start_net_of_term tr t names)
  from = same_under Init (net_of start) (translation_of tr t (length names)) same

  -- what is printed of the net that is left is printed of the term
  pub own_demands : (tree : List ReadNode) (term text : List ℕ) (stuck : ℕ) → StandsFor start new
      (λ M. IsDemandRun (start_of start) heads journal tree M) → length journal ≤ fuel →
      IsNet (net_of new) → HasStuck (net_of new) stuck → IsTextOf names tree term →
      text ≡ answer_text term (counts_of journal) stuck → Demands tr t names fuel heads text
  own_demands tree term text stuck s within is_net counted shown written =
      let M = net_under s.names (net_of new) in
      let apart : (x y : ℕ) (k l : Kind) (i j : ℕ) → HasNode (net_of new) x k i →
      HasNode (net_of new) y l j → s.names x ≡ s.names y →
      x ≡ y = λ x y k l i j h h' e. rising_apart s.names
      (length new.nodes) s.are_names.rising x y (node_below new x k i h) (node_below new y l j h') e in
      let d = demand_same (start_of start) (start_net_of_term tr t names) M heads journal
      (graph_once start) (start_once tr t names) from tree s.is in
      record {
        ends = record { journal = journal; tree = tree; net = d.0; run = d.1; within = within };
        term = term;
        stuck = stuck;
        shown = shown;
        counted = has_stuck_same M d.0 stuck d.2 (has_stuck_under s.names (net_of new) is_net apart stuck counted);
        written = written;
      }

  pub demand_spent : StandsFor start new (λ M. GoesOn (start_of start) heads journal M) →
      length journal ≡ fuel → DemandRunsOut tr t names fuel heads
  demand_spent s full =
      let d = goes_on_same (start_of start) (start_net_of_term tr t names)
      (net_under s.names (net_of new)) heads journal (graph_once start) (start_once tr t names) from s.is in
      (journal, d.0, d.1, full)

-- ---- what is printed is one

module _ (tr : Translation) (t : Tree) (names : List (List ℕ))
    (is_net : IsNet (translation_of tr t (length names))) (fuel heads : ℕ) where
  demands_tree : (text text' : List ℕ) (d : Demands tr t names fuel heads text)
      (d' : Demands tr t names fuel heads text') →
      (d.ends.tree ≡ d'.ends.tree) × (d.term ≡ d'.term) × (d.ends.journal ≡ d'.ends.journal) × (d.stuck ≡ d'.stuck)
  demands_tree text text' d d' =
      let N = start_net_of_term tr t names in
      let s = is_start tr t names is_net in
      let o = demand_is_one N N d.ends.net d'.ends.net heads d.ends.journal d'.ends.journal
      d.ends.tree d'.ends.tree s s.once (same_refl N) d.ends.run d'.ends.run in
      let term : d.term ≡ d'.term = one_text names d'.ends.tree d.term d'.term
      (subst (λ ns. IsTextOf names ns d.term) o.1 d.shown) d'.shown in (
        o.1,
        term,
        o.0,
        one_stuck_count d'.ends.net d.stuck d'.stuck
            (has_stuck_same d.ends.net d'.ends.net d.stuck o.2 d.counted) d'.counted,
      )

  pub one_demanded : (text text' : List ℕ) → Demands tr t names fuel heads text →
      Demands tr t names fuel heads text' → text ≡ text'
  one_demanded text text' d d' =
      let x = demands_tree text text' d d' in
      d.written ∙ ap (λ w. answer_text w (counts_of d.ends.journal) d.stuck) x.1
      ∙ ap (λ (es : List Entry). answer_text d'.term (counts_of es) d.stuck) x.2
      ∙ ap (λ n. answer_text d'.term (counts_of d'.ends.journal) n) x.3 ∙ sym d'.written

  -- it doesn't both end and go on
  pub demand_ends_or_not : DemandRunsOut tr t names fuel heads → DemandEnds tr t names fuel heads → ⊥
  demand_ends_or_not r d =
      let N = start_net_of_term tr t names in
      let s = is_start tr t names is_net in
      ends_or_goes_on N N d.net heads fuel d.journal d.tree s s.once (same_refl N) d.run d.within r

  -- where it is longer than the fuel, so is each complete run
  pub demand_is_longer : DemandRunsOut tr t names fuel heads →
      (journal : List Entry) (net : NamedNet NodeName) →
      IsRun (start_net_of_term tr t names) 0 journal net → IsComplete net → fuel < length journal
  demand_is_longer (own, M, g, full) journal net run complete =
      let N = start_net_of_term tr t names in
      let s = is_start tr t names is_net in
      let k = turns_kept s g.run in
      let shorter = goes_on_shorter N s.net s.named M net own journal k.run run (goes_on_active g) complete in
      omega (arith, full, shorter)

pub one_demanded_tree : OneTreeIsDemanded
one_demanded_tree tr t names fuel heads text text' is_net d d' = demands_tree tr t names is_net fuel
    heads text text' d d'
