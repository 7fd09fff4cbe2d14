-- Nets of terms are levelled, and so demand order is complete on them.
use Rattle.std.proofs.Common.{◌≡◌, ℕ, suc, ◌+◌, ◌≤◌, true, List, [], ◌∷◌, ◌++◌, length, Option, Some, None}
use Rattle.std.proofs.Common.{inl, inr, refl, sym, subst, arith}
use Rattle.ol_net.specs.declared.parts.Rule.{Rule}
use Rattle.ol_net.specs.Graph.{Graph}
use Rattle.ol_net.specs.Nets.{NamedNet, slot, Linked, IsNet, IsPort, SameNet}
use Rattle.ol_net.specs.Numbered.{net_of}
use Rattle.ol_net.specs.Rules.{rule_of}
use Rattle.ol_context.specs.Paths.{HaveSamePaths}
use Rattle.ol_rules.specs.declared.journal.NodeName.{NodeName}
use Rattle.ol_rules.specs.declared.journal.NodeName.TheVariants.{Init}
use Rattle.ol_rules.proofs.FreshPairs.{linked_sym}
use Rattle.ol_rules.proofs.Relation.{same_sym}
use Rattle.ol_term.specs.Trees.{Tree}
use Rattle.ol_term.specs.declared.translations.Translation.{Translation}
use Rattle.ol_translate.specs.Names.{HasNames}
use Rattle.ol_translate.specs.Translation.{translation_of}
use Rattle.ol_rules.specs.declared.journal.Entry.{Entry}
use Rattle.ol_beta.specs.Leftmost.{IsNormal}
use Rattle.ol_readback.specs.Sources.{HasHeadsOf}
use Rattle.ol_readback.specs.Terms.{HasAllHeads, term_of}
use Rattle.ol_readback.specs.Whole.{preorder}
use Rattle.ol_readback.specs.declared.answers.ReadNode.{ReadNode}
use Rattle.ol_readback.specs.declared.answers.ReadNode.TheVariants as node
use Rattle.ol_readback.proofs.Forests.{heads_are_whole}
use Rattle.ol_readback.proofs.Kept.{heads_moved}
use Rattle.ol_law_meaning.specs.Shows.{LeftmostReduces}
use Rattle.ol_law_meaning.proofs.Based.{shown_normal, tree_shows}
use Rattle.ol_demand.specs.Demands.{IsDemandRun}
use Rattle.ol_demand.specs.Answers.{start_of}
use Rattle.ol_demand.specs.Laws.{IsStart}
use Rattle.ol_demand.proofs.Onward.{is_start}
use Rattle.ol_law_levels.specs.Levels.{IsLevelled}
use Rattle.ol_law_levels.proofs.DemandPlaces.{demand_places}
use Rattle.ol_law_levels.proofs.Runs.{run_keeps, same_levelled, start_levelled}
use Rattle.ol_diamond.proofs.OneThreadRuns.{run_net}
use Rattle.ol_law_levels.proofs.Stuck.{stuck_pairs_stop}
use Rattle.ol_law_levels.proofs.Terms.{term_is_levelled}
use Rattle.ol_law_completeness.specs.Complete.{StaysClear, IsReadWithin}
use Rattle.ol_law_completeness.specs.Terms.{LevelledCrossesNoStuck, NormalFormIsRead, HeadNormalFormIsRead}
use Rattle.ol_law_completeness.specs.Terms.{PlacesAreOfTerm, ReadsExactlyNormalForms}
use Rattle.ol_law_completeness.proofs.Completing.{costs_of, head_at}
use Rattle.ol_law_completeness.proofs.Ending.{heads_are_read}
use Rattle.ol_law_completeness.proofs.Normalizing.{normal_form_has_heads}
use Rattle.ol_law_completeness.proofs.SameRows.{CostAlike, cost_alike, costs_moved}
use Rattle.ol_invariance.proofs.SameNets.{start_paths}

module _ {A : Type 0} where
  pub levelled_crosses : LevelledCrossesNoStuck A
  levelled_crosses N is_net L p c d e n x y v w link t none =
      by o.0 o.1 (rule_of o.0.0 o.0.1 o.1.0 o.1.1) (rule_of o.1.0 o.1.1 o.0.0 o.0.1) refl refl
    where
      o : IsPort N (slot y 0) × IsPort N (slot x 0)
      o = is_net.of_ports (slot y 0) (slot x 0) link

      back : Linked N (slot x 0) (slot y 0)
      back = linked_sym N (slot y 0) (slot x 0) link

      by : (h : IsPort N (slot y 0)) (h' : IsPort N (slot x 0)) (a b : Option Rule) →
          rule_of h.0 h.1 h'.0 h'.1 ≡ a → rule_of h'.0 h'.1 h.0 h.1 ≡ b → ⊥
      by h h' (Some r) b z z' =
          none y x r (record {
            active = record {
              k = h.0;
              i = h.1;
              l = h'.0;
              j = h'.1;
              faces = record { first = h.2; second = h'.2; linked = link };
              fits = z;
            };
            principal = inl refl;
          })
      by h h' None (Some r) z z' =
          none x y r (record {
            active = record {
              k = h'.0;
              i = h'.1;
              l = h.0;
              j = h.1;
              faces = record { first = h'.2; second = h.2; linked = back };
              fits = z';
            };
            principal = inr refl;
          })
      by h h' None None z z' =
          (stuck_pairs_stop N is_net L y x (record {
            k = h.0;
            i = h.1;
            l = h'.0;
            j = h'.1;
            faces = record { first = h.2; second = h'.2; linked = link };
            first = z;
            second = z';
          }) p c n d
          w).0 v e t

pub stays_clear : (N : NamedNet NodeName) → IsStart N → IsLevelled N → StaysClear N
stays_clear N s L journal M run =
    levelled_crosses M (run_net N M 0 journal s.net s.named run)
    (run_keeps N M 0 journal s.net s.named run L)

module _ (τ : Translation) (t : Tree) (names : ℕ) (h : HasNames t names) (g : Graph)
    (is_net : IsNet (net_of g)) (same : SameNet (net_of g) (translation_of τ t names)) where
  pub start : IsStart (start_of g)
  start = is_start g is_net

  paths : HaveSamePaths (translation_of τ t names) (start_of g)
  paths = start_paths (net_of g) (translation_of τ t names) is_net same

  alike : CostAlike (translation_of τ t names) (start_of g)
  alike = cost_alike Init (translation_of τ t names) (net_of g)
      (same_sym (net_of g) (translation_of τ t names) same)

  pub levels : IsLevelled (start_of g)
  levels =
      start_levelled (net_of g) (same_levelled (translation_of τ t names) (net_of g)
      (same_sym (net_of g) (translation_of τ t names) same) (term_is_levelled τ t names h))

  pub clear : StaysClear (start_of g)
  clear = stays_clear (start_of g) start levels

pub normal_form_is_read : NormalFormIsRead
normal_form_is_read τ t names h v r n =
    let N = translation_of τ t names in
    let x = normal_form_has_heads τ t names h v r n in
    let c = costs_of N N (λ p c q X. (λ r. r, λ r. r)) x.1 x.2 in
    let reads : (g : Graph) → IsNet (net_of g) → SameNet (net_of g) N → (heads : ℕ) →
    IsReadWithin (start_of g) heads c.0 (preorder x.0)
    × (length (preorder x.0) ≤ heads →
    (journal : List Entry) (places : List ReadNode) (M : NamedNet NodeName) →
    IsDemandRun (start_of g) heads journal places M → places ≡ preorder x.0) =
    λ g is_net same heads. (
    let most = suc (heads + length (preorder x.0)) in
    let z = heads_are_read (start_of g) most c.0 (preorder x.0) (start τ t names h g is_net same)
    (clear τ t names h g is_net same) (costs_moved N (start_of g) (paths τ t names h g is_net same)
    (alike τ t names h g is_net same) (c.1 most tt)) heads (omega arith) in
    (z.0, z.1 (omega arith))
    ) in
    (x.0, x.2, x.3, c.0, c.1 (suc (length (preorder x.0))) tt, reads)

pub head_normal_form_is_read : HeadNormalFormIsRead
head_normal_form_is_read τ t names h u r n =
    let N = translation_of τ t names in
    let a = head_at N τ t names h u r n (λ p c q X. (λ r. r, λ r. r)) in
    let reads : (g : Graph) → IsNet (net_of g) → SameNet (net_of g) N →
    IsReadWithin (start_of g) 1 a.cost (node.Head a.lams a.variable a.args ∷ []) =
    λ g is_net same.
    (heads_are_read (start_of g) 1 a.cost (node.Head a.lams a.variable a.args ∷ [])
    (start τ t names h g is_net same) (clear τ t names h g is_net same)
    (costs_moved N (start_of g) (paths τ t names h g is_net same) (alike τ t names h g is_net same)
    a.reads) 1
    (omega arith)).0 in
    (a.lams, a.args, a.variable, a.terms, a.count, a.reaches, a.cost, a.reads, reads)

-- ---- what a run says of the term

pub places_are_of_term : PlacesAreOfTerm
places_are_of_term τ t names h g is_net same heads journal places M d =
    let p = paths τ t names h g is_net same in
    heads_moved (start_of g) (translation_of τ t names) (λ q c r X. ((p q c r X).1, (p q c r X).0))
    true
    (demand_places (start_of g) M heads journal places (start τ t names h g is_net same)
    (levels τ t names h g is_net same) d)

pub reads_exactly : ReadsExactlyNormalForms
reads_exactly τ t names h g is_net same = (there, back)
  where
    there : ((v : Tree) × LeftmostReduces t v × IsNormal v) →
        (heads : ℕ) × (journal : List Entry) × (places : List ReadNode) × (M : NamedNet NodeName)
        × IsDemandRun (start_of g) heads journal places M × HasAllHeads places
    there (v, r, n) =
        let x = normal_form_is_read τ t names h v r n in
        let many = length (preorder x.0) in
        let y = x.5 g is_net same many in
        let d = y.0.run in
        (many, d.0, d.1, d.2, d.3, subst HasAllHeads (sym (y.1 (omega arith) d.0 d.1 d.2 d.3)) x.1)

    back : (heads : ℕ) × (journal : List Entry) × (places : List ReadNode) × (M : NamedNet NodeName)
        × IsDemandRun (start_of g) heads journal places M × HasAllHeads places →
        (v : Tree) × LeftmostReduces t v × IsNormal v
    back (heads, journal, places, M, d, all) =
        let r = places_are_of_term τ t names h g is_net same heads journal places M d in
        let w = heads_are_whole (translation_of τ t names) true places r in
        let hs = subst (λ ns. HasHeadsOf (translation_of τ t names) true ns) (sym w.is_list) r in
        let e = shown_normal t true w.tree (tree_shows τ t names h true w.tree hs)
        (subst HasAllHeads (sym w.is_list) all) in
        (term_of w.tree, e.0, e.1)
