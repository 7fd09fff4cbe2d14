-- A term has one answer: what is printed of it, that its run goes on, what is read of its untouched
-- net, what is shown of its net
-- after some leads, or what leftmost reduction says of it.
use Rattle.std.proofs.Common.{◌≡◌, ℕ, ◌*◌, List, length, sym, ap, ◌∙◌, subst}
use Rattle.ol_term.specs.declared.translations.Translation.{Translation}
use Rattle.ol_term.specs.Trees.{Tree}
use Rattle.ol_net.specs.Nets.{NamedNet, IsNet, SameNet}
use Rattle.ol_net.specs.Numbered.{net_of}
use Rattle.ol_net.proofs.StuckCount.{one_stuck_count}
use Rattle.ol_rules.specs.declared.journal.NodeName.{NodeName}
use Rattle.ol_rules.specs.declared.journal.Entry.{Entry}
use Rattle.ol_rules.specs.Counting.{counts_of}
use Rattle.ol_rules.specs.Laws.{AreNamedBefore}
use Rattle.ol_rules.proofs.OneRun.{one_thread_one, complete_or_active}
use Rattle.ol_rules.proofs.Recount.{net_same}
use Rattle.ol_rules.proofs.Relation.{same_refl, same_sym, same_trans}
use Rattle.ol_rules.proofs.Same.{has_stuck_same}
use Rattle.ol_rules.proofs.StartNets as start
use Rattle.ol_translate.specs.Translation.{translation_of}
use Rattle.ol_readback.specs.Heads.{live}
use Rattle.ol_readback.specs.ReadTrees.{IsTree}
use Rattle.ol_readback.specs.Texts.{text_of_tree, IsTextOf}
use Rattle.ol_readback.specs.declared.answers.ReadNode.{ReadNode}
use Rattle.ol_readback.proofs.One.{tree_is_one}
use Rattle.ol_readback.proofs.OneTree.{list_is_of_one_tree}
use Rattle.ol_beta.specs.Verdicts.{IsVerdict}
use Rattle.ol_beta.proofs.OneVerdict.{verdict_one}
use Rattle.ol_view.specs.ShowTexts.{show_text}
use Rattle.ol_view.proofs.OneView.{leads_one}
use Rattle.ol_view.proofs.ShownAlike.{live_alike, shown_alike}
use Rattle.ol_cli.specs.Texts.{line, answer_text}
use Rattle.ol_cli.specs.RefusalTexts.{view_text}
use Rattle.ol_cli.specs.Certify.{verdict_text, Certifies}
use Rattle.ol_cli.specs.Laws.{OneTreeIsPrinted, OneTreeIsWalked}
use Rattle.ol_cli.specs.Run.{start_net_of_term, Shows, Prints, RunsOut, RunEnds, ReadsLast}
use Rattle.ol_cli.specs.Walk.{Walks}
use Rattle.ol_cli.specs.View.{Views}
use Rattle.ol_cli.proofs.ListedOnce.{same_length}
use Rattle.ol_cli.proofs.TreeTransport.{tree_same}
use Rattle.ol_cli.proofs.VerdictTexts.{verdict_of}

-- a list of places has one text
pub one_text : (names : List (List ℕ)) (ns : List ReadNode) (a b : List ℕ) → IsTextOf names ns a →
    IsTextOf names ns b → a ≡ b
one_text names ns a b x y = x.is ∙ ap (λ t. text_of_tree names t)
    (list_is_of_one_tree x.tree y.tree (x.listed ∙ sym y.listed)) ∙ sym y.is

-- of one net, whose lists may be ordered in two ways, one tree, one term and one number of stuck pairs are shown
shows_tree : (names : List (List ℕ)) (heads : ℕ) (journal journal' : List Entry)
    (M N : NamedNet NodeName) (text text' : List ℕ) → SameNet M N →
    (s : Shows names heads journal M text) (s' : Shows names heads journal' N text') →
    (s.tree ≡ s'.tree) × (s.term ≡ s'.term) × (s.stuck ≡ s'.stuck)
shows_tree names heads journal journal' M N text text' same s s' =
    let stuck = one_stuck_count N s.stuck s'.stuck (has_stuck_same M N s.stuck same s.counted) s'.counted in
    let size : live M ≡ live N = same_length M N same s.once s'.once in
    let read = subst (λ n. IsTree N heads (2 * n) s.tree) size
    (tree_same M N same size heads (2 * live M) s.tree s.read) in
    let tree : s.tree ≡ s'.tree = tree_is_one N s'.is_net heads (2 * live N) s.tree s'.tree read s'.read in
    let term : s.term ≡ s'.term = one_text names s'.tree s.term s'.term
    (subst (λ ns. IsTextOf names ns s.term) tree s.shown) s'.shown in
    (tree, term, stuck)

-- one journal and one net, whose lists may be ordered in two ways, show one text
pub one_show : (names : List (List ℕ)) (heads : ℕ) (journal : List Entry) (M N : NamedNet NodeName)
    (text text' : List ℕ) → SameNet M N → Shows names heads journal M text →
    Shows names heads journal N text' → text ≡ text'
one_show names heads journal M N text text' same s s' =
    let x = shows_tree names heads journal journal M N text text' same s s' in
    s.written ∙ ap (λ x. answer_text x (counts_of journal) s.stuck) x.1
    ∙ ap (λ n. answer_text s'.term (counts_of journal) n) x.2 ∙ sym s'.written

module _ (tr : Translation) (t : Tree) (names : List (List ℕ))
    (is_net : IsNet (translation_of tr t (length names))) where
  -- the net that the run begins with is a net of start nodes
  pub start_is_net : IsNet (start_net_of_term tr t names)
  start_is_net = start.start_net (translation_of tr t (length names)) is_net

  pub start_is_named : AreNamedBefore (start_net_of_term tr t names) 0
  start_is_named = start.start_named (translation_of tr t (length names))

  -- the one-thread run doesn't both end and go on
  pub ends_or_runs_out : (fuel : ℕ) → RunsOut (start_net_of_term tr t names) fuel →
      RunEnds (start_net_of_term tr t names) fuel → ⊥
  ends_or_runs_out fuel r e =
      complete_or_active (start_net_of_term tr t names)
      (start_net_of_term tr t names) e.net r.net fuel e.journal r.journal start_is_net
      start_is_named (same_refl (start_net_of_term tr t names)) e.run r.run e.complete r.left

  pub ends_or_not : (fuel heads : ℕ) (text : List ℕ) → RunsOut (start_net_of_term tr t names) fuel →
      Prints tr t names fuel heads text → ⊥
  ends_or_not fuel heads text r p = ends_or_runs_out fuel r p.ends

  -- and one text is printed of it
  pub one_print : (fuel heads : ℕ) (text text' : List ℕ) → Prints tr t names fuel heads text →
      Prints tr t names fuel heads text' → text ≡ text'
  one_print fuel heads text text' p p' =
      let o = one_thread_one (start_net_of_term tr t names)
      (start_net_of_term tr t names) p.ends.net p'.ends.net fuel p.ends.journal p'.ends.journal start_is_net
      start_is_named (same_refl (start_net_of_term tr t names)) p.ends.run p'.ends.run in
      one_show names heads p'.ends.journal p.ends.net p'.ends.net text text' o.1
      (subst (λ es. Shows names heads es p.ends.net text) o.0 p.shows) p'.shows

  -- one tree is read from its last net
  pub one_last_tree : (fuel heads : ℕ) (tree tree' : List ReadNode) →
      ReadsLast tr t names fuel heads tree → ReadsLast tr t names fuel heads tree' → tree ≡ tree'
  one_last_tree fuel heads tree tree' p p' =
      let o = one_thread_one (start_net_of_term tr t names)
      (start_net_of_term tr t names) p.ends.net p'.ends.net fuel p.ends.journal p'.ends.journal start_is_net
      start_is_named (same_refl (start_net_of_term tr t names)) p.ends.run p'.ends.run in
      let size : live p.ends.net ≡ live p'.ends.net = same_length p.ends.net p'.ends.net o.1 p.once p'.once in
      let read = subst (λ n. IsTree p'.ends.net heads (2 * n) tree) size
      (tree_same p.ends.net p'.ends.net o.1 size heads (2 * live p.ends.net) tree p.read) in
      tree_is_one p'.ends.net p'.is_net heads (2 * live p'.ends.net) tree tree' read p'.read

  pub reads_or_runs_out : (fuel heads : ℕ) (tree : List ReadNode) → RunsOut (start_net_of_term tr t names) fuel →
      ReadsLast tr t names fuel heads tree → ⊥
  reads_or_runs_out fuel heads tree r p = ends_or_runs_out fuel r p.ends

  -- and one verdict is told of it
  pub one_certified : (steps fuel heads : ℕ) (text text' : List ℕ) →
      Certifies tr t names steps fuel heads text → Certifies tr t names steps fuel heads text' → text ≡ text'
  one_certified steps fuel heads text text' c c' =
      let tree = one_last_tree fuel heads c.tree c'.tree c.last c'.last in
      let v = verdict_of t c.tree steps text c.written in
      let v' = verdict_of t c'.tree steps text' c'.written in
      let verdict = verdict_one t c'.tree steps v.0 v'.0 (subst (λ ns. IsVerdict t ns steps v.0) tree v.1) v'.1 in
      v.2 ∙ ap (verdict_text steps) verdict ∙ sym v'.2

  -- the untouched net is read in one way
  walks_tree : (edges heads : ℕ) (text text' : List ℕ) (w : Walks tr t names edges heads text)
      (w' : Walks tr t names edges heads text') → (w.tree ≡ w'.tree) × (w.term ≡ w'.term)
  walks_tree edges heads text text' w w' =
      let tree : w.tree ≡ w'.tree = tree_is_one
      (translation_of tr t (length names)) is_net heads edges w.tree w'.tree w.read w'.read in
      (tree, one_text names w'.tree w.term w'.term (subst (λ ns. IsTextOf names ns w.term) tree w.shown) w'.shown)

  pub one_walk : (edges heads : ℕ) (text text' : List ℕ) → Walks tr t names edges heads text →
      Walks tr t names edges heads text' → text ≡ text'
  one_walk edges heads text text' w w' =
      let x = walks_tree edges heads text text' w w' in
      w.written ∙ ap line x.1 ∙ sym w'.written

  -- the net after some leads is shown in one way
  pub one_view : (after : ℕ) (text text' : List ℕ) → Views tr t names after text →
      Views tr t names after text' → text ≡ text'
  one_view after text text' v v' =
      let N = translation_of tr t (length names) in
      let from = same_sym (net_of v.start) N v.same in
      let same = same_trans (net_of v.start) N (net_of v'.start) v.same (same_sym (net_of v'.start) N v'.same) in
      let size : length v.start.nodes ≡ length v'.start.nodes = sym v.whole
      ∙ live_alike v.start v'.start same ∙ v'.whole in
      let led = leads_one v.start v'.start v.last v'.last after v.steps v'.steps
      (net_same N (net_of v.start) from is_net) same size v.tabled v'.tabled v.leads v'.leads in
      let shown = shown_alike v.last v'.last v.tabled v'.tabled led.1 in
      v.written ∙ ap (λ n. view_text n (show_text v.last)) led.0 ∙ ap (λ x. view_text v'.steps x) shown ∙ sym v'.written

-- ---- the laws

pub one_printed_tree : OneTreeIsPrinted
one_printed_tree tr t names fuel heads text text' is_net p p' =
    let o = one_thread_one (start_net_of_term tr t names)
    (start_net_of_term tr t names) p.ends.net p'.ends.net fuel p.ends.journal p'.ends.journal
    (start_is_net tr t names is_net) (start_is_named tr t names is_net)
    (same_refl (start_net_of_term tr t names)) p.ends.run p'.ends.run in
    shows_tree names heads p.ends.journal p'.ends.journal p.ends.net p'.ends.net text text' o.1 p.shows p'.shows

pub one_walked_tree : OneTreeIsWalked
one_walked_tree tr t names edges heads text text' is_net w w' = walks_tree tr t names is_net edges heads text text' w w'
