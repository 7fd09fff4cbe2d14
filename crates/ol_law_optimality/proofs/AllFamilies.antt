-- Demand order makes as many beta steps for a normal form as there are families.
use Rattle.std.proofs.Common.{◌≡◌, ℕ, List, [], ◌∷◌, ◌++◌, map, refl, sym, subst}
use Rattle.ol_beta.specs.Leftmost.{IsNormal}
use Rattle.ol_context.specs.Contexts.{Level, Context, cons, tail}
use Rattle.ol_demand.specs.Demands.{IsDemandRun}
use Rattle.ol_demand.specs.Laws.{IsStart}
use Rattle.ol_demand.proofs.Onward.{is_start}
use Rattle.ol_law_optimality.proofs.Meeting.{Comes}
use Rattle.ol_law_optimality.proofs.Questions.{question_asks}
use Rattle.ol_invariance.proofs.SameNets.{start_paths}
use Rattle.ol_law_meaning.proofs.Endings.{no_redex}
use Rattle.ol_net.specs.Nets.{NamedNet, IsNet, SameNet, net_under}
use Rattle.ol_net.specs.Numbered.{net_of}
use Rattle.ol_net.specs.declared.parts.Rule.TheVariants as rule
use Rattle.ol_law_optimality.specs.Labels.{Label, Labelled, erased, LeftmostContracts}
use Rattle.ol_readback.specs.ReadTrees.{Subterm}
use Rattle.ol_readback.specs.Terms.{HasAllHeads}
use Rattle.ol_readback.specs.declared.answers.ReadNode.{ReadNode}
use Rattle.ol_readback.specs.declared.answers.ReadNode.TheVariants as node
use Rattle.ol_rules.specs.Counting.{times_applied}
use Rattle.ol_rules.specs.declared.journal.Entry.{Entry}
use Rattle.ol_rules.specs.declared.journal.NodeName.{NodeName}
use Rattle.ol_rules.specs.declared.journal.NodeName.TheVariants.{Init}
use Rattle.ol_law_meaning.specs.Sites.{Site}
use Rattle.ol_law_meaning.specs.Spots.{Place, at, place}
use Rattle.ol_term.specs.Trees.{Tree}
use Rattle.ol_term.specs.declared.translations.Translation.{Translation}
use Rattle.ol_translate.specs.Names.{HasNames}
use Rattle.ol_translate.specs.Translation.{translation_of}
use Rattle.ol_law_optimality.specs.AllFamilies.{BetasAreFamilies}
use Rattle.ol_law_optimality.specs.Families.{HaveOwnLetters}
use Rattle.ol_law_optimality.specs.HeadFamilies.{HasSoManyDifferent}
use Rattle.ol_law_optimality.specs.Readings.{word_of}
use Rattle.ol_law_optimality.proofs.Answering.{is_answered}
use Rattle.ol_law_optimality.proofs.DegreesWanted.{degree_found}
use Rattle.ol_law_optimality.proofs.Exactly.{seen_here, exactly}
use Rattle.ol_law_optimality.proofs.Hearing.{AreLettered}
use Rattle.ol_law_optimality.proofs.Lettering.{lettering}
use Rattle.ol_law_optimality.proofs.MetSeen.{SeenBy, comes_seen}
use Rattle.ol_law_optimality.proofs.Wanting.{wanted_degree}

-- where each place has a head nothing waits, and all that were asked have one
pub asked_all : (ps : List ReadNode) (ss : List Subterm) → HasAllHeads (ps ++ map (λ s. node.Cut) ss) →
    HasAllHeads ps × (ss ≡ [])
asked_all [] [] h = (tt, refl)
asked_all [] (s ∷ ss) h = absurd h
asked_all (node.Head l v k ∷ ps) ss h = asked_all ps ss h
asked_all (node.NoHead ∷ ps) ss h = absurd h
asked_all (node.Cut ∷ ps) ss h = absurd h

module _ (τ : Translation) (T : Labelled) (names : ℕ) (h : HasNames (erased T) names) (letter : ℕ → ℕ → ℕ)
    (are : AreLettered τ letter T 0 0 0) where
  pub at_port : (y : Place) (v : Level) (c : Context) (p : Site) (m : Comes τ (erased T) (at y v c) p) (q : ℕ) →
      y ≡ place q → SeenBy τ T names h letter are q (cons v c) (word_of T p m.matched)
  at_port y v c p m q e = subst (λ y. (m : Comes τ (erased T) (at y v c) p) →
      SeenBy τ T names h letter are q (cons v c) (word_of T p m.matched)) (sym e) (λ m. comes_seen τ T names h letter are
      q v c p m) m

-- Each demand run of any net that is this term's up to names, with a head at each place: for the term that T is
-- without labels.
abbrev RunsAreOfFamilies : Translation → List Label → Tree → Type 0
RunsAreOfFamilies τ ws t = (names : ℕ) → HasNames t names → (K : NamedNet ℕ) → IsNet K →
    SameNet K (translation_of τ t names) → IsStart (net_under Init K) →
    (heads : ℕ) (journal : List Entry) (places : List ReadNode) (M : NamedNet NodeName) →
    IsDemandRun (net_under Init K) heads journal places M → HasAllHeads places →
    HasSoManyDifferent ws (times_applied rule.Beta journal)

pub runs_are_of_families : (τ : Translation) (T v : Labelled) (ws : List Label) → LeftmostContracts T ws v →
    IsNormal (erased v) → HaveOwnLetters T → (t : Tree) → erased T ≡ t → RunsAreOfFamilies τ ws t
runs_are_of_families τ T v ws r z own t e = subst (RunsAreOfFamilies τ ws) e
    (λ names h K n same start heads journal places M d all.
    let L = lettering τ T names own in
    let w = asked_all d.asked_places d.last.waiting (subst HasAllHeads d.all all) in
    let paths = start_paths K (translation_of τ (erased T) names) n same in
    exactly τ T names h K n same start L.letter L.atoms L.are ws d.run
    (λ p c k q m. wanted_degree τ T v ws r (no_redex (erased v) z) q (record {
      place = place p;
      first = c 0;
      rest = tail c;
      asks = question_asks τ (erased T) names h (net_under Init K) start paths heads p c k;
      comes = m;
    }))
    (λ e i.
    let F = degree_found τ T v ws r e i in
    let m = F.wanted in
    let x = is_answered τ (erased T) names h (net_under Init K) heads M d.turns journal d.asked_places d.last start
    paths d.run w.1 w.0 m.place m.first m.rest m.asks F.close F.reached in
    let y = seen_here τ T names h K n same start L.letter L.atoms L.are x.0 (cons m.first m.rest)
    (word_of T F.site m.comes.matched) (at_port τ T names h L.letter L.are m.place m.first m.rest F.site m.comes
    x.0 x.1) e F.alike in
    (x.0, cons m.first m.rest, x.2, y.0, y.1, y.2)))

pub betas_are_families : BetasAreFamilies
betas_are_families τ T v ws r z own names h g n same heads journal places M d all =
    runs_are_of_families τ T v ws r z own (erased T) refl names h (net_of g) n same (is_start g n) heads journal places
    M d all
