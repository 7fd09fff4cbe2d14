-- Asked for so many heads, where so many are there, demand order makes as many beta steps as head reduction at the first
-- places contracts different degrees.
use Rattle.std.proofs.Common.{◌≡◌, ℕ, ◌≤◌, ◌⊎◌, true, List, [], length, sym, ◌∙◌, subst}
use Rattle.ol_context.specs.Contexts.{Level, Context, cons, tail}
use Rattle.ol_demand.specs.Demands.{Asking, Turns, IsDemandRun}
use Rattle.ol_demand.specs.Laws.{IsStart}
use Rattle.ol_invariance.proofs.SameNets.{start_paths}
use Rattle.ol_law_edges.specs.Edges.{IsIn}
use Rattle.ol_law_optimality.proofs.Meeting.{Comes}
use Rattle.ol_net.specs.Nets.{NamedNet, IsNet, SameNet, net_under}
use Rattle.ol_net.specs.declared.parts.Rule.TheVariants as rule
use Rattle.ol_law_optimality.specs.Labels.{Label, Labelled, erased}
use Rattle.ol_law_optimality.specs.Seen.{IsQuestion}
use Rattle.ol_law_optimality.proofs.Asked.{demand_contracts_the_seen}
use Rattle.ol_law_optimality.proofs.Runs.{betas_are_routes}
use Rattle.ol_readback.specs.declared.answers.ReadNode.{ReadNode}
use Rattle.ol_rules.specs.Counting.{times_applied}
use Rattle.ol_rules.specs.declared.journal.Entry.{Entry}
use Rattle.ol_rules.specs.declared.journal.NodeName.{NodeName}
use Rattle.ol_rules.specs.declared.journal.NodeName.TheVariants.{Init}
use Rattle.ol_law_meaning.specs.Sites.{Site}
use Rattle.ol_law_meaning.specs.Spots.{Place, at, place}
use Rattle.ol_term.specs.Trees.{Tree}
use Rattle.ol_term.specs.declared.translations.Translation.{Translation}
use Rattle.ol_translate.specs.Names.{HasNames}
use Rattle.ol_translate.specs.Translation.{translation_of}
use Rattle.ol_law_optimality.specs.Families.{HaveOwnLetters}
use Rattle.ol_law_optimality.specs.HeadFamilies.{HasSoManyDifferent}
use Rattle.ol_law_optimality.specs.Readings.{word_of, AreAlike}
use Rattle.ol_law_optimality.specs.Signs.{signs_of}
use Rattle.ol_law_optimality.proofs.Exactly.{ToldBy, alike, apart, labels_of, seen_told, seen_here, exactly}
use Rattle.ol_law_optimality.proofs.Exactly.{start_is_levelled}
use Rattle.ol_law_optimality.proofs.Hearing.{AreLettered}
use Rattle.ol_law_optimality.proofs.Lettering.{lettering}
use Rattle.ol_law_optimality.proofs.MetSeen.{SeenBy, comes_seen}
use Rattle.ol_law_optimality.proofs.Phases.{HaveLetters}
use Rattle.ol_law_optimality.specs.Demand.{AreSoManyOf}
use Rattle.ol_law_optimality.proofs.FirstHeadsPlaces.{By, heads_by}
use Rattle.ol_law_optimality.proofs.FirstHeadsWanted.{asked_degree}
use Rattle.ol_law_optimality.proofs.FirstHeadsFound.{asked_found}
use Rattle.ol_law_optimality.proofs.FirstHeadsTurns.{question_at, is_answered}

module _ (τ : Translation) (many m : ℕ) (T : Labelled) (ws : List Label) (by : By true many T m ws)
    (names : ℕ) (h : HasNames (erased T) names) (K : NamedNet ℕ)
    (n : IsNet K) (same : SameNet K (translation_of τ (erased T) names)) (start : IsStart (net_under Init K))
    (letter : ℕ → ℕ → ℕ) (atoms : HaveLetters (translation_of τ (erased T) names) letter)
    (are : AreLettered τ letter T 0 0 0) where
  -- each redex that a question comes to has the word of a degree
  of_question : (p : ℕ) (c : Context) → IsQuestion (net_under Init K) many p c → (q : Site)
      (m : Comes τ (erased T) (at (place p) (c 0) (tail c)) q) → (d : Label) × IsIn d ws
      × AreAlike (word_of T q m.matched) (signs_of d)
  of_question p c k q z =
      let x = question_at τ (erased T) names h many (net_under Init K) start (start_is_levelled τ T names h K same)
      (start_paths K (translation_of τ (erased T) names) n same) m (heads_by τ by) p c k in
      asked_degree τ by q (
        record { place = place p; first = c 0; rest = tail c; asks = x.0; comes = z },
        x.1,
      )

  of_turns : {turns : ℕ} {journal : List Entry} {ps : List ReadNode} {M : NamedNet NodeName} {a : Asking} →
      Turns (net_under Init K) many turns journal ps M a → AreSoManyOf (times_applied rule.Beta journal) ws
  of_turns {turns} {journal} {ps} {M} {a} t =
      let d = demand_contracts_the_seen (net_under Init K) M many turns journal ps a start t in
      let b = betas_are_routes (net_under Init K) M 0 journal start.net start.named d.0 in
      let l = labels_of (ToldBy τ T names h K n same start letter atoms are)
      (alike τ T names h K n same start letter atoms are) (apart τ T names h K n same start letter atoms are) ws b.0 b.1
      (λ s i.
      let x = b.3 s i in
      let k = d.1 x.1.0 s x.1.1 in
      seen_told τ T names h K n same start letter atoms are s k.0 k.1 k.3 (λ d. IsIn d ws) (of_question k.0 k.1 k.2)) in
      (l.labels, l.different, l.within, sym b.2 ∙ l.count)

  at_port : (y : Place) (v : Level) (c : Context) (p : Site) (m : Comes τ (erased T) (at y v c) p) (q : ℕ) →
      y ≡ place q → SeenBy τ T names h letter are q (cons v c) (word_of T p m.matched)
  at_port y v c p m q e = subst (λ y. (m : Comes τ (erased T) (at y v c) p) →
      SeenBy τ T names h letter are q (cons v c) (word_of T p m.matched)) (sym e) (λ m. comes_seen τ T names h letter are
      q v c p m) m

  of_run : {turns : ℕ} {journal : List Entry} {ps : List ReadNode} {M : NamedNet NodeName} {a : Asking} →
      Turns (net_under Init K) many turns journal ps M a → (a.waiting ≡ []) ⊎ (many ≤ length a.frames) →
      HasSoManyDifferent ws (times_applied rule.Beta journal)
  of_run t over =
      exactly τ T names h K n same start letter atoms are ws t of_question
      (λ e i.
      let F = asked_found τ by e i in
      let w = F.wanted in
      let x = is_answered τ (erased T) names h many (net_under Init K) start (start_is_levelled τ T names h K same)
      (start_paths K (translation_of τ (erased T) names) n same) m (heads_by τ by) t over w.place w.first w.rest w.asks
      F.is_at F.close F.reached in
      let y = seen_here τ T names h K n same start letter atoms are x.0 (cons w.first w.rest)
      (word_of T F.site w.comes.matched) (at_port w.place w.first w.rest F.site w.comes x.0 x.1) e F.alike in
      (x.0, cons w.first w.rest, x.2, y.0, y.1, y.2))

-- ---- a run of any net that is the term's up to names, for the term that T is without labels

abbrev pub TurnsHaveFamilies : Translation → ℕ → List Label → Tree → Type 0
TurnsHaveFamilies τ many ws t = (names : ℕ) → HasNames t names → (K : NamedNet ℕ) → IsNet K →
    SameNet K (translation_of τ t names) → IsStart (net_under Init K) →
    (turns : ℕ) (journal : List Entry) (places : List ReadNode) (M : NamedNet NodeName)
    (a : Asking) → Turns (net_under Init K) many turns journal places M a →
    AreSoManyOf (times_applied rule.Beta journal) ws

pub turns_have_families : (τ : Translation) (many m : ℕ) (T : Labelled) (ws : List Label) → By true many T m ws →
    HaveOwnLetters T → (t : Tree) → erased T ≡ t → TurnsHaveFamilies τ many ws t
turns_have_families τ many m T ws by own t e = subst (TurnsHaveFamilies τ many ws) e
    (λ names h K n same start turns journal places M a r.
    let L = lettering τ T names own in
    of_turns τ many m T ws by names h K n same start L.letter L.atoms L.are r)

abbrev pub RunsHaveFamilies : Translation → ℕ → List Label → Tree → Type 0
RunsHaveFamilies τ many ws t = (names : ℕ) → HasNames t names → (K : NamedNet ℕ) → IsNet K →
    SameNet K (translation_of τ t names) → IsStart (net_under Init K) →
    (journal : List Entry) (places : List ReadNode) (M : NamedNet NodeName) →
    IsDemandRun (net_under Init K) many journal places M →
    HasSoManyDifferent ws (times_applied rule.Beta journal)

pub runs_have_families : (τ : Translation) (many m : ℕ) (T : Labelled) (ws : List Label) → By true many T m ws →
    HaveOwnLetters T → (t : Tree) → erased T ≡ t → RunsHaveFamilies τ many ws t
runs_have_families τ many m T ws by own t e = subst (RunsHaveFamilies τ many ws) e
    (λ names h K n same start journal places M d.
    let L = lettering τ T names own in
    of_run τ many m T ws by names h K n same start L.letter L.atoms L.are d.run d.over)
