-- The beta steps of a demand run are the families of leftmost reduction, one by one.
use Rattle.std.proofs.Common.{◌≡◌, ℕ, List, [], ◌∷◌, ◌++◌, refl, sym, ap, ◌∙◌, subst}
use Rattle.ol_context.specs.Contexts.{Context, tail}
use Rattle.ol_demand.specs.Demands.{Asking, Turns}
use Rattle.ol_demand.specs.Laws.{IsStart}
use Rattle.ol_demand.proofs.Onward.{is_start}
use Rattle.ol_invariance.proofs.SameNets.{start_paths}
use Rattle.ol_law_edges.specs.Edges.{IsIn}
use Rattle.ol_law_optimality.proofs.Meeting.{Comes}
use Rattle.ol_law_optimality.proofs.Questions.{question_asks}
use Rattle.ol_law_meaning.proofs.Endings.{no_redex}
use Rattle.ol_net.specs.Nets.{NamedNet, IsNet, SameNet, net_under}
use Rattle.ol_net.specs.Numbered.{net_of}
use Rattle.ol_law_optimality.specs.Labels.{Label, Labelled, erased}
use Rattle.ol_law_optimality.specs.Routes.{Crossing, rise, fall, Route}
use Rattle.ol_law_optimality.specs.Seen.{IsSeen, IsQuestion, IsAnswered}
use Rattle.ol_law_optimality.proofs.Asked.{betas_of_demand}
use Rattle.ol_readback.specs.Terms.{HasAllHeads}
use Rattle.ol_readback.specs.declared.answers.ReadNode.{ReadNode}
use Rattle.ol_rules.specs.Runs.{IsRun}
use Rattle.ol_rules.specs.declared.journal.Entry.{Entry}
use Rattle.ol_rules.specs.declared.journal.NodeName.{NodeName}
use Rattle.ol_rules.specs.declared.journal.NodeName.TheVariants.{Init}
use Rattle.ol_law_meaning.specs.Sites.{Site}
use Rattle.ol_law_meaning.specs.Spots.{at, place}
use Rattle.ol_term.specs.declared.translations.Translation.{Translation}
use Rattle.ol_translate.specs.Names.{HasNames}
use Rattle.ol_translate.specs.Translation.{translation_of}
use Rattle.ol_law_optimality.specs.Entries.{start_row, start_route, SpellsLabel, ContractsEachFamilyOnce}
use Rattle.ol_law_optimality.specs.Entries.{BetasSpellFamilies}
use Rattle.ol_law_optimality.specs.Readings.{word_of, AreAlike}
use Rattle.ol_law_optimality.specs.Signs.{letter_of, onward, signs_of}
use Rattle.ol_law_optimality.proofs.AllFamilies.{asked_all, at_port}
use Rattle.ol_law_optimality.proofs.Answering.{is_answered}
use Rattle.ol_law_optimality.proofs.DegreesWanted.{degree_found}
use Rattle.ol_law_optimality.proofs.Exactly as ex
use Rattle.ol_law_optimality.proofs.Hearing.{AreLettered}
use Rattle.ol_law_optimality.proofs.Lettering.{lettering}
use Rattle.ol_law_optimality.proofs.Phases.{HaveLetters}
use Rattle.ol_law_optimality.proofs.Told.{row_under, route_under}
use Rattle.ol_law_optimality.proofs.Wanting.{wanted_degree}

row_start : (w : List (Crossing ℕ)) → start_row w ≡ row_under Init w
row_start [] = refl
row_start (rise x s ∷ w) = ap (λ v. rise (Init x) s ∷ v) (row_start w)
row_start (fall x s ∷ w) = ap (λ v. fall (Init x) s ∷ v) (row_start w)

route_start : (s : Route ℕ) → start_route s ≡ route_under Init s
route_start s = ap (λ w. record { from = Init s.from; row = w; to = Init s.to }) (row_start s.row)

module _ (τ : Translation) (T : Labelled) (names : ℕ) (h : HasNames (erased T) names) (K : NamedNet ℕ)
    (n : IsNet K) (same : SameNet K (translation_of τ (erased T) names)) (start : IsStart (net_under Init K))
    (letter : ℕ → ℕ → ℕ) (atoms : HaveLetters (translation_of τ (erased T) names) letter)
    (are : AreLettered τ letter T 0 0 0) where
  abbrev Told : Route NodeName → Label → Type 0
  Told s d = ex.ToldBy τ T names h K n same start letter atoms are s d

  abbrev Spelt : Route NodeName → Label → Type 0
  Spelt s d = SpellsLabel (translation_of τ (erased T) names) letter s d

  to_told : (s : Route NodeName) (d : Label) → Spelt s d → Told s d
  to_told s d x = (
    onward (letter_of (letter x.route.from 0)) ∷ x.signs,
    record {
      route = x.route;
      is = x.is ∙ route_start x.route;
      has = x.has;
      signs = x.signs;
      signed = x.signed;
      alike = λ r y. refl;
    },
    x.alike,
  )

  of_told : (s : Route NodeName) (d : Label) → Told s d → Spelt s d
  of_told s d t = record {
    route = t.1.route;
    is = t.1.is ∙ sym (route_start t.1.route);
    has = t.1.has;
    signs = t.1.signs;
    signed = t.1.signed;
    alike = λ r x. t.1.alike r x ∙ t.2 r x;
  }

  pub each_one : (ds : List Label) {many turns : ℕ} {journal : List Entry} {ps : List ReadNode}
      {M : NamedNet NodeName} {a : Asking} → (t : Turns (net_under Init K) many turns journal ps M a) →
      ((p : ℕ) (c : Context) → IsQuestion (net_under Init K) many p c → (q : Site)
      (m : Comes τ (erased T) (at (place p) (c 0) (tail c)) q) → (d : Label) × IsIn d ds
      × AreAlike (word_of T q m.matched) (signs_of d)) →
      ((d : Label) → IsIn d ds → (p : ℕ) × (c : Context) × IsAnswered t p c
      × (s : Route NodeName) × IsSeen (net_under Init K) p c s × Told s d) →
      (r : IsRun (net_under Init K) 0 journal M) × ContractsEachFamilyOnce (translation_of τ (erased T) names) letter r ds
  each_one ds {many} {turns} {journal} {ps} {M} {a} t f g =
      let L = ex.start_is_levelled τ T names h K same in
      let d = betas_of_demand (net_under Init K) M many turns journal ps a start L t in (
        d.0,
        record {
          each = λ k s b.
              let q = d.1 k s b in
              let x = ex.seen_told τ T names h K n same start letter atoms are s q.0 q.1 q.3 (λ d. IsIn d ds)
              (f q.0 q.1 q.2) in
              (x.0, x.1, of_told s x.0 x.2);
          one = λ s d e x y. ex.alike τ T names h K n same start letter atoms are s d e (to_told s d x) (to_told s e y);
          apart = λ s u d x y. ex.apart τ T names h K n same start letter atoms are s u d (to_told s d x) (to_told u d y);
          all = λ e j.
              let x = g e j in
              let y = d.2 x.0 x.1 x.2 x.3 x.4 in
              (y.0, x.3, y.1, of_told x.3 e x.5);
        },
      )

pub betas_spell_families : BetasSpellFamilies
betas_spell_families τ T v ws r z own names h g n same heads journal places M d all =
    let K = net_of g in
    let start = is_start g n in
    let L = lettering τ T names own in
    let w = asked_all d.asked_places d.last.waiting (subst HasAllHeads d.all all) in
    let paths = start_paths K (translation_of τ (erased T) names) n same in
    let one =
    each_one τ T names h K n same start L.letter L.atoms L.are ws d.run
    (λ p c k q m. wanted_degree τ T v ws r (no_redex (erased v) z) q (record {
      place = place p;
      first = c 0;
      rest = tail c;
      asks = question_asks τ (erased T) names h (net_under Init K) start paths heads p c k;
      comes = m;
    }))
    (λ e i.
    let F = degree_found τ T v ws r e i in
    let m = F.wanted in
    let x = is_answered τ (erased T) names h (net_under Init K) heads M d.turns journal d.asked_places d.last start
    paths d.run w.1 w.0 m.place m.first m.rest m.asks F.close F.reached in
    let y = ex.seen_here τ T names h K n same start L.letter L.atoms L.are x.0 _
    (word_of T F.site m.comes.matched) (at_port τ T names h L.letter L.are m.place m.first m.rest F.site m.comes
    x.0 x.1) e F.alike in
    (x.0, _, x.2, y.0, y.1, y.2)) in
    (L.letter, one.0, one.1)
