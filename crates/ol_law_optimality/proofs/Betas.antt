-- Demand order makes no more beta steps for one head than there are families.
use Rattle.std.proofs.Common.{◌≡◌, ℕ, suc, None, inl, inr, List, [], ◌∷◌, length, refl, sym, ap, ◌∙◌, subst}
use Rattle.ol_beta.specs.Leftmost.{IsNormal, leftmost}
use Rattle.ol_context.specs.Asked.{asked}
use Rattle.ol_context.specs.Contexts.{tail}
use Rattle.ol_demand.specs.Demands.{Asking, Turns}
use Rattle.ol_demand.specs.Laws.{IsStart}
use Rattle.ol_demand.proofs.Onward.{is_start}
use Rattle.ol_law_edges.specs.Edges.{IsIn}
use Rattle.ol_context.specs.Paths.{HaveSamePaths}
use Rattle.ol_law_optimality.specs.Leftmost.{IsSeenFromPlace}
use Rattle.ol_law_optimality.proofs.Questions.{question_asks}
use Rattle.ol_law_optimality.proofs.Never.{head_question}
use Rattle.ol_law_optimality.proofs.Wanted.{IsWanted}
use Rattle.ol_invariance.proofs.SameNets.{start_paths}
use Rattle.ol_law_meaning.specs.Spots.{place}
use Rattle.ol_term.specs.Trees.{Tree}
use Rattle.ol_law_optimality.proofs.Few.{named}
use Rattle.ol_law_optimality.proofs.SitesSeen.{IsNamed, met_at}
use Rattle.ol_law_meaning.proofs.Endings.{no_redex}
use Rattle.ol_law_meaning.proofs.Shapes.{normal_of}
use Rattle.ol_net.specs.Nets.{NamedNet, IsNet, SameNet, net_under}
use Rattle.ol_net.specs.Numbered.{net_of}
use Rattle.ol_net.specs.declared.parts.Rule.TheVariants as rule
use Rattle.ol_law_optimality.specs.Labels.{Label, Labelled, erased, LeftmostContracts}
use Rattle.ol_law_optimality.specs.RouteLaws as routes
use Rattle.ol_law_optimality.specs.Routes.{Route}
use Rattle.ol_law_optimality.specs.Seen.{IsSeen}
use Rattle.ol_law_optimality.proofs.Asked.{demand_contracts_the_seen}
use Rattle.ol_law_optimality.proofs.Runs.{betas_are_routes}
use Rattle.ol_readback.specs.declared.answers.ReadNode.{ReadNode}
use Rattle.ol_rules.specs.Counting.{times_applied}
use Rattle.ol_rules.specs.declared.journal.Entry.{Entry}
use Rattle.ol_rules.specs.declared.journal.NodeName.{NodeName}
use Rattle.ol_rules.specs.declared.journal.NodeName.TheVariants.{Init}
use Rattle.ol_term.specs.declared.translations.Translation.{Translation}
use Rattle.ol_translate.specs.Names.{HasNames}
use Rattle.ol_translate.specs.Translation.{translation_of}
use Rattle.ol_law_optimality.specs.Families.{NoMoreBetasThanFamilies, BetasAreNoMoreThanFamilies, HaveOwnLetters}
use Rattle.ol_law_optimality.proofs.Hearing.{AreLettered}
use Rattle.ol_law_optimality.specs.Readings.{Met, word_met, word_of, AreAlike, AreDifferent, HaveDifferentWords}
use Rattle.ol_law_optimality.specs.Signs.{Signs, signs_of}
use Rattle.ol_law_optimality.proofs.Phases.{HaveLetters}
use Rattle.ol_law_optimality.proofs.Families.{no_more_than_families}
use Rattle.ol_law_optimality.proofs.Wanting.{wanted_degree}
use Rattle.ol_law_optimality.proofs.Lettering.{lettering}
use Rattle.ol_law_optimality.proofs.Told.{IsTold, told, told_one}

module _ (τ : Translation) (T : Labelled) (names : ℕ) (h : HasNames (erased T) names) (M : NamedNet NodeName)
    (n : IsNet M) (I : IsNamed Init (translation_of τ (erased T) names) M)
    (letter : ℕ → ℕ → ℕ) (atoms : HaveLetters (translation_of τ (erased T) names) letter)
    (are : AreLettered τ letter T 0 0 0) where
  abbrev met_of : (s : Route NodeName) (lams : ℕ) → IsSeen M 0 (asked [] lams) s → Met τ T
  met_of s lams S =
      let a = met_at Init M n τ (erased T) names h I s 0 (asked [] lams) S in (
        a.at_site.site,
        record {
          matched = a.comes.matched;
          lams = lams;
          first = tail (asked [] lams);
          level = a.comes.level;
          later = a.comes.later;
          steps = a.comes.steps;
          way = a.comes.way;
        },
      )

  abbrev Told : Route NodeName → Signs → Type 0
  Told s v = IsTold Init M n τ T names h I letter are s v

  -- the redexes of different routes, with different words
  record Words (ss : List (Route NodeName)) : Type 0 where
    redexes : List (Met τ T)
    different : HaveDifferentWords T redexes
    count : length ss ≡ length redexes
    back : (x : Met τ T) → IsIn x redexes → (s : Route NodeName) × IsIn s ss × Told s (word_met T x)

  more : (s : Route NodeName) (ss : List (Route NodeName)) → routes.AreDifferent (s ∷ ss) → Words ss →
      (x : Met τ T) → Told s (word_met T x) → Words (s ∷ ss)
  more s ss d r x t = record {
    redexes = x ∷ r.redexes;
    different = (
      (λ y i same.
          let b = r.back y i in
          let e = told_one Init M n τ T names h I letter are atoms s b.0 (word_met T x) (word_met T y) t b.2 same in
          d.0 (subst (λ u. IsIn u ss) (sym e) b.1)),
      r.different,
    );
    count = ap suc r.count;
    back = back';
  }
    where
      back' : (y : Met τ T) → IsIn y (x ∷ r.redexes) → (u : Route NodeName) × IsIn u (s ∷ ss) × Told u (word_met T y)
      back' y (inl e) = (s, inl refl, subst (λ y. Told s (word_met T y)) (sym e) t)
      back' y (inr i) = let b = r.back y i in (b.0, inr b.1, b.2)

  words_of : (ss : List (Route NodeName)) → routes.AreDifferent ss →
      ((s : Route NodeName) → IsIn s ss → (lams : ℕ) × IsSeen M 0 (asked [] lams) s) → Words ss
  words_of [] d f = record { redexes = []; different = tt; count = refl; back = λ x i. absurd i }
  words_of (s ∷ ss) d f =
      let S = f s (inl refl) in
      let a = met_at Init M n τ (erased T) names h I s 0 (asked [] S.0) S.1 in
      more s ss d (words_of ss d.1 (λ u i. f u (inr i))) (met_of s S.0 S.1)
      (told Init M n τ T names h I letter are s S.1.redex 0 (asked [] S.0) a)

-- ---- its beta steps

module _ (τ : Translation) (T : Labelled) (names : ℕ) (h : HasNames (erased T) names) (K : NamedNet ℕ)
    (n : IsNet K) (same : SameNet K (translation_of τ (erased T) names)) (start : IsStart (net_under Init K))
    (letter : ℕ → ℕ → ℕ) (atoms : HaveLetters (translation_of τ (erased T) names) letter)
    (are : AreLettered τ letter T 0 0 0) where
  contracted : {turns : ℕ} {journal : List Entry} {places : List ReadNode}
      {M : NamedNet NodeName} {a : Asking} → Turns (net_under Init K) 1 turns journal places M a →
      (xs : List (Met τ T)) × HaveDifferentWords T xs × (times_applied rule.Beta journal ≡ length xs)
  contracted {turns} {journal} {places} {M} {a} r =
      let d = demand_contracts_the_seen (net_under Init K) M 1 turns journal places a start r in
      let b = betas_are_routes (net_under Init K) M 0 journal start.net start.named d.0 in
      let w = words_of τ T names h (net_under Init K) start.net (named K (translation_of τ
      (erased T) names) same) letter atoms are
      b.0 b.1 (λ s i.
      let x = b.3 s i in
      let k = d.1 x.1.0 s x.1.1 in
      let q = head_question k.2 in (
        q.1.0,
        subst (λ c. IsSeen (net_under Init K) 0 c s) q.1.1 (subst (λ p. IsSeen
            (net_under Init K) p k.1 s) q.0 k.3),
      )) in
      (w.redexes, w.different, sym b.2 ∙ w.count)

pub no_more_betas_than_families : NoMoreBetasThanFamilies
no_more_betas_than_families τ T V ds s z own names h g n same turns journal places M a r =
    let L = lettering τ T names own in
    let x = contracted τ T names h (net_of g) n same (is_start g n) L.letter L.atoms L.are r in
    let y = normal_of z in
    let f = no_more_than_families τ T V ds s y.0 y.1 y.2 y.3 x.0 x.1 in
    (f.0, f.1, f.2, x.2 ∙ sym f.3)

-- ---- whatever number of heads is asked for

module _ (τ : Translation) (t : Tree) (names : ℕ) (h : HasNames t names) (K : NamedNet ℕ)
    (n : IsNet K) (same : SameNet K (translation_of τ t names)) (start : IsStart (net_under Init K)) where
  paths : HaveSamePaths (translation_of τ t names) (net_under Init K)
  paths = start_paths K (translation_of τ t names) n same

module _ (τ : Translation) (T v : Labelled) (ws : List Label) (r : LeftmostContracts T ws v) (z : leftmost
    (erased v) ≡ None)
    (names : ℕ) (h : HasNames (erased T) names) (K : NamedNet ℕ)
    (n : IsNet K) (same : SameNet K (translation_of τ (erased T) names)) (start : IsStart (net_under Init K))
    (letter : ℕ → ℕ → ℕ) (atoms : HaveLetters (translation_of τ (erased T) names) letter)
    (are : AreLettered τ letter T 0 0 0) where
  abbrev R : NamedNet NodeName
  R = net_under Init K

  I : IsNamed Init (translation_of τ (erased T) names) (net_under Init K)
  I = named K (translation_of τ (erased T) names) same

  abbrev ToldBy : Route NodeName → Label → Type 0
  ToldBy s e = (g : Signs) × IsTold Init (net_under Init K) start.net τ T names h I letter are s g × AreAlike g
      (signs_of e)

  record Labels (ss : List (Route NodeName)) : Type 0 where
    degrees : List Label
    different : AreDifferent degrees
    within : (e : Label) → IsIn e degrees → IsIn e ws
    count : length ss ≡ length degrees
    back : (e : Label) → IsIn e degrees → (s : Route NodeName) × IsIn s ss × ToldBy s e

  add : (s : Route NodeName) (ss : List (Route NodeName)) → routes.AreDifferent (s ∷ ss) → Labels ss →
      (e : Label) → IsIn e ws → ToldBy s e → Labels (s ∷ ss)
  add s ss d x e i t = record {
    degrees = e ∷ x.degrees;
    different = (
      (λ j.
          let b = x.back e j in
          let q = told_one Init (net_under Init K) start.net τ T names h I letter are atoms s b.0 t.0 b.2.0 t.1 b.2.1
          (λ r y. t.2 r y ∙ sym (b.2.2 r y)) in
          d.0 (subst (λ u. IsIn u ss) (sym q) b.1)),
      x.different,
    );
    within = in';
    count = ap suc x.count;
    back = back';
  }
    where
      in' : (f : Label) → IsIn f (e ∷ x.degrees) → IsIn f ws
      in' f (inl q) = subst (λ f. IsIn f ws) (sym q) i
      in' f (inr j) = x.within f j

      back' : (f : Label) → IsIn f (e ∷ x.degrees) → (u : Route NodeName) × IsIn u (s ∷ ss) × ToldBy u f
      back' f (inl q) = (s, inl refl, subst (ToldBy s) (sym q) t)
      back' f (inr j) = let b = x.back f j in (b.0, inr b.1, b.2)

  labels_of : (many : ℕ) (ss : List (Route NodeName)) → routes.AreDifferent ss →
      ((s : Route NodeName) → IsIn s ss → IsSeenFromPlace (net_under Init K) many s) → Labels ss
  labels_of many [] d f = record {
    degrees = [];
    different = tt;
    within = λ e i. absurd i;
    count = refl;
    back = λ e i. absurd i;
  }
  labels_of many (s ∷ ss) d f =
      let x = f s (inl refl) in
      let a = met_at Init (net_under Init K) start.net τ (erased T) names h I s x.0 x.1 x.3 in
      let m : IsWanted τ (erased T) a.at_site.site = record {
        place = place x.0;
        first = x.1 0;
        rest = tail x.1;
        asks = question_asks τ (erased T) names h (net_under Init K) start
            (paths τ (erased T) names h K n same start) many x.0 x.1 x.2;
        comes = a.comes;
      } in
      let w = wanted_degree τ T v ws r z a.at_site.site m in
      add s ss d (labels_of many ss d.1 (λ u i. f u (inr i))) w.0 w.1 (
        word_of T a.at_site.site a.comes.matched,
        told Init (net_under Init K) start.net τ T names h I letter are s x.3.redex x.0 x.1 a,
        w.2,
      )

  degrees_of : {many turns : ℕ} {journal : List Entry} {places : List ReadNode}
      {M : NamedNet NodeName} {a : Asking} → Turns (net_under Init K) many turns journal places M a →
      (es : List Label) × AreDifferent es × ((e : Label) → IsIn e es → IsIn e ws)
      × (times_applied rule.Beta journal ≡ length es)
  degrees_of {many} {turns} {journal} {places} {M} {a} t =
      let d = demand_contracts_the_seen (net_under Init K) M many turns journal places a start t in
      let b = betas_are_routes (net_under Init K) M 0 journal start.net start.named d.0 in
      let l = labels_of many b.0 b.1 (λ s i. (let x = b.3 s i in d.1 x.1.0 s x.1.1)) in
      (l.degrees, l.different, l.within, sym b.2 ∙ l.count)

-- the same of a run of any net that is this one up to names, for the term that T is without labels
abbrev RunsHaveFamilies : Translation → List Label → Tree → Type 0
RunsHaveFamilies τ ws t = (names : ℕ) → HasNames t names → (K : NamedNet ℕ) → IsNet K →
    SameNet K (translation_of τ t names) → IsStart (net_under Init K) →
    (many turns : ℕ) (journal : List Entry) (places : List ReadNode) (M : NamedNet NodeName) (a : Asking) →
    Turns (net_under Init K) many turns journal places M a →
    (es : List Label) × AreDifferent es × ((e : Label) → IsIn e es → IsIn e ws)
    × (times_applied rule.Beta journal ≡ length es)

pub runs_have_families : (τ : Translation) (T v : Labelled) (ws : List Label) → LeftmostContracts T ws v →
    IsNormal (erased v) → HaveOwnLetters T → (t : Tree) → erased T ≡ t → RunsHaveFamilies τ ws t
runs_have_families τ T v ws s z own t e = subst (RunsHaveFamilies τ ws) e
    (λ names h K n same start many turns journal places M a r.
    let L = lettering τ T names own in
    degrees_of τ T v ws s (no_redex (erased v) z) names h K n same start L.letter L.atoms L.are r)

pub betas_are_no_more_than_families : BetasAreNoMoreThanFamilies
betas_are_no_more_than_families τ T v ws s z own names h g n same heads turns journal places M a r =
    let L = lettering τ T names own in
    degrees_of τ T v ws s (no_redex (erased v) z) names h (net_of g) n same (is_start g n) L.letter L.atoms L.are r
