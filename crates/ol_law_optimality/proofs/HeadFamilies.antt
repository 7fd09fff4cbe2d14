-- Demand order makes as many beta steps for a head as there are families.
use Rattle.std.proofs.Common.{◌≡◌, ℕ, inl, inr, List, [], ◌∷◌, ◌++◌, map, length, refl, sym, ap, ◌∙◌, subst, arith}
use Rattle.ol_context.specs.Asked.{asked}
use Rattle.ol_context.specs.Contexts.{Context, tail}
use Rattle.ol_context.specs.Paths.{Path}
use Rattle.ol_demand.specs.Answers.{start_of}
use Rattle.ol_demand.specs.Chains.{End, left, Ends}
use Rattle.ol_demand.specs.Demands.{Asking, IsFound, exits, lost, spent, place_of, Turn, rewrites, one_more, finds}
use Rattle.ol_demand.specs.Demands.{Turns, begins, and_then}
use Rattle.ol_demand.specs.Laws.{IsStart}
use Rattle.ol_demand.proofs.Chains.{path_at}
use Rattle.ol_demand.proofs.Onward.{is_start}
use Rattle.ol_demand.proofs.Turning.{turns_kept}
use Rattle.ol_law_edges.specs.Edges.{IsIn}
use Rattle.ol_law_edges.proofs.Lists.{in_cases}
use Rattle.ol_law_optimality.specs.Met.{IsMet}
use Rattle.ol_law_optimality.proofs.Meeting.{Comes}
use Rattle.ol_law_levels.specs.Asked.{HasAskedHeadsOf}
use Rattle.ol_law_levels.specs.Asked as asked_for
use Rattle.ol_law_levels.proofs.DemandPlaces.{demand_tells}
use Rattle.ol_law_meaning.proofs.HeadSteps.{step_then}
use Rattle.ol_law_meaning.specs.Shows as tree
use Rattle.ol_law_meaning.proofs.Based.{term_seen}
use Rattle.ol_law_meaning.proofs.Endless.{comes_to_none}
use Rattle.ol_law_meaning.proofs.Shapes.{normal_of}
use Rattle.ol_law_meaning.proofs.Showing.{no_head_is}
use Rattle.ol_law_meaning.proofs.Walking.{least_or}
use Rattle.ol_net.specs.Nets.{free, NamedNet, IsNet, SameNet, net_under}
use Rattle.ol_net.specs.Numbered.{net_of}
use Rattle.ol_net.specs.declared.parts.Rule.TheVariants as rule
use Rattle.ol_law_optimality.specs.Labels.{Label, Labelled, erased}
use Rattle.ol_law_optimality.specs.Routes.{Route}
use Rattle.ol_law_optimality.specs.Seen.{IsSeen, IsQuestion, IsAnswered}
use Rattle.ol_readback.specs.Heads.{Answer, no_head, IsHead}
use Rattle.ol_readback.proofs.Kept.{heads_are_kept}
use Rattle.ol_invariance.proofs.SameNets.{start_paths}
use Rattle.ol_readback.specs.Frames.{Frame}
use Rattle.ol_readback.specs.ReadTrees.{Subterm, whole_term, framed}
use Rattle.ol_readback.specs.declared.answers.HeadVar.{HeadVar}
use Rattle.ol_readback.specs.declared.answers.ReadNode.{ReadNode}
use Rattle.ol_readback.specs.declared.answers.ReadNode.TheVariants as places
use Rattle.ol_rules.specs.Counting.{times_applied}
use Rattle.ol_rules.specs.declared.journal.Entry.{Entry}
use Rattle.ol_rules.specs.declared.journal.NodeName.{NodeName}
use Rattle.ol_rules.specs.declared.journal.NodeName.TheVariants.{Init}
use Rattle.ol_law_meaning.specs.Sites.{Site}
use Rattle.ol_law_meaning.specs.Spots.{root, at, place}
use Rattle.ol_term.specs.declared.translations.Translation.{Translation}
use Rattle.ol_translate.specs.Names.{HasNames}
use Rattle.ol_translate.specs.Translation.{translation_of}
use Rattle.ol_law_optimality.specs.HeadFamilies.{HasSoManyDifferent, BetasAreHeadFamilies}
use Rattle.ol_law_optimality.specs.Readings.{word_of, AreAlike, HeadReduces, ready, contract}
use Rattle.ol_law_optimality.specs.Signs.{signs_of}
use Rattle.ol_law_optimality.proofs.Never.{turns_first, head_question}
use Rattle.ol_law_optimality.proofs.Exactly.{start_is_levelled, seen_here, exactly}
use Rattle.ol_law_optimality.proofs.Hearing.{AreLettered}
use Rattle.ol_law_optimality.proofs.HeadWords.{step_of, words_are_degrees}
use Rattle.ol_law_optimality.proofs.Lettering.{lettering}
use Rattle.ol_law_optimality.proofs.MetSeen.{met_seen}
use Rattle.ol_law_optimality.proofs.Phases.{HaveLetters}
use Rattle.ol_law_optimality.proofs.WordSources.{degrees_are_words}
use Rattle.ol_law_optimality.proofs.Wider.{wider, narrower}

-- ---- the question that finds the head

module _ (N : NamedNet NodeName) (start : IsStart N) (lams args : ℕ) (v : HeadVar) where
  record Found {M : NamedNet NodeName} {turns : ℕ} {journal : List Entry} {ps : List ReadNode} {a : Asking}
      (t : Turns N 1 turns journal ps M a) : Type 0 where
    asks_for : ℕ
    answered : IsAnswered t 0 (asked [] asks_for)
    port : ℕ
    after : Context
    path : Path N (free 0) (asked [] asks_for) port after

  earlier : {M P : NamedNet NodeName} {turns : ℕ} {journal es : List Entry} {ps ns : List ReadNode} {a b : Asking}
      {r : Turns N 1 turns journal ps M a} {t : Turn 1 M (length journal) a es ns P b} → Found r →
      Found (and_then r t)
  earlier f = record {
    asks_for = f.asks_for;
    answered = inl f.answered;
    port = f.port;
    after = f.after;
    path = f.path;
  }

  exit_of : {M : NamedNet NodeName} {F : List Frame} {s : Subterm} {n : ℕ} {end : End NodeName} {a : Answer} →
      IsFound M F s n end a → places.Head lams v args ≡ place_of a → (q : ℕ) × (X : Context) × (end ≡ left q X)
  exit_of (exits {q = q} {X = X} m) e = (q, X, refl)
  exit_of (lost l) e = absurd (cc)
  exit_of spent e = absurd (cc)

  first_of : {x y : ReadNode} → IsIn x (y ∷ []) → x ≡ y
  first_of (inl e) = e
  first_of (inr i) = absurd i

  now : {M P : NamedNet NodeName} {turns : ℕ} {journal es : List Entry} {ps ns : List ReadNode} {a b : Asking} →
      (r : Turns N 1 turns journal ps M a) (t : Turn 1 M (length journal) a es ns P b) →
      IsIn (places.Head lams v args) ns → Found (and_then r t)
  now r (rewrites m) i = absurd i
  now r (one_more h l) i = absurd i
  now {M = M} r (finds {F = F} {s = s} {ss = ss} {n = n} {end = end} {a = a} h f) i =
      let x = exit_of f (first_of i) in
      let w : s ∷ ss ≡ whole_term ∷ [] = turns_first r h.below in
      let z : s ≡ whole_term = cc in
      let p = ap (λ (s : Subterm). s.port) z in
      let c = ap (λ (s : Subterm). asked s.levels n) z in
      let ends : Ends M 0 (asked [] n) (left x.0 x.1) = subst (λ e. Ends M 0 (asked [] n) e) x.2
      (subst (λ c. Ends M 0 c end) c (subst (λ p. Ends M p (asked s.levels n) end) p h.ends)) in
      let k = turns_kept start r in
      record {
        asks_for = n;
        answered = inr (sym p, sym c, inl (x.0, x.1, ends));
        port = x.0;
        after = x.1;
        path = (k.paths 0 (asked [] n) x.0 x.1).1 (path_at M k.net 0 (asked [] n) x.0 x.1 ends);
      }

  found : {M : NamedNet NodeName} {turns : ℕ} {journal : List Entry} {ps : List ReadNode} {a : Asking} →
      (t : Turns N 1 turns journal ps M a) → IsIn (places.Head lams v args) ps → Found t
  found begins i = absurd i
  found (and_then {places = ps} {ns = ns} r t) i =
      elim (in_cases (places.Head lams v args) ps ns i) [ inl j ↦ earlier (found r j) | inr j ↦ now r t j ]

-- the first place is among those that were asked, where it isn't cut
asked_head : (lams args : ℕ) (v : HeadVar) (rest ps : List ReadNode) (ss : List Subterm) →
    places.Head lams v args ∷ rest ≡ ps ++ map (λ s. places.Cut) ss → IsIn (places.Head lams v args) ps
asked_head lams args v rest [] [] e = absurd (cc)
asked_head lams args v rest [] (s ∷ ss) e = absurd (cc)
asked_head lams args v rest (p ∷ ps) ss e = inl (let q : places.Head lams v args ≡ p = cc in q)

-- ---- the head's beta steps

module _ (τ : Translation) (T : Labelled) (names : ℕ) (h : HasNames (erased T) names) (K : NamedNet ℕ)
    (n : IsNet K) (same : SameNet K (translation_of τ (erased T) names)) (start : IsStart (net_under Init K))
    (letter : ℕ → ℕ → ℕ) (atoms : HaveLetters (translation_of τ (erased T) names) letter)
    (are : AreLettered τ letter T 0 0 0) (ds : List Label)
    (degree : (p : Site) (m : IsMet τ (erased T) p) → (d : Label) × IsIn d ds
    × AreAlike (word_of T p m.matched) (signs_of d))
    (word : (d : Label) → IsIn d ds → (p : Site) × (m : IsMet τ (erased T) p)
    × AreAlike (word_of T p m.matched) (signs_of d)) where
  -- a walk that asks the root comes to what is met
  asked_degree : (p : ℕ) (c : Context) → IsQuestion (net_under Init K) 1 p c → (q : Site) →
      (m : Comes τ (erased T) (at (place p) (c 0) (tail c)) q) → (d : Label) × IsIn d ds
      × AreAlike (word_of T q m.matched) (signs_of d)
  asked_degree p c k q = by p c z.0 z.1.0 z.1.1
    where
      z : (p ≡ 0) × ((lams : ℕ) × (c ≡ asked [] lams))
      z = head_question k

      by : (p : ℕ) (c : Context) → p ≡ 0 → (l : ℕ) → c ≡ asked [] l →
          (m : Comes τ (erased T) (at (place p) (c 0) (tail c)) q) → (d : Label) × IsIn d ds
          × AreAlike (word_of T q m.matched) (signs_of d)
      by p c e l f = subst (λ p. (m : Comes τ (erased T) (at (place p) (c 0) (tail c)) q) → (d : Label) × IsIn d ds
          × AreAlike (word_of T q m.matched) (signs_of d)) (sym e)
          (subst (λ (c : Context). (m : Comes τ (erased T) (at root (c 0) (tail c)) q) → (d : Label) × IsIn d ds
          × AreAlike (word_of T q m.matched) (signs_of d)) (sym f)
          (λ m. degree q (record {
            matched = m.matched;
            lams = l;
            first = tail (asked [] l);
            level = m.level;
            later = m.later;
            steps = m.steps;
            way = m.way;
          })))

  -- the question that finds the head sees all
  asked_for_head : (k l q : ℕ) (X : Context) → Path (net_under Init K) (free 0) (asked [] k) q X → (s : Route NodeName) →
      IsSeen (net_under Init K) 0 (asked [] l) s → IsSeen (net_under Init K) 0 (asked [] k) s
  asked_for_head k l q X r s S = elim (least_or k l) [
    | inl few ↦ wider (net_under Init K) start.net (start_is_levelled τ T names h K same) l k s (omega (arith, few)) S
    | inr enough ↦ narrower (net_under Init K) start.net (start_is_levelled τ T names h K same) k l s enough q X r S
  ]

  as_many : (lams args : ℕ) (v : HeadVar) {turns : ℕ} {journal : List Entry} {ps : List ReadNode}
      {M : NamedNet NodeName} {a : Asking} → Turns (net_under Init K) 1 turns journal ps M a →
      IsIn (places.Head lams v args) ps → HasSoManyDifferent ds (times_applied rule.Beta journal)
  as_many lams args v t i =
      let f = found (net_under Init K) start lams args v t i in
      exactly τ T names h K n same start letter atoms are ds t asked_degree
      (λ d j.
      let w = word d j in
      let x = seen_here τ T names h K n same start letter atoms are 0 (asked [] w.1.lams)
      (word_of T w.0 w.1.matched) (met_seen τ T names h letter are w.0 w.1) d w.2 in
      (0, asked [] f.asks_for, f.answered, x.0, asked_for_head f.asks_for w.1.lams f.port f.after f.path x.0 x.1, x.2))

-- ---- the run finds a head

-- labelled head steps are head steps
tree_steps : (τ : Translation) {T V : Labelled} {ds : List Label} → HeadReduces T ds V →
    tree.HeadReduces (erased T) (erased V)
tree_steps τ ready = tree.ready
tree_steps τ {V = V} (contract h r) =
    let k = step_of τ h in
    step_then k.step (subst (λ t. tree.HeadReduces t (erased V)) (sym k.is) (tree_steps τ r))

-- the first place has a head
first_head : (N : NamedNet NodeName) (ns : List ReadNode) →
    (IsHead N (framed whole_term 0 ∷ []) 0 no_head → ⊥) → HasAskedHeadsOf N 1 ns →
    (lams : ℕ) × (args : ℕ) × (v : HeadVar) × (rest : List ReadNode) × (ns ≡ places.Head lams v args ∷ rest)
first_head N ns f (asked_for.past b) = absurd (omega (arith, b))
first_head N ns f (asked_for.cut b h r) = absurd (f h)
first_head N ns f (asked_for.lost b h r) = absurd (f h)
first_head N ns f (asked_for.found {ns = rest} {n = n} {k = k} {v = v} b h r) = (n, k, v, rest, refl)

pub betas_are_head_families : BetasAreHeadFamilies
betas_are_head_families τ T V ds s z own names h g n same journal ps M d =
    let L = lettering τ T names own in
    let y = normal_of z in
    let N = translation_of τ (erased T) names in
    let paths = start_paths (net_of g) N n same in
    let back = heads_are_kept (start_of g) N (λ p c q X. ((paths p c q X).1, (paths p c q X).0))
    (framed whole_term 0 ∷ []) 0 no_head in
    let lost : IsHead (start_of g) (framed whole_term 0 ∷ []) 0 no_head → ⊥ = λ x. comes_to_none (erased T) (erased V)
    (no_head_is [] whole_term (term_seen τ (erased T) names h) refl (back x)) (tree_steps τ s) z in
    let levels = start_is_levelled τ T names h (net_of g) same in
    let f = first_head (start_of g) ps lost (demand_tells (start_of g) M 1 journal ps (is_start g n) levels d) in
    as_many τ T names h (net_of g) n same (is_start g n) L.letter L.atoms L.are ds
    (λ p m. words_are_degrees τ T V ds s y.0 y.1 y.2 y.3 p m) (λ e i. degrees_are_words τ T V ds s e i) f.0 f.1 f.2
    d.run (asked_head f.0 f.1 f.2 f.3 d.asked_places d.last.waiting (sym f.4 ∙ d.all))
