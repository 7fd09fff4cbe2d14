-- Demand order makes no more beta steps than leftmost reduction.
use Rattle.std.proofs.Common.{◌≡◌, ℕ, ◌<◌, ◌≤◌, List, [], ◌∷◌, ◌++◌, length, None, true, refl, sym}
use Rattle.std.proofs.Common.{ap, ◌∙◌, subst, arith}
use Rattle.std.proofs.lemmas.List.{length_push}
use Rattle.ol_beta.specs.Leftmost.{leftmost}
use Rattle.ol_context.specs.Asked.{asked}
use Rattle.ol_context.specs.Contexts.{Context, tail}
use Rattle.ol_context.specs.Paths.{HaveSamePaths}
use Rattle.ol_demand.specs.Answers.{start_of}
use Rattle.ol_demand.specs.Demands.{Asking, Turn, rewrites, one_more, finds, Turns, begins, and_then, next}
use Rattle.ol_demand.specs.Laws.{IsStart}
use Rattle.ol_demand.proofs.Onward.{is_start}
use Rattle.ol_law_edges.specs.Edges.{IsIn}
use Rattle.ol_law_meaning.specs.Contraction.{Tree}
use Rattle.ol_law_meaning.specs.Shows.{LeftmostReduces}
use Rattle.ol_law_meaning.proofs.Based.{tree_shows, shown_normal}
use Rattle.ol_law_meaning.proofs.Endings.{no_redex}
use Rattle.ol_law_meaning.proofs.Shapes.{normal_of}
use Rattle.ol_net.specs.Nets.{NamedNet, IsNet, SameNet, net_under}
use Rattle.ol_net.specs.Numbered.{net_of}
use Rattle.ol_net.specs.declared.parts.Rule.TheVariants as rule
use Rattle.ol_law_optimality.specs.RouteLaws as routes
use Rattle.ol_law_optimality.specs.Routes.{Route}
use Rattle.ol_law_optimality.specs.Seen.{IsSeen, IsQuestion}
use Rattle.ol_law_optimality.proofs.Asked.{demand_contracts_the_seen}
use Rattle.ol_law_optimality.proofs.Runs.{betas_are_routes}
use Rattle.ol_readback.specs.Frames.{Frame}
use Rattle.ol_readback.specs.Heads.{Answer, head, no_head}
use Rattle.ol_readback.specs.Heads as heads
use Rattle.ol_readback.specs.ReadTrees.{Subterm, whole_term, framed}
use Rattle.ol_readback.specs.Sources.{HasHeadsOf}
use Rattle.ol_readback.specs.Terms.{HasAllHeads, term_of}
use Rattle.ol_readback.specs.declared.answers.ReadNode.{ReadNode}
use Rattle.ol_readback.proofs.Forests.{heads_are_whole}
use Rattle.ol_readback.proofs.Kept.{heads_moved}
use Rattle.ol_law_levels.proofs.DemandPlaces.{demand_places}
use Rattle.ol_law_levels.proofs.Runs.{same_levelled, start_levelled}
use Rattle.ol_law_levels.proofs.Terms.{term_is_levelled}
use Rattle.ol_rules.specs.Counting.{times_applied}
use Rattle.ol_rules.specs.declared.journal.Entry.{Entry}
use Rattle.ol_rules.specs.declared.journal.NodeName.{NodeName}
use Rattle.ol_rules.specs.declared.journal.NodeName.TheVariants.{Init}
use Rattle.ol_rules.proofs.Relation.{same_sym}
use Rattle.ol_law_meaning.specs.Sites.{Site}
use Rattle.ol_law_meaning.specs.Spots.{at, place}
use Rattle.ol_term.specs.declared.translations.Translation.{Translation}
use Rattle.ol_translate.specs.Names.{HasNames}
use Rattle.ol_translate.specs.Translation.{translation_of}
use Rattle.ol_law_optimality.specs.Steps.{steps_of}
use Rattle.ol_law_optimality.specs.Leftmost.{IsSeenFromPlace, SeenOnPlacesIsFew, NeverMoreThanLeftmost}
use Rattle.ol_law_optimality.specs.Leftmost.{NeverMoreOnTheWay, NeverMoreWherePrinted, NeverMoreThanHead}
use Rattle.ol_law_optimality.proofs.Counted.{costs}
use Rattle.ol_law_optimality.proofs.Counting.{wanted_few}
use Rattle.ol_law_optimality.proofs.Few.{named, sites_of, seen_is_few}
use Rattle.ol_law_optimality.proofs.Meeting.{Comes}
use Rattle.ol_law_optimality.proofs.Questions.{question_asks}
use Rattle.ol_law_optimality.proofs.Wanted.{IsWanted}
use Rattle.ol_invariance.proofs.SameNets.{start_paths}

-- K has the term's own nodes and links, in whatever order its lists have them.
module _ (τ : Translation) (t : Tree) (names : ℕ) (h : HasNames t names) (K : NamedNet ℕ)
    (n : IsNet K) (same : SameNet K (translation_of τ t names)) (start : IsStart (net_under Init K)) where
  abbrev R : NamedNet NodeName
  R = net_under Init K

  paths : HaveSamePaths (translation_of τ t names) R
  paths = start_paths K (translation_of τ t names) n same

  -- different routes for the beta steps, each seen from a question
  record Contracted (many : ℕ) (journal : List Entry) : Type 0 where
    redexes : List (Route NodeName)
    different : routes.AreDifferent redexes
    count : length redexes ≡ times_applied rule.Beta journal
    seen : (s : Route NodeName) → IsIn s redexes → IsSeenFromPlace R many s

  contracted : {many turns : ℕ} {journal : List Entry} {places : List ReadNode}
      {M : NamedNet NodeName} {a : Asking} → Turns R many turns journal places M a → Contracted many journal
  contracted {many} {turns} {journal} {places} {M} {a} r =
      let d = demand_contracts_the_seen R M many turns journal places a start r in
      let b = betas_are_routes R M 0 journal start.net start.named d.0 in
      record {
        redexes = b.0;
        different = b.1;
        count = b.2;
        seen = λ u i. (let x = b.3 u i in d.1 x.1.0 u x.1.1);
      }

  wanted : (many p : ℕ) (c : Context) (q : Site) → IsQuestion R many p c →
      Comes τ t (at (place p) (c 0) (tail c)) q → IsWanted τ t q
  wanted many p c q k m = record {
    place = place p;
    first = c 0;
    rest = tail c;
    asks = question_asks τ t names h R start paths many p c k;
    comes = m;
  }

  pub seen_few : {v : Tree} (l : LeftmostReduces t v) → leftmost v ≡ None →
      (many : ℕ) (ss : List (Route NodeName)) → routes.AreDifferent ss →
      ((s : Route NodeName) → IsIn s ss → IsSeenFromPlace R many s) → length ss ≤ steps_of l
  seen_few l z many ss d f =
      let x = sites_of τ t names h R start.net (named K (translation_of τ t names) same)
      (IsQuestion R many) (IsWanted τ t) (wanted many) ss d f in
      let k = wanted_few τ (costs l z) x.sites x.different x.met in
      let c = x.count in
      omega arith

  pub never_more : {v : Tree} (l : LeftmostReduces t v) → leftmost v ≡ None →
      {many turns : ℕ} {journal : List Entry} {places : List ReadNode} {M : NamedNet NodeName}
      {a : Asking} → Turns R many turns journal places M a → times_applied rule.Beta journal ≤ steps_of l
  never_more l z {many = many} r =
      let k = contracted r in
      let f = seen_few l z many k.redexes k.different k.seen in
      let d = k.count in
      omega arith

pub seen_on_places_is_few : SeenOnPlacesIsFew
seen_on_places_is_few τ t v l z names h g n same many ss d f = seen_few τ t names h
    (net_of g) n same (is_start g n) l (no_redex v z) many ss d f

pub never_more_on_the_way : NeverMoreOnTheWay
never_more_on_the_way τ t v l z names h g n same many turns journal places M a r = never_more τ t
    names h (net_of g) n same (is_start g n) l (no_redex v z) r

pub never_more_than_leftmost : NeverMoreThanLeftmost
never_more_than_leftmost τ t v l z names h g n same many journal places M d = never_more τ t names h
    (net_of g) n same (is_start g n) l (no_redex v z) d.run

-- ---- where each place has a head

pub never_more_where_printed : NeverMoreWherePrinted
never_more_where_printed τ t names h g n same many journal places M d all =
    let p = paths τ t names h (net_of g) n same (is_start g n) in
    let levels = start_levelled (net_of g)
    (same_levelled (translation_of τ t names) (net_of g)
    (same_sym (net_of g) (translation_of τ t names) same) (term_is_levelled τ t names h)) in
    let w = heads_moved (start_of g) (translation_of τ t names)
    (λ q c r X. ((p q c r X).1, (p q c r X).0)) true
    (demand_places (start_of g) M many journal places (is_start g n) levels d) in
    let T = heads_are_whole (translation_of τ t names) true places w in
    let shown = tree_shows τ t names h true T.tree
    (subst (λ ns. HasHeadsOf (translation_of τ t names) true ns) (sym T.is_list) w) in
    let r = shown_normal t true T.tree shown (subst HasAllHeads (sym T.is_list) all) in (
      T.tree,
      T.is_list,
      r.0,
      r.1,
      never_more_than_leftmost τ t
          (term_of T.tree) r.0 r.1 names h g n same many journal places M d,
    )

-- ---- one head

-- as long as no place was found, the whole term is asked
abbrev pub IsFirst : Asking → Type 0
IsFirst a = length a.frames < 1 → a.waiting ≡ whole_term ∷ []

pub turn_first : {many ticket : ℕ} {M P : NamedNet NodeName} {a b : Asking} {es : List Entry}
    {ns : List ReadNode} → Turn many M ticket a es ns P b → IsFirst a → IsFirst b
turn_first (rewrites m) f = f
turn_first (one_more h l) f = f
turn_first (finds {F = F} {s = s} {ss = ss} {n = n} {a = a} h x) f = by a
  where
    no_more : (f : Frame) → length (F ++ f ∷ []) < 1 → ⊥
    no_more f b = let l = length_push F f in omega arith

    by : (a : Answer) → IsFirst (next F s ss a)
    by (head n' v k ls) b = absurd (no_more (framed s n') b)
    by no_head b = absurd (no_more (framed s 0) b)
    by heads.budget b = absurd (no_more (framed s 0) b)

pub turns_first : {N : NamedNet NodeName} {many turns : ℕ} {journal : List Entry}
    {places : List ReadNode} {M : NamedNet NodeName} {a : Asking} → Turns N many turns journal places M a → IsFirst a
turns_first begins b = refl
turns_first (and_then r t) b = turn_first t (turns_first r) b

pub head_question : {N : NamedNet NodeName} {p : ℕ} {c : Context} → IsQuestion N 1 p c →
    (p ≡ 0) × ((lams : ℕ) × (c ≡ asked [] lams))
head_question q =
    let e = turns_first q.made q.below in
    let s : q.subterm ≡ whole_term = cc in
    (q.port_is ∙ ap (λ (s : Subterm). s.port) s, (q.lams, q.context_is ∙ ap (λ (s : Subterm). asked s.levels q.lams) s))

pub never_more_than_head : NeverMoreThanHead
never_more_than_head τ t u m s z names h g n same turns journal places M a r =
    let k = contracted τ t names h (net_of g) n same (is_start g n) r in
    let y = normal_of z in
    let f = seen_is_few τ t u names h g n same m s y.0 y.1 y.2 y.3 k.redexes k.different (λ s i.
    let x = k.seen s i in
    let q = head_question x.2 in
    (q.1.0, subst (λ c. IsSeen (start_of g) 0 c s) q.1.1 (subst (λ p. IsSeen (start_of g) p x.1 s) q.0 x.3))) in
    let d = k.count in
    omega arith
