-- Demand order is least.
use Rattle.std.proofs.Common.{◌≡◌, ℕ, suc, ◌≤◌, ◌⊎◌, inl, inr, List, [], ◌∷◌, length, refl, sym, ◌∙◌, subst, arith}
use Rattle.ol_law_edges.specs.Edges.{IsIn}
use Rattle.ol_invariance.proofs.Runs.{run_keeps as paths_kept}
use Rattle.ol_net.specs.Nets.{NamedNet, IsNet, net_under}
use Rattle.ol_context.specs.Contexts.{Context}
use Rattle.ol_rules.specs.declared.journal.NodeName.{NodeName}
use Rattle.ol_rules.specs.declared.journal.NodeName.TheVariants.{Init, Born}
use Rattle.ol_rules.specs.declared.journal.Entry.{Entry}
use Rattle.ol_rules.specs.Runs.{IsRun}
use Rattle.ol_rules.proofs.Relation.{same_sym}
use Rattle.ol_rules.proofs.Renaming.{net_alike}
use Rattle.ol_diamond.specs.Births.{BirthName, IsBirthNet}
use Rattle.ol_diamond.specs.Laws.{RunByBirths}
use Rattle.ol_diamond.specs.Runs.{BirthPair, IsSamePair, IsPairRun, pair_under, AreBirths}
use Rattle.ol_diamond.specs.Runs as pairs
use Rattle.ol_diamond.proofs.Confluence.{pair_sym, pair_trans}
use Rattle.ol_diamond.proofs.Journals.{IsBefore, on_before, still_before, Together, one_on, pair_is, by_number}
use Rattle.ol_diamond.proofs.Journals.{start_renamed, start_net, birth_follows, AreSamePairs, same_pairs}
use Rattle.ol_diamond.proofs.OneThreadRuns.{start_alike, run_net}
use Rattle.ol_diamond.proofs.Renaming.{IsRenamed, under_renamed, renamed_under}
use Rattle.ol_demand.specs.Laws.{IsStart, ArePairsOf}
use Rattle.ol_demand.proofs.Turning.{turns_kept}
use Rattle.ol_law_completeness.specs.Least.{Meets, MeetsNone, DemandIsLeast}
use Rattle.ol_law_completeness.proofs.Beside.{MetStep, MetRun, end, then, met_run}
use Rattle.ol_law_completeness.proofs.Frozen.{meets_of, none_same, meets_renamed, none_renamed}
use Rattle.ol_law_completeness.proofs.Fronts.{IsAmong, meets_or_among, front}
use Rattle.ol_diamond.proofs.OneThreadCounts.{as_many}

-- the run of a journal by birth names, each pair of which is among these
record LeastOn (M : NamedNet NodeName) (t : ℕ) (es : List Entry)
    (m : NodeName → BirthName) (B : NamedNet BirthName) (ps : List BirthPair) : Type 0 where
  pairs : List BirthPair
  after : NamedNet BirthName
  run : IsPairRun B pairs after
  names : NodeName → BirthName
  old : (x : NodeName) → IsBefore x t → names x ≡ m x
  births : AreBirths names t es pairs
  renames : IsRenamed names M after
  among : (q : BirthPair) → IsIn q pairs → IsAmong q ps
  few : length es ≤ length ps

alike : (p : BirthPair) (e : Entry) (m n : NodeName → BirthName) → n e.first ≡ m e.first →
    n e.second ≡ m e.second → IsSamePair p (pair_under m e) → IsSamePair p (pair_under n e)
alike p e m n x y (r, inl h) = (r, inl (h.0 ∙ sym x, h.1 ∙ sym y))
alike p e m n x y (r, inr h) = (r, inr (h.0 ∙ sym y, h.1 ∙ sym x))

module _ (P : NamedNet NodeName) where
  -- the pair that a chain meets is rewritten in the other run
  is_among : (N K : NamedNet NodeName) (t : ℕ) (e : Entry)
      (m : NodeName → BirthName) (B Q : NamedNet BirthName) (tg : Together N t m B)
      (x : MetStep P N t e K)
      (ps : List BirthPair) → IsPairRun B ps Q →
      ((p : ℕ) (c : Context) → MeetsNone P p c → MeetsNone Q p c) →
      IsAmong (one_on N K t e m B tg x.step).pair ps
  is_among N K t e m B Q tg x ps run none =
      by (meets_or_among B Q ps q tg.birth_net run x.port x.context met3)
    where
      q : BirthPair
      q = (one_on N K t e m B tg x.step).pair

      met3 : Meets B x.port x.context (one_on N K t e m B tg x.step).pair.f
          (one_on N K t e m B tg x.step).pair.g (one_on N K t e m B tg x.step).pair.rule
      met3 =
          let i = pair_is N K t e m B tg x.step in
          let y = meets_renamed m N B tg.net tg.renames x.port x.context x.step.f x.step.g e.rule
          (meets_of x.meets) in
          let y1 = subst (λ f. Meets B x.port x.context f (m x.step.g) e.rule) (sym i.0) y in
          let y2 = subst (λ g. Meets B x.port x.context (one_on N K t e m B tg x.step).pair.f g
          e.rule) (sym i.1) y1 in
          subst (λ r. Meets B x.port x.context (one_on N K t e m B tg x.step).pair.f
          (one_on N K t e m B tg x.step).pair.g r) (sym i.2) y2

      by : Meets Q x.port x.context (one_on N K t e m B tg x.step).pair.f
          (one_on N K t e m B tg x.step).pair.g (one_on N K t e m B tg x.step).pair.rule
          ⊎ IsAmong (one_on N K t e m B tg x.step).pair ps →
          IsAmong (one_on N K t e m B tg x.step).pair ps
      by (inl z) = absurd (none x.port x.context x.none _ _ _ z)
      by (inr z) = z

  least_on : (N M : NamedNet NodeName) (t : ℕ) (es : List Entry)
      (m : NodeName → BirthName) (B Q : NamedNet BirthName) → Together N t m B → MetRun P N t es M →
      (ps : List BirthPair) → IsPairRun B ps Q → ((p : ℕ) (c : Context) → MeetsNone P p c →
      MeetsNone Q p c) → LeastOn M t es m B ps
  least_on N M t [] m B Q tg end ps run none = record {
    pairs = [];
    after = B;
    run = pairs.IsPairRun.end;
    names = m;
    old = λ x h. refl;
    births = tt;
    renames = tg.renames;
    among = λ q i. absurd i;
    few = omega arith;
  }
  least_on N M t (e ∷ es) m B Q tg (then {K = K} x r) ps run none =
      let a = one_on N K t e m B tg x.step in
      let i = is_among N K t e m B Q tg x ps run none in
      let f = front B a.after Q a.pair ps tg.birth_net a.step run i in
      let b = least_on K M (suc t) es a.names a.after f.after a.on r f.rest f.run (λ p c l.
      none_same Q f.after f.same p c (none p c l)) in
      record {
        pairs = a.pair ∷ b.pairs;
        after = b.after;
        run = pairs.IsPairRun.then a.step b.run;
        names = b.names;
        old = λ y h. b.old y (still_before y t h) ∙ a.old y h;
        births = (
          alike a.pair e m b.names (b.old e.first (still_before e.first t a.first)
              ∙ a.old e.first a.first) (b.old e.second (still_before e.second t a.second)
              ∙ a.old e.second a.second) a.same,
          (λ place. b.old (Born t place) (on_before t place)
              ∙ a.new place),
          b.births,
        );
        renames = b.renames;
        among = among a.pair b.pairs i f.rest f.among b.among;
        few = let l = b.few in let w = f.shorter in omega arith;
      }
    where
      among : (p : BirthPair) (bs : List BirthPair) → IsAmong p ps → (rest : List BirthPair) →
          ((q : BirthPair) → IsIn q rest → IsIn q ps) → ((q : BirthPair) → IsIn q bs →
          IsAmong q rest) → (q : BirthPair) → IsIn q (p ∷ bs) → IsAmong q ps
      among p bs i rest sub later q (inl z) = subst (λ q. IsAmong q ps) (sym z) i
      among p bs i rest sub later q (inr z) = let t = later q z in (t.0, sub t.0 t.1, t.2)

-- one by one the same
find_same : (ps qs : List BirthPair) → AreSamePairs ps qs → (p : BirthPair) → IsIn p ps →
    (q : BirthPair) × IsIn q qs × IsSamePair p q
find_same [] [] h p i = absurd i
find_same [] (q ∷ qs) h p i = absurd i
find_same (a ∷ ps) [] h p i = absurd h
find_same (a ∷ ps) (b ∷ qs) h p (inl e) = (b, inl refl, subst (λ p. IsSamePair p b) (sym e) h.0)
find_same (a ∷ ps) (b ∷ qs) h p (inr i) = let t = find_same ps qs h.1 p i in (t.0, inr t.1, t.2)

module _ (N M P : NamedNet NodeName) (journal other : List Entry) (start : IsStart N)
    (run : IsRun N 0 journal M) (run' : IsRun N 0 other P) (met : MetRun P N 0 journal M)
    (s : RunByBirths N other P) where
  net_of_other : IsNet P
  net_of_other = run_net N P 0 other start.net start.named run'

  none_there : (p : ℕ) (c : Context) → MeetsNone P p c → MeetsNone s.after p c
  none_there p c l =
      none_same (net_under s.birth P) s.after (same_sym s.after (net_under s.birth P) s.same) p c
      (none_renamed s.birth P (net_under s.birth P) net_of_other (under_renamed s.birth P s.apart) p
      c l)

  together : Together N 0 by_number (net_under by_number N)
  together = record {
    net = start.net;
    before = start.named;
    birth_net = start_net N start.net start.named;
    renames = start_renamed N start.net start.named;
  }

  least : LeastOn M 0 journal by_number (net_under by_number N) s.pairs
  least = least_on P N M 0 journal by_number (net_under by_number N) s.after together met s.pairs
      (subst (λ B. IsPairRun B s.pairs s.after) (start_alike N start.net start.named s.birth
      by_number s.initial (λ k. refl)) s.run) none_there

  canonical : RunByBirths N journal M
  canonical =
      let a = least in
      let e : net_under a.names N ≡ net_under by_number N =
      net_alike a.names by_number N start.net (λ x k i h. a.old x (start.named x k i h)) in
      record {
        birth = a.names;
        initial = λ k. a.old (Init k) refl;
        pairs = a.pairs;
        births = a.births;
        start = subst (λ B. IsBirthNet B) (sym e) (start_net N start.net start.named);
        after = a.after;
        run = subst (λ B. IsPairRun B a.pairs a.after) (sym e) a.run;
        same = renamed_under a.names M a.after a.renames;
        apart = a.renames.apart;
      }

  pairs_of : (r : RunByBirths N journal M) → ArePairsOf r s
  unfolding canonical
  pairs_of r q i =
      let t = find_same r.pairs canonical.pairs (same_pairs N M journal start.net start.named run r
      canonical) q i in
      let u = least.among t.0 t.1 in
      (u.0, u.1, pair_trans u.0 t.0 q u.2 (pair_sym q t.0 t.2))

  no_longer : length journal ≤ length other
  no_longer = let a = least.few in let b = as_many s.birth 0 other s.pairs s.births in omega arith

pub demand_is_least : DemandIsLeast
demand_is_least N M P most heads turns journal other places a start clear below t run' e =
    let k = turns_kept start t in
    let same = paths_kept N P 0 other start.net start.named run' in
    let met =
    met_run P (run_net N P 0 other start.net start.named run') most heads below start clear same
    e t in
    let s0 = birth_follows N P other start.net start.named run' in (
      (λ r s. pairs_of N M P journal other start k.run run' met s r),
      no_longer N M P journal other start k.run run' met s0,
    )
