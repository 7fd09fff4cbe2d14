-- A run along a journal whose nets have weights, entry by entry, tells the journal's waves.
use Rattle.std.proofs.Common.{◌≡◌, ℕ, suc, ◌+◌, List, [], ◌∷◌, ◌++◌, length, inl, inr, refl, sym, ap, ◌∙◌, subst, arith}
use Rattle.ol_net.specs.Nets.{NamedNet, IsNet, net_under}
use Rattle.ol_rules.specs.declared.journal.NodeName.{NodeName}
use Rattle.ol_rules.specs.declared.journal.NodeName.TheVariants.{Init, Born}
use Rattle.ol_rules.specs.declared.journal.Entry.{Entry}
use Rattle.ol_rules.specs.Laws.{AreNamedBefore}
use Rattle.ol_rules.specs.Names.{IsNamed}
use Rattle.ol_rules.specs.Runs.{IsEntryStep, IsRun}
use Rattle.ol_rules.specs.Runs as runs
use Rattle.ol_rules.proofs.OneRun.{fresh_names}
use Rattle.ol_rules.proofs.Renaming.{net_alike}
use Rattle.ol_diamond.specs.Births.{BirthName, born, IsBirthNet}
use Rattle.ol_diamond.specs.Runs.{BirthPair, IsSamePair, IsPairRun, pair_under, AreBirths}
use Rattle.ol_diamond.specs.Runs as pairs
use Rattle.ol_diamond.specs.Laws.{RunByBirths}
use Rattle.ol_diamond.specs.Waves.{WeightedNet, weightless, IsWaveStep, AreWaves}
use Rattle.ol_diamond.proofs.Confluence.{rename}
use Rattle.ol_diamond.proofs.Renaming.{IsRenamed, renamed_under}
use Rattle.ol_diamond.proofs.Journals.{IsBefore, on_before, still_before, Together, one_on, pair_is}
use Rattle.ol_diamond.proofs.Journals.{by_number, start_apart, start_renamed, start_net}
use Rattle.ol_diamond.proofs.WavesTold.{Told, are_waves}
use Rattle.ol_diamond.proofs.WavesTold as told

-- the step of an entry between nets with weights
pub record IsWaveEntry (N : WeightedNet NodeName) (t : ℕ) (e : Entry) (wave : ℕ)
    (M : WeightedNet NodeName) : Type 0 where
  pub f : NodeName
  pub g : NodeName
  pub named : IsNamed e f g
  pub step : IsWaveStep (λ place. Born t place) N f g e.rule wave M

-- M is N after these entries in order, the first of which has this ticket, each in its wave
pub data WavedRun : WeightedNet NodeName → ℕ → List Entry → List ℕ → WeightedNet NodeName → Type 0 where
  ends : {N : WeightedNet NodeName} {t : ℕ} → WavedRun N t [] [] N
  goes : {N M P : WeightedNet NodeName} {t : ℕ} {e : Entry} {es : List Entry} {w : ℕ} {ws : List ℕ} →
      IsWaveEntry N t e w M → WavedRun M (suc t) es ws P → WavedRun N t (e ∷ es) (w ∷ ws) P

pub entry_of : (N : WeightedNet NodeName) (t : ℕ) (e : Entry) (w : ℕ) (M : WeightedNet NodeName) →
    IsWaveEntry N t e w M → IsEntryStep N.net t e M.net
entry_of N t e w M s = record { f = s.f; g = s.g; named = s.named; step = s.step.step }

-- one entry more
pub waved_on : (N P M : WeightedNet NodeName) (t u : ℕ) (es : List Entry) (ws : List ℕ) (e : Entry)
    (w : ℕ) → t + length es ≡ u → WavedRun N t es ws P → IsWaveEntry P u e w M →
    WavedRun N t (es ++ e ∷ []) (ws ++ w ∷ []) M
waved_on N P M t u [] [] e w h ends s = let q : u ≡ t = omega arith in
    goes (subst (λ u. IsWaveEntry N u e w M) q s) ends
waved_on N P M t u [] (v ∷ ws) e w h r s = elim r [ ]
waved_on N P M t u (d ∷ es) [] e w h r s = elim r [ ]
waved_on N P M t u (d ∷ es) (v ∷ ws) e w h (goes {M = K} x r) s = goes x
    (waved_on K P M (suc t) u es ws e w (omega arith) r s)

-- without its weights
pub run_of : (N P : WeightedNet NodeName) (t : ℕ) (es : List Entry) (ws : List ℕ) →
    WavedRun N t es ws P → IsRun N.net t es P.net
run_of N P t [] [] ends = runs.IsRun.end
run_of N P t [] (v ∷ ws) r = elim r [ ]
run_of N P t (d ∷ es) [] r = elim r [ ]
run_of N P t (d ∷ es) (v ∷ ws) (goes {M = K} x r) = runs.IsRun.then (entry_of N t d v K x) (run_of K P (suc t) es ws r)

-- ---- by birth names

record WavedOn (N : WeightedNet NodeName) (t : ℕ) (es : List Entry) (ws : List ℕ)
    (P : WeightedNet NodeName) (m : NodeName → BirthName) (B : NamedNet BirthName) : Type 0 where
  pairs : List BirthPair
  after : NamedNet BirthName
  run : IsPairRun B pairs after
  names : NodeName → BirthName
  old : (x : NodeName) → IsBefore x t → names x ≡ m x
  births : AreBirths names t es pairs
  net : IsNet P.net
  renames : IsRenamed names P.net after
  told : Told names N pairs ws P

alike : (e : Entry) (p : BirthPair) (m n : NodeName → BirthName) → n e.first ≡ m e.first →
    n e.second ≡ m e.second → IsSamePair p (pair_under m e) → IsSamePair p (pair_under n e)
alike e p m n x y (r, inl h) = (r, inl (h.0 ∙ sym x, h.1 ∙ sym y))
alike e p m n x y (r, inr h) = (r, inr (h.0 ∙ sym y, h.1 ∙ sym x))

waved_along : (N P : WeightedNet NodeName) (t : ℕ) (es : List Entry) (ws : List ℕ)
    (m : NodeName → BirthName) (B : NamedNet BirthName) → Together N.net t m B →
    WavedRun N t es ws P → WavedOn N t es ws P m B
unfolding entry_of
waved_along N P t [] [] m B tg ends =
    record {
      pairs = [];
      after = B;
      run = pairs.IsPairRun.end;
      names = m;
      old = λ x h. refl;
      births = tt;
      net = tg.net;
      renames = tg.renames;
      told = told.Told.end;
    }
waved_along N P t [] (v ∷ ws) m B tg r = elim r [ ]
waved_along N P t (d ∷ es) [] m B tg r = elim r [ ]
waved_along N P t (e ∷ es) (w ∷ ws) m B tg (goes {M = K} s r) =
    let x = entry_of N t e w K s in
    let a = one_on N.net K.net t e m B tg x in
    let b = waved_along K P (suc t) es ws a.names a.after a.on r in
    let old : (x : NodeName) → IsBefore x t → b.names x ≡ m x = λ x h. b.old x (still_before x t h) ∙ a.old x h in
    let act = s.step.step.active in
    let of_f : b.names s.f ≡ m s.f = old s.f (tg.before s.f act.k act.i act.faces.first) in
    let of_g : b.names s.g ≡ m s.g = old s.g (tg.before s.g act.l act.j act.faces.second) in
    let here : BirthPair = record { f = b.names s.f; g = b.names s.g; rule = e.rule } in
    let p = pair_is N.net K.net t e m B tg x in
    let is : a.pair ≡ here = rename a.pair here (p.0 ∙ sym of_f) (p.1 ∙ sym of_g) p.2 in
    record {
      pairs = a.pair ∷ b.pairs;
      after = b.after;
      run = pairs.IsPairRun.then a.step b.run;
      names = b.names;
      old = old;
      births = (
        alike e a.pair m b.names (old e.first a.first) (old e.second a.second) a.same,
        (λ place. b.old (Born t place) (on_before t place) ∙ a.new place),
        b.births,
      );
      net = b.net;
      renames = b.renames;
      told = subst (λ p. Told b.names N (p ∷ b.pairs) (w ∷ ws) P) (sym is)
          (told.Told.then s.step (fresh_names N.net t tg.before)
          (λ n. b.old (Born t n) (on_before t n) ∙ a.new n
          ∙ ap (λ (p : BirthPair). born p.f p.g n) is) a.on.net b.told);
    }

pub waves_of_run : (N : NamedNet NodeName) (P : WeightedNet NodeName) (journal : List Entry)
    (ws : List ℕ) → IsNet N → AreNamedBefore N 0 → WavedRun (weightless N) 0 journal ws P → AreWaves N journal P.net ws
waves_of_run N P journal ws net before r =
    let a = waved_along (weightless N) P 0 journal ws by_number (net_under by_number N)
    (record {
      net = net;
      before = before;
      birth_net = start_net N net before;
      renames = start_renamed N net before;
    }) r in
    let e : net_under a.names N ≡ net_under by_number N = net_alike a.names by_number N net
    (λ x k i h. a.old x (before x k i h)) in
    let b : RunByBirths N journal P.net = record {
      birth = a.names;
      initial = λ k. a.old (Init k) refl;
      pairs = a.pairs;
      births = a.births;
      start = subst (λ B. IsBirthNet B) (sym e) (start_net N net before);
      after = a.after;
      run = subst (λ B. IsPairRun B a.pairs a.after) (sym e) a.run;
      same = renamed_under a.names P.net a.after a.renames;
      apart = a.renames.apart;
    } in
    are_waves a.names N P.net journal b N P ws refl net
    (λ x y k l i j h h' q. start_apart N net before x y k l i j h h'
    (sym (a.old x (before x k i h)) ∙ q ∙ a.old y (before y l j h')))
    a.told
