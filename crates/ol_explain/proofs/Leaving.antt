-- The pairs that are left after a run: what was found node by node, with the waves that a replay gives of the first.
use Rattle.std.proofs.Common.{◌≡◌, ℕ, zero, suc, ◌+◌, ◌-◌, ◌≤◌, List, [], ◌∷◌, ◌++◌, length, take, drop, inl, inr, refl}
use Rattle.std.proofs.Common.{sym, ap, ◌∙◌, subst, arith, append_assoc, length-drop, Some}
use Rattle.std.proofs.lemmas.List.{drop_at, take_all}
use Rattle.std.specs.Prelude.{slice_get}
use Rattle.ol_law_edges.specs.Edges.{IsIn}
use Rattle.ol_net.specs.Graph.{Graph}
use Rattle.ol_net.specs.Nets.{NamedNet, IsNet}
use Rattle.ol_net.specs.Numbered.{net_of}
use Rattle.ol_rules.specs.declared.journal.NodeName.{NodeName}
use Rattle.ol_rules.specs.declared.journal.Entry.{Entry}
use Rattle.ol_rules.specs.Laws.{AreNamedBefore}
use Rattle.ol_rules.specs.Runs.{IsRun}
use Rattle.ol_rules.proofs.OneEnd.{one_end, step_net, step_before}
use Rattle.ol_rules.proofs.Relation.{same_refl, same_sym}
use Rattle.ol_rules.proofs.StartNets.{start_net, start_named}
use Rattle.ol_diamond.specs.Waves.{WeightedNet, weightless, AreWaves, IsWavesOf}
use Rattle.ol_diamond.proofs.OneStep.{last_step}
use Rattle.ol_diamond.proofs.OneThreadRuns.{run_net}
use Rattle.ol_diamond.proofs.WaveEntries.{WavedRun, waved_on, run_of, waves_of_run}
use Rattle.ol_diamond.proofs.WaveRuns.{waved_of, waves_to}
use Rattle.ol_diamond.proofs.WeightedJournals.{journal_has_one_waves}
use Rattle.ol_view.specs.EachForm.{wave_line_text, wave_lines_text}
use Rattle.ol_view.specs.Checks.{start_net_of_graph}
use Rattle.ol_view.proofs.Finding.{last_is}
use Rattle.ol_view.proofs.WaveTraces.{wave_lines_on}
use Rattle.ol_explain.specs.Left.{GoesOnWith, AreInOrder, AreLeft, lines_of, more_text, left_text}
use Rattle.ol_explain.specs.Found.{IsOfPair}
use Rattle.ol_orders.specs.Replays.{AreRising}
use Rattle.ol_explain.proofs.Waits.{AllWait, of_step, pair_same, run_all}
use Rattle.ol_explain.proofs.Alone.{balanced, balanced_first, IsNext, AllNext, all_next, others_next, parted}

-- ---- entries and their waves, side by side

abbrev pub zipped : List Entry → List ℕ → List (Entry × ℕ)
zipped [] ws = []
zipped (e ∷ es) [] = []
zipped (e ∷ es) (w ∷ ws) = (e, w) ∷ zipped es ws

pub lines_zipped : (es : List Entry) (ws : List ℕ) → lines_of (zipped es ws) ≡ wave_lines_text es ws
lines_zipped [] ws = refl
lines_zipped (e ∷ es) [] = refl
lines_zipped (e ∷ es) (w ∷ ws) = ap (λ bs. wave_line_text e w ++ bs) (lines_zipped es ws)

in_first : (es : List Entry) (ws : List ℕ) (q : Entry × ℕ) → IsIn q (zipped es ws) → IsIn q.0 es
in_first [] ws q h = absurd h
in_first (e ∷ es) [] q h = absurd h
in_first (e ∷ es) (w ∷ ws) q (inl h) = inl (ap (λ (p : Entry × ℕ). p.0) h)
in_first (e ∷ es) (w ∷ ws) q (inr h) = inr (in_first es ws q h)

in_order : (es : List Entry) (ws : List ℕ) → AreRising es → AreInOrder (zipped es ws)
in_order [] ws h = tt
in_order (e ∷ es) [] h = tt
in_order (e ∷ es) (w ∷ ws) h = ((λ q i. h.0 q.0 (in_first es ws q i)), in_order es ws h.1)

module _ (N : WeightedNet NodeName) (t : ℕ) where
  comes_next : (es : List Entry) (ws : List ℕ) → AllNext N t es ws → (e : Entry) (w : ℕ) →
      IsIn (e, w) (zipped es ws) → IsNext N t e w
  comes_next [] ws h e w i = absurd i
  comes_next (d ∷ es) [] h e w i = absurd i
  comes_next (d ∷ es) (v ∷ ws) h e w (inl q) =
      let p : e ≡ d = ap (λ (p : Entry × ℕ). p.0) q in
      let r : w ≡ v = ap (λ (p : Entry × ℕ). p.1) q in
      subst (λ e. IsNext N t e w) (sym p) (subst (λ w. IsNext N t d w) (sym r) h.0)
  comes_next (d ∷ es) (v ∷ ws) h e w (inr i) = comes_next es ws h.1 e w i

  its_wave : (es : List Entry) (ws : List ℕ) → AllNext N t es ws → (e : Entry) → IsIn e es →
      (w : ℕ) × IsIn (e, w) (zipped es ws)
  its_wave [] ws h e i = absurd i
  its_wave (d ∷ es) [] h e i = absurd h
  its_wave (d ∷ es) (v ∷ ws) h e (inl q) = (v, inl (ap (λ (d : Entry). (d, v)) q))
  its_wave (d ∷ es) (v ∷ ws) h e (inr i) = let x = its_wave es ws h.1 e i in (x.0, inr x.1)

  pub as_many : (es : List Entry) (ws : List ℕ) → AllNext N t es ws → length (zipped es ws) ≡ length es
  as_many [] [] h = refl
  as_many [] (w ∷ ws) h = absurd h
  as_many (e ∷ es) [] h = absurd h
  as_many (e ∷ es) (w ∷ ws) h = ap suc (as_many es ws h.1)

  -- the first ones and the others
  pub both : (k : ℕ) (es : List Entry) (vs ws : List ℕ) → AllNext N t (take k es) vs → AllNext N t (drop k es) ws →
      AllNext N t es (vs ++ ws) × (take k (zipped es (vs ++ ws)) ≡ zipped (take k es) vs)
  both zero es [] ws h h' = (h', refl)
  both zero es (v ∷ vs) ws h h' = absurd h
  both (suc k) [] [] ws h h' = (h', refl)
  both (suc k) [] (v ∷ vs) ws h h' = absurd h
  both (suc k) (e ∷ es) [] ws h h' = absurd h
  both (suc k) (e ∷ es) (v ∷ vs) ws h h' =
      let x = both k es vs ws h.1 h' in
      ((h.0, x.0), ap (λ ps. (e, v) ∷ ps) x.1)

-- ---- lists of entries

pub wait_first : (N : NamedNet NodeName) (k : ℕ) (es : List Entry) → AllWait N es → AllWait N (take k es)
wait_first N zero es h e i = absurd i
wait_first N (suc k) [] h e i = absurd i
wait_first N (suc k) (d ∷ es) h e (inl q) = h e (inl q)
wait_first N (suc k) (d ∷ es) h e (inr i) = wait_first N k es (λ x i. h x (inr i)) e i

pub wait_rest : (N : NamedNet NodeName) (k : ℕ) (es : List Entry) → AllWait N es → AllWait N (drop k es)
wait_rest N zero es h = h
wait_rest N (suc k) [] h = h
wait_rest N (suc k) (d ∷ es) h = wait_rest N k es (λ x i. h x (inr i))

in_taken : (k : ℕ) (es : List Entry) (e : Entry) → IsIn e (take k es) → IsIn e es
in_taken zero es e i = absurd i
in_taken (suc k) [] e i = absurd i
in_taken (suc k) (d ∷ es) e (inl q) = inl q
in_taken (suc k) (d ∷ es) e (inr i) = inr (in_taken k es e i)

pub rising_first : (k : ℕ) (es : List Entry) → AreRising es → AreRising (take k es)
rising_first zero es h = tt
rising_first (suc k) [] h = tt
rising_first (suc k) (e ∷ es) h = ((λ d i. h.0 d (in_taken k es d i)), rising_first k es h.1)

-- ---- pieces

pub got_behind : (ws : List ℕ) (n k : ℕ) → slice_get ws (n + k) ≡ slice_get (drop n ws) k
got_behind ws zero k = ap (slice_get ws) (let q : 0 + k ≡ k = omega arith in q)
got_behind [] (suc n) k = refl
got_behind (w ∷ ws) (suc n) k = ap (slice_get (w ∷ ws)) (let q : suc n + k ≡ suc (n + k) = omega arith in q)
    ∙ got_behind ws n k

-- one line more
pub line_on : (es : List Entry) (ws : List ℕ) (n k : ℕ) (e : Entry) (w : ℕ) (b0 b b' : List ℕ) →
    slice_get es k ≡ Some e → slice_get ws (n + k) ≡ Some w →
    b ≡ b0 ++ wave_lines_text (take k es) (take k (drop n ws)) → b' ≡ b ++ wave_line_text e w →
    b' ≡ b0 ++ wave_lines_text (take (k + 1) es) (take (k + 1) (drop n ws))
line_on es ws n k e w b0 b b' h h' q q' =
    q' ∙ ap (λ bs. bs ++ wave_line_text e w) q
    ∙ append_assoc b0 (wave_lines_text (take k es) (take k (drop n ws))) (wave_line_text e w)
    ∙ ap (λ bs. b0 ++ bs) (sym (wave_lines_on es (drop n ws) k e w h (sym (got_behind ws n k) ∙ h')))
    ∙ ap (λ k. b0 ++ wave_lines_text (take k es) (take k (drop n ws)))
    (let q : suc k ≡ k + 1 = omega arith in q)

-- after the last line
pub all_lines : (es : List Entry) (ws : List ℕ) (n k : ℕ) (b0 b : List ℕ) → length ws ≡ n + length es →
    length es ≤ k → b ≡ b0 ++ wave_lines_text (take k es) (take k (drop n ws)) →
    b ≡ b0 ++ wave_lines_text es (drop n ws)
all_lines es ws n k b0 b count l q = q
    ∙ ap (λ es. b0 ++ wave_lines_text es (take k (drop n ws))) (take_all k es l)
    ∙ ap (λ ws. b0 ++ wave_lines_text es ws) (take_all k (drop n ws) (omega (arith, length-drop n ws)))

-- ---- after a run

run_both : (N M P : NamedNet NodeName) (t : ℕ) (js es : List Entry) → IsRun N t js M →
    IsRun M (t + length js) es P → IsRun N t (js ++ es) P
run_both N M P t [] es IsRun.end r = let q : t + 0 ≡ t = omega arith in subst (λ t. IsRun N t es P) q r
run_both N M P t (j ∷ js) es (IsRun.then {M = K} s r) r' =
    let q : t + suc (length js) ≡ suc t + length js = omega arith in
    IsRun.then s (run_both K M P (suc t) js es r (subst (λ t. IsRun M t es P) q r'))

-- its nodes were named before
run_before : (N M : NamedNet NodeName) (t : ℕ) (es : List Entry) → IsNet N → AreNamedBefore N t →
    IsRun N t es M → AreNamedBefore M (t + length es)
run_before N M t [] n b IsRun.end = let q : t ≡ t + 0 = omega arith in subst (AreNamedBefore N) q b
run_before N M t (e ∷ es) n b (IsRun.then {M = K} s r) =
    let q : suc t + length es ≡ t + suc (length es) = omega arith in
    subst (AreNamedBefore M) q (run_before K M (suc t) es (step_net N N K K t e e n b (same_refl N) s)
    (step_before N N K K t e e n b (same_refl N) s) r)

-- how the run goes on, where these are all pairs that are left, and the first 20 were rewritten in these waves
pub record Leaves (old : Graph) (journal : List Entry) (N : NamedNet NodeName) (all : List Entry) (list : List ℕ)
    : Type 0 where
  pub waves : List ℕ
  pub waves_are : AreWaves (start_net_of_graph old) journal N waves
  pub pairs : List (Entry × ℕ)
  pub left : AreLeft (start_net_of_graph old) journal waves pairs
  pub told : lines_of (take 20 pairs) ≡ wave_lines_text (take 20 all) (drop (length journal) list)
  pub count : length pairs ≡ length all

module _ (old : Graph) (old_net : IsNet (net_of old)) (journal : List Entry) (N : NamedNet NodeName)
    (run : IsRun (start_net_of_graph old) 0 journal N) where
  abbrev start : NamedNet NodeName
  start = start_net_of_graph old

  n : IsNet (start_net_of_graph old)
  n = start_net (net_of old) old_net

  b : AreNamedBefore (start_net_of_graph old) 0
  b = start_named (net_of old)

  -- what goes on is an active pair
  goes_on : (waves : List ℕ) (e : Entry) (w : ℕ) → GoesOnWith start journal waves e w → IsOfPair N e
  goes_on waves e w (next, told) =
      let s = last_step start next 0 journal e told.0 in
      pair_same s.before N e (one_end start start s.before N 0 journal n b (same_refl start) s.run run)
      (of_step s.before next (0 + length journal) e s.step)

  -- in one wave
  one_wave : (waves : List ℕ) (e : Entry) (w v : ℕ) → GoesOnWith start journal waves e w →
      GoesOnWith start journal waves e v → w ≡ v
  one_wave waves e w v (P, p) (Q, q) =
      let m = one_end start start Q P 0 (journal ++ e ∷ []) n b (same_refl start) q.0 p.0 in
      last_is waves w v (journal_has_one_waves start P (journal ++ e ∷ []) (waves ++ w ∷ []) (waves ++ v ∷ []) n b
      p.0 p.1 (waves_to start Q P (journal ++ e ∷ []) (waves ++ v ∷ []) m q.1))

  module _ (W : WeightedNet NodeName) (waves : List ℕ) (waved : WavedRun (weightless start) 0 journal waves W)
      (all : List Entry) (each : (e : Entry) → IsOfPair N e → IsIn e all) (ws : List ℕ)
      (next : AllNext W (0 + length journal) all ws) (rising : AreRising all) where
    on : (e : Entry) (w : ℕ) → IsNext W (0 + length journal) e w → GoesOnWith start journal waves e w
    on e w (M, s) =
        let r = waved_on (weightless start) W M 0 (0 + length journal) journal waves e w refl waved s in (
          M.net,
          (
            run_of (weightless start) M 0 (journal ++ e ∷ []) (waves ++ w ∷ []) r,
            waves_of_run start M (journal ++ e ∷ []) (waves ++ w ∷ []) n b r,
          ),
        )

    pub all_left : AreLeft start journal waves (zipped all ws)
    all_left = record {
      all = λ e w. (
        (λ i. on e w (comes_next W (0 + length journal) all ws next e w i)),
        (λ h.
            let x = its_wave W (0 + length journal) all ws next e (each e (goes_on waves e w h)) in
            let y = on e x.0 (comes_next W (0 + length journal) all ws next e x.0 x.1) in
            subst (λ w. IsIn (e, w) (zipped all ws)) (one_wave waves e x.0 w y h) x.1),
      );
      order = in_order all ws rising;
    }

  -- where the first 20 of the pairs that are left were rewritten too, and a replay gave the waves of all
  pub leaves : (all : List Entry) → ((e : Entry) → IsIn e all → IsOfPair N e) →
      ((e : Entry) → IsOfPair N e → IsIn e all) → AreRising all → (list : List ℕ) →
      IsWavesOf old (journal ++ take 20 all) list → Leaves old journal N all list
  leaves all wait each rising list of =
      let to = waved_of start of.last (journal ++ take 20 all) list n b of.run of.waves_are in
      let p = parted (weightless start) to.after 0 journal (take 20 all) list to.run in
      let W = p.middle in
      let plain = run_of (weightless start) W 0 journal p.first p.before in
      let same = one_end start start W.net N 0 journal n b (same_refl start) plain run in
      let waits : AllWait W.net all = λ e i. pair_same N W.net e (same_sym W.net N same) (wait e i) in
      let W_net : IsNet W.net = run_net start W.net 0 journal n b plain in
      let W_before : AreNamedBefore W.net (0 + length journal) = run_before start W.net 0 journal n b plain in
      let first = all_next W to.after (0 + length journal) (take 20 all) p.second W_net W_before
      (balanced (weightless start) W 0 journal p.first (balanced_first start) p.before)
      (wait_first W.net 20 all waits) (rising_first 20 all rising) p.after in
      let rest = others_next W (0 + length journal) (drop 20 all) W_net W_before (wait_rest W.net 20 all waits) in
      let next = both W (0 + length journal) 20 all p.second rest.0 first rest.1 in
      record {
        waves = p.first;
        waves_are = waves_to start W.net N journal p.first same
            (waves_of_run start W journal p.first n b p.before);
        pairs = zipped all (p.second ++ rest.0);
        left = all_left W p.first p.before all each (p.second ++ rest.0) next.0 rising;
        told = ap lines_of next.1 ∙ lines_zipped (take 20 all) p.second
            ∙ ap (λ ws. wave_lines_text (take 20 all) ws)
            (sym (ap (drop (length journal)) p.waves_are ∙ drop_at p.first p.second (length journal) p.count));
        count = as_many W (0 + length journal) all (p.second ++ rest.0) next.0;
      }

  -- the run in which they were
  pub run_on_all : (all : List Entry) → ((e : Entry) → IsIn e all → IsOfPair N e) → AreRising all →
      (told js : List Entry) → told ≡ take 20 all → js ≡ journal ++ told →
      (M : NamedNet NodeName) × IsRun (start_net_of_graph old) 0 js M
  run_on_all all wait rising told js q p =
      let x = run_all N (0 + length journal) (take 20 all) (run_net start N 0 journal n b run)
      (run_before start N 0 journal n b run) (wait_first N 20 all wait) (rising_first 20 all rising) in (
        x.0,
        subst (λ js. IsRun start 0 js x.0) (sym (p ∙ ap (λ es. journal ++ es) q))
            (run_both start N x.0 0 journal (take 20 all) run x.1),
      )

-- the text
pub text_of_left : (old : Graph) (journal : List Entry) (N : NamedNet NodeName) (all : List Entry) (list : List ℕ) →
    (l : Leaves old journal N all list) → (told : List Entry) (from more : ℕ) (b0 b1 b2 : List ℕ) →
    told ≡ take 20 all → from ≡ length journal → more ≡ length all - 20 →
    b1 ≡ b0 ++ wave_lines_text told (drop from list) → b2 ≡ b1 ++ more_text more → b2 ≡ b0 ++ left_text l.pairs
text_of_left old journal N all list l told from more b0 b1 b2 t f m q q' =
    q' ∙ ap (λ bs. bs ++ more_text more) q
    ∙ append_assoc b0 (wave_lines_text told (drop from list)) (more_text more)
    ∙ ap (λ bs. b0 ++ (bs ++ more_text more)) (ap (λ es. wave_lines_text es (drop from list)) t
    ∙ ap (λ n. wave_lines_text (take 20 all) (drop n list)) f ∙ sym l.told)
    ∙ ap (λ n. b0 ++ (lines_of (take 20 l.pairs) ++ more_text n)) (m ∙ ap (λ n. n - 20) (sym l.count))
