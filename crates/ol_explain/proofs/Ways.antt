-- A journal that is followed line by line: each line that is good is one entry more, and the run makes its step.
use Rattle.std.proofs.Common.{◌≡◌, ◌≢◌, ℕ, suc, ◌+◌, ◌*◌, ◌≤◌, true, List, [], ◌∷◌, ◌++◌, append_assoc, get_or, length}
use Rattle.std.proofs.Common.{length-append, drop, Option, None, Some, refl, sym, ap, ◌∙◌, subst, arith}
use Rattle.std.specs.Prelude.{IfSome, IfNone, IsSomeAnd}
use Rattle.ol_net.specs.declared.parts.Rule.{Rule}
use Rattle.ol_net.specs.Graph.{Graph}
use Rattle.ol_net.specs.Nets.{NamedNet, IsNet, SameNet, net_under}
use Rattle.ol_net.specs.Numbered.{net_of}
use Rattle.ol_rules.specs.declared.journal.NodeName.{NodeName}
use Rattle.ol_rules.specs.declared.journal.Entry.{Entry}
use Rattle.ol_rules.specs.Names.{comes_before}
use Rattle.ol_rules.specs.Runs.{IsEntryStep, IsRun}
use Rattle.ol_rules.proofs.NameOrder.{Names, names_apart, names_after}
use Rattle.ol_rules.proofs.OneEnd.{one_end}
use Rattle.ol_rules.proofs.Relation.{same_refl, same_sym}
use Rattle.ol_rules.proofs.Same.{active_same}
use Rattle.ol_rules.proofs.StartNets.{start_net, start_named}
use Rattle.ol_diamond.specs.declared.weighing.Rewritten.{Rewritten}
use Rattle.ol_diamond.specs.PortWeights.{WeighsEntry}
use Rattle.ol_diamond.specs.Replaying.{AreIdle, AreIdleNumbers}
use Rattle.ol_diamond.specs.Waves.{weightless}
use Rattle.ol_diamond.proofs.Replays.{Index, few_more}
use Rattle.ol_diamond.proofs.WaveEntries.{IsWaveEntry, WavedRun, entry_of, waved_on, run_of, waves_of_run}
use Rattle.ol_diamond.proofs.WaveRuns.{waves_to}
use Rattle.ol_diamond.proofs.Weighed as weighed
use Rattle.ol_diamond.proofs.WeighedEntries.{net_is, weighted_named, names_next, index_next, sized_next, wave_entry}
use Rattle.ol_view.specs.declared.forms.Form.{Form}
use Rattle.ol_view.specs.declared.forms.Form.TheVariants.{One, Two}
use Rattle.ol_view.specs.declared.line_reading.Line.{Line}
use Rattle.ol_view.specs.Forms.{header_of, line_of, text_of}
use Rattle.ol_view.specs.LineReading.{front_entry, TellsOf}
use Rattle.ol_view.specs.Checks.{start_net_of_graph, IsRunTold}
use Rattle.ol_view.proofs.Entries.{Read, line_there, IsOfEntry, of_entry, first_tells_nothing}
use Rattle.ol_view.proofs.Finding.{UnderWay}
use Rattle.ol_view.proofs.FormTexts.{text_on}
use Rattle.ol_view.proofs.Replays.{idle_names}
use Rattle.ol_orders.specs.declared.replaying.Replay.{Replay}
use Rattle.ol_orders.specs.Replays.{IsReplay, ReplaysNamed, AreApart, net_here}
use Rattle.ol_explain.specs.Followed.{IsTold, IsOff}
use Rattle.ol_orders.proofs.KeptRuns.{run_named, advanced}
use Rattle.ol_explain.proofs.Steps as steps

-- The text up to `at` is the trace of the run of these entries, which leads to g.
pub record Way (form : Form) (old : Graph) (text : List ℕ) (g : Graph) (bases weights : List ℕ)
    (journal : List Entry) (at : ℕ) : Type 0 where
  pub old_net : IsNet (net_of old)
  pub waves : List ℕ
  pub m : ℕ → NodeName
  pub begins : text ≡ text_of form journal waves ++ drop at text
  pub even : length waves ≡ length journal
  pub most : length journal ≤ 8000000
  pub is_run : WavedRun (weightless (start_net_of_graph old)) 0 journal waves (weighted_named m g bases weights)
  pub named : Names (length old.nodes) (length g.nodes) (length journal) m
  pub index : Index bases (length g.nodes) (length journal) m
  pub sized : length weights ≡ g.free + 3 * length g.nodes
  pub few : length g.nodes ≤ length old.nodes + 4 * length journal

-- what `ol check` has of it
pub under : (form : Form) (old : Graph) (text : List ℕ) (g : Graph) (bases weights : List ℕ)
    (journal : List Entry) (at : ℕ) → Way form old text g bases weights journal at →
    UnderWay form old text g bases weights (length journal) at
under form old text g bases weights journal at w = record {
  old_net = w.old_net;
  journal = journal;
  waves = w.waves;
  m = w.m;
  begins = w.begins;
  count = refl;
  even = w.even;
  most = w.most;
  is_run = w.is_run;
  named = w.named;
  index = w.index;
  sized = w.sized;
  few = w.few;
}

-- before the first entry
pub first_way : (form : Form) (old : Graph) (text weights : List ℕ) → IsNet (net_of old) →
    text ≡ header_of form ++ drop 11 text → length weights ≡ old.free + 3 * length old.nodes →
    ((k : ℕ) → get_or weights k 0 ≡ 0) →
    Way form old text old (length old.nodes ∷ []) weights [] 11
first_way form old text weights n h sized zeros =
    let s = weighed.begins old [] weights n sized zeros in
    record {
      old_net = n;
      waves = [];
      m = s.m;
      begins = h ∙ ap (λ bs. bs ++ drop 11 text) (no_entries form);
      even = refl;
      most = omega arith;
      is_run = s.run;
      named = s.named;
      index = s.index;
      sized = sized;
      few = omega arith;
    }
  where
    no_entries : (form : Form) → header_of form ≡ text_of form [] []
    no_entries One = refl
    no_entries Two = refl

-- two names are no active pair of one net, nor of a net that is the same
idle_same : (M N : NamedNet NodeName) (a b : NodeName) → SameNet M N → AreIdle M a b → AreIdle N a b
idle_same M N a b m h r = (
  (λ x. (h r).0 (active_same N M (same_sym M N m) a b r x)),
  (λ x. (h r).1 (active_same N M (same_sym M N m) b a r x)),
)

module _ (form : Form) (old : Graph) (text : List ℕ) (g : Graph) (bases weights : List ℕ)
    (r : Replay) (at : ℕ) (w : Way form old text g bases weights r.run.journal at) (u : IsReplay old r) where
  abbrev start : NamedNet NodeName
  start = start_net_of_graph old

  abbrev here : NamedNet NodeName
  here = net_under w.m (net_of g)

  n : IsNet (start_net_of_graph old)
  n = start_net (net_of old) w.old_net

  plain_run : IsRun start 0 r.run.journal here
  plain_run = run_of (weightless start) (weighted_named w.m g bases weights) 0 r.run.journal w.waves w.is_run

  pub same_to : (last : NamedNet NodeName) → IsRun start 0 r.run.journal last → SameNet here last
  same_to last run = one_end start start here last 0 r.run.journal n (start_named (net_of old))
      (same_refl start) plain_run run

  -- the text begins with that of the run
  pub is_told : IsTold form w.waves old r text at
  is_told = record { begins = w.begins; few = w.most; run = go form }
    where
      go : (form : Form) → IsRunTold form start r.run.journal w.waves (net_here r)
      go One = run_named old r u
      go Two = (
        run_named old r u,
        waves_to start here (net_here r) r.run.journal w.waves (same_to (net_here r) (run_named old r u))
            (waves_of_run start (weighted_named w.m g bases weights) r.run.journal w.waves n
            (start_named (net_of old)) w.is_run),
      )

  module _ (t : Option (Rule × ℕ)) (a b : NodeName) (rest : List ℕ) (d : length r.run.journal ≢ 8000000)
      (e : ◌≡◌ {A = Read} (front_entry form (drop at text)) (Some (t, a, b, rest)))
      (g' : Graph) (bases' weights' : List ℕ) (rule : Rule) (wave : ℕ)
      (x : WeighsEntry g g' bases bases' weights weights' (record { rule = rule; first = a; second = b }) wave) where
    line : IsOfEntry form (drop at text) t a b rest
    line = of_entry form (drop at text) t a b rest e

    abbrev own : Entry
    own = record { rule = rule; first = a; second = b }

    ordered : comes_before a b ≡ true
    ordered = line.begins.ordered

    abbrev m' : ℕ → NodeName
    m' = names_after w.m (length g'.nodes) (suc (length r.run.journal))

    abbrev there : NamedNet NodeName
    there = net_under m' (net_of g')

    step : IsWaveEntry (weighted_named w.m g bases weights) (length r.run.journal) own wave
        (weighted_named m' g' bases' weights')
    step = wave_entry g g' bases bases' weights weights' own wave x ordered
        (length old.nodes) (length r.run.journal) w.m w.named w.index w.sized

    entry_step : IsEntryStep here (length r.run.journal) own there
    entry_step = entry_of (weighted_named w.m g bases weights) (length r.run.journal) own wave
        (weighted_named m' g' bases' weights') step

    -- the run makes the step too
    pub not_apart : AreApart r a b → ⊥
    not_apart apart = steps.not_apart old r u here there (length r.run.journal) own entry_step
        (same_to (net_under u.m (net_of r.net)) u.run) apart

    -- the run with this entry, in this wave
    pub runs : (next : NamedNet NodeName)
        × IsRunTold Two start (r.run.journal ++ own ∷ []) (w.waves ++ wave ∷ []) next
    runs = (
      there,
      (
        run_of (weightless start) (weighted_named m' g' bases' weights') 0 (r.run.journal ++ own ∷ [])
            (w.waves ++ wave ∷ []) on,
        waves_of_run start (weighted_named m' g' bases' weights') (r.run.journal ++ own ∷ [])
            (w.waves ++ wave ∷ []) n (start_named (net_of old)) on,
      ),
    )
      where
        on : WavedRun (weightless start) 0 (r.run.journal ++ own ∷ []) (w.waves ++ wave ∷ [])
            (weighted_named m' g' bases' weights')
        on = waved_on (weightless start) (weighted_named w.m g bases weights)
            (weighted_named m' g' bases' weights') 0 (length r.run.journal) r.run.journal w.waves own wave
            (let q : 0 + length r.run.journal ≡ length r.run.journal = omega arith in q) w.is_run step

    module _ (r' : Replay) (adv : ReplaysNamed r r' a b) where
      written : r'.run.journal ≡ r.run.journal ++ own ∷ []
      written = steps.written old r u here there (length r.run.journal) own entry_step
          (same_to (net_under u.m (net_of r.net)) u.run)
          (net_is w.m g (names_apart (length old.nodes) (length g.nodes) (length r.run.journal) w.m w.named)
          x.named.old_net) r' adv

      -- one line more
      pub one_more : (next : ℕ) → rest ≡ drop next text → TellsOf t rule wave →
          Way form old text g' bases' weights' r'.run.journal next
      one_more next q tells = subst (λ es. Way form old text g' bases' weights' es next) (sym written) longer
        where
          count : length (r.run.journal ++ own ∷ []) ≡ suc (length r.run.journal)
          count = omega (arith, length-append r.run.journal (own ∷ []))

          longer : Way form old text g' bases' weights' (r.run.journal ++ own ∷ []) next
          longer = record {
            old_net = w.old_net;
            waves = w.waves ++ wave ∷ [];
            m = m';
            begins = w.begins
                ∙ ap (λ bs. text_of form r.run.journal w.waves ++ bs)
                (line_there form (drop at text) t a b rest e rule wave tells
                ∙ ap (λ rest. line_of form own wave ++ rest) q)
                ∙ sym (append_assoc (text_of form r.run.journal w.waves) (line_of form own wave) (drop next text))
                ∙ ap (λ bs. bs ++ drop next text) (sym (text_on form r.run.journal w.waves own wave w.even));
            even = let q = w.even in
                omega (arith, length-append w.waves (wave ∷ []), length-append r.run.journal (own ∷ []));
            most = let l = w.most in let c = count in omega arith;
            is_run = waved_on (weightless start) (weighted_named w.m g bases weights)
                (weighted_named m' g' bases' weights') 0 (length r.run.journal) r.run.journal w.waves own wave
                (let q : 0 + length r.run.journal ≡ length r.run.journal = omega arith in q) w.is_run step;
            named = subst (λ t. Names (length old.nodes) (length g'.nodes) t m') (sym count)
                (names_next g g' bases bases' weights weights' own wave x ordered
                (length old.nodes) (length r.run.journal) w.m w.named w.index w.sized);
            index = subst (λ t. Index bases' (length g'.nodes) t m') (sym count)
                (index_next g g' bases bases' weights weights' own wave x ordered
                (length old.nodes) (length r.run.journal) w.m w.named w.index w.sized);
            sized = sized_next g g' bases bases' weights weights' own wave x ordered
                (length old.nodes) (length r.run.journal) w.m w.named w.index w.sized;
            few = let l = few_more g g' bases bases' a b x.named ordered
                (length old.nodes) (length r.run.journal) w.m w.named w.index in
                let k = w.few in let c = count in omega arith;
          }

      pub advanced_on : IsReplay old r'
      advanced_on = advanced old r r' adv.x adv.y u adv.pair

-- the line that was tried is so, whatever was made of it
module _ (form : Form) (old : Graph) (text : List ℕ) (g : Graph) (bases weights : List ℕ)
    (r : Replay) (at : ℕ) (w : Way form old text g bases weights r.run.journal at) (u : IsReplay old r)
    (t : Option (Rule × ℕ)) (a b : NodeName) (rest : List ℕ) (d : length r.run.journal ≢ 8000000)
    (e : ◌≡◌ {A = Read} (front_entry form (drop at text)) (Some (t, a, b, rest)))
    (g' : Graph) (bases' weights' : List ℕ) where
  pub never_apart : (made : Option Rewritten) →
      IfSome made (λ of. WeighsEntry g g' bases bases' weights weights'
      (record { rule = of.rule; first = a; second = b }) of.wave) →
      IsSomeAnd made (λ of. TellsOf t of.rule of.wave) → AreApart r a b → ⊥
  never_apart None x so apart = so
  never_apart (Some of) x so apart = not_apart form old text g bases weights r at w u t a b rest d e
      g' bases' weights' of.rule of.wave x apart

  pub made_one : (made : Option Rewritten) (next : ℕ) → rest ≡ drop next text →
      IfSome made (λ of. WeighsEntry g g' bases bases' weights weights'
      (record { rule = of.rule; first = a; second = b }) of.wave) →
      IsSomeAnd made (λ of. TellsOf t of.rule of.wave) → (r' : Replay) → ReplaysNamed r r' a b →
      Way form old text g' bases' weights' r'.run.journal next × IsReplay old r'
  made_one None next q x so r' adv = absurd so
  made_one (Some of) next q x so r' adv = (
    one_more form old text g bases weights r at w u t a b rest d e
        g' bases' weights' of.rule of.wave x r' adv next q so,
    advanced_on form old text g bases weights r at w u t a b rest d e
        g' bases' weights' of.rule of.wave x r' adv,
  )

  -- what the line tells isn't so
  pub is_off : (l : Line) → l.told ≡ t → l.first ≡ a → l.second ≡ b → (made : Option Rewritten) →
      IfNone made (AreIdleNumbers g bases a b) →
      IfSome made (λ of. WeighsEntry g g' bases bases' weights weights'
      (record { rule = of.rule; first = a; second = b }) of.wave) →
      IfSome made (λ of. TellsOf t of.rule of.wave → ⊥) → IsOff form w.waves old r text at l made
  is_off l i j k made idle x wrong = record {
    entry = record { rule = of.rule; first = a; second = b };
    wave = of.wave;
    rest = rest;
    begins = of.begins;
    first = sym j;
    second = sym k;
    tells = subst (λ t. TellsOf t of.rule of.wave) (sym i) of.tells;
    idle = go_idle made idle;
    wrong = subst (λ t. IfSome made (λ of. TellsOf t of.rule of.wave → ⊥)) (sym i) wrong;
    waved = go_waved made wrong form refl;
    runs = go_runs made x;
  }
    where
      of : IsOfEntry form (drop at text) t a b rest
      of = of_entry form (drop at text) t a b rest e

      go_idle : (made : Option Rewritten) → IfNone made (AreIdleNumbers g bases a b) →
          IfNone made (AreIdle (net_here r) a b)
      go_idle None h = idle_same here_w (net_here r) a b same
          (idle_names g bases (length old.nodes) (length r.run.journal) w.m a b w.named w.index h)
        where
          here_w : NamedNet NodeName
          here_w = net_under w.m (net_of g)

          same : SameNet (net_under w.m (net_of g)) (net_here r)
          same = same_to form old text g bases weights r at w u (net_here r) (run_named old r u)
      go_idle (Some of) h = tt

      go_waved : (made : Option Rewritten) → IfSome made (λ of. TellsOf t of.rule of.wave → ⊥) →
          (f : Form) → form ≡ f → IfSome made (λ of. form ≡ Two)
      go_waved None h f q = tt
      go_waved (Some of) h One q = absurd (h (first_tells_nothing (drop at text) t a b rest
          (subst (λ f. ◌≡◌ {A = Read} (front_entry f (drop at text)) (Some (t, a, b, rest))) q e) of.rule of.wave))
      go_waved (Some of) h Two q = q

      go_runs : (made : Option Rewritten) →
          IfSome made (λ of. WeighsEntry g g' bases bases' weights weights'
          (record { rule = of.rule; first = a; second = b }) of.wave) →
          IfSome made (λ of. (next : NamedNet NodeName)
          × IsRunTold Two (start_net_of_graph old)
          (r.run.journal ++ record { rule = of.rule; first = a; second = b } ∷ []) (w.waves ++ of.wave ∷ []) next)
      go_runs None x = tt
      go_runs (Some of) x = runs form old text g bases weights r at w u t a b rest d e
          g' bases' weights' of.rule of.wave x
