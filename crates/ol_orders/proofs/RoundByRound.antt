-- A run in rounds that goes on by a round, and how it ends.
use Rattle.std.proofs.Common.{◌≡◌, ℕ, suc, ◌+◌, ◌*◌, ◌<◌, ◌≤◌, List, [], ◌∷◌, ◌++◌, length, length-append}
use Rattle.std.proofs.Common.{refl, sym, ap, ◌∙◌, subst, arith, append-nil, append_assoc}
use Rattle.std.proofs.lemmas.List.{length_push}
use Rattle.ol_net.specs.Graph.{Graph}
use Rattle.ol_net.specs.Nets.{NamedNet}
use Rattle.ol_net.specs.Numbered.{net_of}
use Rattle.ol_net.specs.Pairs.{IsComplete}
use Rattle.ol_rules.specs.declared.journal.NodeName.{NodeName}
use Rattle.ol_rules.specs.declared.journal.Entry.{Entry}
use Rattle.ol_rules.specs.Runs.{IsRun}
use Rattle.ol_rules.proofs.Renaming.{active_from}
use Rattle.ol_view.specs.Checks.{start_net_of_graph}
use Rattle.ol_orders.specs.declared.replaying.Replay.{Replay}
use Rattle.ol_orders.specs.Replays.{net_here, IsReplay, ReplaysPair}
use Rattle.ol_rules.specs.UnderWay.{entry_for}
use Rattle.ol_orders.specs.Rounds.{AreActivePairs, IsInRounds, EndsInRounds, GoesOnInRounds}
use Rattle.ol_orders.specs.Played.{ArePairs, Plays, stop, go, IsCut}
use Rattle.ol_orders.proofs.ActivePairs.{complete}
use Rattle.ol_orders.proofs.KeptRuns.{run_named}
use Rattle.ol_orders.proofs.OneRound.{AreEntries, IsPlayedTo, played, all_entries, here_is, one_named}

rounds_on : (N M P : NamedNet NodeName) (t u : ℕ) (js es : List Entry) → IsInRounds N t js M →
    u ≡ t + length js → AreActivePairs M es → IsRun M u es P → IsInRounds N t (js ++ es) P
rounds_on N M P t u js es IsInRounds.end q a r =
    let e : u ≡ t = omega arith in
    subst (λ es. IsInRounds N t es P) (append-nil es)
    (IsInRounds.then a (subst (λ u. IsRun N u es P) e r) IsInRounds.end)
rounds_on N M P t u js es (IsInRounds.then {M = K} {es = ds} {later = later} b s more) q a r =
    subst (λ es. IsInRounds N t es P) (sym (append_assoc ds later es))
    (IsInRounds.then b s (rounds_on K M P (t + length ds) u later es more
    (omega (arith, length-append ds later)) a r))

-- whole rounds so far
pub record IsInPlay (old : Graph) (r : Replay) : Type 0 where
  pub replay : IsReplay old r
  pub rounds : IsInRounds (start_net_of_graph old) 0 r.run.journal (net_here r)

no_round : (N M : NamedNet NodeName) (t : ℕ) (es : List Entry) → es ≡ [] → IsRun N t es M → IsInRounds N t es M
no_round N M t [] e IsRun.end = IsInRounds.end
no_round N M t (d ∷ es) e run = absurd (cc)

pub begun : (old : Graph) (r : Replay) → IsReplay old r → r.run.journal ≡ [] → IsInPlay old r
begun old r u e = record {
  replay = u;
  rounds = no_round (start_net_of_graph old) (net_here r) 0 r.run.journal e (run_named old r u);
}

none_left : (s : Replay) (es : List Entry) → AreEntries s [] es → es ≡ []
none_left s [] a = refl
none_left s (e ∷ es) a = absurd a

module _ (old : Graph) (r s : Replay) (i : IsInPlay old r) (ps : List (ℕ × ℕ)) (all : ArePairs r.net ps) where
  abbrev es : (es : List Entry) × AreEntries r ps es × AreActivePairs (net_here r) es
  es = all_entries old r i.replay ps all

  to : (left : List (ℕ × ℕ)) → Plays r ps left s → IsPlayedTo old r s es.0 left
  to left p = played old r s ps left es.0 i.replay es.1 all.rising p

  -- one more round
  pub one_more : Plays r ps [] s → IsInPlay old s
  one_more p =
      let t = to [] p in
      let e : es.0 ≡ t.part = t.entries_are ∙ ap (λ (es : List Entry). t.part ++ es) (none_left s t.rest t.rest_are)
      ∙ append-nil t.part in
      record {
        replay = t.replay;
        rounds = subst (λ js. IsInRounds (start_net_of_graph old) 0 js (net_here s)) (sym t.journal_is)
            (rounds_on (start_net_of_graph old) (net_here r) (net_here s) 0 (length r.run.journal) r.run.journal t.part
            i.rounds (omega arith) (subst (λ es. AreActivePairs (net_here r) es) e es.2) t.run);
      }

  -- a part of one
  pub cut : (fuel : ℕ) → IsCut fuel r ps s → GoesOnInRounds old fuel s.run.journal
  cut fuel c = some t.rest t.entries_are t.rest_are
    where
      t : IsPlayedTo old r s es.0 (c.next ∷ c.later)
      t = to (c.next ∷ c.later) c.plays

      some : (rest : List Entry) → es.0 ≡ t.part ++ rest → AreEntries s (c.next ∷ c.later) rest →
          GoesOnInRounds old fuel s.run.journal
      some [] e a = absurd a
      some (d ∷ rest) e a = record {
        whole = r.run.journal;
        begun = t.part;
        next = d;
        later = rest;
        middle = net_here r;
        last = net_here s;
        rounds = i.rounds;
        pairs = subst (λ es. AreActivePairs (net_here r) es) e es.2;
        run = t.run;
        journal_is = t.journal_is;
        spent = c.spent;
      }

  -- either way it is a run
  pub still_run : (left : List (ℕ × ℕ)) → Plays r ps left s →
      (M : NamedNet NodeName) × IsRun (start_net_of_graph old) 0 s.run.journal M
  still_run left p = (net_here s, run_named old s (to left p).replay)

-- no round more
pub ends : (old : Graph) (r : Replay) (fuel : ℕ) → IsInPlay old r → ArePairs r.net [] →
    length r.run.journal ≤ fuel → EndsInRounds old fuel r.run.journal
ends old r fuel i all l = record {
  last = net_here r;
  rounds = i.rounds;
  ended = subst (λ N. IsComplete N) (here_is old r i.replay) (λ F G rule a.
      let t = active_from i.replay.m (one_named old r i.replay) (net_of r.net) F G rule a in
      complete r.net i.replay.is_net all t.0 t.1 rule t.4);
  within = l;
}

pub ends_with : (old : Graph) (r : Replay) (fuel : ℕ) (ps : List (ℕ × ℕ)) → IsInPlay old r → ArePairs r.net ps →
    length ps ≡ 0 → length r.run.journal ≤ fuel → EndsInRounds old fuel r.run.journal
ends_with old r fuel [] i all none l = ends old r fuel i all l
ends_with old r fuel (p ∷ ps) i all none l = absurd (omega arith)

pub few_nodes : (old : Graph) (r : Replay) (fuel : ℕ) → IsReplay old r → length old.nodes ≤ 200000 →
    fuel ≤ 8000000 → length r.net.nodes + 4 * fuel ≤ 2000000000 + 4 * length r.run.journal
few_nodes old r fuel u h l = let f = u.few in omega arith

-- a round makes the journal longer
pub grown : (r s : Replay) (x y : ℕ) → ReplaysPair r s x y → length s.run.journal ≡ length r.run.journal + 1
grown r s x y a = ap (λ (es : List Entry). length es) a.advances.journal
    ∙ length_push r.run.journal (entry_for r.run a.advances.rule x y)

not_shorter : (r s : Replay) (ps left : List (ℕ × ℕ)) → Plays r ps left s → length r.run.journal ≤ length s.run.journal
not_shorter r s ps left stop = omega arith
not_shorter r s (p ∷ ps) left (go {s = q} a more) =
    let i = not_shorter q s ps left more in
    let e = grown r q p.0 p.1 a in
    omega arith

pub goes_on : (r s : Replay) (ps : List (ℕ × ℕ)) → Plays r ps [] s → 0 < length ps →
    length r.run.journal < length s.run.journal
goes_on r s [] p l = absurd (omega arith)
goes_on r s (p ∷ ps) (go {s = q} a more) l =
    let i = not_shorter q s ps [] more in
    let e = grown r q p.0 p.1 a in
    omega arith
