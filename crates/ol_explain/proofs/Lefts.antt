-- The text of the pairs that are left, from what was found node by node and what a replay gave.
use Rattle.std.proofs.Common.{◌≡◌, ℕ, ◌+◌, ◌≤◌, List, [], ◌++◌, length, length-append, length-take, drop}
use Rattle.std.proofs.Common.{refl, ap, ◌∙◌, subst, arith}
use Rattle.ol_law_edges.specs.Edges.{IsIn}
use Rattle.ol_net.specs.Graph.{Graph}
use Rattle.ol_net.specs.Nets.{NamedNet, IsNet}
use Rattle.ol_net.specs.Numbered.{net_of}
use Rattle.ol_rules.specs.declared.journal.NodeName.{NodeName}
use Rattle.ol_rules.specs.declared.journal.Entry.{Entry}
use Rattle.ol_rules.specs.Runs.{IsRun}
use Rattle.ol_diamond.specs.Waves.{IsWavesOf}
use Rattle.ol_diamond.proofs.WeightedJournals.{journal_has_one_waves}
use Rattle.ol_rules.proofs.StartNets.{start_net, start_named}
use Rattle.ol_view.specs.declared.forms.Form.{Form}
use Rattle.ol_view.specs.declared.forms.Form.TheVariants.{One, Two}
use Rattle.ol_view.specs.EachForm.{wave_lines_text}
use Rattle.ol_view.specs.Checks.{start_net_of_graph, BeginsWithRun}
use Rattle.ol_orders.specs.declared.replaying.Replay.{Replay}
use Rattle.ol_orders.specs.Replays.{IsReplay, net_here}
use Rattle.ol_explain.specs.Left.{more_text, left_text, TellsLeft}
use Rattle.ol_explain.specs.Found.{IsOfPair, AreFound, IsLeftText, IsToldBy}
use Rattle.ol_orders.proofs.KeptRuns.{run_named}
use Rattle.ol_explain.proofs.Finds.{each_found}
use Rattle.ol_explain.proofs.Leaving.{leaves, run_on_all, text_of_left}

pub few_told : (r : Replay) (n : ℕ) (told : List Entry) (more : ℕ) → AreFound r n told more → length told ≤ 20
few_told r n told more f =
    let q = ap (λ (es : List Entry). length es) f.told_is in
    omega (arith, length-take 20 f.pairs)

module _ (old : Graph) (old_net : IsNet (net_of old)) (r : Replay) (u : IsReplay old r) (told : List Entry)
    (more : ℕ) (f : AreFound r (length r.net.nodes) told more) (js : List Entry) (joined : js ≡ r.run.journal ++ told) where
  waits : (e : Entry) → IsIn e f.pairs → IsOfPair (net_here r) e
  waits e i = let x = (f.below.all e).0 i in x.2.1

  pub size : length js ≡ length r.run.journal + length told
  size = ap (λ (es : List Entry). length es) joined ∙ length-append r.run.journal told

  pub run_is : (M : NamedNet NodeName) × IsRun (start_net_of_graph old) 0 js M
  run_is = run_on_all old old_net r.run.journal (net_here r) (run_named old r u) f.pairs waits f.below.rising told js
      f.told_is joined

  pub text_is : (list : List ℕ) → IsWavesOf old js list → (from : ℕ) → from ≡ length r.run.journal →
      (b0 b1 b2 : List ℕ) → b1 ≡ b0 ++ wave_lines_text told (drop from list) → b2 ≡ b1 ++ more_text more →
      (left : List ℕ) × IsLeftText old r left × (b2 ≡ b0 ++ left)
  text_is list of from q b0 b1 b2 e e' =
      let l = leaves old old_net r.run.journal (net_here r) (run_named old r u) f.pairs waits
      (each_found old r u f.pairs f.below) f.below.rising list
      (subst (λ (es : List Entry). IsWavesOf old es list)
      (joined ∙ ap (λ (es : List Entry). r.run.journal ++ es) f.told_is) of) in (
        left_text l.pairs,
        record { waves = l.waves; waves_are = l.waves_are; pairs = l.pairs; left = l.left; text_is = refl },
        text_of_left old r.run.journal (net_here r) f.pairs list l told from more b0 b1 b2 f.told_is q f.more_is e e',
      )

-- the text of a whole journal, in whichever form
pub tells_left : (old : Graph) → IsNet (net_of old) → (r : Replay) → IsReplay old r → (text left : List ℕ) →
    IsToldBy old text r → IsLeftText old r left → TellsLeft old text left
tells_left old old_net r u text left t l = record {
  form = t.form;
  entries = r.run.journal;
  waves = l.waves;
  last = net_here r;
  begins = go t.form t.waves t.begins;
  waves_are = l.waves_are;
  pairs = l.pairs;
  left = l.left;
  text_is = l.text_is;
}
  where
    go : (form : Form) (waves : List ℕ) →
        BeginsWithRun form (start_net_of_graph old) text r.run.journal waves (net_here r) [] →
        BeginsWithRun form (start_net_of_graph old) text r.run.journal l.waves (net_here r) []
    go One waves b = record { begins = b.begins; few = b.few; run = b.run }
    go Two waves b =
        let q : waves ≡ l.waves = journal_has_one_waves (start_net_of_graph old) (net_here r) r.run.journal waves l.waves
        (start_net (net_of old) old_net) (start_named (net_of old)) b.run.0 b.run.1 l.waves_are in
        subst (λ ws. BeginsWithRun Two (start_net_of_graph old) text r.run.journal ws (net_here r) []) q b
