-- A run is told step by step.
use Rattle.std.proofs.Common.{◌≡◌, ℕ, zero, suc, ◌+◌, ◌*◌, ◌<◌, ◌≤◌, true, Some, take, List, [], ◌∷◌, ◌++◌, length, get_or, refl, sym, ap, ◌∙◌}
use Rattle.std.proofs.Common.{subst, arith}
use Rattle.std.proofs.lemmas.List.{get_or_push}
use Rattle.std.specs.Prelude.{slice_get}
use Rattle.ol_net.specs.Graph.{Graph}
use Rattle.ol_net.specs.Nets.{NamedNet, net_under}
use Rattle.ol_net.specs.Numbered.{net_of}
use Rattle.ol_rules.specs.declared.journal.NodeName.{NodeName}
use Rattle.ol_rules.specs.declared.journal.NodeName.TheVariants.{Init}
use Rattle.ol_rules.specs.declared.journal.Entry.{Entry}
use Rattle.ol_rules.specs.Names.{comes_before}
use Rattle.ol_rules.specs.Runs.{IsEntryStep, RunsTo, IsRun}
use Rattle.ol_rules.specs.UnderWay.{entry_for}
use Rattle.ol_rules.proofs.LeadRuns.{as_run}
use Rattle.ol_orders.specs.declared.replaying.Replay.{Replay}
use Rattle.ol_orders.specs.Replays.{names_of, IsReplay, ReplaysPair}
use Rattle.ol_orders.proofs.KeptRuns.{advanced, still_named, step_named}
use Rattle.ol_view.specs.declared.forms.Form.TheVariants.{Two}
use Rattle.ol_view.specs.Forms.{header_of}
use Rattle.ol_orders.specs.Turns.{left_text}
use Rattle.ol_orders.specs.Stories.{IsTurn, IsTold, begin, turn}
use Rattle.ol_orders.specs.Made.{IsToldOf}

-- ---- lists

one_last : (xs ys : List Entry) (d e : Entry) → ys ≡ xs ++ d ∷ [] → ys ≡ xs ++ e ∷ [] → d ≡ e
one_last xs ys d e p q =
    sym (get_or_push xs d d (length xs) refl)
    ∙ ap (λ (l : List Entry). get_or l (length xs) d) (sym p ∙ q)
    ∙ get_or_push xs e d (length xs) refl

taken : {X : Type 0} (xs : List X) (k : ℕ) (x : X) → slice_get xs k ≡ Some x →
    take (suc k) xs ≡ take k xs ++ x ∷ []
taken [] k x h = absurd (cc)
taken (d ∷ xs) zero x h = let q : d ≡ x = cc in ap (λ d. d ∷ []) q
taken (d ∷ xs) (suc k) x h = ap (λ xs. d ∷ xs) (taken xs k x h)

suc_is : (k : ℕ) → k + 1 ≡ suc k
suc_is k = omega arith

pub entries_on : (es : List Entry) (k : ℕ) (e : Entry) → slice_get es k ≡ Some e →
    take (k + 1) es ≡ take k es ++ e ∷ []
entries_on es k e h = ap (λ n. take n es) (suc_is k) ∙ taken es k e h

pub waves_on : (ws : List ℕ) (k w : ℕ) → slice_get ws k ≡ Some w →
    take (k + 1) ws ≡ take k ws ++ w ∷ []
waves_on ws k w h = ap (λ n. take n ws) (suc_is k) ∙ taken ws k w h

-- ---- the first lines

-- the story so far: these entries are told, and the run is there
pub record IsSoFar (old : Graph) (r : Replay) (es : List Entry) (ws : List ℕ) (text : List ℕ) : Type 0 where
  pub told : IsTold old es ws (names_of r) r.net text
  pub replay : IsReplay old r
  pub journal : r.run.journal ≡ es

pub so_begins : (old : Graph) (r : Replay) (text : List ℕ) → IsReplay old r → r.run.journal ≡ [] →
    r.net ≡ old → text ≡ header_of Two ++ left_text (names_of r) r.net → IsSoFar old r [] [] text
so_begins old r text u none same is = record {
  told = subst (λ (g : Graph). IsTold old [] [] (names_of r) g text) (sym same)
      (subst (λ t. IsTold old [] [] (names_of r) old t)
      (ap (λ (g : Graph). header_of Two ++ left_text (names_of r) g) (sym same) ∙ sym is)
      (begin (λ k l. u.listed k (subst (λ (g : Graph). k < length g.nodes) (sym same) l) ∙ u.named.initial k l)));
  replay = u;
  journal = none;
}

-- ---- one step more

module _ (old : Graph) (r r' : Replay) (e : Entry) (wave : ℕ) (before after : List ℕ)
    (u : IsReplay old r) (t : IsToldOf r r' e wave before after) where
  abbrev pair : ReplaysPair r r' t.x t.y
  pair = t.made.pair

  is_entry : entry_for r.run pair.advances.rule t.x t.y ≡ e
  is_entry = one_last r.run.journal r'.run.journal (entry_for r.run pair.advances.rule t.x t.y) e
      pair.advances.journal t.made.journal

  on : IsReplay old r'
  on = advanced old r r' t.x t.y u pair

  later : (j k : ℕ) → j < k → k < length r'.net.nodes → comes_before (names_of r' j) (names_of r' k) ≡ true
  later j k l b =
      let f : j < length r'.net.nodes = omega arith in
      subst (λ v. comes_before v (names_of r' k) ≡ true) (sym (on.listed j f))
      (subst (λ v. comes_before (on.m j) v ≡ true) (sym (on.listed k b)) (on.named.rising j k l))

  is_turn : IsTurn (length r.run.journal) e t.x t.y (names_of r) r.net (names_of r') r'.net
  is_turn =
      let f = u.found e.first t.x t.first_is in
      let g = u.found e.second t.y t.second_is in
      record {
        below = (f.0, g.0);
        named = (u.listed t.x f.0 ∙ f.1, u.listed t.y g.0 ∙ g.1);
        step = subst (λ d. IsEntryStep (net_under (names_of r) (net_of r.net)) (length r.run.journal) d
            (net_under (names_of r') (net_of r'.net))) is_entry (step_named old r r' t.x t.y u pair);
        kept = still_named old r r' t.x t.y u pair;
        rising = later;
      }

pub so_goes : (old : Graph) (r r' : Replay) (es : List Entry) (ws : List ℕ) (e : Entry) (wave : ℕ)
    (before after : List ℕ) → IsSoFar old r es ws before → IsToldOf r r' e wave before after →
    IsSoFar old r' (es ++ e ∷ []) (ws ++ wave ∷ []) after
so_goes old r r' es ws e wave before after s t = record {
  told = subst (λ b. IsTold old (es ++ e ∷ []) (ws ++ wave ∷ []) (names_of r') r'.net b) (sym t.text_is)
      (turn wave s.told (subst (λ n. IsTurn n e t.x t.y (names_of r) r.net (names_of r') r'.net)
      (ap (λ (l : List Entry). length l) s.journal)
      (is_turn old r r' e wave before after s.replay t)));
  replay = on old r r' e wave before after s.replay t;
  journal = t.made.journal ∙ ap (λ (l : List Entry). l ++ e ∷ []) s.journal;
}

-- the net of a run doesn't grow too large
pub net_few : (old : Graph) (r : Replay) (es : List Entry) (ws : List ℕ) (text : List ℕ) (n : ℕ) →
    IsSoFar old r es ws text → length es < n → length old.nodes + 4 * n ≤ 2000000000 →
    length r.net.nodes ≤ 2000000000
net_few old r es ws text n s l h =
    let f = s.replay.few in
    let j = ap (λ (es : List Entry). length es) s.journal in
    omega arith

-- ---- the run

pub leads_run : (g new : Graph) (fuel : ℕ) (journal : List Entry) → RunsTo g fuel journal new →
    (M : NamedNet NodeName) × IsRun (net_under Init (net_of g)) 0 journal M
leads_run g new fuel journal r = (
  net_under r.leads.names (net_of new),
  as_run (net_under Init (net_of g)) (net_under r.leads.names (net_of new)) 0 journal r.leads.run,
)
