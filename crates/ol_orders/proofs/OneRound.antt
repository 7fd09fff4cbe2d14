-- A round that is played: its pairs by numbers are those of the net by names, and it is a run.
use Rattle.std.proofs.Common.{◌≡◌, ℕ, suc, ◌+◌, ◌<◌, ◌≤◌, true, List, [], ◌∷◌, ◌++◌, length}
use Rattle.std.proofs.Common.{◌⊎◌, inl, inr, refl, sym, ap, ◌∙◌, subst, arith, append-nil, append_assoc}
use Rattle.std.proofs.lemmas.Bool.{cases_lt}
use Rattle.ol_law_edges.specs.Edges.{IsIn}
use Rattle.ol_net.specs.declared.parts.Rule.{Rule}
use Rattle.ol_net.specs.Graph.{Graph}
use Rattle.ol_net.specs.Nets.{slot, NamedNet, Linked, IsNet, net_under}
use Rattle.ol_net.specs.Numbered.{net_of}
use Rattle.ol_net.specs.Pairs.{IsActive, IsInActive}
use Rattle.ol_rules.specs.declared.journal.NodeName.{NodeName}
use Rattle.ol_rules.specs.declared.journal.Entry.{Entry}
use Rattle.ol_rules.specs.Names.{comes_before, IsNamed}
use Rattle.ol_rules.specs.Runs.{IsEntryStep, IsRun}
use Rattle.ol_rules.proofs.FreshPairs.{linked_sym}
use Rattle.ol_rules.proofs.NameOrder.{not_before, not_before_itself}
use Rattle.ol_rules.proofs.Renaming.{net_alike, active_to, active_from}
use Rattle.ol_rules.proofs.OnTheWay.{node_below}
use Rattle.ol_diamond.proofs.Pairs.{one_rule}
use Rattle.ol_view.proofs.OneVerdict.{one_entry}
use Rattle.ol_demand.proofs.Entries.{one_name}
use Rattle.ol_orders.specs.declared.replaying.Replay.{Replay}
use Rattle.ol_orders.specs.Replays.{net_here, names_of, IsReplay, ReplaysPair, AreRising}
use Rattle.ol_rules.specs.UnderWay.{entry_for}
use Rattle.ol_orders.specs.Rounds.{IsActiveEntry, AreActivePairs}
use Rattle.ol_orders.specs.Played.{IsPair, AreRisingPairs, ArePairs, Plays, stop, go}
use Rattle.ol_orders.proofs.ActivePairs.{acts, pair_after, pair_below}
use Rattle.ol_orders.proofs.KeptRuns.{longer, still_named, step_named, advanced}

-- the entry of a pair
pub record IsEntryFor (r : Replay) (p : ℕ × ℕ) (e : Entry) : Type 0 where
  pub first : e.first ≡ names_of r p.0
  pub second : e.second ≡ names_of r p.1
  pub pair : IsPair r.net p.0 p.1 e.rule

-- the entries of some pairs
abbrev pub AreEntries : Replay → List (ℕ × ℕ) → List Entry → Type 0
AreEntries r [] [] = Unit {0}
AreEntries r [] (e ∷ es) = ⊥
AreEntries r (p ∷ ps) [] = ⊥
AreEntries r (p ∷ ps) (e ∷ es) = IsEntryFor r p e × AreEntries r ps es

entries_of : (r : Replay) (ps : List (ℕ × ℕ)) →
    ((p : ℕ × ℕ) → IsIn p ps → (rule : Rule) × IsPair r.net p.0 p.1 rule) →
    (es : List Entry) × AreEntries r ps es
entries_of r [] h = ([], tt)
entries_of r (p ∷ ps) h =
    let one = h p (inl refl) in
    let more = entries_of r ps (λ q i. h q (inr i)) in (
      record { rule = one.0; first = names_of r p.0; second = names_of r p.1 } ∷ more.0,
      (record { first = refl; second = refl; pair = one.1 }, more.1),
    )

pair_of : (r : Replay) (ps : List (ℕ × ℕ)) (es : List Entry) → AreEntries r ps es → (e : Entry) →
    IsIn e es → (p : ℕ × ℕ) × IsIn p ps × IsEntryFor r p e
pair_of r [] [] a e i = absurd i
pair_of r [] (d ∷ es) a e i = absurd a
pair_of r (p ∷ ps) [] a e i = absurd a
pair_of r (p ∷ ps) (d ∷ es) a e (inl q) = (p, inl refl, subst (λ d. IsEntryFor r p d) (sym q) a.0)
pair_of r (p ∷ ps) (d ∷ es) a e (inr i) = let t = pair_of r ps es a.1 e i in (t.0, inr t.1, t.2)

entry_of : (r : Replay) (ps : List (ℕ × ℕ)) (es : List Entry) → AreEntries r ps es → (p : ℕ × ℕ) →
    IsIn p ps → (e : Entry) × IsIn e es × IsEntryFor r p e
entry_of r [] [] a p i = absurd i
entry_of r [] (e ∷ es) a p i = absurd a
entry_of r (q ∷ ps) [] a p i = absurd a
entry_of r (q ∷ ps) (e ∷ es) a p (inl h) = (e, inl refl, subst (λ q. IsEntryFor r q e) (sym h) a.0)
entry_of r (q ∷ ps) (e ∷ es) a p (inr i) = let t = entry_of r ps es a.1 p i in (t.0, inr t.1, t.2)

-- the entries of all pairs are those of the net under the names of the run
module _ (old : Graph) (r : Replay) (u : IsReplay old r) where
  abbrev g : Graph
  g = r.net

  abbrev here : NamedNet NodeName
  here = net_under u.m (net_of r.net)

  pub here_is : here ≡ net_here r
  here_is = net_alike u.m (names_of r) (net_of g) u.is_net (λ z k i h. sym (u.listed z (node_below g z k i h)))

  pub one_named : (x y : ℕ) → u.m x ≡ u.m y → x ≡ y
  one_named = one_name (length old.nodes) (length g.nodes) (length r.run.journal) u.m (record {
    room = u.named.room;
    initial = u.named.initial;
    rising = u.named.rising;
    born = u.named.born;
  })

  first_is : (p : ℕ × ℕ) (e : Entry) → IsEntryFor r p e → e.first ≡ u.m p.0
  first_is p e a = a.first ∙ u.listed p.0 (pair_below g u.is_net p.0 p.1 e.rule a.pair).0

  second_is : (p : ℕ × ℕ) (e : Entry) → IsEntryFor r p e → e.second ≡ u.m p.1
  second_is p e a = a.second ∙ u.listed p.1 (pair_below g u.is_net p.0 p.1 e.rule a.pair).1

  before : (p q : ℕ × ℕ) (e d : Entry) → IsEntryFor r p e → IsEntryFor r q d → p.0 < q.0 →
      comes_before e.first d.first ≡ true
  before p q e d a b l = rw (first_is p e a, first_is q d b) (u.named.rising p.0 q.0 l)

  rising : (ps : List (ℕ × ℕ)) (es : List Entry) → AreEntries r ps es → AreRisingPairs ps → AreRising es
  rising [] [] a h = tt
  rising [] (e ∷ es) a h = absurd a
  rising (p ∷ ps) [] a h = absurd a
  rising (p ∷ ps) (e ∷ es) a h = (
    (λ d i. let t = pair_of r ps es a.1 d i in before p t.0 e d a.0 t.2 (h.0 t.0 t.1)),
    rising ps es a.1 h.1,
  )

  -- an entry of one of them is that of an active pair
  there : (p : ℕ × ℕ) (e : Entry) → IsEntryFor r p e → IsActiveEntry here e
  there p e a = side (acts g u.is_net p.0 p.1 e.rule a.pair)
    where
      ordered : comes_before e.first e.second ≡ true
      ordered = rw (first_is p e a, second_is p e a) (u.named.rising p.0 p.1 a.pair.lesser)

      side : IsActive (net_of g) p.0 p.1 e.rule ⊎ IsActive (net_of g) p.1 p.0 e.rule → IsActiveEntry here e
      side (inl t) = record {
        f = u.m p.0;
        g = u.m p.1;
        named = record { ordered = ordered; pair = inl (first_is p e a, second_is p e a) };
        active = active_to u.m (net_of g) p.0 p.1 e.rule t;
      }
      side (inr t) = record {
        f = u.m p.1;
        g = u.m p.0;
        named = record { ordered = ordered; pair = inr (first_is p e a, second_is p e a) };
        active = active_to u.m (net_of g) p.1 p.0 e.rule t;
      }

  smaller : (x y : ℕ) → comes_before (u.m x) (u.m y) ≡ true → x < y
  smaller x y h = side (cases_lt x y) (cases_lt y x)
    where
      side : (x < y) ⊎ (y ≤ x) → (y < x) ⊎ (x ≤ y) → x < y
      side (inl l) b = l
      side (inr l) (inl b) = let n = not_before (u.m y) (u.m x) (u.named.rising y x b) in absurd (cc)
      side (inr l) (inr b) =
          let e : y ≡ x = omega arith in
          let k = subst (λ y. comes_before (u.m x) (u.m y) ≡ true) e h in
          let n = not_before_itself (u.m x) in
          absurd (cc)

  module _ (ps : List (ℕ × ℕ)) (all : ArePairs g ps) (es : List Entry) (a : AreEntries r ps es) where
    found : (e : Entry) (x y : ℕ) → e.first ≡ u.m x → e.second ≡ u.m y → IsPair g x y e.rule → IsIn e es
    found e x y i j p =
        let t = entry_of r ps es a (x, y) (all.all x y e.rule p) in
        let same : e ≡ t.0 = one_entry e t.0
        (one_rule (net_of g) u.is_net x e.rule t.0.rule p.active t.2.pair.active)
        (i ∙ sym (first_is (x, y) t.0 t.2)) (j ∙ sym (second_is (x, y) t.0 t.2)) in
        subst (λ d. IsIn d es) (sym same) t.1

    -- and each such entry is there
    back : (e : Entry) → IsActiveEntry here e → IsIn e es
    back e h = side h.named.pair
      where
        f : (x : ℕ) × (y : ℕ) × (h.f ≡ u.m x) × (h.g ≡ u.m y) × IsActive (net_of g) x y e.rule
        f = active_from u.m one_named (net_of g) h.f h.g e.rule h.active

        less : (x y : ℕ) → e.first ≡ u.m x → e.second ≡ u.m y → x < y
        less x y i j = smaller x y (subst (λ a. comes_before a (u.m y) ≡ true) i
            (subst (λ b. comes_before e.first b ≡ true) j h.named.ordered))

        side : ((e.first ≡ h.f) × (e.second ≡ h.g)) ⊎ ((e.first ≡ h.g) × (e.second ≡ h.f)) → IsIn e es
        side (inl (i, j)) =
            let i' = i ∙ f.2 in
            let j' = j ∙ f.3 in
            found e f.0 f.1 i' j' (record {
              lesser = less f.0 f.1 i' j';
              linked = f.4.faces.linked;
              active = (f.1, inl f.4);
            })
        side (inr (i, j)) =
            let i' = i ∙ f.3 in
            let j' = j ∙ f.2 in
            found e f.1 f.0 i' j' (record {
              lesser = less f.1 f.0 i' j';
              linked = linked_sym (net_of g) (slot f.0 0) (slot f.1 0) f.4.faces.linked;
              active = (f.0, inr f.4);
            })

    pub are_active : AreActivePairs (net_here r) es
    are_active = subst (λ N. AreActivePairs N es) here_is (record {
      all = λ e. ((λ i. let t = pair_of r ps es a e i in there t.0 e t.2), back e);
      rising = rising ps es a all.rising;
    })

  pub all_entries : (ps : List (ℕ × ℕ)) → ArePairs g ps →
      (es : List Entry) × AreEntries r ps es × AreActivePairs (net_here r) es
  all_entries ps all = let t = entries_of r ps all.each in (t.0, t.1, are_active ps all t.0 t.1)

-- the later entries after the step of the first one
module _ (old : Graph) (r s : Replay) (u : IsReplay old r) (p : ℕ × ℕ) (a : ReplaysPair r s p.0 p.1) where
  entry_after : (q : ℕ × ℕ) (e : Entry) → p.0 < q.0 → IsEntryFor r q e → IsEntryFor s q e
  entry_after q e l h =
      let b = pair_below r.net u.is_net q.0 q.1 e.rule h.pair in
      record {
        first = h.first ∙ sym (still_named old r s p.0 p.1 u a q.0 b.0);
        second = h.second ∙ sym (still_named old r s p.0 p.1 u a q.1 b.1);
        pair = pair_after r.net u.is_net s.net p.0 p.1 q.0 q.1 a.advances.rule e.rule a.advances.step a.lesser a.linked h.pair l;
      }

  entries_after : (ps : List (ℕ × ℕ)) (es : List Entry) → AreEntries r ps es →
      ((q : ℕ × ℕ) → IsIn q ps → p.0 < q.0) → AreEntries s ps es
  entries_after [] [] h l = tt
  entries_after [] (e ∷ es) h l = absurd h
  entries_after (q ∷ ps) [] h l = absurd h
  entries_after (q ∷ ps) (e ∷ es) h l =
      (entry_after q e (l q (inl refl)) h.0, entries_after ps es h.1 (λ d i. l d (inr i)))

  -- and the first one's
  written : (e : Entry) → IsEntryFor r p e → entry_for r.run a.advances.rule p.0 p.1 ≡ e
  written e h = one_entry (entry_for r.run a.advances.rule p.0 p.1) e
      (one_rule (net_of r.net) u.is_net p.0 a.advances.rule e.rule (side a.advances.step.one_of) h.pair.active)
      (sym h.first) (sym h.second)
    where
      side : (p.0 ≡ a.advances.step.f) ⊎ (p.0 ≡ a.advances.step.g) → IsInActive (net_of r.net) p.0 a.advances.rule
      side (inl e) = (a.advances.step.g, inl (subst (λ x. IsActive (net_of r.net) x a.advances.step.g a.advances.rule) (sym e) a.advances.step.step.active))
      side (inr e) = (a.advances.step.f, inr (subst (λ x. IsActive (net_of r.net) a.advances.step.f x a.advances.rule) (sym e) a.advances.step.step.active))

-- a round up to the pairs that are left
pub record IsPlayedTo (old : Graph) (r s : Replay) (es : List Entry) (left : List (ℕ × ℕ)) : Type 0 where
  pub replay : IsReplay old s
  pub part : List Entry
  pub rest : List Entry
  pub entries_are : es ≡ part ++ rest
  pub rest_are : AreEntries s left rest
  pub run : IsRun (net_here r) (length r.run.journal) part (net_here s)
  pub journal_is : s.run.journal ≡ r.run.journal ++ part

pub played : (old : Graph) (r s : Replay) (ps left : List (ℕ × ℕ)) (es : List Entry) → IsReplay old r →
    AreEntries r ps es → AreRisingPairs ps → Plays r ps left s → IsPlayedTo old r s es left
played old r s ps left es u a h stop = record {
  replay = u;
  part = [];
  rest = es;
  entries_are = refl;
  rest_are = a;
  run = IsRun.end;
  journal_is = sym (append-nil r.run.journal);
}
played old r s (p ∷ ps) left [] u a h (go adv more) = absurd a
played old r s (p ∷ ps) left (e ∷ es) u a h (go {s = q} adv more) =
    let w = written old r q u p adv e a.0 in
    let i = played old q s ps left es (advanced old r q p.0 p.1 u adv)
    (entries_after old r q u p adv ps es a.1 h.0) h.1 more in
    record {
      replay = i.replay;
      part = e ∷ i.part;
      rest = i.rest;
      entries_are = ap (λ (es : List Entry). e ∷ es) i.entries_are;
      rest_are = i.rest_are;
      run = IsRun.then
          (subst (λ d. IsEntryStep (net_here r) (length r.run.journal) d (net_here q)) w
          (step_named old r q p.0 p.1 u adv))
          (subst (λ t. IsRun (net_here q) t i.part (net_here s)) (longer old r q p.0 p.1 u adv) i.run);
      journal_is = i.journal_is
          ∙ ap (λ (js : List Entry). js ++ i.part)
          (adv.advances.journal ∙ ap (λ (d : Entry). r.run.journal ++ d ∷ []) w)
          ∙ append_assoc r.run.journal (e ∷ []) i.part;
    }
