-- A replay makes the step of an entry that some net makes which is the same as its own.
use Rattle.std.proofs.Common.{◌≡◌, ℕ, ◌<◌, ◌≤◌, true, ◌⊎◌, inl, inr, [], ◌∷◌, ◌++◌, length, refl, sym, ap, ◌∙◌, subst, arith}
use Rattle.std.proofs.lemmas.Bool.{cases_lt}
use Rattle.ol_net.specs.declared.parts.Rule.{Rule}
use Rattle.ol_net.specs.Graph.{Graph}
use Rattle.ol_net.specs.Nets.{NamedNet, IsNet, SameNet, net_under}
use Rattle.ol_net.specs.Numbered.{net_of}
use Rattle.ol_rules.specs.declared.journal.NodeName.{NodeName}
use Rattle.ol_rules.specs.declared.journal.Entry.{Entry}
use Rattle.ol_rules.specs.Names.{comes_before}
use Rattle.ol_rules.specs.Runs.{IsEntryStep}
use Rattle.ol_rules.proofs.NameOrder.{Names, not_before, not_before_itself}
use Rattle.ol_diamond.specs.Replaying.{AreIdleNumbers}
use Rattle.ol_diamond.proofs.OneStep.{one_entry_rule}
use Rattle.ol_diamond.proofs.Replays.{Index}
use Rattle.ol_view.proofs.OneVerdict.{not_idle}
use Rattle.ol_view.proofs.Replays.{idle_names}
use Rattle.ol_orders.specs.declared.replaying.Replay.{Replay}
use Rattle.ol_orders.specs.Replays.{IsReplay, ReplaysPair, ReplaysNamed, AreApart}
use Rattle.ol_orders.proofs.KeptRuns as kept

module _ (old : Graph) (r : Replay) (u : IsReplay old r) where
  names : Names (length old.nodes) (length r.net.nodes) (length r.run.journal) u.m
  names = record { room = u.named.room; initial = u.named.initial; rising = u.named.rising; born = u.named.born }

  index : Index r.numbers.bases.items (length r.net.nodes) (length r.run.journal) u.m
  index = record { tickets = u.tickets; last = u.given; finds = u.finds; found = u.found }

  -- the node of the smaller name has the smaller number
  lesser : (x y : ℕ) → comes_before (u.m x) (u.m y) ≡ true → x < y
  lesser x y b = go (cases_lt x y) (cases_lt y x)
    where
      go : (x < y) ⊎ (y ≤ x) → (y < x) ⊎ (x ≤ y) → x < y
      go (inl l) k = l
      go (inr l) (inl k) = let c = not_before (u.m y) (u.m x) (u.named.rising y x k) in absurd (cc)
      go (inr l) (inr k) =
          let e : x ≡ y = omega arith in
          let d = not_before_itself (u.m y) in
          let c : comes_before (u.m y) (u.m y) ≡ true = subst (λ z. comes_before (u.m z) (u.m y) ≡ true) e b in
          absurd (cc)

  module _ (N K : NamedNet NodeName) (t : ℕ) (e : Entry) (s : IsEntryStep N t e K)
      (same : SameNet N (net_under u.m (net_of r.net))) where
    pub not_apart : AreApart r e.first e.second → ⊥
    not_apart apart = not_idle N (net_under u.m (net_of r.net)) K t e e.first e.second same s refl refl
        (idle_names r.net r.numbers.bases.items (length old.nodes) (length r.run.journal) u.m e.first e.second names index idle)
      where
        idle : AreIdleNumbers r.net r.numbers.bases.items e.first e.second
        idle f h p q = apart f h p q (lesser f h
            (subst (λ z. comes_before z (u.m h) ≡ true) (sym (u.found e.first f p).1)
            (subst (λ z. comes_before e.first z ≡ true) (sym (u.found e.second h q).1) s.named.ordered)))

    module _ (n : IsNet N) (r' : Replay) (adv : ReplaysNamed r r' e.first e.second) where
      abbrev after : ReplaysPair r r' adv.x adv.y
      after = adv.pair

      is_first : u.m adv.x ≡ e.first
      is_first = (u.found e.first adv.x adv.first_is).1

      is_second : u.m adv.y ≡ e.second
      is_second = (u.found e.second adv.y adv.second_is).1

      one_rule : e.rule ≡ after.advances.rule
      one_rule = one_entry_rule N (net_under u.m (net_of r.net)) K
          (kept.there old r r' adv.x adv.y u after) t (length r.run.journal) e
          (kept.entry old r r' adv.x adv.y u after) n same s (kept.step old r r' adv.x adv.y u after) (sym is_first)

      -- this entry is written
      pub written : r'.run.journal ≡ r.run.journal ++ e ∷ []
      written = kept.written old r r' adv.x adv.y u after
          ∙ ap (λ (k : Rule). r.run.journal ++ record { rule = k; first = u.m adv.x; second = u.m adv.y } ∷ [])
          (sym one_rule)
          ∙ ap (λ (z : NodeName). r.run.journal ++ record { rule = e.rule; first = z; second = u.m adv.y } ∷ []) is_first
          ∙ ap (λ (z : NodeName). r.run.journal ++ record { rule = e.rule; first = e.first; second = z } ∷ []) is_second
