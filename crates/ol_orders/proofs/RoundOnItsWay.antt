-- A round on its way, pair by pair.
use Rattle.std.proofs.Common.{◌≡◌, ◌≢◌, ℕ, ◌+◌, ◌*◌, ◌<◌, ◌≤◌, List, [], ◌∷◌, length, get_or, drop}
use Rattle.std.proofs.Common.{inl, inr, refl, sym, subst, arith}
use Rattle.std.proofs.lemmas.List.{drop_more, drop_all}
use Rattle.std.specs.BTreeSet.{BTreeSet}
use Rattle.ol_net.specs.declared.parts.Rule.{Rule}
use Rattle.ol_net.specs.Nets.{IsNet}
use Rattle.ol_net.specs.Numbered.{net_of}
use Rattle.ol_rules.specs.Running.{AllWait}
use Rattle.ol_rules.proofs.OnTheWay.{step_few}
use Rattle.ol_orders.specs.declared.replaying.Replay.{Replay}
use Rattle.ol_orders.specs.Replays.{ReplaysPair}
use Rattle.ol_orders.specs.Played.{IsPair, ArePairs, StillWait, NewWait, Plays, IsCut}
use Rattle.ol_orders.proofs.ActivePairs.{AreStillActive, left_after, OthersWait, of_pair, others_on, all_wait}
use Rattle.ol_orders.proofs.RoundByRound.{grown}

-- What is left is active still and completes the round, and each other node of an active pair waits.
pub record IsPlaying (first r : Replay) (waiting : BTreeSet ℕ) (pairs : List (ℕ × ℕ)) (i fuel : ℕ) : Type 0 where
  pub left : AreStillActive r.net (drop i pairs)
  pub waits : OthersWait r.net waiting (drop i pairs)
  pub on : (left : List (ℕ × ℕ)) (s : Replay) → Plays r (drop i pairs) left s → Plays first pairs left s
  pub few : length r.net.nodes + 4 * fuel ≤ 2000000000 + 4 * length r.run.journal
  pub within : length r.run.journal ≤ fuel

pub round_begun : (r : Replay) (waiting : BTreeSet ℕ) (pairs : List (ℕ × ℕ)) (fuel : ℕ) → IsNet (net_of r.net) →
    ArePairs r.net pairs → length r.net.nodes + 4 * fuel ≤ 2000000000 + 4 * length r.run.journal →
    length r.run.journal ≤ fuel → IsPlaying r r waiting pairs 0 fuel
round_begun r waiting pairs fuel n all few within = record {
  left = record { each = all.each; rising = all.rising };
  waits = λ z rule a. inr (of_pair r.net n pairs all z rule a);
  on = λ left s p. p;
  few = few;
  within = within;
}

module _ (first r : Replay) (w : BTreeSet ℕ) (pairs : List (ℕ × ℕ)) (i fuel : ℕ)
    (p : IsPlaying first r w pairs i fuel) where
  -- the next pair
  pub next_pair : (d : ℕ × ℕ) → i < length pairs → (rule : Rule) × IsPair r.net (get_or pairs i d).0 (get_or pairs i d).1 rule
  next_pair d h = (subst (λ ps. AreStillActive r.net ps) (drop_more pairs i d h) p.left).each (get_or pairs i d) (inl refl)

  pub turn_on : (d : ℕ × ℕ) (s : Replay) (w' : BTreeSet ℕ) → i < length pairs → length r.run.journal ≢ fuel →
      ReplaysPair r s (get_or pairs i d).0 (get_or pairs i d).1 → StillWait w w' →
      NewWait r.net s.net (get_or pairs i d).0 (get_or pairs i d).1 w' → IsPlaying first s w' pairs (i + 1) fuel
  turn_on d s w' h more a kept new =
      let e = drop_more pairs i d h in
      let q = get_or pairs i d in
      let g = grown r s q.0 q.1 a in
      record {
        left = left_after r.net s.net a.old_net q (drop (i + 1) pairs) (subst (λ ps. AreStillActive r.net ps) e p.left)
            a.advances.rule a.advances.step;
        waits = others_on r.net s.net w w' q (drop (i + 1) pairs)
            (subst (λ ps. OthersWait r.net w ps) e p.waits) kept new;
        on = λ left t z. p.on left t (subst (λ ps. Plays r ps left t) (sym e) (Plays.go a z));
        few = let f = p.few in let l = step_few r.net s.net q.0 a.advances.rule a.advances.step in omega arith;
        within = let l = p.within in omega arith;
      }

  -- the fuel is used up
  pub is_cut : i < length pairs → length r.run.journal ≡ fuel → IsCut fuel first pairs r
  is_cut h q = record {
    next = get_or pairs i (0, 0);
    later = drop (i + 1) pairs;
    plays = p.on (get_or pairs i (0, 0) ∷ drop (i + 1) pairs) r
        (subst (λ ps. Plays r (drop i pairs) ps r) (drop_more pairs i (0, 0) h) Plays.stop);
    spent = q;
  }

  -- no pair is left
  pub all_played : length pairs ≤ i → Plays first pairs [] r
  all_played h = p.on [] r (subst (λ ps. Plays r ps [] r) (sym (drop_all i pairs h)) Plays.stop)

  pub all_waits : length pairs ≤ i → AllWait r.net w
  all_waits h = all_wait r.net w (subst (λ ps. OthersWait r.net w ps) (drop_all i pairs h) p.waits)
