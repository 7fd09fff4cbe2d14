-- The machine comes to its end, if leftmost reduction does, after no more beta steps.
use Rattle.std.proofs.Common.{◌≡◌, ℕ, zero, suc, ◌+◌, ◌<◌, ◌≤◌, true, inl, inr, refl, sym, ap, subst, arith}
use Rattle.std.proofs.Common.{Bool, false, List, length, ◌==◌, ◌&&◌, ◌∙◌}
use Rattle.std.proofs.lemmas.Bool.{and_parts, and_from}
use Rattle.ol_counts.specs.Machines.{Machine, Link, Control, goes, came, function, name, next, after, has_name, is_ended}
use Rattle.ol_law_optimality.specs.Labels.{Labelled}
use Rattle.ol_counts.proofs.Firsts.{LeadsToHead, head_on, Leads, leads_on}
use Rattle.ol_counts.specs.NeedLaws.{has_head, has_come_to_name}
use Rattle.ol_counts.proofs.Moving.{State, measure_of, Outcome}
use Rattle.ol_counts.proofs.Stepping.{moves_on}
use Rattle.ol_counts.proofs.Weights.{Four, Less, by_less}

pub after_next : (n : ℕ) (m : Machine) → after n (next m) ≡ next (after n m)
after_next zero m = refl
after_next (suc n) m = ap next (after_next n m)

pub record Ends (k : ℕ) (m : Machine) : Type 0 where
  pub moves : ℕ
  pub ends : is_ended (after moves m) ≡ true
  pub few : (after moves m).steps ≤ m.steps + k

later : (k j : ℕ) (m : Machine) → Ends k (next m) → (next m).steps + k ≤ m.steps + j → Ends j m
later k j m x l =
    let e = after_next x.moves m in
    let f : (after x.moves (next m)).steps ≡ (next (after x.moves m)).steps = ap (λ m. m.steps) e in
    let g = x.few in
    record {
      moves = suc x.moves;
      ends = subst (λ m. is_ended m ≡ true) e x.ends;
      few = omega (arith, f, g, l);
    }

module _ (T : Labelled) where
  pub ends : (k j : ℕ) → j < k → (m : Machine) (s : State T m) → Leads j s.held.whole → Ends j m
  ends zero j l m s h = absurd (omega (arith, l))
  ends (suc k) j l m s h =
      by_less
      (λ x. (m : Machine) (s : State T m) → measure_of m.control s.held ≡ x → Leads j s.held.whole → Ends j m)
      (λ x f m s e h. go x f m s e h (λ i q n t g. ends k i (omega (arith, l, q)) n t g))
      (measure_of m.control s.held) m s refl h
    where
      go : (x : Four) →
          ((y : Four) → Less y x → (m : Machine) (s : State T m) → measure_of m.control s.held ≡ y → Leads j s.held.whole → Ends j m) →
          (m : Machine) (s : State T m) → measure_of m.control s.held ≡ x →
          Leads j s.held.whole →
          ((i : ℕ) → i < j → (n : Machine) (t : State T n) → Leads i t.held.whole → Ends i n) →
          Ends j m
      go x f m s e h g = at (moves_on T m s)
        where
          at : Outcome T m (next m) s.held.whole (measure_of m.control s.held)
              ((s.held.alone ≡ true) × (has_head m ≡ true → ⊥)) → Ends j m
          at (inl o) =
              let q = o.count_is in
              later j j m
              (f (measure_of (next m).control o.state.held) (subst (λ x. Less (measure_of (next m).control o.state.held) x) e o.less) (next m)
              o.state refl (subst (λ W. Leads j W) (sym o.whole) h))
              (omega (arith, q))
          at (inr (inl c)) =
              let q = c.count_is in
              let y = leads_on h c.first in
              let r = y.fewer in
              later y.left j m (g y.left (omega (arith, r)) (next m) c.state y.leads)
              (omega (arith, q, r))
          at (inr (inr c)) = record { moves = 0; ends = c.1; few = omega arith }

-- ---- a head

pub record Heads (k : ℕ) (m : Machine) : Type 0 where
  pub moves : ℕ
  pub headed : has_head (after moves m) ≡ true
  pub few : (after moves m).steps ≤ m.steps + k

later_head : (k j : ℕ) (m : Machine) → Heads k (next m) → (next m).steps + k ≤ m.steps + j → Heads j m
later_head k j m x l =
    let e = after_next x.moves m in
    let f : (after x.moves (next m)).steps ≡ (next (after x.moves m)).steps = ap (λ m. m.steps) e in
    let g = x.few in
    record {
      moves = suc x.moves;
      headed = subst (λ m. has_head m ≡ true) e x.headed;
      few = omega (arith, f, g, l);
    }

clash : false ≡ true → ⊥
clash e = absurd (cc)

name_of : (links : List Link) (control : Control) → has_name links control ≡ true →
    has_come_to_name control ≡ true
name_of links (goes t e) q = absurd (clash q)
name_of links (came (function body e)) q = absurd (clash q)
name_of links (came (name e)) q = refl

-- where it has ended there is a head
pub ended_head : (m : Machine) → is_ended m ≡ true → has_head m ≡ true
ended_head m e =
    let p = and_parts ((length m.stack == 0) && (length m.left == 0)) (has_name m.links m.control) e in
    let q = and_parts (length m.stack == 0) (length m.left == 0) p.0 in
    and_from (length m.stack == 0) (has_come_to_name m.control) q.0 (name_of m.links m.control p.1)

module _ (T : Labelled) where
  pub heads : (k j : ℕ) → j < k → (m : Machine) (s : State T m) → s.held.alone ≡ true →
      LeadsToHead j s.held.whole → Heads j m
  heads zero j l m s a h = absurd (omega (arith, l))
  heads (suc k) j l m s a h =
      by_less
      (λ x. (m : Machine) (s : State T m) → measure_of m.control s.held ≡ x → s.held.alone ≡ true → LeadsToHead j s.held.whole → Heads j m)
      (λ x f m s e a h. go x f m s e a h (has_head m) refl
      (λ i q n t b g. heads k i (omega (arith, l, q)) n t b g))
      (measure_of m.control s.held) m s refl a h
    where
      go : (x : Four) →
          ((y : Four) → Less y x → (m : Machine) (s : State T m) → measure_of m.control s.held ≡ y → s.held.alone ≡ true → LeadsToHead j s.held.whole → Heads j m) →
          (m : Machine) (s : State T m) → measure_of m.control s.held ≡ x →
          s.held.alone ≡ true → LeadsToHead j s.held.whole → (b : Bool) → has_head m ≡ b →
          ((i : ℕ) → i < j → (n : Machine) (t : State T n) → t.held.alone ≡ true → LeadsToHead i t.held.whole → Heads i n) →
          Heads j m
      go x f m s e a h true q g = record { moves = 0; headed = q; few = omega arith }
      go x f m s e a h false q g = at (moves_on T m s)
        where
          not_headed : has_head m ≡ true → ⊥
          not_headed r = clash (sym q ∙ r)

          at : Outcome T m (next m) s.held.whole (measure_of m.control s.held)
              ((s.held.alone ≡ true) × (has_head m ≡ true → ⊥)) → Heads j m
          at (inl o) =
              let q = o.count_is in
              later_head j j m
              (f (measure_of (next m).control o.state.held)
              (subst (λ x. Less (measure_of (next m).control o.state.held) x) e o.less) (next m)
              o.state refl (o.keeps (a, not_headed)) (subst (λ W. LeadsToHead j W) (sym o.whole) h))
              (omega (arith, q))
          at (inr (inl c)) =
              let q = c.count_is in
              let y = head_on h (c.not_yet (a, not_headed)) c.first in
              let r = y.fewer in
              later_head y.left j m
              (g y.left (omega (arith, r)) (next m) c.state (c.keeps (a, not_headed)) y.leads)
              (omega (arith, q, r))
          at (inr (inr c)) = absurd (not_headed (ended_head m c.1))
