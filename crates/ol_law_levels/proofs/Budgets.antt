-- A walk that used up its crossings in a levelled net never leaves, nor does one for more.
-- Used in AskedTrees and DemandPlaces, and for `cut_places_have_no_head`.
use Rattle.std.proofs.Common.{◌≡◌, ℕ, suc, ◌+◌, ◌*◌, ◌<◌, ◌≤◌, ◌⊎◌, inl, inr, List, length, refl, sym, subst, arith}
use Rattle.std.proofs.lemmas.Bool.{cases_lt}
use Rattle.ol_context.specs.Contexts.{Level, Context, up}
use Rattle.ol_context.specs.Paths.{inward, outward, Path}
use Rattle.ol_context.specs.Short.{live}
use Rattle.ol_context.specs.Ways.{Way, start, WalkStands}
use Rattle.ol_context.proofs.Ways.{way_exits}
use Rattle.ol_context.proofs.Exits.{Three, three, no_stand}
use Rattle.ol_net.specs.Nets.{NamedNet, NamedPort, free, slot, Linked, IsNet}
use Rattle.ol_net.specs.Pairs.{IsComplete}
use Rattle.ol_readback.specs.Frames.{Frame, frame_at, asked}
use Rattle.ol_readback.specs.Heads.{Answer, no_head, budget, NoPath, IsHead, IsHeadWithin, spends}
use Rattle.ol_readback.specs.Heads as heads
use Rattle.ol_readback.proofs.Kept.{no_path}
use Rattle.ol_demand.specs.Chains.{IsAtNoPair, Stands, at_pair, at_port, barred, at_last, End, Ends}
use Rattle.ol_demand.specs.Chains as chains
use Rattle.ol_demand.proofs.Chains.{chain_way}
use Rattle.ol_law_levels.specs.Levels.{IsLevelled}
use Rattle.ol_law_levels.specs.Asked.{StandingIsLost, BudgetIsNoHead, SpentIsLost}
use Rattle.ol_law_levels.proofs.Climbs.{Route, leaves, turns, falls, way_first, climb_way, IsTop, few_ups, few_ups_to}
use Rattle.ol_law_levels.proofs.Tops.{AtActive, Top, Meets, downs, path_route, path_downs, not_active}
use Rattle.ol_readback.proofs.Enough.{asked_filled}
use Rattle.ol_law_levels.proofs.Downwards.{also_down}
use Rattle.ol_law_levels.proofs.Lost.{stood, apart_at}

module _ {A : Type 0} (N : NamedNet A) where
  -- within so many crossings the walk from u with c comes to a free port or to an active pair
  record Halt (u : NamedPort A) (c : Context) (most : ℕ) : Type 0 where
    made : ℕ
    few : made ≤ most
    port : NamedPort A
    context : Context
    way : Way N u c made port context
    halted : ((q : ℕ) × Linked N port (free q)) ⊎ ((z : A) × (port ≡ slot z 0) × AtActive N z)

  module _ (is_net : IsNet N) where
    active_is_top : IsTop N is_net (AtActive N)
    active_is_top x y s (w, r, inl a) l = apart w a.faces.linked
      where
        apart : (w : A) → Linked N (slot x 0) (slot w 0) → ⊥
        apart w k = let e : slot w 0 ≡ slot y (suc s) =
            is_net.one_link (slot x 0) (slot w 0) (slot y (suc s)) k l in absurd (cc)
    active_is_top x y s (w, r, inr a) l = apart w (flip a.faces.linked)
      where
        flip : Linked N (slot w 0) (slot x 0) → Linked N (slot x 0) (slot w 0)
        flip (inl h) = inr h
        flip (inr h) = inl h

        apart : (w : A) → Linked N (slot x 0) (slot w 0) → ⊥
        apart w k = let e : slot w 0 ≡ slot y (suc s) =
            is_net.one_link (slot x 0) (slot w 0) (slot y (suc s)) k l in absurd (cc)

    route_halts : {u : NamedPort A} {c : Context} {n : ℕ} → Route N (Top N) u c n →
        Halt u c (n + live N)
    route_halts {u} {c} (leaves q l) = record {
      made = 0;
      few = omega arith;
      port = u;
      context = c;
      way = start;
      halted = inl (q, l);
    }
    route_halts {u} {c} (turns {x = x} {s = s} k i l h b (inl (q, n, t))) =
        let w = climb_way N t (up k i s c) in
        let f = few_ups N is_net q x t (k, i, h) in
        record {
          made = suc n;
          few = omega arith;
          port = slot w.0 0;
          context = w.1;
          way = way_first N l h (inward b refl) w.3;
          halted = inl (q, w.2);
        }
    route_halts {u} {c} (turns {x = x} {s = s} k i l h b (inr (n, t))) =
        let w = climb_way N t (up k i s c) in
        let f = few_ups_to N is_net (AtActive N) active_is_top x t (k, i, h) in
        record {
          made = suc n;
          few = omega arith;
          port = slot w.0 0;
          context = w.1;
          way = way_first N l h (inward b refl) w.3;
          halted = inr (w.0, refl, w.2);
        }
    route_halts {u} {c} (falls {n = m} k i l h b e r) =
        let t = route_halts r in
        let f = t.few in
        record {
          made = suc t.made;
          few = omega arith;
          port = t.port;
          context = t.context;
          way = way_first N l h (outward b e) t.way;
          halted = t.halted;
        }

    module _ (L : IsLevelled N) (p : ℕ) (ls : List Level) (n most : ℕ) {v : NamedPort A}
        {e0 : Context} (whole : Way N (free p) (asked ls n) most v e0) (many : 2 * live N ≤ most)
      where
        -- where a path leaves for more abstractions, this walk comes to its end soon
        halts : (m q : ℕ) (X : Context) → n ≤ m → Path N (free p) (asked ls m) q X →
            Halt (free p) (asked ls n) (2 * live N)
        halts m q X z r =
            let few = path_downs N L is_net p r in
            let t = asked_filled ls in
            let first = subst (λ c. Way N (free p) (asked ls n) 0 (free p) c) (t.1 n) start in
            let low = also_down N is_net (Top N) p (asked ls n) most whole (free p)
            (path_route N L r) (length ls) n m t.0 (t.1 m) z 0 first (omega (arith, few, many)) in
            soon (route_halts (subst (λ c. Route N (Top N) (free p) c (downs N r)) (sym (t.1 n)) low))
          where
            soon : Halt (free p) (asked ls n) (downs N r + live N) →
                Halt (free p) (asked ls n) (2 * live N)
            soon h =
                let few = path_downs N L is_net p r in
                let f = h.few in
                record {
                  made = h.made;
                  few = omega arith;
                  port = h.port;
                  context = h.context;
                  way = h.way;
                  halted = h.halted;
                }

    -- a walk that halts at a free port doesn't stand later
    not_out : {p : ℕ} {c : Context} (made edges : ℕ) {u : NamedPort A} {d : Context} →
        Way N (free p) c made u d → (q : ℕ) → Linked N u (free q) → made ≤ edges →
        WalkStands N (free p) c edges → ⊥
    not_out {p = p} {c = c} made edges {d = d} w q l few s =
        let x = way_exits N edges made q w l few in
        let a = x.long in
        no_stand N is_net (free p) c q d x.path edges (omega arith) s

module _ {A : Type 0} where
  pub standing_is_lost : StandingIsLost A
  standing_is_lost N is_net L complete p ls n edges many s m z q X r =
      go (halts N is_net L p ls n edges s.way many m q X z r)
    where
      go : Halt N (free p) (asked ls n) (2 * live N) → ⊥
      go h = by h.halted
        where
          by : ((q : ℕ) × Linked N h.port (free q))
              ⊎ ((z : A) × (h.port ≡ slot z 0) × AtActive N z) → ⊥
          by (inl (q, l)) =
              let f = h.few in
              not_out N is_net h.made edges h.way q l (omega arith) s
          by (inr (z, e, a)) = not_active N L complete z a

  -- a budget of enough crossings was met in a ring
  is_none : (N : NamedNet A) → IsNet N → IsLevelled N → IsComplete N → (F : List Frame)
      (i e : ℕ) → 2 * live N ≤ e → (a : Answer) → IsHeadWithin N F i e a → a ≡ budget →
      IsHead N F i no_head
  is_none N is_net L complete F i e many a (heads.leaves b h w (heads.matched x)) z = absurd (cc)
  is_none N is_net L complete F i e many a (heads.leaves b h w (heads.unmatched x)) z = absurd (cc)
  is_none N is_net L complete F i e many a (heads.never h) z = absurd (cc)
  is_none N is_net L complete F i e many a (spends {n = n} b h s) z =
      heads.never (λ m. none m (cases_lt m n))
    where
      none : (m : ℕ) → (m < n) ⊎ (n ≤ m) →
          NoPath N (frame_at F i).port (asked (frame_at F i).levels m)
      none m (inl c) =
          no_path N (frame_at F i).port (asked (frame_at F i).levels m) e (h m c)
      none m (inr c) =
          standing_is_lost N is_net L complete (frame_at F i).port (frame_at F i).levels n e many s
          m c

  pub budget_is_no_head : BudgetIsNoHead A
  budget_is_no_head N is_net L complete F i e many h =
      is_none N is_net L complete F i e many budget h refl

  pub spent_is_lost : SpentIsLost A
  spent_is_lost N is_net L p ls n x m z q X r = at_end x.stands refl
    where
      -- the chain met no active pair where its walk halts
      by : IsAtNoPair N x.port → 2 * live N ≤ x.made → WalkStands N (free p) (asked ls n) x.made →
          Halt N (free p) (asked ls n) (2 * live N) → ⊥
      by alone many s h = go h.halted
        where
          met : (y : A) → h.port ≡ slot y 0 → AtActive N y → Meets N (free p) (asked ls n)
          met y e a = record {
            made = h.made;
            node = y;
            context = h.context;
            active = a;
            way =
                subst (λ u. Way N (free p) (asked ls n) h.made u h.context) e h.way;
          }

          apart : (y : A) → h.port ≡ slot y 0 → AtActive N y → Three h.made x.made → ⊥
          apart y e a (inl (inl c)) =
              let t = stood N h.made x.chain c in
              apart_at N is_net p (asked ls n) h.made t.chain t.alone (met y e a) refl
          apart y e a (inl (inr c)) =
              apart_at N is_net p (asked ls n) x.made x.chain alone (met y e a) (sym c)
          apart y e a (inr c) = let f = h.few in absurd (omega arith)

          go : ((q : ℕ) × Linked N h.port (free q))
              ⊎ ((z : A) × (h.port ≡ slot z 0) × AtActive N z) → ⊥
          go (inl (q, l)) =
              let f = h.few in
              not_out N is_net h.made x.made h.way q l (omega arith) s
          go (inr (y, e, a)) = apart y e a (three h.made x.made)

      at_end : {end : End A} → Stands N x.made x.port x.context end → end ≡ chains.budget → ⊥
      at_end (at_pair y) e = absurd (cc)
      at_end (at_port y) e = absurd (cc)
      at_end (barred a l b) e = absurd (cc)
      at_end (at_last {x = y} {s = s} a l t many) e =
          by a many
          (record {
            port = x.port;
            context = x.context;
            way = chain_way N x.chain;
            node = y;
            at = s;
            linked = l;
          })
          (halts N is_net L p ls n x.made (chain_way N x.chain) many m q X z r)
