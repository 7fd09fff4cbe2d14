-- A path that climbed in a levelled net goes on by links alone, to a free port or an active pair.
-- Used in Heads, Lost and Budgets.
use Rattle.std.proofs.Common.{◌≡◌, ℕ, zero, suc, ◌+◌, ◌-◌, ◌*◌, ◌<◌, ◌≤◌, List, length, Option}
use Rattle.std.proofs.Common.{Some, None, ◌⊎◌, inl, inr, refl, sym, subst, arith}
use Rattle.ol_context.specs.Contexts.{Level, Context, up}
use Rattle.ol_context.specs.Paths.{inward, outward, Path, ends, goes, crossings}
use Rattle.ol_context.specs.Short.{live}
use Rattle.ol_context.specs.Ways.{Way}
use Rattle.ol_net.specs.Nets.{NamedNet, NamedPort, free, slot, HasNode, Linked, IsNet}
use Rattle.ol_net.specs.Pairs.{IsActive, IsComplete}
use Rattle.ol_net.specs.Parts.{arity}
use Rattle.ol_net.specs.Rules.{rule_of}
use Rattle.ol_net.specs.declared.parts.Kind.{Kind}
use Rattle.ol_net.specs.declared.parts.Rule.{Rule}
use Rattle.ol_readback.specs.Frames.{asked}
use Rattle.ol_law_levels.specs.Levels.{IsLevelled}
use Rattle.ol_law_levels.proofs.Climbs.{Rose, Climb, top, onward, Route, leaves, turns, falls, way_first, climb_way}
use Rattle.ol_law_levels.proofs.Climbs.{Exit, climb_path, lower, few_ups, few_downs}
use Rattle.ol_law_levels.proofs.Stuck.{no_walk_crosses}
use Rattle.ol_readback.proofs.Enough.{asked_filled}

module _ {A : Type 0} (N : NamedNet A) where
  -- z is one of the two nodes of an active pair
  abbrev pub AtActive : A → Type 0
  AtActive z = (w : A) × (r : Rule) × (IsActive N z w r ⊎ IsActive N w z r)

  -- from slot 0 of x one climbs to a free port, or to an active pair
  abbrev pub Top : A → Type 0
  Top x =
      ((q : ℕ) × (n : ℕ) × Climb N (Exit N q) x n) ⊎ ((n : ℕ) × Climb N AtActive x n)

  -- how many nodes a path goes down through before it first goes up
  abbrev pub downs : {u : NamedPort A} {c d : Context} {q : ℕ} → Path N u c q d → ℕ
  downs (ends l) = 0
  downs (goes l h (inward b e) r) = 0
  downs (goes l h (outward b e) r) = suc (downs r)

  -- a walk from u with c comes to an active pair
  pub record Meets (u : NamedPort A) (c : Context) : Type 0 where
    pub made : ℕ
    pub node : A
    pub context : Context
    pub active : AtActive node
    pub way : Way N u c made (slot node 0) context

  pub route_out : {u : NamedPort A} {c : Context} {n : ℕ} → Route N Top u c n →
      ((q : ℕ) × (d : Context) × Path N u c q d) ⊎ Meets u c
  route_out {c = c} (leaves q l) = inl (q, c, ends l)
  route_out {c = c} (turns {s = s} k i l h b (inl (q, n, t))) =
      let p = climb_path N q t (up k i s c) in
      inl (q, p.0, goes l h (inward b refl) p.1)
  route_out {c = c} (turns {s = s} k i l h b (inr (n, t))) =
      let w = climb_way N t (up k i s c) in
      inr (record {
        made = suc n;
        node = w.0;
        context = w.1;
        active = w.2;
        way =
            way_first N l h (inward b refl) w.3;
      })
  route_out {u} {c} (falls {d = d} {x = x} {s = s} k i l h b e r) = go (route_out r)
    where
      go : ((q : ℕ) × (d' : Context) × Path N (slot x (suc s)) d q d') ⊎ Meets (slot x (suc s)) d →
          ((q : ℕ) × (d' : Context) × Path N u c q d') ⊎ Meets u c
      go (inl t) = inl (t.0, t.1, goes l h (outward b e) t.2)
      go (inr t) = inr (record {
        made = suc t.made;
        node = t.node;
        context = t.context;
        active =
            t.active;
        way = way_first N l h (outward b e) t.way;
      })

  module _ (L : IsLevelled N) where
    -- where a path crosses a facing pair, this is active
    pub active_of : (x y : A) (c : Context) → Rose N x c → Linked N (slot x 0) (slot y 0) →
        (k : Kind) (i t : ℕ) (d : Context) → HasNode N y k i → t < arity k → up k i t d ≡ c →
        AtActive x
    active_of x y c z l k i t d h b e = go (rule_of z.k z.i k i) (rule_of k i z.k z.i) refl refl
      where
        flip : Linked N (slot x 0) (slot y 0) → Linked N (slot y 0) (slot x 0)
        flip (inl h) = inr h
        flip (inr h) = inl h

        go : (r s : Option Rule) → rule_of z.k z.i k i ≡ r → rule_of k i z.k z.i ≡ s → AtActive x
        go (Some r) s q q' = (
          y,
          r,
          inl (record {
            k = z.k;
            i = z.i;
            l = k;
            j = i;
            faces = record { first = z.node; second = h; linked = l };
            fits = q;
          }),
        )
        go None (Some s) q q' = (
          y,
          s,
          inr (record {
            k = k;
            i = i;
            l = z.k;
            j = z.i;
            faces = record { first = h; second = z.node; linked = flip l };
            fits = q';
          }),
        )
        go None None q q' =
            absurd (no_walk_crosses N L x y
            (record {
              k = z.k;
              i = z.i;
              l = k;
              j = i;
              faces = record { first = z.node; second = h; linked = l };
              first = q;
              second = q';
            })
            z.s t z.b c d (inward z.low z.crosses) (outward b e))

    pub path_top : (x : A) {c d : Context} {q : ℕ} → Rose N x c → (r : Path N (slot x 0) c q d) →
        Climb N (Exit N q) x (crossings r) ⊎ ((n : ℕ) × Climb N AtActive x n)
    path_top x z (ends l) = inl (top l)
    path_top x {c} z (goes {x = y} {k = k} {i = i} l h (outward {s = t} {c = d} b e) r) =
        inr (0, top (active_of x y c z l k i t d h b e))
    path_top x {c} {q = q} z (goes {x = y} {k = k} {i = i} l h (inward {s = s} b e) r) =
        go (path_top y (record { k = k; i = i; s = s; b = c; node = h; low = b; crosses = e }) r)
      where
        go : Climb N (Exit N q) y (crossings r) ⊎ ((n : ℕ) × Climb N AtActive y n) →
            Climb N (Exit N q) x (suc (crossings r)) ⊎ ((n : ℕ) × Climb N AtActive x n)
        go (inl t) = inl (onward k i l h b t)
        go (inr t) = inr (suc t.0, onward k i l h b t.1)

    pub path_route : {u : NamedPort A} {c d : Context} {q : ℕ} (r : Path N u c q d) →
        Route N Top u c (downs r)
    path_route {q = q} (ends l) = leaves q l
    path_route {c = c} {q = q} (goes {x = y} {k = k} {i = i} l h (inward {s = s} b e) r) =
        turns k i l h b (go (path_top y
        (record { k = k; i = i; s = s; b = c; node = h; low = b; crosses = e }) r))
      where
        go : Climb N (Exit N q) y (crossings r) ⊎ ((n : ℕ) × Climb N AtActive y n) → Top y
        go (inl t) = inl (q, crossings r, t)
        go (inr t) = inr t
    path_route (goes {k = k} {i = i} l h (outward b e) r) = falls k i l h b e (path_route r)

    module _ (is_net : IsNet N) (p : ℕ) where
      pub path_downs : {c d : Context} {q : ℕ} (r : Path N (free p) c q d) → downs r ≤ live N
      path_downs r = few_downs N is_net p Top (path_route r)

      lower_by : (ls : List Level) (k m : ℕ) {n : ℕ} → Route N Top (free p) (asked ls (k + m)) n →
          n ≤ m →
          Route N Top (free p) (asked ls m) n
      lower_by ls zero m {n} r b =
          let e : 0 + m ≡ m = omega arith in
          subst (λ m. Route N Top (free p) (asked ls m) n) e r
      lower_by ls (suc k) m {n} r b =
          let t = asked_filled ls in
          let e : suc k + m ≡ suc (k + m) = omega arith in
          let c = t.1 (suc (k + m)) in
          let r' = subst (λ m. Route N Top (free p) (asked ls m) n) e r in
          let low = lower N Top (free p) r' (length ls) (k + m) t.0 c (omega arith) in
          lower_by ls k m (subst (λ c. Route N Top (free p) c n) (sym (t.1 (k + m))) low) b

      -- A path that asks for so many abstractions tells where one leads that asks for fewer, but
      -- for at least as many as there are nodes.
      pub asked_less : (ls : List Level) (m n q : ℕ) (X : Context) →
          Path N (free p) (asked ls n) q X →
          live N ≤ m → m ≤ n →
          ((q' : ℕ) × (X' : Context) × Path N (free p) (asked ls m) q' X')
          ⊎ Meets (free p) (asked ls m)
      asked_less ls m n q X r b b' = go n (path_route r) b'
        where
          few : downs r ≤ live N
          few = path_downs r

          go : (n : ℕ) → Route N Top (free p) (asked ls n) (downs r) → m ≤ n →
              ((q' : ℕ) × (X' : Context) × Path N (free p) (asked ls m) q' X')
              ⊎ Meets (free p) (asked ls m)
          go n w b' =
              let e : n ≡ (n - m) + m = omega arith in
              route_out (lower_by ls (n - m) m
              (subst (λ n. Route N Top (free p) (asked ls n) (downs r)) e w) (omega (arith, few)))

    module _ (complete : IsComplete N) where
      pub not_active : (x : A) → AtActive x → ⊥
      not_active x (w, r, inl a) = complete x w r a
      not_active x (w, r, inr a) = complete w x r a

      no_climb : {x : A} {n : ℕ} → Climb N AtActive x n → ⊥
      no_climb {x} (top a) = not_active x a
      no_climb (onward k i l h b r) = no_climb r

      -- the crossings of a path are those down and those up
      up_crossings : (is_net : IsNet N) {u : NamedPort A} {c d : Context} {q : ℕ}
          (r : Path N u c q d) →
          crossings r ≤ downs r + live N
      up_crossings is_net (ends l) = omega arith
      up_crossings is_net (goes l h (outward b e) r) = let a = up_crossings is_net r in omega arith
      up_crossings is_net {c = c} {q =
          q} (goes {x = y} {k = k} {i = i} l h (inward {s = s} b e) r) =
          go (path_top y (record { k = k; i = i; s = s; b = c; node = h; low = b; crosses = e }) r)
        where
          go : Climb N (Exit N q) y (crossings r) ⊎ ((n : ℕ) × Climb N AtActive y n) →
              suc (crossings r) ≤ 0 + live N
          go (inl t) = let a = few_ups N is_net q y t (k, i, h) in omega arith
          go (inr t) = absurd (no_climb t.1)

      pub short : IsNet N → (p : ℕ) {c d : Context} {q : ℕ} (r : Path N (free p) c q d) →
          crossings r ≤ 2 * live N
      short is_net p r =
          let a = path_downs is_net p r in
          let b = up_crossings is_net r in
          omega arith

      no_meeting : {u : NamedPort A} {c : Context} → Meets u c → ⊥
      no_meeting m = not_active m.node m.active

      cases : (n m : ℕ) → (n ≤ m) ⊎ (m < n)
      cases n m = grind arith

      pub few_enough : IsNet N → (p : ℕ) (ls : List Level) (n q : ℕ) (X : Context) →
          Path N (free p) (asked ls n) q X →
          (m : ℕ) × (q' : ℕ) × (X' : Context) × (m ≤ live N) × (m ≤ n)
          × Path N (free p) (asked ls m) q' X'
      few_enough is_net p ls n q X r = go (cases n (live N))
        where
          less : live N < n → ((q' : ℕ) × (X' : Context)
              × Path N (free p) (asked ls (live N)) q' X')
              ⊎ Meets (free p) (asked ls (live N)) → (m : ℕ) × (q' : ℕ) × (X' : Context)
              × (m ≤ live N) × (m ≤ n)
              × Path N (free p) (asked ls m) q' X'
          less b (inl t) = (live N, t.0, t.1, omega arith, omega arith, t.2)
          less b (inr t) = absurd (no_meeting t)

          go : (n ≤ live N) ⊎ (live N < n) → (m : ℕ) × (q' : ℕ) × (X' : Context) × (m ≤ live N)
              × (m ≤ n)
              × Path N (free p) (asked ls m) q' X'
          go (inl b) = (n, q, X, b, omega arith, r)
          go (inr b) = less b (asked_less is_net p ls (live N) n q X r (omega arith) (omega arith))
