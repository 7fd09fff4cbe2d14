-- Walks that go down, turn once and climb by links alone go through few nodes, each once.
-- Used in Tops, Downwards, Turning and Budgets.
use Rattle.std.proofs.Common.{◌≡◌, ℕ, zero, suc, ◌<◌, ◌≤◌, List, [], ◌∷◌, map, length, inl, inr}
use Rattle.std.proofs.Common.{refl, sym, ap, ◌∙◌, subst, arith}
use Rattle.std.proofs.lemmas.List.{length-map}
use Rattle.ol_law_edges.specs.Edges.{IsIn}
use Rattle.ol_law_edges.proofs.Lists.{in_map}
use Rattle.ol_net.specs.declared.parts.Kind.{Kind}
use Rattle.ol_net.specs.Parts.{arity}
use Rattle.ol_net.specs.Nets.{NamedNet, NamedPort, free, slot, HasNode, Linked, IsNet}
use Rattle.ol_context.specs.Contexts.{empty, Context, up}
use Rattle.ol_context.specs.Paths.{Crosses, inward, Path, ends, goes}
use Rattle.ol_context.specs.Short.{live, IsOnce}
use Rattle.ol_context.specs.Ways.{Way, start, on}
use Rattle.ol_context.proofs.Short.{few}
use Rattle.ol_readback.specs.Frames.{os}
use Rattle.ol_readback.proofs.Holes.{fill, Before, moved, stripped, before}

-- a walk may have come to slot 0 of x with this context, up through x
pub record Rose {A : Type 0} (N : NamedNet A) (x : A) (c : Context) : Type 0 where
  pub k : Kind
  pub i : ℕ
  pub s : ℕ
  pub b : Context
  pub node : HasNode N x k i
  pub low : s < arity k
  pub crosses : up k i s b ≡ c

-- from slot 0 of a node by links alone, up through so many nodes, to slot 0 of one of which P holds
pub data Climb {A : Type 0} (N : NamedNet A) (P : A → Type 0) : A → ℕ → Type 0 where
  top : {x : A} → P x → Climb N P x 0
  onward : {x y : A} {s n : ℕ} (k : Kind) (i : ℕ) → Linked N (slot x 0) (slot y (suc s)) →
      HasNode N y k i → s < arity k → Climb N P y n → Climb N P x (suc n)

-- From port u with context c down through so many nodes; then to a free port, or up through a node
-- of which T holds.
pub data Route {A : Type 0} (N : NamedNet A) (T : A → Type 0) : NamedPort A → Context → ℕ →
    Type 0 where
  leaves : {u : NamedPort A} {c : Context} (q : ℕ) → Linked N u (free q) → Route N T u c 0
  turns : {u : NamedPort A} {c : Context} {x : A} {s : ℕ} (k : Kind) (i : ℕ) →
      Linked N u (slot x (suc s)) → HasNode N x k i → s < arity k → T x → Route N T u c 0
  falls : {u : NamedPort A} {c d : Context} {x : A} {s n : ℕ} (k : Kind) (i : ℕ) →
      Linked N u (slot x 0) → HasNode N x k i → s < arity k → up k i s d ≡ c →
      Route N T (slot x (suc s)) d n → Route N T u c (suc n)

module _ {A : Type 0} (N : NamedNet A) where
  -- one crossing before a way
  pub way_first : {u : NamedPort A} {c d : Context} {x : A} {k : Kind} {i s t n : ℕ}
      {v : NamedPort A}
      {e : Context} → Linked N u (slot x s) → HasNode N x k i → Crosses k i s c t d →
      Way N (slot x t) d n v e → Way N u c (suc n) v e
  way_first l h x start = on start l h x
  way_first l h x (on w l' h' x') = on (way_first l h x w) l' h' x'

  -- what is climbed can be climbed with any context
  pub climb_way : {P : A → Type 0} {x : A} {n : ℕ} → Climb N P x n → (c : Context) →
      (z : A) × (d : Context) × P z × Way N (slot x 0) c n (slot z 0) d
  climb_way {x = x} (top p) c = (x, c, p, start)
  climb_way (onward {s = s} k i l h b r) c =
      let t = climb_way r (up k i s c) in
      (t.0, t.1, t.2, way_first l h (inward b refl) t.3)

  abbrev pub Exit : ℕ → A → Type 0
  Exit q z = Linked N (slot z 0) (free q)

  pub climb_path : (q : ℕ) {x : A} {n : ℕ} → Climb N (Exit q) x n → (c : Context) →
      (d : Context) × Path N (slot x 0) c q d
  climb_path q (top l) c = (c, ends l)
  climb_path q (onward {s = s} k i l h b r) c =
      let t = climb_path q r (up k i s c) in
      (t.0, goes l h (inward b refl) t.1)

module _ {A : Type 0} (N : NamedNet A) (T : A → Type 0) where
  -- with one o less at some level, where there are more than nodes that are gone down through
  pub lower : (u : NamedPort A) {c : Context} {m : ℕ} → Route N T u c m → (j n : ℕ) (b : Context) →
      c ≡ fill j (os (suc n) empty) b → m ≤ n → Route N T u (fill j (os n empty) b) m
  lower u (leaves q l) j n b e z = leaves q l
  lower u (turns k i l h r t) j n b e z = turns k i l h r t
  lower u (falls {d = d} {x = y} {s = s} {n = m} k i l h r e' w) j n b e z =
      go (before k i s r d j (os n empty) b (e' ∙ e))
      (λ j b q w'. lower (slot y (suc s)) w j n b q w')
      (λ n j b q w'. lower (slot y (suc s)) w j n b q w') n refl
    where
      go : Before k i s d j (os n empty) b →
          ((j' : ℕ) (b' : Context) → d ≡ fill j' (os (suc n) empty) b' → m ≤ n →
          Route N T (slot y (suc s)) (fill j' (os n empty) b') m) →
          ((n j' : ℕ) (b' : Context) → d ≡ fill j' (os (suc n) empty) b' → m ≤ n →
          Route N T (slot y (suc s)) (fill j' (os n empty) b') m) →
          (n' : ℕ) → n' ≡ n → Route N T u (fill j (os n empty) b) (suc m)
      go (moved j' b' x y') ih ih' n' q =
          falls k i l h r (y' (os n empty)) (ih j' b' x (omega arith))
      go (stripped j' b' x y' bars) ih ih' zero q = absurd (omega arith)
      go (stripped j' b' x y' bars) ih ih' (suc n') q =
          falls k i l h r (y' (os n' empty) ∙ ap (λ n. fill j (os n empty) b) q)
          (ih' n' j' b' (x ∙ ap (λ n. fill j' (os n empty) b') (sym q)) (omega arith))

module _ {A : Type 0} (N : NamedNet A) (is_net : IsNet N) where
  flip : (p q : NamedPort A) → Linked N p q → Linked N q p
  flip p q (inl h) = inr h
  flip p q (inr h) = inl h

  -- P ends a climb: slot 0 of a node of which it holds is linked to no auxiliary slot
  abbrev pub IsTop : (A → Type 0) → Type 0
  IsTop P = (x y : A) (s : ℕ) → P x → Linked N (slot x 0) (slot y (suc s)) → ⊥

  pub exit_is_top : (q : ℕ) → IsTop (Exit N q)
  exit_is_top q x y s l l' =
      let e : free q ≡ slot y (suc s) = is_net.one_link (slot x 0) (free q) (slot y (suc s)) l l' in
      absurd (cc)

  abbrev pub IsLive : A → Type 0
  IsLive x = (k : Kind) × (i : ℕ) × HasNode N x k i

  is_live : (y : A) (k : Kind) (i : ℕ) → HasNode N y k i → IsLive y
  is_live y k i h = (k, i, h)

  inside : (z : A) → IsLive z → IsIn z (map (λ (n : A × Kind × ℕ). n.0) N.nodes)
  inside z h = in_map (λ (n : A × Kind × ℕ). n.0) (z, h.0, h.1) N.nodes h.2

  pub few_live : (xs : List A) → IsOnce xs → ((z : A) → IsIn z xs → IsLive z) → length xs ≤ live N
  few_live xs o h =
      let a = few xs (map (λ (n : A × Kind × ℕ). n.0) N.nodes) o (λ z k. inside z (h z k)) in
      let m = length-map N.nodes (λ (n : A × Kind × ℕ). n.0) in
      omega arith

  module _ (P : A → Type 0) (is_top : IsTop P) where
    -- the climbs from a node to where P holds are of one length
    one_length : (x x' : A) → x ≡ x' → {n n' : ℕ} → Climb N P x n → Climb N P x' n' → n ≡ n'
    one_length x x' v (top a) (top a') = refl
    one_length x x' v (top a) (onward {y = y} {s = t} k i l' h b s) =
        let l2 = subst (λ z. Linked N (slot z 0) (slot y (suc t))) (sym v) l' in
        absurd (is_top x y t a l2)
    one_length x x' v (onward {y = y} {s = t} k i l h b r) (top a') =
        absurd (is_top x y t (subst P (sym v) a') l)
    one_length x x' v (onward {y = y} {s = t} k i l h b r) (onward {y = z} {s =
        u} k' i' l' h' b' s) =
        let l2 = subst (λ x. Linked N (slot x 0) (slot z (suc u))) (sym v) l' in
        let w : slot y (suc t) ≡ slot z (suc u) =
        is_net.one_link (slot x 0) (slot y (suc t)) (slot z (suc u)) l l2 in
        let v' : y ≡ z = cc in
        ap suc (one_length y z v' r s)

    record Below (n : ℕ) (z : A) : Type 0 where
      m : ℕ
      climb : Climb N P z m
      less : m < n

    -- the nodes left by slot 0 one after another
    record Ups (n : ℕ) (ys : List A) : Type 0 where
      long : length ys ≡ n
      once : IsOnce ys
      live : (z : A) → IsIn z ys → IsLive z
      low : (z : A) → IsIn z ys → Below n z

    one_up : (y : A) (ys : List A) (n : ℕ) → Climb N P y n → IsLive y → Ups n ys →
        Ups (suc n) (y ∷ ys)
    one_up y ys n r h f =
        record { long = ap suc f.long; once = (fresh, f.once); live = live; low = low }
      where
        fresh : IsIn y ys → ⊥
        fresh k =
            let b = f.low y k in
            let l = b.less in
            let o = one_length y y refl b.climb r in
            omega arith

        live : (z : A) → IsIn z (y ∷ ys) → IsLive z
        live z (inl w) = subst IsLive (sym w) h
        live z (inr k) = f.live z k

        low : (z : A) → IsIn z (y ∷ ys) → Below (suc n) z
        low z (inl w) = subst (λ z. Below (suc n) z) (sym w)
            (record { m = n; climb = r; less = omega arith })
        low z (inr k) =
            let b = f.low z k in
            let l = b.less in
            record { m = b.m; climb = b.climb; less = omega arith }

    ups : (x : A) {n : ℕ} → Climb N P x n → (ys : List A) × Ups n ys
    ups x (top a) = (
      [],
      record { long = refl; once = tt; live = λ z k. absurd k; low = λ z k. absurd k },
    )
    ups x (onward {y = y} {n = n} k i l h b r) =
        let t = ups y r in
        (y ∷ t.0, one_up y t.0 n r (is_live y k i h) t.1)

    -- a climb to where P holds, from a node that is left by slot 0, leaves no node twice
    pub few_ups_to : (y : A) {n : ℕ} → Climb N P y n → IsLive y → suc n ≤ live N
    few_ups_to y {n = n} r h =
        let t = ups y r in
        let f = one_up y t.0 n r h t.1 in
        let a = few_live (y ∷ t.0) f.once f.live in
        let l = f.long in
        omega arith

  -- the same of a climb to a free port
  pub few_ups : (q : ℕ) (y : A) {n : ℕ} → Climb N (Exit N q) y n → IsLive y → suc n ≤ live N
  few_ups q y r h = few_ups_to (Exit N q) (exit_is_top q) y r h

  module _ (p : ℕ) where
    -- entered by slot 0, as the node with this number on the way
    pub data Down : ℕ → A → Type 0 where
      first : {x : A} → Linked N (free p) (slot x 0) → Down 0 x
      next : {i : ℕ} {x y : A} (s : ℕ) → Down i x → Linked N (slot x (suc s)) (slot y 0) →
          Down (suc i) y

    -- what slot 0 of one node is linked to
    one_before : (u v : NamedPort A) (x x' : A) → Linked N u (slot x 0) → Linked N v (slot x' 0) →
        x ≡ x' → u ≡ v
    one_before u v x x' l l' e =
        is_net.one_link (slot x 0) u v (flip u (slot x 0) l)
        (flip v (slot x 0) (subst (λ z. Linked N v (slot z 0)) (sym e) l'))

    pub down_one : {i j : ℕ} {x x' : A} → Down i x → Down j x' → x ≡ x' → i ≡ j
    down_one (first l) (first l') v = refl
    down_one {x = x} {x' = x'} (first l) (next {x = y} s d l') v =
        let w : free p ≡ slot y (suc s) = one_before (free p) (slot y (suc s)) x x' l l' v in
        absurd (cc)
    down_one {x = x} {x' = x'} (next {x = y} s d l) (first l') v =
        let w : slot y (suc s) ≡ free p = one_before (slot y (suc s)) (free p) x x' l l' v in
        absurd (cc)
    down_one {x = x} {x' = x'} (next {x = y} s d l) (next {x = z} t d' l') v =
        let w : slot y (suc s) ≡ slot z (suc t) =
        one_before (slot y (suc s)) (slot z (suc t)) x x' l l' v in
        let v' : y ≡ z = cc in
        ap suc (down_one d d' v')

    record Later (i : ℕ) (z : A) : Type 0 where
      at : ℕ
      more : i ≤ at
      down : Down at z

    -- nodes entered by slot 0, from the one with number i on
    record Chain (i n : ℕ) : Type 0 where
      xs : List A
      long : length xs ≡ n
      once : IsOnce xs
      live : (z : A) → IsIn z xs → IsLive z
      late : (z : A) → IsIn z xs → Later i z

    nothing : (i : ℕ) → Chain i 0
    nothing i = record {
      xs = [];
      long = refl;
      once = tt;
      live = λ z k. absurd k;
      late =
          λ z k. absurd k;
    }

    one_more : (i n : ℕ) (y : A) → Down i y → IsLive y → Chain (suc i) n → Chain i (suc n)
    one_more i n y d h r =
        record {
          xs = y ∷ r.xs;
          long = ap suc r.long;
          once = (fresh, r.once);
          live = live;
          late =
              late;
        }
      where
        fresh : IsIn y r.xs → ⊥
        fresh k =
            let a = r.late y k in
            let b = a.more in
            let e = down_one d a.down refl in
            omega arith

        live : (z : A) → IsIn z (y ∷ r.xs) → IsLive z
        live z (inl w) = subst IsLive (sym w) h
        live z (inr k) = r.live z k

        late : (z : A) → IsIn z (y ∷ r.xs) → Later i z
        late z (inl w) = subst (λ z. Later i z) (sym w) (record {
          at = i;
          more =
              omega arith;
          down = d;
        })
        late z (inr k) =
            let a = r.late z k in
            let b = a.more in
            record { at = a.at; more = omega arith; down = a.down }

    chain : (T : A → Type 0) (i : ℕ) (x : A) (s : ℕ) → Down i x → {c : Context} {n : ℕ} →
        Route N T (slot x (suc s)) c n → Chain (suc i) n
    chain T i x s w (leaves q l) = nothing (suc i)
    chain T i x s w (turns k j l h b t) = nothing (suc i)
    chain T i x s w (falls {x = y} {s = u} {n = n} k j l h b e r) =
        one_more (suc i) n y (next s w l) (is_live y k j h) (chain T (suc i) y u (next s w l) r)

    from_free : (T : A → Type 0) {c : Context} {n : ℕ} → Route N T (free p) c n → Chain 0 n
    from_free T (leaves q l) = nothing 0
    from_free T (turns k j l h b t) = nothing 0
    from_free T (falls {x = y} {s = u} {n = n} k j l h b e r) =
        one_more 0 n y (first l) (is_live y k j h) (chain T 0 y u (first l) r)

    -- a route from a free port goes down through each node once at most
    pub few_downs : (T : A → Type 0) {c : Context} {n : ℕ} → Route N T (free p) c n → n ≤ live N
    few_downs T r =
        let t = from_free T r in
        let a = few_live t.xs t.once t.live in
        let l = t.long in
        omega arith
