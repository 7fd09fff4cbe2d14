-- In a net without facing pairs few abstractions are enough.
use Rattle.std.proofs.Common.{◌≡◌, ℕ, zero, suc, ◌≤◌, ◌⊎◌, List, [], ◌∷◌, ◌++◌, map, length, inl}
use Rattle.std.proofs.Common.{inr, refl, sym, ap, ◌∙◌, subst, arith}
use Rattle.std.proofs.lemmas.List.{length-map}
use Rattle.ol_law_edges.specs.Edges.{IsIn}
use Rattle.ol_net.specs.declared.parts.Kind.{Kind}
use Rattle.ol_net.specs.Nets.{NamedNet, NamedPort, free, slot, HasNode, IsNet}
use Rattle.ol_context.specs.Contexts.{Level, empty, Context, levels, cons, up}
use Rattle.ol_context.specs.Paths.{inward, outward, Path, ends, goes}
use Rattle.ol_context.specs.Short.{HasNoFacing, live, IsOnce}
use Rattle.ol_context.proofs.LevelLists.{levels_cons}
use Rattle.ol_context.proofs.Short.{few, IsLive, Down, first, next, down_one}
use Rattle.ol_readback.specs.Frames.{os, asked}
use Rattle.ol_readback.specs.Sources.{FewAreEnough}
use Rattle.ol_readback.proofs.Holes.{fill, Before, moved, stripped, before}
use Rattle.ol_law_edges.proofs.Lists.{in_map}

-- what is asked, as a level that is filled
pub asked_filled : (ls : List Level) → (b : Context) × ((n : ℕ) → asked ls n ≡ fill (length ls) (os n empty) b)
asked_filled [] = (levels [], λ n. levels_cons (os n empty) [])
asked_filled (v ∷ ls) = let t = asked_filled ls in
    (cons v t.0, λ n. levels_cons v (ls ++ os n empty ∷ []) ∙ ap (cons v) (t.1 n))

module _ {A : Type 0} (N : NamedNet A) (is_net : IsNet N) (no_facing : HasNoFacing N) where
  -- from slot 0 a path is there with any context
  any : (x : A) {c d : Context} {q : ℕ} → Path N (slot x 0) c q d → (c' : Context) →
      (d' : Context) × Path N (slot x 0) c' q d'
  any x (ends l) c' = (c', ends l)
  any x (goes {x = y} l h (outward b e) r) c' = absurd (no_facing x y l)
  any x (goes {x = y} {k = k} {i = i} l h (inward {s = s} b e) r) c' = let t = any y r
      (up k i s c') in (t.0, goes l h (inward b refl) t.1)

  -- how many nodes are entered by slot 0
  abbrev downs : {p : NamedPort A} {c d : Context} {q : ℕ} → Path N p c q d → ℕ
  downs (ends l) = 0
  downs (goes l h (inward b e) r) = 0
  downs (goes l h (outward b e) r) = suc (downs r)

  record Other (p : NamedPort A) (c : Context) (q m : ℕ) : Type 0 where
    d : Context
    path : Path N p c q d
    same : downs path ≡ m

  -- with one o less, where there are more than nodes entered by slot 0
  less : (p : NamedPort A) {c d : Context} {q : ℕ} (r : Path N p c q d) (j n : ℕ) (b : Context) →
      c ≡ fill j (os (suc n) empty) b → downs r ≤ n → Other p (fill j (os n empty) b) q (downs r)
  less p (ends l) j n b e z = record { d = fill j (os n empty) b; path = ends l; same = refl }
  less p (goes {x = y} {k = k} {i = i} l h (inward {s = s} z' e') r) j n b e z =
      let t = any y r (up k i s (fill j (os n empty) b)) in
      record { d = t.0; path = goes l h (inward z' refl) t.1; same = refl }
  less p (goes {x = y} {k = k} {i = i} {q = q0} l h
      (outward {s = s} {c = d} z' e') r) j n b e z = go
      (before k i s z' d j (os n empty) b (e' ∙ e)) (λ j b q w. less (slot y (suc s)) r j n b q w)
      (λ m j b q w. less (slot y (suc s)) r j m b q w) n refl
    where
      back : (j' : ℕ) (w : Level) (b' : Context) → up k i s (fill j' w b') ≡ fill j (os n empty) b →
          Other (slot y (suc s)) (fill j' w b') q0 (downs r) → Other p (fill j (os n empty) b) q0 (suc (downs r))
      back j' w b' q t = record { d = t.d; path = goes l h (outward z' q) t.path; same = ap suc t.same }

      go : Before k i s d j (os n empty) b →
          ((j' : ℕ) (b' : Context) → d ≡ fill j' (os (suc n) empty) b' → downs r ≤ n →
          Other (slot y (suc s)) (fill j' (os n empty) b') q0 (downs r)) →
          ((m j' : ℕ) (b' : Context) → d ≡ fill j' (os (suc m) empty) b' → downs r ≤ m →
          Other (slot y (suc s)) (fill j' (os m empty) b') q0 (downs r)) →
          (m : ℕ) → m ≡ n → Other p (fill j (os n empty) b) q0 (suc (downs r))
      go (moved j' b' x y) ih ih' m q = back j' (os n empty) b' (y (os n empty)) (ih j' b' x (omega arith))
      go (stripped j' b' x y bars) ih ih' zero q = absurd (omega arith)
      go (stripped j' b' x y bars) ih ih' (suc m) q = back j' (os m empty) b'
          (y (os m empty) ∙ ap (λ n. fill j (os n empty) b) q)
          (ih' m j' b' (x ∙ ap (λ n. fill j' (os n empty) b') (sym q)) (omega arith))

  module _ (p : ℕ) where
    record Later (i : ℕ) (z : A) : Type 0 where
      at : ℕ
      more : i ≤ at
      down : Down N is_net no_facing p at z

    -- the nodes entered by slot 0, from the one with number i on
    record Chain (i n : ℕ) : Type 0 where
      xs : List A
      long : length xs ≡ n
      once : IsOnce xs
      live : (z : A) → IsIn z xs → IsLive N is_net no_facing z
      late : (z : A) → IsIn z xs → Later i z

    nothing : (i : ℕ) → Chain i 0
    nothing i = record { xs = []; long = refl; once = tt; live = λ z k. absurd k; late = λ z k. absurd k }

    one_more : (i n : ℕ) (y : A) → Down N is_net no_facing p i y → IsLive N is_net no_facing y →
        Chain (suc i) n → Chain i (suc n)
    one_more i n y d h r = record {
      xs = y ∷ r.xs;
      long = ap suc r.long;
      once = (fresh, r.once);
      live = live;
      late = late;
    }
      where
        fresh : IsIn y r.xs → ⊥
        fresh k = let a = r.late y k in let b = a.more in
            let e = down_one N is_net no_facing p d a.down refl in omega arith

        live : (z : A) → IsIn z (y ∷ r.xs) → IsLive N is_net no_facing z
        live z (inl w) = subst (IsLive N is_net no_facing) (sym w) h
        live z (inr k) = r.live z k

        late : (z : A) → IsIn z (y ∷ r.xs) → Later i z
        late z (inl w) = subst (λ z. Later i z) (sym w) (record { at = i; more = omega arith; down = d })
        late z (inr k) = let a = r.late z k in let b = a.more in record { at = a.at; more = omega arith; down = a.down }

    is_live : (y : A) (k : Kind) (i : ℕ) → HasNode N y k i → IsLive N is_net no_facing y
    is_live y k i h = (k, i, h)

    chain : (i : ℕ) (x : A) (s : ℕ) → Down N is_net no_facing p i x →
        {c d : Context} {q : ℕ} (r : Path N (slot x (suc s)) c q d) → Chain (suc i) (downs r)
    chain i x s w (ends l) = nothing (suc i)
    chain i x s w (goes l h (inward b e) r) = nothing (suc i)
    chain i x s w (goes {x = y} {k = k} {i = j} l h (outward {s = u} b e) r) = one_more (suc i)
        (downs r) y (next s w l) (is_live y k j h) (chain (suc i) y u (next s w l) r)

    from_free : {c d : Context} {q : ℕ} (r : Path N (free p) c q d) → Chain 0 (downs r)
    from_free (ends l) = nothing 0
    from_free (goes l h (inward b e) r) = nothing 0
    from_free (goes {x = y} {k = k} {i = j} l h (outward {s = u} b e) r) = one_more 0 (downs r) y
        (first l) (is_live y k j h) (chain 0 y u (first l) r)

    few_downs : {c d : Context} {q : ℕ} (r : Path N (free p) c q d) → downs r ≤ live N
    few_downs r =
        let t = from_free r in
        let inside : (z : A) → IsLive N is_net no_facing z →
        IsIn z (map (λ (n : A × Kind × ℕ). n.0) N.nodes) = λ z h.
        in_map (λ (n : A × Kind × ℕ). n.0) (z, h.0, h.1) N.nodes h.2 in
        let a = few t.xs (map (λ (n : A × Kind × ℕ). n.0) N.nodes) t.once (λ z k. inside z (t.live z k)) in
        let l = t.long in
        let m = length-map N.nodes (λ (n : A × Kind × ℕ). n.0) in
        omega arith

    record Some (ls : List Level) (n : ℕ) : Type 0 where
      m : ℕ
      q : ℕ
      X : Context
      few : m ≤ live N
      below : m ≤ n
      path : Path N (free p) (asked ls m) q X

    enough : (ls : List Level) (n : ℕ) {q : ℕ} {X : Context} → Path N (free p) (asked ls n) q X → Some ls n
    enough ls zero {q} {X} r = record { m = 0; q = q; X = X; few = omega arith; below = omega arith; path = r }
    enough ls (suc n) {q} {X} r = go (cases n (downs r)) (λ q X m. enough ls n m)
      where
        cases : (n m : ℕ) → (suc n ≤ m) ⊎ (m ≤ n)
        cases n m = grind arith

        go : (suc n ≤ downs r) ⊎ (downs r ≤ n) →
            ((q : ℕ) (X : Context) → Path N (free p) (asked ls n) q X → Some ls n) → Some ls (suc n)
        go (inl b) ih = let a = few_downs r in
            record { m = suc n; q = q; X = X; few = omega arith; below = omega arith; path = r }
        go (inr b) ih =
            let t = asked_filled ls in
            let z = less (free p) r (length ls) n t.0 (t.1 (suc n)) b in
            let y = ih q z.d (subst (λ c. Path N (free p) c q z.d) (sym (t.1 n)) z.path) in
            let w = y.below in
            record { m = y.m; q = y.q; X = y.X; few = y.few; below = omega arith; path = y.path }

module _ {A : Type 0} where
  pub few_are_enough : FewAreEnough A
  few_are_enough N is_net no_facing p ls n q X r = let t = enough N is_net no_facing p ls n r in
      (t.m, t.q, t.X, t.few, t.below, t.path)
