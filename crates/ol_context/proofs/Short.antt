-- Without facing pairs a path is short.
use Rattle.std.proofs.Common.{◌≡◌, ◌≢◌, ℕ, suc, ◌+◌, ◌*◌, ◌<◌, ◌≤◌, List, [], ◌∷◌, map, length, inl}
use Rattle.std.proofs.Common.{inr, refl, sym, ap, ◌∙◌, subst, arith}
use Rattle.std.proofs.lemmas.List.{length-map}
use Rattle.ol_law_edges.specs.Edges.{IsIn}
use Rattle.ol_net.specs.declared.parts.Kind.{Kind}
use Rattle.ol_net.specs.Nets.{NamedNet, NamedPort, free, slot, HasNode, Linked, IsNet}
use Rattle.ol_context.specs.Contexts.{Context}
use Rattle.ol_context.specs.Paths.{inward, outward, Path, ends, goes, crossings}
use Rattle.ol_context.specs.Short.{HasNoFacing, live, IsOnce, WalkIsShort}
use Rattle.ol_law_edges.proofs.Lists.{in_map}

-- one element taken out
take_out : {A : Type 0} (x : A) (ys : List A) → IsIn x ys → List A
take_out x [] h = []
take_out x (y ∷ ys) (inl e) = ys
take_out x (y ∷ ys) (inr h) = y ∷ take_out x ys h

take_length : {A : Type 0} (x : A) (ys : List A) (h : IsIn x ys) → length ys ≡ suc (length (take_out x ys h))
unfolding take_out
take_length x [] h = absurd h
take_length x (y ∷ ys) (inl e) = refl
take_length x (y ∷ ys) (inr h) = let r = take_length x ys h in omega arith

take_other : {A : Type 0} (x z : A) (ys : List A) (h : IsIn x ys) → z ≢ x → IsIn z ys → IsIn z (take_out x ys h)
unfolding take_out
take_other x z [] h n k = absurd h
take_other x z (y ∷ ys) (inl e) n (inl e') = absurd (n (e' ∙ sym e))
take_other x z (y ∷ ys) (inl e) n (inr k) = k
take_other x z (y ∷ ys) (inr h) n (inl e') = inl e'
take_other x z (y ∷ ys) (inr h) n (inr k) = inr (take_other x z ys h n k)

-- as many pigeons as holes at most
pub few : {A : Type 0} (xs ys : List A) → IsOnce xs → ((x : A) → IsIn x xs → IsIn x ys) → length xs ≤ length ys
few [] ys o h = omega arith
few (x ∷ xs) ys o h =
    let i = h x (inl refl) in
    let r = few xs (take_out x ys i) o.1
    (λ z k. take_other x z ys i (λ e. o.0 (subst (λ z. IsIn z xs) e k)) (h z (inr k))) in
    let e = take_length x ys i in
    omega arith

module _ {A : Type 0} (N : NamedNet A) (is_net : IsNet N) (no_facing : HasNoFacing N) where
  flip : (p q : NamedPort A) → Linked N p q → Linked N q p
  flip p q (inl h) = inr h
  flip p q (inr h) = inl h

  -- from slot 0 a path goes on by the links alone
  one_length : (x x' : A) → x ≡ x' → {c d c' d' : Context} {q q' : ℕ} (r : Path N (slot x 0) c q d)
      (s : Path N (slot x' 0) c' q' d') → crossings r ≡ crossings s
  one_length x x' v (ends l) (ends l') = refl
  one_length x x' v (ends {q = q} l) (goes {x = y} {s = t} l' h k s) = let e : free q ≡ slot y
      t = is_net.one_link (slot x 0) (free q) (slot y t) l
      (subst (λ z. Linked N (slot z 0) (slot y t)) (sym v) l') in absurd (cc)
  one_length x x' v (goes {x = y} {s = t} l h k r)
      (ends {q = q} l') = let e : slot y t ≡ free q = is_net.one_link (slot x 0) (slot y t)
      (free q) l (subst (λ z. Linked N (slot z 0) (free q)) (sym v) l') in absurd (cc)
  one_length x x' v (goes {x = y} l h (outward b e) r) s = absurd (no_facing x y l)
  one_length x x' v (goes l h (inward b e) r) (goes {x = z} l' h' (outward b' e') s) = absurd (no_facing x' z l')
  one_length x x' v (goes {x = y} l h (inward {s = t} b e) r) (goes {x = z} l' h' (inward {s = u} b' e') s) =
      let w : slot y (suc t) ≡ slot z (suc u) = is_net.one_link (slot x 0) (slot y (suc t))
      (slot z (suc u)) l (subst (λ x. Linked N (slot x 0) (slot z (suc u))) (sym v) l') in
      let v' : y ≡ z = cc in
      ap suc (one_length y z v' r s)

  abbrev pub IsLive : A → Type 0
  IsLive x = (k : Kind) × (i : ℕ) × HasNode N x k i

  record Below (n : ℕ) (z : A) : Type 0 where
    c : Context
    q : ℕ
    d : Context
    path : Path N (slot z 0) c q d
    less : crossings path < n

  -- the nodes left by slot 0 one after another
  record Falls (n : ℕ) (ys : List A) : Type 0 where
    long : length ys ≡ n
    once : IsOnce ys
    live : (z : A) → IsIn z ys → IsLive z
    low : (z : A) → IsIn z ys → Below n z

  fall : (y : A) (ys : List A) (n : ℕ) {c d : Context} {q : ℕ} (r : Path N (slot y 0) c q d) →
      crossings r ≡ n → IsLive y → Falls n ys → Falls (suc n) (y ∷ ys)
  fall y ys n {c} {d} {q} r e h f = record { long = ap suc f.long; once = (fresh, f.once); live = live; low = low }
    where
      fresh : IsIn y ys → ⊥
      fresh k = let b = f.low y k in let l = b.less in let o = one_length y y refl b.path r in omega arith

      live : (z : A) → IsIn z (y ∷ ys) → IsLive z
      live z (inl w) = subst IsLive (sym w) h
      live z (inr k) = f.live z k

      low : (z : A) → IsIn z (y ∷ ys) → Below (suc n) z
      low z (inl w) = subst (λ z. Below (suc n) z) (sym w)
          (record { c = c; q = q; d = d; path = r; less = omega arith })
      low z (inr k) = let b = f.low z k in let l = b.less in
          record { c = b.c; q = b.q; d = b.d; path = b.path; less = omega arith }

  falls : (x : A) {c d : Context} {q : ℕ} (r : Path N (slot x 0) c q d) → (ys : List A) × Falls (crossings r) ys
  falls x (ends l) = ([], record { long = refl; once = tt; live = λ z k. absurd k; low = λ z k. absurd k })
  falls x (goes {x = y} l h (outward b e) r) = absurd (no_facing x y l)
  falls x (goes {x = y} {k = k} {i = i} l h (inward b e) r) = let t = falls y r in
      (y ∷ t.0, fall y t.0 (crossings r) r refl (live k i h) t.1)
    where
      live : (k : Kind) (i : ℕ) → HasNode N y k i → IsLive y
      live k i h = (k, i, h)

  module _ (p : ℕ) where
    -- entered by slot 0, as the node with this number on the way
    pub data Down : ℕ → A → Type 0 where
      first : {x : A} → Linked N (free p) (slot x 0) → Down 0 x
      next : {i : ℕ} {x y : A} (s : ℕ) → Down i x → Linked N (slot x (suc s)) (slot y 0) → Down (suc i) y

    pub down_one : {i j : ℕ} {x x' : A} → Down i x → Down j x' → x ≡ x' → i ≡ j
    down_one (first l) (first l') v = refl
    down_one {x = x} {x' = x'} (first l) (next {x = y} s d l') v =
        let w : free p ≡ slot y (suc s) = is_net.one_link (slot x 0) (free p) (slot y (suc s))
        (flip (free p) (slot x 0) l) (flip (slot y (suc s)) (slot x 0)
        (subst (λ z. Linked N (slot y (suc s)) (slot z 0)) (sym v) l')) in absurd (cc)
    down_one {x = x} {x' = x'} (next {x = y} s d l) (first l') v =
        let w : slot y (suc s) ≡ free p = is_net.one_link (slot x 0) (slot y (suc s)) (free p)
        (flip (slot y (suc s)) (slot x 0) l)
        (flip (free p) (slot x 0) (subst (λ z. Linked N (free p) (slot z 0)) (sym v) l')) in absurd (cc)
    down_one {x = x} {x' = x'} (next {x = y} s d l) (next {x = z} t d' l') v =
        let w : slot y (suc s) ≡ slot z (suc t) = is_net.one_link (slot x 0) (slot y (suc s))
        (slot z (suc t)) (flip (slot y (suc s)) (slot x 0) l)
        (flip (slot z (suc t)) (slot x 0) (subst (λ u. Linked N (slot z (suc t)) (slot u 0)) (sym v) l')) in
        let v' : y ≡ z = cc in
        ap suc (down_one d d' v')

    record Later (i : ℕ) (z : A) : Type 0 where
      at : ℕ
      more : i ≤ at
      down : Down at z

    -- first nodes entered by slot 0, from the one with number i on, and then nodes left by slot 0
    record Rises (i n : ℕ) : Type 0 where
      xs : List A
      ys : List A
      m : ℕ
      long : length xs + m ≡ n
      once : IsOnce xs
      live : (z : A) → IsIn z xs → IsLive z
      late : (z : A) → IsIn z xs → Later i z
      falls' : Falls m ys

    plain : (i : ℕ) (ys : List A) (n : ℕ) → Falls n ys → Rises i n
    plain i ys n f = record {
      xs = [];
      ys = ys;
      m = n;
      long = omega arith;
      once = tt;
      live = λ z k. absurd k;
      late = λ z k. absurd k;
      falls' = f;
    }

    rise : (i n : ℕ) (y : A) → Down i y → IsLive y → Rises (suc i) n → Rises i (suc n)
    rise i n y d h r = record {
      xs = y ∷ r.xs;
      ys = r.ys;
      m = r.m;
      long = let l = r.long in
          omega arith;
      once = (fresh, r.once);
      live = live;
      late = late;
      falls' = r.falls';
    }
      where
        fresh : IsIn y r.xs → ⊥
        fresh k = let a = r.late y k in let b = a.more in let e = down_one d a.down refl in omega arith

        live : (z : A) → IsIn z (y ∷ r.xs) → IsLive z
        live z (inl w) = subst IsLive (sym w) h
        live z (inr k) = r.live z k

        late : (z : A) → IsIn z (y ∷ r.xs) → Later i z
        late z (inl w) = subst (λ z. Later i z) (sym w) (record { at = i; more = omega arith; down = d })
        late z (inr k) = let a = r.late z k in let b = a.more in record { at = a.at; more = omega arith; down = a.down }

    nothing : Falls 0 []
    nothing = record { long = refl; once = tt; live = λ z k. absurd k; low = λ z k. absurd k }

    is_live : (y : A) (k : Kind) (i : ℕ) → HasNode N y k i → IsLive y
    is_live y k i h = (k, i, h)

    rises : (i : ℕ) (x : A) (s : ℕ) → Down i x →
        {c d : Context} {q : ℕ} (r : Path N (slot x (suc s)) c q d) → Rises (suc i) (crossings r)
    rises i x s w (ends l) = plain (suc i) [] 0 nothing
    rises i x s w (goes {x = y} {k = k} {i = j} l h (inward b e) r) = let t = falls y r in
        plain (suc i) (y ∷ t.0) (suc (crossings r)) (fall y t.0 (crossings r) r refl (is_live y k j h) t.1)
    rises i x s w (goes {x = y} {k = k} {i = j} l h (outward {s = u} b e) r) = rise (suc i)
        (crossings r) y (next s w l) (is_live y k j h) (rises (suc i) y u (next s w l) r)

    from_free : {c d : Context} {q : ℕ} (r : Path N (free p) c q d) → Rises 0 (crossings r)
    from_free (ends l) = plain 0 [] 0 nothing
    from_free (goes {x = y} {k = k} {i = j} l h (inward b e) r) = let t = falls y r in
        plain 0 (y ∷ t.0) (suc (crossings r)) (fall y t.0 (crossings r) r refl (is_live y k j h) t.1)
    from_free (goes {x = y} {k = k} {i = j} l h (outward {s = u} b e) r) = rise 0 (crossings r) y
        (first l) (is_live y k j h) (rises 0 y u (first l) r)

    -- Each node is entered by slot 0 at most once, and then left by it at most once.
    pub walk_is_short : {c d : Context} {q : ℕ} (r : Path N (free p) c q d) → crossings r ≤ 2 * live N
    walk_is_short r =
        let t = from_free r in
        let inside : (z : A) → IsLive z → IsIn z (map (λ (n : A × Kind × ℕ). n.0) N.nodes) = λ z h.
        in_map (λ (n : A × Kind × ℕ). n.0) (z, h.0, h.1) N.nodes h.2 in
        let a = few t.xs (map (λ (n : A × Kind × ℕ). n.0) N.nodes) t.once (λ z k. inside z (t.live z k)) in
        let b = few t.ys (map (λ (n : A × Kind × ℕ). n.0) N.nodes) t.falls'.once
        (λ z k. inside z (t.falls'.live z k)) in
        let l = t.long in
        let l' = t.falls'.long in
        let m = length-map N.nodes (λ (n : A × Kind × ℕ). n.0) in
        omega arith

module _ {A : Type 0} where
  pub short : WalkIsShort A
  short N n apart p c q d r = walk_is_short N n apart p r
