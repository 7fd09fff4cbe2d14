-- Nets whose nodes stand in boxes, as those of terms: the ends of links, and what may stand round a port.
use Rattle.std.proofs.Common.{◌≡◌, ℕ, zero, suc, ◌<◌, ◌≤◌, [], ◌∷◌, length, ◌⊎◌, inl, inr, refl, sym, ap, ◌∙◌}
use Rattle.std.proofs.Common.{subst, arith}
use Rattle.ol_net.specs.Nets.{NamedPort, free, slot, NamedNet, HasNode, Linked, IsNet, IsPort}
use Rattle.ol_net.specs.Parts.{arity}
use Rattle.ol_net.specs.declared.parts.Kind.{Kind}
use Rattle.ol_net.specs.declared.parts.Kind.TheVariants as kind
use Rattle.ol_rules.proofs.FreshPairs.{linked_sym}
use Rattle.ol_law_levels.proofs.Goods.{box_of, wire_of, Good, unknown, unread, at_app, Addr, addr_agree}
use Rattle.ol_law_levels.proofs.Lines.{Stack}
use Rattle.ol_law_levels.proofs.Patterns.{Pat, unknowns}

module _ {A : Type 0} (N : NamedNet A) where
  -- a part's root is given or asked for at this port of node x, inside of n boxes
  pub data RootEnd : NamedPort A → ℕ → A → Type 0 where
    lam_0 : {x : A} {n : ℕ} → HasNode N x kind.Lam n → RootEnd (slot x 0) n x
    lam_1 : {x : A} {n : ℕ} → HasNode N x kind.Lam n → RootEnd (slot x 1) n x
    app_0 : {x : A} {n : ℕ} → HasNode N x kind.App n → RootEnd (slot x 0) n x
    app_1 : {x : A} {n : ℕ} → HasNode N x kind.App n → RootEnd (slot x 1) n x
    app_2 : {x : A} {n : ℕ} → HasNode N x kind.App n → RootEnd (slot x 2) (suc n) x
    croissant_1 : {x : A} {n : ℕ} → HasNode N x kind.Croissant n → RootEnd (slot x 1) n x

  -- the end of a wire at its variable's occurrences, and the one towards its abstraction
  pub data Inner : NamedPort A → ℕ → A → Type 0 where
    fan_0 : {x : A} {n : ℕ} → HasNode N x kind.Fan n → Inner (slot x 0) n x
    croissant_0 : {x : A} {n : ℕ} → HasNode N x kind.Croissant n → Inner (slot x 0) n x
    bracket_0 : {x : A} {n : ℕ} → HasNode N x kind.Bracket n → Inner (slot x 0) n x
    bare_2 : {x : A} {n : ℕ} → HasNode N x kind.App n → Inner (slot x 2) n x

  pub data Outer : NamedPort A → ℕ → A → Type 0 where
    lam_2 : {x : A} {n : ℕ} → HasNode N x kind.Lam n → Outer (slot x 2) n x
    fan_1 : {x : A} {n : ℕ} → HasNode N x kind.Fan n → Outer (slot x 1) n x
    fan_2 : {x : A} {n : ℕ} → HasNode N x kind.Fan n → Outer (slot x 2) n x
    bracket_1 : {x : A} {n : ℕ} → HasNode N x kind.Bracket n → Outer (slot x 1) (suc n) x

  module _ (boxes : A → ℕ → A) where
    abbrev pub Agree : ℕ → A → A → Type 0
    Agree n x y = (i : ℕ) → i < n → boxes x i ≡ boxes y i

    pub data Fits : NamedPort A → NamedPort A → Type 0 where
      roots : {p q : NamedPort A} (n : ℕ) (x y : A) → RootEnd p n x → RootEnd q n y → Agree n x y → Fits p q
      whole : {q : NamedPort A} (y : A) → RootEnd q 0 y → Fits (free 0) q
      wires : {p q : NamedPort A} (n : ℕ) (x y : A) → Inner p n x → Outer q n y → Agree n x y → Fits p q
      names : {p : NamedPort A} (x : A) (f : ℕ) → Inner p 0 x → Fits p (free (suc f))
      erases : {x y : A} (m i : ℕ) → HasNode N y kind.Lam m → HasNode N x kind.Eraser i → Fits (slot x 0) (slot y 2)

  pub record IsBoxed : Type 0 where
    pub boxes : A → ℕ → A
    pub links : (p q : NamedPort A) → Linked N p q → Fits boxes p q ⊎ Fits boxes q p
    pub app : (x : A) (n : ℕ) → HasNode N x kind.App n → boxes x n ≡ x

module _ {A : Type 0} (N : NamedNet A) (is_net : IsNet N) (B : IsBoxed N) where
  abbrev boxes : A → ℕ → A
  boxes = B.boxes

  abbrev pub GoodAt : NamedPort A → Stack → Pat → Type 0
  GoodAt p a v = Good N boxes (wire_of p a v)

  abbrev pub Addressed : A → Stack → Type 0
  Addressed x a = Addr N boxes (boxes x) a

  abbrev pub Rooted : A → ℕ → Stack → Type 0
  Rooted x n a = Addressed x a × (length a ≡ n)

  abbrev pub Inside : NamedPort A → A → ℕ → Stack → Type 0
  Inside p x n [] = ⊥
  Inside p x n (v ∷ a) = Addressed x a × (length a ≡ n) × GoodAt p a v

  abbrev pub Outside : NamedPort A → A → ℕ → Stack → Type 0
  Outside q x n [] = ⊥
  Outside q x n (v ∷ a) = Addressed x a × (length a ≡ n) × ((p : NamedPort A) × Linked N q p × GoodAt p a v)

  -- by kind, index, node and slot
  abbrev pub PlaceAt : Kind → ℕ → A → ℕ → Stack → Type 0
  PlaceAt kind.Lam n x zero a = Rooted x n a
  PlaceAt kind.Lam n x (suc zero) a = Rooted x n a
  PlaceAt kind.Lam n x (suc (suc s)) a = Outside (slot x 2) x n a
  PlaceAt kind.App n x zero a = Rooted x n a
  PlaceAt kind.App n x (suc zero) a = Rooted x n a
  PlaceAt kind.App n x (suc (suc s)) a = Rooted x (suc n) a
  PlaceAt kind.Fan n x zero a = Inside (slot x 0) x n a
  PlaceAt kind.Fan n x (suc s) a = Outside (slot x (suc s)) x n a
  PlaceAt kind.Croissant n x zero a = Inside (slot x 0) x n a
  PlaceAt kind.Croissant n x (suc s) a = Rooted x n a
  PlaceAt kind.Bracket n x zero a = Inside (slot x 0) x n a
  PlaceAt kind.Bracket n x (suc s) a = Outside (slot x 1) x (suc n) a
  PlaceAt kind.Eraser n x s a =
      (y : A) (m : ℕ) → HasNode N y kind.Lam m → Linked N (slot x 0) (slot y 2) → Outside (slot y 2) y m a

  abbrev pub Named : NamedPort A → Stack → Type 0
  Named q [] = ⊥
  Named q (v ∷ a) = (a ≡ []) × ((p : NamedPort A) × Linked N q p × GoodAt p a v)

  abbrev pub Place : NamedPort A → Stack → Type 0
  Place (free zero) a = a ≡ []
  Place (free (suc f)) a = Named (free (suc f)) a
  Place (slot x s) a = (k : Kind) × (i : ℕ) × HasNode N x k i × PlaceAt k i x s a

  pub at_node : (x : A) (k : Kind) (i s : ℕ) (a : Stack) → HasNode N x k i → Place (slot x s) a → PlaceAt k i x s a
  at_node x k i s a h P =
      let o = is_net.one_node x P.0 k P.1 i P.2 h in
      subst (λ i. PlaceAt k i x s a) o.1 (subst (λ k. PlaceAt k P.1 x s a) o.0 P.3)

  root_from : {p : NamedPort A} {n : ℕ} {x : A} → RootEnd N p n x → (a : Stack) → Rooted x n a → Place p a
  root_from (lam_0 {n = n} h) a r = (kind.Lam, n, h, r)
  root_from (lam_1 {n = n} h) a r = (kind.Lam, n, h, r)
  root_from (app_0 {n = n} h) a r = (kind.App, n, h, r)
  root_from (app_1 {n = n} h) a r = (kind.App, n, h, r)
  root_from (app_2 {n = n} h) a r = (kind.App, n, h, r)
  root_from (croissant_1 {n = n} h) a r = (kind.Croissant, n, h, r)

  root_to : {p : NamedPort A} {n : ℕ} {x : A} → RootEnd N p n x → (a : Stack) → Place p a → Rooted x n a
  root_to (lam_0 {x = x} {n = n} h) a P = at_node x kind.Lam n 0 a h P
  root_to (lam_1 {x = x} {n = n} h) a P = at_node x kind.Lam n 1 a h P
  root_to (app_0 {x = x} {n = n} h) a P = at_node x kind.App n 0 a h P
  root_to (app_1 {x = x} {n = n} h) a P = at_node x kind.App n 1 a h P
  root_to (app_2 {x = x} {n = n} h) a P = at_node x kind.App n 2 a h P
  root_to (croissant_1 {x = x} {n = n} h) a P = at_node x kind.Croissant n 1 a h P

  -- the value of a box that is a wire
  boxed : (x : A) (n : ℕ) → HasNode N x kind.App n → (a : Stack) → Rooted x (suc n) a → Inside (slot x 2) x n a
  boxed x n h [] r = absurd (omega (arith, r.1))
  boxed x n h (v ∷ a) r =
      let e : length a ≡ n = omega (arith, r.1) in (
        r.0.1,
        e,
        at_app n h (subst (λ q. Good N boxes (box_of q a v)) (ap (boxes x) e ∙ B.app x n h) r.0.0),
      )

  unbox : (x : A) (a : Stack) (v : Pat) → GoodAt (slot x 2) a v → Good N boxes (box_of x a v)
  unbox x a v unread = unknown
  unbox x a v (at_app i h g) = g

  unboxed : (x : A) (n : ℕ) → HasNode N x kind.App n → (a : Stack) → Inside (slot x 2) x n a → Rooted x (suc n) a
  unboxed x n h [] r = absurd r
  unboxed x n h (v ∷ a) r = (
    (
      subst (λ q. Good N boxes (box_of q a v)) (sym (ap (boxes x) r.1 ∙ B.app x n h)) (unbox x a v r.2),
      r.0,
    ),
    ap suc r.1,
  )

  inner_from : {p : NamedPort A} {n : ℕ} {x : A} → Inner N p n x → (a : Stack) → Inside p x n a → Place p a
  inner_from (fan_0 {n = n} h) a r = (kind.Fan, n, h, r)
  inner_from (croissant_0 {n = n} h) a r = (kind.Croissant, n, h, r)
  inner_from (bracket_0 {n = n} h) a r = (kind.Bracket, n, h, r)
  inner_from (bare_2 {x = x} {n = n} h) a r = (kind.App, n, h, unboxed x n h a r)

  inner_to : {p : NamedPort A} {n : ℕ} {x : A} → Inner N p n x → (a : Stack) → Place p a → Inside p x n a
  inner_to (fan_0 {x = x} {n = n} h) a P = at_node x kind.Fan n 0 a h P
  inner_to (croissant_0 {x = x} {n = n} h) a P = at_node x kind.Croissant n 0 a h P
  inner_to (bracket_0 {x = x} {n = n} h) a P = at_node x kind.Bracket n 0 a h P
  inner_to (bare_2 {x = x} {n = n} h) a P = boxed x n h a (at_node x kind.App n 2 a h P)

  outer_from : {q : NamedPort A} {n : ℕ} {x : A} → Outer N q n x → (a : Stack) → Outside q x n a → Place q a
  outer_from (lam_2 {n = n} h) a r = (kind.Lam, n, h, r)
  outer_from (fan_1 {n = n} h) a r = (kind.Fan, n, h, r)
  outer_from (fan_2 {n = n} h) a r = (kind.Fan, n, h, r)
  outer_from (bracket_1 {n = n} h) a r = (kind.Bracket, n, h, r)

  outer_to : {q : NamedPort A} {n : ℕ} {x : A} → Outer N q n x → (a : Stack) → Place q a → Outside q x n a
  outer_to (lam_2 {x = x} {n = n} h) a P = at_node x kind.Lam n 2 a h P
  outer_to (fan_1 {x = x} {n = n} h) a P = at_node x kind.Fan n 1 a h P
  outer_to (fan_2 {x = x} {n = n} h) a P = at_node x kind.Fan n 2 a h P
  outer_to (bracket_1 {x = x} {n = n} h) a P = at_node x kind.Bracket n 1 a h P

  -- ---- along a link

  agree_on : (n : ℕ) (x y : A) (a : Stack) → length a ≡ n → Agree N boxes n x y → Addressed x a → Addressed y a
  agree_on n x y a e h g = addr_agree N boxes (boxes x) (boxes y) a (λ i b. h i (subst (λ n. i < n) e b)) g

  turned : (n : ℕ) (x y : A) → Agree N boxes n x y → Agree N boxes n y x
  turned n x y h i b = sym (h i b)

  out_along : (p q : NamedPort A) (n : ℕ) (x y : A) (a : Stack) → Linked N p q → Agree N boxes n x y →
      Inside p x n a → Outside q y n a
  out_along p q n x y [] l h r = absurd r
  out_along p q n x y (v ∷ a) l h r =
      (agree_on n x y a r.1 h r.0, r.1, (p, linked_sym N p q l, r.2))

  good_along : (p q : NamedPort A) (a : Stack) (v : Pat) → Linked N p q →
      ((p : NamedPort A) × Linked N q p × GoodAt p a v) → GoodAt p a v
  good_along p q a v l t = subst (λ p. GoodAt p a v) (is_net.one_link q t.0 p t.1 (linked_sym N p q l)) t.2

  in_along : (p q : NamedPort A) (n : ℕ) (x y : A) (a : Stack) → Linked N p q → Agree N boxes n x y →
      Outside q y n a → Inside p x n a
  in_along p q n x y [] l h r = absurd r
  in_along p q n x y (v ∷ a) l h r =
      (agree_on n y x a r.1 (turned n x y h) r.0, r.1, good_along p q a v l r.2)

  empty_of : (a : Stack) → length a ≡ 0 → a ≡ []
  empty_of [] e = refl
  empty_of (v ∷ a) e = absurd (omega (arith, e))

  to_name : (p : NamedPort A) (x : A) (f : ℕ) (a : Stack) → Linked N p (free (suc f)) → Inside p x 0 a →
      Named (free (suc f)) a
  to_name p x f [] l r = absurd r
  to_name p x f (v ∷ a) l r = (empty_of a r.1, (p, linked_sym N p (free (suc f)) l, r.2))

  from_name : (p : NamedPort A) (x : A) (f : ℕ) (a : Stack) → Linked N p (free (suc f)) → Named (free (suc f)) a →
      Inside p x 0 a
  from_name p x f [] l r = absurd r
  from_name p x f (v ∷ a) l r = (
    subst (λ a. Addressed x a) (sym r.0) tt,
    ap length r.0,
    good_along p (free (suc f)) a v l r.1,
  )

  slot_name : (x y : A) (s : ℕ) → ◌≡◌ {A = NamedPort A} (slot x s) (slot y s) → x ≡ y
  slot_name x y s e = cc

  to_eraser : (x y : A) (m i : ℕ) (a : Stack) → HasNode N y kind.Lam m → Linked N (slot x 0) (slot y 2) →
      Outside (slot y 2) y m a → (y' : A) (m' : ℕ) → HasNode N y' kind.Lam m' → Linked N (slot x 0) (slot y' 2) →
      Outside (slot y' 2) y' m' a
  to_eraser x y m i a h l r y' m' h' l' =
      let e : y ≡ y' = slot_name y y' 2 (is_net.one_link (slot x 0) (slot y 2) (slot y' 2) l l') in
      let o = is_net.one_node y' kind.Lam kind.Lam m m' (subst (λ y. HasNode N y kind.Lam m) e h) h' in
      subst (λ m. Outside (slot y' 2) y' m a) o.1 (subst (λ y. Outside (slot y 2) y m a) e r)

  fits_along : (p q : NamedPort A) (a : Stack) → Fits N boxes p q → Linked N p q →
      (Place p a → Place q a) × (Place q a → Place p a)
  fits_along p q a (roots n x y r s h) l = (
    λ P. (let t = root_to r a P in root_from s a (agree_on n x y a t.1 h t.0, t.1)),
    λ P. (let t = root_to s a P in root_from r a (agree_on n y x a t.1 (turned n x y h) t.0, t.1)),
  )
  fits_along p q a (whole y r) l = (
    λ P. root_from r a (subst (λ a. Addressed y a) (sym P) tt, ap length P),
    λ P. empty_of a (root_to r a P).1,
  )
  fits_along p q a (wires n x y r s h) l = (
    λ P. outer_from s a (out_along p q n x y a l h (inner_to r a P)),
    λ P. inner_from r a (in_along p q n x y a l h (outer_to s a P)),
  )
  fits_along p q a (names x f r) l = (
    λ P. to_name p x f a l (inner_to r a P),
    λ P. inner_from r a (from_name p x f a l P),
  )
  fits_along p q a (erases {x = x} {y = y} m i h h') l = (
    λ P. (kind.Lam, m, h, at_node x kind.Eraser i 0 a h' P y m h l),
    λ P. (kind.Eraser, i, h', to_eraser x y m i a h l (at_node y kind.Lam m 2 a h P)),
  )

  pub place_along : (p q : NamedPort A) (a : Stack) → Linked N p q → Place p a → Place q a
  place_along p q a l P = go (B.links p q l)
    where
      go : Fits N boxes p q ⊎ Fits N boxes q p → Place q a
      go (inl f) = (fits_along p q a f l).0 P
      go (inr f) = (fits_along q p a f (linked_sym N p q l)).1 P

  -- ---- where nothing is known

  unknowns_long : (n : ℕ) → length (unknowns n) ≡ n
  unknowns_long zero = refl
  unknowns_long (suc n) = ap suc (unknowns_long n)

  unknowns_addr : (E : ℕ → A) (n : ℕ) → Addr N boxes E (unknowns n)
  unknowns_addr E zero = tt
  unknowns_addr E (suc n) = (unknown, unknowns_addr E n)

  rooted : (x : A) (n : ℕ) → Rooted x n (unknowns n)
  rooted x n = (unknowns_addr (boxes x) n, unknowns_long n)

  inside : (p : NamedPort A) (x : A) (n : ℕ) → Inside p x n (unknowns (suc n))
  inside p x n = (unknowns_addr (boxes x) n, unknowns_long n, unread)

  outside : (q : NamedPort A) (x : A) (n : ℕ) → IsPort N q → Outside q x n (unknowns (suc n))
  outside q x n h =
      let t = is_net.some_link q h in
      (unknowns_addr (boxes x) n, unknowns_long n, (t.0, t.1, unread))

  apart : (y x : A) (s : ℕ) → ◌≡◌ {A = NamedPort A} (slot y (suc s)) (slot x 0) → ⊥
  apart y x s e = let o : suc s ≡ 0 = cc in absurd (omega arith)

  -- an eraser isn't at the end of such links
  no_root : {p : NamedPort A} {n : ℕ} {y : A} → RootEnd N p n y → (x : A) (i : ℕ) → HasNode N x kind.Eraser i →
      p ≡ slot x 0 → ⊥
  no_root (lam_0 {x = y} {n = n} h) x i h' e =
      let o : y ≡ x = cc in
      let c = (is_net.one_node x kind.Lam kind.Eraser n i (subst (λ y. HasNode N y kind.Lam n) o h) h').0 in absurd (cc)
  no_root (app_0 {x = y} {n = n} h) x i h' e =
      let o : y ≡ x = cc in
      let c = (is_net.one_node x kind.App kind.Eraser n i (subst (λ y. HasNode N y kind.App n) o h) h').0 in absurd (cc)
  no_root (lam_1 {x = y} h) x i h' e = apart y x 0 e
  no_root (app_1 {x = y} h) x i h' e = apart y x 0 e
  no_root (app_2 {x = y} h) x i h' e = apart y x 1 e
  no_root (croissant_1 {x = y} h) x i h' e = apart y x 0 e

  no_inner : {p : NamedPort A} {n : ℕ} {y : A} → Inner N p n y → (x : A) (i : ℕ) → HasNode N x kind.Eraser i →
      p ≡ slot x 0 → ⊥
  no_inner (fan_0 {x = y} {n = n} h) x i h' e =
      let o : y ≡ x = cc in
      let c = (is_net.one_node x kind.Fan kind.Eraser n i (subst (λ y. HasNode N y kind.Fan n) o h) h').0 in absurd (cc)
  no_inner (croissant_0 {x = y} {n = n} h) x i h' e =
      let o : y ≡ x = cc in
      let c = (is_net.one_node x kind.Croissant kind.Eraser n i
      (subst (λ y. HasNode N y kind.Croissant n) o h) h').0 in absurd (cc)
  no_inner (bracket_0 {x = y} {n = n} h) x i h' e =
      let o : y ≡ x = cc in
      let c = (is_net.one_node x kind.Bracket kind.Eraser n i
      (subst (λ y. HasNode N y kind.Bracket n) o h) h').0 in absurd (cc)
  no_inner (bare_2 {x = y} h) x i h' e = apart y x 1 e

  no_outer : {p : NamedPort A} {n : ℕ} {y : A} → Outer N p n y → (x : A) → p ≡ slot x 0 → ⊥
  no_outer (lam_2 {x = y} h) x e = apart y x 1 e
  no_outer (fan_1 {x = y} h) x e = apart y x 0 e
  no_outer (fan_2 {x = y} h) x e = apart y x 1 e
  no_outer (bracket_1 {x = y} h) x e = apart y x 0 e

  record Erased (x : A) : Type 0 where
    lam : A
    level : ℕ
    is_node : HasNode N lam kind.Lam level
    linked : Linked N (slot x 0) (slot lam 2)

  erased_first : (p q : NamedPort A) (x : A) (i : ℕ) → HasNode N x kind.Eraser i → p ≡ slot x 0 → Fits N boxes p q →
      Linked N p q → Erased x
  erased_first p q x i h e (roots n y z r s g) l = absurd (no_root r x i h e)
  erased_first p q x i h e (whole y r) l = absurd (cc)
  erased_first p q x i h e (wires n y z r s g) l = absurd (no_inner r x i h e)
  erased_first p q x i h e (names y f r) l = absurd (no_inner r x i h e)
  erased_first p q x i h e (erases {x = z} {y = y} m i' g g') l = record {
    lam = y;
    level = m;
    is_node = g;
    linked = subst (λ p. Linked N p (slot y 2)) e l;
  }

  erased_second : (p q : NamedPort A) (x : A) (i : ℕ) → HasNode N x kind.Eraser i → q ≡ slot x 0 → Fits N boxes p q →
      Linked N p q → ⊥
  erased_second p q x i h e (roots n y z r s g) l = no_root s x i h e
  erased_second p q x i h e (whole y r) l = no_root r x i h e
  erased_second p q x i h e (wires n y z r s g) l = no_outer s x e
  erased_second p q x i h e (names y f r) l = absurd (cc)
  erased_second p q x i h e (erases {x = z} {y = y} m i' g g') l =
      apart y x 1 e

  erased : (x : A) (i : ℕ) → HasNode N x kind.Eraser i → Erased x
  erased x i h =
      let t = is_net.some_link (slot x 0) (kind.Eraser, i, h, omega arith) in go t.0 t.1 (B.links (slot x 0) t.0 t.1)
    where
      go : (q : NamedPort A) → Linked N (slot x 0) q → Fits N boxes (slot x 0) q ⊎ Fits N boxes q (slot x 0) → Erased x
      go q l (inl f) = erased_first (slot x 0) q x i h refl f l
      go q l (inr f) = absurd (erased_second q (slot x 0) x i h refl f (linked_sym N (slot x 0) q l))

  abbrev Unknown : NamedPort A → Type 0
  Unknown p = (n : ℕ) × Place p (unknowns n)

  at_slot : (x : A) (k : Kind) (i s : ℕ) → HasNode N x k i → s ≤ arity k → Unknown (slot x s)
  at_slot x kind.Lam i zero h b = (i, (kind.Lam, i, h, rooted x i))
  at_slot x kind.Lam i (suc zero) h b = (i, (kind.Lam, i, h, rooted x i))
  at_slot x kind.Lam i (suc (suc s)) h b =
      (suc i, (kind.Lam, i, h, outside (slot x 2) x i (kind.Lam, i, h, omega arith)))
  at_slot x kind.App i zero h b = (i, (kind.App, i, h, rooted x i))
  at_slot x kind.App i (suc zero) h b = (i, (kind.App, i, h, rooted x i))
  at_slot x kind.App i (suc (suc s)) h b = (suc i, (kind.App, i, h, rooted x (suc i)))
  at_slot x kind.Fan i zero h b = (suc i, (kind.Fan, i, h, inside (slot x 0) x i))
  at_slot x kind.Fan i (suc s) h b =
      (suc i, (kind.Fan, i, h, outside (slot x (suc s)) x i (kind.Fan, i, h, b)))
  at_slot x kind.Croissant i zero h b = (suc i, (kind.Croissant, i, h, inside (slot x 0) x i))
  at_slot x kind.Croissant i (suc s) h b = (i, (kind.Croissant, i, h, rooted x i))
  at_slot x kind.Bracket i zero h b = (suc i, (kind.Bracket, i, h, inside (slot x 0) x i))
  at_slot x kind.Bracket i (suc s) h b =
      (suc (suc i), (kind.Bracket, i, h, outside (slot x 1) x (suc i) (kind.Bracket, i, h, omega arith)))
  at_slot x kind.Eraser i s h b =
      let E = erased x i h in (
        suc E.level,
        (
          kind.Eraser,
          i,
          h,
          to_eraser x E.lam E.level i (unknowns (suc E.level)) E.is_node E.linked
              (outside (slot E.lam 2) E.lam E.level (kind.Lam, E.level, E.is_node, omega arith)),
        ),
      )

  pub begun : (p : NamedPort A) → IsPort N p → Unknown p
  begun (free zero) h = (0, refl)
  begun (free (suc f)) h =
      let t = is_net.some_link (free (suc f)) h in (1, (refl, (t.0, t.1, unread)))
  begun (slot x s) h = at_slot x h.0 h.1 s h.2 h.3
