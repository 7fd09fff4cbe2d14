-- Walks of patterns over a net, and lines: what is joined whatever stands on the stack.
use Rattle.std.proofs.Common.{◌≡◌, ℕ, zero, suc, List, [], ◌∷◌, Bool, true, false, not, refl, sym, ap}
use Rattle.std.proofs.Common.{◌∙◌, subst, arith}
use Rattle.std.proofs.Math.Bool.{not-not}
use Rattle.ol_law_edges.specs.Edges.{Joined, here, on, back}
use Rattle.ol_law_levels.specs.Levels.{IsLevelled}
use Rattle.ol_net.specs.Nets.{NamedPort, slot, NamedNet, HasNode, Linked, IsNet}
use Rattle.ol_net.specs.declared.parts.Kind.{Kind}
use Rattle.ol_net.specs.declared.parts.Kind.TheVariants as kind
use Rattle.ol_rules.proofs.FreshPairs.{linked_sym}
use Rattle.ol_law_levels.proofs.Patterns.{Pat, any, hole, nil, oo, ss, pp, markp}

abbrev pub Stack : Type 0
Stack = List Pat

-- an abstraction or an application
pub data IsPole : Kind → Type 0 where
  is_lam : IsPole kind.Lam
  is_app : IsPole kind.App

-- From slot s + 1 of a node of this kind, with these two stacks, to its slot 0.
pub data Cross : Kind → ℕ → Stack → Stack → Stack → Stack → Type 0 where
  own : {k : Kind} {a r : Stack} {u : Pat} → IsPole k → Cross k 0 a (u ∷ r) a (oo u ∷ r)
  box : {k : Kind} {a r : Stack} {v : Pat} → IsPole k → Cross k 1 (v ∷ a) r a (ss v ∷ r)
  fan_o : {a r : Stack} {v : Pat} → Cross kind.Fan 0 (v ∷ a) r (oo v ∷ a) r
  fan_s : {a r : Stack} {v : Pat} → Cross kind.Fan 1 (v ∷ a) r (ss v ∷ a) r
  croissant : {a r : Stack} → Cross kind.Croissant 0 a r (nil ∷ a) r
  bracket : {a r : Stack} {v w : Pat} → Cross kind.Bracket 0 (w ∷ v ∷ a) r (pp w v ∷ a) r

abbrev pub At : Type 0 → Type 0
At A = NamedPort A × Stack × Stack

module _ {A : Type 0} (N : NamedNet A) where
  pub data Node : At A → At A → Type 0 where
    node : {x : A} {k : Kind} {s : ℕ} {a r a' r' : Stack} (i : ℕ) → HasNode N x k i → Cross k s a r a' r' →
        Node (slot x 0, a', r') (slot x (suc s), a, r)

  pub data Step : At A → At A → Type 0 where
    link : {p q : NamedPort A} {a r : Stack} → Linked N p q → Step (p, a, r) (q, a, r)
    cross : {u v : At A} → Node u v → Step u v

  abbrev pub Meet : At A → At A → Type 0
  Meet u v = Joined Step u v

-- ---- what fills the hole

abbrev pub filled : Pat → Pat → Pat
filled c any = any
filled c hole = c
filled c nil = nil
filled c (oo u) = oo (filled c u)
filled c (ss u) = ss u
filled c (pp u v) = pp u v

abbrev pub fill : Pat → Stack → Stack → Stack
fill c C [] = C
fill c C (u ∷ []) = filled c u ∷ C
fill c C (u ∷ (v ∷ r)) = u ∷ fill c C (v ∷ r)

cross_filled : (c : Pat) (C : Stack) {k : Kind} {s : ℕ} {a r a' r' : Stack} → Cross k s a r a' r' →
    Cross k s a (fill c C r) a' (fill c C r')
cross_filled c C (own {r = []} h) = own h
cross_filled c C (own {r = v ∷ r} h) = own h
cross_filled c C (box {r = []} h) = box h
cross_filled c C (box {r = v ∷ r} h) = box h
cross_filled c C fan_o = fan_o
cross_filled c C fan_s = fan_s
cross_filled c C croissant = croissant
cross_filled c C bracket = bracket

module _ {A : Type 0} (N : NamedNet A) where
  abbrev put_in : Pat → Stack → At A → At A
  put_in c C u = (u.0, u.1, fill c C u.2)

  step_filled : (c : Pat) (C : Stack) {u v : At A} → Step N u v → Step N (put_in c C u) (put_in c C v)
  step_filled c C (link h) = link h
  step_filled c C (cross (node i h x)) = cross (node i h (cross_filled c C x))

  pub meet_filled : (c : Pat) (C : Stack) {u v : At A} → Meet N u v → Meet N (put_in c C u) (put_in c C v)
  meet_filled c C here = here
  meet_filled c C (on j e) = on (meet_filled c C j) (step_filled c C e)
  meet_filled c C (back j e) = back (meet_filled c C j) (step_filled c C e)

-- ---- one more known

abbrev pub Ref : Pat → Pat → Type 0
Ref any y = Unit {0}
Ref hole hole = Unit {0}
Ref nil nil = Unit {0}
Ref (oo x) (oo y) = Ref x y
Ref (ss x) (ss y) = Ref x y
Ref (pp x x') (pp y y') = Ref x y × Ref x' y'
Ref _ _ = ⊥

abbrev pub Refs : Stack → Stack → Type 0
Refs [] [] = Unit {0}
Refs (x ∷ a) (y ∷ b) = Ref x y × Refs a b
Refs [] (y ∷ b) = ⊥
Refs (x ∷ a) [] = ⊥

pub ref_self : (x : Pat) → Ref x x
ref_self any = tt
ref_self hole = tt
ref_self nil = tt
ref_self (oo x) = ref_self x
ref_self (ss x) = ref_self x
ref_self (pp x y) = (ref_self x, ref_self y)

pub refs_self : (a : Stack) → Refs a a
refs_self [] = tt
refs_self (x ∷ a) = (ref_self x, refs_self a)

pub record Onward (k : Kind) (s : ℕ) (b q a' r' : Stack) : Type 0 where
  pub low : Stack
  pub high : Stack
  pub crosses : Cross k s b q low high
  pub lows : Refs a' low
  pub highs : Refs r' high

pub record Backward (k : Kind) (s : ℕ) (b q a r : Stack) : Type 0 where
  pub low : Stack
  pub high : Stack
  pub crosses : Cross k s low high b q
  pub lows : Refs a low
  pub highs : Refs r high

cross_on : {k : Kind} {s : ℕ} {a r a' r' : Stack} → Cross k s a r a' r' → (b q : Stack) → Refs a b → Refs r q →
    Onward k s b q a' r'
cross_on (own h) b [] e f = absurd f
cross_on (own h) b (y ∷ q) e f = record { low = b; high = oo y ∷ q; crosses = own h; lows = e; highs = f }
cross_on (box h) [] q e f = absurd e
cross_on (box h) (y ∷ b) q e f = record { low = b; high = ss y ∷ q; crosses = box h; lows = e.1; highs = (e.0, f) }
cross_on fan_o [] q e f = absurd e
cross_on fan_o (y ∷ b) q e f = record { low = oo y ∷ b; high = q; crosses = fan_o; lows = e; highs = f }
cross_on fan_s [] q e f = absurd e
cross_on fan_s (y ∷ b) q e f = record { low = ss y ∷ b; high = q; crosses = fan_s; lows = e; highs = f }
cross_on croissant b q e f = record { low = nil ∷ b; high = q; crosses = croissant; lows = (tt, e); highs = f }
cross_on bracket [] q e f = absurd e
cross_on bracket (y ∷ []) q e f = absurd e.1
cross_on bracket (y ∷ (z ∷ b)) q e f =
    record { low = pp y z ∷ b; high = q; crosses = bracket; lows = ((e.0, e.1.0), e.1.1); highs = f }

-- what more is known of a mark
record Unmarked (s : ℕ) (v y : Pat) : Type 0 where
  value : Pat
  is : y ≡ markp s value
  refined : Ref v value

unmarked : (s : ℕ) (v y : Pat) → Ref (markp s v) y → Unmarked s v y
unmarked zero v any h = absurd h
unmarked zero v hole h = absurd h
unmarked zero v nil h = absurd h
unmarked zero v (oo y) h = record { value = y; is = refl; refined = h }
unmarked zero v (ss y) h = absurd h
unmarked zero v (pp y z) h = absurd h
unmarked (suc s) v any h = absurd h
unmarked (suc s) v hole h = absurd h
unmarked (suc s) v nil h = absurd h
unmarked (suc s) v (oo y) h = absurd h
unmarked (suc s) v (ss y) h = record { value = y; is = refl; refined = h }
unmarked (suc s) v (pp y z) h = absurd h

cross_back : {k : Kind} {s : ℕ} {a r a' r' : Stack} → Cross k s a r a' r' → (b q : Stack) → Refs a' b → Refs r' q →
    Backward k s b q a r
cross_back (own h) b [] e f = absurd f
cross_back {k} (own {a = a} {r = r} {u = u} h) b (y ∷ q) e f =
    let t = unmarked 0 u y f.0 in
    subst (λ y. Backward k 0 b (y ∷ q) a (u ∷ r)) (sym t.is)
    (record { low = b; high = t.value ∷ q; crosses = own h; lows = e; highs = (t.refined, f.1) })
cross_back (box h) b [] e f = absurd f
cross_back {k} (box {a = a} {r = r} {v = v} h) b (y ∷ q) e f =
    let t = unmarked 1 v y f.0 in
    subst (λ y. Backward k 1 b (y ∷ q) (v ∷ a) r) (sym t.is)
    (record { low = t.value ∷ b; high = q; crosses = box h; lows = (t.refined, e); highs = f.1 })
cross_back fan_o [] q e f = absurd e
cross_back (fan_o {a = a} {r = r} {v = v}) (y ∷ b) q e f =
    let t = unmarked 0 v y e.0 in
    subst (λ y. Backward kind.Fan 0 (y ∷ b) q (v ∷ a) r) (sym t.is)
    (record { low = t.value ∷ b; high = q; crosses = fan_o; lows = (t.refined, e.1); highs = f })
cross_back fan_s [] q e f = absurd e
cross_back (fan_s {a = a} {r = r} {v = v}) (y ∷ b) q e f =
    let t = unmarked 1 v y e.0 in
    subst (λ y. Backward kind.Fan 1 (y ∷ b) q (v ∷ a) r) (sym t.is)
    (record { low = t.value ∷ b; high = q; crosses = fan_s; lows = (t.refined, e.1); highs = f })
cross_back croissant [] q e f = absurd e
cross_back croissant (any ∷ b) q e f = absurd e.0
cross_back croissant (hole ∷ b) q e f = absurd e.0
cross_back croissant (nil ∷ b) q e f = record { low = b; high = q; crosses = croissant; lows = e.1; highs = f }
cross_back croissant (oo y ∷ b) q e f = absurd e.0
cross_back croissant (ss y ∷ b) q e f = absurd e.0
cross_back croissant (pp y z ∷ b) q e f = absurd e.0
cross_back bracket [] q e f = absurd e
cross_back bracket (any ∷ b) q e f = absurd e.0
cross_back bracket (hole ∷ b) q e f = absurd e.0
cross_back bracket (nil ∷ b) q e f = absurd e.0
cross_back bracket (oo y ∷ b) q e f = absurd e.0
cross_back bracket (ss y ∷ b) q e f = absurd e.0
cross_back bracket (pp y z ∷ b) q e f =
    record { low = y ∷ z ∷ b; high = q; crosses = bracket; lows = (e.0.0, (e.0.1, e.1)); highs = f }

module _ {A : Type 0} (N : NamedNet A) where
  -- a state of which more is known
  abbrev Knows : At A → Stack → Stack → Type 0
  Knows u b q = Refs u.1 b × Refs u.2 q

  record Known (p : NamedPort A) (b q : Stack) (v : At A) : Type 0 where
    low : Stack
    high : Stack
    meets : Meet N (p, b, q) (v.0, low, high)
    knows : Knows v low high

  step_on : {u v : At A} → Step N u v → (p : NamedPort A) (b q low high : Stack) → Meet N (p, b, q) (u.0, low, high) →
      Knows u low high → Known p b q v
  step_on (link h) p b q low high m k = record { low = low; high = high; meets = on m (link h); knows = k }
  step_on (cross (node i h x)) p b q low high m k =
      let t = cross_back x low high k.0 k.1 in
      record { low = t.low; high = t.high; meets = on m (cross (node i h t.crosses)); knows = (t.lows, t.highs) }

  step_back : {u v : At A} → Step N u v → (p : NamedPort A) (b q low high : Stack) → Meet N (p, b, q) (v.0, low, high) →
      Knows v low high → Known p b q u
  step_back (link h) p b q low high m k = record { low = low; high = high; meets = back m (link h); knows = k }
  step_back (cross (node i h x)) p b q low high m k =
      let t = cross_on x low high k.0 k.1 in
      record { low = t.low; high = t.high; meets = back m (cross (node i h t.crosses)); knows = (t.lows, t.highs) }

  known : {u v : At A} → Meet N u v → (b q : Stack) → Knows u b q → Known u.0 b q v
  known here b q k = record { low = b; high = q; meets = here; knows = k }
  known {u} (on j e) b q k =
      let t = known j b q k in step_on e u.0 b q t.low t.high t.meets t.knows
  known {u} (back j e) b q k =
      let t = known j b q k in step_back e u.0 b q t.low t.high t.meets t.knows

  only_hole : (q : Stack) → Refs (hole ∷ []) q → q ≡ hole ∷ []
  only_hole [] h = absurd h
  only_hole (any ∷ q) h = absurd h.0
  only_hole (hole ∷ []) h = refl
  only_hole (hole ∷ (y ∷ q)) h = absurd h.1
  only_hole (nil ∷ q) h = absurd h.0
  only_hole (oo y ∷ q) h = absurd h.0
  only_hole (ss y ∷ q) h = absurd h.0
  only_hole (pp y z ∷ q) h = absurd h.0

  -- a line, where more is known of where it begins
  pub refined : (p : NamedPort A) (a r : Stack) (z : A) (e : Stack) → Meet N (p, a, r) (slot z 0, e, hole ∷ []) →
      (b : Stack) → Refs a b → (e' : Stack) × Refs e e' × Meet N (p, b, r) (slot z 0, e', hole ∷ [])
  refined p a r z e m b h =
      let t = known m b r (h, refs_self r) in (
        t.low,
        t.knows.0,
        subst (λ q. Meet N (p, b, r) (slot z 0, t.low, q)) (only_hole t.high t.knows.1) t.meets,
      )

-- ---- the ends of a line

abbrev pub starred : Pat → Bool
starred any = false
starred hole = false
starred nil = false
starred (oo u) = starred u
starred (ss u) = true
starred (pp u v) = false

abbrev turn_if : Bool → Bool → Bool
turn_if true b = not b
turn_if false b = false

abbrev pub odd : Stack → Bool
odd [] = false
odd (u ∷ r) = turn_if (starred u) (odd r)

abbrev differ : Bool → Bool → Bool
differ true b = not b
differ false b = b

differ_left : (a b : Bool) → differ (not a) b ≡ not (differ a b)
differ_left true true = refl
differ_left true false = refl
differ_left false b = refl

differ_right : (a b : Bool) → differ a (not b) ≡ not (differ a b)
differ_right true b = refl
differ_right false b = refl

no_fixed : (b : Bool) → b ≡ not b → ⊥
no_fixed true e = absurd (cc)
no_fixed false e = absurd (cc)

cross_one : {k : Kind} {s s' : ℕ} {a r b q a' r' : Stack} → Cross k s a r a' r' → Cross k s' b q a' r' →
    (s ≡ s') × (a ≡ b) × (r ≡ q)
cross_one (own h) (own h') = (refl, refl, refl)
cross_one (box h) (box h') = (refl, refl, refl)
cross_one fan_o fan_o = (refl, refl, refl)
cross_one fan_s fan_s = (refl, refl, refl)
cross_one croissant croissant = (refl, refl, refl)
cross_one bracket bracket = (refl, refl, refl)
cross_one (own {r = r} {u = u} h) (fan_o {a = a} {v = v}) = elim h [ ]
cross_one (own {r = r} {u = u} h) (fan_s {a = a} {v = v}) = elim h [ ]
cross_one {b = b} (own {r = r} {u = u} h) croissant = elim h [ ]
cross_one (own {r = r} {u = u} h) (bracket {a = a} {v = v} {w = w}) = elim h [ ]
cross_one {r = r} (box h) (fan_o {a = a} {v = v}) = elim h [ ]
cross_one {r = r} (box h) (fan_s {a = a} {v = v}) = elim h [ ]
cross_one {r = r} {b = b} (box {v = v} h) croissant = elim h [ ]
cross_one {r = r} (box h) (bracket {a = a} {v = v} {w = w}) = elim h [ ]
cross_one (fan_o {a = a} {v = v}) (own {r = r} {u = u} h') = elim h' [ ]
cross_one {q = q} (fan_o {a = a} {v = v}) (box h') = elim h' [ ]
cross_one (fan_s {a = a} {v = v}) (own {r = r} {u = u} h') = elim h' [ ]
cross_one {q = q} (fan_s {a = a} {v = v}) (box h') = elim h' [ ]
cross_one {a = a} croissant (own {r = r} {u = u} h') = elim h' [ ]
cross_one {a = a} {q = q} croissant (box {v = v} h') = elim h' [ ]
cross_one (bracket {a = a} {v = v} {w = w}) (own {r = r} {u = u} h') = elim h' [ ]
cross_one {q = q} (bracket {a = a} {v = v} {w = w}) (box h') = elim h' [ ]

cross_one_up : {k : Kind} {s : ℕ} {a r a' r' b' q' : Stack} → Cross k s a r a' r' → Cross k s a r b' q' →
    (a' ≡ b') × (r' ≡ q')
cross_one_up (own h) (own h') = (refl, refl)
cross_one_up (box h) (box h') = (refl, refl)
cross_one_up fan_o fan_o = (refl, refl)
cross_one_up fan_s fan_s = (refl, refl)
cross_one_up croissant croissant = (refl, refl)
cross_one_up bracket bracket = (refl, refl)
cross_one_up (own {r = r} {u = u} h) (fan_o {a = a} {v = v}) = elim h [ ]
cross_one_up {a = a} (own {r = r} {u = u} h) croissant = elim h [ ]
cross_one_up (own {r = r} {u = u} h) (bracket {a = a} {v = v} {w = w}) = elim h [ ]
cross_one_up {r = r} (box {a = a} {v = v} h) fan_s = elim h [ ]
cross_one_up (fan_o {a = a} {v = v}) (own {r = r} {u = u} h') = elim h' [ ]
cross_one_up {r = r} (fan_s {a = a} {v = v}) (box h') = elim h' [ ]
cross_one_up {a = a} croissant (own {r = r} {u = u} h') = elim h' [ ]
cross_one_up (bracket {a = a} {v = v} {w = w}) (own {r = r} {u = u} h') = elim h' [ ]

module _ {A : Type 0} (N : NamedNet A) (is_net : IsNet N) where
  -- from u by links and nodes in turn; true: by a node last, or not yet at all
  data Trail (u : At A) : Bool → At A → Type 0 where
    none : Trail u true u
    by_link : {p q : NamedPort A} {a r : Stack} → Trail u true (p, a, r) → Linked N p q → Trail u false (q, a, r)
    by_down : {v w : At A} → Trail u false v → Node N v w → Trail u true w
    by_up : {v w : At A} → Trail u false v → Node N w v → Trail u true w

  -- one goes through a node in one way
  down_one : {v w : At A} → Node N v w → (x : A) (a r : Stack) → v ≡ (slot x 0, a, r) → (w' : At A) →
      Node N (slot x 0, a, r) w' → w ≡ w'
  down_one (node {x = y} {k = k} {s = s} {a = a} {r = r} {a' = a'} {r' = r'} i h c) x b q e w'
      (node {x = z} {k = k'} {s = s'} {a = a2} {r = r2} i' h' c') =
      let same : y ≡ x = (let p : ◌≡◌ {A = NamedPort A} (slot y 0) (slot x 0) = ap (λ (u : At A). u.0) e in cc) in
      let ea : a' ≡ b = ap (λ (u : At A). u.1) e in
      let er : r' ≡ q = ap (λ (u : At A). u.2) e in
      let o = is_net.one_node y k k' i i' h (subst (λ x. HasNode N x k' i') (sym same) h') in
      let c2 : Cross k s a r b q = subst (λ q. Cross k s a r b q) er (subst (λ b. Cross k s a r b r') ea c) in
      let t = cross_one c2 (subst (λ k. Cross k s' a2 r2 b q) (sym o.0) c') in
      ap (λ y. (slot y (suc s), a, r)) same ∙ ap (λ s. (slot x (suc s), a, r)) t.0
      ∙ ap (λ a. (slot x (suc s'), a, r)) t.1 ∙ ap (λ r. (slot x (suc s'), a2, r)) t.2

  up_one : {v w : At A} → Node N w v → (x : A) (s : ℕ) (a r : Stack) → v ≡ (slot x (suc s), a, r) → (w' : At A) →
      Node N w' (slot x (suc s), a, r) → w ≡ w'
  up_one (node {x = y} {k = k} {s = s} {a = a} {r = r} {a' = a'} {r' = r'} i h c) x s' b q e w'
      (node {x = z} {k = k'} {a' = a2} {r' = r2} i' h' c') =
      let ep : ◌≡◌ {A = NamedPort A} (slot y (suc s)) (slot x (suc s')) = ap (λ (u : At A). u.0) e in
      let same : y ≡ x = cc in
      let es : s ≡ s' = cc in
      let ea : a ≡ b = ap (λ (u : At A). u.1) e in
      let er : r ≡ q = ap (λ (u : At A). u.2) e in
      let o = is_net.one_node y k k' i i' h (subst (λ x. HasNode N x k' i') (sym same) h') in
      let c2 : Cross k s' b q a' r' = subst (λ s. Cross k s b q a' r') es
      (subst (λ q. Cross k s b q a' r') er (subst (λ b. Cross k s b r a' r') ea c)) in
      let t = cross_one_up c2 (subst (λ k. Cross k s' b q a2 r2) (sym o.0) c') in
      ap (λ y. (slot y 0, a', r')) same ∙ ap (λ a. (slot x 0, a, r')) t.0 ∙ ap (λ r. (slot x 0, a2, r)) t.1

  downs_agree : {v w w' : At A} → Node N v w → Node N v w' → w ≡ w'
  downs_agree {w' = w'} n (node {x = x} {a' = a'} {r' = r'} i h c) = down_one n x a' r' refl w' (node i h c)

  ups_agree : {v w w' : At A} → Node N w v → Node N w' v → w ≡ w'
  ups_agree {w' = w'} n (node {x = x} {s = s} {a = a} {r = r} i h c) = up_one n x s a r refl w' (node i h c)

  not_below : {v w : At A} → Node N v w → (x : A) (s : ℕ) (a r : Stack) → v ≡ (slot x (suc s), a, r) → ⊥
  not_below (node {x = y} i h c) x s a r e =
      let p : ◌≡◌ {A = NamedPort A} (slot y 0) (slot x (suc s)) = ap (λ (u : At A). u.0) e in
      let z : 0 ≡ suc s = cc in
      absurd (omega arith)

  not_both : {v w w' : At A} → Node N v w → Node N w' v → ⊥
  not_both n (node {x = x} {s = s} {a = a} {r = r} i h c) = not_below n x s a r refl

  no_fan : IsPole kind.Fan → ⊥
  no_fan h = elim h [ ]

  no_croissant : IsPole kind.Croissant → ⊥
  no_croissant h = elim h [ ]

  no_bracket : IsPole kind.Bracket → ⊥
  no_bracket h = elim h [ ]

  no_mark : {k : Kind} {s : ℕ} {a r a' r' : Stack} → Cross k s a r a' r' → IsPole k → r' ≡ hole ∷ [] → ⊥
  no_mark (own h) p e = absurd (cc)
  no_mark (box h) p e = absurd (cc)
  no_mark fan_o p e = no_fan p
  no_mark fan_s p e = no_fan p
  no_mark croissant p e = no_croissant p
  no_mark bracket p e = no_bracket p

  -- nothing goes down through an abstraction or an application where the hole is on top
  dead : (K : Kind) (j : ℕ) (x : A) → IsPole K → HasNode N x K j → {v w : At A} → Node N v w → (a : Stack) →
      v ≡ (slot x 0, a, hole ∷ []) → ⊥
  dead K j x pole here' (node {x = y} {k = k} {r' = r'} i h c) a e =
      let same : y ≡ x = (let p : ◌≡◌ {A = NamedPort A} (slot y 0) (slot x 0) = ap (λ (u : At A). u.0) e in cc) in
      let o = is_net.one_node y K k j i (subst (λ x. HasNode N x K j) (sym same) here') h in
      no_mark c (subst IsPole o.0 pole) (ap (λ (u : At A). u.2) e)

  not_above : {v w : At A} → Node N w v → {x : A} {a r : Stack} → v ≡ (slot x 0, a, r) → ⊥
  not_above (node {x = y} {s = s} i h c) {x} e =
      let p : ◌≡◌ {A = NamedPort A} (slot y (suc s)) (slot x 0) = ap (λ (u : At A). u.0) e in
      let z : suc s ≡ 0 = cc in
      absurd (omega arith)

  module _ (K : Kind) (j : ℕ) (x : A) (pole : IsPole K) (at_x : HasNode N x K j) (a : Stack) where
    abbrev u : At A
    u = (slot x 0, a, hole ∷ [])

    more_link : {b : Bool} {p : NamedPort A} {c r : Stack} → Trail u b (p, c, r) → (q : NamedPort A) → Linked N p q →
        (b' : Bool) × Trail u b' (q, c, r)
    more_link none q l = (false, by_link none l)
    more_link (by_down t n) q l = (false, by_link (by_down t n) l)
    more_link (by_up t n) q l = (false, by_link (by_up t n) l)
    more_link {p = p} {c = c} {r = r} (by_link {p = o} t l') q l = (
      true,
      subst (λ z. Trail u true (z, c, r)) (is_net.one_link p o q (linked_sym N o p l') l) t,
    )

    more_down : {b : Bool} {v : At A} → Trail u b v → (w : At A) → Node N v w → (b' : Bool) × Trail u b' w
    more_down none w n = absurd (dead K j x pole at_x n a refl)
    more_down (by_link t l) w n = (true, by_down (by_link t l) n)
    more_down (by_down t n') w n = absurd (not_both n n')
    more_down (by_up t n') w n = (false, subst (λ z. Trail u false z) (downs_agree n' n) t)

    more_up : {b : Bool} {v : At A} → Trail u b v → (w : At A) → Node N w v → (b' : Bool) × Trail u b' w
    more_up none w n = absurd (not_above n refl)
    more_up (by_link t l) w n = (true, by_up (by_link t l) n)
    more_up (by_down t n') w n = (false, subst (λ z. Trail u false z) (ups_agree n' n) t)
    more_up (by_up t n') w n = absurd (not_both n' n)

    trail : {v : At A} → Meet N u v → (b : Bool) × Trail u b v
    trail here = (true, none)
    trail (on m (link {q = q} l)) = more_link (trail m).1 q l
    trail (on {w = w} m (cross n)) = more_down (trail m).1 w n
    trail (back m (link {p = p} {q = q} l)) = more_link (trail m).1 p (linked_sym N p q l)
    trail (back {w = w} m (cross n)) = more_up (trail m).1 w n

  module _ (L : IsLevelled N) where
    abbrev side : At A → Bool
    side v = differ (L.is_out v.0) (odd v.2)

    link_flips : (p q : NamedPort A) (a r : Stack) → Linked N p q → side (q, a, r) ≡ not (side (p, a, r))
    link_flips p q a r l =
        sym (not-not (differ (L.is_out q) (odd r)))
        ∙ ap not (sym (differ_left (L.is_out q) (odd r)))
        ∙ ap (λ b. not (differ b (odd r))) (sym (L.links p q l).1)

    turned : (b b' y : Bool) → b' ≡ not b → differ b' y ≡ not (differ b y)
    turned b b' y e = ap (λ b. differ b y) e ∙ differ_left b y

    kept : (b b' y : Bool) → b' ≡ b → differ b' y ≡ not (differ b (not y))
    kept b b' y e = ap (λ b. differ b y) e ∙ sym (not-not (differ b y)) ∙ ap not (sym (differ_right b y))

    node_flips : {v w : At A} → Node N v w → side w ≡ not (side v)
    node_flips (node {x = x} i h (own {r = r} {u = u} is_lam)) =
        turned (L.is_out (slot x 0)) (L.is_out (slot x 1)) (odd (u ∷ r)) (L.beside x kind.Lam i 0 h (omega arith)).1
    node_flips (node {x = x} i h (own {r = r} {u = u} is_app)) =
        turned (L.is_out (slot x 0)) (L.is_out (slot x 1)) (odd (u ∷ r)) (L.beside x kind.App i 0 h (omega arith)).1
    node_flips (node {x = x} i h (box {r = r} is_lam)) =
        kept (L.is_out (slot x 0)) (L.is_out (slot x 2)) (odd r) (L.beside x kind.Lam i 1 h (omega arith)).1
    node_flips (node {x = x} i h (box {r = r} is_app)) =
        kept (L.is_out (slot x 0)) (L.is_out (slot x 2)) (odd r) (L.beside x kind.App i 1 h (omega arith)).1
    node_flips (node {x = x} i h (fan_o {r = r})) =
        turned (L.is_out (slot x 0)) (L.is_out (slot x 1)) (odd r) (L.beside x kind.Fan i 0 h (omega arith)).1
    node_flips (node {x = x} i h (fan_s {r = r})) =
        turned (L.is_out (slot x 0)) (L.is_out (slot x 2)) (odd r) (L.beside x kind.Fan i 1 h (omega arith)).1
    node_flips (node {x = x} i h (croissant {r = r})) =
        turned (L.is_out (slot x 0)) (L.is_out (slot x 1)) (odd r) (L.beside x kind.Croissant i 0 h (omega arith)).1
    node_flips (node {x = x} i h (bracket {r = r})) =
        turned (L.is_out (slot x 0)) (L.is_out (slot x 1)) (odd r) (L.beside x kind.Bracket i 0 h (omega arith)).1

    abbrev turned_by : Bool → Bool → Bool
    turned_by true b = b
    turned_by false b = not b

    parity : {u : At A} {b : Bool} {v : At A} → Trail u b v → side v ≡ turned_by b (side u)
    parity none = refl
    parity {u} (by_link {p = p} {q = q} {a = a} {r = r} t l) = link_flips p q a r l ∙ ap not (parity t)
    parity {u} (by_down t n) = node_flips n ∙ ap not (parity t) ∙ not-not (side u)
    parity {u} (by_up {v = v} {w = w} t n) =
        sym (not-not (side w)) ∙ ap not (sym (node_flips n)) ∙ ap not (parity t) ∙ not-not (side u)

    out_one : (K : Kind) (x z : A) (i j : ℕ) → IsPole K → HasNode N x K i → HasNode N z K j →
        L.is_out (slot x 0) ≡ L.is_out (slot z 0)
    out_one kind.Lam x z i j p h h' = (L.stands x kind.Lam i h).1 ∙ sym (L.stands z kind.Lam j h').1
    out_one kind.App x z i j p h h' = (L.stands x kind.App i h).1 ∙ sym (L.stands z kind.App j h').1
    out_one kind.Fan x z i j p h h' = absurd (no_fan p)
    out_one kind.Croissant x z i j p h h' = absurd (no_croissant p)
    out_one kind.Bracket x z i j p h h' = absurd (no_bracket p)
    out_one kind.Eraser x z i j p h h' = elim p [ ]

    -- Two abstractions, or two applications, at the ends of a line are one.
    pub ends : (K : Kind) (x z : A) (i j : ℕ) (a b : Stack) → IsPole K → HasNode N x K i → HasNode N z K j →
        Meet N (slot x 0, a, hole ∷ []) (slot z 0, b, hole ∷ []) → (x ≡ z) × (a ≡ b)
    ends K x z i j a b pole h h' m =
        let t = trail K i x pole h a m in go t.0 (slot z 0, b, hole ∷ []) t.1 refl
      where
        go : (f : Bool) (v : At A) → Trail (slot x 0, a, hole ∷ []) f v → v ≡ (slot z 0, b, hole ∷ []) →
            (x ≡ z) × (a ≡ b)
        go true v none e =
            let p : ◌≡◌ {A = NamedPort A} (slot x 0) (slot z 0) = ap (λ (u : At A). u.0) e in
            (cc, ap (λ (u : At A). u.1) e)
        go false v (by_link {p = p} {q = q} {a = c} {r = r} t l) e =
            let s = parity (by_link t l) in
            absurd (no_fixed (side (slot x 0, a, hole ∷ []))
            (ap (λ b. differ b false) (out_one K x z i j pole h h') ∙ sym (ap side e) ∙ s))
        go true v (by_down t (node {x = y} {s = s} i' h2 c)) e =
            let p : ◌≡◌ {A = NamedPort A} (slot y (suc s)) (slot z 0) = ap (λ (u : At A). u.0) e in
            let n : suc s ≡ 0 = cc in
            absurd (omega arith)
        go true v (by_up t n) e = absurd (dead K j z pole h' n b e)
