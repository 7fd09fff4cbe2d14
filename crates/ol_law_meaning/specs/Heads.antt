-- Head normal forms and head reduction, what the root of a term leads to, and what stands below the
-- head; with their laws.
use Rattle.std.specs.Prelude.{◌≡◌, ℕ, suc, ◌+◌, ◌≤◌, ◌<◌, ◌⊎◌, true}
use Rattle.ol_law_meaning.specs.Contraction.{Tree, var, free, lam, app, Level, empty, o, star, Context, cons}
use Rattle.ol_law_meaning.specs.Contraction.{Translation, Wire, bound, name, under, occurs, left, IsLevelOf, IsRight}
use Rattle.ol_law_meaning.specs.Contraction.{Place, root, wire, at, HeadStep, Leads}
use Rattle.ol_law_meaning.specs.Steps.{Same}
-- os n v is v below n times o: o^n.v in the comments here
pub use Rattle.ol_context.specs.Asked.{os}

-- how many abstractions a term begins with
abbrev pub outer : Tree → ℕ
outer (lam t) = suc (outer t)
outer (var y) = 0
outer (free f) = 0
outer (app t s) = 0

-- ---- head normal forms

-- A variable or a name with j arguments after it: its wire, level 0 of that wire at the term's
-- interface (a mark for each argument that has this wire too, over empty), and j.
pub data Spine : Tree → Wire → Level → ℕ → Type 0 where
  head_var : {y : ℕ} → Spine (var y) (bound y) empty 0
  head_free : {f : ℕ} → Spine (free f) (name f) empty 0
  head_app : {R P : Tree} {y : Wire} {a w : Level} {j : ℕ} → Spine R y a j → w ≡ left P y a →
      Spine (app R P) y w (suc j)

-- From the interface of an abstraction's body to the abstraction's own: the place and level 0
-- inside, and those outside. The body's root is the root below an o, the wire of the abstraction's
-- variable the root below a star.
pub data OutOf : Place → Level → Place → Level → Type 0 where
  up_root : {v w : Level} → w ≡ o v → OutOf root v root w
  up_own : {x : Wire} {a w : Level} → x ≡ bound 0 → w ≡ star a → OutOf (wire x) a root w
  up_wire : {y z : Wire} {a b : Level} → z ≡ under y → b ≡ a → OutOf (wire z) a (wire y) b

-- a head normal form: abstractions round a head with j arguments. The place at which its head
-- leaves, level 0 there, and j.
pub data Normal : Tree → Place → Level → ℕ → Type 0 where
  flat : {t : Tree} {y : Wire} {a : Level} {j : ℕ} → Spine t y a j → Normal t (wire y) a j
  layer : {t : Tree} {p q : Place} {v w : Level} {j : ℕ} → Normal t p v j → OutOf p v q w →
      Normal (lam t) q w j

-- ---- head reduction

-- so many head steps
pub data Steps : Tree → Tree → ℕ → Type 0 where
  done : {t : Tree} → Steps t t 0
  step : {t t' u : Tree} {m : ℕ} → HeadStep t t' → Steps t' u m → Steps t u (suc m)

-- values of level 0, at a place, that are the same before and after all of these steps
abbrev pub SameAlong : Translation → {t u : Tree} {m : ℕ} → Steps t u m → Place → Level → Level →
    Type 0
SameAlong τ done p v v' = v ≡ v'
SameAlong τ (step h s) p v v' = (w : Level) × Same τ h p v w × SameAlong τ s p w v'

-- ---- where the root of a head normal form leads

-- With o^k.u at the root of a head normal form of k abstractions one comes to its head's place,
-- past as many applications as it has arguments, j; level 1 is o^j.u there. One comes nowhere else.
abbrev pub HeadPath : Type 0
HeadPath = (τ : Translation) (t : Tree) (q : Place) (a u : Level) (j : ℕ) (c : Context) →
    Normal t q a j →
    Leads τ t (at root (os (outer t) u) c) (at q a (cons (os j u) c)) j
    × ((p : Place) (v : Level) (d : Context) (n : ℕ) →
    Leads τ t (at root (os (outer t) u) c) (at p v d) n → at p v d ≡ at q a (cons (os j u) c))

-- with o^n.empty at the root of any term, where n is less than the number of its abstractions, one comes nowhere
abbrev pub FewLeadNowhere : Type 0
FewLeadNowhere = (τ : Translation) (t : Tree) (q : Place) (w : Level) (c d : Context) (n m : ℕ) →
    n < outer t → Leads τ t (at root (os n empty) c) (at q w d) m → ⊥

-- a term is a head normal form or has a head step
abbrev pub NormalOrStep : Type 0
NormalOrStep = (t : Tree) →
    ((q : Place) × (a : Level) × (j : ℕ) × Normal t q a j) ⊎ ((t' : Tree) × HeadStep t t')

-- ---- where the root of any term leads

-- Where o^n.empty leads from the root to another place, by a trail of weight w, at most w head
-- steps lead to a head normal form. It has at most n abstractions, and the place is that of its
-- head: level 0 is the same along the steps, and level 1 tells the number of arguments.
abbrev pub HeadFound : Type 0
HeadFound = (τ : Translation) (t : Tree) (p : Place) (v : Level) (c d : Context) (n w : ℕ) →
    Leads τ t (at root (os n empty) c) (at p v d) w →
    (u : Tree) × (m : ℕ) × (s : Steps t u m) × (m ≤ w) × (a : Level) × (j : ℕ) × Normal u p a j
    × SameAlong τ s p v a
    × (e : ℕ) × (n ≡ outer u + e) × (d ≡ cons (os (j + e) empty) c)

-- and so it is with whichever head steps from this term to whichever head normal form
abbrev pub ExitIsHead : Type 0
ExitIsHead = (τ : Translation) (t u : Tree) (m : ℕ) (s : Steps t u m) (p q : Place) (v a : Level)
    (j : ℕ) (c d : Context) (n w : ℕ) →
    Normal u q a j → Leads τ t (at root (os n empty) c) (at p v d) w →
    (m ≤ w) × (p ≡ q) × SameAlong τ s q v a × (e : ℕ) × (n ≡ outer u + e)
    × (d ≡ cons (os (j + e) empty) c)

-- Where head steps lead to a head normal form of k abstractions, o^k.empty leads from the root of
-- the first term to the head's place, and o^n.empty leads nowhere for n less than k.
abbrev pub HeadIsFound : Type 0
HeadIsFound = (τ : Translation) (t u : Tree) (m : ℕ) (s : Steps t u m) (q : Place) (a : Level)
    (j : ℕ) (c : Context) → Normal u q a j →
    ((v : Level) × SameAlong τ s q v a
    × (w : ℕ) × Leads τ t (at root (os (outer u) empty) c) (at q v (cons (os j empty) c)) w)
    × ((n w : ℕ) (p : Place) (v : Level) (d : Context) →
    n < outer u → Leads τ t (at root (os n empty) c) (at p v d) w → ⊥)

-- Of the least n for which o^n.empty leads from the root to another place: n is the number of
-- abstractions of the head normal form, and level 1 tells its number of arguments, j, as o^j.empty.
abbrev pub LeastIsHead : Type 0
LeastIsHead = (τ : Translation) (t : Tree) (p : Place) (v : Level) (c d : Context) (n w : ℕ) →
    Leads τ t (at root (os n empty) c) (at p v d) w →
    ((m k : ℕ) (q : Place) (b : Level) (l : Context) → m < n →
    Leads τ t (at root (os m empty) c) (at q b l) k → ⊥) →
    (u : Tree) × (m : ℕ) × (s : Steps t u m) × (m ≤ w) × (a : Level) × (j : ℕ) × Normal u p a j
    × SameAlong τ s p v a
    × (n ≡ outer u) × (d ≡ cons (os j empty) c)

-- head steps keep which abstraction binds: at the root, a value that begins with o^i and a star is
-- the same only as one that does
abbrev pub BinderStays : Type 0
BinderStays = (τ : Translation) (t u : Tree) (m : ℕ) (s : Steps t u m) (i : ℕ) (x v v' : Level) →
    SameAlong τ s root v v' →
    (v ≡ os i (star x) → (y : Level) × (v' ≡ os i (star y)))
    × (v' ≡ os i (star x) → (y : Level) × (v ≡ os i (star y)))

-- ---- below a head normal form

-- P is argument i of a head normal form, from 0 on
pub data Arg : Tree → ℕ → Tree → Type 0 where
  last : {R P : Tree} {y : Wire} {a : Level} {i : ℕ} → Spine R y a i → Arg (app R P) i P
  earlier : {R P Q : Tree} {y : Wire} {a : Level} {i j : ℕ} → Spine R y a j → Arg R i P →
      Arg (app R Q) i P
  inner : {M P : Tree} {i : ℕ} → Arg M i P → Arg (lam M) i P

-- A relation of two interfaces: place, level 0 and later levels of the one, then those of the other.
abbrev pub Stands : Type 1
Stands = Place → Level → Context → Place → Level → Context → Type 0

-- Where a spot of the interface of P, argument i, stands at that of the application R P whose last
-- argument it is; w is the value of P's box. P's root stands at the wire of the head, level 1 is
-- o^i and a star over w, and P's own levels come after it. A wire of P is packed with w and marked;
-- its later levels stay.
pub data HatLast (τ : Translation) (R P : Tree) (y : Wire) (a : Level) (i : ℕ) (w : Level) :
    Place → Level → Context → Place → Level → Context → Type 0 where
  hat_root : {z : Wire} {v b : Level} {c d : Context} →
      z ≡ y → b ≡ left P y a → d ≡ cons (os i (star w)) (cons v c) →
      HatLast τ R P y a i w root v c (wire z) b d
  hat_wire : {x z : Wire} {b b' : Level} {c d : Context} →
      z ≡ x → occurs x P ≡ true → IsRight τ R P x b w b' → d ≡ c →
      HatLast τ R P y a i w (wire x) b c (wire z) b' d

-- with one more argument Q after it, where H says it without Q
pub data HatEarlier (Q : Tree) (H : Stands) : Place → Level → Context → Place → Level → Context →
    Type 0 where
  hat_left : {p : Place} {z : Wire} {v b b' : Level} {c d : Context} →
      H p v c (wire z) b d → b' ≡ left Q z b → HatEarlier Q H p v c (wire z) b' d

-- under one more abstraction
pub data HatInner (H : Stands) : Place → Level → Context → Place → Level → Context → Type 0 where
  hat_up : {p q r : Place} {v b b' : Level} {c d : Context} → H p v c q b d → OutOf q b r b' →
      HatInner H p v c r b' d

-- where a spot of the interface of an argument stands at that of the head normal form
abbrev pub StandsAt : Translation → {u P : Tree} {i : ℕ} → Arg u i P → Level → Stands
StandsAt τ (last {R = R} {P = P} {y = y} {a = a} {i = i} s) w = HatLast τ R P y a i w
StandsAt τ (earlier {Q = Q} s k) w = HatEarlier Q (StandsAt τ k w)
StandsAt τ (inner k) w = HatInner (StandsAt τ k w)

-- An argument is as a term of its own. What a spot of its interface leads to in the argument, that
-- it leads to in the head normal form, past as many applications or more; and all that it leads to
-- there is that.
abbrev pub BelowHead : Type 0
BelowHead = (τ : Translation) (u P : Tree) (i : ℕ) (k : Arg u i P) (w : Level) (p q : Place)
    (v b : Level) (c d : Context) →
    StandsAt τ k w p v c q b d →
    ((p' : Place) (v' : Level) (c' : Context) (n : ℕ) → Leads τ P (at p v c) (at p' v' c') n →
    (q' : Place) × (b' : Level) × (d' : Context) × StandsAt τ k w p' v' c' q' b' d'
    × (n' : ℕ) × (n ≤ n') × Leads τ u (at q b d) (at q' b' d') n')
    × ((q' : Place) (b' : Level) (d' : Context) (n' : ℕ) → Leads τ u (at q b d) (at q' b' d') n' →
    (p' : Place) × (v' : Level) × (c' : Context) × StandsAt τ k w p' v' c' q' b' d'
    × (n : ℕ) × (n ≤ n') × Leads τ P (at p v c) (at p' v' c') n)

-- each spot of the argument's interface stands at one of the head normal form, with a level 0 that
-- the wire has, and no two stand at the same
abbrev pub HatIsOne : Type 0
HatIsOne = (τ : Translation) (u P : Tree) (i : ℕ) (k : Arg u i P) (w : Level) →
    ((v : Level) (c : Context) → (q : Place) × (b : Level) × (d : Context)
    × StandsAt τ k w root v c q b d)
    × ((x : Wire) (v : Level) (c : Context) → occurs x P ≡ true → IsLevelOf τ P v →
    (q : Place) × (b : Level) × (d : Context) × StandsAt τ k w (wire x) v c q b d)
    × ((p q p' q' : Place) (v b v' b' : Level) (c d c' d' : Context) →
    StandsAt τ k w p v c q b d → StandsAt τ k w p' v' c' q' b' d' →
    (at p v c ≡ at p' v' c' → at q b d ≡ at q' b' d')
    × (at q b d ≡ at q' b' d' → at p v c ≡ at p' v' c'))

-- the argument's root stands at the place of the head, with the head's level 0; level 1 tells which argument it is
abbrev pub RootStandsAtHead : Type 0
RootStandsAtHead = (τ : Translation) (u P : Tree) (i : ℕ) (k : Arg u i P) (w : Level) (q : Place)
    (a : Level) (j : ℕ) → Normal u q a j →
    (i < j) × ((v : Level) (c : Context) →
    StandsAt τ k w root v c q a (cons (os i (star w)) (cons v c)))

-- a head normal form with j arguments has argument i for each i below j
abbrev pub ArgsAreThere : Type 0
ArgsAreThere = (u : Tree) (q : Place) (a : Level) (j i : ℕ) → Normal u q a j → i < j →
    (P : Tree) × Arg u i P
