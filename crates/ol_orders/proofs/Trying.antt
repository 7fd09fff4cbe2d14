-- How many tries of a search are in vain, as it goes.
use Rattle.std.proofs.Common.{◌≡◌, ◌≢◌, ℕ, ◌+◌, ◌*◌, ◌<◌, ◌≤◌, ◌⊎◌, inl, inr, refl, sym, ◌∙◌, subst}
use Rattle.std.proofs.Common.{List, [], ◌∷◌, ◌++◌, length, Option, None, Some, arith}
use Rattle.std.proofs.lemmas.Bool.{cases_lt}
use Rattle.std.proofs.lemmas.Option.{none-some}
use Rattle.ol_net.specs.declared.parts.Kind.{Kind}
use Rattle.ol_net.specs.Graph.{Graph, kind_at}
use Rattle.ol_net.specs.Nets.{HasNode}
use Rattle.ol_net.specs.Numbered.{net_of}
use Rattle.ol_orders.specs.Same.{GoesOn, Walks, IsFirstAlone, MayMeet, Fails, ends, all_fail, FailsBelow, below_0}
use Rattle.ol_orders.specs.Same.{below, FailsAt, may_not, nowhere, further, Spends, spends, SpendsAt, next, later}
use Rattle.ol_orders.specs.Meetings.{met_by, TellPairs, EachMet}
use Rattle.ol_orders.specs.Walked.{NoneFollow, NoneTake, SearchedFrom, SearchedAt}
use Rattle.ol_orders.specs.declared.comparing.Tried.{Tried}
use Rattle.ol_orders.specs.declared.comparing.Tried.TheVariants.{One, Apart, Spent}

module _ (a b : Graph) (pairs : List (ℕ × ℕ)) (there back : List (Option ℕ))
    (t : TellPairs pairs there back) where
  -- the first net's nodes have all met, and one of the second hasn't
  pub fails_left : EachMet a there → (y : ℕ) → met_by back y ≡ None →
      (k : Kind) × (i : ℕ) × HasNode (net_of b) y k i → Fails a b pairs 0
  fails_left ea y n h = ends (record {
    first = λ x k i h. let z = ea x k i h in (z.0, (t.there_tells x z.0).0 z.1);
    node = y;
    there = h;
    alone = λ x i. none-some x (sym n ∙ (t.back_tells x y).1 i);
  })

  -- the first node of the first net that has met none
  pub first_is : (x : ℕ) → met_by there x ≡ None → (k : Kind) × (i : ℕ) × HasNode (net_of a) x k i →
      ((z : ℕ) → z < x → (k : Kind) (i : ℕ) → HasNode (net_of a) z k i →
      (y : ℕ) × (met_by there z ≡ Some y)) →
      IsFirstAlone a pairs x
  first_is x n h f = record {
    there = h;
    alone = λ y i. none-some y (sym n ∙ (t.there_tells x y).1 i);
    first = λ z l k i h. let y = f z l k i h in (y.0, (t.there_tells z y.0).0 y.1);
  }

  -- a node that has met another may not meet this one
  pub fails_taken : (x y z : ℕ) → met_by back y ≡ Some z → FailsAt a b pairs x y 0
  fails_taken x y z e = may_not (λ m. (m.0 z y ((t.back_tells z y).0 e)).1 refl)

-- no try is used
pub unused : (Vain : ℕ → Type 0) (tries : ℕ) → Vain 0 → (n : ℕ) × Vain n × (tries + n ≡ tries)
unused Vain tries v = (0, v, omega arith)

-- nor may one of another kind or index
pub fails_unlike : (a b : Graph) (met : List (ℕ × ℕ)) (x y : ℕ) →
    kind_at a.nodes x ≢ kind_at b.nodes y → FailsAt a b met x y 0
fails_unlike a b met x y d = may_not (λ m. d m.1)

-- two nodes that may meet
module _ (a b : Graph) (met : List (ℕ × ℕ)) (x y : ℕ) (may : MayMeet a b met x y) where
  -- no try is left for them
  pub spends_next : (tries : ℕ) → tries ≡ 0 → SpendsAt a b met x y tries
  spends_next tries z = subst (SpendsAt a b met x y) (sym z) (next may)

  module _ (had : List (ℕ × ℕ)) (from : ℕ) (e : had ≡ met ++ (x, y) ∷ [])
      (f : from ≡ a.free + 3 * length met) where
    from_them : (at : ℕ) (m : List (ℕ × ℕ)) → Walks a b from had at m →
        Walks a b (a.free + 3 * length met) (met ++ (x, y) ∷ []) at m
    from_them at m w =
        subst (λ (k : ℕ). Walks a b k (met ++ (x, y) ∷ []) at m) f
        (subst (λ (h : List (ℕ × ℕ)). Walks a b from h at m) e w)

    -- a walk stops
    pub fails_nowhere : (at : ℕ) (m : List (ℕ × ℕ)) → Walks a b from had at m →
        at < a.free + 3 * length m → ((m' : List (ℕ × ℕ)) → GoesOn a b m at m' → ⊥) →
        FailsAt a b met x y 1
    fails_nowhere at m w l stops = nowhere may (at, m, from_them at m w, l, stops)

    -- a walk comes to its end, and the search goes on from there
    pub searched_on : (m : List (ℕ × ℕ)) → Walks a b from had (a.free + 3 * length m) m →
        (NoneFollow a b m → NoneTake a b met x y) → (tries spare rest : ℕ) → spare + 1 ≡ tries →
        (found : Tried) → SearchedFrom a b m spare rest found →
        SearchedAt a b met x y tries rest found
    searched_on m w none tries spare rest o One h = h
    searched_on m w none tries spare rest o Apart h = (
      none h.0,
      (
        h.1.0 + 1,
        further may (from_them (a.free + 3 * length m) m w) h.1.1,
        omega (arith, o, h.1.2),
      ),
    )
    searched_on m w none tries spare rest o Spent h =
        subst (SpendsAt a b met x y) o (later may (from_them (a.free + 3 * length m) m w) h)

-- none of the nodes up to this one is the one
pub none_on : (a b : Graph) (met : List (ℕ × ℕ)) (x n : ℕ) →
    ((y : ℕ) → y < n → NoneTake a b met x y) → NoneTake a b met x n →
    (y : ℕ) → y < n + 1 → NoneTake a b met x y
none_on a b met x n f g y l = go (cases_lt y n)
  where
    go : (y < n) ⊎ (n ≤ y) → NoneTake a b met x y
    go (inl i) = f y i
    go (inr i) =
        let same : n ≡ y = omega (arith, l, i) in
        subst (λ (y : ℕ). NoneTake a b met x y) same g

-- against the nodes of smaller numbers so many tries are in vain as are used up
abbrev pub HasFailed : Graph → Graph → List (ℕ × ℕ) → ℕ → ℕ → ℕ → ℕ → Type 0
HasFailed a b met x tries y rest = (n : ℕ) × FailsBelow a b met x y n × (rest + n ≡ tries)

module _ (a b : Graph) (met : List (ℕ × ℕ)) (x tries : ℕ) where
  pub failed_0 : HasFailed a b met x tries 0 tries
  failed_0 = (0, below_0, omega arith)

  pub failed_on : (y spare rest : ℕ) → HasFailed a b met x tries y spare →
      (n : ℕ) × FailsAt a b met x y n × (rest + n ≡ spare) → HasFailed a b met x tries (y + 1) rest
  failed_on y spare rest f g = (f.0 + g.0, below f.1 g.1, omega (arith, f.2, g.2))

  module _ (first : IsFirstAlone a met x) where
    -- against all
    pub failed_all : (y rest : ℕ) → y ≡ length b.nodes → HasFailed a b met x tries y rest →
        (n : ℕ) × Fails a b met n × (rest + n ≡ tries)
    failed_all y rest e f = (
      f.0,
      all_fail first (subst (λ (y : ℕ). FailsBelow a b met x y f.0) e f.1),
      f.2,
    )

    -- what the next node finds, where it isn't in vain
    pub found_at : (y spare rest : ℕ) → y < length b.nodes → HasFailed a b met x tries y spare →
        (found : Tried) → found ≢ Apart → SearchedAt a b met x y spare rest found →
        SearchedFrom a b met tries rest found
    found_at y spare rest l f One d h = h
    found_at y spare rest l f Apart d h = absurd (d refl)
    found_at y spare rest l f Spent d h =
        let all : f.0 + spare ≡ tries = omega (arith, f.2) in
        subst (Spends a b met) all (spends first f.1 l h)
