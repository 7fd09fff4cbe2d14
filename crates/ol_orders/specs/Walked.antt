-- Private: words of private contracts alone: what a walk over two nets leaves behind it.
use Rattle.std.specs.Prelude.{◌≡◌, ℕ, ◌+◌, ◌*◌, ◌<◌, ◌≤◌, List, length, Option, None, Some}
use Rattle.ol_law_edges.specs.Edges.{IsIn}
use Rattle.ol_net.specs.declared.parts.Kind.{Kind}
use Rattle.ol_net.specs.declared.parts.Port.{Port}
use Rattle.ol_net.specs.declared.parts.Port.TheVariants.{Free, Of}
use Rattle.ol_net.specs.Graph.{Graph, kind_at, partner_of}
use Rattle.ol_net.specs.Nets.{HasNode}
use Rattle.ol_net.specs.Numbered.{net_of}
use Rattle.ol_orders.specs.Same.{pair_at, port_on, AreOne, IsRenumbered, Fails, FailsAt, Spends, SpendsAt}
use Rattle.ol_orders.specs.declared.comparing.Tried.{Tried}
use Rattle.ol_orders.specs.declared.comparing.Tried.TheVariants as tried

-- the pairs that have met are of nodes that are alike, and each node is in one of them at most
pub record IsMet (a b : Graph) (met : List (ℕ × ℕ)) : Type 0 where
  pub one : (x y z : ℕ) → IsIn (x, y) met → IsIn (x, z) met → y ≡ z
  pub back : (x y z : ℕ) → IsIn (x, z) met → IsIn (y, z) met → x ≡ y
  pub kinds : (x y : ℕ) → IsIn (x, y) met → kind_at a.nodes x ≡ kind_at b.nodes y

-- the partners of two ports are alike by the pairs that have met
abbrev pub AreSo : List (ℕ × ℕ) → Option Port → Option Port → Type 0
AreSo met None None = Unit {0}
AreSo met (Some (Free k)) (Some (Free l)) = k ≡ l
AreSo met (Some (Of x s)) (Some (Of y t)) = (s ≡ t) × IsIn (x.0, y.0) met
AreSo met _ _ = ⊥

abbrev pub AreSoAt : Graph → Graph → List (ℕ × ℕ) → ℕ → Type 0
AreSoAt a b met k =
    AreSo met (partner_of a (port_on a.free (pair_at a.free met k).0 k))
    (partner_of b (port_on a.free (pair_at a.free met k).1 k))

-- what a walk leaves behind it
pub record HasWalked (a b : Graph) (at : ℕ) (met : List (ℕ × ℕ)) : Type 0 where
  pub met_so : IsMet a b met
  pub so : (k : ℕ) → k < at → AreSoAt a b met k
  pub within : at ≤ a.free + 3 * length met

-- the names take each node that has met one to that one, and each such node is there
pub record Follow (a : Graph) (names : ℕ → ℕ) (met : List (ℕ × ℕ)) : Type 0 where
  pub is : (x y : ℕ) → IsIn (x, y) met → y ≡ names x
  pub there : (x y : ℕ) → IsIn (x, y) met → (k : Kind) × (i : ℕ) × HasNode (net_of a) x k i

-- no names that take the one net to the other do so
abbrev pub NoneFollow : Graph → Graph → List (ℕ × ℕ) → Type 0
NoneFollow a b met = (names : ℕ → ℕ) → IsRenumbered names (net_of a) (net_of b) → Follow a names met → ⊥

-- no such names take x to y
abbrev pub NoneTake : Graph → Graph → List (ℕ × ℕ) → ℕ → ℕ → Type 0
NoneTake a b met x y =
    (names : ℕ → ℕ) → IsRenumbered names (net_of a) (net_of b) → Follow a names met → names x ≡ y → ⊥

-- What a search found: names that take the one net to the other; or that there are none of this
-- sort, by the tries in vain that are no more among the rest; or nothing, since all tries are made.
abbrev pub Searched : Graph → Graph → Type 0 → (ℕ → Type 0) → (ℕ → Type 0) → ℕ → ℕ → Tried → Type 0
Searched a b Lack Vain Spent tries rest tried.One = AreOne a b
Searched a b Lack Vain Spent tries rest tried.Apart = Lack × ((n : ℕ) × Vain n × (rest + n ≡ tries))
Searched a b Lack Vain Spent tries rest tried.Spent = Spent tries

-- the same, of all names by which these have met
abbrev pub SearchedFrom : Graph → Graph → List (ℕ × ℕ) → ℕ → ℕ → Tried → Type 0
SearchedFrom a b met = Searched a b (NoneFollow a b met) (Fails a b met) (Spends a b met)

-- the same, of those that take x to y
abbrev pub SearchedAt : Graph → Graph → List (ℕ × ℕ) → ℕ → ℕ → ℕ → ℕ → Tried → Type 0
SearchedAt a b met x y =
    Searched a b (NoneTake a b met x y) (FailsAt a b met x y) (SpendsAt a b met x y)
