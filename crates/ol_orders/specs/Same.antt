-- Whether two nets are one up to the numbers of their nodes, and where they differ.
use Rattle.std.specs.Prelude.{◌≡◌, ◌≢◌, ℕ, suc, ◌+◌, ◌-◌, ◌*◌, ◌/◌, ◌%◌, ◌<◌, nat_lt, ◌⊎◌, if◌then◌else◌, List, [], ◌∷◌}
use Rattle.std.specs.Prelude.{◌++◌, length, codes, Option, None, Some, slice_index_or, slice_get, drop}
use Rattle.std.specs.Fmt.{decimal}
use Rattle.ol_law_edges.specs.Edges.{IsIn}
use Rattle.ol_net.specs.declared.parts.Kind.{Kind}
use Rattle.ol_net.specs.declared.parts.Port.{Port}
use Rattle.ol_net.specs.declared.parts.Port.TheVariants.{Free, Of}
use Rattle.ol_net.specs.Graph.{Graph, kind_at, partner_of}
use Rattle.ol_net.specs.Nets.{NamedNet, HasNode, SameNet, net_under}
use Rattle.ol_net.specs.Numbered.{net_of}
use Rattle.ol_net.specs.PartTexts.{kind_text, index_text, port_text}
use Rattle.ol_view.specs.Laws.{IsTable}
use Rattle.ol_subjects.specs.declared.answers.End.{End}
use Rattle.ol_subjects.specs.declared.answers.End.TheVariants.{Yes, No, Refused}
use Rattle.ol_subjects.specs.declared.subjects.Subject.TheVariants.{Net}
use Rattle.ol_subjects.specs.Subjects.{IsSubject, Refuses}

-- N is M with each node x written names x, and no two nodes of M are written alike
pub record IsRenumbered (names : ℕ → ℕ) (M N : NamedNet ℕ) : Type 0 where
  pub apart : (x y : ℕ) (k l : Kind) (i j : ℕ) → HasNode M x k i → HasNode M y l j →
      names x ≡ names y → x ≡ y
  pub same : SameNet (net_under names M) N

-- the two nets are one up to the numbers of their nodes
abbrev pub AreOne : Graph → Graph → Type 0
AreOne a b = (names : ℕ → ℕ) × IsRenumbered names (net_of a) (net_of b)

-- A walk goes over both nets at once, from place to place: the free ports come first, by number, and
-- then three slots of each node, in the order in which the walk came to them. `met` are the pairs of
-- nodes to which it came, one of each net.
abbrev pub pair_at : ℕ → List (ℕ × ℕ) → ℕ → ℕ × ℕ
pair_at free met at = slice_index_or met ((at - free) / 3) (0, 0)

-- the port at a place, where the walk is at this node
abbrev pub port_on : ℕ → ℕ → ℕ → Port
port_on free x at = if nat_lt at free then Free at else Of (record { 0 = x }) ((at - free) % 3)

-- neither node has met another
abbrev pub AreNew : List (ℕ × ℕ) → ℕ → ℕ → Type 0
AreNew met x y = (u v : ℕ) → IsIn (u, v) met → (u ≢ x) × (v ≢ y)

-- The two nodes have met; or they are of one kind and one index, and meet now.
abbrev pub Meets : Graph → Graph → List (ℕ × ℕ) → ℕ → ℕ → List (ℕ × ℕ) → Type 0
Meets a b met x y met' = (IsIn (x, y) met × (met' ≡ met))
    ⊎ (AreNew met x y × (kind_at a.nodes x ≡ kind_at b.nodes y) × (met' ≡ met ++ (x, y) ∷ []))

-- The partners of two ports are alike: there is neither, or they are one free port, or one slot of
-- two nodes that meet.
abbrev pub AreAlike : Graph → Graph → List (ℕ × ℕ) → Option Port → Option Port →
    List (ℕ × ℕ) → Type 0
AreAlike a b met None None met' = met' ≡ met
AreAlike a b met (Some (Free k)) (Some (Free l)) met' = (k ≡ l) × (met' ≡ met)
AreAlike a b met (Some (Of x s)) (Some (Of y t)) met' = (s ≡ t) × Meets a b met x.0 y.0 met'
AreAlike a b met _ _ met' = ⊥

-- the same, of the ports at a place
abbrev pub GoesOn : Graph → Graph → List (ℕ × ℕ) → ℕ → List (ℕ × ℕ) → Type 0
GoesOn a b met at met' =
    AreAlike a b met (partner_of a (port_on a.free (pair_at a.free met at).0 at))
    (partner_of b (port_on a.free (pair_at a.free met at).1 at)) met'

-- From one place of a walk, where some pairs of nodes have met, to a later one: at the places between
-- the two nets are alike, and then these pairs have met.
pub data Walks (a b : Graph) (from : ℕ) (had : List (ℕ × ℕ)) : ℕ → List (ℕ × ℕ) → Type 0 where
  here : Walks a b from had from had
  on : {at : ℕ} {met met' : List (ℕ × ℕ)} → Walks a b from had at met →
      at < a.free + 3 * length met → GoesOn a b met at met' → Walks a b from had (suc at) met'

-- the kind and the index of a node
abbrev pub node_words : Option (Kind × ℕ) → List ℕ
node_words None = []
node_words (Some k) = codes " of " ++ kind_text k.0 ++ codes " " ++ index_text k.0 k.1

-- a port, and behind a slot the kind and the index of its node
abbrev pub end_words : Graph → Port → List ℕ
end_words g (Free k) = port_text (Free k)
end_words g (Of n s) = port_text (Of n s) ++ node_words (kind_at g.nodes n.0)

-- what a port is joined to
abbrev pub partner_words : Graph → Option Port → List ℕ
partner_words g None = codes "nothing"
partner_words g (Some p) = end_words g p

-- what two ports are joined to, one of each net
abbrev pub both_words : Graph → Graph → Port → Port → List ℕ
both_words a b p q = partner_words a (partner_of a p) ++ codes " here, "
    ++ partner_words b (partner_of b q) ++ codes " there"

-- The first port of a walk where the two nets differ, and how: a free port that only one of them
-- has; or a port of the first net whose partner is unlike that of the other's port at the same place.
pub data DiffersAt (a b : Graph) : Port → List ℕ → Type 0 where
  only_first : b.free < a.free → DiffersAt a b (Free b.free) (codes "only here")
  only_second : a.free < b.free → DiffersAt a b (Free a.free) (codes "only there")
  differs : {at : ℕ} {met : List (ℕ × ℕ)} → a.free ≡ b.free → Walks a b 0 [] at met →
      at < a.free + 3 * length met → ((met' : List (ℕ × ℕ)) → GoesOn a b met at met' → ⊥) →
      DiffersAt a b (port_on a.free (pair_at a.free met at).0 at)
      (both_words a b (port_on a.free (pair_at a.free met at).0 at)
      (port_on a.free (pair_at a.free met at).1 at))

-- all that a free port reaches is alike
pub record ReachAlike (a b : Graph) (met : List (ℕ × ℕ)) : Type 0 where
  pub free_ports : a.free ≡ b.free
  pub walked : Walks a b 0 [] (a.free + 3 * length met) met

-- the line that tells how many nodes of each net no free port reaches
abbrev pub left_text : Graph → Graph → List (ℕ × ℕ) → List ℕ
left_text a b met = codes "undecided: equal from the free ports, which don't reach "
    ++ decimal (length (net_of a).nodes - length met) ++ codes " and "
    ++ decimal (length (net_of b).nodes - length met) ++ codes " nodes\n"

-- the first node of the first net that has met none
pub record IsFirstAlone (a : Graph) (met : List (ℕ × ℕ)) (x : ℕ) : Type 0 where
  pub there : (k : Kind) × (i : ℕ) × HasNode (net_of a) x k i
  pub alone : (y : ℕ) → IsIn (x, y) met → ⊥
  pub first : (z : ℕ) → z < x → (k : Kind) (i : ℕ) → HasNode (net_of a) z k i →
      (y : ℕ) × IsIn (z, y) met

-- each node of the first net has met one, and some node of the second has met none
pub record IsOneLeft (a b : Graph) (met : List (ℕ × ℕ)) : Type 0 where
  pub first : (x : ℕ) (k : Kind) (i : ℕ) → HasNode (net_of a) x k i → (y : ℕ) × IsIn (x, y) met
  pub node : ℕ
  pub there : (k : Kind) × (i : ℕ) × HasNode (net_of b) node k i
  pub alone : (x : ℕ) → IsIn (x, node) met → ⊥

-- two nodes may meet: they are of one kind and one index, and neither has met another
abbrev pub MayMeet : Graph → Graph → List (ℕ × ℕ) → ℕ → ℕ → Type 0
MayMeet a b met x y = AreNew met x y × (kind_at a.nodes x ≡ kind_at b.nodes y)

-- the two meet, and from there a walk goes on to its end: then these have met
abbrev pub LeadsTo : Graph → Graph → List (ℕ × ℕ) → ℕ → ℕ → List (ℕ × ℕ) → Type 0
LeadsTo a b met x y met' =
    Walks a b (a.free + 3 * length met) (met ++ (x, y) ∷ []) (a.free + 3 * length met') met'

-- the two meet, and from there a walk goes on to a place where the nets differ
abbrev pub LeadsNowhere : Graph → Graph → List (ℕ × ℕ) → ℕ → ℕ → Type 0
LeadsNowhere a b met x y = (at : ℕ) × (met' : List (ℕ × ℕ))
    × Walks a b (a.free + 3 * length met) (met ++ (x, y) ∷ []) at met'
    × (at < a.free + 3 * length met') × ((m : List (ℕ × ℕ)) → GoesOn a b met' at m → ⊥)

-- A search, where these pairs have met: the first node of the first net that has met none is tried
-- against each node of the second net, by number. Two that may meet are one try; where it leads to
-- the end of a walk, the search goes on from there before the next try.
mutual
  -- all tries are in vain, n of them
  pub data Fails (a b : Graph) : (met : List (ℕ × ℕ)) (n : ℕ) → Type 0 where
    ends : {met : List (ℕ × ℕ)} → IsOneLeft a b met → Fails a b met 0
    all_fail : {met : List (ℕ × ℕ)} {x n : ℕ} → IsFirstAlone a met x →
        FailsBelow a b met x (length b.nodes) n → Fails a b met n

  -- those of x against the nodes below y are
  pub data FailsBelow (a b : Graph) : (met : List (ℕ × ℕ)) (x y n : ℕ) → Type 0 where
    below_0 : {met : List (ℕ × ℕ)} {x : ℕ} → FailsBelow a b met x 0 0
    below : {met : List (ℕ × ℕ)} {x y m n : ℕ} → FailsBelow a b met x y m → FailsAt a b met x y n →
        FailsBelow a b met x (y + 1) (m + n)

  -- that of x against y is, and so are those of the search from where it leads
  pub data FailsAt (a b : Graph) : (met : List (ℕ × ℕ)) (x y n : ℕ) → Type 0 where
    may_not : {met : List (ℕ × ℕ)} {x y : ℕ} → (MayMeet a b met x y → ⊥) → FailsAt a b met x y 0
    nowhere : {met : List (ℕ × ℕ)} {x y : ℕ} → MayMeet a b met x y → LeadsNowhere a b met x y →
        FailsAt a b met x y 1
    further : {met met' : List (ℕ × ℕ)} {x y n : ℕ} → MayMeet a b met x y →
        LeadsTo a b met x y met' → Fails a b met' n → FailsAt a b met x y (n + 1)

mutual
  -- n tries are in vain, and one more is wanted
  pub data Spends (a b : Graph) : (met : List (ℕ × ℕ)) (n : ℕ) → Type 0 where
    spends : {met : List (ℕ × ℕ)} {x y m n : ℕ} → IsFirstAlone a met x → FailsBelow a b met x y m →
        y < length b.nodes → SpendsAt a b met x y n → Spends a b met (m + n)

  -- the one more is that of x against y, or it is wanted in the search from where that leads
  pub data SpendsAt (a b : Graph) : (met : List (ℕ × ℕ)) (x y n : ℕ) → Type 0 where
    next : {met : List (ℕ × ℕ)} {x y : ℕ} → MayMeet a b met x y → SpendsAt a b met x y 0
    later : {met met' : List (ℕ × ℕ)} {x y n : ℕ} → MayMeet a b met x y →
        LeadsTo a b met x y met' → Spends a b met' n → SpendsAt a b met x y (n + 1)

-- The answer to two nets. Where free ports don't reach all nodes, the others are tried against one
-- another; the search is given up only where 1,000 tries are in vain and one more is wanted.
pub data IsComparison (a b : Graph) (text : List ℕ) : End → Type 0 where
  one : AreOne a b → text ≡ codes "same\n" → IsComparison a b text Yes
  differ : {p : Port} {words : List ℕ} → (AreOne a b → ⊥) → DiffersAt a b p words →
      text ≡ codes "different at " ++ port_text p ++ codes ": " ++ words ++ codes "\n" →
      IsComparison a b text No
  parts_differ : {met : List (ℕ × ℕ)} → (AreOne a b → ⊥) → ReachAlike a b met →
      text ≡ codes "different in parts that no free port reaches\n" → IsComparison a b text No
  left : {met : List (ℕ × ℕ)} → ReachAlike a b met → Spends a b met 1000 →
      text ≡ left_text a b met → IsComparison a b text No

-- the first byte, or one behind a line feed
abbrev pub BeginsLine : List ℕ → ℕ → Type 0
BeginsLine bytes at = (at ≡ 0) ⊎ (slice_get bytes (at - 1) ≡ Some 10)

-- the line `ol net 1` stands at this byte
pub record HasHead (bytes : List ℕ) (at : ℕ) : Type 0 where
  pub begins : BeginsLine bytes at
  pub rest : List ℕ
  pub stands : drop at bytes ≡ codes "ol net 1\n" ++ rest

-- The bytes of a file that are read as a net: those from its first line `ol net 1` on, which stands
-- behind nine counts and the stuck pairs where `ol net` wrote the file; and all of them, where there
-- is no such line.
pub data IsNetPart (bytes : List ℕ) : List ℕ → Type 0 where
  from : {at : ℕ} → HasHead bytes at → ((k : ℕ) → k < at → HasHead bytes k → ⊥) →
      IsNetPart bytes (drop at bytes)
  whole : ((k : ℕ) → HasHead bytes k → ⊥) → IsNetPart bytes bytes

-- The answer to two files, each with a net, which its tables have.
pub data IsSame (first second : List ℕ) (text : List ℕ) : End → Type 0 where
  refused_first : {p : List ℕ} → IsNetPart first p → Refuses Net p text →
      IsSame first second text Refused
  refused_second : {p q : List ℕ} {a : Graph} → IsNetPart first p → IsNetPart second q →
      IsSubject Net p a → Refuses Net q text → IsSame first second text Refused
  compared : {p q : List ℕ} {a b : Graph} {e : End} → IsNetPart first p → IsNetPart second q →
      IsTable a → IsTable b → IsSubject Net p a → IsSubject Net q b → IsComparison a b text e →
      IsSame first second text e
