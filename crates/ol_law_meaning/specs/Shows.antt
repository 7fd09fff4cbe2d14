-- What a printed tree says of a term, by head reduction, beta reduction and leftmost reduction
-- (Barendregt, The Lambda Calculus, 1984, chapters 3, 8 and 13).
use Rattle.std.specs.Prelude.{◌≡◌, ℕ, suc, ◌+◌, Bool, true, false, List, [], ◌∷◌, ◌++◌, length, replicate}
use Rattle.std.specs.Prelude.{Some, IsSome}
use Rattle.ol_term.specs.Trees.{Tree, var, free, lam, app}
use Rattle.ol_beta.specs.Beta.{contracted}
use Rattle.ol_beta.specs.Leftmost.{leftmost}
use Rattle.ol_readback.specs.Whole.{Part, term, lost, cut, none, more, preorder}
use Rattle.ol_readback.specs.Terms.{abstracted, variable_of}
use Rattle.ol_readback.specs.declared.answers.ReadNode.{ReadNode}
use Rattle.ol_readback.specs.declared.answers.ReadNode.TheVariants as node

-- ---- reductions

-- Contraction of redexes, one after another, leads from one term to another. The addresses of the
-- redexes are such as Chosen says.
pub data ReducesBy (Chosen : Tree → List ℕ → Type 0) : Tree → Tree → Type 0 where
  ready : {t : Tree} → ReducesBy Chosen t t
  contract : {t u v : Tree} {at : List ℕ} →
      Chosen t at → contracted t at ≡ Some u → ReducesBy Chosen u v → ReducesBy Chosen t v

-- beta reduction: of any redexes
abbrev pub BetaReduces : Tree → Tree → Type 0
BetaReduces = ReducesBy (λ t at. Unit {0})

-- leftmost reduction: of the leftmost redex each time
abbrev pub LeftmostReduces : Tree → Tree → Type 0
LeftmostReduces = ReducesBy (λ t at. leftmost t ≡ Some at)

-- The address of a head redex, where one is there: some moves into bodies of abstractions, and then
-- some into functions.
abbrev pub IsHeadAddress : List ℕ → Type 0
IsHeadAddress at = (bodies functions : ℕ) × (at ≡ replicate bodies 0 ++ replicate functions 1)

-- head reduction: of the head redex each time
abbrev pub HeadReduces : Tree → Tree → Type 0
HeadReduces = ReducesBy (λ t at. IsHeadAddress at)

-- a term has a head redex
abbrev pub HasHeadRedex : Tree → Type 0
HasHeadRedex t = (at : List ℕ) × IsHeadAddress at × IsSome (contracted t at)

-- Head reduction of a term has no end: each term that it leads to has a head redex. So it comes to
-- no head normal form.
abbrev pub HeadReducesForever : Tree → Type 0
HeadReducesForever t = (u : Tree) → HeadReduces t u → HasHeadRedex u

-- ---- head normal forms

-- a term applied to arguments, the first one innermost
abbrev pub applied : Tree → List Tree → Tree
applied f [] = f
applied f (P ∷ Ps) = applied (app f P) Ps

abbrev pub IsVariable : Tree → Type 0
IsVariable (var y) = Unit {0}
IsVariable (free f) = Unit {0}
IsVariable _ = ⊥

-- abstractions round a variable or a free name that is applied to arguments
pub record IsHeadNormal (t : Tree) : Type 0 where
  pub abstractions : ℕ
  pub head : Tree
  pub arguments : List Tree
  pub variable : IsVariable head
  pub is : t ≡ abstracted abstractions (applied head arguments)

-- ---- what a tree says of a term

-- a tree is for a term, and a list of trees for as many terms
abbrev pub Shown : Bool → Type 0
Shown true = Tree
Shown false = List Tree

-- some place has no head
abbrev pub LacksHead : List ReadNode → Type 0
LacksHead [] = ⊥
LacksHead (node.NoHead ∷ ns) = Unit {0}
LacksHead (n ∷ ns) = LacksHead ns

-- The term is the tree's own, with some term in the place of each hole: where a place was cut, and
-- where it has no head. Where lost_too is true, head reduction of the term in the place of the
-- latter has no end. The part begins at place i; ss are the places round it, with their
-- abstractions.
abbrev pub Fills : {b : Bool} → Bool → List (ℕ × ℕ) → ℕ → Part b → Shown b → Type 0
Fills lost_too ss i (term l v ts) t =
    (Ps : List Tree) × (t ≡ abstracted l (applied (variable_of ((i, l) ∷ ss) v) Ps))
    × Fills lost_too ((i, l) ∷ ss) (suc i) ts Ps
Fills lost_too ss i lost t = lost_too ≡ true → HeadReducesForever t
Fills lost_too ss i cut t = Unit {0}
Fills lost_too ss i none Ps = Ps ≡ []
Fills lost_too ss i (more t ts) [] = ⊥
Fills lost_too ss i (more t ts) (P ∷ Ps) = Fills lost_too ss i t P
    × Fills lost_too ss (i + length (preorder t)) ts Ps

-- The tree shows the term: the same with head reduction at each head in the place of equality, so
-- that each head is that of a head normal form of the subterm at its place.
abbrev pub Shows : {b : Bool} → Bool → List (ℕ × ℕ) → ℕ → Part b → Shown b → Type 0
Shows lost_too ss i (term l v ts) t =
    (Ps : List Tree) × HeadReduces t (abstracted l (applied (variable_of ((i, l) ∷ ss) v) Ps))
    × Shows lost_too ((i, l) ∷ ss) (suc i) ts Ps
Shows lost_too ss i lost t = lost_too ≡ true → HeadReducesForever t
Shows lost_too ss i cut t = Unit {0}
Shows lost_too ss i none Ps = Ps ≡ []
Shows lost_too ss i (more t ts) [] = ⊥
Shows lost_too ss i (more t ts) (P ∷ Ps) = Shows lost_too ss i t P
    × Shows lost_too ss (i + length (preorder t)) ts Ps
