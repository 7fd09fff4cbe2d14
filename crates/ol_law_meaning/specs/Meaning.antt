-- The laws of what a printed tree says of its term.
use Rattle.std.specs.Prelude.{◌≡◌, ℕ, Bool, true, List, [], ◌∷◌, ◌++◌, length, ◌≤◌, ◌↔◌}
use Rattle.ol_net.specs.Nets.{NamedNet, free}
use Rattle.ol_context.specs.Paths.{Path}
use Rattle.ol_term.specs.declared.translations.Translation.{Translation}
use Rattle.ol_translate.specs.Translation.{translation_of}
use Rattle.ol_translate.specs.Names.{HasNames}
use Rattle.ol_beta.specs.Leftmost.{IsNormal}
use Rattle.ol_readback.specs.Frames.{Frame, asked}
use Rattle.ol_readback.specs.Heads.{head, no_head, IsHead}
use Rattle.ol_readback.specs.ReadTrees.{Subterm, framed}
use Rattle.ol_readback.specs.Sources.{HasHeadsOf}
use Rattle.ol_readback.specs.Whole.{Part, preorder}
use Rattle.ol_readback.specs.Terms.{HasAllHeads, abstracted, variable_of, term_of}
use Rattle.ol_readback.specs.declared.answers.HeadVar.{HeadVar}
use Rattle.ol_readback.specs.declared.answers.ReadNode.{ReadNode}
use Rattle.ol_law_meaning.specs.Spots.{applications}
use Rattle.ol_term.specs.Trees.{Tree}
use Rattle.ol_law_meaning.specs.Contraction.{Level, empty, star, Context, Place}
use Rattle.ol_law_meaning.specs.Heads.{os, outer, Normal, Steps, SameAlong, Arg}
use Rattle.ol_law_meaning.specs.Seen.{ahead, Chain, IsChain, scope, IsSeen, WholeSeats, Within, argument, seats_of}
use Rattle.ol_law_meaning.specs.Shows.{BetaReduces, LeftmostReduces, HeadReduces, HeadReducesForever}
use Rattle.ol_law_meaning.specs.Shows.{applied, IsHeadNormal, LacksHead, Fills, Shows}

-- ---- head normal forms

-- the two ways to say what a head normal form is
abbrev pub NormalIsHeadNormal : Type 0
NormalIsHeadNormal = (t : Tree) →
    IsHeadNormal t ↔ ((q : Place) × (a : Level) × (j : ℕ) × Normal t q a j)

-- Head reduction of a term has no end exactly where it comes to no head normal form.
abbrev pub EndlessOrNormal : Type 0
EndlessOrNormal = (t : Tree) →
    HeadReducesForever t ↔ ((u : Tree) → HeadReduces t u → IsHeadNormal u → ⊥)

-- ---- where subterms are seen

-- a whole term is seen in its own net, by either translation, at the root's free port
abbrev pub WholeTermIsSeen : Type 0
WholeTermIsSeen = (τ : Translation) (t : Tree) (names : ℕ) → HasNames t names →
    IsSeen τ (translation_of τ t names) [] 0 [] t WholeSeats

-- Where P is seen, head steps lead from it to a head normal form u, and the wire of u's head leaves
-- by port q behind levels ms, there argument i of u is seen: behind ms and the level of argument i,
-- with P's frame round it.
abbrev pub ArgIsSeen : Type 0
ArgIsSeen = (τ : Translation) (N : NamedNet ℕ) (ch : Chain) (f : Frame) (t P : Tree)
    (p : Within t P) → IsSeen τ N ch f.port f.levels P (seats_of τ p) →
    (u : Tree) (m : ℕ) (s : Steps P u m) → f.lams ≡ outer u → (y : Place) (a w : Level) (j : ℕ) →
    Normal u y a j → SameAlong τ s y w a →
    (q : ℕ) (ms : List Level) → ((d : Context) → seats_of τ p y w d q (ahead ms d)) →
    (n i : ℕ) (Q : Tree) (k : Arg u i Q) →
    IsSeen τ N ((n, f) ∷ ch) q (ms ++ os i (star empty) ∷ []) Q (seats_of τ (argument p s k))

-- P is seen where the frame after these is, with the frames of a chain round it.
pub record IsSeenAt (τ : Translation) {t P : Tree} (N : NamedNet ℕ) (F : List Frame) (s : Subterm)
    (ch : Chain) (p : Within t P) : Type 0 where
  pub chain : IsChain F (length F) s.parent ch
  pub seen : IsSeen τ N ch s.port s.levels P (seats_of τ p)

-- A path that its frame has, asked for some number of abstractions, crosses at least as many
-- applications as head steps lead from it to a head normal form.
abbrev pub HeadIsReachedSoon : Type 0
HeadIsReachedSoon = (τ : Translation) (N : NamedNet ℕ) (F : List Frame) (s : Subterm) (ch : Chain)
    (t P : Tree) (p : Within t P) → IsSeenAt τ N F s ch p →
    (n q : ℕ) (X : Context) (r : Path N (free s.port) (asked s.levels n) q X) →
    (u : Tree) × (m : ℕ) × (m ≤ applications r) × Steps P u m × IsHeadNormal u

-- The head of its frame, by paths of any length, is that of a head normal form which head steps
-- lead to: so many abstractions, this variable, and so many arguments.
abbrev pub HeadIsReached : Type 0
HeadIsReached = (τ : Translation) (N : NamedNet ℕ) (F : List Frame) (s : Subterm) (ch : Chain)
    (t P : Tree) (p : Within t P) → IsSeenAt τ N F s ch p →
    (n k : ℕ) (v : HeadVar) (ls : List Level) →
    IsHead N (F ++ framed s 0 ∷ []) (length F) (head n v k ls) →
    (Ps : List Tree) × (length Ps ≡ k)
    × HeadReduces P (abstracted n (applied (variable_of ((length F, n) ∷ scope ch) v) Ps))

-- and where its frame has no head, by paths of any length, its head reduction has no end
abbrev pub NoHeadIsEndless : Type 0
NoHeadIsEndless = (τ : Translation) (N : NamedNet ℕ) (F : List Frame) (s : Subterm) (ch : Chain)
    (t P : Tree) (p : Within t P) → IsSeenAt τ N F s ch p →
    IsHead N (F ++ framed s 0 ∷ []) (length F) no_head → HeadReducesForever P

-- ---- trees

-- a tree that has the heads of a term's own net shows the term
abbrev pub TreeShowsTerm : Type 0
TreeShowsTerm = (τ : Translation) (t : Tree) (names : ℕ) → HasNames t names →
    (lost_too : Bool) (T : Part true) →
    HasHeadsOf (translation_of τ t names) lost_too (preorder T) → Shows lost_too [] 0 T t

-- Where a tree shows a term, beta reduction leads from this to the tree's own term, with some term
-- in the place of each hole.
abbrev pub ShownIsReduct : Type 0
ShownIsReduct = (t : Tree) (lost_too : Bool) (T : Part true) → Shows lost_too [] 0 T t →
    (u : Tree) × BetaReduces t u × Fills lost_too [] 0 T u

-- Where each place of the tree has a head, leftmost reduction leads there, and the tree's term is a beta-normal form.
abbrev pub ShownIsNormalForm : Type 0
ShownIsNormalForm = (t : Tree) (lost_too : Bool) (T : Part true) → Shows lost_too [] 0 T t →
    HasAllHeads (preorder T) →
    LeftmostReduces t (term_of T) × IsNormal (term_of T)

-- Where some place of the tree has no head, and the tree says that such places are endless,
-- leftmost reduction of the term ends in no beta-normal form.
abbrev pub ShownHasNoEnd : Type 0
ShownHasNoEnd = (t : Tree) (T : Part true) → Shows true [] 0 T t → LacksHead (preorder T) →
    (v : Tree) → LeftmostReduces t v → IsNormal v → ⊥

-- What the places of a tree say of a term: it reduces to the tree's term, with some term in the
-- place of each hole; and where each place has a head, its leftmost reduction ends in the tree's
-- term, which is a beta-normal form. Where lost_too is true and some place has no head, its
-- leftmost reduction ends in no beta-normal form.
pub record SaysOf (t : Tree) (lost_too : Bool) (ns : List ReadNode) : Type 0 where
  pub tree : Part true
  pub is_list : preorder tree ≡ ns
  pub reduct : Tree
  pub reduces : BetaReduces t reduct
  pub fills : Fills lost_too [] 0 tree reduct
  pub leftmost : HasAllHeads ns → LeftmostReduces t (term_of tree)
  pub normal : HasAllHeads ns → IsNormal (term_of tree)
  pub endless : lost_too ≡ true → LacksHead ns → (v : Tree) → LeftmostReduces t v → IsNormal v → ⊥

-- all this of the places of a tree with the heads of a term's own net
abbrev pub PlacesSay : Type 0
PlacesSay = (τ : Translation) (t : Tree) (names : ℕ) → HasNames t names →
    (lost_too : Bool) (T : Part true) (ns : List ReadNode) → preorder T ≡ ns →
    HasHeadsOf (translation_of τ t names) lost_too ns → SaysOf t lost_too ns
