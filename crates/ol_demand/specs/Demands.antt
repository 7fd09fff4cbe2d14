-- Demand order: subterms are asked in preorder, and only the pairs that their chains meet are rewritten.
use Rattle.std.specs.Prelude.{◌≡◌, ℕ, suc, ◌<◌, ◌≤◌, ◌⊎◌, List, [], ◌∷◌, ◌++◌, length, map}
use Rattle.ol_net.specs.declared.parts.Rule.{Rule}
use Rattle.ol_net.specs.Nets.{NamedNet}
use Rattle.ol_context.specs.Contexts.{Context}
use Rattle.ol_context.specs.Short.{live, IsOnce}
use Rattle.ol_rules.specs.declared.journal.NodeName.{NodeName}
use Rattle.ol_rules.specs.declared.journal.Entry.{Entry}
use Rattle.ol_rules.specs.Runs.{IsEntryStep}
use Rattle.ol_readback.specs.Frames.{Frame, asked}
use Rattle.ol_readback.specs.Heads.{Answer, head, no_head, IsMatched}
use Rattle.ol_readback.specs.Heads as answer
use Rattle.ol_readback.specs.ReadTrees.{Subterm, whole_term, framed, port_of, arguments}
use Rattle.ol_readback.specs.declared.answers.ReadNode.{ReadNode}
use Rattle.ol_readback.specs.declared.answers.ReadNode.TheVariants as node
use Rattle.ol_demand.specs.Chains.{End, met, left, undefined, budget, Ends}

-- What is to be read: the frames of the places before, the subterms that are left, in preorder, and
-- the number of abstractions for which the first of them is asked next.
pub record Asking : Type 0 where
  pub frames : List Frame
  pub waiting : List Subterm
  pub lams : ℕ

abbrev pub asks : List Frame → List Subterm → ℕ → Asking
asks frames ss n = record { frames = frames; waiting = ss; lams = n }

-- The chain that asks subterm s for n abstractions ends so. The places before it are fewer than so many.
pub record ChainEnds (heads : ℕ) (M : NamedNet NodeName) (frames : List Frame) (s : Subterm) (n : ℕ)
    (end : End NodeName) : Type 0 where
  pub below : length frames < heads
  pub ends : Ends M s.port (asked s.levels n) end

-- The chain met the pair of entry e, which has this ticket, and its step leaves net P, which lists
-- each of its nodes once.
pub record Meets (heads : ℕ) (M : NamedNet NodeName) (ticket : ℕ) (frames : List Frame)
    (s : Subterm) (n : ℕ) (e : Entry) (P : NamedNet NodeName) : Type 0 where
  pub step : IsEntryStep M ticket e P
  pub ends : ChainEnds heads M frames s n (met step.f step.g e.rule)
  pub once : IsOnce P.nodes

-- What a subterm that was asked for n abstractions is found to be, by the end of its chain: what
-- the exit says; no head where a
-- crossing wasn't defined and n isn't below the number of nodes; the budget where there would be one crossing too many.
pub data IsFound (M : NamedNet NodeName) (frames : List Frame) (s : Subterm)
    (n : ℕ) : End NodeName → Answer → Type 0 where
  exits : {q : ℕ} {X : Context} {a : Answer} →
      IsMatched (frames ++ framed s 0 ∷ []) (length frames) n q X a → IsFound M frames s n (left q X) a
  lost : live M ≤ n → IsFound M frames s n undefined no_head
  spent : IsFound M frames s n budget answer.budget

-- its place
abbrev pub place_of : Answer → ReadNode
place_of (head n v k ls) = node.Head n v k
place_of no_head = node.NoHead
place_of answer.budget = node.Cut

-- what is to be read after it
abbrev pub next : List Frame → Subterm → List Subterm → Answer → Asking
next F s ss (head n v k ls) = asks (F ++ framed s n ∷ [])
    (arguments (length F) (port_of (F ++ framed s n ∷ []) v) ls 0 k ++ ss) 0
next F s ss no_head = asks (F ++ framed s 0 ∷ []) ss 0
next F s ss answer.budget = asks (F ++ framed s 0 ∷ []) ss 0

-- One turn, in net M: entries written down, places found, the net after it, and what is to be read
-- then. A pair that was met is rewritten, and the same is asked again. Where a crossing wasn't
-- defined, one abstraction more is asked for, as long as there are fewer than nodes. Else a place
-- was found.
pub data Turn (heads : ℕ) (M : NamedNet NodeName) (ticket : ℕ) : Asking → List Entry →
    List ReadNode → NamedNet NodeName → Asking → Type 0 where
  rewrites : {F : List Frame} {s : Subterm} {ss : List Subterm} {n : ℕ} {e : Entry} {P : NamedNet NodeName} →
      Meets heads M ticket F s n e P → Turn heads M ticket (asks F (s ∷ ss) n) (e ∷ []) [] P (asks F (s ∷ ss) n)
  one_more : {F : List Frame} {s : Subterm} {ss : List Subterm} {n : ℕ} →
      ChainEnds heads M F s n undefined → n < live M →
      Turn heads M ticket (asks F (s ∷ ss) n) [] [] M (asks F (s ∷ ss) (suc n))
  finds : {F : List Frame} {s : Subterm} {ss : List Subterm} {n : ℕ} {end : End NodeName}
      {a : Answer} → ChainEnds heads M F s n end →
      IsFound M F s n end a → Turn heads M ticket (asks F (s ∷ ss) n) [] (place_of a ∷ []) M (next F s ss a)

-- So many turns from net N, read from the root's frame: the journal and the places so far, the net,
-- and what is to be read next.
pub data Turns (N : NamedNet NodeName) (heads : ℕ) : ℕ → List Entry → List ReadNode →
    NamedNet NodeName → Asking → Type 0 where
  begins : Turns N heads 0 [] [] N (asks [] (whole_term ∷ []) 0)
  and_then : {turns : ℕ} {journal es : List Entry} {places ns : List ReadNode}
      {M P : NamedNet NodeName} {a b : Asking} →
      Turns N heads turns journal places M a → Turn heads M (length journal) a es ns P b →
      Turns N heads (suc turns) (journal ++ es) (places ++ ns) P b

-- The whole demand run from N: the first heads places were asked, and every later one is Cut.
pub record IsDemandRun (N : NamedNet NodeName) (heads : ℕ) (journal : List Entry)
    (places : List ReadNode) (M : NamedNet NodeName) : Type 0 where
  pub turns : ℕ
  pub asked_places : List ReadNode
  pub last : Asking
  pub run : Turns N heads turns journal asked_places M last
  pub over : (last.waiting ≡ []) ⊎ (heads ≤ length last.frames)
  pub all : places ≡ asked_places ++ map (λ s. node.Cut) last.waiting

-- The demand run from N rewrites the pairs of this journal first, which leaves M, and then meets one more.
pub record GoesOn (N : NamedNet NodeName) (heads : ℕ) (journal : List Entry) (M : NamedNet NodeName) : Type 0 where
  pub turns : ℕ
  pub places : List ReadNode
  pub frames : List Frame
  pub subterm : Subterm
  pub later : List Subterm
  pub lams : ℕ
  pub run : Turns N heads turns journal places M (asks frames (subterm ∷ later) lams)
  pub first : NodeName
  pub second : NodeName
  pub rule : Rule
  pub meets : ChainEnds heads M frames subterm lams (met first second rule)

-- it has more than so many steps
abbrev pub HasMoreSteps : NamedNet NodeName → ℕ → ℕ → Type 0
HasMoreSteps N heads fuel = (journal : List Entry) × (M : NamedNet NodeName)
    × GoesOn N heads journal M × (length journal ≡ fuel)
