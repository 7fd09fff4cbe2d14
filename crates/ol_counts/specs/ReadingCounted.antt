-- Private: a reading by walks whose crossings are counted.
use Rattle.std.specs.Prelude.{◌≡◌, ℕ, ◌+◌, List, ◌∷◌, []}
use Rattle.ol_net.specs.Graph.{Graph}
use Rattle.ol_net.specs.Numbered.{net_of}
use Rattle.ol_context.specs.Contexts.{Level}
use Rattle.ol_readback.specs.Askers.{Reading}
use Rattle.ol_readback.specs.Frames.{frames_of}
use Rattle.ol_readback.specs.Heads.{IsHeadWithin, answer_of}
use Rattle.ol_readback.specs.ReadTrees.{whole_term}
use Rattle.ol_readback.specs.declared.answers.Head.{Head}
use Rattle.ol_readback.specs.declared.answers.Head.TheVariants as code
use Rattle.ol_readback.specs.declared.frames.Frame.{Frame}
use Rattle.ol_counts.specs.Crossings.{HasCrossings, AreReadBy}

-- the crossings of a walk that left the net, if its exit is a head
abbrev pub crossings_if : Head → ℕ → ℕ
crossings_if (code.Is lams v args at) c = c
crossings_if code.NoHead c = 0
crossings_if code.Budget c = 0

-- the head of frame i and its crossings, where old are the values of the frames and new those after the call
pub record IsWalked (g : Graph) (old : List Level) (fs : List Frame) (i edges : ℕ) (new : List Level) (h : Head)
    (c : ℕ) : Type 0 where
  pub head : IsHeadWithin (net_of g) (frames_of old fs) i edges (answer_of new h)
  pub crossings : HasCrossings (net_of g) (frames_of old fs) i edges (answer_of new h) c

-- The graph and the budget are those with which it began, and with the crossings of the subterms that
-- are left those since then are the crossings of the whole.
pub record IsReadByCounting (g : Graph) (edges before : ℕ) (g' : Graph) (edges' made heads : ℕ) (r : Reading) :
    Type 0 where
  pub graph : g' ≡ g
  pub budget : edges' ≡ edges
  pub all : (m k : ℕ) → AreReadBy (net_of g) heads edges r.frames r.waiting m → k + before ≡ made + m →
      AreReadBy (net_of g) heads edges [] (whole_term ∷ []) k
