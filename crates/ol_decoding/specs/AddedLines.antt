-- Private: texts that are added, readings that are watched, and places that are skipped.
use Rattle.std.specs.Prelude.{◌≡◌, ℕ, zero, suc, ◌+◌, ◌<◌, ◌≤◌, List, [], ◌∷◌, ◌++◌, length, codes, Option}
use Rattle.ol_net.specs.declared.parts.Kind.{Kind}
use Rattle.ol_net.specs.Graph.{Graph}
use Rattle.ol_net.specs.Nets.{NamedNet, NamedPort, free, slot, HasNode}
use Rattle.ol_net.specs.Numbered.{net_of}
use Rattle.ol_context.specs.Contexts.{Level, Context}
use Rattle.ol_readback.specs.Askers.{Reading}
use Rattle.ol_readback.specs.ReadTrees.{Subterm, IsTree}
use Rattle.ol_readback.specs.declared.answers.HeadVar.{HeadVar}
use Rattle.ol_readback.specs.declared.answers.ReadNode.{ReadNode}
use Rattle.ol_equal.specs.Walking.{args_of}
use Rattle.ol_decoding.specs.declared.frame_walks.Wanted.{Wanted}
use Rattle.ol_decoding.specs.declared.trailing.Ending.{Ending}
use Rattle.ol_decoding.specs.Lines.{IsWritten, entered_text, barred_line}
use Rattle.ol_decoding.specs.Trails.{IsTrail, IsFrameQuestion, AreLinesOf}
use Rattle.ol_decoding.specs.Reached.{ReachesPlace, IsAskedAt}
use Rattle.ol_decoding.specs.WalkAnswers.{IsVarText, IsHeadLine, TellsPlace}
use Rattle.ol_subjects.specs.declared.answers.End.{End}

-- the text of the context is added
abbrev pub AddsContext : Context → List ℕ → List ℕ → Type 0
AddsContext c old new = (text : List ℕ) × IsWritten c text × (new ≡ old ++ text)

-- the line of a crossing from this port, with the text of the port by which the node is left
abbrev pub AddsCrossing : NamedNet ℕ → NamedPort ℕ → List ℕ → Context → List ℕ → List ℕ → Type 0
AddsCrossing N (free k) out d old new = ⊥
AddsCrossing N (slot x s) out d old new = (k : Kind) × (i : ℕ) × (context : List ℕ) × HasNode N x k i
    × IsWritten d context × (new ≡ old ++ (entered_text x s k i ++ (out ++ (codes " " ++ (context ++ codes "\n")))))

-- the line of a crossing from this port that is not defined
abbrev pub AddsBarred : NamedNet ℕ → NamedPort ℕ → List ℕ → List ℕ → Type 0
AddsBarred N (free k) old new = ⊥
AddsBarred N (slot x s) old new =
    (k : Kind) × (i : ℕ) × HasNode N x k i × (new ≡ old ++ barred_line x s k i)

-- the lines of a walk are added
abbrev pub AddsTrail : NamedNet ℕ → NamedPort ℕ → Context → ℕ → List ℕ → List ℕ → Ending → ℕ → Type 0
AddsTrail N p c left old new e last = (text : List ℕ) × IsTrail N p c left text e last × (new ≡ old ++ text)

-- the lines of a question are added
abbrev pub AddsQuestion : NamedNet ℕ → ℕ → List Level → ℕ → ℕ → List ℕ → List ℕ → Ending → ℕ → Type 0
AddsQuestion N port ls n left old new e last =
    (text : List ℕ) × IsFrameQuestion N port ls n left text e last × (new ≡ old ++ text)

-- A reading of the first net has come so far, with the same bounds, and place k isn't asked yet.
pub record IsWatched (g g' : Graph) (heads edges edges' k k' : ℕ) (r : Reading) : Type 0 where
  pub graph : g' ≡ g
  pub edges_stay : edges' ≡ edges
  pub place_stays : k' ≡ k
  pub reached : ReachesPlace (net_of g) heads edges r
  pub before : length r.frames ≤ k

-- place k was asked, and these are its lines
abbrev pub IsSeen : Graph → ℕ → ℕ → ℕ → Option ℕ → ℕ → List ℕ → Type 0
IsSeen g heads edges k question lines text = (s : Subterm) × IsAskedAt (net_of g) heads edges k s
    × AreLinesOf (net_of g) s.port s.levels question lines text

-- how many places so many whole trees take
abbrev pub skipped : List ReadNode → ℕ → ℕ
skipped ns zero = 0
skipped [] (suc c) = 0
skipped (n ∷ ns) (suc c) = suc (skipped ns (args_of n + c))

-- the variable of a head, and the line of a place, are added
abbrev pub AddsVar : List (List ℕ) → List ReadNode → HeadVar → List ℕ → List ℕ → Type 0
AddsVar names ns v old new = (text : List ℕ) × IsVarText names ns v text × (new ≡ old ++ text)

abbrev pub AddsHead : List (List ℕ) → List ReadNode → ReadNode → List ℕ → List ℕ → Type 0
AddsHead names ns n old new = (text : List ℕ) × IsHeadLine names ns n text × (new ≡ old ++ text)

-- the answer for a net whose free ports have these names
abbrev pub TellsNet : Graph → List (List ℕ) → Wanted → List ℕ → End → Type 0
TellsNet g names w text e = (ns : List ReadNode) × IsTree (net_of g) w.heads.most w.edges ns
    × TellsPlace (net_of g) names ns w text e
