-- The answer of `walk --frame`: the questions that one place of a term's tree is asked, and its head.
use Rattle.std.specs.Prelude.{◌≡◌, ℕ, ◌-◌, ◌≤◌, List, [], ◌++◌, codes, slice_index_or}
use Rattle.std.specs.Fmt.{decimal}
use Rattle.ol_net.specs.Graph.{Graph}
use Rattle.ol_net.specs.Nets.{NamedNet}
use Rattle.ol_net.specs.Numbered.{net_of}
use Rattle.ol_term.specs.Trees.{Tree}
use Rattle.ol_readback.specs.ReadTrees.{Subterm, IsTree}
use Rattle.ol_readback.specs.declared.answers.HeadVar.{HeadVar}
use Rattle.ol_readback.specs.declared.answers.HeadVar.TheVariants as var
use Rattle.ol_readback.specs.declared.answers.ReadNode.{ReadNode}
use Rattle.ol_readback.specs.declared.answers.ReadNode.TheVariants as node
use Rattle.ol_equal.specs.Comparing.{place_at}
use Rattle.ol_equal.specs.Paths.{IsPathTo}
use Rattle.ol_equal.specs.Texts.{path_text}
use Rattle.ol_subjects.specs.declared.answers.End.{End}
use Rattle.ol_subjects.specs.declared.answers.End.TheVariants.{Yes, Nothing, Refused}
use Rattle.ol_subjects.specs.Subjects.{IsTerm, IsNetOfTerm, RefusesTerm}
use Rattle.ol_decoding.specs.declared.frame_walks.Wanted.{Wanted}
use Rattle.ol_decoding.specs.Reached.{IsAskedAt}
use Rattle.ol_decoding.specs.Trails.{AreLinesOf}

-- a binder by its place and its number, or the name of a free port
abbrev pub IsVarText : List (List ℕ) → List ReadNode → HeadVar → List ℕ → Type 0
IsVarText names ns (var.Bound i j) text = (path : List ℕ) × IsPathTo ns i path
    × (text ≡ codes "binder " ++ (decimal j ++ (codes " of " ++ path_text path)))
IsVarText names ns (var.Free q) text = text ≡ codes "free " ++ slice_index_or names (q - 1) []

-- What stands at a place of a tree: abstractions, variable and number of arguments. `?` is no head,
-- and `...` is cut.
abbrev pub IsHeadLine : List (List ℕ) → List ReadNode → ReadNode → List ℕ → Type 0
IsHeadLine names ns (node.Head l v k) text = (variable : List ℕ) × IsVarText names ns v variable
    × (text ≡ codes "abstractions " ++ (decimal l ++ (codes ", " ++ (variable
    ++ (codes ", arguments " ++ (decimal k ++ codes "\n"))))))
IsHeadLine names ns node.NoHead text = text ≡ codes "?\n"
IsHeadLine names ns node.Cut text = text ≡ codes "...\n"

-- the lines of place k, which has none where it isn't asked
pub data IsWalked (N : NamedNet ℕ) (w : Wanted) (k : ℕ) (text : List ℕ) : Type 0 where
  here : {s : Subterm} → IsAskedAt N w.heads.most w.edges k s →
      AreLinesOf N s.port s.levels w.question w.lines text → IsWalked N w k text
  unasked : w.heads.most ≤ k → text ≡ [] → IsWalked N w k text

-- What is told of the place that is wanted in the tree with these places.
pub data TellsPlace (N : NamedNet ℕ) (names : List (List ℕ)) (ns : List ReadNode) (w : Wanted)
    (text : List ℕ) : End → Type 0 where
  no_place : ((k : ℕ) → IsPathTo ns k w.path.items → ⊥) → text ≡ codes "no such place\n" →
      TellsPlace N names ns w text Nothing
  place : {k : ℕ} (walked head : List ℕ) → IsPathTo ns k w.path.items → IsWalked N w k walked →
      IsHeadLine names ns (place_at ns k) head → text ≡ walked ++ head →
      TellsPlace N names ns w text Yes

-- The answer to a file.
pub data IsFrameWalk (bytes : List ℕ) (w : Wanted) (text : List ℕ) : End → Type 0 where
  refused : RefusesTerm w.translation bytes text → IsFrameWalk bytes w text Refused
  answered : {t : Tree} {names : List (List ℕ)} {net : Graph} {ns : List ReadNode} {e : End} →
      IsTerm w.translation bytes t names → IsNetOfTerm w.translation t names net →
      IsTree (net_of net) w.heads.most w.edges ns → TellsPlace (net_of net) names ns w text e →
      IsFrameWalk bytes w text e
