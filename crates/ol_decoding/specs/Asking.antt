-- Private: one part asked, and a reading part by part.
use Rattle.std.specs.Prelude.{◌≡◌, ℕ, ◌+◌, ◌*◌, ◌<◌, ◌≤◌, List, [], ◌∷◌, ◌++◌, length}
use Rattle.ol_net.specs.Graph.{Graph}
use Rattle.ol_net.specs.Numbered.{net_of}
use Rattle.ol_context.specs.Contexts.{Level}
use Rattle.ol_context.specs.Short.{live}
use Rattle.ol_readback.specs.Askers.{Reading, IsKnownHead}
use Rattle.ol_readback.specs.Frames.{Frame, asked}
use Rattle.ol_readback.specs.Heads.{answer_of, IsHeldHead}
use Rattle.ol_readback.specs.ReadTrees.{Subterm, whole_term, framed}
use Rattle.ol_readback.specs.declared.answers.Head.{Head}
use Rattle.ol_readback.specs.declared.answers.ReadNode.{ReadNode}
use Rattle.ol_demand.specs.Chains.{Ends, undefined}
use Rattle.ol_decoding.specs.declared.asking.Reply.{Reply}
use Rattle.ol_decoding.specs.declared.asking.Reply.TheVariants as reply
use Rattle.ol_decoding.specs.Parts.{MeetsPair, Finds, HaveParts}

-- there is room for all that so many steps make
abbrev pub HasRoom : Graph → ℕ → Type 0
HasRoom g all = length g.nodes + 4 * all ≤ 2000000000

-- what holds of each way to take the last of the frames as that of a part
abbrev pub OfLast : List Frame → (List Frame → Subterm → Type 0) → Type 0
OfLast F P = (front : List Frame) (s : Subterm) → F ≡ front ++ framed s 0 ∷ [] → P front s

-- What came of asking the part with the last of the frames F once in graph g for so many abstractions, where so many steps
-- are left. Graph h is what the step leaves, if there was one.
abbrev pub IsReply : (g h : Graph) → List Frame → (lams left : ℕ) → List Level → Reply → Type 0
IsReply g h F lams left vs reply.Rewritten = (0 < left) × (length h.nodes ≤ length g.nodes + 4) × (h.free ≡ g.free)
    × OfLast F (λ front s. MeetsPair g s lams h)
IsReply g h F lams left vs reply.OneMore = (h ≡ g) × (lams < live (net_of g))
    × OfLast F (λ front s. Ends (net_of g) s.port (asked s.levels lams) undefined)
IsReply g h F lams left vs (reply.Found head) = (h ≡ g) × IsHeldHead vs head × IsKnownHead g.free F head
    × OfLast F (λ front s. Finds front s left lams g 0 (answer_of vs head) g)

-- all values are kept, unless the part was found
abbrev pub KeepsUnlessFound : List Level → List Level → Reply → Type 0
KeepsUnlessFound old new (reply.Found head) = Unit {0}
KeepsUnlessFound old new _ = new ≡ old

-- The part with the last of the frames F was found to be what h says, after so many steps, from graph g to g'.
pub record IsPartFound (g g' : Graph) (F : List Frame) (fuel : ℕ) (vs : List Level) (h : Head) (made : ℕ) : Type 0 where
  pub finds : (front : List Frame) (s : Subterm) → F ≡ front ++ framed s 0 ∷ [] →
      Finds front s fuel 0 g made (answer_of vs h) g'
  pub within : made ≤ fuel
  pub few : length g'.nodes ≤ length g.nodes + 4 * made
  pub free : g'.free ≡ g.free
  pub held : IsHeldHead vs h
  pub known : IsKnownHead g.free F h

-- Depth and fuel are those that it began with, and the rest of the tree is what the parts that are left give.
pub record IsReadByParts (depth fuel : ℕ) (g : Graph) (all depth' fuel' : ℕ) (g' : Graph) (all' heads : ℕ)
    (r : Reading) : Type 0 where
  pub same_depth : depth' ≡ depth
  pub same_fuel : fuel' ≡ fuel
  pub tree : (ns : List ReadNode) → HaveParts depth heads fuel g' all' r.frames r.waiting ns →
      HaveParts depth heads fuel g all [] (whole_term ∷ []) (r.places ++ ns)
