-- The free names of a tree are those of free ports.
use Rattle.std.proofs.Common.{ℕ, ◌-◌, ◌<◌, List, [], ◌∷◌, map, Bool, arith}
use Rattle.ol_net.specs.Nets.{NamedNet, IsNet}
use Rattle.ol_context.specs.Contexts.{Level, Context}
use Rattle.ol_readback.specs.Frames.{Frame}
use Rattle.ol_readback.specs.Matching.{Matches, here, above, name}
use Rattle.ol_readback.specs.Heads.{head, matched, IsHeadWithin, leaves, IsHead}
use Rattle.ol_readback.specs.Heads as heads
use Rattle.ol_readback.specs.Sources.{HaveHeadsOf, HasHeadsOf}
use Rattle.ol_readback.specs.Sources as sources
use Rattle.ol_readback.specs.ReadTrees.{Subterm, ReadsBack, end, past, spent, lost, found, IsTree}
use Rattle.ol_readback.specs.Texts.{IsNamedVar, AreNamed}
use Rattle.ol_readback.specs.declared.answers.HeadVar.{HeadVar}
use Rattle.ol_readback.specs.declared.answers.ReadNode.{ReadNode}
use Rattle.ol_readback.specs.declared.answers.ReadNode.TheVariants as node
use Rattle.ol_readback.proofs.Places.{path_port}

named_match : {F : List Frame} {q : ℕ} {X : Context} {i l k : ℕ} {v : HeadVar} {ls : List Level} →
    Matches F q X i l v k ls → (ports : ℕ) → q < ports → IsNamedVar (ports - 1) v
named_match (here e f) ports b = tt
named_match (above n e m) ports b = named_match m ports b
named_match (name n e c o) ports b = (c, omega arith)

named_head : {N : NamedNet ℕ} {F : List Frame} {i e n k : ℕ} {v : HeadVar} {ls : List Level} →
    IsNet N → IsHeadWithin N F i e (head n v k ls) → IsNamedVar (N.free_ports - 1) v
named_head {N = N} z (leaves b h w (matched m)) = named_match m N.free_ports (path_port z w.1.path)

named_cuts : (count : ℕ) (ss : List Subterm) → AreNamed count (map (λ s. node.Cut) ss)
named_cuts count [] = tt
named_cuts count (s ∷ ss) = (tt, named_cuts count ss)

named_all : {N : NamedNet ℕ} {heads e : ℕ} {F : List Frame} {ss : List Subterm}
    {ns : List ReadNode} → IsNet N → ReadsBack N heads e F ss ns → AreNamed (N.free_ports - 1) ns
named_all z end = tt
named_all {N = N} z (past {ss = ss} b) = named_cuts (N.free_ports - 1) ss
named_all z (spent b x r) = (tt, named_all z r)
named_all z (lost b x r) = (tt, named_all z r)
named_all z (found b x r) = (named_head z x, named_all z r)

pub tree_is_named : (N : NamedNet ℕ) (heads e : ℕ) (ns : List ReadNode) → IsNet N →
    IsTree N heads e ns → AreNamed (N.free_ports - 1) ns
tree_is_named N heads e ns z r = named_all z r

-- so are those of a list whose heads are those of some net
named_found : {N : NamedNet ℕ} {F : List Frame} {i n k : ℕ} {v : HeadVar} {ls : List Level} →
    IsNet N → IsHead N F i (head n v k ls) → IsNamedVar (N.free_ports - 1) v
named_found {N = N} z (heads.leaves h w (matched m)) = named_match m N.free_ports (path_port z w)

named_heads : {N : NamedNet ℕ} {lost_too : Bool} {F : List Frame} {ss : List Subterm}
    {ns : List ReadNode} → IsNet N → HaveHeadsOf N lost_too F ss ns → AreNamed (N.free_ports - 1) ns
named_heads z sources.end = tt
named_heads z (sources.cut r) = (tt, named_heads z r)
named_heads z (sources.lost x r) = (tt, named_heads z r)
named_heads z (sources.found x r) = (named_found z x, named_heads z r)

pub heads_are_named : (N : NamedNet ℕ) (lost_too : Bool) (ns : List ReadNode) → IsNet N →
    HasHeadsOf N lost_too ns → AreNamed (N.free_ports - 1) ns
heads_are_named N lost_too ns z r = named_heads z r
