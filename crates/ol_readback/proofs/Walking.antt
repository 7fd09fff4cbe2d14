-- A reading by walks.
use Rattle.std.proofs.Common.{◌≡◌, ℕ, ◌+◌, ◌<◌, ◌≤◌, ◌⊎◌, inl, inr, List, [], ◌∷◌, ◌++◌, length}
use Rattle.std.proofs.Common.{map, sym, ap, subst, arith, append_assoc}
use Rattle.std.proofs.lemmas.List.{length_push}
use Rattle.ol_net.specs.Graph.{Graph}
use Rattle.ol_net.specs.Nets.{IsNet}
use Rattle.ol_net.specs.Numbered.{net_of}
use Rattle.ol_context.specs.Contexts.{Level}
use Rattle.ol_readback.specs.Askers.{Reading, so_far, found, IsKnownHead, IsOver}
use Rattle.ol_readback.specs.Frames.{Frame, frames_of, ParentsFirst}
use Rattle.ol_readback.specs.Heads.{Answer, head, no_head, budget, answer_of, IsHeadWithin}
use Rattle.ol_readback.specs.ReadTrees.{Subterm, framed, ReadsBack, end, past, spent, lost, IsTree}
use Rattle.ol_readback.specs.ReadTrees as tree
use Rattle.ol_readback.specs.Walks.{IsReadByWalks}
use Rattle.ol_readback.specs.declared.answers.Head.{Head}
use Rattle.ol_readback.specs.declared.answers.Head.TheVariants as code
use Rattle.ol_readback.specs.declared.answers.ReadNode.{ReadNode}
use Rattle.ol_readback.specs.declared.answers.ReadNode.TheVariants as node
use Rattle.ol_readback.specs.declared.frames.Frame as listed
use Rattle.ol_readback.proofs.FrameLists.{count_frames}
use Rattle.ol_readback.proofs.Places.{head_known, head_port}

-- one place more
module _ (g : Graph) (edges : ℕ) (g' : Graph) (edges' heads : ℕ) (F : List Frame) (t : Subterm)
    (ss : List Subterm) (places : List ReadNode) (b : length F < heads) where
  one_more : (n : ReadNode) (G : List Frame) (ts : List Subterm) →
      ((ns : List ReadNode) → ReadsBack (net_of g) heads edges G ts ns →
      ReadsBack (net_of g) heads edges F (t ∷ ss) (n ∷ ns)) →
      IsReadByWalks g edges g' edges' heads (so_far F (t ∷ ss) places) →
      IsReadByWalks g edges g' edges' heads (so_far G ts (places ++ n ∷ []))
  one_more n G ts step r = record {
    graph = r.graph;
    budget = r.budget;
    tree = λ ns y. subst (λ (ms : List ReadNode). IsTree (net_of g) heads edges ms)
        (sym (append_assoc places (n ∷ []) ns)) (r.tree (n ∷ ns) (step ns y));
  }

  pub walked_on : (a : Answer) → IsHeadWithin (net_of g) (F ++ framed t 0 ∷ []) (length F) edges a →
      IsReadByWalks g edges g' edges' heads (so_far F (t ∷ ss) places) →
      IsReadByWalks g edges g' edges' heads (found places F t ss a)
  walked_on (head n v k ls) h r = one_more (node.Head n v k) _ _ (λ ns y. tree.found b h y) r
  walked_on no_head h r = one_more node.NoHead _ _ (λ ns y. lost b h y) r
  walked_on budget h r = one_more node.Cut _ _ (λ ns y. spent b h y) r

-- what a walk says of the last frame
pub walk_answered : (g : Graph) (edges : ℕ) (vs : List Level) (fs : List listed.Frame) (at : ℕ)
    (a : Answer) → at + 1 ≡ length fs → IsHeadWithin (net_of g) (frames_of vs fs) at edges a →
    (g0 : Graph) (edges0 heads : ℕ) (places : List ReadNode) (front : List Frame) (t : Subterm)
    (ss : List Subterm) → frames_of vs fs ≡ front ++ framed t 0 ∷ [] → length front < heads →
    IsReadByWalks g0 edges0 g edges heads (so_far front (t ∷ ss) places) →
    IsReadByWalks g0 edges0 g edges heads (found places front t ss a)
walk_answered g edges vs fs at a l h g0 edges0 heads places front t ss z b u = walked_on g0 edges0 g
    edges heads front t ss places b a there u
  where
    at_is : at ≡ length front
    at_is =
        let c = count_frames vs fs in
        let p = length_push front (framed t 0) in
        let y = ap (λ (F : List Frame). length F) z in
        omega arith

    there : IsHeadWithin (net_of g0) (front ++ framed t 0 ∷ []) (length front) edges0 a
    there =
        subst (λ (e : ℕ). IsHeadWithin (net_of g0) (front ++ framed t 0 ∷ []) (length front) e a) u.budget
        (subst (λ (g : Graph). IsHeadWithin (net_of g) (front ++ framed t 0 ∷ []) (length front) edges a) u.graph
        (subst (λ (i : ℕ). IsHeadWithin (net_of g) (front ++ framed t 0 ∷ []) i edges a) at_is
        (subst (λ (F : List Frame). IsHeadWithin (net_of g) F at edges a) z h)))

-- what a walk found is known
pub walk_known : (g : Graph) → IsNet (net_of g) → (F : List Frame) → ParentsFirst F →
    (i edges : ℕ) (vs : List Level) (h : Head) → i < length F →
    IsHeadWithin (net_of g) F i edges (answer_of vs h) → IsKnownHead g.free F h
walk_known g z F p i edges vs (code.Is n v k at) b h = (head_known p h (length F) b, head_port z h)
walk_known g z F p i edges vs code.NoHead b h = tt
walk_known g z F p i edges vs code.Budget b h = tt

-- the reading is over
pub walked_tree : (g : Graph) (edges : ℕ) (g' : Graph) (edges' heads : ℕ) (r : Reading)
    (ns : List ReadNode) → IsReadByWalks g edges g' edges' heads r → IsOver heads r ns →
    IsTree (net_of g) heads edges ns
walked_tree g edges g' edges' heads r ns w o = subst
    (λ (ms : List ReadNode). IsTree (net_of g) heads edges ms) (sym o.all)
    (w.tree (map (λ (s : Subterm). node.Cut) r.waiting) (go o.over))
  where
    go : (r.waiting ≡ []) ⊎ (heads ≤ length r.frames) →
        ReadsBack (net_of g) heads edges r.frames r.waiting (map (λ (s : Subterm). node.Cut) r.waiting)
    go (inl e) = subst (λ (ss : List Subterm).
        ReadsBack (net_of g) heads edges r.frames ss (map (λ (s : Subterm). node.Cut) ss)) (sym e) end
    go (inr b) = past b
