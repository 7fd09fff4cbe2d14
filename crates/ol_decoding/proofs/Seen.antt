-- A reading that ends where a place is asked.
use Rattle.std.proofs.Common.{◌≡◌, ◌≢◌, ℕ, ◌+◌, ◌<◌, ◌≤◌, ◌⊎◌, inl, inr, List, [], ◌∷◌, ◌++◌, length, map, Option, refl, sym, ap, ◌∙◌, subst, arith, append_assoc}
use Rattle.std.proofs.lemmas.List.{length_push, append-nil}
use Rattle.ol_net.specs.Graph.{Graph}
use Rattle.ol_net.specs.Nets.{NamedNet, IsNet}
use Rattle.ol_net.specs.Numbered.{net_of}
use Rattle.ol_context.specs.Contexts.{Level}
use Rattle.ol_context.specs.Shapes.{value}
use Rattle.ol_readback.specs.Askers.{Reading, so_far, the_start, found, IsReadTo, IsOver, Whatever}
use Rattle.ol_readback.specs.Frames.{Frame, frame_at, frames_of, frame_of}
use Rattle.ol_readback.specs.Frames as frames
use Rattle.ol_readback.specs.Heads.{Answer, head, no_head, budget, IsHeadWithin}
use Rattle.ol_readback.specs.ReadTrees.{Subterm, whole_term, framed, ReadsBack, IsTree}
use Rattle.ol_readback.specs.ReadTrees as tree
use Rattle.ol_readback.specs.declared.answers.ReadNode.{ReadNode}
use Rattle.ol_readback.specs.declared.answers.ReadNode.TheVariants as node
use Rattle.ol_readback.specs.declared.frames.Frame as listed
use Rattle.ol_readback.proofs.FrameLists.{count_frames}
use Rattle.ol_readback.proofs.Forests.{frame_last}
use Rattle.ol_readback.proofs.One.{tree_is_one}
use Rattle.ol_decoding.specs.Reached.{ReachesPlace, start, on, IsAskedAt}
use Rattle.ol_decoding.specs.Trails.{AreLinesOf}
use Rattle.ol_decoding.specs.AddedLines.{IsWatched, IsSeen}

step : (N : NamedNet ℕ) (heads edges : ℕ) (F : List Frame) (s : Subterm) (ss : List Subterm) (ms ns : List ReadNode) →
    ((ns : List ReadNode) → ReadsBack N heads edges F (s ∷ ss) ns → IsTree N heads edges (ms ++ ns)) → (n : ReadNode) →
    ReadsBack N heads edges F (s ∷ ss) (n ∷ ns) → IsTree N heads edges ((ms ++ n ∷ []) ++ ns)
step N heads edges F s ss ms ns f n z = subst (λ (ks : List ReadNode). IsTree N heads edges ks)
    (sym (append_assoc ms (n ∷ []) ns)) (f (n ∷ ns) z)

-- each reading that came so far goes on to a tree
onward : (N : NamedNet ℕ) (heads edges : ℕ) (r : Reading) → ReachesPlace N heads edges r → (ns : List ReadNode) →
    ReadsBack N heads edges r.frames r.waiting ns → IsTree N heads edges (r.places ++ ns)
onward N heads edges r start ns y = y
onward N heads edges r (on {F} {s} {ss} {ns = ms} {a} x b h) ns y =
    go (λ ns y. onward N heads edges (so_far F (s ∷ ss) ms) x ns y) a h y
  where
    go : ((ns : List ReadNode) → ReadsBack N heads edges F (s ∷ ss) ns → IsTree N heads edges (ms ++ ns)) → (a : Answer) →
        IsHeadWithin N (F ++ framed s 0 ∷ []) (length F) edges a →
        ReadsBack N heads edges (found ms F s ss a).frames (found ms F s ss a).waiting ns →
        IsTree N heads edges ((found ms F s ss a).places ++ ns)
    go f (head n v k ls) h y = step N heads edges F s ss ms ns f (node.Head n v k) (tree.found b h y)
    go f no_head h y = step N heads edges F s ss ms ns f node.NoHead (tree.lost b h y)
    go f budget h y = step N heads edges F s ss ms ns f node.Cut (tree.spent b h y)

-- as many places as frames
as_many : (N : NamedNet ℕ) (heads edges : ℕ) (r : Reading) → ReachesPlace N heads edges r → length r.places ≡ length r.frames
as_many N heads edges r start = refl
as_many N heads edges r (on {F} {s} {ss} {ns = ms} {a} x b h) = go a (as_many N heads edges (so_far F (s ∷ ss) ms) x)
  where
    go : (a : Answer) → length ms ≡ length F →
        length (found ms F s ss a).places ≡ length (found ms F s ss a).frames
    go (head n v k ls) e = let l = length_push ms (node.Head n v k) in let m = length_push F (framed s n) in omega arith
    go no_head e = let l = length_push ms node.NoHead in let m = length_push F (framed s 0) in omega arith
    go budget e = let l = length_push ms node.Cut in let m = length_push F (framed s 0) in omega arith

-- a place that is left isn't past all that is asked
pub never_over : (g : Graph) → IsNet (net_of g) → (g' : Graph) (heads edges edges' k k' : ℕ) (r : Reading) (ns ms : List ReadNode) →
    IsWatched g g' heads edges edges' k k' r → IsOver heads r ms → IsTree (net_of g) heads edges ns →
    k < length ns → k < heads → ⊥
never_over g net g' heads edges edges' k k' r ns ms w o t b c = go o.over
  where
    go : (r.waiting ≡ []) ⊎ (heads ≤ length r.frames) → ⊥
    go (inr d) = let e = w.before in omega arith
    go (inl e) =
        let y = onward (net_of g) heads edges r w.reached []
        (subst (λ (ss : List Subterm). ReadsBack (net_of g) heads edges r.frames ss []) (sym e) tree.end) in
        let z = tree_is_one (net_of g) net heads edges ns (r.places ++ []) t y in
        let l = ap (λ (xs : List ReadNode). length xs) z in
        let m = ap (λ (xs : List ReadNode). length xs) (append-nil r.places) in
        let n = as_many (net_of g) heads edges r w.reached in
        let u = w.before in
        omega arith

-- one place more, which isn't the one that is watched for
pub watched_on : (g : Graph) (edges k : ℕ) (vs : List Level) (fs : List listed.Frame) (at : ℕ) (a : Answer) →
    at + 1 ≡ length fs → at ≢ k → IsHeadWithin (net_of g) (frames_of vs fs) at edges a →
    (g0 : Graph) (edges0 k0 heads : ℕ) (places : List ReadNode) (front : List Frame) (t : Subterm) (ss : List Subterm) →
    frames_of vs fs ≡ front ++ framed t 0 ∷ [] → length front < heads →
    IsWatched g0 g heads edges0 edges k0 k (so_far front (t ∷ ss) places) →
    IsWatched g0 g heads edges0 edges k0 k (found places front t ss a)
watched_on g edges k vs fs at a l apart h g0 edges0 k0 heads places front t ss z b u = record {
  graph = u.graph;
  edges_stay = u.edges_stay;
  place_stays = u.place_stays;
  reached = on u.reached b there;
  before = later a;
}
  where
    at_is : at ≡ length front
    at_is =
        let c = count_frames vs fs in
        let p = length_push front (framed t 0) in
        let y = ap (λ (F : List Frame). length F) z in
        omega arith

    there : IsHeadWithin (net_of g0) (front ++ framed t 0 ∷ []) (length front) edges0 a
    there =
        subst (λ (e : ℕ). IsHeadWithin (net_of g0) (front ++ framed t 0 ∷ []) (length front) e a) u.edges_stay
        (subst (λ (g : Graph). IsHeadWithin (net_of g) (front ++ framed t 0 ∷ []) (length front) edges a) u.graph
        (subst (λ (i : ℕ). IsHeadWithin (net_of g) (front ++ framed t 0 ∷ []) i edges a) at_is
        (subst (λ (F : List Frame). IsHeadWithin (net_of g) F at edges a) z h)))

    past : length front + 1 ≤ k0
    past = let p = u.before in let q = u.place_stays in let a = at_is in omega (arith, apart)

    later : (a : Answer) → length (found places front t ss a).frames ≤ k0
    later (head n v m ls) = let p = length_push front (framed t n) in let q = past in omega arith
    later no_head = let p = length_push front (framed t 0) in let q = past in omega arith
    later budget = let p = length_push front (framed t 0) in let q = past in omega arith

-- the place that is watched for, with its lines
pub seen_now : (g : Graph) (edges k : ℕ) (vs : List Level) (fs : List listed.Frame) (at : ℕ) (f : listed.Frame)
    (question : Option ℕ) (lines : ℕ) (text : List ℕ) → at + 1 ≡ length fs → at ≡ k →
    frame_at (frames_of vs fs) at ≡ frame_of vs f →
    AreLinesOf (net_of g) f.port (map (value vs) f.levels) question lines text →
    (g0 : Graph) (edges0 k0 heads : ℕ) (places : List ReadNode) (front : List Frame) (t : Subterm) (ss : List Subterm) →
    frames_of vs fs ≡ front ++ framed t 0 ∷ [] → length front < heads →
    IsWatched g0 g heads edges0 edges k0 k (so_far front (t ∷ ss) places) →
    IsSeen g0 heads edges0 k0 question lines text
seen_now g edges k vs fs at f question lines text l here e a g0 edges0 k0 heads places front t ss z b u = (
  t,
  record {
    frames = front;
    later = ss;
    places = places;
    reached = u.reached;
    is_there = let p = at_is in let q = u.place_stays in omega arith;
    within = let p = at_is in let q = u.place_stays in omega arith;
  },
  subst (λ (p : ℕ). AreLinesOf (net_of g0) p t.levels question lines text) (ap (λ (f : Frame). f.port) same)
      (subst (λ (ls : List Level). AreLinesOf (net_of g0) f.port ls question lines text) (ap (λ (f : Frame). f.levels) same)
      (subst (λ (g : Graph). AreLinesOf (net_of g) f.port (map (value vs) f.levels) question lines text) u.graph a)),
)
  where
    at_is : at ≡ length front
    at_is =
        let c = count_frames vs fs in
        let p = length_push front (framed t 0) in
        let y = ap (λ (F : List Frame). length F) z in
        omega arith

    same : frame_of vs f ≡ framed t 0
    same = sym e ∙ ap (λ (F : List Frame). frame_at F at) z ∙ ap (λ (i : ℕ). frame_at (front ++ framed t 0 ∷ []) i) at_is
        ∙ frame_last front (framed t 0)

pub last_below : (i n : ℕ) → i + 1 ≡ n → i < n
last_below i n e = omega arith
