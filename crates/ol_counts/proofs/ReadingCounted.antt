-- A reading by walks whose crossings are counted.
use Rattle.std.proofs.Common.{◌≡◌, ℕ, ◌+◌, ◌<◌, ◌≤◌, ◌⊎◌, inl, inr, List, [], ◌∷◌, ◌++◌, length, refl, sym, ap, subst, arith}
use Rattle.std.proofs.lemmas.List.{length_push}
use Rattle.ol_net.specs.Graph.{Graph}
use Rattle.ol_net.specs.Nets.{NamedNet, free}
use Rattle.ol_net.specs.Numbered.{net_of}
use Rattle.ol_context.specs.Contexts.{Level, Context}
use Rattle.ol_context.specs.Ways.{Exits}
use Rattle.ol_readback.specs.Askers.{Reading, so_far, found, the_start, IsOver}
use Rattle.ol_readback.specs.Frames.{Frame, frame_at, frames_of, asked}
use Rattle.ol_readback.specs.Heads.{Answer, head, no_head, budget, answer_of, IsHeadWithin, IsMatched, matched}
use Rattle.ol_readback.specs.ReadTrees.{Subterm, framed, whole_term}
use Rattle.ol_readback.specs.declared.answers.Head.{Head}
use Rattle.ol_readback.specs.declared.answers.Head.TheVariants as code
use Rattle.ol_readback.specs.declared.answers.HeadVar.{HeadVar}
use Rattle.ol_readback.specs.declared.answers.ReadNode.{ReadNode}
use Rattle.ol_readback.specs.declared.frames.Frame as listed
use Rattle.ol_readback.proofs.FrameLists.{count_frames}
use Rattle.ol_counts.specs.Crossings.{HasCrossings, AreReadBy, end, past, asks}
use Rattle.ol_counts.specs.ReadingCounted.{crossings_if, IsWalked, IsReadByCounting}

matched_lams : (F : List Frame) (i n q : ℕ) (X : Context) (l k : ℕ) (v : HeadVar) (ls : List Level) →
    IsMatched F i n q X (head l v k ls) → n ≡ l
matched_lams F i n q X l k v ls (matched y) = refl

-- the crossings of a walk that left
pub crossings_left : (N : NamedNet ℕ) (F : List Frame) (i e : ℕ) (vs : List Level) (n q : ℕ) (X : Context) (c : ℕ)
    (h : Head) → IsMatched F i n q X (answer_of vs h) →
    Exits N (free (frame_at F i).port) (asked (frame_at F i).levels n) e q X c →
    HasCrossings N F i e (answer_of vs h) (crossings_if h c)
crossings_left N F i e vs n q X c (code.Is lams v args at) m x = (
  q,
  X,
  subst (λ (n : ℕ). Exits N (free (frame_at F i).port) (asked (frame_at F i).levels n) e q X c)
      (matched_lams F i n q X lams args v _ m) x,
)
crossings_left N F i e vs n q X c code.NoHead m x = refl
crossings_left N F i e vs n q X c code.Budget m x = refl

-- one place more
module _ (g : Graph) (edges before : ℕ) (g' : Graph) (edges' made heads : ℕ) (F : List Frame) (t : Subterm)
    (ss : List Subterm) (places : List ReadNode) (b : length F < heads) where
  one_more : (a : Answer) (c : ℕ) → IsHeadWithin (net_of g) (F ++ framed t 0 ∷ []) (length F) edges a →
      HasCrossings (net_of g) (F ++ framed t 0 ∷ []) (length F) edges a c → (made' : ℕ) → made' ≡ made + c →
      IsReadByCounting g edges before g' edges' made heads (so_far F (t ∷ ss) places) →
      IsReadByCounting g edges before g' edges' made' heads (found places F t ss a)
  one_more (head n v k ls) c h x made' e r = record {
    graph = r.graph;
    budget = r.budget;
    all = λ m k y s. r.all (c + m) k (asks c b h x y) (omega (arith, s, e));
  }
  one_more no_head c h x made' e r = record {
    graph = r.graph;
    budget = r.budget;
    all = λ m k y s. r.all (c + m) k (asks c b h x y) (omega (arith, s, e));
  }
  one_more budget c h x made' e r = record {
    graph = r.graph;
    budget = r.budget;
    all = λ m k y s. r.all (c + m) k (asks c b h x y) (omega (arith, s, e));
  }

record Walked (a : Answer) (c : ℕ) (g : Graph) (F : List Frame) (i edges : ℕ) : Type 0 where
  head : IsHeadWithin (net_of g) F i edges a
  crossings : HasCrossings (net_of g) F i edges a c

-- what a walk says of the last frame
pub walk_answered : (g : Graph) (edges : ℕ) (vs new : List Level) (fs : List listed.Frame) (at : ℕ)
    (h : Head) (c : ℕ) → at + 1 ≡ length fs → IsWalked g vs fs at edges new h c →
    (g0 : Graph) (edges0 before made made' heads : ℕ) (places : List ReadNode) (front : List Frame) (t : Subterm)
    (ss : List Subterm) → made' ≡ made + c → frames_of vs fs ≡ front ++ framed t 0 ∷ [] → length front < heads →
    IsReadByCounting g0 edges0 before g edges made heads (so_far front (t ∷ ss) places) →
    IsReadByCounting g0 edges0 before g edges made' heads (found places front t ss (answer_of new h))
walk_answered g edges vs new fs at h c l w g0 edges0 before made made' heads places front t ss e z b u =
    one_more g0 edges0 before g edges made heads front t ss places b (answer_of new h) c there.head there.crossings made' e u
  where
    at_is : at ≡ length front
    at_is =
        let c = count_frames vs fs in
        let p = length_push front (framed t 0) in
        let y = ap (λ (F : List Frame). length F) z in
        omega arith

    there : Walked (answer_of new h) c g0 (front ++ framed t 0 ∷ []) (length front) edges0
    there =
        subst (λ (e : ℕ). Walked (answer_of new h) c g0 (front ++ framed t 0 ∷ []) (length front) e) u.budget
        (subst (λ (g : Graph). Walked (answer_of new h) c g (front ++ framed t 0 ∷ []) (length front) edges) u.graph
        (subst (λ (i : ℕ). Walked (answer_of new h) c g (front ++ framed t 0 ∷ []) i edges) at_is
        (subst (λ (F : List Frame). Walked (answer_of new h) c g F at edges) z (record { head = w.head; crossings = w.crossings }))))

-- the reading is over
pub read_to_end : (g : Graph) (edges : ℕ) (g' : Graph) (edges' made heads : ℕ) (r : Reading) (ns : List ReadNode) →
    IsReadByCounting g edges 0 g' edges' made heads r → IsOver heads r ns →
    AreReadBy (net_of g) heads edges [] (whole_term ∷ []) made
read_to_end g edges g' edges' made heads r ns w o = w.all 0 made (go o.over) (omega arith)
  where
    go : (r.waiting ≡ []) ⊎ (heads ≤ length r.frames) → AreReadBy (net_of g) heads edges r.frames r.waiting 0
    go (inl e) = subst (λ (ss : List Subterm). AreReadBy (net_of g) heads edges r.frames ss 0) (sym e) end
    go (inr b) = past b

-- nothing was read yet
pub read_from : (g : Graph) (edges made heads : ℕ) → IsReadByCounting g edges made g edges made heads the_start
read_from g edges made heads = record {
  graph = refl;
  budget = refl;
  all = λ m k y s. subst (λ (k : ℕ). AreReadBy (net_of g) heads edges [] (whole_term ∷ []) k) (omega (arith, s)) y;
}
