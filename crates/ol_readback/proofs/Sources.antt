-- Heads that were found within a budget, in one net, are those of a net with the same paths.
use Rattle.std.proofs.Common.{◌≡◌, ◌≢◌, ℕ, ◌*◌, ◌≤◌, List, [], ◌∷◌, ◌++◌, length, map, Bool, true}
use Rattle.std.proofs.Common.{false, refl, subst, arith}
use Rattle.ol_net.specs.Nets.{NamedNet, IsNet}
use Rattle.ol_context.specs.Contexts.{Level}
use Rattle.ol_context.specs.Paths.{HaveSamePaths}
use Rattle.ol_context.specs.Short.{HasNoFacing, live}
use Rattle.ol_context.proofs.Turning.{goes_on}
use Rattle.ol_readback.specs.Frames.{Frame, frame_at, asked}
use Rattle.ol_readback.specs.Heads.{Answer, head, no_head, NoPath, IsHead, IsHeadWithin, spends, answer_of}
use Rattle.ol_readback.specs.Heads as heads
use Rattle.ol_readback.specs.Sources.{HaveHeadsOf, NoHeadIsNoHead, PrintedHeads, MeetsRing}
use Rattle.ol_readback.specs.Sources as sources
use Rattle.ol_readback.specs.ReadTrees.{Subterm, framed, ReadsBack, IsTree, whole_term}
use Rattle.ol_readback.specs.ReadTrees as trees
use Rattle.ol_readback.specs.declared.answers.Head.{Head}
use Rattle.ol_readback.specs.declared.answers.Head.TheVariants as code
use Rattle.ol_readback.specs.declared.answers.ReadNode.{ReadNode}
use Rattle.ol_readback.specs.declared.answers.ReadNode.TheVariants as node
use Rattle.ol_readback.proofs.Enough.{few_are_enough}
use Rattle.ol_readback.proofs.One.{meets}
use Rattle.ol_readback.proofs.Kept.{heads_are_kept, found_is_head, no_path}

-- no head within a budget
is_none : {A : Type 0} (N : NamedNet A) → IsNet N → HasNoFacing N →
    (F : List Frame) (i e : ℕ) (a : Answer) → IsHeadWithin N F i e a → a ≡ no_head → IsHead N F i a
is_none N is_net apart F i e a (heads.leaves b h w x) z = heads.leaves
    (λ j c. no_path N (frame_at F i).port (asked (frame_at F i).levels j) e (h j c)) w.1.path x
is_none N is_net apart F i e a (spends b h s) z = absurd (cc)
is_none N is_net apart F i e a (heads.never h) z = heads.never none_at
  where
    none_at : (n : ℕ) → NoPath N (frame_at F i).port (asked (frame_at F i).levels n)
    none_at n q d r =
        let t = few_are_enough N is_net apart (frame_at F i).port (frame_at F i).levels n q d r in
        let s = t.3 in
        no_path N (frame_at F i).port (asked (frame_at F i).levels t.0) e (h t.0 (omega arith)) t.1 t.2 t.5

module _ {A : Type 0} where
  pub no_head_is : NoHeadIsNoHead A
  no_head_is N is_net apart F i e h = is_none N is_net apart F i e no_head h refl

module _ {A B : Type 0} (N : NamedNet A) (M : NamedNet B) (same : HaveSamePaths N M)
    (is_net : IsNet M) (most edges : ℕ) (lost_too : Bool) (apart : lost_too ≡ true → HasNoFacing M) where
  back : HaveSamePaths M N
  back p c q d = ((same p c q d).1, (same p c q d).0)

  cuts : (F : List Frame) (ss : List Subterm) → HaveHeadsOf N lost_too F ss (map (λ s. node.Cut) ss)
  cuts F [] = sources.end
  cuts F (s ∷ ss) = sources.cut (cuts (F ++ framed s 0 ∷ []) ss)

  pub read_heads : {F : List Frame} {ss : List Subterm} {ns : List ReadNode} →
      ReadsBack M most edges F ss ns → HaveHeadsOf N lost_too F ss ns
  read_heads trees.end = sources.end
  read_heads {F = F} {ss = ss} (trees.past b) = cuts F ss
  read_heads (trees.spent b h r) = sources.cut (read_heads r)
  read_heads {F = F} {ss = s ∷ ss} (trees.lost b h r) =
      sources.lost (λ e. heads_are_kept M N back (F ++ framed s 0 ∷ []) (length F) no_head
      (no_head_is M is_net (apart e) (F ++ framed s 0 ∷ []) (length F) edges h)) (read_heads r)
  read_heads {F = F} {ss = s ∷ ss} (trees.found {n = n} {k = k} {v = v} {ls = ls} b h r) =
      sources.found (heads_are_kept M N back (F ++ framed s 0 ∷ []) (length F) (head n v k ls)
      (found_is_head M (F ++ framed s 0 ∷ []) (length F) edges n k v ls h)) (read_heads r)

module _ {A B : Type 0} where
  pub printed : PrintedHeads A B
  printed N M same is_net most edges ns t = (
    read_heads N M same is_net most edges false (λ e. absurd (cc)) t,
    λ apart. read_heads N M same is_net most edges true (λ e. apart) t,
  )

-- of one net
pub own_heads : (N : NamedNet ℕ) → IsNet N → (most edges : ℕ) (ns : List ReadNode) →
    IsTree N most edges ns → sources.HasHeadsOf N false ns × (HasNoFacing N → sources.HasHeadsOf N true ns)
own_heads N is_net most edges ns t = printed N N (λ p c q d. (λ r. r, λ r. r)) is_net most edges ns t

-- what the code answers
module _ (N : NamedNet ℕ) (is_net : IsNet N) (F : List Frame) (i e : ℕ) (vs : List Level) where
  pub asked_found : (h : Head) → IsHeadWithin N F i e (answer_of vs h) → h ≢ code.Budget →
      h ≢ code.NoHead → IsHead N F i (answer_of vs h)
  asked_found (code.Is n v k at) w b l = found_is_head N F i e n k v _ w
  asked_found code.NoHead w b l = absurd (l refl)
  asked_found code.Budget w b l = absurd (b refl)

  pub asked_lost : (h : Head) → IsHeadWithin N F i e (answer_of vs h) → h ≡ code.NoHead →
      HasNoFacing N → IsHead N F i no_head
  asked_lost h w q apart = no_head_is N is_net apart F i e (subst (λ h. IsHeadWithin N F i e (answer_of vs h)) q w)

  pub asked_ring : (h : Head) → IsHeadWithin N F i e (answer_of vs h) → h ≡ code.Budget →
      HasNoFacing N → 2 * live N ≤ e → MeetsRing N (frame_at F i) e
  asked_ring h w q apart b =
      let m = meets (subst (λ h. IsHeadWithin N F i e (answer_of vs h)) q w) refl in
      (m.0, m.1, m.2, λ made. goes_on N is_net apart (frame_at F i).port (asked (frame_at F i).levels m.0) e b m.3 made)
