-- The heads that are found are those of the net before.
use Rattle.std.proofs.Common.{◌≡◌, ℕ, suc, ◌+◌, ◌<◌, ◌≤◌, ◌⊎◌, inl, inr, List, [], ◌∷◌, ◌++◌, length}
use Rattle.std.proofs.Common.{map, false, sym, subst, arith, nat_eq}
use Rattle.std.proofs.lemmas.Bool.{cases_lt}
use Rattle.ol_net.specs.declared.parts.Rule.{Rule}
use Rattle.ol_net.specs.Graph.{Graph}
use Rattle.ol_net.specs.Nets.{NamedNet, free, IsNet}
use Rattle.ol_net.specs.Numbered.{net_of}
use Rattle.ol_context.specs.Contexts.{Context}
use Rattle.ol_context.specs.Paths.{Path, HaveSamePaths}
use Rattle.ol_invariance.proofs.Steps.{graph_step_keeps}
use Rattle.ol_rules.specs.Steps.{StepsAt}
use Rattle.ol_rules.proofs.Relation.{net_kept}
use Rattle.ol_rules.proofs.Tests.{nat_test}
use Rattle.ol_rules.proofs.OnTheWay.{fresh_numbers}
use Rattle.ol_readback.specs.Frames.{Frame, asked}
use Rattle.ol_readback.specs.Heads.{Answer, head, no_head, budget, NoPath, IsHead}
use Rattle.ol_readback.specs.Heads as heads
use Rattle.ol_readback.specs.ReadTrees.{Subterm, framed}
use Rattle.ol_readback.specs.Sources.{HaveHeadsOf}
use Rattle.ol_readback.specs.Sources as sources
use Rattle.ol_readback.specs.declared.answers.ReadNode.{ReadNode}
use Rattle.ol_readback.specs.declared.answers.ReadNode.TheVariants as node
use Rattle.ol_readback.proofs.Forests.{frame_last}
use Rattle.ol_demand.specs.Chains.{Ends, undefined, left}
use Rattle.ol_demand.specs.Demands.{next, place_of}
use Rattle.ol_demand.proofs.Chains.{no_path_at, path_at}
use Rattle.ol_decoding.specs.Parts.{Finds, rewrites, one_more, leaves, never, goes_on, spends}
use Rattle.ol_decoding.specs.Parts.{HaveParts, end, past, below, asks}
use Rattle.ol_decoding.specs.TreeLaws.{PartsHaveSourceHeads}

pub net_after : (g h : Graph) (at : ℕ) (r : Rule) → IsNet (net_of g) → StepsAt g h at r → IsNet (net_of h)
net_after g h at r n s =
    let a = s.step.active in
    net_kept nat_eq nat_test (λ place. length g.nodes + place) (net_of g) s.f s.g a.k a.i a.l a.j r n a.faces
    (fresh_numbers g) a.fits (net_of h) s.step.rewrites

-- a net with the paths of the one before
pub record IsKept (N : NamedNet ℕ) (g : Graph) : Type 0 where
  pub net : IsNet (net_of g)
  pub paths : HaveSamePaths N (net_of g)

pub kept_after : (N : NamedNet ℕ) (g h : Graph) (at : ℕ) (r : Rule) → IsKept N g → StepsAt g h at r → IsKept N h
kept_after N g h at r k s =
    let p = graph_step_keeps g h at r k.net s in
    record {
      net = net_after g h at r k.net s;
      paths = λ q c i d. (λ x. (p q c i d).0 ((k.paths q c i d).0 x), λ x. (k.paths q c i d).1 ((p q c i d).1 x));
    }

module _ (N : NamedNet ℕ) (F : List Frame) (s : Subterm) where
  -- it was asked in vain for each smaller number of abstractions
  abbrev Tried : ℕ → Type 0
  Tried n = (m : ℕ) → m < n → NoPath N s.port (asked s.levels m)

  tried_more : (g : Graph) → IsKept N g → (n : ℕ) → Ends (net_of g) s.port (asked s.levels n) undefined → Tried n →
      Tried (suc n)
  tried_more g k n h y m b = go (cases_lt m n)
    where
      go : (m < n) ⊎ (n ≤ m) → NoPath N s.port (asked s.levels m)
      go (inl c) = y m c
      go (inr c) =
          let z : n ≡ m = omega arith in
          subst (λ m. NoPath N s.port (asked s.levels m)) z
          (λ q X r. no_path_at (net_of g) k.net s.port (asked s.levels n) h q X
          ((k.paths s.port (asked s.levels n) q X).0 r))

  -- what is known of an answer
  abbrev IsRight : Answer → Type 0
  IsRight (head n v k ls) = IsHead N (F ++ framed s 0 ∷ []) (length F) (head n v k ls)
  IsRight no_head = Unit {0}
  IsRight budget = Unit {0}

  right : (a : Answer) → IsHead N (F ++ framed s 0 ∷ []) (length F) a → IsRight a
  right (head n v k ls) h = h
  right no_head h = tt
  right budget h = tt

  is_head : (g : Graph) → IsKept N g → (n q : ℕ) (X : Context) (a : Answer) → Tried n →
      Ends (net_of g) s.port (asked s.levels n) (left q X) →
      heads.IsMatched (F ++ framed s 0 ∷ []) (length F) n q X a → IsHead N (F ++ framed s 0 ∷ []) (length F) a
  is_head g k n q X a y h m =
      let z = frame_last F (framed s 0) in
      heads.leaves {n = n} {q = q} {X = X}
      (λ m b. subst (λ (f : Frame). NoPath N f.port (asked f.levels m)) (sym z) (y m b))
      (subst (λ (f : Frame). Path N (free f.port) (asked f.levels n) q X) (sym z)
      ((k.paths s.port (asked s.levels n) q X).1 (path_at (net_of g) k.net s.port (asked s.levels n) q X h))) m

  pub finds_right : {fuel n made : ℕ} {g h : Graph} {a : Answer} → Finds F s fuel n g made a h → IsKept N g →
      Tried n → IsRight a × IsKept N h
  finds_right (rewrites {g = g} {i = i} m r) k y = finds_right r (kept_after N g i m.at m.rule k m.step) y
  finds_right (one_more {n = n} {g = g} h b r) k y = finds_right r k (tried_more g k n h y)
  finds_right (leaves {n = n} {q = q} {X = X} {g = g} {a = a} h m) k y =
      (right a (is_head g k n q X a y h m), k)
  finds_right (never h b) k y = (tt, k)
  finds_right (goes_on h) k y = (tt, k)
  finds_right (spends h) k y = (tt, k)

cuts : (N : NamedNet ℕ) (F : List Frame) (ss : List Subterm) → HaveHeadsOf N false F ss (map (λ s. node.Cut) ss)
cuts N F [] = sources.end
cuts N F (s ∷ ss) = sources.cut (cuts N (F ++ framed s 0 ∷ []) ss)

found_ahead : (N : NamedNet ℕ) (F : List Frame) (s : Subterm) (ss : List Subterm) (ns : List ReadNode) (a : Answer) →
    IsRight N F s a → HaveHeadsOf N false (next F s ss a).frames (next F s ss a).waiting ns →
    HaveHeadsOf N false F (s ∷ ss) (place_of a ∷ ns)
found_ahead N F s ss ns (head n v k ls) h r = sources.found h r
found_ahead N F s ss ns no_head h r = sources.lost (λ e. absurd (cc)) r
found_ahead N F s ss ns budget h r = sources.cut r

pub parts_right : (N : NamedNet ℕ) {depth many fuel all : ℕ} {g : Graph} {F : List Frame} {ss : List Subterm}
    {ns : List ReadNode} → HaveParts depth many fuel g all F ss ns → IsKept N g → HaveHeadsOf N false F ss ns
parts_right N end k = sources.end
parts_right N (past {frames = F} {ss = ss} b) k = cuts N F ss
parts_right N (below b d l r) k = sources.cut (parts_right N r k)
parts_right N (asks {frames = F} {s = s} {ss = ss} {ns = ns} {a = a} b d l f h r) k =
    let x = finds_right N F s h k (λ m c. absurd (omega arith)) in
    found_ahead N F s ss ns a x.0 (parts_right N r x.1)

pub heads_are_of_source : PartsHaveSourceHeads
heads_are_of_source g depth many fuel ns n t =
    parts_right (net_of g) t (record { net = n; paths = λ p c q d. (λ r. r, λ r. r) })
