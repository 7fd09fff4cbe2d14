-- A tree of a levelled net without an active pair tells the head of each place that was asked.
-- Used in DemandPlaces, and for `asked_places_are_the_sources`.
use Rattle.std.proofs.Common.{ℕ, ◌*◌, ◌≤◌, List, [], ◌∷◌, ◌++◌, length, map, true}
use Rattle.ol_context.specs.Paths.{HaveSamePaths}
use Rattle.ol_context.specs.Short.{live}
use Rattle.ol_net.specs.Nets.{NamedNet, IsNet}
use Rattle.ol_net.specs.Pairs.{IsComplete}
use Rattle.ol_readback.specs.Frames.{Frame}
use Rattle.ol_readback.specs.Heads.{head, no_head}
use Rattle.ol_readback.specs.Sources.{HaveHeadsOf, HasHeadsOf}
use Rattle.ol_readback.specs.Sources as sources
use Rattle.ol_readback.specs.ReadTrees.{Subterm, framed, ReadsBack}
use Rattle.ol_readback.specs.ReadTrees as trees
use Rattle.ol_readback.specs.declared.answers.ReadNode.{ReadNode}
use Rattle.ol_readback.specs.declared.answers.ReadNode.TheVariants as node
use Rattle.ol_readback.proofs.Kept.{heads_are_kept, found_is_head}
use Rattle.ol_law_levels.specs.Levels.{IsLevelled}
use Rattle.ol_law_levels.specs.Asked.{HaveAskedHeadsOf, AskedHeadsAreHeads, AskedHeadsAreKept}
use Rattle.ol_law_levels.specs.Asked.{TreeTellsAsked, LastTreeTellsAsked}
use Rattle.ol_law_levels.specs.Asked as asked_of
use Rattle.ol_law_levels.proofs.Budgets.{budget_is_no_head}
use Rattle.ol_law_levels.proofs.Heads.{no_head_is}
use Rattle.ol_law_levels.proofs.Sources.{last_net, last_levels, same_paths}
use Rattle.ol_translate.specs.Translation.{translation_of}

module _ {A : Type 0} (N : NamedNet A) (many : ℕ) where
  cuts : (F : List Frame) (ss : List Subterm) → HaveHeadsOf N true F ss (map (λ s. node.Cut) ss)
  cuts F [] = sources.end
  cuts F (s ∷ ss) = sources.cut (cuts (F ++ framed s 0 ∷ []) ss)

  weaker : {F : List Frame} {ss : List Subterm} {ns : List ReadNode} →
      HaveAskedHeadsOf N many F ss ns → HaveHeadsOf N true F ss ns
  weaker asked_of.end = sources.end
  weaker {F = F} {ss = ss} (asked_of.past b) = cuts F ss
  weaker (asked_of.cut b h r) = sources.cut (weaker r)
  weaker (asked_of.lost b h r) = sources.lost (λ e. h) (weaker r)
  weaker (asked_of.found b h r) = sources.found h (weaker r)

module _ {A : Type 0} where
  pub asked_heads : AskedHeadsAreHeads A
  asked_heads N many ns h = weaker N many h

module _ {A B : Type 0} (N : NamedNet A) (M : NamedNet B) (same : HaveSamePaths N M)
    (is_net : IsNet M) (L : IsLevelled M) (complete : IsComplete M) (many edges : ℕ)
    (enough : 2 * live M ≤ edges) where
  back : HaveSamePaths M N
  back p c q d = ((same p c q d).1, (same p c q d).0)

  tells : {F : List Frame} {ss : List Subterm} {ns : List ReadNode} →
      ReadsBack M many edges F ss ns → HaveAskedHeadsOf N many F ss ns
  tells trees.end = asked_of.end
  tells (trees.past b) = asked_of.past b
  tells {F = F} {ss = s ∷ ss} (trees.spent b h r) =
      asked_of.cut b (heads_are_kept M N back (F ++ framed s 0 ∷ []) (length F) no_head
      (budget_is_no_head M is_net L complete (F ++ framed s 0 ∷ []) (length F) edges enough h))
      (tells r)
  tells {F = F} {ss = s ∷ ss} (trees.lost b h r) =
      asked_of.lost b (heads_are_kept M N back (F ++ framed s 0 ∷ []) (length F) no_head
      (no_head_is M is_net L complete (F ++ framed s 0 ∷ []) (length F) edges h)) (tells r)
  tells {F = F} {ss = s ∷ ss} (trees.found {n = n} {k = k} {v = v} {ls = ls} b h r) =
      asked_of.found b (heads_are_kept M N back (F ++ framed s 0 ∷ []) (length F) (head n v k ls)
      (found_is_head M (F ++ framed s 0 ∷ []) (length F) edges n k v ls h)) (tells r)

module _ {A B : Type 0} (N : NamedNet A) (M : NamedNet B) (same : HaveSamePaths N M) (many : ℕ)
  where
    keeps : {F : List Frame} {ss : List Subterm} {ns : List ReadNode} →
        HaveAskedHeadsOf N many F ss ns → HaveAskedHeadsOf M many F ss ns
    keeps asked_of.end = asked_of.end
    keeps (asked_of.past b) = asked_of.past b
    keeps {F = F} {ss = s ∷ ss} (asked_of.cut b h r) =
        asked_of.cut b (heads_are_kept N M same (F ++ framed s 0 ∷ []) (length F) no_head h) (keeps r)
    keeps {F = F} {ss = s ∷ ss} (asked_of.lost b h r) =
        asked_of.lost b (heads_are_kept N M same (F ++ framed s 0 ∷ []) (length F) no_head h)
        (keeps r)
    keeps {F = F} {ss = s ∷ ss} (asked_of.found {n = n} {k = k} {v = v} {ls = ls} b h r) =
        asked_of.found b (heads_are_kept N M same (F ++ framed s 0 ∷ []) (length F) (head n v k ls) h)
        (keeps r)

module _ {A B : Type 0} where
  pub asked_kept : AskedHeadsAreKept A B
  asked_kept N M same many ns h = keeps N M same many h

  pub tree_tells : TreeTellsAsked A B
  tree_tells N M same is_net L complete many edges ns enough r =
      tells N M same is_net L complete many edges enough r

pub last_tree_tells : LastTreeTellsAsked
last_tree_tells w t names h journal M run complete many edges ns enough r =
    tree_tells (translation_of w t names) M (same_paths w t names h journal M run)
    (last_net w t names h journal M run) (last_levels w t names h journal M run) complete many
    edges ns enough r
