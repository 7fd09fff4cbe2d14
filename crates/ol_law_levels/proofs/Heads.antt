-- Walks in levelled nets without an active pair turn once and are short; no head found is none.
-- Used in Sources and AskedTrees, and for `levelled_walk_is_short` and `levelled_heads_kept`.
use Rattle.std.proofs.Common.{◌≡◌, ℕ, ◌≤◌, List, [], ◌∷◌, ◌++◌, length, map, true, refl, arith}
use Rattle.ol_context.specs.Contexts.{Level, Context}
use Rattle.ol_context.specs.Paths.{Path, HaveSamePaths}
use Rattle.ol_context.specs.Short.{live}
use Rattle.ol_net.specs.Nets.{NamedNet, free, IsNet}
use Rattle.ol_net.specs.Pairs.{IsComplete}
use Rattle.ol_readback.specs.Frames.{Frame, frame_at, asked}
use Rattle.ol_readback.specs.Heads.{Answer, head, no_head, NoPath, IsHead, IsHeadWithin, spends}
use Rattle.ol_readback.specs.Heads as heads
use Rattle.ol_readback.specs.Sources.{HaveHeadsOf, HasHeadsOf}
use Rattle.ol_readback.specs.Sources as sources
use Rattle.ol_readback.specs.ReadTrees.{Subterm, framed, ReadsBack}
use Rattle.ol_readback.specs.ReadTrees as trees
use Rattle.ol_readback.specs.declared.answers.ReadNode.{ReadNode}
use Rattle.ol_readback.specs.declared.answers.ReadNode.TheVariants as node
use Rattle.ol_readback.proofs.Kept.{heads_are_kept, found_is_head, no_path}
use Rattle.ol_law_levels.specs.Levels.{IsLevelled}
use Rattle.ol_law_levels.specs.Walks.{LevelledWalkTurnsOnce, LevelledWalkIsShort, LevelledFewAreEnough}
use Rattle.ol_law_levels.specs.Walks.{LevelledNoHead, LevelledPrintedHeads}
use Rattle.ol_law_levels.proofs.Tops.{active_of, not_active, short, few_enough}
use Rattle.ol_law_levels.proofs.Turning.{NeverFalls, turns_once}

-- A number of abstractions for which a walk leaves is found among the first ones.
abbrev pub FewEnough : {A : Type 0} → NamedNet A → Type 0
FewEnough {A} N = (p : ℕ) (ls : List Level) (n q : ℕ) (X : Context) →
    Path N (free p) (asked ls n) q X →
    (m : ℕ) × (q' : ℕ) × (X' : Context) × (m ≤ live N) × (m ≤ n)
    × Path N (free p) (asked ls m) q' X'

module _ {A : Type 0} (N : NamedNet A) (is_net : IsNet N) (L : IsLevelled N)
    (complete : IsComplete N) where
  pub never_falls : NeverFalls N
  never_falls x y c z l k i t d h b e =
      not_active N L complete x (active_of N L x y c z l k i t d h b e)

module _ {A : Type 0} where
  pub walk_turns_once : LevelledWalkTurnsOnce A
  walk_turns_once N is_net L complete p c n u d w =
      turns_once N is_net (never_falls N is_net L complete) p w

  pub walk_is_short : LevelledWalkIsShort A
  walk_is_short N is_net L complete p c q d r = short N L complete is_net p r

  pub few_are_enough : LevelledFewAreEnough A
  few_are_enough N is_net L complete = few_enough N L complete is_net

  -- no head within a budget
  is_none : (N : NamedNet A) → FewEnough N → (F : List Frame) (i e : ℕ) (a : Answer) →
      IsHeadWithin N F i e a → a ≡ no_head → IsHead N F i a
  is_none N enough F i e a (heads.leaves b h w x) z =
      heads.leaves (λ j c. no_path N (frame_at F i).port (asked (frame_at F i).levels j) e (h j c))
      w.1.path x
  is_none N enough F i e a (spends b h s) z = absurd (cc)
  is_none N enough F i e a (heads.never h) z = heads.never none_at
    where
      none_at : (n : ℕ) → NoPath N (frame_at F i).port (asked (frame_at F i).levels n)
      none_at n q d r =
          let t = enough (frame_at F i).port (frame_at F i).levels n q d r in
          let s = t.3 in
          no_path N (frame_at F i).port (asked (frame_at F i).levels t.0) e (h t.0 (omega arith))
          t.1 t.2 t.5

  pub no_head_is : LevelledNoHead A
  no_head_is N is_net L complete F i e h =
      is_none N (few_are_enough N is_net L complete) F i e no_head h refl

module _ {A B : Type 0} (N : NamedNet A) (M : NamedNet B) (same : HaveSamePaths N M)
    (enough : FewEnough M) (most edges : ℕ) where
  back : HaveSamePaths M N
  back p c q d = ((same p c q d).1, (same p c q d).0)

  cuts : (F : List Frame) (ss : List Subterm) → HaveHeadsOf N true F ss (map (λ s. node.Cut) ss)
  cuts F [] = sources.end
  cuts F (s ∷ ss) = sources.cut (cuts (F ++ framed s 0 ∷ []) ss)

  read_heads : {F : List Frame} {ss : List Subterm} {ns : List ReadNode} →
      ReadsBack M most edges F ss ns → HaveHeadsOf N true F ss ns
  read_heads trees.end = sources.end
  read_heads {F = F} {ss = ss} (trees.past b) = cuts F ss
  read_heads (trees.spent b h r) = sources.cut (read_heads r)
  read_heads {F = F} {ss = s ∷ ss} (trees.lost b h r) =
      sources.lost (λ e. heads_are_kept M N back (F ++ framed s 0 ∷ []) (length F) no_head
      (is_none M enough (F ++ framed s 0 ∷ []) (length F) edges no_head h refl)) (read_heads r)
  read_heads {F = F} {ss = s ∷ ss} (trees.found {n = n} {k = k} {v = v} {ls = ls} b h r) =
      sources.found (heads_are_kept M N back (F ++ framed s 0 ∷ []) (length F) (head n v k ls)
      (found_is_head M (F ++ framed s 0 ∷ []) (length F) edges n k v ls h)) (read_heads r)

module _ {A B : Type 0} where
  pub printed : LevelledPrintedHeads A B
  printed N M same is_net L complete most edges ns t =
      read_heads N M same (few_are_enough M is_net L complete) most edges t
