-- Heads by paths alone.
use Rattle.std.proofs.Common.{◌≡◌, ℕ, ◌<◌, ◌≤◌, ◌⊎◌, inl, inr, Bool, List, [], ◌∷◌, ◌++◌, length, refl}
use Rattle.std.proofs.lemmas.Bool.{cases_lt}
use Rattle.ol_net.specs.Nets.{NamedNet}
use Rattle.ol_context.specs.Contexts.{Level, Context}
use Rattle.ol_context.specs.Paths.{crossings, HaveSamePaths}
use Rattle.ol_context.proofs.Ways.{path_way, way_passes}
use Rattle.ol_readback.specs.Frames.{Frame, frame_at, asked}
use Rattle.ol_readback.specs.Heads.{Answer, head, NoPath, Fails, IsHead, IsHeadWithin, spends}
use Rattle.ol_readback.specs.Heads as heads
use Rattle.ol_readback.specs.Laws.{HeadsKept, HeadIsHead}
use Rattle.ol_readback.specs.ReadTrees.{Subterm, framed}
use Rattle.ol_readback.specs.Sources.{HaveHeadsOf}
use Rattle.ol_readback.specs.Sources as sources
use Rattle.ol_readback.specs.declared.answers.HeadVar.{HeadVar}
use Rattle.ol_readback.specs.declared.answers.ReadNode.{ReadNode}

module _ {A B : Type 0} where
  pub heads_are_kept : HeadsKept A B
  heads_are_kept N M s F i a (heads.leaves {n = n} {q = q} {X = X} h p m) =
      heads.leaves (λ k b q' d r. h k b q' d
      ((s (frame_at F i).port (asked (frame_at F i).levels k) q' d).1 r))
      ((s (frame_at F i).port (asked (frame_at F i).levels n) q X).0 p) m
  heads_are_kept N M s F i a (heads.never z) = heads.never
      (λ n q d r. z n q d ((s (frame_at F i).port (asked (frame_at F i).levels n) q d).1 r))

-- heads of a net with the same paths
pub heads_moved : {A B : Type 0} (N : NamedNet A) (M : NamedNet B) → HaveSamePaths N M →
    (lost_too : Bool) {F : List Frame} {ss : List Subterm} {ns : List ReadNode} →
    HaveHeadsOf N lost_too F ss ns → HaveHeadsOf M lost_too F ss ns
heads_moved N M p b sources.end = sources.end
heads_moved N M p b (sources.cut r) = sources.cut (heads_moved N M p b r)
heads_moved N M p b (sources.lost {frames = F} {s = s} h r) = sources.lost
    (λ e. heads_are_kept N M p (F ++ framed s 0 ∷ []) (length F) _ (h e)) (heads_moved N M p b r)
heads_moved N M p b (sources.found {frames = F} {s = s} h r) = sources.found
    (heads_are_kept N M p (F ++ framed s 0 ∷ []) (length F) _ h) (heads_moved N M p b r)

-- a try that fails has no path
pub no_path : {A : Type 0} (N : NamedNet A) (p : ℕ) (c : Context) (e : ℕ) → Fails N p c e → NoPath N p c
no_path N p c e f q d r = go (cases_lt e (crossings r))
  where
    go : (e < crossings r) ⊎ (crossings r ≤ e) → ⊥
    go (inr s) = f.stays q d (crossings r, record { path = r; long = refl; within = s })
    go (inl s) = let w = path_way N r in f.breaks_off ((way_passes N e w.1 s).stands)

is_found : {A : Type 0} (N : NamedNet A) (F : List Frame) (i e : ℕ) (a : Answer) →
    IsHeadWithin N F i e a → (n k : ℕ) (v : HeadVar) (ls : List Level) → a ≡ head n v k ls → IsHead N F i a
is_found N F i e a (heads.leaves {n = m} {q = q} {X = X} b h w x) n k v ls z =
    heads.leaves (λ j c. no_path N (frame_at F i).port (asked (frame_at F i).levels j) e (h j c)) w.1.path x
is_found N F i e a (spends b h s) n k v ls z = absurd (cc)
is_found N F i e a (heads.never h) n k v ls z = absurd (cc)

module _ {A : Type 0} where
  pub found_is_head : HeadIsHead A
  found_is_head N F i e n k v ls h = is_found N F i e (head n v k ls) h n k v ls refl
