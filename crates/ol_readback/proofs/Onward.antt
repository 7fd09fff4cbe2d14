-- Reading one place after another.
use Rattle.std.proofs.Common.{◌≡◌, ℕ, zero, suc, ◌+◌, ◌-◌, ◌^◌, ◌<◌, ◌≤◌, inl, inr, List, [], ◌∷◌}
use Rattle.std.proofs.Common.{◌++◌, length, map, replicate, option_to_list, Option, Some, None}
use Rattle.std.proofs.Common.{refl, sym, ap, ◌∙◌, subst, arith, append_assoc}
use Rattle.std.proofs.lemmas.List.{append-nil, map-append}
use Rattle.ol_context.specs.Contexts.{Level}
use Rattle.ol_context.specs.Shapes.{value, Extends}
use Rattle.ol_readback.specs.Askers.{Reading, so_far, the_start, IsOver}
use Rattle.ol_readback.specs.Frames.{Frame, frames_of}
use Rattle.ol_readback.specs.ReadTrees.{Subterm, arguments}
use Rattle.ol_readback.specs.Groups.{subterms_of, subterms_in, pending_of, AreHeldGroups, AreHeldIn}
use Rattle.ol_readback.specs.Groups.{ArePlacedGroups, ArePlacedIn, subterm_of, IsNextFrame, IsNext}
use Rattle.ol_readback.specs.NextPlaces.{IsReader, IsReadNext, StopsNext, AreHeldIfSome, ArePlacedIfSome}
use Rattle.ol_readback.specs.Reading.{cuts_of}
use Rattle.ol_readback.specs.declared.answers.ReadNode.{ReadNode}
use Rattle.ol_readback.specs.declared.answers.ReadNode.TheVariants as node
use Rattle.ol_readback.specs.declared.frames.Frame as code
use Rattle.ol_readback.specs.declared.groups.Group.{Group}
use Rattle.ol_readback.proofs.FrameLists.{count_frames, frames_more}
use Rattle.ol_readback.proofs.GroupLists.{pending_push, held_push, placed_push, placed_more, groups_more, pending_more}
use Rattle.ol_readback.proofs.Places.{list_more}
use Rattle.ol_readback.proofs.Skips.{no_skips}

pub pending_add : (vs : List Level) (gs : List Group) (g : Option Group) →
    pending_of vs (gs ++ option_to_list g) ≡ subterms_in vs g ++ pending_of vs gs
pending_add vs gs None = ap (pending_of vs) (append-nil gs)
pending_add vs gs (Some g) = pending_push vs gs g

pub held_add : (vs : List Level) (gs : List Group) (g : Option Group) → AreHeldGroups vs gs →
    AreHeldIn vs g → AreHeldGroups vs (gs ++ option_to_list g)
held_add vs gs None h k = subst (λ (gs : List Group). AreHeldGroups vs gs) (sym (append-nil gs)) h
held_add vs gs (Some g) h k = held_push vs gs g h k

pub placed_add : (free count : ℕ) (gs : List Group) (g : Option Group) →
    ArePlacedGroups free count gs → ArePlacedIn free count g → ArePlacedGroups free count (gs ++ option_to_list g)
placed_add free count gs None h k = subst (λ (gs : List Group). ArePlacedGroups free count gs) (sym (append-nil gs)) h
placed_add free count gs (Some g) h k = placed_push free count gs g h k

-- after a frame was read
pub record After (P : Reading → Type 0) (free : ℕ) (vs : List Level) (fs : List code.Frame)
    (skips : List (Option ℕ)) (nodes : List ReadNode) (gs : List Group) : Type 0 where
  pub read : P (so_far (frames_of vs fs) (pending_of vs gs) nodes)
  pub reader : IsReader free vs fs skips
  pub held : AreHeldGroups vs gs
  pub placed : ArePlacedGroups free (length fs) gs

-- before frame f is read
pub record Before (P : Reading → Type 0) (heads free : ℕ) (vs : List Level) (fs : List code.Frame)
    (skips : List (Option ℕ)) (f : code.Frame) (nodes : List ReadNode) (gs : List Group) : Type 0 where
  pub read : P (so_far (frames_of vs fs) (subterm_of vs f ∷ pending_of vs gs) nodes)
  pub reader : IsReader free vs fs skips
  pub frame : IsNextFrame free (length fs) vs f
  pub held : AreHeldGroups vs gs
  pub placed : ArePlacedGroups free (length fs) gs
  pub below : length fs < heads
  pub few : length nodes < 2 ^ 32

module _ {S N : Type 0} (reads : S → N → S → N → ℕ → Reading → Type 0)
    (ends stops : S → N → S → N → ℕ → Type 0) (s0 : S) (n0 : N) (s : S) (n : N) (s' : S) (n' : N)
    (heads free : ℕ) (vs : List Level) (fs : List code.Frame) (skips : List (Option ℕ))
    (f : code.Frame) (nodes : List ReadNode) (gs : List Group)
    (b : Before (reads s0 n0 s n heads) heads free vs fs skips f nodes gs) where
  pub stopped_read : StopsNext reads stops s n s' n' vs fs f → stops s0 n0 s' n' heads
  stopped_read h = h s0 n0 heads nodes (pending_of vs gs) b.below b.read

  module _ (ws : List Level) (fs' : List code.Frame) (o : Option (ReadNode × Option Group))
      (h : IsReadNext reads ends s n s' n' vs ws fs f fs' o) where
    pub ended_read : o ≡ None → ends s0 n0 s' n' heads
    ended_read e = (subst (IsReadNext reads ends s n s' n' vs ws fs f fs') e h) s0 n0 heads nodes
        (pending_of vs gs) b.below b.read

    module _ (r : ReadNode × Option Group) (e : o ≡ Some r) where
      next_read : reads s0 n0 s' n' heads (so_far (frames_of ws fs')
          (subterms_in ws r.1 ++ pending_of vs gs) (nodes ++ r.0 ∷ []))
      next_read = (subst (IsReadNext reads ends s n s' n' vs ws fs f fs') e h) s0 n0 heads nodes
          (pending_of vs gs) b.below b.read

      pub read_stops : ((s : S) (n : N) (s' : S) (n' : N) (heads : ℕ) (r : Reading) →
          reads s n s' n' heads r → stops s n s' n' heads) → stops s0 n0 s' n' heads
      read_stops law = law s0 n0 s' n' heads _ next_read

      pub after_read : (skips' : List (Option ℕ)) (nodes' : List ReadNode) (gs' : List Group) →
          Extends vs ws → IsReader free ws fs' skips' → AreHeldIfSome ws o →
          ArePlacedIfSome free (length fs') o → length fs' ≡ length fs + 1 →
          nodes' ≡ nodes ++ r.0 ∷ [] → gs' ≡ gs ++ option_to_list r.1 →
          After (reads s0 n0 s' n' heads) free ws fs' skips' nodes' gs'
      after_read skips' nodes' gs' x l k p z d q = record {
        read =
            let y : pending_of ws gs' ≡ subterms_in ws r.1 ++ pending_of vs gs = ap
            (pending_of ws) q ∙ pending_add ws gs r.1
            ∙ ap (λ ss. subterms_in ws r.1 ++ ss) (pending_more vs ws gs x b.held) in
            subst (λ (ns : List ReadNode). reads s0 n0 s' n' heads
            (so_far (frames_of ws fs') (pending_of ws gs') ns)) (sym d)
            (subst (λ (ss : List Subterm). reads s0 n0 s' n' heads
            (so_far (frames_of ws fs') ss (nodes ++ r.0 ∷ []))) (sym y) next_read);
        reader = l;
        held = subst (λ (gs : List Group). AreHeldGroups ws gs) (sym q)
            (held_add ws gs r.1 (groups_more vs ws gs x b.held) (subst (AreHeldIfSome ws) e k));
        placed = subst (λ (gs : List Group). ArePlacedGroups free (length fs') gs) (sym q)
            (placed_add free (length fs') gs r.1
            (placed_more free (length fs) (length fs') gs (omega arith) b.placed)
            (subst (ArePlacedIfSome free (length fs')) e p));
      }

module _ (P : Reading → Type 0) (heads free : ℕ) (vs : List Level) (fs : List code.Frame)
    (skips : List (Option ℕ)) (nodes : List ReadNode) (gs : List Group) (a : After P free vs fs skips nodes gs) where
  pub before_next : (ws : List Level) (f : code.Frame) (hs : List Group) → Extends vs ws →
      IsNext vs ws gs hs f → length fs < heads → length nodes < 2 ^ 32 → Before P heads free ws fs skips f nodes hs
  before_next ws f hs x n b w = record {
    read = subst (λ (F : List Frame). P (so_far F (subterm_of ws f ∷ pending_of ws hs) nodes))
        (sym (frames_more vs ws fs x a.reader.list.held))
        (subst (λ (ss : List Subterm). P (so_far (frames_of vs fs) ss nodes)) n.first a.read);
    reader = record {
      list = list_more free vs ws fs x a.reader.list;
      skipped = a.reader.skipped;
      each = a.reader.each;
    };
    frame = (n.placed free (length fs) a.placed).1;
    held = n.held;
    placed = (n.placed free (length fs) a.placed).0;
    below = b;
    few = w;
  }

  pub at_end : pending_of vs gs ≡ [] → (r : Reading) × P r × IsOver heads r nodes
  at_end e = (
    so_far (frames_of vs fs) (pending_of vs gs) nodes,
    a.read,
    record {
      over = inl e;
      all = sym (append-nil nodes) ∙ ap (λ (ss : List Subterm). nodes ++ map (λ (s : Subterm). node.Cut) ss) (sym e);
    },
  )

  pub at_cut : (nodes' : List ReadNode) → heads ≤ length fs → nodes' ≡ nodes ++ cuts_of vs gs →
      (r : Reading) × P r × IsOver heads r nodes'
  at_cut nodes' b e = (
    so_far (frames_of vs fs) (pending_of vs gs) nodes,
    a.read,
    record {
      over = inr (let c = count_frames vs fs in omega arith);
      all = e;
    },
  )

-- before the root's frame is read
pub first_before : (P : Reading → Type 0) (heads free : ℕ) (vs : List Level) (fs : List code.Frame)
    (skips : List (Option ℕ)) (f : code.Frame) (nodes : List ReadNode) (gs : List Group) → P the_start →
    1 ≤ heads → 0 < free → fs ≡ [] → skips ≡ [] →
    f ≡ record { port = 0; levels = []; parent = None; lams = 0 } → nodes ≡ [] → gs ≡ [] →
    Before P heads free vs fs skips f nodes gs
first_before P heads free vs fs skips f nodes gs p h r efs es ef en eg =
    subst (λ (fs : List code.Frame). Before P heads free vs fs skips f nodes gs) (sym efs)
    (subst (λ (skips : List (Option ℕ)). Before P heads free vs [] skips f nodes gs) (sym es)
    (subst (λ (nodes : List ReadNode). Before P heads free vs [] [] f nodes gs) (sym en)
    (subst (λ (gs : List Group). Before P heads free vs [] [] f [] gs) (sym eg)
    (subst (λ (f : code.Frame). Before P heads free vs [] [] f [] []) (sym ef) base))))
  where
    base : Before P heads free vs [] [] (record { port = 0; levels = []; parent = None; lams = 0 }) [] []
    base = record {
      read = p;
      reader = record {
        list = record { parents = λ i p e. absurd (cc); held = tt; ports = tt };
        skipped = no_skips [] [] refl;
        each = refl;
      };
      frame = record { held = tt; port = r; parent = λ p e. absurd (cc); fresh = refl };
      held = tt;
      placed = tt;
      below = omega arith;
      few = omega arith;
    }

-- cutting what is left
cut_arguments : (i q : ℕ) (ls : List Level) (j k : ℕ) →
    map (λ (s : Subterm). node.Cut) (arguments i q ls j k) ≡ replicate k node.Cut
cut_arguments i q ls j zero = refl
cut_arguments i q ls j (suc k) = ap (λ r. node.Cut ∷ r) (cut_arguments i q ls (suc j) k)

pub cuts_pop : (vs : List Level) (gs : List Group) (g : Group) →
    cuts_of vs (gs ++ g ∷ []) ≡ replicate (g.args - g.done) node.Cut ++ cuts_of vs gs
cuts_pop vs gs g =
    ap (map (λ (s : Subterm). node.Cut)) (pending_push vs gs g)
    ∙ map-append (λ (s : Subterm). node.Cut) (subterms_of vs g) (pending_of vs gs)
    ∙ ap (λ r. r ++ cuts_of vs gs) (cut_arguments g.parent g.port (map (value vs) g.at) g.done (g.args - g.done))

pub cut_on : (vs : List Level) (start nodes nodes' : List ReadNode) (gs gs' hs : List Group)
    (g : Group) → gs' ≡ hs ++ g ∷ [] → nodes' ≡ nodes ++ replicate (g.args - g.done) node.Cut →
    nodes ++ cuts_of vs gs' ≡ start ++ cuts_of vs gs →
    nodes' ++ cuts_of vs hs ≡ start ++ cuts_of vs gs
cut_on vs start nodes nodes' gs gs' hs g e z i =
    ap (λ (ms : List ReadNode). ms ++ cuts_of vs hs) z
    ∙ append_assoc nodes (replicate (g.args - g.done) node.Cut) (cuts_of vs hs)
    ∙ ap (λ (ms : List ReadNode). nodes ++ ms) (sym (cuts_pop vs hs g) ∙ ap (cuts_of vs) (sym e)) ∙ i
