-- What one walk for all numbers of abstractions says of a frame's head.
use Rattle.std.proofs.Common.{◌≡◌, ℕ, suc, ◌<◌, ◌≤◌, List, refl, sym, subst, arith}
use Rattle.ol_net.specs.Nets.{NamedNet, free, IsNet}
use Rattle.ol_context.specs.Contexts.{Level}
use Rattle.ol_context.specs.Shapes.{context_of}
use Rattle.ol_context.specs.OpenWalkAnswers.{BreaksOff, AllBelowBreakOff, OpenExitsExactly}
use Rattle.ol_context.specs.OpenWalkAnswers.{OpenStopsExactly, OpenStandsExactly}
use Rattle.ol_context.specs.declared.answers.OpenWalk.{OpenWalk}
use Rattle.ol_context.specs.declared.answers.OpenWalk.TheVariants as walk
use Rattle.ol_context.proofs.Exits.{no_stop, no_stand_past}
use Rattle.ol_readback.specs.Frames.{Frame, frame_at, asked}
use Rattle.ol_readback.specs.Heads.{Answer, budget, no_head, IsMatched, IsHeadWithin, leaves}
use Rattle.ol_readback.specs.Heads.{spends, never, live, Fails, FailsBelow}

-- what the walk says of the frame
pub record Tried (N : NamedNet ℕ) (f : Frame) (e : ℕ) (vs : List Level) (w : OpenWalk) : Type 0 where
  pub exits : OpenExitsExactly N f.port f.levels e vs w
  pub stops : OpenStopsExactly N f.port f.levels e w
  pub stands : OpenStandsExactly N f.port f.levels e w

pub walk_tried : (N : NamedNet ℕ) (f : Frame) (p : ℕ) (ls : List Level) (e : ℕ) (vs : List Level)
    (r w : OpenWalk) → OpenExitsExactly N p ls e vs r → OpenStopsExactly N p ls e r →
    OpenStandsExactly N p ls e r → r ≡ w → f.port ≡ p → f.levels ≡ ls → Tried N f e vs w
walk_tried N f p ls e vs r w x s t q i j = record {
  exits = subst (λ p. OpenExitsExactly N p f.levels e vs w) (sym i)
      (subst (λ ls. OpenExitsExactly N p ls e vs w) (sym j) (subst (OpenExitsExactly N p ls e vs) q x));
  stops = subst (λ p. OpenStopsExactly N p f.levels e w) (sym i)
      (subst (λ ls. OpenStopsExactly N p ls e w) (sym j) (subst (OpenStopsExactly N p ls e) q s));
  stands = subst (λ p. OpenStandsExactly N p f.levels e w) (sym i)
      (subst (λ ls. OpenStandsExactly N p ls e w) (sym j) (subst (OpenStandsExactly N p ls e) q t));
}

module _ (N : NamedNet ℕ) (is_net : IsNet N) (frames : List Frame) (i e : ℕ) where
  -- a walk that breaks off fails
  fails : (m j : ℕ) → BreaksOff N (frame_at frames i).port (frame_at frames i).levels e m j →
      Fails N (frame_at frames i).port (asked (frame_at frames i).levels m) e
  fails m j s = record {
    stays = λ q X x. no_stop N is_net (free (frame_at frames i).port)
        (asked (frame_at frames i).levels m) q X x.1.path e j s;
    breaks_off = λ t. no_stand_past N is_net (free (frame_at frames i).port)
        (asked (frame_at frames i).levels m) e j s t;
  }

  fail_below : (n k : ℕ) → k ≤ n → AllBelowBreakOff N (frame_at frames i).port
      (frame_at frames i).levels e n → FailsBelow N (frame_at frames i) e k
  fail_below n k b h m c = let t = h m (omega arith) in fails m t.0 t.1

  lost_past : (n top : ℕ) → top ≡ live N → top < n →
      AllBelowBreakOff N (frame_at frames i).port (frame_at frames i).levels e n → IsHeadWithin N frames i e no_head
  lost_past n top t b h = never (fail_below n (suc (live N)) (omega arith) h)

  module _ (vs : List Level) where
    pub exit_left : (n q top k : ℕ) (ms : List ℕ) (a : Answer) → n ≤ top → top ≡ live N →
        Tried N (frame_at frames i) e vs (walk.Exit n q ms k) →
        IsMatched frames i n q (context_of vs ms) a → IsHeadWithin N frames i e a
    exit_left n q top k ms a b t w m =
        let x = (w.exits n q (context_of vs ms) k).0 (refl, refl, refl, refl) in
        leaves (omega arith) (fail_below n n (omega arith) x.1) (k, x.0) m

    pub exit_lost : (n q top k : ℕ) (ms : List ℕ) → top < n → top ≡ live N →
        Tried N (frame_at frames i) e vs (walk.Exit n q ms k) → IsHeadWithin N frames i e no_head
    exit_lost n q top k ms b t w = let x = (w.exits n q (context_of vs ms) k).0
        (refl, refl, refl, refl) in lost_past n top t b x.1

    pub budget_spent : (n top : ℕ) → n ≤ top → top ≡ live N →
        Tried N (frame_at frames i) e vs (walk.Budget n) → IsHeadWithin N frames i e budget
    budget_spent n top b t w = let x = (w.stands n).0 refl in
        spends {n = n} (omega arith) (fail_below n n (omega arith) x.1) x.0

    pub budget_lost : (n top : ℕ) → top < n → top ≡ live N →
        Tried N (frame_at frames i) e vs (walk.Budget n) → IsHeadWithin N frames i e no_head
    budget_lost n top b t w = let x = (w.stands n).0 refl in lost_past n top t b x.1

    pub all_lost : (n k : ℕ) → Tried N (frame_at frames i) e vs (walk.Undefined n k) → IsHeadWithin N frames i e no_head
    all_lost n k w = let x = (w.stops n k).0 refl in never (λ m c. let t = x.all m in fails m t.0 t.2)
