-- The lines of walks: those of one question, and those of a frame.
use Rattle.std.specs.Prelude.{◌≡◌, ◌≢◌, ℕ, suc, ◌<◌, ◌≤◌, List, ◌++◌, Option, None, Some}
use Rattle.ol_net.specs.declared.parts.Kind.{Kind}
use Rattle.ol_net.specs.Nets.{NamedNet, NamedPort, free, slot, HasNode, Linked}
use Rattle.ol_context.specs.Contexts.{Level, Context}
use Rattle.ol_context.specs.Asked.{asked}
use Rattle.ol_context.specs.Paths.{Crosses, IsBarred}
use Rattle.ol_context.specs.Short.{live}
use Rattle.ol_decoding.specs.declared.trailing.Ending.{Ending}
use Rattle.ol_decoding.specs.declared.trailing.Ending.TheVariants.{Gone, Barred, More}
use Rattle.ol_decoding.specs.Lines.{IsWritten, crossing_line, barred_line, gone_line, more_line, question_line}

-- The lines of the walk that leaves by port p with context c, one for each crossing that is tried,
-- of which there are `left` at most; how it ends, and how many lines are left behind it.
pub data IsTrail (N : NamedNet ℕ) : NamedPort ℕ → Context → ℕ → List ℕ → Ending → ℕ → Type 0 where
  -- the link leads to a free port
  gone : {p : NamedPort ℕ} {c : Context} {left : ℕ} (q : ℕ) → Linked N p (free q) →
      IsTrail N p c left (gone_line q) Gone left
  -- it leads to a node through which no crossing is defined
  barred : {p : NamedPort ℕ} {c : Context} {left : ℕ} (x s i : ℕ) (k : Kind) → Linked N p (slot x s) →
      HasNode N x k i → IsBarred N (slot x s) c →
      IsTrail N p c (suc left) (barred_line x s k i) Barred left
  -- no line is left
  more : {p : NamedPort ℕ} {c : Context} (x s : ℕ) → Linked N p (slot x s) →
      IsTrail N p c 0 more_line More 0
  -- it goes through the node, and on
  through : {p : NamedPort ℕ} {c d : Context} {left last : ℕ} {e : Ending} (x s t i : ℕ) (k : Kind)
      (context rest : List ℕ) → Linked N p (slot x s) → HasNode N x k i → Crosses k i s c t d →
      IsWritten d context → IsTrail N (slot x t) d left rest e last →
      IsTrail N p c (suc left) (crossing_line x s k i t context ++ rest) e last

-- the lines of the question for n abstractions to a frame of this port and these levels
pub record IsFrameQuestion (N : NamedNet ℕ) (port : ℕ) (ls : List Level) (n left : ℕ) (text : List ℕ) (e : Ending)
    (last : ℕ) : Type 0 where
  pub context : List ℕ
  pub written : IsWritten (asked ls n) context
  pub trail : List ℕ
  pub walk : IsTrail N (free port) (asked ls n) left trail e last
  pub text_is : text ≡ question_line n port context ++ trail

-- The lines of the questions for n abstractions, for one more, and so on, up to the first whose walk
-- is defined, or to that for as many as there are nodes.
pub data AreQuestions (N : NamedNet ℕ) (port : ℕ) (ls : List Level) : ℕ → ℕ → List ℕ → Type 0 where
  answered : {n left last : ℕ} {text : List ℕ} {e : Ending} → IsFrameQuestion N port ls n left text e last →
      e ≢ Barred → AreQuestions N port ls n left text
  lost : {n left last : ℕ} {text : List ℕ} → IsFrameQuestion N port ls n left text Barred last → live N ≤ n →
      AreQuestions N port ls n left text
  next : {n left last : ℕ} {text rest : List ℕ} → IsFrameQuestion N port ls n left text Barred last → n < live N →
      AreQuestions N port ls (suc n) last rest → AreQuestions N port ls n left (text ++ rest)

-- the lines of the one question that is chosen, or of all
abbrev pub AreLinesOf : NamedNet ℕ → ℕ → List Level → Option ℕ → ℕ → List ℕ → Type 0
AreLinesOf N port ls None lines text = AreQuestions N port ls 0 lines text
AreLinesOf N port ls (Some n) lines text = (e : Ending) × (last : ℕ) × IsFrameQuestion N port ls n lines text e last
