-- Walks, line by line.
use Rattle.std.proofs.Common.{◌≡◌, ℕ, suc, ◌-◌, ◌<◌, List, ◌++◌, refl, sym, ap, ◌∙◌, subst, arith, append_assoc}
use Rattle.std.specs.Prelude.{codes, ◌≢◌}
use Rattle.ol_net.specs.declared.parts.Kind.{Kind}
use Rattle.ol_net.specs.declared.parts.Port.{Port}
use Rattle.ol_net.specs.declared.parts.Port.TheVariants.{Free, Of}
use Rattle.ol_net.specs.PartTexts.{port_text}
use Rattle.ol_net.specs.Graph.{Graph}
use Rattle.ol_net.specs.Nets.{NamedNet, NamedPort, free, slot, IsNet, IsPort, HasNode, Linked}
use Rattle.ol_net.specs.Numbered.{net_of, numbered_port}
use Rattle.ol_context.specs.Contexts.{Level, Context}
use Rattle.ol_context.specs.Paths.{Through, IsBarred, Crosses}
use Rattle.ol_context.specs.Paths as paths
use Rattle.ol_context.specs.Shapes.{Extends, AreHeld, context_of}
use Rattle.ol_context.specs.Crossed.{IsNodePort}
use Rattle.ol_context.proofs.Shapes.{extends_refl, extends_trans}
use Rattle.ol_context.proofs.Walked.{through_port}
use Rattle.ol_decoding.specs.declared.trailing.Ending.{Ending}
use Rattle.ol_decoding.specs.declared.trailing.Ending.TheVariants.{Gone, Barred, More}
use Rattle.ol_decoding.specs.Lines.{IsWritten, entered_text, crossing_line, barred_line, gone_line, more_line}
use Rattle.ol_decoding.specs.Trails as trails
use Rattle.ol_decoding.specs.AddedLines.{AddsContext, AddsCrossing, AddsBarred, AddsTrail}

-- the pieces of a line, one after another
pub five_pieces : (old a b c d e v w x y z : List ℕ) → a ≡ old ++ v → b ≡ a ++ w → c ≡ b ++ x → d ≡ c ++ y →
    e ≡ d ++ z → e ≡ old ++ (v ++ (w ++ (x ++ (y ++ z))))
five_pieces old a b c d e v w x y z i j k l m = rw (m, l, k, j, i) (simp append_assoc)

pub three_pieces : (old a b c v w x : List ℕ) → a ≡ old ++ v → b ≡ a ++ w → c ≡ b ++ x → c ≡ old ++ (v ++ (w ++ x))
three_pieces old a b c v w x i j k = rw (k, j, i) (simp append_assoc)

-- the text of a port
abbrev pub named_text : NamedPort ℕ → List ℕ
named_text (free k) = port_text (Free k)
named_text (slot x s) = port_text (Of (record { 0 = x }) s)

named_is : (p : Port) → port_text p ≡ named_text (numbered_port p)
named_is (Free k) = refl
named_is (Of n s) = refl

module _ (N : NamedNet ℕ) (net : IsNet N) where
  -- a crossing, and then the rest of the walk
  step : (p q u : NamedPort ℕ) (c d : Context) (left last : ℕ) (text text' new out : List ℕ) (e : Ending) →
      Linked N u p → Through N p c q d → out ≡ named_text q → AddsCrossing N p out d text text' →
      AddsTrail N q d left text' new e last → AddsTrail N u c (suc left) text new e last
  step (free k) q u c d left last text text' new out e l y o h t = absurd h
  step (slot x s) (free k) u c d left last text text' new out e l y o h t = elim y [ ]
  step (slot x s) (slot z r) u c d left last text text' new out e l (paths.through {k = k} {i = i} n y) o
      (k', i', w, n', W, t) (rest, T, t') =
      let same = net.one_node x k k' i i' n n' in (
        crossing_line x s k' i' r w ++ rest,
        trails.IsTrail.through x s r i' k' w rest l n' (subst (λ k. Crosses k i' s c r d) same.0
            (subst (λ i. Crosses k i s c r d) same.1 y)) W T,
        t' ∙ ap (λ (a : List ℕ). a ++ rest) (t ∙ ap (λ (a : List ℕ). text
            ++ (entered_text x s k' i' ++ (a ++ (codes " " ++ (w ++ codes "\n"))))) o)
            ∙ append_assoc text (crossing_line x s k' i' r w) rest,
      )

  stop : (p u : NamedPort ℕ) (c : Context) (left : ℕ) (text new : List ℕ) → Linked N u p → IsBarred N p c →
      AddsBarred N p text new → AddsTrail N u c (suc left) text new Barred left
  stop (free k) u c left text new l b h = absurd h
  stop (slot x s) u c left text new l b (k, i, n, t) = (barred_line x s k i, trails.IsTrail.barred x s i k l n b, t)

-- where a walk has come, and what its lines are, whatever is added behind them
pub record Trailing (g : Graph) (from : ℕ) (c : Context) (lines : ℕ) (first : List Level) (old : List ℕ)
    (vs : List Level) (ns : List ℕ) (at : Port) (left : ℕ) (text : List ℕ) : Type 0 where
  pub extends : Extends first vs
  pub held : AreHeld vs ns
  pub port : IsPort (net_of g) (numbered_port at)
  pub on : (new : List ℕ) (e : Ending) (last : ℕ) →
      AddsTrail (net_of g) (numbered_port at) (context_of vs ns) left text new e last →
      AddsTrail (net_of g) (free from) c lines old new e last

pub begins : (g : Graph) (from lines : ℕ) (vs : List Level) (ns : List ℕ) (old : List ℕ) → from < g.free → AreHeld vs ns →
    Trailing g from (context_of vs ns) lines vs old vs ns (Free from) lines old
begins g from lines vs ns old b h = record { extends = extends_refl vs; held = h; port = b; on = λ new e last t. t }

module _ (g : Graph) (net : IsNet (net_of g)) (from : ℕ) (c : Context) (lines : ℕ) (first : List Level) (old : List ℕ)
    (vs : List Level) (ns : List ℕ) (at : Port) (left : ℕ) (text : List ℕ)
    (w : Trailing g from c lines first old vs ns at left text) (p : Port)
    (l : Linked (net_of g) (numbered_port at) (numbered_port p)) where
  pub leaves : (q : ℕ) (new : List ℕ) → p ≡ Free q → new ≡ text ++ gone_line q →
      AddsTrail (net_of g) (free from) c lines old new Gone left
  leaves q new e t = w.on new Gone left (
    gone_line q,
    trails.IsTrail.gone q (subst (λ p. Linked (net_of g) (numbered_port at) (numbered_port p)) e l),
    t,
  )

  no_more : (p : Port) → Linked (net_of g) (numbered_port at) (numbered_port p) → IsNodePort g p →
      trails.IsTrail (net_of g) (numbered_port at) (context_of vs ns) 0 more_line More 0
  no_more (Free k) l h = absurd h
  no_more (Of n s) l h = trails.IsTrail.more n.0 s l

  pub used_up : IsNodePort g p → left ≡ 0 → (new : List ℕ) → new ≡ text ++ more_line →
      AddsTrail (net_of g) (free from) c lines old new More 0
  used_up h z new t = w.on new More 0 (
    more_line,
    subst (λ n. trails.IsTrail (net_of g) (numbered_port at) (context_of vs ns) n more_line More 0) (sym z)
        (no_more p l h),
    t,
  )

  one_less : left ≢ 0 → suc (left - 1) ≡ left
  one_less z = omega (arith, z)

  pub stops : left ≢ 0 → IsBarred (net_of g) (numbered_port p) (context_of vs ns) → (new : List ℕ) →
      AddsBarred (net_of g) (numbered_port p) text new →
      AddsTrail (net_of g) (free from) c lines old new Barred (left - 1)
  stops z b new h = w.on new Barred (left - 1)
      (subst (λ n. AddsTrail (net_of g) (numbered_port at) (context_of vs ns) n text new Barred (left - 1)) (one_less z)
      (stop (net_of g) net (numbered_port p) (numbered_port at) (context_of vs ns) (left - 1) text new l b h))

  pub goes_on : left ≢ 0 → (ws : List Level) (ms : List ℕ) (out : Port) (text' : List ℕ) → Extends vs ws → AreHeld ws ms →
      Through (net_of g) (numbered_port p) (context_of vs ns) (numbered_port out) (context_of ws ms) →
      AddsCrossing (net_of g) (numbered_port p) (port_text out) (context_of ws ms) text text' →
      Trailing g from c lines first old ws ms out (left - 1) text'
  goes_on z ws ms out text' x h y a = record {
    extends = extends_trans first vs ws w.extends x;
    held = h;
    port = through_port (net_of g) (numbered_port p) (numbered_port out) (context_of vs ns) (context_of ws ms) y;
    on = λ new e last t. w.on new e last
        (subst (λ n. AddsTrail (net_of g) (numbered_port at) (context_of vs ns) n text new e last) (one_less z)
        (step (net_of g) net (numbered_port p) (numbered_port out) (numbered_port at) (context_of vs ns)
        (context_of ws ms) (left - 1) last text text' new (port_text out) e l y (named_is out) a t));
  }
