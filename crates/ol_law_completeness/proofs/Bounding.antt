-- Walks over the net of a strongly normalising term are bounded.
-- Used in Terms, OnlyStrong and Circling.
use Rattle.std.proofs.Common.{◌≡◌, ℕ, zero, suc, ◌+◌, ◌≤◌, Bool, Some, inl, inr, sym, subst, arith}
use Rattle.ol_context.specs.Contexts.{Context}
use Rattle.ol_context.specs.Ways.{Way}
use Rattle.ol_net.specs.declared.parts.Kind.{Kind}
use Rattle.ol_net.specs.declared.parts.Port.{Port}
use Rattle.ol_net.specs.Nets.{NamedNet, NamedPort, HasNode, Linked, IsNet}
use Rattle.ol_net.specs.Nets as nets
use Rattle.ol_net.specs.Numbered.{numbered_port}
use Rattle.ol_law_meaning.proofs.Parts.{key, IsInside, occurs_inside}
use Rattle.ol_law_meaning.proofs.States.{Before, L, before_all}
use Rattle.ol_law_meaning.proofs.Whole.{has_part, end_links, name_link}
use Rattle.ol_law_meaning.specs.Spots.{Wire, bound, name, Spot}
use Rattle.ol_rules.proofs.FreshPairs.{linked_sym}
use Rattle.ol_term.specs.Trees.{Tree}
use Rattle.ol_term.specs.declared.translations.Translation.{Translation}
use Rattle.ol_translate.proofs.Whole.{translation_net}
use Rattle.ol_translate.specs.Names.{HasNames}
use Rattle.ol_translate.specs.Translation.{subnet_of, wire_of, nodes_of, translation_of}
use Rattle.ol_law_completeness.specs.StrongNormalisation.{StronglyNormalisingIsBounded}
use Rattle.ol_law_completeness.proofs.Crossings.{Within, and_then, sooner, loosely, by_mark, at_free, fewer}
use Rattle.ol_law_completeness.proofs.Falling.{Stand, room}
use Rattle.ol_law_completeness.proofs.Jumps.{Jump, Ends, ends, Bounded, more, reached_occurs}
use Rattle.ol_law_completeness.proofs.Nodes.{From, stands, last, begins, holds_at}
use Rattle.ol_law_completeness.proofs.Onward.{Landed, landed, Next, jumps, leaves, out, Result, onward}
use Rattle.ol_law_completeness.proofs.Rules.{walks_bounded}
use Rattle.ol_law_completeness.proofs.Strong.{strongly_normalising_by_rules}

-- crossings for so many jumps, by those for one
bound_of : ℕ → ℕ → ℕ
bound_of r zero = 0
bound_of r (suc n) = r + suc (r + bound_of r n)

module _ (τ : Translation) (t : Tree) (names : ℕ) (h : HasNames t names) where
  abbrev N : NamedNet ℕ
  N = translation_of τ t names

  net : IsNet (translation_of τ t names)
  net = translation_net τ t names h

  abbrev Nowhere : NamedPort ℕ → Context → Type 0
  Nowhere p c = ⊥

  -- the root and the wires of the names are linked to free ports
  pub root_free : {p : NamedPort ℕ} → p ≡ numbered_port (subnet_of τ t 0 0 0).root → Linked N p (nets.free 0)
  root_free e =
      subst (λ p. Linked N p (nets.free 0)) (sym e)
      (linked_sym N (nets.free 0) (numbered_port (subnet_of τ t 0 0 0).root) (end_links τ t names h).0)

  pub wire_free : (y : Wire) (w : Port) → IsInside 0 y → wire_of (key 0 y) (subnet_of τ t 0 0 0).wires ≡ Some w →
      {p : NamedPort ℕ} → p ≡ numbered_port w → (q : ℕ) × Linked N p (nets.free q)
  wire_free (bound y) w inside e g = absurd (omega (arith, inside))
  wire_free (name f) w inside e g =
      let l = name_link (L N) (0 + f) w (subnet_of τ t 0 0 0).wires e (end_links τ t names h).1 in
      (0 + f + 1, subst (λ p. Linked N p (nets.free (0 + f + 1))) (sym g) (linked_sym N (nets.free (0 + f + 1)) (numbered_port w) l))

  by_root : {p : NamedPort ℕ} {x : Context} (n : ℕ) → p ≡ numbered_port (subnet_of τ t 0 0 0).root → Within N Nowhere (suc n) p x
  by_root n e = at_free net 0 (root_free e)

  by_wire : (y : Wire) (w : Port) → IsInside 0 y → wire_of (key 0 y) (subnet_of τ t 0 0 0).wires ≡ Some w →
      {p : NamedPort ℕ} {x : Context} (n : ℕ) → p ≡ numbered_port w → Within N Nowhere (suc n) p x
  by_wire y w inside e n g = let l = wire_free y w inside e g in at_free net l.0 l.1

  -- jump by jump
  module _ (n : ℕ) (next : (e : Bool) (s : Spot) (p : NamedPort ℕ) (x : Context) → Ends τ t n e s →
      Stand N τ s t e 0 0 0 (λ c. c) p x → Within N Nowhere (bound_of (room t) n) p x) {m : ℕ} (l : m ≤ n) where
    after : (e : Bool) (s : Spot) → ((e' : Bool) (z : Spot) → Jump τ t e s e' z → Ends τ t m e' z) →
        (up : Bool) (p : NamedPort ℕ) (x : Context) → Landed N τ t e s 0 0 0 (λ c. c) up p x → Within N Nowhere (bound_of (room t) n) p x
    after e s f up p x (landed {e' = e'} {z = z} j q st) = next e' z p x (more l (f e' z j)) st

    and_on : (e : Bool) (s : Spot) → ((e' : Bool) (z : Spot) → Jump τ t e s e' z → Ends τ t m e' z) →
        (p : NamedPort ℕ) (x : Context) → Next N τ t e s 0 0 0 (λ c. c) p x →
        Within N Nowhere (suc (room t + bound_of (room t) n)) p x
    and_on e s f p x (jumps j) = by_mark (bound_of (room t) n) j (after e s f)
    and_on e s f p x (leaves {y = y} {w = w} g q r e' ep ex) =
        by_wire y w (occurs_inside t y 0 h.bound (reached_occurs r)) e' (room t + bound_of (room t) n) ep

    along : (e : Bool) (s : Spot) → ((e' : Bool) (z : Spot) → Jump τ t e s e' z → Ends τ t m e' z) →
        (p : NamedPort ℕ) (x : Context) → Stand N τ s t e 0 0 0 (λ c. c) p x → Result τ net t e s 0 0 0 (λ c. c) p x →
        Within N Nowhere (room t + suc (room t + bound_of (room t) n)) p x
    along e s f p x st (inl out) = sooner (omega arith) (by_root (bound_of (room t) n) st.0)
    along e s f p x st (inr T) = and_then (suc (room t + bound_of (room t) n)) (loosely T) (and_on e s f)

  follows : (n : ℕ) (e : Bool) (s : Spot) (p : NamedPort ℕ) (x : Context) → Ends τ t n e s →
      Stand N τ s t e 0 0 0 (λ c. c) p x → Within N Nowhere (bound_of (room t) n) p x
  unfolding bound_of
  follows zero e s p x (ends l f) st = absurd (omega (arith, l))
  follows (suc n) e s p x (ends l f) st =
      along n (follows n) (omega (arith, l)) e s f p x st
      (onward τ net t 0 0 0 (λ c. c) before_all h.bound (has_part τ t names h) s e p x st)

  -- the first stand after slot 0 of a node
  pub begins_at : (x : ℕ) (k : Kind) (i : ℕ) (c : Context) → HasNode N x k i →
      Within N (From N τ t 0 0 0 (λ c. c)) (room t) (nets.slot x 0) c
  begins_at x k i c m =
      holds_at (λ x K i. (F : Context → Context) → Before 0 F → (e : Context) → Within N (From N τ t 0 0 0 F) (room t) (nets.slot x 0) (F e))
      0 (nodes_of τ t) (begins τ net t 0 0 0 h.bound (has_part τ t names h)) x k i m (λ c. c) before_all c

  module _ (w : Bounded τ t) where
    first : (p : NamedPort ℕ) (x : Context) → From N τ t 0 0 0 (λ c. c) p x → Within N Nowhere (suc (bound_of (room t) w.number)) p x
    first p x (stands e z st) = sooner (omega arith) (follows w.number e z p x (w.all e z) st)
    first p x (last y a c v inside e ep ex) = by_wire y v inside e (bound_of (room t) w.number) ep

    from_node : (x : ℕ) (k : Kind) (i : ℕ) (c : Context) → HasNode N x k i →
        Within N Nowhere (room t + suc (bound_of (room t) w.number)) (nets.slot x 0) c
    from_node x k i c m = and_then (suc (bound_of (room t) w.number)) (begins_at x k i c m) first

    walks : (x : ℕ) (k : Kind) (i m : ℕ) (c d : Context) (q : NamedPort ℕ) → HasNode N x k i →
        Way N (nets.slot x 0) c m q d → m ≤ room t + suc (bound_of (room t) w.number)
    walks x k i m c d q hn way = fewer (from_node x k i c hn) way

pub strong_is_bounded : StronglyNormalisingIsBounded
strong_is_bounded τ t names h s =
    let w = walks_bounded τ t ((strongly_normalising_by_rules t).0 s) in
    (room t + suc (bound_of (room t) w.number), walks τ t names h w)
