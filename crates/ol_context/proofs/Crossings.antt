-- Crossings of nodes on lists of numbers.
use Rattle.std.proofs.Common.{◌≡◌, ℕ, suc, ◌+◌, ◌-◌, ◌<◌, ◌≤◌, List, Option, Some, None}
use Rattle.std.proofs.Common.{MatchOption, ◌↔◌, sym, ap, ◌∙◌, subst, arith}
use Rattle.ol_net.specs.declared.parts.Kind.{Kind}
use Rattle.ol_net.specs.declared.parts.Kind.TheVariants as kind
use Rattle.ol_net.specs.Parts.{arity}
use Rattle.ol_net.specs.declared.parts.NodeId.{NodeId}
use Rattle.ol_net.specs.declared.parts.Port.{Port}
use Rattle.ol_net.specs.declared.parts.Port.TheVariants.{Of}
use Rattle.ol_net.specs.Graph.{Graph, kind_at}
use Rattle.ol_net.specs.Nets.{NamedNet, NamedPort, slot, HasNode, IsPort}
use Rattle.ol_net.specs.Numbered.{numbered_port, net_of}
use Rattle.ol_net.proofs.Numbered.{has_node}
use Rattle.ol_context.specs.Contexts.{Level, empty, Context, cons, at_level, mark, packed, up}
use Rattle.ol_context.specs.Paths.{Crosses, inward, outward, Through, through, IsBarred}
use Rattle.ol_context.specs.Shapes.{context_of}
use Rattle.ol_context.specs.Crossed.{IsNodePort}
use Rattle.ol_context.specs.Crossings.{Becomes, ComesFrom, NoneInto, NoCrossing, IsCrossed, HasFallen}
use Rattle.ol_context.specs.declared.answers.Cross.{Cross}
use Rattle.ol_context.specs.declared.answers.Cross.TheVariants.{Undefined}

module _ (vs : List Level) (ns ms : List ℕ) (i : ℕ) where
  pub fallen_lam : (r : Option ℕ) → MatchOption r ((ms ≡ ns) × NoneInto vs ns i mark)
      (λ s. (s < 2) × ComesFrom vs ns ms (at_level i (mark s))) → HasFallen kind.Lam i vs ns ms r
  fallen_lam None h = (h.0, λ s d b e. h.1 s d e)
  fallen_lam (Some s) h = h

  pub fallen_app : (r : Option ℕ) → MatchOption r ((ms ≡ ns) × NoneInto vs ns i mark)
      (λ s. (s < 2) × ComesFrom vs ns ms (at_level i (mark s))) → HasFallen kind.App i vs ns ms r
  fallen_app None h = (h.0, λ s d b e. h.1 s d e)
  fallen_app (Some s) h = h

  pub fallen_fan : (r : Option ℕ) → MatchOption r ((ms ≡ ns) × NoneInto vs ns i mark)
      (λ s. (s < 2) × ComesFrom vs ns ms (at_level i (mark s))) → HasFallen kind.Fan i vs ns ms r
  fallen_fan None h = (h.0, λ s d b e. h.1 s d e)
  fallen_fan (Some s) h = h

  pub fallen_croissant : (r : Option ℕ) →
      MatchOption r ((ms ≡ ns) × NoneInto vs ns i (λ s. cons empty))
      (λ s. (s ≡ 0) × ComesFrom vs ns ms (at_level i (cons empty))) → HasFallen kind.Croissant i vs ns ms r
  fallen_croissant None h = (h.0, λ s d b e. h.1 s d e)
  fallen_croissant (Some s) h = let e = h.0 in (omega arith, h.1)

  pub fallen_bracket : (r : Option ℕ) →
      MatchOption r ((ms ≡ ns) × NoneInto vs ns i (λ s. packed))
      (λ s. (s ≡ 0) × ComesFrom vs ns ms (at_level i packed)) → HasFallen kind.Bracket i vs ns ms r
  fallen_bracket None h = (h.0, λ s d b e. h.1 s d e)
  fallen_bracket (Some s) h = let e = h.0 in (omega arith, h.1)

pub no_crossing : (k : Kind) (i : ℕ) (c : Context) →
    ((s : ℕ) (d : Context) → s < arity k → up k i s d ≡ c → ⊥) → NoCrossing k i 0 c
no_crossing k i c h t d (outward {s = s} b e) = h s d b e

pub crossed_none : (vs : List Level) (k : Kind) (i s : ℕ) (ns ms : List ℕ) → s ≡ 0 →
    HasFallen k i vs ns ms None → IsCrossed k i s vs vs ns ms None
crossed_none vs k i s ns ms z h = (
  subst (λ s. NoCrossing k i s (context_of vs ns)) (sym z)
      (no_crossing k i (context_of vs ns) h.1),
  h.0,
)

pub crossed_some : (vs : List Level) (k : Kind) (i s t : ℕ) (ns ms : List ℕ) → s ≡ 0 →
    HasFallen k i vs ns ms (Some t) → IsCrossed k i s vs vs ns ms (Some (t + 1))
crossed_some vs k i s t ns ms z h =
    subst (λ s. Crosses k i s (context_of vs ns) (t + 1) (context_of vs ms)) (sym z)
    (subst (λ t. Crosses k i 0 (context_of vs ns) t (context_of vs ms)) (omega arith) (outward h.0 (h.1.is)))

pub crossed_up : (old new : List Level) (k : Kind) (i s : ℕ) (ns ms : List ℕ) → (s ≡ 0 → ⊥) →
    s ≤ arity k → Becomes old new ns ms (up k i (s - 1)) → IsCrossed k i s old new ns ms (Some 0)
crossed_up old new k i s ns ms n b h =
    let e : suc (s - 1) ≡ s = omega arith in
    subst (λ s. Crosses k i s (context_of old ns) 0 (context_of new ms)) e (inward (omega arith) (sym h.is))

-- a port of a node of a net, whose kind is known
pub node_port : (g : Graph) (p : Port) (n : NodeId) (s : ℕ) → p ≡ Of n s → IsNodePort g p →
    IsPort (net_of g) (slot n.0 s)
node_port g p n s e h = subst (IsNodePort g) e h

pub has_kind : (g : Graph) (x s : ℕ) → IsPort (net_of g) (slot x s) → kind_at g.nodes x ≡ None → ⊥
has_kind g x s p e = absurd (let bad : ◌≡◌ {A = Option (Kind × ℕ)} None (Some (p.0, p.1)) = sym e
    ∙ (has_node g x p.0 p.1).0 p.2 in cc)

module _ (g : Graph) (p : Port) (n : NodeId) (s : ℕ) (at : p ≡ Of n s) (k : Kind) (i : ℕ)
    (h : kind_at g.nodes n.0 ≡ Some (k, i)) where
  kind_one : (l : Kind) (j : ℕ) → HasNode (net_of g) n.0 l j → (l ≡ k) × (j ≡ i)
  kind_one l j m =
      let e : ◌≡◌ {A = Option (Kind × ℕ)} (Some (l, j)) (Some (k, i)) = sym ((has_node g n.0 l j).0 m) ∙ h in
      let pair : ◌≡◌ {A = Kind × ℕ} (l, j) (k, i) = cc in
      (ap (λ (t : Kind × ℕ). t.0) pair, ap (λ (t : Kind × ℕ). t.1) pair)

  pub slot_within : IsNodePort g p → s ≤ arity k
  slot_within h = let w = node_port g p n s at h in subst (λ l. s ≤ arity l) (kind_one w.0 w.1 w.2).0 w.3

  pub goes_through : (t : ℕ) (c d : Context) → Crosses k i s c t d →
      Through (net_of g) (numbered_port p) c (slot n.0 t) d
  goes_through t c d y = subst (λ p. Through (net_of g) (numbered_port p) c (slot n.0 t) d) (sym at)
      (through ((has_node g n.0 k i).1 h) y)

  barred : (c : Context) → NoCrossing k i s c → IsBarred (net_of g) (slot n.0 s) c
  barred c none q d (through {k = l} {i = j} {t = t} m y) =
      let o = kind_one l j m in
      none t d (subst (λ i. Crosses k i s c t d) o.1 (subst (λ k. Crosses k j s c t d) o.0 y))

  pub is_barred : (c : Context) → NoCrossing k i s c → IsBarred (net_of g) (numbered_port p) c
  is_barred c none = subst (λ p. IsBarred (net_of g) (numbered_port p) c) (sym at) (barred c none)

pub not_barred : (N : NamedNet ℕ) (p q : NamedPort ℕ) (c d : Context) (r : Cross) →
    Through N p c q d → (r ≡ Undefined → ⊥) → (r ≡ Undefined) ↔ IsBarred N p c
not_barred N p q c d r y apart = (λ e. absurd (apart e), λ b. absurd (b q d y))
