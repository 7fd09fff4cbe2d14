-- What the net of a graph's tables has
use Rattle.std.proofs.Common.{◌≡◌, ◌≢◌, ℕ, ◌+◌, ◌<◌, ◌≤◌, ◌==◌, nat_lt, nat_eq, Bool, true, false}
use Rattle.std.proofs.Common.{if◌then◌else◌, List, [], ◌∷◌, length, get_or, Option, Some, None}
use Rattle.std.proofs.Common.{refl, sym, ap, ◌∙◌, inl, inr, ◌⊎◌, arith, subst, zero, suc}
use Rattle.std.specs.Prelude.{◌↔◌}
use Rattle.std.proofs.lemmas.Bool.{cases_lt, cases_order, cases_Bool, false≢true}
use Rattle.std.proofs.lemmas.Bool.Decides.{nat_tests}
use Rattle.std.proofs.lemmas.List.{get_or_default}
use Rattle.ol_law_edges.specs.Edges.{IsIn}
use Rattle.ol_net.specs.declared.parts.Kind.{Kind}
use Rattle.ol_net.specs.declared.parts.Kind.TheVariants as kind
use Rattle.ol_net.specs.declared.parts.Rule.{Rule}
use Rattle.ol_net.specs.declared.parts.Facing.TheVariants.{Active, Stuck}
use Rattle.ol_net.specs.declared.parts.Facing.TheVariants as facing
use Rattle.ol_net.specs.Rules.{met, by_index, rule_of, either, facing_of_pair}
use Rattle.ol_net.specs.Pairs.{IsActive, IsStuck}
use Rattle.ol_net.specs.declared.parts.NodeId.{NodeId}
use Rattle.ol_net.specs.declared.parts.Port.{Port}
use Rattle.ol_net.specs.declared.parts.Port.TheVariants.{Free, Of}
use Rattle.ol_net.specs.Parts.{arity}
use Rattle.ol_net.specs.Pairing.{other}
use Rattle.ol_net.specs.Graph.{Graph, IsTabled, kind_at, has_slot, has_port, place, port_at}
use Rattle.ol_net.specs.Graph.{partner_of, facing_between, facing_across, facing_at}
use Rattle.ol_net.specs.Nets.{NamedPort, free, slot, HasNode, Linked, IsPort, IsNet, SameNet, Faces}
use Rattle.ol_net.specs.Numbered.{numbered_port, nodes_from, links_from, net_of}
use Rattle.ol_net.proofs.Tables.{other-past}
use Rattle.ol_net.proofs.Places.{place-port_at, port_at-place, partner_in-some}
use Rattle.ol_net.proofs.Mutual.{partner-mutual}

-- Nodes

-- no more nodes are live than numbers were given out
pub few_live : (n : ℕ) (nodes : List (Option (Kind × ℕ))) → length (nodes_from n nodes) ≤ length nodes
few_live n [] = omega arith
few_live n (None ∷ nodes) = omega (arith, few_live (suc n) nodes)
few_live n (Some k ∷ nodes) = omega (arith, few_live (suc n) nodes)

nodes_from-in : (nodes : List (Option (Kind × ℕ))) (n x : ℕ) (k : Kind) (i : ℕ) → IsIn (x, k, i) (nodes_from n nodes) →
    (y : ℕ) × (x ≡ n + y) × (kind_at nodes y ≡ Some (k, i))
nodes_from-in [] n x k i h = absurd h
nodes_from-in (None ∷ nodes) n x k i h = let r = nodes_from-in nodes (suc n) x k i h in (suc r.0, omega arith, r.2)
nodes_from-in (Some f ∷ nodes) n x k i (inl e) =
    (0, omega (arith, ap (λ (t : ℕ × Kind × ℕ). t.0) e), ap (λ (t : ℕ × Kind × ℕ). Some (t.1, t.2)) (sym e))
nodes_from-in (Some f ∷ nodes) n x k i (inr h) = let r = nodes_from-in nodes (suc n) x k i h in
    (suc r.0, omega arith, r.2)

nodes_from-has : (nodes : List (Option (Kind × ℕ))) (n x y : ℕ) (k : Kind) (i : ℕ) → x ≡ n + y →
    kind_at nodes y ≡ Some (k, i) →
    IsIn (x, k, i) (nodes_from n nodes)
nodes_from-has [] n x y k i e h = absurd (let bad : None ≡ Some (k, i) = h in cc)
nodes_from-has (None ∷ nodes) n x zero k i e h = absurd (let bad : None ≡ Some (k, i) = h in cc)
nodes_from-has (None ∷ nodes) n x (suc y) k i e h = nodes_from-has nodes (suc n) x y k i (omega arith) h
nodes_from-has (Some f ∷ nodes) n x zero k i e h =
    let same : f ≡ (k, i) = cc in
    let number : x ≡ n = omega arith in
    inl (rw (number, same) refl)
nodes_from-has (Some f ∷ nodes) n x (suc y) k i e h = inr (nodes_from-has nodes (suc n) x y k i (omega arith) h)

-- x is a node of the net exactly where the table has a node under that number
pub has_node : (g : Graph) (x : ℕ) (k : Kind) (i : ℕ) → HasNode (net_of g) x k i ↔ (kind_at g.nodes x ≡ Some (k, i))
has_node g x k i = (
  λ h. let r = nodes_from-in g.nodes 0 x k i h in let e : x ≡ r.0 = omega arith in rw e r.2,
  λ h. nodes_from-has g.nodes 0 x x k i (omega arith) h,
)

-- equal nets have the same nodes under the same numbers
pub same_kinds : (g h : Graph) → SameNet (net_of g) (net_of h) → (n : ℕ) → kind_at g.nodes n ≡ kind_at h.nodes n
same_kinds g h same n = go (kind_at g.nodes n) (kind_at h.nodes n) refl refl
  where
    go : (o p : Option (Kind × ℕ)) → kind_at g.nodes n ≡ o → kind_at h.nodes n ≡ p →
        kind_at g.nodes n ≡ kind_at h.nodes n
    go None None e f = e ∙ sym f
    go (Some k) p e f = e ∙ sym ((has_node h n k.0 k.1).0 ((same.nodes n k.0 k.1).0 ((has_node g n k.0 k.1).1 e)))
    go None (Some k) e f = (has_node g n k.0 k.1).0 ((same.nodes n k.0 k.1).1 ((has_node h n k.0 k.1).1 f)) ∙ sym f

-- Links

record LinkAt (ports k : ℕ) (xs : List ℕ) (p q : NamedPort ℕ) : Type 0 where
  at : ℕ
  within : at < length xs
  less : k + at < get_or xs at 0
  first : p ≡ numbered_port (port_at ports (k + at))
  second : q ≡ numbered_port (port_at ports (get_or xs at 0))

LinkAt-later : (ports k x : ℕ) (xs : List ℕ) (p q : NamedPort ℕ) → LinkAt ports (suc k) xs p q →
    LinkAt ports k (x ∷ xs) p q
LinkAt-later ports k x xs p q r =
    let e : suc k + r.at ≡ k + suc r.at = omega arith in
    record {
      at = suc r.at;
      within = omega (arith, r.within);
      less = omega (arith, r.less);
      first = rw e at r.first;
      second = r.second;
    }

LinkAt-here : (ports k x : ℕ) (xs : List ℕ) (p q : NamedPort ℕ) → nat_lt k x ≡ true →
    ◌≡◌ {A = NamedPort ℕ × NamedPort ℕ} (p, q) (numbered_port (port_at ports k), numbered_port (port_at ports x)) →
    LinkAt ports k (x ∷ xs) p q
LinkAt-here ports k x xs p q t e =
    let zero_more : k + 0 ≡ k = omega arith in
    record {
      at = 0;
      within = omega arith;
      less = grind (arith, nat_tests);
      first = rw zero_more (ap (λ (w : NamedPort ℕ × NamedPort ℕ). w.0) e);
      second = ap (λ (w : NamedPort ℕ × NamedPort ℕ). w.1) e;
    }

links_from-in : (ports k : ℕ) (xs : List ℕ) (p q : NamedPort ℕ) →
    IsIn (p, q) (links_from ports k xs) → LinkAt ports k xs p q
links_from-in ports k [] p q h = absurd h
links_from-in ports k (x ∷ xs) p q h = go (nat_lt k x) refl h
    (λ l. LinkAt-later ports k x xs p q (links_from-in ports (suc k) xs p q l))
  where
    go : (b : Bool) → nat_lt k x ≡ b →
        IsIn (p, q) (if b then (
          numbered_port (port_at ports k),
          numbered_port (port_at ports x),
        ) ∷ links_from ports (suc k) xs else links_from ports (suc k) xs) →
        (IsIn (p, q) (links_from ports (suc k) xs) → LinkAt ports k (x ∷ xs) p q) → LinkAt ports k (x ∷ xs) p q
    go true t (inl e) later = LinkAt-here ports k x xs p q t e
    go true t (inr l) later = later l
    go false t l later = later l

-- an edge of a table, from its lower place
links_from-has : (ports k : ℕ) (xs : List ℕ) (y a b : ℕ) → y < length xs → a ≡ k + y → get_or xs y 0 ≡ b → a < b →
    IsIn (numbered_port (port_at ports a), numbered_port (port_at ports b)) (links_from ports k xs)
links_from-has ports k [] y a b lt ea eb less = absurd (omega arith)
links_from-has ports k (x ∷ xs) zero a b lt ea eb less =
    let t : nat_lt k x ≡ true = grind (arith, nat_tests) in
    let e : a ≡ k = omega arith in
    let e' : b ≡ x = sym eb in
    rw (t, e, e') (inl refl)
links_from-has ports k (x ∷ xs) (suc y) a b lt ea eb less =
    let ih = links_from-has ports (suc k) xs y a b (omega arith) (omega arith) eb less in
    elim (cases_Bool (nat_lt k x)) [ inl t ↦ rw t (inr ih) | inr t ↦ rw t ih ]

-- a link of the net, from its first port
pub record LinkOf (g : Graph) (p q : NamedPort ℕ) : Type 0 where
  pub from : Port
  pub to : Port
  pub first : p ≡ numbered_port from
  pub second : q ≡ numbered_port to
  pub partner : partner_of g from ≡ Some to

Linked-places : (g : Graph) (a b : ℕ) → IsTabled g.free g.nodes g.partners → other g.partners a ≡ b → a < b →
    IsIn (numbered_port (port_at g.free a), numbered_port (port_at g.free b)) (net_of g).links
Linked-places g a b t e less =
    let within : a < length g.partners = elim (cases_lt a (length g.partners)) [
      | inl lt ↦ lt
      | inr past ↦ let same = other-past g.partners a past in omega arith
    ] in
    links_from-has g.free 0 g.partners a a b within (omega arith) (get_or_default g.partners a 0 a within ∙ e) less

-- the two ports of a partnership are linked
Linked-at : (g : Graph) (a b : ℕ) → IsTabled g.free g.nodes g.partners → other g.partners a ≡ b → a ≢ b →
    Linked (net_of g) (numbered_port (port_at g.free a)) (numbered_port (port_at g.free b))
Linked-at g a b t e ne = elim (cases_lt a b) [
  | inl less ↦ inl (Linked-places g a b t e less)
  | inr le ↦ inr (Linked-places g b a t (ap (other g.partners) (sym e) ∙ t.paired a) (omega arith))
]

pub port_at-there : (g : Graph) (a : ℕ) → IsTabled g.free g.nodes g.partners →
    other g.partners a ≢ a → has_port g.free g.nodes (port_at g.free a) ≡ true
port_at-there g a t ne = let e = t.ports a in grind (arith, nat_tests)

partner_of-at : (g : Graph) (a : ℕ) → IsTabled g.free g.nodes g.partners → other g.partners a ≢ a →
    partner_of g (port_at g.free a) ≡ Some (port_at g.free (other g.partners a))
partner_of-at g a t ne =
    partner_in-some g.free g.nodes g.partners (port_at g.free a) (port_at-there g a t ne)
    ∙ ap (λ k. Some (port_at g.free (other g.partners k))) (place-port_at g.free a)

LinkOf-at : (g : Graph) (a b : ℕ) (p q : NamedPort ℕ) → IsTabled g.free g.nodes g.partners →
    other g.partners a ≡ b → a ≢ b →
    p ≡ numbered_port (port_at g.free a) → q ≡ numbered_port (port_at g.free b) → LinkOf g p q
LinkOf-at g a b p q t e ne ep eq = record {
  from = port_at g.free a;
  to = port_at g.free b;
  first = ep;
  second = eq;
  partner = partner_of-at g a t (λ same. ne (sym same ∙ e)) ∙ ap (λ k. Some (port_at g.free k)) e;
}

LinkAt-other : (g : Graph) (p q : NamedPort ℕ) → (l : LinkAt g.free 0 g.partners p q) →
    (b : ℕ) × (other g.partners l.at ≡ b) × (l.at < b) × (p ≡ numbered_port (port_at g.free l.at))
    × (q ≡ numbered_port (port_at g.free b))
LinkAt-other g p q l =
    let e : 0 + l.at ≡ l.at = omega arith in (
      get_or g.partners l.at 0,
      get_or_default g.partners l.at l.at 0 l.within,
      omega (arith, l.less),
      rw e at l.first,
      l.second,
    )

-- what is linked are partners
pub linked_back : (g : Graph) (p q : NamedPort ℕ) → IsTabled g.free g.nodes g.partners →
    Linked (net_of g) p q → LinkOf g p q
linked_back g p q t (inl h) =
    let l = links_from-in g.free 0 g.partners p q h in
    let o = LinkAt-other g p q l in
    LinkOf-at g l.at o.0 p q t o.1 (λ e. omega (arith, o.2)) o.3 o.4
linked_back g p q t (inr h) =
    let l = links_from-in g.free 0 g.partners q p h in
    let o = LinkAt-other g q p l in
    LinkOf-at g o.0 l.at p q t (ap (other g.partners) (sym o.1) ∙ t.paired l.at) (λ e. omega (arith, o.2)) o.4 o.3

some-if : (b : Bool) (p q : Port) → (if b then Some p else None) ≡ Some q → (b ≡ true) × (p ≡ q)
some-if true p q e = (refl, cc)
some-if false p q e = absurd (let bad : None ≡ Some q = e in cc)

-- what the partner of a port is
pub partner_of-parts : (g : Graph) (p q : Port) → partner_of g p ≡ Some q →
    (has_port g.free g.nodes p ≡ true) × (port_at g.free (other g.partners (place g.free p)) ≡ q)
partner_of-parts g p q e = some-if (has_port g.free g.nodes p) (port_at g.free (other g.partners (place g.free p))) q e

-- partners are linked
pub linked : (g : Graph) (p q : Port) → IsTabled g.free g.nodes g.partners →
    partner_of g p ≡ Some q → Linked (net_of g) (numbered_port p) (numbered_port q)
linked g p q t e =
    let parts = partner_of-parts g p q e in
    let has = parts.0 in
    let a = place g.free p in
    let back = port_at-place g.free g.nodes p has in
    let test = t.ports a in
    let there : has_port g.free g.nodes (port_at g.free a) ≡ true = rw back has in
    let ne : a ≢ other g.partners a = λ same. grind (arith, nat_tests) in
    subst (λ (w : Port). Linked (net_of g) (numbered_port w) (numbered_port q)) back
    (subst (λ (w : Port). Linked (net_of g) (numbered_port (port_at g.free a))
    (numbered_port w)) parts.1 (Linked-at g a (other g.partners a) t refl ne))

-- two ports of one name are one
pub numbered_port-injective : (p q : Port) → numbered_port p ≡ numbered_port q → p ≡ q
numbered_port-injective (Free k) (Free l) e = let same : k ≡ l = cc in ap Free same
numbered_port-injective (Free k) (Of n s) e = absurd (let bad : free k ≡ slot n.0 s = e in cc)
numbered_port-injective (Of n s) (Free k) e = absurd (let bad : slot n.0 s ≡ free k = e in cc)
numbered_port-injective (Of n s) (Of m t) e =
    let numbers : n.0 ≡ m.0 = cc in
    let slots : s ≡ t = cc in
    rw (← slots) (ap (λ x. Of (record { 0 = x }) s) numbers)

has_slot-live : (o : Option (Kind × ℕ)) (s : ℕ) → has_slot o s ≡ true → (f : Kind × ℕ) × (o ≡ Some f) × (s ≤ arity f.0)
has_slot-live None s h = absurd (false≢true h)
has_slot-live (Some f) s h = (f, refl, grind (arith, nat_tests))

has_slot-of : (o : Option (Kind × ℕ)) (s : ℕ) (k : Kind) (i : ℕ) → o ≡ Some (k, i) → s ≤ arity k → has_slot o s ≡ true
has_slot-of o s k i e le = rw e (grind (arith, nat_tests))

-- the ports of the net are those of the tables
pub is_port : (g : Graph) (p : Port) → IsPort (net_of g) (numbered_port p) ↔ (has_port g.free g.nodes p ≡ true)
is_port g (Free k) = (λ (h : k < g.free). grind (arith, nat_tests), λ h. grind (arith, nat_tests))
is_port g (Of n s) = (
  λ h. has_slot-of (kind_at g.nodes n.0) s h.0 h.1 ((has_node g n.0 h.0 h.1).0 h.2) h.3,
  λ h. let f = has_slot-live (kind_at g.nodes n.0) s h in (f.0.0, f.0.1, (has_node g n.0 f.0.0 f.0.1).1 f.1, f.2),
)

-- each name of a port is that of one
port_named : (p : NamedPort ℕ) → (q : Port) × (p ≡ numbered_port q)
port_named (free k) = (Free k, refl)
port_named (slot x s) = (Of (record { 0 = x }) s, refl)

pub partner_of-there : (g : Graph) (p : Port) → has_port g.free g.nodes p ≡ true →
    (q : Port) × (partner_of g p ≡ Some q)
partner_of-there g p has = (
  port_at g.free (other g.partners (place g.free p)),
  partner_in-some g.free g.nodes g.partners p has,
)

-- a port is the partner of its partner, which is another
pub partner_of-back : (g : Graph) (p q : Port) → IsTabled g.free g.nodes g.partners →
    partner_of g p ≡ Some q → (partner_of g q ≡ Some p) × (q ≢ p)
partner_of-back g p q t e = rw e at (partner-mutual g p t)

same_node : (f f' : Kind × ℕ) → Some f ≡ Some f' → (f.0 ≡ f'.0) × (f.1 ≡ f'.1)
same_node f f' e = let same : f ≡ f' = cc in (ap (λ (w : Kind × ℕ). w.0) same, ap (λ (w : Kind × ℕ). w.1) same)

-- the tables of a net are those of a net
pub net_is_net : (g : Graph) → IsTabled g.free g.nodes g.partners → IsNet (net_of g)
net_is_net g t = record {
  one_node = λ x k l i j h h'.
      let a = (has_node g x k i).0 h in
      let b = (has_node g x l j).0 h' in
      same_node (k, i) (l, j) (sym a ∙ b);
  of_ports = λ p q h.
      let l = linked_back g p q t h in
      let back = partner_of-back g l.from l.to t l.partner in (
        rw l.first ((is_port g l.from).1 (partner_of-parts g l.from l.to l.partner).0),
        rw l.second ((is_port g l.to).1 (partner_of-parts g l.to l.from back.0).0),
      );
  one_link = λ p q r h h'.
      let l = linked_back g p q t h in
      let m = linked_back g p r t h' in
      let same : l.from ≡ m.from = numbered_port-injective l.from m.from (sym l.first ∙ m.first) in
      let ends : Some l.to ≡ Some m.to = sym l.partner ∙ ap (partner_of g) same ∙ m.partner in
      let to : l.to ≡ m.to = cc in
      l.second ∙ ap numbered_port to ∙ sym m.second;
  apart = λ p h.
      let l = linked_back g p p t h in
      let back = partner_of-back g l.from l.to t l.partner in
      back.1 (numbered_port-injective l.to l.from (sym l.second ∙ l.first));
  some_link = λ p h.
      let n = port_named p in
      let has : has_port g.free g.nodes n.0 ≡ true = (is_port g n.0).0 (subst (λ w. IsPort (net_of g) w) n.1 h) in
      let q = partner_of-there g n.0 has in
      (numbered_port q.0, subst (λ w. Linked (net_of g) w (numbered_port q.0)) (sym n.1) (linked g n.0 q.0 t q.1));
}

-- Facing pairs

met-same : (k l : Kind) (r s : Rule) → met k l ≡ Some r → met l k ≡ Some s → r ≡ s
met-same kind.App kind.Lam r s h h' = cc
met-same kind.Lam kind.App r s h h' = cc
met-same kind.Fan kind.Fan r s h h' = cc
met-same kind.Croissant kind.Croissant r s h h' = cc
met-same kind.Bracket kind.Bracket r s h h' = cc
met-same k l r s h h' = absurd (let bad : None ≡ Some r = h in cc)

by_index-same : (k : Kind) (i : ℕ) (l : Kind) (j : ℕ) (r s : Rule) → by_index k i l j ≡ Some r →
    by_index l j k i ≡ Some s → r ≡ s
by_index-same k i l j r s h h' = elim (cases_order i j) [
  | inl e ↦
      let t : nat_eq i j ≡ true = grind (arith, nat_tests) in
      let t' : nat_eq j i ≡ true = grind (arith, nat_tests) in
      met-same k l r s (rw t at h) (rw t' at h')
  | inr (inl lt) ↦
      let t' : nat_eq j i ≡ false = grind (arith, nat_tests) in
      let u' : nat_lt j i ≡ false = grind (arith, nat_tests) in
      absurd (let bad : None ≡ Some s = rw (t', u') at h' in cc)
  | inr (inr lt) ↦
      let t : nat_eq i j ≡ false = grind (arith, nat_tests) in
      let u : nat_lt i j ≡ false = grind (arith, nat_tests) in
      absurd (let bad : None ≡ Some r = rw (t, u) at h in cc)
]

-- two nodes that may both act have one rule
pub rule_of-same : (k : Kind) (i : ℕ) (l : Kind) (j : ℕ) (r s : Rule) → rule_of k i l j ≡ Some r →
    rule_of l j k i ≡ Some s → r ≡ s
rule_of-same kind.Eraser i kind.Eraser j r s h h' = cc
rule_of-same kind.Eraser i l j r s h h' = absurd (let bad : None ≡ Some s = h' in cc)
rule_of-same k i kind.Eraser j r s h h' = absurd (let bad : None ≡ Some r = h in cc)
rule_of-same k i l j r s h h' = by_index-same k i l j r s h h'

-- what two facing nodes are to each other, by the rules of the two
facing_of_pair-active : (k : Kind) (i : ℕ) (l : Kind) (j : ℕ) (r : Rule) →
    rule_of k i l j ≡ Some r → facing_of_pair (k, i) (l, j) ≡ Active r
facing_of_pair-active k i l j r h = rw h refl

either-active : (o o' : Option Rule) (r : Rule) → o' ≡ Some r → ((s : Rule) → o ≡ Some s → r ≡ s) →
    either o o' ≡ Active r
either-active None o' r e same = rw e refl
either-active (Some s) o' r e same = ap Active (sym (same s refl))

facing_of_pair-active_back : (k : Kind) (i : ℕ) (l : Kind) (j : ℕ) (r : Rule) →
    rule_of k i l j ≡ Some r → facing_of_pair (l, j) (k, i) ≡ Active r
facing_of_pair-active_back k i l j r h = either-active (rule_of l j k i) (rule_of k i l j) r h
    (λ s h'. rule_of-same k i l j r s h h')

either-is_active : (o o' : Option Rule) (r : Rule) → either o o' ≡ Active r → (o ≡ Some r) ⊎ (o' ≡ Some r)
either-is_active (Some s) o' r e = inl (let same : s ≡ r = cc in ap (λ w. Some w) same)
either-is_active None (Some s) r e = inr (let same : s ≡ r = cc in ap (λ w. Some w) same)
either-is_active None None r e = absurd (let bad : Stuck ≡ Active r = e in cc)

either-is_stuck : (o o' : Option Rule) → either o o' ≡ Stuck → (o ≡ None) × (o' ≡ None)
either-is_stuck (Some s) o' e = absurd (let bad : Active s ≡ Stuck = e in cc)
either-is_stuck None (Some s) e = absurd (let bad : Active s ≡ Stuck = e in cc)
either-is_stuck None None e = (refl, refl)

either-faces : (o o' : Option Rule) → either o o' ≡ facing.None → ⊥
either-faces (Some s) o' e = let bad : Active s ≡ facing.None = e in cc
either-faces None (Some s) e = let bad : Active s ≡ facing.None = e in cc
either-faces None None e = let bad : Stuck ≡ facing.None = e in cc

facing_at-is : (g : Graph) (n : NodeId) (f : Option (Kind × ℕ)) (q : Option Port) →
    kind_at g.nodes n.0 ≡ f → partner_of g (Of n 0) ≡ q →
    facing_at g n ≡ facing_across g.nodes f q
facing_at-is g n f q e h = ap (λ (w : Option (Kind × ℕ)).
    facing_across g.nodes w (partner_of g (Of n 0))) e ∙ ap (facing_across g.nodes f) h

-- the node that n faces, and what the two are to each other
pub record FacesFrom (g : Graph) (n : NodeId) : Type 0 where
  pub node : ℕ
  pub k : Kind
  pub i : ℕ
  pub l : Kind
  pub j : ℕ
  pub faces : Faces (net_of g) n.0 node k i l j
  pub is : facing_at g n ≡ facing_of_pair (k, i) (l, j)

-- what n is to the node that it faces
pub facing_at-faces : (g : Graph) (n : NodeId) (m : ℕ) (k : Kind) (i : ℕ) (l : Kind) (j : ℕ) →
    IsTabled g.free g.nodes g.partners →
    Faces (net_of g) n.0 m k i l j → facing_at g n ≡ facing_of_pair (k, i) (l, j)
facing_at-faces g n m k i l j t f =
    let here = (has_node g n.0 k i).0 f.first in
    let there = (has_node g m l j).0 f.second in
    let p = linked_back g (slot n.0 0) (slot m 0) t f.linked in
    let from : Of n 0 ≡ p.from = numbered_port-injective (Of n 0) p.from p.first in
    let to : Of (record { 0 = m }) 0 ≡ p.to = numbered_port-injective (Of (record { 0 = m }) 0) p.to p.second in
    let partner : partner_of g (Of n 0) ≡ Some (Of (record { 0 = m }) 0) = ap (partner_of g) from
    ∙ p.partner ∙ ap (λ q. Some q) (sym to) in
    facing_at-is g n (Some (k, i)) (Some (Of (record { 0 = m }) 0)) here partner ∙ ap (facing_between (k, i)) there

-- the same pair, from the other node
pub Faces-back : (g : Graph) (n m : ℕ) (k : Kind) (i : ℕ) (l : Kind) (j : ℕ) →
    Faces (net_of g) n m k i l j → Faces (net_of g) m n l j k i
Faces-back g n m k i l j f = record {
  first = f.second;
  second = f.first;
  linked = elim f.linked [ inl h ↦ inr h | inr h ↦ inl h ];
}

-- no node faces itself
pub Faces-apart : (g : Graph) (n m : ℕ) (k : Kind) (i : ℕ) (l : Kind) (j : ℕ) →
    IsTabled g.free g.nodes g.partners → Faces (net_of g) n m k i l j → n ≢ m
Faces-apart g n m k i l j t f e = (net_is_net g t).apart (slot n 0)
    (subst (λ w. Linked (net_of g) (slot n 0) (slot w 0)) (sym e) f.linked)

-- n faces a node, or none
pub faces_or_none : (g : Graph) (n : NodeId) → IsTabled g.free g.nodes g.partners →
    FacesFrom g n ⊎ (facing_at g n ≡ facing.None)
faces_or_none g n t = go (kind_at g.nodes n.0) (partner_of g (Of n 0)) refl refl
  where
    go : (f : Option (Kind × ℕ)) (q : Option Port) → kind_at g.nodes n.0 ≡ f →
        partner_of g (Of n 0) ≡ q → FacesFrom g n ⊎ (facing_at g n ≡ facing.None)
    go None q e h = inr (facing_at-is g n None q e h)
    go (Some f) None e h = inr (facing_at-is g n (Some f) None e h)
    go (Some f) (Some (Free k)) e h = inr (facing_at-is g n (Some f) (Some (Free k)) e h)
    go (Some f) (Some (Of m zero)) e h = there (kind_at g.nodes m.0) refl
      where
        there : (o : Option (Kind × ℕ)) → kind_at g.nodes m.0 ≡ o → FacesFrom g n ⊎ (facing_at g n ≡ facing.None)
        there None u = inr (facing_at-is g n (Some f) (Some (Of m 0)) e h ∙ ap (facing_between f) u)
        there (Some f') u = inl (record {
          node = m.0;
          k = f.0;
          i = f.1;
          l = f'.0;
          j = f'.1;
          faces = record {
            first = (has_node g n.0 f.0 f.1).1 e;
            second = (has_node g m.0 f'.0 f'.1).1 u;
            linked = linked g (Of n 0) (Of m 0) t h;
          };
          is = facing_at-is g n (Some f) (Some (Of m 0)) e h ∙ ap (facing_between f) u;
        })
    go (Some f) (Some (Of m (suc s))) e h = let t : (suc s == 0) ≡ false = grind
        (arith, nat_tests) in inr (facing_at-is g n (Some f) (Some (Of m (suc s))) e h ∙ rw t refl)

-- a node is in an active pair exactly where its answer is the pair's rule
pub active_from : (g : Graph) (n : NodeId) (r : Rule) → IsTabled g.free g.nodes g.partners → facing_at g n ≡ Active r →
    (m : ℕ) × (IsActive (net_of g) n.0 m r ⊎ IsActive (net_of g) m n.0 r)
active_from g n r t e = elim (faces_or_none g n t) [
  | inl f ↦ (
    f.node,
    elim (either-is_active (rule_of f.k f.i f.l f.j) (rule_of f.l f.j f.k f.i) r (sym f.is ∙ e)) [
      | inl h ↦ inl (record { k = f.k; i = f.i; l = f.l; j = f.j; faces = f.faces; fits = h })
      | inr h ↦ inr (record {
        k = f.l;
        i = f.j;
        l = f.k;
        j = f.i;
        faces = Faces-back g n.0 f.node f.k f.i f.l f.j f.faces;
        fits = h;
      })
    ],
  )
  | inr u ↦ absurd (let bad : facing.None ≡ Active r = sym u ∙ e in cc)
]

pub active_first : (g : Graph) (n m : NodeId) (r : Rule) → IsTabled g.free g.nodes g.partners →
    IsActive (net_of g) n.0 m.0 r → facing_at g n ≡ Active r
active_first g n m r t a = facing_at-faces g n m.0 a.k a.i a.l a.j t a.faces
    ∙ facing_of_pair-active a.k a.i a.l a.j r a.fits

pub active_second : (g : Graph) (n m : NodeId) (r : Rule) → IsTabled g.free g.nodes g.partners →
    IsActive (net_of g) n.0 m.0 r → facing_at g m ≡ Active r
active_second g n m r t a =
    facing_at-faces g m n.0 a.l a.j a.k a.i t (Faces-back g n.0 m.0 a.k a.i a.l a.j a.faces)
    ∙ facing_of_pair-active_back a.k a.i a.l a.j r a.fits

pub active_apart : (g : Graph) (n m : ℕ) (r : Rule) → IsTabled g.free g.nodes g.partners →
    IsActive (net_of g) n m r → n ≢ m
active_apart g n m r t a = Faces-apart g n m a.k a.i a.l a.j t a.faces

-- a node is in a stuck pair exactly where its answer is Stuck
pub stuck_from : (g : Graph) (n : NodeId) → IsTabled g.free g.nodes g.partners →
    facing_at g n ≡ Stuck → (m : ℕ) × IsStuck (net_of g) n.0 m
stuck_from g n t e = elim (faces_or_none g n t) [
  | inl f ↦
      let h = either-is_stuck (rule_of f.k f.i f.l f.j) (rule_of f.l f.j f.k f.i) (sym f.is ∙ e) in
      (f.node, record { k = f.k; i = f.i; l = f.l; j = f.j; faces = f.faces; first = h.0; second = h.1 })
  | inr u ↦ absurd (let bad : facing.None ≡ Stuck = sym u ∙ e in cc)
]

pub stuck_first : (g : Graph) (n m : NodeId) → IsTabled g.free g.nodes g.partners →
    IsStuck (net_of g) n.0 m.0 → facing_at g n ≡ Stuck
stuck_first g n m t a = facing_at-faces g n m.0 a.k a.i a.l a.j t a.faces ∙ rw (a.first, a.second) refl

pub IsStuck-back : (g : Graph) (n m : ℕ) → IsStuck (net_of g) n m → IsStuck (net_of g) m n
IsStuck-back g n m a = record {
  k = a.l;
  i = a.j;
  l = a.k;
  j = a.i;
  faces = Faces-back g n m a.k a.i a.l a.j a.faces;
  first = a.second;
  second = a.first;
}

pub stuck_apart : (g : Graph) (n m : ℕ) → IsTabled g.free g.nodes g.partners → IsStuck (net_of g) n m → n ≢ m
stuck_apart g n m t a = Faces-apart g n m a.k a.i a.l a.j t a.faces

-- it faces no node exactly where its answer is None
pub none_from : (g : Graph) (n : NodeId) → IsTabled g.free g.nodes g.partners → facing_at g n ≡ facing.None →
    (m : ℕ) (k : Kind) (i : ℕ) (l : Kind) (j : ℕ) → Faces (net_of g) n.0 m k i l j → ⊥
none_from g n t e m k i l j f = either-faces (rule_of k i l j) (rule_of l j k i)
    (sym (facing_at-faces g n m k i l j t f) ∙ e)

-- a node faces one node at most
pub one_facing : (g : Graph) (n m m' : ℕ) (k : Kind) (i : ℕ) (l : Kind) (j : ℕ) (k' : Kind) (i' : ℕ)
    (l' : Kind) (j' : ℕ) → IsTabled g.free g.nodes g.partners →
    Faces (net_of g) n m k i l j → Faces (net_of g) n m' k' i' l' j' → m ≡ m'
one_facing g n m m' k i l j k' i' l' j' t f f' =
    let same : slot m 0 ≡ slot m' 0 = (net_is_net g t).one_link (slot n 0) (slot m 0) (slot m' 0) f.linked f'.linked in
    cc
