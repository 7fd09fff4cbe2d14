-- What ports weigh by the names of a journal, and the ports that a join raises.
use Rattle.std.proofs.Common.{◌≡◌, ◌≢◌, ℕ, ◌+◌, ◌*◌, ◌<◌, max, true, List, length, Option, Some}
use Rattle.std.proofs.Common.{None, get_or, ◌⊎◌, inl, inr, refl, sym, ap, ◌∙◌, subst, arith}
use Rattle.std.proofs.lemmas.List.{get_or-set_same, get_or-set_other, length-set}
use Rattle.std.proofs.lemmas.Bool.{cases_eq}
use Rattle.ol_net.specs.declared.parts.Port.{Port}
use Rattle.ol_net.specs.declared.parts.Port.TheVariants.{Free, Of}
use Rattle.ol_net.specs.Graph.{Graph, IsTabled, has_port, place, port_at, partner_of}
use Rattle.ol_net.specs.Nets.{NamedPort, free, slot, NamedNet, Linked, IsPort, IsNet, net_under, port_under}
use Rattle.ol_net.specs.Numbered.{net_of, numbered_port}
use Rattle.ol_net.proofs.Numbered.{linked_back, linked, numbered_port-injective, is_port}
use Rattle.ol_net.proofs.Numbered.{partner_of-back, partner_of-parts}
use Rattle.ol_net.proofs.Places.{place-within, port_at-place, kind_at-within}
use Rattle.ol_rules.specs.declared.journal.NodeName.{NodeName}
use Rattle.ol_rules.proofs.NameOrder.{Names, names_apart}
use Rattle.ol_rules.proofs.Renaming.{node_from, link_back, link_to}
use Rattle.ol_rules.specs.UnderWay.{node_number}
use Rattle.ol_diamond.specs.PortWeights.{weight_at, raised_if, join_weight, joined_weights}
use Rattle.ol_diamond.proofs.Meetings.{IsRaised}
use Rattle.ol_diamond.proofs.Replays.{Index}

abbrev number : Option ℕ → ℕ
number None = 0
number (Some k) = k

-- what a port of this name weighs
abbrev pub name_weight : ℕ → List ℕ → List ℕ → NamedPort NodeName → ℕ
name_weight ports bases weights (free k) = get_or weights k 0
name_weight ports bases weights (slot x s) = get_or weights (ports + 3 * number (node_number bases x) + s) 0

pub weight_of : (ports : ℕ) (bases weights : List ℕ) (next ticket : ℕ) (m : ℕ → NodeName) →
    Index bases next ticket m → (k s : ℕ) → k < next →
    name_weight ports bases weights (slot (m k) s) ≡ get_or weights (ports + 3 * k + s) 0
weight_of ports bases weights next ticket m i k s b = ap
    (λ (o : Option ℕ). get_or weights (ports + 3 * number o + s) 0) (i.finds k b)

-- ---- raised places

pub length_raised : (ports : ℕ) (weights : List ℕ) (o : Option Port) (least : ℕ) →
    length (raised_if ports weights o least) ≡ length weights
length_raised ports weights None least = refl
length_raised ports weights (Some p) least = length-set weights (place ports p) (max (weight_at ports weights p) least)

raised_here : (ports : ℕ) (weights : List ℕ) (p : Port) (least : ℕ) →
    place ports p < length weights → get_or (raised_if ports weights (Some p) least)
    (place ports p) 0 ≡ max (get_or weights (place ports p) 0) least
raised_here ports weights p least b = get_or-set_same weights (place ports p)
    (max (weight_at ports weights p) least) 0 b

raised_else : (ports : ℕ) (weights : List ℕ) (p : Port) (least k : ℕ) → k ≢ place ports p →
    get_or (raised_if ports weights (Some p) least) k 0 ≡ get_or weights k 0
raised_else ports weights p least k n = get_or-set_other weights (place ports p) k
    (max (weight_at ports weights p) least) 0 n

module _ (g : Graph) (tabled : IsTabled g.free g.nodes g.partners) (weights : List ℕ)
    (sized : length weights ≡ g.free + 3 * length g.nodes) where
  abbrev HasPort : Port → Type 0
  HasPort p = has_port g.free g.nodes p ≡ true

  place_below : (p : Port) → HasPort p → place g.free p < length weights
  place_below p h = let b = place-within g.free g.nodes p h in omega arith

  one_place : (p q : Port) → HasPort p → HasPort q → place g.free p ≡ place g.free q → p ≡ q
  one_place p q h h' e = sym (port_at-place g.free g.nodes p h) ∙ ap (port_at g.free) e
      ∙ port_at-place g.free g.nodes q h'

  -- what a port weighs once the partner of another was raised, or nothing was
  after_one : (o : Option Port) (least : ℕ) (p : Port) → HasPort p → ((q : Port) → o ≡ Some q → HasPort q) →
      ((o ≡ Some p) × (get_or (raised_if g.free weights o least) (place g.free p) 0 ≡ max
      (get_or weights (place g.free p) 0) least))
      ⊎ ((o ≢ Some p) × (get_or (raised_if g.free weights o least)
      (place g.free p) 0 ≡ get_or weights (place g.free p) 0))
  after_one None least p h there = inr ((λ e. cc), refl)
  after_one (Some q) least p h there = go (cases_eq (place g.free p) (place g.free q))
    where
      go : (place g.free p ≡ place g.free q) ⊎ (place g.free p ≢ place g.free q) →
          ((Some q ≡ Some p) × (get_or (raised_if g.free weights (Some q) least)
          (place g.free p) 0 ≡ max (get_or weights (place g.free p) 0) least))
          ⊎ ((Some q ≢ Some p) × (get_or (raised_if g.free weights (Some q) least)
          (place g.free p) 0 ≡ get_or weights (place g.free p) 0))
      go (inl e) =
          let z = one_place p q h (there q refl) e in
          inl (
            ap (λ p. Some p) (sym z),
            subst
                (λ q. get_or (raised_if g.free weights (Some q) least) (place g.free p) 0 ≡ max
                (get_or weights (place g.free p) 0) least) z (raised_here g.free weights p least (place_below p h)),
          )
      go (inr n) = inr (
        (λ e. let z : q ≡ p = cc in n (ap (place g.free) (sym z))),
        raised_else g.free weights q least (place g.free p) n,
      )

-- ---- by names

module _ (g : Graph) (tabled : IsTabled g.free g.nodes g.partners) (bases : List ℕ)
    (start ticket : ℕ) (m : ℕ → NodeName) (n : Names start (length g.nodes) ticket m)
    (i : Index bases (length g.nodes) ticket m)
    (net : IsNet (net_under m (net_of g))) where
  -- a port of the net by its number
  pub record Known (z : NamedPort NodeName) : Type 0 where
    pub port : Port
    pub is : z ≡ port_under m (numbered_port port)
    pub there : has_port g.free g.nodes port ≡ true

  pub known : (z : NamedPort NodeName) → IsPort (net_under m (net_of g)) z → Known z
  known (free k) h = record { port = Free k; is = refl; there = (is_port g (Free k)).0 h }
  known (slot x s) (k, j, h, b) =
      let t = node_from m (net_of g) x k j h in
      let p : Port = Of (record { 0 = t.0 }) s in
      record { port = p; is = ap (λ x. slot x s) t.2; there = (is_port g p).0 (k, j, t.1, b) }

  pub weight_known : (weights : List ℕ) (p : Port) → has_port g.free g.nodes p ≡ true →
      name_weight g.free bases weights (port_under m (numbered_port p)) ≡ get_or weights (place g.free p) 0
  weight_known weights (Free k) h = refl
  weight_known weights (Of x s) h = weight_of g.free bases weights (length g.nodes) ticket m i x.0 s
      (kind_at-within g.nodes x.0 s h)

  -- linked is the partner
  partner_here : (p q : Port) → Linked (net_under m (net_of g)) (port_under m (numbered_port p))
      (port_under m (numbered_port q)) → partner_of g q ≡ Some p
  partner_here p q h =
      let h' = link_back m (names_apart start (length g.nodes) ticket m n) (net_of g)
      (numbered_port p) (numbered_port q) h in
      let t = linked_back g (numbered_port p) (numbered_port q) tabled h' in
      let e : p ≡ t.from = numbered_port-injective p t.from t.first in
      let e' : q ≡ t.to = numbered_port-injective q t.to t.second in
      (partner_of-back g p q tabled (ap (partner_of g) e ∙ t.partner ∙ ap (λ q. Some q) (sym e'))).0

  linked_here : (p q : Port) → partner_of g q ≡ Some p →
      Linked (net_under m (net_of g)) (port_under m (numbered_port p)) (port_under m (numbered_port q))
  linked_here p q h = link_to m (net_of g) (numbered_port p) (numbered_port q)
      (linked g p q tabled (partner_of-back g q p tabled h).0)

  partner_there : (p q : Port) → partner_of g p ≡ Some q → has_port g.free g.nodes q ≡ true
  partner_there p q h = (partner_of-parts g q p (partner_of-back g p q tabled h).0).0

  -- the ports linked to two slots of one number are raised
  module _ (weights : List ℕ) (sized : length weights ≡ g.free + 3 * length g.nodes)
      (a b s wave : ℕ) (a_below : a < length g.nodes) (b_below : b < length g.nodes) where
    abbrev A : Port
    A = Of (record { 0 = a }) s

    abbrev B : Port
    B = Of (record { 0 = b }) s

    abbrev least : ℕ
    least = join_weight g.free weights (Of (record { 0 = a }) s) (Of (record { 0 = b }) s) wave

    abbrev first : List ℕ
    first = raised_if g.free weights (partner_of g (Of (record { 0 = a }) s))
        (join_weight g.free weights (Of (record { 0 = a }) s) (Of (record { 0 = b }) s) wave)

    abbrev second : List ℕ
    second = joined_weights g weights (Of (record { 0 = a }) s) (Of (record { 0 = b }) s) wave

    abbrev w : NamedPort NodeName → ℕ
    w = name_weight g.free bases weights

    first_sized : length first ≡ g.free + 3 * length g.nodes
    first_sized = length_raised g.free weights (partner_of g A) least ∙ sized

    pub second_sized : length second ≡ g.free + 3 * length g.nodes
    second_sized = length_raised g.free first (partner_of g B) least ∙ first_sized

    least_is : least ≡ max wave (max (w (slot (m a) s)) (w (slot (m b) s)))
    least_is =
        let x = weight_of g.free bases weights (length g.nodes) ticket m i a s a_below in
        let y = weight_of g.free bases weights (length g.nodes) ticket m i b s b_below in
        ap (λ u. max wave (max u (weight_at g.free weights B))) (sym x)
        ∙ ap (λ v. max wave (max (w (slot (m a) s)) v)) (sym y)

    abbrev OneMore : List ℕ → List ℕ → Option Port → Port → Type 0
    OneMore old new o p = ((o ≡ Some p) × (get_or new (place g.free p) 0 ≡ max (get_or old (place g.free p) 0) least))
        ⊎ ((o ≢ Some p) × (get_or new (place g.free p) 0 ≡ get_or old (place g.free p) 0))

    at_first : (p : Port) → has_port g.free g.nodes p ≡ true → OneMore weights first (partner_of g A) p
    at_first p h = after_one g tabled weights sized (partner_of g A) least p h (λ q e. partner_there A q e)

    at_second : (p : Port) → has_port g.free g.nodes p ≡ true → OneMore first second (partner_of g B) p
    at_second p h = after_one g tabled first first_sized (partner_of g B) least p h (λ q e. partner_there B q e)

    near_at : (p : Port) → (partner_of g A ≡ Some p) ⊎ (partner_of g B ≡ Some p) →
        OneMore weights first (partner_of g A) p → OneMore first second (partner_of g B) p →
        get_or second (place g.free p) 0 ≡ max (get_or weights (place g.free p) 0) least
    near_at p h (inl (e, x)) (inl (e', y)) = y ∙ ap (λ v. max v least) x ∙ omega arith
    near_at p h (inl (e, x)) (inr (n', y)) = y ∙ x
    near_at p h (inr (n, x)) (inl (e', y)) = y ∙ ap (λ v. max v least) x
    near_at p (inl e) (inr (n, x)) (inr (n', y)) = absurd (n e)
    near_at p (inr e) (inr (n, x)) (inr (n', y)) = absurd (n' e)

    far_at : (p : Port) → partner_of g A ≢ Some p → partner_of g B ≢ Some p →
        OneMore weights first (partner_of g A) p → OneMore first second (partner_of g B) p →
        get_or second (place g.free p) 0 ≡ get_or weights (place g.free p) 0
    far_at p n n' (inl (e, x)) y = absurd (n e)
    far_at p n n' (inr x) (inl (e, y)) = absurd (n' e)
    far_at p n n' (inr (m, x)) (inr (m', y)) = y ∙ x

    abbrev N : NamedNet NodeName
    N = net_under m (net_of g)

    near_known : (z : NamedPort NodeName) → Known z → Linked N z (slot (m a) s) ⊎ Linked N z (slot (m b) s) →
        name_weight g.free bases second z ≡ max (w z) (max wave (max (w (slot (m a) s)) (w (slot (m b) s))))
    near_known z k h =
        ap (name_weight g.free bases second) k.is ∙ weight_known second k.port k.there
        ∙ near_at k.port (go h) (at_first k.port k.there) (at_second k.port k.there)
        ∙ ap (λ v. max v least) (sym (ap w k.is ∙ weight_known weights k.port k.there))
        ∙ ap (λ v. max (w z) v) least_is
      where
        go : Linked N z (slot (m a) s) ⊎ Linked N z (slot (m b) s) →
            (partner_of g A ≡ Some k.port) ⊎ (partner_of g B ≡ Some k.port)
        go (inl l) = inl (partner_here k.port A (subst (λ z. Linked N z (slot (m a) s)) k.is l))
        go (inr l) = inr (partner_here k.port B (subst (λ z. Linked N z (slot (m b) s)) k.is l))

    far_known : (z : NamedPort NodeName) → Known z → (Linked N z (slot (m a) s) → ⊥) →
        (Linked N z (slot (m b) s) → ⊥) → name_weight g.free bases second z ≡ w z
    far_known z k x y =
        ap (name_weight g.free bases second) k.is ∙ weight_known second k.port k.there
        ∙ far_at k.port (λ e. x (subst (λ z. Linked N z (slot (m a) s)) (sym k.is)
        (linked_here k.port A e))) (λ e. y (subst (λ z. Linked N z (slot (m b) s)) (sym k.is)
        (linked_here k.port B e)))
        (at_first k.port k.there) (at_second k.port k.there)
        ∙ sym (ap w k.is ∙ weight_known weights k.port k.there)

    link_port : (z u : NamedPort NodeName) → Linked N z u → IsPort N z
    link_port z u h = (net.of_ports z u h).0

    pub raised : IsRaised N (slot (m a) s) (slot (m b) s) wave (name_weight g.free bases weights)
        (name_weight g.free bases second)
    raised = record { near = near; far = λ z p x y. far_known z (known z p) x y }
      where
        near : (z : NamedPort NodeName) → Linked N z (slot (m a) s) ⊎ Linked N z (slot (m b) s) →
            name_weight g.free bases second z ≡ max (w z) (max wave (max (w (slot (m a) s)) (w (slot (m b) s))))
        near z (inl h) = near_known z (known z (link_port z (slot (m a) s) h)) (inl h)
        near z (inr h) = near_known z (known z (link_port z (slot (m b) s) h)) (inr h)

-- the two slots the other way round
pub raised_turned : {X : Type 0} (N : NamedNet X) (a b : NamedPort X) (wave : ℕ)
    (w w' : NamedPort X → ℕ) → IsRaised N a b wave w w' → IsRaised N b a wave w w'
raised_turned {X} N a b wave w w' r = record {
  near = λ z h. r.near z (turn z h) ∙ omega arith;
  far = λ z p x y. r.far z p y x;
}
  where
    turn : (z : NamedPort X) → Linked N z b ⊎ Linked N z a → Linked N z a ⊎ Linked N z b
    turn z (inl h) = inr h
    turn z (inr h) = inl h
