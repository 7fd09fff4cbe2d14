-- The entry that the first two words of a block tell is that of the event that wrote them.
-- Used in Nodes, Stands, Start, Table and `entry`.
use Rattle.std.specs.Prelude.{not}
use Rattle.std.proofs.Common.{◌≡◌, ◌⊎◌, ◌&&◌, ℕ, ◌+◌, ◌<◌, ◌≤◌, Bool, true, false, nat_lt, if◌then◌else◌, lt-ltb}
use Rattle.std.proofs.Common.{Option, Some, None, inl, inr, refl, sym, ap, ◌∙◌, arith}
use Rattle.std.proofs.lemmas.Bool.{cases_lt, le-ltb}
use Rattle.ol_net.specs.declared.parts.Rule.{Rule}
use Rattle.ol_rules.specs.declared.journal.Entry.{Entry}
use Rattle.ol_rules.specs.declared.journal.NodeName.{NodeName}
use Rattle.ol_rules.proofs.BothWays.{both_ways}
use Rattle.ol_wire.specs.declared.layout.Parts.{Parts}
use Rattle.ol_wire.specs.References.{kind_in, index_in, place_in}
use Rattle.ol_net.specs.Parts.{arity}
use Rattle.ol_rules.specs.Rewriting.{is_meeting}
use Rattle.ol_wire.specs.Blocks.{copies_of_f, copies_of_g}
use Rattle.ol_wire.specs.Edges.{crosses_at}
use Rattle.ol_wire.specs.Events.{Event, rule_between, name_at, earlier, later, entry_of, acting, event_of}

acting_small : (a b : Option Rule) (l r n : ℕ) → place_in l < n → place_in r < n →
    (place_in (acting a b l r).f < n) × (place_in (acting a b l r).g < n)
acting_small (Some s) b l r n p q = (p, q)
acting_small None (Some s) l r n p q = (q, p)
acting_small None None l r n p q = (p, q)

pub event_small : (l r n : ℕ) → place_in l < n → place_in r < n →
    (place_in (event_of l r).f < n) × (place_in (event_of l r).g < n)
event_small l r n p q = acting_small (rule_between l r) (rule_between r l) l r n p q

pub picked_small : (f g n : ℕ) → place_in f < n → place_in g < n →
    (place_in (earlier f g) < n) × (place_in (later f g) < n)
picked_small f g n p q = go (nat_lt (place_in f) (place_in g))
  where
    go : (b : Bool) → (place_in (if b then f else g) < n) × (place_in (if b then g else f) < n)
    go true = (p, q)
    go false = (q, p)

-- two nodes that have a rule both ways have one
one_rule : (f g : ℕ) (r s : Rule) → rule_between f g ≡ Some r → rule_between g f ≡ Some s → r ≡ s
one_rule f g r s a b = (both_ways (kind_in f) (kind_in g) (index_in f) (index_in g) r s a b).one_rule

pub picked : (f g : ℕ) → place_in f < place_in g → (earlier f g ≡ f) × (later f g ≡ g)
picked f g lt = (
  ap (λ b. if b then f else g) (lt-ltb (place_in f) (place_in g) lt),
  ap (λ b. if b then g else f) (lt-ltb (place_in f) (place_in g) lt),
)

pub turned : (f g : ℕ) → place_in g ≤ place_in f → (earlier f g ≡ g) × (later f g ≡ f)
turned f g le = (
  ap (λ b. if b then f else g) (le-ltb (place_in f) (place_in g) le),
  ap (λ b. if b then g else f) (le-ltb (place_in f) (place_in g) le),
)

-- the entry of f and g, whichever of them comes first in the event
abbrev named : Parts → Rule → ℕ → ℕ → Entry
named z r f g = entry_of z (record { rule = r; f = f; g = g })

swap_names : (z : Parts) (r : Rule) (f g : ℕ) → named z r f g ≡ named z r g f
swap_names z r f g = elim (cases_lt (place_in f) (place_in g)) [
  | inl lt ↦ entries r _ _ _ _ (ap (λ x. name_at z (place_in x))
      ((picked f g lt).0 ∙ sym (turned g f (omega (arith, lt))).0))
      (ap (λ x. name_at z (place_in x)) ((picked f g lt).1 ∙ sym (turned g f (omega (arith, lt))).1))
  | inr ge ↦ elim (cases_lt (place_in g) (place_in f)) [
    | inl lt ↦ entries r _ _ _ _ (ap (λ x. name_at z (place_in x))
        ((turned f g ge).0 ∙ sym (picked g f lt).0))
        (ap (λ x. name_at z (place_in x)) ((turned f g ge).1 ∙ sym (picked g f lt).1))
    | inr le ↦
        let e : place_in f ≡ place_in g = omega (arith, ge, le) in
        entries r _ _ _ _
        (ap (λ x. name_at z (place_in x)) (turned f g ge).0 ∙ ap (name_at z) (sym e)
        ∙ ap (λ x. name_at z (place_in x)) (sym (turned g f le).0))
        (ap (λ x. name_at z (place_in x)) (turned f g ge).1 ∙ ap (name_at z) e
        ∙ ap (λ x. name_at z (place_in x)) (sym (turned g f le).1))
  ]
]
  where
    entries : (r : Rule) (a b x y : NodeName) → a ≡ x → b ≡ y →
        ◌≡◌ {A = Entry} (record { rule = r; first = a; second = b }) (record { rule = r; first = x; second = y })
    entries r a b x y p q = λ i. record { rule = r; first = p i; second = q i }

-- What is the same whichever of the two nodes comes first is told by the two in order.
module _ {A : Type 0} (of : Event → A)
    (turns : (r : Rule) (f g : ℕ) → rule_between f g ≡ Some r → rule_between g f ≡ Some r →
    of (record { rule = r; f = f; g = g }) ≡ of (record { rule = r; f = g; g = f })) where
  read_as : (f g : ℕ) (r : Rule) → rule_between f g ≡ Some r →
      of (event_of f g) ≡ of (record { rule = r; f = f; g = g })
  read_as f g r h = ap (λ a. of (acting a (rule_between g f) f g)) h

  read_back : (f g : ℕ) (r : Rule) → rule_between f g ≡ Some r →
      of (event_of g f) ≡ of (record { rule = r; f = f; g = g })
  read_back f g r h = go (rule_between g f) refl
    where
      go : (a : Option Rule) → a ≡ rule_between g f → of (event_of g f) ≡ of (record { rule = r; f = f; g = g })
      go None e = ap (λ a. of (acting a (rule_between f g) g f)) (sym e) ∙ ap (λ a. of (acting None a g f)) h
      go (Some s) e = ap (λ a. of (acting a (rule_between f g) g f)) (sym e)
          ∙ ap (λ (s : Rule). of (record { rule = s; f = g; g = f })) (one_rule g f s r (sym e) h)
          ∙ turns r g f (sym e ∙ ap (λ (s : Rule). Some s) (one_rule g f s r (sym e) h)) h

  pub read_event : (e : Event) → rule_between e.f e.g ≡ Some e.rule →
      of (event_of (earlier e.f e.g) (later e.f e.g)) ≡ of e
  read_event e h = elim (cases_lt (place_in e.f) (place_in e.g)) [
    | inl lt ↦ ap (λ x. of (event_of x (later e.f e.g))) (picked e.f e.g lt).0
        ∙ ap (λ x. of (event_of e.f x)) (picked e.f e.g lt).1 ∙ read_as e.f e.g e.rule h
    | inr ge ↦ ap (λ x. of (event_of x (later e.f e.g))) (turned e.f e.g ge).0
        ∙ ap (λ x. of (event_of e.g x)) (turned e.f e.g ge).1 ∙ read_back e.f e.g e.rule h
  ]

pub entry_read : (z : Parts) (e : Event) → rule_between e.f e.g ≡ Some e.rule →
    entry_of z (event_of (earlier e.f e.g) (later e.f e.g)) ≡ entry_of z e
entry_read z e h = read_event (entry_of z) (λ r f g a b. swap_names z r f g) e h

-- how many nodes an event makes
abbrev pub births_of : Event → ℕ
births_of e = copies_of_f e + copies_of_g e

pub births_turn : (r : Rule) (f g : ℕ) →
    births_of (record { rule = r; f = f; g = g }) ≡ births_of (record { rule = r; f = g; g = f })
births_turn r f g = go (is_meeting r)
  where
    go : (b : Bool) → (if b then 0 else arity (kind_in g)) + (if b then 0 else arity (kind_in f)) ≡
        (if b then 0 else arity (kind_in f)) + (if b then 0 else arity (kind_in g))
    go true = refl
    go false = omega arith

pub births_read : (e : Event) → rule_between e.f e.g ≡ Some e.rule →
    births_of (event_of (earlier e.f e.g) (later e.f e.g)) ≡ births_of e
births_read e h = read_event births_of (λ r f g a b. births_turn r f g) e h

-- whether it made the wire of q and p
abbrev pub crosses : ℕ → ℕ → Event → Bool
crosses q p e = crosses_at (Some e) q p

crosses_turn : (q p : ℕ) (r : Rule) (f g : ℕ) → rule_between f g ≡ Some r →
    rule_between g f ≡ Some r → crosses q p (record { rule = r; f = f; g = g }) ≡ crosses q p
    (record { rule = r; f = g; g = f })
crosses_turn q p r f g a b = go (both_ways (kind_in f) (kind_in g) (index_in f) (index_in g) r r a b).plain
  where
    go : ((is_meeting r ≡ true) × (arity (kind_in f) ≡ arity (kind_in g)))
        ⊎ ((arity (kind_in f) ≡ 0) × (arity (kind_in g) ≡ 0))
        → (not (is_meeting r) && (nat_lt q (arity (kind_in g)) && nat_lt p (arity (kind_in f)))) ≡
        (not (is_meeting r) && (nat_lt q (arity (kind_in f)) && nat_lt p (arity (kind_in g))))
    go (inl h) = ap (λ k. not (is_meeting r) && (nat_lt q (arity (kind_in g)) && nat_lt p k)) h.1
        ∙ ap (λ k. not (is_meeting r) && (nat_lt q k && nat_lt p (arity (kind_in g)))) (sym h.1)
    go (inr h) =
        ap (λ k. not (is_meeting r) && (nat_lt q (arity (kind_in g)) && nat_lt p k)) (h.0 ∙ sym h.1)
        ∙ ap (λ k. not (is_meeting r) && (nat_lt q k && nat_lt p (arity (kind_in g)))) (h.1 ∙ sym h.0)

pub crosses_read : (q p : ℕ) (e : Event) → rule_between e.f e.g ≡ Some e.rule →
    crosses q p (event_of (earlier e.f e.g) (later e.f e.g)) ≡ crosses q p e
crosses_read q p e h = read_event (crosses q p) (crosses_turn q p) e h
