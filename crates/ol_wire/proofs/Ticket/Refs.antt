-- What a ticket writes and what its links join are references to what has been made: to the old
-- words, to the block's wires and to its nodes.
-- Used in Credit.Steps, LinkSteps.All, Steps.Turn, Cells, Fields, Words and `rewrite`.
use Rattle.std.proofs.Common.{◌≡◌, ◌≢◌, ℕ, zero, suc, ◌+◌, ◌-◌, ◌<◌, ◌≤◌, if◌then◌else◌, nat_lt}
use Rattle.std.proofs.Common.{lt-ltb, inl, inr, Bool, true, false, Option, Some, None, List, []}
use Rattle.std.proofs.Common.{◌∷◌, ◌++◌, get_or, sym, refl, ap, ◌∙◌, subst, arith}
use Rattle.std.proofs.lemmas.Bool.{cases_lt}
use Rattle.std.proofs.lemmas.Bool.Decides.{nat_tests}
use Rattle.ol_net.specs.declared.parts.Kind.{Kind}
use Rattle.ol_net.specs.declared.parts.Rule.{Rule}
use Rattle.ol_net.specs.Parts.{arity}
use Rattle.ol_rules.specs.declared.journal.NodeName.TheVariants.{Born}
use Rattle.ol_rules.specs.Rewriting.{is_meeting, index_after}
use Rattle.ol_rules.proofs.Alike.{meeting_alike}
use Rattle.ol_wire.specs.declared.layout.Parts.{Parts}
use Rattle.ol_wire.specs.References.{kind_in, index_in, place_in, node_ref, wire_ref, IsRef, IsWholeRef}
use Rattle.ol_wire.specs.Layout.{block, place_of, born_wire}
use Rattle.ol_wire.specs.Events.{Event, rule_between, acting, event_of}
use Rattle.ol_wire.specs.Blocks.{copies_of_f, copies_of_g, born_field, block_words}
use Rattle.ol_wire.specs.LinkLists.{born_ref, joins_in, link_of}
use Rattle.ol_wire.specs.Rule.{IsMadeRef}
use Rattle.ol_wire.proofs.InWords.References.{node_sort, wire_sort, kind_of_ref, index_of_ref}
use Rattle.ol_wire.proofs.InWords.References.{place_of_ref, place_of_wire}
use Rattle.ol_wire.proofs.Ticket.Journal.{length_one_more}
use Rattle.ol_wire.proofs.InWords.Lists.{index_after_small}
use Rattle.ol_rules.proofs.Born.{at_most_two}

-- a reference to something whose place is below n
abbrev pub IsRefBelow : ℕ → ℕ → Type 0
IsRefBelow n r = IsRef r × IsWholeRef r × (place_in r < n)

pub made_on : (z : Parts) (log : List Event) (e : Event) (r : ℕ) → IsMadeRef z log r → IsMadeRef z (log ++ e ∷ []) r
made_on z log e r h = let lt = h.2 in (h.0, h.1, omega (arith, length_one_more log e))

pub ref_same : (k l : Kind) (i j p q : ℕ) → k ≡ l → i ≡ j → p ≡ q → node_ref k i p ≡ node_ref l j q
ref_same k l i j p q a b c = ap (λ k. node_ref k i p) a ∙ ap (λ i. node_ref l i p) b ∙ ap (node_ref l j) c

node_below : (k : Kind) (i place n : ℕ) → i < 16777216 → place < n → IsRefBelow n (node_ref k i place)
node_below k i place n small lt =
    let r : ℕ = node_ref k i place in (
      inl (node_sort k i place),
      inl (ref_same k (kind_in r) i (index_in r) place (place_in r) (sym (kind_of_ref k i place))
          (sym (index_of_ref k i place small)) (sym (place_of_ref k i place small))),
      omega (arith, lt, place_of_ref k i place small),
    )

wire_below : (place n : ℕ) → place < n → IsRefBelow n (wire_ref place)
wire_below place n lt = (
  inr (wire_sort place),
  inr (ap wire_ref (sym (place_of_wire place))),
  omega (arith, lt, place_of_wire place),
)

-- the two references of an event are those of the pair
acting_of : (P : ℕ → Type 0) (a b : Option Rule) (l r : ℕ) → P l → P r → P (acting a b l r).f × P (acting a b l r).g
acting_of P (Some q) b l r x y = (x, y)
acting_of P None (Some q) l r x y = (y, x)
acting_of P None None l r x y = (x, y)

pub event_of_pair : (P : ℕ → Type 0) (l r : ℕ) → P l → P r → P (event_of l r).f × P (event_of l r).g
event_of_pair P l r x y = acting_of P (rule_between l r) (rule_between r l) l r x y

chosen : (P : ℕ → Type 0) (b : Bool) (l r : ℕ) → P l → P r → P (if b then l else r)
chosen P true l r x y = x
chosen P false l r x y = y

-- what is a reference, if it isn't empty
abbrev MaybeRef : ℕ → ℕ → Type 0
MaybeRef n x = x ≢ 0 → IsRefBelow n x

abbrev MaybeRefs : ℕ → List ℕ → Type 0
MaybeRefs n [] = Unit {0}
MaybeRefs n (x ∷ xs) = MaybeRef n x × MaybeRefs n xs

pub maybe_at : (n : ℕ) (xs : List ℕ) → MaybeRefs n xs → (j : ℕ) → MaybeRef n (get_or xs j 0)
maybe_at n [] h j d = absurd (d refl)
maybe_at n (x ∷ xs) h zero d = h.0 d
maybe_at n (x ∷ xs) h (suc j) d = maybe_at n xs h.1 j d

no_ref : (n : ℕ) → MaybeRef n 0
no_ref n d = absurd (d refl)

-- the references of a ticket's block
module _ (z : Parts) (e : Event) (t n : ℕ) (in_n : block z (suc t) ≤ n) where
  wire_maybe : (q p : ℕ) → q < 4 → p < 4 → MaybeRef n (wire_ref (born_wire z t q p))
  wire_maybe q p hq hp d = wire_below (born_wire z t q p) n (omega (arith, in_n))

  field_maybe : (i s : ℕ) → i < 4 → s < 2 → MaybeRef n (born_field z e t i s)
  field_maybe i s hi hs =
      chosen (MaybeRef n) (nat_lt i (copies_of_f e)) _ _
      (chosen (MaybeRef n) (nat_lt s (copies_of_g e)) _ _ (wire_maybe i s hi (omega arith)) (no_ref n))
      (chosen (MaybeRef n) (nat_lt i (copies_of_f e + copies_of_g e)) _ _
      (chosen (MaybeRef n) (nat_lt s (copies_of_f e)) _ _
      (wire_maybe s (i - copies_of_f e) (omega arith) (omega arith)) (no_ref n)) (no_ref n))

  pub block_refs : IsRefBelow n e.f → IsRefBelow n e.g → MaybeRefs n (block_words z e t)
  block_refs f g = (
    chosen (MaybeRef n) (nat_lt (place_in e.f) (place_in e.g)) e.f e.g (λ d. f) (λ d. g),
    (
      chosen (MaybeRef n) (nat_lt (place_in e.f) (place_in e.g)) e.g e.f (λ d. g) (λ d. f),
      (
        field_maybe 0 0 (omega arith) (omega arith),
        (
          field_maybe 0 1 (omega arith) (omega arith),
          (
            field_maybe 1 0 (omega arith) (omega arith),
            (
              field_maybe 1 1 (omega arith) (omega arith),
              (
                field_maybe 2 0 (omega arith) (omega arith),
                (
                  field_maybe 2 1 (omega arith) (omega arith),
                  (field_maybe 3 0 (omega arith) (omega arith), (field_maybe 3 1 (omega arith) (omega arith), tt)),
                ),
              ),
            ),
          ),
        ),
      ),
    ),
  )

few_joins : (b : Bool) (m n : ℕ) → m ≤ 2 → n ≤ 2 → (if b then m else (if b then 0 else n) + (if b then 0 else m)) ≤ 4
few_joins true m n lm ln = omega arith
few_joins false m n lm ln = omega arith

pub joins_few : (e : Event) → joins_in e ≤ 4
joins_few e = few_joins (is_meeting e.rule) (arity (kind_in e.f)) (arity (kind_in e.g))
    (at_most_two (kind_in e.f)) (at_most_two (kind_in e.g))

-- the ends of a ticket's links are references, where the fields hold references
module _ (z : Parts) (e : Event) (t n : ℕ) (in_n : block z (suc t) ≤ n) (a b : ℕ → ℕ)
    (fits : rule_between e.f e.g ≡ Some e.rule) (small : index_in e.g < 16000000)
    (a_refs : (s : ℕ) → s < arity (kind_in e.f) → IsRefBelow n (a s))
    (b_refs : (s : ℕ) → s < arity (kind_in e.g) → IsRefBelow n (b s)) where
  born_below : (i : ℕ) → i < 4 → IsRefBelow n (born_ref z e t i)
  born_below i lt =
      chosen (IsRefBelow n) (nat_lt i (copies_of_f e)) _ _
      (node_below (kind_in e.f) (index_in e.f) (place_of z (Born t i)) n (omega arith) (omega (arith, in_n, lt)))
      (node_below (kind_in e.g) (index_after e.rule (index_in e.g)) (place_of z (Born t i)) n
      (omega (arith, index_after_small e.rule (index_in e.g), small)) (omega (arith, in_n, lt)))

  pub link_ends : (j : ℕ) → j < joins_in e →
      IsRefBelow n (link_of z e t a b j).one × IsRefBelow n (link_of z e t a b j).two
  link_ends j lt = go (is_meeting e.rule) refl lt
    where
      two_of : (c d : ℕ) → j < c + d → c ≡ arity (kind_in e.g) → d ≡ arity (kind_in e.f) →
          IsRefBelow n (if nat_lt j c then b j else a (j - c))
      two_of c d few p q = elim (cases_lt j c) [
        | inl below ↦ subst (IsRefBelow n) (sym
            (ap (λ x. if x then b j else a (j - c)) (lt-ltb j c below))) (b_refs j (omega (arith, p, below)))
        | inr above ↦
            let x : nat_lt j c ≡ false = grind (arith, nat_tests) in
            subst (IsRefBelow n) (sym (ap (λ x. if x then b j else a (j - c)) x))
            (a_refs (j - c) (omega (arith, q, few, above)))
      ]

      go : (m : Bool) → is_meeting e.rule ≡ m →
          j < (if m then arity (kind_in e.f) else (if m then 0 else arity (kind_in e.g)) +
          (if m then 0 else arity (kind_in e.f)))
          → IsRefBelow n (if m then a j else born_ref z e t j)
          × IsRefBelow n (if m then b j else if nat_lt j
          (if m then 0 else arity (kind_in e.g)) then b j else a (j - (if m then 0 else arity (kind_in e.g))))
      go true q few = (
        a_refs j few,
        b_refs j
            (omega (arith, few, meeting_alike (kind_in e.f) (index_in e.f) (kind_in e.g) (index_in e.g) e.rule fits q)),
      )
      go false q few = (
        born_below j (omega (arith, lt, joins_few e)),
        two_of (arity (kind_in e.g)) (arity (kind_in e.f)) few refl refl,
      )
