-- References are read as they were written, and the three sorts of ends are apart.
-- Used in Closing, Degrees, InWords, LinkSteps, Links, Opening, Steps and Ticket.
use Rattle.std.proofs.Common.{◌≡◌, ◌≢◌, ℕ, ◌+◌, ◌*◌, ◌/◌, ◌%◌, ◌<◌, refl, ap, ◌∙◌, sym, arith}
use Rattle.ol_net.specs.declared.parts.Kind.{Kind}
use Rattle.ol_net.specs.declared.parts.Kind.TheVariants as kind
use Rattle.ol_wire.specs.References.{kind_number, kind_numbered, node_ref, wire_ref, slot_ref}
use Rattle.ol_wire.specs.References.{kind_in, index_in, place_in}

kind_read : (k : Kind) → kind_numbered (kind_number k) ≡ k
kind_read kind.Lam = refl
kind_read kind.App = refl
kind_read kind.Fan = refl
kind_read kind.Croissant = refl
kind_read kind.Bracket = refl
kind_read kind.Eraser = refl

kind_small : (k : Kind) → kind_number k < 6
kind_small kind.Lam = omega arith
kind_small kind.App = omega arith
kind_small kind.Fan = omega arith
kind_small kind.Croissant = omega arith
kind_small kind.Bracket = omega arith
kind_small kind.Eraser = omega arith

low_digits : (n i place : ℕ) → n < 8 → (1 + 4 * n + 32 * i + 536870912 * place) / 4 % 8 ≡ n
low_digits n i place lt = omega arith

middle_digits : (n i place : ℕ) → n < 8 → i < 16777216 → (1 + 4 * n + 32 * i + 536870912 * place) / 32 % 16777216 ≡ i
middle_digits n i place lt small = omega arith

high_digits : (n i place : ℕ) → n < 8 → i < 16777216 → (1 + 4 * n + 32 * i + 536870912 * place) / 536870912 ≡ place
high_digits n i place lt small = omega arith

pub kind_of_ref : (k : Kind) (i place : ℕ) → kind_in (node_ref k i place) ≡ k
kind_of_ref k i place = ap kind_numbered
    (low_digits (kind_number k) i place (omega (arith, kind_small k))) ∙ kind_read k

pub index_of_ref : (k : Kind) (i place : ℕ) → i < 16777216 → index_in (node_ref k i place) ≡ i
index_of_ref k i place small = middle_digits (kind_number k) i place (omega (arith, kind_small k)) small

pub place_of_ref : (k : Kind) (i place : ℕ) → i < 16777216 → place_in (node_ref k i place) ≡ place
place_of_ref k i place small = high_digits (kind_number k) i place (omega (arith, kind_small k)) small

pub place_of_wire : (place : ℕ) → place_in (wire_ref place) ≡ place
place_of_wire place = omega arith

pub node_sort : (k : Kind) (i place : ℕ) → node_ref k i place % 4 ≡ 1
node_sort k i place = omega arith

pub wire_sort : (place : ℕ) → wire_ref place % 4 ≡ 2
wire_sort place = omega arith

pub slot_sort : (place : ℕ) → slot_ref place % 4 ≡ 3
slot_sort place = omega arith

pub node_same : (k l : Kind) (i j p q : ℕ) → i < 16777216 → j < 16777216 →
    node_ref k i p ≡ node_ref l j q → (k ≡ l) × (i ≡ j) × (p ≡ q)
node_same k l i j p q si sj e = (
  sym (kind_of_ref k i p) ∙ ap kind_in e ∙ kind_of_ref l j q,
  sym (index_of_ref k i p si)
      ∙ ap index_in e ∙ index_of_ref l j q sj,
  sym (place_of_ref k i p si) ∙ ap place_in e ∙ place_of_ref l j q sj,
)

pub wire_same : (p q : ℕ) → wire_ref p ≡ wire_ref q → p ≡ q
wire_same p q e = omega arith

pub slot_same : (p q : ℕ) → slot_ref p ≡ slot_ref q → p ≡ q
slot_same p q e = omega arith

pub node_not_wire : (k : Kind) (i p q : ℕ) → node_ref k i p ≢ wire_ref q
node_not_wire k i p q e = omega arith

pub node_not_slot : (k : Kind) (i p q : ℕ) → node_ref k i p ≢ slot_ref q
node_not_slot k i p q e = omega arith

pub wire_not_slot : (p q : ℕ) → wire_ref p ≢ slot_ref q
wire_not_slot p q e = omega arith
