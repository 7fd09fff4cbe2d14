-- How many nodes a ticket made, as its entry and the two nodes of its block tell, and what is read among all tickets.
use Rattle.std.proofs.Common.{◌≡◌, ℕ, zero, suc, ◌+◌, ◌<◌, Bool, true, false, if◌then◌else◌, List, [], ◌∷◌, ◌++◌}
use Rattle.std.proofs.Common.{length, get_or, slice_index, Option, Some, None, refl, sym, ap, ◌∙◌, arith}
use Rattle.std.specs.Prelude.{slice_get}
use Rattle.std.proofs.lemmas.Option.{get_or_from_slice_get}
use Rattle.ol_net.specs.Parts.{arity}
use Rattle.ol_rules.specs.declared.journal.Entry.{Entry}
use Rattle.ol_rules.specs.Listed.{each}
use Rattle.ol_rules.specs.Rewriting.{is_meeting}
use Rattle.ol_wire.specs.References.{kind_in}
use Rattle.ol_wire.specs.Layout.{block}
use Rattle.ol_net.specs.declared.parts.Rule.{Rule}
use Rattle.ol_wire.specs.Events.{rule_between, acting}
use Rattle.ol_wire.specs.Blocks.{copies_of_f, copies_of_g}
use Rattle.ol_wire.specs.Closed as closed
use Rattle.ol_wire.specs.Closed.{ClosedTable, events_in, events_drawn, pair_at, pairs_drawn, journal_drawn}
use Rattle.ol_reduce.specs.Left.{births_at, births_by, births_before}
use Rattle.ol_wire.proofs.Closing.Table.{entry_at}
use Rattle.ol_wire.proofs.Closing.Lists.{one_each}

pub length_each : {X : Type 0} (f : ℕ → X) (n : ℕ) → length (each n (λ t. f t ∷ [])) ≡ n
length_each f zero = refl
length_each f (suc n) = length_more (each n (λ t. f t ∷ [])) (f n) ∙ ap suc (length_each f n)
  where
    length_more : {X : Type 0} (xs : List X) (x : X) → length (xs ++ x ∷ []) ≡ suc (length xs)
    length_more [] x = refl
    length_more (y ∷ xs) x = ap suc (length_more xs x)

-- the pair of a ticket, as it was read among all
pub pair_read : (w : ClosedTable) (pairs : List (ℕ × ℕ)) (t : ℕ) (value : ℕ × ℕ) →
    pairs ≡ pairs_drawn w → t < events_drawn w → value ≡ get_or pairs t value → value ≡ pair_at w.plan.parts w.words t
pair_read w pairs t value e lt got = got
    ∙ get_or_from_slice_get pairs t (pair_at w.plan.parts w.words t) value
    (ap (λ l. slice_get l t) e ∙ one_each (pair_at w.plan.parts w.words) (events_in w.plan.parts w.words) t lt)

pub as_many : (w : ClosedTable) (pairs : List (ℕ × ℕ)) → pairs ≡ pairs_drawn w → length pairs ≡ events_drawn w
as_many w pairs e = ap length e ∙ length_each (pair_at w.plan.parts w.words) (events_in w.plan.parts w.words)

-- how many nodes an event makes, whichever of its two nodes comes first
acting_copies : (a b : Option Rule) (l r : ℕ) →
    copies_of_f (acting a b l r) + copies_of_g (acting a b l r) ≡
    (if is_meeting (acting a b l r).rule then 0 else arity (kind_in l) + arity (kind_in r))
acting_copies (Some s) b l r = go (is_meeting s)
  where
    go : (m : Bool) → (if m then 0 else arity (kind_in r)) + (if m then 0 else arity (kind_in l)) ≡
        (if m then 0 else arity (kind_in l) + arity (kind_in r))
    go true = omega arith
    go false = omega arith
acting_copies None (Some s) l r = go (is_meeting s)
  where
    go : (m : Bool) → (if m then 0 else arity (kind_in l)) + (if m then 0 else arity (kind_in r)) ≡
        (if m then 0 else arity (kind_in l) + arity (kind_in r))
    go true = omega arith
    go false = omega arith
acting_copies None None l r = omega arith

-- so many it made, by the rule of its entry and its pair
pub births_told : (w : ClosedTable) (t : ℕ) (e : Entry) (p : ℕ × ℕ) → e ≡ closed.entry_at w t →
    p ≡ pair_at w.plan.parts w.words t → births_by e.rule p.0 p.1 ≡ births_at w t
births_told w t e p is pair =
    let l = slice_index w.words (block w.plan.parts t) in
    let r = slice_index w.words (block w.plan.parts t + 1) in
    ap (λ (e : Entry). births_by e.rule p.0 p.1) is
    ∙ ap (λ (p : ℕ × ℕ). births_by (closed.entry_at w t).rule p.0 p.1) pair
    ∙ sym (acting_copies (rule_between l r) (rule_between r l) l r)

-- how many the tickets made, with one ticket more
pub births_more : (w : ClosedTable) (t n : ℕ) (before after : List ℕ) → before ≡ births_before w t →
    n ≡ births_at w t → after ≡ before ++ n ∷ [] → after ≡ births_before w (t + 1)
births_more w t n before after b e h =
    let one : suc t ≡ t + 1 = omega arith in
    h ∙ ap (λ xs. xs ++ n ∷ []) b ∙ ap (λ n. births_before w t ++ n ∷ []) e ∙ ap (births_before w) one

-- how many a ticket made, as it was read among all
pub births_read : (w : ClosedTable) (births : List ℕ) (t value : ℕ) → births ≡ births_before w (events_drawn w) →
    t < events_drawn w → value ≡ get_or births t value → value ≡ births_at w t
births_read w births t value e lt got = got
    ∙ get_or_from_slice_get births t (births_at w t) value
    (ap (λ l. slice_get l t) e ∙ one_each (births_at w) (events_in w.plan.parts w.words) t lt)

pub births_long : (w : ClosedTable) (births : List ℕ) → births ≡ births_before w (events_drawn w) →
    length births ≡ events_drawn w
births_long w births e = ap length e ∙ length_each (births_at w) (events_in w.plan.parts w.words)

-- the journal, and the entry of a ticket, as it was read among all
pub journal_long : (w : ClosedTable) → length (journal_drawn w) ≡ events_drawn w
journal_long w = length_each (closed.entry_at w) (events_in w.plan.parts w.words)

pub entry_got : (w : ClosedTable) (t : ℕ) (e : Entry) → e ≡ closed.entry_at w t → t < events_drawn w →
    slice_get (journal_drawn w) t ≡ Some e
entry_got w t e is lt = entry_at w.plan.parts w.words t lt ∙ ap (λ (e : Entry). Some e) (sym is)

pub entry_read : (w : ClosedTable) (t : ℕ) (e : Entry) → e ≡ closed.entry_at w t → t < events_drawn w →
    e ≡ get_or (journal_drawn w) t e
entry_read w t e is lt = sym (get_or_from_slice_get (journal_drawn w) t e e (entry_got w t e is lt))
