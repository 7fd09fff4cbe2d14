-- The entries by their tickets, one more at a time: as many as pairs were drawn.
use Rattle.std.proofs.Common.{◌≡◌, ℕ, zero, suc, ◌+◌, ◌<◌, List, [], ◌∷◌, ◌++◌, length, Some, refl}
use Rattle.std.proofs.Common.{ap, ◌∙◌, subst, arith}
use Rattle.std.proofs.lemmas.Option.{get_or_from_slice_get}
use Rattle.std.specs.Prelude.{slice_get}
use Rattle.ol_rules.specs.Listed.{each}
use Rattle.ol_rules.specs.declared.journal.Entry.{Entry}
use Rattle.ol_wire.specs.Closed.{ClosedTable, events_in, pair_at, pairs_drawn, entry_at}
use Rattle.ol_wire.proofs.Closing.Lists.{one_each}
use Rattle.ol_wire.proofs.closed.Words.journal_by.Goals as goal

length_more : {X : Type 0} (xs : List X) (x : X) → length (xs ++ x ∷ []) ≡ suc (length xs)
length_more [] x = refl
length_more (y ∷ xs) x = ap suc (length_more xs x)

length_each : {X : Type 0} (f : ℕ → X) (n : ℕ) → length (each n (λ t. f t ∷ [])) ≡ n
length_each f zero = refl
length_each f (suc n) = length_more (each n (λ t. f t ∷ [])) (f n) ∙ ap suc (length_each f n)

-- the pair of a ticket stands at its place among all
found : (w : ClosedTable) (pairs : List (ℕ × ℕ)) (k : ℕ) → pairs ≡ pairs_drawn w →
    k < events_in w.plan.parts w.words → slice_get pairs k ≡ Some (pair_at w.plan.parts w.words k)
found w pairs k e lt = ap (λ l. slice_get l k) e
    ∙ one_each (pair_at w.plan.parts w.words) (events_in w.plan.parts w.words) k lt

below : (k n m : ℕ) → k < n → n ≡ m → k < m
below k n m lt e = omega (arith, lt, e)

as_many : (w : ClosedTable) (pairs : List (ℕ × ℕ)) → pairs ≡ pairs_drawn w →
    length pairs ≡ events_in w.plan.parts w.words
as_many w pairs e = ap length e ∙ length_each (pair_at w.plan.parts w.words) (events_in w.plan.parts w.words)

one_more : (w : ClosedTable) (k : ℕ) (j j' : List Entry) (x : Entry) →
    j ≡ each k (λ t. entry_at w t ∷ []) → j' ≡ j ++ x ∷ [] → x ≡ entry_at w k →
    j' ≡ each (suc k) (λ t. entry_at w t ∷ [])
one_more w k j j' x e p q = p ∙ ap (λ l. l ++ x ∷ []) e ∙ ap (λ x. each k (λ t. entry_at w t ∷ []) ++ x ∷ []) q

pub index-pair-requires : goal.index-pair-requires
index-pair-requires c = omega (
  arith,
  c.loop-k-test.true,
  c.events-events.ensures,
  as_many c.args.self.now c.args.pairs.now.items c.requires.pairs,
  c.args.pairs.now.ok,
)

pub entry-requires-clause-pair : goal.entry-requires-clause-pair
entry-requires-clause-pair c =
    let w = c.args.self.now in
    let lt = below c.loop-k.k c.events-events.result
    (events_in w.plan.parts w.words) c.loop-k-test.true c.events-events.ensures in
    c.index-pair.ensures ∙ get_or_from_slice_get c.args.pairs.now.items c.loop-k.k
    (pair_at w.plan.parts w.words c.loop-k.k) c.index-pair.result.now
    (found w c.args.pairs.now.items c.loop-k.k c.requires.pairs lt)

pub push-requires : goal.push-requires
push-requires c =
    let w = c.args.self.now in
    record {
      few = omega (
        arith,
        ap length c.loop-k.invariant,
        length_each (entry_at w) c.loop-k.k,
        c.loop-k-test.true,
        c.events-events.type_inv,
      );
    }

pub loop-k-preserved : goal.loop-k-preserved
loop-k-preserved c =
    let w = c.args.self.now in
    let e : suc c.loop-k.k ≡ c.loop-k.k + 1 = omega arith in
    subst (λ n. c.push.new.self ≡ each n (λ t. entry_at w t ∷ [])) e
    (one_more w c.loop-k.k c.loop-k.journal c.push.new.self c.entry.result c.loop-k.invariant
    c.in_ok-push.ensures.ok c.entry.ensures)
