-- A replay on its way: its numbers stand for the names of a run.
use Rattle.std.proofs.Common.{◌≡◌, ℕ, zero, suc, ◌+◌, ◌-◌, ◌<◌, ◌≤◌, Bool, true, false, nat_lt}
use Rattle.std.proofs.Common.{if◌then◌else◌, List, [], ◌∷◌, ◌++◌, length, length-append, Option}
use Rattle.std.proofs.Common.{None, Some, ◌⊎◌, inl, inr, refl, sym, ap, ◌∙◌, subst, arith}
use Rattle.std.specs.Prelude.{slice_get, slice_index_or}
use Rattle.std.proofs.lemmas.Bool.{cases_lt}
use Rattle.std.proofs.lemmas.Bool.Decides.{nat_tests}
use Rattle.ol_net.specs.Graph.{Graph}
use Rattle.ol_net.specs.Nets.{slot, NamedNet, Linked, net_under}
use Rattle.ol_net.specs.Numbered.{net_of}
use Rattle.ol_rules.specs.declared.journal.NodeName.{NodeName}
use Rattle.ol_rules.specs.declared.journal.NodeName.TheVariants.{Init, Born}
use Rattle.ol_rules.specs.declared.journal.Entry.{Entry}
use Rattle.ol_rules.specs.Names.{comes_before, IsNamed}
use Rattle.ol_rules.specs.Rewriting.{IsStep}
use Rattle.ol_rules.specs.Steps.{StepsAt}
use Rattle.ol_rules.specs.Runs.{IsEntryStep}
use Rattle.ol_rules.proofs.FreshPairs.{linked_sym}
use Rattle.ol_rules.proofs.NameOrder.{Names, names_apart, names_after, names_after_old, names_on}
use Rattle.ol_rules.proofs.Renaming.{net_alike, step_under}
use Rattle.ol_rules.proofs.OnTheWay.{node_below, births_few}
use Rattle.ol_diamond.specs.Replaying.{RewritesNamed}
use Rattle.ol_rules.specs.UnderWay.{number_within, node_number}

-- ---- numbers of names

-- these bases tell the numbers of the names that were given to numbers below next
pub record Index (bases : List ℕ) (next ticket : ℕ) (m : ℕ → NodeName) : Type 0 where
  pub tickets : length bases ≡ suc ticket
  pub last : slice_get bases ticket ≡ Some next
  pub finds : (k : ℕ) → k < next → node_number bases (m k) ≡ Some k
  pub found : (x : NodeName) (k : ℕ) → node_number bases x ≡ Some k → (k < next) × (m k ≡ x)

got_first : (bases : List ℕ) (x t : ℕ) (b : ℕ) → slice_get bases t ≡ Some b → slice_get (bases ++ x ∷ []) t ≡ Some b
got_first [] x t b h = absurd (cc)
got_first (c ∷ bases) x zero b h = h
got_first (c ∷ bases) x (suc t) b h = got_first bases x t b h

got_last : (bases : List ℕ) (x t : ℕ) → length bases ≡ t → slice_get (bases ++ x ∷ []) t ≡ Some x
got_last [] x zero h = refl
got_last [] x (suc t) h = absurd (omega arith)
got_last (c ∷ bases) x zero h = absurd (omega arith)
got_last (c ∷ bases) x (suc t) h = got_last bases x t (omega arith)

-- what stands in the longer list stood before, or is the last
got_cases : (bases : List ℕ) (x t b : ℕ) → slice_get (bases ++ x ∷ []) t ≡ Some b →
    (slice_get bases t ≡ Some b) ⊎ ((t ≡ length bases) × (b ≡ x))
got_cases [] x zero b h = let e : x ≡ b = cc in inr (refl, sym e)
got_cases [] x (suc t) b h = absurd (cc)
got_cases (c ∷ bases) x zero b h = inl h
got_cases (c ∷ bases) x (suc t) b h = go (got_cases bases x t b h)
  where
    go : (slice_get bases t ≡ Some b) ⊎ ((t ≡ length bases) × (b ≡ x)) →
        (slice_get bases t ≡ Some b) ⊎ ((suc t ≡ suc (length bases)) × (b ≡ x))
    go (inl e) = inl e
    go (inr e) = inr (ap suc e.0, e.1)

-- the two bases of a number, and the number's place
record Within (o p : Option ℕ) (place k : ℕ) : Type 0 where
  base : ℕ
  next : ℕ
  first : o ≡ Some base
  second : p ≡ Some next
  is : base + place ≡ k
  below : base + place < next

within : (o p : Option ℕ) (place k : ℕ) → number_within o p place ≡ Some k → Within o p place k
within None p place k h = absurd (cc)
within (Some b) None place k h = absurd (cc)
within (Some b) (Some n) place k h = go (nat_lt (b + place) n) refl h
  where
    go : (v : Bool) → nat_lt (b + place) n ≡ v → (if v then Some (b + place) else None) ≡ Some k →
        Within (Some b) (Some n) place k
    go true e h = let q : b + place ≡ k = cc in
        record { base = b; next = n; first = refl; second = refl; is = q; below = grind (arith, nat_tests) }
    go false e h = absurd (cc)

within_back : (o p : Option ℕ) (place k : ℕ) → Within o p place k → number_within o p place ≡ Some k
within_back o p place k w =
    let e : nat_lt (w.base + place) w.next ≡ true = (let b = w.below in grind (arith, nat_tests)) in
    ap (λ o. number_within o p place) w.first
    ∙ ap (λ p. number_within (Some w.base) p place) w.second
    ∙ ap (λ v. if v then Some (w.base + place) else None) e ∙ ap (λ k. Some k) w.is

-- the bases have a first one
first_kept : (bases : List ℕ) (x : ℕ) → 1 ≤ length bases →
    slice_index_or (bases ++ x ∷ []) 0 0 ≡ slice_index_or bases 0 0
first_kept [] x h = absurd (omega arith)
first_kept (b ∷ bases) x h = refl

number_kept : (bases : List ℕ) (x : ℕ) (name : NodeName) (k : ℕ) → 1 ≤ length bases →
    node_number bases name ≡ Some k → node_number (bases ++ x ∷ []) name ≡ Some k
number_kept bases x (Init n) k l h = ap (λ b. if nat_lt n b then Some n else None) (first_kept bases x l) ∙ h
number_kept bases x (Born t p) k l h =
    let w = within (slice_get bases t) (slice_get bases (suc t)) p k h in
    within_back (slice_get (bases ++ x ∷ []) t) (slice_get (bases ++ x ∷ []) (suc t)) p k
    (record {
      base = w.base;
      next = w.next;
      first = got_first bases x t w.base w.first;
      second = got_first bases x (suc t) w.next w.second;
      is = w.is;
      below = w.below;
    })

-- a number of the longer list was one before, or is of the last ticket
number_cases : (bases : List ℕ) (ticket next x : ℕ) (name : NodeName) (k : ℕ) →
    length bases ≡ suc ticket → slice_get bases ticket ≡ Some next → node_number (bases ++ x ∷ []) name ≡ Some k →
    (node_number bases name ≡ Some k) ⊎ ((next ≤ k) × (k < x) × (name ≡ Born ticket (k - next)))
number_cases bases ticket next x (Init n) k l h e = inl
    (ap (λ b. if nat_lt n b then Some n else None) (sym (first_kept bases x (omega arith))) ∙ e)
number_cases bases ticket next x (Born t p) k l h e = go
    (within (slice_get (bases ++ x ∷ []) t) (slice_get (bases ++ x ∷ []) (suc t)) p k e)
  where
    cases : (w : Within (slice_get (bases ++ x ∷ []) t) (slice_get (bases ++ x ∷ []) (suc t)) p k) →
        (slice_get bases t ≡ Some w.base) ⊎ ((t ≡ length bases) × (w.base ≡ x)) →
        (slice_get bases (suc t) ≡ Some w.next) ⊎ ((suc t ≡ length bases) × (w.next ≡ x)) →
        (node_number bases (Born t p) ≡ Some k) ⊎ ((next ≤ k) × (k < x) × (Born t p ≡ Born ticket (k - next)))
    cases w (inl a) (inl b) = inl (within_back (slice_get bases t) (slice_get bases (suc t)) p k
        (record { base = w.base; next = w.next; first = a; second = b; is = w.is; below = w.below }))
    cases w (inl a) (inr b) =
        let q : t ≡ ticket = omega arith in
        let z : Some w.base ≡ Some next = sym a ∙ ap (slice_get bases) q ∙ h in
        let y : w.base ≡ next = cc in
        let i = w.is in
        let j = w.below in
        let n = b.1 in
        let place : p ≡ k - next = omega arith in
        inr (omega arith, omega arith, ap (λ t. Born t p) q ∙ ap (λ p. Born ticket p) place)
    cases w (inr a) (inl b) = absurd (past bases (suc t) w.next (let q = a.0 in omega arith) b)
      where
        past : (bases : List ℕ) (t n : ℕ) → length bases ≤ t → slice_get bases t ≡ Some n → ⊥
        past [] t n l h = cc
        past (b ∷ bases) zero n l h = omega arith
        past (b ∷ bases) (suc t) n l h = past bases t n (omega arith) h
    cases w (inr a) (inr b) = absurd (let q = a.0 in let r = b.0 in omega arith)

    go : Within (slice_get (bases ++ x ∷ []) t) (slice_get (bases ++ x ∷ []) (suc t)) p k →
        (node_number bases (Born t p) ≡ Some k) ⊎ ((next ≤ k) × (k < x) × (Born t p ≡ Born ticket (k - next)))
    go w = cases w (got_cases bases x t w.base w.first) (got_cases bases x (suc t) w.next w.second)

-- at the start
pub index_first : (start : ℕ) → Index (start ∷ []) start 0 (names_after Init start 0)
index_first start = record {
  tickets = refl;
  last = refl;
  finds = λ k l. let e : nat_lt k start ≡ true = grind (arith, nat_tests) in
      ap (node_number (start ∷ [])) (names_after_old Init start 0 k l) ∙ ap (λ v. if v then Some k else None) e;
  found = found;
}
  where
    found : (x : NodeName) (k : ℕ) → node_number (start ∷ []) x ≡ Some k →
        (k < start) × (names_after Init start 0 k ≡ x)
    found (Init n) k h = go (nat_lt n start) refl h
      where
        go : (v : Bool) → nat_lt n start ≡ v → (if v then Some n else None) ≡ Some k →
            (k < start) × (names_after Init start 0 k ≡ Init n)
        go true e h =
            let q : n ≡ k = cc in
            let b : n < start = grind (arith, nat_tests) in
            (omega arith, names_after_old Init start 0 k (omega arith) ∙ ap (λ k. Init k) (sym q))
        go false e h = absurd (cc)
    found (Born t p) k h = let w = within (slice_get (start ∷ []) t)
        (slice_get (start ∷ []) (suc t)) p k h in let z : None ≡ Some w.next = w.second in absurd (cc)

-- after a ticket's births
pub index_on : (start bases_next ticket next : ℕ) (bases : List ℕ) (m : ℕ → NodeName) →
    bases_next ≤ next → Names start bases_next ticket m → Index bases bases_next ticket m →
    Index (bases ++ next ∷ []) next (suc ticket) (names_after m next (suc ticket))
index_on start old ticket next bases m l names i = record {
  tickets = let t = i.tickets in omega (arith, length-append bases (next ∷ []));
  last = got_last bases next (suc ticket) i.tickets;
  finds = λ k b. ap (node_number (bases ++ next ∷ [])) (names_after_old m next (suc ticket) k b)
      ∙ finds k b (cases_lt k old);
  found = λ x k h. found x k (number_cases bases ticket old next x k i.tickets i.last h);
}
  where
    some : 1 ≤ length bases
    some = let t = i.tickets in omega arith

    finds : (k : ℕ) → k < next → (k < old) ⊎ (old ≤ k) → node_number (bases ++ next ∷ []) (m k) ≡ Some k
    finds k b (inl c) = number_kept bases next (m k) k some (i.finds k c)
    finds k b (inr c) =
        let q : old + (k - old) ≡ k = omega arith in
        let n : m k ≡ Born ticket (k - old) = ap m (sym q) ∙ names.born (k - old) in
        ap (node_number (bases ++ next ∷ [])) n
        ∙ within_back (slice_get (bases ++ next ∷ []) ticket) (slice_get (bases ++ next ∷ []) (suc ticket)) (k - old) k
        (record {
          base = old;
          next = next;
          first = got_first bases next ticket old i.last;
          second = got_last bases next (suc ticket) i.tickets;
          is = q;
          below = omega arith;
        })

    found : (x : NodeName) (k : ℕ) → (node_number bases x ≡ Some k)
        ⊎ ((old ≤ k) × (k < next) × (x ≡ Born ticket (k - old))) → (k < next) × (names_after m next (suc ticket) k ≡ x)
    found x k (inl h) = let f = i.found x k h in
        (omega arith, names_after_old m next (suc ticket) k (omega arith) ∙ f.1)
    found x k (inr h) =
        let q : old + (k - old) ≡ k = omega arith in
        (h.1, names_after_old m next (suc ticket) k h.1 ∙ ap m (sym q) ∙ names.born (k - old) ∙ sym h.2)

-- ---- one line

-- the step of a pair of names
module _ (g g' : Graph) (bases bases' : List ℕ) (a b : NodeName)
    (w : RewritesNamed g g' bases bases' a b) (ordered : comes_before a b ≡ true)
    (start ticket : ℕ) (m : ℕ → NodeName) (n : Names start (length g.nodes) ticket m)
    (i : Index bases (length g.nodes) ticket m) where
  abbrev N : NamedNet ℕ
  N = net_of g

  abbrev s : StepsAt g g' w.f w.rule
  s = w.steps

  other_end : (x y : ℕ) → Linked N (slot x 0) (slot y 0) → w.f ≡ x → w.h ≡ y
  other_end x y k e = let c : slot w.h 0 ≡ slot y 0 = w.old_net.one_link (slot x 0) (slot w.h 0)
      (slot y 0) (subst (λ z. Linked N (slot z 0) (slot w.h 0)) e w.linked) k in cc

  the_pair : ((w.f ≡ s.f) × (w.h ≡ s.g)) ⊎ ((w.f ≡ s.g) × (w.h ≡ s.f))
  the_pair = go s.one_of
    where
      go : (w.f ≡ s.f) ⊎ (w.f ≡ s.g) → ((w.f ≡ s.f) × (w.h ≡ s.g)) ⊎ ((w.f ≡ s.g) × (w.h ≡ s.f))
      go (inl e) = inl (e, other_end s.f s.g s.step.active.faces.linked e)
      go (inr e) = inr (e, other_end s.g s.f (linked_sym N (slot s.f 0) (slot s.g 0) s.step.active.faces.linked) e)

  abbrev pub entry : Entry
  entry = record { rule = w.rule; first = a; second = b }

  named : IsNamed entry (m s.f) (m s.g)
  named = record { ordered = ordered; pair = go the_pair }
    where
      is_a : m w.f ≡ a
      is_a = (i.found a w.f w.first).1

      is_b : m w.h ≡ b
      is_b = (i.found b w.h w.second).1

      go : ((w.f ≡ s.f) × (w.h ≡ s.g)) ⊎ ((w.f ≡ s.g) × (w.h ≡ s.f)) →
          ((a ≡ m s.f) × (b ≡ m s.g)) ⊎ ((a ≡ m s.g) × (b ≡ m s.f))
      go (inl e) = inl (sym is_a ∙ ap m e.0, sym is_b ∙ ap m e.1)
      go (inr e) = inr (sym is_a ∙ ap m e.0, sym is_b ∙ ap m e.1)

  abbrev pub m' : ℕ → NodeName
  m' = names_after m (length g'.nodes) (suc ticket)

  at_least : length g.nodes ≤ length g'.nodes
  at_least = let q = s.numbers in omega arith

  pub few_more : length g'.nodes ≤ length g.nodes + 4
  few_more = let q = s.numbers in let b = births_few w.rule s.step.active.k s.step.active.l in omega arith

  step_named : IsStep (λ p. Born ticket p) (net_under m N) (m s.f) (m s.g) w.rule (net_under m (net_of g'))
  step_named =
      subst (λ born. IsStep born (net_under m N) (m s.f) (m s.g) w.rule (net_under m (net_of g')))
      (λ j. λ p. n.born p j)
      (step_under m (names_apart start (length g.nodes) ticket m n)
      (λ p. length g.nodes + p) N s.f s.g w.rule (net_of g') s.step).0

  pub entry_step : IsEntryStep (net_under m N) ticket entry (net_under m' (net_of g'))
  entry_step = record {
    f = m s.f;
    g = m s.g;
    named = named;
    step = subst (λ M. IsStep (λ p. Born ticket p) (net_under m N) (m s.f) (m s.g) w.rule M) same step_named;
  }
    where
      same : net_under m (net_of g') ≡ net_under m' (net_of g')
      same = net_alike m m' (net_of g') w.new_net
          (λ x k j h. sym (names_after_old m (length g'.nodes) (suc ticket) x (node_below g' x k j h)))

  pub named_on : Names start (length g'.nodes) (suc ticket) m'
  named_on =
      let l = at_least in
      let e : length g.nodes + (length g'.nodes - length g.nodes) ≡ length g'.nodes = omega arith in
      subst (λ next. Names start next (suc ticket) (names_after m next (suc ticket))) e
      (names_on start (length g.nodes) ticket (length g'.nodes - length g.nodes) m n)

  pub indexed_on : Index bases' (length g'.nodes) (suc ticket) m'
  indexed_on = subst (λ bases. Index bases (length g'.nodes) (suc ticket) m') (sym w.bases_on)
      (index_on start (length g.nodes) ticket (length g'.nodes) bases m at_least n i)
