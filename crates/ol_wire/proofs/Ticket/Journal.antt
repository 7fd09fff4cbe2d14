-- The journal after a ticket below the fuel: one entry more, and the net after its step.
-- Used in Cells, Keeps, Reached, Refs, Seats and Words.
use Rattle.std.proofs.Common.{◌≡◌, ◌≢◌, ℕ, zero, suc, ◌+◌, ◌-◌, ◌<◌, ◌≤◌, true, false, if◌then◌else◌, nat_lt, lt-ltb}
use Rattle.std.proofs.Common.{List, [], ◌∷◌, ◌++◌, length, Some, ◌⊎◌, inl, inr, refl, sym, ap, ◌∙◌, subst, arith}
use Rattle.std.specs.Prelude.{slice_get}
use Rattle.std.proofs.lemmas.Bool.{cases_lt}
use Rattle.std.proofs.lemmas.Bool.Decides.{nat_tests}
use Rattle.std.proofs.lemmas.List.{length-append, length-map, map-append}
use Rattle.ol_net.specs.declared.parts.Kind.{Kind}
use Rattle.ol_net.specs.declared.parts.Kind.TheVariants as kind
use Rattle.ol_net.specs.declared.parts.Rule.{Rule}
use Rattle.ol_net.specs.declared.parts.Rule.TheVariants as rules
use Rattle.ol_net.specs.Parts.{arity, is_eraser}
use Rattle.ol_net.specs.Rules.{rule_of}
use Rattle.ol_net.specs.Nets.{slot, NamedNet, HasNode, Linked, Faces}
use Rattle.ol_net.specs.Pairs.{IsActive, HasActive}
use Rattle.ol_rules.specs.declared.journal.NodeName.{NodeName}
use Rattle.ol_rules.specs.declared.journal.NodeName.TheVariants.{Init, Born}
use Rattle.ol_rules.specs.Names.{comes_before, IsNamed}
use Rattle.ol_rules.specs.Laws.{IsFresh}
use Rattle.ol_rules.specs.Rewriting.{crossing, action_of, NodeOf, left, of_f, of_g, Rewrites, IsStep}
use Rattle.ol_rules.specs.Runs.{IsEntryStep, IsRun}
use Rattle.ol_rules.proofs.Born.{at_most_two}
use Rattle.ol_law_edges.proofs.Lists.{got_append, got_last}
use Rattle.ol_rules.proofs.OneRun.{name_same, name_test}
use Rattle.ol_rules.proofs.Relation.{next, net_kept}
use Rattle.ol_rules.proofs.RunsOn.{run_on}
use Rattle.ol_wire.specs.declared.layout.Parts.{Parts}
use Rattle.ol_wire.specs.declared.plan.Plan.{Plan}
use Rattle.ol_wire.specs.References.{node_ref, kind_in, index_in, place_in}
use Rattle.ol_wire.specs.Layout.{place_of, IsPlaced}
use Rattle.ol_wire.specs.Events.{IsPlayed, Event, rule_between, name_at, earlier, later, entry_of}
use Rattle.ol_wire.specs.Rule.{entries_of, JournalKeeps}
use Rattle.ol_wire.specs.Starts.{start_net_of_plan}
use Rattle.ol_wire.proofs.InWords.References.{kind_of_ref, index_of_ref, place_of_ref}
use Rattle.ol_wire.proofs.InWords.Places.{name_of_place, place_same, place_order}

-- ---- lists and runs with one more at the end

pub got_before : {A : Type 0} (xs ys : List A) (n : ℕ) → n < length xs → slice_get (xs ++ ys) n ≡ slice_get xs n
got_before [] ys n lt = absurd (omega arith)
got_before (x ∷ xs) ys zero lt = refl
got_before (x ∷ xs) ys (suc n) lt = got_before xs ys n (omega arith)

pub got_one_more : {A : Type 0} (xs : List A) (x y : A) (n : ℕ) →
    slice_get (xs ++ x ∷ []) n ≡ Some y → (slice_get xs n ≡ Some y) ⊎ ((n ≡ length xs) × (y ≡ x))
got_one_more {A} xs x y n h = go (got_append xs (x ∷ []) n y h)
  where
    at : (q : ℕ) → n ≡ length xs + q → slice_get (x ∷ []) q ≡ Some y → (n ≡ length xs) × (y ≡ x)
    at zero e k = (omega (arith, e), cc)
    at (suc q) e k = absurd (cc)

    go : (slice_get xs n ≡ Some y) ⊎ ((q : ℕ) × (n ≡ length xs + q)
        × (slice_get (x ∷ []) q ≡ Some y)) → (slice_get xs n ≡ Some y) ⊎ ((n ≡ length xs) × (y ≡ x))
    go (inl k) = inl k
    go (inr (q, e, k)) = inr (at q e k)

pub length_one_more : {A : Type 0} (xs : List A) (x : A) → length (xs ++ x ∷ []) ≡ suc (length xs)
length_one_more xs x = omega (arith, length-append xs (x ∷ []))

pub played_on : (z : Parts) (N M P : NamedNet NodeName) (t u : ℕ) (es : List Event) (e : Event)
    (x y : NodeName) → IsPlayed z N t es M → u ≡ t + length es → (s : IsStep (λ place. Born u place) M x y e.rule P)
    → e.f ≡ node_ref s.active.k s.active.i (place_of z x) →
    e.g ≡ node_ref s.active.l s.active.j (place_of z y) → IsPlayed z N t (es ++ e ∷ []) P
played_on z N M P t u [] e x y IsPlayed.end h s f g =
    let q : u ≡ t = omega arith in
    let S : ℕ → Type 0 = λ u. (s : IsStep (λ place. Born u place) N x y e.rule P)
    × (e.f ≡ node_ref s.active.k s.active.i (place_of z x))
    × (e.g ≡ node_ref s.active.l s.active.j (place_of z y)) in
    let r = subst S q (s, f, g) in
    IsPlayed.then x y r.0 r.1 r.2 IsPlayed.end
played_on z N M P t u (d ∷ es) e x y
    (IsPlayed.then {M = K} x' y' s' f' g' r) h s f g = IsPlayed.then x' y' s' f' g'
    (played_on z K M P (suc t) u es e x y r (omega arith) s f g)

-- ---- the table of rules

-- the index of a copy of g is at most one more
pub index_near : (r : Rule) (n c : ℕ) → action_of r n ≡ crossing c → c ≤ n + 1
index_near rules.Beta n c h = absurd (cc)
index_near rules.Fan n c h = absurd (cc)
index_near rules.Croissant n c h = absurd (cc)
index_near rules.Bracket n c h = absurd (cc)
index_near rules.CrossFan n c h = let e : n ≡ c = cc in omega (arith, e)
index_near rules.CrossCroissant n c h = let e : n - 1 ≡ c = cc in omega (arith, e)
index_near rules.CrossBracket n c h = let e : n + 1 ≡ c = cc in omega (arith, e)
index_near rules.Erase n c h = let e : n ≡ c = cc in omega (arith, e)

-- only an eraser acts on an eraser, and it has no slots
pub eraser_by : (k l : Kind) (i n : ℕ) (r : Rule) → rule_of k i l n ≡ Some r → is_eraser l ≡ true → arity k ≡ 0
eraser_by kind.Eraser l i n r h e = refl
eraser_by k kind.Eraser i n r h e = absurd (cc)
eraser_by k l i n r h e = absurd (cc)

-- ---- names by their places

pub placed_on : (z : Parts) (x : NodeName) (t u : ℕ) → IsPlaced z t x → t ≤ u → IsPlaced z u x
placed_on z (Init k) t u h le = h
placed_on z (Born v i) t u h le = (omega (arith, h.0), h.1)

-- the nodes that ticket t makes haven't been there
pub born_new : (z : Parts) (x : NodeName) (t i : ℕ) → IsPlaced z t x → x ≢ Born t i
born_new z (Init k) t i h e = cc
born_new z (Born v m) t i h e = let q : v ≡ t = cc in omega (arith, h.0, q)

module _ (z : Parts) (x y : NodeName) (t : ℕ) (e : Event) (low : t < z.fuel) (px : IsPlaced z t x)
    (py : IsPlaced z t y) (apart : x ≢ y)
    (at_f : place_in e.f ≡ place_of z x) (at_g : place_in e.g ≡ place_of z y) where
  places_apart : place_of z x ≢ place_of z y
  places_apart q = apart ((place_same z x y 0 0 t px py (omega arith) (omega arith) (omega (arith, q))).0)

  name_f : name_at z (place_in e.f) ≡ x
  name_f = ap (name_at z) at_f ∙ name_of_place z x (placed_on z x t z.fuel px (omega arith))

  name_g : name_at z (place_in e.g) ≡ y
  name_g = ap (name_at z) at_g ∙ name_of_place z y (placed_on z y t z.fuel py (omega arith))

  -- the entry of an event names its two nodes
  pub entry_names : IsNamed (entry_of z e) x y
  entry_names = elim (cases_lt (place_in e.f) (place_in e.g)) [
    | inl lt ↦
        let a : earlier e.f e.g ≡ e.f = ap (λ b. if b then e.f else e.g) (lt-ltb (place_in e.f) (place_in e.g) lt) in
        let b : later e.f e.g ≡ e.g = ap (λ b. if b then e.g else e.f) (lt-ltb (place_in e.f) (place_in e.g) lt) in
        in_order (ap (λ r. name_at z (place_in r)) a ∙ name_f)
        (ap (λ r. name_at z (place_in r)) b ∙ name_g) (omega (arith, lt, at_f, at_g))
    | inr ge ↦
        let d : nat_lt (place_in e.f) (place_in e.g) ≡ false = grind (arith, nat_tests) in
        let a : earlier e.f e.g ≡ e.g = ap (λ b. if b then e.f else e.g) d in
        let b : later e.f e.g ≡ e.f = ap (λ b. if b then e.g else e.f) d in
        turned (ap (λ r. name_at z (place_in r)) a ∙ name_g)
        (ap (λ r. name_at z (place_in r)) b ∙ name_f) (omega (arith, ge, at_f, at_g, places_apart))
  ]
    where
      before : (u v : NodeName) → IsPlaced z t u → IsPlaced z t v → place_of z u < place_of z v →
          name_at z (place_in (earlier e.f e.g)) ≡ u → name_at z (place_in (later e.f e.g)) ≡ v →
          comes_before (entry_of z e).first (entry_of z e).second ≡ true
      before u v pu pv lt a b = ap (λ n. comes_before n (entry_of z e).second) a
          ∙ ap (comes_before u) b ∙ (place_order z u v t pu pv).1 lt

      in_order : name_at z (place_in (earlier e.f e.g)) ≡ x →
          name_at z (place_in (later e.f e.g)) ≡ y → place_of z x < place_of z y → IsNamed (entry_of z e) x y
      in_order a b lt = record { ordered = before x y px py lt a b; pair = inl (a, b) }

      turned : name_at z (place_in (earlier e.f e.g)) ≡ y →
          name_at z (place_in (later e.f e.g)) ≡ x → place_of z y < place_of z x → IsNamed (entry_of z e) x y
      turned a b lt = record { ordered = before y x py px lt a b; pair = inr (a, b) }

-- ---- the ticket

-- M is the net after the ticket, and the journal has its entry.
pub record Follows (p : Plan) (log : List Event) (N : NamedNet NodeName) (x y : NodeName)
    (k l : Kind) (i n : ℕ) (e : Event) (M : NamedNet NodeName) : Type 0 where
  pub step : IsStep (λ place. Born (length log) place) N x y e.rule M
  pub rewrites : Rewrites (λ place. Born (length log) place) N x y k i l (action_of e.rule n) M
  pub journal : JournalKeeps p (log ++ e ∷ []) M

module _ (p : Plan) (log : List Event) (N : NamedNet NodeName) (j : JournalKeeps p log N)
    (x y : NodeName) (k l : Kind) (i n : ℕ) (e : Event)
    (faces : Faces N x y k i l n) (rule : rule_of k i l n ≡ Some e.rule)
    (f_is : e.f ≡ node_ref k i (place_of p.parts x)) (g_is : e.g ≡ node_ref l n (place_of p.parts y))
    (low : length log < p.parts.fuel) (small : p.parts.fuel ≤ 8000000) where
  abbrev pub active : IsActive N x y e.rule
  active = record { k = k; i = i; l = l; j = n; faces = faces; fits = rule }

  pub has_active : HasActive N
  has_active = (x, y, e.rule, active)

  pub apart : x ≢ y
  apart q = j.is_net.apart (slot x 0) (subst (λ u. Linked N (slot x 0) (slot u 0)) (sym q) faces.linked)

  pub placed_x : IsPlaced p.parts (length log) x
  placed_x = j.names x k i faces.first

  pub placed_y : IsPlaced p.parts (length log) y
  placed_y = j.names y l n faces.second

  -- indexes fit a reference
  pub index_low : (u : NodeName) (m : Kind) (c : ℕ) → HasNode N u m c → c < 16000000
  index_low u m c h = omega (arith, j.indexes u m c h)

  pub index_fits : (u : NodeName) (m : Kind) (c : ℕ) → HasNode N u m c → c < 16777216
  index_fits u m c h = omega (arith, index_low u m c h)

  pub kind_f : kind_in e.f ≡ k
  kind_f = ap kind_in f_is ∙ kind_of_ref k i (place_of p.parts x)

  pub kind_g : kind_in e.g ≡ l
  kind_g = ap kind_in g_is ∙ kind_of_ref l n (place_of p.parts y)

  pub index_f : index_in e.f ≡ i
  index_f = ap index_in f_is ∙ index_of_ref k i (place_of p.parts x) (index_fits x k i faces.first)

  pub index_g : index_in e.g ≡ n
  index_g = ap index_in g_is ∙ index_of_ref l n (place_of p.parts y) (index_fits y l n faces.second)

  pub place_f : place_in e.f ≡ place_of p.parts x
  place_f = ap place_in f_is ∙ place_of_ref k i (place_of p.parts x) (index_fits x k i faces.first)

  pub place_g : place_in e.g ≡ place_of p.parts y
  place_g = ap place_in g_is ∙ place_of_ref l n (place_of p.parts y) (index_fits y l n faces.second)

  pub rule_is : rule_between e.f e.g ≡ Some e.rule
  rule_is = ap (λ k. rule_of k (index_in e.f) (kind_in e.g) (index_in e.g)) kind_f
      ∙ ap (λ i. rule_of k i (kind_in e.g) (index_in e.g)) index_f
      ∙ ap (λ l. rule_of k i l (index_in e.g)) kind_g ∙ ap (rule_of k i l) index_g ∙ rule

  pub named : IsNamed (entry_of p.parts e) x y
  named = entry_names p.parts x y (length log) e low placed_x placed_y apart place_f place_g

  pub fresh : IsFresh N (λ place. Born (length log) place)
  fresh = record { apart = λ m n e. cc; unused = λ u m c q h. born_new p.parts u (length log) q (j.names u m c h) }

  pub length_after : length (log ++ e ∷ []) ≡ suc (length log)
  length_after = length_one_more log e

  -- the longer log at the ticket, and before it
  pub entry_at : slice_get (log ++ e ∷ []) (length log) ≡ Some e
  entry_at = got_last log e

  pub entry_before : (t : ℕ) → t < length log → slice_get (log ++ e ∷ []) t ≡ slice_get log t
  entry_before t lt = got_before log (e ∷ []) t lt

  pub entry_found : (t : ℕ) (d : Event) → slice_get (log ++ e ∷ []) t ≡ Some d →
      (slice_get log t ≡ Some d) ⊎ ((t ≡ length log) × (d ≡ e))
  entry_found t d h = got_one_more log e d t h

  module _ (M : NamedNet NodeName) (r : Rewrites (λ place. Born (length log) place) N x y k i l
      (action_of e.rule n) M) where
    names_after : (u : NodeName) (m : Kind) (c : ℕ) → HasNode M u m c → IsPlaced p.parts (length (log ++ e ∷ [])) u
    names_after u m c h = go u m c ((r.nodes u m c).0 h)
      where
        go : (u : NodeName) (m : Kind) (c : ℕ) →
            NodeOf N (λ place. Born (length log) place) x y k i l (action_of e.rule n) u m c →
            IsPlaced p.parts (length (log ++ e ∷ [])) u
        go u m c (left h a b) = placed_on p.parts u (length log) (length (log ++ e ∷ []))
            (j.names u m c h) (omega (arith, length_after))
        go u m c (of_f j a lt) = (omega (arith, length_after), omega (arith, at_most_two l))
        go u m c (of_g j a lt) = (omega (arith, length_after), omega (arith, at_most_two l, at_most_two k))

    indexes_after : (u : NodeName) (m : Kind) (c : ℕ) → HasNode M u m c → c ≤ 1000000 + length (log ++ e ∷ [])
    indexes_after u m c h = go u m c ((r.nodes u m c).0 h)
      where
        go : (u : NodeName) (m : Kind) (c : ℕ) →
            NodeOf N (λ place. Born (length log) place) x y k i l (action_of e.rule n) u m c →
            c ≤ 1000000 + length (log ++ e ∷ [])
        go u m c (left h a b) = omega (arith, length_after, j.indexes u m c h)
        go u m c (of_f d a lt) = omega (arith, length_after, j.indexes x k i faces.first)
        go u m c (of_g d a lt) = omega (arith, length_after, j.indexes y l n faces.second, index_near e.rule n d a)

    erasers_after : (u : NodeName) (m : Kind) (c : ℕ) → HasNode M u m c → is_eraser m ≡ true → c ≡ 0
    erasers_after u m c h = go u m c ((r.nodes u m c).0 h)
      where
        go : (u : NodeName) (m : Kind) (c : ℕ) →
            NodeOf N (λ place. Born (length log) place) x y k i l (action_of e.rule n) u m c →
            is_eraser m ≡ true → c ≡ 0
        go u m c (left h a b) is = j.erasers u m c h is
        go u m c (of_f d a lt) is = j.erasers x k i faces.first is
        go u m c (of_g d a lt) is = absurd (omega (arith, lt, eraser_by k l i n e.rule rule is))

    rules_after : (t : ℕ) (d : Event) → slice_get (log ++ e ∷ []) t ≡ Some d → rule_between d.f d.g ≡ Some d.rule
    rules_after t d h = go (entry_found t d h)
      where
        go : (slice_get log t ≡ Some d) ⊎ ((t ≡ length log) × (d ≡ e)) → rule_between d.f d.g ≡ Some d.rule
        go (inl h) = j.rules t d h
        go (inr h) = subst (λ d. rule_between d.f d.g ≡ Some d.rule) (sym h.1) rule_is

    run_after : IsRun (start_net_of_plan p) 0 (entries_of p.parts (log ++ e ∷ [])) M
    run_after =
        let s : IsEntryStep N (length log) (entry_of p.parts e) M = record {
          f = x;
          g = y;
          named = named;
          step = record { active = active; rewrites = r };
        } in
        let h : length log ≡ 0 + length (entries_of p.parts log) = omega (arith, length-map log (entry_of p.parts)) in
        subst (λ es. IsRun (start_net_of_plan p) 0 es M)
        (sym (map-append (entry_of p.parts) log (e ∷ [])))
        (run_on (start_net_of_plan p) N M 0 (length log) (entries_of p.parts log) (entry_of p.parts e) j.run h s)

    played_after : IsPlayed p.parts (start_net_of_plan p) 0 (log ++ e ∷ []) M
    played_after = played_on p.parts (start_net_of_plan p) N M 0 (length log) log e x y j.played
        (omega arith) (record { active = active; rewrites = r }) f_is g_is

    -- what comes by the step is the net after the journal with its entry
    pub journal_after : JournalKeeps p (log ++ e ∷ []) M
    journal_after = record {
      run = run_after;
      played = played_after;
      is_net = net_kept name_same name_test
          (λ place. Born (length log) place) N x y k i l n e.rule j.is_net faces fresh rule M r;
      ports = r.free_ports ∙ j.ports;
      names = names_after;
      indexes = indexes_after;
      erasers = erasers_after;
      rules = rules_after;
    }

  -- and there is such a net
  pub ticket_follows : (M : NamedNet NodeName) × Follows p log N x y k l i n e M
  ticket_follows =
      let t = next name_same name_test (λ place.
      Born (length log) place) N x y k i l n e.rule j.is_net faces fresh rule in (
        t.0,
        record {
          step = record { active = active; rewrites = t.1.rewrites };
          rewrites = t.1.rewrites;
          journal = journal_after t.0 t.1.rewrites;
        },
      )
