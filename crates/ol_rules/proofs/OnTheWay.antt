-- A run on its way: its journal and its names stand for what its net is, and a step goes on.
use Rattle.std.proofs.Common.{◌≡◌, ◌≢◌, ℕ, suc, zero, ◌+◌, ◌*◌, ◌-◌, ◌<◌, ◌≤◌, true, false, nat_lt}
use Rattle.std.proofs.Common.{if◌then◌else◌, List, [], ◌∷◌, ◌++◌, length, length-append, Some, None}
use Rattle.std.proofs.Common.{get_or, slice_get, ◌⊎◌, inl, inr, refl, sym, ap, ◌∙◌, subst, arith}
use Rattle.std.proofs.lemmas.Bool.{cases_lt}
use Rattle.std.proofs.lemmas.Bool.Decides.{nat_tests}
use Rattle.std.proofs.lemmas.List.{get_or_past}
use Rattle.std.proofs.lemmas.Option.{slice_get-get_or, slice_get_within}
use Rattle.ol_net.specs.declared.parts.Kind.{Kind}
use Rattle.ol_net.specs.declared.parts.Kind.TheVariants as kind
use Rattle.ol_net.specs.declared.parts.Rule.{Rule}
use Rattle.ol_net.specs.Parts.{arity}
use Rattle.ol_net.specs.Graph.{Graph}
use Rattle.ol_net.specs.Nets.{slot, NamedNet, HasNode, Linked, IsNet, net_under}
use Rattle.ol_net.specs.Numbered.{net_of}
use Rattle.ol_net.specs.Pairs.{IsInActive}
use Rattle.ol_net.proofs.Numbered.{has_node}
use Rattle.ol_rules.specs.declared.journal.NodeName.{NodeName}
use Rattle.ol_rules.specs.declared.journal.NodeName.TheVariants.{Init, Born}
use Rattle.ol_rules.specs.declared.journal.Entry.{Entry}
use Rattle.ol_rules.specs.Rewriting.{IsStep, is_meeting}
use Rattle.ol_rules.specs.Laws.{IsFresh}
use Rattle.ol_rules.specs.Names.{comes_before, IsNamed}
use Rattle.ol_rules.specs.Runs.{IsLead, end, names_born, LeadsTo}
use Rattle.ol_rules.specs.Steps.{births, StepsAt}
use Rattle.ol_rules.specs.Running.{IsLeast}
use Rattle.ol_rules.specs.UnderWay.{name_in, IsPair}
use Rattle.ol_rules.proofs.NameOrder.{Names, names_apart, names_after, names_after_old, names_on}
use Rattle.ol_rules.proofs.NameOrder.{names_first, not_before, not_before_itself}
use Rattle.ol_rules.proofs.Renaming.{net_alike, active_to, active_from, step_under}
use Rattle.ol_rules.proofs.FreshPairs.{linked_sym}
use Rattle.ol_law_edges.proofs.Lists.{got_append}
use Rattle.ol_rules.proofs.LeadRuns.{Led, Stepped, led_on}

-- a node's number was given out
pub node_below : (g : Graph) (x : ℕ) (k : Kind) (i : ℕ) → HasNode (net_of g) x k i → x < length g.nodes
node_below g x k i h = go (cases_lt x (length g.nodes))
  where
    go : (x < length g.nodes) ⊎ (length g.nodes ≤ x) → x < length g.nodes
    go (inl b) = b
    go (inr b) = let e = (has_node g x k i).0 h in let e' = get_or_past g.nodes x None b in absurd (cc)

-- so the next numbers are new
pub fresh_numbers : (g : Graph) → IsFresh (net_of g) (λ place. length g.nodes + place)
fresh_numbers g = record {
  apart = λ m n e. omega arith;
  unused = λ x k i p h e. (let b = node_below g x k i h in absurd (omega arith));
}

pub births_few : (r : Rule) (k l : Kind) → births r k l ≤ 4
births_few r k l = go (is_meeting r) (few k) (few l)
  where
    few : (k : Kind) → arity k ≤ 2
    few kind.Lam = omega arith
    few kind.App = omega arith
    few kind.Fan = omega arith
    few kind.Croissant = omega arith
    few kind.Bracket = omega arith
    few kind.Eraser = omega arith

    go : (b : _) → arity k ≤ 2 → arity l ≤ 2 → (if b then 0 else arity l + arity k) ≤ 4
    go true a c = omega arith
    go false a c = omega arith

pub step_few : (g g' : Graph) (at : ℕ) (r : Rule) → StepsAt g g' at r → length g'.nodes ≤ length g.nodes + 4
step_few g g' at r s = let q = s.numbers in let b = births_few r s.step.active.k s.step.active.l in omega arith

-- what is rewritten was an active pair by this rule
pub pair_of_step : (g g' : Graph) (x y : ℕ) (r : Rule) → StepsAt g g' x r →
    Linked (net_of g) (slot x 0) (slot y 0) → IsPair (net_of g) x y r
pair_of_step g g' x y r s l = (go s.one_of, l)
  where
    go : (x ≡ s.f) ⊎ (x ≡ s.g) → IsInActive (net_of g) x r
    go (inl e) = subst (λ n. IsInActive (net_of g) n r) (sym e) (s.g, inl s.step.active)
    go (inr e) = subst (λ n. IsInActive (net_of g) n r) (sym e) (s.f, inr s.step.active)

-- the step of x, whose principal port is linked to that of y
module _ (g g' : Graph) (is_net : IsNet (net_of g)) (x y : ℕ) (r : Rule) (s : StepsAt g g' x r)
    (l : Linked (net_of g) (slot x 0) (slot y 0)) where
  other_end : (f h : ℕ) → Linked (net_of g) (slot f 0) (slot h 0) → x ≡ f → y ≡ h
  other_end f h a e = let c = is_net.one_link (slot f 0) (slot y 0) (slot h 0)
      (subst (λ z. Linked (net_of g) (slot z 0) (slot y 0)) e l) a in cc

  pub the_pair : ((x ≡ s.f) × (y ≡ s.g)) ⊎ ((x ≡ s.g) × (y ≡ s.f))
  the_pair = go s.one_of
    where
      go : (x ≡ s.f) ⊎ (x ≡ s.g) → ((x ≡ s.f) × (y ≡ s.g)) ⊎ ((x ≡ s.g) × (y ≡ s.f))
      go (inl e) = inl (e, other_end s.f s.g s.step.active.faces.linked e)
      go (inr e) = inr (
        e,
        other_end s.g s.f (linked_sym (net_of g) (slot s.f 0) (slot s.g 0) s.step.active.faces.linked) e,
      )

  -- the entry of the pair names its two nodes, if x has the smaller number
  pub entry_names : x < y → (start t : ℕ) (m : ℕ → NodeName) → Names start (length g.nodes) t m →
      IsNamed (record { rule = r; first = m x; second = m y }) (m s.f) (m s.g)
  entry_names lesser start t m n = record { ordered = n.rising x y lesser; pair = go the_pair }
    where
      go : ((x ≡ s.f) × (y ≡ s.g)) ⊎ ((x ≡ s.g) × (y ≡ s.f)) →
          ((m x ≡ m s.f) × (m y ≡ m s.g)) ⊎ ((m x ≡ m s.g) × (m y ≡ m s.f))
      go (inl e) = inl (ap m e.0, ap m e.1)
      go (inr e) = inr (ap m e.0, ap m e.1)

-- the step of the least pair, under the names of a run
module _ (g g' : Graph) (is_net : IsNet (net_of g)) (at partner : ℕ) (r : Rule)
    (s : StepsAt g g' at r) (least : IsLeast g at partner) where
  abbrev N : NamedNet ℕ
  N = net_of g

  pub lesser : at < partner
  lesser = go (the_pair g g' is_net at partner r s least.linked)
    where
      apart : at ≢ partner
      apart e = is_net.apart (slot at 0) (subst (λ z. Linked N (slot at 0) (slot z 0)) (sym e) least.linked)

      go : ((at ≡ s.f) × (partner ≡ s.g)) ⊎ ((at ≡ s.g) × (partner ≡ s.f)) → at < partner
      go (inl e) = let b = least.least s.g r (s.f, inr s.step.active) in let n = apart in omega arith
      go (inr e) = let b = least.least s.f r (s.g, inl s.step.active) in let n = apart in omega arith

  module _ (start t : ℕ) (m : ℕ → NodeName) (n : Names start (length g.nodes) t m) where
    abbrev e : Entry
    e = record { rule = r; first = m at; second = m partner }

    named : IsNamed e (m s.f) (m s.g)
    named = entry_names g g' is_net at partner r s least.linked lesser start t m n

    pub is_lead : IsLead (net_under m N) e
    is_lead = record {
      f = m s.f;
      g = m s.g;
      named = named;
      active = active_to m N s.f s.g r s.step.active;
      least = λ F G r' a.
          let b = active_from m (names_apart start (length g.nodes) t m n) N F G r' a in (
            not_before_least b.0 F b.2 (least.least b.0 r' (b.1, inl b.4)),
            not_before_least b.1 G b.3 (least.least b.1 r' (b.0, inr b.4)),
          );
    }
      where
        before : (x : ℕ) → at ≤ x → (x < at) ⊎ (at ≤ x) → (at < x) ⊎ (x ≤ at) → comes_before (m x) (m at) ≡ false
        before x b (inl c) d = absurd (omega arith)
        before x b (inr c) (inl d) = not_before (m at) (m x) (n.rising at x d)
        before x b (inr c) (inr d) = let e : x ≡ at = omega arith in
            subst (λ z. comes_before (m z) (m at) ≡ false) (sym e) (not_before_itself (m at))

        not_before_least : (x : ℕ) (F : NodeName) → F ≡ m x → at ≤ x → comes_before F (m at) ≡ false
        not_before_least x F q b = subst (λ F. comes_before F (m at) ≡ false) (sym q)
            (before x b (cases_lt x at) (cases_lt at x))

    -- the step, whose births have these names
    abbrev StepBy : (ℕ → NodeName) → Type 0
    StepBy born = (u : IsStep born (net_under m N) (m s.f) (m s.g) r (net_under m (net_of g')))
        × (births r u.active.k u.active.l ≡ length g'.nodes - length g.nodes)

    pub entry_step : Stepped (net_under m N) t e (net_under m (net_of g')) (length g'.nodes - length g.nodes)
    entry_step = (record { f = m s.f; g = m s.g; named = named; step = on.0 }, on.1)
      where
        first : StepBy (λ p. m (length g.nodes + p))
        first =
            let u = step_under m (names_apart start (length g.nodes) t m n)
            (λ p. length g.nodes + p) N s.f s.g r (net_of g') s.step in
            let q = s.numbers in
            (u.0, ap (λ k. births r k u.0.active.l) u.1 ∙ ap (λ l. births r s.step.active.k l) u.2 ∙ omega arith)

        on : StepBy (λ p. Born t p)
        on = subst StepBy (λ i. λ p. n.born p i) first

-- these are the names of the numbers from start on
abbrev pub AreFrom : ℕ → List NodeName → (ℕ → NodeName) → Type 0
AreFrom start names m = (p : ℕ) (x : NodeName) → slice_get names p ≡ Some x → m (start + p) ≡ x

pub length-names_born : (t b : ℕ) → length (names_born t b) ≡ b
length-names_born t zero = refl
length-names_born t (suc b) = let e = length-names_born t b in
    omega (arith, length-append (names_born t b) (Born t b ∷ []))

name_born : (t b p : ℕ) (x : NodeName) → slice_get (names_born t b) p ≡ Some x → Born t p ≡ x
name_born t zero p x h = absurd (cc)
name_born t (suc b) p x h = go (name_born t b p x) (got_append (names_born t b) (Born t b ∷ []) p x h)
  where
    go : (slice_get (names_born t b) p ≡ Some x → Born t p ≡ x) →
        (slice_get (names_born t b) p ≡ Some x)
        ⊎ ((q : ℕ) × (p ≡ length (names_born t b) + q) × (slice_get (Born t b ∷ []) q ≡ Some x)) → Born t p ≡ x
    go ih (inl h) = ih h
    go ih (inr (zero, e, h)) = let l = length-names_born t b in let e' : p ≡ b = omega arith in ap (Born t) e' ∙ (cc)
    go ih (inr (suc q, e, h)) = absurd (cc)

-- the names go on by those that a ticket makes
are_from_on : (start next t b : ℕ) (names : List NodeName) (m : ℕ → NodeName) →
    start + length names ≡ next → ((p : ℕ) → m (next + p) ≡ Born t p) → AreFrom start names m →
    AreFrom start (names ++ names_born t b) m
are_from_on start next t b names m count born from p x h = go (got_append names (names_born t b) p x h)
  where
    go : (slice_get names p ≡ Some x) ⊎ ((q : ℕ) × (p ≡ length names + q)
        × (slice_get (names_born t b) q ≡ Some x)) → m (start + p) ≡ x
    go (inl h) = from p x h
    go (inr (q, e, h)) = let e' : start + p ≡ next + q = omega arith in ap m e' ∙ born q ∙ name_born t b q x h

-- g is what the leads of this journal leave of old, and the names of its numbers from start on are these
pub record IsUnderWay (old g : Graph) (start : ℕ) (names : List NodeName) (journal : List Entry) : Type 0 where
  pub m : ℕ → NodeName
  pub named : Names (length old.nodes) (length g.nodes) (length journal) m
  pub start_is : start ≡ length old.nodes
  pub count : start + length names ≡ length g.nodes
  pub from : AreFrom (length old.nodes) names m
  pub few : length g.nodes ≤ length old.nodes + 4 * length journal
  pub led : Led (net_under Init (net_of old)) 0 journal (net_under m (net_of g)) names

-- the name that is kept for a number
pub listed : (old g : Graph) (start : ℕ) (names : List NodeName) (journal : List Entry)
    (u : IsUnderWay old g start names journal) (k : ℕ) → k < length g.nodes → name_in start names k ≡ u.m k
listed old g start names journal u k h = go (cases_lt k start)
  where
    go : (k < start) ⊎ (start ≤ k) → name_in start names k ≡ u.m k
    go (inl c) = let e : nat_lt k start ≡ true = grind (arith, nat_tests) in let s = u.start_is in
        rw e (sym (u.named.initial k (omega arith)))
    go (inr c) =
        let e : nat_lt k start ≡ false = grind (arith, nat_tests) in
        let s = u.start_is in
        let l = u.count in
        let q : length old.nodes + (k - start) ≡ k = omega arith in
        rw e (sym (u.from (k - start) (get_or names (k - start) (Init k))
        (slice_get-get_or names (k - start) (Init k) (omega arith))) ∙ ap u.m q)

-- the naming of a run that is over
unfoldable pub leads_to : (old g : Graph) (names : List NodeName) (journal : List Entry)
    (next t : ℕ) (m : ℕ → NodeName) → Names (length old.nodes) next t m →
    length old.nodes + length names ≡ length g.nodes → AreFrom (length old.nodes) names m →
    Led (net_under Init (net_of old)) 0 journal (net_under m (net_of g)) names → LeadsTo old journal g
leads_to old g names journal next t m n count from led = record {
  names = m;
  run = led.0;
  naming = record {
    initial = n.initial;
    later = λ p x h. from p x (ap (λ ns. slice_get ns p) (sym led.1) ∙ h);
    rising = λ j k h b. n.rising j k h;
  };
  numbers = sym count ∙ ap (λ (ns : List NodeName). length old.nodes + length ns) (sym led.1);
}

-- a run that begins
pub begins : (old : Graph) → IsNet (net_of old) → IsUnderWay old old (length old.nodes) [] []
begins old is_net = record {
  m = m;
  named = names_first (length old.nodes);
  start_is = refl;
  count = omega arith;
  from = λ p x h. absurd (cc);
  few = omega arith;
  led = subst L same (end, refl);
}
  where
    m : ℕ → NodeName
    m = names_after Init (length old.nodes) 0

    L : NamedNet NodeName → Type 0
    L N = Led (net_under Init (net_of old)) 0 [] N []

    same : net_under Init (net_of old) ≡ net_under m (net_of old)
    same = net_alike Init m (net_of old) is_net
        (λ x k i h. sym (names_after_old Init (length old.nodes) 0 x (node_below old x k i h)))

-- a run after one more lead
module _ (old g g' : Graph) (start : ℕ) (names : List NodeName) (journal : List Entry)
    (u : IsUnderWay old g start names journal) (is_net : IsNet (net_of g))
    (at partner : ℕ) (r : Rule) (s : StepsAt g g' at r) (least : IsLeast g at partner) where
  abbrev entry : Entry
  entry = record { rule = r; first = u.m at; second = u.m partner }

  at_least : length g.nodes ≤ length g'.nodes
  at_least = let q = s.numbers in omega arith

  abbrev made : List NodeName
  made = names ++ names_born (length journal) (length g'.nodes - length g.nodes)

  made_count : start + length made ≡ length g'.nodes
  made_count = let c = u.count in let a = at_least in
      let d = length-names_born (length journal) (length g'.nodes - length g.nodes) in
      omega (arith, length-append names (names_born (length journal) (length g'.nodes - length g.nodes)))

  made_from : AreFrom (length old.nodes) made u.m
  made_from = let c = u.count in let s = u.start_is in
      are_from_on (length old.nodes) (length g.nodes) (length journal)
      (length g'.nodes - length g.nodes) names u.m (omega arith) u.named.born u.from

  led_by_one : Led (net_under Init (net_of old)) 0 (journal ++ entry ∷ []) (net_under u.m (net_of g')) made
  led_by_one =
      led_on (net_under Init (net_of old)) (net_under u.m (net_of g)) (net_under u.m (net_of g')) 0
      (length journal) journal entry names (length g'.nodes - length g.nodes) u.led.0 u.led.1
      (is_lead g g' is_net at partner r s least (length old.nodes) (length journal) u.m u.named)
      (omega arith) (entry_step g g' is_net at partner r s least (length old.nodes) (length journal) u.m u.named)

  -- what the journal leads to, whether or not it was written
  pub leads_on : LeadsTo old (journal ++ entry ∷ []) g'
  leads_on = let c = made_count in let s = u.start_is in
      leads_to old g' made (journal ++ entry ∷ []) (length g.nodes) (length journal) u.m u.named
      (omega arith) made_from led_by_one

  births_here : length g'.nodes ≤ length g.nodes + 4
  births_here = let q = s.numbers in let b = births_few r s.step.active.k s.step.active.l in omega arith

  module _ (is_net' : IsNet (net_of g')) where
    pub one_on : IsUnderWay old g' start (names ++ names_born (length journal)
        (length g'.nodes - length g.nodes)) (journal ++ entry ∷ [])
    one_on = record {
      m = m';
      named = named;
      start_is = u.start_is;
      count = made_count;
      from = from;
      few = let a = u.few in let b = births_here in omega (arith, length-append journal (entry ∷ []));
      led = subst L same led_by_one;
    }
      where
        t' : ℕ
        t' = length journal

        m' : ℕ → NodeName
        m' = names_after u.m (length g'.nodes) (suc t')

        new_length : length (journal ++ entry ∷ []) ≡ suc t'
        new_length = omega (arith, length-append journal (entry ∷ []))

        named : Names (length old.nodes) (length g'.nodes) (length (journal ++ entry ∷ [])) m'
        named =
            let a = at_least in
            let e : length g.nodes + (length g'.nodes - length g.nodes) ≡ length g'.nodes = omega arith in
            let P : ℕ → ℕ → Type 0 = λ next ticket.
            Names (length old.nodes) next ticket (names_after u.m next (suc t')) in
            subst (λ ticket. P (length g'.nodes) ticket) (sym new_length)
            (subst (λ next. P next (suc t')) e (names_on (length old.nodes) (length g.nodes) t'
            (length g'.nodes - length g.nodes) u.m u.named))

        L : NamedNet NodeName → Type 0
        L N = Led (net_under Init (net_of old)) 0 (journal ++ entry ∷ []) N made

        same : net_under u.m (net_of g') ≡ net_under m' (net_of g')
        same = net_alike u.m m' (net_of g') is_net'
            (λ x k i h. sym (names_after_old u.m (length g'.nodes) (suc t') x (node_below g' x k i h)))

        from : AreFrom (length old.nodes) made m'
        from p x h = let b = slice_get_within made p x h in let c = made_count in
            let s = u.start_is in names_after_old u.m (length g'.nodes) (suc t')
            (length old.nodes + p) (omega arith) ∙ made_from p x h
