-- The one-thread run of a net is one.
use Rattle.std.proofs.Common.{◌≡◌, ℕ, suc, ◌≤◌, Bool, true, false, nat_eq, ◌&&◌, List, [], ◌∷◌}
use Rattle.std.proofs.Common.{length, Some, ◌⊎◌, inl, inr, refl, sym, ap, ◌∙◌, subst, arith}
use Rattle.std.proofs.lemmas.Bool.Decides.{nat_tests}
use Rattle.ol_law_edges.specs.Edges.{IsTest}
use Rattle.ol_net.specs.declared.parts.Kind.{Kind}
use Rattle.ol_net.specs.declared.parts.Rule.{Rule}
use Rattle.ol_net.specs.Rules.{rule_of}
use Rattle.ol_net.specs.Nets.{slot, NamedNet, Linked, IsNet, SameNet}
use Rattle.ol_net.specs.Pairs.{IsActive, IsComplete, HasActive}
use Rattle.ol_rules.specs.declared.journal.NodeName.{NodeName}
use Rattle.ol_rules.specs.declared.journal.NodeName.TheVariants.{Init, Born}
use Rattle.ol_rules.specs.declared.journal.Entry.{Entry}
use Rattle.ol_rules.specs.Names.{comes_before, IsNamed}
use Rattle.ol_rules.specs.Rewriting.{Action, action_of, NodeOf, left, of_f, of_g, Rewrites, IsStep}
use Rattle.ol_rules.specs.Runs.{IsLead, IsLeadRun, end, then, IsOneThread}
use Rattle.ol_rules.specs.Laws.{IsFresh, AreNamedBefore}
use Rattle.ol_rules.proofs.NameOrder.{before_before}
use Rattle.ol_rules.proofs.Relation.{same_sym, net_kept, one_step}
use Rattle.ol_rules.proofs.Same.{active_same, complete_same}
use Rattle.ol_rules.proofs.FreshPairs.{linked_sym}
use Rattle.ol_rules.proofs.BothWays.{both_ways, step_turned}

-- ---- names

-- two names of which neither comes before the other are one
pub one_name : (a b : NodeName) → comes_before a b ≡ false → comes_before b a ≡ false → a ≡ b
one_name (Init m) (Init n) h h' = let e : m ≡ n = grind (arith, nat_tests) in ap (λ n. Init n) e
one_name (Init m) (Born t p) h h' = absurd (cc)
one_name (Born t p) (Init n) h h' = absurd (cc)
one_name (Born t p) (Born u q) h h' = grind (arith, nat_tests)

abbrev pub name_same : NodeName → NodeName → Bool
name_same (Init m) (Init n) = nat_eq m n
name_same (Init m) (Born u q) = false
name_same (Born t p) (Init n) = false
name_same (Born t p) (Born u q) = nat_eq t u && nat_eq p q

pub name_test : IsTest name_same
name_test = record { holds = holds; tells = tells }
  where
    holds : (a : NodeName) → name_same a a ≡ true
    holds (Init m) = grind (arith, nat_tests)
    holds (Born t p) = grind (arith, nat_tests)

    tells : (a b : NodeName) → name_same a b ≡ true → a ≡ b
    tells (Init m) (Init n) h = let e : m ≡ n = grind (arith, nat_tests) in ap (λ n. Init n) e
    tells (Init m) (Born u q) h = absurd (cc)
    tells (Born t p) (Init n) h = absurd (cc)
    tells (Born t p) (Born u q) h = grind (arith, nat_tests)

-- a ticket's names are new where those of all nodes were given before
pub fresh_names : (N : NamedNet NodeName) (t : ℕ) → AreNamedBefore N t → IsFresh N (λ place. Born t place)
fresh_names N t b = record {
  apart = λ m n e. cc;
  unused = λ x m n p h e. clash p (subst (λ x. comes_before x (Born t 0) ≡ true) e (b x m n h));
}
  where
    clash : (p : ℕ) → comes_before (Born t p) (Born t 0) ≡ true → ⊥
    clash p h = grind (arith, nat_tests)

-- and after its step they are names given before the next
pub named_after : (N M : NamedNet NodeName) (t : ℕ) (f g : NodeName) (k : Kind) (i : ℕ) (l : Kind)
    (a : Action) → AreNamedBefore N t → Rewrites (λ place. Born t place) N f g k i l a M → AreNamedBefore M (suc t)
named_after N M t f g k i l a b r x m n h = go x m n ((r.nodes x m n).0 h)
  where
    later : (p q : ℕ) → comes_before (Born t p) (Born (suc t) q) ≡ true
    later p q = grind (arith, nat_tests)

    go : (x : NodeName) (m : Kind) (n : ℕ) → NodeOf N (λ place. Born t place) f g k i l a x m n →
        comes_before x (Born (suc t) 0) ≡ true
    go x m n (left h y z) = before_before x (Born t 0) (Born (suc t) 0) (b x m n h) (later 0 0)
    go x m n (of_f {q = q} j e c) = later q 0
    go x m n (of_g j e c) = later _ 0

-- ---- pairs

-- two pairs are one, either way round
abbrev pub ArePaired : {A : Type 0} → A → A → A → A → Type 0
ArePaired f g f' g' = ((f ≡ f') × (g ≡ g')) ⊎ ((f ≡ g') × (g ≡ f'))

-- two entries of the same names are of one pair
pub one_pair : (e e' : Entry) (f g f' g' : NodeName) → e.first ≡ e'.first → e.second ≡ e'.second →
    IsNamed e f g → IsNamed e' f' g' → ArePaired f g f' g'
one_pair e e' f g f' g' a b n n' = go n.pair n'.pair
  where
    go : ((e.first ≡ f) × (e.second ≡ g)) ⊎ ((e.first ≡ g) × (e.second ≡ f)) →
        ((e'.first ≡ f') × (e'.second ≡ g')) ⊎ ((e'.first ≡ g') × (e'.second ≡ f')) → ArePaired f g f' g'
    go (inl h) (inl h') = inl (sym h.0 ∙ a ∙ h'.0, sym h.1 ∙ b ∙ h'.1)
    go (inl h) (inr h') = inr (sym h.0 ∙ a ∙ h'.0, sym h.1 ∙ b ∙ h'.1)
    go (inr h) (inl h') = inr (sym h.1 ∙ b ∙ h'.1, sym h.0 ∙ a ∙ h'.0)
    go (inr h) (inr h') = inl (sym h.1 ∙ b ∙ h'.1, sym h.0 ∙ a ∙ h'.0)

module _ {A : Type 0} (M : NamedNet A) (is_net : IsNet M) where
  same_rule : (f g : A) (r s : Rule) → IsActive M f g r → IsActive M f g s → r ≡ s
  same_rule f g r s a b =
      let ef = is_net.one_node f a.k b.k a.i b.i a.faces.first b.faces.first in
      let eg = is_net.one_node g a.l b.l a.j b.j a.faces.second b.faces.second in
      let fits : rule_of b.k b.i b.l b.j ≡ Some r =
      subst (λ k. rule_of k b.i b.l b.j ≡ Some r) ef.0
      (subst (λ i. rule_of a.k i b.l b.j ≡ Some r) ef.1
      (subst (λ l. rule_of a.k a.i l b.j ≡ Some r) eg.0
      (subst (λ j. rule_of a.k a.i a.l j ≡ Some r) eg.1 a.fits))) in
      let all : Some r ≡ Some s = sym fits ∙ b.fits in
      cc

  -- the rule of the same nodes, the other acting
  turned_rule : (f g : A) (r s : Rule) (a : IsActive M f g r) → IsActive M g f s → rule_of a.l a.j a.k a.i ≡ Some s
  turned_rule f g r s a b =
      let ef = is_net.one_node f b.l a.k b.j a.i b.faces.second a.faces.first in
      let eg = is_net.one_node g b.k a.l b.i a.j b.faces.first a.faces.second in
      subst (λ k. rule_of k a.j a.k a.i ≡ Some s) eg.0
      (subst (λ i. rule_of b.k i a.k a.i ≡ Some s) eg.1
      (subst (λ l. rule_of b.k b.i l a.i ≡ Some s) ef.0 (subst (λ j. rule_of b.k b.i b.l j ≡ Some s) ef.1 b.fits)))

  one_rule : (f g f' g' : A) (r s : Rule) → ArePaired f g f' g' → IsActive M f g r → IsActive M f' g' s → r ≡ s
  one_rule f g f' g' r s (inl e) a b = same_rule f g r s a
      (subst (λ g. IsActive M f g s) (sym e.1) (subst (λ f. IsActive M f g' s) (sym e.0) b))
  one_rule f g f' g' r s (inr e) a b =
      let b' : IsActive M g f s = subst (λ f. IsActive M g f s) (sym e.0)
      (subst (λ f. IsActive M f g' s) (sym e.1) b) in
      (both_ways a.k a.l a.i a.j r s a.fits (turned_rule f g r s a b')).one_rule

-- steps of one net by one pair leave one net, whichever of the two acts
pub step_either : {A : Type 0} (born : ℕ → A) (M N P Q : NamedNet A) (f g f' g' : A) (r s : Rule) →
    IsNet M → SameNet M N → ArePaired f g f' g' → IsStep born M f g r P → IsStep born N f' g' s Q → SameNet P Q
step_either born M N P Q f g f' g' r s n m (inl e) a b =
    (one_step born M N P Q f g r s n m a
    (subst (λ g. IsStep born N f g s Q) (sym e.1) (subst (λ f. IsStep born N f g' s Q) (sym e.0) b))).1
step_either born M N P Q f g f' g' r s n m (inr e) a b =
    let b' : IsStep born N g f s Q = subst (λ f. IsStep born N g f s Q) (sym e.0)
    (subst (λ f. IsStep born N f g' s Q) (sym e.1) b) in
    let c = a.active in
    let d = active_same N M (same_sym M N m) g f s b'.active in
    let t : IsStep born M g f s P = record {
      active = record {
        k = c.l;
        i = c.j;
        l = c.k;
        j = c.i;
        faces = record {
          first = c.faces.second;
          second = c.faces.first;
          linked = linked_sym M (slot f 0) (slot g 0) c.faces.linked;
        };
        fits = turned_rule M n f g r s c d;
      };
      rewrites = step_turned M f g c.k c.l c.i c.j r s born c.fits (turned_rule M n f g r s c d) P a.rewrites;
    } in
    (one_step born M N P Q g f s s n m t b').1

-- ---- leads

lead_linked : (N : NamedNet NodeName) (e : Entry) → IsLead N e → Linked N (slot e.first 0) (slot e.second 0)
lead_linked N e d = go d.named.pair
  where
    go : ((e.first ≡ d.f) × (e.second ≡ d.g)) ⊎ ((e.first ≡ d.g) × (e.second ≡ d.f)) →
        Linked N (slot e.first 0) (slot e.second 0)
    go (inl h) = subst (λ y. Linked N (slot e.first 0) (slot y 0)) (sym h.1)
        (subst (λ x. Linked N (slot x 0) (slot d.g 0)) (sym h.0) d.active.faces.linked)
    go (inr h) = subst (λ y. Linked N (slot e.first 0) (slot y 0)) (sym h.1)
        (subst (λ x. Linked N (slot x 0) (slot d.f 0)) (sym h.0)
        (linked_sym N (slot d.f 0) (slot d.g 0) d.active.faces.linked))

-- no lead comes before that of the same net
not_earlier : (M N : NamedNet NodeName) (e e' : Entry) → SameNet M N → IsLead M e → IsLead N e' →
    comes_before e.first e'.first ≡ false
not_earlier M N e e' m d d' = go d.named.pair
  where
    go : ((e.first ≡ d.f) × (e.second ≡ d.g)) ⊎ ((e.first ≡ d.g) × (e.second ≡ d.f)) →
        comes_before e.first e'.first ≡ false
    go (inl h) = subst (λ x. comes_before x e'.first ≡ false) (sym h.0)
        (d'.least d.f d.g e.rule (active_same M N m d.f d.g e.rule d.active)).0
    go (inr h) = subst (λ x. comes_before x e'.first ≡ false) (sym h.0)
        (d'.least d.f d.g e.rule (active_same M N m d.f d.g e.rule d.active)).1

record OneLead (e e' : Entry) : Type 0 where
  rule : e.rule ≡ e'.rule
  first : e.first ≡ e'.first
  second : e.second ≡ e'.second

one_lead : (M N : NamedNet NodeName) (e e' : Entry) → IsNet M → SameNet M N → IsLead M e → IsLead N e' → OneLead e e'
one_lead M N e e' n m d d' =
    let first : e.first ≡ e'.first = one_name e.first e'.first (not_earlier M N e e' m d d')
    (not_earlier N M e' e (same_sym M N m) d' d) in
    let there : Linked M (slot e'.first 0)
    (slot e'.second 0) = (m.links (slot e'.first 0) (slot e'.second 0)).1 (lead_linked N e' d') in
    let both = n.one_link (slot e.first 0) (slot e.second 0) (slot e'.second 0) (lead_linked M e d)
    (subst (λ x. Linked M (slot x 0) (slot e'.second 0)) (sym first) there) in
    let second : e.second ≡ e'.second = cc in
    record {
      rule = one_rule M n d.f d.g d'.f d'.g e.rule e'.rule
          (one_pair e e' d.f d.g d'.f d'.g first second d.named d'.named) d.active
          (active_same N M (same_sym M N m) d'.f d'.g e'.rule d'.active);
      first = first;
      second = second;
    }

abbrev entry_of : Rule → NodeName → NodeName → Entry
entry_of r x y = record { rule = r; first = x; second = y }

one_entry : (e e' : Entry) → OneLead e e' → e ≡ e'
one_entry e e' o = ap (λ r. entry_of r e.first e.second) o.rule
    ∙ ap (λ x. entry_of e'.rule x e.second) o.first ∙ ap (λ y. entry_of e'.rule e'.first y) o.second

-- ---- runs

abbrev Stops : NamedNet NodeName → List Entry → List Entry → Type 0
Stops P es es' = IsComplete P ⊎ (length es' ≤ length es)

pub one_run : (M N P Q : NamedNet NodeName) (t : ℕ) (es es' : List Entry) → IsNet M →
    AreNamedBefore M t → SameNet M N → IsLeadRun M t es P → IsLeadRun N t es' Q
    → Stops P es es' → Stops Q es' es → (es ≡ es') × SameNet P Q
one_run M N P Q t [] [] n b m end end s s' = (refl, m)
one_run M N P Q t [] (e' ∷ es') n b m end (then d' st' run') (inl c) s' = absurd
    (complete_same M N m c d'.f d'.g e'.rule d'.active)
one_run M N P Q t [] (e' ∷ es') n b m end (then d' st' run') (inr h) s' = absurd (omega arith)
one_run M N P Q t (e ∷ es) [] n b m (then d st run) end s (inl c) = absurd
    (complete_same N M (same_sym M N m) c d.f d.g e.rule d.active)
one_run M N P Q t (e ∷ es) [] n b m (then d st run) end s (inr h) = absurd (omega arith)
one_run M N P Q t (e ∷ es) (e' ∷ es') n b m (then {M = K} d st run) (then {M = L} d' st' run') s s' =
    let o = one_lead M N e e' n m d d' in
    let k : SameNet K L = step_either (λ place.
    Born t place) M N K L st.f st.g st'.f st'.g e.rule e'.rule n m
    (one_pair e e' st.f st.g st'.f st'.g o.first o.second st.named st'.named) st.step st'.step in
    let a = st.step.active in
    let nk : IsNet K = net_kept name_same name_test
    (λ place. Born t place) M st.f st.g a.k a.i a.l a.j e.rule n a.faces
    (fresh_names M t b) a.fits K st.step.rewrites in
    let bk : AreNamedBefore K (suc t) = named_after M K t st.f st.g a.k a.i a.l
    (action_of e.rule a.j) b st.step.rewrites in
    let r = one_run K L P Q (suc t) es es' nk bk k run run' (rest P es es' e e' s) (rest Q es' es e' e s') in
    (ap (λ e. e ∷ es) (one_entry e e' o) ∙ ap (λ es. e' ∷ es) r.0, r.1)
  where
    rest : (P : NamedNet NodeName) (es es' : List Entry) (e e' : Entry) → Stops P (e ∷ es) (e' ∷ es') → Stops P es es'
    rest P es es' e e' (inl c) = inl c
    rest P es es' e e' (inr h) = inr (omega arith)

pub one_thread_one : (M N P Q : NamedNet NodeName) (fuel : ℕ) (es es' : List Entry) → IsNet M →
    AreNamedBefore M 0 → SameNet M N → IsOneThread M fuel es P → IsOneThread N fuel es' Q → (es ≡ es') × SameNet P Q
one_thread_one M N P Q fuel es es' n b m o o' = one_run M N P Q 0 es es' n b m o.leads o'.leads
    (stops P es es' o.ended o'.within) (stops Q es' es o'.ended o.within)
  where
    stops : (P : NamedNet NodeName) (es es' : List Entry) → IsComplete P ⊎ (length es ≡ fuel) →
        length es' ≤ fuel → Stops P es es'
    stops P es es' (inl c) h = inl c
    stops P es es' (inr e) h = inr (omega arith)

pub complete_or_active : (M N P Q : NamedNet NodeName) (fuel : ℕ) (es es' : List Entry) → IsNet M →
    AreNamedBefore M 0 → SameNet M N → IsOneThread M fuel es P → IsOneThread N fuel es' Q →
    IsComplete P → HasActive Q → ⊥
complete_or_active M N P Q fuel es es' n b m o o' c a =
    let s = (one_thread_one M N P Q fuel es es' n b m o o').1 in
    complete_same P Q s c a.0 a.1 a.2 a.3
