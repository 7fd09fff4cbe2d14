-- No node is rewritten twice along a journal.
-- Used in Told.
use Rattle.std.proofs.Common.{◌≡◌, ℕ, zero, suc, true, List, [], ◌∷◌, Some, ◌⊎◌, inl, inr, refl}
use Rattle.std.proofs.Common.{sym, ap, ◌∙◌, subst, arith}
use Rattle.std.specs.Prelude.{slice_get}
use Rattle.std.proofs.lemmas.Bool.Decides.{nat_tests}
use Rattle.ol_net.specs.declared.parts.Kind.{Kind}
use Rattle.ol_net.specs.Nets.{NamedNet, HasNode}
use Rattle.ol_rules.specs.declared.journal.NodeName.{NodeName}
use Rattle.ol_rules.specs.declared.journal.NodeName.TheVariants.{Born}
use Rattle.ol_rules.specs.declared.journal.Entry.{Entry}
use Rattle.ol_rules.specs.Names.{comes_before}
use Rattle.ol_rules.specs.Rewriting.{action_of, NodeOf, left, of_f, of_g}
use Rattle.ol_rules.specs.Runs.{IsEntryStep, IsRun}
use Rattle.ol_rules.specs.Laws.{AreNamedBefore}
use Rattle.ol_rules.proofs.NameOrder.{before_before}
use Rattle.ol_rules.proofs.OneRun.{named_after}
use Rattle.ol_wire.specs.Closed.{IsOfEntry, NoNodeTwice}

-- the node isn't there, and no ticket from t on makes it
record IsGone (N : NamedNet NodeName) (t : ℕ) (x : NodeName) : Type 0 where
  none : (k : Kind) (i : ℕ) → HasNode N x k i → ⊥
  old : comes_before x (Born t 0) ≡ true

clash : (t p : ℕ) → comes_before (Born t p) (Born t 0) ≡ true → ⊥
clash t p h = grind (arith, nat_tests)

older : (x : NodeName) (t : ℕ) → comes_before x (Born t 0) ≡ true → comes_before x (Born (suc t) 0) ≡ true
older x t h = before_before x (Born t 0) (Born (suc t) 0) h
    (let e : comes_before (Born t 0) (Born (suc t) 0) ≡ true = grind (arith, nat_tests) in e)

module _ (N M : NamedNet NodeName) (t : ℕ) (e : Entry) (st : IsEntryStep N t e M) where
  abbrev made_by : NodeName → Kind → ℕ → Type 0
  made_by x m n = NodeOf N (λ place. Born t place) st.f st.g st.step.active.k st.step.active.i
      st.step.active.l (action_of e.rule st.step.active.j) x m n

  stays_gone : (x : NodeName) → IsGone N t x → IsGone M (suc t) x
  stays_gone x h = record { none = λ m n has. go x m n h ((st.step.rewrites.nodes x m n).0 has); old = older x t h.old }
    where
      go : (x : NodeName) (m : Kind) (n : ℕ) → IsGone N t x → made_by x m n → ⊥
      go x m n h (left has y z) = h.none m n has
      go x m n h (of_f {q = q} j a b) = clash t q h.old
      go x m n h (of_g {p = q} j a b) = clash t _ h.old

  -- the nodes of the entry go
  goes : (x : NodeName) → comes_before x (Born t 0) ≡ true → (x ≡ st.f) ⊎ (x ≡ st.g) → IsGone M (suc t) x
  goes x old one = record {
    none = λ m n has.
        go x m n old one ((st.step.rewrites.nodes x m n).0 has);
    old = older x t old;
  }
    where
      go : (x : NodeName) (m : Kind) (n : ℕ) → comes_before x (Born t 0) ≡ true →
          (x ≡ st.f) ⊎ (x ≡ st.g) → made_by x m n → ⊥
      go x m n old (inl e) (left has y z) = y e
      go x m n old (inr e) (left has y z) = z e
      go x m n old one (of_f {q = q} j a b) = clash t q old
      go x m n old one (of_g {p = q} j a b) = clash t _ old

  one_of_two : (x : NodeName) → IsOfEntry x e → (x ≡ st.f) ⊎ (x ≡ st.g)
  one_of_two x o = go st.named.pair o
    where
      go : ((e.first ≡ st.f) × (e.second ≡ st.g)) ⊎ ((e.first ≡ st.g) × (e.second ≡ st.f)) →
          IsOfEntry x e → (x ≡ st.f) ⊎ (x ≡ st.g)
      go (inl h) (inl o) = inl (sym o ∙ h.0)
      go (inl h) (inr o) = inr (sym o ∙ h.1)
      go (inr h) (inl o) = inr (sym o ∙ h.0)
      go (inr h) (inr o) = inl (sym o ∙ h.1)

  there : (x : NodeName) → (x ≡ st.f) ⊎ (x ≡ st.g) → (k : Kind) × (i : ℕ) × HasNode N x k i
  there x (inl q) = (
    st.step.active.k,
    st.step.active.i,
    subst (λ x. HasNode N x st.step.active.k st.step.active.i) (sym q) st.step.active.faces.first,
  )
  there x (inr q) = (
    st.step.active.l,
    st.step.active.j,
    subst (λ x. HasNode N x st.step.active.l st.step.active.j) (sym q) st.step.active.faces.second,
  )

  not_of_it : (x : NodeName) → IsGone N t x → IsOfEntry x e → ⊥
  not_of_it x h o = let u = there x (one_of_two x o) in h.none u.0 u.1 u.2

  after_it : AreNamedBefore N t → (x : NodeName) → IsOfEntry x e → IsGone M (suc t) x
  after_it b x o = let u = there x (one_of_two x o) in goes x (b x u.0 u.1 u.2) (one_of_two x o)

  still_named : AreNamedBefore N t → AreNamedBefore M (suc t)
  still_named b = named_after N M t st.f st.g st.step.active.k st.step.active.i st.step.active.l
      (action_of e.rule st.step.active.j) b st.step.rewrites

this_one : {X : Type 0} (x y : X) (xs : List X) → slice_get (x ∷ xs) 0 ≡ Some y → x ≡ y
this_one x y xs h = cc

never_again : (N M : NamedNet NodeName) (t : ℕ) (es : List Entry) (x : NodeName) → IsGone N t x →
    IsRun N t es M → (u : ℕ) (d : Entry) → slice_get es u ≡ Some d → IsOfEntry x d → ⊥
never_again N M t [] x h r u d at o = absurd (cc)
never_again N M t (e ∷ es) x h (IsRun.then {M = K} st rest) zero d at o = not_of_it N K t e st x h
    (subst (λ d. IsOfEntry x d) (sym (this_one e d es at)) o)
never_again N M t (e ∷ es) x h (IsRun.then {M = K} st rest) (suc u) d at o = never_again K M
    (suc t) es x (stays_gone N K t e st x h) rest u d at o

gone_for_good : (N M : NamedNet NodeName) (t : ℕ) (es : List Entry) (x : NodeName) → IsGone N t x →
    IsRun N t es M → (k : Kind) (i : ℕ) → HasNode M x k i → ⊥
gone_for_good N M t [] x h IsRun.end = h.none
gone_for_good N M t (e ∷ es) x h (IsRun.then {M = K} st rest) = gone_for_good K M (suc t) es x
    (stays_gone N K t e st x h) rest

-- no node is rewritten twice
pub each_once : (N M : NamedNet NodeName) (t : ℕ) (es : List Entry) → AreNamedBefore N t →
    IsRun N t es M → NoNodeTwice es
each_once N M t [] b r u v d e x at at' o o' = absurd (cc)
each_once N M t (a ∷ es) b (IsRun.then {M = K} st rest) zero zero d e x at at' o o' = refl
each_once N M t (a ∷ es) b (IsRun.then {M = K} st rest) zero (suc v) d e x at at' o o' =
    absurd (never_again K M (suc t) es x
    (after_it N K t a st b x (subst (λ d. IsOfEntry x d) (sym (this_one a d es at)) o)) rest v e at' o')
each_once N M t (a ∷ es) b (IsRun.then {M = K} st rest) (suc u) zero d e x at at' o o' =
    absurd (never_again K M (suc t) es x
    (after_it N K t a st b x (subst (λ d. IsOfEntry x d) (sym (this_one a e es at')) o')) rest u d at o)
each_once N M t (a ∷ es) b (IsRun.then {M = K} st rest) (suc u) (suc v) d e x at at' o o' = ap suc
    (each_once K M (suc t) es (still_named N K t a st b) rest u v d e x at at' o o')

-- and it is gone
pub gone_at_end : (N M : NamedNet NodeName) (t : ℕ) (es : List Entry) → AreNamedBefore N t →
    IsRun N t es M → (u : ℕ) (d : Entry) (x : NodeName) → slice_get es u ≡ Some d → IsOfEntry x d →
    (k : Kind) (i : ℕ) → HasNode M x k i → ⊥
gone_at_end N M t [] b r u d x at o = absurd (cc)
gone_at_end N M t (a ∷ es) b (IsRun.then {M = K} st rest) zero d x at o = gone_for_good K M
    (suc t) es x (after_it N K t a st b x (subst (λ d. IsOfEntry x d) (sym (this_one a d es at)) o)) rest
gone_at_end N M t (a ∷ es) b (IsRun.then {M = K} st rest) (suc u) d x at o = gone_at_end K M
    (suc t) es (still_named N K t a st b) rest u d x at o
