-- The term that ends with a step, and where it begins, by the step: for `start_of`, `starts_of` and `part_at`.
use Rattle.std.proofs.Common.{◌≡◌, ℕ, zero, suc, ◌+◌, ◌-◌, ◌<◌, ◌≤◌, List, [], ◌∷◌, ◌++◌, take, get_or, length, inl, inr}
use Rattle.std.proofs.Common.{Option, Some, IsSome, refl, sym, ap, ◌∙◌, subst, length-append, arith}
use Rattle.std.specs.Prelude.{slice_index, ◌⊎◌}
use Rattle.std.specs.Borrow.{Bor}
use Rattle.std.proofs.lemmas.Bool.{cases_lt}
use Rattle.std.proofs.lemmas.List.{get_or_push}
use Rattle.std.proofs.Math.Seq.{take-length}
use Rattle.ol_parse.specs.Grammar.{Named, var, lam, app}
use Rattle.ol_parse.specs.Flat.{put, built}
use Rattle.ol_parse.specs.Steps.{top_of, term_at, whole, BeginsAt, HaveStartsTo}
use Rattle.ol_parse.specs.declared.flat.Op.{Op}
use Rattle.ol_parse.specs.declared.flat.Op.TheVariants.{Push, Apply, Abstract, ApplyBelow}
use Rattle.ol_parse.proofs.Rows.{step_is, step_can}

-- ---- what a step finds

under_some : (x : Bor (List ℕ)) (ts : List Named) → IsSome (put (Abstract x) ts) →
    (t : Named) × (us : List Named) × (ts ≡ t ∷ us)
under_some x [] s = absurd (cc)
under_some x (t ∷ us) s = (t, us, refl)

apply_some : (ts : List Named) → IsSome (put Apply ts) → (t f : Named) × (us : List Named) × (ts ≡ t ∷ f ∷ us)
apply_some [] s = absurd (cc)
apply_some (t ∷ []) s = absurd (cc)
apply_some (t ∷ f ∷ us) s = (t, f, us, refl)

below_some : (ts : List Named) → IsSome (put ApplyBelow ts) → (f t : Named) × (us : List Named) × (ts ≡ f ∷ t ∷ us)
below_some [] s = absurd (cc)
below_some (f ∷ []) s = absurd (cc)
below_some (f ∷ t ∷ us) s = (f, t, us, refl)

-- the last term that the steps before `at` build
record Last (ops : List Op) (starts : List ℕ) (at : ℕ) (t : Named) (ts : List Named) : Type 0 where
  pub some : 0 < at
  pub is : t ≡ term_at ops (at - 1)
  pub low : slice_index starts (at - 1) ≤ at - 1
  pub before : built (take (slice_index starts (at - 1)) ops) ≡ Some ts

-- the last two terms that the steps before `at` build, the second of which the last is
pub record LastTwo (ops : List Op) (starts : List ℕ) (at : ℕ) (first second : Named) (ts : List Named) : Type 0 where
  pub some : 0 < at
  pub two : 0 < slice_index starts (at - 1)
  pub low : slice_index starts (at - 1) ≤ at - 1
  pub first_is : first ≡ term_at ops (slice_index starts (at - 1) - 1)
  pub second_is : second ≡ term_at ops (at - 1)
  pub lower : slice_index starts (slice_index starts (at - 1) - 1) ≤ at
  pub before : built (take (slice_index starts (slice_index starts (at - 1) - 1)) ops) ≡ Some ts

module _ (ops : List Op) (n : ℕ) (starts : List ℕ) (h : HaveStartsTo ops n starts) where
  last : (at : ℕ) → at ≤ n → (t : Named) (ts : List Named) → built (take at ops) ≡ Some (t ∷ ts) →
      Last ops starts at t ts
  last at le t ts e = elim (cases_lt 0 at) [
    | inl some ↦ (
        let b = h.each (at - 1) (omega arith) in
        let w : (at - 1) + 1 ≡ at = omega arith in
        let same : Some (t ∷ ts) ≡ Some (term_at ops (at - 1) ∷ b.others) = sym e
        ∙ ap (λ n. built (take n ops)) (sym w) ∙ b.after in
        let head : t ≡ term_at ops (at - 1) = cc in
        let tail : b.others ≡ ts = cc in
        record { some = some; is = head; low = b.low; before = b.before ∙ ap (λ l. Some l) tail }
        )
    | inr none ↦ (
        let z : at ≡ 0 = omega arith in
        let nothing : Some [] ≡ Some (t ∷ ts) = ap (λ n. built (take n ops)) (sym z) ∙ e in
        absurd (cc)
        )
  ]

  last_two : (at : ℕ) → at ≤ n → (f t : Named) (ts : List Named) → built (take at ops) ≡ Some (t ∷ f ∷ ts) →
      LastTwo ops starts at f t ts
  last_two at le f t ts e =
      let l = last at le t (f ∷ ts) e in
      let some = l.some in
      let low = l.low in
      let k = last (slice_index starts (at - 1)) (omega arith) f ts l.before in
      let lower = k.low in
      record {
        some = l.some;
        two = k.some;
        low = l.low;
        first_is = k.is;
        second_is = l.is;
        lower = omega arith;
        before = k.before;
      }

  so_far : (at : ℕ) → at ≤ n → (ts : List Named) × (built (take at ops) ≡ Some ts)
  so_far at le = elim (cases_lt 0 at) [
    | inl some ↦ (
        let b = h.each (at - 1) (omega arith) in
        let w : at ≡ (at - 1) + 1 = omega arith in
        (term_at ops (at - 1) ∷ b.others, ap (λ n. built (take n ops)) w ∙ b.after)
        )
    | inr none ↦ (let z : at ≡ 0 = omega arith in ([], ap (λ n. built (take n ops)) z))
  ]

  -- where all steps build something, so do these
  done_by : (at : ℕ) → at ≤ n → at < length ops → Op → (us : List Named) → built ops ≡ Some us →
      IsSome (built (take (at + 1) ops))
  done_by at le inside op us e =
      let (ts, s) = so_far at le in
      subst (λ (o : Option (List Named)). IsSome o) (sym (step_is ops at op ts s inside))
      (step_can ops at op ts s inside us e)

  done_at : (at : ℕ) → at < n → IsSome (built (take (at + 1) ops))
  done_at at inside =
      let b = h.each at inside in
      subst (λ (o : Option (List Named)). IsSome o) (sym b.after) refl

  -- one step
  module _ (at : ℕ) (le : at ≤ n) (inside : at < length ops) (done : IsSome (built (take (at + 1) ops)))
      (d : Op) where
    abbrev op : Op
    op = get_or ops at d

    stepped : (ts : List Named) × (built (take at ops) ≡ Some ts) × (built (take (at + 1) ops) ≡ put op ts)
        × IsSome (put op ts)
    stepped =
        let (ts, e) = so_far at le in
        let s : built (take (at + 1) ops) ≡ put op ts = step_is ops at d ts e inside in
        (ts, e, s, subst (λ (o : Option (List Named)). IsSome o) s done)

    begun : (s : ℕ) (t : Named) (ts : List Named) → s ≤ at → built (take s ops) ≡ Some ts →
        built (take (at + 1) ops) ≡ Some (t ∷ ts) → (term_at ops at ≡ t) × BeginsAt ops at s
    begun s t ts low e w = (
      ap top_of w,
      record { low = low; others = ts; before = e; after = w ∙ ap (λ u. Some (u ∷ ts)) (sym (ap top_of w)) },
    )

    pub of_name : (x : Bor (List ℕ)) → op ≡ Push x → (term_at ops at ≡ var x.now) × BeginsAt ops at at
    of_name x o =
        let (ts, e, s, p) = stepped in
        begun at (var x.now) ts (omega arith) e (s ∙ ap (λ o. put o ts) o)

    pub of_abstraction : (x : Bor (List ℕ)) → op ≡ Abstract x → (0 < at)
        × (term_at ops at ≡ lam x.now (term_at ops (at - 1))) × BeginsAt ops at (slice_index starts (at - 1))
    of_abstraction x o =
        let (ts, e, s, p) = stepped in
        let (t, us, i) = under_some x ts (subst (λ o. IsSome (put o ts)) o p) in
        let l = last at le t us (e ∙ ap (λ l. Some l) i) in
        let low = l.low in
        let b = begun (slice_index starts (at - 1)) (lam x.now t) us (omega arith) l.before
        (s ∙ ap (λ o. put o ts) o ∙ ap (put (Abstract x)) i) in
        (l.some, b.0 ∙ ap (lam x.now) l.is, b.1)

    pub of_application : op ≡ Apply → (f t : Named) × (ts : List Named) × LastTwo ops starts at f t ts
        × (term_at ops at ≡ app (term_at ops (slice_index starts (at - 1) - 1)) (term_at ops (at - 1)))
        × BeginsAt ops at (slice_index starts (slice_index starts (at - 1) - 1))
    of_application o =
        let (ts, e, s, p) = stepped in
        let (t, f, us, i) = apply_some ts (subst (λ o. IsSome (put o ts)) o p) in
        let l = last_two at le f t us (e ∙ ap (λ l. Some l) i) in
        let b = begun (slice_index starts (slice_index starts (at - 1) - 1)) (app f t) us l.lower l.before
        (s ∙ ap (λ o. put o ts) o ∙ ap (put Apply) i) in (
          f,
          t,
          us,
          l,
          b.0 ∙ ap (λ f. app f t) l.first_is
              ∙ ap (app (term_at ops (slice_index starts (at - 1) - 1))) l.second_is,
          b.1,
        )

    pub of_application_below : op ≡ ApplyBelow → (t f : Named) × (ts : List Named) × LastTwo ops starts at t f ts
        × (term_at ops at ≡ app (term_at ops (at - 1)) (term_at ops (slice_index starts (at - 1) - 1)))
        × BeginsAt ops at (slice_index starts (slice_index starts (at - 1) - 1))
    of_application_below o =
        let (ts, e, s, p) = stepped in
        let (f, t, us, i) = below_some ts (subst (λ o. IsSome (put o ts)) o p) in
        let l = last_two at le t f us (e ∙ ap (λ l. Some l) i) in
        let b = begun (slice_index starts (slice_index starts (at - 1) - 1)) (app f t) us l.lower l.before
        (s ∙ ap (λ o. put o ts) o ∙ ap (put ApplyBelow) i) in (
          t,
          f,
          us,
          l,
          b.0 ∙ ap (λ f. app f t) l.second_is
              ∙ ap (app (term_at ops (at - 1))) l.first_is,
          b.1,
        )

-- ---- as the code reads them

module _ (ops : List Op) (at : ℕ) (starts : List ℕ) (h : HaveStartsTo ops at starts) (inside : at < length ops)
    (us : List Named) (all : built ops ≡ Some us) (d : Op) where
  le : at ≤ at
  le = omega arith

  done : IsSome (built (take (at + 1) ops))
  done = done_by ops at starts h at le inside d us all

  pub begins_name : (x : Bor (List ℕ)) → get_or ops at d ≡ Push x → BeginsAt ops at at
  begins_name x o = (of_name ops at starts h at le inside done d x o).1

  pub begins_abstraction : (x : Bor (List ℕ)) → get_or ops at d ≡ Abstract x →
      BeginsAt ops at (slice_index starts (at - 1))
  begins_abstraction x o = (of_abstraction ops at starts h at le inside done d x o).2

  pub begins_application : (get_or ops at d ≡ Apply) ⊎ (get_or ops at d ≡ ApplyBelow) →
      (0 < slice_index starts (at - 1)) × BeginsAt ops at (slice_index starts (slice_index starts (at - 1) - 1))
  begins_application (inl o) =
      let (f, t, ts, l, i, b) = of_application ops at starts h at le inside done d o in
      (l.two, b)
  begins_application (inr o) =
      let (t, f, ts, l, i, b) = of_application_below ops at starts h at le inside done d o in
      (l.two, b)

module _ (ops : List Op) (starts : List ℕ) (h : HaveStartsTo ops (length ops) starts) (at : ℕ)
    (inside : at < length ops) (d : Op) where
  low : at ≤ length ops
  low = omega arith

  ready : IsSome (built (take (at + 1) ops))
  ready = done_at ops (length ops) starts h at inside

  pub is_name : (x : Bor (List ℕ)) → get_or ops at d ≡ Push x → term_at ops at ≡ var x.now
  is_name x o = (of_name ops (length ops) starts h at low inside ready d x o).0

  pub is_abstraction : (x : Bor (List ℕ)) → get_or ops at d ≡ Abstract x →
      (0 < at) × (term_at ops at ≡ lam x.now (term_at ops (at - 1)))
  is_abstraction x o =
      let r = of_abstraction ops (length ops) starts h at low inside ready d x o in
      (r.0, r.1)

  pub is_application : get_or ops at d ≡ Apply →
      (0 < slice_index starts (at - 1)) × (slice_index starts (at - 1) ≤ at - 1)
      × (term_at ops at ≡ app (term_at ops (slice_index starts (at - 1) - 1)) (term_at ops (at - 1)))
  is_application o =
      let (f, t, ts, l, i, b) = of_application ops (length ops) starts h at low inside ready d o in
      (l.two, l.low, i)

  pub is_application_below : get_or ops at d ≡ ApplyBelow →
      (0 < slice_index starts (at - 1)) × (slice_index starts (at - 1) ≤ at - 1)
      × (term_at ops at ≡ app (term_at ops (at - 1)) (term_at ops (slice_index starts (at - 1) - 1)))
  is_application_below o =
      let (t, f, ts, l, i, b) = of_application_below ops (length ops) starts h at low inside ready d o in
      (l.two, l.low, i)

-- ---- one start more

below_pushed : (xs : List ℕ) (y k : ℕ) → k < length xs → slice_index (xs ++ (y ∷ [])) k ≡ slice_index xs k
below_pushed [] y k lt = absurd (omega arith)
below_pushed (x ∷ xs) y zero lt = refl
below_pushed (x ∷ xs) y (suc k) lt = below_pushed xs y k (omega arith)

pub one_more : (ops : List Op) (at : ℕ) (starts : List ℕ) (s : ℕ) → HaveStartsTo ops at starts →
    BeginsAt ops at s → HaveStartsTo ops (at + 1) (starts ++ (s ∷ []))
one_more ops at starts s h b = record {
  long = omega (arith, length-append starts (s ∷ []), h.long);
  each = λ k lt. elim (cases_lt k at) [
    | inl low ↦ (
        let inside : k < length starts = omega (arith, h.long) in
        subst (BeginsAt ops k) (sym (below_pushed starts s k inside)) (h.each k low)
        )
    | inr past ↦ (
        let e : at ≡ k = omega arith in
        subst (λ k. BeginsAt ops k (slice_index (starts ++ (s ∷ [])) k)) e
        (subst (BeginsAt ops at) (sym (get_or_push starts s 0 at h.long)) b)
        )
  ];
}

-- ---- the last step

pub whole_is : (ops : List Op) (t : Named) → built ops ≡ Some (t ∷ []) → (0 < length ops) × (whole ops ≡ t)
whole_is [] t e = absurd (cc)
whole_is (op ∷ ops) t e =
    let some : 0 < length (op ∷ ops) = omega arith in
    let w : length (op ∷ ops) - 1 + 1 ≡ length (op ∷ ops) = omega arith in (
      some,
      ap (λ n. top_of (built (take n (op ∷ ops)))) w
          ∙ ap (λ l. top_of (built l)) (take-length (op ∷ ops)) ∙ ap top_of e,
    )
