-- The joins use up the open ends just where each of these stands in one join and nothing else does
use Rattle.std.proofs.Common.{◌≡◌, ℕ, ◌+◌, ◌<◌, ◌≤◌, ◌==◌, nat_lt, nat_le, true, false, ◌&&◌, not, if◌then◌else◌, List}
use Rattle.std.proofs.Common.{[], ◌∷◌, ◌++◌, Option, Some, None, refl, sym, ap, ◌∙◌, inl, inr, arith, zero, suc}
use Rattle.std.specs.Prelude.{option_map, slice_get}
use Rattle.std.proofs.lemmas.Bool.{cases_eq, cases_Bool, false≢true}
use Rattle.std.proofs.lemmas.Bool.Decides.{nat_tests}
use Rattle.ol_net.specs.declared.parts.Kind.{Kind}
use Rattle.ol_net.specs.declared.parts.JoinEnd.{JoinEnd}
use Rattle.ol_net.specs.declared.parts.JoinEnd.TheVariants.{First, Second, Born}
use Rattle.ol_net.specs.Parts.{arity, slots_of}
use Rattle.ol_net.specs.Graph.{has_slot}
use Rattle.ol_net.specs.Joins.{same_end, ends_from, all_ends, side_ends, born_ends, open_ends}
use Rattle.ol_net.specs.Joins.{remove_end, and_then_end, uses_up, is_open, times_joined, FitIsOnce}
use Rattle.ol_net.proofs.Fitting.{bit, same_end-is, prepended, removed}

-- how often e stands in a list of ends
abbrev among : JoinEnd → List JoinEnd → ℕ
among e [] = 0
among e (x ∷ xs) = bit (same_end e x) + among e xs

among-append : (e : JoinEnd) (xs ys : List JoinEnd) → among e (xs ++ ys) ≡ among e xs + among e ys
among-append e [] ys = omega arith
among-append e (x ∷ xs) ys = omega (arith, among-append e xs ys)

same_end-itself : (e : JoinEnd) → same_end e e ≡ true
same_end-itself (First s) = grind (arith, nat_tests)
same_end-itself (Second s) = grind (arith, nat_tests)
same_end-itself (Born p s) = grind (arith, nat_tests)

among-remove : (e d : JoinEnd) (xs ys : List JoinEnd) → remove_end d xs ≡ Some ys →
    among e xs ≡ bit (same_end e d) + among e ys
among-remove e d [] ys h = absurd (let n : None ≡ Some ys = h in cc)
among-remove e d (x ∷ xs) ys h = elim (cases_Bool (same_end d x)) [
  | inl t ↦
      let q : Some xs ≡ Some ys = rw t at h in
      let xy : xs ≡ ys = cc in
      rw (same_end-is d x t, xy) refl
  | inr t ↦
      let q : option_map (λ zs. x ∷ zs) (remove_end d xs) ≡ Some ys = rw t at h in
      let z = prepended x (remove_end d xs) ys q in
      let ih = among-remove e d xs z.0 z.1 in
      rw z.2 (omega (arith, ih))
]

times-used : (e : JoinEnd) (joins : List (JoinEnd × JoinEnd)) (ends : List JoinEnd) →
    uses_up joins ends ≡ true → times_joined e joins ≡ among e ends
times-used e [] [] h = refl
times-used e [] (x ∷ ends) h = absurd (false≢true h)
times-used e (j ∷ js) ends h =
    let one = removed (remove_end j.0 ends) (λ left. and_then_end (remove_end j.1 left) (uses_up js)) h in
    let two = removed (remove_end j.1 one.0) (uses_up js) one.2 in
    omega (
      arith,
      among-remove e j.0 ends one.0 one.1,
      among-remove e j.1 one.0 two.0 two.1,
      times-used e js two.0 two.2,
    )

found : (e x : JoinEnd) (xs : List JoinEnd) → same_end e x ≡ false →
    (ys : List JoinEnd) × (remove_end e xs ≡ Some ys) → (ys : List JoinEnd) × (remove_end e (x ∷ xs) ≡ Some ys)
found e x xs t r = (x ∷ r.0, rw (t, r.1) refl)

find : (e : JoinEnd) (xs : List JoinEnd) → 1 ≤ among e xs → (ys : List JoinEnd) × (remove_end e xs ≡ Some ys)
find e [] h = absurd (omega arith)
find e (x ∷ xs) h = elim (cases_Bool (same_end e x)) [
  | inl t ↦ (xs, rw t refl)
  | inr t ↦
      let z : bit (same_end e x) ≡ 0 = ap bit t in
      found e x xs t (find e xs (omega arith))
]

used-times : (joins : List (JoinEnd × JoinEnd)) (ends : List JoinEnd) →
    ((e : JoinEnd) → times_joined e joins ≡ among e ends) → uses_up joins ends ≡ true
used-times [] [] h = refl
used-times [] (x ∷ ends) h = absurd (let c = h x in let t = ap bit (same_end-itself x) in omega arith)
used-times (j ∷ js) ends h =
    let t0 = ap bit (same_end-itself j.0) in
    let one = find j.0 ends (omega (arith, h j.0, t0)) in
    let left : (e : JoinEnd) → among e ends ≡ bit (same_end e j.0) + among e one.0 = λ e.
    among-remove e j.0 ends one.0 one.1 in
    let t1 = ap bit (same_end-itself j.1) in
    let two = find j.1 one.0 (omega (arith, h j.1, left j.1, t1)) in
    let rest : (e : JoinEnd) → times_joined e js ≡ among e two.0 = λ e.
    omega (arith, h e, left e, among-remove e j.1 one.0 two.0 two.1) in
    rw (one.1, two.1) (used-times js two.0 rest)

-- The open ends, each once

slots-same : (e : JoinEnd) (f : ℕ → JoinEnd) (s : ℕ) → ((t : ℕ) → same_end e (f t) ≡ (s == t)) →
    (t n : ℕ) → among e (ends_from f t n) ≡ bit (nat_le t s && nat_lt s (t + n))
slots-same e f s same t zero = let z : (nat_le t s && nat_lt s (t + 0)) ≡ false = grind
    (arith, nat_tests) in sym (ap bit z)
slots-same e f s same t (suc n) =
    let ih = slots-same e f s same (t + 1) n in
    let head = ap bit (same t) in
    elim (cases_eq s t) [
      | inl q ↦
          let u : (s == t) ≡ true = grind (arith, nat_tests) in
          let v : (nat_le (t + 1) s && nat_lt s (t + 1 + n)) ≡ false = grind (arith, nat_tests) in
          let w : (nat_le t s && nat_lt s (t + suc n)) ≡ true = grind (arith, nat_tests) in
          omega (arith, ih, head, ap bit u, ap bit v, ap bit w)
      | inr q ↦
          let u : (s == t) ≡ false = grind (arith, nat_tests) in
          let v : (nat_le (t + 1) s && nat_lt s (t + 1 + n)) ≡
          (nat_le t s && nat_lt s (t + suc n)) = grind (arith, nat_tests) in
          omega (arith, ih, head, ap bit u, ap bit v)
    ]

slots-other : (e : JoinEnd) (f : ℕ → JoinEnd) → ((t : ℕ) → same_end e (f t) ≡ false) → (t n : ℕ) →
    among e (ends_from f t n) ≡ 0
slots-other e f other t zero = refl
slots-other e f other t (suc n) = omega (arith, ap bit (other t), slots-other e f other (t + 1) n)

sides-same : (e : JoinEnd) (f : ℕ → JoinEnd) (s : ℕ) → ((t : ℕ) → same_end e (f t) ≡ (s == t)) →
    (o : Option (Kind × ℕ)) → among e (side_ends f o) ≡ bit (has_slot o s && not (s == 0))
sides-same e f s same None = refl
sides-same e f s same (Some k) =
    let t : (nat_le 1 s && nat_lt s (1 + arity k.0)) ≡
    (nat_lt s (slots_of k.0) && not (s == 0)) = grind (arith, nat_tests) in
    slots-same e f s same 1 (arity k.0) ∙ ap bit t

sides-other : (e : JoinEnd) (f : ℕ → JoinEnd) → ((t : ℕ) → same_end e (f t) ≡ false) →
    (o : Option (Kind × ℕ)) → among e (side_ends f o) ≡ 0
sides-other e f other None = refl
sides-other e f other (Some k) = slots-other e f other 1 (arity k.0)

born-other : (e : JoinEnd) → ((p t : ℕ) → same_end e (Born p t) ≡ false) →
    (p : ℕ) (born : List (Kind × ℕ)) → among e (born_ends p born) ≡ 0
born-other e other p [] = refl
born-other e other p (k ∷ born) =
    omega (
      arith,
      among-append e (all_ends (Born p) k.0) (born_ends (p + 1) born),
      slots-other e (Born p) (other p) 0 (slots_of k.0),
      born-other e other (p + 1) born,
    )

born-below : (p s q : ℕ) (born : List (Kind × ℕ)) → p < q → among (Born p s) (born_ends q born) ≡ 0
born-below p s q [] lt = refl
born-below p s q (k ∷ born) lt =
    let other : (t : ℕ) → same_end (Born p s) (Born q t) ≡ false = λ t. grind (arith, nat_tests) in
    omega (
      arith,
      among-append (Born p s) (all_ends (Born q) k.0) (born_ends (q + 1) born),
      slots-other (Born p s) (Born q) other 0 (slots_of k.0),
      born-below p s (q + 1) born (omega arith),
    )

born-same : (p s q m : ℕ) (born : List (Kind × ℕ)) → p ≡ q + m →
    among (Born p s) (born_ends q born) ≡ bit (has_slot (slice_get born m) s)
born-same p s q m [] e = refl
born-same p s q zero (k ∷ born) e =
    let same : (t : ℕ) → same_end (Born p s) (Born q t) ≡ (s == t) = λ t. grind (arith, nat_tests) in
    let head = slots-same (Born p s) (Born q) s same 0 (slots_of k.0) in
    let test : (nat_le 0 s && nat_lt s (0 + slots_of k.0)) ≡ nat_lt s (slots_of k.0) = grind (arith, nat_tests) in
    omega (
      arith,
      among-append (Born p s) (all_ends (Born q) k.0) (born_ends (q + 1) born),
      head,
      ap bit test,
      born-below p s (q + 1) born (omega arith),
    )
born-same p s q (suc m) (k ∷ born) e =
    let other : (t : ℕ) → same_end (Born p s) (Born q t) ≡ false = λ t. grind (arith, nat_tests) in
    omega (
      arith,
      among-append (Born p s) (all_ends (Born q) k.0) (born_ends (q + 1) born),
      slots-other (Born p s) (Born q) other 0 (slots_of k.0),
      born-same p s (q + 1) m born (omega arith),
    )

open_once : (first second : Option (Kind × ℕ)) (born : List (Kind × ℕ)) (e : JoinEnd) →
    among e (open_ends first second born) ≡ (if is_open first second born e then 1 else 0)
open_once first second born e = omega (
  arith,
  among-append e (side_ends First first ++ side_ends Second second) (born_ends 0 born),
  among-append e (side_ends First first) (side_ends Second second),
  parts e,
)
  where
    parts : (e : JoinEnd) → among e (side_ends First first) + among e
        (side_ends Second second) + among e (born_ends 0 born) ≡ bit (is_open first second born e)
    parts (First s) = omega (
      arith,
      sides-same (First s) First s (λ t. refl) first,
      sides-other (First s) Second (λ t. refl) second,
      born-other (First s) (λ p t. refl) 0 born,
    )
    parts (Second s) = omega (
      arith,
      sides-other (Second s) First (λ t. refl) first,
      sides-same (Second s) Second s (λ t. refl) second,
      born-other (Second s) (λ p t. refl) 0 born,
    )
    parts (Born p s) = omega (
      arith,
      sides-other (Born p s) First (λ t. refl) first,
      sides-other (Born p s) Second (λ t. refl) second,
      born-same p s 0 p born (omega arith),
    )

pub fit_is_once : FitIsOnce
fit_is_once first second born joins = (
  λ h e. times-used e joins (open_ends first second born) h ∙ open_once first second born e,
  λ h. used-times joins (open_ends first second born) (λ e. h e ∙ sym (open_once first second born e)),
)
