-- The text of a head tells how many binders there are, the text of the variable, and how many arguments.
use Rattle.std.proofs.Common.{◌≡◌, ℕ, zero, suc, ◌+◌, ◌<◌, ◌≤◌, ◌^◌, List, [], ◌∷◌, ◌++◌, length, refl, sym, ap, ◌∙◌, arith, append_assoc}
use Rattle.std.proofs.lemmas.List.{append_cancel_left}
use Rattle.ol_term.specs.BinderNames.{binder_name}
use Rattle.ol_readback.specs.Texts.{abstractions, spaced}
use Rattle.ol_derivations.specs.Heads.{underscores}
use Rattle.ol_derivations.specs.PlacesOfPaths.{opened}
use Rattle.ol_derivations.proofs.Plain.{Lacks, lacks_both, IsPlain, binder_is_plain}

-- ---- parts of a text

parted : (c : ℕ) (xs ys us vs : List ℕ) → Lacks c xs → Lacks c ys → xs ++ (c ∷ us) ≡ ys ++ (c ∷ vs) →
    (xs ≡ ys) × (us ≡ vs)
parted c [] [] us vs h k e = let rest : us ≡ vs = cc in (refl, rest)
parted c [] (y ∷ ys) us vs h k e = let q : y ≡ c = cc in absurd (k.0 q)
parted c (x ∷ xs) [] us vs h k e = let q : x ≡ c = cc in absurd (h.0 q)
parted c (x ∷ xs) (y ∷ ys) us vs h k e =
    let q : x ≡ y = cc in
    let rest : xs ++ (c ∷ us) ≡ ys ++ (c ∷ vs) = cc in
    let r = parted c xs ys us vs h.1 k.1 rest in
    (ap (λ x. x ∷ xs) q ∙ ap (λ xs. y ∷ xs) r.0, r.1)

same_underscores : (m n : ℕ) → underscores m ≡ underscores n → m ≡ n
same_underscores zero zero e = refl
same_underscores zero (suc n) e = absurd (cc)
same_underscores (suc m) zero e = absurd (cc)
same_underscores (suc m) (suc n) e =
    let rest : underscores m ≡ underscores n = cc in ap suc (same_underscores m n rest)

arguments_parted : (x y : List ℕ) (m n : ℕ) → Lacks 32 x → Lacks 32 y → x ++ underscores m ≡ y ++ underscores n →
    (x ≡ y) × (m ≡ n)
arguments_parted [] [] m n h k e = (refl, same_underscores m n e)
arguments_parted [] (y ∷ ys) zero n h k e = absurd (cc)
arguments_parted [] (y ∷ ys) (suc m) n h k e = let q : y ≡ 32 = cc in absurd (k.0 q)
arguments_parted (x ∷ xs) [] m zero h k e = absurd (cc)
arguments_parted (x ∷ xs) [] m (suc n) h k e = let q : x ≡ 32 = cc in absurd (h.0 q)
arguments_parted (x ∷ xs) (y ∷ ys) m n h k e =
    let q : x ≡ y = cc in
    let rest : xs ++ underscores m ≡ ys ++ underscores n = cc in
    let r = arguments_parted xs ys m n h.1 k.1 rest in
    (ap (λ x. x ∷ xs) q ∙ ap (λ xs. y ∷ xs) r.0, r.1)

behind_blank : (x y : List ℕ) → Lacks 46 x → Lacks 46 y → Lacks 46 (32 ∷ (x ++ y))
behind_blank x y h k = (λ e. absurd (omega (arith, e)), lacks_both 46 x y h k)

behind_slash : (x y : List ℕ) → Lacks 46 x → Lacks 46 y → Lacks 46 (92 ∷ (x ++ y))
behind_slash x y h k = (λ e. absurd (omega (arith, e)), lacks_both 46 x y h k)

spaced_lacks : (all : List (List ℕ)) (t l : ℕ) → length all < 2 ^ 32 → t + l ≤ 2 ^ 64 → Lacks 46 (spaced all t l)
spaced_lacks all t zero h k = tt
spaced_lacks all t (suc l) h k = behind_blank (binder_name all t) (spaced all (suc t) l)
    (binder_is_plain all t h (omega arith)).dot (spaced_lacks all (suc t) l h (omega arith))

opened_lacks : (all : List (List ℕ)) (t l : ℕ) → length all < 2 ^ 32 → t + l ≤ 2 ^ 64 → Lacks 46 (opened all t l)
opened_lacks all t zero h k = tt
opened_lacks all t (suc l) h k = behind_slash (binder_name all t) (spaced all (suc t) l)
    (binder_is_plain all t h (omega arith)).dot (spaced_lacks all (suc t) l h (omega arith))

same_spaced : (all : List (List ℕ)) (t l m : ℕ) → spaced all t l ≡ spaced all t m → l ≡ m
same_spaced all t zero zero e = refl
same_spaced all t zero (suc m) e = absurd (cc)
same_spaced all t (suc l) zero e = absurd (cc)
same_spaced all t (suc l) (suc m) e =
    let rest : binder_name all t ++ spaced all (suc t) l ≡ binder_name all t ++ spaced all (suc t) m = cc in
    ap suc (same_spaced all (suc t) l m
    (append_cancel_left (binder_name all t) (spaced all (suc t) l) (spaced all (suc t) m) rest))

same_opened : (all : List (List ℕ)) (t l m : ℕ) → opened all t (suc l) ≡ opened all t (suc m) → l ≡ m
same_opened all t l m e =
    let rest : binder_name all t ++ spaced all (suc t) l ≡ binder_name all t ++ spaced all (suc t) m = cc in
    same_spaced all (suc t) l m
    (append_cancel_left (binder_name all t) (spaced all (suc t) l) (spaced all (suc t) m) rest)

-- the dot behind the binders
dotted : (all : List (List ℕ)) (t l : ℕ) (rest : List ℕ) →
    abstractions all t (suc l) ++ rest ≡ opened all t (suc l) ++ (46 ∷ (32 ∷ rest))
dotted all t l rest =
    let name = binder_name all t in
    let names = spaced all (suc t) l in
    ap (λ s. 92 ∷ (s ++ rest)) (sym (append_assoc name names (46 ∷ (32 ∷ []))))
    ∙ ap (λ s. 92 ∷ s) (append_assoc (name ++ names) (46 ∷ (32 ∷ [])) rest)

-- ---- the whole text

module _ (all : List (List ℕ)) (t : ℕ) (few : length all < 2 ^ 32) where
  pub head_parted : (l m : ℕ) (x y : List ℕ) (i j : ℕ) → t + l ≤ 2 ^ 64 → t + m ≤ 2 ^ 64 → IsPlain x → IsPlain y →
      abstractions all t l ++ (x ++ underscores i) ≡ abstractions all t m ++ (y ++ underscores j) →
      (l ≡ m) × (x ≡ y) × (i ≡ j)
  head_parted zero zero x y i j h k p q e =
      let r = arguments_parted x y i j p.blank q.blank e in (refl, r.0, r.1)
  head_parted zero (suc m) [] y zero j h k p q e = absurd (cc)
  head_parted zero (suc m) [] y (suc i) j h k p q e = let s : ◌≡◌ {A = ℕ} 32 92 = cc in absurd (omega (arith, s))
  head_parted zero (suc m) (b ∷ x) y i j h k p q e = let s : b ≡ 92 = cc in absurd (p.slash.0 s)
  head_parted (suc l) zero x [] i zero h k p q e = absurd (cc)
  head_parted (suc l) zero x [] i (suc j) h k p q e = let s : ◌≡◌ {A = ℕ} 92 32 = cc in absurd (omega (arith, s))
  head_parted (suc l) zero x (b ∷ y) i j h k p q e = let s : b ≡ 92 = cc in absurd (q.slash.0 s)
  head_parted (suc l) (suc m) x y i j h k p q e =
      let s = parted 46 (opened all t (suc l)) (opened all t (suc m)) (32 ∷ (x ++ underscores i))
      (32 ∷ (y ++ underscores j)) (opened_lacks all t (suc l) few h) (opened_lacks all t (suc m) few k)
      (sym (dotted all t l (x ++ underscores i)) ∙ e ∙ dotted all t m (y ++ underscores j)) in
      let rest : x ++ underscores i ≡ y ++ underscores j = (let u = s.1 in cc) in
      let r = arguments_parted x y i j p.blank q.blank rest in
      (ap suc (same_opened all t l m s.0), r.0, r.1)
