-- A name with primes: as few as it needs.
use Rattle.std.proofs.Common.{◌≡◌, ℕ, zero, suc, ◌+◌, ◌-◌, ◌<◌, ◌≤◌, Bool, true, false, ◌||◌, List, [], ◌∷◌, ◌++◌, append_assoc}
use Rattle.std.proofs.Common.{length, replicate, refl, sym, ap, ◌∙◌, arith}
use Rattle.std.specs.Prelude.{if◌then◌else◌}
use Rattle.std.specs.Str.{bytes_eq}
use Rattle.std.proofs.lemmas.List.{append-nil, length_push}
use Rattle.std.proofs.lemmas.Slice.Eq.{bytes_eq-Decides}
use Rattle.ol_term.specs.BinderNames.{is_among}
use Rattle.ol_steps.specs.Naming.{bytes_in, primed_from, primed}
use Rattle.ol_steps.specs.BinderLaws.{HasFewestPrimes, PrimedIsLeast}

-- a name that is one of some is no longer than all of them together
pub among_short : (taken : List (List ℕ)) (x : List ℕ) → is_among taken x ≡ true → length x ≤ bytes_in taken
among_short [] x h = absurd (cc)
among_short (n ∷ taken) x h = go (λ k. among_short taken x k) (bytes_eq n x) refl h
  where
    go : (is_among taken x ≡ true → length x ≤ bytes_in taken) → (b : Bool) → bytes_eq n x ≡ b →
        (b || is_among taken x) ≡ true → length x ≤ length n + bytes_in taken
    go rest true e k = let l = ap (λ (y : List ℕ). length y) ((bytes_eq-Decides n x).0 e) in omega (arith, l)
    go rest false e k = let l = rest k in omega (arith, l)

-- one prime more, where the name is taken
pub try_fails : (taken : List (List ℕ)) (x : List ℕ) → is_among taken x ≡ true →
    primed taken x ≡ primed taken (x ++ 39 ∷ [])
try_fails taken x h =
    let short = among_short taken x h in
    let one = length_push x 39 in
    let left : bytes_in taken + 1 - length x ≡ suc (bytes_in taken + 1 - length (x ++ 39 ∷ [])) = omega (arith, short, one) in
    ap (λ (n : ℕ). primed_from taken n x) left
    ∙ ap (λ (b : Bool). if b then primed_from taken (bytes_in taken + 1 - length (x ++ 39 ∷ [])) (x ++ 39 ∷ []) else x) h

served : (taken : List (List ℕ)) (n : ℕ) (x : List ℕ) → is_among taken x ≡ false → primed_from taken n x ≡ x
served taken zero x h = refl
served taken (suc n) x h = ap (λ (b : Bool). if b then primed_from taken n (x ++ 39 ∷ []) else x) h

-- no prime more, where it isn't
pub try_serves : (taken : List (List ℕ)) (x : List ℕ) → is_among taken x ≡ false → primed taken x ≡ x
try_serves taken x h = served taken (bytes_in taken + 1 - length x) x h

-- what is left to try
pub left_less : (taken : List (List ℕ)) (x y : List ℕ) → is_among taken x ≡ true → y ≡ x ++ 39 ∷ [] →
    bytes_in taken + 1 - length y < bytes_in taken + 1 - length x
left_less taken x y h e =
    let short = among_short taken x h in
    let one = length_push x 39 in
    let l = ap (λ (z : List ℕ). length z) e in omega (arith, short, one, l)

primes_on : (x : List ℕ) (m : ℕ) → (x ++ 39 ∷ []) ++ replicate m 39 ≡ x ++ replicate (suc m) 39
primes_on x m = append_assoc x (39 ∷ []) (replicate m 39)

-- the least number of primes, by that of a name with one more
one_more : (taken : List (List ℕ)) (x : List ℕ) → is_among taken x ≡ true →
    HasFewestPrimes taken (x ++ 39 ∷ []) (primed taken (x ++ 39 ∷ [])) → HasFewestPrimes taken x (primed taken x)
one_more taken x h r = record {
  primes = suc r.primes;
  is = try_fails taken x h ∙ r.is ∙ primes_on x r.primes;
  new = ap (λ (y : List ℕ). is_among taken y) (try_fails taken x h) ∙ r.new;
  least = least_of;
}
  where
    least_of : (m : ℕ) → m < suc r.primes → is_among taken (x ++ replicate m 39) ≡ true
    least_of zero k = ap (λ (y : List ℕ). is_among taken y) (append-nil x) ∙ h
    least_of (suc m) k =
        ap (λ (y : List ℕ). is_among taken y) (sym (primes_on x m)) ∙ r.least m (omega arith)

none_more : (taken : List (List ℕ)) (x : List ℕ) → is_among taken x ≡ false → HasFewestPrimes taken x (primed taken x)
none_more taken x h = record {
  primes = 0;
  is = try_serves taken x h ∙ sym (append-nil x);
  new = ap (λ (y : List ℕ). is_among taken y) (try_serves taken x h) ∙ h;
  least = λ m k. absurd (omega arith);
}

by_case : (taken : List (List ℕ)) (x : List ℕ) (b : Bool) → is_among taken x ≡ b →
    (is_among taken x ≡ true → HasFewestPrimes taken (x ++ 39 ∷ []) (primed taken (x ++ 39 ∷ []))) →
    HasFewestPrimes taken x (primed taken x)
by_case taken x true e more = one_more taken x e (more e)
by_case taken x false e more = none_more taken x e

least : (n : ℕ) (taken : List (List ℕ)) (x : List ℕ) → bytes_in taken + 1 - length x ≤ n →
    HasFewestPrimes taken x (primed taken x)
least zero taken x few =
    by_case taken x (is_among taken x) refl (λ e. let short = among_short taken x e in absurd (omega (arith, short, few)))
least (suc n) taken x few =
    by_case taken x (is_among taken x) refl
    (λ e. let less = left_less taken x (x ++ 39 ∷ []) e refl in least n taken (x ++ 39 ∷ []) (omega (arith, less, few)))

pub primed_is_least : PrimedIsLeast
primed_is_least taken x = least (bytes_in taken + 1 - length x) taken x (omega arith)
