-- Terms whose free names are numbered by their bytes are convertible where the terms are.
use Rattle.std.proofs.Common.{◌≡◌, ℕ, zero, suc, ◌<◌, ◌==◌, Bool, true, false, if◌then◌else◌, List}
use Rattle.std.proofs.Common.{[], length, Some, refl, sym, ap, ◌∙◌, subst₂, arith}
use Rattle.std.specs.Prelude.{slice_index_or}
use Rattle.std.proofs.lemmas.Bool.{eqb-true, eq-eqb, ltb-true, and_parts}
use Rattle.std.proofs.lemmas.Option.{slice_get-get_or}
use Rattle.ol_term.specs.Trees.{is_named_below}
use Rattle.ol_term.specs.NameLists.{NoNameTwice}
use Rattle.ol_translate.specs.Names.{HasNames}
use Rattle.ol_law_meaning.specs.Contraction.{Tree, var, free, lam, app}
use Rattle.ol_law_meaning.specs.Shows.{ready, contract}
use Rattle.ol_law_confluence.specs.Reductions.{Convertible, contracts, same, turned, joined}
use Rattle.ol_law_confluence.specs.Compared.{number_of, renamed, by_bytes}
use Rattle.ol_law_confluence.proofs.Meetings.{convertible}
use Rattle.ol_law_confluence.proofs.Renamings.{renamed_beta, number_of_one}

-- ---- numbers, and back

pub renamed_convertible : {t u : Tree} (f : ℕ → ℕ) → Convertible t u →
    Convertible (renamed f t) (renamed f u)
renamed_convertible f (contracts at e) =
    convertible (renamed_beta f (contract {at = at} tt e ready))
renamed_convertible f same = same
renamed_convertible f (turned c) = turned (renamed_convertible f c)
renamed_convertible f (joined c d) = joined (renamed_convertible f c) (renamed_convertible f d)

-- numbers that are given back
renamed_back : (n : ℕ) (f h : ℕ → ℕ) → ((k : ℕ) → k < n → h (f k) ≡ k) → (t : Tree) →
    is_named_below n t ≡ true → renamed h (renamed f t) ≡ t
renamed_back n f h g (var y) e = refl
renamed_back n f h g (free k) e = ap free (g k (ltb-true k n e))
renamed_back n f h g (lam t) e = ap lam (renamed_back n f h g t e)
renamed_back n f h g (app t u) e =
    let p = and_parts (is_named_below n t) (is_named_below n u) e in
    λ i. app (renamed_back n f h g t p.0 i) (renamed_back n f h g u p.1 i)

back : (ℕ → ℕ) → ℕ → ℕ → ℕ
back f zero m = 0
back f (suc n) m = if f n == m then n else back f n m

back_is : (f : ℕ → ℕ) (n : ℕ) → ((j k : ℕ) → j < n → k < n → f j ≡ f k → j ≡ k) → (k : ℕ) → k < n →
    back f n (f k) ≡ k
unfolding back
back_is f zero one k h = absurd (omega arith)
back_is f (suc n) one k h =
    go (back_is f n (λ j k a b e. one j k (omega arith) (omega arith) e) k) (f n == f k) refl
  where
    go : (k < n → back f n (f k) ≡ k) → (b : Bool) → (f n == f k) ≡ b →
        (if b then n else back f n (f k)) ≡ k
    go next true e = one n k (omega arith) h (eqb-true (f n) (f k) e)
    go next false e =
        next
        (let d : n ≡ k →
        ⊥ = λ q. absurd (let x : true ≡ false = sym (eq-eqb (f n) (f k) (ap f q)) ∙ e in cc) in
        omega arith)

-- ---- by bytes

module _ (names : List (List ℕ)) (different : NoNameTwice names) where
  f : ℕ → ℕ
  f k = number_of (slice_index_or names k [])

  numbers_differ : (j k : ℕ) → j < length names → k < length names → f j ≡ f k → j ≡ k
  unfolding f
  numbers_differ j k a b e =
      different j k (slice_index_or names k [])
      (slice_get-get_or names j [] a
      ∙ ap Some (number_of_one (slice_index_or names j []) (slice_index_or names k []) e))
      (slice_get-get_or names k [] b)

  given_back : (t : Tree) → HasNames t (length names) →
      renamed (back f (length names)) (by_bytes names t) ≡ t
  unfolding f
  given_back t h =
      renamed_back (length names) f (back f (length names))
      (back_is f (length names) numbers_differ) t h.named

  pub names_kept : (t u : Tree) → HasNames t (length names) → HasNames u (length names) →
      Convertible (by_bytes names t) (by_bytes names u) → Convertible t u
  names_kept t u h k c =
      subst₂ (λ t u. Convertible t u) (given_back t h) (given_back u k)
      (renamed_convertible (back f (length names)) c)
