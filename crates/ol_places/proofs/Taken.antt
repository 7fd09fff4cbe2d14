-- One token is taken.
use Rattle.std.proofs.Common.{◌≡◌, ℕ, ◌-◌, List, [], ◌∷◌, ◌++◌, length, take, refl, sym, ap, ◌∙◌, subst}
use Rattle.ol_places.specs.declared.tokens.Kind.{Kind}
use Rattle.ol_places.specs.declared.tokens.Kind.TheVariants as kind
use Rattle.ol_places.specs.declared.tokens.Sign.{Sign}
use Rattle.ol_places.specs.declared.tokens.Sign.TheVariants as sign
use Rattle.ol_places.specs.Tokens.{sign_token, kind_token}
use Rattle.ol_places.specs.Scanned.{lets_after}

module _ (k : Kind) (lets : List ℕ) (at : ℕ) where
  abbrev IsTaken : List ℕ → Type 0
  IsTaken new = (word : List ℕ) → new ≡ lets_after lets at (kind_token k word)

  taken_as : (j : Kind) (new : List ℕ) → k ≡ j → ((word : List ℕ) → new ≡ lets_after lets at (kind_token j word)) →
      IsTaken new
  taken_as j new e h word = subst (λ k. new ≡ lets_after lets at (kind_token k word)) (sym e) (h word)

  pub let_taken : (new : List ℕ) → k ≡ kind.Let → new ≡ lets ++ (at ∷ []) → IsTaken new
  let_taken new e h = taken_as kind.Let new e (λ word. h)

  pub in_taken : (new : List ℕ) (n : ℕ) → k ≡ kind.In → new ≡ take (n - 1) lets → n ≡ length lets → IsTaken new
  in_taken new n e h l = taken_as kind.In new e (λ word. h ∙ ap (λ n. take (n - 1) lets) l)

  pub name_taken : k ≡ kind.Name → IsTaken lets
  name_taken e = taken_as kind.Name lets e (λ word. refl)

  pub sign_taken : (s : Sign) → k ≡ kind.Sign s → IsTaken lets
  sign_taken s e = taken_as (kind.Sign s) lets e (λ word. each s)
    where
      each : (s : Sign) → lets ≡ lets_after lets at (sign_token s)
      each sign.Lambda = refl
      each sign.Dot = refl
      each sign.Equals = refl
      each sign.Open = refl
      each sign.Close = refl
