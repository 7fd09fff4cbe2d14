-- A scan of tokens counts the lets at the front of a reading.
use Rattle.std.proofs.Common.{◌≡◌, ℕ, ◌+◌, Bool, true, false, List, [], ◌∷◌, ◌++◌, map, refl, sym, ap, ◌∙◌, append_assoc, append-nil, arith, ◌-◌, eqb-true}
use Rattle.std.specs.Prelude.{◌==◌, if◌then◌else◌}
use Rattle.ol_parse.specs.Grammar.{Named, Token, name, in_key, dot, close_bracket, IsTerm, term_body, term_spine}
use Rattle.ol_parse.specs.Grammar.{term_both, IsSpine, spine_one, spine_more, IsAtom, atom_name, atom_brackets}
use Rattle.ol_parse.specs.Grammar.{IsBody, body_lambda, body_let}
use Rattle.ol_steps.specs.declared.fronts.Spot.TheVariants.{Front, Value, Behind}
use Rattle.ol_steps.specs.Fronts.{lets_of_term, lets_of_body}
use Rattle.ol_steps.specs.Scanned.{lets_among}

-- ---- within the value of a let

passed_names : (d : ℕ) (xs : List (List ℕ)) (rest : List Token) →
    lets_among (Value d) (map name xs ++ rest) ≡ lets_among (Value d) rest
passed_names d [] rest = refl
passed_names d (x ∷ xs) rest = passed_names d xs rest

-- an `in` behind a `let`
closes : (d : ℕ) (rest : List Token) → lets_among (Value (d + 1)) (in_key ∷ rest) ≡ lets_among (Value d) rest
closes d rest = go ((d + 1) == 0) refl
  where
    go : (b : Bool) → ((d + 1) == 0) ≡ b →
        lets_among (if b then Front else Value (d + 1 - 1)) rest ≡ lets_among (Value d) rest
    go true e = let z = eqb-true (d + 1) 0 e in absurd (omega (arith, z))
    go false e = let n : d + 1 - 1 ≡ d = omega arith in ap (λ (i : ℕ). lets_among (Value i) rest) n

mutual
  passed_term : {a : List Token} {t : Named} (i : IsTerm a t) (d : ℕ) (rest : List Token) →
      lets_among (Value d) (a ++ rest) ≡ lets_among (Value d) rest
  passed_term (term_body b) d rest = passed_body b d rest
  passed_term (term_spine s) d rest = passed_spine s d rest
  passed_term (term_both {a = a} {b = b} s r) d rest =
      ap (lets_among (Value d)) (append_assoc a b rest) ∙ passed_spine s d (b ++ rest) ∙ passed_body r d rest

  passed_spine : {a : List Token} {t : Named} (i : IsSpine a t) (d : ℕ) (rest : List Token) →
      lets_among (Value d) (a ++ rest) ≡ lets_among (Value d) rest
  passed_spine (spine_one i) d rest = passed_atom i d rest
  passed_spine (spine_more {a = a} {b = b} s i) d rest =
      ap (lets_among (Value d)) (append_assoc a b rest) ∙ passed_spine s d (b ++ rest) ∙ passed_atom i d rest

  passed_atom : {a : List Token} {t : Named} (i : IsAtom a t) (d : ℕ) (rest : List Token) →
      lets_among (Value d) (a ++ rest) ≡ lets_among (Value d) rest
  passed_atom atom_name d rest = refl
  passed_atom (atom_brackets {a = a} i) d rest =
      ap (lets_among (Value d)) (append_assoc a (close_bracket ∷ []) rest) ∙ passed_term i d (close_bracket ∷ rest)

  passed_body : {a : List Token} {t : Named} (i : IsBody a t) (d : ℕ) (rest : List Token) →
      lets_among (Value d) (a ++ rest) ≡ lets_among (Value d) rest
  passed_body (body_lambda x xs {a = a} i) d rest =
      ap (lets_among (Value d)) (append_assoc (map name (x ∷ xs)) (dot ∷ a) rest)
      ∙ passed_names d (x ∷ xs) (dot ∷ (a ++ rest)) ∙ passed_term i d rest
  passed_body (body_let x {a = a} {b = b} i j) d rest =
      ap (lets_among (Value (d + 1))) (append_assoc a (in_key ∷ b) rest)
      ∙ passed_term i (d + 1) (in_key ∷ (b ++ rest)) ∙ closes d (b ++ rest) ∙ passed_term j d rest

-- ---- at the front

none_behind : (ks : List Token) → lets_among Behind ks ≡ 0
none_behind [] = refl
none_behind (k ∷ ks) = none_behind ks

spine_none : {a : List Token} {t : Named} (i : IsSpine a t) (rest : List Token) → lets_among Front (a ++ rest) ≡ 0
spine_none (spine_one atom_name) rest = none_behind rest
spine_none (spine_one (atom_brackets {a = a} i)) rest = none_behind ((a ++ (close_bracket ∷ [])) ++ rest)
spine_none (spine_more {a = a} {b = b} s i) rest =
    ap (lets_among Front) (append_assoc a b rest) ∙ spine_none s (b ++ rest)

mutual
  pub counted_term : {a : List Token} {t : Named} (i : IsTerm a t) → lets_of_term i ≡ lets_among Front a
  counted_term (term_body b) = counted_body b
  counted_term (term_spine {a = a} s) = sym (ap (lets_among Front) (sym (append-nil a)) ∙ spine_none s [])
  counted_term (term_both {a = a} {b = b} s r) = sym (spine_none s b)

  counted_body : {a : List Token} {t : Named} (i : IsBody a t) → lets_of_body i ≡ lets_among Front a
  counted_body (body_lambda x xs {a = a} i) = sym (none_behind (map name (x ∷ xs) ++ (dot ∷ a)))
  counted_body (body_let x {a = a} {b = b} i j) =
      ap (λ (n : ℕ). 1 + n) (counted_term j ∙ sym (passed_term i 0 (in_key ∷ b)))
