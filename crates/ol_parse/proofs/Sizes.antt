-- A term is no longer than its text.
use Rattle.std.proofs.Common.{◌≡◌, ℕ, ◌≤◌, ◌<◌, List, [], ◌∷◌, ◌++◌, map, length, length-append, Bool, refl, arith}
use Rattle.ol_parse.specs.Grammar.{Named, Token, name, in_key, dot, close_bracket, lams, IsTerm}
use Rattle.ol_parse.specs.Grammar.{term_body, term_spine, term_both, IsSpine, spine_one, spine_more}
use Rattle.ol_parse.specs.Grammar.{IsAtom, atom_name, atom_brackets, IsBody, body_lambda, body_let}
use Rattle.ol_parse.specs.Texts.{IsText, IsDeadPlace, IsToken, token_sign, token_letter, token_word}
use Rattle.ol_parse.specs.Texts.{Spells, spells_none, spells_one}
use Rattle.ol_parse.specs.Laws.{leaves}

leaves_lams : (xs : List (List ℕ)) (t : Named) → leaves (lams xs t) ≡ leaves t
leaves_lams [] t = refl
leaves_lams (x ∷ xs) t = leaves_lams xs t

mutual
  of_term : {a : List Token} {t : Named} → IsTerm a t → leaves t ≤ length a
  of_term (term_body b) = of_body b
  of_term (term_spine s) = of_spine s
  of_term (term_both {a = a} {b = b} s r) = let h = of_spine s in let k = of_body r in omega (arith, length-append a b)

  of_spine : {a : List Token} {t : Named} → IsSpine a t → leaves t ≤ length a
  of_spine (spine_one i) = of_atom i
  of_spine (spine_more {a = a} {b = b} s i) = let h = of_spine s in let k = of_atom i in
      omega (arith, length-append a b)

  of_atom : {a : List Token} {t : Named} → IsAtom a t → leaves t ≤ length a
  of_atom atom_name = omega arith
  of_atom (atom_brackets {a = a} i) = let h = of_term i in omega (arith, length-append a (close_bracket ∷ []))

  of_body : {a : List Token} {t : Named} → IsBody a t → leaves t ≤ length a
  of_body (body_lambda x xs {a = a} {t = t} i) = let h = of_term i in let e = leaves_lams xs t in
      omega (arith, length-append (map name xs) (dot ∷ a))
  of_body (body_let x {a = a} {b = b} i j) = let h = of_term i in let k = of_term j in
      omega (arith, length-append a (in_key ∷ b))

pub some_byte : {k : Token} {a : List ℕ} → IsToken k a → 0 < length a
some_byte (token_sign e) = omega arith
some_byte (token_letter e) = omega arith
some_byte (token_word e i) = omega arith

few_tokens : {after : Bool} {ks : List Token} {bs : List ℕ} → Spells after ks bs → length ks ≤ length bs
few_tokens (spells_none i) = omega arith
few_tokens (spells_one {g = g} {a = a} {bs = bs} i n t s) = let h = some_byte t in
    let k = few_tokens s in omega (arith, length-append g (a ++ bs), length-append a bs)

pub few_leaves : (bytes : List ℕ) (t : Named) → IsText bytes t → leaves t ≤ length bytes
few_leaves bytes t i = let h = of_term i.term in let k = few_tokens i.spelled in omega arith

pub one_dead_place : (bytes : List ℕ) (m n : ℕ) → IsDeadPlace bytes m → IsDeadPlace bytes n → m ≡ n
one_dead_place bytes m n d e =
    let h = e.longest m d.within d.alive in
    let k = d.longest n e.within e.alive in
    omega arith
