-- The lets at the front of a text, by how the grammar reads it.
use Rattle.std.specs.Prelude.{◌≡◌, ℕ, ◌+◌, List}
use Rattle.ol_parse.specs.Grammar.{Named, Token, IsTerm, term_body, term_spine, term_both, IsBody, body_lambda, body_let}
use Rattle.ol_parse.specs.Texts.{IsText}

-- How many lets a reading begins with: one, and those that the term behind its `in` begins with.
abbrev mutual
  pub lets_of_term : {a : List Token} {t : Named} → IsTerm a t → ℕ
  lets_of_term (term_body body) = lets_of_body body
  lets_of_term (term_spine spine) = 0
  lets_of_term (term_both spine body) = 0

  pub lets_of_body : {a : List Token} {t : Named} → IsBody a t → ℕ
  lets_of_body (body_lambda x xs term) = 0
  lets_of_body (body_let x value term) = 1 + lets_of_term term

-- however the bytes are read as a term, so many lets stand at the front
abbrev pub BeginsWithLets : List ℕ → ℕ → Type 0
BeginsWithLets bytes n = (t : Named) (text : IsText bytes t) → n ≡ lets_of_term text.term
