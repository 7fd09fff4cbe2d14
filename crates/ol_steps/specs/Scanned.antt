-- Private: what a scan of tokens counts of the lets at the front.
use Rattle.std.specs.Prelude.{◌≡◌, ℕ, ◌+◌, ◌-◌, ◌==◌, Bool, true, false, if◌then◌else◌, List, [], ◌∷◌}
use Rattle.ol_parse.specs.Grammar.{Named, Token, let_key, in_key}
use Rattle.ol_parse.specs.Texts.{Spells, IsText}
use Rattle.ol_steps.specs.Fronts.{lets_of_term}
use Rattle.ol_steps.specs.declared.fronts.Spot.{Spot}
use Rattle.ol_steps.specs.declared.fronts.Spot.TheVariants.{Front, Value, Behind}

-- where one is behind a token
abbrev pub spot_after : Spot → Token → Spot
spot_after Front let_key = Value 0
spot_after Front _ = Behind
spot_after (Value d) let_key = Value (d + 1)
spot_after (Value d) in_key = if d == 0 then Front else Value (d - 1)
spot_after (Value d) _ = Value d
spot_after Behind _ = Behind

-- a let at the front begins with a token
abbrev pub begins_let : Spot → Token → Bool
begins_let Front let_key = true
begins_let _ _ = false

-- how many lets at the front there are among these tokens
abbrev pub lets_among : Spot → List Token → ℕ
lets_among p [] = 0
lets_among p (k ∷ ks) =
    if begins_let p k then 1 + lets_among (spot_after p k) ks else lets_among (spot_after p k) ks

-- of a reading some lets are counted, and the others are among the tokens that are left
pub record IsCounted (all so_far : ℕ) (p : Spot) (rest : List ℕ) : Type 0 where
  pub after : Bool
  pub tokens : List Token
  pub spelled : Spells after tokens rest
  pub is : all ≡ so_far + lets_among p tokens

abbrev pub AreCounted : List ℕ → ℕ → Spot → List ℕ → Type 0
AreCounted bytes so_far p rest = (t : Named) (text : IsText bytes t) → IsCounted (lets_of_term text.term) so_far p rest

-- how many lets are open in the value of one
abbrev pub open_in : Spot → ℕ
open_in (Value d) = d
open_in _ = 0
