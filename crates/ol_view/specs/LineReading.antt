-- Reading one line of a trace text from the front of some bytes.
use Rattle.std.specs.Prelude.{◌≡◌, ℕ, ◌+◌, ◌-◌, ◌*◌, Bool, ◌&&◌, ◌==◌, nat_le, if◌then◌else◌, List, length}
use Rattle.std.specs.Prelude.{[], ◌∷◌, Option, None, Some, option_and_then, option_map, eqb, drop}
use Rattle.std.specs.List.{starts_with}
use Rattle.ol_net.specs.declared.parts.Rule.{Rule}
use Rattle.ol_net.specs.declared.parts.Rule.TheVariants as rule
use Rattle.ol_rules.specs.declared.journal.NodeName.{NodeName}
use Rattle.ol_rules.specs.declared.journal.NodeName.TheVariants.{Init, Born}
use Rattle.ol_rules.specs.Names.{comes_before}
use Rattle.ol_view.specs.declared.forms.Form.{Form}
use Rattle.ol_view.specs.declared.forms.Form.TheVariants.{One, Two}
use Rattle.ol_view.specs.RuleNames.{rule_text}

abbrev pub is_digit : ℕ → Bool
is_digit b = nat_le 48 b && nat_le b 57

-- the digits behind those of n, up to 4294967295
abbrev pub number_on : ℕ → List ℕ → Option (ℕ × List ℕ)
number_on n [] = Some (n, [])
number_on n (b ∷ bs) =
    if is_digit b then
    (if nat_le (n * 10 + (b - 48)) 4294967295 then number_on (n * 10 + (b - 48)) bs else None)
    else Some (n, b ∷ bs)

-- a number without leading zeros
abbrev pub front_number : List ℕ → Option (ℕ × List ℕ)
front_number [] = None
front_number (b ∷ bs) =
    if b == 48 then Some (0, bs) else (if is_digit b then number_on (b - 48) bs else None)

abbrev pub place_on : ℕ → List ℕ → Option (NodeName × List ℕ)
place_on t [] = None
place_on t (b ∷ bs) = if nat_le 48 b && nat_le b 51 then Some (Born t (b - 48), bs) else None

-- what stands behind a number may make it a ticket
abbrev pub name_on : ℕ → List ℕ → Option (NodeName × List ℕ)
name_on n [] = Some (Init n, [])
name_on n (b ∷ bs) = if b == 46 then place_on n bs else Some (Init n, b ∷ bs)

abbrev pub front_name : List ℕ → Option (NodeName × List ℕ)
front_name bs = option_and_then (λ (r : ℕ × List ℕ). name_on r.0 r.1) (front_number bs)

-- what follows this byte
abbrev pub behind : ℕ → List ℕ → Option (List ℕ)
behind c [] = None
behind c (b ∷ bs) = if b == c then Some bs else None

abbrev pub line_end : NodeName → NodeName × List ℕ → Option (NodeName × NodeName × List ℕ)
line_end a r = option_and_then
    (λ (bs : List ℕ). if comes_before a r.0 then Some (a, r.0, bs) else None) (behind 10 r.1)

abbrev pub line_on : NodeName × List ℕ → Option (NodeName × NodeName × List ℕ)
line_on r = option_and_then
    (λ (bs : List ℕ). option_and_then (line_end r.0) (front_name bs)) (behind 32 r.1)

abbrev pub front_line : List ℕ → Option (NodeName × NodeName × List ℕ)
front_line bs = option_and_then line_on (front_name bs)

-- what follows this word
abbrev pub word_behind : List ℕ → List ℕ → Option (List ℕ)
word_behind word bs = if starts_with eqb bs word then Some (drop (length word) bs) else None

-- the first of the two, where there is one
abbrev pub first_of : Option (Rule × List ℕ) → Option (Rule × List ℕ) → Option (Rule × List ℕ)
first_of (Some x) y = Some x
first_of None y = y

-- the first of these rules whose name stands here
abbrev pub front_rule_of : List Rule → List ℕ → Option (Rule × List ℕ)
front_rule_of [] bs = None
front_rule_of (r ∷ rs) bs =
    first_of (option_map (λ (rest : List ℕ). (r, rest)) (word_behind (rule_text r) bs))
    (front_rule_of rs bs)

abbrev pub all_rules : List Rule
all_rules = rule.Beta ∷ rule.Fan ∷ rule.Croissant ∷ rule.Bracket ∷ rule.CrossFan
    ∷ rule.CrossCroissant ∷ rule.CrossBracket ∷ rule.Erase ∷ []

abbrev pub front_rule : List ℕ → Option (Rule × List ℕ)
front_rule bs = front_rule_of all_rules bs

-- what stands before the names in a line of this form
abbrev pub told_end : Rule → ℕ × List ℕ → Option (Option (Rule × ℕ) × List ℕ)
told_end r w = option_map (λ (bs : List ℕ). (Some (r, w.0), bs)) (behind 32 w.1)

abbrev pub told_on : Rule × List ℕ → Option (Option (Rule × ℕ) × List ℕ)
told_on r = option_and_then
    (λ (bs : List ℕ). option_and_then (told_end r.0) (front_number bs)) (behind 32 r.1)

abbrev pub front_told : Form → List ℕ → Option (Option (Rule × ℕ) × List ℕ)
front_told One bs = Some (None, bs)
front_told Two bs = option_and_then told_on (front_rule bs)

-- what a line of this form tells
abbrev pub told_with : Option (Rule × ℕ) × List ℕ →
    Option (Option (Rule × ℕ) × NodeName × NodeName × List ℕ)
told_with r =
    option_map (λ (l : NodeName × NodeName × List ℕ). (r.0, l.0, l.1, l.2)) (front_line r.1)

abbrev pub front_entry : Form → List ℕ → Option (Option (Rule × ℕ) × NodeName × NodeName × List ℕ)
front_entry form bs = option_and_then told_with (front_told form bs)

-- the line tells this rule and wave, or none
abbrev pub TellsOf : Option (Rule × ℕ) → Rule → ℕ → Type 0
TellsOf None r wave = Unit {0}
TellsOf (Some told) r wave = (told.0 ≡ r) × (told.1 ≡ wave)
