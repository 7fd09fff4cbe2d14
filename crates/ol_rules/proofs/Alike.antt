-- Two nodes that meet have as many auxiliary ports.
use Rattle.std.proofs.Common.{◌≡◌, ℕ, Bool, true, false, cond, Some, None, refl, sym, ap, ◌∙◌, nat_eq, nat_lt}
use Rattle.ol_net.specs.declared.parts.Kind.{Kind}
use Rattle.ol_net.specs.declared.parts.Kind.TheVariants as kind
use Rattle.ol_net.specs.declared.parts.Rule.{Rule}
use Rattle.ol_net.specs.declared.parts.Rule.TheVariants as rule
use Rattle.ol_net.specs.Parts.{arity}
use Rattle.ol_net.specs.Rules.{rule_of, met, crossed, by_index}
use Rattle.ol_rules.specs.Rewriting.{is_meeting}

met_alike : (k l : Kind) (r : Rule) → met k l ≡ Some r → arity k ≡ arity l
met_alike kind.App kind.Lam r e = refl
met_alike kind.Lam kind.App r e = refl
met_alike kind.Fan kind.Fan r e = refl
met_alike kind.Croissant kind.Croissant r e = refl
met_alike kind.Bracket kind.Bracket r e = refl
met_alike _ _ r e = absurd (let bad : None ≡ Some r = e in cc)

-- no crossing is a meeting
pub crossed_crosses : (k : Kind) (r : Rule) → crossed k ≡ Some r → is_meeting r ≡ false
crossed_crosses kind.Fan r e = ap is_meeting
    (let q : r ≡ rule.CrossFan = (let h : Some rule.CrossFan ≡ Some r = e in cc) in q)
crossed_crosses kind.Croissant r e = ap is_meeting
    (let q : r ≡ rule.CrossCroissant = (let h : Some rule.CrossCroissant ≡ Some r = e in cc) in q)
crossed_crosses kind.Bracket r e = ap is_meeting
    (let q : r ≡ rule.CrossBracket = (let h : Some rule.CrossBracket ≡ Some r = e in cc) in q)
crossed_crosses _ r e = absurd (let bad : None ≡ Some r = e in cc)

by_index_alike : (k : Kind) (i : ℕ) (l : Kind) (j : ℕ) (r : Rule) → by_index k i l j ≡ Some r →
    is_meeting r ≡ true → arity k ≡ arity l
by_index_alike k i l j r e h = same (nat_eq i j) (nat_lt i j) e
  where
    below : (b : Bool) → cond b (crossed k) None ≡ Some r → arity k ≡ arity l
    below true e = let z = crossed_crosses k r e in absurd (let bad : false ≡ true = sym z ∙ h in cc)
    below false e = absurd (let bad : None ≡ Some r = e in cc)

    same : (b c : Bool) → cond b (met k l) (cond c (crossed k) None) ≡ Some r → arity k ≡ arity l
    same true c e = met_alike k l r e
    same false c e = below c e

pub meeting_alike : (k : Kind) (i : ℕ) (l : Kind) (j : ℕ) (r : Rule) → rule_of k i l j ≡ Some r →
    is_meeting r ≡ true → arity k ≡ arity l
meeting_alike kind.Eraser i l j r e h = absurd
    (let q : r ≡ rule.Erase = (let h : Some rule.Erase ≡ Some r = e in cc) in
    let bad : false ≡ true = sym (ap is_meeting q) ∙ h in cc)
meeting_alike kind.Lam i kind.Eraser j r e h = absurd (let bad : None ≡ Some r = e in cc)
meeting_alike kind.App i kind.Eraser j r e h = absurd (let bad : None ≡ Some r = e in cc)
meeting_alike kind.Fan i kind.Eraser j r e h = absurd (let bad : None ≡ Some r = e in cc)
meeting_alike kind.Croissant i kind.Eraser j r e h = absurd (let bad : None ≡ Some r = e in cc)
meeting_alike kind.Bracket i kind.Eraser j r e h = absurd (let bad : None ≡ Some r = e in cc)
meeting_alike k i l j r e h = by_index_alike k i l j r e h
