-- Two nodes that meet are an application and an abstraction, or neither is one.
-- Used in Loops.
use Rattle.std.proofs.Common.{◌≡◌, ℕ, Bool, true, false, cond, Some, None, refl, sym, ap, ◌∙◌, nat_eq, nat_lt}
use Rattle.ol_net.specs.declared.parts.Kind.{Kind}
use Rattle.ol_net.specs.declared.parts.Kind.TheVariants as kind
use Rattle.ol_net.specs.declared.parts.Rule.{Rule}
use Rattle.ol_net.specs.declared.parts.Rule.TheVariants as rule
use Rattle.ol_net.specs.Rules.{rule_of, met, crossed, by_index}
use Rattle.ol_rules.specs.Rewriting.{is_meeting}
use Rattle.ol_rules.proofs.Alike.{crossed_crosses}
use Rattle.ol_law_completeness.proofs.Lines.{marks}

met_level : (k l : Kind) (r : Rule) → met k l ≡ Some r → marks k ≡ marks l
met_level kind.App kind.Lam r e = refl
met_level kind.Lam kind.App r e = refl
met_level kind.Fan kind.Fan r e = refl
met_level kind.Croissant kind.Croissant r e = refl
met_level kind.Bracket kind.Bracket r e = refl
met_level _ _ r e = absurd (let bad : None ≡ Some r = e in cc)

by_index_level : (k : Kind) (i : ℕ) (l : Kind) (j : ℕ) (r : Rule) → by_index k i l j ≡ Some r →
    is_meeting r ≡ true → marks k ≡ marks l
by_index_level k i l j r e h = same (nat_eq i j) (nat_lt i j) e
  where
    below : (b : Bool) → cond b (crossed k) None ≡ Some r → marks k ≡ marks l
    below true e = let z = crossed_crosses k r e in absurd (let bad : false ≡ true = sym z ∙ h in cc)
    below false e = absurd (let bad : None ≡ Some r = e in cc)

    same : (b c : Bool) → cond b (met k l) (cond c (crossed k) None) ≡ Some r → marks k ≡ marks l
    same true c e = met_level k l r e
    same false c e = below c e

pub meeting_marks : (k : Kind) (i : ℕ) (l : Kind) (j : ℕ) (r : Rule) → rule_of k i l j ≡ Some r →
    is_meeting r ≡ true → marks k ≡ marks l
meeting_marks kind.Eraser i l j r e h = absurd
    (let q : r ≡ rule.Erase = (let h : Some rule.Erase ≡ Some r = e in cc) in
    let bad : false ≡ true = sym (ap is_meeting q) ∙ h in cc)
meeting_marks kind.Lam i kind.Eraser j r e h = absurd (let bad : None ≡ Some r = e in cc)
meeting_marks kind.App i kind.Eraser j r e h = absurd (let bad : None ≡ Some r = e in cc)
meeting_marks kind.Fan i kind.Eraser j r e h = absurd (let bad : None ≡ Some r = e in cc)
meeting_marks kind.Croissant i kind.Eraser j r e h = absurd (let bad : None ≡ Some r = e in cc)
meeting_marks kind.Bracket i kind.Eraser j r e h = absurd (let bad : None ≡ Some r = e in cc)
meeting_marks k i l j r e h = by_index_level k i l j r e h
