-- A journal has as many entries as its run by birth names has pairs, and as many of each rule.
use Rattle.std.proofs.Common.{◌≡◌, ℕ, suc, ◌+◌, List, [], ◌∷◌, length, count_by, cond, refl, sym, ap, ◌∙◌}
use Rattle.std.proofs.lemmas.List.Sums.{sum_by-cons}
use Rattle.ol_net.specs.declared.parts.Rule.{Rule}
use Rattle.ol_net.specs.declared.parts.Rule.TheVariants as rule
use Rattle.ol_rules.specs.declared.journal.NodeName.{NodeName}
use Rattle.ol_rules.specs.declared.journal.Entry.{Entry}
use Rattle.ol_rules.specs.Counting.{is_rule, times_applied, counts_of}
use Rattle.ol_diamond.specs.Births.{BirthName}
use Rattle.ol_diamond.specs.Runs.{BirthPair, AreBirths}

-- the number of pairs with this rule
abbrev pub pairs_of : Rule → List BirthPair → ℕ
pairs_of r ps = count_by (λ (p : BirthPair). is_rule p.rule r) ps

pub as_many : (m : NodeName → BirthName) (t : ℕ) (es : List Entry) (ps : List BirthPair) →
    AreBirths m t es ps → length es ≡ length ps
as_many m t [] [] b = refl
as_many m t [] (p ∷ ps) b = absurd b
as_many m t (e ∷ es) [] b = absurd b
as_many m t (e ∷ es) (p ∷ ps) b = ap suc (as_many m (suc t) es ps b.2)

pub as_often : (m : NodeName → BirthName) (t : ℕ) (es : List Entry) (ps : List BirthPair)
    (r : Rule) → AreBirths m t es ps → times_applied r es ≡ pairs_of r ps
as_often m t [] [] r b = refl
as_often m t [] (p ∷ ps) r b = absurd b
as_often m t (e ∷ es) [] r b = absurd b
as_often m t (e ∷ es) (p ∷ ps) r b =
    sum_by-cons (λ (e : Entry). cond (is_rule e.rule r) 1 0) e es
    ∙ ap (λ x. cond (is_rule x r) 1 0 + times_applied r es) (sym b.0.0)
    ∙ ap (λ n. cond (is_rule p.rule r) 1 0 + n) (as_often m (suc t) es ps r b.2)
    ∙ sym (sum_by-cons (λ (p : BirthPair). cond (is_rule p.rule r) 1 0) p ps)

-- journals with each rule as often have one record of counts
pub one_counts : (es fs : List Entry) → ((r : Rule) → times_applied r es ≡ times_applied r fs) →
    counts_of es ≡ counts_of fs
one_counts es fs h = λ i. record {
  beta = h rule.Beta i;
  fan = h rule.Fan i;
  croissant = h rule.Croissant i;
  bracket = h rule.Bracket i;
  cross_fan = h rule.CrossFan i;
  cross_croissant = h rule.CrossCroissant i;
  cross_bracket = h rule.CrossBracket i;
  erase = h rule.Erase i;
}
