-- Each line of the table of rules keeps contexts.
use Rattle.std.proofs.Common.{◌≡◌, ℕ, suc, ◌+◌, ◌-◌, ◌<◌, Bool, true, false, cond, Some, None, refl}
use Rattle.std.proofs.Common.{sym, ap, ◌∙◌, subst, arith, nat_eq, nat_lt, eqb-true, ltb-true}
use Rattle.ol_context.proofs.Contexts.{commute, pull}
use Rattle.ol_context.specs.Contexts.{up, change, shift, IsCrosser}
use Rattle.ol_invariance.proofs.Moves.{Meets, Commutes, Suits}
use Rattle.ol_net.specs.Rules.{met, crossed, by_index, rule_of}
use Rattle.ol_net.specs.declared.parts.Kind.{Kind}
use Rattle.ol_net.specs.declared.parts.Kind.TheVariants as kind
use Rattle.ol_net.specs.declared.parts.Rule.{Rule}
use Rattle.ol_net.specs.declared.parts.Rule.TheVariants as rule
use Rattle.ol_rules.specs.Rewriting.{meeting, crossing, is_meeting, index_after, action_of}

same_kind : (k : Kind) (i : ℕ) → Meets k i k i
same_kind k i = record { arities = refl; alike = λ s c b. refl }

-- by a crosser of a lower index
crosses : (k : Kind) (i : ℕ) (l : Kind) (j j' : ℕ) → IsCrosser k → (n : ℕ) → j ≡ i + suc n →
    j' ≡ i + shift k n → Commutes k i l j j'
crosses k i l j j' h n e e' = record {
  commute = λ p q c b b'. ap (λ m. up k i p (up l m q c)) e' ∙ commute k p h i n (change l q) c
      ∙ ap (λ m. up l m q (up k i p c)) (sym e);
  pull = λ p q c d b b' r.
      let t = pull k p h i n (change l q) c d (r ∙ ap (λ m. up l m q d) e) in
      (t.0, ap (λ m. up l m q t.0) e' ∙ t.1, t.2);
}

gap : (i j : ℕ) → i < j → j ≡ i + suc (j - suc i)
gap i j h = omega arith

met_suits : (k l : Kind) (i : ℕ) (r : Rule) → met k l ≡ Some r → (is_meeting r ≡ true) × Meets k i l i
met_suits kind.App kind.Lam i r e = let q : rule.Beta ≡ r = cc in
    (ap is_meeting (sym q), record { arities = refl; alike = λ s c b. refl })
met_suits kind.Lam kind.App i r e = let q : rule.Beta ≡ r = cc in
    (ap is_meeting (sym q), record { arities = refl; alike = λ s c b. refl })
met_suits kind.Fan kind.Fan i r e = let q : rule.Fan ≡ r = cc in (ap is_meeting (sym q), same_kind kind.Fan i)
met_suits kind.Croissant kind.Croissant i r e = let q : rule.Croissant ≡ r = cc in
    (ap is_meeting (sym q), same_kind kind.Croissant i)
met_suits kind.Bracket kind.Bracket i r e = let q : rule.Bracket ≡ r = cc in
    (ap is_meeting (sym q), same_kind kind.Bracket i)
met_suits _ _ i r e = absurd (cc)

crossed_suits : (k l : Kind) (i j : ℕ) (r : Rule) → i < j → crossed k ≡ Some r →
    (is_meeting r ≡ false) × Commutes k i l j (index_after r j)
crossed_suits kind.Fan l i j r h e = let q : rule.CrossFan ≡ r = cc in
    subst (λ r. (is_meeting r ≡ false) × Commutes kind.Fan i l j (index_after r j)) q
    (refl, crosses kind.Fan i l j j tt (j - suc i) (gap i j h) (gap i j h))
crossed_suits kind.Croissant l i j r h e = let q : rule.CrossCroissant ≡ r = cc in
    subst (λ r. (is_meeting r ≡ false) × Commutes kind.Croissant i l j (index_after r j)) q
    (refl, crosses kind.Croissant i l j (j - 1) tt (j - suc i) (gap i j h) (omega arith))
crossed_suits kind.Bracket l i j r h e = let q : rule.CrossBracket ≡ r = cc in
    subst (λ r. (is_meeting r ≡ false) × Commutes kind.Bracket i l j (index_after r j)) q
    (refl, crosses kind.Bracket i l j (j + 1) tt (j - suc i) (gap i j h) (omega arith))
crossed_suits _ l i j r h e = absurd (cc)

by_index_suits : (k l : Kind) (i j : ℕ) (r : Rule) → by_index k i l j ≡ Some r → Suits (action_of r j) k i l j
by_index_suits k l i j r e = same (nat_eq i j) refl e
  where
    below : (b : Bool) → nat_lt i j ≡ b → cond b (crossed k) None ≡ Some r → Suits (action_of r j) k i l j
    below true h e =
        let t = crossed_suits k l i j r (ltb-true i j h) e in
        subst (λ b. Suits (cond b meeting (crossing (index_after r j))) k i l j) (sym t.0) t.1
    below false h e = absurd (cc)

    same : (b : Bool) → nat_eq i j ≡ b →
        cond b (met k l) (cond (nat_lt i j) (crossed k) None) ≡ Some r → Suits (action_of r j) k i l j
    same true h e =
        let t = met_suits k l i r e in
        subst (λ j. Suits (action_of r j) k i l j) (eqb-true i j h)
        (subst (λ b. Suits (cond b meeting (crossing (index_after r i))) k i l i) (sym t.0) t.1)
    same false h e = below (nat_lt i j) refl e

erase_suits : (i : ℕ) (l : Kind) (j : ℕ) (r : Rule) → Some rule.Erase ≡ Some r → Suits (action_of r j) kind.Eraser i l j
erase_suits i l j r e =
    let q : rule.Erase ≡ r = cc in
    subst (λ r. Suits (action_of r j) kind.Eraser i l j) q
    (record { commute = λ p q c b b'. absurd (omega arith); pull = λ p q c d b b' r. absurd (omega arith) })

pub rule_suits : (k : Kind) (i : ℕ) (l : Kind) (j : ℕ) (r : Rule) → rule_of k i l j ≡ Some r →
    Suits (action_of r j) k i l j
rule_suits kind.Eraser i l j r e = erase_suits i l j r e
rule_suits kind.Lam i kind.Eraser j r e = absurd (cc)
rule_suits kind.App i kind.Eraser j r e = absurd (cc)
rule_suits kind.Fan i kind.Eraser j r e = absurd (cc)
rule_suits kind.Croissant i kind.Eraser j r e = absurd (cc)
rule_suits kind.Bracket i kind.Eraser j r e = absurd (cc)
rule_suits k i l j r e = by_index_suits k l i j r e
