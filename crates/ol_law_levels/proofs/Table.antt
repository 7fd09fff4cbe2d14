-- Each line of the table of rules fits depths and orientations.
-- Used in Copies and Steps.
use Rattle.std.proofs.Common.{◌≡◌, ℕ, zero, suc, ◌+◌, ◌-◌, ◌<◌, Bool, true, false, not, cond, Some}
use Rattle.std.proofs.Common.{None, refl, sym, ap, subst, arith, nat_eq, nat_lt, ltb-true}
use Rattle.ol_net.specs.Parts.{arity}
use Rattle.ol_net.specs.Rules.{met, crossed, by_index, rule_of}
use Rattle.ol_net.specs.declared.parts.Kind.{Kind}
use Rattle.ol_net.specs.declared.parts.Kind.TheVariants as kind
use Rattle.ol_net.specs.declared.parts.Rule.{Rule}
use Rattle.ol_net.specs.declared.parts.Rule.TheVariants as rule
use Rattle.ol_rules.specs.Rewriting.{Action, meeting, crossing, is_meeting, index_after, action_of}
use Rattle.ol_law_levels.specs.Levels.{CanStand, depth_beside, out_beside}

-- slots side by side have one depth, and one is out where the other is in
pub record Meets (k l : Kind) (d : ℕ) (out : Bool) : Type 0 where
  pub arities : arity k ≡ arity l
  pub depths : (s : ℕ) → depth_beside k s d ≡ depth_beside l s d
  pub turned : (s : ℕ) → out_beside l s (not out) ≡ not (out_beside k s out)

-- the copies can stand where they come, and so can the links between them
pub record Crosses (k : Kind) (i : ℕ) (l : Kind) (j' d : ℕ) (out : Bool) : Type 0 where
  pub f_stands : (q : ℕ) → q < arity l →
      CanStand k i (depth_beside l q d) (out_beside l q (not out))
  pub g_stands : (p : ℕ) → p < arity k → CanStand l j' (depth_beside k p d) (out_beside k p out)
  pub depths : (p q : ℕ) → p < arity k → q < arity l →
      depth_beside k p (depth_beside l q d) ≡ depth_beside l q (depth_beside k p d)
  pub turned : (p q : ℕ) → p < arity k → q < arity l →
      out_beside k p (out_beside l q (not out)) ≡ not (out_beside l q (out_beside k p out))

abbrev pub Suits : Action → Kind → ℕ → Kind → ℕ → Bool → Type 0
Suits meeting k i l d out = Meets k l d out
Suits (crossing j') k i l d out = Crosses k i l j' d out

met_suits : (k l : Kind) (i d : ℕ) (out : Bool) (r : Rule) → met k l ≡ Some r →
    (is_meeting r ≡ true) × Meets k l d out
met_suits kind.App kind.Lam i d out r e = let q : rule.Beta ≡ r = cc in
    (ap is_meeting (sym q), record { arities = refl; depths = depths; turned = turned })
  where
    depths : (s : ℕ) → depth_beside kind.App s d ≡ depth_beside kind.Lam s d
    depths zero = refl
    depths (suc s) = refl

    turned : (s : ℕ) → out_beside kind.Lam s (not out) ≡ not (out_beside kind.App s out)
    turned zero = refl
    turned (suc s) = refl
met_suits kind.Lam kind.App i d out r e = let q : rule.Beta ≡ r = cc in
    (ap is_meeting (sym q), record { arities = refl; depths = depths; turned = turned })
  where
    depths : (s : ℕ) → depth_beside kind.Lam s d ≡ depth_beside kind.App s d
    depths zero = refl
    depths (suc s) = refl

    turned : (s : ℕ) → out_beside kind.App s (not out) ≡ not (out_beside kind.Lam s out)
    turned zero = refl
    turned (suc s) = refl
met_suits kind.Fan kind.Fan i d out r e = let q : rule.Fan ≡ r = cc in
    (ap is_meeting (sym q), record { arities = refl; depths = λ s. refl; turned = λ s. refl })
met_suits kind.Croissant kind.Croissant i d out r e = let q : rule.Croissant ≡ r = cc in
    (ap is_meeting (sym q), record { arities = refl; depths = λ s. refl; turned = λ s. refl })
met_suits kind.Bracket kind.Bracket i d out r e = let q : rule.Bracket ≡ r = cc in
    (ap is_meeting (sym q), record { arities = refl; depths = λ s. refl; turned = λ s. refl })
met_suits _ _ i d out r e = absurd (cc)

-- a node of a greater index has room for one of a lesser index beside it
room : (l : Kind) (i j d q : ℕ) (out : Bool) → CanStand l j d out → i < j → q < arity l →
    i < depth_beside l q d
room kind.Lam i j d zero out c h b = let e = c.0 in omega arith
room kind.Lam i j d (suc q) out c h b = let e = c.0 in omega arith
room kind.App i j d zero out c h b = let e = c.0 in omega arith
room kind.App i j d (suc q) out c h b = let e = c.0 in omega arith
room kind.Fan i j d q out c h b = omega arith
room kind.Croissant i j d q out c h b = omega arith
room kind.Bracket i j d q out c h b = omega arith
room kind.Eraser i j d q out c h b = absurd (omega arith)

-- its copy past a croissant, and past a bracket
lowered : (l : Kind) (i j d : ℕ) (out : Bool) → CanStand l j d out → i < j →
    CanStand l (j - 1) (d - 1) out
lowered kind.Lam i j d out c h = (ap (λ n. n - 1) c.0, c.1)
lowered kind.App i j d out c h = (ap (λ n. n - 1) c.0, c.1)
lowered kind.Fan i j d out c h = omega arith
lowered kind.Croissant i j d out c h = omega arith
lowered kind.Bracket i j d out c h = omega arith
lowered kind.Eraser i j d out c h = tt

raised : (l : Kind) (j d : ℕ) (out : Bool) → CanStand l j d out → CanStand l (j + 1) (suc d) out
raised kind.Lam j d out c = (let e = c.0 in omega arith, c.1)
raised kind.App j d out c = (let e = c.0 in omega arith, c.1)
raised kind.Fan j d out c = omega arith
raised kind.Croissant j d out c = omega arith
raised kind.Bracket j d out c = omega arith
raised kind.Eraser j d out c = tt

less_beside : (l : Kind) (q d : ℕ) → 0 < d → depth_beside l q d - 1 ≡ depth_beside l q (d - 1)
less_beside kind.Lam zero d h = refl
less_beside kind.Lam (suc q) d h = omega arith
less_beside kind.App zero d h = refl
less_beside kind.App (suc q) d h = omega arith
less_beside kind.Fan q d h = refl
less_beside kind.Croissant q d h = refl
less_beside kind.Bracket q d h = omega arith
less_beside kind.Eraser q d h = refl

more_beside : (l : Kind) (q d : ℕ) → 0 < d → suc (depth_beside l q d) ≡ depth_beside l q (suc d)
more_beside kind.Lam zero d h = refl
more_beside kind.Lam (suc q) d h = refl
more_beside kind.App zero d h = refl
more_beside kind.App (suc q) d h = refl
more_beside kind.Fan q d h = refl
more_beside kind.Croissant q d h = omega arith
more_beside kind.Bracket q d h = refl
more_beside kind.Eraser q d h = refl

crossed_suits : (k l : Kind) (i j d : ℕ) (out : Bool) (r : Rule) → CanStand k i d out →
    CanStand l j d (not out) → i < j → crossed k ≡ Some r
    → (is_meeting r ≡ false) × Crosses k i l (index_after r j) d out
crossed_suits kind.Fan l i j d out r c c' h e = let q : rule.CrossFan ≡ r = cc in
    subst (λ r. (is_meeting r ≡ false) × Crosses kind.Fan i l (index_after r j) d out) q (
      refl,
      record {
        f_stands = λ q b. room l i j d q (not out) c' h b;
        g_stands = λ p b. c';
        depths = λ p q b b'. refl;
        turned = λ p q b b'. refl;
      },
    )
crossed_suits kind.Croissant l i j d out r c c' h e = let q : rule.CrossCroissant ≡ r = cc in
    subst (λ r. (is_meeting r ≡ false) × Crosses kind.Croissant i l (index_after r j) d out) q (
      refl,
      record {
        f_stands = λ q b. room l i j d q (not out) c' h b;
        g_stands = λ p b. lowered l i j d (not out) c' h;
        depths = λ p q b b'. less_beside l q d (omega arith);
        turned = λ p q b b'. refl;
      },
    )
crossed_suits kind.Bracket l i j d out r c c' h e = let q : rule.CrossBracket ≡ r = cc in
    subst (λ r. (is_meeting r ≡ false) × Crosses kind.Bracket i l (index_after r j) d out) q (
      refl,
      record {
        f_stands = λ q b. room l i j d q (not out) c' h b;
        g_stands = λ p b. raised l j d (not out) c';
        depths = λ p q b b'. more_beside l q d (omega arith);
        turned = λ p q b b'. refl;
      },
    )
crossed_suits _ l i j d out r c c' h e = absurd (cc)

by_index_suits : (k l : Kind) (i j d : ℕ) (out : Bool) (r : Rule) → CanStand k i d out →
    CanStand l j d (not out) → by_index k i l j ≡ Some r → Suits (action_of r j) k i l d out
by_index_suits k l i j d out r c c' e = same (nat_eq i j) refl e
  where
    below : (b : Bool) → nat_lt i j ≡ b → cond b (crossed k) None ≡ Some r →
        Suits (action_of r j) k i l d out
    below true h e =
        let t = crossed_suits k l i j d out r c c' (ltb-true i j h) e in
        subst (λ b. Suits (cond b meeting (crossing (index_after r j))) k i l d out) (sym t.0) t.1
    below false h e = absurd (cc)

    same : (b : Bool) → nat_eq i j ≡ b →
        cond b (met k l) (cond (nat_lt i j) (crossed k) None) ≡ Some r →
        Suits (action_of r j) k i l d out
    same true h e =
        let t = met_suits k l i d out r e in
        subst (λ b. Suits (cond b meeting (crossing (index_after r j))) k i l d out) (sym t.0) t.1
    same false h e = below (nat_lt i j) refl e

erase_suits : (i : ℕ) (l : Kind) (j d : ℕ) (out : Bool) (r : Rule) → Some rule.Erase ≡ Some r →
    Suits (action_of r j) kind.Eraser i l d out
erase_suits i l j d out r e =
    let q : rule.Erase ≡ r = cc in
    subst (λ r. Suits (action_of r j) kind.Eraser i l d out) q (record {
      f_stands = λ q b. tt;
      g_stands = λ p b. absurd (omega arith);
      depths = λ p q b b'. absurd (omega arith);
      turned = λ p q b b'. absurd (omega arith);
    })

pub rule_suits : (k : Kind) (i : ℕ) (l : Kind) (j d : ℕ) (out : Bool) (r : Rule) →
    CanStand k i d out → CanStand l j d (not out) → rule_of k i l j ≡ Some r →
    Suits (action_of r j) k i l d out
rule_suits kind.Eraser i l j d out r c c' e = erase_suits i l j d out r e
rule_suits kind.Lam i kind.Eraser j d out r c c' e = absurd (cc)
rule_suits kind.App i kind.Eraser j d out r c c' e = absurd (cc)
rule_suits kind.Fan i kind.Eraser j d out r c c' e = absurd (cc)
rule_suits kind.Croissant i kind.Eraser j d out r c c' e = absurd (cc)
rule_suits kind.Bracket i kind.Eraser j d out r c c' e = absurd (cc)
rule_suits k i l j d out r c c' e = by_index_suits k l i j d out r c c' e
