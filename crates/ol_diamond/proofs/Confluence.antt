-- The steps of nets commute, and so complete runs agree.
use Rattle.std.proofs.Common.{◌≡◌, ◌≢◌, ℕ, ◌+◌, ◌<◌, List, [], ◌∷◌, ◌++◌, length, count_by, Bool, true, false, cond}
use Rattle.std.proofs.Common.{Some, ◌⊎◌, inl, inr, refl, sym, ap, ◌∙◌, subst, arith}
use Rattle.std.proofs.lemmas.List.Sums.{sum_by-cons}
use Rattle.ol_law_edges.specs.Edges.{IsIn, bit}
use Rattle.ol_law_edges.proofs.Contraction.{is_or_is_not}
use Rattle.ol_net.specs.declared.parts.Kind.{Kind}
use Rattle.ol_net.specs.declared.parts.Rule.{Rule}
use Rattle.ol_net.specs.declared.parts.Rule.TheVariants as rule
use Rattle.ol_net.specs.Rules.{rule_of}
use Rattle.ol_net.specs.Nets.{slot, NamedNet, HasNode, Linked, SameNet, Faces}
use Rattle.ol_net.specs.Pairs.{IsActive, IsComplete}
use Rattle.ol_rules.specs.Rewriting.{action_of, Rewrites}
use Rattle.ol_rules.specs.Laws.{IsFresh}
use Rattle.ol_rules.proofs.Relation.{same_refl, same_sym, same_trans, next, net_kept, one_step}
use Rattle.ol_rules.proofs.Same.{active_same, step_same, complete_same}
use Rattle.ol_rules.proofs.FreshPairs.{linked_sym}
use Rattle.ol_rules.proofs.BothWays.{both_ways}
use Rattle.ol_diamond.specs.Births.{BirthName, born, IsBirthNet}
use Rattle.ol_diamond.specs.Runs.{BirthPair, IsSamePair, IsOfPairs, IsPairStep, IsPairRun, end, then}
use Rattle.ol_diamond.specs.Laws.{StepKeepsBirthNet, RunKeepsBirthNet, PairsCommute, DoneMeansDone}
use Rattle.ol_diamond.specs.Laws.{PairToFront, EachPairIsAmong, NoRunHasMore, NoRunIsLonger}
use Rattle.ol_diamond.specs.Laws.{CompleteRunsHaveOnePairs, CompleteRunsLeaveOneNet}
use Rattle.ol_diamond.proofs.Births.{same_name, name_test, fresh_of, birth_net_kept}
use Rattle.ol_diamond.proofs.Commute.{Disjoint, disjoint_sym, faces_still, square}
use Rattle.ol_diamond.proofs.Turned.{step_around}
use Rattle.ol_diamond.proofs.Orders as orders
use Rattle.ol_diamond.proofs.Orders.{Commuting}

abbrev IsOrNot : {X : Type 0} → X → X → Type 0
IsOrNot x y = (x ≡ y) ⊎ (x ≢ y)

name_is : (x y : BirthName) → IsOrNot x y
name_is x y = is_or_is_not same_name name_test y x

rule_is : (r s : Rule) → IsOrNot r s
rule_is rule.Beta rule.Beta = inl refl
rule_is rule.Fan rule.Fan = inl refl
rule_is rule.Croissant rule.Croissant = inl refl
rule_is rule.Bracket rule.Bracket = inl refl
rule_is rule.CrossFan rule.CrossFan = inl refl
rule_is rule.CrossCroissant rule.CrossCroissant = inl refl
rule_is rule.CrossBracket rule.CrossBracket = inl refl
rule_is rule.Erase rule.Erase = inl refl
rule_is _ _ = inr (λ e. cc)

pub pair_is : (p q : BirthPair) → IsSamePair p q ⊎ (IsSamePair p q → ⊥)
pair_is p q = go (rule_is p.rule q.rule) (name_is p.f q.f) (name_is p.g q.g) (name_is p.f q.g) (name_is p.g q.f)
  where
    neither : (p.f ≢ q.f) ⊎ (p.g ≢ q.g) → (p.f ≢ q.g) ⊎ (p.g ≢ q.f) → IsSamePair p q → ⊥
    neither (inl n) b (r, inl h) = n h.0
    neither (inr n) b (r, inl h) = n h.1
    neither a (inl n) (r, inr h) = n h.0
    neither a (inr n) (r, inr h) = n h.1

    second : p.rule ≡ q.rule → (p.f ≢ q.f) ⊎ (p.g ≢ q.g) → IsOrNot p.f q.g → IsOrNot p.g q.f →
        IsSamePair p q ⊎ (IsSamePair p q → ⊥)
    second r a (inl x) (inl y) = inl (r, inr (x, y))
    second r a (inr n) d = inr (neither a (inl n))
    second r a (inl x) (inr n) = inr (neither a (inr n))

    go : IsOrNot p.rule q.rule → IsOrNot p.f q.f → IsOrNot p.g q.g → IsOrNot p.f q.g →
        IsOrNot p.g q.f → IsSamePair p q ⊎ (IsSamePair p q → ⊥)
    go (inr n) a b x y = inr (λ h. n h.0)
    go (inl r) (inl a) (inl b) x y = inl (r, inl (a, b))
    go (inl r) (inr n) b x y = second r (inl n) x y
    go (inl r) (inl a) (inr n) x y = second r (inr n) x y

pub pair_sym : (p q : BirthPair) → IsSamePair p q → IsSamePair q p
pair_sym p q (r, inl h) = (sym r, inl (sym h.0, sym h.1))
pair_sym p q (r, inr h) = (sym r, inr (sym h.1, sym h.0))

pub pair_refl : (p : BirthPair) → IsSamePair p p
pair_refl p = (refl, inl (refl, refl))

-- the names of a step's births are new
pub fresh_in : (N : NamedNet BirthName) → IsBirthNet N → (f g : BirthName) (r : Rule) →
    IsActive N f g r → IsFresh N (born f g)
fresh_in N b f g r a = fresh_of N b f g a.k a.l a.i a.j a.faces.first a.faces.second

pub step_keeps : StepKeepsBirthNet
step_keeps N M p b s =
    let a = s.active in
    let fresh = fresh_in N b p.f p.g p.rule a in
    birth_net_kept N M p.f p.g a.k a.i a.l a.j (action_of p.rule a.j) b a.faces s.rewrites
    (net_kept same_name name_test (born p.f p.g) N p.f p.g a.k a.i a.l a.j p.rule b.net a.faces
    fresh a.fits M s.rewrites)

pub run_keeps : RunKeepsBirthNet
run_keeps N M [] b end = b
run_keeps N M (p ∷ ps) b (then {M = K} s r) = run_keeps K M ps (step_keeps N K p b s) r

-- where a pair is active, its step is there
pub record Taken (N : NamedNet BirthName) (p : BirthPair) (k : Kind) (i : ℕ) (l : Kind) (j : ℕ) : Type 0 where
  pub after : NamedNet BirthName
  pub step : IsPairStep N p after
  pub rewrites : Rewrites (born p.f p.g) N p.f p.g k i l (action_of p.rule j) after

pub take : (N : NamedNet BirthName) → IsBirthNet N →
    (p : BirthPair) (k : Kind) (i : ℕ) (l : Kind) (j : ℕ) → Faces N p.f p.g k i l j →
    rule_of k i l j ≡ Some p.rule → Taken N p k i l j
take N b p k i l j faces fits =
    let a : IsActive N p.f p.g p.rule = record { k = k; i = i; l = l; j = j; faces = faces; fits = fits } in
    let n = next same_name name_test (born p.f p.g) N p.f p.g k i l j p.rule b.net faces
    (fresh_in N b p.f p.g p.rule a) fits in
    record { after = n.0; step = record { active = a; rewrites = n.1.rewrites }; rewrites = n.1.rewrites }

-- an active pair, at the kinds that its nodes have
pub fits_at : (N : NamedNet BirthName) → IsBirthNet N → (f g : BirthName) (r : Rule) →
    (a : IsActive N f g r) (k : Kind) (i : ℕ) (l : Kind) (j : ℕ) → HasNode N f k i →
    HasNode N g l j → rule_of k i l j ≡ Some r
fits_at N b f g r a k i l j h h' =
    let x = b.net.one_node f a.k k a.i i a.faces.first h in
    let y = b.net.one_node g a.l l a.j j a.faces.second h' in
    sym (ap (λ k. rule_of k a.i a.l a.j) x.0 ∙ ap (λ i. rule_of k i a.l a.j) x.1
    ∙ ap (λ l. rule_of k i l a.j) y.0 ∙ ap (λ j. rule_of k i l j) y.1) ∙ a.fits

-- where the other may act too, its step leaves the same net
around : (N M : NamedNet BirthName) (p q : BirthPair) → IsBirthNet N → IsPairStep N p M →
    IsActive N q.f q.g q.rule → p.f ≡ q.g → p.g ≡ q.f → IsPairStep N q M
around N M p q b s a e e' =
    let x = s.active in
    let hf = subst (λ g. HasNode N g x.l x.j) e' x.faces.second in
    let hg = subst (λ f. HasNode N f x.k x.i) e x.faces.first in
    let fits = fits_at N b q.f q.g q.rule a x.l x.j x.k x.i hf hg in
    let linked : Linked N (slot q.g 0) (slot q.f 0) = subst
    (λ f. Linked N (slot f 0) (slot q.f 0)) e (subst (λ g. Linked N (slot p.f 0) (slot g 0)) e' x.faces.linked) in
    record {
      active = record {
        k = x.l;
        i = x.j;
        l = x.k;
        j = x.i;
        faces = record {
          first = hf;
          second = hg;
          linked = linked_sym N (slot q.g 0) (slot q.f 0) linked;
        };
        fits = fits;
      };
      rewrites = step_around N q.g q.f x.k x.l x.i x.j p.rule q.rule (born p.f p.g) (born q.f q.g) x.fits fits M
          (subst (λ g. Rewrites (born p.f p.g) N q.g g x.k x.i x.l (action_of p.rule x.j) M) e'
          (subst (λ f. Rewrites (born p.f p.g) N f p.g x.k x.i x.l (action_of p.rule x.j) M) e s.rewrites));
    }

-- a pair under its other name
pub rename : (p q : BirthPair) → p.f ≡ q.f → p.g ≡ q.g → p.rule ≡ q.rule → p ≡ q
rename p q a b c = λ i. record { f = a i; g = b i; rule = c i }

-- steps of one net by one pair leave one net
pub one_pair : (N N' M M' : NamedNet BirthName) (p q : BirthPair) → IsSamePair p q → IsBirthNet N →
    SameNet N N' → IsPairStep N p M → IsPairStep N' q M' → SameNet M M'
one_pair N N' M M' p q (r, inl h) b same s s' =
    (one_step (born q.f q.g) N N' M M' q.f q.g q.rule q.rule b.net same
    (subst (λ p. IsPairStep N p M) (rename p q h.0 h.1 r) s) s').1
one_pair N N' M M' p q (r, inr h) b same s s' =
    let a = active_same N' N (same_sym N N' same) q.f q.g q.rule s'.active in
    (one_step (born q.f q.g) N N' M M' q.f q.g q.rule q.rule b.net same (around N M p q b s a h.0 h.1) s').1

module _ (N M P : NamedNet BirthName) (p q : BirthPair) (b : IsBirthNet N) (s : IsPairStep N p M)
    (t : IsPairStep N q P) where
  -- what faces one node is one node
  facing : (x y z : BirthName) → Linked N (slot x 0) (slot y 0) → Linked N (slot x 0) (slot z 0) → y ≡ z
  facing x y z h h' = let e : slot y 0 ≡ slot z 0 = b.net.one_link (slot x 0) (slot y 0) (slot z 0) h h' in cc

  turned_link : (x y : BirthName) → Linked N (slot x 0) (slot y 0) → Linked N (slot y 0) (slot x 0)
  turned_link x y h = linked_sym N (slot x 0) (slot y 0) h

  same_pair : p.f ≡ q.f → p.g ≡ q.g → IsSamePair p q
  same_pair e e' =
      let a = s.active in
      let fits = fits_at N b q.f q.g q.rule t.active a.k a.i a.l a.j
      (subst (λ f. HasNode N f a.k a.i) e a.faces.first) (subst (λ g. HasNode N g a.l a.j) e' a.faces.second) in
      let r : Some p.rule ≡ Some q.rule = sym a.fits ∙ fits in
      (cc, inl (e, e'))

  turned_pair : p.f ≡ q.g → p.g ≡ q.f → IsSamePair p q
  turned_pair e e' =
      let a = s.active in
      let fits = fits_at N b q.f q.g q.rule t.active a.l a.j a.k a.i
      (subst (λ g. HasNode N g a.l a.j) e' a.faces.second) (subst (λ f. HasNode N f a.k a.i) e a.faces.first) in
      ((both_ways a.k a.l a.i a.j p.rule q.rule a.fits fits).one_rule, inr (e, e'))

  pub disjoint : (IsSamePair p q → ⊥) → Disjoint p.f p.g q.f q.g
  disjoint n =
      let h = s.active.faces.linked in
      let h' = t.active.faces.linked in
      record {
        ff = λ e. n (same_pair e (facing q.f p.g q.g (subst (λ f. Linked N (slot f 0) (slot p.g 0)) e h) h'));
        fg = λ e. n (turned_pair e (facing q.g p.g q.f
            (subst (λ f. Linked N (slot f 0) (slot p.g 0)) e h) (turned_link q.f q.g h')));
        gf = λ e. n (turned_pair (facing q.f p.f q.g
            (subst (λ g. Linked N (slot g 0) (slot p.f 0)) e (turned_link p.f p.g h)) h') e);
        gg = λ e. n (same_pair (facing q.g p.f q.f
            (subst (λ g. Linked N (slot g 0) (slot p.f 0)) e (turned_link p.f p.g h)) (turned_link q.f q.g h')) e);
      }

  both_orders : (IsSamePair p q → ⊥) →
      (M' : NamedNet BirthName) × (P' : NamedNet BirthName) × IsPairStep M q M' × IsPairStep P p P' × SameNet M' P'
  both_orders n =
      let d = disjoint n in
      let x = s.active in
      let y = t.active in
      let fresh = fresh_in N b p.f p.g p.rule x in
      let fresh' = fresh_in N b q.f q.g q.rule y in
      let fm = faces_still same_name name_test N b.net p.f p.g x.k x.i x.l x.j
      (action_of p.rule x.j) (born p.f p.g) x.faces fresh q.f q.g y.k y.i y.l y.j y.faces d M s.rewrites in
      let fp = faces_still same_name name_test N b.net q.f q.g y.k y.i y.l y.j
      (action_of q.rule y.j) (born q.f q.g) y.faces fresh' p.f p.g x.k x.i x.l x.j x.faces
      (disjoint_sym d) P t.rewrites in
      let u = take M (step_keeps N M p b s) q y.k y.i y.l y.j fm y.fits in
      let v = take P (step_keeps N P q b t) p x.k x.i x.l x.j fp x.fits in (
        u.after,
        v.after,
        u.step,
        v.step,
        square same_name name_test N b.net p.f p.g x.k x.i x.l x.j (action_of p.rule x.j) (born p.f p.g) x.faces fresh
            q.f q.g y.k y.i y.l y.j (action_of q.rule y.j)
            (born q.f q.g) y.faces fresh' d M u.after P v.after s.rewrites u.rewrites t.rewrites v.rewrites,
      )

pub pairs_commute : PairsCommute
pairs_commute N M P p q b s t n =
    let d = disjoint N M P p q b s t n in
    ((d.ff, d.fg, d.gf, d.gg), both_orders N M P p q b s t n)

abbrev Step : NamedNet BirthName → BirthPair → NamedNet BirthName → Type 0
Step N p M = IsPairStep N p M

commuting : Commuting IsBirthNet SameNet IsSamePair Step
commuting = record {
  same_refl = same_refl;
  same_sym = same_sym;
  same_trans = same_trans;
  good = step_keeps;
  one = λ N N' M M' p q same b b' s t t'. one_pair N N' M M' p q same b s t t';
  also = λ N N' M p b b' same s. (M, step_same N N' same (born p.f p.g) p.f p.g p.rule M s);
  square = λ N M P p q b s t n. both_orders N M P p q b s t n;
  is = pair_is;
  alike_refl = pair_refl;
  alike_sym = pair_sym;
}

pub done_means_done : DoneMeansDone
done_means_done N b = (
  (λ d p M s. d p.f p.g p.rule s.active),
  (λ n f g r a. let t = take N b (record {
    f = f;
    g = g;
    rule = r;
  }) a.k a.i a.l a.j a.faces a.fits in n (record { f = f; g = g; rule = r }) t.after t.step),
)

ended : (N : NamedNet BirthName) → IsComplete N → orders.Ended Step N
ended N d p M s = d p.f p.g p.rule s.active

as_run : (N M : NamedNet BirthName) (ps : List BirthPair) → IsPairRun N ps M → orders.Run Step N ps M
as_run N M [] end = orders.Run.end
as_run N M (p ∷ ps) (then {M = K} s r) = orders.Run.then s (as_run K M ps r)

from_run : (N M : NamedNet BirthName) (ps : List BirthPair) → orders.Run Step N ps M → IsPairRun N ps M
from_run N M [] orders.Run.end = end
from_run N M (p ∷ ps) (orders.Run.then {t = K} s r) = then s (from_run K M ps r)

pub pair_to_front : PairToFront
pair_to_front N K M p ps b s r d =
    let f = orders.to_front commuting N K M p ps b s (as_run N M ps r) (ended M d) in (
      f.before,
      f.label,
      f.after,
      f.end_state,
      f.alike,
      f.is,
      then s (from_run K f.end_state (f.before ++ f.after) f.run),
      complete_same M f.end_state f.same d,
      f.same,
    )

tally_is : (test : BirthPair → Bool) (ps : List BirthPair) → orders.tally test ps ≡ count_by test ps
tally_is test [] = refl
tally_is test (p ∷ ps) = ap (λ n. bit (test p) + n) (tally_is test ps)
    ∙ ap (λ n. n + count_by test ps) (one (test p)) ∙ sym (sum_by-cons (λ p. cond (test p) 1 0) p ps)
  where
    one : (b : Bool) → bit b ≡ cond b 1 0
    one true = refl
    one false = refl

pub no_run_has_more : NoRunHasMore
no_run_has_more N M P ps qs b r d r' test k =
    let a = orders.no_more commuting N M P ps qs b (as_run N M ps r) (ended M d) (as_run N P qs r') test k in
    let x = tally_is test ps in
    let y = tally_is test qs in
    omega arith

-- ---- a pair of a run stands in a complete one

abbrev pub tell : {P : Type 0} → P ⊎ (P → ⊥) → Bool
tell (inl h) = true
tell (inr n) = false

pub tell_holds : {P : Type 0} (x : P ⊎ (P → ⊥)) → P → tell x ≡ true
tell_holds (inl h) p = refl
tell_holds (inr n) p = absurd (n p)

pub told : {P : Type 0} (x : P ⊎ (P → ⊥)) → tell x ≡ true → P
told (inl h) e = h
told (inr n) e = absurd (cc)

pub tell_same : {P Q : Type 0} (x : P ⊎ (P → ⊥)) (y : Q ⊎ (Q → ⊥)) → (P → Q) → (Q → P) → tell x ≡ tell y
tell_same (inl h) y f g = sym (tell_holds y (f h))
tell_same (inr n) (inl h) f g = absurd (n (g h))
tell_same (inr n) (inr m) f g = refl

pub pair_trans : (p q s : BirthPair) → IsSamePair p q → IsSamePair q s → IsSamePair p s
pair_trans p q s (e, inl h) (e', inl h') = (e ∙ e', inl (h.0 ∙ h'.0, h.1 ∙ h'.1))
pair_trans p q s (e, inl h) (e', inr h') = (e ∙ e', inr (h.0 ∙ h'.0, h.1 ∙ h'.1))
pair_trans p q s (e, inr h) (e', inl h') = (e ∙ e', inr (h.0 ∙ h'.1, h.1 ∙ h'.0))
pair_trans p q s (e, inr h) (e', inr h') = (e ∙ e', inl (h.0 ∙ h'.1, h.1 ∙ h'.0))

-- the test that tells this pair
abbrev is_pair : BirthPair → BirthPair → Bool
is_pair p q = tell (pair_is p q)

is_pair_of_pairs : (p : BirthPair) → IsOfPairs (is_pair p)
is_pair_of_pairs p q s h = tell_same (pair_is p q) (pair_is p s) (λ k. pair_trans p q s k h)
    (λ k. pair_trans p s q k (pair_sym q s h))

pub counted : {L : Type 0} (test : L → Bool) (p : L) (ps : List L) → IsIn p ps → test p ≡ true →
    0 < orders.tally test ps
counted test p [] h e = absurd h
counted test p (q ∷ ps) (inl a) e = let b = ap bit (ap test (sym a) ∙ e) in omega arith
counted test p (q ∷ ps) (inr h) e = let b = counted test p ps h e in omega arith

pub found : {L : Type 0} (test : L → Bool) (ps : List L) → 0 < orders.tally test ps →
    (p : L) × IsIn p ps × (test p ≡ true)
found test [] h = absurd (omega arith)
found {L} test (p ∷ ps) h = go (test p) refl (found test ps)
  where
    go : (b : Bool) → test p ≡ b → (0 < orders.tally test ps →
        (q : L) × IsIn q ps × (test q ≡ true)) → (q : L) × IsIn q (p ∷ ps) × (test q ≡ true)
    go true e rest = (p, inl refl, e)
    go false e rest = let b = ap bit e in let t = rest (omega arith) in (t.0, inr t.1, t.2)

pub each_pair_is_among : EachPairIsAmong
each_pair_is_among N M P ps qs b r d r' q h =
    let a = orders.no_more commuting N M P ps qs b (as_run N M ps r) (ended M d) (as_run N P qs r')
    (is_pair q) (is_pair_of_pairs q) in
    let c = counted (is_pair q) q qs h (tell_holds (pair_is q q) (pair_refl q)) in
    let t = found (is_pair q) ps (omega arith) in
    (t.0, t.1, pair_sym q t.0 (told (pair_is q t.0) t.2))

all_tally : (ps : List BirthPair) → orders.tally (λ p. true) ps ≡ length ps
all_tally [] = refl
all_tally (p ∷ ps) = let h = all_tally ps in omega arith

pub no_run_is_longer : NoRunIsLonger
no_run_is_longer N M P ps qs b r d r' =
    let a = orders.no_more commuting N M P ps qs b (as_run N M ps r) (ended M d) (as_run N P qs r')
    (λ p. true) (λ p q h. refl) in
    let x = all_tally ps in
    let y = all_tally qs in
    omega arith

pub complete_runs_have_one_pairs : CompleteRunsHaveOnePairs
complete_runs_have_one_pairs N M P ps qs b r d r' d' test k =
    sym (tally_is test ps) ∙ (orders.agree commuting N M P ps qs b (as_run N M ps r) (ended M d)
    (as_run N P qs r') (ended P d')).0 test k ∙ tally_is test qs

pub complete_runs_leave_one_net : CompleteRunsLeaveOneNet
complete_runs_leave_one_net N M P ps qs b r d r' d' = (orders.agree commuting N M P ps qs b
    (as_run N M ps r) (ended M d) (as_run N P qs r') (ended P d')).1
