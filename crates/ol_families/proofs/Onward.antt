-- From step to step: what the code holds is a labelled term on the way of leftmost reduction.
use Rattle.std.proofs.Common.{◌≡◌, ℕ, zero, suc, ◌+◌, ◌<◌, ◌≤◌, ◌⊎◌, inl, inr, List, [], ◌∷◌, ◌++◌, length, length-append, Option, Some, None, true, false, refl, sym, ap, ◌∙◌, subst, arith, ◌↔◌}
use Rattle.std.specs.Prelude.{slice_get, slice_index_or, IsSome}
use Rattle.std.specs.Option.{option_map}
use Rattle.std.proofs.lemmas.Option.{get_or_from_slice_get, slice_get_within}
use Rattle.ol_beta.specs.Beta as beta
use Rattle.ol_beta.specs.Beta.{IsWithin, IsPast}
use Rattle.ol_beta.specs.Leftmost.{leftmost}
use Rattle.ol_law_edges.specs.Edges.{IsIn}
use Rattle.ol_law_edges.proofs.Lists.{in_cases, in_left, in_right, only, got_last}
use Rattle.ol_law_optimality.specs.Families.{HaveOwnLetters}
use Rattle.ol_law_optimality.specs.Readings.{AreDifferent}
use Rattle.ol_law_optimality.specs.Labels.{Label, none, Labelled, erased, LeftmostContracts, ready, contract}
use Rattle.ol_law_optimality.specs.Labels as labels
use Rattle.ol_term.specs.Trees.{Tree}
use Rattle.ol_families.specs.declared.degrees.Letter.{Letter}
use Rattle.ol_families.specs.Counts.{IsShortLabelled, IsLongLabelled, AreShortLabelled, ReducesLabelled, IsFamilyCount, ended, cut, all_made, too_large}
use Rattle.ol_law_optimality.specs.HeadFamilies.{HasSoManyDifferent}
use Rattle.ol_families.specs.Letters.{letters, letters_of, most_letters}
use Rattle.ol_families.specs.Held.{Held, bare, lettered, contracted, degree, held_letters}
use Rattle.ol_families.specs.Steps.{AreLetters}
use Rattle.ol_families.specs.Tables.{label_of, labelled, IsKnown, IsNoted}
use Rattle.ol_families.proofs.Rows.{same_some, label_letters, label_more, different_more}
use Rattle.ol_families.proofs.Naming.{bare_is, named_contracted, named_degree}
use Rattle.ol_families.proofs.Knowing.{all_more, named_more, step_known, degree_known}
use Rattle.ol_families.proofs.Lettering.{letters_are, letters_lettered, same_letters}
use Rattle.ol_families.proofs.Owning.{bare_lettered, known_lettered, own_letters}
use Rattle.ol_families.proofs.Reading.{has_step, labelled_step}

letters_more : (ds : List Label) (d : Label) → letters_of (ds ++ d ∷ []) ≡ letters_of ds + letters d
letters_more [] d = omega arith
letters_more (e ∷ ds) d = let h = letters_more ds d in omega arith

-- a reduction with one step more
record More (T : Labelled) (ds : List Label) (d : Label) (v u : Labelled) (r : LeftmostContracts T ds v) : Type 0 where
  reduction : LeftmostContracts T (ds ++ d ∷ []) u
  small : AreShortLabelled r → IsShortLabelled u → AreShortLabelled reduction

one_more : (T v u : Labelled) (ds : List Label) (d : Label) (r : LeftmostContracts T ds v) (at : List ℕ) →
    leftmost (erased v) ≡ Some at → labels.degree v at ≡ Some d → labels.contracted v at ≡ Some u → More T ds d v u r
one_more T v u ds d (ready {t = t}) at l e c = record {
  reduction = contract at l e c ready;
  small = λ s z. (s, z);
}
one_more T v u (e ∷ ds) d (contract {u = w} by m g h r) at l f c =
    let n = one_more w v u ds d r at l f c in
    record {
      reduction = contract by m g h n.reduction;
      small = λ s z. (s.0, n.small s.1 z);
    }

-- what the code holds after so many steps: a term, with its labels; what the degrees in its table
-- stand for; and how many letters the degrees of all steps have
pub record Follows (t : Tree) (made : ℕ) (here : Tree) (h : Held) (ls : List Label) (written : ℕ) : Type 0 where
  pub start : Labelled
  pub degrees : List Label
  pub is : erased start ≡ t
  pub own : HaveOwnLetters start
  pub reduction : LeftmostContracts start degrees (labelled ls h)
  pub small : AreShortLabelled reduction
  pub bare_is : bare h ≡ here
  pub known : IsKnown (length ls) h
  pub made_is : length degrees ≡ made
  pub written_is : written ≡ letters_of degrees
  pub few : written ≤ most_letters
  pub letters_few : held_letters h ≤ most_letters
  pub different : AreDifferent ls
  pub same : (d : Label) → IsIn d ls ↔ IsIn d degrees

small_of : (ls : List Label) (h : Held) (t : Tree) → bare h ≡ t → IsWithin t → held_letters h ≤ most_letters →
    IsShortLabelled (labelled ls h)
small_of ls h t e w f = (
  subst IsWithin (sym (bare_is ls h ∙ e)) w,
  (let l = letters_are ls h in omega arith),
)

pub begun : (t : Tree) → IsWithin t → Follows t 0 t (lettered 0 t) [] 0
begun t w =
    let l = letters_lettered 0 t in
    let s = w.0 in
    let f : held_letters (lettered 0 t) ≤ most_letters = omega arith in
    record {
      start = labelled [] (lettered 0 t);
      degrees = [];
      is = bare_is [] (lettered 0 t) ∙ bare_lettered 0 t;
      own = own_letters t;
      reduction = ready;
      small = small_of [] (lettered 0 t) t (bare_lettered 0 t) w f;
      bare_is = bare_lettered 0 t;
      known = known_lettered 0 0 t;
      made_is = refl;
      written_is = refl;
      few = omega arith;
      letters_few = f;
      different = tt;
      same = λ d. ((λ z. z), (λ z. z));
    }

pub begun_with : (t : Tree) → IsWithin t → (h : Held) (ls : List Label) (n : ℕ) → h ≡ lettered 0 t → ls ≡ [] → n ≡ 0 →
    Follows t 0 t h ls n
begun_with t w h ls n e d c =
    subst (λ (h : Held). Follows t 0 t h ls n) (sym e)
    (subst (λ (ls : List Label). Follows t 0 t (lettered 0 t) ls n) (sym d)
    (subst (λ (n : ℕ). Follows t 0 t (lettered 0 t) [] n) (sym c) (begun t w)))

-- the table after a step
record Noted (ls : List Label) (d : Label) (k : ℕ) (after : List Label) : Type 0 where
  more : List Label
  is : after ≡ ls ++ more
  got : slice_index_or after k none ≡ d
  below : k < length after
  different : AreDifferent after
  same : (e : Label) → IsIn e after ↔ IsIn e (ls ++ d ∷ [])

got_there : (ls : List Label) (k : ℕ) (d : Label) → slice_get ls k ≡ Some d → IsIn d ls
got_there [] k d e = absurd (clash e)
  where
    clash : None ≡ Some d → ⊥
    clash e = cc
got_there (x ∷ ls) zero d e = inl (sym (same_some e))
got_there (x ∷ ls) (suc k) d e = inr (got_there ls k d e)

append_nil : (ls : List Label) → ls ≡ ls ++ []
append_nil [] = refl
append_nil (x ∷ ls) = ap (λ (ls : List Label). x ∷ ls) (append_nil ls)

noted : (ls : List Label) (d : Label) (k : ℕ) (after : List Label) → AreDifferent ls → IsNoted ls d k after →
    Noted ls d k after
noted ls d k after a (inl (e, g)) =
    let h : slice_get after k ≡ Some d = ap (λ (ls : List Label). slice_get ls k) e ∙ g in
    record {
      more = [];
      is = e ∙ append_nil ls;
      got = get_or_from_slice_get after k d none h;
      below = slice_get_within after k d h;
      different = subst AreDifferent (sym e) a;
      same = λ x. (
        (λ z. in_left x ls (d ∷ []) (subst (λ (ls : List Label). IsIn x ls) e z)),
        (λ z. subst (λ (ls : List Label). IsIn x ls) (sym e) (elim (in_cases x ls (d ∷ []) z) [
          | inl j ↦ j
          | inr j ↦ subst (λ (y : Label). IsIn y ls) (sym (only x d j)) (got_there ls k d g)
        ])),
      );
    }
noted ls d k after a (inr (n, e, i)) =
    let h : slice_get after k ≡ Some d =
    ap (λ (ls : List Label). slice_get ls k) e ∙ ap (λ (j : ℕ). slice_get (ls ++ d ∷ []) j) i ∙ got_last ls d in
    record {
      more = d ∷ [];
      is = e;
      got = get_or_from_slice_get after k d none h;
      below = slice_get_within after k d h;
      different = subst AreDifferent (sym e) (different_more ls d a n);
      same = λ x. (
        (λ z. subst (λ (ls : List Label). IsIn x ls) e z),
        (λ z. subst (λ (ls : List Label). IsIn x ls) (sym e) z),
      );
    }

module _ (t : Tree) (made : ℕ) (here : Tree) (h : Held) (ls : List Label) (written : ℕ)
    (f : Follows t made here h ls written) where
  erased_here : erased (labelled ls h) ≡ here
  erased_here = bare_is ls h ∙ f.bare_is

  leftmost_here : (o : Option (List ℕ)) → leftmost here ≡ o → leftmost (erased (labelled ls h)) ≡ o
  leftmost_here o e = ap leftmost erased_here ∙ e

  abbrev so_far : (most : ℕ) → made ≤ most → ReducesLabelled t most f.degrees (labelled ls h)
  so_far most l = record {
    start = f.start;
    is = f.is;
    own = f.own;
    reduction = f.reduction;
    made = (let e = f.made_is in omega arith);
    short = f.small;
    few = (let w = f.written_is in let b = f.few in omega arith);
  }

  so_many : HasSoManyDifferent f.degrees (length ls)
  so_many = (ls, f.different, f.same, refl)

  pub ends : (most : ℕ) → made ≤ most → leftmost here ≡ None → IsFamilyCount t most (length ls) true
  ends most l e = ended (so_far most l) (leftmost_here None e) so_many

  pub stops : (most : ℕ) (at : List ℕ) → made ≡ most → leftmost here ≡ Some at → IsFamilyCount t most (length ls) false
  stops most at l e = cut (so_far most (omega arith))
      (all_made (f.made_is ∙ l) (subst IsSome (sym (leftmost_here (Some at) e)) (search))) so_many

  -- ---- one step more

  module _ (at : List ℕ) (l : leftmost here ≡ Some at) (next : Tree) (c : beta.contracted here at ≡ Some next) where
    step_there : (v : Labelled) × (labels.contracted (labelled ls h) at ≡ Some v) × (erased v ≡ next)
    step_there = labelled_step (labelled ls h) at next (ap (λ (t : Tree). beta.contracted t at) erased_here ∙ c)

    module _ (r : List Letter) (g : degree h at ≡ Some r) where
      degree_there : labels.degree (labelled ls h) at ≡ Some (label_of ls r)
      degree_there = sym (named_degree ls h at) ∙ ap (option_map (λ r. label_of ls r)) g

      stepped : (v : Labelled) → labels.contracted (labelled ls h) at ≡ Some v →
          More f.start f.degrees (label_of ls r) (labelled ls h) v f.reduction
      stepped v d = one_more f.start (labelled ls h) v f.degrees (label_of ls r) f.reduction at (leftmost_here (Some at) l)
          degree_there d

      -- the step leads out of bounds
      cut_here : (most : ℕ) → made < most → (v : Labelled) → labels.contracted (labelled ls h) at ≡ Some v →
          IsLongLabelled v ⊎ (most_letters < letters_of (f.degrees ++ label_of ls r ∷ [])) →
          IsFamilyCount t most (length ls) false
      cut_here most b v d p = cut (so_far most (omega (arith, b)))
          (too_large (leftmost_here (Some at) l) degree_there d p) so_many

      pub grows_past : (most : ℕ) → made < most → IsPast next → IsFamilyCount t most (length ls) false
      grows_past most b p = let s = step_there in cut_here most b s.0 s.1 (inl (inl (subst IsPast (sym s.2) p)))

      pub too_long : (most : ℕ) → made < most → most_letters < written + length r → IsFamilyCount t most (length ls) false
      too_long most b p =
          let s = step_there in
          let e = letters_more f.degrees (label_of ls r) in
          let a = label_letters ls r in
          let w = f.written_is in
          cut_here most b s.0 s.1 (inr (omega arith))

      -- a table with the degree of this step
      module _ (k : ℕ) (after more : List Label) (is : after ≡ ls ++ more)
          (got : slice_index_or after k none ≡ label_of ls r) where
        same_there : labelled after h ≡ labelled ls h
        same_there = ap (λ (ls : List Label). labelled ls h) is ∙ named_more ls more h f.known

        same_row : label_of after r ≡ label_of ls r
        same_row = ap (λ (ls : List Label). label_of ls r) is
            ∙ label_more ls more r (degree_known (length ls) h at r f.known g)

        is_number : (s : List Letter) → degree h at ≡ Some s → slice_index_or after k none ≡ label_of after s
        is_number s e = got ∙ sym same_row ∙ ap (label_of after) (same_some (sym g ∙ e))

        named_step : (u : Held) → contracted k h at ≡ Some u →
            labels.contracted (labelled ls h) at ≡ Some (labelled after u)
        named_step u e = ap (λ (t : Labelled). labels.contracted t at) (sym same_there)
            ∙ sym (named_contracted after k h at is_number) ∙ ap (option_map (λ t. labelled after t)) e

      pub goes_on : (k : ℕ) (after : List Label) → IsNoted ls (label_of ls r) k after → (u : Held) →
          contracted k h at ≡ Some u → IsWithin next → written + length r ≤ most_letters →
          held_letters u ≤ most_letters → Follows t (made + 1) next u after (written + length r)
      goes_on k after n u e w b q =
          let s = step_there in
          let m = noted ls (label_of ls r) k after f.different n in
          let i = named_step k after m.more m.is m.got u e in
          let x = stepped (labelled after u) i in
          let z : erased (labelled after u) ≡ next = ap erased (same_some (sym i ∙ s.1)) ∙ s.2 in
          let y : bare u ≡ next = sym (bare_is after u) ∙ z in
          let o : length ls ≤ length after =
          (let a = ap (λ (ls : List Label). length ls) m.is in let c = length-append ls m.more in omega arith) in
          record {
            start = f.start;
            degrees = f.degrees ++ label_of ls r ∷ [];
            is = f.is;
            own = f.own;
            reduction = x.reduction;
            small = x.small f.small (small_of after u next y w q);
            bare_is = y;
            known = step_known (length after) k m.below h at u (all_more (length ls) (length after) h o f.known) e;
            made_is = (let a = length-append f.degrees (label_of ls r ∷ []) in let d = f.made_is in omega arith);
            written_is = (let a = letters_more f.degrees (label_of ls r) in let d = f.written_is in
                let j = label_letters ls r in omega arith);
            few = b;
            letters_few = q;
            different = m.different;
            same = λ d. (
              (λ j. elim (in_cases d ls (label_of ls r ∷ []) ((m.same d).0 j)) [
                | inl a ↦ in_left d f.degrees (label_of ls r ∷ []) ((f.same d).0 a)
                | inr a ↦ in_right d f.degrees (label_of ls r ∷ []) a
              ]),
              (λ j. (m.same d).1 (elim (in_cases d f.degrees (label_of ls r ∷ []) j) [
                | inl a ↦ in_left d ls (label_of ls r ∷ []) ((f.same d).1 a)
                | inr a ↦ in_right d ls (label_of ls r ∷ []) a
              ])),
            );
          }

      -- where the labels would have too many letters
      pub too_many_letters : (n most : ℕ) → made < most → AreLetters (contracted 0 h at) n → most_letters < n →
          IsFamilyCount t most (length ls) false
      too_many_letters n most b a p =
          let k = length ls in
          let after = ls ++ label_of ls r ∷ [] in
          let o = has_step k h at next (ap (λ (t : Tree). beta.contracted t at) f.bare_is ∙ c) in
          let q : slice_index_or after k none ≡ label_of ls r =
          get_or_from_slice_get after k (label_of ls r) none (got_last ls (label_of ls r)) in
          let i = named_step k after (label_of ls r ∷ []) refl q o.0 o.1 in
          let d : n ≡ held_letters o.0 = same_letters k 0 h at o.0 n o.1 a in
          let e = letters_are after o.0 in
          cut_here most b (labelled after o.0) i (inl (inr (omega arith)))
