-- No closed value is left in a folded tree, but for a redex and what it stands in.
use Rattle.std.proofs.Common.{◌≡◌, ℕ, zero, suc, ◌+◌, ◌⊎◌, inl, inr, Bool, true, false, List, [], ◌∷◌, Option, Some, None}
use Rattle.std.proofs.Common.{refl, sym, ap, ◌∙◌, subst, arith, eqb-true}
use Rattle.std.specs.Prelude.{◌==◌, if◌then◌else◌, slice_get, IsSome}
use Rattle.std.proofs.lemmas.Bool.{and_parts}
use Rattle.std.proofs.lemmas.Option.{same_Some}
use Rattle.ol_term.specs.Trees.{Tree, var, free, lam, app, is_below, is_named_below}
use Rattle.ol_beta.specs.Beta.{contracted}
use Rattle.ol_steps.specs.Folded.{is_same, value_at, or_name, all_folded, folded_round}
use Rattle.ol_steps.specs.LetLaws.{subterm_along, IsOffTheWay, NothingIsLeft}
use Rattle.ol_steps.proofs.Same.{same_itself}
use Rattle.ol_beta.proofs.Redexes.{body_move, side_move}
use Rattle.ol_strategies.proofs.Finals.{no_less}

clash : false ≡ true → ⊥
clash e = absurd (cc)

no_tree : (v : Tree) → None ≡ Some v → ⊥
no_tree v e = absurd (cc)

-- ---- a value

-- a value of the list has a number
has_number : (n : ℕ) (vs : List Tree) (k : ℕ) (v : Tree) → slice_get vs k ≡ Some v → value_at n vs v ≡ None → ⊥
has_number n [] k v e h = absurd (cc)
has_number n (w ∷ vs) zero v e h =
    let same : w ≡ v = same_Some w v e in
    first (is_same w v) (subst (λ (u : Tree). is_same u v ≡ true) (sym same) (same_itself v)) h
  where
    first : (b : Bool) → b ≡ true → (if b then Some n else value_at (n + 1) vs v) ≡ None → ⊥
    first true i h = absurd (cc)
    first false i h = clash i
has_number n (w ∷ vs) (suc k) v e h = later (is_same w v) (has_number (n + 1) vs k v e) h
  where
    later : (b : Bool) → (value_at (n + 1) vs v ≡ None → ⊥) → (if b then Some n else value_at (n + 1) vs v) ≡ None → ⊥
    later true each h = absurd (cc)
    later false each h = each h

-- a part that may have become a name hasn't become one, if it has no names
not_named : (o : Option ℕ) (u : Tree) → is_named_below 0 (or_name o u) ≡ true → o ≡ None
not_named None u h = refl
not_named (Some k) u h = absurd (no_less k h)

named_or : (o : Option ℕ) (u : Tree) → o ≡ None → or_name o u ≡ u
named_or o u e = ap (λ (p : Option ℕ). or_name p u) e

-- where no name is in a folded tree, nothing was folded
unchanged : (n : ℕ) (vs : List Tree) (t : Tree) → is_named_below 0 (all_folded n vs t) ≡ true → all_folded n vs t ≡ t
unchanged n vs (var k) h = refl
unchanged n vs (free k) h = refl
unchanged n vs (lam t) h =
    let u = lam (all_folded n vs t) in
    let is : or_name (value_at n vs (lam t)) u ≡ u = named_or (value_at n vs (lam t)) u (not_named (value_at n vs (lam t)) u h) in
    is ∙ ap lam (unchanged n vs t (subst (λ (x : Tree). is_named_below 0 x ≡ true) is h))
unchanged n vs (app f a) h =
    let u = app (all_folded n vs f) (all_folded n vs a) in
    let is : or_name (value_at n vs (app f a)) u ≡ u =
    named_or (value_at n vs (app f a)) u (not_named (value_at n vs (app f a)) u h) in
    let p = and_parts (is_named_below 0 (all_folded n vs f)) (is_named_below 0 (all_folded n vs a))
    (subst (λ (x : Tree). is_named_below 0 x ≡ true) is h) in
    is ∙ ap (λ (x : Tree). app x (all_folded n vs a)) (unchanged n vs f p.0) ∙ ap (λ (x : Tree). app f x) (unchanged n vs a p.1)

-- what has become a part isn't a value of the list that has no names
part_is_none : (n : ℕ) (vs : List Tree) (k : ℕ) (v t u : Tree) → slice_get vs k ≡ Some v → is_named_below 0 v ≡ true →
    t ≡ v → or_name (value_at n vs t) u ≡ v → ⊥
part_is_none n vs k v t u e named is h =
    has_number n vs k v e (subst (λ (x : Tree). value_at n vs x ≡ None) is
    (not_named (value_at n vs t) u (subst (λ (x : Tree). is_named_below 0 x ≡ true) (sym h) named)))

-- the whole tree is the subterm at the empty address
pub root_is : (u v : Tree) → subterm_along u [] ≡ Some v → u ≡ v
root_is (var j) v e = same_Some (var j) v e
root_is (free j) v e = same_Some (free j) v e
root_is (lam t) v e = same_Some (lam t) v e
root_is (app f a) v e = same_Some (app f a) v e

-- beside the way to a redex, one move on
further : (m : ℕ) (redex at : List ℕ) → IsOffTheWay (Some (m ∷ redex)) (m ∷ at) → IsOffTheWay (Some redex) at
further m redex at h rest e = h rest (ap (λ (x : List ℕ). m ∷ x) e)

module _ (n : ℕ) (vs : List Tree) (k : ℕ) (v : Tree) (among : slice_get vs k ≡ Some v) (below : is_below 0 v ≡ true)
    (named : is_named_below 0 v ≡ true) where
  not_whole : (t : Tree) → all_folded n vs t ≡ v → ⊥
  not_whole (var j) e = no_less j (subst (λ (x : Tree). is_below 0 x ≡ true) (sym e) below)
  not_whole (free j) e = no_less j (subst (λ (x : Tree). is_named_below 0 x ≡ true) (sym e) named)
  not_whole (lam t) e =
      let is = unchanged n vs (lam t) (subst (λ (x : Tree). is_named_below 0 x ≡ true) (sym e) named) in
      part_is_none n vs k v (lam t) (lam (all_folded n vs t)) among named (sym is ∙ e) e
  not_whole (app f a) e =
      let is = unchanged n vs (app f a) (subst (λ (x : Tree). is_named_below 0 x ≡ true) (sym e) named) in
      part_is_none n vs k v (app f a) (app (all_folded n vs f) (all_folded n vs a)) among named (sym is ∙ e) e

  -- nor a subterm further in
  body_none : (u : Tree) (m : ℕ) (at : List ℕ) → (m ≡ 0 → subterm_along u at ≡ Some v → ⊥) →
      subterm_along (lam u) (m ∷ at) ≡ Some v → ⊥
  body_none u m at h e = go (m == 0) refl e
    where
      go : (b : Bool) → (m == 0) ≡ b → (if b then subterm_along u at else None) ≡ Some v → ⊥
      go true i e = h (eqb-true m 0 i) e
      go false i e = no_tree v e

  sides_none : (g b : Tree) (m : ℕ) (at : List ℕ) → (m ≡ 1 → subterm_along g at ≡ Some v → ⊥) →
      (m ≡ 2 → subterm_along b at ≡ Some v → ⊥) → subterm_along (app g b) (m ∷ at) ≡ Some v → ⊥
  sides_none g b m at h i e = go (m == 1) (m == 2) refl refl e
    where
      go : (p q : Bool) → (m == 1) ≡ p → (m == 2) ≡ q →
          (if p then subterm_along g at else if q then subterm_along b at else None) ≡ Some v → ⊥
      go true q r s e = h (eqb-true m 1 r) e
      go false true r s e = i (eqb-true m 2 s) e
      go false false r s e = no_tree v e

  none_left : (t : Tree) (at : List ℕ) → subterm_along (all_folded n vs t) at ≡ Some v → ⊥
  none_left (var j) [] e = not_whole (var j) (same_Some (var j) v e)
  none_left (var j) (m ∷ at) e = no_tree v e
  none_left (free j) [] e = not_whole (free j) (same_Some (free j) v e)
  none_left (free j) (m ∷ at) e = no_tree v e
  none_left (lam t) [] e = not_whole (lam t) (root_is (all_folded n vs (lam t)) v e)
  none_left (lam t) (m ∷ at) e = go (value_at n vs (lam t)) (none_left t at) e
    where
      go : (o : Option ℕ) → (subterm_along (all_folded n vs t) at ≡ Some v → ⊥) →
          subterm_along (or_name o (lam (all_folded n vs t))) (m ∷ at) ≡ Some v → ⊥
      go None B e = body_none (all_folded n vs t) m at (λ _. B) e
      go (Some j) B e = no_tree v e
  none_left (app f a) [] e = not_whole (app f a) (root_is (all_folded n vs (app f a)) v e)
  none_left (app f a) (m ∷ at) e = go (value_at n vs (app f a)) (none_left f at) (none_left a at) e
    where
      go : (o : Option ℕ) → (subterm_along (all_folded n vs f) at ≡ Some v → ⊥) →
          (subterm_along (all_folded n vs a) at ≡ Some v → ⊥) →
          subterm_along (or_name o (app (all_folded n vs f) (all_folded n vs a))) (m ∷ at) ≡ Some v → ⊥
      go None F A e = sides_none (all_folded n vs f) (all_folded n vs a) m at (λ _. F) (λ _. A) e
      go (Some j) F A e = no_tree v e

  none_round : (t : Tree) (redex at : List ℕ) → IsSome (contracted t redex) → IsOffTheWay (Some redex) at →
      subterm_along (folded_round n vs redex t) at ≡ Some v → ⊥
  none_round (var j) redex at h off e = absurd (cc)
  none_round (free j) redex at h off e = absurd (cc)
  none_round (lam t) [] at h off e = absurd (cc)
  none_round (lam t) (m ∷ redex) [] h off e = off (m ∷ redex) refl
  none_round (lam t) (m ∷ redex) (j ∷ at) h off e =
      let r = body_move t m redex h in
      body_none (folded_round n vs redex t) j at (λ is. none_round t redex at r.1 (further m redex at
      (subst (λ (i : ℕ). IsOffTheWay (Some (m ∷ redex)) (i ∷ at)) (is ∙ sym r.0) off))) e
  none_round (app f a) [] [] h off e = off [] refl
  none_round (app f a) [] (j ∷ at) h off e =
      sides_none (all_folded n vs f) (all_folded n vs a) j at (λ _. none_left f at) (λ _. none_left a at) e
  none_round (app f a) (m ∷ redex) [] h off e = off (m ∷ redex) refl
  none_round (app f a) (m ∷ redex) (j ∷ at) h off e =
      go (none_round f redex at) (none_round a redex at) (side_move f a m redex h) (m == 1) refl e
    where
      along : (i : ℕ) → m ≡ i → j ≡ i → IsOffTheWay (Some redex) at
      along i p q = further m redex at (subst (λ (i : ℕ). IsOffTheWay (Some (m ∷ redex)) (i ∷ at)) (q ∙ sym p) off)

      not_one : (m == 1) ≡ true → m ≡ 2 → ⊥
      not_one i p = let q = eqb-true m 1 i in absurd (omega (arith, p, q))

      one : (m == 1) ≡ false → m ≡ 1 → ⊥
      one i p = clash (sym i ∙ ap (λ (l : ℕ). l == 1) p)

      go : (IsSome (contracted f redex) → IsOffTheWay (Some redex) at →
          subterm_along (folded_round n vs redex f) at ≡ Some v → ⊥) →
          (IsSome (contracted a redex) → IsOffTheWay (Some redex) at →
          subterm_along (folded_round n vs redex a) at ≡ Some v → ⊥) →
          ((m ≡ 1) × IsSome (contracted f redex)) ⊎ ((m ≡ 2) × IsSome (contracted a redex)) → (b : Bool) → (m == 1) ≡ b →
          subterm_along (if b then app (folded_round n vs redex f) (all_folded n vs a)
          else app (all_folded n vs f) (folded_round n vs redex a)) (j ∷ at) ≡ Some v → ⊥
      go F A (inl s) true i e = sides_none (folded_round n vs redex f) (all_folded n vs a) j at
          (λ q. F s.1 (along 1 s.0 q)) (λ _. none_left a at) e
      go F A (inl s) false i e = absurd (one i s.0)
      go F A (inr s) true i e = absurd (not_one i s.0)
      go F A (inr s) false i e = sides_none (all_folded n vs f) (folded_round n vs redex a) j at
          (λ _. none_left f at) (λ q. A s.1 (along 2 s.0 q)) e

pub nothing_is_left : NothingIsLeft
nothing_is_left n vs None t v at k among below named leads off e = none_left n vs k v among below named t at e
nothing_is_left n vs (Some redex) t v at k among below named leads off e =
    none_round n vs k v among below named t redex at leads off e
