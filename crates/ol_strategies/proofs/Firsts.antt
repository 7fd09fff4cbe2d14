-- Applicative order contracts the first innermost redex, and call-by-value the first of its redexes.
use Rattle.std.proofs.Common.{◌≡◌, ℕ, ◌⊎◌, inl, inr, Bool, true, false, List, [], ◌∷◌, ◌++◌, Option}
use Rattle.std.proofs.Common.{Some, None, IsSome, refl, sym, ap, ◌∙◌, subst, arith}
use Rattle.std.specs.Prelude.{◌==◌, ◌&&◌, if◌then◌else◌}
use Rattle.std.specs.Option.{option_map, option_or}
use Rattle.std.proofs.lemmas.Bool.{eqb-true, and_parts}
use Rattle.ol_term.specs.Trees.{Tree, var, free, lam, app}
use Rattle.ol_beta.specs.Beta.{contracted}
use Rattle.ol_beta.specs.Leftmost.{is_abstraction, under, IsBefore}
use Rattle.ol_beta.proofs.Redexes.{no_leftmost, some_map}
use Rattle.ol_strategies.specs.Redexes.{root_if, is_value, value_redex}
use Rattle.ol_strategies.specs.Searches.{is_ready, strict_redex}
use Rattle.ol_strategies.specs.Laws.{IsInnermost, ApplicativeIsFirst, IsValueRedex, ValueIsFirst}
use Rattle.ol_strategies.proofs.Nexts.{under_some, no_sides, strict_applicative, strict_is_redex, no_strict}

-- where the redex of an application is, and that none is before it
abbrev First : Option (List ℕ) → Option (List ℕ) → Bool → List ℕ → Type 0
First x y z at = ((c : List ℕ) × (x ≡ Some c) × (at ≡ 1 ∷ c)) ⊎ (((c : List ℕ) × (x ≡ None) × (y ≡ Some c)
    × (at ≡ 2 ∷ c)) ⊎ ((z ≡ true) × (at ≡ [])))

firsts : (x y : Option (List ℕ)) (z : Bool) (at : List ℕ) →
    option_or (under 1 x) (option_or (under 2 y) (root_if z)) ≡ Some at → First x y z at
firsts (Some c) y z at e = inl (c, refl, cc)
firsts None (Some c) z at e = inr (inl (c, refl, refl, cc))
firsts None None true at e = inr (inr (refl, cc))
firsts None None false at e = absurd (cc)

-- ---- addresses below the same move, and below different ones

on_both : (k : ℕ) (c d at b : List ℕ) → at ≡ k ∷ c → b ≡ k ∷ d → (c ≡ d) ⊎ IsBefore c d → (at ≡ b) ⊎ IsBefore at b
on_both k c d at b i j (inl e) = inl (i ∙ ap (λ (x : List ℕ). k ∷ x) e ∙ sym j)
on_both k c d at b i j (inr h) =
    let both : IsBefore (k ∷ c) (k ∷ d) = inr (refl, h) in
    inr (subst (λ (at : List ℕ). IsBefore at b) (sym i) (subst (λ (b : List ℕ). IsBefore (k ∷ c) b) (sym j) both))

apart : (c d at b : List ℕ) → at ≡ 1 ∷ c → b ≡ 2 ∷ d → (at ≡ b) ⊎ IsBefore at b
apart c d at b i j =
    let both : IsBefore (1 ∷ c) (2 ∷ d) = inl (omega arith) in
    inr (subst (λ (at : List ℕ). IsBefore at b) (sym i) (subst (λ (b : List ℕ). IsBefore (1 ∷ c) b) (sym j) both))

root_first : (at b : List ℕ) → at ≡ [] → (at ≡ b) ⊎ IsBefore at b
root_first at [] i = inl i
root_first at (m ∷ b) i =
    let both : IsBefore [] (m ∷ b) = tt in inr (subst (λ (at : List ℕ). IsBefore at (m ∷ b)) (sym i) both)

-- ---- innermost redexes

pub none_is : (o : Option Tree) → IsSome o → o ≡ None → ⊥
none_is o h e = let k : IsSome {T = Tree} None = subst (λ (o : Option Tree). IsSome o) e h in absurd (cc)

no_map : (f : Tree → Tree) (o : Option Tree) → option_map f o ≡ None → o ≡ None
no_map f None e = refl
no_map f (Some t) e = absurd (cc)

into_body : (m : ℕ) (o : Option Tree) → IsSome (if m == 0 then o else None) → m ≡ 0
into_body m o h = go (m == 0) refl h
  where
    go : (c : Bool) → (m == 0) ≡ c → IsSome (if c then o else None) → m ≡ 0
    go true e h = eqb-true m 0 e
    go false e h = absurd (cc)

into_side : (m : ℕ) (o p : Option Tree) → IsSome (if m == 1 then o else if m == 2 then p else None) →
    (m ≡ 1) ⊎ (m ≡ 2)
into_side m o p h = go (m == 1) refl (m == 2) refl h
  where
    go : (c : Bool) → (m == 1) ≡ c → (d : Bool) → (m == 2) ≡ d →
        IsSome (if c then o else if d then p else None) → (m ≡ 1) ⊎ (m ≡ 2)
    go true e d f h = inl (eqb-true m 1 e)
    go false e true f h = inr (eqb-true m 2 f)
    go false e false f h = absurd (cc)

in_body : (t : Tree) (b : List ℕ) → IsInnermost (lam t) (0 ∷ b) → IsInnermost t b
in_body t b h = (
  some_map lam (contracted t b) h.0,
  λ m below. no_map lam (contracted t (b ++ m ∷ below)) (h.1 m below),
)

in_function : (f a : Tree) (b : List ℕ) → IsInnermost (app f a) (1 ∷ b) → IsInnermost f b
in_function f a b h = (
  some_map (λ (g : Tree). app g a) (contracted f b) h.0,
  λ m below. no_map (λ (g : Tree). app g a) (contracted f (b ++ m ∷ below)) (h.1 m below),
)

in_argument : (f a : Tree) (b : List ℕ) → IsInnermost (app f a) (2 ∷ b) → IsInnermost a b
in_argument f a b h = (
  some_map (app f) (contracted a b) h.0,
  λ m below. no_map (app f) (contracted a (b ++ m ∷ below)) (h.1 m below),
)

-- an address in an application, against that of its first innermost redex
against : (f a : Tree) (at b : List ℕ) →
    ((c d : List ℕ) → strict_redex true f ≡ Some c → IsInnermost f d → (c ≡ d) ⊎ IsBefore c d) →
    ((c d : List ℕ) → strict_redex true a ≡ Some c → IsInnermost a d → (c ≡ d) ⊎ IsBefore c d) →
    First (strict_redex true f) (strict_redex true a) (is_ready true f a) at → IsInnermost (app f a) b →
    (at ≡ b) ⊎ IsBefore at b
against f a at b F A (inr (inr (z, i))) h = root_first at b i
against f a at [] F A (inl (c, x, i)) h = absurd
    (none_is (contracted f c) (strict_is_redex true f c x)
    (no_map (λ (g : Tree). app g a) (contracted f c) (h.1 1 c)))
against f a at [] F A (inr (inl (c, n, y, i))) h = absurd
    (none_is (contracted a c) (strict_is_redex true a c y) (no_map (app f) (contracted a c) (h.1 2 c)))
against f a at (m ∷ b) F A (inl (c, x, i)) h =
    elim (into_side m (option_map (λ (g : Tree). app g a) (contracted f b)) (option_map (app f) (contracted a b)) h.0) [
      | inl e ↦ on_both 1 c b at (m ∷ b) i (ap (λ (m : ℕ). m ∷ b) e) (F c b x (in_function f a b
          (subst (λ (m : ℕ). IsInnermost (app f a) (m ∷ b)) e h)))
      | inr e ↦ apart c b at (m ∷ b) i (ap (λ (m : ℕ). m ∷ b) e)
    ]
against f a at (m ∷ b) F A (inr (inl (c, n, y, i))) h =
    elim (into_side m (option_map (λ (g : Tree). app g a) (contracted f b)) (option_map (app f) (contracted a b)) h.0) [
      | inl e ↦ absurd
          (none_is (contracted f b) (in_function f a b (subst (λ (m : ℕ). IsInnermost (app f a) (m ∷ b)) e h)).0
          (no_leftmost f (no_strict f n) b))
      | inr e ↦ on_both 2 c b at (m ∷ b) i (ap (λ (m : ℕ). m ∷ b) e) (A c b y (in_argument f a b
          (subst (λ (m : ℕ). IsInnermost (app f a) (m ∷ b)) e h)))
    ]

strict_first : (t : Tree) (at b : List ℕ) → strict_redex true t ≡ Some at → IsInnermost t b →
    (at ≡ b) ⊎ IsBefore at b
strict_first (var k) at b e h = absurd (cc)
strict_first (free k) at b e h = absurd (cc)
strict_first (lam t) at [] e h = absurd (none_is None h.0 refl)
strict_first (lam t) at (m ∷ b) e h =
    let r = under_some 0 (strict_redex true t) at e in
    let k = into_body m (option_map lam (contracted t b)) h.0 in
    on_both 0 r.0 b at (m ∷ b) r.2 (ap (λ (m : ℕ). m ∷ b) k) (strict_first t r.0 b r.1
    (in_body t b (subst (λ (m : ℕ). IsInnermost (lam t) (m ∷ b)) k h)))
strict_first (app f a) at b e h = against f a at b (strict_first f) (strict_first a)
    (firsts (strict_redex true f) (strict_redex true a) (is_ready true f a) at e) h

pub applicative_first : ApplicativeIsFirst
applicative_first t at b e h = strict_first t at b (strict_applicative t ∙ e) h

-- ---- redexes of call-by-value

no_some : (o : Option (List ℕ)) (c : List ℕ) → o ≡ None → o ≡ Some c → ⊥
no_some o c e f = let k : None ≡ Some c = sym e ∙ f in absurd (cc)

value_stands : (t : Tree) → is_value t ≡ true → value_redex t ≡ None
value_stands (var k) e = refl
value_stands (free k) e = refl
value_stands (lam t) e = refl
value_stands (app f a) e = absurd (cc)

abstraction_stands : (t : Tree) → is_abstraction t ≡ true → value_redex t ≡ None
abstraction_stands (var k) e = refl
abstraction_stands (free k) e = refl
abstraction_stands (lam t) e = refl
abstraction_stands (app f a) e = absurd (cc)

both_true : (x y : Bool) → x ≡ true → y ≡ true → (x && y) ≡ false → ⊥
both_true true y e f g = let k : true ≡ false = sym f ∙ g in absurd (cc)
both_true false y e f g = absurd (cc)

none_there : (t : Tree) (b : List ℕ) → value_redex t ≡ None → IsValueRedex t b → ⊥
none_there (var k) b e h = absurd h
none_there (free k) b e h = absurd h
none_there (lam t) b e h = absurd h
none_there (app f a) [] e h = both_true (is_abstraction f) (is_value a) h.0 h.1
    (no_sides (value_redex f) (value_redex a) (is_abstraction f && is_value a) e).2
none_there (app f a) (m ∷ b) e (inl h) = none_there f b
    (no_sides (value_redex f) (value_redex a) (is_abstraction f && is_value a) e).0 h.1
none_there (app f a) (m ∷ b) e (inr h) = none_there a b
    (no_sides (value_redex f) (value_redex a) (is_abstraction f && is_value a) e).1 h.1

by_value : (f a : Tree) (at b : List ℕ) →
    ((c d : List ℕ) → value_redex f ≡ Some c → IsValueRedex f d → (c ≡ d) ⊎ IsBefore c d) →
    ((c d : List ℕ) → value_redex a ≡ Some c → IsValueRedex a d → (c ≡ d) ⊎ IsBefore c d) →
    First (value_redex f) (value_redex a) (is_abstraction f && is_value a) at → IsValueRedex (app f a) b →
    (at ≡ b) ⊎ IsBefore at b
by_value f a at b F A (inr (inr (z, i))) h = root_first at b i
by_value f a at [] F A (inl (c, x, i)) h = absurd (no_some (value_redex f) c (abstraction_stands f h.0) x)
by_value f a at [] F A (inr (inl (c, n, y, i))) h = absurd (no_some (value_redex a) c (value_stands a h.1) y)
by_value f a at (m ∷ b) F A (inl (c, x, i)) (inl h) =
    on_both 1 c b at (m ∷ b) i (ap (λ (m : ℕ). m ∷ b) h.0) (F c b x h.1)
by_value f a at (m ∷ b) F A (inl (c, x, i)) (inr h) = apart c b at (m ∷ b) i (ap (λ (m : ℕ). m ∷ b) h.0)
by_value f a at (m ∷ b) F A (inr (inl (c, n, y, i))) (inl h) = absurd (none_there f b n h.1)
by_value f a at (m ∷ b) F A (inr (inl (c, n, y, i))) (inr h) =
    on_both 2 c b at (m ∷ b) i (ap (λ (m : ℕ). m ∷ b) h.0) (A c b y h.1)

value_before : (t : Tree) (at b : List ℕ) → value_redex t ≡ Some at → IsValueRedex t b → (at ≡ b) ⊎ IsBefore at b
value_before (var k) at b e h = absurd h
value_before (free k) at b e h = absurd h
value_before (lam t) at b e h = absurd h
value_before (app f a) at b e h = by_value f a at b (value_before f) (value_before a)
    (firsts (value_redex f) (value_redex a) (is_abstraction f && is_value a) at e) h

at_side : (f a : Tree) (at : List ℕ) → ((c : List ℕ) → value_redex f ≡ Some c → IsValueRedex f c) →
    ((c : List ℕ) → value_redex a ≡ Some c → IsValueRedex a c) →
    First (value_redex f) (value_redex a) (is_abstraction f && is_value a) at → IsValueRedex (app f a) at
at_side f a at F A (inl (c, x, i)) =
    let h : IsValueRedex (app f a) (1 ∷ c) = inl (refl, F c x) in
    subst (λ (at : List ℕ). IsValueRedex (app f a) at) (sym i) h
at_side f a at F A (inr (inl (c, n, y, i))) =
    let h : IsValueRedex (app f a) (2 ∷ c) = inr (refl, A c y) in
    subst (λ (at : List ℕ). IsValueRedex (app f a) at) (sym i) h
at_side f a at F A (inr (inr (z, i))) =
    let h : IsValueRedex (app f a) [] = and_parts (is_abstraction f) (is_value a) z in
    subst (λ (at : List ℕ). IsValueRedex (app f a) at) (sym i) h

value_is_there : (t : Tree) (at : List ℕ) → value_redex t ≡ Some at → IsValueRedex t at
value_is_there (var k) at e = absurd (cc)
value_is_there (free k) at e = absurd (cc)
value_is_there (lam t) at e = absurd (cc)
value_is_there (app f a) at e = at_side f a at (value_is_there f) (value_is_there a)
    (firsts (value_redex f) (value_redex a) (is_abstraction f && is_value a) at e)

pub value_first : ValueIsFirst
value_first t at e = (value_is_there t at e, λ b h. value_before t at b e h)
