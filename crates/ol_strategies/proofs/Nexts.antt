-- The next redex of each order is a redex; head steps are leftmost steps.
use Rattle.std.proofs.Common.{◌≡◌, ℕ, zero, suc, ◌⊎◌, inl, inr, Bool, true, false, List, [], ◌∷◌, ◌++◌}
use Rattle.std.proofs.Common.{replicate, Option, Some, None, IsSome, refl, sym, ap, ◌∙◌, subst}
use Rattle.std.proofs.Math.Bool.{and-true}
use Rattle.std.specs.Prelude.{◌==◌, ◌&&◌, if◌then◌else◌}
use Rattle.std.specs.Option.{option_map, option_or}
use Rattle.ol_term.specs.Trees.{Tree, var, free, lam, app}
use Rattle.ol_beta.specs.Beta.{contracted}
use Rattle.ol_beta.specs.Leftmost.{is_abstraction, under, leftmost, IsNormal}
use Rattle.ol_beta.proofs.Redexes.{no_under, no_leftmost, leftmost_first, map_some, some_map, map_none, both_none}
use Rattle.ol_beta.proofs.Redexes.{abstraction_applied}
use Rattle.ol_law_meaning.specs.Shows.{IsHeadAddress}
use Rattle.ol_strategies.specs.Redexes.{head_redex, weak_head_redex, root_if, applicative_redex, is_value, value_redex}
use Rattle.ol_strategies.specs.Redexes.{next}
use Rattle.ol_strategies.specs.Searches.{spine_redex, is_ready, strict_redex}
use Rattle.ol_strategies.specs.Laws.{NextIsRedex, HeadIsLeftmost, WeakHeadIsHead, HeadIsAtHeadAddress}
use Rattle.ol_strategies.specs.Laws.{ApplicativeIsInnermost}
use Rattle.ol_strategies.specs.declared.orders.Order.TheVariants as order
use Rattle.ol_strategies.specs.declared.orders.Order.{Order}

-- ---- the searches are of the orders

if_same : (b : Bool) (x y : Option (List ℕ)) → x ≡ y → (if b then Some [] else under 1 x) ≡ (if b then Some [] else under 1 y)
if_same b x y e = ap (λ (o : Option (List ℕ)). if b then Some [] else under 1 o) e

pub spine_head : (t : Tree) → spine_redex true t ≡ head_redex t
spine_head (var k) = refl
spine_head (free k) = refl
spine_head (lam t) = ap (λ (o : Option (List ℕ)). under 0 o) (spine_head t)
spine_head (app f a) = if_same (is_abstraction f) (spine_redex true f) (head_redex f) (spine_head f)

pub spine_weak : (t : Tree) → spine_redex false t ≡ weak_head_redex t
spine_weak (var k) = refl
spine_weak (free k) = refl
spine_weak (lam t) = refl
spine_weak (app f a) = if_same (is_abstraction f) (spine_redex false f) (weak_head_redex f) (spine_weak f)

three_same : (x y u v : Option (List ℕ)) (b c : Bool) → x ≡ u → y ≡ v → b ≡ c →
    option_or (under 1 x) (option_or (under 2 y) (root_if b)) ≡ option_or (under 1 u) (option_or (under 2 v) (root_if c))
three_same x y u v b c e f g =
    ap (λ (o : Option (List ℕ)). option_or (under 1 o) (option_or (under 2 y) (root_if b))) e
    ∙ ap (λ (o : Option (List ℕ)). option_or (under 1 u) (option_or (under 2 o) (root_if b))) f
    ∙ ap (λ (b : Bool). option_or (under 1 u) (option_or (under 2 v) (root_if b))) g

pub strict_applicative : (t : Tree) → strict_redex true t ≡ applicative_redex t
strict_applicative (var k) = refl
strict_applicative (free k) = refl
strict_applicative (lam t) = ap (λ (o : Option (List ℕ)). under 0 o) (strict_applicative t)
strict_applicative (app f a) = three_same (strict_redex true f) (strict_redex true a) (applicative_redex f)
    (applicative_redex a) (is_ready true f a) (is_abstraction f) (strict_applicative f) (strict_applicative a)
    (and-true (is_abstraction f))

pub strict_value : (t : Tree) → strict_redex false t ≡ value_redex t
strict_value (var k) = refl
strict_value (free k) = refl
strict_value (lam t) = refl
strict_value (app f a) = three_same (strict_redex false f) (strict_redex false a) (value_redex f)
    (value_redex a) (is_ready false f a) (is_abstraction f && is_value a) (strict_value f) (strict_value a) refl

-- ---- addresses further up

pub under_some : (m : ℕ) (o : Option (List ℕ)) (at : List ℕ) → under m o ≡ Some at →
    (b : List ℕ) × (o ≡ Some b) × (at ≡ m ∷ b)
under_some m None at e = absurd (cc)
under_some m (Some b) at e = (b, refl, cc)

-- where the redex of an application is
abbrev pub Side : Option (List ℕ) → Option (List ℕ) → Bool → List ℕ → Type 0
Side x y z at = ((b : List ℕ) × (x ≡ Some b) × (at ≡ 1 ∷ b)) ⊎ (((b : List ℕ) × (y ≡ Some b) × (at ≡ 2 ∷ b))
    ⊎ ((x ≡ None) × (y ≡ None) × (z ≡ true) × (at ≡ [])))

pub sides : (x y : Option (List ℕ)) (z : Bool) (at : List ℕ) →
    option_or (under 1 x) (option_or (under 2 y) (root_if z)) ≡ Some at → Side x y z at
sides (Some b) y z at e = inl (b, refl, cc)
sides None (Some b) z at e = inr (inl (b, refl, cc))
sides None None true at e = inr (inr (refl, refl, refl, cc))
sides None None false at e = absurd (cc)

pub no_sides : (x y : Option (List ℕ)) (z : Bool) →
    option_or (under 1 x) (option_or (under 2 y) (root_if z)) ≡ None → (x ≡ None) × (y ≡ None) × (z ≡ false)
no_sides (Some b) y z e = absurd (cc)
no_sides None (Some b) z e = absurd (cc)
no_sides None None true e = absurd (cc)
no_sides None None false e = (refl, refl, refl)

-- ---- head steps are leftmost steps

first_in : (x y : Option (List ℕ)) (b at : List ℕ) → x ≡ Some b → at ≡ 1 ∷ b →
    option_or (under 1 x) (under 2 y) ≡ Some at
first_in x y b at e i = ap (λ (o : Option (List ℕ)). option_or (under 1 o) (under 2 y)) e
    ∙ ap (λ (a : List ℕ). Some a) (sym i)

under_is : (m : ℕ) (x : Option (List ℕ)) (b at : List ℕ) → x ≡ Some b → at ≡ m ∷ b → under m x ≡ Some at
under_is m x b at e i = ap (λ (o : Option (List ℕ)). under m o) e ∙ ap (λ (a : List ℕ). Some a) (sym i)

head_then : (c : Bool) (x u v : Option (List ℕ)) (at : List ℕ) → ((b : List ℕ) → x ≡ Some b → u ≡ Some b) →
    (if c then Some [] else under 1 x) ≡ Some at → (if c then Some [] else option_or (under 1 u) (under 2 v)) ≡ Some at
head_then true x u v at F e = e
head_then false x u v at F e =
    let r = under_some 1 x at e in first_in u v r.0 at (F r.0 r.1) r.2

pub head_leftmost : HeadIsLeftmost
head_leftmost (var k) at e = absurd (cc)
head_leftmost (free k) at e = absurd (cc)
head_leftmost (lam t) at e =
    let r = under_some 0 (head_redex t) at e in under_is 0 (leftmost t) r.0 at (head_leftmost t r.0 r.1) r.2
head_leftmost (app f a) at e = head_then (is_abstraction f) (head_redex f) (leftmost f) (leftmost a) at
    (head_leftmost f) e

weak_then : (c : Bool) (x u : Option (List ℕ)) (at : List ℕ) → ((b : List ℕ) → x ≡ Some b → u ≡ Some b) →
    (if c then Some [] else under 1 x) ≡ Some at → (if c then Some [] else under 1 u) ≡ Some at
weak_then true x u at F e = e
weak_then false x u at F e = let r = under_some 1 x at e in under_is 1 u r.0 at (F r.0 r.1) r.2

pub weak_head : WeakHeadIsHead
weak_head (var k) at e = absurd (cc)
weak_head (free k) at e = absurd (cc)
weak_head (lam t) at e = absurd (cc)
weak_head (app f a) at e = weak_then (is_abstraction f) (weak_head_redex f) (head_redex f) at (weak_head f) e

-- ---- what is next is a redex

and_first : (x y : Bool) → (x && y) ≡ true → x ≡ true
and_first true y e = refl
and_first false y e = absurd (cc)

in_application : (f a : Tree) (x y : Option (List ℕ)) (z : Bool) (at : List ℕ) →
    ((b : List ℕ) → x ≡ Some b → IsSome (contracted f b)) → ((b : List ℕ) → y ≡ Some b → IsSome (contracted a b)) →
    (z ≡ true → is_abstraction f ≡ true) → Side x y z at → IsSome (contracted (app f a) at)
in_application f a x y z at F A Z (inl (b, e, i)) = subst (λ (at : List ℕ). IsSome (contracted (app f a) at)) (sym i)
    (map_some (λ (g : Tree). app g a) (contracted f b) (F b e))
in_application f a x y z at F A Z (inr (inl (b, e, i))) = subst (λ (at : List ℕ). IsSome (contracted (app f a) at))
    (sym i) (map_some (app f) (contracted a b) (A b e))
in_application f a x y z at F A Z (inr (inr (e, d, c, i))) = subst
    (λ (at : List ℕ). IsSome (contracted (app f a) at)) (sym i) (abstraction_applied f a (Z c))

pub strict_is_redex : (below : Bool) (t : Tree) (at : List ℕ) → strict_redex below t ≡ Some at → IsSome (contracted t at)
strict_is_redex below (var k) at e = absurd (cc)
strict_is_redex below (free k) at e = absurd (cc)
strict_is_redex true (lam t) at e =
    let r = under_some 0 (strict_redex true t) at e in
    subst (λ (at : List ℕ). IsSome (contracted (lam t) at)) (sym r.2)
    (map_some lam (contracted t r.0) (strict_is_redex true t r.0 r.1))
strict_is_redex false (lam t) at e = absurd (cc)
strict_is_redex below (app f a) at e = in_application f a (strict_redex below f) (strict_redex below a)
    (is_ready below f a) at (strict_is_redex below f) (strict_is_redex below a) (and_first (is_abstraction f) _)
    (sides (strict_redex below f) (strict_redex below a) (is_ready below f a) at e)

pub next_is_redex : NextIsRedex
next_is_redex order.Leftmost t at e = (leftmost_first t at e).0
next_is_redex order.Head t at e = (leftmost_first t at (head_leftmost t at e)).0
next_is_redex order.WeakHead t at e = (leftmost_first t at (head_leftmost t at (weak_head t at e))).0
next_is_redex order.Applicative t at e = strict_is_redex true t at (strict_applicative t ∙ e)
next_is_redex order.Value t at e = strict_is_redex false t at (strict_value t ∙ e)

pub no_fault : (o : Order) (t : Tree) (at : List ℕ) → next o t ≡ Some at → contracted t at ≡ None → ⊥
no_fault o t at a c = let h = next_is_redex o t at a in absurd (cc)

-- ---- the innermost redex

left_none : (b : Bool) (x y : Option (List ℕ)) → b ≡ false → x ≡ None → y ≡ None →
    (if b then Some [] else option_or (under 1 x) (under 2 y)) ≡ None
left_none true x y e f g = absurd (cc)
left_none false (Some b) y e f g = absurd (cc)
left_none false None (Some b) e f g = absurd (cc)
left_none false None None e f g = refl

-- what applicative order has no redex in, leftmost order has none in
pub no_strict : (t : Tree) → strict_redex true t ≡ None → leftmost t ≡ None
no_strict (var k) e = refl
no_strict (free k) e = refl
no_strict (lam t) e = ap (λ (o : Option (List ℕ)). under 0 o) (no_strict t (no_under 0 (strict_redex true t) e))
no_strict (app f a) e =
    let n = no_sides (strict_redex true f) (strict_redex true a) (is_ready true f a) e in
    left_none (is_abstraction f) (leftmost f) (leftmost a) (sym (and-true (is_abstraction f)) ∙ n.2)
    (no_strict f n.0) (no_strict a n.1)

-- no redex stands within the parts
within_parts : (f a : Tree) (m : ℕ) (below : List ℕ) → IsNormal f → IsNormal a → contracted (app f a) (m ∷ below) ≡ None
within_parts f a m below F A = both_none (m == 1) (option_map (λ (g : Tree). app g a) (contracted f below))
    (if m == 2 then option_map (app f) (contracted a below) else None)
    (map_none (λ (g : Tree). app g a) (contracted f below) (F below))
    (both_none (m == 2) (option_map (app f) (contracted a below)) None
    (map_none (app f) (contracted a below) (A below)) refl)

within : (f a : Tree) (at below : List ℕ) (m : ℕ) →
    ((b : List ℕ) → strict_redex true f ≡ Some b → contracted f (b ++ m ∷ below) ≡ None) →
    ((b : List ℕ) → strict_redex true a ≡ Some b → contracted a (b ++ m ∷ below) ≡ None) →
    Side (strict_redex true f) (strict_redex true a) (is_ready true f a) at →
    contracted (app f a) (at ++ m ∷ below) ≡ None
within f a at below m F A (inl (b, e, i)) = ap (λ (at : List ℕ). contracted (app f a) (at ++ m ∷ below)) i
    ∙ map_none (λ (g : Tree). app g a) (contracted f (b ++ m ∷ below)) (F b e)
within f a at below m F A (inr (inl (b, e, i))) = ap (λ (at : List ℕ). contracted (app f a) (at ++ m ∷ below)) i
    ∙ map_none (app f) (contracted a (b ++ m ∷ below)) (A b e)
within f a at below m F A (inr (inr (e, d, c, i))) = ap (λ (at : List ℕ). contracted (app f a) (at ++ m ∷ below)) i
    ∙ within_parts f a m below (no_leftmost f (no_strict f e)) (no_leftmost a (no_strict a d))

strict_innermost : (t : Tree) (at below : List ℕ) (m : ℕ) → strict_redex true t ≡ Some at →
    contracted t (at ++ m ∷ below) ≡ None
strict_innermost (var k) at below m e = absurd (cc)
strict_innermost (free k) at below m e = absurd (cc)
strict_innermost (lam t) at below m e =
    let r = under_some 0 (strict_redex true t) at e in
    ap (λ (at : List ℕ). contracted (lam t) (at ++ m ∷ below)) r.2
    ∙ map_none lam (contracted t (r.0 ++ m ∷ below)) (strict_innermost t r.0 below m r.1)
strict_innermost (app f a) at below m e = within f a at below m
    (λ b h. strict_innermost f b below m h) (λ b h. strict_innermost a b below m h)
    (sides (strict_redex true f) (strict_redex true a) (is_ready true f a) at e)

pub innermost : ApplicativeIsInnermost
innermost t at below m e = strict_innermost t at below m (strict_applicative t ∙ e)

-- ---- head addresses

-- moves into functions alone, from what is no abstraction
by_functions : (t : Tree) (at : List ℕ) → is_abstraction t ≡ false → head_redex t ≡ Some at →
    (k : ℕ) × (at ≡ replicate k 1)
by_functions (var k) at n e = absurd (cc)
by_functions (free k) at n e = absurd (cc)
by_functions (lam t) at n e = absurd (cc)
by_functions (app f a) at n e = go (is_abstraction f) refl (by_functions f) e
  where
    go : (b : Bool) → is_abstraction f ≡ b →
        ((at : List ℕ) → is_abstraction f ≡ false → head_redex f ≡ Some at → (k : ℕ) × (at ≡ replicate k 1)) →
        (if b then Some [] else under 1 (head_redex f)) ≡ Some at → (k : ℕ) × (at ≡ replicate k 1)
    go true h F e = (0, cc)
    go false h F e =
        let r = under_some 1 (head_redex f) at e in
        let k = F r.0 h r.1 in
        (suc k.0, r.2 ∙ ap (λ (x : List ℕ). 1 ∷ x) k.1)

head_address : (t : Tree) (at : List ℕ) → head_redex t ≡ Some at → IsHeadAddress at
head_address (var k) at e = absurd (cc)
head_address (free k) at e = absurd (cc)
head_address (lam t) at e =
    let r = under_some 0 (head_redex t) at e in
    let h = head_address t r.0 r.1 in
    (suc h.0, h.1, r.2 ∙ ap (λ (x : List ℕ). 0 ∷ x) h.2)
head_address (app f a) at e = let r = by_functions (app f a) at refl e in (0, r.0, r.1)

-- moves into functions lead to no redex from an abstraction
plain : (k : ℕ) (t : Tree) → IsSome (contracted t (replicate k 1)) → is_abstraction t ≡ false
plain zero (lam t) e = absurd (cc)
plain (suc k) (lam t) e = absurd (cc)
plain k (var y) e = refl
plain k (free f) e = refl
plain k (app f a) e = refl

else_under : (b : Bool) (o : Option (List ℕ)) (at : List ℕ) → b ≡ false → o ≡ Some at →
    (if b then Some [] else under 1 o) ≡ Some (1 ∷ at)
else_under b o at e f = ap (λ (b : Bool). if b then Some [] else under 1 o) e
    ∙ ap (λ (o : Option (List ℕ)). under 1 o) f

at_functions : (k : ℕ) (t : Tree) → IsSome (contracted t (replicate k 1)) → head_redex t ≡ Some (replicate k 1)
at_functions zero (var y) e = absurd (cc)
at_functions zero (free f) e = absurd (cc)
at_functions zero (lam t) e = absurd (cc)
at_functions zero (app (var y) a) e = absurd (cc)
at_functions zero (app (free f) a) e = absurd (cc)
at_functions zero (app (lam M) a) e = refl
at_functions zero (app (app f b) a) e = absurd (cc)
at_functions (suc k) (var y) e = absurd (cc)
at_functions (suc k) (free f) e = absurd (cc)
at_functions (suc k) (lam t) e = absurd (cc)
at_functions (suc k) (app f a) e =
    let h = some_map (λ (g : Tree). app g a) (contracted f (replicate k 1)) e in
    else_under (is_abstraction f) (head_redex f) (replicate k 1) (plain k f h) (at_functions k f h)

at_bodies : (n k : ℕ) (t : Tree) → IsSome (contracted t (replicate n 0 ++ replicate k 1)) →
    head_redex t ≡ Some (replicate n 0 ++ replicate k 1)
at_bodies zero k t e = at_functions k t e
at_bodies (suc n) k (var y) e = absurd (cc)
at_bodies (suc n) k (free f) e = absurd (cc)
at_bodies (suc n) k (lam t) e = ap (λ (o : Option (List ℕ)). under 0 o)
    (at_bodies n k t (some_map lam (contracted t (replicate n 0 ++ replicate k 1)) e))
at_bodies (suc n) k (app f a) e = absurd (cc)

pub at_head_address : HeadIsAtHeadAddress
at_head_address t at = (
  λ e. (head_address t at e, next_is_redex order.Head t at e),
  λ r. subst (λ (at : List ℕ). head_redex t ≡ Some at) (sym r.0.2)
      (at_bodies r.0.0 r.0.1 t (subst (λ (at : List ℕ). IsSome (contracted t at)) r.0.2 r.1)),
)
