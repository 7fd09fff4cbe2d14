-- A step keeps free names among the first ones.
use Rattle.std.proofs.Common.{◌≡◌, ℕ, ◌+◌, ◌-◌, Bool, true, false, nat_lt, List, [], ◌∷◌, Option}
use Rattle.std.proofs.Common.{Some, None, refl, subst}
use Rattle.std.specs.Prelude.{◌==◌, if◌then◌else◌}
use Rattle.std.specs.Option.{option_map}
use Rattle.std.proofs.lemmas.Bool.{and_parts, and_from}
use Rattle.ol_term.specs.Trees.{Tree, var, free, lam, app, is_named_below}
use Rattle.ol_beta.specs.Beta.{shifted, substituted, applied, contracted}

shifted_named : (n d m : ℕ) (t : Tree) → is_named_below m t ≡ true → is_named_below m (shifted n d t) ≡ true
shifted_named n d m (var k) h = refl
shifted_named n d m (free k) h = h
shifted_named n d m (lam t) h = shifted_named n (d + 1) m t h
shifted_named n d m (app f a) h = let g = and_parts (is_named_below m f) (is_named_below m a) h in
    and_from (is_named_below m (shifted n d f)) (is_named_below m (shifted n d a))
    (shifted_named n d m f g.0) (shifted_named n d m a g.1)

if_named : (m : ℕ) (b : Bool) (t u : Tree) → is_named_below m t ≡ true → is_named_below m u ≡ true →
    is_named_below m (if b then t else u) ≡ true
if_named m true t u h k = h
if_named m false t u h k = k

substituted_named : (c : Tree) (d m : ℕ) (t : Tree) → is_named_below m c ≡ true →
    is_named_below m t ≡ true → is_named_below m (substituted c d t) ≡ true
substituted_named c d m (var k) g h =
    if_named m (nat_lt k d) (var k) (if k == d then shifted d 0 c else var (k - 1)) refl
    (if_named m (k == d) (shifted d 0 c) (var (k - 1)) (shifted_named d 0 m c g) refl)
substituted_named c d m (free k) g h = h
substituted_named c d m (lam t) g h = substituted_named c (d + 1) m t g h
substituted_named c d m (app f a) g h =
    let p = and_parts (is_named_below m f) (is_named_below m a) h in
    and_from (is_named_below m (substituted c d f)) (is_named_below m (substituted c d a))
    (substituted_named c d m f g p.0) (substituted_named c d m a g p.1)

abbrev AllNamed : ℕ → Option Tree → Type 0
AllNamed m None = Unit {0}
AllNamed m (Some u) = is_named_below m u ≡ true

map_named : (m : ℕ) (f : Tree → Tree) (o : Option Tree) →
    ((u : Tree) → is_named_below m u ≡ true → is_named_below m (f u) ≡ true) → AllNamed m o →
    AllNamed m (option_map f o)
map_named m f None h k = tt
map_named m f (Some u) h k = h u k

if_all : (m : ℕ) (b : Bool) (o p : Option Tree) → AllNamed m o → AllNamed m p → AllNamed m (if b then o else p)
if_all m true o p h k = h
if_all m false o p h k = k

applied_named : (m : ℕ) (f c : Tree) → is_named_below m f ≡ true → is_named_below m c ≡ true → AllNamed m (applied f c)
applied_named m (var k) c h g = tt
applied_named m (free k) c h g = tt
applied_named m (lam b) c h g = substituted_named c 0 m b g h
applied_named m (app f a) c h g = tt

all_named : (m : ℕ) (t : Tree) (at : List ℕ) → is_named_below m t ≡ true → AllNamed m (contracted t at)
all_named m (var k) at h = tt
all_named m (free k) at h = tt
all_named m (lam t) [] h = tt
all_named m (lam t) (x ∷ at) h = if_all m (x == 0) (option_map lam (contracted t at)) None
    (map_named m lam (contracted t at) (λ u k. k) (all_named m t at h)) tt
all_named m (app f c) [] h = let g = and_parts (is_named_below m f) (is_named_below m c) h in
    applied_named m f c g.0 g.1
all_named m (app f c) (x ∷ at) h =
    let g = and_parts (is_named_below m f) (is_named_below m c) h in
    if_all m (x == 1) (option_map (λ (g : Tree). app g c) (contracted f at))
    (if x == 2 then option_map (app f) (contracted c at) else None)
    (map_named m (λ (g : Tree). app g c) (contracted f at)
    (λ u k. and_from (is_named_below m u) (is_named_below m c) k g.1) (all_named m f at g.0))
    (if_all m (x == 2) (option_map (app f) (contracted c at)) None
    (map_named m (app f) (contracted c at)
    (λ u k. and_from (is_named_below m f) (is_named_below m u) g.0 k) (all_named m c at g.1)) tt)

pub step_named : (m : ℕ) (t : Tree) (at : List ℕ) (u : Tree) → is_named_below m t ≡ true →
    contracted t at ≡ Some u → is_named_below m u ≡ true
step_named m t at u h e = subst (AllNamed m) e (all_named m t at h)
