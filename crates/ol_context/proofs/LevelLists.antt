-- Changes at a level of a context, and the same on the list that stands for it.
use Rattle.std.proofs.Common.{◌≡◌, ℕ, zero, suc, ◌<◌, ◌≤◌, List, [], ◌∷◌, ◌++◌, length, get_or, set}
use Rattle.std.proofs.Common.{replicate, refl, sym, ap, ◌∙◌, arith}
use Rattle.std.specs.List.{insert, remove}
use Rattle.std.proofs.Math.Path.{fun_ext}
use Rattle.ol_context.specs.Contexts.{Level, empty, Context, levels, cons, tail, at_level}
use Rattle.ol_context.proofs.Contexts.{eta}

-- the levels from i on
abbrev pub after : ℕ → Context → Context
after zero c = c
after (suc i) c = after i (tail c)

pub after_first : (i : ℕ) (c : Context) → after i c 0 ≡ c i
after_first zero c = refl
after_first (suc i) c = after_first i (tail c)

-- changes that agree on the levels from i on
pub at_level_same : (i : ℕ) (f g : Context → Context) (c : Context) →
    f (after i c) ≡ g (after i c) → at_level i f c ≡ at_level i g c
at_level_same zero f g c h = h
at_level_same (suc i) f g c h = ap (cons (c 0)) (at_level_same i f g (tail c) h)

pub at_level_id : (i : ℕ) (f : Context → Context) (c : Context) → f (after i c) ≡ after i c → at_level i f c ≡ c
at_level_id zero f c h = h
at_level_id (suc i) f c h = ap (cons (c 0)) (at_level_id i f (tail c) h) ∙ eta c

pub at_level_two : (i : ℕ) (f g : Context → Context) (c : Context) →
    at_level i f (at_level i g c) ≡ at_level i (λ d. f (g d)) c
at_level_two zero f g c = refl
at_level_two (suc i) f g c = ap (cons (c 0)) (at_level_two i f g (tail c))

-- a change at the next level, after one that puts a value in
pub at_level_next : (i : ℕ) (f g : Context → Context) (w : Level) (c : Context) →
    at_level (suc i) f (at_level i (λ d. cons w (g d)) c) ≡ at_level i (λ d. cons w (f (g d))) c
at_level_next zero f g w c = refl
at_level_next (suc i) f g w c = ap (cons (c 0)) (at_level_next i f g w (tail c))

-- what stands at level i afterwards
pub at_level_at : (i : ℕ) (f : Context → Context) (c : Context) → at_level i f c i ≡ f (after i c) 0
at_level_at zero f c = refl
at_level_at (suc i) f c = at_level_at i f (tail c)

-- lists
pub levels_cons : (v : Level) (vs : List Level) → levels (v ∷ vs) ≡ cons v (levels vs)
levels_cons v vs = fun_ext go
  where
    go : (n : ℕ) → levels (v ∷ vs) n ≡ cons v (levels vs) n
    go zero = refl
    go (suc n) = refl

pub levels_at : (vs : List Level) (i : ℕ) → levels vs i ≡ get_or vs i empty
levels_at [] i = refl
levels_at (v ∷ vs) zero = refl
levels_at (v ∷ vs) (suc i) = levels_at vs i

pub levels_set : (vs : List Level) (i : ℕ) (w : Level) → i < length vs →
    levels (set vs i w) ≡ at_level i (λ d. cons w (tail d)) (levels vs)
levels_set [] i w b = absurd (omega arith)
levels_set (v ∷ vs) zero w b = levels_cons w vs
levels_set (v ∷ vs) (suc i) w b = levels_cons v (set vs i w) ∙ ap (cons v) (levels_set vs i w (omega arith))

pub levels_insert : (vs : List Level) (i : ℕ) (w : Level) → i ≤ length vs →
    levels (insert vs i w) ≡ at_level i (cons w) (levels vs)
levels_insert vs zero w b = levels_cons w vs
levels_insert [] (suc i) w b = absurd (omega arith)
levels_insert (v ∷ vs) (suc i) w b = levels_cons v (insert vs i w) ∙ ap (cons v) (levels_insert vs i w (omega arith))

pub levels_remove : (vs : List Level) (i : ℕ) → i < length vs → levels (remove vs i) ≡ at_level i tail (levels vs)
levels_remove [] i b = absurd (omega arith)
levels_remove (v ∷ vs) zero b = refl
levels_remove (v ∷ vs) (suc i) b = levels_cons v (remove vs i) ∙ ap (cons v) (levels_remove vs i (omega arith))

-- empty levels at the end
pub levels_pad : (vs : List Level) (k : ℕ) → levels (vs ++ replicate k empty) ≡ levels vs
levels_pad [] zero = refl
levels_pad [] (suc k) = levels_cons empty (replicate k empty) ∙ ap (cons empty) (levels_pad [] k) ∙ eta (levels [])
levels_pad (v ∷ vs) k = levels_cons v (vs ++ replicate k empty) ∙ ap (cons v) (levels_pad vs k) ∙ sym (levels_cons v vs)

-- past the list
pub at_level_past : (vs : List Level) (i : ℕ) (f : Context → Context) → length vs ≤ i →
    f (levels []) ≡ levels [] → at_level i f (levels vs) ≡ levels vs
at_level_past [] zero f b h = h
at_level_past [] (suc i) f b h = ap (cons empty) (at_level_past [] i f (omega arith) h) ∙ eta (levels [])
at_level_past (v ∷ vs) zero f b h = absurd (omega arith)
at_level_past (v ∷ vs) (suc i) f b h = ap (cons v) (at_level_past vs i f (omega arith) h) ∙ sym (levels_cons v vs)
