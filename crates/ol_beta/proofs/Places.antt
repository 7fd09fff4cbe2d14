-- The places of a variable.
use Rattle.std.proofs.Common.{◌≡◌, ℕ, ◌+◌, ◌≤◌, inl, inr, refl, ap, ◌∙◌, arith}
use Rattle.ol_term.specs.Trees.{Tree, var, free, lam, app, term_size}
use Rattle.ol_beta.specs.Beta.{shifted, substituted}
use Rattle.ol_beta.specs.Measures.{places_of, IsKept}

pub shifted_none : (d : ℕ) (t : Tree) → shifted 0 d t ≡ t
shifted_none d (var k) = grind arith
shifted_none d (free k) = refl
shifted_none d (lam t) = ap lam (shifted_none (d + 1) t)
shifted_none d (app f a) = ap (λ (f : Tree). app f (shifted 0 d a)) (shifted_none d f) ∙ ap (app f) (shifted_none d a)

pub places_small : (d : ℕ) (t : Tree) → places_of d t ≤ term_size t
places_small d (var k) = grind arith
places_small d (free k) = omega arith
places_small d (lam t) = let h = places_small (d + 1) t in omega arith
places_small d (app f a) = let h = places_small d f in let k = places_small d a in omega arith

pub unused : (c e : Tree) (d : ℕ) (t : Tree) → places_of d t ≡ 0 → substituted c d t ≡ substituted e d t
unused c e d (var k) h = grind arith
unused c e d (free k) h = refl
unused c e d (lam t) h = ap lam (unused c e (d + 1) t h)
unused c e d (app f a) h =
    let g : places_of d f ≡ 0 = omega arith in
    let k : places_of d a ≡ 0 = omega arith in
    ap (λ (f : Tree). app f (substituted c d a)) (unused c e d f g) ∙ ap (app (substituted e d f)) (unused c e d a k)

-- both parts of an application, one after the other, with what is left of c after the first
pub both_parts : (c left : Tree) (n d : ℕ) (f a g b : Tree) → IsKept c left n → places_of d a ≤ n →
    g ≡ substituted c d f → b ≡ substituted left d a → app g b ≡ substituted c d (app f a)
both_parts c left n d f a g b (inl k) l i j = ap (λ (g : Tree). app g b) i
    ∙ ap (app (substituted c d f)) (j ∙ ap (λ (c : Tree). substituted c d a) k)
both_parts c left n d f a g b (inr k) l i j =
    let z : places_of d a ≡ 0 = let e = k.0 in omega arith in
    ap (λ (g : Tree). app g b) i ∙ ap (app (substituted c d f)) (j ∙ unused left c d a z)
