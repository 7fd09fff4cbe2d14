-- Changes of contexts at different levels.
use Rattle.std.proofs.Common.{◌≡◌, ℕ, zero, suc, ◌+◌, ◌<◌, refl, sym, ap, ◌∙◌, arith, suc-add, zero-add}
use Rattle.std.proofs.Math.Path.{fun_ext}
use Rattle.ol_net.specs.declared.parts.Kind.{Kind}
use Rattle.ol_net.specs.declared.parts.Kind.TheVariants as kind
use Rattle.ol_net.specs.Parts.{arity}
use Rattle.ol_context.specs.Contexts.{Level, empty, o, star, pair, Context, cons, tail, at_level}
use Rattle.ol_context.specs.Contexts.{marked, mark, change, shift, IsCrosser}
use Rattle.ol_context.specs.Laws.{ContextsCommute, ContextsPull, ContextsInjective}

-- a context is its first level and the others
pub eta : (c : Context) → cons (c 0) (tail c) ≡ c
eta c = fun_ext go
  where
    go : (n : ℕ) → cons (c 0) (tail c) n ≡ c n
    go zero = refl
    go (suc n) = refl

pub cons_eq : (v w : Level) (c d : Context) → v ≡ w → c ≡ d → cons v c ≡ cons w d
cons_eq v w c d p q = ap (λ x. cons x c) p ∙ ap (cons w) q

pub cons_eta : (v : Level) (c d : Context) → v ≡ d 0 → c ≡ tail d → cons v c ≡ d
cons_eta v c d p q = cons_eq v (d 0) c (tail d) p q ∙ eta d

-- what is equal level by level from level 1 on
pub tail_eq : (v w : Level) (c d : Context) → cons v c ≡ cons w d → c ≡ d
tail_eq v w c d e = ap tail e

pub head_eq : (v w : Level) (c d : Context) → cons v c ≡ cons w d → v ≡ w
head_eq v w c d e = ap (λ (x : Context). x 0) e

pub at_level_add : (i n : ℕ) (g : Context → Context) (c : Context) → at_level (i + n) g c ≡ at_level i (at_level n g) c
at_level_add zero n g c = rw zero-add refl
at_level_add (suc i) n g c = rw suc-add (ap (cons (c 0)) (at_level_add i n g (tail c)))

-- what commutes at level 0 commutes at level i
pub lift_commute : (f g f' g' : Context → Context) → ((c : Context) → f (g' c) ≡ g (f' c)) →
    (i : ℕ) (c : Context) → at_level i f (at_level i g' c) ≡ at_level i g (at_level i f' c)
lift_commute f g f' g' h zero c = h c
lift_commute f g f' g' h (suc i) c = ap (cons (c 0)) (lift_commute f g f' g' h i (tail c))

-- at level 0
pub commute_0 : (f : Kind) (p : ℕ) → IsCrosser f → (j : ℕ) (g : Context → Context) (c : Context) →
    change f p (at_level (shift f j) g c) ≡ at_level (suc j) g (change f p c)
commute_0 kind.Fan p h j g c = refl
commute_0 kind.Croissant p h j g c = refl
commute_0 kind.Bracket p h j g c = refl
commute_0 kind.Lam p h j g c = absurd h
commute_0 kind.App p h j g c = absurd h
commute_0 kind.Eraser p h j g c = absurd h

pub commute : ContextsCommute
commute f p h i j g c =
    ap (at_level i (change f p)) (at_level_add i (shift f j) g c)
    ∙ lift_commute (change f p) (at_level (suc j) g) (change f p) (at_level (shift f j) g) (commute_0 f p h j g) i c
    ∙ sym (at_level_add i (suc j) g (at_level i (change f p) c))

-- two ways into one context come from one context, at level 0
pub pull_0 : (f : Kind) (p : ℕ) → IsCrosser f → (j : ℕ) (g : Context → Context) (c d : Context) →
    change f p c ≡ at_level (suc j) g d → (b : Context) × (at_level (shift f j) g b ≡ c) × (change f p b ≡ d)
pull_0 kind.Fan p h j g c d e = (
  cons (c 0) (tail d),
  cons_eta (c 0) (at_level j g (tail d)) c refl
      (sym (tail_eq (marked p (c 0)) (d 0) (tail c) (at_level j g (tail d)) e)),
  cons_eta (marked p (c 0)) (tail d) d (head_eq (marked p (c 0)) (d 0) (tail c) (at_level j g (tail d)) e) refl,
)
pull_0 kind.Croissant p h j g c d e = (
  tail d,
  sym (tail_eq empty (d 0) c (at_level j g (tail d)) e),
  cons_eta empty (tail d) d (head_eq empty (d 0) c (at_level j g (tail d)) e) refl,
)
pull_0 kind.Bracket p h j g c d e = (
  cons (c 0) (cons (c 1) (tail d)),
  cons_eta (c 0) (cons (c 1) (at_level j g (tail d))) c refl
      (cons_eta (c 1) (at_level j g (tail d)) (tail c) refl
      (sym (tail_eq (pair (c 1) (c 0)) (d 0) (tail (tail c)) (at_level j g (tail d)) e))),
  cons_eta (pair (c 1) (c 0)) (tail d) d
      (head_eq (pair (c 1) (c 0)) (d 0) (tail (tail c)) (at_level j g (tail d)) e) refl,
)
pull_0 kind.Lam p h j g c d e = absurd h
pull_0 kind.App p h j g c d e = absurd h
pull_0 kind.Eraser p h j g c d e = absurd h

lift_pull : (f g f' g' : Context → Context) →
    ((c d : Context) → f c ≡ g d → (b : Context) × (g' b ≡ c) × (f' b ≡ d)) →
    (i : ℕ) (c d : Context) → at_level i f c ≡ at_level i g d →
    (b : Context) × (at_level i g' b ≡ c) × (at_level i f' b ≡ d)
lift_pull f g f' g' h zero c d e = h c d e
lift_pull f g f' g' h (suc i) c d e =
    let heads = head_eq (c 0) (d 0) (at_level i f (tail c)) (at_level i g (tail d)) e in
    let (b, (l, r)) = assoc (lift_pull f g f' g' h i (tail c) (tail d)
    (tail_eq (c 0) (d 0) (at_level i f (tail c)) (at_level i g (tail d)) e)) in
    (cons (c 0) b, cons_eta (c 0) (at_level i g' b) c refl l, cons_eta (c 0) (at_level i f' b) d heads r)
  where
    assoc : {L R : Context → Type 0} → ((b : Context) × L b × R b) → (b : Context) × (L b × R b)
    assoc t = (t.0, (t.1, t.2))

pub pull : ContextsPull
pull f p h i j g c d e =
    let t = lift_pull (change f p) (at_level (suc j) g) (change f p) (at_level (shift f j) g)
    (pull_0 f p h j g) i c d (e ∙ at_level_add i (suc j) g d) in
    (t.0, at_level_add i (shift f j) g t.0 ∙ t.1, t.2)

mark_injective : (s t : ℕ) (c d : Context) → s < 2 → t < 2 → mark s c ≡ mark t d → (s ≡ t) × (c ≡ d)
mark_injective zero zero c d a b e = (
  refl,
  same c d (head_eq (o (c 0)) (o (d 0)) (tail c) (tail d) e) (tail_eq (o (c 0)) (o (d 0)) (tail c) (tail d) e),
)
  where
    same : (c d : Context) → o (c 0) ≡ o (d 0) → tail c ≡ tail d → c ≡ d
    same c d h t = let k : c 0 ≡ d 0 = cc in sym (eta c) ∙ cons_eta (c 0) (tail c) d k t
mark_injective (suc s) (suc t) c d a b e = (
  omega arith,
  same c d (head_eq (star (c 0)) (star (d 0)) (tail c) (tail d) e)
      (tail_eq (star (c 0)) (star (d 0)) (tail c) (tail d) e),
)
  where
    same : (c d : Context) → star (c 0) ≡ star (d 0) → tail c ≡ tail d → c ≡ d
    same c d h t = let k : c 0 ≡ d 0 = cc in sym (eta c) ∙ cons_eta (c 0) (tail c) d k t
mark_injective zero (suc t) c d a b e = let k : o (c 0) ≡ star (d 0) = head_eq (o (c 0))
    (star (d 0)) (tail c) (tail d) e in absurd (cc)
mark_injective (suc s) zero c d a b e = let k : star (c 0) ≡ o (d 0) = head_eq (star (c 0))
    (o (d 0)) (tail c) (tail d) e in absurd (cc)

change_injective : (k : Kind) (s t : ℕ) (c d : Context) → s < arity k → t < arity k →
    change k s c ≡ change k t d → (s ≡ t) × (c ≡ d)
change_injective kind.Lam s t c d a b e = mark_injective s t c d a b e
change_injective kind.App s t c d a b e = mark_injective s t c d a b e
change_injective kind.Fan s t c d a b e = mark_injective s t c d a b e
change_injective kind.Croissant s t c d a b e = (omega arith, tail_eq empty empty c d e)
change_injective kind.Bracket s t c d a b e =
    let k : pair (c 1) (c 0) ≡ pair (d 1) (d 0) = head_eq (pair (c 1) (c 0)) (pair (d 1) (d 0))
    (tail (tail c)) (tail (tail d)) e in
    let k0 : c 0 ≡ d 0 = cc in
    let k1 : c 1 ≡ d 1 = cc in (
      omega arith,
      sym (eta c) ∙ cons_eta (c 0) (tail c) d k0
          (sym (eta (tail c)) ∙ cons_eta (c 1) (tail (tail c)) (tail d) k1
          (tail_eq (pair (c 1) (c 0)) (pair (d 1) (d 0)) (tail (tail c)) (tail (tail d)) e)),
    )
change_injective kind.Eraser s t c d a b e = absurd (omega arith)

pub injective : ContextsInjective
injective k zero s t c d a b e = change_injective k s t c d a b e
injective k (suc i) s t c d a b e =
    let h = injective k i s t (tail c) (tail d) a b
    (tail_eq (c 0) (d 0) (at_level i (change k s) (tail c)) (at_level i (change k t) (tail d)) e) in (
      h.0,
      sym (eta c) ∙ cons_eta (c 0) (tail c) d
          (head_eq (c 0) (d 0) (at_level i (change k s) (tail c)) (at_level i (change k t) (tail d)) e) h.1,
    )
