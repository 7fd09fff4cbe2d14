-- A level that is taken apart from slot 0, with any value in its place: where an o goes, empty in
-- its place lets nothing pass.
use Rattle.std.proofs.Common.{◌≡◌, ℕ, zero, suc, ◌<◌, refl, sym, ap, ◌∙◌, arith}
use Rattle.ol_net.specs.declared.parts.Kind.{Kind}
use Rattle.ol_net.specs.declared.parts.Kind.TheVariants as kind
use Rattle.ol_net.specs.Parts.{arity}
use Rattle.ol_context.specs.Contexts.{Level, empty, o, star, pair, Context, cons, tail, marked, mark, change, up}
use Rattle.ol_context.proofs.Contexts.{eta, cons_eq, head_eq, tail_eq}
use Rattle.ol_context.proofs.LeafMoves.{marked_empty}

-- v at level j
abbrev pub fill : ℕ → Level → Context → Context
fill zero v b = cons v (tail b)
fill (suc j) v b = cons (b 0) (fill j v (tail b))

-- The context before a change is one with the same value somewhere, or with what is left of it
-- behind an o.
pub data Before (k : Kind) (i s : ℕ) (d : Context) (j : ℕ) (w : Level) (b : Context) : Type 0 where
  moved : (j' : ℕ) (b' : Context) → d ≡ fill j' (o w) b' →
      ((v : Level) → up k i s (fill j' v b') ≡ fill j v b) → Before k i s d j w b
  stripped : (j' : ℕ) (b' : Context) → d ≡ fill j' w b' →
      ((v : Level) → up k i s (fill j' v b') ≡ fill j (o v) b) →
      ((t : ℕ) (c : Context) → up k i t c ≡ fill j empty b → ⊥) → Before k i s d j w b

mark_before : (k : Kind) → ((s : ℕ) (c : Context) → change k s c ≡ mark s c) →
    (s : ℕ) (d : Context) (j : ℕ) (w : Level) (b : Context) → mark s d ≡ fill j (o w) b →
    Before k 0 s d j w b
mark_before k m zero d zero w b e =
    let h : o (d 0) ≡ o w = head_eq (o (d 0)) (o w) (tail d) (tail b) e in
    let h' : d 0 ≡ w = cc in
    stripped 0 b (sym (eta d)
    ∙ cons_eq (d 0) w (tail d) (tail b) h' (tail_eq (o (d 0)) (o w) (tail d) (tail b) e)) (λ v.
    m 0 (cons v (tail b))) (λ t c r. marked_empty t (c 0)
    (head_eq (marked t (c 0)) empty (tail c) (tail b) (sym (m t c) ∙ r)))
mark_before k m (suc s) d zero w b e = let h : star (d 0) ≡ o w =
    head_eq (star (d 0)) (o w) (tail d) (tail b) e in absurd (cc)
mark_before k m zero d (suc j) w b e =
    let h = head_eq (o (d 0)) (b 0) (tail d) (fill j (o w) (tail b)) e in
    moved (suc j) (cons (d 0) (tail b)) (sym (eta d)
    ∙ ap (cons (d 0)) (tail_eq (o (d 0)) (b 0) (tail d) (fill j (o w) (tail b)) e)) (λ v.
    m 0 (cons (d 0) (fill j v (tail b))) ∙ ap (λ u. cons u (fill j v (tail b))) h)
mark_before k m (suc s) d (suc j) w b e =
    let h = head_eq (star (d 0)) (b 0) (tail d) (fill j (o w) (tail b)) e in
    moved (suc j) (cons (d 0) (tail b)) (sym (eta d)
    ∙ ap (cons (d 0)) (tail_eq (star (d 0)) (b 0) (tail d) (fill j (o w) (tail b)) e)) (λ v.
    m (suc s) (cons (d 0) (fill j v (tail b))) ∙ ap (λ u. cons u (fill j v (tail b))) h)

before_0 : (k : Kind) (s : ℕ) → s < arity k → (d : Context) (j : ℕ) (w : Level) (b : Context) →
    change k s d ≡ fill j (o w) b → Before k 0 s d j w b
before_0 kind.Lam s z d j w b e = mark_before kind.Lam (λ s c. refl) s d j w b e
before_0 kind.App s z d j w b e = mark_before kind.App (λ s c. refl) s d j w b e
before_0 kind.Fan s z d j w b e = mark_before kind.Fan (λ s c. refl) s d j w b e
before_0 kind.Croissant s z d zero w b e = let h : empty ≡ o w = head_eq empty (o w) d (tail b) e in
    absurd (cc)
before_0 kind.Croissant s z d (suc j) w b e =
    let h = head_eq empty (b 0) d (fill j (o w) (tail b)) e in
    moved j (tail b) (tail_eq empty (b 0) d (fill j (o w) (tail b)) e) (λ v.
    ap (λ u. cons u (fill j v (tail b))) h)
before_0 kind.Bracket s z d zero w b e = let h : pair (d 1) (d 0) ≡ o w =
    head_eq (pair (d 1) (d 0)) (o w) (tail (tail d)) (tail b) e in absurd (cc)
before_0 kind.Bracket s z d (suc j) w b e =
    let h = head_eq (pair (d 1) (d 0)) (b 0) (tail (tail d)) (fill j (o w) (tail b)) e in
    let t = tail_eq (pair (d 1) (d 0)) (b 0) (tail (tail d)) (fill j (o w) (tail b)) e in
    moved (suc (suc j)) (cons (d 0) (cons (d 1) (tail b)))
    (sym (eta d) ∙ ap (cons (d 0)) (sym (eta (tail d)) ∙ ap (cons (d 1)) t))
    (λ v. ap (λ u. cons u (fill j v (tail b))) h)
before_0 kind.Eraser s z d j w b e = absurd (omega arith)

pub before : (k : Kind) (i s : ℕ) → s < arity k → (d : Context) (j : ℕ) (w : Level) (b : Context) →
    up k i s d ≡ fill j (o w) b → Before k i s d j w b
before k zero s z d j w b e = before_0 k s z d j w b e
before k (suc i) s z d zero w b e =
    let h = head_eq (d 0) (o w) (up k i s (tail d)) (tail b) e in
    let t = tail_eq (d 0) (o w) (up k i s (tail d)) (tail b) e in
    moved 0 d (sym (eta d) ∙ ap (λ u. cons u (tail d)) h) (λ v. ap (cons v) t)
before k (suc i) s z d (suc j) w b e = go (before k i s z (tail d) j w (tail b) t)
  where
    h : d 0 ≡ b 0
    h = head_eq (d 0) (b 0) (up k i s (tail d)) (fill j (o w) (tail b)) e

    t : up k i s (tail d) ≡ fill j (o w) (tail b)
    t = tail_eq (d 0) (b 0) (up k i s (tail d)) (fill j (o w) (tail b)) e

    go : Before k i s (tail d) j w (tail b) → Before k (suc i) s d (suc j) w b
    go (moved j' b' x y) = moved (suc j') (cons (d 0) b') (sym (eta d)
        ∙ ap (cons (d 0)) x) (λ v. ap (cons (d 0)) (y v) ∙ ap (λ u. cons u (fill j v (tail b))) h)
    go (stripped j' b' x y z) = stripped (suc j') (cons (d 0) b') (sym (eta d)
        ∙ ap (cons (d 0)) x) (λ v. ap (cons (d 0)) (y v)
        ∙ ap (λ u. cons u (fill j (o v) (tail b))) h)
        (λ t c r. z t (tail c) (tail_eq (c 0) (b 0) (up k i t (tail c)) (fill j empty (tail b)) r))
