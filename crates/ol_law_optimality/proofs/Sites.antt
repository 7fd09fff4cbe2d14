-- Sites and their spots: one spot is at one site.
use Rattle.std.proofs.Common.{◌≡◌, ℕ, suc, Bool, true, false, ◌⊎◌, inl, inr, refl, ap, ◌∙◌}
use Rattle.ol_law_meaning.specs.Contraction.{Tree, var, free, lam, app, Level, empty, o, star, pair, Context}
use Rattle.ol_law_meaning.specs.Contraction.{Wire, Place, root, wire, Spot, at, body, fun, arg, lift, lifted}
use Rattle.ol_law_meaning.specs.Sites.{Site, self, in_lam, in_function, in_argument, spot_in, PartAt}
use Rattle.ol_law_meaning.specs.Sites.{whole, of_lam, of_function, of_argument}

-- the root of an application's function, and that of an abstraction
abbrev pub base : Bool → Level → Context → Spot
base true v c = fun (at root v c)
base false v c = at root v c

abbrev pub Is : Bool → Tree → Type 0
Is true (app M N) = Unit {0}
Is true (var y) = ⊥
Is true (free f) = ⊥
Is true (lam M) = ⊥
Is false (lam M) = Unit {0}
Is false (var y) = ⊥
Is false (free f) = ⊥
Is false (app M N) = ⊥

-- a part of this sort stands there
abbrev pub Stands : Bool → Tree → Site → Type 0
Stands b t p = (u : Tree) × PartAt t p u × Is b u

pub no_wire : (b : Bool) (p : Site) (v w : Level) (c d : Context) (y : Wire) →
    at (wire y) w d ≡ spot_in p (base b v c) → ⊥
no_wire true self v w c d y e = absurd (cc)
no_wire false self v w c d y e = absurd (cc)
no_wire b (in_lam p) v w c d y e = absurd (cc)
no_wire b (in_function p) v w c d y e = absurd (cc)
no_wire b (in_argument u p) v w c d y e = absurd (cc)

-- an application's site isn't at the root of the whole
pub no_root : (p : Site) (v w : Level) (c d : Context) (q : Place) →
    at q w d ≡ spot_in p (base true v c) → ⊥
no_root self v w c d q e = absurd (cc)
no_root (in_lam p) v w c d q e = absurd (cc)
no_root (in_function p) v w c d q e = absurd (cc)
no_root (in_argument u p) v w c d q e = absurd (cc)

-- the site is told by the spot
pub one_site : (p q : Site) (v w : Level) (c d : Context) →
    spot_in p (base true v c) ≡ spot_in q (base true w d) → p ≡ q
one_site self self v w c d e = refl
one_site self (in_lam q) v w c d e = absurd (cc)
one_site self (in_function q) v w c d e =
    absurd (no_root q w v d c root (let k : at root v c ≡ spot_in q (base true w d) = cc in k))
one_site self (in_argument u q) v w c d e = absurd (cc)
one_site (in_lam p) self v w c d e = absurd (cc)
one_site (in_lam p) (in_lam q) v w c d e =
    ap in_lam (one_site p q v w c d (let k : spot_in p (base true v c) ≡ spot_in q (base true w d) = cc in k))
one_site (in_lam p) (in_function q) v w c d e = absurd (cc)
one_site (in_lam p) (in_argument u q) v w c d e = absurd (cc)
one_site (in_function p) self v w c d e =
    absurd (no_root p v w c d root (let k : at root w d ≡ spot_in p (base true v c) = cc in k))
one_site (in_function p) (in_lam q) v w c d e = absurd (cc)
one_site (in_function p) (in_function q) v w c d e =
    ap in_function (one_site p q v w c d (let k : spot_in p (base true v c) ≡ spot_in q (base true w d) = cc in k))
one_site (in_function p) (in_argument u q) v w c d e = absurd (cc)
one_site (in_argument a p) self v w c d e = absurd (cc)
one_site (in_argument a p) (in_lam q) v w c d e = absurd (cc)
one_site (in_argument a p) (in_function q) v w c d e = absurd (cc)
one_site (in_argument a p) (in_argument u q) v w c d e =
    let k : a ≡ u = cc in
    ap (λ a. in_argument a p) k ∙ ap (in_argument u)
    (one_site p q v w c d (let j : spot_in p (base true v c) ≡ spot_in q (base true w d) = cc in j))

-- such a spot holds no wire, so lifting leaves it
pub lifted_spot : (b : Bool) (p : Site) (v : Level) (c : Context) (d i : ℕ) →
    lifted d i (spot_in p (base b v c)) ≡ spot_in p (base b v c)
lifted_spot true self v c d i = refl
lifted_spot false self v c d i = refl
lifted_spot b (in_lam p) v c d i = ap body (lifted_spot b p v c (suc d) i)
lifted_spot b (in_function p) v c d i = ap fun (lifted_spot b p v c d i)
lifted_spot b (in_argument a p) v c d i = ap (arg a) (lifted_spot b p v c d i)

is_lifted : (b : Bool) (u : Tree) (d i : ℕ) → Is b u → Is b (lift d i u)
is_lifted true (app M N) d i h = h
is_lifted true (var y) d i h = h
is_lifted true (free f) d i h = h
is_lifted true (lam M) d i h = h
is_lifted false (lam M) d i h = h
is_lifted false (var y) d i h = h
is_lifted false (free f) d i h = h
is_lifted false (app M N) d i h = h

pub lifted_part : (b : Bool) {t u : Tree} {p : Site} (d i : ℕ) → PartAt t p u → Is b u → Stands b (lift d i t) p
lifted_part b {u = u} d i whole h = (lift d i u, whole, is_lifted b u d i h)
lifted_part b d i (of_lam k) h = let r = lifted_part b (suc d) i k h in (r.0, of_lam r.1, r.2)
lifted_part b d i (of_function k) h = let r = lifted_part b d i k h in (r.0, of_function r.1, r.2)
lifted_part b d i (of_argument k) h = let r = lifted_part b d i k h in (r.0, of_argument r.1, r.2)

-- ---- two sites are the same or not

level_test : (a b : Level) → (a ≡ b) ⊎ (a ≡ b → ⊥)
level_test empty empty = inl refl
level_test empty (o b) = inr (λ e. absurd (cc))
level_test empty (star b) = inr (λ e. absurd (cc))
level_test empty (pair b d) = inr (λ e. absurd (cc))
level_test (o a) empty = inr (λ e. absurd (cc))
level_test (o a) (o b) = elim (level_test a b) [ inl e ↦ inl (ap o e) | inr f ↦ inr (λ e. f (cc)) ]
level_test (o a) (star b) = inr (λ e. absurd (cc))
level_test (o a) (pair b d) = inr (λ e. absurd (cc))
level_test (star a) empty = inr (λ e. absurd (cc))
level_test (star a) (o b) = inr (λ e. absurd (cc))
level_test (star a) (star b) = elim (level_test a b) [ inl e ↦ inl (ap star e) | inr f ↦ inr (λ e. f (cc)) ]
level_test (star a) (pair b d) = inr (λ e. absurd (cc))
level_test (pair a c) empty = inr (λ e. absurd (cc))
level_test (pair a c) (o b) = inr (λ e. absurd (cc))
level_test (pair a c) (star b) = inr (λ e. absurd (cc))
level_test (pair a c) (pair b d) = elim (level_test a b) [
  | inl e ↦ elim (level_test c d) [ inl e' ↦ inl (ap (λ a. pair a c) e ∙ ap (pair b) e') | inr f ↦ inr (λ e. f (cc)) ]
  | inr f ↦ inr (λ e. f (cc))
]

pub same_site : (p q : Site) → (p ≡ q) ⊎ (p ≡ q → ⊥)
same_site self self = inl refl
same_site self (in_lam q) = inr (λ e. absurd (cc))
same_site self (in_function q) = inr (λ e. absurd (cc))
same_site self (in_argument b q) = inr (λ e. absurd (cc))
same_site (in_lam p) self = inr (λ e. absurd (cc))
same_site (in_lam p) (in_lam q) = elim (same_site p q) [ inl e ↦ inl (ap in_lam e) | inr f ↦ inr (λ e. f (cc)) ]
same_site (in_lam p) (in_function q) = inr (λ e. absurd (cc))
same_site (in_lam p) (in_argument b q) = inr (λ e. absurd (cc))
same_site (in_function p) self = inr (λ e. absurd (cc))
same_site (in_function p) (in_lam q) = inr (λ e. absurd (cc))
same_site (in_function p) (in_function q) = elim
    (same_site p q) [ inl e ↦ inl (ap in_function e) | inr f ↦ inr (λ e. f (cc)) ]
same_site (in_function p) (in_argument b q) = inr (λ e. absurd (cc))
same_site (in_argument a p) self = inr (λ e. absurd (cc))
same_site (in_argument a p) (in_lam q) = inr (λ e. absurd (cc))
same_site (in_argument a p) (in_function q) = inr (λ e. absurd (cc))
same_site (in_argument a p) (in_argument b q) = elim (level_test a b) [
  | inl e ↦ elim (same_site p q) [
    | inl e' ↦ inl
        (ap (λ a. in_argument a p) e ∙ ap (in_argument b) e')
    | inr f ↦ inr (λ e. f (cc))
  ]
  | inr f ↦ inr (λ e. f (cc))
]
