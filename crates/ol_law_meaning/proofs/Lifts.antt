-- A term under more abstractions than before.
use Rattle.std.proofs.Common.{◌≡◌, ℕ, zero, suc, true, nat_eq, refl, sym, ap, ◌∙◌, subst, arith, ◌⊎◌, inl, inr}
use Rattle.std.proofs.lemmas.Bool.Decides.{nat_tests}
use Rattle.std.proofs.lemmas.Bool.{or_left, or_right, or_cases, eqb-true, eq-eqb}
use Rattle.ol_law_meaning.specs.Contraction.{Tree, var, free, lam, app, Wire, bound, name, under, occurs, left, root}
use Rattle.ol_law_meaning.specs.Contraction.{wire, Spot, at, body, fun, arg, Edge, var_wire, free_wire, lam_root}
use Rattle.ol_law_meaning.specs.Contraction.{lam_own, lam_wire, app_root, app_arg, app_left, app_right, in_body, in_fun}
use Rattle.ol_law_meaning.specs.Contraction.{in_arg, up_from, lift, lifted_wire, lifted, is_bare, IsRight}
use Rattle.ol_law_meaning.proofs.Bare.{right_like}
use Rattle.ol_term.specs.declared.translations.Translation.TheVariants.{One, Two}
use Rattle.ol_term.specs.declared.translations.Translation.{Translation}

up_same : (d i v y : ℕ) → nat_eq (up_from d i v) (up_from d i y) ≡ nat_eq v y
up_same zero i v y = grind (arith, nat_tests)
up_same (suc d) i zero zero = refl
up_same (suc d) i zero (suc y) = grind (arith, nat_tests)
up_same (suc d) i (suc v) zero = grind (arith, nat_tests)
up_same (suc d) i (suc v) (suc y) =
    let a : nat_eq (suc (up_from d i v)) (suc (up_from d i y)) ≡ nat_eq (up_from d i v)
    (up_from d i y) = grind (arith, nat_tests) in
    let b : nat_eq (suc v) (suc y) ≡ nat_eq v y = grind (arith, nat_tests) in
    a ∙ up_same d i v y ∙ sym b

pub lifted_under : (d i : ℕ) (y : Wire) → lifted_wire (suc d) i (under y) ≡ under (lifted_wire d i y)
lifted_under d i (bound y) = refl
lifted_under d i (name f) = refl

pub occurs_lifted : (y : Wire) (t : Tree) (d i : ℕ) → occurs (lifted_wire d i y) (lift d i t) ≡ occurs y t
occurs_lifted (bound y) (var v) d i = up_same d i v y
occurs_lifted (bound y) (free f) d i = refl
occurs_lifted (name f) (var v) d i = refl
occurs_lifted (name f) (free g) d i = refl
occurs_lifted y (lam t) d i = ap (λ z. occurs z (lift (suc d) i t)) (sym (lifted_under d i y))
    ∙ occurs_lifted (under y) t (suc d) i
occurs_lifted y (app t u) d i = rw (occurs_lifted y t d i, occurs_lifted y u d i) refl

-- an argument that is a wire stays one
pub bare_lifted : (τ : Translation) (N : Tree) (d i : ℕ) → is_bare τ (lift d i N) ≡ is_bare τ N
bare_lifted One N d i = refl
bare_lifted Two (var v) d i = refl
bare_lifted Two (free f) d i = refl
bare_lifted Two (lam t) d i = refl
bare_lifted Two (app t u) d i = refl

module _ {τ : Translation} where
  pub lift_keeps : (t : Tree) (d i : ℕ) (s s' : Spot) (w : ℕ) → Edge τ t s s' w →
      Edge τ (lift d i t) (lifted d i s) (lifted d i s') w
  lift_keeps (var y) d i s s' w (var_wire e) = var_wire e
  lift_keeps (free f) d i s s' w (free_wire e) = free_wire e
  lift_keeps (lam M) d i s s' w lam_root = lam_root
  lift_keeps (lam M) d i s s' w (lam_own h) = lam_own (occurs_lifted (bound 0) M (suc d) i ∙ h)
  lift_keeps (lam M) d i s s' w (lam_wire {y = y} {z = z} e h) = lam_wire
      (ap (lifted_wire (suc d) i) e ∙ lifted_under d i y) (occurs_lifted z M (suc d) i ∙ h)
  lift_keeps (lam M) d i s s' w (in_body {s = r} {s' = r'} e) = in_body (lift_keeps M (suc d) i r r' w e)
  lift_keeps (app M N) d i s s' w app_root = app_root
  lift_keeps (app M N) d i s s' w (app_arg e) = app_arg e
  lift_keeps (app M N) d i s s' w (app_left {y = y} {a = a} h e) = app_left
      (occurs_lifted y M d i ∙ h) (e ∙ rw (occurs_lifted y N d i) refl)
  lift_keeps (app M N) d i s s' w (app_right {y = y} {b = b} {v = v} h e) = app_right
      (occurs_lifted y N d i ∙ h) (right_like (lift d i M) (lift d i N) (lifted_wire d i y)
      (occurs_lifted y M d i) (bare_lifted τ N d i) e)
  lift_keeps (app M N) d i s s' w (in_fun {s = r} {s' = r'} e) = in_fun (lift_keeps M d i r r' w e)
  lift_keeps (app M N) d i s s' w (in_arg {s = r} {s' = r'} e) = in_arg (lift_keeps N d i r r' w e)

-- ---- and back

pub same_is : (a : ℕ) → nat_eq a a ≡ true
same_is a = eq-eqb a a refl

-- a wire of the lifted term is a lifted wire
pub record FromWire (d i : ℕ) (z : Wire) (t : Tree) : Type 0 where
  pub wire_ : Wire
  pub is : lifted_wire d i wire_ ≡ z
  pub there : occurs wire_ t ≡ true

lowered_under : (d i : ℕ) (y : Wire) (z : Wire) → lifted_wire (suc d) i y ≡ under z →
    (x : Wire) × (y ≡ under x) × (lifted_wire d i x ≡ z)
lowered_under d i (bound zero) (bound z) e = absurd (let k : 0 ≡ suc z = cc in omega arith)
lowered_under d i (bound (suc y)) (bound z) e = (
  bound y,
  refl,
  ap bound (let k : suc (up_from d i y) ≡ suc z = cc in omega arith),
)
lowered_under d i (name f) (bound z) e = absurd (cc)
lowered_under d i (bound y) (name z) e = absurd (cc)
lowered_under d i (name f) (name z) e = (name f, refl, e)

either_wire : (d i : ℕ) (z : Wire) (t u : Tree) →
    (occurs z (lift d i t) ≡ true → FromWire d i z t) → (occurs z (lift d i u) ≡ true → FromWire d i z u) →
    (occurs z (lift d i t) ≡ true) ⊎ (occurs z (lift d i u) ≡ true) → FromWire d i z (app t u)
either_wire d i z t u f g (inl h) = let r = f h in
    record { wire_ = r.wire_; is = r.is; there = or_left (occurs r.wire_ t) (occurs r.wire_ u) r.there }
either_wire d i z t u f g (inr h) = let r = g h in
    record { wire_ = r.wire_; is = r.is; there = or_right (occurs r.wire_ t) (occurs r.wire_ u) r.there }

pub from_wire : (t : Tree) (d i : ℕ) (z : Wire) → occurs z (lift d i t) ≡ true → FromWire d i z t
from_wire (var v) d i (bound z) h = record {
  wire_ = bound v;
  is = ap bound (eqb-true (up_from d i v) z h);
  there = same_is v;
}
from_wire (var v) d i (name z) h = absurd (cc)
from_wire (free f) d i (bound z) h = absurd (cc)
from_wire (free f) d i (name z) h = record { wire_ = name z; is = refl; there = h }
from_wire (lam t) d i z h =
    let r = from_wire t (suc d) i (under z) h in
    let u = lowered_under d i r.wire_ z r.is in
    record { wire_ = u.0; is = u.2; there = subst (λ y. occurs y t ≡ true) u.1 r.there }
from_wire (app t u) d i z h = either_wire d i z t u (from_wire t d i z) (from_wire u d i z)
    (or_cases (occurs z (lift d i t)) (occurs z (lift d i u)) h)

-- each edge of the lifted term comes from one
pub record Finds (τ : Translation) (d i : ℕ) (t : Tree) (z z' : Spot) (w : ℕ) : Type 0 where
  pub s : Spot
  pub s' : Spot
  pub is : lifted d i s ≡ z
  pub is' : lifted d i s' ≡ z'
  pub edge : Edge τ t s s' w

module _ {τ : Translation} where
  pub lift_finds : (t : Tree) (d i : ℕ) (z z' : Spot) (w : ℕ) → Edge τ (lift d i t) z z' w → Finds τ d i t z z' w
  lift_finds (var y) d i z z' w (var_wire {v = v} {c = c} {d = e} h) = record {
    s = at root v c;
    s' = at (wire (bound y)) _ e;
    is = refl;
    is' = refl;
    edge = var_wire h;
  }
  lift_finds (free f) d i z z' w (free_wire {v = v} {c = c} {d = e} h) = record {
    s = at root v c;
    s' = at (wire (name f)) _ e;
    is = refl;
    is' = refl;
    edge = free_wire h;
  }
  lift_finds (lam M) d i z z' w (lam_root {v = v} {c = c}) = record {
    s = at root _ c;
    s' = body (at root v c);
    is = refl;
    is' = refl;
    edge = lam_root;
  }
  lift_finds (lam M) d i z z' w (lam_own {a = a} {c = c} h) = record {
    s = at root _ c;
    s' = body (at (wire (bound 0)) a c);
    is = refl;
    is' = refl;
    edge = lam_own (sym (occurs_lifted (bound 0) M (suc d) i) ∙ h);
  }
  lift_finds (lam M) d i z z' w (lam_wire {y = y} {z = u} {a = a} {c = c} e h) =
      let r = from_wire M (suc d) i u h in
      let x = lowered_under d i r.wire_ y (r.is ∙ e) in
      record {
        s = at (wire x.0) a c;
        s' = body (at (wire r.wire_) a c);
        is = ap (λ p. at (wire p) a c) x.2;
        is' = ap (λ p. body (at (wire p) a c)) r.is;
        edge = lam_wire x.1 r.there;
      }
  lift_finds (lam M) d i z z' w (in_body {s = r} {s' = r'} e) =
      let f = lift_finds M (suc d) i r r' w e in
      record { s = body f.s; s' = body f.s'; is = ap body f.is; is' = ap body f.is'; edge = in_body f.edge }
  lift_finds (app M N) d i z z' w (app_root {v = v} {c = c}) = record {
    s = at root v c;
    s' = fun (at root _ c);
    is = refl;
    is' = refl;
    edge = app_root;
  }
  lift_finds (app M N) d i z z' w (app_arg {v = v} {u = u} {c = c} {d = b} e) = record {
    s = fun
        (at root _ c);
    s' = arg v (at root u b);
    is = refl;
    is' = refl;
    edge = app_arg e;
  }
  lift_finds (app M N) d i z z' w (app_left {y = y} {a = a} {w = x} {c = c} h e) =
      let r = from_wire M d i y h in
      record {
        s = at (wire r.wire_) x c;
        s' = fun (at (wire r.wire_) a c);
        is = ap (λ p. at (wire p) x c) r.is;
        is' = ap (λ p. fun (at (wire p) a c)) r.is;
        edge = app_left r.there (e ∙ ap (λ y. left (lift d i N) y a) (sym r.is)
            ∙ rw (occurs_lifted r.wire_ N d i) refl);
      }
  lift_finds (app M N) d i z z' w (app_right {y = y} {b = b} {v = v} {w = x} {c = c} h e) =
      let r = from_wire N d i y h in
      record {
        s = at (wire r.wire_) x c;
        s' = arg v (at (wire r.wire_) b c);
        is = ap (λ p. at (wire p) x c) r.is;
        is' = ap (λ p. arg v (at (wire p) b c)) r.is;
        edge = app_right r.there (right_like M N r.wire_ (sym (occurs_lifted r.wire_ M d i))
            (sym (bare_lifted τ N d i)) (subst (λ y. IsRight τ (lift d i M) (lift d i N) y b v x) (sym r.is) e));
      }
  lift_finds (app M N) d i z z' w (in_fun {s = r} {s' = r'} e) =
      let f = lift_finds M d i r r' w e in
      record { s = fun f.s; s' = fun f.s'; is = ap fun f.is; is' = ap fun f.is'; edge = in_fun f.edge }
  lift_finds (app M N) d i z z' w (in_arg {v = v} {s = r} {s' = r'} e) =
      let f = lift_finds N d i r r' w e in
      record { s = arg v f.s; s' = arg v f.s'; is = ap (arg v) f.is; is' = ap (arg v) f.is'; edge = in_arg f.edge }
