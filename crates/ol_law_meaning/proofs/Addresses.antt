-- Which wire of M[N] a wire of the cut is.
use Rattle.std.proofs.Common.{◌≡◌, ℕ, zero, suc, ◌+◌, Bool, true, false, nat_eq, if◌then◌else◌}
use Rattle.std.proofs.Common.{Option, Some, None, refl, sym, ap, ◌∙◌, subst, arith, ◌⊎◌, inl, inr}
use Rattle.std.proofs.lemmas.Bool.Decides.{nat_tests}
use Rattle.std.proofs.Math.Dec.{eqb-suc-suc, eqb-zero-suc, eqb-suc-zero}
use Rattle.std.proofs.lemmas.Bool.{or_left, or_right, eqb-true}
use Rattle.ol_law_meaning.specs.Contraction.{Tree, var, free, lam, app, Level, o, star, Wire, bound, name, under}
use Rattle.ol_law_meaning.specs.Contraction.{occurs, left, right, lift, lifted_wire, up_from, without, wire_without}
use Rattle.ol_law_meaning.specs.Contraction.{wire_of, suc_of, put, subst_for, Tag, ofM, ofN, WireOf, same, other, named}
use Rattle.ol_law_meaning.specs.Contraction.{own, lam_m, lam_n, fun_m, arg_m, fun_n, arg_n, is_bare, boxed, IsRight}
use Rattle.ol_law_meaning.specs.Contraction.{IsLevelOf, IsSpotOf, Spot, Edge, var_wire, free_wire, lam_root, lam_own}
use Rattle.ol_law_meaning.specs.Contraction.{lam_wire, app_root, app_arg, app_left, app_right, in_body, in_fun, in_arg}
use Rattle.ol_law_meaning.proofs.Lifts.{same_is, occurs_lifted, bare_lifted}
use Rattle.ol_law_meaning.proofs.Bare.{right_like}
use Rattle.ol_term.specs.declared.translations.Translation.TheVariants.{One, Two}
use Rattle.ol_term.specs.declared.translations.Translation.{Translation}

-- an abstraction and an application have a box
pub lam_level : (τ : Translation) (M : Tree) (b : Level) → IsLevelOf τ (lam M) b
lam_level One M b = λ e. absurd (cc)
lam_level Two M b = λ e. absurd (cc)

pub app_level : (τ : Translation) (M N : Tree) (b : Level) → IsLevelOf τ (app M N) b
app_level One M N b = λ e. absurd (cc)
app_level Two M N b = λ e. absurd (cc)

-- ---- marks

pub left_one : (N : Tree) (y : Wire) (a b : Level) → left N y a ≡ left N y b → a ≡ b
left_one N y a b e = go (occurs y N) e
  where
    go : (t : Bool) → (if t then o a else a) ≡ (if t then o b else b) → a ≡ b
    go true e = cc
    go false e = e

module _ {τ : Translation} where
  pub right_one : {M N : Tree} {y : Wire} {a b v w t s : Level} → IsRight τ M N y a v t →
      IsRight τ M N y b w s → t ≡ s → (a ≡ b) × (v ≡ w)
  right_one {M} {N} {y} {a} {b} {v} {w} e f q = go (occurs y M) (is_bare τ N) refl (sym e.is ∙ q ∙ f.is)
    where
      go : (t x : Bool) → is_bare τ N ≡ x →
          (if t then star (boxed x a v) else boxed x a v) ≡
          (if t then star (boxed x b w) else boxed x b w) → (a ≡ b) × (v ≡ w)
      go true true h k = (e.level h ∙ sym (f.level h), cc)
      go false true h k = (e.level h ∙ sym (f.level h), k)
      go true false h k = (cc, cc)
      go false false h k = (cc, cc)

  pub sides_apart : (M N : Tree) (y : Wire) (a b v : Level) {t : Level} → occurs y M ≡ true →
      occurs y N ≡ true → t ≡ left N y a → IsRight τ M N y b v t → ⊥
  sides_apart M N y a b v m n e f =
      let q : left N y a ≡ right τ M N y b v = sym e ∙ f.is in
      absurd (let k : o a ≡ star (boxed (is_bare τ N) b v) = rw (m, n) at q in cc)

-- ---- the wires of an address

pub without_own : (i : ℕ) → without i i ≡ None
without_own zero = refl
without_own (suc i) = ap suc_of (without_own i)

suc_none : (r : Option ℕ) → suc_of r ≡ None → r ≡ None
suc_none None e = refl
suc_none (Some y) e = absurd (cc)

pub without_is : (i y : ℕ) → without i y ≡ None → y ≡ i
without_is zero zero e = refl
without_is zero (suc y) e = absurd (cc)
without_is (suc i) zero e = absurd (cc)
without_is (suc i) (suc y) e = ap suc (without_is i y (suc_none (without i y) e))

pub own_gone : (i : ℕ) (z : Wire) → wire_without i (bound i) ≡ Some z → ⊥
own_gone i z e = absurd (let k : wire_of None ≡ Some z = ap wire_of (sym (without_own i)) ∙ e in cc)

suc_some : (r : Option ℕ) (z : Wire) → wire_of (suc_of r) ≡ Some (under z) → wire_of r ≡ Some z
suc_some None z e = absurd (cc)
suc_some (Some y) (bound z) e = cc
suc_some (Some y) (name f) e = absurd (cc)

pub under_without : (i : ℕ) (y z : Wire) → wire_without (suc i) (under y) ≡ Some (under z) → wire_without i y ≡ Some z
under_without i (bound y) z e = suc_some (without i y) z e
under_without i (name f) (bound z) e = absurd (cc)
under_without i (name f) (name z) e = e

module _ {τ : Translation} where
  pub gone : {N M : Tree} {i : ℕ} {y z : Wire} {a a' : Level} → WireOf τ N M i (ofM y a) z a' →
      wire_without i y ≡ Some z
  gone (same e f h) = e
  gone (other e) = ap wire_of e
  gone named = refl
  gone {i = i} {y = y} {z = z} (lam_m r) = under_without i y z (gone r)
  gone (fun_m r e e') = gone r
  gone (arg_m v r e e') = gone r

  -- the wire of the cut occurs
  pub own_occurs : {N M : Tree} {i : ℕ} {x z : Wire} {w b a' : Level} →
      WireOf τ N M i (ofN w x b) z a' → occurs (bound i) M ≡ true
  own_occurs {i = i} (own {y = y} e h q) = subst (λ j. nat_eq y j ≡ true) (without_is i y e) (same_is y)
  own_occurs (lam_n r) = own_occurs r
  own_occurs (fun_n {M1 = M1} {M2 = M2} {i = i} r e e') = or_left (occurs (bound i) M1)
      (occurs (bound i) M2) (own_occurs r)
  own_occurs (arg_n {M1 = M1} {M2 = M2} {i = i} v r e e') = or_right (occurs (bound i) M1)
      (occurs (bound i) M2) (own_occurs r)

-- ---- what occurs in the new term

up_zero_more : (d i v : ℕ) → up_from d (suc i) v ≡ up_from d 1 (up_from d i v)
up_zero_more zero i v = omega arith
up_zero_more (suc d) i zero = refl
up_zero_more (suc d) i (suc v) = ap suc (up_zero_more d i v)

lift_more : (t : Tree) (d i : ℕ) → lift d (suc i) t ≡ lift d 1 (lift d i t)
lift_more (var v) d i = ap var (up_zero_more d i v)
lift_more (free f) d i = refl
lift_more (lam t) d i = ap lam (lift_more t (suc d) i)
lift_more (app t u) d i = rw (lift_more t d i, lift_more u d i) refl

under_is : (z : Wire) → lifted_wire 0 1 z ≡ under z
under_is (bound y) = ap bound (let k : 1 + y ≡ suc y = omega arith in k)
under_is (name f) = refl

pub occurs_more : (z : Wire) (N : Tree) (i : ℕ) → occurs (under z) (lift 0 (suc i) N) ≡ occurs z (lift 0 i N)
occurs_more z N i = ap (λ t. occurs (under z) t) (lift_more N 0 i)
    ∙ ap (λ y. occurs y (lift 0 1 (lift 0 i N))) (sym (under_is z)) ∙ occurs_lifted z (lift 0 i N) 0 1

some_suc : (r : Option ℕ) (z : ℕ) → wire_of r ≡ Some (bound z) → wire_of (suc_of r) ≡ Some (bound (suc z))
some_suc None z e = absurd (cc)
some_suc (Some y) z e = let k : y ≡ z = cc in ap (λ y. Some (bound (suc y))) k

pub some_no_name : (r : Option ℕ) (f : ℕ) → wire_of r ≡ Some (name f) → ⊥
some_no_name None f e = absurd (cc)
some_no_name (Some y) f e = absurd (cc)

pub without_under : (i : ℕ) (y z : Wire) → wire_without i y ≡ Some z → wire_without (suc i) (under y) ≡ Some (under z)
without_under i (bound y) (bound z) e = some_suc (without i y) z e
without_under i (bound y) (name f) e = absurd (some_no_name (without i y) f e)
without_under i (name f) (bound z) e = absurd (cc)
without_under i (name f) (name z) e = let k : f ≡ z = cc in ap (λ f. Some (name f)) k

suc_cases : (r : Option ℕ) (z : ℕ) → suc_of r ≡ Some z → (x : ℕ) × (r ≡ Some x) × (z ≡ suc x)
suc_cases None z e = absurd (cc)
suc_cases (Some x) z e = (x, refl, cc)

without_eq : (i v y v' y' : ℕ) → without i v ≡ Some v' → without i y ≡ Some y' → nat_eq v' y' ≡ nat_eq v y
without_eq zero zero y v' y' e q = absurd (cc)
without_eq zero (suc v) zero v' y' e q = absurd (cc)
without_eq zero (suc v) (suc y) v' y' e q = let a : v ≡ v' = cc in let b : y ≡ y' = cc in
    rw (sym a, sym b) (sym (eqb-suc-suc v y))
without_eq (suc i) zero zero v' y' e q = let a : 0 ≡ v' = cc in let b : 0 ≡ y' = cc in rw (sym a, sym b) refl
without_eq (suc i) zero (suc y) v' y' e q =
    let a : 0 ≡ v' = cc in let t = suc_cases (without i y) y' q in
    rw (sym a, t.2) (eqb-zero-suc t.0 ∙ sym (eqb-zero-suc y))
without_eq (suc i) (suc v) zero v' y' e q =
    let b : 0 ≡ y' = cc in let t = suc_cases (without i v) v' e in
    rw (sym b, t.2) (eqb-suc-zero t.0 ∙ sym (eqb-suc-zero v))
without_eq (suc i) (suc v) (suc y) v' y' e q =
    let t = suc_cases (without i v) v' e in
    let r = suc_cases (without i y) y' q in
    rw (t.2, r.2) (eqb-suc-suc t.0 r.0 ∙ without_eq i v y t.0 r.0 t.1 r.1 ∙ sym (eqb-suc-suc v y))

without_ne : (i v y y' : ℕ) → without i v ≡ None → without i y ≡ Some y' → nat_eq v y ≡ false
without_ne i v y y' e q = go (nat_eq v y) refl
  where
    go : (b : Bool) → nat_eq v y ≡ b → nat_eq v y ≡ false
    go false h = h
    go true h = absurd (let k : v ≡ y = eqb-true v y h in
        let z : without i y ≡ None = subst (λ v. without i v ≡ None) k e in let w : Some y' ≡ None = sym q ∙ z in cc)

pub wire_some : (r : Option ℕ) (z : Wire) → wire_of r ≡ Some z → (x : ℕ) × (r ≡ Some x) × (z ≡ bound x)
wire_some None z e = absurd (cc)
wire_some (Some x) z e = (x, refl, (let k : bound x ≡ z = cc in sym k))

var_same : (r : Option ℕ) (N : Tree) (i v : ℕ) (y z : Wire) → without i v ≡ r →
    wire_without i y ≡ Some z → occurs z (lift 0 i N) ≡ false → occurs z (put i N r) ≡ occurs y (var v)
var_same None N i v (bound y) z h e f = let t = wire_some (without i y) z e in f ∙ sym (without_ne i v y t.0 h t.1)
var_same None N i v (name y) z h e f = f
var_same (Some v') N i v (bound y) z h e f = let t = wire_some (without i y) z e in
    ap (λ z. occurs z (var v')) t.2 ∙ without_eq i v y v' t.0 h t.1
var_same (Some v') N i v (name y) z h e f = let k : name y ≡ z = cc in ap (λ z. occurs z (var v')) (sym k)

-- a wire that isn't N's occurs in M[N] where it occurs in M
pub occurs_same : (M N : Tree) (i : ℕ) (y z : Wire) → wire_without i y ≡ Some z →
    occurs z (lift 0 i N) ≡ false → occurs z (subst_for i N M) ≡ occurs y M
occurs_same (var v) N i y z e f = var_same (without i v) N i v y z refl e f
occurs_same (free g) N i (bound y) z e f = let t = wire_some (without i y) z e in ap (λ z. occurs z (free g)) t.2
occurs_same (free g) N i (name y) z e f = let k : name y ≡ z = cc in ap (λ z. occurs z (free g)) (sym k)
occurs_same (lam t) N i y z e f = occurs_same t N (suc i) (under y) (under z)
    (without_under i y z e) (occurs_more z N i ∙ f)
occurs_same (app t u) N i y z e f = rw (occurs_same t N i y z e f, occurs_same u N i y z e f) refl

module _ {τ : Translation} where
  -- the wire that an address has in M[N] occurs there
  pub occurs_new : {N M : Tree} {i : ℕ} {t : Tag} {z : Wire} {a' : Level} → WireOf τ N M i t z a' →
      occurs z (subst_for i N M) ≡ true
  occurs_new {N} {M} {i} {z = z} (same {y = y} e f h) = occurs_same M N i y z e f ∙ h
  occurs_new {N} (other {i = i} {y = y} {z = z} e) = subst
      (λ r. occurs (bound z) (put i N r) ≡ true) (sym e) (same_is z)
  occurs_new (named {f = f}) = same_is f
  occurs_new {N} (own {i = i} {y = y} {x = x} {z = z} e h q) = subst
      (λ r. occurs z (put i N r) ≡ true) (sym e)
      (subst (λ z. occurs z (lift 0 i N) ≡ true) (sym q) (occurs_lifted x N 0 i ∙ h))
  occurs_new (lam_m r) = occurs_new r
  occurs_new (lam_n r) = occurs_new r
  occurs_new {N} {i = i} {z = z} (fun_m {M1 = M1} {M2 = M2} r e e') = or_left
      (occurs z (subst_for i N M1)) (occurs z (subst_for i N M2)) (occurs_new r)
  occurs_new {N} {i = i} {z = z} (arg_m {M1 = M1} {M2 = M2} v r e e') = or_right
      (occurs z (subst_for i N M1)) (occurs z (subst_for i N M2)) (occurs_new r)
  occurs_new {N} {i = i} {z = z} (fun_n {M1 = M1} {M2 = M2} r e e') = or_left
      (occurs z (subst_for i N M1)) (occurs z (subst_for i N M2)) (occurs_new r)
  occurs_new {N} {i = i} {z = z} (arg_n {M1 = M1} {M2 = M2} v r e e') = or_right
      (occurs z (subst_for i N M1)) (occurs z (subst_for i N M2)) (occurs_new r)

  -- the wire of an address occurs in M
  pub occurs_old : {N M : Tree} {i : ℕ} {y z : Wire} {a a' : Level} → WireOf τ N M i (ofM y a) z a' → occurs y M ≡ true
  occurs_old (same e f h) = h
  occurs_old (other {y = y} e) = same_is y
  occurs_old (named {f = f}) = same_is f
  occurs_old (lam_m r) = occurs_old r
  occurs_old {y = y} (fun_m {M1 = M1} {M2 = M2} r e e') = or_left (occurs y M1) (occurs y M2) (occurs_old r)
  occurs_old {y = y} (arg_m {M1 = M1} {M2 = M2} v r e e') = or_right (occurs y M1) (occurs y M2) (occurs_old r)

-- a wire that isn't N's keeps its address
pub left_same : (M N : Tree) (i : ℕ) (y z : Wire) (a : Level) → wire_without i y ≡ Some z →
    occurs z (lift 0 i N) ≡ false → left (subst_for i N M) z a ≡ left M y a
left_same M N i y z a e f = rw (occurs_same M N i y z e f) refl

-- an argument with a wire that isn't the cut's stays a wire, or stays none
pub bare_same : (τ : Translation) (M N : Tree) (i : ℕ) (y z : Wire) → wire_without i y ≡ Some z →
    occurs y M ≡ true → is_bare τ (subst_for i N M) ≡ is_bare τ M
bare_same One M N i y z e h = refl
bare_same Two (var v) N i (bound y) z e h =
    let t = wire_some (without i y) z e in
    let q : y ≡ v = sym (eqb-true v y h) in
    subst (λ r. is_bare Two (put i N r) ≡ true) (sym (subst (λ y. without i y ≡ Some t.0) q t.1)) refl
bare_same Two (var v) N i (name f) z e h = absurd (cc)
bare_same Two (free f) N i y z e h = refl
bare_same Two (lam t) N i y z e h = refl
bare_same Two (app t u) N i y z e h = refl

pub right_same : (τ : Translation) (M1 M2 N : Tree) (i : ℕ) (y z : Wire) (b v : Level) →
    wire_without i y ≡ Some z → occurs z (lift 0 i N) ≡ false → occurs y M2 ≡ true →
    right τ (subst_for i N M1) (subst_for i N M2) z b v ≡ right τ M1 M2 y b v
right_same τ M1 M2 N i y z b v e f h = rw (occurs_same M1 N i y z e f, bare_same τ M2 N i y z e h) refl

module _ {τ : Translation} where
  pub address_same : {N M : Tree} {i : ℕ} {y z : Wire} {a a' : Level} →
      WireOf τ N M i (ofM y a) z a' → occurs z (lift 0 i N) ≡ false → a' ≡ a
  address_same (same e g h) f = refl
  address_same (other e) f = refl
  address_same named f = refl
  address_same {N} {i = i} {z = z} (lam_m r) f = address_same r (occurs_more z N i ∙ f)
  address_same {N} {i = i} {y = y} {z = z}
      (fun_m {M1 = M1} {M2 = M2} {a = a} {a' = a'} r e e') f = e'
      ∙ left_same M2 N i y z a' (gone r) f ∙ ap (left M2 y) (address_same r f) ∙ sym e
  address_same {N} {i = i} {y = y} {z = z}
      (arg_m {M1 = M1} {M2 = M2} {a = a} {a' = a'} v r e e') f = e'.is
      ∙ right_same τ M1 M2 N i y z a' v (gone r) f (occurs_old r)
      ∙ ap (λ a. right τ M1 M2 y a v) (address_same r f) ∙ sym e.is

pub zero_lifted : (N : Tree) (i : ℕ) → occurs (bound 0) (lift 0 (suc i) N) ≡ false
zero_lifted N i = ap (λ t. occurs (bound 0) t) (lift_more N 0 i) ∙ zero_free (lift 0 i N) 0
  where
    not_up : (d v : ℕ) → nat_eq (up_from d 1 v) d ≡ false
    not_up zero v = grind (arith, nat_tests)
    not_up (suc d) zero = grind (arith, nat_tests)
    not_up (suc d) (suc v) = eqb-suc-suc (up_from d 1 v) d ∙ not_up d v

    zero_free : (t : Tree) (d : ℕ) → occurs (bound d) (lift d 1 t) ≡ false
    zero_free (var v) d = not_up d v
    zero_free (free f) d = refl
    zero_free (lam t) d = zero_free t (suc d)
    zero_free (app t u) d = rw (zero_free t d, zero_free u d) refl

module _ {τ : Translation} where
  pub own_same : {N M : Tree} {i : ℕ} {a : Level} → occurs (bound 0) M ≡ true →
      WireOf τ N M (suc i) (ofM (bound 0) a) (bound 0) a
  own_same {N} {i = i} h = same refl (zero_lifted N i) h

  pub zero_keeps : {N M : Tree} {i : ℕ} {z : Wire} {a a' : Level} →
      WireOf τ N M (suc i) (ofM (bound 0) a) z a' → (z ≡ bound 0) × (a' ≡ a)
  zero_keeps {N} {i = i} {z = z} {a = a} {a' = a'} r =
      let k : Some (bound 0) ≡ Some z = gone r in
      let q : bound 0 ≡ z = cc in
      (sym q, address_same r (subst (λ z. occurs z (lift 0 (suc i) N) ≡ false) q (zero_lifted N i)))

-- a wire is the cut's own, or stays
pub which : (i : ℕ) (y : Wire) → (y ≡ bound i) ⊎ ((z : Wire) × (wire_without i y ≡ Some z))
which i (bound y) = go (without i y) refl
  where
    go : (r : Option ℕ) → without i y ≡ r → (bound y ≡ bound i) ⊎ ((z : Wire) × (wire_of (without i y) ≡ Some z))
    go None e = inl (ap bound (without_is i y e))
    go (Some z) e = inr (bound z, ap wire_of e)
which i (name f) = inr (name f, refl)

module _ {τ : Translation} where
  -- an address in an abstraction is one in its body
  pub in_body_of : {N M : Tree} {i : ℕ} {y z : Wire} {a a' : Level} →
      WireOf τ N (lam M) i (ofM y a) z a' → WireOf τ N M (suc i) (ofM (under y) a) (under z) a'
  in_body_of {N} {i = i} {y = y} {z = z} (same e f h) = same (without_under i y z e) (occurs_more z N i ∙ f) h
  in_body_of (lam_m r) = r

  -- an address on the left is one there
  pub in_left_of : {N M1 M2 : Tree} {i : ℕ} {y z : Wire} {a w w' : Level} →
      WireOf τ N (app M1 M2) i (ofM y w) z w' → occurs y M1 ≡ true → w ≡ left M2 y a →
      (a' : Level) × WireOf τ N M1 i (ofM y a) z a' × (w' ≡ left (subst_for i N M2) z a')
  in_left_of {N} {M1} {M2} {i} {y} {z} {a} (same e f h) m q = (a, same e f m, q ∙ sym (left_same M2 N i y z a e f))
  in_left_of {N} {M1} {M2} {i} {y} {z} {a}
      (fun_m {a = b} {a' = a'} r e e') m q = (
        a',
        subst (λ a. WireOf τ N M1 i (ofM y a) z a') (left_one M2 y b a (sym e ∙ q)) r,
        e',
      )
  in_left_of {N} {M1} {M2} {i} {y} {z} {a} (arg_m {a = b} v r e e') m q = absurd
      (sides_apart M1 M2 y a b v m (occurs_old r) q e)

  pub in_right_of : {N M1 M2 : Tree} {i : ℕ} {y z : Wire} {b w w' : Level} (v : Level) →
      WireOf τ N (app M1 M2) i (ofM y w) z w' → occurs y M2 ≡ true → IsRight τ M1 M2 y b v w →
      (b' : Level) × WireOf τ N M2 i (ofM y b) z b' × IsRight τ (subst_for i N M1) (subst_for i N M2) z b' v w'
  in_right_of {N} {M1} {M2} {i} {y} {z} {b} v
      (same e f h) m q = (
        b,
        same e f m,
        right_like (subst_for i N M1) (subst_for i N M2) z
            (occurs_same M1 N i y z e f) (bare_same τ M2 N i y z e m) q,
      )
  in_right_of {N} {M1} {M2} {i} {y} {z} {b} v (fun_m {a = a} r e e') m q = absurd
      (sides_apart M1 M2 y a b v (occurs_old r) m e q)
  in_right_of {N} {M1} {M2} {i} {y} {z} {b} {w' = w'} v (arg_m {a = a} {a' = a'} u r e e') m q =
      let k = right_one e q refl in (
        a',
        subst (λ a. WireOf τ N M2 i (ofM y a) z a') k.0 r,
        subst (λ v. IsRight τ (subst_for i N M1) (subst_for i N M2) z a' v w') k.1 e',
      )

  -- ---- level 0 of an argument's wires, before and after

  pub var_level : {N : Tree} {i y : ℕ} {w z : Wire} {a l : Level} → WireOf τ N (var y) i (ofM w a) z l → l ≡ a
  var_level (same e f h) = refl
  var_level (other e) = refl

  pub free_level : {N : Tree} {i f : ℕ} {w z : Wire} {a l : Level} → WireOf τ N (free f) i (ofM w a) z l → l ≡ a
  free_level (same e g h) = refl
  free_level named = refl

  -- of M's wires
  pub level_new : (M : Tree) {N : Tree} {i : ℕ} {y z : Wire} {a a' : Level} →
      WireOf τ N M i (ofM y a) z a' → IsLevelOf τ M a → IsLevelOf τ (subst_for i N M) a'
  level_new (var v) {N} {i} {y} {z} r h t = var_level r
      ∙ h (sym (bare_same τ (var v) N i y z (gone r) (occurs_old r)) ∙ t)
  level_new (free f) r h t = free_level r ∙ h t
  level_new (lam M) {N} {i} {a' = a'} r h t = lam_level τ (subst_for (suc i) N M) a' t
  level_new (app M1 M2) {N} {i} {a' = a'} r h t = app_level τ (subst_for i N M1) (subst_for i N M2) a' t

  pub level_old : (M : Tree) {N : Tree} {i : ℕ} {y z : Wire} {a a' : Level} →
      WireOf τ N M i (ofM y a) z a' → IsLevelOf τ (subst_for i N M) a' → IsLevelOf τ M a
  level_old (var v) {N} {i} {y} {z} r h t = sym (var_level r)
      ∙ h (bare_same τ (var v) N i y z (gone r) (occurs_old r) ∙ t)
  level_old (free f) r h t = sym (free_level r) ∙ h t
  level_old (lam M) {a = a} r h t = lam_level τ M a t
  level_old (app M1 M2) {a = a} r h t = app_level τ M1 M2 a t

  -- of N's
  pub level_copied : {N M : Tree} {i : ℕ} {x z : Wire} {w b a' : Level} →
      WireOf τ N M i (ofN w x b) z a' → IsLevelOf τ N b → IsLevelOf τ (subst_for i N M) a'
  level_copied {N} {i = i} {b = b} (own {y = y} e f q) h = subst (λ r. IsLevelOf τ (put i N r) b)
      (sym e) (λ t. h (sym (bare_lifted τ N 0 i) ∙ t))
  level_copied {N} {i = i} {a' = a'} (lam_n {M = M} r) h = lam_level τ (subst_for (suc i) N M) a'
  level_copied {N} {i = i} {a' = a'} (fun_n {M1 = M1} {M2 = M2} r e e') h = app_level τ
      (subst_for i N M1) (subst_for i N M2) a'
  level_copied {N} {i = i} {a' = a'} (arg_n {M1 = M1} {M2 = M2} v r e e') h = app_level τ
      (subst_for i N M1) (subst_for i N M2) a'

  -- and of the variable's own wire
  pub level_own : {N M : Tree} {i : ℕ} {x z : Wire} {w b a' : Level} → WireOf τ N M i (ofN w x b) z a' → IsLevelOf τ M w
  level_own (own e f q) = λ t. refl
  level_own {w = w} (lam_n {M = M} r) = lam_level τ M w
  level_own {w = w} (fun_n {M1 = M1} {M2 = M2} r e e') = app_level τ M1 M2 w
  level_own {w = w} (arg_n {M1 = M1} {M2 = M2} v r e e') = app_level τ M1 M2 w

  -- ---- each end of an edge is a spot of the term

  pub spot_from : {t : Tree} {s z : Spot} {n : ℕ} → Edge τ t s z n → IsSpotOf τ t s
  spot_from (var_wire e) = tt
  spot_from (free_wire e) = tt
  spot_from lam_root = tt
  spot_from (lam_own m) = tt
  spot_from (lam_wire {M = M} {a = a} e m) = lam_level τ M a
  spot_from app_root = tt
  spot_from (app_arg e) = tt
  spot_from (app_left {M = M} {N = N} {w = w} m e) = app_level τ M N w
  spot_from (app_right {M = M} {N = N} {w = w} m e) = app_level τ M N w
  spot_from (in_body e) = tt
  spot_from (in_fun e) = tt
  spot_from (in_arg e) = tt

  pub spot_to : {t : Tree} {s z : Spot} {n : ℕ} → Edge τ t s z n → IsSpotOf τ t z
  spot_to (var_wire e) = λ t. refl
  spot_to (free_wire e) = λ t. refl
  spot_to lam_root = tt
  spot_to (lam_own m) = tt
  spot_to (lam_wire e m) = tt
  spot_to app_root = tt
  spot_to (app_arg e) = tt
  spot_to (app_left m e) = tt
  spot_to (app_right m e) = tt
  spot_to (in_body e) = tt
  spot_to (in_fun e) = tt
  spot_to (in_arg e) = tt
