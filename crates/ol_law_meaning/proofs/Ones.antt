-- A wire of M[N], with a level 0, is one wire of the cut, and the other way round.
use Rattle.std.proofs.Common.{◌≡◌, ℕ, suc, ◌+◌, true, false, Some, None, refl, sym, ap, ◌∙◌, subst, arith}
use Rattle.ol_law_meaning.specs.Contraction.{Tree, var, free, lam, app, Level, empty, Wire, bound, name, under, occurs}
use Rattle.ol_law_meaning.specs.Contraction.{left, right, lifted_wire, without, subst_for, ofM, ofN, WireOf, same}
use Rattle.ol_law_meaning.specs.Contraction.{other, named, own, lam_m, lam_n, fun_m, arg_m, fun_n, arg_n, IsRight}
use Rattle.ol_law_meaning.proofs.Addresses.{left_one, right_one, sides_apart, occurs_new, occurs_old, own_occurs}
use Rattle.ol_law_meaning.proofs.Addresses.{in_body_of, in_left_of, in_right_of, address_same, var_level, free_level}
use Rattle.ol_law_meaning.proofs.Back.{of_n_occurs, left_m, left_n, right_m, right_n}
use Rattle.ol_term.specs.declared.translations.Translation.{Translation}

module _ {τ : Translation} where
  -- the wire of N occurs there, and is lifted
  pub n_there : {N M : Tree} {i : ℕ} {x z : Wire} {w b a' : Level} →
      WireOf τ N M i (ofN w x b) z a' → (occurs x N ≡ true) × (z ≡ lifted_wire 0 i x)
  n_there (own e h q) = (h, q)
  n_there {i = i} {x = x} {z = z} (lam_n r) = let k = n_there r in (k.0, lower i x z k.1)
    where
      lower : (i : ℕ) (x z : Wire) → under z ≡ lifted_wire 0 (suc i) x → z ≡ lifted_wire 0 i x
      lower i (bound x) (bound z) e = ap bound (let k : suc z ≡ suc i + x = cc in omega arith)
      lower i (name f) (bound z) e = absurd (cc)
      lower i (bound x) (name z) e = absurd (cc)
      lower i (name x) (name z) e = e
  n_there (fun_n r e e') = n_there r
  n_there (arg_n v r e e') = n_there r

  -- ---- the tag gives the address

  n_left : {N M1 M2 : Tree} {i : ℕ} {x z : Wire} {u w b w' : Level} →
      WireOf τ N (app M1 M2) i (ofN w x b) z w' → occurs (bound i) M1 ≡ true →
      w ≡ left M2 (bound i) u → (a' : Level) × WireOf τ N M1 i (ofN u x b) z a' × (w' ≡ left (subst_for i N M2) z a')
  n_left {N} {M1} {M2} {i} {x} {z} {u} {b = b}
      (fun_n {u = u2} {a' = a'} r e e') m q = (
        a',
        subst (λ u. WireOf τ N M1 i (ofN u x b) z a') (left_one M2 (bound i) u2 u (sym e ∙ q)) r,
        e',
      )
  n_left {N} {M1} {M2} {i} {u = u} (arg_n {u = u2} v r e e') m q = absurd
      (sides_apart M1 M2 (bound i) u u2 v m (own_occurs r) q e)

  n_right : {N M1 M2 : Tree} {i : ℕ} {x z : Wire} {u w b w' : Level} (v : Level) →
      WireOf τ N (app M1 M2) i (ofN w x b) z w' → occurs (bound i) M2 ≡ true →
      IsRight τ M1 M2 (bound i) u v w → (a' : Level) × WireOf τ N M2 i (ofN u x b) z a'
      × IsRight τ (subst_for i N M1) (subst_for i N M2) z a' v w'
  n_right {N} {M1} {M2} {i} {u = u} v (fun_n {u = u2} r e e') m q = absurd
      (sides_apart M1 M2 (bound i) u2 u v (own_occurs r) m e q)
  n_right {N} {M1} {M2} {i} {x} {z} {u} {b = b} {w' = w'} v (arg_n {u = u2} {a' = a'} v2 r e e') m q =
      let k = right_one e q refl in (
        a',
        subst (λ u. WireOf τ N M2 i (ofN u x b) z a') k.0 r,
        subst (λ v. IsRight τ (subst_for i N M1) (subst_for i N M2) z a' v w') k.1 e',
      )

  n_body : {N M : Tree} {i : ℕ} {x z : Wire} {w b a' : Level} →
      WireOf τ N (lam M) i (ofN w x b) z a' → WireOf τ N M (suc i) (ofN w x b) (under z) a'
  n_body (lam_n r) = r

  n_var : {N : Tree} {i y : ℕ} {x z : Wire} {w b a' : Level} →
      WireOf τ N (var y) i (ofN w x b) z a' → (w ≡ empty) × (a' ≡ b) × (without i y ≡ None)
  n_var (own e h q) = (refl, refl, e)

  n_free : {N : Tree} {i f : ℕ} {x z : Wire} {w b a' : Level} → WireOf τ N (free f) i (ofN w x b) z a' → ⊥
  n_free r = let m = own_occurs r in absurd (cc)

  pub m_gives : {N M : Tree} {i : ℕ} {y z : Wire} {a a' b' : Level} →
      WireOf τ N M i (ofM y a) z a' → WireOf τ N M i (ofM y a) z b' → a' ≡ b'
  m_gives (same e f h) k = sym (address_same k f)
  m_gives (other e) k = sym (var_level k)
  m_gives named k = sym (free_level k)
  m_gives (lam_m r) k = m_gives r (in_body_of k)
  m_gives {N} {i = i} {z = z} (fun_m {M2 = M2} r e e') k = let t = in_left_of k (occurs_old r) e in
      e' ∙ ap (left (subst_for i N M2) z) (m_gives r t.1) ∙ sym t.2
  m_gives {N} {i = i} {z = z} (arg_m {M1 = M1} {M2 = M2} v r e e') k = let t = in_right_of v k
      (occurs_old r) e in let f = t.2 in e'.is
      ∙ ap (λ a. right τ (subst_for i N M1) (subst_for i N M2) z a v) (m_gives r t.1) ∙ sym f.is

  pub n_gives : {N M : Tree} {i : ℕ} {x z : Wire} {w b a' b' : Level} →
      WireOf τ N M i (ofN w x b) z a' → WireOf τ N M i (ofN w x b) z b' → a' ≡ b'
  n_gives (own e h q) k = sym (n_var k).1
  n_gives (lam_n r) k = n_gives r (n_body k)
  n_gives {N} {i = i} {z = z} (fun_n {M2 = M2} r e e') k = let t = n_left k (own_occurs r) e in
      e' ∙ ap (left (subst_for i N M2) z) (n_gives r t.1) ∙ sym t.2
  n_gives {N} {i = i} {z = z} (arg_n {M1 = M1} {M2 = M2} v r e e') k = let t = n_right v k
      (own_occurs r) e in let f = t.2 in e'.is
      ∙ ap (λ a. right τ (subst_for i N M1) (subst_for i N M2) z a v) (n_gives r t.1) ∙ sym f.is

  -- ---- the address gives the tag

  pub m_from : {N M : Tree} {i : ℕ} {y z : Wire} {a b a' b' : Level} →
      WireOf τ N M i (ofM y a) z a' → WireOf τ N M i (ofM y b) z b' → a' ≡ b' → a ≡ b
  m_from (same e f h) k q = q ∙ address_same k f
  m_from (other e) k q = q ∙ var_level k
  m_from named k q = q ∙ free_level k
  m_from (lam_m r) k q = m_from r (in_body_of k) q
  m_from {N} {i = i} {y = y} {z = z} (fun_m {M2 = M2} {a' = a'} r e e') k q = let t = left_m
      {a = a'} k (occurs_new r) (sym q ∙ e') in e ∙ ap (left M2 y) (m_from r t.1 refl) ∙ sym t.2
  m_from {N} {i = i} {y = y} {z = z} (arg_m {M1 = M1} {M2 = M2} {a' = a'} v r e e') k q =
      let t = right_m {a = a'} v k (occurs_new r)
      (subst (λ w. IsRight τ (subst_for i N M1) (subst_for i N M2) z a' v w) q e') in
      let f = t.2 in
      e.is ∙ ap (λ a. right τ M1 M2 y a v) (m_from r t.1 refl) ∙ sym f.is

  pub n_from : {N M : Tree} {i : ℕ} {x z : Wire} {w u b d a' b' : Level} →
      WireOf τ N M i (ofN w x b) z a' → WireOf τ N M i (ofN u x d) z b' → a' ≡ b' → (w ≡ u) × (b ≡ d)
  n_from (own e h q) k p = let t = n_var k in (sym t.0, p ∙ t.1)
  n_from (lam_n r) k q = n_from r (n_body k) q
  n_from {N} {i = i} (fun_n {M2 = M2} {a' = a'} r e e') k q = let t = left_n {a = a'} k
      (occurs_new r) (sym q ∙ e') in let p = n_from r t.1 refl in (e ∙ ap (left M2 (bound i)) p.0 ∙ sym t.2, p.1)
  n_from {N} {i = i} {z = z} (arg_n {M1 = M1} {M2 = M2} {a' = a'} v r e e') k q =
      let t = right_n {a = a'} v k (occurs_new r)
      (subst (λ w. IsRight τ (subst_for i N M1) (subst_for i N M2) z a' v w) q e') in
      let f = t.2 in
      let p = n_from r t.1 refl in
      (e.is ∙ ap (λ a. right τ M1 M2 (bound i) a v) p.0 ∙ sym f.is, p.1)

  -- no address is one of M's wires and one of N's
  pub apart : {N M : Tree} {i : ℕ} {x y z : Wire} {a w b a' b' : Level} →
      WireOf τ N M i (ofM y a) z a' → WireOf τ N M i (ofN w x b) z b' → a' ≡ b' → ⊥
  apart (same e f h) k q = absurd (let p : true ≡ false = sym (of_n_occurs k) ∙ f in cc)
  apart {N} {i = i} (other {y = y} {z = z} e) k q = absurd (let p : None ≡ Some z = sym (n_var k).2 ∙ e in cc)
  apart named k q = n_free k
  apart (lam_m r) k q = apart r (n_body k) q
  apart (fun_m {a' = a'} r e e') k q = let t = left_n {a = a'} k (occurs_new r) (sym q ∙ e') in apart r t.1 refl
  apart {N} {i = i} {z = z} (arg_m {M1 = M1} {M2 = M2} {a' = a'} v r e e') k q =
      let t = right_n {a = a'} v k (occurs_new r)
      (subst (λ w. IsRight τ (subst_for i N M1) (subst_for i N M2) z a' v w) q e') in
      apart r t.1 refl
