-- The copies of N in M[N].
use Rattle.std.proofs.Common.{◌≡◌, ℕ, suc, true, nat_eq, None, refl, sym, ◌∙◌, subst}
use Rattle.std.proofs.lemmas.Bool.{or_left, or_right}
use Rattle.ol_law_meaning.specs.Contraction.{Tree, var, lam, app, left, without, empty, Level, Context, Wire, bound}
use Rattle.ol_law_meaning.specs.Contraction.{wire, Spot, at, body, fun, arg, Edge, app_left, app_right, lam_wire}
use Rattle.ol_law_meaning.specs.Contraction.{in_body, in_fun, in_arg, Trail, here, occurs, lift, lifted, lifted_wire}
use Rattle.ol_law_meaning.specs.Contraction.{put, subst_for, inN, ofN, WireOf, own, lam_n, fun_n, arg_n, Held, x_spot}
use Rattle.ol_law_meaning.specs.Contraction.{wire_n, n_body, n_fun, n_arg, IsRight}
use Rattle.ol_law_meaning.proofs.Lifts.{lift_keeps, same_is}
use Rattle.ol_law_meaning.proofs.Addresses.{left_one, right_one, sides_apart, occurs_new, own_occurs, without_is}
use Rattle.ol_law_meaning.proofs.Trails.{tr_trans, one_back, tr_body, tr_fun, tr_arg}
use Rattle.ol_term.specs.declared.translations.Translation.{Translation}

-- the copy of a spot of N at the occurrence of variable i whose wire has this level 0
pub data Copies (τ : Translation) (N : Tree) : Tree → ℕ → Level → Spot → Spot → Type 0 where
  copy : {i y : ℕ} {s z : Spot} → without i y ≡ None → z ≡ lifted 0 i s → Copies τ N (var y) i empty s z
  copy_body : {M : Tree} {i : ℕ} {w : Level} {s z : Spot} → Copies τ N M (suc i) w s z →
      Copies τ N (lam M) i w s (body z)
  copy_fun : {M1 M2 : Tree} {i : ℕ} {u w : Level} {s z : Spot} → Copies τ N M1 i u s z →
      w ≡ left M2 (bound i) u → Copies τ N (app M1 M2) i w s (fun z)
  copy_arg : {M1 M2 : Tree} {i : ℕ} {u v w : Level} {s z : Spot} → Copies τ N M2 i u s z →
      IsRight τ M1 M2 (bound i) u v w → Copies τ N (app M1 M2) i w s (arg v z)

module _ {τ : Translation} where
  pub copy_exists : {N M : Tree} {i : ℕ} {x z : Wire} {w b a' : Level} →
      WireOf τ N M i (ofN w x b) z a' → (s : Spot) → (z0 : Spot) × Copies τ N M i w s z0
  copy_exists {i = i} (own e h q) s = (lifted 0 i s, copy e refl)
  copy_exists (lam_n r) s = let t = copy_exists r s in (body t.0, copy_body t.1)
  copy_exists (fun_n r e e') s = let t = copy_exists r s in (fun t.0, copy_fun t.1 e)
  copy_exists (arg_n v r e e') s = let t = copy_exists r s in (arg v t.0, copy_arg t.1 e)

  -- an edge of N is an edge of the copy
  pub copy_edge : {N M : Tree} {i : ℕ} {w : Level} {s z : Spot} → Copies τ N M i w s z →
      (s' : Spot) (n : ℕ) → Edge τ N s s' n → (z' : Spot) × Copies τ N M i w s' z' × Edge τ (subst_for i N M) z z' n
  copy_edge {N} {i = i} {z = z} (copy {y = y} {s = s} e q) s' n h = (
    lifted 0 i s',
    copy e refl,
    subst (λ r. Edge τ (put i N r) z (lifted 0 i s') n) (sym e)
        (subst (λ z. Edge τ (lift 0 i N) z (lifted 0 i s') n) (sym q) (lift_keeps N 0 i s s' n h)),
  )
  copy_edge (copy_body r) s' n h = let t = copy_edge r s' n h in (body t.0, copy_body t.1, in_body t.2)
  copy_edge (copy_fun r e) s' n h = let t = copy_edge r s' n h in (fun t.0, copy_fun t.1 e, in_fun t.2)
  copy_edge (copy_arg {v = v} r e) s' n h = let t = copy_edge r s' n h in (arg v t.0, copy_arg t.1 e, in_arg t.2)

  pub copy_edge_back : {N M : Tree} {i : ℕ} {w : Level} {s z : Spot} → Copies τ N M i w s z →
      (s' : Spot) (n : ℕ) → Edge τ N s' s n → (z' : Spot) × Copies τ N M i w s' z' × Edge τ (subst_for i N M) z' z n
  copy_edge_back {N} {i = i} {z = z} (copy {y = y} {s = s} e q) s' n h = (
    lifted 0 i s',
    copy e refl,
    subst (λ r. Edge τ (put i N r) (lifted 0 i s') z n) (sym e)
        (subst (λ z. Edge τ (lift 0 i N) (lifted 0 i s') z n) (sym q) (lift_keeps N 0 i s' s n h)),
  )
  copy_edge_back (copy_body r) s' n h = let t = copy_edge_back r s' n h in (body t.0, copy_body t.1, in_body t.2)
  copy_edge_back (copy_fun r e) s' n h = let t = copy_edge_back r s' n h in (fun t.0, copy_fun t.1 e, in_fun t.2)
  copy_edge_back (copy_arg {v = v} r e) s' n h = let t = copy_edge_back r s' n h in
      (arg v t.0, copy_arg t.1 e, in_arg t.2)

  pub copies_held : {N M : Tree} {i : ℕ} {w : Level} {s z : Spot} → Copies τ N M i w s z → Held τ N M i (inN w s) z
  copies_held (copy e q) = x_spot e q
  copies_held (copy_body r) = n_body (copies_held r)
  copies_held (copy_fun r e) = n_fun (copies_held r) e
  copies_held (copy_arg r e) = n_arg (copies_held r) e

  pub copies_occur : {N M : Tree} {i : ℕ} {w : Level} {s z : Spot} → Copies τ N M i w s z → occurs (bound i) M ≡ true
  copies_occur {i = i} (copy {y = y} e q) = subst (λ j. nat_eq y j ≡ true) (without_is i y e) (same_is y)
  copies_occur (copy_body r) = copies_occur r
  copies_occur (copy_fun {M1 = M1} {M2 = M2} {i = i} r e) = or_left (occurs (bound i) M1)
      (occurs (bound i) M2) (copies_occur r)
  copies_occur (copy_arg {M1 = M1} {M2 = M2} {i = i} r e) = or_right (occurs (bound i) M1)
      (occurs (bound i) M2) (copies_occur r)

  -- out of the copy, by the wire of an address
  pub copy_out : {N M : Tree} {i : ℕ} {x z : Wire} {w b a' : Level} {c : Context} {z0 : Spot} →
      WireOf τ N M i (ofN w x b) z a' → Copies τ N M i w (at (wire x) b c) z0 →
      Trail (Edge τ (subst_for i N M)) z0 (at (wire z) a' c) 0
  copy_out {N} {i = i} {c = c} {z0 = z0} (own {y = y} {x = x} {z = z} {b = b} e h q) (copy e2 q2) =
      subst (λ r. Trail (Edge τ (subst_for i N (var y))) r (at (wire z) b c) 0) (sym q2)
      (subst (λ r. Trail (Edge τ (subst_for i N (var y))) (at (wire (lifted_wire 0 i x)) b c)
      (at (wire r) b c) 0) (sym q) here)
  copy_out {N} {i = i} (lam_n {M = M} r) (copy_body k) = tr_trans (tr_body (copy_out r k))
      (one_back (lam_wire refl (occurs_new r))) refl
  copy_out {N} {i = i} {x = x} {b = b} {c = c} (fun_n {M1 = M1} {M2 = M2} {u = u} r e e')
      (copy_fun {u = u2} {z = z1} k e2) =
      let q : u2 ≡ u = left_one M2 (bound i) u2 u (sym e2 ∙ e) in
      tr_trans (tr_fun (copy_out r (subst (λ u. Copies τ N M1 i u (at (wire x) b c) z1) q k)))
      (one_back (app_left (occurs_new r) e')) refl
  copy_out {N} {i = i} (fun_n {M1 = M1} {M2 = M2} {u = u} r e e') (copy_arg {u = u2} {v = v2} k e2) =
      absurd (sides_apart M1 M2 (bound i) u u2 v2 (own_occurs r) (copies_occur k) e e2)
  copy_out {N} {i = i} (arg_n {M1 = M1} {M2 = M2} {u = u} v r e e') (copy_fun {u = u2} k e2) =
      absurd (sides_apart M1 M2 (bound i) u2 u v (copies_occur k) (own_occurs r) e2 e)
  copy_out {N} {i = i} {x = x} {z = z} {b = b} {a' = w'} {c = c}
      (arg_n {M1 = M1} {M2 = M2} {u = u} {a' = a'} v r e e') (copy_arg {u = u2} {v = v2} {z = z1} k e2) =
      let q = right_one e2 e refl in
      tr_trans (tr_arg (copy_out r (subst (λ u. Copies τ N M2 i u (at (wire x) b c) z1) q.0 k)))
      (one_back (app_right (occurs_new r) (subst
      (λ v. IsRight τ (subst_for i N M1) (subst_for i N M2) z a' v w') (sym q.1) e'))) refl

  -- whatever holds a spot of N is joined to its copy
  pub held_copy : {N M : Tree} {i : ℕ} {w : Level} {s z : Spot} → Held τ N M i (inN w s) z →
      (z0 : Spot) × Copies τ N M i w s z0 × Trail (Edge τ (subst_for i N M)) z0 z 0
  held_copy (wire_n {x = x} {b = b} {c = c} r) = let t = copy_exists r (at (wire x) b c) in (t.0, t.1, copy_out r t.1)
  held_copy {z = z} (x_spot e q) = (z, copy e q, here)
  held_copy (n_body r) = let t = held_copy r in (body t.0, copy_body t.1, tr_body t.2)
  held_copy (n_fun r e) = let t = held_copy r in (fun t.0, copy_fun t.1 e, tr_fun t.2)
  held_copy (n_arg {v = v} r e) = let t = held_copy r in (arg v t.0, copy_arg t.1 e, tr_arg t.2)
