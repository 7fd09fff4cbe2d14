-- From the cut to the term with N put in.
use Rattle.std.proofs.Common.{◌≡◌, ℕ, suc, true, nat_eq, Option, Some, None, refl, sym, ap, ◌∙◌}
use Rattle.std.proofs.Common.{subst, arith, ◌⊎◌, inl, inr}
use Rattle.ol_context.proofs.Contexts.{head_eq, tail_eq}
use Rattle.std.proofs.lemmas.Bool.{or_left, or_right}
use Rattle.ol_law_meaning.specs.Contraction.{Tree, var, free, lam, app, Level, empty, o, star, Context, cons, Wire}
use Rattle.ol_law_meaning.specs.Contraction.{bound, name, under, root, wire, Spot, at, body, fun, arg, Edge, var_wire}
use Rattle.ol_law_meaning.specs.Contraction.{free_wire, lam_root, lam_own, lam_wire, app_root, app_arg, app_left}
use Rattle.ol_law_meaning.specs.Contraction.{app_right, in_body, in_fun, in_arg, Trail, here, occurs, left, right}
use Rattle.ol_law_meaning.specs.Contraction.{without, wire_without, put, subst_for, Cut, inM, inN, CutEdge, of_m, of_n}
use Rattle.ol_law_meaning.specs.Contraction.{joint, ofM, WireOf, other, named, lam_m, fun_m, arg_m, Held, at_root}
use Rattle.ol_law_meaning.specs.Contraction.{wire_m, x_spot, x_wire, p_body, p_fun, p_arg, n_body, n_fun, n_arg, i_body}
use Rattle.ol_law_meaning.specs.Contraction.{i_fun, i_arg, IsRight}
use Rattle.ol_law_meaning.proofs.Lifts.{same_is}
use Rattle.ol_law_meaning.proofs.Trails.{tr_trans, tr_sym, one, one_back, tr_body, tr_fun, tr_arg}
use Rattle.ol_law_meaning.proofs.Addresses.{gone, own_gone, which, without_is, left_one, right_one, sides_apart}
use Rattle.ol_law_meaning.proofs.Addresses.{occurs_new, in_body_of, in_left_of, in_right_of, own_same, zero_keeps}
use Rattle.ol_law_meaning.proofs.Addresses.{without_under, wire_some, var_level, free_level, level_new}
use Rattle.ol_law_meaning.proofs.Copying.{held_copy, copy_edge, copy_edge_back, copies_held}
use Rattle.ol_term.specs.declared.translations.Translation.{Translation}

module _ {τ : Translation} where
  -- ---- the variable's own wire

  pub held_joint : {N M : Tree} {i : ℕ} {x : Wire} {a u : Level} {c d : Context} {z : Spot} →
      Held τ N M i (inM (at (wire x) a c)) z → x ≡ bound i → c ≡ cons u d → Held τ N M i (inN a (at root u d)) z
  held_joint {i = i} (wire_m {z = z} r) p q = absurd (own_gone i z (subst (λ x. wire_without i x ≡ Some z) p (gone r)))
  held_joint {u = u} {d = d} (x_wire {u = u2} {d = d2} p2 e h) p q =
      let k : cons u2 d2 ≡ cons u d = sym h ∙ q in
      x_spot e (ap (λ v. at root v d2) (head_eq u2 u d2 d k) ∙ ap (at root u) (tail_eq u2 u d2 d k))
  held_joint (i_body p2 h) p q = n_body (held_joint h (ap under p) q)
  held_joint {N} {i = i} (i_fun {M1 = M1} {M2 = M2} {x = x} {u = u} p2 h e) p q = n_fun
      (held_joint h p q) (e ∙ ap (λ x. left M2 x u) p)
  held_joint {N} {i = i} (i_arg {M1 = M1} {M2 = M2} {x = x} {u = u} {v = v} {w = w} p2 h e) p
      q = n_arg (held_joint h p q) (subst (λ x. IsRight τ M1 M2 x u v w) p e)

  pub joint_held : {N M : Tree} {i : ℕ} {x : Wire} {a u : Level} {c d : Context} {z : Spot} →
      Held τ N M i (inN a (at root u d)) z → x ≡ bound i → c ≡ cons u d → Held τ N M i (inM (at (wire x) a c)) z
  joint_held {N} {i = i} {x = x} {u = u} {c = c} {d = d} (x_spot {y = y} e h) p q = subst
      (λ z. Held τ N (var y) i (inM (at (wire x) empty c)) z) (sym h) (x_wire p e q)
  joint_held (n_body h) p q = i_body p (joint_held h (ap under p) q)
  joint_held (n_fun {M2 = M2} {u = u} h e) p q = i_fun p (joint_held h p q) (e ∙ ap (λ x. left M2 x u) (sym p))
  joint_held (n_arg {M1 = M1} {M2 = M2} {u = u} {v = v} {w = w} h e) p q = i_arg p
      (joint_held h p q) (subst (λ x. IsRight τ M1 M2 x u v w) (sym p) e)

  pub own_wire_occurs : {N M : Tree} {i : ℕ} {x : Wire} {a : Level} {c : Context} {z : Spot} →
      Held τ N M i (inM (at (wire x) a c)) z → x ≡ bound i → occurs x M ≡ true
  own_wire_occurs {i = i} (wire_m {z = z} r) p = absurd
      (own_gone i z (subst (λ x. wire_without i x ≡ Some z) p (gone r)))
  own_wire_occurs {i = i} (x_wire {y = y} p2 e h) p = subst (λ x. occurs x (var y) ≡ true) (sym p)
      (subst (λ j. nat_eq y j ≡ true) (without_is i y e) (same_is y))
  own_wire_occurs (i_body p2 h) p = own_wire_occurs h (ap under p)
  own_wire_occurs {x = x} (i_fun {M1 = M1} {M2 = M2} p2 h e) p = or_left (occurs x M1) (occurs x M2)
      (own_wire_occurs h p)
  own_wire_occurs {x = x} (i_arg {M1 = M1} {M2 = M2} p2 h e) p = or_right (occurs x M1)
      (occurs x M2) (own_wire_occurs h p)

-- another wire of M is held by a wire
pub record ByWire (τ : Translation) (N M : Tree) (i : ℕ) (y : Wire) (a : Level) (c : Context)
    (z0 : Wire) (z : Spot) : Type 0 where
  pub level : Level
  pub address : WireOf τ N M i (ofM y a) z0 level
  pub is : z ≡ at (wire z0) level c

module _ {τ : Translation} where
  pub by_wire : {N M : Tree} {i : ℕ} {y : Wire} {a : Level} {c : Context} {z : Spot} →
      Held τ N M i (inM (at (wire y) a c)) z → (z0 : Wire) → wire_without i y ≡ Some z0 → ByWire τ N M i y a c z0 z
  by_wire {N} {M} {i} {y} {a} {c} (wire_m {z = z1} {a' = a'} r) z0 q =
      let k : Some z1 ≡ Some z0 = sym (gone r) ∙ q in
      let p : z1 ≡ z0 = cc in
      record { level = a'; address = subst (λ z. WireOf τ N M i (ofM y a) z a') p r; is = ap (λ z. at (wire z) a' c) p }
  by_wire {i = i} (x_wire p e h) z0 q = absurd (own_gone i z0 (subst (λ x. wire_without i x ≡ Some z0) p q))
  by_wire {i = i} (i_body p h) z0 q = absurd (own_gone i z0 (subst (λ x. wire_without i x ≡ Some z0) p q))
  by_wire {i = i} (i_fun p h e) z0 q = absurd (own_gone i z0 (subst (λ x. wire_without i x ≡ Some z0) p q))
  by_wire {i = i} (i_arg p h e) z0 q = absurd (own_gone i z0 (subst (λ x. wire_without i x ≡ Some z0) p q))

-- what follows an edge
pub record Onto (τ : Translation) (N M : Tree) (i : ℕ) (c : Cut) (z : Spot) (n : ℕ) : Type 0 where
  pub spot : Spot
  pub held : Held τ N M i c spot
  pub trail : Trail (Edge τ (subst_for i N M)) z spot n

module _ {τ : Translation} where
  pub root_is : {N M : Tree} {i : ℕ} {v : Level} {c : Context} {z : Spot} →
      Held τ N M i (inM (at root v c)) z → z ≡ at root v c
  root_is at_root = refl

  pub in_body_held : {N M : Tree} {i : ℕ} {s z : Spot} → Held τ N (lam M) i (inM (body s)) z →
      (z1 : Spot) × (z ≡ body z1) × Held τ N M (suc i) (inM s) z1
  in_body_held (p_body {z = z1} h) = (z1, refl, h)

  pub in_fun_held : {N M1 M2 : Tree} {i : ℕ} {s z : Spot} → Held τ N (app M1 M2) i (inM (fun s)) z →
      (z1 : Spot) × (z ≡ fun z1) × Held τ N M1 i (inM s) z1
  in_fun_held (p_fun {z = z1} h) = (z1, refl, h)

  pub in_arg_held : {N M1 M2 : Tree} {i : ℕ} {v : Level} {s z : Spot} →
      Held τ N (app M1 M2) i (inM (arg v s)) z → (z1 : Spot) × (z ≡ arg v z1) × Held τ N M2 i (inM s) z1
  in_arg_held (p_arg {z = z1} h) = (z1, refl, h)

  -- x's own wire in an application is held by what holds it in the part
  pub own_left : {N M1 M2 : Tree} {i : ℕ} {x : Wire} {a w : Level} {c : Context} {z : Spot} →
      Held τ N (app M1 M2) i (inM (at (wire x) w c)) z → x ≡ bound i → occurs x M1 ≡ true →
      w ≡ left M2 x a → (z1 : Spot) × (z ≡ fun z1) × Held τ N M1 i (inM (at (wire x) a c)) z1
  own_left {i = i} (wire_m {z = z} r) p m q = absurd (own_gone i z (subst (λ x. wire_without i x ≡ Some z) p (gone r)))
  own_left {N} {M1} {M2} {i} {x} {a} {c = c}
      (i_fun {u = u} {z = z} p2 h e) p m q = (
        z,
        refl,
        subst (λ u. Held τ N M1 i (inM (at (wire x) u c)) z) (left_one M2 x u a (sym e ∙ q)) h,
      )
  own_left {M1 = M1} {M2 = M2} {x = x} {a = a} (i_arg {u = u} {v = v} p2 h e) p m q = absurd
      (sides_apart M1 M2 x a u v m (own_wire_occurs h p) q e)

  pub own_right : {N M1 M2 : Tree} {i : ℕ} {x : Wire} {b w : Level} {c : Context} {z : Spot}
      (v : Level) → Held τ N (app M1 M2) i (inM (at (wire x) w c)) z → x ≡ bound i →
      occurs x M2 ≡ true → IsRight τ M1 M2 x b v w →
      (z1 : Spot) × (z ≡ arg v z1) × Held τ N M2 i (inM (at (wire x) b c)) z1
  own_right {i = i} v (wire_m {z = z} r) p m q = absurd
      (own_gone i z (subst (λ x. wire_without i x ≡ Some z) p (gone r)))
  own_right {M1 = M1} {M2 = M2} {x = x} {b = b} v (i_fun {u = u} p2 h e) p m q = absurd
      (sides_apart M1 M2 x u b v (own_wire_occurs h p) m e q)
  own_right {N} {M1} {M2} {i} {x} {b} {c = c} v (i_arg {u = u} {v = v2} {z = z} p2 h e) p m q =
      let k = right_one e q refl in
      (z, ap (λ v. arg v z) k.1, subst (λ u. Held τ N M2 i (inM (at (wire x) u c)) z) k.0 h)

  pub own_body : {N M : Tree} {i : ℕ} {x : Wire} {a : Level} {c : Context} {z : Spot} →
      Held τ N (lam M) i (inM (at (wire x) a c)) z → x ≡ bound i →
      (z1 : Spot) × (z ≡ body z1) × Held τ N M (suc i) (inM (at (wire (under x)) a c)) z1
  own_body {i = i} (wire_m {z = z} r) p = absurd (own_gone i z (subst (λ x. wire_without i x ≡ Some z) p (gone r)))
  own_body (i_body {z = z} p2 h) p = (z, refl, h)

  -- in the place of equal spots
  onto_from : {N M : Tree} {i : ℕ} {c : Cut} {z z1 : Spot} {n : ℕ} → z ≡ z1 → Onto τ N M i c z1 n → Onto τ N M i c z n
  onto_from {N} {M} {i} {c} {n = n} e r = subst (λ z. Onto τ N M i c z n) (sym e) r

  -- ---- an occurrence

  var_there : (N : Tree) (i y : ℕ) (v : Level) (c d : Context) (z : Spot) → d ≡ cons v c →
      Held τ N (var y) i (inM (at root v c)) z → Onto τ N (var y) i (inM (at (wire (bound y)) empty d)) z 0
  var_there N i y v c d z e h = onto_from (root_is h) (go (without i y) refl)
    where
      go : (r : Option ℕ) → without i y ≡ r → Onto τ N (var y) i (inM (at (wire (bound y)) empty d)) (at root v c) 0
      go None q = record { spot = at root v c; held = x_wire (ap bound (without_is i y q)) q e; trail = here }
      go (Some x) q = record {
        spot = at (wire (bound x)) empty d;
        held = wire_m (other q);
        trail = one (subst (λ r. Edge τ (put i N r) (at root v c) (at (wire (bound x)) empty d) 0)
            (sym q) (var_wire e));
      }

  copied_root : {N : Tree} {i y : ℕ} {a v : Level} {c : Context} {z : Spot} →
      Held τ N (var y) i (inN a (at root v c)) z → z ≡ at root v c
  copied_root (x_spot e h) = h

  var_back : (N : Tree) (i y : ℕ) (v : Level) (c d : Context) (z : Spot) → d ≡ cons v c →
      Held τ N (var y) i (inM (at (wire (bound y)) empty d)) z → Onto τ N (var y) i (inM (at root v c)) z 0
  var_back N i y v c d z e h = go (which i (bound y))
    where
      go : (bound y ≡ bound i) ⊎ ((x : Wire) × (wire_without i (bound y) ≡ Some x)) →
          Onto τ N (var y) i (inM (at root v c)) z 0
      go (inl p) = onto_from (copied_root (held_joint h p e))
          (record { spot = at root v c; held = at_root; trail = here })
      go (inr (x, q)) =
          let b = by_wire h x q in
          let l = var_level b.address in
          let t = wire_some (without i y) x q in
          onto_from (b.is ∙ ap (λ l. at (wire x) l d) l ∙ ap (λ x. at (wire x) empty d) t.2)
          (record {
            spot = at root v c;
            held = at_root;
            trail = one_back (subst (λ r. Edge τ (put i N r) (at root v c)
                (at (wire (bound t.0)) empty d) 0) (sym t.1) (var_wire e));
          })

  free_back : (N : Tree) (i f : ℕ) (v : Level) (c d : Context) (z : Spot) → d ≡ cons v c →
      Held τ N (free f) i (inM (at (wire (name f)) empty d)) z → Onto τ N (free f) i (inM (at root v c)) z 0
  free_back N i f v c d z e h =
      let b = by_wire h (name f) refl in
      onto_from (b.is ∙ ap (λ l. at (wire (name f)) l d) (free_level b.address))
      (record { spot = at root v c; held = at_root; trail = one_back (free_wire e) })

  -- ---- an abstraction

  own_back : (N M : Tree) (i : ℕ) (a : Level) (c : Context) (z : Spot) → occurs (bound 0) M ≡ true →
      Held τ N (lam M) i (inM (body (at (wire (bound 0)) a c))) z → Onto τ N (lam M) i (inM (at root (star a) c)) z 0
  own_back N M i a c z m h =
      let t = in_body_held h in
      let b = by_wire t.2 (bound 0) refl in
      let k = zero_keeps b.address in
      onto_from (t.1 ∙ ap body (b.is ∙ ap (λ l. at (wire (bound 0)) l c) k.1))
      (record { spot = at root (star a) c; held = at_root; trail = one_back (lam_own (occurs_new b.address)) })

  wire_there : (N M : Tree) (i : ℕ) (y u : Wire) (a : Level) (c : Context) (z : Spot) →
      u ≡ under y → Held τ N (lam M) i (inM (at (wire y) a c)) z → Onto τ N (lam M) i (inM (body (at (wire u) a c))) z 0
  wire_there N M i y u a c z e h = go (which i y)
    where
      go : (y ≡ bound i) ⊎ ((x : Wire) × (wire_without i y ≡ Some x)) →
          Onto τ N (lam M) i (inM (body (at (wire u) a c))) z 0
      go (inl p) =
          let t = own_body h p in
          onto_from t.1 (record {
            spot = body t.0;
            held = p_body (subst (λ u. Held τ N M (suc i) (inM (at (wire u) a c)) t.0) (sym e) t.2);
            trail = here;
          })
      go (inr (x, q)) =
          let b = by_wire h x q in
          let r = in_body_of b.address in
          onto_from b.is (record {
            spot = body (at (wire (under x)) b.level c);
            held = p_body (wire_m (subst (λ u. WireOf τ N M (suc i) (ofM u a) (under x) b.level)
                (sym e) r));
            trail = one (lam_wire refl (occurs_new r));
          })

  wire_back : (N M : Tree) (i : ℕ) (y u : Wire) (a : Level) (c : Context) (z : Spot) → u ≡ under y →
      Held τ N (lam M) i (inM (body (at (wire u) a c))) z → Onto τ N (lam M) i (inM (at (wire y) a c)) z 0
  wire_back N M i y u a c z e h = go (which i y)
    where
      go : (y ≡ bound i) ⊎ ((x : Wire) × (wire_without i y ≡ Some x)) → Onto τ N (lam M) i (inM (at (wire y) a c)) z 0
      go (inl p) =
          let t = in_body_held h in
          onto_from t.1 (record {
            spot = body t.0;
            held = i_body p (subst (λ u. Held τ N M (suc i) (inM (at (wire u) a c)) t.0) e t.2);
            trail = here;
          })
      go (inr (x, q)) =
          let t = in_body_held h in
          let b = by_wire t.2 (under x) (subst (λ u. wire_without (suc i) u ≡ Some (under x))
          (sym e) (without_under i y x q)) in
          let r = subst (λ u. WireOf τ N M (suc i) (ofM u a) (under x) b.level) e b.address in
          onto_from (t.1 ∙ ap body b.is) (record {
            spot = at (wire x) b.level c;
            held = wire_m (lam_m r);
            trail = one_back (lam_wire refl (occurs_new r));
          })

  -- ---- an application

  left_there : (N M1 M2 : Tree) (i : ℕ) (y : Wire) (a w : Level) (c : Context) (z : Spot) →
      occurs y M1 ≡ true → w ≡ left M2 y a → Held τ N (app M1 M2) i (inM (at (wire y) w c)) z →
      Onto τ N (app M1 M2) i (inM (fun (at (wire y) a c))) z 0
  left_there N M1 M2 i y a w c z m e h = go (which i y)
    where
      go : (y ≡ bound i) ⊎ ((x : Wire) × (wire_without i y ≡ Some x)) →
          Onto τ N (app M1 M2) i (inM (fun (at (wire y) a c))) z 0
      go (inl p) = let t = own_left h p m e in onto_from t.1 (record { spot = fun t.0; held = p_fun t.2; trail = here })
      go (inr (x, q)) =
          let b = by_wire h x q in
          let r = in_left_of b.address m e in
          onto_from b.is (record {
            spot = fun (at (wire x) r.0 c);
            held = p_fun (wire_m r.1);
            trail = one (app_left (occurs_new r.1) r.2);
          })

  left_back : (N M1 M2 : Tree) (i : ℕ) (y : Wire) (a w : Level) (c : Context) (z : Spot) →
      occurs y M1 ≡ true → w ≡ left M2 y a →
      Held τ N (app M1 M2) i (inM (fun (at (wire y) a c))) z → Onto τ N (app M1 M2) i (inM (at (wire y) w c)) z 0
  left_back N M1 M2 i y a w c z m e h = go (which i y)
    where
      go : (y ≡ bound i) ⊎ ((x : Wire) × (wire_without i y ≡ Some x)) →
          Onto τ N (app M1 M2) i (inM (at (wire y) w c)) z 0
      go (inl p) = let t = in_fun_held h in
          onto_from t.1 (record { spot = fun t.0; held = i_fun p t.2 e; trail = here })
      go (inr (x, q)) =
          let t = in_fun_held h in
          let b = by_wire t.2 x q in
          onto_from (t.1 ∙ ap fun b.is) (record {
            spot = at (wire x)
                (left (subst_for i N M2) x b.level) c;
            held = wire_m (fun_m b.address e refl);
            trail = one_back (app_left (occurs_new b.address) refl);
          })

  right_there : (N M1 M2 : Tree) (i : ℕ) (y : Wire) (b v w : Level) (c : Context) (z : Spot) →
      occurs y M2 ≡ true → IsRight τ M1 M2 y b v w →
      Held τ N (app M1 M2) i (inM (at (wire y) w c)) z → Onto τ N (app M1 M2) i (inM (arg v (at (wire y) b c))) z 0
  right_there N M1 M2 i y b v w c z m e h = go (which i y)
    where
      go : (y ≡ bound i) ⊎ ((x : Wire) × (wire_without i y ≡ Some x)) →
          Onto τ N (app M1 M2) i (inM (arg v (at (wire y) b c))) z 0
      go (inl p) = let t = own_right v h p m e in
          onto_from t.1 (record { spot = arg v t.0; held = p_arg t.2; trail = here })
      go (inr (x, q)) =
          let k = by_wire h x q in
          let r = in_right_of v k.address m e in
          onto_from k.is (record {
            spot = arg v (at (wire x) r.0 c);
            held = p_arg (wire_m r.1);
            trail = one (app_right (occurs_new r.1) r.2);
          })

  right_back : (N M1 M2 : Tree) (i : ℕ) (y : Wire) (b v w : Level) (c : Context) (z : Spot) →
      occurs y M2 ≡ true → IsRight τ M1 M2 y b v w →
      Held τ N (app M1 M2) i (inM (arg v (at (wire y) b c))) z → Onto τ N (app M1 M2) i (inM (at (wire y) w c)) z 0
  right_back N M1 M2 i y b v w c z m e h = go (which i y)
    where
      go : (y ≡ bound i) ⊎ ((x : Wire) × (wire_without i y ≡ Some x)) →
          Onto τ N (app M1 M2) i (inM (at (wire y) w c)) z 0
      go (inl p) = let t = in_arg_held h in
          onto_from t.1 (record { spot = arg v t.0; held = i_arg p t.2 e; trail = here })
      go (inr (x, q)) =
          let t = in_arg_held h in
          let k = by_wire t.2 x q in
          let l : Level = right τ (subst_for i N M1) (subst_for i N M2) x k.level v in
          let f : IsRight τ (subst_for i N M1)
          (subst_for i N M2) x k.level v l = record { level = level_new M2 k.address e.level; is = refl } in
          onto_from (t.1 ∙ ap (arg v) k.is) (record {
            spot = at (wire x) l c;
            held = wire_m (arg_m v k.address e f);
            trail = one_back (app_right (occurs_new k.address) f);
          })

  -- ---- an edge of M, either way

  pub m_there : {N M : Tree} {i : ℕ} {s s' z : Spot} {n : ℕ} → Edge τ M s s' n →
      Held τ N M i (inM s) z → Onto τ N M i (inM s') z n
  m_there {N} {i = i} {z = z} (var_wire {y = y} {v = v} {c = c} {d = d} e) h = var_there N i y v c d z e h
  m_there (free_wire {f = f} {d = d} e) h = onto_from (root_is h)
      (record { spot = at (wire (name f)) empty d; held = wire_m named; trail = one (free_wire e) })
  m_there (lam_root {v = v} {c = c}) h = onto_from (root_is h)
      (record { spot = body (at root v c); held = p_body at_root; trail = one lam_root })
  m_there {N} {i = i} (lam_own {M = M} {a = a} {c = c} m) h = onto_from (root_is h)
      (record {
        spot = body (at (wire (bound 0)) a c);
        held = p_body (wire_m (own_same m));
        trail = one (lam_own (occurs_new {τ = τ} {N = N} {M = M} {i = suc i} {z = bound 0} {a' = a} (own_same m)));
      })
  m_there {N} {i = i} {z = x} (lam_wire {M = M} {y = y} {z = u} {a = a} {c = c} e m) h = wire_there N M i y u a c x e h
  m_there (app_root {v = v} {c = c}) h = onto_from (root_is h)
      (record { spot = fun (at root (o v) c); held = p_fun at_root; trail = one app_root })
  m_there (app_arg {v = v} {u = u} {c = c} {d = d} e) h =
      let t = in_fun_held h in onto_from (t.1 ∙ ap fun (root_is t.2))
      (record { spot = arg v (at root u d); held = p_arg at_root; trail = one (app_arg e) })
  m_there {N} {i = i} {z = z} (app_left {M = M1} {N = M2} {y = y} {a = a} {w = w} {c = c} m e)
      h = left_there N M1 M2 i y a w c z m e h
  m_there {N} {i = i} {z = z} (app_right {M = M1} {N = M2} {y = y} {b = b} {v = v} {w = w} {c = c} m
      e) h = right_there N M1 M2 i y b v w c z m e h
  m_there (in_body e) h = let t = in_body_held h in let r = m_there e t.2 in
      onto_from t.1 (record { spot = body r.spot; held = p_body r.held; trail = tr_body r.trail })
  m_there (in_fun e) h = let t = in_fun_held h in let r = m_there e t.2 in
      onto_from t.1 (record { spot = fun r.spot; held = p_fun r.held; trail = tr_fun r.trail })
  m_there (in_arg {v = v} e) h = let t = in_arg_held h in let r = m_there e t.2 in
      onto_from t.1 (record { spot = arg v r.spot; held = p_arg r.held; trail = tr_arg r.trail })

  pub m_there_back : {N M : Tree} {i : ℕ} {s s' z : Spot} {n : ℕ} → Edge τ M s' s n →
      Held τ N M i (inM s) z → Onto τ N M i (inM s') z n
  m_there_back {N} {i = i} {z = z} (var_wire {y = y} {v = v} {c = c} {d = d} e) h = var_back N i y v c d z e h
  m_there_back {N} {i = i} {z = z} (free_wire {f = f} {v = v} {c = c} {d = d} e) h = free_back N i f v c d z e h
  m_there_back (lam_root {v = v} {c = c}) h = let t = in_body_held h in
      onto_from (t.1 ∙ ap body (root_is t.2))
      (record { spot = at root (o v) c; held = at_root; trail = one_back lam_root })
  m_there_back {N} {i = i} {z = z} (lam_own {M = M} {a = a} {c = c} m) h = own_back N M i a c z m h
  m_there_back {N} {i = i} {z = x} (lam_wire {M = M} {y = y} {z = u} {a = a} {c = c} e m)
      h = wire_back N M i y u a c x e h
  m_there_back (app_root {v = v} {c = c}) h = let t = in_fun_held h in
      onto_from (t.1 ∙ ap fun (root_is t.2)) (record { spot = at root v c; held = at_root; trail = one_back app_root })
  m_there_back (app_arg {v = v} {u = u} {c = c} {d = d} e) h =
      let t = in_arg_held h in onto_from (t.1 ∙ ap (arg v) (root_is t.2))
      (record { spot = fun (at root (star v) c); held = p_fun at_root; trail = one_back (app_arg e) })
  m_there_back {N} {i = i} {z = z} (app_left {M = M1} {N = M2} {y = y} {a = a} {w = w} {c = c} m e)
      h = left_back N M1 M2 i y a w c z m e h
  m_there_back {N} {i = i} {z = z} (app_right {M = M1} {N = M2} {y = y} {b = b} {v = v} {w = w}
      {c = c} m e) h = right_back N M1 M2 i y b v w c z m e h
  m_there_back (in_body e) h = let t = in_body_held h in let r = m_there_back e t.2 in
      onto_from t.1 (record { spot = body r.spot; held = p_body r.held; trail = tr_body r.trail })
  m_there_back (in_fun e) h = let t = in_fun_held h in let r = m_there_back e t.2 in
      onto_from t.1 (record { spot = fun r.spot; held = p_fun r.held; trail = tr_fun r.trail })
  m_there_back (in_arg {v = v} e) h = let t = in_arg_held h in let r = m_there_back e t.2 in
      onto_from t.1 (record { spot = arg v r.spot; held = p_arg r.held; trail = tr_arg r.trail })

  -- ---- an edge of the cut, either way

  pub there : {N M : Tree} {i : ℕ} {c c' : Cut} {z : Spot} {n : ℕ} → CutEdge τ N M i c c' n →
      Held τ N M i c z → Onto τ N M i c' z n
  there (of_m e) h = m_there e h
  there (of_n {s' = s'} {w = w} e) h = let t = held_copy h in let r = copy_edge t.1 s' w e in
      record { spot = r.0; held = copies_held r.1; trail = tr_trans (tr_sym t.2) (one r.2) (omega arith) }
  there {z = z} (joint p m e) h = record { spot = z; held = held_joint h p e; trail = here }

  pub there_back : {N M : Tree} {i : ℕ} {c c' : Cut} {z : Spot} {n : ℕ} → CutEdge τ N M i c' c n →
      Held τ N M i c z → Onto τ N M i c' z n
  there_back (of_m e) h = m_there_back e h
  there_back (of_n {s = s} {w = w} e) h = let t = held_copy h in let r = copy_edge_back t.1 s w e in
      record { spot = r.0; held = copies_held r.1; trail = tr_trans (tr_sym t.2) (one_back r.2) (omega arith) }
  there_back {z = z} (joint p m e) h = record { spot = z; held = joint_held h p e; trail = here }
