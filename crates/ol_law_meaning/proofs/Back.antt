-- From the term with N put in to the cut.
use Rattle.std.proofs.Common.{◌≡◌, ℕ, zero, suc, true, false, Option, Some, None, refl, sym, ap, ◌∙◌, subst, arith}
use Rattle.std.proofs.lemmas.Bool.{or_left, or_right, eqb-true}
use Rattle.ol_law_meaning.specs.Contraction.{Tree, var, free, lam, app, Level, empty, o, star, Context, Wire, bound}
use Rattle.ol_law_meaning.specs.Contraction.{name, under, root, wire, Spot, at, body, fun, arg, Edge, var_wire}
use Rattle.ol_law_meaning.specs.Contraction.{free_wire, lam_root, lam_own, lam_wire, app_root, app_arg, app_left}
use Rattle.ol_law_meaning.specs.Contraction.{app_right, in_body, in_fun, in_arg, Trail, here, occurs, left, right, lift}
use Rattle.ol_law_meaning.specs.Contraction.{up_from, lifted_wire, lifted, without, suc_of, wire_without, wire_of, put}
use Rattle.ol_law_meaning.specs.Contraction.{subst_for, Cut, inM, inN, CutEdge, of_m, of_n, joint, ofM, ofN, WireOf}
use Rattle.ol_law_meaning.specs.Contraction.{same, other, named, own, lam_m, lam_n, fun_m, arg_m, fun_n, arg_n, Held}
use Rattle.ol_law_meaning.specs.Contraction.{at_root, wire_m, wire_n, x_spot, x_wire, p_body, p_fun, p_arg, n_body}
use Rattle.ol_law_meaning.specs.Contraction.{n_fun, n_arg, i_body, i_fun, i_arg, IsRight, IsLevelOf, IsSpotOf, on, back}
use Rattle.ol_law_meaning.proofs.Lifts.{same_is, occurs_lifted, lift_finds}
use Rattle.ol_law_meaning.proofs.Trails.{tr_trans, tr_map, one, one_back, tr_sym}
use Rattle.ol_law_meaning.proofs.Addresses.{gone, without_is, without_own, left_one, right_one, sides_apart, occurs_new}
use Rattle.ol_law_meaning.proofs.Addresses.{occurs_old, own_occurs, occurs_same, occurs_more, in_body_of, own_same}
use Rattle.ol_law_meaning.proofs.Addresses.{zero_lifted, address_same, left_same, own_gone, bare_same, level_own}
use Rattle.ol_law_meaning.proofs.Addresses.{level_old, lam_level, app_level, var_level, free_level, spot_from, spot_to}
use Rattle.ol_law_meaning.proofs.There.{own_wire_occurs}
use Rattle.ol_law_meaning.proofs.Bare.{right_like}
use Rattle.ol_term.specs.declared.translations.Translation.{Translation}

-- ---- the cut of a part, in the whole

abbrev pub up_body : Cut → Cut
up_body (inM s) = inM (body s)
up_body (inN w s) = inN w s

abbrev pub up_fun : Tree → ℕ → Cut → Cut
up_fun M2 i (inM s) = inM (fun s)
up_fun M2 i (inN u s) = inN (left M2 (bound i) u) s

abbrev pub up_arg : Translation → Tree → Tree → ℕ → Level → Cut → Cut
up_arg τ M1 M2 i v (inM s) = inM (arg v s)
up_arg τ M1 M2 i v (inN u s) = inN (right τ M1 M2 (bound i) u v) s

-- level 0 of the variable's wire is one that it has in M
abbrev pub IsFine : Translation → Tree → ℕ → Cut → Type 0
IsFine τ M i (inN u s) = IsLevelOf τ M u
IsFine τ M i (inM (at root v c)) = Unit {0}
IsFine τ M i (inM (at (wire x) a c)) = x ≡ bound i → IsLevelOf τ M a
IsFine τ M i (inM (body s)) = Unit {0}
IsFine τ M i (inM (fun s)) = Unit {0}
IsFine τ M i (inM (arg v s)) = Unit {0}

fine_spot : (τ : Translation) (M : Tree) (i : ℕ) (s : Spot) → IsSpotOf τ M s → IsFine τ M i (inM s)
fine_spot τ M i (at root v c) h = tt
fine_spot τ M i (at (wire x) a c) h = λ p. h
fine_spot τ M i (body s) h = tt
fine_spot τ M i (fun s) h = tt
fine_spot τ M i (arg v s) h = tt

module _ {τ : Translation} where
  fine_on : {N M : Tree} {i : ℕ} {c c' : Cut} {n : ℕ} → CutEdge τ N M i c c' n → IsFine τ M i c → IsFine τ M i c'
  fine_on {M = M} {i = i} (of_m {s' = s'} e) h = fine_spot τ M i s' (spot_to e)
  fine_on (of_n e) h = h
  fine_on (joint p m e) h = h p

  fine_off : {N M : Tree} {i : ℕ} {c c' : Cut} {n : ℕ} → CutEdge τ N M i c' c n → IsFine τ M i c → IsFine τ M i c'
  fine_off {M = M} {i = i} (of_m {s = s} e) h = fine_spot τ M i s (spot_from e)
  fine_off (of_n e) h = h
  fine_off (joint p m e) h = λ q. h

  pub held_fine : {N M : Tree} {i : ℕ} {c : Cut} {z : Spot} → Held τ N M i c z → IsFine τ M i c
  held_fine at_root = tt
  held_fine {i = i} (wire_m {z = z} r) = λ p. absurd (own_gone i z (subst (λ x. wire_without i x ≡ Some z) p (gone r)))
  held_fine (wire_n r) = level_own r
  held_fine (x_spot e h) = λ t. refl
  held_fine (x_wire p e h) = λ q t. refl
  held_fine (p_body h) = tt
  held_fine (p_fun h) = tt
  held_fine (p_arg h) = tt
  held_fine (n_body {M = M} {w = w} h) = lam_level τ M w
  held_fine (n_fun {M1 = M1} {M2 = M2} {w = w} h e) = app_level τ M1 M2 w
  held_fine (n_arg {M1 = M1} {M2 = M2} {w = w} h e) = app_level τ M1 M2 w
  held_fine (i_body {M = M} {a = a} p h) = λ q. lam_level τ M a
  held_fine (i_fun {M1 = M1} {M2 = M2} {w = w} p h e) = λ q. app_level τ M1 M2 w
  held_fine (i_arg {M1 = M1} {M2 = M2} {w = w} p h e) = λ q. app_level τ M1 M2 w

  body_edge : {N M : Tree} {i : ℕ} (c c' : Cut) (n : ℕ) → CutEdge τ N M (suc i) c c' n →
      Trail (CutEdge τ N (lam M) i) (up_body c) (up_body c') n
  body_edge c c' n (of_m e) = one (of_m (in_body e))
  body_edge c c' n (of_n e) = one (of_n e)
  body_edge {N} {M} {i} c c' n (joint {x = x} p m e) =
      tr_trans (one_back (of_m (lam_wire {y = bound i} p m)))
      (one (joint refl (subst (λ x. occurs x M ≡ true) p m) e)) (omega arith)

  fun_edge : {N M1 M2 : Tree} {i : ℕ} (c c' : Cut) (n : ℕ) → CutEdge τ N M1 i c c' n →
      Trail (CutEdge τ N (app M1 M2) i) (up_fun M2 i c) (up_fun M2 i c') n
  fun_edge c c' n (of_m e) = one (of_m (in_fun e))
  fun_edge c c' n (of_n e) = one (of_n e)
  fun_edge {N} {M1} {M2} {i} c c' n (joint {x = x} {a = a} {u = u} {c = k} {d = d} p m e) =
      subst (λ y. Trail (CutEdge τ N (app M1 M2) i) (inM (fun (at (wire x) a k))) (inN (left M2 y a) (at root u d)) 0) p
      (tr_trans (one_back (of_m (app_left m refl)))
      (one (joint p (or_left (occurs x M1) (occurs x M2) m) e)) (omega arith))

  arg_edge : {N M1 M2 : Tree} {i : ℕ} (v : Level) (c c' : Cut) (n : ℕ) → CutEdge τ N M2 i c c' n →
      IsFine τ M2 i c → Trail (CutEdge τ N (app M1 M2) i) (up_arg τ M1 M2 i v c) (up_arg τ M1 M2 i v c') n
  arg_edge v c c' n (of_m e) h = one (of_m (in_arg e))
  arg_edge v c c' n (of_n e) h = one (of_n e)
  arg_edge {N} {M1} {M2} {i} v c c' n (joint {x = x} {a = a} {u = u} {c = k} {d = d} p m e) h =
      subst (λ y. Trail (CutEdge τ N (app M1 M2) i) (inM (arg v (at (wire x) a k)))
      (inN (right τ M1 M2 y a v) (at root u d)) 0) p
      (tr_trans (one_back (of_m (app_right m (record { level = h p; is = refl }))))
      (one (joint p (or_right (occurs x M1) (occurs x M2) m) e)) (omega arith))

  body_held : {N M : Tree} {i : ℕ} (c : Cut) {z : Spot} → Held τ N M (suc i) c z →
      Held τ N (lam M) i (up_body c) (body z)
  body_held (inM s) h = p_body h
  body_held (inN w s) h = n_body h

  fun_held : {N M1 M2 : Tree} {i : ℕ} (c : Cut) {z : Spot} → Held τ N M1 i c z →
      Held τ N (app M1 M2) i (up_fun M2 i c) (fun z)
  fun_held (inM s) h = p_fun h
  fun_held (inN w s) h = n_fun h refl

  arg_held : {N M1 M2 : Tree} {i : ℕ} (v : Level) (c : Cut) {z : Spot} → Held τ N M2 i c z →
      Held τ N (app M1 M2) i (up_arg τ M1 M2 i v c) (arg v z)
  arg_held v (inM s) h = p_arg h
  arg_held v (inN w s) h = n_arg h (record { level = held_fine h; is = refl })

-- what holds a spot of a part, seen from the part
pub record Part (τ : Translation) (N M W : Tree) (i j : ℕ) (up : Cut → Cut) (c : Cut) (z : Spot) : Type 0 where
  pub cut : Cut
  pub held : Held τ N M j cut z
  pub trail : Trail (CutEdge τ N W i) c (up cut) 0

module _ {τ : Translation} where
  pub of_body : {N M : Tree} {i : ℕ} {c : Cut} {z : Spot} → Held τ N (lam M) i c (body z) →
      Part τ N M (lam M) i (suc i) up_body c z
  of_body (p_body {s = s} h) = record { cut = inM s; held = h; trail = here }
  of_body (n_body {w = w} {s = s} h) = record { cut = inN w s; held = h; trail = here }
  of_body (i_body {x = x} {a = a} {c = c} p h) = record {
    cut = inM (at (wire (under x)) a c);
    held = h;
    trail = one (of_m (lam_wire refl (own_wire_occurs h (ap under p))));
  }

  pub of_fun : {N M1 M2 : Tree} {i : ℕ} {c : Cut} {z : Spot} → Held τ N (app M1 M2) i c (fun z) →
      Part τ N M1 (app M1 M2) i i (up_fun M2 i) c z
  of_fun (p_fun {s = s} h) = record { cut = inM s; held = h; trail = here }
  of_fun {N} {M1} {M2} {i} (n_fun {u = u} {s = s} h e) = record {
    cut = inN u s;
    held = h;
    trail = subst (λ w. Trail (CutEdge τ N (app M1 M2) i) (inN w s) (inN (left M2 (bound i) u) s) 0) (sym e) here;
  }
  of_fun (i_fun {x = x} {u = u} {c = c} p h e) = record {
    cut = inM (at (wire x) u c);
    held = h;
    trail = one (of_m (app_left (own_wire_occurs h p) e));
  }

  pub of_arg : {N M1 M2 : Tree} {i : ℕ} {v : Level} {c : Cut} {z : Spot} →
      Held τ N (app M1 M2) i c (arg v z) → Part τ N M2 (app M1 M2) i i (up_arg τ M1 M2 i v) c z
  of_arg (p_arg {s = s} h) = record { cut = inM s; held = h; trail = here }
  of_arg {N} {M1} {M2} {i} {v} (n_arg {u = u} {s = s} h e) = record {
    cut = inN u s;
    held = h;
    trail = subst (λ w. Trail (CutEdge τ N (app M1 M2) i) (inN w s)
        (inN (right τ M1 M2 (bound i) u v) s) 0) (sym e.is) here;
  }
  of_arg (i_arg {x = x} {u = u} {c = c} p h e) = record {
    cut = inM (at (wire x) u c);
    held = h;
    trail = one (of_m (app_right (own_wire_occurs h p) e));
  }

-- ---- lifted spots

lifted_root : (i : ℕ) (s : Spot) (v : Level) (d : Context) → at root v d ≡ lifted 0 i s → s ≡ at root v d
lifted_root i (at root u c) v d e = sym e
lifted_root i (at (wire y) u c) v d e = absurd (cc)
lifted_root i (body s) v d e = absurd (cc)
lifted_root i (fun s) v d e = absurd (cc)
lifted_root i (arg w s) v d e = absurd (cc)

lifted_at : (i : ℕ) (s : Spot) (z : Wire) (v : Level) (d : Context) →
    at (wire z) v d ≡ lifted 0 i s → (x : Wire) × (s ≡ at (wire x) v d) × (z ≡ lifted_wire 0 i x)
lifted_at i (at root u c) z v d e = absurd (cc)
lifted_at i (at (wire y) u c) z v d e = let p : z ≡ lifted_wire 0 i y = cc in let q : v ≡ u = cc in
    let r : d ≡ c = cc in (y, ap (λ u. at (wire y) u c) (sym q) ∙ ap (at (wire y) v) (sym r), p)
lifted_at i (body s) z v d e = absurd (cc)
lifted_at i (fun s) z v d e = absurd (cc)
lifted_at i (arg w s) z v d e = absurd (cc)

up_one : (d i y x : ℕ) → up_from d i y ≡ up_from d i x → y ≡ x
up_one zero i y x e = omega arith
up_one (suc d) i zero zero e = refl
up_one (suc d) i zero (suc x) e = absurd (omega arith)
up_one (suc d) i (suc y) zero e = absurd (omega arith)
up_one (suc d) i (suc y) (suc x) e = ap suc (up_one d i y x (omega arith))

pub wire_one : (d i : ℕ) (y x : Wire) → lifted_wire d i y ≡ lifted_wire d i x → y ≡ x
wire_one d i (bound y) (bound x) e = ap bound (up_one d i y x (cc))
wire_one d i (bound y) (name x) e = absurd (cc)
wire_one d i (name y) (bound x) e = absurd (cc)
wire_one d i (name y) (name x) e = cc

lifted_one : (d i : ℕ) (s z : Spot) → lifted d i s ≡ lifted d i z → s ≡ z
lifted_one d i (at root u c) (at root v e) q = cc
lifted_one d i (at root u c) (at (wire y) v e) q = absurd (cc)
lifted_one d i (at (wire x) u c) (at root v e) q = absurd (cc)
lifted_one d i (at (wire x) u c) (at (wire y) v e) q = let p : x ≡ y = wire_one d i x y (cc) in
    let r : u ≡ v = cc in let t : c ≡ e = cc in cc
lifted_one d i (at p u c) (body z) q = absurd (cc)
lifted_one d i (at p u c) (fun z) q = absurd (cc)
lifted_one d i (at p u c) (arg w z) q = absurd (cc)
lifted_one d i (body s) (at p u c) q = absurd (cc)
lifted_one d i (body s) (body z) q = ap body (lifted_one (suc d) i s z (cc))
lifted_one d i (body s) (fun z) q = absurd (cc)
lifted_one d i (body s) (arg w z) q = absurd (cc)
lifted_one d i (fun s) (at p u c) q = absurd (cc)
lifted_one d i (fun s) (body z) q = absurd (cc)
lifted_one d i (fun s) (fun z) q = ap fun (lifted_one d i s z (cc))
lifted_one d i (fun s) (arg w z) q = absurd (cc)
lifted_one d i (arg v s) (at p u c) q = absurd (cc)
lifted_one d i (arg v s) (body z) q = absurd (cc)
lifted_one d i (arg v s) (fun z) q = absurd (cc)
lifted_one d i (arg v s) (arg w z) q = let r = lifted_one d i s z (cc) in let p : v ≡ w = cc in cc

module _ {τ : Translation} where
  -- ---- what holds the interface

  pub held_root : {N M : Tree} {i : ℕ} {c : Cut} {v : Level} {d : Context} →
      Held τ N M i c (at root v d) → Trail (CutEdge τ N M i) c (inM (at root v d)) 0
  held_root at_root = here
  held_root {N} {i = i} {v = v} {d = d} (x_spot {y = y} {s = s} e h) =
      subst (λ s. Trail (CutEdge τ N (var y) i) (inN empty s) (inM (at root v d)) 0) (sym (lifted_root i s v d h))
      (tr_trans (one_back (joint {x = bound y} (ap bound (without_is i y e)) (same_is y) refl))
      (one_back (of_m (var_wire refl))) (omega arith))
  held_root {N} {i = i} {v = v} {d = d} (x_wire {y = y} {x = x} {c = c} p e h) =
      subst (λ x. Trail (CutEdge τ N (var y) i) (inM (at (wire x) empty c)) (inM (at root v d)) 0)
      (ap bound (without_is i y e) ∙ sym p) (one_back (of_m (var_wire h)))

pub data Tagged (τ : Translation) (N M : Tree) (i : ℕ) (z : Wire) (l : Level) (d : Context) : Cut → Type 0 where
  tag_m : {y : Wire} {a : Level} → WireOf τ N M i (ofM y a) z l → Tagged τ N M i z l d (inM (at (wire y) a d))
  tag_n : {w b : Level} {x : Wire} → WireOf τ N M i (ofN w x b) z l → Tagged τ N M i z l d (inN w (at (wire x) b d))

pub record ByTag (τ : Translation) (N M : Tree) (i : ℕ) (z : Wire) (l : Level) (d : Context) (c : Cut) : Type 0 where
  pub cut : Cut
  pub tagged : Tagged τ N M i z l d cut
  pub trail : Trail (CutEdge τ N M i) c cut 0

module _ {τ : Translation} where
  pub held_wire : {N M : Tree} {i : ℕ} {c : Cut} {z : Wire} {l : Level} {d : Context} →
      Held τ N M i c (at (wire z) l d) → occurs z (subst_for i N M) ≡ true → ByTag τ N M i z l d c
  held_wire {d = d} (wire_m {y = y} {a = a} r) m = record {
    cut = inM (at (wire y) a d);
    tagged = tag_m r;
    trail = here;
  }
  held_wire {d = d} (wire_n {x = x} {w = w} {b = b} r) m = record {
    cut = inN w (at (wire x) b d);
    tagged = tag_n r;
    trail = here;
  }
  held_wire {N} {i = i} {z = z} {l = l} {d = d} (x_spot {y = y} {s = s} e h) m =
      let t = lifted_at i s z l d h in
      let k : occurs z (lift 0 i N) ≡ true = subst (λ r. occurs z (put i N r) ≡ true) e m in
      let k2 : occurs t.0 N ≡ true = sym (occurs_lifted t.0 N 0 i) ∙ subst (λ z. occurs z (lift 0 i N) ≡ true) t.2 k in
      record {
        cut = inN empty (at (wire t.0) l d);
        tagged = tag_n (own e k2 t.2);
        trail = subst (λ s. Trail (CutEdge τ N (var y) i) (inN empty s)
            (inN empty (at (wire t.0) l d)) 0) (sym t.1) here;
      }

  -- the wire of an address in N is N's
  pub of_n_occurs : {N M : Tree} {i : ℕ} {x z : Wire} {w b l : Level} →
      WireOf τ N M i (ofN w x b) z l → occurs z (lift 0 i N) ≡ true
  of_n_occurs {N} {i = i} (own {x = x} e h q) = subst (λ z. occurs z (lift 0 i N) ≡ true) (sym q)
      (occurs_lifted x N 0 i ∙ h)
  of_n_occurs {N} {i = i} {z = z} (lam_n r) = sym (occurs_more z N i) ∙ of_n_occurs r
  of_n_occurs (fun_n r e e') = of_n_occurs r
  of_n_occurs (arg_n v r e e') = of_n_occurs r

-- what follows an edge
pub record From (τ : Translation) (N M : Tree) (i : ℕ) (c : Cut) (z : Spot) (n : ℕ) : Type 0 where
  pub cut : Cut
  pub held : Held τ N M i cut z
  pub trail : Trail (CutEdge τ N M i) c cut n

-- ---- an occurrence of the variable itself

pub record Copied (τ : Translation) (N : Tree) (i y : ℕ) (c : Cut) (z : Spot) : Type 0 where
  pub spot : Spot
  pub is : z ≡ lifted 0 i spot
  pub trail : Trail (CutEdge τ N (var y) i) c (inN empty spot) 0

pub occurs_is : (w : Wire) (y : ℕ) → occurs w (var y) ≡ true → w ≡ bound y
occurs_is (bound k) y m = ap bound (sym (eqb-true y k m))
occurs_is (name f) y m = absurd (cc)

module _ {τ : Translation} where
  pub not_own : {N : Tree} {i y : ℕ} {w z : Wire} {a l : Level} → without i y ≡ None →
      WireOf τ N (var y) i (ofM w a) z l → ⊥
  not_own {i = i} {y = y} {w = w} {z = z} q r =
      let k : wire_without i (bound y) ≡ Some z = subst (λ w. wire_without i w ≡ Some z)
      (occurs_is w y (occurs_old r)) (gone r) in
      absurd (let e : wire_of None ≡ Some z = ap wire_of (sym q) ∙ k in cc)

  pub var_copied : {N : Tree} {i y : ℕ} {c : Cut} {z : Spot} → without i y ≡ None →
      Held τ N (var y) i c z → Copied τ N i y c z
  var_copied {i = i} {y = y} q (at_root {v = v} {c = c}) = record {
    spot = at root v c;
    is = refl;
    trail = tr_trans (one (of_m (var_wire refl)))
        (one (joint {x = bound y} (ap bound (without_is i y q)) (same_is y) refl)) (omega arith);
  }
  var_copied q (wire_m r) = absurd (not_own q r)
  var_copied {i = i} q (wire_n {c = c} (own {x = x} {b = b} e h k)) = record {
    spot = at
        (wire x) b c;
    is = ap (λ z. at (wire z) b c) k;
    trail = here;
  }
  var_copied q (x_spot {s = s} e h) = record { spot = s; is = h; trail = here }
  var_copied {N} {i = i} {y = y} q (x_wire {x = x} {u = u} {c = c} {d = d} p e h) =
      record {
        spot = at root u d;
        is = refl;
        trail = one (joint p (subst (λ w. occurs w (var y) ≡ true)
            (ap bound (without_is i y e) ∙ sym p) (same_is y)) h);
      }

  copy_on : (N : Tree) (i y : ℕ) (c : Cut) (z z' : Spot) (n : ℕ) → without i y ≡ None →
      Edge τ (lift 0 i N) z z' n → Held τ N (var y) i c z → From τ N (var y) i c z' n
  copy_on N i y c z z' n q e h =
      let k = var_copied q h in
      let f = lift_finds N 0 i z z' n e in
      let p : f.s ≡ k.spot = lifted_one 0 i f.s k.spot (f.is ∙ k.is) in
      record {
        cut = inN empty f.s';
        held = x_spot q (sym f.is');
        trail = tr_trans k.trail (subst (λ s.
            Trail (CutEdge τ N (var y) i) (inN empty s) (inN empty f.s') n) p (one (of_n f.edge))) (omega arith);
      }

  copy_off : (N : Tree) (i y : ℕ) (c : Cut) (z z' : Spot) (n : ℕ) → without i y ≡ None →
      Edge τ (lift 0 i N) z' z n → Held τ N (var y) i c z → From τ N (var y) i c z' n
  copy_off N i y c z z' n q e h =
      let k = var_copied q h in
      let f = lift_finds N 0 i z' z n e in
      let p : f.s' ≡ k.spot = lifted_one 0 i f.s' k.spot (f.is' ∙ k.is) in
      record {
        cut = inN empty f.s;
        held = x_spot q (sym f.is);
        trail = tr_trans k.trail (subst (λ s.
            Trail (CutEdge τ N (var y) i) (inN empty s) (inN empty f.s) n) p (one_back (of_n f.edge))) (omega arith);
      }

  -- another variable
  var_on : (N : Tree) (i y x : ℕ) (c : Cut) (z z' : Spot) (n : ℕ) → without i y ≡ Some x →
      Edge τ (var x) z z' n → Held τ N (var y) i c z → From τ N (var y) i c z' n
  var_on N i y x c z z' n q (var_wire {d = d} e) h = record {
    cut = inM
        (at (wire (bound y)) empty d);
    held = wire_m (other q);
    trail = tr_trans (held_root h) (one (of_m (var_wire e))) (omega arith);
  }

  var_off : (N : Tree) (i y x : ℕ) (c : Cut) (z z' : Spot) (n : ℕ) → without i y ≡ Some x →
      Edge τ (var x) z' z n → Held τ N (var y) i c z → From τ N (var y) i c z' n
  var_off N i y x c z z' n q (var_wire {v = v} {c = k} {d = d} e) h =
      let t = held_wire h (subst (λ r. occurs (bound x) (put i N r) ≡ true) (sym q) (same_is x)) in
      go t.cut t.tagged t.trail
    where
      go : (b : Cut) → Tagged τ N (var y) i (bound x) empty d b →
          Trail (CutEdge τ N (var y) i) c b 0 → From τ N (var y) i c (at root v k) 0
      go b (tag_m {y = w} {a = a} r) t =
          let p = occurs_is w y (occurs_old r) in
          let l = var_level r in
          record {
            cut = inM (at root v k);
            held = at_root;
            trail = tr_trans (subst (λ a. Trail (CutEdge τ N (var y) i) c
                (inM (at (wire (bound y)) a d)) 0) (sym l)
                (subst (λ w. Trail (CutEdge τ N (var y) i) c (inM (at (wire w) a d)) 0) p t))
                (one_back (of_m (var_wire e))) (omega arith);
          }
      go b (tag_n r) t =
          let m = own_occurs r in
          absurd (let j : y ≡ i = eqb-true y i m in
          let k0 : without i y ≡ None = subst (λ y. without i y ≡ None) (sym j)
          (without_own i) in let w : Some x ≡ None = sym q ∙ k0 in cc)

  free_off : (N : Tree) (i f : ℕ) (c : Cut) (z z' : Spot) (n : ℕ) → Edge τ (free f) z' z n →
      Held τ N (free f) i c z → From τ N (free f) i c z' n
  free_off N i f c z z' n (free_wire {v = v} {c = k} {d = d} e) h = let t = held_wire h
      (same_is f) in go t.cut t.tagged t.trail
    where
      name_of : (w : Wire) → occurs w (free f) ≡ true → w ≡ name f
      name_of (bound y) m = absurd (cc)
      name_of (name g) m = ap name (sym (eqb-true f g m))

      go : (b : Cut) → Tagged τ N (free f) i (name f) empty d b →
          Trail (CutEdge τ N (free f) i) c b 0 → From τ N (free f) i c (at root v k) 0
      go b (tag_m {y = w} {a = a} r) t =
          let p = name_of w (occurs_old r) in
          let l = free_level r in
          record {
            cut = inM (at root v k);
            held = at_root;
            trail = tr_trans (subst (λ a. Trail (CutEdge τ N (free f) i) c
                (inM (at (wire (name f)) a d)) 0) (sym l)
                (subst (λ w. Trail (CutEdge τ N (free f) i) c (inM (at (wire w) a d)) 0) p t))
                (one_back (of_m (free_wire e))) (omega arith);
          }
      go b (tag_n r) t = let m = own_occurs r in absurd (cc)

-- ---- an abstraction

pub pre_under : (i : ℕ) (y z : Wire) → wire_without (suc i) y ≡ Some (under z) → (x : Wire) × (y ≡ under x)
pre_under i (bound zero) (bound z) e = absurd
    (let k : bound 0 ≡ bound (suc z) = cc in let j : 0 ≡ suc z = cc in omega arith)
pre_under i (bound zero) (name z) e = absurd (cc)
pre_under i (bound (suc y)) z e = (bound y, refl)
pre_under i (name f) z e = (name f, refl)

pub pre_zero : (i : ℕ) (y : Wire) → wire_without (suc i) y ≡ Some (bound 0) → y ≡ bound 0
pre_zero i (bound zero) e = refl
pre_zero i (bound (suc y)) e = absurd (no_suc (without i y) e)
  where
    no_suc : (r : Option ℕ) → wire_of (suc_of r) ≡ Some (bound 0) → ⊥
    no_suc None q = absurd (cc)
    no_suc (Some x) q = absurd (let k : bound (suc x) ≡ bound 0 = cc in let j : suc x ≡ 0 = cc in omega arith)
pre_zero i (name f) e = absurd (cc)

module _ {τ : Translation} where
  pub body_trail : {N M : Tree} {i : ℕ} {c c' : Cut} {n : ℕ} → Trail (CutEdge τ N M (suc i)) c c' n →
      Trail (CutEdge τ N (lam M) i) (up_body c) (up_body c') n
  body_trail t = tr_map up_body body_edge t

  pub fun_trail : {N M1 M2 : Tree} {i : ℕ} {c c' : Cut} {n : ℕ} → Trail (CutEdge τ N M1 i) c c' n →
      Trail (CutEdge τ N (app M1 M2) i) (up_fun M2 i c) (up_fun M2 i c') n
  fun_trail {M2 = M2} {i = i} t = tr_map (up_fun M2 i) fun_edge t

  pub arg_trail : {N M1 M2 : Tree} {i : ℕ} (v : Level) {c c' : Cut} {n : ℕ} →
      Trail (CutEdge τ N M2 i) c c' n → IsFine τ M2 i c →
      Trail (CutEdge τ N (app M1 M2) i) (up_arg τ M1 M2 i v c) (up_arg τ M1 M2 i v c') n
  arg_trail v here h = here
  arg_trail v (on {s = c} {s' = c'} {w = n} e t q) h = tr_trans (arg_edge v c c' n e h) (arg_trail v t (fine_on e h)) q
  arg_trail v (back {s = c} {s' = c'} {w = n} e t q) h = tr_trans
      (tr_sym (arg_edge v c' c n e (fine_off e h))) (arg_trail v t (fine_off e h)) q

  lam_own_on : (N M : Tree) (i : ℕ) (c : Cut) (a : Level) (k : Context) →
      occurs (bound 0) (subst_for (suc i) N M) ≡ true → Held τ N (lam M) i c (at root (star a) k) →
      From τ N (lam M) i c (body (at (wire (bound 0)) a k)) 0
  lam_own_on N M i c a k m h =
      let m' : occurs (bound 0) M ≡ true = sym
      (occurs_same M N (suc i) (bound 0) (bound 0) refl (zero_lifted N i)) ∙ m in
      record {
        cut = inM (body (at (wire (bound 0)) a k));
        held = p_body (wire_m (own_same m'));
        trail = tr_trans (held_root h) (one (of_m (lam_own m'))) (omega arith);
      }

  lam_own_off : (N M : Tree) (i : ℕ) (c : Cut) (a : Level) (k : Context) →
      occurs (bound 0) (subst_for (suc i) N M) ≡ true →
      Held τ N (lam M) i c (body (at (wire (bound 0)) a k)) → From τ N (lam M) i c (at root (star a) k) 0
  lam_own_off N M i c a k m h = let p = of_body h in let t = held_wire p.held m in
      go p.cut t.cut p.trail t.tagged t.trail
    where
      go : (b b' : Cut) → Trail (CutEdge τ N (lam M) i) c (up_body b) 0 →
          Tagged τ N M (suc i) (bound 0) a k b' → Trail (CutEdge τ N M (suc i)) b b' 0 →
          From τ N (lam M) i c (at root (star a) k) 0
      go b b' t (tag_m {y = y} {a = a1} r) u =
          let q = pre_zero i y (gone r) in
          let l = address_same r (zero_lifted N i) in
          let w : Trail (CutEdge τ N (lam M) i) c (inM (body (at (wire (bound 0)) a k))) 0 =
          subst (λ a. Trail (CutEdge τ N (lam M) i) c (inM (body (at (wire (bound 0)) a k))) 0)
          (sym l) (subst (λ y. Trail (CutEdge τ N (lam M) i) c
          (inM (body (at (wire y) a1 k))) 0) q (tr_trans t (body_trail u) (omega arith))) in
          record {
            cut = inM (at root (star a) k);
            held = at_root;
            trail = tr_trans w (one_back (of_m (lam_own
                (subst (λ y. occurs y M ≡ true) q (occurs_old r))))) (omega arith);
          }
      go b b' t (tag_n r) u = absurd (let w : true ≡ false = sym (of_n_occurs r) ∙ zero_lifted N i in cc)

  lam_wire_on : (N M : Tree) (i : ℕ) (c : Cut) (y u : Wire) (a : Level) (k : Context) →
      u ≡ under y → occurs u (subst_for (suc i) N M) ≡ true →
      Held τ N (lam M) i c (at (wire y) a k) → From τ N (lam M) i c (body (at (wire u) a k)) 0
  lam_wire_on N M i c y u a k e m h =
      let t = held_wire h (subst (λ u. occurs u (subst_for (suc i) N M) ≡ true) e m) in
      subst (λ u. From τ N (lam M) i c (body (at (wire u) a k)) 0) (sym e) (go t.cut t.tagged t.trail)
    where
      go : (b : Cut) → Tagged τ N (lam M) i y a k b → Trail (CutEdge τ N (lam M) i) c b 0 →
          From τ N (lam M) i c (body (at (wire (under y)) a k)) 0
      go b (tag_m {y = w} {a = a1} r) t =
          let r' = in_body_of r in
          record {
            cut = inM (body (at (wire (under w)) a1 k));
            held = p_body (wire_m r');
            trail = tr_trans t (one (of_m (lam_wire refl (occurs_old r')))) (omega arith);
          }
      go b (tag_n {w = w} {b = l} {x = x} (lam_n r)) t = record {
        cut = inN w (at (wire x) l k);
        held = n_body (wire_n r);
        trail = t;
      }

  lam_wire_off : (N M : Tree) (i : ℕ) (c : Cut) (y u : Wire) (a : Level) (k : Context) →
      u ≡ under y → occurs u (subst_for (suc i) N M) ≡ true →
      Held τ N (lam M) i c (body (at (wire u) a k)) → From τ N (lam M) i c (at (wire y) a k) 0
  lam_wire_off N M i c y u a k e m h = let p = of_body h in let t = held_wire p.held m in
      go p.cut t.cut p.trail t.tagged t.trail
    where
      go : (b b' : Cut) → Trail (CutEdge τ N (lam M) i) c (up_body b) 0 →
          Tagged τ N M (suc i) u a k b' → Trail (CutEdge τ N M (suc i)) b b' 0 →
          From τ N (lam M) i c (at (wire y) a k) 0
      go b b' t (tag_m {y = w} {a = a1} r) z =
          let r1 = subst (λ u. WireOf τ N M (suc i) (ofM w a1) u a) e r in
          let x = pre_under i w y (gone r1) in
          let r2 = subst (λ w. WireOf τ N M (suc i) (ofM w a1) (under y) a) x.1 r1 in
          let j : Trail (CutEdge τ N (lam M) i) c
          (inM (body (at (wire (under x.0)) a1 k))) 0 = subst
          (λ w. Trail (CutEdge τ N (lam M) i) c (inM (body (at (wire w) a1 k))) 0) x.1
          (tr_trans t (body_trail z) (omega arith)) in
          record {
            cut = inM (at (wire x.0) a1 k);
            held = wire_m (lam_m r2);
            trail = tr_trans j (one_back (of_m (lam_wire refl (occurs_old r2)))) (omega arith);
          }
      go b b' t (tag_n {w = w} {b = l} {x = x} r) z =
          record {
            cut = inN w (at (wire x) l k);
            held = wire_n (lam_n (subst (λ u. WireOf τ N M (suc i) (ofN w x l) u a) e r));
            trail = tr_trans t (body_trail z) (omega arith);
          }

-- ---- an application

module _ {τ : Translation} where
  pub left_m : {N M1 M2 : Tree} {i : ℕ} {x y : Wire} {a w w' : Level} →
      WireOf τ N (app M1 M2) i (ofM x w) y w' → occurs y (subst_for i N M1) ≡ true →
      w' ≡ left (subst_for i N M2) y a → (a1 : Level) × WireOf τ N M1 i (ofM x a1) y a × (w ≡ left M2 x a1)
  left_m {N} {M1} {M2} {i} {x} {y} {a}
      (same e f h) m q = (a, same e f (sym (occurs_same M1 N i x y e f) ∙ m), q ∙ left_same M2 N i x y a e f)
  left_m {N} {M1} {M2} {i} {x} {y} {a}
      (fun_m {a = a1} {a' = b} r e e') m q = (
        a1,
        subst (λ b. WireOf τ N M1 i (ofM x a1) y b) (left_one (subst_for i N M2) y b a (sym e' ∙ q)) r,
        e,
      )
  left_m {N} {M1} {M2} {i} {x} {y} {a} (arg_m {a' = b} v r e e') m q = absurd
      (sides_apart (subst_for i N M1) (subst_for i N M2) y a b v m (occurs_new r) q e')

  pub left_n : {N M1 M2 : Tree} {i : ℕ} {x y : Wire} {a b w w' : Level} →
      WireOf τ N (app M1 M2) i (ofN w x b) y w' → occurs y (subst_for i N M1) ≡ true →
      w' ≡ left (subst_for i N M2) y a → (u : Level) × WireOf τ N M1 i (ofN u x b) y a × (w ≡ left M2 (bound i) u)
  left_n {N} {M1} {M2} {i} {x} {y} {a} {b}
      (fun_n {u = u} {a' = a'} r e e') m q = (
        u,
        subst (λ a. WireOf τ N M1 i (ofN u x b) y a) (left_one (subst_for i N M2) y a' a (sym e' ∙ q)) r,
        e,
      )
  left_n {N} {M1} {M2} {i} {x} {y} {a} (arg_n {a' = a'} v r e e') m q = absurd
      (sides_apart (subst_for i N M1) (subst_for i N M2) y a a' v m (occurs_new r) q e')

  pub right_m : {N M1 M2 : Tree} {i : ℕ} {x y : Wire} {a w w' : Level} (v : Level) →
      WireOf τ N (app M1 M2) i (ofM x w) y w' → occurs y (subst_for i N M2) ≡ true →
      IsRight τ (subst_for i N M1) (subst_for i N M2) y a v w' →
      (a1 : Level) × WireOf τ N M2 i (ofM x a1) y a × IsRight τ M1 M2 x a1 v w
  right_m {N} {M1} {M2} {i} {x} {y} {a} v (same e f h) m q =
      let k : occurs x M2 ≡ true = sym (occurs_same M2 N i x y e f) ∙ m in
      (a, same e f k, right_like M1 M2 x (sym (occurs_same M1 N i x y e f)) (sym (bare_same τ M2 N i x y e k)) q)
  right_m {N} {M1} {M2} {i} {x} {y} {a} v (fun_m {a' = b} r e e') m q = absurd
      (sides_apart (subst_for i N M1) (subst_for i N M2) y b a v (occurs_new r) m e' q)
  right_m {N} {M1} {M2} {i} {x} {y} {a} {w} v (arg_m {a = a1} {a' = b} v1 r e e') m q =
      let k = right_one e' q refl in
      (a1, subst (λ b. WireOf τ N M2 i (ofM x a1) y b) k.0 r, subst (λ v. IsRight τ M1 M2 x a1 v w) k.1 e)

  pub right_n : {N M1 M2 : Tree} {i : ℕ} {x y : Wire} {a b w w' : Level} (v : Level) →
      WireOf τ N (app M1 M2) i (ofN w x b) y w' → occurs y (subst_for i N M2) ≡ true →
      IsRight τ (subst_for i N M1) (subst_for i N M2) y a v w' →
      (u : Level) × WireOf τ N M2 i (ofN u x b) y a × IsRight τ M1 M2 (bound i) u v w
  right_n {N} {M1} {M2} {i} {x} {y} {a} v (fun_n {a' = a'} r e e') m q = absurd
      (sides_apart (subst_for i N M1) (subst_for i N M2) y a' a v (occurs_new r) m e' q)
  right_n {N} {M1} {M2} {i} {x} {y} {a} {b} {w} v (arg_n {u = u} {a' = a'} v1 r e e') m q =
      let k = right_one e' q refl in
      (u, subst (λ a. WireOf τ N M2 i (ofN u x b) y a) k.0 r, subst (λ v. IsRight τ M1 M2 (bound i) u v w) k.1 e)

  left_on : (N M1 M2 : Tree) (i : ℕ) (c : Cut) (y : Wire) (a w : Level) (k : Context) →
      occurs y (subst_for i N M1) ≡ true → w ≡ left (subst_for i N M2) y a →
      Held τ N (app M1 M2) i c (at (wire y) w k) → From τ N (app M1 M2) i c (fun (at (wire y) a k)) 0
  left_on N M1 M2 i c y a w k m e h = let t = held_wire h
      (or_left (occurs y (subst_for i N M1)) (occurs y (subst_for i N M2)) m) in go t.cut t.tagged t.trail
    where
      go : (b : Cut) → Tagged τ N (app M1 M2) i y w k b → Trail (CutEdge τ N (app M1 M2) i) c b 0 →
          From τ N (app M1 M2) i c (fun (at (wire y) a k)) 0
      go b (tag_m {y = x} r) t = let s = left_m r m e in
          record {
            cut = inM (fun (at (wire x) s.0 k));
            held = p_fun (wire_m s.1);
            trail = tr_trans t (one (of_m (app_left (occurs_old s.1) s.2))) (omega arith);
          }
      go b (tag_n {w = u} {b = l} {x = x} r) t = let s = left_n r m e in
          record { cut = inN u (at (wire x) l k); held = n_fun (wire_n s.1) s.2; trail = t }

  left_off : (N M1 M2 : Tree) (i : ℕ) (c : Cut) (y : Wire) (a w : Level) (k : Context) →
      occurs y (subst_for i N M1) ≡ true → w ≡ left (subst_for i N M2) y a →
      Held τ N (app M1 M2) i c (fun (at (wire y) a k)) → From τ N (app M1 M2) i c (at (wire y) w k) 0
  left_off N M1 M2 i c y a w k m e h = let p = of_fun h in let t = held_wire p.held m in
      go p.cut t.cut p.trail t.tagged t.trail
    where
      go : (b b' : Cut) → Trail (CutEdge τ N (app M1 M2) i) c (up_fun M2 i b) 0 →
          Tagged τ N M1 i y a k b' → Trail (CutEdge τ N M1 i) b b' 0 → From τ N (app M1 M2) i c (at (wire y) w k) 0
      go b b' t (tag_m {y = x} {a = a1} r) z = record {
        cut = inM (at (wire x) (left M2 x a1) k);
        held = wire_m (fun_m r refl e);
        trail = tr_trans (tr_trans t (fun_trail z) refl)
            (one_back (of_m (app_left (occurs_old r) refl))) (omega arith);
      }
      go b b' t (tag_n {w = u} {b = l} {x = x} r) z = record {
        cut = inN (left M2 (bound i) u)
            (at (wire x) l k);
        held = wire_n (fun_n r refl e);
        trail = tr_trans t (fun_trail z) (omega arith);
      }

  right_on : (N M1 M2 : Tree) (i : ℕ) (c : Cut) (y : Wire) (a v w : Level) (k : Context) →
      occurs y (subst_for i N M2) ≡ true → IsRight τ (subst_for i N M1) (subst_for i N M2) y a v w →
      Held τ N (app M1 M2) i c (at (wire y) w k) → From τ N (app M1 M2) i c (arg v (at (wire y) a k)) 0
  right_on N M1 M2 i c y a v w k m e h = let t = held_wire h
      (or_right (occurs y (subst_for i N M1)) (occurs y (subst_for i N M2)) m) in go t.cut t.tagged t.trail
    where
      go : (b : Cut) → Tagged τ N (app M1 M2) i y w k b → Trail (CutEdge τ N (app M1 M2) i) c b 0 →
          From τ N (app M1 M2) i c (arg v (at (wire y) a k)) 0
      go b (tag_m {y = x} r) t = let s = right_m v r m e in
          record {
            cut = inM (arg v (at (wire x) s.0 k));
            held = p_arg (wire_m s.1);
            trail = tr_trans t (one (of_m (app_right (occurs_old s.1) s.2))) (omega arith);
          }
      go b (tag_n {w = u} {b = l} {x = x} r) t = let s = right_n v r m e in
          record { cut = inN u (at (wire x) l k); held = n_arg (wire_n s.1) s.2; trail = t }

  right_off : (N M1 M2 : Tree) (i : ℕ) (c : Cut) (y : Wire) (a v w : Level) (k : Context) →
      occurs y (subst_for i N M2) ≡ true → IsRight τ (subst_for i N M1) (subst_for i N M2) y a v w →
      Held τ N (app M1 M2) i c (arg v (at (wire y) a k)) → From τ N (app M1 M2) i c (at (wire y) w k) 0
  right_off N M1 M2 i c y a v w k m e h = let p = of_arg h in let t = held_wire p.held m in
      go p.cut t.cut (held_fine p.held) p.trail t.tagged t.trail
    where
      go : (b b' : Cut) → IsFine τ M2 i b →
          Trail (CutEdge τ N (app M1 M2) i) c (up_arg τ M1 M2 i v b) 0 → Tagged τ N M2 i y a k b' →
          Trail (CutEdge τ N M2 i) b b' 0 → From τ N (app M1 M2) i c (at (wire y) w k) 0
      go b b' f t (tag_m {y = x} {a = a1} r) z =
          let g : IsRight τ M1 M2 x a1 v (right τ M1 M2 x a1 v) = record
          { level = level_old M2 r e.level; is = refl } in
          record {
            cut = inM (at (wire x) (right τ M1 M2 x a1 v) k);
            held = wire_m (arg_m v r g e);
            trail = tr_trans (tr_trans t (arg_trail v z f) refl)
                (one_back (of_m (app_right (occurs_old r) g))) (omega arith);
          }
      go b b' f t (tag_n {w = u} {b = l} {x = x} r) z =
          record {
            cut = inN (right τ M1 M2 (bound i) u v) (at (wire x) l k);
            held = wire_n (arg_n v r (record { level = level_own r; is = refl }) e);
            trail = tr_trans t (arg_trail v z f) (omega arith);
          }

  -- ---- an edge of the new term, either way

  pub back_on : (M : Tree) {N : Tree} {i : ℕ} {c : Cut} {z z' : Spot} {n : ℕ} →
      Edge τ (subst_for i N M) z z' n → Held τ N M i c z → From τ N M i c z' n
  back_on (var y) {N} {i} {c} {z} {z'} {n} e h = go (without i y) refl e
    where
      go : (r : Option ℕ) → without i y ≡ r → Edge τ (put i N r) z z' n → From τ N (var y) i c z' n
      go None q e = copy_on N i y c z z' n q e h
      go (Some x) q e = var_on N i y x c z z' n q e h
  back_on (free f) (free_wire {d = d} e) h = record {
    cut = inM (at (wire (name f)) empty d);
    held = wire_m named;
    trail = tr_trans (held_root h) (one (of_m (free_wire e))) (omega arith);
  }
  back_on (lam M) (lam_root {v = v} {c = k}) h = record {
    cut = inM (body (at root v k));
    held = p_body at_root;
    trail = tr_trans (held_root h) (one (of_m lam_root)) (omega arith);
  }
  back_on (lam M) {N} {i} {c} (lam_own {a = a} {c = k} m) h = lam_own_on N M i c a k m h
  back_on (lam M) {N} {i} {c} (lam_wire {y = y} {z = u} {a = a} {c = k} e m) h = lam_wire_on N M i c y u a k e m h
  back_on (lam M) (in_body e) h = let p = of_body h in let r = back_on M e p.held in
      record {
        cut = up_body r.cut;
        held = body_held r.cut r.held;
        trail = tr_trans p.trail (body_trail r.trail) (omega arith);
      }
  back_on (app M1 M2) (app_root {v = v} {c = k}) h = record {
    cut = inM (fun (at root (o v) k));
    held = p_fun at_root;
    trail = tr_trans (held_root h) (one (of_m app_root)) (omega arith);
  }
  back_on (app M1 M2) (app_arg {v = v} {u = u} {c = k} {d = d} e) h =
      let p = of_fun h in record {
        cut = inM (arg v (at root u d));
        held = p_arg at_root;
        trail = tr_trans (tr_trans p.trail (fun_trail (held_root p.held)) refl)
            (one (of_m (app_arg e))) (omega arith);
      }
  back_on (app M1 M2) {N} {i} {c} (app_left {y = y} {a = a} {w = w} {c = k} m e) h = left_on N M1 M2 i c y a w k m e h
  back_on (app M1 M2) {N} {i} {c} (app_right {y = y} {b = a} {v = v} {w = w} {c = k} m e)
      h = right_on N M1 M2 i c y a v w k m e h
  back_on (app M1 M2) {i = i} (in_fun e) h = let p = of_fun h in let r = back_on M1 e p.held in
      record {
        cut = up_fun M2 i r.cut;
        held = fun_held r.cut r.held;
        trail = tr_trans p.trail (fun_trail r.trail) (omega arith);
      }
  back_on (app M1 M2) {i = i} (in_arg {v = v} e) h = let p = of_arg h in
      let r = back_on M2 e p.held in record {
        cut = up_arg τ M1 M2 i v r.cut;
        held = arg_held v r.cut r.held;
        trail = tr_trans p.trail (arg_trail v r.trail (held_fine p.held)) (omega arith);
      }

  pub back_off : (M : Tree) {N : Tree} {i : ℕ} {c : Cut} {z z' : Spot} {n : ℕ} →
      Edge τ (subst_for i N M) z' z n → Held τ N M i c z → From τ N M i c z' n
  back_off (var y) {N} {i} {c} {z} {z'} {n} e h = go (without i y) refl e
    where
      go : (r : Option ℕ) → without i y ≡ r → Edge τ (put i N r) z' z n → From τ N (var y) i c z' n
      go None q e = copy_off N i y c z z' n q e h
      go (Some x) q e = var_off N i y x c z z' n q e h
  back_off (free f) {N} {i} {c} {z} {z'} {n} e h = free_off N i f c z z' n e h
  back_off (lam M) (lam_root {v = v} {c = k}) h = let p = of_body h in
      record {
        cut = inM (at root (o v) k);
        held = at_root;
        trail = tr_trans (tr_trans p.trail (body_trail (held_root p.held)) refl)
            (one_back (of_m lam_root)) (omega arith);
      }
  back_off (lam M) {N} {i} {c} (lam_own {a = a} {c = k} m) h = lam_own_off N M i c a k m h
  back_off (lam M) {N} {i} {c} (lam_wire {y = y} {z = u} {a = a} {c = k} e m) h = lam_wire_off N M i c y u a k e m h
  back_off (lam M) (in_body e) h = let p = of_body h in let r = back_off M e p.held in
      record {
        cut = up_body r.cut;
        held = body_held r.cut r.held;
        trail = tr_trans p.trail (body_trail r.trail) (omega arith);
      }
  back_off (app M1 M2) (app_root {v = v} {c = k}) h = let p = of_fun h in
      record {
        cut = inM (at root v k);
        held = at_root;
        trail = tr_trans (tr_trans p.trail (fun_trail (held_root p.held)) refl) (one_back (of_m app_root)) (omega arith);
      }
  back_off (app M1 M2) (app_arg {v = v} {u = u} {c = k} {d = d} e) h =
      let p = of_arg h in record {
        cut = inM (fun (at root (star v) k));
        held = p_fun at_root;
        trail = tr_trans (tr_trans p.trail (arg_trail v (held_root p.held)
            (held_fine p.held)) refl) (one_back (of_m (app_arg e))) (omega arith);
      }
  back_off (app M1 M2) {N} {i} {c} (app_left {y = y} {a = a} {w = w} {c = k} m e) h = left_off N M1 M2 i c y a w k m e h
  back_off (app M1 M2) {N} {i} {c} (app_right {y = y} {b = a} {v = v} {w = w} {c = k} m e)
      h = right_off N M1 M2 i c y a v w k m e h
  back_off (app M1 M2) {i = i} (in_fun e) h = let p = of_fun h in let r = back_off M1 e p.held in
      record {
        cut = up_fun M2 i r.cut;
        held = fun_held r.cut r.held;
        trail = tr_trans p.trail (fun_trail r.trail) (omega arith);
      }
  back_off (app M1 M2) {i = i} (in_arg {v = v} e) h = let p = of_arg h in
      let r = back_off M2 e p.held in record {
        cut = up_arg τ M1 M2 i v r.cut;
        held = arg_held v r.cut r.held;
        trail = tr_trans p.trail (arg_trail v r.trail (held_fine p.held)) (omega arith);
      }
