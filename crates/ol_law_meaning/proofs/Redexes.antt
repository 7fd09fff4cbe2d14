-- A redex against its cut.
use Rattle.std.proofs.Common.{◌≡◌, ℕ, ◌+◌, ◌≤◌, true, refl, sym, ◌∙◌, subst, arith}
use Rattle.ol_law_meaning.specs.Contraction.{Tree, lam, app, Level, bound, root, wire, Spot, at, body, fun}
use Rattle.ol_law_meaning.specs.Contraction.{arg, Edge, lam_root, lam_own, lam_wire, app_root, app_arg}
use Rattle.ol_law_meaning.specs.Contraction.{app_left, app_right, in_body, in_fun, in_arg, Trail, here, on}
use Rattle.ol_law_meaning.specs.Contraction.{occurs, Cut, inM, inN, CutEdge, of_m, of_n, joint, Opens, in_m}
use Rattle.ol_law_meaning.specs.Contraction.{in_n, lam_top, lam_var, lam_side, top, side_m, side_n, IsSpotOf}
use Rattle.ol_law_meaning.proofs.Trails.{tr_trans, one, one_back}
use Rattle.ol_law_meaning.proofs.Addresses.{left_one, right_one, sides_apart, spot_from, spot_to}
use Rattle.ol_term.specs.declared.translations.Translation.{Translation}

-- what follows an edge, of no more weight
pub record Light {V W : Type 0} (F : W → W → ℕ → Type 0) (R : V → W → Type 0) (s : V) (z : W) (n : ℕ) : Type 0 where
  pub spot : W
  pub rel : R s spot
  pub weight : ℕ
  pub few : weight ≤ n
  pub trail : Trail F z spot weight

module _ (τ : Translation) (N M : Tree) where
  stays : {s : Spot} {z : Cut} {n : ℕ} → Opens τ N M s z → Light (CutEdge τ N M 0) (Opens τ N M) s z n
  stays r = record { spot = _; rel = r; weight = 0; few = omega arith; trail = here }

  moves : {s : Spot} {z z' : Cut} {n : ℕ} → Opens τ N M s z' → CutEdge τ N M 0 z z' n →
      Light (CutEdge τ N M 0) (Opens τ N M) s z n
  moves r e = record { spot = _; rel = r; weight = _; few = omega arith; trail = one e }

  moves_back : {s : Spot} {z z' : Cut} {n : ℕ} → Opens τ N M s z' → CutEdge τ N M 0 z' z n →
      Light (CutEdge τ N M 0) (Opens τ N M) s z n
  moves_back r e = record { spot = _; rel = r; weight = _; few = omega arith; trail = one_back e }

  lam_there : {s s' : Spot} {z : Cut} {n : ℕ} → Edge τ (lam M) s s' n → Opens τ N M (fun s) z →
      Light (CutEdge τ N M 0) (Opens τ N M) (fun s') z n
  lam_there lam_root lam_top = stays in_m
  lam_there (lam_own m) (lam_var m') = stays in_m
  lam_there {z = z} (lam_wire {y = y} {z = u} {a = a} {c = c} e m) (lam_side {z = x} q k) =
      subst (λ x. Light (CutEdge τ N M 0) (Opens τ N M) (fun (body (at (wire u) a c)))
      (inM (at (wire x) a c)) 0) (e ∙ sym q) (stays in_m)
  lam_there (in_body e) in_m = moves in_m (of_m e)

  lam_back : {s s' : Spot} {z : Cut} {n : ℕ} → Edge τ (lam M) s' s n → Opens τ N M (fun s) z →
      Light (CutEdge τ N M 0) (Opens τ N M) (fun s') z n
  lam_back lam_root in_m = stays lam_top
  lam_back (lam_own m) in_m = stays (lam_var m)
  lam_back (lam_wire e m) in_m = stays (lam_side e m)
  lam_back (in_body e) in_m = moves_back in_m (of_m e)

  pub opens_there : {s s' : Spot} {z : Cut} {n : ℕ} → Edge τ (app (lam M) N) s s' n →
      Opens τ N M s z → Light (CutEdge τ N M 0) (Opens τ N M) s' z n
  opens_there app_root top = stays lam_top
  opens_there (app_arg {v = v} {u = u} {d = d} e)
      (lam_var m) = record {
        spot = inN v (at root u d);
        rel = in_n m tt;
        weight = 0;
        few = omega arith;
        trail = one (joint refl m e);
      }
  opens_there (app_left {y = y} {a = a} {c = c} m e) (side_m {z = z} {a = b} q k e') =
      subst (λ b. Light (CutEdge τ N M 0) (Opens τ N M) (fun (at (wire y) a c))
      (inM (at (wire z) b c)) 0) (left_one N y a b (sym e ∙ e')) (stays (lam_side q k))
  opens_there (app_left {y = y} {a = a} m e) (side_n {b = b} {v = v} k k' e') = absurd
      (sides_apart (lam M) N y a b v m k' e e')
  opens_there (app_right {y = y} {b = b} {v = v} m e) (side_m {a = a} q k e') = absurd
      (sides_apart (lam M) N y a b v (subst (λ z. occurs z M ≡ true) q k) m e' e)
  opens_there (app_right {y = y} {b = b} {v = v} {c = c} m e) (side_n {b = b'} {v = v'} k k' e') =
      let p = right_one e e' refl in
      subst (λ b'. Light (CutEdge τ N M 0) (Opens τ N M) (arg v (at (wire y) b c)) (inN v' (at (wire y) b' c)) 0) p.0
      (subst (λ v'. Light (CutEdge τ N M 0) (Opens τ N M) (arg v (at (wire y) b c))
      (inN v' (at (wire y) b c)) 0) p.1 (stays (in_n k e.level)))
  opens_there (in_fun e) r = lam_there e r
  opens_there (in_arg e) (in_n k f) = moves (in_n k (spot_to e)) (of_n e)

  pub opens_back : {s s' : Spot} {z : Cut} {n : ℕ} → Edge τ (app (lam M) N) s' s n →
      Opens τ N M s z → Light (CutEdge τ N M 0) (Opens τ N M) s' z n
  opens_back app_root lam_top = stays top
  opens_back (app_arg {v = v} {c = c} e)
      (in_n k f) = record {
        spot = inM (at (wire (bound 0)) v c);
        rel = lam_var k;
        weight = 0;
        few = omega arith;
        trail = one_back (joint refl k e);
      }
  opens_back (app_left m e) (lam_side q k) = stays (side_m q k e)
  opens_back (app_right m e) (in_n k f) = stays (side_n k m e)
  opens_back (in_fun e) r = lam_back e r
  opens_back (in_arg e) (in_n k f) = moves_back (in_n k (spot_from e)) (of_n e)

  -- ---- from the cut to the redex, of any weight

  pub record To (z : Cut) (s : Spot) : Type 0 where
    pub spot : Spot
    pub rel : Opens τ N M spot z
    pub weight : ℕ
    pub trail : Trail (Edge τ (app (lam M) N)) s spot weight

  pub record Deep (s z : Spot) : Type 0 where
    pub weight : ℕ
    pub trail : Trail (Edge τ (app (lam M) N)) s z weight

  pub deep_m : {s s0 : Spot} → Opens τ N M s (inM s0) → Deep s (fun (body s0))
  deep_m in_m = record { weight = 0; trail = here }
  deep_m lam_top = record { weight = 0; trail = one (in_fun lam_root) }
  deep_m (lam_var m) = record { weight = 0; trail = one (in_fun (lam_own m)) }
  deep_m (lam_side q k) = record { weight = 0; trail = one (in_fun (lam_wire q k)) }
  deep_m top = record { weight = 1; trail = on app_root (one (in_fun lam_root)) refl }
  deep_m (side_m {y = y} q k e) = record {
    weight = 0;
    trail = on (app_left (subst (λ z. occurs z M ≡ true) q k) e) (one (in_fun (lam_wire q k))) refl;
  }

  pub deep_n : {w : Level} {s s0 : Spot} → Opens τ N M s (inN w s0) →
      Deep s (arg w s0) × (occurs (bound 0) M ≡ true) × IsSpotOf τ N s0
  deep_n (in_n k f) = (record { weight = 0; trail = here }, k, f)
  deep_n (side_n k m e) = (record { weight = 0; trail = one (app_right m e) }, k, e.level)

  pub closes : {s : Spot} {z z' : Cut} {n : ℕ} → CutEdge τ N M 0 z z' n → Opens τ N M s z → To z' s
  closes (of_m {s' = s'} e) r = let d = deep_m r in
      record { spot = fun (body s'); rel = in_m; weight = _; trail = tr_trans d.trail (one (in_fun (in_body e))) refl }
  closes (of_n {a = a} {s' = s'} e) r = let d = deep_n r in
      record {
        spot = arg a s';
        rel = in_n d.1 (spot_to e);
        weight = _;
        trail = tr_trans d.0.trail (one (in_arg e)) refl;
      }
  closes {s} (joint {x = x} {a = a} {u = u} {c = c} {d = k} p m e) r =
      let d = deep_m r in
      let m' : occurs (bound 0) M ≡ true = subst (λ x. occurs x M ≡ true) p m in
      let t : Trail (Edge τ (app (lam M) N)) s
      (fun (body (at (wire (bound 0)) a c))) d.weight = subst
      (λ x. Trail (Edge τ (app (lam M) N)) s (fun (body (at (wire x) a c))) d.weight) p d.trail in
      record {
        spot = arg a (at root u k);
        rel = in_n m' tt;
        weight = _;
        trail = tr_trans (tr_trans t (one_back (in_fun (lam_own m'))) refl) (one (app_arg e)) refl;
      }

  pub closes_back : {s : Spot} {z z' : Cut} {n : ℕ} → CutEdge τ N M 0 z' z n → Opens τ N M s z → To z' s
  closes_back (of_m {s = s'} e) r = let d = deep_m r in
      record {
        spot = fun (body s');
        rel = in_m;
        weight = _;
        trail = tr_trans d.trail (one_back (in_fun (in_body e))) refl;
      }
  closes_back (of_n {a = a} {s = s'} e) r = let d = deep_n r in
      record {
        spot = arg a s';
        rel = in_n d.1 (spot_from e);
        weight = _;
        trail = tr_trans d.0.trail (one_back (in_arg e)) refl;
      }
  closes_back {s} (joint {x = x} {a = a} {u = u} {c = c} {d = k} p m e) r =
      let d = deep_n r in
      record {
        spot = fun (body (at (wire x) a c));
        rel = in_m;
        weight = d.0.weight + 1 + 0;
        trail = subst (λ x. Trail (Edge τ (app (lam M) N)) s (fun (body (at (wire x) a c)))
            (d.0.weight + 1 + 0)) (sym p) (tr_trans (tr_trans d.0.trail (one_back (app_arg e)) refl)
            (one (in_fun (lam_own d.1))) refl);
      }
