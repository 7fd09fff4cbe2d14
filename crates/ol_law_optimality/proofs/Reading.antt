-- From the cut of a redex to the labelled term with N put in: what is read along the edges.
use Rattle.std.proofs.Common.{◌≡◌, ℕ, suc, true, [], ◌∷◌, Option, Some, None, refl, sym, ap, ◌∙◌, subst, ◌⊎◌, inl, inr}
use Rattle.ol_law_meaning.specs.Contraction.{var, Level, empty, o, star, Context, cons, Wire, bound, name, under, root}
use Rattle.ol_law_meaning.specs.Contraction.{wire, Spot, at, body, fun, arg, Edge, var_wire, free_wire, lam_root}
use Rattle.ol_law_meaning.specs.Contraction.{lam_own, lam_wire, app_root, app_arg, app_left, app_right, in_body, in_fun}
use Rattle.ol_law_meaning.specs.Contraction.{in_arg, occurs, left, right, lift, lifted, lifted_wire, without, wire_of}
use Rattle.ol_law_meaning.specs.Contraction.{wire_without, put, subst_for, Cut, inM, inN, ofM, ofN, WireOf, other}
use Rattle.ol_law_meaning.specs.Contraction.{named, own, lam_m, lam_n, fun_m, fun_n, arg_m, arg_n, Held, at_root}
use Rattle.ol_law_meaning.specs.Contraction.{wire_m, wire_n, x_spot, x_wire, p_body, p_fun, p_arg, n_body, n_fun, n_arg}
use Rattle.ol_law_meaning.specs.Contraction.{i_body, i_fun, i_arg, IsRight}
use Rattle.ol_law_meaning.proofs.Addresses.{without_is, without_own, left_one, right_one, sides_apart, occurs_new}
use Rattle.ol_law_meaning.proofs.Addresses.{own_occurs, in_body_of, in_left_of, in_right_of, own_same, zero_keeps}
use Rattle.ol_law_meaning.proofs.Addresses.{without_under, wire_some, which, var_level, free_level, level_new}
use Rattle.ol_law_meaning.proofs.Copying.{Copies, copy, copy_body, copy_fun, copy_arg, copy_exists, copies_held}
use Rattle.ol_law_meaning.proofs.Copying.{copies_occur}
use Rattle.ol_law_meaning.proofs.Lifts.{lift_keeps}
use Rattle.ol_law_meaning.proofs.There.{held_joint, by_wire, root_is, in_body_held, in_fun_held, in_arg_held, own_left}
use Rattle.ol_law_meaning.proofs.There.{own_right, own_body}
use Rattle.ol_law_optimality.specs.Labels.{Label, Labelled, erased, before}
use Rattle.ol_law_optimality.specs.Labels as labels
use Rattle.ol_term.specs.declared.translations.Translation.{Translation}
use Rattle.ol_law_optimality.specs.Signs.{Signs, signs_of, reversed, onward, backward, begins_under}
use Rattle.ol_law_optimality.specs.Readings.{label_of, reading, from_lam, from_app, from_fun, Acting, moved}
use Rattle.ol_law_optimality.proofs.Motions.{Motion, by, still, then_by, Walks, stay, along_edge, back_edge, and_on}
use Rattle.ol_law_optimality.proofs.Motions.{in_the_body, in_the_fun, in_the_arg, turned_still, flip}
use Rattle.ol_law_optimality.proofs.Gaps.{hole, at_top, gap, cut_gap, put_label, sub, under_hole, body_reads}
use Rattle.ol_law_optimality.proofs.Gaps.{function_reads, argument_reads, reading_lifted, reading_before}

-- the wire of variable i itself
pub own_hole : (C : Labelled) (i : ℕ) → hole C (wire_without i (bound i)) ≡ signs_of (label_of C)
own_hole C i = ap (λ q. hole C (wire_of q)) (without_own i)

module _ (τ : Translation) (N : Labelled) (l : Label) where
  -- what is put in
  abbrev C : Labelled
  C = before l N

  -- the term with N put in
  abbrev pub W : (M : Labelled) → ℕ → Spot → Spot → Motion → Type 0
  W M i = Walks τ (subst_for i (erased N) (erased M)) (sub C i M)

  abbrev pub H : (M : Labelled) → ℕ → Cut → Spot → Type 0
  H M i = Held τ (erased N) (erased M) i

  -- ---- copies

  pub record Copied (M : Labelled) (i : ℕ) (w : Level) (s s' z : Spot) : Type 0 where
    pub spot : Spot
    pub copies : Copies τ (erased N) (erased M) i w s' spot
    pub there : (n : ℕ) → Edge τ (erased N) s s' n → Edge τ (subst_for i (erased N) (erased M)) z spot n
    pub from : (n : ℕ) → Edge τ (erased N) s' s n → Edge τ (subst_for i (erased N) (erased M)) spot z n
    pub reads : reading (sub C i M) z spot ≡ reading N s s'
    pub reads_back : reading (sub C i M) spot z ≡ reading N s' s

  copied_var : (y i : ℕ) (w : Label) (s s' z : Spot) → without i y ≡ None → z ≡ lifted 0 i s → Copied (labels.var y w) i empty s s' z
  copied_var y i w s s' z e q = record {
    spot = lifted 0 i s';
    copies = copy e refl;
    there = λ n h. subst (λ r. Edge τ (put i (erased N) r) z (lifted 0 i s') n) (sym e) (subst (λ z. Edge τ (lift 0 i (erased N)) z (lifted 0 i s') n) (sym q) (lift_keeps (erased N) 0 i s s' n h));
    from = λ n h. subst (λ r. Edge τ (put i (erased N) r) (lifted 0 i s') z n) (sym e) (subst (λ z. Edge τ (lift 0 i (erased N)) (lifted 0 i s') z n) (sym q) (lift_keeps (erased N) 0 i s' s n h));
    reads = ap (λ r. reading (put_label w C (labels.var y w) r) z (lifted 0 i s')) e
        ∙ ap (λ z. reading (before w C) z (lifted 0 i s')) q ∙ reading_before w C (lifted 0 i s) (lifted 0 i s')
        ∙ reading_before l N (lifted 0 i s) (lifted 0 i s') ∙ reading_lifted N 0 i s s';
    reads_back = ap (λ r. reading (put_label w C (labels.var y w) r) (lifted 0 i s') z) e
        ∙ ap (λ z. reading (before w C) (lifted 0 i s') z) q ∙ reading_before w C (lifted 0 i s') (lifted 0 i s)
        ∙ reading_before l N (lifted 0 i s') (lifted 0 i s) ∙ reading_lifted N 0 i s' s;
  }

  copied : (M : Labelled) {i : ℕ} {w : Level} {s z : Spot} → Copies τ (erased N) (erased M) i w s z → (s' : Spot) → Copied M i w s s' z
  copied (labels.var y w) {i} {s = s} {z = z} (copy e q) s' = copied_var y i w s s' z e q
  copied (labels.free f w) k s' = elim k [ ]
  copied (labels.lam b w) (copy_body k) s' =
      let r = copied b k s' in
      record { spot = body r.spot; copies = copy_body r.copies; there = λ n h. in_body (r.there n h); from = λ n h. in_body (r.from n h); reads = r.reads; reads_back = r.reads_back }
  copied (labels.app f a w) (copy_fun k e) s' =
      let r = copied f k s' in
      record { spot = fun r.spot; copies = copy_fun r.copies e; there = λ n h. in_fun (r.there n h); from = λ n h. in_fun (r.from n h); reads = r.reads; reads_back = r.reads_back }
  copied (labels.app f a w) (copy_arg {v = v} k e) s' =
      let r = copied a k s' in
      record { spot = arg v r.spot; copies = copy_arg r.copies e; there = λ n h. in_arg (r.there n h); from = λ n h. in_arg (r.from n h); reads = r.reads; reads_back = r.reads_back }

  pub copy_out : (M : Labelled) {i : ℕ} {x z : Wire} {w b a' : Level} {c : Context} {z0 : Spot} → WireOf τ (erased N) (erased M) i (ofN w x b) z a' → Copies τ (erased N) (erased M) i w (at (wire x) b c) z0 →
      W M i z0 (at (wire z) a' c) still
  copy_out (labels.var y w) {i} {c = c} {z0 = z0} (own {x = x} {z = z} {b = b} e h q) (copy e2 q2) =
      subst (λ s. W (labels.var y w) i s (at (wire z) b c) still) (sym q2) (subst (λ r. W (labels.var y w) i (at (wire (lifted_wire 0 i x)) b c) (at (wire r) b c) still) (sym q) stay)
  copy_out (labels.free f w) r k = elim k [ ]
  copy_out (labels.lam b w) (lam_n r) (copy_body k) = and_on (in_the_body w (copy_out b r k)) (back_edge (lam_wire refl (occurs_new r)))
  copy_out (labels.app f g t) {x = x} {b = b} {c = c} (fun_n {M1 = M1} {M2 = M2} {i = i} {u = u} r e e') (copy_fun {u = u2} {z = z1} k e2) =
      let q : u2 ≡ u = left_one M2 (bound i) u2 u (sym e2 ∙ e) in
      and_on (in_the_fun t (copy_out f r (subst (λ u. Copies τ (erased N) M1 i u (at (wire x) b c) z1) q k))) (back_edge (app_left (occurs_new r) e'))
  copy_out (labels.app f g t) (fun_n {M1 = M1} {M2 = M2} {i = i} {u = u} r e e') (copy_arg {u = u2} {v = v2} k e2) =
      absurd (sides_apart M1 M2 (bound i) u u2 v2 (own_occurs r) (copies_occur k) e e2)
  copy_out (labels.app f g t) (arg_n {M1 = M1} {M2 = M2} {i = i} {u = u} v r e e') (copy_fun {u = u2} k e2) =
      absurd (sides_apart M1 M2 (bound i) u2 u v (copies_occur k) (own_occurs r) e2 e)
  copy_out (labels.app f g t) {x = x} {z = z} {b = b} {a' = w'} {c = c} (arg_n {M1 = M1} {M2 = M2} {i = i} {u = u} {a' = a'} v r e e') (copy_arg {u = u2} {v = v2} {z = z1} k e2) =
      let q = right_one e2 e refl in
      and_on (in_the_arg t v2 (copy_out g r (subst (λ u. Copies τ (erased N) M2 i u (at (wire x) b c) z1) q.0 k)))
      (back_edge (app_right (occurs_new r) (subst (λ v. IsRight τ (subst_for i (erased N) M1) (subst_for i (erased N) M2) z a' v w') (sym q.1) e')))

  abbrev pub Found : (M : Labelled) → ℕ → Level → Spot → Spot → Type 0
  Found M i w s z = (z0 : Spot) × Copies τ (erased N) (erased M) i w s z0 × W M i z0 z still

  by_address : (M : Labelled) {i : ℕ} {w b a' : Level} {x z : Wire} {c : Context} → WireOf τ (erased N) (erased M) i (ofN w x b) z a' → Found M i w (at (wire x) b c) (at (wire z) a' c)
  by_address M {b = b} {x = x} {c = c} r = let t = copy_exists r (at (wire x) b c) in (t.0, t.1, copy_out M r t.1)

  pub held_copy : (M : Labelled) {i : ℕ} {w : Level} {s z : Spot} → Held τ (erased N) (erased M) i (inN w s) z → Found M i w s z
  held_copy (labels.var y t) (wire_n r) = by_address (labels.var y t) r
  held_copy (labels.var y t) {z = z} (x_spot e q) = (z, copy e q, stay)
  held_copy (labels.free y t) (wire_n r) = by_address (labels.free y t) r
  held_copy (labels.lam b t) (wire_n r) = by_address (labels.lam b t) r
  held_copy (labels.lam b w) (n_body r) = let t = held_copy b r in (body t.0, copy_body t.1, in_the_body w t.2)
  held_copy (labels.app f a t) (wire_n r) = by_address (labels.app f a t) r
  held_copy (labels.app f a w) (n_fun r e) = let t = held_copy f r in (fun t.0, copy_fun t.1 e, in_the_fun w t.2)
  held_copy (labels.app f a w) (n_arg {v = v} r e) = let t = held_copy a r in (arg v t.0, copy_arg t.1 e, in_the_arg w v t.2)

  -- ---- what follows an edge

  -- from a spot with this gap, where a is read along the edge
  pub record Onto (M : Labelled) (i : ℕ) (g : Signs) (c : Cut) (z : Spot) (a : Signs) : Type 0 where
    pub spot : Spot
    pub held : H M i c spot
    pub motion : Motion
    pub walks : W M i z spot motion
    pub alike : (r : Acting) (x : Signs) → motion r (moved r g x) ≡ moved r (cut_gap C i (erased M) c) (moved r a x)

  onto_from : {M : Labelled} {i : ℕ} {g : Signs} {c : Cut} {z z1 : Spot} {a : Signs} → z ≡ z1 → Onto M i g c z1 a → Onto M i g c z a
  onto_from {M} {i} {g} {c} {a = a} e r = subst (λ z. Onto M i g c z a) (sym e) r

  -- an occurrence
  var_there : (y : ℕ) (w : Label) (i : ℕ) (v : Level) (c d : Context) (z : Spot) → d ≡ cons v c → H (labels.var y w) i (inM (at root v c)) z →
      Onto (labels.var y w) i (hole C (wire_without i (bound y))) (inM (at (wire (bound y)) empty d)) z []
  var_there y w i v c d z e h = onto_from (root_is h) (of (without i y) refl)
    where
      of : (r : Option ℕ) → without i y ≡ r → Onto (labels.var y w) i (hole C (wire_without i (bound y))) (inM (at (wire (bound y)) empty d)) (at root v c) []
      of None q = record { spot = at root v c; held = x_wire (ap bound (without_is i y q)) q e; motion = still; walks = stay; alike = λ r x. refl }
      of (Some x) q = record {
        spot = at (wire (bound x)) empty d;
        held = wire_m (other q);
        motion = still;
        walks = subst (λ r. Walks τ (put i (erased N) r) (put_label w C (labels.var y w) r) (at root v c) (at (wire (bound x)) empty d) still) (sym q) (along_edge (var_wire e));
        alike = λ r x. refl;
      }

  copied_root : {y i : ℕ} {a v : Level} {c : Context} {z : Spot} → Held τ (erased N) (var y) i (inN a (at root v c)) z → z ≡ at root v c
  copied_root (x_spot e h) = h

  var_back : (y : ℕ) (w : Label) (i : ℕ) (v : Level) (c d : Context) (z : Spot) → d ≡ cons v c → H (labels.var y w) i (inM (at (wire (bound y)) empty d)) z →
      Onto (labels.var y w) i (hole C (wire_without i (bound y))) (inM (at root v c)) z []
  var_back y w i v c d z e h = of (which i (bound y))
    where
      of : (bound y ≡ bound i) ⊎ ((x : Wire) × (wire_without i (bound y) ≡ Some x)) → Onto (labels.var y w) i (hole C (wire_without i (bound y))) (inM (at root v c)) z []
      of (inl p) = onto_from (copied_root (held_joint h p e)) (record { spot = at root v c; held = at_root; motion = still; walks = stay; alike = λ r x. refl })
      of (inr (x, q)) =
          let b = by_wire h x q in
          let l = var_level b.address in
          let t = wire_some (without i y) x q in
          onto_from (b.is ∙ ap (λ l. at (wire x) l d) l ∙ ap (λ x. at (wire x) empty d) t.2) (record {
            spot = at root v c;
            held = at_root;
            motion = still;
            walks = subst (λ r. Walks τ (put i (erased N) r) (put_label w C (labels.var y w) r) (at (wire (bound t.0)) empty d) (at root v c) still) (sym t.1) (back_edge (var_wire e));
            alike = λ r x. refl;
          })

  free_back : (f : ℕ) (w : Label) (i : ℕ) (v : Level) (c d : Context) (z : Spot) → d ≡ cons v c → H (labels.free f w) i (inM (at (wire (name f)) empty d)) z →
      Onto (labels.free f w) i [] (inM (at root v c)) z []
  free_back f w i v c d z e h =
      let b = by_wire h (name f) refl in
      onto_from (b.is ∙ ap (λ l. at (wire (name f)) l d) (free_level b.address)) (record { spot = at root v c; held = at_root; motion = still; walks = back_edge (free_wire e); alike = λ r x. refl })

  -- an abstraction
  owcopy_back : (b : Labelled) (w : Label) (i : ℕ) (a : Level) (c : Context) (z : Spot) → occurs (bound 0) (erased b) ≡ true → H (labels.lam b w) i (inM (body (at (wire (bound 0)) a c))) z →
      Onto (labels.lam b w) i [] (inM (at root (star a) c)) z (onward begins_under ∷ [])
  owcopy_back b w i a c z m h =
      let t = in_body_held h in
      let k = by_wire t.2 (bound 0) refl in
      let q = zero_keeps k.address in
      onto_from (t.1 ∙ ap body (k.is ∙ ap (λ l. at (wire (bound 0)) l c) q.1))
      (record { spot = at root (star a) c; held = at_root; motion = by (onward begins_under ∷ []); walks = back_edge (lam_own (occurs_new k.address)); alike = λ r x. refl })

  hole_under : (i : ℕ) (y u : Wire) → u ≡ under y → hole C (wire_without i y) ≡ hole C (wire_without (suc i) u)
  hole_under i y u e = under_hole C i y ∙ ap (λ u. hole C (wire_without (suc i) u)) (sym e)

  wire_there : (b : Labelled) (w : Label) (i : ℕ) (y u : Wire) (a : Level) (c : Context) (z : Spot) → u ≡ under y → H (labels.lam b w) i (inM (at (wire y) a c)) z →
      Onto (labels.lam b w) i (hole C (wire_without i y)) (inM (body (at (wire u) a c))) z []
  wire_there b w i y u a c z e h = of (which i y)
    where
      of : (y ≡ bound i) ⊎ ((x : Wire) × (wire_without i y ≡ Some x)) → Onto (labels.lam b w) i (hole C (wire_without i y)) (inM (body (at (wire u) a c))) z []
      of (inl p) =
          let t = own_body h p in
          onto_from t.1 (record {
            spot = body t.0;
            held = p_body (subst (λ u. H b (suc i) (inM (at (wire u) a c)) t.0) (sym e) t.2);
            motion = still;
            walks = stay;
            alike = λ r x. ap (λ g. moved r g x) (hole_under i y u e);
          })
      of (inr (x, q)) =
          let k = by_wire h x q in
          let m = in_body_of k.address in
          onto_from k.is (record {
            spot = body (at (wire (under x)) k.level c);
            held = p_body (wire_m (subst (λ u. WireOf τ (erased N) (erased b) (suc i) (ofM u a) (under x) k.level) (sym e) m));
            motion = still;
            walks = along_edge (lam_wire refl (occurs_new m));
            alike = λ r x. ap (λ g. moved r g x) (hole_under i y u e);
          })

  wire_back : (b : Labelled) (w : Label) (i : ℕ) (y u : Wire) (a : Level) (c : Context) (z : Spot) → u ≡ under y → H (labels.lam b w) i (inM (body (at (wire u) a c))) z →
      Onto (labels.lam b w) i (hole C (wire_without (suc i) u)) (inM (at (wire y) a c)) z []
  wire_back b w i y u a c z e h = of (which i y)
    where
      of : (y ≡ bound i) ⊎ ((x : Wire) × (wire_without i y ≡ Some x)) → Onto (labels.lam b w) i (hole C (wire_without (suc i) u)) (inM (at (wire y) a c)) z []
      of (inl p) =
          let t = in_body_held h in
          onto_from t.1 (record {
            spot = body t.0;
            held = i_body p (subst (λ u. H b (suc i) (inM (at (wire u) a c)) t.0) e t.2);
            motion = still;
            walks = stay;
            alike = λ r x. ap (λ g. moved r g x) (sym (hole_under i y u e));
          })
      of (inr (x, q)) =
          let t = in_body_held h in
          let k = by_wire t.2 (under x) (subst (λ u. wire_without (suc i) u ≡ Some (under x)) (sym e) (without_under i y x q)) in
          let m = subst (λ u. WireOf τ (erased N) (erased b) (suc i) (ofM u a) (under x) k.level) e k.address in
          onto_from (t.1 ∙ ap body k.is) (record {
            spot = at (wire x) k.level c;
            held = wire_m (lam_m m);
            motion = still;
            walks = back_edge (lam_wire refl (occurs_new m));
            alike = λ r x. ap (λ g. moved r g x) (sym (hole_under i y u e));
          })

  -- an application
  left_there : (f g : Labelled) (t : Label) (i : ℕ) (y : Wire) (a w : Level) (c : Context) (z : Spot) → occurs y (erased f) ≡ true → w ≡ left (erased g) y a → H (labels.app f g t) i (inM (at (wire y) w c)) z →
      Onto (labels.app f g t) i (hole C (wire_without i y)) (inM (fun (at (wire y) a c))) z []
  left_there f g t i y a w c z m e h = of (which i y)
    where
      of : (y ≡ bound i) ⊎ ((x : Wire) × (wire_without i y ≡ Some x)) → Onto (labels.app f g t) i (hole C (wire_without i y)) (inM (fun (at (wire y) a c))) z []
      of (inl p) = let k = own_left h p m e in onto_from k.1 (record { spot = fun k.0; held = p_fun k.2; motion = still; walks = stay; alike = λ r x. refl })
      of (inr (x, q)) =
          let b = by_wire h x q in
          let k = in_left_of b.address m e in
          onto_from b.is (record { spot = fun (at (wire x) k.0 c); held = p_fun (wire_m k.1); motion = still; walks = along_edge (app_left (occurs_new k.1) k.2); alike = λ r x. refl })

  left_back : (f g : Labelled) (t : Label) (i : ℕ) (y : Wire) (a w : Level) (c : Context) (z : Spot) → occurs y (erased f) ≡ true → w ≡ left (erased g) y a → H (labels.app f g t) i (inM (fun (at (wire y) a c))) z →
      Onto (labels.app f g t) i (hole C (wire_without i y)) (inM (at (wire y) w c)) z []
  left_back f g t i y a w c z m e h = of (which i y)
    where
      of : (y ≡ bound i) ⊎ ((x : Wire) × (wire_without i y ≡ Some x)) → Onto (labels.app f g t) i (hole C (wire_without i y)) (inM (at (wire y) w c)) z []
      of (inl p) = let k = in_fun_held h in onto_from k.1 (record { spot = fun k.0; held = i_fun p k.2 e; motion = still; walks = stay; alike = λ r x. refl })
      of (inr (x, q)) =
          let k = in_fun_held h in
          let b = by_wire k.2 x q in
          onto_from (k.1 ∙ ap fun b.is) (record {
            spot = at (wire x) (left (subst_for i (erased N) (erased g)) x b.level) c;
            held = wire_m (fun_m b.address e refl);
            motion = still;
            walks = back_edge (app_left (occurs_new b.address) refl);
            alike = λ r x. refl;
          })

  right_there : (f g : Labelled) (t : Label) (i : ℕ) (y : Wire) (b v w : Level) (c : Context) (z : Spot) → occurs y (erased g) ≡ true → IsRight τ (erased f) (erased g) y b v w → H (labels.app f g t) i (inM (at (wire y) w c)) z →
      Onto (labels.app f g t) i (hole C (wire_without i y)) (inM (arg v (at (wire y) b c))) z []
  right_there f g t i y b v w c z m e h = of (which i y)
    where
      of : (y ≡ bound i) ⊎ ((x : Wire) × (wire_without i y ≡ Some x)) → Onto (labels.app f g t) i (hole C (wire_without i y)) (inM (arg v (at (wire y) b c))) z []
      of (inl p) = let k = own_right v h p m e in onto_from k.1 (record { spot = arg v k.0; held = p_arg k.2; motion = still; walks = stay; alike = λ r x. refl })
      of (inr (x, q)) =
          let k = by_wire h x q in
          let j = in_right_of v k.address m e in
          onto_from k.is (record { spot = arg v (at (wire x) j.0 c); held = p_arg (wire_m j.1); motion = still; walks = along_edge (app_right (occurs_new j.1) j.2); alike = λ r x. refl })

  right_back : (f g : Labelled) (t : Label) (i : ℕ) (y : Wire) (b v w : Level) (c : Context) (z : Spot) → occurs y (erased g) ≡ true → IsRight τ (erased f) (erased g) y b v w → H (labels.app f g t) i (inM (arg v (at (wire y) b c))) z →
      Onto (labels.app f g t) i (hole C (wire_without i y)) (inM (at (wire y) w c)) z []
  right_back f g t i y b v w c z m e h = of (which i y)
    where
      of : (y ≡ bound i) ⊎ ((x : Wire) × (wire_without i y ≡ Some x)) → Onto (labels.app f g t) i (hole C (wire_without i y)) (inM (at (wire y) w c)) z []
      of (inl p) = let k = in_arg_held h in onto_from k.1 (record { spot = arg v k.0; held = i_arg p k.2 e; motion = still; walks = stay; alike = λ r x. refl })
      of (inr (x, q)) =
          let k = in_arg_held h in
          let j = by_wire k.2 x q in
          let s : Level = right τ (subst_for i (erased N) (erased f)) (subst_for i (erased N) (erased g)) x j.level v in
          let d : IsRight τ (subst_for i (erased N) (erased f)) (subst_for i (erased N) (erased g)) x j.level v s = record { level = level_new (erased g) j.address e.level; is = refl } in
          onto_from (k.1 ∙ ap (arg v) j.is) (record {
            spot = at (wire x) s c;
            held = wire_m (arg_m v j.address e d);
            motion = still;
            walks = back_edge (app_right (occurs_new j.address) d);
            alike = λ r x. refl;
          })

  -- ---- an edge of M, either way

  pub m_there : (M : Labelled) {i : ℕ} {s s' z : Spot} {n : ℕ} → Edge τ (erased M) s s' n → H M i (inM s) z → Onto M i (gap C i (erased M) s) (inM s') z (reading M s s')
  m_there (labels.var y w) {i} {z = z} (var_wire {v = v} {c = c} {d = d} e) h = var_there y w i v c d z e h
  m_there (labels.free f w) (free_wire {d = d} e) h = onto_from (root_is h) (record { spot = at (wire (name f)) empty d; held = wire_m named; motion = still; walks = along_edge (free_wire e); alike = λ r x. refl })
  m_there (labels.lam b w) {i} (lam_root {v = v} {c = c}) h = onto_from (root_is h)
      (record { spot = body (at root v c); held = p_body at_root; motion = by (from_lam (sub C (suc i) b) (at root v c)); walks = along_edge lam_root; alike = λ r x. body_reads C (suc i) r b x })
  m_there (labels.lam b w) {i} (lam_own {a = a} {c = c} m) h = onto_from (root_is h) (record {
    spot = body (at (wire (bound 0)) a c);
    held = p_body (wire_m (own_same m));
    motion = by (backward begins_under ∷ []);
    walks = along_edge (lam_own (occurs_new {τ = τ} {N = erased N} {M = erased b} {i = suc i} {z = bound 0} {a' = a} (own_same m)));
    alike = λ r x. refl;
  })
  m_there (labels.lam b w) {i} {z = x} (lam_wire {y = y} {z = u} {a = a} {c = c} e m) h = wire_there b w i y u a c x e h
  m_there (labels.lam b w) (in_body e) h =
      let t = in_body_held h in
      let k = m_there b e t.2 in
      onto_from t.1 (record { spot = body k.spot; held = p_body k.held; motion = k.motion; walks = in_the_body w k.walks; alike = k.alike })
  m_there (labels.app f g t) {i} (app_root {v = v} {c = c}) h = onto_from (root_is h)
      (record { spot = fun (at root (o v) c); held = p_fun at_root; motion = by (from_app (sub C i f)); walks = along_edge app_root; alike = λ r x. function_reads C i r f x })
  m_there (labels.app f g t) {i} (app_arg {v = v} {u = u} {c = c} {d = d} e) h =
      let k = in_fun_held h in
      onto_from (k.1 ∙ ap fun (root_is k.2))
      (record { spot = arg v (at root u d); held = p_arg at_root; motion = by (from_fun (sub C i f) (sub C i g) (at root (star v) c)); walks = along_edge (app_arg e); alike = λ r x. argument_reads C i r f g x })
  m_there (labels.app f g t) {i} {z = z} (app_left {y = y} {a = a} {w = w} {c = c} m e) h = left_there f g t i y a w c z m e h
  m_there (labels.app f g t) {i} {z = z} (app_right {y = y} {b = b} {v = v} {w = w} {c = c} m e) h = right_there f g t i y b v w c z m e h
  m_there (labels.app f g t) (in_fun e) h =
      let j = in_fun_held h in
      let k = m_there f e j.2 in
      onto_from j.1 (record { spot = fun k.spot; held = p_fun k.held; motion = k.motion; walks = in_the_fun t k.walks; alike = k.alike })
  m_there (labels.app f g t) (in_arg {v = v} e) h =
      let j = in_arg_held h in
      let k = m_there g e j.2 in
      onto_from j.1 (record { spot = arg v k.spot; held = p_arg k.held; motion = k.motion; walks = in_the_arg t v k.walks; alike = k.alike })

  pub m_back : (M : Labelled) {i : ℕ} {s s' z : Spot} {n : ℕ} → Edge τ (erased M) s' s n → H M i (inM s) z → Onto M i (gap C i (erased M) s) (inM s') z (reversed (reading M s' s))
  m_back (labels.var y w) {i} {z = z} (var_wire {v = v} {c = c} {d = d} e) h = var_back y w i v c d z e h
  m_back (labels.free f w) {i} {z = z} (free_wire {v = v} {c = c} {d = d} e) h = free_back f w i v c d z e h
  m_back (labels.lam b w) {i} (lam_root {v = v} {c = c}) h =
      let t = in_body_held h in
      let k = from_lam (sub C (suc i) b) (at root v c) in
      onto_from (t.1 ∙ ap body (root_is t.2)) (record {
        spot = at root (o v) c;
        held = at_root;
        motion = by (reversed k);
        walks = back_edge lam_root;
        alike = λ r x. flip r (from_lam b (at root v c)) k [] (at_top C (suc i) (erased b)) (body_reads C (suc i) r b) x;
      })
  m_back (labels.lam b w) {i} {z = z} (lam_own {a = a} {c = c} m) h = owcopy_back b w i a c z m h
  m_back (labels.lam b w) {i} {z = x} (lam_wire {y = y} {z = u} {a = a} {c = c} e m) h = wire_back b w i y u a c x e h
  m_back (labels.lam b w) (in_body e) h =
      let t = in_body_held h in
      let k = m_back b e t.2 in
      onto_from t.1 (record { spot = body k.spot; held = p_body k.held; motion = k.motion; walks = in_the_body w k.walks; alike = k.alike })
  m_back (labels.app f g t) {i} (app_root {v = v} {c = c}) h =
      let j = in_fun_held h in
      let k = from_app (sub C i f) in
      onto_from (j.1 ∙ ap fun (root_is j.2)) (record {
        spot = at root v c;
        held = at_root;
        motion = by (reversed k);
        walks = back_edge app_root;
        alike = λ r x. flip r (from_app f) k [] (at_top C i (erased f)) (function_reads C i r f) x;
      })
  m_back (labels.app f g t) {i} (app_arg {v = v} {u = u} {c = c} {d = d} e) h =
      let j = in_arg_held h in
      let k = from_fun (sub C i f) (sub C i g) (at root (star v) c) in
      onto_from (j.1 ∙ ap (arg v) (root_is j.2)) (record {
        spot = fun (at root (star v) c);
        held = p_fun at_root;
        motion = by (reversed k);
        walks = back_edge (app_arg e);
        alike = λ r x. flip r (from_fun f g (at root (star v) c)) k (at_top C i (erased f)) (at_top C i (erased g)) (argument_reads C i r f g) x;
      })
  m_back (labels.app f g t) {i} {z = z} (app_left {y = y} {a = a} {w = w} {c = c} m e) h = left_back f g t i y a w c z m e h
  m_back (labels.app f g t) {i} {z = z} (app_right {y = y} {b = b} {v = v} {w = w} {c = c} m e) h = right_back f g t i y b v w c z m e h
  m_back (labels.app f g t) (in_fun e) h =
      let j = in_fun_held h in
      let k = m_back f e j.2 in
      onto_from j.1 (record { spot = fun k.spot; held = p_fun k.held; motion = k.motion; walks = in_the_fun t k.walks; alike = k.alike })
  m_back (labels.app f g t) (in_arg {v = v} e) h =
      let j = in_arg_held h in
      let k = m_back g e j.2 in
      onto_from j.1 (record { spot = arg v k.spot; held = p_arg k.held; motion = k.motion; walks = in_the_arg t v k.walks; alike = k.alike })

  -- ---- an edge of N, and the joint

  pub copy_there : (M : Labelled) {i : ℕ} {w : Level} {s s' z : Spot} {n : ℕ} → Edge τ (erased N) s s' n → H M i (inN w s) z → Onto M i [] (inN w s') z (reading N s s')
  copy_there M {i} {s = s} {s' = s'} {n = n} e h =
      let t = held_copy M h in
      let k = copied M t.1 s' in
      record {
        spot = k.spot;
        held = copies_held k.copies;
        motion = then_by still (by (reading (sub C i M) t.0 k.spot));
        walks = and_on (turned_still t.2) (along_edge (k.there n e));
        alike = λ r x. ap (λ a. moved r a x) k.reads;
      }

  pub copy_back : (M : Labelled) {i : ℕ} {w : Level} {s s' z : Spot} {n : ℕ} → Edge τ (erased N) s' s n → H M i (inN w s) z → Onto M i [] (inN w s') z (reversed (reading N s' s))
  copy_back M {i} {s = s} {s' = s'} {n = n} e h =
      let t = held_copy M h in
      let k = copied M t.1 s' in
      record {
        spot = k.spot;
        held = copies_held k.copies;
        motion = then_by still (by (reversed (reading (sub C i M) k.spot t.0)));
        walks = and_on (turned_still t.2) (back_edge (k.from n e));
        alike = λ r x. ap (λ a. moved r (reversed a) x) k.reads_back;
      }

  pub joint_there : (M : Labelled) {i : ℕ} {x : Wire} {a u : Level} {c d : Context} {z : Spot} → x ≡ bound i → c ≡ cons u d → H M i (inM (at (wire x) a c)) z →
      Onto M i (hole C (wire_without i x)) (inN a (at root u d)) z (signs_of (label_of C))
  joint_there M {i} {x} {z = z} p e h =
      record { spot = z; held = held_joint h p e; motion = still; walks = stay; alike = λ r y. ap (λ g. moved r g y) (ap (λ x. hole C (wire_without i x)) p ∙ own_hole C i) }
