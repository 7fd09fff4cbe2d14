-- Where an application or an abstraction of M[N] comes from, in the cut.
use Rattle.std.proofs.Common.{◌≡◌, ℕ, suc, ◌+◌, true, false, Option, Some, None, refl, sym, ap, ◌∙◌, subst}
use Rattle.ol_law_meaning.specs.Contraction.{Tree, var, free, lam, app, Level, empty, Context, bound, root, wire, Spot}
use Rattle.ol_law_meaning.specs.Contraction.{at, body, fun, arg, Trail, left, right, lift, lifted_wire, lifted, without}
use Rattle.ol_law_meaning.specs.Contraction.{put, subst_for, Cut, inM, inN, CutEdge, Held, at_root, x_spot, p_body}
use Rattle.ol_law_meaning.specs.Contraction.{p_fun, p_arg, n_body, n_fun, n_arg}
use Rattle.ol_law_meaning.proofs.Trails.{tr_trans}
use Rattle.ol_term.specs.declared.translations.Translation.{Translation}
use Rattle.ol_law_meaning.proofs.Back.{held_root, held_fine, of_body, of_fun, of_arg, var_copied, body_trail, fun_trail}
use Rattle.ol_law_meaning.proofs.Back.{arg_trail}
use Rattle.ol_law_optimality.proofs.Sites.{base, Is, Stands, lifted_spot}
use Rattle.ol_law_meaning.specs.Sites.{Site, self, in_lam, in_function, in_argument, spot_in, PartAt, whole, of_lam}
use Rattle.ol_law_meaning.specs.Sites.{of_function, of_argument}
use Rattle.std.proofs.Common.{Bool, ◌⊎◌, inl, inr}

-- ---- lifted parts

pub unlift : (b : Bool) (d i : ℕ) (s : Spot) (q : Site) (v : Level) (c : Context) → lifted d i s ≡ spot_in q (base b v c) → s ≡ spot_in q (base b v c)
unlift true d i (fun (at root u e)) self v c q = let j : at root u e ≡ at root v c = cc in ap fun j
unlift true d i (fun (at (wire y) u e)) self v c q = absurd (let j : at (wire (lifted_wire d i y)) u e ≡ at root v c = cc in cc)
unlift true d i (fun (body s)) self v c q = absurd (let j : body (lifted (suc d) i s) ≡ at root v c = cc in cc)
unlift true d i (fun (fun s)) self v c q = absurd (let j : fun (lifted d i s) ≡ at root v c = cc in cc)
unlift true d i (fun (arg a s)) self v c q = absurd (let j : arg a (lifted d i s) ≡ at root v c = cc in cc)
unlift true d i (at p u e) self v c q = absurd (cc)
unlift true d i (body s) self v c q = absurd (cc)
unlift true d i (arg a s) self v c q = absurd (cc)
unlift false d i (at root u e) self v c q = q
unlift false d i (at (wire y) u e) self v c q = absurd (cc)
unlift false d i (fun s) self v c q = absurd (cc)
unlift false d i (body s) self v c q = absurd (cc)
unlift false d i (arg a s) self v c q = absurd (cc)
unlift b d i (body s) (in_lam p) v c q = ap body (unlift b (suc d) i s p v c (let j : lifted (suc d) i s ≡ spot_in p (base b v c) = cc in j))
unlift b d i (at p' u e) (in_lam p) v c q = absurd (cc)
unlift b d i (fun s) (in_lam p) v c q = absurd (cc)
unlift b d i (arg a s) (in_lam p) v c q = absurd (cc)
unlift b d i (fun s) (in_function p) v c q = ap fun (unlift b d i s p v c (let j : lifted d i s ≡ spot_in p (base b v c) = cc in j))
unlift b d i (at p' u e) (in_function p) v c q = absurd (cc)
unlift b d i (body s) (in_function p) v c q = absurd (cc)
unlift b d i (arg a s) (in_function p) v c q = absurd (cc)
unlift b d i (arg a s) (in_argument a' p) v c q =
    let k : a ≡ a' = cc in
    ap (arg a) (unlift b d i s p v c (let j : lifted d i s ≡ spot_in p (base b v c) = cc in j)) ∙ ap (λ a. arg a (spot_in p (base b v c))) k
unlift b d i (at p' u e) (in_argument a' p) v c q = absurd (cc)
unlift b d i (body s) (in_argument a' p) v c q = absurd (cc)
unlift b d i (fun s) (in_argument a' p) v c q = absurd (cc)

un_is : (b : Bool) (t : Tree) (d i : ℕ) → Is b (lift d i t) → Is b t
un_is true (app M N) d i h = h
un_is true (var y) d i h = h
un_is true (free f) d i h = h
un_is true (lam M) d i h = h
un_is false (lam M) d i h = h
un_is false (var y) d i h = h
un_is false (free f) d i h = h
un_is false (app M N) d i h = h

unlifted_part : (b : Bool) (t : Tree) {u : Tree} (p : Site) (d i : ℕ) → PartAt (lift d i t) p u → Is b u → Stands b t p
unlifted_part b (lam M) self d i whole h = (lam M, whole, un_is b (lam M) d i h)
unlifted_part b (app M N) self d i whole h = (app M N, whole, un_is b (app M N) d i h)
unlifted_part b (var y) self d i whole h = (var y, whole, un_is b (var y) d i h)
unlifted_part b (free y) self d i whole h = (free y, whole, un_is b (free y) d i h)
unlifted_part b (lam M) (in_lam p) d i (of_lam m) h = let r = unlifted_part b M p (suc d) i m h in (r.0, of_lam r.1, r.2)
unlifted_part b (app M N) (in_function p) d i (of_function m) h = let r = unlifted_part b M p d i m h in (r.0, of_function r.1, r.2)
unlifted_part b (app M N) (in_argument a p) d i (of_argument m) h = let r = unlifted_part b N p d i m h in (r.0, of_argument r.1, r.2)
unlifted_part b (var y) (in_lam p) d i m h = elim m [ ]
unlifted_part b (var y) (in_function p) d i m h = elim m [ ]
unlifted_part b (var y) (in_argument a p) d i m h = elim m [ ]
unlifted_part b (free y) (in_lam p) d i m h = elim m [ ]
unlifted_part b (free y) (in_function p) d i m h = elim m [ ]
unlifted_part b (free y) (in_argument a p) d i m h = elim m [ ]
unlifted_part b (lam M) (in_function p) d i m h = elim m [ ]
unlifted_part b (lam M) (in_argument a p) d i m h = elim m [ ]
unlifted_part b (app M N) (in_lam p) d i m h = elim m [ ]

-- ---- where it comes from

module _ (τ : Translation) (N : Tree) where
  pub record FromM (M : Tree) (i : ℕ) (b : Bool) (c : Cut) (q : Site) (v : Level) (d : Context) : Type 0 where
    pub site : Site
    pub there : Stands b M site
    pub weight : ℕ
    pub trail : Trail (CutEdge τ N M i) c (inM (spot_in site (base b v d))) weight
    pub all : (w : Level) (e : Context) → Held τ N M i (inM (spot_in site (base b w e))) (spot_in q (base b w e))

  pub record FromN (M : Tree) (i : ℕ) (b : Bool) (c : Cut) (q : Site) (v : Level) (d : Context) : Type 0 where
    pub level : Level
    pub site : Site
    pub there : Stands b N site
    pub weight : ℕ
    pub trail : Trail (CutEdge τ N M i) c (inN level (spot_in site (base b v d))) weight
    pub all : (w : Level) (e : Context) → Held τ N M i (inN level (spot_in site (base b w e))) (spot_in q (base b w e))

  abbrev pub Whence : (M : Tree) → ℕ → Bool → Cut → Site → Level → Context → Type 0
  Whence M i b c q v d = FromM M i b c q v d ⊎ FromN M i b c q v d

  in_copy : (y i : ℕ) (b : Bool) (c : Cut) (q : Site) (v : Level) (d : Context) → without i y ≡ None → Held τ N (var y) i c (spot_in q (base b v d)) → Stands b (lift 0 i N) q → Whence (var y) i b c q v d
  in_copy y i b c q v d e h s =
      let k = var_copied e h in
      let j : k.spot ≡ spot_in q (base b v d) = unlift b 0 i k.spot q v d (sym k.is) in
      inr (record {
        level = empty;
        site = q;
        there = unlifted_part b N q 0 i s.1 s.2;
        weight = 0;
        trail = subst (λ s. Trail (CutEdge τ N (var y) i) c (inN empty s) 0) j k.trail;
        all = λ w l. x_spot e (sym (lifted_spot b q w l 0 i));
      })

  no_part : (b : Bool) (x : ℕ) (q : Site) → Stands b (var x) q → ⊥
  no_part true x q (u, whole, h) = h
  no_part false x q (u, whole, h) = h

  no_free : (b : Bool) (x : ℕ) (q : Site) → Stands b (free x) q → ⊥
  no_free true x q (u, whole, h) = h
  no_free false x q (u, whole, h) = h

  pub whence : (M : Tree) (i : ℕ) (b : Bool) (c : Cut) (q : Site) (v : Level) (d : Context) → Held τ N M i c (spot_in q (base b v d)) → Stands b (subst_for i N M) q → Whence M i b c q v d
  whence (var y) i b c q v d h s = by (without i y) refl s
    where
      by : (r : Option ℕ) → without i y ≡ r → Stands b (put i N r) q → Whence (var y) i b c q v d
      by None e s = in_copy y i b c q v d e h s
      by (Some x) e s = absurd (no_part b x q s)
  whence (free f) i b c q v d h s = absurd (no_free b f q s)
  whence (lam M) i true c self v d h (u, whole, s) = absurd s
  whence (lam M) i false c self v d h s = inl (record { site = self; there = (lam M, whole, tt); weight = 0; trail = held_root h; all = λ w e. at_root })
  whence (lam M) i b c (in_lam q) v d h (u, of_lam m, s) =
      let p = of_body h in
      elim (whence M (suc i) b p.cut q v d p.held (u, m, s)) [
        | inl r ↦ inl (record { site = in_lam r.site; there = (r.there.0, of_lam r.there.1, r.there.2); weight = 0 + r.weight; trail = tr_trans p.trail (body_trail r.trail) refl; all = λ w e. p_body (r.all w e) })
        | inr r ↦ inr (record { level = r.level; site = r.site; there = r.there; weight = 0 + r.weight; trail = tr_trans p.trail (body_trail r.trail) refl; all = λ w e. n_body (r.all w e) })
      ]
  whence (lam M) i b c (in_function q) v d h (u, m, s) = elim m [ ]
  whence (lam M) i b c (in_argument a q) v d h (u, m, s) = elim m [ ]
  whence (app M1 M2) i false c self v d h (u, whole, s) = absurd s
  whence (app M1 M2) i true c self v d h s =
      let p = of_fun h in
      inl (record { site = self; there = (app M1 M2, whole, tt); weight = 0 + 0; trail = tr_trans p.trail (fun_trail (held_root p.held)) refl; all = λ w e. p_fun at_root })
  whence (app M1 M2) i b c (in_function q) v d h (u, of_function m, s) =
      let p = of_fun h in
      elim (whence M1 i b p.cut q v d p.held (u, m, s)) [
        | inl r ↦ inl (record { site = in_function r.site; there = (r.there.0, of_function r.there.1, r.there.2); weight = 0 + r.weight; trail = tr_trans p.trail (fun_trail r.trail) refl; all = λ w e. p_fun (r.all w e) })
        | inr r ↦ inr (record { level = left M2 (bound i) r.level; site = r.site; there = r.there; weight = 0 + r.weight; trail = tr_trans p.trail (fun_trail r.trail) refl; all = λ w e. n_fun (r.all w e) refl })
      ]
  whence (app M1 M2) i b c (in_argument a q) v d h (u, of_argument m, s) =
      let p = of_arg h in
      elim (whence M2 i b p.cut q v d p.held (u, m, s)) [
        | inl r ↦ inl (record { site = in_argument a r.site; there = (r.there.0, of_argument r.there.1, r.there.2); weight = 0 + r.weight; trail = tr_trans p.trail (arg_trail a r.trail (held_fine p.held)) refl; all = λ w e. p_arg (r.all w e) })
        | inr r ↦ inr (record {
          level = right τ M1 M2 (bound i) r.level a;
          site = r.site;
          there = r.there;
          weight = 0 + r.weight;
          trail = tr_trans p.trail (arg_trail a r.trail (held_fine p.held)) refl;
          all = λ w e. n_arg (r.all w e) (record { level = held_fine (r.all w e); is = refl });
        })
      ]
  whence (app M1 M2) i b c (in_lam q) v d h (u, m, s) = elim m [ ]
