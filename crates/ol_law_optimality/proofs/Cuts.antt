-- What becomes of the sites of a redex's parts.
use Rattle.std.proofs.Common.{◌≡◌, ℕ, suc, Bool, true, false, refl, sym, ap, ◌∙◌, subst}
use Rattle.ol_law_meaning.specs.Contraction.{Tree, var, free, lam, app, Level, Context, root, Spot, at, body, fun, arg}
use Rattle.ol_law_meaning.specs.Contraction.{left, right, bound, put, lifted, subst_for, Cut, inM, inN, Held, at_root}
use Rattle.ol_law_meaning.specs.Contraction.{wire_n, x_spot, p_body, p_fun, p_arg, n_body, n_fun, n_arg}
use Rattle.ol_law_meaning.proofs.There.{root_is, in_body_held, in_fun_held, in_arg_held}
use Rattle.ol_term.specs.declared.translations.Translation.{Translation}
use Rattle.ol_law_meaning.specs.Sites.{Site, self, in_lam, in_function, in_argument, spot_in, PartAt}
use Rattle.ol_law_meaning.specs.Sites.{whole, of_lam, of_function, of_argument}
use Rattle.ol_law_optimality.proofs.Sites.{base, Is, Stands, no_wire, no_root, one_site, lifted_spot, lifted_part}

-- the site of M[N] for one of the cut, whatever the levels
pub record Moved (τ : Translation) (N M : Tree) (i : ℕ) (b : Bool) (from : Spot → Cut) (p : Site)
    (v : Level) (c : Context) (z : Spot) : Type 0 where
  pub site : Site
  pub is : z ≡ spot_in site (base b v c)
  pub there : Stands b (subst_for i N M) site
  pub all : (w : Level) (d : Context) → Held τ N M i (from (spot_in p (base b w d))) (spot_in site (base b w d))

module _ {τ : Translation} {N : Tree} where
  -- a part of M keeps its site
  pub m_moves : (b : Bool) {M u : Tree} {p : Site} (i : ℕ) (v : Level) (c : Context) (z : Spot) →
      PartAt M p u → Is b u →
      Held τ N M i (inM (spot_in p (base b v c))) z → (r : Moved τ N M i b inM p v c z) × (r.site ≡ p)
  m_moves b {M = M} i v c z whole h k = own b M h k
    where
      own : (b : Bool) (M : Tree) → Is b M → Held τ N M i (inM (base b v c)) z →
          (r : Moved τ N M i b inM self v c z) × (r.site ≡ self)
      own true (app M1 M2) h k =
          let t = in_fun_held k in (
            record {
              site = self;
              is = t.1 ∙ ap fun (root_is t.2);
              there = (subst_for i N (app M1 M2), whole, tt);
              all = λ w d. p_fun at_root;
            },
            refl,
          )
      own true (var y) h k = absurd h
      own true (free f) h k = absurd h
      own true (lam M) h k = absurd h
      own false (lam M) h k = (
        record {
          site = self;
          is = root_is k;
          there = (subst_for i N (lam M), whole, tt);
          all = λ w d. at_root;
        },
        refl,
      )
      own false (var y) h k = absurd h
      own false (free f) h k = absurd h
      own false (app M1 M2) h k = absurd h
  m_moves b {p = in_lam p} i v c z (of_lam m) h k =
      let t = in_body_held k in
      let r = m_moves b (suc i) v c t.0 m h t.2 in (
        record {
          site = in_lam r.0.site;
          is = t.1 ∙ ap body r.0.is;
          there = (r.0.there.0, of_lam r.0.there.1, r.0.there.2);
          all = λ w d. p_body (r.0.all w d);
        },
        ap in_lam r.1,
      )
  m_moves b {p = in_function p} i v c z (of_function m) h k =
      let t = in_fun_held k in
      let r = m_moves b i v c t.0 m h t.2 in (
        record {
          site = in_function r.0.site;
          is = t.1 ∙ ap fun r.0.is;
          there = (r.0.there.0, of_function r.0.there.1, r.0.there.2);
          all = λ w d. p_fun (r.0.all w d);
        },
        ap in_function r.1,
      )
  m_moves b {p = in_argument a p} i v c z (of_argument m) h k =
      let t = in_arg_held k in
      let r = m_moves b i v c t.0 m h t.2 in (
        record {
          site = in_argument a r.0.site;
          is = t.1 ∙ ap (arg a) r.0.is;
          there = (r.0.there.0, of_argument r.0.there.1, r.0.there.2);
          all = λ w d. p_arg (r.0.all w d);
        },
        ap (in_argument a) r.1,
      )

  -- a part of N has its site in the copy
  pub n_moves : (b : Bool) {M u : Tree} {p : Site} {i : ℕ} {a : Level} (v : Level)
      (c : Context) {s z : Spot} → PartAt N p u → Is b u →
      s ≡ spot_in p (base b v c) → Held τ N M i (inN a s) z → Moved τ N M i b (inN a) p v c z
  n_moves b {p = p} v c m h e (wire_n {x = x} {b = l} {c = d} r) = absurd (no_wire b p v l c d x e)
  n_moves b {p = p} {i = i} v c m h e (x_spot {y = y} q f) = record {
    site = p;
    is = f ∙ ap (lifted 0 i) e ∙ lifted_spot b p v c 0 i;
    there = subst (λ r. Stands b (put i N r) p) (sym q) (lifted_part b 0 i m h);
    all = λ w d. x_spot q (sym (lifted_spot b p w d 0 i));
  }
  n_moves b v c m h e (n_body k) =
      let r = n_moves b v c m h e k in
      record {
        site = in_lam r.site;
        is = ap body r.is;
        there = (r.there.0, of_lam r.there.1, r.there.2);
        all = λ w d. n_body (r.all w d);
      }
  n_moves b v c m h e (n_fun k q) =
      let r = n_moves b v c m h e k in
      record {
        site = in_function r.site;
        is = ap fun r.is;
        there = (r.there.0, of_function r.there.1, r.there.2);
        all = λ w d. n_fun (r.all w d) q;
      }
  n_moves b v c m h e (n_arg {v = a} k q) =
      let r = n_moves b v c m h e k in
      record {
        site = in_argument a r.site;
        is = ap (arg a) r.is;
        there = (r.there.0, of_argument r.there.1, r.there.2);
        all = λ w d. n_arg (r.all w d) q;
      }

  -- ---- no two sites of applications come to one

  pub m_n_apart : {M u u' : Tree} {p q : Site} {i : ℕ} {a : Level} (v : Level)
      (c : Context) {s z : Spot} → PartAt M p u → Is true u → PartAt N q u' → Is true u' →
      s ≡ spot_in q (base true v c) → z ≡ spot_in p (base true v c) → Held τ N M i (inN a s) z → ⊥
  m_n_apart {q = q} v c m h m' h' e f (wire_n {x = x} {b = l} {c = d} r) = no_wire true q v l c d x e
  m_n_apart v c whole h m' h' e f (x_spot q g) = h
  m_n_apart v c whole h m' h' e f (n_body k) = h
  m_n_apart {p = in_lam p} v c {z = body z} (of_lam m) h m' h' e f
      (n_body k) = m_n_apart v c m h m' h' e (let j : z ≡ spot_in p (base true v c) = cc in j) k
  m_n_apart {q = q} v c {z = fun z} whole h m' h' e f (n_fun k g) =
      let r = n_moves true v c m' h' e k in
      no_root r.site v v c c root (let j : at root v c ≡ z = cc in j ∙ r.is)
  m_n_apart {p = in_function p} v c {z = fun z} (of_function m) h m' h' e f
      (n_fun k g) = m_n_apart v c m h m' h' e (let j : z ≡ spot_in p (base true v c) = cc in j) k
  m_n_apart v c (of_argument m) h m' h' e f (n_fun k g) = absurd (cc)
  m_n_apart v c whole h m' h' e f (n_arg k g) = absurd (cc)
  m_n_apart v c (of_function m) h m' h' e f (n_arg k g) = absurd (cc)
  m_n_apart {p = in_argument a p} v c {z = arg l z} (of_argument m) h m' h' e f
      (n_arg k g) = m_n_apart v c m h m' h' e (let j : z ≡ spot_in p (base true v c) = cc in j) k

  pub n_n_one : {M u u' : Tree} {p q : Site} {i : ℕ} {a l : Level} (v : Level)
      (c : Context) {s s' z z' : Spot} → PartAt N p u → Is true u → PartAt N q u' → Is true u' →
      s ≡ spot_in p (base true v c) → s' ≡ spot_in q (base true v c) → z ≡ z' →
      Held τ N M i (inN a s) z → Held τ N M i (inN l s') z' → (a ≡ l) × (p ≡ q)
  n_n_one {p = p} v c m h m' h' e e' f (wire_n {x = x} {b = b} {c = d} r) k' = absurd (no_wire true p v b c d x e)
  n_n_one {q = q} v c m h m' h' e e' f k (wire_n {x = x} {b = b} {c = d} r) = absurd (no_wire true q v b c d x e')
  n_n_one {p = p} {q = q} {i = i} v c m h m' h' e e' f (x_spot g j) (x_spot g' j') = (
    refl,
    one_site p q v v c c (sym (lifted_spot true p v c 0 i) ∙ ap (lifted 0 i) (sym e)
        ∙ sym j ∙ f ∙ j' ∙ ap (lifted 0 i) e' ∙ lifted_spot true q v c 0 i),
  )
  n_n_one v c m h m' h' e e' f (n_body {z = z} k) (n_body {z = z'} k') = n_n_one v c m h m' h' e e'
      (let j : z ≡ z' = cc in j) k k'
  n_n_one {M = app M1 M2} {i = i} v c m h m' h' e e' f (n_fun {z = z} k g) (n_fun {z = z'} k' g') =
      let r = n_n_one v c m h m' h' e e' (let j : z ≡ z' = cc in j) k k' in
      (g ∙ ap (left M2 (bound i)) r.0 ∙ sym g', r.1)
  n_n_one v c m h m' h' e e' f (n_fun k g) (n_arg k' g') = absurd (cc)
  n_n_one v c m h m' h' e e' f (n_arg k g) (n_fun k' g') = absurd (cc)
  n_n_one {M = app M1 M2} {i = i} v c m h m' h' e e' f (n_arg {u = x} {v = y} {z = z} k g)
      (n_arg {u = x'} {v = y'} {z = z'} k' g') =
      let r = n_n_one v c m h m' h' e e' (let j : z ≡ z' = cc in j) k k' in
      let o : y ≡ y' = cc in
      (g.is ∙ ap (λ x. right τ M1 M2 (bound i) x y) r.0 ∙ ap (right τ M1 M2 (bound i) x') o ∙ sym g'.is, r.1)
