-- A head step takes the sites of a term's applications, but its own redex's, to those of the next term.
use Rattle.std.proofs.Common.{◌≡◌, Bool, true, false, ◌⊎◌, inl, inr, refl, sym, ap, ◌∙◌}
use Rattle.ol_law_meaning.specs.Contraction.{Tree, lam, app, Level, empty, Context, Place, root, Spot, at, body, fun}
use Rattle.ol_law_meaning.specs.Contraction.{arg, subst_for, Cut, inM, inN, Held, Opens, in_m, in_n, top, IsSpotOf}
use Rattle.ol_law_meaning.specs.Contraction.{is_abstraction, HeadStep, beta, below, before}
use Rattle.ol_law_meaning.specs.Steps.{SameRedex, redex_root, SameBelow, SameBefore, before_root, Same}
use Rattle.ol_law_meaning.proofs.There.{root_is}
use Rattle.ol_law_meaning.proofs.Ways.{Way, way_below, below_is, is_below, way_before, before_is}
use Rattle.ol_law_meaning.proofs.Ways.{is_before, Below, parts, sides, Before, funs, args, edges}
use Rattle.ol_law_meaning.proofs.Betas.{Through, way_there, there_is, is_there}
use Rattle.ol_term.specs.declared.translations.Translation.{Translation}
use Rattle.ol_law_meaning.specs.Sites.{Site, self, in_lam, in_function, in_argument, spot_in, PartAt}
use Rattle.ol_law_meaning.specs.Sites.{whole, of_lam, of_function, of_argument}
use Rattle.ol_law_optimality.proofs.Sites.{base, Is, Stands, no_root, one_site}
use Rattle.ol_law_optimality.proofs.Cuts.{m_moves, n_moves, m_n_apart, n_n_one}

-- the site after the step of an application before it, whatever the levels
pub record Goes (t' : Tree) (R : Spot → Spot → Type 0) (p : Site) (v : Level) (c : Context) (z : Spot) : Type 0 where
  pub site : Site
  pub is : z ≡ spot_in site (base true v c)
  pub there : Stands true t' site
  pub all : (w : Level) (d : Context) → R (spot_in p (base true w d)) (spot_in site (base true w d))

-- and of an abstraction
pub record Comes (t' : Tree) (c : Context) (z : Spot) : Type 0 where
  pub site : Site
  pub is : z ≡ spot_in site (base false empty c)
  pub there : Stands false t' site

pub record Step (τ : Translation) (t t' : Tree) (S : Place → Level → Level → Type 0) : Type 1 where
  pub way : Way τ t t' S true
  pub redex : Site
  pub goes : (p : Site) (v : Level) (c : Context) (z : Spot) → Stands true t p →
      way.R (spot_in p (base true v c)) z → (p ≡ redex) ⊎ Goes t' way.R p v c z
  pub comes : (p : Site) (c : Context) (z : Spot) → Stands false t p →
      way.R (spot_in p (base false empty c)) z → Comes t' c z
  pub one : (p q : Site) (v : Level) (c : Context) (z : Spot) → Stands true t p → Stands true t q →
      (p ≡ redex → ⊥) → (q ≡ redex → ⊥) →
      way.R (spot_in p (base true v c)) z → way.R (spot_in q (base true v c)) z → p ≡ q
  pub top : (v : Level) (c : Context) (z : Spot) → is_abstraction t ≡ false → way.R (at root v c) z → z ≡ at root v c

-- ---- at the redex

pub spot_fits : (τ : Translation) (N : Tree) (b : Bool) (p : Site) (v : Level) (c : Context) →
    IsSpotOf τ N (spot_in p (base b v c))
spot_fits τ N true self v c = tt
spot_fits τ N false self v c = tt
spot_fits τ N b (in_lam p) v c = tt
spot_fits τ N b (in_function p) v c = tt
spot_fits τ N b (in_argument a p) v c = tt

module _ (τ : Translation) (M N : Tree) where
  abbrev T : Spot → Spot → Type 0
  T = Through τ M N

  abbrev new_term : Tree
  new_term = subst_for 0 N M

  abbrev old_term : Tree
  old_term = app (lam M) N

  m_goes : (p : Site) (u : Tree) (v : Level) (c : Context) (z : Spot) → PartAt M p u → Is true u →
      T (fun (body (spot_in p (base true v c)))) z → Goes new_term T (in_function (in_lam p)) v c z
  m_goes p u v c z m h r = by r.cut r.opens r.held
    where
      by : (k : Cut) → Opens τ N M (fun (body (spot_in p (base true v c)))) k → Held τ N M 0 k z →
          Goes new_term T (in_function (in_lam p)) v c z
      by k in_m e =
          let x = (m_moves true 0 v c z m h e).0 in
          record {
            site = x.site;
            is = x.is;
            there = x.there;
            all = λ w d. record { cut = inM (spot_in p (base true w d)); opens = in_m; held = x.all w d };
          }

  n_goes : (p : Site) (u : Tree) (a v : Level) (c : Context) (z : Spot) → PartAt N p u → Is true u →
      T (arg a (spot_in p (base true v c))) z → Goes new_term T (in_argument a p) v c z
  n_goes p u a v c z m h r = by r.cut r.opens r.held
    where
      by : (k : Cut) → Opens τ N M (arg a (spot_in p (base true v c))) k → Held τ N M 0 k z →
          Goes new_term T (in_argument a p) v c z
      by k (in_n q f) e =
          let x = n_moves true v c m h refl e in
          record {
            site = x.site;
            is = x.is;
            there = x.there;
            all = λ w d. record {
              cut = inN a (spot_in p (base true w d));
              opens = in_n q (spot_fits τ N true p w d);
              held = x.all w d;
            };
          }

  -- where a part of the redex stands
  data Where (b : Bool) : Site → Type 0 where
    at_redex : Is b old_term → Where b self
    at_lam : Is b (lam M) → Where b (in_function self)
    at_m : {p : Site} → Stands b M p → Where b (in_function (in_lam p))
    at_n : {a : Level} {p : Site} → Stands b N p → Where b (in_argument a p)

  where_is : (b : Bool) (p : Site) → Stands b old_term p → Where b p
  where_is b p (u, whole, h) = at_redex h
  where_is b p (u, of_function whole, h) = at_lam h
  where_is b p (u, of_function (of_lam m), h) = at_m (u, m, h)
  where_is b p (u, of_argument m, h) = at_n (u, m, h)

  beta_goes : (p : Site) (v : Level) (c : Context) (z : Spot) → Where true p →
      T (spot_in p (base true v c)) z → (p ≡ self) ⊎ Goes new_term T p v c z
  beta_goes p v c z (at_redex h) r = inl refl
  beta_goes p v c z (at_lam h) r = absurd h
  beta_goes p v c z (at_m {p = q} (u, m, h)) r = inr (m_goes q u v c z m h r)
  beta_goes p v c z (at_n {a = a} {p = q} (u, m, h)) r = inr (n_goes q u a v c z m h r)

  beta_comes : (p : Site) (c : Context) (z : Spot) → Where false p →
      T (spot_in p (base false empty c)) z → Comes new_term c z
  beta_comes p c z (at_redex h) r = absurd h
  beta_comes p c z (at_lam h) r = by r.cut r.opens
    where
      by : (k : Cut) → Opens τ N M (fun (at root empty c)) k → Comes new_term c z
      by k e = elim e [ ]
  beta_comes p c z (at_m {p = q} (u, m, h)) r = by r.cut r.opens r.held
    where
      by : (k : Cut) → Opens τ N M (fun (body (spot_in q (base false empty c)))) k →
          Held τ N M 0 k z → Comes new_term c z
      by k in_m e =
          let x = (m_moves false 0 empty c z m h e).0 in
          record { site = x.site; is = x.is; there = x.there }
  beta_comes p c z (at_n {a = a} {p = q} (u, m, h)) r = by r.cut r.opens r.held
    where
      by : (k : Cut) → Opens τ N M (arg a (spot_in q (base false empty c))) k → Held τ N M 0 k z → Comes new_term c z
      by k (in_n o f) e =
          let x = n_moves false empty c m h refl e in
          record { site = x.site; is = x.is; there = x.there }

  held_m : (p : Site) (v : Level) (c : Context) (z : Spot) → T (fun (body (spot_in p (base true v c)))) z →
      Held τ N M 0 (inM (spot_in p (base true v c))) z
  held_m p v c z r = by r.cut r.opens r.held
    where
      by : (k : Cut) → Opens τ N M (fun (body (spot_in p (base true v c)))) k → Held τ N M 0 k z →
          Held τ N M 0 (inM (spot_in p (base true v c))) z
      by k in_m e = e

  held_n : (a : Level) (p : Site) (v : Level) (c : Context) (z : Spot) → T (arg a (spot_in p (base true v c))) z →
      Held τ N M 0 (inN a (spot_in p (base true v c))) z
  held_n a p v c z r = by r.cut r.opens r.held
    where
      by : (k : Cut) → Opens τ N M (arg a (spot_in p (base true v c))) k → Held τ N M 0 k z →
          Held τ N M 0 (inN a (spot_in p (base true v c))) z
      by k (in_n q f) e = e

  beta_one : (p q : Site) (v : Level) (c : Context) (z : Spot) → Where true p → Where true q →
      (p ≡ self → ⊥) → (q ≡ self → ⊥) → T (spot_in p (base true v c)) z → T (spot_in q (base true v c)) z → p ≡ q
  beta_one p q v c z (at_redex h) k f g r s = absurd (f refl)
  beta_one p q v c z (at_lam h) k f g r s = absurd h
  beta_one p q v c z (at_m h) (at_redex k) f g r s = absurd (g refl)
  beta_one p q v c z (at_m h) (at_lam k) f g r s = absurd k
  beta_one p q v c z (at_n h) (at_redex k) f g r s = absurd (g refl)
  beta_one p q v c z (at_n h) (at_lam k) f g r s = absurd k
  beta_one p q v c z (at_m {p = p'} (u, m, h)) (at_m {p = q'} (u', m', h')) f g r s =
      let x = m_moves true 0 v c z m h (held_m p' v c z r) in
      let y = m_moves true 0 v c z m' h' (held_m q' v c z s) in
      ap (λ p. in_function (in_lam p)) (sym x.1 ∙ one_site x.0.site y.0.site v v c c (sym x.0.is ∙ y.0.is) ∙ y.1)
  beta_one p q v c z (at_m {p = p'} (u, m, h)) (at_n {a = a} {p = q'} (u', m', h')) f g r s =
      let x = m_moves true 0 v c z m h (held_m p' v c z r) in
      absurd (m_n_apart v c m h m' h' refl (x.0.is ∙ ap (λ p. spot_in p (base true v c)) x.1) (held_n a q' v c z s))
  beta_one p q v c z (at_n {a = a} {p = p'} (u, m, h)) (at_m {p = q'} (u', m', h')) f g r s =
      let y = m_moves true 0 v c z m' h' (held_m q' v c z s) in
      absurd (m_n_apart v c m' h' m h refl (y.0.is ∙ ap (λ p. spot_in p (base true v c)) y.1) (held_n a p' v c z r))
  beta_one p q v c z (at_n {a = a} {p = p'} (u, m, h)) (at_n {a = l} {p = q'} (u', m', h')) f g r s =
      let x = n_n_one v c m h m' h' refl refl refl (held_n a p' v c z r) (held_n l q' v c z s) in
      ap (λ a. in_argument a p') x.0 ∙ ap (in_argument l) x.1

  beta_top : (v : Level) (c : Context) (z : Spot) → T (at root v c) z → z ≡ at root v c
  beta_top v c z r = by r.cut r.opens r.held
    where
      by : (k : Cut) → Opens τ N M (at root v c) k → Held τ N M 0 k z → z ≡ at root v c
      by k top e = root_is e

  pub beta_step : Step τ old_term new_term (SameRedex τ M N)
  beta_step = record {
    way = way_there τ M N;
    redex = self;
    goes = λ p v c z h r. goes (beta_goes p v c z (where_is true p h) (there_is τ M N r));
    comes = λ p c z h r. beta_comes p c z (where_is false p h) (there_is τ M N r);
    one = λ p q v c z h k f g r s. beta_one p q v c z (where_is true p h) (where_is true q k) f g
        (there_is τ M N r) (there_is τ M N s);
    top = λ v c z e r. beta_top v c z (there_is τ M N r);
  }
    where
      goes : {p : Site} {v : Level} {c : Context} {z : Spot} → (p ≡ self) ⊎ Goes new_term T p v c z →
          (p ≡ self) ⊎ Goes new_term (way_there τ M N).R p v c z
      goes (inl e) = inl e
      goes (inr g) = inr (record { site = g.site; is = g.is; there = g.there; all = λ w d. is_there τ M N (g.all w d) })

-- ---- under an abstraction

module _ {τ : Translation} (M M' : Tree) (S : Place → Level → Level → Type 0) (k : Step τ M M' S) where
  abbrev B : Spot → Spot → Type 0
  B = Below k.way.R S

  lam_goes : (p : Site) (v : Level) (c : Context) (z : Spot) → Stands true (lam M) p →
      B (spot_in p (base true v c)) z → (p ≡ in_lam k.redex) ⊎ Goes (lam M') B p v c z
  lam_goes self v c z (u, whole, h) r = absurd h
  lam_goes (in_lam p) v c z (u, of_lam m, h) (parts {z = y} r) = by (k.goes p v c y (u, m, h) r)
    where
      by : (p ≡ k.redex) ⊎ Goes M' k.way.R p v c y →
          (in_lam p ≡ in_lam k.redex) ⊎ Goes (lam M') B (in_lam p) v c (body y)
      by (inl e) = inl (ap in_lam e)
      by (inr g) = inr (record {
        site = in_lam g.site;
        is = ap body g.is;
        there = (g.there.0, of_lam g.there.1, g.there.2);
        all = λ w d. parts (g.all w d);
      })
  lam_goes (in_function _) v c z _ r = elim r [ ]
  lam_goes (in_argument _ _) v c z _ r = elim r [ ]

  lam_comes : (p : Site) (c : Context) (z : Spot) → Stands false (lam M) p →
      B (spot_in p (base false empty c)) z → Comes (lam M') c z
  lam_comes self c z h (sides r) = elim r [ ]
  lam_comes (in_lam p) c z (u, of_lam m, h) (parts {z = y} r) =
      let g = k.comes p c y (u, m, h) r in
      record { site = in_lam g.site; is = ap body g.is; there = (g.there.0, of_lam g.there.1, g.there.2) }
  lam_comes (in_function _) c z h x = elim x [ ]
  lam_comes (in_argument _ _) c z h x = elim x [ ]

  lam_one : (p q : Site) (v : Level) (c : Context) (z : Spot) → Stands true (lam M) p → Stands true (lam M) q →
      (p ≡ in_lam k.redex → ⊥) → (q ≡ in_lam k.redex → ⊥) → B (spot_in p (base true v c)) z →
      B (spot_in q (base true v c)) z → p ≡ q
  lam_one self q v c z (u, whole, h) h' f g r s = absurd h
  lam_one (in_lam p) self v c z h (u, whole, h') f g r s = absurd h'
  lam_one (in_lam p) (in_lam q) v c z (u, of_lam m, h) (u', of_lam m', h') f g (parts {z = y} r) (parts s) =
      ap in_lam (k.one p q v c y (u, m, h) (u', m', h') (λ e. f (ap in_lam e)) (λ e. g (ap in_lam e)) r s)
  lam_one (in_lam p) (in_function _) v c z h h' f g r s = elim s [ ]
  lam_one (in_lam p) (in_argument _ _) v c z h h' f g r s = elim s [ ]
  lam_one (in_function _) q v c z h h' f g r s = elim r [ ]
  lam_one (in_argument _ _) q v c z h h' f g r s = elim r [ ]

  pub lam_step : Step τ (lam M) (lam M') (SameBelow S)
  lam_step = record {
    way = way_below M M' S true k.way;
    redex = in_lam k.redex;
    goes = λ p v c z h r. goes (lam_goes p v c z h (below_is M M' S true k.way r));
    comes = λ p c z h r. lam_comes p c z h (below_is M M' S true k.way r);
    one = λ p q v c z h h' f g r s. lam_one p q v c z h h' f g (below_is M M' S true k.way r)
        (below_is M M' S true k.way s);
    top = λ v c z e r. absurd (cc);
  }
    where
      goes : {p : Site} {v : Level} {c : Context} {z : Spot} → (p ≡ in_lam k.redex) ⊎ Goes (lam M') B p v c z →
          (p ≡ in_lam k.redex) ⊎ Goes (lam M') (way_below M M' S true k.way).R p v c z
      goes (inl e) = inl e
      goes (inr g) = inr (record {
        site = g.site;
        is = g.is;
        there = g.there;
        all = λ w d. is_below M M' S true k.way (g.all w d);
      })

-- ---- before an argument

module _ {τ : Translation} (R R' P : Tree) (S : Place → Level → Level → Type 0) (k : Step τ R R' S)
    (flat : is_abstraction R ≡ false)
    (is : (v v' : Level) → S root v v' → v ≡ v') (keeps : (v : Level) → S root v v) where
  abbrev Q : Spot → Spot → Type 0
  Q = Before k.way.R (SameBefore τ R R' P S)

  app_goes : (p : Site) (v : Level) (c : Context) (z : Spot) → Stands true (app R P) p →
      Q (spot_in p (base true v c)) z → (p ≡ in_function k.redex) ⊎ Goes (app R' P) Q p v c z
  app_goes self v c z h (funs {z = y} r) = inr (record {
    site = self;
    is = ap fun (k.top v c y flat r);
    there = (app R' P, whole, tt);
    all = λ w d. funs (k.way.start root w w d (keeps w));
  })
  app_goes (in_function p) v c z (u, of_function m, h) (funs {z = y} r) = by (k.goes p v c y (u, m, h) r)
    where
      by : (p ≡ k.redex) ⊎ Goes R' k.way.R p v c y →
          (in_function p ≡ in_function k.redex) ⊎ Goes (app R' P) Q (in_function p) v c (fun y)
      by (inl e) = inl (ap in_function e)
      by (inr g) = inr (record {
        site = in_function g.site;
        is = ap fun g.is;
        there = (g.there.0, of_function g.there.1, g.there.2);
        all = λ w d. funs (g.all w d);
      })
  app_goes (in_argument a p) v c z (u, of_argument m, h) args =
      inr (record { site = in_argument a p; is = refl; there = (u, of_argument m, h); all = λ w d. args })
  app_goes (in_lam _) v c z h x = elim x [ ]

  app_comes : (p : Site) (c : Context) (z : Spot) → Stands false (app R P) p →
      Q (spot_in p (base false empty c)) z → Comes (app R' P) c z
  app_comes self c z (u, whole, h) r = absurd h
  app_comes (in_function p) c z (u, of_function m, h) (funs {z = y} r) =
      let g = k.comes p c y (u, m, h) r in
      record { site = in_function g.site; is = ap fun g.is; there = (g.there.0, of_function g.there.1, g.there.2) }
  app_comes (in_argument a p) c z (u, of_argument m, h) args =
      record { site = in_argument a p; is = refl; there = (u, of_argument m, h) }
  app_comes (in_lam _) c z h x = elim x [ ]

  -- a spot of the function isn't at its root
  apart : (p : Site) (v : Level) (c : Context) (y : Spot) → Stands true R p → (p ≡ k.redex → ⊥) →
      k.way.R (spot_in p (base true v c)) y → k.way.R (at root v c) y → ⊥
  apart p v c y h f r s = by (k.goes p v c y h r)
    where
      by : (p ≡ k.redex) ⊎ Goes R' k.way.R p v c y → ⊥
      by (inl e) = f e
      by (inr g) = no_root g.site v v c c root (sym (k.top v c y flat s) ∙ g.is)

  app_one : (p q : Site) (v : Level) (c : Context) (z : Spot) → Stands true (app R P) p → Stands true (app R P) q →
      (p ≡ in_function k.redex → ⊥) → (q ≡ in_function k.redex → ⊥) →
      Q (spot_in p (base true v c)) z → Q (spot_in q (base true v c)) z → p ≡ q
  app_one self self v c z h h' f g r s = refl
  app_one self (in_function q) v c z h (u, of_function m, h') f g (funs {z = y} r) (funs s) =
      absurd (apart q v c y (u, m, h') (λ e. g (ap in_function e)) s r)
  app_one (in_function p) self v c z (u, of_function m, h) h' f g (funs {z = y} r) (funs s) =
      absurd (apart p v c y (u, m, h) (λ e. f (ap in_function e)) r s)
  app_one (in_function p) (in_function q) v c z (u, of_function m, h) (u', of_function m', h') f g
      (funs {z = y} r) (funs s) =
      ap in_function (k.one p q v c y (u, m, h) (u', m', h') (λ e. f (ap in_function e))
      (λ e. g (ap in_function e)) r s)
  app_one (in_argument a p) (in_argument l q) v c z h h' f g args s = by s refl refl
    where
      by : {w z : Spot} → Q w z → w ≡ arg l (spot_in q (base true v c)) →
          z ≡ arg a (spot_in p (base true v c)) → in_argument a p ≡ in_argument l q
      by args e e' =
          let x : arg a (spot_in p (base true v c)) ≡ arg l (spot_in q (base true v c)) = sym e' ∙ e in
          let i : a ≡ l = cc in
          ap (λ a. in_argument a p) i ∙ ap (in_argument l)
          (one_site p q v v c c (let j : spot_in p (base true v c) ≡ spot_in q (base true v c) = cc in j))
      by (funs r) e e' = absurd (cc)
      by (edges r) e e' = absurd (cc)
  app_one self (in_argument l q) v c z h h' f g (funs r) s = elim s [ ]
  app_one (in_function p) (in_argument l q) v c z h h' f g (funs r) s = elim s [ ]
  app_one (in_argument a p) self v c z h h' f g args s = elim s [ ]
  app_one (in_argument a p) (in_function q) v c z h h' f g args s = elim s [ ]
  app_one self (in_lam _) v c z h h' f g r s = elim s [ ]
  app_one (in_lam _) q v c z h h' f g r s = elim r [ ]
  app_one (in_function p) (in_lam _) v c z h h' f g r s = elim s [ ]
  app_one (in_argument a p) (in_lam _) v c z h h' f g r s = elim s [ ]

  pub app_step : Step τ (app R P) (app R' P) (SameBefore τ R R' P S)
  app_step = record {
    way = way_before R R' P S true k.way is keeps;
    redex = in_function k.redex;
    goes = λ p v c z h r. goes (app_goes p v c z h (before_is R R' P S true k.way is keeps r));
    comes = λ p c z h r. app_comes p c z h (before_is R R' P S true k.way is keeps r);
    one = λ p q v c z h h' f g r s.
        app_one p q v c z h h' f g (before_is R R' P S true k.way is keeps r)
        (before_is R R' P S true k.way is keeps s);
    top = λ v c z e r. top v c z (before_is R R' P S true k.way is keeps r);
  }
    where
      goes : {p : Site} {v : Level} {c : Context} {z : Spot} → (p ≡ in_function k.redex) ⊎ Goes (app R' P) Q p v c z →
          (p ≡ in_function k.redex) ⊎ Goes (app R' P) (way_before R R' P S true k.way is keeps).R p v c z
      goes (inl e) = inl e
      goes (inr g) = inr (record {
        site = g.site;
        is = g.is;
        there = g.there;
        all = λ w d. is_before R R' P S true k.way is keeps (g.all w d);
      })

      top : (v : Level) (c : Context) (z : Spot) → Q (at root v c) z → z ≡ at root v c
      top v c z (edges before_root) = refl

-- ---- any head step

module _ (τ : Translation) where
  root_is_kept : {R R' : Tree} (h : HeadStep R R') → is_abstraction R ≡ false → (v v' : Level) →
      Same τ h root v v' → v ≡ v'
  root_is_kept beta e v v' redex_root = refl
  root_is_kept (below h) e v v' r = absurd (cc)
  root_is_kept (before f h) e v v' before_root = refl

  root_keeps : {R R' : Tree} (h : HeadStep R R') → is_abstraction R ≡ false → (v : Level) → Same τ h root v v
  root_keeps beta e v = redex_root
  root_keeps (below h) e v = absurd (cc)
  root_keeps (before f h) e v = before_root

  pub step_of : {t t' : Tree} (h : HeadStep t t') → Step τ t t' (Same τ h)
  step_of (beta {M = M} {N = N}) = beta_step τ M N
  step_of (below {M = M} {M' = M'} h) = lam_step M M' (Same τ h) (step_of h)
  step_of (before {R = R} {R' = R'} {P = P} e h) = app_step R R' P (Same τ h) (step_of h) e
      (root_is_kept h e) (root_keeps h e)
