-- A head step keeps where each spot of the interface leads to.
use Rattle.std.proofs.Common.{◌<◌, ◌≡◌, ℕ, suc, ◌+◌, ◌≤◌, true, false, refl, sym, ap, ◌∙◌, subst, arith, ◌⊎◌, inl, inr}
use Rattle.std.proofs.lemmas.Bool.{or_left, or_right}
use Rattle.ol_law_meaning.specs.Contraction.{lam_own, empty, pair, body, lam_root, in_body, Tree, var, free, lam, app}
use Rattle.ol_law_meaning.specs.Contraction.{Level, o, star, Context, Wire, bound, under, occurs, left, right, Place}
use Rattle.ol_law_meaning.specs.Contraction.{root, wire, Spot, at, Edge, var_wire, free_wire, lam_wire, app_left}
use Rattle.ol_law_meaning.specs.Contraction.{app_right, Trail, here, on, back, ofM, ofN, WireOf, is_abstraction}
use Rattle.ol_law_meaning.specs.Contraction.{HeadStep, beta, below, before, Leads, IsSpotOf}
use Rattle.ol_law_meaning.specs.Steps.{SameRedex, redex_root, redex_m, redex_n, SameBelow, below_o}
use Rattle.ol_law_meaning.specs.Steps.{below_star, below_wire, SameBefore, before_root, before_left}
use Rattle.ol_law_meaning.specs.Steps.{before_right, Same, opened, Short}
use Rattle.ol_law_meaning.proofs.Trails.{tr_trans, tr_sym}
use Rattle.ol_law_meaning.proofs.Lifts.{same_is}
use Rattle.ol_law_meaning.proofs.Addresses.{left_one, right_one, sides_apart, occurs_old, spot_from, spot_to}
use Rattle.ol_law_meaning.proofs.Ones.{n_there, m_gives, n_gives, m_from, n_from, apart}
use Rattle.ol_law_meaning.proofs.Ways.{Has, Way, follow, renamed, way_below, way_before, Strict}
use Rattle.ol_law_meaning.proofs.Ways.{follow_strict, strict_below, strict_before}
use Rattle.ol_law_meaning.proofs.Betas.{way_there, way_back, strict_beta}
use Rattle.ol_term.specs.declared.translations.Translation.{Translation}

abbrev Flip : (Place → Level → Level → Type 0) → Place → Level → Level → Type 0
Flip S p v' v = S p v v'

flip_below : {S : Place → Level → Level → Type 0} (p : Place) (v v' : Level) →
    SameBelow (Flip S) p v v' → Flip (SameBelow S) p v v'
flip_below p v v' (below_o r) = below_o r
flip_below p v v' (below_star r) = below_star r
flip_below p v v' (below_wire r) = below_wire r

below_flip : {S : Place → Level → Level → Type 0} (p : Place) (v v' : Level) →
    Flip (SameBelow S) p v v' → SameBelow (Flip S) p v v'
below_flip p v v' (below_o r) = below_o r
below_flip p v v' (below_star r) = below_star r
below_flip p v v' (below_wire r) = below_wire r

module _ {τ : Translation} where
  flip_before : {R R' P : Tree} {S : Place → Level → Level → Type 0} (p : Place) (v v' : Level) →
      SameBefore τ R' R P (Flip S) p v v' → Flip (SameBefore τ R R' P S) p v v'
  flip_before p v v' before_root = before_root
  flip_before p v v' (before_left e1 e2 r) = before_left e2 e1 r
  flip_before p v v' (before_right b u k e1 e2) = before_right b u k e2 e1

  before_flip : {R R' P : Tree} {S : Place → Level → Level → Type 0} (p : Place) (v v' : Level) →
      Flip (SameBefore τ R R' P S) p v v' → SameBefore τ R' R P (Flip S) p v v'
  before_flip p v v' before_root = before_root
  before_flip p v v' (before_left e1 e2 r) = before_left e2 e1 r
  before_flip p v v' (before_right b u k e1 e2) = before_right b u k e2 e1

  -- at the root of what is no abstraction, each value stays
  redex_is : {M N : Tree} (v v' : Level) → SameRedex τ M N root v v' → v ≡ v'
  redex_is v v' redex_root = refl

  before_is : {R R' P : Tree} {S : Place → Level → Level → Type 0} (v v' : Level) →
      SameBefore τ R R' P S root v v' → v ≡ v'
  before_is v v' before_root = refl

module _ (τ : Translation) where
  root_is : {R R' : Tree} (h : HeadStep R R') → is_abstraction R ≡ false → (v v' : Level) → Same τ h root v v' → v ≡ v'
  root_is beta e v v' r = redex_is v v' r
  root_is (below h) e v v' r = absurd (cc)
  root_is (before f h) e v v' r = before_is v v' r

  root_keeps : {R R' : Tree} (h : HeadStep R R') → is_abstraction R ≡ false → (v : Level) → Same τ h root v v
  root_keeps beta e v = redex_root
  root_keeps (below h) e v = absurd (cc)
  root_keeps (before f h) e v = before_root

  pub root_same : {t t' : Tree} (h : HeadStep t t') (u : Level) → Same τ h root (opened t u) (opened t u)
  root_same beta u = redex_root
  root_same (below h) u = below_o (root_same h u)
  root_same (before e h) u = before_root

module _ {τ : Translation} where
  -- ---- the ways of a head step

  way_on : {t t' : Tree} (h : HeadStep t t') → Way τ t t' (Same τ h) true
  way_on (beta {M = M} {N = N}) = way_there τ M N
  way_on (below {M = M} {M' = M'} h) = way_below M M' (Same τ h) true (way_on h)
  way_on (before {R = R} {R' = R'} {P = P} e h) = way_before R R' P (Same τ h) true (way_on h)
      (root_is τ h e) (root_keeps τ h e)

  way_off : {t t' : Tree} (h : HeadStep t t') → Way τ t' t (Flip (Same τ h)) false
  way_off (beta {M = M} {N = N}) = way_back τ M N
  way_off (below {M = M} {M' = M'} h) = renamed flip_below below_flip
      (way_below M' M (Flip (Same τ h)) false (way_off h))
  way_off (before {R = R} {R' = R'} {P = P} e h) = renamed flip_before before_flip
      (way_before R' R P (Flip (Same τ h)) false (way_off h) (λ v' v r. sym (root_is τ h e v v' r)) (root_keeps τ h e))

opened_same : (R : Tree) (u : Level) → is_abstraction R ≡ false → opened R u ≡ u
opened_same (var y) u e = refl
opened_same (free f) u e = refl
opened_same (lam t) u e = absurd (cc)
opened_same (app t s) u e = refl

module _ {τ : Translation} where
  strict : {t t' : Tree} (h : HeadStep t t') (u : Level) (c : Context) →
      Strict τ t t' (Same τ h) (way_on h) (opened t u) c
  unfolding way_on
  strict (beta {M = M} {N = N}) u c = strict_beta τ M N u c
  strict (below {M = M} {M' = M'} h) u c = strict_below M M' (Same τ h) (way_on h) (opened M u) c (strict h u c)
  strict (before {R = R} {R' = R'} {P = P} e h) u c =
      strict_before R R' P (Same τ h) (way_on h) (root_is τ h e) (root_keeps τ h e) u c
      (subst (λ v. Strict τ R R' (Same τ h) (way_on h) v c) (opened_same R (o u) e) (strict h (o u) c))

  -- ---- Same is one-to-one

  redex_one : {M N : Tree} {p : Place} {v v' w w' : Level} → SameRedex τ M N p v v' →
      SameRedex τ M N p w w' → (v ≡ w → v' ≡ w') × (v' ≡ w' → v ≡ w)
  redex_one redex_root redex_root = (λ e. e, λ e. e)
  redex_one {M} {N} {v' = v'} (redex_m {y = y} {a = a} e r) (redex_m {a = b} e2 r2) = (
    λ q. m_gives (subst (λ a. WireOf τ N M 0 (ofM (under y) a) y v')
        (left_one N y a b (sym e ∙ q ∙ e2)) r) r2,
    λ q. e ∙ ap (left N y) (m_from r r2 q) ∙ sym e2,
  )
  redex_one {M} {N} (redex_m {y = y} {a = a} e r) (redex_n {b = b} {v = v} e2 r2) = (
    λ q. absurd (sides_apart (lam M) N y a b v (occurs_old r) (n_there r2).0 (sym q ∙ e) e2),
    λ q. absurd (apart r r2 q),
  )
  redex_one {M} {N} (redex_n {y = y} {b = b} {v = v} e r) (redex_m {a = a} e2 r2) = (
    λ q. absurd (sides_apart (lam M) N y a b v (occurs_old r2) (n_there r).0 (q ∙ e2) e),
    λ q. absurd (apart r2 r (sym q)),
  )
  redex_one {M} {N} {v' = v'} (redex_n {y = y} {b = b} {v = v} e r) (redex_n {b = b2} {v = v2} e2 r2) = (
    λ q. (let k = right_one e e2 q in
        n_gives (subst (λ v. WireOf τ N M 0 (ofN v y b2) y v') k.1
        (subst (λ b. WireOf τ N M 0 (ofN v y b) y v') k.0 r)) r2),
    λ q. (let k = n_from r r2 q in e.is ∙ ap (λ v. right τ (lam M) N y b v) k.0
        ∙ ap (λ b. right τ (lam M) N y b v2) k.1 ∙ sym e2.is),
  )

One : (Place → Level → Level → Type 0) → Type 0
One S = (p : Place) (v v' w w' : Level) → S p v v' → S p w w' → (v ≡ w → v' ≡ w') × (v' ≡ w' → v ≡ w)

below_one : {S : Place → Level → Level → Type 0} → One S → {p : Place} {v v' w w' : Level} →
    SameBelow S p v v' → SameBelow S p w w' → (v ≡ w → v' ≡ w') × (v' ≡ w' → v ≡ w)
unfolding One
below_one f (below_o {v = v} {v' = v'} r)
    (below_o {v = w} {v' = w'} r2) = let k = f root v v' w w' r r2 in (λ q. ap o (k.0 (cc)), λ q. ap o (k.1 (cc)))
below_one f (below_o r) (below_star r2) = (λ q. absurd (cc), λ q. absurd (cc))
below_one f (below_star r) (below_o r2) = (λ q. absurd (cc), λ q. absurd (cc))
below_one f (below_star {a = v} {a' = v'} r) (below_star {a = w} {a' = w'} r2) = let k = f
    (wire (bound 0)) v v' w w' r r2 in (λ q. ap star (k.0 (cc)), λ q. ap star (k.1 (cc)))
below_one f (below_wire {y = y} {a = v} {a' = v'} r) (below_wire {a = w} {a' = w'} r2) = f
    (wire (under y)) v v' w w' r r2

module _ {τ : Translation} where
  before_one : {R R' P : Tree} {S : Place → Level → Level → Type 0} → Way τ R R' S true → One S →
      {p : Place} {v v' w w' : Level} → SameBefore τ R R' P S p v v' →
      SameBefore τ R R' P S p w w' → (v ≡ w → v' ≡ w') × (v' ≡ w' → v ≡ w)
  unfolding One
  before_one m f before_root before_root = (λ e. e, λ e. e)
  before_one {R} {R'} {P} m f (before_left {y = y} {a = a} {a' = a'} e1 e2 r) (before_left {a = b} {a' = b'} q1 q2 r2) =
      let k = f (wire y) a a' b b' r r2 in (
        λ q. e2 ∙ ap (left P y) (k.0 (left_one P y a b (sym e1 ∙ q ∙ q1))) ∙ sym q2,
        λ q. e1
            ∙ ap (left P y) (k.1 (left_one P y a' b' (sym e2 ∙ q ∙ q2))) ∙ sym q1,
      )
  before_one {R} {R'} {P} m f (before_left {y = y} {a = a} {a' = a'} e1 e2 r) (before_right b u k q1 q2) = (
    λ q. absurd (sides_apart R P y a b u (m.old y a a' r) k (sym q ∙ e1) q1),
    λ q. absurd (sides_apart R' P y a' b u (m.new y a a' r) k (sym q ∙ e2) q2),
  )
  before_one {R} {R'} {P} m f (before_right {y = y} b u k q1 q2) (before_left {a = a} {a' = a'} e1 e2 r) = (
    λ q. absurd (sides_apart R P y a b u (m.old y a a' r) k (q ∙ e1) q1),
    λ q. absurd (sides_apart R' P y a' b u (m.new y a a' r) k (q ∙ e2) q2),
  )
  before_one {R} {R'} {P} m f (before_right {y = y} b u k e1 e2) (before_right b2 u2 k2 q1 q2) = (
    λ q. (let t = right_one e1 q1 q in e2.is ∙ ap (λ b. right τ R' P y b u) t.0
        ∙ ap (λ u. right τ R' P y b2 u) t.1 ∙ sym q2.is),
    λ q. (let t = right_one e2 q2 q in e1.is ∙ ap (λ b. right τ R P y b u) t.0
        ∙ ap (λ u. right τ R P y b2 u) t.1 ∙ sym q1.is),
  )

module _ (τ : Translation) where
  pub same_one : {t t' : Tree} (h : HeadStep t t') (p : Place) (v v' w w' : Level) →
      Same τ h p v v' → Same τ h p w w' → (v ≡ w → v' ≡ w') × (v' ≡ w' → v ≡ w)
  unfolding One
  same_one beta p v v' w w' r r2 = redex_one r r2
  same_one (below h) p v v' w w' r r2 = below_one (same_one h) r r2
  same_one (before e h) p v v' w w' r r2 = before_one (way_on h) (same_one h) r r2

module _ {τ : Translation} where
  -- ---- a trail ends at a port of the term

  edge_from : {t : Tree} {y : Wire} {v : Level} {c : Context} {s : Spot} {n : ℕ} →
      Edge τ t (at (wire y) v c) s n → occurs y t ≡ true
  edge_from (lam_wire {M = M} e m) = subst (λ u. occurs u M ≡ true) e m
  edge_from {y = y} (app_left {M = M} {N = N} m e) = or_left (occurs y M) (occurs y N) m
  edge_from {y = y} (app_right {M = M} {N = N} m e) = or_right (occurs y M) (occurs y N) m

  edge_to : {t : Tree} {y : Wire} {v : Level} {c : Context} {s : Spot} {n : ℕ} →
      Edge τ t s (at (wire y) v c) n → occurs y t ≡ true
  edge_to (var_wire {y = y} e) = same_is y
  edge_to (free_wire {f = f} e) = same_is f

  begins : {t : Tree} {y : Wire} {v : Level} {c : Context} {s : Spot} {n : ℕ} →
      Trail (Edge τ t) (at (wire y) v c) s n → (at (wire y) v c ≡ s → ⊥) → occurs y t ≡ true
  begins here f = absurd (f refl)
  begins (on e t h) f = edge_from e
  begins (back e t h) f = edge_to e

  pub ends : {t : Tree} (q : Place) {v : Level} {c : Context} {s : Spot} {n : ℕ} →
      Trail (Edge τ t) s (at q v c) n → (s ≡ at q v c → ⊥) → Has q t
  ends root t f = tt
  ends (wire y) t f = begins (tr_sym t) (λ e. f (sym e))

  -- and at one of its spots
  pub ends_spot : {t : Tree} {z s : Spot} {n : ℕ} → Trail (Edge τ t) s z n → (s ≡ z → ⊥) → IsSpotOf τ t z
  ends_spot t f = from_here (tr_sym t) (λ e. f (sym e))
    where
      from_here : {t : Tree} {z s : Spot} {n : ℕ} → Trail (Edge τ t) z s n → (z ≡ s → ⊥) → IsSpotOf τ t z
      from_here here f = absurd (f refl)
      from_here (on e t h) f = spot_from e
      from_here (back e t h) f = spot_to e

module _ (τ : Translation) where
  -- ---- what leads on before the step, and after it

  at_one : {t t' : Tree} (h : HeadStep t t') (p q : Place) (v v' w w' : Level) (c d : Context) →
      Same τ h p v v' → Same τ h q w w' → (at p v c ≡ at q w d → at p v' c ≡ at q w' d)
      × (at p v' c ≡ at q w' d → at p v c ≡ at q w d)
  at_one h p q v v' w w' c d r r2 = (
    λ e. (let i : p ≡ q = cc in let j : v ≡ w = cc in let k : c ≡ d = cc in
        let l = (same_one τ h p v v' w w' r (subst (λ p. Same τ h p w w') (sym i) r2)).0 j in cc),
    λ e. (let i : p ≡ q = cc in let j : v' ≡ w' = cc in let k : c ≡ d = cc in
        let l = (same_one τ h p v v' w w' r (subst (λ p. Same τ h p w w') (sym i) r2)).1 j in cc),
  )

module _ {τ : Translation} where
  stays : {t t' : Tree} (h : HeadStep t t') (p q : Place) (v v' w : Level) (c d : Context) (n : ℕ) →
      Same τ h p v v' → Leads τ t (at p v c) (at q w d) n →
      (w' : Level) × Same τ h q w w' × (n' : ℕ) × (n' ≤ n) × Leads τ t' (at p v' c) (at q w' d) n'
  stays h p q v v' w c d n r l =
      let way = way_on h in
      let k = follow way l.0 (way.start p v v' c r) in
      let x = way.out q w d k.spot k.rel (ends q l.0 l.1) in
      let a = k.few refl in
      let b = x.few refl in (
        x.level,
        x.same,
        k.weight + x.weight,
        (omega arith),
        (tr_trans k.trail x.trail refl, λ e. l.1 ((at_one τ h p q v v' w x.level c d r x.same).1 e)),
      )

  gains : {t t' : Tree} (h : HeadStep t t') (q : Place) (u v' w : Level) (c d : Context) (n : ℕ) →
      Same τ h root (opened t u) v' → Leads τ t (at root (opened t u) c) (at q w d) n →
      (w' : Level) × Same τ h q w w' × (n' : ℕ) × (suc n' ≤ n) × Leads τ t' (at root v' c) (at q w' d) n'
  gains {t} {t'} h q u v' w c d n r l =
      let way = way_on h in
      let st = strict h u c in
      let g = follow_strict t t' (Same τ h) way (opened t u) c st l.0 (way.start root (opened t u) v' c r) st.first in
      let k = g.next in
      let x = way.out q w d k.spot k.rel (ends q l.0 l.1) in
      let b = x.few refl in
      let f = light g.gain in (
        x.level,
        x.same,
        k.weight + x.weight,
        (omega arith),
        (tr_trans k.trail x.trail refl, λ e. l.1 ((at_one τ h root q (opened t u) v' w x.level c d r x.same).1 e)),
      )
    where
      light : {m : ℕ} → (strict {τ = τ} h u c).Pre (at q w d) ⊎ (suc m ≤ n) → suc m ≤ n
      light (inl p) = absurd (l.1 (sym ((strict {τ = τ} h u c).only q w d p)))
      light (inr k) = k

  pub reflects : {t t' : Tree} (h : HeadStep t t') (p q : Place) (v v' w' : Level) (c d : Context)
      (n' : ℕ) → Same τ h p v v' → Leads τ t' (at p v' c) (at q w' d) n' →
      (w : Level) × Same τ h q w w' × (n : ℕ) × Leads τ t (at p v c) (at q w d) n
  reflects h p q v v' w' c d n' r l =
      let way = way_off h in
      let k = follow way l.0 (way.start p v' v c r) in
      let x = way.out q w' d k.spot k.rel (ends q l.0 l.1) in (
        x.level,
        x.same,
        k.weight + x.weight,
        (tr_trans k.trail x.trail refl, λ e. l.1 ((at_one τ h p q v v' x.level w' c d r x.same).0 e)),
      )

-- which values pass all outer abstractions
passes : (t : Tree) (v : Level) → ((u : Level) × (v ≡ opened t u)) ⊎ ((u : Level) → v ≡ opened t u → ⊥)
passes (lam t) (o v) = more (passes t v)
  where
    more : ((u : Level) × (v ≡ opened t u)) ⊎ ((u : Level) → v ≡ opened t u → ⊥) →
        ((u : Level) × (o v ≡ o (opened t u))) ⊎ ((u : Level) → o v ≡ o (opened t u) → ⊥)
    more (inl (u, e)) = inl (u, ap o e)
    more (inr f) = inr (λ u e. f u (cc))
passes (lam t) empty = inr (λ u e. absurd (cc))
passes (lam t) (star v) = inr (λ u e. absurd (cc))
passes (lam t) (pair v w) = inr (λ u e. absurd (cc))
passes (var y) v = inl (v, refl)
passes (free f) v = inl (v, refl)
passes (app t s) v = inl (v, refl)

module _ {τ : Translation} where
  pub keeps : {t t' : Tree} (h : HeadStep t t') (p q : Place) (v v' w : Level) (c d : Context)
      (n : ℕ) → Same τ h p v v' → Leads τ t (at p v c) (at q w d) n →
      (w' : Level) × Same τ h q w w' × (n' : ℕ) × (n' ≤ n)
      × ((u : Level) → p ≡ root → v ≡ opened t u → n' < n) × Leads τ t' (at p v' c) (at q w' d) n'
  keeps {t} {t'} h (wire y) q v v' w c d n r l = let k = stays h (wire y) q v v' w c d n r l in
      (k.0, k.1, k.2, k.3, (λ u e f. absurd (cc)), k.4)
  keeps {t} {t'} h root q v v' w c d n r l = by (passes t v)
    where
      by : ((u : Level) × (v ≡ opened t u)) ⊎ ((u : Level) → v ≡ opened t u → ⊥) →
          (w' : Level) × Same τ h q w w' × (n' : ℕ) × (n' ≤ n)
          × ((u : Level) → root ≡ root → v ≡ opened t u → n' < n) × Leads τ t' (at root v' c) (at q w' d) n'
      by (inl (u, e)) =
          let k = gains h q u v' w c d n (subst (λ v. Same τ h root v v') e r)
          (subst (λ v. Leads τ t (at root v c) (at q w d) n) e l) in
          let f = k.3 in
          (k.0, k.1, k.2, (omega arith), (λ u i j. (omega arith)), k.4)
      by (inr f) = let k = stays h root q v v' w c d n r l in (k.0, k.1, k.2, k.3, (λ u e i. absurd (f u i)), k.4)

-- ---- values that stop at an outer abstraction

pub data Chain (c : Context) : Tree → Level → Spot → Type 0 where
  top : {t : Tree} {v : Level} → Chain c t v (at root v c)
  down : {t : Tree} {v : Level} {s : Spot} → Chain c t v s → Chain c (lam t) (o v) (body s)

module _ {τ : Translation} where
  chain_on : (c : Context) (t : Tree) (v : Level) {s s' : Spot} {n : ℕ} → Short t v →
      Chain c t v s → Edge τ t s s' n → Chain c t v s'
  chain_on c (lam t) (o v) h top lam_root = down top
  chain_on c (lam t) (o v) h (down k) (in_body e) = down (chain_on c t v h k e)
  chain_on c (lam t) empty h top e = elim e [ ]
  chain_on c (lam t) (star v) h k e = elim h [ ]
  chain_on c (lam t) (pair v w) h k e = elim h [ ]
  chain_on c (var y) v h k e = elim h [ ]
  chain_on c (free f) v h k e = elim h [ ]
  chain_on c (app t r) v h k e = elim h [ ]

  chain_off : (c : Context) (t : Tree) (v : Level) {s s' : Spot} {n : ℕ} → Short t v →
      Chain c t v s → Edge τ t s' s n → Chain c t v s'
  chain_off c (lam t) (o v) h (down top) lam_root = top
  chain_off c (lam t) (o v) h (down k) (in_body e) = down (chain_off c t v h k e)
  chain_off c (lam t) empty h top e = elim e [ ]
  chain_off c (lam t) (star v) h k e = elim h [ ]
  chain_off c (lam t) (pair v w) h k e = elim h [ ]
  chain_off c (var y) v h k e = elim h [ ]
  chain_off c (free f) v h k e = elim h [ ]
  chain_off c (app t r) v h k e = elim h [ ]
  chain_off c (lam t) (o v) h top e = elim e [ ]
  chain_off c (lam t) (o v) h (down k) (lam_own m) = elim k [ ]
  chain_off c (lam t) (o v) h (down k) (lam_wire e m) = elim k [ ]

  pub chain_trail : (c : Context) (t : Tree) (v : Level) {s s' : Spot} {n : ℕ} → Short t v →
      Trail (Edge τ t) s s' n → Chain c t v s → Chain c t v s'
  chain_trail c t v h here k = k
  chain_trail c t v h (on e a q) k = chain_trail c t v h a (chain_on c t v h k e)
  chain_trail c t v h (back e a q) k = chain_trail c t v h a (chain_off c t v h k e)

chain_top : {c : Context} {t : Tree} {v : Level} {q : Place} {w : Level} {d : Context} →
    Chain c t v (at q w d) → at root v c ≡ at q w d
chain_top top = refl

module _ {τ : Translation} where
  pub stuck : (t : Tree) (q : Place) (v w : Level) (c d : Context) (n : ℕ) → Short t v →
      Leads τ t (at root v c) (at q w d) n → ⊥
  stuck t q v w c d n h l = l.1 (chain_top (chain_trail c t v h l.0 top))

pub stays_short : {t t' : Tree} (h : HeadStep t t') (v : Level) → Short t v → Short t' v
stays_short (below h) (o v) k = stays_short h v k
stays_short (below h) empty k = tt
stays_short (below h) (star v) k = elim k [ ]
stays_short (below h) (pair v w) k = elim k [ ]
stays_short beta v k = elim k [ ]
stays_short (before e h) v k = elim k [ ]
