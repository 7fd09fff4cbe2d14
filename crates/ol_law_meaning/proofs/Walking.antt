-- Head normal forms: the way to the head, and head reduction to one.
use Rattle.std.proofs.Common.{◌<◌, ◌≡◌, ℕ, zero, suc, ◌+◌, ◌≤◌, true, false, refl, sym, ap, ◌∙◌}
use Rattle.std.proofs.Common.{subst, arith, ◌⊎◌, inl, inr}
use Rattle.std.proofs.lemmas.Bool.{or_left}
use Rattle.ol_law_meaning.specs.Contraction.{Tree, var, free, lam, app, Level, empty, o, star, Context, cons}
use Rattle.ol_law_meaning.specs.Contraction.{Wire, bound, name, occurs, left, Place, root, wire, at, Edge}
use Rattle.ol_law_meaning.specs.Contraction.{var_wire, free_wire, app_root, app_left, Trail, on}
use Rattle.ol_law_meaning.specs.Contraction.{is_abstraction, HeadStep, beta, below, before, Leads}
use Rattle.ol_law_meaning.specs.Steps.{SameRedex, redex_root, below_o, below_star, SameBefore}
use Rattle.ol_law_meaning.specs.Steps.{before_root, Same, opened, Short}
use Rattle.ol_law_meaning.specs.Heads.{os, outer, Spine, head_var, head_free, head_app, up_root, up_own}
use Rattle.ol_law_meaning.specs.Heads.{up_wire, Normal, flat, layer, Steps, done, step, SameAlong}
use Rattle.ol_law_meaning.proofs.Trails.{tr_trans, one, one_back, tr_body, tr_fun}
use Rattle.ol_law_meaning.proofs.Lifts.{same_is}
use Rattle.ol_law_meaning.proofs.Ways.{Has}
use Rattle.ol_law_meaning.proofs.Mains.{keeps, reflects, root_same, stuck}
use Rattle.ol_law_meaning.proofs.Channels.{Channel, along, channel_var, channel_free, channel_app, channel_lam, up_edge}
use Rattle.ol_term.specs.declared.translations.Translation.{Translation}

-- ---- o so many times

pub os_o : (n : ℕ) (v : Level) → os n (o v) ≡ o (os n v)
os_o zero v = refl
os_o (suc n) v = ap o (os_o n v)

pub os_sum : (n m : ℕ) (v : Level) → os n (os m v) ≡ os (n + m) v
os_sum zero m v = ap (λ k. os k v) (let k : m ≡ 0 + m = omega arith in k)
os_sum (suc n) m v = ap o (os_sum n m v) ∙ ap (λ k. os k v) (let k : suc (n + m) ≡ suc n + m = omega arith in k)

pub opened_os : (t : Tree) (u : Level) → opened t u ≡ os (outer t) u
opened_os (lam t) u = ap o (opened_os t u)
opened_os (var y) u = refl
opened_os (free f) u = refl
opened_os (app t s) u = refl

pub short_os : (t : Tree) (n : ℕ) → n < outer t → Short t (os n empty)
short_os (lam t) zero h = tt
short_os (lam t) (suc n) h = short_os t n (omega arith)
short_os (var y) n h = absurd (omega arith)
short_os (free f) n h = absurd (omega arith)
short_os (app t s) n h = absurd (omega arith)

module _ {τ : Translation} where
  pub few : (t : Tree) (q : Place) (w : Level) (c d : Context) (n m : ℕ) → n < outer t →
      Leads τ t (at root (os n empty) c) (at q w d) m → ⊥
  few t q w c d n m h l = stuck t q (os n empty) w c d m (short_os t n h) l

-- ---- the way to the head

pub spine_occurs : {t : Tree} {y : Wire} {a : Level} {j : ℕ} → Spine t y a j → occurs y t ≡ true
spine_occurs (head_var {y = y}) = same_is y
spine_occurs (head_free {f = f}) = same_is f
spine_occurs (head_app {R = R} {P = P} {y = y} s e) = or_left (occurs y R) (occurs y P) (spine_occurs s)

module _ {τ : Translation} where
  pub spine_path : {t : Tree} {y : Wire} {a : Level} {j : ℕ} → Spine t y a j →
      (v : Level) (c : Context) → Trail (Edge τ t) (at root v c) (at (wire y) a (cons (os j v) c)) j
  spine_path head_var v c = one (var_wire refl)
  spine_path head_free v c = one (free_wire refl)
  spine_path (head_app {R = R} {P = P} {y = y} {a = a} {w = w} {j = j} s e) v c =
      subst (λ l. Trail (Edge τ (app R P)) (at root v c) (at (wire y) w (cons l c)) (suc j)) (os_o j v)
      (on app_root (tr_trans (tr_fun (spine_path s (o v) c))
      (one_back (app_left (spine_occurs s) e)) refl) (omega arith))

  pub spine_channel : {t : Tree} {y : Wire} {a : Level} {j : ℕ} → Spine t y a j →
      (v : Level) (c : Context) → Channel τ t (at root v c) (at (wire y) a (cons (os j v) c))
  spine_channel (head_var {y = y}) v c = channel_var y v c
  spine_channel (head_free {f = f}) v c = channel_free f v c
  spine_channel (head_app {R = R} {P = P} {y = y} {a = a} {w = w} {j = j} s e) v c =
      channel_app (spine_occurs s) e (subst
      (λ l. Channel τ R (at root (o v) c) (at (wire y) a (cons l c))) (os_o j v) (spine_channel s (o v) c))

pub spine_outer : {t : Tree} {y : Wire} {a : Level} {j : ℕ} → Spine t y a j → outer t ≡ 0
spine_outer head_var = refl
spine_outer head_free = refl
spine_outer (head_app s e) = refl

normal_has : {t : Tree} {q : Place} {a : Level} {j : ℕ} → Normal t q a j → Has q t
normal_has (flat s) = spine_occurs s
normal_has (layer k (up_root e)) = tt
normal_has (layer k (up_own g e)) = tt
normal_has (layer {t = t} k (up_wire e f)) = subst (λ z. occurs z t ≡ true) e (normal_has k)

module _ {τ : Translation} where
  normal_path : {t : Tree} {q : Place} {a : Level} {j : ℕ} → Normal t q a j →
      (u : Level) (c : Context) → Trail (Edge τ t) (at root (os (outer t) u) c) (at q a (cons (os j u) c)) j
  normal_path (flat {t = t} {y = y} {a = a} {j = j} s) u c = subst
      (λ n. Trail (Edge τ t) (at root (os n u) c) (at (wire y) a (cons (os j u) c)) j)
      (sym (spine_outer s)) (spine_path s u c)
  normal_path (layer {t = t} {j = j} k h) u c =
      tr_trans (tr_trans (one (up_edge (up_root refl) tt c)) (tr_body (normal_path k u c)) refl)
      (one_back (up_edge h (normal_has k) (cons (os j u) c))) (omega arith)

  normal_channel : {t : Tree} {q : Place} {a : Level} {j : ℕ} → Normal t q a j →
      (u : Level) (c : Context) → Channel τ t (at root (os (outer t) u) c) (at q a (cons (os j u) c))
  normal_channel (flat {t = t} {y = y} {a = a} {j = j} s) u c = subst
      (λ n. Channel τ t (at root (os n u) c) (at (wire y) a (cons (os j u) c)))
      (sym (spine_outer s)) (spine_channel s u c)
  normal_channel (layer k h) u c = channel_lam (up_root refl) h (normal_channel k u c)

-- the head's value isn't the one begun with
normal_apart : {t : Tree} {q : Place} {a : Level} {j : ℕ} → Normal t q a j → (u : Level) →
    q ≡ root → os (outer t) u ≡ a → ⊥
normal_apart (flat s) u e f = absurd (cc)
normal_apart (layer {t = t} {v = v} k (up_root h)) u e f = normal_apart k u refl
    (let i : o (os (outer t) u) ≡ o v = f ∙ h in cc)
normal_apart (layer {t = t} k (up_own {a = a} g h)) u e f = absurd (let i : o (os (outer t) u) ≡ star a = f ∙ h in cc)
normal_apart (layer k (up_wire g h)) u e f = absurd (cc)

module _ {τ : Translation} where
  pub head_path : {t : Tree} {q : Place} {a : Level} {j : ℕ} → Normal t q a j →
      (u : Level) (c : Context) → Leads τ t (at root (os (outer t) u) c) (at q a (cons (os j u) c)) j
  head_path {t} {q} {a} k u c = (
    normal_path k u c,
    λ e. normal_apart k u (let i : root ≡ q = cc in sym i) (let i : os (outer t) u ≡ a = cc in i),
  )

  pub head_only : {t : Tree} {q : Place} {a : Level} {j : ℕ} → Normal t q a j →
      (u : Level) (c : Context) (p : Place) (v : Level) (d : Context) (n : ℕ) →
      Leads τ t (at root (os (outer t) u) c) (at p v d) n → at p v d ≡ at q a (cons (os j u) c)
  head_only {t} {q} {a} {j} k u c p v d n l = by (h.only p v d (along h l.0 h.first))
    where
      h : Channel τ t (at root (os (outer t) u) c) (at q a (cons (os j u) c))
      h = normal_channel k u c

      by : (at p v d ≡ at root (os (outer t) u) c) ⊎ (at p v d ≡ at q a (cons (os j u) c)) →
          at p v d ≡ at q a (cons (os j u) c)
      by (inl e) = absurd (l.1 (sym e))
      by (inr e) = e

-- ---- a head normal form, or a head step

abbrev pub IsNormal : Tree → Type 0
IsNormal t = (q : Place) × (a : Level) × (j : ℕ) × Normal t q a j

pub under_lam : {t : Tree} (p : Place) {v : Level} {j : ℕ} → Normal t p v j → IsNormal (lam t)
under_lam root {v = v} {j = j} k = (root, o v, j, layer k (up_root refl))
under_lam (wire (bound zero)) {v = v} {j = j} k = (root, star v, j, layer k (up_own refl refl))
under_lam (wire (bound (suc y))) {v = v} {j = j} k = (wire (bound y), v, j, layer k (up_wire refl refl))
under_lam (wire (name f)) {v = v} {j = j} k = (wire (name f), v, j, layer k (up_wire refl refl))

with_arg : {R P : Tree} {q : Place} {a : Level} {j : ℕ} → is_abstraction R ≡ false → Normal R q a j → IsNormal (app R P)
with_arg {P = P} e (flat {y = y} {a = a} {j = j} s) = (wire y, left P y a, suc j, flat (head_app s refl))
with_arg e (layer k h) = absurd (cc)

pub normal_or_step : (t : Tree) → ((q : Place) × (a : Level) × (j : ℕ) × Normal t q a j) ⊎ ((t' : Tree) × HeadStep t t')
normal_or_step (var y) = inl (wire (bound y), empty, 0, flat head_var)
normal_or_step (free f) = inl (wire (name f), empty, 0, flat head_free)
normal_or_step (lam t) = by (normal_or_step t)
  where
    by : ((q : Place) × (a : Level) × (j : ℕ) × Normal t q a j) ⊎ ((t' : Tree) × HeadStep t t') →
        ((q : Place) × (a : Level) × (j : ℕ) × Normal (lam t) q a j) ⊎ ((t' : Tree) × HeadStep (lam t) t')
    by (inl k) = inl (under_lam k.0 k.3)
    by (inr k) = inr (lam k.0, below k.1)
normal_or_step (app (lam M) P) = inr (_, beta)
normal_or_step (app (var y) P) = inl (with_arg refl (flat head_var))
normal_or_step (app (free f) P) = inl (with_arg refl (flat head_free))
normal_or_step (app (app t s) P) = by (normal_or_step (app t s))
  where
    by : ((q : Place) × (a : Level) × (j : ℕ) × Normal (app t s) q a j)
        ⊎ ((t' : Tree) × HeadStep (app t s) t') →
        ((q : Place) × (a : Level) × (j : ℕ) × Normal (app (app t s) P) q a j)
        ⊎ ((t' : Tree) × HeadStep (app (app t s) P) t')
    by (inl k) = inl (with_arg refl k.3)
    by (inr k) = inr (app k.0 P, before refl k.1)

-- ---- head reduction

pub outer_grows : {t t' : Tree} → HeadStep t t' → outer t ≤ outer t'
outer_grows beta = omega arith
outer_grows (below h) = let k = outer_grows h in omega arith
outer_grows (before e h) = omega arith

pub outer_along : {t u : Tree} {m : ℕ} → Steps t u m → outer t ≤ outer u
outer_along done = omega arith
outer_along (step h s) = let a = outer_grows h in let b = outer_along s in omega arith

-- o^n with at least so many o
pub record Passing (t : Tree) (n : ℕ) : Type 0 where
  pub rest : ℕ
  pub sum : n ≡ outer t + rest
  pub is : os n empty ≡ opened t (os rest empty)

pub passing : (t : Tree) (n : ℕ) → outer t ≤ n → Passing t n
passing t n h = by (below_is (outer t) n h)
  where
    below_is : (a n : ℕ) → a ≤ n → (r : ℕ) × (n ≡ a + r)
    below_is zero n h = (n, (omega arith))
    below_is (suc a) zero h = absurd (omega arith)
    below_is (suc a) (suc n) h = let k = below_is a n (omega arith) in (k.0, (let e = k.1 in omega arith))

    by : (r : ℕ) × (n ≡ outer t + r) → Passing t n
    by (r, e) = record {
      rest = r;
      sum = e;
      is = ap (λ n. os n empty) e
          ∙ sym (os_sum (outer t) r empty) ∙ sym (opened_os t (os r empty));
    }

pub least_or : (a n : ℕ) → (n < a) ⊎ (a ≤ n)
least_or zero n = inr (omega arith)
least_or (suc a) zero = inl (omega arith)
least_or (suc a) (suc n) = by (least_or a n)
  where
    by : (n < a) ⊎ (a ≤ n) → (suc n < suc a) ⊎ (suc a ≤ suc n)
    by (inl h) = inl (omega arith)
    by (inr h) = inr (omega arith)

module _ {τ : Translation} where
  pub leads_passing : (t : Tree) (q : Place) (w : Level) (c d : Context) (n m : ℕ) →
      Leads τ t (at root (os n empty) c) (at q w d) m → Passing t n
  leads_passing t q w c d n m l = by (least_or (outer t) n)
    where
      by : (n < outer t) ⊎ (outer t ≤ n) → Passing t n
      by (inl h) = absurd (few t q w c d n m h l)
      by (inr h) = passing t n h

module _ (τ : Translation) where
  pub root_stays : {t t' : Tree} (h : HeadStep t t') (n : ℕ) → Passing t n → Same τ h root (os n empty) (os n empty)
  root_stays h n p = subst (λ v. Same τ h root v v) (sym p.is) (root_same τ h (os p.rest empty))

module _ {τ : Translation} where
  pub exit_is : {t u : Tree} {m : ℕ} (s : Steps t u m) (p q : Place) (v a : Level) (j : ℕ)
      (c d : Context) (n w : ℕ) → Normal u q a j → Leads τ t (at root (os n empty) c) (at p v d) w →
      (m ≤ w) × (p ≡ q) × SameAlong τ s q v a × (e : ℕ) × (n ≡ outer u + e) × (d ≡ cons (os (j + e) empty) c)
  exit_is (done {t = t}) p q v a j c d n w k l =
      let r = leads_passing t p v c d n w l in
      let x : at p v d ≡ at q a (cons (os j (os r.rest empty)) c) =
      head_only k (os r.rest empty) c p v d w
      (subst (λ z. Leads τ t (at root z c) (at p v d) w) (r.is ∙ opened_os t (os r.rest empty)) l) in
      let y : d ≡ cons (os j (os r.rest empty)) c = cc in (
        (omega arith),
        (let i : p ≡ q = cc in i),
        (let i : v ≡ a = cc in i),
        r.rest,
        r.sum,
        y
            ∙ ap (λ z. cons z c) (os_sum j r.rest empty),
      )
  exit_is (step {t = t} h s) p q v a j c d n w k l =
      let r = leads_passing t p v c d n w l in
      let x = keeps h root p (os n empty) (os n empty) v c d w (root_stays τ h n r) l in
      let y = exit_is s p q x.0 a j c d n x.2 k x.5 in
      let f = x.4 (os r.rest empty) refl r.is in
      let g = y.0 in
      ((omega arith), y.1, (x.0, subst (λ p. Same τ h p v x.0) y.1 x.1, y.2), y.3, y.4, y.5)

record Reached (t : Tree) : Type 0 where
  pub last : Tree
  pub count : ℕ
  pub steps : Steps t last count
  pub port : Place
  pub level : Level
  pub args : ℕ
  pub normal : Normal last port level args

module _ {τ : Translation} where
  reached : (t : Tree) (b : ℕ) (p : Place) (v : Level) (c d : Context) (n w : ℕ) → w ≤ b →
      Leads τ t (at root (os n empty) c) (at p v d) w →
      ((q : Place) × (a : Level) × (j : ℕ) × Normal t q a j) ⊎ ((t' : Tree) × HeadStep t t') → Reached t
  reached t b p v c d n w f l (inl k) = record {
    last = t;
    count = 0;
    steps = done;
    port = k.0;
    level = k.1;
    args = k.2;
    normal = k.3;
  }
  reached t zero p v c d n w f l (inr k) = let r = leads_passing t p v c d n w l in
      let x = keeps k.1 root p (os n empty) (os n empty) v c d w (root_stays τ k.1 n r) l in
      let g = x.4 (os r.rest empty) refl r.is in absurd (omega arith)
  reached t (suc b) p v c d n w f l (inr k) =
      let r = leads_passing t p v c d n w l in
      let x = keeps k.1 root p (os n empty) (os n empty) v c d w (root_stays τ k.1 n r) l in
      let g = x.4 (os r.rest empty) refl r.is in
      let y = reached k.0 b p x.0 c d n x.2 (omega arith) x.5 (normal_or_step k.0) in
      record {
        last = y.last;
        count = suc y.count;
        steps = step k.1 y.steps;
        port = y.port;
        level = y.level;
        args = y.args;
        normal = y.normal;
      }

  pub found : (t : Tree) (p : Place) (v : Level) (c d : Context) (n w : ℕ) →
      Leads τ t (at root (os n empty) c) (at p v d) w →
      (u : Tree) × (m : ℕ) × (s : Steps t u m) × (m ≤ w) × (a : Level) × (j : ℕ) × Normal u p a j
      × SameAlong τ s p v a × (e : ℕ) × (n ≡ outer u + e) × (d ≡ cons (os (j + e) empty) c)
  found t p v c d n w l =
      let y = reached t w p v c d n w (omega arith) l (normal_or_step t) in
      let x = exit_is y.steps p y.port v y.level y.args c d n w y.normal l in (
        y.last,
        y.count,
        y.steps,
        x.0,
        y.level,
        y.args,
        subst (λ q. Normal y.last q y.level y.args) (sym x.1) y.normal,
        subst (λ q. SameAlong τ y.steps q v y.level) (sym x.1) x.2,
        x.3,
        x.4,
        x.5,
      )

  pub is_found : {t u : Tree} {m : ℕ} (s : Steps t u m) (q : Place) (a : Level) (j : ℕ) (c : Context) → Normal u q a j →
      (v : Level) × SameAlong τ s q v a × (w : ℕ)
      × Leads τ t (at root (os (outer u) empty) c) (at q v (cons (os j empty) c)) w
  is_found done q a j c k = (a, refl, j, head_path k empty c)
  is_found (step {t = t} {u = u} h s) q a j c k =
      let y = is_found s q a j c k in
      let x = reflects h root q (os (outer u) empty) (os (outer u) empty) y.0 c
      (cons (os j empty) c) y.2 (root_stays τ h (outer u) (passing t (outer u) (outer_along (step h s)))) y.3 in
      (x.0, (y.0, x.1, y.1), x.2, x.3)

  pub none_less : {t u : Tree} {m : ℕ} (s : Steps t u m) (q : Place) (a : Level) (j : ℕ)
      (c : Context) → Normal u q a j →
      (n w : ℕ) (p : Place) (v : Level) (d : Context) → n < outer u →
      Leads τ t (at root (os n empty) c) (at p v d) w → ⊥
  none_less s q a j c k n w p v d h l = let x = exit_is s p q v a j c d n w k l in let e = x.4 in omega arith

  -- ---- the root's least n

  pub least : (t : Tree) (p : Place) (v : Level) (c d : Context) (n w : ℕ) →
      Leads τ t (at root (os n empty) c) (at p v d) w →
      ((m k : ℕ) (q : Place) (b : Level) (l : Context) → m < n → Leads τ t (at root (os m empty) c) (at q b l) k → ⊥) →
      (u : Tree) × (m : ℕ) × (s : Steps t u m) × (m ≤ w) × (a : Level) × (j : ℕ) × Normal u p a j
      × SameAlong τ s p v a × (n ≡ outer u) × (d ≡ cons (os j empty) c)
  least t p v c d n w l f =
      let y = reached t w p v c d n w (omega arith) l (normal_or_step t) in
      let x = exit_is y.steps p y.port v y.level y.args c d n w y.normal l in
      let g = is_found y.steps y.port y.level y.args c y.normal in
      let z : x.3 ≡ 0 = by y.last x.3 x.4 (λ h. f (outer y.last) g.2 y.port g.0 (cons (os y.args empty) c) h g.3) in (
        y.last,
        y.count,
        y.steps,
        x.0,
        y.level,
        y.args,
        subst (λ q. Normal y.last q y.level y.args) (sym x.1) y.normal,
        subst (λ q. SameAlong τ y.steps q v y.level) (sym x.1) x.2,
        (let e = x.4 in omega arith),
        x.5 ∙ ap (λ k. cons (os k empty) c) (let e : y.args + x.3 ≡ y.args = omega arith in e),
      )
    where
      by : (u : Tree) (e : ℕ) → n ≡ outer u + e → (outer u < n → ⊥) → e ≡ 0
      by u zero h g = refl
      by u (suc e) h g = absurd (g (omega arith))

  -- ---- which abstraction binds

  binder_redex : {M N : Tree} {v v' : Level} → SameRedex τ M N root v v' → v ≡ v'
  binder_redex redex_root = refl

  binder_before : {R R' P : Tree} {S : Place → Level → Level → Type 0} {v v' : Level} →
      SameBefore τ R R' P S root v v' → v ≡ v'
  binder_before before_root = refl

module _ (τ : Translation) where
  binder_on : {t t' : Tree} (h : HeadStep t t') (i : ℕ) (x v v' : Level) → Same τ h root v v' →
      v ≡ os i (star x) → (y : Level) × (v' ≡ os i (star y))
  binder_on beta i x v v' r e = (x, sym (binder_redex r) ∙ e)
  binder_on (before f h) i x v v' r e = (x, sym (binder_before r) ∙ e)
  binder_on (below h) zero x v v' (below_o r) e = absurd (cc)
  binder_on (below h) (suc i) x v v' (below_o {v = w} {v' = w'} r) e = let k = binder_on h i x w w'
      r (let q : o w ≡ o (os i (star x)) = e in cc) in (k.0, ap o k.1)
  binder_on (below h) zero x v v' (below_star {a' = a'} r) e = (a', refl)
  binder_on (below h) (suc i) x v v' (below_star r) e = absurd (cc)

  binder_off : {t t' : Tree} (h : HeadStep t t') (i : ℕ) (x v v' : Level) → Same τ h root v v' →
      v' ≡ os i (star x) → (y : Level) × (v ≡ os i (star y))
  binder_off beta i x v v' r e = (x, binder_redex r ∙ e)
  binder_off (before f h) i x v v' r e = (x, binder_before r ∙ e)
  binder_off (below h) zero x v v' (below_o r) e = absurd (cc)
  binder_off (below h) (suc i) x v v' (below_o {v = w} {v' = w'} r) e = let k = binder_off h i x w
      w' r (let q : o w' ≡ o (os i (star x)) = e in cc) in (k.0, ap o k.1)
  binder_off (below h) zero x v v' (below_star {a = a} r) e = (a, refl)
  binder_off (below h) (suc i) x v v' (below_star r) e = absurd (cc)

  pub binder_after : {t u : Tree} {m : ℕ} (s : Steps t u m) (i : ℕ) (x v v' : Level) →
      SameAlong τ s root v v' → v ≡ os i (star x) → (y : Level) × (v' ≡ os i (star y))
  binder_after done i x v v' r e = (x, sym r ∙ e)
  binder_after (step h s) i x v v' r e = let k = binder_on h i x v r.0 r.1 e in binder_after s i k.0 r.0 v' r.2 k.1

  pub binder_of : {t u : Tree} {m : ℕ} (s : Steps t u m) (i : ℕ) (x v v' : Level) →
      SameAlong τ s root v v' → v' ≡ os i (star x) → (y : Level) × (v ≡ os i (star y))
  binder_of done i x v v' r e = (x, r ∙ e)
  binder_of (step h s) i x v v' r e = let k = binder_of s i x r.0 v' r.2 e in binder_off h i k.0 v r.0 r.1 k.1
