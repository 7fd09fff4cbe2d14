-- From a head normal form's root no application of a redex is met.
use Rattle.std.proofs.Common.{◌≡◌, ℕ, Bool, true, false, ◌⊎◌, inl, inr, refl, sym, ap, ◌∙◌, subst}
use Rattle.ol_law_meaning.specs.Contraction.{Tree, var, free, lam, app, Level, empty, o, star, Context, cons, Wire}
use Rattle.ol_law_meaning.specs.Contraction.{bound, name, occurs, left, Place, root, wire, Spot, at, body, fun, Edge}
use Rattle.ol_law_meaning.specs.Contraction.{lam_root, lam_own, lam_wire, app_root, app_arg, app_left, app_right}
use Rattle.ol_law_meaning.specs.Contraction.{in_body, in_fun, in_arg, Trail, here, on, back, IsRight}
use Rattle.ol_law_meaning.specs.Heads.{os, outer, Spine, head_var, head_free, head_app, OutOf, up_root}
use Rattle.ol_law_meaning.specs.Heads.{up_own, up_wire, Normal, flat, layer}
use Rattle.ol_law_meaning.proofs.Addresses.{left_one, sides_apart}
use Rattle.ol_law_meaning.proofs.Channels.{Channel, along, Ends, is_e, is_x, Fun, fun_e, fun_x, fun_in, channel_app}
use Rattle.ol_law_meaning.proofs.Channels.{app_in, channel_var, var_in, channel_free, free_in, In, in_e, in_x, in_in}
use Rattle.ol_law_meaning.proofs.Channels.{channel_lam, lam_in, inside, up_from_one, up_to_one}
use Rattle.ol_law_meaning.proofs.Walking.{os_o, spine_occurs, spine_outer, passing, least_or, opened_os}
use Rattle.ol_term.specs.declared.translations.Translation.{Translation}
use Rattle.ol_law_optimality.specs.Met.{IsMatched, IsMet, blank}
use Rattle.ol_law_meaning.specs.Sites.{Site, self, in_lam, in_function, in_argument, spot_in, whole}
use Rattle.ol_law_meaning.specs.Sites.{of_lam, of_function, of_argument, function_at}
use Rattle.ol_law_optimality.proofs.Sites.{base, Stands, no_root}
use Rattle.ol_law_optimality.proofs.Meeting.{too_few}

-- the applications before the head's arguments
pub data OnSpine : Tree → Site → Type 0 where
  under : {M : Tree} {p : Site} → OnSpine M p → OnSpine (lam M) (in_lam p)
  last : {R P : Tree} → OnSpine (app R P) self
  later : {R P : Tree} {p : Site} → OnSpine R p → OnSpine (app R P) (in_function p)

-- a channel with these applications, and with no abstraction if it is that of a spine
pub record Lined (τ : Translation) (t : Tree) (spine : Bool) (e x : Spot) : Type 1 where
  pub channel : Channel τ t e x
  pub spined : (p : Site) (v : Level) (c : Context) → channel.In (spot_in p (base true v c)) → OnSpine t p
  pub none : spine ≡ true → (p : Site) (v : Level) (c : Context) → Stands false t p →
      channel.In (spot_in p (base false v c)) → ⊥

-- the same of either sort
record AnyLined (τ : Translation) (t : Tree) (e x : Spot) : Type 1 where
  spine : Bool
  lined : Lined τ t spine e x

no_ends : {v : Level} {c d : Context} {a : Level} {q : Wire} (p : Site) (u : Level) (l : Context) →
    Ends (at root v c) (at (wire q) a d) (spot_in p (base true u l)) → ⊥
no_ends p u l r = by r refl
  where
    by : {v : Level} {c d : Context} {a : Level} {q : Wire} {s : Spot} →
        Ends (at root v c) (at (wire q) a d) s → s ≡ spot_in p (base true u l) → ⊥
    by {v = v} {c = c} (is_e e) f = no_root p u v l c root (sym e ∙ f)
    by {d = d} {a = a} {q = q} (is_x e) f = no_root p u a l d (wire q) (sym e ∙ f)

module _ {τ : Translation} where
  lined_var : (y : ℕ) (v : Level) (c : Context) →
      Lined τ (var y) true (at root v c) (at (wire (bound y)) empty (cons v c))
  lined_var y v c = record {
    channel = channel_var y v c;
    spined = λ p u l r. absurd (no_ends p u l (var_in τ y r));
    none = λ e p u l h r. no_lam p h;
  }
    where
      no_lam : (p : Site) → Stands false (var y) p → ⊥
      no_lam p (u, whole, h) = h

  lined_free : (y : ℕ) (v : Level) (c : Context) →
      Lined τ (free y) true (at root v c) (at (wire (name y)) empty (cons v c))
  lined_free y v c = record {
    channel = channel_free y v c;
    spined = λ p u l r. absurd (no_ends p u l (free_in τ y r));
    none = λ e p u l h r. no_lam p h;
  }
    where
      no_lam : (p : Site) → Stands false (free y) p → ⊥
      no_lam p (u, whole, h) = h

  module _ {R P : Tree} {y : Wire} {a w v : Level} {c d : Context} (m : occurs y R ≡ true)
      (h : w ≡ left P y a) (k : Lined τ R true (at root (o v) c) (at (wire y) a d)) where
    app_spined : (p : Site) (u : Level) (l : Context) {s : Spot} →
        Fun k.channel.In (at root v c) (at (wire y) w d) s → s ≡ spot_in p (base true u l) → OnSpine (app R P) p
    app_spined p u l (fun_e e) f = absurd (no_root p u v l c root (sym e ∙ f))
    app_spined p u l (fun_x e) f = absurd (no_root p u w l d (wire y) (sym e ∙ f))
    app_spined self u l (fun_in r) f = last
    app_spined (in_function p) u l (fun_in {s = s} r) f = later
        (k.spined p u l (subst k.channel.In (let j : s ≡ spot_in p (base true u l) = cc in j) r))
    app_spined (in_lam p) u l (fun_in r) f = absurd (cc)
    app_spined (in_argument b p) u l (fun_in r) f = absurd (cc)

    app_none : (p : Site) (u : Level) (l : Context) {s : Spot} → Stands false (app R P) p →
        Fun k.channel.In (at root v c) (at (wire y) w d) s → s ≡ spot_in p (base false u l) → ⊥
    app_none p u l (t, whole, g) r f = g
    app_none p u l (t, of_function {p = q} x, g) (fun_in {s = s} r) f = k.none refl q u l (t, x, g)
        (subst k.channel.In (let j : s ≡ spot_in q (base false u l) = cc in j) r)
    app_none p u l (t, of_function x, g) (fun_e e) f = absurd (cc)
    app_none p u l (t, of_function x, g) (fun_x e) f = absurd (cc)
    app_none p u l (t, of_argument x, g) (fun_in r) f = absurd (cc)
    app_none p u l (t, of_argument x, g) (fun_e e) f = absurd (cc)
    app_none p u l (t, of_argument x, g) (fun_x e) f = absurd (cc)

    lined_app : Lined τ (app R P) true (at root v c) (at (wire y) w d)
    lined_app = record {
      channel = channel_app m h k.channel;
      spined = λ p u l r. app_spined p u l (app_in P m h k.channel r) refl;
      none = λ e p u l g r. app_none p u l g (app_in P m h k.channel r) refl;
    }

  module _ {M : Tree} {p p' q q' : Place} {v v' w w' : Level} {c d : Context} {b : Bool}
      (u : OutOf p v q w) (u' : OutOf p' v' q' w') (k : Lined τ M b (at p v c) (at p' v' d)) where
    lam_spined : (f : Site) (z : Level) (l : Context) {s : Spot} →
        In k.channel.In (at q w c) (at q' w' d) s → s ≡ spot_in f (base true z l) → OnSpine (lam M) f
    lam_spined f z l (in_e e) g = absurd (no_root f z w l c q (sym e ∙ g))
    lam_spined f z l (in_x e) g = absurd (no_root f z w' l d q' (sym e ∙ g))
    lam_spined (in_lam f) z l (in_in {s = s} r) g = under
        (k.spined f z l (subst k.channel.In (let j : s ≡ spot_in f (base true z l) = cc in j) r))
    lam_spined self z l (in_in r) g = absurd (cc)
    lam_spined (in_function f) z l (in_in r) g = absurd (cc)
    lam_spined (in_argument a f) z l (in_in r) g = absurd (cc)

    lined_lam : Lined τ (lam M) false (at q w c) (at q' w' d)
    lined_lam = record {
      channel = channel_lam u u' k.channel;
      spined = λ f z l r. lam_spined f z l (lam_in u u' k.channel r) refl;
      none = λ e. absurd (cc);
    }

  pub lined_spine : {t : Tree} {y : Wire} {a : Level} {j : ℕ} → Spine t y a j →
      (v : Level) (c : Context) → Lined τ t true (at root v c) (at (wire y) a (cons (os j v) c))
  lined_spine (head_var {y = y}) v c = lined_var y v c
  lined_spine (head_free {f = f}) v c = lined_free f v c
  lined_spine (head_app {R = R} {P = P} {y = y} {a = a} {w = w} {j = j} s e) v c =
      lined_app (spine_occurs s) e (subst (λ l.
      Lined τ R true (at root (o v) c) (at (wire y) a (cons l c))) (os_o j v) (lined_spine s (o v) c))

  lined_normal : {t : Tree} {q : Place} {a : Level} {j : ℕ} → Normal t q a j →
      (u : Level) (c : Context) → AnyLined τ t (at root (os (outer t) u) c) (at q a (cons (os j u) c))
  lined_normal (flat {t = t} {y = y} {a = a} {j = j} s) u c =
      record {
        spine = true;
        lined = subst
            (λ n. Lined τ t true (at root (os n u) c) (at (wire y) a (cons (os j u) c)))
            (sym (spine_outer s)) (lined_spine s u c);
      }
  lined_normal (layer k h) u c = let r = lined_normal k u c in
      record { spine = false; lined = lined_lam (up_root refl) h r.lined }

  -- what is met is on the spine
  pub met_on_spine : {t : Tree} {q : Place} {a : Level} {j : ℕ} → Normal t q a j → (p : Site) →
      IsMet τ t p → OnSpine t p
  met_on_spine {t = t} k p m = elim (least_or (outer t) m.lams) [
    | inl few ↦ absurd (too_few p m.lams m.steps m.first m.later m.level few m.way)
    | inr enough ↦ (
        let r = passing t m.lams enough in
        let l = (lined_normal k (os r.rest empty) m.first).lined in
        l.spined p m.level m.later (along l.channel
        (subst (λ v. Trail (Edge τ t) (at root v m.first)
        (function_at p m.level m.later) m.steps) (r.is ∙ opened_os t (os r.rest empty)) m.way) l.channel.first))
  ]

-- ---- the way from an application on the spine, with an empty level, out to the interface

pub record Lane (τ : Translation) (t : Tree) (b : Bool) (c : Context) (x : Spot) : Type 1 where
  pub In : Spot → Type 0
  pub go : (s s' : Spot) (n : ℕ) → Edge τ t s s' n → In s → In s'
  pub come : (s s' : Spot) (n : ℕ) → Edge τ t s' s n → In s → In s'
  pub final : In x
  pub out : (q : Place) (v : Level) (d : Context) → In (at q v d) →
      ((b ≡ true) × (at q v d ≡ at root empty c)) ⊎ (at q v d ≡ x)
  pub none : (p : Site) (d : Context) → Stands false t p → In (spot_in p (base false empty d)) → ⊥

module _ {τ : Translation} where
  on_lane : {t : Tree} {b : Bool} {c : Context} {x s s' : Spot} {n : ℕ} (k : Lane τ t b c x) →
      Trail (Edge τ t) s s' n → k.In s → k.In s'
  on_lane k here r = r
  on_lane k (on {s = s} {s' = s1} {w = w} e a h) r = on_lane k a (k.go s s1 w e r)
  on_lane k (back {s = s} {s' = s1} {w = w} e a h) r = on_lane k a (k.come s s1 w e r)

  lane_of : {t : Tree} {c : Context} {x : Spot} → Lined τ t true (at root empty c) x →
      (k : Lane τ t true c x) × k.In (at root empty c)
  lane_of {t} {c} {x} k = (
    record {
      In = k.channel.In;
      go = k.channel.go;
      come = k.channel.come;
      final = k.channel.last;
      out = λ q v d r. by (k.channel.only q v d r);
      none = λ p d h r. k.none refl p empty d h r;
    },
    k.channel.first,
  )
    where
      by : {s : Spot} → (s ≡ at root empty c) ⊎ (s ≡ x) → ((true ≡ true) × (s ≡ at root empty c)) ⊎ (s ≡ x)
      by (inl e) = inl (refl, e)
      by (inr e) = inr e

data Side (I : Spot → Type 0) (x : Spot) : Spot → Type 0 where
  side_x : {s : Spot} → s ≡ x → Side I x s
  side_in : {s : Spot} → I s → Side I x (fun s)

data Under (I : Spot → Type 0) (x : Spot) : Spot → Type 0 where
  under_x : {s : Spot} → s ≡ x → Under I x s
  under_in : {s : Spot} → I s → Under I x (body s)

module _ {τ : Translation} (R P : Tree) {y : Wire} {a w : Level} {b : Bool} {c d : Context}
    (m : occurs y R ≡ true) (h : w ≡ left P y a) (k : Lane τ R b c (at (wire y) a d)) where
  fun_go : {s s' : Spot} {n : ℕ} → Edge τ (app R P) s s' n → Side k.In (at (wire y) w d) s →
      Side k.In (at (wire y) w d) s'
  fun_go app_root (side_x q) = absurd (cc)
  fun_go (app_arg {v = u} {c = l} e) (side_in r) = absurd (no (k.out root (star u) l r))
    where
      no : ((b ≡ true) × (at root (star u) l ≡ at root empty c)) ⊎ (at root (star u) l ≡ at (wire y) a d) → ⊥
      no (inl q) = (let g = q.1 in let i : star u ≡ empty = cc in cc)
      no (inr q) = cc
  fun_go (app_left {y = z} {a = e'} {w = u} {c = l} e f) (side_x q) =
      let i : z ≡ y = cc in
      let j : l ≡ d = cc in
      let g : u ≡ w = cc in
      let b' : left P y e' ≡ left P y a = ap (λ z. left P z e') (sym i) ∙ sym f ∙ g ∙ h in
      side_in (subst k.In (ap (at (wire y) a) (sym j)
      ∙ ap (λ a. at (wire y) a l) (sym (left_one P y e' a b')) ∙ ap (λ z. at (wire z) e' l) (sym i)) k.final)
  fun_go (app_right {y = z} {b = e'} {v = t} {w = u} {c = l} e f) (side_x q) =
      let i : z ≡ y = cc in
      let g : u ≡ w = cc in
      absurd (sides_apart R P y a e' t m (subst (λ z. occurs z P ≡ true) i e) (g ∙ h)
      (subst (λ z. IsRight τ R P z e' t u) i f))
  fun_go (in_fun {s = s} {s' = s'} {w = n} e) (side_in r) = side_in (k.go s s' n e r)
  fun_go (in_fun e) (side_x q) = absurd (cc)
  fun_go (app_arg e) (side_x q) = absurd (cc)
  fun_go (in_arg e) (side_x q) = absurd (cc)

  fun_come : {s s' : Spot} {n : ℕ} → Edge τ (app R P) s' s n → Side k.In (at (wire y) w d) s →
      Side k.In (at (wire y) w d) s'
  fun_come (app_root {v = u} {c = l}) (side_in r) = absurd (no (k.out root (o u) l r))
    where
      no : ((b ≡ true) × (at root (o u) l ≡ at root empty c)) ⊎ (at root (o u) l ≡ at (wire y) a d) → ⊥
      no (inl q) = (let g = q.1 in let i : o u ≡ empty = cc in cc)
      no (inr q) = cc
  fun_come (app_left {y = z} {a = e'} {w = u} {c = l} e f) (side_in r) = by (k.out (wire z) e' l r)
    where
      by : ((b ≡ true) × (at (wire z) e' l ≡ at root empty c))
          ⊎ (at (wire z) e' l ≡ at (wire y) a d) → Side k.In (at (wire y) w d) (at (wire z) u l)
      by (inl q) = absurd (let g = q.1 in cc)
      by (inr q) =
          let i : z ≡ y = cc in
          let j : e' ≡ a = cc in
          let g : l ≡ d = cc in
          let i' : u ≡ w = f ∙ ap (left P z) j ∙ ap (λ z. left P z a) i ∙ sym h in
          side_x (cc)
  fun_come (in_fun {s = s'} {s' = s} {w = n} e) (side_in r) = side_in (k.come s s' n e r)
  fun_come app_root (side_x q) = absurd (cc)
  fun_come (app_left e f) (side_x q) = absurd (cc)
  fun_come (in_fun e) (side_x q) = absurd (cc)
  fun_come (app_arg e) (side_x q) = absurd (cc)
  fun_come (app_right e f) (side_x q) = absurd (cc)
  fun_come (in_arg e) (side_x q) = absurd (cc)

  fun_out : {s : Spot} (q : Place) (v : Level) (l : Context) → Side k.In (at (wire y) w d) s →
      s ≡ at q v l → ((false ≡ true) × (at q v l ≡ at root empty c)) ⊎ (at q v l ≡ at (wire y) w d)
  fun_out q v l (side_x e) f = inr (sym f ∙ e)
  fun_out q v l (side_in r) f = absurd (cc)

  fun_none : (p : Site) (l : Context) {s : Spot} → Stands false (app R P) p →
      Side k.In (at (wire y) w d) s → s ≡ spot_in p (base false empty l) → ⊥
  fun_none p l (t, whole, g) r f = g
  fun_none p l (t, of_function {p = q} x, g) (side_in {s = s} r) f = k.none q l (t, x, g)
      (subst k.In (let j : s ≡ spot_in q (base false empty l) = cc in j) r)
  fun_none p l (t, of_function x, g) (side_x e) f = absurd (cc)
  fun_none p l (t, of_argument x, g) (side_in r) f = absurd (cc)
  fun_none p l (t, of_argument x, g) (side_x e) f = absurd (cc)

  pub fun_lane : (s : Spot) → k.In s → (x : Lane τ (app R P) false c (at (wire y) w d)) × x.In (fun s)
  fun_lane s first = (
    record {
      In = Side k.In (at (wire y) w d);
      go = λ s s' n e r. fun_go e r;
      come = λ s s' n e r. fun_come e r;
      final = side_x refl;
      out = λ q v l r. fun_out q v l r refl;
      none = λ p l g r. fun_none p l g r refl;
    },
    side_in first,
  )

module _ {τ : Translation} (M : Tree) {p' q' : Place} {v' w' : Level} {c d : Context}
    (u' : OutOf p' v' q' w') (k : Lane τ M false c (at p' v' d)) where
  enter : {s s' : Spot} {n : ℕ} → Edge τ (lam M) s s' n → Under k.In (at q' w' d) s → Under k.In (at q' w' d) s'
  enter (in_body {s = s} {s' = s'} {w = n} e) (under_in r) = under_in (k.go s s' n e r)
  enter {s' = s'} e (under_x g) =
      let t = inside e g in
      let i = up_from_one t.up u' refl refl in
      subst (Under k.In (at q' w' d)) (ap (λ p. body (at p v' d)) (sym i.0)
      ∙ ap (λ v. body (at t.port v d)) (sym i.1) ∙ sym t.is) (under_in k.final)

  leave : {r f : Place} {a b : Level} {l : Context} → OutOf r a f b → k.In (at r a l) →
      Under k.In (at q' w' d) (at f b l)
  leave {r} {f} {a} {b} {l} h z = by (k.out r a l z)
    where
      by : ((false ≡ true) × (at r a l ≡ at root empty c)) ⊎ (at r a l ≡ at p' v' d) →
          Under k.In (at q' w' d) (at f b l)
      by (inl e) = absurd (let g = e.0 in cc)
      by (inr e) = (let i = up_to_one h u' (let j : r ≡ p' = cc in j) (let j : a ≡ v' = cc in j) in
          let g : l ≡ d = cc in under_x (ap (λ f. at f b l) i.0 ∙ ap (λ b. at q' b l) i.1 ∙ ap (at q' w') g))

  exit : {s s' : Spot} {n : ℕ} → Edge τ (lam M) s' s n → Under k.In (at q' w' d) s → Under k.In (at q' w' d) s'
  exit lam_root (under_in r) = leave (up_root refl) r
  exit (lam_own m) (under_in r) = leave (up_own refl refl) r
  exit (lam_wire e m) (under_in r) = leave (up_wire e refl) r
  exit (in_body {s = s'} {s' = s} {w = n} e) (under_in r) = under_in (k.come s s' n e r)
  exit lam_root (under_x g) = absurd (cc)
  exit (lam_own m) (under_x g) = absurd (cc)
  exit (lam_wire e m) (under_x g) = absurd (cc)
  exit (in_body e) (under_x g) = absurd (cc)

  lam_out : {s : Spot} (q : Place) (v : Level) (l : Context) → Under k.In (at q' w' d) s →
      s ≡ at q v l → ((false ≡ true) × (at q v l ≡ at root empty c)) ⊎ (at q v l ≡ at q' w' d)
  lam_out q v l (under_x e) f = inr (sym f ∙ e)
  lam_out q v l (under_in r) f = absurd (cc)

  no_empty : {r f : Place} {a b : Level} {l : Context} → OutOf r a f b → at f b d ≡ at root empty l → ⊥
  no_empty (up_root {v = v} {w = w} e) g = (let i : w ≡ empty = cc in let j : empty ≡ o v = sym i ∙ e in absurd (cc))
  no_empty (up_own {a = a} {w = w} h e) g = (let i : w ≡ empty = cc in
      let j : empty ≡ star a = sym i ∙ e in absurd (cc))
  no_empty (up_wire h e) g = absurd (cc)

  lam_none : (p : Site) (l : Context) {s : Spot} → Stands false (lam M) p →
      Under k.In (at q' w' d) s → s ≡ spot_in p (base false empty l) → ⊥
  lam_none p l (t, whole, g) (under_x e) f = no_empty u' (sym e ∙ f)
  lam_none p l (t, whole, g) (under_in r) f = absurd (cc)
  lam_none p l (t, of_lam {p = q} x, g) (under_in {s = s} r) f = k.none q l (t, x, g)
      (subst k.In (let j : s ≡ spot_in q (base false empty l) = cc in j) r)
  lam_none p l (t, of_lam x, g) (under_x e) f = absurd (cc)

  pub lam_lane : (s : Spot) → k.In s → (x : Lane τ (lam M) false c (at q' w' d)) × x.In (body s)
  lam_lane s first = (
    record {
      In = Under k.In (at q' w' d);
      go = λ s s' n e r. enter e r;
      come = λ s s' n e r. exit e r;
      final = under_x refl;
      out = λ q v l r. lam_out q v l r refl;
      none = λ p l g r. lam_none p l g r refl;
    },
    under_in first,
  )

module _ {τ : Translation} where
  spine_lane : {t : Tree} {y : Wire} {a : Level} {j : ℕ} {p : Site} → Spine t y a j → OnSpine t p → (c : Context) →
      (d : Context) × (k : Lane τ t false c (at (wire y) a d)) × k.In (function_at p empty c)
  spine_lane (head_var {y = y}) i c = elim i [ ]
  spine_lane (head_free {f = f}) i c = elim i [ ]
  spine_lane (head_app {R = R} {P = P} {j = j} s e) last c =
      let l = lined_spine s empty c in
      let k = lane_of l in
      let r = fun_lane R P (spine_occurs s) e k.0 (at root empty c) k.1 in
      (cons (os j empty) c, r.0, r.1)
  spine_lane (head_app {R = R} {P = P} s e) (later {p = p} i) c =
      let k = spine_lane s i c in
      let r = fun_lane R P (spine_occurs s) e k.1 (function_at p empty c) k.2 in
      (k.0, r.0, r.1)

  normal_lane : {t : Tree} {q : Place} {a : Level} {j : ℕ} {p : Site} → Normal t q a j → OnSpine t p → (c : Context) →
      (d : Context) × (k : Lane τ t false c (at q a d)) × k.In (function_at p empty c)
  normal_lane (flat s) i c = spine_lane s i c
  normal_lane (layer {t = M} k h) (under {p = p} i) c =
      let r = normal_lane k i c in
      let l = lam_lane M h r.1 (function_at p empty c) r.2 in
      (r.0, l.0, l.1)

  -- so it leads to no abstraction
  pub unmatched : {t : Tree} {q : Place} {a : Level} {j : ℕ} → Normal t q a j → (p : Site) →
      OnSpine t p → IsMatched τ t p → ⊥
  unmatched k p i f =
      let r = normal_lane k i blank in
      r.1.none f.other blank (lam f.inner, f.is_other, tt) (on_lane r.1 f.trail r.2)

  -- and nothing is met
  pub none_met : {t : Tree} {q : Place} {a : Level} {j : ℕ} → Normal t q a j → (p : Site) → IsMet τ t p → ⊥
  none_met k p m = unmatched k p (met_on_spine k p m) m.matched
