-- The one way from the root of a head normal form to its head.
use Rattle.std.proofs.Common.{◌≡◌, ℕ, suc, true, refl, sym, ap, ◌∙◌, subst, arith, ◌⊎◌, inl, inr}
use Rattle.ol_context.proofs.Contexts.{head_eq, tail_eq}
use Rattle.ol_law_meaning.specs.Contraction.{Tree, var, free, lam, app, Level, empty, o, star, Context, cons}
use Rattle.ol_law_meaning.specs.Contraction.{Wire, bound, name, under, occurs, left, Place, root, wire, Spot}
use Rattle.ol_law_meaning.specs.Contraction.{at, body, fun, Edge, var_wire, free_wire, lam_root, lam_own}
use Rattle.ol_law_meaning.specs.Contraction.{lam_wire, app_root, app_arg, app_left, app_right, in_body}
use Rattle.ol_law_meaning.specs.Contraction.{in_fun, in_arg, Trail, here, on, back, IsRight}
use Rattle.ol_law_meaning.specs.Heads.{OutOf, up_root, up_own, up_wire}
use Rattle.ol_law_meaning.proofs.Addresses.{left_one, sides_apart}
use Rattle.ol_law_meaning.proofs.Ways.{Has}
use Rattle.ol_term.specs.declared.translations.Translation.{Translation}

-- ---- the spots of such a way, which nothing leaves

pub record Channel (τ : Translation) (t : Tree) (e x : Spot) : Type 1 where
  pub In : Spot → Type 0
  pub go : (s s' : Spot) (n : ℕ) → Edge τ t s s' n → In s → In s'
  pub come : (s s' : Spot) (n : ℕ) → Edge τ t s' s n → In s → In s'
  pub first : In e
  pub last : In x
  pub only : (p : Place) (v : Level) (d : Context) → In (at p v d) → (at p v d ≡ e) ⊎ (at p v d ≡ x)

module _ {τ : Translation} where
  pub along : {t : Tree} {e x s s' : Spot} {n : ℕ} (k : Channel τ t e x) → Trail (Edge τ t) s s' n → k.In s → k.In s'
  along k here r = r
  along k (on {s = s} {s' = s1} {w = w} e a h) r = along k a (k.go s s1 w e r)
  along k (back {s = s} {s' = s1} {w = w} e a h) r = along k a (k.come s s1 w e r)

pub data Ends (e x : Spot) : Spot → Type 0 where
  is_e : {s : Spot} → s ≡ e → Ends e x s
  is_x : {s : Spot} → s ≡ x → Ends e x s

ends_only : {e x s : Spot} → Ends e x s → (s ≡ e) ⊎ (s ≡ x)
ends_only (is_e q) = inl q
ends_only (is_x q) = inr q

module _ {τ : Translation} where
  -- a variable
  var_go : {y : ℕ} {v : Level} {c : Context} {s s' : Spot} {n : ℕ} → Edge τ (var y) s s' n →
      Ends (at root v c) (at (wire (bound y)) empty (cons v c)) s →
      Ends (at root v c) (at (wire (bound y)) empty (cons v c)) s'
  var_go {y} {v} {c} (var_wire {v = u} {c = k} {d = d} e) (is_e q) =
      let i : u ≡ v = cc in
      let l : k ≡ c = cc in
      is_x (ap (at (wire (bound y)) empty) (e ∙ ap (λ u. cons u k) i ∙ ap (cons v) l))
  var_go (var_wire e) (is_x q) = absurd (cc)

  var_come : {y : ℕ} {v : Level} {c : Context} {s s' : Spot} {n : ℕ} → Edge τ (var y) s' s n →
      Ends (at root v c) (at (wire (bound y)) empty (cons v c)) s →
      Ends (at root v c) (at (wire (bound y)) empty (cons v c)) s'
  var_come (var_wire e) (is_e q) = absurd (cc)
  var_come {v = v} {c = c} (var_wire {v = u} {c = k} {d = d} e) (is_x q) =
      let i : d ≡ cons v c = cc in
      let l : cons u k ≡ cons v c = sym e ∙ i in
      is_e (ap (λ u. at root u k) (head_eq u v k c l) ∙ ap (at root v) (tail_eq u v k c l))

  free_go : {y : ℕ} {v : Level} {c : Context} {s s' : Spot} {n : ℕ} → Edge τ (free y) s s' n →
      Ends (at root v c) (at (wire (name y)) empty (cons v c)) s →
      Ends (at root v c) (at (wire (name y)) empty (cons v c)) s'
  free_go {y} {v} {c} (free_wire {v = u} {c = k} {d = d} e) (is_e q) =
      let i : u ≡ v = cc in
      let l : k ≡ c = cc in
      is_x (ap (at (wire (name y)) empty) (e ∙ ap (λ u. cons u k) i ∙ ap (cons v) l))
  free_go (free_wire e) (is_x q) = absurd (cc)

  free_come : {y : ℕ} {v : Level} {c : Context} {s s' : Spot} {n : ℕ} → Edge τ (free y) s' s n →
      Ends (at root v c) (at (wire (name y)) empty (cons v c)) s →
      Ends (at root v c) (at (wire (name y)) empty (cons v c)) s'
  free_come (free_wire e) (is_e q) = absurd (cc)
  free_come {v = v} {c = c} (free_wire {v = u} {c = k} {d = d} e) (is_x q) =
      let i : d ≡ cons v c = cc in
      let l : cons u k ≡ cons v c = sym e ∙ i in
      is_e (ap (λ u. at root u k) (head_eq u v k c l) ∙ ap (at root v) (tail_eq u v k c l))

-- before an argument
pub data Fun (I : Spot → Type 0) (e x : Spot) : Spot → Type 0 where
  fun_e : {s : Spot} → s ≡ e → Fun I e x s
  fun_x : {s : Spot} → s ≡ x → Fun I e x s
  fun_in : {s : Spot} → I s → Fun I e x (fun s)

fun_only : {I : Spot → Type 0} {e x s : Spot} (p : Place) (u : Level) (l : Context) → s ≡ at p u l →
    Fun I e x s → (at p u l ≡ e) ⊎ (at p u l ≡ x)
fun_only p u l e (fun_e q) = inl (sym e ∙ q)
fun_only p u l e (fun_x q) = inr (sym e ∙ q)
fun_only p u l e (fun_in r) = absurd (cc)

module _ {τ : Translation} {R P : Tree} {y : Wire} {a w v : Level} {c d : Context}
    (m : occurs y R ≡ true) (h : w ≡ left P y a) (k : Channel τ R (at root (o v) c) (at (wire y) a d)) where
  app_go : {s s' : Spot} {n : ℕ} → Edge τ (app R P) s s' n →
      Fun k.In (at root v c) (at (wire y) w d) s → Fun k.In (at root v c) (at (wire y) w d) s'
  app_go (app_root {v = u} {c = l}) (fun_e q) =
      let i : u ≡ v = cc in
      let j : l ≡ c = cc in
      fun_in (subst k.In (ap (λ l. at root (o v) l) (sym j) ∙ ap (λ u. at root (o u) l) (sym i)) k.first)
  app_go app_root (fun_x q) = absurd (cc)
  app_go (app_arg {v = u} {c = l} e) (fun_in r) = absurd (no (k.only root (star u) l r))
    where
      no : (at root (star u) l ≡ at root (o v) c) ⊎ (at root (star u) l ≡ at (wire y) a d) → ⊥
      no (inl q) = (let i : star u ≡ o v = cc in cc)
      no (inr q) = cc
  app_go (app_left e f) (fun_e q) = absurd (cc)
  app_go (app_left {y = z} {a = b} {w = u} {c = l} e f) (fun_x q) =
      let i : z ≡ y = cc in
      let j : l ≡ d = cc in
      let g : u ≡ w = cc in
      let b' : left P y b ≡ left P y a = ap (λ z. left P z b) (sym i) ∙ sym f ∙ g ∙ h in
      fun_in (subst k.In (ap (at (wire y) a) (sym j)
      ∙ ap (λ a. at (wire y) a l) (sym (left_one P y b a b')) ∙ ap (λ z. at (wire z) b l) (sym i)) k.last)
  app_go (app_right e f) (fun_e q) = absurd (cc)
  app_go (app_right {y = z} {b = b} {v = t} {w = u} {c = l} e f) (fun_x q) =
      let i : z ≡ y = cc in
      let g : u ≡ w = cc in
      absurd (sides_apart R P y a b t m (subst (λ z. occurs z P ≡ true) i e) (g ∙ h)
      (subst (λ z. IsRight τ R P z b t u) i f))
  app_go (in_fun {s = s} {s' = s'} {w = n} e) (fun_in r) = fun_in (k.go s s' n e r)
  app_go (in_fun e) (fun_e q) = absurd (cc)
  app_go (in_fun e) (fun_x q) = absurd (cc)
  app_go (app_arg e) (fun_e q) = absurd (cc)
  app_go (app_arg e) (fun_x q) = absurd (cc)
  app_go (in_arg e) (fun_e q) = absurd (cc)
  app_go (in_arg e) (fun_x q) = absurd (cc)

  app_come : {s s' : Spot} {n : ℕ} → Edge τ (app R P) s' s n →
      Fun k.In (at root v c) (at (wire y) w d) s → Fun k.In (at root v c) (at (wire y) w d) s'
  app_come (app_root {v = u} {c = l}) (fun_in r) = by (k.only root (o u) l r)
    where
      by : (at root (o u) l ≡ at root (o v) c) ⊎ (at root (o u) l ≡ at (wire y) a d) →
          Fun k.In (at root v c) (at (wire y) w d) (at root u l)
      by (inl q) = fun_e (let i : u ≡ v = cc in let j : l ≡ c = cc in cc)
      by (inr q) = absurd (cc)
  app_come (app_left {y = z} {a = b} {w = u} {c = l} e f) (fun_in r) = by (k.only (wire z) b l r)
    where
      by : (at (wire z) b l ≡ at root (o v) c) ⊎ (at (wire z) b l ≡ at (wire y) a d) →
          Fun k.In (at root v c) (at (wire y) w d) (at (wire z) u l)
      by (inl q) = absurd (cc)
      by (inr q) =
          let i : z ≡ y = cc in
          let j : b ≡ a = cc in
          let g : l ≡ d = cc in
          let i' : u ≡ w = f ∙ ap (left P z) j ∙ ap (λ z. left P z a) i ∙ sym h in
          fun_x (cc)
  app_come (in_fun {s = s'} {s' = s} {w = n} e) (fun_in r) = fun_in (k.come s s' n e r)
  app_come app_root (fun_e q) = absurd (cc)
  app_come app_root (fun_x q) = absurd (cc)
  app_come (app_left e f) (fun_e q) = absurd (cc)
  app_come (app_left e f) (fun_x q) = absurd (cc)
  app_come (in_fun e) (fun_e q) = absurd (cc)
  app_come (in_fun e) (fun_x q) = absurd (cc)
  app_come (app_arg e) (fun_e q) = absurd (cc)
  app_come (app_arg e) (fun_x q) = absurd (cc)
  app_come (app_right e f) (fun_e q) = absurd (cc)
  app_come (app_right e f) (fun_x q) = absurd (cc)
  app_come (in_arg e) (fun_e q) = absurd (cc)
  app_come (in_arg e) (fun_x q) = absurd (cc)

  pub channel_app : Channel τ (app R P) (at root v c) (at (wire y) w d)
  channel_app = record {
    In = Fun k.In (at root v c) (at (wire y) w d);
    go = λ s s' n e r. app_go e r;
    come = λ s s' n e r. app_come e r;
    first = fun_e refl;
    last = fun_x refl;
    only = λ p u l r. fun_only p u l refl r;
  }

module _ {τ : Translation} {R : Tree} (P : Tree) {y : Wire} {a w v : Level} {c d : Context}
    (m : occurs y R ≡ true) (h : w ≡ left P y a) (k : Channel τ R (at root (o v) c) (at (wire y) a d)) where
  -- its spots
  pub app_in : {s : Spot} → (channel_app {P = P} m h k).In s → Fun k.In (at root v c) (at (wire y) w d) s
  unfolding channel_app
  app_in r = r

module _ {τ : Translation} where
  pub channel_var : (y : ℕ) (v : Level) (c : Context) →
      Channel τ (var y) (at root v c) (at (wire (bound y)) empty (cons v c))
  channel_var y v c = record {
    In = Ends (at root v c) (at (wire (bound y)) empty (cons v c));
    go = λ s s' n e r. var_go e r;
    come = λ s s' n e r. var_come e r;
    first = is_e refl;
    last = is_x refl;
    only = λ p u l r. ends_only r;
  }

  pub channel_free : (y : ℕ) (v : Level) (c : Context) →
      Channel τ (free y) (at root v c) (at (wire (name y)) empty (cons v c))
  channel_free y v c = record {
    In = Ends (at root v c) (at (wire (name y)) empty (cons v c));
    go = λ s s' n e r. free_go e r;
    come = λ s s' n e r. free_come e r;
    first = is_e refl;
    last = is_x refl;
    only = λ p u l r. ends_only r;
  }

module _ (τ : Translation) where
  -- their spots
  pub var_in : (y : ℕ) {v : Level} {c : Context} {s : Spot} → (channel_var {τ = τ} y v c).In s →
      Ends (at root v c) (at (wire (bound y)) empty (cons v c)) s
  unfolding channel_var
  var_in y r = r

  pub free_in : (y : ℕ) {v : Level} {c : Context} {s : Spot} → (channel_free {τ = τ} y v c).In s →
      Ends (at root v c) (at (wire (name y)) empty (cons v c)) s
  unfolding channel_free
  free_in y r = r

-- ---- under an abstraction: the way out is one-to-one

pub under_one : (y z : Wire) → under y ≡ under z → y ≡ z
under_one (bound y) (bound z) e = (let i : suc y ≡ suc z = cc in ap bound (omega arith))
under_one (bound y) (name z) e = absurd (cc)
under_one (name y) (bound z) e = absurd (cc)
under_one (name y) (name z) e = e

pub under_zero : (y : Wire) → bound 0 ≡ under y → ⊥
under_zero (bound y) e = (let i : 0 ≡ suc y = cc in omega arith)
under_zero (name y) e = cc

-- the edge from outside
pub record Inside (M : Tree) (q : Place) (w : Level) (c : Context) (s : Spot) : Type 0 where
  pub port : Place
  pub level : Level
  pub up : OutOf port level q w
  pub is : s ≡ body (at port level c)

module _ {τ : Translation} where
  pub inside : {M : Tree} {q : Place} {w : Level} {c : Context} {s s' : Spot} {n : ℕ} →
      Edge τ (lam M) s s' n → s ≡ at q w c → Inside M q w c s'
  inside {q = q} {w = w} {c = c} (lam_root {v = v} {c = l}) e = (let i : root ≡ q = cc in
      let j : w ≡ o v = cc in let g : l ≡ c = cc in
      record {
        port = root;
        level = v;
        up = subst (λ q. OutOf root v q w) i (up_root j);
        is = ap (λ c. body (at root v c)) g;
      })
  inside {q = q} {w = w} {c = c} (lam_own {a = a} {c = l} m) e = (let i : root ≡ q = cc in
      let j : w ≡ star a = cc in let g : l ≡ c = cc in
      record {
        port = wire (bound 0);
        level = a;
        up = subst (λ q. OutOf (wire (bound 0)) a q w) i (up_own refl j);
        is = ap (λ c. body (at (wire (bound 0)) a c)) g;
      })
  inside {q = q} {w = w} {c = c} (lam_wire {y = y} {z = z} {a = a} {c = l} h m)
      e = (let i : wire y ≡ q = cc in let j : w ≡ a = cc in let g : l ≡ c = cc in
      record {
        port = wire z;
        level = a;
        up = subst (λ q. OutOf (wire z) a q w) i (up_wire h j);
        is = ap (λ c. body (at (wire z) a c)) g;
      })
  inside (in_body x) e = absurd (cc)

pub up_from_one : {p p' q q' : Place} {v v' w w' : Level} → OutOf p v q w → OutOf p' v' q' w' →
    q ≡ q' → w ≡ w' → (p ≡ p') × (v ≡ v')
up_from_one (up_root e) (up_root f) i j = (refl, (let k = sym e ∙ j ∙ f in cc))
up_from_one (up_root e) (up_own g f) i j = absurd (let k = sym e ∙ j ∙ f in cc)
up_from_one (up_own g e) (up_root f) i j = absurd (let k = sym e ∙ j ∙ f in cc)
up_from_one (up_own g e) (up_own h f) i j = (ap wire (g ∙ sym h), (let k = sym e ∙ j ∙ f in cc))
up_from_one (up_wire {y = y} e f) (up_wire {y = y'} e' f') i j = (
  ap wire
      (e ∙ ap under (let k : y ≡ y' = cc in k) ∙ sym e'),
  sym f ∙ j ∙ f',
)
up_from_one (up_wire e f) (up_root e') i j = absurd (cc)
up_from_one (up_wire e f) (up_own g e') i j = absurd (cc)
up_from_one (up_root e) (up_wire e' f') i j = absurd (cc)
up_from_one (up_own g e) (up_wire e' f') i j = absurd (cc)

pub up_to_one : {p p' q q' : Place} {v v' w w' : Level} → OutOf p v q w → OutOf p' v' q' w' →
    p ≡ p' → v ≡ v' → (q ≡ q') × (w ≡ w')
up_to_one (up_root e) (up_root f) i j = (refl, e ∙ ap o j ∙ sym f)
up_to_one (up_own g e) (up_own h f) i j = (refl, e ∙ ap star j ∙ sym f)
up_to_one (up_wire {y = y} {z = z} e f)
    (up_wire {y = y'} {z = z'} e' f') i j = (
      ap wire
          (under_one y y' (sym e ∙ (let k : z ≡ z' = cc in k) ∙ e')),
      f ∙ j ∙ sym f',
    )
up_to_one (up_root e) (up_own h f) i j = absurd (cc)
up_to_one (up_root e) (up_wire h f) i j = absurd (cc)
up_to_one (up_own h e) (up_root f) i j = absurd (cc)
up_to_one (up_wire h e) (up_root f) i j = absurd (cc)
up_to_one (up_own {x = x} g e) (up_wire {y = y} {z = z} h f) i j = absurd
    (under_zero y (sym g ∙ (let k : x ≡ z = cc in k) ∙ h))
up_to_one (up_wire {y = y} {z = z} h f) (up_own {x = x} g e) i j = absurd
    (under_zero y (sym g ∙ (let k : x ≡ z = cc in k) ∙ h))

module _ {τ : Translation} where
  pub up_edge : {M : Tree} {p q : Place} {v w : Level} → OutOf p v q w → Has p M → (c : Context) →
      Edge τ (lam M) (at q w c) (body (at p v c)) 0
  up_edge {M} (up_root {v = v} e) m c = subst
      (λ w. Edge τ (lam M) (at root w c) (body (at root v c)) 0) (sym e) lam_root
  up_edge {M} (up_own {x = x} {a = a} {w = w} g e) m c = subst
      (λ x. Edge τ (lam M) (at root w c) (body (at (wire x) a c)) 0) (sym g)
      (subst (λ w. Edge τ (lam M) (at root w c) (body (at (wire (bound 0)) a c)) 0) (sym e)
      (lam_own (subst (λ x. occurs x M ≡ true) g m)))
  up_edge {M} (up_wire {y = y} {z = z} {a = a} e f) m c = subst
      (λ b. Edge τ (lam M) (at (wire y) b c) (body (at (wire z) a c)) 0) (sym f) (lam_wire e m)

pub data In (I : Spot → Type 0) (e x : Spot) : Spot → Type 0 where
  in_e : {s : Spot} → s ≡ e → In I e x s
  in_x : {s : Spot} → s ≡ x → In I e x s
  in_in : {s : Spot} → I s → In I e x (body s)

module _ {τ : Translation} {M : Tree} {p p' q q' : Place} {v v' w w' : Level} {c d : Context}
    (u : OutOf p v q w) (u' : OutOf p' v' q' w') (k : Channel τ M (at p v c) (at p' v' d)) where
  abbrev G : Spot → Type 0
  G = In k.In (at q w c) (at q' w' d)

  enter : {s s' : Spot} {n : ℕ} → Edge τ (lam M) s s' n → G s → G s'
  enter (in_body {s = s} {s' = s'} {w = n} e) (in_in r) = in_in (k.go s s' n e r)
  enter {s' = s'} e (in_e g) =
      let t = inside e g in
      let i = up_from_one t.up u refl refl in
      subst G (ap (λ p. body (at p v c)) (sym i.0) ∙ ap (λ v. body (at t.port v c)) (sym i.1)
      ∙ sym t.is) (in_in k.first)
  enter {s' = s'} e (in_x g) =
      let t = inside e g in
      let i = up_from_one t.up u' refl refl in
      subst G (ap (λ p. body (at p v' d)) (sym i.0) ∙ ap (λ v. body (at t.port v d)) (sym i.1)
      ∙ sym t.is) (in_in k.last)

  -- an interface spot of the body comes out as an end
  leave : {r f : Place} {a b : Level} {l : Context} → OutOf r a f b → k.In (at r a l) → G (at f b l)
  leave {r} {f} {a} {b} {l} h z = by (k.only r a l z)
    where
      by : (at r a l ≡ at p v c) ⊎ (at r a l ≡ at p' v' d) → G (at f b l)
      by (inl e) = (let i = up_to_one h u (let j : r ≡ p = cc in j) (let j : a ≡ v = cc in j) in
          let g : l ≡ c = cc in in_e (ap (λ f. at f b l) i.0 ∙ ap (λ b. at q b l) i.1 ∙ ap (at q w) g))
      by (inr e) = (let i = up_to_one h u' (let j : r ≡ p' = cc in j) (let j : a ≡ v' = cc in j) in
          let g : l ≡ d = cc in in_x (ap (λ f. at f b l) i.0 ∙ ap (λ b. at q' b l) i.1 ∙ ap (at q' w') g))

  exit : {s s' : Spot} {n : ℕ} → Edge τ (lam M) s' s n → G s → G s'
  exit lam_root (in_in r) = leave (up_root refl) r
  exit (lam_own m) (in_in r) = leave (up_own refl refl) r
  exit (lam_wire e m) (in_in r) = leave (up_wire e refl) r
  exit (in_body {s = s'} {s' = s} {w = n} e) (in_in r) = in_in (k.come s s' n e r)
  exit lam_root (in_e g) = absurd (cc)
  exit lam_root (in_x g) = absurd (cc)
  exit (lam_own m) (in_e g) = absurd (cc)
  exit (lam_own m) (in_x g) = absurd (cc)
  exit (lam_wire e m) (in_e g) = absurd (cc)
  exit (lam_wire e m) (in_x g) = absurd (cc)
  exit (in_body e) (in_e g) = absurd (cc)
  exit (in_body e) (in_x g) = absurd (cc)

  lam_only : {s : Spot} (r : Place) (b : Level) (l : Context) → s ≡ at r b l → G s →
      (at r b l ≡ at q w c) ⊎ (at r b l ≡ at q' w' d)
  lam_only r b l e (in_e g) = inl (sym e ∙ g)
  lam_only r b l e (in_x g) = inr (sym e ∙ g)
  lam_only r b l e (in_in g) = absurd (cc)

  pub channel_lam : Channel τ (lam M) (at q w c) (at q' w' d)
  channel_lam = record {
    In = G;
    go = λ s s' n e r. enter e r;
    come = λ s s' n e r. exit e r;
    first = in_e refl;
    last = in_x refl;
    only = λ r b l g. lam_only r b l refl g;
  }

  pub lam_in : {s : Spot} → channel_lam.In s → G s
  unfolding channel_lam
  lam_in r = r
