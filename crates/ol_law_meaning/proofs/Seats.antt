-- An argument of a head normal form, as a term of its own.
use Rattle.std.proofs.Common.{◌≡◌, ℕ, zero, suc, ◌+◌, ◌≤◌, ◌<◌, true, refl, sym, ap, ◌∙◌, subst, arith, ◌⊎◌, inl, inr}
use Rattle.ol_context.proofs.Contexts.{head_eq, tail_eq}
use Rattle.std.proofs.lemmas.Bool.{or_left, or_right}
use Rattle.ol_law_meaning.specs.Contraction.{Tree, lam, app, Level, o, star, Context, cons, Wire, bound, name, occurs}
use Rattle.ol_law_meaning.specs.Contraction.{left, right, Place, root, wire, Spot, at, body, fun, arg, Edge, lam_root}
use Rattle.ol_law_meaning.specs.Contraction.{lam_own, lam_wire, app_root, app_arg, app_left, app_right, in_body, in_fun}
use Rattle.ol_law_meaning.specs.Contraction.{in_arg, Trail, here, on, back, Leads, IsRight, IsSpotOf}
use Rattle.ol_law_meaning.specs.Heads.{os, Spine, head_var, head_free, head_app, Normal, flat, layer, OutOf, up_root}
use Rattle.ol_law_meaning.specs.Heads.{up_own, up_wire, Arg, last, earlier, inner, HatLast, hat_root, hat_wire}
use Rattle.ol_law_meaning.specs.Heads.{HatEarlier, hat_left, HatInner, hat_up, StandsAt}
use Rattle.ol_law_meaning.proofs.Trails.{tr_trans, tr_sym, tr_map, one, one_back, tr_body, tr_fun}
use Rattle.ol_law_meaning.proofs.Addresses.{left_one, right_one, sides_apart}
use Rattle.ol_law_meaning.proofs.Ways.{Has}
use Rattle.ol_law_meaning.proofs.Channels.{along, inside, up_from_one, up_to_one, up_edge}
use Rattle.ol_law_meaning.proofs.Mains.{ends, ends_spot}
use Rattle.ol_law_meaning.proofs.Walking.{spine_occurs, spine_path, spine_channel}
use Rattle.ol_term.specs.declared.translations.Translation.{Translation}

abbrev pub Hats : Type 1
Hats = Place → Level → Context → Place → Level → Context → Type 0

-- what an edge of u becomes in P, of no more weight
pub record Down (τ : Translation) (P : Tree) (Sit : Spot → Spot → Type 0) (s z : Spot) (n : ℕ) : Type 0 where
  pub spot : Spot
  pub sit : Sit spot z
  pub weight : ℕ
  pub few : weight ≤ n
  pub trail : Trail (Edge τ P) s spot weight

pub record Deep (τ : Translation) (u : Tree) (z z' : Spot) : Type 0 where
  pub weight : ℕ
  pub trail : Trail (Edge τ u) z z' weight

-- the spot of P's interface whose place an interface spot of u is
pub record Comes (H : Hats) (s : Spot) (q : Place) (b : Level) (d : Context) : Type 0 where
  pub port : Place
  pub level : Level
  pub rest : Context
  pub is : s ≡ at port level rest
  pub hat : H port level rest q b d

pub record Goes (H : Hats) (p : Place) (v : Level) (c : Context) : Type 0 where
  pub port : Place
  pub level : Level
  pub rest : Context
  pub hat : H p v c port level rest

pub record Seated (τ : Translation) (P u : Tree) (H : Hats) : Type 1 where
  pub Sit : Spot → Spot → Type 0
  pub emb : Spot → Spot
  pub start : (p q : Place) (v b : Level) (c d : Context) → H p v c q b d → Sit (at p v c) (at q b d)
  pub inn : (s : Spot) → Sit s (emb s)
  pub deep : (s z : Spot) → Sit s z → Deep τ u z (emb s)
  pub edge : (s s' : Spot) (n : ℕ) → Edge τ P s s' n → Edge τ u (emb s) (emb s') n
  pub go : (s z z' : Spot) (n : ℕ) → Edge τ u z z' n → Sit s z → Down τ P Sit s z' n
  pub come : (s z z' : Spot) (n : ℕ) → Edge τ u z' z n → Sit s z → Down τ P Sit s z' n
  pub out : (s : Spot) (q : Place) (b : Level) (d : Context) → Sit s (at q b d) → Comes H s q b d
  pub hat : (p : Place) (v : Level) (c : Context) → Has p P → IsSpotOf τ P (at p v c) → Goes H p v c
  pub has : (p q : Place) (v b : Level) (c d : Context) → H p v c q b d → Has q u

module _ {τ : Translation} where
  stay : {P : Tree} {Sit : Spot → Spot → Type 0} {s z : Spot} {n : ℕ} → Sit s z → Down τ P Sit s z n
  stay r = record { spot = _; sit = r; weight = 0; few = omega arith; trail = here }

-- ---- the last argument

data Last (τ : Translation) (R P : Tree) (H : Hats) (w : Level) : Spot → Spot → Type 0 where
  deeper : {s : Spot} → Last τ R P H w s (arg w s)
  reach : {v : Level} {c : Context} {z : Spot} {m : ℕ} →
      Trail (Edge τ R) (at root (star w) (cons v c)) z m → Last τ R P H w (at root v c) (fun z)
  front : {p q : Place} {v b : Level} {c d : Context} → H p v c q b d → Last τ R P H w (at p v c) (at q b d)

module _ (τ : Translation) {R : Tree} {y : Wire} {a : Level} {i : ℕ} (s0 : Spine R y a i) (P : Tree) (w : Level) where
  last_deep : {s z : Spot} → Last τ R P (HatLast τ R P y a i w) w s z → Deep τ (app R P) z (arg w s)
  last_deep deeper = record { weight = 0; trail = here }
  last_deep (reach t) = record { weight = _; trail = tr_trans (tr_fun (tr_sym t)) (one (app_arg refl)) refl }
  last_deep (front (hat_root {z = z} {v = v} {b = b} {c = c} {d = d} e f g)) = record {
    weight = _;
    trail = on (app_left (subst (λ z. occurs z R ≡ true) (sym e) (spine_occurs s0)) (f ∙ ap (λ z. left P z a) (sym e)))
        (tr_trans (subst (λ d. Trail (Edge τ (app R P)) (fun (at (wire z) a d))
        (fun (at root (star w) (cons v c))) i) (sym g)
        (subst (λ z. Trail (Edge τ (app R P))
        (fun (at (wire z) a (cons (os i (star w)) (cons v c))))
        (fun (at root (star w) (cons v c))) i) (sym e)
        (tr_fun (tr_sym (spine_path s0 (star w) (cons v c)))))) (one (app_arg refl)) refl) refl;
  }
  last_deep (front (hat_wire {x = x} {z = z} {b = b} {b' = b'} {c = c} {d = d} e m f g)) = record {
    weight = 0;
    trail = subst (λ z. Trail (Edge τ (app R P)) (at (wire z) b' d) (arg w (at (wire x) b c)) 0)
        (sym e) (subst (λ d. Trail (Edge τ (app R P)) (at (wire x) b' d)
        (arg w (at (wire x) b c)) 0) (sym g) (one (app_right m f)));
  }

  -- where it leaves the spine
  exits : {v u : Level} {c d : Context} {p : Place} {m : ℕ} →
      Trail (Edge τ R) (at root (star w) (cons v c)) (at p u d) m →
      (at p u d ≡ at root (star w) (cons v c)) ⊎ (at p u d ≡ at (wire y) a (cons (os i (star w)) (cons v c)))
  exits {v} {u} {c} {d} {p} t = let k = spine_channel s0 (star w) (cons v c) in k.only p u d (along k t k.first)

  abbrev L : Spot → Spot → Type 0
  L = Last τ R P (HatLast τ R P y a i w) w

  last_go : {s z z' : Spot} {n : ℕ} → Edge τ (app R P) z z' n → L s z → Down τ P L s z' n
  last_go (in_arg {s' = s'} {w = n} e) deeper = record {
    spot = s';
    sit = deeper;
    weight = n;
    few = omega arith;
    trail = one e;
  }
  last_go (in_fun e) (reach t) = stay (reach (tr_trans t (one e) refl))
  last_go (app_arg {v = l} {u = u} {c = k} {d = d} e) (reach {v = v} {c = c} t) = by (exits t)
    where
      by : (at root (star l) k ≡ at root (star w) (cons v c))
          ⊎ (at root (star l) k ≡ at (wire y) a (cons (os i (star w)) (cons v c))) →
          Down τ P L (at root v c) (arg l (at root u d)) 1
      by (inl q) =
          let f : l ≡ w = cc in
          let g : k ≡ cons v c = cc in
          let h : cons u d ≡ cons v c = sym e ∙ g in
          subst (λ l. Down τ P L (at root v c) (arg l (at root u d)) 1) (sym f)
          (subst (λ u. Down τ P L (at root v c) (arg w (at root u d)) 1) (sym (head_eq u v d c h))
          (subst (λ d. Down τ P L (at root v c) (arg w (at root v d)) 1) (sym (tail_eq u v d c h)) (stay deeper)))
      by (inr q) = absurd (cc)
  last_go (app_left {y = x} {a = a'} {c = l} m e) (front (hat_root {z = z} {v = v} {c = c} f g h)) =
      let a1 : a' ≡ a = left_one P x a' a (sym e ∙ g ∙ ap (λ z. left P z a) (sym f)) in
      subst (λ x. Down τ P L (at root v c) (fun (at (wire x) a' l)) 0) (sym f)
      (subst (λ a'. Down τ P L (at root v c) (fun (at (wire y) a' l)) 0) (sym a1)
      (subst (λ l. Down τ P L (at root v c) (fun (at (wire y) a l)) 0) (sym h)
      (stay (reach (spine_path s0 (star w) (cons v c))))))
  last_go (app_left {y = x} {a = a'} {w = u} m e) (front (hat_wire {x = x'} {b = b} f k g h)) =
      absurd (sides_apart R P x a' b w m (subst (λ x. occurs x P ≡ true) (sym f) k) e
      (subst (λ x. IsRight τ R P x b w u) (sym f) g))
  last_go (app_right {y = x} {b = b} {v = l} m e) (front (hat_root f g h)) =
      absurd (sides_apart R P x a b l (subst (λ z. occurs z R ≡ true) (sym f) (spine_occurs s0)) m
      (g ∙ ap (λ z. left P z a) (sym f)) e)
  last_go (app_right {y = x} {b = b} {v = l} {w = u} {c = k} m e)
      (front (hat_wire {x = x'} {b = b'} {c = c} f m' g h)) =
      let j = right_one e (subst (λ x. IsRight τ R P x b' w u) (sym f) g) refl in
      subst (λ l. Down τ P L (at (wire x') b' c) (arg l (at (wire x) b k)) 0) (sym j.1)
      (subst (λ b. Down τ P L (at (wire x') b' c) (arg w (at (wire x) b k)) 0) (sym j.0)
      (subst (λ x. Down τ P L (at (wire x') b' c) (arg w (at (wire x) b' k)) 0) (sym f)
      (subst (λ k. Down τ P L (at (wire x') b' c) (arg w (at (wire x') b' k)) 0) (sym h) (stay deeper))))
  last_go app_root (front h) = elim h [ ]

  last_come : {s z z' : Spot} {n : ℕ} → Edge τ (app R P) z' z n → L s z → Down τ P L s z' n
  last_come (in_arg {s = s'} {w = n} e) deeper = record {
    spot = s';
    sit = deeper;
    weight = n;
    few = omega arith;
    trail = one_back e;
  }
  last_come (app_arg {u = u} {c = k} {d = d} e) deeper = subst
      (λ k. Down τ P L (at root u d) (fun (at root (star w) k)) 1) (sym e) (stay (reach here))
  last_come (app_right {y = x} m e) deeper = stay (front (hat_wire refl m e refl))
  last_come (in_fun e) (reach t) = stay (reach (tr_trans t (one_back e) refl))
  last_come (app_root {v = u} {c = k}) (reach {v = v} {c = c} t) = by (exits t)
    where
      by : (at root (o u) k ≡ at root (star w) (cons v c))
          ⊎ (at root (o u) k ≡ at (wire y) a (cons (os i (star w)) (cons v c))) →
          Down τ P L (at root v c) (at root u k) 1
      by (inl q) = absurd (let i : o u ≡ star w = cc in cc)
      by (inr q) = absurd (cc)
  last_come (app_left {y = x} {a = a'} {w = u} {c = k} m e) (reach {v = v} {c = c} t) = by (exits t)
    where
      by : (at (wire x) a' k ≡ at root (star w) (cons v c))
          ⊎ (at (wire x) a' k ≡ at (wire y) a (cons (os i (star w)) (cons v c))) →
          Down τ P L (at root v c) (at (wire x) u k) 0
      by (inl q) = absurd (cc)
      by (inr q) =
          let f : x ≡ y = cc in
          let g : a' ≡ a = cc in
          let h : k ≡ cons (os i (star w)) (cons v c) = cc in
          stay (front (hat_root f (e ∙ ap (left P x) g ∙ ap (λ x. left P x a) f) h))

  last_out : {s z : Spot} (q : Place) (b : Level) (d : Context) → z ≡ at q b d → L s z →
      Comes (HatLast τ R P y a i w) s q b d
  last_out q b d e deeper = absurd (cc)
  last_out q b d e (reach t) = absurd (cc)
  last_out q b d e (front {p = p} {q = q'} {v = v} {b = b'} {c = c} {d = d'} h) =
      let f : q' ≡ q = cc in
      let g : b' ≡ b = cc in
      let j : d' ≡ d = cc in
      record {
        port = p;
        level = v;
        rest = c;
        is = refl;
        hat = subst (λ q. HatLast τ R P y a i w p v c q b d) f
            (subst (λ b. HatLast τ R P y a i w p v c q' b d) g (subst (λ d. HatLast τ R P y a i w p v c q' b' d) j h));
      }

  last_hat : (p : Place) (v : Level) (c : Context) → Has p P → IsSpotOf τ P (at p v c) →
      Goes (HatLast τ R P y a i w) p v c
  last_hat root v c h l = record {
    port = wire y;
    level = left P y a;
    rest = cons (os i (star w)) (cons v c);
    hat = hat_root refl refl refl;
  }
  last_hat (wire x) v c h l = record {
    port = wire x;
    level = right τ R P x v w;
    rest = c;
    hat = hat_wire refl h (record { level = l; is = refl }) refl;
  }

  last_has : {p q : Place} {v b : Level} {c d : Context} → HatLast τ R P y a i w p v c q b d → Has q (app R P)
  last_has (hat_root {z = z} e f g) = or_left (occurs z R) (occurs z P)
      (subst (λ z. occurs z R ≡ true) (sym e) (spine_occurs s0))
  last_has (hat_wire {z = z} e m f g) = or_right (occurs z R) (occurs z P) (subst (λ z. occurs z P ≡ true) (sym e) m)

  seated_last : Seated τ P (app R P) (HatLast τ R P y a i w)
  seated_last = record {
    Sit = L;
    emb = arg w;
    start = λ p q v b c d h. front h;
    inn = λ s. deeper;
    deep = λ s z r. last_deep r;
    edge = λ s s' n e. in_arg e;
    go = λ s z z' n e r. last_go e r;
    come = λ s z z' n e r. last_come e r;
    out = λ s q b d r. last_out q b d refl r;
    hat = last_hat;
    has = λ p q v b c d h. last_has h;
  }

-- ---- an earlier argument

pub data Earlier (Sit : Spot → Spot → Type 0) (H : Hats) : Spot → Spot → Type 0 where
  funs : {s z : Spot} → Sit s z → Earlier Sit H s (fun z)
  sides : {p q : Place} {v b : Level} {c d : Context} → H p v c q b d → Earlier Sit H (at p v c) (at q b d)

module _ {τ : Translation} {P R : Tree} {H : Hats} (Q : Tree)
    (flat : (p : Place) (v b : Level) (c d : Context) → H p v c root b d → ⊥) (k : Seated τ P R H) where
  abbrev E : Spot → Spot → Type 0
  E = Earlier k.Sit (HatEarlier Q H)

  earlier_go : {s z z' : Spot} {n : ℕ} → Edge τ (app R Q) z z' n → E s z → Down τ P E s z' n
  earlier_go (in_fun {s = z} {s' = z'} {w = n} e) (funs {s = s} r) = let d = k.go s z z' n e r in
      record { spot = d.spot; sit = funs d.sit; weight = d.weight; few = d.few; trail = d.trail }
  earlier_go (app_arg {v = v} {c = c} e) (funs {s = s} r) = let x = k.out s root (star v) c r in
      absurd (flat x.port x.level (star v) x.rest c x.hat)
  earlier_go app_root (sides h) = elim h [ ]
  earlier_go (app_left {y = x} {a = a} {c = l} m e) (sides (hat_left {p = p} {v = v} {b = b} {c = c} h f)) =
      subst (λ a. Down τ P E (at p v c) (fun (at (wire x) a l)) 0)
      (sym (left_one Q x a b (sym e ∙ f))) (stay (funs (k.start p (wire x) v b c l h)))
  earlier_go (app_right {y = x} {b = a} {v = u} {c = l} m e) (sides (hat_left {p = p} {v = v} {b = b} {c = c} h f)) =
      absurd (sides_apart R Q x b a u (k.has p (wire x) v b c l h) m f e)
  earlier_go (in_arg e) r = elim r [ ]

  earlier_come : {s z z' : Spot} {n : ℕ} → Edge τ (app R Q) z' z n → E s z → Down τ P E s z' n
  earlier_come (in_fun {s = z'} {s' = z} {w = n} e)
      (funs {s = s} r) = let d = k.come s z z' n e r in
      record { spot = d.spot; sit = funs d.sit; weight = d.weight; few = d.few; trail = d.trail }
  earlier_come (app_root {v = v} {c = c}) (funs {s = s} r) = let x = k.out s root (o v) c r in
      absurd (flat x.port x.level (o v) x.rest c x.hat)
  earlier_come (app_left {y = y} {a = a} {w = w} {c = c} m e) (funs {s = s} r) =
      let x = k.out s (wire y) a c r in
      subst (λ s. Down τ P E s (at (wire y) w c) 0) (sym x.is) (stay (sides (hat_left x.hat e)))
  earlier_come (app_arg e) r = elim r [ ]
  earlier_come (app_right m e) r = elim r [ ]
  earlier_come (in_arg e) r = elim r [ ]

  earlier_deep : {s z : Spot} → E s z → Deep τ (app R Q) z (fun (k.emb s))
  earlier_deep (funs {s = s} {z = z} r) = let d = k.deep s z r in record { weight = d.weight; trail = tr_fun d.trail }
  earlier_deep (sides (hat_left {p = p} {z = x} {v = v} {b = b} {c = c} {d = l} h f)) =
      let d = k.deep (at p v c) (at (wire x) b l) (k.start p (wire x) v b c l h) in
      record { weight = d.weight; trail = on (app_left (k.has p (wire x) v b c l h) f) (tr_fun d.trail) (omega arith) }

  earlier_out : {s z : Spot} (q : Place) (b : Level) (d : Context) → z ≡ at q b d → E s z →
      Comes (HatEarlier Q H) s q b d
  earlier_out q b d e (funs r) = absurd (cc)
  earlier_out q b d e (sides {p = p} {q = q'} {v = v} {b = b'} {c = c} {d = d'} h) =
      let f : q' ≡ q = cc in
      let g : b' ≡ b = cc in
      let j : d' ≡ d = cc in
      record {
        port = p;
        level = v;
        rest = c;
        is = refl;
        hat = subst (λ q. HatEarlier Q H p v c q b d) f
            (subst (λ b. HatEarlier Q H p v c q' b d) g (subst (λ d. HatEarlier Q H p v c q' b' d) j h));
      }

  earlier_hat : (p : Place) (v : Level) (c : Context) → Has p P → IsSpotOf τ P (at p v c) → Goes (HatEarlier Q H) p v c
  earlier_hat p v c m l = let g = k.hat p v c m l in by g.port g.level g.rest g.hat
    where
      by : (q : Place) (b : Level) (d : Context) → H p v c q b d → Goes (HatEarlier Q H) p v c
      by root b d h = absurd (flat p v b c d h)
      by (wire x) b d h = record { port = wire x; level = left Q x b; rest = d; hat = hat_left h refl }

  earlier_has : {p q : Place} {v b : Level} {c d : Context} → HatEarlier Q H p v c q b d → Has q (app R Q)
  earlier_has (hat_left {p = p} {z = x} {v = v} {b = b} {c = c} {d = l} h f) = or_left (occurs x R)
      (occurs x Q) (k.has p (wire x) v b c l h)

  seated_earlier : Seated τ P (app R Q) (HatEarlier Q H)
  seated_earlier = record {
    Sit = E;
    emb = λ s. fun (k.emb s);
    start = λ p q v b c d h. sides h;
    inn = λ s. funs (k.inn s);
    deep = λ s z r. earlier_deep r;
    edge = λ s s' n e. in_fun (k.edge s s' n e);
    go = λ s z z' n e r. earlier_go e r;
    come = λ s z z' n e r. earlier_come e r;
    out = λ s q b d r. earlier_out q b d refl r;
    hat = earlier_hat;
    has = λ p q v b c d h. earlier_has h;
  }

-- ---- under an abstraction

pub data Inner (Sit : Spot → Spot → Type 0) (H : Hats) : Spot → Spot → Type 0 where
  bodies : {s z : Spot} → Sit s z → Inner Sit H s (body z)
  rims : {p q : Place} {v b : Level} {c d : Context} → H p v c q b d → Inner Sit H (at p v c) (at q b d)

pub up_has : (M : Tree) {p q : Place} {v w : Level} → OutOf p v q w → Has p M → Has q (lam M)
up_has M (up_root e) m = tt
up_has M (up_own g e) m = tt
up_has M (up_wire e f) m = subst (λ z. occurs z M ≡ true) e m

-- each port of the body has a way out
record Above (p : Place) (v : Level) : Type 0 where
  port : Place
  level : Level
  up : OutOf p v port level

above : (p : Place) (v : Level) → Above p v
above root v = record { port = root; level = o v; up = up_root refl }
above (wire (bound zero)) v = record { port = root; level = star v; up = up_own refl refl }
above (wire (bound (suc y))) v = record { port = wire (bound y); level = v; up = up_wire refl refl }
above (wire (name f)) v = record { port = wire (name f); level = v; up = up_wire refl refl }

module _ {τ : Translation} {P M : Tree} {H : Hats} (k : Seated τ P M H) where
  abbrev I : Spot → Spot → Type 0
  I = Inner k.Sit (HatInner H)

  inner_enter : {z z' : Spot} {n : ℕ} (q : Place) (b : Level) (d : Context) → z ≡ at q b d →
      Edge τ (lam M) z z' n → {p : Place} {v : Level} {c : Context} → HatInner H p v c q b d →
      Down τ P I (at p v c) z' n
  inner_enter {n = n} q b d e x {p = p} {v = v} {c = c} (hat_up {q = r} {b = b'} h up) =
      let t = inside x e in
      let i = up_from_one t.up up refl refl in
      let f : body (at r b' d) ≡ body (at t.port t.level d) = ap (λ r. body (at r b' d)) (sym i.0)
      ∙ ap (λ l. body (at t.port l d)) (sym i.1) in
      subst (λ z. Down τ P I (at p v c) z n) (f ∙ sym t.is) (stay (bodies (k.start p r v b' c d h)))

  inner_go : {s z z' : Spot} {n : ℕ} → Edge τ (lam M) z z' n → I s z → Down τ P I s z' n
  inner_go (in_body {s = z} {s' = z'} {w = n} e) (bodies {s = s} r) = let d = k.go s z z' n e r in
      record { spot = d.spot; sit = bodies d.sit; weight = d.weight; few = d.few; trail = d.trail }
  inner_go e (rims {q = q} {b = b} {d = d} h) = inner_enter q b d refl e h

  inner_leave : {s : Spot} {r q : Place} {a b : Level} {l : Context} {n : ℕ} → OutOf r a q b →
      k.Sit s (at r a l) → Down τ P I s (at q b l) n
  inner_leave {s} {r} {q} {a} {b} {l} {n} up z = let x = k.out s r a l z in
      subst (λ s. Down τ P I s (at q b l) n) (sym x.is) (stay (rims (hat_up x.hat up)))

  inner_come : {s z z' : Spot} {n : ℕ} → Edge τ (lam M) z' z n → I s z → Down τ P I s z' n
  inner_come (in_body {s = z'} {s' = z} {w = n} e)
      (bodies {s = s} r) = let d = k.come s z z' n e r in
      record { spot = d.spot; sit = bodies d.sit; weight = d.weight; few = d.few; trail = d.trail }
  inner_come lam_root (bodies r) = inner_leave (up_root refl) r
  inner_come (lam_own m) (bodies r) = inner_leave (up_own refl refl) r
  inner_come (lam_wire e m) (bodies r) = inner_leave (up_wire e refl) r

  inner_deep : {s z : Spot} → I s z → Deep τ (lam M) z (body (k.emb s))
  inner_deep (bodies {s = s} {z = z} r) = let d = k.deep s z r in record { weight = d.weight; trail = tr_body d.trail }
  inner_deep (rims (hat_up {p = p} {q = q} {r = r} {v = v} {b = b} {b' = b'} {c = c} {d = l} h up)) =
      let d = k.deep (at p v c) (at q b l) (k.start p q v b c l h) in
      record { weight = d.weight; trail = on (up_edge up (k.has p q v b c l h) l) (tr_body d.trail) (omega arith) }

  inner_out : {s z : Spot} (q : Place) (b : Level) (d : Context) → z ≡ at q b d → I s z → Comes (HatInner H) s q b d
  inner_out q b d e (bodies r) = absurd (cc)
  inner_out q b d e (rims {p = p} {q = q'} {v = v} {b = b'} {c = c} {d = d'} h) =
      let f : q' ≡ q = cc in
      let g : b' ≡ b = cc in
      let j : d' ≡ d = cc in
      record {
        port = p;
        level = v;
        rest = c;
        is = refl;
        hat = subst (λ q. HatInner H p v c q b d) f
            (subst (λ b. HatInner H p v c q' b d) g (subst (λ d. HatInner H p v c q' b' d) j h));
      }

  inner_hat : (p : Place) (v : Level) (c : Context) → Has p P → IsSpotOf τ P (at p v c) → Goes (HatInner H) p v c
  inner_hat p v c m l = let g = k.hat p v c m l in let t = above g.port g.level in
      record { port = t.port; level = t.level; rest = g.rest; hat = hat_up g.hat t.up }

  inner_has : {p q : Place} {v b : Level} {c d : Context} → HatInner H p v c q b d → Has q (lam M)
  inner_has (hat_up {p = p} {q = q} {v = v} {b = b} {c = c} {d = l} h up) = up_has M up (k.has p q v b c l h)

  seated_inner : Seated τ P (lam M) (HatInner H)
  seated_inner = record {
    Sit = I;
    emb = λ s. body (k.emb s);
    start = λ p q v b c d h. rims h;
    inn = λ s. bodies (k.inn s);
    deep = λ s z r. inner_deep r;
    edge = λ s s' n e. in_body (k.edge s s' n e);
    go = λ s z z' n e r. inner_go e r;
    come = λ s z z' n e r. inner_come e r;
    out = λ s q b d r. inner_out q b d refl r;
    hat = inner_hat;
    has = λ p q v b c d h. inner_has h;
  }

module _ (τ : Translation) where
  -- ---- all of it

  flat_of : {R P : Tree} {i : ℕ} (k : Arg R i P) {y : Wire} {a : Level} {j : ℕ} → Spine R y a j →
      (w : Level) (p : Place) (v b : Level) (c d : Context) → StandsAt τ k w p v c root b d → ⊥
  flat_of (last s) t w p v b c d h = elim h [ ]
  flat_of (earlier s k) t w p v b c d h = elim h [ ]
  flat_of (inner k) t w p v b c d h = elim t [ ]

module _ {τ : Translation} where
  pub seated : {u P : Tree} {i : ℕ} (k : Arg u i P) (w : Level) → Seated τ P u (StandsAt τ k w)
  seated (last {P = P} s) w = seated_last τ s P w
  seated (earlier {Q = Q} s k) w = seated_earlier Q (flat_of τ k s w) (seated k w)
  seated (inner k) w = seated_inner (seated k w)

-- ---- each spot stands at one, no two at the same

abbrev Ones : Hats → Type 0
Ones H = (p q p' q' : Place) (v b v' b' : Level) (c d c' d' : Context) → H p v c q b d → H p' v' c' q' b' d' →
    (at p v c ≡ at p' v' c' → at q b d ≡ at q' b' d') × (at q b d ≡ at q' b' d' → at p v c ≡ at p' v' c')

pub spot_is : (p q : Place) (v w : Level) (c d : Context) → p ≡ q → v ≡ w → c ≡ d → at p v c ≡ at q w d
spot_is p q v w c d e f g = ap (λ p. at p v c) e ∙ ap (λ v. at q v c) f ∙ ap (at q w) g

module _ {τ : Translation} where
  last_one : {R : Tree} {y : Wire} {a : Level} {i : ℕ} → Spine R y a i →
      (P : Tree) (w : Level) (p q p' q' : Place) (v b v' b' : Level) (c d c' d' : Context) →
      HatLast τ R P y a i w p v c q b d → HatLast τ R P y a i w p' v' c' q' b' d' →
      (at p v c ≡ at p' v' c' → at q b d ≡ at q' b' d') × (at q b d ≡ at q' b' d' → at p v c ≡ at p' v' c')
  last_one {R} {y} {a} {i} s P w p q p' q' v b v' b' c d c' d' (hat_root e f g) (hat_root e' f' g') = (
    λ j. (let k : v ≡ v' = cc in let l : c ≡ c' = cc in
        spot_is q q' b b' d d' (ap wire (e ∙ sym e')) (f ∙ sym f')
        (g ∙ ap (λ v. cons (os i (star w)) (cons v c)) k ∙ ap (λ c. cons (os i (star w)) (cons v' c)) l ∙ sym g')),
    λ j. (let k : d ≡ d' = cc in let l = tail_eq (os i (star w)) (os i (star w)) (cons v c)
        (cons v' c') (sym g ∙ k ∙ g') in spot_is root root v v' c c' refl (head_eq v v' c c' l) (tail_eq v v' c c' l)),
  )
  last_one {R} {y} {a} s P w p q p' q' v b v' b' c d c' d' (hat_root {z = z} e f g)
      (hat_wire {x = x'} {z = z'} e' m f' g') = (
        λ j. absurd (cc),
        λ j. (let k : z ≡ z' = cc in let l : b ≡ b' = cc in let n : y ≡ x' = sym e ∙ k ∙ e' in
            absurd (sides_apart R P x' a v' w (subst (λ y. occurs y R ≡ true) n (spine_occurs s)) m
            (sym l ∙ f ∙ ap (λ y. left P y a) n) f')),
      )
  last_one {R} {y} {a} s P w p q p' q' v b v' b' c d c' d' (hat_wire {x = x'} {z = z'} e' m f' g')
      (hat_root {z = z} e f g) = (
        λ j. absurd (cc),
        λ j. (let k : z ≡ z' = cc in let l : b' ≡ b = cc in let n : y ≡ x' = sym e ∙ k ∙ e' in
            absurd (sides_apart R P x' a v w (subst (λ y. occurs y R ≡ true) n (spine_occurs s)) m
            (sym l ∙ f ∙ ap (λ y. left P y a) n) f')),
      )
  last_one {R} s P w p q p' q' v b v' b' c d c' d' (hat_wire {x = x} {z = z} e m f g)
      (hat_wire {x = x'} {z = z'} e' m' f' g') = (
        λ j. (let k : x ≡ x' = cc in let l : v ≡ v' = cc in let n : c ≡ c' = cc in
            spot_is q q' b b' d d' (ap wire (e ∙ k ∙ sym e'))
            (f.is ∙ ap (λ x. right τ R P x v w) k ∙ ap (λ v. right τ R P x' v w) l ∙ sym f'.is) (g ∙ n ∙ sym g')),
        λ j. (let k : z ≡ z' = cc in let l : b ≡ b' = cc in let n : d ≡ d' = cc in let h : x ≡ x' = sym e ∙ k ∙ e' in
            spot_is p p' v v' c c' (ap wire h) (right_one
            (subst (λ x. IsRight τ R P x v w b) h f) f' l).0 (sym g ∙ n ∙ g')),
      )

earlier_one : {H : Hats} (Q : Tree) → Ones H → Ones (HatEarlier Q H)
earlier_one Q f p q p' q' v b v' b' c d c' d' (hat_left {z = z} {b = a} h e) (hat_left {z = z'} {b = a'} h' e') = (
  λ j. (let x = (f p (wire z) p' (wire z') v a v' a' c d c' d' h h').0 j in let k : z ≡ z' = cc in
      let l : a ≡ a' = cc in let n : d ≡ d' = cc in
      spot_is q q' b b' d d' (ap wire k) (e ∙ ap (λ z. left Q z a) k ∙ ap (left Q z') l ∙ sym e') n),
  λ j. (let k : z ≡ z' = cc in let l : b ≡ b' = cc in let n : d ≡ d' = cc in
      (f p (wire z) p' (wire z') v a v' a' c d c' d' h h').1
      (spot_is (wire z) (wire z') a a' d d' (ap wire k)
      (left_one Q z' a a' (ap (λ z. left Q z a) (sym k) ∙ sym e ∙ l ∙ e')) n)),
)

inner_one : {H : Hats} → Ones H → Ones (HatInner H)
inner_one f p q p' q' v b v' b' c d c' d' (hat_up {q = r} {b = a} h e) (hat_up {q = r'} {b = a'} h' e') = (
  λ j. (let x = (f p r p' r' v a v' a' c d c' d' h h').0 j in let k : r ≡ r' = cc in
      let l : a ≡ a' = cc in let n : d ≡ d' = cc in let t = up_to_one e e' k l in spot_is q q' b b' d d' t.0 t.1 n),
  λ j. (let k : q ≡ q' = cc in let l : b ≡ b' = cc in let n : d ≡ d' = cc in
      let t = up_from_one e e' k l in (f p r p' r' v a v' a' c d c' d' h h').1 (spot_is r r' a a' d d' t.0 t.1 n)),
)

module _ (τ : Translation) where
  pub hat_one : {u P : Tree} {i : ℕ} (k : Arg u i P) (w : Level) → Ones (StandsAt τ k w)
  hat_one (last {P = P} s) w = last_one s P w
  hat_one (earlier {Q = Q} s k) w = earlier_one Q (hat_one k w)
  hat_one (inner k) w = inner_one (hat_one k w)

module _ {τ : Translation} where
  -- ---- what an argument leads to in the head normal form

  follow : {P u : Tree} {H : Hats} (k : Seated τ P u H) {s z z' : Spot} {n : ℕ} →
      Trail (Edge τ u) z z' n → k.Sit s z → Down τ P k.Sit s z' n
  follow k here r = stay r
  follow k {s = s} (on {s = z} {s' = z1} {w = m} e t h) r =
      let a = k.go s z z1 m e r in
      let b = follow k {s = a.spot} t a.sit in
      let f = a.few in
      let g = b.few in
      record {
        spot = b.spot;
        sit = b.sit;
        weight = a.weight + b.weight;
        few = omega arith;
        trail = tr_trans a.trail b.trail refl;
      }
  follow k {s = s} (back {s = z} {s' = z1} {w = m} e t h) r =
      let a = k.come s z z1 m e r in
      let b = follow k {s = a.spot} t a.sit in
      let f = a.few in
      let g = b.few in
      record {
        spot = b.spot;
        sit = b.sit;
        weight = a.weight + b.weight;
        few = omega arith;
        trail = tr_trans a.trail b.trail refl;
      }

  pub up_to : {u P : Tree} {i : ℕ} (k : Arg u i P) (w : Level) (p q : Place) (v b : Level)
      (c d : Context) → StandsAt τ k w p v c q b d →
      (p' : Place) (v' : Level) (c' : Context) (n : ℕ) → Leads τ P (at p v c) (at p' v' c') n →
      (q' : Place) × (b' : Level) × (d' : Context) × StandsAt τ k w p' v' c' q' b' d' × (n' : ℕ)
      × (n ≤ n') × Leads τ u (at q b d) (at q' b' d') n'
  up_to k w p q v b c d h p' v' c' n l =
      let m = seated k w in
      let g = m.hat p' v' c' (ends p' l.0 l.1) (ends_spot l.0 l.1) in
      let x = m.deep (at p v c) (at q b d) (m.start p q v b c d h) in
      let y = m.deep (at p' v' c') (at g.port g.level g.rest) (m.start p' g.port v' g.level c' g.rest g.hat) in
      let t = tr_map m.emb (λ s s' n e. one (m.edge s s' n e)) l.0 in (
        g.port,
        g.level,
        g.rest,
        g.hat,
        x.weight + n + y.weight,
        (omega arith),
        (
          tr_trans (tr_trans x.trail t refl) (tr_sym y.trail) refl,
          λ e. l.1 ((hat_one τ k w p q p' g.port v b v' g.level c d c' g.rest h g.hat).1 e),
        ),
      )

  moved : {P : Tree} {s z z' : Spot} {n : ℕ} → z ≡ z' → Trail (Edge τ P) s z n → Trail (Edge τ P) s z' n
  moved {P = P} {s = s} {n = n} e t = subst (λ z. Trail (Edge τ P) s z n) e t

  pub down_to : {u P : Tree} {i : ℕ} (k : Arg u i P) (w : Level) (p q : Place) (v b : Level)
      (c d : Context) → StandsAt τ k w p v c q b d →
      (q' : Place) (b' : Level) (d' : Context) (n' : ℕ) → Leads τ u (at q b d) (at q' b' d') n' →
      (p' : Place) × (v' : Level) × (c' : Context) × StandsAt τ k w p' v' c' q' b' d' × (n : ℕ)
      × (n ≤ n') × Leads τ P (at p v c) (at p' v' c') n
  down_to k w p q v b c d h q' b' d' n' l =
      let m = seated k w in
      let x = follow m l.0 (m.start p q v b c d h) in
      let y = m.out x.spot q' b' d' x.sit in (
        y.port,
        y.level,
        y.rest,
        y.hat,
        x.weight,
        x.few,
        (
          moved {z' = at y.port y.level y.rest} y.is x.trail,
          λ e. l.1 ((hat_one τ k w p q y.port q' v b y.level b' c d y.rest d' h y.hat).0 e),
        ),
      )

-- ---- where P's root stands

spine_level : {t : Tree} {y y' : Wire} {a a' : Level} {j j' : ℕ} → Spine t y a j →
    Spine t y' a' j' → (y ≡ y') × (a ≡ a') × (j ≡ j')
spine_level head_var head_var = (refl, refl, refl)
spine_level head_free head_free = (refl, refl, refl)
spine_level (head_app {P = P} {y = y} {a = a} s e) (head_app {y = y'} {a = a'} s' e') =
    let k = spine_level s s' in
    (k.0, e ∙ ap (λ y. left P y a) k.0 ∙ ap (left P y') k.1 ∙ sym e', ap suc k.2)

module _ (τ : Translation) where
  root_of_spine : {u P : Tree} {i : ℕ} (k : Arg u i P) (w : Level) {y : Wire} {a : Level} {j : ℕ} →
      Spine u y a j → (i < j) × ((v : Level) (c : Context) →
      StandsAt τ k w root v c (wire y) a (cons (os i (star w)) (cons v c)))
  root_of_spine (last {P = P} {a = a0} s) w (head_app {y = y} s' e) = let q = spine_level s s' in
      let f = q.2 in (
        (omega arith),
        λ v c.
            hat_root (sym q.0) (e ∙ ap (left P y) (sym q.1) ∙ ap (λ y. left P y a0) (sym q.0)) refl,
      )
  root_of_spine (earlier s k) w (head_app s' e) = let r = root_of_spine k w s' in let f = r.0 in
      ((omega arith), λ v c. hat_left (r.1 v c) e)
  root_of_spine (inner k) w s = elim s [ ]

  pub root_stands : {u P : Tree} {i : ℕ} (k : Arg u i P)
      (w : Level) {q : Place} {a : Level} {j : ℕ} → Normal u q a j →
      (i < j) × ((v : Level) (c : Context) → StandsAt τ k w root v c q a (cons (os i (star w)) (cons v c)))
  root_stands k w (flat s) = root_of_spine k w s
  root_stands (inner k) w (layer n e) = let r = root_stands k w n in (r.0, λ v c. hat_up (r.1 v c) e)

nat_split : (i j : ℕ) → i ≤ j → (i ≡ j) ⊎ (i < j)
nat_split zero zero h = inl refl
nat_split zero (suc j) h = inr (omega arith)
nat_split (suc i) zero h = absurd (omega arith)
nat_split (suc i) (suc j) h = up (nat_split i j (omega arith))
  where
    up : (i ≡ j) ⊎ (i < j) → (suc i ≡ suc j) ⊎ (suc i < suc j)
    up (inl e) = inl (ap suc e)
    up (inr f) = inr (omega arith)

spine_args : {t : Tree} {y : Wire} {a : Level} {j : ℕ} → Spine t y a j → (i : ℕ) → i < j → (P : Tree) × Arg t i P
spine_args head_var i h = absurd (omega arith)
spine_args head_free i h = absurd (omega arith)
spine_args (head_app {R = R} {P = P} {j = j} s e) i h = by (nat_split i j (omega arith)) (spine_args s i)
  where
    by : (i ≡ j) ⊎ (i < j) → (i < j → (Q : Tree) × Arg R i Q) → (Q : Tree) × Arg (app R P) i Q
    by (inl f) g = (P, subst (λ i. Arg (app R P) i P) (sym f) (last s))
    by (inr f) g = let k = g f in (k.0, earlier s k.1)

pub args_there : {t : Tree} {q : Place} {a : Level} {j : ℕ} → Normal t q a j → (i : ℕ) → i < j → (P : Tree) × Arg t i P
args_there (flat s) i h = spine_args s i h
args_there (layer n e) i h = let k = args_there n i h in (k.0, inner k.1)
