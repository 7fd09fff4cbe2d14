-- What the spots of an argument of a head normal form lead to there, and which sites they are at.
use Rattle.std.proofs.Common.{◌≡◌, ℕ, ◌+◌, true, false, ◌⊎◌, inl, inr, refl, sym, ap, ◌∙◌, subst}
use Rattle.std.proofs.lemmas.Bool.{or_left, or_right}
use Rattle.ol_context.proofs.Contexts.{head_eq, tail_eq}
use Rattle.ol_law_meaning.specs.Contraction.{Tree, lam, app, Level, empty, o, star, Context, cons, Wire, occurs, left}
use Rattle.ol_law_meaning.specs.Contraction.{Place, root, wire, Spot, at, body, fun, arg, Edge, lam_root, lam_own}
use Rattle.ol_law_meaning.specs.Contraction.{lam_wire, app_root, app_arg, app_left, app_right, in_body, in_fun, in_arg}
use Rattle.ol_law_meaning.specs.Contraction.{Trail, here, on, back, IsRight}
use Rattle.ol_law_meaning.specs.Heads.{os, Spine, OutOf, up_root, up_own, up_wire, Arg, last, earlier, inner, HatLast}
use Rattle.ol_law_meaning.specs.Heads.{hat_root, hat_wire, HatEarlier, hat_left, HatInner, hat_up, StandsAt}
use Rattle.ol_law_meaning.proofs.Addresses.{left_one, right_one, sides_apart}
use Rattle.ol_law_meaning.proofs.Channels.{inside, up_from_one}
use Rattle.ol_law_meaning.proofs.Seats.{Hats, Comes, Earlier, funs, sides, Inner, bodies, rims, up_has}
use Rattle.ol_law_meaning.proofs.Walking.{spine_occurs}
use Rattle.ol_law_meaning.proofs.Ways.{Has}
use Rattle.ol_law_meaning.proofs.Trails.{tr_trans, one, one_back}
use Rattle.ol_law_meaning.specs.Sites.{Site, self, in_lam, in_function, in_argument, spot_in, whole}
use Rattle.ol_law_meaning.specs.Sites.{of_lam, of_function, of_argument}
use Rattle.ol_term.specs.declared.translations.Translation.{Translation}
use Rattle.ol_law_optimality.proofs.Lanes.{OnSpine, under, later, Lined, lined_spine}
use Rattle.ol_law_optimality.proofs.Lanes as lanes
use Rattle.ol_law_optimality.proofs.Sites.{base, Stands}

-- the site of an argument's part in the head normal form, where the argument is entered with this value
abbrev pub put_in : {u P : Tree} {i : ℕ} → Arg u i P → Level → Site → Site
put_in (last s) w p = in_argument w p
put_in (earlier s k) w p = in_function (put_in k w p)
put_in (inner k) w p = in_lam (put_in k w p)

-- where a trail from a spot leads in the argument
pub record To (τ : Translation) (P : Tree) (Sit : Spot → Spot → Type 0) (s z : Spot) : Type 0 where
  pub spot : Spot
  pub sit : Sit spot z
  pub weight : ℕ
  pub trail : Trail (Edge τ P) s spot weight

-- the spot of a part of the argument, and the part's site
pub record Placed (P : Tree) (put : Site → Site) (s : Spot) (p : Site) (v : Level) (c : Context) : Type 0 where
  pub site : Site
  pub is : s ≡ spot_in site (base true v c)
  pub put_is : p ≡ put site
  pub there : Stands true P site

pub record Landed (P : Tree) (s : Spot) (c : Context) : Type 0 where
  pub site : Site
  pub is : s ≡ spot_in site (base false empty c)
  pub there : Stands false P site

pub record Seat (τ : Translation) (P u : Tree) (H : Hats) (put : Site → Site) : Type 1 where
  pub Sit : Spot → Spot → Type 0
  pub start : (p q : Place) (v b : Level) (c d : Context) → H p v c q b d → Sit (at p v c) (at q b d)
  pub go : (s z z' : Spot) (n : ℕ) → Edge τ u z z' n → Sit s z → To τ P Sit s z'
  pub come : (s z z' : Spot) (n : ℕ) → Edge τ u z' z n → Sit s z → To τ P Sit s z'
  pub out : (s : Spot) (q : Place) (b : Level) (d : Context) → Sit s (at q b d) → Comes H s q b d
  pub has : (p q : Place) (v b : Level) (c d : Context) → H p v c q b d → Has q u
  -- an application is on the spine or the argument's
  pub goes : (s : Spot) (p : Site) (v : Level) (c : Context) → Stands true u p →
      Sit s (spot_in p (base true v c)) → OnSpine u p ⊎ Placed P put s p v c
  -- and an abstraction with an empty level is the argument's
  pub comes : (s : Spot) (p : Site) (c : Context) → Stands false u p →
      Sit s (spot_in p (base false empty c)) → Landed P s c
  pub into : (p : Site) (v : Level) (c : Context) → Sit (spot_in p (base true v c)) (spot_in (put p) (base true v c))

module _ {τ : Translation} where
  stay : {P : Tree} {Sit : Spot → Spot → Type 0} {s z : Spot} → Sit s z → To τ P Sit s z
  stay r = record { spot = _; sit = r; weight = 0; trail = here }

  pub follow_in : {P u : Tree} {H : Hats} {put : Site → Site}
      (k : Seat τ P u H put) {s z z' : Spot} {n : ℕ} → Trail (Edge τ u) z z' n → k.Sit s z → To τ P k.Sit s z'
  follow_in k here r = stay r
  follow_in k {s = s} (on {s = z} {s' = z1} {w = m} e t h) r =
      let a = k.go s z z1 m e r in
      let b = follow_in k {s = a.spot} t a.sit in
      record { spot = b.spot; sit = b.sit; weight = a.weight + b.weight; trail = tr_trans a.trail b.trail refl }
  follow_in k {s = s} (back {s = z} {s' = z1} {w = m} e t h) r =
      let a = k.come s z z1 m e r in
      let b = follow_in k {s = a.spot} t a.sit in
      record { spot = b.spot; sit = b.sit; weight = a.weight + b.weight; trail = tr_trans a.trail b.trail refl }

-- ---- the last argument

data Last (H : Hats) (w : Level) (I : Level → Context → Spot → Type 0) : Spot → Spot → Type 0 where
  deeper : {s : Spot} → Last H w I s (arg w s)
  reach : {v : Level} {c : Context} {z : Spot} → I v c z → Last H w I (at root v c) (fun z)
  front : {p q : Place} {v b : Level} {c d : Context} → H p v c q b d → Last H w I (at p v c) (at q b d)

module _ (τ : Translation) {R : Tree} {y : Wire} {a : Level} {i : ℕ} (s0 : Spine R y a i) (P : Tree) (w : Level) where
  abbrev lined : (v : Level) (c : Context) →
      Lined τ R true (at root (star w) (cons v c)) (at (wire y) a (cons (os i (star w)) (cons v c)))
  lined v c = lined_spine s0 (star w) (cons v c)

  abbrev L : Spot → Spot → Type 0
  L = Last (HatLast τ R P y a i w) w (λ v c. (lined v c).channel.In)

  last_go : {s z z' : Spot} {n : ℕ} → Edge τ (app R P) z z' n → L s z → To τ P L s z'
  last_go (in_arg {s' = s'} {w = n} e) deeper = record { spot = s'; sit = deeper; weight = n; trail = one e }
  last_go (in_fun {s = z} {s' = z'} {w = n} e) (reach {v = v} {c = c} t) = stay
      (reach ((lined v c).channel.go z z' n e t))
  last_go (app_arg {v = l} {u = u} {c = k} {d = d} e) (reach {v = v} {c = c} t) = by
      ((lined v c).channel.only root (star l) k t)
    where
      by : (at root (star l) k ≡ at root (star w) (cons v c))
          ⊎ (at root (star l) k ≡ at (wire y) a (cons (os i (star w)) (cons v c))) →
          To τ P L (at root v c) (arg l (at root u d))
      by (inl q) =
          let f : l ≡ w = cc in
          let g : k ≡ cons v c = cc in
          let h : cons u d ≡ cons v c = sym e ∙ g in
          subst (λ l. To τ P L (at root v c) (arg l (at root u d))) (sym f)
          (subst (λ u. To τ P L (at root v c) (arg w (at root u d))) (sym (head_eq u v d c h))
          (subst (λ d. To τ P L (at root v c) (arg w (at root v d))) (sym (tail_eq u v d c h)) (stay deeper)))
      by (inr q) = absurd (cc)
  last_go (app_left {y = x} {a = a'} {c = l} m e) (front (hat_root {z = z} {v = v} {c = c} f g h)) =
      let a1 : a' ≡ a = left_one P x a' a (sym e ∙ g ∙ ap (λ z. left P z a) (sym f)) in
      subst (λ x. To τ P L (at root v c) (fun (at (wire x) a' l))) (sym f)
      (subst (λ a'. To τ P L (at root v c) (fun (at (wire y) a' l))) (sym a1)
      (subst (λ l. To τ P L (at root v c) (fun (at (wire y) a l))) (sym h) (stay (reach (lined v c).channel.last))))
  last_go (app_left {y = x} {a = a'} {w = u} m e) (front (hat_wire {x = x'} {b = b} f k g h)) =
      absurd (sides_apart R P x a' b w m (subst (λ x. occurs x P ≡ true) (sym f) k) e
      (subst (λ x. IsRight τ R P x b w u) (sym f) g))
  last_go (app_right {y = x} {b = b} {v = l} m e) (front (hat_root f g h)) =
      absurd (sides_apart R P x a b l (subst (λ z. occurs z R ≡ true) (sym f) (spine_occurs s0)) m
      (g ∙ ap (λ z. left P z a) (sym f)) e)
  last_go (app_right {y = x} {b = b} {v = l} {w = u} {c = k} m e)
      (front (hat_wire {x = x'} {b = b'} {c = c} f m' g h)) =
      let j = right_one e (subst (λ x. IsRight τ R P x b' w u) (sym f) g) refl in
      subst (λ l. To τ P L (at (wire x') b' c) (arg l (at (wire x) b k))) (sym j.1)
      (subst (λ b. To τ P L (at (wire x') b' c) (arg w (at (wire x) b k))) (sym j.0)
      (subst (λ x. To τ P L (at (wire x') b' c) (arg w (at (wire x) b' k))) (sym f)
      (subst (λ k. To τ P L (at (wire x') b' c) (arg w (at (wire x') b' k))) (sym h) (stay deeper))))
  last_go app_root (front h) = elim h [ ]

  last_come : {s z z' : Spot} {n : ℕ} → Edge τ (app R P) z' z n → L s z → To τ P L s z'
  last_come (in_arg {s = s'} {w = n} e) deeper = record { spot = s'; sit = deeper; weight = n; trail = one_back e }
  last_come (app_arg {u = u} {c = k} {d = d} e) deeper = subst
      (λ k. To τ P L (at root u d) (fun (at root (star w) k))) (sym e) (stay (reach (lined u d).channel.first))
  last_come (app_right {y = x} m e) deeper = stay (front (hat_wire refl m e refl))
  last_come (in_fun {s = z'} {s' = z} {w = n} e) (reach {v = v} {c = c} t) = stay
      (reach ((lined v c).channel.come z z' n e t))
  last_come (app_root {v = u} {c = k}) (reach {v = v} {c = c} t) = by ((lined v c).channel.only root (o u) k t)
    where
      by : (at root (o u) k ≡ at root (star w) (cons v c))
          ⊎ (at root (o u) k ≡ at (wire y) a (cons (os i (star w)) (cons v c))) → To τ P L (at root v c) (at root u k)
      by (inl q) = absurd (let i : o u ≡ star w = cc in cc)
      by (inr q) = absurd (cc)
  last_come (app_left {y = x} {a = a'} {w = u} {c = k} m e) (reach {v = v} {c = c} t) = by
      ((lined v c).channel.only (wire x) a' k t)
    where
      by : (at (wire x) a' k ≡ at root (star w) (cons v c))
          ⊎ (at (wire x) a' k ≡ at (wire y) a (cons (os i (star w)) (cons v c))) →
          To τ P L (at root v c) (at (wire x) u k)
      by (inl q) = absurd (cc)
      by (inr q) =
          let f : x ≡ y = cc in
          let g : a' ≡ a = cc in
          let h : k ≡ cons (os i (star w)) (cons v c) = cc in
          stay (front (hat_root f (e ∙ ap (left P x) g ∙ ap (λ x. left P x a) f) h))

  last_out : {s z : Spot} (q : Place) (b : Level) (d : Context) → z ≡ at q b d → L s z →
      Comes (HatLast τ R P y a i w) s q b d
  last_out q b d e deeper = absurd (cc)
  last_out q b d e (reach t) = absurd (cc)
  last_out q b d e (front {p = p} {q = q'} {v = v} {b = b'} {c = c} {d = d'} h) =
      let f : q' ≡ q = cc in
      let g : b' ≡ b = cc in
      let j : d' ≡ d = cc in
      record {
        port = p;
        level = v;
        rest = c;
        is = refl;
        hat = subst (λ q. HatLast τ R P y a i w p v c q b d) f
            (subst (λ b. HatLast τ R P y a i w p v c q' b d) g (subst (λ d. HatLast τ R P y a i w p v c q' b' d) j h));
      }

  last_has : {p q : Place} {v b : Level} {c d : Context} → HatLast τ R P y a i w p v c q b d → Has q (app R P)
  last_has (hat_root {z = z} e f g) = or_left (occurs z R) (occurs z P)
      (subst (λ z. occurs z R ≡ true) (sym e) (spine_occurs s0))
  last_has (hat_wire {z = z} e m f g) = or_right (occurs z R) (occurs z P) (subst (λ z. occurs z P ≡ true) (sym e) m)

  last_goes : {s z : Spot} (p : Site) (v : Level) (c : Context) → Stands true (app R P) p → L s z →
      z ≡ spot_in p (base true v c) →
      OnSpine (app R P) p ⊎ Placed P (in_argument w) s p v c
  last_goes self v c h (reach t) e = inl lanes.last
  last_goes (in_function p) v c (t, of_function m, h) (reach {v = u} {c = d} {z = z} r) e =
      inl (later ((lined u d).spined p v c
      (subst (lined u d).channel.In (let j : z ≡ spot_in p (base true v c) = cc in j) r)))
  last_goes (in_argument l p) v c (t, of_argument m, h) (deeper {s = s}) e =
      let i : w ≡ l = cc in
      inr (record {
        site = p;
        is = (let j : s ≡ spot_in p (base true v c) = cc in j);
        put_is = ap (λ l. in_argument l p) (sym i);
        there = (t, m, h);
      })
  last_goes self v c h deeper e = absurd (cc)
  last_goes (in_function p) v c h deeper e = absurd (cc)
  last_goes (in_argument l p) v c h (reach r) e = absurd (cc)
  last_goes self v c h (front r) e = absurd (cc)
  last_goes (in_function p) v c h (front r) e = absurd (cc)
  last_goes (in_argument l p) v c h (front r) e = absurd (cc)
  last_goes (in_lam p) v c (t, m, h) r e = elim m [ ]

  last_comes : {s z : Spot} (p : Site) (c : Context) → Stands false (app R P) p → L s z →
      z ≡ spot_in p (base false empty c) → Landed P s c
  last_comes self c (t, whole, h) r e = absurd h
  last_comes (in_function p) c (t, of_function m, h) (reach {v = u} {c = d} {z = z} r) e =
      absurd ((lined u d).none refl p empty c (t, m, h)
      (subst (lined u d).channel.In (let j : z ≡ spot_in p (base false empty c) = cc in j) r))
  last_comes (in_argument l p) c (t, of_argument m, h) (deeper {s = s}) e =
      record { site = p; is = (let j : s ≡ spot_in p (base false empty c) = cc in j); there = (t, m, h) }
  last_comes (in_function p) c h deeper e = absurd (cc)
  last_comes (in_argument l p) c h (reach r) e = absurd (cc)
  last_comes (in_function p) c h (front r) e = absurd (cc)
  last_comes (in_argument l p) c h (front r) e = absurd (cc)
  last_comes (in_lam p) c (t, m, h) r e = elim m [ ]

  seat_last : Seat τ P (app R P) (HatLast τ R P y a i w) (in_argument w)
  seat_last = record {
    Sit = L;
    start = λ p q v b c d h. front h;
    go = λ s z z' n e r. last_go e r;
    come = λ s z z' n e r. last_come e r;
    out = λ s q b d r. last_out q b d refl r;
    has = λ p q v b c d h. last_has h;
    goes = λ s p v c h r. last_goes p v c h r refl;
    comes = λ s p c h r. last_comes p c h r refl;
    into = λ p v c. deeper;
  }

-- ---- an earlier argument

module _ {τ : Translation} {P R : Tree} {H : Hats} {put : Site → Site} (Q : Tree)
    (flat : (p : Place) (v b : Level) (c d : Context) → H p v c root b d → ⊥) (k : Seat τ P R H put) where
  abbrev E : Spot → Spot → Type 0
  E = Earlier k.Sit (HatEarlier Q H)

  over : {s z : Spot} → To τ P k.Sit s z → To τ P E s (fun z)
  over d = record { spot = d.spot; sit = funs d.sit; weight = d.weight; trail = d.trail }

  earlier_go : {s z z' : Spot} {n : ℕ} → Edge τ (app R Q) z z' n → E s z → To τ P E s z'
  earlier_go (in_fun {s = z} {s' = z'} {w = n} e) (funs {s = s} r) = over (k.go s z z' n e r)
  earlier_go (app_arg {v = v} {c = c} e) (funs {s = s} r) = let x = k.out s root (star v) c r in
      absurd (flat x.port x.level (star v) x.rest c x.hat)
  earlier_go app_root (sides h) = elim h [ ]
  earlier_go (app_left {y = x} {a = a} {c = l} m e) (sides (hat_left {p = p} {v = v} {b = b} {c = c} h f)) =
      subst (λ a. To τ P E (at p v c) (fun (at (wire x) a l))) (sym (left_one Q x a b (sym e ∙ f)))
      (stay (funs (k.start p (wire x) v b c l h)))
  earlier_go (app_right {y = x} {b = a} {v = u} {c = l} m e) (sides (hat_left {p = p} {v = v} {b = b} {c = c} h f)) =
      absurd (sides_apart R Q x b a u (k.has p (wire x) v b c l h) m f e)
  earlier_go (in_arg e) r = elim r [ ]

  earlier_come : {s z z' : Spot} {n : ℕ} → Edge τ (app R Q) z' z n → E s z → To τ P E s z'
  earlier_come (in_fun {s = z'} {s' = z} {w = n} e) (funs {s = s} r) = over (k.come s z z' n e r)
  earlier_come (app_root {v = v} {c = c}) (funs {s = s} r) = let x = k.out s root (o v) c r in
      absurd (flat x.port x.level (o v) x.rest c x.hat)
  earlier_come (app_left {y = y} {a = a} {w = w} {c = c} m e) (funs {s = s} r) =
      let x = k.out s (wire y) a c r in
      subst (λ s. To τ P E s (at (wire y) w c)) (sym x.is) (stay (sides (hat_left x.hat e)))
  earlier_come (app_arg e) r = elim r [ ]
  earlier_come (app_right m e) r = elim r [ ]
  earlier_come (in_arg e) r = elim r [ ]

  earlier_out : {s z : Spot} (q : Place) (b : Level) (d : Context) → z ≡ at q b d → E s z →
      Comes (HatEarlier Q H) s q b d
  earlier_out q b d e (funs r) = absurd (cc)
  earlier_out q b d e (sides {p = p} {q = q'} {v = v} {b = b'} {c = c} {d = d'} h) =
      let f : q' ≡ q = cc in
      let g : b' ≡ b = cc in
      let j : d' ≡ d = cc in
      record {
        port = p;
        level = v;
        rest = c;
        is = refl;
        hat = subst (λ q. HatEarlier Q H p v c q b d) f
            (subst (λ b. HatEarlier Q H p v c q' b d) g (subst (λ d. HatEarlier Q H p v c q' b' d) j h));
      }

  earlier_has : {p q : Place} {v b : Level} {c d : Context} → HatEarlier Q H p v c q b d → Has q (app R Q)
  earlier_has (hat_left {p = p} {z = x} {v = v} {b = b} {c = c} {d = l} h f) = or_left (occurs x R)
      (occurs x Q) (k.has p (wire x) v b c l h)

  earlier_goes : {s z : Spot} (p : Site) (v : Level) (c : Context) → Stands true (app R Q) p →
      E s z → z ≡ spot_in p (base true v c) →
      OnSpine (app R Q) p ⊎ Placed P (λ p. in_function (put p)) s p v c
  earlier_goes self v c h r e = inl lanes.last
  earlier_goes (in_function p) v c (t, of_function m, h) (funs {s = s} {z = z} r) e =
      by (k.goes s p v c (t, m, h) (subst (k.Sit s) (let j : z ≡ spot_in p (base true v c) = cc in j) r))
    where
      by : OnSpine R p ⊎ Placed P put s p v c →
          OnSpine (app R Q) (in_function p) ⊎ Placed P (λ p. in_function (put p)) s (in_function p) v c
      by (inl i) = inl (later i)
      by (inr x) = inr (record { site = x.site; is = x.is; put_is = ap in_function x.put_is; there = x.there })
  earlier_goes (in_function p) v c h (sides r) e = absurd (cc)
  earlier_goes (in_argument l p) v c h (funs r) e = absurd (cc)
  earlier_goes (in_argument l p) v c h (sides r) e = absurd (cc)
  earlier_goes (in_lam p) v c (t, m, h) r e = elim m [ ]

  earlier_comes : {s z : Spot} (p : Site) (c : Context) → Stands false (app R Q) p → E s z →
      z ≡ spot_in p (base false empty c) → Landed P s c
  earlier_comes self c (t, whole, h) r e = absurd h
  earlier_comes (in_function p) c (t, of_function m, h) (funs {s = s} {z = z} r) e =
      k.comes s p c (t, m, h) (subst (k.Sit s) (let j : z ≡ spot_in p (base false empty c) = cc in j) r)
  earlier_comes (in_function p) c h (sides r) e = absurd (cc)
  earlier_comes (in_argument l p) c h (funs r) e = absurd (cc)
  earlier_comes (in_argument l p) c h (sides r) e = absurd (cc)
  earlier_comes (in_lam p) c (t, m, h) r e = elim m [ ]

  seat_earlier : Seat τ P (app R Q) (HatEarlier Q H) (λ p. in_function (put p))
  seat_earlier = record {
    Sit = E;
    start = λ p q v b c d h. sides h;
    go = λ s z z' n e r. earlier_go e r;
    come = λ s z z' n e r. earlier_come e r;
    out = λ s q b d r. earlier_out q b d refl r;
    has = λ p q v b c d h. earlier_has h;
    goes = λ s p v c h r. earlier_goes p v c h r refl;
    comes = λ s p c h r. earlier_comes p c h r refl;
    into = λ p v c. funs (k.into p v c);
  }

-- ---- under an abstraction

no_empty : {p : Place} {v w : Level} → OutOf p v root w → w ≡ empty → ⊥
no_empty (up_root {v = v} e) f = let g : empty ≡ o v = sym f ∙ e in absurd (cc)
no_empty (up_own {a = a} h e) f = let g : empty ≡ star a = sym f ∙ e in absurd (cc)

module _ {τ : Translation} {P M : Tree} {H : Hats} {put : Site → Site} (k : Seat τ P M H put) where
  abbrev I : Spot → Spot → Type 0
  I = Inner k.Sit (HatInner H)

  lower : {s z : Spot} → To τ P k.Sit s z → To τ P I s (body z)
  lower d = record { spot = d.spot; sit = bodies d.sit; weight = d.weight; trail = d.trail }

  inner_enter : {z z' : Spot} {n : ℕ} (q : Place) (b : Level) (d : Context) → z ≡ at q b d →
      Edge τ (lam M) z z' n → {p : Place} {v : Level} {c : Context} → HatInner H p v c q b d → To τ P I (at p v c) z'
  inner_enter q b d e x {p = p} {v = v} {c = c} (hat_up {q = r} {b = b'} h up) =
      let t = inside x e in
      let i = up_from_one t.up up refl refl in
      let f : body (at r b' d) ≡ body (at t.port t.level d) = ap (λ r. body (at r b' d)) (sym i.0)
      ∙ ap (λ l. body (at t.port l d)) (sym i.1) in
      subst (λ z. To τ P I (at p v c) z) (f ∙ sym t.is) (stay (bodies (k.start p r v b' c d h)))

  inner_go : {s z z' : Spot} {n : ℕ} → Edge τ (lam M) z z' n → I s z → To τ P I s z'
  inner_go (in_body {s = z} {s' = z'} {w = n} e) (bodies {s = s} r) = lower (k.go s z z' n e r)
  inner_go e (rims {q = q} {b = b} {d = d} h) = inner_enter q b d refl e h

  inner_leave : {s : Spot} {r q : Place} {a b : Level} {l : Context} → OutOf r a q b →
      k.Sit s (at r a l) → To τ P I s (at q b l)
  inner_leave {s} {r} {q} {a} {b} {l} up z = let x = k.out s r a l z in
      subst (λ s. To τ P I s (at q b l)) (sym x.is) (stay (rims (hat_up x.hat up)))

  inner_come : {s z z' : Spot} {n : ℕ} → Edge τ (lam M) z' z n → I s z → To τ P I s z'
  inner_come (in_body {s = z'} {s' = z} {w = n} e) (bodies {s = s} r) = lower (k.come s z z' n e r)
  inner_come lam_root (bodies r) = inner_leave (up_root refl) r
  inner_come (lam_own m) (bodies r) = inner_leave (up_own refl refl) r
  inner_come (lam_wire e m) (bodies r) = inner_leave (up_wire e refl) r

  inner_out : {s z : Spot} (q : Place) (b : Level) (d : Context) → z ≡ at q b d → I s z → Comes (HatInner H) s q b d
  inner_out q b d e (bodies r) = absurd (cc)
  inner_out q b d e (rims {p = p} {q = q'} {v = v} {b = b'} {c = c} {d = d'} h) =
      let f : q' ≡ q = cc in
      let g : b' ≡ b = cc in
      let j : d' ≡ d = cc in
      record {
        port = p;
        level = v;
        rest = c;
        is = refl;
        hat = subst (λ q. HatInner H p v c q b d) f
            (subst (λ b. HatInner H p v c q' b d) g (subst (λ d. HatInner H p v c q' b' d) j h));
      }

  inner_has : {p q : Place} {v b : Level} {c d : Context} → HatInner H p v c q b d → Has q (lam M)
  inner_has (hat_up {p = p} {q = q} {v = v} {b = b} {c = c} {d = l} h up) = up_has M up (k.has p q v b c l h)

  inner_goes : {s z : Spot} (p : Site) (v : Level) (c : Context) → Stands true (lam M) p → I s z →
      z ≡ spot_in p (base true v c) →
      OnSpine (lam M) p ⊎ Placed P (λ p. in_lam (put p)) s p v c
  inner_goes self v c (t, whole, h) r e = absurd h
  inner_goes (in_lam p) v c (t, of_lam m, h) (bodies {s = s} {z = z} r) e =
      by (k.goes s p v c (t, m, h) (subst (k.Sit s) (let j : z ≡ spot_in p (base true v c) = cc in j) r))
    where
      by : OnSpine M p ⊎ Placed P put s p v c →
          OnSpine (lam M) (in_lam p) ⊎ Placed P (λ p. in_lam (put p)) s (in_lam p) v c
      by (inl i) = inl (under i)
      by (inr x) = inr (record { site = x.site; is = x.is; put_is = ap in_lam x.put_is; there = x.there })
  inner_goes (in_lam p) v c h (rims r) e = absurd (cc)
  inner_goes (in_function p) v c (t, m, h) r e = elim m [ ]
  inner_goes (in_argument l p) v c (t, m, h) r e = elim m [ ]

  inner_comes : {s z : Spot} (p : Site) (c : Context) → Stands false (lam M) p → I s z →
      z ≡ spot_in p (base false empty c) → Landed P s c
  inner_comes self c h (rims (hat_up {q = q} {r = r} {b = a} {b' = b} x up)) e =
      let f : r ≡ root = cc in
      absurd (no_empty (subst (λ r. OutOf q a r b) f up) (let j : b ≡ empty = cc in j))
  inner_comes self c h (bodies r) e = absurd (cc)
  inner_comes (in_lam p) c (t, of_lam m, h) (bodies {s = s} {z = z} r) e =
      k.comes s p c (t, m, h) (subst (k.Sit s) (let j : z ≡ spot_in p (base false empty c) = cc in j) r)
  inner_comes (in_lam p) c h (rims r) e = absurd (cc)
  inner_comes (in_function p) c (t, m, h) r e = elim m [ ]
  inner_comes (in_argument l p) c (t, m, h) r e = elim m [ ]

  seat_inner : Seat τ P (lam M) (HatInner H) (λ p. in_lam (put p))
  seat_inner = record {
    Sit = I;
    start = λ p q v b c d h. rims h;
    go = λ s z z' n e r. inner_go e r;
    come = λ s z z' n e r. inner_come e r;
    out = λ s q b d r. inner_out q b d refl r;
    has = λ p q v b c d h. inner_has h;
    goes = λ s p v c h r. inner_goes p v c h r refl;
    comes = λ s p c h r. inner_comes p c h r refl;
    into = λ p v c. bodies (k.into p v c);
  }

module _ (τ : Translation) where
  flat_of : {R P : Tree} {i : ℕ} (k : Arg R i P) {y : Wire} {a : Level} {j : ℕ} → Spine R y a j →
      (w : Level) (p : Place) (v b : Level) (c d : Context) → StandsAt τ k w p v c root b d → ⊥
  flat_of (last s) t w p v b c d h = elim h [ ]
  flat_of (earlier s k) t w p v b c d h = elim h [ ]
  flat_of (inner k) t w p v b c d h = elim t [ ]

  pub seat : {u P : Tree} {i : ℕ} (k : Arg u i P) (w : Level) → Seat τ P u (StandsAt τ k w) (put_in k w)
  seat (last {P = P} s) w = seat_last τ s P w
  seat (earlier {Q = Q} s k) w = seat_earlier Q (flat_of k s w) (seat k w)
  seat (inner k) w = seat_inner (seat k w)
