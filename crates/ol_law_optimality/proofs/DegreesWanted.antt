-- Each degree that leftmost reduction contracts is the word of a redex that a question of the first term comes to.
use Rattle.std.proofs.Common.{◌≡◌, ℕ, suc, ◌+◌, ◌≤◌, Bool, true, false, ◌++◌, ◌⊎◌, inl, inr, List, [], Some, None, refl}
use Rattle.std.proofs.Common.{sym, ap, ◌∙◌, subst, arith, append-nil}
use Rattle.ol_context.specs.Contexts.{levels}
use Rattle.ol_law_edges.specs.Edges.{IsIn}
use Rattle.ol_beta.specs.Leftmost.{leftmost}
use Rattle.ol_law_optimality.specs.Met.{IsMatched, blank}
use Rattle.ol_law_optimality.proofs.Inside.{put_in}
use Rattle.ol_law_optimality.proofs.Meeting.{Comes, app_is, lam_is, too_few}
use Rattle.ol_law_optimality.proofs.Sites.{base, one_site}
use Rattle.ol_law_optimality.proofs.Wanted.{Asks, whole, part, IsWanted}
use Rattle.ol_law_meaning.specs.Heads.{os, outer, Spine, head_app, Normal, flat, layer, Steps, done, step, Arg, last}
use Rattle.ol_law_meaning.specs.Heads.{earlier, inner, hat_root, hat_wire, hat_left, hat_up, StandsAt}
use Rattle.ol_law_meaning.specs.Contraction.{Tree, lam, app, Level, empty, star, Context, cons, occurs, left, Wire}
use Rattle.ol_law_meaning.specs.Contraction.{Place, root, wire, Spot, at, body, fun, arg, Edge, app_left, app_right}
use Rattle.ol_law_meaning.specs.Contraction.{app_arg, Trail, on, Leads, HeadStep}
use Rattle.ol_law_meaning.specs.Steps.{Same}
use Rattle.ol_law_meaning.proofs.Channels.{up_edge}
use Rattle.ol_law_meaning.proofs.Endless.{normal_stops}
use Rattle.ol_law_meaning.proofs.Mains.{reflects}
use Rattle.ol_law_meaning.proofs.Seats.{Deep, seated, up_to, root_stands}
use Rattle.ol_law_meaning.proofs.Walking.{passing, least_or, root_stays, outer_grows, head_path, spine_occurs}
use Rattle.ol_law_meaning.proofs.Walking.{spine_path, normal_or_step}
use Rattle.ol_law_optimality.specs.Labels.{Label, Labelled, erased, degree, contracted, LeftmostContracts}
use Rattle.ol_law_optimality.specs.Labels as labels
use Rattle.ol_law_meaning.specs.Sites.{Site, spot_in, PartAt, function_at}
use Rattle.ol_law_meaning.proofs.Trails.{tr_trans, tr_sym, tr_body, tr_fun, tr_arg, one}
use Rattle.ol_term.specs.declared.translations.Translation.{Translation}
use Rattle.ol_law_optimality.specs.Signs.{Signs, signs_of}
use Rattle.ol_law_optimality.specs.WantedDegrees.{DegreesAreWanted, WantedAreDegrees}
use Rattle.ol_law_optimality.specs.Readings.{AreAlike, word_of, word_along, function_label, moved, HeadContracts}
use Rattle.ol_law_optimality.proofs.HeadWords.{Step, step_of, matched_goes}
use Rattle.ol_law_optimality.proofs.Keeping.{Goes, undo}
use Rattle.ol_law_optimality.proofs.Leading.{leads, silent}
use Rattle.ol_law_optimality.proofs.Leftwards.{labelled_step, one_step}
use Rattle.ol_law_optimality.proofs.Sides.{tree_word}
use Rattle.ol_law_optimality.proofs.Wanting.{wanted_degree, Lifted, lift_fun, lift_arg, lift_lam, LeftStep, InFunction}
use Rattle.ol_law_optimality.proofs.Wanting.{InArgument, app_step, lam_step, spine_plain, IsNormalHead, stays_wanted}

module _ (τ : Translation) where
  -- ---- places to which walks from the root lead

  -- the place and level 0; later levels may change from walk to walk
  pub data Reached (t : Tree) : Place → Level → Type 0 where
    begun : {v : Level} (n : ℕ) → outer t ≤ n → v ≡ os n empty → Reached t root v
    walked : {p q : Place} {v w : Level} {c d : Context} {n : ℕ} → Reached t p v →
        Leads τ t (at p v c) (at q w d) n → Reached t q w

  -- ---- before a head step

  pub place_back : {t t' : Tree} (h : HeadStep t t') {y : Place} {w : Level} → Reached t' y w →
      (v : Level) × Same τ h y v w × Reached t y v
  place_back {t} h (begun n f e) =
      let g = outer_grows h in
      let a : outer t ≤ n = omega arith in (
        os n empty,
        subst (λ w. Same τ h root (os n empty) w) (sym e) (root_stays τ h n (passing t n a)),
        begun n a refl,
      )
  place_back h (walked {p = p} {q = q} {v = v} {w = w} {c = c} {d = d} {n = n} r l) =
      let x = place_back h r in
      let y = reflects h p q x.0 v w c d n x.1 l in
      (y.0, y.1, walked x.2 y.3)

  -- it asks a part for no more abstractions than come by head steps, with no later levels
  abbrev pub Close : (P : Tree) (x : Place) (v : Level) (c : Context) → Asks τ P x v c → Type 0
  Close P x v c (whole n e) = (c ≡ levels []) × (u : Tree) × (m : ℕ) × Steps P u m × (n ≤ outer u)
  Close P y w d (part {Q = Q} {x = x} {v = v} {c = c} b s k a g f) = Close Q x v c a

  -- where a question of the later term began
  record Before {t t' : Tree} (h : HeadStep t t') (y : Place) (w : Level) (c : Context) : Type 0 where
    level : Level
    same : Same τ h y level w
    asks : Asks τ t y level c
    close : Close t y level c asks
    reached : Reached t y level

  asks_back : {t t' : Tree} (h : HeadStep t t') (q : Site) (y : Place) (w : Level) (c : Context)
      (a : Asks τ t' y w c) → Close t' y w c a → Comes τ t' (at y w c) q → Reached t' y w → Before h y w c
  asks_back {t} {t'} h q y w c (whole n e) f m r = elim (least_or (outer t) n) [
    | inl few ↦ absurd (
        let g = outer_grows h in
        too_few q n m.steps c m.later m.level (omega arith)
        (subst (λ v. Trail (Edge τ t') (at root v c) (function_at q m.level m.later) m.steps) e m.way))
    | inr enough ↦ record {
      level = os n empty;
      same = subst (λ w. Same τ h root (os n empty) w) (sym e) (root_stays τ h n (passing t n enough));
      asks = whole n refl;
      close = (f.0, f.1, suc f.2, step h f.3, f.4);
      reached = begun n enough refl;
    }
  ]
  asks_back h q y w c (part b s k a g f) z m r =
      let x = place_back h r in
      record { level = x.0; same = x.1; asks = part b (step h s) k a g (w, x.1, f); close = z; reached = x.2 }

  -- ---- a redex that a question comes to, with a word like these signs

  pub record Found (T : Labelled) (g : Signs) : Type 0 where
    pub site : Site
    pub wanted : IsWanted τ (erased T) site
    pub close : Close (erased T) wanted.place wanted.first wanted.rest wanted.asks
    pub reached : Reached (erased T) wanted.place wanted.first
    pub alike : AreAlike (word_of T site wanted.comes.matched) g

  abbrev pub labelled : (t : Tree) (U : Labelled) (q : Site) → IsMatched τ t q → Signs
  labelled t U q n = signs_of (function_label U q) ++ word_along U n.trail

  same_word : (t : Tree) (U : Labelled) (q q' : Site) → q ≡ q' → (y : IsMatched τ t q') (x : IsMatched τ t q) →
      AreAlike (labelled t U q' y) (labelled t U q x)
  same_word t U q q' e = subst (λ q'. (y : IsMatched τ t q') (x : IsMatched τ t q) →
      AreAlike (labelled t U q' y) (labelled t U q x)) e (λ y x. tree_word τ t U q y x)

  module _ {T U : Labelled} {d : Label} (k : Step τ T d U) where
    pub comes_back : (q : Site) (y : Place) (v w : Level) (c : Context) → Same τ k.step y v w →
        (n : Comes τ k.tree (at y w c) q) → (p : Site) × (m : Comes τ (erased T) (at y v c) p)
        × AreAlike (word_of T p m.matched) (labelled k.tree U q n.matched)
    comes_back q y v w c e n =
        let K = k.keeps in
        let u = undo K n.way (at y v c) (K.start y v w c e) in
        let a = K.backs.source true q n.level n.later u.spot (λ f. absurd (cc))
        (app n.matched.function n.matched.argument, n.matched.is, tt) u.rel in
        let z = undo K n.matched.trail (function_at a.site empty blank) (a.all empty blank (λ f. refl)) in
        let b = K.backs.source false n.matched.other empty blank z.spot (λ f. refl)
        (lam n.matched.inner, n.matched.is_other, tt) z.rel in
        let f = app_is a.there.0 a.there.2 in
        let l = lam_is b.there.0 b.there.2 in
        let m : IsMatched τ (erased T) a.site = record {
          function = f.0;
          argument = f.1;
          is = subst (λ u. PartAt (erased T) a.site u) f.2 a.there.1;
          other = b.site;
          inner = l.0;
          is_other = subst (λ u. PartAt (erased T) b.site u) l.1 b.there.1;
          weight = z.weight + b.weight;
          trail = tr_trans z.trail b.trail refl;
        } in (
          a.site,
          record {
            matched = m;
            level = n.level;
            later = n.later;
            steps = u.weight + a.weight;
            way = tr_trans u.trail a.trail refl;
          },
          by a.site m (a.all empty blank (λ f. refl))
              (K.goes a.site empty blank (function_at q empty blank) a.there (a.all empty blank (λ f. refl))),
        )
      where
        by : (p : Site) (m : IsMatched τ (erased T) p) →
            k.keeps.K.R (spot_in p (base true empty blank)) (function_at q empty blank) →
            (p ≡ k.keeps.redex) ⊎ ((g : Goes k.tree T U k.keeps.K p)
            × (function_at q empty blank ≡ spot_in g.site (base true empty blank))) →
            AreAlike (word_of T p m) (labelled k.tree U q n.matched)
        by p m c (inl e) = absurd (k.keeps.gone blank (function_at q empty blank)
            (subst (λ p. k.keeps.K.R (spot_in p (base true empty blank)) (function_at q empty blank)) e c))
        by p m c (inr (g, e)) =
            let a = matched_goes τ k.keeps p m g in
            λ r x. a.alike r x
            ∙ same_word k.tree U q g.site (one_site q g.site empty empty blank blank e) a.matched n.matched r x

    abbrev Later : Signs → Tree → Site → Type 0
    Later g t q = (n : IsWanted τ t q) × Close t n.place n.first n.rest n.asks × Reached t n.place n.first
        × AreAlike (labelled t U q n.comes.matched) g

    -- what a question comes to after a labelled head step, it comes to before it
    pub found_back : (g : Signs) → Found U g → Found T g
    found_back g F = by F.site (subst (λ t. Later g t F.site) (sym k.is) (F.wanted, F.close, F.reached, F.alike))
      where
        by : (q : Site) → Later g k.tree q → Found T g
        by q (n, f, r, a) =
            let b = asks_back k.step q n.place n.first n.rest n.asks f n.comes r in
            let y = comes_back q n.place b.level n.first n.rest b.same n.comes in
            record {
              site = y.0;
              wanted = record { place = n.place; first = b.level; rest = n.rest; asks = b.asks; comes = y.1 };
              close = b.close;
              reached = b.reached;
              alike = λ r x. y.2 r x ∙ a r x;
            }

  -- and the redex of the step, which the root's question comes to
  pub found_redex : {T U : Labelled} {d : Label} → HeadContracts T d U → Found T (signs_of d)
  found_redex {T} {U} {d} h =
      let r = leads τ h in
      let k = r.way empty (levels []) in
      let u = silent τ T (r.same empty blank) in
      let e : signs_of (function_label T r.site) ++ word_along T u.0 ≡ signs_of d =
      ap (λ a. signs_of (function_label T r.site) ++ a) u.1 ∙ append-nil (signs_of (function_label T r.site))
      ∙ ap signs_of r.degree in
      record {
        site = r.site;
        wanted = record {
          place = root;
          first = os (outer (erased T)) empty;
          rest = levels [];
          asks = whole (outer (erased T)) refl;
          comes = record {
            matched = record {
              function = lam r.function;
              argument = r.argument;
              is = r.is;
              other = r.other;
              inner = r.function;
              is_other = r.is_other;
              weight = 0;
              trail = u.0;
            };
            level = k.0;
            later = levels [];
            steps = k.1;
            way = k.2;
          };
        };
        close = (refl, erased T, 0, done, omega arith);
        reached = begun (outer (erased T)) (omega arith) refl;
        alike = λ r y. ap (λ a. moved r a y) e;
      }

  -- ---- in an argument of a head normal form

  abbrev pub deep_at : {u P : Tree} {i : ℕ} → Arg u i P → Spot → Spot
  deep_at (last s) z = arg empty z
  deep_at (earlier s k) z = fun (deep_at k z)
  deep_at (inner k) z = body (deep_at k z)

  pub deep_site : {u P : Tree} {i : ℕ} (k : Arg u i P) (p : Site) (s : Spot) →
      deep_at k (spot_in p s) ≡ spot_in (put_in k empty p) s
  deep_site (last s) p z = refl
  deep_site (earlier s k) p z = ap fun (deep_site k p z)
  deep_site (inner k) p z = ap body (deep_site k p z)

  pub sunk : {u P : Tree} {i : ℕ} (k : Arg u i P) {s z : Spot} {n : ℕ} → Trail (Edge τ P) s z n →
      Trail (Edge τ u) (deep_at k s) (deep_at k z) n
  sunk (last s) t = tr_arg t
  sunk (earlier s k) t = tr_fun (sunk k t)
  sunk (inner k) t = tr_body (sunk k t)

  -- from where a spot of its interface stands
  pub enters : {u P : Tree} {i : ℕ} (k : Arg u i P) (p q : Place) (v b : Level) (c d : Context) →
      StandsAt τ k empty p v c q b d → Deep τ u (at q b d) (deep_at k (at p v c))
  enters (last {R = R} {P = P} {y = y} {a = a} {i = i} s) p q v b c d (hat_root {z = z} e f g) = record {
    weight = _;
    trail = on (app_left (subst (λ z. occurs z R ≡ true) (sym e) (spine_occurs s)) (f ∙ ap (λ z. left P z a) (sym e)))
        (tr_trans (subst (λ d. Trail (Edge τ (app R P)) (fun (at (wire z) a d))
        (fun (at root (star empty) (cons v c))) i) (sym g)
        (subst (λ z. Trail (Edge τ (app R P))
        (fun (at (wire z) a (cons (os i (star empty)) (cons v c))))
        (fun (at root (star empty) (cons v c))) i) (sym e)
        (tr_fun (tr_sym (spine_path s (star empty) (cons v c)))))) (one (app_arg refl)) refl) refl;
  }
  enters (last {R = R} {P = P} s) p q v b' c d (hat_wire {x = x} {z = z} {b = b} e m f g) = record {
    weight = 0;
    trail = subst (λ z. Trail (Edge τ (app R P)) (at (wire z) b' d) (arg empty (at (wire x) b c)) 0)
        (sym e) (subst (λ d. Trail (Edge τ (app R P)) (at (wire x) b' d)
        (arg empty (at (wire x) b c)) 0) (sym g) (one (app_right m f)));
  }
  enters (earlier s k) p q v b' c d (hat_left {z = z} {b = b} h f) =
      let x = enters k p (wire z) v b c d h in
      record {
        weight = 0 + x.weight;
        trail = on (app_left ((seated k empty).has p (wire z) v b c d h) f) (tr_fun x.trail) refl;
      }
  enters (inner k) p r v b' c d (hat_up {q = q} {b = b} h up) =
      let x = enters k p q v b c d h in
      record {
        weight = 0 + x.weight;
        trail = on (up_edge up ((seated k empty).has p q v b c d h) d) (tr_body x.trail) refl;
      }

  -- later levels don't change the place
  any_later : {u P : Tree} {i : ℕ} (k : Arg u i P) (p q : Place) (v b : Level) (c d l : Context) →
      StandsAt τ k empty p v c q b d → (e : Context) × StandsAt τ k empty p v l q b e
  any_later (last {i = i} s) p q v b c d l (hat_root e f g) = (cons (os i (star empty)) (cons v l), hat_root e f refl)
  any_later (last s) p q v b c d l (hat_wire e m f g) = (l, hat_wire e m f refl)
  any_later (earlier s k) p q v b' c d l (hat_left {z = z} {b = b} h f) =
      let x = any_later k p (wire z) v b c d l h in (x.0, hat_left x.1 f)
  any_later (inner k) p r v b' c d l (hat_up {q = q} {b = b} h up) =
      let x = any_later k p q v b c d l h in (x.0, hat_up x.1 up)

  pub record Seen {u P : Tree} {i : ℕ} (k : Arg u i P) (x : Place) (v : Level) : Type 0 where
    pub place : Place
    pub level : Level
    pub reached : Reached u place level
    pub stands : (c : Context) → (d : Context) × StandsAt τ k empty x v c place level d

  pub reached_up : {u P : Tree} {i : ℕ} (k : Arg u i P) {q : Place} {a : Level} {j : ℕ} → Normal u q a j →
      {x : Place} {v : Level} → Reached P x v → Seen k x v
  reached_up {u} k {q} {a} n {v = v} (begun m f e) = record {
    place = q;
    level = a;
    reached = walked (begun (outer u) (omega arith) refl) (head_path n empty blank);
    stands = λ c. (_, (root_stands τ k empty n).1 v c);
  }
  reached_up k n (walked {p = p} {q = q} {v = v} {w = w} {c = c} {d = d} {n = m} r l) =
      let s = reached_up k n r in
      let g = s.stands c in
      let x = up_to k empty p s.place v s.level c g.0 g.1 q w d m l in
      record {
        place = x.0;
        level = x.1;
        reached = walked s.reached x.6;
        stands = λ c. any_later k q x.0 w x.1 d x.2 c x.3;
      }

  -- an argument with a redex that a question of its own comes to
  record Hung (T : Labelled) (g : Signs) : Type 0 where
    index : ℕ
    term : Labelled
    is : Arg (erased T) index (erased term)
    found : Found term g
    lifts : (p : Site) (m : IsMatched τ (erased term) p) → Lifted τ T (put_in is empty p) (word_of term p m)

  found_up : (T : Labelled) (g : Signs) → IsNormalHead τ (erased T) → Hung T g → Found T g
  found_up T g n h =
      let F = h.found in
      let m = F.wanted in
      let s = reached_up h.is n.3 F.reached in
      let x = s.stands m.rest in
      let l = h.lifts F.site m.comes.matched in
      let e = enters h.is m.place s.place m.first s.level m.rest x.0 x.1 in
      record {
        site = put_in h.is empty F.site;
        wanted = record {
          place = s.place;
          first = s.level;
          rest = x.0;
          asks = part s.level done h.is m.asks x.1 refl;
          comes = record {
            matched = l.0;
            level = m.comes.level;
            later = m.comes.later;
            steps = e.weight + m.comes.steps;
            way = subst (λ z. Trail (Edge τ (erased T)) (at s.place s.level x.0) z (e.weight + m.comes.steps))
                (deep_site h.is F.site (base true m.comes.level m.comes.later))
                (tr_trans e.trail (sunk h.is m.comes.way) refl);
          };
        };
        close = F.close;
        reached = s.reached;
        alike = λ r y. l.1 r y ∙ F.alike r y;
      }

  -- ---- of the whole where there is a head step, else of an argument

  abbrev HasStep : Tree → Type 0
  HasStep t = (t' : Tree) × HeadStep t t'

  pub data Holds : Bool → Labelled → Signs → Type 0 where
    of_whole : {T : Labelled} {g : Signs} → HasStep (erased T) → Found T g → Holds true T g
    of_args : {T : Labelled} {g : Signs} → IsNormalHead τ (erased T) → Holds false T g → Holds true T g
    at_last : {f a : Labelled} {w : Label} {g : Signs} → Holds true a g → Holds false (labels.app f a w) g
    at_earlier : {f a : Labelled} {w : Label} {g : Signs} → Holds false f g → Holds false (labels.app f a w) g
    at_body : {b : Labelled} {w : Label} {g : Signs} → Holds false b g → Holds false (labels.lam b w) g

  abbrev Gives : Bool → Labelled → Signs → Type 0
  Gives true T g = Found T g
  Gives false T g = IsNormalHead τ (erased T) → Hung T g

  hung_last : (f a : Labelled) (w : Label) (g : Signs) → Found a g → Gives false (labels.app f a w) g
  hung_last f a w g F (q, l, j, flat (head_app {j = i} s e)) = record {
    index = i;
    term = a;
    is = last s;
    found = F;
    lifts = λ p m. lift_arg τ f a w empty p m;
  }

  hung_earlier : (f a : Labelled) (w : Label) (g : Signs) → Gives false f g → Gives false (labels.app f a w) g
  hung_earlier f a w g up (q, l, j, flat (head_app {y = y} {a = b} {j = i} s e)) =
      let h = up (wire y, b, i, flat s) in
      record {
        index = h.index;
        term = h.term;
        is = earlier s h.is;
        found = h.found;
        lifts = λ p m.
            let x = h.lifts p m in
            let z = lift_fun τ f a w (put_in h.is empty p) x.0 in
            (z.0, λ r c. z.1 r c ∙ x.1 r c);
      }

  hung_body : (b : Labelled) (w : Label) (g : Signs) → Gives false b g → Gives false (labels.lam b w) g
  hung_body b w g up (q, l, j, layer {p = p} {v = v} n e) =
      let h = up (p, v, j, n) in
      record {
        index = h.index;
        term = h.term;
        is = inner h.is;
        found = h.found;
        lifts = λ p m.
            let x = h.lifts p m in
            let z = lift_lam τ b w (put_in h.is empty p) x.0 in
            (z.0, λ r c. z.1 r c ∙ x.1 r c);
      }
  hung_body b w g up (q, l, j, flat s) = elim s [ ]

  gives : {b : Bool} {T : Labelled} {g : Signs} → Holds b T g → Gives b T g
  gives (of_whole s f) = f
  gives (of_args {T = T} {g = g} n h) = found_up T g n (gives h n)
  gives (at_last {f = f} {a = a} {w = w} {g = g} h) = hung_last f a w g (gives h)
  gives (at_earlier {f = f} {a = a} {w = w} {g = g} h) = hung_earlier f a w g (gives h)
  gives (at_body {b = b} {w = w} {g = g} h) = hung_body b w g (gives h)

  -- ---- before a leftmost step

  record Pulled (b : Bool) (T : Labelled) (d : Label) (U : Labelled) : Type 0 where
    back : (g : Signs) → Holds b U g → Holds b T g
    redex : Holds b T (signs_of d)

  abbrev OnSpine : Labelled → Type 0
  OnSpine T = (y : Wire) (a : Level) (j : ℕ) → Spine (erased T) y a j → (d : Label) (U : Labelled) → LeftStep τ T d U →
      Pulled false T d U

  abbrev OnArgs : Labelled → Type 0
  OnArgs T = (q : Place) (a : Level) (j : ℕ) → Normal (erased T) q a j → (d : Label) (U : Labelled) →
      LeftStep τ T d U → Pulled false T d U

  abbrev OnWhole : Labelled → Type 0
  OnWhole T = (d : Label) (U : Labelled) → LeftStep τ T d U → Pulled true T d U

  in_args : (T : Labelled) (d : Label) (U : Labelled) → IsNormalHead τ (erased T) → Pulled false T d U →
      IsNormalHead τ (erased U) → (g : Signs) → Holds true U g → Holds true T g
  in_args T d U n r l g (of_whole x f) = absurd (normal_stops l.3 x.1)
  in_args T d U n r l g (of_args m h) = of_args n (r.back g h)

  whole_on : (T : Labelled) → OnArgs T → OnWhole T
  whole_on T up d U s = by (normal_or_step (erased T))
    where
      by : IsNormalHead τ (erased T) ⊎ HasStep (erased T) → Pulled true T d U
      by (inl n) =
          let r = up n.0 n.1 n.2 n.3 d U s in
          let l = ((stays_wanted τ T).on_args n.0 n.1 n.2 n.3 d U s).0 in
          record { back = λ g x. in_args T d U n r l g x; redex = of_args n r.redex }
      by (inr (t', h)) =
          let k = labelled_step T h in
          let z = one_step T U k.0 d k.1 s.place s.first s.degree_is s.gives k.2 in
          record {
            back = λ g x. of_whole (t', h)
                (found_back (step_of τ k.2) g (subst (λ U. Found U g) (sym z.term) (gives x)));
            redex = of_whole (t', h) (subst (λ d. Found T (signs_of d)) z.degrees (found_redex k.2));
          }

  args_on_lam : (b : Labelled) (w : Label) → OnArgs b → OnArgs (labels.lam b w)
  args_on_lam b w up q a j (flat s) d U l = elim s [ ]
  args_on_lam b w up q a j (layer {p = p} {v = v} n h) d U l =
      let r = lam_step τ b w d U l in
      let k = up p v j n d r.0 r.1 in
      record { back = λ g x. go r.0 k g (subst (λ U. Holds false U g) r.2 x); redex = at_body k.redex }
    where
      go : (c : Labelled) → Pulled false b d c → (g : Signs) → Holds false (labels.lam c w) g →
          Holds false (labels.lam b w) g
      go c k g (at_body x) = at_body (k.back g x)

  spine_on : (f a : Labelled) (w : Label) → OnSpine f → OnWhole a → OnSpine (labels.app f a w)
  spine_on f a w up right y l j (head_app {y = y'} {a = a'} {j = j'} s e) d U t =
      by (app_step τ f a w d U (spine_plain τ s) t)
    where
      in_fun : (c : Labelled) → Pulled false f d c → (g : Signs) → Holds false (labels.app c a w) g →
          Holds false (labels.app f a w) g
      in_fun c k g (at_last x) = at_last x
      in_fun c k g (at_earlier x) = at_earlier (k.back g x)

      in_arg : (c : Labelled) → Pulled true a d c → (g : Signs) → Holds false (labels.app f c w) g →
          Holds false (labels.app f a w) g
      in_arg c k g (at_earlier x) = at_earlier x
      in_arg c k g (at_last x) = at_last (k.back g x)

      by : InFunction τ f a w d U ⊎ InArgument τ f a w d U → Pulled false (labels.app f a w) d U
      by (inl (c, t', q)) =
          let k = up y' a' j' s d c t' in
          record { back = λ g x. in_fun c k g (subst (λ U. Holds false U g) q x); redex = at_earlier k.redex }
      by (inr (n, (c, t', q))) =
          let k = right d c t' in
          record { back = λ g x. in_arg c k g (subst (λ U. Holds false U g) q x); redex = at_last k.redex }

  flat_on : (f a : Labelled) (w : Label) → OnSpine (labels.app f a w) → OnArgs (labels.app f a w)
  flat_on f a w up q l j (flat s) d U t = up _ l j s d U t

  record Pulls (T : Labelled) : Type 0 where
    on_spine : OnSpine T
    on_args : OnArgs T
    on_whole : OnWhole T

  no_step : (T : Labelled) (d : Label) (U : Labelled) → leftmost (erased T) ≡ None → LeftStep τ T d U → ⊥
  no_step T d U e s = absurd (let f : Some s.place ≡ None = sym s.first ∙ e in cc)

  pulls : (T : Labelled) → Pulls T
  pulls (labels.var y w) =
      let n : OnArgs (labels.var y w) = λ q a j k d U s. absurd (no_step (labels.var y w) d U refl s) in
      record {
        on_spine = λ q a j k d U s. absurd (no_step (labels.var y w) d U refl s);
        on_args = n;
        on_whole = whole_on (labels.var y w) n;
      }
  pulls (labels.free f w) =
      let n : OnArgs (labels.free f w) = λ q a j k d U s. absurd (no_step (labels.free f w) d U refl s) in
      record {
        on_spine = λ q a j k d U s. absurd (no_step (labels.free f w) d U refl s);
        on_args = n;
        on_whole = whole_on (labels.free f w) n;
      }
  pulls (labels.lam b w) =
      let n = args_on_lam b w (pulls b).on_args in
      record { on_spine = λ y a j k d U s. elim k [ ]; on_args = n; on_whole = whole_on (labels.lam b w) n }
  pulls (labels.app f a w) =
      let m = spine_on f a w (pulls f).on_spine (pulls a).on_whole in
      let n = flat_on f a w m in
      record { on_spine = m; on_args = n; on_whole = whole_on (labels.app f a w) n }

  -- ---- so each degree is a word

  holds : (T v : Labelled) (ws : List Label) → LeftmostContracts T ws v → (w : Label) → IsIn w ws →
      Holds true T (signs_of w)
  holds T v ws labels.ready w i = absurd i
  holds T v ws (labels.contract {u = U} {w = d} {ws = us} place e f c r) w i =
      by ((pulls T).on_whole d U (record { place = place; first = e; degree_is = f; gives = c }))
      (λ i. holds U v us r w i) i
    where
      by : Pulled true T d U → (IsIn w us → Holds true U (signs_of w)) → (w ≡ d) ⊎ IsIn w us →
          Holds true T (signs_of w)
      by k rest (inl q) = subst (λ w. Holds true T (signs_of w)) (sym q) k.redex
      by k rest (inr i) = k.back (signs_of w) (rest i)

  pub degree_found : (T v : Labelled) (ws : List Label) → LeftmostContracts T ws v → (w : Label) → IsIn w ws →
      Found T (signs_of w)
  degree_found T v ws r w i = gives (holds T v ws r w i)

  pub degree_wanted : (T v : Labelled) (ws : List Label) → LeftmostContracts T ws v → (w : Label) → IsIn w ws →
      (p : Site) × (m : IsWanted τ (erased T) p) × AreAlike (word_of T p m.comes.matched) (signs_of w)
  degree_wanted T v ws r w i =
      let F = degree_found T v ws r w i in
      (F.site, F.wanted, F.alike)

pub degrees_are_wanted : DegreesAreWanted
degrees_are_wanted τ T v ws r w i = degree_wanted τ T v ws r w i

pub wanted_are_degrees : WantedAreDegrees
wanted_are_degrees τ T v ws r e p m = wanted_degree τ T v ws r e p m
