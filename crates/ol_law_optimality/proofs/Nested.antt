-- A labelled step under an abstraction, and before an argument.
use Rattle.std.proofs.Common.{◌≡◌, ℕ, true, false, [], ◌∷◌, ◌++◌, ◌⊎◌, inl, inr, refl, sym, ap, ◌∙◌, subst, Bool, ◌+◌}
use Rattle.std.proofs.lemmas.Bool.{or_left, or_right}
use Rattle.ol_law_optimality.proofs.Sites.{base, Stands, no_wire, no_root}
use Rattle.ol_law_meaning.specs.Contraction.{Tree, lam, app, Level, empty, o, star, Context, Wire, bound, under, occurs}
use Rattle.ol_law_meaning.specs.Contraction.{left, right, Place, root, wire, Spot, at, body, fun, arg, Edge, lam_root}
use Rattle.ol_law_meaning.specs.Contraction.{lam_own, lam_wire, app_root, app_arg, app_left, app_right, in_body, in_fun}
use Rattle.ol_law_meaning.specs.Contraction.{in_arg, IsRight, is_abstraction, Trail, here}
use Rattle.ol_law_meaning.specs.Steps.{SameBelow, below_o, below_star, below_wire, SameBefore, before_root, before_left}
use Rattle.ol_law_meaning.specs.Steps.{before_right}
use Rattle.ol_law_meaning.proofs.Addresses.{left_one, right_one, sides_apart}
use Rattle.ol_law_meaning.proofs.Ways.{Below, parts, sides, Before, funs, args, edges}
use Rattle.ol_law_optimality.specs.Labels.{Label, Labelled, erased}
use Rattle.ol_law_optimality.specs.Labels as labels
use Rattle.ol_law_meaning.specs.Sites.{Site, self, in_lam, in_function, in_argument, spot_in, whole, of_lam}
use Rattle.ol_law_meaning.specs.Sites.{of_function, of_argument}
use Rattle.ol_term.specs.declared.translations.Translation.{Translation}
use Rattle.ol_law_optimality.specs.Signs.{Sign, Signs, signs_of, reversed, onward, backward, begins_over, ends_over}
use Rattle.ol_law_optimality.specs.Signs.{begins_under, ends_under}
use Rattle.ol_law_optimality.specs.Readings.{label_of, reading, from_lam, from_app, from_fun, Acting, moved}
use Rattle.ol_law_meaning.proofs.Trails.{tr_trans, one, one_back, tr_body, tr_fun}
use Rattle.ol_law_optimality.proofs.Keeping.{Undone, Left, Source, Related, Follows, Leaves, placed, Goes, Comes, Keeps}
use Rattle.ol_law_optimality.proofs.Motions.{Motion, by, still, then_by, Walks, stay, along_edge, back_edge, and_on}
use Rattle.ol_law_optimality.proofs.Motions.{in_the_body, in_the_fun, moved_append, moved_back, moved_there}
use Rattle.ol_law_optimality.proofs.Motions.{reversed_append, reversed_twice}

-- out of a part's root: its label is read backwards
module _ (r : Acting) (g : Signs → Signs) (a b : Signs) (f : (y : Signs) → g (moved r a y) ≡ moved r b y) where
  out_of_label : (x : Signs) → moved r (reversed b) (g x) ≡ moved r (reversed a) x
  out_of_label x =
      ap (λ x. moved r (reversed b) (g x)) (sym (moved_there r a x)) ∙ ap (moved r (reversed b)) (f (moved r (reversed a) x)) ∙ moved_back r b (moved r (reversed a) x)

  out_through : (q : Sign) (x : Signs) → moved r (reversed (onward q ∷ b)) (g x) ≡ moved r (reversed (onward q ∷ a)) x
  out_through q x =
      moved_append r (reversed b) ((true, q) ∷ []) (g x) ∙ ap (r.undo q) (out_of_label x) ∙ sym (moved_append r (reversed a) ((true, q) ∷ []) x)

  out_across : (c : Signs) (x : Signs) → moved r (reversed b ++ c) (g x) ≡ moved r (reversed a ++ c) x
  out_across c x = moved_append r (reversed b) c (g x) ∙ ap (moved r c) (out_of_label x) ∙ sym (moved_append r (reversed a) c x)

  into_across : (c : Signs) (x : Signs) → moved r (reversed (reversed b ++ c)) x ≡ g (moved r (reversed (reversed a ++ c)) x)
  into_across c x =
      reversed_append r (reversed b) c x ∙ reversed_twice r b (moved r (reversed c) x) ∙ sym (f (moved r (reversed c) x))
      ∙ ap g (sym (reversed_append r (reversed a) c x ∙ reversed_twice r a (moved r (reversed c) x)))

-- ---- under an abstraction

module _ {τ : Translation} (M M' : Tree) (T U : Labelled) (S : Place → Level → Level → Type 0) (e0 : Label) (w0 : Label) (w : Keeps τ M M' T U S e0) where
  abbrev B : Spot → Spot → Type 0
  B = Below w.K.R S

  abbrev shift_b : (s z : Spot) → B s z → Motion
  shift_b s z (parts {s = s1} {z = z1} r) = w.K.shift s1 z1 r
  shift_b s z (sides e) = still

  abbrev KB : Related
  KB = record { R = B; shift = shift_b }

  abbrev FB : (s s' z : Spot) → B s z → Signs → Type 0
  FB s s' z k a = Follows τ (lam M') (labels.lam U w0) KB s s' z k a

  b_go : {s s' z : Spot} {n : ℕ} → Edge τ (lam M) s s' n → (k : B s z) → FB s s' z k (reading (labels.lam T w0) s s')
  b_go (lam_root {v = v} {c = c}) (sides (below_o {v' = v'} r)) = record {
    spot = body (at root v' c);
    rel = parts (w.start root v v' c r);
    motion = by (from_lam U (at root v' c));
    walks = along_edge lam_root;
    alike = λ t x. sym (w.starts root v v' c r t (t.act ends_over x));
  }
  b_go (lam_own {a = a} {c = c} m) (sides (below_star {a' = a'} r)) = record {
    spot = body (at (wire (bound 0)) a' c);
    rel = parts (w.start (wire (bound 0)) a a' c r);
    motion = by (backward begins_under ∷ []);
    walks = along_edge (lam_own (w.new (bound 0) a a' r));
    alike = λ t x. sym (w.starts (wire (bound 0)) a a' c r t (t.undo begins_under x));
  }
  b_go (lam_wire {y = y} {z = u} {a = a} {c = c} e m) (sides {v' = l} (below_wire r)) =
      let k : S (wire u) a l = subst (λ u. S (wire u) a l) (sym e) r in
      record {
        spot = body (at (wire u) l c);
        rel = parts (w.start (wire u) a l c k);
        motion = still;
        walks = along_edge (lam_wire e (w.new u a l k));
        alike = λ t x. sym (w.starts (wire u) a l c k t x);
      }
  b_go (in_body {s = s} {s' = s'} {w = n} e) (parts {z = z} r) =
      let k = w.go s s' z n e r in
      record { spot = body k.spot; rel = parts k.rel; motion = k.motion; walks = in_the_body w0 k.walks; alike = k.alike }

  b_come : {s s' z : Spot} {n : ℕ} → Edge τ (lam M) s' s n → (k : B s z) → FB s s' z k (reversed (reading (labels.lam T w0) s' s))
  b_come (lam_root {v = v} {c = c}) (parts {z = z} r) =
      let k = w.out root v c z r tt in
      record {
        spot = at root (o k.level) c;
        rel = sides (below_o k.same);
        motion = then_by k.motion (by (reversed (from_lam U (at root k.level c))));
        walks = and_on (in_the_body w0 k.walks) (back_edge lam_root);
        alike = λ t x. out_through t (λ x. k.motion t (w.K.shift (at root v c) z r t x)) (signs_of (label_of T)) (signs_of (label_of U)) (k.alike t) ends_over x;
      }
  b_come (lam_own {a = a} {c = c} m) (parts {z = z} r) =
      let k = w.out (wire (bound 0)) a c z r m in
      record {
        spot = at root (star k.level) c;
        rel = sides (below_star k.same);
        motion = then_by k.motion (by (onward begins_under ∷ []));
        walks = and_on (in_the_body w0 k.walks) (back_edge (lam_own (w.new (bound 0) a k.level k.same)));
        alike = λ t x. ap (t.act begins_under) (k.alike t x);
      }
  b_come (lam_wire {y = y} {z = u} {a = a} {c = c} e m) (parts {z = z} r) =
      let k = w.out (wire u) a c z r m in
      record {
        spot = at (wire y) k.level c;
        rel = sides (below_wire (subst (λ u. S (wire u) a k.level) e k.same));
        motion = then_by k.motion still;
        walks = and_on (in_the_body w0 k.walks) (back_edge (lam_wire e (w.new u a k.level k.same)));
        alike = λ t x. k.alike t x;
      }
  b_come (in_body {s = s'} {s' = s} {w = n} e) (parts {z = z} r) =
      let k = w.come s s' z n e r in
      record { spot = body k.spot; rel = parts k.rel; motion = k.motion; walks = in_the_body w0 k.walks; alike = k.alike }

  b_starts : (p : Place) (v v' : Level) (c : Context) (e : SameBelow S p v v') (r : Acting) (x : Signs) → moved r (placed (labels.lam T w0) p) x ≡ moved r (placed (labels.lam U w0) p) x
  b_starts root v v' c e r x = refl
  b_starts (wire y) v v' c e r x = refl

  b_out : {p : Place} {v : Level} {c : Context} {z : Spot} (k : B (at p v c) z) → Leaves τ (lam M') (labels.lam U w0) KB (SameBelow S) p v c z k (placed (labels.lam T w0) p) (placed (labels.lam U w0) p)
  b_out {p} {v} {c} (sides {v' = v'} r) = record { level = v'; same = r; motion = still; walks = stay; alike = λ t x. b_starts p v v' c r t x }

  b_old : {y : Wire} {a a' : Level} → SameBelow S (wire y) a a' → occurs y (lam M) ≡ true
  b_old {y} {a} {a'} (below_wire r) = w.old (under y) a a' r

  b_new : {y : Wire} {a a' : Level} → SameBelow S (wire y) a a' → occurs y (lam M') ≡ true
  b_new {y} {a} {a'} (below_wire r) = w.new (under y) a a' r

  abbrev Gone : Site → Level → Context → Spot → Type 0
  Gone p v c z = (p ≡ in_lam w.redex) ⊎ ((g : Goes (lam M') (labels.lam T w0) (labels.lam U w0) KB p) × (z ≡ spot_in g.site (base true v c)))

  b_goes : (p : Site) (v : Level) (c : Context) (z : Spot) → Stands true (lam M) p → B (spot_in p (base true v c)) z → Gone p v c z
  b_goes self v c z (u, whole, h) r = absurd h
  b_goes (in_lam p) v c z (u, of_lam m, h) (parts {z = y} r) = of (w.goes p v c y (u, m, h) r)
    where
      of : (p ≡ w.redex) ⊎ ((g : Goes M' T U w.K p) × (y ≡ spot_in g.site (base true v c))) → Gone (in_lam p) v c (body y)
      of (inl e) = inl (ap in_lam e)
      of (inr g) = inr (
        record {
          site = in_lam g.0.site;
          there = (g.0.there.0, of_lam g.0.there.1, g.0.there.2);
          all = λ a d. parts (g.0.all a d);
          alike = g.0.alike;
        },
        ap body g.1,
      )
  b_goes (in_function _) v c z _ r = elim r [ ]
  b_goes (in_argument _ _) v c z _ r = elim r [ ]

  b_comes : (p : Site) (c : Context) (z : Spot) → Stands false (lam M) p → (k : B (spot_in p (base false empty c)) z) → Comes (lam M') KB p c z k
  b_comes self c z h (sides r) = elim r [ ]
  b_comes (in_lam p) c z (u, of_lam m, h) (parts {z = y} r) =
      let g = w.comes p c y (u, m, h) r in
      record { site = in_lam g.site; is = ap body g.is; there = (g.there.0, of_lam g.there.1, g.there.2); alike = g.alike }
  b_comes (in_function _) c z h r = elim r [ ]
  b_comes (in_argument _ _) c z h r = elim r [ ]

  dead_go : (c : Context) {s z : Spot} {n : ℕ} → Edge τ (lam M) s z n → s ≡ body (spot_in w.redex (base true empty c)) → ⊥
  dead_go c lam_root f = absurd (cc)
  dead_go c (lam_own m) f = absurd (cc)
  dead_go c (lam_wire e m) f = absurd (cc)
  dead_go c (in_body {s = s} {s' = s'} {w = n} e) f =
      (w.dead c s' n).0 (subst (λ s. Edge τ M s s' n) (let j : s ≡ spot_in w.redex (base true empty c) = cc in j) e)

  dead_come : (c : Context) {s z : Spot} {n : ℕ} → Edge τ (lam M) s z n → z ≡ body (spot_in w.redex (base true empty c)) → ⊥
  dead_come c (lam_root {v = v} {c = d}) f = no_root w.redex empty v c d root (let j : at root v d ≡ spot_in w.redex (base true empty c) = cc in j)
  dead_come c (lam_own {a = a} {c = d} m) f = no_wire true w.redex empty a c d (bound 0) (let j : at (wire (bound 0)) a d ≡ spot_in w.redex (base true empty c) = cc in j)
  dead_come c (lam_wire {z = u} {a = a} {c = d} e m) f = no_wire true w.redex empty a c d u (let j : at (wire u) a d ≡ spot_in w.redex (base true empty c) = cc in j)
  dead_come c (in_body {s = s} {s' = s'} {w = n} e) f =
      (w.dead c s n).1 (subst (λ z. Edge τ M s z n) (let j : s' ≡ spot_in w.redex (base true empty c) = cc in j) e)

  -- ---- and back

  b_ungo : {z z' s : Spot} {n : ℕ} → Edge τ (lam M') z z' n → B s z → Undone τ (lam M) B s z'
  b_ungo (lam_root {v = v'} {c = c}) (sides (below_o {v = v} r)) = record { spot = body (at root v c); rel = parts (w.start root v v' c r); weight = 0; trail = one lam_root }
  b_ungo (lam_own {a = a'} {c = c} m) (sides (below_star {a = a} r)) = record { spot = body (at (wire (bound 0)) a c); rel = parts (w.start (wire (bound 0)) a a' c r); weight = 0; trail = one (lam_own (w.old (bound 0) a a' r)) }
  b_ungo (lam_wire {y = y} {z = u} {a = a'} {c = c} e m) (sides {v = l} (below_wire r)) =
      let k : S (wire u) l a' = subst (λ u. S (wire u) l a') (sym e) r in
      record { spot = body (at (wire u) l c); rel = parts (w.start (wire u) l a' c k); weight = 0; trail = one (lam_wire e (w.old u l a' k)) }
  b_ungo (in_body {s = z} {s' = z'} {w = n} e) (parts {s = s} r) =
      let k = w.backs.ungo z z' s n e r in record { spot = body k.spot; rel = parts k.rel; weight = k.weight; trail = tr_body k.trail }

  b_uncome : {z z' s : Spot} {n : ℕ} → Edge τ (lam M') z' z n → B s z → Undone τ (lam M) B s z'
  b_uncome (lam_root {v = v'} {c = c}) (parts {s = s} r) =
      let k = w.backs.unout root v' c s r tt in
      record { spot = at root (o k.level) c; rel = sides (below_o k.same); weight = k.weight + 0; trail = tr_trans (tr_body k.trail) (one_back lam_root) refl }
  b_uncome (lam_own {a = a'} {c = c} m) (parts {s = s} r) =
      let k = w.backs.unout (wire (bound 0)) a' c s r m in
      record { spot = at root (star k.level) c; rel = sides (below_star k.same); weight = k.weight + 0; trail = tr_trans (tr_body k.trail) (one_back (lam_own (w.old (bound 0) k.level a' k.same))) refl }
  b_uncome (lam_wire {y = y} {z = u} {a = a'} {c = c} e m) (parts {s = s} r) =
      let k = w.backs.unout (wire u) a' c s r m in
      record {
        spot = at (wire y) k.level c;
        rel = sides (below_wire (subst (λ u. S (wire u) k.level a') e k.same));
        weight = k.weight + 0;
        trail = tr_trans (tr_body k.trail) (one_back (lam_wire e (w.old u k.level a' k.same))) refl;
      }
  b_uncome (in_body {s = z'} {s' = z} {w = n} e) (parts {s = s} r) =
      let k = w.backs.uncome z z' s n e r in record { spot = body k.spot; rel = parts k.rel; weight = k.weight; trail = tr_body k.trail }

  b_unout : {p : Place} {v : Level} {c : Context} {s : Spot} → B s (at p v c) → Left τ (lam M) (SameBelow S) p v c s
  b_unout (sides {v = v} r) = record { level = v; same = r; weight = 0; trail = here }

  b_source : (b : Bool) (q : Site) (v : Level) (d : Context) (s : Spot) → (b ≡ false → v ≡ empty) → Stands b (lam M') q → B s (spot_in q (base b v d)) → Source τ (lam M) B b q v d s
  b_source true self v d s ok (u, whole, h) r = absurd h
  b_source false self v d s ok h r = absurd (by (subst (λ v. B s (at root v d)) (ok refl) r))
    where
      by : {s : Spot} → B s (at root empty d) → ⊥
      by (sides k) = elim k [ ]
  b_source b (in_lam q) v d s ok (u, of_lam m, h) (parts {s = y} r) =
      let k = w.backs.source b q v d y ok (u, m, h) r in
      record { site = in_lam k.site; there = (k.there.0, of_lam k.there.1, k.there.2); all = λ a e g. parts (k.all a e g); weight = k.weight; trail = tr_body k.trail }
  b_source b (in_function q) v d s ok (u, m, h) r = elim m [ ]
  b_source b (in_argument a q) v d s ok (u, m, h) r = elim m [ ]

  b_gone : (c : Context) (z : Spot) → B (body (spot_in w.redex (base true empty c))) z → ⊥
  b_gone c z (parts {z = z1} r) = w.gone c z1 r

  pub lam_keeps : Keeps τ (lam M) (lam M') (labels.lam T w0) (labels.lam U w0) (SameBelow S) e0
  lam_keeps = record {
    K = KB;
    start = λ p v v' c r. sides r;
    starts = b_starts;
    go = λ s s' z n e k. b_go e k;
    come = λ s s' z n e k. b_come e k;
    out = λ p v c z k h. b_out k;
    old = λ y a a' r. b_old r;
    new = λ y a a' r. b_new r;
    backs = record { ungo = λ z z' s n e r. b_ungo e r; uncome = λ z z' s n e r. b_uncome e r; unout = λ p v c s r m. b_unout r; source = b_source };
    redex = in_lam w.redex;
    gone = b_gone;
    degree = w.degree;
    dead = λ c s n. (λ e. dead_go c e refl, λ e. dead_come c e refl);
    goes = b_goes;
    comes = b_comes;
    top = λ v c z e k. absurd (cc);
  }

-- ---- before an argument

module _ {τ : Translation} (R R' : Tree) (T U P : Labelled) (S : Place → Level → Level → Type 0) (e0 : Label) (w0 : Label) (w : Keeps τ R R' T U S e0) (flat : is_abstraction R ≡ false)
    (is : (v v' : Level) → S root v v' → v ≡ v') (keeps : (v : Level) → S root v v) where
  abbrev P' : Tree
  P' = erased P

  abbrev Same : Place → Level → Level → Type 0
  Same = SameBefore τ R R' P' S

  abbrev Q : Spot → Spot → Type 0
  Q = Before w.K.R Same

  abbrev shift_q : (s z : Spot) → Q s z → Motion
  shift_q s z (funs {s = s1} {z = z1} r) = w.K.shift s1 z1 r
  shift_q s z args = still
  shift_q s z (edges e) = still

  abbrev KQ : Related
  KQ = record { R = Q; shift = shift_q }

  abbrev Tq : Labelled
  Tq = labels.app T P w0

  abbrev Uq : Labelled
  Uq = labels.app U P w0

  abbrev FQ : (s s' z : Spot) → Q s z → Signs → Type 0
  FQ s s' z k a = Follows τ (app R' P') Uq KQ s s' z k a

  abbrev lT : Signs
  lT = signs_of (label_of T)

  abbrev lU : Signs
  lU = signs_of (label_of U)

  abbrev to_arg : Signs
  to_arg = onward ends_under ∷ signs_of (label_of P)

  q_go : {s s' z : Spot} {n : ℕ} → Edge τ (app R P') s s' n → (k : Q s z) → FQ s s' z k (reading Tq s s')
  q_go (app_root {v = v} {c = c}) (edges before_root) = record {
    spot = fun (at root (o v) c);
    rel = funs (w.start root (o v) (o v) c (keeps (o v)));
    motion = by (from_app U);
    walks = along_edge app_root;
    alike = λ t x. sym (w.starts root (o v) (o v) c (keeps (o v)) t (t.act begins_over x));
  }
  q_go (app_arg {v = v} {u = u} {c = c} {d = d} e) (funs {z = z} r) =
      let k = w.out root (star v) c z r tt in
      let q : star v ≡ k.level = is (star v) k.level k.same in
      record {
        spot = arg v (at root u d);
        rel = args;
        motion = then_by k.motion (by (from_fun U P (at root (star v) c)));
        walks = and_on (subst (λ l. Walks τ (app R' P') Uq (fun z) (fun (at root l c)) k.motion) (sym q) (in_the_fun w0 k.walks)) (along_edge (app_arg e));
        alike = λ t x. out_across t (λ x. k.motion t (w.K.shift (at root (star v) c) z r t x)) lT lU (k.alike t) to_arg x;
      }
  q_go (app_left {y = y} {a = a} {c = c} m e) (edges (before_left {a = a1} {a' = a'} e1 e2 r)) =
      let q : a1 ≡ a = left_one P' y a1 a (sym e1 ∙ e) in
      let r' = subst (λ a. S (wire y) a a') q r in
      record {
        spot = fun (at (wire y) a' c);
        rel = funs (w.start (wire y) a a' c r');
        motion = still;
        walks = along_edge (app_left (w.new y a a' r') e2);
        alike = λ t x. sym (w.starts (wire y) a a' c r' t x);
      }
  q_go (app_left {y = y} {a = a} m e) (edges (before_right b1 v1 k e1 e2)) = absurd (sides_apart R P' y a b1 v1 m k e e1)
  q_go (app_right {y = y} {b = b1} {v = v} m e) (edges (before_left {a = a} {a' = a'} e1 e2 r)) = absurd (sides_apart R P' y a b1 v (w.old y a a' r) m e1 e)
  q_go (app_right {y = y} {b = b1} {v = v} {c = c} m e) (edges {v' = l} (before_right b2 v2 k e1 e2)) =
      let q = right_one e1 e refl in
      let e3 : IsRight τ R' P' y b1 v l = subst (λ v. IsRight τ R' P' y b1 v l) q.1 (subst (λ b. IsRight τ R' P' y b v2 l) q.0 e2) in
      record { spot = arg v (at (wire y) b1 c); rel = args; motion = still; walks = along_edge (app_right m e3); alike = λ t x. refl }
  q_go (in_fun {s = s} {s' = s'} {w = n} e) (funs {z = z} r) =
      let k = w.go s s' z n e r in record { spot = fun k.spot; rel = funs k.rel; motion = k.motion; walks = in_the_fun w0 k.walks; alike = k.alike }
  q_go (in_arg {v = v} {s = s} {s' = s'} {w = n} e) args = record { spot = arg v s'; rel = args; motion = by (reading P s s'); walks = along_edge (in_arg e); alike = λ t x. refl }

  q_come : {s s' z : Spot} {n : ℕ} → Edge τ (app R P') s' s n → (k : Q s z) → FQ s s' z k (reversed (reading Tq s' s))
  q_come (app_root {v = v} {c = c}) (funs {z = z} r) =
      let k = w.out root (o v) c z r tt in
      let q : o v ≡ k.level = is (o v) k.level k.same in
      record {
        spot = at root v c;
        rel = edges before_root;
        motion = then_by k.motion (by (reversed (from_app U)));
        walks = and_on (subst (λ l. Walks τ (app R' P') Uq (fun z) (fun (at root l c)) k.motion) (sym q) (in_the_fun w0 k.walks)) (back_edge app_root);
        alike = λ t x. out_through t (λ x. k.motion t (w.K.shift (at root (o v) c) z r t x)) lT lU (k.alike t) begins_over x;
      }
  q_come (app_arg {v = v} {u = u} {c = c} {d = d} e) args = record {
    spot = fun (at root (star v) c);
    rel = funs (w.start root (star v) (star v) c (keeps (star v)));
    motion = by (reversed (from_fun U P (at root (star v) c)));
    walks = back_edge (app_arg e);
    alike = λ t x. into_across t (λ x. w.K.shift (at root (star v) c) (at root (star v) c) (w.start root (star v) (star v) c (keeps (star v))) t x) lT lU
        (w.starts root (star v) (star v) c (keeps (star v)) t) to_arg x;
  }
  q_come (app_left {y = y} {a = a} {c = c} m e) (funs {z = z} r) =
      let k = w.out (wire y) a c z r m in
      record {
        spot = at (wire y) (left P' y k.level) c;
        rel = edges (before_left e refl k.same);
        motion = then_by k.motion still;
        walks = and_on (in_the_fun w0 k.walks) (back_edge (app_left (w.new y a k.level k.same) refl));
        alike = λ t x. k.alike t x;
      }
  q_come (app_right {y = y} {b = b1} {v = v} {c = c} m e) args =
      let f : IsRight τ R' P' y b1 v (right τ R' P' y b1 v) = record { level = e.level; is = refl } in
      record { spot = at (wire y) (right τ R' P' y b1 v) c; rel = edges (before_right b1 v m e f); motion = still; walks = back_edge (app_right m f); alike = λ t x. refl }
  q_come (in_fun {s = s'} {s' = s} {w = n} e) (funs {z = z} r) =
      let k = w.come s s' z n e r in record { spot = fun k.spot; rel = funs k.rel; motion = k.motion; walks = in_the_fun w0 k.walks; alike = k.alike }
  q_come (in_arg {v = v} {s = s'} {s' = s} {w = n} e) args = record { spot = arg v s'; rel = args; motion = by (reversed (reading P s' s)); walks = back_edge (in_arg e); alike = λ t x. refl }

  q_starts : (p : Place) (v v' : Level) (c : Context) (e : Same p v v') (r : Acting) (x : Signs) → moved r (placed Tq p) x ≡ moved r (placed Uq p) x
  q_starts root v v' c e r x = refl
  q_starts (wire y) v v' c e r x = refl

  q_out : {p : Place} {v : Level} {c : Context} {z : Spot} (k : Q (at p v c) z) → Leaves τ (app R' P') Uq KQ Same p v c z k (placed Tq p) (placed Uq p)
  q_out {p} {v} {c} (edges {v' = v'} r) = record { level = v'; same = r; motion = still; walks = stay; alike = λ t x. q_starts p v v' c r t x }

  q_old : {y : Wire} {a a' : Level} → Same (wire y) a a' → occurs y (app R P') ≡ true
  q_old {y} (before_left {a = a} {a' = a'} e1 e2 r) = or_left (occurs y R) (occurs y P') (w.old y a a' r)
  q_old {y} (before_right b1 v k e1 e2) = or_right (occurs y R) (occurs y P') k

  q_new : {y : Wire} {a a' : Level} → Same (wire y) a a' → occurs y (app R' P') ≡ true
  q_new {y} (before_left {a = a} {a' = a'} e1 e2 r) = or_left (occurs y R') (occurs y P') (w.new y a a' r)
  q_new {y} (before_right b1 v k e1 e2) = or_right (occurs y R') (occurs y P') k

  abbrev Went : Site → Level → Context → Spot → Type 0
  Went p v c z = (p ≡ in_function w.redex) ⊎ ((g : Goes (app R' P') Tq Uq KQ p) × (z ≡ spot_in g.site (base true v c)))

  q_goes : (p : Site) (v : Level) (c : Context) (z : Spot) → Stands true (app R P') p → Q (spot_in p (base true v c)) z → Went p v c z
  q_goes self v c z h (funs {z = y} r) = inr (
    record {
      site = self;
      there = (app R' P', whole, tt);
      all = λ a d. funs (w.start root a a d (keeps a));
      alike = λ a d t x. w.starts root a a d (keeps a) t x;
    },
    ap fun (w.top v c y flat r),
  )
  q_goes (in_function p) v c z (u, of_function m, h) (funs {z = y} r) = of (w.goes p v c y (u, m, h) r)
    where
      of : (p ≡ w.redex) ⊎ ((g : Goes R' T U w.K p) × (y ≡ spot_in g.site (base true v c))) → Went (in_function p) v c (fun y)
      of (inl e) = inl (ap in_function e)
      of (inr g) = inr (
        record {
          site = in_function g.0.site;
          there = (g.0.there.0, of_function g.0.there.1, g.0.there.2);
          all = λ a d. funs (g.0.all a d);
          alike = g.0.alike;
        },
        ap fun g.1,
      )
  q_goes (in_argument a p) v c z (u, of_argument m, h) args =
      inr (record { site = in_argument a p; there = (u, of_argument m, h); all = λ b d. args; alike = λ b d t x. refl }, refl)
  q_goes (in_lam _) v c z h r = elim r [ ]

  q_comes : (p : Site) (c : Context) (z : Spot) → Stands false (app R P') p → (k : Q (spot_in p (base false empty c)) z) → Comes (app R' P') KQ p c z k
  q_comes self c z (u, whole, h) r = absurd h
  q_comes (in_function p) c z (u, of_function m, h) (funs {z = y} r) =
      let g = w.comes p c y (u, m, h) r in
      record { site = in_function g.site; is = ap fun g.is; there = (g.there.0, of_function g.there.1, g.there.2); alike = g.alike }
  q_comes (in_argument a p) c z (u, of_argument m, h) args =
      record { site = in_argument a p; is = refl; there = (u, of_argument m, h); alike = λ t x. refl }
  q_comes (in_lam _) c z h r = elim r [ ]

  died_go : (c : Context) {s z : Spot} {n : ℕ} → Edge τ (app R P') s z n → s ≡ fun (spot_in w.redex (base true empty c)) → ⊥
  died_go c app_root f = absurd (cc)
  died_go c (app_arg {v = v} {c = d} e) f = no_root w.redex empty (star v) c d root (let j : at root (star v) d ≡ spot_in w.redex (base true empty c) = cc in j)
  died_go c (app_left m e) f = absurd (cc)
  died_go c (app_right m e) f = absurd (cc)
  died_go c (in_fun {s = s} {s' = s'} {w = n} e) f =
      (w.dead c s' n).0 (subst (λ s. Edge τ R s s' n) (let j : s ≡ spot_in w.redex (base true empty c) = cc in j) e)
  died_go c (in_arg e) f = absurd (cc)

  died_come : (c : Context) {s z : Spot} {n : ℕ} → Edge τ (app R P') s z n → z ≡ fun (spot_in w.redex (base true empty c)) → ⊥
  died_come c (app_root {v = v} {c = d}) f = no_root w.redex empty (o v) c d root (let j : at root (o v) d ≡ spot_in w.redex (base true empty c) = cc in j)
  died_come c (app_arg e) f = absurd (cc)
  died_come c (app_left {y = y} {a = a} {c = d} m e) f = no_wire true w.redex empty a c d y (let j : at (wire y) a d ≡ spot_in w.redex (base true empty c) = cc in j)
  died_come c (app_right m e) f = absurd (cc)
  died_come c (in_fun {s = s} {s' = s'} {w = n} e) f =
      (w.dead c s n).1 (subst (λ z. Edge τ R s z n) (let j : s' ≡ spot_in w.redex (base true empty c) = cc in j) e)
  died_come c (in_arg e) f = absurd (cc)

  -- ---- and back

  q_ungo : {z z' s : Spot} {n : ℕ} → Edge τ (app R' P') z z' n → Q s z → Undone τ (app R P') Q s z'
  q_ungo (app_root {v = v} {c = c}) (edges before_root) = record { spot = fun (at root (o v) c); rel = funs (w.start root (o v) (o v) c (keeps (o v))); weight = 1; trail = one app_root }
  q_ungo (app_arg {v = v} {u = u} {c = c} {d = d} e) (funs {s = s} r) =
      let k = w.backs.unout root (star v) c s r tt in
      let q : k.level ≡ star v = is k.level (star v) k.same in
      record { spot = arg v (at root u d); rel = args; weight = k.weight + 1; trail = tr_trans (subst (λ l. Trail (Edge τ (app R P')) (fun s) (fun (at root l c)) k.weight) q (tr_fun k.trail)) (one (app_arg e)) refl }
  q_ungo (app_left {y = y} {a = a'} {c = c} m e) (edges (before_left {a = a} {a' = b'} e1 e2 r)) =
      let q : b' ≡ a' = left_one P' y b' a' (sym e2 ∙ e) in
      let r' = subst (λ b. S (wire y) a b) q r in
      record { spot = fun (at (wire y) a c); rel = funs (w.start (wire y) a a' c r'); weight = 0; trail = one (app_left (w.old y a a' r') e1) }
  q_ungo (app_left {y = y} {a = a} m e) (edges (before_right b1 v1 k e1 e2)) = absurd (sides_apart R' P' y a b1 v1 m k e e2)
  q_ungo (app_right {y = y} {b = b1} {v = v} m e) (edges (before_left {a = a} {a' = a'} e1 e2 r)) = absurd (sides_apart R' P' y a' b1 v (w.new y a a' r) m e2 e)
  q_ungo (app_right {y = y} {b = b1} {v = v} {c = c} m e) (edges {v = l} (before_right b2 v2 k e1 e2)) =
      let q = right_one e2 e refl in
      let e3 : IsRight τ R P' y b1 v l = subst (λ v. IsRight τ R P' y b1 v l) q.1 (subst (λ b. IsRight τ R P' y b v2 l) q.0 e1) in
      record { spot = arg v (at (wire y) b1 c); rel = args; weight = 0; trail = one (app_right m e3) }
  q_ungo (in_fun {s = z} {s' = z'} {w = n} e) (funs {s = s} r) =
      let k = w.backs.ungo z z' s n e r in record { spot = fun k.spot; rel = funs k.rel; weight = k.weight; trail = tr_fun k.trail }
  q_ungo (in_arg {v = v} {s' = z'} {w = n} e) args = record { spot = arg v z'; rel = args; weight = n; trail = one (in_arg e) }

  q_uncome : {z z' s : Spot} {n : ℕ} → Edge τ (app R' P') z' z n → Q s z → Undone τ (app R P') Q s z'
  q_uncome (app_root {v = v} {c = c}) (funs {s = s} r) =
      let k = w.backs.unout root (o v) c s r tt in
      let q : k.level ≡ o v = is k.level (o v) k.same in
      record { spot = at root v c; rel = edges before_root; weight = k.weight + 1; trail = tr_trans (subst (λ l. Trail (Edge τ (app R P')) (fun s) (fun (at root l c)) k.weight) q (tr_fun k.trail)) (one_back app_root) refl }
  q_uncome (app_arg {v = v} {c = c} e) args = record { spot = fun (at root (star v) c); rel = funs (w.start root (star v) (star v) c (keeps (star v))); weight = 1; trail = one_back (app_arg e) }
  q_uncome (app_left {y = y} {a = a'} {c = c} m e) (funs {s = s} r) =
      let k = w.backs.unout (wire y) a' c s r m in
      record {
        spot = at (wire y) (left P' y k.level) c;
        rel = edges (before_left refl e k.same);
        weight = k.weight + 0;
        trail = tr_trans (tr_fun k.trail) (one_back (app_left (w.old y k.level a' k.same) refl)) refl;
      }
  q_uncome (app_right {y = y} {b = b1} {v = v} {c = c} m e) args =
      let f : IsRight τ R P' y b1 v (right τ R P' y b1 v) = record { level = e.level; is = refl } in
      record { spot = at (wire y) (right τ R P' y b1 v) c; rel = edges (before_right b1 v m f e); weight = 0; trail = one_back (app_right m f) }
  q_uncome (in_fun {s = z'} {s' = z} {w = n} e) (funs {s = s} r) =
      let k = w.backs.uncome z z' s n e r in record { spot = fun k.spot; rel = funs k.rel; weight = k.weight; trail = tr_fun k.trail }
  q_uncome (in_arg {v = v} {s = z'} {w = n} e) args = record { spot = arg v z'; rel = args; weight = n; trail = one_back (in_arg e) }

  q_unout : {p : Place} {v : Level} {c : Context} {s : Spot} → Q s (at p v c) → Left τ (app R P') Same p v c s
  q_unout (edges {v = v} r) = record { level = v; same = r; weight = 0; trail = here }

  q_source : (b : Bool) (q : Site) (v : Level) (d : Context) (s : Spot) → (b ≡ false → v ≡ empty) → Stands b (app R' P') q → Q s (spot_in q (base b v d)) → Source τ (app R P') Q b q v d s
  q_source false self v d s ok (u, whole, h) r = absurd h
  q_source true self v d s ok h (funs {s = y} r) =
      let k = w.backs.unout root v d y r tt in
      let e : k.level ≡ v = is k.level v k.same in
      record {
        site = self;
        there = (app R P', whole, tt);
        all = λ a c g. funs (w.start root a a c (keeps a));
        weight = k.weight;
        trail = subst (λ l. Trail (Edge τ (app R P')) (fun y) (fun (at root l d)) k.weight) e (tr_fun k.trail);
      }
  q_source b (in_function q) v d s ok (u, of_function m, h) (funs {s = y} r) =
      let k = w.backs.source b q v d y ok (u, m, h) r in
      record { site = in_function k.site; there = (k.there.0, of_function k.there.1, k.there.2); all = λ a e g. funs (k.all a e g); weight = k.weight; trail = tr_fun k.trail }
  q_source b (in_argument a q) v d s ok (u, of_argument m, h) args =
      record { site = in_argument a q; there = (u, of_argument m, h); all = λ c e g. args; weight = 0; trail = here }
  q_source b (in_lam q) v d s ok (u, m, h) r = elim m [ ]

  q_gone : (c : Context) (z : Spot) → Q (fun (spot_in w.redex (base true empty c))) z → ⊥
  q_gone c z (funs {z = z1} r) = w.gone c z1 r

  pub app_keeps : Keeps τ (app R P') (app R' P') Tq Uq Same e0
  app_keeps = record {
    K = KQ;
    start = λ p v v' c r. edges r;
    starts = q_starts;
    go = λ s s' z n e k. q_go e k;
    come = λ s s' z n e k. q_come e k;
    out = λ p v c z k h. q_out k;
    old = λ y a a' r. q_old r;
    new = λ y a a' r. q_new r;
    backs = record { ungo = λ z z' s n e r. q_ungo e r; uncome = λ z z' s n e r. q_uncome e r; unout = λ p v c s r m. q_unout r; source = q_source };
    redex = in_function w.redex;
    gone = q_gone;
    degree = w.degree;
    dead = λ c s n. (λ e. died_go c e refl, λ e. died_come c e refl);
    goes = q_goes;
    comes = q_comes;
    top = λ v c z e k. tops k;
  }
    where
      tops : {v : Level} {c : Context} {z : Spot} → Q (at root v c) z → z ≡ at root v c
      tops (edges before_root) = refl
