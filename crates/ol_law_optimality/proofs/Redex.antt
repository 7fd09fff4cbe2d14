-- What is read at a redex, and in the labelled term after its contraction.
use Rattle.std.proofs.Common.{◌≡◌, ℕ, suc, ◌+◌, Bool, true, false, [], ◌∷◌, ◌++◌, ◌⊎◌, inl, inr, refl, sym, ap, ◌∙◌}
use Rattle.std.proofs.Common.{subst}
use Rattle.std.proofs.lemmas.Bool.{or_left, or_right}
use Rattle.ol_law_optimality.proofs.Cuts.{m_moves, n_moves}
use Rattle.ol_law_optimality.proofs.Heads.{spot_fits}
use Rattle.ol_law_optimality.proofs.Sites.{base, Is, Stands, no_wire, no_root, one_site, lifted_spot}
use Rattle.ol_law_meaning.specs.Contraction.{Tree, lam, app, Level, empty, o, star, pair, Context, Wire, bound, under}
use Rattle.ol_law_meaning.specs.Contraction.{occurs, wire_without, subst_for, Place, root, wire, Spot, at, body, fun}
use Rattle.ol_law_meaning.specs.Contraction.{arg, Edge, lam_root, lam_own, lam_wire, app_root, app_arg, app_left}
use Rattle.ol_law_meaning.specs.Contraction.{app_right, in_body, in_fun, in_arg, Cut, inM, inN, ofM, ofN, WireOf, Held}
use Rattle.ol_law_meaning.specs.Contraction.{at_root, wire_m, wire_n, x_spot, n_body, n_fun, n_arg, lifted, var, free}
use Rattle.ol_law_meaning.specs.Contraction.{Opens, in_m, in_n, lam_top, lam_var, lam_side, top, side_m, side_n, left}
use Rattle.ol_law_meaning.specs.Contraction.{right, IsRight, CutEdge, Trail}
use Rattle.ol_law_meaning.specs.Steps.{SameRedex, redex_root, redex_m, redex_n}
use Rattle.ol_law_meaning.proofs.Addresses.{left_one, right_one, sides_apart, spot_from, spot_to, occurs_new}
use Rattle.ol_law_meaning.proofs.Addresses.{occurs_old, own_occurs, gone}
use Rattle.ol_law_meaning.proofs.Betas.{Through, copy_address, lifted_zero, zero_gone, zero_from, closes_trail}
use Rattle.ol_law_meaning.proofs.Ones.{n_there}
use Rattle.ol_law_meaning.proofs.There.{joint_held, by_wire, root_is}
use Rattle.ol_law_optimality.specs.Labels.{Label, Labelled, none, erased, before, joined, substituted}
use Rattle.ol_law_optimality.specs.Labels as labels
use Rattle.ol_law_meaning.specs.Sites.{Site, self, in_lam, in_function, in_argument, spot_in, PartAt, whole, of_lam}
use Rattle.ol_law_meaning.specs.Sites.{of_function, of_argument}
use Rattle.ol_term.specs.declared.translations.Translation.{Translation}
use Rattle.ol_law_optimality.specs.Signs.{Signs, signs_of, reversed, onward, backward, begins_over, ends_over}
use Rattle.ol_law_optimality.specs.Signs.{begins_under, ends_under}
use Rattle.ol_law_optimality.specs.Readings.{label_of, reading, function_label, Acting, moved}
use Rattle.ol_law_optimality.proofs.Motions.{Motion, still, then_by, Walks, stay, and_on, turned_still, moved_append}
use Rattle.ol_law_optimality.proofs.Motions.{moved_there, signs_joined}
use Rattle.ol_law_optimality.proofs.Gaps.{hole, at_top, gap, cut_gap, put_label, sub, top_is, label_before}
use Rattle.ol_law_optimality.proofs.Gaps.{reading_before}
use Rattle.ol_law_optimality.proofs.Reading.{own_hole, m_there, m_back, copy_there, copy_back, joint_there, held_copy}
use Rattle.ol_law_optimality.proofs.Reading.{copy_out}
use Rattle.ol_law_optimality.proofs.Whence.{Whence, whence}
use Rattle.ol_law_meaning.proofs.Back.{back_on, back_off, held_root, held_wire, Tagged, tag_m, tag_n}
use Rattle.ol_law_meaning.proofs.Redexes.{deep_m, deep_n}
use Rattle.ol_law_meaning.proofs.Ways.{Has}
use Rattle.ol_law_meaning.proofs.Trails.{tr_trans, one_back}
use Rattle.ol_law_optimality.proofs.Keeping.{Undone, Left, Source, Related, Follows, Leaves, placed, Goes, Comes, Keeps}
use Rattle.ol_law_optimality.proofs.Likes.{like_substituted, function_before, walks_like}

module _ (τ : Translation) (M N : Labelled) (v w : Label) where
  abbrev pub l : Label
  l = labels.under v none

  abbrev pub D : Labelled
  D = before (labels.under v none) N

  abbrev pub T : Labelled
  T = labels.app (labels.lam M v) N w

  abbrev pub lM : Signs
  lM = signs_of (label_of M)

  abbrev pub F : Signs
  F = reversed (signs_of v) ++ onward ends_under ∷ signs_of (label_of N)

  -- what is read at the cut beyond what is read at the redex
  abbrev pub opened : Spot → Signs
  opened (at root a c) = onward begins_over ∷ (signs_of v ++ onward ends_over ∷ lM)
  opened (at (wire y) a c) = []
  opened (body s) = []
  opened (arg a s) = []
  opened (fun (at root (o a) c)) = onward ends_over ∷ lM
  opened (fun (at root (star a) c)) = backward begins_under ∷ []
  opened (fun (at root empty c)) = []
  opened (fun (at root (pair a b) c)) = []
  opened (fun (at (wire y) a c)) = []
  opened (fun (body s)) = []
  opened (fun (fun s)) = []
  opened (fun (arg a s)) = []

  abbrev pub G : Cut → Signs
  G k = cut_gap D 0 (erased M) k

  abbrev pub Thr : Spot → Spot → Type 0
  Thr = Through τ (erased M) (erased N)

  abbrev pub moves : (s z : Spot) → Thr s z → Motion
  moves s z k = λ r x. moved r (G k.cut) (moved r (opened s) x)

  -- what follows an edge
  pub record Next (s s' : Spot) (k : Cut) (z : Spot) (a : Signs) : Type 0 where
    pub spot : Spot
    pub rel : Thr s' spot
    pub motion : Motion
    pub walks : Walks τ (subst_for 0 (erased N) (erased M)) (sub D 0 M) z spot motion
    pub alike : (r : Acting) (x : Signs) → motion r (moved r (G k) (moved r (opened s) x)) ≡ moved r (G rel.cut) (moved r (opened s') (moved r a x))

  -- the cut stays
  stays : {s s' : Spot} {k : Cut} {z : Spot} {a : Signs} → Opens τ (erased N) (erased M) s' k → Held τ (erased N) (erased M) 0 k z →
      ((r : Acting) (x : Signs) → moved r (opened s) x ≡ moved r (opened s') (moved r a x)) → Next s s' k z a
  stays {k = k} {z = z} q h e = record { spot = z; rel = record { cut = k; opens = q; held = h }; motion = still; walks = stay; alike = λ r x. ap (moved r (G k)) (e r x) }

  -- a wire of M under another name
  renamed : {s s' : Spot} {x y : Wire} {a b : Level} {c : Context} {z : Spot} {d : Signs} → x ≡ y → a ≡ b → Opens τ (erased N) (erased M) s' (inM (at (wire y) b c)) → Held τ (erased N) (erased M) 0 (inM (at (wire x) a c)) z →
      ((r : Acting) (x : Signs) → moved r (opened s) x ≡ moved r (opened s') (moved r d x)) → Next s s' (inM (at (wire x) a c)) z d
  renamed {s = s} {x = x} {y = y} {a = a} {b = b} {c = c} {z = z} e f q h g = record {
    spot = z;
    rel = record { cut = inM (at (wire y) b c); opens = q; held = subst (λ y. Held τ (erased N) (erased M) 0 (inM (at (wire y) b c)) z) e (subst (λ b. Held τ (erased N) (erased M) 0 (inM (at (wire x) b c)) z) f h) };
    motion = still;
    walks = stay;
    alike = λ r u. ap (λ y. moved r (hole D (wire_without 0 y)) (moved r (opened s) u)) e ∙ ap (moved r (hole D (wire_without 0 y))) (g r u);
  }

  -- the label before the argument
  argument_sign : (r : Acting) (x : Signs) → moved r (signs_of (label_of D)) (r.undo begins_under x) ≡ moved r F x
  argument_sign r x =
      ap (λ a. moved r a (r.undo begins_under x)) (label_before l N)
      ∙ moved_append r (signs_of l) (signs_of (label_of N)) (r.undo begins_under x)
      ∙ ap (λ y. moved r (signs_of (label_of N)) (moved r (reversed (signs_of v) ++ onward ends_under ∷ []) y)) (r.done begins_under x)
      ∙ ap (moved r (signs_of (label_of N))) (moved_append r (reversed (signs_of v)) (onward ends_under ∷ []) x)
      ∙ sym (moved_append r (reversed (signs_of v)) (onward ends_under ∷ signs_of (label_of N)) x)

  lam_go : {s s' : Spot} {k : Cut} {z : Spot} {n : ℕ} → Edge τ (lam (erased M)) s s' n → Opens τ (erased N) (erased M) (fun s) k → Held τ (erased N) (erased M) 0 k z → Next (fun s) (fun s') k z (reading (labels.lam M v) s s')
  lam_go lam_root lam_top h = stays in_m h (λ r x. refl)
  lam_go (lam_own m) (lam_var m') h = stays in_m h (λ r x. refl)
  lam_go (lam_wire e m) (lam_side q k) h = renamed (q ∙ sym e) refl in_m h (λ r x. refl)
  lam_go (in_body {s' = s'} e) in_m h =
      let a = m_there τ N l M e h in record { spot = a.spot; rel = record { cut = inM s'; opens = in_m; held = a.held }; motion = a.motion; walks = a.walks; alike = a.alike }

  lam_come : {s s' : Spot} {k : Cut} {z : Spot} {n : ℕ} → Edge τ (lam (erased M)) s' s n → Opens τ (erased N) (erased M) (fun s) k → Held τ (erased N) (erased M) 0 k z → Next (fun s) (fun s') k z (reversed (reading (labels.lam M v) s' s))
  lam_come lam_root in_m h = stays lam_top h (λ r x. sym (moved_there r (onward ends_over ∷ lM) x))
  lam_come (lam_own m) in_m h = stays (lam_var m) h (λ r x. sym (r.undone begins_under x))
  lam_come (lam_wire e m) in_m h = stays (lam_side e m) h (λ r x. refl)
  lam_come (in_body {s = s'} e) in_m h =
      let a = m_back τ N l M e h in record { spot = a.spot; rel = record { cut = inM s'; opens = in_m; held = a.held }; motion = a.motion; walks = a.walks; alike = a.alike }

  pub redex_go : {s s' : Spot} {k : Cut} {z : Spot} {n : ℕ} → Edge τ (app (lam (erased M)) (erased N)) s s' n → Opens τ (erased N) (erased M) s k → Held τ (erased N) (erased M) 0 k z → Next s s' k z (reading T s s')
  redex_go app_root top h = stays lam_top h (λ r x. moved_append r (signs_of v) (onward ends_over ∷ lM) (r.act begins_over x))
  redex_go (app_arg {v = a} {u = u} {d = d} e) (lam_var m) h =
      let b = joint_there τ N l M refl e h in
      record {
        spot = b.spot;
        rel = record { cut = inN a (at root u d); opens = in_n m tt; held = b.held };
        motion = b.motion;
        walks = b.walks;
        alike = λ r x. b.alike r (r.undo begins_under x) ∙ argument_sign r x;
      }
  redex_go (app_left {y = y} {a = a} m e) (side_m {a = b} q k e') h = renamed refl (left_one (erased N) y b a (sym e' ∙ e)) (lam_side q k) h (λ r x. refl)
  redex_go (app_left {y = y} {a = a} m e) (side_n {b = b} {v = v} k k' e') h = absurd (sides_apart (lam (erased M)) (erased N) y a b v m k' e e')
  redex_go (app_right {y = y} {b = b} {v = v} m e) (side_m {a = a} q k e') h = absurd (sides_apart (lam (erased M)) (erased N) y a b v (subst (λ z. occurs z (erased M) ≡ true) q k) m e' e)
  redex_go {z = z} (app_right {y = y} {b = b} {v = a} {c = c} m e) (side_n {b = b'} {v = a'} k k' e') h =
      let p = right_one e' e refl in
      record {
        spot = z;
        rel = record {
          cut = inN a (at (wire y) b c);
          opens = in_n k e.level;
          held = subst (λ b. Held τ (erased N) (erased M) 0 (inN a (at (wire y) b c)) z) p.0 (subst (λ a. Held τ (erased N) (erased M) 0 (inN a (at (wire y) b' c)) z) p.1 h);
        };
        motion = still;
        walks = stay;
        alike = λ r x. refl;
      }
  redex_go (in_fun e) q h = lam_go e q h
  redex_go (in_arg {v = a} {s' = s'} e) (in_n k f) h =
      let b = copy_there τ N l M e h in record { spot = b.spot; rel = record { cut = inN a s'; opens = in_n k (spot_to e); held = b.held }; motion = b.motion; walks = b.walks; alike = b.alike }

  pub redex_come : {s s' : Spot} {k : Cut} {z : Spot} {n : ℕ} → Edge τ (app (lam (erased M)) (erased N)) s' s n → Opens τ (erased N) (erased M) s k → Held τ (erased N) (erased M) 0 k z → Next s s' k z (reversed (reading T s' s))
  redex_come app_root lam_top h = stays top h (λ r x.
      sym (moved_append r (signs_of v) (onward ends_over ∷ lM) (r.act begins_over (moved r (reversed (onward begins_over ∷ signs_of v)) x))
      ∙ ap (moved r (onward ends_over ∷ lM)) (moved_there r (onward begins_over ∷ signs_of v) x)))
  redex_come {z = z} (app_arg {v = a} {c = c} e) (in_n k f) h =
      record {
        spot = z;
        rel = record { cut = inM (at (wire (bound 0)) a c); opens = lam_var k; held = joint_held h refl e };
        motion = still;
        walks = stay;
        alike = λ r x. sym (ap (λ g. moved r g (r.undo begins_under (moved r (reversed F) x))) (own_hole D 0) ∙ argument_sign r (moved r (reversed F) x) ∙ moved_there r F x);
      }
  redex_come (app_left m e) (lam_side q k) h = stays (side_m q k e) h (λ r x. refl)
  redex_come (app_right m e) (in_n k f) h = stays (side_n k m e) h (λ r x. refl)
  redex_come (in_fun e) q h = lam_come e q h
  redex_come (in_arg {v = a} {s = s'} e) (in_n k f) h =
      let b = copy_back τ N l M e h in record { spot = b.spot; rel = record { cut = inN a s'; opens = in_n k (spot_from e); held = b.held }; motion = b.motion; walks = b.walks; alike = b.alike }

-- ---- the labels of sites

module _ (C : Labelled) where
  label_m : (i : ℕ) (K : Labelled) (p : Site) {u : Tree} (a : Level) (d : Context) → PartAt (erased K) p u → Is true u → (r : Acting) (x : Signs) →
      moved r (gap C i (erased K) (spot_in p (base true a d))) (moved r (signs_of (function_label K p)) x) ≡ moved r (signs_of (function_label (sub C i K) p)) x
  label_m i (labels.app f g t) self a d whole h r x = top_is C f i r x
  label_m i (labels.app f g t) (in_function p) a d (of_function m) h r x = label_m i f p a d m h r x
  label_m i (labels.app f g t) (in_argument b p) a d (of_argument m) h r x = label_m i g p a d m h r x
  label_m i (labels.lam b t) (in_lam p) a d (of_lam m) h r x = label_m (suc i) b p a d m h r x
  label_m i (labels.lam b t) self a d whole h r x = absurd h
  label_m i (labels.var y t) self a d whole h r x = absurd h
  label_m i (labels.free f t) self a d whole h r x = absurd h
  label_m i (labels.var y t) (in_lam p) a d m h r x = elim m [ ]
  label_m i (labels.var y t) (in_function p) a d m h r x = elim m [ ]
  label_m i (labels.var y t) (in_argument b p) a d m h r x = elim m [ ]
  label_m i (labels.free f t) (in_lam p) a d m h r x = elim m [ ]
  label_m i (labels.free f t) (in_function p) a d m h r x = elim m [ ]
  label_m i (labels.free f t) (in_argument b p) a d m h r x = elim m [ ]
  label_m i (labels.lam b t) (in_function p) a d m h r x = elim m [ ]
  label_m i (labels.lam b t) (in_argument e p) a d m h r x = elim m [ ]
  label_m i (labels.app f g t) (in_lam p) a d m h r x = elim m [ ]

  gap_lam : (i : ℕ) (K : Tree) (p : Site) {u : Tree} (a : Level) (d : Context) → PartAt K p u → Is false u → gap C i K (spot_in p (base false a d)) ≡ []
  gap_lam i (lam b) self a d whole h = refl
  gap_lam i (app f g) (in_function p) a d (of_function m) h = gap_lam i f p a d m h
  gap_lam i (app f g) (in_argument b p) a d (of_argument m) h = gap_lam i g p a d m h
  gap_lam i (lam b) (in_lam p) a d (of_lam m) h = gap_lam (suc i) b p a d m h
  gap_lam i (app f g) self a d whole h = absurd h
  gap_lam i (var y) self a d whole h = absurd h
  gap_lam i (free f) self a d whole h = absurd h
  gap_lam i (var y) (in_lam p) a d m h = elim m [ ]
  gap_lam i (var y) (in_function p) a d m h = elim m [ ]
  gap_lam i (var y) (in_argument b p) a d m h = elim m [ ]
  gap_lam i (free f) (in_lam p) a d m h = elim m [ ]
  gap_lam i (free f) (in_function p) a d m h = elim m [ ]
  gap_lam i (free f) (in_argument b p) a d m h = elim m [ ]
  gap_lam i (lam b) (in_function p) a d m h = elim m [ ]
  gap_lam i (lam b) (in_argument e p) a d m h = elim m [ ]
  gap_lam i (app f g) (in_lam p) a d m h = elim m [ ]

module _ (τ : Translation) (N : Labelled) (l : Label) where
  wire_apart : {K : Tree} {i : ℕ} {e b a' : Level} {x z : Wire} {c : Context} (a : Level) (d : Context) (p : Site) → WireOf τ (erased N) K i (ofN e x b) z a' → at (wire x) b c ≡ spot_in p (base true a d) → ⊥
  wire_apart {b = b} {x = x} {c = c} a d p r f = no_wire true p a b d c x f

  label_n : (i : ℕ) (K : Labelled) {u : Tree} {e : Level} (p q : Site) (a : Level) (d : Context) {s z : Spot} → PartAt (erased N) p u → Is true u →
      s ≡ spot_in p (base true a d) → z ≡ spot_in q (base true a d) → Held τ (erased N) (erased K) i (inN e s) z → function_label (sub (before l N) i K) q ≡ function_label N p
  label_n i (labels.var y w) p q a d m h f g (wire_n r) = absurd (wire_apart a d p r f)
  label_n i (labels.free y w) p q a d m h f g (wire_n r) = absurd (wire_apart a d p r f)
  label_n i (labels.lam b w) p q a d m h f g (wire_n r) = absurd (wire_apart a d p r f)
  label_n i (labels.app t t' w) p q a d m h f g (wire_n r) = absurd (wire_apart a d p r f)
  label_n i (labels.var y w) p q a d m h f g (x_spot e j) =
      let k : q ≡ p = one_site q p a a d d (sym g ∙ j ∙ ap (lifted 0 i) f ∙ lifted_spot true p a d 0 i) in
      ap (λ o. function_label (put_label w (before l N) (labels.var y w) o) q) e ∙ function_before w (before l N) q ∙ function_before l N q ∙ ap (function_label N) k
  label_n i (labels.lam b w) p self a d m h f g (n_body k) = absurd (cc)
  label_n i (labels.lam b w) p (in_lam q) a d m h f g (n_body {z = z} k) = label_n (suc i) b p q a d m h f (let j : z ≡ spot_in q (base true a d) = cc in j) k
  label_n i (labels.lam b w) p (in_function q) a d m h f g (n_body k) = absurd (cc)
  label_n i (labels.lam b w) p (in_argument y q) a d m h f g (n_body k) = absurd (cc)
  label_n i (labels.app t t' w) p self a d m h f g (n_fun {z = z} k e) = let r = n_moves true a d m h f k in absurd (no_root r.site a a d d root ((let j : at root a d ≡ z = cc in j) ∙ r.is))
  label_n i (labels.app t t' w) p (in_lam q) a d m h f g (n_fun k e) = absurd (cc)
  label_n i (labels.app t t' w) p (in_function q) a d m h f g (n_fun {z = z} k e) = label_n i t p q a d m h f (let j : z ≡ spot_in q (base true a d) = cc in j) k
  label_n i (labels.app t t' w) p (in_argument y q) a d m h f g (n_fun k e) = absurd (cc)
  label_n i (labels.app t t' w) p self a d m h f g (n_arg k e) = absurd (cc)
  label_n i (labels.app t t' w) p (in_lam q) a d m h f g (n_arg k e) = absurd (cc)
  label_n i (labels.app t t' w) p (in_function q) a d m h f g (n_arg k e) = absurd (cc)
  label_n i (labels.app t t' w) p (in_argument y q) a d m h f g (n_arg {z = z} k e) = label_n i t' p q a d m h f (let j : z ≡ spot_in q (base true a d) = cc in j) k

-- ---- the redex whole

module _ (τ : Translation) (M N : Labelled) (v w : Label) where
  abbrev Tr : Labelled
  Tr = labels.app (labels.lam M v) N w

  abbrev Dr : Labelled
  Dr = before (labels.under v none) N

  abbrev X : Labelled
  X = substituted Dr 0 M

  abbrev above : Label
  above = joined w (labels.over v none)

  abbrev U : Labelled
  U = before above X

  abbrev t' : Tree
  t' = subst_for 0 (erased N) (erased M)

  abbrev old : Tree
  old = app (lam (erased M)) (erased N)

  reads_U : (s z : Spot) → reading U s z ≡ reading (sub Dr 0 M) s z
  reads_U s z = reading_before above X s z ∙ (like_substituted Dr M 0).parts s z

  functions_U : (p : Site) → function_label U p ≡ function_label (sub Dr 0 M) p
  functions_U p = function_before above X p ∙ (like_substituted Dr M 0).functions p

  abbrev K : Related
  K = record { R = Through τ (erased M) (erased N); shift = moves τ M N v w }

  follows : {s s' z : Spot} {a : Signs} (k : Through τ (erased M) (erased N) s z) → Next τ M N v w s s' k.cut z a → Follows τ t' U K s s' z k a
  follows k n = record { spot = n.spot; rel = n.rel; motion = n.motion; walks = walks_like reads_U n.walks; alike = n.alike }

  abbrev through : (p : Place) (a a' : Level) (c : Context) → SameRedex τ (erased M) (erased N) p a a' → Through τ (erased M) (erased N) (at p a c) (at p a' c)
  through p a a' c redex_root = record { cut = inM (at root a c); opens = top; held = at_root }
  through p a a' c (redex_m {y = y} {a = b} e r) = record { cut = inM (at (wire (under y)) b c); opens = side_m refl (occurs_old r) e; held = wire_m r }
  through p a a' c (redex_n {y = y} {b = b} {v = x} e r) = record { cut = inN x (at (wire y) b c); opens = side_n (own_occurs r) (n_there r).0 e; held = wire_n r }

  root_label : (r : Acting) (x : Signs) →
      moved r (at_top Dr 0 (erased M)) (moved r (onward begins_over ∷ (signs_of v ++ onward ends_over ∷ signs_of (label_of M))) (moved r (signs_of w) x)) ≡ moved r (signs_of (label_of U)) x
  root_label r x =
      let y = r.act begins_over (moved r (signs_of w) x) in
      let m = signs_of (label_of X) in
      ap (moved r (at_top Dr 0 (erased M))) (moved_append r (signs_of v) (onward ends_over ∷ signs_of (label_of M)) y)
      ∙ top_is Dr M 0 r (r.act ends_over (moved r (signs_of v) y))
      ∙ ap (λ k. moved r (signs_of k) (r.act ends_over (moved r (signs_of v) y))) (sym (like_substituted Dr M 0).label)
      ∙ ap (moved r m) (sym (moved_append r (signs_of v) (onward ends_over ∷ []) y))
      ∙ ap (moved r m) (sym (moved_append r (signs_of w) (signs_of (labels.over v none)) x))
      ∙ ap (λ a. moved r m (moved r a x)) (sym (signs_joined w (labels.over v none)))
      ∙ sym (moved_append r (signs_of above) m x)
      ∙ ap (λ a. moved r a x) (sym (label_before above X))

  wire_shift : (x y : Wire) → x ≡ under y → (r : Acting) (u : Signs) → moved r (hole Dr (wire_without 0 x)) u ≡ u
  wire_shift x y e r u = ap (λ o. moved r (hole Dr o) u) (ap (wire_without 0) e ∙ zero_gone y)

  starts : (p : Place) (a a' : Level) (c : Context) (e : SameRedex τ (erased M) (erased N) p a a') (r : Acting) (x : Signs) →
      K.shift (at p a c) (at p a' c) (through p a a' c e) r (moved r (placed Tr p) x) ≡ moved r (placed U p) x
  starts p a a' c redex_root r x = root_label r x
  starts p a a' c (redex_m {y = y} e k) r x = wire_shift (under y) y refl r x
  starts p a a' c (redex_n e k) r x = refl

  abbrev Out : (p : Place) (a : Level) (c : Context) (z : Spot) → Through τ (erased M) (erased N) (at p a c) z → Type 0
  Out p a c z k = Leaves τ t' U K (SameRedex τ (erased M) (erased N)) p a c z k (placed Tr p) (placed U p)

  leaves : (p : Place) (a : Level) (c : Context) (z : Spot) (k : Cut) (q : Opens τ (erased N) (erased M) (at p a c) k) (h : Held τ (erased N) (erased M) 0 k z) → Out p a c z (record { cut = k; opens = q; held = h })
  leaves p a c z k top h = record { level = a; same = redex_root; motion = still; walks = subst (λ s. Walks τ t' U z s still) (root_is h) stay; alike = λ r x. root_label r x }
  leaves p a c z k (side_m {y = y} {z = x} {a = b'} q m e) h =
      let b = by_wire h y (ap (wire_without 0) q ∙ zero_gone y) in
      record {
        level = b.level;
        same = redex_m e (subst (λ x. WireOf τ (erased N) (erased M) 0 (ofM x b') y b.level) q b.address);
        motion = still;
        walks = subst (λ s. Walks τ t' U z s still) b.is stay;
        alike = λ r u. wire_shift x y q r u;
      }
  leaves p a c z k (side_n {y = y} {b = b} m n e) h =
      let t = held_copy τ N (labels.under v none) M h in
      let j = copy_address t.1 y y b e.level n (lifted_zero y) in
      record {
        level = j.0;
        same = redex_n e j.1;
        motion = then_by still still;
        walks = walks_like reads_U (and_on (turned_still t.2) (copy_out τ N (labels.under v none) M j.1 t.1));
        alike = λ r u. refl;
      }

  -- ---- sites

  abbrev Gone : Site → Level → Context → Spot → Type 0
  Gone p a c z = (p ≡ self) ⊎ ((g : Goes t' Tr U K p) × (z ≡ spot_in g.site (base true a c)))

  m_goes : (p : Site) (u : Tree) (a : Level) (c : Context) (z : Spot) → PartAt (erased M) p u → Is true u → (k : Cut) → Opens τ (erased N) (erased M) (fun (body (spot_in p (base true a c)))) k →
      Held τ (erased N) (erased M) 0 k z → Gone (in_function (in_lam p)) a c z
  m_goes p u a c z m h k in_m e =
      let x = m_moves true 0 a c z m h e in
      inr (
        record {
          site = x.0.site;
          there = x.0.there;
          all = λ b d. record { cut = inM (spot_in p (base true b d)); opens = in_m; held = x.0.all b d };
          alike = λ b d r y. label_m Dr 0 M p b d m h r y ∙ ap (λ q. moved r (signs_of (function_label (sub Dr 0 M) q)) y) (sym x.1) ∙ ap (λ q. moved r (signs_of q) y) (sym (functions_U x.0.site));
        },
        x.0.is,
      )

  n_goes : (b : Level) (p : Site) (u : Tree) (a : Level) (c : Context) (z : Spot) → PartAt (erased N) p u → Is true u → (k : Cut) → Opens τ (erased N) (erased M) (arg b (spot_in p (base true a c))) k →
      Held τ (erased N) (erased M) 0 k z → Gone (in_argument b p) a c z
  n_goes b p u a c z m h k (in_n q f) e =
      let x = n_moves true a c m h refl e in
      inr (
        record {
          site = x.site;
          there = x.there;
          all = λ t d. record { cut = inN b (spot_in p (base true t d)); opens = in_n q (spot_fits τ (erased N) true p t d); held = x.all t d };
          alike = λ t d r y. ap (λ q. moved r (signs_of q) y) (sym (functions_U x.site ∙ label_n τ N (labels.under v none) 0 M p x.site a c m h refl x.is e));
        },
        x.is,
      )

  goes : (p : Site) (a : Level) (c : Context) (z : Spot) → Stands true old p → Through τ (erased M) (erased N) (spot_in p (base true a c)) z → Gone p a c z
  goes p a c z (u, whole, h) k = inl refl
  goes p a c z (u, of_function whole, h) k = absurd h
  goes p a c z (u, of_function (of_lam {p = q} m), h) k = m_goes q u a c z m h k.cut k.opens k.held
  goes p a c z (u, of_argument {p = q} {v = b} m, h) k = n_goes b q u a c z m h k.cut k.opens k.held

  abbrev Came : (p : Site) (c : Context) (z : Spot) → Through τ (erased M) (erased N) (spot_in p (base false empty c)) z → Type 0
  Came p c z k = Comes t' K p c z k

  m_comes : (p : Site) (u : Tree) (c : Context) (z : Spot) → PartAt (erased M) p u → Is false u → (k : Cut) (op : Opens τ (erased N) (erased M) (fun (body (spot_in p (base false empty c)))) k) →
      (e : Held τ (erased N) (erased M) 0 k z) → Came (in_function (in_lam p)) c z (record { cut = k; opens = op; held = e })
  m_comes p u c z m h k in_m e =
      let x = m_moves false 0 empty c z m h e in
      record { site = x.0.site; is = x.0.is; there = x.0.there; alike = λ r y. ap (λ g. moved r g y) (gap_lam Dr 0 (erased M) p empty c m h) }

  n_comes : (b : Level) (p : Site) (u : Tree) (c : Context) (z : Spot) → PartAt (erased N) p u → Is false u → (k : Cut) (op : Opens τ (erased N) (erased M) (arg b (spot_in p (base false empty c))) k) →
      (e : Held τ (erased N) (erased M) 0 k z) → Came (in_argument b p) c z (record { cut = k; opens = op; held = e })
  n_comes b p u c z m h k (in_n op f) e =
      let x = n_moves false empty c m h refl e in
      record { site = x.site; is = x.is; there = x.there; alike = λ r y. refl }

  lam_comes : (c : Context) (z : Spot) (k : Cut) (op : Opens τ (erased N) (erased M) (fun (at root empty c)) k) → (e : Held τ (erased N) (erased M) 0 k z) → Came (in_function self) c z (record { cut = k; opens = op; held = e })
  lam_comes c z k op e = elim op [ ]

  comes : (p : Site) (c : Context) (z : Spot) → Stands false old p → (k : Through τ (erased M) (erased N) (spot_in p (base false empty c)) z) → Came p c z k
  comes p c z (u, whole, h) k = absurd h
  comes p c z (u, of_function whole, h) k = lam_comes c z k.cut k.opens k.held
  comes p c z (u, of_function (of_lam {p = q} m), h) k = m_comes q u c z m h k.cut k.opens k.held
  comes p c z (u, of_argument {p = q} {v = b} m, h) k = n_comes b q u c z m h k.cut k.opens k.held

  old_wire : (y : Wire) (a a' : Level) → SameRedex τ (erased M) (erased N) (wire y) a a' → occurs y old ≡ true
  old_wire y a a' (redex_m e r) = or_left (occurs y (lam (erased M))) (occurs y (erased N)) (occurs_old r)
  old_wire y a a' (redex_n e r) = or_right (occurs y (lam (erased M))) (occurs y (erased N)) (n_there r).0

  new_wire : (y : Wire) (a a' : Level) → SameRedex τ (erased M) (erased N) (wire y) a a' → occurs y t' ≡ true
  new_wire y a a' (redex_m e r) = occurs_new r
  new_wire y a a' (redex_n e r) = occurs_new r

  tops : (a : Level) (c : Context) (z : Spot) (k : Cut) → Opens τ (erased N) (erased M) (at root a c) k → Held τ (erased N) (erased M) 0 k z → z ≡ at root a c
  tops a c z k top h = root_is h

  dead_lam : (c : Context) (s : Spot) (n : ℕ) → Edge τ (lam (erased M)) (at root empty c) s n → ⊥
  dead_lam c s n e = elim e [ ]

  dead_lam_back : (c : Context) (s : Spot) (n : ℕ) → Edge τ (lam (erased M)) s (at root empty c) n → ⊥
  dead_lam_back c s n e = elim e [ ]

  dead : (c : Context) (s : Spot) (n : ℕ) → Edge τ old (fun (at root empty c)) s n → ⊥
  dead c s n (in_fun e) = dead_lam c _ n e

  dead_back : (c : Context) (s : Spot) (n : ℕ) → Edge τ old s (fun (at root empty c)) n → ⊥
  dead_back c s n (in_fun e) = dead_lam_back c _ n e

  -- ---- and back

  abbrev Th : Spot → Spot → Type 0
  Th = Through τ (erased M) (erased N)

  redex_ungo : (z z' s : Spot) (n : ℕ) → Edge τ t' z z' n → Th s z → Undone τ old Th s z'
  redex_ungo z z' s n e r =
      let a = back_on (erased M) e r.held in
      let k = closes_trail a.trail r.opens in
      record { spot = k.spot; rel = record { cut = a.cut; opens = k.rel; held = a.held }; weight = k.weight; trail = k.trail }

  redex_uncome : (z z' s : Spot) (n : ℕ) → Edge τ t' z' z n → Th s z → Undone τ old Th s z'
  redex_uncome z z' s n e r =
      let a = back_off (erased M) e r.held in
      let k = closes_trail a.trail r.opens in
      record { spot = k.spot; rel = record { cut = a.cut; opens = k.rel; held = a.held }; weight = k.weight; trail = k.trail }

  redex_unout : (p : Place) (a : Level) (c : Context) (s : Spot) → Th s (at p a c) → Has p t' → Left τ old (SameRedex τ (erased M) (erased N)) p a c s
  redex_unout root a c s r m =
      let k = closes_trail (held_root r.held) r.opens in
      let d = deep_m τ (erased N) (erased M) k.rel in
      record { level = a; same = redex_root; weight = _; trail = tr_trans (tr_trans k.trail d.trail refl) (tr_trans (one_back (in_fun lam_root)) (one_back app_root) refl) refl }
  redex_unout (wire y) a c s r m = let t = held_wire r.held m in by_tag t.cut t.tagged t.trail
    where
      by_tag : (b : Cut) → Tagged τ (erased N) (erased M) 0 y a c b → Trail (CutEdge τ (erased N) (erased M) 0) r.cut b 0 → Left τ old (SameRedex τ (erased M) (erased N)) (wire y) a c s
      by_tag b (tag_m {y = x} {a = e} i) t =
          let q = zero_from x y (gone i) in
          let i2 = subst (λ x. WireOf τ (erased N) (erased M) 0 (ofM x e) y a) q i in
          let k = closes_trail t r.opens in
          let d = deep_m τ (erased N) (erased M) k.rel in
          let h = occurs_old i in
          record {
            level = left (erased N) y e;
            same = redex_m refl i2;
            weight = _;
            trail = tr_trans (tr_trans k.trail d.trail refl) (tr_trans (one_back (in_fun (lam_wire q h))) (one_back (app_left (occurs_old i2) refl)) refl) refl;
          }
      by_tag b (tag_n {w = e} {b = l} {x = x} i) t =
          let q : y ≡ x = (n_there i).1 ∙ sym (lifted_zero x) in
          let i2 = subst (λ x. WireOf τ (erased N) (erased M) 0 (ofN e x l) y a) (sym q) i in
          let k = closes_trail t r.opens in
          let deep = deep_n τ (erased N) (erased M) k.rel in
          let d = deep.0 in
          let f : IsRight τ (lam (erased M)) (erased N) y l e (right τ (lam (erased M)) (erased N) y l e) = record { level = deep.2; is = refl } in
          let u : Trail (Edge τ old) k.spot (arg e (at (wire y) l c)) d.weight = subst (λ x. Trail (Edge τ old) k.spot (arg e (at (wire x) l c)) d.weight) (sym q) d.trail in
          record {
            level = right τ (lam (erased M)) (erased N) y l e;
            same = redex_n f i2;
            weight = _;
            trail = tr_trans (tr_trans k.trail u refl) (one_back (app_right (n_there i2).0 f)) refl;
          }

  redex_source : (b : Bool) (q : Site) (a : Level) (d : Context) (s : Spot) → (b ≡ false → a ≡ empty) → Stands b t' q → Th s (spot_in q (base b a d)) → Source τ old Th b q a d s
  redex_source b q a d s ok h r = of (whence τ (erased N) (erased M) 0 b r.cut q a d r.held h)
    where
      of : Whence τ (erased N) (erased M) 0 b r.cut q a d → Source τ old Th b q a d s
      of (inl f) =
          let k = closes_trail f.trail r.opens in
          let e = deep_m τ (erased N) (erased M) k.rel in
          record {
            site = in_function (in_lam f.site);
            there = (f.there.0, of_function (of_lam f.there.1), f.there.2);
            all = λ w c g. record { cut = inM (spot_in f.site (base b w c)); opens = in_m; held = f.all w c };
            weight = k.weight + e.weight;
            trail = tr_trans k.trail e.trail refl;
          }
      of (inr f) =
          let k = closes_trail f.trail r.opens in
          let e = deep_n τ (erased N) (erased M) k.rel in
          record {
            site = in_argument f.level f.site;
            there = (f.there.0, of_argument f.there.1, f.there.2);
            all = λ w c g. record { cut = inN f.level (spot_in f.site (base b w c)); opens = in_n e.1 (spot_fits τ (erased N) b f.site w c); held = f.all w c };
            weight = k.weight + e.0.weight;
            trail = tr_trans k.trail e.0.trail refl;
          }

  redex_gone : (c : Context) (z : Spot) → Th (fun (at root empty c)) z → ⊥
  redex_gone c z r = by r.cut r.opens
    where
      by : (k : Cut) → Opens τ (erased N) (erased M) (fun (at root empty c)) k → ⊥
      by k op = elim op [ ]

  pub redex_keeps : Keeps τ old t' Tr U (SameRedex τ (erased M) (erased N)) v
  redex_keeps = record {
    K = K;
    start = through;
    starts = starts;
    go = λ s s' z n e k. follows k (redex_go τ M N v w e k.opens k.held);
    come = λ s s' z n e k. follows k (redex_come τ M N v w e k.opens k.held);
    out = λ p a c z k h. leaves p a c z k.cut k.opens k.held;
    old = λ y a a' r. old_wire y a a' r;
    new = λ y a a' r. new_wire y a a' r;
    backs = record { ungo = redex_ungo; uncome = redex_uncome; unout = redex_unout; source = redex_source };
    redex = self;
    gone = redex_gone;
    degree = refl;
    dead = λ c s n. (dead c s n, dead_back c s n);
    goes = goes;
    comes = comes;
    top = λ a c z f k. tops a c z k.cut k.opens k.held;
  }
