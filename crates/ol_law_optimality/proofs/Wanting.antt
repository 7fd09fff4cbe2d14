-- Each redex that a question comes to has the word of a degree that leftmost reduction to a normal form contracts.
use Rattle.std.proofs.Common.{◌≡◌, ℕ, zero, suc, ◌++◌, Bool, true, false, if◌then◌else◌, ◌⊎◌, inl, inr, List}
use Rattle.std.proofs.Common.{[], ◌∷◌, Option, Some, None, refl, sym, ap, ◌∙◌, subst}
use Rattle.std.specs.Option.{option_or, option_map}
use Rattle.ol_beta.specs.Leftmost.{leftmost, is_abstraction}
use Rattle.ol_beta.specs.Leftmost as beta_steps
use Rattle.ol_law_edges.specs.Edges.{IsIn}
use Rattle.ol_law_meaning.specs.Contraction.{Tree, lam, app, Level, empty, o, star, Context, Wire, bound, name, under}
use Rattle.ol_law_meaning.specs.Contraction.{left, Place, root, wire, Spot, at, Edge, Trail, HeadStep}
use Rattle.ol_law_meaning.specs.Steps.{Same}
use Rattle.ol_law_meaning.specs.Heads.{outer, Spine, up_root, up_own, up_wire, head_var, head_free, head_app, Normal}
use Rattle.ol_law_meaning.specs.Heads.{flat, layer, done, step, inner}
use Rattle.ol_law_meaning.proofs.LeftmostSteps.{leftmost_step}
use Rattle.ol_law_meaning.proofs.Walking.{passing, least_or, root_stays, normal_or_step}
use Rattle.ol_term.specs.declared.translations.Translation.{Translation}
use Rattle.ol_law_optimality.specs.Met.{IsMatched}
use Rattle.ol_law_optimality.proofs.Meeting.{Comes, too_few}
use Rattle.ol_law_optimality.proofs.Sites.{base}
use Rattle.ol_law_optimality.proofs.Wanted.{Asks, whole, part, IsWanted, ArgWanted, in_last, in_earlier, in_body}
use Rattle.ol_law_optimality.proofs.Wanted.{arg_wanted, one_step, arg_stops, after_part}
use Rattle.ol_law_optimality.specs.Labels.{Label, Labelled, erased, degree, contracted, LeftmostContracts}
use Rattle.ol_law_optimality.specs.Labels as labels
use Rattle.ol_law_meaning.specs.Sites.{Site, in_lam, in_function, in_argument, spot_in, of_lam, of_function}
use Rattle.ol_law_meaning.specs.Sites.{of_argument, function_at}
use Rattle.ol_law_optimality.specs.Signs.{Signs, signs_of}
use Rattle.ol_law_optimality.specs.Readings.{AreAlike, word_of, word_along, function_label, moved}
use Rattle.ol_law_optimality.proofs.HeadWords.{Step, step_of, matched_goes, redex_word}
use Rattle.ol_law_optimality.proofs.Keeping.{Goes, Keeps, follow}
use Rattle.ol_law_optimality.proofs.Leftwards.{labelled_step, one_step as one_labelled}
use Rattle.ol_law_optimality.proofs.Motions.{Motion, Walks, moved_append, in_the_body, in_the_fun, in_the_arg}
use Rattle.ol_law_optimality.proofs.Sides.{site_has_one_word}

module _ {τ : Translation} {T U : Labelled} {d : Label} {t' : Tree} {S : Place → Level → Level →
    Type 0} (w : Keeps τ (erased T) t' T U S d) where
  -- a walk from a place goes on to the redex that is left, with its word
  pub comes_on : (p : Site) (y : Place) (v v' : Level) (c : Context) (m : Comes τ (erased T) (at y v c) p) → S y v v' →
      (p ≡ w.redex) ⊎ ((q : Site) × (k : Comes τ t' (at y v' c) q)
      × AreAlike (word_of T p m.matched) (signs_of (function_label U q) ++ word_along U k.matched.trail))
  comes_on p y v v' c m e =
      let k = follow w m.way (w.start y v v' c e) in
      of k.spot k.motion k.walks (w.goes p m.level m.later k.spot (
        app m.matched.function m.matched.argument,
        m.matched.is,
        tt,
      ) k.rel)
    where
      of : (z : Spot) (f : Motion) → Walks τ t' U (at y v' c) z f →
          (p ≡ w.redex) ⊎ ((g : Goes t' T U w.K p) × (z ≡ spot_in g.site (base true m.level m.later))) →
          (p ≡ w.redex) ⊎ ((q : Site) × (k : Comes τ t' (at y v' c) q)
          × AreAlike (word_of T p m.matched) (signs_of (function_label U q) ++ word_along U k.matched.trail))
      of z f a (inl e) = inl e
      of z f a (inr (g, e)) =
          let j = matched_goes τ w p m.matched g in
          let b : Walks τ t' U (at y v' c) (function_at g.site m.level m.later) f = subst (λ z. Walks τ t' U
          (at y v' c) z f) e a in
          inr (
            g.site,
            record {
              matched = j.matched;
              level = m.level;
              later = m.later;
              steps = b.weight;
              way = b.trail;
            },
            j.alike,
          )

module _ (τ : Translation) {T U : Labelled} {d : Label} (k : Step τ T d U) where
  abbrev Onward : (p : Site) → IsMatched τ (erased T) p → Tree → Type 0
  Onward p m t = AreAlike (word_of T p m) (signs_of d)
      ⊎ ((q : Site) × (n : IsWanted τ t q) × AreAlike (word_of T p m) (signs_of
      (function_label U q) ++ word_along U n.comes.matched.trail))

  goes_by : (p : Site) (y : Place) (v v' : Level) (c : Context) (m : Comes τ (erased T) (at y v c) p) →
      Same τ k.step y v v' → Asks τ k.tree y v' c → Onward p m.matched k.tree
  goes_by p y v v' c m e a = elim (comes_on k.keeps p y v v' c m e) [
    | inl r ↦ inl (redex_word τ k.keeps p m.matched r)
    | inr x ↦ inr (x.0, record { place = y; first = v'; rest = c; asks = a; comes = x.1 }, x.2)
  ]

  wanted_by : (p : Site) (y : Place) (v : Level) (c : Context) → Asks τ (erased T) y v c →
      (m : Comes τ (erased T) (at y v c) p) → Onward p m.matched k.tree
  wanted_by p y v c (whole n e) m = elim (least_or (outer (erased T)) n) [
    | inl few ↦ absurd (too_few p n m.steps c m.later m.level few
        (subst (λ v. Trail (Edge τ (erased T)) (at root v c) (function_at p m.level m.later) m.steps) e m.way))
    | inr enough ↦ goes_by p root v v c m (subst (λ v. Same τ k.step root v v) (sym e)
        (root_stays τ k.step n (passing (erased T) n enough))) (whole n e)
  ]
  wanted_by p y v c (part b done a g f e) m = absurd (arg_stops a k.step)
  wanted_by p y v c (part b (step {t' = r} h s) a g f e) m =
      let z = one_step k.step h in
      let x = after_part τ k.step b r z.is s a g f e.0 (z.same τ y v e.0 e.1) e.2 in
      goes_by p y v x.level c m x.same x.asks

  wanted_on : (p : Site) (m : IsWanted τ (erased T) p) → AreAlike (word_of T p m.comes.matched) (signs_of d)
      ⊎ ((q : Site) × (n : IsWanted τ (erased U) q) × AreAlike (word_of T p m.comes.matched)
      (word_of U q n.comes.matched))
  wanted_on p m = subst (Onward p m.comes.matched) k.is (wanted_by p m.place m.first m.rest m.asks m.comes)

module _ (τ : Translation) where
  -- a redex with an alike word is wanted: of the whole, or of an argument once the head is there
  pub data Wants : Bool → Labelled → Signs → Type 0 where
    of_whole : {T : Labelled} {g : Signs} (p : Site) (m : IsWanted τ (erased T) p) →
        AreAlike (word_of T p m.comes.matched) g → Wants true T g
    of_args : {T : Labelled} {g : Signs} (q : Place) (a : Level) (j : ℕ) → Normal (erased T) q a j →
        Wants false T g → Wants true T g
    at_last : {f a : Labelled} {w : Label} {g : Signs} → Wants true a g → Wants false (labels.app f a w) g
    at_earlier : {f a : Labelled} {w : Label} {g : Signs} → Wants false f g → Wants false (labels.app f a w) g
    at_body : {b : Labelled} {w : Label} {g : Signs} → Wants false b g → Wants false (labels.lam b w) g

  -- ---- a redex of a part is one of the whole, with the same word

  abbrev pub Lifted : (T : Labelled) → Site → Signs → Type 0
  Lifted T p g = (m : IsMatched τ (erased T) p) × AreAlike (word_of T p m) g

  pub lift_fun : (f a : Labelled) (w : Label) (q : Site) (m : IsMatched τ (erased f) q) →
      Lifted (labels.app f a w) (in_function q) (word_of f q m)
  lift_fun f a w q m =
      let W = in_the_fun {t = erased f} {p = erased a} {L = f} {P = a} w (record {
        weight = m.weight;
        trail = m.trail;
        reads = λ r x. refl;
      }) in (
        record {
          function = m.function;
          argument = m.argument;
          is = of_function m.is;
          other = in_function m.other;
          inner = m.inner;
          is_other = of_function m.is_other;
          weight = W.weight;
          trail = W.trail;
        },
        λ r x. moved_append r (signs_of (function_label f q)) (word_along (labels.app f a w) W.trail) x
            ∙ W.reads r (moved r (signs_of (function_label f q)) x)
            ∙ sym (moved_append r (signs_of (function_label f q)) (word_along f m.trail) x),
      )

  pub lift_arg : (f a : Labelled) (w : Label) (v : Level) (q : Site) (m : IsMatched τ (erased a) q) →
      Lifted (labels.app f a w) (in_argument v q) (word_of a q m)
  lift_arg f a w v q m =
      let W = in_the_arg {t = erased f} {p = erased a} {L = f} {P = a} w v (record {
        weight = m.weight;
        trail = m.trail;
        reads = λ r x. refl;
      }) in (
        record {
          function = m.function;
          argument = m.argument;
          is = of_argument m.is;
          other = in_argument v m.other;
          inner = m.inner;
          is_other = of_argument m.is_other;
          weight = W.weight;
          trail = W.trail;
        },
        λ r x. moved_append r (signs_of (function_label a q)) (word_along (labels.app f a w) W.trail) x
            ∙ W.reads r (moved r (signs_of (function_label a q)) x)
            ∙ sym (moved_append r (signs_of (function_label a q)) (word_along a m.trail) x),
      )

  pub lift_lam : (b : Labelled) (w : Label) (q : Site) (m : IsMatched τ (erased b) q) →
      Lifted (labels.lam b w) (in_lam q) (word_of b q m)
  lift_lam b w q m =
      let W = in_the_body {t = erased b} {L = b} w (record {
        weight = m.weight;
        trail = m.trail;
        reads = λ r x. refl;
      }) in (
        record {
          function = m.function;
          argument = m.argument;
          is = of_lam m.is;
          other = in_lam m.other;
          inner = m.inner;
          is_other = of_lam m.is_other;
          weight = W.weight;
          trail = W.trail;
        },
        λ r x. moved_append r (signs_of (function_label b q)) (word_along (labels.lam b w) W.trail) x
            ∙ W.reads r (moved r (signs_of (function_label b q)) x)
            ∙ sym (moved_append r (signs_of (function_label b q)) (word_along b m.trail) x),
      )

  record Parted (T : Labelled) (p : Site) : Type 0 where
    matched : IsMatched τ (erased T) p
    wants : (g : Signs) → AreAlike (word_of T p matched) g → Wants false T g

  parted : (T : Labelled) {p : Site} → ArgWanted τ (erased T) p → Parted T p
  parted (labels.app f a w) (in_last {p = q} m) =
      let l = lift_arg f a w empty q m.comes.matched in
      record { matched = l.0; wants = λ g e. at_last (of_whole q m (λ r x. sym (l.1 r x) ∙ e r x)) }
  parted (labels.app f a w) (in_earlier {p = q} m) =
      let k = parted f m in
      let l = lift_fun f a w q k.matched in
      record { matched = l.0; wants = λ g e. at_earlier (k.wants g (λ r x. sym (l.1 r x) ∙ e r x)) }
  parted (labels.lam b w) (in_body {p = q} m) =
      let k = parted b m in
      let l = lift_lam b w q k.matched in
      record { matched = l.0; wants = λ g e. at_body (k.wants g (λ r x. sym (l.1 r x) ∙ e r x)) }
  parted (labels.var y w) m = elim m [ ]
  parted (labels.free f w) m = elim m [ ]

  -- in a head normal form what is wanted is in an argument
  in_args : (T : Labelled) (q : Place) (a : Level) (j : ℕ) → Normal (erased T) q a j →
      (p : Site) (m : IsWanted τ (erased T) p) (g : Signs) →
      AreAlike (word_of T p m.comes.matched) g → Wants false T g
  in_args T q a j n p m g e =
      let k = parted T (arg_wanted τ n p m) in
      k.wants g (λ r x. site_has_one_word τ T p k.matched m.comes.matched r x ∙ e r x)

  -- ---- leftmost steps of parts

  some_one : {X : Type 0} {a b : X} → Some a ≡ Some b → a ≡ b
  some_one e = cc

  some_none : {X : Type 0} {a : X} → Some a ≡ None → ⊥
  some_none e = absurd (cc)

  pub record LeftStep (T : Labelled) (d : Label) (U : Labelled) : Type 0 where
    pub place : List ℕ
    pub first : leftmost (erased T) ≡ Some place
    pub degree_is : degree T place ≡ Some d
    pub gives : contracted T place ≡ Some U

  mapped : {X Y : Type 0} (f : X → Y) (o : Option X) (y : Y) → option_map f o ≡ Some y →
      (x : X) × (o ≡ Some x) × (y ≡ f x)
  mapped f None y e = absurd (cc)
  mapped f (Some x) y e = (x, refl, sym (some_one e))

  abbrev pub InFunction : Labelled → Labelled → Label → Label → Labelled → Type 0
  InFunction f a w d U = (g : Labelled) × LeftStep f d g × (U ≡ labels.app g a w)

  abbrev pub InArgument : Labelled → Labelled → Label → Label → Labelled → Type 0
  InArgument f a w d U = (leftmost (erased f) ≡ None) × ((b : Labelled) × LeftStep a d b × (U ≡ labels.app f b w))

  app_first : (f a : Labelled) (w : Label) → is_abstraction (erased f) ≡ false →
      leftmost (erased (labels.app f a w)) ≡ option_or (beta_steps.under 1 (leftmost (erased f)))
      (beta_steps.under 2 (leftmost (erased a)))
  app_first f a w e = ap (λ b. if b then Some [] else option_or (beta_steps.under 1 (leftmost (erased f)))
      (beta_steps.under 2 (leftmost (erased a)))) e

  pub app_step : (f a : Labelled) (w d : Label) (U : Labelled) → is_abstraction (erased f) ≡ false →
      LeftStep (labels.app f a w) d U → InFunction f a w d U ⊎ InArgument f a w d U
  app_step f a w d U plain s = by (leftmost (erased f)) refl (leftmost (erased a)) refl
    where
      by : (x : Option (List ℕ)) → leftmost (erased f) ≡ x → (y : Option (List ℕ)) → leftmost (erased a) ≡ y →
          InFunction f a w d U ⊎ InArgument f a w d U
      by (Some at') e y e' =
          let q : s.place ≡ 1 ∷ at' = some_one (sym s.first ∙ app_first f a w plain
          ∙ ap (λ x. option_or (beta_steps.under 1 x) (beta_steps.under 2 (leftmost (erased a)))) e) in
          let m = mapped (λ g. labels.app g a w) (contracted f at') U (ap (contracted (labels.app f a w))
          (sym q) ∙ s.gives) in
          inl (
            m.0,
            record {
              place = at';
              first = e;
              degree_is = ap (degree (labels.app f a w)) (sym q)
                  ∙ s.degree_is;
              gives = m.1;
            },
            m.2,
          )
      by None e (Some at') e' =
          let q : s.place ≡ 2 ∷ at' = some_one (sym s.first ∙ app_first f a w plain
          ∙ ap (λ x. option_or (beta_steps.under 1 x) (beta_steps.under 2 (leftmost (erased a)))) e
          ∙ ap (λ y. beta_steps.under 2 y) e') in
          let m = mapped (λ b. labels.app f b w) (contracted a at') U (ap (contracted (labels.app f a w))
          (sym q) ∙ s.gives) in
          inr (
            e,
            (
              m.0,
              record {
                place = at';
                first = e';
                degree_is = ap (degree (labels.app f a w)) (sym q)
                    ∙ s.degree_is;
                gives = m.1;
              },
              m.2,
            ),
          )
      by None e None e' = absurd (some_none (sym s.first ∙ app_first f a w plain
          ∙ ap (λ x. option_or (beta_steps.under 1 x) (beta_steps.under 2 (leftmost (erased a)))) e
          ∙ ap (λ y. beta_steps.under 2 y) e'))

  pub lam_step : (b : Labelled) (w d : Label) (U : Labelled) → LeftStep (labels.lam b w) d U →
      (c : Labelled) × LeftStep b d c × (U ≡ labels.lam c w)
  lam_step b w d U s = by (leftmost (erased b)) refl
    where
      by : (x : Option (List ℕ)) → leftmost (erased b) ≡ x → (c : Labelled) × LeftStep b d c × (U ≡ labels.lam c w)
      by (Some at') e =
          let q : s.place ≡ 0 ∷ at' = some_one (sym s.first ∙ ap (λ x. beta_steps.under 0 x) e) in
          let m = mapped (λ c. labels.lam c w) (contracted b at') U (ap (contracted (labels.lam b w)) (sym q)
          ∙ s.gives) in (
            m.0,
            record {
              place = at';
              first = e;
              degree_is = ap (degree (labels.lam b w)) (sym q)
                  ∙ s.degree_is;
              gives = m.1;
            },
            m.2,
          )
      by None e = absurd (some_none (sym s.first ∙ ap (λ x. beta_steps.under 0 x) e))

  pub spine_plain : {t : Tree} {y : Wire} {a : Level} {j : ℕ} → Spine t y a j → is_abstraction t ≡ false
  spine_plain head_var = refl
  spine_plain head_free = refl
  spine_plain (head_app s e) = refl

  -- ---- what a leftmost step doesn't contract stays wanted

  abbrev pub IsNormalHead : Tree → Type 0
  IsNormalHead t = (q : Place) × (a : Level) × (j : ℕ) × Normal t q a j

  abbrev pub OnWhole : Labelled → Type 0
  OnWhole T = (d : Label) (U : Labelled) → LeftStep T d U → (g : Signs) → Wants true T g →
      AreAlike g (signs_of d) ⊎ Wants true U g

  -- a head with arguments stays one, and so does a head normal form
  abbrev pub IsSpine : Tree → Type 0
  IsSpine t = (y : Wire) × (a : Level) × (j : ℕ) × Spine t y a j

  abbrev pub Keeps' : Labelled → Label → Labelled → Type 0
  Keeps' T d U = (g : Signs) → Wants false T g → AreAlike g (signs_of d) ⊎ Wants false U g

  abbrev pub OnSpine : Labelled → Type 0
  OnSpine T = (y : Wire) (a : Level) (j : ℕ) → Spine (erased T) y a j → (d : Label) (U : Labelled) → LeftStep T d U →
      IsSpine (erased U) × Keeps' T d U

  abbrev pub OnArgs : Labelled → Type 0
  OnArgs T = (q : Place) (a : Level) (j : ℕ) → Normal (erased T) q a j → (d : Label) (U : Labelled) → LeftStep T d U →
      IsNormalHead (erased U) × Keeps' T d U

  under_lam : (t : Tree) (p : Place) (v : Level) (j : ℕ) → Normal t p v j → IsNormalHead (lam t)
  under_lam t root v j n = (root, o v, j, layer n (up_root refl))
  under_lam t (wire (bound zero)) v j n = (root, star v, j, layer n (up_own refl refl))
  under_lam t (wire (bound (suc y))) v j n = (wire (bound y), v, j, layer n (up_wire refl refl))
  under_lam t (wire (name f)) v j n = (wire (name f), v, j, layer n (up_wire refl refl))

  whole_on : (T : Labelled) → OnArgs T → OnWhole T
  whole_on T up d U s g (of_args q a j n W) =
      let r = up q a j n d U s in
      elim (r.1 g W) [ inl e ↦ inl e | inr x ↦ inr (of_args r.0.0 r.0.1 r.0.2 r.0.3 x) ]
  whole_on T up d U s g (of_whole p m e) = by (normal_or_step (erased T))
    where
      by : IsNormalHead (erased T) ⊎ ((t' : Tree) × HeadStep (erased T) t') → AreAlike g (signs_of d) ⊎ Wants true U g
      by (inl (q, a, j, n)) =
          let r = up q a j n d U s in
          elim (r.1 g (in_args T q a j n p m g e)) [ inl e ↦ inl e | inr x ↦ inr (of_args r.0.0 r.0.1 r.0.2 r.0.3 x) ]
      by (inr (t', h)) =
          let k = labelled_step T h in
          let z = one_labelled T U k.0 d k.1 s.place s.first s.degree_is s.gives k.2 in
          elim (wanted_on τ (step_of τ k.2) p m) [
            | inl a ↦ inl (λ r x. sym (e r x) ∙ a r x ∙ ap (λ l. moved r (signs_of l) x) z.degrees)
            | inr x ↦ inr (subst (λ U. Wants true U g) z.term (of_whole x.0 x.1 (λ r y. sym (x.2 r y) ∙ e r y)))
          ]

  args_on_lam : (b : Labelled) (w : Label) → OnArgs b → OnArgs (labels.lam b w)
  args_on_lam b w up q a j (flat s) d U l = elim s [ ]
  args_on_lam b w up q a j (layer {p = p} {v = v} n h) d U l =
      let r = lam_step b w d U l in
      let k = up p v j n d r.0 r.1 in (
        subst (λ U. IsNormalHead (erased U)) (sym r.2) (under_lam (erased r.0) k.0.0 k.0.1 k.0.2 k.0.3),
        λ g W. go k.1 r.2 g W,
      )
    where
      go : {c U : Labelled} → Keeps' b d c → U ≡ labels.lam c w → (g : Signs) → Wants false (labels.lam b w) g →
          AreAlike g (signs_of d) ⊎ Wants false U g
      go {c} {U} f e g (at_body W) = elim (f g W) [
        | inl e ↦ inl e
        | inr x ↦ inr (subst (λ U. Wants false U g)
            (sym e) (at_body x))
      ]

  in_function_on : (f a : Labelled) (w d : Label) (c U : Labelled) → Keeps' f d c → U ≡ labels.app c a w →
      Keeps' (labels.app f a w) d U
  in_function_on f a w d c U k e g (at_last W) = inr (subst (λ U. Wants false U g) (sym e) (at_last W))
  in_function_on f a w d c U k e g (at_earlier W) = elim (k g W) [
    | inl e ↦ inl e
    | inr x ↦ inr (subst (λ U. Wants false U g) (sym e) (at_earlier x))
  ]

  in_argument_on : (f a : Labelled) (w d : Label) (c U : Labelled) → LeftStep a d c → OnWhole a →
      U ≡ labels.app f c w → Keeps' (labels.app f a w) d U
  in_argument_on f a w d c U s k e g (at_earlier W) = inr (subst (λ U. Wants false U g) (sym e) (at_earlier W))
  in_argument_on f a w d c U s k e g (at_last W) = elim (k d c s g W) [
    | inl e ↦ inl e
    | inr x ↦ inr (subst (λ U. Wants false U g) (sym e) (at_last x))
  ]

  spine_on : (f a : Labelled) (w : Label) → OnSpine f → OnWhole a → OnSpine (labels.app f a w)
  spine_on f a w up right y l j (head_app {y = y'} {a = a'} {j = j'} s e) d U t = by (app_step f a w d U
      (spine_plain s) t)
    where
      by : InFunction f a w d U ⊎ InArgument f a w d U → IsSpine (erased U) × Keeps' (labels.app f a w) d U
      by (inl (c, t', q)) =
          let r = up y' a' j' s d c t' in (
            subst (λ U. IsSpine (erased U)) (sym q) (
              r.0.0,
              left (erased a) r.0.0 r.0.1,
              suc r.0.2,
              head_app r.0.3 refl,
            ),
            in_function_on f a w d c U r.1 q,
          )
      by (inr (n, (c, t', q))) = (
        subst (λ U. IsSpine (erased U)) (sym q) (y', left (erased c) y' a', suc j', head_app s refl),
        in_argument_on f a w d c U t' right q,
      )

  of_spine : (T : Labelled) → OnSpine T → (y : Wire) (a : Level) (j : ℕ) → Spine (erased T) y a j →
      (d : Label) (U : Labelled) →
      LeftStep T d U → IsNormalHead (erased U) × Keeps' T d U
  of_spine T f y a j s d U l = let r = f y a j s d U l in ((wire r.0.0, r.0.1, r.0.2, flat r.0.3), r.1)

  flat_on : (f a : Labelled) (w : Label) → OnSpine (labels.app f a w) → OnArgs (labels.app f a w)
  flat_on f a w up q l j (flat s) d U t = of_spine (labels.app f a w) up _ l j s d U t

  pub record Steps' (T : Labelled) : Type 0 where
    pub on_spine : OnSpine T
    pub on_args : OnArgs T
    pub on_whole : OnWhole T

  pub stays_wanted : (T : Labelled) → Steps' T
  stays_wanted (labels.var y w) =
      let n : OnArgs (labels.var y w) = λ q a j k d U s. absurd (some_none (sym s.first)) in
      record {
        on_spine = λ q a j k d U s. absurd (some_none (sym s.first));
        on_args = n;
        on_whole = whole_on (labels.var y w) n;
      }
  stays_wanted (labels.free f w) =
      let n : OnArgs (labels.free f w) = λ q a j k d U s. absurd (some_none (sym s.first)) in
      record {
        on_spine = λ q a j k d U s. absurd (some_none (sym s.first));
        on_args = n;
        on_whole = whole_on (labels.free f w) n;
      }
  stays_wanted (labels.lam b w) =
      let n = args_on_lam b w (stays_wanted b).on_args in
      record { on_spine = λ y a j k d U s. elim k [ ]; on_args = n; on_whole = whole_on (labels.lam b w) n }
  stays_wanted (labels.app f a w) =
      let m = spine_on f a w (stays_wanted f).on_spine (stays_wanted a).on_whole in
      let n = flat_on f a w m in
      record { on_spine = m; on_args = n; on_whole = whole_on (labels.app f a w) n }

  -- ---- where no redex is left nothing is wanted

  no_part : (f a : Labelled) (w : Label) → is_abstraction (erased f) ≡ false →
      leftmost (erased (labels.app f a w)) ≡ None →
      (leftmost (erased f) ≡ None) × (leftmost (erased a) ≡ None)
  no_part f a w plain e = by (leftmost (erased f)) refl (leftmost (erased a)) refl
    where
      by : (x : Option (List ℕ)) → leftmost (erased f) ≡ x → (y : Option (List ℕ)) → leftmost (erased a) ≡ y →
          (leftmost (erased f) ≡ None) × (leftmost (erased a) ≡ None)
      by (Some at') k y k' = absurd (some_none (sym (app_first f a w plain
          ∙ ap (λ x. option_or (beta_steps.under 1 x) (beta_steps.under 2 (leftmost (erased a)))) k) ∙ e))
      by None k (Some at') k' = absurd (some_none (sym (app_first f a w plain
          ∙ ap (λ x. option_or (beta_steps.under 1 x) (beta_steps.under 2 (leftmost (erased a)))) k
          ∙ ap (λ y. beta_steps.under 2 y) k') ∙ e))
      by None k None k' = (k, k')

  no_body : (b : Labelled) (w : Label) → leftmost (erased (labels.lam b w)) ≡ None → leftmost (erased b) ≡ None
  no_body b w e = by (leftmost (erased b)) refl
    where
      by : (x : Option (List ℕ)) → leftmost (erased b) ≡ x → leftmost (erased b) ≡ None
      by None k = k
      by (Some at') k = absurd (some_none (sym (ap (λ x. beta_steps.under 0 x) k) ∙ e))

  abbrev NoneWhole : Labelled → Type 0
  NoneWhole T = leftmost (erased T) ≡ None → (g : Signs) → Wants true T g → ⊥

  abbrev NoneArgs : Labelled → Type 0
  NoneArgs T = leftmost (erased T) ≡ None → IsNormalHead (erased T) → (g : Signs) → Wants false T g → ⊥

  whole_none : (T : Labelled) → NoneArgs T → NoneWhole T
  whole_none T up z g (of_args q a j n W) = up z (q, a, j, n) g W
  whole_none T up z g (of_whole p m e) = by (normal_or_step (erased T))
    where
      by : IsNormalHead (erased T) ⊎ ((t' : Tree) × HeadStep (erased T) t') → ⊥
      by (inl (q, a, j, n)) = up z (q, a, j, n) g (in_args T q a j n p m g e)
      by (inr (t', h)) = some_none (sym (leftmost_step h).1 ∙ z)

  args_none_lam : (b : Labelled) (w : Label) → NoneArgs b → NoneArgs (labels.lam b w)
  args_none_lam b w up z (q, a, j, layer {p = p} {v = v} n h) g (at_body W) = up (no_body b w z) (p, v, j, n) g W
  args_none_lam b w up z (q, a, j, flat s) g W = elim s [ ]

  args_none_app : (f a : Labelled) (w : Label) → NoneArgs f → NoneWhole a → NoneArgs (labels.app f a w)
  args_none_app f a w up right z (q, l, j, flat (head_app {y = y} {a = a'} {j = j'} s e)) g (at_last W) =
      right (no_part f a w (spine_plain s) z).1 g W
  args_none_app f a w up right z (q, l, j, flat (head_app {y = y} {a = a'} {j = j'} s e)) g (at_earlier W) =
      up (no_part f a w (spine_plain s) z).0 (wire y, a', j', flat s) g W

  nothing_left : (T : Labelled) → NoneWhole T × NoneArgs T
  nothing_left (labels.var y w) =
      let n : NoneArgs (labels.var y w) = λ z k g W. elim W [ ] in (whole_none (labels.var y w) n, n)
  nothing_left (labels.free f w) =
      let n : NoneArgs (labels.free f w) = λ z k g W. elim W [ ] in (whole_none (labels.free f w) n, n)
  nothing_left (labels.lam b w) = let n = args_none_lam b w (nothing_left b).1 in (whole_none (labels.lam b w) n, n)
  nothing_left (labels.app f a w) =
      let n = args_none_app f a w (nothing_left f).1 (nothing_left a).0 in (whole_none (labels.app f a w) n, n)

  -- ---- so each word is a degree

  leads : (T v : Labelled) (ws : List Label) → LeftmostContracts T ws v → leftmost (erased v) ≡ None →
      (g : Signs) → Wants true T g →
      (e : Label) × IsIn e ws × AreAlike g (signs_of e)
  leads T v ws labels.ready z g W = absurd ((nothing_left T).0 z g W)
  leads T v ws (labels.contract {u = U} {w = w} {ws = us} place e f c r) z g W =
      of (λ x. leads U v us r z g x)
      ((stays_wanted T).on_whole w U (record { place = place; first = e; degree_is = f; gives = c }) g W)
    where
      of : (Wants true U g → (e : Label) × IsIn e us × AreAlike g (signs_of e)) →
          AreAlike g (signs_of w) ⊎ Wants true U g →
          (e : Label) × IsIn e (w ∷ us) × AreAlike g (signs_of e)
      of rest (inl a) = (w, inl refl, a)
      of rest (inr x) = let k = rest x in (k.0, inr k.1, k.2)

  pub wanted_degree : (T v : Labelled) (ws : List Label) → LeftmostContracts T ws v →
      leftmost (erased v) ≡ None → (p : Site)
      (m : IsWanted τ (erased T) p) → (e : Label) × IsIn e ws × AreAlike (word_of T p m.comes.matched) (signs_of e)
  wanted_degree T v ws r z p m = leads T v ws r z (word_of T p m.comes.matched) (of_whole p m (λ r x. refl))
