-- Each redex that a question after one of the first places comes to has the word of a degree that head reduction
-- contracts at one of them.
use Rattle.std.proofs.Common.{◌≡◌, ℕ, suc, Bool, true, false, ◌⊎◌, inl, inr, List, ◌∷◌, ◌++◌, refl, sym, ◌∙◌, subst}
use Rattle.ol_law_edges.specs.Edges.{IsIn}
use Rattle.ol_law_edges.proofs.Lists.{in_left, in_right}
use Rattle.ol_law_meaning.specs.Contraction.{Tree, lam, app, Level, empty, Context, Place, root, at, Edge, Trail}
use Rattle.ol_law_meaning.specs.Contraction.{HeadStep}
use Rattle.ol_law_meaning.specs.Steps.{Same}
use Rattle.ol_law_meaning.specs.Heads.{outer, Normal, Steps, done, step, SameAlong, Arg, last, earlier, inner, StandsAt}
use Rattle.ol_law_meaning.proofs.Endless.{normal_stops}
use Rattle.ol_law_meaning.proofs.Walking.{passing, least_or, root_stays}
use Rattle.ol_law_optimality.specs.Met.{IsMatched, blank}
use Rattle.ol_law_optimality.proofs.Sites.{Stands}
use Rattle.ol_law_optimality.proofs.Meeting.{app_is, lam_is, Comes, too_few}
use Rattle.ol_law_optimality.proofs.Lanes.{OnSpine, unmatched, none_met}
use Rattle.ol_law_optimality.proofs.Inside.{put_in, To, Placed, Seat, follow_in, seat}
use Rattle.ol_law_optimality.proofs.Wanted.{Asks, whole, part, IsWanted, one_step, arg_stops}
use Rattle.ol_law_optimality.specs.Labels.{Label, Labelled, erased}
use Rattle.ol_law_optimality.specs.Labels as labels
use Rattle.ol_law_meaning.specs.Sites.{Site, in_lam, in_function, in_argument, PartAt, function_at}
use Rattle.ol_term.specs.declared.translations.Translation.{Translation}
use Rattle.ol_law_optimality.specs.Signs.{Signs, signs_of}
use Rattle.ol_law_optimality.specs.Readings.{AreAlike, word_of, word_along, function_label, HeadReduces, ready}
use Rattle.ol_law_optimality.specs.Readings.{contract}
use Rattle.ol_law_optimality.proofs.HeadWords.{Step, step_of, redex_word}
use Rattle.ol_law_optimality.proofs.Sides.{site_has_one_word}
use Rattle.ol_law_optimality.proofs.Wanting.{comes_on, lift_fun, lift_arg, lift_lam}
use Rattle.ol_law_optimality.proofs.FirstHeadsPlaces.{Heads, one_left, Before, IsAt, nothing_at, By, heads_by}
use Rattle.ol_law_optimality.proofs.FirstHeadsPlaces as places

module _ (τ : Translation) where
  -- a question after one of the first n places comes to this site
  abbrev pub WantedAt : ℕ → Tree → Site → Type 0
  WantedAt n t p = (m : IsWanted τ t p) × IsAt n t m.place m.first m.rest m.asks

  -- ---- after a head step

  module _ {t t' : Tree} (h : HeadStep t t') where
    record AfterAt (n : ℕ) (y : Place) (w : Level) (d : Context) : Type 0 where
      level : Level
      same : Same τ h y w level
      asks : Asks τ t' y level d
      is_at : IsAt n t' y level d asks

    after_at : {u Q : Tree} {m i : ℕ} {x y : Place} {v w : Level} {c d : Context} (b : Level) (r : Tree) → r ≡ t' →
        (s : Steps r u m) (k : Arg u i Q) (a : Asks τ Q x v c) → StandsAt τ k empty x v c y b d →
        (l : Level) → Same τ h y w l → SameAlong τ s y l b → (n : ℕ) →
        (j : ℕ) × (n ≡ suc j) × (l : ℕ) × Before j k l × IsAt l Q x v c a → AfterAt n y w d
    after_at {u} {Q} {m} {i} {x} {y} {v} {w} {c} {d} b r e =
        subst (λ r. (s : Steps r u m) (k : Arg u i Q) (a : Asks τ Q x v c) → StandsAt τ k empty x v c y b d →
        (l : Level) → Same τ h y w l → SameAlong τ s y l b → (n : ℕ) →
        (j : ℕ) × (n ≡ suc j) × (l : ℕ) × Before j k l × IsAt l Q x v c a → AfterAt n y w d) (sym e)
        (λ s k a g l f f' n z. record { level = l; same = f; asks = part b s k a g f'; is_at = z })

  module _ {T U : Labelled} {d : Label} (k : Step τ T d U) (n : ℕ) where
    abbrev Onward : (p : Site) → IsMatched τ (erased T) p → Tree → Type 0
    Onward p m t = AreAlike (word_of T p m) (signs_of d)
        ⊎ ((q : Site) × (n : WantedAt n t q) × AreAlike (word_of T p m) (signs_of
        (function_label U q) ++ word_along U n.0.comes.matched.trail))

    goes_by : (p : Site) (y : Place) (v v' : Level) (c : Context) (m : Comes τ (erased T) (at y v c) p) →
        Same τ k.step y v v' → (a : Asks τ k.tree y v' c) → IsAt n k.tree y v' c a → Onward p m.matched k.tree
    goes_by p y v v' c m e a i = elim (comes_on k.keeps p y v v' c m e) [
      | inl r ↦ inl (redex_word τ k.keeps p m.matched r)
      | inr x ↦ inr (x.0, (record { place = y; first = v'; rest = c; asks = a; comes = x.1 }, i), x.2)
    ]

    wanted_by : (p : Site) (y : Place) (v : Level) (c : Context) (a : Asks τ (erased T) y v c) →
        IsAt n (erased T) y v c a → (m : Comes τ (erased T) (at y v c) p) → Onward p m.matched k.tree
    wanted_by p y v c (whole l e) i m = elim (least_or (outer (erased T)) l) [
      | inl few ↦ absurd (too_few p l m.steps c m.later m.level few
          (subst (λ v. Trail (Edge τ (erased T)) (at root v c) (function_at p m.level m.later) m.steps) e m.way))
      | inr enough ↦ goes_by p root v v c m (subst (λ v. Same τ k.step root v v) (sym e)
          (root_stays τ k.step l (passing (erased T) l enough))) (whole l e) i
    ]
    wanted_by p y v c (part b done a g f e) i m = absurd (arg_stops a k.step)
    wanted_by p y v c (part b (step {t' = r} h s) a g f e) i m =
        let z = one_step k.step h in
        let x = after_at k.step b r z.is s a g f e.0 (z.same τ y v e.0 e.1) e.2 n i in
        goes_by p y v x.level c m x.same x.asks x.is_at

    wanted_on : (p : Site) (m : WantedAt n (erased T) p) → AreAlike (word_of T p m.0.comes.matched) (signs_of d)
        ⊎ ((q : Site) × (n : WantedAt n (erased U) q) × AreAlike (word_of T p m.0.comes.matched)
        (word_of U q n.0.comes.matched))
    wanted_on p m = subst (Onward p m.0.comes.matched) k.is
        (wanted_by p m.0.place m.0.first m.0.rest m.0.asks m.1 m.0.comes)

  -- ---- in a head normal form

  data ArgWanted : ℕ → Tree → Site → Type 0 where
    in_last : {n l : ℕ} {R P : Tree} {p : Site} → Heads false n R l → WantedAt l P p →
        ArgWanted n (app R P) (in_argument empty p)
    in_earlier : {n : ℕ} {R Q : Tree} {p : Site} → ArgWanted n R p → ArgWanted n (app R Q) (in_function p)
    in_body : {n : ℕ} {M : Tree} {p : Site} → ArgWanted n M p → ArgWanted n (lam M) (in_lam p)

  put_wanted : {t Q : Tree} {i : ℕ} (k : Arg t i Q) (n l : ℕ) (p : Site) → Before n k l → WantedAt l Q p →
      ArgWanted n t (put_in k empty p)
  put_wanted (last s) n l p b m = in_last b m
  put_wanted (earlier s k) n l p b m = in_earlier (put_wanted k n l p b m)
  put_wanted (inner k) n l p b m = in_body (put_wanted k n l p b m)

  module _ {t Q : Tree} {i : ℕ} (k : Arg t i Q) where
    abbrev S : Seat τ Q t (StandsAt τ k empty) (put_in k empty)
    S = seat τ k empty

    -- a redex of the argument's part is one of the argument
    matched_there : (p : Site) → Stands true Q p → IsMatched τ t (put_in k empty p) → IsMatched τ Q p
    matched_there p there m =
        let r = follow_in S m.trail (S.into p empty blank) in
        let l = S.comes r.spot m.other blank (lam m.inner, m.is_other, tt) r.sit in
        let f = app_is there.0 there.2 in
        let g = lam_is l.there.0 l.there.2 in
        record {
          function = f.0;
          argument = f.1;
          is = subst (λ u. PartAt Q p u) f.2 there.1;
          other = l.site;
          inner = g.0;
          is_other = subst (λ u. PartAt Q l.site u) g.1 l.there.1;
          weight = r.weight;
          trail = subst (λ z. Trail (Edge τ Q) (function_at p empty blank) z r.weight) l.is r.trail;
        }

    at_argument : {q : Place} {a : Level} {j : ℕ} (n l : ℕ) → Normal t q a j → Before n k l →
        (p : Site) (x y : Place) (v b : Level) (c d : Context) (a : Asks τ Q x v c) → IsAt l Q x v c a →
        StandsAt τ k empty x v c y b d → Comes τ t (at y b d) p → ArgWanted n t p
    at_argument n l z o p x y v b c d a w g m =
        let r = follow_in S m.way (S.start x y v b c d g) in
        by r (let i = m.matched in S.goes r.spot p m.level m.later (app i.function i.argument, i.is, tt) r.sit)
      where
        by : (r : To τ Q S.Sit (at x v c) (function_at p m.level m.later)) →
            OnSpine t p ⊎ Placed Q (put_in k empty) r.spot p m.level m.later → ArgWanted n t p
        by r (inl e) = absurd (unmatched z p e m.matched)
        by r (inr e) = subst (ArgWanted n t) (sym e.put_is) (put_wanted k n l e.site o (
          record {
            place = x;
            first = v;
            rest = c;
            asks = a;
            comes = record {
              matched = matched_there e.site e.there (subst (IsMatched τ t) e.put_is m.matched);
              level = m.level;
              later = m.later;
              steps = r.weight;
              way = subst (λ z. Trail (Edge τ Q) (at x v c) z r.weight) e.is r.trail;
            };
          },
          w,
        ))

  arg_wanted_by : {t : Tree} {q : Place} {a : Level} {j n : ℕ} → Normal t q a j →
      (p : Site) (y : Place) (v : Level) (c : Context) (a : Asks τ t y v c) → IsAt (suc n) t y v c a →
      Comes τ t (at y v c) p → ArgWanted n t p
  arg_wanted_by {t = t} n p y v c (whole l e) i m = absurd (none_met n p (record {
    matched = m.matched;
    lams = l;
    first = c;
    level = m.level;
    later = m.later;
    steps = m.steps;
    way = subst (λ v. Trail (Edge τ t) (at root v c) (function_at p m.level m.later) m.steps) e m.way;
  }))
  arg_wanted_by {t = t} {n = k'} n p y v c (part {x = x} {v = u} {c = l} b done k a g e) (j, q, l', o, i) m =
      let z : j ≡ k' = cc in
      at_argument k k' l' n (subst (λ j. Before j k l') z o) p x y u b l c a i g
      (subst (λ v. Comes τ t (at y v c) p) e m)
  arg_wanted_by n p y v c (part b (step h s) k a g e) i m = absurd (normal_stops n h)

  -- ---- a redex with an alike word is wanted

  data Wants : Bool → ℕ → Labelled → Signs → Type 0 where
    of_whole : {n : ℕ} {T : Labelled} {g : Signs} (p : Site) (m : WantedAt n (erased T) p) →
        AreAlike (word_of T p m.0.comes.matched) g → Wants true n T g
    at_last : {n k : ℕ} {f a : Labelled} {w : Label} {g : Signs} → Heads false n (erased f) k → Wants true k a g →
        Wants false n (labels.app f a w) g
    at_earlier : {n : ℕ} {f a : Labelled} {w : Label} {g : Signs} → Wants false n f g →
        Wants false n (labels.app f a w) g
    at_body : {n : ℕ} {b : Labelled} {w : Label} {g : Signs} → Wants false n b g → Wants false n (labels.lam b w) g

  record Parted (n : ℕ) (T : Labelled) (p : Site) : Type 0 where
    matched : IsMatched τ (erased T) p
    wants : (g : Signs) → AreAlike (word_of T p matched) g → Wants false n T g

  parted : {n : ℕ} (T : Labelled) {p : Site} → ArgWanted n (erased T) p → Parted n T p
  parted (labels.app f a w) (in_last {p = q} h m) =
      let l = lift_arg τ f a w empty q m.0.comes.matched in
      record { matched = l.0; wants = λ g e. at_last h (of_whole q m (λ r x. sym (l.1 r x) ∙ e r x)) }
  parted (labels.app f a w) (in_earlier {p = q} m) =
      let k = parted f m in
      let l = lift_fun τ f a w q k.matched in
      record { matched = l.0; wants = λ g e. at_earlier (k.wants g (λ r x. sym (l.1 r x) ∙ e r x)) }
  parted (labels.lam b w) (in_body {p = q} m) =
      let k = parted b m in
      let l = lift_lam τ b w q k.matched in
      record { matched = l.0; wants = λ g e. at_body (k.wants g (λ r x. sym (l.1 r x) ∙ e r x)) }
  parted (labels.var y w) m = elim m [ ]
  parted (labels.free f w) m = elim m [ ]

  in_args : (T : Labelled) (q : Place) (a : Level) (j n : ℕ) → Normal (erased T) q a j →
      (p : Site) (m : WantedAt (suc n) (erased T) p) (g : Signs) →
      AreAlike (word_of T p m.0.comes.matched) g → Wants false n T g
  in_args T q a j n z p m g e =
      let k = parted T (arg_wanted_by z p m.0.place m.0.first m.0.rest m.0.asks m.1 m.0.comes) in
      k.wants g (λ r x. site_has_one_word τ T p k.matched m.0.comes.matched r x ∙ e r x)

  -- ---- so it is a degree

  abbrev Degree : List Label → Signs → Type 0
  Degree ws g = (e : Label) × IsIn e ws × AreAlike g (signs_of e)

  -- while head steps go on
  along : {T U : Labelled} {ds : List Label} {n : ℕ} {g : Signs} → HeadReduces T ds U → Wants true n T g →
      Degree ds g ⊎ Wants true n U g
  along ready w = inr w
  along {T = T} {U = V} {n = n} {g = g} (contract {U = U} {d = d} {ds = ds} h r) (of_whole p m e) =
      by (wanted_on (step_of τ h) n p m) (λ w. along r w)
    where
      by : AreAlike (word_of T p m.0.comes.matched) (signs_of d)
          ⊎ ((q : Site) × (z : WantedAt n (erased U) q) × AreAlike (word_of T p m.0.comes.matched)
          (word_of U q z.0.comes.matched)) → (Wants true n U g → Degree ds g ⊎ Wants true n V g) →
          Degree (d ∷ ds) g ⊎ Wants true n V g
      by (inl a) next = inl (d, inl refl, λ r x. sym (e r x) ∙ a r x)
      by (inr x) next = elim (next (of_whole x.0 x.1 (λ r y. sym (x.2 r y) ∙ e r y))) [
        | inl k ↦ inl (k.0, inr k.1, k.2)
        | inr w ↦ inr w
      ]

  at_form : {U : Labelled} {q : Place} {a : Level} {j n : ℕ} {g : Signs} → Normal (erased U) q a j →
      Wants true (suc n) U g → Wants false n U g
  at_form {U} {q} {a} {j} {n} {g} z (of_whole p m e) = in_args U q a j n z p m g e

  left_in : (ds es : List Label) (g : Signs) → Degree ds g → Degree (ds ++ es) g
  left_in ds es g k = (k.0, in_left k.0 ds es k.1, k.2)

  right_in : (ds es : List Label) (g : Signs) → Degree es g → Degree (ds ++ es) g
  right_in ds es g k = (k.0, in_right k.0 ds es k.1, k.2)

  degree_of : {b : Bool} {n m : ℕ} {T : Labelled} {ws : List Label} {g : Signs} → By b n T m ws → Wants b n T g →
      Degree ws g
  degree_of {T = T} places.not_asked (of_whole p m e) =
      absurd (nothing_at (erased T) m.0.place m.0.first m.0.rest m.0.asks m.1)
  degree_of {g = g} (places.is_asked {U = U} {n = n} {ds = ds} {es = es} r z h) w = by (along r w) (λ w. degree_of h w)
    where
      by : Degree ds g ⊎ Wants true (suc n) U g → (Wants false n U g → Degree es g) → Degree (ds ++ es) g
      by (inl k) next = left_in ds es g k
      by (inr w) next = right_in ds es g (next (at_form z w))
  degree_of places.of_var w = elim w [ ]
  degree_of places.of_free w = elim w [ ]
  degree_of (places.of_lam h) (at_body w) = degree_of h w
  degree_of {g = g} (places.of_app {k = k} {a = a} {ds = ds} {es = es} h x) (at_last {k = l} o w) =
      right_in ds es g (degree_of x (subst (λ k. Wants true k a g) (one_left o (heads_by τ h)) w))
  degree_of {g = g} (places.of_app {ds = ds} {es = es} h x) (at_earlier w) = left_in ds es g (degree_of h w)

  pub asked_degree : {n m : ℕ} {T : Labelled} {ws : List Label} → By true n T m ws → (p : Site)
      (z : WantedAt n (erased T) p) →
      (e : Label) × IsIn e ws × AreAlike (word_of T p z.0.comes.matched) (signs_of e)
  asked_degree {T = T} h p z = degree_of {g = word_of T p z.0.comes.matched} h (of_whole p z (λ r x. refl))
