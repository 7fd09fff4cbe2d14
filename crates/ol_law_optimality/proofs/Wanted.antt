-- Applications of redexes that the questions after a term's places come to: a head step keeps them,
-- but its own redex's, and those of a head normal form are its arguments'.
use Rattle.std.proofs.Common.{◌≡◌, ℕ, true, ◌⊎◌, inl, inr, refl, sym, ap, subst}
use Rattle.ol_law_meaning.specs.Contraction.{Tree, lam, app, Level, empty, Context, bound, under, Place, root}
use Rattle.ol_law_meaning.specs.Contraction.{wire, at, Edge, Trail, IsRight, HeadStep, beta, below, before}
use Rattle.ol_law_meaning.specs.Steps.{SameBelow, below_o, below_star, below_wire, SameBefore}
use Rattle.ol_law_meaning.specs.Steps.{before_root, before_left, before_right, Same}
use Rattle.ol_law_meaning.specs.Heads.{os, head_app, Normal, Steps, done, step, SameAlong, Arg, last, earlier, inner}
use Rattle.ol_law_meaning.specs.Heads.{StandsAt}
use Rattle.ol_term.specs.declared.translations.Translation.{Translation}
use Rattle.ol_law_meaning.specs.Sites.{Site, in_lam, in_function, in_argument, PartAt, function_at}
use Rattle.ol_law_optimality.specs.Met.{IsMatched, blank}
pub use Rattle.ol_law_optimality.specs.Wanted.{Asks, whole, part, IsWanted}
use Rattle.ol_law_optimality.proofs.Sites.{Stands, same_site}
use Rattle.ol_law_optimality.proofs.Heads.{step_of}
use Rattle.ol_law_optimality.proofs.Meeting.{app_is, lam_is, Comes, Becomes, goes_on, root_goes}
use Rattle.ol_law_optimality.proofs.Lanes.{OnSpine, unmatched, none_met}
use Rattle.ol_law_optimality.proofs.Inside.{put_in, To, Placed, Seat, follow_in, seat}
use Rattle.ol_law_meaning.proofs.Endless.{spine_stops, normal_stops}

-- ---- a term has one head step

pub record OneStep {t t' t'' : Tree} (h : HeadStep t t') (g : HeadStep t t'') : Type 0 where
  pub is : t'' ≡ t'
  pub same : (τ : Translation) (y : Place) (w l : Level) → Same τ g y w l → Same τ h y w l

pub below_keeps : {S S' : Place → Level → Level → Type 0} → ((y : Place) (w l : Level) → S y w l → S' y w l) →
    {y : Place} {w l : Level} → SameBelow S y w l → SameBelow S' y w l
below_keeps f (below_o {v = v} {v' = w} r) = below_o (f root v w r)
below_keeps f (below_star {a = a} {a' = b} r) = below_star (f (wire (bound 0)) a b r)
below_keeps f (below_wire {y = y} {a = a} {a' = b} r) = below_wire (f (wire (under y)) a b r)

pub before_keeps : {τ : Translation} {R R' R'' P : Tree} {S S' : Place → Level → Level → Type 0} → R'' ≡ R' →
    ((y : Place) (w l : Level) → S y w l → S' y w l) → {y : Place} {w l : Level} →
    SameBefore τ R R'' P S y w l → SameBefore τ R R' P S' y w l
before_keeps e f before_root = before_root
before_keeps e f (before_left {y = y} {a = a} {a' = b} g g' r) = before_left g g' (f (wire y) a b r)
before_keeps {τ} {P = P} e f (before_right {y = y} {w' = l} b v m g g') = before_right b v m g
    (subst (λ R. IsRight τ R P y b v l) e g')

pub one_step : {t t' t'' : Tree} (h : HeadStep t t') (g : HeadStep t t'') → OneStep h g
one_step beta beta = record { is = refl; same = λ τ y w l r. r }
one_step beta (before e g) = absurd (cc)
one_step (before e h) beta = absurd (cc)
one_step (below h) (below g) =
    let k = one_step h g in
    record { is = ap lam k.is; same = λ τ y w l r. below_keeps (k.same τ) r }
one_step (before {P = P} e h) (before f g) =
    let k = one_step h g in
    record { is = ap (λ R. app R P) k.is; same = λ τ y w l r. before_keeps k.is (k.same τ) r }

pub arg_stops : {t t' Q : Tree} {i : ℕ} → Arg t i Q → HeadStep t t' → ⊥
arg_stops (last s) h = spine_stops (head_app s refl) h
arg_stops (earlier s k) h = spine_stops (head_app s refl) h
arg_stops (inner k) (below h) = arg_stops k h

module _ (τ : Translation) {t t' : Tree} (h : HeadStep t t') where
  -- ---- after a head step

  -- where a question begins then
  pub record After (y : Place) (w : Level) (d : Context) : Type 0 where
    pub level : Level
    pub same : Same τ h y w level
    pub asks : Asks τ t' y level d

  -- whichever head step led to the argument
  pub after_part : {u Q : Tree} {m i : ℕ} {x y : Place} {v w : Level} {c d : Context} (b : Level) (r : Tree) → r ≡ t' →
      (s : Steps r u m) (k : Arg u i Q) → Asks τ Q x v c → StandsAt τ k empty x v c y b d →
      (l : Level) → Same τ h y w l → SameAlong τ s y l b → After y w d
  after_part {u} {Q} {m} {i} {x} {y} {v} {w} {c} {d} b r e =
      subst (λ r. (s : Steps r u m) (k : Arg u i Q) → Asks τ Q x v c → StandsAt τ k empty x v c y b d →
      (l : Level) → Same τ h y w l → SameAlong τ s y l b → After y w d) (sym e)
      (λ s k a g l f f'. record { level = l; same = f; asks = part b s k a g f' })

  wanted_goes_by : (p : Site) (y : Place) (v : Level) (c : Context) → Asks τ t y v c →
      Comes τ t (at y v c) p → (p ≡ (step_of τ h).redex → ⊥) →
      (q : Site) × IsWanted τ t' q × Becomes τ h p q
  wanted_goes_by p y v c (whole n e) m f =
      let x = root_goes τ h p n c (subst (λ v. Comes τ t (at root v c) p) e m) f in
      (x.0, record { place = root; first = os n empty; rest = c; asks = whole n refl; comes = x.1 }, x.2)
  wanted_goes_by p y v c (part b done k a g e) m f = absurd (arg_stops k h)
  wanted_goes_by p y v c (part b (step {t' = r} h' s) k a g e) m f =
      let z = one_step h h' in
      let f' = after_part b r z.is s k a g e.0 (z.same τ y v e.0 e.1) e.2 in
      let x = goes_on τ h p y v f'.level c f'.same m f in
      (x.0, record { place = y; first = f'.level; rest = c; asks = f'.asks; comes = x.1 }, x.2)

  pub wanted_goes : (p : Site) → IsWanted τ t p →
      (p ≡ (step_of τ h).redex) ⊎ ((q : Site) × IsWanted τ t' q × Becomes τ h p q)
  wanted_goes p m = elim (same_site p (step_of τ h).redex) [
    | inl e ↦ inl e
    | inr f ↦ inr (wanted_goes_by p m.place m.first m.rest m.asks m.comes f)
  ]

-- ---- in a head normal form

-- the site is one that is wanted in an argument, which is entered with an empty value
pub data ArgWanted (τ : Translation) : Tree → Site → Type 0 where
  in_last : {R P : Tree} {p : Site} → IsWanted τ P p → ArgWanted τ (app R P) (in_argument empty p)
  in_earlier : {R Q : Tree} {p : Site} → ArgWanted τ R p → ArgWanted τ (app R Q) (in_function p)
  in_body : {M : Tree} {p : Site} → ArgWanted τ M p → ArgWanted τ (lam M) (in_lam p)

module _ (τ : Translation) where
  put_wanted : {t Q : Tree} {i : ℕ} (k : Arg t i Q) (p : Site) → IsWanted τ Q p → ArgWanted τ t (put_in k empty p)
  put_wanted (last s) p m = in_last m
  put_wanted (earlier s k) p m = in_earlier (put_wanted k p m)
  put_wanted (inner k) p m = in_body (put_wanted k p m)

  module _ {t Q : Tree} {i : ℕ} (k : Arg t i Q) where
    abbrev S : Seat τ Q t (StandsAt τ k empty) (put_in k empty)
    S = seat τ k empty

    -- a redex of the argument's part is one of the argument
    matched_there : (p : Site) → Stands true Q p → IsMatched τ t (put_in k empty p) → IsMatched τ Q p
    matched_there p there m =
        let r = follow_in S m.trail (S.into p empty blank) in
        let l = S.comes r.spot m.other blank (lam m.inner, m.is_other, tt) r.sit in
        let f = app_is there.0 there.2 in
        let g = lam_is l.there.0 l.there.2 in
        record {
          function = f.0;
          argument = f.1;
          is = subst (λ u. PartAt Q p u) f.2 there.1;
          other = l.site;
          inner = g.0;
          is_other = subst (λ u. PartAt Q l.site u) g.1 l.there.1;
          weight = r.weight;
          trail = subst (λ z. Trail (Edge τ Q) (function_at p empty blank) z r.weight) l.is r.trail;
        }

    at_argument : {q : Place} {a : Level} {j : ℕ} → Normal t q a j →
        (p : Site) (x y : Place) (v b : Level) (c d : Context) →
        Asks τ Q x v c → StandsAt τ k empty x v c y b d → Comes τ t (at y b d) p → ArgWanted τ t p
    at_argument n p x y v b c d a g m =
        let r = follow_in S m.way (S.start x y v b c d g) in
        by r (let i = m.matched in S.goes r.spot p m.level m.later (app i.function i.argument, i.is, tt) r.sit)
      where
        by : (r : To τ Q S.Sit (at x v c) (function_at p m.level m.later)) →
            OnSpine t p ⊎ Placed Q (put_in k empty) r.spot p m.level m.later → ArgWanted τ t p
        by r (inl o) = absurd (unmatched n p o m.matched)
        by r (inr l) = subst (ArgWanted τ t) (sym l.put_is) (put_wanted k l.site (record {
          place = x;
          first = v;
          rest = c;
          asks = a;
          comes = record {
            matched = matched_there l.site l.there (subst (IsMatched τ t) l.put_is m.matched);
            level = m.level;
            later = m.later;
            steps = r.weight;
            way = subst (λ z. Trail (Edge τ Q) (at x v c) z r.weight) l.is r.trail;
          };
        }))

  arg_wanted_by : {t : Tree} {q : Place} {a : Level} {j : ℕ} → Normal t q a j →
      (p : Site) (y : Place) (v : Level) (c : Context) →
      Asks τ t y v c → Comes τ t (at y v c) p → ArgWanted τ t p
  arg_wanted_by {t = t} n p y v c (whole l e) m = absurd (none_met n p (record {
    matched = m.matched;
    lams = l;
    first = c;
    level = m.level;
    later = m.later;
    steps = m.steps;
    way = subst (λ v. Trail (Edge τ t) (at root v c) (function_at p m.level m.later) m.steps) e m.way;
  }))
  arg_wanted_by {t = t} n p y v c (part {x = x} {v = u} {c = l} b done k a g e) m =
      at_argument k n p x y u b l c a g (subst (λ v. Comes τ t (at y v c) p) e m)
  arg_wanted_by n p y v c (part b (step h s) k a g e) m = absurd (normal_stops n h)

  pub arg_wanted : {t : Tree} {q : Place} {a : Level} {j : ℕ} → Normal t q a j → (p : Site) →
      IsWanted τ t p → ArgWanted τ t p
  arg_wanted n p m = arg_wanted_by n p m.place m.first m.rest m.asks m.comes
