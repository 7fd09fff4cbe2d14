-- Each degree that head reduction contracts at one of the first places is the word of a redex that a question after one of
-- them comes to.
use Rattle.std.proofs.Common.{◌≡◌, ℕ, suc, ◌+◌, Bool, true, false, ◌++◌, ◌⊎◌, inl, inr, List, refl, sym, ap, ◌∙◌, subst}
use Rattle.std.proofs.Common.{arith, append-nil, []}
use Rattle.ol_context.specs.Contexts.{levels}
use Rattle.ol_law_edges.specs.Edges.{IsIn}
use Rattle.ol_law_edges.proofs.Lists.{in_cases}
use Rattle.ol_law_optimality.specs.Met.{IsMatched, blank}
use Rattle.ol_law_optimality.proofs.Inside.{put_in}
use Rattle.ol_law_optimality.proofs.Meeting.{Comes, too_few}
use Rattle.ol_law_optimality.proofs.Sites.{base}
use Rattle.ol_law_optimality.proofs.Wanted.{Asks, whole, part, IsWanted}
use Rattle.ol_law_meaning.specs.Heads.{os, outer, head_app, flat, layer, done, step, Arg, last, earlier, inner}
use Rattle.ol_law_meaning.specs.Contraction.{Tree, lam, Level, empty, Context, Place, root, wire, at, Edge, Trail}
use Rattle.ol_law_meaning.specs.Contraction.{HeadStep}
use Rattle.ol_law_meaning.specs.Steps.{Same}
use Rattle.ol_law_meaning.proofs.Walking.{passing, least_or, root_stays, outer_grows}
use Rattle.ol_law_optimality.specs.Labels.{Label, Labelled, erased}
use Rattle.ol_law_optimality.specs.Labels as labels
use Rattle.ol_law_meaning.specs.Sites.{Site, function_at}
use Rattle.ol_law_meaning.proofs.Trails.{tr_trans}
use Rattle.ol_term.specs.declared.translations.Translation.{Translation}
use Rattle.ol_law_optimality.specs.Signs.{Signs, signs_of}
use Rattle.ol_law_optimality.specs.Readings.{AreAlike, word_of, word_along, function_label, moved, HeadContracts}
use Rattle.ol_law_optimality.specs.Readings.{HeadReduces, ready, contract}
use Rattle.ol_law_optimality.proofs.HeadWords.{Step, step_of}
use Rattle.ol_law_optimality.proofs.Leading.{leads, silent}
use Rattle.ol_law_optimality.proofs.Wanting.{Lifted, lift_fun, lift_arg, lift_lam, IsNormalHead}
use Rattle.ol_law_optimality.proofs.DegreesWanted.{Reached, begun, place_back, Close, labelled, comes_back, deep_site}
use Rattle.ol_law_optimality.proofs.DegreesWanted.{sunk, enters, reached_up}
use Rattle.ol_law_optimality.proofs.FirstHeadsPlaces.{Heads, Before, IsAt, By, heads_by}
use Rattle.ol_law_optimality.proofs.FirstHeadsPlaces as places

module _ (τ : Translation) where
  -- ---- before a head step

  record BeforeAt (n : ℕ) {t t' : Tree} (h : HeadStep t t') (y : Place) (w : Level) (c : Context) : Type 0 where
    level : Level
    same : Same τ h y level w
    asks : Asks τ t y level c
    is_at : IsAt n t y level c asks
    close : Close τ t y level c asks
    reached : Reached τ t y level

  asks_back : (n : ℕ) {t t' : Tree} (h : HeadStep t t') (q : Site) (y : Place) (w : Level) (c : Context)
      (a : Asks τ t' y w c) → IsAt n t' y w c a → Close τ t' y w c a → Comes τ t' (at y w c) q → Reached τ t' y w →
      BeforeAt n h y w c
  asks_back j {t} {t'} h q y w c (whole n e) i f m r = elim (least_or (outer t) n) [
    | inl few ↦ absurd (
        let g = outer_grows h in
        too_few q n m.steps c m.later m.level (omega arith)
        (subst (λ v. Trail (Edge τ t') (at root v c) (function_at q m.level m.later) m.steps) e m.way))
    | inr enough ↦ record {
      level = os n empty;
      same = subst (λ w. Same τ h root (os n empty) w) (sym e) (root_stays τ h n (passing t n enough));
      asks = whole n refl;
      is_at = i;
      close = (f.0, f.1, suc f.2, step h f.3, f.4);
      reached = begun n enough refl;
    }
  ]
  asks_back j h q y w c (part b s k a g f) i z m r =
      let x = place_back τ h r in
      record {
        level = x.0;
        same = x.1;
        asks = part b (step h s) k a g (w, x.1, f);
        is_at = i;
        close = z;
        reached = x.2;
      }

  -- ---- a redex that a question after one of the first n places comes to, with a word like these signs

  pub record FoundAt (n : ℕ) (T : Labelled) (g : Signs) : Type 0 where
    pub site : Site
    pub wanted : IsWanted τ (erased T) site
    pub is_at : IsAt n (erased T) wanted.place wanted.first wanted.rest wanted.asks
    pub close : Close τ (erased T) wanted.place wanted.first wanted.rest wanted.asks
    pub reached : Reached τ (erased T) wanted.place wanted.first
    pub alike : AreAlike (word_of T site wanted.comes.matched) g

  module _ {T U : Labelled} {d : Label} (k : Step τ T d U) (m : ℕ) where
    abbrev Later : Signs → Tree → Site → Type 0
    Later g t q = (n : IsWanted τ t q) × IsAt m t n.place n.first n.rest n.asks
        × Close τ t n.place n.first n.rest n.asks × Reached τ t n.place n.first
        × AreAlike (labelled τ t U q n.comes.matched) g

    found_back : (g : Signs) → FoundAt m U g → FoundAt m T g
    found_back g F = by F.site (subst (λ t. Later g t F.site) (sym k.is)
        (F.wanted, F.is_at, F.close, F.reached, F.alike))
      where
        by : (q : Site) → Later g k.tree q → FoundAt m T g
        by q (n, i, f, r, a) =
            let b = asks_back m k.step q n.place n.first n.rest n.asks i f n.comes r in
            let y = comes_back τ k q n.place b.level n.first n.rest b.same n.comes in
            record {
              site = y.0;
              wanted = record { place = n.place; first = b.level; rest = n.rest; asks = b.asks; comes = y.1 };
              is_at = b.is_at;
              close = b.close;
              reached = b.reached;
              alike = λ r x. y.2 r x ∙ a r x;
            }

  -- the redex of a head step, which the root's question comes to
  found_redex : (n : ℕ) {T U : Labelled} {d : Label} → HeadContracts T d U → FoundAt (suc n) T (signs_of d)
  found_redex n {T} {U} {d} h =
      let r = leads τ h in
      let k = r.way empty (levels []) in
      let u = silent τ T (r.same empty blank) in
      let e : signs_of (function_label T r.site) ++ word_along T u.0 ≡ signs_of d =
      ap (λ a. signs_of (function_label T r.site) ++ a) u.1 ∙ append-nil (signs_of (function_label T r.site))
      ∙ ap signs_of r.degree in
      record {
        site = r.site;
        wanted = record {
          place = root;
          first = os (outer (erased T)) empty;
          rest = levels [];
          asks = whole (outer (erased T)) refl;
          comes = record {
            matched = record {
              function = lam r.function;
              argument = r.argument;
              is = r.is;
              other = r.other;
              inner = r.function;
              is_other = r.is_other;
              weight = 0;
              trail = u.0;
            };
            level = k.0;
            later = levels [];
            steps = k.1;
            way = k.2;
          };
        };
        is_at = (n, refl);
        close = (refl, erased T, 0, done, omega arith);
        reached = begun (outer (erased T)) (omega arith) refl;
        alike = λ r y. ap (λ a. moved r a y) e;
      }

  -- ---- in an argument of a head normal form

  record Hung (n : ℕ) (T : Labelled) (g : Signs) : Type 0 where
    index : ℕ
    term : Labelled
    is : Arg (erased T) index (erased term)
    left : ℕ
    before : Before n is left
    found : FoundAt left term g
    lifts : (p : Site) (m : IsMatched τ (erased term) p) → Lifted τ T (put_in is empty p) (word_of term p m)

  found_up : (n : ℕ) (T : Labelled) (g : Signs) → IsNormalHead τ (erased T) → Hung n T g → FoundAt (suc n) T g
  found_up j T g n h =
      let F = h.found in
      let m = F.wanted in
      let s = reached_up τ h.is n.3 F.reached in
      let x = s.stands m.rest in
      let l = h.lifts F.site m.comes.matched in
      let e = enters τ h.is m.place s.place m.first s.level m.rest x.0 x.1 in
      record {
        site = put_in h.is empty F.site;
        wanted = record {
          place = s.place;
          first = s.level;
          rest = x.0;
          asks = part s.level done h.is m.asks x.1 refl;
          comes = record {
            matched = l.0;
            level = m.comes.level;
            later = m.comes.later;
            steps = e.weight + m.comes.steps;
            way = subst (λ z. Trail (Edge τ (erased T)) (at s.place s.level x.0) z (e.weight + m.comes.steps))
                (deep_site τ h.is F.site (base true m.comes.level m.comes.later))
                (tr_trans e.trail (sunk τ h.is m.comes.way) refl);
          };
        };
        is_at = (j, refl, h.left, h.before, F.is_at);
        close = F.close;
        reached = s.reached;
        alike = λ r y. l.1 r y ∙ F.alike r y;
      }

  abbrev Gives : Bool → ℕ → Labelled → Signs → Type 0
  Gives true n T g = FoundAt n T g
  Gives false n T g = IsNormalHead τ (erased T) → Hung n T g

  hung_last : (n k : ℕ) (f a : Labelled) (w : Label) (g : Signs) → Heads false n (erased f) k → FoundAt k a g →
      Gives false n (labels.app f a w) g
  hung_last n k f a w g h F (q, l, j, flat (head_app {j = i} s e)) = record {
    index = i;
    term = a;
    is = last s;
    left = k;
    before = h;
    found = F;
    lifts = λ p m. lift_arg τ f a w empty p m;
  }

  hung_earlier : (n : ℕ) (f a : Labelled) (w : Label) (g : Signs) → Gives false n f g →
      Gives false n (labels.app f a w) g
  hung_earlier n f a w g up (q, l, j, flat (head_app {y = y} {a = b} {j = i} s e)) =
      let h = up (wire y, b, i, flat s) in
      record {
        index = h.index;
        term = h.term;
        is = earlier s h.is;
        left = h.left;
        before = h.before;
        found = h.found;
        lifts = λ p m.
            let x = h.lifts p m in
            let z = lift_fun τ f a w (put_in h.is empty p) x.0 in
            (z.0, λ r c. z.1 r c ∙ x.1 r c);
      }

  hung_body : (n : ℕ) (b : Labelled) (w : Label) (g : Signs) → Gives false n b g → Gives false n (labels.lam b w) g
  hung_body n b w g up (q, l, j, layer {p = p} {v = v} z e) =
      let h = up (p, v, j, z) in
      record {
        index = h.index;
        term = h.term;
        is = inner h.is;
        left = h.left;
        before = h.before;
        found = h.found;
        lifts = λ p m.
            let x = h.lifts p m in
            let z = lift_lam τ b w (put_in h.is empty p) x.0 in
            (z.0, λ r c. z.1 r c ∙ x.1 r c);
      }
  hung_body n b w g up (q, l, j, flat s) = elim s [ ]

  -- ---- so each degree is a word

  along_back : {T U : Labelled} {ds : List Label} {n : ℕ} {g : Signs} → HeadReduces T ds U → FoundAt n U g →
      FoundAt n T g
  along_back ready F = F
  along_back {n = n} {g = g} (contract h r) F = found_back (step_of τ h) n g (along_back r F)

  by_head : {T U : Labelled} {ds : List Label} {n : ℕ} → HeadReduces T ds U → (d : Label) → IsIn d ds →
      FoundAt (suc n) T (signs_of d)
  by_head ready d i = absurd i
  by_head {T = T} {n = n} (contract h r) d (inl e) =
      subst (λ d. FoundAt (suc n) T (signs_of d)) (sym e) (found_redex n h)
  by_head {n = n} (contract h r) d (inr i) = found_back (step_of τ h) (suc n) (signs_of d) (by_head r d i)

  found : {b : Bool} {n m : ℕ} {T : Labelled} {ws : List Label} → By b n T m ws → (d : Label) → IsIn d ws →
      Gives b n T (signs_of d)
  found places.not_asked d i = absurd i
  found {T = T} (places.is_asked {U = U} {n = n} {k = j} {q = q} {a = a} {ds = ds} {es = es} r z h) d i =
      by (in_cases d ds es i) (λ i. found h d i)
    where
      by : IsIn d ds ⊎ IsIn d es → (IsIn d es → Gives false n U (signs_of d)) → FoundAt (suc n) T (signs_of d)
      by (inl i) next = by_head r d i
      by (inr i) next = along_back r (found_up n U (signs_of d) (q, a, j, z) (next i (q, a, j, z)))
  found places.of_var d i = absurd i
  found places.of_free d i = absurd i
  found (places.of_lam {n = n} {b = b} {w = w} h) d i = hung_body n b w (signs_of d) (found h d i)
  found (places.of_app {n = n} {k = k} {f = f} {a = a} {w = w} {ds = ds} {es = es} h x) d i =
      by (in_cases d ds es i) (λ i. found h d i) (λ i. found x d i)
    where
      by : IsIn d ds ⊎ IsIn d es → (IsIn d ds → Gives false n f (signs_of d)) →
          (IsIn d es → FoundAt k a (signs_of d)) → Gives false n (labels.app f a w) (signs_of d)
      by (inl i) fun arg = hung_earlier n f a w (signs_of d) (fun i)
      by (inr i) fun arg = hung_last n k f a w (signs_of d) (heads_by τ h) (arg i)

  pub asked_found : {n m : ℕ} {T : Labelled} {ws : List Label} → By true n T m ws → (d : Label) → IsIn d ws →
      FoundAt n T (signs_of d)
  asked_found h d i = found h d i
