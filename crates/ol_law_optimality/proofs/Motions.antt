-- Signs as motions, and trails with what is read along them.
use Rattle.std.proofs.Common.{◌≡◌, ℕ, ◌+◌, true, false, not, [], ◌∷◌, ◌++◌, refl, sym, ap, ◌∙◌}
use Rattle.ol_law_optimality.specs.Labels.{Label, none, atom, over, under, joined, Labelled, lam, app}
use Rattle.ol_context.specs.Contexts.{Level}
use Rattle.ol_law_meaning.specs.Spots.{Spot, body, fun, arg, Edge, in_body, in_fun, in_arg, Trail, here, on, back}
use Rattle.ol_term.specs.Trees.{Tree}
use Rattle.ol_term.specs.Trees as trees
use Rattle.ol_term.specs.declared.translations.Translation.{Translation}
use Rattle.ol_law_optimality.specs.Signs.{letter_of, begins_over, ends_over, begins_under, ends_under, Signs, onward}
use Rattle.ol_law_optimality.specs.Signs.{reversed, signs_of}
use Rattle.ol_law_optimality.specs.Readings.{reading, word_along, Acting, moved}

module _ (r : Acting) where
  pub moved_append : (a b : Signs) (x : Signs) → moved r (a ++ b) x ≡ moved r b (moved r a x)
  moved_append [] b x = refl
  moved_append ((false, s) ∷ a) b x = moved_append a b (r.act s x)
  moved_append ((true, s) ∷ a) b x = moved_append a b (r.undo s x)

  pub moved_back : (a : Signs) (x : Signs) → moved r (reversed a) (moved r a x) ≡ x
  moved_back [] x = refl
  moved_back ((false, s) ∷ a) x = moved_append (reversed a) ((true, s) ∷ []) (moved r a (r.act s x)) ∙ ap (r.undo s) (moved_back a (r.act s x)) ∙ r.undone s x
  moved_back ((true, s) ∷ a) x = moved_append (reversed a) ((false, s) ∷ []) (moved r a (r.undo s x)) ∙ ap (r.act s) (moved_back a (r.undo s x)) ∙ r.done s x

  pub moved_there : (a : Signs) (x : Signs) → moved r a (moved r (reversed a) x) ≡ x
  moved_there [] x = refl
  moved_there ((false, s) ∷ a) x =
      ap (λ y. moved r a (r.act s y)) (moved_append (reversed a) ((true, s) ∷ []) x)
      ∙ ap (moved r a) (r.done s (moved r (reversed a) x)) ∙ moved_there a x
  moved_there ((true, s) ∷ a) x =
      ap (λ y. moved r a (r.undo s y)) (moved_append (reversed a) ((false, s) ∷ []) x)
      ∙ ap (moved r a) (r.undone s (moved r (reversed a) x)) ∙ moved_there a x

  pub reversed_append : (a b : Signs) (x : Signs) → moved r (reversed (a ++ b)) x ≡ moved r (reversed a) (moved r (reversed b) x)
  reversed_append [] b x = refl
  reversed_append (s ∷ a) b x =
      moved_append (reversed (a ++ b)) ((not s.0, s.1) ∷ []) x ∙ ap (moved r ((not s.0, s.1) ∷ [])) (reversed_append a b x)
      ∙ sym (moved_append (reversed a) ((not s.0, s.1) ∷ []) (moved r (reversed b) x))

  pub reversed_twice : (a : Signs) (x : Signs) → moved r (reversed (reversed a)) x ≡ moved r a x
  reversed_twice a x = ap (moved r (reversed (reversed a))) (sym (moved_back a x)) ∙ moved_back (reversed a) (moved r a x)

  -- what holds of words holds of them read backwards
  pub flip : (a b g h : Signs) → ((y : Signs) → moved r b (moved r g y) ≡ moved r h (moved r a y)) → (x : Signs) →
      moved r (reversed b) (moved r h x) ≡ moved r g (moved r (reversed a) x)
  flip a b g h f x =
      ap (λ x. moved r (reversed b) (moved r h x)) (sym (moved_there a x))
      ∙ ap (moved r (reversed b)) (sym (f (moved r (reversed a) x))) ∙ moved_back b (moved r g (moved r (reversed a) x))

append_group : (a b c : Signs) → (a ++ b) ++ c ≡ a ++ (b ++ c)
append_group [] b c = refl
append_group (x ∷ a) b c = ap (λ a. x ∷ a) (append_group a b c)

-- the signs of a word before another
pub signs_joined : (v w : Label) → signs_of (joined v w) ≡ signs_of v ++ signs_of w
signs_joined none w = refl
signs_joined (atom n v) w = ap (λ s. onward (letter_of n) ∷ s) (signs_joined v w)
signs_joined (over u v) w =
    ap (λ s. onward begins_over ∷ (signs_of u ++ onward ends_over ∷ s)) (signs_joined v w)
    ∙ ap (λ s. onward begins_over ∷ s) (sym (append_group (signs_of u) (onward ends_over ∷ signs_of v) (signs_of w)))
signs_joined (under u v) w =
    ap (λ s. onward begins_under ∷ (reversed (signs_of u) ++ onward ends_under ∷ s)) (signs_joined v w)
    ∙ ap (λ s. onward begins_under ∷ s) (sym (append_group (reversed (signs_of u)) (onward ends_under ∷ signs_of v) (signs_of w)))

-- ---- motions

abbrev pub Motion : Type 0
Motion = Acting → Signs → Signs

abbrev pub by : Signs → Motion
by a = λ r x. moved r a x

abbrev pub still : Motion
still = λ r x. x

abbrev pub then_by : Motion → Motion → Motion
then_by f g = λ r x. g r (f r x)

abbrev pub Same : Motion → Motion → Type 0
Same f g = (r : Acting) (x : Signs) → f r x ≡ g r x

-- a trail of t along which this is read, where L tells the labels
pub record Walks (τ : Translation) (t : Tree) (L : Labelled) (s z : Spot) (f : Motion) : Type 0 where
  pub weight : ℕ
  pub trail : Trail (Edge τ t) s z weight
  pub reads : (r : Acting) (x : Signs) → moved r (word_along L trail) x ≡ f r x

module _ {τ : Translation} where
  pub stay : {t : Tree} {L : Labelled} {s : Spot} → Walks τ t L s s still
  stay = record { weight = 0; trail = here; reads = λ r x. refl }

  pub read_as : {t : Tree} {L : Labelled} {s z : Spot} {f g : Motion} → Walks τ t L s z f → Same f g → Walks τ t L s z g
  read_as w e = record { weight = w.weight; trail = w.trail; reads = λ r x. w.reads r x ∙ e r x }

  pub along_edge : {t : Tree} {L : Labelled} {s z : Spot} {n : ℕ} → Edge τ t s z n → Walks τ t L s z (by (reading L s z))
  along_edge {L = L} {s} {z} {n} e = record { weight = n + 0; trail = on e here refl; reads = λ r x. moved_append r (reading L s z) [] x }

  pub back_edge : {t : Tree} {L : Labelled} {s z : Spot} {n : ℕ} → Edge τ t z s n → Walks τ t L s z (by (reversed (reading L z s)))
  back_edge {L = L} {s} {z} {n} e = record { weight = n + 0; trail = back e here refl; reads = λ r x. moved_append r (reversed (reading L z s)) [] x }

  pub and_on : {t : Tree} {L : Labelled} {s z y : Spot} {f g : Motion} → Walks τ t L s z f → Walks τ t L z y g → Walks τ t L s y (then_by f g)
  and_on {t} {L} {s} {z} {y} {f} {g} a b = read_as (join a.trail b) (λ r x. ap (g r) (a.reads r x))
    where
      join : {s : Spot} {n : ℕ} (u : Trail (Edge τ t) s z n) → Walks τ t L z y g → Walks τ t L s y (then_by (by (word_along L u)) g)
      join here b = b
      join (on {s = s} {s' = s'} {w = w} e u h) b =
          let k = join u b in
          record {
            weight = w + k.weight;
            trail = on e k.trail refl;
            reads = λ r x.
                moved_append r (reading L s s') (word_along L k.trail) x ∙ k.reads r (moved r (reading L s s') x)
                ∙ ap (g r) (sym (moved_append r (reading L s s') (word_along L u) x));
          }
      join (back {s = s} {s' = s'} {w = w} e u h) b =
          let k = join u b in
          record {
            weight = w + k.weight;
            trail = back e k.trail refl;
            reads = λ r x.
                moved_append r (reversed (reading L s' s)) (word_along L k.trail) x ∙ k.reads r (moved r (reversed (reading L s' s)) x)
                ∙ ap (g r) (sym (moved_append r (reversed (reading L s' s)) (word_along L u) x));
          }

  -- in a part
  pub in_the_body : {t : Tree} {L : Labelled} {s z : Spot} {f : Motion} (w : Label) → Walks τ t L s z f → Walks τ (trees.lam t) (lam L w) (body s) (body z) f
  in_the_body {t} {L} {s} {z} w a = read_as (up a.trail) a.reads
    where
      up : {s : Spot} {n : ℕ} (u : Trail (Edge τ t) s z n) → Walks τ (trees.lam t) (lam L w) (body s) (body z) (by (word_along L u))
      up here = stay
      up (on {s = s} {s' = s'} e u h) = read_as (and_on (along_edge {L = lam L w} (in_body e)) (up u)) (λ r x. sym (moved_append r (reading L s s') (word_along L u) x))
      up (back {s = s} {s' = s'} e u h) = read_as (and_on (back_edge {L = lam L w} (in_body e)) (up u)) (λ r x. sym (moved_append r (reversed (reading L s' s)) (word_along L u) x))

  pub in_the_fun : {t p : Tree} {L P : Labelled} {s z : Spot} {f : Motion} (w : Label) → Walks τ t L s z f → Walks τ (trees.app t p) (app L P w) (fun s) (fun z) f
  in_the_fun {t} {p} {L} {P} {s} {z} w a = read_as (up a.trail) a.reads
    where
      up : {s : Spot} {n : ℕ} (u : Trail (Edge τ t) s z n) → Walks τ (trees.app t p) (app L P w) (fun s) (fun z) (by (word_along L u))
      up here = stay
      up (on {s = s} {s' = s'} e u h) = read_as (and_on (along_edge {L = app L P w} (in_fun e)) (up u)) (λ r x. sym (moved_append r (reading L s s') (word_along L u) x))
      up (back {s = s} {s' = s'} e u h) = read_as (and_on (back_edge {L = app L P w} (in_fun e)) (up u)) (λ r x. sym (moved_append r (reversed (reading L s' s)) (word_along L u) x))

  pub in_the_arg : {t p : Tree} {L P : Labelled} {s z : Spot} {f : Motion} (w : Label) (v : Level) → Walks τ p P s z f → Walks τ (trees.app t p) (app L P w) (arg v s) (arg v z) f
  in_the_arg {t} {p} {L} {P} {s} {z} w v a = read_as (up a.trail) a.reads
    where
      up : {s : Spot} {n : ℕ} (u : Trail (Edge τ p) s z n) → Walks τ (trees.app t p) (app L P w) (arg v s) (arg v z) (by (word_along P u))
      up here = stay
      up (on {s = s} {s' = s'} e u h) = read_as (and_on (along_edge {L = app L P w} (in_arg e)) (up u)) (λ r x. sym (moved_append r (reading P s s') (word_along P u) x))
      up (back {s = s} {s' = s'} e u h) = read_as (and_on (back_edge {L = app L P w} (in_arg e)) (up u)) (λ r x. sym (moved_append r (reversed (reading P s' s)) (word_along P u) x))

  -- the other way round
  turned_trail : {t : Tree} {L : Labelled} {s z : Spot} {n : ℕ} (u : Trail (Edge τ t) s z n) → Walks τ t L z s (by (reversed (word_along L u)))
  turned_trail here = stay
  turned_trail {L = L} (on {s = s} {s' = s'} e u h) = read_as (and_on (turned_trail {L = L} u) (back_edge e)) (λ r x. sym (reversed_append r (reading L s s') (word_along L u) x))
  turned_trail {L = L} (back {s = s} {s' = s'} e u h) =
      read_as (and_on (turned_trail {L = L} u) (along_edge e))
      (λ r x. sym (reversed_twice r (reading L s' s) (moved r (reversed (word_along L u)) x)) ∙ sym (reversed_append r (reversed (reading L s' s)) (word_along L u) x))

  pub turned_still : {t : Tree} {L : Labelled} {s z : Spot} → Walks τ t L s z still → Walks τ t L z s still
  turned_still {L = L} w = read_as (turned_trail {L = L} w.trail)
      (λ r x. ap (moved r (reversed (word_along L w.trail))) (sym (w.reads r x)) ∙ moved_back r (word_along L w.trail) x)
