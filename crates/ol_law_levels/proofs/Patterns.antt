-- Patterns of level values, and the contexts that fit two stacks of them: the levels before a place of a context, the
-- last one first, and those from there on.
use Rattle.std.proofs.Common.{◌≡◌, ℕ, zero, suc, ◌+◌, List, [], ◌∷◌, length, ◌↔◌, refl, sym, ap, ◌∙◌, subst, arith}
use Rattle.ol_context.proofs.Contexts.{eta}
use Rattle.ol_context.specs.Contexts.{Level, empty, o, star, pair, Context, cons, tail, at_level, mark, packed}
use Rattle.ol_law_meaning.proofs.States.{Before, before_all, before_arg}

-- any value; the place of a stack's rest; empty, o.u, *.u and <u,v>
pub data Pat : Type 0 where
  any : Pat
  hole : Pat
  nil : Pat
  oo : Pat → Pat
  ss : Pat → Pat
  pp : Pat → Pat → Pat

abbrev pub Matches : Pat → Level → Type 0
Matches any v = Unit {0}
Matches hole v = ⊥
Matches nil empty = Unit {0}
Matches nil (o v) = ⊥
Matches nil (star v) = ⊥
Matches nil (pair v w) = ⊥
Matches (oo u) empty = ⊥
Matches (oo u) (o v) = Matches u v
Matches (oo u) (star v) = ⊥
Matches (oo u) (pair v w) = ⊥
Matches (ss u) empty = ⊥
Matches (ss u) (o v) = ⊥
Matches (ss u) (star v) = Matches u v
Matches (ss u) (pair v w) = ⊥
Matches (pp t u) empty = ⊥
Matches (pp t u) (o v) = ⊥
Matches (pp t u) (star v) = ⊥
Matches (pp t u) (pair v w) = Matches t v × Matches u w

abbrev pub markp : ℕ → Pat → Pat
markp zero u = oo u
markp (suc s) u = ss u

abbrev pub osp : ℕ → Pat → Pat
osp zero u = u
osp (suc k) u = oo (osp k u)

-- ---- contexts

abbrev pub back : List Level → Context → Context
back [] c = c
back (v ∷ vs) c = back vs (cons v c)

pub before_back : (vs : List Level) → Before (length vs) (back vs)
before_back [] = before_all
before_back (v ∷ vs) =
    let e : length vs + 1 ≡ suc (length vs) = omega arith in
    subst (λ n. Before n (back (v ∷ vs))) e (before_arg (length vs) (back vs) v (before_back vs))

abbrev pub Fit : List Pat → List Level → Type 0
Fit [] [] = Unit {0}
Fit [] (v ∷ vs) = ⊥
Fit (x ∷ a) [] = ⊥
Fit (x ∷ a) (v ∷ vs) = Matches x v × Fit a vs

abbrev pub Below : List Pat → Context → Type 0
Below [] c = Unit {0}
Below (x ∷ r) c = Matches x (c 0) × Below r (tail c)

pub record Inst (a r : List Pat) (d : Context) : Type 0 where
  pub values : List Level
  pub rest : Context
  pub is : d ≡ back values rest
  pub fit : Fit a values
  pub below : Below r rest

pub fit_long : (a : List Pat) (vs : List Level) → Fit a vs → length vs ≡ length a
fit_long [] [] h = refl
fit_long [] (v ∷ vs) h = absurd h
fit_long (x ∷ a) [] h = absurd h
fit_long (x ∷ a) (v ∷ vs) h = ap suc (fit_long a vs h.1)

-- the place moved by one level
pub shift_in : (x : Pat) (a r : List Pat) (d : Context) → Inst (x ∷ a) r d → Inst a (x ∷ r) d
shift_in x a r d h = go h.values h.is h.fit
  where
    go : (vs : List Level) → d ≡ back vs h.rest → Fit (x ∷ a) vs → Inst a (x ∷ r) d
    go [] e f = absurd f
    go (v ∷ vs) e f = record {
      values = vs;
      rest = cons v h.rest;
      is = e;
      fit = f.1;
      below = (f.0, h.below);
    }

pub shift_out : (x : Pat) (a r : List Pat) (d : Context) → Inst a (x ∷ r) d → Inst (x ∷ a) r d
shift_out x a r d h = record {
  values = h.rest 0 ∷ h.values;
  rest = tail h.rest;
  is = h.is ∙ ap (back h.values) (sym (eta h.rest));
  fit = (h.below.0, h.fit);
  below = h.below.1;
}

-- a change at the place
pub cross_up : (a r r' : List Pat) (i : ℕ) (g : Context → Context) → length a ≡ i →
    ((c : Context) → Below r c → Below r' (g c)) → (c : Context) → Inst a r c → Inst a r' (at_level i g c)
cross_up a r r' i g e f c h =
    let long : length h.values ≡ i = fit_long a h.values h.fit ∙ e in
    record {
      values = h.values;
      rest = g h.rest;
      is = ap (at_level i g) h.is
          ∙ subst (λ i. at_level i g (back h.values h.rest) ≡ back h.values (g h.rest)) long
          ((before_back h.values).passes g h.rest);
      fit = h.fit;
      below = f h.rest h.below;
    }

pub cross_down : (a r r' : List Pat) (i : ℕ) (g : Context → Context) → length a ≡ i →
    ((c : Context) → Below r' (g c) → Below r c) → (c : Context) → Inst a r' (at_level i g c) → Inst a r c
cross_down a r r' i g e f c h =
    let long : i ≡ length h.values = sym (fit_long a h.values h.fit ∙ e) in
    let t = (before_back h.values).opens g c h.rest
    (subst (λ i. at_level i g c ≡ back h.values h.rest) long h.is) in
    record {
      values = h.values;
      rest = t.0;
      is = t.1;
      fit = h.fit;
      below = f t.0 (subst (λ c. Below r' c) (sym t.2) h.below);
    }

-- what is there after a change comes from before it
pub cross_from : (a r r' : List Pat) (i : ℕ) (g : Context → Context) → length a ≡ i →
    ((e : Context) → Below r' e → (c : Context) × Below r c × (g c ≡ e)) → (d : Context) → Inst a r' d →
    (c : Context) × Inst a r c × (at_level i g c ≡ d)
cross_from a r r' i g e f d h =
    let long : length h.values ≡ i = fit_long a h.values h.fit ∙ e in
    let t = f h.rest h.below in (
      back h.values t.0,
      record { values = h.values; rest = t.0; is = refl; fit = h.fit; below = t.1 },
      subst (λ i. at_level i g (back h.values t.0) ≡ back h.values (g t.0)) long
          ((before_back h.values).passes g t.0) ∙ ap (back h.values) t.2 ∙ sym h.is,
    )

-- ---- marks, an empty level, and a pair

pub mark_up : (s : ℕ) (u : Pat) (r : List Pat) (c : Context) → Below (u ∷ r) c → Below (markp s u ∷ r) (mark s c)
mark_up zero u r c h = h
mark_up (suc s) u r c h = h

pub mark_down : (s : ℕ) (u : Pat) (r : List Pat) (c : Context) → Below (markp s u ∷ r) (mark s c) → Below (u ∷ r) c
mark_down zero u r c h = h
mark_down (suc s) u r c h = h

pub mark_from : (s : ℕ) (u : Pat) (r : List Pat) (e : Context) → Below (markp s u ∷ r) e →
    (c : Context) × Below (u ∷ r) c × (mark s c ≡ e)
mark_from zero u r e h = go (e 0) refl h.0
  where
    go : (v : Level) → e 0 ≡ v → Matches (oo u) v → (c : Context) × Below (u ∷ r) c × (mark 0 c ≡ e)
    go empty q m = absurd m
    go (o v) q m = (cons v (tail e), (m, h.1), ap (λ v. cons v (tail e)) (sym q) ∙ eta e)
    go (star v) q m = absurd m
    go (pair v w) q m = absurd m
mark_from (suc s) u r e h = go (e 0) refl h.0
  where
    go : (v : Level) → e 0 ≡ v → Matches (ss u) v → (c : Context) × Below (u ∷ r) c × (mark (suc s) c ≡ e)
    go empty q m = absurd m
    go (o v) q m = absurd m
    go (star v) q m = (cons v (tail e), (m, h.1), ap (λ v. cons v (tail e)) (sym q) ∙ eta e)
    go (pair v w) q m = absurd m

pub nil_from : (r : List Pat) (e : Context) → Below (nil ∷ r) e → (c : Context) × Below r c × (cons empty c ≡ e)
nil_from r e h = go (e 0) refl h.0
  where
    go : (v : Level) → e 0 ≡ v → Matches nil v → (c : Context) × Below r c × (cons empty c ≡ e)
    go empty q m = (tail e, h.1, ap (λ v. cons v (tail e)) (sym q) ∙ eta e)
    go (o v) q m = absurd m
    go (star v) q m = absurd m
    go (pair v w) q m = absurd m

pub pair_from : (u v : Pat) (r : List Pat) (e : Context) → Below (pp u v ∷ r) e →
    (c : Context) × Below (v ∷ u ∷ r) c × (packed c ≡ e)
pair_from u v r e h = go (e 0) refl h.0
  where
    go : (x : Level) → e 0 ≡ x → Matches (pp u v) x → (c : Context) × Below (v ∷ u ∷ r) c × (packed c ≡ e)
    go empty q m = absurd m
    go (o x) q m = absurd m
    go (star x) q m = absurd m
    go (pair x y) q m = (
      cons y (cons x (tail e)),
      (m.1, (m.0, h.1)),
      ap (λ v. cons v (tail e)) (sym q) ∙ eta e,
    )

-- ---- all that is asked of contexts

-- an o put on a stack
abbrev pub raised : List Pat → List Pat
raised [] = oo any ∷ []
raised (u ∷ r) = oo u ∷ r

abbrev pub unknowns : ℕ → List Pat
unknowns zero = []
unknowns (suc n) = any ∷ unknowns n

pub all_fit : (n : ℕ) (d : Context) → Inst (unknowns n) [] d
all_fit zero d = record { values = []; rest = d; is = refl; fit = tt; below = tt }
all_fit (suc n) d =
    let h = all_fit n d in
    shift_out any (unknowns n) [] d
    (record { values = h.values; rest = h.rest; is = h.is; fit = h.fit; below = (tt, tt) })

abbrev pub Iff : (Context → Context) → List Pat → List Pat → List Pat → List Pat → Type 0
Iff f a' r' a r = (d : Context) → Inst a' r' (f d) ↔ Inst a r d

pub level_iff : (a r' r : List Pat) (i : ℕ) (g : Context → Context) → length a ≡ i →
    ((c : Context) → Below r' (g c) → Below r c) → ((c : Context) → Below r c → Below r' (g c)) →
    Iff (at_level i g) a r' a r
level_iff a r' r i g e f b d = (cross_down a r r' i g e f d, cross_up a r r' i g e b d)

-- with one level of them before the place
pub shifted_iff : (x' : Pat) (a r' r : List Pat) (a2 r2 : List Pat) (f : Context → Context) → Iff f a (x' ∷ r') a r →
    ((d : Context) → Inst a r d ↔ Inst a2 r2 d) → Iff f (x' ∷ a) r' a2 r2
shifted_iff x' a r' r a2 r2 f h k d = (
  λ t. (k d).0 ((h d).0 (shift_in x' a r' (f d) t)),
  λ t. shift_out x' a r' (f d) ((h d).1 ((k d).1 t)),
)

pub shift_iff : (x : Pat) (a r : List Pat) (d : Context) → Inst a (x ∷ r) d ↔ Inst (x ∷ a) r d
shift_iff x a r d = (shift_out x a r d, shift_in x a r d)

pub shift_two : (w v : Pat) (a r : List Pat) (d : Context) → Inst a (v ∷ w ∷ r) d ↔ Inst (w ∷ v ∷ a) r d
shift_two w v a r d = (
  λ t. shift_out w (v ∷ a) r d (shift_out v a (w ∷ r) d t),
  λ t. shift_in v a (w ∷ r) d (shift_in w (v ∷ a) r d t),
)

pub impossible : (a r : List Pat) (i : ℕ) (g : Context → Context) (d : Context) → length a ≡ i →
    ((c : Context) → Below r (g c) → ⊥) → Inst a r (at_level i g d) → ⊥
impossible a r i g d e f h = (cross_down a (hole ∷ []) r i g e (λ c b. absurd (f c b)) d h).below.0

-- one unknown level less, and one more
pub drop_any : (a r : List Pat) (d : Context) → Inst a (any ∷ r) d → (c : Context) × Inst a r c
drop_any a r d h = (
  back h.values (tail h.rest),
  record { values = h.values; rest = tail h.rest; is = refl; fit = h.fit; below = h.below.1 },
)

pub add_any : (a r : List Pat) (d : Context) → Inst a r d → (c : Context) × Inst a (any ∷ r) c
add_any a r d h = (
  back h.values (cons empty h.rest),
  record { values = h.values; rest = cons empty h.rest; is = refl; fit = h.fit; below = (tt, h.below) },
)
