-- The head, the arguments and the wires of a head normal form.
use Rattle.std.proofs.Common.{◌≡◌, ℕ, zero, suc, ◌+◌, ◌-◌, ◌<◌, List, [], ◌∷◌, ◌++◌, length, refl}
use Rattle.std.proofs.Common.{sym, ap, ◌∙◌, subst, arith}
use Rattle.std.proofs.lemmas.List.{length_push}
use Rattle.ol_readback.specs.Terms.{abstracted}
use Rattle.ol_law_meaning.specs.Contraction.{Tree, var, free, lam, app, Level, empty, o, star, left, Context}
use Rattle.ol_law_meaning.specs.Contraction.{Wire, bound, name, Place, root, wire}
use Rattle.ol_law_meaning.specs.Heads.{os, outer, Spine, head_var, head_free, head_app, OutOf, up_root}
use Rattle.ol_law_meaning.specs.Heads.{up_own, up_wire, Normal, flat, layer, Arg, last, earlier, inner}
use Rattle.ol_law_meaning.specs.Heads.{hat_wire, hat_left, hat_up, StandsAt}
use Rattle.ol_law_meaning.specs.Shows.{applied, IsVariable, IsHeadNormal}
use Rattle.ol_law_meaning.specs.Seen.{unders}
use Rattle.ol_law_meaning.proofs.Walking.{spine_outer, under_lam}
use Rattle.ol_term.specs.declared.translations.Translation.{Translation}

pub unders_bound : (l y : ℕ) → unders l (bound y) ≡ bound (l + y)
unders_bound zero y = ap bound (let e : y ≡ 0 + y = omega arith in e)
unders_bound (suc l) y = unders_bound l (suc y) ∙ ap bound (let e : l + suc y ≡ suc l + y = omega arith in e)

pub unders_name : (l f : ℕ) → unders l (name f) ≡ name f
unders_name zero f = refl
unders_name (suc l) f = unders_name l f

-- ---- a wire of the inside, from outside of l abstractions

-- the place and level 0 there
pub data Outs (l : ℕ) (x : Wire) : Place → Level → Type 0 where
  own : {j : ℕ} {a : Level} (d : Level) → j < l → a ≡ os j (star d) → x ≡ bound (l - suc j) → Outs l x root a
  past : {z : Wire} {a : Level} → x ≡ unders l z → Outs l x (wire z) a

outs_up : {l : ℕ} {x : Wire} {q r : Place} {a b : Level} → Outs l x q a → OutOf q a r b → Outs (suc l) x r b
outs_up {l = l} (own {j = j} d h e f) (up_root g) =
    own {j = suc j} d (omega arith) (g ∙ ap o e)
    (f ∙ ap bound (let k : l - suc j ≡ suc l - suc (suc j) = omega arith in k))
outs_up {l = l} (past {z = z} e) (up_own {a = a} g h) =
    own {j = 0} a (omega arith) h (e ∙ ap (unders l) g ∙ unders_bound l 0
    ∙ ap bound (let k : l + 0 ≡ suc l - 1 = omega arith in k))
outs_up {l = l} (past {z = z} e) (up_wire g h) = past (e ∙ ap (unders l) g)

-- ---- heads and arguments

-- the term that is a wire's variable or name
abbrev pub occurrence : Wire → Tree
occurrence (bound y) = var y
occurrence (name f) = free f

abbrev pub AreArgs : Tree → ℕ → List Tree → Type 0
AreArgs u i [] = Unit {0}
AreArgs u i (P ∷ Ps) = Arg u i P × AreArgs u (suc i) Ps

pub applied_push : (h : Tree) (Ps : List Tree) (P : Tree) → applied h (Ps ++ P ∷ []) ≡ app (applied h Ps) P
applied_push h [] P = refl
applied_push h (Q ∷ Ps) P = applied_push (app h Q) Ps P

args_before : {R : Tree} (Q : Tree) {y : Wire} {a : Level} {j : ℕ} → Spine R y a j →
    (i : ℕ) (Ps : List Tree) → AreArgs R i Ps → AreArgs (app R Q) i Ps
args_before Q s i [] h = tt
args_before Q s i (P ∷ Ps) h = (earlier s h.0, args_before Q s (suc i) Ps h.1)

args_inner : (M : Tree) (i : ℕ) (Ps : List Tree) → AreArgs M i Ps → AreArgs (lam M) i Ps
args_inner M i [] h = tt
args_inner M i (P ∷ Ps) h = (inner h.0, args_inner M (suc i) Ps h.1)

args_push : {u P : Tree} (i : ℕ) (Ps : List Tree) → AreArgs u i Ps → Arg u (i + length Ps) P →
    AreArgs u i (Ps ++ P ∷ [])
args_push {u} {P} i [] h k = (subst (λ i. Arg u i P) (let e : i + 0 ≡ i = omega arith in e) k, tt)
args_push {u} {P} i (Q ∷ Ps) h k = (
  h.0,
  args_push (suc i) Ps h.1 (subst (λ i. Arg u i P)
      (let e : i + suc (length Ps) ≡ suc i + length Ps = omega arith in e) k),
)

pub record SpineShape (t : Tree) (y : Wire) (j : ℕ) : Type 0 where
  pub args : List Tree
  pub count : length args ≡ j
  pub is : t ≡ applied (occurrence y) args
  pub each : AreArgs t 0 args

pub spine_shape : {t : Tree} {y : Wire} {a : Level} {j : ℕ} → Spine t y a j → SpineShape t y j
spine_shape head_var = record { args = []; count = refl; is = refl; each = tt }
spine_shape head_free = record { args = []; count = refl; is = refl; each = tt }
spine_shape (head_app {R = R} {P = P} {y = y} {j = j} s e) =
    let r = spine_shape s in
    let c = r.count in
    let l = length_push r.args P in
    record {
      args = r.args ++ P ∷ [];
      count = omega arith;
      is = ap (λ f. app f P) r.is ∙ sym (applied_push (occurrence y) r.args P);
      each = args_push 0 r.args (args_before P s 0 r.args r.each)
          (subst (λ i. Arg (app R P) i P) (let k : j ≡ 0 + length r.args = omega arith in k) (last s));
    }

-- a head normal form: its head's wire within its abstractions, and its arguments
pub record NormalShape (t : Tree) (q : Place) (a : Level) (j : ℕ) : Type 0 where
  pub wire_is : Wire
  pub args : List Tree
  pub count : length args ≡ j
  pub is : t ≡ abstracted (outer t) (applied (occurrence wire_is) args)
  pub each : AreArgs t 0 args
  pub outs : Outs (outer t) wire_is q a

flat_is : {t h : Tree} (n : ℕ) → n ≡ 0 → t ≡ h → t ≡ abstracted n h
flat_is {t = t} {h = h} n e f = f ∙ ap (λ n. abstracted n h) (sym e)

flat_outs : (n : ℕ) (y : Wire) (a : Level) → n ≡ 0 → Outs n y (wire y) a
flat_outs n y a e = past (sym (ap (λ n. unders n y) e))

pub normal_shape : {t : Tree} {q : Place} {a : Level} {j : ℕ} → Normal t q a j → NormalShape t q a j
normal_shape (flat {t = t} {y = y} {a = a} s) =
    let r = spine_shape s in
    record {
      wire_is = y;
      args = r.args;
      count = r.count;
      is = flat_is (outer t) (spine_outer s) r.is;
      each = r.each;
      outs = flat_outs (outer t) y a (spine_outer s);
    }
normal_shape (layer {t = t} k h) =
    let r = normal_shape k in
    record {
      wire_is = r.wire_is;
      args = r.args;
      count = r.count;
      is = ap lam r.is;
      each = args_inner t 0 r.args r.each;
      outs = outs_up r.outs h;
    }

variable_occurs : (y : Wire) → IsVariable (occurrence y)
variable_occurs (bound y) = tt
variable_occurs (name f) = tt

-- the two ways to say what a head normal form is
pub normal_is : {t : Tree} {q : Place} {a : Level} {j : ℕ} → Normal t q a j → IsHeadNormal t
normal_is {t} k = let r = normal_shape k in
    record {
      abstractions = outer t;
      head = occurrence r.wire_is;
      arguments = r.args;
      variable = variable_occurs r.wire_is;
      is = r.is;
    }

-- ---- where an argument's wires stand

past_is : {l : ℕ} {x z : Wire} {a b : Level} → Outs l x (wire z) a → Outs l x (wire z) b
past_is (past e) = past e

outs_at : {x : Wire} {z : Place} {a : Level} (n m : ℕ) → n ≡ m → Outs n x z a → Outs m x z a
outs_at {x} {z} {a} n m e h = subst (λ n. Outs n x z a) e h

-- outside of the argument's abstractions; the later levels stay, whatever they are
pub record WireStands (u : Tree) (H : Context → Context → Type 0) (x : Wire) (q : Place) (b : Level)
    (c d : Context) : Type 0 where
  pub outs : Outs (outer u) x q b
  pub rest : d ≡ c
  pub even : (e : Context) → H e e

module _ (τ : Translation) where
  pub wire_stands : {u P : Tree} {i : ℕ} (k : Arg u i P) (w : Level) (x : Wire) (v : Level)
      (c : Context) (q : Place) (b : Level) (d : Context) → StandsAt τ k w (wire x) v c q b d →
      WireStands u (λ c d. StandsAt τ k w (wire x) v c q b d) x q b c d
  wire_stands (last s) w x v c q b d (hat_wire e m f g) = record {
    outs = past (sym e);
    rest = g;
    even = λ h. hat_wire e m f refl;
  }
  wire_stands (earlier {R = R} {Q = Q} s k) w x v c q b d (hat_left {z = z} {b = a} h e) =
      let r = wire_stands k w x v c (wire z) a d h in
      record {
        outs = outs_at (outer R) 0 (spine_outer s) (past_is r.outs);
        rest = r.rest;
        even = λ f. hat_left (r.even f) e;
      }
  wire_stands (inner k) w x v c q b d (hat_up {q = p} {b = a} h e) =
      let r = wire_stands k w x v c p a d h in
      record { outs = outs_up r.outs e; rest = r.rest; even = λ f. hat_up (r.even f) e }

-- ---- from the shape back

spine_applied : {y : Wire} (Ps : List Tree) (f : Tree) (a : Level) (j : ℕ) → Spine f y a j →
    (b : Level) × (k : ℕ) × Spine (applied f Ps) y b k
spine_applied [] f a j s = (a, j, s)
spine_applied {y} (P ∷ Ps) f a j s = spine_applied Ps (app f P) (left P y a) (suc j) (head_app s refl)

normal_abstracted : (l : ℕ) (t : Tree) → (q : Place) × (a : Level) × (j : ℕ) × Normal t q a j →
    (q : Place) × (a : Level) × (j : ℕ) × Normal (abstracted l t) q a j
normal_abstracted zero t k = k
normal_abstracted (suc l) t k = let r = normal_abstracted l t k in under_lam r.0 r.3

head_spine : (h : Tree) → IsVariable h → (Ps : List Tree) →
    (q : Place) × (a : Level) × (j : ℕ) × Normal (applied h Ps) q a j
head_spine (var y) i Ps = let r = spine_applied Ps (var y) empty 0 head_var in (wire (bound y), r.0, r.1, flat r.2)
head_spine (free f) i Ps = let r = spine_applied Ps (free f) empty 0 head_free in (wire (name f), r.0, r.1, flat r.2)
head_spine (lam t) i Ps = absurd i
head_spine (app t s) i Ps = absurd i

pub normal_of : {t : Tree} → IsHeadNormal t → (q : Place) × (a : Level) × (j : ℕ) × Normal t q a j
normal_of {t} h = subst (λ t. (q : Place) × (a : Level) × (j : ℕ) × Normal t q a j) (sym h.is)
    (normal_abstracted h.abstractions (applied h.head h.arguments) (head_spine h.head h.variable h.arguments))
