-- What a term is where an order has no redex.
use Rattle.std.proofs.Common.{◌≡◌, ℕ, zero, suc, ◌<◌, ◌⊎◌, inl, inr, Bool, true, false, List, [], ◌∷◌, ◌++◌}
use Rattle.std.proofs.Common.{Option, Some, None, IsSome, refl, sym, ap, ◌∙◌, subst, arith}
use Rattle.std.specs.Prelude.{◌&&◌, if◌then◌else◌, nat_lt}
use Rattle.std.specs.Option.{option_or}
use Rattle.std.proofs.lemmas.Bool.{ltb-true, and_parts}
use Rattle.ol_term.specs.Trees.{Tree, var, free, lam, app, is_below}
use Rattle.ol_beta.specs.Leftmost.{is_abstraction, under, leftmost, IsNormal}
use Rattle.ol_beta.proofs.Redexes.{no_under, no_leftmost, leftmost_first}
use Rattle.ol_readback.specs.Terms.{abstracted}
use Rattle.ol_law_meaning.specs.Shows.{applied, IsVariable, IsHeadNormal}
use Rattle.ol_strategies.specs.Redexes.{root_if, applicative_redex, is_value, value_redex, next}
use Rattle.ol_strategies.specs.Searches.{spine_redex}
use Rattle.ol_strategies.specs.Ends.{IsNeutral, IsWeakHeadNormal, IsValue, IsStuck, HasFreeHead, IsEnd}
use Rattle.ol_strategies.specs.Laws.{NoNextIsEnd, EndIsOne, StuckAtFreeName}
use Rattle.ol_strategies.specs.declared.orders.Order as orders
use Rattle.ol_strategies.specs.declared.orders.Order.TheVariants as order
use Rattle.ol_strategies.specs.declared.orders.Reached as words
use Rattle.ol_strategies.specs.declared.orders.Reached.TheVariants as word
use Rattle.ol_strategies.proofs.Nexts.{spine_head, spine_weak, strict_applicative, no_sides, no_strict}
use Rattle.ol_law_meaning.proofs.Shapes.{applied_push}

-- ---- normal forms

pub normal_none : (t : Tree) → IsNormal t → leftmost t ≡ None
normal_none t n = go (leftmost t) refl
  where
    go : (o : Option (List ℕ)) → leftmost t ≡ o → leftmost t ≡ None
    go None e = e
    go (Some at) e =
        let h = (leftmost_first t at e).0 in
        let c : IsSome {T = Tree} None = subst (λ (o : Option Tree). IsSome o) (n at) h in
        absurd (cc)

left_parts : (b : Bool) (x y : Option (List ℕ)) → (if b then Some [] else option_or (under 1 x) (under 2 y)) ≡ None →
    (b ≡ false) × (x ≡ None) × (y ≡ None)
left_parts true x y e = absurd (cc)
left_parts false (Some b) y e = absurd (cc)
left_parts false None (Some b) e = absurd (cc)
left_parts false None None e = (refl, refl, refl)

no_parts : (x y : Option (List ℕ)) (z : Bool) → x ≡ None → y ≡ None → z ≡ false →
    option_or (under 1 x) (option_or (under 2 y) (root_if z)) ≡ None
no_parts (Some b) y z e f g = absurd (cc)
no_parts None (Some b) z e f g = absurd (cc)
no_parts None None true e f g = absurd (cc)
no_parts None None false e f g = refl

applicative_none : (t : Tree) → leftmost t ≡ None → applicative_redex t ≡ None
applicative_none (var k) e = refl
applicative_none (free k) e = refl
applicative_none (lam t) e = ap (λ (o : Option (List ℕ)). under 0 o) (applicative_none t (no_under 0 (leftmost t) e))
applicative_none (app f a) e =
    let n = left_parts (is_abstraction f) (leftmost f) (leftmost a) e in
    no_parts (applicative_redex f) (applicative_redex a) (is_abstraction f)
    (applicative_none f n.1) (applicative_none a n.2) n.0

-- ---- head normal and weak head normal forms

one_argument : (f a : Tree) → IsNeutral f → IsNeutral (app f a)
one_argument f a n = record {
  head = n.head;
  arguments = n.arguments ++ a ∷ [];
  variable = n.variable;
  is = ap (λ (g : Tree). app g a) n.is ∙ sym (applied_push n.head n.arguments a);
}

else_none : (b : Bool) (x : Option (List ℕ)) → (if b then Some [] else under 1 x) ≡ None → (b ≡ false) × (x ≡ None)
else_none true x e = absurd (cc)
else_none false x e = (refl, no_under 1 x e)

none_else : (b : Bool) (x : Option (List ℕ)) → b ≡ false → x ≡ None → (if b then Some [] else under 1 x) ≡ None
none_else true x e f = absurd (cc)
none_else false x e f = ap (λ (o : Option (List ℕ)). under 1 o) f

neutral : (below : Bool) (t : Tree) → is_abstraction t ≡ false → spine_redex below t ≡ None → IsNeutral t
neutral below (var k) n e = record { head = var k; arguments = []; variable = tt; is = refl }
neutral below (free k) n e = record { head = free k; arguments = []; variable = tt; is = refl }
neutral below (lam t) n e = absurd (cc)
neutral below (app f a) n e =
    let p = else_none (is_abstraction f) (spine_redex below f) e in
    one_argument f a (neutral below f p.0 p.1)

applied_none : (below : Bool) (Ps : List Tree) (f : Tree) → is_abstraction f ≡ false → spine_redex below f ≡ None →
    spine_redex below (applied f Ps) ≡ None
applied_none below [] f n e = e
applied_none below (P ∷ Ps) f n e = applied_none below Ps (app f P) refl
    (none_else (is_abstraction f) (spine_redex below f) n e)

variable_none : (below : Bool) (h : Tree) (Ps : List Tree) → IsVariable h → spine_redex below (applied h Ps) ≡ None
variable_none below (var k) Ps v = applied_none below Ps (var k) refl refl
variable_none below (free k) Ps v = applied_none below Ps (free k) refl refl
variable_none below (lam t) Ps v = absurd v
variable_none below (app f a) Ps v = absurd v

flat : (t : Tree) → IsNeutral t → IsHeadNormal t
flat t n = record { abstractions = 0; head = n.head; arguments = n.arguments; variable = n.variable; is = n.is }

pub head_normal : (t : Tree) → spine_redex true t ≡ None → IsHeadNormal t
head_normal (var k) e = flat (var k) (neutral true (var k) refl e)
head_normal (free k) e = flat (free k) (neutral true (free k) refl e)
head_normal (lam t) e =
    let r = head_normal t (no_under 0 (spine_redex true t) e) in
    record {
      abstractions = suc r.abstractions;
      head = r.head;
      arguments = r.arguments;
      variable = r.variable;
      is = ap lam r.is;
    }
head_normal (app f a) e = flat (app f a) (neutral true (app f a) refl e)

abstracted_none : (n : ℕ) (h : Tree) (Ps : List Tree) → IsVariable h →
    spine_redex true (abstracted n (applied h Ps)) ≡ None
abstracted_none zero h Ps v = variable_none true h Ps v
abstracted_none (suc n) h Ps v = ap (λ (o : Option (List ℕ)). under 0 o) (abstracted_none n h Ps v)

head_none : (t : Tree) → IsHeadNormal t → spine_redex true t ≡ None
head_none t h = ap (λ (x : Tree). spine_redex true x) h.is
    ∙ abstracted_none h.abstractions h.head h.arguments h.variable

pub weak_normal : (t : Tree) → spine_redex false t ≡ None → IsWeakHeadNormal t
weak_normal (var k) e = inr (neutral false (var k) refl e)
weak_normal (free k) e = inr (neutral false (free k) refl e)
weak_normal (lam t) e = inl refl
weak_normal (app f a) e = inr (neutral false (app f a) refl e)

abstraction_none : (t : Tree) → is_abstraction t ≡ true → spine_redex false t ≡ None
abstraction_none (var k) e = refl
abstraction_none (free k) e = refl
abstraction_none (lam t) e = refl
abstraction_none (app f a) e = absurd (cc)

weak_none : (t : Tree) → IsWeakHeadNormal t → spine_redex false t ≡ None
weak_none t (inl e) = abstraction_none t e
weak_none t (inr n) = ap (λ (x : Tree). spine_redex false x) n.is ∙ variable_none false n.head n.arguments n.variable

-- ---- values and stuck terms

stuck_application : (f a : Tree) → (IsValue f ⊎ IsStuck f) → (IsValue a ⊎ IsStuck a) →
    (is_abstraction f && is_value a) ≡ false → IsStuck (app f a)
stuck_application f a (inr s) A z = inl (inr s, A)
stuck_application (var k) a (inl v) A z = inl (inl tt, A)
stuck_application (free k) a (inl v) A z = inl (inl tt, A)
stuck_application (lam t) a (inl v) (inl w) z = let c : true ≡ false = sym w ∙ z in absurd (cc)
stuck_application (lam t) a (inl v) (inr s) z = inr (refl, s)
stuck_application (app f b) a (inl v) A z = absurd (cc)

pub value_or_stuck : (t : Tree) → value_redex t ≡ None → IsValue t ⊎ IsStuck t
value_or_stuck (var k) e = inl refl
value_or_stuck (free k) e = inl refl
value_or_stuck (lam t) e = inl refl
value_or_stuck (app f a) e =
    let n = no_sides (value_redex f) (value_redex a) (is_abstraction f && is_value a) e in
    inr (stuck_application f a (value_or_stuck f n.0) (value_or_stuck a n.1) n.2)

value_none : (t : Tree) → IsValue t → value_redex t ≡ None
value_none (var k) e = refl
value_none (free k) e = refl
value_none (lam t) e = refl
value_none (app f a) e = absurd (cc)

pub stuck_no_value : (t : Tree) → IsStuck t → is_value t ≡ false
stuck_no_value (var k) s = absurd s
stuck_no_value (free k) s = absurd s
stuck_no_value (lam t) s = absurd s
stuck_no_value (app f a) s = refl

stuck_no_abstraction : (t : Tree) → IsStuck t → is_abstraction t ≡ false
stuck_no_abstraction (var k) s = absurd s
stuck_no_abstraction (free k) s = absurd s
stuck_no_abstraction (lam t) s = absurd s
stuck_no_abstraction (app f a) s = refl

variable_no_abstraction : (t : Tree) → IsVariable t → (is_abstraction t ≡ false) × (value_redex t ≡ None)
variable_no_abstraction (var k) v = (refl, refl)
variable_no_abstraction (free k) v = (refl, refl)
variable_no_abstraction (lam t) v = absurd v
variable_no_abstraction (app f a) v = absurd v

and_left : (x y : Bool) → x ≡ false → (x && y) ≡ false
and_left x y e = ap (λ (x : Bool). x && y) e

and_right : (x y : Bool) → y ≡ false → (x && y) ≡ false
and_right true y e = e
and_right false y e = refl

either_none : (t : Tree) → (IsStuck t → value_redex t ≡ None) → IsValue t ⊎ IsStuck t → value_redex t ≡ None
either_none t T (inl v) = value_none t v
either_none t T (inr s) = T s

stuck_parts : (f a : Tree) → (IsStuck f → value_redex f ≡ None) → (IsStuck a → value_redex a ≡ None) →
    IsStuck (app f a) → value_redex (app f a) ≡ None
stuck_parts f a F A (inl (inl v, x)) =
    let n = variable_no_abstraction f v in
    no_parts (value_redex f) (value_redex a) (is_abstraction f && is_value a) n.1 (either_none a A x)
    (and_left (is_abstraction f) (is_value a) n.0)
stuck_parts f a F A (inl (inr s, x)) =
    no_parts (value_redex f) (value_redex a) (is_abstraction f && is_value a) (F s) (either_none a A x)
    (and_left (is_abstraction f) (is_value a) (stuck_no_abstraction f s))
stuck_parts f a F A (inr (e, s)) =
    no_parts (value_redex f) (value_redex a) (is_abstraction f && is_value a) (no_body f e) (A s)
    (and_right (is_abstraction f) (is_value a) (stuck_no_value a s))
  where
    no_body : (t : Tree) → is_abstraction t ≡ true → value_redex t ≡ None
    no_body (var k) e = refl
    no_body (free k) e = refl
    no_body (lam t) e = refl
    no_body (app g b) e = absurd (cc)

pub stuck_none : (t : Tree) → IsStuck t → value_redex t ≡ None
stuck_none (var k) s = absurd s
stuck_none (free k) s = absurd s
stuck_none (lam t) s = absurd s
stuck_none (app f a) s = stuck_parts f a (stuck_none f) (stuck_none a) s

pub no_less : (k : ℕ) → nat_lt k 0 ≡ true → ⊥
no_less k e = let l : k < 0 = ltb-true k 0 e in omega arith

free_head : (f a : Tree) → (IsStuck f → is_below 0 f ≡ true → HasFreeHead f) →
    (IsStuck a → is_below 0 a ≡ true → HasFreeHead a) → IsStuck (app f a) →
    (is_below 0 f ≡ true) × (is_below 0 a ≡ true) → HasFreeHead (app f a)
free_head (var k) a F A (inl (inl v, x)) e = absurd (no_less k e.0)
free_head (free k) a F A (inl (inl v, x)) e = inl tt
free_head (lam t) a F A (inl (inl v, x)) e = absurd v
free_head (app g b) a F A (inl (inl v, x)) e = absurd v
free_head f a F A (inl (inr s, x)) e = inr (inl (F s e.0))
free_head f a F A (inr (i, s)) e = inr (inr (A s e.1))

pub stuck_at_free_name : StuckAtFreeName
stuck_at_free_name (var k) s e = absurd s
stuck_at_free_name (free k) s e = absurd s
stuck_at_free_name (lam t) s e = absurd s
stuck_at_free_name (app f a) s e = free_head f a (stuck_at_free_name f) (stuck_at_free_name a) s
    (and_parts (is_below 0 f) (is_below 0 a) e)

-- ---- the words

-- the one word that fits
abbrev pub word_of : orders.Order → Tree → words.Reached
word_of order.Leftmost t = word.Normal
word_of order.Head t = word.HeadNormal
word_of order.WeakHead t = word.WeakHeadNormal
word_of order.Applicative t = word.Normal
word_of order.Value t = if is_value t then word.Value else word.Stuck

value_end : (t : Tree) → IsValue t ⊎ IsStuck t → IsEnd order.Value t (word_of order.Value t)
value_end t (inl v) = subst (λ (b : Bool). IsEnd order.Value t (if b then word.Value else word.Stuck)) (sym v) v
value_end t (inr s) = subst (λ (b : Bool). IsEnd order.Value t (if b then word.Value else word.Stuck))
    (sym (stuck_no_value t s)) s

ends_by : (o : orders.Order) (t : Tree) → next o t ≡ None → IsEnd o t (word_of o t)
ends_by order.Leftmost t e = no_leftmost t e
ends_by order.Head t e = head_normal t (spine_head t ∙ e)
ends_by order.WeakHead t e = weak_normal t (spine_weak t ∙ e)
ends_by order.Applicative t e = no_leftmost t (no_strict t (strict_applicative t ∙ e))
ends_by order.Value t e = value_end t (value_or_stuck t e)

pub ends_as : (o p : orders.Order) (t : Tree) → o ≡ p → next o t ≡ None → IsEnd o t (word_of p t)
ends_as o p t e n = subst (λ (p : orders.Order). IsEnd o t (word_of p t)) e (ends_by o t n)

pub ends_stuck : (o : orders.Order) (t : Tree) → o ≡ order.Value → is_value t ≡ false → next o t ≡ None →
    IsEnd o t word.Stuck
ends_stuck o t e f n = subst (λ (b : Bool). IsEnd o t (if b then word.Value else word.Stuck)) f
    (ends_as o order.Value t e n)

back : (o : orders.Order) (t : Tree) (w : words.Reached) → IsEnd o t w → next o t ≡ None
back order.Leftmost t word.Normal h = normal_none t h
back order.Leftmost t word.HeadNormal h = absurd h
back order.Leftmost t word.WeakHeadNormal h = absurd h
back order.Leftmost t word.Value h = absurd h
back order.Leftmost t word.Stuck h = absurd h
back order.Head t word.Normal h = absurd h
back order.Head t word.HeadNormal h = sym (spine_head t) ∙ head_none t h
back order.Head t word.WeakHeadNormal h = absurd h
back order.Head t word.Value h = absurd h
back order.Head t word.Stuck h = absurd h
back order.WeakHead t word.Normal h = absurd h
back order.WeakHead t word.HeadNormal h = absurd h
back order.WeakHead t word.WeakHeadNormal h = sym (spine_weak t) ∙ weak_none t h
back order.WeakHead t word.Value h = absurd h
back order.WeakHead t word.Stuck h = absurd h
back order.Applicative t word.Normal h = applicative_none t (normal_none t h)
back order.Applicative t word.HeadNormal h = absurd h
back order.Applicative t word.WeakHeadNormal h = absurd h
back order.Applicative t word.Value h = absurd h
back order.Applicative t word.Stuck h = absurd h
back order.Value t word.Normal h = absurd h
back order.Value t word.HeadNormal h = absurd h
back order.Value t word.WeakHeadNormal h = absurd h
back order.Value t word.Value h = value_none t h
back order.Value t word.Stuck h = stuck_none t h

pub no_next_is_end : NoNextIsEnd
no_next_is_end o t = (λ e. (word_of o t, ends_by o t e), λ r. back o t r.0 r.1)

is_word : (o : orders.Order) (t : Tree) (w : words.Reached) → IsEnd o t w → w ≡ word_of o t
is_word order.Leftmost t word.Normal h = refl
is_word order.Leftmost t word.HeadNormal h = absurd h
is_word order.Leftmost t word.WeakHeadNormal h = absurd h
is_word order.Leftmost t word.Value h = absurd h
is_word order.Leftmost t word.Stuck h = absurd h
is_word order.Head t word.Normal h = absurd h
is_word order.Head t word.HeadNormal h = refl
is_word order.Head t word.WeakHeadNormal h = absurd h
is_word order.Head t word.Value h = absurd h
is_word order.Head t word.Stuck h = absurd h
is_word order.WeakHead t word.Normal h = absurd h
is_word order.WeakHead t word.HeadNormal h = absurd h
is_word order.WeakHead t word.WeakHeadNormal h = refl
is_word order.WeakHead t word.Value h = absurd h
is_word order.WeakHead t word.Stuck h = absurd h
is_word order.Applicative t word.Normal h = refl
is_word order.Applicative t word.HeadNormal h = absurd h
is_word order.Applicative t word.WeakHeadNormal h = absurd h
is_word order.Applicative t word.Value h = absurd h
is_word order.Applicative t word.Stuck h = absurd h
is_word order.Value t word.Normal h = absurd h
is_word order.Value t word.HeadNormal h = absurd h
is_word order.Value t word.WeakHeadNormal h = absurd h
is_word order.Value t word.Value h = sym (ap (λ (b : Bool). if b then word.Value else word.Stuck) h)
is_word order.Value t word.Stuck h = sym (ap (λ (b : Bool). if b then word.Value else word.Stuck) (stuck_no_value t h))

pub end_is_one : EndIsOne
end_is_one o t v w h k = is_word o t v h ∙ sym (is_word o t w k)
