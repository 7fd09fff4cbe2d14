-- A label is told by its signs, also where neighbours that cancel are left out: its signs have none.
use Rattle.std.proofs.Common.{◌≡◌, ℕ, nat_eq, eq-eqb, eqb-true, ◌&&◌, Bool, true, false, not, if◌then◌else◌}
use Rattle.std.proofs.Common.{List, [], ◌∷◌, ◌++◌, refl, sym, ap, ◌∙◌, subst}
use Rattle.std.proofs.lemmas.Bool.{and_parts}
use Rattle.std.proofs.lemmas.List.{append_assoc}
use Rattle.ol_law_optimality.specs.Labels.{Label, none, atom, over, under, joined}
use Rattle.ol_law_optimality.specs.Signs.{Sign, letter_of, begins_over, ends_over, begins_under}
use Rattle.ol_law_optimality.specs.Signs.{ends_under, Signs, reversed, signs_of}
use Rattle.ol_law_optimality.specs.Readings.{Acting, moved, AreAlike}
use Rattle.ol_law_optimality.proofs.Putting.{joined_joined, joined_none}

-- ---- words without neighbours that cancel

abbrev same_sign : Sign → Sign → Bool
same_sign (letter_of m) (letter_of n) = nat_eq m n
same_sign begins_over begins_over = true
same_sign ends_over ends_over = true
same_sign begins_under begins_under = true
same_sign ends_under ends_under = true
same_sign _ _ = false

same_refl : (a : Sign) → same_sign a a ≡ true
same_refl (letter_of m) = eq-eqb m m refl
same_refl begins_over = refl
same_refl ends_over = refl
same_refl begins_under = refl
same_refl ends_under = refl

same_is : (a b : Sign) → same_sign a b ≡ true → a ≡ b
same_is (letter_of m) (letter_of n) e = ap letter_of (eqb-true m n e)
same_is begins_over begins_over e = refl
same_is ends_over ends_over e = refl
same_is begins_under begins_under e = refl
same_is ends_under ends_under e = refl
same_is a b e = absurd (cc)

abbrev pub turn : Bool × Sign → Bool × Sign
turn p = (not p.0, p.1)

abbrev pub cancels : Bool × Sign → Bool × Sign → Bool
cancels (false, a) (true, b) = same_sign a b
cancels (true, a) (false, b) = same_sign a b
cancels (false, a) (false, b) = false
cancels (true, a) (true, b) = false

turn_cancels : (p : Bool × Sign) → cancels (turn p) p ≡ true
turn_cancels (false, a) = same_refl a
turn_cancels (true, a) = same_refl a

cancel_is : (p q : Bool × Sign) → cancels p q ≡ true → q ≡ turn p
cancel_is (false, a) (true, b) e = ap (λ a. (true, a)) (sym (same_is a b e))
cancel_is (true, a) (false, b) e = ap (λ a. (false, a)) (sym (same_is a b e))
cancel_is (false, a) (false, b) e = absurd (cc)
cancel_is (true, a) (true, b) e = absurd (cc)

-- the sign doesn't cancel the first one
abbrev pub fits : Bool × Sign → Signs → Bool
fits p [] = true
fits p (q ∷ x) = not (cancels p q)

abbrev pub is_reduced : Signs → Bool
is_reduced [] = true
is_reduced (p ∷ x) = fits p x && is_reduced x

abbrev push : Bool × Sign → Signs → Signs
push p [] = p ∷ []
push p (q ∷ x) = if cancels p q then x else p ∷ (q ∷ x)

push_fits : (p : Bool × Sign) (x : Signs) → fits p x ≡ true → push p x ≡ p ∷ x
push_fits p [] h = refl
push_fits p (q ∷ x) h = elim (cancels p q) as (λ b. not b ≡ true → (if b then x else p ∷ (q ∷ x)) ≡ p ∷ (q ∷ x)) [
  | true ↦ λ h. absurd (cc)
  | false ↦ λ h. refl
] h

push_reduced : (p : Bool × Sign) (x : Signs) → is_reduced x ≡ true → is_reduced (push p x) ≡ true
push_reduced p [] h = refl
push_reduced p (q ∷ x) h = elim (cancels p q) as (λ b. cancels p q ≡ b →
    is_reduced (if b then x else p ∷ (q ∷ x)) ≡ true) [
      | true ↦ λ e. (and_parts (fits q x) (is_reduced x) h).1
      | false ↦ λ e. rw e h
    ] refl

push_back : (p : Bool × Sign) (x : Signs) → is_reduced x ≡ true → push (turn p) (push p x) ≡ x
push_back p [] h = rw (turn_cancels p) refl
push_back p (q ∷ x) h = elim (cancels p q) as (λ b. cancels p q ≡ b →
    push (turn p) (if b then x else p ∷ (q ∷ x)) ≡ q ∷ x) [
      | true ↦ λ e. (let same = cancel_is p q e in
          push_fits (turn p) x (subst (λ q. fits q x ≡ true) same (and_parts (fits q x) (is_reduced x) h).0)
          ∙ ap (λ q. q ∷ x) (sym same))
      | false ↦ λ e. rw (turn_cancels p) refl
    ] refl

-- a sign as a motion of such words; other words stay
abbrev put : Bool × Sign → Signs → Signs
put p x = if is_reduced x then push p x else x

put_back : (p : Bool × Sign) (x : Signs) → put (turn p) (put p x) ≡ x
put_back p x = elim (is_reduced x) as (λ b. is_reduced x ≡ b → put (turn p) (if b then push p x else x) ≡ x) [
  | true ↦ λ e. rw (push_reduced p x e) (push_back p x e)
  | false ↦ λ e. rw e refl
] refl

abbrev spelling : Acting
spelling = record {
  act = λ a x. put (false, a) x;
  undo = λ a x. put (true, a) x;
  undone = λ a x. put_back (false, a) x;
  done = λ a x. put_back (true, a) x;
}

-- the signs of the first before the second, from the last to the first
abbrev pub flipped : Signs → Signs → Signs
flipped [] x = x
flipped (p ∷ s) x = flipped s (p ∷ x)

rest_reduced : (s x : Signs) → is_reduced (flipped s x) ≡ true → is_reduced x ≡ true
rest_reduced [] x h = h
rest_reduced (p ∷ s) x h = (and_parts (fits p x) (is_reduced x) (rest_reduced s (p ∷ x) h)).1

put_fits : (p : Bool × Sign) (x : Signs) → fits p x ≡ true → is_reduced x ≡ true → put p x ≡ p ∷ x
put_fits p x f h = rw h (push_fits p x f)

moved_plain : (s x : Signs) → is_reduced (flipped s x) ≡ true → moved spelling s x ≡ flipped s x
moved_plain [] x h = refl
moved_plain ((false, a) ∷ s) x h =
    let k = and_parts (fits (false, a) x) (is_reduced x) (rest_reduced s ((false, a) ∷ x) h) in
    ap (moved spelling s) (put_fits (false, a) x k.0 k.1) ∙ moved_plain s ((false, a) ∷ x) h
moved_plain ((true, a) ∷ s) x h =
    let k = and_parts (fits (true, a) x) (is_reduced x) (rest_reduced s ((true, a) ∷ x) h) in
    ap (moved spelling s) (put_fits (true, a) x k.0 k.1) ∙ moved_plain s ((true, a) ∷ x) h

flipped_twice : (s x y : Signs) → flipped (flipped s x) y ≡ flipped x (s ++ y)
flipped_twice [] x y = refl
flipped_twice (p ∷ s) x y = flipped_twice s (p ∷ x) y

-- words without such neighbours that are alike are the same
pub alike_words : (a b : Signs) → is_reduced (flipped a []) ≡ true → is_reduced (flipped b []) ≡ true →
    AreAlike a b → a ++ [] ≡ b ++ []
alike_words a b h k e =
    sym (flipped_twice a [] [])
    ∙ ap (λ x. flipped x []) (sym (moved_plain a [] h) ∙ e spelling [] ∙ moved_plain b [] k)
    ∙ flipped_twice b [] []

-- ---- the signs of a label have none

flipped_append : (s t x : Signs) → flipped (s ++ t) x ≡ flipped t (flipped s x)
flipped_append [] t x = refl
flipped_append (p ∷ s) t x = flipped_append s t (p ∷ x)

-- backwards round one sign
flipped_round : (s : Signs) (p : Bool × Sign) (t x : Signs) →
    flipped (reversed (s ++ p ∷ t)) x ≡ flipped (reversed s) (turn p ∷ flipped (reversed t) x)
flipped_round [] p t x = flipped_append (reversed t) (turn p ∷ []) x
flipped_round (q ∷ s) p t x =
    flipped_append (reversed (s ++ p ∷ t)) (turn q ∷ []) x
    ∙ ap (λ y. turn q ∷ y) (flipped_round s p t x)
    ∙ sym (flipped_append (reversed s) (turn q ∷ []) (turn p ∷ flipped (reversed t) x))

turn_twice : (p : Bool × Sign) → turn (turn p) ≡ p
turn_twice (false, a) = refl
turn_twice (true, a) = refl

reversed_last : (s : Signs) (p : Bool × Sign) → reversed (s ++ p ∷ []) ≡ turn p ∷ reversed s
reversed_last [] p = refl
reversed_last (q ∷ s) p = ap (λ t. t ++ turn q ∷ []) (reversed_last s p)

reversed_back : (s : Signs) → reversed (reversed s) ≡ s
reversed_back [] = refl
reversed_back (p ∷ s) = reversed_last (reversed s) (turn p) ∙ ap (λ q. q ∷ reversed (reversed s)) (turn_twice p)
    ∙ ap (λ t. p ∷ t) (reversed_back s)

-- what can stand after it: a letter or a beginning; and, read backwards, a letter or an end
abbrev Opens : Signs → Type 0
Opens x = ((n : ℕ) → fits (false, letter_of n) x ≡ true) × (fits (false, begins_over) x ≡ true)
    × (fits (false, begins_under) x ≡ true)

abbrev Closes : Signs → Type 0
Closes x = ((n : ℕ) → fits (true, letter_of n) x ≡ true) × (fits (true, ends_over) x ≡ true)
    × (fits (true, ends_under) x ≡ true)

record Front (x y : Signs) : Type 0 where
  reduced : is_reduced y ≡ true
  opens : Opens y
  ends : fits (false, ends_over) x ≡ true → fits (false, ends_over) y ≡ true
  begins : fits (true, begins_under) x ≡ true → fits (true, begins_under) y ≡ true

record Rear (x y : Signs) : Type 0 where
  reduced : is_reduced y ≡ true
  closes : Closes y
  begins : fits (true, begins_over) x ≡ true → fits (true, begins_over) y ≡ true
  ends : fits (false, ends_under) x ≡ true → fits (false, ends_under) y ≡ true

-- with one sign more
more : (p : Bool × Sign) (x : Signs) → fits p x ≡ true → is_reduced x ≡ true → is_reduced (p ∷ x) ≡ true
more p x f h = rw f h

abbrev Forth : Label → Type 0
Forth v = (x : Signs) → is_reduced x ≡ true → Opens x → Front x (flipped (signs_of v) x)

abbrev Back : Label → Type 0
Back v = (x : Signs) → is_reduced x ≡ true → Closes x → Rear x (flipped (reversed (signs_of v)) x)

after_front : {x y z : Signs} → Front y z → fits (false, ends_over) y ≡ true →
    fits (true, begins_under) y ≡ true → Front x z
after_front r e b = record { reduced = r.reduced; opens = r.opens; ends = λ f. r.ends e; begins = λ f. r.begins b }

forth_over : (v w : Label) → Forth v → Forth w → Forth (over v w)
forth_over v w f g x h o =
    let y : Signs = (false, begins_over) ∷ x in
    let a = f y (more (false, begins_over) x o.1 h) (λ n. refl, refl, refl) in
    let z : Signs = (false, ends_over) ∷ flipped (signs_of v) y in
    let r = g z (more (false, ends_over) (flipped (signs_of v) y) (a.ends refl) a.reduced) (λ n. refl, refl, refl) in
    subst (Front x) (sym (flipped_append (signs_of v) ((false, ends_over) ∷ signs_of w) y)) (after_front r refl refl)

forth_under : (v w : Label) → Back v → Forth w → Forth (under v w)
forth_under v w f g x h o =
    let y : Signs = (false, begins_under) ∷ x in
    let a = f y (more (false, begins_under) x o.2 h) (λ n. refl, refl, refl) in
    let z : Signs = (false, ends_under) ∷ flipped (reversed (signs_of v)) y in
    let r = g z (more (false, ends_under) (flipped (reversed (signs_of v)) y) (a.ends refl) a.reduced)
    (λ n. refl, refl, refl) in
    subst (Front x) (sym (flipped_append (reversed (signs_of v)) ((false, ends_under) ∷ signs_of w) y))
    (after_front r refl refl)

forth_atom : (n : ℕ) (w : Label) → Forth w → Forth (atom n w)
forth_atom n w g x h o =
    after_front (g ((false, letter_of n) ∷ x) (more (false, letter_of n) x (o.0 n) h) (λ n. refl, refl, refl)) refl refl

back_atom : (n : ℕ) (w : Label) → Back w → Back (atom n w)
back_atom n w g x h c =
    let a = g x h c in
    subst (Rear x) (sym (flipped_append (reversed (signs_of w)) ((true, letter_of n) ∷ []) x)) (record {
      reduced = more (true, letter_of n) (flipped (reversed (signs_of w)) x) (a.closes.0 n) a.reduced;
      closes = (λ n. refl, refl, refl);
      begins = λ f. refl;
      ends = λ f. refl;
    })

back_over : (v w : Label) → Back v → Back w → Back (over v w)
back_over v w f g x h c =
    let a = g x h c in
    let y : Signs = (true, ends_over) ∷ flipped (reversed (signs_of w)) x in
    let b = f y (more (true, ends_over) (flipped (reversed (signs_of w)) x) a.closes.1 a.reduced) (
      λ n. refl,
      refl,
      refl,
    ) in
    subst (Rear x) (sym (flipped_append (reversed (signs_of v ++ (false, ends_over) ∷ signs_of w)) ((
      true,
      begins_over,
    ) ∷ []) x
    ∙ ap (λ y. (true, begins_over) ∷ y) (flipped_round (signs_of v) (false, ends_over) (signs_of w) x))) (record {
      reduced = more (true, begins_over) (flipped (reversed (signs_of v)) y) (b.begins refl) b.reduced;
      closes = (λ n. refl, refl, refl);
      begins = λ f. refl;
      ends = λ f. refl;
    })

back_under : (v w : Label) → Forth v → Back w → Back (under v w)
back_under v w f g x h c =
    let a = g x h c in
    let y : Signs = (true, ends_under) ∷ flipped (reversed (signs_of w)) x in
    let b = f y (more (true, ends_under) (flipped (reversed (signs_of w)) x) a.closes.2 a.reduced) (
      λ n. refl,
      refl,
      refl,
    ) in
    subst (Rear x) (sym (flipped_append (reversed (reversed (signs_of v) ++ (false, ends_under) ∷ signs_of w))
    ((true, begins_under) ∷ []) x
    ∙ ap (λ y. (true, begins_under) ∷ y) (flipped_round (reversed (signs_of v)) (false, ends_under) (signs_of w) x
    ∙ ap (λ s. flipped s y) (reversed_back (signs_of v))))) (record {
      reduced = more (true, begins_under) (flipped (signs_of v) y) (b.begins refl) b.reduced;
      closes = (λ n. refl, refl, refl);
      begins = λ f. refl;
      ends = λ f. refl;
    })

both_ways : (v : Label) → Forth v × Back v
both_ways none = (
  λ x h o. record { reduced = h; opens = o; ends = λ f. f; begins = λ f. f },
  λ x h c. record { reduced = h; closes = c; begins = λ f. f; ends = λ f. f },
)
both_ways (atom n w) = let g = both_ways w in (forth_atom n w g.0, back_atom n w g.1)
both_ways (over v w) = let f = both_ways v in let g = both_ways w in (forth_over v w f.0 g.0, back_over v w f.1 g.1)
both_ways (under v w) = let f = both_ways v in let g = both_ways w in (forth_under v w f.1 g.0, back_under v w f.0 g.1)

pub signs_reduced : (v : Label) → is_reduced (flipped (signs_of v) []) ≡ true
signs_reduced v = ((both_ways v).0 [] refl (λ n. refl, refl, refl)).reduced

-- ---- a label is told by its signs

abbrev first_of : List Label → Label
first_of [] = none
first_of (v ∷ vs) = v

abbrev rest_of : List Label → List Label
rest_of [] = []
rest_of (v ∷ vs) = vs

-- a label from its signs, with the labels round the one that is being read
abbrev read : Signs → Label → List Label → Label
read [] u vs = u
read ((false, letter_of n) ∷ s) u vs = read s (joined u (atom n none)) vs
read ((false, begins_over) ∷ s) u vs = read s none (u ∷ vs)
read ((false, ends_over) ∷ s) u vs = read s (joined (first_of vs) (over u none)) (rest_of vs)
read ((false, begins_under) ∷ s) u vs = read s none (u ∷ vs)
read ((false, ends_under) ∷ s) u vs = read s (joined (first_of vs) (under u none)) (rest_of vs)
read ((true, letter_of n) ∷ s) u vs = read s (atom n u) vs
read ((true, begins_over) ∷ s) u vs = read s (over u (first_of vs)) (rest_of vs)
read ((true, ends_over) ∷ s) u vs = read s none (u ∷ vs)
read ((true, begins_under) ∷ s) u vs = read s (under u (first_of vs)) (rest_of vs)
read ((true, ends_under) ∷ s) u vs = read s none (u ∷ vs)

abbrev ReadsOn : Label → Type 0
ReadsOn v = (c : Signs) (u : Label) (vs : List Label) → read (signs_of v ++ c) u vs ≡ read c (joined u v) vs

abbrev ReadsBack : Label → Type 0
ReadsBack v = (c : Signs) (u : Label) (vs : List Label) → read (reversed (signs_of v) ++ c) u vs ≡ read c
    (joined v u) vs

reversed_round : (s : Signs) (p : Bool × Sign) (t : Signs) → reversed (s ++ p ∷ t) ≡ reversed t ++ turn p ∷ reversed s
reversed_round [] p t = refl
reversed_round (q ∷ s) p t = ap (λ r. r ++ turn q ∷ []) (reversed_round s p t)
    ∙ append_assoc (reversed t) (turn p ∷ reversed s) (turn q ∷ [])

reads : (v : Label) → ReadsOn v × ReadsBack v
reads none = (λ c u vs. ap (λ u. read c u vs) (sym (joined_none u)), λ c u vs. refl)
reads (atom n w) = let g = reads w in (
  λ c u vs. g.0 c (joined u (atom n none)) vs ∙ ap (λ u. read c u vs) (joined_joined u (atom n none) w),
  λ c u vs. ap (λ s. read s u vs) (append_assoc (reversed (signs_of w)) ((true, letter_of n) ∷ []) c)
      ∙ g.1 ((true, letter_of n) ∷ c) u vs,
)
reads (over v w) = let f = reads v in let g = reads w in (
  λ c u vs.
      ap (λ s. read s none (u ∷ vs)) (append_assoc (signs_of v) ((false, ends_over) ∷ signs_of w) c)
      ∙ f.0 ((false, ends_over) ∷ (signs_of w ++ c)) none (u ∷ vs)
      ∙ g.0 c (joined u (over v none)) vs ∙ ap (λ u. read c u vs) (joined_joined u (over v none) w),
  λ c u vs.
      ap (λ s. read s u vs) (append_assoc (reversed (signs_of v ++ (false, ends_over) ∷ signs_of w)) ((
        true,
        begins_over,
      ) ∷ []) c
      ∙ ap (λ s. s ++ (true, begins_over) ∷ c) (reversed_round (signs_of v) (false, ends_over) (signs_of w))
      ∙ append_assoc (reversed (signs_of w)) ((true, ends_over) ∷ reversed (signs_of v)) ((true, begins_over) ∷ c))
      ∙ g.1 ((true, ends_over) ∷ (reversed (signs_of v) ++ (true, begins_over) ∷ c)) u vs
      ∙ f.1 ((true, begins_over) ∷ c) none (joined w u ∷ vs)
      ∙ ap (λ v. read c (over v (joined w u)) vs) (joined_none v),
)
reads (under v w) = let f = reads v in let g = reads w in (
  λ c u vs.
      ap (λ s. read s none (u ∷ vs)) (append_assoc (reversed (signs_of v)) ((false, ends_under) ∷ signs_of w) c)
      ∙ f.1 ((false, ends_under) ∷ (signs_of w ++ c)) none (u ∷ vs)
      ∙ ap (λ v. read (signs_of w ++ c) (joined u (under v none)) vs) (joined_none v)
      ∙ g.0 c (joined u (under v none)) vs ∙ ap (λ u. read c u vs) (joined_joined u (under v none) w),
  λ c u vs.
      ap (λ s. read s u vs) (append_assoc (reversed (reversed (signs_of v) ++ (
        false,
        ends_under,
      ) ∷ signs_of w)) ((true, begins_under) ∷ []) c
      ∙ ap (λ s. s ++ (true, begins_under) ∷ c) (reversed_round (reversed (signs_of v)) (
        false,
        ends_under,
      ) (signs_of w))
      ∙ append_assoc (reversed (signs_of w)) ((true, ends_under) ∷ reversed (reversed (signs_of v))) ((
        true,
        begins_under,
      ) ∷ c)
      ∙ ap (λ s. reversed (signs_of w) ++ (true, ends_under) ∷ (s ++ (
        true,
        begins_under,
      ) ∷ c)) (reversed_back (signs_of v)))
      ∙ g.1 ((true, ends_under) ∷ (signs_of v ++ (true, begins_under) ∷ c)) u vs
      ∙ f.0 ((true, begins_under) ∷ c) none (joined w u ∷ vs),
)

pub alike_is_one : (v w : Label) → AreAlike (signs_of v) (signs_of w) → v ≡ w
alike_is_one v w e =
    sym ((reads v).0 [] none []) ∙ ap (λ s. read s none []) (alike_words (signs_of v) (signs_of w)
    (signs_reduced v) (signs_reduced w) e)
    ∙ (reads w).0 [] none []
