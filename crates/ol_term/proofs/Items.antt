-- What is still to be printed, step by step.
use Rattle.std.proofs.Common.{◌≡◌, ℕ, ◌+◌, ◌<◌, ◌≤◌, Bool, true, false, List, [], ◌∷◌, ◌++◌, length}
use Rattle.std.proofs.Common.{refl, sym, ap, ◌∙◌, subst, arith, append_assoc}
use Rattle.std.proofs.lemmas.Bool.{and_parts}
use Rattle.std.proofs.lemmas.List.{append-nil}
use Rattle.std.specs.Prelude.{not, max, if◌then◌else◌}
use Rattle.ol_term.specs.Trees.{Tree, var, free, lam, app, is_below, is_named_below, term_size, depth}
use Rattle.ol_term.specs.Texts.{in_brackets}
use Rattle.ol_term.specs.Printing.{left_bracket, closing, bracketed, item_text, items_text}
use Rattle.ol_term.specs.Printing.{IsPrintable, IsItem, AreItems, weight, weights, IsStep}
use Rattle.ol_term.specs.declared.printing.Todo.{Todo}
use Rattle.ol_term.specs.declared.printing.Todo.TheVariants as todo

-- no more stand one within another than there are
pub depth_small : (t : Tree) → depth t ≤ term_size t
depth_small (var k) = omega arith
depth_small (free k) = omega arith
depth_small (lam t) = let a = depth_small t in omega arith
depth_small (app f a) = let b = depth_small f in let c = depth_small a in grind arith

-- ---- parts that can be printed

pub body_printable : (c n : ℕ) (t u : Tree) → t ≡ lam u → IsPrintable c n t → IsPrintable c (n + 1) u
body_printable c n t u e p =
    let q : IsPrintable c n (lam u) = subst (λ (t : Tree). IsPrintable c n t) e p in
    let s = q.short in
    record { bound = q.bound; named = q.named; short = omega arith }

pub function_printable : (c n : ℕ) (t f a : Tree) → t ≡ app f a → IsPrintable c n t → IsPrintable c n f
function_printable c n t f a e p =
    let q : IsPrintable c n (app f a) = subst (λ (t : Tree). IsPrintable c n t) e p in
    let s : n + (1 + max (depth f) (depth a)) ≤ 4294967295 = q.short in
    record {
      bound = (and_parts (is_below n f) (is_below n a) q.bound).0;
      named = (and_parts (is_named_below c f) (is_named_below c a) q.named).0;
      short = grind arith;
    }

pub argument_printable : (c n : ℕ) (t f a : Tree) → t ≡ app f a → IsPrintable c n t → IsPrintable c n a
argument_printable c n t f a e p =
    let q : IsPrintable c n (app f a) = subst (λ (t : Tree). IsPrintable c n t) e p in
    let s : n + (1 + max (depth f) (depth a)) ≤ 4294967295 = q.short in
    record {
      bound = (and_parts (is_below n f) (is_below n a) q.bound).1;
      named = (and_parts (is_named_below c f) (is_named_below c a) q.named).1;
      short = grind arith;
    }

-- ---- one more item

items_push : (names : List (List ℕ)) (xs : List Todo) (x : Todo) →
    items_text names (xs ++ x ∷ []) ≡ item_text names x ++ items_text names xs
items_push names [] x = sym (append-nil (item_text names x))
items_push names (y ∷ ys) x = ap (λ z. z ++ item_text names y) (items_push names ys x)
    ∙ append_assoc (item_text names x) (items_text names ys) (item_text names y)

pub are_push : (c : ℕ) (xs : List Todo) (x : Todo) → AreItems c xs → IsItem c x → AreItems c (xs ++ x ∷ [])
are_push c [] x h i = (i, tt)
are_push c (y ∷ ys) x h i = (h.0, are_push c ys x h.1 i)

weights_push : (xs : List Todo) (x : Todo) → weights (xs ++ x ∷ []) ≡ weight x + weights xs
weights_push [] x = refl
weights_push (y ∷ ys) x = let h = weights_push ys x in omega arith

-- ---- steps

-- all of it is printed
pub flat_step : (names : List (List ℕ)) (x x1 x2 a b text : List ℕ) (os os' : List Todo) (w : ℕ) →
    x1 ≡ x ++ a → x2 ≡ x1 ++ b → text ≡ a ++ b → os' ≡ os → 0 < w → AreItems (length names) os →
    IsStep names x os text w x2 os'
flat_step names x x1 x2 a b text os os' w p q e o h i =
    subst (λ (z : List Todo). IsStep names x os text w x2 z) (sym o) (record {
      text_is =
          ap (λ (z : List ℕ). z ++ items_text names os)
          (q ∙ ap (λ (z : List ℕ). z ++ b) p ∙ append_assoc x a b ∙ ap (λ (z : List ℕ). x ++ z) (sym e))
          ∙ append_assoc x text (items_text names os);
      whole = i;
      less = omega arith;
    })

-- an item is left
pub one_step : (names : List (List ℕ)) (x x1 x2 a b text rest : List ℕ) (os os' : List Todo)
    (item : Todo) (w : ℕ) → x1 ≡ x ++ a → x2 ≡ x1 ++ b → os' ≡ os ++ item ∷ [] →
    item_text names item ≡ rest → text ≡ a ++ (b ++ rest) → IsItem (length names) item → weight item < w →
    AreItems (length names) os → IsStep names x os text w x2 os'
one_step names x x1 x2 a b text rest os os' item w p q o r e k h i =
    subst (λ (z : List Todo). IsStep names x os text w x2 z) (sym o) (record {
      text_is =
          ap (λ (z : List ℕ). z ++ items_text names (os ++ item ∷ [])) (q ∙ ap (λ (z : List ℕ). z ++ b) p)
          ∙ ap (λ (z : List ℕ). ((x ++ a) ++ b) ++ z)
          (items_push names os item ∙ ap (λ (z : List ℕ). z ++ items_text names os) r)
          ∙ shift x a b rest (items_text names os)
          ∙ ap (λ (z : List ℕ). x ++ (z ++ items_text names os)) (sym e);
      whole = are_push (length names) os item i k;
      less = let v = weights_push os item in omega arith;
    })
  where
    shift : (x a b c d : List ℕ) → ((x ++ a) ++ b) ++ (c ++ d) ≡ x ++ ((a ++ (b ++ c)) ++ d)
    shift x a b c d = simp append_assoc

-- the text of a bracket that is closed later
closing_text : (names : List (List ℕ)) (b : Bool) (os : List Todo) (x : List ℕ) →
    left_bracket b ++ (x ++ items_text names (os ++ closing b)) ≡
    (if b then in_brackets x else x) ++ items_text names os
closing_text names true os x = ap (λ (z : List ℕ). 40 ∷ (x ++ z)) (items_push names os todo.Close)
    ∙ ap (λ (z : List ℕ). 40 ∷ z) (sym (append_assoc x (41 ∷ []) (items_text names os)))
closing_text names false os x = ap (λ (z : List Todo). x ++ items_text names z) (append-nil os)

closing_are : (c : ℕ) (b : Bool) (os : List Todo) → AreItems c os → AreItems c (os ++ closing b)
closing_are c true os i = are_push c os todo.Close i tt
closing_are c false os i = subst (AreItems c) (sym (append-nil os)) i

closing_weights : (b : Bool) (os : List Todo) → weights (os ++ closing b) ≤ 1 + weights os
closing_weights true os = let h = weights_push os todo.Close in omega arith
closing_weights false os = let h = ap weights (append-nil os) in omega arith

-- a term in brackets, or without them, after some text
pub open_step : (names : List (List ℕ)) (x x1 x2 a text inner : List ℕ) (os os1 os2 : List Todo)
    (b : Bool) (item : Todo) (w : ℕ) → x1 ≡ x ++ a → x2 ≡ x1 ++ left_bracket b →
    os1 ≡ os ++ closing b → os2 ≡ os1 ++ item ∷ [] → item_text names item ≡ inner →
    text ≡ a ++ (if b then in_brackets inner else inner) → IsItem (length names) item →
    1 + weight item < w → AreItems (length names) os → IsStep names x os text w x2 os2
open_step names x x1 x2 a text inner os os1 os2 b item w p q o m r e k h i =
    subst (λ (z : List Todo). IsStep names x os text w x2 z)
    (sym (m ∙ ap (λ (z : List Todo). z ++ item ∷ []) o)) (record {
      text_is =
          ap (λ (z : List ℕ). z ++ items_text names ((os ++ closing b) ++ item ∷ []))
          (q ∙ ap (λ (z : List ℕ). z ++ left_bracket b) p)
          ∙ ap (λ (z : List ℕ). ((x ++ a) ++ left_bracket b) ++ z)
          (items_push names (os ++ closing b) item ∙ ap (λ (z : List ℕ). z ++ items_text names (os ++ closing b)) r)
          ∙ shift x a (left_bracket b) (inner ++ items_text names (os ++ closing b))
          ∙ ap (λ (z : List ℕ). x ++ (a ++ z)) (closing_text names b os inner)
          ∙ ap (λ (z : List ℕ). x ++ z) (sym (append_assoc a
          (if b then in_brackets inner else inner) (items_text names os)))
          ∙ ap (λ (z : List ℕ). x ++ (z ++ items_text names os)) (sym e);
      whole = are_push (length names) (os ++ closing b) item (closing_are (length names) b os i) k;
      less = let v = weights_push (os ++ closing b) item in let u = closing_weights b os in omega arith;
    })
  where
    shift : (x a b c : List ℕ) → ((x ++ a) ++ b) ++ c ≡ x ++ (a ++ (b ++ c))
    shift x a b c = simp append_assoc

-- an application, whose argument is left for later
pub app_step : (names : List (List ℕ)) (x x1 x2 a f g text : List ℕ) (os os1 os2 os3 : List Todo)
    (b : Bool) (item first : Todo) (w : ℕ) → x1 ≡ x ++ a → os1 ≡ os ++ item ∷ [] →
    x2 ≡ x1 ++ left_bracket b → os2 ≡ os1 ++ closing b → os3 ≡ os2 ++ first ∷ [] →
    item_text names item ≡ g → item_text names first ≡ f →
    text ≡ a ++ ((if b then in_brackets f else f) ++ g) → IsItem (length names) item →
    IsItem (length names) first → 1 + weight item + weight first < w →
    AreItems (length names) os → IsStep names x os text w x2 os3
app_step names x x1 x2 a f g text os os1 os2 os3 b item first w p o q m n r s e k l h i =
    let v = weights_push os item in
    let j : AreItems (length names) os1 = subst (AreItems (length names)) (sym o)
    (are_push (length names) os item i k) in
    let d : IsStep names x os1 (a ++ (if b then in_brackets f else f))
    (2 + weight first) x2 os3 = open_step names x x1 x2 a
    (a ++ (if b then in_brackets f else f)) f os1 os2 os3 b first
    (2 + weight first) p q m n s refl l (omega arith) j in
    let u = d.less in
    let z = ap weights o in
    record {
      text_is =
          d.text_is
          ∙ ap (λ (z : List Todo). x ++ ((a ++ (if b then in_brackets f else f)) ++ items_text names z)) o
          ∙ ap (λ (z : List ℕ). x ++ ((a ++ (if b then in_brackets f else f)) ++ z))
          (items_push names os item ∙ ap (λ (z : List ℕ). z ++ items_text names os) r)
          ∙ shift x a (if b then in_brackets f else f) g (items_text names os)
          ∙ ap (λ (z : List ℕ). x ++ (z ++ items_text names os)) (sym e);
      whole = d.whole;
      less = omega arith;
    }
  where
    shift : (x a b c d : List ℕ) → x ++ ((a ++ b) ++ (c ++ d)) ≡ x ++ ((a ++ (b ++ c)) ++ d)
    shift x a b c d = simp append_assoc

-- an argument's brackets
pub flipped : (v : Bool) (x : List ℕ) → bracketed v x ≡ (if not v then in_brackets x else x)
flipped true x = refl
flipped false x = refl

-- ---- taking an item

pub are_pop : (c : ℕ) (ys xs : List Todo) (x : Todo) → ys ≡ xs ++ x ∷ [] → AreItems c ys → AreItems c xs × IsItem c x
are_pop c ys xs x e h = go xs (subst (AreItems c) e h)
  where
    go : (xs : List Todo) → AreItems c (xs ++ x ∷ []) → AreItems c xs × IsItem c x
    go [] h = (tt, h.0)
    go (y ∷ ys) h = let r = go ys h.1 in ((h.0, r.0), r.1)

pub weights_pop : (ys xs zs : List Todo) (x : Todo) → ys ≡ xs ++ x ∷ [] →
    weights zs < weight x + weights xs → weights zs < weights ys
weights_pop ys xs zs x e h = let a = ap weights e in let b = weights_push xs x in omega arith

pub text_pop : (names : List (List ℕ)) (x x' whole : List ℕ) (ys xs zs : List Todo) (item : Todo) →
    ys ≡ xs ++ item ∷ [] → x ++ items_text names ys ≡ whole →
    IsStep names x xs (item_text names item) (weight item) x' zs → x' ++ items_text names zs ≡ whole
text_pop names x x' whole ys xs zs item e w s = s.text_is
    ∙ ap (λ (z : List ℕ). x ++ z) (sym (ap (items_text names) e ∙ items_push names xs item)) ∙ w
