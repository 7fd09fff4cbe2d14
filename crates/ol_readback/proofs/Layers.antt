-- Heads whose arguments are still to be printed, one within another.
use Rattle.std.proofs.Common.{◌≡◌, ℕ, zero, suc, ◌+◌, ◌-◌, ◌<◌, ◌≤◌, inl, inr, Bool, true, false}
use Rattle.std.proofs.Common.{List, [], ◌∷◌, ◌++◌, length, Option, Some, None, MatchOption, refl}
use Rattle.std.proofs.Common.{sym, ap, ◌∙◌, subst, arith, append_assoc, length-append}
use Rattle.std.proofs.lemmas.List.{append-nil, length_push}
use Rattle.ol_readback.specs.Whole.{Part, term, lost, cut, none, more, count, preorder, IsInScope, IsBound}
use Rattle.ol_term.specs.BinderNames.{binder_name}
use Rattle.ol_readback.specs.Texts.{rounds, spaced, is_bare, bracketed, part_text}
use Rattle.ol_readback.specs.Printing.{IsSeenVar, wants_bracket, left_bracket, right_bracket, Takes}
use Rattle.ol_readback.specs.Printing.{done, takes, closes}
use Rattle.ol_readback.specs.declared.answers.HeadVar.{HeadVar}
use Rattle.ol_readback.specs.declared.answers.HeadVar.TheVariants as var
use Rattle.ol_readback.specs.declared.answers.ReadNode.{ReadNode}
use Rattle.ol_readback.specs.declared.answers.ReadNode.TheVariants as node
use Rattle.ol_readback.specs.declared.printing.Open.{Open}

-- names with spaces, one after another
pub spaced_on : (names : List (List ℕ)) (x y z : List ℕ) (t k l b : ℕ) → k < l → y ≡ x ++ 32 ∷ [] →
    b ≡ t + k → z ≡ y ++ binder_name names b →
    z ++ spaced names (t + (k + 1)) (l - (k + 1)) ≡ x ++ spaced names (t + k) (l - k)
spaced_on names x y z t k l b h e q f =
    let n = l - (k + 1) in
    let c : l - k ≡ suc n = omega arith in
    let d : suc (t + k) ≡ t + (k + 1) = omega arith in
    ap (λ z. z ++ spaced names (t + (k + 1)) n)
    (f ∙ ap (λ y. y ++ binder_name names b) e ∙ ap (λ b. (x ++ 32 ∷ []) ++ binder_name names b) q)
    ∙ append_assoc (x ++ 32 ∷ []) (binder_name names (t + k)) (spaced names (t + (k + 1)) n)
    ∙ append_assoc x (32 ∷ []) (binder_name names (t + k) ++ spaced names (t + (k + 1)) n)
    ∙ ap (λ s. x ++ 32 ∷ (binder_name names (t + k) ++ spaced names s n)) (sym d)
    ∙ ap (λ m. x ++ spaced names (t + k) m) (sym c)

-- one step of taking an argument
pub takes_none : (x : List ℕ) (os ps : List Open) → length os ≡ 0 → length ps ≡ 0 → Takes x os None x ps
takes_none x [] [] a b = done x
takes_none x (o ∷ os) ps a b = absurd (omega arith)
takes_none x [] (p ∷ ps) a b = absurd (omega arith)

pub takes_more : (x : List ℕ) (os hs ps : List Open) (h : Open) → os ≡ hs ++ h ∷ [] → 0 < h.left →
    ps ≡ hs ++ record { left = h.left - 1; binders = h.binders; bracket = h.bracket } ∷ [] →
    Takes x os (Some h.binders) x ps
takes_more x os hs ps h e b z =
    let q : h.left ≡ suc (h.left - 1) = omega arith in
    subst (λ (os : List Open). Takes x os (Some h.binders) x ps) (sym e)
    (subst (λ (ps : List Open). Takes x (hs ++ h ∷ []) (Some h.binders) x ps) (sym z) (takes x hs h (h.left - 1) q))

pub takes_close : (x x' : List ℕ) (os hs : List Open) (h : Open) (r : Option ℕ) (y : List ℕ)
    (qs : List Open) → os ≡ hs ++ h ∷ [] → h.left ≤ 0 → x' ≡ x ++ right_bracket h.bracket →
    Takes x' hs r y qs → Takes x os r y qs
takes_close x x' os hs h r y qs e b z t =
    let q : h.left ≡ 0 = omega arith in
    subst (λ (os : List Open). Takes x os r y qs) (sym e)
    (closes x hs h q (subst (λ (x : List ℕ). Takes x hs r y qs) z t))

-- the arguments of one head that are left, in the scope of their variables
pub record Layer : Type 0 where
  pub parts : Part false
  pub binders : ℕ
  pub bracket : Bool
  pub scope : List (ℕ × ℕ)

abbrev pub open_of : Layer → Open
open_of L = record { left = count L.parts; binders = L.binders; bracket = L.bracket }

abbrev pub opens_of : List Layer → List Open
opens_of [] = []
opens_of (L ∷ Ls) = opens_of Ls ++ open_of L ∷ []

abbrev pub list_of : List Layer → List ReadNode
list_of [] = []
list_of (L ∷ Ls) = preorder L.parts ++ list_of Ls

abbrev pub rounds_of : List Layer → List ℕ
rounds_of [] = []
rounds_of (L ∷ Ls) = rounds L.binders L.parts ++ rounds_of Ls

abbrev pub texts_of : List (List ℕ) → List ℕ → List Layer → List ℕ
texts_of names R [] = []
texts_of names R (L ∷ Ls) = part_text names R L.binders L.parts ++ (right_bracket L.bracket ++ texts_of names R Ls)

-- all places of a scope are below i
abbrev pub IsBelow : ℕ → List (ℕ × ℕ) → Type 0
IsBelow i [] = Unit {0}
IsBelow i (s ∷ ss) = (s.0 < i) × IsBelow i ss

abbrev pub AreBound : ℕ → List Layer → Type 0
AreBound i [] = Unit {0}
AreBound i (L ∷ Ls) = IsBelow i L.scope × IsBound L.scope i L.parts × AreBound (i + length (preorder L.parts)) Ls

pub below_more : (i j : ℕ) (ss : List (ℕ × ℕ)) → i ≤ j → IsBelow i ss → IsBelow j ss
below_more i j [] b h = tt
below_more i j (s ∷ ss) b h = let a = h.0 in (omega arith, below_more i j ss b h.1)

pub bound_more : (i j : ℕ) (Ls : List Layer) → i ≡ j → AreBound i Ls → AreBound j Ls
bound_more i j Ls e h = subst (λ (i : ℕ). AreBound i Ls) e h

pub in_scope_below : (i : ℕ) (ss : List (ℕ × ℕ)) (v : HeadVar) → IsBelow i ss → IsInScope ss v → IsSeenVar i v
in_scope_below i [] (var.Bound j k) b h = absurd h
in_scope_below i (s ∷ ss) (var.Bound j k) b (inl h) = let a = b.0 in let e = h.0 in omega arith
in_scope_below i (s ∷ ss) (var.Bound j k) b (inr h) = in_scope_below i ss (var.Bound j k) b.1 h
in_scope_below i ss (var.Free q) b h = tt

-- what is printed, and what is left
pub record Prints (names : List (List ℕ)) (R whole : List ℕ) (rest : List ReadNode)
    (text rs : List ℕ) (open_heads : List Open) : Type 0 where
  pub layers : List Layer
  pub stack : open_heads ≡ opens_of layers
  pub listed : list_of layers ≡ rest
  pub text_is : text ++ texts_of names R layers ≡ whole
  pub rounds_are : rs ++ rounds_of layers ≡ R
  pub bound : AreBound (length rs) layers

-- the same before an argument, or before the whole tree, with the brackets that it needs
pub record Ahead (names : List (List ℕ)) (R whole : List ℕ) (rest : List ReadNode)
    (text rs : List ℕ) (open_heads : List Open) (t : ℕ) (argument : Bool) : Type 0 where
  pub part : Part true
  pub scope : List (ℕ × ℕ)
  pub layers : List Layer
  pub stack : open_heads ≡ opens_of layers
  pub listed : preorder part ++ list_of layers ≡ rest
  pub text_is : (b : Bool) → ((n : ReadNode) (ns : List ReadNode) → preorder part ≡ n ∷ ns →
      b ≡ wants_bracket argument n) → text ++
      (left_bracket b ++ (part_text names R t part ++ (right_bracket b ++ texts_of names R layers))) ≡ whole
  pub rounds_are : rs ++ (rounds t part ++ rounds_of layers) ≡ R
  pub below : IsBelow (length rs) scope
  pub bound_part : IsBound scope (length rs) part
  pub bound : AreBound (length rs + length (preorder part)) layers

-- brackets
bracket_is : (p : Part true) (n : ReadNode) (ns : List ReadNode) (x : List ℕ) →
    preorder p ≡ n ∷ ns → bracketed (is_bare p) x ≡ left_bracket (wants_bracket true n) ++
    (x ++ right_bracket (wants_bracket true n))
bracket_is (term zero v none) n ns x e = let z : node.Head 0 v 0 ≡ n = cc in
    subst (λ (n : ReadNode). x ≡ left_bracket (wants_bracket true n) ++
    (x ++ right_bracket (wants_bracket true n))) z (sym (append-nil x))
bracket_is (term zero v (more u us)) n ns x e = let z : node.Head 0 v (suc (count us)) ≡ n = cc in
    subst (λ (n : ReadNode). 40 ∷ (x ++ 41 ∷ []) ≡ left_bracket (wants_bracket true n) ++
    (x ++ right_bracket (wants_bracket true n))) z refl
bracket_is (term (suc l) v ts) n ns x e = let z : node.Head (suc l) v (count ts) ≡ n = cc in
    subst (λ (n : ReadNode). 40 ∷ (x ++ 41 ∷ []) ≡ left_bracket (wants_bracket true n) ++
    (x ++ right_bracket (wants_bracket true n))) z refl
bracket_is lost n ns x e = let z : node.NoHead ≡ n = cc in
    subst (λ (n : ReadNode). x ≡ left_bracket (wants_bracket true n) ++
    (x ++ right_bracket (wants_bracket true n))) z (sym (append-nil x))
bracket_is cut n ns x e = let z : node.Cut ≡ n = cc in
    subst (λ (n : ReadNode). x ≡ left_bracket (wants_bracket true n) ++
    (x ++ right_bracket (wants_bracket true n))) z (sym (append-nil x))

last_one : {A : Type 0} (xs ys : List A) (x y : A) → xs ++ x ∷ [] ≡ ys ++ y ∷ [] → (xs ≡ ys) × (x ≡ y)
last_one [] [] x y e = let z : x ∷ [] ≡ y ∷ [] = e in (refl, cc)
last_one [] (b ∷ ys) x y e = let l = length_push ys y in let z = ap length e in absurd (omega arith)
last_one (a ∷ xs) [] x y e = let l = length_push xs x in let z = ap length e in absurd (omega arith)
last_one (a ∷ xs) (b ∷ ys) x y e =
    let z : a ∷ (xs ++ x ∷ []) ≡ b ∷ (ys ++ y ∷ []) = e in
    let h : a ≡ b = cc in
    let t : xs ++ x ∷ [] ≡ ys ++ y ∷ [] = cc in
    let r = last_one xs ys x y t in
    (ap (λ a. a ∷ xs) h ∙ ap (λ xs. b ∷ xs) r.0, r.1)

-- the last open head is the first layer
record Top (layers : List Layer) (os : List Open) (h : Open) : Type 0 where
  layer : Layer
  rest : List Layer
  is : layers ≡ layer ∷ rest
  stack : os ≡ opens_of rest
  head : h ≡ open_of layer

top_of : (layers : List Layer) (os : List Open) (h : Open) → os ++ h ∷ [] ≡ opens_of layers → Top layers os h
top_of [] os h e = let l = length_push os h in let z = ap length e in absurd (omega arith)
top_of (L ∷ Ls) os h e = let r = last_one os (opens_of Ls) h (open_of L) e in
    record { layer = L; rest = Ls; is = refl; stack = r.0; head = r.1 }

record First (p : Part true) : Type 0 where
  node : ReadNode
  rest : List ReadNode
  is : preorder p ≡ node ∷ rest

first_of_part : (p : Part true) → First p
first_of_part (term l v ts) = record { node = node.Head l v (count ts); rest = preorder ts; is = refl }
first_of_part lost = record { node = node.NoHead; rest = []; is = refl }
first_of_part cut = record { node = node.Cut; rest = []; is = refl }

-- the next argument of a layer
ahead_of : (names : List (List ℕ)) (R whole : List ℕ) (rest : List ReadNode) (x rs : List ℕ)
    (hs : List Open) (n : ℕ) (p : Part false) (t : ℕ) (b : Bool) (ss : List (ℕ × ℕ))
    (Ls : List Layer) → count p ≡ suc n → hs ≡ opens_of Ls →
    preorder p ++ list_of Ls ≡ rest → x ++
    (part_text names R t p ++ (right_bracket b ++ texts_of names R Ls)) ≡ whole →
    rs ++ (rounds t p ++ rounds_of Ls) ≡ R → IsBelow (length rs) ss → IsBound ss (length rs) p →
    AreBound (length rs + length (preorder p)) Ls →
    Ahead names R whole rest (x ++ 32 ∷ []) rs (hs ++ record { left = n; binders = t; bracket = b } ∷ []) t true
ahead_of names R whole rest x rs hs n none t b ss Ls e s l w r k p a = absurd (omega arith)
ahead_of names R whole rest x rs hs n (more u us) t b ss Ls e s l w r k p a = record {
  part = u;
  scope = ss;
  layers = record { parts = us; binders = t; bracket = b; scope = ss } ∷ Ls;
  stack = let q : n ≡ count us = omega arith in
      ap (λ hs. hs ++ record { left = n; binders = t; bracket = b } ∷ []) s
      ∙ ap (λ n. opens_of Ls ++ record { left = n; binders = t; bracket = b } ∷ []) q;
  listed = sym (append_assoc (preorder u) (preorder us) (list_of Ls)) ∙ l;
  text_is = λ c k.
      let f = first_of_part u in
      let q = k f.node f.rest f.is in
      let T = part_text names R t u in
      let U = part_text names R t us in
      let V = right_bracket b ++ texts_of names R Ls in
      append_assoc x (32 ∷ []) (left_bracket c ++ (T ++ (right_bracket c ++ (U ++ V))))
      ∙ ap (λ (z : List ℕ). x ++ 32 ∷ z) (three (left_bracket c) T (right_bracket c) U V
      ∙ ap (λ (z : List ℕ). (z ++ U) ++ V)
      (ap (λ (c : Bool). left_bracket c ++ (T ++ right_bracket c)) q ∙ sym (bracket_is u f.node f.rest T f.is)))
      ∙ w;
  rounds_are = ap (λ (z : List ℕ). rs ++ z) (sym (append_assoc (rounds t u) (rounds t us) (rounds_of Ls))) ∙ r;
  below = k;
  bound_part = p.0;
  bound =
      let m = length-append (preorder u) (preorder us) in (
        below_more (length rs) (length rs + length (preorder u)) ss (omega arith) k,
        p.1,
        bound_more (length rs + length (preorder (more u us)))
            (length rs + length (preorder u) + length (preorder us)) Ls (omega arith) a,
      );
}
  where
    three : (a b c d e : List ℕ) → a ++ (b ++ (c ++ (d ++ e))) ≡ ((a ++ (b ++ c)) ++ d) ++ e
    three a b c d e = sym (simp append_assoc)

-- a layer with no argument left
closed : (names : List (List ℕ)) (R whole : List ℕ) (rest : List ReadNode) (x rs : List ℕ)
    (hs : List Open) (p : Part false) (t : ℕ) (b : Bool) (Ls : List Layer) → count p ≡ 0 → hs ≡ opens_of Ls →
    preorder p ++ list_of Ls ≡ rest → x ++
    (part_text names R t p ++ (right_bracket b ++ texts_of names R Ls)) ≡ whole →
    rs ++ (rounds t p ++ rounds_of Ls) ≡ R → AreBound (length rs + length (preorder p)) Ls →
    Prints names R whole rest (x ++ right_bracket b) rs hs
closed names R whole rest x rs hs (more u us) t b Ls e s l w r a = absurd (omega arith)
closed names R whole rest x rs hs none t b Ls e s l w r a = record {
  layers = Ls;
  stack = s;
  listed = l;
  text_is = append_assoc x (right_bracket b) (texts_of names R Ls) ∙ w;
  rounds_are = r;
  bound = bound_more (length rs + length (preorder none)) (length rs) Ls (omega arith) a;
}

abbrev pub Finished : List ℕ → List ℕ → List ReadNode → Type 0
Finished y whole rest = (y ≡ whole) × (rest ≡ [])

finish : (names : List (List ℕ)) (R whole : List ℕ) (rest : List ReadNode) (x rs : List ℕ)
    (Ls : List Layer) → [] ≡ opens_of Ls → list_of Ls ≡ rest → x ++ texts_of names R Ls ≡ whole → Finished x whole rest
finish names R whole rest x rs [] s l w = (sym (append-nil x) ∙ w, sym l)
finish names R whole rest x rs (L ∷ Ls) s l w = let m = length_push (opens_of Ls) (open_of L) in
    let z = ap length s in absurd (omega arith)

abbrev pub Taken : List (List ℕ) → List ℕ → List ℕ → List ReadNode → List ℕ → List ℕ → List Open → Option ℕ → Type 0
Taken names R whole rest y rs qs r = MatchOption r (Finished y whole rest)
    (λ t. Ahead names R whole rest (y ++ 32 ∷ []) rs qs t true)

module _ (names : List (List ℕ)) (R whole : List ℕ) (rest : List ReadNode) (rs : List ℕ) where
  pub take_ahead : {x y : List ℕ} {os qs : List Open} {r : Option ℕ} → Takes x os r y qs →
      Prints names R whole rest x rs os → Taken names R whole rest y rs qs r
  take_ahead (done x) p = finish names R whole rest x rs p.layers p.stack p.listed p.text_is
  take_ahead (takes x hs h n e) p = go (top_of p.layers hs h p.stack)
    where
      go : Top p.layers hs h → Ahead names R whole rest (x ++ 32 ∷ []) rs
          (hs ++ record { left = n; binders = h.binders; bracket = h.bracket } ∷ []) h.binders true
      go t =
          let L = t.layer in
          let bound = subst (AreBound (length rs)) t.is p.bound in
          subst (λ (h : Open). Ahead names R whole rest (x ++ 32 ∷ []) rs
          (hs ++ record { left = n; binders = h.binders; bracket = h.bracket } ∷ []) h.binders true) (sym t.head)
          (ahead_of names R whole rest x rs hs n L.parts L.binders L.bracket L.scope t.rest
          (ap (λ (h : Open). h.left) (sym t.head) ∙ e) t.stack
          (ap list_of (sym t.is) ∙ p.listed) (ap (λ (Ls : List Layer). x ++ texts_of names R Ls)
          (sym t.is) ∙ p.text_is) (ap (λ (Ls : List Layer). rs ++ rounds_of Ls) (sym t.is)
          ∙ p.rounds_are) bound.0 bound.1 bound.2)
  take_ahead (closes x hs h e t) p = take_ahead t (go (top_of p.layers hs h p.stack))
    where
      go : Top p.layers hs h → Prints names R whole rest (x ++ right_bracket h.bracket) rs hs
      go t =
          let L = t.layer in
          let bound = subst (AreBound (length rs)) t.is p.bound in
          subst (λ (h : Open). Prints names R whole rest (x ++ right_bracket h.bracket) rs hs) (sym t.head)
          (closed names R whole rest x rs hs L.parts L.binders L.bracket t.rest
          (ap (λ (h : Open). h.left) (sym t.head) ∙ e) t.stack
          (ap list_of (sym t.is) ∙ p.listed) (ap (λ (Ls : List Layer). x ++ texts_of names R Ls)
          (sym t.is) ∙ p.text_is) (ap (λ (Ls : List Layer). rs ++ rounds_of Ls) (sym t.is) ∙ p.rounds_are) bound.2)
