-- Printing one place.
use Rattle.std.proofs.Common.{◌≡◌, ℕ, zero, suc, ◌+◌, ◌-◌, ◌≤◌, Bool, true, false, List, [], ◌∷◌, ◌++◌, length, drop}
use Rattle.std.proofs.Common.{get_or, Option, Some, None, refl, sym, ap, ◌∙◌, subst, arith, append_assoc}
use Rattle.std.specs.Prelude.{slice_get}
use Rattle.std.proofs.lemmas.List.{append-nil, length_push, get_or_append_left, drop_all}
use Rattle.ol_readback.specs.Whole.{Part, term, lost, cut, none, more, count, preorder, IsBound, IsWholeTree}
use Rattle.ol_term.specs.BinderNames.{binder_name}
use Rattle.ol_readback.specs.Texts.{rounds, abstractions, variable, part_text, text_of_tree, IsNamedNode, AreNamed}
use Rattle.ol_readback.specs.Printing.{IsSeenVar, IsSeen, wants_bracket, left_bracket}
use Rattle.ol_readback.specs.Printing.{right_bracket, printed, opened, Takes}
use Rattle.ol_readback.specs.declared.answers.HeadVar.{HeadVar}
use Rattle.ol_readback.specs.declared.answers.HeadVar.TheVariants as var
use Rattle.ol_readback.specs.declared.answers.ReadNode.{ReadNode}
use Rattle.ol_readback.specs.declared.answers.ReadNode.TheVariants as node
use Rattle.ol_readback.specs.declared.printing.Open.{Open}
use Rattle.ol_readback.proofs.Layers.{Layer, opens_of, list_of, rounds_of, texts_of, IsBelow, AreBound, below_more}
use Rattle.ol_readback.proofs.Layers.{bound_more, in_scope_below, Prints, Ahead, Taken, take_ahead}

variable_is : (names : List (List ℕ)) (rs zs R : List ℕ) (v : HeadVar) → rs ++ zs ≡ R →
    IsSeenVar (length rs) v → variable names rs v ≡ variable names R v
variable_is names rs zs R (var.Bound i j) e h = ap (λ k. binder_name names (k + (j - 1)))
    (sym (get_or_append_left rs zs 0 i h) ∙ ap (λ R. get_or R i 0) e)
variable_is names rs zs R (var.Free q) e h = refl

unbracketed : (a : Bool) → (false ≡ wants_bracket a node.NoHead) × (false ≡ wants_bracket a node.Cut)
unbracketed true = (refl, refl)
unbracketed false = (refl, refl)

five : (w x y z u : List ℕ) → w ++ (x ++ (y ++ (z ++ u))) ≡ (w ++ (x ++ (y ++ z))) ++ u
five w x y z u = sym (simp append_assoc)

module _ (names : List (List ℕ)) (R whole : List ℕ) (rest : List ReadNode) (text rs : List ℕ)
    (os : List Open) (t : ℕ) (argument : Bool) where
  -- the place after which it is printed
  pub seen : (a : Ahead names R whole rest text rs os t argument) (n : ReadNode)
      (ns : List ReadNode) (rs' : List ℕ) → rest ≡ n ∷ ns → rs' ≡ rs ++ t ∷ [] → IsSeen (length rs') n
  seen a n ns rs' e z = go a.part a.listed a.bound_part
    where
      go : (p : Part true) → preorder p ++ list_of a.layers ≡ rest → IsBound a.scope (length rs) p →
          IsSeen (length rs') n
      go (term l v ts) l' b =
          let q : node.Head l v (count ts) ∷ (preorder ts ++ list_of a.layers) ≡ n ∷ ns = l' ∙ e in
          let h : node.Head l v (count ts) ≡ n = cc in
          let m = length_push rs t in
          let k = ap length z in
          subst (IsSeen (length rs')) h (in_scope_below (length rs') ((length rs, l) ∷ a.scope) v
          (omega arith, below_more (length rs) (length rs') a.scope (omega arith) a.below) b.0)
      go lost l' b = let q : node.NoHead ∷ list_of a.layers ≡ n ∷ ns = l' ∙ e in
          let h : node.NoHead ≡ n = cc in subst (IsSeen (length rs')) h tt
      go cut l' b = let q : node.Cut ∷ list_of a.layers ≡ n ∷ ns = l' ∙ e in
          let h : node.Cut ≡ n = cc in subst (IsSeen (length rs')) h tt

  -- nothing is opened
  flat : (p : Part true) (Ls : List Layer) (n : ReadNode) (ns : List ReadNode) (rs' text' : List ℕ)
      (os' : List Open) (b : Bool) (x : List ℕ) → os ≡ opens_of Ls → os' ≡ os ++ [] →
      list_of Ls ≡ ns → rs' ≡ rs ++ t ∷ [] → rs ++ (t ∷ rounds_of Ls) ≡ R → AreBound (length rs + 1) Ls →
      text' ≡ text ++ x → text ++ (left_bracket b ++
      (part_text names R t p ++ (right_bracket b ++ texts_of names R Ls))) ≡ whole →
      x ≡ left_bracket b ++ (part_text names R t p ++ right_bracket b) → Prints names R whole ns text' rs' os'
  flat p Ls n ns rs' text' os' b x s o l z r k w y q = record {
    layers = Ls;
    stack = o ∙ append-nil os ∙ s;
    listed = l;
    text_is =
        ap (λ (u : List ℕ). u ++ texts_of names R Ls) (w ∙ ap (λ (x : List ℕ). text ++ x) q)
        ∙ sym (five text (left_bracket b) (part_text names R t p) (right_bracket b) (texts_of names R Ls)) ∙ y;
    rounds_are = ap (λ (rs : List ℕ). rs ++ rounds_of Ls) z ∙ append_assoc rs (t ∷ []) (rounds_of Ls) ∙ r;
    bound = let m = length_push rs t in let j = ap length z in
        bound_more (length rs + 1) (length rs') Ls (omega arith) k;
  }

  -- a head with arguments
  deep : (l : ℕ) (v : HeadVar) (ts : Part false) (c : ℕ) (ss : List (ℕ × ℕ)) (Ls : List Layer)
      (ns : List ReadNode) (rs' text' : List ℕ) (os' : List Open) (b : Bool) → count ts ≡ suc c →
      os ≡ opens_of Ls → os' ≡ os ++ record { left = suc c; binders = t + l; bracket = b } ∷ [] →
      preorder ts ++ list_of Ls ≡ ns → rs' ≡ rs ++ t ∷ [] →
      rs ++ (t ∷ (rounds (t + l) ts ++ rounds_of Ls)) ≡ R → IsBelow (length rs) ss →
      IsBound ((length rs, l) ∷ ss) (suc (length rs)) ts → AreBound (length rs + suc (length (preorder ts))) Ls →
      text' ≡ text ++ (left_bracket b ++ (abstractions names t l ++ variable names R v)) →
      text ++ (left_bracket b ++ ((abstractions names t l ++
      (variable names R v ++ part_text names R (t + l) ts)) ++
      (right_bracket b ++ texts_of names R Ls))) ≡ whole → Prints names R whole ns text' rs' os'
  deep l v ts c ss Ls ns rs' text' os' b d s o i z r k p h w y = record {
    layers = record { parts = ts; binders = t + l; bracket = b; scope = (length rs, l) ∷ ss } ∷ Ls;
    stack = o ∙ ap (λ (os : List Open). os ++ record {
      left = suc c;
      binders = t + l;
      bracket = b;
    } ∷ []) s ∙ ap (λ (n : ℕ).
        opens_of Ls ++ record { left = n; binders = t + l; bracket = b } ∷ []) (sym d);
    listed = i;
    text_is = ap (λ (u : List ℕ). u ++ (part_text names R (t + l) ts ++
        (right_bracket b ++ texts_of names R Ls))) w
        ∙ shift text (left_bracket b) (abstractions names t l) (variable names R v)
        (part_text names R (t + l) ts) (right_bracket b ++ texts_of names R Ls) ∙ y;
    rounds_are = ap (λ (rs : List ℕ). rs ++ (rounds (t + l) ts ++ rounds_of Ls)) z
        ∙ append_assoc rs (t ∷ []) (rounds (t + l) ts ++ rounds_of Ls) ∙ r;
    bound =
        let m = length_push rs t in
        let j = ap length z in
        let q : suc (length rs) ≡ length rs' = omega arith in (
          (omega arith, below_more (length rs) (length rs') ss (omega arith) k),
          subst (λ (i : ℕ). IsBound ((length rs, l) ∷ ss) i ts) q p,
          bound_more (length rs + suc (length (preorder ts))) (length rs' + length (preorder ts)) Ls (omega arith) h,
        );
  }
    where
      shift : (u b x y z w : List ℕ) → (u ++ (b ++ (x ++ y))) ++ (z ++ w) ≡ u ++ (b ++ ((x ++ (y ++ z)) ++ w))
      shift u b x y z w = simp append_assoc

  pub place_prints : (a : Ahead names R whole rest text rs os t argument) (n : ReadNode)
      (ns : List ReadNode) (rs' text' : List ℕ) (os' : List Open) → rest ≡ n ∷ ns → rs' ≡ rs ++ t ∷ [] →
      text' ≡ text ++ printed names rs' t (wants_bracket argument n) n →
      os' ≡ os ++ opened t (wants_bracket argument n) n → IsSeen (length rs') n →
      Prints names R whole ns text' rs' os'
  place_prints a n ns rs' text' os' e z w o g = go a.part a.listed a.text_is a.rounds_are a.bound_part a.bound
    where
      go : (p : Part true) → preorder p ++ list_of a.layers ≡ rest →
          ((b : Bool) → ((n : ReadNode) (ns : List ReadNode) → preorder p ≡ n ∷ ns →
          b ≡ wants_bracket argument n) → text ++
          (left_bracket b ++ (part_text names R t p ++ (right_bracket b ++ texts_of names R a.layers))) ≡ whole) →
          rs ++ (rounds t p ++ rounds_of a.layers) ≡ R → IsBound a.scope (length rs) p →
          AreBound (length rs + length (preorder p)) a.layers → Prints names R whole ns text' rs' os'
      go lost l y r k h =
          let q : node.NoHead ∷ list_of a.layers ≡ n ∷ ns = l ∙ e in
          let c : node.NoHead ≡ n = cc in
          let d : list_of a.layers ≡ ns = cc in
          flat lost a.layers n ns rs' text' os' false (63 ∷ []) a.stack
          (o ∙ ap (λ (n : ReadNode). os ++ opened t (wants_bracket argument n) n) (sym c)) d z r h
          (w ∙ ap (λ (n : ReadNode). text ++ printed names rs' t (wants_bracket argument n) n) (sym c))
          (y false (λ n ns f. let u : node.NoHead ≡ n = cc in
          (unbracketed argument).0 ∙ ap (wants_bracket argument) u)) refl
      go cut l y r k h =
          let q : node.Cut ∷ list_of a.layers ≡ n ∷ ns = l ∙ e in
          let c : node.Cut ≡ n = cc in
          let d : list_of a.layers ≡ ns = cc in
          flat cut a.layers n ns rs' text' os' false (46 ∷ (46 ∷ (46 ∷ []))) a.stack
          (o ∙ ap (λ (n : ReadNode). os ++ opened t (wants_bracket argument n) n) (sym c)) d z r h
          (w ∙ ap (λ (n : ReadNode). text ++ printed names rs' t (wants_bracket argument n) n) (sym c))
          (y false (λ n ns f. let u : node.Cut ≡ n = cc in
          (unbracketed argument).1 ∙ ap (wants_bracket argument) u)) refl
      go (term i v none) l y r k h =
          let q : node.Head i v 0 ∷ list_of a.layers ≡ n ∷ ns = l ∙ e in
          let c : node.Head i v 0 ≡ n = cc in
          let d : list_of a.layers ≡ ns = cc in
          let b = wants_bracket argument (node.Head i v 0) in
          let f = variable_is names rs' (rounds_of a.layers) R v
          (ap (λ (rs : List ℕ). rs ++ rounds_of a.layers) z
          ∙ append_assoc rs (t ∷ []) (rounds_of a.layers) ∙ r) (subst (IsSeen (length rs')) (sym c) g) in
          flat (term i v none) a.layers n ns rs' text' os' b
          (left_bracket b ++ ((abstractions names t i ++ variable names rs' v) ++ right_bracket
          b)) a.stack (o ∙ ap (λ (n : ReadNode). os ++ opened t (wants_bracket argument n) n) (sym c)) d z r h
          (w ∙ ap (λ (n : ReadNode). text ++ printed names rs' t (wants_bracket argument n) n) (sym c))
          (y b (λ n ns f. let u : node.Head i v 0 ≡ n = cc in ap (wants_bracket argument) u))
          (ap (λ (x : List ℕ). left_bracket b ++ ((abstractions names t i ++ x) ++ right_bracket b))
          (f ∙ sym (append-nil (variable names R v))))
      go (term i v (more u us)) l y r k h =
          let q : node.Head i v (suc (count us)) ∷ (preorder (more u us) ++ list_of a.layers) ≡ n ∷ ns = l ∙ e in
          let c : node.Head i v (suc (count us)) ≡ n = cc in
          let d : preorder (more u us) ++ list_of a.layers ≡ ns = cc in
          let b = wants_bracket argument (node.Head i v (suc (count us))) in
          let f = variable_is names rs' (rounds (t + i) (more u us) ++ rounds_of a.layers) R v
          (ap (λ (rs : List ℕ). rs ++ (rounds (t + i) (more u us) ++ rounds_of a.layers)) z
          ∙ append_assoc rs (t ∷ []) (rounds (t + i) (more u us) ++ rounds_of a.layers) ∙ r)
          (subst (IsSeen (length rs')) (sym c) g) in
          deep i v (more u us) (count us) a.scope a.layers ns rs' text' os' b refl a.stack
          (o ∙ ap (λ (n : ReadNode). os ++ opened t (wants_bracket argument n) n) (sym c)) d z r a.below k.1 h
          (w ∙ ap (λ (n : ReadNode). text ++ printed names rs' t (wants_bracket argument n) n)
          (sym c) ∙ ap (λ (x : List ℕ). text ++ (left_bracket b ++ (abstractions names t i ++ x))) f)
          (y b (λ n ns f. let u : node.Head i v (suc (count us)) ≡ n = cc in ap (wants_bracket argument) u))

-- the whole printing, before the next place
pub record Printing (names : List (List ℕ)) (nodes : List ReadNode) (place : ℕ) (text rs : List ℕ)
    (os : List Open) (t : ℕ) (argument : Bool) : Type 0 where
  pub tree : Part true
  pub listed : preorder tree ≡ nodes
  pub ahead : Ahead names (rounds 0 tree) (text_of_tree names tree) (drop place nodes) text rs os t argument

pub begin : (names : List (List ℕ)) (nodes : List ReadNode) → IsWholeTree nodes →
    Printing names nodes 0 [] [] [] 0 false
begin names nodes w = record {
  tree = w.tree;
  listed = w.is_list;
  ahead = record {
    part = w.tree;
    scope = [];
    layers = [];
    stack = refl;
    listed = append-nil (preorder w.tree) ∙ w.is_list;
    text_is = λ b k. bare b (first w.tree k);
    rounds_are = append-nil (rounds 0 w.tree);
    below = tt;
    bound_part = w.bound;
    bound = tt;
  };
}
  where
    first : (p : Part true) {b : Bool} →
        ((n : ReadNode) (ns : List ReadNode) → preorder p ≡ n ∷ ns → b ≡ false) → b ≡ false
    first (term l v ts) k = k (node.Head l v (count ts)) (preorder ts) refl
    first lost k = k node.NoHead [] refl
    first cut k = k node.Cut [] refl

    bare : (b : Bool) → b ≡ false → left_bracket b ++
        (text_of_tree names w.tree ++ (right_bracket b ++ [])) ≡ text_of_tree names w.tree
    bare true e = absurd (cc)
    bare false e = append-nil (text_of_tree names w.tree)

pub drop_at : (nodes : List ReadNode) (k : ℕ) (n : ReadNode) → slice_get nodes k ≡ Some n →
    drop k nodes ≡ n ∷ drop (suc k) nodes
drop_at [] k n e = let z : None ≡ Some n = e in absurd (cc)
drop_at (m ∷ nodes) zero n e = let z : Some m ≡ Some n = e in let y : m ≡ n = cc in ap (λ m. m ∷ nodes) y
drop_at (m ∷ nodes) (suc k) n e = drop_at nodes k n e

pub named_at : (count : ℕ) (nodes : List ReadNode) (k : ℕ) (n : ReadNode) → AreNamed count nodes →
    slice_get nodes k ≡ Some n → IsNamedNode count n
named_at count [] k n h e = let z : None ≡ Some n = e in absurd (cc)
named_at count (m ∷ nodes) zero n h e = let z : Some m ≡ Some n = e in let y : m ≡ n = cc in
    subst (IsNamedNode count) y h.0
named_at count (m ∷ nodes) (suc k) n h e = named_at count nodes k n h.1 e

-- after a place
pub go_on : (names : List (List ℕ)) (nodes : List ReadNode) (place : ℕ) (text rs : List ℕ)
    (os : List Open) (t : ℕ) (argument : Bool) (n : ReadNode) →
    (p : Printing names nodes place text rs os t argument) → slice_get nodes place ≡ Some n →
    (rs' text' : List ℕ) (os' : List Open) → rs' ≡ rs ++ t ∷ [] →
    text' ≡ text ++ printed names rs' t (wants_bracket argument n) n →
    os' ≡ os ++ opened t (wants_bracket argument n) n →
    (y : List ℕ) (qs : List Open) (r : Option ℕ) → Takes text' os' r y qs →
    Taken names (rounds 0 p.tree) (text_of_tree names p.tree) (drop (suc place) nodes) y rs' qs r
go_on names nodes place text rs os t argument n p e rs' text' os' z w o y qs r k =
    let d = drop_at nodes place n e in
    take_ahead names (rounds 0 p.tree) (text_of_tree names p.tree) (drop (suc place) nodes) rs' k
    (place_prints names (rounds 0 p.tree) (text_of_tree names p.tree)
    (drop place nodes) text rs os t argument p.ahead n (drop (suc place) nodes) rs' text' os' d z w o
    (seen names (rounds 0 p.tree) (text_of_tree names p.tree)
    (drop place nodes) text rs os t argument p.ahead n (drop (suc place) nodes) rs' d z))

pub seen_at : (names : List (List ℕ)) (nodes : List ReadNode) (place : ℕ) (text rs : List ℕ)
    (os : List Open) (t : ℕ) (argument : Bool) (n : ReadNode) →
    (p : Printing names nodes place text rs os t argument) → slice_get nodes place ≡ Some n →
    (rs' : List ℕ) → rs' ≡ rs ++ t ∷ [] → IsSeen (length rs') n
seen_at names nodes place text rs os t argument n p e rs' z =
    seen names (rounds 0 p.tree) (text_of_tree names p.tree)
    (drop place nodes) text rs os t argument p.ahead n (drop (suc place) nodes) rs' (drop_at nodes place n e) z

-- some place is left before an argument
pub not_past : (names : List (List ℕ)) (nodes : List ReadNode) (place : ℕ) (text rs : List ℕ)
    (os : List Open) (t : ℕ) (argument : Bool) → Printing names nodes place text rs os t argument →
    length nodes ≤ place → ⊥
not_past names nodes place text rs os t argument p b = go p.ahead.part p.ahead.listed
  where
    go : (q : Part true) → preorder q ++ list_of p.ahead.layers ≡ drop place nodes → ⊥
    go (term l v ts) e = let z : node.Head l v (count ts) ∷
        (preorder ts ++ list_of p.ahead.layers) ≡ [] = e ∙ drop_all place nodes b in absurd (cc)
    go lost e = let z : node.NoHead ∷ list_of p.ahead.layers ≡ [] = e ∙ drop_all place nodes b in absurd (cc)
    go cut e = let z : node.Cut ∷ list_of p.ahead.layers ≡ [] = e ∙ drop_all place nodes b in absurd (cc)

pub begin_at : (names : List (List ℕ)) (nodes : List ReadNode) (x rs : List ℕ) (os : List Open) →
    IsWholeTree nodes → x ≡ [] → rs ≡ [] → os ≡ [] → Printing names nodes 0 x rs os 0 false
begin_at names nodes x rs os w a b c =
    subst (λ (x : List ℕ). Printing names nodes 0 x rs os 0 false) (sym a)
    (subst (λ (rs : List ℕ). Printing names nodes 0 [] rs os 0 false) (sym b)
    (subst (λ (os : List Open). Printing names nodes 0 [] [] os 0 false) (sym c) (begin names nodes w)))

pub printing_next : (names : List (List ℕ)) (nodes : List ReadNode) (place k : ℕ) (tree : Part true)
    (x y rs : List ℕ) (os : List Open) (t : ℕ) → preorder tree ≡ nodes →
    Ahead names (rounds 0 tree) (text_of_tree names tree) (drop (suc place) nodes) (y ++ 32 ∷ []) rs os t true →
    x ≡ y ++ 32 ∷ [] → k ≡ suc place → Printing names nodes k x rs os t true
printing_next names nodes place k tree x y rs os t l a e z = record {
  tree = tree;
  listed = l;
  ahead = subst (λ (x : List ℕ). Ahead names (rounds 0 tree) (text_of_tree names tree)
      (drop k nodes) x rs os t true) (sym e)
      (subst (λ (k : ℕ). Ahead names (rounds 0 tree) (text_of_tree names tree) (drop k nodes)
      (y ++ 32 ∷ []) rs os t true) (sym z) a);
}
