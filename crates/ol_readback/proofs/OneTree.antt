-- A list of places is that of one tree, and the term of a tree has no redex.
use Rattle.std.proofs.Common.{◌≡◌, ℕ, zero, suc, ◌+◌, List, [], ◌∷◌, ◌++◌, length, Bool, true}
use Rattle.std.proofs.Common.{false, refl, sym, ap, ◌∙◌, arith, append_assoc}
use Rattle.std.proofs.lemmas.List.{append-nil}
use Rattle.ol_term.specs.Trees as tree
use Rattle.ol_term.specs.Trees.{Tree}
use Rattle.ol_readback.specs.Whole.{Part, term, lost, cut, none, more, count, preorder}
use Rattle.ol_readback.specs.Terms.{HasAllHeads, abstracted, variable_of, meaning, term_of, IsNoLam, NoRedex}
use Rattle.ol_readback.specs.PrintedLaws.{ListIsOfOneTree}
use Rattle.ol_readback.specs.declared.answers.HeadVar.{HeadVar}
use Rattle.ol_readback.specs.declared.answers.HeadVar.TheVariants as var
use Rattle.ol_readback.specs.declared.answers.ReadNode.{ReadNode}
use Rattle.ol_readback.specs.declared.answers.ReadNode.TheVariants as node

pub count_one : (t : Part true) → count t ≡ 1
count_one (term l v ts) = refl
count_one lost = refl
count_one cut = refl

pub unique : {b : Bool} (p q : Part b) (xs ys : List ReadNode) → count p ≡ count q →
    preorder p ++ xs ≡ preorder q ++ ys → (p ≡ q) × (xs ≡ ys)
unique (term l v ts) (term m w us) xs ys c e =
    let heads : node.Head l v (count ts) ≡ node.Head m w (count us) = cc in
    let tails : preorder ts ++ xs ≡ preorder us ++ ys = cc in
    let a : l ≡ m = cc in
    let b : v ≡ w = cc in
    let d : count ts ≡ count us = cc in
    let r = unique ts us xs ys d tails in (
      ap (λ (l : ℕ). term l v ts) a ∙ ap (λ (v : HeadVar). term m v ts) b
          ∙ ap (λ (ts : Part false). term m w ts) r.0,
      r.1,
    )
unique (term l v ts) lost xs ys c e = let heads : node.Head l v (count ts) ≡ node.NoHead = cc in absurd (cc)
unique (term l v ts) cut xs ys c e = let heads : node.Head l v (count ts) ≡ node.Cut = cc in absurd (cc)
unique lost (term l v ts) xs ys c e = let heads : node.NoHead ≡ node.Head l v (count ts) = cc in absurd (cc)
unique lost lost xs ys c e = (refl, cc)
unique lost cut xs ys c e = let heads : node.NoHead ≡ node.Cut = cc in absurd (cc)
unique cut (term l v ts) xs ys c e = let heads : node.Cut ≡ node.Head l v (count ts) = cc in absurd (cc)
unique cut lost xs ys c e = let heads : node.Cut ≡ node.NoHead = cc in absurd (cc)
unique cut cut xs ys c e = (refl, cc)
unique none none xs ys c e = (refl, e)
unique none (more u us) xs ys c e = absurd (omega arith)
unique (more t ts) none xs ys c e = absurd (omega arith)
unique (more t ts) (more u us) xs ys c e =
    let r = unique t u (preorder ts ++ xs) (preorder us ++ ys) (count_one t ∙ sym (count_one u))
    (sym (append_assoc (preorder t) (preorder ts) xs) ∙ e ∙ append_assoc (preorder u) (preorder us) ys) in
    let s = unique ts us xs ys (omega arith) r.1 in
    (ap (λ (t : Part true). more t ts) r.0 ∙ ap (λ (ts : Part false). more u ts) s.0, s.1)

pub list_is_of_one_tree : ListIsOfOneTree
list_is_of_one_tree s t e = (unique s t [] [] (count_one s ∙ sym (count_one t))
    (append-nil (preorder s) ∙ e ∙ sym (append-nil (preorder t)))).0

-- ---- no redex

pub all_left : (ns ms : List ReadNode) → HasAllHeads (ns ++ ms) → HasAllHeads ns
all_left [] ms h = tt
all_left (node.Head l v k ∷ ns) ms h = all_left ns ms h
all_left (node.NoHead ∷ ns) ms h = h
all_left (node.Cut ∷ ns) ms h = h

pub all_right : (ns ms : List ReadNode) → HasAllHeads (ns ++ ms) → HasAllHeads ms
all_right [] ms h = h
all_right (node.Head l v k ∷ ns) ms h = all_right ns ms h
all_right (node.NoHead ∷ ns) ms h = absurd h
all_right (node.Cut ∷ ns) ms h = absurd h

abstracted_no_redex : (l : ℕ) (t : Tree) → NoRedex t → NoRedex (abstracted l t)
abstracted_no_redex zero t h = h
abstracted_no_redex (suc l) t h = abstracted_no_redex l t h

variable_plain : (ss : List (ℕ × ℕ)) (v : HeadVar) → IsNoLam (variable_of ss v) × NoRedex (variable_of ss v)
variable_plain ss (var.Bound i j) = (tt, tt)
variable_plain ss (var.Free q) = (tt, tt)

abbrev Good : {b : Bool} → List (ℕ × ℕ) → ℕ → Part b → Type 0
Good {b = true} ss i p = NoRedex (meaning ss i p)
Good {b = false} ss i p = (f : Tree) → IsNoLam f → NoRedex f → IsNoLam (meaning ss i p f) × NoRedex (meaning ss i p f)

good : {b : Bool} (p : Part b) (ss : List (ℕ × ℕ)) (i : ℕ) → HasAllHeads (preorder p) → Good ss i p
good (term l v ts) ss i h =
    let w = variable_plain ((i, l) ∷ ss) v in
    abstracted_no_redex l (meaning ((i, l) ∷ ss) (suc i) ts (variable_of ((i, l) ∷ ss) v))
    (good ts ((i, l) ∷ ss) (suc i) h (variable_of ((i, l) ∷ ss) v) w.0 w.1).1
good lost ss i h = absurd h
good cut ss i h = absurd h
good none ss i h = λ f a b. (a, b)
good (more u us) ss i h = λ f a b. good us ss (i + length (preorder u))
    (all_right (preorder u) (preorder us) h) (tree.app f (meaning ss i u)) tt
    (a, b, good u ss i (all_left (preorder u) (preorder us) h))

pub no_redex : (t : Part true) → HasAllHeads (preorder t) → NoRedex (term_of t)
no_redex t h = good t [] 0 h
