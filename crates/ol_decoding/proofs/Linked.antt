-- The places of a Church numeral's tree, and that no other list of places stands for one.
use Rattle.std.proofs.Common.{◌≡◌, ℕ, zero, suc, ◌+◌, ◌-◌, ◌<◌, ◌≤◌, ◌==◌, ◌&&◌, if◌then◌else◌, ◌⊎◌, inl, inr}
use Rattle.std.proofs.Common.{Bool, true, false, List, [], ◌∷◌, ◌++◌, length, drop, Option, Some, None}
use Rattle.std.proofs.Common.{refl, sym, ap, ◌∙◌, subst, arith, eqb-true, eq-eqb, append-nil, length-drop}
use Rattle.std.specs.Prelude.{slice_get}
use Rattle.std.proofs.lemmas.List.{drop_all}
use Rattle.std.proofs.lemmas.Option.{slice_get_within, same_Some, none-some}
use Rattle.std.proofs.lemmas.Bool.{and_parts}
use Rattle.ol_term.specs.Trees as tree
use Rattle.ol_term.specs.Trees.{Tree}
use Rattle.ol_readback.specs.Whole.{Part, term, lost, cut, none, more, count, preorder, IsInScope, IsBound, IsWholeTree}
use Rattle.ol_readback.specs.Terms.{HasAllHeads, abstracted, index_of, variable_of, meaning, term_of}
use Rattle.ol_readback.specs.declared.answers.HeadVar.{HeadVar}
use Rattle.ol_readback.specs.declared.answers.HeadVar.TheVariants as var
use Rattle.ol_readback.specs.declared.answers.ReadNode.{ReadNode}
use Rattle.ol_readback.specs.declared.answers.ReadNode.TheVariants as node
use Rattle.ol_readback.proofs.OneTree.{list_is_of_one_tree, all_left}
use Rattle.ol_readback.proofs.Printed.{drop_at}
use Rattle.ol_beta.specs.TreeTerms.{IsTermOf}
use Rattle.ol_decoding.specs.Values.{iterated, church_term}
use Rattle.ol_decoding.specs.Numerals.{IsNumeralOf}
use Rattle.ol_decoding.specs.Chains.{end_at, some_if_last, own, chain, is_place, numeral_from}

-- ---- the tree of such a chain stands for the numeral

abbrev chain_part : ℕ → ℕ → Part true
chain_part l zero = term l (own 2) none
chain_part l (suc n) = term l (own 1) (more (chain_part 0 n) none)

chain_list : (l n : ℕ) → preorder (chain_part l n) ≡ chain l n
chain_list l zero = refl
chain_list l (suc n) = ap (λ ns. node.Head l (own 1) 1 ∷ ns) (append-nil (preorder (chain_part 0 n)) ∙ chain_list 0 n)

chain_heads : (l n : ℕ) → HasAllHeads (chain l n)
chain_heads l zero = tt
chain_heads l (suc n) = chain_heads 0 n

-- Place 0 has the two binders, and those between have none.
record Outer (ss : List (ℕ × ℕ)) : Type 0 where
  scope : (i j : ℕ) → IsInScope ss (var.Bound i j) → (i ≡ 0) × ((j ≡ 1) ⊎ (j ≡ 2))
  first : index_of ss 0 1 ≡ 1
  second : index_of ss 0 2 ≡ 0

outermost : Outer ((0, 2) ∷ [])
outermost = record { scope = scope; first = refl; second = refl }
  where
    low : (j : ℕ) → 1 ≤ j → j ≤ 2 → (j ≡ 1) ⊎ (j ≡ 2)
    low zero a b = absurd (omega arith)
    low (suc zero) a b = inl refl
    low (suc (suc zero)) a b = inr refl
    low (suc (suc (suc j))) a b = absurd (omega arith)

    scope : (i j : ℕ) → IsInScope ((0, 2) ∷ []) (var.Bound i j) → (i ≡ 0) × ((j ≡ 1) ⊎ (j ≡ 2))
    scope i j (inl h) = (sym h.0, low j h.1 h.2)
    scope i j (inr h) = absurd h

-- a place behind the first isn't the first
no_first : (k x y n : ℕ) → y ≡ n → (if suc k == 0 then x else 0 + y) ≡ n
no_first k x y n e = go (suc k == 0) refl
  where
    go : (b : Bool) → (suc k == 0) ≡ b → (if suc k == 0 then x else 0 + y) ≡ n
    go true h = absurd (let i : suc k ≡ 0 = eqb-true (suc k) 0 h in omega arith)
    go false h = let i : 0 + y ≡ n = omega arith in ap (λ (b : Bool). if b then x else 0 + y) h ∙ i

further : (ss : List (ℕ × ℕ)) (k : ℕ) → Outer ss → Outer ((suc k, 0) ∷ ss)
further ss k o = record {
  scope = scope;
  first = no_first k (0 - 1) (index_of ss 0 1) 1 o.first;
  second = no_first k (0 - 2) (index_of ss 0 2) 0 o.second;
}
  where
    scope : (i j : ℕ) → IsInScope ((suc k, 0) ∷ ss) (var.Bound i j) → (i ≡ 0) × ((j ≡ 1) ⊎ (j ≡ 2))
    scope i j (inl h) = let a = h.1 in let b = h.2 in absurd (omega arith)
    scope i j (inr h) = o.scope i j h

means_inner : (ss : List (ℕ × ℕ)) (i n : ℕ) → Outer ss → meaning ss (suc i) (chain_part 0 n) ≡ iterated n
means_inner ss i zero o = ap tree.var ((further ss i o).second)
means_inner ss i (suc n) o =
    let p = further ss i o in
    ap (λ k. tree.app (tree.var k) (meaning ((suc i, 0) ∷ ss) (suc (suc i)) (chain_part 0 n))) p.first
    ∙ ap (λ t. tree.app (tree.var 1) t) (means_inner ((suc i, 0) ∷ ss) (suc i) n p)

means : (n : ℕ) → term_of (chain_part 2 n) ≡ church_term n
means zero = refl
means (suc n) = ap (λ t. tree.lam (tree.lam (tree.app (tree.var 1) t))) (means_inner ((0, 2) ∷ []) 0 n outermost)

pub chain_is_numeral : (ns : List ReadNode) (n : ℕ) → ns ≡ chain 2 n → IsTermOf ns (church_term n)
chain_is_numeral ns n e = record {
  whole = subst HasAllHeads (sym e) (chain_heads 2 n);
  tree = chain_part 2 n;
  is_list = chain_list 2 n ∙ sym e;
  is = means n;
}

-- ---- a tree that stands for the numeral has this chain of places

abbrev IsApp : Tree → Type 0
IsApp (tree.app f a) = Unit {0}
IsApp _ = ⊥

-- an application of an application
abbrev IsTwice : Tree → Type 0
IsTwice (tree.app (tree.app f a) b) = Unit {0}
IsTwice _ = ⊥

stays_app : (ss : List (ℕ × ℕ)) (i : ℕ) (us : Part false) (f : Tree) → IsApp f → IsApp (meaning ss i us f)
stays_app ss i none f h = h
stays_app ss i (more u us) f h = stays_app ss (i + length (preorder u)) us (tree.app f (meaning ss i u)) tt

twice_of : (f a : Tree) → IsApp f → IsTwice (tree.app f a)
twice_of (tree.app f b) a h = tt
twice_of (tree.var k) a h = absurd h
twice_of (tree.free k) a h = absurd h
twice_of (tree.lam t) a h = absurd h

app_of : (t : Tree) → IsTwice t → IsApp t
app_of (tree.app f a) h = tt
app_of (tree.var k) h = absurd h
app_of (tree.free k) h = absurd h
app_of (tree.lam t) h = absurd h

stays_twice : (ss : List (ℕ × ℕ)) (i : ℕ) (us : Part false) (f : Tree) → IsTwice f → IsTwice (meaning ss i us f)
stays_twice ss i none f h = h
stays_twice ss i (more u us) f h = stays_twice ss (i + length (preorder u)) us (tree.app f (meaning ss i u))
    (twice_of f (meaning ss i u) (app_of f h))

app_parts : (f g a b : Tree) → tree.app f a ≡ tree.app g b → (f ≡ g) × (a ≡ b)
app_parts f g a b e = (cc, cc)

var_parts : (j k : ℕ) → tree.var j ≡ tree.var k → j ≡ k
var_parts j k e = cc

variable_no_app : (ss : List (ℕ × ℕ)) (v : HeadVar) → IsApp (variable_of ss v) → ⊥
variable_no_app ss (var.Bound i j) h = h
variable_no_app ss (var.Free q) h = h

-- the variable of a head is one of the two binders, if it has one of these numbers
head_is : (ss : List (ℕ × ℕ)) → Outer ss → (v : HeadVar) → IsInScope ss v → (k : ℕ) → variable_of ss v ≡ tree.var k →
    ((k ≡ 1) → v ≡ own 1) × ((k ≡ 0) → v ≡ own 2)
head_is ss o (var.Free q) s k e = absurd (cc)
head_is ss o (var.Bound i j) s k e = go (o.scope i j s).0 (o.scope i j s).1
  where
    go : i ≡ 0 → (j ≡ 1) ⊎ (j ≡ 2) → ((k ≡ 1) → var.Bound i j ≡ own 1) × ((k ≡ 0) → var.Bound i j ≡ own 2)
    go a (inl b) =
        let is = sym (var_parts (index_of ss i j) k e) in
        let one = ap (λ i. index_of ss i j) a ∙ ap (index_of ss 0) b ∙ o.first in (
          λ h. ap (λ i. var.Bound i j) a ∙ ap (var.Bound 0) b,
          λ h. absurd (omega arith),
        )
    go a (inr b) =
        let is = sym (var_parts (index_of ss i j) k e) in
        let none = ap (λ i. index_of ss i j) a ∙ ap (index_of ss 0) b ∙ o.second in (
          λ h. absurd (omega arith),
          λ h. ap (λ i. var.Bound i j) a ∙ ap (var.Bound 0) b,
        )

no_lam : (n : ℕ) (t : Tree) → tree.lam t ≡ iterated n → ⊥
no_lam zero t e = cc
no_lam (suc n) t e = cc

-- what stands behind the abstractions of a place
abbrev IsChain : ℕ → HeadVar → Part false → ℕ → Type 0
IsChain l v ts n = node.Head l v (count ts) ∷ preorder ts ≡ chain l n

mutual
  chained : (ss : List (ℕ × ℕ)) (l i : ℕ) (n : ℕ) → Outer ss → (v : HeadVar) (ts : Part false) → IsInScope ss v →
      IsBound ss (suc i) ts → HasAllHeads (preorder ts) → meaning ss (suc i) ts (variable_of ss v) ≡ iterated n →
      IsChain l v ts n
  chained ss l i zero o v none s b h e = ap (λ v. node.Head l v 0 ∷ []) ((head_is ss o v s 0 e).1 refl)
  chained ss l i zero o v (more u us) s b h e = absurd (subst IsApp e (stays_app ss (suc i + length (preorder u)) us
      (tree.app (variable_of ss v) (meaning ss (suc i) u)) tt))
  chained ss l i (suc n) o v none s b h e = absurd (variable_no_app ss v (subst IsApp (sym e) tt))
  chained ss l i (suc n) o v (more u none) s b h e =
      let p = app_parts (variable_of ss v) (tree.var 1) (meaning ss (suc i) u) (iterated n) e in
      ap (λ v. node.Head l v 1 ∷ preorder u ++ []) ((head_is ss o v s 1 p.0).0 refl)
      ∙ ap (λ ns. node.Head l (own 1) 1 ∷ ns) (append-nil (preorder u)
      ∙ chained_place ss i n o u b.0 (all_left (preorder u) [] h) p.1)
  chained ss l i (suc n) o v (more u (more w us)) s b h e = absurd (subst IsTwice e
      (stays_twice ss (suc i + length (preorder u) + length (preorder w)) us _ tt))

  chained_place : (ss : List (ℕ × ℕ)) (i n : ℕ) → Outer ss → (u : Part true) → IsBound ss (suc i) u →
      HasAllHeads (preorder u) → meaning ss (suc i) u ≡ iterated n → preorder u ≡ chain 0 n
  chained_place ss i n o (term zero v ts) b h e =
      chained ((suc i, 0) ∷ ss) 0 (suc i) n (further ss i o) v ts b.0 b.1 h e
  chained_place ss i n o (term (suc l) v ts) b h e = absurd (no_lam n _ e)
  chained_place ss i n o lost b h e = absurd h
  chained_place ss i n o cut b h e = absurd h

no_lams : (l : ℕ) (t u : Tree) → abstracted l t ≡ u → (s : Tree) → tree.lam s ≡ t → (l ≡ 0) ⊎ ((s : Tree) × (u ≡ tree.lam s))
no_lams zero t u e s h = inl refl
no_lams (suc l) t u e s h = inr (abstracted l t, sym e)

lam_part : (s t : Tree) → tree.lam s ≡ tree.lam t → s ≡ t
lam_part s t e = cc

-- the body of a place is no abstraction
abbrev IsNoLam : Tree → Type 0
IsNoLam (tree.lam t) = ⊥
IsNoLam _ = Unit {0}

app_no_lam : (t : Tree) → IsApp t → IsNoLam t
app_no_lam (tree.app f a) h = tt
app_no_lam (tree.var k) h = absurd h
app_no_lam (tree.free k) h = absurd h
app_no_lam (tree.lam t) h = absurd h

body_no_lam : (ss : List (ℕ × ℕ)) (i : ℕ) (ts : Part false) (v : HeadVar) → IsNoLam (meaning ss i ts (variable_of ss v))
body_no_lam ss i none (var.Bound j k) = tt
body_no_lam ss i none (var.Free q) = tt
body_no_lam ss i (more u us) v = app_no_lam _ (stays_app ss (i + length (preorder u)) us
    (tree.app (variable_of ss v) (meaning ss i u)) tt)

-- two abstractions stand before the body
two : (l : ℕ) (body : Tree) (n : ℕ) → IsNoLam body → abstracted l body ≡ church_term n → (l ≡ 2) × (body ≡ iterated n)
two zero body n h e = absurd (subst IsNoLam e h)
two (suc zero) body n h e = absurd (subst IsNoLam (lam_part body (tree.lam (iterated n)) e) h)
two (suc (suc zero)) body n h e =
    (refl, lam_part body (iterated n) (lam_part (tree.lam body) (tree.lam (iterated n)) e))
two (suc (suc (suc l))) body n h e = absurd (no_lam n (abstracted l body) (lam_part (tree.lam (abstracted l body))
    (iterated n) (lam_part (tree.lam (tree.lam (abstracted l body))) (tree.lam (iterated n)) e)))

of_part : (t : Part true) (n : ℕ) → IsBound [] 0 t → HasAllHeads (preorder t) → term_of t ≡ church_term n →
    preorder t ≡ chain 2 n
of_part (term l v ts) n b h e = go l (two l _ n (body_no_lam ((0, l) ∷ []) 1 ts v) e).0 b
    (two l _ n (body_no_lam ((0, l) ∷ []) 1 ts v) e).1
  where
    go : (k : ℕ) → k ≡ 2 → IsBound [] 0 (term k v ts) → meaning ((0, k) ∷ []) 1 ts (variable_of ((0, k) ∷ []) v) ≡ iterated n →
        node.Head k v (count ts) ∷ preorder ts ≡ chain 2 n
    go (suc (suc zero)) g b e = chained ((0, 2) ∷ []) 2 0 n outermost v ts b.0 b.1 h e
    go zero g b e = absurd (omega arith)
    go (suc zero) g b e = absurd (omega arith)
    go (suc (suc (suc k))) g b e = absurd (omega arith)
of_part lost n b h e = absurd h
of_part cut n b h e = absurd h

pub numeral_is_chain : (ns : List ReadNode) (n : ℕ) → IsWholeTree ns → IsTermOf ns (church_term n) → ns ≡ chain 2 n
numeral_is_chain ns n w i =
    let same : w.tree ≡ i.tree = list_is_of_one_tree w.tree i.tree (w.is_list ∙ sym i.is_list) in
    sym i.is_list ∙ of_part i.tree n (subst (IsBound [] 0) same w.bound)
    (subst HasAllHeads (sym i.is_list) i.whole) i.is

-- ---- the places, one after another

place_is : (l b a : ℕ) (m : ReadNode) → is_place l b a m ≡ true → m ≡ node.Head l (own b) a
place_is l b a (node.Head k (var.Bound i j) c) e =
    let p = and_parts (k == l) ((c == a) && ((i == 0) && (j == b))) e in
    let q = and_parts (c == a) ((i == 0) && (j == b)) p.1 in
    let r = and_parts (i == 0) (j == b) q.1 in
    ap (λ k. node.Head k (var.Bound i j) c) (eqb-true k l p.0) ∙ ap (λ i. node.Head l (var.Bound i j) c) (eqb-true i 0 r.0)
    ∙ ap (λ j. node.Head l (var.Bound 0 j) c) (eqb-true j b r.1) ∙ ap (node.Head l (own b)) (eqb-true c a q.0)
place_is l b a (node.Head k (var.Free q) c) e =
    let p = and_parts (k == l) ((c == a) && false) e in
    let q = and_parts (c == a) false p.1 in absurd (no_clash q.1)
  where
    no_clash : false ≡ true → ⊥
    no_clash e = cc
place_is l b a node.NoHead e = absurd (cc)
place_is l b a node.Cut e = absurd (cc)

is_place_self : (l b a : ℕ) → is_place l b a (node.Head l (own b) a) ≡ true
is_place_self l b a = both (l == l) (a == a) (b == b) (same l) (same a) (same b)
  where
    same : (n : ℕ) → (n == n) ≡ true
    same n = eq-eqb n n refl

    both : (x y z : Bool) → x ≡ true → y ≡ true → z ≡ true → (x && (y && (true && z))) ≡ true
    both true true true e f g = refl
    both true true false e f g = g
    both true false z e f g = f
    both false y z e f g = e

abbrev args_of : ReadNode → ℕ
args_of (node.Head l v k) = k
args_of node.NoHead = 0
args_of node.Cut = 0

link_no_end : (l : ℕ) (m : ReadNode) → is_place l 1 1 m ≡ true → is_place l 2 0 m ≡ true → ⊥
link_no_end l m e f =
    let h : node.Head l (own 1) 1 ≡ node.Head l (own 2) 0 = sym (place_is l 1 1 m e) ∙ place_is l 2 0 m f in
    let k : ◌≡◌ {A = ℕ} 1 0 = ap args_of h in
    omega arith

last_some : (ms : List ReadNode) (c n : ℕ) → some_if_last ms c ≡ Some n → (ms ≡ []) × (n ≡ c)
last_some [] c n e = (refl, sym (same_Some c n e))
last_some (m ∷ ms) c n e = absurd (none-some n e)

record IsFound (c l : ℕ) (ms : List ReadNode) (n : ℕ) : Type 0 where
  more : ℕ
  is : n ≡ c + more
  places : ms ≡ chain l more

found_from : (c l : ℕ) (ms : List ReadNode) (n : ℕ) → numeral_from c l ms ≡ Some n → IsFound c l ms n
found_from c l [] n e = absurd (none-some n e)
found_from c l (m ∷ ms) n e = go (is_place l 1 1 m) refl (λ f. found_from (c + 1) 0 ms n f)
  where
    ends : (b : Bool) → is_place l 2 0 m ≡ b → (if b then some_if_last ms c else None) ≡ Some n → IsFound c l (m ∷ ms) n
    ends true h f =
        let p = last_some ms c n f in
        record { more = 0; is = omega arith; places = ap (λ ms. m ∷ ms) p.0 ∙ ap (λ m. m ∷ []) (place_is l 2 0 m h) }
    ends false h f = absurd (none-some n f)

    go : (b : Bool) → is_place l 1 1 m ≡ b → (numeral_from (c + 1) 0 ms ≡ Some n → IsFound (c + 1) 0 ms n) →
        IsFound c l (m ∷ ms) n
    go true h rec =
        let f = rec (subst (λ (b : Bool). (if b then numeral_from (c + 1) 0 ms
        else if is_place l 2 0 m then some_if_last ms c else None) ≡ Some n) h e) in
        record {
          more = suc f.more;
          is = let i = f.is in omega arith;
          places = ap (λ ms. m ∷ ms) f.places ∙ ap (λ m. m ∷ chain 0 f.more) (place_is l 1 1 m h);
        }
    go false h rec = ends (is_place l 2 0 m) refl (subst (λ (b : Bool). (if b then numeral_from (c + 1) 0 ms
        else if is_place l 2 0 m then some_if_last ms c else None) ≡ Some n) h e)

finds_from : (c l n : ℕ) → numeral_from c l (chain l n) ≡ Some (c + n)
finds_from c l zero = go (is_place l 1 1 (node.Head l (own 2) 0)) refl
  where
    go : (b : Bool) → is_place l 1 1 (node.Head l (own 2) 0) ≡ b → (if b then numeral_from (c + 1) 0 []
        else if is_place l 2 0 (node.Head l (own 2) 0) then Some c else None) ≡ Some (c + 0)
    go true h = absurd (link_no_end l (node.Head l (own 2) 0) h (is_place_self l 2 0))
    go false h = ap (λ (b : Bool). if b then Some c else None) (is_place_self l 2 0)
        ∙ (let e : c ≡ c + 0 = omega arith in ap (λ (n : ℕ). Some n) e)
finds_from c l (suc n) =
    let e : c + 1 + n ≡ c + suc n = omega arith in
    ap (λ (b : Bool). if b then numeral_from (c + 1) 0 (chain 0 n)
    else if is_place l 2 0 (node.Head l (own 1) 1) then some_if_last (chain 0 n) c else None) (is_place_self l 1 1)
    ∙ finds_from (c + 1) 0 n ∙ ap (λ (n : ℕ). Some n) e

-- ---- one place after another

abbrev chosen : ℕ → ℕ → ReadNode → List ReadNode → Bool → Option ℕ
chosen c l m ms b = if b then numeral_from (c + 1) 0 ms else if is_place l 2 0 m then some_if_last ms c else None

pub one_link : (ns : List ReadNode) (c l : ℕ) (m : ReadNode) (o : Option ℕ) → slice_get ns c ≡ Some m →
    is_place l 1 1 m ≡ true → numeral_from c l (drop c ns) ≡ o → numeral_from (c + 1) 0 (drop (c + 1) ns) ≡ o
one_link ns c l m o e h i =
    let k : c + 1 ≡ suc c = omega arith in
    ap (λ k. numeral_from (c + 1) 0 (drop k ns)) k ∙ sym (ap (chosen c l m (drop (suc c) ns)) h)
    ∙ sym (ap (numeral_from c l) (drop_at ns c m e)) ∙ i

pub no_link : (ns : List ReadNode) (c l : ℕ) (m : ReadNode) (o : Option ℕ) → slice_get ns c ≡ Some m →
    is_place l 1 1 m ≡ false → numeral_from c l (drop c ns) ≡ o → end_at ns c l m ≡ o
no_link ns c l m o e h i =
    sym (go (is_place l 2 0 m) (drop (suc c) ns) (c + 1 == length ns) refl (length-drop (suc c) ns))
    ∙ sym (ap (chosen c l m (drop (suc c) ns)) h) ∙ sym (ap (numeral_from c l) (drop_at ns c m e)) ∙ i
  where
    within : c < length ns
    within = slice_get_within ns c m e

    go : (q : Bool) (ms : List ReadNode) (b : Bool) → (c + 1 == length ns) ≡ b → length ms ≡ length ns - suc c →
        (if q then some_if_last ms c else None) ≡ (if q && b then Some c else None)
    go false ms b f g = refl
    go true [] true f g = refl
    go true (x ∷ ms) true f g = let k = eqb-true (c + 1) (length ns) f in absurd (omega arith)
    go true [] false f g = let w = within in absurd (no_clash (sym f ∙ eq-eqb (c + 1) (length ns) (omega arith)))
      where
        no_clash : false ≡ true → ⊥
        no_clash e = cc
    go true (x ∷ ms) false f g = refl

pub all_links : (ns : List ReadNode) (c l : ℕ) (o : Option ℕ) → length ns ≤ c → numeral_from c l (drop c ns) ≡ o → None ≡ o
all_links ns c l o h e = sym (ap (numeral_from c l) (drop_all c ns h)) ∙ e

pub numeral_is : (ns : List ReadNode) (o : Option ℕ) → IsWholeTree ns → o ≡ numeral_from 0 2 ns → IsNumeralOf ns o
numeral_is ns None w e = λ n i. none-some (0 + n) (e ∙ ap (numeral_from 0 2) (numeral_is_chain ns n w i) ∙ finds_from 0 2 n)
numeral_is ns (Some n) w e =
    let f = found_from 0 2 ns n (sym e) in
    chain_is_numeral ns n (f.places ∙ (let h = f.is in let g : f.more ≡ n = omega arith in ap (chain 2) g))
