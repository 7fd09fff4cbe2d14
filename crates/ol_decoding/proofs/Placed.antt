-- The place at the end of a path, and the path of a place.
use Rattle.std.proofs.Common.{◌≡◌, ℕ, zero, suc, ◌+◌, ◌-◌, ◌<◌, ◌≤◌, ◌⊎◌, inl, inr, Bool, true, false, nat_lt, List, [], ◌∷◌, ◌++◌, length, take, drop, get_or, reverse, Option, Some, None, refl, sym, ap, ◌∙◌, subst, arith, append_assoc}
use Rattle.std.specs.Prelude.{slice_get}
use Rattle.std.proofs.lemmas.List.{append-nil, take_all, length-append, take-append-drop, drop_all, reverse-append}
use Rattle.std.proofs.lemmas.Bool.Decides.{nat_tests}
use Rattle.std.proofs.Math.Seq.{take-suc}
use Rattle.ol_readback.specs.declared.answers.ReadNode.{ReadNode}
use Rattle.ol_readback.specs.declared.answers.ReadNode.TheVariants as node
use Rattle.ol_readback.specs.Whole.{Part, term, lost, cut, none, more, count, preorder, IsWholeTree}
use Rattle.ol_readback.proofs.OneTree.{count_one, list_is_of_one_tree}
use Rattle.ol_readback.proofs.Printed.{drop_at}
use Rattle.ol_equal.specs.Comparing.{place_at}
use Rattle.ol_equal.specs.Paths.{PathLeads, root, inside, first, later, IsPathTo}
use Rattle.ol_equal.specs.Walking.{args_of, State, back, walked}
use Rattle.ol_equal.proofs.Walks.{path_found, path-within, walked-step}
use Rattle.ol_decoding.specs.AddedLines.{skipped}

-- what a path leads through
abbrev Within : Part true → ℕ → List ℕ → ℕ → Type 0
Within (term l v ts) j js n = (m : ℕ) × (n ≡ suc m) × PathLeads false ts (j ∷ js) m
Within lost j js n = ⊥
Within cut j js n = ⊥

abbrev Among : Part false → ℕ → List ℕ → ℕ → Type 0
Among none j js n = ⊥
Among (more t ts) j js n = ((j ≡ 1) × PathLeads true t js n)
    ⊎ ((i : ℕ) × (m : ℕ) × (j ≡ suc i) × (n ≡ length (preorder t) + m) × PathLeads false ts (i ∷ js) m)

abbrev View : (b : Bool) → Part b → List ℕ → ℕ → Type 0
View true t [] n = n ≡ 0
View true t (j ∷ js) n = Within t j js n
View false t [] n = ⊥
View false t (j ∷ js) n = Among t j js n

view : {b : Bool} {t : Part b} {js : List ℕ} {n : ℕ} → PathLeads b t js n → View b t js n
view (root t) = refl
view (inside l v ts j js n r) = (n, refl, r)
view (first t ts js n r) = inl (refl, r)
view (later t ts j js n r) = inr (j, n, refl, refl, r)

-- argument numbers are from 1 to as many as there are
few : (ts : Part false) (j : ℕ) (js : List ℕ) (n : ℕ) → PathLeads false ts (j ∷ js) n → (1 ≤ j) × (j ≤ count ts)
few none j js n r = absurd (view r)
few (more t ts) j js n r = go (λ i m r. few ts i js m r) (view r)
  where
    go : ((i m : ℕ) → PathLeads false ts (i ∷ js) m → (1 ≤ i) × (i ≤ count ts)) → Among (more t ts) j js n →
        (1 ≤ j) × (j ≤ suc (count ts))
    go h (inl (e, r)) = (omega arith, omega arith)
    go h (inr (i, m, e, f, r)) = let b = h i m r in (omega (arith, b, e), omega (arith, b, e))

-- whole trees that are skipped
skipped_more : (ns : List ReadNode) (c d : ℕ) → c ≡ d → skipped ns c ≡ skipped ns d
skipped_more ns c d e = ap (skipped ns) e

over : {b : Bool} (t : Part b) (rest : List ReadNode) (c : ℕ) →
    skipped (preorder t ++ rest) (count t + c) ≡ length (preorder t) + skipped rest c
over (term l v ts) rest c =
    let e : 1 + c ≡ suc c = omega arith in
    ap (skipped (preorder (term l v ts) ++ rest)) e ∙ ap suc (over ts rest c) ∙ omega arith
over lost rest c = ap (skipped (node.NoHead ∷ rest)) (let e : 1 + c ≡ suc c = omega arith in e)
    ∙ ap (λ (n : ℕ). suc (skipped rest n)) (let e : 0 + c ≡ c = omega arith in e) ∙ omega arith
over cut rest c = ap (skipped (node.Cut ∷ rest)) (let e : 1 + c ≡ suc c = omega arith in e)
    ∙ ap (λ (n : ℕ). suc (skipped rest n)) (let e : 0 + c ≡ c = omega arith in e) ∙ omega arith
over none rest c = ap (skipped rest) (let e : 0 + c ≡ c = omega arith in e) ∙ omega arith
over (more t ts) rest c =
    let one = count_one t in
    let l = length-append (preorder t) (preorder ts) in
    let a = ap (λ (ns : List ReadNode). skipped ns (count (more t ts) + c)) (append_assoc (preorder t) (preorder ts) rest) in
    let b = skipped_more (preorder t ++ (preorder ts ++ rest)) (count (more t ts) + c) (count t + (count ts + c))
    (omega arith) in
    let d = over t (preorder ts ++ rest) (count ts + c) in
    let e = over ts rest c in
    a ∙ b ∙ d ∙ omega arith

-- the tree with this number, from 1
record Child (ts : Part false) (rest : List ReadNode) (j : ℕ) : Type 0 where
  tree : Part true
  after : List ReadNode
  at : ℕ
  place : at ≡ skipped (preorder ts ++ rest) (j - 1)
  here : drop at (preorder ts ++ rest) ≡ preorder tree ++ after
  leads : (js : List ℕ) (n : ℕ) → PathLeads true tree js n → PathLeads false ts (j ∷ js) (at + n)
  only : (js : List ℕ) (m : ℕ) → PathLeads false ts (j ∷ js) m →
      (n : ℕ) × PathLeads true tree js n × (m ≡ at + n)

drop_over : (xs ys : List ReadNode) (n : ℕ) → drop (length xs + n) (xs ++ ys) ≡ drop n ys
drop_over [] ys n = ap (λ (m : ℕ). drop m ys) (omega arith)
drop_over (x ∷ xs) ys n = ap (λ (m : ℕ). drop m (x ∷ (xs ++ ys))) (let e : suc (length xs) + n ≡ suc (length xs + n) = omega arith in e)
    ∙ drop_over xs ys n

child : (ts : Part false) (rest : List ReadNode) (i : ℕ) → i < count ts → Child ts rest (suc i)
child none rest i b = absurd (omega arith)
child (more t ts) rest zero b = record {
  tree = t;
  after = preorder ts ++ rest;
  at = 0;
  place = refl;
  here = append_assoc (preorder t) (preorder ts) rest;
  leads = λ js n r. subst (λ (m : ℕ). PathLeads false (more t ts) (1 ∷ js) m) (omega arith) (first t ts js n r);
  only = λ js m r. go js m (view r);
}
  where
    go : (js : List ℕ) (m : ℕ) → Among (more t ts) 1 js m → (n : ℕ) × PathLeads true t js n × (m ≡ 0 + n)
    go js m (inl (e, r)) = (m, r, omega arith)
    go js m (inr (i, n, e, f, r)) = let h = (few ts i js n r).0 in absurd (omega (arith, h, e))
child (more t ts) rest (suc i) b =
    let c = child ts rest i (omega arith) in
    record {
      tree = c.tree;
      after = c.after;
      at = length (preorder t) + c.at;
      place = let one = count_one t in let p = c.place in
          let q : skipped (preorder (more t ts) ++ rest) (suc (suc i) - 1) ≡ length (preorder t) + skipped (preorder ts ++ rest) i
          = ap (λ (ns : List ReadNode). skipped ns (suc (suc i) - 1)) (append_assoc (preorder t) (preorder ts) rest)
          ∙ skipped_more (preorder t ++ (preorder ts ++ rest)) (suc (suc i) - 1) (count t + i) (omega arith)
          ∙ over t (preorder ts ++ rest) i in
          let r = skipped_more (preorder ts ++ rest) (suc i - 1) i (omega arith) in omega arith;
      here = ap (drop (length (preorder t) + c.at)) (append_assoc (preorder t) (preorder ts) rest)
          ∙ drop_over (preorder t) (preorder ts ++ rest) c.at ∙ c.here;
      leads = λ js n r. subst (λ (m : ℕ). PathLeads false (more t ts) (suc (suc i) ∷ js) m) (omega arith)
          (later t ts (suc i) js (c.at + n) (c.leads js n r));
      only = λ js m r. go c js m (view r);
    }
  where
    go : (c : Child ts rest (suc i)) (js : List ℕ) (m : ℕ) → Among (more t ts) (suc (suc i)) js m →
        (n : ℕ) × PathLeads true c.tree js n × (m ≡ length (preorder t) + c.at + n)
    go c js m (inl (e, r)) = absurd (omega arith)
    go c js m (inr (k, n, e, f, r)) =
        let e' : k ≡ suc i = omega arith in
        let h = c.only js n (subst (λ (k : ℕ). PathLeads false ts (k ∷ js) n) e' r) in
        let g = h.2 in
        (h.0, h.1, omega arith)

-- So much of a path leads to the tree that begins at this place.
pub record Found (ns : List ReadNode) (path : List ℕ) (k at : ℕ) : Type 0 where
  pub whole : Part true
  pub listed : preorder whole ≡ ns
  pub tree : Part true
  pub rest : List ReadNode
  pub here : drop at ns ≡ preorder tree ++ rest
  pub leads : (js : List ℕ) (n : ℕ) → PathLeads true tree js n → PathLeads true whole (take k path ++ js) (at + n)
  pub only : (js : List ℕ) (m : ℕ) → PathLeads true whole (take k path ++ js) m →
      (n : ℕ) × PathLeads true tree js n × (m ≡ at + n)

pub found_first : (ns : List ReadNode) (path : List ℕ) → IsWholeTree ns → Found ns path 0 0
found_first ns path w = record {
  whole = w.tree;
  listed = w.is_list;
  tree = w.tree;
  rest = [];
  here = sym (append-nil (preorder w.tree) ∙ w.is_list);
  leads = λ js n r. subst (λ (m : ℕ). PathLeads true w.tree js m) (omega arith) r;
  only = λ js m r. (m, r, omega arith);
}

drop_drop : (m n : ℕ) (ns : List ReadNode) → drop (m + n) ns ≡ drop n (drop m ns)
drop_drop zero n ns = ap (λ (i : ℕ). drop i ns) (omega arith)
drop_drop (suc m) n [] = drop_all (suc m + n) [] (omega arith) ∙ sym (drop_all n [] (omega arith))
drop_drop (suc m) n (x ∷ ns) = ap (λ (i : ℕ). drop i (x ∷ ns)) (let e : suc m + n ≡ suc (m + n) = omega arith in e)
    ∙ drop_drop m n ns

-- the same list has one tree
same_tree : (ns : List ReadNode) (t u : Part true) → preorder t ≡ ns → preorder u ≡ ns → t ≡ u
same_tree ns t u e f = list_is_of_one_tree t u (e ∙ sym f)

module _ (ns : List ReadNode) (path : List ℕ) (k at : ℕ) (f : Found ns path k at) where
  -- a whole path
  pub is_path : length path ≤ k → IsPathTo ns at path
  is_path b = record {
    tree = f.whole;
    listed = f.listed;
    leads = subst (λ (js : List ℕ). PathLeads true f.whole js at) (append-nil (take k path) ∙ take_all k path b)
        (subst (λ (m : ℕ). PathLeads true f.whole (take k path ++ []) m) (omega arith) (f.leads [] 0 (root f.tree)));
  }

  pub is_within : at < length ns
  is_within = path-within ns at (take k path) (record {
    tree = f.whole;
    listed = f.listed;
    leads = subst (λ (js : List ℕ). PathLeads true f.whole js at) (append-nil (take k path))
        (subst (λ (m : ℕ). PathLeads true f.whole (take k path ++ []) m) (omega arith) (f.leads [] 0 (root f.tree)));
  })

  module _ (n : ReadNode) (e : slice_get ns at ≡ Some n) (j : ℕ) (b : k < length path) (p : get_or path k 0 ≡ j) where
    with_j : (js : List ℕ) → take (suc k) path ++ js ≡ take k path ++ (j ∷ js)
    with_j js = ap (λ (x : List ℕ). x ++ js) (take-suc path k 0 b ∙ ap (λ (i : ℕ). take k path ++ i ∷ []) p)
        ∙ append_assoc (take k path) (j ∷ []) js

    first_is : n ∷ drop (suc at) ns ≡ preorder f.tree ++ f.rest
    first_is = sym (drop_at ns at n e) ∙ f.here

    args_are : (t : Part true) → n ∷ drop (suc at) ns ≡ preorder t ++ f.rest → (js : List ℕ) (m : ℕ) →
        Within t j js m → (1 ≤ j) × (j ≤ args_of n)
    args_are (term l v ts) q js m (i, z, r) =
        let q' : n ∷ drop (suc at) ns ≡ node.Head l v (count ts) ∷ (preorder ts ++ f.rest) = q in
        let h : n ≡ node.Head l v (count ts) = cc in
        let g = few ts j js i r in
        let g1 = g.1 in
        let a : args_of n ≡ count ts = ap args_of h in
        (g.0, omega arith)
    args_are lost q js m w = absurd w
    args_are cut q js m w = absurd w

    path_is : path ≡ take (suc k) path ++ drop (suc k) path
    path_is = sym (take-append-drop (suc k) path)

    -- there is no such argument
    pub no_argument : ((1 ≤ j) × (j ≤ args_of n) → ⊥) → (m : ℕ) → IsPathTo ns m path → ⊥
    no_argument lacks m r =
        let w = same_tree ns r.tree f.whole r.listed f.listed in
        let l = subst (λ (js : List ℕ). PathLeads true f.whole js m) (path_is ∙ with_j (drop (suc k) path))
        (subst (λ (t : Part true). PathLeads true t path m) w r.leads) in
        let o = f.only (j ∷ drop (suc k) path) m l in
        lacks (args_are f.tree first_is (drop (suc k) path) o.0 (view o.1))

    go : (t : Part true) → n ∷ drop (suc at) ns ≡ preorder t ++ f.rest →
        ((js : List ℕ) (i : ℕ) → PathLeads true t js i → PathLeads true f.whole (take k path ++ js) (at + i)) →
        ((js : List ℕ) (m : ℕ) → PathLeads true f.whole (take k path ++ js) m →
        (i : ℕ) × PathLeads true t js i × (m ≡ at + i)) → 1 ≤ j → j ≤ args_of n →
        Found ns path (suc k) (suc at + skipped (drop (suc at) ns) (j - 1))
    go (term l v ts) q leads only low high =
        let q' : n ∷ drop (suc at) ns ≡ node.Head l v (count ts) ∷ (preorder ts ++ f.rest) = q in
        let h : n ≡ node.Head l v (count ts) = cc in
        let d : drop (suc at) ns ≡ preorder ts ++ f.rest = cc in
        let a : args_of n ≡ count ts = ap args_of h in
        let c = child ts f.rest (j - 1) (omega arith) in
        let s : suc (j - 1) ≡ j = omega arith in
        let z : c.at ≡ skipped (drop (suc at) ns) (j - 1) = c.place ∙ skipped_more (preorder ts ++ f.rest) (suc (j - 1) - 1) (j - 1) (omega arith)
        ∙ ap (λ (x : List ReadNode). skipped x (j - 1)) (sym d) in
        record {
          whole = f.whole;
          listed = f.listed;
          tree = c.tree;
          rest = c.after;
          here = ap (λ (m : ℕ). drop (suc at + m) ns) (sym z) ∙ drop_drop (suc at) c.at ns ∙ ap (drop c.at) d ∙ c.here;
          leads = λ js i r. subst (λ (x : List ℕ). PathLeads true f.whole x (suc at + skipped (drop (suc at) ns) (j - 1) + i))
              (sym (with_j js)) (subst (λ (m : ℕ). PathLeads true f.whole (take k path ++ (j ∷ js)) m) (omega arith)
              (leads (j ∷ js) (suc (c.at + i)) (inside l v ts j js (c.at + i)
              (subst (λ (j : ℕ). PathLeads false ts (j ∷ js) (c.at + i)) s (c.leads js i r)))));
          only = λ js m r. within c js m z s (only (j ∷ js) m (subst (λ (x : List ℕ). PathLeads true f.whole x m) (with_j js) r));
        }
      where
        within : (c : Child ts f.rest (suc (j - 1))) (js : List ℕ) (m : ℕ) → c.at ≡ skipped (drop (suc at) ns) (j - 1) →
            suc (j - 1) ≡ j → (i : ℕ) × PathLeads true (term l v ts) (j ∷ js) i × (m ≡ at + i) →
            (i : ℕ) × PathLeads true c.tree js i × (m ≡ suc at + skipped (drop (suc at) ns) (j - 1) + i)
        within c js m z s (i, r, e) =
            let w = view r in
            let o = c.only js w.0 (subst (λ (j : ℕ). PathLeads false ts (j ∷ js) w.0) (sym s) w.2) in
            let x = w.1 in
            let y = o.2 in
            (o.0, o.1, omega arith)
    go lost q leads only low high =
        let q' : n ∷ drop (suc at) ns ≡ node.NoHead ∷ f.rest = q in
        let h : n ≡ node.NoHead = cc in
        let a : args_of n ≡ 0 = ap args_of h in
        absurd (omega arith)
    go cut q leads only low high =
        let q' : n ∷ drop (suc at) ns ≡ node.Cut ∷ f.rest = q in
        let h : n ≡ node.Cut = cc in
        let a : args_of n ≡ 0 = ap args_of h in
        absurd (omega arith)

    pub argument : 1 ≤ j → j ≤ args_of n → Found ns path (suc k) (suc at + skipped (drop (suc at) ns) (j - 1))
    argument low high = go f.tree first_is f.leads f.only low high

-- one tree less to skip, and its arguments more
pub skips_on : (ns : List ReadNode) (at left : ℕ) (n : ReadNode) → slice_get ns at ≡ Some n → 0 < left →
    skipped (drop at ns) left ≡ suc (skipped (drop (suc at) ns) (args_of n + (left - 1)))
skips_on ns at left n e b = let s : left ≡ suc (left - 1) = omega arith in
    ap (skipped (drop at ns)) s ∙ ap (λ (x : List ReadNode). skipped x (suc (left - 1))) (drop_at ns at n e)

pub skips_none : (ns : List ReadNode) (at left : ℕ) → length ns ≤ at → skipped (drop at ns) left ≡ 0
skips_none ns at left b = ap (λ (x : List ReadNode). skipped x left) (drop_all at ns b) ∙ empty left
  where
    empty : (left : ℕ) → skipped [] left ≡ 0
    empty zero = refl
    empty (suc c) = refl

-- one place back
pub back_more : (args trees : ℕ) (js : List ℕ) → trees < args → back args (trees, js) ≡ (0, (trees + 1) ∷ js)
back_more args trees js b = let t : nat_lt trees args ≡ true = grind (arith, nat_tests) in rw t refl

pub back_over : (args trees : ℕ) (js : List ℕ) → args ≤ trees → back args (trees, js) ≡ (trees - args + 1, js)
back_over args trees js b = let t : nat_lt trees args ≡ false = grind (arith, nat_tests) in rw t refl

pub path_back : (ns : List ReadNode) (place trees : ℕ) (js : List ℕ) → IsWholeTree ns → place < length ns →
    walked (take 0 ns) (trees, js) ≡ walked (take place ns) (0, []) → IsPathTo ns place js
path_back ns place trees js w b e =
    let p = path_found ns place w b in
    subst (λ (js : List ℕ). IsPathTo ns place js) (sym (ap (λ (s : State). s.1) (e ∙ p.walks))) p.is_path

-- a place that is there
pub get_within : (ns : List ReadNode) (at : ℕ) (n : ReadNode) → slice_get ns at ≡ Some n → at < length ns
get_within [] zero n e = absurd (cc)
get_within [] (suc at) n e = absurd (cc)
get_within (m ∷ ns) zero n e = omega arith
get_within (m ∷ ns) (suc at) n e = let r = get_within ns at n e in omega arith

pub get_place : (ns : List ReadNode) (at : ℕ) (n : ReadNode) → slice_get ns at ≡ Some n → place_at ns at ≡ n
get_place [] zero n e = absurd (cc)
get_place [] (suc at) n e = absurd (cc)
get_place (m ∷ ns) zero n e = let f : m ≡ n = cc in f
get_place (m ∷ ns) (suc at) n e = get_place ns at n e

-- where trees are skipped
pub skip_on : (ns : List ReadNode) (to at left : ℕ) (n : ReadNode) → slice_get ns at ≡ Some n → 0 < left →
    at + skipped (drop at ns) left ≡ to → at + 1 + skipped (drop (at + 1) ns) (left - 1 + args_of n) ≡ to
skip_on ns to at left n e b t =
    let a = skips_on ns at left n e b in
    let f : at + 1 ≡ suc at = omega arith in
    let g : left - 1 + args_of n ≡ args_of n + (left - 1) = omega arith in
    let h = ap (λ (m : ℕ). skipped (drop m ns) (left - 1 + args_of n)) f ∙ ap (skipped (drop (suc at) ns)) g in
    omega arith

pub skip_done : (ns : List ReadNode) (to at left : ℕ) → left ≡ 0 → at + skipped (drop at ns) left ≡ to → at ≡ to
skip_done ns to at left e t = let z = ap (skipped (drop at ns)) e in omega arith

pub skip_past : (ns : List ReadNode) (to at left : ℕ) → length ns ≤ at → at + skipped (drop at ns) left ≡ to → at ≡ to
skip_past ns to at left b t = let z = skips_none ns at left b in omega arith

-- the next argument of a path
pub next_argument : (ns : List ReadNode) (path : List ℕ) (k at : ℕ) → Found ns path k at → (n : ReadNode) →
    slice_get ns at ≡ Some n → (j : ℕ) → k < length path → get_or path k 0 ≡ j → 1 ≤ j → j ≤ args_of n → (to : ℕ) →
    to ≡ at + 1 + skipped (drop (at + 1) ns) (j - 1) → Found ns path (k + 1) to
next_argument ns path k at f n e j b p low high to t =
    let a : at + 1 ≡ suc at = omega arith in
    let q : suc at + skipped (drop (suc at) ns) (j - 1) ≡ to =
    (let z = ap (λ (m : ℕ). skipped (drop m ns) (j - 1)) a in omega arith) in
    subst (λ (m : ℕ). Found ns path m to) (let s : suc k ≡ k + 1 = omega arith in s)
    (subst (λ (m : ℕ). Found ns path (suc k) m) q (argument ns path k at f n e j b p low high))

-- a place that is asked for
pub path_on : (ns : List ReadNode) (at trees : ℕ) (js : List ℕ) (to : State) (n : ReadNode) → 0 < at → at ≤ length ns →
    slice_get ns (at - 1) ≡ Some n → walked (take at ns) (trees, js) ≡ to →
    walked (take (at - 1) ns) (back (args_of n) (trees, js)) ≡ to
path_on ns at trees js to n pos le e t =
    ap (λ (m : ReadNode). walked (take (at - 1) ns) (back (args_of m) (trees, js))) (sym (get_place ns (at - 1) n e))
    ∙ sym (walked-step ns at (trees, js) pos le) ∙ t

pub path_down : (ns : List ReadNode) (at trees : ℕ) (numbers grown : List ℕ) (to : State) (n : ReadNode) → 0 < at →
    at ≤ length ns → slice_get ns (at - 1) ≡ Some n → trees < args_of n → grown ≡ numbers ++ (trees + 1) ∷ [] →
    walked (take at ns) (trees, reverse numbers) ≡ to → walked (take (at - 1) ns) (0, reverse grown) ≡ to
path_down ns at trees numbers grown to n pos le e b m t =
    ap (λ (js : List ℕ). walked (take (at - 1) ns) (0, js)) (ap reverse m ∙ reverse-append numbers ((trees + 1) ∷ []))
    ∙ ap (walked (take (at - 1) ns)) (sym (back_more (args_of n) trees (reverse numbers) b))
    ∙ path_on ns at trees (reverse numbers) to n pos le e t

pub path_over : (ns : List ReadNode) (at trees : ℕ) (numbers : List ℕ) (to : State) (n : ReadNode) → 0 < at →
    at ≤ length ns → slice_get ns (at - 1) ≡ Some n → args_of n ≤ trees →
    walked (take at ns) (trees, reverse numbers) ≡ to →
    walked (take (at - 1) ns) (trees - args_of n + 1, reverse numbers) ≡ to
path_over ns at trees numbers to n pos le e b t =
    ap (walked (take (at - 1) ns)) (sym (back_over (args_of n) trees (reverse numbers) b))
    ∙ path_on ns at trees (reverse numbers) to n pos le e t

-- a place that is there is found
pub get_none : (ns : List ReadNode) (at : ℕ) → slice_get ns at ≡ None → at < length ns → ⊥
get_none [] at e b = absurd (omega arith)
get_none (m ∷ ns) zero e b = absurd (cc)
get_none (m ∷ ns) (suc at) e b = get_none ns at e (omega arith)

pub whole_path : (ns : List ReadNode) (place at trees : ℕ) (numbers path : List ℕ) → IsWholeTree ns → place < length ns →
    at ≡ 0 → path ≡ reverse numbers →
    walked (take at ns) (trees, reverse numbers) ≡ walked (take place ns) (0, []) → IsPathTo ns place path
whole_path ns place at trees numbers path w b z p e = subst (λ (js : List ℕ). IsPathTo ns place js) (sym p)
    (path_back ns place trees (reverse numbers) w b
    (ap (λ (n : ℕ). walked (take n ns) (trees, reverse numbers)) (sym z) ∙ e))
