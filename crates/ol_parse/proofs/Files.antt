-- What holds of the tree and the names of a term.
use Rattle.std.proofs.Common.{◌≡◌, ℕ, ◌+◌, ◌<◌, ◌≤◌, List, [], ◌∷◌, ◌++◌, length, length-append}
use Rattle.std.proofs.Common.{Bool, true, false, ◌&&◌, ◌||◌, cond, eq-eqb, Option, Some, None, inl}
use Rattle.std.proofs.Common.{inr, refl, sym, ap, ◌∙◌, append_assoc, append-nil, arith}
use Rattle.std.proofs.lemmas.Bool.{and_parts, cases_lt, lt-ltb, ltb-true, or_right}
use Rattle.std.specs.Prelude.{max}
use Rattle.std.specs.List.{position_from}
use Rattle.std.specs.Str.{bytes_eq}
use Rattle.ol_term.specs.Trees as tree
use Rattle.ol_term.specs.Trees.{Tree, tree_of, is_below, is_named_below, has_name}
use Rattle.ol_parse.specs.Grammar.{Named, var, lam, app}
use Rattle.ol_parse.specs.Depth.{named_depth}
use Rattle.ol_term.specs.NameLists.{position_of, free_at}
use Rattle.ol_parse.specs.Numbered.{numbered, var_at, names_of, number}
use Rattle.ol_parse.specs.Resolving.{names_from, add_unless}
use Rattle.ol_parse.proofs.Once.{names_once}
use Rattle.ol_parse.proofs.Places.{kept_from, new_from, grows}

-- ---- depth

free_depth : (o : Option ℕ) → tree.depth (free_at o) ≡ 1
free_depth (Some k) = refl
free_depth None = refl

var_depth : (o p : Option ℕ) → tree.depth (var_at o p) ≡ 1
var_depth (Some k) p = refl
var_depth None p = free_depth p

pub same_depth : (t : Named) (names binders : List (List ℕ)) → tree.depth (numbered names binders t) ≡ named_depth t
same_depth (var x) names binders = var_depth (position_of x binders) (position_of x names)
same_depth (lam x t) names binders = ap (λ n. 1 + n) (same_depth t names (x ∷ binders))
same_depth (app f a) names binders = ap (λ n. 1 + max n (tree.depth (numbered names binders a)))
    (same_depth f names binders) ∙ ap (λ n. 1 + max (named_depth f) n) (same_depth a names binders)

-- ---- each variable is bound

within : (x : List ℕ) (names : List (List ℕ)) (i k n : ℕ) → n ≡ i + length names →
    position_from (λ y. bytes_eq x y) i names ≡ Some k → k < n
within x [] i k n e h = absurd (cc)
within x (y ∷ ys) i k n e h = go (within x ys (i + 1) k n (omega arith)) (bytes_eq x y) h
  where
    go : (position_from (λ y. bytes_eq x y) (i + 1) ys ≡ Some k → k < n) → (t : Bool) →
        cond t (Some i) (position_from (λ y. bytes_eq x y) (i + 1) ys) ≡ Some k → k < n
    go each true h = let here : i ≡ k = cc in omega arith
    go each false h = each h

pub in_list : (x : List ℕ) (names : List (List ℕ)) (k : ℕ) → position_of x names ≡ Some k → k < length names
in_list x names k h = within x names 0 k (length names) (omega arith) h

pub free_below : (d : ℕ) (o : Option ℕ) → is_below d (free_at o) ≡ true
free_below d (Some k) = refl
free_below d None = refl

var_below : (x : List ℕ) (binders : List (List ℕ)) (o p : Option ℕ) → position_of x binders ≡ o →
    is_below (length binders) (var_at o p) ≡ true
var_below x binders (Some k) p h = lt-ltb k (length binders) (in_list x binders k h)
var_below x binders None p h = free_below (length binders) p

pub bound : (t : Named) (names binders : List (List ℕ)) → is_below (length binders) (numbered names binders t) ≡ true
bound (var x) names binders = var_below x binders (position_of x binders) (position_of x names) refl
bound (lam x t) names binders =
    let e : length binders + 1 ≡ length (x ∷ binders) = omega arith in
    ap (λ d. is_below d (numbered names (x ∷ binders) t)) e ∙ bound t names (x ∷ binders)
bound (app f a) names binders = ap (λ b. b && is_below (length binders) (numbered names binders a))
    (bound f names binders) ∙ bound a names binders

-- ---- each free name is in the list

pub more_named : (m n : ℕ) (t : Tree) → m ≤ n → is_named_below m t ≡ true → is_named_below n t ≡ true
more_named m n (tree.var k) h b = refl
more_named m n (tree.free k) h b = let l = ltb-true k m b in lt-ltb k n (omega arith)
more_named m n (tree.lam t) h b = more_named m n t h b
more_named m n (tree.app f a) h b =
    let (p, q) = and_parts (is_named_below m f) (is_named_below m a) b in
    ap (λ b. b && is_named_below n a) (more_named m n f h p) ∙ more_named m n a h q

-- the place of a name that is free here
record Placed (x : List ℕ) (names names' : List (List ℕ)) : Type 0 where
  pub place : ℕ
  pub low : place < length names'
  pub is : (more : List (List ℕ)) → position_of x (names' ++ more) ≡ Some place
  pub last : (k : ℕ) → length names ≤ k → k < length names' → place ≡ k

add_placed : (x : List ℕ) (names : List (List ℕ)) (o : Option ℕ) → position_of x names ≡ o →
    Placed x names (add_unless names x None o)
add_placed x names (Some k) h =
    let l = in_list x names k h in
    record { place = k; low = l; is = λ more. kept_from x more k names 0 h; last = λ n h p. absurd (omega arith) }
add_placed x names None h = record {
  place = length names;
  low = omega (arith, length-append names (x ∷ []));
  is = λ more. ap (position_of x) (append_assoc names (x ∷ []) more)
      ∙ new_from x more (length names) names 0 (omega arith) h;
  last = λ n h p. omega (arith, length-append names (x ∷ []));
}

var_named : (x : List ℕ) (names more : List (List ℕ)) (o : Option ℕ) →
    is_named_below (length (add_unless names x o (position_of x names)))
    (var_at o (position_of x (add_unless names x o (position_of x names) ++ more))) ≡ true
var_named x names more (Some k) = refl
var_named x names more None =
    let p = add_placed x names (position_of x names) refl in
    ap (λ o. is_named_below (length (add_unless names x None (position_of x names))) (free_at o))
    (p.is more) ∙ lt-ltb p.place (length (add_unless names x None (position_of x names))) p.low

pub all_named : (t : Named) (binders names more : List (List ℕ)) →
    is_named_below (length (names_from binders names t))
    (numbered (names_from binders names t ++ more) binders t) ≡ true
all_named (var x) binders names more = var_named x names more (position_of x binders)
all_named (lam x t) binders names more = all_named t (x ∷ binders) names more
all_named (app f a) binders names more =
    let mid = names_from binders names f in
    let last = names_from binders mid a in
    let (rest, h) = grows a binders mid in
    let w : last ++ more ≡ mid ++ (rest ++ more) = ap (λ x. x ++ more) h ∙ append_assoc mid rest more in
    let l : length last ≡ length mid + length rest = ap length h ∙ length-append mid rest in
    let first : is_named_below (length mid) (numbered (last ++ more) binders f) ≡ true = ap
    (λ n. is_named_below (length mid) (numbered n binders f)) w ∙ all_named f binders names (rest ++ more) in
    ap (λ b. b && is_named_below (length last) (numbered (last ++ more) binders a))
    (more_named (length mid) (length last) (numbered (last ++ more) binders f)
    (omega arith) first) ∙ all_named a binders mid more

-- ---- each name of the list occurs

var_occurs : (x : List ℕ) (names more : List (List ℕ)) (k : ℕ) (o : Option ℕ) → length names ≤ k →
    k < length (add_unless names x o (position_of x names)) →
    has_name k (var_at o (position_of x (add_unless names x o (position_of x names) ++ more))) ≡ true
var_occurs x names more k (Some n) h l = absurd (omega arith)
var_occurs x names more k None h l =
    let p = add_placed x names (position_of x names) refl in
    ap (λ o. has_name k (free_at o)) (p.is more) ∙ eq-eqb p.place k (p.last k h l)

pub each_occurs : (t : Named) (binders names more : List (List ℕ)) (k : ℕ) → length names ≤ k →
    k < length (names_from binders names t) →
    has_name k (numbered (names_from binders names t ++ more) binders t) ≡ true
each_occurs (var x) binders names more k h l = var_occurs x names more k (position_of x binders) h l
each_occurs (lam x t) binders names more k h l = each_occurs t (x ∷ binders) names more k h l
each_occurs (app f a) binders names more k h l =
    let mid = names_from binders names f in
    let last = names_from binders mid a in
    let (rest, g) = grows a binders mid in
    let w : last ++ more ≡ mid ++ (rest ++ more) = ap (λ x. x ++ more) g ∙ append_assoc mid rest more in
    elim (cases_lt k (length mid)) [
      | inl low ↦ ap (λ b. b || has_name k (numbered (last ++ more) binders a))
          (ap (λ n. has_name k (numbered n binders f)) w ∙ each_occurs f binders names (rest ++ more) k h low)
      | inr past ↦ or_right (has_name k (numbered (last ++ more) binders f))
          (has_name k (numbered (last ++ more) binders a)) (each_occurs a binders mid more k (omega arith) l)
    ]

-- ---- of a whole term

pub whole_bound : (t : Named) → is_below 0 (number t) ≡ true
whole_bound t = bound t (names_of t) []

pub whole_named : (t : Named) → is_named_below (length (names_of t)) (number t) ≡ true
whole_named t =
    ap (λ l. is_named_below (length l) (numbered l [] t)) (sym (names_once t))
    ∙ ap (λ l. is_named_below (length (names_from [] [] t)) (numbered l [] t))
    (sym (append-nil (names_from [] [] t))) ∙ all_named t [] [] []

pub whole_occurs : (t : Named) (k : ℕ) → k < length (names_of t) → has_name k (number t) ≡ true
whole_occurs t k l =
    let e = ap length (names_once t) in
    ap (λ n. has_name k (numbered n [] t))
    (sym (names_once t) ∙ sym (append-nil (names_from [] [] t)))
    ∙ each_occurs t [] [] [] k (omega arith) (omega arith)
