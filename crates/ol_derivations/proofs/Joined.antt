-- The application made of two terms is that of their texts.
use Rattle.std.proofs.Common.{◌≡◌, ℕ, zero, suc, ◌+◌, ◌<◌, Bool, true, false, ◌&&◌, cond, List, [], ◌∷◌, ◌++◌, append_assoc, length, Option, Some, None, refl, sym, ap, ◌∙◌, subst, arith}
use Rattle.std.specs.Prelude.{slice_index_or}
use Rattle.std.specs.List.{position_from}
use Rattle.std.specs.Str.{bytes_eq}
use Rattle.std.proofs.lemmas.Bool.{and_parts, lt-ltb, ltb-true}
use Rattle.std.proofs.lemmas.Slice.Eq.{bytes_eq-Decides}
use Rattle.ol_term.specs.Trees as tree
use Rattle.ol_term.specs.Trees.{Tree, tree_of, has_name, is_below, is_named_below, EachOccurs}
use Rattle.ol_term.specs.declared.term_file.TermFile.{TermFile}
use Rattle.ol_term.specs.NameLists.{without, position_of, put_unless, with_names, free_at, in_table}
use Rattle.ol_parse.specs.Grammar.{Named, var, lam, app}
use Rattle.ol_parse.specs.Texts.{IsText}
use Rattle.ol_parse.specs.Numbered.{unbound, free_in, once, names_of, number, numbered, var_at}
use Rattle.ol_parse.specs.Parsed.{IsFileOf}
use Rattle.ol_parse.proofs.Files.{in_list, whole_occurs}
use Rattle.ol_parse.proofs.Once.{both_added, once_added}
use Rattle.ol_parse.proofs.Places.{kept_from, new_from}
use Rattle.ol_parse.proofs.Whole.{one_term}
use Rattle.ol_derivations.specs.Applied.{IsApplied}
use Rattle.ol_derivations.specs.Applications.{with_function, named_with_function, HasArguments, IsFurther, IsFunction, IsInput}
use Rattle.ol_derivations.specs.StudentsSoFar.{IsAppliedFile}
use Rattle.ol_derivations.specs.declared.applying.Function.{Function}
use Rattle.ol_derivations.specs.declared.applying.Input.{Input}
use Rattle.ol_derivations.proofs.Places.{below_kept}
use Rattle.ol_derivations.specs.Heads.{all_names}

abbrev Names : Type 0
Names = List (List ℕ)

abbrev is : List ℕ → List ℕ → Bool
is x = λ y. bytes_eq x y

-- ---- a name in a list

-- each of these names has a place in a list
abbrev AreIn : Names → Names → Type 0
AreIn names [] = Unit {0}
AreIn names (x ∷ xs) = ((k : ℕ) × (position_of x names ≡ Some k)) × AreIn names xs

put_in : (o : Option ℕ) (x : List ℕ) (names : Names) → position_of x names ≡ o →
    (k : ℕ) × (position_of x (put_unless o names x) ≡ Some k)
put_in (Some k) x names h = (k, h)
put_in None x names h = let e : length names ≡ 0 + length names = omega arith in
    (length names, new_from x [] (length names) names 0 e h)

put_kept : (o : Option ℕ) (x y : List ℕ) (names : Names) (k : ℕ) → position_of x names ≡ Some k →
    position_of x (put_unless o names y) ≡ Some k
put_kept (Some n) x y names k h = h
put_kept None x y names k h = kept_from x (y ∷ []) k names 0 h

names_kept : (ys : Names) (x : List ℕ) (names : Names) (k : ℕ) → position_of x names ≡ Some k →
    position_of x (with_names names ys) ≡ Some k
names_kept [] x names k h = h
names_kept (y ∷ ys) x names k h = names_kept ys x (put_unless (position_of y names) names y) k
    (put_kept (position_of y names) x y names k h)

still_in : (xs names ys : Names) → AreIn names xs → AreIn (with_names names ys) xs
still_in [] names ys h = tt
still_in (x ∷ xs) names ys h = ((h.0.0, names_kept ys x names h.0.0 h.0.1), still_in xs names ys h.1)

added_in : (xs names : Names) → AreIn (with_names names xs) xs
added_in [] names = tt
added_in (x ∷ xs) names =
    let h = put_in (position_of x names) x names refl in (
      (h.0, names_kept xs x (put_unless (position_of x names) names x) h.0 h.1),
      added_in xs (put_unless (position_of x names) names x),
    )

once_in : (xs : Names) → AreIn (once xs) xs
once_in xs = subst (λ (names : Names). AreIn names xs) (once_added xs) (added_in xs [])

in_left : (names xs ys : Names) → AreIn names (xs ++ ys) → AreIn names xs
in_left names [] ys h = tt
in_left names (x ∷ xs) ys h = (h.0, in_left names xs ys h.1)

in_right : (names xs ys : Names) → AreIn names (xs ++ ys) → AreIn names ys
in_right names [] ys h = h
in_right names (x ∷ xs) ys h = in_right names xs ys h.1

-- ---- the names of both

gone : (ys : Names) (x : List ℕ) (names : Names) (k : ℕ) → position_of x names ≡ Some k →
    with_names names (without x ys) ≡ with_names names ys
gone [] x names k h = refl
gone (y ∷ ys) x names k h =
    go (bytes_eq x y) refl (gone ys x names k h)
    (gone ys x (put_unless (position_of y names) names y) k (put_kept (position_of y names) x y names k h))
  where
    go : (b : Bool) → bytes_eq x y ≡ b → with_names names (without x ys) ≡ with_names names ys →
        with_names (put_unless (position_of y names) names y) (without x ys)
        ≡ with_names (put_unless (position_of y names) names y) ys →
        with_names names (cond {A = Names} b (without x ys) (y ∷ without x ys))
        ≡ with_names (put_unless (position_of y names) names y) ys
    go true e each other =
        let same : x ≡ y = (bytes_eq-Decides x y).0 e in
        let there : put_unless (position_of y names) names y ≡ names =
        ap (λ (o : Option ℕ). put_unless o names y) (ap (λ (z : List ℕ). position_of z names) (sym same) ∙ h) in
        each ∙ ap (λ (n : Names). with_names n ys) (sym there)
    go false e each other = other

once_gone : (ys names : Names) → with_names names (once ys) ≡ with_names names ys
once_gone [] names = refl
once_gone (y ∷ ys) names =
    let h = put_in (position_of y names) y names refl in
    gone (once ys) y (put_unless (position_of y names) names y) h.0 h.1
    ∙ once_gone ys (put_unless (position_of y names) names y)

both_once : (xs ys : Names) → once (xs ++ ys) ≡ with_names (with_names [] (once xs)) (once ys)
both_once xs ys =
    sym (once_added (xs ++ ys)) ∙ both_added xs ys []
    ∙ ap (λ (n : Names). with_names n ys) (sym (once_gone xs [])) ∙ sym (once_gone ys (with_names [] (once xs)))

free_both : (f : Named) (n : ℕ) (t : Named) → free_in [] (named_with_function f n t) ≡ free_in [] f ++ free_in [] t
free_both f zero t = refl
free_both f (suc n) (app g a) = ap (λ (xs : Names). xs ++ free_in [] a) (free_both f n g)
    ∙ append_assoc (free_in [] f) (free_in [] g) (free_in [] a)
free_both f (suc n) (var x) = refl
free_both f (suc n) (lam x t) = refl

names_both : (f : Named) (n : ℕ) (t : Named) →
    names_of (named_with_function f n t) ≡ all_names (record { a = names_of f; b = names_of t })
names_both f n t = ap once (free_both f n t) ∙ both_once (free_in [] f) (free_in [] t)

-- ---- the tree of both

at_free : (f : Tree) (n : ℕ) (o : Option ℕ) → tree.app f (free_at o) ≡ with_function f (suc n) (free_at o)
at_free f n (Some k) = refl
at_free f n None = refl

numbered_both : (names : Names) (f : Named) (n : ℕ) (t : Named) →
    numbered names [] (named_with_function f n t) ≡ with_function (numbered names [] f) n (numbered names [] t)
numbered_both names f zero t = refl
numbered_both names f (suc n) (app g a) = ap (λ (u : Tree). tree.app u (numbered names [] a)) (numbered_both names f n g)
numbered_both names f (suc n) (var x) = at_free (numbered names [] f) n (position_of x names)
numbered_both names f (suc n) (lam x t) = refl

name_from : (x : List ℕ) (names : Names) (i k : ℕ) → position_from (is x) i names ≡ Some k →
    (j : ℕ) × (k ≡ i + j) × (slice_index_or names j [] ≡ x)
name_from x [] i k h = absurd (cc)
name_from x (y ∷ ys) i k h = go (λ p. name_from x ys (i + 1) k p) (bytes_eq x y) refl h
  where
    go : (position_from (is x) (i + 1) ys ≡ Some k → (j : ℕ) × (k ≡ i + 1 + j) × (slice_index_or ys j [] ≡ x)) →
        (b : Bool) → bytes_eq x y ≡ b → cond {A = Option ℕ} b (Some i) (position_from (is x) (i + 1) ys) ≡ Some k →
        (j : ℕ) × (k ≡ i + j) × (slice_index_or (y ∷ ys) j [] ≡ x)
    go each true e p = let same : i ≡ k = cc in (0, omega (arith, same), sym ((bytes_eq-Decides x y).0 e))
    go each false e p = let h = each p in (suc h.0, omega (arith, h.1), h.2)

name_at : (x : List ℕ) (names : Names) (k : ℕ) → position_of x names ≡ Some k → slice_index_or names k [] ≡ x
name_at x names k h =
    let p = name_from x names 0 k h in
    let e : k ≡ p.0 = omega (arith, p.1) in
    ap (λ (j : ℕ). slice_index_or names j []) e ∙ p.2

table_var : (table names : Names) (x : List ℕ) (o p : Option ℕ) → position_of x names ≡ p →
    AreIn names (unbound x o) → in_table table names (var_at o p) ≡ var_at o (position_of x table)
table_var table names x (Some k) p e h = refl
table_var table names x None (Some k) e h =
    ap (λ (y : List ℕ). free_at (position_of y table)) (name_at x names k e)
table_var table names x None None e h = let q : None ≡ Some h.0.0 = sym e ∙ h.0.1 in absurd (cc)

-- a tree that is numbered by its own names, in a table
tabled : (table names binders : Names) (t : Named) → AreIn names (free_in binders t) →
    in_table table names (numbered names binders t) ≡ numbered table binders t
tabled table names binders (var x) h = table_var table names x (position_of x binders) (position_of x names) refl h
tabled table names binders (lam x t) h = ap tree.lam (tabled table names (x ∷ binders) t h)
tabled table names binders (app f a) h =
    ap (λ (u : Tree). tree.app u (in_table table names (numbered names binders a)))
    (tabled table names binders f (in_left names (free_in binders f) (free_in binders a) h))
    ∙ ap (λ (u : Tree). tree.app (numbered table binders f) u)
    (tabled table names binders a (in_right names (free_in binders f) (free_in binders a) h))

own_tabled : (table : Names) (t : Named) → in_table table (names_of t) (number t) ≡ numbered table [] t
own_tabled table t = tabled table (names_of t) [] t (once_in (free_in [] t))

-- ---- bound variables and free names

below_with : (f : Tree) (n : ℕ) (t : Tree) (d : ℕ) → is_below d f ≡ true → is_below d t ≡ true →
    is_below d (with_function f n t) ≡ true
below_with f zero t d h k = ap (λ (b : Bool). b && is_below d t) h ∙ k
below_with f (suc n) (tree.app g a) d h k =
    let (p, q) = and_parts (is_below d g) (is_below d a) k in
    ap (λ (b : Bool). b && is_below d a) (below_with f n g d h p) ∙ q
below_with f (suc n) (tree.var i) d h k = ap (λ (b : Bool). b && is_below d (tree.var i)) h ∙ k
below_with f (suc n) (tree.free i) d h k = ap (λ (b : Bool). b && is_below d (tree.free i)) h ∙ k
below_with f (suc n) (tree.lam t) d h k = ap (λ (b : Bool). b && is_below d (tree.lam t)) h ∙ k

named_with : (f : Tree) (n : ℕ) (t : Tree) (m : ℕ) → is_named_below m f ≡ true → is_named_below m t ≡ true →
    is_named_below m (with_function f n t) ≡ true
named_with f zero t m h k = ap (λ (b : Bool). b && is_named_below m t) h ∙ k
named_with f (suc n) (tree.app g a) m h k =
    let (p, q) = and_parts (is_named_below m g) (is_named_below m a) k in
    ap (λ (b : Bool). b && is_named_below m a) (named_with f n g m h p) ∙ q
named_with f (suc n) (tree.var i) m h k = ap (λ (b : Bool). b && is_named_below m (tree.var i)) h ∙ k
named_with f (suc n) (tree.free i) m h k = ap (λ (b : Bool). b && is_named_below m (tree.free i)) h ∙ k
named_with f (suc n) (tree.lam t) m h k = ap (λ (b : Bool). b && is_named_below m (tree.lam t)) h ∙ k

at_in : (table xs : Names) (k : ℕ) → k < length xs → AreIn table xs →
    (j : ℕ) × (position_of (slice_index_or xs k []) table ≡ Some j)
at_in table [] k l h = absurd (omega (arith, l))
at_in table (x ∷ xs) zero l h = h.0
at_in table (x ∷ xs) (suc k) l h = at_in table xs k (omega (arith, l)) h.1

named_in : (table names : Names) (t : Tree) → AreIn table names → is_named_below (length names) t ≡ true →
    is_named_below (length table) (in_table table names t) ≡ true
named_in table names (tree.var k) h n = refl
named_in table names (tree.free k) h n =
    let p = at_in table names k (ltb-true k (length names) n) h in
    ap (λ (o : Option ℕ). is_named_below (length table) (free_at o)) p.1
    ∙ lt-ltb p.0 (length table) (in_list (slice_index_or names k []) table p.0 p.1)
named_in table names (tree.lam t) h n = named_in table names t h n
named_in table names (tree.app f a) h n =
    let (p, q) = and_parts (is_named_below (length names) f) (is_named_below (length names) a) n in
    ap (λ (b : Bool). b && is_named_below (length table) (in_table table names a)) (named_in table names f h p)
    ∙ named_in table names a h q

pub both_bound : (table a b : Names) (f t : Tree) (n : ℕ) → is_below 0 f ≡ true → is_below 0 t ≡ true →
    is_below 0 (with_function (in_table table a f) n (in_table table b t)) ≡ true
both_bound table a b f t n h k = below_with (in_table table a f) n (in_table table b t) 0
    (below_kept table a f 0 ∙ h) (below_kept table b t 0 ∙ k)

pub both_named : (a b : Names) (f t : Tree) (n : ℕ) → is_named_below (length a) f ≡ true →
    is_named_below (length b) t ≡ true →
    let all = all_names (record { a = a; b = b }) in
    is_named_below (length all) (with_function (in_table all a f) n (in_table all b t)) ≡ true
both_named a b f t n h k =
    let all = all_names (record { a = a; b = b }) in
    named_with (in_table all a f) n (in_table all b t) (length all)
    (named_in all a f (still_in a (with_names [] a) b (added_in a [])) h)
    (named_in all b t (added_in b (with_names [] a)) k)

-- ---- the application

-- a function before the arguments of a line, whatever its number of arguments
pub joined_to : (function line : List ℕ) (f : Named) (n : ℕ) (i : HasArguments line n) (t : Tree) (names : Names) →
    IsText function f → t ≡ number (named_with_function f n i.term) →
    names ≡ names_of (named_with_function f n i.term) → IsApplied function line t names
joined_to function line f n i t names is e k = record {
  of = f;
  text = is;
  tokens = i.text.tokens;
  spelled = i.text.spelled;
  whole = named_with_function f n i.term;
  applied = i.applied f;
  tree = e;
  free_names = k;
}

abbrev pub joined_tree : ℕ → (a b : Names) → (f t : Tree) → Tree
joined_tree n a b f t = let all = all_names (record { a = a; b = b }) in
    with_function (in_table all a f) n (in_table all b t)

own_joined : (n : ℕ) (f t : Named) →
    joined_tree n (names_of f) (names_of t) (number f) (number t) ≡ number (named_with_function f n t)
own_joined n f t =
    let all = all_names (record { a = names_of f; b = names_of t }) in
    ap (λ (u : Tree). with_function u n (in_table all (names_of t) (number t))) (own_tabled all f)
    ∙ ap (with_function (numbered all [] f) n) (own_tabled all t)
    ∙ sym (numbered_both all f n t)
    ∙ ap (λ (names : Names). numbered names [] (named_with_function f n t)) (sym (names_both f n t))

pub joined : (function line : List ℕ) (n : ℕ) (a b : Names) (f l t : Tree) (names : Names) → IsFileOf function f a →
    IsFileOf line l b → HasArguments line n → t ≡ joined_tree n a b f l →
    names ≡ all_names (record { a = a; b = b }) → IsApplied function line t names
joined function line n a b f l t names p q h e k =
    let F = p.named in
    let L = h.term in
    let same : q.named ≡ L = one_term line q.named L q.text h.text in
    let b_is : b ≡ names_of L = q.free_names ∙ ap names_of same in
    let l_is : l ≡ number L = q.tree ∙ ap number same in
    joined_to function line F n h t names p.text
    (e ∙ ap (λ (a : Names). joined_tree n a b f l) p.free_names
    ∙ ap (λ (b : Names). joined_tree n (names_of F) b f l) b_is
    ∙ ap (λ (f : Tree). joined_tree n (names_of F) (names_of L) f l) p.tree
    ∙ ap (λ (l : Tree). joined_tree n (names_of F) (names_of L) (number F) l) l_is
    ∙ own_joined n F L)
    (k ∙ ap (λ (a : Names). all_names (record { a = a; b = b })) p.free_names
    ∙ ap (λ (b : Names). all_names (record { a = names_of F; b = b })) b_is
    ∙ sym (names_both F n L))

-- ---- functions and inputs

pub no_room : (f : Function) (i : Input) → IsFunction f → IsFurther i.text.now None →
    IsAppliedFile f.text.now i.text.now None
no_room f i p h =
    let F = p.file.named in
    let whole = named_with_function F h.0 h.1.term in (
      number whole,
      names_of whole,
      joined_to f.text.now i.text.now F h.0 h.1 (number whole) (names_of whole) p.file.text refl refl,
      h.2 F,
    )

pub with_room : (f : Function) (i : Input) (n : ℕ) (t : TermFile) → IsFunction f → IsInput i →
    HasArguments i.text.now n →
    tree_of t.term ≡ joined_tree n f.file.names i.file.names (tree_of f.file.term) (tree_of i.file.term) →
    t.names ≡ all_names (record { a = f.file.names; b = i.file.names }) →
    IsApplied f.text.now i.text.now (tree_of t.term) t.names
with_room f i n t p q h e k = joined f.text.now i.text.now n f.file.names i.file.names (tree_of f.file.term)
    (tree_of i.file.term) (tree_of t.term) t.names p.file q.line.file h e k

pub each_occurs : {function line : List ℕ} {t : Tree} {names : Names} → IsApplied function line t names →
    EachOccurs (length names) t
each_occurs {t = t} {names = names} h k l =
    ap (has_name k) h.tree
    ∙ whole_occurs h.whole k (subst (λ (n : Names). k < length n) h.free_names l)
