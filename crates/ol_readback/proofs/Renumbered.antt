-- The names of a tree's term with names stand for the places of its term.
use Rattle.std.proofs.Common.{◌≡◌, ℕ, zero, suc, ◌+◌, ◌-◌, ◌<◌, ◌≤◌, ◌^◌, List, [], ◌∷◌, ◌++◌, length, get_or, Option}
use Rattle.std.proofs.Common.{Some, None, Bool, true, false, cond, refl, sym, ap, ◌∙◌, subst, arith}
use Rattle.std.specs.Prelude.{slice_get, IsSome}
use Rattle.std.specs.List.{position_from}
use Rattle.std.specs.Str.{bytes_eq}
use Rattle.std.proofs.lemmas.Slice.Eq.{bytes_eq-Decides}
use Rattle.ol_term.specs.Trees as tree
use Rattle.ol_term.specs.Trees.{Tree}
use Rattle.ol_term.specs.NameLists.{NoNameTwice, without, position_of, free_at}
use Rattle.ol_term.specs.BinderNames.{binder_name}
use Rattle.ol_term.proofs.Binders.{binder_is_not_free, binders_differ}
use Rattle.ol_term.proofs.BinderTexts.{not_same}
use Rattle.ol_parse.specs.Grammar as grammar
use Rattle.ol_parse.specs.Grammar.{Named, lams}
use Rattle.ol_parse.specs.Numbered.{unbound, free_in, once, names_of, numbered, var_at}
use Rattle.ol_readback.specs.Whole.{Part, term, lost, cut, none, more, preorder}
use Rattle.ol_readback.specs.Texts.{variable}
use Rattle.ol_readback.specs.Terms.{abstracted, index_of, variable_of, meaning, AreAmong, term_of}
use Rattle.ol_readback.specs.declared.answers.HeadVar.{HeadVar}
use Rattle.ol_readback.specs.declared.answers.HeadVar.TheVariants as var
use Rattle.ol_readback.proofs.Grammatical.{binders, made}
use Rattle.ol_readback.proofs.Scoped.{IsPlaced, IsGood}

-- t binders, the innermost first
abbrev pub scope : List (List ℕ) → ℕ → List (List ℕ)
scope names zero = []
scope names (suc t) = binder_name names t ∷ scope names t

abbrev pub is : List ℕ → List ℕ → Bool
is x = λ y. bytes_eq x y

-- binder x of t
bound_at : (names : List (List ℕ)) (t x k i : ℕ) → length names < 2 ^ 32 → t < 2 ^ 64 →
    k + suc x ≡ t → position_from (is (binder_name names x)) i (scope names t) ≡ Some (i + k)
bound_at names zero x k i h l e = absurd (omega arith)
bound_at names (suc t) x zero i h l e =
    let same : t ≡ x = omega arith in
    let n : i ≡ i + 0 = omega arith in
    ap (λ (b : Bool). cond {A = Option ℕ} b (Some i)
    (position_from (is (binder_name names x)) (i + 1) (scope names t)))
    (ap (λ (t : ℕ). bytes_eq (binder_name names x) (binder_name names t)) same
    ∙ (bytes_eq-Decides (binder_name names x) (binder_name names x)).1 refl)
    ∙ ap (λ (n : ℕ). Some n) n
bound_at names (suc t) x (suc k) i h l e =
    let n : i + 1 + k ≡ i + suc k = omega arith in
    ap (λ (b : Bool). cond {A = Option ℕ} b (Some i) (position_from (is (binder_name names x)) (i + 1) (scope names t)))
    (not_same (binder_name names x) (binder_name names t)
    (binders_differ names x t h (omega arith) (omega arith) (λ s. absurd (omega arith))))
    ∙ bound_at names t x k (i + 1) h (omega arith) (omega arith) ∙ ap (λ (n : ℕ). Some n) n

-- a free name is no binder
free_none : (names : List (List ℕ)) (x : List ℕ) (k : ℕ) → slice_get names k ≡ Some x →
    length names < 2 ^ 32 → (t i : ℕ) → t < 2 ^ 64 → position_from (is x) i (scope names t) ≡ None
free_none names x k e h zero i l = refl
free_none names x k e h (suc t) i l =
    ap (λ (b : Bool). cond {A = Option ℕ} b (Some i) (position_from (is x) (i + 1) (scope names t)))
    (not_same x (binder_name names t) (λ s.
    binder_is_not_free names t h (omega arith) k (e ∙ ap (λ (x : List ℕ). Some x) s)))
    ∙ free_none names x k e h t (i + 1) (omega arith)

pub first_place : (ns : List (List ℕ)) (x : List ℕ) (k i : ℕ) → slice_get ns k ≡ Some x →
    ((j : ℕ) → j < k → slice_get ns j ≡ Some x → ⊥) → position_from (is x) i ns ≡ Some (i + k)
first_place [] x k i e h = absurd (cc)
first_place (y ∷ ns) x zero i e h =
    let same : y ≡ x = cc in
    let n : i ≡ i + 0 = omega arith in
    ap (λ (b : Bool). cond {A = Option ℕ} b (Some i) (position_from (is x) (i + 1) ns))
    (ap (bytes_eq x) same ∙ (bytes_eq-Decides x x).1 refl) ∙ ap (λ (n : ℕ). Some n) n
first_place (y ∷ ns) x (suc k) i e h =
    let n : i + 1 + k ≡ i + suc k = omega arith in
    ap (λ (b : Bool). cond {A = Option ℕ} b (Some i) (position_from (is x) (i + 1) ns))
    (not_same x y (λ s. h 0 (omega arith) (ap (λ (y : List ℕ). Some y) (sym s))))
    ∙ first_place ns x k (i + 1) e (λ j l. h (suc j) (omega arith)) ∙ ap (λ (n : ℕ). Some n) n

get_some : (names : List (List ℕ)) (k : ℕ) → k < length names → slice_get names k ≡ Some (get_or names k [])
get_some [] k h = absurd (omega arith)
get_some (x ∷ names) zero h = refl
get_some (x ∷ names) (suc k) h = get_some names k (omega arith)

lams_numbered : (names : List (List ℕ)) (t l : ℕ) (u : Named) →
    numbered names (scope names t) (lams (binders names t l) u) ≡ abstracted l (numbered names (scope names (t + l)) u)
lams_numbered names t zero u = let n : t ≡ t + 0 = omega arith in ap (λ (n : ℕ). numbered names (scope names n) u) n
lams_numbered names t (suc l) u =
    let n : suc t + l ≡ t + suc l = omega arith in
    ap tree.lam (lams_numbered names (suc t) l u ∙ ap (λ (n : ℕ). abstracted l (numbered names (scope names n) u)) n)

lams_free : (names : List (List ℕ)) (t l : ℕ) (u : Named) →
    free_in (scope names t) (lams (binders names t l) u) ≡ free_in (scope names (t + l)) u
lams_free names t zero u = let n : t ≡ t + 0 = omega arith in ap (λ (n : ℕ). free_in (scope names n) u) n
lams_free names t (suc l) u = let n : suc t + l ≡ t + suc l = omega arith in
    lams_free names (suc t) l u ∙ ap (λ (n : ℕ). free_in (scope names n) u) n

among_both : (names xs ys : List (List ℕ)) → AreAmong names xs → AreAmong names ys → AreAmong names (xs ++ ys)
among_both names [] ys h k = k
among_both names (x ∷ xs) ys h k = (h.0, among_both names xs ys h.1 k)

among_without : (names : List (List ℕ)) (x : List ℕ) (ys : List (List ℕ)) → AreAmong names ys →
    AreAmong names (without x ys)
among_without names x [] h = tt
among_without names x (y ∷ ys) h = go (bytes_eq x y) (among_without names x ys h.1)
  where
    go : (b : Bool) → AreAmong names (without x ys) → AreAmong names (cond b (without x ys) (y ∷ without x ys))
    go true each = each
    go false each = (h.0, each)

among_once : (names xs : List (List ℕ)) → AreAmong names xs → AreAmong names (once xs)
among_once names [] h = tt
among_once names (x ∷ xs) h = (h.0, among_without names x (once xs) (among_once names xs h.1))

module _ (names : List (List ℕ)) (rs : List ℕ) (different : NoNameTwice names) (few : length names < 2 ^ 32) where
  name_found : (q : ℕ) → 1 ≤ q → q ≤ length names → position_of (get_or names (q - 1) []) names ≡ Some (q - 1)
  name_found q low high =
      let here = get_some names (q - 1) (omega arith) in
      let n : 0 + (q - 1) ≡ q - 1 = omega arith in
      first_place names (get_or names (q - 1) []) (q - 1) 0 here
      (λ j l e. let s = different j (q - 1) (get_or names (q - 1) []) e here in
      absurd (omega arith)) ∙ ap (λ (n : ℕ). Some n) n

  bound_found : (ss : List (ℕ × ℕ)) (t i j : ℕ) → t < 2 ^ 64 → 1 ≤ j →
      index_of ss i j + (get_or rs i 0 + j) ≡ t →
      position_of (binder_name names (get_or rs i 0 + (j - 1))) (scope names t) ≡ Some (index_of ss i j)
  bound_found ss t i j l first sum =
      let n : 0 + index_of ss i j ≡ index_of ss i j = omega arith in
      bound_at names t (get_or rs i 0 + (j - 1)) (index_of ss i j) 0 few l (omega arith) ∙ ap (λ (n : ℕ). Some n) n

  variable_numbered : (ss : List (ℕ × ℕ)) (t : ℕ) (v : HeadVar) → t < 2 ^ 64 →
      IsPlaced (length names) rs ss t v → numbered names (scope names t)
      (grammar.var (variable names rs v)) ≡ variable_of ss v
  variable_numbered ss t (var.Bound i j) l p = ap
      (λ (o : Option ℕ). var_at o (position_of (binder_name names (get_or rs i 0 + (j - 1))) names))
      (bound_found ss t i j l p.0 p.1)
  variable_numbered ss t (var.Free q) l p =
      let low = p.0 in
      let high = p.1 in
      ap (λ (o : Option ℕ). var_at o (position_of (get_or names (q - 1) []) names))
      (free_none names (get_or names (q - 1) []) (q - 1) (get_some names (q - 1) (omega arith)) few t 0 l)
      ∙ ap (λ (o : Option ℕ). free_at o) (name_found q low high)

  variable_free : (ss : List (ℕ × ℕ)) (t : ℕ) (v : HeadVar) → t < 2 ^ 64 →
      IsPlaced (length names) rs ss t v → AreAmong names (free_in (scope names t) (grammar.var (variable names rs v)))
  variable_free ss t (var.Bound i j) l p =
      subst (λ (o : Option ℕ). AreAmong names
      (unbound (binder_name names (get_or rs i 0 + (j - 1))) o)) (sym (bound_found ss t i j l p.0 p.1)) tt
  variable_free ss t (var.Free q) l p =
      let low = p.0 in
      let high = p.1 in
      let x = get_or names (q - 1) [] in
      subst (λ (o : Option ℕ). AreAmong names (unbound (get_or names (q - 1) []) o))
      (sym (free_none names (get_or names (q - 1) []) (q - 1) (get_some names (q - 1) (omega arith)) few t 0 l))
      (subst (λ (o : Option ℕ). IsSome o) (sym (name_found q low high)) refl, tt)

  abbrev IsRenumbered : (b : Bool) → List (ℕ × ℕ) → ℕ → ℕ → Part b → Type 0
  IsRenumbered true ss i t p = numbered names (scope names t) (made names rs t p) ≡ meaning ss i p
  IsRenumbered false ss i t p = (f : Named) (m : Tree) → numbered names (scope names t) f ≡ m →
      numbered names (scope names t) (made names rs t p f) ≡ meaning ss i p m

  renumbered : {b : Bool} (p : Part b) (ss : List (ℕ × ℕ)) (i t : ℕ) →
      IsGood (length names) rs ss i t p → IsRenumbered b ss i t p
  renumbered (term l v ts) ss i t h =
      lams_numbered names t l (made names rs (t + l) ts (grammar.var (variable names rs v)))
      ∙ ap (abstracted l) (renumbered ts ((i, l) ∷ ss) (suc i) (t + l) h.2
      (grammar.var (variable names rs v)) (variable_of ((i, l) ∷ ss) v)
      (variable_numbered ((i, l) ∷ ss) (t + l) v h.0 h.1))
  renumbered lost ss i t h = absurd h
  renumbered cut ss i t h = absurd h
  renumbered none ss i t h = λ f m e. e
  renumbered (more u us) ss i t h = λ f m e.
      renumbered us ss (i + length (preorder u)) t h.1 (grammar.app f (made names rs t u)) (tree.app m (meaning ss i u))
      (ap (λ (f : Tree). tree.app f (numbered names (scope names t) (made names rs t u))) e
      ∙ ap (λ (a : Tree). tree.app m a) (renumbered u ss i t h.0))

  abbrev IsFree : (b : Bool) → ℕ → Part b → Type 0
  IsFree true t p = AreAmong names (free_in (scope names t) (made names rs t p))
  IsFree false t p = (f : Named) → AreAmong names (free_in (scope names t) f) →
      AreAmong names (free_in (scope names t) (made names rs t p f))

  all_free : {b : Bool} (p : Part b) (ss : List (ℕ × ℕ)) (i t : ℕ) → IsGood (length names) rs ss i t p → IsFree b t p
  all_free (term l v ts) ss i t h =
      subst (λ (xs : List (List ℕ)). AreAmong names xs)
      (sym (lams_free names t l (made names rs (t + l) ts (grammar.var (variable names rs v)))))
      (all_free ts ((i, l) ∷ ss) (suc i) (t + l) h.2 (grammar.var (variable names rs v))
      (variable_free ((i, l) ∷ ss) (t + l) v h.0 h.1))
  all_free lost ss i t h = absurd h
  all_free cut ss i t h = absurd h
  all_free none ss i t h = λ f a. a
  all_free (more u us) ss i t h = λ f a.
      all_free us ss (i + length (preorder u)) t h.1 (grammar.app f (made names rs t u))
      (among_both names (free_in (scope names t) f)
      (free_in (scope names t) (made names rs t u)) a (all_free u ss i t h.0))

  pub tree_numbered : (t : Part true) → IsGood (length names) rs [] 0 0 t →
      numbered names [] (made names rs 0 t) ≡ term_of t
  tree_numbered t h = renumbered t [] 0 0 h

  pub tree_free : (t : Part true) → IsGood (length names) rs [] 0 0 t → AreAmong names (names_of (made names rs 0 t))
  tree_free t h = among_once names (free_in [] (made names rs 0 t)) (all_free t [] 0 0 h)
