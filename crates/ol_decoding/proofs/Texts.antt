-- The text is what is told of a term.
use Rattle.std.proofs.Common.{◌≡◌, ℕ, ◌+◌, ◌==◌, ◌&&◌, if◌then◌else◌, Bool, true, List, [], ◌∷◌, ◌++◌}
use Rattle.std.proofs.Common.{Option, Some, None, length, refl, sym, ap, ◌∙◌, subst}
use Rattle.std.specs.Prelude.{is_some}
use Rattle.std.specs.Option.{option_map}
use Rattle.std.specs.List.{flat_map}
use Rattle.std.proofs.lemmas.List.{append-nil}
use Rattle.std.proofs.lemmas.Option.{none-some, same_Some}
use Rattle.ol_term.specs.Trees.{Tree, var, free, lam, app, is_below}
use Rattle.ol_decoding.specs.Values.{Value, parts_of}
use Rattle.ol_decoding.specs.Values as value
use Rattle.ol_decoding.specs.Told.{lines, within, AreTold, IsTold}
use Rattle.ol_decoding.specs.Told as tell
use Rattle.ol_decoding.specs.Decoders.{of, values, boolean_of, church_of, list_of, pair_of, scott_of, items_of, is_var, told}
use Rattle.ol_decoding.proofs.Decoding.{guarded}
use Rattle.ol_decoding.proofs.Fitting.{all_of}
use Rattle.ol_law_edges.proofs.Options.{mapped}

-- ---- the parts of the values that are found

no_parts : {A : Type 0} (f : A → Value) → ((x : A) → parts_of (f x) ≡ []) → (o : Option A) (vs : List Value) →
    flat_map parts_of (of f o ++ vs) ≡ flat_map parts_of vs
no_parts f h None vs = refl
no_parts f h (Some x) vs = ap (λ ts. ts ++ flat_map parts_of vs) (h x)

no_last_parts : (o : Option ℕ) → flat_map parts_of (of value.scott o) ≡ []
no_last_parts None = refl
no_last_parts (Some n) = refl

abbrev listed : Option (List Tree) → List Tree
listed None = []
listed (Some ts) = ts

abbrev paired : Option (Tree × Tree) → List Tree
paired None = []
paired (Some p) = p.0 ∷ p.1 ∷ []

list_parts : (o : Option (List Tree)) (vs : List Value) →
    flat_map parts_of (of value.list o ++ vs) ≡ listed o ++ flat_map parts_of vs
list_parts None vs = refl
list_parts (Some ts) vs = refl

pair_parts : (o : Option (Tree × Tree)) (vs : List Value) →
    flat_map parts_of (of (λ p. value.pair p.0 p.1) o ++ vs) ≡ paired o ++ flat_map parts_of vs
pair_parts None vs = refl
pair_parts (Some p) vs = refl

parts_are : (t : Tree) → flat_map parts_of (values t) ≡ listed (list_of t) ++ paired (pair_of t)
parts_are t =
    no_parts value.boolean (λ x. refl) (boolean_of t) _ ∙ no_parts value.church (λ x. refl) (church_of t) _
    ∙ list_parts (list_of t) _
    ∙ ap (λ ts. listed (list_of t) ++ ts) (pair_parts (pair_of t) _
    ∙ ap (λ ts. paired (pair_of t) ++ ts) (no_last_parts (scott_of t)) ∙ append-nil (paired (pair_of t)))

-- ---- terms

told_so : (number : List ℕ) (t : Tree) (ts : List Tree) (inside : List ℕ) →
    listed (list_of t) ++ paired (pair_of t) ≡ ts → AreTold number 1 ts inside →
    IsTold number t (lines number (values t) ++ inside)
told_so number t ts inside e h = record {
  values = values t;
  all = all_of t;
  inside = inside;
  parts = subst (λ ts. AreTold number 1 ts inside) (sym (parts_are t ∙ e)) h;
  is = refl;
}

plain : (number : List ℕ) (t : Tree) → list_of t ≡ None → pair_of t ≡ None → IsTold number t (lines number (values t) ++ [])
plain number t l p = told_so number t [] []
    (ap (λ o. listed o ++ paired (pair_of t)) l ∙ ap (λ o. listed None ++ paired o) p) tell.none

more_of : (number : List ℕ) (k : ℕ) (t : Tree) (ts : List Tree) (x rest : List ℕ) → IsTold (within number k) t x →
    AreTold number (k + 1) ts rest → AreTold number k (t ∷ ts) (x ++ rest)
more_of number k t ts x rest h r =
    subst (λ x. AreTold number k (t ∷ ts) (x ++ rest)) (sym h.is) (tell.more h.all h.parts r)

-- a term, or the items of a list from one on
abbrev Telling : List ℕ → Option ℕ → Tree → Type 0
Telling number None t = IsTold number t (told number None t)
Telling number (Some k) t = (ts : List Tree) → items_of t ≡ Some ts → AreTold number k ts (told number (Some k) t)

abbrev with_items : List ℕ → Tree → Option (List Tree) → List ℕ
with_items number b o = lines number (values (lam (lam b))) ++ (if is_some o then told number (Some 1) b else [])

lists : (number : List ℕ) (b : Tree) (o : Option (List Tree)) → items_of b ≡ o → Telling number (Some 1) b →
    IsTold number (lam (lam b)) (with_items number b o)
lists number b None e h = plain number (lam (lam b)) e refl
lists number b (Some ts) e h = told_so number (lam (lam b)) ts (told number (Some 1) b)
    (ap (λ o. listed o ++ []) e ∙ append-nil ts) (h ts e)

pairs : (number : List ℕ) (f a b : Tree) (o : Option (Tree × Tree)) → pair_of (lam (app (app f a) b)) ≡ o →
    Telling (within number 1) None a → Telling (within number 2) None b →
    IsTold number (lam (app (app f a) b)) (lines number (values (lam (app (app f a) b)))
    ++ (if is_some o then told (within number 1) None a ++ told (within number 2) None b else []))
pairs number f a b None e h k = plain number (lam (app (app f a) b)) refl e
pairs number f a b (Some p) e h k =
    let t = lam (app (app f a) b) in
    let g = guarded (is_var 0 f && (is_below 0 a && is_below 0 b)) (Some (a, b)) p e in
    let s : (a, b) ≡ p = same_Some (a, b) p g.1 in
    let y = told (within number 2) None b in
    let second : AreTold number 2 (b ∷ []) (y ++ []) = more_of number 2 b [] y [] k tell.none in
    let both = more_of number 1 a (b ∷ []) (told (within number 1) None a) y h
    (subst (AreTold number 2 (b ∷ [])) (append-nil y) second) in
    told_so number t (a ∷ b ∷ []) (told (within number 1) None a ++ y)
    (ap (λ o. [] ++ paired o) e ∙ ap (λ (p : Tree × Tree). p.0 ∷ p.1 ∷ []) (sym s)) both

pub telling : (number : List ℕ) (from : Option ℕ) (t : Tree) → Telling number from t
telling number None (lam (lam b)) = lists number b (items_of b) refl (telling number (Some 1) b)
telling number None (lam (app (app f a) b)) = pairs number f a b (pair_of (lam (app (app f a) b))) refl
    (telling (within number 1) None a) (telling (within number 2) None b)
telling number None (lam (app (var k) b)) = plain number (lam (app (var k) b)) refl refl
telling number None (lam (app (free k) b)) = plain number (lam (app (free k) b)) refl refl
telling number None (lam (app (lam t) b)) = plain number (lam (app (lam t) b)) refl refl
telling number None (lam (var k)) = plain number (lam (var k)) refl refl
telling number None (lam (free k)) = plain number (lam (free k)) refl refl
telling number None (var k) = plain number (var k) refl refl
telling number None (free k) = plain number (free k) refl refl
telling number None (app f a) = plain number (app f a) refl refl
telling number (Some k) (app (app c t) rest) = λ ts e.
    let g = guarded (is_var 1 c && is_below 0 t) (option_map (λ ts. t ∷ ts) (items_of rest)) ts e in
    let m = mapped (λ ts. t ∷ ts) (items_of rest) ts g.1 in
    subst (λ ts. AreTold number k ts (told number (Some k) (app (app c t) rest))) m.2
    (more_of number k t m.0 (told (within number k) None t) (told number (Some (k + 1)) rest)
    (telling (within number k) None t) (telling number (Some (k + 1)) rest m.0 m.1))
telling number (Some k) (var j) = λ ts e.
    let g = guarded (j == 0) (Some []) ts e in
    subst (λ ts. AreTold number k ts []) (same_Some [] ts g.1) tell.none
telling number (Some k) (app (var j) rest) = λ ts e. absurd (none-some ts e)
telling number (Some k) (app (free j) rest) = λ ts e. absurd (none-some ts e)
telling number (Some k) (app (lam t) rest) = λ ts e. absurd (none-some ts e)
telling number (Some k) (free j) = λ ts e. absurd (none-some ts e)
telling number (Some k) (lam t) = λ ts e. absurd (none-some ts e)

-- ---- the text, by what the term is

pub told_list : (number : List ℕ) (from : Option ℕ) (t b : Tree) → from ≡ None → t ≡ lam (lam b) →
    is_some (items_of b) ≡ true → told number from t ≡ lines number (values t) ++ told number (Some 1) b
told_list number from t b f e h =
    ap (λ f. told number f t) f ∙ ap (λ t. told number None t) e
    ∙ ap (λ (s : Bool). lines number (values (lam (lam b))) ++ (if s then told number (Some 1) b else [])) h
    ∙ ap (λ t. lines number (values t) ++ told number (Some 1) b) (sym e)

pub told_pair : (number : List ℕ) (from : Option ℕ) (t f a b : Tree) → from ≡ None → t ≡ lam (app (app f a) b) →
    is_some (pair_of t) ≡ true → told number from t ≡ lines number (values t)
    ++ (told (within number 1) None a ++ told (within number 2) None b)
told_pair number from t f a b z e h =
    let both = told (within number 1) None a ++ told (within number 2) None b in
    ap (λ f. told number f t) z ∙ ap (λ t. told number None t) e
    ∙ ap (λ (s : Bool). lines number (values (lam (app (app f a) b))) ++ (if s then both else []))
    (ap (λ t. is_some (pair_of t)) (sym e) ∙ h)
    ∙ ap (λ t. lines number (values t) ++ both) (sym e)

pub told_item : (number : List ℕ) (from : Option ℕ) (k : ℕ) (t c a rest : Tree) → from ≡ Some k →
    t ≡ app (app c a) rest → told number from t ≡ told (within number k) None a ++ told number (Some (k + 1)) rest
told_item number from k t c a rest f e = ap (λ f. told number f t) f ∙ ap (λ t. told number (Some k) t) e

pub some_counted : (b : Tree) (n : Option ℕ) → n ≡ option_map (λ ts. length ts) (items_of b) → is_some n ≡ true →
    is_some (items_of b) ≡ true
some_counted b n e h = go (items_of b) (ap is_some (sym e) ∙ h)
  where
    go : (o : Option (List Tree)) → is_some (option_map (λ ts. length ts) o) ≡ true → is_some o ≡ true
    go None x = x
    go (Some ts) x = refl
