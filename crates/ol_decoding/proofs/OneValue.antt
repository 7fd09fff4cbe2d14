-- A term has one value of each encoding at most, and one text is told of it.
use Rattle.std.proofs.Common.{◌≡◌, ℕ, zero, suc, ◌+◌, ◌≤◌, List, [], ◌∷◌, ◌++◌, inl, inr, Option, Some}
use Rattle.std.proofs.Common.{refl, sym, ap, ◌∙◌, subst, arith}
use Rattle.std.proofs.lemmas.Option.{same_Some}
use Rattle.std.specs.Option.{option_map}
use Rattle.std.specs.List.{flat_map}
use Rattle.ol_law_edges.specs.Edges.{IsIn}
use Rattle.ol_term.specs.Trees.{Tree}
use Rattle.ol_decoding.specs.Values.{Value, Fits, Rise, rank, AreAllOf, parts_of}
use Rattle.ol_decoding.specs.Values as value
use Rattle.ol_decoding.specs.Told.{lines, within, AreTold, IsTold}
use Rattle.ol_decoding.specs.Told as tell
use Rattle.ol_decoding.specs.ValueLaws.{NumeralIsOne, ValueIsOne, ToldIsOne}
use Rattle.ol_decoding.specs.Decoders.{boolean_of, church_of, list_of, pair_of, scott_of}
use Rattle.ol_decoding.proofs.Decoding.{boolean_found, church_found, list_found, pair_found, scott_found}

pub numeral_is_one : NumeralIsOne
numeral_is_one m n = (
  λ e. same_Some m n (sym (church_found m) ∙ ap church_of e ∙ church_found n),
  λ e. same_Some m n (sym (scott_found m) ∙ ap scott_of e ∙ scott_found n),
)

abbrev value_at : ℕ → Tree → Option Value
value_at zero t = option_map value.boolean (boolean_of t)
value_at (suc zero) t = option_map value.church (church_of t)
value_at (suc (suc zero)) t = option_map value.list (list_of t)
value_at (suc (suc (suc zero))) t = option_map (λ p. value.pair p.0 p.1) (pair_of t)
value_at (suc (suc (suc (suc n)))) t = option_map value.scott (scott_of t)

is_found : (t : Tree) (v : Value) → Fits t v → value_at (rank v) t ≡ Some v
is_found t (value.boolean b) h =
    ap (option_map value.boolean) (subst (λ t. boolean_of t ≡ Some b) h.0 (boolean_found b))
is_found t (value.church n) h = ap (option_map value.church) (subst (λ t. church_of t ≡ Some n) h.0 (church_found n))
is_found t (value.list ts) h =
    ap (option_map value.list) (subst (λ t. list_of t ≡ Some ts) h.0 (list_found ts h.1))
is_found t (value.pair a b) h = ap (option_map (λ p. value.pair p.0 p.1))
    (subst (λ t. pair_of t ≡ Some (a, b)) h.0 (pair_found a b h.1))
is_found t (value.scott n) h = ap (option_map value.scott) (subst (λ t. scott_of t ≡ Some n) h.0 (scott_found n))

pub value_is_one : ValueIsOne
value_is_one t v w h k e =
    same_Some v w (sym (is_found t v h) ∙ ap (λ n. value_at n t) e ∙ is_found t w k)

-- ---- one list of values

above : (n : ℕ) (vs : List Value) → Rise n vs → (v : Value) → IsIn v vs → n ≤ rank v
above n [] r x h = absurd h
above n (v ∷ vs) r x (inl e) = subst (λ x. n ≤ rank x) (sym e) r.0
above n (v ∷ vs) r x (inr h) = let k = above (suc (rank v)) vs r.1 x h in omega (arith, k, r.0)

apart : (v w : Value) → suc (rank w) ≤ rank v → v ≡ w → ⊥
apart v w h e = let k = ap rank e in absurd (omega (arith, h, k))

first_one : (v w : Value) (vs ws : List Value) → Rise (suc (rank v)) vs → Rise (suc (rank w)) ws →
    IsIn v (w ∷ ws) → IsIn w (v ∷ vs) → v ≡ w
first_one v w vs ws r s (inl e) k = e
first_one v w vs ws r s (inr h) (inl e) = sym e
first_one v w vs ws r s (inr h) (inr k) =
    let a = above (suc (rank w)) ws s v h in
    let b = above (suc (rank v)) vs r w k in
    absurd (omega (arith, a, b))

in_tail : (v w x : Value) (vs ws : List Value) → v ≡ w → Rise (suc (rank v)) vs → IsIn x vs → IsIn x (w ∷ ws) →
    IsIn x ws
in_tail v w x vs ws e r h (inr k) = k
in_tail v w x vs ws e r h (inl z) = absurd (apart x v (above (suc (rank v)) vs r x h) (z ∙ sym e))

one_list : (n m : ℕ) (vs ws : List Value) → Rise n vs → Rise m ws → ((v : Value) → IsIn v vs → IsIn v ws) →
    ((v : Value) → IsIn v ws → IsIn v vs) → vs ≡ ws
one_list n m [] [] r s f g = refl
one_list n m [] (w ∷ ws) r s f g = absurd (g w (inl refl))
one_list n m (v ∷ vs) [] r s f g = absurd (f v (inl refl))
one_list n m (v ∷ vs) (w ∷ ws) r s f g =
    let e : v ≡ w = first_one v w vs ws r.1 s.1 (f v (inl refl)) (g w (inl refl)) in
    let z : vs ≡ ws = one_list (suc (rank v)) (suc (rank w)) vs ws r.1 s.1
    (λ x h. in_tail v w x vs ws e r.1 h (f x (inr h)))
    (λ x h. in_tail w v x ws vs (sym e) s.1 h (g x (inr h))) in
    ap (λ v. v ∷ vs) e ∙ ap (λ vs. w ∷ vs) z

one_values : (t : Tree) (vs ws : List Value) → AreAllOf t vs → AreAllOf t ws → vs ≡ ws
one_values t vs ws a b = one_list 0 0 vs ws a.in_order b.in_order
    (λ v h. (b.fitting v).1 ((a.fitting v).0 h)) (λ v h. (a.fitting v).1 ((b.fitting v).0 h))

-- ---- one text

record Told (number : List ℕ) (k : ℕ) (t : Tree) (ts : List Tree) (text : List ℕ) : Type 0 where
  values : List Value
  inside : List ℕ
  rest : List ℕ
  all : AreAllOf t values
  parts : AreTold (within number k) 1 (flat_map parts_of values) inside
  later : AreTold number (k + 1) ts rest
  is : text ≡ lines (within number k) values ++ inside ++ rest

abbrev View : List ℕ → ℕ → List Tree → List ℕ → Type 0
View number k [] text = text ≡ []
View number k (t ∷ ts) text = Told number k t ts text

view : {number : List ℕ} {k : ℕ} {ts : List Tree} {text : List ℕ} → AreTold number k ts text → View number k ts text
view tell.none = refl
view (tell.more {vs = vs} {inside = inside} {rest = rest} a p r) = record {
  values = vs;
  inside = inside;
  rest = rest;
  all = a;
  parts = p;
  later = r;
  is = refl;
}

one_text : {number : List ℕ} {k : ℕ} {ts : List Tree} {x : List ℕ} → AreTold number k ts x → (y : List ℕ) →
    AreTold number k ts y → x ≡ y
one_text tell.none y h = sym (view h)
one_text (tell.more {number = number} {k = k} {t = t} {ts = ts} {vs = vs} {inside = inside} {rest = rest} a p r) y h =
    let v : Told number k t ts y = view h in
    let e : v.values ≡ vs = one_values t v.values vs v.all a in
    let i : inside ≡ v.inside = one_text p v.inside
    (subst (λ vs. AreTold (within number k) 1 (flat_map parts_of vs) v.inside) e v.parts) in
    let l : rest ≡ v.rest = one_text r v.rest v.later in
    ap (λ vs. lines (within number k) vs ++ inside ++ rest) (sym e)
    ∙ ap (λ inside. lines (within number k) v.values ++ inside ++ rest) i
    ∙ ap (λ rest. lines (within number k) v.values ++ v.inside ++ rest) l ∙ sym v.is

pub told_is_one : ToldIsOne
told_is_one t number x y h k =
    let e : k.values ≡ h.values = one_values t k.values h.values k.all h.all in
    let i : h.inside ≡ k.inside = one_text h.parts k.inside
    (subst (λ vs. AreTold number 1 (flat_map parts_of vs) k.inside) e k.parts) in
    h.is ∙ ap (λ vs. lines number vs ++ h.inside) (sym e) ∙ ap (λ inside. lines number k.values ++ inside) i ∙ sym k.is
