-- The decoders find just the values of their encodings.
use Rattle.std.proofs.Common.{◌≡◌, ℕ, zero, suc, ◌+◌, ◌==◌, ◌&&◌, if◌then◌else◌, Bool, true, false, List, [], ◌∷◌}
use Rattle.std.proofs.Common.{Option, Some, None, refl, sym, ap, ◌∙◌, subst, add-one}
use Rattle.std.specs.Option.{option_map}
use Rattle.std.proofs.lemmas.Bool.{eqb-true, and_parts}
use Rattle.std.proofs.lemmas.Option.{none-some, same_Some}
use Rattle.ol_term.specs.Trees.{Tree, var, free, lam, app, is_below}
use Rattle.ol_decoding.specs.Values.{AreClosed, boolean_term, iterated, church_term, folded, list_term, pair_term, scott_term}
use Rattle.ol_decoding.specs.Decoders.{is_var, boolean_of, next, iterations, church_of, items_of, list_of, pair_of, scott_of}
use Rattle.ol_law_edges.proofs.Options.{mapped}

-- ---- options

pub guarded : {A : Type 0} (b : Bool) (o : Option A) (x : A) → (if b then o else None) ≡ Some x → (b ≡ true) × (o ≡ Some x)
guarded true o x e = (refl, e)
guarded false o x e = absurd (none-some x e)

-- ---- variables

is_this : (k : ℕ) (t : Tree) → is_var k t ≡ true → t ≡ var k
is_this k (var j) e = ap var (eqb-true j k e)
is_this k (free j) e = absurd (cc)
is_this k (lam t) e = absurd (cc)
is_this k (app f a) e = absurd (cc)

-- ---- truth values

pub boolean_is : (t : Tree) (b : Bool) → boolean_of t ≡ Some b → boolean_term b ≡ t
boolean_is (lam (lam (var k))) b e = go (k == 0) refl
  where
    two : (c : Bool) → (k == 1) ≡ c → (if c then Some true else None) ≡ Some b → boolean_term b ≡ lam (lam (var k))
    two c h x =
        let g = guarded c (Some true) b x in
        ap boolean_term (sym (same_Some true b g.1)) ∙ ap (λ k. lam (lam (var k))) (sym (eqb-true k 1 (h ∙ g.0)))

    go : (c : Bool) → (k == 0) ≡ c → boolean_term b ≡ lam (lam (var k))
    go true h =
        let x : Some false ≡ Some b = subst (λ (c : Bool). (if c then Some false else if k == 1 then Some true else None)
        ≡ Some b) h e in
        ap boolean_term (sym (same_Some false b x)) ∙ ap (λ k. lam (lam (var k))) (sym (eqb-true k 0 h))
    go false h = two (k == 1) refl (subst (λ (c : Bool).
        (if c then Some false else if k == 1 then Some true else None) ≡ Some b) h e)
boolean_is (lam (lam (free k))) b e = absurd (none-some b e)
boolean_is (lam (lam (lam t))) b e = absurd (none-some b e)
boolean_is (lam (lam (app f a))) b e = absurd (none-some b e)
boolean_is (lam (var k)) b e = absurd (none-some b e)
boolean_is (lam (free k)) b e = absurd (none-some b e)
boolean_is (lam (app f a)) b e = absurd (none-some b e)
boolean_is (var k) b e = absurd (none-some b e)
boolean_is (free k) b e = absurd (none-some b e)
boolean_is (app f a) b e = absurd (none-some b e)

pub boolean_found : (b : Bool) → boolean_of (boolean_term b) ≡ Some b
boolean_found true = refl
boolean_found false = refl

-- ---- Church numerals

iterated_is : (t : Tree) (n : ℕ) → iterations t ≡ Some n → iterated n ≡ t
iterated_is (var k) n e =
    let g = guarded (k == 0) (Some 0) n e in
    ap iterated (sym (same_Some 0 n g.1)) ∙ ap var (sym (eqb-true k 0 g.0))
iterated_is (app f a) n e =
    let g = guarded (is_var 1 f) (next (iterations a)) n e in
    let m = mapped (λ n. n + 1) (iterations a) n g.1 in
    let s : n ≡ suc m.0 = sym m.2 ∙ add-one m.0 in
    ap iterated s ∙ ap (λ x. app (var 1) x) (iterated_is a m.0 m.1) ∙ ap (λ x. app x a) (sym (is_this 1 f g.0))
iterated_is (free k) n e = absurd (none-some n e)
iterated_is (lam t) n e = absurd (none-some n e)

iterated_found : (n : ℕ) → iterations (iterated n) ≡ Some n
iterated_found zero = refl
iterated_found (suc n) = ap next (iterated_found n) ∙ ap (λ (n : ℕ). Some n) (add-one n)

pub church_is : (t : Tree) (n : ℕ) → church_of t ≡ Some n → church_term n ≡ t
church_is (lam (lam b)) n e = ap (λ b. lam (lam b)) (iterated_is b n e)
church_is (lam (var k)) n e = absurd (none-some n e)
church_is (lam (free k)) n e = absurd (none-some n e)
church_is (lam (app f a)) n e = absurd (none-some n e)
church_is (var k) n e = absurd (none-some n e)
church_is (free k) n e = absurd (none-some n e)
church_is (app f a) n e = absurd (none-some n e)

pub church_found : (n : ℕ) → church_of (church_term n) ≡ Some n
church_found n = iterated_found n

-- ---- lists

folded_is : (t : Tree) (ts : List Tree) → items_of t ≡ Some ts → (folded ts ≡ t) × AreClosed ts
folded_is (var k) ts e =
    let g = guarded (k == 0) (Some []) ts e in
    let n : [] ≡ ts = same_Some [] ts g.1 in
    (ap folded (sym n) ∙ ap var (sym (eqb-true k 0 g.0)), subst AreClosed n tt)
folded_is (app (app c t) rest) ts e =
    let g = guarded (is_var 1 c && is_below 0 t) (option_map (λ ts. t ∷ ts) (items_of rest)) ts e in
    let h = and_parts (is_var 1 c) (is_below 0 t) g.0 in
    let m = mapped (λ ts. t ∷ ts) (items_of rest) ts g.1 in
    let r = folded_is rest m.0 m.1 in (
      ap folded (sym m.2) ∙ ap (λ x. app (app (var 1) t) x) r.0
          ∙ ap (λ x. app (app x t) rest) (sym (is_this 1 c h.0)),
      subst AreClosed m.2 (h.1, r.1),
    )
folded_is (app (var k) rest) ts e = absurd (none-some ts e)
folded_is (app (free k) rest) ts e = absurd (none-some ts e)
folded_is (app (lam t) rest) ts e = absurd (none-some ts e)
folded_is (free k) ts e = absurd (none-some ts e)
folded_is (lam t) ts e = absurd (none-some ts e)

folded_found : (ts : List Tree) → AreClosed ts → items_of (folded ts) ≡ Some ts
folded_found [] h = refl
folded_found (t ∷ ts) h =
    ap (λ (b : Bool). if true && b then option_map (λ ts. t ∷ ts) (items_of (folded ts)) else None) h.0
    ∙ ap (option_map (λ ts. t ∷ ts)) (folded_found ts h.1)

pub list_is : (t : Tree) (ts : List Tree) → list_of t ≡ Some ts → (list_term ts ≡ t) × AreClosed ts
list_is (lam (lam b)) ts e = let f = folded_is b ts e in (ap (λ b. lam (lam b)) f.0, f.1)
list_is (lam (var k)) ts e = absurd (none-some ts e)
list_is (lam (free k)) ts e = absurd (none-some ts e)
list_is (lam (app f a)) ts e = absurd (none-some ts e)
list_is (var k) ts e = absurd (none-some ts e)
list_is (free k) ts e = absurd (none-some ts e)
list_is (app f a) ts e = absurd (none-some ts e)

pub list_found : (ts : List Tree) → AreClosed ts → list_of (list_term ts) ≡ Some ts
list_found ts h = folded_found ts h

-- ---- pairs

pub pair_is : (t : Tree) (p : Tree × Tree) → pair_of t ≡ Some p →
    (pair_term p.0 p.1 ≡ t) × AreClosed (p.0 ∷ p.1 ∷ [])
pair_is (lam (app (app f a) b)) p e =
    let g = guarded (is_var 0 f && (is_below 0 a && is_below 0 b)) (Some (a, b)) p e in
    let h = and_parts (is_var 0 f) (is_below 0 a && is_below 0 b) g.0 in
    let k = and_parts (is_below 0 a) (is_below 0 b) h.1 in
    let s : (a, b) ≡ p = same_Some (a, b) p g.1 in (
      ap (λ (p : Tree × Tree). pair_term p.0 p.1) (sym s) ∙ ap (λ x. lam (app (app x a) b)) (sym (is_this 0 f h.0)),
      subst (λ (p : Tree × Tree). AreClosed (p.0 ∷ p.1 ∷ [])) s (k.0, (k.1, tt)),
    )
pair_is (lam (app (var k) b)) p e = absurd (none-some p e)
pair_is (lam (app (free k) b)) p e = absurd (none-some p e)
pair_is (lam (app (lam t) b)) p e = absurd (none-some p e)
pair_is (lam (var k)) p e = absurd (none-some p e)
pair_is (lam (free k)) p e = absurd (none-some p e)
pair_is (lam (lam t)) p e = absurd (none-some p e)
pair_is (var k) p e = absurd (none-some p e)
pair_is (free k) p e = absurd (none-some p e)
pair_is (app f a) p e = absurd (none-some p e)

pub pair_found : (a b : Tree) → AreClosed (a ∷ b ∷ []) → pair_of (pair_term a b) ≡ Some (a, b)
pair_found a b h =
    ap (λ (x : Bool). if true && (x && is_below 0 b) then Some (a, b) else None) h.0
    ∙ ap (λ (x : Bool). if true && (true && x) then Some (a, b) else None) h.1.0

-- ---- Scott numerals

pub scott_is : (t : Tree) (n : ℕ) → scott_of t ≡ Some n → scott_term n ≡ t
scott_is (lam (lam (var k))) n e =
    let g = guarded (k == 1) (Some 0) n e in
    ap scott_term (sym (same_Some 0 n g.1)) ∙ ap (λ k. lam (lam (var k))) (sym (eqb-true k 1 g.0))
scott_is (lam (lam (app f a))) n e =
    let g = guarded (is_var 0 f) (next (scott_of a)) n e in
    let m = mapped (λ n. n + 1) (scott_of a) n g.1 in
    let s : n ≡ suc m.0 = sym m.2 ∙ add-one m.0 in
    ap scott_term s ∙ ap (λ x. lam (lam (app (var 0) x))) (scott_is a m.0 m.1)
    ∙ ap (λ x. lam (lam (app x a))) (sym (is_this 0 f g.0))
scott_is (lam (lam (free k))) n e = absurd (none-some n e)
scott_is (lam (lam (lam t))) n e = absurd (none-some n e)
scott_is (lam (var k)) n e = absurd (none-some n e)
scott_is (lam (free k)) n e = absurd (none-some n e)
scott_is (lam (app f a)) n e = absurd (none-some n e)
scott_is (var k) n e = absurd (none-some n e)
scott_is (free k) n e = absurd (none-some n e)
scott_is (app f a) n e = absurd (none-some n e)

pub scott_found : (n : ℕ) → scott_of (scott_term n) ≡ Some n
scott_found zero = refl
scott_found (suc n) = ap next (scott_found n) ∙ ap (λ (n : ℕ). Some n) (add-one n)
