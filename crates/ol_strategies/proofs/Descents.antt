-- Looking for the head redex.
use Rattle.std.proofs.Common.{◌≡◌, ℕ, ◌+◌, ◌≤◌, max, Bool, true, false, List, [], ◌∷◌, ◌++◌, length, Option, Some}
use Rattle.std.proofs.Common.{None, refl, sym, ap, ◌∙◌, subst, arith, append_assoc}
use Rattle.std.specs.Option.{option_map}
use Rattle.std.specs.Prelude.{if◌then◌else◌}
use Rattle.std.proofs.lemmas.List.{append-nil, length-append}
use Rattle.ol_term.specs.Trees.{Tree, lam, app, depth}
use Rattle.ol_beta.specs.Leftmost.{is_abstraction, under}
use Rattle.ol_beta.proofs.Searching.{prefixed, one_more}
use Rattle.ol_strategies.specs.Searches.{spine_redex}

-- the search stands at a part with this address
pub record IsDescended (below : Bool) (t part : Tree) (p : List ℕ) : Type 0 where
  pub found : prefixed p (spine_redex below part) ≡ spine_redex below t
  pub deep : length p + depth part ≤ depth t

pub prefixed_nil : (o : Option (List ℕ)) → prefixed [] o ≡ o
prefixed_nil None = refl
prefixed_nil (Some x) = refl

moved : (p : List ℕ) (m : ℕ) (o : Option (List ℕ)) → prefixed (p ++ m ∷ []) o ≡ prefixed p (under m o)
moved p m None = refl
moved p m (Some x) = ap (λ (y : List ℕ). Some y) (append_assoc p (m ∷ []) x)

pub descent_begun : (below : Bool) (t : Tree) (p : List ℕ) → p ≡ [] → IsDescended below t t p
descent_begun below t p e =
    let base : IsDescended below t t [] = record { found = prefixed_nil (spine_redex below t); deep = omega arith } in
    subst (λ (p : List ℕ). IsDescended below t t p) (sym e) base

pub descent_into_body : (below : Bool) (t part b : Tree) (p q : List ℕ) → part ≡ lam b → below ≡ true →
    q ≡ p ++ 0 ∷ [] → IsDescended below t part p → IsDescended below t b q
descent_into_body below t part b p q e c f s =
    let h : IsDescended below t (lam b) p = subst (λ (x : Tree). IsDescended below t x p) e s in
    let n = one_more p 0 in
    let k = h.deep in
    subst (λ (q : List ℕ). IsDescended below t b q) (sym f) (record {
      found = moved p 0 (spine_redex below b)
          ∙ ap (λ (c : Bool). prefixed p (if c then under 0 (spine_redex below b) else None)) (sym c) ∙ h.found;
      deep = omega arith;
    })

pub descent_into_function : (below : Bool) (t part f a : Tree) (p q : List ℕ) → part ≡ app f a →
    is_abstraction f ≡ false → q ≡ p ++ 1 ∷ [] → IsDescended below t part p → IsDescended below t f q
descent_into_function below t part f a p q e c i s =
    let h : IsDescended below t (app f a) p = subst (λ (x : Tree). IsDescended below t x p) e s in
    let n = one_more p 1 in
    let k : length p + (1 + max (depth f) (depth a)) ≤ depth t = h.deep in
    subst (λ (q : List ℕ). IsDescended below t f q) (sym i) (record {
      found = moved p 1 (spine_redex below f)
          ∙ ap (λ (c : Bool). prefixed p (if c then Some [] else under 1 (spine_redex below f))) (sym c) ∙ h.found;
      deep = omega arith;
    })

pub descent_found : (below : Bool) (t part f a : Tree) (p : List ℕ) → part ≡ app f a →
    is_abstraction f ≡ true → IsDescended below t part p → Some p ≡ spine_redex below t
descent_found below t part f a p e c s =
    let h : IsDescended below t (app f a) p = subst (λ (x : Tree). IsDescended below t x p) e s in
    ap (λ (y : List ℕ). Some y) (sym (append-nil p))
    ∙ ap (λ (c : Bool). prefixed p (if c then Some [] else under 1 (spine_redex below f))) (sym c) ∙ h.found

pub descent_none : (below : Bool) (t part : Tree) (p : List ℕ) → spine_redex below part ≡ None →
    IsDescended below t part p → None ≡ spine_redex below t
descent_none below t part p e s = sym (ap (λ (o : Option (List ℕ)). prefixed p o) e) ∙ s.found

pub descent_no_body : (below : Bool) (t part b : Tree) (p : List ℕ) → part ≡ lam b → below ≡ false →
    IsDescended below t part p → None ≡ spine_redex below t
descent_no_body below t part b p e c s = descent_none below t part p
    (ap (λ (x : Tree). spine_redex below x) e
    ∙ ap (λ (c : Bool). if c then under 0 (spine_redex below b) else None) c) s
