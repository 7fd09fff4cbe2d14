-- Strongly normalising terms are normalised by the rules, and no others.
-- For `strongly_normalising_by_rules`.
use Rattle.std.proofs.Common.{◌≡◌, ℕ, true, false, List, [], ◌∷◌, Some, refl, ap}
use Rattle.std.specs.Option.{option_map}
use Rattle.ol_beta.specs.Beta.{contracted}
use Rattle.ol_term.specs.Trees.{Tree, var, free, lam, app}
use Rattle.ol_law_confluence.specs.Reductions.{WeakStep, weak_beta, weak_before}
use Rattle.ol_law_completeness.specs.StrongNormalisation.{IsStronglyNormalising, where_all, argument}
use Rattle.ol_law_completeness.specs.StrongNormalisation.{Normalises, of_var, of_free, of_app, plain, of_lam, of_redex}
use Rattle.ol_law_completeness.specs.StrongNormalisation.{StronglyNormalisingByRules}
use Rattle.ol_law_completeness.proofs.Perpetual.{Plain, plain_var, plain_free, plain_app, strong_of}

-- u is a part of t, one constructor below
data Part : Tree → Tree → Type 0 where
  the_body : {M : Tree} → Part M (lam M)
  the_function : {M N : Tree} → Part M (app M N)
  the_argument : {M N : Tree} → Part N (app M N)

-- rows of steps and of parts end
data Deep : Tree → Type 0 where
  deep : {t : Tree} → ((at : List ℕ) (u : Tree) → contracted t at ≡ Some u → Deep u) →
      ((u : Tree) → Part u t → Deep u) → Deep t

part_of : {t u : Tree} → Deep t → Part u t → Deep u
part_of {u = u} (deep r p) h = p u h

mapped : (F : Tree → Tree) (t : Tree) (at : List ℕ) (u : Tree) → contracted t at ≡ Some u →
    option_map F (contracted t at) ≡ Some (F u)
mapped F t at u e = ap (option_map F) e

none_of_var : {t u : Tree} → Part u t → (y : ℕ) → t ≡ var y → ⊥
none_of_var the_body y e = absurd (cc)
none_of_var the_function y e = absurd (cc)
none_of_var the_argument y e = absurd (cc)

none_of_free : {t u : Tree} → Part u t → (f : ℕ) → t ≡ free f → ⊥
none_of_free the_body f e = absurd (cc)
none_of_free the_function f e = absurd (cc)
none_of_free the_argument f e = absurd (cc)

deep_parts : (t : Tree) → ((at : List ℕ) (u : Tree) → contracted t at ≡ Some u → Deep u) → Deep t
deep_parts (var y) h = deep h (λ u p. absurd (none_of_var p y refl))
deep_parts (free f) h = deep h (λ u p. absurd (none_of_free p f refl))
deep_parts (lam M) h =
    let d = deep_parts M (λ at u e. part_of (h (0 ∷ at) (lam u) (mapped lam M at u e)) the_body) in
    deep h (λ u p. of_body d p)
  where
    of_body : {M u : Tree} → Deep M → Part u (lam M) → Deep u
    of_body d the_body = d
deep_parts (app M N) h =
    let d = deep_parts M (λ at u e. part_of (h (1 ∷ at) (app u N)
    (mapped (λ g. app g N) M at u e)) the_function) in
    let d' = deep_parts N (λ at u e. part_of (h (2 ∷ at) (app M u)
    (mapped (app M) N at u e)) the_argument) in
    deep h (λ u p. of_both d d' p)
  where
    of_both : {M N u : Tree} → Deep M → Deep N → Part u (app M N) → Deep u
    of_both d d' the_function = d
    of_both d d' the_argument = d'

deep_of : {t : Tree} → IsStronglyNormalising t → Deep t
deep_of {t = t} (where_all h) = deep_parts t (λ at u e. deep_of (h at u e))

-- ---- heads

data Head : Tree → Type 0 where
  has_redex : {t u : Tree} → WeakStep t u → Head t
  is_plain : {t : Tree} → Plain t → Head t
  is_lam : {M : Tree} → Head (lam M)

head_app : (M N : Tree) → Head M → Head (app M N)
head_app M N (has_redex r) = has_redex (weak_before r)
head_app M N (is_plain p) = is_plain (plain_app p)
head_app (lam M) N is_lam = has_redex weak_beta

head_of : (t : Tree) → Head t
head_of (var y) = is_plain plain_var
head_of (free f) = is_plain plain_free
head_of (lam M) = is_lam
head_of (app M N) = head_app M N (head_of M)

address : {t u : Tree} → WeakStep t u → List ℕ
address weak_beta = []
address (weak_before r) = 1 ∷ address r

contracts : {t u : Tree} (r : WeakStep t u) → contracted t (address r) ≡ Some u
unfolding address
contracts weak_beta = refl
contracts (weak_before {M = M} {M' = M'} {N = N} r) =
    mapped (λ g. app g N) M (address r) M' (contracts r)

-- what is shown of each part and reduct
record Rules (t : Tree) : Type 0 where
  whole : Normalises false t
  of_argument : (u : Tree) (s : WeakStep t u) → Normalises false (argument s)
  as_plain : Plain t → Normalises true t

argument_of : {t u : Tree} (s : WeakStep t u) → ((v : Tree) → Part v t → Rules v) →
    Normalises false (argument s)
argument_of (weak_beta {N = N}) parts = (parts N the_argument).whole
argument_of (weak_before {M = M} {M' = M'} s) parts = (parts M the_function).of_argument M' s

plainly : (t : Tree) → ((u : Tree) → Part u t → Rules u) → Plain t → Normalises true t
plainly (var y) parts plain_var = of_var
plainly (free f) parts plain_free = of_free
plainly (app M N) parts (plain_app p) =
    of_app ((parts M the_function).as_plain p) (parts N the_argument).whole
plainly (lam M) parts p = elim p [ ]

whole_of : {t : Tree} → Head t → ((at : List ℕ) (u : Tree) → contracted t at ≡ Some u → Rules u) →
    ((u : Tree) → Part u t → Rules u) → Normalises false t
whole_of (has_redex {u = u} r) reducts parts =
    of_redex r (argument_of r parts) (reducts (address r) u (contracts r)).whole
whole_of {t = t} (is_plain p) reducts parts = plain (plainly t parts p)
whole_of (is_lam {M = M}) reducts parts = of_lam (parts M the_body).whole

all_of : (t : Tree) → ((at : List ℕ) (u : Tree) → contracted t at ≡ Some u → Rules u) →
    ((u : Tree) → Part u t → Rules u) → Rules t
all_of t reducts parts = record {
  whole = whole_of (head_of t) reducts parts;
  of_argument = λ u s. argument_of s parts;
  as_plain = plainly t parts;
}

rules_of : {t : Tree} → Deep t → Rules t
rules_of {t = t} (deep r p) =
    all_of t (λ at u e. rules_of (r at u e)) (λ u h. rules_of (p u h))

pub strongly_normalising_by_rules : StronglyNormalisingByRules
strongly_normalising_by_rules t = (λ h. (rules_of (deep_of h)).whole, λ h. strong_of h)
