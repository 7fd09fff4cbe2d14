-- Places of names.
use Rattle.std.proofs.Common.{◌≡◌, ℕ, suc, ◌+◌, ◌-◌, ◌<◌, ◌≤◌, List, [], ◌∷◌, ◌++◌, drop, get_or}
use Rattle.std.proofs.Common.{length, reverse, Bool, true, false, cond, Option, Some, None, refl, sym, ap, ◌∙◌}
use Rattle.std.proofs.Common.{append_assoc, append-nil, add-one, drop-cons, arith}
use Rattle.std.proofs.lemmas.List.{get_or-reverse}
use Rattle.std.specs.List.{position_from}
use Rattle.std.proofs.lemmas.Slice.Eq.{bytes_eq-Decides}
use Rattle.std.specs.Borrow.{Bor}
use Rattle.std.specs.Str.{bytes_eq}
use Rattle.ol_term.proofs.NamePlaces.{first_place, one_name_more}
use Rattle.ol_parse.specs.Grammar.{Named, var, lam, app}
use Rattle.ol_term.specs.Trees as tree
use Rattle.ol_term.specs.Trees.{Tree}
use Rattle.ol_term.specs.NameLists.{IsFirstPlace, position_of, put_unless, free_at}
use Rattle.ol_parse.specs.Numbered.{numbered, var_at}
use Rattle.ol_parse.specs.Resolving.{texts, names_from, add_unless, IsNumbered}

abbrev is : List ℕ → List ℕ → Bool
is name = λ y. bytes_eq name y

-- one turn of a search
pub one_turn : (name : List ℕ) (xs : List (Bor (List ℕ))) (i : ℕ) (d : Bor (List ℕ)) (b : Bool)
    (r : Option ℕ) → i < length xs → position_from (λ y. bytes_eq name y) i
    (texts (drop i xs)) ≡ r → b ≡ bytes_eq name (get_or xs i d).now →
    cond b (Some i) (position_from (λ y. bytes_eq name y) (i + 1) (texts (drop (i + 1) xs))) ≡ r
one_turn name xs i d b r h e t =
    ap (λ k. cond b (Some i) (position_from (is name) (i + 1) (texts (drop k xs)))) (add-one i)
    ∙ ap (λ y. cond y (Some i) (position_from (is name) (i + 1) (texts (drop (suc i) xs)))) t
    ∙ ap (λ l. position_from (is name) i (texts l)) (sym (drop-cons xs i d h)) ∙ e

pub turn_back : (name : List ℕ) (xs : List (Bor (List ℕ))) (i : ℕ) (d : Bor (List ℕ)) (b : Bool)
    (r : Option ℕ) → i < length (reverse xs) → i < length xs →
    position_from (λ y. bytes_eq name y) i (texts (drop i (reverse xs))) ≡ r →
    b ≡ bytes_eq name (get_or xs (length xs - 1 - i) d).now →
    cond b (Some i) (position_from (λ y. bytes_eq name y) (i + 1) (texts (drop (i + 1) (reverse xs)))) ≡ r
turn_back name xs i d b r h k e t = one_turn name (reverse xs) i d b r h e
    (t ∙ ap (λ (y : Bor (List ℕ)). bytes_eq name y.now) (sym (get_or-reverse xs i d k)))

kept_at : (i k : ℕ) (p q : Option ℕ) (b : Bool) → (p ≡ Some k → q ≡ Some k) →
    cond b (Some i) p ≡ Some k → cond b (Some i) q ≡ Some k
kept_at i k p q true each h = h
kept_at i k p q false each h = each h

pub kept_from : (x : List ℕ) (more : List (List ℕ)) (k : ℕ) (xs : List (List ℕ)) (i : ℕ) →
    position_from (λ y. bytes_eq x y) i xs ≡ Some k → position_from (λ y. bytes_eq x y) i (xs ++ more) ≡ Some k
kept_from x more k [] i h = absurd (cc)
kept_from x more k (y ∷ xs) i h = kept_at i k (position_from (is x) (i + 1) xs)
    (position_from (is x) (i + 1) (xs ++ more)) (bytes_eq x y) (kept_from x more k xs (i + 1)) h

new_at : (i k : ℕ) (p q : Option ℕ) (b : Bool) → (p ≡ None → q ≡ Some k) →
    cond b (Some i) p ≡ None → cond b (Some i) q ≡ Some k
new_at i k p q true each h = absurd (cc)
new_at i k p q false each h = each h

pub new_from : (x : List ℕ) (more : List (List ℕ)) (k : ℕ) (xs : List (List ℕ)) (i : ℕ) →
    k ≡ i + length xs → position_from (λ y. bytes_eq x y) i xs ≡ None →
    position_from (λ y. bytes_eq x y) i (xs ++ (x ∷ more)) ≡ Some k
new_from x more k [] i e h = let n : i ≡ k = omega arith in
    ap (λ b. cond b (Some i) (position_from (is x) (i + 1) more)) ((bytes_eq-Decides x x).1 refl)
    ∙ ap (λ (n : ℕ). Some n) n
new_from x more k (y ∷ xs) i e h =
    let n : k ≡ (i + 1) + length xs = omega arith in
    new_at i k (position_from (is x) (i + 1) xs) (position_from (is x) (i + 1) (xs ++ (x ∷ more)))
    (bytes_eq x y) (new_from x more k xs (i + 1) n) h

add_grows : (names : List (List ℕ)) (x : List ℕ) (o : Option ℕ) →
    (rest : List (List ℕ)) × (add_unless names x None o ≡ names ++ rest)
add_grows names x (Some k) = ([], sym (append-nil names))
add_grows names x None = (x ∷ [], refl)

free_grows : (names : List (List ℕ)) (x : List ℕ) (o : Option ℕ) →
    (rest : List (List ℕ)) × (add_unless names x o (position_of x names) ≡ names ++ rest)
free_grows names x (Some k) = ([], sym (append-nil names))
free_grows names x None = add_grows names x (position_of x names)

pub grows : (t : Named) (binders names : List (List ℕ)) →
    (rest : List (List ℕ)) × (names_from binders names t ≡ names ++ rest)
grows (var x) binders names = free_grows names x (position_of x binders)
grows (lam x t) binders names = grows t (x ∷ binders) names
grows (app f t) binders names =
    let (a, e) = grows f binders names in
    let (b, h) = grows t binders (names_from binders names f) in
    (a ++ b, h ∙ ap (λ l. l ++ b) e ∙ append_assoc names a b)

-- ---- a free name

pub same_put : (x : List ℕ) (table : List (List ℕ)) (o : Option ℕ) → add_unless table x None o ≡ put_unless o table x
same_put x table None = refl
same_put x table (Some k) = refl

-- the names behind it
pub free_named : (t : Named) (x : List ℕ) (binders old new : List (List ℕ)) (k : ℕ) → t ≡ var x →
    position_of x binders ≡ None → IsFirstPlace new x k → (k < length old → new ≡ old) →
    (length old ≤ k → new ≡ old ++ (x ∷ [])) → new ≡ names_from binders old t
free_named t x binders old new k e b f known last =
    one_name_more x old new k f known last ∙ sym (ap (names_from binders old) e
    ∙ ap (λ o. add_unless old x o (position_of x old)) b ∙ same_put x old (position_of x old))

-- its number
pub free_numbered : (t : Named) (x : List ℕ) (binders names : List (List ℕ)) (k : ℕ) → t ≡ var x →
    position_of x binders ≡ None → IsFirstPlace names x k → (more : List (List ℕ)) →
    numbered (names ++ more) binders t ≡ tree.free k
free_numbered t x binders names k e b f more =
    ap (numbered (names ++ more) binders) e ∙ ap (λ o. var_at o (position_of x (names ++ more))) b
    ∙ ap free_at (kept_from x more k names 0 (first_place x names k f))

-- ---- an application, and a whole term

pub both_numbered : (t f a : Named) (binders names mid last : List (List ℕ)) (g b : Tree) →
    t ≡ app f a → mid ≡ names_from binders names f → last ≡ names_from binders mid a →
    IsNumbered mid binders f g → IsNumbered last binders a b → (more : List (List ℕ)) →
    numbered (last ++ more) binders t ≡ tree.app g b
both_numbered t f a binders names mid last g b e m l p q more =
    let (rest, h) = grows a binders mid in
    let w : last ++ more ≡ mid ++ (rest ++ more) = ap (λ x. x ++ more) (l ∙ h) ∙ append_assoc mid rest more in
    ap (numbered (last ++ more) binders) e
    ∙ ap (λ x. tree.app x (numbered (last ++ more) binders a)) (ap (λ x. numbered x binders f) w ∙ p (rest ++ more))
    ∙ ap (tree.app g) (q more)
