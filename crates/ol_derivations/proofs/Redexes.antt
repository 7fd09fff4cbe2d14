-- The redexes of a term, in preorder.
use Rattle.std.proofs.Common.{◌≡◌, ℕ, zero, suc, ◌+◌, ◌<◌, length, take, arith, true, false, List, [], ◌∷◌, ◌++◌, map, Option, Some, None, refl, sym, ap, ◌∙◌, subst}
use Rattle.std.proofs.Common.{append_assoc, append-nil}
use Rattle.std.proofs.lemmas.List.{map-append, take_more}
use Rattle.std.specs.Prelude.{IsSome, Bool, ◌==◌, if◌then◌else◌, get_or}
use Rattle.std.proofs.lemmas.Bool.{eqb-true}
use Rattle.std.proofs.lemmas.Option.{none-some}
use Rattle.std.specs.Option.{option_map}
use Rattle.ol_term.specs.Trees.{Tree, var, free, lam, app}
use Rattle.ol_beta.specs.Beta.{contracted, applied}
use Rattle.ol_beta.specs.Leftmost.{is_abstraction}
use Rattle.ol_beta.proofs.Redexes.{map_some}
use Rattle.ol_derivations.specs.Reductions.{redexes}
use Rattle.ol_derivations.specs.Searches.{placed}

clash : false ≡ true → ⊥
clash e = cc

pub not_none : (o : Option Tree) → IsSome o → o ≡ None → ⊥
not_none None s e = clash s
not_none (Some t) s e = none-some t (sym e)

-- ---- of each of a list

abbrev pub Each : (List ℕ → Type 0) → List (List ℕ) → Type 0
Each P [] = Unit {0}
Each P (x ∷ xs) = P x × Each P xs

pub each_append : (P : List ℕ → Type 0) (xs ys : List (List ℕ)) → Each P xs → Each P ys → Each P (xs ++ ys)
each_append P [] ys h k = k
each_append P (x ∷ xs) ys h k = (h.0, each_append P xs ys h.1 k)

each_front : (P : List ℕ → Type 0) (xs ys : List (List ℕ)) → Each P (xs ++ ys) → Each P xs
each_front P [] ys h = tt
each_front P (x ∷ xs) ys h = (h.0, each_front P xs ys h.1)

each_back : (P : List ℕ → Type 0) (xs ys : List (List ℕ)) → Each P (xs ++ ys) → Each P ys
each_back P [] ys h = h
each_back P (x ∷ xs) ys h = each_back P xs ys h.1

each_map : (P : List ℕ → Type 0) (f : List ℕ → List ℕ) (xs : List (List ℕ)) → Each (λ x. P (f x)) xs →
    Each P (map f xs)
each_map P f [] h = tt
each_map P f (x ∷ xs) h = (h.0, each_map P f xs h.1)

each_of_map : (P : List ℕ → Type 0) (f : List ℕ → List ℕ) (xs : List (List ℕ)) → Each P (map f xs) →
    Each (λ x. P (f x)) xs
each_of_map P f [] h = tt
each_of_map P f (x ∷ xs) h = (h.0, each_of_map P f xs h.1)

pub each_weaker : (P Q : List ℕ → Type 0) (xs : List (List ℕ)) → ((x : List ℕ) → P x → Q x) → Each P xs → Each Q xs
each_weaker P Q [] w h = tt
each_weaker P Q (x ∷ xs) w h = (w x h.0, each_weaker P Q xs w h.1)

-- ---- each address of the list leads to a redex

abbrev here : (f a : Tree) → List (List ℕ)
here f a = if is_abstraction f then [] ∷ [] else []

redex_here : (f a : Tree) → Each (λ at. IsSome (contracted (app f a) at)) (here f a)
redex_here (var k) a = tt
redex_here (free k) a = tt
redex_here (lam b) a = (refl, tt)
redex_here (app g c) a = tt

pub are_redexes : (t : Tree) → Each (λ at. IsSome (contracted t at)) (redexes t)
are_redexes (var k) = tt
are_redexes (free k) = tt
are_redexes (lam b) = each_map (λ at. IsSome (contracted (lam b) at)) (λ at. 0 ∷ at) (redexes b)
    (each_weaker (λ at. IsSome (contracted b at)) (λ at. IsSome (contracted (lam b) (0 ∷ at))) (redexes b)
    (λ at s. map_some lam (contracted b at) s) (are_redexes b))
are_redexes (app f a) =
    let P : List ℕ → Type 0 = λ at. IsSome (contracted (app f a) at) in
    each_append P (here f a) (map (λ at. 1 ∷ at) (redexes f) ++ map (λ at. 2 ∷ at) (redexes a)) (redex_here f a)
    (each_append P (map (λ at. 1 ∷ at) (redexes f)) (map (λ at. 2 ∷ at) (redexes a))
    (each_map P (λ at. 1 ∷ at) (redexes f)
    (each_weaker (λ at. IsSome (contracted f at)) (λ at. P (1 ∷ at)) (redexes f)
    (λ at s. map_some (λ g. app g a) (contracted f at) s) (are_redexes f)))
    (each_map P (λ at. 2 ∷ at) (redexes a)
    (each_weaker (λ at. IsSome (contracted a at)) (λ at. P (2 ∷ at)) (redexes a)
    (λ at s. map_some (app f) (contracted a at) s) (are_redexes a))))

-- ---- each redex has its address there

of_map : (f : Tree → Tree) (o : Option Tree) (s : Tree) → option_map f o ≡ Some s → (x : Tree) × (o ≡ Some x)
of_map f None s e = absurd (none-some s e)
of_map f (Some x) s e = (x, refl)

each_here : (P : List ℕ → Type 0) (f a s : Tree) → Each P (here f a) → applied f a ≡ Some s → P []
each_here P (var k) a s h e = absurd (none-some s e)
each_here P (free k) a s h e = absurd (none-some s e)
each_here P (lam b) a s h e = h.0
each_here P (app g c) a s h e = absurd (none-some s e)

-- where a redex below an abstraction, or beside an application, stands
lower : (P : List ℕ → Type 0) (b s : Tree) (m : ℕ) (at : List ℕ) (x : Bool) → (m == 0) ≡ x →
    ((s : Tree) → contracted b at ≡ Some s → P (0 ∷ at)) →
    (if x then option_map lam (contracted b at) else None) ≡ Some s → P (m ∷ at)
lower P b s m at false e h c = absurd (none-some s c)
lower P b s m at true e h c =
    let o = of_map lam (contracted b at) s c in
    subst (λ m. P (m ∷ at)) (sym (eqb-true m 0 e)) (h o.0 o.1)

at_argument : (P : List ℕ → Type 0) (f a s : Tree) (m : ℕ) (at : List ℕ) (x : Bool) → (m == 2) ≡ x →
    ((s : Tree) → contracted a at ≡ Some s → P (2 ∷ at)) →
    (if x then option_map (app f) (contracted a at) else None) ≡ Some s → P (m ∷ at)
at_argument P f a s m at false e h c = absurd (none-some s c)
at_argument P f a s m at true e h c =
    let o = of_map (app f) (contracted a at) s c in
    subst (λ m. P (m ∷ at)) (sym (eqb-true m 2 e)) (h o.0 o.1)

at_function : (P : List ℕ → Type 0) (f a s : Tree) (m : ℕ) (at : List ℕ) (x : Bool) → (m == 1) ≡ x →
    ((s : Tree) → contracted f at ≡ Some s → P (1 ∷ at)) →
    ((s : Tree) → contracted a at ≡ Some s → P (2 ∷ at)) →
    (if x then option_map (λ g. app g a) (contracted f at)
    else if m == 2 then option_map (app f) (contracted a at) else None) ≡ Some s → P (m ∷ at)
at_function P f a s m at false e h k c = at_argument P f a s m at (m == 2) refl k c
at_function P f a s m at true e h k c =
    let o = of_map (λ g. app g a) (contracted f at) s c in
    subst (λ m. P (m ∷ at)) (sym (eqb-true m 1 e)) (h o.0 o.1)

pub each_redex : (P : List ℕ → Type 0) (t : Tree) → Each P (redexes t) → (at : List ℕ) (s : Tree) →
    contracted t at ≡ Some s → P at
each_redex P (var k) h at s e = absurd (none-some s e)
each_redex P (free k) h at s e = absurd (none-some s e)
each_redex P (lam b) h [] s e = absurd (none-some s e)
each_redex P (lam b) h (m ∷ at) s e =
    lower P b s m at (m == 0) refl
    (λ x c. each_redex (λ at. P (0 ∷ at)) b (each_of_map P (λ at. 0 ∷ at) (redexes b) h) at x c) e
each_redex P (app f a) h [] s e =
    each_here P f a s (each_front P (here f a) (map (λ at. 1 ∷ at) (redexes f) ++ map (λ at. 2 ∷ at) (redexes a)) h) e
each_redex P (app f a) h (m ∷ at) s e =
    let F = map (λ at. 1 ∷ at) (redexes f) in
    let A = map (λ at. 2 ∷ at) (redexes a) in
    let below = each_back P (here f a) (F ++ A) h in
    at_function P f a s m at (m == 1) refl
    (λ x c. each_redex (λ at. P (1 ∷ at)) f (each_of_map P (λ at. 1 ∷ at) (redexes f) (each_front P F A below)) at x c)
    (λ x c. each_redex (λ at. P (2 ∷ at)) a (each_of_map P (λ at. 2 ∷ at) (redexes a) (each_back P F A below)) at x c) e

-- the redex at place k
each_at : (P : List ℕ → Type 0) (xs : List (List ℕ)) (k : ℕ) (x : List ℕ) → k < length xs → x ≡ get_or xs k x →
    Each P xs → P x
each_at P [] k x l e h = absurd (omega (arith, l))
each_at P (y ∷ ys) zero x l e h = subst P (sym e) h.0
each_at P (y ∷ ys) (suc k) x l e h = each_at P ys k x (omega (arith, l)) e h.1

pub redex_at : (t : Tree) (all : List (List ℕ)) (k : ℕ) (at : List ℕ) → all ≡ redexes t → k < length all →
    at ≡ get_or all k at → IsSome (contracted t at)
redex_at t all k at e l g =
    each_at (λ at. IsSome (contracted t at)) all k at l g
    (subst (Each (λ at. IsSome (contracted t at))) (sym e) (are_redexes t))

-- the list up to place k
pub front : (all : List (List ℕ)) (k : ℕ) (at : List ℕ) → k < length all → at ≡ get_or all k at →
    take (k + 1) all ≡ take k all ++ at ∷ []
front all k at l g = take_more all k at l ∙ ap (λ x. take k all ++ x ∷ []) (sym g)

-- ---- as they are found

pub placed_lower : (at : List ℕ) (m : ℕ) (bs : List (List ℕ)) → placed at (map (λ b. m ∷ b) bs) ≡ map (λ b. at ++ m ∷ b) bs
placed_lower at m [] = refl
placed_lower at m (b ∷ bs) = ap (λ cs. (at ++ m ∷ b) ∷ cs) (placed_lower at m bs)

pub placed_below : (at : List ℕ) (m : ℕ) (bs : List (List ℕ)) → placed (at ++ m ∷ []) bs ≡ map (λ b. at ++ m ∷ b) bs
placed_below at m [] = refl
placed_below at m (b ∷ bs) = ap (λ c. c ∷ placed (at ++ m ∷ []) bs) (append_assoc at (m ∷ []) b)
    ∙ ap (λ cs. (at ++ m ∷ b) ∷ cs) (placed_below at m bs)

pub placed_at_root : (bs : List (List ℕ)) → placed [] bs ≡ bs
placed_at_root [] = refl
placed_at_root (b ∷ bs) = ap (λ cs. b ∷ cs) (placed_at_root bs)

app_added : (old hs : List (List ℕ)) (at : List ℕ) (f a : Tree) (gs : List (List ℕ)) → placed at gs ≡ hs →
    ((old ++ hs) ++ map (λ b. at ++ 1 ∷ b) (redexes f)) ++ map (λ b. at ++ 2 ∷ b) (redexes a)
    ≡ old ++ placed at (gs ++ (map (λ b. 1 ∷ b) (redexes f) ++ map (λ b. 2 ∷ b) (redexes a)))
app_added old hs at f a gs e =
    let F = map (λ b. at ++ 1 ∷ b) (redexes f) in
    let A = map (λ b. at ++ 2 ∷ b) (redexes a) in
    let below : placed at (map (λ b. 1 ∷ b) (redexes f) ++ map (λ b. 2 ∷ b) (redexes a)) ≡ F ++ A =
    map-append (λ b. at ++ b) (map (λ b. 1 ∷ b) (redexes f)) (map (λ b. 2 ∷ b) (redexes a))
    ∙ ap (λ bs. bs ++ placed at (map (λ b. 2 ∷ b) (redexes a))) (placed_lower at 1 (redexes f))
    ∙ ap (λ bs. F ++ bs) (placed_lower at 2 (redexes a)) in
    append_assoc (old ++ hs) F A ∙ append_assoc old hs (F ++ A)
    ∙ ap (λ bs. old ++ (bs ++ (F ++ A))) (sym e)
    ∙ ap (λ bs. old ++ (placed at gs ++ bs)) (sym below)
    ∙ ap (λ bs. old ++ bs) (sym (map-append (λ b. at ++ b) gs
    (map (λ b. 1 ∷ b) (redexes f) ++ map (λ b. 2 ∷ b) (redexes a))))

-- what is added for an abstraction
pub lam_placed : (old new : List (List ℕ)) (at : List ℕ) (b : Tree) → new ≡ old ++ placed (at ++ 0 ∷ []) (redexes b) →
    new ≡ old ++ placed at (redexes (lam b))
lam_placed old new at b e = e
    ∙ ap (λ bs. old ++ bs) (placed_below at 0 (redexes b) ∙ sym (placed_lower at 0 (redexes b)))

-- what is added for an application
added_here : (at : List ℕ) (f : Tree) → placed at (if is_abstraction f then [] ∷ [] else [])
    ≡ (if is_abstraction f then at ∷ [] else [])
added_here at (var k) = refl
added_here at (free k) = refl
added_here at (lam b) = ap (λ x. x ∷ []) (append-nil at)
added_here at (app g c) = refl

pub app_placed : (old mid below new : List (List ℕ)) (at : List ℕ) (f a : Tree) →
    mid ≡ old ++ (if is_abstraction f then at ∷ [] else []) → below ≡ mid ++ placed (at ++ 1 ∷ []) (redexes f) →
    new ≡ below ++ placed (at ++ 2 ∷ []) (redexes a) → new ≡ old ++ placed at (redexes (app f a))
app_placed old mid below new at f a d e g =
    let F = map (λ b. at ++ 1 ∷ b) (redexes f) in
    let A = map (λ b. at ++ 2 ∷ b) (redexes a) in
    let hs = if is_abstraction f then at ∷ [] else [] in
    g ∙ ap (λ bs. below ++ bs) (placed_below at 2 (redexes a))
    ∙ ap (λ bs. bs ++ A) (e ∙ ap (λ bs. mid ++ bs) (placed_below at 1 (redexes f)) ∙ ap (λ bs. bs ++ F) d)
    ∙ app_added old hs at f a (if is_abstraction f then [] ∷ [] else []) (added_here at f)

-- as it is kept
pub lam_done : (old new : List (List ℕ)) (at low : List ℕ) (t b : Tree) → t ≡ lam b → low ≡ at ++ 0 ∷ [] →
    new ≡ old ++ placed low (redexes b) → new ≡ old ++ placed at (redexes t)
lam_done old new at low t b e l h = subst (λ t. new ≡ old ++ placed at (redexes t)) (sym e)
    (lam_placed old new at b (h ∙ ap (λ at. old ++ placed at (redexes b)) l))

pub app_done : (old mid below new : List (List ℕ)) (at slice one two : List ℕ) (t f a : Tree) → t ≡ app f a →
    slice ≡ at → one ≡ at ++ 1 ∷ [] → two ≡ at ++ 2 ∷ [] →
    mid ≡ old ++ (if is_abstraction f then slice ∷ [] else []) → below ≡ mid ++ placed one (redexes f) →
    new ≡ below ++ placed two (redexes a) → new ≡ old ++ placed at (redexes t)
app_done old mid below new at slice one two t f a e s o w h i j =
    subst (λ t. new ≡ old ++ placed at (redexes t)) (sym e) (app_placed old mid below new at f a
    (h ∙ ap (λ (at : List ℕ). old ++ (if is_abstraction f then at ∷ [] else [])) s)
    (i ∙ ap (λ at. mid ++ placed at (redexes f)) o) (j ∙ ap (λ at. below ++ placed at (redexes a)) w))

pub root_done : (new found bs : List (List ℕ)) (at : List ℕ) → found ≡ [] → at ≡ [] → new ≡ found ++ placed at bs →
    new ≡ bs
root_done new found bs at f a e = e ∙ ap (λ (xs : List (List ℕ)). xs ++ placed at bs) f
    ∙ ap (λ at. placed at bs) a ∙ placed_at_root bs
