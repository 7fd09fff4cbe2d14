-- Looking for the first redex by function, argument and application.
use Rattle.std.proofs.Common.{◌≡◌, ℕ, ◌+◌, ◌≤◌, max, Bool, true, false, List, [], ◌∷◌, ◌++◌, length, take, reverse}
use Rattle.std.proofs.Common.{Option, Some, None, refl, sym, ap, ◌∙◌, subst, arith, append_assoc}
use Rattle.std.specs.Option.{option_or}
use Rattle.std.specs.Prelude.{if◌then◌else◌}
use Rattle.std.proofs.lemmas.List.{append-nil, reverse-append, take-append-le, take_at, length-take-le}
use Rattle.ol_term.specs.Trees.{Tree, lam, app, tree_of, term_size, depth}
use Rattle.ol_beta.specs.Leftmost.{under}
use Rattle.ol_strategies.specs.Redexes.{root_if}
use Rattle.ol_strategies.specs.Searches.{is_ready, strict_redex, redex_if}
use Rattle.ol_strategies.specs.declared.strict.Todo.{Todo}
use Rattle.ol_strategies.specs.declared.strict.Todo.TheVariants as todo
use Rattle.ol_beta.proofs.Searching.{prefixed, one_more, nothing_more, moved}

-- what is found in what is still to be looked at, the next one first, where the search stands at an address
abbrev pub later : Bool → List Todo → List ℕ → Option (List ℕ)
later b [] p = None
later b (todo.Argument a n ∷ ws) p = option_or (prefixed (take n p ++ 2 ∷ []) (strict_redex b (tree_of a.now)))
    (later b ws (take n p ++ 2 ∷ []))
later b (todo.Redex n ∷ ws) p = Some (take n p)

-- their applications stand round one another, and no argument is deeper than d allows
abbrev pub AreHeld : ℕ → ℕ → List Todo → Type 0
AreHeld d n [] = Unit {0}
AreHeld d n (todo.Argument a m ∷ ws) = (m ≤ n) × ((m + 1 + depth (tree_of a.now) ≤ d) × AreHeld d (m + 1) ws)
AreHeld d n (todo.Redex m ∷ ws) = m ≤ n

abbrev pub size_in : Todo → ℕ
size_in (todo.Argument a n) = term_size (tree_of a.now)
size_in (todo.Redex n) = 0

abbrev pub sizes : List Todo → ℕ
sizes [] = 0
sizes (w ∷ ws) = size_in w + sizes ws

-- the search stands at a part with this address
pub record IsSearched (b : Bool) (t part : Tree) (p : List ℕ) (ws : List Todo) : Type 0 where
  pub found : option_or (prefixed p (strict_redex b part)) (later b (reverse ws) p) ≡ strict_redex b t
  pub deep : length p + depth part ≤ depth t
  pub held : AreHeld (depth t) (length p) (reverse ws)

later_on : (b : Bool) (d : ℕ) (ws : List Todo) (p q : List ℕ) → AreHeld d (length p) ws →
    later b ws (p ++ q) ≡ later b ws p
later_on b d [] p q h = refl
later_on b d (todo.Argument a n ∷ ws) p q h = ap (λ (x : List ℕ).
    option_or (prefixed (x ++ 2 ∷ []) (strict_redex b (tree_of a.now)))
    (later b ws (x ++ 2 ∷ []))) (take-append-le n p q h.0)
later_on b d (todo.Redex n ∷ ws) p q h = ap (λ (x : List ℕ). Some x) (take-append-le n p q h)

held_on : (d m n : ℕ) (ws : List Todo) → AreHeld d m ws → m ≤ n → AreHeld d n ws
held_on d m n [] h l = tt
held_on d m n (todo.Argument a k ∷ ws) h l = let e = h.0 in (omega arith, h.1)
held_on d m n (todo.Redex k ∷ ws) h l = omega arith

pub sizes_push : (ws : List Todo) (w : Todo) → sizes (ws ++ w ∷ []) ≡ sizes ws + size_in w
sizes_push [] w = omega arith
sizes_push (v ∷ ws) w = let h = sizes_push ws w in omega arith

pub sizes_redex : (ws : List Todo) (r : Bool) (n : ℕ) → sizes (ws ++ redex_if r n) ≡ sizes ws
sizes_redex ws true n = let h = sizes_push ws (todo.Redex n) in omega arith
sizes_redex ws false n = ap (λ (x : List Todo). sizes x) (append-nil ws)

pub search_begun : (b : Bool) (t : Tree) (p : List ℕ) (ws : List Todo) → p ≡ [] → ws ≡ [] → IsSearched b t t p ws
search_begun b t p ws e f =
    let base : IsSearched b t t [] [] =
    record { found = nothing_more (strict_redex b t); deep = omega arith; held = tt } in
    subst (λ (p : List ℕ). IsSearched b t t p ws) (sym e)
    (subst (λ (ws : List Todo). IsSearched b t t [] ws) (sym f) base)

pub search_into_body : (b : Bool) (t part u : Tree) (p q : List ℕ) (ws : List Todo) → b ≡ true → part ≡ lam u →
    q ≡ p ++ 0 ∷ [] → IsSearched b t part p ws → IsSearched b t u q ws
search_into_body b t part u p q ws c e f s =
    let h : IsSearched b t (lam u) p ws = subst (λ (x : Tree). IsSearched b t x p ws) e s in
    let n = one_more p 0 in
    let k = h.deep in
    subst (λ (q : List ℕ). IsSearched b t u q ws) (sym f) (record {
      found = ap (λ (r : Option (List ℕ)). option_or (prefixed (p ++ 0 ∷ []) (strict_redex b u)) r)
          (later_on b (depth t) (reverse ws) p (0 ∷ []) h.held)
          ∙ moved p 0 (strict_redex b u) (later b (reverse ws) p)
          ∙ ap (λ (c : Bool). option_or (prefixed p (if c then under 0 (strict_redex b u) else None))
          (later b (reverse ws) p)) (sym c) ∙ h.found;
      deep = omega arith;
      held = held_on (depth t) (length p) (length (p ++ 0 ∷ [])) (reverse ws) h.held (omega arith);
    })

three_sides : (p : List ℕ) (x y z r : Option (List ℕ)) →
    option_or (prefixed (p ++ 1 ∷ []) x)
    (option_or (prefixed (p ++ 2 ∷ []) y) (option_or (prefixed p z) r))
    ≡ option_or (prefixed p (option_or (under 1 x) (option_or (under 2 y) z))) r
three_sides p None None z r = refl
three_sides p None (Some y) z r = ap (λ (y : List ℕ). Some y) (append_assoc p (2 ∷ []) y)
three_sides p (Some x) y z r = ap (λ (y : List ℕ). Some y) (append_assoc p (1 ∷ []) x)

reverse_push : (ws : List Todo) (w : Todo) → reverse (ws ++ w ∷ []) ≡ w ∷ reverse ws
reverse_push ws w = reverse-append ws (w ∷ [])

reverse_redex : (ws : List Todo) (r : Bool) (n : ℕ) → reverse (ws ++ redex_if r n) ≡ redex_if r n ++ reverse ws
reverse_redex ws true n = reverse_push ws (todo.Redex n)
reverse_redex ws false n = ap (λ (x : List Todo). reverse x) (append-nil ws)

-- the application itself comes after its argument
then_redex : (b r : Bool) (d n : ℕ) (ws : List Todo) (p : List ℕ) → n ≡ length p → AreHeld d (length p) ws →
    later b (redex_if r n ++ ws) (p ++ 2 ∷ []) ≡ option_or (prefixed p (root_if r)) (later b ws p)
then_redex b true d n ws p e h = ap (λ (x : List ℕ). Some x) (take_at p (2 ∷ []) n (sym e) ∙ sym (append-nil p))
then_redex b false d n ws p e h = later_on b d ws p (2 ∷ []) h

held_redex : (r : Bool) (d n : ℕ) (ws : List Todo) → AreHeld d n ws → AreHeld d (n + 1) (redex_if r n ++ ws)
held_redex true d n ws h = let l : n ≤ n + 1 = omega arith in l
held_redex false d n ws h = held_on d n (n + 1) ws h (omega arith)

pub search_into_function : (b : Bool) (t part f a : Tree) (p q : List ℕ) (ws us vs : List Todo) (r : Bool) (n : ℕ)
    (w : Todo) → part ≡ app f a → r ≡ is_ready b f a → q ≡ p ++ 1 ∷ [] → us ≡ ws ++ redex_if r n →
    vs ≡ us ++ w ∷ [] → n ≡ length p →
    ((p : List ℕ) (ts : List Todo) → later b (w ∷ ts) p ≡ option_or (prefixed (take n p ++ 2 ∷ []) (strict_redex b a))
    (later b ts (take n p ++ 2 ∷ []))) →
    ((d k : ℕ) (ts : List Todo) → n ≤ k → n + 1 + depth a ≤ d → AreHeld d (n + 1) ts → AreHeld d k (w ∷ ts)) →
    IsSearched b t part p ws → IsSearched b t f q vs
search_into_function b t part f a p q ws us vs r n w e c i j v at arg hold s =
    let h : IsSearched b t (app f a) p ws = subst (λ (x : Tree). IsSearched b t x p ws) e s in
    let m = one_more p 1 in
    let k : length p + (1 + max (depth f) (depth a)) ≤ depth t = h.deep in
    let lf : depth f ≤ max (depth f) (depth a) = omega arith in
    let la : depth a ≤ max (depth f) (depth a) = omega arith in
    let here : take n (p ++ 1 ∷ []) ≡ p = take_at p (1 ∷ []) n (sym at) in
    let rest : List Todo = redex_if r n ++ reverse ws in
    let rev : reverse vs ≡ w ∷ (redex_if r n ++ reverse ws) =
    ap (λ (x : List Todo). reverse x) v ∙ reverse_push us w
    ∙ ap (λ (x : List Todo). w ∷ x) (ap (λ (x : List Todo). reverse x) j ∙ reverse_redex ws r n) in
    let own : AreHeld (depth t) n (reverse ws) =
    subst (λ (n : ℕ). AreHeld (depth t) n (reverse ws)) (sym at) h.held in
    let old : option_or (prefixed p (option_or (under 1 (strict_redex b f))
    (option_or (under 2 (strict_redex b a)) (root_if r)))) (later b (reverse ws) p) ≡ strict_redex b t =
    ap (λ (c : Bool). option_or (prefixed p (option_or (under 1 (strict_redex b f))
    (option_or (under 2 (strict_redex b a)) (root_if c)))) (later b (reverse ws) p)) c ∙ h.found in
    let new : later b (w ∷ (redex_if r n ++ reverse ws)) (p ++ 1 ∷ []) ≡ option_or
    (prefixed (p ++ 2 ∷ []) (strict_redex b a)) (option_or (prefixed p (root_if r)) (later b (reverse ws) p)) =
    arg (p ++ 1 ∷ []) (redex_if r n ++ reverse ws)
    ∙ ap (λ (x : List ℕ). option_or (prefixed (x ++ 2 ∷ []) (strict_redex b a))
    (later b (redex_if r n ++ reverse ws) (x ++ 2 ∷ []))) here
    ∙ ap (λ (o : Option (List ℕ)). option_or (prefixed (p ++ 2 ∷ []) (strict_redex b a)) o)
    (then_redex b r (depth t) n (reverse ws) p at h.held) in
    subst (λ (q : List ℕ). IsSearched b t f q vs) (sym i) (record {
      found =
          ap (λ (x : List Todo). option_or (prefixed (p ++ 1 ∷ []) (strict_redex b f)) (later b x (p ++ 1 ∷ []))) rev
          ∙ ap (λ (o : Option (List ℕ)). option_or (prefixed (p ++ 1 ∷ []) (strict_redex b f)) o) new
          ∙ three_sides p (strict_redex b f) (strict_redex b a) (root_if r) (later b (reverse ws) p) ∙ old;
      deep = omega arith;
      held = subst (λ (x : List Todo). AreHeld (depth t) (length (p ++ 1 ∷ [])) x) (sym rev)
          (hold (depth t) (length (p ++ 1 ∷ [])) (redex_if r n ++ reverse ws) (omega arith) (omega arith)
          (held_redex r (depth t) n (reverse ws) own));
    })

pub search_next : (b : Bool) (t part a : Tree) (p q : List ℕ) (ws vs : List Todo) (n : ℕ) (w : Todo) →
    strict_redex b part ≡ None → q ≡ take n p ++ 2 ∷ [] → ws ≡ vs ++ w ∷ [] →
    ((p : List ℕ) (ts : List Todo) → later b (w ∷ ts) p ≡ option_or (prefixed (take n p ++ 2 ∷ []) (strict_redex b a))
    (later b ts (take n p ++ 2 ∷ []))) →
    ((d k : ℕ) (ts : List Todo) → AreHeld d k (w ∷ ts) → (n ≤ k) × ((n + 1 + depth a ≤ d) × AreHeld d (n + 1) ts)) →
    IsSearched b t part p ws → IsSearched b t a q vs
search_next b t part a p q ws vs n w e i j arg hold s =
    let r : reverse ws ≡ w ∷ reverse vs = ap (λ (x : List Todo). reverse x) j ∙ reverse_push vs w in
    let all : AreHeld (depth t) (length p) (w ∷ reverse vs) = subst
    (λ (x : List Todo). AreHeld (depth t) (length p) x) r s.held in
    let held = hold (depth t) (length p) (reverse vs) all in
    let low = held.0 in
    let deep = held.1.0 in
    let m : length (take n p ++ 2 ∷ []) ≡ n + 1 = one_more (take n p) 2
    ∙ ap (λ (k : ℕ). k + 1) (length-take-le n p low) in
    subst (λ (q : List ℕ). IsSearched b t a q vs) (sym i) (record {
      found =
          sym (arg p (reverse vs))
          ∙ sym (ap (λ (o : Option (List ℕ)). option_or (prefixed p o) (later b (w ∷ reverse vs) p)) e)
          ∙ sym (ap (λ (x : List Todo). option_or (prefixed p (strict_redex b part)) (later b x p)) r) ∙ s.found;
      deep = omega arith;
      held = held_on (depth t) (n + 1) (length (take n p ++ 2 ∷ [])) (reverse vs) held.1.1 (omega arith);
    })

pub search_none : (b : Bool) (t part : Tree) (p : List ℕ) (ws : List Todo) → strict_redex b part ≡ None → ws ≡ [] →
    IsSearched b t part p ws → None ≡ strict_redex b t
search_none b t part p ws e f s =
    sym (ap (λ (o : Option (List ℕ)). option_or (prefixed p o) (later b (reverse ws) p)) e
    ∙ ap (λ (x : List Todo). later b (reverse x) p) f) ∙ s.found

pub search_redex : (b : Bool) (t part : Tree) (p : List ℕ) (ws vs : List Todo) (n : ℕ) (w : Todo) →
    strict_redex b part ≡ None → ws ≡ vs ++ w ∷ [] → w ≡ todo.Redex n → IsSearched b t part p ws →
    Some (take n p) ≡ strict_redex b t
search_redex b t part p ws vs n w e j i s =
    let r : reverse ws ≡ todo.Redex n ∷ reverse vs =
    ap (λ (x : List Todo). reverse x) j ∙ reverse_push vs w ∙ ap (λ (w : Todo). w ∷ reverse vs) i in
    sym (ap (λ (o : Option (List ℕ)). option_or (prefixed p o) (later b (reverse ws) p)) e
    ∙ ap (λ (x : List Todo). later b x p) r) ∙ s.found

pub one_sizes : (ws vs : List Todo) (w : Todo) → ws ≡ vs ++ w ∷ [] → sizes ws ≡ sizes vs + size_in w
one_sizes ws vs w e = ap (λ (x : List Todo). sizes x) e ∙ sizes_push vs w

pub two_sizes : (ws us vs : List Todo) (r : Bool) (n : ℕ) (w : Todo) → us ≡ ws ++ redex_if r n → vs ≡ us ++ w ∷ [] →
    sizes vs ≡ sizes ws + size_in w
two_sizes ws us vs r n w e f = one_sizes vs us w f
    ∙ ap (λ (k : ℕ). k + size_in w) (ap (λ (x : List Todo). sizes x) e ∙ sizes_redex ws r n)
