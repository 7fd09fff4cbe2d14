-- Walks over a labelled term in which whatever is popped was pushed in the walk, and not long ago: where the rules build
-- the term, they end.
-- Used in Simulating, Walked and Circling.
use Rattle.std.proofs.Common.{◌≡◌, ℕ, ◌<◌, ◌≤◌, Bool, true, false, List, [], ◌∷◌, refl, sym, subst, arith}
use Rattle.ol_context.specs.Contexts.{Level, Context}
use Rattle.ol_law_optimality.specs.Labels.{Label, Labelled, var, free, lam, app, erased}
use Rattle.ol_law_meaning.specs.Spots.{root, wire, Spot, at, body, fun, arg}
use Rattle.ol_term.specs.declared.translations.Translation.{Translation}
use Rattle.ol_law_completeness.proofs.Jumps.{Jump, at_node, at_root, goes_on}
use Rattle.ol_law_completeness.proofs.Jumps as jumps
use Rattle.ol_law_completeness.proofs.Hops.{Act, app_pop, lam_push, lam_pop, Hop, to_body, to_var, to_fun, to_arg}
use Rattle.ol_law_completeness.proofs.Hops.{from_body, from_var, from_fun, from_arg, in_body, in_fun, in_arg}
use Rattle.ol_law_completeness.proofs.Hops.{Effect, lam_pushed, app_popped, lam_popped}
use Rattle.ol_law_completeness.proofs.Walls.{size}

pub data Move (τ : Translation) (K : ℕ) (t : Labelled) (d : Bool) (s : Spot) (A : List ℕ) (e : Bool) (z : Spot) (B : List ℕ) : Type 0 where
  move : {k : Act} {n : ℕ} → Hop τ t k n d s e z → Effect K k n A B → Move τ K t d s A e z B

-- each walk from here ends
pub data Fin (τ : Translation) (K : ℕ) (t : Labelled) : Bool → Spot → List ℕ → Type 0 where
  fin : {d : Bool} {s : Spot} {A : List ℕ} →
      ((e : Bool) (z : Spot) (B : List ℕ) → Move τ K t d s A e z B → Fin τ K t e z B) → Fin τ K t d s A

-- each walk that begins with nothing pushed ends
abbrev pub Short : Translation → ℕ → Labelled → Type 0
Short τ K t = (d : Bool) (s : Spot) → Fin τ K t d s []

pub forget : {τ : Translation} {t : Labelled} {k : Act} {n : ℕ} {d e : Bool} {s z : Spot} → Hop τ t k n d s e z →
    Jump τ (erased t) d s e z
forget (to_body h) = jumps.to_body
forget (to_var r e q h) = jumps.to_var r e q
forget (to_fun h) = jumps.to_fun
forget (to_arg e h) = jumps.to_arg e
forget (from_body h) = jumps.from_body
forget (from_var r e q h) = jumps.from_var r e q
forget (from_fun h) = jumps.from_fun
forget (from_arg e h) = jumps.from_arg e
forget (in_body h) = jumps.in_body (forget h)
forget (in_fun h) = jumps.in_fun (forget h)
forget (in_arg h) = jumps.in_arg (forget h)

-- what leaves a term by its root has nothing pushed
abbrev pub OutOk : Bool → Spot → List ℕ → Type 0
OutOk false (at p v c) A = A ≡ []
OutOk false (body s) A = Unit {0}
OutOk false (fun s) A = Unit {0}
OutOk false (arg v s) A = Unit {0}
OutOk true s A = Unit {0}

pub record Neutral (τ : Translation) (K : ℕ) (t : Labelled) : Type 1 where
  pub Good : Bool → Spot → List ℕ → Type 0
  pub begin : (d : Bool) (s : Spot) → Good d s []
  pub closed : {d e : Bool} {s z : Spot} {A B : List ℕ} → Good d s A → Move τ K t d s A e z B → Good e z B
  pub out : {v : Level} {c : Context} {A : List ℕ} → Good false (at root v c) A → A ≡ []
  pub enter : (v : Level) (c : Context) (A : List ℕ) → Good true (at root v c) A
  pub short : {d : Bool} {s : Spot} {A : List ℕ} → Good d s A → Fin τ K t d s A

pub nothing_app : {K n : ℕ} {A B : List ℕ} → Effect K app_pop n A B → A ≡ [] → ⊥
nothing_app (app_popped {a = a} {C = C} e l f) g = let h : [] ≡ a ∷ C = cc in absurd (cc)

pub nothing_lam : {K n : ℕ} {A B : List ℕ} → Effect K lam_pop n A B → A ≡ [] → ⊥
nothing_lam (lam_popped {a = a} {C = C} e l f) g = let h : [] ≡ a ∷ C = cc in absurd (cc)

module _ {τ : Translation} {K : ℕ} where
  pub no_move : {t : Labelled} {d : Bool} {s : Spot} {A : List ℕ} → ((e : Bool) (z : Spot) → Jump τ (erased t) d s e z → ⊥) →
      {e : Bool} {z : Spot} {B : List ℕ} → Move τ K t d s A e z B → ⊥
  no_move h (move {k = k} {n = n} j f) = h _ _ (forget j)

  pub stuck : {t : Labelled} {d : Bool} {s : Spot} {A : List ℕ} → ((e : Bool) (z : Spot) → Jump τ (erased t) d s e z → ⊥) →
      Fin τ K t d s A
  stuck h = fin (λ e z B m. absurd (no_move h m))

  pub next : {t : Labelled} {d e : Bool} {s z : Spot} {A B : List ℕ} → Fin τ K t d s A → Move τ K t d s A e z B → Fin τ K t e z B
  next (fin f) m = f _ _ _ m

  -- ---- a variable or a name

  no_more : (t : Labelled) → ((d e : Bool) (s z : Spot) → Jump τ (erased t) d s e z → ⊥) → Neutral τ K t
  no_more t h = record {
    Good = OutOk;
    begin = begin;
    closed = λ {d} {e} {s} {z} g m. absurd (no_move (λ e z j. h d e s z j) m);
    out = λ g. g;
    enter = λ v c A. tt;
    short = λ {d} {s} g. stuck (λ e z j. h d e s z j);
  }
    where
      begin : (d : Bool) (s : Spot) → OutOk d s []
      begin true s = tt
      begin false (at p v c) = refl
      begin false (body s) = tt
      begin false (fun s) = tt
      begin false (arg v s) = tt

  pub of_var : (y : ℕ) (w : Label) → Neutral τ K (var y w)
  of_var y w = no_more (var y w) (λ d e s z j. at_node j)

  pub of_free : (f : ℕ) (w : Label) → Neutral τ K (free f w)
  of_free f w = no_more (free f w) (λ d e s z j. at_node j)

  -- ---- an abstraction

  module _ {b : Labelled} {w : Label} where
    lam_out : {v : Level} {c : Context} {A : List ℕ} → Fin τ K (lam b w) false (at root v c) A
    lam_out = stuck (λ e z j. goes_on j)

    body_hop : {k : Act} {n : ℕ} {d e : Bool} {s z : Spot} {A B : List ℕ} →
        ((e : Bool) (z : Spot) → Move τ K b d s A e z B → Fin τ K (lam b w) e (body z) B) →
        Hop τ (lam b w) k n d (body s) e z → Effect K k n A B → Fin τ K (lam b w) e z B
    body_hop f (in_body j) m = f _ _ (move j m)
    body_hop f (from_body h) m = lam_out
    body_hop f (from_var r e q h) m = lam_out

    body_move : {d e : Bool} {s z : Spot} {A B : List ℕ} →
        ((e : Bool) (z : Spot) → Move τ K b d s A e z B → Fin τ K (lam b w) e (body z) B) →
        Move τ K (lam b w) d (body s) A e z B → Fin τ K (lam b w) e z B
    body_move f (move j m) = body_hop f j m

    in_the_body : {d : Bool} {s : Spot} {A : List ℕ} → Fin τ K b d s A → Fin τ K (lam b w) d (body s) A
    in_the_body (fin f) = fin (λ e z B m. body_move (λ e z j. in_the_body (f e z B j)) m)

    lam_hop : {k : Act} {n : ℕ} {d e : Bool} {v : Level} {c : Context} {z : Spot} {A B : List ℕ} →
        Hop τ (lam b w) k n d (at root v c) e z → Effect K k n A B → A ≡ [] → ⊥
    lam_hop (to_body h) m e = nothing_lam m e
    lam_hop (to_var r e q h) m g = nothing_lam m g

    lam_move : {d e : Bool} {v : Level} {c : Context} {z : Spot} {A B : List ℕ} →
        Move τ K (lam b w) d (at root v c) A e z B → A ≡ [] → ⊥
    lam_move (move j m) e = lam_hop j m e

    pub of_lam : Short τ K b → Short τ K (lam b w)
    of_lam h d (at root v c) = fin (λ e z B m. absurd (lam_move m refl))
    of_lam h d (at (wire y) v c) = stuck (λ e z j. at_root j)
    of_lam h d (body s) = in_the_body (h d s)
    of_lam h d (fun s) = stuck (λ e z j. at_root j)
    of_lam h d (arg v s) = stuck (λ e z j. at_root j)

  -- ---- an application of a neutral term

  module _ (f a : Labelled) (w : Label) (N : Neutral τ K f) (short : Short τ K a) where
    abbrev AppGood : Bool → Spot → List ℕ → Type 0
    AppGood d (at p v c) A = OutOk d (at p v c) A
    AppGood d (body s) A = Unit {0}
    AppGood d (fun s) A = N.Good d s A
    AppGood d (arg v s) A = Fin τ K a d s A

    app_begin : (d : Bool) (s : Spot) → AppGood d s []
    app_begin true (at p v c) = tt
    app_begin false (at p v c) = refl
    app_begin d (body s) = tt
    app_begin d (fun s) = N.begin d s
    app_begin d (arg v s) = short d s

    hop_closed : {k : Act} {n : ℕ} {d e : Bool} {s z : Spot} {A B : List ℕ} → AppGood d s A → Hop τ (app f a w) k n d s e z →
        Effect K k n A B → AppGood e z B
    hop_closed g (to_fun h) m = N.enter _ _ _
    hop_closed g (to_arg e h) m = absurd (nothing_app m (N.out g))
    hop_closed g (from_fun h) m = absurd (nothing_app m (N.out g))
    hop_closed g (from_arg e h) m = N.enter _ _ _
    hop_closed g (in_fun j) m = N.closed g (move j m)
    hop_closed g (in_arg j) m = next g (move j m)

    app_closed : {d e : Bool} {s z : Spot} {A B : List ℕ} → AppGood d s A → Move τ K (app f a w) d s A e z B → AppGood e z B
    app_closed g (move j m) = hop_closed g j m

    fun_hop : {k : Act} {n : ℕ} {d e : Bool} {s z : Spot} {A B : List ℕ} → N.Good d s A →
        ((e : Bool) (z : Spot) → Move τ K f d s A e z B → Fin τ K (app f a w) e (fun z) B) →
        Hop τ (app f a w) k n d (fun s) e z → Effect K k n A B → Fin τ K (app f a w) e z B
    fun_hop g h (in_fun j) m = h _ _ (move j m)
    fun_hop g h (from_fun e) m = absurd (nothing_app m (N.out g))
    fun_hop g h (to_arg e q) m = absurd (nothing_app m (N.out g))

    fun_move : {d e : Bool} {s z : Spot} {A B : List ℕ} → N.Good d s A →
        ((e : Bool) (z : Spot) → Move τ K f d s A e z B → Fin τ K (app f a w) e (fun z) B) →
        Move τ K (app f a w) d (fun s) A e z B → Fin τ K (app f a w) e z B
    fun_move g h (move j m) = fun_hop g h j m

    in_the_fun : {d : Bool} {s : Spot} {A : List ℕ} → N.Good d s A → Fin τ K f d s A → Fin τ K (app f a w) d (fun s) A
    in_the_fun g (fin h) = fin (λ e z B m. fun_move g (λ e z j. in_the_fun (N.closed g j) (h e z B j)) m)

    at_fun : (v : Level) (c : Context) (A : List ℕ) → Fin τ K (app f a w) true (fun (at root v c)) A
    at_fun v c A = in_the_fun (N.enter v c A) (N.short (N.enter v c A))

    arg_hop : {k : Act} {n : ℕ} {d e : Bool} {v : Level} {s z : Spot} {A B : List ℕ} →
        ((e : Bool) (z : Spot) → Move τ K a d s A e z B → Fin τ K (app f a w) e (arg v z) B) →
        Hop τ (app f a w) k n d (arg v s) e z → Effect K k n A B → Fin τ K (app f a w) e z B
    arg_hop h (in_arg j) m = h _ _ (move j m)
    arg_hop h (from_arg e q) m = at_fun _ _ _

    arg_move : {d e : Bool} {v : Level} {s z : Spot} {A B : List ℕ} →
        ((e : Bool) (z : Spot) → Move τ K a d s A e z B → Fin τ K (app f a w) e (arg v z) B) →
        Move τ K (app f a w) d (arg v s) A e z B → Fin τ K (app f a w) e z B
    arg_move h (move j m) = arg_hop h j m

    in_the_arg : {d : Bool} {v : Level} {s : Spot} {A : List ℕ} → Fin τ K a d s A → Fin τ K (app f a w) d (arg v s) A
    in_the_arg (fin h) = fin (λ e z B m. arg_move (λ e z j. in_the_arg (h e z B j)) m)

    root_hop : {k : Act} {n : ℕ} {d e : Bool} {v : Level} {c : Context} {z : Spot} {A B : List ℕ} →
        Hop τ (app f a w) k n d (at root v c) e z → Effect K k n A B → Fin τ K (app f a w) e z B
    root_hop (to_fun h) m = at_fun _ _ _

    root_move : {d e : Bool} {v : Level} {c : Context} {z : Spot} {A B : List ℕ} →
        Move τ K (app f a w) d (at root v c) A e z B → Fin τ K (app f a w) e z B
    root_move (move j m) = root_hop j m

    app_short : (d : Bool) (s : Spot) (A : List ℕ) → AppGood d s A → Fin τ K (app f a w) d s A
    app_short d (at root v c) A g = fin (λ e z B m. root_move m)
    app_short d (at (wire y) v c) A g = stuck (λ e z j. at_root j)
    app_short d (body s) A g = stuck (λ e z j. at_root j)
    app_short d (fun s) A g = in_the_fun g (N.short g)
    app_short d (arg v s) A g = in_the_arg g

    pub of_app : Neutral τ K (app f a w)
    of_app = record {
      Good = AppGood;
      begin = app_begin;
      closed = app_closed;
      out = λ g. g;
      enter = λ v c A. tt;
      short = λ {d} {s} {A} g. app_short d s A g;
    }

  -- ---- a redex of too great a degree

  module _ (b c : Labelled) (v w : Label) (great : K ≤ size v) (short_b : Short τ K b) (short_c : Short τ K c) where
    -- nothing is pushed, or what is too old already
    abbrev WallOk : List ℕ → Type 0
    WallOk [] = Unit {0}
    WallOk (a ∷ A) = K < a

    abbrev InLam : Bool → Spot → List ℕ → Type 0
    InLam false (at p u d) A = WallOk A
    InLam true (at p u d) A = Unit {0}
    InLam d (body s) A = Fin τ K b d s A
    InLam d (fun s) A = Unit {0}
    InLam d (arg u s) A = Unit {0}

    abbrev WallGood : Bool → Spot → List ℕ → Type 0
    WallGood d (at p u x) A = OutOk d (at p u x) A
    WallGood d (body s) A = Unit {0}
    WallGood d (fun s) A = InLam d s A
    WallGood d (arg u s) A = Fin τ K c d s A

    wall_begin : (d : Bool) (s : Spot) → WallGood d s []
    wall_begin true (at p u x) = tt
    wall_begin false (at p u x) = refl
    wall_begin d (body s) = tt
    wall_begin true (fun (at p u x)) = tt
    wall_begin false (fun (at p u x)) = tt
    wall_begin d (fun (body s)) = short_b d s
    wall_begin d (fun (fun s)) = tt
    wall_begin d (fun (arg u s)) = tt
    wall_begin d (arg u s) = short_c d s

    not_old : {n : ℕ} {A B : List ℕ} → Effect K app_pop n A B → WallOk A → ⊥
    not_old (app_popped {a = a} {C = C} e l f) g = let h : K < a = subst WallOk e g in absurd (omega (arith, h, l))

    no_lam_pop : {n : ℕ} {A B : List ℕ} → Effect K lam_pop n A B → K ≤ n → ⊥
    no_lam_pop (lam_popped e l f) g = omega (arith, l, g)

    lam_pushes : {n : ℕ} {A B : List ℕ} → Effect K lam_push n A B → K ≤ n → WallOk B
    lam_pushes (lam_pushed {n = n} e) g = subst WallOk (sym e) (omega (arith, g))

    wall_hop : {k : Act} {n : ℕ} {d e : Bool} {s z : Spot} {A B : List ℕ} → WallGood d s A → Hop τ (app (lam b v) c w) k n d s e z →
        Effect K k n A B → WallGood e z B
    wall_hop g (to_fun h) m = tt
    wall_hop g (to_arg e h) m = absurd (not_old m g)
    wall_hop g (from_fun h) m = absurd (not_old m g)
    wall_hop g (from_arg e h) m = tt
    wall_hop g (in_fun (to_body h)) m = absurd (no_lam_pop m (omega (arith, great, h)))
    wall_hop g (in_fun (to_var r e q h)) m = absurd (no_lam_pop m (omega (arith, great, h)))
    wall_hop g (in_fun (from_body h)) m = lam_pushes m (omega (arith, great, h))
    wall_hop g (in_fun (from_var r e q h)) m = lam_pushes m (omega (arith, great, h))
    wall_hop g (in_fun (in_body j)) m = next g (move j m)
    wall_hop g (in_arg j) m = next g (move j m)

    wall_closed : {d e : Bool} {s z : Spot} {A B : List ℕ} → WallGood d s A → Move τ K (app (lam b v) c w) d s A e z B → WallGood e z B
    wall_closed g (move j m) = wall_hop g j m

    -- at the abstraction's root walks end
    into_hop : {k : Act} {n : ℕ} {e : Bool} {u : Level} {x : Context} {z : Spot} {A B : List ℕ} →
        Hop τ (app (lam b v) c w) k n true (fun (at root u x)) e z → Effect K k n A B → ⊥
    into_hop (in_fun (to_body h)) m = no_lam_pop m (omega (arith, great, h))
    into_hop (in_fun (to_var r e q h)) m = no_lam_pop m (omega (arith, great, h))

    into_move : {e : Bool} {u : Level} {x : Context} {z : Spot} {A B : List ℕ} →
        Move τ K (app (lam b v) c w) true (fun (at root u x)) A e z B → ⊥
    into_move (move j m) = into_hop j m

    wall_in : {u : Level} {x : Context} {A : List ℕ} → Fin τ K (app (lam b v) c w) true (fun (at root u x)) A
    wall_in = fin (λ e z B m. absurd (into_move m))

    from_hop : {k : Act} {n : ℕ} {e : Bool} {u : Level} {x : Context} {z : Spot} {A B : List ℕ} → WallOk A →
        Hop τ (app (lam b v) c w) k n false (fun (at root u x)) e z → Effect K k n A B → ⊥
    from_hop g (from_fun h) m = not_old m g
    from_hop g (to_arg e h) m = not_old m g
    from_hop g (in_fun j) m = absurd (goes_on (forget j))

    from_move : {e : Bool} {u : Level} {x : Context} {z : Spot} {A B : List ℕ} → WallOk A →
        Move τ K (app (lam b v) c w) false (fun (at root u x)) A e z B → ⊥
    from_move g (move j m) = from_hop g j m

    wall_out : {u : Level} {x : Context} (A : List ℕ) → WallOk A → Fin τ K (app (lam b v) c w) false (fun (at root u x)) A
    wall_out A g = fin (λ e z B m. absurd (from_move g m))

    b_hop : {k : Act} {n : ℕ} {d e : Bool} {s z : Spot} {A B : List ℕ} →
        ((e : Bool) (z : Spot) → Move τ K b d s A e z B → Fin τ K (app (lam b v) c w) e (fun (body z)) B) →
        Hop τ (app (lam b v) c w) k n d (fun (body s)) e z → Effect K k n A B → Fin τ K (app (lam b v) c w) e z B
    b_hop f (in_fun (in_body j)) m = f _ _ (move j m)
    b_hop f (in_fun (from_body h)) m = wall_out _ (lam_pushes m (omega (arith, great, h)))
    b_hop f (in_fun (from_var r e q h)) m = wall_out _ (lam_pushes m (omega (arith, great, h)))

    b_move : {d e : Bool} {s z : Spot} {A B : List ℕ} →
        ((e : Bool) (z : Spot) → Move τ K b d s A e z B → Fin τ K (app (lam b v) c w) e (fun (body z)) B) →
        Move τ K (app (lam b v) c w) d (fun (body s)) A e z B → Fin τ K (app (lam b v) c w) e z B
    b_move f (move j m) = b_hop f j m

    in_b : {d : Bool} {s : Spot} {A : List ℕ} → Fin τ K b d s A → Fin τ K (app (lam b v) c w) d (fun (body s)) A
    in_b (fin f) = fin (λ e z B m. b_move (λ e z j. in_b (f e z B j)) m)

    c_hop : {k : Act} {n : ℕ} {d e : Bool} {u : Level} {s z : Spot} {A B : List ℕ} →
        ((e : Bool) (z : Spot) → Move τ K c d s A e z B → Fin τ K (app (lam b v) c w) e (arg u z) B) →
        Hop τ (app (lam b v) c w) k n d (arg u s) e z → Effect K k n A B → Fin τ K (app (lam b v) c w) e z B
    c_hop f (in_arg j) m = f _ _ (move j m)
    c_hop f (from_arg e h) m = wall_in

    c_move : {d e : Bool} {u : Level} {s z : Spot} {A B : List ℕ} →
        ((e : Bool) (z : Spot) → Move τ K c d s A e z B → Fin τ K (app (lam b v) c w) e (arg u z) B) →
        Move τ K (app (lam b v) c w) d (arg u s) A e z B → Fin τ K (app (lam b v) c w) e z B
    c_move f (move j m) = c_hop f j m

    in_c : {d : Bool} {u : Level} {s : Spot} {A : List ℕ} → Fin τ K c d s A → Fin τ K (app (lam b v) c w) d (arg u s) A
    in_c (fin f) = fin (λ e z B m. c_move (λ e z j. in_c (f e z B j)) m)

    top_hop : {k : Act} {n : ℕ} {d e : Bool} {u : Level} {x : Context} {z : Spot} {A B : List ℕ} →
        Hop τ (app (lam b v) c w) k n d (at root u x) e z → Effect K k n A B → Fin τ K (app (lam b v) c w) e z B
    top_hop (to_fun h) m = wall_in

    top_move : {d e : Bool} {u : Level} {x : Context} {z : Spot} {A B : List ℕ} →
        Move τ K (app (lam b v) c w) d (at root u x) A e z B → Fin τ K (app (lam b v) c w) e z B
    top_move (move j m) = top_hop j m

    wall_short : (d : Bool) (s : Spot) (A : List ℕ) → WallGood d s A → Fin τ K (app (lam b v) c w) d s A
    wall_short d (at root u x) A g = fin (λ e z B m. top_move m)
    wall_short d (at (wire y) u x) A g = stuck (λ e z j. at_root j)
    wall_short d (body s) A g = stuck (λ e z j. at_root j)
    wall_short true (fun (at root u x)) A g = wall_in
    wall_short false (fun (at root u x)) A g = wall_out A g
    wall_short d (fun (at (wire y) u x)) A g = stuck (λ e z j. at_root j)
    wall_short d (fun (body s)) A g = in_b g
    wall_short d (fun (fun s)) A g = stuck (λ e z j. at_root j)
    wall_short d (fun (arg u s)) A g = stuck (λ e z j. at_root j)
    wall_short d (arg u s) A g = in_c g

    pub of_wall : Neutral τ K (app (lam b v) c w)
    of_wall = record {
      Good = WallGood;
      begin = wall_begin;
      closed = wall_closed;
      out = λ g. g;
      enter = λ v c A. tt;
      short = λ {d} {s} {A} g. wall_short d s A g;
    }
