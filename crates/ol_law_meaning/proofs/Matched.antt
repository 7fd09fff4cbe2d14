-- What an exit says against the frames: the variable that stands at the head.
use Rattle.std.proofs.Common.{◌≡◌, ℕ, suc, ◌+◌, ◌-◌, ◌<◌, ◌≤◌, ◌==◌, Bool, true, false, if◌then◌else◌, inl, inr, List}
use Rattle.std.proofs.Common.{[], ◌∷◌, ◌++◌, length, Option, Some, None, refl, sym, ap, ◌∙◌, subst, arith, append_assoc}
use Rattle.std.proofs.lemmas.Bool.{eqb-true, eq-eqb}
use Rattle.std.proofs.lemmas.List.{length_push}
use Rattle.ol_net.specs.Nets.{NamedNet}
use Rattle.ol_context.specs.Contexts.{levels}
use Rattle.ol_context.proofs.LevelLists.{levels_cons}
use Rattle.ol_readback.specs.Frames.{Frame, frame_at}
use Rattle.ol_readback.specs.Matching.{Fits, NoFit, IsOpen, Matches, here, above}
use Rattle.ol_readback.specs.Matching as matching
use Rattle.ol_readback.specs.ReadTrees.{port_of}
use Rattle.ol_readback.proofs.Forests.{frame_stays, frame_last}
use Rattle.ol_readback.specs.Terms.{index_of, variable_of}
use Rattle.ol_readback.specs.declared.answers.HeadVar.{HeadVar}
use Rattle.ol_readback.specs.declared.answers.HeadVar.TheVariants as head
use Rattle.ol_law_meaning.specs.Contraction.{Tree, var, free, Level, empty, star, Context, cons, Wire, bound, name}
use Rattle.ol_law_meaning.specs.Contraction.{Place, root}
use Rattle.ol_law_meaning.specs.Heads.{os, outer, Steps, SameAlong}
use Rattle.ol_law_meaning.specs.Seen.{ahead, unders, Chain, IsChain, scope, IsNotOf, LeavesAs, Seats, IsSeen}
use Rattle.ol_law_meaning.proofs.Walking.{binder_of}
use Rattle.ol_law_meaning.proofs.Shapes.{unders_bound, unders_name, Outs, own, past, occurrence}
use Rattle.ol_law_meaning.proofs.Sights.{ahead_append, ahead_levels, root_only, wire_apart}
use Rattle.ol_term.specs.declared.translations.Translation.{Translation}

-- the levels of an exit past j applications
abbrev pub ended : ℕ → Context
ended k = levels (os k empty ∷ [])

-- ---- frames

pub chain_grows : (F : List Frame) (f : Frame) (b : ℕ) (o : Option ℕ) (ch : Chain) →
    IsChain F b o ch → IsChain (F ++ f ∷ []) b o ch
chain_grows F f b o [] h = h
chain_grows F f b o (x ∷ xs) h =
    let l = length_push F f in
    let a = h.2 in
    (h.0, h.1, (omega arith), frame_stays F f x.0 h.2 ∙ h.3, chain_grows F f x.0 x.1.parent xs h.4)

-- ---- numbers of variables

-- a binder of a place before b
abbrev IsBefore : ℕ → HeadVar → Type 0
IsBefore b (head.Bound i j) = i < b
IsBefore b (head.Free q) = Unit {0}

before_more : (b c : ℕ) (v : HeadVar) → b ≤ c → IsBefore b v → IsBefore c v
before_more b c (head.Bound i j) h g = omega arith
before_more b c (head.Free q) h g = tt

not_eqb : (i j : ℕ) → i < j → (j == i) ≡ false
not_eqb i j h = by (j == i) refl
  where
    by : (b : Bool) → (j == i) ≡ b → (j == i) ≡ false
    by true e = let k : j ≡ i = eqb-true j i e in absurd (omega arith)
    by false e = e

index_past : (p l i j : ℕ) (ss : List (ℕ × ℕ)) → i < p → index_of ((p, l) ∷ ss) i j ≡ l + index_of ss i j
index_past p l i j ss h = ap (λ b. if b then l - j else l + index_of ss i j) (not_eqb i p h)

index_own : (p l j : ℕ) (ss : List (ℕ × ℕ)) → index_of ((p, l) ∷ ss) p j ≡ l - j
index_own p l j ss = ap (λ b. if b then l - j else l + index_of ss p j) (eq-eqb p p refl)

-- what a variable is called under l more abstractions
past_var : (p l : ℕ) (ss : List (ℕ × ℕ)) (v : HeadVar) (z : Wire) → IsBefore p v →
    variable_of ss v ≡ occurrence z → variable_of ((p, l) ∷ ss) v ≡ occurrence (unders l z)
past_var p l ss (head.Bound i j) (bound y) h e =
    let k : index_of ss i j ≡ y = cc in
    ap var (index_past p l i j ss h ∙ ap (λ y. l + y) k) ∙ ap occurrence (sym (unders_bound l y))
past_var p l ss (head.Bound i j) (name f) h e = absurd (let k : var (index_of ss i j) ≡ free f = e in cc)
past_var p l ss (head.Free q) (bound y) h e = absurd (let k : free (q - 1) ≡ var y = e in cc)
past_var p l ss (head.Free q) (name f) h e = e ∙ ap occurrence (sym (unders_name l f))

-- ---- matching

-- the exit's levels, after those of a frame
as_levels : (ms ls : List Level) (j k : ℕ) (d : Level) → ms ≡ ls ++ os j (star d) ∷ [] →
    ahead ms (ended k) ≡ levels (ls ++ (os j (star d) ∷ (os k empty ∷ [])))
as_levels ms ls j k d e =
    ahead_levels ms (os k empty ∷ []) ∙ ap (λ ms. levels (ms ++ os k empty ∷ [])) e
    ∙ ap levels (append_assoc ls (os j (star d) ∷ []) (os k empty ∷ []))

-- the same, by the frame's levels and level 0
by_frame : (ls : List Level) (j k : ℕ) (d : Level) →
    levels (ls ++ (os j (star d) ∷ (os k empty ∷ []))) ≡ ahead ls (cons (os j (star d)) (ended k))
by_frame ls j k d = sym (ahead_levels ls (os j (star d) ∷ (os k empty ∷ [])))
    ∙ ap (ahead ls) (levels_cons (os j (star d)) (os k empty ∷ []))

-- no binder of a frame fits
no_fit : (f : Frame) (l q k : ℕ) (ms : List Level) → IsNotOf f q ms → NoFit f l q (ahead ms (ended k))
no_fit f l q k ms n j k' d e fits = n j d (ended k) (ended k') e (fits.is ∙ by_frame f.levels j k' d)

-- what an exit by port q behind these levels, past k applications, says against frame i with l abstractions
pub record Says (F : List Frame) (q : ℕ) (ms : List Level) (k i l : ℕ) (ss : List (ℕ × ℕ)) (h : Tree) : Type 0 where
  pub variable : HeadVar
  pub match : Matches F q (ahead ms (ended k)) i l variable k ms
  pub is : variable_of ss variable ≡ h
  pub port : port_of F variable ≡ q

record SaysUp (F : List Frame) (q : ℕ) (ms : List Level) (k i l b : ℕ) (ss : List (ℕ × ℕ)) (h : Tree) : Type 0 where
  says : Says F q ms k i l ss h
  earlier : IsBefore b says.variable

says_name : (F : List Frame) (q k i l b f : ℕ) (v : Level) (ms : List Level) →
    NoFit (frame_at F i) l q (ahead ms (ended k)) → (frame_at F i).parent ≡ None → q ≡ suc f → ms ≡ v ∷ [] →
    SaysUp F q ms k i l b [] (free f)
says_name F q k i l b f v ms n o e g =
    let match : Matches F q (ahead ms (ended k)) i l (head.Free q) k (v ∷ []) =
    matching.name n o (omega arith) (ahead_levels ms (os k empty ∷ []) ∙ ap (λ ms. levels (ms ++ os k empty ∷ [])) g) in
    record {
      says = record {
        variable = head.Free q;
        match = subst (λ ms'. Matches F q (ahead ms (ended k)) i l (head.Free q) k ms')
            (sym g) match;
        is = ap free (let r : q - 1 ≡ f = omega arith in r);
        port = refl;
      };
      earlier = tt;
    }

-- m is l, by an equation; so t is the variable
says_own : (F : List Frame) (q k i l m j : ℕ) (d : Level) (ms : List Level) (ss : List (ℕ × ℕ))
    (t : Tree) → (frame_at F i).port ≡ q → l ≡ m → j < m → ms ≡ (frame_at F i).levels ++ os j (star d) ∷ [] →
    t ≡ var (m - suc j) → SaysUp F q ms k i l (suc i) ((i, m) ∷ ss) t
says_own F q k i l m j d ms ss t e b h g r =
    let match : Matches F q (ahead ms (ended k)) i l (head.Bound i (suc j)) k
    ((frame_at F i).levels ++ os j (star d) ∷ []) = here e
    (record { below = omega arith; is = as_levels ms (frame_at F i).levels j k d g }) in
    record {
      says = record {
        variable = head.Bound i (suc j);
        match = subst (λ ms'. Matches F q (ahead ms (ended k)) i l (head.Bound i (suc j)) k ms')
            (sym g) match;
        is = ap var (index_own i m (suc j) ss) ∙ sym r;
        port = e;
      };
      earlier = omega arith;
    }

says_above : (F : List Frame) (q k i l p n b : ℕ) (ms : List Level) (ss : List (ℕ × ℕ)) (h : Tree) →
    NoFit (frame_at F i) l q (ahead ms (ended k)) → (frame_at F i).parent ≡ Some p → (frame_at F p).lams ≡ n → p < b →
    SaysUp F q ms k p n (suc p) ss h → SaysUp F q ms k i l b ss h
says_above F q k i l p n b ms ss h f o e g r = record {
  says = record {
    variable = r.says.variable;
    match = above f o (subst (λ n. Matches F q (ahead ms (ended k)) p n r.says.variable k ms) (sym e) r.says.match);
    is = r.says.is;
    port = r.says.port;
  };
  earlier = before_more (suc p) b r.says.variable (omega arith) r.earlier;
}

says_past : (F : List Frame) (q k p l : ℕ) (ms : List Level) (ss : List (ℕ × ℕ)) (y z : Wire) →
    z ≡ unders l y → SaysUp F q ms k p l p ss (occurrence y) → SaysUp F q ms k p l (suc p) ((p, l) ∷ ss) (occurrence z)
says_past F q k p l ms ss y z e r = record {
  says = record {
    variable = r.says.variable;
    match = r.says.match;
    is = past_var p l ss r.says.variable y r.earlier r.says.is ∙ ap occurrence (sym e);
    port = r.says.port;
  };
  earlier = before_more p (suc p) r.says.variable (omega arith) r.earlier;
}

-- a frame of the chain, as the list has it
fits_not : (f g : Frame) (l q k : ℕ) (ms : List Level) → f ≡ g → IsNotOf g q ms → NoFit f l q (ahead ms (ended k))
fits_not f g l q k ms e h = no_fit f l q k ms (subst (λ f. IsNotOf f q ms) (sym e) h)

says_up : (F : List Frame) (q k i l b : ℕ) (o : Option ℕ) (ms : List Level) (ch : Chain)
    (z : Wire) → NoFit (frame_at F i) l q (ahead ms (ended k)) → (frame_at F i).parent ≡ o → IsChain F b o ch →
    LeavesAs ch z q ms → SaysUp F q ms k i l b (scope ch) (occurrence z)
says_up F q k i l b o ms [] (bound y) n e c h = absurd h
says_up F q k i l b o ms [] (name f) n e c h = says_name F q k i l b f h.1 ms n (e ∙ c) h.0 h.2
says_up F q k i l b o ms (x ∷ xs) z n e c (inl h) =
    says_above F q k i l x.0 x.1.lams b ms (scope (x ∷ xs)) (occurrence z) n (e ∙ c.0)
    (ap (λ (f : Frame). f.lams) c.3) c.1
    (says_own F q k x.0 x.1.lams x.1.lams h.0 h.1 ms (scope xs) (occurrence z)
    (ap (λ (f : Frame). f.port) c.3 ∙ sym h.4) refl h.2
    (h.5 ∙ ap (λ (f : Frame). f.levels ++ os h.0 (star h.1) ∷ []) (sym c.3)) (ap occurrence h.3))
says_up F q k i l b o ms (x ∷ xs) z n e c (inr h) =
    says_above F q k i l x.0 x.1.lams b ms (scope (x ∷ xs)) (occurrence z) n (e ∙ c.0)
    (ap (λ (f : Frame). f.lams) c.3) c.1
    (says_past F q k x.0 x.1.lams ms (scope xs) h.1 z h.2
    (says_up F q k x.0 x.1.lams x.0 x.1.parent ms xs h.1
    (fits_not (frame_at F x.0) x.1 x.1.lams q k ms c.3 h.0) (ap (λ (f : Frame). f.parent) c.3) c.4 h.3))

-- ---- the head of a subterm that is seen

-- It leaves behind some levels ms, whatever the later levels, and says the head of the normal form.
-- The frame of the subterm is the
-- last one of F, with whatever number of abstractions.
pub record HeadSays (F : List Frame) (q : ℕ) (X : Context) (i l k : ℕ) (ss : List (ℕ × ℕ))
    (h : Tree) (H : ℕ → Context → Context → Type 0) : Type 0 where
  pub first : List Level
  pub says : Says F q first k i l ss h
  pub exit : X ≡ ahead first (ended k)
  pub stands : (d : Context) → H q d (ahead first d)

module _ {τ : Translation} {A : Type 0} {N : NamedNet A} {ch : Chain} {p : ℕ} {ls : List Level}
    {P : Tree} {S : Seats} (seen : IsSeen τ N ch p ls P S) {u : Tree} {m : ℕ} (s : Steps P u m)
    (F : List Frame) (f : Frame) (ep : f.port ≡ p) (el : f.levels ≡ ls) (chain : IsChain F (length F) f.parent ch) where
  G : List Frame
  G = F ++ f ∷ []

  pub head_says : (x : Wire) (y : Place) (a w : Level) (k q : ℕ) (X : Context) →
      Outs (outer u) x y a → SameAlong τ s y w a → S y w (ended k) q X →
      HeadSays (F ++ f ∷ []) q X (length F) (outer u) k ((length F, outer u) ∷ scope ch)
      (occurrence x) (λ q c X. S y w c q X)
  unfolding G
  head_says x y a w k q X (own {j = j} e h g i) b r =
      let c = binder_of τ s j e w a b g in
      let o = root_only seen w (ended k) q X r in
      let last = frame_last F f in
      let first : List Level = ls ++ os j (star c.0) ∷ [] in
      let is : (d : Context) → ahead ls (cons w d) ≡ ahead first d = λ d.
      (ap (λ v. ahead ls (cons v d)) c.1 ∙ sym (ahead_append ls (os j (star c.0) ∷ []) d)) in
      record {
        first = first;
        says = (says_own G q k (length F) (outer u) (outer u) j c.0 first (scope ch) (occurrence x)
            (ap (λ (f : Frame). f.port) last ∙ ep ∙ sym o.0) refl h
            (ap (λ ls. ls ++ os j (star c.0) ∷ []) (sym (ap (λ (f : Frame). f.levels) last ∙ el)))
            (ap occurrence i)).says;
        exit = o.1 ∙ is (ended k);
        stands = λ d. subst (λ q. S root w d q (ahead first d)) (sym o.0)
            (subst (λ X. S root w d p X) (is d) (seen.at_root w d));
      }
  head_says x y a w k q X (past {z = z} e) b r =
      let t = seen.at_wire z w (ended k) q X r in
      let last = frame_last F f in
      let apart : IsNotOf (frame_at G (length F)) q t.0 = λ j v c c' g h.
      wire_apart seen z w (os j (star v)) c c' q (ahead t.0 c) (t.2 c)
      (sym (ap (λ (f : Frame). f.port) last ∙ ep) ∙ g)
      (h ∙ ap (λ ls. ahead ls (cons (os j (star v)) c')) (ap (λ (f : Frame). f.levels) last ∙ el)) in
      record {
        first = t.0;
        says = (says_past G q k (length F) (outer u) t.0 (scope ch) z x e
            (says_up G q k (length F) (outer u) (length F) f.parent t.0 ch z
            (no_fit (frame_at G (length F)) (outer u) q k t.0 apart)
            (ap (λ (f : Frame). f.parent) last) (chain_grows F f (length F) f.parent ch chain) t.1)).says;
        exit = t.3;
        stands = t.2;
      }
