-- A tree that is read back is whole.
use Rattle.std.proofs.Common.{◌≡◌, ℕ, zero, suc, ◌+◌, ◌<◌, inl, inr, List, [], ◌∷◌, ◌++◌, length}
use Rattle.std.proofs.Common.{map, replicate, Bool, true, false, Option, Some, None, refl, sym, ap}
use Rattle.std.proofs.Common.{◌∙◌, subst, arith, append_assoc, length-append}
use Rattle.std.proofs.lemmas.List.{append-nil, get_or_append_left, get_or_push, length_push}
use Rattle.ol_net.specs.Nets.{NamedNet}
use Rattle.ol_context.specs.Contexts.{Level, Context}
use Rattle.ol_readback.specs.Frames.{Frame, frame_at, root}
use Rattle.ol_readback.specs.Matching.{Matches, here, above, name}
use Rattle.ol_readback.specs.Heads.{head, matched, IsHeadWithin, leaves, IsHead}
use Rattle.ol_readback.specs.ReadTrees.{Subterm, framed, port_of, arguments, ReadsBack, end, past}
use Rattle.ol_readback.specs.ReadTrees.{spent, lost, found, IsTree}
use Rattle.ol_readback.specs.Heads as heads
use Rattle.ol_readback.specs.Sources.{HaveHeadsOf, HasHeadsOf}
use Rattle.ol_readback.specs.Sources as sources
use Rattle.ol_readback.specs.Whole.{Part, term, cut, none, more, count, preorder, IsInScope, IsBound, IsWholeTree}
use Rattle.ol_readback.specs.Whole as whole
use Rattle.ol_readback.specs.declared.answers.HeadVar.{HeadVar}
use Rattle.ol_readback.specs.declared.answers.HeadVar.TheVariants as var
use Rattle.ol_readback.specs.declared.answers.ReadNode.{ReadNode}
use Rattle.ol_readback.specs.declared.answers.ReadNode.TheVariants as node

-- a frame that stands in the list stays
pub frame_stays : (F : List Frame) (f : Frame) (i : ℕ) → i < length F → frame_at (F ++ f ∷ []) i ≡ frame_at F i
frame_stays F f i b = get_or_append_left F (f ∷ []) root i b

pub frame_last : (F : List Frame) (f : Frame) → frame_at (F ++ f ∷ []) (length F) ≡ f
frame_last F f = get_or_push F f root (length F) refl

-- the places round a frame with this parent, each with its number of abstractions
pub data ScopeOf (F : List Frame) : Option ℕ → List (ℕ × ℕ) → Type 0 where
  outer : ScopeOf F None []
  inner : {p : ℕ} {ss : List (ℕ × ℕ)} → p < length F → ScopeOf F (frame_at F p).parent ss →
      ScopeOf F (Some p) ((p, (frame_at F p).lams) ∷ ss)

scope_grows : (F : List Frame) (f : Frame) (o : Option ℕ) (ss : List (ℕ × ℕ)) → ScopeOf F o ss →
    ScopeOf (F ++ f ∷ []) o ss
scope_grows F f o ss outer = outer
scope_grows F f o ss (inner {p = p} {ss = ts} b h) =
    let l = length_push F f in
    let e = frame_stays F f p b in
    subst (λ (n : ℕ). ScopeOf (F ++ f ∷ []) (Some p) ((p, n) ∷ ts)) (ap (λ (f : Frame). f.lams) e)
    (inner (omega arith) (subst (λ (o : Option ℕ). ScopeOf (F ++ f ∷ []) o ts)
    (ap (λ (f : Frame). f.parent) (sym e)) (scope_grows F f (frame_at F p).parent ts h)))

-- what matches is a binder of one of these places
in_scope : {F : List Frame} {q : ℕ} {X : Context} {i l k : ℕ} {v : HeadVar} {ls : List Level} →
    Matches F q X i l v k ls → (ss : List (ℕ × ℕ)) → ScopeOf F (frame_at F i).parent ss → IsInScope ((i, l) ∷ ss) v
in_scope (here e f) ss s = inl (refl, omega arith, let b = f.below in omega arith)
in_scope {F = F} {i = i} {l = l} {v = v} (above {p = p} n e m) ss s = go
    (subst (λ (o : Option ℕ). ScopeOf F o ss) e s) (λ ts h. in_scope m ts h)
  where
    wider : (ss : List (ℕ × ℕ)) (v : HeadVar) → IsInScope ss v → IsInScope ((i, l) ∷ ss) v
    wider ss (var.Bound j k) h = inr h
    wider ss (var.Free q) h = tt

    go : {ss : List (ℕ × ℕ)} → ScopeOf F (Some p) ss →
        ((ts : List (ℕ × ℕ)) → ScopeOf F (frame_at F p).parent ts →
        IsInScope ((p, (frame_at F p).lams) ∷ ts) v) → IsInScope ((i, l) ∷ ss) v
    go (inner {ss = ts} b h) up = wider ((p, (frame_at F p).lams) ∷ ts) v (up ts h)
in_scope (name n e b o) ss s = tt

pub matches_head : {A : Type 0} {N : NamedNet A} {F : List Frame} {i e n k : ℕ} {v : HeadVar}
    {ls : List Level} → IsHeadWithin N F i e (head n v k ls) → (q : ℕ) × (X : Context) × Matches F q X i n v k ls
matches_head (leaves {q = q} {X = X} b h w (matched m)) = (q, X, m)

-- by paths alone
pub matches_found : {A : Type 0} {N : NamedNet A} {F : List Frame} {i n k : ℕ} {v : HeadVar}
    {ls : List Level} → IsHead N F i (head n v k ls) → (q : ℕ) × (X : Context) × Matches F q X i n v k ls
matches_found (heads.leaves {q = q} {X = X} h w (matched m)) = (q, X, m)

-- subterms one after another, each in its scope, from place i on
pub data Forest : ℕ → List (List (ℕ × ℕ)) → List ReadNode → Type 0 where
  bare : {i : ℕ} → Forest i [] []
  tree : {i : ℕ} {s : List (ℕ × ℕ)} {ss : List (List (ℕ × ℕ))} {ns : List ReadNode}
      (t : Part true) → IsBound s i t → Forest (i + length (preorder t)) ss ns → Forest i (s ∷ ss) (preorder t ++ ns)

-- the first k of them as one list of trees
record Halves (i k : ℕ) (s : List (ℕ × ℕ)) (ss : List (List (ℕ × ℕ))) (ns : List ReadNode) : Type 0 where
  first : Part false
  many : count first ≡ k
  bound : IsBound s i first
  rest : List ReadNode
  forest : Forest (i + length (preorder first)) ss rest
  listed : preorder first ++ rest ≡ ns

halves : (k : ℕ) {i : ℕ} {s : List (ℕ × ℕ)} {ss : List (List (ℕ × ℕ))} {ns : List ReadNode} →
    Forest i (replicate k s ++ ss) ns → Halves i k s ss ns
halves zero {i = i} {ss = ss} {ns = ns} f = record {
  first = none;
  many = refl;
  bound = tt;
  rest = ns;
  forest = subst (λ (i : ℕ). Forest i ss ns) (omega arith) f;
  listed = refl;
}
halves (suc k) {i = i} {s = s} {ss = ss} (tree {ns = ns} t b f) =
    let h = halves k f in
    let l = length-append (preorder t) (preorder h.first) in
    record {
      first = more t h.first;
      many = ap suc h.many;
      bound = (b, h.bound);
      rest = h.rest;
      forest = subst (λ (i : ℕ). Forest i ss h.rest) (omega arith) h.forest;
      listed = append_assoc (preorder t) (preorder h.first) h.rest ∙ ap (λ r. preorder t ++ r) h.listed;
    }

abbrev AllScoped : List Frame → List Subterm → List (List (ℕ × ℕ)) → Type 0
AllScoped F [] [] = Unit {0}
AllScoped F (s ∷ ss) (c ∷ cs) = ScopeOf F s.parent c × AllScoped F ss cs
AllScoped F [] (c ∷ cs) = ⊥
AllScoped F (s ∷ ss) [] = ⊥

scopes_grow : (F : List Frame) (f : Frame) (ss : List Subterm) (cs : List (List (ℕ × ℕ))) →
    AllScoped F ss cs → AllScoped (F ++ f ∷ []) ss cs
scopes_grow F f [] [] h = tt
scopes_grow F f (s ∷ ss) (c ∷ cs) h = (scope_grows F f s.parent c h.0, scopes_grow F f ss cs h.1)
scopes_grow F f [] (c ∷ cs) h = absurd h
scopes_grow F f (s ∷ ss) [] h = absurd h

arguments_scoped : (F : List Frame) (i q : ℕ) (ls : List Level) (j k : ℕ) (ss : List Subterm)
    (c : List (ℕ × ℕ)) (cs : List (List (ℕ × ℕ))) → ScopeOf F (Some i) c → AllScoped F ss cs →
    AllScoped F (arguments i q ls j k ++ ss) (replicate k c ++ cs)
arguments_scoped F i q ls j zero ss c cs h g = g
arguments_scoped F i q ls j (suc k) ss c cs h g = (h, arguments_scoped F i q ls (suc j) k ss c cs h g)

one : {i : ℕ} {c : List (ℕ × ℕ)} {cs : List (List (ℕ × ℕ))} {ns : List ReadNode} (F : List Frame)
    (f : Frame) (t : Part true) (n : ReadNode) → i ≡ length F → IsBound c i t →
    preorder t ≡ n ∷ [] → Forest (length (F ++ f ∷ [])) cs ns → Forest i (c ∷ cs) (n ∷ ns)
one {i = i} {c = c} {cs = cs} {ns = ns} F f t n e b p g =
    let l = length_push F f in
    let m = ap length p in
    let q : length (F ++ f ∷ []) ≡ i + length (preorder t) = omega arith in
    subst (λ (ms : List ReadNode). Forest i (c ∷ cs) (ms ++ ns)) p (tree t b (subst (λ (j : ℕ). Forest j cs ns) q g))

cuts : (i : ℕ) (ss : List Subterm) (F : List Frame) (cs : List (List (ℕ × ℕ))) → AllScoped F ss cs →
    Forest i cs (map (λ s. node.Cut) ss)
cuts i [] F [] h = bare
cuts i (s ∷ ss) F (c ∷ cs) h = tree cut tt (cuts (i + 1) ss F cs h.1)
cuts i [] F (c ∷ cs) h = absurd h
cuts i (s ∷ ss) F [] h = absurd h

-- a head, and after it the trees of its arguments
head_found : {ns : List ReadNode} {q : ℕ} {X : Context} (ss : List Subterm) (F : List Frame)
    (s : Subterm) (n k : ℕ) (v : HeadVar) (ls : List Level) (c : List (ℕ × ℕ))
    (cs : List (List (ℕ × ℕ))) → AllScoped F (s ∷ ss) (c ∷ cs) →
    Matches (F ++ framed s 0 ∷ []) q X (length F) n v k ls →
    ((ds : List (List (ℕ × ℕ))) → AllScoped (F ++ framed s n ∷ [])
    (arguments (length F) (port_of (F ++ framed s n ∷ []) v) ls 0 k ++ ss) ds →
    Forest (length (F ++ framed s n ∷ [])) ds ns) →
    Forest (length F) (c ∷ cs) (node.Head n v k ∷ ns)
head_found {ns = ns} ss F s n k v ls c cs h m later = go
    (halves k (later (replicate k ((length F, n) ∷ c) ++ cs) scoped))
  where
    scoped : AllScoped (F ++ framed s n ∷ [])
        (arguments (length F) (port_of (F ++ framed s n ∷ []) v) ls 0 k ++ ss) (replicate k ((length F, n) ∷ c) ++ cs)
    scoped =
        let l = length_push F (framed s n) in
        let z = frame_last F (framed s n) in
        let up = scope_grows F (framed s n) s.parent c h.0 in
        arguments_scoped (F ++ framed s n ∷ []) (length F)
        (port_of (F ++ framed s n ∷ []) v) ls 0 k ss ((length F, n) ∷ c) cs
        (subst (λ (m : ℕ). ScopeOf (F ++ framed s n ∷ []) (Some (length F)) ((length F, m) ∷ c))
        (ap (λ (f : Frame). f.lams) z)
        (inner (omega arith) (subst (λ (o : Option ℕ). ScopeOf (F ++ framed s n ∷ []) o c)
        (ap (λ (f : Frame). f.parent) (sym z)) up)))
        (scopes_grow F (framed s n) ss cs h.1)

    bound : IsInScope ((length F, n) ∷ c) v
    bound =
        let z = frame_last F (framed s 0) in
        in_scope m c (subst (λ (o : Option ℕ). ScopeOf (F ++ framed s 0 ∷ []) o c)
        (ap (λ (f : Frame). f.parent) (sym z)) (scope_grows F (framed s 0) s.parent c h.0))

    go : Halves (length (F ++ framed s n ∷ [])) k ((length F, n) ∷ c) cs ns →
        Forest (length F) (c ∷ cs) (node.Head n v k ∷ ns)
    go t =
        let l = length_push F (framed s n) in
        let p : length (F ++ framed s n ∷ []) ≡ suc (length F) = omega arith in
        let b = subst (λ (i : ℕ). IsBound ((length F, n) ∷ c) i t.first) p t.bound in
        let q : length (F ++ framed s n ∷ []) + length (preorder t.first) ≡ length F + suc
        (length (preorder t.first)) = omega arith in
        let g = subst (λ (i : ℕ). Forest i cs t.rest) q t.forest in
        subst (λ (ms : List ReadNode). Forest (length F) (c ∷ cs) (node.Head n v k ∷ ms)) t.listed
        (subst (λ (k : ℕ). Forest (length F) (c ∷ cs)
        (node.Head n v k ∷ (preorder t.first ++ t.rest))) t.many (tree (term n v t.first) (bound, b) g))

module _ {A : Type 0} {N : NamedNet A} {heads e : ℕ} where
  forest_of : {F : List Frame} {ss : List Subterm} {ns : List ReadNode} →
      ReadsBack N heads e F ss ns → (cs : List (List (ℕ × ℕ))) → AllScoped F ss cs → Forest (length F) cs ns
  forest_of end [] h = bare
  forest_of end (c ∷ cs) h = absurd h
  forest_of (past {frames = F} {ss = ss} b) cs h = cuts (length F) ss F cs h
  forest_of (spent {frames = F} {s = s} {ss = ss} b x r) [] h = absurd h
  forest_of (spent {frames = F} {s = s} {ss = ss} b x r) (c ∷ cs) h = one F
      (framed s 0) cut node.Cut refl tt refl (forest_of r cs (scopes_grow F (framed s 0) ss cs h.1))
  forest_of (lost {frames = F} {s = s} {ss = ss} b x r) [] h = absurd h
  forest_of (lost {frames = F} {s = s} {ss = ss} b x r) (c ∷ cs) h = one F
      (framed s 0) whole.lost node.NoHead refl tt refl (forest_of r cs (scopes_grow F (framed s 0) ss cs h.1))
  forest_of (found b x r) [] h = absurd h
  forest_of (found {frames = F} {s = s} {ss = ss} {n = n} {k = k} {v = v} {ls = ls} b x r)
      (c ∷ cs) h = head_found ss F s n k v ls c cs h (let m = matches_head x in m.2) (λ ds g. forest_of r ds g)

module _ {A : Type 0} {N : NamedNet A} {lost_too : Bool} where
  forest_of_heads : {F : List Frame} {ss : List Subterm} {ns : List ReadNode} →
      HaveHeadsOf N lost_too F ss ns → (cs : List (List (ℕ × ℕ))) → AllScoped F ss cs → Forest (length F) cs ns
  forest_of_heads sources.end [] h = bare
  forest_of_heads sources.end (c ∷ cs) h = absurd h
  forest_of_heads (sources.cut {frames = F} {s = s} {ss = ss} r) [] h = absurd h
  forest_of_heads (sources.cut {frames = F} {s = s} {ss = ss} r) (c ∷ cs) h = one F
      (framed s 0) cut node.Cut refl tt refl (forest_of_heads r cs (scopes_grow F (framed s 0) ss cs h.1))
  forest_of_heads (sources.lost {frames = F} {s = s} {ss = ss} x r) [] h = absurd h
  forest_of_heads (sources.lost {frames = F} {s = s} {ss = ss} x r) (c ∷ cs) h = one F
      (framed s 0) whole.lost node.NoHead refl tt refl (forest_of_heads r cs (scopes_grow F (framed s 0) ss cs h.1))
  forest_of_heads (sources.found x r) [] h = absurd h
  forest_of_heads (sources.found {frames = F} {s = s} {ss = ss} {n = n} {k = k} {v = v} {ls = ls} x
      r) (c ∷ cs) h = head_found ss F s n k v ls c cs h (let m = matches_found x in m.2)
      (λ ds g. forest_of_heads r ds g)

only : {ns : List ReadNode} → Forest 0 ([] ∷ []) ns → IsWholeTree ns
only (tree t b bare) = record { tree = t; is_list = sym (append-nil (preorder t)); bound = b }

pub tree_is_whole : {A : Type 0} (N : NamedNet A) (heads e : ℕ) (ns : List ReadNode) →
    IsTree N heads e ns → IsWholeTree ns
tree_is_whole N heads e ns r = only (forest_of r ([] ∷ []) (outer, tt))

-- so is a list whose heads are those of some net
pub heads_are_whole : {A : Type 0} (N : NamedNet A) (lost_too : Bool) (ns : List ReadNode) →
    HasHeadsOf N lost_too ns → IsWholeTree ns
heads_are_whole N lost_too ns r = only (forest_of_heads r ([] ∷ []) (outer, tt))
