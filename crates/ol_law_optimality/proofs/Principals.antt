-- At which principal ports of a term's net spots stand: at those of nodes of sharing and of abstractions.
use Rattle.std.proofs.Common.{◌≡◌, ℕ, suc, ◌+◌, [], ◌∷◌, length, true, Option, None, Some, ◌⊎◌, inl}
use Rattle.std.proofs.Common.{inr, refl, sym, ap, ◌∙◌, arith, subst}
use Rattle.std.proofs.lemmas.Bool.{and_parts}
use Rattle.ol_term.specs.declared.translations.Translation.{Translation}
use Rattle.ol_term.specs.Trees.{Tree, var, free, lam, app, is_below}
use Rattle.ol_net.specs.declared.parts.Kind.{Kind}
use Rattle.ol_net.specs.declared.parts.Kind.TheVariants as kind
use Rattle.ol_net.specs.declared.parts.Port.{Port}
use Rattle.ol_net.specs.Nets.{NamedPort, NamedNet, HasNode}
use Rattle.ol_net.specs.Nets as nets
use Rattle.ol_net.specs.Numbered.{numbered_port}
use Rattle.ol_context.specs.Contexts.{Level, empty, o, star, pair, Context, cons}
use Rattle.ol_translate.specs.Translation.{subnet_of, applied, bare_variable, wire_of, slot_port}
use Rattle.ol_translate.proofs.Joints.{few_wires}
use Rattle.ol_law_meaning.specs.Sites.{Site, self, in_lam, in_function, in_argument, PartAt, whole, of_lam, of_function}
use Rattle.ol_law_meaning.specs.Sites.{of_argument, abstraction_at, depth, context_at}
use Rattle.ol_law_meaning.specs.Spots.{root, wire, Spot, at, body, fun, arg}
use Rattle.ol_law_meaning.proofs.Fans.{Merges, outside_wire, by_wire, wire_here, wire_later}
use Rattle.ol_law_meaning.proofs.Parts.{Has, argument, has_lam, Wires, has_app, has_app_to, has_head}
use Rattle.ol_law_meaning.proofs.Parts.{key, applied_root, wire_there}
use Rattle.ol_law_meaning.proofs.States.{S, H, L, arg_state, bare_state, state}
use Rattle.ol_law_meaning.proofs.Turns.{IsControl, no_principal, of_control, Stands, stands_port}

module _ (τ : Translation) (N : NamedNet ℕ) where
  -- ---- wires

  only : (v u : ℕ) (q p : Port) → wire_of v ((u, q) ∷ []) ≡ Some p → q ≡ p
  only v u q p e = by_wire (q ≡ p) v (u, q)
      (λ t. let r : ◌≡◌ {A = Option Port} (Some q) (Some p) = sym (wire_here v (u, q) [] t) ∙ e in cc)
      (λ t. let r : ◌≡◌ {A = Option Port} None (Some p) = sym (wire_later v (u, q) [] t) ∙ e in absurd (cc))

  slot_control : (x i : ℕ) (K : Kind) (p : Port) → slot_port x 0 ≡ p → HasNode N x K i →
      (K ≡ kind.Lam → ⊥) → (K ≡ kind.App → ⊥) → IsControl N (numbered_port p)
  slot_control x i K p e h f g = subst (λ p. IsControl N (numbered_port p)) e (of_control N x i K h f g)

  wires_control : (n : ℕ) (p q : Option Port) (r : Port) → Wires (H N) (L N) n p q (Some r) →
      ((a : Port) → p ≡ Some a → IsControl N (numbered_port a)) → IsControl N (numbered_port r)
  wires_control n None None r w f = let e : ◌≡◌ {A = Option Port} (Some r) None = w in absurd (cc)
  wires_control n (Some a) None r w f = let e : ◌≡◌ {A = Option Port} (Some r) (Some a) = w in
      let g : a ≡ r = cc in subst (λ p. IsControl N (numbered_port p)) g (f a refl)
  wires_control n None (Some q) r w f = slot_control w.0 n kind.Bracket r (let e = w.1 in cc) w.2
      (λ q. absurd (cc)) (λ q. absurd (cc))
  wires_control n (Some a) (Some q) r w f = slot_control w.1 n kind.Fan r (let e = w.2 in cc) w.5
      (λ q. absurd (cc)) (λ q. absurd (cc))

  merges_control : (n : ℕ) (p q : Option Port) (r : Port) → Merges (H N) (L N) n p q (Some r) →
      ((a : Port) → p ≡ Some a → IsControl N (numbered_port a)) →
      ((a : Port) → q ≡ Some a → IsControl N (numbered_port a)) → IsControl N (numbered_port r)
  merges_control n None None r w f g = let e : ◌≡◌ {A = Option Port} (Some r) None = w in absurd (cc)
  merges_control n (Some a) None r w f g = let e : ◌≡◌ {A = Option Port} (Some r) (Some a) = w in
      let h : a ≡ r = cc in subst (λ p. IsControl N (numbered_port p)) h (f a refl)
  merges_control n None (Some a) r w f g = let e : ◌≡◌ {A = Option Port} (Some r) (Some a) = w in
      let h : a ≡ r = cc in subst (λ p. IsControl N (numbered_port p)) h (g a refl)
  merges_control n (Some a) (Some q) r w f g = slot_control w.0 n kind.Fan r (let e = w.1 in cc) w.2
      (λ q. absurd (cc)) (λ q. absurd (cc))

  wire_control : (t : Tree) (d n k v : ℕ) (p : Port) → Has (H N) (L N) k (subnet_of τ t d n k) →
      wire_of v (subnet_of τ t d n k).wires ≡ Some p → IsControl N (numbered_port p)
  wire_control (var y) d n k v p h e = slot_control k n kind.Croissant p
      (only v y (slot_port k 0) p e) h.nodes.0 (λ q. absurd (cc)) (λ q. absurd (cc))
  wire_control (free f) d n k v p h e = slot_control k n kind.Croissant p
      (only v (d + f) (slot_port k 0) p e) h.nodes.0 (λ q. absurd (cc)) (λ q. absurd (cc))
  wire_control (lam M) d n k v p h e =
      let P = subnet_of τ M (d + 1) n (k + 1) in
      wire_control M (d + 1) n (k + 1) (suc v) p (has_lam (H N) (L N) n k P h).part (sym (outside_wire v P.wires) ∙ e)
  wire_control (app M Q) d n k v p h e = by (bare_variable τ d Q) refl
      (λ a e. wire_control M d n (k + 1) v a
      (has_head (H N) (L N) n k (bare_variable τ d Q) (subnet_of τ M d n (k + 1))
      (argument τ M Q d n k) h).function e)
    where
      by : (x : Option ℕ) → bare_variable τ d Q ≡ x →
          ((a : Port) → wire_of v (subnet_of τ M d n (k + 1)).wires ≡ Some a →
          IsControl N (numbered_port a)) → IsControl N (numbered_port p)
      by None none f =
          let P = subnet_of τ M d n (k + 1) in
          let R = argument τ M Q d n k in
          let A = has_app (H N) (L N) n k P R (subst (λ o. Has (H N) (L N) k (applied n k o P R)) none h) in
          let e' : wire_of v (applied n k None P R).wires ≡ Some p = subst
          (λ o. wire_of v (applied n k o P R).wires ≡ Some p) none e in
          wires_control n (wire_of v P.wires) (wire_of v R.wires) p
          (subst (λ r. Wires (H N) (L N) n (wire_of v P.wires) (wire_of v R.wires) r) e'
          (A.wires v (few_wires τ v Q d (n + 1) (k + 1 + length P.nodes)))) f
      by (Some x) bare f =
          let P = subnet_of τ M d n (k + 1) in
          let R = argument τ M Q d n k in
          let A = has_app_to (H N) (L N) n k x P (subst (λ o. Has (H N) (L N) k (applied n k o P R)) bare h) in
          let e' : wire_of v (applied n k (Some x) P R).wires ≡ Some p = subst
          (λ o. wire_of v (applied n k o P R).wires ≡ Some p) bare e in
          merges_control n (wire_of v P.wires) (wire_of v ((x, slot_port k 2) ∷ [])) p
          (subst (λ r. Merges (H N) (L N) n (wire_of v P.wires)
          (wire_of v ((x, slot_port k 2) ∷ [])) r) e' (A.wires v)) f
          (λ a g. subst (λ p. IsControl N (numbered_port p)) (only v x (slot_port k 2) a g) (no_principal N k 1))

  -- ---- the root of an abstraction

  -- the spot is at the root of abstraction node x
  pub record AtAbstraction (t : Tree) (d n k : ℕ) (F : Context → Context) (z : Spot) (u : S) (x : ℕ) : Type 0 where
    pub site : Site
    pub inner : Tree
    pub is : PartAt t site (lam inner)
    pub level : Level
    pub later : Context
    pub is_spot : z ≡ abstraction_at site level later
    pub there : HasNode N x kind.Lam (n + depth site)
    pub same : u.1 ≡ F (context_at site (cons level later))

  abbrev pub Principal : (t : Tree) (d n k : ℕ) → (Context → Context) → Spot → S → ℕ → Type 0
  Principal t d n k F z u x = ((K : Kind) × (i : ℕ) × HasNode N x K i × (K ≡ kind.Lam → ⊥)
      × (K ≡ kind.App → ⊥)) ⊎ AtAbstraction t d n k F z u x

  no_slot : {x y s : ℕ} → ◌≡◌ {A = NamedPort ℕ} (nets.slot x (suc s)) (nets.slot y 0) → ⊥
  no_slot {s = s} e = let n : suc s ≡ 0 = cc in omega arith

  root_principal : (t : Tree) (d n k : ℕ) (F : Context → Context) →
      Has (H N) (L N) k (subnet_of τ t d n k) → (v : Level) (c : Context) (x : ℕ) →
      numbered_port (subnet_of τ t d n k).root ≡ nets.slot x 0 →
      AtAbstraction t d n k F (at root v c) (numbered_port (subnet_of τ t d n k).root, F (cons v c)) x
  root_principal (var y) d n k F h v c x e = absurd (no_slot e)
  root_principal (free f) d n k F h v c x e = absurd (no_slot e)
  root_principal (lam M) d n k F h v c x e =
      let q : k ≡ x = cc in
      let A = has_lam (H N) (L N) n k (subnet_of τ M (d + 1) n (k + 1)) h in
      record {
        site = self;
        inner = M;
        is = whole;
        level = v;
        later = c;
        is_spot = refl;
        there = subst (λ x. HasNode N x kind.Lam (n + 0)) q
            (subst (λ i. HasNode N k kind.Lam i) (let g : n ≡ n + 0 = omega arith in g) A.node);
        same = refl;
      }
  root_principal (app M Q) d n k F h v c x e =
      let r = applied_root n k (bare_variable τ d Q) (subnet_of τ M d n (k + 1)) (argument τ M Q d n k) in
      absurd (no_slot (subst (λ p. numbered_port p ≡ nets.slot x 0) r e))

  in_the_body : (M : Tree) (d n k : ℕ) (F : Context → Context) (z : Spot) (u : S) (x : ℕ) →
      Principal M (d + 1) n (k + 1) F z u x → Principal (lam M) d n k F (body z) u x
  in_the_body M d n k F z u x (inl r) = inl r
  in_the_body M d n k F z u x (inr r) = inr
      (record {
        site = in_lam r.site;
        inner = r.inner;
        is = of_lam r.is;
        level = r.level;
        later = r.later;
        is_spot = ap body r.is_spot;
        there = r.there;
        same = r.same;
      })

  in_the_function : (M Q : Tree) (d n k : ℕ) (F : Context → Context) (z : Spot) (u : S) (x : ℕ) →
      Principal M d n (k + 1) F z u x → Principal (app M Q) d n k F (fun z) u x
  in_the_function M Q d n k F z u x (inl r) = inl r
  in_the_function M Q d n k F z u x (inr r) = inr
      (record {
        site = in_function r.site;
        inner = r.inner;
        is = of_function r.is;
        level = r.level;
        later = r.later;
        is_spot = ap fun r.is_spot;
        there = r.there;
        same = r.same;
      })

  in_the_argument : (M Q : Tree) (d n k j : ℕ) (F : Context → Context) (v : Level) (z : Spot)
      (u : S) (x : ℕ) → Principal Q d (n + 1) j (λ c. F (cons v c)) z u x → Principal (app M Q) d n k F (arg v z) u x
  in_the_argument M Q d n k j F v z u x (inl r) = inl r
  in_the_argument M Q d n k j F v z u x (inr r) = inr (record {
    site = in_argument v r.site;
    inner = r.inner;
    is = of_argument r.is;
    level = r.level;
    later = r.later;
    is_spot = ap (arg v) r.is_spot;
    there = subst (λ i. HasNode N x kind.Lam i)
        (let g : n + 1 + depth r.site ≡ n + suc (depth r.site) = omega arith in g) r.there;
    same = r.same;
  })

  -- a bare argument stands at slot 2
  bare_slot : (z : Spot) (k : ℕ) (F : Context → Context) (u : S) → bare_state z k F ≡ Some u → u.0 ≡ nets.slot k 2
  bare_slot (at root v c) k F u e = let q : ◌≡◌ {A = S} (nets.slot k 2, F (cons v c)) u = cc in
      sym (ap (λ (u : S). u.0) q)
  bare_slot (at (wire y) empty c) k F u e = let q : ◌≡◌ {A = S} (nets.slot k 2, F c) u = cc in
      sym (ap (λ (u : S). u.0) q)
  bare_slot (at (wire y) (o a) c) k F u e = absurd (cc)
  bare_slot (at (wire y) (star a) c) k F u e = absurd (cc)
  bare_slot (at (wire y) (pair a b) c) k F u e = absurd (cc)
  bare_slot (body s) k F u e = absurd (cc)
  bare_slot (fun s) k F u e = absurd (cc)
  bare_slot (arg v s) k F u e = absurd (cc)

  by_argument : (x : Option ℕ) (z : Spot) (k : ℕ) (F : Context → Context) (own : Option S) (u : S)
      (y : ℕ) → arg_state x z k F own ≡ Some u → u.0 ≡ nets.slot y 0 → (x ≡ None) × (own ≡ Some u)
  by_argument None z k F own u y e f = (refl, e)
  by_argument (Some x) z k F own u y e f = absurd (no_slot (sym (bare_slot z k F u e) ∙ f))

  pub principal : (t : Tree) (d n k : ℕ) (F : Context → Context) → is_below d t ≡ true →
      Has (H N) (L N) k (subnet_of τ t d n k) → (z : Spot) (u : S) → Stands τ t d n k F z u →
      (x : ℕ) → u.0 ≡ nets.slot x 0 → Principal t d n k F z u x
  principal t d n k F i h (at root v c) u s x e =
      let q = stands_port (Some (subnet_of τ t d n k).root) (subnet_of τ t d n k).root (F (cons v c)) u s.is refl in
      subst (λ u. Principal t d n k F (at root v c) u x) q
      (inr (root_principal t d n k F h v c x (ap (λ (u : S). u.0) q ∙ e)))
  principal t d n k F i h (at (wire y) v c) u s x e =
      let W = wire_there τ t y d n k i s.fits in
      let q = stands_port (wire_of (key d y) (subnet_of τ t d n k).wires) W.0 (F (cons v c)) u s.is W.1 in
      inl (wire_control t d n k (key d y) W.0 h W.1 x (ap (λ (u : S). u.0) q ∙ e))
  principal (lam M) d n k F i h (body z) u s x e =
      in_the_body M d n k F z u x (principal M (d + 1) n (k + 1) F i
      (has_lam (H N) (L N) n k (subnet_of τ M (d + 1) n (k + 1)) h).part z u
      (record { is = s.is; fits = s.fits }) x e)
  principal (app M Q) d n k F i h (fun z) u s x e =
      in_the_function M Q d n k F z u x
      (principal M d n (k + 1) F (and_parts (is_below d M) (is_below d Q) i).0
      (has_head (H N) (L N) n k (bare_variable τ d Q) (subnet_of τ M d n (k + 1))
      (argument τ M Q d n k) h).function z u (record { is = s.is; fits = s.fits }) x e)
  principal (app M Q) d n k F i h (arg v z) u s x e =
      let j = k + 1 + length (subnet_of τ M d n (k + 1)).nodes in
      let own = state τ z Q d (n + 1) j (λ c. F (cons v c)) in
      let r = by_argument (bare_variable τ d Q) z k (λ c. F (cons v c)) own u x s.is e in
      let A = has_app (H N) (L N) n k (subnet_of τ M d n (k + 1)) (argument τ M Q d n k)
      (subst (λ o. Has (H N) (L N) k (applied n k o (subnet_of τ M d n (k + 1)) (argument τ M Q d n k))) r.0 h) in
      in_the_argument M Q d n k j F v z u x
      (principal Q d (n + 1) j (λ c. F (cons v c))
      (and_parts (is_below d M) (is_below d Q) i).1 A.argument z u (record { is = r.1; fits = s.fits }) x e)
  principal (var w) d n k F i h (body z) u s x e = absurd s.fits
  principal (free f) d n k F i h (body z) u s x e = absurd s.fits
  principal (app M Q) d n k F i h (body z) u s x e = absurd s.fits
  principal (var w) d n k F i h (fun z) u s x e = absurd s.fits
  principal (free f) d n k F i h (fun z) u s x e = absurd s.fits
  principal (lam M) d n k F i h (fun z) u s x e = absurd s.fits
  principal (var w) d n k F i h (arg v z) u s x e = absurd s.fits
  principal (free f) d n k F i h (arg v z) u s x e = absurd s.fits
  principal (lam M) d n k F i h (arg v z) u s x e = absurd s.fits
