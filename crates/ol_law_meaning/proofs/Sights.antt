-- An argument of a head normal form is seen in the net where the term that reduces to it is seen.
use Rattle.std.proofs.Common.{◌≡◌, ℕ, suc, ◌-◌, ◌<◌, ◌≤◌, inl, inr, List, [], ◌∷◌, ◌++◌, refl, sym}
use Rattle.std.proofs.Common.{ap, ◌∙◌, subst, arith}
use Rattle.ol_net.specs.Nets.{NamedNet, free}
use Rattle.ol_context.specs.Paths.{Path}
use Rattle.ol_context.specs.Contexts.{levels}
use Rattle.ol_context.proofs.LevelLists.{levels_cons}
use Rattle.ol_readback.specs.Frames.{Frame}
use Rattle.ol_law_meaning.specs.Spots.{applications}
use Rattle.ol_law_meaning.specs.Contraction.{Tree, Level, empty, star, Context, cons, Wire, bound, Place, root, wire}
use Rattle.ol_law_meaning.specs.Contraction.{at, Leads}
use Rattle.ol_law_meaning.specs.Heads.{os, outer, Normal, Steps, SameAlong, Arg}
use Rattle.ol_law_meaning.specs.Seen.{ahead, unders, Chain, LeavesAs, Seats, IsSeen, ArgSeats}
use Rattle.ol_law_meaning.proofs.Walking.{binder_of}
use Rattle.ol_law_meaning.proofs.Seats.{hat_one, up_to, down_to, root_stands}
use Rattle.ol_law_meaning.proofs.Shapes.{Outs, own, past, wire_stands}
use Rattle.ol_law_meaning.proofs.Along.{keeps_along, reflects_along, along_one}
use Rattle.ol_term.specs.declared.translations.Translation.{Translation}

-- ---- levels before a context

pub ahead_append : (ls ms : List Level) (c : Context) → ahead (ls ++ ms) c ≡ ahead ls (ahead ms c)
ahead_append [] ms c = refl
ahead_append (v ∷ ls) ms c = ap (cons v) (ahead_append ls ms c)

pub ahead_levels : (ls ms : List Level) → ahead ls (levels ms) ≡ levels (ls ++ ms)
ahead_levels [] ms = refl
ahead_levels (v ∷ ls) ms = ap (cons v) (ahead_levels ls ms) ∙ sym (levels_cons v (ls ++ ms))

module _ {τ : Translation} where
  -- ---- what is seen

  -- the root stands at one place for each value
  pub root_only : {A : Type 0} {N : NamedNet A} {ch : Chain} {p : ℕ} {ls : List Level} {P : Tree}
      {S : Seats} → IsSeen τ N ch p ls P S →
      (v : Level) (c : Context) (q : ℕ) (X : Context) → S root v c q X → (q ≡ p) × (X ≡ ahead ls (cons v c))
  root_only {p = p} {ls = ls} seen v c q X h = (seen.one root root v v c c q p X
      (ahead ls (cons v c)) h (seen.at_root v c)).0 refl

  -- and no wire stands where the root does
  pub wire_apart : {A : Type 0} {N : NamedNet A} {ch : Chain} {p : ℕ} {ls : List Level} {P : Tree}
      {S : Seats} → IsSeen τ N ch p ls P S →
      (z : Wire) (v w : Level) (c d : Context) (q : ℕ) (X : Context) → S (wire z) v c q X → p ≡ q →
      X ≡ ahead ls (cons w d) → ⊥
  wire_apart {p = p} {ls = ls} seen z v w c d q X h e f =
      let k : at (wire z) v c ≡ at root w d = (seen.one (wire z) root v w c d q p X
      (ahead ls (cons w d)) h (seen.at_root w d)).1 (sym e) f in
      absurd (cc)

module _ {τ : Translation} {A : Type 0} {N : NamedNet A} {ch : Chain} {p : ℕ} {ls : List Level}
    {P : Tree} {S : Seats} (seen : IsSeen τ N ch p ls P S) {u : Tree} {m : ℕ} (s : Steps P u m) where
  -- where a wire of the inside of the head normal form stands: its first levels
  pub record InnerWire (n : ℕ) (f : Frame) (x : Wire) (y : Place) (w : Level) (q : ℕ) : Type 0 where
    pub first : List Level
    pub leaves : LeavesAs ((n, f) ∷ ch) x q first
    pub stands : (d : Context) → S y w d q (ahead first d)

  pub inner_wire : (n : ℕ) (f : Frame) → f.port ≡ p → f.levels ≡ ls → f.lams ≡ outer u →
      (x : Wire) (y : Place) (b w : Level) (d : Context) (q : ℕ) (X : Context) →
      Outs (outer u) x y b → SameAlong τ s y w b → S y w d q X → (i : InnerWire n f x y w q) × (X ≡ ahead i.first d)
  inner_wire n f ep el en x y b w d q X (own {j = j} e h g i) a k =
      let r = binder_of τ s j e w b a g in
      let o = root_only seen w d q X k in
      let first : List Level = f.levels ++ os j (star r.0) ∷ [] in
      let is : (c : Context) → ahead ls (cons w c) ≡ ahead first c = λ c. (
      ap (λ v. ahead ls (cons v c)) r.1 ∙ ap (λ ls. ahead ls (cons (os j (star r.0)) c)) (sym el)
      ∙ sym (ahead_append f.levels (os j (star r.0) ∷ []) c)
      ) in (
        record {
          first = first;
          leaves = inl (
            j,
            r.0,
            subst (λ n. j < n) (sym en) h,
            i
                ∙ ap (λ n. bound (n - suc j)) (sym en),
            o.0 ∙ sym ep,
            refl,
          );
          stands = λ c. subst (λ q. S root w c q (ahead first c)) (sym o.0)
              (subst (λ X. S root w c p X) (is c) (seen.at_root w c));
        },
        o.1 ∙ is d,
      )
  inner_wire n f ep el en x y b w d q X (past {z = z} e) a k =
      let r = seen.at_wire z w d q X k in (
        record {
          first = r.0;
          leaves = inr (
            λ j v c c' g h. wire_apart seen z w (os j (star v)) c c' q (ahead r.0 c) (r.2 c)
                (sym ep ∙ g) (h ∙ ap (λ ls. ahead ls (cons (os j (star v)) c')) el),
            z,
            e ∙ ap (λ n. unders n z) (sym en),
            r.1,
          );
          stands = r.2;
        },
        r.3,
      )

  module _ {i : ℕ} {Q : Tree} (k : Arg u i Q) where
    arg_one : (x y : Place) (v w : Level) (c d : Context) (q r : ℕ) (X Y : Context) →
        ArgSeats τ s k S x v c q X → ArgSeats τ s k S y w d r Y →
        (at x v c ≡ at y w d → (q ≡ r) × (X ≡ Y)) × (q ≡ r → X ≡ Y → at x v c ≡ at y w d)
    arg_one x y v w c d q r X Y g h =
        let a = hat_one τ k empty x g.0 y h.0 v g.1 w h.1 c g.2 d h.2 g.3 h.3 in
        let b = along_one τ s g.0 h.0 g.4 g.1 h.4 h.1 g.2 h.2 g.5 h.5 in
        let e = seen.one g.0 h.0 g.4 h.4 g.2 h.2 q r X Y g.6 h.6 in (
          λ f. e.0 (b.1 (a.0 f)),
          λ f f'. a.1 (b.0 (e.1 f f')),
        )

    arg_forth : (x y : Place) (v w : Level) (c d : Context) (n q : ℕ) (X : Context) →
        ArgSeats τ s k S x v c q X → Leads τ Q (at x v c) (at y w d) n →
        (r : ℕ) × (Y : Context) × ArgSeats τ s k S y w d r Y × Path N (free q) X r Y
    arg_forth x y v w c d n q X g l =
        let a = up_to k empty x g.0 v g.1 c g.2 g.3 y w d n l in
        let b = reflects_along s g.0 a.0 g.4 g.1 a.1 g.2 a.2 a.4 g.5 a.6 in
        let e = seen.forth g.0 a.0 g.4 b.0 g.2 a.2 b.2 q X g.6 b.3 in
        (e.0, e.1, (a.0, a.1, a.2, a.3, b.0, b.1, e.2), e.3)

    arg_back : (x : Place) (v : Level) (c : Context) (q r : ℕ) (X Y : Context) →
        ArgSeats τ s k S x v c q X → (t : Path N (free q) X r Y) →
        (y : Place) × (w : Level) × (d : Context) × (n : ℕ) × ArgSeats τ s k S y w d r Y
        × Leads τ Q (at x v c) (at y w d) n × (n ≤ applications t)
    arg_back x v c q r X Y g t =
        let a = seen.back g.0 g.4 g.2 q r X Y g.6 t in
        let b = keeps_along s g.0 a.0 g.4 g.1 a.1 g.2 a.2 a.3 g.5 a.5 in
        let e = down_to k empty x g.0 v g.1 c g.2 g.3 a.0 b.0 a.2 b.2 b.4 in
        let few : e.4 ≤ applications t =
        (
        let i : a.3 ≤ applications t = a.6 in
        let j : b.2 ≤ a.3 = b.3 in
        let l : e.4 ≤ b.2 = e.5 in
        omega arith
        ) in
        (e.0, e.1, e.2, e.4, (a.0, b.0, a.2, e.3, a.1, b.1, a.4), e.6, few)

    arg_wire : (n : ℕ) (f : Frame) → f.port ≡ p → f.levels ≡ ls → f.lams ≡ outer u →
        (z : Wire) (v : Level) (c : Context) (q : ℕ) (X : Context) → ArgSeats τ s k S (wire z) v c q X →
        (ms : List Level) × LeavesAs ((n, f) ∷ ch) z q ms
        × ((d : Context) → ArgSeats τ s k S (wire z) v d q (ahead ms d)) × (X ≡ ahead ms c)
    arg_wire n f ep el en z v c q X g =
        let h = wire_stands τ k empty z v c g.0 g.1 g.2 g.3 in
        let r = inner_wire n f ep el en z g.0 g.1 g.4 g.2 q X h.outs g.5 g.6 in (
          r.0.first,
          r.0.leaves,
          (λ d. (g.0, g.1, d, h.even d, g.4, g.5, r.0.stands d)),
          r.1
              ∙ ap (ahead r.0.first) h.rest,
        )

    -- with the frame of the term round it, where the head of the normal form stands behind these levels
    pub arg_seen : (n : ℕ) (f : Frame) → f.port ≡ p → f.levels ≡ ls → f.lams ≡ outer u →
        (y : Place) (a w : Level) (j : ℕ) → Normal u y a j → SameAlong τ s y w a → (q : ℕ) (ms : List Level) →
        ((d : Context) → S y w d q (ahead ms d)) →
        IsSeen τ N ((n, f) ∷ ch) q (ms ++ os i (star empty) ∷ []) Q (ArgSeats τ s k S)
    arg_seen n f ep el en y a w j normal same q ms stands = record {
      at_root = λ v c. (
        y,
        a,
        cons (os i (star empty)) (cons v c),
        (root_stands τ k empty normal).1 v c,
        w,
        same,
        subst (λ X. S y w (cons (os i (star empty)) (cons v c)) q X)
            (sym (ahead_append ms (os i (star empty) ∷ []) (cons v c))) (stands (cons (os i (star empty)) (cons v c))),
      );
      at_wire = arg_wire n f ep el en;
      one = arg_one;
      forth = arg_forth;
      back = arg_back;
    }
