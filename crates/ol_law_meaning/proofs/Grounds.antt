-- A whole term is seen in each net whose paths are the trails of the term's spots.
use Rattle.std.proofs.Common.{◌≡◌, ℕ, zero, suc, ◌+◌, true, List, [], ◌∷◌, refl, sym, ap, ◌∙◌, subst, arith, ◌≤◌}
use Rattle.std.proofs.lemmas.Bool.{eqb-true, ltb-true, and_parts}
use Rattle.ol_term.specs.Trees.{is_below}
use Rattle.ol_net.specs.Nets.{NamedNet, free}
use Rattle.ol_context.specs.Contexts.{tail}
use Rattle.ol_context.specs.Paths.{Path}
use Rattle.ol_context.proofs.Contexts.{eta, head_eq, tail_eq}
use Rattle.ol_law_meaning.specs.Spots.{place, applications}
use Rattle.ol_law_meaning.proofs.Parts.{or_parts}
use Rattle.ol_law_meaning.specs.Contraction as spots
use Rattle.ol_law_meaning.specs.Contraction.{Tree, var, lam, app, Level, Context, cons, Wire, bound, name}
use Rattle.ol_law_meaning.specs.Contraction.{under, occurs, Place, root, wire, at, Leads}
use Rattle.ol_law_meaning.specs.Seen.{ahead, LeavesAs, IsSeen, WholeSeats}
use Rattle.ol_law_meaning.proofs.Ways.{Has}
use Rattle.ol_law_meaning.proofs.Mains.{ends}
use Rattle.ol_law_meaning.proofs.Seats.{spot_is}
use Rattle.ol_term.specs.declared.translations.Translation.{Translation}

-- ---- a closed term has no wire of a variable

pub none_free : (t : Tree) (d y : ℕ) → is_below d t ≡ true → occurs (bound (y + d)) t ≡ true → ⊥
none_free (var v) d y h e =
    let a = ltb-true v d h in
    let b : v ≡ y + d = eqb-true v (y + d) e in
    absurd (omega arith)
none_free (spots.free f) d y h e = absurd (cc)
none_free (lam t) d y h e = none_free t (d + 1) y h
    (subst (λ n. occurs (bound n) t ≡ true) (let k : suc (y + d) ≡ y + (d + 1) = omega arith in k) e)
none_free (app t u) d y h e =
    let b = and_parts (is_below d t) (is_below d u) h in
    or_parts (occurs (bound (y + d)) t) (occurs (bound (y + d)) u) e ⊥ (none_free t d y b.0) (none_free u d y b.1)

-- ---- a whole term

place_one : (q r : ℕ) → place q ≡ place r → q ≡ r
place_one zero zero e = refl
place_one zero (suc r) e = absurd (let k : root ≡ wire (name r) = e in cc)
place_one (suc q) zero e = absurd (let k : wire (name q) ≡ root = e in cc)
place_one (suc q) (suc r) e = let k : wire (name q) ≡ wire (name r) = e in let l : q ≡ r = cc in ap suc l

-- the free port of a place of a closed term
port_at : (t : Tree) → is_below 0 t ≡ true → (x : Place) → Has x t → (q : ℕ) × (x ≡ place q)
port_at t h root e = (0, refl)
port_at t h (wire (bound y)) e = absurd
    (none_free t 0 y h (subst (λ n. occurs (bound n) t ≡ true) (let k : y ≡ y + 0 = omega arith in k) e))
port_at t h (wire (name f)) e = (suc f, refl)

whole_wire : (z : Wire) (v : Level) (c : Context) (q : ℕ) (X : Context) → WholeSeats (wire z) v c q X →
    (ms : List Level) × LeavesAs [] z q ms × ((d : Context) → WholeSeats (wire z) v d q (ahead ms d)) × (X ≡ ahead ms c)
whole_wire (bound y) v c zero X h = absurd (let k : wire (bound y) ≡ root = h.0 in cc)
whole_wire (bound y) v c (suc q) X h = absurd (let k : wire (bound y) ≡ wire (name q) = h.0 in cc)
whole_wire (name f) v c zero X h = absurd (let k : wire (name f) ≡ root = h.0 in cc)
whole_wire (name f) v c (suc q) X h =
    let k : wire (name f) ≡ wire (name q) = h.0 in
    let l : f ≡ q = cc in
    (v ∷ [], (ap suc (sym l), v, refl), (λ d. (h.0, refl)), h.1)

module _ {τ : Translation} {A : Type 0} (N : NamedNet A) (t : Tree) (closed : is_below 0 t ≡ true)
    (trail_path : (p q : ℕ) (c d : Context) (n : ℕ) →
    Leads τ t (at (place p) (c 0) (tail c)) (at (place q) (d 0) (tail d)) n → Path N (free p) c q d)
    (path_trail : (p q : ℕ) (c d : Context) (r : Path N (free p) c q d) →
    Leads τ t (at (place p) (c 0) (tail c)) (at (place q) (d 0) (tail d)) (applications r)) where
  whole_one : (x y : Place) (v w : Level) (c d : Context) (q r : ℕ) (X Y : Context) →
      WholeSeats x v c q X → WholeSeats y w d r Y →
      (at x v c ≡ at y w d → (q ≡ r) × (X ≡ Y)) × (q ≡ r → X ≡ Y → at x v c ≡ at y w d)
  whole_one x y v w c d q r X Y g h = (
    λ e. (
        let i : x ≡ y = cc in
        let j : v ≡ w = cc in
        let k : c ≡ d = cc in
        (place_one q r (sym g.0 ∙ i ∙ h.0), g.1 ∙ ap (λ v. cons v c) j ∙ ap (cons w) k ∙ sym h.1)
        ),
    λ e f. (
        let l : cons v c ≡ cons w d = sym g.1 ∙ f ∙ h.1 in
        spot_is x y v w c d (g.0 ∙ ap place e ∙ sym h.0) (head_eq v w c d l) (tail_eq v w c d l)
        ),
  )

  whole_forth : (x y : Place) (v w : Level) (c d : Context) (n q : ℕ) (X : Context) →
      WholeSeats x v c q X → Leads τ t (at x v c) (at y w d) n →
      (r : ℕ) × (Y : Context) × WholeSeats y w d r Y × Path N (free q) X r Y
  whole_forth x y v w c d n q X g l =
      let a = port_at t closed y (ends y l.0 l.1) in
      let m : Leads τ t (at (place q) v c) (at (place a.0) w d) n = subst
      (λ x. Leads τ t (at x v c) (at (place a.0) w d) n) g.0
      (subst (λ y. Leads τ t (at x v c) (at y w d) n) a.1 l) in (
        a.0,
        cons w d,
        (a.1, refl),
        subst (λ X. Path N (free q) X a.0 (cons w d)) (sym g.1)
            (trail_path q a.0 (cons v c) (cons w d) n m),
      )

  whole_back : (x : Place) (v : Level) (c : Context) (q r : ℕ) (X Y : Context) →
      WholeSeats x v c q X → (path : Path N (free q) X r Y) →
      (y : Place) × (w : Level) × (d : Context) × (n : ℕ) × WholeSeats y w d r Y
      × Leads τ t (at x v c) (at y w d) n × (n ≤ applications path)
  whole_back x v c q r X Y g path =
      let a = path_trail q r X Y path in
      let m : Leads τ t (at x v c) (at (place r) (Y 0) (tail Y)) (applications path) =
      subst (λ e. Leads τ t e (at (place r) (Y 0) (tail Y)) (applications path))
      (spot_is (place q) x (X 0) v (tail X) c (sym g.0) (ap (λ (X : Context). X 0) g.1) (ap tail g.1)) a in
      (place r, Y 0, tail Y, applications path, (refl, sym (eta Y)), m, (omega arith))

  pub whole_seen : IsSeen τ N [] 0 [] t WholeSeats
  whole_seen = record {
    at_root = λ v c. (refl, refl);
    at_wire = whole_wire;
    one = whole_one;
    forth = whole_forth;
    back = whole_back;
  }
