-- What the calls that read a net answer
use Rattle.std.proofs.Common.{◌≡◌, ℕ, ◌+◌, ◌<◌, ◌≤◌, nat_lt, true, false, List, [], ◌∷◌, length, inr, arith, subst}
use Rattle.std.proofs.Common.{take, get_or, max, min, Option, Some, None, refl, sym, ap, ◌∙◌, inl}
use Rattle.std.specs.Prelude.{◌↔◌, IfSome, IfNone}
use Rattle.std.proofs.lemmas.Bool.{cases_lt, cases_eq, false≢true}
use Rattle.std.proofs.lemmas.Bool.Decides.{nat_tests}
use Rattle.std.proofs.lemmas.List.{take_more}
use Rattle.std.proofs.lemmas.Option.{none-some}
use Rattle.ol_net.proofs.Places.{kind_at-inside}
use Rattle.ol_net.specs.declared.parts.Kind.{Kind}
use Rattle.ol_net.specs.declared.parts.NodeId.{NodeId}
use Rattle.ol_net.specs.declared.parts.Port.{Port}
use Rattle.ol_net.specs.declared.parts.Port.TheVariants.{Of}
use Rattle.ol_net.specs.declared.parts.Rule.{Rule}
use Rattle.ol_net.specs.declared.parts.Facing.TheVariants.{Active, Stuck}
use Rattle.ol_net.specs.declared.parts.Facing.TheVariants as facing
use Rattle.ol_net.specs.Graph.{Graph, IsTabled, kind_at, partner_of, facing_at}
use Rattle.ol_net.specs.Nets.{HasNode, Linked, IsPort, Faces, slot, NamedNet}
use Rattle.ol_net.specs.Numbered.{numbered_port, net_of}
use Rattle.ol_net.specs.Pairs.{IsStuck, IsInActive, IsInStuck, FacesNone, HasPair, AreDifferent, HasStuck}
use Rattle.ol_net.specs.Indexes.{top_index_of}
use Rattle.ol_net.proofs.Numbered.{has_node, linked, linked_back, is_port, numbered_port-injective}
use Rattle.ol_net.proofs.Numbered.{faces_or_none, active_from, active_first, active_second}
use Rattle.ol_net.proofs.Numbered.{stuck_from, stuck_first, none_from, partner_of-there}
use Rattle.ol_net.proofs.Numbered.{stuck_apart, one_facing, IsStuck-back}
use Rattle.ol_net.proofs.Indexes.{top_index_of-append}

pub kind_of-node : (g : Graph) (x : ℕ) → IfSome (kind_at g.nodes x) (λ k. HasNode (net_of g) x k.0 k.1)
kind_of-node g x = go (kind_at g.nodes x) refl
  where
    go : (o : Option (Kind × ℕ)) → kind_at g.nodes x ≡ o → IfSome o (λ k. HasNode (net_of g) x k.0 k.1)
    go None e = tt
    go (Some k) e = (has_node g x k.0 k.1).1 e

pub kind_of-none : (g : Graph) (x : ℕ) → IfNone (kind_at g.nodes x) ((k : Kind) (i : ℕ) → HasNode (net_of g) x k i → ⊥)
kind_of-none g x = go (kind_at g.nodes x) refl
  where
    go : (o : Option (Kind × ℕ)) → kind_at g.nodes x ≡ o → IfNone o ((k : Kind) (i : ℕ) → HasNode (net_of g) x k i → ⊥)
    go None e = λ k i h. none-some (k, i) (sym e ∙ (has_node g x k i).0 h)
    go (Some k) e = tt

pub partner-linked : (g : Graph) (p : Port) → IsTabled g.free g.nodes g.partners →
    IfSome (partner_of g p) (λ q. Linked (net_of g) (numbered_port p) (numbered_port q))
partner-linked g p t = go (partner_of g p) refl
  where
    go : (o : Option Port) → partner_of g p ≡ o → IfSome o (λ q. Linked (net_of g) (numbered_port p) (numbered_port q))
    go None e = tt
    go (Some q) e = linked g p q t e

pub partner-none : (g : Graph) (p : Port) → IfNone (partner_of g p) (IsPort (net_of g) (numbered_port p) → ⊥)
partner-none g p = go (partner_of g p) refl
  where
    go : (o : Option Port) → partner_of g p ≡ o → IfNone o (IsPort (net_of g) (numbered_port p) → ⊥)
    go None e = λ h.
        let q = partner_of-there g p ((is_port g p).0 h) in
        none-some q.0 (sym e ∙ q.1)
    go (Some q) e = tt

pub facing-active : (g : Graph) (n : NodeId) → IsTabled g.free g.nodes g.partners → (r : Rule) →
    (facing_at g n ≡ Active r) ↔ IsInActive (net_of g) n.0 r
facing-active g n t r = (
  λ e. active_from g n r t e,
  λ h. elim h.1 [
    | inl a ↦ active_first g n (record { 0 = h.0 }) r t a
    | inr a ↦ active_second g
        (record { 0 = h.0 }) n r t a
  ],
)

pub facing-stuck : (g : Graph) (n : NodeId) → IsTabled g.free g.nodes g.partners →
    (facing_at g n ≡ Stuck) ↔ IsInStuck (net_of g) n.0
facing-stuck g n t = (λ e. stuck_from g n t e, λ h. stuck_first g n (record { 0 = h.0 }) t h.1)

pub facing-none : (g : Graph) (n : NodeId) → IsTabled g.free g.nodes g.partners →
    (facing_at g n ≡ facing.None) ↔ FacesNone (net_of g) n.0
facing-none g n t = (
  λ e. none_from g n t e,
  λ lacks. elim (faces_or_none g n t) [ inl f ↦ absurd (lacks f.node f.k f.i f.l f.j f.faces) | inr e ↦ e ],
)

-- The greatest index among the nodes so far

pub top_index_of-some : (nodes : List (Option (Kind × ℕ))) (i : ℕ) (k : Kind × ℕ) (top : ℕ) →
    i < length nodes → get_or nodes i None ≡ Some k →
    top ≡ top_index_of (take i nodes) → max top k.1 ≡ top_index_of (take (i + 1) nodes)
top_index_of-some nodes i k top lt e h =
    rw (take_more nodes i None lt, e) (omega (arith, h, top_index_of-append (take i nodes) (Some k ∷ [])))

pub top_index_of-none : (nodes : List (Option (Kind × ℕ))) (i top : ℕ) → i < length nodes → get_or nodes i None ≡ None →
    top ≡ top_index_of (take i nodes) → top ≡ top_index_of (take (i + 1) nodes)
top_index_of-none nodes i top lt e h =
    rw (take_more nodes i None lt, e) (omega (arith, h, top_index_of-append (take i nodes) (None ∷ [])))

-- Stuck pairs

-- the partner of the principal port of a node that faces another
pub partner-faced : (g : Graph) (n m : NodeId) (k : Kind) (i : ℕ) (l : Kind) (j : ℕ) →
    IsTabled g.free g.nodes g.partners → Faces (net_of g) n.0 m.0 k i l j →
    partner_of g (Of n 0) ≡ Some (Of m 0)
partner-faced g n m k i l j t f =
    let p = linked_back g (slot n.0 0) (slot m.0 0) t f.linked in
    ap (partner_of g) (numbered_port-injective (Of n 0) p.from p.first) ∙ p.partner
    ∙ ap (λ q. Some q) (sym (numbered_port-injective (Of m 0) p.to p.second))

-- it is the lesser node of a stuck pair exactly where that partner has a greater number
pub lesser-is : (g : Graph) (n m : NodeId) (s : ℕ) → IsTabled g.free g.nodes g.partners →
    facing_at g n ≡ Stuck → partner_of g (Of n 0) ≡ Some (Of m s) →
    (nat_lt n.0 m.0 ≡ true) ↔ ((y : ℕ) × (n.0 < y) × IsStuck (net_of g) n.0 y)
lesser-is g n m s t e h =
    let there = stuck_from g n t e in
    let a = there.1 in
    let same : (y : ℕ) → IsStuck (net_of g) n.0 y → m.0 ≡ y = λ y b.
    let p = partner-faced g n (record { 0 = y }) b.k b.i b.l b.j t b.faces in
    let ends : Some (Of m s) ≡ Some (Of (record { 0 = y }) 0) = sym h ∙ p in
    let nodes : m ≡ record { 0 = y } = cc in
    ap (λ (w : NodeId). w.0) nodes in (
      λ lt. (there.0, (let q = same there.0 a in grind (arith, nat_tests)), a),
      λ y. let q = same y.0 y.2 in let less = y.1 in grind (arith, nat_tests),
    )

-- it is not where it is in no stuck pair
pub lesser-none : (g : Graph) (n : NodeId) → (facing_at g n ≡ Stuck → ⊥) →
    IsTabled g.free g.nodes g.partners → (false ≡ true) ↔ ((y : ℕ) × (n.0 < y) × IsStuck (net_of g) n.0 y)
lesser-none g n ne t = (λ e. absurd (false≢true e), λ y. absurd (ne (stuck_first g n (record { 0 = y.0 }) t y.2)))

-- the stuck pairs that have a number below n, each once
pub record StuckBelow (N : NamedNet ℕ) (n count : ℕ) : Type 0 where
  pub pairs : List (ℕ × ℕ)
  pub size : length pairs ≡ count
  pub few : count ≤ n
  pub different : AreDifferent pairs
  pub all : (f g : ℕ) → HasPair pairs f g ↔ (IsStuck N f g × (min f g < n))

pub StuckBelow-none : (N : NamedNet ℕ) → StuckBelow N 0 0
StuckBelow-none N = record {
  pairs = [];
  size = refl;
  few = omega arith;
  different = tt;
  all = λ f g. (λ h. elim h [ inl a ↦ absurd a | inr a ↦ absurd a ], λ h. absurd (let lt = h.1 in omega arith));
}

lesser-only : (g : Graph) (n x y : ℕ) → IsTabled g.free g.nodes g.partners →
    (((m : ℕ) × (n < m) × IsStuck (net_of g) n m) → ⊥) → IsStuck (net_of g) x y → min x y < n + 1 → min x y < n
lesser-only g n x y t lacks a lt =
    let apart = stuck_apart g x y t a in
    elim (cases_lt (min x y) n) [
      | inl less ↦ less
      | inr le ↦ elim (cases_lt x y) [
        | inl xy ↦ let e : x ≡ n = omega arith in
            absurd (lacks (y, omega arith, subst (λ w. IsStuck (net_of g) w y) e a))
        | inr yx ↦
            let e : y ≡ n = omega (arith, apart) in
            absurd (lacks (x, omega (arith, apart), subst (λ w. IsStuck (net_of g) w x) e (IsStuck-back g x y a)))
      ]
    ]

pub StuckBelow-same : (g : Graph) (n count : ℕ) → IsTabled g.free g.nodes g.partners →
    (((m : ℕ) × (n < m) × IsStuck (net_of g) n m) → ⊥) → StuckBelow (net_of g) n count →
    StuckBelow (net_of g) (n + 1) count
StuckBelow-same g n count t lacks b = record {
  pairs = b.pairs;
  size = b.size;
  few = omega (arith, b.few);
  different = b.different;
  all = λ x y. (
    λ h. let a = (b.all x y).0 h in (a.0, let lt = a.1 in omega arith),
    λ h. (b.all x y).1 (h.0, lesser-only g n x y t lacks h.0 h.1),
  );
}

one_stuck : (g : Graph) (n m m' : ℕ) → IsTabled g.free g.nodes g.partners → IsStuck (net_of g) n m →
    IsStuck (net_of g) n m' → m ≡ m'
one_stuck g n m m' t a b = one_facing g n m m' a.k a.i a.l a.j b.k b.i b.l b.j t a.faces b.faces

pub StuckBelow-more : (g : Graph) (n count : ℕ) → IsTabled g.free g.nodes g.partners →
    ((m : ℕ) × (n < m) × IsStuck (net_of g) n m) → StuckBelow (net_of g) n count →
    StuckBelow (net_of g) (n + 1) (count + 1)
StuckBelow-more g n count t p b = record {
  pairs = (n, p.0) ∷ b.pairs;
  size = omega (arith, b.size);
  few = omega (arith, b.few);
  different = (λ h. let lt = ((b.all n p.0).0 h).1 in let less = p.1 in absurd (omega arith), b.different);
  all = λ x y. (λ h. into x y h, λ h. out_of x y h);
}
  where
    here : (x y : ℕ) → ◌≡◌ {A = ℕ × ℕ} (x, y) (n, p.0) → (x ≡ n) × (y ≡ p.0)
    here x y e = (ap (λ (w : ℕ × ℕ). w.0) e, ap (λ (w : ℕ × ℕ). w.1) e)

    earlier : (x y : ℕ) → HasPair b.pairs x y → IsStuck (net_of g) x y × (min x y < n + 1)
    earlier x y h = let a = (b.all x y).0 h in (a.0, let lt = a.1 in omega arith)

    into : (x y : ℕ) → HasPair ((n, p.0) ∷ b.pairs) x y → IsStuck (net_of g) x y × (min x y < n + 1)
    into x y (inl (inl e)) = let q = here x y e in let less = p.1 in rw (q.0, q.1) (p.2, omega arith)
    into x y (inl (inr h)) = earlier x y (inl h)
    into x y (inr (inl e)) = let q = here y x e in let less = p.1 in
        rw (q.0, q.1) (IsStuck-back g n p.0 p.2, omega arith)
    into x y (inr (inr h)) = earlier x y (inr h)

    out_of : (x y : ℕ) → IsStuck (net_of g) x y × (min x y < n + 1) → HasPair ((n, p.0) ∷ b.pairs) x y
    out_of x y h = elim (cases_eq x n) [
      | inl xn ↦
          let yp : y ≡ p.0 = one_stuck g n y p.0 t (subst (λ w. IsStuck (net_of g) w y) xn h.0) p.2 in
          inl (inl (rw (xn, yp) refl))
      | inr xn ↦ elim (cases_eq y n) [
        | inl yn ↦
            let xp : x ≡ p.0 = one_stuck g n x p.0 t
            (subst (λ w. IsStuck (net_of g) w x) yn (IsStuck-back g x y h.0)) p.2 in
            inr (inl (rw (yn, xp) refl))
        | inr yn ↦
            let lt : min x y < n = let less = h.1 in omega (arith, xn, yn) in
            elim ((b.all x y).1 (h.0, lt)) [ inl a ↦ inl (inr a) | inr a ↦ inr (inr a) ]
      ]
    ]

-- when all numbers were seen, these are the stuck pairs
pub HasStuck-all : (g : Graph) (n count : ℕ) → length g.nodes ≤ n → StuckBelow (net_of g) n count →
    HasStuck (net_of g) count
HasStuck-all g n count le b = record {
  pairs = b.pairs;
  count = b.size;
  different = b.different;
  all = λ x y. (
    λ h. ((b.all x y).0 h).0,
    λ h.
        let here = kind_at-inside g.nodes x (h.k, h.i) ((has_node g x h.k h.i).0 h.faces.first) in
        (b.all x y).1 (h, omega arith),
  );
}
