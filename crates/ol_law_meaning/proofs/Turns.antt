-- What a walk of the net is over spots: it stands at a spot, or before one, and each node that it
-- comes to has the next spots beside it.
use Rattle.std.proofs.Common.{◌≡◌, ℕ, suc, ◌<◌, true, Option, Some, ◌⊎◌, inl, inr, refl, sym, ap, ◌∙◌, arith, subst}
use Rattle.ol_term.specs.declared.translations.Translation.{Translation}
use Rattle.ol_term.specs.Trees.{Tree, var, free, lam, app}
use Rattle.ol_net.specs.declared.parts.Kind.{Kind}
use Rattle.ol_net.specs.declared.parts.Kind.TheVariants as kind
use Rattle.ol_net.specs.declared.parts.Port.{Port}
use Rattle.ol_net.specs.Parts.{arity}
use Rattle.ol_net.specs.Nets.{NamedPort, NamedNet, HasNode, Linked, slot}
use Rattle.ol_net.specs.Numbered.{numbered_port}
use Rattle.ol_context.specs.Contexts.{Level, Context, cons, at_level, change}
use Rattle.ol_context.specs.Paths.{Crosses, inward, outward}
use Rattle.ol_context.proofs.Contexts.{head_eq, tail_eq}
use Rattle.ol_law_meaning.specs.Spots.{weight_of, occurs, root, wire, Spot, at, body, fun, arg, Edge, Trail}
use Rattle.ol_law_meaning.proofs.Trails.{tr_trans}
use Rattle.ol_law_meaning.proofs.States.{Before, S, at_port, state}

-- every wire of the spot occurs
abbrev pub Fits : Spot → Tree → Type 0
Fits (at root v c) t = Unit {0}
Fits (at (wire y) v c) t = occurs y t ≡ true
Fits (body s) (lam M) = Fits s M
Fits (body s) (var v) = ⊥
Fits (body s) (free f) = ⊥
Fits (body s) (app M N) = ⊥
Fits (fun s) (app M N) = Fits s M
Fits (fun s) (var v) = ⊥
Fits (fun s) (free f) = ⊥
Fits (fun s) (lam M) = ⊥
Fits (arg v s) (app M N) = Fits s N
Fits (arg v s) (var w) = ⊥
Fits (arg v s) (free f) = ⊥
Fits (arg v s) (lam M) = ⊥

-- at this spot of the part the net stands here
pub record Stands (τ : Translation) (t : Tree) (d n k : ℕ) (F : Context → Context) (z : Spot) (u : S) : Type 0 where
  pub is : state τ z t d n k F ≡ Some u
  pub fits : Fits z t

-- the port is a slot of a node, and what each crossing from there leads to
pub record Turn (N : NamedNet ℕ) (P : ℕ → S → Type 0) (y : NamedPort ℕ) (c : Context) : Type 0 where
  pub node : ℕ
  pub by : ℕ
  pub kind_is : Kind
  pub index : ℕ
  pub port : y ≡ slot node by
  pub there : HasNode N node kind_is index
  pub goes : (t : ℕ) (d : Context) → Crosses kind_is index by c t d → P (weight_of kind_is) (slot node t, d)

-- the net stands at the spot, or is linked to where it does
abbrev pub Rest : NamedNet ℕ → (Spot → S → Type 0) → Spot → S → Type 0
Rest N St z u = St z u ⊎ ((y : NamedPort ℕ) × Linked N u.0 y × St z (y, u.1))

-- by a trail of this weight
abbrev pub Reaches : (Spot → Spot → ℕ → Type 0) → (Spot → S → Type 0) → Spot → ℕ → S → Type 0
Reaches T Q z m u = (z' : Spot) × T z z' m × Q z' u

-- a principal port here is that of a node of sharing
abbrev pub IsControl : NamedNet ℕ → NamedPort ℕ → Type 0
IsControl N p = (x : ℕ) → p ≡ slot x 0 →
    (K : Kind) × (i : ℕ) × HasNode N x K i × (K ≡ kind.Lam → ⊥) × (K ≡ kind.App → ⊥)

pub no_principal : (N : NamedNet ℕ) (x s : ℕ) → IsControl N (slot x (suc s))
no_principal N x s = λ y e. let n : suc s ≡ 0 = cc in absurd (omega arith)

pub of_control : (N : NamedNet ℕ) (x i : ℕ) (K : Kind) → HasNode N x K i → (K ≡ kind.Lam → ⊥) →
    (K ≡ kind.App → ⊥) → IsControl N (slot x 0)
of_control N x i K h f g = λ y e. let q : x ≡ y = cc in (K, i, subst (λ x. HasNode N x K i) q h, f, g)

-- or one node of sharing stands between
abbrev pub Resting : NamedNet ℕ → (Spot → Spot → ℕ → Type 0) → (Spot → S → Type 0) → Spot → S → Type 0
Resting N T St z u = Rest N St z u ⊎
    ((y : NamedPort ℕ) × Linked N u.0 y × Turn N (Reaches T (Rest N St) z) y u.1 × IsControl N u.0 × IsControl N y)

abbrev pub Next : NamedNet ℕ → (Spot → Spot → ℕ → Type 0) → (Spot → S → Type 0) → Spot → ℕ → S → Type 0
Next N T St z m u = Reaches T (Resting N T St) z m u

pub turn_map : {N : NamedNet ℕ} {P Q : ℕ → S → Type 0} {y : NamedPort ℕ} {c : Context} →
    ((m : ℕ) (u : S) → P m u → Q m u) → Turn N P y c → Turn N Q y c
turn_map f t = record {
  node = t.node;
  by = t.by;
  kind_is = t.kind_is;
  index = t.index;
  port = t.port;
  there = t.there;
  goes = λ s d x. f (weight_of t.kind_is) (slot t.node s, d) (t.goes s d x);
}

-- what holds of a part holds of the whole
module _ (N : NamedNet ℕ) (T T' : Spot → Spot → ℕ → Type 0) (St St' : Spot → S → Type 0)
    (f : Spot → Spot) (mt : (s z : Spot) (n : ℕ) → T s z n → T' (f s) (f z) n)
    (ms : (s : Spot) (u : S) → St s u → St' (f s) u) where
  rest_map : (z : Spot) (u : S) → Rest N St z u → Rest N St' (f z) u
  rest_map z u (inl s) = inl (ms z u s)
  rest_map z u (inr (y, l, s)) = inr (y, l, ms z (y, u.1) s)

  reaches_map : (z : Spot) (n : ℕ) (u : S) → Reaches T (Rest N St) z n u → Reaches T' (Rest N St') (f z) n u
  reaches_map z n u (z', t, r) = (f z', mt z z' n t, rest_map z' u r)

  resting_map : (z : Spot) (u : S) → Resting N T St z u → Resting N T' St' (f z) u
  resting_map z u (inl r) = inl (rest_map z u r)
  resting_map z u (inr (y, l, t, a, b)) = inr (y, l, turn_map (reaches_map z) t, a, b)

  next_map : (z : Spot) (n : ℕ) (u : S) → Next N T St z n u → Next N T' St' (f z) n u
  next_map z n u (z', t, r) = (f z', mt z z' n t, resting_map z' u r)

  pub turn_lift : (z : Spot) (y : NamedPort ℕ) (c : Context) → Turn N (Next N T St z) y c →
      Turn N (Next N T' St' (f z)) y c
  turn_lift z y c t = turn_map (next_map z) t

-- a trail before it
pub turn_front : {τ : Translation} (N : NamedNet ℕ) (t : Tree) (Q : Spot → S → Type 0) (z z' : Spot)
    (y : NamedPort ℕ) (c : Context) → Trail (Edge τ t) z z' 0 →
    Turn N (Reaches (Trail (Edge τ t)) Q z') y c → Turn N (Reaches (Trail (Edge τ t)) Q z) y c
turn_front N t Q z z' y c r x = turn_map (λ m u h. (h.0, tr_trans r h.1 (omega arith), h.2)) x

-- ---- crossings

cross_in : (K : Kind) (n s : ℕ) (F : Context → Context) → Before n F →
    (c : Context) {a t : ℕ} {e d : Context} → Crosses K n a e t d → a ≡ suc s → e ≡ F c →
    (t ≡ 0) × (d ≡ F (change K s c))
cross_in K n s F b c {e = e} (inward {s = s'} low q) ea ee =
    let same : s' ≡ s = omega arith in
    (refl, sym q ∙ ap (λ x. at_level n (change K x) e) same ∙ ap (at_level n (change K s)) ee ∙ b.passes (change K s) c)
cross_in K n s F b c (outward low q) ea ee = absurd (omega arith)

cross_out : (K : Kind) (n : ℕ) (F : Context → Context) → Before n F →
    (c : Context) {a t : ℕ} {e d : Context} → Crosses K n a e t d → a ≡ 0 → e ≡ F c
    → (s : ℕ) × (c' : Context) × (s < arity K) × (t ≡ suc s) × (d ≡ F c') × (change K s c' ≡ c)
cross_out K n F b c (inward low q) ea ee = absurd (omega arith)
cross_out K n F b c (outward {s = s} {c = d} low q) ea ee = let r = b.opens (change K s) d c
    (q ∙ ee) in (s, r.0, low, refl, r.1, r.2)

pub turn_in : (N : NamedNet ℕ) (P : ℕ → S → Type 0) (x : ℕ) (K : Kind) (n s : ℕ)
    (F : Context → Context) (c : Context) → Before n F → HasNode N x K n →
    P (weight_of K) (slot x 0, F (change K s c)) → Turn N P (slot x (suc s)) (F c)
turn_in N P x K n s F c b h p = record {
  node = x;
  by = suc s;
  kind_is = K;
  index = n;
  port = refl;
  there = h;
  goes = λ t d r. let q = cross_in K n s F b c r refl refl in
      subst (λ t. P (weight_of K) (slot x t, d)) (sym q.0) (subst (λ d. P (weight_of K) (slot x 0, d)) (sym q.1) p);
}

pub turn_out : (N : NamedNet ℕ) (P : ℕ → S → Type 0) (x : ℕ) (K : Kind) (n : ℕ)
    (F : Context → Context) (c : Context) → Before n F → HasNode N x K n
    → ((s : ℕ) (b : Context) → s < arity K → change K s b ≡ c →
    P (weight_of K) (slot x (suc s), F b)) → Turn N P (slot x 0) (F c)
turn_out N P x K n F c b h p = record {
  node = x;
  by = 0;
  kind_is = K;
  index = n;
  port = refl;
  there = h;
  goes = λ t d r. let q = cross_out K n F b c r refl refl in
      subst (λ t. P (weight_of K) (slot x t, d)) (sym q.3)
      (subst (λ d. P (weight_of K) (slot x (suc q.0), d)) (sym q.4) (p q.0 q.1 q.2 q.5));
}

no_cross : {K : Kind} {i s t : ℕ} {c d : Context} → Crosses K i s c t d → K ≡ kind.Eraser → ⊥
no_cross (inward low q) e = let a = ap arity e in absurd (omega arith)
no_cross (outward low q) e = let a = ap arity e in absurd (omega arith)

pub turn_eraser : (N : NamedNet ℕ) (P : ℕ → S → Type 0) (x n : ℕ) (c : Context) →
    HasNode N x kind.Eraser n → Turn N P (slot x 0) c
turn_eraser N P x n c h = record {
  node = x;
  by = 0;
  kind_is = kind.Eraser;
  index = n;
  port = refl;
  there = h;
  goes = λ t d r. absurd (no_cross r refl);
}

-- ---- small steps

pub of_cons : (Q : Level → Context → Type 0) (v w : Level) (c d : Context) → cons v c ≡ cons w d → Q v c → Q w d
of_cons Q v w c d e q = subst (λ v. Q v d) (head_eq v w c d e) (subst (λ c. Q v c) (tail_eq v w c d e) q)

pub stands_port : (x : Option Port) (p : Port) (c : Context) (u : S) → at_port x c ≡ Some u →
    x ≡ Some p → ◌≡◌ {A = S} (numbered_port p, c) u
stands_port x p c u e q =
    let e' : ◌≡◌ {A = Option S} (Some (numbered_port p, c)) (Some u) = ap (λ x. at_port x c) (sym q) ∙ e in
    cc
