-- The nodes that a step makes may be born, and the lists of a crossing by their lengths.
use Rattle.std.proofs.Common.{◌≡◌, ℕ, ◌+◌, ◌<◌, ◌≤◌, true, false, List, [], ◌++◌, Option, Some, None, ◌⊎◌, inl, inr}
use Rattle.std.proofs.Common.{refl, sym, ap, ◌∙◌, subst, arith, append-nil}
use Rattle.std.specs.Prelude.{slice_get, Result, Ok, Err, OnOk}
use Rattle.ol_net.specs.declared.parts.Kind.{Kind}
use Rattle.ol_net.specs.declared.parts.Kind.TheVariants as kind
use Rattle.ol_net.specs.declared.parts.NodeId.{NodeId}
use Rattle.ol_net.specs.declared.parts.Rule.{Rule}
use Rattle.ol_net.specs.Parts.{arity, is_eraser}
use Rattle.ol_net.specs.Rules.{rule_of}
use Rattle.ol_net.specs.Graph.{Graph, kind_at}
use Rattle.ol_net.specs.Indexes.{HasIndexes, top_index_of}
use Rattle.ol_net.specs.Replace.{MayBeBorn, Replaces}
use Rattle.ol_net.proofs.Indexes.{top_is_top}
use Rattle.ol_rules.specs.Rewriting.{crossing}
use Rattle.ol_rules.specs.BornLists.{copies, born_of, crossing_joins}
use Rattle.ol_rules.proofs.Lists.{got}

-- only an eraser, which has no auxiliary port, acts on an eraser
none_acts : (k : Kind) (i : ℕ) (l : Kind) (j : ℕ) (r : Rule) → rule_of k i l j ≡ Some r →
    is_eraser l ≡ true → arity k ≡ 0
none_acts kind.Eraser i l j r h e = refl
none_acts kind.Lam i kind.Eraser j r h e = absurd (let bad : None ≡ Some r = h in cc)
none_acts kind.App i kind.Eraser j r h e = absurd (let bad : None ≡ Some r = h in cc)
none_acts kind.Fan i kind.Eraser j r h e = absurd (let bad : None ≡ Some r = h in cc)
none_acts kind.Croissant i kind.Eraser j r h e = absurd (let bad : None ≡ Some r = h in cc)
none_acts kind.Bracket i kind.Eraser j r h e = absurd (let bad : None ≡ Some r = h in cc)
none_acts k i kind.Lam j r h e = absurd (let bad : false ≡ true = e in cc)
none_acts k i kind.App j r h e = absurd (let bad : false ≡ true = e in cc)
none_acts k i kind.Fan j r h e = absurd (let bad : false ≡ true = e in cc)
none_acts k i kind.Croissant j r h e = absurd (let bad : false ≡ true = e in cc)
none_acts k i kind.Bracket j r h e = absurd (let bad : false ≡ true = e in cc)

-- each copy of f and of g may be born, where the copies of g have an index of at most one more than g
pub may_all : (nodes : List (Option (Kind × ℕ))) (x y : ℕ) (f g : Kind × ℕ) (r : Rule) (j : ℕ) →
    HasIndexes nodes → kind_at nodes x ≡ Some f → kind_at nodes y ≡ Some g
    → rule_of f.0 f.1 g.0 g.1 ≡ Some r → j ≤ g.1 + 1 → (p : ℕ) (k : Kind × ℕ) →
    slice_get (born_of (crossing j) f g) p ≡ Some k → MayBeBorn (top_index_of nodes) k
may_all nodes x y f g r j has is_f is_g fits low p k h = first
    (got (arity g.0) f (copies {X = Kind × ℕ} (arity f.0) (g.0, j)) p k h)
  where
    last : (q : ℕ) → ((q < arity f.0) × (◌≡◌ {A = Kind × ℕ} k (g.0, j)))
        ⊎ ((t : ℕ) × (q ≡ arity f.0 + t) × (slice_get {X = Kind × ℕ} [] t ≡ Some k)) → MayBeBorn (top_index_of nodes) k
    last q (inl (b, e)) =
        let t = top_is_top nodes y g is_g in
        let u = ap (λ (k : Kind × ℕ). k.1) e in (
          omega arith,
          λ h. let v : is_eraser g.0 ≡ true = sym
              (ap (λ (k : Kind × ℕ). is_eraser k.0) e) ∙ h in
              let z = none_acts f.0 f.1 g.0 g.1 r fits v in absurd (omega arith),
        )
    last q (inr (t, e, h)) = absurd (let bad : None ≡ Some k = h in cc)

    first : ((p < arity g.0) × (k ≡ f)) ⊎
        ((q : ℕ) × (p ≡ arity g.0 + q) × (slice_get
        (copies {X = Kind × ℕ} (arity f.0) (g.0, j)) q ≡ Some k)) → MayBeBorn (top_index_of nodes) k
    first (inl (b, e)) = subst (λ k. MayBeBorn (top_index_of nodes) k) (sym e)
        (let t = top_is_top nodes x f is_f in omega arith, has.erasers x f is_f)
    first (inr (q, e, h)) = last q (got (arity f.0) (g.0, j) [] q k
        (ap (λ ys. slice_get {X = Kind × ℕ} ys q) (append-nil (copies {X = Kind × ℕ} (arity f.0) (g.0, j))) ∙ h))

-- a list of copies, by how many there are
pub may_listed : (top : ℕ) (f g : Kind × ℕ) (j m n : ℕ) → arity f.0 ≡ m → arity g.0 ≡ n
    → ((p : ℕ) (k : Kind × ℕ) → slice_get (born_of (crossing j) f g) p ≡ Some k → MayBeBorn top k)
    → (p : ℕ) (k : Kind × ℕ) → slice_get (copies n f ++ copies {X = Kind × ℕ} m (g.0, j)) p ≡ Some k → MayBeBorn top k
may_listed top f g j m n a b h p k q = h p k
    (ap (λ m. slice_get (copies (arity g.0) f ++ copies {X = Kind × ℕ} m (g.0, j)) p) a
    ∙ (ap (λ n. slice_get (copies n f ++ copies {X = Kind × ℕ} m (g.0, j)) p) b ∙ q))

pub replaces_listed : (old new : Graph) (x y : NodeId) (f g : Kind × ℕ) (j m n : ℕ) → arity f.0 ≡ m → arity g.0 ≡ n
    → Replaces old new x y (copies n f ++ copies {X = Kind × ℕ} m (g.0, j)) (crossing_joins m n) →
    Replaces old new x y (born_of (crossing j) f g) (crossing_joins (arity f.0) (arity g.0))
replaces_listed old new x y f g j m n a b h =
    subst (λ m. Replaces old new x y (copies (arity g.0) f ++ copies {X = Kind × ℕ} m (g.0, j))
    (crossing_joins m (arity g.0))) (sym a)
    (subst (λ n. Replaces old new x y (copies n f ++ copies {X = Kind × ℕ} m (g.0, j)) (crossing_joins m n)) (sym b) h)

-- a node has at most two auxiliary ports
pub at_most_two : (k : Kind) → arity k ≤ 2
at_most_two kind.Lam = omega arith
at_most_two kind.App = omega arith
at_most_two kind.Fan = omega arith
at_most_two kind.Croissant = omega arith
at_most_two kind.Bracket = omega arith
at_most_two kind.Eraser = omega arith

pub on_ok : {X E : Type 0} (r : Result X E) (P Q : Type 0) → (P → Q) → OnOk r P → OnOk r Q
on_ok (Ok x) P Q f h = f h
on_ok (Err e) P Q f h = tt
