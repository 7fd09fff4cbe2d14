-- One net under other names, however its lists are ordered: its paths have rows with as many
-- inversions, and so the places cost the same.
use Rattle.std.proofs.Common.{◌≡◌, ℕ, ◌+◌, ◌<◌, List, ◌∷◌, refl, subst, arith}
use Rattle.ol_net.specs.Nets.{NamedNet, NamedPort, free, slot, SameNet, port_under, net_under}
use Rattle.ol_context.specs.Contexts.{Context}
use Rattle.ol_context.specs.Paths.{Path, ends, goes, inward, outward, HaveSamePaths}
use Rattle.ol_rules.proofs.Renaming.{node_to, link_to}
use Rattle.ol_readback.specs.Frames.{Frame, asked}
use Rattle.ol_readback.specs.Heads.{NoPath}
use Rattle.ol_readback.specs.ReadTrees.{Subterm}
use Rattle.ol_readback.specs.declared.answers.ReadNode.{ReadNode}
use Rattle.ol_readback.specs.declared.answers.ReadNode.TheVariants as node
use Rattle.ol_law_completeness.specs.Complete.{AreRead, done, enough, place}
use Rattle.ol_law_completeness.specs.Rows.{row, falls, inversions}

-- a path with as many falls and as many inversions
record Alike {A B : Type 0} {N : NamedNet A} (M : NamedNet B) {p : NamedPort A} {c : Context}
    {q : ℕ} {d : Context} (r : Path N p c q d) (p' : NamedPort B) : Type 0 where
  path : Path M p' c q d
  as_many : falls (row path) ≡ falls (row r)
  same : inversions (row path) ≡ inversions (row r)

alike_order : {A : Type 0} (N M : NamedNet A) → SameNet N M → {p : NamedPort A} {c : Context}
    {q : ℕ} {d : Context} (r : Path N p c q d) → Alike M r p
alike_order N M s (ends l) = record { path = ends ((s.links _ _).0 l); as_many = refl; same = refl }
alike_order N M s (goes l h (inward b e) r) =
    let t = alike_order N M s r in
    let x = t.as_many in
    let y = t.same in
    record {
      path = goes ((s.links _ _).0 l) ((s.nodes _ _ _).0 h) (inward b e) t.path;
      as_many = t.as_many;
      same = omega arith;
    }
alike_order N M s (goes l h (outward b e) r) =
    let t = alike_order N M s r in
    let x = t.as_many in
    record {
      path = goes ((s.links _ _).0 l) ((s.nodes _ _ _).0 h) (outward b e) t.path;
      as_many = omega arith;
      same = t.same;
    }

module _ {A B : Type 0} (m : A → B) (N : NamedNet A) where
  alike_names : {p : NamedPort A} {c : Context} {q : ℕ} {d : Context} (r : Path N p c q d) →
      Alike (net_under m N) r (port_under m p)
  alike_names {p = p} {q = q} (ends l) =
      record { path = ends (link_to m N p (free q) l); as_many = refl; same = refl }
  alike_names {p = p} (goes {x = x} {k = k} {i = i} {s = s} l h (inward b e) r) =
      let t = alike_names r in
      let y = t.as_many in
      let z = t.same in
      record {
        path = goes (link_to m N p (slot x s) l) (node_to m N x k i h) (inward b e) t.path;
        as_many = t.as_many;
        same = omega arith;
      }
  alike_names {p = p} (goes {x = x} {k = k} {i = i} {s = s} l h (outward b e) r) =
      let t = alike_names r in
      let y = t.as_many in
      record {
        path = goes (link_to m N p (slot x s) l) (node_to m N x k i h) (outward b e) t.path;
        as_many = omega arith;
        same = t.same;
      }

-- Each path between free ports is one of the second net too, with as many inversions.
abbrev pub CostAlike : {A B : Type 0} → NamedNet A → NamedNet B → Type 0
CostAlike N M = (p : ℕ) (c : Context) (q : ℕ) (X : Context) (t : Path N (free p) c q X) →
    (t' : Path M (free p) c q X) × (inversions (row t') ≡ inversions (row t))

pub cost_alike : {A B : Type 0} (m : A → B) (K N : NamedNet A) → SameNet K N →
    CostAlike K (net_under m N)
cost_alike m K N s p c q X t =
    let a = alike_order K N s t in
    let b = alike_names m N a.path in
    let x = a.same in
    let y = b.same in
    (b.path, omega arith)

-- So what is read costs the same there.
pub costs_moved : {A B : Type 0} (N : NamedNet A) (M : NamedNet B) → HaveSamePaths N M →
    CostAlike N M → {most : ℕ} {F : List Frame} {ss : List Subterm} {ns : List ReadNode} {m : ℕ} →
    AreRead N most F ss ns m → AreRead M most F ss ns m
costs_moved N M paths alike done = done
costs_moved N M paths alike (enough b) = enough b
costs_moved N M paths alike {most = most} {F = F} (place {s = s} {ss = ss} {ns = ns} {n = n} {q = q}
    {k = k} {m = m} {X = X} {v = v} few path match rest) =
    let y = costs_moved N M paths alike rest in
    let z = alike s.port (asked s.levels n) q X path in
    let none : (j : ℕ) → j < n → NoPath M s.port (asked s.levels j) =
    λ j b q' X' w. few j b q' X' ((paths s.port (asked s.levels j) q' X').1 w) in
    subst (λ i. AreRead M most F (s ∷ ss) (node.Head n v k ∷ ns) (i + m)) z.1 (place none z.0 match y)
