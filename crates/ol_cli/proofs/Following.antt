-- Nets with the same walks from their free ports have the same trees.
use Rattle.std.proofs.Common.{◌≡◌, ℕ, suc, ◌<◌, ◌≤◌, List, arith}
use Rattle.ol_net.specs.Nets.{NamedNet, NamedPort, free, Linked}
use Rattle.ol_context.specs.Contexts.{Context}
use Rattle.ol_context.specs.Paths.{crossings}
use Rattle.ol_context.specs.Ways.{Way, WalkStands}
use Rattle.ol_context.proofs.Ways.{path_way, way_exits}
use Rattle.ol_readback.specs.Frames.{Frame}
use Rattle.ol_readback.specs.Heads.{Answer, IsHeadWithin, leaves, spends, never, live, Fails, LeavesWithin}
use Rattle.ol_readback.specs.ReadTrees.{Subterm, ReadsBack, end, past, spent, lost, found, IsTree}
use Rattle.ol_readback.specs.declared.answers.ReadNode.{ReadNode}

-- Where a walk from a free port of M leaves, one of N leaves after as many crossings. Where one
-- stands, so does the other.
pub record Follows {A B : Type 0} (M : NamedNet A) (N : NamedNet B) : Type 0 where
  pub exits : (p : ℕ) (c : Context) (n q : ℕ) (X : Context) (u : NamedPort A) →
      Way M (free p) c n u X → Linked M u (free q) → (v : NamedPort B) × Way N (free p) c n v X × Linked N v (free q)
  pub stands : (p : ℕ) (c : Context) (n : ℕ) → WalkStands M (free p) c n → WalkStands N (free p) c n

within : (m n edges : ℕ) → m ≡ n → n ≤ edges → m ≤ edges
within m n edges e b = omega arith

leaves_to : {A B : Type 0} (M : NamedNet A) (N : NamedNet B) → Follows M N →
    (p : ℕ) (c : Context) (edges q : ℕ) (X : Context) → LeavesWithin M p c edges q X → LeavesWithin N p c edges q X
leaves_to M N f p c edges q X (n, x) =
    let w = path_way M x.path in
    let t = f.exits p c (crossings x.path) q X w.0 w.1 w.2 in (
      crossings x.path,
      way_exits N edges (crossings x.path) q t.1 t.2
          (within (crossings x.path) n edges x.long x.within),
    )

module _ {A B : Type 0} (M : NamedNet A) (N : NamedNet B) (to : Follows M N) (back : Follows N M)
    (size : live M ≡ live N) where
  fails_to : (p : ℕ) (c : Context) (edges : ℕ) → Fails M p c edges → Fails N p c edges
  fails_to p c edges h = record {
    stays = λ q X l. h.stays q X (leaves_to N M back p c edges q X l);
    breaks_off = λ s. h.breaks_off (back.stands p c edges s);
  }

  few_to : (n : ℕ) → n ≤ live M → n ≤ live N
  few_to n b = omega arith

  few_back : (n : ℕ) → n < suc (live N) → n < suc (live M)
  few_back n b = omega arith

  head_to : (frames : List Frame) (i edges : ℕ) (a : Answer) → IsHeadWithin M frames i edges a →
      IsHeadWithin N frames i edges a
  head_to frames i edges a (leaves {n = n} {q = q} {X = X} b h w m) =
      leaves (few_to n b) (λ j l. fails_to _ _ edges (h j l)) (leaves_to M N to _ _ edges q X w) m
  head_to frames i edges a (spends {n = n} b h s) = spends (few_to n b)
      (λ j l. fails_to _ _ edges (h j l)) (to.stands _ _ edges s)
  head_to frames i edges a (never h) = never (λ j l. fails_to _ _ edges (h j (few_back j l)))

  reads_to : {heads edges : ℕ} {frames : List Frame} {ss : List Subterm} {ns : List ReadNode} →
      ReadsBack M heads edges frames ss ns → ReadsBack N heads edges frames ss ns
  reads_to end = end
  reads_to (past b) = past b
  reads_to (spent b x r) = spent b (head_to _ _ _ _ x) (reads_to r)
  reads_to (lost b x r) = lost b (head_to _ _ _ _ x) (reads_to r)
  reads_to (found b x r) = found b (head_to _ _ _ _ x) (reads_to r)

  pub tree_to : (heads edges : ℕ) (ns : List ReadNode) → IsTree M heads edges ns → IsTree N heads edges ns
  tree_to heads edges ns r = reads_to r
