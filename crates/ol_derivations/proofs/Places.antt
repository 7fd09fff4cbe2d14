-- A tree in a table: its size, its depth and its variables stay.
use Rattle.std.proofs.Common.{◌≡◌, ℕ, ◌+◌, List, [], Option, Some, None, refl, ap, ◌∙◌, arith}
use Rattle.std.specs.Prelude.{◌&&◌, max, slice_index_or}
use Rattle.ol_term.specs.Trees as tree
use Rattle.ol_term.specs.Trees.{Tree, term_size, depth, is_below}
use Rattle.ol_term.specs.NameLists.{position_of, free_at, in_table}
use Rattle.ol_beta.specs.Beta.{IsWithin}
use Rattle.ol_parse.proofs.Files.{free_below}

free_small : (o : Option ℕ) → term_size (free_at o) ≡ 1
free_small None = refl
free_small (Some k) = refl

free_shallow : (o : Option ℕ) → depth (free_at o) ≡ 1
free_shallow None = refl
free_shallow (Some k) = refl

size_kept : (table names : List (List ℕ)) (t : Tree) → term_size (in_table table names t) ≡ term_size t
size_kept table names (tree.var k) = refl
size_kept table names (tree.free k) = free_small (position_of (slice_index_or names k []) table)
size_kept table names (tree.lam t) = ap (λ n. 1 + n) (size_kept table names t)
size_kept table names (tree.app f a) = ap (λ n. 1 + n + term_size (in_table table names a)) (size_kept table names f)
    ∙ ap (λ n. 1 + term_size f + n) (size_kept table names a)

depth_kept : (table names : List (List ℕ)) (t : Tree) → depth (in_table table names t) ≡ depth t
depth_kept table names (tree.var k) = refl
depth_kept table names (tree.free k) = free_shallow (position_of (slice_index_or names k []) table)
depth_kept table names (tree.lam t) = ap (λ n. 1 + n) (depth_kept table names t)
depth_kept table names (tree.app f a) = ap (λ n. 1 + max n (depth (in_table table names a))) (depth_kept table names f)
    ∙ ap (λ n. 1 + max (depth f) n) (depth_kept table names a)

pub within_kept : (table names : List (List ℕ)) (t u : Tree) → u ≡ in_table table names t → IsWithin t → IsWithin u
within_kept table names t u e w =
    let s = ap term_size e ∙ size_kept table names t in
    let d = ap depth e ∙ depth_kept table names t in
    let a = w.0 in
    let b = w.1 in (omega (arith, s, a), omega (arith, d, b))

pub below_kept : (table names : List (List ℕ)) (t : Tree) (d : ℕ) → is_below d (in_table table names t) ≡ is_below d t
below_kept table names (tree.var k) d = refl
below_kept table names (tree.free k) d = free_below d (position_of (slice_index_or names k []) table)
below_kept table names (tree.lam t) d = below_kept table names t (d + 1)
below_kept table names (tree.app f a) d = ap (λ b. b && is_below d (in_table table names a)) (below_kept table names f d)
    ∙ ap (λ b. is_below d f && b) (below_kept table names a d)
