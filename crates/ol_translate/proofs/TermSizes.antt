-- A term is at most twice as large as its translation, so the size of a term with a small net is counted.
-- Used in crates above.
use Rattle.std.proofs.Common.{◌≡◌, ℕ, ◌+◌, ◌*◌, ◌^◌, ◌<◌, ◌≤◌, List, Option, None, Some, refl, arith}
use Rattle.ol_term.specs.declared.translations.Translation.{Translation}
use Rattle.ol_term.specs.declared.translations.Translation.TheVariants.{One, Two}
use Rattle.ol_term.specs.Trees.{Tree, var, free, lam, app, term_size}
use Rattle.ol_translate.specs.Translation.{bare_variable}
use Rattle.ol_translate.specs.Sizes.{variables, size_of_argument, size_under, size_of_translation}

-- an argument that is no wire has its own nodes
own_nodes : (size : ℕ) (fM fN : List ℕ) → size ≤ size_of_argument None size fM fN
own_nodes size fM fN = omega arith

-- a wire is a variable
wire_is_small : (w : Translation) (d y : ℕ) (N : Tree) → bare_variable w d N ≡ Some y → term_size N ≡ 1
wire_is_small One d y N e = absurd (cc)
wire_is_small Two d y (var v) e = refl
wire_is_small Two d y (free f) e = refl
wire_is_small Two d y (lam M) e = absurd (cc)
wire_is_small Two d y (app M N) e = absurd (cc)

-- an application, by its two parts
app_bound : (w : Translation) (d : ℕ) (M N : Tree) → term_size M ≤ 2 * size_under w d M →
    term_size N ≤ 2 * size_under w d N → term_size (app M N) ≤ 2 * size_under w d (app M N)
app_bound w d M N h k = go (bare_variable w d N) refl
  where
    sum : (m n a b c : ℕ) → m ≤ 2 * a → n ≤ 2 * b → b ≤ c → 1 + m + n ≤ 2 * (1 + a + c)
    sum m n a b c h k l = omega arith

    wire : (m n a c : ℕ) → m ≤ 2 * a → n ≡ 1 → 1 + m + n ≤ 2 * (1 + a + c)
    wire m n a c h k = omega arith

    go : (o : Option ℕ) → bare_variable w d N ≡ o →
        1 + term_size M + term_size N ≤ 2 * (1 + size_under w d M + size_of_argument o
        (size_under w d N) (variables d M) (variables d N))
    go None e = sum (term_size M) (term_size N) (size_under w d M) (size_under w d N) _ h k
        (own_nodes (size_under w d N) (variables d M) (variables d N))
    go (Some y) e = wire (term_size M) (term_size N) (size_under w d M) _ h (wire_is_small w d y N e)

size_bound : (w : Translation) (d : ℕ) (t : Tree) → term_size t ≤ 2 * size_under w d t
size_bound w d (var v) = omega arith
size_bound w d (free f) = omega arith
size_bound w d (lam M) = let b = size_bound w (d + 1) M in omega (arith, b)
size_bound w d (app M N) = app_bound w d M N (size_bound w d M) (size_bound w d N)

few_nodes : (m n : ℕ) → m ≤ 2 * n → n ≤ 200000 → m < 2 ^ 64
few_nodes m n h k = omega arith

-- the size of a term whose net is small is counted in 64 bits
pub counted : (tr : Translation) (t : Tree) → size_of_translation tr t ≤ 200000 → term_size t < 2 ^ 64
counted tr t small = few_nodes (term_size t) (size_of_translation tr t) (size_bound tr 0 t) small
