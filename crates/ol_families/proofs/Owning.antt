-- Each subterm of the first term has a letter of its own.
use Rattle.std.proofs.Common.{◌≡◌, ℕ, suc, ◌+◌, [], refl, sym, ap, ◌∙◌, subst, arith}
use Rattle.ol_law_optimality.specs.Labels.{none, atom}
use Rattle.ol_law_optimality.specs.Labels as labels
use Rattle.ol_law_optimality.specs.Families.{HaveOwnLetters}
use Rattle.ol_law_optimality.proofs.Labelling.{lettered}
use Rattle.ol_law_optimality.proofs.Labelling as labelling
use Rattle.ol_term.specs.Trees.{Tree, term_size}
use Rattle.ol_term.specs.Trees as trees
use Rattle.ol_families.specs.Held.{Held, bare}
use Rattle.ol_families.specs.Held as held
use Rattle.ol_families.specs.Tables.{labelled, IsKnown}

pub bare_lettered : (n : ℕ) (t : Tree) → bare (held.lettered n t) ≡ t
bare_lettered n (trees.var k) = refl
bare_lettered n (trees.free k) = refl
bare_lettered n (trees.lam t) = ap trees.lam (bare_lettered (n + 1) t)
bare_lettered n (trees.app f a) =
    ap (λ x. trees.app x (bare (held.lettered (n + 1 + term_size f) a))) (bare_lettered (n + 1) f)
    ∙ ap (trees.app f) (bare_lettered (n + 1 + term_size f) a)

pub known_lettered : (m n : ℕ) (t : Tree) → IsKnown m (held.lettered n t)
known_lettered m n (trees.var k) = tt
known_lettered m n (trees.free k) = tt
known_lettered m n (trees.lam t) = (tt, known_lettered m (n + 1) t)
known_lettered m n (trees.app f a) = (tt, known_lettered m (n + 1) f, known_lettered m (n + 1 + term_size f) a)

-- with labels these are the letters of the term
lettered_is : (n : ℕ) (t : Tree) → labelled [] (held.lettered n t) ≡ lettered t n
lettered_is n (trees.var k) = refl
lettered_is n (trees.free k) = refl
lettered_is n (trees.lam t) =
    let e : n + 1 ≡ suc n = omega arith in
    ap (λ m. labels.lam (labelled [] (held.lettered m t)) (atom n none)) e
    ∙ ap (λ b. labels.lam b (atom n none)) (lettered_is (suc n) t)
lettered_is n (trees.app f a) =
    let e : n + 1 ≡ suc n = omega arith in
    ap (λ m. labels.app (labelled [] (held.lettered m f)) (labelled [] (held.lettered (m + term_size f) a)) (atom n none)) e
    ∙ ap (λ g. labels.app g (labelled [] (held.lettered (suc n + term_size f) a)) (atom n none)) (lettered_is (suc n) f)
    ∙ ap (λ b. labels.app (lettered f (suc n)) b (atom n none)) (lettered_is (suc n + term_size f) a)

pub own_letters : (t : Tree) → HaveOwnLetters (labelled [] (held.lettered 0 t))
own_letters t = subst HaveOwnLetters (sym (lettered_is 0 t)) (labelling.own_letters t)
