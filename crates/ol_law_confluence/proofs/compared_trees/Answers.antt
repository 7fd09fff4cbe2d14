-- The law of compared trees.
use Rattle.std.proofs.Common.{inr}
use Rattle.ol_law_confluence.proofs.compared_trees.Goals as goal
use Rattle.std.specs.Prelude.{[], slice_index_or}
use Rattle.ol_law_confluence.specs.Compared.{number_of}
use Rattle.ol_law_confluence.proofs.NamesKept.{renamed_convertible, names_kept}
use Rattle.ol_law_confluence.proofs.Renamings.{number_of_one}
use Rattle.ol_law_confluence.proofs.ComparedTrees.{comparison_tells, not_apart}

pub returns-clause-number : goal.returns-clause-number
returns-clause-number g = λ xs ys e. number_of_one xs ys e

pub returns-clause-names : goal.returns-clause-names
returns-clause-names g =
    λ names d t u h k. (
      λ c. names_kept names d t u h k c,
      λ c. renamed_convertible
          (λ k. number_of (slice_index_or names k [])) c,
    )

pub returns-clause-tells : goal.returns-clause-tells
returns-clause-tells g = λ names t u b c ns ms p x h. comparison_tells names t u b c ns ms p x h

pub returns-clause-lost : goal.returns-clause-lost
returns-clause-lost g =
    λ names t u b c ns ms p k path x tells z. not_apart names b c t u ns ms p k path x (inr tells) z
