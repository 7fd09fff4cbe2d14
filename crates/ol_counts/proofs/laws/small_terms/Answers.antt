-- Small terms.
use Rattle.std.proofs.Common.{refl}
use Rattle.ol_counts.proofs.laws.small_terms.Goals as goal
use Rattle.ol_counts.specs.NeedRules.{of_free, of_lam, first_use, later_use, beta, argument}
use Rattle.ol_counts.specs.NeedRules.{into_body, into_arguments, no_argument, one_argument}

pub returns-clause-counts : goal.returns-clause-counts
returns-clause-counts c = (refl, refl)

pub returns-clause-forms : goal.returns-clause-forms
returns-clause-forms c = (
  (
    _,
    into_body
        (beta of_lam
        (beta (first_use refl refl (beta of_lam (first_use refl refl of_lam)))
        (first_use refl refl (later_use refl refl))))
        (into_arguments (later_use refl refl) no_argument),
  ),
  (
    _,
    into_arguments
        (beta of_lam
        (argument
        (beta (first_use refl refl of_lam)
        (beta (beta of_lam (first_use refl refl of_lam))
        (first_use refl refl (first_use refl refl of_free))))))
        (one_argument no_argument
        (into_arguments
        (first_use refl refl
        (beta (later_use refl refl)
        (beta (beta of_lam (first_use refl refl of_lam))
        (first_use refl refl (first_use refl refl of_free)))))
        no_argument)),
  ),
)
