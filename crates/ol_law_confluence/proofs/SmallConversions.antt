-- Conversion of small terms.
use Rattle.std.proofs.Common.{◌≡◌, [], ◌∷◌, refl}
use Rattle.ol_beta.proofs.Redexes.{no_leftmost}
use Rattle.ol_readback.specs.Whole.{lost}
use Rattle.ol_law_meaning.specs.Contraction.{var, free, app}
use Rattle.ol_law_meaning.specs.Shows.{ready, contract}
use Rattle.ol_law_meaning.specs.Examples.{loops, EndsIn}
use Rattle.ol_law_meaning.proofs.SmallTerms.{small}
use Rattle.ol_law_meaning.proofs.Endings.{has_no_end, no_redex}
use Rattle.ol_law_confluence.specs.Reductions.{contracts, HasNormalForm, HasHeadNormalForm, of_var, of_free, of_redex}
use Rattle.ol_law_confluence.specs.Examples.{first_of, second_of, TwoReducts, SmallConversions}
use Rattle.ol_law_confluence.proofs.Parallels.{parallel_same}
use Rattle.ol_law_confluence.proofs.Meetings.{convertible_normal}
use Rattle.ol_law_confluence.proofs.LeftmostEnds.{leftmost_finds}
use Rattle.ol_law_confluence.proofs.HeadForms.{forever_none}

chosen : EndsIn (app (app first_of (free 0)) (free 1)) (free 0)
chosen =
    record {
      leads = contract {at = 1 ∷ []} refl refl (contract {at = []} refl refl ready);
      is_normal =
          no_leftmost (free 0) refl;
    }

reducts : TwoReducts
reducts = record {
  inner = contract {at = 2 ∷ []} tt refl ready;
  outer = contract {at = []} tt refl ready;
  from_inner = contract {at = []} tt refl ready;
  from_outer = contract {at = 1 ∷ []} tt refl (contract {at = 2 ∷ []} tt refl ready);
  at_once =
      of_redex {M' = app (var 0) (var 0)} {N' = free 0} (parallel_same (app (var 0) (var 0)))
      (of_redex {M' = var 0} {N' = free 0} of_var of_free);
  development = refl;
}

no_head : HasHeadNormalForm loops → ⊥
no_head h = forever_none loops small.no_end.endless h

no_end : HasNormalForm loops → ⊥
no_end n =
    has_no_end lost loops n.form tt (λ e. small.no_end.endless)
    (leftmost_finds n.reduces n.is_normal) (no_redex n.form n.is_normal)

different : first_of ≡ second_of → ⊥
different e = absurd (cc)

pub small_conversions : SmallConversions
small_conversions = record {
  identities = contracts [] refl;
  chosen = chosen;
  reducts = reducts;
  no_normal_form = no_end;
  no_head_normal_form = no_head;
  consistent =
      λ c. different
      (convertible_normal c ready (no_leftmost first_of refl) ready (no_leftmost second_of refl));
}
