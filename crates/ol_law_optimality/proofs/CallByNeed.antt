-- Call-by-need.
use Rattle.std.proofs.Common.{inl, inr, List, [], ◌∷◌, sym, subst}
use Rattle.ol_law_edges.specs.Edges.{IsIn}
use Rattle.ol_law_meaning.proofs.Endings.{no_redex}
use Rattle.ol_law_optimality.specs.Labels.{Label, Labelled, erased}
use Rattle.ol_beta.specs.Leftmost.{IsNormal}
use Rattle.ol_term.specs.Trees.{Tree}
use Rattle.ol_law_optimality.specs.LevysTheorem.{IsNeededFor, NeededFamilies, NeedGoesBack, CallByNeedIsFewest}
use Rattle.ol_law_optimality.specs.LevysTheorem.{CallByNeedGoesOn}
use Rattle.ol_law_optimality.specs.LevysTheorem as laws
use Rattle.ol_law_optimality.specs.Reductions.{WholeFamilies, FamilyReduces}
use Rattle.ol_law_optimality.specs.Reductions as reductions
use Rattle.ol_law_optimality.proofs.Firsts.{IsStill, first_of, first_degree}
use Rattle.ol_law_optimality.proofs.Needed.{Of, Row, done, more, beside_still, contracts_row, spread, first_is_needed}
use Rattle.ol_law_optimality.proofs.Once.{needed_families_are_fewest}
use Rattle.ol_law_optimality.proofs.Steps.{at_once, whole_parallel}

row_families : {T V : Labelled} {ds : List Label} → Row T ds V → FamilyReduces T ds V
row_families done = reductions.ready
row_families (more {d = d} p r) = reductions.contract (at_once d p) (row_families r)

beside_families : {T U V : Labelled} {ds us : List Label} → WholeFamilies T ds U → Row T us V →
    IsStill V → Row U us V
beside_families reductions.ready r s = r
beside_families (reductions.contract {d = d} at g p h) r s =
    beside_families h (beside_still (Of d) (whole_parallel p) r s) s

pub need_goes_back : NeedGoesBack
need_goes_back T U ds h d n V us c z =
    let x = spread (row_families (beside_families h (contracts_row c) (no_redex (erased V) z))) in
    x.known d (n V x.degrees x.steps z)

pub whole : {Goal : Tree → Type 0} {T V : Labelled} {ds : List Label} → NeededFamilies Goal T ds V →
    WholeFamilies T ds V
whole laws.ready = reductions.ready
whole (laws.contract at g n p r) = reductions.contract at g p (whole r)

all_needed : {T V : Labelled} {ds : List Label} → NeededFamilies IsNormal T ds V → (e : Label) → IsIn e ds →
    IsNeededFor IsNormal T e
all_needed laws.ready e i = absurd i
all_needed (laws.contract {t = t} at g n p r) e (inl k) = subst (λ e. IsNeededFor IsNormal t e) (sym k) n
all_needed (laws.contract {t = t} {u = u} {d = d} at g n p r) e (inr j) =
    need_goes_back t u (d ∷ []) (reductions.contract at g p reductions.ready) e (all_needed r e j)

pub call_by_need_is_fewest : CallByNeedIsFewest
call_by_need_is_fewest T V W ds cs r letters f n =
    needed_families_are_fewest T V W ds cs (whole r) (all_needed r) letters f n

pub call_by_need_goes_on : CallByNeedGoesOn
call_by_need_goes_on T at e =
    let f = first_degree T at e in (
      f.0,
      f.1,
      λ V us c n. first_is_needed f.0 (contracts_row c) (no_redex (erased V) n) (first_of T at f.0 e f.1),
    )
