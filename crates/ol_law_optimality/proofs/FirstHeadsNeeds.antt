-- Call-by-need for the first heads.
use Rattle.std.proofs.Common.{ℕ, inl, inr, List, [], ◌∷◌, ◌++◌, sym, subst}
use Rattle.ol_law_edges.specs.Edges.{IsIn}
use Rattle.ol_law_optimality.specs.Labels.{Label, Labelled, erased}
use Rattle.ol_law_optimality.specs.FirstHeads.{ShowsHeads, HasFirstHeads}
use Rattle.ol_law_optimality.specs.LevysTheorem.{IsNeededFor, NeededFamilies, ready, contract}
use Rattle.ol_law_optimality.specs.NeededHeads.{NeedForHeadsGoesBack}
use Rattle.ol_law_optimality.specs.NeededHeads.{CallByNeedIsFewestForHeads, CallByNeedGoesOnForHeads}
use Rattle.ol_law_optimality.specs.Reductions.{WholeFamilies}
use Rattle.ol_law_optimality.specs.Reductions as reductions
use Rattle.ol_law_optimality.proofs.CallByNeed.{whole}
use Rattle.ol_law_optimality.proofs.FirstHeadsNeeded.{BesideHeads, shows_stay, one_by_one}
use Rattle.ol_law_optimality.proofs.FirstHeadsReached.{find, is_first, within_is_needed, none_is_shorter_than_needed}
use Rattle.ol_law_optimality.proofs.FirstHeadsReached.{stands}
use Rattle.ol_law_optimality.proofs.Needed.{Of, Row, beside, contracts_row}
use Rattle.ol_law_optimality.proofs.Once.{no_family_twice}
use Rattle.ol_law_optimality.proofs.Steps.{whole_parallel}

-- beside whole families
along : {T U V : Labelled} {ds us : List Label} {n m : ℕ} → WholeFamilies T ds U → Row T us V →
    ShowsHeads n (erased V) m → BesideHeads n m U us
along {V = V} reductions.ready r s = record { term = V; row = r; shows = s }
along (reductions.contract {d = d} at e p f) r s =
    let x = beside (Of d) (whole_parallel p) r in along f x.row (shows_stay (Of d) x.step s)

pub need_to_heads_goes_back : NeedForHeadsGoesBack
need_to_heads_goes_back heads T U ds f d needed V us c s =
    let x = along f (contracts_row c) s.1 in
    let y = one_by_one x.row in
    y.known d (needed x.term y.degrees y.steps (s.0, x.shows))

all_needed : {heads : ℕ} {T V : Labelled} {ds : List Label} → NeededFamilies (HasFirstHeads heads) T ds V →
    (e : Label) → IsIn e ds → IsNeededFor (HasFirstHeads heads) T e
all_needed ready e i = absurd i
all_needed {heads = heads} (contract {t = t} at g n p r) e (inl k) = subst (λ e. IsNeededFor (HasFirstHeads heads) t e) (sym k) n
all_needed {heads = heads} (contract {t = t} {u = u} {d = d} at g n p r) e (inr j) =
    need_to_heads_goes_back heads t u (d ∷ []) (reductions.contract at g p reductions.ready) e (all_needed r e j)

pub call_by_need_is_fewest_for_heads : CallByNeedIsFewestForHeads
call_by_need_is_fewest_for_heads heads T V W ds cs r letters f s =
    none_is_shorter_than_needed heads T W ds cs (no_family_twice T V ds (whole r) letters) (all_needed r) f s

pub call_by_need_goes_on_to_heads : CallByNeedGoesOnForHeads
call_by_need_goes_on_to_heads heads T = elim (find T heads) [
  | inl s ↦ inl s
  | inr x ↦ inr (
      let l = stands T x.0 (is_first x.1) in (
        l.at,
        x.0,
        l.first,
        l.is,
        λ V us c s. within_is_needed x.0 (contracts_row c) s.1 x.1,
      ))
]
