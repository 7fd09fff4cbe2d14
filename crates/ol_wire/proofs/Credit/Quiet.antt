-- Where the live word is 0 no active pair is left.
-- Used in Closing.Stands and Steps.LiveAllowed.
use Rattle.std.proofs.Common.{◌≡◌, ◌≢◌, ℕ, suc, ◌≤◌, ◌⊎◌, ◌||◌, nat_eq, Bool, true, false, List, [], ◌∷◌, length}
use Rattle.std.proofs.Common.{get_or, set, refl, sym, ap, ◌∙◌, subst, arith, inl, inr, eqb-true}
use mathlib.Core.Option.{some}
use lib.ListN.{get_elem?}
use Rattle.std.proofs.lemmas.List.{set-get_or}
use Rattle.ol_law_edges.specs.Edges.{IsIn}
use Rattle.ol_net.specs.Pairs.{IsComplete}
use Rattle.ol_wire.specs.declared.plan.Plan.{Plan}
use Rattle.ol_wire.specs.declared.view.Link.{Link}
use Rattle.ol_wire.specs.declared.view.View.{View}
use Rattle.ol_wire.specs.Layout.{left, part_of_word, left_word, cells_of}
use Rattle.ol_wire.specs.Events.{IsStuckPair}
use Rattle.ol_wire.specs.Plays.{live_read}
use Rattle.ol_wire.specs.Credit.{active_in, active_at, active_claims, Credited}
use Rattle.ol_wire.specs.Rule.{Table, Kept, IsView, IsOwn}
use Rattle.ol_wire.proofs.InWords.Places.{is_left}
use Rattle.ol_wire.proofs.InWords.Held.{Holds, owner, total_at}
use Rattle.ol_wire.proofs.InWords.Claimed.{right_written}
use Rattle.ol_wire.proofs.Closing.Cells.{cell_word}
use Rattle.ol_wire.proofs.InWords.Overlooked.{complete}
use Rattle.ol_wire.proofs.Steps.Keep.{after}
use Rattle.ol_wire.proofs.Credit.Sums.{sum_some, total_in, not_active}
use Rattle.ol_wire.proofs.Credit.Keep.{same_words}

no_links : (l : List Link) → length l ≤ 0 → l ≡ []
no_links [] le = refl
no_links (x ∷ l) le = absurd (omega (arith, le))

module _ (p : Plan) (s : Table) (k : Kept p s) (c : Credited p s) (quiet : get_or s.words 1 0 ≡ 0) where
  none_pending : (v : View) → IsView s v → v.pending ≡ []
  none_pending v is = no_links v.pending
      (omega (arith, quiet, c.live, c.links v is, total_at (λ (u : View). u.owed) s.views is.0 v is.1))

  -- a published pair, and a claimed one
  published : (w : ℕ) → part_of_word p.parts w ≡ left → active_at s.words w ≡ 0
  published w is =
      let t = cell_word p.parts w is in
      let most = sum_some (cells_of p.parts) t.0 (λ a. active_at s.words (left_word p.parts a)) t.1 in
      omega (arith, quiet, c.live, most, ap (active_at s.words) t.2)

  claimed : (v : View) (w y : ℕ) → IsView s v → IsIn (w, y) v.taken → active_in y (get_or s.words (suc w) 0) ≡ 0
  claimed v w y is m =
      let most = total_in (λ (q : ℕ × ℕ). active_in q.1 (get_or s.words (suc q.0) 0)) v.taken (w, y) m in
      omega (arith, quiet, c.live, most, total_at (active_claims s.words) s.views is.0 v is.1)

  none_active : (w : ℕ) → part_of_word p.parts w ≡ left → get_or k.full w 0 ≢ 0 →
      IsStuckPair (get_or k.full w 0) (get_or k.full (suc w) 0)
  none_active w is some_pair = subst (IsStuckPair (get_or k.full w 0))
      (right_written p s k w is some_pair)
      (not_active (get_or k.full w 0) (get_or s.words (suc w) 0) some_pair
      (of (owner p s k w (omega (arith, (is_left p.parts w is).1)) some_pair)))
    where
      of : (get_or s.words w 0 ≡ get_or k.full w 0)
          ⊎ ((v : View) × IsView s v × Holds v w (get_or k.full w 0)) →
          active_in (get_or k.full w 0) (get_or s.words (suc w) 0) ≡ 0
      of (inl e) = ap (λ a. active_in a (get_or s.words (suc w) 0)) (sym e) ∙ published w is
      of (inr (v, at, inl due)) = absurd (subst IsOwn is (k.seats.due v w (get_or k.full w 0) at due).1)
      of (inr (v, at, inr taken)) = claimed v w (get_or k.full w 0) at taken

  pub quiet_complete : IsComplete k.net
  quiet_complete = complete p s k none_pending none_active

or_right : (a b : Bool) → (a || b) ≡ true → (a ≡ true) ⊎ (b ≡ true)
or_right true b e = inl refl
or_right false b e = inr e

-- a look at the live word
pub listen_pays : (p : Plan) (s : Table) (c : Credited p s) (id : ℕ) (v : View) →
    get_elem? s.views id ≡ some v → Credited p (after s 1 (get_or s.words 1 0) id (live_read v (get_or s.words 1 0)))
listen_pays p s c id v here =
    let y : ℕ = get_or s.words 1 0 in
    subst (λ (ws : List ℕ). Credited p record {
      words = ws;
      homes = s.homes;
      views = set s.views id (live_read v (get_or s.words 1 0));
    }) (sym (set-get_or s.words 1 0))
    (same_words p s c id v (live_read v (get_or s.words 1 0)) here refl refl refl refl
    (λ e. of (or_right v.settled (nat_eq (get_or s.words 1 0) 0) e)) refl)
  where
    of : (v.settled ≡ true) ⊎ (nat_eq (get_or s.words 1 0) 0 ≡ true) → (v.settled ≡ true) ⊎ (get_or s.words 1 0 ≡ 0)
    of (inl o) = inl o
    of (inr o) = inr (eqb-true (get_or s.words 1 0) 0 o)
