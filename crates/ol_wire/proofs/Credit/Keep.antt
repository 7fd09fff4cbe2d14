-- A step that changes one word and one view keeps the credit.
-- Used in Quiet, Steps and Steps.Allowed.
use Rattle.std.proofs.Common.{◌≡◌, ◌≢◌, ℕ, suc, ◌+◌, ◌*◌, ◌≤◌, ◌⊎◌, true, List, length, get_or, set}
use Rattle.std.proofs.Common.{sym, ap, ◌∙◌, subst, arith, inl, inr, get_or-set_other}
use Rattle.std.proofs.lemmas.List.{set-get_or}
use mathlib.Core.Option.{some}
use lib.ListN.{get_elem?}
use Rattle.ol_law_edges.specs.Edges.{IsIn}
use Rattle.ol_wire.specs.declared.plan.Plan.{Plan}
use Rattle.ol_wire.specs.declared.view.View.{View}
use Rattle.ol_wire.specs.Weights.{total}
use Rattle.ol_wire.specs.Layout.{left, right, part_of_word}
use Rattle.ol_wire.specs.Credit.{active_cells, active_claims, Credited}
use Rattle.ol_wire.specs.Rule.{Table, Kept, IsView}
use Rattle.ol_wire.proofs.InWords.Places.{is_left}
use Rattle.ol_wire.proofs.Steps.Lists.{total_set, each_set}
use Rattle.ol_wire.proofs.Steps.Keep.{after}
use Rattle.ol_wire.proofs.Credit.Sums.{total_alike}
use Rattle.ol_wire.proofs.Credit.Words.{claims_same}

-- no claimed pair has this word as its right one
abbrev pub IsNoClaim : Table → ℕ → Type 0
IsNoClaim s i = (u : View) (a y : ℕ) → IsView s u → IsIn (a, y) u.taken → suc a ≢ i

-- What the step does to the live word, to the cells and to its view. Both sides of `balance` are
-- what is left of the live word.
pub record Pays (p : Plan) (s : Table) (v w : View) (i x : ℕ) : Type 0 where
  pub off : IsNoClaim s i
  pub balance : get_or (set s.words i x) 1 0 + active_cells p.parts s.words + (active_claims s.words v + v.owed)
      ≡ get_or s.words 1 0 + active_cells p.parts (set s.words i x) + (active_claims (set s.words i x) w + w.owed)
  pub links : length w.pending ≤ w.owed
  pub owes : w.owed ≤ 5 * (active_claims (set s.words i x) w + length w.made)
  pub few : w.owed + length w.taken ≤ 5 * w.holds
  pub settled : w.settled ≡ true → (v.settled ≡ true) ⊎ (get_or (set s.words i x) 1 0 ≡ 0)
  pub stays : get_or s.words 1 0 ≡ 0 → get_or (set s.words i x) 1 0 ≡ 0

module _ (p : Plan) (s : Table) (c : Credited p s) (id : ℕ) (v w : View) (i x : ℕ)
    (here : get_elem? s.views id ≡ some v) (pays : Pays p s v w i x) where
  abbrev new : List ℕ
  new = set s.words i x

  abbrev there : Table
  there = after s i x id w

  viewed : (P : View → Type 0) → P w → ((u : View) → IsView s u → P u) → (u : View) → IsView there u → P u
  viewed P at old u is = each_set P s.views id w at (λ j y e. old y (j, e)) is.0 u is.1

  claim_same : (u : View) → IsView s u → active_claims new u ≡ active_claims s.words u
  claim_same u is = claims_same new s.words u (λ a y m. get_or-set_other s.words i (suc a) x 0 (pays.off u a y is m))

  old_claims : total (active_claims new) s.views ≡ total (active_claims s.words) s.views
  old_claims = total_alike (active_claims new) (active_claims s.words) s.views (λ j u e. claim_same u (j, e))

  pub pays_keeps : Credited p there
  pays_keeps = record {
    live = omega (
      arith,
      c.live,
      pays.balance,
      old_claims,
      claim_same v (id, here),
      total_set (active_claims new) s.views id v w here,
      total_set (λ (u : View). u.owed) s.views id v w here,
    );
    links = viewed (λ u. length u.pending ≤ u.owed) pays.links c.links;
    owes = viewed (λ u. u.owed ≤ 5 * (active_claims new u + length u.made)) pays.owes
        (λ u is. omega (arith, c.owes u is, claim_same u is));
    few = viewed (λ u. u.owed + length u.taken ≤ 5 * u.holds) pays.few c.few;
    settled = viewed (λ u. u.settled ≡ true → get_or new 1 0 ≡ 0) now (λ u is e. pays.stays (c.settled u is e));
  }
    where
      now : w.settled ≡ true → get_or new 1 0 ≡ 0
      now e = of (pays.settled e)
        where
          of : (v.settled ≡ true) ⊎ (get_or new 1 0 ≡ 0) → get_or new 1 0 ≡ 0
          of (inl o) = pays.stays (c.settled v (id, here) o)
          of (inr o) = o

module _ (p : Plan) (s : Table) (k : Kept p s) where
  -- the right word of a claimed pair is one of a cell
  pub no_claim : (i : ℕ) → part_of_word p.parts i ≢ right → IsNoClaim s i
  no_claim i not_right u a y is m e = not_right
      (ap (part_of_word p.parts) (sym e) ∙ (is_left p.parts a (k.seats.taken u a y is m).0).0)

-- a step that leaves all words as they are
pub same_words : (p : Plan) (s : Table) (c : Credited p s) (id : ℕ) (v w : View) →
    get_elem? s.views id ≡ some v → w.taken ≡ v.taken → w.owed ≡ v.owed → w.pending ≡ v.pending →
    w.holds ≡ v.holds → (w.settled ≡ true → (v.settled ≡ true) ⊎ (get_or s.words 1 0 ≡ 0)) → w.made ≡ v.made
    → Credited p record { words = s.words; homes = s.homes; views = set s.views id w }
same_words p s c id v w here taken owed pending holds settled made = record {
  live = omega (
    arith,
    c.live,
    owed,
    ap (λ (l : List (ℕ × ℕ)). active_claims s.words (record v { taken = l })) taken,
    total_set (active_claims s.words) s.views id v w here,
    total_set (λ (u : View). u.owed) s.views id v w here,
  );
  links = viewed (λ u. length u.pending ≤ u.owed)
      (omega (arith, owed, ap length pending, c.links v (id, here))) c.links;
  owes = viewed (λ u. u.owed ≤ 5 * (active_claims s.words u + length u.made))
      (omega (
        arith,
        owed,
        c.owes v (id, here),
        ap (λ (l : List (ℕ × ℕ)). active_claims s.words (record v { taken = l })) taken,
        ap length made,
      )) c.owes;
  few = viewed (λ u. u.owed + length u.taken ≤ 5 * u.holds)
      (omega (arith, owed, holds, ap length taken, c.few v (id, here))) c.few;
  settled = viewed (λ u. u.settled ≡ true → get_or s.words 1 0 ≡ 0) (λ e. of (settled e)) c.settled;
}
  where
    of : (v.settled ≡ true) ⊎ (get_or s.words 1 0 ≡ 0) → get_or s.words 1 0 ≡ 0
    of (inl o) = c.settled v (id, here) o
    of (inr o) = o

    viewed : (P : View → Type 0) → P w → ((u : View) → IsView s u → P u) → (u : View) →
        IsView (record { words = s.words; homes = s.homes; views = set s.views id w }) u → P u
    viewed P at old u is = each_set P s.views id w at (λ j y e. old y (j, e)) is.0 u is.1

pub read_keeps : (p : Plan) (s : Table) (c : Credited p s) (i x id : ℕ) (v w : View) →
    x ≡ get_or s.words i 0 → get_elem? s.views id ≡ some v → w.taken ≡ v.taken → w.owed ≡ v.owed →
    w.pending ≡ v.pending → w.holds ≡ v.holds → w.settled ≡ v.settled → w.made ≡ v.made
    → Credited p (after s i x id w)
read_keeps p s c i x id v w is here taken owed pending holds settled made =
    subst (λ (ws : List ℕ). Credited p record {
      words = ws;
      homes = s.homes;
      views = set s.views id w;
    }) (sym (ap (set s.words i) is ∙ set-get_or s.words i 0))
    (same_words p s c id v w here taken owed pending holds (λ e. inl (sym settled ∙ e)) made)

-- a word that is none of a cell, nor the live word, is set, and the view owes as much as before and has no more links
pub plain_keeps : (p : Plan) (s : Table) (k : Kept p s) (c : Credited p s) (i x id : ℕ)
    (v w : View) → get_elem? s.views id ≡ some v → part_of_word p.parts i ≢ left →
    part_of_word p.parts i ≢ right → i ≢ 1
    → active_cells p.parts (set s.words i x) ≡ active_cells p.parts s.words → w.taken ≡ v.taken →
    w.owed ≡ v.owed → length w.pending ≤ length v.pending → w.holds ≡ v.holds →
    w.settled ≡ v.settled → w.made ≡ v.made → Credited p (after s i x id w)
plain_keeps p s k c i x id v w here not_left not_right not_live cells taken owed pending holds
    settled made = pays_keeps p s c id v w i x here record {
      off = no_claim p s k i not_right;
      balance = omega (arith, live, cells, owed, claims);
      links = omega (arith, pending, owed, c.links v (id, here));
      owes = omega (arith, owed, claims, c.owes v (id, here), ap length made);
      few = omega (arith, owed, holds, ap length taken, c.few v (id, here));
      settled = λ e. inl (sym settled ∙ e);
      stays = λ e. live ∙ e;
    }
  where
    live : get_or (set s.words i x) 1 0 ≡ get_or s.words 1 0
    live = get_or-set_other s.words i 1 x 0 (λ e. not_live (sym e))

    claims : active_claims (set s.words i x) w ≡ active_claims s.words v
    claims = claims_same (set s.words i x) s.words w
        (λ a y m. get_or-set_other s.words i (suc a) x 0
        (no_claim p s k i not_right v a y (id, here) (subst (λ (l : List (ℕ × ℕ)). IsIn {X = ℕ × ℕ} (a, y) l) taken m)))
        ∙ ap (λ (l : List (ℕ × ℕ)). active_claims s.words (record v { taken = l })) taken
