-- The columns so far, and the ways that are left.
use Rattle.std.proofs.Common.{◌≡◌, ℕ, ◌+◌, ◌<◌, ◌≤◌, Bool, true, false, cond, List, [], ◌∷◌, ◌++◌, length, drop, get_or, map, Option}
use Rattle.std.proofs.Common.{refl, sym, ap, ◌∙◌, subst, arith}
use Rattle.std.specs.List.{All, filter}
use Rattle.std.proofs.lemmas.List.{drop_more, drop_all, map-append, append_assoc, append-nil}
use Rattle.std.proofs.lemmas.List.Elements.{All-push}
use Rattle.ol_term.specs.Trees.{Tree}
use Rattle.ol_net.specs.Graph.{Graph}
use Rattle.ol_counts.specs.declared.tables.Column.{Column}
use Rattle.ol_counts.specs.declared.tallies.Tally.{Tally}
use Rattle.ol_counts.specs.declared.ways.Bounds.{Bounds}
use Rattle.ol_counts.specs.declared.ways.Columns.{Columns}
use Rattle.ol_counts.specs.declared.ways.Way.{Way}
use Rattle.ol_counts.specs.declared.ways.Way.TheVariants as way
use Rattle.ol_counts.specs.Counted.{AreColumns}
use Rattle.ol_counts.specs.Tallies.{IsTally}
use Rattle.ol_counts.specs.Ways.{all_ways, is_shown, shown}

abbrev pub way_of : Column → Way
way_of c = c.way

-- what holds of a column
abbrev pub Of : (Way → Tally → Type 0) → Column → Type 0
Of P c = P c.way c.tally

-- the columns so far are those of the ways that are shown, but for the ways that are left
pub record AreBegun (P : Way → Tally → Type 0) (columns : Columns) (them : List Column) (left : List Way) : Type 0 where
  pub ways : map way_of them ++ filter (is_shown columns) left ≡ shown columns
  pub tallies : All (Of P) them

pub begun : (P : Way → Tally → Type 0) (columns : Columns) → AreBegun P columns [] all_ways
begun P columns = record { ways = refl; tallies = λ k d l. absurd (omega arith) }

module _ (P : Way → Tally → Type 0) (columns : Columns) (them : List Column) (k : ℕ) where
  abbrev at : Way
  at = get_or all_ways k way.Run

  abbrev left : List Way
  left = drop (k + 1) all_ways

  abbrev of : List Way → List Way
  of = filter (is_shown columns)

  here : k < length all_ways → of (drop k all_ways) ≡ cond (is_shown columns at) (at ∷ of left) (of left)
  here l = ap of (drop_more all_ways k way.Run l)

  -- the next way gets a column
  with_column : k < length all_ways → AreBegun P columns them (drop k all_ways) → (tally : Tally) →
      is_shown columns at ≡ true → P at tally →
      AreBegun P columns (them ++ (record { way = at; tally = tally }) ∷ []) left
  with_column l b tally e p =
      let c : Column = record { way = at; tally = tally } in
      let now : of (drop k all_ways) ≡ at ∷ of left =
      here l ∙ ap (λ (b : Bool). cond b (at ∷ of left) (of left)) e in
      record {
        ways = ap (λ (ws : List Way). ws ++ of left) (map-append way_of them (c ∷ []))
            ∙ append_assoc (map way_of them) (at ∷ []) (of left)
            ∙ ap (λ (ws : List Way). map way_of them ++ ws) (sym now) ∙ b.ways;
        tallies = All-push (Of P) them c b.tallies p;
      }

  pub longer : (new : List Column) (tally : Tally) → k < length all_ways → AreBegun P columns them (drop k all_ways) →
      is_shown columns at ≡ true → P at tally → new ≡ them ++ (record { way = at; tally = tally }) ∷ [] →
      AreBegun P columns new left
  longer new tally l b e p n =
      subst (λ (ts : List Column). AreBegun P columns ts left) (sym n) (with_column l b tally e p)

  -- or none
  pub without_column : k < length all_ways → AreBegun P columns them (drop k all_ways) →
      is_shown columns at ≡ false → AreBegun P columns them left
  without_column l b e =
      let now : of (drop k all_ways) ≡ of left =
      here l ∙ ap (λ (b : Bool). cond b (at ∷ of left) (of left)) e in
      record {
        ways = ap (λ (ws : List Way). map way_of them ++ ws) (sym now) ∙ b.ways;
        tallies = b.tallies;
      }

-- no way is left
pub are_columns : (g : Graph) (t : Option Tree) (bounds : Bounds) (columns : Columns) (them : List Column) (k : ℕ) →
    length all_ways ≤ k → AreBegun (IsTally g t bounds) columns them (drop k all_ways) →
    AreColumns g t bounds columns them
are_columns g t bounds columns them k l b = record {
  ways = sym (append-nil (map way_of them))
      ∙ ap (λ (ws : List Way). map way_of them ++ filter (is_shown columns) ws) (sym (drop_all k all_ways l)) ∙ b.ways;
  tallies = b.tallies;
}
