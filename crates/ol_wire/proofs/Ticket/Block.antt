-- The words of a block that aren't empty: the two nodes, the fields of the copies of f, and those of
-- the copies of g. Used in `write_block`, `write_copies` and `write_fields`.
use Rattle.std.proofs.Common.{◌≡◌, ◌≢◌, ℕ, zero, suc, ◌+◌, ◌-◌, ◌*◌, ◌%◌, ◌≤◌, Bool, true, false, if◌then◌else◌, ne_eqb, nat_lt, List, [], ◌∷◌}
use Rattle.std.proofs.Common.{◌++◌, refl, sym, ap, ◌∙◌, arith}
use Rattle.std.proofs.Math.Seq.{drop-append_seam, drop-length}
use Rattle.ol_net.specs.declared.parts.Kind.{Kind}
use Rattle.ol_net.specs.Parts.{arity}
use Rattle.ol_rules.specs.Rewriting.{is_meeting}
use Rattle.ol_rules.proofs.Born.{at_most_two}
use Rattle.ol_wire.specs.declared.layout.Parts.{Parts}
use Rattle.ol_wire.specs.declared.rewrite.Rewrite.{Rewrite}
use Rattle.ol_wire.specs.declared.view.View.{View}
use Rattle.ol_wire.specs.References.{kind_in, place_in, wire_ref}
use Rattle.ol_wire.specs.Layout.{block, born_wire}
use Rattle.ol_wire.specs.Events.{earlier, later}
use Rattle.ol_wire.specs.Blocks.{copies_of_f, copies_of_g, block_words}
use Rattle.ol_wire.specs.LinkLists.{to_write}
use Rattle.ol_wire.specs.StepPlays.{IsNodeOf, rest, wrote}
use Rattle.ol_wire.specs.Rewrites.{event_for}
use Rattle.ol_wire.specs.Copies.{born_wires, copies_due, written}

-- a word that isn't empty is due
due : (w u x : ℕ) (xs : List ℕ) (rest : List (ℕ × ℕ)) → x ≢ 0 → w ≡ u → to_write (suc w) xs ≡ rest →
    to_write w (x ∷ xs) ≡ (u, x) ∷ rest
due w u x xs rest n e is = ap (λ b. if b then to_write (suc w) xs else (w, x) ∷ to_write (suc w) xs) (ne_eqb x 0 n)
    ∙ ap (λ ys. (w, x) ∷ ys) is ∙ ap (λ (i : ℕ). (i, x) ∷ rest) e

-- what a field of a copy holds, where c copies of f and d of g are made and x is the wires
abbrev pub field_by : (ℕ → ℕ → ℕ) → ℕ → ℕ → ℕ → ℕ → ℕ
field_by x c d i s =
    if nat_lt i c then (if nat_lt s d then x i s else 0)
    else if nat_lt i (c + d) then (if nat_lt s c then x s (i - c) else 0)
    else 0

abbrev pub fields_by : (ℕ → ℕ → ℕ) → ℕ → ℕ → List ℕ
fields_by x c d =
    field_by x c d 0 0 ∷ field_by x c d 0 1 ∷ field_by x c d 1 0 ∷ field_by x c d 1 1
    ∷ field_by x c d 2 0 ∷ field_by x c d 2 1 ∷ field_by x c d 3 0 ∷ field_by x c d 3 1 ∷ []

-- the fields of c copies of f, and then those of d copies of g, by the wires of each copy of f
abbrev pub both_due : ℕ → ℕ → ℕ → (ℕ × ℕ) × (ℕ × ℕ) → List (ℕ × ℕ)
both_due w c d x = copies_due w c d x.0 x.1 ++ copies_due (w + 2 * c) d c (x.0.0, x.1.0) (x.0.1, x.1.1)

pub both_same : (w u c e d g : ℕ) (x y : (ℕ × ℕ) × (ℕ × ℕ)) → w ≡ u → c ≡ e → d ≡ g → x ≡ y →
    both_due w c d x ≡ both_due u e g y
both_same w u c e d g x y p q r s =
    ap (λ (n : ℕ). both_due n c d x) p ∙ ap (λ (n : ℕ). both_due u n d x) q
    ∙ ap (λ (n : ℕ). both_due u e n x) r ∙ ap (both_due u e g) s

module _ (w : ℕ) (x : ℕ → ℕ → ℕ) (full : (q p : ℕ) → x q p ≢ 0) where
  abbrev all_due : ℕ → ℕ → List (ℕ × ℕ)
  all_due c d = both_due w c d ((x 0 0, x 0 1), (x 1 0, x 1 1))

  pub fields_are_due : (c d : ℕ) → c ≤ 2 → d ≤ 2 → to_write w (fields_by x c d) ≡ all_due c d
  fields_are_due zero zero a b = refl
  fields_are_due zero (suc zero) a b = refl
  fields_are_due zero (suc (suc zero)) a b = refl
  fields_are_due (suc zero) zero a b = refl
  fields_are_due (suc (suc zero)) zero a b = refl
  fields_are_due (suc zero) (suc zero) a b =
      due w _ (x 0 0) (0 ∷ x 0 0 ∷ 0 ∷ 0 ∷ 0 ∷ 0 ∷ 0 ∷ []) _ (full 0 0) (omega arith)
      (due (suc (suc w)) _ (x 0 0) (0 ∷ 0 ∷ 0 ∷ 0 ∷ 0 ∷ []) _ (full 0 0) (omega arith) refl)
  fields_are_due (suc zero) (suc (suc zero)) a b =
      due w _ (x 0 0) (x 0 1 ∷ x 0 0 ∷ 0 ∷ x 0 1 ∷ 0 ∷ 0 ∷ 0 ∷ []) _ (full 0 0) (omega arith)
      (due (suc w) _ (x 0 1) (x 0 0 ∷ 0 ∷ x 0 1 ∷ 0 ∷ 0 ∷ 0 ∷ []) _ (full 0 1) (omega arith)
      (due (suc (suc w)) _ (x 0 0) (0 ∷ x 0 1 ∷ 0 ∷ 0 ∷ 0 ∷ []) _ (full 0 0) (omega arith)
      (due (suc (suc (suc (suc w)))) _ (x 0 1) (0 ∷ 0 ∷ 0 ∷ []) _ (full 0 1) (omega arith) refl)))
  fields_are_due (suc (suc zero)) (suc zero) a b =
      due w _ (x 0 0) (0 ∷ x 1 0 ∷ 0 ∷ x 0 0 ∷ x 1 0 ∷ 0 ∷ 0 ∷ []) _ (full 0 0) (omega arith)
      (due (suc (suc w)) _ (x 1 0) (0 ∷ x 0 0 ∷ x 1 0 ∷ 0 ∷ 0 ∷ []) _ (full 1 0) (omega arith)
      (due (suc (suc (suc (suc w)))) _ (x 0 0) (x 1 0 ∷ 0 ∷ 0 ∷ []) _ (full 0 0) (omega arith)
      (due (suc (suc (suc (suc (suc w))))) _ (x 1 0) (0 ∷ 0 ∷ []) _ (full 1 0) (omega arith) refl)))
  fields_are_due (suc (suc zero)) (suc (suc zero)) a b =
      due w _ (x 0 0) (x 0 1 ∷ x 1 0 ∷ x 1 1 ∷ x 0 0 ∷ x 1 0 ∷ x 0 1 ∷ x 1 1 ∷ []) _ (full 0 0) (omega arith)
      (due (suc w) _ (x 0 1) (x 1 0 ∷ x 1 1 ∷ x 0 0 ∷ x 1 0 ∷ x 0 1 ∷ x 1 1 ∷ []) _ (full 0 1) (omega arith)
      (due (suc (suc w)) _ (x 1 0) (x 1 1 ∷ x 0 0 ∷ x 1 0 ∷ x 0 1 ∷ x 1 1 ∷ []) _ (full 1 0) (omega arith)
      (due (suc (suc (suc w))) _ (x 1 1) (x 0 0 ∷ x 1 0 ∷ x 0 1 ∷ x 1 1 ∷ []) _ (full 1 1) (omega arith)
      (due (suc (suc (suc (suc w)))) _ (x 0 0) (x 1 0 ∷ x 0 1 ∷ x 1 1 ∷ []) _ (full 0 0) (omega arith)
      (due (suc (suc (suc (suc (suc w))))) _ (x 1 0) (x 0 1 ∷ x 1 1 ∷ []) _ (full 1 0) (omega arith)
      (due (suc (suc (suc (suc (suc (suc w)))))) _ (x 0 1) (x 1 1 ∷ []) _ (full 0 1) (omega arith)
      (due (suc (suc (suc (suc (suc (suc (suc w))))))) _ (x 1 1) ([]) _ (full 1 1) (omega arith) refl)))))))
  fields_are_due (suc (suc (suc c))) d a b = absurd (omega arith)
  fields_are_due c (suc (suc (suc d))) a b = absurd (omega arith)

-- a ticket's block, of which the two nodes are written
module _ (z : Parts) (r : Rewrite) (t : ℕ) (v v1 v2 : View) (f : IsNodeOf z r.f) (g : IsNodeOf z r.g)
    (is : v.due ≡ to_write (block z t) (block_words z (event_for r) t))
    (one : v1 ≡ wrote v) (two : v2 ≡ wrote v1) where
  node : (n m : ℕ) (b : Bool) → n % 4 ≡ 1 → m % 4 ≡ 1 → (if b then n else m) ≢ 0
  node n m true p q = λ e. omega (arith, p, e)
  node n m false p q = λ e. omega (arith, q, e)

  few : (k : Kind) (b : Bool) → (if b then 0 else arity k) ≤ 2
  few k true = omega arith
  few k false = at_most_two k

  abbrev copies : List (ℕ × ℕ)
  copies = both_due (block z t + 2) (copies_of_f (event_for r)) (copies_of_g (event_for r)) (born_wires z t)

  all : to_write (block z t) (block_words z (event_for r) t) ≡
      (block z t, earlier r.f r.g) ∷ (suc (block z t), later r.f r.g) ∷ copies
  all = due (block z t) _ (earlier r.f r.g)
      (later r.f r.g ∷ fields_by (λ q p. wire_ref (born_wire z t q p)) (copies_of_f (event_for r))
      (copies_of_g (event_for r))) _ (node r.f r.g (nat_lt (place_in r.f) (place_in r.g)) f.0 g.0) refl
      (due (suc (block z t)) _ (later r.f r.g)
      (fields_by (λ q p. wire_ref (born_wire z t q p)) (copies_of_f (event_for r))
      (copies_of_g (event_for r))) _ (node r.g r.f (nat_lt (place_in r.f) (place_in r.g)) g.0 f.0) refl
      (fields_are_due (suc (suc (block z t))) (λ q p. wire_ref (born_wire z t q p)) (λ q p e. omega (arith, e))
      (copies_of_f (event_for r)) (copies_of_g (event_for r)) (few (kind_in r.g) (is_meeting r.rule))
      (few (kind_in r.f) (is_meeting r.rule))
      ∙ ap (λ (w : ℕ). both_due w (copies_of_f (event_for r)) (copies_of_g (event_for r)) (born_wires z t))
      (omega arith)))

  pub copies_are_due : v2.due ≡ copies
  copies_are_due = ap (λ (u : View). u.due) (two ∙ ap wrote one)
      ∙ ap (λ (ds : List (ℕ × ℕ)). rest (rest ds)) (is ∙ all)

  -- the fields of the copies are written too
  module _ (v3 v4 : View) (xs ys : List (ℕ × ℕ)) (split : copies ≡ xs ++ ys) (three : v3 ≡ written xs v2) where
    pub some_written : v3 ≡ record v { due = ys }
    some_written =
        let whole : v2 ≡ record v { due = rest (rest v.due) } = two ∙ ap wrote one in
        let left : rest (rest v.due) ≡ xs ++ ys = sym (ap (λ (u : View). u.due) whole) ∙ copies_are_due ∙ split in
        three ∙ ap (written xs) (whole ∙ ap (λ (ds : List (ℕ × ℕ)). record v { due = ds }) left)
        ∙ ap (λ (ds : List (ℕ × ℕ)). record v { due = ds }) (drop-append_seam xs ys)

    pub all_written : v4 ≡ written ys v3 → v4 ≡ record v { due = [] }
    all_written four = four ∙ ap (written ys) some_written
        ∙ ap (λ (ds : List (ℕ × ℕ)). record v { due = ds }) (drop-length ys)
