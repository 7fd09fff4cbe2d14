-- What rows of letters stand for: rows that stand for one label are one, where the degrees of the table are different.
use Rattle.std.proofs.Common.{◌≡◌, ℕ, zero, suc, ◌+◌, ◌^◌, ◌<◌, ◌≤◌, ◌⊎◌, inl, inr, List, [], ◌∷◌, ◌++◌, length}
use Rattle.std.proofs.Common.{length-append, Option, Some, None, refl, sym, ap, ◌∙◌, subst, arith}
use Rattle.std.specs.Prelude.{slice_get, slice_index_or}
use Rattle.std.proofs.lemmas.List.{get_or_append_left}
use Rattle.ol_law_edges.specs.Edges.{IsIn}
use Rattle.ol_law_edges.proofs.Lists.{in_cases, only, got_append, get_there, got_left, got_last}
use Rattle.ol_law_optimality.specs.Labels.{Label, none, atom, over, under, joined}
use Rattle.ol_law_optimality.specs.Readings.{AreDifferent}
use Rattle.ol_families.specs.declared.degrees.Letter.{Letter}
use Rattle.ol_families.specs.declared.degrees.Letter.TheVariants.{Own, Over, Under}
use Rattle.ol_families.specs.Letters.{letters}
use Rattle.ol_families.specs.Tables.{label_of, AreKnown, read, degrees_of, AreDegrees, IsPlace, IsFound, IsNoted}

pub same_some : {A : Type 0} {x y : A} → Some x ≡ Some y → x ≡ y
same_some e = cc

pub label_more : (ls ms : List Label) (r : List Letter) → AreKnown (length ls) r → label_of (ls ++ ms) r ≡ label_of ls r
label_more ls ms [] h = refl
label_more ls ms (Own n ∷ r) h = ap (atom n) (label_more ls ms r h)
label_more ls ms (Over k ∷ r) h =
    ap (λ (u : Label). over u (label_of (ls ++ ms) r)) (get_or_append_left ls ms none k h.0)
    ∙ ap (over (slice_index_or ls k none)) (label_more ls ms r h.1)
label_more ls ms (Under k ∷ r) h =
    ap (λ (u : Label). under u (label_of (ls ++ ms) r)) (get_or_append_left ls ms none k h.0)
    ∙ ap (under (slice_index_or ls k none)) (label_more ls ms r h.1)

pub known_more : (n m : ℕ) (r : List Letter) → n ≤ m → AreKnown n r → AreKnown m r
known_more n m [] l h = tt
known_more n m (Own k ∷ r) l h = known_more n m r l h
known_more n m (Over k ∷ r) l h = let a = h.0 in ((omega arith), known_more n m r l h.1)
known_more n m (Under k ∷ r) l h = let a = h.0 in ((omega arith), known_more n m r l h.1)

pub known_append : (n : ℕ) (r s : List Letter) → AreKnown n r → AreKnown n s → AreKnown n (r ++ s)
known_append n [] s h g = g
known_append n (Own k ∷ r) s h g = known_append n r s h g
known_append n (Over k ∷ r) s h g = (h.0, known_append n r s h.1 g)
known_append n (Under k ∷ r) s h g = (h.0, known_append n r s h.1 g)

pub label_append : (ls : List Label) (r s : List Letter) → label_of ls (r ++ s) ≡ joined (label_of ls r) (label_of ls s)
label_append ls [] s = refl
label_append ls (Own k ∷ r) s = ap (atom k) (label_append ls r s)
label_append ls (Over k ∷ r) s = ap (over (slice_index_or ls k none)) (label_append ls r s)
label_append ls (Under k ∷ r) s = ap (under (slice_index_or ls k none)) (label_append ls r s)

pub label_letters : (ls : List Label) (r : List Letter) → letters (label_of ls r) ≡ length r
label_letters ls [] = refl
label_letters ls (Own k ∷ r) = let e = label_letters ls r in omega arith
label_letters ls (Over k ∷ r) = let e = label_letters ls r in omega arith
label_letters ls (Under k ∷ r) = let e = label_letters ls r in omega arith

-- ---- different degrees have different places

pub in_get : (ls : List Label) (k : ℕ) → k < length ls → IsIn (slice_index_or ls k none) ls
in_get [] k l = absurd (omega arith)
in_get (x ∷ ls) zero l = inl refl
in_get (x ∷ ls) (suc k) l = inr (in_get ls k (omega arith))

one_place : (ls : List Label) → AreDifferent ls → (j k : ℕ) → j < length ls → k < length ls →
    slice_index_or ls j none ≡ slice_index_or ls k none → j ≡ k
one_place [] d j k l m e = absurd (omega arith)
one_place (x ∷ ls) d zero zero l m e = refl
one_place (x ∷ ls) d zero (suc k) l m e =
    absurd (d.0 (subst (λ (u : Label). IsIn u ls) (sym e) (in_get ls k (omega arith))))
one_place (x ∷ ls) d (suc j) zero l m e =
    absurd (d.0 (subst (λ (u : Label). IsIn u ls) e (in_get ls j (omega arith))))
one_place (x ∷ ls) d (suc j) (suc k) l m e = ap suc (one_place ls d.1 j k (omega arith) (omega arith) e)

none_atom : (n : ℕ) (v : Label) → none ≡ atom n v → ⊥
none_atom n v e = cc

none_over : (u v : Label) → none ≡ over u v → ⊥
none_over u v e = cc

none_under : (u v : Label) → none ≡ under u v → ⊥
none_under u v e = cc

atom_over : (n : ℕ) (w u v : Label) → atom n w ≡ over u v → ⊥
atom_over n w u v e = cc

atom_under : (n : ℕ) (w u v : Label) → atom n w ≡ under u v → ⊥
atom_under n w u v e = cc

over_under : (x w u v : Label) → over x w ≡ under u v → ⊥
over_under x w u v e = cc

same_atoms : (n m : ℕ) (u v : Label) → atom n u ≡ atom m v → (n ≡ m) × (u ≡ v)
same_atoms n m u v e = ((cc), (cc))

same_overs : (x y u v : Label) → over x u ≡ over y v → (x ≡ y) × (u ≡ v)
same_overs x y u v e = ((cc), (cc))

same_unders : (x y u v : Label) → under x u ≡ under y v → (x ≡ y) × (u ≡ v)
same_unders x y u v e = ((cc), (cc))

module _ (ls : List Label) (d : AreDifferent ls) where
  pub one_row : (r s : List Letter) → AreKnown (length ls) r → AreKnown (length ls) s → label_of ls r ≡ label_of ls s →
      r ≡ s
  one_row [] [] h g e = refl
  one_row [] (Own k ∷ s) h g e = absurd (none_atom _ _ e)
  one_row [] (Over k ∷ s) h g e = absurd (none_over _ _ e)
  one_row [] (Under k ∷ s) h g e = absurd (none_under _ _ e)
  one_row (Own j ∷ r) [] h g e = absurd (none_atom _ _ (sym e))
  one_row (Own j ∷ r) (Own k ∷ s) h g e =
      let q = same_atoms j k (label_of ls r) (label_of ls s) e in
      ap (λ (j : ℕ). Own j ∷ r) q.0 ∙ ap (λ (r : List Letter). Own k ∷ r) (one_row r s h g q.1)
  one_row (Own j ∷ r) (Over k ∷ s) h g e = absurd (atom_over _ _ _ _ e)
  one_row (Own j ∷ r) (Under k ∷ s) h g e = absurd (atom_under _ _ _ _ e)
  one_row (Over j ∷ r) [] h g e = absurd (none_over _ _ (sym e))
  one_row (Over j ∷ r) (Own k ∷ s) h g e = absurd (atom_over _ _ _ _ (sym e))
  one_row (Over j ∷ r) (Over k ∷ s) h g e =
      let q = same_overs (slice_index_or ls j none) (slice_index_or ls k none) (label_of ls r) (label_of ls s) e in
      ap (λ (j : ℕ). Over j ∷ r) (one_place ls d j k h.0 g.0 q.0)
      ∙ ap (λ (r : List Letter). Over k ∷ r) (one_row r s h.1 g.1 q.1)
  one_row (Over j ∷ r) (Under k ∷ s) h g e = absurd (over_under _ _ _ _ e)
  one_row (Under j ∷ r) [] h g e = absurd (none_under _ _ (sym e))
  one_row (Under j ∷ r) (Own k ∷ s) h g e = absurd (atom_under _ _ _ _ (sym e))
  one_row (Under j ∷ r) (Over k ∷ s) h g e = absurd (over_under _ _ _ _ (sym e))
  one_row (Under j ∷ r) (Under k ∷ s) h g e =
      let q = same_unders (slice_index_or ls j none) (slice_index_or ls k none) (label_of ls r) (label_of ls s) e in
      ap (λ (j : ℕ). Under j ∷ r) (one_place ls d j k h.0 g.0 q.0)
      ∙ ap (λ (r : List Letter). Under k ∷ r) (one_row r s h.1 g.1 q.1)

-- ---- the table

pub different_more : (ls : List Label) (d : Label) → AreDifferent ls → (IsIn d ls → ⊥) → AreDifferent (ls ++ d ∷ [])
different_more [] d h n = ((λ z. z), tt)
different_more (x ∷ ls) d h n = (
  (λ z. elim (in_cases x ls (d ∷ []) z) [
    | inl j ↦ h.0 j
    | inr j ↦ n (inl (sym (only x d j)))
  ]),
  different_more ls d h.1 (λ z. n (inr z)),
)

pub read_more : (ls : List Label) (rs : List (List Letter)) (r : List Letter) →
    read ls (rs ++ r ∷ []) ≡ read ls rs ++ label_of (read ls rs) r ∷ []
read_more ls [] r = refl
read_more ls (s ∷ rs) r = read_more (ls ++ label_of ls s ∷ []) rs r

got_only : (r s : List Letter) (q : ℕ) → slice_get (r ∷ []) q ≡ Some s → (q ≡ 0) × (s ≡ r)
got_only r s zero e = (refl, sym (same_some e))
got_only r s (suc q) e = absurd (cc)

module _ (rows : List (List Letter)) (ls : List Label) (t : AreDegrees rows ls) (r : List Letter)
    (k : AreKnown (length ls) r) where
  length_after : length ls ≤ length (ls ++ label_of ls r ∷ [])
  length_after = omega (arith, length-append {A = Label})

  pub one_more : (IsIn (label_of ls r) ls → ⊥) → suc (length rows) < 2 ^ 32 →
      AreDegrees (rows ++ r ∷ []) (ls ++ label_of ls r ∷ [])
  one_more n f = record {
    few = (let e = length-append rows (r ∷ []) in omega arith);
    many = (let e = length-append rows (r ∷ []) in let g = length-append ls (label_of ls r ∷ []) in
        let m = t.many in omega arith);
    different = different_more ls (label_of ls r) t.different n;
    known = λ j s e. known_of j s (got_append rows (r ∷ []) j s e);
    each = λ j s e. each_of j s (got_append rows (r ∷ []) j s e);
  }
    where
      known_of : (j : ℕ) (s : List Letter) → (slice_get rows j ≡ Some s)
          ⊎ ((q : ℕ) × (j ≡ length rows + q) × (slice_get (r ∷ []) q ≡ Some s)) →
          AreKnown (length (ls ++ label_of ls r ∷ [])) s
      known_of j s (inl e) = known_more (length ls) (length (ls ++ label_of ls r ∷ [])) s length_after (t.known j s e)
      known_of j s (inr (q, i, e)) = subst (λ (s : List Letter). AreKnown (length (ls ++ label_of ls r ∷ [])) s)
          (sym (got_only r s q e).1) (known_more (length ls) (length (ls ++ label_of ls r ∷ [])) r length_after k)

      each_of : (j : ℕ) (s : List Letter) → (slice_get rows j ≡ Some s)
          ⊎ ((q : ℕ) × (j ≡ length rows + q) × (slice_get (r ∷ []) q ≡ Some s)) →
          slice_get (ls ++ label_of ls r ∷ []) j ≡ Some (label_of (ls ++ label_of ls r ∷ []) s)
      each_of j s (inl e) = got_left ls (label_of ls r ∷ []) j (label_of ls s) (t.each j s e)
          ∙ ap Some (sym (label_more ls (label_of ls r ∷ []) s (t.known j s e)))
      each_of j s (inr (q, i, e)) =
          let o = got_only r s q e in
          let m = t.many in
          let p : j ≡ length ls = (let z = o.0 in omega arith) in
          ap (λ (j : ℕ). slice_get (ls ++ label_of ls r ∷ []) j) p ∙ got_last ls (label_of ls r)
          ∙ ap Some (sym (label_more ls (label_of ls r ∷ []) r k)
          ∙ ap (λ (s : List Letter). label_of (ls ++ label_of ls r ∷ []) s) (sym o.1))

  in_place : (xs : List Label) (d : Label) → IsIn d xs → (j : ℕ) × (j < length xs) × (slice_get xs j ≡ Some d)
  in_place [] d h = absurd h
  in_place (x ∷ xs) d (inl e) = (0, omega arith, ap Some (sym e))
  in_place (x ∷ xs) d (inr h) = let p = in_place xs d h in let l = p.1 in (suc p.0, omega arith, p.2)

  -- the row isn't among those of the table
  pub not_found : ((j : ℕ) → j < length rows → slice_get rows j ≡ Some r → ⊥) → IsIn (label_of ls r) ls → ⊥
  not_found n h =
      let p = in_place ls (label_of ls r) h in
      let m = t.many in
      let l = p.1 in
      let b : p.0 < length rows = omega arith in
      let g = get_there rows p.0 b in
      let e : label_of ls g.0 ≡ label_of ls r = same_some (sym (t.each p.0 g.0 g.1) ∙ p.2) in
      n p.0 b (g.1 ∙ ap Some (one_row ls t.different g.0 r (t.known p.0 g.0 g.1) k e))

pub none_read : AreDegrees [] []
none_read = record {
  few = (let P : ℕ → Type 0 = λ n. 0 < n in omega arith);
  many = refl;
  different = tt;
  known = λ k r e. absurd (cc);
  each = λ k r e. absurd (cc);
}

-- where the code finds the number of a row, and what it adds
found : (rows : List (List Letter)) (t : AreDegrees rows (degrees_of rows)) (r : List Letter)
    (k : AreKnown (length (degrees_of rows)) r) (o : Option ℕ) → IsPlace rows r o →
    IsFound (degrees_of rows) (label_of (degrees_of rows) r) o
found rows t r k (Some j) p = t.each j r p
found rows t r k None p = not_found rows (degrees_of rows) t r k (λ j l e. p j e)

pub found_by : (rows held : List (List Letter)) → rows ≡ held → AreDegrees held (degrees_of held) → (r : List Letter) →
    AreKnown (length (degrees_of rows)) r → (o : Option ℕ) → IsPlace held r o →
    IsFound (degrees_of rows) (label_of (degrees_of rows) r) o
found_by rows held e t r k o p =
    found rows (subst (λ (held : List (List Letter)). AreDegrees held (degrees_of held)) (sym e) t) r k o
    (subst (λ (held : List (List Letter)). IsPlace held r o) (sym e) p)

pub noted_there : (rows after : List (List Letter)) (r : List Letter) (k : ℕ) (o : Option ℕ) → after ≡ rows →
    IsFound (degrees_of rows) (label_of (degrees_of rows) r) o → o ≡ Some k →
    IsNoted (degrees_of rows) (label_of (degrees_of rows) r) k (degrees_of after)
noted_there rows after r k o e f i =
    inl (ap degrees_of e, subst (λ (o : Option ℕ). IsFound (degrees_of rows) (label_of (degrees_of rows) r) o) i f)

pub noted_last : (rows after : List (List Letter)) (r : List Letter) (k : ℕ) (o : Option ℕ) → after ≡ rows ++ r ∷ [] →
    AreDegrees rows (degrees_of rows) → IsFound (degrees_of rows) (label_of (degrees_of rows) r) o → o ≡ None →
    k ≡ length rows → IsNoted (degrees_of rows) (label_of (degrees_of rows) r) k (degrees_of after)
noted_last rows after r k o e t f i j =
    inr (
      subst (λ (o : Option ℕ). IsFound (degrees_of rows) (label_of (degrees_of rows) r) o) i f,
      ap degrees_of e ∙ read_more [] rows r,
      j ∙ sym t.many,
    )

pub degrees_after : (rows after : List (List Letter)) (r : List Letter) (o : Option ℕ) → after ≡ rows ++ r ∷ [] →
    AreDegrees rows (degrees_of rows) → AreKnown (length (degrees_of rows)) r →
    IsFound (degrees_of rows) (label_of (degrees_of rows) r) o → o ≡ None → suc (length rows) < 2 ^ 32 →
    AreDegrees after (degrees_of after)
degrees_after rows after r o e t k f i l =
    subst (λ (a : List (List Letter)). AreDegrees a (degrees_of a)) (sym e)
    (subst (λ (ls : List Label). AreDegrees (rows ++ r ∷ []) ls) (sym (read_more [] rows r))
    (one_more rows (degrees_of rows) t r k
    (subst (λ (o : Option ℕ). IsFound (degrees_of rows) (label_of (degrees_of rows) r) o) i f) l))

pub rows_more : (rows : List (List Letter)) (r : List Letter) → length (rows ++ r ∷ []) ≡ suc (length rows)
rows_more rows r = let e = length-append rows (r ∷ []) in omega arith

-- the same, where the row is compared as a slice
module _ (rows held after : List (List Letter)) (r s : List Letter) (o : Option ℕ) (v : rows ≡ held)
    (t : AreDegrees held (degrees_of held)) (q : s ≡ r)
    (f : IsFound (degrees_of rows) (label_of (degrees_of rows) s) o) where
  held_here : AreDegrees rows (degrees_of rows)
  held_here = subst (λ (held : List (List Letter)). AreDegrees held (degrees_of held)) (sym v) t

  found_here : IsFound (degrees_of rows) (label_of (degrees_of rows) r) o
  found_here = subst (λ (s : List Letter). IsFound (degrees_of rows) (label_of (degrees_of rows) s) o) q f

  pub table_after : AreKnown (length (degrees_of rows)) r → o ≡ None → after ≡ held ++ r ∷ [] →
      suc (length held) < 2 ^ 32 → AreDegrees after (degrees_of after)
  table_after k i e l =
      degrees_after rows after r o (e ∙ ap (λ (h : List (List Letter)). h ++ r ∷ []) (sym v)) held_here k found_here i
      (subst (λ (h : List (List Letter)). suc (length h) < 2 ^ 32) (sym v) l)

  pub noted_new : (k : ℕ) → o ≡ None → after ≡ held ++ r ∷ [] → k ≡ length held →
      IsNoted (degrees_of rows) (label_of (degrees_of rows) r) k (degrees_of after)
  noted_new k i e l =
      noted_last rows after r k o (e ∙ ap (λ (h : List (List Letter)). h ++ r ∷ []) (sym v)) held_here found_here i
      (l ∙ ap (λ (h : List (List Letter)). length h) (sym v))
