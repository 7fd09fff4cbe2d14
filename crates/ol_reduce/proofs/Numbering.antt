-- Numbers and ranks of the nodes that are left.
use Rattle.std.proofs.Common.{◌≡◌, ◌≢◌, ℕ, zero, suc, ◌+◌, ◌-◌, ◌*◌, ◌/◌, ◌%◌, ◌<◌, ◌≤◌, Bool, true, false, not, nat_lt}
use Rattle.std.proofs.Common.{lt-ltb, if◌then◌else◌, List, [], ◌∷◌, ◌++◌, length, length-set, get_or-set_same}
use Rattle.std.proofs.Common.{get_or-set_other, slice_index, slice_set, get_or, Some, None, ◌⊎◌, inl, inr, ◌↔◌, refl}
use Rattle.std.proofs.Common.{sym, ap, ◌∙◌, subst, arith}
use Rattle.std.specs.Prelude.{slice_get, replicate}
use Rattle.std.proofs.lemmas.Bool.{cases_eq, cases_lt, false≢true, not-true, not-false}
use Rattle.std.proofs.lemmas.Bool.Decides.{nat_tests}
use Rattle.std.proofs.lemmas.List.{length-append, get_or_default}
use Rattle.ol_rules.specs.declared.journal.NodeName.{NodeName}
use Rattle.ol_rules.specs.declared.journal.NodeName.TheVariants.{Init, Born}
use Rattle.ol_rules.specs.declared.journal.Entry.{Entry}
use Rattle.ol_wire.specs.declared.layout.Parts.{Parts}
use Rattle.ol_wire.specs.Layout.{place_of, IsPlaced}
use Rattle.ol_wire.specs.Closed.{ClosedTable, events_in, event_at, journal_in}
use Rattle.ol_wire.specs.Events.{entry_of}
use Rattle.ol_wire.specs.Standing.{IsUntouched, IsMadeNode}
use Rattle.ol_reduce.proofs.Births.{length_each}
use Rattle.ol_reduce.proofs.Filled.{at_front, at_end}
use Rattle.ol_wire.proofs.InWords.Claimed.{wider}
use Rattle.ol_reduce.specs.Left.{rank_of, name_of_rank, ranks_in, IsLeft, IsNamedBefore, AreMarked, AreLeft}
use Rattle.ol_reduce.specs.Left.{IsMarkedToo}

pub name_of_start : (z : Parts) (r : ℕ) → r < z.nodes → name_of_rank z r ≡ Init r
name_of_start z r lt = ap (λ b. if b then Init r else Born ((r - z.nodes) / 4) ((r - z.nodes) % 4))
    (lt-ltb r z.nodes lt)

name_high : (z : Parts) (r : ℕ) → z.nodes ≤ r → name_of_rank z r ≡ Born ((r - z.nodes) / 4) ((r - z.nodes) % 4)
name_high z r ge = let e : nat_lt r z.nodes ≡ false = grind (arith, nat_tests) in
    ap (λ b. if b then Init r else Born ((r - z.nodes) / 4) ((r - z.nodes) % 4)) e

-- places have the order of ranks
pub place_rises : (z : Parts) (r q : ℕ) → r < q → place_of z (name_of_rank z r) < place_of z (name_of_rank z q)
place_rises z r q lt = elim (cases_lt q z.nodes) [
  | inl b ↦ omega (
    arith,
    ap (place_of z) (name_of_start z r (omega (arith, lt, b))),
    ap (place_of z) (name_of_start z q b),
    lt,
  )
  | inr b ↦ elim (cases_lt r z.nodes) [
    | inl a ↦ omega (arith, ap (place_of z) (name_of_start z r a), ap (place_of z) (name_high z q b), a)
    | inr a ↦ omega (arith, ap (place_of z) (name_high z r a), ap (place_of z) (name_high z q b), a, b, lt)
  ]
]

pub name_back : (z : Parts) (x : NodeName) (n : ℕ) → IsPlaced z n x → name_of_rank z (rank_of z x) ≡ x
name_back z (Init k) n lt = name_of_start z k lt
name_back z (Born t i) n h =
    let q : (z.nodes + 4 * t + i - z.nodes) / 4 ≡ t = omega (arith, h.1) in
    let m : (z.nodes + 4 * t + i - z.nodes) % 4 ≡ i = omega (arith, h.1) in
    name_high z (z.nodes + 4 * t + i) (omega arith) ∙ (λ j. Born (q j) (m j))

pub rank_low : (z : Parts) (x : NodeName) (n : ℕ) → IsPlaced z n x → rank_of z x < z.nodes + 4 * n
rank_low z (Init k) n lt = omega (arith, lt)
rank_low z (Born t i) n h = omega (arith, h.0, h.1)

pub name_placed : (z : Parts) (n r : ℕ) → r < z.nodes + 4 * n → IsPlaced z n (name_of_rank z r)
name_placed z n r lt = elim (cases_lt r z.nodes) [
  | inl a ↦ subst (IsPlaced z n) (sym (name_of_start z r a)) a
  | inr a ↦ subst (IsPlaced z n) (sym (name_high z r a)) (omega (arith, lt, a), omega arith)
]

pub rank_back : (z : Parts) (r : ℕ) → rank_of z (name_of_rank z r) ≡ r
rank_back z r = elim (cases_lt r z.nodes) [
  | inl a ↦ ap (rank_of z) (name_of_start z r a)
  | inr a ↦ ap (rank_of z) (name_high z r a)
      ∙ (let e : z.nodes + 4 * ((r - z.nodes) / 4) + (r - z.nodes) % 4 ≡ r = omega (arith, a) in e)
]

-- ---- the next rank

module _ (w : ClosedTable) (n : ℕ) (places numbers : List ℕ) (before : AreLeft w n places numbers) where
  abbrev name : ℕ → NodeName
  name r = name_of_rank w.plan.parts r

  abbrev z : Parts
  z = w.plan.parts

  -- it isn't left
  pub skip : (IsLeft w (name n) → ⊥) → AreLeft w (suc n) places numbers
  skip gone = record {
    long = before.long;
    few = omega (arith, before.few);
    each = λ j lt. let t = before.each j lt in (t.0, omega (arith, t.1), t.2, t.3);
    rising = before.rising;
    found = λ r lt left. elim (cases_eq r n) [
      | inl e ↦ absurd (gone (subst (λ r. IsLeft w (name r)) e left))
      | inr d ↦
          let below : r < n = omega (arith, lt, d) in
          before.found r below left
    ];
  }

  -- it is left
  pub take : (place : ℕ) → place ≡ place_of z (name n) → IsLeft w (name n) → n < length numbers →
      AreLeft w (suc n) (places ++ place ∷ []) (slice_set numbers n (length places + 1))
  take place e left low = record {
    long = length-set numbers n (length places + 1) ∙ before.long;
    few = omega (arith, before.few, length-append places (place ∷ []));
    each = λ j lt. elim (cases_lt j (length places)) [
      | inl a ↦ let t = before.each j a in (t.0, omega (arith, t.1), t.2, at_front places (place ∷ []) j a ∙ t.3)
      | inr a ↦ (
        n,
        omega arith,
        left,
        at_end places place j
            (omega (arith, a, lt, length-append places (place ∷ []))) ∙ e,
      )
    ];
    rising = λ j k lt ltk. elim (cases_lt k (length places)) [
      | inl a ↦ omega (
        arith,
        before.rising j k lt a,
        at_front places (place ∷ []) j (omega (arith, lt, a)),
        at_front places (place ∷ []) k a,
      )
      | inr a ↦
          let low : j < length places = omega (arith, lt, ltk, length-append places (place ∷ [])) in
          let t = before.each j low in
          omega (
            arith,
            at_front places (place ∷ []) j low,
            t.3,
            place_rises z t.0 n t.1,
            e,
            at_end places place k (omega (arith, a, ltk, length-append places (place ∷ []))),
          )
    ];
    found = λ r lt l. elim (cases_eq r n) [
      | inl d ↦
          let q : slice_index (slice_set numbers n (length places + 1)) r ≡ length places + 1 = ap
          (slice_index (slice_set numbers n (length places + 1))) d
          ∙ get_or-set_same numbers n (length places + 1) 0 low in (
            omega (arith, q),
            omega (arith, q, length-append places (place ∷ [])),
            ap (λ m. slice_index (places ++ place ∷ []) (m - 1)) q
                ∙ at_end places place (length places + 1 - 1) (omega arith) ∙ e ∙ ap (λ r. place_of z (name r)) (sym d),
          )
      | inr d ↦
          let below : r < n = omega (arith, lt, d) in
          let t = before.found r below l in
          let q : slice_index (slice_set numbers n
          (length places + 1)) r ≡ slice_index numbers r = get_or-set_other numbers n r (length places + 1) 0 d in (
            omega (arith, t.0, q),
            omega (arith, t.1, q, length-append places (place ∷ [])),
            ap (λ m. slice_index (places ++ place ∷ []) (m - 1)) q
                ∙ at_front places (place ∷ []) (slice_index numbers r - 1) (omega (arith, t.0, t.1)) ∙ t.2,
          )
    ];
  }

  pub added : (b : Bool) (place : ℕ) (places' numbers' : List ℕ) → place ≡ place_of z (name n) →
      (b ≡ true → IsLeft w (name n)) → (b ≡ false → IsLeft w (name n) → ⊥)
      → places' ≡ (if b then places ++ place ∷ [] else places) → n < length numbers →
      numbers' ≡ (if b then slice_set numbers n (length places + 1) else numbers) →
      AreLeft w (suc n) places' numbers'
  added true place places' numbers' e is not p low q = subst (λ ps. AreLeft w (suc n) ps numbers')
      (sym p) (subst (λ ns. AreLeft w (suc n) (places ++ place ∷ []) ns) (sym q) (take place e (is refl) low))
  added false place places' numbers' e is not p low q = subst (λ ps. AreLeft w (suc n) ps numbers')
      (sym p) (subst (λ ns. AreLeft w (suc n) places ns) (sym q) (skip (not refl)))

-- ---- what the marks tell

pub unmarked : (w : ClosedTable) (marks : List Bool) (x : NodeName) →
    AreMarked w (events_in w.plan.parts w.words) marks →
    IsPlaced w.plan.parts (events_in w.plan.parts w.words) x →
    slice_get marks (rank_of w.plan.parts x) ≡ Some false → (t : ℕ) (e : Entry) →
    slice_get (journal_in w.plan.parts w.words) t ≡ Some e → t < events_in w.plan.parts w.words →
    (e.first ≢ x) × (e.second ≢ x)
unmarked w marks x m p f t e h lt = (
  (λ q. clash ((m.marked x p).1 (t, e, lt, h, inl q))),
  (λ q. clash ((m.marked x p).1 (t, e, lt, h, inr q))),
)
  where
    clash : slice_get marks (rank_of w.plan.parts x) ≡ Some true → ⊥
    clash g = let q : Some true ≡ Some false = sym g ∙ f in cc

pub drawn_below : (w : ClosedTable) (t : ℕ) (e : Entry) →
    slice_get (journal_in w.plan.parts w.words) t ≡ Some e → t < events_in w.plan.parts w.words
drawn_below w t e h = elim (cases_lt t (events_in w.plan.parts w.words)) [
  | inl a ↦ a
  | inr a ↦ absurd (let q : None ≡ Some e = sym
      (past (journal_in w.plan.parts w.words) t
      (omega (
        arith,
        a,
        length_each (λ t. entry_of w.plan.parts (event_at w.plan.parts w.words t))
            (events_in w.plan.parts w.words),
      ))) ∙ h in cc)
]
  where
    past : (es : List Entry) (t : ℕ) → length es ≤ t → slice_get es t ≡ None
    past [] t le = refl
    past (e ∷ es) zero le = absurd (omega arith)
    past (e ∷ es) (suc t) le = past es t (omega arith)

module _ (w : ClosedTable) (marks : List Bool)
    (m : AreMarked w (events_in w.plan.parts w.words) marks) (x : NodeName)
    (placed : IsPlaced w.plan.parts (events_in w.plan.parts w.words) x) where
  -- a node that isn't marked is untouched, and one that is marked isn't left
  pub is_untouched : slice_get marks (rank_of w.plan.parts x) ≡ Some false → IsUntouched w.plan.parts w.words x
  is_untouched f t e h = unmarked w marks x m placed f t e h (drawn_below w t e h)

  pub is_gone : slice_get marks (rank_of w.plan.parts x) ≡ Some true → IsLeft w x → ⊥
  is_gone f left = let t = (m.marked x placed).0 f in go t.0 t.1 t.3 t.4
    where
      go : (t : ℕ) (e : Entry) → slice_get (journal_in w.plan.parts w.words) t ≡ Some e →
          (e.first ≡ x) ⊎ (e.second ≡ x) → ⊥
      go t e h (inl q) = (left.1 t e h).0 q
      go t e h (inr q) = (left.1 t e h).1 q

-- none is marked at first
get_replicate : (n r : ℕ) → slice_get (replicate n false) r ≡ Some true → ⊥
get_replicate zero r h = let q : None ≡ Some true = h in cc
get_replicate (suc n) zero h = let q : Some false ≡ Some true = h in absurd (false≢true (cc))
get_replicate (suc n) (suc r) h = get_replicate n r h

abbrev pub IsMarkedWith : ClosedTable → List Bool → NodeName → List Bool → Type 0
IsMarkedWith w old name new = IsMarkedToo w.plan.parts (events_in w.plan.parts w.words) old name new

-- the parts and the number of events as the code has them
pub marked_told : (w : ClosedTable) (z : Parts) (n : ℕ) (old new : List Bool) (name : NodeName) →
    z ≡ w.plan.parts → n ≡ events_in w.plan.parts w.words → IsMarkedToo z n old name new → IsMarkedWith w old name new
marked_told w z n old new name e f h = subst
    (λ z. IsMarkedToo z (events_in w.plan.parts w.words) old name new) e (subst (λ n. IsMarkedToo z n old name new) f h)

pub more_marked : (w : ClosedTable) (t : ℕ) (marks one two : List Bool) (e : Entry) →
    AreMarked w t marks → slice_get (journal_in w.plan.parts w.words) t ≡ Some e
    → length two ≡ length marks → IsMarkedWith w marks e.first one →
    IsMarkedWith w one e.second two → AreMarked w (t + 1) two
more_marked w t marks one two e m at long first second = record {
  long = long ∙ m.long;
  marked = λ x p. (to x p, from x p);
}
  where
    rank : NodeName → ℕ
    rank x = rank_of w.plan.parts x

    to : (x : NodeName) → IsPlaced w.plan.parts (events_in w.plan.parts w.words) x →
        slice_get two (rank_of w.plan.parts x) ≡ Some true → IsNamedBefore w (t + 1) x
    to x p h = go ((second x p).0 h)
      where
        early : (slice_get marks (rank_of w.plan.parts x) ≡ Some true) ⊎ (e.first ≡ x) → IsNamedBefore w (t + 1) x
        early (inl h) = let u = (m.marked x p).0 h in (u.0, u.1, omega (arith, u.2), u.3, u.4)
        early (inr q) = (t, e, omega arith, at, inl q)

        go : (slice_get one (rank_of w.plan.parts x) ≡ Some true) ⊎ (e.second ≡ x) → IsNamedBefore w (t + 1) x
        go (inl h) = early ((first x p).0 h)
        go (inr q) = (t, e, omega arith, at, inr q)

    from : (x : NodeName) → IsPlaced w.plan.parts (events_in w.plan.parts w.words) x →
        IsNamedBefore w (t + 1) x → slice_get two (rank_of w.plan.parts x) ≡ Some true
    from x p h = elim (cases_eq h.0 t) [
      | inr d ↦ (second x p).1 (inl ((first x p).1
          (inl ((m.marked x p).1 (h.0, h.1, omega (arith, h.2, d), h.3, h.4)))))
      | inl q ↦ now (let s : Some h.1 ≡ Some e = sym h.3
          ∙ ap (slice_get (journal_in w.plan.parts w.words)) q ∙ at in let r : h.1 ≡ e = cc in r) h.4
    ]
      where
        now : h.1 ≡ e → (h.1.first ≡ x) ⊎ (h.1.second ≡ x) → slice_get two (rank_of w.plan.parts x) ≡ Some true
        now q (inl f) = (second x p).1 (inl ((first x p).1 (inr (sym (ap (λ (e : Entry). e.first) q) ∙ f))))
        now q (inr f) = (second x p).1 (inr (sym (ap (λ (e : Entry). e.second) q) ∙ f))

-- ---- turns of the loops

got_read : (xs : List Bool) (r : ℕ) (b : Bool) → r < length xs → b ≡ get_or xs r b → slice_get xs r ≡ Some b
got_read [] r b lt e = absurd (omega arith)
got_read (x ∷ xs) zero b lt e = ap (λ b. Some b) (sym e)
got_read (x ∷ xs) (suc r) b lt e = got_read xs r b (omega arith) e

module _ (w : ClosedTable) (marks : List Bool)
    (m : AreMarked w (events_in w.plan.parts w.words) marks) (n : ℕ) (low : n < ranks_in w)
    (x : NodeName) (is : name_of_rank w.plan.parts n ≡ x)
    (places numbers places' numbers' : List ℕ) (before : AreLeft w n places numbers) (place : ℕ)
    (at : place ≡ place_of w.plan.parts x) (b : Bool)
    (more : places' ≡ (if b then places ++ place ∷ [] else places)) (spot : ℕ) (here : spot ≡ n)
    (number : numbers' ≡ (if b then slice_set numbers spot (length places + 1) else numbers)) where
  low_spot : n < length numbers
  low_spot = omega (arith, low, before.long)

  number_here : numbers' ≡ (if b then slice_set numbers n (length places + 1) else numbers)
  number_here = number ∙ ap (λ r. if b then slice_set numbers r (length places + 1) else numbers) here

  placed : IsPlaced w.plan.parts (events_in w.plan.parts w.words) x
  placed = subst (IsPlaced w.plan.parts (events_in w.plan.parts w.words)) is
      (name_placed w.plan.parts (events_in w.plan.parts w.words) n low)

  rank : rank_of w.plan.parts x ≡ n
  rank = ap (rank_of w.plan.parts) (sym is) ∙ rank_back w.plan.parts n

  -- it was made, and the mark tells whether it is left
  pub by_mark : (mark : Bool) → mark ≡ get_or marks n mark → b ≡ not mark →
      IsMadeNode w.plan.parts w.words x → AreLeft w (suc n) places' numbers'
  by_mark mark e q made = added w n places numbers before b place places' numbers'
      (at ∙ ap (place_of w.plan.parts) (sym is)) left gone more low_spot number_here
    where
      read : slice_get marks (rank_of w.plan.parts x) ≡ Some mark
      read = ap (slice_get marks) rank ∙ got_read marks n mark (omega (arith, low, m.long)) e

      left : b ≡ true → IsLeft w (name_of_rank w.plan.parts n)
      left h = subst (IsLeft w) (sym is) (
        made,
        is_untouched w marks m x placed (read ∙ ap (λ b. Some b) (not-true mark (sym q ∙ h))),
      )

      gone : b ≡ false → IsLeft w (name_of_rank w.plan.parts n) → ⊥
      gone h l = is_gone w marks m x placed (read ∙ ap (λ b. Some b) (not-false mark (sym q ∙ h)))
          (subst (IsLeft w) is l)

  -- it wasn't made
  pub by_births : b ≡ false → (IsMadeNode w.plan.parts w.words x → ⊥) → AreLeft w (suc n) places' numbers'
  by_births q none = added w n places numbers before b place places' numbers'
      (at ∙ ap (place_of w.plan.parts) (sym is)) (λ h. absurd (false≢true (sym q ∙ h)))
      (λ h l. none (subst (IsLeft w) is l).0) more low_spot number_here

pub name_of_born : (z : Parts) (t p : ℕ) → p < 4 → name_of_rank z (z.nodes + 4 * t + p) ≡ Born t p
name_of_born z t p lt = name_back z (Born t p) (suc t) (omega arith, lt)

-- the number of a node that is left
pub number_told : (w : ClosedTable) (places numbers : List ℕ) →
    AreLeft w (ranks_in w) places numbers → (x : NodeName) →
    IsPlaced w.plan.parts (events_in w.plan.parts w.words) x → IsLeft w x → (rank number : ℕ)
    → rank ≡ rank_of w.plan.parts x → number ≡ get_or numbers rank number →
    (0 < number) × (number - 1 < length places) × (slice_index places (number - 1) ≡ place_of w.plan.parts x)
number_told w places numbers h x p l rank number e read =
    let low = rank_low w.plan.parts x (events_in w.plan.parts w.words) p in
    let back = name_back w.plan.parts x (events_in w.plan.parts w.words) p in
    let t = h.found (rank_of w.plan.parts x) low (subst (IsLeft w) (sym back) l) in
    let q : number ≡ slice_index numbers (rank_of w.plan.parts x) = read
    ∙ get_or_default numbers rank number 0 (omega (arith, e, low, h.long)) ∙ ap (slice_index numbers) e in (
      omega (arith, t.0, q),
      omega (arith, t.0, t.1, q),
      ap (λ n. slice_index places (n - 1)) q ∙ t.2
          ∙ ap (place_of w.plan.parts) back,
    )

-- the same, by the parts and the rank as the code has them
pub number_read : (w : ClosedTable) (places numbers : List ℕ) →
    AreLeft w (ranks_in w) places numbers → events_in w.plan.parts w.words ≤ w.plan.parts.fuel → (place : ℕ)
    → (x : NodeName) × IsPlaced w.plan.parts (events_in w.plan.parts w.words) x × IsLeft w x
    × (place ≡ place_of w.plan.parts x) → (z : Parts) → z ≡ w.plan.parts → (rank : ℕ)
    → ((x : NodeName) → IsPlaced z z.fuel x → place ≡ place_of z x → rank ≡ rank_of z x) →
    (number : ℕ) → number ≡ get_or numbers rank number
    → (0 < number) × (number - 1 < length places) × (slice_index places (number - 1) ≡ place)
number_read w places numbers h few place n z e rank told number read =
    let placed = subst (λ (z : Parts). IsPlaced z z.fuel n.0) (sym e)
    (wider w.plan.parts n.0 (events_in w.plan.parts w.words) w.plan.parts.fuel few n.1) in
    let r = told n.0 placed (n.3 ∙ ap (λ (z : Parts). place_of z n.0) (sym e)) ∙ ap (λ (z : Parts). rank_of z n.0) e in
    let t = number_told w places numbers h n.0 n.1 n.2 rank number r read in
    (t.0, t.1, t.2 ∙ sym n.3)
