-- The counts of each wave, entry by entry.
use Rattle.std.proofs.Common.{◌≡◌, ℕ, zero, suc, ◌+◌, ◌<◌, ◌≤◌, Bool, true, false, cond, List, [], ◌∷◌, ◌++◌, length}
use Rattle.std.proofs.Common.{take, Some, refl, sym, ap, ◌∙◌, subst, arith, ◌⊎◌, inl, inr, max, eqb-true, append_assoc}
use Rattle.std.proofs.lemmas.List.{append-nil, take_all, get_or_push, get_or-set_same, get_or-set_other}
use Rattle.std.proofs.lemmas.List.{length_push, length-set, length-take-le}
use Rattle.std.proofs.lemmas.Bool.{cases_lt, eqb-false}
use Rattle.std.proofs.lemmas.List.Sums.{sum_by-cons}
use Rattle.std.specs.Prelude.{slice_get, slice_set, nat_eq}
use Rattle.ol_net.specs.declared.parts.Rule.{Rule}
use Rattle.ol_net.specs.declared.parts.Rule.TheVariants as rule
use Rattle.ol_rules.specs.declared.journal.Entry.{Entry}
use Rattle.ol_rules.specs.declared.journal.Counts.{Counts}
use Rattle.ol_rules.specs.Counting.{is_rule, times_applied, counts_of}
use Rattle.ol_rules.specs.Counted.{one_if, counted, HaveRoom}
use Rattle.ol_rules.proofs.EntryCounts.{more_counted, have_room}
use Rattle.ol_counts.specs.Waves.{in_wave, width, last_wave, IsWidest, row_text, wave_rows, header_text}
use Rattle.ol_counts.specs.Waves.{widest_text, mean_text, totals_text, IsTable, of_waves}
use Rattle.ol_counts.specs.CountsOfWaves.{tally_at, AreTallied, IsWidestBelow, rows_text}
use Rattle.ol_counts.specs.Sums.{interactions}

-- ---- counts of a list

take_front : (es fs : List Entry) → take (length es) (es ++ fs) ≡ es
take_front [] fs = refl
take_front (e ∷ es) fs = ap (λ (es : List Entry). e ∷ es) (take_front es fs)

counts_push : (es : List Entry) (e : Entry) → counts_of (es ++ e ∷ []) ≡ counted (counts_of es) e.rule
counts_push es e =
    let j = es ++ e ∷ [] in
    let l : length j ≡ length es + 1 = length_push es e in
    let lt : length es < length j = omega arith in
    sym (more_counted j (length es) e (counts_of es) lt (sym (get_or_push es e e (length es) refl))
    (ap counts_of (sym (take_front es (e ∷ [])))) ∙ ap counts_of (take_all (length es + 1) j (omega arith)))

-- there is room for one more
pub room_of : (es : List Entry) (e : Entry) → length es < 4294967295 → HaveRoom (counts_of es)
room_of es e small =
    let j = es ++ e ∷ [] in
    let l : length j ≡ length es + 1 = length_push es e in
    have_room j (length es) (counts_of es) (omega arith) (ap counts_of (sym (take_front es (e ∷ [])))) small

-- each entry has one rule
one_rule : (r : Rule) → one_if (is_rule r rule.Beta) + one_if (is_rule r rule.Fan)
    + one_if (is_rule r rule.Croissant) + one_if (is_rule r rule.Bracket)
    + one_if (is_rule r rule.CrossFan) + one_if (is_rule r rule.CrossCroissant)
    + one_if (is_rule r rule.CrossBracket) + one_if (is_rule r rule.Erase) ≡ 1
one_rule rule.Beta = refl
one_rule rule.Fan = refl
one_rule rule.Croissant = refl
one_rule rule.Bracket = refl
one_rule rule.CrossFan = refl
one_rule rule.CrossCroissant = refl
one_rule rule.CrossBracket = refl
one_rule rule.Erase = refl

applied_cons : (e : Entry) (es : List Entry) (r : Rule) →
    times_applied r (e ∷ es) ≡ one_if (is_rule e.rule r) + times_applied r es
applied_cons e es r = sum_by-cons (λ (e : Entry). cond (is_rule e.rule r) 1 0) e es

add_up : (a b c d e f g h a' b' c' d' e' f' g' h' a'' b'' c'' d'' e'' f'' g'' h'' n : ℕ) →
    a' + b' + c' + d' + e' + f' + g' + h' ≡ 1 →
    a'' + b'' + c'' + d'' + e'' + f'' + g'' + h'' ≡ n →
    a ≡ a' + a'' → b ≡ b' + b'' → c ≡ c' + c'' → d ≡ d' + d'' → e ≡ e' + e'' → f ≡ f' + f'' →
    g ≡ g' + g'' → h ≡ h' + h'' → a + b + c + d + e + f + g + h ≡ suc n
add_up a b c d e f g h a' b' c' d' e' f' g' h' a'' b'' c'' d'' e'' f'' g'' h'' n
    one all p q r s t u v w = omega arith

pub all_counted : (es : List Entry) → interactions (counts_of es) ≡ length es
all_counted [] = refl
all_counted (e ∷ es) =
    let j = e ∷ es in
    let t = λ (r : Rule). times_applied r j in
    let o = λ (r : Rule). one_if (is_rule e.rule r) in
    let u = λ (r : Rule). times_applied r es in
    add_up (t rule.Beta) (t rule.Fan) (t rule.Croissant) (t rule.Bracket) (t rule.CrossFan)
    (t rule.CrossCroissant) (t rule.CrossBracket) (t rule.Erase)
    (o rule.Beta) (o rule.Fan) (o rule.Croissant) (o rule.Bracket) (o rule.CrossFan)
    (o rule.CrossCroissant) (o rule.CrossBracket) (o rule.Erase)
    (u rule.Beta) (u rule.Fan) (u rule.Croissant) (u rule.Bracket) (u rule.CrossFan)
    (u rule.CrossCroissant) (u rule.CrossBracket) (u rule.Erase) (length es)
    (one_rule e.rule) (all_counted es)
    (applied_cons e es rule.Beta) (applied_cons e es rule.Fan) (applied_cons e es rule.Croissant)
    (applied_cons e es rule.Bracket) (applied_cons e es rule.CrossFan)
    (applied_cons e es rule.CrossCroissant) (applied_cons e es rule.CrossBracket)
    (applied_cons e es rule.Erase)

-- ---- the entries of a wave

pull : (b : Bool) (d : Entry) (xs ys : List Entry) →
    cond b (d ∷ (xs ++ ys)) (xs ++ ys) ≡ cond b (d ∷ xs) xs ++ ys
pull true d xs ys = refl
pull false d xs ys = refl

-- one entry more
in_wave_on : (w : ℕ) (es : List Entry) (ws : List ℕ) (k : ℕ) (e : Entry) (v : ℕ) →
    slice_get es k ≡ Some e → slice_get ws k ≡ Some v →
    in_wave w (take (suc k) es) (take (suc k) ws)
    ≡ in_wave w (take k es) (take k ws) ++ cond (nat_eq v w) (e ∷ []) []
in_wave_on w [] ws k e v h h' = absurd (cc)
in_wave_on w (d ∷ es) [] k e v h h' = absurd (cc)
in_wave_on w (d ∷ es) (u ∷ ws) zero e v h h' =
    let is : d ≡ e = cc in
    let at : u ≡ v = cc in
    ap (λ (e : Entry). cond (nat_eq u w) (e ∷ []) []) is ∙ ap (λ v. cond (nat_eq v w) (e ∷ []) []) at
in_wave_on w (d ∷ es) (u ∷ ws) (suc k) e v h h' =
    ap (λ xs. cond (nat_eq u w) (d ∷ xs) xs) (in_wave_on w es ws k e v h h')
    ∙ pull (nat_eq u w) d (in_wave w (take k es) (take k ws)) (cond (nat_eq v w) (e ∷ []) [])

in_wave_short : (w : ℕ) (es : List Entry) (ws : List ℕ) → length (in_wave w es ws) ≤ length es
in_wave_short w [] ws = omega arith
in_wave_short w (e ∷ es) [] = omega arith
in_wave_short w (e ∷ es) (v ∷ vs) = go (nat_eq v w) (in_wave_short w es vs)
  where
    go : (b : Bool) → length (in_wave w es vs) ≤ length es →
        length (cond b (e ∷ in_wave w es vs) (in_wave w es vs)) ≤ suc (length es)
    go true h = omega arith
    go false h = omega arith

-- the counts of a wave, one entry later
wave_counts_on : (w : ℕ) (es : List Entry) (ws : List ℕ) (k : ℕ) (e : Entry) (v : ℕ) →
    slice_get es k ≡ Some e → slice_get ws k ≡ Some v →
    counts_of (in_wave w (take (suc k) es) (take (suc k) ws))
    ≡ cond (nat_eq v w) (counted (counts_of (in_wave w (take k es) (take k ws))) e.rule)
    (counts_of (in_wave w (take k es) (take k ws)))
wave_counts_on w es ws k e v h h' =
    ap counts_of (in_wave_on w es ws k e v h h') ∙ go (nat_eq v w) (in_wave w (take k es) (take k ws))
  where
    go : (b : Bool) (xs : List Entry) →
        counts_of (xs ++ cond b (e ∷ []) []) ≡ cond b (counted (counts_of xs) e.rule) (counts_of xs)
    go true xs = counts_push xs e
    go false xs = ap counts_of (append-nil xs)

suc_is : (k : ℕ) → suc k ≡ k + 1
suc_is k = omega arith

-- the counts of a wave among the first entries
abbrev so_far : ℕ → ℕ → List Entry → List ℕ → Counts
so_far w k es ws = counts_of (in_wave w (take k es) (take k ws))

-- one more of a rule in a wave
abbrev with_one : List Counts → ℕ → Rule → List Counts
with_one tallies v r = slice_set tallies v (counted (tally_at tallies v) r)

-- one entry more is counted
pub tallied_on : (tallies new : List Counts) (es : List Entry) (ws : List ℕ) (k : ℕ) (e : Entry)
    (v : ℕ) → slice_get es k ≡ Some e → slice_get ws k ≡ Some v → v < length tallies →
    AreTallied tallies (take k es) (take k ws) →
    new ≡ with_one tallies v e.rule →
    AreTallied new (take (k + 1) es) (take (k + 1) ws)
tallied_on tallies new es ws k e v h h' lt each is w below =
    ap (λ (t : List Counts). tally_at t w) is ∙ go (nat_eq v w) refl
    ∙ sym (wave_counts_on w es ws k e v h h')
    ∙ ap (λ n. so_far w n es ws) (suc_is k)
  where
    go : (b : Bool) → nat_eq v w ≡ b → tally_at (with_one tallies v e.rule) w
        ≡ cond (nat_eq v w) (counted (so_far w k es ws) e.rule) (so_far w k es ws)
    go true q =
        let same : v ≡ w = eqb-true v w q in
        subst (λ u. tally_at (with_one tallies v e.rule) u
        ≡ counted (tally_at tallies v) e.rule) same
        (get_or-set_same tallies v (counted (tally_at tallies v) e.rule) (counts_of []) lt)
        ∙ ap (λ (c : Counts). counted c e.rule) (each v lt
        ∙ ap (λ u. so_far u k es ws) same)
        ∙ ap (λ b. cond b (counted (so_far w k es ws) e.rule) (so_far w k es ws)) (sym q)
    go false q =
        let other : w ≡ v → ⊥ = λ r. eqb-false v w q (sym r) in
        let sized : length new ≡ length tallies = ap (λ (t : List Counts). length t) is
        ∙ length-set tallies v (counted (tally_at tallies v) e.rule) in
        get_or-set_other tallies v w (counted (tally_at tallies v) e.rule) (counts_of []) other
        ∙ each w (omega arith)
        ∙ ap (λ b. cond b (counted (so_far w k es ws) e.rule) (so_far w k es ws)) (sym q)

-- there is room in each of them
pub room_at : (tallies : List Counts) (es : List Entry) (ws : List ℕ) (k : ℕ) (e : Entry) (v : ℕ) →
    v < length tallies → k < 4294967295 → k ≤ length es →
    AreTallied tallies (take k es) (take k ws) → HaveRoom (tally_at tallies v)
room_at tallies es ws k e v lt small le each =
    let s = in_wave_short v (take k es) (take k ws) in
    let t : length (take k es) ≡ k = length-take-le k es le in
    subst HaveRoom (sym (each v lt)) (room_of (in_wave v (take k es) (take k ws)) e (omega arith))

-- ---- the last wave

pub last_on : (ws : List ℕ) (k v : ℕ) → slice_get ws k ≡ Some v →
    last_wave (take (k + 1) ws) ≡ max (last_wave (take k ws)) v
last_on ws k v h = ap (λ n. last_wave (take n ws)) (sym (suc_is k)) ∙ go ws k h
  where
    go : (ws : List ℕ) (k : ℕ) → slice_get ws k ≡ Some v →
        last_wave (take (suc k) ws) ≡ max (last_wave (take k ws)) v
    go [] k h = absurd (cc)
    go (u ∷ us) zero h = let q : u ≡ v = cc in omega arith
    go (u ∷ us) (suc k) h = let q = go us k h in omega arith

pub within_last : (ws : List ℕ) (k v : ℕ) → slice_get ws k ≡ Some v → v ≤ last_wave ws
within_last [] k v h = absurd (cc)
within_last (u ∷ us) zero v h = let q : u ≡ v = cc in omega arith
within_last (u ∷ us) (suc k) v h = let q = within_last us k v h in omega arith

beyond_last : (w : ℕ) (es : List Entry) (ws : List ℕ) → last_wave ws < w → in_wave w es ws ≡ []
beyond_last w [] ws h = refl
beyond_last w (e ∷ es) [] h = refl
beyond_last w (e ∷ es) (v ∷ vs) h = go (nat_eq v w) refl (beyond_last w es vs (omega arith))
  where
    go : (b : Bool) → nat_eq v w ≡ b → in_wave w es vs ≡ [] →
        cond b (e ∷ in_wave w es vs) (in_wave w es vs) ≡ []
    go true q r = let same : v ≡ w = eqb-true v w q in absurd (let f : ⊥ = omega arith in f)
    go false q r = r

-- ---- the widest wave and the lines

-- one line more
pub rows_on : (tallies : List Counts) (k : ℕ) (line : Counts) (old before after : List ℕ) →
    line ≡ tally_at tallies (k + 1) → before ≡ old ++ rows_text tallies k →
    after ≡ before ++ row_text (k + 1) (interactions line) line → after ≡ old ++ rows_text tallies (k + 1)
rows_on tallies k line old before after is was now =
    now ∙ ap (λ (c : Counts). before ++ row_text (k + 1) (interactions c) c) is
    ∙ ap (λ t. t ++ row_text (k + 1) (interactions (tally_at tallies (k + 1))) (tally_at tallies (k + 1))) was
    ∙ append_assoc old (rows_text tallies k)
    (row_text (k + 1) (interactions (tally_at tallies (k + 1))) (tally_at tallies (k + 1)))
    ∙ ap (λ n. old ++ (rows_text tallies k ++ row_text n (interactions (tally_at tallies n)) (tally_at tallies n)))
    (sym (suc_is k))
    ∙ ap (λ n. old ++ rows_text tallies n) (suc_is k)

module _ (tallies : List Counts) (es : List Entry) (ws : List ℕ)
    (sized : length tallies ≡ last_wave ws + 1) (each : AreTallied tallies es ws) where
  pairs_at : (w : ℕ) → w < length tallies → interactions (tally_at tallies w) ≡ width es ws w
  pairs_at w lt = ap interactions (each w lt) ∙ all_counted (in_wave w es ws)

  pub widest_of : (pairs wave : ℕ) → IsWidestBelow tallies (length tallies) pairs wave →
      IsWidest es ws pairs wave
  widest_of pairs wave i = record {
    pairs_are = i.pairs_are ∙ pairs_at wave i.below;
    none_wider = λ w. go w (cases_lt w (length tallies));
    first = λ w lt. (
        let p = pairs_at w (let b = i.below in omega arith) in
        let f = i.first w lt in
        omega arith
        );
  }
    where
      go : (w : ℕ) → (w < length tallies) ⊎ (length tallies ≤ w) → width es ws w ≤ pairs
      go w (inl lt) = let p = pairs_at w lt in let n = i.none_wider w lt in omega arith
      go w (inr ge) =
          let e : width es ws w ≡ 0 = ap (λ (xs : List Entry). length xs)
          (beyond_last w es ws (omega arith)) in
          omega arith

  pub rows_are : (n : ℕ) → n ≤ last_wave ws → rows_text tallies n ≡ wave_rows es ws n
  rows_are zero h = refl
  rows_are (suc n) h =
      let lt : suc n < length tallies = omega arith in
      ap (λ t. t ++ row_text (suc n) (interactions (tally_at tallies (suc n))) (tally_at tallies (suc n)))
      (rows_are n (omega arith))
      ∙ ap (λ p. wave_rows es ws n ++ row_text (suc n) p (tally_at tallies (suc n))) (pairs_at (suc n) lt)
      ∙ ap (λ (c : Counts). wave_rows es ws n ++ row_text (suc n) (width es ws (suc n)) c) (each (suc n) lt)

  -- what is written is the table
  pub table_of : (last pairs wave n : ℕ) (text : List ℕ) → last ≡ last_wave ws → n ≡ length es →
      0 < n → IsWidestBelow tallies (length tallies) pairs wave →
      text ≡ header_text ++ rows_text tallies last ++ widest_text pairs wave ++ mean_text n last
      ++ totals_text last n → IsTable es ws text
  table_of last pairs wave n text is count some i e =
      of_waves (let c = count in omega arith) (widest_of pairs wave i)
      (e ∙ ap (λ l. header_text ++ rows_text tallies l ++ widest_text pairs wave ++ mean_text n l
      ++ totals_text l n) is
      ∙ ap (λ m. header_text ++ rows_text tallies (last_wave ws) ++ widest_text pairs wave
      ++ mean_text m (last_wave ws) ++ totals_text (last_wave ws) m) count
      ∙ ap (λ t. header_text ++ t ++ widest_text pairs wave
      ++ mean_text (length es) (last_wave ws) ++ totals_text (last_wave ws) (length es))
      (rows_are (last_wave ws) (omega arith)))
