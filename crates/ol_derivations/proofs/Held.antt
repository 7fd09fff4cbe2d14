-- The places that hold a place of a tree, and what they tell of the variable there.
use Rattle.std.proofs.Common.{◌≡◌, ℕ, zero, suc, ◌+◌, ◌-◌, ◌<◌, ◌≤◌, inl, inr, Bool, true, false, nat_lt, List, [], ◌∷◌, ◌++◌, length, take, refl, sym, ap, ◌∙◌, subst, subst₂, arith, append_assoc, append-nil, if◌then◌else◌}
use Rattle.std.specs.Prelude.{slice_index_or}
use Rattle.std.proofs.lemmas.List.{take-append-le, length-append}
use Rattle.std.proofs.lemmas.Bool.{cases_lt, le-ltb, lt-ltb}
use Rattle.ol_readback.specs.Texts.{rounds}
use Rattle.ol_readback.specs.Whole.{Part, term, lost, cut, none, more, count, preorder, IsInScope, IsBound, IsWholeTree}
use Rattle.ol_readback.specs.declared.answers.HeadVar.{HeadVar}
use Rattle.ol_readback.specs.declared.answers.HeadVar.TheVariants as var
use Rattle.ol_readback.specs.declared.answers.ReadNode.{ReadNode}
use Rattle.ol_readback.specs.declared.answers.ReadNode.TheVariants as node
use Rattle.ol_readback.proofs.Scoped.{AreRound, rounds_length}
use Rattle.ol_equal.specs.Comparing.{TreeWithNames, Agree, place_at}
use Rattle.ol_equal.specs.Walking.{args_of}
use Rattle.ol_derivations.specs.Heads.{lams_of}
use Rattle.ol_derivations.specs.PlacesOfPaths.{back, gone}
use Rattle.ol_derivations.proofs.Gone.{stands, gone-append, over, take_over, index_right}

-- The places that hold the one behind these, the nearest first, each with how many binders it has. The first of these is
-- place i.
abbrev pub held : ℕ → List ReadNode → List (ℕ × ℕ)
held i [] = []
held i (n ∷ ns) = held (suc i) ns ++ (if nat_lt (gone ns (0, 0)).0 (args_of n) then (i, lams_of n) ∷ [] else [])

-- nor does a place without arguments
one_passed : (n : ReadNode) → args_of n ≡ 0 → (i : ℕ) (ns : List ReadNode) → held i (n ∷ ns) ≡ held (i + 1) ns
one_passed n e i ns =
    let high : nat_lt (gone ns (0, 0)).0 (args_of n) ≡ false = le-ltb (gone ns (0, 0)).0 (args_of n) (omega arith) in
    ap (λ b. held (suc i) ns ++ (if b then (i, lams_of n) ∷ [] else [])) high ∙ append-nil (held (suc i) ns)
    ∙ ap (λ m. held m ns) (let q : suc i ≡ i + 1 = omega arith in q)

-- a whole tree before it holds nothing of it
none_held : {b : Bool} (t : Part b) (i : ℕ) (ns : List ReadNode) (c r : ℕ) →
    ◌≡◌ {A = ℕ × ℕ} (gone ns (0, 0)) (c, r) → held i (preorder t ++ ns) ≡ held (i + length (preorder t)) ns
none_held (term l v ts) i ns c r e =
    let inside = preorder ts ++ ns in
    let g = gone-append (preorder ts) ns (0, 0) ∙ ap (gone (preorder ts)) e ∙ over ts c r in
    let high : nat_lt (gone inside (0, 0)).0 (count ts) ≡ false =
    ap (λ (s : ℕ × ℕ). nat_lt s.0 (count ts)) g ∙ le-ltb (count ts + c) (count ts) (omega arith) in
    ap (λ b. held (suc i) inside ++ (if b then (i, l) ∷ [] else [])) high ∙ append-nil (held (suc i) inside)
    ∙ none_held ts (suc i) ns c r e
    ∙ ap (λ m. held m ns) (let q : suc i + length (preorder ts) ≡ i + suc (length (preorder ts)) = omega arith in q)
none_held lost i ns c r e = one_passed node.NoHead refl i ns
none_held cut i ns c r e = one_passed node.Cut refl i ns
none_held none i ns c r e = ap (λ m. held m ns) (let q : i ≡ i + 0 = omega arith in q)
none_held (more u us) i ns c r e =
    let g = gone-append (preorder us) ns (0, 0) ∙ ap (gone (preorder us)) e ∙ over us c r in
    ap (held i) (append_assoc (preorder u) (preorder us) ns)
    ∙ none_held u i (preorder us ++ ns) (count us + c) r g
    ∙ none_held us (i + length (preorder u)) ns c r e
    ∙ ap (λ m. held m ns) (let n = length-append (preorder u) (preorder us) in
    let q : i + length (preorder u) + length (preorder us) ≡ i + length (preorder u ++ preorder us) = omega arith in q)

place_left : (ps qs : List ReadNode) (n : ℕ) → n < length ps → place_at (ps ++ qs) n ≡ place_at ps n
place_left [] qs n l = absurd (omega (arith, l))
place_left (p ∷ ps) qs zero l = refl
place_left (p ∷ ps) qs (suc n) l = place_left ps qs n (omega (arith, l))

place_right : (ps qs : List ReadNode) (n m : ℕ) → n ≡ length ps + m → place_at (ps ++ qs) n ≡ place_at qs m
place_right [] qs n m e = ap (place_at qs) (let q : n ≡ m = omega (arith, e) in q)
place_right (p ∷ ps) qs zero m e = absurd (omega (arith, e))
place_right (p ∷ ps) qs (suc n) m e = place_right ps qs n m (omega (arith, e))

-- The places round place i + n, which is number n of this part, and the variable there.
record Around (rs : List ℕ) (ss : List (ℕ × ℕ)) (i : ℕ) (ns : List ReadNode) (n : ℕ) : Type 0 where
  round : AreRound rs (held i (take n ns) ++ ss) (slice_index_or rs (i + n) 0)
  scope : (l : ℕ) (v : HeadVar) (m : ℕ) → place_at ns n ≡ node.Head l v m →
      IsInScope ((i + n, l) ∷ (held i (take n ns) ++ ss)) v

module _ (rs : List ℕ) where
  -- t binders stand round the first place of a part
  here : (before after : List ℕ) (t i : ℕ) → before ++ (t ∷ after) ≡ rs → length before ≡ i →
      slice_index_or rs (i + 0) 0 ≡ t
  here before after t i w e = ap (λ rs. slice_index_or rs (i + 0) 0) (sym w)
      ∙ index_right before (t ∷ after) (i + 0) 0 (omega (arith, e))

  first_around : (ss : List (ℕ × ℕ)) (i t : ℕ) (n : ReadNode) (ns : List ReadNode) → AreRound rs ss t →
      slice_index_or rs (i + 0) 0 ≡ t →
      ((l : ℕ) (v : HeadVar) (m : ℕ) → n ≡ node.Head l v m → IsInScope ((i, l) ∷ ss) v) →
      Around rs ss i (n ∷ ns) 0
  first_around ss i t n ns r h scope = record {
    round = subst (AreRound rs ss) (sym h) r;
    scope = λ l v m e. subst (λ k. IsInScope ((k, l) ∷ ss) v) (let q : i ≡ i + 0 = omega arith in q) (scope l v m e);
  }

  -- the same place, as one of what stands round its part
  moved : (ss qs : List (ℕ × ℕ)) (i j n k : ℕ) (ns ms : List ReadNode) → Around rs qs j ms k →
      held i (take n ns) ++ ss ≡ held j (take k ms) ++ qs → i + n ≡ j + k → place_at ns n ≡ place_at ms k →
      Around rs ss i ns n
  moved ss qs i j n k ns ms a s e p = record {
    round = subst₂ (λ s m. AreRound rs s (slice_index_or rs m 0)) (sym s) (sym e) a.round;
    scope = λ l v m q. subst₂ (λ s k. IsInScope ((k, l) ∷ s) v) (sym s) (sym e) (a.scope l v m (sym p ∙ q));
  }

  around : {b : Bool} (p : Part b) (ss : List (ℕ × ℕ)) (i t n : ℕ) (before after : List ℕ) → IsBound ss i p →
      AreRound rs ss t → before ++ (rounds t p ++ after) ≡ rs → length before ≡ i → n < length (preorder p) →
      Around rs ss i (preorder p) n
  around (term l v ts) ss i t zero before after h r w e lt =
      first_around ss i t (node.Head l v (count ts)) (preorder ts) r (here before (rounds (t + l) ts ++ after) t i w e)
      (λ k u m q. let a : l ≡ k = cc in let b : v ≡ u = cc in subst₂ (λ l v. IsInScope ((i, l) ∷ ss) v) a b h.0)
  around (term l v ts) ss i t (suc n) before after h r w e lt =
      let first = here before (rounds (t + l) ts ++ after) t i w e in
      let at = ap (λ k. slice_index_or rs k 0) (let q : i ≡ i + 0 = omega arith in q) ∙ first in
      let inner = around ts ((i, l) ∷ ss) (suc i) (t + l) n (before ++ (t ∷ [])) after h.1
      (ap (λ m. m + l) at, subst (AreRound rs ss) (sym at) r)
      (append_assoc before (t ∷ []) (rounds (t + l) ts ++ after) ∙ w)
      (let m = length-append before (t ∷ []) in omega (arith, m, e)) (omega (arith, lt)) in
      let s = stands ts n (omega (arith, lt)) in
      let low : nat_lt (gone (take n (preorder ts)) (0, 0)).0 (count ts) ≡ true =
      ap (λ (s : ℕ × ℕ). nat_lt s.0 (count ts)) (s.walks 0) ∙ lt-ltb s.before (count ts) s.low in
      let outer = held (suc i) (take n (preorder ts)) in
      moved ss ((i, l) ∷ ss) i (suc i) (suc n) n (node.Head l v (count ts) ∷ preorder ts) (preorder ts) inner
      (ap (λ b. (outer ++ (if b then (i, l) ∷ [] else [])) ++ ss) low ∙ append_assoc outer ((i, l) ∷ []) ss)
      (omega arith) refl
  around lost ss i t zero before after h r w e lt =
      first_around ss i t node.NoHead [] r (here before after t i w e) (λ l v m q. absurd (cc))
  around lost ss i t (suc n) before after h r w e lt = absurd (omega (arith, lt))
  around cut ss i t zero before after h r w e lt =
      first_around ss i t node.Cut [] r (here before after t i w e) (λ l v m q. absurd (cc))
  around cut ss i t (suc n) before after h r w e lt = absurd (omega (arith, lt))
  around none ss i t n before after h r w e lt = absurd (omega (arith, lt))
  around (more u us) ss i t n before after h r w e lt = elim (cases_lt n (length (preorder u))) [
    | inl short ↦
        let inner = around u ss i t n before (rounds t us ++ after) h.0 r
        (ap (λ s. before ++ s) (sym (append_assoc (rounds t u) (rounds t us) after)) ∙ w) e short in
        moved ss ss i i n n (preorder u ++ preorder us) (preorder u) inner
        (ap (λ l. held i l ++ ss) (take-append-le n (preorder u) (preorder us) (omega (arith, short)))) refl
        (place_left (preorder u) (preorder us) n short)
    | inr past ↦
        let m = n - length (preorder u) in
        let q : n ≡ length (preorder u) + m = omega (arith, past) in
        let long = length-append (preorder u) (preorder us) in
        let inner = around us ss (i + length (preorder u)) t m (before ++ rounds t u) after h.1 r
        (append_assoc before (rounds t u) (rounds t us ++ after)
        ∙ ap (λ s. before ++ s) (sym (append_assoc (rounds t u) (rounds t us) after)) ∙ w)
        (let a = length-append before (rounds t u) in let b = rounds_length t u in omega (arith, a, b, e))
        (omega (arith, lt, past, long)) in
        let s = stands us m (omega (arith, lt, past, long)) in
        moved ss ss i (i + length (preorder u)) n m (preorder u ++ preorder us) (preorder us) inner
        (ap (λ k. held i (take k (preorder u ++ preorder us)) ++ ss) q
        ∙ ap (λ l. held i l ++ ss) (take_over (preorder u) (preorder us) m)
        ∙ ap (λ l. l ++ ss) (none_held u i (take m (preorder us)) s.before (0 + s.round) (s.walks 0)))
        (omega (arith, q)) (place_right (preorder u) (preorder us) n m q)
  ]

-- so it is for a place of a whole tree
pub record AroundWhole (rs : List ℕ) (ns : List ReadNode) (k : ℕ) : Type 0 where
  pub round : AreRound rs (held 0 (take k ns)) (slice_index_or rs k 0)
  pub scope : (l : ℕ) (v : HeadVar) (m : ℕ) → place_at ns k ≡ node.Head l v m →
      IsInScope ((k, l) ∷ held 0 (take k ns)) v

pub around_whole : (ns : List ReadNode) (w : IsWholeTree ns) (k : ℕ) → k < length ns →
    AroundWhole (rounds 0 w.tree) ns k
around_whole ns w k lt =
    let rs = rounds 0 w.tree in
    let a = subst (λ ns. Around rs [] 0 ns k) w.is_list
    (around rs w.tree [] 0 0 k [] [] w.bound refl (append-nil rs) refl (omega (arith, lt, ap length w.is_list))) in
    let n : 0 + k ≡ k = omega arith in
    let s = append-nil (held 0 (take k ns)) in
    record {
      round = subst₂ (λ s k. AreRound rs s (slice_index_or rs k 0)) s n a.round;
      scope = λ l v m e. subst₂ (λ s k. IsInScope ((k, l) ∷ s) v) s n (a.scope l v m e);
    }

-- ---- two trees that agree up to a place

agree_alike : (names : TreeWithNames) (x y : ReadNode) → Agree names x y → (args_of x ≡ args_of y) × (lams_of x ≡ lams_of y)
agree_alike names (node.Head l v m) (node.Head k w n) h = (h.2, h.0)
agree_alike names (node.Head l v m) node.NoHead h = absurd h
agree_alike names (node.Head l v m) node.Cut h = absurd h
agree_alike names node.NoHead y h = absurd h
agree_alike names node.Cut y h = absurd h

module _ (names : TreeWithNames) where
  abbrev pub AgreeBelow : List ReadNode → List ReadNode → ℕ → Type 0
  AgreeBelow a b k = (j : ℕ) → j < k → Agree names (place_at a j) (place_at b j)

  pub same_gone : (a b : List ReadNode) (k : ℕ) (s : ℕ × ℕ) → k ≤ length a → k ≤ length b → AgreeBelow a b k →
      gone (take k a) s ≡ gone (take k b) s
  same_gone a b zero s l m h = refl
  same_gone [] b (suc k) s l m h = absurd (omega (arith, l))
  same_gone (x ∷ a) [] (suc k) s l m h = absurd (omega (arith, m))
  same_gone (x ∷ a) (y ∷ b) (suc k) s l m h =
      let e = agree_alike names x y (h 0 (omega arith)) in
      let s' = gone (take k b) s in
      ap (back x) (same_gone a b k s (omega (arith, l)) (omega (arith, m)) (λ j lt. h (suc j) (omega (arith, lt))))
      ∙ ap (λ n. if nat_lt s'.0 n then (0, s'.1 + lams_of x) else (s'.0 - n + 1, s'.1)) e.0
      ∙ ap (λ (n : ℕ). if nat_lt s'.0 (args_of y) then (0, s'.1 + n) else (s'.0 - args_of y + 1, s'.1)) e.1

  pub same_held : (a b : List ReadNode) (i k : ℕ) → k ≤ length a → k ≤ length b → AgreeBelow a b k →
      held i (take k a) ≡ held i (take k b)
  same_held a b i zero l m h = refl
  same_held [] b i (suc k) l m h = absurd (omega (arith, l))
  same_held (x ∷ a) [] i (suc k) l m h = absurd (omega (arith, m))
  same_held (x ∷ a) (y ∷ b) i (suc k) l m h =
      let e = agree_alike names x y (h 0 (omega arith)) in
      let below : AgreeBelow a b k = λ j lt. h (suc j) (omega (arith, lt)) in
      let g = same_gone a b k (0, 0) (omega (arith, l)) (omega (arith, m)) below in
      let r = held (suc i) (take k b) in
      ap (λ r. r ++ (if nat_lt (gone (take k a) (0, 0)).0 (args_of x) then (i, lams_of x) ∷ [] else []))
      (same_held a b (suc i) k (omega (arith, l)) (omega (arith, m)) below)
      ∙ ap (λ (s : ℕ × ℕ). r ++ (if nat_lt s.0 (args_of x) then (i, lams_of x) ∷ [] else [])) g
      ∙ ap (λ n. r ++ (if nat_lt (gone (take k b) (0, 0)).0 n then (i, lams_of x) ∷ [] else [])) e.0
      ∙ ap (λ (n : ℕ). r ++ (if nat_lt (gone (take k b) (0, 0)).0 (args_of y) then (i, n) ∷ [] else [])) e.1

-- ---- which binder it is

-- a binder of a place that holds one with t binders round it is one of these
pub low_binder : (rs : List ℕ) (ss : List (ℕ × ℕ)) (t i j : ℕ) → AreRound rs ss t → IsInScope ss (var.Bound i j) →
    (1 ≤ j) × (slice_index_or rs i 0 + j ≤ t)
low_binder rs [] t i j r h = absurd h
low_binder rs (s ∷ ss) t i j r (inl h) =
    let here : slice_index_or rs s.0 0 ≡ slice_index_or rs i 0 = ap (λ k. slice_index_or rs k 0) h.0 in
    (h.1, omega (arith, here, h.2, r.0))
low_binder rs (s ∷ ss) t i j r (inr h) =
    let k = low_binder rs ss (slice_index_or rs s.0 0) i j r.1 h in (k.0, omega (arith, k.1, r.0))

-- Of places that hold one another two binders with as many binders round them are one, also if they are counted in two
-- trees.
pub binder_same : (rs qs : List ℕ) (ss : List (ℕ × ℕ)) (t i j k l : ℕ) → AreRound rs ss t → AreRound qs ss t →
    IsInScope ss (var.Bound i j) → IsInScope ss (var.Bound k l) →
    slice_index_or rs i 0 + (j - 1) ≡ slice_index_or qs k 0 + (l - 1) → (i ≡ k) × (j ≡ l)
binder_same rs qs [] t i j k l r q h g e = absurd h
binder_same rs qs (s ∷ ss) t i j k l r q (inl h) (inl g) e =
    let a : slice_index_or rs s.0 0 ≡ slice_index_or rs i 0 = ap (λ k. slice_index_or rs k 0) h.0 in
    let b : slice_index_or qs s.0 0 ≡ slice_index_or qs k 0 = ap (λ k. slice_index_or qs k 0) g.0 in
    (sym h.0 ∙ g.0, omega (arith, a, b, h.1, g.1, r.0, q.0, e))
binder_same rs qs (s ∷ ss) t i j k l r q (inl h) (inr g) e =
    let a : slice_index_or rs s.0 0 ≡ slice_index_or rs i 0 = ap (λ k. slice_index_or rs k 0) h.0 in
    let b = low_binder qs ss (slice_index_or qs s.0 0) k l q.1 g in
    absurd (omega (arith, a, b.0, b.1, r.0, q.0, e))
binder_same rs qs (s ∷ ss) t i j k l r q (inr h) (inl g) e =
    let a : slice_index_or qs s.0 0 ≡ slice_index_or qs k 0 = ap (λ k. slice_index_or qs k 0) g.0 in
    let b = low_binder rs ss (slice_index_or rs s.0 0) i j r.1 h in
    absurd (omega (arith, a, b.0, b.1, r.0, q.0, e))
binder_same rs qs (s ∷ ss) t i j k l r q (inr h) (inr g) e =
    let a : slice_index_or qs s.0 0 ≡ slice_index_or rs s.0 0 = omega (arith, r.0, q.0) in
    binder_same rs qs ss (slice_index_or rs s.0 0) i j k l r.1 (subst (AreRound qs ss) a q.1) h g e
