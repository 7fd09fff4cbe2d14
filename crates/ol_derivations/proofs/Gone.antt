-- What is found backwards from a place is how many binders stand round it.
use Rattle.std.proofs.Common.{◌≡◌, ℕ, zero, suc, ◌+◌, ◌-◌, ◌<◌, ◌≤◌, inl, inr, Bool, true, false, nat_lt, List, [], ◌∷◌, ◌++◌, length, take, refl, sym, ap, ◌∙◌, arith}
use Rattle.std.specs.Prelude.{slice_index_or}
use Rattle.std.proofs.lemmas.List.{take-append-le, length-append}
use Rattle.std.proofs.lemmas.Bool.{cases_lt}
use Rattle.std.proofs.lemmas.Bool.Decides.{nat_tests}
use Rattle.ol_readback.specs.Texts.{rounds}
use Rattle.ol_readback.specs.Whole.{Part, term, lost, cut, none, more, count, preorder}
use Rattle.ol_readback.specs.declared.answers.HeadVar.{HeadVar}
use Rattle.ol_readback.specs.declared.answers.ReadNode.{ReadNode}
use Rattle.ol_readback.specs.declared.answers.ReadNode.TheVariants as node
use Rattle.ol_readback.proofs.OneTree.{count_one}
use Rattle.ol_readback.proofs.Scoped.{rounds_length}
use Rattle.ol_equal.specs.Comparing.{place_at}
use Rattle.ol_equal.specs.Walking.{args_of}
use Rattle.ol_derivations.specs.Heads.{lams_of}
use Rattle.ol_derivations.specs.PlacesOfPaths.{back, gone}

pub gone-append : (ns ms : List ReadNode) (s : ℕ × ℕ) → gone (ns ++ ms) s ≡ gone ns (gone ms s)
gone-append [] ms s = refl
gone-append (n ∷ ns) ms s = ap (back n) (gone-append ns ms s)

back_more : (l : ℕ) (v : HeadVar) (k d r : ℕ) → back (node.Head l v k) (k + d, r) ≡ (suc d, r)
back_more l v k d r =
    let t : nat_lt (k + d) k ≡ false = grind (arith, nat_tests) in
    let e : k + d - k + 1 ≡ suc d = omega arith in
    rw (t, e) refl

back_into : (l : ℕ) (v : HeadVar) (k j r : ℕ) → j < k → back (node.Head l v k) (j, r) ≡ (0, r + l)
back_into l v k j r low =
    let t : nat_lt j k ≡ true = grind (arith, nat_tests) in
    rw t refl

back_none : (d r : ℕ) → back node.NoHead (d, r) ≡ (suc d, r)
back_none d r =
    let t : nat_lt d 0 ≡ false = grind (arith, nat_tests) in
    let e : d - 0 + 1 ≡ suc d = omega arith in
    rw (t, e) refl

back_cut : (d r : ℕ) → back node.Cut (d, r) ≡ (suc d, r)
back_cut d r =
    let t : nat_lt d 0 ≡ false = grind (arith, nat_tests) in
    let e : d - 0 + 1 ≡ suc d = omega arith in
    rw (t, e) refl

-- whole trees are counted, and nothing else
pub over : {b : Bool} (t : Part b) (d r : ℕ) → gone (preorder t) (d, r) ≡ (count t + d, r)
over (term l v ts) d r = ap (back (node.Head l v (count ts))) (over ts d r) ∙ back_more l v (count ts) d r
    ∙ ap (λ (n : ℕ). (n, r)) (let e : suc d ≡ 1 + d = omega arith in e)
over lost d r = back_none d r ∙ ap (λ (n : ℕ). (n, r)) (let e : suc d ≡ 1 + d = omega arith in e)
over cut d r = back_cut d r ∙ ap (λ (n : ℕ). (n, r)) (let e : suc d ≡ 1 + d = omega arith in e)
over none d r = ap (λ (n : ℕ). (n, r)) (let e : d ≡ 0 + d = omega arith in e)
over (more u us) d r = gone-append (preorder u) (preorder us) (d, r) ∙ ap (gone (preorder u)) (over us d r)
    ∙ over u (count us + d) r
    ∙ ap (λ (n : ℕ). (n, r)) (let e : count u + (count us + d) ≡ suc (count us) + d = omega (arith, count_one u) in e)

pub take_over : (xs ys : List ReadNode) (n : ℕ) → take (length xs + n) (xs ++ ys) ≡ xs ++ take n ys
take_over [] ys n = let e : 0 + n ≡ n = omega arith in rw e refl
take_over (x ∷ xs) ys n = let e : suc (length xs) + n ≡ suc (length xs + n) = omega arith in
    rw e (ap (λ zs. x ∷ zs) (take_over xs ys n))

index_left : (xs ys : List ℕ) (n : ℕ) → n < length xs → slice_index_or (xs ++ ys) n 0 ≡ slice_index_or xs n 0
index_left [] ys n l = absurd (omega (arith, l))
index_left (x ∷ xs) ys zero l = refl
index_left (x ∷ xs) ys (suc n) l = index_left xs ys n (omega (arith, l))

pub index_right : (xs ys : List ℕ) (n m : ℕ) → n ≡ length xs + m → slice_index_or (xs ++ ys) n 0 ≡ slice_index_or ys m 0
index_right [] ys n m e = ap (λ n. slice_index_or ys n 0) (let q : n ≡ m = omega (arith, e) in q)
index_right (x ∷ xs) ys zero m e = absurd (omega (arith, e))
index_right (x ∷ xs) ys (suc n) m e = index_right xs ys n m (omega (arith, e))

-- place n of a part: j whole trees of the part stand before the one with the place, and o binders of the part stand round it
pub record Stands (b : Bool) (t : Part b) (n : ℕ) : Type 0 where
  pub before : ℕ
  pub low : before < count t
  pub round : ℕ
  pub walks : (r : ℕ) → gone (take n (preorder t)) (0, r) ≡ (before, r + round)
  pub is : (s : ℕ) → slice_index_or (rounds s t) n 0 ≡ s + round

first_place : (t : Part true) (n : ℕ) → n ≡ 0 → ((s : ℕ) → slice_index_or (rounds s t) 0 0 ≡ s) → Stands true t n
first_place t n e is = record {
  before = 0;
  low = omega (arith, count_one t);
  round = 0;
  walks = λ r. ap (λ n. gone (take n (preorder t)) (0, r)) e
      ∙ ap (λ (m : ℕ). (0, m)) (let q : r ≡ r + 0 = omega arith in q);
  is = λ s. ap (λ n. slice_index_or (rounds s t) n 0) e ∙ is s ∙ (let q : s ≡ s + 0 = omega arith in q);
}

pub stands : {b : Bool} (t : Part b) (n : ℕ) → n < length (preorder t) → Stands b t n
stands (term l v ts) zero lt = first_place (term l v ts) 0 refl (λ s. refl)
stands (term l v ts) (suc n) lt =
    let h = stands ts n (omega (arith, lt)) in
    record {
      before = 0;
      low = omega arith;
      round = h.round + l;
      walks = λ r. ap (back (node.Head l v (count ts))) (h.walks r)
          ∙ back_into l v (count ts) h.before (r + h.round) h.low
          ∙ ap (λ (m : ℕ). (0, m)) (let q : r + h.round + l ≡ r + (h.round + l) = omega arith in q);
      is = λ s. h.is (s + l) ∙ (let q : s + l + h.round ≡ s + (h.round + l) = omega arith in q);
    }
stands lost zero lt = first_place lost 0 refl (λ s. refl)
stands lost (suc n) lt = absurd (omega (arith, lt))
stands cut zero lt = first_place cut 0 refl (λ s. refl)
stands cut (suc n) lt = absurd (omega (arith, lt))
stands none n lt = absurd (omega (arith, lt))
stands (more u us) n lt = elim (cases_lt n (length (preorder u))) [
  | inl here ↦
      let h = stands u n here in
      let q : h.before ≡ 0 = omega (arith, h.low, count_one u) in
      record {
        before = 0;
        low = omega arith;
        round = h.round;
        walks = λ r. ap (λ l. gone l (0, r)) (take-append-le n (preorder u) (preorder us) (omega (arith, here)))
            ∙ h.walks r ∙ ap (λ (m : ℕ). (m, r + h.round)) q;
        is = λ s. index_left (rounds s u) (rounds s us) n (omega (arith, here, rounds_length s u)) ∙ h.is s;
      }
  | inr past ↦
      let m = n - length (preorder u) in
      let e : n ≡ length (preorder u) + m = omega (arith, past) in
      let h = stands us m (omega (arith, lt, past, length-append (preorder u) (preorder us))) in
      record {
        before = suc h.before;
        low = omega (arith, h.low);
        round = h.round;
        walks = λ r. ap (λ n. gone (take n (preorder u ++ preorder us)) (0, r)) e
            ∙ ap (λ l. gone l (0, r)) (take_over (preorder u) (preorder us) m)
            ∙ gone-append (preorder u) (take m (preorder us)) (0, r) ∙ ap (gone (preorder u)) (h.walks r)
            ∙ over u h.before (r + h.round)
            ∙ ap (λ (k : ℕ). (k, r + h.round))
            (let q : count u + h.before ≡ suc h.before = omega (arith, count_one u) in q);
        is = λ s. index_right (rounds s u) (rounds s us) n m (omega (arith, e, rounds_length s u)) ∙ h.is s;
      }
]

-- so it is for a whole tree
pub round_found : (t : Part true) (ns : List ReadNode) (k trees round : ℕ) → preorder t ≡ ns → k < length ns →
    ◌≡◌ {A = ℕ × ℕ} (trees, round) (gone (take k ns) (0, 0)) → round ≡ slice_index_or (rounds 0 t) k 0
round_found t ns k trees round e lt g =
    let h = stands t k (omega (arith, lt, ap length e)) in
    let w = g ∙ ap (λ l. gone (take k l) (0, 0)) (sym e) ∙ h.walks 0 in
    ap (λ (s : ℕ × ℕ). s.1) w ∙ sym (h.is 0)

-- ---- steps of the loop

-- one place back from p
gone_step : (ns : List ReadNode) (p : ℕ) (s : ℕ × ℕ) → 0 < p → p ≤ length ns →
    gone (take p ns) s ≡ gone (take (p - 1) ns) (back (place_at ns (p - 1)) s)
gone_step [] p s pos le = absurd (omega (arith, pos, le))
gone_step (n ∷ ns) zero s pos le = absurd (omega (arith, pos))
gone_step (n ∷ ns) (suc zero) s pos le = refl
gone_step (n ∷ ns) (suc (suc p)) s pos le =
    let ih : gone (take (suc p) ns) s ≡ gone (take p ns) (back (place_at ns p) s) =
    let e : suc p - 1 ≡ p = omega arith in rw e at (gone_step ns (suc p) s (omega arith) (omega (arith, le))) in
    let e : suc (suc p) - 1 ≡ suc p = omega arith in
    rw e (ap (back n) ih)

held : (n : ReadNode) (trees round : ℕ) → trees < args_of n → back n (trees, round) ≡ (0, round + lams_of n)
held n trees round low = let t : nat_lt trees (args_of n) ≡ true = grind (arith, nat_tests) in rw t refl

passed : (n : ReadNode) (trees round : ℕ) → args_of n ≤ trees →
    back n (trees, round) ≡ (trees - args_of n + 1, round)
passed n trees round low = let t : nat_lt trees (args_of n) ≡ false = grind (arith, nat_tests) in rw t refl

module _ (ns : List ReadNode) (p trees round : ℕ) (n : ReadNode) (lams args : ℕ) (s : ℕ × ℕ) (pos : 0 < p)
    (le : p ≤ length ns) (is : n ≡ place_at ns (p - 1)) (l : lams ≡ lams_of n) (a : args ≡ args_of n)
    (same : ◌≡◌ {A = ℕ × ℕ} (gone (take p ns) (trees, round)) s) where
  -- the place holds the one that is looked for
  pub goes_in : (inside : ℕ) → inside ≡ round + lams → trees < args →
      ◌≡◌ {A = ℕ × ℕ} (gone (take (p - 1) ns) (0, inside)) s
  goes_in inside m low =
      let h = held n trees round (omega (arith, low, a)) in
      let e : ◌≡◌ {A = ℕ × ℕ} (0, inside) (back (place_at ns (p - 1)) (trees, round)) =
      ap (λ (m : ℕ). (0, m)) (let q : inside ≡ round + lams_of n = omega (arith, m, l) in q) ∙ sym h
      ∙ ap (λ n. back n (trees, round)) is in
      ap (gone (take (p - 1) ns)) e ∙ sym (gone_step ns p (trees, round) pos le) ∙ same

  -- or it doesn't
  pub goes_past : (left : ℕ) → left ≡ trees - args + 1 → args ≤ trees →
      ◌≡◌ {A = ℕ × ℕ} (gone (take (p - 1) ns) (left, round)) s
  goes_past left m low =
      let h = passed n trees round (omega (arith, low, a)) in
      let e : ◌≡◌ {A = ℕ × ℕ} (left, round) (back (place_at ns (p - 1)) (trees, round)) =
      ap (λ (m : ℕ). (m, round)) (let q : left ≡ trees - args_of n + 1 = omega (arith, m, a) in q) ∙ sym h
      ∙ ap (λ n. back n (trees, round)) is in
      ap (gone (take (p - 1) ns)) e ∙ sym (gone_step ns p (trees, round) pos le) ∙ same

-- no place is left
pub none_left : (ns : List ReadNode) (p trees round : ℕ) (s : ℕ × ℕ) → p ≡ 0 →
    ◌≡◌ {A = ℕ × ℕ} (gone (take p ns) (trees, round)) s → ◌≡◌ {A = ℕ × ℕ} (trees, round) s
none_left ns p trees round s z same = ap (λ p. gone (take p ns) (trees, round)) (sym z) ∙ same

pub no_round : (t : Part true) (ns : List ReadNode) (k : ℕ) → preorder t ≡ ns → length ns ≤ k →
    0 ≡ slice_index_or (rounds 0 t) k 0
no_round t ns k e le = past (rounds 0 t) k (omega (arith, le, rounds_length 0 t, ap length e))
  where
    past : (xs : List ℕ) (k : ℕ) → length xs ≤ k → 0 ≡ slice_index_or xs k 0
    past [] zero le = refl
    past [] (suc k) le = refl
    past (x ∷ xs) zero le = absurd (omega (arith, le))
    past (x ∷ xs) (suc k) le = past xs k (omega (arith, le))
