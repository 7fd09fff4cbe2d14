-- A path, walked from the root, reaches its place.
use Rattle.std.proofs.Common.{◌≡◌, ℕ, zero, suc, ◌+◌, ◌-◌, ◌<◌, ◌≤◌, Bool, true, false, Some, None, List, [], ◌∷◌, ◌++◌, append_assoc, append-nil, length, drop, slice_get, refl, sym, ap, ◌∙◌, arith}
use Rattle.std.proofs.lemmas.List.{length-append}
use Rattle.ol_readback.specs.Whole.{Part, term, lost, cut, none, more, count, preorder}
use Rattle.ol_readback.specs.declared.answers.ReadNode.{ReadNode}
use Rattle.ol_readback.proofs.OneTree.{count_one}
use Rattle.ol_equal.specs.Comparing.{place_at}
use Rattle.ol_equal.specs.Walking.{args_of}
use Rattle.ol_equal.specs.Paths.{PathLeads, root, inside, first, later, IsPathTo}
use Rattle.ol_derivations.specs.PlacesOfPaths.{taken, reached}

pub none_taken : (ns : List ReadNode) → taken ns 0 ≡ 0
none_taken [] = refl
none_taken (n ∷ ns) = refl

-- whole trees at the front are passed over
taken_over : {b : Bool} (t : Part b) (c n : ℕ) (rest : List ReadNode) → n ≡ count t + c →
    taken (preorder t ++ rest) n ≡ length (preorder t) + taken rest c
taken_over (term l v ts) c zero rest e = absurd (omega (arith, e))
taken_over (term l v ts) c (suc n) rest e =
    let ih = taken_over ts c (n + count ts) rest (omega (arith, e)) in omega (arith, ih)
taken_over lost c zero rest e = absurd (omega (arith, e))
taken_over lost c (suc n) rest e = let q : n + 0 ≡ c = omega (arith, e) in let h = ap (taken rest) q in omega (arith, h)
taken_over cut c zero rest e = absurd (omega (arith, e))
taken_over cut c (suc n) rest e = let q : n + 0 ≡ c = omega (arith, e) in let h = ap (taken rest) q in omega (arith, h)
taken_over none c n rest e = let q : n ≡ c = omega (arith, e) in let h = ap (taken rest) q in omega (arith, h)
taken_over (more u us) c n rest e =
    let a = ap (λ l. taken l n) (append_assoc (preorder u) (preorder us) rest) in
    let f = taken_over u (count us + c) n (preorder us ++ rest) (omega (arith, e, count_one u)) in
    let g = taken_over us c (count us + c) rest refl in
    let l = length-append (preorder u) (preorder us) in
    omega (arith, a, f, g, l)

drop_past : (xs ys ns : List ReadNode) (p q : ℕ) → q ≡ p + length xs → drop p ns ≡ xs ++ ys → drop q ns ≡ ys
drop_past [] ys ns p q e d = let r : q ≡ p = omega (arith, e) in ap (λ n. drop n ns) r ∙ d
drop_past (x ∷ xs) ys [] zero q e d = absurd (cc)
drop_past (x ∷ xs) ys [] (suc p) q e d = absurd (cc)
drop_past (x ∷ xs) ys (n ∷ ns) zero zero e d = absurd (omega (arith, e))
drop_past (x ∷ xs) ys (n ∷ ns) zero (suc q) e d =
    let t : ns ≡ xs ++ ys = cc in drop_past xs ys ns 0 q (omega (arith, e)) t
drop_past (x ∷ xs) ys (n ∷ ns) (suc p) zero e d = absurd (omega (arith, e))
drop_past (x ∷ xs) ys (n ∷ ns) (suc p) (suc q) e d = drop_past (x ∷ xs) ys ns p q (omega (arith, e)) d

abbrev Reaches : (b : Bool) → Part b → List ℕ → ℕ → Type 0
Reaches true t js n = (ns rest : List ReadNode) (p : ℕ) → drop p ns ≡ preorder t ++ rest → reached ns js p ≡ p + n
Reaches false ts [] n = Unit {0}
Reaches false ts (j ∷ js) n = (ns rest : List ReadNode) (q : ℕ) → drop q ns ≡ preorder ts ++ rest → 1 ≤ j →
    reached ns js (q + taken (drop q ns) (j - 1)) ≡ q + n

leads_first : {ts : Part false} {j : ℕ} {js : List ℕ} {n : ℕ} → PathLeads false ts (j ∷ js) n → 1 ≤ j
leads_first (first t ts js n r) = omega arith
leads_first (later t ts j js n r) = omega arith

reaches : {b : Bool} {t : Part b} {js : List ℕ} {n : ℕ} → PathLeads b t js n → Reaches b t js n
reaches (root t) = λ ns rest p d. omega arith
reaches (inside l v ts j js n r) = λ ns rest p d.
    let e = drop_past (_ ∷ []) (preorder ts ++ rest) ns p (p + 1) refl d in
    let ih = reaches r ns rest (p + 1) e (leads_first r) in omega (arith, ih)
reaches (first t ts js n r) = λ ns rest q d low.
    let e = d ∙ append_assoc (preorder t) (preorder ts) rest in
    let z = ap (λ m. reached ns js (q + m)) (none_taken (drop q ns)) in
    let s = ap (reached ns js) (let p : q + 0 ≡ q = omega arith in p) in
    z ∙ s ∙ reaches r ns (preorder ts ++ rest) q e
reaches (later t ts j js n r) = λ ns rest q d low.
    let m = length (preorder t) in
    let e = d ∙ append_assoc (preorder t) (preorder ts) rest in
    let f = drop_past (preorder t) (preorder ts ++ rest) ns q (q + m) refl e in
    let k = leads_first r in
    let a = ap (λ l. taken l (suc j - 1)) e
    ∙ taken_over t (j - 1) (suc j - 1) (preorder ts ++ rest) (omega (arith, k, count_one t))
    ∙ ap (λ l. m + taken l (j - 1)) (sym f) in
    let ih = reaches r ns rest (q + m) f k in
    let b : q + taken (drop q ns) (suc j - 1) ≡ q + m + taken (drop (q + m) ns) (j - 1) = omega (arith, a) in
    ap (reached ns js) b ∙ ih ∙ (let c : q + m + n ≡ q + (m + n) = omega arith in c)

pub path_reaches : (ns : List ReadNode) (k : ℕ) (path : List ℕ) → IsPathTo ns k path → reached ns path 0 ≡ k
path_reaches ns k path h =
    let e = reaches h.leads ns [] 0 (sym h.listed ∙ sym (append-nil (preorder h.tree))) in omega (arith, e)

-- ---- steps of the loops

one_up : (k : ℕ) → suc k ≡ k + 1
one_up k = omega arith

taken_at : (ns : List ReadNode) (p c : ℕ) → p < length ns →
    taken (drop p ns) (suc c) ≡ suc (taken (drop (suc p) ns) (c + args_of (place_at ns p)))
taken_at [] p c low = absurd (omega (arith, low))
taken_at (n ∷ ns) zero c low = refl
taken_at (n ∷ ns) (suc p) c low = taken_at ns p c (omega (arith, low))

-- one place more
pub taken_step : (ns : List ReadNode) (p left left' : ℕ) → p < length ns → 1 ≤ left →
    left' ≡ left - 1 + args_of (place_at ns p) →
    p + 1 + taken (drop (p + 1) ns) left' ≡ p + taken (drop p ns) left
taken_step ns p zero left' low some e = absurd (omega (arith, some))
taken_step ns p (suc c) left' low some e =
    let h = taken_at ns p c low in
    let q : c + args_of (place_at ns p) ≡ left' = omega (arith, e) in
    let u = ap (λ k. taken (drop k ns) left') (one_up p) in
    let v = ap (λ m. taken (drop (suc p) ns) m) q in
    omega (arith, h, u, v)

pub none_behind : (ns : List ReadNode) (p c : ℕ) → length ns ≤ p → taken (drop p ns) c ≡ 0
none_behind [] zero c le = refl
none_behind [] (suc p) c le = refl
none_behind (n ∷ ns) zero c le = absurd (omega (arith, le))
none_behind (n ∷ ns) (suc p) c le = none_behind ns p c (omega (arith, le))

reached_at : (ns : List ReadNode) (js : List ℕ) (i p j : ℕ) → slice_get js i ≡ Some j →
    reached ns (drop i js) p ≡ reached ns (drop (suc i) js) (p + 1 + taken (drop (p + 1) ns) (j - 1))
reached_at ns [] i p j e = let z : None ≡ Some j = e in absurd (cc)
reached_at ns (h ∷ js) zero p j e =
    let z : Some h ≡ Some j = e in let q : h ≡ j = cc in
    ap (λ h. reached ns js (p + 1 + taken (drop (p + 1) ns) (h - 1))) q
reached_at ns (h ∷ js) (suc i) p j e = reached_at ns js i p j e

-- one number of the path more
pub reached_step : (ns : List ReadNode) (js : List ℕ) (i p j q : ℕ) → slice_get js i ≡ Some j →
    q ≡ p + 1 + taken (drop (p + 1) ns) (j - 1) → reached ns (drop (i + 1) js) q ≡ reached ns (drop i js) p
reached_step ns js i p j q e f =
    ap (λ k. reached ns (drop k js) q) (sym (one_up i)) ∙ ap (reached ns (drop (suc i) js)) f
    ∙ sym (reached_at ns js i p j e)

-- the whole path was walked
pub reached_end : (ns : List ReadNode) (js : List ℕ) (i p q : ℕ) → length js ≤ i →
    reached ns (drop i js) p ≡ q → p ≡ q
reached_end ns [] zero p q le e = e
reached_end ns [] (suc i) p q le e = e
reached_end ns (j ∷ js) zero p q le e = absurd (omega (arith, le))
reached_end ns (j ∷ js) (suc i) p q le e = reached_end ns js i p q (omega (arith, le)) e
