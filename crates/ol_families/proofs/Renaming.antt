-- Other letters: a reduction goes on as before, and so do its degrees, under a renaming of letters.
use Rattle.std.proofs.Common.{◌≡◌, ℕ, zero, suc, ◌+◌, ◌-◌, ◌<◌, ◌==◌, nat_lt, nat_eq, if◌then◌else◌, Bool, true}
use Rattle.std.proofs.Common.{false, List, [], ◌∷◌, length, length-append, map, Option, Some, None, refl, sym, ap}
use Rattle.std.proofs.Common.{◌∙◌, subst, arith, inl, inr, eqb-true, eq-eqb}
use Rattle.std.specs.Prelude.{slice_index_or}
use Rattle.std.specs.Option.{option_map}
use Rattle.std.proofs.lemmas.List.{get_or_append_left, get_or-append-add}
use Rattle.ol_beta.specs.Beta.{IsWithin}
use Rattle.ol_beta.specs.Leftmost.{leftmost}
use Rattle.ol_law_edges.specs.Edges.{IsIn}
use Rattle.ol_law_edges.proofs.Lists.{in_left, in_right}
use Rattle.ol_law_optimality.specs.Families.{labels_in, HaveOwnLetters, IsLetter}
use Rattle.ol_law_optimality.specs.Readings.{AreDifferent}
use Rattle.ol_law_optimality.specs.Labels.{Label, none, atom, over, under, joined, Labelled, var, free, lam, app}
use Rattle.ol_law_optimality.specs.Labels.{erased, before, shifted, substituted, applied, contracted, degree}
use Rattle.ol_law_optimality.specs.Labels.{degree_of_abstraction, LeftmostContracts, ready, contract}
use Rattle.ol_term.specs.Trees.{Tree, term_size}
use Rattle.ol_term.specs.Trees as trees
use Rattle.ol_families.specs.Counts.{IsShortLabelled, AreShortLabelled}
use Rattle.ol_families.specs.Letters.{letters, letters_in, letters_of}
use Rattle.ol_families.proofs.Rows.{in_get}

abbrev pub renamed : (ℕ → ℕ) → Label → Label
renamed ρ none = none
renamed ρ (atom n w) = atom (ρ n) (renamed ρ w)
renamed ρ (over v w) = over (renamed ρ v) (renamed ρ w)
renamed ρ (under v w) = under (renamed ρ v) (renamed ρ w)

abbrev pub relabelled : (ℕ → ℕ) → Labelled → Labelled
relabelled ρ (var k w) = var k (renamed ρ w)
relabelled ρ (free k w) = free k (renamed ρ w)
relabelled ρ (lam b w) = lam (relabelled ρ b) (renamed ρ w)
relabelled ρ (app f a w) = app (relabelled ρ f) (relabelled ρ a) (renamed ρ w)

module _ (ρ : ℕ → ℕ) where
  abbrev L : Labelled → Labelled
  L t = relabelled ρ t

  abbrev W : Label → Label
  W r = renamed ρ r

  joined_too : (v w : Label) → W (joined v w) ≡ joined (W v) (W w)
  joined_too none w = refl
  joined_too (atom n v) w = ap (atom (ρ n)) (joined_too v w)
  joined_too (over u v) w = ap (over (W u)) (joined_too v w)
  joined_too (under u v) w = ap (under (W u)) (joined_too v w)

  both : (f g a b : Labelled) (w : Label) → f ≡ g → a ≡ b → app f a w ≡ app g b w
  both f g a b w e d = ap (λ f. app f a w) e ∙ ap (λ a. app g a w) d

  before_too : (v : Label) (t : Labelled) → L (before v t) ≡ before (W v) (L t)
  before_too v (var k w) = ap (var k) (joined_too v w)
  before_too v (free k w) = ap (free k) (joined_too v w)
  before_too v (lam b w) = ap (lam (L b)) (joined_too v w)
  before_too v (app f a w) = ap (app (L f) (L a)) (joined_too v w)

  shifted_too : (n d : ℕ) (t : Labelled) → L (shifted n d t) ≡ shifted n d (L t)
  shifted_too n d (var k w) = refl
  shifted_too n d (free k w) = refl
  shifted_too n d (lam b w) = ap (λ b. lam b (W w)) (shifted_too n (d + 1) b)
  shifted_too n d (app f a w) = both _ _ _ _ (W w) (shifted_too n d f) (shifted_too n d a)

  if_too : (b : Bool) (t u x y : Labelled) → L t ≡ x → L u ≡ y → L (if b then t else u) ≡ (if b then x else y)
  if_too true t u x y e d = e
  if_too false t u x y e d = d

  substituted_too : (c : Labelled) (d : ℕ) (t : Labelled) → L (substituted c d t) ≡ substituted (L c) d (L t)
  substituted_too c d (var k w) =
      if_too (nat_lt k d) (var k w) (if k == d then before w (shifted d 0 c) else var (k - 1) w) (var k (W w))
      (if k == d then before (W w) (shifted d 0 (L c)) else var (k - 1) (W w)) refl
      (if_too (k == d) (before w (shifted d 0 c)) (var (k - 1) w) (before (W w) (shifted d 0 (L c)))
      (var (k - 1) (W w)) (before_too w (shifted d 0 c) ∙ ap (before (W w)) (shifted_too d 0 c)) refl)
  substituted_too c d (free k w) = refl
  substituted_too c d (lam b w) = ap (λ b. lam b (W w)) (substituted_too c (d + 1) b)
  substituted_too c d (app f a w) = both _ _ _ _ (W w) (substituted_too c d f) (substituted_too c d a)

  applied_too : (f c : Labelled) (w : Label) →
      option_map (λ t. relabelled ρ t) (applied f c w) ≡ applied (L f) (L c) (W w)
  applied_too (var k v) c w = refl
  applied_too (free k v) c w = refl
  applied_too (lam b v) c w =
      ap Some (before_too (joined w (over v none)) (substituted (before (under v none) c) 0 b)
      ∙ ap (λ z. before z (L (substituted (before (under v none) c) 0 b))) (joined_too w (over v none))
      ∙ ap (before (joined (W w) (over (W v) none))) (substituted_too (before (under v none) c) 0 b
      ∙ ap (λ c. substituted c 0 (L b)) (before_too (under v none) c)))
  applied_too (app f a v) c w = refl

  pick_too : (b : Bool) (s t x y : Option Labelled) → option_map (λ t. relabelled ρ t) s ≡ x →
      option_map (λ t. relabelled ρ t) t ≡ y →
      option_map (λ t. relabelled ρ t) (if b then s else t) ≡ (if b then x else y)
  pick_too true s t x y e d = e
  pick_too false s t x y e d = d

  map_too : (f g : Labelled → Labelled) → ((t : Labelled) → L (f t) ≡ g (L t)) → (s x : Option Labelled) →
      option_map (λ t. relabelled ρ t) s ≡ x → option_map (λ t. relabelled ρ t) (option_map f s) ≡ option_map g x
  map_too f g h None x e = ap (option_map g) e
  map_too f g h (Some t) x e = ap Some (h t) ∙ ap (option_map g) e

  contracted_too : (t : Labelled) (at : List ℕ) →
      option_map (λ t. relabelled ρ t) (contracted t at) ≡ contracted (relabelled ρ t) at
  contracted_too (var k w) at = refl
  contracted_too (free k w) at = refl
  contracted_too (lam b w) [] = refl
  contracted_too (lam b w) (m ∷ at) =
      pick_too (m == 0) (option_map (λ b. lam b w) (contracted b at)) None
      (option_map (λ b. lam b (W w)) (contracted (L b) at)) None
      (map_too (λ b. lam b w) (λ b. lam b (W w)) (λ b. refl) (contracted b at) (contracted (L b) at)
      (contracted_too b at)) refl
  contracted_too (app f c w) [] = applied_too f c w
  contracted_too (app f c w) (m ∷ at) =
      pick_too (m == 1) (option_map (λ g. app g c w) (contracted f at))
      (if m == 2 then option_map (λ a. app f a w) (contracted c at) else None)
      (option_map (λ g. app g (L c) (W w)) (contracted (L f) at))
      (if m == 2 then option_map (λ a. app (L f) a (W w)) (contracted (L c) at) else None)
      (map_too (λ g. app g c w) (λ g. app g (L c) (W w)) (λ g. refl) (contracted f at) (contracted (L f) at)
      (contracted_too f at))
      (pick_too (m == 2) (option_map (λ a. app f a w) (contracted c at)) None
      (option_map (λ a. app (L f) a (W w)) (contracted (L c) at)) None
      (map_too (λ a. app f a w) (λ a. app (L f) a (W w)) (λ a. refl) (contracted c at) (contracted (L c) at)
      (contracted_too c at)) refl)

  row_too : (b : Bool) (s t x y : Option Label) → option_map (λ w. renamed ρ w) s ≡ x →
      option_map (λ w. renamed ρ w) t ≡ y → option_map (λ w. renamed ρ w) (if b then s else t) ≡ (if b then x else y)
  row_too true s t x y e d = e
  row_too false s t x y e d = d

  abstraction_too : (f : Labelled) →
      option_map (λ w. renamed ρ w) (degree_of_abstraction f) ≡ degree_of_abstraction (relabelled ρ f)
  abstraction_too (var k w) = refl
  abstraction_too (free k w) = refl
  abstraction_too (lam b w) = refl
  abstraction_too (app f a w) = refl

  degree_too : (t : Labelled) (at : List ℕ) → option_map (λ w. renamed ρ w) (degree t at) ≡ degree (relabelled ρ t) at
  degree_too (var k w) at = refl
  degree_too (free k w) at = refl
  degree_too (lam b w) [] = refl
  degree_too (lam b w) (m ∷ at) = row_too (m == 0) (degree b at) None (degree (L b) at) None (degree_too b at) refl
  degree_too (app f c w) [] = abstraction_too f
  degree_too (app f c w) (m ∷ at) =
      row_too (m == 1) (degree f at) (if m == 2 then degree c at else None) (degree (L f) at)
      (if m == 2 then degree (L c) at else None) (degree_too f at)
      (row_too (m == 2) (degree c at) None (degree (L c) at) None (degree_too c at) refl)

  pub erased_too : (t : Labelled) → erased (relabelled ρ t) ≡ erased t
  erased_too (var k w) = refl
  erased_too (free k w) = refl
  erased_too (lam b w) = ap trees.lam (erased_too b)
  erased_too (app f a w) =
      ap (λ x. trees.app x (erased (relabelled ρ a))) (erased_too f) ∙ ap (trees.app (erased f)) (erased_too a)

  letters_too : (w : Label) → letters (renamed ρ w) ≡ letters w
  letters_too none = refl
  letters_too (atom n w) = let e = letters_too w in omega arith
  letters_too (over v w) = let e = letters_too w in omega arith
  letters_too (under v w) = let e = letters_too w in omega arith

  pub letters_in_too : (t : Labelled) → letters_in (relabelled ρ t) ≡ letters_in t
  letters_in_too (var k w) = letters_too w
  letters_in_too (free k w) = letters_too w
  letters_in_too (lam b w) = let e = letters_too w in let d = letters_in_too b in omega arith
  letters_in_too (app f a w) =
      let e = letters_too w in let d = letters_in_too f in let c = letters_in_too a in omega arith

  pub letters_of_too : (ds : List Label) → letters_of (map (λ w. renamed ρ w) ds) ≡ letters_of ds
  letters_of_too [] = refl
  letters_of_too (d ∷ ds) = let e = letters_too d in let c = letters_of_too ds in omega arith

  small_too : (t : Labelled) → IsShortLabelled t → IsShortLabelled (relabelled ρ t)
  small_too t s = (subst IsWithin (sym (erased_too t)) s.0, (let e = letters_in_too t in let b = s.1 in omega arith))

  -- the reduction with the other letters
  pub record Too (t v : Labelled) (ds : List Label) (r : LeftmostContracts t ds v) : Type 0 where
    pub reduction : LeftmostContracts (relabelled ρ t) (map (λ w. renamed ρ w) ds) (relabelled ρ v)
    pub small : AreShortLabelled r → AreShortLabelled reduction

  pub reduces_too : (t v : Labelled) (ds : List Label) (r : LeftmostContracts t ds v) → Too t v ds r
  reduces_too t v ds (ready {t = u}) = record { reduction = ready; small = λ s. small_too u s }
  reduces_too t v ds (contract {t = s} {u = u} {v = z} {w = d} {ws = es} at l e c r) =
      let n = reduces_too u z es r in
      record {
        reduction = contract at (ap leftmost (erased_too s) ∙ l)
            (sym (degree_too s at) ∙ ap (option_map (λ w. renamed ρ w)) e)
            (sym (contracted_too s at) ∙ ap (option_map (λ t. relabelled ρ t)) c) n.reduction;
        small = λ x. (small_too s x.0, n.small x.1);
      }

-- ---- letters in their order

-- the subterms have letters from n on, in preorder
abbrev pub numbered : ℕ → Tree → Labelled
numbered n (trees.var k) = var k (atom n none)
numbered n (trees.free k) = free k (atom n none)
numbered n (trees.lam b) = lam (numbered (n + 1) b) (atom n none)
numbered n (trees.app f a) = app (numbered (n + 1) f) (numbered (n + 1 + term_size f) a) (atom n none)

abbrev first : Label → ℕ
first none = 0
first (atom n w) = n
first (over v w) = 0
first (under v w) = 0

letter_is : (v : Label) → IsLetter v → atom (first v) none ≡ v
letter_is v l = ap (λ v. atom (first v) none) l.1 ∙ sym l.1

-- letter k of some labels
abbrev pub letter_at : List Label → ℕ → ℕ
letter_at ls k = first (slice_index_or ls k none)

-- the first place of a letter
abbrev pub place_of : List Label → ℕ → ℕ
place_of [] m = 0
place_of (x ∷ ls) m = if nat_eq (first x) m then 0 else suc (place_of ls m)

many_labels : (t : Labelled) → length (labels_in t) ≡ term_size (erased t)
many_labels (var k w) = refl
many_labels (free k w) = refl
many_labels (lam b w) = let e = many_labels b in omega arith
many_labels (app f a w) =
    let e = many_labels f in let d = many_labels a in
    let c = length-append (labels_in f) (labels_in a) in omega arith

abbrev AreAt : List Label → ℕ → Labelled → Type 0
AreAt ls n t = (j : ℕ) → j < term_size (erased t) → slice_index_or (labels_in t) j none ≡ slice_index_or ls (n + j) none

abbrev AllLetters : Labelled → Type 0
AllLetters t = (v : Label) → IsIn v (labels_in t) → IsLetter v

-- the first label of a part
here : (ls : List Label) (n : ℕ) (w : Label) → w ≡ slice_index_or ls (n + 0) none → IsLetter w →
    atom (letter_at ls n) none ≡ w
here ls n w e l =
    let z : n + 0 ≡ n = omega arith in
    ap (λ v. atom (first v) none) (sym (e ∙ ap (λ k. slice_index_or ls k none) z)) ∙ letter_is w l

-- letters by their places give back the term
given_back : (ls : List Label) (n : ℕ) (t : Labelled) → AllLetters t → AreAt ls n t →
    relabelled (letter_at ls) (numbered n (erased t)) ≡ t
given_back ls n (var k w) l h = ap (var k) (here ls n w (h 0 (omega arith)) (l w (inl refl)))
given_back ls n (free k w) l h = ap (free k) (here ls n w (h 0 (omega arith)) (l w (inl refl)))
given_back ls n (lam b w) l h =
    ap (λ b. lam b (atom (letter_at ls n) none)) (given_back ls (n + 1) b (λ v i. l v (inr i)) (λ j i. inside j i))
    ∙ ap (lam b) (here ls n w (h 0 (omega arith)) (l w (inl refl)))
  where
    inside : (j : ℕ) → j < term_size (erased b) →
        slice_index_or (labels_in b) j none ≡ slice_index_or ls (n + 1 + j) none
    inside j i = let z : n + suc j ≡ n + 1 + j = omega arith in
        h (suc j) (omega arith) ∙ ap (λ k. slice_index_or ls k none) z
given_back ls n (app f a w) l h =
    ap (λ g. app g (relabelled (letter_at ls) (numbered (n + 1 + term_size (erased f)) (erased a)))
    (atom (letter_at ls n) none)) (given_back ls (n + 1) f (λ v i. l v (inr (in_left v _ _ i))) (λ j i. left j i))
    ∙ ap (λ z. app f z (atom (letter_at ls n) none)) (given_back ls (n + 1 + term_size (erased f)) a
    (λ v i. l v (inr (in_right v (labels_in f) _ i))) (λ j i. right j i))
    ∙ ap (app f a) (here ls n w (h 0 (omega arith)) (l w (inl refl)))
  where
    left : (j : ℕ) → j < term_size (erased f) →
        slice_index_or (labels_in f) j none ≡ slice_index_or ls (n + 1 + j) none
    left j i =
        let z : n + suc j ≡ n + 1 + j = omega arith in
        let m = many_labels f in
        sym (get_or_append_left (labels_in f) (labels_in a) none j (omega arith)) ∙ h (suc j) (omega arith)
        ∙ ap (λ k. slice_index_or ls k none) z

    right : (j : ℕ) → j < term_size (erased a) →
        slice_index_or (labels_in a) j none ≡ slice_index_or ls (n + 1 + term_size (erased f) + j) none
    right j i =
        let m = many_labels f in
        let z : n + suc (length (labels_in f) + j) ≡ n + 1 + term_size (erased f) + j = omega arith in
        sym (get_or-append-add (labels_in f) (labels_in a) j none) ∙ h (suc (length (labels_in f) + j)) (omega arith)
        ∙ ap (λ k. slice_index_or ls k none) z

-- the place of letter k is k, where no letter has two places
place_is : (ls : List Label) → AreDifferent ls → ((v : Label) → IsIn v ls → IsLetter v) → (k : ℕ) → k < length ls →
    place_of ls (letter_at ls k) ≡ k
place_is [] d l k b = absurd (omega arith)
place_is (x ∷ ls) d l zero b = rw (eq-eqb (first x) (first x) refl) refl
place_is (x ∷ ls) d l (suc k) b =
    by (ap suc (place_is ls d.1 (λ v i. l v (inr i)) k (omega arith))) (nat_eq (first x) (letter_at ls k)) refl
  where
    by : suc (place_of ls (letter_at ls k)) ≡ suc k → (b : Bool) → nat_eq (first x) (letter_at ls k) ≡ b →
        (if nat_eq (first x) (letter_at ls k) then 0 else suc (place_of ls (letter_at ls k))) ≡ suc k
    by next true e =
        let i = in_get ls k (omega arith) in
        let q : x ≡ slice_index_or ls k none = sym (letter_is x (l x (inl refl)))
        ∙ ap (λ n. atom n none) (eqb-true (first x) (letter_at ls k) e)
        ∙ letter_is (slice_index_or ls k none) (l (slice_index_or ls k none) (inr i)) in
        absurd (d.0 (subst (λ v. IsIn v ls) (sym q) i))
    by next false e = rw e next

-- numbers that come back give back the labels
comes_back : (ρ σ : ℕ → ℕ) (n : ℕ) (t : Tree) → ((k : ℕ) → k < n + term_size t → σ (ρ k) ≡ k) →
    relabelled σ (relabelled ρ (numbered n t)) ≡ numbered n t
comes_back ρ σ n (trees.var k) h = ap (λ m. var k (atom m none)) (h n (omega arith))
comes_back ρ σ n (trees.free k) h = ap (λ m. free k (atom m none)) (h n (omega arith))
comes_back ρ σ n (trees.lam b) h =
    ap (λ b. lam b (atom (σ (ρ n)) none)) (comes_back ρ σ (n + 1) b (λ k l. h k (omega arith)))
    ∙ ap (λ m. lam (numbered (n + 1) b) (atom m none)) (h n (omega arith))
comes_back ρ σ n (trees.app f a) h =
    ap (λ g. app g (relabelled σ (relabelled ρ (numbered (n + 1 + term_size f) a))) (atom (σ (ρ n)) none))
    (comes_back ρ σ (n + 1) f (λ k l. h k (omega arith)))
    ∙ ap (λ z. app (numbered (n + 1) f) z (atom (σ (ρ n)) none))
    (comes_back ρ σ (n + 1 + term_size f) a (λ k l. h k (omega arith)))
    ∙ ap (λ m. app (numbered (n + 1) f) (numbered (n + 1 + term_size f) a) (atom m none)) (h n (omega arith))

-- a term each of whose subterms has its own letter, and the same term with numbers in preorder: each
-- is the other one with other letters
pub record AreOneUpToLetters (T : Labelled) (t : Tree) : Type 0 where
  pub there : ℕ → ℕ
  pub back : ℕ → ℕ
  pub is : relabelled back (numbered 0 t) ≡ T
  pub was : relabelled there T ≡ numbered 0 t

pub up_to_letters : (T : Labelled) → HaveOwnLetters T → AreOneUpToLetters T (erased T)
up_to_letters T own =
    let ls = labels_in T in
    let m = many_labels T in
    let g = given_back ls 0 T own.1 (λ j i. ap (λ k. slice_index_or ls k none) (let z : j ≡ 0 + j = omega arith in z)) in
    record {
      there = place_of ls;
      back = letter_at ls;
      is = g;
      was = ap (relabelled (place_of ls)) (sym g) ∙ comes_back (letter_at ls) (place_of ls) 0 (erased T)
          (λ k l. place_is ls own.0 own.1 k (omega arith));
    }
