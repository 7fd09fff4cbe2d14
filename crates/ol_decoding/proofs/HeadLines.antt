-- Binders of a place, and the lines of heads.
use Rattle.std.proofs.Common.{◌≡◌, ℕ, zero, suc, ◌+◌, ◌-◌, ◌<◌, ◌≤◌, ◌⊎◌, inl, inr, Bool, List, [], ◌∷◌, ◌++◌, length, Option, None, Some, refl, sym, ap, ◌∙◌, subst, arith, append_assoc}
use Rattle.std.specs.Prelude.{slice_get, slice_index_or, codes}
use Rattle.std.specs.Fmt.{decimal}
use Rattle.std.proofs.lemmas.Bool.{cases_lt}
use Rattle.std.proofs.lemmas.List.{length-append}
use Rattle.ol_readback.specs.Whole.{Part, term, lost, cut, none, more, count, preorder, IsInScope, IsBound, IsWholeTree}
use Rattle.ol_readback.specs.Printing.{IsSeenVar, IsSeen}
use Rattle.ol_readback.specs.declared.answers.HeadVar.{HeadVar}
use Rattle.ol_readback.specs.declared.answers.HeadVar.TheVariants as var
use Rattle.ol_readback.specs.declared.answers.ReadNode.{ReadNode}
use Rattle.ol_readback.specs.declared.answers.ReadNode.TheVariants as node
use Rattle.ol_readback.proofs.Layers.{IsBelow, below_more, in_scope_below}
use Rattle.ol_equal.specs.Comparing.{place_at}
use Rattle.ol_decoding.specs.WalkAnswers.{IsVarText, IsHeadLine}
use Rattle.ol_decoding.specs.AddedLines.{AddsVar, AddsHead}
use Rattle.ol_decoding.proofs.Saying.{glue}

-- a binder that is seen from one place is seen from a later one
seen_more : (m n : ℕ) (x : ReadNode) → m ≤ n → IsSeen m x → IsSeen n x
seen_more m n (node.Head l (var.Bound i j) k) b h = omega arith
seen_more m n (node.Head l (var.Free q) k) b h = tt
seen_more m n node.NoHead b h = tt
seen_more m n node.Cut b h = tt

no_place : (k : ℕ) (x : ReadNode) → slice_get [] k ≡ Some x → ⊥
no_place zero x e = absurd (cc)
no_place (suc k) x e = absurd (cc)

get_left : (xs ys : List ReadNode) (k : ℕ) → k < length xs → slice_get (xs ++ ys) k ≡ slice_get xs k
get_left [] ys k b = absurd (omega arith)
get_left (x ∷ xs) ys zero b = refl
get_left (x ∷ xs) ys (suc k) b = get_left xs ys k (omega arith)

get_right : (xs ys : List ReadNode) (k : ℕ) → length xs ≤ k → slice_get (xs ++ ys) k ≡ slice_get ys (k - length xs)
get_right [] ys k b = ap (slice_get ys) (omega arith)
get_right (x ∷ xs) ys zero b = absurd (omega arith)
get_right (x ∷ xs) ys (suc k) b = get_right xs ys k (omega arith) ∙ ap (slice_get ys) (omega arith)

-- each place of a part that begins at place i has its binder at one of the places so far
all_seen : {b : Bool} (t : Part b) (ss : List (ℕ × ℕ)) (i n : ℕ) → IsBelow i ss → IsBound ss i t →
    i + length (preorder t) ≤ n → (k : ℕ) (x : ReadNode) → slice_get (preorder t) k ≡ Some x → IsSeen n x
all_seen (term l v ts) ss i n h b c zero x e =
    let f : node.Head l v (count ts) ≡ x = cc in
    subst (IsSeen n) f (seen_more (suc i) n (node.Head l v (count ts)) (omega arith)
    (in_scope_below (suc i) ((i, l) ∷ ss) v (omega arith, below_more i (suc i) ss (omega arith) h) b.0))
all_seen (term l v ts) ss i n h b c (suc k) x e =
    all_seen ts ((i, l) ∷ ss) (suc i) n (omega arith, below_more i (suc i) ss (omega arith) h) b.1 (omega arith) k x e
all_seen lost ss i n h b c zero x e = let f : node.NoHead ≡ x = cc in subst (IsSeen n) f tt
all_seen lost ss i n h b c (suc k) x e = absurd (no_place k x e)
all_seen cut ss i n h b c zero x e = let f : node.Cut ≡ x = cc in subst (IsSeen n) f tt
all_seen cut ss i n h b c (suc k) x e = absurd (no_place k x e)
all_seen none ss i n h b c k x e = absurd (no_place k x e)
all_seen (more t ts) ss i n h b c k x e =
    let l = length-append (preorder t) (preorder ts) in
    go (λ e. all_seen t ss i n h b.0 (omega arith) k x e)
    (λ e. all_seen ts ss (i + length (preorder t)) n (below_more i (i + length (preorder t)) ss (omega arith) h) b.1
    (omega arith) (k - length (preorder t)) x e) (cases_lt k (length (preorder t)))
  where
    go : (slice_get (preorder t) k ≡ Some x → IsSeen n x) →
        (slice_get (preorder ts) (k - length (preorder t)) ≡ Some x → IsSeen n x) →
        (k < length (preorder t)) ⊎ (length (preorder t) ≤ k) → IsSeen n x
    go f g (inl d) = f (sym (get_left (preorder t) (preorder ts) k d) ∙ e)
    go f g (inr d) = g (sym (get_right (preorder t) (preorder ts) k d) ∙ e)

pub seen_at : (ns : List ReadNode) (k : ℕ) (x : ReadNode) → IsWholeTree ns → slice_get ns k ≡ Some x →
    IsSeen (length ns) x
seen_at ns k x w e = all_seen w.tree [] 0 (length ns) tt w.bound
    (let l = ap (λ (ns : List ReadNode). length ns) w.is_list in omega arith) k x
    (ap (λ (ns : List ReadNode). slice_get ns k) w.is_list ∙ e)

-- the texts of heads
pub free_put : (names : List (List ℕ)) (ns : List ReadNode) (v : HeadVar) (q : ℕ) (old a new name : List ℕ) → v ≡ var.Free q →
    slice_get names (q - 1) ≡ Some name → a ≡ old ++ codes "free " → new ≡ a ++ name → AddsVar names ns v old new
free_put names ns v q old a new name e n ta tn =
    subst (λ (v : HeadVar). AddsVar names ns v old new) (sym e) (
      codes "free " ++ slice_index_or names (q - 1) [],
      refl,
      glue old a new (codes "free ") (slice_index_or names (q - 1) []) ta
          (tn ∙ ap (λ (x : List ℕ). a ++ x) (sym (name_at names (q - 1) name n))),
    )
  where
    name_at : (names : List (List ℕ)) (k : ℕ) (name : List ℕ) → slice_get names k ≡ Some name →
        slice_index_or names k [] ≡ name
    name_at [] zero name n = absurd (cc)
    name_at [] (suc k) name n = absurd (cc)
    name_at (m ∷ names) zero name n = let f : m ≡ name = cc in f
    name_at (m ∷ names) (suc k) name n = name_at names k name n

abbrev pub PutsLine : ReadNode → List ℕ → Type 0
PutsLine x line = (names : List (List ℕ)) (ns : List ReadNode) (k : ℕ) (old new : List ℕ) → place_at ns k ≡ x →
    new ≡ old ++ line → AddsHead names ns (place_at ns k) old new

pub nothing_put : PutsLine node.NoHead (codes "?\n") × PutsLine node.Cut (codes "...\n")
nothing_put = (
  λ names ns k old new e t. subst (λ (x : ReadNode). AddsHead names ns x old new) (sym e) (codes "?\n", refl, t),
  λ names ns k old new e t. subst (λ (x : ReadNode). AddsHead names ns x old new) (sym e) (codes "...\n", refl, t),
)

seven : (old a b c d e f g t u v w x y z : List ℕ) → a ≡ old ++ t → b ≡ a ++ u → c ≡ b ++ v → d ≡ c ++ w → e ≡ d ++ x →
    f ≡ e ++ y → g ≡ f ++ z → g ≡ old ++ (t ++ (u ++ (v ++ (w ++ (x ++ (y ++ z))))))
seven old a b c d e f g t u v w x y z e1 e2 e3 e4 e5 e6 e7 = rw (e7, e6, e5, e4, e3, e2, e1) (simp append_assoc)

pub head_put : (names : List (List ℕ)) (ns : List ReadNode) (k l n : ℕ) (v : HeadVar) (old a b c d e f g : List ℕ) →
    place_at ns k ≡ node.Head l v n → a ≡ old ++ codes "abstractions " → b ≡ a ++ decimal l → c ≡ b ++ codes ", " →
    AddsVar names ns v c d → e ≡ d ++ codes ", arguments " → f ≡ e ++ decimal n → g ≡ f ++ codes "\n" →
    AddsHead names ns (place_at ns k) old g
head_put names ns k l n v old a b c d e f g h ta tb tc (w, W, td) te tf tg =
    subst (λ (x : ReadNode). AddsHead names ns x old g) (sym h) (
      codes "abstractions " ++ (decimal l ++ (codes ", " ++ (w ++ (codes ", arguments " ++ (decimal n ++ codes "\n"))))),
      (w, W, refl),
      seven old a b c d e f g (codes "abstractions ") (decimal l) (codes ", ") w (codes ", arguments ") (decimal n) (codes "\n")
          ta tb tc td te tf tg,
    )
