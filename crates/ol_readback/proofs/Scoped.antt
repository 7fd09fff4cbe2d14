-- Where the binders of a whole tree stand.
use Rattle.std.proofs.Common.{◌≡◌, ℕ, zero, suc, ◌+◌, ◌-◌, ◌<◌, ◌≤◌, ◌^◌, inl, inr, List, [], ◌∷◌}
use Rattle.std.proofs.Common.{◌++◌, length, get_or, Bool, true, false, cond, refl, sym, ap, ◌∙◌}
use Rattle.std.proofs.Common.{subst, eqb, eq-eqb, eqb-true, arith, append_assoc, length-append}
use Rattle.std.proofs.lemmas.List.{length_push}
use Rattle.ol_term.specs.BinderNames.{binder_name}
use Rattle.ol_readback.specs.Whole.{Part, term, lost, cut, none, more, preorder, IsInScope, IsBound}
use Rattle.ol_readback.specs.Texts.{AreNamed, IsNamedVar, rounds, spaced, abstractions, variable}
use Rattle.ol_readback.specs.Texts.{is_bare, bracketed, part_text}
use Rattle.ol_readback.specs.Terms.{HasAllHeads, index_of}
use Rattle.ol_readback.specs.declared.answers.HeadVar.{HeadVar}
use Rattle.ol_readback.specs.declared.answers.HeadVar.TheVariants as var
use Rattle.ol_readback.specs.declared.answers.ReadNode.{ReadNode}
use Rattle.ol_readback.proofs.OneTree.{all_left, all_right}

-- these places, the nearest first, have t binders in all
abbrev pub AreRound : List ℕ → List (ℕ × ℕ) → ℕ → Type 0
AreRound rs [] t = t ≡ 0
AreRound rs (s ∷ ss) t = (get_or rs s.0 0 + s.1 ≡ t) × AreRound rs ss (get_or rs s.0 0)

-- of t binders the variable is this one, or it is one of so many free names
abbrev pub IsPlaced : ℕ → List ℕ → List (ℕ × ℕ) → ℕ → HeadVar → Type 0
IsPlaced count rs ss t (var.Bound i j) = (1 ≤ j) × (index_of ss i j + (get_or rs i 0 + j) ≡ t)
IsPlaced count rs ss t (var.Free q) = (1 ≤ q) × (q ≤ count)

in_scope : (rs : List ℕ) (ss : List (ℕ × ℕ)) (t i j : ℕ) → AreRound rs ss t →
    IsInScope ss (var.Bound i j) → (1 ≤ j) × (index_of ss i j + (get_or rs i 0 + j) ≡ t)
in_scope rs [] t i j r h = absurd h
in_scope rs (s ∷ ss) t i j r (inl h) =
    let here : get_or rs s.0 0 ≡ get_or rs i 0 = ap (λ (k : ℕ). get_or rs k 0) h.0 in
    let sum = r.0 in
    let first = h.1 in
    let last = h.2 in (
      first,
      ap (λ (b : Bool). cond {A = ℕ} b (s.1 - j) (s.1 + index_of ss i j) +
          (get_or rs i 0 + j)) (eq-eqb s.0 i h.0) ∙ omega arith,
    )
in_scope rs (s ∷ ss) t i j r (inr h) =
    let k = in_scope rs ss (get_or rs s.0 0) i j r.1 h in
    (k.0, go (eqb s.0 i) refl k.0 k.1 r.0)
  where
    go : (b : Bool) → eqb s.0 i ≡ b → 1 ≤ j →
        index_of ss i j + (get_or rs i 0 + j) ≡ get_or rs s.0 0 → get_or rs s.0 0 + s.1 ≡ t →
        cond {A = ℕ} b (s.1 - j) (s.1 + index_of ss i j) + (get_or rs i 0 + j) ≡ t
    go true e first k sum = let here : get_or rs s.0 0 ≡ get_or rs i 0 = ap
        (λ (k : ℕ). get_or rs k 0) (eqb-true s.0 i e) in absurd (omega arith)
    go false e first k sum = omega arith

placed : (count : ℕ) (rs : List ℕ) (ss : List (ℕ × ℕ)) (t : ℕ) (v : HeadVar) → AreRound rs ss t →
    IsInScope ss v → IsNamedVar count v → IsPlaced count rs ss t v
placed count rs ss t (var.Bound i j) r h n = in_scope rs ss t i j r h
placed count rs ss t (var.Free q) r h n = n

-- each variable of a part that begins at place i, with t binders round it, has its place
abbrev pub IsGood : {b : Bool} → ℕ → List ℕ → List (ℕ × ℕ) → ℕ → ℕ → Part b → Type 0
IsGood count rs ss i t (term l v ts) = (t + l < 2 ^ 64) × IsPlaced count rs ((i, l) ∷ ss) (t + l) v
    × IsGood count rs ((i, l) ∷ ss) (suc i) (t + l) ts
IsGood count rs ss i t lost = ⊥
IsGood count rs ss i t cut = ⊥
IsGood count rs ss i t none = Unit {0}
IsGood count rs ss i t (more u us) = IsGood count rs ss i t u × IsGood count rs ss (i + length (preorder u)) t us

named_left : (count : ℕ) (ns ms : List ReadNode) → AreNamed count (ns ++ ms) → AreNamed count ns
named_left count [] ms h = tt
named_left count (n ∷ ns) ms h = (h.0, named_left count ns ms h.1)

named_right : (count : ℕ) (ns ms : List ReadNode) → AreNamed count (ns ++ ms) → AreNamed count ms
named_right count [] ms h = h
named_right count (n ∷ ns) ms h = named_right count ns ms h.1

pub rounds_length : {b : Bool} (t : ℕ) (p : Part b) → length (rounds t p) ≡ length (preorder p)
rounds_length t (term l v ts) = ap suc (rounds_length (t + l) ts)
rounds_length t lost = refl
rounds_length t cut = refl
rounds_length t none = refl
rounds_length t (more u us) =
    let a = rounds_length t u in
    let b = rounds_length t us in
    let c = length-append (rounds t u) (rounds t us) in
    let d = length-append (preorder u) (preorder us) in
    omega arith

spaced_long : (names : List (List ℕ)) (t l : ℕ) → l ≤ length (spaced names t l)
spaced_long names t zero = omega arith
spaced_long names t (suc l) = let h = spaced_long names (suc t) l in go (binder_name names t) (spaced names (suc t) l) h
  where
    go : (x y : List ℕ) → l ≤ length y → suc l ≤ length (32 ∷ (x ++ y))
    go x y h = let a = length-append x y in omega arith

abstractions_long : (names : List (List ℕ)) (t l : ℕ) → l ≤ length (abstractions names t l)
abstractions_long names t zero = omega arith
abstractions_long names t (suc l) = go (binder_name names t) (spaced names (suc t) l) (spaced_long names (suc t) l)
  where
    go : (x y : List ℕ) → l ≤ length y → suc l ≤ length (92 ∷ (x ++ (y ++ (46 ∷ (32 ∷ [])))))
    go x y h = let a = length-append x (y ++ (46 ∷ (32 ∷ []))) in
        let b = length-append y (46 ∷ (32 ∷ [])) in omega arith

bracketed_long : (b : Bool) (x : List ℕ) → length x ≤ length (bracketed b x)
bracketed_long true x = omega arith
bracketed_long false x = let a = length-append x (41 ∷ []) in omega arith

here_is : (before after : List ℕ) (x i : ℕ) → length before ≡ i → get_or (before ++ (x ∷ after)) i 0 ≡ x
here_is [] after x zero e = refl
here_is [] after x (suc i) e = absurd (omega arith)
here_is (y ∷ before) after x zero e = absurd (omega arith)
here_is (y ∷ before) after x (suc i) e = here_is before after x i (omega arith)

module _ (names : List (List ℕ)) (rs : List ℕ) where
  pub good : {b : Bool} (p : Part b) (ss : List (ℕ × ℕ)) (i t : ℕ) (before after : List ℕ) →
      IsBound ss i p → AreNamed (length names) (preorder p) → HasAllHeads (preorder p) →
      AreRound rs ss t → before ++ (rounds t p ++ after) ≡ rs → length before ≡ i →
      t + length (part_text names rs t p) < 2 ^ 64 → IsGood (length names) rs ss i t p
  good (term l v ts) ss i t before after h n a r w e few =
      let here : get_or rs i 0 ≡ t = ap (λ (rs : List ℕ). get_or rs i 0) (sym w)
      ∙ here_is before (rounds (t + l) ts ++ after) t i e in
      let long = abstractions_long names t l in
      let c = length-append (abstractions names t l) (variable names rs v ++ part_text names rs (t + l) ts) in
      let d = length-append (variable names rs v) (part_text names rs (t + l) ts) in
      let round : AreRound rs ((i, l) ∷ ss)
      (t + l) = (ap (λ (n : ℕ). n + l) here, subst (AreRound rs ss) (sym here) r) in (
        omega arith,
        placed (length names) rs ((i, l) ∷ ss) (t + l) v round h.0 n.0,
        good ts ((i, l) ∷ ss) (suc i) (t + l) (before ++ (t ∷ [])) after h.1 n.1 a round
            (append_assoc before (t ∷ []) (rounds (t + l) ts ++ after) ∙ w)
            (let m = length_push before t in omega arith) (omega arith),
      )
  good lost ss i t before after h n a r w e few = absurd a
  good cut ss i t before after h n a r w e few = absurd a
  good none ss i t before after h n a r w e few = tt
  good (more u us) ss i t before after h n a r w e few =
      let long = bracketed_long (is_bare u) (part_text names rs t u) in
      let c = length-append (bracketed (is_bare u) (part_text names rs t u)) (part_text names rs t us) in
      let d = length-append before (rounds t u) in
      let f = rounds_length t u in (
        good u ss i t before (rounds t us ++ after) h.0
            (named_left (length names) (preorder u) (preorder us) n)
            (all_left (preorder u) (preorder us) a) r
            (ap (λ (x : List ℕ). before ++ x) (sym (append_assoc (rounds t u) (rounds t us) after))
            ∙ w) e (omega arith),
        good us ss (i + length (preorder u)) t (before ++ rounds t u) after h.1
            (named_right (length names) (preorder u) (preorder us) n) (all_right (preorder u) (preorder us) a) r
            (append_assoc before (rounds t u) (rounds t us ++ after)
            ∙ ap (λ (x : List ℕ). before ++ x) (sym
            (append_assoc (rounds t u) (rounds t us) after)) ∙ w) (omega arith) (omega arith),
      )
