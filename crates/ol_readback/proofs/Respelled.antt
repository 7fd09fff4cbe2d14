-- The text of a tree spells its tokens.
use Rattle.std.proofs.Common.{◌≡◌, ℕ, zero, suc, ◌+◌, ◌-◌, ◌<◌, ◌^◌, List, [], ◌∷◌, ◌++◌, map, length, get_or, Bool}
use Rattle.std.proofs.Common.{true, false, refl, sym, ap, ◌∙◌, subst, arith, append_assoc, append-nil}
use Rattle.std.specs.Prelude.{◌≢◌}
use Rattle.ol_term.specs.BinderNames.{binder_name}
use Rattle.ol_parse.specs.Grammar.{Token, name, lambda, dot, open_bracket, close_bracket}
use Rattle.ol_parse.specs.Texts.{class_of, is_word, IsGap, gap_none, gap_blank, last_gap, IsToken}
use Rattle.ol_parse.specs.Texts.{token_sign, IsName, Spells, spells_none, spells_one}
use Rattle.ol_parse.specs.Parsed.{AreNames}
use Rattle.ol_readback.specs.Whole.{Part, term, lost, cut, none, more, preorder}
use Rattle.ol_readback.specs.Texts.{spaced, abstractions, variable, is_bare, bracketed, part_text}
use Rattle.ol_readback.specs.declared.answers.HeadVar.{HeadVar}
use Rattle.ol_readback.specs.declared.answers.HeadVar.TheVariants as var
use Rattle.ol_readback.proofs.Grammatical.{binders, under, in_brackets, tokens}
use Rattle.ol_readback.proofs.Scoped.{IsPlaced, IsGood}
use Rattle.ol_readback.proofs.WordTokens.{binder_is_name}

-- whatever stands before
abbrev Spelled : List Token → List ℕ → Type 0
Spelled ks bs = (after : Bool) → Spells after ks bs

space : IsGap (32 ∷ [])
unfolding class_of
space = gap_blank refl gap_none

slash : IsToken lambda (92 ∷ [])
unfolding class_of
slash = token_sign refl

point : IsToken dot (46 ∷ [])
unfolding class_of
point = token_sign refl

left : IsToken open_bracket (40 ∷ [])
unfolding class_of
left = token_sign refl

right : IsToken close_bracket (41 ∷ [])
unfolding class_of
right = token_sign refl

-- a token behind a space
spaced_token : {k : Token} {a : List ℕ} {ks : List Token} {bs : List ℕ} → IsToken k a →
    Spelled ks bs → Spelled (k ∷ ks) (32 ∷ (a ++ bs))
spaced_token {k = k} i s = λ after. spells_one {g = 32 ∷ []} space (λ x y. λ e. absurd (cc)) i (s (is_word k))

-- a sign with nothing before it
sign_token : {k : Token} {a : List ℕ} {ks : List Token} {bs : List ℕ} → is_word k ≡ false →
    IsToken k a → Spelled ks bs → Spelled (k ∷ ks) (a ++ bs)
sign_token {k = k} n i s = λ after. spells_one {g = []} gap_none (λ x y. absurd (cc)) i (s (is_word k))

names_spelled : (names : List (List ℕ)) (t l : ℕ) {ks : List Token} {bs : List ℕ} →
    length names < 2 ^ 32 → t + l < 2 ^ 64 → Spelled ks bs →
    Spelled (map name (binders names t l) ++ ks) (spaced names t l ++ bs)
names_spelled names t zero h k s = s
names_spelled names t (suc l) {ks = ks} {bs = bs} h k s =
    subst (λ (x : List ℕ). Spelled (map name (binders names t (suc l)) ++ ks) (32 ∷ x))
    (sym (append_assoc (binder_name names t) (spaced names (suc t) l) bs))
    (spaced_token (binder_is_name names t h (omega arith)) (names_spelled names (suc t) l h (omega arith) s))

-- a gap before what follows
abbrev IsApart : Bool → List ℕ → Type 0
IsApart after g = IsGap g × (after ≡ true → g ≢ [])

-- the abstractions and the variable of a head
head_spelled : (names : List (List ℕ)) (t l : ℕ) (x : List ℕ) {ks : List Token} {bs : List ℕ} →
    length names < 2 ^ 32 → t + l < 2 ^ 64 → IsName x → Spelled ks bs → (after : Bool) (g : List ℕ) → IsApart after g →
    Spells after (under names t l (name x ∷ ks)) (g ++ (abstractions names t l ++ (x ++ bs)))
head_spelled names t zero x h k i s after g a = spells_one a.0 (λ e w. a.1 e) i (s true)
head_spelled names t (suc l) x {ks = ks} {bs = bs} h k i s after g a =
    let word = binder_is_name names t h (omega arith) in
    let tail : Spelled (map name (binders names (suc t) l) ++ (dot ∷ (name x ∷ ks)))
    (spaced names (suc t) l ++ (46 ∷ (32 ∷ (x ++ bs)))) = names_spelled names (suc t) l h
    (omega arith) (sign_token refl point (spaced_token i s)) in
    let first : Spells false (map name (binders names t (suc l)) ++ (dot ∷ (name x ∷ ks)))
    (binder_name names t ++ (spaced names (suc t) l ++
    (46 ∷ (32 ∷ (x ++ bs))))) = spells_one {g = []} gap_none (λ e. absurd (cc)) word (tail true) in
    let shift : binder_name names t ++ (spaced names (suc t) l ++ (46 ∷ (32 ∷ (x ++ bs)))) ≡
    (binder_name names t ++ (spaced names (suc t) l ++ (46 ∷ (32 ∷ [])))) ++ (x ++ bs) =
    ap (λ (y : List ℕ). binder_name names t ++ y)
    (sym (append_assoc (spaced names (suc t) l) (46 ∷ (32 ∷ [])) (x ++ bs)))
    ∙ sym (append_assoc (binder_name names t) (spaced names (suc t) l ++ (46 ∷ (32 ∷ []))) (x ++ bs)) in
    subst (λ (y : List ℕ). Spells after (under names t (suc l) (name x ∷ ks)) (g ++ (92 ∷ y))) shift
    (spells_one a.0 (λ e w. a.1 e) slash first)

under_more : (names : List (List ℕ)) (t l : ℕ) (js ks : List Token) →
    under names t l js ++ ks ≡ under names t l (js ++ ks)
under_more names t zero js ks = refl
under_more names t (suc l) js ks = ap (λ (x : List Token). lambda ∷ x)
    (append_assoc (map name (binders names t (suc l))) (dot ∷ js) ks)

name_at : (names : List (List ℕ)) (k : ℕ) → AreNames names → k < length names → IsName (get_or names k [])
name_at [] k h l = absurd (omega arith)
name_at (x ∷ names) zero h l = h.0
name_at (x ∷ names) (suc k) h l = name_at names k h.1 (omega arith)

variable_is_name : (names : List (List ℕ)) (rs : List ℕ) (ss : List (ℕ × ℕ)) (t : ℕ) (v : HeadVar) →
    AreNames names → length names < 2 ^ 32 → t < 2 ^ 64 → IsPlaced (length names) rs ss t v →
    IsName (variable names rs v)
variable_is_name names rs ss t (var.Bound i j) n h k p =
    let first = p.0 in
    let sum = p.1 in
    binder_is_name names (get_or rs i 0 + (j - 1)) h (omega arith)
variable_is_name names rs ss t (var.Free q) n h k p = let low = p.0 in let high = p.1 in
    name_at names (q - 1) n (omega arith)

module _ (names : List (List ℕ)) (rs : List ℕ) (good : AreNames names) (few : length names < 2 ^ 32) where
  abbrev IsSpelled : {b : Bool} → ℕ → Part b → Type 0
  IsSpelled {b = true} t p = (after : Bool) (g : List ℕ) → IsApart after g →
      (ks : List Token) (bs : List ℕ) → Spelled ks bs →
      Spells after (tokens names rs t p ++ ks) (g ++ (part_text names rs t p ++ bs))
  IsSpelled {b = false} t p = (ks : List Token) (bs : List ℕ) → Spelled ks bs →
      Spelled (tokens names rs t p ++ ks) (part_text names rs t p ++ bs)

  argument : (bare : Bool) (t : ℕ) (u : Part true) → IsSpelled t u →
      (ks : List Token) (bs : List ℕ) → Spelled ks bs →
      Spelled (in_brackets bare (tokens names rs t u) ++ ks) (32 ∷ (bracketed bare (part_text names rs t u) ++ bs))
  argument true t u each ks bs s = λ after. each after (32 ∷ []) (space, λ x. λ e. absurd (cc)) ks bs s
  argument false t u each ks bs s =
      let inside : Spells false (tokens names rs t u ++ (close_bracket ∷ ks))
      (part_text names rs t u ++ (41 ∷ bs)) = each false [] (gap_none, λ e. absurd (cc))
      (close_bracket ∷ ks) (41 ∷ bs) (sign_token refl right s) in
      let shift : part_text names rs t u ++ (41 ∷ bs) ≡
      (part_text names rs t u ++ (41 ∷ [])) ++ bs = sym (append_assoc (part_text names rs t u) (41 ∷ []) bs) in
      let shift' : tokens names rs t u ++ (close_bracket ∷ ks) ≡
      (tokens names rs t u ++ (close_bracket ∷ [])) ++ ks = sym
      (append_assoc (tokens names rs t u) (close_bracket ∷ []) ks) in
      λ after. subst (λ (x : List ℕ). Spells after
      (open_bracket ∷ ((tokens names rs t u ++ (close_bracket ∷ [])) ++ ks)) (32 ∷ (40 ∷ x))) shift
      (subst (λ (x : List Token). Spells after (open_bracket ∷ x)
      (32 ∷ (40 ∷ (part_text names rs t u ++ (41 ∷ bs))))) shift'
      (spells_one {g = 32 ∷ []} space (λ x y. λ e. absurd (cc)) left inside))

  spelled : {b : Bool} (p : Part b) (ss : List (ℕ × ℕ)) (i t : ℕ) → IsGood (length names) rs ss i t p → IsSpelled t p
  spelled (term l v ts) ss i t h = λ after g a ks bs s.
      let rest : Spelled (tokens names rs (t + l) ts ++ ks)
      (part_text names rs (t + l) ts ++ bs) = spelled ts ((i, l) ∷ ss) (suc i) (t + l) h.2 ks bs s in
      let head = head_spelled names t l (variable names rs v) few h.0
      (variable_is_name names rs ((i, l) ∷ ss) (t + l) v good few h.0 h.1) rest after g a in
      let shift : abstractions names t l ++
      (variable names rs v ++ (part_text names rs (t + l) ts ++ bs)) ≡
      (abstractions names t l ++ (variable names rs v ++ part_text names rs (t + l) ts)) ++ bs =
      ap (λ (y : List ℕ). abstractions names t l ++ y)
      (sym (append_assoc (variable names rs v) (part_text names rs (t + l) ts) bs))
      ∙ sym (append_assoc (abstractions names t l) (variable names rs v ++ part_text names rs (t + l) ts) bs) in
      subst (λ (y : List ℕ). Spells after (tokens names rs t (term l v ts) ++ ks) (g ++ y)) shift
      (subst (λ (y : List Token). Spells after y
      (g ++ (abstractions names t l ++ (variable names rs v ++
      (part_text names rs (t + l) ts ++ bs)))))
      (sym (under_more names t l (name (variable names rs v) ∷ tokens names rs (t + l) ts) ks)) head)
  spelled lost ss i t h = absurd h
  spelled cut ss i t h = absurd h
  spelled none ss i t h = λ ks bs s. s
  spelled (more u us) ss i t h = λ ks bs s.
      let rest : Spelled (tokens names rs t us ++ ks)
      (part_text names rs t us ++ bs) = spelled us ss (i + length (preorder u)) t h.1 ks bs s in
      let whole = argument (is_bare u) t u (spelled u ss i t h.0) (tokens names rs t us ++ ks)
      (part_text names rs t us ++ bs) rest in
      λ after. subst (λ (y : List ℕ). Spells after (tokens names rs t (more u us) ++ ks) (32 ∷ y))
      (sym (append_assoc (bracketed (is_bare u) (part_text names rs t u)) (part_text names rs t us) bs))
      (subst (λ (y : List Token). Spells after y
      (32 ∷ (bracketed (is_bare u) (part_text names rs t u) ++
      (part_text names rs t us ++ bs)))) (sym
      (append_assoc (in_brackets (is_bare u) (tokens names rs t u)) (tokens names rs t us) ks)) (whole after))

  pub tree_spelled : (t : Part true) → IsGood (length names) rs [] 0 0 t →
      Spells false (tokens names rs 0 t) (part_text names rs 0 t)
  tree_spelled t h =
      subst (λ (x : List ℕ). Spells false (tokens names rs 0 t) x) (append-nil (part_text names rs 0 t))
      (subst (λ (x : List Token). Spells false x (part_text names rs 0 t ++ []))
      (append-nil (tokens names rs 0 t)) (spelled t [] 0 0 h false []
      (gap_none, λ e. absurd (cc)) [] [] (λ after. spells_none (last_gap gap_none))))
