-- The text of a place, piece by piece.
use Rattle.std.proofs.Common.{◌≡◌, ℕ, zero, suc, ◌+◌, ◌<◌, List, [], ◌∷◌, ◌++◌, append_assoc, append-nil, refl, sym, ap, ◌∙◌, arith, slice_index}
use Rattle.ol_term.specs.BinderNames.{binder_name}
use Rattle.ol_readback.specs.Texts.{AreNamed, IsNamedNode, abstractions, spaced}
use Rattle.ol_readback.specs.declared.answers.HeadVar.{HeadVar}
use Rattle.ol_readback.specs.declared.answers.ReadNode.{ReadNode}
use Rattle.ol_readback.specs.declared.answers.ReadNode.TheVariants as node
use Rattle.ol_equal.specs.Comparing.{place_at}
use Rattle.ol_derivations.specs.Heads.{head_text, told_variable, underscores}
use Rattle.ol_derivations.specs.PlacesOfPaths.{opened, sign}

-- one underscore more
pub underscored : (k : ℕ) → underscores (k + 1) ≡ underscores k ++ 32 ∷ (95 ∷ [])
underscored k = ap underscores (let e : k + 1 ≡ suc k = omega arith in e) ∙ turned k
  where
    turned : (k : ℕ) → underscores (suc k) ≡ underscores k ++ 32 ∷ (95 ∷ [])
    turned zero = refl
    turned (suc k) = ap (λ (text : List ℕ). 32 ∷ (95 ∷ text)) (turned k)

-- one name more behind a space
spaced_more : (names : List (List ℕ)) (t l : ℕ) →
    spaced names t (suc l) ≡ spaced names t l ++ 32 ∷ binder_name names (t + l)
spaced_more names t zero =
    append-nil (32 ∷ binder_name names t)
    ∙ ap (λ t. 32 ∷ binder_name names t) (let e : t ≡ t + 0 = omega arith in e)
spaced_more names t (suc l) =
    ap (λ text. 32 ∷ (binder_name names t ++ text)) (spaced_more names (suc t) l)
    ∙ ap (λ text. 32 ∷ text) (sym (append_assoc (binder_name names t) (spaced names (suc t) l)
    (32 ∷ binder_name names (suc t + l))))
    ∙ ap (λ n. spaced names t (suc l) ++ 32 ∷ binder_name names n)
    (let e : suc t + l ≡ t + suc l = omega arith in e)

-- one binder more
opened_first : (names : List (List ℕ)) (t : ℕ) → opened names t 1 ≡ 92 ∷ binder_name names t
opened_first names t = append-nil (92 ∷ binder_name names t)

opened_more : (names : List (List ℕ)) (t l : ℕ) →
    opened names t (suc (suc l)) ≡ opened names t (suc l) ++ 32 ∷ binder_name names (t + suc l)
opened_more names t l =
    ap (λ text. 92 ∷ (binder_name names t ++ text)) (spaced_more names (suc t) l)
    ∙ ap (λ text. 92 ∷ text) (sym (append_assoc (binder_name names t) (spaced names (suc t) l)
    (32 ∷ binder_name names (suc t + l))))
    ∙ ap (λ n. opened names t (suc l) ++ 32 ∷ binder_name names n)
    (let e : suc t + l ≡ t + suc l = omega arith in e)

pub opened_on : (names : List (List ℕ)) (start text signed named : List ℕ) (t k b : ℕ) →
    text ≡ start ++ opened names t k → signed ≡ text ++ sign k → b ≡ t + k →
    named ≡ signed ++ binder_name names b → named ≡ start ++ opened names t (k + 1)
opened_on names start text signed named t k b e f g h =
    h ∙ ap (λ s. s ++ binder_name names b) (f ∙ ap (λ s. s ++ sign k) e)
    ∙ ap (λ b. ((start ++ opened names t k) ++ sign k) ++ binder_name names b) g
    ∙ append_assoc (start ++ opened names t k) (sign k) (binder_name names (t + k))
    ∙ append_assoc start (opened names t k) (sign k ++ binder_name names (t + k))
    ∙ ap (λ s. start ++ s) (last k)
    ∙ ap (λ k. start ++ opened names t k) (let q : suc k ≡ k + 1 = omega arith in q)
  where
    last : (k : ℕ) → opened names t k ++ (sign k ++ binder_name names (t + k)) ≡ opened names t (suc k)
    last zero = ap (λ b. 92 ∷ binder_name names b) (let q : t + 0 ≡ t = omega arith in q) ∙ sym (opened_first names t)
    last (suc k) = sym (opened_more names t k)

-- all binders, and what stands behind them
pub abstracted : (names : List (List ℕ)) (start text new : List ℕ) (t l : ℕ) →
    text ≡ start ++ opened names t l → (l ≡ 0 → new ≡ text) → (0 < l → new ≡ text ++ 46 ∷ (32 ∷ [])) →
    new ≡ start ++ abstractions names t l
abstracted names start text new t zero e f g = f refl ∙ e
abstracted names start text new t (suc l) e f g =
    g (omega arith) ∙ ap (λ text. text ++ 46 ∷ (32 ∷ [])) e
    ∙ append_assoc start (opened names t (suc l)) (46 ∷ (32 ∷ []))
    ∙ ap (λ text. start ++ 92 ∷ text) (append_assoc (binder_name names t) (spaced names (suc t) l) (46 ∷ (32 ∷ [])))

-- each free name at a place is one of so many
pub named_at : (count : ℕ) (ns : List ReadNode) (k : ℕ) → AreNamed count ns → IsNamedNode count (place_at ns k)
named_at count [] zero h = tt
named_at count [] (suc k) h = tt
named_at count (n ∷ ns) zero h = h.0
named_at count (n ∷ ns) (suc k) h = named_at count ns k h.1

-- the text of a head, piece by piece
pub placed : (all names : List (List ℕ)) (rs : List ℕ) (k t l n : ℕ) (v : HeadVar) (at : ReadNode)
    (start opened named new : List ℕ) → node.Head l v n ≡ at → t ≡ slice_index rs k →
    opened ≡ start ++ abstractions all t l → named ≡ opened ++ told_variable all names rs v →
    new ≡ named ++ underscores n → new ≡ start ++ head_text all names rs k at
placed all names rs k t l n v at start opened named new e f g h i =
    let a = abstractions all (slice_index rs k) l in
    i ∙ ap (λ s. s ++ underscores n) (h ∙ ap (λ s. s ++ told_variable all names rs v)
    (g ∙ ap (λ t. start ++ abstractions all t l) f) ∙ append_assoc start a (told_variable all names rs v))
    ∙ append_assoc start (a ++ told_variable all names rs v) (underscores n)
    ∙ ap (λ at. start ++ head_text all names rs k at) e
