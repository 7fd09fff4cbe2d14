-- A derivation, line by line.
use Rattle.std.proofs.Common.{◌≡◌, ℕ, zero, suc, ◌+◌, ◌<◌, Bool, true, false, List, [], ◌∷◌, ◌++◌, append_assoc, append-nil, length, drop, refl, sym, ap, ◌∙◌, subst, arith}
use Rattle.std.specs.Prelude.{◌&&◌, ◌≤◌, get_or, map}
use Rattle.std.specs.Borrow.{Bor}
use Rattle.ol_derivations.specs.Lines.{all_left_out}
use Rattle.ol_derivations.specs.Derivations.{Terms, no_terms, IsLine, AreLines, none, more}

and_assoc : (a b c : Bool) → (a && (b && c)) ≡ ((a && b) && c)
and_assoc true b c = refl
and_assoc false b c = refl

and_true : (a : Bool) → (a && true) ≡ a
and_true true = refl
and_true false = refl

-- whatever is said of the lines from line k + 1 on, behind this text it is said of all lines
abbrev pub Onward : List (List ℕ) → ℕ → Terms → List ℕ → Bool → Type 0
Onward lines k terms text fine = (rest : List ℕ) (all : Bool) → AreLines (k + 1) terms (drop k lines) rest all →
    AreLines 1 no_terms lines (text ++ rest) (fine && all)

pub begins : (lines : List (List ℕ)) (terms : Terms) (text : List ℕ) → terms ≡ no_terms → text ≡ [] →
    Onward lines 0 terms text true
begins lines terms text e t rest all are = subst (λ text. AreLines 1 no_terms lines (text ++ rest) all) (sym t)
    (subst (λ terms. AreLines 1 terms lines rest all) e are)

pub goes_on : (lines : List (List ℕ)) (k : ℕ) (line : List ℕ) (terms after : Terms) (text told : List ℕ)
    (fine now : Bool) → drop k lines ≡ line ∷ drop (k + 1) lines → Onward lines k terms text fine →
    IsLine (k + 1) line terms after told now → Onward lines (k + 1) after (text ++ told) (fine && now)
goes_on lines k line terms after text told fine now d on is rest all are =
    let here : AreLines (k + 1) terms (drop k lines) (told ++ rest) (now && all) =
    subst (λ l. AreLines (k + 1) terms l (told ++ rest) (now && all)) (sym d) (more is are) in
    subst (λ text. AreLines 1 no_terms lines text ((fine && now) && all)) (sym (append_assoc text told rest))
    (subst (λ all. AreLines 1 no_terms lines (text ++ (told ++ rest)) all) (and_assoc fine now all)
    (on (told ++ rest) (now && all) here))

pub ends : (lines : List (List ℕ)) (k : ℕ) (terms : Terms) (text : List ℕ) (fine : Bool) →
    drop k lines ≡ [] → Onward lines k terms text fine → AreLines 1 no_terms lines text fine
ends lines k terms text fine d on =
    subst (λ text. AreLines 1 no_terms lines text fine) (append-nil text)
    (subst (λ all. AreLines 1 no_terms lines (text ++ []) all) (and_true fine)
    (on [] true (subst (λ l. AreLines (k + 1) terms l [] true) (sym d) none)))

-- ---- the lines as they are kept

line_at : (items : List (Bor (List ℕ))) (k : ℕ) (x : Bor (List ℕ)) → k < length items → x ≡ get_or items k x →
    drop k (map (λ x. x.now) items) ≡ x.now ∷ drop (suc k) (map (λ x. x.now) items)
line_at [] k x l e = absurd (omega arith)
line_at (y ∷ items) zero x l e = ap (λ (y : Bor (List ℕ)). y.now ∷ map (λ x. x.now) items) (sym e)
line_at (y ∷ items) (suc k) x l e = line_at items k x (omega arith) e

pub line_here : (items : List (Bor (List ℕ))) (k : ℕ) (x : Bor (List ℕ)) → k < length items → x ≡ get_or items k x →
    drop k (map (λ x. x.now) items) ≡ x.now ∷ drop (k + 1) (map (λ x. x.now) items)
line_here items k x l e = line_at items k x l e
    ∙ ap (λ n. x.now ∷ drop n (map (λ x. x.now) items)) (let q : suc k ≡ k + 1 = omega arith in q)

pub none_left : (items : List (Bor (List ℕ))) (k : ℕ) → length items ≤ k → drop k (map (λ x. x.now) items) ≡ []
none_left [] zero l = refl
none_left [] (suc k) l = refl
none_left (y ∷ items) zero l = absurd (omega arith)
none_left (y ∷ items) (suc k) l = none_left items k (omega arith)

-- whether all lines are left out, as it is found
pub sheet : (items now : List (Bor (List ℕ))) (lines : List (List ℕ)) (found b : Bool) →
    map (λ x. x.now) items ≡ lines → now ≡ items → found ≡ all_left_out (map (λ x. x.now) now) → found ≡ b →
    all_left_out lines ≡ b
sheet items now lines found b e d f g =
    ap all_left_out (sym e) ∙ ap (λ (xs : List (Bor (List ℕ))). all_left_out (map (λ x. x.now) xs)) (sym d) ∙ sym f ∙ g
