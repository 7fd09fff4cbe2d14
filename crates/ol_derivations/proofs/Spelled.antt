-- The text of an application is one of the function applied to the arguments of the line.
use Rattle.std.proofs.Common.{◌≡◌, ℕ, Bool, true, false, List, [], ◌∷◌, ◌++◌, append_assoc, refl, sym, ap, ◌∙◌, subst, codes}
use Rattle.ol_term.specs.Trees.{Tree}
use Rattle.ol_parse.specs.Grammar.{Named, app, Token, open_bracket, close_bracket, IsTerm, IsSpine, IsAtom}
use Rattle.ol_parse.specs.Grammar.{term_spine, term_both, spine_one, spine_more, atom_brackets}
use Rattle.ol_parse.specs.Texts.{class_of, IsGap, gap_none, gap_blank, gap_comment, last_gap, last_comment}
use Rattle.ol_parse.specs.Texts.{IsToken, token_sign, Spells, spells_none, spells_one}
use Rattle.ol_parse.specs.Parsed.{IsFileOf}
use Rattle.ol_derivations.specs.Applied.{ToAtoms, one, more, ToArguments, atoms, body, both, IsApplied}

pub clash : {P : Type 0} → false ≡ true → P
clash e = absurd (cc)

-- ---- bytes

-- two gaps are a gap
gaps : {g h : List ℕ} → IsGap g → IsGap h → IsGap (g ++ h)
gaps gap_none k = k
gaps (gap_blank e i) k = gap_blank e (gaps i k)
gaps {h = h} (gap_comment {b = b} {g = g} e c l i) k =
    subst IsGap (ap (λ bs. b ∷ bs) (sym (append_assoc c (10 ∷ g) h))) (gap_comment e c l (gaps i k))

line_feed : IsGap (10 ∷ [])
unfolding class_of
line_feed = gap_blank refl gap_none

-- a gap before tokens, where no word stands before
pub spaced : {ks : List Token} {h bs : List ℕ} → IsGap h → Spells false ks bs → Spells false ks (h ++ bs)
spaced i (spells_none (last_gap j)) = spells_none (last_gap (gaps i j))
spaced {h = h} i (spells_none (last_comment {g = g} j b q c l)) =
    subst (Spells false []) (append_assoc h g (b ∷ c)) (spells_none (last_comment (gaps i j) b q c l))
spaced {h = h} i (spells_one {k = k} {ks = ks} {g = g} {a = a} {bs = bs} j n t s) =
    subst (Spells false (k ∷ ks)) (append_assoc h g (a ++ bs)) (spells_one (gaps i j) (λ e _. clash e) t s)

pub space : IsGap (32 ∷ [])
unfolding class_of
space = gap_blank refl gap_none

pub close_token : IsToken close_bracket (41 ∷ [])
unfolding class_of
close_token = token_sign refl

pub open_token : IsToken open_bracket (40 ∷ [])
unfolding class_of
open_token = token_sign refl

-- behind any text a line feed and a closing bracket
closed : {after : Bool} {ks js : List Token} {bs cs : List ℕ} → Spells after ks bs → Spells false js cs →
    Spells after (ks ++ (close_bracket ∷ js)) (bs ++ (10 ∷ (41 ∷ cs)))
closed {after = after} {js = js} {cs = cs} (spells_none (last_gap {g = g} i)) s =
    subst (Spells after (close_bracket ∷ js)) (append_assoc g (10 ∷ []) (41 ∷ cs))
    (spells_one (gaps i line_feed) (λ _ e. clash e) close_token s)
closed {after = after} {js = js} {cs = cs} (spells_none (last_comment {g = g} i b q c l)) s =
    subst (Spells after (close_bracket ∷ js))
    (ap (λ bs. bs ++ (41 ∷ cs)) (sym (append_assoc g (b ∷ c) (10 ∷ []))) ∙ append_assoc (g ++ (b ∷ c)) (10 ∷ []) (41 ∷ cs))
    (spells_one (gaps i (gap_comment q c l gap_none)) (λ _ e. clash e) close_token s)
closed {after = after} {js = js} {cs = cs} (spells_one {k = k} {ks = ks} {g = g} {a = a} {bs = bs} i n t r) s =
    subst (Spells after (k ∷ (ks ++ (close_bracket ∷ js))))
    (ap (λ x. g ++ x) (sym (append_assoc a bs (10 ∷ (41 ∷ cs)))) ∙ sym (append_assoc g (a ++ bs) (10 ∷ (41 ∷ cs))))
    (spells_one i n t (closed r s))

-- ---- texts

abbrev pub text_of : (function line : List ℕ) → List ℕ
text_of function line = codes "(" ++ function ++ codes "\n) " ++ line

-- the tokens of the application, in its text
abbrev tokens_of : (function line : List Token) → List Token
tokens_of function line = open_bracket ∷ (function ++ (close_bracket ∷ line))

spelled_of : (function line : List ℕ) (ks js : List Token) → Spells false ks function → Spells false js line →
    Spells false (tokens_of ks js) (text_of function line)
spelled_of function line ks js p q =
    let bytes : 40 ∷ (function ++ (10 ∷ (41 ∷ (32 ∷ line)))) ≡ text_of function line =
    sym (append_assoc (40 ∷ function) (10 ∷ (41 ∷ (32 ∷ []))) line) in
    let spelled : Spells false (tokens_of ks js) (40 ∷ (function ++ (10 ∷ (41 ∷ (32 ∷ line))))) =
    spells_one gap_none (λ e _. clash e) open_token (closed p (spaced space q)) in
    subst (Spells false (tokens_of ks js)) bytes spelled

bracketed : (ks js : List Token) (t : Named) → IsTerm ((open_bracket ∷ ks ++ (close_bracket ∷ [])) ++ js) t →
    IsTerm (tokens_of ks js) t
bracketed ks js t h =
    subst (λ x. IsTerm x t) (ap (λ x. open_bracket ∷ x) (append_assoc ks (close_bracket ∷ []) js)) h

-- each term that is the function applied to the line's arguments is one of that text
to_spine : {a : List Token} {f : Named} {b : List Token} {t : Named} → IsAtom a f → ToAtoms f b t → IsSpine (a ++ b) t
to_spine i (one j) = spine_more (spine_one i) j
to_spine {a = a} i (more {a = b} {b = c} {g = g} {t = t} h j) =
    subst (λ ks. IsSpine ks (app g t)) (append_assoc a b c) (spine_more (to_spine i h) j)

pub to_term : {a : List Token} {f : Named} {b : List Token} {t : Named} → IsAtom a f → ToArguments f b t → IsTerm (a ++ b) t
to_term i (atoms h) = term_spine (to_spine i h)
to_term i (body j) = term_both (spine_one i) j
to_term {a = a} i (both {a = b} {b = c} {g = g} {t = t} h j) =
    subst (λ ks. IsTerm ks (app g t)) (append_assoc a b c) (term_both (to_spine i h) j)

pub application_file : {function line : List ℕ} {t : Tree} {names : List (List ℕ)} → IsApplied function line t names →
    IsFileOf (text_of function line) t names
application_file {function} {line} h = record {
  named = h.whole;
  text = record {
    tokens = tokens_of h.text.tokens h.tokens;
    spelled = spelled_of function line h.text.tokens h.tokens h.text.spelled h.spelled;
    term = bracketed h.text.tokens h.tokens h.whole (to_term (atom_brackets h.text.term) h.applied);
  };
  tree = h.tree;
  free_names = h.free_names;
}
