-- The lines of free names, token by token.
use Rattle.std.proofs.Common.{◌≡◌, ℕ, List, [], ◌++◌, length, take, drop, Bool, false, refl, sym, ap, ◌∙◌, subst}
use Rattle.std.proofs.Common.{Some, None, append_assoc, append-nil}
use Rattle.std.proofs.Math.Seq.{take-append_seam, drop-append_seam}
use Rattle.ol_parse.specs.Grammar.{Named, Token}
use Rattle.ol_parse.specs.Texts.{is_word, Spells, spells_none, spells_one, IsText}
use Rattle.ol_places.specs.declared.tokens.FirstToken.{FirstToken}
use Rattle.ol_places.specs.Tokens.{kind_token, IsFirstToken}
use Rattle.ol_places.specs.declared.columns.Place.{Place}
use Rattle.ol_places.specs.declared.scanning.Mode.{Mode}
use Rattle.ol_places.specs.declared.scanning.Mode.TheVariants.{Atom}
use Rattle.ol_places.specs.Frees.{first_place, behind_all, line_if, lines_of, free_lines}
use Rattle.ol_places.specs.Scans.{Scope, is_free_at, mode_after, scopes_after, frees, IsLeft}
use Rattle.ol_places.proofs.ScannedNames.{scanned}

-- for each reading of the bytes the rest of the lines is still to be told
abbrev pub AreLeft : List ℕ → List ℕ → Place → Mode → List Scope → List ℕ → Type 0
AreLeft bytes so_far p m ss rest = (t : Named) (text : IsText bytes t) → IsLeft (free_lines text) so_far p m ss rest

moved : {lines x so_far : List ℕ} {q p : Place} {n m : Mode} {rs ss : List Scope} {y rest : List ℕ} → x ≡ so_far →
    q ≡ p → n ≡ m → rs ≡ ss → y ≡ rest → IsLeft lines x q n rs y → IsLeft lines so_far p m ss rest
moved {lines = lines} {so_far = so_far} {q = q} {p = p} {n = n} {m = m} {rs = rs} {ss = ss} {y = y} a b c d e l =
    subst (λ v. IsLeft lines so_far p m ss v) e
    (subst (λ v. IsLeft lines so_far p m v y) d
    (subst (λ v. IsLeft lines so_far p v rs y) c
    (subst (λ v. IsLeft lines so_far v n rs y) b
    (subst (λ v. IsLeft lines v q n rs y) a l))))

pub left_begin : (bytes so_far : List ℕ) (p : Place) (m : Mode) (ss : List Scope) → so_far ≡ [] → p ≡ first_place →
    m ≡ Atom → ss ≡ [] → AreLeft bytes so_far p m ss bytes
left_begin bytes so_far p m ss e f g h t text =
    let begun : IsLeft (free_lines text) [] first_place Atom [] bytes = record {
      after = false;
      tokens = text.tokens;
      spelled = text.spelled;
      is = ap (lines_of first_place text.spelled) (sym (scanned text.term));
    } in
    moved (sym e) (sym f) (sym g) (sym h) refl begun

-- a token is split off: the gap before it, the token, and what is left
pub record IsSplit (rest gap behind token left : List ℕ) (f : FirstToken) : Type 0 where
  pub gap_of : gap ≡ take f.gap rest
  pub behind_of : behind ≡ drop f.gap rest
  pub token_of : token ≡ take f.length behind
  pub left_of : left ≡ drop f.length behind

-- one token more
more : {after : Bool} {tokens : List Token} {lines rest gap behind token left : List ℕ} (so_far so_far' : List ℕ)
    (first : FirstToken) (p : Place) (m m' : Mode) (ss ss' : List Scope) (free : Bool) (s : Spells after tokens rest) →
    IsSplit rest gap behind token left first → IsFirstToken (Some first) s →
    lines ≡ so_far ++ lines_of p s (frees m ss tokens) → free ≡ is_free_at m ss (kind_token first.kind token) →
    m' ≡ mode_after m (kind_token first.kind token) → ss' ≡ scopes_after m ss (kind_token first.kind token) →
    so_far' ≡ so_far ++ line_if free token (behind_all p gap) →
    IsLeft lines so_far' (behind_all (behind_all p gap) token) m' ss' left
more so_far so_far' first p m m' ss ss' free (spells_none last) split is e f g h i = absurd is
more {lines = lines} {gap = gap} {behind = behind} {token = token} {left = left} so_far so_far' first p m m' ss ss' free
    (spells_one {k = k} {ks = ks} {g = g} {a = a} {bs = bs} between apart t s) split is e f mode scopes lines_are =
    let gap_is_g : gap ≡ g = split.gap_of ∙ ap (λ j. take j (g ++ (a ++ bs))) is.0 ∙ take-append_seam g (a ++ bs) in
    let behind_is : behind ≡ a ++ bs =
    split.behind_of ∙ ap (λ j. drop j (g ++ (a ++ bs))) is.0 ∙ drop-append_seam g (a ++ bs) in
    let token_is_a : token ≡ a = split.token_of ∙ ap (λ j. take j behind) is.1 ∙ ap (take (length a)) behind_is
    ∙ take-append_seam a bs in
    let left_is : left ≡ bs = split.left_of ∙ ap (λ j. drop j behind) is.1 ∙ ap (drop (length a)) behind_is
    ∙ drop-append_seam a bs in
    let x_is : kind_token first.kind token ≡ k = ap (kind_token first.kind) token_is_a ∙ is.2 in
    let here = behind_all p g in
    let line = line_if (is_free_at m ss k) a here in
    let next : IsLeft lines (so_far ++ line) (behind_all here a) (mode_after m k) (scopes_after m ss k) bs = record {
      after = is_word k;
      tokens = ks;
      spelled = s;
      is = e ∙ sym (append_assoc so_far line
          (lines_of (behind_all here a) s (frees (mode_after m k) (scopes_after m ss k) ks)));
    } in
    moved
    (sym (lines_are ∙ ap (λ y. so_far ++ line_if y token (behind_all p gap)) (f ∙ ap (is_free_at m ss) x_is)
    ∙ ap (λ y. so_far ++ line_if (is_free_at m ss k) y (behind_all p gap)) token_is_a
    ∙ ap (λ y. so_far ++ line_if (is_free_at m ss k) a (behind_all p y)) gap_is_g))
    (sym (ap (λ y. behind_all (behind_all p gap) y) token_is_a ∙ ap (λ y. behind_all (behind_all p y) a) gap_is_g))
    (sym (mode ∙ ap (mode_after m) x_is)) (sym (scopes ∙ ap (scopes_after m ss) x_is)) (sym left_is) next

pub left_more : {bytes rest gap behind token left : List ℕ} (so_far so_far' : List ℕ) (first : FirstToken) (p : Place)
    (m m' : Mode) (ss ss' : List Scope) (free : Bool) → IsSplit rest gap behind token left first →
    ((after : Bool) (tokens : List Token) (s : Spells after tokens rest) → IsFirstToken (Some first) s) →
    AreLeft bytes so_far p m ss rest → free ≡ is_free_at m ss (kind_token first.kind token) →
    m' ≡ mode_after m (kind_token first.kind token) → ss' ≡ scopes_after m ss (kind_token first.kind token) →
    so_far' ≡ so_far ++ line_if free token (behind_all p gap) →
    AreLeft bytes so_far' (behind_all (behind_all p gap) token) m' ss' left
left_more so_far so_far' first p m m' ss ss' free split is each f g h i t text =
    let l = each t text in
    more so_far so_far' first p m m' ss ss' free l.spelled split (is l.after l.tokens l.spelled) l.is f g h i

-- no token is left
ended : {after : Bool} {tokens : List Token} {lines rest : List ℕ} (so_far : List ℕ) (p : Place) (m : Mode)
    (ss : List Scope) (s : Spells after tokens rest) → lines ≡ so_far ++ lines_of p s (frees m ss tokens) →
    IsFirstToken None s → so_far ≡ lines
ended so_far p m ss (spells_none last) e i = sym (e ∙ append-nil so_far)
ended so_far p m ss (spells_one between apart t s) e i = absurd i

pub left_end : {bytes rest : List ℕ} (so_far : List ℕ) (p : Place) (m : Mode) (ss : List Scope) →
    AreLeft bytes so_far p m ss rest →
    ((after : Bool) (tokens : List Token) (s : Spells after tokens rest) → IsFirstToken None s) →
    (t : Named) (text : IsText bytes t) → so_far ≡ free_lines text
left_end so_far p m ss each none t text =
    let l = each t text in ended so_far p m ss l.spelled l.is (none l.after l.tokens l.spelled)
