-- The first token of bytes, however they are read as tokens.
use Rattle.std.proofs.Common.{◌≡◌, ℕ, ◌+◌, ◌<◌, List, [], ◌++◌, length, take, drop, Bool, false, sym, ap, ◌∙◌, subst, arith}
use Rattle.std.proofs.Common.{Some, None, length-append}
use Rattle.std.proofs.Math.Seq.{take-append_seam, drop-append_seam}
use Rattle.std.proofs.lemmas.List.{drop_all}
use Rattle.ol_parse.specs.Grammar.{Token}
use Rattle.ol_parse.specs.Texts.{is_word, IsToken, Spells, spells_none, spells_one}
use Rattle.ol_places.specs.declared.tokens.Kind.{Kind}
use Rattle.ol_places.specs.Tokens.{kind_token, IsFirstToken}
use Rattle.ol_places.specs.Gaps.{gap_length}
use Rattle.ol_places.proofs.Lengths.{last_gap_is, gap_is as gap_length_is}
use Rattle.ol_parse.proofs.Sizes.{some_byte}

-- the token that comes first has this many bytes, whatever it is
abbrev IsLength : List ℕ → ℕ → Type 0
IsLength behind n = (k : Token) (ks : List Token) (a bs : List ℕ) → behind ≡ a ++ bs → IsToken k a →
    Spells (is_word k) ks bs → n ≡ length a

-- no byte stands behind the gap
pub none_first : (rest behind : List ℕ) → behind ≡ drop (gap_length false rest) rest → length behind ≡ 0 →
    (after : Bool) (tokens : List Token) (s : Spells after tokens rest) → IsFirstToken None s
none_first rest behind f z after tokens (spells_none last) = tt
none_first rest behind f z after tokens (spells_one {g = g} {a = a} {bs = bs} between apart t s) =
    let l = gap_length_is between t bs in
    let some = some_byte t in
    let b = ap length (f ∙ ap (λ j. drop j (g ++ (a ++ bs))) l ∙ drop-append_seam g (a ++ bs)) in
    let n = length-append a bs in
    absurd (omega arith)

-- this token stands behind the gap
pub some_first : (rest behind token : List ℕ) (gap n : ℕ) (kind : Kind) → gap ≡ gap_length false rest →
    behind ≡ drop gap rest → token ≡ take n behind → IsLength behind n →
    ((k : Token) → IsToken k token → kind_token kind token ≡ k) → 0 < length behind →
    (after : Bool) (tokens : List Token) (s : Spells after tokens rest) →
    IsFirstToken (Some (record { gap = gap; length = n; kind = kind })) s
some_first rest behind token gap n kind gap_is behind_of token_of long kind_is some after tokens (spells_none last) =
    let l = last_gap_is last in
    let none : behind ≡ [] = behind_of ∙ drop_all gap rest (omega arith) in
    let zero = ap length none in
    absurd (omega arith)
some_first rest behind token gap n kind gap_is behind_of token_of long kind_is some after tokens
    (spells_one {k = k} {ks = ks} {g = g} {a = a} {bs = bs} between apart t s) =
    let l = gap_is ∙ gap_length_is between t bs in
    let behind_is : behind ≡ a ++ bs =
    behind_of ∙ ap (λ j. drop j (g ++ (a ++ bs))) l ∙ drop-append_seam g (a ++ bs) in
    let n_is = long k ks a bs behind_is t s in
    let token_is_a : token ≡ a = token_of ∙ ap (λ j. take j behind) n_is ∙ ap (take (length a)) behind_is
    ∙ take-append_seam a bs in (
      l,
      n_is,
      ap (kind_token kind) (sym token_is_a) ∙ kind_is k (subst (IsToken k) (sym token_is_a) t),
    )
