-- Lets at the front, token by token.
use Rattle.std.proofs.Common.{◌≡◌, ℕ, ◌+◌, List, ◌++◌, length, take, drop, Bool, false, sym, ap, ◌∙◌, subst, arith}
use Rattle.std.proofs.Common.{Some, None, ◌≤◌, ◌-◌, true}
use Rattle.std.specs.Prelude.{◌==◌, if◌then◌else◌}
use Rattle.std.proofs.Math.Seq.{take-append_seam, drop-append_seam}
use Rattle.ol_parse.specs.Grammar.{Named, Token, name, let_key, in_key, lambda, dot, equals, open_bracket, close_bracket}
use Rattle.ol_parse.specs.Texts.{is_word, Spells, spells_none, spells_one, IsText}
use Rattle.ol_places.specs.declared.tokens.FirstToken.{FirstToken}
use Rattle.ol_places.specs.Tokens.{kind_token, IsFirstToken}
use Rattle.ol_steps.specs.declared.fronts.Spot.{Spot}
use Rattle.ol_steps.specs.declared.fronts.Spot.TheVariants.{Front, Value, Behind}
use Rattle.ol_steps.specs.Fronts.{lets_of_term}
use Rattle.ol_steps.specs.Scanned.{spot_after, begins_let, lets_among, open_in, IsCounted, AreCounted}
use Rattle.ol_steps.proofs.Passed.{counted_term}

pub counted_begin : (bytes : List ℕ) → AreCounted bytes 0 Front bytes
counted_begin bytes t text = record {
  after = false;
  tokens = text.tokens;
  spelled = text.spelled;
  is = counted_term text.term
      ∙ (let z : lets_among Front text.tokens ≡ 0 + lets_among Front text.tokens = omega arith in z);
}

plus_one : (n : ℕ) (b : Bool) (m : ℕ) → n + (if b then 1 + m else m) ≡ n + (if b then 1 else 0) + m
plus_one n true m = omega arith
plus_one n false m = omega arith

-- one token more
one_more : {after : Bool} {tokens : List Token} {rest behind token left : List ℕ} (all so_far : ℕ) (first : FirstToken)
    (p q : Spot) (n : ℕ) (s : Spells after tokens rest) → behind ≡ drop first.gap rest → token ≡ take first.length behind →
    left ≡ drop first.length behind → IsFirstToken (Some first) s → all ≡ so_far + lets_among p tokens →
    n ≡ (if begins_let p (kind_token first.kind token) then 1 else 0) → q ≡ spot_after p (kind_token first.kind token) →
    IsCounted all (so_far + n) q left
one_more all so_far first p q n (spells_none last) b t l is e f g = absurd is
one_more {behind = behind} {token = token} {left = left} all so_far first p q n
    (spells_one {k = k} {ks = ks} {g = g} {a = a} {bs = bs} between apart word s) b t l is e f h =
    let behind_is : behind ≡ a ++ bs = b ∙ ap (λ j. drop j (g ++ (a ++ bs))) is.0 ∙ drop-append_seam g (a ++ bs) in
    let token_is : token ≡ a = t ∙ ap (λ j. take j behind) is.1 ∙ ap (take (length a)) behind_is ∙ take-append_seam a bs in
    let left_is : left ≡ bs = l ∙ ap (λ j. drop j behind) is.1 ∙ ap (drop (length a)) behind_is ∙ drop-append_seam a bs in
    let k_is : kind_token first.kind token ≡ k = ap (kind_token first.kind) token_is ∙ is.2 in
    let n_is : n ≡ (if begins_let p k then 1 else 0) = f ∙ ap (λ (j : Token). if begins_let p j then 1 else 0) k_is in
    let q_is : q ≡ spot_after p k = h ∙ ap (spot_after p) k_is in
    subst (λ (x : List ℕ). IsCounted all (so_far + n) q x) (sym left_is) (record {
      after = is_word k;
      tokens = ks;
      spelled = s;
      is = e ∙ plus_one so_far (begins_let p k) (lets_among (spot_after p k) ks)
          ∙ ap (λ (m : ℕ). so_far + m + lets_among (spot_after p k) ks) (sym n_is)
          ∙ ap (λ (x : Spot). so_far + n + lets_among x ks) (sym q_is);
    })

pub counted_more : {bytes rest behind token left : List ℕ} (so_far : ℕ) (first : FirstToken) (p q : Spot) (n : ℕ) →
    behind ≡ drop first.gap rest → token ≡ take first.length behind → left ≡ drop first.length behind →
    ((after : Bool) (tokens : List Token) (s : Spells after tokens rest) → IsFirstToken (Some first) s) →
    AreCounted bytes so_far p rest → n ≡ (if begins_let p (kind_token first.kind token) then 1 else 0) →
    q ≡ spot_after p (kind_token first.kind token) → AreCounted bytes (so_far + n) q left
counted_more so_far first p q n b k l is each f g t text =
    let c = each t text in one_more (lets_of_term text.term) so_far first p q n c.spelled b k l (is c.after c.tokens c.spelled) c.is f g

-- no token is left
last_one : {after : Bool} {tokens : List Token} {rest : List ℕ} (all so_far : ℕ) (p : Spot) (s : Spells after tokens rest) →
    all ≡ so_far + lets_among p tokens → IsFirstToken None s → so_far ≡ all
last_one all so_far p (spells_none last) e i = let n : so_far + 0 ≡ so_far = omega arith in sym (e ∙ n)
last_one all so_far p (spells_one between apart t s) e i = absurd i

pub counted_end : {bytes rest : List ℕ} (so_far : ℕ) (p : Spot) → AreCounted bytes so_far p rest →
    ((after : Bool) (tokens : List Token) (s : Spells after tokens rest) → IsFirstToken None s) →
    (t : Named) (text : IsText bytes t) → so_far ≡ lets_of_term text.term
counted_end so_far p each none t text =
    let c = each t text in last_one (lets_of_term text.term) so_far p c.spelled c.is (none c.after c.tokens c.spelled)

-- ---- how much one token changes

if_closed : (b : Bool) (d : ℕ) → open_in (if b then Front else Value (d - 1)) ≤ d + 1
if_closed true d = omega arith
if_closed false d = omega arith

pub open_few : (p : Spot) (k : Token) → open_in (spot_after p k) ≤ open_in p + 1
open_few Front (name x) = omega arith
open_few Front let_key = omega arith
open_few Front in_key = omega arith
open_few Front lambda = omega arith
open_few Front dot = omega arith
open_few Front equals = omega arith
open_few Front open_bracket = omega arith
open_few Front close_bracket = omega arith
open_few (Value d) (name x) = omega arith
open_few (Value d) let_key = omega arith
open_few (Value d) in_key = if_closed (d == 0) d
open_few (Value d) lambda = omega arith
open_few (Value d) dot = omega arith
open_few (Value d) equals = omega arith
open_few (Value d) open_bracket = omega arith
open_few (Value d) close_bracket = omega arith
open_few Behind k = omega arith
