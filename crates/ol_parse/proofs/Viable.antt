-- Every state goes on to a whole text.
use Rattle.std.proofs.Common.{◌≡◌, ℕ, List, [], ◌∷◌, ◌++◌, Bool, true, false, ◌&&◌, cond, nat_eq}
use Rattle.std.proofs.Common.{Option, Some, None, option_and_then, option_map, refl, ap, ◌∙◌, subst}
use Rattle.std.specs.Str.{bytes_eq}
use Rattle.ol_parse.specs.Grammar.{Named, var, lam, app, Token, name, let_key, in_key, lambda, dot}
use Rattle.ol_parse.specs.Grammar.{equals, close_bracket}
use Rattle.ol_parse.specs.Texts.{Class, blank, hash, letter, sign, lead, class_of, in_word, token_of, is_word, gap_none}
use Rattle.ol_parse.specs.Texts.{gap_blank, last_gap, IsToken, token_sign, token_word, Spells, spells_none, spells_one}
use Rattle.ol_parse.specs.Machine.{Frame, applied, abstracted, bound, bracket, defining, State, at}
use Rattle.ol_parse.specs.Machine.{first_name, more_names, let_name, let_equals, join, finish}
use Rattle.ol_parse.specs.Machine.{at_close, at_in, at_end, step, accepts}
use Rattle.ol_parse.specs.Reading.{Reading, gap, comment, word, half, takes_name, gap_step, byte_step, takes, read}
use Rattle.ol_parse.proofs.Spelled.{then_take, apart, word_ends, spelled}

-- tokens and their bytes, behind a word too, that bring the state to a whole term
record Ends (p : State) : Type 0 where
  tokens : List Token
  bytes : List ℕ
  spells : Spells true tokens bytes
  whole : Named
  accepted : accepts p tokens ≡ Some whole

loose : {ks : List Token} {bs : List ℕ} → Spells true ks bs → (after : Bool) → Spells after ks bs
loose (spells_none i) after = spells_none i
loose (spells_one i n k s) after = spells_one i (λ _. n refl) k s

space : class_of 32 ≡ blank
unfolding class_of
space = refl

put : {k : Token} {ks : List Token} {a bs : List ℕ} → IsToken k a → Spells true ks bs →
    Spells true (k ∷ ks) (32 ∷ a ++ bs)
put {k = k} i s = spells_one (gap_blank space gap_none) (λ _ _ q. cc) i (loose s (is_word k))

abbrev x : List ℕ
x = 97 ∷ []

x_token : IsToken (name x) x
unfolding class_of token_of
x_token = token_word {b = 97} {w = []} refl tt

in_token : IsToken in_key (105 ∷ 110 ∷ [])
unfolding class_of token_of
in_token = token_word {b = 105} {w = 110 ∷ []} refl (refl, tt)

close_token : IsToken close_bracket (41 ∷ [])
unfolding class_of
close_token = token_sign refl

dot_token : IsToken dot (46 ∷ [])
unfolding class_of
dot_token = token_sign refl

equals_token : IsToken equals (61 ∷ [])
unfolding class_of
equals_token = token_sign refl

next : {k : Token} {a : List ℕ} {q : State} (p : State) → step p k ≡ Some q → IsToken k a → Ends q → Ends p
next {k = k} {a = a} p e i n = record {
  tokens = k ∷ n.tokens;
  bytes = 32 ∷ a ++ n.bytes;
  spells = put i n.spells;
  whole = n.whole;
  accepted = ap (option_and_then (λ s. accepts s n.tokens)) e ∙ n.accepted;
}

-- from a spine under frames that finish as u does under these
closes : (fs : List Frame) (u f : Named) (gs : List Frame) → finish f gs ≡ finish u fs → Ends (at (Some f) gs)
closes [] u f gs e = record {
  tokens = [];
  bytes = [];
  spells = spells_none (last_gap gap_none);
  whole = u;
  accepted = ap at_end e;
}
closes (applied o ∷ fs) u f gs e = closes fs (join o u) f gs e
closes (abstracted y ∷ fs) u f gs e = closes fs (lam y u) f gs e
closes (bound y d ∷ fs) u f gs e = closes fs (app (lam y u) d) f gs e
closes (bracket o ∷ fs) u f gs e = next (at (Some f) gs) (ap at_close e) close_token
    (closes fs (join o u) (join o u) fs refl)
closes (defining y ∷ fs) u f gs e =
    next (at (Some f) gs) (ap at_in e) in_token
    (next (at None (bound y u ∷ fs)) refl x_token (closes fs (app (lam y (var x)) u) (var x) (bound y u ∷ fs) refl))

at_term : (fs : List Frame) → Ends (at None fs)
at_term fs = next (at None fs) refl x_token (closes fs (var x) (var x) fs refl)

ends : (p : State) → Ends p
ends (at None fs) = at_term fs
ends (at (Some f) fs) = closes fs f f fs refl
ends (first_name fs) = next (first_name fs) refl x_token
    (next (more_names (abstracted x ∷ fs)) refl dot_token (at_term (abstracted x ∷ fs)))
ends (more_names fs) = next (more_names fs) refl dot_token (at_term fs)
ends (let_name fs) = next (let_name fs) refl x_token
    (next (let_equals x fs) refl equals_token (at_term (defining x ∷ fs)))
ends (let_equals y fs) = next (let_equals y fs) refl equals_token (at_term (defining y ∷ fs))

-- a word in progress may be a name
abbrev pub IsLive : Reading → Type 0
IsLive (word w p) = takes_name p ≡ true
IsLive _ = Unit {0}

and_false : (b : Bool) → b && false ≡ false
and_false true = refl
and_false false = refl

-- none of these is a quote
abbrev HasNoQuote : List ℕ → Type 0
HasNoQuote [] = Unit {0}
HasNoQuote (c ∷ v) = (nat_eq 39 c ≡ false) × HasNoQuote v

quoted : (w v : List ℕ) → HasNoQuote v → bytes_eq (w ++ (39 ∷ [])) v ≡ false
quoted [] [] h = refl
quoted [] (c ∷ v) h = ap (λ y. y && bytes_eq [] v) h.0
quoted (b ∷ w) [] h = refl
quoted (b ∷ w) (c ∷ v) h = ap (λ y. nat_eq b c && y) (quoted w v h.1) ∙ and_false (nat_eq b c)

quoted_name : (w : List ℕ) → token_of (w ++ (39 ∷ [])) ≡ name (w ++ (39 ∷ []))
unfolding token_of
quoted_name w =
    ap (λ y. cond y let_key (cond (bytes_eq (w ++ (39 ∷ [])) (105 ∷ 110 ∷ [])) in_key
    (name (w ++ (39 ∷ []))))) (quoted w (108 ∷ 101 ∷ 116 ∷ []) (refl, (refl, (refl, tt))))
    ∙ ap (λ y. cond y in_key (name (w ++ (39 ∷ [])))) (quoted w (105 ∷ 110 ∷ []) (refl, (refl, tt)))

quote : in_word (class_of 39) ≡ true
unfolding class_of
quote = refl

named : (p : State) (w : List ℕ) → takes_name p ≡ true → (q : State) × (step p (name w) ≡ Some q)
named (at o fs) w h = (at (Some (join o (var w))) fs, refl)
named (first_name fs) w h = (more_names (abstracted w ∷ fs), refl)
named (more_names fs) w h = (more_names (abstracted w ∷ fs), refl)
named (let_name fs) w h = (let_equals w fs, refl)
named (let_equals y fs) w h = absurd (cc)

pub record Completed (s : Reading) : Type 0 where
  pub rest : List ℕ
  pub whole : Named
  pub taken : takes s rest ≡ Some whole

-- every live state goes on to a whole text
pub completed : (s : Reading) → IsLive s → Completed s
completed (gap p) h = let e = ends p in
    record { rest = e.bytes; whole = e.whole; taken = spelled e.spells p ∙ e.accepted }
completed (comment p) h = let e = ends p in
    record { rest = 10 ∷ e.bytes; whole = e.whole; taken = spelled e.spells p ∙ e.accepted }
completed (half p) h = let e = ends p in
    record { rest = 187 ∷ e.bytes; whole = e.whole; taken = spelled e.spells p ∙ e.accepted }
completed (word w p) h =
    let v = w ++ (39 ∷ []) in
    let (q, g) = named p v h in
    let e = ends q in
    record {
      rest = 39 ∷ e.bytes;
      whole = e.whole;
      taken = ap (λ y. then_take e.bytes (cond y (Some (word v p))
          (option_and_then (λ q. gap_step q 39 (class_of 39)) (step p (token_of w))))) quote
          ∙ word_ends v p e.bytes (apart e.spells refl)
          ∙ ap (option_and_then (λ q. takes (gap q) e.bytes)) (ap (step p) (quoted_name w) ∙ g)
          ∙ spelled e.spells q ∙ e.accepted;
    }

live_map : (f : State → Reading) → ((p : State) → IsLive (f p)) → (o : Option State) (s : Reading) →
    option_map f o ≡ Some s → IsLive s
live_map f each None s h = absurd (cc)
live_map f each (Some q) s h = let e : f q ≡ s = cc in subst IsLive e (each q)

live_letter : (p : State) (b : ℕ) (y : Bool) → takes_name p ≡ y → (s : Reading) →
    cond y (Some (word (b ∷ []) p)) None ≡ Some s → IsLive s
live_letter p b false e s h = absurd (cc)
live_letter p b true e s h = let i : word (b ∷ []) p ≡ s = cc in subst IsLive i e

live_gap : (p : State) (b : ℕ) (c : Class) (s : Reading) → gap_step p b c ≡ Some s → IsLive s
live_gap p b blank s h = let e : gap p ≡ s = cc in subst IsLive e tt
live_gap p b hash s h = let e : comment p ≡ s = cc in subst IsLive e tt
live_gap p b letter s h = live_letter p b (takes_name p) refl s h
live_gap p b (sign k) s h = live_map gap (λ _. tt) (step p k) s h
live_gap p b lead s h = live_map half (λ _. tt) (step p lambda) s h
live_gap p b _ s h = absurd (cc)

live_after : (b : ℕ) (c : Class) (o : Option State) (s : Reading) →
    option_and_then (λ q. gap_step q b c) o ≡ Some s → IsLive s
live_after b c None s h = absurd (cc)
live_after b c (Some q) s h = live_gap q b c s h

live_word : (w : List ℕ) (p : State) (b : ℕ) (y : Bool) → takes_name p ≡ true → (s : Reading) →
    cond y (Some (word (w ++ (b ∷ [])) p))
    (option_and_then (λ q. gap_step q b (class_of b)) (step p (token_of w))) ≡ Some s → IsLive s
live_word w p b true l s h = let e : word (w ++ (b ∷ [])) p ≡ s = cc in subst IsLive e l
live_word w p b false l s h = live_after b (class_of b) (step p (token_of w)) s h

live_comment : (p : State) (y : Bool) → IsLive (cond y (gap p) (comment p))
live_comment p true = tt
live_comment p false = tt

live_half : (p : State) (y : Bool) (s : Reading) → cond y (Some (gap p)) None ≡ Some s → IsLive s
live_half p true s h = let e : gap p ≡ s = cc in subst IsLive e tt
live_half p false s h = absurd (cc)

pub live_step : (r s : Reading) (b : ℕ) → IsLive r → byte_step r b ≡ Some s → IsLive s
live_step (gap p) s b l h = live_gap p b (class_of b) s h
live_step (comment p) s b l h = let e : cond (nat_eq b 10) (gap p) (comment p) ≡ s = cc in
    subst IsLive e (live_comment p (nat_eq b 10))
live_step (word w p) s b l h = live_word w p b (in_word (class_of b)) l s h
live_step (half p) s b l h = live_half p (nat_eq b 187) s h

live_then : (bs : List ℕ) (s : Reading) →
    ((r : Reading) → IsLive r → read r bs ≡ Some s → IsLive s) → (o : Option Reading) →
    ((r : Reading) → o ≡ Some r → IsLive r) → option_and_then (λ s'. read s' bs) o ≡ Some s → IsLive s
live_then bs s each None l h = absurd (cc)
live_then bs s each (Some r) l h = each r (l r refl) h

pub live_read : (bs : List ℕ) (s r : Reading) → IsLive r → read r bs ≡ Some s → IsLive s
live_read [] s r l h = let e : r ≡ s = cc in subst IsLive e l
live_read (b ∷ bs) s r l h = live_then bs s (live_read bs s) (byte_step r b) (λ q. live_step r q b l) h
