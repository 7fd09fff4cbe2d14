-- The last `let` that waits is the innermost one that has no `in` yet.
use Rattle.std.proofs.Common.{◌≡◌, ℕ, zero, suc, ◌+◌, ◌-◌, ◌<◌, ◌≤◌, Bool, true, false, List, [], ◌∷◌, ◌++◌, length, codes, take, drop}
use Rattle.std.proofs.Common.{refl, sym, ap, ◌∙◌, subst, arith, append_assoc, append-nil, length-append, Option, Some, None}
use Rattle.std.proofs.Math.Seq.{drop-append_seam}
use Rattle.std.specs.Prelude.{IsSome, IfSome, IsTrue, ◌↔◌, option_to_list}
use Rattle.ol_parse.specs.Grammar.{Named, Token, name, let_key, in_key, equals}
use Rattle.ol_parse.specs.Texts.{Spells, spells_none, spells_one, IsText, BeginsText}
use Rattle.ol_places.specs.declared.tokens.FirstToken.{FirstToken}
use Rattle.ol_places.specs.Tokens.{kind_token, IsFirstToken}
use Rattle.ol_places.specs.Lets.{let_start, IsOpenLet, IsInnermostLet}
use Rattle.ol_places.specs.Scanned.{lets_after, lets_from, IsLast, nothing, top, IsLastLet}
use Rattle.ol_places.proofs.Cuts.{Seam, inside, beyond, no_false, seam, head_of, tail_of, none_ends, Cut, cut}
use Rattle.ol_places.proofs.Nesting.{Each, Rising, scan, Waits, Opened, IsBalanced, term_balanced, defined_balanced}
use Rattle.ol_parse.proofs.Sizes.{some_byte}

-- ---- token by token

-- what is left of some bytes, from byte p on
pub record IsLeft (all lets : List ℕ) (p : ℕ) (rest : List ℕ) : Type 0 where
  pub after : Bool
  pub tokens : List Token
  pub spelled : Spells after tokens rest
  pub is : all ≡ lets_from lets p spelled

abbrev pub AreLeft : List ℕ → List ℕ → List ℕ → Type 0
AreLeft front lets rest = (tokens : List Token) (s : Spells false tokens front) →
    IsLeft (lets_from [] 0 s) lets (length front - length rest) rest

pub left_begin : (front lets : List ℕ) → lets ≡ [] → AreLeft front lets front
left_begin front lets e tokens s =
    let z : 0 ≡ length front - length front = omega arith in
    subst (λ l. IsLeft (lets_from [] 0 s) l (length front - length front) front) (sym e)
    (record { after = false; tokens = tokens; spelled = s; is = ap (λ p. lets_from [] p s) z })

-- one token more
one : {after : Bool} {tokens : List Token} (all lets lets' rest rest' : List ℕ) (f : FirstToken) (p p' at : ℕ)
    (s : Spells after tokens rest) → all ≡ lets_from lets p s → IsFirstToken (Some f) s → at ≡ p + f.gap →
    ((word : List ℕ) → lets' ≡ lets_after lets at (kind_token f.kind word)) → rest' ≡ drop (f.gap + f.length) rest →
    p' ≡ p + f.gap + f.length → IsLeft all lets' p' rest'
one all lets lets' rest rest' f p p' at (spells_none g) e i h l r q = absurd i
one all lets lets' rest rest' f p p' at (spells_one {k = k} {ks = ks} {g = g} {a = a} {bs = bs} gap apart t s) e i h l r q =
    let gap_is : f.gap ≡ length g = i.0 in
    let long : f.length ≡ length a = i.1 in
    let kind : kind_token f.kind a ≡ k = i.2 in
    let m = length-append g a in
    let n : f.gap + f.length ≡ length (g ++ a) = omega arith in
    let left : rest' ≡ bs = r ∙ ap (λ n. drop n (g ++ (a ++ bs))) n ∙ ap (drop (length (g ++ a))) (sym (append_assoc g a bs))
    ∙ drop-append_seam (g ++ a) bs in
    let at_is : at ≡ p + length g = omega arith in
    let p_is : p + length g + length a ≡ p' = omega arith in
    let lets_are : lets_after lets (p + length g) k ≡ lets' =
    ap (λ n. lets_after lets n k) (sym at_is) ∙ ap (lets_after lets at) (sym kind) ∙ sym (l a) in
    subst (λ x. IsLeft all lets' p' x) (sym left) (record {
      after = _;
      tokens = ks;
      spelled = s;
      is = e ∙ ap (λ l. lets_from l (p + length g + length a) s) lets_are ∙ ap (λ p. lets_from lets' p s) p_is;
    })

pub left_more : (front lets lets' rest rest' : List ℕ) (f : FirstToken) (at : ℕ) → AreLeft front lets rest →
    ((after : Bool) (tokens : List Token) (s : Spells after tokens rest) → IsFirstToken (Some f) s) →
    length rest ≤ length front → f.gap + f.length ≤ length rest → at ≡ length front - length rest + f.gap →
    ((word : List ℕ) → lets' ≡ lets_after lets at (kind_token f.kind word)) → rest' ≡ drop (f.gap + f.length) rest →
    length rest' ≡ length rest - (f.gap + f.length) → AreLeft front lets' rest'
left_more front lets lets' rest rest' f at each first low long h l r n tokens s =
    let i = each tokens s in
    one (lets_from [] 0 s) lets lets' rest rest' f (length front - length rest) (length front - length rest') at i.spelled
    i.is (first i.after i.tokens i.spelled) h l r (omega arith)

-- no token is left
ended : {after : Bool} {tokens : List Token} (all lets rest : List ℕ) (p : ℕ) (s : Spells after tokens rest) →
    all ≡ lets_from lets p s → IsFirstToken None s → all ≡ lets
ended all lets rest p (spells_none g) e i = e
ended all lets rest p (spells_one gap apart t s) e i = absurd i

-- what is taken off is the last
pub popped : (xs ys : List ℕ) (o : Option ℕ) (n : ℕ) → xs ≡ ys ++ option_to_list o → IsSome o ↔ (0 < n) → n ≡ length xs →
    IsLast xs o
popped [] ys None n e v l = nothing refl
popped (x ∷ xs) ys None n e v l = absurd (no_false (v.1 (omega arith)))
popped xs ys (Some x) n e v l = top ys e

pub left_end : (front lets rest : List ℕ) (last : Option ℕ) → AreLeft front lets rest →
    ((after : Bool) (tokens : List Token) (s : Spells after tokens rest) → IsFirstToken None s) → IsLast lets last →
    IsLastLet front last
left_end front lets rest last each none l tokens s =
    let i = each tokens s in
    subst (λ l. IsLast l last)
    (sym (ended (lets_from [] 0 s) lets rest (length front - length rest) i.spelled i.is (none i.after i.tokens i.spelled)))
    l

-- ---- where tokens begin

start_rises : {after : Bool} {tokens : List Token} {bytes : List ℕ} (s : Spells after tokens bytes) (j k : ℕ) → j ≤ k →
    k < length tokens → let_start j s ≤ let_start k s
start_rises (spells_none g) j k h l = omega arith
start_rises (spells_one i apart t s) zero zero h l = omega arith
start_rises (spells_one i apart t s) zero (suc k) h l = omega arith
start_rises (spells_one i apart t s) (suc j) zero h l = absurd (omega arith)
start_rises (spells_one i apart t s) (suc j) (suc k) h l = let r = start_rises s j k (omega arith) (omega arith) in omega arith

starts_within : {after : Bool} {tokens : List Token} {bytes : List ℕ} (s : Spells after tokens bytes) (j : ℕ) →
    j < length tokens → let_start j s < length bytes
starts_within (spells_none g) j l = absurd (omega arith)
starts_within (spells_one {g = g} {a = a} {bs = bs} i apart t s) zero l =
    let m = length-append g (a ++ bs) in
    let n = length-append a bs in
    let h = some_byte t in
    omega arith
starts_within (spells_one {g = g} {a = a} {bs = bs} i apart t s) (suc j) l =
    let m = length-append g (a ++ bs) in
    let n = length-append a bs in
    let r = starts_within s j (omega arith) in
    omega arith

-- where the token begins behind which r others follow
abbrev at_of : {after : Bool} {tokens : List Token} {bytes : List ℕ} → Spells after tokens bytes → ℕ → ℕ
at_of {tokens = tokens} s r = let_start (length tokens - (r + 1)) s

falls_of : {after : Bool} {tokens : List Token} {bytes : List ℕ} (s : Spells after tokens bytes) (r q : ℕ) → r ≤ q →
    at_of s q ≤ at_of s r
falls_of (spells_none g) r q h = omega arith
falls_of (spells_one {k = k} {ks = ks} i apart t s) r q h =
    start_rises (spells_one i apart t s) (length (k ∷ ks) - (q + 1)) (length (k ∷ ks) - (r + 1)) (omega arith) (omega arith)

scanned : (at : ℕ → ℕ) (falls : (r q : ℕ) → r ≤ q → at q ≤ at r) {after : Bool} {tokens : List Token} {bytes : List ℕ}
    (s : Spells after tokens bytes) (lets : List ℕ) (p : ℕ) →
    ((j r : ℕ) → j + r + 1 ≡ length tokens → at r ≡ p + let_start j s) → lets_from lets p s ≡ scan at falls lets tokens
scanned at falls (spells_none g) lets p h = refl
scanned at falls (spells_one {k = k} {ks = ks} {g = g} {a = a} i apart t s) lets p h =
    let e : at (length ks) ≡ p + length g = h 0 (length ks) (omega arith) in
    ap (λ n. lets_from (lets_after lets n k) (p + length g + length a) s) (sym e)
    ∙ scanned at falls s (lets_after lets (at (length ks)) k) (p + length g + length a) later
  where
    later : (j r : ℕ) → j + r + 1 ≡ length ks → at r ≡ p + length g + length a + let_start j s
    later j r q = let f = h (suc j) r (omega arith) in omega arith

all_scanned : {after : Bool} {tokens : List Token} {bytes : List ℕ} (s : Spells after tokens bytes) →
    lets_from [] 0 s ≡ scan (at_of s) (falls_of s) [] tokens
all_scanned {tokens = tokens} s = scanned (at_of s) (falls_of s) s [] 0
    (λ j r q. let e : length tokens - (r + 1) ≡ j = omega arith in
    let f : at_of s r ≡ let_start j s = ap (λ j. let_start j s) e in omega arith)

-- ---- what waits is what has no `in` yet

open_let : (front rest : List ℕ) (whole : Named) (text : IsText (front ++ codes "\n" ++ rest) whole)
    (c : Cut text.spelled front) (n : ℕ) → Waits (at_of c.spelled) (falls_of c.spelled) c.first c.second n →
    IsOpenLet front n
open_let front rest whole text c n w =
    let behind = w.more ++ (in_key ∷ w.after) in
    let first_long = ap length w.is in
    let k = length-append w.before (let_key ∷ w.within) in
    let second_long = ap length w.left in
    let l = length-append w.more (in_key ∷ w.after) in
    let parts_long = ap length w.parts in
    let m = length-append w.within w.more in
    let inner : length w.before < length c.first = omega arith in
    let place : length c.first - (length w.within + 1) ≡ length w.before = omega arith in
    let starts : let_start (length w.before) text.spelled ≡ n =
    c.starts (length w.before) inner ∙ ap (λ j. let_start j c.spelled) (sym place) ∙ w.starts in
    let low = starts_within c.spelled (length w.before) inner in
    let same = c.starts (length w.before) inner in
    let at_in : length c.first + length w.more ≡ length w.before + 3 + length w.definition = omega arith in
    record {
      rest = rest;
      whole = whole;
      text = text;
      before = w.before;
      x = w.x;
      definition = w.definition;
      after = w.after;
      tokens = c.is ∙ ap (λ u. u ++ c.second) w.is ∙ ap (λ v. (w.before ++ (let_key ∷ w.within)) ++ v) w.left
          ∙ append_assoc w.before (let_key ∷ w.within) behind
          ∙ ap (λ v. w.before ++ (let_key ∷ v)) (sym (append_assoc w.within w.more (in_key ∷ w.after)))
          ∙ ap (λ v. w.before ++ (let_key ∷ v ++ (in_key ∷ w.after))) (sym w.parts);
      defined = w.defined;
      term = w.term;
      let_at = starts;
      is_before = omega arith;
      in_behind = subst (λ j. length front ≤ let_start j text.spelled) at_in (c.behind (length w.more) (omega arith));
    }

pub record Has (n : ℕ) (xs : List ℕ) : Type 0 where
  pub before : List ℕ
  pub after : List ℕ
  pub is : xs ≡ before ++ (n ∷ after)

module _ (front : List ℕ) (n : ℕ) (o : IsOpenLet front n) (c : Cut o.text.spelled front) where
  abbrev E : List Token
  E = name o.x ∷ equals ∷ o.definition

  abbrev waiting : List ℕ → List Token → List ℕ
  waiting lets ks = scan (at_of c.spelled) (falls_of c.spelled) lets ks

  behind_some : (before rest : List Token) (lets : List ℕ) → (l : List ℕ) × (waiting lets (before ++ rest) ≡ waiting l rest)
  behind_some [] rest lets = (lets, refl)
  behind_some (k ∷ before) rest lets =
      behind_some before rest (lets_after lets (at_of c.spelled (length (before ++ rest))) k)

  found : (u v : List Token) → c.first ≡ o.before ++ (let_key ∷ u) → E ≡ u ++ v → Has n (waiting [] c.first)
  found u v f e =
      let at = at_of c.spelled (length u) in
      let (l, g) = behind_some o.before (let_key ∷ u) [] in
      let opened = (defined_balanced (at_of c.spelled) (falls_of c.spelled) o.x o.term).splits u v e (l ++ (at ∷ [])) in
      let long = ap length f in
      let k = length-append o.before (let_key ∷ u) in
      let place : length o.before ≡ length c.first - (length u + 1) = omega arith in
      let is : at ≡ n = ap (λ j. let_start j c.spelled) (sym place) ∙ sym (c.starts (length o.before) (omega arith))
      ∙ o.let_at in
      record {
        before = l;
        after = opened.new;
        is = ap (waiting []) f ∙ g ∙ opened.is ∙ append_assoc l (at ∷ []) opened.new
            ∙ ap (λ n. l ++ (n ∷ opened.new)) is;
      }

  behind_it : (j : ℕ) → j < length c.second → length o.before ≡ length c.first + j → ⊥
  behind_it j h e =
      let b = c.behind j h in
      let s = ap (λ j. let_start j o.text.spelled) e in
      let a = o.let_at in
      let l = o.is_before in
      omega arith

  before_it : length o.before + 3 + length o.definition < length c.first → ⊥
  before_it h =
      let j = length o.before + 3 + length o.definition in
      let b = c.starts j h in
      let s = starts_within c.spelled j h in
      let a = o.in_behind in
      omega arith

  in_definition : (u : List Token) → c.first ≡ o.before ++ (let_key ∷ u) → Seam E (in_key ∷ o.after) u c.second →
      Has n (waiting [] c.first)
  in_definition u f (inside [] g h) = found u [] f (sym (append-nil u ∙ g ∙ append-nil E))
  in_definition u f (inside (k ∷ v) g h) =
      let a = ap length f in
      let b = length-append o.before (let_key ∷ u) in
      let d = ap length g in
      let e = length-append E (k ∷ v) in
      absurd (before_it (omega arith))
  in_definition u f (beyond v g h) = found u v f g

  within : Seam o.before (let_key ∷ E ++ (in_key ∷ o.after)) c.first c.second → Has n (waiting [] c.first)
  within (inside [] f g) =
      let a = ap length f in
      let b = length-append o.before [] in
      let d = ap length g in
      absurd (behind_it 0 (omega arith) (omega arith))
  within (inside (k ∷ u) f g) = in_definition u
      (f ∙ ap (λ k. o.before ++ (k ∷ u)) (sym (head_of let_key k (E ++ (in_key ∷ o.after)) (u ++ c.second) g)))
      (seam E (in_key ∷ o.after) u c.second (tail_of let_key k (E ++ (in_key ∷ o.after)) (u ++ c.second) g))
  within (beyond w f g) =
      let a = ap length f in
      let b = length-append c.first w in
      let d = ap length g in
      let e = length-append w (let_key ∷ E ++ (in_key ∷ o.after)) in
      absurd (behind_it (length w) (omega arith) (omega arith))

  pub waits : Has n (lets_from [] 0 c.spelled)
  waits = subst (Has n) (sym (all_scanned c.spelled))
      (within (seam o.before (let_key ∷ E ++ (in_key ∷ o.after)) c.first c.second (sym o.tokens ∙ c.is)))

-- ---- the last of them

each_at : (P : ℕ → Type 0) (xs : List ℕ) (n : ℕ) (ys : List ℕ) → Each P (xs ++ (n ∷ ys)) → P n
each_at P [] n ys h = h.0
each_at P (x ∷ xs) n ys h = each_at P xs n ys h.1

last_is_most : (xs : List ℕ) (n : ℕ) → Rising (xs ++ (n ∷ [])) → Each (λ y. y ≤ n) (xs ++ (n ∷ []))
last_is_most [] n r = (omega arith, tt)
last_is_most (x ∷ xs) n r = (each_at (λ y. x ≤ y) xs n [] r.0, last_is_most xs n r.1)

-- a completion of the bytes, cut behind them
cut_of : (front rest : List ℕ) (whole : Named) (text : IsText (front ++ codes "\n" ++ rest) whole) → Cut text.spelled front
cut_of front rest whole text = cut text.spelled front rest (append_assoc front (codes "\n") rest)

opened_of : (front rest : List ℕ) (whole : Named) (text : IsText (front ++ codes "\n" ++ rest) whole)
    (c : Cut text.spelled front) → Opened (at_of c.spelled) (falls_of c.spelled) [] c.first c.second
opened_of front rest whole text c =
    (term_balanced (at_of c.spelled) (falls_of c.spelled) text.term).splits c.first c.second c.is []

none_has : (n : ℕ) (xs : List ℕ) → Has n xs → xs ≡ [] → ⊥
none_has n xs h e = none_ends h.before n h.after (sym e ∙ h.is)

pub innermost_of : (front : List ℕ) (last : Option ℕ) → BeginsText (front ++ codes "\n") → IsLastLet front last →
    IsInnermostLet front last
innermost_of front None b l = λ at o. let c = cut_of front o.rest o.whole o.text in
    go (l c.first c.spelled) (waits front at o c)
  where
    go : {xs : List ℕ} {at : ℕ} → IsLast xs None → Has at xs → ⊥
    go {xs = xs} {at = at} (nothing e) h = none_has at xs h e
innermost_of front (Some n) b l =
    let c = cut_of front b.rest b.whole b.text in
    let o = opened_of front b.rest b.whole b.text c in (
      last_waits c o (l c.first c.spelled),
      λ at p. let c = cut_of front p.rest p.whole p.text in
          let o = opened_of front p.rest p.whole p.text c in
          no_later (all_scanned c.spelled ∙ o.is) o.rising (l c.first c.spelled) (waits front at p c),
    )
  where
    last_waits : (c : Cut b.text.spelled front) →
        Opened (at_of c.spelled) (falls_of c.spelled) [] c.first c.second →
        IsLast (lets_from [] 0 c.spelled) (Some n) → IsOpenLet front n
    last_waits c o (top others e) = open_let front b.rest b.whole b.text c n
        (each_at (Waits (at_of c.spelled) (falls_of c.spelled) c.first c.second) others n []
        (subst (Each (Waits (at_of c.spelled) (falls_of c.spelled) c.first c.second))
        (sym (all_scanned c.spelled ∙ o.is) ∙ e) o.each))

    no_later : {xs new : List ℕ} {at : ℕ} → xs ≡ new → Rising new → IsLast xs (Some n) → Has at xs → at ≤ n
    no_later {at = at} e r (top others f) h =
        each_at (λ y. y ≤ n) h.before at h.after
        (subst (Each (λ y. y ≤ n)) (sym f ∙ h.is) (last_is_most others n (subst Rising (sym e ∙ f) r)))

-- without such a text no `let` is open
pub never_open : (front : List ℕ) (b : Bool) → IsTrue b ↔ BeginsText (front ++ codes "\n") → b ≡ false →
    IsInnermostLet front None
never_open front b h e = λ at o. no_truth (sym (h.1 (record { rest = o.rest; whole = o.whole; text = o.text })) ∙ e)
  where
    no_truth : true ≡ false → ⊥
    no_truth e = cc

pub before_all : (front : List ℕ) (last : Option ℕ) → IsInnermostLet front last → IfSome last (λ at. at < length front)
before_all front None h = tt
before_all front (Some at) h = h.0.is_before
