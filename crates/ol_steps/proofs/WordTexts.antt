-- A text without a bar has only names of the grammar, where its names are those of a glossary.
use Rattle.std.proofs.Common.{◌≡◌, ℕ, suc, arith, Bool, true, false, ◌||◌, List, [], ◌∷◌, ◌++◌, ◌⊎◌, inl, inr, refl, sym, ap, ◌∙◌, subst, append_assoc}
use Rattle.std.specs.Prelude.{◌==◌, if◌then◌else◌, not}
use Rattle.std.specs.Str.{bytes_eq}
use Rattle.std.proofs.lemmas.Bool.{and_from, or_parts}
use Rattle.std.specs.List.{All}
use Rattle.std.proofs.lemmas.List.{map-append}
use Rattle.std.proofs.lemmas.List.Elements.{All-append, All-cons, All-nil}
use Rattle.std.proofs.lemmas.Slice.Eq.{bytes_eq-Decides}
use Rattle.ol_term.specs.Texts.{before_binder, before_body}
use Rattle.ol_term.specs.Trees.{Tree}
use Rattle.ol_term.specs.BinderNames.{is_among}
use Rattle.ol_parse.specs.Grammar.{Named, var, lam, app, Token}
use Rattle.ol_parse.specs.Texts.{IsToken, token_sign, token_letter, token_word, IsName}
use Rattle.ol_parse.specs.Parsed.{AreNames}
use Rattle.ol_steps.specs.Binders as binders
use Rattle.ol_steps.specs.Binders.{Binders}
use Rattle.ol_steps.specs.BinderLaws.{AllNames}
use Rattle.ol_steps.specs.Folded.{is_same}
use Rattle.ol_steps.specs.NamedTexts.{is_abstraction, is_name, left_bracket, right_bracket, bracketed, named_text}
use Rattle.ol_steps.specs.Lets.{LetRow, names_of_lets}
use Rattle.ol_steps.specs.StepLaws.{has_bar}
use Rattle.ol_steps.specs.Words.{barred, is_alike, is_value_of, names_for, new_rows, with_words, word_rows}
use Rattle.ol_steps.proofs.Among.{grouped}
use Rattle.ol_steps.proofs.Same.{same_itself}

abbrev pub AllOf : (List ℕ → Type 0) → Named → Type 0
AllOf P (var x) = P x
AllOf P (lam x t) = P x × AllOf P t
AllOf P (app f a) = AllOf P f × AllOf P a

pub names_in : (P : List ℕ → Type 0) → ((x : List ℕ) → IsName x → P x) → (xs : List (List ℕ)) → AreNames xs → All P xs
names_in P of [] h = All-nil P
names_in P of (x ∷ xs) h = All-cons P x xs (of x h.0) (names_in P of xs h.1)

pub names_all : (u : Named) → AllOf IsName u → AllNames u
names_all (var x) h = h
names_all (lam x t) h = (h.0, names_all t h.1)
names_all (app f a) h = (names_all f h.0, names_all a h.1)

-- ---- bars

clash : false ≡ true → ⊥
clash e = absurd (cc)

pub bar_both : (a b : List ℕ) → has_bar (a ++ b) ≡ (has_bar a || has_bar b)
bar_both [] b = refl
bar_both (c ∷ a) b =
    ap (λ (r : Bool). (c == 124) || r) (bar_both a b) ∙ grouped (c == 124) (has_bar a) (has_bar b)

bar_parts : (a b : List ℕ) → has_bar (a ++ b) ≡ false → (has_bar a ≡ false) × (has_bar b ≡ false)
bar_parts a b h = or_parts (has_bar a) (has_bar b) (sym (bar_both a b) ∙ h)

pub has_it : (x rest : List ℕ) → has_bar (x ++ 124 ∷ rest) ≡ true
has_it [] rest = refl
has_it (c ∷ x) rest = go (c == 124) (has_it x rest)
  where
    go : (b : Bool) → has_bar (x ++ 124 ∷ rest) ≡ true → (b || has_bar (x ++ 124 ∷ rest)) ≡ true
    go true h = refl
    go false h = h

-- without a bar it is a name of the grammar
abbrev pub IsGood : List ℕ → Type 0
IsGood x = has_bar x ≡ false → IsName x

pub name_good : (x : List ℕ) → IsName x → IsGood x
name_good x h none = h

bracket_bars : (needed : Bool) (text : List ℕ) → has_bar (bracketed needed text) ≡ false → has_bar text ≡ false
bracket_bars needed text h =
    (bar_parts text (right_bracket needed) (bar_parts (left_bracket needed) (text ++ right_bracket needed) h).1).0

text_bars : (body : Bool) (u : Named) → AllOf IsGood u → has_bar (named_text body u) ≡ false → AllNames u
text_bars body (var x) g h = g (bar_parts (before_body body) x h).1
text_bars body (lam x t) g h =
    let p = bar_parts x (named_text true t) (bar_parts (before_binder body) (x ++ named_text true t) h).1 in
    (g.0 p.0, text_bars true t g.1 p.1)
text_bars body (app f a) g h =
    let left = bracketed (is_abstraction f) (named_text false f) in
    let right = bracketed (not (is_name a)) (named_text false a) in
    let p = bar_parts left (32 ∷ right) (bar_parts (before_body body) (left ++ (32 ∷ right)) h).1 in (
      text_bars false f g.0 (bracket_bars (is_abstraction f) (named_text false f) p.0),
      text_bars false a g.1 (bracket_bars (not (is_name a)) (named_text false a) p.1),
    )

pub no_bars : (u : Named) → AllOf IsGood u → has_bar (named_text false u) ≡ false → AllNames u
no_bars u g h = text_bars false u g h

-- ---- the words of lets

-- a word is empty, where no let is meant, or good
abbrev IsFine : List ℕ → Type 0
IsFine w = (w ≡ []) ⊎ IsGood w

barred_good : (x rest : List ℕ) → IsName x → IsGood (barred x rest)
barred_good x [] h none = h
barred_good x (b ∷ bs) h none = absurd (clash (sym none ∙ has_it x (b ∷ bs)))

word_fine : (kept : Bool) (rows : List LetRow) (t : Tree) (s : Binders) → AreNames (names_of_lets rows) →
    IsFine (names_for kept rows t s)
word_fine kept [] t s h = inl refl
word_fine kept (row ∷ rows) t s h = go (is_value_of kept row t s) (word_fine kept rows t s h.1)
  where
    go : (b : Bool) → IsFine (names_for kept rows t s) →
        IsFine (if b then barred row.name (names_for kept rows t s) else names_for kept rows t s)
    go true more = inr (barred_good row.name (names_for kept rows t s) h.0)
    go false more = more

pub same_bytes : (x : List ℕ) → bytes_eq x x ≡ true
same_bytes x = (bytes_eq-Decides x x).1 refl

alike_itself : (s : Binders) → is_alike s s ≡ true
alike_itself binders.leaf = refl
alike_itself (binders.lam x s) = and_from (bytes_eq x x) (is_alike s s) (same_bytes x) (alike_itself s)
alike_itself (binders.app r s) = and_from (is_alike r r) (is_alike s s) (alike_itself r) (alike_itself s)

pub value_itself : (kept : Bool) (row : LetRow) → is_value_of kept row row.value row.binders ≡ true
value_itself kept row = and_from (is_same row.value row.value) (not kept || is_alike row.binders row.binders)
    (same_itself row.value) (go kept)
  where
    go : (b : Bool) → (not b || is_alike row.binders row.binders) ≡ true
    go true = alike_itself row.binders
    go false = refl

some_token : {k : Token} {a : List ℕ} → IsToken k a → a ≡ [] → ⊥
some_token (token_sign e) h = absurd (cc)
some_token (token_letter e) h = absurd (cc)
some_token (token_word e i) h = absurd (cc)

some_name : IsName [] → ⊥
some_name h = some_token h refl

barred_full : (x rest : List ℕ) → IsName x → barred x rest ≡ [] → ⊥
barred_full [] [] h e = some_name h
barred_full (c ∷ x) [] h e = absurd (cc)
barred_full [] (b ∷ bs) h e = absurd (cc)
barred_full (c ∷ x) (b ∷ bs) h e = absurd (cc)

-- a let is among those that its value is written by
pub word_full : (kept : Bool) (before : List LetRow) (row : LetRow) (after : List LetRow) →
    AreNames (names_of_lets (before ++ row ∷ after)) →
    names_for kept (before ++ row ∷ after) row.value row.binders ≡ [] → ⊥
word_full kept [] row after h e =
    barred_full row.name (names_for kept after row.value row.binders) h.0
    (ap (λ (b : Bool). if b then barred row.name (names_for kept after row.value row.binders)
    else names_for kept after row.value row.binders) (sym (value_itself kept row)) ∙ e)
word_full kept (first ∷ before) row after h e =
    go (is_value_of kept first row.value row.binders) (word_full kept before row after h.1) e
  where
    rest : List ℕ
    rest = names_for kept (before ++ row ∷ after) row.value row.binders

    go : (b : Bool) → (rest ≡ [] → ⊥) → (if b then barred first.name rest else rest) ≡ [] → ⊥
    go true more i = barred_full first.name rest h.0 i
    go false more i = more i

full_good : (w : List ℕ) → IsFine w → (w ≡ [] → ⊥) → IsGood w
full_good w (inl e) full = absurd (full e)
full_good w (inr g) full = g

words_good : (before left : List LetRow) → AreNames (names_of_lets (before ++ left)) →
    All IsGood (names_of_lets (word_rows (before ++ left) left))
words_good before [] h = All-nil IsGood
words_good before (row ∷ left) h =
    let rows = before ++ row ∷ left in
    let e : (before ++ row ∷ []) ++ left ≡ rows = append_assoc before (row ∷ []) left in
    let rest = subst (λ (l : List LetRow). All IsGood (names_of_lets (word_rows l left))) e
    (words_good (before ++ row ∷ []) left (subst (λ (l : List LetRow). AreNames (names_of_lets l)) (sym e) h)) in
    let second = All-cons IsGood (names_for false rows row.value row.binders) (names_of_lets (word_rows rows left))
    (word false) rest in
    All-cons IsGood (names_for true rows row.value row.binders)
    (names_for false rows row.value row.binders ∷ names_of_lets (word_rows rows left)) (word true) second
  where
    word : (kept : Bool) → IsGood (names_for kept (before ++ row ∷ left) row.value row.binders)
    word kept = full_good (names_for kept (before ++ row ∷ left) row.value row.binders)
        (word_fine kept (before ++ row ∷ left) row.value row.binders h) (word_full kept before row left h)

new_good : (names : List (List ℕ)) (rows : List LetRow) → All IsGood (names_of_lets rows) →
    All IsGood (names_of_lets (new_rows names rows))
new_good names [] h = All-nil IsGood
new_good names (row ∷ rows) h =
    go (is_among names row.name) (new_good names rows rest) (new_good (names ++ row.name ∷ []) rows rest)
  where
    rest : All IsGood (names_of_lets rows)
    rest k d l = h (suc k) d (omega (arith, l))

    more : List LetRow
    more = new_rows (names ++ row.name ∷ []) rows

    go : (b : Bool) → All IsGood (names_of_lets (new_rows names rows)) → All IsGood (names_of_lets more) →
        All IsGood (names_of_lets (if b then new_rows names rows else row ∷ more))
    go true first second = first
    go false first second = All-cons IsGood row.name (names_of_lets more) (h 0 [] (omega arith)) second

pub all_good : (names : List (List ℕ)) (rows : List LetRow) → AreNames (names_of_lets rows) →
    All IsGood (names_of_lets (with_words names rows))
all_good names rows h =
    let new = new_rows (names ++ names_of_lets rows) (word_rows rows rows) in
    subst (λ (l : List (List ℕ)). All IsGood l) (sym (map-append (λ (row : LetRow). row.name) rows new))
    (All-append IsGood (names_of_lets rows) (names_of_lets new) (names_in IsGood name_good (names_of_lets rows) h)
    (new_good (names ++ names_of_lets rows) (word_rows rows rows) (words_good [] rows h)))
