-- Names with primes are names of the grammar, and so are those of a term that is named.
use Rattle.std.proofs.Common.{◌≡◌, ℕ, Bool, true, false, ◌&&◌, nat_eq, List, [], ◌∷◌, ◌++◌, length, refl}
use Rattle.std.proofs.Common.{sym, ap, ◌∙◌, subst, arith, length-append, not, Option, None, Some}
use Rattle.std.specs.Prelude.{◌+◌, ◌-◌, zero, suc, if◌then◌else◌, ◌==◌}
use Rattle.std.specs.Str.{bytes_eq}
use Rattle.std.proofs.lemmas.Bool.{and_parts, and_right, ltb-true}
use Rattle.ol_term.specs.Trees as tree
use Rattle.ol_term.specs.Trees.{Tree, is_below, is_named_below}
use Rattle.ol_term.specs.BinderNames.{is_among}
use Rattle.ol_parse.specs.Grammar.{Named, var, lam, app, Token}
use Rattle.ol_parse.specs.Texts.{letter, class_of, in_word, is_word, AreInWord, IsToken, token_sign, token_letter, token_word, IsName, IsText}
use Rattle.ol_parse.specs.Numbered.{names_of, number}
use Rattle.ol_parse.specs.Parsed.{AreNames}
use Rattle.ol_parse.proofs.Files.{whole_bound, whole_named}
use Rattle.ol_parse.proofs.Words.{names_good, both}
use Rattle.ol_parse.proofs.Spelling.{sign_no_word}
use Rattle.ol_steps.specs.Binders as binders
use Rattle.ol_steps.specs.Binders.{Binders, binders_of, Fits, names_in_argument}
use Rattle.ol_steps.specs.Naming.{bytes_in, used, primed_from, primed, named}
use Rattle.ol_steps.specs.BinderLaws.{AllNames}
use Rattle.ol_steps.specs.Lets.{LetRow, is_closed, is_small, if_small, row_if, let_names, lets, names_of_lets, value_of, values_of_lets}
use Rattle.ol_steps.specs.Folded.{folded_at, pruned}
use Rattle.ol_steps.specs.LetLaws.{unfolded}
use Rattle.ol_steps.proofs.Rows.{lets_differ}
use Rattle.ol_steps.proofs.Smaller.{is_fold_of}
use Rattle.ol_steps.proofs.ValuesPutIn.{folded_fits, unfolded_is_term}
use Rattle.ol_term.specs.NameLists.{NoNameTwice}
use Rattle.std.specs.List.{All}
use Rattle.std.proofs.lemmas.List.{length-map, map-append}
use Rattle.std.proofs.lemmas.List.Elements.{All-append, All-cons, All-nil}
use Rattle.ol_steps.specs.StepLaws.{ReadsAgain, ReadsFolded, FoldedReadsAgain}
use Rattle.ol_beta.specs.Beta as beta
use Rattle.ol_beta.proofs.Bound.{step_below}
use Rattle.ol_strategies.specs.Redexes.{next}
use Rattle.ol_strategies.specs.declared.orders.Order.{Order}
use Rattle.ol_steps.specs.Contraction.{put_in, applied, contracted}
use Rattle.ol_steps.specs.Steps.{Walk, starts, goes, glossary, binders_after, next_binders, last_binders}
use Rattle.ol_steps.specs.Words.{Glossary, with_words, worded, worded_at}
use Rattle.ol_steps.proofs.WordNumbers.{unfolded_worded, worded_below, worded_fits, worded_named}
use Rattle.ol_steps.proofs.WordTexts.{AllOf, IsGood, all_good, name_good, names_all, names_in, no_bars}
use Rattle.ol_steps.proofs.Named.{step_named}
use Rattle.ol_steps.proofs.Walks.{binders_more}
use Rattle.ol_steps.proofs.Fitting.{source_fits, contracted_fits}
use Rattle.ol_steps.proofs.Worded.{names_differ, text_has_names}
use Rattle.ol_steps.proofs.Catching.{none_is_caught}
use Rattle.ol_steps.proofs.Spelled.{named_is_read}
use Rattle.ol_readback.proofs.WordTokens.{no_keyword}

-- each name of some binders is a name of the grammar
abbrev pub HasNames : Binders → Type 0
HasNames binders.leaf = Unit {0}
HasNames (binders.lam x s) = IsName x × HasNames s
HasNames (binders.app r s) = HasNames r × HasNames s

-- a word: a letter, and then letters and digits
abbrev pub IsWord : List ℕ → Type 0
IsWord x = (b : ℕ) × (w : List ℕ) × (x ≡ b ∷ w) × (class_of b ≡ letter) × AreInWord w

pub word_of : {k : Token} {a : List ℕ} → IsToken k a → is_word k ≡ true → IsWord a
word_of (token_sign {k = k} {b = b} e) h = let n = sign_no_word b k e in absurd (cc)
word_of (token_letter e) h = absurd (cc)
word_of (token_word {b = b} {w = w} e i) h = (b, w, refl, e, i)

prime_class : in_word (class_of 39) ≡ true
unfolding class_of
prime_class = refl

in_word_on : (w : List ℕ) → AreInWord w → AreInWord (w ++ 39 ∷ [])
in_word_on [] h = (prime_class, tt)
in_word_on (c ∷ w) h = (h.0, in_word_on w h.1)

no_let : (b : ℕ) (w : List ℕ) → bytes_eq (b ∷ (w ++ 39 ∷ [])) (108 ∷ 101 ∷ 116 ∷ []) ≡ false
no_let b [] = and_right (nat_eq b 108) false refl
no_let b (c ∷ []) = and_right (nat_eq b 108) (nat_eq c 101 && false) (and_right (nat_eq c 101) false refl)
no_let b (c ∷ d ∷ w) =
    and_right (nat_eq b 108) (nat_eq c 101 && (nat_eq d 116 && bytes_eq (w ++ 39 ∷ []) []))
    (and_right (nat_eq c 101) (nat_eq d 116 && bytes_eq (w ++ 39 ∷ []) [])
    (and_right (nat_eq d 116) (bytes_eq (w ++ 39 ∷ []) []) (not_empty w)))
  where
    not_empty : (w : List ℕ) → bytes_eq (w ++ 39 ∷ []) [] ≡ false
    not_empty [] = refl
    not_empty (e ∷ w) = refl

no_in : (b : ℕ) (w : List ℕ) → bytes_eq (b ∷ (w ++ 39 ∷ [])) (105 ∷ 110 ∷ []) ≡ false
no_in b [] = and_right (nat_eq b 105) false refl
no_in b (c ∷ w) =
    and_right (nat_eq b 105) (nat_eq c 110 && bytes_eq (w ++ 39 ∷ []) [])
    (and_right (nat_eq c 110) (bytes_eq (w ++ 39 ∷ []) []) (not_empty w))
  where
    not_empty : (w : List ℕ) → bytes_eq (w ++ 39 ∷ []) [] ≡ false
    not_empty [] = refl
    not_empty (e ∷ w) = refl

-- one prime more
prime_name : (x : List ℕ) → IsName x → IsName (x ++ 39 ∷ [])
prime_name x h = let (b, w, e, c, i) = word_of h refl in
    subst (λ (y : List ℕ). IsName (y ++ 39 ∷ [])) (sym e)
    (subst (λ (k : Token). IsToken k (b ∷ (w ++ 39 ∷ [])))
    (no_keyword (b ∷ (w ++ 39 ∷ [])) (no_let b w) (no_in b w)) (token_word c (in_word_on w i)))

primed_from_name : (taken : List (List ℕ)) (n : ℕ) (x : List ℕ) → IsName x → IsName (primed_from taken n x)
primed_from_name taken zero x h = h
primed_from_name taken (suc n) x h = go (is_among taken x) (primed_from_name taken n (x ++ 39 ∷ []) (prime_name x h))
  where
    go : (b : Bool) → IsName (primed_from taken n (x ++ 39 ∷ [])) →
        IsName (if b then primed_from taken n (x ++ 39 ∷ []) else x)
    go true i = i
    go false i = h

primed_name : (taken : List (List ℕ)) (x : List ℕ) → IsName x → IsName (primed taken x)
primed_name taken x h = primed_from_name taken (bytes_in taken + 1 - length x) x h

-- ---- what holds of each name of a term

-- of each name of a tree with its binders' own names, if it holds of names of the grammar
module _ (P : List ℕ → Type 0) (of : (x : List ℕ) → IsName x → P x) (names : List (List ℕ)) where
  pub all_of : (round : List (List ℕ)) (t : Tree) (s : Binders) → All P names → All P round → HasNames s →
      Fits t s → is_below (length round) t ≡ true → is_named_below (length names) t ≡ true →
      AllOf P (named names round t s)
  all_of round (tree.var k) binders.leaf g h i f b n = h k [] (ltb-true k (length round) b)
  all_of round (tree.var k) (binders.lam x s) g h i f b n = absurd f
  all_of round (tree.var k) (binders.app r s) g h i f b n = absurd f
  all_of round (tree.free k) binders.leaf g h i f b n = g k [] (ltb-true k (length names) n)
  all_of round (tree.free k) (binders.lam x s) g h i f b n = absurd f
  all_of round (tree.free k) (binders.app r s) g h i f b n = absurd f
  all_of round (tree.lam t) binders.leaf g h i f b n = absurd f
  all_of round (tree.lam t) (binders.lam x s) g h i f b n =
      let y = primed (used 1 names round t) x in
      let new = of y (primed_name (used 1 names round t) x i.0) in
      let one : length round + 1 ≡ suc (length round) = omega arith in (
        new,
        all_of (y ∷ round) t s g (All-cons P y round new h) i.1 f (ap (λ (d : ℕ). is_below d t) (sym one) ∙ b) n,
      )
  all_of round (tree.lam t) (binders.app r s) g h i f b n = absurd f
  all_of round (tree.app l a) binders.leaf g h i f b n = absurd f
  all_of round (tree.app l a) (binders.lam x s) g h i f b n = absurd f
  all_of round (tree.app l a) (binders.app r s) g h i f b n =
      let p = and_parts (is_below (length round) l) (is_below (length round) a) b in
      let q = and_parts (is_named_below (length names) l) (is_named_below (length names) a) n in
      (all_of round l r g h i.0 f.0 p.0 q.0, all_of round a s g h i.1 f.1 p.1 q.1)

all_names : (names : List (List ℕ)) (t : Tree) (s : Binders) → AreNames names → HasNames s →
    Fits t s → is_below 0 t ≡ true → is_named_below (length names) t ≡ true → AllNames (named names [] t s)
all_names names t s g i f b n =
    names_all (named names [] t s)
    (all_of IsName (λ x h. h) names [] t s (names_in IsName (λ x h. h) names g) (All-nil IsName) i f b n)

-- ---- contraction keeps names

put_names : (c : Binders) → HasNames c → (d : ℕ) (t : Tree) (s : Binders) → HasNames s → HasNames (put_in c d t s)
put_names c g d (tree.var k) s h = go (k == d)
  where
    go : (b : Bool) → HasNames (if b then c else binders.leaf)
    go true = g
    go false = tt
put_names c g d (tree.free k) s h = tt
put_names c g d (tree.lam t) binders.leaf h = tt
put_names c g d (tree.lam t) (binders.lam x s) h = (h.0, put_names c g (d + 1) t s h.1)
put_names c g d (tree.lam t) (binders.app r s) h = tt
put_names c g d (tree.app f a) binders.leaf h = tt
put_names c g d (tree.app f a) (binders.lam x s) h = tt
put_names c g d (tree.app f a) (binders.app r s) h = (put_names c g d f r h.0, put_names c g d a s h.1)

applied_names : (f : Tree) (r c : Binders) → HasNames r → HasNames c → HasNames (applied f r c)
applied_names (tree.var k) r c h g = tt
applied_names (tree.free k) r c h g = tt
applied_names (tree.lam t) binders.leaf c h g = tt
applied_names (tree.lam t) (binders.lam x r) c h g = put_names c g 0 t r h.1
applied_names (tree.lam t) (binders.app q r) c h g = tt
applied_names (tree.app f a) r c h g = tt

contracted_names : (t : Tree) (s : Binders) (at : List ℕ) → HasNames s → HasNames (contracted t s at)
contracted_names (tree.var k) s at h = h
contracted_names (tree.free k) s at h = h
contracted_names (tree.lam t) binders.leaf [] h = h
contracted_names (tree.lam t) (binders.lam x s) [] h = h
contracted_names (tree.lam t) (binders.app r s) [] h = h
contracted_names (tree.lam t) binders.leaf (m ∷ at) h = h
contracted_names (tree.lam t) (binders.lam x s) (m ∷ at) h = (h.0, contracted_names t s at h.1)
contracted_names (tree.lam t) (binders.app r s) (m ∷ at) h = h
contracted_names (tree.app f a) binders.leaf at h = h
contracted_names (tree.app f a) (binders.lam x s) at h = h
contracted_names (tree.app f a) (binders.app r s) [] h = applied_names f r s h.0 h.1
contracted_names (tree.app f a) (binders.app r s) (m ∷ at) h =
    go (m == 1) (contracted_names f r at h.0) (contracted_names a s at h.1)
  where
    go : (b : Bool) → HasNames (contracted f r at) → HasNames (contracted a s at) →
        HasNames (if b then binders.app (contracted f r at) s else binders.app r (contracted a s at))
    go true i j = (i, h.1)
    go false i j = (h.0, j)

-- ---- along a walk

pub record IsReadable (names : List (List ℕ)) (t : Tree) (s : Binders) : Type 0 where
  pub words : HasNames s
  pub fits : Fits t s
  pub bound : is_below 0 t ≡ true
  pub placed : is_named_below (length names) t ≡ true

one_step : (order : Order) (names : List (List ℕ)) (u v : Tree) (b : Binders) (at : List ℕ) → next order u ≡ Some at →
    beta.contracted u at ≡ Some v → IsReadable names u b → IsReadable names v (next_binders order u b)
one_step order names u v b at redex step r =
    subst (λ (o : Option (List ℕ)). IsReadable names v (binders_after o u b)) (sym redex) (record {
      words = contracted_names u b at r.words;
      fits = contracted_fits u v b at r.fits step;
      bound = step_below 0 u at v r.bound step;
      placed = step_named (length names) u at v r.placed step;
    })

pub along : (order : Order) (names : List (List ℕ)) (t : Tree) (s : Binders) → IsReadable names t s →
    {terms : List Tree} {v : Tree} → Walk order t terms v → IsReadable names v (last_binders order s terms)
along order names t s h starts = h
along order names t s h (goes {terms = terms} {u = u} {v = v} walk new step within) =
    subst (λ (b : Binders). IsReadable names v b) (sym (binders_more order s terms u))
    (one_step order names u v (last_binders order s terms) step.0 step.1 step.2 (along order names t s h walk))

-- ---- the source

source_names : (t : Named) → AllNames t → HasNames (binders_of t)
source_names (var x) h = tt
source_names (lam x t) h = (h.0, source_names t h.1)
source_names (app f a) h = (source_names f h.0, source_names a h.1)

pub readable : (bytes : List ℕ) (t : Named) → IsText bytes t → IsReadable (names_of t) (number t) (binders_of t)
readable bytes t i = record {
  words = source_names t (text_has_names bytes t i);
  fits = source_fits t;
  bound = whole_bound t;
  placed = whole_named t;
}

-- ---- what is printed is read again

pub reads_again : ReadsAgain
reads_again order bytes source v terms i walk =
    let names = names_of source in
    let w = last_binders order (binders_of source) terms in
    let r = along order names (number source) (binders_of source) (readable bytes source i) walk in
    record {
      fits = r.fits;
      text = named_is_read (named names [] v w)
          (all_names names v w (names_good bytes source i) r.words r.fits r.bound r.placed);
      tree = none_is_caught names v w (names_differ source) r.fits r.bound r.placed;
    }

-- ---- what is folded is read again

pub words_of_lets : (n : ℕ) (s : Binders) → HasNames s → AreNames (let_names n s)
words_of_lets zero s h = tt
words_of_lets (suc n) binders.leaf h = tt
words_of_lets (suc n) (binders.lam x s) h = tt
words_of_lets (suc n) (binders.app binders.leaf r) h = tt
words_of_lets (suc n) (binders.app (binders.lam x s) r) h = (h.0.0, words_of_lets n s h.0.1)
words_of_lets (suc n) (binders.app (binders.app p q) r) h = tt

one_word : (b : Bool) (x : List ℕ) (v : Tree) (s : Binders) → IsName x → AreNames (names_of_lets (row_if b x v s))
one_word true x v s h = (h, tt)
one_word false x v s h = tt

words_behind : (each : Tree → List LetRow) (o : Option Tree) →
    ((u : Tree) → AreNames (names_of_lets (each u))) → AreNames (names_of_lets (if_small each o))
words_behind each None h = tt
words_behind each (Some u) h = go (is_small u)
  where
    go : (b : Bool) → AreNames (names_of_lets (if b then each u else []))
    go true = h u
    go false = tt

pub let_words : (names later : List (List ℕ)) (t : Tree) (s : Binders) → AreNames later →
    AreNames (names_of_lets (lets names later t s))
let_words names [] t s h = tt
let_words names (x ∷ later) t s h =
    let r = contracted t s [] in
    let more = if_small (λ u. lets names later u r) (beta.contracted t []) in
    let one = row_if (is_closed (value_of t) && not (is_among (names ++ later) x)) x (value_of t) (names_in_argument s) in
    subst AreNames (sym (map-append (λ (row : LetRow). row.name) more one))
    (both (names_of_lets more) (names_of_lets one)
    (words_behind (λ u. lets names later u r) (beta.contracted t []) (λ u. let_words names later u r h.1))
    (one_word (is_closed (value_of t) && not (is_among (names ++ later) x)) x (value_of t) (names_in_argument s) h.0))

pruned_names : (t : Tree) (s : Binders) → HasNames s → HasNames (pruned t s)
pruned_names (tree.var k) s h = tt
pruned_names (tree.free k) s h = tt
pruned_names (tree.lam t) binders.leaf h = tt
pruned_names (tree.lam t) (binders.lam x s) h = (h.0, pruned_names t s h.1)
pruned_names (tree.lam t) (binders.app r s) h = tt
pruned_names (tree.app f a) binders.leaf h = tt
pruned_names (tree.app f a) (binders.lam x s) h = tt
pruned_names (tree.app f a) (binders.app r s) h = (pruned_names f r h.0, pruned_names a s h.1)

-- the names of a glossary without a bar are names of the grammar, and a folded tree has its places
pub record IsPlaced (g : Glossary) (x : Tree) : Type 0 where
  pub good : All IsGood g.names
  pub once : NoNameTwice g.names
  pub bound : is_below 0 x ≡ true
  pub placed : is_named_below (length g.names) x ≡ true

pub folded_placed : (names : List (List ℕ)) (n : ℕ) (t : Tree) (s : Binders) (at : Option (List ℕ)) (v : Tree)
    (w : Binders) → AreNames names → NoNameTwice names → HasNames s → IsReadable names v w →
    IsPlaced (glossary names n t s) (worded_at (glossary names n t s) at v w)
folded_placed names n t s at v w good once words r =
    let g = glossary names n t s in
    let later = let_names n s in
    let rows = lets names later t s in
    let all = with_words names rows in
    let x = folded_at g.first (values_of_lets g.rows) at v in
    let f = is_fold_of (length names) (values_of_lets g.rows) at v in
    let m : length (values_of_lets all) ≡ length all = length-map all (λ (row : LetRow). row.value) in
    let k : length (names_of_lets all) ≡ length all = length-map all (λ (row : LetRow). row.name) in
    let j : length (names ++ names_of_lets all) ≡ length names + length (names_of_lets all) =
    length-append names (names_of_lets all) in
    let l : length names + length all ≡ length (names ++ names_of_lets all) = omega (arith, j, k) in
    record {
      good = All-append IsGood names (names_of_lets all) (names_in IsGood name_good names good)
          (all_good names rows (let_words names later t s (words_of_lets n s words)));
      once = lets_differ names later t s once;
      bound = worded_below g 0 x w (f.below 0 r.bound);
      placed = subst (λ (i : ℕ). is_named_below i (worded g x w) ≡ true) l
          (worded_named g x w (ap (λ (i : ℕ). is_named_below (length names + i) x) (sym m) ∙ f.named r.placed));
    }

folded_reads : (names : List (List ℕ)) (n : ℕ) (t : Tree) (s : Binders) (at : Option (List ℕ)) (v : Tree) (w : Binders) →
    AreNames names → NoNameTwice names → HasNames s → IsReadable names v w →
    (u : Named) × ReadsFolded true (glossary names n t s) at v w u
folded_reads names n t s at v w good once words r =
    let g = glossary names n t s in
    let vs = values_of_lets g.rows in
    let y = folded_at g.first vs at v in
    let x = worded g y w in
    let p = folded_placed names n t s at v w good once words r in
    let fits = worded_fits g y w w (folded_fits g.first vs at v w r.fits) in
    let u = named g.names [] x (pruned x w) in
    let same = none_is_caught g.names x (pruned x w) p.once fits p.bound p.placed in (
      u,
      record {
        is = refl;
        text = λ none. named_is_read u (no_bars u
            (all_of IsGood name_good g.names [] x (pruned x w) p.good (All-nil IsGood) (pruned_names x w r.words) fits p.bound p.placed) none);
        folded = same;
        tree = ap (unfolded g.first vs) same ∙ unfolded_worded g y w ∙ unfolded_is_term g.first vs at v r.placed;
      },
    )

pub folded_reads_again : FoldedReadsAgain
folded_reads_again order at n bytes source v terms i walk =
    let names = names_of source in
    let r = readable bytes source i in
    folded_reads names n (number source) (binders_of source) at v (last_binders order (binders_of source) terms)
    (names_good bytes source i) (names_differ source) r.words
    (along order names (number source) (binders_of source) r walk)
