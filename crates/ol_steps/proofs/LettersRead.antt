-- What is printed with letters is read again.
use Rattle.std.proofs.Common.{◌≡◌, ℕ, ◌+◌, ◌-◌, ◌<◌, ◌≤◌, ◌^◌, true, false, List, [], length, refl, ap, ◌∙◌, subst, arith}
use Rattle.std.specs.List.{All}
use Rattle.std.proofs.lemmas.Bool.{and_parts, ltb-true}
use Rattle.ol_term.specs.Trees as tree
use Rattle.ol_term.specs.Trees.{Tree, is_below, is_named_below, depth}
use Rattle.ol_term.specs.NameLists.{NoNameTwice}
use Rattle.ol_parse.specs.Texts.{IsName, IsText}
use Rattle.ol_parse.specs.Numbered.{names_of, number, numbered}
use Rattle.ol_parse.specs.Parsed.{AreNames}
use Rattle.ol_parse.proofs.Words.{names_good}
use Rattle.ol_beta.specs.Beta.{IsWithin}
use Rattle.ol_readback.proofs.WordTokens.{binder_is_name}
use Rattle.ol_strategies.specs.declared.orders.Order.{Order}
use Rattle.ol_steps.specs.NamedTexts.{named_text}
use Rattle.ol_steps.specs.Lettered.{lettered}
use Rattle.ol_steps.proofs.LetteredTexts.{lettered_text}
use Rattle.ol_steps.specs.Binders.{binders_of}
use Rattle.ol_term.specs.BinderNames.{binder_name}
use Rattle.ol_steps.specs.Lets.{values_of_lets}
use Rattle.ol_steps.specs.Words.{worded}
use Rattle.ol_steps.proofs.WordNumbers.{unfolded_worded, worded_depth}
use Rattle.ol_steps.proofs.WordTexts.{AllOf, IsGood, name_good, names_all, names_in, no_bars}
use Rattle.ol_steps.proofs.BinderLetters.{letters_are_read}
use Rattle.ol_steps.proofs.Spelled.{named_is_read}
use Rattle.ol_steps.proofs.Worded.{names_differ}
use Rattle.ol_steps.specs.Folded.{folded_at}
use Rattle.ol_steps.specs.LetLaws.{unfolded}
use Rattle.ol_steps.proofs.Smaller.{is_fold_of}
use Rattle.ol_steps.proofs.ValuesPutIn.{unfolded_is_term}
use Rattle.ol_steps.specs.Steps.{Walk, starts, goes, glossary, last_binders}
use Rattle.ol_steps.specs.StepLaws.{LettersReadAgain, FoldedLettersReadAgain}
use Rattle.ol_steps.proofs.NamesWithPrimes.{along, readable, folded_placed}

-- below n binders, if it holds of names of the grammar
all_letters : (P : List ℕ → Type 0) → ((x : List ℕ) → IsName x → P x) → (names : List (List ℕ)) (n : ℕ) (t : Tree) →
    All P names → length names < 2 ^ 32 → n + depth t < 2 ^ 64 → is_named_below (length names) t ≡ true →
    AllOf P (lettered names n t)
all_letters P of names n (tree.var k) good few short placed =
    of (binder_name names (n - (k + 1))) (binder_is_name names (n - (k + 1)) few (omega (arith, short)))
all_letters P of names n (tree.free k) good few short placed =
    good k [] (ltb-true k (length names) placed)
all_letters P of names n (tree.lam t) good few short placed = (
  of (binder_name names n) (binder_is_name names n few (omega (arith, short))),
  all_letters P of names (n + 1) t good few (omega (arith, short)) placed,
)
all_letters P of names n (tree.app f a) good few short placed =
    let p = and_parts (is_named_below (length names) f) (is_named_below (length names) a) placed in (
      all_letters P of names n f good few (omega (arith, short)) p.0,
      all_letters P of names n a good few (omega (arith, short)) p.1,
    )

-- a tree within the bounds of letters
record IsReadable (names : List (List ℕ)) (t : Tree) : Type 0 where
  once : NoNameTwice names
  few : length names < 2 ^ 32
  short : depth t ≤ 1000
  bound : is_below 0 t ≡ true
  placed : is_named_below (length names) t ≡ true

text_read : (names : List (List ℕ)) (t : Tree) → AreNames names → IsReadable names t →
    IsText (named_text false (lettered names 0 t)) (lettered names 0 t)
text_read names t good h =
    let short = h.short in
    named_is_read (lettered names 0 t) (names_all (lettered names 0 t)
    (all_letters IsName (λ x i. i) names 0 t (names_in IsName (λ x i. i) names good) h.few (omega (arith, short)) h.placed))

tree_read : (names : List (List ℕ)) (t : Tree) → IsReadable names t → numbered names [] (lettered names 0 t) ≡ t
tree_read names t h =
    let short = h.short in
    letters_are_read names t h.once h.few (omega (arith, short)) h.bound h.placed

-- the last term of a walk
last_within : (order : Order) (t : Tree) {terms : List Tree} {v : Tree} → IsWithin t → Walk order t terms v → IsWithin v
last_within order t h starts = h
last_within order t h (goes walk new step within) = within

pub letters_read_again : LettersReadAgain
letters_read_again order bytes source v terms i within few walk =
    let names = names_of source in
    let r = along order names (number source) (binders_of source) (readable bytes source i) walk in
    let h : IsReadable names v = record {
      once = names_differ source;
      few = few;
      short = (last_within order (number source) within walk).1;
      bound = r.bound;
      placed = r.placed;
    } in
    record {
      text = subst (λ (text : List ℕ). IsText text (lettered names 0 v)) (lettered_text names false 0 v)
          (text_read names v (names_good bytes source i) h);
      tree = tree_read names v h;
    }

pub folded_letters_read_again : FoldedLettersReadAgain
folded_letters_read_again order at n bytes source v terms i within few walk =
    let names = names_of source in
    let g = glossary names n (number source) (binders_of source) in
    let vs = values_of_lets g.rows in
    let w = last_binders order (binders_of source) terms in
    let first = readable bytes source i in
    let r = along order names (number source) (binders_of source) first walk in
    let y = folded_at g.first vs at v in
    let x = worded g y w in
    let p = folded_placed names n (number source) (binders_of source) at v w (names_good bytes source i)
    (names_differ source) first.words r in
    let deep = (is_fold_of g.first vs at v).deep in
    let same_depth = worded_depth g y w in
    let last = (last_within order (number source) within walk).1 in
    let short : depth (worded g y w) ≤ 1000 = omega (arith, deep, same_depth, last) in
    let h : IsReadable g.names x = record {
      once = p.once;
      few = few;
      short = short;
      bound = p.bound;
      placed = p.placed;
    } in
    let same = tree_read g.names x h in (
      lettered g.names 0 x,
      record {
        is = refl;
        text = λ none. named_is_read (lettered g.names 0 x) (no_bars (lettered g.names 0 x)
            (all_letters IsGood name_good g.names 0 x p.good few (omega (arith, short)) p.placed) none);
        folded = same;
        tree = ap (unfolded g.first vs) same ∙ unfolded_worded g y w ∙ unfolded_is_term g.first vs at v r.placed;
      },
    )
