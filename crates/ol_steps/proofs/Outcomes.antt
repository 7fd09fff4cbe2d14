-- What an answer tells of a walk, whatever is shown of its terms: answers of one walk end alike.
use Rattle.std.proofs.Common.{◌≡◌, ℕ, ◌+◌, ◌<◌, ◌≤◌, inl, inr, List, ◌++◌, codes, length, Option, Some}
use Rattle.std.proofs.Common.{refl, sym, ap, ◌∙◌, subst, arith}
use Rattle.std.specs.Prelude.{slice_get}
use Rattle.std.proofs.lemmas.Option.{none-some}
use Rattle.ol_term.specs.Trees.{Tree, term_size, depth}
use Rattle.ol_beta.specs.Beta.{contracted, IsWithin, IsPast, IsPastAfter}
use Rattle.ol_beta.proofs.Redexes.{none_some}
use Rattle.ol_strategies.specs.Redexes.{next}
use Rattle.ol_strategies.specs.Ends.{IsEnd}
use Rattle.ol_strategies.proofs.Finals.{no_next_is_end, end_is_one}
use Rattle.ol_strategies.specs.declared.orders.Order.{Order}
use Rattle.ol_strategies.specs.declared.orders.Reached.{Reached}
use Rattle.ol_subjects.specs.declared.answers.End.{End}
use Rattle.ol_subjects.specs.declared.answers.End.TheVariants.{No}
use Rattle.ol_steps.specs.Binders.{Binders}
use Rattle.ol_steps.specs.declared.stepping.Shown.{Shown}
use Rattle.ol_steps.specs.Steps.{Walk, IsNew, lines_to, lines_with_redex, last_line, past_line, return_line}
use Rattle.ol_steps.specs.Words.{Glossary}
use Rattle.ol_steps.specs.Steps.{reached_words, reached_end, Tells, ends, returns, left, past}
use Rattle.ol_steps.specs.StepLaws.{HasLastLine}
use Rattle.ol_steps.proofs.LastLines.{counted_line, reached_line, return_one, left_one, past_one, ends_with}
use Rattle.ol_steps.proofs.LastLines.{shown_ends, redex_told}
use Rattle.ol_steps.proofs.OneWalk.{Stops, one_stop, redex_in, one_place}

same_some : {A : Type 0} (o : Option A) (x y : A) → o ≡ Some x → o ≡ Some y → x ≡ y
same_some o x y e i = cc

no_within_past : (t : Tree) → IsWithin t → IsPast t → ⊥
no_within_past t w (inl h) = let i = w.0 in omega (arith, h, i)
no_within_past t w (inr h) = let i = w.1 in omega (arith, h, i)

-- ---- the four ways to end: the text is what is shown, without or with the last redex, and then a line

pub record Ended (o : Order) (terms : List Tree) (v : Tree) (front text line : List ℕ) (e : End) : Type 0 where
  pub word : Reached
  pub normal : IsEnd o v word
  pub text_is : text ≡ front ++ line
  pub line_is : line ≡ last_line (reached_words word) (length terms)
  pub end_is : e ≡ reached_end word

pub record Returned (o : Order) (terms : List Tree) (v : Tree) (front text line : List ℕ) (e : End) : Type 0 where
  pub k : ℕ
  pub found : slice_get terms k ≡ Some v
  pub text_is : text ≡ front ++ line
  pub line_is : line ≡ return_line o (length terms) k
  pub end_is : e ≡ No

pub record Cut (o : Order) (most : ℕ) (terms : List Tree) (v : Tree) (front text line : List ℕ) (e : End) : Type 0 where
  pub at : List ℕ
  pub redex : next o v ≡ Some at
  pub new : IsNew terms v
  pub all : length terms ≡ most
  pub text_is : text ≡ front ++ line
  pub line_is : line ≡ last_line (codes "a redex is left") most
  pub end_is : e ≡ No

pub record Outgrown (o : Order) (most : ℕ) (terms : List Tree) (v : Tree) (front text line : List ℕ) (e : End) : Type 0 where
  pub at : List ℕ
  pub size : ℕ
  pub deep : ℕ
  pub redex : next o v ≡ Some at
  pub new : IsNew terms v
  pub less : length terms < most
  pub out : IsPastAfter v at size deep
  pub text_is : text ≡ front ++ line
  pub line_is : line ≡ past_line (length terms + 1) size deep
  pub end_is : e ≡ No

-- what is shown up to the last term is `shown`, and with its redex `redex`
pub data Outcome (o : Order) (most : ℕ) (terms : List Tree) (v : Tree) (shown redex text line : List ℕ) (e : End)
    : Type 0 where
  ended : Ended o terms v shown text line e → Outcome o most terms v shown redex text line e
  returned : Returned o terms v shown text line e → Outcome o most terms v shown redex text line e
  cut : Cut o most terms v redex text line e → Outcome o most terms v shown redex text line e
  outgrown : Outgrown o most terms v redex text line e → Outcome o most terms v shown redex text line e

-- ---- one walk ends in one of them

-- two answers by one walk
abbrev pub Alike : (shown redex text line : List ℕ) → End → (shown' redex' text' line' : List ℕ) → End → Type 0
Alike shown redex text line e shown' redex' text' line' f =
    (line ≡ line') × (e ≡ f) × (shown ≡ shown' → redex ≡ redex' → text ≡ text')

by_shown : (front front' text text' line line' : List ℕ) → text ≡ front ++ line → text' ≡ front' ++ line' →
    line ≡ line' → front ≡ front' → text ≡ text'
by_shown front front' text text' line line' a b e i =
    a ∙ ap (λ (x : List ℕ). x ++ line) i ∙ ap (λ (x : List ℕ). front' ++ x) e ∙ sym b

one_outcome : {o : Order} {t v : Tree} {terms : List Tree} (most : ℕ) (A B text line A' B' text' line' : List ℕ)
    (e f : End) → Walk o t terms v → Outcome o most terms v A B text line e → Outcome o most terms v A' B' text' line' f →
    Alike A B text line e A' B' text' line' f
one_outcome {o} {t} {v} {terms} most A B text line A' B' text' line' e f walk (ended x) (ended y) =
    let w = end_is_one o v x.word y.word x.normal y.normal in
    let l = x.line_is ∙ ap (λ (r : Reached). last_line (reached_words r) (length terms)) w ∙ sym y.line_is in (
      l,
      x.end_is ∙ ap reached_end w ∙ sym y.end_is,
      λ a b. by_shown A A' text text' line line' x.text_is y.text_is l a,
    )
one_outcome {o} {t} {v} {terms} most A B text line A' B' text' line' e f walk (ended x) (returned y) =
    absurd (none_some (next o v) ((no_next_is_end o v).1 (x.word, x.normal)) (redex_in walk y.k v y.found))
one_outcome {o} {t} {v} {terms} most A B text line A' B' text' line' e f walk (ended x) (cut y) =
    absurd (none-some y.at (sym ((no_next_is_end o v).1 (x.word, x.normal)) ∙ y.redex))
one_outcome {o} {t} {v} {terms} most A B text line A' B' text' line' e f walk (ended x) (outgrown y) =
    absurd (none-some y.at (sym ((no_next_is_end o v).1 (x.word, x.normal)) ∙ y.redex))
one_outcome {o} {t} {v} {terms} most A B text line A' B' text' line' e f walk (returned x) (ended y) =
    absurd (none_some (next o v) ((no_next_is_end o v).1 (y.word, y.normal)) (redex_in walk x.k v x.found))
one_outcome {o} {t} {v} {terms} most A B text line A' B' text' line' e f walk (returned x) (returned y) =
    let k = one_place walk x.k y.k v x.found y.found in
    let l = x.line_is ∙ ap (λ (j : ℕ). return_line o (length terms) j) k ∙ sym y.line_is in (
      l,
      x.end_is ∙ sym y.end_is,
      λ a b. by_shown A A' text text' line line' x.text_is y.text_is l a,
    )
one_outcome {o} {t} {v} {terms} most A B text line A' B' text' line' e f walk (returned x) (cut y) =
    absurd (y.new x.k x.found)
one_outcome {o} {t} {v} {terms} most A B text line A' B' text' line' e f walk (returned x) (outgrown y) =
    absurd (y.new x.k x.found)
one_outcome {o} {t} {v} {terms} most A B text line A' B' text' line' e f walk (cut x) (ended y) =
    absurd (none-some x.at (sym ((no_next_is_end o v).1 (y.word, y.normal)) ∙ x.redex))
one_outcome {o} {t} {v} {terms} most A B text line A' B' text' line' e f walk (cut x) (returned y) =
    absurd (x.new y.k y.found)
one_outcome {o} {t} {v} {terms} most A B text line A' B' text' line' e f walk (cut x) (cut y) =
    let l = x.line_is ∙ sym y.line_is in (
      l,
      x.end_is ∙ sym y.end_is,
      λ a b. by_shown B B' text text' line line' x.text_is y.text_is l b,
    )
one_outcome {o} {t} {v} {terms} most A B text line A' B' text' line' e f walk (cut x) (outgrown y) =
    let i = x.all in
    let j = y.less in
    absurd (omega (arith, i, j))
one_outcome {o} {t} {v} {terms} most A B text line A' B' text' line' e f walk (outgrown x) (ended y) =
    absurd (none-some x.at (sym ((no_next_is_end o v).1 (y.word, y.normal)) ∙ x.redex))
one_outcome {o} {t} {v} {terms} most A B text line A' B' text' line' e f walk (outgrown x) (returned y) =
    absurd (x.new y.k y.found)
one_outcome {o} {t} {v} {terms} most A B text line A' B' text' line' e f walk (outgrown x) (cut y) =
    let i = y.all in
    let j = x.less in
    absurd (omega (arith, i, j))
one_outcome {o} {t} {v} {terms} most A B text line A' B' text' line' e f walk (outgrown x) (outgrown y) =
    let at : x.at ≡ y.at = same_some (next o v) x.at y.at x.redex y.redex in
    let u : x.out.after ≡ y.out.after = same_some (contracted v y.at) x.out.after y.out.after
    (sym (ap (contracted v) at) ∙ x.out.is) y.out.is in
    let n : x.size ≡ y.size = x.out.size_is ∙ ap term_size u ∙ sym y.out.size_is in
    let d : x.deep ≡ y.deep = x.out.depth_is ∙ ap depth u ∙ sym y.out.depth_is in
    let l = x.line_is ∙ ap (λ (k : ℕ). past_line (length terms + 1) k x.deep) n
    ∙ ap (λ (k : ℕ). past_line (length terms + 1) y.size k) d ∙ sym y.line_is in (
      l,
      x.end_is ∙ sym y.end_is,
      λ a b. by_shown B B' text text' line line' x.text_is y.text_is l b,
    )

-- ---- what an answer tells

abbrev pub Fronts : Type 0
Fronts = List Tree → Tree → List ℕ

pub record Told (o : Order) (most : ℕ) (t : Tree) (shown redex : Fronts) (text : List ℕ) (e : End) : Type 0 where
  pub terms : List Tree
  pub end : Tree
  pub line : List ℕ
  pub stops : Stops o most t terms end
  pub outcome : Outcome o most terms end (shown terms end) (redex terms end) text line e
  pub last : HasLastLine text line

module _ (how : Shown) (g : Glossary) (lets most : ℕ) (t : Tree) (s : Binders) (text : List ℕ) where
  abbrev IsTold : End → Type 0
  IsTold e = Told how.order most t (lines_to how g lets s) (lines_with_redex how g lets s) text e

  told_ends : (terms : List Tree) (v : Tree) (word : Reached) → Walk how.order t terms v → length terms ≤ most →
      IsEnd how.order v word → text ≡ lines_to how g lets s terms v ++ last_line (reached_words word) (length terms) →
      IsTold (reached_end word)
  told_ends terms v word walk few end is = record {
    terms = terms;
    end = v;
    line = last_line (reached_words word) (length terms);
    stops = record {
      walk = walk;
      few = few;
      last = λ less on. none-some on.step.0 (sym ((no_next_is_end how.order v).1 (word, end)) ∙ on.step.1);
    };
    outcome = ended (record { word = word; normal = end; text_is = is; line_is = refl; end_is = refl });
    last = ends_with text (lines_to how g lets s terms v) (last_line (reached_words word) (length terms)) is
        (shown_ends how g lets s terms v) (counted_line (reached_words word) (length terms) (reached_line word));
  }

  told_returns : (terms : List Tree) (v : Tree) (k : ℕ) → Walk how.order t terms v → length terms ≤ most →
      slice_get terms k ≡ Some v → text ≡ lines_to how g lets s terms v ++ return_line how.order (length terms) k →
      IsTold No
  told_returns terms v k walk few found is = record {
    terms = terms;
    end = v;
    line = return_line how.order (length terms) k;
    stops = record { walk = walk; few = few; last = λ less on. on.new k found };
    outcome = returned (record { k = k; found = found; text_is = is; line_is = refl; end_is = refl });
    last = ends_with text (lines_to how g lets s terms v) (return_line how.order (length terms) k) is
        (shown_ends how g lets s terms v) (return_one how.order (length terms) k);
  }

  told_left : (terms : List Tree) (v : Tree) (at : List ℕ) → Walk how.order t terms v → length terms ≡ most →
      IsNew terms v → next how.order v ≡ Some at →
      text ≡ lines_with_redex how g lets s terms v ++ last_line (codes "a redex is left") most → IsTold No
  told_left terms v at walk all new redex is = record {
    terms = terms;
    end = v;
    line = last_line (codes "a redex is left") most;
    stops = record { walk = walk; few = omega (arith, all); last = λ less on. omega (arith, all, less) };
    outcome = cut (record { at = at; redex = redex; new = new; all = all; text_is = is; line_is = refl; end_is = refl });
    last = ends_with text (lines_with_redex how g lets s terms v) (last_line (codes "a redex is left") most) is
        (redex_told how g lets s terms v at redex) (left_one most);
  }

  told_past : (terms : List Tree) (v : Tree) (at : List ℕ) (size deep : ℕ) → Walk how.order t terms v →
      length terms < most → IsNew terms v → next how.order v ≡ Some at → IsPastAfter v at size deep →
      text ≡ lines_with_redex how g lets s terms v ++ past_line (length terms + 1) size deep → IsTold No
  told_past terms v at size deep walk less new redex out is = record {
    terms = terms;
    end = v;
    line = past_line (length terms + 1) size deep;
    stops = record {
      walk = walk;
      few = omega (arith, less);
      last = λ l on.
          let i : at ≡ on.step.0 = same_some (next how.order v) at on.step.0 redex on.step.1 in
          let u : out.after ≡ on.after = same_some (contracted v on.step.0) out.after on.after
          (sym (ap (contracted v) i) ∙ out.is) on.step.2 in
          no_within_past on.after on.within (subst IsPast u out.past);
    };
    outcome = outgrown (record {
      at = at;
      size = size;
      deep = deep;
      redex = redex;
      new = new;
      less = less;
      out = out;
      text_is = is;
      line_is = refl;
      end_is = refl;
    });
    last = ends_with text (lines_with_redex how g lets s terms v) (past_line (length terms + 1) size deep) is
        (redex_told how g lets s terms v at redex) (past_one (length terms + 1) size deep);
  }

  pub told : {e : End} → Tells how g lets most t s text e → IsTold e
  told (ends {terms = terms} {v = v} word walk few end is) = told_ends terms v word walk few end is
  told (returns {terms = terms} {v = v} k walk few found is) = told_returns terms v k walk few found is
  told (left {terms = terms} {v = v} {at = at} walk all new redex is) = told_left terms v at walk all new redex is
  told (past {terms = terms} {v = v} {at = at} {size = size} {depth = deep} walk less new redex out is) =
      told_past terms v at size deep walk less new redex out is

-- ---- two answers of one order, from one term

-- what two answers of one order, from one term, have in common
pub record Agree (shown redex shown' redex' : Fronts) (text text' : List ℕ) (e f : End) : Type 0 where
  pub line : List ℕ
  pub end : e ≡ f
  pub first : HasLastLine text line
  pub second : HasLastLine text' line
  pub same : ((terms : List Tree) (v : Tree) → shown terms v ≡ shown' terms v) →
      ((terms : List Tree) (v : Tree) → redex terms v ≡ redex' terms v) → text ≡ text'

pub agree : (o : Order) (most : ℕ) (t : Tree) (A B A' B' : Fronts) (text text' : List ℕ) (e f : End) →
    Told o most t A B text e → Told o most t A' B' text' f → Agree A B A' B' text text' e f
agree o most t A B A' B' text text' e f x y =
    let p = one_stop o most t y.terms x.terms y.end x.end y.stops x.stops in
    let out = subst (λ (terms : List Tree). Outcome o most terms x.end (A' terms x.end) (B' terms x.end) text' y.line f) p.0
    (subst (λ (v : Tree). Outcome o most y.terms v (A' y.terms v) (B' y.terms v) text' y.line f) p.1 y.outcome) in
    let r = one_outcome most (A x.terms x.end) (B x.terms x.end) text x.line (A' x.terms x.end) (B' x.terms x.end) text'
    y.line e f x.stops.walk x.outcome out in
    record {
      line = x.line;
      end = r.1;
      first = x.last;
      second = subst (HasLastLine text') (sym r.0) y.last;
      same = λ a b. r.2 (a x.terms x.end) (b x.terms x.end);
    }
