-- The last line of an answer, and the lines before it.
use Rattle.std.proofs.Common.{◌≡◌, ℕ, zero, suc, ◌==◌, ◌%◌, ◌/◌, inl, inr, Bool, true, false, cond, nat_eq, not}
use Rattle.std.proofs.Common.{List, [], ◌∷◌, ◌++◌, append_assoc, codes, Option, Some, refl, sym, ap, ◌∙◌, subst, arith}
use Rattle.std.specs.Prelude.{◌&&◌, if◌then◌else◌}
use Rattle.std.specs.Fmt.{decimal, digits, digits_onto, digit_glyph}
use Rattle.std.proofs.lemmas.Bool.{ne_eqb, and_parts, not-true}
use Rattle.ol_limits.specs.Limits.{most_depth, most_size}
use Rattle.ol_term.specs.Trees.{Tree}
use Rattle.ol_beta.specs.AddressTexts.{address_text}
use Rattle.ol_strategies.specs.Redexes.{next}
use Rattle.ol_strategies.specs.declared.orders.Order.{Order}
use Rattle.ol_strategies.specs.declared.orders.Order.TheVariants as order
use Rattle.ol_strategies.specs.declared.orders.Reached.{Reached}
use Rattle.ol_strategies.specs.declared.orders.Reached.TheVariants as word
use Rattle.ol_parse.specs.Texts.{IsLine}
use Rattle.ol_subjects.specs.Limited.{depth_words, nodes_words}
use Rattle.ol_subjects.proofs.Glyphs.{glyph_is}
use Rattle.ol_term.specs.Texts.{text_of_term}
use Rattle.ol_steps.specs.NamedTexts.{named_text}
use Rattle.ol_steps.specs.Naming as own
use Rattle.ol_steps.specs.Binders.{Binders}
use Rattle.ol_steps.specs.Folded.{pruned}
use Rattle.ol_steps.specs.declared.stepping.Shown.{Shown}
use Rattle.ol_steps.specs.Steps.{shown_tree, shown_term, term_line, address_line, carets_if, redex_lines, begun}
use Rattle.ol_steps.specs.Words.{Glossary}
use Rattle.ol_steps.specs.Steps.{shown_line, walk_lines, unfold_line, last_unfolding, last_binders, lines_to}
use Rattle.ol_steps.specs.Steps.{lines_with_redex, how_many, last_line, past_line, reached_words, return_words, return_line}
use Rattle.ol_steps.specs.StepLaws.{HasLastLine}

-- ---- no line feed

abbrev no_feed : List ℕ → Bool
no_feed [] = true
no_feed (b ∷ bs) = not (nat_eq b 10) && no_feed bs

is_line : (bs : List ℕ) → no_feed bs ≡ true → IsLine bs
is_line [] h = tt
is_line (b ∷ bs) h =
    let p = and_parts (not (nat_eq b 10)) (no_feed bs) h in (not-true (nat_eq b 10) p.0, is_line bs p.1)

both_lines : (bs cs : List ℕ) → IsLine bs → IsLine cs → IsLine (bs ++ cs)
both_lines [] cs h i = i
both_lines (b ∷ bs) cs h i = (h.0, both_lines bs cs h.1 i)

glyph_line : (n : ℕ) → nat_eq (digit_glyph false (n % 10)) 10 ≡ false
glyph_line n =
    ne_eqb (digit_glyph false (n % 10)) 10 (λ e. let i = glyph_is (n % 10) (omega arith) in absurd (omega (arith, e, i)))

digits_line : (k n : ℕ) (bs : List ℕ) → IsLine bs → IsLine (digits_onto k 10 false n bs)
digits_line zero n bs h = h
digits_line (suc k) n bs h =
    go (n / 10 == 0) (glyph_line n, h) (digits_line k (n / 10) (digit_glyph false (n % 10) ∷ bs) (glyph_line n, h))
  where
    go : (b : Bool) → IsLine (digit_glyph false (n % 10) ∷ bs) →
        IsLine (digits_onto k 10 false (n / 10) (digit_glyph false (n % 10) ∷ bs)) →
        IsLine (cond b (digit_glyph false (n % 10) ∷ bs) (digits_onto k 10 false (n / 10) (digit_glyph false (n % 10) ∷ bs)))
    go true x y = x
    go false x y = y

decimal_line : (n : ℕ) → IsLine (decimal n)
unfolding digits
decimal_line n = digits_line 64 n [] tt

-- ---- one line

-- bytes without a line feed, and then one
abbrev pub OneLine : List ℕ → Type 0
OneLine bs = (cs : List ℕ) × (bs ≡ cs ++ codes "\n") × IsLine cs

many_line : (n : ℕ) (thing : List ℕ) → IsLine thing → IsLine (how_many n thing)
many_line n thing h = both_lines (decimal n ++ codes " " ++ thing) (if n == 1 then [] else codes "s")
    (both_lines (decimal n ++ codes " ") thing
    (both_lines (decimal n) (codes " ") (decimal_line n) (is_line (codes " ") refl)) h) (end (n == 1))
  where
    end : (b : Bool) → IsLine (if b then [] else codes "s")
    end true = tt
    end false = is_line (codes "s") refl

pub counted_line : (words : List ℕ) (n : ℕ) → IsLine words → OneLine (last_line words n)
counted_line words n h =
    let front = words ++ codes " after " in (
      front ++ how_many n (codes "step"),
      refl,
      both_lines front (how_many n (codes "step")) (both_lines words (codes " after ") h (is_line (codes " after ") refl))
          (many_line n (codes "step") (is_line (codes "step") refl)),
    )

-- a front, some words and a number
number_line : (front words : List ℕ) (n : ℕ) → IsLine front → no_feed words ≡ true → IsLine (front ++ words ++ decimal n)
number_line front words n h e =
    both_lines (front ++ words) (decimal n) (both_lines front words h (is_line words e)) (decimal_line n)

pub past_one : (n size depth : ℕ) → OneLine (past_line n size depth)
past_one n size depth =
    let a = codes "step " ++ decimal n in
    let b = a ++ codes " exceeds the limits: size " ++ decimal size in
    let c = b ++ codes " of " ++ decimal most_size in
    let d = c ++ codes ", depth " ++ decimal depth in (
      d ++ codes " of " ++ decimal most_depth,
      refl,
      number_line d (codes " of ") most_depth
          (number_line c (codes ", depth ") depth
          (number_line b (codes " of ") most_size
          (number_line a (codes " exceeds the limits: size ") size
          (both_lines (codes "step ") (decimal n) (is_line (codes "step ") refl) (decimal_line n)) refl) refl) refl) refl,
    )

pub reached_line : (w : Reached) → IsLine (reached_words w)
reached_line word.Normal = is_line (codes "normal") refl
reached_line word.HeadNormal = is_line (codes "head normal") refl
reached_line word.WeakHeadNormal = is_line (codes "weak head normal") refl
reached_line word.Value = is_line (codes "value") refl
reached_line word.Stuck = is_line (codes "stuck") refl

return_said : (o : Order) → IsLine (return_words o)
return_said order.Leftmost = is_line (codes "no normal form") refl
return_said order.Head = is_line (codes "no head normal form") refl
return_said order.WeakHead = is_line (codes "no weak head normal form") refl
return_said order.Applicative = is_line (codes "no end in this order") refl
return_said order.Value = is_line (codes "no end in this order") refl

pub return_one : (o : Order) (n k : ℕ) → OneLine (return_line o n k)
return_one o n k =
    let a = codes "step " ++ decimal n in
    let b = a ++ codes " is step " ++ decimal k in (
      b ++ codes " again: " ++ return_words o,
      refl,
      both_lines (b ++ codes " again: ") (return_words o)
          (both_lines b (codes " again: ")
          (both_lines (a ++ codes " is step ") (decimal k)
          (both_lines a (codes " is step ")
          (both_lines (codes "step ") (decimal n) (is_line (codes "step ") refl) (decimal_line n))
          (is_line (codes " is step ") refl)) (decimal_line k))
          (is_line (codes " again: ") refl)) (return_said o),
    )

pub left_one : (n : ℕ) → OneLine (last_line (codes "a redex is left") n)
left_one n = counted_line (codes "a redex is left") n (is_line (codes "a redex is left") refl)

pub syntax_one : (at : ℕ) → OneLine (codes "syntax at byte " ++ decimal at ++ codes "\n")
syntax_one at = (
  codes "syntax at byte " ++ decimal at,
  refl,
  both_lines (codes "syntax at byte ") (decimal at) (is_line (codes "syntax at byte ") refl) (decimal_line at),
)

pub deep_one : OneLine (depth_words ++ codes "\n")
unfolding digits
deep_one = (depth_words, refl, is_line depth_words refl)

pub large_one : OneLine (nodes_words ++ codes "\n")
unfolding digits
large_one = (nodes_words, refl, is_line nodes_words refl)

-- ---- it is the last one

-- the bytes end a line
abbrev pub EndsLine : List ℕ → Type 0
EndsLine bs = (lines : List ℕ) × (bs ≡ lines ++ codes "\n")

behind : (bs cs : List ℕ) → EndsLine cs → EndsLine (bs ++ cs)
behind bs cs h =
    (bs ++ h.0, ap (λ (x : List ℕ). bs ++ x) h.1 ∙ sym (append_assoc bs h.0 (codes "\n")))

term_ends : (named : Bool) (names : List (List ℕ)) (t : Tree) (s : Binders) → EndsLine (term_line named names t s)
term_ends named names t s = (if named then named_text false (own.named names [] t s) else text_of_term names t, refl)

pub shown_ends : (how : Shown) (g : Glossary) (lets : ℕ) (s : Binders) (terms : List Tree) (v : Tree) →
    EndsLine (lines_to how g lets s terms v)
shown_ends how g lets s terms v =
    let w = last_binders how.order s terms in
    let line = shown_line how g v w in
    let told = unfold_line (last_unfolding how.order (begun lets) terms) in
    behind (walk_lines how g (begun lets) s terms) (told ++ line)
    (behind told line (term_ends how.named g.names (shown_tree how g v w) (pruned (shown_tree how g v w) w)))

redex_ends : (how : Shown) (names : List (List ℕ)) (t : Tree) (s : Binders) (o : Option (List ℕ)) (at : List ℕ) →
    o ≡ Some at → EndsLine (redex_lines how names t s o)
redex_ends how names t s o at e =
    subst (λ (p : Option (List ℕ)). EndsLine (redex_lines how names t s p)) (sym e)
    (behind (carets_if how.marked (shown_term how.named names t s) at) (address_line at)
    (codes "  at " ++ address_text at, refl))

pub redex_told : (how : Shown) (g : Glossary) (lets : ℕ) (s : Binders) (terms : List Tree) (v : Tree) (at : List ℕ) →
    next how.order v ≡ Some at → EndsLine (lines_with_redex how g lets s terms v)
redex_told how g lets s terms v at e =
    let w = last_binders how.order s terms in
    let x = shown_tree how g v w in
    let line = shown_line how g v w in
    let redex = redex_lines how g.names x (pruned x w) (next how.order v) in
    let told = unfold_line (last_unfolding how.order (begun lets) terms) in
    behind (walk_lines how g (begun lets) s terms) (told ++ (line ++ redex))
    (behind told (line ++ redex) (behind line redex (redex_ends how g.names x (pruned x w) (next how.order v) at e)))

pub ends_with : (text before line : List ℕ) → text ≡ before ++ line → EndsLine before → OneLine line → HasLastLine text line
ends_with text before line is whole one = record {
  before = before;
  words = one.0;
  text_is = is;
  line_is = one.1;
  one = one.2;
  whole = inr whole;
}

pub only_line : (text : List ℕ) → OneLine text → HasLastLine text text
only_line text one = record {
  before = [];
  words = one.0;
  text_is = refl;
  line_is = one.1;
  one = one.2;
  whole = inl refl;
}
