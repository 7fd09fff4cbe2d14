use Rattle.std.proofs.Common.{◌+◌, ◌++◌, codes, refl, sym, ◌∙◌, arith}
use Rattle.std.specs.Fmt.{decimal, digits}
use Rattle.ol_term.specs.Trees.{tree_of}
use Rattle.ol_parse.specs.Texts.{IsRefusedAt}
use Rattle.ol_subjects.specs.Limited.{bytes_words, depth_words, size_words}
use Rattle.ol_derivations.specs.Derivations.{long, syntax_at, deep, large}
use Rattle.ol_derivations.proofs.LineVerdicts.{told_so, too_large}
use Rattle.ol_derivations.proofs.lines.read_line.Goals as goal

pub returns-then-line : goal.returns-then-line
unfolding digits
returns-then-line c = (
  sym c.is_left_out.ensures ∙ c.if-is_left_out.false,
  told_so c.args.line.now bytes_words c.in_ok-words.words.items c.in_ok-words.ensures
      (long (omega (arith, c.if-line.true))),
)

pub overflow_add-at : goal.overflow_add-at
overflow_add-at c =
    let told : IsRefusedAt c.args.line.now c.in-Syntax.at =
    (c.in-Err.ensures.syntax (λ e. absurd (cc)) c.in-Syntax.at).0 (rw c.in-Syntax.is refl) in
    let w = told.1.within in
    omega (arith, w, c.if-line.false)

pub returns-in_ok-words-in-Ok : goal.returns-in_ok-words-in-Ok
unfolding digits
returns-in_ok-words-in-Ok c = (
  sym c.is_left_out.ensures ∙ c.if-is_left_out.false,
  told_so c.args.line.now size_words c.in_ok-words-in-Ok.words.items c.in_ok-words-in-Ok.ensures
      (large (omega (arith, c.if-line.false)) c.in-Ok.ensures.file c.in-Ok.ensures.shallow
      (too_large 100000 (tree_of c.in-Ok.file.term) c.left_of.result c.left_of.ensures
      (sym c.is_some.ensures ∙ c.if-is_some.false))),
)

pub returns-in_ok-words-in-Syntax : goal.returns-in_ok-words-in-Syntax
returns-in_ok-words-in-Syntax c =
    let told : IsRefusedAt c.args.line.now c.in-Syntax.at =
    (c.in-Err.ensures.syntax (λ e. absurd (cc)) c.in-Syntax.at).0 (rw c.in-Syntax.is refl) in (
      sym c.is_left_out.ensures ∙ c.if-is_left_out.false,
      told_so c.args.line.now (codes "syntax, column " ++ decimal (c.in-Syntax.at + 1))
          c.in_ok-words-in-Syntax.words.items c.in_ok-words-in-Syntax.ensures
          (syntax_at {at = c.in-Syntax.at} (omega (arith, c.if-line.false)) told),
    )

pub returns-in_ok-words-in-Depth : goal.returns-in_ok-words-in-Depth
unfolding digits
returns-in_ok-words-in-Depth c =
    let told = (c.in-Err.ensures.too_deep (λ e. absurd (cc)) c.in-Depth.depth).0 (rw c.in-Depth.is refl) in (
      sym c.is_left_out.ensures ∙ c.if-is_left_out.false,
      told_so c.args.line.now depth_words
          c.in_ok-words-in-Depth.words.items c.in_ok-words-in-Depth.ensures
          (deep {d = c.in-Depth.depth} (omega (arith, c.if-line.false)) told),
    )
