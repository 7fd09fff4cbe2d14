use Rattle.std.proofs.Common.{◌++◌, codes, refl, arith}
use Rattle.std.specs.Fmt.{digits}
use Rattle.ol_term.specs.Trees.{tree_of}
use Rattle.ol_parse.specs.Texts.{IsRefusedAt}
use Rattle.ol_subjects.specs.Limited.{bytes_words, depth_words}
use Rattle.ol_derivations.specs.Grades.{IsNoTermText, place_words}
use Rattle.ol_derivations.proofs.InputByInput.{told_so}
use Rattle.ol_derivations.proofs.functions.function_of.Goals as goal

pub returns-then-text : goal.returns-then-text
unfolding digits
returns-then-text c = told_so c.args.text.now bytes_words c.in_ok-words.words.items
    c.in_ok-words.ensures (IsNoTermText.long (omega (arith, c.if-text.true)))

pub syntax_words-requires : goal.syntax_words-requires
syntax_words-requires c =
    let told : IsRefusedAt c.args.text.now c.in-Syntax.at =
    (c.in-Err.ensures.syntax (λ e. absurd (cc)) c.in-Syntax.at).0 (rw c.in-Syntax.is refl) in
    record { within = told.1.within }

pub returns-in_ok-words-in-Syntax : goal.returns-in_ok-words-in-Syntax
returns-in_ok-words-in-Syntax c =
    let told : IsRefusedAt c.args.text.now c.in-Syntax.at =
    (c.in-Err.ensures.syntax (λ e. absurd (cc)) c.in-Syntax.at).0 (rw c.in-Syntax.is refl) in
    told_so c.args.text.now (codes "syntax, " ++ place_words c.args.text.now c.in-Syntax.at)
    c.in_ok-words-in-Syntax.words.items c.in_ok-words-in-Syntax.ensures
    (IsNoTermText.syntax_at {at = c.in-Syntax.at} (omega (arith, c.if-text.false)) told)

pub returns-in_ok-words-in-Depth : goal.returns-in_ok-words-in-Depth
unfolding digits
returns-in_ok-words-in-Depth c =
    let told = (c.in-Err.ensures.too_deep (λ e. absurd (cc)) c.in-Depth.depth).0 (rw c.in-Depth.is refl) in
    told_so c.args.text.now depth_words c.in_ok-words-in-Depth.words.items
    c.in_ok-words-in-Depth.ensures (IsNoTermText.deep {d = c.in-Depth.depth} (omega (arith, c.if-text.false)) told)

pub returns-in-Ok : goal.returns-in-Ok
returns-in-Ok c = (
  refl,
  record {
    text = record {
      term = tree_of c.in-Ok.file.term;
      names = c.in-Ok.file.names;
      short = omega (arith, c.if-text.false);
      file = c.in-Ok.ensures.file;
      shallow = c.in-Ok.ensures.shallow;
    };
    file = c.in-Ok.ensures.file;
  },
)
