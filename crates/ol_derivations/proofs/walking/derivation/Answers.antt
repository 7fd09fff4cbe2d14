use Rattle.std.proofs.Common.{◌≡◌, ◌+◌, ◌++◌, ◌&&◌, map, true, false, codes, rules, sym, ap, ◌∙◌, subst, arith}
use Rattle.ol_derivations.specs.Lines.{lines_of, all_left_out}
use Rattle.ol_derivations.specs.Derivations.{no_terms, AreLines, IsDerivation, nothing, said}
use Rattle.ol_derivations.specs.StepsFound.{terms_of}
use Rattle.ol_derivations.proofs.LineByLine.{Onward, goes_on, ends, line_here, none_left, sheet}
use Rattle.ol_derivations.proofs.walking.derivation.Goals as goal

pub loop-k-preserved : goal.loop-k-preserved
loop-k-preserved c =
    let items = c.in_ok-lines.lines.items in
    let lines = map (λ x. x.now) items in
    let l = c.loop-k in
    let told = c.in_ok-told.told in
    let d : c.deref-in-loop-k.result.now ≡ told.text.items = search rules in
    let e : c.put.new.text.items ≡ l.text.items ++ told.text.items =
    c.in_ok-put.ensures ∙ ap (λ text. l.text.items ++ text) d in
    subst (λ text. Onward lines (l.k + 1) (terms_of c.take_line.new.sofar) text (l.fine && told.fine)) (sym e)
    (goes_on lines l.k c.index.result.now.now (terms_of l.sofar) (terms_of c.take_line.new.sofar) l.text.items
    told.text.items l.fine told.fine
    (line_here items l.k c.index.result.now
    (omega (arith, c.loop-k-test.true, c.len-k-end.ensures, c.in_ok-lines.lines.ok.0)) c.index.ensures)
    l.invariant c.in_ok-told.ensures)

pub returns : goal.returns
returns c =
    let items = c.in_ok-lines.lines.items in
    let lines = map (λ x. x.now) items in
    let l = c.loop-k in
    let some : all_left_out (lines_of c.args.bytes.now) ≡ false =
    sheet items c.deref.result.now (lines_of c.args.bytes.now) c.all_left_out.result false c.in_ok-lines.ensures
    c.deref.ensures.value c.all_left_out.ensures c.if-all_left_out.false in
    subst (IsDerivation c.args.bytes.now l.text.items) (sym c.end_of-end.ensures)
    (said some
    (subst (λ lines. AreLines 1 no_terms lines l.text.items l.fine) c.in_ok-lines.ensures
    (ends lines l.k (terms_of l.sofar) l.text.items l.fine
    (none_left items l.k (omega (arith, c.loop-k-test.false, c.len-k-end.ensures, c.in_ok-lines.lines.ok.0)))
    l.invariant)))

pub returns-then-all_left_out : goal.returns-then-all_left_out
returns-then-all_left_out c =
    let bytes = c.args.bytes.now in
    let all : all_left_out (lines_of bytes) ≡ true =
    sheet c.in_ok-lines.lines.items c.deref.result.now (lines_of bytes) c.all_left_out.result true c.in_ok-lines.ensures
    c.deref.ensures.value c.all_left_out.ensures c.if-all_left_out.true in
    subst (λ text. IsDerivation bytes text c.in_ok-answer.answer.end) (sym c.in_ok-answer.ensures.text)
    (subst (λ e. IsDerivation bytes (codes "no term\n") e) (sym c.in_ok-answer.ensures.end) (nothing all))
