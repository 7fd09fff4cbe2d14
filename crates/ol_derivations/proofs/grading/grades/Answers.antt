use Rattle.std.proofs.Common.{◌≡◌, ◌+◌, ◌++◌, ◌&&◌, rules, sym, ap, ◌∙◌, subst, arith, List, ℕ}
use Rattle.ol_derivations.specs.Grades.{file_line}
use Rattle.ol_derivations.specs.StudentsSoFar.{texts_of}
use Rattle.ol_derivations.proofs.InputByInput.{Behind, next_student, last_student, item_here, none_left}
use Rattle.ol_derivations.proofs.grading.grades.Goals as goal

pub loop-k-preserved : goal.loop-k-preserved
loop-k-preserved c =
    let lines = texts_of c.args.inputs.now in
    let wanted = c.args.wanted.now.items in
    let students = c.args.students.now in
    let l = c.loop-k in
    let x = c.index-students-k.result in
    let told = c.in_ok-told.told in
    let n : c.deref.result.now ≡ x.name.items = search rules in
    let v : c.deref-in-loop-k.result.now ≡ told.words.items = search rules in
    let e : c.put_line.new.text.items ≡ l.text.items ++ file_line x.name.items told.words.items = c.in_ok-put_line.ensures
    ∙ ap (λ (name : List ℕ). l.text.items ++ file_line name c.deref-in-loop-k.result.now) n
    ∙ ap (λ (words : List ℕ). l.text.items ++ file_line x.name.items words) v in
    subst (λ text. Behind c.args.bounds lines wanted students (l.k + 1) text (l.fine && told.fine)) (sym e)
    (next_student c.args.bounds lines wanted students l.k x l.text.items told.words.items l.fine told.fine
    (item_here students l.k x c.loop-k-test.true c.index-students-k.is) l.invariant c.in_ok-told.ensures)

pub returns : goal.returns
returns c =
    let l = c.loop-k in
    record {
      all = l.fine;
      are = last_student c.args.bounds (texts_of c.args.inputs.now) c.args.wanted.now.items c.args.students.now l.k
          l.text.items l.fine (none_left c.args.students.now l.k (omega (arith, c.loop-k-test.false))) l.invariant;
      end_is = c.end_of-end.ensures;
    }
