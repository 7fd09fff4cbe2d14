use Rattle.std.proofs.Common.{rules, ◌≡◌, ◌++◌, false, true, sym, ap, ◌∙◌}
use Rattle.std.proofs.lemmas.Result.{on_ok_weaker}
use Rattle.ol_term.specs.Trees.{tree_of}
use Rattle.ol_decoding.proofs.Saying.{lines_else, lines_put}
use Rattle.ol_decoding.proofs.telling.put_lines.Goals as goal

pub returns-then-not-some_found : goal.returns-then-not-some_found
returns-then-not-some_found c =
    let b : c.some_found.result ≡ false = search rules in
    on_ok_weaker c.put_line.result (λ e. e ∙ ap (λ x. c.args.text.now.items ++ x)
    (sym (lines_else c.args.number.now (tree_of c.args.term.now) (sym c.some_found.ensures ∙ b)))) c.put_line.ensures

pub returns : goal.returns
returns c =
    let b : c.some_found.result ≡ true = search rules in
    on_ok_weaker c.put_count-3.result (λ e. lines_put c.args.number.now (tree_of c.args.term.now) c.boolean.result
    c.church.result c.list.result c.is_pair.result c.scott.result c.boolean.ensures c.church.ensures
    c.list.ensures c.is_pair.ensures c.scott.ensures.is (sym c.some_found.ensures ∙ b) c.args.text.now.items
    c.put_truth.new.text.items c.put_count.new.text.items c.put_count-2.new.text.items c.put_pair.new.text.items
    c.put_count-3.new.text.items c.in_ok-put_truth.ensures c.in_ok-put_count.ensures c.in_ok-put_count-2.ensures
    c.in_ok-put_pair.ensures e) c.put_count-3.ensures
