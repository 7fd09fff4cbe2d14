use Rattle.std.proofs.Common.{rules, ◌≡◌, ◌+◌, ◌++◌, length, true, Some, None, sym, ap, ◌∙◌, arith}
use Rattle.std.specs.Prelude.{is_some}
use Rattle.std.specs.Option.{option_map}
use Rattle.std.proofs.lemmas.Grind.{common_steps}
use Rattle.std.proofs.lemmas.Result.{on_ok_weaker}
use Rattle.ol_term.specs.Trees.{tree_of, lam, app}
use Rattle.ol_decoding.specs.Told.{lines, within}
use Rattle.ol_decoding.specs.Decoders.{values, items_of, told}
use Rattle.ol_decoding.proofs.Saying.{glue}
use Rattle.ol_decoding.proofs.Texts.{told_list, told_pair, told_item, some_counted}
use Rattle.ol_decoding.proofs.telling.+put_told.Goals as goal

pub returns-else-is_none : goal.returns-else-is_none
returns-else-is_none g c =
    let t = tree_of c.args.term.now in
    let b = tree_of c.deref-in-Lam-deref-2.result.now in
    let e : t ≡ lam (lam b) = grind (arith, common_steps) in
    let d : tree_of c.deref-in-Lam-deref.result.now ≡ b = grind (arith, common_steps) in
    let i : is_some c.item_count.result ≡ true = grind (arith, common_steps) in
    let s = some_counted b c.item_count.result (c.item_count.ensures.is ∙ ap (λ b. option_map (λ ts. length ts) (items_of b)) d) i in
    on_ok_weaker c.put_told.result (λ x. glue c.args.text.now.items c.put_lines.new.text.items c.put_told.new.text.items
    (lines c.args.number.now (values t)) (told c.args.number.now (Some 1) b) c.in_ok-put_lines-in-None.ensures x
    ∙ ap (λ x. c.args.text.now.items ++ x) (sym (told_list c.args.number.now c.args.from t b c.in-None.is e s)))
    c.put_told.ensures

pub returns-in_ok-two-in-App-deref : goal.returns-in_ok-two-in-App-deref
returns-in_ok-two-in-App-deref g c =
    let t = tree_of c.args.term.now in
    let f = tree_of c.in-App-deref.field-0.value in
    let a = tree_of c.deref-in-App-deref-2.result.now in
    let b = tree_of c.deref-in-App-deref-4.result.now in
    let number = c.args.number.now in
    let e : t ≡ lam (app (app f a) b) = grind (arith, common_steps) in
    let i : c.is_pair.result ≡ true = search rules in
    let first = c.deref-in-App-deref.ensures.value ∙ c.in_ok-one-in-App-deref.ensures in
    let second = c.deref-in-App-deref-3.ensures.value ∙ c.in_ok-two-in-App-deref.ensures in
    let A = told (within number 1) None a in
    let B = told (within number 2) None b in
    on_ok_weaker c.put_told-in-App-deref-2.result (λ x. glue c.args.text.now.items c.put_lines.new.text.items
    c.put_told-in-App-deref-2.new.text.items (lines number (values t)) (A ++ B) c.in_ok-put_lines-in-None.ensures
    (glue c.put_lines.new.text.items c.put_told-in-App-deref.new.text.items c.put_told-in-App-deref-2.new.text.items A B
    (c.in_ok-put_told-in-App-deref.ensures ∙ ap (λ n. c.put_lines.new.text.items ++ told n None a) first)
    (x ∙ ap (λ n. c.put_told-in-App-deref.new.text.items ++ told n None b) second))
    ∙ ap (λ x. c.args.text.now.items ++ x)
    (sym (told_pair number c.args.from t f a b c.in-None.is e (sym c.is_pair.ensures ∙ i))))
    c.put_told-in-App-deref-2.ensures

pub returns-in_ok-after-in-App-deref-2 : goal.returns-in_ok-after-in-App-deref-2
returns-in_ok-after-in-App-deref-2 g c =
    let t = tree_of c.args.term.now in
    let k = c.in-Some.item in
    let f = tree_of c.in-App-deref-2.field-0.value in
    let a = tree_of c.deref-in-App-deref-2-3.result.now in
    let rest = tree_of c.deref-in-App-deref-2-4.result.now in
    let number = c.args.number.now in
    let e : t ≡ app (app f a) rest = grind (arith, common_steps) in
    let first = c.deref-in-App-deref-2-2.ensures.value ∙ c.in_ok-inside-in-App-deref-2.ensures in
    on_ok_weaker c.put_told-in-App-deref-2-3.result (λ x. glue c.args.text.now.items
    c.put_told-in-App-deref-2-2.new.text.items c.put_told-in-App-deref-2-3.new.text.items
    (told (within number k) None a) (told number (Some (k + 1)) rest)
    (c.in_ok-put_told-in-App-deref-2.ensures ∙ ap (λ n. c.args.text.now.items ++ told n None a) first)
    (x ∙ ap (λ j. c.put_told-in-App-deref-2-2.new.text.items ++ told number (Some j) rest)
    c.in_ok-after-in-App-deref-2.ensures)
    ∙ ap (λ x. c.args.text.now.items ++ x) (sym (told_item number c.args.from k t f a rest c.in-Some.is e)))
    c.put_told-in-App-deref-2-3.ensures
