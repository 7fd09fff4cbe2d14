-- The lines of all pairs, or the words for none.
use Rattle.std.proofs.Common.{◌≡◌, ◌++◌, length, List, ℕ, codes, ap, ◌∙◌, arith}
use Rattle.std.proofs.lemmas.Result.{on_ok_weaker}
use Rattle.ol_orders.specs.Replays.{names_of}
use Rattle.ol_orders.specs.Turns.{left_lines, or_words}
use Rattle.ol_orders.proofs.pairs.put_left.Goals as goal

pub returns : goal.returns
returns c =
    let names = names_of c.args.replay.now in
    let net = c.args.replay.now.net in
    let last : c.loop-n.n ≡ length net.nodes =
    (let e = c.born-n-end.ensures.born in let t = c.loop-n-test.false in let a = c.loop-n.auto.n-end in omega arith) in
    let lines : c.deref.result.now ≡ left_lines names net (length net.nodes) =
    c.deref.ensures.value ∙ c.loop-n.invariant ∙ ap (left_lines names net) last in
    on_ok_weaker c.put_or.result
    (λ e. e ∙ ap (λ xs. c.args.text.now.items ++ or_words xs (codes "  no active pair\n")) lines) c.put_or.ensures
