use Rattle.std.proofs.Common.{◌≡◌, ℕ, List, drop, length, sym, ap, ◌∙◌, arith}
use Rattle.ol_steps.specs.Sights.{result_of}
use Rattle.ol_steps.specs.Looks.{sees}
use Rattle.ol_steps.specs.SeenTokens.{look_of}
use Rattle.ol_steps.proofs.Frames.{drop_all}
use Rattle.ol_steps.proofs.Images.{names_seen}
use Rattle.ol_steps.proofs.sources.binders.Goals as goal

pub returns : goal.returns
returns c = λ t i.
    let l = c.loop-k in
    let bytes = c.args.bytes.now in
    let end : l.k ≡ length bytes = omega arith in
    let rest = ap (λ (n : ℕ). sees (look_of bytes n l.place l.reading l.rounds.items) (drop n bytes)) (sym end)
    ∙ l.invariant.1 in
    let whole = ap (λ (bs : List ℕ). sees (look_of bytes (length bytes) l.place l.reading l.rounds.items) bs)
    (sym (drop_all bytes)) ∙ rest in
    c.in_ok-tree.ensures ∙ ap result_of (c.in_ok-reading.ensures ∙ whole) ∙ names_seen bytes t i
