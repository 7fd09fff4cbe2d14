use Rattle.std.proofs.Common.{◌≡◌, ◌≤◌, length, arith, ap, sym, ◌∙◌}
use Rattle.ol_io.specs.Fakes.{SourceState}
use Rattle.ol_io.specs.Unread.{left_of}
use Rattle.ol_io.proofs.Named.{left_of-further}
use Rattle.ol_io.proofs.Pieces.{Consumed-by_copy}
use Rattle.ol_io.proofs.mem_source.MemSourceSource.read.Goals as goal

pub returns-clause-bytes : goal.returns-clause-bytes
returns-clause-bytes c =
    let n = c.copy_front-count.result in
    let here : c.rest.result.now ≡ left_of c.self.inside.files.items c.self.inside.place c.self.inside.at = cc in
    let old : c.args.self.now.left ≡ c.rest.result.now = ap (λ (s : SourceState). s.left)
    (sym c.self.view_is) ∙ sym here in
    let within : n ≤ length c.rest.result.now = omega (arith, c.copy_front-count.ensures.count) in
    rw (old, ← left_of-further c.self.inside.files.items c.self.inside.place c.self.inside.at n, ← here)
    (Consumed-by_copy c.rest.result.now c.args.buf.now c.copy_front-count.new.buf n within
    c.copy_front-count.ensures.buffer)
