use Rattle.std.proofs.Common.{refl}
use Rattle.ol_places.proofs.stopping.dead_place.Goals as goal
use Rattle.ol_places.proofs.stopping.dead_place.Goals.{in-Ok, in-Err+in-NoMemory, in-Err+in-Syntax, in-Err+in-Depth}

pub returns : goal.returns
returns c = elim c.match-parse.branch [
  | in-Ok w ↦ (let file = w.in-Ok.ensures.file in rw w.result-is (file.named, file.text))
  | in-Err+in-NoMemory w ↦ rw w.result-is tt
  | in-Err+in-Syntax w ↦ rw w.result-is
      ((w.in-Err.ensures.syntax (λ e. absurd (cc)) w.in-Syntax.at).0 (rw w.in-Syntax.is refl))
  | in-Err+in-Depth w ↦
      (let deep = (w.in-Err.ensures.too_deep (λ e. absurd (cc)) w.in-Depth.depth).0 (rw w.in-Depth.is refl) in
      rw w.result-is (deep.file.named, deep.file.text))
]
