use Rattle.std.proofs.Common.{◌-◌, length}
use Rattle.ol_net.specs.Numbered.{net_of}
use Rattle.ol_decoding.proofs.Chosen.{Questioning}
use Rattle.ol_decoding.proofs.questioning.all_questions.Given as goal

abbrev pub invariant-questions : goal.invariant-questions
invariant-questions l = Questioning (net_of l.net) l.frame.port l.frame.levels l.lines l.initial.values l.values
    l.n l.mark l.left l.text.items

abbrev pub decreases-questions : goal.decreases-questions
decreases-questions l = length (net_of l.net).nodes - l.n
