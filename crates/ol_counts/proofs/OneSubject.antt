-- A file with a net has that net.
use Rattle.std.proofs.Common.{ℕ, List}
use Rattle.ol_net.specs.Graph.{Graph}
use Rattle.ol_netfile.specs.NetTexts.{IsNetRead}
use Rattle.ol_subjects.specs.declared.subjects.Subject.TheVariants.{Net}
use Rattle.ol_subjects.specs.Subjects.{IsSubject, of_text}

pub read_of : (bytes : List ℕ) (g : Graph) → IsSubject Net bytes g → IsNetRead bytes g
read_of bytes g (of_text r) = r
