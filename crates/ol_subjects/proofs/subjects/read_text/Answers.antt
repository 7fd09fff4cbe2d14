use Rattle.std.proofs.Common.{◌≡◌, length, ap, ◌∙◌, arith}
use Rattle.ol_net.proofs.Linking.{length-all_live}
use Rattle.ol_netfile.specs.NetTexts.{IsNetRead}
use Rattle.ol_netfile.proofs.Unique.{text-few}
use Rattle.ol_subjects.specs.Subjects.{of_text}
use Rattle.ol_subjects.proofs.subjects.read_text.Goals as goal

pub returns-in-Ok : goal.returns-in-Ok
returns-in-Ok c =
    let r : IsNetRead c.args.bytes.now c.in-Ok.net = c.in-Ok.ensures.net in
    let few = (text-few c.args.bytes.now r.free r.nodes r.links r.spelled).0 in
    let size : length c.in-Ok.net.nodes ≡ length r.nodes = ap length r.built.same_nodes ∙ length-all_live r.nodes in
    (of_text r, omega (arith, few, size))
