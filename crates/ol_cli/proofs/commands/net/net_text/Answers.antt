use Rattle.ol_cli.proofs.NetFiles.{few_of_net}
use Rattle.ol_cli.proofs.commands.net.net_text.Goals as goal

pub write_net-requires-clause-few_nodes : goal.write_net-requires-clause-few_nodes
write_net-requires-clause-few_nodes c = few_of_net c.args.net.now 200000 c.requires.few
