use Rattle.std.proofs.Common.{refl, ap, ◌∙◌}
use Rattle.ol_cli.specs.Net.{bad, of_net}
use Rattle.ol_cli.specs.Texts.{line}
use Rattle.ol_cli.proofs.NetFiles.{read_whole, read_small}
use Rattle.ol_cli.proofs.commands.net.evaluate_file.Goals as goal

pub rewrite-requires-clause-whole : goal.rewrite-requires-clause-whole
rewrite-requires-clause-whole g c = λ κs alive. read_whole c.args.bytes.now c.in-Ok.net c.in-Ok.ensures.net

pub rewrite-requires-clause-small : goal.rewrite-requires-clause-small
rewrite-requires-clause-small g c = λ κs alive. read_small c.args.bytes.now c.in-Ok.net c.in-Ok.ensures.net

pub returns-in_ok-answer-in-Ok-clause-answer : goal.returns-in_ok-answer-in-Ok-clause-answer
returns-in_ok-answer-in-Ok-clause-answer g c =
    of_net (record {
      short = c.requires.short;
      tabled = c.is_tabled.ensures.tables;
      read = c.in-Ok.ensures.net;
    }) c.in_ok-answer-in-Ok.ensures.answer

pub returns-in_ok-text-in-Err-clause-answer : goal.returns-in_ok-text-in-Err-clause-answer
returns-in_ok-text-in-Err-clause-answer g c =
    let words = c.in_ok-told-in-Err.ensures in
    rw c.text_alone.ensures (bad c.requires.short c.in-Err.fault c.in-Err.ensures.fault
    words.told refl (c.in_ok-text-in-Err.ensures ∙ ap line (c.deref.ensures.value ∙ words.words)))
