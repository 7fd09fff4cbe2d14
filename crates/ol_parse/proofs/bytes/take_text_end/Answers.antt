use Rattle.ol_parse.proofs.FlatReads.{word_end}
use Rattle.ol_parse.proofs.bytes.take_text_end.Goals as goal

pub returns-in_ok-take_end-in-Some : goal.returns-in_ok-take_end-in-Some
returns-in_ok-take_end-in-Some c =
    word_end c.args.text.now c.in-Word.from c.args.mode c.in-Some.next c.args.opens.now.items
    c.take_word.new.opens.items c.args.out.now.items c.take_word.new.out.items
    c.take_end-in-Some.new.out.items c.in_ok-take_end-in-Some.field-0 c.args.place
    c.in-Word.is c.in_ok-next-in-Word.field-0 c.in-Some.is c.in_ok-next-in-Word.ensures c.in_ok-take_end-in-Some.ensures
