use Rattle.std.proofs.Common.{◌≡◌, rules}
use Rattle.std.specs.Fmt.{digits}
use Rattle.ol_derivations.specs.StudentsSoFar.{texts_of}
use Rattle.ol_derivations.proofs.Said.{text_so, too_long_so, unread_so}
use Rattle.ol_derivations.proofs.grading.told_of.Goals as goal

pub returns-in_ok-told-in-Text : goal.returns-in_ok-told-in-Text
returns-in_ok-told-in-Text c =
    let t = c.in_ok-told-in-Text in
    let b : c.deref.result.now ≡ c.in-Text.bytes.items = search rules in
    text_so c.args.bounds (texts_of c.args.inputs.now) c.args.wanted.now.items c.args.work.now c.in-Text.bytes
    c.deref.result.now t.told.words.items t.told.fine c.in-Text.is b t.ensures

pub returns-in_ok-told-in-Unread : goal.returns-in_ok-told-in-Unread
returns-in_ok-told-in-Unread c =
    let t = c.in_ok-told-in-Unread in
    unread_so c.args.bounds (texts_of c.args.inputs.now) c.args.wanted.now.items c.args.work.now t.told.words.items
    t.told.fine c.in-Unread.is t.ensures.words t.ensures.fine

pub returns-in_ok-told-in-TooLong : goal.returns-in_ok-told-in-TooLong
unfolding digits
returns-in_ok-told-in-TooLong c =
    let t = c.in_ok-told-in-TooLong in
    too_long_so c.args.bounds (texts_of c.args.inputs.now) c.args.wanted.now.items c.args.work.now t.told.words.items
    t.told.fine c.in-TooLong.is t.ensures.words t.ensures.fine
