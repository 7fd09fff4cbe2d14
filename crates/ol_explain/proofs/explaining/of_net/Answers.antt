use Rattle.std.proofs.Common.{◌≡◌, ◌+◌, ◌++◌, length, None, refl, sym, subst, arith}
use Rattle.std.specs.Prelude.{codes}
use Rattle.ol_explain.specs.Explained.{IsExplainedOf}
use Rattle.ol_explain.specs.Followed.{Stops}
use Rattle.ol_explain.specs.Wanted.{end_at}
use Rattle.ol_explain.proofs.Below.{below_line, below_broken, below_bad, below_off}
use Rattle.ol_explain.proofs.Told.{at_header, no_header_here, no_line_here, at_other}
use Rattle.ol_explain.proofs.BadLines.{at_the_header, at_the_line, at_the_end}
use Rattle.ol_explain.proofs.Reasoned.{whole, explains, made_joined, made_wrong}
use Rattle.ol_explain.proofs.explaining.of_net.Goals as goal

pub bad_header-requires : goal.bad_header-requires
bad_header-requires c =
    let f = c.in_ok-followed.followed in
    record {
      none = no_header_here c.args.net.now c.args.journal.now 8000000 f.replay f.at
          (subst (λ s. Stops c.args.net.now c.args.journal.now 8000000 f.replay f.at s)
          c.in-NoHeader.is c.in_ok-followed.ensures.stops);
    }

pub returns-in-NoHeader : goal.returns-in-NoHeader
returns-in-NoHeader c =
    let f = c.in_ok-followed.followed in
    let s = subst (λ s. Stops c.args.net.now c.args.journal.now 8000000 f.replay f.at s)
    c.in-NoHeader.is c.in_ok-followed.ensures.stops in
    let a = c.in_ok-answer-in-NoHeader in
    let b = below_broken None c.args.journal.now 0 1 a.answer.text.items a.ensures.text in
    record {
      explained = subst (λ e. IsExplainedOf c.args.net.now c.args.journal.now a.answer.text.items e) (sym a.ensures.end)
          (at_the_header c.args.net.now c.args.journal.now a.answer.text.items
          (at_header c.args.net.now c.args.journal.now 8000000 f.replay f.at s) a.ensures.text);
      end_is = a.ensures.end;
      below = b.0;
      text_is = b.1;
    }

pub returns-then-followed-journal : goal.returns-then-followed-journal
returns-then-followed-journal c =
    let f = c.in_ok-followed.followed in
    let s = subst (λ s. Stops c.args.net.now c.args.journal.now 8000000 f.replay f.at s)
    c.in-Good.is c.in_ok-followed.ensures.stops in
    let a = c.in_ok-answer-in-Good in
    record {
      explained = subst (λ e. IsExplainedOf c.args.net.now c.args.journal.now a.answer.text.items e) (sym a.ensures.end)
          (at_the_end c.args.net.now c.args.journal.now 8000000 f.replay f.at refl s
          c.if-followed-journal.true a.answer.text.items a.ensures.text);
      end_is = a.ensures.end;
      below = end_at f.at ++ codes "\n";
      text_is = below_line (codes "bad text at line ") 8000002 (end_at f.at) a.answer.text.items a.ensures.text;
    }

pub ended-requires-clause-told : goal.ended-requires-clause-told
ended-requires-clause-told c =
    let f = c.in_ok-followed.followed in
    let s = subst (λ s. Stops c.args.net.now c.args.journal.now 8000000 f.replay f.at s)
    c.in-Good.is c.in_ok-followed.ensures.stops in
    whole c.args.net.now c.args.journal.now 8000000 f.replay f.at s c.if-followed-journal.false

pub ended-requires-clause-replay : goal.ended-requires-clause-replay
ended-requires-clause-replay c = c.in_ok-followed.ensures.replay

pub bad_line-requires-clause-at : goal.bad_line-requires-clause-at
bad_line-requires-clause-at c =
    let f = c.in_ok-followed.followed in
    let n = no_line_here c.args.net.now c.args.journal.now 8000000 f.replay f.at
    (subst (λ s. Stops c.args.net.now c.args.journal.now 8000000 f.replay f.at s)
    c.in-NoLine.is c.in_ok-followed.ensures.stops) in
    let w = n.within in omega arith

pub bad_line-requires-clause-none : goal.bad_line-requires-clause-none
bad_line-requires-clause-none c =
    let f = c.in_ok-followed.followed in
    let n = no_line_here c.args.net.now c.args.journal.now 8000000 f.replay f.at
    (subst (λ s. Stops c.args.net.now c.args.journal.now 8000000 f.replay f.at s)
    c.in-NoLine.is c.in_ok-followed.ensures.stops) in
    n.none

pub returns-in-NoLine : goal.returns-in-NoLine
returns-in-NoLine c =
    let f = c.in_ok-followed.followed in
    let n = no_line_here c.args.net.now c.args.journal.now 8000000 f.replay f.at
    (subst (λ s. Stops c.args.net.now c.args.journal.now 8000000 f.replay f.at s)
    c.in-NoLine.is c.in_ok-followed.ensures.stops) in
    let a = c.in_ok-answer-in-NoLine in
    let q : c.len-bad.result + 2 ≡ length f.replay.run.journal + 2 = (let l = c.len-bad.ensures in omega arith) in
    let b = below_bad c.in-NoLine.form c.args.journal.now f.at (c.len-bad.result + 2) a.answer.text.items a.ensures.text in
    record {
      explained = subst (λ e. IsExplainedOf c.args.net.now c.args.journal.now a.answer.text.items e) (sym a.ensures.end)
          (at_the_line c.args.net.now c.args.journal.now 8000000 f.replay f.at refl c.in-NoLine.form n
          (c.len-bad.result + 2) q a.answer.text.items a.ensures.text);
      end_is = a.ensures.end;
      below = b.0;
      text_is = b.1;
    }

pub off-requires-clause-entries : goal.off-requires-clause-entries
off-requires-clause-entries c =
    let f = c.in_ok-followed.followed in
    let s = subst (λ s. Stops c.args.net.now c.args.journal.now 8000000 f.replay f.at s)
    c.in-Otherwise.is c.in_ok-followed.ensures.stops in
    (at_other c.args.net.now c.args.journal.now 8000000 f.replay f.at c.in-Otherwise.line c.in-Otherwise.made s).0

pub off-requires-clause-joined : goal.off-requires-clause-joined
off-requires-clause-joined c =
    let f = c.in_ok-followed.followed in
    let s = subst (λ s. Stops c.args.net.now c.args.journal.now 8000000 f.replay f.at s)
    c.in-Otherwise.is c.in_ok-followed.ensures.stops in
    made_joined c.args.net.now c.args.journal.now 8000000 f.replay f.at c.is_net.ensures.net c.in-Otherwise.line
    c.in-Otherwise.made s

pub off-requires-clause-wrong : goal.off-requires-clause-wrong
off-requires-clause-wrong c =
    let f = c.in_ok-followed.followed in
    let s = subst (λ s. Stops c.args.net.now c.args.journal.now 8000000 f.replay f.at s)
    c.in-Otherwise.is c.in_ok-followed.ensures.stops in
    made_wrong c.args.net.now c.args.journal.now 8000000 f.replay f.at c.in-Otherwise.line c.in-Otherwise.made s

pub returns : goal.returns
returns c =
    let f = c.in_ok-followed.followed in
    let s = subst (λ s. Stops c.args.net.now c.args.journal.now 8000000 f.replay f.at s)
    c.in-Otherwise.is c.in_ok-followed.ensures.stops in
    let a = c.in_ok-answer-in-Otherwise in
    let q : length f.replay.run.journal + 2 ≡ c.len-number.result + 2 =
    (let l = c.len-number.ensures in omega arith) in
    let b = below_off c.args.net.now f.replay c.in-Otherwise.line c.in-Otherwise.made a.answer.text.items
    (c.len-number.result + 2) q a.ensures.text in
    record {
      explained = subst (λ e. IsExplainedOf c.args.net.now c.args.journal.now a.answer.text.items e) (sym a.ensures.end)
          (explains c.args.net.now c.args.journal.now 8000000 f.replay f.at c.in-Otherwise.line c.in-Otherwise.made s
          a.answer.text.items a.ensures.text);
      end_is = a.ensures.end;
      below = b.0;
      text_is = b.1;
    }
