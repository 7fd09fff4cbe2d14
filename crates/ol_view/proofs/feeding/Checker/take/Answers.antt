use Rattle.std.proofs.Common.{rules, ◌≡◌, [], ◌∷◌, ◌++◌, ◌≤◌, ◌<◌, length, sym, subst, ◌∙◌, vec_len}
use Rattle.ol_view.specs.Checks.{start_net_of_graph}
use Rattle.ol_view.specs.Feeding.{HasNoFeed, IsFixed}
use Rattle.ol_view.proofs.Fronts.{bad_by_length, byte_read, still_open, with_line}
use Rattle.ol_view.proofs.feeding.Checker.take.Goals as goal

pub returns-then-len-le-MOST_OF_LINE : goal.returns-then-len-le-MOST_OF_LINE
returns-then-len-le-MOST_OF_LINE c = λ net text r.
    let items = c.in_ok-push.ensures.items in
    let long : vec_len c.push.new.self ≡ length c.push.new.self.items = search rules in
    record {
      lines_read = byte_read net text c.args.self.now c.push.new.self c.args.byte r.lines_read items;
      line_open = record {
        open_yet = subst HasNoFeed (sym items)
            (still_open c.args.self.now.line.items c.args.byte r.line_open.open_yet c.if-byte-ne10.true);
        short = subst (λ n. n ≤ 52) (c.len.ensures ∙ long) c.if-len-le-MOST_OF_LINE.true;
      };
    }

pub returns-then-byte-ne10 : goal.returns-then-byte-ne10
returns-then-byte-ne10 c = λ net text r.
    let items = c.in_ok-push.ensures.items in
    let line = c.args.self.now.line.items in
    let long : vec_len c.push.new.self ≡ length c.push.new.self.items = search rules in
    subst (λ check. IsFixed (start_net_of_graph net) (text ++ c.args.byte ∷ []) check) (sym c.bad.ensures)
    (bad_by_length net (text ++ c.args.byte ∷ []) (with_line c.args.self.now c.push.new.self)
    (byte_read net text c.args.self.now c.push.new.self c.args.byte r.lines_read items)
    (subst HasNoFeed (sym items) (still_open line c.args.byte r.line_open.open_yet c.if-byte-ne10.true))
    (subst (λ n. 52 < n) (c.len.ensures ∙ long) c.if-len-le-MOST_OF_LINE.false))

pub read_entry-requires-clause-read : goal.read_entry-requires-clause-read
read_entry-requires-clause-read c = (
  c.requires.fed.0,
  c.requires.fed.1 ++ c.args.byte ∷ [],
  byte_read c.requires.fed.0 c.requires.fed.1 c.args.self.now c.push.new.self c.args.byte
      c.requires.fed.2.lines_read c.in_ok-push.ensures.items,
)

pub returns-in-Some : goal.returns-in-Some
returns-in-Some c = λ net text r. c.read_entry.ensures net (text ++ c.args.byte ∷ [])
    (byte_read net text c.args.self.now c.push.new.self c.args.byte r.lines_read c.in_ok-push.ensures.items)
