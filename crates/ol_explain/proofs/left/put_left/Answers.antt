use Rattle.std.proofs.Common.{length, arith}
use Rattle.std.specs.Prelude.{string_bytes}
use Rattle.ol_explain.proofs.Lefts.{few_told, size, run_is, text_is}
use Rattle.ol_explain.proofs.left.put_left.Goals as goal

pub find-requires : goal.find-requires
find-requires c = record { replay = (c.args.net.now, c.requires.replay) }

pub append-requires : goal.append-requires
append-requires c =
    let f = c.in_ok-found.found in
    let t = few_told c.args.replay.now (length c.args.replay.now.net.nodes) f.told f.more c.in_ok-found.ensures in
    let e = c.requires.entries in
    omega arith

pub waves-requires-clause-few : goal.waves-requires-clause-few
waves-requires-clause-few c =
    let f = c.in_ok-found.found in
    let t = few_told c.args.replay.now (length c.args.replay.now.net.nodes) f.told f.more c.in_ok-found.ensures in
    let s = size c.args.net.now c.is_net.ensures.net c.args.replay.now c.requires.replay f.told f.more
    c.in_ok-found.ensures c.append.new.journal c.in_ok-append.ensures in
    let e = c.requires.entries in
    let n = c.requires.few in
    omega arith

pub waves-requires-clause-run : goal.waves-requires-clause-run
waves-requires-clause-run c =
    let f = c.in_ok-found.found in
    run_is c.args.net.now c.is_net.ensures.net c.args.replay.now c.requires.replay f.told f.more
    c.in_ok-found.ensures c.append.new.journal c.in_ok-append.ensures

pub put_lines-requires-clause-count : goal.put_lines-requires-clause-count
put_lines-requires-clause-count c =
    let f = c.in_ok-found.found in
    let s = size c.args.net.now c.is_net.ensures.net c.args.replay.now c.requires.replay f.told f.more
    c.in_ok-found.ensures c.append.new.journal c.in_ok-append.ensures in
    let n = c.in_ok-waves.ensures.count in
    let l = c.len-from.ensures in
    omega arith

pub put_lines-requires-clause-few : goal.put_lines-requires-clause-few
put_lines-requires-clause-few c =
    let f = c.in_ok-found.found in
    let t = few_told c.args.replay.now (length c.args.replay.now.net.nodes) f.told f.more c.in_ok-found.ensures in
    let e = c.requires.entries in
    let l = c.len-from.ensures in
    omega arith

pub returns : goal.returns
returns c =
    let f = c.in_ok-found.found in
    text_is c.args.net.now c.is_net.ensures.net c.args.replay.now c.requires.replay f.told f.more
    c.in_ok-found.ensures c.append.new.journal c.in_ok-append.ensures c.in_ok-waves.waves c.in_ok-waves.ensures.waves
    c.len-from.result c.len-from.ensures (string_bytes c.args.text.now) (string_bytes c.put_lines.new.text)
    (string_bytes c.put_more.new.text) c.in_ok-put_lines.ensures c.in_ok-put_more.ensures
