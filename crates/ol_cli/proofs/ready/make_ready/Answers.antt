use Rattle.std.proofs.Common.{inl, inr, refl}
use Rattle.ol_term.specs.Trees.{tree_of}
use Rattle.ol_cli.proofs.Readied.{ready_net}
use Rattle.ol_cli.proofs.ready.make_ready.Goals as goal

pub returns-in-Ok-translate : goal.returns-in-Ok-translate
returns-in-Ok-translate c =
    let p = c.in-Ok.ensures in
    let n = c.in-Ok-translate.ensures in
    record {
      ready = ready_net c.args.translation c.args.bytes.now
          (tree_of c.in-Ok.file.term) c.in-Ok.file.names c.in-Ok-translate.net c.requires.short p.file p.shallow
          n.net n.numbers n.size n.free n.few_names n.indexes
          (λ past. let e = (n.too_many (λ e. absurd (cc))).1 past in absurd (cc));
    }

pub returns-in-Ok : goal.returns-in-Ok
returns-in-Ok c =
    let p = c.in-Ok.ensures in
    let past = (c.in-Err-translate.ensures.too_many (λ e. absurd (cc))).0 (rw c.in-TooMany.is refl) in
    record {
      ready = c.refused.ensures c.args.translation c.args.bytes.now
          (inr (c.requires.short, _, _, p.file, inr (p.shallow, (past, c.in_ok-text-in-TooMany.ensures))));
    }

pub returns-in-Syntax : goal.returns-in-Syntax
returns-in-Syntax c =
    let told = (c.in-Err.ensures.syntax (λ e. absurd (cc)) c.in-Syntax.at).0 (rw c.in-Syntax.is refl) in
    record {
      ready = c.refused-in-Syntax.ensures c.args.translation c.args.bytes.now
          (c.in-Syntax.at, c.requires.short, told, c.in_ok-text-in-Syntax.ensures);
    }

pub returns : goal.returns
returns c =
    let told = (c.in-Err.ensures.too_deep (λ e. absurd (cc)) c.in-Depth.depth).0 (rw c.in-Depth.is refl) in
    record {
      ready = c.refused-in-Depth.ensures c.args.translation c.args.bytes.now
          (inr (c.requires.short, _, _, told.file, inl (rw told.is at told.above, c.in_ok-text-in-Depth.ensures)));
    }
