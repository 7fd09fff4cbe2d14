use Rattle.std.proofs.Common.{◌∙◌, ap, ap₂, fold, sym, List}
use Rattle.std.proofs.lemmas.List.{take_all}
use Rattle.clap.specs.Words.{App, with_subcommand}
use Rattle.ol_words.specs.Command.{quiet_app, with_verb}
use Rattle.ol_words.specs.declared.verbs.Verb.{Verb}
use Rattle.ol_words.specs.declared.verbs.Verb.TheVariants.{Run}
use Rattle.ol_words.proofs.Folds.{fold_more}
use Rattle.ol_words.proofs.command.command.Goals as goal

pub loop-verb-preserved : goal.loop-verb-preserved
loop-verb-preserved c =
    let more = fold_more with_verb quiet_app c.all-verb-items.result.now c.loop-verb.verb-index Run
    c.loop-verb-test.true in
    c.in_ok-command.ensures.shape c.in_ok-subcommand.ensures.local
    ∙ ap₂ with_subcommand c.loop-verb.invariant (ap (λ (a : App). a.top) c.in_ok-subcommand.ensures.app) ∙ sym more

pub returns : goal.returns
returns c =
    let all = take_all c.loop-verb.verb-index c.all-verb-items.result.now c.loop-verb-test.false in
    record {
      app = c.loop-verb.invariant ∙ ap (λ (vs : List Verb). fold with_verb quiet_app vs) all
          ∙ ap (λ (vs : List Verb). fold with_verb quiet_app vs) c.all-verb-items.ensures;
    }
