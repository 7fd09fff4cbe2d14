-- What `ol` says of any source and any sink, and the call that `main` makes of files and standard output: of the words,
-- the files that were read, and what was taken before the call and after.
use Rattle.std.specs.Prelude.{◌≢◌, ℕ, List, Option, String}
use Rattle.std.specs.declared.alloc.Global.{Global}
use Rattle.ol_io.specs.Outside.{Appended}
use Rattle.ol_cli.specs.declared.status.Status.{Status}
use Rattle.ol_cli.specs.declared.status.Status.TheVariants as status
use Rattle.ol_cli.specs.Jobs.{Files, TellsTerm, TellsFiles}
use Rattle.ol_cli.specs.Answers.{IsAnswer}
use Rattle.ol_cli.specs.NormalForms.{PlainLineSays, PlainDemandSays, PlainEqualSays, FirstLine, CountsSay}
use Rattle.ol_cli.specs.NormalForms.{IsFoundWithin, AreFewest, BetasAreFewest, BetasAreFewestForHeads, NoneIsStuck}
use Rattle.ol_cli.specs.NormalForms.{LineSays, IsItsNormalForm, TellsOfNone, IsFoundOnDemand, LineSaysOfTwo}
use Rattle.ol_cli.specs.Sources.{EveryRunTells, WritesTree}
use Rattle.ol_cli.specs.SourceLaws.{WritesOfSources}
use Rattle.ol_cli.specs.Completeness.{AskForWhatCanBeDone, IsDoneOrNothing}
use Rattle.ol_cli.specs.Termination.{JobEndsExactly}

-- What is said where the status is `Done`. The first four say it in the words of terms alone, for words without options.
pub record SaysWhenDone (words : List (String Global)) (files : Files) (old new : Option (List ℕ)) : Type 0 where
  -- After `ol run NAME`, `ol demand NAME` or `ol walk NAME`: where the first line that is written is a
  -- text of a term, that term is the normal form of the term in the file; and where `run` or `demand`
  -- has put a `?` in it, the latter has none.
  pub plain : PlainLineSays words files old new
  -- And after `ol demand NAME` that line is a text of the normal form of the term in the file, where
  -- there is one and variables stand in at most 4,096 places of it.
  pub plain_demand : PlainDemandSays (λ source. FirstLine (IsFoundWithin 4096 source)) words files old new
  -- And no reduction of the term in the file to a normal form, of whatever redexes in whatever order,
  -- has fewer beta steps than the number after `beta`. Nor has a reduction by family steps, which
  -- contract any redexes of one family at once, told by Lévy's labels; and if the line is a text of a
  -- term, some reduction by family steps has exactly as many.
  pub plain_fewest : PlainDemandSays (λ source. CountsSay (AreFewest source)) words files old new
  -- After `ol equal A B` the line is `equal` only where the terms in the two files are convertible, and
  -- begins with `different` only where they aren't. Beta reduction alone counts, and free names are the
  -- same where their bytes are.
  pub plain_equal : PlainEqualSays words files old new
  -- The same of all words: where `run`, `walk`, `demand` or `gen --run` is done, and the first line that
  -- is written is a text of a term, that term is the normal form of the job's own term.
  pub normal_form : (bytes : List ℕ) → TellsTerm (files 0) words bytes → LineSays IsItsNormalForm words bytes old new
  -- Where a `?` stands on the line that `run`, `demand` or `gen --run` writes, the job's own term has no
  -- normal form.
  pub no_normal_form : (bytes : List ℕ) → TellsTerm (files 0) words bytes → LineSays TellsOfNone words bytes old new
  -- And where the job's own term has a normal form, with no more variables than there are heads that
  -- `demand` was asked for, that is the term that `demand` writes.
  pub demanded : (bytes : List ℕ) → TellsTerm (files 0) words bytes → LineSays IsFoundOnDemand words bytes old new
  -- The same after `demand` with any options.
  pub fewest : (bytes : List ℕ) → TellsTerm (files 0) words bytes → BetasAreFewest words bytes old new
  -- And for as many heads as `demand` was asked for, also where the term has no normal form: no
  -- reduction of the term, nor one by family steps, to a term that shows so many heads of its Böhm tree, in
  -- preorder, has fewer steps than the number after `beta`. If the term reduces to such a term, each place
  -- that was asked is printed with a head; and if each is, some reduction by family steps has exactly as
  -- many.
  pub fewest_heads : (bytes : List ℕ) → TellsTerm (files 0) words bytes → BetasAreFewestForHeads words bytes old new
  -- The tenth and last line that `run`, `demand` or `gen --run` writes is `stuck 0`. (No pair is ever
  -- stuck in a run from the net of a term: law `no_pair_is_stuck` of ol_law_levels.)
  pub no_stuck : (bytes : List ℕ) → TellsTerm (files 0) words bytes → NoneIsStuck words bytes old new
  -- Where `equal` writes `equal`, the terms of its two files are convertible, and where it writes
  -- `different`, they aren't. Free names are the same where their bytes are.
  pub two_terms : TellsFiles files words → LineSaysOfTwo words files old new
  -- Where `run`, `walk`, `demand` or `gen --run` is done, this holds of the job's own term and the tree
  -- whose text is written, each place of which has a head, is a `?` or is a `...`.
  --
  -- - Each head is the one that paths of any length give in the untouched net of the term. Where `run`,
  --   `demand` or `gen --run` prints a `...` in a place that was asked for, no path gives one: so a place
  --   that has a head is cut by `--heads` alone.
  -- - Beta reduction leads from the term to the tree's term, with some term in the place of each `?` and
  --   each `...`.
  -- - Where each place has a head, leftmost reduction leads from the term to the tree's term, which is a
  --   beta-normal form: the only one, to which each reduct of the term leads. Its text is in the grammar,
  --   and read back it is the tree's term, which has no redex.
  -- - Where `run`, `demand` or `gen --run` prints a `?`, paths of any length give no head in the untouched
  --   net in its place, head reduction of the term there has no end, and the whole term has no normal
  --   form. Of a `?` of `walk` nothing more is said.
  -- - From the net that `demand` leaves the asked places can be read by walks that meet no active pair. A
  --   run, of any pairs in any order, leads to such a net exactly where it has rewritten each pair that
  --   `demand` rewrites, by birth names, and then it is no shorter. Each complete run leads to one.
  pub tree : (bytes : List ℕ) → TellsTerm (files 0) words bytes → WritesTree words bytes old new
  -- Where `equal` is done, the line that is written tells of the terms of its files: `equal`, that they
  -- have one normal form, and `different at`, that they aren't convertible, whatever is reduced. A free
  -- name of the one is one of the other where the bytes are the same. And the verdict that `certify`
  -- writes is never `differs`.
  pub sources : TellsFiles files words → WritesOfSources words files old new

-- What is said where neither the source nor the sink failed, whatever the status.
pub record SaysOfAnswer (words : List (String Global)) (files : Files) (st : Status)
    (old new : Option (List ℕ)) : Type 0 where
  -- Where the bytes of the job's files are told and memory was found, the status and the text are those
  -- of the answer.
  pub exact : st ≢ status.NoMemory → TellsFiles files words →
      (text : List ℕ) × IsAnswer words files st text × Appended old text new
  -- Where the words ask for a job that can be done, its files being within the limits and in the grammar
  -- and its run ending within the fuel, the job is done and its answer's text written, or no memory was
  -- found and nothing was written.
  pub completeness : AskForWhatCanBeDone words files → IsDoneOrNothing words files st old new
  -- With enough fuel `run`, `trace`, `certify` and `gen --run` are done exactly if the job's own term is
  -- strongly normalising: if each reduction of it ends. If their fuel is spent, the term isn't strongly
  -- normalising, or the one-thread run is longer than the fuel; otherwise they are done.
  pub termination : st ≢ status.NoMemory → JobEndsExactly words files st
  -- Each complete run of the own term of `run` or `gen --run`, whatever pairs it takes first, prints what
  -- is written, or is longer than the fuel where that is spent. It is longer too where the fuel of
  -- `demand` is spent, and so is each run that leads to a net from which the asked places can be read by
  -- walks that meet no active pair. This fuel is then less than the number of inversions that the term's
  -- own net tells, before any step, of as many places as were asked for, or of all, if each of these
  -- places has a head.
  pub every_run : st ≢ status.NoMemory → (bytes : List ℕ) → TellsTerm (files 0) words bytes →
      EveryRunTells words bytes st old new
