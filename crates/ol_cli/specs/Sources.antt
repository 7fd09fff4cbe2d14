-- What is written for a job's own term, where its bytes are told: that of its file, or the one that `gen --run` makes.
use Rattle.std.specs.Prelude.{ℕ, ◌<◌, ◌≤◌, ◌⊎◌, true, false, List, length, Option, String}
use Rattle.std.specs.declared.alloc.Global.{Global}
use Rattle.ol_io.specs.Outside.{Appended}
use Rattle.ol_term.specs.declared.translations.Translation.{Translation}
use Rattle.ol_term.specs.Trees.{Tree}
use Rattle.ol_parse.specs.Parsed.{IsFileOf}
use Rattle.ol_net.specs.Nets.{NamedNet}
use Rattle.ol_rules.specs.declared.journal.NodeName.{NodeName}
use Rattle.ol_rules.specs.declared.journal.Entry.{Entry}
use Rattle.ol_rules.specs.Runs.{IsRun}
use Rattle.ol_net.specs.Pairs.{IsComplete}
use Rattle.ol_translate.specs.Translation.{translation_of}
use Rattle.ol_readback.specs.Sources.{HasHeadsOf}
use Rattle.ol_law_levels.specs.Asked.{HasAskedHeadsOf}
use Rattle.ol_readback.specs.Terms.{HasAllHeads, IsReadBack}
use Rattle.ol_readback.specs.declared.answers.ReadNode.{ReadNode}
use Rattle.ol_law_completeness.specs.Complete.{HaveInversions}
use Rattle.ol_law_completeness.specs.Least.{CanBeRead, CompleteRunsAreEnough}
use Rattle.ol_law_completeness.specs.TheLeast.{IsTheLeast}
use Rattle.ol_law_meaning.specs.Meaning.{SaysOf}
use Rattle.ol_law_confluence.specs.Printed.{SaysAlways}
use Rattle.ol_words.specs.declared.jobs.Job.{Job}
use Rattle.ol_words.specs.declared.jobs.Job.TheVariants as jobs
use Rattle.ol_cli.specs.declared.status.Status.{Status}
use Rattle.ol_cli.specs.declared.status.Status.TheVariants as status
use Rattle.ol_cli.specs.Jobs.{AskFor, translation_in}
use Rattle.ol_limits.specs.Limits.{plain_fuel, plain_heads}
use Rattle.ol_cli.specs.Run.{start_net_of_term, Prints}
use Rattle.ol_cli.specs.Walk.{Walks}
use Rattle.ol_cli.specs.EveryRun.{PrintsOf}
use Rattle.ol_cli.specs.Demand.{Demands}

-- ---- the tree that is written

-- What `run` prints of a term, and what holds of the tree whose text it prints. Each of its heads
-- is the one that the term's own translation gives, by paths of any length; in each place without a
-- head it gives none, nor in one that was asked and is cut all the same, as its walk used up its
-- crossings. Beta reduction leads from the term to the tree's own term, with some term in each
-- place that has no head or was cut. Where each place has a head, leftmost reduction of the term
-- ends in the tree's own term, which is a beta-normal form; the text is in the grammar, and read
-- back, with its free names numbered by these, it is the tree's own term, in which no application
-- has an abstraction as its function. Where some place has no head, head reduction of the term in
-- each such place has no end, and leftmost reduction of the whole term ends in no normal form. And
-- whatever is reduced: where each place has a head, the tree's term is the term's one normal form,
-- to which each of its reducts leads; where some place has no head, the term has no normal form.
pub record PrintsTree (translation : Translation) (t : Tree) (names : List (List ℕ))
    (fuel heads : ℕ) (text : List ℕ) : Type 0 where
  pub prints : Prints translation t names fuel heads text
  pub own_heads : HasAskedHeadsOf (translation_of translation t (length names)) heads prints.shows.tree
  pub says : SaysOf t true prints.shows.tree
  pub always : SaysAlways says
  pub read_again : HasAllHeads prints.shows.tree → IsReadBack names prints.shows.tree prints.shows.term

-- The same of `walk`, where nothing is said of the places without a head.
pub record WalksTree (translation : Translation) (t : Tree) (names : List (List ℕ))
    (edges heads : ℕ) (text : List ℕ) : Type 0 where
  pub walks : Walks translation t names edges heads text
  pub own_heads : HasHeadsOf (translation_of translation t (length names)) false walks.tree
  pub says : SaysOf t false walks.tree
  pub always : SaysAlways says
  pub read_again : HasAllHeads walks.tree → IsReadBack names walks.tree walks.term

-- The same of `demand`. The net that it leaves is one from which the asked places can be read by
-- walks that meet no active pair (`enough`). A run from the term's net, of any pairs in any order,
-- leads to such a net exactly where it has rewritten each pair that `demand` rewrites, by birth
-- names, and then it is no shorter; and each complete run leads to one.
pub record DemandsTree (translation : Translation) (t : Tree) (names : List (List ℕ))
    (fuel heads : ℕ) (text : List ℕ) : Type 0 where
  pub demands : Demands translation t names fuel heads text
  pub own_heads : HasAskedHeadsOf (translation_of translation t (length names)) heads demands.ends.tree
  pub says : SaysOf t true demands.ends.tree
  pub always : SaysAlways says
  pub read_again : HasAllHeads demands.ends.tree → IsReadBack names demands.ends.tree demands.term
  pub enough : CanBeRead demands.ends.net heads
  pub least : IsTheLeast (start_net_of_term translation t names) heads demands.ends.journal
  pub complete : CompleteRunsAreEnough (start_net_of_term translation t names) heads

-- What a job prints of a term, with the facts of its tree, if it prints one. `gen --run` does with
-- the term that it makes what `run` does without options.
abbrev pub TellsTree : Job → Tree → List (List ℕ) → List ℕ → Type 0
TellsTree (jobs.Run translation workers fuel heads name) t names text = PrintsTree translation t names fuel heads text
TellsTree (jobs.Walk translation edges heads name) t names text = WalksTree translation t names edges heads text
TellsTree (jobs.Gen translation true k) t names text = PrintsTree translation t names plain_fuel plain_heads text
TellsTree (jobs.Demand translation fuel heads name) t names text = DemandsTree translation t names fuel heads text
TellsTree _ t names text = Unit {0}

-- The text was written for the job's own term, and these are the facts of its tree.
abbrev pub WritesTree : List (String Global) → List ℕ → Option (List ℕ) → Option (List ℕ) → Type 0
WritesTree words bytes old new = (job : Job) (t : Tree) (names : List (List ℕ)) →
    AskFor words job → IsFileOf bytes t names →
    (text : List ℕ) × TellsTree job t names text × Appended old text new

-- ---- the inversions of the term

-- What is told where the fuel of `demand` is spent: it is less than the number of inversions that the
-- term's own net tells, before any step, of its first places, if they are no fewer than were asked
-- for, or all.
abbrev pub FuelTells : Job → Tree → List (List ℕ) → Status → Type 0
FuelTells (jobs.Demand translation fuel heads name) t names status.Spent =
    (most m : ℕ) (ns : List ReadNode) →
    HaveInversions (translation_of translation t (length names)) most ns m →
    (heads ≤ most) ⊎ (length ns < most) → fuel < m
FuelTells _ t names st = Unit {0}

-- ---- every complete run

-- what a complete run of `run` tells of the status: its journal and its net print what was written,
-- or it is longer than the fuel
abbrev pub RunTells : List (List ℕ) → (fuel heads : ℕ) → List Entry → NamedNet NodeName → Status →
    Option (List ℕ) → Option (List ℕ) → Type 0
RunTells names fuel heads journal net status.Done old new =
    (text : List ℕ) × PrintsOf names fuel heads journal net text × Appended old text new
RunTells names fuel heads journal net status.Spent old new = fuel < length journal
RunTells names fuel heads journal net _ old new = Unit {0}

-- The same of a job: where the demand run of `demand` is longer than the fuel, so is each complete
-- run, and each that leads to a net from which the asked places can be read by walks that meet no
-- active pair. The others rewrite nothing, or write no term.
abbrev pub JobTells : Job → List (List ℕ) → List Entry → NamedNet NodeName → Status →
    Option (List ℕ) → Option (List ℕ) → Type 0
JobTells (jobs.Run translation workers fuel heads name) names journal net st old new = RunTells names
    fuel heads journal net st old new
JobTells (jobs.Gen translation true k) names journal net st old new = RunTells names plain_fuel
    plain_heads journal net st old new
JobTells (jobs.Demand translation fuel heads name) names journal net status.Spent old new =
    fuel < length journal
JobTells _ names journal net st old new = Unit {0}

-- A run may end with a complete net, and for `demand` also with one from which the asked places can
-- be read by walks that meet no active pair.
abbrev pub IsLast : Job → NamedNet NodeName → Type 0
IsLast (jobs.Demand translation fuel heads name) net = IsComplete net ⊎ CanBeRead net heads
IsLast _ net = IsComplete net

-- The inversions of the job's own term tell this of the status; and so does each such run from the
-- net of this term, whatever pairs it takes first.
abbrev pub TermTells : Job → Tree → List (List ℕ) → Status → Option (List ℕ) → Option (List ℕ) → Type 0
TermTells job t names st old new = FuelTells job t names st
    × ((journal : List Entry) (net : NamedNet NodeName) →
    IsRun (start_net_of_term (translation_in job) t names) 0 journal net → IsLast job net →
    JobTells job names journal net st old new)

-- so it is with the job that the words ask for and the term of its file
abbrev pub EveryRunTells : List (String Global) → List ℕ → Status → Option (List ℕ) → Option (List ℕ) → Type 0
EveryRunTells words bytes st old new = (job : Job) (t : Tree) (names : List (List ℕ)) →
    AskFor words job → IsFileOf bytes t names → TermTells job t names st old new
