-- Where the first of two files is refused, it isn't read to a term.
use Rattle.std.proofs.Common.{◌≡◌, ℕ, List, Option, Some, sym, subst}
use Rattle.std.specs.declared.alloc.Global.{Global}
use Rattle.std.specs.Prelude.{String}
use Rattle.ol_io.specs.Outside.{IsAllOf}
use Rattle.ol_term.specs.declared.translations.Translation.{Translation}
use Rattle.ol_term.specs.Trees.{Tree}
use Rattle.ol_readback.specs.declared.answers.ReadNode.{ReadNode}
use Rattle.ol_words.specs.Texts.{Text}
use Rattle.ol_words.specs.declared.jobs.Job.{Job}
use Rattle.ol_words.specs.declared.jobs.Job.TheVariants as jobs
use Rattle.ol_cli.specs.declared.numbers.RunNumbers.{RunNumbers}
use Rattle.ol_cli.specs.Jobs.{AskFor}
use Rattle.ol_cli.specs.TermFiles.{IsTermFile}
use Rattle.ol_cli.specs.Cases.{FileAnswer}
use Rattle.ol_cli.specs.Answers.{RefusesFirst}
use Rattle.ol_cli.specs.Sides.{IsReadOf}
use Rattle.ol_cli.proofs.BothFiles.{has_tree}
use Rattle.ol_cli.proofs.OneAnswer.{of_file_answer, read_file, not_refused, one_job}

-- a file that is told to have these bytes gave them
all_of : (told : Option (List ℕ)) (all bytes : List ℕ) → told ≡ Some all → IsAllOf told bytes → all ≡ bytes
all_of told all bytes e whole = sym (rw e at whole)

-- the first file of `equal` is read back, so it isn't refused
pub read_first : (n : RunNumbers) (first second : Text) (files : Text → Option (List ℕ))
    (bytes : List ℕ) (names : List (List ℕ)) (tree : List ReadNode) → IsAllOf (files first) bytes →
    IsReadOf n bytes names tree →
    RefusesFirst files (jobs.Equal n.translation n.workers.count n.fuel.most n.heads.most first second) → ⊥
read_first n first second files bytes names tree whole r (all, told, (st, text, isnt, h)) =
    let same = all_of (files first) all bytes told whole in
    let h' = subst (λ b. FileAnswer (jobs.Run n.translation n.workers.count n.fuel.most n.heads.most first) b st text) same h in
    isnt (read_file n.translation n.workers.count n.fuel.most n.heads.most first bytes
    (has_tree n bytes names tree r) st text
    (of_file_answer (jobs.Run n.translation n.workers.count n.fuel.most n.heads.most first) bytes st text h'))

-- the first file of `check` is a term file, so it isn't refused
pub term_first : (tr : Translation) (term journal : Text) (files : Text → Option (List ℕ))
    (bytes : List ℕ) (t : Tree) (names : List (List ℕ)) → IsAllOf (files term) bytes → IsTermFile tr bytes t names →
    RefusesFirst files (jobs.Check tr term journal) → ⊥
term_first tr term journal files bytes t names whole i (all, told, (st, text, h)) =
    let same = all_of (files term) all bytes told whole in
    let h' = subst (λ b. FileAnswer (jobs.Check tr term journal) b st text) same h in
    not_refused tr term journal bytes t names st text (of_file_answer (jobs.Check tr term journal) bytes st text h') i

-- what words ask for is their one job
pub of_own_job : (words : List (String Global)) (own job : Job)
    (files : Text → Option (List ℕ)) → AskFor words own → AskFor words job →
    RefusesFirst files job → RefusesFirst files own
of_own_job words own job files j j' h = subst (λ a. RefusesFirst files a) (one_job words job own j' j) h
