-- What comes of a file that is read to its end, by what comes of its bytes.
use Rattle.std.proofs.Common.{◌≡◌, ℕ, List}
use Rattle.ol_term.specs.Trees.{tree_of}
use Rattle.ol_term.specs.declared.translations.Translation.{Translation}
use Rattle.ol_words.specs.Texts.{Text}
use Rattle.ol_cli.specs.declared.files.FileKind.{FileKind}
use Rattle.ol_cli.specs.declared.ready.Ready.{Ready}
use Rattle.ol_cli.specs.declared.ready.Ready.TheVariants as ready
use Rattle.ol_cli.specs.declared.status.Status.{Status}
use Rattle.ol_cli.specs.Answers.{Seen}
use Rattle.ol_cli.specs.Cases.{GaveAll, CauseOf, given}
use Rattle.ol_cli.specs.Files.{RefusesFile, limit_text, most_bytes}
use Rattle.ol_cli.specs.Ready.{ComesOfTerm, IsMadeReady, IsNetReady}
use Rattle.ol_cli.proofs.Causes.{cause_map}
use Rattle.ol_cli.proofs.TermSizes.{reducible}

-- what refuses a file is the cause of an answer, whatever its bytes would be answered
pub refused_file : (k : FileKind) (s : Seen) (name : Text)
    (A : List ℕ → Status → List ℕ → Type 0) (st : Status) (text : List ℕ) →
    RefusesFile k s name st text → CauseOf s (most_bytes k) (limit_text k) name A st text
refused_file k s name A st text r =
    cause_map s (most_bytes k) (limit_text k) name (λ bytes st text. ⊥) A st text
    (λ bytes h. absurd h) r

-- what comes of a term file is what is made of its bytes
pub made_ready : (tr : Translation) (s : Seen) (name : Text) (bytes : List ℕ) →
    s.faults' ≡ s.faults → GaveAll s name bytes → (r : Ready) → IsMadeReady tr bytes r →
    ComesOfTerm tr s name r
made_ready tr s name bytes same gave (ready.Net net file) h = (same, (bytes, gave, h))
made_ready tr s name bytes same gave (ready.Refused a) h =
    (given same gave h.0, h.1)

pub made_net : (tr : Translation) (bytes : List ℕ) (r : Ready) → IsMadeReady tr bytes r →
    IsNetReady tr r
made_net tr bytes (ready.Net net file) h =
    (h.ready, reducible tr bytes (tree_of file.term) file.names h.term)
made_net tr bytes (ready.Refused a) h = tt
