-- Private: words of private contracts alone: what comes of one file that is read to its end.
use Rattle.std.specs.Prelude.{◌≡◌, ℕ, ◌≤◌, List, length, None}
use Rattle.ol_words.specs.Texts.{Text}
use Rattle.ol_cli.specs.declared.files.FileKind.{FileKind}
use Rattle.ol_cli.specs.declared.files.FileKind.TheVariants as kind
use Rattle.ol_cli.specs.declared.files.File.{File}
use Rattle.ol_cli.specs.declared.files.File.TheVariants.{Bytes, Refused}
use Rattle.ol_cli.specs.declared.status.Status.{Status}
use Rattle.ol_cli.specs.Answers.{Seen}
use Rattle.ol_cli.specs.Cases.{GaveWithin, CauseOf}
use Rattle.ol_cli.specs.RefusalTexts.{bytes_text, journal_text, net_bytes_text}
use Rattle.ol_limits.specs.Limits.{most_term_bytes, most_journal_bytes, most_net_bytes}

-- how many bytes a file may have, and the line that refuses one with more
abbrev pub most_bytes : FileKind → ℕ
most_bytes kind.Term = most_term_bytes
most_bytes kind.Journal = most_journal_bytes
most_bytes kind.Net = most_net_bytes

abbrev pub limit_text : FileKind → List ℕ
limit_text kind.Term = bytes_text
limit_text kind.Journal = journal_text
limit_text kind.Net = net_bytes_text

-- the file is refused so: the source failed, or gave too many bytes
abbrev pub RefusesFile : FileKind → Seen → Text → Status → List ℕ → Type 0
RefusesFile k s name = CauseOf s (most_bytes k) (limit_text k) name (λ bytes st text. ⊥)

-- what comes of the file: all its bytes, or the answer that refuses it
abbrev pub ComesOfFile : FileKind → Seen → Text → File → Type 0
ComesOfFile k s name (Bytes bytes) = (s.faults' ≡ s.faults) × GaveWithin s (most_bytes k) name bytes.items
ComesOfFile k s name (Refused answer) = RefusesFile k s name answer.status answer.text.items × (answer.closed ≡ None)

-- the bytes, if they came, are no more than the file may have
abbrev pub IsShort : FileKind → File → Type 0
IsShort k (Bytes bytes) = length bytes.items ≤ most_bytes k
IsShort k (Refused answer) = Unit {0}
