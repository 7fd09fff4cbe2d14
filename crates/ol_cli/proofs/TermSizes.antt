-- The size of a term that is read from a file within the limits is counted in 64 bits.
use Rattle.std.proofs.Common.{ℕ, List}
use Rattle.ol_term.specs.declared.translations.Translation.{Translation}
use Rattle.ol_term.specs.Trees.{Tree}
use Rattle.ol_translate.proofs.TermSizes.{counted}
use Rattle.ol_cli.specs.TermFiles.{IsTermFile}
use Rattle.ol_cli.specs.Ready.{IsReducible}
use Rattle.ol_law_meaning.proofs.FileNames.{file_names}

-- the term of a file within the limits can be reduced
pub reducible : (tr : Translation) (bytes : List ℕ) (t : Tree) (names : List (List ℕ)) →
    IsTermFile tr bytes t names → IsReducible t names
reducible tr bytes t names i = record {
  shallow = i.shallow;
  named = file_names bytes t names i.file;
  few = counted tr t i.small;
}
