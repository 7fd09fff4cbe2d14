-- The term of a file has the names of its list.
use Rattle.std.proofs.Common.{ℕ, List, length, sym, subst}
use Rattle.ol_parse.specs.Numbered.{names_of, number}
use Rattle.ol_parse.specs.Parsed.{IsFileOf}
use Rattle.ol_parse.proofs.Files.{whole_bound, whole_named, whole_occurs}
use Rattle.ol_term.specs.Trees.{Tree}
use Rattle.ol_translate.specs.Names.{HasNames}

pub file_names : (bytes : List ℕ) (t : Tree) (names : List (List ℕ)) → IsFileOf bytes t names →
    HasNames t (length names)
file_names bytes t names f =
    let has_names : HasNames (number f.named) (length (names_of f.named)) =
    record { bound = whole_bound f.named; named = whole_named f.named; each = λ k b. whole_occurs f.named k b } in
    subst (λ t. HasNames t (length names)) (sym f.tree)
    (subst (λ names. HasNames (number f.named) (length names)) (sym f.free_names) has_names)
