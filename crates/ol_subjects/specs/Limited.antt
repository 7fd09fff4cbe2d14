-- The words that tell of a limit.
use Rattle.std.specs.Prelude.{List, ◌++◌, ℕ, codes}
use Rattle.std.specs.Fmt.{decimal}
use Rattle.ol_limits.specs.Limits.{most_depth, most_nodes, most_size, most_term_bytes}

-- of the bytes of a term file
abbrev pub bytes_words : List ℕ
bytes_words = codes "limit bytes " ++ decimal most_term_bytes

-- of the depth of a term
abbrev pub depth_words : List ℕ
depth_words = codes "limit depth " ++ decimal most_depth

-- of the nodes of a term's net
abbrev pub nodes_words : List ℕ
nodes_words = codes "limit nodes " ++ decimal most_nodes

-- of the constructors of a term that steps are made from
abbrev pub size_words : List ℕ
size_words = codes "limit size " ++ decimal most_size
