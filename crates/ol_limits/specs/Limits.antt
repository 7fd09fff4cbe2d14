-- The limits of what is read, made ready and printed, and of a job's numbers; and the numbers of `run` without options.
-- They stand here as numerals, so that a constant of src/lib.rt that differs is refused.
use Rattle.std.specs.Prelude.{ℕ}

-- bytes of a term file, of a journal file, and of a file with a net
abbrev pub most_term_bytes : ℕ
most_term_bytes = 1048576

abbrev pub most_journal_bytes : ℕ
most_journal_bytes = 402653184

abbrev pub most_net_bytes : ℕ
most_net_bytes = 33554432

-- how deep a term is, and how many nodes its net has, or a net that is printed
abbrev pub most_depth : ℕ
most_depth = 1000

abbrev pub most_nodes : ℕ
most_nodes = 200000

-- how many constructors a term has that steps are made from
abbrev pub most_size : ℕ
most_size = 100000

-- how many workers rewrite, how many interactions they make, and how many subterms are asked for their heads
abbrev pub most_workers : ℕ
most_workers = 64

abbrev pub most_fuel : ℕ
most_fuel = 8000000

abbrev pub most_heads : ℕ
most_heads = 100000

-- how many edges a walk crosses, and how many beta steps are shown
abbrev pub most_edges : ℕ
most_edges = 10000000

abbrev pub most_steps : ℕ
most_steps = 10000

-- the workers of `run` without options, its fuel, and how many subterms it asks
abbrev pub plain_workers : ℕ
plain_workers = 4

abbrev pub plain_fuel : ℕ
plain_fuel = 200000

abbrev pub plain_heads : ℕ
plain_heads = 4096
