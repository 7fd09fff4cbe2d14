-- Private: names for texts that the words of public clauses write out: the lines of refusals, and
-- what `view` writes.
use Rattle.std.specs.Prelude.{List, codes, ℕ, ◌++◌}
use Rattle.ol_limits.specs.Limits.{most_term_bytes, most_depth, most_nodes, most_journal_bytes, most_net_bytes}
use Rattle.ol_cli.specs.Texts.{count_line, line}

abbrev pub fault_text : List ℕ
fault_text = line (codes "read fault")

abbrev pub bytes_text : List ℕ
bytes_text = count_line (codes "limit bytes") most_term_bytes

abbrev pub depth_text : List ℕ
depth_text = count_line (codes "limit depth") most_depth

abbrev pub nodes_text : List ℕ
nodes_text = count_line (codes "limit nodes") most_nodes

abbrev pub journal_text : List ℕ
journal_text = count_line (codes "limit journal") most_journal_bytes

abbrev pub net_bytes_text : List ℕ
net_bytes_text = count_line (codes "limit net") most_net_bytes

abbrev pub syntax_text : ℕ → List ℕ
syntax_text at = count_line (codes "syntax at byte") at

abbrev pub spent_text : ℕ → List ℕ
spent_text fuel = count_line (codes "fuel") fuel

-- the line of the number of steps, and the net after them as it is shown
abbrev pub view_text : ℕ → List ℕ → List ℕ
view_text steps shown = count_line (codes "step") steps ++ shown
