use Rattle.ol_parse.proofs.Exact.{names_occur, names_are, taken, syntax_exact, depth_exact}
use Rattle.ol_parse.proofs.parsing.parse.Goals as goal

pub returns-clause-each_name : goal.returns-clause-each_name
returns-clause-each_name c = names_occur c.args.text.now c.read_file.result c.read_file.ensures.file

pub returns-clause-syntax : goal.returns-clause-syntax
returns-clause-syntax c = syntax_exact c.args.text.now c.read_file.result c.read_file.ensures.file
    c.read_file.ensures.refused

pub returns-clause-too_deep : goal.returns-clause-too_deep
returns-clause-too_deep c = depth_exact c.args.text.now c.read_file.result c.read_file.ensures.file
    c.read_file.ensures.shallow c.read_file.ensures.refused

pub returns-clause-taken : goal.returns-clause-taken
returns-clause-taken c = taken c.args.text.now c.read_file.result c.read_file.ensures.refused

pub returns-clause-names : goal.returns-clause-names
returns-clause-names c = names_are c.args.text.now c.read_file.result c.read_file.ensures.file
