-- The laws of the line on which a tree is printed.
use Rattle.ol_law_confluence.proofs.Lines.{text_is_one_line, holes_are_no_text, question_is_lost}
use Rattle.ol_law_confluence.proofs.written_lines.Goals as goal

pub returns-clause-one : goal.returns-clause-one
returns-clause-one g = text_is_one_line

pub returns-clause-holes : goal.returns-clause-holes
returns-clause-holes g = holes_are_no_text

pub returns-clause-question : goal.returns-clause-question
returns-clause-question g = question_is_lost
