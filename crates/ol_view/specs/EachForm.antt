-- Private: the text of a journal in each of the two forms for itself.
use Rattle.std.specs.Prelude.{◌≡◌, ℕ, true, List, ◌++◌, flat_map, zip}
use Rattle.ol_rules.specs.declared.journal.NodeName.{NodeName}
use Rattle.ol_rules.specs.declared.journal.Entry.{Entry}
use Rattle.ol_rules.specs.Names.{comes_before}
use Rattle.ol_view.specs.declared.forms.Form.TheVariants.{One, Two}
use Rattle.ol_view.specs.TraceTexts.{line_text, MayBeWritten}
use Rattle.ol_view.specs.Forms.{header_of, line_of}

-- ---- the first form

abbrev pub header : List ℕ
header = header_of One

-- a line for each entry, in order
abbrev pub lines_text : List Entry → List ℕ
lines_text es = flat_map (λ e. line_of One e 0) es

abbrev pub trace_text : List Entry → List ℕ
trace_text es = header ++ lines_text es

-- The text begins with a line of the grammar, that of these two names, and this follows.
pub record BeginsWithLine (text : List ℕ) (first second : NodeName) (rest : List ℕ) : Type 0 where
  pub begins : text ≡ line_text first second ++ rest
  pub first_may : MayBeWritten first
  pub second_may : MayBeWritten second
  pub ordered : comes_before first second ≡ true

-- ---- the second form

abbrev pub wave_header : List ℕ
wave_header = header_of Two

abbrev pub wave_line_text : Entry → ℕ → List ℕ
wave_line_text e wave = line_of Two e wave

-- a line for each entry, in order, with its wave
abbrev pub wave_lines_text : List Entry → List ℕ → List ℕ
wave_lines_text es waves = flat_map (λ (p : Entry × ℕ). line_of Two p.0 p.1) (zip es waves)

abbrev pub wave_trace_text : List Entry → List ℕ → List ℕ
wave_trace_text es waves = wave_header ++ wave_lines_text es waves
