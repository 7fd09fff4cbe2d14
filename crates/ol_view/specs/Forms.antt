-- The text of a journal, and the grammar of its lines, in two forms: the first tells the two nodes of each entry, the
-- second its rule and its wave too.
use Rattle.std.specs.Prelude.{◌≡◌, ℕ, ◌≤◌, true, List, [], ◌∷◌, ◌++◌, codes, flat_map, zip}
use Rattle.std.specs.Fmt.{decimal}
use Rattle.ol_rules.specs.declared.journal.Entry.{Entry}
use Rattle.ol_rules.specs.Names.{comes_before}
use Rattle.ol_view.specs.declared.forms.Form.{Form}
use Rattle.ol_view.specs.declared.forms.Form.TheVariants.{One, Two}
use Rattle.ol_view.specs.TraceTexts.{line_text, MayBeWritten}
use Rattle.ol_view.specs.RuleNames.{rule_text}

-- the first line
abbrev pub header_of : Form → List ℕ
header_of One = codes "ol trace 1" ++ 10 ∷ []
header_of Two = codes "ol trace 2" ++ 10 ∷ []

-- the line of an entry and its wave, with one space between two words; the first form doesn't tell the rule and the wave
abbrev pub line_of : Form → Entry → ℕ → List ℕ
line_of One e wave = line_text e.first e.second
line_of Two e wave = rule_text e.rule ++ (32 ∷ decimal wave ++ (32 ∷ line_text e.first e.second))

-- the text of a journal with its waves: after the first line a line for each entry, in order
abbrev pub text_of : Form → List Entry → List ℕ → List ℕ
text_of One journal waves = header_of One ++ flat_map (λ e. line_of One e 0) journal
text_of Two journal waves = header_of Two
    ++ flat_map (λ (p : Entry × ℕ). line_of Two p.0 p.1) (zip journal waves)

-- The text begins with a line of the grammar, that of this entry and wave, and this follows. In the first form, whose
-- lines tell no wave, any will do.
pub record BeginsWithEntry (form : Form) (text : List ℕ) (entry : Entry) (wave : ℕ)
    (rest : List ℕ) : Type 0 where
  pub begins : text ≡ line_of form entry wave ++ rest
  pub wave_may : wave ≤ 4294967295
  pub names_may : MayBeWritten entry.first × MayBeWritten entry.second
  pub ordered : comes_before entry.first entry.second ≡ true
