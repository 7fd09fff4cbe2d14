-- The text of a journal in either form, line by line.
use Rattle.std.proofs.Common.{◌≡◌, ℕ, List, [], ◌∷◌, ◌++◌, append_assoc, length, refl, sym, ap, ◌∙◌, arith}
use Rattle.std.proofs.lemmas.List.{append-nil}
use Rattle.ol_rules.specs.declared.journal.Entry.{Entry}
use Rattle.ol_view.specs.declared.forms.Form.{Form}
use Rattle.ol_view.specs.declared.forms.Form.TheVariants.{One, Two}
use Rattle.ol_view.specs.TraceTexts.{line_text}
use Rattle.ol_view.specs.EachForm.{header, lines_text, wave_header, wave_line_text, wave_lines_text}
use Rattle.ol_view.specs.Forms.{header_of, line_of, text_of}
use Rattle.ol_view.proofs.Traces.{lines_append}

abbrev pub lines_of : Form → List Entry → List ℕ → List ℕ
lines_of One es ws = lines_text es
lines_of Two es ws = wave_lines_text es ws

pub no_lines : (form : Form) → lines_of form [] [] ≡ []
no_lines One = refl
no_lines Two = refl

pub lines_cons : (form : Form) (e : Entry) (es : List Entry) (wave : ℕ) (ws : List ℕ) →
    lines_of form (e ∷ es) (wave ∷ ws) ≡ line_of form e wave ++ lines_of form es ws
lines_cons One e es wave ws = refl
lines_cons Two e es wave ws = refl

pub text_is : (form : Form) (es : List Entry) (ws : List ℕ) → text_of form es ws ≡ header_of form ++ lines_of form es ws
text_is One es ws = refl
text_is Two es ws = refl

wave_lines_append : (es : List Entry) (ws : List ℕ) (e : Entry) (wave : ℕ) → length ws ≡ length es →
    wave_lines_text (es ++ e ∷ []) (ws ++ wave ∷ []) ≡ wave_lines_text es ws ++ wave_line_text e wave
wave_lines_append [] [] e wave q = append-nil (wave_line_text e wave)
wave_lines_append [] (w ∷ ws) e wave q = absurd (omega arith)
wave_lines_append (d ∷ es) [] e wave q = absurd (omega arith)
wave_lines_append (d ∷ es) (w ∷ ws) e wave q = ap (λ bs. wave_line_text d w ++ bs)
    (wave_lines_append es ws e wave (omega arith))
    ∙ sym (append_assoc (wave_line_text d w) (wave_lines_text es ws) (wave_line_text e wave))

-- one line more
pub text_on : (form : Form) (es : List Entry) (ws : List ℕ) (e : Entry) (wave : ℕ) →
    length ws ≡ length es → text_of form (es ++ e ∷ []) (ws ++ wave ∷ []) ≡ text_of form es ws ++ line_of form e wave
text_on One es ws e wave q = ap (λ bs. header ++ bs) (lines_append es e)
    ∙ sym (append_assoc header (lines_text es) (line_text e.first e.second))
text_on Two es ws e wave q = ap (λ bs. wave_header ++ bs) (wave_lines_append es ws e wave q)
    ∙ sym (append_assoc wave_header (wave_lines_text es ws) (wave_line_text e wave))
