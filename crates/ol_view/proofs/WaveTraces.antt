-- The lines of a journal with its waves, entry by entry.
use Rattle.std.proofs.Common.{◌≡◌, ℕ, zero, suc, ◌<◌, List, [], ◌∷◌, ◌++◌, append_assoc, length}
use Rattle.std.proofs.Common.{take, Some, refl, sym, ap, ◌∙◌, arith}
use Rattle.std.proofs.lemmas.List.{append-nil}
use Rattle.std.specs.Prelude.{slice_get}
use Rattle.ol_rules.specs.declared.journal.Entry.{Entry}
use Rattle.ol_view.specs.EachForm.{wave_line_text, wave_lines_text}

-- one line more
pub wave_lines_on : (es : List Entry) (ws : List ℕ) (k : ℕ) (e : Entry) (w : ℕ) →
    slice_get es k ≡ Some e → slice_get ws k ≡ Some w →
    wave_lines_text (take (suc k) es) (take (suc k) ws) ≡ wave_lines_text (take k es) (take k ws) ++ wave_line_text e w
wave_lines_on [] ws k e w h h' = absurd (cc)
wave_lines_on (d ∷ es) [] k e w h h' = absurd (cc)
wave_lines_on (d ∷ es) (v ∷ ws) zero e w h h' =
    let is : d ≡ e = cc in
    let at : v ≡ w = cc in
    append-nil (wave_line_text d v) ∙ ap (λ (e : Entry). wave_line_text e v) is ∙ ap (λ w. wave_line_text e w) at
wave_lines_on (d ∷ es) (v ∷ ws) (suc k) e w h h' =
    ap (λ bs. wave_line_text d v ++ bs) (wave_lines_on es ws k e w h h')
    ∙ sym (append_assoc (wave_line_text d v) (wave_lines_text (take k es) (take k ws)) (wave_line_text e w))

pub wave_there : (ws : List ℕ) (k : ℕ) → k < length ws → (w : ℕ) × (slice_get ws k ≡ Some w)
wave_there [] k h = absurd (omega arith)
wave_there (d ∷ ws) zero h = (d, refl)
wave_there (d ∷ ws) (suc k) h = wave_there ws k (omega arith)
