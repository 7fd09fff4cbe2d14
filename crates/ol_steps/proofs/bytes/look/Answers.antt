use Rattle.std.proofs.Common.{◌≡◌, ℕ, ◌≤◌, Bool, true, List, [], ◌∷◌, ◌++◌, cond, slice_range, slice_index, sym, ap, ◌∙◌, subst}
use Rattle.ol_parse.specs.Texts.{class_of, in_word, token_of}
use Rattle.ol_steps.specs.Sights.{take}
use Rattle.ol_steps.specs.Looks.{word, byte_look, gap_look, kind_of}
use Rattle.ol_steps.specs.SeenTokens.{from_of, look_of, sight_of}
use Rattle.ol_steps.specs.declared.bytes.Place.{Place}
use Rattle.ol_steps.proofs.LongerWords.{word_more}
use Rattle.ol_steps.proofs.bytes.look.Goals as goal

pub returns-then-goes_on-clause-look : goal.returns-then-goes_on-clause-look
returns-then-goes_on-clause-look c =
    let text = c.args.text.now in
    let k = c.args.k in
    let from = c.in-Word.from in
    let b = slice_index text k in
    let s = sight_of c.args.reading c.args.rounds.now.items in
    let w = slice_range text from k in
    let goes : in_word (class_of b) ≡ true = sym c.goes_on.ensures ∙ c.if-goes_on.true in
    let low : from ≤ k = subst (λ (p : Place). from_of p ≤ k) c.in-Word.is c.requires.begun in
    ap (λ (v : List ℕ). word v s) (word_more text from k low c.requires.within)
    ∙ sym (ap (λ (y : Bool). cond y (word (w ++ b ∷ []) s) (gap_look (take s (token_of w)) b (kind_of (class_of b)))) goes)
    ∙ ap (λ (p : Place). byte_look (look_of text k p c.args.reading c.args.rounds.now.items) b) (sym c.in-Word.is)
