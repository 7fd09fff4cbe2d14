-- The words of a cause are put piece by piece.
use Rattle.std.proofs.Common.{◌≡◌, ◌++◌, OnOk, sym, ap, ◌∙◌, subst}
use Rattle.std.specs.Prelude.{string_bytes, codes}
use Rattle.std.specs.Fmt.{decimal}
use Rattle.ol_view.specs.TraceTexts.{name_text}
use Rattle.ol_view.specs.RuleNames.{rule_text}
use Rattle.ol_explain.specs.Explained.{copy_text, link_text, cause_words}
use Rattle.ol_explain.proofs.Pieces.{two, three, four, five}
use Rattle.ol_explain.proofs.causes.put_cause.Goals as goal

pub returns-in_ok-put-in-FacesCopy : goal.returns-in_ok-put-in-FacesCopy
returns-in_ok-put-in-FacesCopy c =
    let b0 = string_bytes c.args.text.now in
    let end = c.put_copy in
    subst (λ words. OnOk end.result (string_bytes end.new.text ≡ words))
    (three b0 (string_bytes c.put_name-in-FacesCopy.new.text) (string_bytes c.put-in-FacesCopy.new.text)
    (name_text c.in-FacesCopy.name) (codes " is linked to ") (copy_text c.in-FacesCopy.ticket c.in-FacesCopy.place)
    c.in_ok-put_name-in-FacesCopy.ensures c.in_ok-put-in-FacesCopy.ensures
    ∙ ap (λ x. b0 ++ cause_words c.args.first c.args.second x) (sym c.in-FacesCopy.is))
    end.ensures

pub returns-in_ok-put-in-FacesSlot-2 : goal.returns-in_ok-put-in-FacesSlot-2
returns-in_ok-put-in-FacesSlot-2 c =
    let b0 = string_bytes c.args.text.now in
    let end = c.put_name-in-FacesSlot-2 in
    subst (λ words. OnOk end.result (string_bytes end.new.text ≡ words))
    (five b0 (string_bytes c.put_name-in-FacesSlot.new.text) (string_bytes c.put-in-FacesSlot.new.text)
    (string_bytes c.put_number-in-FacesSlot.new.text) (string_bytes c.put-in-FacesSlot-2.new.text)
    (name_text c.args.first) (codes " is linked to port ") (decimal c.in-FacesSlot.slot) (codes " of ")
    (name_text c.in-FacesSlot.name) c.in_ok-put_name-in-FacesSlot.ensures c.in_ok-put-in-FacesSlot.ensures
    c.in_ok-put_number-in-FacesSlot.ensures c.in_ok-put-in-FacesSlot-2.ensures
    ∙ ap (λ x. b0 ++ cause_words c.args.first c.args.second x) (sym c.in-FacesSlot.is))
    end.ensures

pub returns-in_ok-put_name-in-NoRule-2 : goal.returns-in_ok-put_name-in-NoRule-2
returns-in_ok-put_name-in-NoRule-2 c =
    let b0 = string_bytes c.args.text.now in
    let end = c.put-in-NoRule-2 in
    subst (λ words. OnOk end.result (string_bytes end.new.text ≡ words))
    (four b0 (string_bytes c.put_name-in-NoRule.new.text) (string_bytes c.put-in-NoRule.new.text)
    (string_bytes c.put_name-in-NoRule-2.new.text) (name_text c.args.first) (codes " and ")
    (name_text c.args.second) (codes " have no rule") c.in_ok-put_name-in-NoRule.ensures
    c.in_ok-put-in-NoRule.ensures c.in_ok-put_name-in-NoRule-2.ensures
    ∙ ap (λ x. b0 ++ cause_words c.args.first c.args.second x) (sym c.in-NoRule.is))
    end.ensures

pub returns-in_ok-put-in-OtherRule : goal.returns-in_ok-put-in-OtherRule
returns-in_ok-put-in-OtherRule c =
    let b0 = string_bytes c.args.text.now in
    let b1 = string_bytes c.put-in-OtherRule.new.text in
    let end = c.put-in-OtherRule-2 in
    subst (λ words. OnOk end.result (string_bytes end.new.text ≡ words))
    (ap (λ word. b1 ++ word) c.rule_word.ensures
    ∙ two b0 b1 (codes "the rule is ") (rule_text c.in-OtherRule.rule) c.in_ok-put-in-OtherRule.ensures
    ∙ ap (λ x. b0 ++ cause_words c.args.first c.args.second x) (sym c.in-OtherRule.is))
    end.ensures

pub returns-in_ok-put-in-OtherWave-2 : goal.returns-in_ok-put-in-OtherWave-2
returns-in_ok-put-in-OtherWave-2 c =
    let b0 = string_bytes c.args.text.now in
    let w = c.in-OtherWave.wave in
    let end = c.put_link in
    subst (λ words. OnOk end.result (string_bytes end.new.text ≡ words))
    (four b0 (string_bytes c.put-in-OtherWave.new.text) (string_bytes c.put_number-in-OtherWave.new.text)
    (string_bytes c.put-in-OtherWave-2.new.text) (codes "the wave is ") (decimal w) (codes ": ")
    (link_text c.in-OtherWave.joined c.saturating_sub.result)
    c.in_ok-put-in-OtherWave.ensures c.in_ok-put_number-in-OtherWave.ensures c.in_ok-put-in-OtherWave-2.ensures
    ∙ ap (λ n. b0 ++ (codes "the wave is " ++ decimal w ++ codes ": " ++ link_text c.in-OtherWave.joined n))
    c.saturating_sub.ensures
    ∙ ap (λ x. b0 ++ cause_words c.args.first c.args.second x) (sym c.in-OtherWave.is))
    end.ensures
