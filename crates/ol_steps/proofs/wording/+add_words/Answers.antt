use Rattle.std.proofs.Common.{rules, ◌≡◌, ℕ, true, false, List, [], ◌∷◌, ◌++◌, length, sym, ap, ◌∙◌}
use Rattle.std.proofs.lemmas.List.{nil_from_length}
use Rattle.ol_steps.specs.Lets.{LetRow, names_of_lets}
use Rattle.ol_steps.specs.ValueTrees.{row_of, rows_of}
use Rattle.ol_steps.specs.Words.{names_for, new_rows, word_rows}
use Rattle.ol_steps.specs.declared.lets.NamedValue.{NamedValue}
use Rattle.ol_steps.proofs.NewWords.{one, names_two, words_two}
use Rattle.ol_steps.proofs.Rows.{append_none, no_rows}
use Rattle.ol_steps.proofs.wording.+add_words.Goals as goal

pub returns-in_default : goal.returns-in_default
returns-in_default t c =
    let names = c.args.names.now in
    let words = rows_of c.args.words.now.items in
    let rows = rows_of c.args.rows.now in
    let z : length c.args.left.now ≡ 0 = search rules in
    let e : c.args.left.now ≡ [] = nil_from_length c.args.left.now z in record {
      names = append_none names
          ∙ ap (λ (l : List NamedValue). names ++ names_of_lets (new_rows names (word_rows rows (rows_of l)))) (sym e);
      words = no_rows words
          ∙ ap (λ (l : List NamedValue). words ++ new_rows names (word_rows rows (rows_of l))) (sym e);
    }

pub returns : goal.returns
returns t c =
    let names = c.args.names.now in
    let words = rows_of c.args.words.now.items in
    let rows = rows_of c.args.rows.now in
    let row = row_of c.in-Some.row.now in
    let others = rows_of c.in-Some.others.now in
    let x = names_for true rows row.value row.binders in
    let y = names_for false rows row.value row.binders in
    let v = row.value in
    let left = word_rows rows others in
    let e : rows_of c.args.left.now ≡ row ∷ others = search rules in
    let first : c.add_new.new.names ≡ names ++ names_of_lets (one names x v) =
    c.in_ok-add_new.ensures.names ∙ ap (λ (z : List ℕ). names ++ names_of_lets (one names z v)) (c.deref.ensures.value ∙ c.in_ok-kept.ensures) in
    let mid = names ++ names_of_lets (one names x v) in
    let second : c.add_new-2.new.names ≡ mid ++ names_of_lets (one mid y v) =
    c.in_ok-add_new-2.ensures.names
    ∙ ap (λ (z : List ℕ). c.add_new.new.names ++ names_of_lets (one c.add_new.new.names z v)) (c.deref-2.ensures.value ∙ c.in_ok-all.ensures)
    ∙ ap (λ (l : List (List ℕ)). l ++ names_of_lets (one l y v)) first in
    let last = mid ++ names_of_lets (one mid y v) in
    let one_word : rows_of c.add_new.new.words.items ≡ words ++ one names x v =
    c.in_ok-add_new.ensures.words ∙ ap (λ (z : List ℕ). words ++ one names z v) (c.deref.ensures.value ∙ c.in_ok-kept.ensures) in
    let two_words : rows_of c.add_new-2.new.words.items ≡ (words ++ one names x v) ++ one mid y v =
    c.in_ok-add_new-2.ensures.words
    ∙ ap (λ (z : List ℕ). rows_of c.add_new.new.words.items ++ one c.add_new.new.names z v) (c.deref-2.ensures.value ∙ c.in_ok-all.ensures)
    ∙ ap (λ (l : List (List ℕ)). rows_of c.add_new.new.words.items ++ one l y v) first
    ∙ ap (λ (l : List LetRow). l ++ one mid y v) one_word in record {
      names = c.in_ok-add_words.ensures.names
          ∙ ap (λ (l : List (List ℕ)). l ++ names_of_lets (new_rows l left)) second
          ∙ names_two names x y v left
          ∙ ap (λ (l : List LetRow). names ++ names_of_lets (new_rows names (word_rows rows l))) (sym e);
      words = c.in_ok-add_words.ensures.words
          ∙ ap (λ (l : List (List ℕ)). rows_of c.add_new-2.new.words.items ++ new_rows l left) second
          ∙ ap (λ (l : List LetRow). l ++ new_rows last left) two_words
          ∙ words_two names x y v left words
          ∙ ap (λ (l : List LetRow). words ++ new_rows names (word_rows rows l)) (sym e);
    }
