-- The names of rules, as they are read and written.
use Rattle.std.proofs.Common.{◌≡◌, ℕ, suc, ◌+◌, ◌<◌, ◌≤◌, Bool, true, false, if◌then◌else◌, eqb, List, ◌++◌, length}
use Rattle.std.proofs.Common.{drop, get_or, Option, None, Some, sym, ap, ◌∙◌, arith}
use Rattle.std.specs.List.{starts_with, slice_range}
use Rattle.std.proofs.lemmas.List.{append-nil, drop-drop}
use Rattle.std.proofs.lemmas.List.Folds.{drop_split}
use Rattle.std.proofs.Math.Seq.{drop-cons, drop-length}
use Rattle.std.specs.Prelude.{option_map}
use Rattle.ol_net.specs.declared.parts.Rule.{Rule}
use Rattle.ol_net.specs.declared.parts.Rule.TheVariants.{Beta}
use Rattle.ol_view.specs.RuleNames.{rule_text}
use Rattle.ol_view.specs.LineReading.{word_behind, first_of, front_rule_of, all_rules}

to_end : (text : List ℕ) (at : ℕ) → at ≤ length text → slice_range text at (length text) ≡ drop at text
to_end text at h = sym (drop_split text at (length text) h
    ∙ ap (λ bs. slice_range text at (length text) ++ bs) (drop-length text)
    ∙ append-nil (slice_range text at (length text)))

-- what follows a word that stands here
pub is_behind : (text : List ℕ) (at : ℕ) (word bytes : List ℕ) (r : Bool) → at ≤ length text →
    bytes ≡ word → r ≡ starts_with eqb (slice_range text at (length text)) bytes →
    (r ≡ true → word_behind word (drop at text) ≡ Some (drop (at + length word) text))
    × (r ≡ false → word_behind word (drop at text) ≡ None)
is_behind text at word bytes r h q e = ((λ t. found t), (λ f. absent f))
  where
    is : r ≡ starts_with eqb (drop at text) word
    is = e ∙ ap (λ bs. starts_with eqb bs bytes) (to_end text at h) ∙ ap (λ word. starts_with eqb (drop at text) word) q

    found : r ≡ true → word_behind word (drop at text) ≡ Some (drop (at + length word) text)
    found t = ap (λ v. if v then Some (drop (length word) (drop at text)) else None) (sym is ∙ t)
        ∙ ap (λ bs. Some bs) (drop-drop (length word) at text)

    absent : r ≡ false → word_behind word (drop at text) ≡ None
    absent f = ap (λ v. if v then Some (drop (length word) (drop at text)) else None) (sym is ∙ f)

-- a rule whose name isn't here is passed
pub passed : (text bs word : List ℕ) (k : ℕ) (found : Option ℕ) → k < length all_rules →
    word ≡ rule_text (get_or all_rules k Beta) →
    word_behind word bs ≡ option_map (λ to. drop to text) found → found ≡ None →
    front_rule_of (drop (k + 1) all_rules) bs ≡ front_rule_of (drop k all_rules) bs
passed text bs word k found b q e n = ap (λ k. front_rule_of (drop k all_rules) bs) next
    ∙ sym (ap (λ rs. front_rule_of rs bs) (drop-cons all_rules k Beta b)
    ∙ ap (λ found. first_of (option_map (λ (rest : List ℕ). (here, rest)) found)
    (front_rule_of (drop (suc k) all_rules) bs)) absent)
  where
    here : Rule
    here = get_or all_rules k Beta

    next : k + 1 ≡ suc k
    next = omega arith

    absent : word_behind (rule_text (get_or all_rules k Beta)) bs ≡ None
    absent = ap (λ word. word_behind word bs) (sym q) ∙ e ∙ ap (λ found. option_map (λ to. drop to text) found) n
