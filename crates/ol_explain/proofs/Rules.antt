-- Which rules' names begin so.
use Rattle.std.proofs.Common.{◌≡◌, ◌≢◌, ℕ, ◌+◌, ◌<◌, ◌≤◌, List, [], ◌∷◌, ◌++◌, length, drop, get_or, ◌⊎◌, inl, inr}
use Rattle.std.proofs.Common.{sym, subst}
use Rattle.std.proofs.lemmas.List.{drop_more, drop_all}
use Rattle.ol_net.specs.declared.parts.Rule.{Rule}
use Rattle.ol_net.specs.declared.parts.Rule.TheVariants as rule
use Rattle.ol_view.specs.RuleNames.{rule_text}
use Rattle.ol_view.specs.LineReading.{all_rules}
use Rattle.ol_explain.specs.declared.wanting.Field.TheVariants as field
use Rattle.ol_explain.specs.Fields.{Begins}

abbrev pub OneBegins : List Rule → List ℕ → Type 0
OneBegins [] read = ⊥
OneBegins (r ∷ rs) read = ((more : List ℕ) × (rule_text r ≡ read ++ more)) ⊎ OneBegins rs read

which : (read more : List ℕ) → (r : Rule) × (read ++ more ≡ rule_text r) → OneBegins all_rules read
which read more (rule.Beta, e) = inl (more, sym e)
which read more (rule.Fan, e) = inr (inl (more, sym e))
which read more (rule.Croissant, e) = inr (inr (inl (more, sym e)))
which read more (rule.Bracket, e) = inr (inr (inr (inl (more, sym e))))
which read more (rule.CrossFan, e) = inr (inr (inr (inr (inl (more, sym e)))))
which read more (rule.CrossCroissant, e) = inr (inr (inr (inr (inr (inl (more, sym e))))))
which read more (rule.CrossBracket, e) = inr (inr (inr (inr (inr (inr (inl (more, sym e)))))))
which read more (rule.Erase, e) = inr (inr (inr (inr (inr (inr (inr (inl (more, sym e))))))))

pub is_one : (read : List ℕ) → Begins field.Rule read → OneBegins all_rules read
is_one read (more, h) = which read more h

pub passes : (read : List ℕ) (k : ℕ) → k < length all_rules →
    ((more : List ℕ) → rule_text (get_or all_rules k rule.Beta) ≢ read ++ more) →
    OneBegins (drop k all_rules) read → OneBegins (drop (k + 1) all_rules) read
passes read k l other h = go (subst (λ rs. OneBegins rs read) (drop_more all_rules k rule.Beta l) h)
  where
    go : OneBegins (get_or all_rules k rule.Beta ∷ drop (k + 1) all_rules) read → OneBegins (drop (k + 1) all_rules) read
    go (inl (more, e)) = absurd (other more e)
    go (inr o) = o

pub none_left : (read : List ℕ) (k : ℕ) → length all_rules ≤ k → OneBegins (drop k all_rules) read → ⊥
none_left read k l h = subst (λ rs. OneBegins rs read) (drop_all k all_rules l) h
