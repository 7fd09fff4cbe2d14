-- A loop over the rows that only runs of a net have: one row more.
use Rattle.std.proofs.Common.{◌≡◌, ℕ, ◌+◌, ◌<◌, List, ◌++◌, length, drop, get_or, sym, ap, ◌∙◌}
use Rattle.std.specs.List.{flat_map}
use Rattle.std.proofs.lemmas.List.{drop_more, append_assoc}
use Rattle.ol_counts.specs.declared.tables.Row.{Row}

pub row_on : (f : Row → List ℕ) (rows : List Row) (i : ℕ) (d : Row) (text text' whole : List ℕ) → i < length rows →
    text ++ flat_map f (drop i rows) ≡ whole → text' ≡ text ++ f (get_or rows i d) →
    text' ++ flat_map f (drop (i + 1) rows) ≡ whole
row_on f rows i d text text' whole l h e =
    ap (λ (t : List ℕ). t ++ flat_map f (drop (i + 1) rows)) e
    ∙ append_assoc text (f (get_or rows i d)) (flat_map f (drop (i + 1) rows))
    ∙ ap (λ (t : List ℕ). text ++ t) (sym (ap (flat_map f) (drop_more rows i d l))) ∙ h
