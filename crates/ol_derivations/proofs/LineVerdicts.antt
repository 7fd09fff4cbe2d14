-- What is said of a line.
use Rattle.std.proofs.Common.{◌≡◌, ℕ, Bool, true, false, List, [], Option, Some, None, sym, subst}
use Rattle.std.specs.Prelude.{◌<◌, is_some}
use Rattle.ol_term.specs.Trees.{Tree, term_size}
use Rattle.ol_derivations.specs.StepsFound.{IsLeft}
use Rattle.ol_derivations.specs.Lines.{is_left_out}
use Rattle.ol_term.specs.NameLists.{with_names, in_table}
use Rattle.ol_derivations.specs.Verdicts.{IsVerdict, is_fine, verdict_words}
use Rattle.ol_derivations.specs.Derivations.{Terms, IsTermLine, IsNoTermLine, IsTold, IsLine, line_text, with_term}
use Rattle.ol_derivations.specs.Derivations.{first, behind, left_out, no_term, term}
use Rattle.ol_derivations.specs.declared.judging.Verdict.{Verdict}

module _ (n : ℕ) (text : List ℕ) (fine : Bool) where
  pub told_first : (t : Tree) (last : Option (ℕ × Tree)) → last ≡ None → text ≡ [] → fine ≡ true →
      IsTold n t last text fine
  told_first t last l e f = subst (λ last. IsTold n t last text fine) (sym l)
      (subst (λ text. IsTold n t None text fine) (sym e) (subst (λ fine. IsTold n t None [] fine) (sym f) first))

  pub told_behind : (t s : Tree) (m : ℕ) (last : Option (ℕ × Tree)) (v : Verdict) → last ≡ Some (m, s) →
      IsVerdict s t v → text ≡ line_text n (verdict_words m v) → fine ≡ is_fine v → IsTold n t last text fine
  told_behind t s m last v l is e f = subst (λ last. IsTold n t last text fine) (sym l)
      (subst (λ text. IsTold n t (Some (m, s)) text fine) (sym e)
      (subst (λ fine. IsTold n t (Some (m, s)) (line_text n (verdict_words m v)) fine) (sym f) (behind v is)))

  pub line_left_out : (line : List ℕ) (terms : Terms) → is_left_out line ≡ true → text ≡ [] → fine ≡ true →
      IsLine n line terms terms text fine
  line_left_out line terms out e f = subst (λ text. IsLine n line terms terms text fine) (sym e)
      (subst (λ fine. IsLine n line terms terms [] fine) (sym f) (left_out out))

  pub line_no_term : (line words : List ℕ) (terms : Terms) → is_left_out line ≡ false → IsNoTermLine line words →
      text ≡ line_text n words → fine ≡ false → IsLine n line terms terms text fine
  line_no_term line words terms out why e f = subst (λ text. IsLine n line terms terms text fine) (sym e)
      (subst (λ fine. IsLine n line terms terms (line_text n words) fine) (sym f) (no_term out why))

  pub line_term : (line : List ℕ) (terms after : Terms) (t : Tree) (names : List (List ℕ)) →
      is_left_out line ≡ false → IsTermLine line t names → after ≡ with_term terms n t names →
      IsTold n (in_table (with_names terms.table names) names t) terms.last text fine →
      IsLine n line terms after text fine
  line_term line terms after t names out is e told =
      subst (λ after. IsLine n line terms after text fine) (sym e) (term out is told)

-- ---- lines without a term

pub told_so : (line words text : List ℕ) → text ≡ words → IsNoTermLine line words → IsNoTermLine line text
told_so line words text e h = subst (IsNoTermLine line) (sym e) h

pub too_large : (most : ℕ) (t : Tree) (o : Option ℕ) → IsLeft most t o → is_some o ≡ false → most < term_size t
too_large most t None h e = h
too_large most t (Some left) h e = absurd (cc)
