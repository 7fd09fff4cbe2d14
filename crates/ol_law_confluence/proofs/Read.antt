-- A line that is read as a term is the normal form of its source.
use Rattle.std.proofs.Common.{◌≡◌, ℕ, List, ◌∷◌, ◌++◌, Bool, true, refl, sym, ap, ◌∙◌, subst}
use Rattle.ol_term.specs.Trees.{Tree}
use Rattle.ol_parse.specs.Grammar.{Named}
use Rattle.ol_parse.specs.Texts.{IsLine, IsText}
use Rattle.ol_parse.specs.Numbered.{names_of, number}
use Rattle.ol_parse.proofs.Whole.{one_term}
use Rattle.ol_parse.proofs.Words.{names_good}
use Rattle.ol_readback.specs.Terms.{HasAllHeads, IsReadBack, AreAmong, term_of}
use Rattle.ol_readback.specs.Texts.{IsTextOf}
use Rattle.ol_readback.specs.declared.answers.ReadNode.{ReadNode}
use Rattle.ol_law_meaning.specs.Meaning.{SaysOf}
use Rattle.ol_law_confluence.specs.Reductions.{same}
use Rattle.ol_law_confluence.specs.Printed.{IsTheNormalForm, SaysAlways}
use Rattle.ol_law_confluence.specs.NormalForms.{IsNormalForm, IsNormalFormOf, HasNoNormalForm, by_names_of}
use Rattle.ol_law_confluence.proofs.Lines.{text_is_one_line, holes_are_no_text, question_is_lost}

-- a text whose first line is that of a tree of this source
pub record IsPrinted (source : Named) (lost_too : Bool) (text : List ℕ) : Type 0 where
  pub tree : List ReadNode
  pub line : List ℕ
  pub rest : List ℕ
  pub shown : IsTextOf (names_of source) tree line
  pub written : text ≡ line ++ 10 ∷ rest
  pub says : SaysOf (number source) lost_too tree
  pub always : SaysAlways says
  pub read : HasAllHeads tree → IsReadBack (names_of source) tree line

the_form : {t v : Tree} → IsTheNormalForm t v → IsNormalForm t v
the_form {t} f = record {
  leftmost = f.leftmost t same;
  is_normal = f.is_normal;
  every_reduct = f.every_reduct;
  only = f.only;
}

module _ {source : Named} {b : Bool} {text bytes : List ℕ} (is : IsText bytes source)
    (p : IsPrinted source b text) where
  pub one_line : IsLine p.line
  one_line = text_is_one_line (names_of source) p.tree p.line (names_good bytes source is) p.shown

  -- where each place has a head, the line is read as the tree's term
  pub read_line : HasAllHeads p.tree →
      (r : Named) × IsText p.line r × AreAmong (names_of source)
      (names_of r) × (by_names_of source r ≡ term_of p.says.tree)
  read_line h =
      let r = (p.read h p.says.tree p.says.is_list).0 in
      (r.named, r.text, r.free_names, r.is)

  pub line_is_normal_form : (result : Named) → IsText p.line result → IsNormalFormOf source result
  line_is_normal_form result i =
      let h =
      holes_are_no_text (names_of source) p.tree p.line (names_good bytes source is) p.shown
      result i in
      let r = (p.read h p.says.tree p.says.is_list).0 in
      let e = one_term p.line r.named result r.text i in (
        subst (λ (r : Named). AreAmong (names_of source) (names_of r)) e r.free_names,
        subst (λ (v : Tree). IsNormalForm (number source) v)
            (sym r.is ∙ ap (λ (r : Named). by_names_of source r) e)
            (the_form (p.always.whole h)),
      )

pub lost_has_no_normal_form : {source : Named} {text bytes : List ℕ} → IsText bytes source →
    (p : IsPrinted source true text) →
    (before after : List ℕ) → p.line ≡ before ++ 63 ∷ after → HasNoNormalForm source
lost_has_no_normal_form {source} {bytes = bytes} is p before after e u r n =
    p.always.lost refl
    (question_is_lost (names_of source) p.tree p.line (names_good bytes source is) p.shown before
    after e)
    (number source) same (record { form = u; reduces = r; is_normal = n })
