-- What is said of the other translation.
use Rattle.std.proofs.Common.{◌≡◌, ℕ, List, [], refl, sym, subst}
use Rattle.ol_term.specs.declared.translations.Translation.{Translation}
use Rattle.ol_subjects.specs.declared.answers.End.{End}
use Rattle.ol_subjects.specs.declared.answers.End.TheVariants as end
use Rattle.ol_subjects.specs.declared.subjects.Subject.{Subject}
use Rattle.ol_subjects.specs.declared.subjects.Subject.TheVariants.{Term, Net}
use Rattle.ol_explain.specs.declared.tallying.Finding.{Finding}
use Rattle.ol_explain.specs.Others.{other_of, run_line, TellsOther, of_net, tried}
use Rattle.ol_explain.specs.Tallies.{IsChecked}

module _ (bytes journal : List ℕ) (e : End) where
  -- a file that has no term
  pub no_term : (subject : Subject) → ((t : Translation) → subject ≡ Term t → ⊥) →
      TellsOther bytes journal subject e []
  no_term (Term t) f = absurd (f t refl)
  no_term Net f = of_net

  pub tells : (subject : Subject) (t o : Translation) (f : Finding) → subject ≡ Term t → o ≡ other_of t →
      e ≡ end.NotARun → IsChecked bytes journal (Term o) f → TellsOther bytes journal subject e (run_line o f)
  tells subject t o f s q r c =
      subst (λ s. TellsOther bytes journal s e (run_line o f)) (sym s)
      (subst (λ e. TellsOther bytes journal (Term t) e (run_line o f)) (sym r)
      (subst (λ o. TellsOther bytes journal (Term t) end.NotARun (run_line o f)) (sym q)
      (tried (subst (λ o. IsChecked bytes journal (Term o) f) q c))))
