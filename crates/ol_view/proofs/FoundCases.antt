-- What is found of a text, case by case.
-- Used in crates above.
use Rattle.std.proofs.Common.{◌≡◌, ◌≢◌, ℕ, ◌+◌, ◌<◌, List, [], ◌++◌, length, ◌⊎◌, refl, sym, subst}
use Rattle.ol_net.specs.Nets.{NamedNet}
use Rattle.ol_net.specs.Pairs.{IsComplete, HasActive}
use Rattle.ol_rules.specs.declared.journal.NodeName.{NodeName}
use Rattle.ol_rules.specs.declared.journal.Entry.{Entry}
use Rattle.ol_view.specs.declared.answers.Check.{Check}
use Rattle.ol_view.specs.declared.answers.Check.TheVariants.{Complete, Run, BadText, NotARun}
use Rattle.ol_view.specs.declared.forms.Form.{Form}
use Rattle.ol_view.specs.Forms.{header_of, BeginsWithEntry}
use Rattle.ol_view.specs.Checks.{BeginsWithRun, HasNoLine, IsOtherwise, IsFound}
use Rattle.ol_view.specs.Checks as found

pub data FoundCase (net : NamedNet NodeName) (text : List ℕ) : Check → Type 0 where
  complete : {form : Form} {journal : List Entry} {waves : List ℕ} {last : NamedNet NodeName} →
      BeginsWithRun form net text journal waves last [] → IsComplete last →
      FoundCase net text Complete
  run : {form : Form} {journal : List Entry} {waves : List ℕ} {last : NamedNet NodeName} →
      BeginsWithRun form net text journal waves last [] → HasActive last →
      FoundCase net text (Run (length journal))
  no_header : ((form : Form) (rest : List ℕ) → text ≢ header_of form ++ rest) →
      FoundCase net text (BadText 1)
  bad_text : {form : Form} {journal : List Entry} {waves : List ℕ} {last : NamedNet NodeName}
      {rest : List ℕ} →
      BeginsWithRun form net text journal waves last rest → rest ≢ [] →
      (length journal ≡ 8000000) ⊎ HasNoLine form rest →
      FoundCase net text (BadText (length journal + 2))
  not_a_run : {form : Form} {journal : List Entry} {waves : List ℕ} {last : NamedNet NodeName}
      {rest : List ℕ} (entry : Entry) (wave : ℕ) (more : List ℕ) →
      BeginsWithRun form net text journal waves last rest → length journal < 8000000 →
      BeginsWithEntry form rest entry wave more →
      IsOtherwise form net journal waves last entry wave →
      FoundCase net text (NotARun (length journal + 2))

-- each case is found, and what is found is one of the cases
pub found_of : {net : NamedNet NodeName} {text : List ℕ} {check : Check} →
    FoundCase net text check → IsFound net text check
found_of (complete h c) = found.behind h (refl, c)
found_of (run h a) = found.behind h (refl, refl, a)
found_of (no_header n) = found.no_header n refl
found_of (bad_text h n l) = found.behind h (refl, n, l)
found_of (not_a_run entry wave more h l b o) = found.behind h (refl, l, entry, wave, more, b, o)

pub case_of : {net : NamedNet NodeName} {text : List ℕ} {check : Check} →
    IsFound net text check → FoundCase net text check
case_of {check = Complete} (found.no_header n e) = absurd (cc)
case_of {net} {text} {check = Complete} (found.behind {form} {journal} {waves} {last} h k) =
    complete (subst (λ rest. BeginsWithRun form net text journal waves last rest) k.0 h) k.1
case_of {check = Run m} (found.no_header n e) = absurd (cc)
case_of {net} {text} {check = Run m} (found.behind {form} {journal} {waves} {last} h k) =
    subst (λ m. FoundCase net text (Run m)) (sym k.0)
    (run (subst (λ rest. BeginsWithRun form net text journal waves last rest) k.1 h) k.2)
case_of {net} {text} {check = BadText line} (found.no_header n e) =
    subst (λ check. FoundCase net text check) (sym e) (no_header n)
case_of {net} {text} {check = BadText line} (found.behind h k) =
    subst (λ line. FoundCase net text (BadText line)) (sym k.0) (bad_text h k.1 k.2)
case_of {check = NotARun line} (found.no_header n e) = absurd (cc)
case_of {net} {text} {check = NotARun line} (found.behind h k) =
    subst (λ line. FoundCase net text (NotARun line)) (sym k.0) (not_a_run k.2 k.3 k.4 h k.1 k.5 k.6)
