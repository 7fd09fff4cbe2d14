-- What follows from the cause of an answer to one file, whatever the file is read for.
use Rattle.std.proofs.Common.{◌≡◌, ℕ, ◌<◌, true, List, length, Option, Some, sym, subst, arith}
use Rattle.ol_io.specs.Outside.{Rose, IsAllOf, IsLonger}
use Rattle.ol_words.specs.Texts.{Text}
use Rattle.ol_cli.specs.declared.status.Status.{Status}
use Rattle.ol_cli.specs.declared.status.Status.TheVariants.{Done, Usage, ReadFault, WriteFault, NoMemory, Limit}
use Rattle.ol_cli.specs.Answers.{Seen}
use Rattle.ol_cli.specs.Cases.{CauseOf, failed, past, given}

-- the statuses that an answer has
abbrev pub IsTold : Status → Type 0
IsTold Usage = ⊥
IsTold WriteFault = ⊥
IsTold NoMemory = ⊥
IsTold _ = Unit {0}

-- what was read is what is told
pub same_read : (contents : Option (List ℕ)) (read told : List ℕ) → contents ≡ Some told →
    IsAllOf contents read → read ≡ told
same_read contents read told e w = subst (λ k. IsAllOf k read) e w

past_told : (contents : Option (List ℕ)) (told : List ℕ) (most : ℕ) → contents ≡ Some told →
    IsLonger contents most → most < length told
past_told contents told most e l = subst (λ k. IsLonger k most) e l

module _ (s : Seen) (most : ℕ) (limit : List ℕ) (name : Text) where
  -- another answer to the same bytes
  pub cause_map : (A B : List ℕ → Status → List ℕ → Type 0) (st : Status) (text : List ℕ) →
      ((bytes : List ℕ) → A bytes st text → B bytes st text) →
      CauseOf s most limit name A st text → CauseOf s most limit name B st text
  cause_map A B st text f (failed rose is e) = failed rose is e
  cause_map A B st text f (past same gave is e) = past same gave is e
  cause_map A B st text f (given same {bytes = bytes} gave h) = given same gave (f bytes h)

  module _ (A : List ℕ → Status → List ℕ → Type 0) (text : List ℕ) where
    -- where nothing failed and the bytes are told, it is the answer to them
    pub told_answer : (Rose s.faults s.faults' → ⊥) → (bytes : List ℕ) →
        s.contents 0 name ≡ Some bytes → (st : Status) →
        (most < length bytes → st ≡ Limit → text ≡ limit → A bytes st text) →
        CauseOf s most limit name A st text → A bytes st text
    told_answer quiet bytes told st long (failed rose is e) = absurd (quiet rose)
    told_answer quiet bytes told st long (past same gave is e) =
        long (past_told (s.contents 0 name) bytes most told gave.longer) is e
    told_answer quiet bytes told st long (given same {bytes = read} gave h) =
        subst (λ b. A b st text) (same_read (s.contents 0 name) read bytes told gave.whole) h

    -- its status is one of an answer, if those of what is answered to bytes are
    pub cause_told : (st : Status) → ((bytes : List ℕ) → A bytes st text → IsTold st) →
        CauseOf s most limit name A st text → IsTold st
    cause_told st all (failed rose is e) = subst IsTold (sym is) tt
    cause_told st all (past same gave is e) = subst IsTold (sym is) tt
    cause_told st all (given same {bytes = bytes} gave h) = all bytes h

    -- a fault that has risen is told, and one that is told has risen, if no bytes are answered so
    pub cause_risen : (st : Status) → s.faults < s.faults' →
        CauseOf s most limit name A st text → st ≡ ReadFault
    cause_risen st h (failed rose is e) = is
    cause_risen st h (past same gave is e) = absurd (omega (arith, same))
    cause_risen st h (given same gave k) = absurd (omega (arith, same))

    pub cause_rose : ((bytes : List ℕ) → A bytes ReadFault text → ⊥) →
        CauseOf s most limit name A ReadFault text → Rose s.faults s.faults'
    cause_rose none (failed rose is e) = rose
    cause_rose none (past same gave is e) = absurd (cc)
    cause_rose none (given same {bytes = bytes} gave h) = absurd (none bytes h)

    -- what was done came to the end of its input
    pub cause_ended : CauseOf s most limit name A Done text → s.ended ≡ true
    cause_ended (failed rose is e) = absurd (cc)
    cause_ended (past same gave is e) = absurd (cc)
    cause_ended (given same gave h) = gave.to_end
