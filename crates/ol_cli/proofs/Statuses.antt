-- The statuses of what a command answers to a term: done, or spent.
use Rattle.std.proofs.Common.{◌≡◌, ℕ, List, inl, inr, ◌⊎◌, refl}
use Rattle.ol_net.specs.Nets.{NamedNet}
use Rattle.ol_rules.specs.declared.journal.Entry.{Entry}
use Rattle.ol_rules.specs.declared.journal.NodeName.{NodeName}
use Rattle.ol_cli.specs.Run.{EndsBy}
use Rattle.ol_cli.specs.Shapes.{OnlyDone, DoneOrSpent}
use Rattle.ol_cli.specs.declared.status.Status.{Status}
use Rattle.ol_cli.specs.declared.status.Status.TheVariants.{Done, Spent}

abbrev pub IsOfTerm : Status → Type 0
IsOfTerm Done = Unit {0}
IsOfTerm Spent = Unit {0}
IsOfTerm _ = ⊥

pub settled : (st : Status) → IsOfTerm st → (st ≡ Done) ⊎ (st ≡ Spent)
settled Done h = inl refl
settled Spent h = inr refl
settled _ h = absurd h

pub done_status : (P : List ℕ → Type 0) (st : Status) (text : List ℕ) → OnlyDone P st text → IsOfTerm st
done_status P Done text h = tt
done_status P Spent text h = absurd h
done_status P _ text h = h

pub spent_status : (P R : List ℕ → Type 0) (st : Status) (text : List ℕ) → DoneOrSpent P R st text → IsOfTerm st
spent_status P R Done text h = tt
spent_status P R Spent text h = tt
spent_status P R _ text h = h

pub ended_status : (fuel : ℕ) (journal : List Entry) (net : NamedNet NodeName) (st : Status) →
    EndsBy fuel journal net st → IsOfTerm st
ended_status fuel journal net Done h = tt
ended_status fuel journal net Spent h = tt
ended_status fuel journal net _ h = h
