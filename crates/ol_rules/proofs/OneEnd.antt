-- Steps of one net by the two nodes of an entry leave one net, whichever of the two acts, and so do runs.
-- Used in crates above.
use Rattle.std.proofs.Common.{◌≡◌, ℕ, suc, List, [], ◌∷◌, refl}
use Rattle.ol_net.specs.Nets.{NamedNet, IsNet, SameNet}
use Rattle.ol_rules.specs.declared.journal.NodeName.{NodeName}
use Rattle.ol_rules.specs.declared.journal.NodeName.TheVariants.{Born}
use Rattle.ol_rules.specs.declared.journal.Entry.{Entry}
use Rattle.ol_rules.specs.Rewriting.{action_of}
use Rattle.ol_rules.specs.Runs.{IsEntryStep, IsRun}
use Rattle.ol_rules.specs.Laws.{AreNamedBefore}
use Rattle.ol_rules.proofs.OneRun.{ArePaired, one_pair, name_same, name_test, fresh_names, named_after, step_either}
use Rattle.ol_rules.proofs.Relation.{net_kept}

module _ (M N P Q : NamedNet NodeName) (t : ℕ) (e e' : Entry) (n : IsNet M) (b : AreNamedBefore M t)
    (m : SameNet M N) (s : IsEntryStep M t e P) where
  -- entries of the same names are of one pair, and lead to one net
  pub one_entry_pair : e.first ≡ e'.first → e.second ≡ e'.second → (s' : IsEntryStep N t e' Q) →
      ArePaired s.f s.g s'.f s'.g
  one_entry_pair i j s' = one_pair e e' s.f s.g s'.f s'.g i j s.named s'.named

  pub one_entry_step : e.first ≡ e'.first → e.second ≡ e'.second → IsEntryStep N t e' Q → SameNet P Q
  one_entry_step i j s' = step_either (λ place.
      Born t place) M N P Q s.f s.g s'.f s'.g e.rule e'.rule n m (one_entry_pair i j s') s.step s'.step

  pub step_net : IsNet P
  step_net = let a = s.step.active in net_kept name_same name_test
      (λ place. Born t place) M s.f s.g a.k a.i a.l a.j e.rule n a.faces (fresh_names M t b) a.fits P s.step.rewrites

  pub step_before : AreNamedBefore P (suc t)
  step_before = let a = s.step.active in named_after M P t s.f s.g a.k a.i a.l (action_of e.rule a.j) b s.step.rewrites

-- runs of one net along one journal leave one net
pub one_end : (M N P Q : NamedNet NodeName) (t : ℕ) (es : List Entry) → IsNet M →
    AreNamedBefore M t → SameNet M N → IsRun M t es P → IsRun N t es Q → SameNet P Q
one_end M N P Q t [] n b m IsRun.end IsRun.end = m
one_end M N P Q t (e ∷ es) n b m (IsRun.then {M = K} s r) (IsRun.then {M = L} s' r') =
    one_end K L P Q (suc t) es (step_net M N K L t e e n b m s) (step_before M N K L t e e n b m s)
    (one_entry_step M N K L t e e n b m s refl refl s') r r'
