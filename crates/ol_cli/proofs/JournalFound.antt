-- What is found of a journal against the net that the code has is found against the term's own net.
use Rattle.std.proofs.Common.{ℕ, List, [], ◌∷◌, ◌++◌, length}
use Rattle.ol_term.specs.declared.translations.Translation.{Translation}
use Rattle.ol_term.specs.Trees.{Tree}
use Rattle.ol_net.specs.Graph.{Graph}
use Rattle.ol_net.specs.Nets.{NamedNet, SameNet}
use Rattle.ol_net.specs.Numbered.{net_of}
use Rattle.ol_rules.specs.declared.journal.NodeName.{NodeName}
use Rattle.ol_rules.specs.declared.journal.NodeName.TheVariants.{Init}
use Rattle.ol_rules.specs.declared.journal.Entry.{Entry}
use Rattle.ol_rules.proofs.Relation.{same_sym}
use Rattle.ol_rules.proofs.Same.{complete_same, active_same}
use Rattle.ol_rules.proofs.UnderNames.{same_under}
use Rattle.ol_diamond.proofs.SameNets.{run_from_same}
use Rattle.ol_translate.specs.Translation.{translation_of}
use Rattle.ol_view.specs.declared.answers.Check.{Check}
use Rattle.ol_view.specs.declared.forms.Form.{Form}
use Rattle.ol_view.specs.declared.forms.Form.TheVariants.{One, Two}
use Rattle.ol_view.specs.Checks.{BeginsWithRun, IsRunTold, AreIdle, IsOtherwise, IsFound, OnlyIsFound}
use Rattle.ol_view.proofs.FoundCases.{FoundCase, found_of, case_of, complete, run, no_header, bad_text, not_a_run}
use Rattle.ol_view.specs.Checks as view
use Rattle.ol_cli.specs.Run.{start_net_of_term}
use Rattle.ol_cli.proofs.WavesKept.{waves_kept}

told_to : (form : Form) (N N' : NamedNet NodeName) → SameNet N N' →
    (journal : List Entry) (waves : List ℕ) (last : NamedNet NodeName) → IsRunTold form N journal waves last →
    (last' : NamedNet NodeName) × IsRunTold form N' journal waves last' × SameNet last last'
told_to One N N' same journal waves last h = run_from_same N N' last 0 journal same h
told_to Two N N' same journal waves last h =
    let r = run_from_same N N' last 0 journal same h.0 in
    (r.0, (r.1, waves_kept N N' last r.0 journal waves same r.2 h.1), r.2)

begins_to : (form : Form) (N N' : NamedNet NodeName) → SameNet N N' →
    (text : List ℕ) (journal : List Entry) (waves : List ℕ) (last : NamedNet NodeName)
    (rest : List ℕ) → BeginsWithRun form N text journal waves last rest →
    (last' : NamedNet NodeName) × BeginsWithRun form N' text journal waves last' rest × SameNet last last'
begins_to form N N' same text journal waves last rest b =
    let r = told_to form N N' same journal waves last b.run in
    (r.0, record { begins = b.begins; few = b.few; run = r.1 }, r.2)

idle_to : (N N' : NamedNet NodeName) → SameNet N N' → (f g : NodeName) → AreIdle N f g → AreIdle N' f g
idle_to N N' same f g idle r = (
  (λ a. (idle r).0 (active_same N' N (same_sym N N' same) f g r a)),
  (λ a. (idle r).1 (active_same N' N (same_sym N N' same) g f r a)),
)

otherwise_to : (form : Form) (N N' M M' : NamedNet NodeName) → SameNet N N' → SameNet M M' →
    (journal : List Entry) (waves : List ℕ) (entry : Entry) (wave : ℕ) →
    IsOtherwise form N journal waves M entry wave → IsOtherwise form N' journal waves M' entry wave
otherwise_to One N N' M M' same last journal waves entry wave h = idle_to M M' last entry.first entry.second h
otherwise_to Two N N' M M' same last journal waves entry wave h = λ next r.
    let b = told_to Two N' N (same_sym N N' same) (journal ++ entry ∷ []) (waves ++ wave ∷ []) next r in
    h b.0 b.1

case_to : (N N' : NamedNet NodeName) → SameNet N N' → (text : List ℕ) (v : Check) →
    FoundCase N text v → FoundCase N' text v
case_to N N' same text _ (complete {form = form} {journal = journal} {waves = waves} {last = last} b c) =
    let t = begins_to form N N' same text journal waves last [] b in
    complete {form = form} t.1 (complete_same last t.0 t.2 c)
case_to N N' same text _ (run {form = form} {journal = journal} {waves = waves} {last = last} b a) =
    let t = begins_to form N N' same text journal waves last [] b in
    run {form = form} t.1 (a.0, a.1, a.2, active_same last t.0 t.2 a.0 a.1 a.2 a.3)
case_to N N' same text _ (no_header n) = no_header n
case_to N N' same text _ (bad_text {form = form} {journal = journal} {waves = waves} {last = last}
    {rest = rest} b n h) =
    let t = begins_to form N N' same text journal waves last rest b in bad_text {form = form} t.1 n h
case_to N N' same text _ (not_a_run {form = form} {journal = journal} {waves = waves} {last = last}
    {rest = rest} entry wave more b l h i) =
    let t = begins_to form N N' same text journal waves last rest b in
    not_a_run {form = form} entry wave more t.1 l h
    (otherwise_to form N N' last t.0 same t.2 journal waves entry wave i)

found_to : (N N' : NamedNet NodeName) → SameNet N N' → (text : List ℕ) (v : Check) →
    IsFound N text v → IsFound N' text v
found_to N N' same text v h = found_of (case_to N N' same text v (case_of h))

pub own_found : (tr : Translation) (t : Tree) (names : List (List ℕ)) (net : Graph) →
    SameNet (net_of net) (translation_of tr t (length names)) → (text : List ℕ) (v : Check) →
    OnlyIsFound (view.start_net_of_graph net) text v → OnlyIsFound (start_net_of_term tr t names) text v
own_found tr t names net same text v only w =
    let here = same_under Init (net_of net) (translation_of tr t (length names)) same in
    let back = same_sym (view.start_net_of_graph net) (start_net_of_term tr t names) here in (
      (λ e. found_to (view.start_net_of_graph net) (start_net_of_term tr t names) here text w
          ((only w).0 e)),
      (λ k. (only w).1 (found_to (start_net_of_term tr t names)
          (view.start_net_of_graph net) back text w k)),
    )
