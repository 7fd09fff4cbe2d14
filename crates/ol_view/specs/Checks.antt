-- What is found of a text against a net: its lines are tried in order, and the first bad one
-- decides.
use Rattle.std.specs.Prelude.{◌≡◌, ◌≢◌, ℕ, ◌+◌, ◌≤◌, ◌<◌, List, [], ◌∷◌, ◌++◌, length, ◌⊎◌, ◌↔◌}
use Rattle.ol_net.specs.Graph.{Graph}
use Rattle.ol_net.specs.Nets.{NamedNet, net_under}
use Rattle.ol_net.specs.Numbered.{net_of}
use Rattle.ol_net.specs.Pairs.{IsComplete, HasActive}
use Rattle.ol_rules.specs.declared.journal.NodeName.{NodeName}
use Rattle.ol_rules.specs.declared.journal.NodeName.TheVariants.{Init}
use Rattle.ol_rules.specs.declared.journal.Entry.{Entry}
use Rattle.ol_rules.specs.Runs.{IsRun}
pub use Rattle.ol_diamond.specs.Replaying.{AreIdle}
use Rattle.ol_diamond.specs.Waves.{AreWaves}
use Rattle.ol_view.specs.declared.answers.Check.{Check}
use Rattle.ol_view.specs.declared.answers.Check.TheVariants.{Complete, Run, BadText, NotARun}
use Rattle.ol_view.specs.declared.forms.Form.{Form}
use Rattle.ol_view.specs.declared.forms.Form.TheVariants.{One, Two}
use Rattle.ol_view.specs.Forms.{header_of, text_of, BeginsWithEntry}
use Rattle.ol_limits.specs.Limits.{most_fuel}

-- the net whose nodes are named by their numbers
abbrev pub start_net_of_graph : Graph → NamedNet NodeName
start_net_of_graph g = net_under Init (net_of g)

-- What a text of this form tells of a run from one net to the other: the first form its entries,
-- the second their waves too.
abbrev pub IsRunTold : Form → NamedNet NodeName → List Entry → List ℕ → NamedNet NodeName → Type 0
IsRunTold One net journal waves last = IsRun net 0 journal last
IsRunTold Two net journal waves last = IsRun net 0 journal last × AreWaves net journal last waves

-- The first lines of the text are the trace of a run of at most 8,000,000 entries, which leads from
-- one net to the other; this follows them.
pub record BeginsWithRun (form : Form) (net : NamedNet NodeName) (text : List ℕ)
    (journal : List Entry) (waves : List ℕ) (last : NamedNet NodeName) (rest : List ℕ)
    : Type 0 where
  pub begins : text ≡ text_of form journal waves ++ rest
  pub few : length journal ≤ most_fuel
  pub run : IsRunTold form net journal waves last

-- there is no line of the grammar here
abbrev pub HasNoLine : Form → List ℕ → Type 0
HasNoLine form text =
    (entry : Entry) (wave : ℕ) (rest : List ℕ) → BeginsWithEntry form text entry wave rest → ⊥

-- The run so far, which led to this last net, doesn't go on with what the line of this entry tells:
-- its pair isn't active or, in the second form, its rule or its wave isn't the entry's own.
abbrev pub IsOtherwise : Form → NamedNet NodeName → List Entry → List ℕ →
    NamedNet NodeName → Entry → ℕ → Type 0
IsOtherwise One net journal waves last entry wave = AreIdle last entry.first entry.second
IsOtherwise Two net journal waves last entry wave = (next : NamedNet NodeName) →
    IsRunTold Two net (journal ++ entry ∷ []) (waves ++ wave ∷ []) next → ⊥

-- What is found behind the run so far. Nothing follows it: it is complete, or it goes on. No line of the grammar does,
-- or there are as many as may be. Or a line does that the run doesn't go on with. Lines are numbered from 1, and the
-- line of entry k, from 0, is line k + 2.
abbrev pub IsFoundBehind : Form → NamedNet NodeName → List Entry → List ℕ → NamedNet NodeName →
    List ℕ → Check → Type 0
IsFoundBehind form net journal waves last rest Complete = (rest ≡ []) × IsComplete last
IsFoundBehind form net journal waves last rest (Run k) =
    (k ≡ length journal) × (rest ≡ []) × HasActive last
IsFoundBehind form net journal waves last rest (BadText line) = (line ≡ length journal + 2)
    × (rest ≢ []) × ((length journal ≡ most_fuel) ⊎ HasNoLine form rest)
IsFoundBehind form net journal waves last rest (NotARun line) = (line ≡ length journal + 2)
    × (length journal < most_fuel) × (entry : Entry) × (wave : ℕ) × (more : List ℕ)
    × BeginsWithEntry form rest entry wave more × IsOtherwise form net journal waves last entry wave

-- what is found of the text: no first line of either form, or what is found behind a run that it begins with
pub data IsFound (net : NamedNet NodeName) (text : List ℕ) (check : Check) : Type 0 where
  no_header : ((form : Form) (rest : List ℕ) → text ≢ header_of form ++ rest) →
      check ≡ BadText 1 → IsFound net text check
  behind : {form : Form} {journal : List Entry} {waves : List ℕ} {last : NamedNet NodeName}
      {rest : List ℕ} → BeginsWithRun form net text journal waves last rest →
      IsFoundBehind form net journal waves last rest check → IsFound net text check

-- this is found, and nothing else
abbrev pub OnlyIsFound : NamedNet NodeName → List ℕ → Check → Type 0
OnlyIsFound net text check = (found : Check) → (check ≡ found) ↔ IsFound net text found

-- Where the text is the trace, in either form, of a run of at most 8,000,000 entries, this is
-- found: Complete where no pair is active after it, else Run with its length.
abbrev pub IsReadAgain : NamedNet NodeName → List ℕ → Check → Type 0
IsReadAgain net text found =
    (form : Form) (journal : List Entry) (waves : List ℕ) (last : NamedNet NodeName) →
    length journal ≤ most_fuel → IsRunTold form net journal waves last →
    text ≡ text_of form journal waves →
    (IsComplete last → found ≡ Complete) × ((IsComplete last → ⊥) → found ≡ Run (length journal))
