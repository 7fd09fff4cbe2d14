-- A net that is not too large is within the limit.
use Rattle.std.proofs.Common.{◌<◌, ◌≤◌, inl, inr, List, ℕ, refl, sym, subst, length}
use Rattle.std.proofs.lemmas.Bool.{cases_lt}
use Rattle.ol_net.specs.Graph.{Graph}
use Rattle.ol_term.specs.Trees.{Tree, tree_of}
use Rattle.ol_limits.specs.Limits.{most_nodes}
use Rattle.ol_translate.specs.Sizes.{size_of_translation}
use Rattle.ol_readback.specs.Texts.{AreNamed}
use Rattle.ol_derivations.specs.Reads.{HasTree, HasNoTree, IsNetOn}
use Rattle.ol_derivations.specs.StudentsSoFar.{IsReadOf, IsFound}
use Rattle.ol_derivations.specs.declared.reading.Bounds.{Bounds}
use Rattle.ol_derivations.specs.declared.reading.Found.{Found}
use Rattle.ol_derivations.specs.declared.reading.Found.TheVariants as found
use Rattle.ol_derivations.proofs.reading.read_file.Goals as goal

-- what is read of the net of an application is read of the application
found_on : (bounds : Bounds) (function line : List ℕ) (names : List (List ℕ)) (g : Graph) (r : Found) →
    IsNetOn bounds function line names g → IsReadOf g names bounds r → IsFound bounds function line r
found_on bounds function line names g (found.Tree seen) net h =
    subst (λ names. IsNetOn bounds function line names g → HasTree bounds function line seen) h.0
    (λ net. record {
      net = g;
      last = h.2;
      journal = h.3;
      of = net;
      read = h.4;
      named = subst (λ names. AreNamed (length names) seen.tree) (sym h.0) h.1;
    }) net
found_on bounds function line names g (found.Without lack) net h =
    subst (HasNoTree bounds function line) (sym h.0) (HasNoTree.spent net h.1)

small : (bounds : Bounds) (t : Tree) → (most_nodes < size_of_translation bounds.translation t → ⊥) →
    size_of_translation bounds.translation t ≤ most_nodes
small bounds t never = elim (cases_lt most_nodes (size_of_translation bounds.translation t)) [
  | inl past ↦ absurd (never past)
  | inr few ↦ few
]

pub returns-in-Ok : goal.returns-in-Ok
returns-in-Ok c function line h =
    let t = tree_of c.args.file.term in
    let n = c.in-Ok.ensures in
    let few = small c.args.bounds t (λ past. let e = (c.in-Ok.ensures.too_many (λ e. absurd (cc))).1 past in absurd (cc)) in
    found_on c.args.bounds function line c.args.file.names c.in-Ok.net c.in_ok-found-in-Ok.found
    (record {
      term = t;
      applied = h;
      shallow = c.requires.shallow;
      small = few;
      net = record { same = n.net; numbers = n.numbers };
    }) c.in_ok-found-in-Ok.ensures

pub returns : goal.returns
returns c function line h =
    let past = (c.in-Err.ensures.too_many (λ e. absurd (cc))).0 (rw c.in-TooMany.is refl) in
    HasNoTree.large h c.requires.shallow past
