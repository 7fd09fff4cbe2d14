-- Vicious circles (Lafont, Interaction Nets, POPL 1990): rings of principal ports, none of whose nodes is ever rewritten.
use Rattle.std.specs.Prelude.{ℕ, suc, ◌<◌, List}
use Rattle.ol_net.specs.declared.parts.Kind.{Kind}
use Rattle.ol_net.specs.Nets.{NamedNet, NamedPort, slot, HasNode, Linked, IsNet, SameNet, net_under}
use Rattle.ol_net.specs.Parts.{arity}
use Rattle.ol_rules.specs.Runs.{IsRun}
use Rattle.ol_rules.specs.declared.journal.Entry.{Entry}
use Rattle.ol_rules.specs.declared.journal.NodeName.{NodeName}
use Rattle.ol_rules.specs.declared.journal.NodeName.TheVariants.{Init}
use Rattle.ol_term.specs.Trees.{Tree}
use Rattle.ol_term.specs.declared.translations.Translation.{Translation}
use Rattle.ol_translate.specs.Names.{HasNames}
use Rattle.ol_translate.specs.Translation.{translation_of}

-- from one port down through nodes, one at least, each from its slot 0 to another slot
pub data Descends {A : Type 0} (N : NamedNet A) (p : NamedPort A) : NamedPort A → Type 0 where
  first : {x : A} {s : ℕ} (k : Kind) (i : ℕ) → Linked N p (slot x 0) → HasNode N x k i →
      s < arity k → Descends N p (slot x (suc s))
  next : {q : NamedPort A} {x : A} {s : ℕ} (k : Kind) (i : ℕ) → Descends N p q →
      Linked N q (slot x 0) → HasNode N x k i → s < arity k → Descends N p (slot x (suc s))

-- no port leads down to itself
abbrev pub HasNoRing : {A : Type 0} → NamedNet A → Type 0
HasNoRing {A} N = (p : NamedPort A) → Descends N p p → ⊥

-- No run from the net of a term, in any listing, of any pairs in any order, by either translation, leads to a ring.
abbrev pub TermHasNoRing : Type 0
TermHasNoRing = (τ : Translation) (t : Tree) (names : ℕ) → HasNames t names →
    (K : NamedNet ℕ) → IsNet K → SameNet K (translation_of τ t names) →
    (journal : List Entry) (M : NamedNet NodeName) →
    IsRun (net_under Init K) 0 journal M → HasNoRing M
