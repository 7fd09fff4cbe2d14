-- The laws of a step, and of the one-thread run.
use Rattle.std.specs.Prelude.{◌≡◌, ◌≢◌, ℕ, Bool, true, List}
use Rattle.ol_law_edges.specs.Edges.{IsTest}
use Rattle.ol_net.specs.declared.parts.Kind.{Kind}
use Rattle.ol_net.specs.declared.parts.Rule.{Rule}
use Rattle.ol_net.specs.Nets.{NamedNet, HasNode, IsNet, SameNet}
use Rattle.ol_net.specs.Pairs.{IsActive, IsComplete, HasActive}
use Rattle.ol_rules.specs.declared.journal.NodeName.{NodeName}
use Rattle.ol_rules.specs.declared.journal.NodeName.TheVariants.{Born}
use Rattle.ol_rules.specs.declared.journal.Entry.{Entry}
use Rattle.ol_rules.specs.Names.{comes_before}
use Rattle.ol_rules.specs.Contracting.{IsCounted, IsContracted, joins_by}
use Rattle.ol_rules.specs.Rewriting.{Action, Rewrites, IsStep}
use Rattle.ol_rules.specs.Runs.{IsOneThread}

-- names for the nodes born: each once, and none that is there already
pub record IsFresh {A : Type 0} (N : NamedNet A) (born : ℕ → A) : Type 0 where
  pub apart : (m n : ℕ) → born m ≡ born n → m ≡ n
  pub unused : (x : A) (m : Kind) (n p : ℕ) → HasNode N x m n → x ≢ born p

-- A rewrite of a net is a rewrite of the same net, however its lists are ordered.
abbrev pub RewritesSame : Type 0 → Type 0
RewritesSame A = (born : ℕ → A) (M N P : NamedNet A) (f g : A) (k : Kind) (i : ℕ) (l : Kind) (a : Action) →
    SameNet M N → Rewrites born M f g k i l a P → Rewrites born N f g k i l a P

-- What a rewrite leaves is one net.
abbrev pub OneResult : Type 0 → Type 0
OneResult A = (born : ℕ → A) (N P Q : NamedNet A) (f g : A) (k : Kind) (i : ℕ) (l : Kind) (a : Action) →
    Rewrites born N f g k i l a P → Rewrites born N f g k i l a Q → SameNet P Q

-- Two steps of one net by one pair are by one rule and leave one net.
abbrev pub StepIsOne : Type 0 → Type 0
StepIsOne A = (born : ℕ → A) (M N P Q : NamedNet A) (f g : A) (r s : Rule) →
    IsNet M → SameNet M N → IsStep born M f g r P → IsStep born N f g s Q → (r ≡ s) × SameNet P Q

-- A step of a net leaves a net.
abbrev pub StepKeepsNet : Type 0 → Type 0
StepKeepsNet A = (same : A → A → Bool) → IsTest same → (born : ℕ → A) (N M : NamedNet A) (f g : A) (r : Rule) →
    IsNet N → IsFresh N born → IsStep born N f g r M → IsNet M

-- What a step links is what is left where the slots of its two nodes are taken out, one by one, in
-- a net whose list has each link once.
abbrev pub StepIsContraction : Type 0 → Type 0
StepIsContraction A = (same : A → A → Bool) → IsTest same → (born : ℕ → A) (N M : NamedNet A) (f g : A) (r : Rule) →
    IsCounted same N → IsFresh N born → (s : IsStep born N f g r M) →
    IsContracted same born N f g s.active.k s.active.l (joins_by f g r s.active.k s.active.l) M

-- Each net is the same as one whose list has each link once.
abbrev pub EachIsListed : Type 0 → Type 0
EachIsListed A = (same : A → A → Bool) → IsTest same → (N : NamedNet A) → IsNet N →
    (L : NamedNet A) × IsCounted same L × SameNet N L

-- There is a net after a step of each active pair.
abbrev pub StepExists : Type 0 → Type 0
StepExists A = (same : A → A → Bool) → IsTest same → (born : ℕ → A) (N : NamedNet A) (f g : A) (r : Rule) →
    IsNet N → IsFresh N born → IsActive N f g r → (M : NamedNet A) × IsStep born N f g r M

-- Each node was there at the start, or a ticket before this one made it.
abbrev pub AreNamedBefore : NamedNet NodeName → ℕ → Type 0
AreNamedBefore N ticket = (x : NodeName) (k : Kind) (i : ℕ) → HasNode N x k i → comes_before x (Born ticket 0) ≡ true

-- A net of start nodes has one one-thread run for each fuel, however its lists are ordered: one
-- journal, which leads to one net.
abbrev pub OneThreadIsOne : Type 0
OneThreadIsOne = (M N P Q : NamedNet NodeName) (fuel : ℕ) (journal journal' : List Entry) →
    IsNet M → AreNamedBefore M 0 → SameNet M N → IsOneThread M fuel journal P →
    IsOneThread N fuel journal' Q → (journal ≡ journal') × SameNet P Q

-- So it doesn't both end and go on.
abbrev pub EndsOrGoesOn : Type 0
EndsOrGoesOn = (M N P Q : NamedNet NodeName) (fuel : ℕ) (journal journal' : List Entry) →
    IsNet M → AreNamedBefore M 0 → SameNet M N → IsOneThread M fuel journal P →
    IsOneThread N fuel journal' Q → IsComplete P → HasActive Q → ⊥
