-- The laws of contexts, crossings and walks.
use Rattle.std.specs.Prelude.{◌≡◌, ℕ, suc, ◌+◌, ◌<◌, ◌↔◌, Some}
use Rattle.ol_net.specs.declared.parts.Kind.{Kind}
use Rattle.ol_net.specs.Parts.{arity}
use Rattle.ol_net.specs.Nets.{NamedNet, NamedPort, free, IsNet}
use Rattle.ol_context.specs.Contexts.{Context, at_level, up, shift, IsCrosser}
use Rattle.ol_context.specs.Table.{down}
use Rattle.ol_context.specs.Paths.{Crosses, Through, Path, crossings}

-- going through g at its later level and then through f is going through f and then through g at its shifted level
abbrev pub ContextsCommute : Type 0
ContextsCommute = (f : Kind) (p : ℕ) → IsCrosser f → (i j : ℕ) (g : Context → Context) (c : Context) →
    up f i p (at_level (i + shift f j) g c) ≡ at_level (i + suc j) g (up f i p c)

-- two ways into one context come from one context
abbrev pub ContextsPull : Type 0
ContextsPull = (f : Kind) (p : ℕ) → IsCrosser f → (i j : ℕ) (g : Context → Context) (c d : Context) →
    up f i p c ≡ at_level (i + suc j) g d → (b : Context) × (at_level (i + shift f j) g b ≡ c) × (up f i p b ≡ d)

-- the context at slot 0 tells the slot and the context that it comes from
abbrev pub ContextsInjective : Type 0
ContextsInjective = (k : Kind) (i s t : ℕ) (c d : Context) → s < arity k → t < arity k →
    up k i s c ≡ up k i t d → (s ≡ t) × (c ≡ d)

-- crossing back undoes crossing
abbrev pub CrossingBack : Type 0
CrossingBack = (k : Kind) (i s t : ℕ) (c d : Context) → Crosses k i s c t d → Crosses k i t d s c

abbrev pub ThroughBack : Type 0 → Type 0
ThroughBack A = (N : NamedNet A) (p q : NamedPort A) (c d : Context) → Through N p c q d → Through N q d p c

-- a crossing has one result
abbrev pub CrossingIsOne : Type 0
CrossingIsOne = (k : Kind) (i s t t' : ℕ) (c d d' : Context) → Crosses k i s c t d →
    Crosses k i s c t' d' → (t ≡ t') × (d ≡ d')

-- a crossing from slot 0 is what the table gives
abbrev pub CrossingByTable : Type 0
CrossingByTable = (k : Kind) (i t : ℕ) (c d : Context) → Crosses k i 0 c t d ↔ (down k i c ≡ Some (t, d))

-- a walk has one path
abbrev pub WalkIsOne : Type 0 → Type 0
WalkIsOne A = (N : NamedNet A) → IsNet N →
    (p : NamedPort A) (c : Context) (q q' : ℕ) (d d' : Context) (r : Path N p c q d) (s : Path N p c q' d') →
    (q ≡ q') × (d ≡ d') × (crossings r ≡ crossings s)

-- and a path leads back in as many crossings
abbrev pub WalkBack : Type 0 → Type 0
WalkBack A = (N : NamedNet A) (p : ℕ) (c : Context) (q : ℕ) (d : Context) (r : Path N (free p) c q d) →
    (s : Path N (free q) d p c) × (crossings s ≡ crossings r)
