-- What a head step keeps: which values of level 0, at a place of a term's interface, are the same
-- before and after the step.
use Rattle.std.specs.Prelude.{◌≡◌, true}
use Rattle.ol_law_meaning.specs.Contraction.{Tree, var, free, lam, app, Level, empty, o, star, pair, Wire}
use Rattle.ol_law_meaning.specs.Contraction.{Translation, bound, under, occurs, left, IsRight, Place, root, wire}
use Rattle.ol_law_meaning.specs.Contraction.{ofM, ofN, WireOf, HeadStep, beta, below, before}

-- of the redex (lam M) N: at the root each value; at a wire of M, and at a wire of N, what the wire is in M[N]
pub data SameRedex (τ : Translation) (M N : Tree) : Place → Level → Level → Type 0 where
  redex_root : {v : Level} → SameRedex τ M N root v v
  redex_m : {y : Wire} {a w a' : Level} → w ≡ left N y a → WireOf τ N M 0 (ofM (under y) a) y a' →
      SameRedex τ M N (wire y) w a'
  redex_n : {y : Wire} {b v w a' : Level} → IsRight τ (lam M) N y b v w →
      WireOf τ N M 0 (ofN v y b) y a' → SameRedex τ M N (wire y) w a'

-- under an abstraction, where S says it of the body: at the root, the body's root stands below an
-- o, and the wire of the abstraction's own variable below a star
pub data SameBelow (S : Place → Level → Level → Type 0) : Place → Level → Level → Type 0 where
  below_o : {v v' : Level} → S root v v' → SameBelow S root (o v) (o v')
  below_star : {a a' : Level} → S (wire (bound 0)) a a' → SameBelow S root (star a) (star a')
  below_wire : {y : Wire} {a a' : Level} → S (wire (under y)) a a' → SameBelow S (wire y) a a'

-- before an argument P, where S says it of the function, which is R and becomes R': marks follow the function
pub data SameBefore (τ : Translation) (R R' P : Tree) (S : Place → Level → Level → Type 0) : Place →
    Level → Level → Type 0 where
  before_root : {v : Level} → SameBefore τ R R' P S root v v
  before_left : {y : Wire} {a a' w w' : Level} →
      w ≡ left P y a → w' ≡ left P y a' → S (wire y) a a' → SameBefore τ R R' P S (wire y) w w'
  before_right : {y : Wire} {w w' : Level} (b v : Level) →
      occurs y P ≡ true → IsRight τ R P y b v w → IsRight τ R' P y b v w' →
      SameBefore τ R R' P S (wire y) w w'

-- of any head step
abbrev pub Same : Translation → {t t' : Tree} → HeadStep t t' → Place → Level → Level → Type 0
Same τ (beta {M = M} {N = N}) = SameRedex τ M N
Same τ (below h) = SameBelow (Same τ h)
Same τ (before {R = R} {R' = R'} {P = P} e h) = SameBefore τ R R' P (Same τ h)

-- u below an o for each of the term's outer abstractions: at the root, this value comes to where no abstraction stands
abbrev pub opened : Tree → Level → Level
opened (lam t) u = o (opened t u)
opened (var y) u = u
opened (free f) u = u
opened (app t s) u = u

-- empty below an o for some of the outer abstractions, and not for all: at the root, this value stops at an abstraction
abbrev pub Short : Tree → Level → Type 0
Short (lam t) empty = Unit {0}
Short (lam t) (o v) = Short t v
Short (lam t) (star v) = ⊥
Short (lam t) (pair v w) = ⊥
Short (var y) v = ⊥
Short (free f) v = ⊥
Short (app t s) v = ⊥
