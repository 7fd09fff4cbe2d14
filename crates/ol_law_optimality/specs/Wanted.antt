-- Which applications the questions after a term's places come to, said by the term's spots alone.
use Rattle.std.specs.Prelude.{◌≡◌, ℕ}
use Rattle.ol_context.specs.Contexts.{Level, empty, Context}
use Rattle.ol_law_meaning.specs.Heads.{os, Steps, SameAlong, Arg, StandsAt}
use Rattle.ol_law_meaning.specs.Sites.{Site, function_at}
use Rattle.ol_law_meaning.specs.Spots.{Place, root, Spot, at, Edge, Trail}
use Rattle.ol_term.specs.Trees.{Tree}
use Rattle.ol_term.specs.declared.translations.Translation.{Translation}
use Rattle.ol_law_optimality.specs.Met.{IsMatched}

-- a walk comes to the application of a redex at this site, one that is there or comes after some
-- steps
pub record Comes (τ : Translation) (t : Tree) (s : Spot) (p : Site) : Type 0 where
  pub matched : IsMatched τ t p
  pub level : Level
  pub later : Context
  pub steps : ℕ
  pub way : Trail (Edge τ t) s (function_at p level later) steps

-- Where a question's walk begins: at the term's root, asked for some number of abstractions; or
-- where such a place of an argument stands, once head steps have come to a head normal form.
pub data Asks (τ : Translation) : Tree → Place → Level → Context → Type 0 where
  whole : {P : Tree} (n : ℕ) {v : Level} {c : Context} → v ≡ os n empty → Asks τ P root v c
  part : {P u Q : Tree} {m i : ℕ} {x y : Place} {v w : Level} {c d : Context} (b : Level)
      (s : Steps P u m) (k : Arg u i Q) → Asks τ Q x v c → StandsAt τ k empty x v c y b d →
      SameAlong τ s y w b → Asks τ P y w d

-- a question's walk comes to the application of a redex at this site
pub record IsWanted (τ : Translation) (t : Tree) (p : Site) : Type 0 where
  pub place : Place
  pub first : Level
  pub rest : Context
  pub asks : Asks τ t place first rest
  pub comes : Comes τ t (at place first rest) p
