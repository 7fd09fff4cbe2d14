-- Names of binders have the shape of their tree.
use Rattle.std.proofs.Common.{◌≡◌, ℕ, ◌+◌, ◌-◌, Bool, true, false, nat_lt, List, [], ◌∷◌, Option, Some, None}
use Rattle.std.proofs.Common.{refl, subst, eqb-true, arith}
use Rattle.std.specs.Prelude.{◌==◌, if◌then◌else◌}
use Rattle.std.specs.Option.{option_map}
use Rattle.std.proofs.lemmas.Bool.{ltb-true}
use Rattle.ol_term.specs.Trees as tree
use Rattle.ol_term.specs.Trees.{Tree}
use Rattle.ol_parse.specs.Grammar as named
use Rattle.ol_parse.specs.Grammar.{Named}
use Rattle.ol_term.specs.NameLists.{position_of}
use Rattle.ol_parse.specs.Numbered.{names_of, numbered, var_at}
use Rattle.ol_beta.specs.Beta as beta
use Rattle.ol_beta.specs.Beta.{shifted, substituted}
use Rattle.ol_steps.specs.Binders.{Binders, leaf, lam, app, binders_of, Fits}
use Rattle.ol_steps.specs.Contraction.{put_in, applied, contracted}
use Rattle.ol_steps.specs.BinderLaws.{SourceFits, ContractedFits}

-- ---- the source

var_fits : (o p : Option ℕ) → Fits (var_at o p) leaf
var_fits (Some k) p = tt
var_fits None (Some k) = tt
var_fits None None = tt

numbered_fits : (names binders : List (List ℕ)) (t : Named) → Fits (numbered names binders t) (binders_of t)
numbered_fits names binders (named.var x) = var_fits (position_of x binders) (position_of x names)
numbered_fits names binders (named.lam x t) = numbered_fits names (x ∷ binders) t
numbered_fits names binders (named.app f a) = (numbered_fits names binders f, numbered_fits names binders a)

pub source_fits : SourceFits
source_fits t = numbered_fits (names_of t) [] t

-- ---- contraction

shifted_fits : (n d : ℕ) (t : Tree) (s : Binders) → Fits t s → Fits (shifted n d t) s
shifted_fits n d (tree.var k) leaf h = tt
shifted_fits n d (tree.var k) (lam x s) h = absurd h
shifted_fits n d (tree.var k) (app r s) h = absurd h
shifted_fits n d (tree.free k) leaf h = tt
shifted_fits n d (tree.free k) (lam x s) h = absurd h
shifted_fits n d (tree.free k) (app r s) h = absurd h
shifted_fits n d (tree.lam t) leaf h = absurd h
shifted_fits n d (tree.lam t) (lam x s) h = shifted_fits n (d + 1) t s h
shifted_fits n d (tree.lam t) (app r s) h = absurd h
shifted_fits n d (tree.app f a) leaf h = absurd h
shifted_fits n d (tree.app f a) (lam x s) h = absurd h
shifted_fits n d (tree.app f a) (app r s) h = (shifted_fits n d f r h.0, shifted_fits n d a s h.1)

put_fits : (c : Tree) (b : Binders) → Fits c b → (d : ℕ) (t : Tree) (s : Binders) → Fits t s →
    Fits (substituted c d t) (put_in b d t s)
put_fits c b g d (tree.var k) leaf h = go (nat_lt k d) (k == d) refl refl (shifted_fits d 0 c b g)
  where
    go : (p q : Bool) → nat_lt k d ≡ p → (k == d) ≡ q → Fits (shifted d 0 c) b →
        Fits (if p then tree.var k else if q then shifted d 0 c else tree.var (k - 1)) (if q then b else leaf)
    go true true e f i = let l = ltb-true k d e in let m = eqb-true k d f in absurd (omega (arith, l, m))
    go true false e f i = tt
    go false true e f i = i
    go false false e f i = tt
put_fits c b g d (tree.var k) (lam x s) h = absurd h
put_fits c b g d (tree.var k) (app r s) h = absurd h
put_fits c b g d (tree.free k) leaf h = tt
put_fits c b g d (tree.free k) (lam x s) h = absurd h
put_fits c b g d (tree.free k) (app r s) h = absurd h
put_fits c b g d (tree.lam t) leaf h = absurd h
put_fits c b g d (tree.lam t) (lam x s) h = put_fits c b g (d + 1) t s h
put_fits c b g d (tree.lam t) (app r s) h = absurd h
put_fits c b g d (tree.app f a) leaf h = absurd h
put_fits c b g d (tree.app f a) (lam x s) h = absurd h
put_fits c b g d (tree.app f a) (app r s) h = (put_fits c b g d f r h.0, put_fits c b g d a s h.1)

-- they fit, if there is a tree
abbrev AllFit : Option Tree → Binders → Type 0
AllFit None s = Unit {0}
AllFit (Some u) s = Fits u s

applied_fits : (f c : Tree) (r s : Binders) → Fits f r → Fits c s → AllFit (beta.applied f c) (applied f r s)
applied_fits (tree.var k) c r s h g = tt
applied_fits (tree.free k) c r s h g = tt
applied_fits (tree.lam t) c leaf s h g = absurd h
applied_fits (tree.lam t) c (lam x r) s h g = put_fits c s g 0 t r h
applied_fits (tree.lam t) c (app q r) s h g = absurd h
applied_fits (tree.app f a) c r s h g = tt

body_fits : (x : List ℕ) (s : Binders) (b : Bool) (o : Option Tree) → AllFit o s →
    AllFit (if b then option_map tree.lam o else None) (lam x s)
body_fits x s true None h = tt
body_fits x s true (Some u) h = h
body_fits x s false o h = tt

function_fits : (a : Tree) (r s : Binders) (o : Option Tree) → AllFit o r → Fits a s →
    AllFit (option_map (λ g. tree.app g a) o) (app r s)
function_fits a r s None h g = tt
function_fits a r s (Some u) h g = (h, g)

argument_fits : (f : Tree) (r s : Binders) (b : Bool) (o : Option Tree) → AllFit o s → Fits f r →
    AllFit (if b then option_map (tree.app f) o else None) (app r s)
argument_fits f r s true None h g = tt
argument_fits f r s true (Some u) h g = (g, h)
argument_fits f r s false o h g = tt

parts_fit : (f a : Tree) (r s q p : Binders) (b c : Bool) (o w : Option Tree) → AllFit o q → AllFit w p →
    Fits f r → Fits a s →
    AllFit (if b then option_map (λ g. tree.app g a) o else if c then option_map (tree.app f) w else None)
    (if b then app q s else app r p)
parts_fit f a r s q p true c o w h g i j = function_fits a q s o h j
parts_fit f a r s q p false c o w h g i j = argument_fits f r p c w g i

all_fit : (t : Tree) (s : Binders) (at : List ℕ) → Fits t s → AllFit (beta.contracted t at) (contracted t s at)
all_fit (tree.var k) s at h = tt
all_fit (tree.free k) s at h = tt
all_fit (tree.lam t) s [] h = tt
all_fit (tree.lam t) leaf (m ∷ at) h = absurd h
all_fit (tree.lam t) (lam x s) (m ∷ at) h =
    body_fits x (contracted t s at) (m == 0) (beta.contracted t at) (all_fit t s at h)
all_fit (tree.lam t) (app r s) (m ∷ at) h = absurd h
all_fit (tree.app f a) leaf at h = absurd h
all_fit (tree.app f a) (lam x s) at h = absurd h
all_fit (tree.app f a) (app r s) [] h = applied_fits f a r s h.0 h.1
all_fit (tree.app f a) (app r s) (m ∷ at) h =
    parts_fit f a r s (contracted f r at) (contracted a s at) (m == 1) (m == 2) (beta.contracted f at)
    (beta.contracted a at) (all_fit f r at h.0) (all_fit a s at h.1) h.0 h.1

pub contracted_fits : ContractedFits
contracted_fits t u s at h e = subst (λ (o : Option Tree). AllFit o (contracted t s at)) e (all_fit t s at h)
