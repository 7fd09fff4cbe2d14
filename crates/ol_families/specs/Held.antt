-- Private: labelled terms as the code holds them, where a label is a row of letters, and a degree a number.
use Rattle.std.specs.Prelude.{ℕ, ◌+◌, ◌-◌, ◌==◌, nat_lt, if◌then◌else◌, List, [], ◌∷◌, ◌++◌, length, Option, Some, None}
use Rattle.std.specs.Option.{option_map}
use Rattle.ol_term.specs.Trees.{Tree, term_size}
use Rattle.ol_term.specs.Trees as trees
use Rattle.ol_families.specs.declared.degrees.Letter.{Letter}
use Rattle.ol_families.specs.declared.degrees.Letter.TheVariants.{Own, Over, Under}
use Rattle.ol_families.specs.declared.labelling.LabelledTerm as term

pub data Held : Type 0 where
  var : ℕ → List Letter → Held
  free : ℕ → List Letter → Held
  lam : Held → List Letter → Held
  app : Held → Held → List Letter → Held

abbrev pub held_of : term.LabelledTerm → Held
held_of (term.Var k w) = var k w.items
held_of (term.Free k w) = free k w.items
held_of (term.Lam' p b w) = lam (held_of b) w.items
held_of (term.App' p f q a w) = app (held_of f) (held_of a) w.items

-- without its labels
abbrev pub bare : Held → Tree
bare (var k w) = trees.var k
bare (free k w) = trees.free k
bare (lam b w) = trees.lam (bare b)
bare (app f a w) = trees.app (bare f) (bare a)

-- a term each of whose subterms has a letter of its own, from n on, in preorder
abbrev pub lettered : ℕ → Tree → Held
lettered n (trees.var k) = var k (Own n ∷ [])
lettered n (trees.free k) = free k (Own n ∷ [])
lettered n (trees.lam b) = lam (lettered (n + 1) b) (Own n ∷ [])
lettered n (trees.app f a) =
    app (lettered (n + 1) f) (lettered (n + 1 + term_size f) a) (Own n ∷ [])

abbrev pub before : List Letter → Held → Held
before v (var k w) = var k (v ++ w)
before v (free k w) = free k (v ++ w)
before v (lam b w) = lam b (v ++ w)
before v (app f a w) = app f a (v ++ w)

abbrev pub shifted : ℕ → ℕ → Held → Held
shifted n d (var k w) = var (if nat_lt k d then k else k + n) w
shifted n d (free k w) = free k w
shifted n d (lam b w) = lam (shifted n (d + 1) b) w
shifted n d (app f a w) = app (shifted n d f) (shifted n d a) w

abbrev pub substituted : Held → ℕ → Held → Held
substituted c d (var k w) =
    if nat_lt k d then var k w else if k == d then before w (shifted d 0 c) else var (k - 1) w
substituted c d (free k w) = free k w
substituted c d (lam b w) = lam (substituted c (d + 1) b) w
substituted c d (app f a w) = app (substituted c d f) (substituted c d a) w

-- a step at the root, whose degree has number n
abbrev pub applied : ℕ → Held → Held → List Letter → Option Held
applied n (var k v) c w = None
applied n (free k v) c w = None
applied n (lam b v) c w =
    Some (before (w ++ Over n ∷ []) (substituted (before (Under n ∷ []) c) 0 b))
applied n (app f a v) c w = None

abbrev pub contracted : ℕ → Held → List ℕ → Option Held
contracted n (var k w) at = None
contracted n (free k w) at = None
contracted n (lam b w) [] = None
contracted n (lam b w) (m ∷ at) =
    if m == 0 then option_map (λ b. lam b w) (contracted n b at) else None
contracted n (app f c w) [] = applied n f c w
contracted n (app f c w) (m ∷ at) =
    if m == 1 then option_map (λ g. app g c w) (contracted n f at)
    else if m == 2 then option_map (λ a. app f a w) (contracted n c at) else None

abbrev pub degree_of_abstraction : Held → Option (List Letter)
degree_of_abstraction (var k w) = None
degree_of_abstraction (free k w) = None
degree_of_abstraction (lam b w) = Some w
degree_of_abstraction (app f a w) = None

abbrev pub degree : Held → List ℕ → Option (List Letter)
degree (var k w) at = None
degree (free k w) at = None
degree (lam b w) [] = None
degree (lam b w) (m ∷ at) = if m == 0 then degree b at else None
degree (app f c w) [] = degree_of_abstraction f
degree (app f c w) (m ∷ at) =
    if m == 1 then degree f at else if m == 2 then degree c at else None

-- how many letters all labels have
abbrev pub held_letters : Held → ℕ
held_letters (var k w) = length w
held_letters (free k w) = length w
held_letters (lam b w) = length w + held_letters b
held_letters (app f a w) = length w + held_letters f + held_letters a
