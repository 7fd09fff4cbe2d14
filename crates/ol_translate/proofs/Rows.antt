-- Worked terms, by both translations.
use Rattle.std.proofs.Common.{◌≡◌, [], ◌∷◌, refl}
use Rattle.ol_term.specs.declared.translations.Translation.TheVariants.{One, Two}
use Rattle.ol_term.specs.Trees.{Tree, var, free, lam, app}
use Rattle.ol_net.specs.declared.parts.Kind.TheVariants.{Lam, App, Fan, Croissant, Bracket, Eraser}
use Rattle.ol_net.specs.declared.parts.Port.TheVariants.{Free}
use Rattle.ol_translate.specs.Translation.{nodes_of, links_of, slot_port}
use Rattle.ol_translate.specs.Sizes.{size_of_translation}

-- (\x. x x) (\y. y)
abbrev self_application : Tree
self_application = app (lam (app (var 0) (var 0))) (lam (var 0))

nodes_of_self_application : nodes_of One self_application
    ≡ (App, 0) ∷ (Lam, 0) ∷ (App, 0) ∷ (Croissant, 0) ∷ (Croissant, 1) ∷ (Bracket, 0) ∷ (Fan, 0) ∷
    (Lam, 1) ∷ (Croissant, 1) ∷ []
nodes_of_self_application = refl

links_of_self_application : links_of One self_application
    ≡ (slot_port 2 0, slot_port 3 1) ∷ (slot_port 2 2, slot_port 4 1) ∷
    (slot_port 5 1, slot_port 4 0) ∷ (slot_port 6 1, slot_port 3 0) ∷ (slot_port 6 2, slot_port 5 0)
    ∷ (slot_port 1 1, slot_port 2 1) ∷ (slot_port 1 2, slot_port 6 0)
    ∷ (slot_port 7 1, slot_port 8 1) ∷ (slot_port 7 2, slot_port 8 0)
    ∷ (slot_port 0 0, slot_port 1 0) ∷ (slot_port 0 2, slot_port 7 0) ∷ (Free 0, slot_port 0 1) ∷ []
links_of_self_application = refl

size_of_self_application : size_of_translation One self_application ≡ 9
size_of_self_application = refl

-- \x. \y. x
abbrev first : Tree
first = lam (lam (var 1))

nodes_of_first : nodes_of One first ≡ (Lam, 0) ∷ (Lam, 0) ∷ (Croissant, 0) ∷ (Eraser, 0) ∷ []
nodes_of_first = refl

links_of_first : links_of One first
    ≡ (slot_port 1 1, slot_port 2 1) ∷ (slot_port 1 2, slot_port 3 0) ∷
    (slot_port 0 1, slot_port 1 0) ∷ (slot_port 0 2, slot_port 2 0) ∷ (Free 0, slot_port 0 0) ∷ []
links_of_first = refl

-- \x. f (g f), of names f and g: both are counted, f before g, and f, which is free in both, has a fan
abbrev with_names : Tree
with_names = lam (app (free 0) (app (free 1) (free 0)))

nodes_of_with_names : nodes_of One with_names
    ≡ (Lam, 0) ∷ (App, 0) ∷ (Croissant, 0) ∷ (App, 1) ∷ (Croissant, 1) ∷ (Croissant, 2) ∷
    (Bracket, 1) ∷ (Bracket, 0) ∷ (Bracket, 0) ∷ (Fan, 0) ∷ (Eraser, 0) ∷ []
nodes_of_with_names = refl

links_of_with_names : links_of One with_names
    ≡ (slot_port 3 0, slot_port 4 1) ∷ (slot_port 3 2, slot_port 5 1) ∷ (slot_port 6 1, slot_port 5 0)
    ∷ (slot_port 1 0, slot_port 2 1) ∷ (slot_port 1 2, slot_port 3 1) ∷
    (slot_port 7 1, slot_port 4 0) ∷ (slot_port 8 1, slot_port 6 0) ∷
    (slot_port 9 1, slot_port 2 0) ∷ (slot_port 9 2, slot_port 8 0)
    ∷ (slot_port 0 1, slot_port 1 1) ∷ (slot_port 0 2, slot_port 10 0)
    ∷ (Free 0, slot_port 0 0) ∷ (Free 1, slot_port 9 0) ∷ (Free 2, slot_port 7 0) ∷ []
links_of_with_names = refl

size_of_with_names : size_of_translation One with_names ≡ 11
size_of_with_names = refl

-- In translation 2 the wire of the second x is slot 2 of the application itself, which has number 2
-- and is joined to the fan.
nodes_of_self_application_2 : nodes_of Two self_application ≡ (App, 0) ∷ (Lam, 0) ∷ (App, 0) ∷
    (Croissant, 0) ∷ (Fan, 0) ∷ (Lam, 1) ∷ (Croissant, 1) ∷ []
nodes_of_self_application_2 = refl

links_of_self_application_2 : links_of Two self_application
    ≡ (slot_port 2 0, slot_port 3 1) ∷ (slot_port 4 1, slot_port 3 0) ∷ (slot_port 4 2, slot_port 2 2)
    ∷ (slot_port 1 1, slot_port 2 1) ∷ (slot_port 1 2, slot_port 4 0)
    ∷ (slot_port 5 1, slot_port 6 1) ∷ (slot_port 5 2, slot_port 6 0)
    ∷ (slot_port 0 0, slot_port 1 0) ∷ (slot_port 0 2, slot_port 5 0) ∷ (Free 0, slot_port 0 1) ∷ []
links_of_self_application_2 = refl

size_of_self_application_2 : size_of_translation Two self_application ≡ 7
size_of_self_application_2 = refl

-- f isn't free in g: its wire is slot 2 of the inner application, and has a bracket of the outer one
nodes_of_with_names_2 : nodes_of Two with_names
    ≡ (Lam, 0) ∷ (App, 0) ∷ (Croissant, 0) ∷ (App, 1) ∷ (Croissant, 1) ∷ (Bracket, 0) ∷
    (Bracket, 0) ∷ (Fan, 0) ∷ (Eraser, 0) ∷ []
nodes_of_with_names_2 = refl

links_of_with_names_2 : links_of Two with_names
    ≡ (slot_port 3 0, slot_port 4 1)
    ∷ (slot_port 1 0, slot_port 2 1) ∷ (slot_port 1 2, slot_port 3 1) ∷
    (slot_port 5 1, slot_port 4 0) ∷ (slot_port 6 1, slot_port 3 2) ∷
    (slot_port 7 1, slot_port 2 0) ∷ (slot_port 7 2, slot_port 6 0)
    ∷ (slot_port 0 1, slot_port 1 1) ∷ (slot_port 0 2, slot_port 8 0)
    ∷ (Free 0, slot_port 0 0) ∷ (Free 1, slot_port 7 0) ∷ (Free 2, slot_port 5 0) ∷ []
links_of_with_names_2 = refl

size_of_with_names_2 : size_of_translation Two with_names ≡ 9
size_of_with_names_2 = refl
