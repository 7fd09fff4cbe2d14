-- The two translations of a term, case by case: nodes in order of their numbers, and links of ports
-- (Gonthier, Abadi and Lévy, The geometry of optimal lambda reduction, 1992). Translation 2 has one case more, for an
-- application to a variable.
use Rattle.std.specs.Prelude.{ℕ, ◌+◌, ◌-◌, List, [], ◌∷◌, ◌++◌, length, map, filter, find, nat_lt}
use Rattle.std.specs.Prelude.{◌==◌, Option, None, Some, if◌then◌else◌}
use Rattle.std.specs.Option.{option_map}
use Rattle.ol_term.specs.declared.translations.Translation.{Translation}
use Rattle.ol_term.specs.declared.translations.Translation.TheVariants.{One, Two}
use Rattle.ol_term.specs.Trees.{Tree, var, free, lam, app}
use Rattle.ol_net.specs.declared.parts.Kind.{Kind}
use Rattle.ol_net.specs.declared.parts.Kind.TheVariants as kind
use Rattle.ol_net.specs.declared.parts.Port.{Port}
use Rattle.ol_net.specs.declared.parts.Port.TheVariants.{Free, Of}
use Rattle.ol_net.specs.Nets.{NamedNet}
use Rattle.ol_net.specs.Numbered.{net_of_parts}

-- slot_port s of node k
abbrev pub slot_port : ℕ → ℕ → Port
slot_port k s = Of (record { 0 = k }) s

-- The wires of the variables that are free in a term, in order of first occurrence. Variables are counted outwards, as
-- if the free names were bound round the whole term: under d abstractions, variable d + f is free name f.
abbrev pub Wires : Type 0
Wires = List (ℕ × Port)

-- A term as a part of a net: its root and its wires are still to be joined.
pub record Subnet : Type 0 where
  pub nodes : List (Kind × ℕ)
  pub links : List (Port × Port)
  pub root : Port
  pub wires : List (ℕ × Port)

-- the wire of a variable, where it has one
abbrev pub wire_of : ℕ → Wires → Option Port
wire_of v wires = option_map (λ (w : ℕ × Port). w.1) (find (λ w. w.0 == v) wires)

-- the same wires, with another port for this variable
abbrev pub reconnected : ℕ → Port → Wires → Wires
reconnected v p [] = []
reconnected v p (w ∷ wires) = if w.0 == v then (w.0, p) ∷ wires else w ∷ reconnected v p wires

-- ---- an occurrence of a variable

-- croissant n: slot_port 1 is the root, slot_port 0 towards the binder
abbrev pub occurrence : (v n k : ℕ) → Subnet
occurrence v n k = record {
  nodes = (kind.Croissant, n) ∷ [];
  links = [];
  root = slot_port k 1;
  wires = (v, slot_port k 0) ∷ [];
}

-- ---- an abstraction

-- the wires that leave the abstraction, with the variables counted from outside of it
abbrev pub outside : Wires → Wires
outside wires = map (λ (w : ℕ × Port). (w.0 - 1, w.1)) (filter (λ (w : ℕ × Port). nat_lt 0 w.0) wires)

-- an eraser where the variable isn't free in the body
abbrev pub erasers : Option Port → List (Kind × ℕ)
erasers None = (kind.Eraser, 0) ∷ []
erasers (Some w) = []

-- the variable's wire, or slot_port 0 of the eraser
abbrev pub bound_port : Option Port → ℕ → Port
bound_port None eraser = slot_port eraser 0
bound_port (Some w) eraser = w

-- abstraction n; the nodes of M at level n; an eraser where x isn't free in M
abbrev pub abstraction : (n k : ℕ) → Subnet → Subnet
abstraction n k M = let x = wire_of 0 M.wires in record {
  nodes = ((kind.Lam, n) ∷ M.nodes) ++ erasers x;
  links = M.links ++ (slot_port k 1, M.root) ∷ (slot_port k 2, bound_port x (k + 1 + length M.nodes)) ∷ [];
  root = slot_port k 0;
  wires = outside M.wires;
}

-- ---- an application

-- a bracket n for each variable free in N, from number b on: slot_port 1 towards N, slot_port 0 towards the binder
abbrev pub bracket_nodes : (n : ℕ) → Wires → List (Kind × ℕ)
bracket_nodes n wires = map (λ (w : ℕ × Port). (kind.Bracket, n)) wires

abbrev pub bracket_links : (b : ℕ) → Wires → List (Port × Port)
bracket_links b [] = []
bracket_links b (w ∷ wires) = (slot_port b 1, w.1) ∷ bracket_links (b + 1) wires

abbrev pub past_brackets : (b : ℕ) → Wires → Wires
past_brackets b [] = []
past_brackets b (w ∷ wires) = (w.0, slot_port b 0) ∷ past_brackets (b + 1) wires

-- a fan n for a variable that is free in both: slot_port 1 with its wire from M, slot_port 2 with
-- its bracket, slot_port 0 towards the binder
abbrev pub fan_nodes : (n : ℕ) → Option Port → List (Kind × ℕ)
fan_nodes n None = []
fan_nodes n (Some p) = (kind.Fan, n) ∷ []

abbrev pub fan_links : (f : ℕ) → Option Port → Port → List (Port × Port)
fan_links f None q = []
fan_links f (Some p) q = (slot_port f 1, p) ∷ (slot_port f 2, q) ∷ []

-- the variable's one wire is the fan's slot_port 0, or that of its bracket, last
abbrev pub merged : (f : ℕ) → Option Port → ℕ × Port → Wires → Wires
merged f None w wires = wires ++ w ∷ []
merged f (Some p) w wires = reconnected w.0 (slot_port f 0) wires

pub record Fans : Type 0 where
  pub nodes : List (Kind × ℕ)
  pub links : List (Port × Port)
  pub wires : List (ℕ × Port)

-- the fans from number f on, by the variables of N in their order
abbrev pub fans : (n f : ℕ) → Wires → Wires → Fans
fans n f wires [] = record { nodes = []; links = []; wires = wires }
fans n f wires (w ∷ more) =
    let x = wire_of w.0 wires in
    let rest = fans n (f + length (fan_nodes n x)) (merged f x w wires) more in
    record { nodes = fan_nodes n x ++ rest.nodes; links = fan_links f x w.1 ++ rest.links; wires = rest.wires }

-- application n; the nodes of M at level n; the nodes of N at level n + 1; brackets; fans
abbrev pub application : (n k : ℕ) → Subnet → Subnet → Subnet
application n k M N =
    let b = k + 1 + length M.nodes + length N.nodes in
    let F = fans n (b + length N.wires) M.wires (past_brackets b N.wires) in
    record {
      nodes = (((kind.App, n) ∷ M.nodes) ++ N.nodes) ++ (bracket_nodes n N.wires ++ F.nodes);
      links = (M.links ++ N.links)
          ++ (((slot_port k 0, M.root) ∷ (slot_port k 2, N.root) ∷ []) ++ (bracket_links b N.wires ++ F.links));
      root = slot_port k 1;
      wires = F.wires;
    }

-- ---- an application to a variable, in translation 2

-- the variable that an argument is, where translation 2 takes its wire in place of a part of its own
abbrev pub bare_variable : Translation → (d : ℕ) → Tree → Option ℕ
bare_variable One d N = None
bare_variable Two d (var v) = Some v
bare_variable Two d (free f) = Some (d + f)
bare_variable Two d (lam M) = None
bare_variable Two d (app M N) = None

-- application n; the nodes of M at level n; a fan n where y is free in M. The wire of y is
-- slot_port 2 of the application:
-- it is slot_port 2 of the fan, or stands towards the binder itself.
abbrev pub application_to : (n k y : ℕ) → Subnet → Subnet
application_to n k y M =
    let F = fans n (k + 1 + length M.nodes) M.wires ((y, slot_port k 2) ∷ []) in
    record {
      nodes = ((kind.App, n) ∷ M.nodes) ++ F.nodes;
      links = M.links ++ (slot_port k 0, M.root) ∷ F.links;
      root = slot_port k 1;
      wires = F.wires;
    }

-- an application to a variable that is its wire, or to the part of another argument
abbrev pub applied : (n k : ℕ) → Option ℕ → Subnet → Subnet → Subnet
applied n k None M N = application n k M N
applied n k (Some y) M N = application_to n k y M

-- ---- terms

-- a term under d abstractions and at level n, whose first node has number k
abbrev pub subnet_of : Translation → Tree → (d n k : ℕ) → Subnet
subnet_of w (var v) d n k = occurrence v n k
subnet_of w (free f) d n k = occurrence (d + f) n k
subnet_of w (lam M) d n k = abstraction n k (subnet_of w M (d + 1) n (k + 1))
subnet_of w (app M N) d n k =
    let left = subnet_of w M d n (k + 1) in
    applied n k (bare_variable w d N) left (subnet_of w N d (n + 1) (k + 1 + length left.nodes))

-- the wire of free name f is joined to free port f + 1
abbrev pub name_links : Wires → List (Port × Port)
name_links wires = map (λ (w : ℕ × Port). (Free (w.0 + 1), w.1)) wires

-- the whole term stands at level 0, its root joined to free port 0
abbrev pub nodes_of : Translation → Tree → List (Kind × ℕ)
nodes_of w t = (subnet_of w t 0 0 0).nodes

abbrev pub links_of : Translation → Tree → List (Port × Port)
links_of w t = let P = subnet_of w t 0 0 0 in P.links ++ (Free 0, P.root) ∷ name_links P.wires

-- the net of a term with so many free names
abbrev pub translation_of : Translation → Tree → ℕ → NamedNet ℕ
translation_of w t names = net_of_parts (1 + names) (nodes_of w t) (links_of w t)
