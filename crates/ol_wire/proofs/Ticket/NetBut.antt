-- A net without two of its nodes.
-- Used in InWords.Edges, Edges and Keeps.
use Rattle.std.proofs.Common.{◌≡◌, ◌≢◌, ℕ, Bool, true, false, ◌||◌, if◌then◌else◌, List, [], ◌∷◌}
use Rattle.std.proofs.Common.{◌⊎◌, inl, inr, refl, sym, ap, ◌∙◌}
use Rattle.std.proofs.lemmas.Bool.{cases_Bool, or_parts, or_from}
use Rattle.ol_net.specs.declared.parts.Kind.{Kind}
use Rattle.ol_net.specs.Nets.{NamedNet}
use Rattle.ol_rules.specs.declared.journal.NodeName.{NodeName}
use Rattle.ol_wire.specs.Edges.{same_name, is_listed, is_live}
use Rattle.ol_wire.proofs.InWords.EdgeList.{same_name_true, same_name_tells, name_apart}

-- the nodes that aren't named x or y
abbrev pub nodes_but : NodeName → NodeName → List (NodeName × Kind × ℕ) → List (NodeName × Kind × ℕ)
nodes_but x y [] = []
nodes_but x y (n ∷ nodes) = if same_name n.0 x || same_name n.0 y then nodes_but x y nodes else n ∷ nodes_but x y nodes

abbrev pub net_but : NodeName → NodeName → NamedNet NodeName → NamedNet NodeName
net_but x y N = record { nodes = nodes_but x y N.nodes; free_ports = N.free_ports; links = N.links }

module _ (x y : NodeName) where
  -- the two are gone
  listed_gone : (u : NodeName) (nodes : List (NodeName × Kind × ℕ)) → (u ≡ x) ⊎ (u ≡ y) →
      is_listed u (nodes_but x y nodes) ≡ false
  listed_gone u [] e = refl
  listed_gone u (n ∷ nodes) e = go (cases_Bool (same_name n.0 x || same_name n.0 y)) (listed_gone u nodes e)
    where
      differs : (u ≡ x) ⊎ (u ≡ y) → (same_name n.0 x || same_name n.0 y) ≡ false → same_name u n.0 ≡ false
      differs (inl e) q = name_apart u n.0 (λ d. told (sym d ∙ e) (or_parts (same_name n.0 x) (same_name n.0 y) q).0)
        where
          told : n.0 ≡ x → same_name n.0 x ≡ false → ⊥
          told d f = let t : same_name n.0 x ≡ true = ap (same_name n.0) (sym d) ∙ same_name_true n.0 in absurd (cc)
      differs (inr e) q = name_apart u n.0 (λ d. told (sym d ∙ e) (or_parts (same_name n.0 x) (same_name n.0 y) q).1)
        where
          told : n.0 ≡ y → same_name n.0 y ≡ false → ⊥
          told d f = let t : same_name n.0 y ≡ true = ap (same_name n.0) (sym d) ∙ same_name_true n.0 in absurd (cc)

      go : ((same_name n.0 x || same_name n.0 y) ≡ true)
          ⊎ ((same_name n.0 x || same_name n.0 y) ≡ false) →
          is_listed u (nodes_but x y nodes) ≡ false → is_listed u (nodes_but x y (n ∷ nodes)) ≡ false
      go (inl q) ih = ap (λ b. is_listed u (if b then nodes_but x y nodes else n ∷ nodes_but x y nodes)) q ∙ ih
      go (inr q) ih = ap (λ b. is_listed u
          (if b then nodes_but x y nodes else n ∷ nodes_but x y nodes)) q
          ∙ or_from (same_name u n.0) (is_listed u (nodes_but x y nodes)) (differs e q) ih

  -- the others stay
  listed_still : (u : NodeName) (nodes : List (NodeName × Kind × ℕ)) → u ≢ x → u ≢ y →
      is_listed u (nodes_but x y nodes) ≡ is_listed u nodes
  listed_still u [] d e = refl
  listed_still u (n ∷ nodes) d e = go (cases_Bool (same_name n.0 x || same_name n.0 y)) (listed_still u nodes d e)
    where
      of_false : (a b : Bool) → a ≡ false → (a || b) ≡ b
      of_false a b q = ap (λ a. a || b) q

      one_of : (a b : Bool) → (a || b) ≡ true → (a ≡ true) ⊎ (b ≡ true)
      one_of true b q = inl refl
      one_of false b q = inr q

      differs : (same_name n.0 x ≡ true) ⊎ (same_name n.0 y ≡ true) → same_name u n.0 ≡ false
      differs (inl q) = name_apart u n.0 (λ h. d (h ∙ same_name_tells n.0 x q))
      differs (inr q) = name_apart u n.0 (λ h. e (h ∙ same_name_tells n.0 y q))

      go : ((same_name n.0 x || same_name n.0 y) ≡ true)
          ⊎ ((same_name n.0 x || same_name n.0 y) ≡ false) →
          is_listed u (nodes_but x y nodes) ≡ is_listed u nodes →
          is_listed u (nodes_but x y (n ∷ nodes)) ≡ is_listed u (n ∷ nodes)
      go (inl q) ih =
          ap (λ b. is_listed u (if b then nodes_but x y nodes else n ∷ nodes_but x y nodes)) q ∙ ih
          ∙ sym (of_false (same_name u n.0) (is_listed u nodes)
          (differs (one_of (same_name n.0 x) (same_name n.0 y) q)))
      go (inr q) ih = ap (λ b. is_listed u
          (if b then nodes_but x y nodes else n ∷ nodes_but x y nodes)) q ∙ ap (λ b. same_name u n.0 || b) ih

  module _ (N : NamedNet NodeName) where
    pub first_gone : is_live (net_but x y N) x ≡ false
    first_gone = listed_gone x N.nodes (inl refl)

    pub second_gone : is_live (net_but x y N) y ≡ false
    second_gone = listed_gone y N.nodes (inr refl)

    pub others_stay : (u : NodeName) → u ≢ x → u ≢ y → is_live (net_but x y N) u ≡ is_live N u
    others_stay u d e = listed_still u N.nodes d e
