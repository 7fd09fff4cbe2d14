-- Tests on names, ports and vertices.
use Rattle.std.proofs.Common.{◌≡◌, Bool, true, refl, ap, ◌∙◌, nat_eq, eq-eqb, eqb-true}
use Rattle.std.proofs.lemmas.Bool.{and_parts, and_from}
use Rattle.ol_law_edges.specs.Edges.{IsTest}
use Rattle.ol_net.specs.Nets.{NamedPort, free, slot}
use Rattle.ol_rules.specs.Contracting.{Vertex, old, f_copy, g_copy, vertex_same, port_same}

pub nat_test : IsTest nat_eq
nat_test = record { holds = λ m. eq-eqb m m refl; tells = λ m n h. eqb-true m n h }

module _ {A : Type 0} (same : A → A → Bool) (t : IsTest same) where
  port_holds : (p : NamedPort A) → port_same same p p ≡ true
  port_holds (free n) = eq-eqb n n refl
  port_holds (slot x s) = and_from (same x x) (nat_eq s s) (t.holds x) (eq-eqb s s refl)

  port_tells : (p q : NamedPort A) → port_same same p q ≡ true → p ≡ q
  port_tells (free m) (free n) h = ap free (eqb-true m n h)
  port_tells (slot x s) (slot y u) h =
      let r = and_parts (same x y) (nat_eq s u) h in
      ap (λ x. slot x s) (t.tells x y r.0) ∙ ap (slot y) (eqb-true s u r.1)
  port_tells (free m) (slot y u) h = absurd (cc)
  port_tells (slot x s) (free n) h = absurd (cc)

  pub port_test : IsTest (port_same same)
  port_test = record { holds = port_holds; tells = port_tells }

  vertex_holds : (u : Vertex A) → vertex_same same u u ≡ true
  vertex_holds (old p) = port_holds p
  vertex_holds (f_copy q s) = and_from (nat_eq q q) (nat_eq s s) (eq-eqb q q refl) (eq-eqb s s refl)
  vertex_holds (g_copy q s) = and_from (nat_eq q q) (nat_eq s s) (eq-eqb q q refl) (eq-eqb s s refl)

  vertex_tells : (u v : Vertex A) → vertex_same same u v ≡ true → u ≡ v
  vertex_tells (old p) (old q) h = ap old (port_tells p q h)
  vertex_tells (f_copy q s) (f_copy r u) h =
      let z = and_parts (nat_eq q r) (nat_eq s u) h in
      ap (λ q. f_copy q s) (eqb-true q r z.0) ∙ ap (f_copy r) (eqb-true s u z.1)
  vertex_tells (g_copy q s) (g_copy r u) h =
      let z = and_parts (nat_eq q r) (nat_eq s u) h in
      ap (λ q. g_copy q s) (eqb-true q r z.0) ∙ ap (g_copy r) (eqb-true s u z.1)
  vertex_tells (old p) (f_copy r u) h = absurd (cc)
  vertex_tells (old p) (g_copy r u) h = absurd (cc)
  vertex_tells (f_copy q s) (old p) h = absurd (cc)
  vertex_tells (f_copy q s) (g_copy r u) h = absurd (cc)
  vertex_tells (g_copy q s) (old p) h = absurd (cc)
  vertex_tells (g_copy q s) (f_copy r u) h = absurd (cc)

  pub vertex_test : IsTest (vertex_same same)
  vertex_test = record { holds = vertex_holds; tells = vertex_tells }
