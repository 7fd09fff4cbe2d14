-- One exchange that finds a reference takes one wire out: the two edges at it become one, and the
-- edges stand for the same net.
-- Used in LinkSteps.Exchange.
use Rattle.std.proofs.Common.{◌≡◌, ◌≢◌, ℕ, ◌<◌, ◌≤◌, ◌==◌, Bool, true, if◌then◌else◌, nat_eq, eq-eqb, ne_eqb, List, ◌∷◌}
use Rattle.std.proofs.Common.{◌⊎◌, inl, inr, ◌↔◌, refl, sym, ap, ◌∙◌, subst, arith}
use Rattle.std.proofs.lemmas.Bool.{cases_eq}
use Rattle.ol_law_edges.specs.Edges.{IsIn, EdgeOf, Joined, here, on, back, ends}
use Rattle.ol_law_edges.proofs.Joining.{joined_map, joined_image}
use Rattle.ol_net.specs.Nets.{NamedPort, NamedNet}
use Rattle.ol_rules.specs.declared.journal.NodeName.{NodeName}
use Rattle.ol_wire.specs.declared.layout.Parts.{Parts}
use Rattle.ol_wire.specs.References.{wire_ref}
use Rattle.ol_wire.specs.Stands.{StandsForNet, IsEnd, IsWireEnd}
use Rattle.ol_wire.proofs.InWords.References.{wire_same}
use Rattle.ol_wire.proofs.InWords.Alike.{Alike, alike_ends, alike_joined, alike_sym}
use Rattle.ol_wire.proofs.InWords.Claimed.{ends_first, ends_second, same_bit, other_bit}

module _ (z : Parts) (N : NamedNet NodeName) (reached reached' : ℕ → Bool) (es fs rest : List (ℕ × ℕ)) (w b c : ℕ)
    (before : StandsForNet z N reached es) (is_wire : reached w ≡ true)
    (from : Alike es ((wire_ref w, b) ∷ (wire_ref w, c) ∷ rest)) (to : Alike fs ((b, c) ∷ rest))
    (still : (v : ℕ) → reached v ≡ true → v ≢ w → reached' v ≡ true)
    (only : (v : ℕ) → reached' v ≡ true → (reached v ≡ true) × (v ≢ w)) where
  abbrev e0 : ℕ
  e0 = wire_ref w

  abbrev split : List (ℕ × ℕ)
  split = (e0, b) ∷ (e0, c) ∷ rest

  abbrev one : List (ℕ × ℕ)
  one = (b, c) ∷ rest

  degree : ends nat_eq e0 split ≡ 2
  degree = sym (alike_ends es split from e0) ∙ before.wires e0 (w, is_wire, refl)

  b_other : e0 ≢ b
  b_other e = omega (arith, degree, same_bit e0 e0 refl, same_bit e0 b e)

  c_other : e0 ≢ c
  c_other e = omega (arith, degree, same_bit e0 e0 refl, same_bit e0 c e)

  none_left : ends nat_eq e0 rest ≡ 0
  none_left = omega (arith, degree, same_bit e0 e0 refl)

  -- an end that isn't the wire's stands where it stood
  same_ends : (e : ℕ) → e ≢ e0 → ends nat_eq e fs ≡ ends nat_eq e es
  same_ends e d = omega (arith, alike_ends fs one to e, alike_ends es split from e, other_bit e e0 d)

  port_other : (p : NamedPort NodeName) (e : ℕ) → IsEnd z N p e → e ≢ e0
  port_other p e h q = omega (arith, before.ports p e h, before.wires e (w, is_wire, q))

  kept : (e : ℕ) → IsWireEnd reached' e → IsWireEnd reached e
  kept e h = (h.0, (only h.0 h.1).0, h.2)

  wire_other : (e : ℕ) → IsWireEnd reached' e → e ≢ e0
  wire_other e h q = (only h.0 h.1).1 (wire_same h.0 w (sym h.2 ∙ q))

  -- every edge goes where its image goes
  abbrev moved : ℕ → ℕ
  moved e = if e == e0 then b else e

  moved_here : moved e0 ≡ b
  moved_here = ap (λ t. if t then b else e0) (eq-eqb e0 e0 refl)

  moved_else : (e : ℕ) → e ≢ e0 → moved e ≡ e
  moved_else e d = ap (λ t. if t then b else e) (ne_eqb e e0 d)

  across : (u v : ℕ) → IsIn (u, v) split → Joined (EdgeOf one) (moved u) (moved v)
  across u v (inl q) =
      let a : moved u ≡ b = ap (λ (x : ℕ × ℕ). moved x.0) q ∙ moved_here in
      let d : moved v ≡ b = ap (λ (x : ℕ × ℕ). moved x.1) q ∙ moved_else b (λ e. b_other (sym e)) in
      subst (λ y. Joined (EdgeOf one) (moved u) y) (a ∙ sym d) here
  across u v (inr (inl q)) =
      let a : moved u ≡ b = ap (λ (x : ℕ × ℕ). moved x.0) q ∙ moved_here in
      let d : moved v ≡ c = ap (λ (x : ℕ × ℕ). moved x.1) q ∙ moved_else c (λ e. c_other (sym e)) in
      let j : Joined (EdgeOf one) b c = on here (inl refl) in
      subst (λ x. Joined (EdgeOf one) x (moved v)) (sym a) (subst (λ y. Joined (EdgeOf one) b y) (sym d) j)
  across u v (inr (inr i)) =
      let a : moved u ≡ u = moved_else u (λ e.
      omega (arith, none_left, subst (λ x. 1 ≤ ends nat_eq x rest) e (ends_first u v rest i))) in
      let d : moved v ≡ v = moved_else v (λ e.
      omega (arith, none_left, subst (λ x. 1 ≤ ends nat_eq x rest) e (ends_second v u rest i))) in
      let j : Joined (EdgeOf one) u v = on here (inr i) in
      subst (λ x. Joined (EdgeOf one) x (moved v)) (sym a) (subst (λ y. Joined (EdgeOf one) u y) (sym d) j)

  return : (u v : ℕ) → IsIn (u, v) one → Joined (EdgeOf split) u v
  return u v (inl q) =
      let j : Joined (EdgeOf split) b c = on (back here (inl refl)) (inr (inl refl)) in
      subst (λ x. Joined (EdgeOf split) x v) (sym (ap (λ (x : ℕ × ℕ). x.0) q))
      (subst (λ y. Joined (EdgeOf split) b y) (sym (ap (λ (x : ℕ × ℕ). x.1) q)) j)
  return u v (inr i) = on here (inr (inr i))

  pub joined_after : (d e : ℕ) → d ≢ e0 → e ≢ e0 → Joined (EdgeOf es) d e ↔ Joined (EdgeOf fs) d e
  joined_after d e nd ne = (
    (λ j. alike_joined one fs (alike_sym fs one to) d e
        (subst (λ x. Joined (EdgeOf one) x e) (moved_else d nd)
        (subst (λ y. Joined (EdgeOf one) (moved d) y) (moved_else e ne)
        (joined_image moved across (alike_joined es split from d e j))))),
    (λ j. alike_joined split es (alike_sym es split from) d e (joined_map return (alike_joined fs one to d e j))),
  )

  pub exchange_stands : StandsForNet z N reached' fs
  exchange_stands = record {
    ports = λ p e h. same_ends e (port_other p e h) ∙ before.ports p e h;
    wires = λ e h. same_ends e (wire_other e h) ∙ before.wires e (kept e h);
    others = λ e some_end. other_end e some_end;
    links = λ p q d e hd he. (
      (λ l. let t = (before.links p q d e hd he).0 l in
          record {
            first = λ h. t.first (kept d h);
            second = λ h. t.second (kept e h);
            apart = t.apart;
            joined = (joined_after d e (port_other p d hd) (port_other q e he)).0 t.joined;
          }),
      (λ t. (before.links p q d e hd he).1
          (record {
            first = port_no_wire p d hd;
            second = port_no_wire q e he;
            apart = t.apart;
            joined = (joined_after d e (port_other p d hd) (port_other q e he)).1 t.joined;
          })),
    );
  }
    where
      port_no_wire : (p : NamedPort NodeName) (e : ℕ) → IsEnd z N p e → IsWireEnd reached e → ⊥
      port_no_wire p e h t = omega (arith, before.ports p e h, before.wires e t)

      still_end : (e : ℕ) → e ≢ e0 → ((p : NamedPort NodeName) × IsEnd z N p e)
          ⊎ IsWireEnd reached e → ((p : NamedPort NodeName) × IsEnd z N p e) ⊎ IsWireEnd reached' e
      still_end e d (inl t) = inl t
      still_end e d (inr t) = inr (t.0, still t.0 t.1 (λ q. d (t.2 ∙ ap wire_ref q)), t.2)

      gone : ends nat_eq e0 fs ≡ 0
      gone = omega (arith, alike_ends fs one to e0, none_left, other_bit e0 b b_other, other_bit e0 c c_other)

      other_end : (e : ℕ) → 0 < ends nat_eq e fs → ((p : NamedPort NodeName) × IsEnd z N p e) ⊎ IsWireEnd reached' e
      other_end e some_end = elim (cases_eq e e0) [
        | inl q ↦ absurd (omega (arith, some_end, gone, ap (λ x. ends nat_eq x fs) q))
        | inr d ↦ still_end e d (before.others e (omega (arith, some_end, same_ends e d)))
      ]
