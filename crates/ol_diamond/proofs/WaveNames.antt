-- A step of a net with weights, its nodes under birth names.
use Rattle.std.proofs.Common.{◌≡◌, ℕ, ◌≤◌, refl, sym, subst}
use Rattle.ol_net.specs.declared.parts.Kind.{Kind}
use Rattle.ol_net.specs.declared.parts.Rule.{Rule}
use Rattle.ol_net.specs.Nets.{NamedPort, slot, NamedNet, Linked, IsNet, Faces, port_under}
use Rattle.ol_rules.specs.Rewriting.{Action, action_of}
use Rattle.ol_rules.specs.Laws.{IsFresh}
use Rattle.ol_diamond.specs.Births.{BirthName, born, IsBirthNet}
use Rattle.ol_diamond.specs.Runs.{BirthPair, IsPairStep}
use Rattle.ol_diamond.specs.Waves.{WeightedNet, LinkedWithin, IsWaveStep}
use Rattle.ol_diamond.proofs.Births.{fresh_of}
use Rattle.ol_diamond.proofs.Confluence.{take}
use Rattle.ol_diamond.proofs.Renaming.{IsRenamed, renamed, one_port, real_port, contracted_to, contracted_from}
use Rattle.ol_diamond.proofs.Weighted.{State, StepsBy, LeftBy}

module _ {A : Type 0} (m : A → BirthName) where
  -- what links within n join, under these names
  abbrev pub Image : WeightedNet A → ℕ → NamedPort BirthName → NamedPort BirthName → Type 0
  Image N n U V = (p : NamedPort A) × (q : NamedPort A) × LinkedWithin N n p q
      × (U ≡ port_under m p) × (V ≡ port_under m q)

  unfoldable pub image : WeightedNet A → NamedNet BirthName → State
  image N B = record { net = B; within = Image N }

  module _ (names : ℕ → A) (N : WeightedNet A) (f g : A) (r : Rule) (wave : ℕ) (M : WeightedNet A)
      (s : IsWaveStep names N f g r wave M)
      (net : IsNet N.net) (fresh : IsFresh N.net names) (B : NamedNet BirthName)
      (birth : IsBirthNet B) (renames : IsRenamed m N.net B)
      (births : (n : ℕ) → m (names n) ≡ born (m f) (m g) n) where
    abbrev pub k : Kind
    k = s.step.active.k

    abbrev pub i : ℕ
    i = s.step.active.i

    abbrev pub l : Kind
    l = s.step.active.l

    abbrev pub j : ℕ
    j = s.step.active.j

    abbrev a : Action
    a = action_of r s.step.active.j

    abbrev pub pair : BirthPair
    pair = record { f = m f; g = m g; rule = r }

    faces : Faces B (m f) (m g) k i l j
    faces = record {
      first = renames.nodes_to f k i s.step.active.faces.first;
      second = renames.nodes_to g l j s.step.active.faces.second;
      linked = renames.links_to (slot f 0) (slot g 0) s.step.active.faces.linked;
    }

    fresh' : IsFresh B (born (m f) (m g))
    fresh' = fresh_of B birth (m f) (m g) k l i j (renames.nodes_to f k i s.step.active.faces.first)
        (renames.nodes_to g l j s.step.active.faces.second)

    -- the step under the names
    pub record Named : Type 1 where
      pub after : NamedNet BirthName
      pub step : IsPairStep B pair after
      pub renames_after : IsRenamed m M.net after
      pub waved : StepsBy (image N B) (pair, wave) (image M after)

    one : (p q : NamedPort A) → Linked N.net p q → port_under m p ≡ slot (m f) 0 →
        port_under m q ≡ slot (m g) 0 → (p ≡ slot f 0) × (q ≡ slot g 0)
    one p q h eu ev =
        let c = net.of_ports p q h in
        let d = net.of_ports (slot f 0) (slot g 0) s.step.active.faces.linked in (
          one_port m N.net B renames net f g k i l j a s.step.active.faces names
              (born (m f) (m g)) fresh fresh' births p (slot f 0)
              (real_port m N.net B renames net f g k i l j a s.step.active.faces names
              (born (m f) (m g)) fresh fresh' births p c.0)
              (real_port m N.net B renames net f g k i l j a s.step.active.faces names
              (born (m f) (m g)) fresh fresh' births (slot f 0) d.0) eu,
          one_port m N.net B renames net f g k i l j a s.step.active.faces names
              (born (m f) (m g)) fresh fresh' births q (slot g 0)
              (real_port m N.net B renames net f g k i l j a s.step.active.faces names
              (born (m f) (m g)) fresh fresh' births q c.1)
              (real_port m N.net B renames net f g k i l j a s.step.active.faces names
              (born (m f) (m g)) fresh fresh' births (slot g 0) d.1) ev,
        )

    to : (n : ℕ) (U V : NamedPort BirthName) → Image M n U V → LeftBy (Image N) pair k l j wave n U V
    to n U V (p, q, h, eu, ev) =
        let c = contracted_to m N.net B renames net f g k i l j a s.step.active.faces names
        (born (m f) (m g)) fresh fresh' births
        (LinkedWithin N n) (Image N n) (λ p q h. h.0) (λ p q h. (p, q, h, refl, refl)) (λ P Q h. h)
        (wave ≤ n) p q ((s.weights n p q).0 h) in
        subst (λ U. LeftBy (Image N) pair k l j wave n U V) (sym eu)
        (subst (λ V. LeftBy (Image N) pair k l j wave n (port_under m p) V) (sym ev) c)

    from : (n : ℕ) (U V : NamedPort BirthName) → LeftBy (Image N) pair k l j wave n U V → Image M n U V
    from n U V c =
        let t = contracted_from m N.net B renames net f g k i l j a s.step.active.faces names
        (born (m f) (m g)) fresh fresh' births
        (LinkedWithin N n) (Image N n) (λ p q h. h.0) (λ p q h. (p, q, h, refl, refl)) (λ P Q h. h) (wave ≤ n) U V c in
        (t.0, t.1, (s.weights n t.0 t.1).1 t.2, t.3, t.4)

    weight_to : (n : ℕ) → Image N n (slot (m f) 0) (slot (m g) 0) → N.weight (slot f 0) (slot g 0) ≤ n
    weight_to n (p, q, h, eu, ev) =
        let e = one p q h.0 (sym eu) (sym ev) in
        subst (λ p. N.weight p (slot g 0) ≤ n) e.0 (subst (λ q. N.weight p q ≤ n) e.1 h.1)

    pub named : Named
    unfolding image
    named =
        let t = take B birth pair k i l j faces s.step.active.fits in
        record {
          after = t.after;
          step = t.step;
          renames_after = renamed m N.net B renames net f g k i l j a s.step.active.faces names
              (born (m f) (m g)) fresh fresh' births M.net t.after s.step.rewrites t.rewrites;
          waved = record {
            k = k;
            i = i;
            l = l;
            j = j;
            faces = faces;
            fits = s.step.active.fits;
            rewrites = t.rewrites;
            weight = N.weight (slot f 0) (slot g 0);
            wave = s.wave_is;
            weighs = λ n. (weight_to n, (λ b. (slot f 0, slot g 0, (s.step.active.faces.linked, b), refl, refl)));
            weights = λ n U V. (to n U V, from n U V);
          };
        }
