-- Birth names: a test, parts, and that a step's names are new.
use Rattle.std.proofs.Common.{◌≡◌, ◌≢◌, ℕ, ◌+◌, ◌<◌, Bool, true, false, ◌&&◌, ◌⊎◌, inl, inr, refl}
use Rattle.std.proofs.Common.{sym, ap, ◌∙◌, subst, arith, nat_eq, eq-eqb, eqb-true}
use Rattle.ol_law_edges.specs.Edges.{IsTest}
use Rattle.ol_net.specs.declared.parts.Kind.{Kind}
use Rattle.ol_net.specs.Parts.{arity}
use Rattle.ol_net.specs.Nets.{NamedNet, HasNode, IsNet, Faces, net_under}
use Rattle.ol_rules.specs.Rewriting.{Action, NodeOf, left, of_f, of_g, Rewrites}
use Rattle.ol_rules.specs.Laws.{IsFresh}
use Rattle.ol_rules.proofs.Renaming.{node_from}
use Rattle.ol_rules.proofs.StartNets.{net_to}
use Rattle.ol_diamond.specs.Laws.{StartIsBirthNet}
use Rattle.ol_diamond.specs.Births.{BirthName, init, born, IsPart, IsBirthNet}

abbrev pub same_name : BirthName → BirthName → Bool
same_name (init m) (init n) = nat_eq m n
same_name (born f g m) (born f' g' n) = same_name f f' && (same_name g g' && nat_eq m n)
same_name (init m) (born f' g' n) = false
same_name (born f g m) (init n) = false

three_true : (a b c : Bool) → a && (b && c) ≡ true → (a ≡ true) × (b ≡ true) × (c ≡ true)
three_true true true c h = (refl, refl, h)
three_true true false c h = absurd (cc)
three_true false b c h = absurd (cc)

name_holds : (x : BirthName) → same_name x x ≡ true
name_holds (init n) = eq-eqb n n refl
name_holds (born f g n) = subst (λ b. b && (same_name g g && nat_eq n n) ≡ true)
    (sym (name_holds f)) (subst (λ b. b && nat_eq n n ≡ true) (sym (name_holds g)) (eq-eqb n n refl))

name_tells : (x y : BirthName) → same_name x y ≡ true → x ≡ y
name_tells (init m) (init n) h = ap init (eqb-true m n h)
name_tells (born f g m) (born f' g' n) h =
    let r = three_true (same_name f f') (same_name g g') (nat_eq m n) h in
    let a = name_tells f f' r.0 in
    let b = name_tells g g' r.1 in
    let c = eqb-true m n r.2 in
    cc
name_tells (init m) (born f' g' n) h = absurd (cc)
name_tells (born f g m) (init n) h = absurd (cc)

pub name_test : IsTest same_name
name_test = record { holds = name_holds; tells = name_tells }

part_trans : (x y z : BirthName) → IsPart x y → IsPart y z → IsPart x z
part_trans x y (init n) p q = absurd q
part_trans x y (born f g n) p (inl (inl e)) = inl (inr (subst (λ y. IsPart x y) e p))
part_trans x y (born f g n) p (inl (inr q)) = inl (inr (part_trans x y f p q))
part_trans x y (born f g n) p (inr (inl e)) = inr (inr (subst (λ y. IsPart x y) e p))
part_trans x y (born f g n) p (inr (inr q)) = inr (inr (part_trans x y g p q))

size : BirthName → ℕ
size (init n) = 0
size (born f g n) = 1 + size f + size g

part_smaller : (x y : BirthName) → IsPart x y → size x < size y
unfolding size
part_smaller x (init n) p = absurd p
part_smaller x (born f g n) (inl (inl e)) = let r = ap size e in omega arith
part_smaller x (born f g n) (inl (inr q)) = let r = part_smaller x f q in omega arith
part_smaller x (born f g n) (inr (inl e)) = let r = ap size e in omega arith
part_smaller x (born f g n) (inr (inr q)) = let r = part_smaller x g q in omega arith

not_part : (x : BirthName) → IsPart x x → ⊥
not_part x p = let r = part_smaller x x p in omega arith

pub fresh_of : (N : NamedNet BirthName) → IsBirthNet N → (f g : BirthName) (k l : Kind) (i j : ℕ) →
    HasNode N f k i → HasNode N g l j → IsFresh N (born f g)
fresh_of N birth_net f g k l i j h h' = record {
  apart = λ m n e. cc;
  unused = λ x m n p hx e. birth_net.no_part f x k m i n h hx (subst (λ x. IsPart f x) (sym e) (inl (inl refl)));
}

-- a step keeps names apart
pub birth_net_kept : (N M : NamedNet BirthName) (f g : BirthName) (k : Kind) (i : ℕ) (l : Kind)
    (j : ℕ) (a : Action) → IsBirthNet N → Faces N f g k i l j →
    Rewrites (born f g) N f g k i l a M → IsNet M → IsBirthNet M
birth_net_kept N M f g k i l j a birth_net faces r c = record { net = c; no_part = no_part }
  where
    Source : BirthName → Type 0
    Source x = ((m : Kind) × (n : ℕ) × HasNode N x m n × (x ≢ f) × (x ≢ g)) ⊎ ((q : ℕ) × (x ≡ born f g q))

    source : (x : BirthName) (m : Kind) (n : ℕ) → NodeOf N (born f g) f g k i l a x m n → Source x
    source x m n (left h x' x'') = inl (m, n, h, x', x'')
    source x m n (of_f {q = q} j' e b) = inr (q, refl)
    source x m n (of_g {p = p} j' e b) = inr (arity l + p, refl)

    f_part : (q : ℕ) → IsPart f (born f g q)
    f_part q = inl (inl refl)

    g_part : (q : ℕ) → IsPart g (born f g q)
    g_part q = inr (inl refl)

    of_born : (x : BirthName) → Source x → (q : ℕ) → IsPart x (born f g q) → ⊥
    of_born x (inl s) q (inl (inl e)) = s.3 e
    of_born x (inl s) q (inl (inr p)) = birth_net.no_part x f s.0 k s.1 i s.2 faces.first p
    of_born x (inl s) q (inr (inl e)) = s.4 e
    of_born x (inl s) q (inr (inr p)) = birth_net.no_part x g s.0 l s.1 j s.2 faces.second p
    of_born x (inr (n, e)) q (inl (inl z)) = not_part f (subst (λ y. IsPart f y) (sym e ∙ z) (f_part n))
    of_born x (inr (n, e)) q (inl (inr p)) = not_part f
        (part_trans f x f (subst (λ y. IsPart f y) (sym e) (f_part n)) p)
    of_born x (inr (n, e)) q (inr (inl z)) = not_part g (subst (λ y. IsPart g y) (sym e ∙ z) (g_part n))
    of_born x (inr (n, e)) q (inr (inr p)) = not_part g
        (part_trans g x g (subst (λ y. IsPart g y) (sym e) (g_part n)) p)

    go : (x y : BirthName) → Source x → Source y → IsPart x y → ⊥
    go x y (inl s) (inl s') p = birth_net.no_part x y s.0 s'.0 s.1 s'.1 s.2 s'.2 p
    go x y (inr (n, e)) (inl s') p = birth_net.no_part f y k s'.0 i s'.1 faces.first s'.2
        (part_trans f x y (subst (λ y. IsPart f y) (sym e) (f_part n)) p)
    go x y s (inr (q, e)) p = of_born x s q (subst (λ y. IsPart x y) e p)

    no_part : (x y : BirthName) (m n : Kind) (u v : ℕ) → HasNode M x m u → HasNode M y n v → IsPart x y → ⊥
    no_part x y m n u v h h' p = go x y (source x m u ((r.nodes x m u).0 h)) (source y n v ((r.nodes y n v).0 h')) p

pub start_is_birth_net : StartIsBirthNet
start_is_birth_net N n = record { net = net_to init (λ x y e. cc) N n; no_part = no_part }
  where
    no_part : (x y : BirthName) (k l : Kind) (i j : ℕ) → HasNode (net_under init N) x k i →
        HasNode (net_under init N) y l j → IsPart x y → ⊥
    no_part x y k l i j h h' p = let t = node_from init N y l j h' in subst (λ y. IsPart x y) t.2 p
