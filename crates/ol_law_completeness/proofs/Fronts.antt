-- Over birth names: a pair that a chain meets stays, until it is rewritten itself; and a run that
-- rewrites it may do so first.
use Rattle.std.proofs.Common.{◌≡◌, ℕ, suc, List, [], ◌∷◌, length, ◌⊎◌, inl, inr, refl, sym, ap, ◌∙◌, subst}
use Rattle.ol_law_edges.specs.Edges.{IsIn}
use Rattle.ol_net.specs.Nets.{NamedNet, slot, SameNet, IsPrincipalOf}
use Rattle.ol_context.specs.Contexts.{Context}
use Rattle.ol_rules.proofs.Relation.{same_refl, same_trans}
use Rattle.ol_rules.proofs.Same.{step_same}
use Rattle.ol_diamond.specs.Births.{BirthName, born, IsBirthNet}
use Rattle.ol_diamond.specs.Runs.{BirthPair, IsSamePair, IsPairStep, IsPairRun, end, then}
use Rattle.ol_diamond.proofs.Confluence.{pair_is, step_keeps, take, one_pair, pairs_commute}
use Rattle.ol_law_completeness.specs.Least.{Meets}
use Rattle.ol_law_completeness.proofs.Frozen.{clean_stays}

-- ---- a chain up to a pair stays

module _ (N M : NamedNet BirthName) (p q : BirthPair) (b : IsBirthNet N) (s : IsPairStep N p M)
    (other : IsSamePair p q → ⊥) (port : ℕ) (c : Context) (m : Meets N port c q.f q.g q.rule) where
  pub meets_still : Meets M port c q.f q.g q.rule
  meets_still =
      let a = m.at.active in
      let t = take N b q a.k a.i a.l a.j a.faces a.fits in
      let o = pairs_commute N M t.after p q b s t.step other in
      let x = clean_stays N M (born p.f p.g) p.f p.g p.rule b.net (step_keeps N M p b s).net s
      m.clean (not_f o.0.0 o.0.1 m.at.principal) (not_g o.0.2 o.0.3 m.at.principal) in
      record {
        made = m.made;
        port = m.port;
        context = m.context;
        clean = x.0;
        at = record { active = o.1.2.active; principal = m.at.principal };
      }
    where
      not_f : (p.f ≡ q.f → ⊥) → (p.f ≡ q.g → ⊥) → IsPrincipalOf q.f q.g m.port →
          m.port ≡ slot p.f 0 → ⊥
      not_f x y (inl e) z = let w : slot p.f 0 ≡ slot q.f 0 = sym z ∙ e in x (cc)
      not_f x y (inr e) z = let w : slot p.f 0 ≡ slot q.g 0 = sym z ∙ e in y (cc)

      not_g : (p.g ≡ q.f → ⊥) → (p.g ≡ q.g → ⊥) → IsPrincipalOf q.f q.g m.port →
          m.port ≡ slot p.g 0 → ⊥
      not_g x y (inl e) z = let w : slot p.g 0 ≡ slot q.f 0 = sym z ∙ e in x (cc)
      not_g x y (inr e) z = let w : slot p.g 0 ≡ slot q.g 0 = sym z ∙ e in y (cc)

-- the pair stands in the list, whichever of its nodes is written first
abbrev pub IsAmong : BirthPair → List BirthPair → Type 0
IsAmong q ps = (p : BirthPair) × IsIn p ps × IsSamePair p q

-- The chain is there after a run, or the run rewrites the pair.
pub meets_or_among : (N P : NamedNet BirthName) (ps : List BirthPair) (q : BirthPair) →
    IsBirthNet N → IsPairRun N ps P → (port : ℕ) (c : Context) → Meets N port c q.f q.g q.rule →
    Meets P port c q.f q.g q.rule ⊎ IsAmong q ps
meets_or_among N P [] q b end port c m = inl m
meets_or_among N P (p ∷ ps) q b (then {M = K} s r) port c m =
    by (pair_is p q) (λ k. meets_or_among K P ps q (step_keeps N K p b s) r port c k)
  where
    by : IsSamePair p q ⊎ (IsSamePair p q → ⊥) → (Meets K port c q.f q.g q.rule →
        Meets P port c q.f q.g q.rule ⊎ IsAmong q ps) → Meets P port c q.f q.g q.rule
        ⊎ IsAmong q (p ∷ ps)
    by (inl e) later = inr (p, inl refl, e)
    by (inr n) later = go (later (meets_still N K p q b s n port c m))
      where
        go : Meets P port c q.f q.g q.rule ⊎ IsAmong q ps →
            Meets P port c q.f q.g q.rule ⊎ IsAmong q (p ∷ ps)
        go (inl k) = inl k
        go (inr t) = inr (t.0, inr t.1, t.2)

-- ---- to the front

record Same (N : NamedNet BirthName) (ps : List BirthPair) (M : NamedNet BirthName) : Type 0 where
  after : NamedNet BirthName
  run : IsPairRun N ps after
  same : SameNet M after

run_same : (N N' M : NamedNet BirthName) (ps : List BirthPair) → SameNet N N' → IsPairRun N ps M →
    Same N' ps M
run_same N N' M [] e end = record { after = N'; run = end; same = e }
run_same N N' M (p ∷ ps) e (then {M = K} s r) = record {
  after = M;
  run = then (step_same N N' e (born p.f p.g) p.f p.g p.rule K s) r;
  same = same_refl M;
}

-- what is left of a run once one of its pairs was rewritten first
pub record Front (K : NamedNet BirthName) (q : BirthPair) (ps : List BirthPair)
    (M : NamedNet BirthName) : Type 0 where
  pub rest : List BirthPair
  pub after : NamedNet BirthName
  pub run : IsPairRun K rest after
  pub same : SameNet M after
  pub among : (p : BirthPair) → IsIn p rest → IsIn p ps
  pub others : (p : BirthPair) → IsIn p ps → IsSamePair p q ⊎ IsIn p rest
  pub shorter : suc (length rest) ≡ length ps

pub front : (N K M : NamedNet BirthName) (q : BirthPair) (ps : List BirthPair) → IsBirthNet N →
    IsPairStep N q K → IsPairRun N ps M → IsAmong q ps → Front K q ps M
front N K M q [] b h end (p, i, e) = absurd i
front N K M q (m ∷ ps) b h (then {M = V} k r) t =
    by (pair_is m q) (λ (W : NamedNet BirthName) (x : IsPairStep V q W) (y : IsAmong q ps). front V
    W M q ps (step_keeps N V m b k) x r y)
  where
    by : IsSamePair m q ⊎ (IsSamePair m q → ⊥) → ((W : NamedNet BirthName) → IsPairStep V q W →
        IsAmong q ps → Front W q ps M) → Front K q (m ∷ ps) M
    by (inl e) later =
        let y = run_same V K M ps (one_pair N N V K m q e b (same_refl N) k h) r in
        record {
          rest = ps;
          after = y.after;
          run = y.run;
          same = y.same;
          among = λ p i. inr i;
          others = others e;
          shorter = refl;
        }
      where
        others : IsSamePair m q → (p : BirthPair) → IsIn p (m ∷ ps) → IsSamePair p q ⊎ IsIn p ps
        others e p (inl i) = inl (subst (λ p. IsSamePair p q) (sym i) e)
        others e p (inr i) = inr i
    by (inr n) later =
        let o = (pairs_commute N V K m q b k h n).1 in
        let x = later o.0 o.2 (go t) in
        let y = run_same o.0 o.1 x.after x.rest o.4 x.run in
        record {
          rest = m ∷ x.rest;
          after = y.after;
          run = then o.3 y.run;
          same = same_trans M x.after y.after x.same y.same;
          among = among o.0 x;
          others = others o.0 x;
          shorter = ap suc x.shorter;
        }
      where
        go : IsAmong q (m ∷ ps) → IsAmong q ps
        go (p, inl i, e) = absurd (n (subst (λ p. IsSamePair p q) i e))
        go (p, inr i, e) = (p, i, e)

        among : (W : NamedNet BirthName) (x : Front W q ps M) → (p : BirthPair) →
            IsIn p (m ∷ x.rest) → IsIn p (m ∷ ps)
        among W x p (inl i) = inl i
        among W x p (inr i) = inr (x.among p i)

        others : (W : NamedNet BirthName) (x : Front W q ps M) → (p : BirthPair) →
            IsIn p (m ∷ ps) → IsSamePair p q ⊎ IsIn p (m ∷ x.rest)
        others W x p (inl i) = inr (inl i)
        others W x p (inr i) = on (x.others p i)
          where
            on : IsSamePair p q ⊎ IsIn p x.rest → IsSamePair p q ⊎ IsIn p (m ∷ x.rest)
            on (inl e) = inl e
            on (inr j) = inr (inr j)
