-- Where a chain comes to a crossing that isn't defined, its walk meets no active pair.
-- Used in Budgets and DemandPlaces, and for `lost_is_lost`.
use Rattle.std.proofs.Common.{◌≡◌, ℕ, suc, ◌<◌, ◌⊎◌, inl, inr, refl, sym, subst, arith}
use Rattle.ol_net.specs.Nets.{NamedNet, NamedPort, free, slot, IsNet}
use Rattle.ol_context.specs.Contexts.{Context}
use Rattle.ol_context.specs.Paths.{Path}
use Rattle.ol_context.specs.Ways.{Way}
use Rattle.ol_context.proofs.Exits.{Three, three}
use Rattle.ol_context.proofs.Ways.{way_one, way_passes, stopped}
use Rattle.ol_readback.specs.Frames.{asked}
use Rattle.ol_demand.specs.Chains.{IsAtNoPair, Chain, starts, crosses, End, undefined, Stands}
use Rattle.ol_demand.specs.Chains.{at_pair, at_port, barred, at_last, Ends}
use Rattle.ol_demand.proofs.Chains.{chain_way, no_path_at}
use Rattle.ol_law_levels.specs.Demand.{LostIsLost}
use Rattle.ol_law_levels.proofs.Tops.{AtActive, Meets, asked_less}

module _ {A : Type 0} (N : NamedNet A) where
  -- where the chain stood before, it met no pair
  pub record Stood (p : ℕ) (c : Context) (n : ℕ) : Type 0 where
    pub port : NamedPort A
    pub context : Context
    pub chain : Chain N p c n port context
    pub alone : IsAtNoPair N port

  pub stood : {p : ℕ} {c : Context} {m : ℕ} {u : NamedPort A} {d : Context} (n : ℕ) →
      Chain N p c m u d → n < m → Stood p c n
  stood n starts b = absurd (omega arith)
  stood {p = p} {c = c} n (crosses {n = m} {u = u} {d = d} h a b' l k y) b =
      go (λ z. stood n h z) (three n m)
    where
      go : (n < m → Stood p c n) → Three n m → Stood p c n
      go before (inl (inl z)) = before z
      go before (inl (inr z)) =
          let r : Stood p c m = record { port = u; context = d; chain = h; alone = a } in
          subst (λ n. Stood p c n) (sym z) r
      go before (inr z) = absurd (omega arith)

  alone_not : (z : A) → AtActive N z → IsAtNoPair N (slot z 0) → ⊥
  alone_not z (w, r, inl a) h = h z w r (record { active = a; principal = inl refl })
  alone_not z (w, r, inr a) h = h w z r (record { active = a; principal = inr refl })

  module _ (is_net : IsNet N) (p : ℕ) (c : Context) where
    pub apart_at : (n : ℕ) {u : NamedPort A} {d : Context} → Chain N p c n u d → IsAtNoPair N u →
        (m : Meets N (free p) c) → n ≡ m.made → ⊥
    apart_at n {u} {d} h a m e =
        let z = way_one N is_net (subst (λ n. Way' n) e (chain_way N h)) m.way in
        alone_not m.node m.active (subst (λ u. IsAtNoPair N u) z.0 a)
      where
        Way' : ℕ → Type 0
        Way' n = Way N (free p) c n u d

    pub meets_not : Ends N p c undefined → Meets N (free p) c → ⊥
    meets_not x m = go x.stands refl
      where
        go : {end : End A} → Stands N x.made x.port x.context end → end ≡ undefined → ⊥
        go (at_pair y) e = absurd (cc)
        go (at_port y) e = absurd (cc)
        go (at_last y l t b) e = absurd (cc)
        go (barred {x = z} {s = s} a l b) e = by (three x.made m.made)
          where
            by : Three x.made m.made → ⊥
            by (inl (inl y)) =
                stopped N is_net {edges = suc x.made} {n = suc x.made} (record {
                  made = x.made;
                  tried = refl;
                  within = omega arith;
                  stands = record {
                    port = x.port;
                    context = x.context;
                    way = chain_way N x.chain;
                    node = z;
                    at = s;
                    linked = l;
                  };
                  barred = b;
                }) (way_passes N x.made m.way y)
            by (inl (inr y)) = apart_at x.made x.chain a m y
            by (inr y) = let s = stood m.made x.chain y in apart_at m.made s.chain s.alone m refl

module _ {A : Type 0} where
  pub lost_is_lost : LostIsLost A
  lost_is_lost N is_net L p ls n few ends m more q X r =
      go (asked_less N L is_net p ls n m q X r few more)
    where
      go : ((q' : ℕ) × (X' : Context) × Path N (free p) (asked ls n) q' X')
          ⊎ Meets N (free p) (asked ls n) → ⊥
      go (inl t) = no_path_at N is_net p (asked ls n) ends t.0 t.1 t.2
      go (inr t) = meets_not N is_net p (asked ls n) ends t
