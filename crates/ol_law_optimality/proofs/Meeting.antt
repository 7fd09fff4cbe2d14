-- A head step keeps the sites that the root's walks meet, one for each, but its own redex's.
use Rattle.std.proofs.Common.{◌≡◌, ℕ, ◌<◌, true, false, ◌⊎◌, inl, inr, refl, subst}
use Rattle.ol_law_meaning.specs.Contraction.{Tree, var, free, lam, app, Level, empty, Context, Place, root}
use Rattle.ol_law_meaning.specs.Contraction.{Spot, at, Edge, Trail, HeadStep}
use Rattle.ol_law_meaning.specs.Heads.{os, outer}
use Rattle.ol_law_meaning.specs.Steps.{Same}
use Rattle.ol_law_meaning.proofs.Ways.{Next, follow}
use Rattle.ol_law_meaning.proofs.Mains.{Chain, top, down, chain_trail}
use Rattle.ol_law_meaning.proofs.Walking.{short_os, passing, least_or, root_stays}
use Rattle.ol_term.specs.declared.translations.Translation.{Translation}
use Rattle.ol_law_optimality.specs.Met.{IsMatched, IsMet, blank}
pub use Rattle.ol_law_optimality.specs.Wanted.{Comes}
use Rattle.ol_law_meaning.specs.Sites.{Site, self, in_lam, in_function, in_argument, spot_in, PartAt, function_at}
use Rattle.ol_law_optimality.proofs.Sites.{base, Is, Stands, no_root, same_site}
use Rattle.ol_law_optimality.proofs.Heads.{Goes, step_of}

-- the part is what stands there
pub lam_is : (u : Tree) → Is false u → (M : Tree) × (u ≡ lam M)
lam_is (lam M) h = (M, refl)
lam_is (var _) h = elim h [ ]
lam_is (free _) h = elim h [ ]
lam_is (app _ _) h = elim h [ ]

pub app_is : (u : Tree) → Is true u → (F : Tree) × (A : Tree) × (u ≡ app F A)
app_is (app F A) h = (F, A, refl)
app_is (var _) h = elim h [ ]
app_is (free _) h = elim h [ ]
app_is (lam _) h = elim h [ ]

-- ---- with too few marks, no application is met

no_chain : {c : Context} {t : Tree} {v : Level} {s : Spot} (p : Site) (u : Level) (d : Context) →
    Chain c t v s → s ≡ spot_in p (base true u d) → ⊥
no_chain {c = c} {v = v} p u d top e = no_root p u v d c root e
no_chain self u d (down k) e = absurd (cc)
no_chain (in_lam p) u d (down {s = s} k) e = no_chain p u d k (let j : s ≡ spot_in p (base true u d) = cc in j)
no_chain (in_function p) u d (down k) e = absurd (cc)
no_chain (in_argument a p) u d (down k) e = absurd (cc)

module _ {τ : Translation} where
  pub too_few : {t : Tree} (p : Site) (n m : ℕ) (c d : Context) (v : Level) → n < outer t →
      Trail (Edge τ t) (at root (os n empty) c) (function_at p v d) m → ⊥
  too_few {t = t} p n m c d v h r = no_chain p v d (chain_trail c t (os n empty) (short_os t n h) r top) refl

-- ---- the step

-- site q of the term after a step is what site p becomes
pub record Becomes (τ : Translation) {t t' : Tree} (h : HeadStep t t') (p q : Site) : Type 0 where
  pub stands : Stands true t p
  pub other : (p ≡ (step_of τ h).redex) → ⊥
  pub all : (w : Level) (d : Context) → (step_of τ h).way.R (function_at p w d) (function_at q w d)

module _ (τ : Translation) {t t' : Tree} (h : HeadStep t t') where
  -- two sites don't become one
  pub becomes_one : (p q r : Site) → Becomes τ h p r → Becomes τ h q r → p ≡ q
  becomes_one p q r a b = (step_of τ h).one p q empty blank
      (function_at r empty blank) a.stands b.stands a.other b.other (a.all empty blank) (b.all empty blank)

  pub matched_goes : (p q : Site) → Becomes τ h p q → Stands true t' q → IsMatched τ t p → IsMatched τ t' q
  matched_goes p q b s m =
      let w = (step_of τ h).way in
      let k = follow w m.trail (b.all empty blank) in
      let g = (step_of τ h).comes m.other blank k.spot (lam m.inner, m.is_other, tt) k.rel in
      let f = app_is s.0 s.2 in
      let l = lam_is g.there.0 g.there.2 in
      record {
        function = f.0;
        argument = f.1;
        is = subst (λ u. PartAt t' q u) f.2 s.1;
        other = g.site;
        inner = l.0;
        is_other = subst (λ u. PartAt t' g.site u) l.1 g.there.1;
        weight = k.weight;
        trail = subst (λ z. Trail (Edge τ t') (function_at q empty blank) z k.weight) g.is k.trail;
      }

  -- a walk comes to it after the step too, from where its place stands then
  pub goes_on : (p : Site) (y : Place) (v v' : Level) (c : Context) → Same τ h y v v' →
      Comes τ t (at y v c) p → (p ≡ (step_of τ h).redex → ⊥) →
      (q : Site) × Comes τ t' (at y v' c) q × Becomes τ h p q
  goes_on p y v v' c e m f =
      let w = (step_of τ h).way in
      let k = follow w m.way (w.start y v v' c e) in
      by k (let a = m.matched in (step_of τ h).goes p m.level m.later k.spot
      (app a.function a.argument, a.is, tt) k.rel)
    where
      by : (k : Next τ t' (step_of τ h).way.R true (function_at p m.level m.later) (at y v' c) m.steps) →
          (p ≡ (step_of τ h).redex) ⊎ Goes t' (step_of τ h).way.R p m.level m.later k.spot →
          (q : Site) × Comes τ t' (at y v' c) q × Becomes τ h p q
      by k (inl e) = absurd (f e)
      by k (inr g) =
          let a = m.matched in
          let b : Becomes τ h p g.site = record {
            stands = (app a.function a.argument, a.is, tt);
            other = f;
            all = g.all;
          } in (
            g.site,
            record {
              matched = matched_goes p g.site b g.there a;
              level = m.level;
              later = m.later;
              steps = k.weight;
              way = subst (λ z. Trail (Edge τ t') (at y v' c) z k.weight) g.is k.trail;
            },
            b,
          )

  -- and from the root, asked for some number of abstractions
  pub root_goes : (p : Site) (n : ℕ) (c : Context) → Comes τ t (at root (os n empty) c) p →
      (p ≡ (step_of τ h).redex → ⊥) →
      (q : Site) × Comes τ t' (at root (os n empty) c) q × Becomes τ h p q
  root_goes p n c m f = elim (least_or (outer t) n) [
    | inl few ↦ absurd (too_few p n m.steps c m.later m.level few m.way)
    | inr enough ↦ goes_on p root (os n empty) (os n empty) c (root_stays τ h n (passing t n enough)) m f
  ]

  pub met_goes : (p : Site) → IsMet τ t p → (p ≡ (step_of τ h).redex) ⊎ ((q : Site) × IsMet τ t' q × Becomes τ h p q)
  met_goes p m = elim (same_site p (step_of τ h).redex) [
    | inl e ↦ inl e
    | inr f ↦ (
        let x = root_goes p m.lams m.first (record {
          matched = m.matched;
          level = m.level;
          later = m.later;
          steps = m.steps;
          way = m.way;
        }) f in
        let y = x.1 in
        inr (
          x.0,
          record {
            matched = y.matched;
            lams = m.lams;
            first = m.first;
            level = y.level;
            later = y.later;
            steps = y.steps;
            way = y.way;
          },
          x.2,
        ))
  ]
