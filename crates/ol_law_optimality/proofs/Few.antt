-- The virtual redexes on the root's walks are at most as many as head steps.
use Rattle.std.proofs.Common.{◌≡◌, ℕ, suc, inl, inr, List, [], ◌∷◌, length, refl, sym, ap, arith, subst}
use Rattle.ol_context.specs.Asked.{asked}
use Rattle.ol_context.specs.Contexts.{Context, tail}
use Rattle.ol_law_edges.specs.Edges.{IsIn}
use Rattle.ol_net.specs.Numbered.{net_of}
use Rattle.ol_net.specs.Nets.{NamedNet, IsNet, SameNet, net_under}
use Rattle.ol_demand.specs.Answers.{start_of}
use Rattle.ol_rules.proofs.Renaming.{node_from, link_from}
use Rattle.ol_rules.proofs.StartNets.{one_start, start_net}
use Rattle.ol_rules.specs.declared.journal.NodeName.{NodeName}
use Rattle.ol_rules.specs.declared.journal.NodeName.TheVariants.{Init}
use Rattle.ol_law_meaning.specs.Sites.{Site}
use Rattle.ol_law_meaning.specs.Spots.{root, at, place}
use Rattle.ol_term.specs.Trees.{Tree}
use Rattle.ol_term.specs.declared.translations.Translation.{Translation}
use Rattle.ol_translate.specs.Names.{HasNames}
use Rattle.ol_translate.specs.Translation.{translation_of}
use Rattle.ol_law_optimality.specs.RouteLaws as routes
use Rattle.ol_law_optimality.specs.Redexes.{IsVirtualRedex}
use Rattle.ol_law_optimality.specs.Routes.{Route}
use Rattle.ol_law_optimality.specs.Seen.{IsSeen}
use Rattle.ol_law_optimality.specs.Met.{IsMet, AreDifferent, SeenIsFew}
use Rattle.ol_law_optimality.proofs.Counting.{met_few}
use Rattle.ol_law_optimality.proofs.Meeting.{Comes}
use Rattle.ol_law_optimality.proofs.SitesSeen.{IsNamed, MetAt, met_at, one_route}

pub named : (K N : NamedNet ℕ) → SameNet K N → IsNamed Init N (net_under Init K)
named K N same = record {
  one = one_start;
  nodes = λ y k i h. (let r = node_from Init K y k i h in (r.0, (same.nodes r.0 k i).0 r.1, r.2));
  links = λ P Q l. (let r = link_from Init K P Q l in (r.0, r.1, r.2, r.3, (same.links r.0 r.1).0 r.4));
}

module _ (τ : Translation) (t : Tree) (names : ℕ) (h : HasNames t names) (M : NamedNet NodeName)
    (n : IsNet M) (I : IsNamed Init (translation_of τ t names) M) where
  -- Walks that are asked for, and what holds of a site to which one of them comes.
  module _ (IsAsked : ℕ → Context → Type 0) (W : Site → Type 0)
      (gives : (p : ℕ) (c : Context) (q : Site) → IsAsked p c → Comes τ t (at (place p) (c 0) (tail c)) q → W q) where
    pub record Sites (ss : List (Route NodeName)) : Type 0 where
      pub sites : List Site
      pub different : AreDifferent sites
      pub met : (q : Site) → IsIn q sites → W q
      pub count : length ss ≡ length sites
      pub back : (q : Site) → IsIn q sites →
          (s : Route NodeName) × IsIn s ss × (V : IsVirtualRedex M s) × (p : ℕ) × (c : Context)
          × (a : MetAt Init M n τ t names h I s V p c) × (q ≡ a.at_site.site)

    more : (s : Route NodeName) (ss : List (Route NodeName)) → routes.AreDifferent (s ∷ ss) →
        Sites ss → (p : ℕ) (c : Context) (S : IsSeen M p c s) → IsAsked p c →
        MetAt Init M n τ t names h I s S.redex p c → Sites (s ∷ ss)
    more s ss d r p c S k a = record {
      sites = a.at_site.site ∷ r.sites;
      different = (
        (λ i.
            let b = r.back a.at_site.site i in
            let e = one_route Init M n τ t names h I s b.0 S.redex b.2 p b.3 c b.4 a b.5 b.6 in
            d.0 (subst (λ u. IsIn u ss) (sym e) b.1)),
        r.different,
      );
      met = all;
      count = ap suc r.count;
      back = back';
    }
      where
        all : (q : Site) → IsIn q (a.at_site.site ∷ r.sites) → W q
        all q (inl e) = subst W (sym e) (gives p c a.at_site.site k a.comes)
        all q (inr i) = r.met q i

        back' : (q : Site) → IsIn q (a.at_site.site ∷ r.sites) →
            (u : Route NodeName) × IsIn u (s ∷ ss) × (V : IsVirtualRedex M u) × (p : ℕ)
            × (c : Context) × (b : MetAt Init M n τ t names h I u V p c) × (q ≡ b.at_site.site)
        back' q (inl e) = (s, inl refl, S.redex, p, c, a, e)
        back' q (inr i) = let b = r.back q i in (b.0, inr b.1, b.2, b.3, b.4, b.5, b.6)

    pub sites_of : (ss : List (Route NodeName)) → routes.AreDifferent ss →
        ((s : Route NodeName) → IsIn s ss → (p : ℕ) × (c : Context) × IsAsked p c × IsSeen M p c s) → Sites ss
    sites_of [] d f = record { sites = []; different = tt; met = λ p i. absurd i; count = refl; back = λ p i. absurd i }
    sites_of (s ∷ ss) d f =
        let x = f s (inl refl) in
        more s ss d (sites_of ss d.1 (λ u i. f u (inr i))) x.0 x.1 x.3 x.2 (met_at Init M n τ t names h I s x.0 x.1 x.3)

-- the root is asked for some number of abstractions
abbrev IsRootAsked : ℕ → Context → Type 0
IsRootAsked p c = (p ≡ 0) × ((lams : ℕ) × (c ≡ asked [] lams))

module _ (τ : Translation) (t : Tree) where
  root_met : (p : ℕ) (c : Context) (q : Site) → IsRootAsked p c →
      Comes τ t (at (place p) (c 0) (tail c)) q → IsMet τ t q
  root_met p c q k m =
      let lams = k.1.0 in
      let x = subst (λ (c : Context). Comes τ t (at root (c 0) (tail c)) q) k.1.1
      (subst (λ p. Comes τ t (at (place p) (c 0) (tail c)) q) k.0 m) in
      record {
        matched = x.matched;
        lams = lams;
        first = tail (asked [] lams);
        level = x.level;
        later = x.later;
        steps = x.steps;
        way = x.way;
      }

pub seen_is_few : SeenIsFew
seen_is_few τ t u names h g n same m s q a j k ss d f =
    let r = sites_of τ t names h (start_of g) (start_net (net_of g) n)
    (named (net_of g) (translation_of τ t names) same) IsRootAsked (IsMet τ t) (root_met τ t) ss d
    (λ s i. (0, asked [] (f s i).0, (refl, ((f s i).0, refl)), (f s i).1)) in
    let x = met_few τ s q a j k r.sites r.different r.met in
    let y = r.count in
    omega arith
