-- The applications of redexes that the root's walks meet are at most as many as head steps, and
-- those that all questions come to are at most as many as the leftmost steps to a normal form.
use Rattle.std.proofs.Common.{◌≡◌, ℕ, suc, ◌+◌, ◌≤◌, Bool, true, false, ◌⊎◌, inl, inr, List, []}
use Rattle.std.proofs.Common.{◌∷◌, length, refl, sym, ap, ◌∙◌, subst, arith}
use Rattle.ol_law_edges.specs.Edges.{IsIn}
use Rattle.ol_law_meaning.specs.Contraction.{Tree, lam, app, empty, HeadStep, Place, Level}
use Rattle.ol_law_meaning.specs.Heads.{Normal, Steps, done, step}
use Rattle.ol_term.specs.declared.translations.Translation.{Translation}
use Rattle.ol_law_optimality.specs.Met.{IsMet, AreDifferent, AreMet}
use Rattle.ol_law_meaning.specs.Sites.{Site, in_lam, in_function, in_argument}
use Rattle.ol_law_optimality.proofs.Counted.{Costs, head, arguments, of_var, of_free, of_lam, of_app}
use Rattle.ol_law_optimality.proofs.Heads.{step_of}
use Rattle.ol_law_optimality.proofs.Meeting.{met_goes, Becomes, becomes_one}
use Rattle.ol_law_optimality.proofs.Lanes.{none_met}
use Rattle.ol_law_optimality.proofs.Wanted.{IsWanted, wanted_goes, ArgWanted, in_last, in_earlier, in_body, arg_wanted}

abbrev pub Are : (Site → Type 0) → List Site → Type 0
Are W ps = (p : Site) → IsIn p ps → W p

-- Sites of which W holds, before a step, and W' after it.
module _ (τ : Translation) {t t' : Tree} (h : HeadStep t t') (W W' : Site → Type 0)
    (goes : (p : Site) → W p → (p ≡ (step_of τ h).redex) ⊎ ((q : Site) × W' q × Becomes τ h p q)) where
  -- those of t' that these become, all but n of them
  record Rest (ps : List Site) (n : ℕ) : Type 0 where
    sites : List Site
    different : AreDifferent sites
    met : Are W' sites
    follow : (q : Site) → IsIn q sites → (p : Site) × IsIn p ps × Becomes τ h p q
    count : length ps ≤ n + length sites

  one_more : (p : Site) (ps : List Site) (n : ℕ) → (IsIn p ps → ⊥) →
      (q : Site) × W' q × Becomes τ h p q → Rest ps n → Rest (p ∷ ps) n
  one_more p ps n d x r = record {
    sites = x.0 ∷ r.sites;
    different = (
      (λ i.
          let y = r.follow x.0 i in
          let e = becomes_one τ h p y.0 x.0 x.2 y.2 in
          d (subst (λ p. IsIn p ps) (sym e) y.1)),
      r.different,
    );
    met = all;
    follow = back;
    count = (let c = r.count in omega arith);
  }
    where
      all : (q : Site) → IsIn q (x.0 ∷ r.sites) → W' q
      all q (inl e) = subst W' (sym e) x.1
      all q (inr i) = r.met q i

      back : (q : Site) → IsIn q (x.0 ∷ r.sites) → (p' : Site) × IsIn p' (p ∷ ps) × Becomes τ h p' q
      back q (inl e) = (p, inl refl, subst (λ q. Becomes τ h p q) (sym e) x.2)
      back q (inr i) = let y = r.follow q i in (y.0, inr y.1, y.2)

  nothing : (n : ℕ) → Rest [] n
  nothing n = record {
    sites = [];
    different = tt;
    met = λ q i. absurd i;
    follow = λ q i. absurd i;
    count = omega arith;
  }

  -- all but the redex's own
  others : (ps : List Site) → AreDifferent ps → Are W ps →
      ((p : Site) → IsIn p ps → p ≡ (step_of τ h).redex → ⊥) → Rest ps 0
  others [] d m f = nothing 0
  others (p ∷ ps) d m f = elim (goes p (m p (inl refl))) [
    | inl e ↦ absurd (f p (inl refl) e)
    | inr x ↦ one_more p ps 0 d.0 x (others ps d.1 (λ q i. m q (inr i)) (λ q i. f q (inr i)))
  ]

  all_but_one : (ps : List Site) → AreDifferent ps → Are W ps → Rest ps 1
  all_but_one [] d m = nothing 1
  all_but_one (p ∷ ps) d m = elim (goes p (m p (inl refl))) [
    | inl e ↦ (
        let r = others ps d.1 (λ q i. m q (inr i)) (λ q i g. d.0 (subst (λ q. IsIn q ps) (g ∙ sym e) i)) in
        record {
          sites = r.sites;
          different = r.different;
          met = r.met;
          follow = λ q i. (let y = r.follow q i in (y.0, inr y.1, y.2));
          count = (let c = r.count in omega arith);
        })
    | inr x ↦ one_more p ps 1 d.0 x (all_but_one ps d.1 (λ q i. m q (inr i)))
  ]

  one_fewer : (ps : List Site) → AreDifferent ps → Are W ps →
      (qs : List Site) × AreDifferent qs × Are W' qs × (length ps ≤ suc (length qs))
  one_fewer ps d m = let r = all_but_one ps d m in let c = r.count in (r.sites, r.different, r.met, (omega arith))

module _ (τ : Translation) where
  pub met_few : {t u : Tree} {m : ℕ} → Steps t u m → (q : Place) (a : Level) (j : ℕ) → Normal u q a j →
      (ps : List Site) → AreDifferent ps → AreMet τ t ps → length ps ≤ m
  met_few done q a j k [] d f = omega arith
  met_few done q a j k (p ∷ ps) d f = absurd (none_met k p (f p (inl refl)))
  met_few (step {t = t} {t' = t'} h s) q a j k ps d f =
      let r = one_fewer τ h (IsMet τ t) (IsMet τ t') (met_goes τ h) ps d f in
      let x = met_few s q a j k r.0 r.1 r.2 in
      let y = r.3 in
      omega arith

-- ---- sites in an application, parted

module _ (τ : Translation) where
  record Halves (R P : Tree) (ps : List Site) : Type 0 where
    functions : List Site
    arguments : List Site
    functions_differ : AreDifferent functions
    arguments_differ : AreDifferent arguments
    functions_wanted : Are (ArgWanted τ R) functions
    arguments_wanted : Are (IsWanted τ P) arguments
    functions_are : (p : Site) → IsIn p functions → IsIn (in_function p) ps
    arguments_are : (p : Site) → IsIn p arguments → IsIn (in_argument empty p) ps
    count : length ps ≡ length functions + length arguments

  function_more : {R P : Tree} (p : Site) (ps : List Site) → (IsIn (in_function p) ps → ⊥) →
      ArgWanted τ R p → Halves R P ps → Halves R P (in_function p ∷ ps)
  function_more {R = R} p ps d w r = record {
    functions = p ∷ r.functions;
    arguments = r.arguments;
    functions_differ = ((λ i. d (r.functions_are p i)), r.functions_differ);
    arguments_differ = r.arguments_differ;
    functions_wanted = all;
    arguments_wanted = r.arguments_wanted;
    functions_are = are;
    arguments_are = λ q i. inr (r.arguments_are q i);
    count = (let c = r.count in omega arith);
  }
    where
      all : (q : Site) → IsIn q (p ∷ r.functions) → ArgWanted τ R q
      all q (inl e) = subst (ArgWanted τ R) (sym e) w
      all q (inr i) = r.functions_wanted q i

      are : (q : Site) → IsIn q (p ∷ r.functions) → IsIn (in_function q) (in_function p ∷ ps)
      are q (inl e) = inl (ap in_function e)
      are q (inr i) = inr (r.functions_are q i)

  argument_more : {R P : Tree} (p : Site) (ps : List Site) → (IsIn (in_argument empty p) ps → ⊥) →
      IsWanted τ P p → Halves R P ps → Halves R P (in_argument empty p ∷ ps)
  argument_more {P = P} p ps d w r = record {
    functions = r.functions;
    arguments = p ∷ r.arguments;
    functions_differ = r.functions_differ;
    arguments_differ = ((λ i. d (r.arguments_are p i)), r.arguments_differ);
    functions_wanted = r.functions_wanted;
    arguments_wanted = all;
    functions_are = λ q i. inr (r.functions_are q i);
    arguments_are = are;
    count = (let c = r.count in omega arith);
  }
    where
      all : (q : Site) → IsIn q (p ∷ r.arguments) → IsWanted τ P q
      all q (inl e) = subst (IsWanted τ P) (sym e) w
      all q (inr i) = r.arguments_wanted q i

      are : (q : Site) → IsIn q (p ∷ r.arguments) → IsIn (in_argument empty q) (in_argument empty p ∷ ps)
      are q (inl e) = inl (ap (in_argument empty) e)
      are q (inr i) = inr (r.arguments_are q i)

  halves : {R P : Tree} (ps : List Site) → AreDifferent ps → Are (ArgWanted τ (app R P)) ps → Halves R P ps
  halves [] d f = record {
    functions = [];
    arguments = [];
    functions_differ = tt;
    arguments_differ = tt;
    functions_wanted = λ q i. absurd i;
    arguments_wanted = λ q i. absurd i;
    functions_are = λ q i. absurd i;
    arguments_are = λ q i. absurd i;
    count = refl;
  }
  halves {R = R} {P = P} (p ∷ ps) d f = by (f p (inl refl)) d.0 (halves ps d.1 (λ q i. f q (inr i)))
    where
      by : {p : Site} → ArgWanted τ (app R P) p → (IsIn p ps → ⊥) → Halves R P ps → Halves R P (p ∷ ps)
      by (in_last {p = q} w) n r = argument_more q ps n w r
      by (in_earlier {p = q} w) n r = function_more q ps n w r

  record Bodies (M : Tree) (ps : List Site) : Type 0 where
    sites : List Site
    differ : AreDifferent sites
    wanted : Are (ArgWanted τ M) sites
    are : (p : Site) → IsIn p sites → IsIn (in_lam p) ps
    count : length ps ≡ length sites

  body_more : {M : Tree} (p : Site) (ps : List Site) → (IsIn (in_lam p) ps → ⊥) → ArgWanted τ M p →
      Bodies M ps → Bodies M (in_lam p ∷ ps)
  body_more {M = M} p ps d w r = record {
    sites = p ∷ r.sites;
    differ = ((λ i. d (r.are p i)), r.differ);
    wanted = all;
    are = are';
    count = ap suc r.count;
  }
    where
      all : (q : Site) → IsIn q (p ∷ r.sites) → ArgWanted τ M q
      all q (inl e) = subst (ArgWanted τ M) (sym e) w
      all q (inr i) = r.wanted q i

      are' : (q : Site) → IsIn q (p ∷ r.sites) → IsIn (in_lam q) (in_lam p ∷ ps)
      are' q (inl e) = inl (ap in_lam e)
      are' q (inr i) = inr (r.are q i)

  bodies : {M : Tree} (ps : List Site) → AreDifferent ps → Are (ArgWanted τ (lam M)) ps → Bodies M ps
  bodies [] d f = record { sites = []; differ = tt; wanted = λ q i. absurd i; are = λ q i. absurd i; count = refl }
  bodies {M = M} (p ∷ ps) d f = by (f p (inl refl)) d.0 (bodies ps d.1 (λ q i. f q (inr i)))
    where
      by : {p : Site} → ArgWanted τ (lam M) p → (IsIn p ps → ⊥) → Bodies M ps → Bodies M (p ∷ ps)
      by (in_body {p = q} w) n r = body_more q ps n w r

  -- ---- all questions

  abbrev Claim : Bool → Tree → Site → Type 0
  Claim true t p = IsWanted τ t p
  Claim false t p = ArgWanted τ t p

  few : {b : Bool} {t : Tree} {m : ℕ} → Costs b t m → (ps : List Site) → AreDifferent ps →
      Are (Claim b t) ps → length ps ≤ m
  few (head {t = t} {t' = t'} h k) ps d f =
      let r = one_fewer τ h (IsWanted τ t) (IsWanted τ t') (wanted_goes τ h) ps d f in
      let x = few k r.0 r.1 r.2 in
      let y = r.3 in
      omega arith
  few (arguments n k) ps d f = few k ps d (λ p i. arg_wanted τ n p (f p i))
  few of_var [] d f = omega arith
  few of_var (p ∷ ps) d f = absurd (let w = f p (inl refl) in elim w [ ])
  few of_free [] d f = omega arith
  few of_free (p ∷ ps) d f = absurd (let w = f p (inl refl) in elim w [ ])
  few (of_lam k) ps d f =
      let r = bodies ps d f in
      let x = few k r.sites r.differ r.wanted in
      let y = r.count in
      omega arith
  few (of_app k l s) ps d f =
      let r = halves ps d f in
      let x = few k r.functions r.functions_differ r.functions_wanted in
      let z = few l r.arguments r.arguments_differ r.arguments_wanted in
      let y = r.count in
      omega arith

  pub wanted_few : {t : Tree} {m : ℕ} → Costs true t m → (ps : List Site) → AreDifferent ps →
      Are (IsWanted τ t) ps → length ps ≤ m
  wanted_few k ps d f = few k ps d f
