-- A labelled head step is the leftmost one, and the root's walk meets its redex.
use Rattle.std.proofs.Common.{◌≡◌, ℕ, ◌+◌, false, if◌then◌else◌, [], ◌∷◌, ◌++◌, Some, refl, ap, ◌∙◌, subst, append-nil}
use Rattle.std.specs.Option.{option_map, option_or}
use Rattle.ol_beta.specs.Leftmost.{leftmost}
use Rattle.ol_beta.specs.Leftmost as beta_steps
use Rattle.ol_law_optimality.specs.Met.{blank}
use Rattle.ol_law_meaning.specs.Heads.{os, outer}
use Rattle.ol_law_meaning.specs.Contraction.{Tree, var, free, lam, app, Level, empty, o, Context, root, Spot, at, body}
use Rattle.ol_law_meaning.specs.Contraction.{fun, Edge, lam_root, app_root, Trail, here, on, is_abstraction}
use Rattle.ol_law_optimality.specs.Labels.{Label, Labelled, erased}
use Rattle.ol_law_optimality.specs.Labels as labels
use Rattle.ol_law_meaning.specs.Sites.{Site, self, in_lam, in_function, PartAt, whole, of_lam, of_function, function_at}
use Rattle.ol_law_meaning.specs.Sites.{abstraction_at}
use Rattle.ol_law_meaning.proofs.Trails.{tr_body, tr_fun}
use Rattle.ol_term.specs.declared.translations.Translation.{Translation}
use Rattle.ol_law_optimality.specs.Signs.{signs_of}
use Rattle.ol_law_optimality.specs.Readings.{word_along, function_label, HeadContracts, at_redex, below_lam}
use Rattle.ol_law_optimality.specs.Readings.{before_argument, HeadIsLeftmost, DegreesAreMet}

pub head_is_leftmost : HeadIsLeftmost
head_is_leftmost T U d (at_redex b c v w) = ([], refl, refl, refl)
head_is_leftmost T U d (below_lam {t = t} {u = u} w h) =
    let r = head_is_leftmost t u d h in
    (0 ∷ r.0, ap (beta_steps.under 0) r.1, r.2, ap (option_map (λ t. labels.lam t w)) r.3)
head_is_leftmost T U d (before_argument {f = f} {g = g} a w e h) =
    let r = head_is_leftmost f g d h in (
      1 ∷ r.0,
      ap (λ b. if b then Some [] else option_or (beta_steps.under 1 (leftmost (erased f))) (beta_steps.under 2 (leftmost (erased a)))) e
          ∙ ap (λ x. option_or (beta_steps.under 1 x) (beta_steps.under 2 (leftmost (erased a)))) r.1,
      r.2,
      ap (option_map (λ g. labels.app g a w)) r.3,
    )

flat_outer : (t : Tree) → is_abstraction t ≡ false → outer t ≡ 0
flat_outer (var y) e = refl
flat_outer (free f) e = refl
flat_outer (lam t) e = absurd (cc)
flat_outer (app t u) e = refl

module _ (τ : Translation) where
  -- where the redex of a head step stands
  pub record Leads (T : Labelled) (d : Label) : Type 0 where
    pub site : Site
    pub other : Site
    pub function : Tree
    pub argument : Tree
    pub is : PartAt (erased T) site (app (lam function) argument)
    pub is_other : PartAt (erased T) other (lam function)
    pub same : (v : Level) (c : Context) → function_at site v c ≡ abstraction_at other v c
    pub degree : function_label T site ≡ d
    pub way : (v : Level) (c : Context) → (l : Level) × (n : ℕ) × Trail (Edge τ (erased T)) (at root (os (outer (erased T)) v) c) (function_at site l c) n

  pub leads : {T U : Labelled} {d : Label} → HeadContracts T d U → Leads T d
  leads (at_redex b c v w) = record {
    site = self;
    other = in_function self;
    function = erased b;
    argument = erased c;
    is = whole;
    is_other = of_function whole;
    same = λ v c. refl;
    degree = refl;
    way = λ v c. (o v, 1 + 0, on app_root here refl);
  }
  leads (below_lam {t = t} w h) =
      let r = leads h in
      record {
        site = in_lam r.site;
        other = in_lam r.other;
        function = r.function;
        argument = r.argument;
        is = of_lam r.is;
        is_other = of_lam r.is_other;
        same = λ v c. ap body (r.same v c);
        degree = r.degree;
        way = λ v c. (let k = r.way v c in (k.0, 0 + k.1, on lam_root (tr_body k.2) refl));
      }
  leads (before_argument {f = f} a w e h) =
      let r = leads h in
      record {
        site = in_function r.site;
        other = in_function r.other;
        function = r.function;
        argument = r.argument;
        is = of_function r.is;
        is_other = of_function r.is_other;
        same = λ v c. ap fun (r.same v c);
        degree = r.degree;
        way = λ v c.
            let k = r.way (o v) c in
            let t = subst (λ n. Trail (Edge τ (erased f)) (at root (os n (o v)) c) (function_at r.site k.0 c) k.1) (flat_outer (erased f) e) k.2 in
            (k.0, 1 + k.1, on app_root (tr_fun t) refl);
      }

  -- nothing is read where nothing is crossed
  pub silent : (T : Labelled) {s z : Spot} → s ≡ z → (u : Trail (Edge τ (erased T)) s z 0) × (word_along T u ≡ [])
  silent T {s} e = subst (λ z. (u : Trail (Edge τ (erased T)) s z 0) × (word_along T u ≡ [])) e (here, refl)

pub degrees_are_met : DegreesAreMet
degrees_are_met τ T U d h =
    let r = leads τ h in
    let k = r.way empty blank in
    let u = silent τ T (r.same empty blank) in (
      r.site,
      record {
        matched = record { function = lam r.function; argument = r.argument; is = r.is; other = r.other; inner = r.function; is_other = r.is_other; weight = 0; trail = u.0 };
        lams = outer (erased T);
        first = blank;
        level = k.0;
        later = blank;
        steps = k.1;
        way = k.2;
      },
      ap (λ a. signs_of (function_label T r.site) ++ a) u.1 ∙ append-nil (signs_of (function_label T r.site)) ∙ ap signs_of r.degree,
    )
