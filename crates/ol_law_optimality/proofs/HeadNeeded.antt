-- Each degree that head reduction contracts, every reduction to a head normal form contracts.
use Rattle.std.proofs.Common.{◌≡◌, ℕ, zero, suc, Bool, true, false, ◌⊎◌, inl, inr, List, [], ◌∷◌}
use Rattle.std.proofs.Common.{Some, refl, sym, ap, ◌∙◌, subst, arith}
use Rattle.std.specs.Option.{option_map}
use Rattle.ol_beta.specs.Beta as beta
use Rattle.ol_beta.specs.Leftmost.{is_abstraction}
use Rattle.ol_law_confluence.proofs.HeadForms.{ends}
use Rattle.ol_law_confluence.proofs.Meetings.{convertible}
use Rattle.ol_law_edges.specs.Edges.{IsIn}
use Rattle.ol_law_optimality.specs.Readings.{HeadContracts, at_redex, below_lam, before_argument, HeadReduces}
use Rattle.ol_law_optimality.specs.Readings as readings
use Rattle.ol_law_optimality.proofs.Betas.{no_more_betas_than_families}
use Rattle.ol_law_optimality.proofs.Leading.{head_is_leftmost}
use Rattle.ol_law_optimality.proofs.Leftwards.{labelled_step}
use Rattle.ol_law_meaning.specs.Shows.{IsHeadNormal, IsVariable, applied}
use Rattle.ol_law_meaning.specs.Shows as shows
use Rattle.ol_law_meaning.proofs.HeadSteps.{step_of}
use Rattle.ol_law_meaning.proofs.LeftmostSteps.{leftmost_step, same_step}
use Rattle.ol_law_optimality.specs.Labels.{Label, Labelled, lam, app, erased}
use Rattle.ol_law_optimality.proofs.Erasing.{labels_erase}
use Rattle.ol_readback.specs.Terms.{abstracted}
use Rattle.ol_term.specs.Trees.{Tree}
use Rattle.ol_term.specs.Trees as trees
use Rattle.ol_law_optimality.specs.Demand.{BetasAreOfEachHeadReduction, NoneIsShorterForAHead}
use Rattle.ol_law_optimality.specs.LevysTheorem.{EachHeadDegreeIsNeeded}
use Rattle.ol_law_optimality.specs.Reductions.{Contracts, Parallel, of_var, of_free, of_lam, of_app, of_redex}
use Rattle.ol_law_optimality.proofs.Counts.{no_more}
use Rattle.ol_law_optimality.proofs.Demanding.{contracts_beta}
use Rattle.ol_law_optimality.proofs.Firsts.{IsPlain, IsFirst, stays_plain}
use Rattle.ol_law_optimality.proofs.Firsts as firsts
use Rattle.ol_law_optimality.proofs.Needed.{Of, Row, done, more, contracts_row, beside, spread}
use Rattle.ol_law_optimality.proofs.Together.{parallel_same, of_lam_view, OfApp, OfRedex, of_app_view}

-- ---- the head redex

-- it has this degree
pub data IsHead : Label → Labelled → Type 0 where
  here : {b c : Labelled} {v w : Label} → IsHead v (app (lam b v) c w)
  below : {t : Labelled} {d w : Label} → IsHead d t → IsHead d (lam t w)
  before : {f a : Labelled} {d w : Label} → IsPlain f → IsHead d f → IsHead d (app f a w)

is_first : {d : Label} {t : Labelled} → IsHead d t → IsFirst d t
is_first here = firsts.at_redex
is_first (below h) = firsts.below_lam (is_first h)
is_first (before n h) = firsts.in_function n (is_first h)

pub head_of : {T U : Labelled} {d : Label} → HeadContracts T d U → IsHead d T
head_of (at_redex b c v w) = here
head_of (below_lam w h) = below (head_of h)
head_of (before_argument a w n h) = before n (head_of h)

pub head_parallel : {T U : Labelled} {d : Label} → HeadContracts T d U → Parallel (Of d) T U
head_parallel (at_redex b c v w) = of_redex refl (parallel_same (Of v) b) (parallel_same (Of v) c)
head_parallel (below_lam w h) = of_lam (head_parallel h)
head_parallel {d = d} (before_argument a w n h) = of_app (head_parallel h) (parallel_same (Of d) a)

clash : true ≡ false → ⊥
clash e = absurd (cc)

-- a parallel step contracts it, or leaves it the head redex
module _ (P : Label → Type 0) where
  head_stays : {d : Label} {t u : Labelled} → IsHead d t → Parallel P t u → P d ⊎ IsHead d u
  head_stays {u = u} (here {b = b} {c = c} {v = v} {w = w}) p = go (of_app_view p)
    where
      go : OfApp P (lam b v) c w u ⊎ OfRedex P (lam b v) c w u → P v ⊎ IsHead v u
      go (inl x) =
          let f = of_lam_view x.fun_step in
          inr (subst (IsHead v) (sym (x.is ∙ ap (λ f. app f x.arg w) f.is)) here)
      go (inr x) = let k : x.degree ≡ v = (let e = x.fun_is in cc) in inl (subst P k x.chosen)
  head_stays {d = d} {u = u} (below {t = t} {w = w} h) p =
      go (of_lam_view p).body (of_lam_view p).is (head_stays h (of_lam_view p).step)
    where
      go : (b : Labelled) → u ≡ lam b w → P d ⊎ IsHead d b → P d ⊎ IsHead d u
      go b e (inl i) = inl i
      go b e (inr h) = inr (subst (IsHead d) (sym e) (below h))
  head_stays {d = d} {u = u} (before {f = f} {a = a} {w = w} n h) p =
      go (of_app_view p) (λ g q. head_stays h q)
    where
      both : (g b : Labelled) → u ≡ app g b w → P d ⊎ IsPlain g → P d ⊎ IsHead d g →
          P d ⊎ IsHead d u
      both g b e (inl i) h = inl i
      both g b e (inr m) (inl i) = inl i
      both g b e (inr m) (inr h) = inr (subst (IsHead d) (sym e) (before m h))

      go : OfApp P f a w u ⊎ OfRedex P f a w u →
          ((g : Labelled) → Parallel P f g → P d ⊎ IsHead d g) → P d ⊎ IsHead d u
      go (inl x) fun =
          both x.fun x.arg x.is (stays_plain P (is_first h) n x.fun_step) (fun x.fun x.fun_step)
      go (inr x) fun = absurd (clash (ap (λ f. is_abstraction (erased f)) (sym x.fun_is) ∙ n))

-- ---- head normal forms

is_neutral : Tree → Bool
is_neutral (trees.var k) = true
is_neutral (trees.free k) = true
is_neutral (trees.lam t) = false
is_neutral (trees.app f a) = is_neutral f

is_headed : Tree → Bool
is_headed (trees.var k) = true
is_headed (trees.free k) = true
is_headed (trees.lam t) = is_headed t
is_headed (trees.app f a) = is_neutral f

applied_neutral : (Ps : List Tree) (f : Tree) → is_neutral f ≡ true →
    is_neutral (applied f Ps) ≡ true
unfolding is_neutral
applied_neutral [] f e = e
applied_neutral (P ∷ Ps) f e = applied_neutral Ps (trees.app f P) e

neutral_headed : (t : Tree) → is_neutral t ≡ true → is_headed t ≡ true
unfolding is_neutral is_headed
neutral_headed (trees.var k) e = refl
neutral_headed (trees.free k) e = refl
neutral_headed (trees.lam t) e = absurd (clash (sym e))
neutral_headed (trees.app f a) e = e

variable_neutral : (y : Tree) → IsVariable y → is_neutral y ≡ true
unfolding is_neutral
variable_neutral (trees.var k) h = refl
variable_neutral (trees.free k) h = refl
variable_neutral (trees.lam t) h = absurd h
variable_neutral (trees.app f a) h = absurd h

abstracted_headed : (n : ℕ) (t : Tree) → is_neutral t ≡ true → is_headed (abstracted n t) ≡ true
unfolding is_headed
abstracted_headed zero t e = neutral_headed t e
abstracted_headed (suc n) t e = abstracted_headed n t e

IsNeutral : Labelled → Type 0
IsNeutral t = is_neutral (erased t) ≡ true

pub IsHeaded : Labelled → Type 0
IsHeaded t = is_headed (erased t) ≡ true

pub headed : (T : Labelled) → IsHeadNormal (erased T) → IsHeaded T
unfolding is_headed IsHeaded
headed T h =
    ap is_headed h.is
    ∙ abstracted_headed h.abstractions (applied h.head h.arguments)
    (applied_neutral h.arguments h.head (variable_neutral h.head h.variable))

head_neutral : {d : Label} {t : Labelled} → IsHead d t → IsNeutral t → ⊥
unfolding is_neutral IsNeutral
head_neutral here e = clash (sym e)
head_neutral (below h) e = clash (sym e)
head_neutral (before n h) e = head_neutral h e

head_headed : {d : Label} {t : Labelled} → IsHead d t → IsHeaded t → ⊥
unfolding is_neutral is_headed IsNeutral IsHeaded
head_headed here e = clash (sym e)
head_headed (below h) e = head_headed h e
head_headed (before n h) e = head_neutral h e

-- parallel steps keep them
module _ (P : Label → Type 0) where
  neutral_stays : {t u : Labelled} → Parallel P t u → IsNeutral t → IsNeutral u
  unfolding is_neutral IsNeutral
  neutral_stays of_var e = e
  neutral_stays of_free e = e
  neutral_stays (of_lam p) e = e
  neutral_stays (of_app p q) e = neutral_stays p e
  neutral_stays (of_redex i p q) e = absurd (clash (sym e))

  pub headed_stays : {t u : Labelled} → Parallel P t u → IsHeaded t → IsHeaded u
  unfolding is_neutral is_headed IsNeutral IsHeaded
  headed_stays of_var e = e
  headed_stays of_free e = e
  headed_stays (of_lam p) e = headed_stays p e
  headed_stays (of_app p q) e = neutral_stays p e
  headed_stays (of_redex i p q) e = absurd (clash (sym e))

-- ---- what is needed

pub head_is_needed : {t v : Labelled} {ds : List Label} (d : Label) → Row t ds v → IsHeaded v →
    IsHead d t → IsIn d ds
head_is_needed d done s h = absurd (head_headed h s)
head_is_needed d (more {u = u} {d = e} {ds = ds} p r) s h =
    go (head_stays (Of e) h p) (λ k. head_is_needed d r s k)
  where
    go : (d ≡ e) ⊎ IsHead d u → (IsHead d u → IsIn d ds) → (d ≡ e) ⊎ IsIn d ds
    go (inl k) next = inl k
    go (inr h) next = inr (next h)

pub heads_needed : {T v V : Labelled} {ds us : List Label} → HeadReduces T ds v → Row T us V →
    IsHeaded V → (d : Label) → IsIn d ds → IsIn d us
heads_needed readings.ready r s d i = absurd i
heads_needed {us = us} (readings.contract {d = e} h l) r s d (inl i) =
    subst (λ d. IsIn d us) (sym i) (head_is_needed e r s (head_of h))
heads_needed (readings.contract {d = e} h l) r s d (inr i) =
    let x = beside (Of e) (head_parallel h) r in
    heads_needed l x.row (headed_stays (Of e) x.step s) d i

pub each_head_degree_is_needed : EachHeadDegreeIsNeeded
each_head_degree_is_needed T v V ds us l c n d i =
    heads_needed l (contracts_row c) (headed V n) d i

-- ---- head reduction with the labels

pub record Labels (T : Labelled) (v : Tree) : Type 0 where
  pub term : Labelled
  pub degrees : List Label
  pub heads : HeadReduces T degrees term
  pub is : erased term ≡ v

step_erased : (T : Labelled) {u : Tree} {at : List ℕ} → shows.IsHeadAddress at →
    beta.contracted (erased T) at ≡ Some u →
    (U : Labelled) × (d : Label) × HeadContracts T d U × (erased U ≡ u)
step_erased T {u} c e =
    let h = step_of c e in
    let x = labelled_step T h in
    let l = head_is_leftmost T x.0 x.1 x.2 in
    let k = leftmost_step h in (
      x.0,
      x.1,
      x.2,
      same_step (erased T) l.1 (sym (labels_erase T l.0) ∙ ap (option_map erased) l.3) k.1 k.2,
    )

pub with_labels : {t v : Tree} → shows.HeadReduces t v → (T : Labelled) → erased T ≡ t → Labels T v
with_labels shows.ready T q = record { term = T; degrees = []; heads = readings.ready; is = q }
with_labels (shows.contract {u = u} {at = at} c e r) T q =
    let s =
    step_erased T c (ap (λ t. beta.contracted t at) q ∙ e) in
    let x = with_labels r s.0 s.3 in
    record {
      term = x.term;
      degrees = s.1 ∷ x.degrees;
      heads = readings.contract s.2 x.heads;
      is = x.is;
    }

-- Where a reduction comes to a head normal form, head reduction of the labelled term does too.
pub record HeadLabels (T : Labelled) : Type 0 where
  pub term : Labelled
  pub degrees : List Label
  pub heads : HeadReduces T degrees term
  pub normal : IsHeadNormal (erased term)

pub head_labels : (T V : Labelled) (us : List Label) → Contracts T us V →
    IsHeadNormal (erased V) → HeadLabels T
head_labels T V us c n =
    let f =
    ends
    (record {
      form = erased V;
      converts = convertible (contracts_beta c);
      is_head_normal = n;
    }) in
    let l = with_labels f.reduces T refl in
    record {
      term = l.term;
      degrees = l.degrees;
      heads = l.heads;
      normal = subst IsHeadNormal (sym l.is) f.is_head_normal;
    }

pub betas_are_of_each_head_reduction : BetasAreOfEachHeadReduction
betas_are_of_each_head_reduction τ T V us c n own names h g k same turns journal places M a r =
    let l = head_labels T V us c n in
    let x =
    no_more_betas_than_families τ T l.term l.degrees l.heads l.normal own names h g k same turns
    journal places M a r in (
      x.0,
      x.1,
      λ e i. each_head_degree_is_needed T l.term V l.degrees us l.heads c n e (x.2 e i),
      x.3,
    )

pub none_is_shorter_for_a_head : NoneIsShorterForAHead
none_is_shorter_for_a_head τ T V ds f n own names h g k same turns journal places M a r =
    let s = spread f in
    let x =
    betas_are_of_each_head_reduction τ T V s.degrees s.steps n own names h g k same turns journal
    places M a r in
    let m = no_more x.0 ds x.1 (λ e i. s.known e (x.2 e i)) in
    let e = x.3 in
    omega (arith, m, e)
