-- Whole families, each time that of the leftmost redex, lead to the first heads; and asked for so many heads, demand order
-- makes as many beta steps.
use Rattle.std.proofs.Common.{◌≡◌, ℕ, zero, suc, ◌+◌, ◌≤◌, Bool, true, false, if◌then◌else◌, ◌⊎◌, inl, inr, List, []}
use Rattle.std.proofs.Common.{◌∷◌, ◌++◌, length, Option, Some, None, refl, sym, ap, ◌∙◌, subst, arith}
use Rattle.std.specs.Option.{option_or}
use Rattle.ol_beta.specs.Leftmost.{leftmost, is_abstraction}
use Rattle.ol_beta.specs.Leftmost as beta_steps
use Rattle.ol_demand.specs.Demands.{Asking, Turns, IsDemandRun}
use Rattle.ol_demand.specs.Laws.{IsStart}
use Rattle.ol_demand.proofs.Onward.{is_start}
use Rattle.ol_law_edges.specs.Edges.{IsIn}
use Rattle.ol_law_optimality.specs.Families.{labels_in, IsLetter, HaveOwnLetters}
use Rattle.ol_law_optimality.specs.Readings.{AreDifferent}
use Rattle.ol_law_meaning.specs.Heads.{head_app, Normal, flat, layer}
use Rattle.ol_law_meaning.specs.Contraction.{Level, Place, wire}
use Rattle.ol_law_optimality.specs.Labels.{Label, Labelled, var, free, lam, app, erased, degree}
use Rattle.ol_net.specs.Nets.{NamedNet, IsNet, SameNet, net_under}
use Rattle.ol_net.specs.Numbered.{net_of}
use Rattle.ol_net.specs.declared.parts.Rule.TheVariants as rule
use Rattle.ol_readback.specs.declared.answers.ReadNode.{ReadNode}
use Rattle.ol_rules.specs.Counting.{times_applied}
use Rattle.ol_rules.specs.declared.journal.Entry.{Entry}
use Rattle.ol_rules.specs.declared.journal.NodeName.{NodeName}
use Rattle.ol_rules.specs.declared.journal.NodeName.TheVariants.{Init}
use Rattle.ol_term.specs.declared.translations.Translation.{Translation}
use Rattle.ol_translate.specs.Names.{HasNames}
use Rattle.ol_translate.specs.Translation.{translation_of}
use Rattle.ol_law_optimality.specs.Demand.{AreSoManyOf}
use Rattle.ol_readback.specs.Terms.{IsNoLam}
use Rattle.ol_term.specs.Trees.{Tree}
use Rattle.ol_term.specs.Trees as trees
use Rattle.ol_law_optimality.specs.FirstHeads.{ShowsHeads, not_asked, at_var, at_free, at_lam, at_app, HasFirstHeads}
use Rattle.ol_law_optimality.specs.FirstHeads.{BetasAreOfEachReductionForHeads, NoneIsShorterForHeads}
use Rattle.ol_law_optimality.specs.FirstHeads.{DemandIsAsShortForHeads, FewestForHeads, NoneIsShorterThanNeeded}
use Rattle.ol_law_optimality.specs.LevysTheorem.{IsNeededFor}
use Rattle.ol_law_optimality.specs.Reductions.{Contracts, FamilyReduces, Parallel, of_lam, of_app, LeftmostFamilies}
use Rattle.ol_law_optimality.specs.Reductions as reductions
use Rattle.ol_law_optimality.proofs.FirstHeadsFamilies.{turns_have_families, runs_have_families}
use Rattle.ol_law_optimality.proofs.FirstHeadsNeeded.{BesideHeads, shows_one, shows_stay, shown, spine_neutral}
use Rattle.ol_law_optimality.proofs.FirstHeadsNeeded.{neutral_row, neutral_no_lam}
use Rattle.ol_law_optimality.proofs.FirstHeadsPlaces.{By}
use Rattle.ol_law_optimality.proofs.FirstHeadsPlaces as places
use Rattle.ol_law_optimality.proofs.Counts.{no_more}
use Rattle.ol_law_optimality.proofs.Firsts.{IsPlain, IsStill, IsFirst, first_is_none, stays, stays_plain, first_of}
use Rattle.ol_law_optimality.proofs.Firsts.{first_degree}
use Rattle.ol_law_optimality.proofs.Firsts as firsts
use Rattle.ol_law_optimality.proofs.Needed.{Of, Row, done, more, beside, contracts_row, spread}
use Rattle.ol_law_optimality.proofs.Once.{History, at_first, is_new, one_more, no_family_twice}
use Rattle.ol_law_optimality.proofs.Steps.{whole_family, whole_parallel, leftmost_families_are_whole}
use Rattle.ol_law_optimality.proofs.Steps.{leftmost_families_are_families}
use Rattle.ol_law_optimality.proofs.Together.{parallel_same, of_lam_view, OfApp, OfRedex, of_app_view}
use Rattle.ol_law_optimality.proofs.HeadReached.{head_row}

-- ---- the leftmost redex, where it is at one of the first places

-- it has this degree
pub data IsWithin : ℕ → Label → Labelled → Type 0 where
  here : {n : ℕ} {b c : Labelled} {v w : Label} → IsWithin (suc n) v (app (lam b v) c w)
  below : {n : ℕ} {t : Labelled} {d w : Label} → IsWithin (suc n) d t → IsWithin (suc n) d (lam t w)
  in_function : {n : ℕ} {f a : Labelled} {d w : Label} → IsPlain f → IsWithin (suc n) d f →
      IsWithin (suc n) d (app f a w)
  in_argument : {n k : ℕ} {f a : Labelled} {d w : Label} → IsPlain f → ShowsHeads (suc n) (erased f) (suc k) →
      IsWithin (suc k) d a → IsWithin (suc n) d (app f a w)

clash : true ≡ false → ⊥
clash e = absurd (cc)

no_lam_plain : (t : Tree) → IsNoLam t → is_abstraction t ≡ false
no_lam_plain (trees.var k) e = refl
no_lam_plain (trees.free k) e = refl
no_lam_plain (trees.lam t) e = absurd e
no_lam_plain (trees.app f a) e = refl

pub plain_no_lam : (t : Tree) → is_abstraction t ≡ false → IsNoLam t
plain_no_lam (trees.var k) e = tt
plain_no_lam (trees.free k) e = tt
plain_no_lam (trees.lam t) e = absurd (clash e)
plain_no_lam (trees.app f a) e = tt

-- where some heads are left to be asked, all places have been passed
still_app : (f a : Tree) → is_abstraction f ≡ false → leftmost f ≡ None → leftmost a ≡ None →
    leftmost (trees.app f a) ≡ None
still_app f a e g h =
    ap (λ b. if b then Some [] else option_or (beta_steps.under 1 (leftmost f)) (beta_steps.under 2 (leftmost a))) e
    ∙ ap (λ o. option_or (beta_steps.under 1 o) (beta_steps.under 2 (leftmost a))) g
    ∙ ap (beta_steps.under 2) h

all_passed : {n k m : ℕ} {t : Tree} → ShowsHeads n t m → m ≡ suc k → leftmost t ≡ None
all_passed not_asked q = absurd (omega (arith, q))
all_passed at_var q = refl
all_passed at_free q = refl
all_passed (at_lam h) q = ap (beta_steps.under 0) (all_passed h q)
all_passed (at_app {k = zero} {f = f} {a = a} e h not_asked) q = absurd (omega (arith, q))
all_passed (at_app {k = suc k} {f = f} {a = a} e h g) q =
    still_app f a (no_lam_plain f e) (all_passed h refl) (all_passed g q)

pub is_first : {n : ℕ} {d : Label} {t : Labelled} → IsWithin n d t → IsFirst d t
is_first here = firsts.at_redex
is_first (below h) = firsts.below_lam (is_first h)
is_first (in_function e h) = firsts.in_function e (is_first h)
is_first (in_argument e s h) = firsts.in_argument e (all_passed s refl) (is_first h)

not_both : {n m : ℕ} {d : Label} {t : Labelled} → IsWithin n d t → ShowsHeads n (erased t) m → ⊥
not_both here (at_app e h g) = absurd e
not_both (below w) (at_lam h) = not_both w h
not_both (in_function f w) (at_app e h g) = not_both w h
not_both {m = m} (in_argument {a = a} f s w) (at_app e h g) =
    not_both w (subst (λ k. ShowsHeads k (erased a) m) (shows_one h s) g)

abbrev pub Found : ℕ → Labelled → Type 0
Found n T = HasFirstHeads n (erased T) ⊎ ((d : Label) × IsWithin n d T)

found_app : (n : ℕ) (f a : Labelled) (w : Label) → is_abstraction (erased f) ≡ false → Found (suc n) f →
    ((k : ℕ) → Found k a) → Found (suc n) (app f a w)
found_app n f a w e (inr (d, h)) arg = inr (d, in_function e h)
found_app n f a w e (inl (zero, h)) arg = inl (0, at_app (plain_no_lam (erased f) e) h not_asked)
found_app n f a w e (inl (suc k, h)) arg = elim (arg (suc k)) [
  | inl s ↦ inl (s.0, at_app (plain_no_lam (erased f) e) h s.1)
  | inr x ↦ inr (x.0, in_argument e h x.1)
]

-- so many heads are there, or the leftmost redex is at one of the first places
pub find : (T : Labelled) (n : ℕ) → Found n T
find T zero = inl (0, not_asked)
find (var k w) (suc n) = inl (n, at_var)
find (free k w) (suc n) = inl (n, at_free)
find (lam b w) (suc n) = elim (find b (suc n)) [
  | inl s ↦ inl (s.0, at_lam s.1)
  | inr x ↦ inr (x.0, below x.1)
]
find (app (lam b v) a w) (suc n) = inr (v, here)
find (app (var k v) a w) (suc n) = found_app n (var k v) a w refl (find (var k v) (suc n)) (λ k. find a k)
find (app (free k v) a w) (suc n) = found_app n (free k v) a w refl (find (free k v) (suc n)) (λ k. find a k)
find (app (app f c v) a w) (suc n) = found_app n (app f c v) a w refl (find (app f c v) (suc n)) (λ k. find a k)

-- a parallel step contracts it, or leaves it there
module _ (P : Label → Type 0) where
  pub within_stays : {n : ℕ} {d : Label} {t u : Labelled} → IsWithin n d t → Parallel P t u → P d ⊎ IsWithin n d u
  within_stays {n = n} {u = u} (here {b = b} {c = c} {v = v} {w = w}) p = go (of_app_view p)
    where
      go : OfApp P (lam b v) c w u ⊎ OfRedex P (lam b v) c w u → P v ⊎ IsWithin n v u
      go (inl x) =
          let f = of_lam_view x.fun_step in
          inr (subst (IsWithin n v) (sym (x.is ∙ ap (λ f. app f x.arg w) f.is)) here)
      go (inr x) = let k : x.degree ≡ v = (let e = x.fun_is in cc) in inl (subst P k x.chosen)
  within_stays {n = n} {d = d} {u = u} (below {t = t} {w = w} h) p =
      go (of_lam_view p).body (of_lam_view p).is (within_stays h (of_lam_view p).step)
    where
      go : (b : Labelled) → u ≡ lam b w → P d ⊎ IsWithin n d b → P d ⊎ IsWithin n d u
      go b e (inl i) = inl i
      go b e (inr h) = inr (subst (IsWithin n d) (sym e) (below h))
  within_stays {n = n} {d = d} {u = u} (in_function {f = f} {a = a} {w = w} m h) p =
      go (of_app_view p) (λ g q. within_stays h q)
    where
      both : (g b : Labelled) → u ≡ app g b w → P d ⊎ IsPlain g → P d ⊎ IsWithin n d g →
          P d ⊎ IsWithin n d u
      both g b e (inl i) h = inl i
      both g b e (inr m) (inl i) = inl i
      both g b e (inr m) (inr h) = inr (subst (IsWithin n d) (sym e) (in_function m h))

      go : OfApp P f a w u ⊎ OfRedex P f a w u →
          ((g : Labelled) → Parallel P f g → P d ⊎ IsWithin n d g) → P d ⊎ IsWithin n d u
      go (inl x) fun =
          both x.fun x.arg x.is (stays_plain P (is_first h) m x.fun_step) (fun x.fun x.fun_step)
      go (inr x) fun = absurd (clash (ap (λ f. is_abstraction (erased f)) (sym x.fun_is) ∙ m))
  within_stays {n = n} {d = d} {u = u} (in_argument {k = k} {f = f} {a = a} {w = w} m s h) p =
      go (of_app_view p) (λ b q. within_stays h q)
    where
      of : (g b : Labelled) → u ≡ app g b w → g ≡ f → P d ⊎ IsWithin (suc k) d b → P d ⊎ IsWithin n d u
      of g b e q (inl i) = inl i
      of g b e q (inr h) =
          inr (subst (IsWithin n d) (sym (e ∙ ap (λ f. app f b w) q)) (in_argument m s h))

      go : OfApp P f a w u ⊎ OfRedex P f a w u →
          ((b : Labelled) → Parallel P a b → P d ⊎ IsWithin (suc k) d b) → P d ⊎ IsWithin n d u
      go (inl x) arg = of x.fun x.arg x.is (stays P x.fun_step (all_passed s refl)) (arg x.arg x.arg_step)
      go (inr x) arg = absurd (clash (ap (λ f. is_abstraction (erased f)) (sym x.fun_is) ∙ m))

-- so it is needed
pub within_is_needed : {n m : ℕ} {t v : Labelled} {ds : List Label} (d : Label) → Row t ds v →
    ShowsHeads n (erased v) m → IsWithin n d t → IsIn d ds
within_is_needed d done s h = absurd (not_both h s)
within_is_needed {n = n} d (more {u = u} {d = e} {ds = ds} p r) s h =
    go (within_stays (Of e) h p) (λ k. within_is_needed d r s k)
  where
    go : (d ≡ e) ⊎ IsWithin n d u → (IsWithin n d u → IsIn d ds) → (d ≡ e) ⊎ IsIn d ds
    go (inl k) next = inl k
    go (inr h) next = inr (next h)

-- ---- where it stands

pub first_one : {d e : Label} {t : Labelled} → IsFirst d t → IsFirst e t → d ≡ e
first_one firsts.at_redex firsts.at_redex = refl
first_one firsts.at_redex (firsts.in_function n h) = absurd (clash n)
first_one firsts.at_redex (firsts.in_argument n s h) = absurd (clash n)
first_one (firsts.below_lam h) (firsts.below_lam g) = first_one h g
first_one (firsts.in_function n h) firsts.at_redex = absurd (clash n)
first_one (firsts.in_function n h) (firsts.in_function m g) = first_one h g
first_one (firsts.in_function n h) (firsts.in_argument m s g) = absurd (first_is_none h s)
first_one (firsts.in_argument n s h) firsts.at_redex = absurd (clash n)
first_one (firsts.in_argument n s h) (firsts.in_function m g) = absurd (first_is_none g s)
first_one (firsts.in_argument n s h) (firsts.in_argument m z g) = first_one h g

pub record Stands (T : Labelled) (d : Label) : Type 0 where
  pub at : List ℕ
  pub first : leftmost (erased T) ≡ Some at
  pub is : degree T at ≡ Some d

pub stands : (T : Labelled) (d : Label) → IsFirst d T → Stands T d
stands T d h = by (leftmost (erased T)) refl
  where
    by : (o : Option (List ℕ)) → leftmost (erased T) ≡ o → Stands T d
    by None e = absurd (first_is_none h e)
    by (Some at) e =
        let f = first_degree T at e in
        record { at = at; first = e; is = f.1 ∙ ap Some (first_one (first_of T at f.0 e f.1) h) }

-- ---- a row to the first heads, with the degrees of head reduction

row_then : {t u v : Labelled} {ds es : List Label} → Row t ds u → Row u es v → Row t (ds ++ es) v
row_then done s = s
row_then (more p r) s = more p (row_then r s)

lam_row : {t u : Labelled} {ds : List Label} (w : Label) → Row t ds u → Row (lam t w) ds (lam u w)
lam_row w done = done
lam_row w (more p r) = more (of_lam p) (lam_row w r)

fun_row : {t u : Labelled} {ds : List Label} (a : Labelled) (w : Label) → Row t ds u → Row (app t a w) ds (app u a w)
fun_row a w done = done
fun_row a w (more {d = d} p r) = more (of_app p (parallel_same (Of d) a)) (fun_row a w r)

arg_row : {t u : Labelled} {ds : List Label} (f : Labelled) (w : Label) → Row t ds u → Row (app f t w) ds (app f u w)
arg_row f w done = done
arg_row f w (more {d = d} p r) = more (of_app (parallel_same (Of d) f) p) (arg_row f w r)

pub record Ends (n m : ℕ) (T : Labelled) (ws : List Label) : Type 0 where
  pub term : Labelled
  pub row : Row T ws term
  pub shows : ShowsHeads n (erased term) m

abbrev pub EndsOf : Bool → ℕ → ℕ → Labelled → List Label → Type 0
EndsOf true n m T ws = Ends n m T ws
EndsOf false n m T ws = (q : Place) (a : Level) (j : ℕ) → Normal (erased T) q a j → Ends (suc n) m T ws

lam_ends : (n m : ℕ) (b : Labelled) (w : Label) (ds : List Label) → EndsOf false n m b ds →
    EndsOf false n m (lam b w) ds
lam_ends n m b w ds up q a j (flat s) = elim s [ ]
lam_ends n m b w ds up q a j (layer {p = p} {v = v} k e) =
    let x = up p v j k in record { term = lam x.term w; row = lam_row w x.row; shows = at_lam x.shows }

app_ends : (n k m : ℕ) (f a : Labelled) (w : Label) (ds es : List Label) → EndsOf false n k f ds → Ends k m a es →
    EndsOf false n m (app f a w) (ds ++ es)
app_ends n k m f a w ds es up y q l j (flat (head_app {y = z} {a = b} {j = i} s e)) =
    let x = up (wire z) b i (flat s) in
    record {
      term = app x.term y.term w;
      row = row_then (fun_row a w x.row) (arg_row x.term w y.row);
      shows = at_app (neutral_no_lam (neutral_row x.row (spine_neutral f s))) x.shows y.shows;
    }

pub ends : {b : Bool} {n m : ℕ} {T : Labelled} {ws : List Label} → By b n T m ws → EndsOf b n m T ws
ends {T = T} places.not_asked = record { term = T; row = done; shows = not_asked }
ends (places.is_asked {k = j} {q = q} {a = a} r k h) =
    let x = ends h q a j k in record { term = x.term; row = row_then (head_row r) x.row; shows = x.shows }
ends (places.of_var {y = y} {w = w}) = λ q a j k. record { term = var y w; row = done; shows = at_var }
ends (places.of_free {f = f} {w = w}) = λ q a j k. record { term = free f w; row = done; shows = at_free }
ends (places.of_lam {n = n} {m = m} {b = b} {w = w} {ds = ds} h) = lam_ends n m b w ds (ends h)
ends (places.of_app {n = n} {k = k} {m = m} {f = f} {a = a} {w = w} {ds = ds} {es = es} h x) =
    app_ends n k m f a w ds es (ends h) (ends x)

-- ---- whole families, each time that of the leftmost redex

-- the families that went, all of them among these, and what is left to do
record Gone (T0 : Labelled) (n m : ℕ) (ws hs : List Label) (T : Labelled) : Type 0 where
  term : Labelled
  row : Row T ws term
  shows : ShowsHeads n (erased term) m
  different : AreDifferent hs
  known : (d : Label) → IsIn d hs → IsIn d ws
  history : History hs T
  each : (V : Labelled) (us : List Label) (k : ℕ) → Row T0 us V → ShowsHeads n (erased V) k → BesideHeads n k T us

-- the rest of a reduction by whole families
pub record Rest (T0 : Labelled) (n : ℕ) (ws : List Label) (T : Labelled) : Type 0 where
  pub degrees : List Label
  pub term : Labelled
  pub families : LeftmostFamilies T degrees term
  pub shows : HasFirstHeads n (erased term)
  pub within : (e : Label) → IsIn e degrees → IsIn e ws
  pub needed : (e : Label) → IsIn e degrees → IsNeededFor (HasFirstHeads n) T0 e

module _ (T0 : Labelled) (n m : ℕ) (ws : List Label) where
  nothing_left : (T : Labelled) → HasFirstHeads n (erased T) → Rest T0 n ws T
  nothing_left T s = record {
    degrees = [];
    term = T;
    families = reductions.ready;
    shows = s;
    within = λ e i. absurd i;
    needed = λ e i. absurd i;
  }

  is_needed : (hs : List Label) (T : Labelled) (d : Label) → IsWithin n d T → Gone T0 n m ws hs T → IsNeededFor (HasFirstHeads n) T0 d
  is_needed hs T d h g V us c s =
      let x = g.each V us s.0 (contracts_row c) s.1 in within_is_needed d x.row x.shows h

  is_wanted : (hs : List Label) (T : Labelled) (d : Label) → IsWithin n d T → Gone T0 n m ws hs T → IsIn d ws
  is_wanted hs T d h g = within_is_needed d g.row g.shows h

  one_gone : (hs : List Label) (T : Labelled) (d : Label) → IsWithin n d T → Gone T0 n m ws hs T →
      Gone T0 n m ws (d ∷ hs) (whole_family d T).0
  one_gone hs T d h g =
      let r = whole_family d T in
      let l = stands T d (is_first h) in
      let x = beside (Of d) (whole_parallel r.1) g.row in
      record {
        term = x.term;
        row = x.row;
        shows = shows_stay (Of d) x.step g.shows;
        different = (is_new hs T l.at d g.history l.is, g.different);
        known =
            λ e i. elim i [
              | inl k ↦ subst (λ e. IsIn e ws) (sym k) (is_wanted hs T d h g)
              | inr j ↦ g.known e j
            ];
        history = one_more hs T r.0 l.at d g.history l.is r.1;
        each = λ V us k c s.
            let y = g.each V us k c s in
            let z = beside (Of d) (whole_parallel r.1) y.row in
            record { term = z.term; row = z.row; shows = shows_stay (Of d) z.step y.shows };
      }

  first_goes : (hs : List Label) (T : Labelled) (d : Label) → IsWithin n d T → Gone T0 n m ws hs T →
      Rest T0 n ws (whole_family d T).0 → Rest T0 n ws T
  first_goes hs T d h g r =
      let l = stands T d (is_first h) in
      record {
        degrees = d ∷ r.degrees;
        term = r.term;
        families = reductions.contract l.at l.first l.is (whole_family d T).1 r.families;
        shows = r.shows;
        within =
            λ x i. elim i [
              | inl k ↦ subst (λ x. IsIn x ws) (sym k) (is_wanted hs T d h g)
              | inr j ↦ r.within x j
            ];
        needed =
            λ x i. elim i [
              | inl k ↦ subst (λ x. IsNeededFor (HasFirstHeads n) T0 x) (sym k) (is_needed hs T d h g)
              | inr j ↦ r.needed x j
            ];
      }

  reach : (b : ℕ) (hs : List Label) (T : Labelled) → length ws ≤ b + length hs → Gone T0 n m ws hs T → Rest T0 n ws T
  reach zero hs T b g = by (find T n)
    where
      by : Found n T → Rest T0 n ws T
      by (inl s) = nothing_left T s
      by (inr (d, h)) =
          let x = one_gone hs T d h g in
          let k = no_more (d ∷ hs) ws x.different x.known in absurd (omega (arith, k, b))
  reach (suc c) hs T b g = by (find T n) (λ d U a h. reach c (d ∷ hs) U a h)
    where
      by : Found n T →
          ((d : Label) (U : Labelled) → length ws ≤ c + suc (length hs) → Gone T0 n m ws (d ∷ hs) U → Rest T0 n ws U) →
          Rest T0 n ws T
      by (inl s) next = nothing_left T s
      by (inr (d, h)) next =
          first_goes hs T d h g (next d (whole_family d T).0 (omega (arith, b)) (one_gone hs T d h g))

pub by_families : (n m : ℕ) (T V : Labelled) (ws : List Label) → Row T ws V → ShowsHeads n (erased V) m →
    ((w : Label) → IsIn w (labels_in T) → IsLetter w) → Rest T n ws T
by_families n m T V ws r s letters =
    reach T n m ws (length ws) [] T (omega arith)
    (record {
      term = V;
      row = r;
      shows = s;
      different = tt;
      known = λ w i. absurd i;
      history = at_first T letters;
      each = λ V us k c s. record { term = V; row = c; shows = s };
    })

pub fewest_for_heads : FewestForHeads
fewest_for_heads heads T V us c s letters =
    let r = by_families heads s.0 T V us (contracts_row c) s.1 letters in
    let o = leftmost_families_are_whole T r.term r.degrees r.families in
    (r.degrees, r.term, r.families, r.shows, no_family_twice T r.term r.degrees o letters, r.needed)

pub none_is_shorter_than_needed : NoneIsShorterThanNeeded
none_is_shorter_than_needed heads T W ds cs d needed f s =
    let x = spread f in no_more ds cs d (λ e i. x.known e (needed e i W x.degrees x.steps s))

-- ---- a run of any net that is the term's up to names, for the term that T is without labels

abbrev pub OfTurns : Translation → ℕ → Tree → (ℕ → Type 0) → Type 0
OfTurns τ heads t Says = (names : ℕ) → HasNames t names → (K : NamedNet ℕ) → IsNet K →
    SameNet K (translation_of τ t names) → IsStart (net_under Init K) →
    (turns : ℕ) (journal : List Entry) (places : List ReadNode) (M : NamedNet NodeName)
    (a : Asking) → Turns (net_under Init K) heads turns journal places M a →
    Says (times_applied rule.Beta journal)

abbrev pub OfRuns : Translation → ℕ → Tree → (ℕ → Type 0) → Type 0
OfRuns τ heads t Says = (names : ℕ) → HasNames t names → (K : NamedNet ℕ) → IsNet K →
    SameNet K (translation_of τ t names) → IsStart (net_under Init K) →
    (journal : List Entry) (places : List ReadNode) (M : NamedNet NodeName) →
    IsDemandRun (net_under Init K) heads journal places M →
    Says (times_applied rule.Beta journal)

pub degrees_to : (τ : Translation) (heads : ℕ) (T V : Labelled) (us : List Label) → Contracts T us V →
    HasFirstHeads heads (erased V) → HaveOwnLetters T → (t : Tree) → erased T ≡ t →
    OfTurns τ heads t (λ n. AreSoManyOf n us)
degrees_to τ heads T V us c s own t q names h K k same start turns journal places M a r =
    let y = shown heads s.0 T V us (contracts_row c) s.1 in
    let x = turns_have_families τ heads s.0 T y.degrees y.by own t q names h K k same start turns journal places M a r in
    (x.0, x.1, λ e i. y.within e (x.2 e i), x.3)

pub no_longer_to : (τ : Translation) (heads : ℕ) (T V : Labelled) (ds : List Label) → FamilyReduces T ds V →
    HasFirstHeads heads (erased V) → HaveOwnLetters T → (t : Tree) → erased T ≡ t →
    OfTurns τ heads t (λ n. n ≤ length ds)
no_longer_to τ heads T V ds f s own t q names h K k same start turns journal places M a r =
    let z = spread f in
    let x = degrees_to τ heads T V z.degrees z.steps s own t q names h K k same start turns journal places M a r in
    let m = no_more x.0 ds x.1 (λ e i. z.known e (x.2 e i)) in
    let e = x.3 in
    omega (arith, m, e)

-- whole families lead there by so many steps
abbrev pub LeadsBy : ℕ → Labelled → ℕ → Type 0
LeadsBy heads T n = (ds : List Label) × (W : Labelled) × LeftmostFamilies T ds W × HasFirstHeads heads (erased W)
    × (n ≡ length ds)

pub as_short_to : (τ : Translation) (heads : ℕ) (T V : Labelled) (us : List Label) → Contracts T us V →
    HasFirstHeads heads (erased V) → HaveOwnLetters T → (t : Tree) → erased T ≡ t →
    OfRuns τ heads t (LeadsBy heads T)
as_short_to τ heads T V us c s own t q names h K k same start journal places M d =
    let y = shown heads s.0 T V us (contracts_row c) s.1 in
    let x = runs_have_families τ heads s.0 T y.degrees y.by own t q names h K k same start journal places M d in
    let z = ends y.by in
    let r = by_families heads s.0 T z.term y.degrees z.row z.shows own.1 in
    let o = leftmost_families_are_whole T r.term r.degrees r.families in
    let a = no_more r.degrees x.0 (no_family_twice T r.term r.degrees o own.1) (λ e i. (x.2 e).1 (r.within e i)) in
    let b = no_longer_to τ heads T r.term r.degrees (leftmost_families_are_families T r.term r.degrees r.families)
    r.shows own t q names h K k same start d.turns journal d.asked_places M d.last d.run in
    let e = x.3 in
    (r.degrees, r.term, r.families, r.shows, omega (arith, a, b, e))

-- ---- the laws

pub betas_are_of_each_reduction_to_heads : BetasAreOfEachReductionForHeads
betas_are_of_each_reduction_to_heads τ heads T V us c s own names h g k same =
    degrees_to τ heads T V us c s own (erased T) refl names h (net_of g) k same (is_start g k)

pub none_is_shorter_for_heads : NoneIsShorterForHeads
none_is_shorter_for_heads τ heads T V ds f s own names h g k same =
    no_longer_to τ heads T V ds f s own (erased T) refl names h (net_of g) k same (is_start g k)

pub demand_is_as_short_for_heads : DemandIsAsShortForHeads
demand_is_as_short_for_heads τ heads T V us c s own names h g k same =
    as_short_to τ heads T V us c s own (erased T) refl names h (net_of g) k same (is_start g k)
