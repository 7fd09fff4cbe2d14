-- Where the machine comes to its end, as many family steps led to the normal form as it made beta steps.
use Rattle.std.proofs.Common.{◌≡◌, ℕ, zero, suc, ◌+◌, ◌<◌, ◌==◌, ◌&&◌, Bool, true, false, if◌then◌else◌, inl, List, [], ◌∷◌, length, None, Some, is_none, refl, sym, ap, ◌∙◌, subst, arith}
use Rattle.std.proofs.lemmas.Bool.{eqb-true, ltb-true, and_parts}
use Rattle.std.proofs.lemmas.Option.{same_Some, none-some}
use Rattle.ol_beta.specs.Leftmost.{IsNormal}
use Rattle.ol_demand.proofs.Onward.{is_start}
use Rattle.ol_counts.specs.Machines.{Machine, Link, function, name, Cell, Frame, Control, goes, came, first_link, after, begun, has_name, is_ended, need_count}
use Rattle.ol_net.specs.Numbered.{net_of}
use Rattle.ol_term.specs.Trees.{is_below}
use Rattle.ol_law_confluence.proofs.Meetings.{normal_one}
use Rattle.ol_law_optimality.proofs.Labelling.{each_term_has_letters}
use Rattle.ol_law_meaning.specs.Shows.{BetaReduces}
use Rattle.ol_law_optimality.specs.Labels.{Label, none, Labelled, var, free, lam, app, before, erased}
use Rattle.ol_law_optimality.specs.Reductions.{FamilyReduces}
use Rattle.ol_law_optimality.specs.Reductions as reductions
use Rattle.ol_law_optimality.proofs.Demanding.{contracts_beta, is_no_longer}
use Rattle.ol_law_optimality.proofs.Needed.{spread}
use Rattle.ol_law_optimality.proofs.Putting.{ren, up, inst}
use Rattle.ol_counts.specs.NeedLaws.{NeedIsByFamilies, NeedEndsInTheNormalForm, DemandIsNoMoreThanNeed}
use Rattle.ol_counts.proofs.Stacks.{root, at_root}
use Rattle.ol_counts.proofs.Normals.{Normal, is_normal}
use Rattle.ol_counts.proofs.Places.{Around, top, finished, inst_same}
use Rattle.ol_counts.proofs.Matching.{NameOf, of_var, of_free, of_argument, ControlOf}
use Rattle.ol_counts.proofs.Moving.{Held, State, values_of}
use Rattle.ol_counts.proofs.Stepping.{moves}

-- ---- the beginning

up_same : (d : ℕ) (σ τ : ℕ → Labelled) → ((y : ℕ) → y < d → σ y ≡ τ y) → (y : ℕ) → y < d + 1 →
    up σ y ≡ up τ y
up_same d σ τ h zero l = refl
up_same d σ τ h (suc y) l = ap (ren suc) (h y (omega (arith, l)))

pub below_same : (t : Labelled) (d : ℕ) (σ τ : ℕ → Labelled) → is_below d (erased t) ≡ true →
    ((y : ℕ) → y < d → σ y ≡ τ y) → inst σ t ≡ inst τ t
below_same (var k w) d σ τ e h = ap (before w) (h k (ltb-true k d e))
below_same (free k w) d σ τ e h = refl
below_same (lam t w) d σ τ e h =
    ap (λ b. lam b w) (below_same t (d + 1) (up σ) (up τ) e (up_same d σ τ h))
below_same (app f a w) d σ τ e h =
    let b = and_parts (is_below d (erased f)) (is_below d (erased a)) e in
    (λ i. app (below_same f d σ τ b.0 h i) (below_same a d σ τ b.1 h i) w)

abbrev pub begins : (T : Labelled) → is_below 0 (erased T) ≡ true → State T (begun (erased T))
begins T e = record {
  count = 0;
  at_hand = T;
  held =
      record {
        size = refl;
        ranks = λ y. 0;
        heap = λ y. var y none;
        values = λ y. var y none;
        most = 0;
        term = T;
        bound = 0;
        sound =
            record {
              kind = λ y. inl (refl, refl);
              above = λ y l. (refl, refl);
              low = λ y l. absurd (omega (arith, l));
            };
        stands = root (λ σ τ h. below_same T 0 σ τ e (λ y l. absurd (omega (arith, l))));
        have = λ c l. absurd (omega (arith, l));
        within = λ c i. absurd i;
        whole = T;
        alone = true;
        around = subst (λ t. Around (λ y. var y none) T true [] t) (sym (inst_same T)) top;
        degrees = [];
        reduces = reductions.ready;
        counted = refl;
      };
  control_is =
      record {
        source = T;
        environment = [];
        erases = refl;
        chain = tt;
        bound = e;
        gives = sym (inst_same T);
      };
}

pub states : (T : Labelled) → is_below 0 (erased T) ≡ true → (n : ℕ) →
    State T (after n (begun (erased T)))
states T e zero = begins T e
states T e (suc n) = moves T (after n (begun (erased T))) (states T e n)

-- ---- the end

clash : false ≡ true → ⊥
clash e = absurd (cc)

bare : {n e : ℕ} {links : List Link} {U : ℕ → Labelled} {K : Labelled} → NameOf n links U e K →
    is_none (first_link links e) ≡ true → Normal (inst U K)
bare (of_var {w = w} z l q) b = subst (λ t. Normal (before w t)) (sym q) tt
bare (of_free z) b = tt
bare (of_argument l q y) b = absurd (clash (sym (ap is_none q) ∙ b))

abbrev IsBy : Labelled → ℕ → Type 0
IsBy T n = (ds : List Label) × (V : Labelled) × FamilyReduces T ds V × IsNormal (erased V)
    × (n ≡ length ds)

ended : (T : Labelled) (n : ℕ) (control : Control) (stack : List Frame) (left : List ℕ)
    (cells : List Cell) (links : List Link) (steps : ℕ) (K : Labelled)
    (h : Held n T stack left cells links steps K) → ControlOf n links (values_of h) control K →
    (length stack == 0) ≡ true → (length left == 0) ≡ true → has_name links control ≡ true →
    IsBy T steps
ended T n control (f ∷ stack) left cells links steps K h x a b c =
    let k = eqb-true (suc (length stack)) 0 a in absurd (omega (arith, k))
ended T n control [] (d ∷ left) cells links steps K h x a b c =
    let k = eqb-true (suc (length left)) 0 b in absurd (omega (arith, k))
ended T n (goes t e) [] [] cells links steps K h x a b c = absurd (clash c)
ended T n (came (function body e)) [] [] cells links steps K h x a b c = absurd (clash c)
ended T n (came (name e)) [] [] cells links steps K h x a b c = (
  h.degrees,
  h.whole,
  h.reduces,
  is_normal h.whole
      (finished h.around
      (subst (λ K. Normal (inst h.values K)) (at_root h.stands).0 (bare x c))),
  h.counted,
)

of_state : (T : Labelled) (m : Machine) → State T m → is_ended m ≡ true → IsBy T m.steps
of_state T m s e =
    let p = and_parts ((length m.stack == 0) && (length m.left == 0)) (has_name m.links m.control) e in
    let q = and_parts (length m.stack == 0) (length m.left == 0) p.0 in
    ended T s.count m.control m.stack m.left m.cells m.links m.steps s.at_hand s.held s.control_is
    q.0 q.1 p.1

pub need_is_by_families : NeedIsByFamilies
need_is_by_families T h moves n e = go (is_ended m) refl e
  where
    m : Machine
    m = after moves (begun (erased T))

    go : (b : Bool) → is_ended m ≡ b → (if b then Some m.steps else None) ≡ Some n → IsBy T n
    go true k q = subst (λ n. IsBy T n) (same_Some m.steps n q) (of_state T m (states T h moves) k)
    go false k q = absurd (none-some _ q)

-- ---- the laws

pub need_ends_in_the_normal_form : NeedEndsInTheNormalForm
need_ends_in_the_normal_form t h moves n e =
    let l = each_term_has_letters t in
    let x =
    need_is_by_families l.0 (ap (is_below 0) l.1 ∙ h) moves n (ap (λ t. need_count t moves) l.1 ∙ e) in
    let b = subst (λ t. BetaReduces t (erased x.1)) l.1 (contracts_beta (spread x.2).steps) in
    (erased x.1, b, x.3, λ u c k. normal_one c b k x.3)

pub demand_is_no_more_than_need : DemandIsNoMoreThanNeed
demand_is_no_more_than_need τ t names h moves n e g k same heads turns journal places M a r =
    let l = each_term_has_letters t in
    let x =
    need_is_by_families l.0 (ap (is_below 0) l.1 ∙ h.bound) moves n
    (ap (λ t. need_count t moves) l.1 ∙ e) in
    let y =
    is_no_longer τ l.0 x.1 x.0 x.2 x.3 l.2 t l.1 names h (net_of g) k same (is_start g k) heads turns
    journal places M a r in
    let z = x.4 in omega (arith, y, z)
