-- Head normal forms of convertible terms, and where head reduction ends.
use Rattle.std.proofs.Common.{◌≡◌, ℕ, zero, suc, ◌⊎◌, inl, inr, true, false, List, [], ◌∷◌, refl, sym, ap, ◌∙◌, subst}
use Rattle.std.specs.Option.{option_map}
use Rattle.ol_beta.specs.Leftmost.{is_abstraction}
use Rattle.ol_readback.specs.Terms.{abstracted}
use Rattle.ol_law_meaning.specs.Contraction.{Tree, var, free, lam, app}
use Rattle.ol_law_meaning.specs.Shows.{ready, contract, BetaReduces, HeadReduces, HeadReducesForever}
use Rattle.ol_law_meaning.specs.Shows.{applied, IsVariable}
use Rattle.ol_law_meaning.proofs.LeftmostRoads.{then_leads}
use Rattle.ol_law_meaning.proofs.HeadSteps.{step_then}
use Rattle.ol_law_meaning.proofs.Endless.{forever, comes_to_none}
use Rattle.ol_law_confluence.specs.Reductions.{Convertible, turned, joined, AreConvertible, HasHeadNormalForm}
use Rattle.ol_law_confluence.specs.Reductions.{HeadReductionEnds, Parallel, of_var, of_free, WeakReduces, weak_done}
use Rattle.ol_law_confluence.specs.Reductions.{weak_step, Standard, to_var, to_free, to_app}
use Rattle.ol_law_confluence.proofs.Parallels.{of_lam_view, OfApp, OfRedex, of_app_view}
use Rattle.ol_law_confluence.proofs.Contractions.{contraction_step, parallel_beta}
use Rattle.ol_law_confluence.proofs.Meetings.{convertible, convertible_meet}
use Rattle.ol_law_confluence.proofs.Standards.{weak_then, weak_fun, standardized, to_lam_view}
use Rattle.ol_law_confluence.proofs.LeftmostEnds.{weak_head}
use Rattle.ol_law_meaning.proofs.Filling.{head_beta}

-- ---- reducts of a head normal form

-- as many terms, each a reduct of the other's
abbrev AreReducts : List Tree → List Tree → Type 0
AreReducts [] [] = Unit {0}
AreReducts [] (Q ∷ Qs) = ⊥
AreReducts (P ∷ Ps) [] = ⊥
AreReducts (P ∷ Ps) (Q ∷ Qs) = BetaReduces P Q × AreReducts Ps Qs

reducts_same : (Ps : List Tree) → AreReducts Ps Ps
reducts_same [] = tt
reducts_same (P ∷ Ps) = (ready, reducts_same Ps)

reducts_then : (Ps Qs Rs : List Tree) → AreReducts Ps Qs → AreReducts Qs Rs → AreReducts Ps Rs
reducts_then [] [] Rs h k = k
reducts_then [] (Q ∷ Qs) Rs h k = absurd h
reducts_then (P ∷ Ps) [] Rs h k = absurd h
reducts_then (P ∷ Ps) (Q ∷ Qs) [] h k = absurd k
reducts_then (P ∷ Ps) (Q ∷ Qs) (R ∷ Rs) h k = (then_leads h.0 k.0, reducts_then Ps Qs Rs h.1 k.1)

-- a parallel step of a term that is applied to arguments and is no abstraction
record Spread (f : Tree) (Ps : List Tree) (v : Tree) : Type 0 where
  fun : Tree
  args : List Tree
  is : v ≡ applied fun args
  fun_step : Parallel f fun
  arg_steps : AreReducts Ps args

spread_one : (f P : Tree) (Ps : List Tree) (v : Tree) → is_abstraction f ≡ false →
    Spread (app f P) Ps v → Spread f (P ∷ Ps) v
spread_one f P Ps v n r = go (of_app_view r.fun_step)
  where
    go : OfApp f P r.fun ⊎ OfRedex f P r.fun → Spread f (P ∷ Ps) v
    go (inl x) = record {
      fun = x.fun;
      args = x.arg ∷ r.args;
      is = r.is ∙ ap (λ g. applied g r.args) x.is;
      fun_step = x.fun_step;
      arg_steps = (parallel_beta x.arg_step, r.arg_steps);
    }
    go (inr x) = absurd (let k : true ≡ false = ap is_abstraction (sym x.fun_is) ∙ n in cc)

spread : (Ps : List Tree) (f v : Tree) → is_abstraction f ≡ false → Parallel (applied f Ps) v →
    Spread f Ps v
spread [] f v n p = record { fun = v; args = []; is = refl; fun_step = p; arg_steps = tt }
spread (P ∷ Ps) f v n p = spread_one f P Ps v n (spread Ps (app f P) v refl p)

variable_plain : (y : Tree) → IsVariable y → is_abstraction y ≡ false
variable_plain (var y) h = refl
variable_plain (free f) h = refl
variable_plain (lam t) h = absurd h
variable_plain (app t s) h = absurd h

var_stays : {y : ℕ} {v : Tree} → Parallel (var y) v → v ≡ var y
var_stays of_var = refl

free_stays : {f : ℕ} {v : Tree} → Parallel (free f) v → v ≡ free f
free_stays of_free = refl

variable_stays : (y v : Tree) → IsVariable y → Parallel y v → v ≡ y
variable_stays (var y) v h p = var_stays p
variable_stays (free f) v h p = free_stays p
variable_stays (lam t) v h p = absurd h
variable_stays (app t s) v h p = absurd h

-- a reduct of a head normal form has the same head, with reducts of the arguments
record Reduct (n : ℕ) (y : Tree) (Ps : List Tree) (v : Tree) : Type 0 where
  args : List Tree
  is : v ≡ abstracted n (applied y args)
  reducts : AreReducts Ps args

reduct_step : (n : ℕ) (y : Tree) (Ps : List Tree) (v : Tree) → IsVariable y →
    Parallel (abstracted n (applied y Ps)) v → Reduct n y Ps v
reduct_step zero y Ps v h p =
    let r = spread Ps y v (variable_plain y h) p in
    record {
      args = r.args;
      is = r.is
          ∙ ap (λ f. applied f r.args) (variable_stays y r.fun h r.fun_step);
      reducts = r.arg_steps;
    }
reduct_step (suc n) y Ps v h p =
    let x = of_lam_view p in
    let r = reduct_step n y Ps x.body h x.step in
    record { args = r.args; is = x.is ∙ ap lam r.is; reducts = r.reducts }

reduct_of : {t v : Tree} → BetaReduces t v → (n : ℕ) (y : Tree) (Ps : List Tree) → IsVariable y →
    t ≡ abstracted n (applied y Ps) → Reduct n y Ps v
reduct_of ready n y Ps h e = record { args = Ps; is = e; reducts = reducts_same Ps }
reduct_of (contract {t = t} {u = u} {at = at} c f l) n y Ps h e =
    let r = reduct_step n y Ps u h (subst (λ t. Parallel t u) e (contraction_step t at u f)) in
    let s = reduct_of l n y r.args h r.is in
    record { args = s.args; is = s.is; reducts = reducts_then Ps r.args s.args r.reducts s.reducts }

-- ---- a head normal form has one head

head_of : Tree → Tree
head_of (var y) = var y
head_of (free f) = free f
head_of (lam t) = lam t
head_of (app f a) = head_of f

args_of : Tree → List Tree → List Tree
args_of (var y) Ps = Ps
args_of (free f) Ps = Ps
args_of (lam t) Ps = Ps
args_of (app f a) Ps = args_of f (a ∷ Ps)

head_applied : (Ps : List Tree) (f : Tree) → head_of (applied f Ps) ≡ head_of f
unfolding head_of
head_applied [] f = refl
head_applied (P ∷ Ps) f = head_applied Ps (app f P)

args_applied : (Ps : List Tree) (f : Tree) → args_of (applied f Ps) [] ≡ args_of f Ps
unfolding args_of
args_applied [] f = refl
args_applied (P ∷ Ps) f = args_applied Ps (app f P)

head_variable : (y : Tree) → IsVariable y → head_of y ≡ y
unfolding head_of
head_variable (var y) h = refl
head_variable (free f) h = refl
head_variable (lam t) h = refl
head_variable (app t s) h = absurd h

args_variable : (y : Tree) → IsVariable y → (Ps : List Tree) → args_of y Ps ≡ Ps
unfolding args_of
args_variable (var y) h Ps = refl
args_variable (free f) h Ps = refl
args_variable (lam t) h Ps = refl
args_variable (app t s) h Ps = absurd h

applied_plain : (Ps : List Tree) (f : Tree) → is_abstraction f ≡ false →
    is_abstraction (applied f Ps) ≡ false
applied_plain [] f n = n
applied_plain (P ∷ Ps) f n = applied_plain Ps (app f P) refl

record SameHead (n m : ℕ) (y z : Tree) (Ps Qs : List Tree) : Type 0 where
  abstractions : n ≡ m
  head : y ≡ z
  args : Ps ≡ Qs

no_lam : (y : Tree) (Ps : List Tree) (t : Tree) → IsVariable y → applied y Ps ≡ lam t → ⊥
no_lam y Ps t h e =
    absurd
    (let k : false ≡ true = sym (applied_plain Ps y (variable_plain y h))
    ∙ ap is_abstraction e in cc)

same_head : (n m : ℕ) (y z : Tree) (Ps Qs : List Tree) → IsVariable y → IsVariable z →
    abstracted n (applied y Ps) ≡ abstracted m (applied z Qs) → SameHead n m y z Ps Qs
same_head zero zero y z Ps Qs h k e = record {
  abstractions = refl;
  head =
      sym (head_applied Ps y ∙ head_variable y h) ∙ ap head_of e ∙ head_applied Qs z
      ∙ head_variable z k;
  args =
      sym (args_applied Ps y ∙ args_variable y h Ps) ∙ ap (λ t. args_of t []) e ∙ args_applied Qs z
      ∙ args_variable z k Qs;
}
same_head zero (suc m) y z Ps Qs h k e = absurd (no_lam y Ps (abstracted m (applied z Qs)) h e)
same_head (suc n) zero y z Ps Qs h k e =
    absurd (no_lam z Qs (abstracted n (applied y Ps)) k (sym e))
same_head (suc n) (suc m) y z Ps Qs h k e =
    let f : abstracted n (applied y Ps) ≡ abstracted m (applied z Qs) = cc in
    let r = same_head n m y z Ps Qs h k f in
    record { abstractions = ap suc r.abstractions; head = r.head; args = r.args }

-- ---- head normal forms of convertible terms

are_convertible : (Ps Qs Rs : List Tree) → AreReducts Ps Rs → AreReducts Qs Rs →
    AreConvertible Ps Qs
are_convertible [] [] [] h k = tt
are_convertible [] [] (R ∷ Rs) h k = absurd h
are_convertible [] (Q ∷ Qs) [] h k = absurd k
are_convertible [] (Q ∷ Qs) (R ∷ Rs) h k = absurd h
are_convertible (P ∷ Ps) Qs [] h k = absurd h
are_convertible (P ∷ Ps) [] (R ∷ Rs) h k = absurd k
are_convertible (P ∷ Ps) (Q ∷ Qs) (R ∷ Rs) h k =
    (joined (convertible h.0) (turned (convertible k.0)), are_convertible Ps Qs Rs h.1 k.1)

pub heads_agree : (n m : ℕ) (y z : Tree) (Ps Qs : List Tree) → IsVariable y → IsVariable z →
    Convertible (abstracted n (applied y Ps)) (abstracted m (applied z Qs)) →
    (n ≡ m) × (y ≡ z) × AreConvertible Ps Qs
heads_agree n m y z Ps Qs h k c =
    let w = convertible_meet c in
    let a = reduct_of w.first n y Ps h refl in
    let b = reduct_of w.second m z Qs k refl in
    let s = same_head n m y z a.args b.args h k (sym a.is ∙ b.is) in (
      s.abstractions,
      s.head,
      are_convertible Ps Qs a.args a.reducts
          (subst (λ Rs. AreReducts Qs Rs) (sym s.args) b.reducts),
    )

pub heads_agree_of : {t u : Tree} → Convertible t u → (n m : ℕ) (y z : Tree) (Ps Qs : List Tree) →
    IsVariable y → IsVariable z →
    HeadReduces t (abstracted n (applied y Ps)) → HeadReduces u (abstracted m (applied z Qs)) →
    (n ≡ m) × (y ≡ z) × AreConvertible Ps Qs
heads_agree_of c n m y z Ps Qs h k r s =
    heads_agree n m y z Ps Qs h k
    (joined (turned (convertible (head_beta r))) (joined c (convertible (head_beta s))))

-- ---- where head reduction ends

head_lam : {t u : Tree} → HeadReduces t u → HeadReduces (lam t) (lam u)
head_lam ready = ready
head_lam (contract {at = at} c e l) =
    contract {at = 0 ∷ at} (suc c.0, c.1, ap (λ at. 0 ∷ at) c.2) (ap (option_map lam) e) (head_lam l)

weak_heads : {t u : Tree} → WeakReduces t u → HeadReduces t u
weak_heads weak_done = ready
weak_heads (weak_step s l) = step_then (weak_head s) (weak_heads l)

-- standard reduction to f with arguments begins with weak head reduction of what reduces to f
record Begins (t f : Tree) (Ps : List Tree) : Type 0 where
  fun : Tree
  args : List Tree
  inner : Standard fun f
  weak : (s : Tree) → WeakReduces fun s → WeakReduces t (applied s args)

record ToApp (t M' N' : Tree) : Type 0 where
  fun : Tree
  arg : Tree
  weak : WeakReduces t (app fun arg)
  inner : Standard fun M'

to_app_view : {t M' N' : Tree} → Standard t (app M' N') → ToApp t M' N'
to_app_view (to_app {M = M} {N = N} w s s') = record { fun = M; arg = N; weak = w; inner = s }

begins : (Ps : List Tree) {t : Tree} (f : Tree) → Standard t (applied f Ps) → Begins t f Ps
begins [] {t} f s = record { fun = t; args = []; inner = s; weak = λ u w. w }
begins (P ∷ Ps) f s =
    let r = begins Ps (app f P) s in
    let x = to_app_view r.inner in
    record {
      fun = x.fun;
      args = x.arg ∷ r.args;
      inner = x.inner;
      weak =
          λ u w. r.weak (app u x.arg) (weak_then x.weak (weak_fun x.arg w));
    }

to_var_view : {t : Tree} {y : ℕ} → Standard t (var y) → WeakReduces t (var y)
to_var_view (to_var w) = w

to_free_view : {t : Tree} {f : ℕ} → Standard t (free f) → WeakReduces t (free f)
to_free_view (to_free w) = w

to_variable : {t : Tree} (y : Tree) → IsVariable y → Standard t y → WeakReduces t y
to_variable (var y) h s = to_var_view s
to_variable (free f) h s = to_free_view s
to_variable (lam t) h s = absurd h
to_variable (app t s) h k = absurd h

record ToHead (t : Tree) (n : ℕ) (y : Tree) : Type 0 where
  args : List Tree
  reduces : HeadReduces t (abstracted n (applied y args))

to_head : (n : ℕ) {t : Tree} (y : Tree) (Ps : List Tree) → IsVariable y →
    Standard t (abstracted n (applied y Ps)) → ToHead t n y
to_head zero y Ps h s =
    let r = begins Ps y s in
    record { args = r.args; reduces = weak_heads (r.weak y (to_variable y h r.inner)) }
to_head (suc n) y Ps h s =
    let x = to_lam_view s in
    let r = to_head n y Ps h x.inner in
    record {
      args = r.args;
      reduces =
          then_leads (weak_heads x.weak) (head_lam r.reduces);
    }

pub ends : {t : Tree} → HasHeadNormalForm t → HeadReductionEnds t
ends {t} f =
    let k = f.is_head_normal in
    let w = convertible_meet (subst (λ u. Convertible t u) k.is f.converts) in
    let a = reduct_of w.second k.abstractions k.head k.arguments k.variable refl in
    let r =
    to_head k.abstractions k.head a.args k.variable
    (subst (λ u. Standard t u) a.is (standardized w.first)) in
    record {
      form = abstracted k.abstractions (applied k.head r.args);
      reduces = r.reduces;
      is_head_normal =
          record {
            abstractions = k.abstractions;
            head = k.head;
            arguments = r.args;
            variable =
                k.variable;
            is = refl;
          };
    }

pub has_form : {t : Tree} → HeadReductionEnds t → HasHeadNormalForm t
has_form r =
    record {
      form = r.form;
      converts = convertible (head_beta r.reduces);
      is_head_normal =
          r.is_head_normal;
    }

pub no_form : (t : Tree) → (HasHeadNormalForm t → ⊥) → HeadReducesForever t
no_form t f =
    forever t (λ u r n. f (has_form (record { form = u; reduces = r; is_head_normal = n })))

pub forever_none : (t : Tree) → HeadReducesForever t → HasHeadNormalForm t → ⊥
forever_none t f h = let e = ends h in comes_to_none t e.form f e.reduces e.is_head_normal
