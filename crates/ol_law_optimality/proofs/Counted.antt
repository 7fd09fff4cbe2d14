-- Leftmost reduction to a normal form: head steps first, and then the arguments, from the first to
-- the last.
use Rattle.std.proofs.Common.{◌≡◌, ℕ, zero, suc, ◌+◌, ◌<◌, ◌≤◌, Bool, true, false, ◌⊎◌, inl, inr}
use Rattle.std.proofs.Common.{List, [], ◌∷◌, Some, None, refl, sym, ap, ◌∙◌, subst, arith}
use Rattle.ol_beta.specs.Beta.{contracted}
use Rattle.ol_beta.specs.Leftmost.{leftmost, is_abstraction}
use Rattle.ol_law_meaning.specs.Contraction.{Tree, var, free, lam, app, Level, Wire, Place, HeadStep}
use Rattle.ol_law_meaning.specs.Heads.{Spine, head_var, head_free, head_app, Normal, flat, layer}
use Rattle.ol_law_meaning.specs.Shows.{LeftmostReduces}
use Rattle.ol_law_meaning.specs.Shows as shows
use Rattle.ol_law_meaning.proofs.Walking.{normal_or_step}
use Rattle.ol_law_meaning.proofs.LeftmostSteps.{leftmost_step, same_step}
use Rattle.ol_law_meaning.proofs.LeftmostRoads.{IsNeutral, arg_leftmost, StepsTo, step_before}
use Rattle.ol_law_meaning.proofs.Endings.{some_none, step_or_none, within_lam, within_arg}
use Rattle.ol_law_optimality.specs.Steps.{steps_of}

-- contraction of the leftmost redex, so many times
data LeftmostSteps : Tree → Tree → ℕ → Type 0 where
  ready : {t : Tree} → LeftmostSteps t t 0
  contract : {t u v : Tree} {at : List ℕ} {m : ℕ} →
      leftmost t ≡ Some at → contracted t at ≡ Some u → LeftmostSteps u v m → LeftmostSteps t v (suc m)

counted : {t v : Tree} (r : LeftmostReduces t v) → LeftmostSteps t v (steps_of r)
counted shows.ready = ready
counted (shows.contract {at = at} e f r) = contract {at = at} e f (counted r)

-- So many leftmost steps bring the term to a normal form; or, where it is a head normal form, its
-- arguments.
pub data Costs : Bool → Tree → ℕ → Type 0 where
  head : {t t' : Tree} {m : ℕ} → HeadStep t t' → Costs true t' m → Costs true t (suc m)
  arguments : {t : Tree} {q : Place} {a : Level} {j m : ℕ} → Normal t q a j → Costs false t m →
      Costs true t m
  of_var : {y : ℕ} → Costs false (var y) 0
  of_free : {f : ℕ} → Costs false (free f) 0
  of_lam : {M : Tree} {m : ℕ} → Costs false M m → Costs false (lam M) m
  of_app : {R P : Tree} {m n k : ℕ} → Costs false R m → Costs true P n → k ≡ m + n →
      Costs false (app R P) k

-- ---- a head stays one

record Spined (t : Tree) : Type 0 where
  wire : Wire
  level : Level
  args : ℕ
  spine : Spine t wire level args

spine_plain : {t : Tree} {y : Wire} {a : Level} {j : ℕ} → Spine t y a j → is_abstraction t ≡ false
spine_plain head_var = refl
spine_plain head_free = refl
spine_plain (head_app s e) = refl

with_argument : {R : Tree} (P : Tree) → Spined R → Spined (app R P)
with_argument P s = record { wire = s.wire; level = _; args = suc s.args; spine = head_app s.spine refl }

step_fun : (R R' P : Tree) → is_abstraction R ≡ false → StepsTo R R' → StepsTo (app R P) (app R' P)
step_fun R R' P n s = step_before (P ∷ []) R R' n s

neutral : {R : Tree} {y : Wire} {a : Level} {j : ℕ} → Spine R y a j → leftmost R ≡ None → IsNeutral R
neutral s n = record { plain = spine_plain s; none = n }

-- a step of an application whose function is a head with arguments
data Steppy (R P u : Tree) : Type 0 where
  in_function : (R' : Tree) → StepsTo R R' → u ≡ app R' P → Steppy R P u
  in_argument : (P' : Tree) → leftmost R ≡ None → StepsTo P P' → u ≡ app R P' → Steppy R P u

steppy : {R : Tree} {y : Wire} {a : Level} {j : ℕ} (P u : Tree) → Spine R y a j → StepsTo (app R P) u → Steppy R P u
steppy {R = R} P u s z = by (step_or_none R)
  where
    by : (leftmost R ≡ None) ⊎ ((R' : Tree) × StepsTo R R') → Steppy R P u
    by (inr (R', r)) =
        let f = step_fun R R' P (spine_plain s) r in
        in_function R' r (same_step (app R P) z.first z.gives f.first f.gives)
    by (inl n) = on (step_or_none P)
      where
        on : (leftmost P ≡ None) ⊎ ((P' : Tree) × StepsTo P P') → Steppy R P u
        on (inr (P', r)) =
            let f = within_arg R (neutral s n) [] P P' r in
            in_argument P' n r (same_step (app R P) z.first z.gives f.first f.gives)
        on (inl m) = absurd (some_none z.at (sym z.first ∙ arg_leftmost R P None (neutral s n) m))

stays : {R : Tree} {y : Wire} {a : Level} {j : ℕ} → Spine R y a j → (R' : Tree) → StepsTo R R' → Spined R'
stays head_var R' z = absurd (some_none z.at (sym z.first))
stays head_free R' z = absurd (some_none z.at (sym z.first))
stays (head_app {R = R} {P = P} s e) R' z = by (λ Q r. stays s Q r) (steppy P R' s z)
  where
    by : ((Q : Tree) → StepsTo R Q → Spined Q) → Steppy R P R' → Spined R'
    by up (in_function Q r f) = subst Spined (sym f) (with_argument P (up Q r))
    by up (in_argument Q n r f) = subst Spined (sym f)
        (record { wire = _; level = _; args = _; spine = head_app s refl })

-- ---- an application's steps are those of its function, and then those of its argument

record Parted (R P : Tree) (m : ℕ) : Type 0 where
  function : Tree
  function_steps : ℕ
  function_leads : LeftmostSteps R function function_steps
  function_none : leftmost function ≡ None
  argument : Tree
  argument_steps : ℕ
  argument_leads : LeftmostSteps P argument argument_steps
  argument_none : leftmost argument ≡ None
  sum : m ≡ function_steps + argument_steps

parted : {t v : Tree} {m : ℕ} → LeftmostSteps t v m → leftmost v ≡ None → (R P : Tree) → Spined R →
    t ≡ app R P → Parted R P m
parted {t = t} ready n R P s e = by (step_or_none R) (step_or_none P)
  where
    none : leftmost (app R P) ≡ None
    none = ap leftmost (sym e) ∙ n

    by : (leftmost R ≡ None) ⊎ ((R' : Tree) × StepsTo R R') →
        (leftmost P ≡ None) ⊎ ((P' : Tree) × StepsTo P P') → Parted R P 0
    by (inr (R', r)) k = let f = step_fun R R' P (spine_plain s.spine) r in absurd (some_none f.at (sym f.first ∙ none))
    by (inl a) (inr (P', r)) = let f = within_arg R (neutral s.spine a) [] P P' r in
        absurd (some_none f.at (sym f.first ∙ none))
    by (inl a) (inl b) = record {
      function = R;
      function_steps = 0;
      function_leads = ready;
      function_none = a;
      argument = P;
      argument_steps = 0;
      argument_leads = ready;
      argument_none = b;
      sum = refl;
    }
parted {t = t} (contract {u = u} {at = at} {m = m} g h l) n R P s e =
    by (λ R' P' s' e'. parted l n R' P' s' e')
    (steppy P u s.spine (record {
      at = at;
      first = ap leftmost (sym e) ∙ g;
      gives = ap (λ t. contracted t at) (sym e) ∙ h;
    }))
  where
    by : ((R' P' : Tree) → Spined R' → u ≡ app R' P' → Parted R' P' m) → Steppy R P u → Parted R P (suc m)
    by next (in_function R' r f) =
        let x = next R' P (stays s.spine R' r) f in
        record {
          function = x.function;
          function_steps = suc x.function_steps;
          function_leads = contract {at = r.at} r.first r.gives x.function_leads;
          function_none = x.function_none;
          argument = x.argument;
          argument_steps = x.argument_steps;
          argument_leads = x.argument_leads;
          argument_none = x.argument_none;
          sum = (let q = x.sum in omega arith);
        }
    by next (in_argument P' none r f) =
        let x = next R P' s f in
        record {
          function = x.function;
          function_steps = x.function_steps;
          function_leads = x.function_leads;
          function_none = x.function_none;
          argument = x.argument;
          argument_steps = suc x.argument_steps;
          argument_leads = contract {at = r.at} r.first r.gives x.argument_leads;
          argument_none = x.argument_none;
          sum = (let q = x.sum in omega arith);
        }

-- and an abstraction's are those of its body
record Body (M : Tree) (m : ℕ) : Type 0 where
  last : Tree
  leads : LeftmostSteps M last m
  none : leftmost last ≡ None

body : {t v : Tree} {m : ℕ} → LeftmostSteps t v m → leftmost v ≡ None → (M : Tree) → t ≡ lam M → Body M m
body {t = t} ready n M e = by (step_or_none M)
  where
    by : (leftmost M ≡ None) ⊎ ((M' : Tree) × StepsTo M M') → Body M 0
    by (inl a) = record { last = M; leads = ready; none = a }
    by (inr (M', r)) = let f = within_lam 1 M M' r in absurd (some_none f.at (sym f.first ∙ ap leftmost (sym e) ∙ n))
body {t = t} {v = v} (contract {u = u} {at = at} {m = m} g h l) n M e = by (λ M' e'. body l n M' e') (step_or_none M)
  where
    by : ((M' : Tree) → u ≡ lam M' → Body M' m) → (leftmost M ≡ None) ⊎ ((M' : Tree) × StepsTo M M') → Body M (suc m)
    by next (inl a) = absurd (some_none at (sym g ∙ ap leftmost e ∙ none))
      where
        none : leftmost (lam M) ≡ None
        none = rw a refl
    by next (inr (M', r)) =
        let f = within_lam 1 M M' r in
        let x = next M' (same_step t g h (ap leftmost e ∙ f.first) (ap (λ t. contracted t f.at) e ∙ f.gives)) in
        record { last = x.last; leads = contract {at = r.at} r.first r.gives x.leads; none = x.none }

-- ---- head steps first, and then the arguments

module _ (most : ℕ) (fewer : (t v : Tree) (m : ℕ) → m < most → LeftmostSteps t v m →
    leftmost v ≡ None → Costs true t m) where
  abbrev Whole : Tree → Type 0
  Whole t = (v : Tree) (m : ℕ) → m ≤ most → LeftmostSteps t v m → leftmost v ≡ None → Costs true t m

  abbrev Args : Tree → Type 0
  Args t = (q : Place) (a : Level) (j : ℕ) → Normal t q a j → (v : Tree) (m : ℕ) → m ≤ most →
      LeftmostSteps t v m → leftmost v ≡ None → Costs false t m

  no_steps : {t v : Tree} {m : ℕ} → LeftmostSteps t v m → leftmost t ≡ None → m ≡ 0
  no_steps ready n = refl
  no_steps (contract {at = at} e f l) n = absurd (some_none at (sym e ∙ n))

  head_first : {t t' v : Tree} {m : ℕ} → HeadStep t t' → m ≤ most → LeftmostSteps t v m →
      leftmost v ≡ None → Costs true t m
  head_first h b ready n = let r = leftmost_step h in absurd (some_none r.0 (sym r.1 ∙ n))
  head_first {t = t} {v = v} h b (contract {u = u} {m = m} e f l) n =
      let r = leftmost_step h in
      head (subst (HeadStep t) (same_step t r.1 r.2 e f) h) (fewer u v m (omega arith) l n)

  whole_of : (t : Tree) → Args t → Whole t
  whole_of t up v m b l n = by (normal_or_step t)
    where
      by : ((q : Place) × (a : Level) × (j : ℕ) × Normal t q a j) ⊎ ((t' : Tree) × HeadStep t t') → Costs true t m
      by (inl k) = arguments k.3 (up k.0 k.1 k.2 k.3 v m b l n)
      by (inr k) = head_first k.1 b l n

  args_of_app : (R P : Tree) → Args R → Whole P → Args (app R P)
  args_of_app R P up right q a j (flat (head_app {y = y} {a = a'} {j = j'} s e)) v m b l n =
      let x = parted l n R P (record { wire = y; level = a'; args = j'; spine = s }) refl in
      let z = x.sum in
      of_app (up _ a' j' (flat s) x.function x.function_steps (omega arith) x.function_leads x.function_none)
      (right x.argument x.argument_steps (omega arith) x.argument_leads x.argument_none) x.sum

  args_of_lam : (M : Tree) → Args M → Args (lam M)
  args_of_lam M up q a j (layer {p = p} {v = w} k h) v m b l n =
      let x = body l n M refl in
      of_lam (up p w j k x.last m b x.leads x.none)
  args_of_lam M up q a j (flat s) v m b l n = elim s [ ]

  both : (t : Tree) → Whole t × Args t
  both (var y) =
      let f : Args (var y) = λ q a j k v m b l n. subst (Costs false (var y)) (sym (no_steps l refl)) of_var in
      (whole_of (var y) f, f)
  both (free y) =
      let f : Args (free y) = λ q a j k v m b l n. subst (Costs false (free y)) (sym (no_steps l refl)) of_free in
      (whole_of (free y) f, f)
  both (lam M) = let f = args_of_lam M (both M).1 in (whole_of (lam M) f, f)
  both (app R P) = let f = args_of_app R P (both R).1 (both P).0 in (whole_of (app R P) f, f)

costs_within : (most : ℕ) (t v : Tree) (m : ℕ) → m < most → LeftmostSteps t v m → leftmost v ≡ None → Costs true t m
costs_within zero t v m b l n = absurd (omega arith)
costs_within (suc most) t v m b l n = (both most (costs_within most) t).0 v m (omega arith) l n

pub costs : {t v : Tree} (r : LeftmostReduces t v) → leftmost v ≡ None → Costs true t (steps_of r)
costs {t = t} {v = v} r n = costs_within (suc (steps_of r)) t v (steps_of r) (omega arith) (counted r) n
