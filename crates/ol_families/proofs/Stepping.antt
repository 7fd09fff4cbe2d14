-- What a step of the code comes to.
use Rattle.std.proofs.Common.{◌≡◌, ℕ, ◌+◌, ◌<◌, ◌≤◌, Bool, true, false, if◌then◌else◌, List, length, Option, Some, None, refl, sym, ap, ◌∙◌, subst}
use Rattle.std.specs.Prelude.{IsSome}
use Rattle.std.proofs.lemmas.Option.{none-some}
use Rattle.ol_beta.specs.Beta as beta
use Rattle.ol_beta.specs.Beta.{IsWithin, IsPastAfter}
use Rattle.ol_beta.specs.Leftmost.{leftmost}
use Rattle.ol_term.specs.Trees.{Tree, is_below}
use Rattle.ol_families.specs.declared.counting.Labelling.{Labelling}
use Rattle.ol_families.specs.Counts.{IsFamilyCount}
use Rattle.ol_families.specs.Letters.{most_letters}
use Rattle.ol_families.specs.Held.{Held, bare, contracted, degree, held_of}
use Rattle.ol_families.specs.Steps.{IsStepped, on, too_long, too_large}
use Rattle.ol_families.specs.Tables.{degrees_of}
use Rattle.ol_families.proofs.Lettering.{Alike, alike_contracted}
use Rattle.ol_families.proofs.Onward as onward
use Rattle.ol_families.proofs.Onward.{Follows}
use Rattle.ol_families.proofs.Reading.{has_degree, has_step}

clash : false ≡ true → ⊥
clash e = cc

is_something : {A : Type 0} (o : Option A) (x : A) → o ≡ Some x → IsSome o
is_something o x e = subst IsSome (sym e) refl

something : {A : Type 0} (o : Option A) → IsSome o → (x : A) × (o ≡ Some x)
something None h = absurd (clash h)
something (Some x) h = (x, refl)

pub true_and_false : (b : Bool) → b ≡ true → b ≡ false → ⊥
true_and_false b e d = clash (sym d ∙ e)

-- a redex has a degree
pub no_degree : (t : Held) (at : List ℕ) → IsSome (contracted 0 t at) → degree t at ≡ None → ⊥
no_degree t at h e =
    let s = something (contracted 0 t at) h in
    let d = has_degree 0 t at s.0 s.1 in
    none-some d.0 (sym e ∙ d.1)

-- and can be contracted, whatever number its degree has
pub is_found : (t u : Held) (at : List ℕ) (k : ℕ) (b : Bool) → IsSome (contracted 0 t at) →
    contracted k t at ≡ (if b then Some u else None) → b ≡ true
is_found t u at k true h e = refl
is_found t u at k false h e =
    by (contracted 0 t at) (contracted k t at) (something (contracted 0 t at) h) e (alike_contracted 0 k t at)
  where
    by : (x y : Option Held) → (v : Held) × (x ≡ Some v) → y ≡ None → Alike 0 k x y → false ≡ true
    by None y s e l = absurd (none-some s.0 s.1)
    by (Some v) None s e l = absurd l
    by (Some v) (Some w) s e l = absurd (none-some w (sym e))

module _ (t : Tree) (made most : ℕ) (here : Tree) (old : Labelling)
    (f : Follows t made here (held_of old.term) (degrees_of old.degrees) old.written) where
  pub small_here : IsWithin here → IsWithin (bare (held_of old.term))
  small_here w = subst IsWithin (sym f.bare_is) w

  pub bound_here : is_below 0 here ≡ true → is_below 0 (bare (held_of old.term)) ≡ true
  bound_here b = subst (λ (t : Tree). is_below 0 t ≡ true) (sym f.bare_is) b

  pub redex_here : (at moves : List ℕ) (next : Tree) → beta.contracted here at ≡ Some next → moves ≡ at →
      IsSome (contracted 0 (held_of old.term) moves)
  redex_here at moves next c e =
      let s = has_step 0 (held_of old.term) at next (ap (λ (t : Tree). beta.contracted t at) f.bare_is ∙ c) in
      subst (λ (at : List ℕ). IsSome (contracted 0 (held_of old.term) at)) (sym e)
      (is_something (contracted 0 (held_of old.term) at) s.0 s.1)

  pub past_here : (at : List ℕ) (size deep : ℕ) → made < most → leftmost here ≡ Some at →
      IsPastAfter here at size deep → IsFamilyCount t most (length (degrees_of old.degrees)) false
  past_here at size deep b l p =
      let s = has_step 0 (held_of old.term) at p.after (ap (λ (t : Tree). beta.contracted t at) f.bare_is ∙ p.is) in
      let d = has_degree 0 (held_of old.term) at s.0 s.1 in
      onward.grows_past t made here (held_of old.term) (degrees_of old.degrees) old.written f at l p.after p.is d.0 d.1
      most b p.past

  module _ (new : Labelling) (at : List ℕ) (next : Tree) (l : leftmost here ≡ Some at)
      (c : beta.contracted here at ≡ Some next) (b : made < most) (w : IsWithin next) where
    abbrev pub Outcome : Bool → Type 0
    Outcome true = Follows t (made + 1) next (held_of new.term) (degrees_of new.degrees) new.written
    Outcome false = IsFamilyCount t most (length (degrees_of old.degrees)) false

    outcome : (s : Bool) → IsStepped at old new s → Outcome s
    outcome true (on row k g n e x y z) =
        subst (λ (n : ℕ). Follows t (made + 1) next (held_of new.term) (degrees_of new.degrees) n) (sym x)
        (onward.goes_on t made here (held_of old.term) (degrees_of old.degrees) old.written f at l next c row g k
        (degrees_of new.degrees) n (held_of new.term) e w (subst (λ (n : ℕ). n ≤ most_letters) x y) z)
    outcome false (too_long row g p) =
        onward.too_long t made here (held_of old.term) (degrees_of old.degrees) old.written f at l next c row g most b p
    outcome false (too_large row n g a p) =
        onward.too_many_letters t made here (held_of old.term) (degrees_of old.degrees) old.written f at l next c row g n most b
        a p

    pub went_on : (s : Bool) (moves : List ℕ) → moves ≡ at → IsStepped moves old new s → s ≡ true → Outcome true
    went_on s moves e h d = subst Outcome d (outcome s (subst (λ (at : List ℕ). IsStepped at old new s) e h))

    pub stopped : (s : Bool) (moves : List ℕ) → moves ≡ at → IsStepped moves old new s → s ≡ false → Outcome false
    stopped s moves e h d = subst Outcome d (outcome s (subst (λ (at : List ℕ). IsStepped at old new s) e h))
