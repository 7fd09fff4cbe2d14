-- Lists at one place: a hand's access to the parts, and the parts themselves.
use Rattle.std.proofs.Common.{◌≡◌, ◌≢◌, ◌∙◌, ℕ, zero, suc, ◌<◌, List, [], ◌∷◌, length, map, Some}
use Rattle.std.proofs.Common.{slice_get, slice_set, All, sym, refl, ap, subst}
use Rattle.std.proofs.lemmas.List.{get_or-set_same, get_or-set_other, length-set}
use Rattle.std.proofs.lemmas.List.Elements.{All-head, All-tail}
use Rattle.std.proofs.lemmas.Option.{slice_get_within, same_Some}
use native.Mathlib.Decide.{ℕ_discrete}
use mathlib.Core.Logic.{dite}
use Rattle.ol_pool.specs.Looks.{Part, part_at, new_part}
use Rattle.ol_pool.specs.Owned.{OwnState, ReachState, reach_part, own_part}
use Rattle.ol_pool.specs.Handed.{deques_of, parts_of}

-- a list whose element at a place changes, but not its image
pub map_set : {X Y : Type 0} (f : X → Y) (xs : List X) (i : ℕ) (x a : X) → slice_get xs i ≡ Some x →
    f a ≡ f x → map f (slice_set xs i a) ≡ map f xs
map_set f [] i x a at e = absurd (cc)
map_set f (y ∷ xs) zero x a at e = ap (λ z. z ∷ map f xs) (e ∙ ap f (sym (same_Some y x at)))
map_set f (y ∷ xs) (suc i) x a at e = ap (λ l. f y ∷ l) (map_set f xs i x a at e)

pub map_set_at : {X Y : Type 0} (f : X → Y) (xs : List X) (i : ℕ) (a : X) →
    map f (slice_set xs i a) ≡ slice_set (map f xs) i (f a)
map_set_at f [] i a = refl
map_set_at f (y ∷ xs) zero a = refl
map_set_at f (y ∷ xs) (suc i) a = ap (λ l. f y ∷ l) (map_set_at f xs i a)

-- what stands at a place of two lists with one image
pub get_mapped : {X Y : Type 0} (f : X → Y) (xs : List X) (i : ℕ) (x : X) →
    slice_get xs i ≡ Some x → slice_get (map f xs) i ≡ Some (f x)
get_mapped f [] i x at = absurd (cc)
get_mapped f (y ∷ xs) zero x at = cc
get_mapped f (y ∷ xs) (suc i) x at = get_mapped f xs i x at

pub all_at : {X : Type 0} (P : X → Type 0) (xs : List X) (i : ℕ) (x : X) → slice_get xs i ≡ Some x → All P xs → P x
all_at P [] i x at all = absurd (cc)
all_at P (y ∷ xs) zero x at all = subst P (same_Some y x at) (All-head P y xs all)
all_at P (y ∷ xs) (suc i) x at all = all_at P xs i x at (All-tail P y xs all)

-- parts, of which one changes
pub here : (parts : List Part) (i : ℕ) (p : Part) → i < length parts → part_at (slice_set parts i p) i ≡ p
here parts i p lt = get_or-set_same parts i p new_part lt

pub there : (parts : List Part) (i k : ℕ) (p : Part) → k ≢ i → part_at (slice_set parts i p) k ≡ part_at parts k
there parts i k p n = get_or-set_other parts i k p new_part n

pub map_long : {X Y : Type 0} (f : X → Y) (xs : List X) → length (map f xs) ≡ length xs
map_long f [] = refl
map_long f (x ∷ xs) = ap suc (map_long f xs)

module _ (number : ℕ) (own : OwnState) (empties : ℕ) (others : List ReachState) (within : number < length others) where
  long : length (map reach_part others) ≡ length others
  long = map_long reach_part others

  pub own_here : part_at (parts_of number own empties others) number ≡ own_part own empties
  own_here = here (map reach_part others) number (own_part own empties) (subst (λ n. number < n) (sym long) within)

  pub other_here : (k : ℕ) → k ≢ number →
      part_at (parts_of number own empties others) k ≡ part_at (map reach_part others) k
  other_here k n = there (map reach_part others) number k (own_part own empties) n

pub reach_here : (others : List ReachState) (k : ℕ) (r : ReachState) → slice_get others k ≡ Some r →
    part_at (map reach_part others) k ≡ reach_part r
reach_here others k r at = get_or-map_here others k r at where
  get_or-map_here : (others : List ReachState) (k : ℕ) (r : ReachState) →
      slice_get others k ≡ Some r → part_at (map reach_part others) k ≡ reach_part r
  get_or-map_here [] k r at = absurd (cc)
  get_or-map_here (y ∷ others) zero r at = ap reach_part (same_Some y r at)
  get_or-map_here (y ∷ others) (suc k) r at = get_or-map_here others k r at

-- what holds of each part
reach_hold : (Q : Part → Type 0) (others : List ReachState) → Q new_part →
    All (λ (r : ReachState). Q (reach_part r)) others → (p : ℕ) → Q (part_at (map reach_part others) p)
reach_hold Q [] none all p = none
reach_hold Q (r ∷ others) none all zero = All-head (λ (r : ReachState). Q (reach_part r)) r others all
reach_hold Q (r ∷ others) none all (suc p) = reach_hold Q others none
    (All-tail (λ (r : ReachState). Q (reach_part r)) r others all) p

pub parts_hold : (Q : Part → Type 0) (number : ℕ) (own : OwnState) (empties : ℕ)
    (others : List ReachState) → number < length others
    → Q new_part → Q (own_part own empties) → All (λ (r : ReachState). Q (reach_part r)) others →
    (p : ℕ) → Q (part_at (parts_of number own empties others) p)
parts_hold Q number own empties others within none mine all p = dite (ℕ_discrete p number)
    (λ e. subst (λ k. Q (part_at (parts_of number own empties others) k)) (sym e)
    (subst Q (sym (own_here number own empties others within)) mine))
    (λ n. subst Q (sym (other_here number own empties others within p n)) (reach_hold Q others none all p))

-- the number of a hand is that of one of its pool's deques
pub number_within : (number : ℕ) (own : OwnState) (others : List ReachState) →
    slice_get (deques_of others) number ≡ Some own.deque → number < length others
number_within number own others at = subst (λ n. number < n)
    (map_long (λ (r : ReachState). r.deque) others) (slice_get_within (deques_of others) number own.deque at)

-- one other part changes
module _ (number : ℕ) (own : OwnState) (empties : ℕ) (others : List ReachState)
    (within : number < length others) (at : ℕ) (new : ReachState) where
  within_still : number < length (slice_set others at new)
  within_still = subst (λ n. number < n) (sym (length-set others at new)) within

  pub others_stay : (q : ℕ) → q ≢ at →
      part_at (parts_of number own empties (slice_set others at new)) q ≡ part_at (parts_of number own empties others) q
  others_stay q apart = dite (ℕ_discrete q number)
      (λ e. subst (λ k. part_at (parts_of number own empties (slice_set others at new)) k ≡ part_at
      (parts_of number own empties others) k) (sym e)
      (own_here number own empties (slice_set others at new) within_still
      ∙ sym (own_here number own empties others within)))
      (λ n. other_here number own empties (slice_set others at new) within_still q n
      ∙ ap (λ l. part_at l q) (map_set_at reach_part others at new)
      ∙ there (map reach_part others) at q (reach_part new) apart
      ∙ sym (other_here number own empties others within q n))

  pub new_there : at < length others → at ≢ number →
      part_at (parts_of number own empties (slice_set others at new)) at ≡ reach_part new
  new_there lt n = other_here number own empties (slice_set others at new) within_still at n
      ∙ ap (λ l. part_at l at) (map_set_at reach_part others at new)
      ∙ here (map reach_part others) at (reach_part new) (subst (λ k. at < k) (sym (map_long reach_part others)) lt)
