-- A search for a reduction of so many steps.
use Rattle.std.proofs.Common.{◌≡◌, ℕ, zero, suc, ◌+◌, ◌-◌, ◌<◌, ◌≤◌, true, false, List, [], ◌∷◌, ◌++◌, take, Option, Some, None, ◌⊎◌, inl, inr, refl, sym, ap, ◌∙◌, subst, arith}
use Rattle.std.specs.Prelude.{◌≢◌, IsSome, is_some, reverse}
use Rattle.std.specs.declared.vec.Vec.{Vec}
use Rattle.std.specs.declared.alloc.Global.{Global}
use Rattle.ol_derivations.specs.StepsFound.{IsStepFound, address_of}
use Rattle.std.specs.List.{sum_by}
use Rattle.std.proofs.lemmas.List.Sums.{sum_by-take-le, sum_by_push, sum_by-cons}
use Rattle.ol_term.specs.Trees.{Tree}
use Rattle.ol_beta.specs.Beta.{contracted, IsWithin, IsPastAfter}
use Rattle.ol_beta.proofs.Onward.{past_within}
use Rattle.ol_derivations.specs.Steps.{IsFirstStep, IsNoStep}
use Rattle.ol_derivations.specs.Reductions.{LeadsBy, redexes, one_and, reductions, StaysWithin, IsSeen}
use Rattle.ol_derivations.specs.Reductions.{most_told_steps, most_reductions, AreSteps, AreNoSteps}
use Rattle.ol_derivations.specs.Searches.{is_cut, first_found, IsSearched, IsSearchedTerm, IsSearchedBehind}
use Rattle.ol_derivations.specs.declared.searching.Search.{Search}
use Rattle.ol_derivations.specs.declared.searching.Search.TheVariants.{Found, Missed, Cut}
use Rattle.ol_derivations.proofs.Redexes.{Each, each_append, each_redex}

clash : false ≡ true → ⊥
clash e = cc

-- ---- the redexes that were tried

-- the terms behind this redex are within bounds
abbrev pub Stays : Tree → ℕ → List ℕ → Type 0
Stays t m at = (s : Tree) → contracted t at ≡ Some s → IsWithin s × StaysWithin m s

-- no reduction of m + 2 steps begins with this redex
abbrev pub Misses : (t u : Tree) → ℕ → List ℕ → Type 0
Misses t u m at = (s : Tree) → contracted t at ≡ Some s → LeadsBy (suc m) s u → ⊥

-- how many reductions of at most m + 1 steps begin with this redex
abbrev pub through : Tree → ℕ → List ℕ → ℕ
through t m at = one_and (reductions m) (contracted t at)

abbrev pub Results : (t u : Tree) → ℕ → List (List ℕ) → Search → Type 0
Results t u m ats Found = LeadsBy (suc (suc m)) t u
Results t u m ats Missed = Each (Misses t u m) ats
Results t u m ats Cut = ⊥

pub record Tried (t u : Tree) (m : ℕ) (ats : List (List ℕ)) (before left : ℕ) (r : Search) : Type 0 where
  pub stay : Each (Stays t m) ats
  pub counted : left + sum_by (through t m) ats ≡ before
  pub results : Results t u m ats r

no_sum : (f : List ℕ → ℕ) → sum_by f [] ≡ 0
no_sum f = refl

pub none_tried : (t u : Tree) (m before : ℕ) → Tried t u m [] before before Missed
none_tried t u m before =
    let z = no_sum (through t m) in record { stay = tt; counted = omega (arith, z); results = tt }

-- one fact about a term behind a redex is one about all of them
same_term : (t s x : Tree) (at : List ℕ) → contracted t at ≡ Some s → contracted t at ≡ Some x → s ≡ x
same_term t s x at e f = let g = sym e ∙ f in cc

stays_at : (t s : Tree) (m : ℕ) (at : List ℕ) → contracted t at ≡ Some s → IsWithin s → StaysWithin m s → Stays t m at
stays_at t s m at e w k x f = subst (λ x. IsWithin x × StaysWithin m x) (same_term t s x at e f) (w, k)

misses_at : (t u s : Tree) (m : ℕ) (at : List ℕ) → contracted t at ≡ Some s → (LeadsBy (suc m) s u → ⊥) →
    Misses t u m at
misses_at t u s m at e n x f r = n (subst (λ x. LeadsBy (suc m) x u) (sym (same_term t s x at e f)) r)

count_at : (t s : Tree) (m : ℕ) (ats : List (List ℕ)) (at : List ℕ) (before left after : ℕ) → contracted t at ≡ Some s →
    left + sum_by (through t m) ats ≡ before → after + (1 + reductions m s) ≡ left →
    after + sum_by (through t m) (ats ++ at ∷ []) ≡ before
count_at t s m ats at before left after e c d =
    let p = sum_by_push (through t m) ats at in
    let q : through t m at ≡ 1 + reductions m s = ap (one_and (reductions m)) e in
    omega (arith, c, d, p, q)

pub tried_found : (t u : Tree) (m : ℕ) (ats : List (List ℕ)) (at : List ℕ) (before left after : ℕ) (r : Search) →
    Tried t u m ats before left r → IsSearchedBehind (contracted t at) u m left after Found →
    Tried t u m (ats ++ at ∷ []) before after Found
tried_found t u m ats at before left after r tried b =
    let s = b.term in
    let h = b.searched in
    record {
      stay = each_append (Stays t m) ats (at ∷ []) tried.stay (stays_at t s m at b.is h.0 h.2, tt);
      counted = count_at t s m ats at before left after b.is tried.counted h.3;
      results = (at, s, b.is, h.1);
    }

keeps : (t u s : Tree) (m : ℕ) (ats : List (List ℕ)) (at : List ℕ) (r : Search) → contracted t at ≡ Some s →
    (LeadsBy (suc m) s u → ⊥) → Results t u m ats r → Results t u m (ats ++ at ∷ []) r
keeps t u s m ats at Found e n h = h
keeps t u s m ats at Missed e n h = each_append (Misses t u m) ats (at ∷ []) h (misses_at t u s m at e n, tt)
keeps t u s m ats at Cut e n h = h

pub tried_missed : (t u : Tree) (m : ℕ) (ats : List (List ℕ)) (at : List ℕ) (before left after : ℕ) (r : Search) →
    Tried t u m ats before left r → IsSearchedBehind (contracted t at) u m left after Missed →
    Tried t u m (ats ++ at ∷ []) before after r
tried_missed t u m ats at before left after r tried b =
    let s = b.term in
    let h = b.searched in
    record {
      stay = each_append (Stays t m) ats (at ∷ []) tried.stay (stays_at t s m at b.is h.0 h.2, tt);
      counted = count_at t s m ats at before left after b.is tried.counted h.3;
      results = keeps t u s m ats at r b.is h.1 tried.results;
    }

pub tried_on : (t u : Tree) (m : ℕ) (ats : List (List ℕ)) (at : List ℕ) (before left after : ℕ) (r s : Search) →
    is_cut s ≡ false → Tried t u m ats before left r → IsSearchedBehind (contracted t at) u m left after s →
    Tried t u m (ats ++ at ∷ []) before after (first_found r s)
tried_on t u m ats at before left after Found Found e tried b = tried_found t u m ats at before left after Found tried b
tried_on t u m ats at before left after Missed Found e tried b =
    tried_found t u m ats at before left after Missed tried b
tried_on t u m ats at before left after Found Missed e tried b =
    tried_missed t u m ats at before left after Found tried b
tried_on t u m ats at before left after Missed Missed e tried b =
    tried_missed t u m ats at before left after Missed tried b
tried_on t u m ats at before left after Cut s e tried b = absurd tried.results
tried_on t u m ats at before left after Found Cut e tried b = absurd (clash (sym e))
tried_on t u m ats at before left after Missed Cut e tried b = absurd (clash (sym e))

cut_is : (s : Search) → is_cut s ≡ true → s ≡ Cut
cut_is Found e = absurd (clash e)
cut_is Missed e = absurd (clash e)
cut_is Cut e = refl

-- where the search is cut behind the redex after some that were tried
pub tried_cut : (t u : Tree) (m k : ℕ) (ats : List (List ℕ)) (at : List ℕ) (before left after : ℕ) (r : Search) →
    take (k + 1) (redexes t) ≡ ats ++ at ∷ [] → Tried t u m ats before left r →
    IsSearchedBehind (contracted t at) u m left after Cut → StaysWithin (suc m) t → before < reductions (suc m) t
tried_cut t u m k ats at before left after r front tried b stays =
    let s = b.term in
    let w = stays at s b.is in
    let few = b.searched w.0 w.1 in
    let whole = sum_by-take-le (through t m) (redexes t) (k + 1) in
    let p = ap (sum_by (through t m)) front ∙ sum_by_push (through t m) ats at in
    let q : through t m at ≡ 1 + reductions m s = ap (one_and (reductions m)) b.is in
    let c = tried.counted in
    let total : reductions (suc m) t ≡ sum_by (through t m) (redexes t) = refl in
    omega (arith, few, whole, p, q, c, total)

pub cut_behind : (t u : Tree) (n m k : ℕ) (all : List (List ℕ)) (at : List ℕ) (before left after : ℕ) (r s : Search) →
    n ≡ suc m → all ≡ redexes t → take (k + 1) all ≡ take k all ++ at ∷ [] → is_cut s ≡ true →
    Tried t u m (take k all) before left r → IsSearchedBehind (contracted t at) u m left after s →
    IsSearched t u n before after Cut
cut_behind t u n m k all at before left after r s e f front c tried b =
    let b' = subst (IsSearchedBehind (contracted t at) u m left after) (cut_is s c) b in
    subst (λ n. StaysWithin n t → before < reductions n t) (sym e)
    (tried_cut t u m k (take k all) at before left after r (ap (take (k + 1)) (sym f) ∙ front) tried b')

-- where all were tried
pub tried_all : (t u : Tree) (m before left : ℕ) (r : Search) → Tried t u m (redexes t) before left r →
    IsSearched t u (suc m) before left r
tried_all t u m before left Found tried =
    (tried.results, λ at s e. each_redex (Stays t m) t tried.stay at s e s e, tried.counted)
tried_all t u m before left Missed tried = (
  (λ h. each_redex (Misses t u m) t tried.results h.0 h.1 h.2 h.1 h.2 h.3),
  (λ at s e. each_redex (Stays t m) t tried.stay at s e s e),
  tried.counted,
)
tried_all t u m before left Cut tried = absurd tried.results

pub all_tried : (t u : Tree) (n m k : ℕ) (all : List (List ℕ)) (before left : ℕ) (r : Search) → n ≡ suc m →
    all ≡ redexes t → take k all ≡ all → Tried t u m (take k all) before left r → IsSearched t u n before left r
all_tried t u n m k all before left r e f whole tried =
    subst (λ n. IsSearched t u n before left r) (sym e)
    (tried_all t u m before left r (subst (λ ats. Tried t u m ats before left r) (whole ∙ f) tried))

-- ---- one redex

abbrev Behind : (s u : Tree) (n before after : ℕ) → Search → Type 0
Behind s u n before after r = 0 < before → IsSearched s u n (before - 1) after r → IsWithin s →
    IsSearchedTerm s u n before after r

behind : (s u : Tree) (n before after : ℕ) (r : Search) → Behind s u n before after r
behind s u n before after Found l h w = let c = h.2 in (w, h.0, h.1, omega (arith, l, c))
behind s u n before after Missed l h w = let c = h.2 in (w, h.0, h.1, omega (arith, l, c))
behind s u n before after Cut l h w = λ _ k. let c = h k in omega (arith, l, c)

pub searched_on : (o : Option Tree) (s u : Tree) (n before after : ℕ) (r : Search) → o ≡ Some s → 0 < before →
    IsWithin s → IsSearched s u n (before - 1) after r → IsSearchedBehind o u n before after r
searched_on o s u n before after r e l w h =
    record { term = s; is = e; searched = behind s u n before after r l h w }

some_of : (o : Option Tree) → IsSome o → (s : Tree) × (o ≡ Some s)
some_of None e = absurd (clash e)
some_of (Some s) e = (s, refl)

pub none_left : (o : Option Tree) (u : Tree) (n before after : ℕ) → IsSome o → before ≡ 0 →
    IsSearchedBehind o u n before after Cut
none_left o u n before after some e = let s = some_of o some in
    record { term = s.0; is = s.1; searched = λ w k. omega (arith, e) }

pub past_behind : (t u : Tree) (at : List ℕ) (n before after size deep : ℕ) → IsPastAfter t at size deep →
    IsSearchedBehind (contracted t at) u n before after Cut
past_behind t u at n before after size deep p =
    record { term = p.after; is = p.is; searched = λ w k. absurd (past_within p.after p.past w) }

-- ---- one step

same_left : (t : Tree) (left : ℕ) → left + reductions 0 t ≡ left
same_left t left = let z : reductions 0 t ≡ 0 = refl in omega (arith, z)

pub searched_step : (t u : Tree) (at : List ℕ) (left : ℕ) → IsFirstStep t u at → IsSearched t u 0 left left Found
searched_step t u at left f = ((at, u, f.0, refl), tt, same_left t left)

pub searched_no_step : (t u : Tree) (left : ℕ) → IsNoStep t u → IsSearched t u 0 left left Missed
searched_no_step t u left not_so = ((λ r. not_so r.0 (r.2 ∙ ap (λ (s : Tree). Some s) r.3)), tt, same_left t left)

pub step_made : (t u : Tree) (left : ℕ) (v : Option (Vec ℕ Global)) → is_some v ≡ true → IsStepFound t u (address_of v) →
    IsSearched t u 0 left left Found
step_made t u left None e h = absurd (clash e)
step_made t u left (Some v) e h = searched_step t u (reverse v.items) left h

pub step_missed : (t u : Tree) (left : ℕ) (v : Option (Vec ℕ Global)) → is_some v ≡ false →
    IsStepFound t u (address_of v) → IsSearched t u 0 left left Missed
step_missed t u left None e h = searched_no_step t u left h
step_missed t u left (Some v) e h = absurd (clash (sym e))

pub searched_at : (t u : Tree) (n m before after : ℕ) (r : Search) → n ≡ m → IsSearched t u m before after r →
    IsSearched t u n before after r
searched_at t u n m before after r e h = subst (λ n. IsSearched t u n before after r) (sym e) h

-- ---- fewer steps

one_and_less : (f g : Tree → ℕ) (o : Option Tree) → ((s : Tree) → f s ≤ g s) → one_and f o ≤ one_and g o
one_and_less f g None h = let a : one_and f None ≡ 0 = refl in omega (arith, a)
one_and_less f g (Some s) h =
    let l = h s in
    let a : one_and f (Some s) ≡ 1 + f s = refl in
    let b : one_and g (Some s) ≡ 1 + g s = refl in
    omega (arith, l, a, b)

sum_less : (f g : List ℕ → ℕ) (xs : List (List ℕ)) → ((x : List ℕ) → f x ≤ g x) → sum_by f xs ≤ sum_by g xs
sum_less f g [] h = let z = no_sum f in omega (arith, z)
sum_less f g (x ∷ xs) h =
    let l = h x in
    let k = sum_less f g xs h in
    let a = sum_by-cons f x xs in
    let b = sum_by-cons g x xs in
    omega (arith, l, k, a, b)

fewer : (n m : ℕ) (t : Tree) → n ≤ m → reductions n t ≤ reductions m t
fewer zero m t l = let z : reductions zero t ≡ 0 = refl in omega (arith, z)
fewer (suc n) zero t l = absurd (omega arith)
fewer (suc n) (suc m) t l = sum_less (through t n) (through t m) (redexes t)
    (λ at. one_and_less (reductions n) (reductions m) (contracted t at) (λ s. fewer n m s (omega (arith, l))))

stays_less : (n m : ℕ) (t : Tree) → n ≤ m → StaysWithin m t → StaysWithin n t
stays_less zero m t l h = tt
stays_less (suc n) zero t l h = absurd (omega arith)
stays_less (suc n) (suc m) t l h = λ at s e. let p = h at s e in (p.0, stays_less n m s (omega (arith, l)) p.1)

seen_less : (n k : ℕ) (t : Tree) → n < k → IsSeen k t → IsSeen (suc n) t
seen_less n zero t l h = absurd (omega arith)
seen_less n (suc m) t l h =
    let q : n ≤ m = omega (arith, l) in
    let f = fewer n m t q in
    let g = h.0 in
    (omega (arith, f, g), stays_less n m t q h.1)

-- ---- the least number of steps

-- no reduction of at most n steps leads from t to u
abbrev pub NoneUpTo : ℕ → (t u : Tree) → Type 0
NoneUpTo n t u = (j : ℕ) → j ≤ n → LeadsBy j t u → ⊥

pub none_of_one : (t u : Tree) → IsNoStep t u → t ≢ u → NoneUpTo 1 t u
none_of_one t u not_so different zero l r = different r
none_of_one t u not_so different (suc zero) l r = not_so r.0 (r.2 ∙ ap (λ (s : Tree). Some s) r.3)
none_of_one t u not_so different (suc (suc j)) l r = absurd (omega arith)

one_more : (t u : Tree) (n j : ℕ) → NoneUpTo n t u → (LeadsBy (suc n) t u → ⊥) → j ≤ suc n → (j ≤ n) ⊎ (j ≡ suc n) →
    LeadsBy j t u → ⊥
one_more t u n j none not_so l (inl k) r = none j k r
one_more t u n j none not_so l (inr e) r = not_so (subst (λ j. LeadsBy j t u) e r)

less_or : (j n : ℕ) → j ≤ suc n → (j ≤ n) ⊎ (j ≡ suc n)
less_or zero n l = inl (omega arith)
less_or (suc j) zero l = inr (omega (arith, l))
less_or (suc j) (suc n) l = up (less_or j n (omega (arith, l)))
  where
    up : (j ≤ n) ⊎ (j ≡ suc n) → (suc j ≤ suc n) ⊎ (suc j ≡ suc (suc n))
    up (inl k) = inl (omega (arith, k))
    up (inr e) = inr (ap suc e)

pub none_on : (t u : Tree) (n : ℕ) → NoneUpTo n t u → (LeadsBy (suc n) t u → ⊥) → NoneUpTo (suc n) t u
none_on t u n none not_so j l r = one_more t u n j none not_so l (less_or j n l) r

-- a number above n
above : (t u : Tree) (n j : ℕ) → NoneUpTo n t u → (j ≤ n) ⊎ (suc n ≤ j) → LeadsBy j t u → suc n ≤ j
above t u n j none (inl l) r = absurd (none j l r)
above t u n j none (inr l) r = l

up_to_or : (j n : ℕ) → (j ≤ n) ⊎ (suc n ≤ j)
up_to_or zero n = inl (omega arith)
up_to_or (suc j) zero = inr (omega arith)
up_to_or (suc j) (suc n) = up (up_to_or j n)
  where
    up : (j ≤ n) ⊎ (suc n ≤ j) → (suc j ≤ suc n) ⊎ (suc (suc n) ≤ suc j)
    up (inl k) = inl (omega (arith, k))
    up (inr k) = inr (omega (arith, k))

are_steps : (t u : Tree) (n : ℕ) → 1 ≤ n → n < most_told_steps → NoneUpTo n t u → LeadsBy (suc n) t u → IsSeen (suc n) t →
    AreSteps t u (suc n)
are_steps t u n l m none r seen = record {
  several = omega (arith, l);
  few = omega (arith, m);
  reduction = r;
  shortest = λ j k. above t u n j none (up_to_or j n) k;
  seen = seen;
}

pub steps_found : (t u : Tree) (n k after : ℕ) → k ≡ suc n → 1 ≤ n → n < most_told_steps → NoneUpTo n t u →
    IsSearched t u n most_reductions after Found → AreSteps t u k
steps_found t u n k after e l m none h =
    let c = h.2 in
    subst (AreSteps t u) (sym e) (are_steps t u n l m none h.0 (omega (arith, c), h.1))

pub steps_cut : (t u : Tree) (n after : ℕ) → NoneUpTo n t u → IsSearched t u n most_reductions after Cut →
    AreNoSteps t u
steps_cut t u n after none cut k are =
    let seen = seen_less n k t (above t u n k none (up_to_or k n) are.reduction) are.seen in
    let few = seen.0 in
    let many = cut seen.1 in
    omega (arith, few, many)

pub none_in_all : (t u : Tree) (n : ℕ) → most_told_steps ≤ n → NoneUpTo n t u → AreNoSteps t u
none_in_all t u n l none k are = let few = are.few in none k (omega (arith, l, few)) are.reduction

-- ---- none is missed

next : (t u : Tree) (n : ℕ) → 1 ≤ n → n < most_told_steps → IsSeen most_told_steps t → AreNoSteps t u → NoneUpTo n t u →
    NoneUpTo (suc n) t u
next t u n l m seen not_so none = none_on t u n none
    (λ r. not_so (suc n) (are_steps t u n l m none r (seen_less n most_told_steps t m seen)))

pub none_missed : (t u : Tree) → IsSeen most_told_steps t → IsNoStep t u → t ≢ u → AreNoSteps t u → NoneUpTo most_told_steps t u
none_missed t u seen not_so different none =
    let five : most_told_steps ≡ 5 = refl in
    let on = λ (n : ℕ) (l : 1 ≤ n) (m : n < most_told_steps) (h : NoneUpTo n t u). next t u n l m seen none h in
    on 4 (omega arith) (omega (arith, five)) (on 3 (omega arith) (omega (arith, five))
    (on 2 (omega arith) (omega (arith, five)) (on 1 (omega arith) (omega (arith, five))
    (none_of_one t u not_so different))))
