-- Lines of the table of rules that would lose a path, and the indexes of copies.
use Rattle.std.proofs.Common.{◌≡◌, ℕ, zero, suc, ◌+◌, ◌<◌, [], inl, inr, refl, sym, ap, ◌∙◌, subst, arith}
use Rattle.ol_context.specs.Contexts.{Level, empty, pair, Context, levels, cons, tail, at_level, marked, mark, up}
use Rattle.ol_context.specs.Paths.{Crosses, inward, outward, Path, ends, goes}
use Rattle.ol_net.specs.Nets.{NamedPort, free, slot, HasNode, Linked}
use Rattle.ol_net.specs.Parts.{arity}
use Rattle.ol_net.specs.declared.parts.Kind.{Kind}
use Rattle.ol_net.specs.declared.parts.Kind.TheVariants as kind
use Rattle.ol_net.specs.declared.parts.Rule.TheVariants as rule
use Rattle.ol_rules.specs.Rewriting.{index_after}
use Rattle.ol_invariance.specs.Tables.{IndexesAgree, two_facing, turned_joins, TurnedJoinsLoseAPath}
use Rattle.ol_invariance.specs.Tables.{facing_fan, past_fan, IsOnlyIndexPast}
use Rattle.ol_context.proofs.LeafMoves.{marked_empty}

pub indexes_agree : IndexesAgree
indexes_agree kind.Fan r i n e = let q : rule.CrossFan ≡ r = cc in
    subst (λ r. index_after r (i + suc n) ≡ i + suc n) q refl
indexes_agree kind.Croissant r i n e = let q : rule.CrossCroissant ≡ r = cc in
    subst (λ r. index_after r (i + suc n) ≡ i + n) q (omega arith)
indexes_agree kind.Bracket r i n e = let q : rule.CrossBracket ≡ r = cc in
    subst (λ r. index_after r (i + suc n) ≡ i + suc (suc n)) q (omega arith)
indexes_agree kind.Lam r i n e = absurd (cc)
indexes_agree kind.App r i n e = absurd (cc)
indexes_agree kind.Eraser r i n e = absurd (cc)

left_of : {p q s t : NamedPort ℕ} → ◌≡◌ {A = NamedPort ℕ × NamedPort ℕ} (p, q) (s, t) → p ≡ s
left_of e = ap (λ (x : NamedPort ℕ × NamedPort ℕ). x.0) e

right_of : {p q s t : NamedPort ℕ} → ◌≡◌ {A = NamedPort ℕ × NamedPort ℕ} (p, q) (s, t) → q ≡ t
right_of e = ap (λ (x : NamedPort ℕ × NamedPort ℕ). x.1) e

-- ports of different sorts or numbers
not_slot : {k x s : ℕ} → ◌≡◌ {A = NamedPort ℕ} (free k) (slot x s) → ⊥
not_slot e = absurd (cc)

-- from free port 0 to free port 2, by the slots 1 of the two
straight : (k l : Kind) → 0 < arity k → 0 < arity l → (c : Context) → up l 0 0 c ≡ up k 0 0 c →
    Path (two_facing k l) (free 0) c 2 c
straight k l a b c same =
    goes {d = up k 0 0 c} {x = 0} {k = k} {i = 0} {s = 1} {t = 0} (inl (inr (inl refl))) (inl refl) (inward a refl)
    (goes {d = c} {x = 1} {k = l} {i = 0} {s = 0} {t = 1} (inl (inl refl)) (inr (inl refl)) (outward b same)
    (ends (inr (inr (inr (inr (inl refl)))))))

turned_from_0 : (u : NamedPort ℕ) → Linked turned_joins (free 0) u → u ≡ free 3
turned_from_0 u (inl (inl e)) = right_of e
turned_from_0 u (inl (inr (inl e))) = let f : free 0 ≡ free 1 = left_of e in absurd (cc)
turned_from_0 u (inl (inr (inr b))) = absurd b
turned_from_0 u (inr (inl e)) = let f : free 0 ≡ free 3 = right_of e in absurd (cc)
turned_from_0 u (inr (inr (inl e))) = let f : free 0 ≡ free 2 = right_of e in absurd (cc)
turned_from_0 u (inr (inr (inr b))) = absurd b

none_turned : {c d : Context} → Path turned_joins (free 0) c 2 d → ⊥
none_turned (ends l) = let f : free 2 ≡ free 3 = turned_from_0 (free 2) l in absurd (cc)
none_turned (goes l h x r) = absurd h

pub turned_fans : TurnedJoinsLoseAPath kind.Fan kind.Fan
turned_fans same = none_turned ((same 0 (levels []) 2 (levels [])).0
    (straight kind.Fan kind.Fan (omega arith) (omega arith) (levels []) refl))

pub turned_beta : TurnedJoinsLoseAPath kind.App kind.Lam
turned_beta same = none_turned ((same 0 (levels []) 2 (levels [])).0
    (straight kind.App kind.Lam (omega arith) (omega arith) (levels []) refl))

-- from free port 0 to the fan's free port 1
by_the_fan : (k : Kind) → 0 < arity k → (c d : Context) → up kind.Fan 1 0 d ≡ up k 0 0 c →
    Path (facing_fan k) (free 0) c 1 d
by_the_fan k a c d same =
    goes {d = up k 0 0 c} {x = 0} {k = k} {i = 0} {s = 1} {t = 0} (inl (inr (inl refl))) (inl refl) (inward a refl)
    (goes {d = d} {x = 1} {k = kind.Fan} {i = 1} {s = 0} {t = 1} (inl (inl refl)) (inr (inl refl))
    (outward (omega arith) same)
    (ends (inr (inr (inr (inl refl))))))

past_from_0 : (k : Kind) (n : ℕ) (u : NamedPort ℕ) → Linked (past_fan k n) (free 0) u → u ≡ slot 2 0
past_from_0 k n u (inl (inl e)) = right_of e
past_from_0 k n u (inl (inr (inl e))) = let f : free 0 ≡ free 1 = left_of e in absurd (cc)
past_from_0 k n u (inl (inr (inr (inl e)))) = let f : free 0 ≡ free 2 = left_of e in absurd (cc)
past_from_0 k n u (inl (inr (inr (inr (inl e))))) = absurd (not_slot (left_of e))
past_from_0 k n u (inl (inr (inr (inr (inr (inl e)))))) = absurd (not_slot (left_of e))
past_from_0 k n u (inl (inr (inr (inr (inr (inr b)))))) = absurd b
past_from_0 k n u (inr (inl e)) = absurd (not_slot (right_of e))
past_from_0 k n u (inr (inr (inl e))) = absurd (not_slot (right_of e))
past_from_0 k n u (inr (inr (inr (inl e)))) = absurd (not_slot (right_of e))
past_from_0 k n u (inr (inr (inr (inr (inl e))))) = absurd (not_slot (right_of e))
past_from_0 k n u (inr (inr (inr (inr (inr (inl e)))))) = absurd (not_slot (right_of e))
past_from_0 k n u (inr (inr (inr (inr (inr (inr b)))))) = absurd b

-- node 2 is the fan
is_fan : (k l : Kind) (n i : ℕ) → HasNode (past_fan k n) 2 l i → (l ≡ kind.Fan) × (i ≡ n)
is_fan k l n i (inl e) = let f : ◌≡◌ {A = ℕ} 2 0 = ap (λ (x : ℕ × Kind × ℕ). x.0) e in absurd (omega arith)
is_fan k l n i (inr (inl e)) = let f : ◌≡◌ {A = ℕ} 2 1 = ap (λ (x : ℕ × Kind × ℕ). x.0) e in absurd (omega arith)
is_fan k l n i (inr (inr (inl e))) = (ap (λ (x : ℕ × Kind × ℕ). x.1) e, ap (λ (x : ℕ × Kind × ℕ). x.2) e)
is_fan k l n i (inr (inr (inr b))) = absurd b

-- from slot 0 a context is what some change gives
is_change : {k : Kind} {i s t : ℕ} {c d : Context} → s ≡ 0 → Crosses k i s c t d → (a : ℕ) × (up k i a d ≡ c)
is_change e (inward {s = s} b f) = absurd (omega arith)
is_change e (outward {s = s} b f) = (s, f)

-- a mark stands at its level
pub at_its_level : (n s : ℕ) (d : Context) → at_level n (mark s) d n ≡ marked s (d n)
at_its_level zero s d = refl
at_its_level (suc n) s d = at_its_level n s (tail d)

-- the level of the fan's index has a mark
abbrev Marked : Context → ℕ → Type 0
Marked c n = (s : ℕ) × (v : Level) × (marked s v ≡ c n)

marked_past : (k : Kind) (n : ℕ) {c d : Context} {q : ℕ} → Path (past_fan k n) (free 0) c (suc q) d → Marked c n
marked_past k n {q = q} (ends l) = absurd (not_slot (past_from_0 k n (free (suc q)) l))
marked_past k n {c = c} (goes {d = d} {x = x} {k = l} {i = i} {s = s} {t = t} l' h y r) =
    let at : slot x s ≡ slot 2 0 = past_from_0 k n (slot x s) l' in
    let node : x ≡ 2 = cc in
    let entry : s ≡ 0 = cc in
    let fan = is_fan k l n i (subst (λ x. HasNode (past_fan k n) x l i) node h) in
    let from = is_change entry y in
    let changed : up kind.Fan n from.0 d ≡ c = subst (λ i. up kind.Fan i from.0 d ≡ c) fan.1
    (subst (λ l. up l i from.0 d ≡ c) fan.0 from.1) in
    (from.0, d n, sym (at_its_level n from.0 d) ∙ ap (λ (e : Context). e n) changed)

bare : (c : Context) (n : ℕ) → c n ≡ empty → Marked c n → ⊥
bare c n e m = marked_empty m.0 m.1 (m.2 ∙ e)

-- an o at level 0
pub past_croissant : IsOnlyIndexPast kind.Croissant 0
past_croissant n same = found n (marked_past kind.Croissant n
    ((same 0 c 1 (cons empty (levels []))).0 (by_the_fan kind.Croissant (omega arith) c (cons empty (levels [])) refl)))
  where
    c : Context
    c = mark 0 (levels [])

    found : (n : ℕ) → Marked c n → n ≡ 0
    found zero m = refl
    found (suc n) m = absurd (bare c (suc n) refl m)

-- an o at level 2
pub past_bracket : IsOnlyIndexPast kind.Bracket 2
past_bracket n same = found n (marked_past kind.Bracket n
    ((same 0 c 1 d).0 (by_the_fan kind.Bracket (omega arith) c d refl)))
  where
    c : Context
    c = cons empty (cons empty (mark 0 (levels [])))

    d : Context
    d = cons (pair empty empty) (levels [])

    found : (n : ℕ) → Marked c n → n ≡ 2
    found zero m = absurd (bare c 0 refl m)
    found (suc zero) m = absurd (bare c 1 refl m)
    found (suc (suc zero)) m = refl
    found (suc (suc (suc n))) m = absurd (bare c (suc (suc (suc n))) refl m)
