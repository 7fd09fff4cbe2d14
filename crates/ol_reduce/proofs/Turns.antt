-- What one turn leaves, by its answer, and what one turn more leaves.
use Rattle.std.proofs.Common.{◌≡◌, ◌≢◌, ℕ, suc, ◌+◌, ◌≤◌, List, [], ◌∷◌, ◌++◌, true, false, refl, sym, ap, ◌∙◌, subst}
use Rattle.std.proofs.Common.{arith, nat_eq, eq-eqb, ne_eqb, ◌&&◌, if◌then◌else◌, inl, inr}
use Rattle.std.proofs.lemmas.Bool.{cases_eq, cases_lt}
use Rattle.std.proofs.lemmas.List.{append_assoc, append-nil}
use Rattle.ol_net.specs.declared.parts.Rule.{Rule}
use Rattle.ol_wire.specs.declared.layout.Parts.{Parts}
use Rattle.ol_wire.specs.declared.view.View.{View}
use Rattle.ol_wire.specs.declared.turn.Turn.{Turn}
use Rattle.ol_wire.specs.declared.turn.Turn.TheVariants.{Rewrote, Gone, Stuck, Spent}
use Rattle.ol_wire.specs.Hands.{IsStuckLast}
use Rattle.ol_wire.specs.Layout.{cells_of}
use Rattle.ol_wire.specs.Plays.{swept_on}
use Rattle.ol_wire.specs.Turns.{FoundActive, IsRewrote, HasCause, Leaves}
use Rattle.ol_reduce.specs.Turned.{cells_below, IsTurn, HasTurned, TurnsTell}

-- the view after a turn shows the cause of the answer
pub cause_of : (t : Turn) (n : View) → (t ≡ Gone → n.last.0 ≡ 0) →
    (t ≡ Stuck → (n.last.0 ≢ 0) × IsStuckLast n) → (t ≡ Spent → FoundActive n × (n.over ≡ true))
    → (IsRewrote t → FoundActive n × (n.over ≡ false)) → HasCause t n
cause_of Gone n gone stuck spent rewrote = gone refl
cause_of Stuck n gone stuck spent rewrote = stuck refl
cause_of Spent n gone stuck spent rewrote = spent refl
cause_of (Rewrote t r b m) n gone stuck spent rewrote = rewrote tt

swept_by : (z : Parts) (v : View) (c : ℕ) (t : Turn) (n : View) → Leaves z v c t n → t ≢ Spent → n.swept ≡ swept_on v c
swept_by z v c Gone n l d = ap (λ (u : View). u.swept) l
swept_by z v c Stuck n l d = ap (λ (u : View). u.swept) l
swept_by z v c Spent n l d = absurd (d refl)
swept_by z v c (Rewrote t r b m) n l d = ap (λ (u : View). u.swept) l.view

claimed_by : (z : Parts) (v : View) (c : ℕ) (t : Turn) (n : View) → Leaves z v c t n → n.claimed ≡ v.claimed ++ c ∷ []
claimed_by z v c Gone n l = ap (λ (u : View). u.claimed) l
claimed_by z v c Stuck n l = ap (λ (u : View). u.claimed) l
claimed_by z v c Spent n l = ap (λ (u : View). u.claimed) l
claimed_by z v c (Rewrote t r b m) n l = ap (λ (u : View). u.claimed) l.view

-- one turn more
pub turned_more : (z : Parts) (v : View) (cells : List ℕ) (m n : View) (c : ℕ) (t : Turn) →
    HasTurned z v cells m → IsTurn z m c t n → t ≢ Spent → HasTurned z v (cells ++ c ∷ []) n
turned_more z v [] m n c t same turn not_spent = (
  n,
  t,
  subst (λ (u : View). IsTurn z u c t n) same turn,
  not_spent,
  refl,
)
turned_more z v (a ∷ cells) m n c t (u, s, first, not_first, rest) turn not_spent = (
  u,
  s,
  first,
  not_first,
  turned_more z u cells m n c t rest turn not_spent,
)

pub turns_tell : TurnsTell
turns_tell z v n [] same = ap (λ (u : View). u.claimed) same ∙ sym (append-nil v.claimed)
turns_tell z v n (c ∷ cells) (m, t, turn, not_spent, rest) = turns_tell z m n cells rest
    ∙ ap (λ xs. xs ++ cells) (claimed_by z v c t m turn.leaves) ∙ append_assoc v.claimed (c ∷ []) cells

-- a sweep that began with s swept has swept x before cell c
abbrev pub IsSweptTo : ℕ → ℕ → ℕ → Type 0
IsSweptTo s c x = (s ≤ c → x ≡ c) × (c ≤ s → x ≡ s)

swept_more : (s c x h all : ℕ) → h ≡ all → IsSweptTo s c x →
    IsSweptTo s (suc c) (if nat_eq h all && nat_eq c x then suc x else x)
swept_more s c x h all e to = elim (cases_eq c x) [
  | inl f ↦
      let q : (if nat_eq h all && nat_eq c x then suc x else x) ≡ suc x = ap
      (λ b. if b && nat_eq c x then suc x else x) (eq-eqb h all e)
      ∙ ap (λ b. if b then suc x else x) (eq-eqb c x f) in (
        λ le. omega (arith, q, f),
        λ le. absurd (omega (arith, le, f, to.1 (omega (arith, le)))),
      )
  | inr f ↦
      let q : (if nat_eq h all && nat_eq c x then suc x else x) ≡ x = ap
      (λ b. if b && nat_eq c x then suc x else x) (eq-eqb h all e)
      ∙ ap (λ b. if b then suc x else x) (ne_eqb c x f) in
      elim (cases_lt c s) [
        | inl lt ↦ (λ le. omega (arith, q, le, lt, to.1 (omega (arith, lt))), λ le. q ∙ to.1 (omega (arith, lt)))
        | inr ge ↦ (
          λ le. absurd (f (sym (to.0 (omega (arith, ge))))),
          λ le. absurd (f (sym (to.0 (omega (arith, ge))))),
        )
      ]
]

-- a sweep that began at v and made its turns on the cells below c
pub record IsAt (z : Parts) (v : View) (c : ℕ) (n : View) : Type 0 where
  pub turned : HasTurned z v (cells_below c) n
  pub swept : IsSweptTo v.swept c n.swept

pub at_first : (z : Parts) (v : View) → IsAt z v 0 v
at_first z v = record { turned = refl; swept = (λ le. omega (arith, le), λ le. refl) }

pub at_next : (z : Parts) (v : View) (c d : ℕ) (m n : View) (t : Turn) → d ≡ c + 1 →
    m.holds ≡ m.seats → IsAt z v c m → IsTurn z m c t n → t ≢ Spent → IsAt z v d n
at_next z v c d m n t e all at turn not_spent =
    let swept : n.swept ≡ swept_on m c = swept_by z m c t n turn.leaves not_spent in
    let more : IsSweptTo v.swept (suc c) n.swept = subst (λ x. IsSweptTo v.swept (suc c) x)
    (sym swept) (swept_more v.swept c m.swept m.holds m.seats all at.swept) in
    let up : suc c ≡ d = omega (arith, e) in
    let here : IsAt z v (suc c) n = record {
      turned = turned_more z v
          (cells_below c) m n c t at.turned turn not_spent;
      swept = more;
    } in
    subst (λ k. IsAt z v k n) up here

-- the four cells of a ticket are cells
pub born_within : (z : Parts) (v : View) (c t : ℕ) (r : Rule) (b m : ℕ) (n : View) →
    Leaves z v c (Rewrote t r b m) n → b + 4 ≤ cells_of z
born_within z v c t r b m n l = omega (arith, l.first, l.ticket)
