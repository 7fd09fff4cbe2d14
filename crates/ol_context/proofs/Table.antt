-- The table gives what the changes say.
use Rattle.std.proofs.Common.{◌≡◌, ℕ, zero, suc, ◌<◌, Option, Some, None, refl, sym, ap, ◌∙◌, subst, arith}
use Rattle.ol_net.specs.declared.parts.Kind.{Kind}
use Rattle.ol_net.specs.declared.parts.Kind.TheVariants as kind
use Rattle.ol_net.specs.Parts.{arity}
use Rattle.ol_context.specs.Contexts.{Level, empty, o, star, pair, Context, cons, tail, mark, change, up}
use Rattle.ol_context.specs.Paths.{Crosses, outward}
use Rattle.ol_context.specs.Table.{unmark, unput, unpack, unchange, behind_level, down}
use Rattle.ol_context.specs.Laws.{CrossingByTable}
use Rattle.ol_context.proofs.Contexts.{eta, cons_eq, cons_eta}

-- what comes back from a change
mark_back : (s : ℕ) (d : Context) → s < 2 → unmark (mark s d 0) (tail (mark s d)) ≡ Some (suc s, d)
mark_back zero d b = ap (λ d. Some (1, d)) (eta d)
mark_back (suc zero) d b = ap (λ d. Some (2, d)) (eta d)
mark_back (suc (suc s)) d b = absurd (omega arith)

slot_0 : (s : ℕ) (d : Context) → s < 1 → ◌≡◌ {A = Option (ℕ × Context)} (Some (1, d)) (Some (suc s, d))
slot_0 zero d b = refl
slot_0 (suc s) d b = absurd (omega arith)

change_back : (k : Kind) (s : ℕ) (d : Context) → s < arity k → unchange k (change k s d) ≡ Some (suc s, d)
change_back kind.Lam s d b = mark_back s d b
change_back kind.App s d b = mark_back s d b
change_back kind.Fan s d b = mark_back s d b
change_back kind.Croissant s d b = slot_0 s d b
change_back kind.Bracket s d b = ap (λ d. Some (1, d))
    (cons_eq (d 0) (d 0) (cons (d 1) (tail (tail d))) (tail d) refl (eta (tail d)) ∙ eta d) ∙ slot_0 s d b
change_back kind.Eraser s d b = absurd (omega arith)

up_back : (k : Kind) (i s : ℕ) (d : Context) → s < arity k → down k i (up k i s d) ≡ Some (suc s, d)
up_back k zero s d b = change_back k s d b
up_back k (suc i) s d b = ap (behind_level (d 0)) (up_back k i s (tail d) b) ∙ ap (λ d. Some (suc s, d)) (eta d)

-- what the table gives changes into the context
abbrev Into : Kind → ℕ → Context → Option (ℕ × Context) → Type 0
Into k i c None = Unit {0}
Into k i c (Some r) = (s : ℕ) × (r.0 ≡ suc s) × (s < arity k) × (up k i s r.1 ≡ c)

unmark_into : (v : Level) (c : Context) → Into kind.Lam 0 (cons v c) (unmark v c)
unmark_into (o v) c = (0, refl, omega arith, refl)
unmark_into (star v) c = (1, refl, omega arith, refl)
unmark_into empty c = tt
unmark_into (pair v w) c = tt

unput_into : (v : Level) (c : Context) → Into kind.Croissant 0 (cons v c) (unput v c)
unput_into empty c = (0, refl, omega arith, refl)
unput_into (o v) c = tt
unput_into (star v) c = tt
unput_into (pair v w) c = tt

unpack_into : (v : Level) (c : Context) → Into kind.Bracket 0 (cons v c) (unpack v c)
unpack_into (pair v w) c = (0, refl, omega arith, refl)
unpack_into (o v) c = tt
unpack_into (star v) c = tt
unpack_into empty c = tt

as_app : (c : Context) (r : Option (ℕ × Context)) → Into kind.Lam 0 c r → Into kind.App 0 c r
as_app c None h = tt
as_app c (Some r) h = h

as_fan : (c : Context) (r : Option (ℕ × Context)) → Into kind.Lam 0 c r → Into kind.Fan 0 c r
as_fan c None h = tt
as_fan c (Some r) h = h

into_0 : (k : Kind) (c : Context) → Into k 0 c (unchange k c)
into_0 kind.Lam c = subst (λ d. Into kind.Lam 0 d (unmark (c 0) (tail c))) (eta c) (unmark_into (c 0) (tail c))
into_0 kind.App c = as_app c (unmark (c 0) (tail c))
    (subst (λ d. Into kind.Lam 0 d (unmark (c 0) (tail c))) (eta c) (unmark_into (c 0) (tail c)))
into_0 kind.Fan c = as_fan c (unmark (c 0) (tail c))
    (subst (λ d. Into kind.Lam 0 d (unmark (c 0) (tail c))) (eta c) (unmark_into (c 0) (tail c)))
into_0 kind.Croissant c = subst (λ d. Into kind.Croissant 0 d (unput (c 0) (tail c))) (eta c)
    (unput_into (c 0) (tail c))
into_0 kind.Bracket c = subst (λ d. Into kind.Bracket 0 d (unpack (c 0) (tail c))) (eta c) (unpack_into (c 0) (tail c))
into_0 kind.Eraser c = tt

into : (k : Kind) (i : ℕ) (c : Context) → Into k i c (down k i c)
into k zero c = into_0 k c
into k (suc i) c = go (down k i (tail c)) (into k i (tail c))
  where
    go : (r : Option (ℕ × Context)) → Into k i (tail c) r → Into k (suc i) c (behind_level (c 0) r)
    go None h = tt
    go (Some r) h = (h.0, h.1, h.2, cons_eta (c 0) (up k i h.0 r.1) c refl h.3)

table_gives : (k : Kind) (i t : ℕ) (c d : Context) → Crosses k i 0 c t d → down k i c ≡ Some (t, d)
table_gives k i t c d (outward {s = s} b e) = ap (down k i) (sym e) ∙ up_back k i s d b

crosses_by : (k : Kind) (i t s : ℕ) (c d : Context) → t ≡ suc s → s < arity k → up k i s d ≡ c → Crosses k i 0 c t d
crosses_by k i t s c d e b u = subst (λ t. Crosses k i 0 c t d) (sym e) (outward b u)

-- The table from slot 0: exactly where a change gives the context.
pub by_table : CrossingByTable
by_table k i t c d = (
  table_gives k i t c d,
  λ e. let r = subst (Into k i c) e (into k i c) in
      crosses_by k i t r.0 c d r.1 r.2 r.3,
)
